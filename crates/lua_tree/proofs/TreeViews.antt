-- The views of lists, and what is left of them at their ends.
use Rattle.std.specs.Prelude.{◌≡◌, List, [], ◌∷◌, ◌++◌, refl, ℕ}
use Rattle.std.proofs.Common.{ap, sym, ◌∙◌, append-nil, drop, take, length, ◌≤◌, ◌<◌, ◌-◌, get_or, arith}
use Rattle.std.proofs.lemmas.List.{drop_all, take_rest}
use Rattle.lua_tree.specs.Syntax.{statement, no_expressions, expression}
use Rattle.lua_tree.specs.View.{view_block, view_statements, view_statement, view_arms, view_arm_row, view_arm, view_exp, view_exps, view_exp_row, view_kind, view_items, view_item_row, view_item}
use Rattle.lua_tree.specs.Spelling.{Kinds, spell_values, spell_expressions}
use Rattle.lua_tree.specs.TreeLists.{unplaced, kinds_of, statements_of, branches_of, expressions_of, fields_of}
use Rattle.lua_tree.specs.declared.token.Token.{Token}
use Rattle.lua_tree.specs.declared.token.TokenKind.{TokenKind}
use Rattle.lua_tree.specs.declared.tree.Exp.{Exp}
use Rattle.lua_tree.specs.declared.tree.Block.{Block, Block', Row_of-Stat, end_of-Stat, more_of-Stat, out-Block, items-the_row-Stat, items_shown-the_row-Stat-1}
use Rattle.lua_tree.specs.declared.tree.Arms.{Arms, Arms', Row_of-Arm, end_of-Arm, more_of-Arm, out-Arms, items-the_row-Arm, items_shown-the_row-Arm-0}
use Rattle.lua_tree.specs.declared.tree.Exps.{Exps, Exps', Row_of-Exp, end_of-Exp, more_of-Exp, out-Exps, items-the_row-Exp, items_shown-the_row-Exp-2}
use Rattle.lua_tree.specs.declared.tree.Items.{Items, Items', Row_of-Item, end_of-Item, more_of-Item, out-Items, items-the_row-Item, items_shown-the_row-Item-3}

pub kinds_append : (a b : List Token) → kinds_of (a ++ b) ≡ kinds_of a ++ kinds_of b
kinds_append [] b = refl
kinds_append (t ∷ a) b = ap (λ r. t.kind ∷ r) (kinds_append a b)

pub unplaced_append : (a b : Kinds) → unplaced (a ++ b) ≡ unplaced a ++ unplaced b
unplaced_append [] b = refl
unplaced_append (k ∷ a) b = ap (λ r. record { kind = k; at = 0; line = 0 } ∷ r) (unplaced_append a b)

statements_row : (m : _) (row : Row_of-Stat m) → view_statements row ≡ statements_of (items-the_row-Stat m row)
statements_row m end_of-Stat = refl
statements_row m (more_of-Stat l s k rest) = ap (statement l s (view_statement k)) (statements_row _ rest)

pub view_block_items : (b : Block) → view_block b ≡ statements_of (out-Block b).stats.items
unfolding out-Block denote.Hole.Carrier.out Rattle.lua_tree.specs.declared.tree.Args.TheBlock.shown-the_row-Stat-1
view_block_items (Block' m row) = statements_row _ row ∙ ap statements_of (sym (items_shown-the_row-Stat-1 m row))

branches_row : (m : _) (row : Row_of-Arm m) → view_arm_row row ≡ branches_of (items-the_row-Arm m row)
branches_row m end_of-Arm = refl
branches_row m (more_of-Arm a rest) = ap (view_arm a) (branches_row _ rest)

pub view_arms_items : (a : Arms) → view_arms a ≡ branches_of (out-Arms a).arms.items
unfolding out-Arms denote.Hole.Carrier.out Rattle.lua_tree.specs.declared.tree.Args.TheBlock.shown-the_row-Arm-0
view_arms_items (Arms' m row) = branches_row _ row ∙ ap branches_of (sym (items_shown-the_row-Arm-0 m row))

expressions_row : (m : _) (row : Row_of-Exp m) → view_exp_row row ≡ expressions_of (items-the_row-Exp m row)
expressions_row m end_of-Exp = refl
expressions_row m (more_of-Exp l k rest) = ap (expression (view_kind k l)) (expressions_row _ rest)

pub view_exps_items : (e : Exps) → view_exps e ≡ expressions_of (out-Exps e).exps.items
unfolding out-Exps denote.Hole.Carrier.out Rattle.lua_tree.specs.declared.tree.Args.TheBlock.shown-the_row-Exp-2
view_exps_items (Exps' m row) = expressions_row _ row ∙ ap expressions_of (sym (items_shown-the_row-Exp-2 m row))

fields_row : (m : _) (row : Row_of-Item m) → view_item_row row ≡ fields_of (items-the_row-Item m row)
fields_row m end_of-Item = refl
fields_row m (more_of-Item k s rest) = ap (view_item k s) (fields_row _ rest)

pub view_items_items : (i : Items) → view_items i ≡ fields_of (out-Items i).items.items
unfolding out-Items denote.Hole.Carrier.out Rattle.lua_tree.specs.declared.tree.Args.TheBlock.shown-the_row-Item-3
view_items_items (Items' m row) = fields_row _ row ∙ ap fields_of (sym (items_shown-the_row-Item-3 m row))

-- at the end of a loop over a list nothing is left
pub loop_end : {A : Type 0} (out old whole : Kinds) (rest : List A → Kinds) (items : List A) (i : ℕ) → length items ≤ i → rest [] ≡ [] → out ++ rest (drop i items) ≡ old ++ whole → out ≡ old ++ whole
loop_end out old whole rest items i le nil inv = sym (append-nil out) ∙ ap (λ r. out ++ r) (sym (ap rest (drop_all i items le) ∙ nil)) ∙ inv

-- a list by its first item and the others, which a slice pattern takes
first_and_others : {A : Type 0} (items : List A) (first : A) → 1 ≤ length items → first ≡ get_or items 0 first → items ≡ first ∷ take (length items - 1) (drop 1 items)
first_and_others [] first some is = absurd (omega (arith, some))
first_and_others (x ∷ items) first some is = rw (take_rest (x ∷ items) 1) (ap (λ y. y ∷ items) (sym is))

no_expressions_of : (items : List Exp) → length items < 1 → expressions_of items ≡ no_expressions
no_expressions_of [] none = refl
no_expressions_of (e ∷ items) none = absurd (omega (arith, none))

-- an empty list of expressions
pub view_exps_empty : (e : Exps) (items : List Exp) → items ≡ (out-Exps e).exps.items → length items < 1 → view_exps e ≡ no_expressions
view_exps_empty e items is none = view_exps_items e ∙ ap expressions_of (sym is) ∙ no_expressions_of items none

-- a list of expressions by its first one and the others
pub view_exps_first : (e : Exps) (items : List Exp) (first : Exp) → items ≡ (out-Exps e).exps.items → 1 ≤ length items → first ≡ get_or items 0 first → view_exps e ≡ expression (view_exp first) (expressions_of (take (length items - 1) (drop 1 items)))
view_exps_first e items first is some first_is =
    view_exps_items e ∙ ap expressions_of (sym is) ∙ ap expressions_of (first_and_others items first some first_is)

spell_values_some : (items : List Exp) → 1 ≤ length items → spell_values (expressions_of items) ≡ TokenKind.Equal ∷ spell_expressions (expressions_of items)
spell_values_some [] some = absurd (omega (arith, some))
spell_values_some (e ∷ items) some = refl

-- where there are values, `=` stands before them
pub values_some : (e : Exps) (items : List Exp) → items ≡ (out-Exps e).exps.items → 1 ≤ length items → spell_values (view_exps e) ≡ TokenKind.Equal ∷ spell_expressions (view_exps e)
values_some e items is some = rw (view_exps_items e, ← is) (spell_values_some items some)
