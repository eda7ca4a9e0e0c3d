-- What is pushed onto a list of a tree stands at the end of its view.
use Rattle.std.specs.Prelude.{◌≡◌, List, [], ◌∷◌, ◌++◌, refl}
use Rattle.std.proofs.Common.{ap, sym, ◌∙◌}
use Rattle.lua_tree.specs.Syntax.{no_statements, statement, Branches, no_branches, no_expressions, expression, Fields, no_fields}
use Rattle.lua_tree.specs.View.{view_exp, view_exps, view_statement, view_block, view_arm, view_arms, view_item, view_items}
use Rattle.lua_tree.specs.Joins.{join_statements, join_branches, join_expressions, join_fields}
use Rattle.lua_tree.specs.TreeLists.{statements_of, branches_of, expressions_of, fields_of}
use Rattle.lua_tree.specs.declared.tree.Exp.{Exp}
use Rattle.lua_tree.specs.declared.tree.Stat.{Stat}
use Rattle.lua_tree.specs.declared.tree.Arm.{Arm, Arm'}
use Rattle.lua_tree.specs.declared.tree.Item.{Item}
use Rattle.lua_tree.specs.declared.tree.ItemKind.{ItemKind, Positional', Named', Keyed'}
use Rattle.lua_tree.specs.declared.tree.Separator.{Separator}
use Rattle.lua_tree.specs.declared.tree.Block.{Block, out-Block}
use Rattle.lua_tree.specs.declared.tree.Exps.{Exps, out-Exps}
use Rattle.lua_tree.specs.declared.tree.Arms.{Arms, out-Arms}
use Rattle.lua_tree.specs.declared.tree.Items.{Items, out-Items}
use Rattle.lua_tree.proofs.TreeViews.{view_block_items, view_arms_items, view_exps_items, view_items_items}

expressions_joined : (items more : List Exp) → expressions_of (items ++ more) ≡ join_expressions (expressions_of items) (expressions_of more)
expressions_joined [] more = refl
expressions_joined (e ∷ items) more = ap (expression (view_exp e)) (expressions_joined items more)

statements_joined : (items more : List Stat) → statements_of (items ++ more) ≡ join_statements (statements_of items) (statements_of more)
statements_joined [] more = refl
statements_joined (s ∷ items) more = ap (statement s.line s.semi (view_statement s.kind)) (statements_joined items more)

arm_joined : (arm : Arm) (rest more : Branches) → view_arm arm (join_branches rest more) ≡ join_branches (view_arm arm rest) more
arm_joined (Arm' l k b) rest more = refl

branches_joined : (items more : List Arm) → branches_of (items ++ more) ≡ join_branches (branches_of items) (branches_of more)
branches_joined [] more = refl
branches_joined (a ∷ items) more = ap (view_arm a) (branches_joined items more) ∙ arm_joined a (branches_of items) (branches_of more)

item_joined : (kind : ItemKind) (separator : Separator) (rest more : Fields) → view_item kind separator (join_fields rest more) ≡ join_fields (view_item kind separator rest) more
item_joined (Positional' l k) separator rest more = refl
item_joined (Named' n l k) separator rest more = refl
item_joined (Keyed' l k l' k') separator rest more = refl

fields_joined : (items more : List Item) → fields_of (items ++ more) ≡ join_fields (fields_of items) (fields_of more)
fields_joined [] more = refl
fields_joined (i ∷ items) more = ap (view_item i.kind i.sep) (fields_joined items more) ∙ item_joined i.kind i.sep (fields_of items) (fields_of more)

pub no_exps : (new : Exps) → (out-Exps new).exps.items ≡ [] → view_exps new ≡ no_expressions
no_exps new is = view_exps_items new ∙ ap expressions_of is

pub pushed_exp : (old new : Exps) (e : Exp) → (out-Exps new).exps.items ≡ (out-Exps old).exps.items ++ e ∷ [] → view_exps new ≡ join_expressions (view_exps old) (expression (view_exp e) no_expressions)
pushed_exp old new e is = view_exps_items new ∙ ap expressions_of is ∙ expressions_joined (out-Exps old).exps.items (e ∷ []) ∙ ap (λ x. join_expressions x (expression (view_exp e) no_expressions)) (sym (view_exps_items old))

pub no_stats : (new : Block) → (out-Block new).stats.items ≡ [] → view_block new ≡ no_statements
no_stats new is = view_block_items new ∙ ap statements_of is

pub pushed_stat : (old new : Block) (s : Stat) → (out-Block new).stats.items ≡ (out-Block old).stats.items ++ s ∷ [] → view_block new ≡ join_statements (view_block old) (statement s.line s.semi (view_statement s.kind) no_statements)
pushed_stat old new s is = view_block_items new ∙ ap statements_of is ∙ statements_joined (out-Block old).stats.items (s ∷ []) ∙ ap (λ x. join_statements x (statement s.line s.semi (view_statement s.kind) no_statements)) (sym (view_block_items old))

pub no_arms : (new : Arms) → (out-Arms new).arms.items ≡ [] → view_arms new ≡ no_branches
no_arms new is = view_arms_items new ∙ ap branches_of is

pub pushed_arm : (old new : Arms) (a : Arm) → (out-Arms new).arms.items ≡ (out-Arms old).arms.items ++ a ∷ [] → view_arms new ≡ join_branches (view_arms old) (view_arm a no_branches)
pushed_arm old new a is = view_arms_items new ∙ ap branches_of is ∙ branches_joined (out-Arms old).arms.items (a ∷ []) ∙ ap (λ x. join_branches x (view_arm a no_branches)) (sym (view_arms_items old))

pub no_items : (new : Items) → (out-Items new).items.items ≡ [] → view_items new ≡ no_fields
no_items new is = view_items_items new ∙ ap fields_of is

pub pushed_item : (old new : Items) (i : Item) → (out-Items new).items.items ≡ (out-Items old).items.items ++ i ∷ [] → view_items new ≡ join_fields (view_items old) (view_item i.kind i.sep no_fields)
pushed_item old new i is = view_items_items new ∙ ap fields_of is ∙ fields_joined (out-Items old).items.items (i ∷ []) ∙ ap (λ x. join_fields x (view_item i.kind i.sep no_fields)) (sym (view_items_items old))

pub same_stats : (old new : Block) → (out-Block new).stats.items ≡ (out-Block old).stats.items → view_block new ≡ view_block old
same_stats old new is = view_block_items new ∙ ap statements_of is ∙ sym (view_block_items old)

pub same_exps : (old new : Exps) → (out-Exps new).exps.items ≡ (out-Exps old).exps.items → view_exps new ≡ view_exps old
same_exps old new is = view_exps_items new ∙ ap expressions_of is ∙ sym (view_exps_items old)

pub same_arms : (old new : Arms) → (out-Arms new).arms.items ≡ (out-Arms old).arms.items → view_arms new ≡ view_arms old
same_arms old new is = view_arms_items new ∙ ap branches_of is ∙ sym (view_arms_items old)

pub same_items : (old new : Items) → (out-Items new).items.items ≡ (out-Items old).items.items → view_items new ≡ view_items old
same_items old new is = view_items_items new ∙ ap fields_of is ∙ sym (view_items_items old)
