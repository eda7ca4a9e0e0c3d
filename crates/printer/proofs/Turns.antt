-- Turns of the loops over a tree's lists.
use Rattle.std.proofs.Common.{◌≡◌, refl, sym, ap, ◌∙◌, ℕ, suc, ◌+◌, ◌-◌, ◌<◌, ◌≤◌, List, [], ◌∷◌, ◌++◌, Option, Some, length, drop, take, get_or, append_assoc, arith}
use Rattle.std.proofs.Math.Seq.{drop-cons}
use Rattle.std.proofs.lemmas.List.{drop_all, take_rest}
use Rattle.lua_tree.specs.Syntax.{Branches, Fields}
use Rattle.lua_tree.specs.Spelling.{spell_semi, spell_separator, spell_params}
use Rattle.lua_tree.specs.View.{view_block, view_exps, view_exp, view_statement, view_body, view_arms, view_arm, view_item}
use Rattle.lua_tree.specs.TreeLists.{statements_of, branches_of, expressions_of, fields_of}
use Rattle.lua_tree.specs.declared.token.TokenKind.{TokenKind}
use Rattle.lua_tree.specs.declared.tree.Exp.{Exp}
use Rattle.lua_tree.specs.declared.tree.Exps.{Exps, out-Exps}
use Rattle.lua_tree.specs.declared.tree.Stat.{Stat}
use Rattle.lua_tree.specs.declared.tree.Arm.{Arm, Arm', out-Arm}
use Rattle.lua_tree.specs.declared.tree.Arms.{Arms, out-Arms}
use Rattle.lua_tree.specs.declared.tree.Body.{Body, Body', out-Body}
use Rattle.lua_tree.specs.declared.tree.Item.{Item}
use Rattle.lua_tree.specs.declared.tree.ItemKind.{ItemKind, Positional', Named', Keyed'}
use Rattle.lua_tree.specs.declared.tree.Separator.{Separator}
use Rattle.lua_tree.proofs.TreeViews.{view_arms_items, view_exps_items}
use Rattle.printer.specs.Layout.{Piece, token, new_line, tokens, statements_pieces, statement_pieces, branches_pieces, more_branches_pieces, body_pieces, values_pieces, expressions_pieces, more_expressions_pieces, expression_pieces, fields_pieces}
use Rattle.printer.specs.Sheets.{Sheet, put_piece, put_pieces, arm_pieces, item_pieces}
use Rattle.printer.proofs.SheetLemmas.{put_pieces_append}

-- pieces behind others, which are put already
pub put_behind_is : (a b : List Piece) (before : Option Sheet) {middle : Option Sheet} → middle ≡ put_pieces a before → put_pieces b middle ≡ put_pieces (a ++ b) before
put_behind_is a b before is = ap (put_pieces b) is ∙ sym (put_pieces_append a b before)

-- what is left of a list, by its first item
left_of : {A : Type 0} (items : List A) (i : ℕ) (item : A) → i < length items → item ≡ get_or items i item → drop i items ≡ item ∷ drop (i + 1) items
left_of items i item below is =
    let next : suc i ≡ i + 1 = omega arith in
    drop-cons items i item below ∙ ap (λ first. first ∷ drop (suc i) items) (sym is) ∙ ap (λ n. item ∷ drop n items) next

-- at the end of a loop nothing is left
pub loop_ends : {A : Type 0} (rest : List A → List Piece) (items : List A) (i : ℕ) {out whole : Option Sheet} → length items ≤ i → rest [] ≡ [] → put_pieces (rest (drop i items)) out ≡ whole → out ≡ whole
loop_ends rest items i {out} done nothing left = ap (λ pieces. put_pieces pieces out) (sym (ap rest (drop_all i items done) ∙ nothing)) ∙ left

-- a list by its first item and the others, which a slice pattern takes
pub first_and_others : {A : Type 0} (items : List A) (first : A) → 1 ≤ length items → first ≡ get_or items 0 first → items ≡ first ∷ take (length items - 1) (drop 1 items)
first_and_others [] first some is = absurd (omega (arith, some))
first_and_others (x ∷ items) first some is = rw (take_rest (x ∷ items) 1) (ap (λ y. y ∷ items) (sym is))

-- ---- statements

pub statements_turn : (n : ℕ) (items : List Stat) (i : ℕ) (item : Stat) → i < length items → item ≡ get_or items i item → (o a b c : Sheet) (whole : Option Sheet) →
    put_pieces (statements_pieces n (statements_of (drop i items))) (Some o) ≡ whole → Some a ≡ put_piece (new_line n) (Some o) → Some b ≡ put_pieces (statement_pieces n (view_statement item.kind)) (Some a) →
    Some c ≡ put_pieces (tokens (spell_semi item.semi)) (Some b) → put_pieces (statements_pieces n (statements_of (drop (i + 1) items))) (Some c) ≡ whole
statements_turn n items i item below is o a b c whole left line put semi =
    let rest = statements_pieces n (statements_of (drop (i + 1) items)) in
    put_behind_is (tokens (spell_semi item.semi)) rest (Some b) semi ∙ put_behind_is (statement_pieces n (view_statement item.kind)) (tokens (spell_semi item.semi) ++ rest) (Some a) put ∙
    ap (put_pieces (statement_pieces n (view_statement item.kind) ++ (tokens (spell_semi item.semi) ++ rest))) line ∙
    ap (λ those. put_pieces (statements_pieces n (statements_of those)) (Some o)) (sym (left_of items i item below is)) ∙ left

-- ---- expressions

pub expressions_turn : (n : ℕ) (items : List Exp) (i : ℕ) (item : Exp) → i < length items → item ≡ get_or items i item → (o a : Sheet) (whole : Option Sheet) →
    put_pieces (more_expressions_pieces n (expressions_of (drop i items))) (Some o) ≡ whole → Some a ≡ put_pieces (token TokenKind.Comma ∷ expression_pieces n (view_exp item)) (Some o) →
    put_pieces (more_expressions_pieces n (expressions_of (drop (i + 1) items))) (Some a) ≡ whole
expressions_turn n items i item below is o a whole left put =
    put_behind_is (token TokenKind.Comma ∷ expression_pieces n (view_exp item)) (more_expressions_pieces n (expressions_of (drop (i + 1) items))) (Some o) put ∙
    ap (λ those. put_pieces (more_expressions_pieces n (expressions_of those)) (Some o)) (sym (left_of items i item below is)) ∙ left

-- where there are values, `=` stands before them
pub values_some : (n : ℕ) (e : Exps) (items : List Exp) → items ≡ (out-Exps e).exps.items → 1 ≤ length items → values_pieces n (view_exps e) ≡ token TokenKind.Equal ∷ expressions_pieces n (view_exps e)
values_some n e items is some = rw (view_exps_items e, ← is) (of_items items some) where
  of_items : (items : List Exp) → 1 ≤ length items → values_pieces n (expressions_of items) ≡ token TokenKind.Equal ∷ expressions_pieces n (expressions_of items)
  of_items [] some = absurd (omega (arith, some))
  of_items (e ∷ items) some = refl

-- ---- the arms of an `if`

pub view_arms_first : (arms : Arms) (items : List Arm) (first : Arm) → items ≡ (out-Arms arms).arms.items → 1 ≤ length items → first ≡ get_or items 0 first →
    view_arms arms ≡ view_arm first (branches_of (take (length items - 1) (drop 1 items)))
view_arms_first arms items first is some first_is = view_arms_items arms ∙ ap branches_of (sym is) ∙ ap branches_of (first_and_others items first some first_is)

pub arm_pieces_is : (n : ℕ) (word : TokenKind) (arm : Arm) →
    arm_pieces n word arm ≡ token word ∷ expression_pieces n (view_exp (out-Arm arm).cond) ++ token TokenKind.Then ∷ statements_pieces (suc n) (view_block (out-Arm arm).body)
unfolding out-Arm denote.Hole.Carrier.out
arm_pieces_is n word (Arm' line kind block) = refl

pub first_arm : (n : ℕ) (arm : Arm) (rest : Branches) → branches_pieces n (view_arm arm rest) ≡ arm_pieces n TokenKind.If arm ++ more_branches_pieces n rest
first_arm n (Arm' line kind block) rest = simp append_assoc

more_arm : (n : ℕ) (arm : Arm) (rest : Branches) → more_branches_pieces n (view_arm arm rest) ≡ new_line n ∷ arm_pieces n TokenKind.Elseif arm ++ more_branches_pieces n rest
more_arm n (Arm' line kind block) rest = simp append_assoc

pub arms_turn : (n : ℕ) (items : List Arm) (i : ℕ) (item : Arm) → i < length items → item ≡ get_or items i item → (o a b : Sheet) (whole : Option Sheet) →
    put_pieces (more_branches_pieces n (branches_of (drop i items))) (Some o) ≡ whole → Some a ≡ put_piece (new_line n) (Some o) → Some b ≡ put_pieces (arm_pieces n TokenKind.Elseif item) (Some a) →
    put_pieces (more_branches_pieces n (branches_of (drop (i + 1) items))) (Some b) ≡ whole
arms_turn n items i item below is o a b whole left line put =
    let rest = branches_of (drop (i + 1) items) in
    put_behind_is (arm_pieces n TokenKind.Elseif item) (more_branches_pieces n rest) (Some a) put ∙ ap (put_pieces (arm_pieces n TokenKind.Elseif item ++ more_branches_pieces n rest)) line ∙
    ap (λ pieces. put_pieces pieces (Some o)) (sym (more_arm n item rest)) ∙ ap (λ those. put_pieces (more_branches_pieces n (branches_of those)) (Some o)) (sym (left_of items i item below is)) ∙ left

-- ---- functions and constructors

pub body_pieces_is : (n : ℕ) (body : Body) →
    body_pieces n (view_body body) ≡ tokens (TokenKind.OpenParen ∷ spell_params (out-Body body).params (out-Body body).vararg ++ TokenKind.CloseParen ∷ []) ++ (statements_pieces (suc n) (view_block (out-Body body).block) ++ new_line n ∷ token TokenKind.End ∷ [])
unfolding out-Body denote.Hole.Carrier.out
body_pieces_is n (Body' params vararg block first last) = refl

item_first : (n : ℕ) (kind : ItemKind) (separator : Separator) (rest : Fields) → fields_pieces n (view_item kind separator rest) ≡ item_pieces n kind ++ (tokens (spell_separator separator) ++ fields_pieces n rest)
item_first n (Positional' line kind) separator rest = refl
item_first n (Named' name line kind) separator rest = refl
item_first n (Keyed' line kind value_line value) separator rest = simp append_assoc

pub fields_turn : (n : ℕ) (items : List Item) (i : ℕ) (item : Item) → i < length items → item ≡ get_or items i item → (o a b : Sheet) (whole : Option Sheet) →
    put_pieces (fields_pieces n (fields_of (drop i items))) (Some o) ≡ whole → Some a ≡ put_pieces (item_pieces n item.kind) (Some o) → Some b ≡ put_pieces (tokens (spell_separator item.sep)) (Some a) →
    put_pieces (fields_pieces n (fields_of (drop (i + 1) items))) (Some b) ≡ whole
fields_turn n items i item below is o a b whole left put separator =
    let rest = fields_of (drop (i + 1) items) in
    put_behind_is (tokens (spell_separator item.sep)) (fields_pieces n rest) (Some a) separator ∙ put_behind_is (item_pieces n item.kind) (tokens (spell_separator item.sep) ++ fields_pieces n rest) (Some o) put ∙
    ap (λ pieces. put_pieces pieces (Some o)) (sym (item_first n item.kind item.sep rest)) ∙ ap (λ those. put_pieces (fields_pieces n (fields_of those)) (Some o)) (sym (left_of items i item below is)) ∙ left
