-- What is asked of a tree's lists, item by item.
use Rattle.std.proofs.Common.{◌≡◌, refl, sym, ap, ◌∙◌, ℕ, suc, ◌+◌, ◌-◌, ◌==◌, ◌<◌, ◌≤◌, Bool, true, false, not, ◌&&◌, List, [], ◌∷◌, length, drop, take, get_or, arith}
use Rattle.std.proofs.Math.Seq.{drop-cons}
use Rattle.std.proofs.lemmas.List.{take_rest}
use Rattle.std.proofs.lemmas.Bool.Decides.{nat_tests}
use Rattle.lua_tree.specs.TreeLists.{branches_of, expressions_of, fields_of}
use Rattle.lua_tree.specs.Names.{is_name}
use Rattle.lua_tree.specs.View.{view_exp, view_item, view_kind}
use Rattle.lua_tree.specs.WellFormed.{has_branches, has_expressions, ends_item, takes_arguments, last_takes_arguments}
use Rattle.lua_tree.specs.declared.tree.Arm.{Arm, Arm'}
use Rattle.lua_tree.specs.declared.tree.Exp.{Exp}
use Rattle.lua_tree.specs.declared.tree.Item.{Item}
use Rattle.lua_tree.specs.declared.tree.ItemKind.{ItemKind, Positional', Named', Keyed'}
use Rattle.lua_tree.specs.declared.tree.Separator.{Separator}
use Rattle.well_formed.specs.Held.{item_within}
use Rattle.well_formed.specs.Within.{expression_within, fields_within}
use Rattle.well_formed.proofs.Tests.{and_assoc}

pub has_expressions_is : (items : List Exp) → has_expressions (expressions_of items) ≡ not (length items == 0)
has_expressions_is [] = refl
has_expressions_is (e ∷ items) = grind (arith, nat_tests)

pub has_branches_is : (items : List Arm) → has_branches (branches_of items) ≡ not (length items == 0)
has_branches_is [] = refl
has_branches_is (Arm' line kind block ∷ items) = grind (arith, nat_tests)

pub missing_ends : (items : List Item) → ends_item Separator.Missing (fields_of items) ≡ (length items == 0)
missing_ends [] = refl
missing_ends (item ∷ items) = of_kind item.kind where
  of_kind : (kind : ItemKind) → ends_item Separator.Missing (view_item kind item.sep (fields_of items)) ≡ (length (item ∷ items) == 0)
  of_kind (Positional' line k) = grind (arith, nat_tests)
  of_kind (Named' name line k) = grind (arith, nat_tests)
  of_kind (Keyed' line k value_line v) = grind (arith, nat_tests)

pub last_takes_is : (items : List Exp) (last : Exp) → 1 ≤ length items → last ≡ get_or items (length items - 1) last → last_takes_arguments (expressions_of items) ≡ takes_arguments (view_exp last)
last_takes_is [] last some is = absurd (omega (arith, some))
last_takes_is (e ∷ []) last some is = ap (λ x. takes_arguments (view_exp x)) (sym is)
last_takes_is (e ∷ next ∷ items) last some is =
    let one_less : length (e ∷ next ∷ items) - 1 ≡ suc (length (next ∷ items) - 1) = omega arith in
    last_takes_is (next ∷ items) last (omega arith) (is ∙ ap (λ i. get_or (e ∷ next ∷ items) i last) one_less)

-- ---- the items of a constructor

fields_first : (n : ℕ) (item : Item) (behind : List Item) →
    fields_within n (fields_of (item ∷ behind)) ≡ (ends_item item.sep (fields_of behind) && (item_within n item.kind && fields_within n (fields_of behind)))
fields_first n item behind = of_kind item.kind where
  of_kind : (kind : ItemKind) →
      fields_within n (view_item kind item.sep (fields_of behind)) ≡ (ends_item item.sep (fields_of behind) && (item_within n kind && fields_within n (fields_of behind)))
  of_kind (Positional' line k) = refl
  of_kind (Named' name line k) =
      ap (λ b. ends_item item.sep (fields_of behind) && b) (and_assoc (is_name name) (expression_within n (view_kind k line)) (fields_within n (fields_of behind)))
  of_kind (Keyed' line k value_line v) =
      ap (λ b. ends_item item.sep (fields_of behind) && b) (and_assoc (expression_within n (view_kind k line)) (expression_within n (view_kind v value_line)) (fields_within n (fields_of behind)))

-- the items behind one, as a slice has them
abbrev pub behind : ℕ → List Item → List Item
behind i items = take (length items - (i + 1)) (drop (i + 1) items)

-- what is left of a list, by its first item
left_of : {A : Type 0} (items : List A) (i : ℕ) (item : A) → i < length items → item ≡ get_or items i item → drop i items ≡ item ∷ drop (i + 1) items
left_of items i item below is =
    let next : suc i ≡ i + 1 = omega arith in
    drop-cons items i item below ∙ ap (λ first. first ∷ drop (suc i) items) (sym is) ∙ ap (λ n. item ∷ drop n items) next

-- what is asked of an item, of the items behind it as the loop takes them, and of the rest
fields_turn : (n : ℕ) (items : List Item) (i : ℕ) (item : Item) → i < length items → item ≡ get_or items i item → {ends well whole : Bool} → ends ≡ ends_item item.sep (fields_of (behind i items)) →
    well ≡ item_within n item.kind → fields_within n (fields_of (drop i items)) ≡ whole → (ends && (well && fields_within n (fields_of (drop (i + 1) items)))) ≡ whole
fields_turn n items i item below is {ends} {well} ends_is well_is left =
    let rest = fields_within n (fields_of (drop (i + 1) items)) in
    ap (λ b. b && (well && rest)) (ends_is ∙ ap (λ those. ends_item item.sep (fields_of those)) (take_rest items (i + 1))) ∙
    ap (λ b. ends_item item.sep (fields_of (drop (i + 1) items)) && (b && rest)) well_is ∙
    sym (ap (λ those. fields_within n (fields_of those)) (left_of items i item below is) ∙ fields_first n item (drop (i + 1) items)) ∙ left

-- an item that is none, or whose separator is missing, and one behind which the loop goes on
pub fields_unended : (n : ℕ) (items : List Item) (i : ℕ) (item : Item) → i < length items → item ≡ get_or items i item → {whole : Bool} → false ≡ ends_item item.sep (fields_of (behind i items)) →
    fields_within n (fields_of (drop i items)) ≡ whole → false ≡ whole
fields_unended n items i item below is ends left = fields_turn n items i item below is ends refl left

pub fields_stop : (n : ℕ) (items : List Item) (i : ℕ) (item : Item) → i < length items → item ≡ get_or items i item → {whole : Bool} → true ≡ ends_item item.sep (fields_of (behind i items)) →
    false ≡ item_within n item.kind → fields_within n (fields_of (drop i items)) ≡ whole → false ≡ whole
fields_stop n items i item below is ends well left = fields_turn n items i item below is ends well left

pub fields_go_on : (n : ℕ) (items : List Item) (i : ℕ) (item : Item) → i < length items → item ≡ get_or items i item → {whole : Bool} → true ≡ ends_item item.sep (fields_of (behind i items)) →
    true ≡ item_within n item.kind → fields_within n (fields_of (drop i items)) ≡ whole → fields_within n (fields_of (drop (i + 1) items)) ≡ whole
fields_go_on n items i item below is ends well left = fields_turn n items i item below is ends well left
