-- Sizes of constructors.
use Rattle.std.proofs.Common.{◌≡◌, ◌≢◌, ℕ, zero, suc, ◌+◌, ◌-◌, ◌/◌, ◌≤◌, ◌<◌, Bool, true, false, not, cond, List, [], ◌∷◌, length, drop, get_or, nat_eq, inl, inr, refl, sym, ap, ◌∙◌, arith, length-drop, drop-cons}
use Rattle.std.specs.Prelude.{nat_lt, ◌&&◌, ◌==◌, ◌⊎◌}
use Rattle.std.proofs.lemmas.Bool.{le-ltb, ne_eqb}
use Rattle.std.proofs.lemmas.Bool.Decides.{eqb_tells}
use Rattle.lua_tree.specs.View.{view_kind, view_item}
use Rattle.lua_tree.specs.TreeLists.{fields_of}
use Rattle.lua_tree.specs.declared.tree.Item.{Item}
use Rattle.lua_tree.specs.declared.tree.ItemKind.{ItemKind, Positional', Named', Keyed'}
use Rattle.scheme.specs.Expressions.{is_multiple}
use Rattle.scheme.specs.Lists.{hint_from, positional_count, is_last}
use Rattle.scheme.specs.Scheme.{coded, entries}
use Rattle.codegen.specs.Items.{is_positional}
use Rattle.codegen.proofs.Parts.{coded_e}

-- a size that is halved once more has the same hint
pub record Halved (x e t : ℕ) : Type 0 where
  pub fuel : ℕ
  pub enough : x ≤ fuel
  pub hint : hint_from (nat_lt x 16) fuel e x ≡ t

pub halved : (fuel e x t : ℕ) → 16 ≤ x → x ≤ fuel → hint_from (nat_lt x 16) fuel e x ≡ t → Halved ((x + 1) / 2) (e + 1) t
halved zero e x t large enough h = absurd (omega (arith, large, enough))
halved (suc fuel) e x t large enough h = record {
  fuel = fuel;
  enough = omega (arith, large, enough);
  hint = sym (ap (λ b. hint_from b (suc fuel) e x) (le-ltb x 16 large)) ∙ h;
}

-- whether nothing follows
abbrev pub ends : List Item → Bool
ends [] = true
ends (item ∷ items) = false

pub is_last-ends : (items : List Item) → is_last (entries (fields_of items)) ≡ ends items
is_last-ends [] = refl
is_last-ends (item ∷ items) = of_kind item.kind
  where
    of_kind : (kind : ItemKind) → is_last (entries (view_item kind item.sep (fields_of items))) ≡ false
    of_kind (Positional' l k) = refl
    of_kind (Named' name l k) = refl
    of_kind (Keyed' l k l' k') = refl

ends-by_length : (items : List Item) → ends items ≡ (length items == 0)
ends-by_length [] = refl
ends-by_length (item ∷ items) = sym (ne_eqb (suc (length items)) 0 (λ e. absurd (omega (arith, e))))

-- nothing follows the item at a place exactly where it is the last
pub ends-behind : (i : ℕ) (items : List Item) → i < length items → ends (drop (suc i) items) ≡ (i + 1 == length items)
ends-behind i items h = ends-by_length (drop (suc i) items) ∙ go (eqb_tells (length (drop (suc i) items)) 0) (eqb_tells (i + 1) (length items))
  where
    len : length (drop (suc i) items) ≡ length items - suc i
    len = length-drop (suc i) items

    go : ((nat_eq (length (drop (suc i) items)) 0 ≡ true) × (length (drop (suc i) items) ≡ 0)) ⊎ ((nat_eq (length (drop (suc i) items)) 0 ≡ false) × (length (drop (suc i) items) ≢ 0))
        → ((nat_eq (i + 1) (length items) ≡ true) × (i + 1 ≡ length items)) ⊎ ((nat_eq (i + 1) (length items) ≡ false) × (i + 1 ≢ length items))
        → nat_eq (length (drop (suc i) items)) 0 ≡ nat_eq (i + 1) (length items)
    go (inl a) (inl b) = a.0 ∙ sym b.0
    go (inl a) (inr b) = absurd (b.1 (omega (arith, len, a.1, h)))
    go (inr a) (inl b) = absurd (a.1 (omega (arith, len, b.1, h)))
    go (inr a) (inr b) = a.0 ∙ sym b.0

-- one where it is so
abbrev pub one_if : Bool → ℕ
one_if true = 1
one_if false = 0

alone_bool : (b : Bool) → cond b 0 (suc 0) ≡ one_if (not b) + 0
alone_bool true = refl
alone_bool false = refl

-- one item more
pub counted_one : (item : Item) (rest : List Item) →
    positional_count (entries (fields_of (item ∷ rest))) ≡ one_if (is_positional (ends rest) item.kind) + positional_count (entries (fields_of rest))
counted_one item [] = of_kind item.kind
  where
    of_kind : (kind : ItemKind) → positional_count (entries (view_item kind item.sep (fields_of []))) ≡ one_if (is_positional true kind) + 0
    of_kind (Positional' l k) = ap (λ x. cond (is_multiple x) 0 (suc 0)) (coded_e (view_kind k l)) ∙ alone_bool (is_multiple (view_kind k l))
    of_kind (Named' name l k) = refl
    of_kind (Keyed' l k l' k') = refl
counted_one item (other ∷ rest) = of_kind item.kind
  where
    of_kind : (kind : ItemKind) → positional_count (entries (view_item kind item.sep (fields_of (other ∷ rest)))) ≡ one_if (is_positional false kind) + positional_count (entries (fields_of (other ∷ rest)))
    of_kind (Positional' l k) =
        ap (λ b. cond (b && is_multiple (coded (view_kind k l)).e) 0 (suc (positional_count (entries (fields_of (other ∷ rest)))))) (is_last-ends (other ∷ rest))
        ∙ omega arith
    of_kind (Named' name l k) = omega arith
    of_kind (Keyed' l k l' k') = omega arith

-- the count of the items from one on
pub counted_from : (i count total : ℕ) (items : List Item) (item : Item) (b : Bool) → i < length items → item ≡ get_or items i item → b ≡ is_positional (i + 1 == length items) item.kind →
    count + positional_count (entries (fields_of (drop i items))) ≡ total → count + one_if b + positional_count (entries (fields_of (drop (i + 1) items))) ≡ total
counted_from i count total items item b h same is sum =
    let here : drop i items ≡ item ∷ drop (suc i) items = drop-cons items i item h ∙ ap (λ x. x ∷ drop (suc i) items) (sym same) in
    let whole = ap (λ xs. positional_count (entries (fields_of xs))) here ∙ counted_one item (drop (suc i) items) in
    let one = ap (λ e. one_if (is_positional e item.kind)) (ends-behind i items h) ∙ ap one_if (sym is) in
    let next : i + 1 ≡ suc i = omega arith in
    let rest = ap (λ n. positional_count (entries (fields_of (drop n items)))) next in
    omega (arith, whole, one, rest, sum)
