-- Entries at a place, and those that are held.
use Rattle.std.proofs.Common.{◌≡◌, ◌∙◌, ap, sym, refl, ℕ, zero, suc, ◌+◌, ◌<◌, Bool, true, false, append_assoc, add-one, List, [], ◌∷◌, ◌++◌, drop, map, Option, Some, None, Result, Ok, Err, arith, not-suc-le-zero, le_of_suc-le-suc, if◌then◌else◌}
use Rattle.std.specs.Prelude.{IfOk, option_map, slice_get, slice_set}
use Rattle.std.proofs.lemmas.List.{map-set}
use Rattle.std.proofs.lemmas.Option.{slice_get-map, get_or_from_slice_get}
use Rattle.std.proofs.Math.Seq.{map-set_same}
use Rattle.core_expr.specs.Values.{Value, view_core, view_item, items_of, no_items, and_positional, and_keyed, view_operand}
use Rattle.core_expr.specs.declared.cores.Core.{Core}
use Rattle.core_expr.specs.declared.cores.CoreItem.{CoreItem, Positional, Keyed}
use Rattle.core_expr.specs.declared.cores.CoreItems.{CoreItems, out-CoreItems}
use Rattle.recover_expr.specs.Entries.{EntryValue, Entries, view_entry, single_of, is_at, is_held, held_at, hold, held_entry, maker_entry, any_held, up_to_held, behind_held, join_items, with_items_at, with_item, opened_at, opened, more}
use Rattle.recover_expr.specs.declared.lost.Lost.{Lost}
use Rattle.recover_expr.specs.declared.stack.Entry.{Entry}

-- what stands at a place, as plain data
at_place : (entries : List Entry) (place : ℕ) (there : Option Entry) → slice_get entries place ≡ there → slice_get (map view_entry entries) place ≡ option_map view_entry there
at_place entries place there is = slice_get-map view_entry entries place ∙ ap (option_map view_entry) is

-- ---- what is held from then on

held_is : (entries : List Entry) (place : ℕ) (there : Option Entry) → slice_get entries place ≡ there → hold place (map view_entry entries) ≡ held_at place (map view_entry entries) (option_map view_entry there)
held_is entries place there is = ap (held_at place (map view_entry entries)) (at_place entries place there is)

pub hold_some : (entries : List Entry) (place : ℕ) (entry after : Entry) (made : Result Core Lost) → slice_get entries place ≡ Some entry → after ≡ Entry.Held →
    IfOk made (λ core. Some (view_core core) ≡ single_of (view_entry entry)) →
    IfOk made (λ core. ◌≡◌ {A = Option (Value × Entries)} (Some (view_core core, map view_entry (slice_set entries place after))) (hold place (map view_entry entries)))
hold_some entries place entry after (Err lost) is after_is made = tt
hold_some entries place entry after (Ok core) is after_is made =
    let all = map view_entry entries in
    ap (λ those. Some (view_core core, those)) (map-set view_entry entries place after ∙ ap (λ e. slice_set all place (view_entry e)) after_is)
    ∙ ap (option_map (λ v. (v, slice_set all place held_entry))) made
    ∙ sym (held_is entries place (Some entry) is)

pub hold_lost : (entries : List Entry) (place : ℕ) (entry : Entry) → slice_get entries place ≡ Some entry → single_of (view_entry entry) ≡ None → hold place (map view_entry entries) ≡ None
hold_lost entries place entry is none =
    held_is entries place (Some entry) is ∙ ap (option_map (λ v. (v, slice_set (map view_entry entries) place held_entry))) none

pub hold_none : (entries : List Entry) (place : ℕ) → slice_get entries place ≡ None → hold place (map view_entry entries) ≡ None
hold_none entries place is = held_is entries place None is

-- ---- constructors

items_more : (items : List CoreItem) (item : CoreItem) → items_of (items ++ item ∷ []) ≡ join_items (items_of items) (view_item item no_items)
items_more [] item = refl
items_more (Positional v ∷ items) item = ap (and_positional (view_core v)) (items_more items item)
items_more (Keyed k v ∷ items) item = ap (and_keyed (view_operand k) (view_operand v)) (items_more items item)

pub item_next : (entries : List Entry) (place : ℕ) (items after : CoreItems) (all : Bool) (item : CoreItem) → slice_get entries place ≡ Some (Entry.Maker items all) →
    (out-CoreItems after).items.items ≡ (out-CoreItems items).items.items ++ item ∷ [] →
    Some (map view_entry (slice_set entries place (Entry.Maker after all))) ≡ with_item place item (map view_entry entries)
item_next entries place items after all item is after_is =
    let there = map view_entry entries in
    ap Some (map-set view_entry entries place (Entry.Maker after all))
    ∙ ap (λ those. Some (slice_set there place (maker_entry those all))) (ap items_of after_is ∙ items_more (out-CoreItems items).items.items item)
    ∙ ap (with_items_at place (view_item item no_items) there) (sym (at_place entries place (Some (Entry.Maker items all)) is))

pub opened_next : (entries : List Entry) (place : ℕ) (items : CoreItems) (all : Bool) → slice_get entries place ≡ Some (Entry.Maker items all) →
    map view_entry (slice_set entries place (Entry.Maker items true)) ≡ opened place (map view_entry entries)
opened_next entries place items all is =
    map-set view_entry entries place (Entry.Maker items true) ∙ ap (opened_at place (map view_entry entries)) (sym (at_place entries place (Some (Entry.Maker items all)) is))

opened_other : (place : ℕ) (entries : Entries) (entry : Entry) → ((items : CoreItems) (all : Bool) → entry ≡ Entry.Maker items all → ⊥) → opened_at place entries (Some (view_entry entry)) ≡ entries
opened_other place entries (Entry.Maker items all) not = absurd (not items all refl)
opened_other place entries entry not = refl

pub opened_same : (entries : List Entry) (place : ℕ) (entry : Entry) → slice_get entries place ≡ Some entry → ((items : CoreItems) (all : Bool) → entry ≡ Entry.Maker items all → ⊥) →
    map view_entry (slice_set entries place entry) ≡ opened place (map view_entry entries)
opened_same entries place entry is not =
    map-set_same view_entry entries place entry entry (ap view_entry (sym (get_or_from_slice_get entries place entry entry is)))
    ∙ sym (opened_other place (map view_entry entries) entry not)
    ∙ ap (opened_at place (map view_entry entries)) (sym (at_place entries place (Some entry) is))

-- ---- those that are held

either_true : (b : Bool) → (if b then true else true) ≡ true
either_true true = refl
either_true false = refl

held_any : (entries : Entries) (k : ℕ) → is_at is_held (slice_get entries k) ≡ true → any_held entries ≡ true
held_any [] k is = absurd cc
held_any (e ∷ entries) zero is = ap (λ held. if held then true else any_held entries) is
held_any (e ∷ entries) (suc k) is = ap (λ any. if is_held e then true else any) (held_any entries k is) ∙ either_true (is_held e)

none_up : (entries : Entries) → any_held entries ≡ false → up_to_held entries ≡ 0
none_up [] none = refl
none_up (e ∷ entries) none = ap (λ any. if any then suc (up_to_held entries) else 0) none

up_to_last : (entries : Entries) (k : ℕ) → is_at is_held (slice_get entries k) ≡ true → any_held (drop (suc k) entries) ≡ false → up_to_held entries ≡ suc k
up_to_last [] k held none = absurd cc
up_to_last (e ∷ entries) zero held none =
    ap (λ any. if any then suc (up_to_held entries) else 0) (held_any (e ∷ entries) zero held) ∙ ap suc (none_up entries none)
up_to_last (e ∷ entries) (suc k) held none =
    ap (λ any. if any then suc (up_to_held entries) else 0) (held_any (e ∷ entries) (suc k) held) ∙ ap suc (up_to_last entries k held none)

-- the place behind the last one that is held
pub behind_last : (entries : Entries) (place k : ℕ) → place < k → is_at is_held (slice_get entries k) ≡ true → any_held (drop (suc k) entries) ≡ false → behind_held place entries ≡ suc k
behind_last [] place k above held none = absurd cc
behind_last (e ∷ entries) place zero above held none = absurd (not-suc-le-zero above)
behind_last (e ∷ entries) zero (suc k) above held none = omega (arith, up_to_last entries k held none)
behind_last (e ∷ entries) (suc place) (suc k) above held none = omega (arith, behind_last entries place k (le_of_suc-le-suc above) held none)

pub behind_none : (entries : Entries) (place : ℕ) → any_held (drop (suc place) entries) ≡ false → behind_held place entries ≡ suc place
behind_none entries place none = omega (arith, none_up (drop (suc place) entries) none)

pub none_here : (entries : Entries) (k : ℕ) → is_at is_held (slice_get entries k) ≡ false → any_held (drop (suc k) entries) ≡ false → any_held (drop k entries) ≡ false
none_here [] zero held none = refl
none_here [] (suc k) held none = refl
none_here (e ∷ entries) zero held none = ap (λ is. if is then true else any_held entries) held ∙ none
none_here (e ∷ entries) (suc k) held none = none_here entries k held none

-- ---- many of one kind

more_last : (n : ℕ) (entry : EntryValue) → more n entry ++ entry ∷ [] ≡ more (suc n) entry
more_last zero entry = refl
more_last (suc n) entry = ap (λ those. entry ∷ those) (more_last n entry)

pub more_next : (n : ℕ) (entry : EntryValue) (entries now after : Entries) → now ≡ entries ++ more n entry → after ≡ now ++ entry ∷ [] → after ≡ entries ++ more (n + 1) entry
more_next n entry entries now after now_is after_is =
    after_is ∙ ap (λ those. those ++ entry ∷ []) now_is ∙ append_assoc entries (more n entry) (entry ∷ []) ∙ ap (λ those. entries ++ those) (more_last n entry) ∙ ap (λ m. entries ++ more m entry) (sym (add-one n))
