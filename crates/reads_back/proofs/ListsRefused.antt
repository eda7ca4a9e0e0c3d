-- Lists of values in which a function captures its own register are not written.
use Rattle.std.proofs.Common.{◌≡◌, ℕ, suc, ◌&&◌, Bool, true, false, nat_le, nat_lt, List, [], ◌∷◌, length, Option, Some, None, refl, sym, ap, ◌∙◌, subst, arith, if◌then◌else◌}
use Rattle.std.proofs.Math.Bool.{or_assoc, or_comm}
use Rattle.std.specs.Prelude.{◌==◌, ◌||◌, take}
use Rattle.core_expr.specs.Values.{Value, Values, and_value, nil_value, no_values, value_operand}
use Rattle.recover_expr.specs.Entries.{Entries, Listed, maker_entry, method_entry, open_entry, singles_of, value_entry}
use Rattle.recover_expr.specs.Lists.{Straight, adjusted, all_of, assigned_values, before_last, ends_with_nil, first_place, fits_places, is_last, is_nil, leading, list_and_straight, split_last, stored_to, stored_values, straight_operand, straight_value, straight_written, value_count}
use Rattle.recover_expr.specs.Situation.{Function, Situation}
use Rattle.recover_expr.specs.Writing.{list_written}
use Rattle.recover_expr.specs.declared.stores.Place.{Place}
use Rattle.recover_expr.specs.declared.stores.Store.{Store}
use Rattle.reads_back.proofs.EachSome.{Each, each_either, each_if, each_map, each_next, each_none, each_refused, each_some, each_then, each_where}
use Rattle.reads_back.proofs.OwnFirst.{first_own, own_in, singles_own}
use Rattle.reads_back.proofs.OwnValues.{holds_own, operand_own, values_own}
use Rattle.reads_back.proofs.OwnWords.{list_refused, operand_refused, value_refused}
use Rattle.reads_back.proofs.Tests.{not_so, second_of_both, zero_not}

-- ---- for so many places

-- what gives several values or is a method fits no place as the first
none_fits : (same fit below missing other : Bool) → same ≡ false → (if same then fit else if below && false then missing else other && false) ≡ false
none_fits true fit below missing other is = not_so (sym is)
none_fits false fit true missing true is = refl
none_fits false fit true missing false is = refl
none_fits false fit false missing true is = refl
none_fits false fit false missing false is = refl

pub adjusted_refused : (f : Function) (places : ℕ) (may_be_none : Bool) (taken : ℕ) (entries : Entries) (s : Situation) → first_own entries ≡ true → Each (λ p. ⊥) (adjusted f places may_be_none taken entries s)
adjusted_refused f places may_be_none taken [] s own = not_so own
adjusted_refused f places may_be_none taken (value_entry v ∷ entries) s own =
    let whole = value_entry v ∷ entries in
    each_then {Holds = λ (list : Listed). values_own list.values ≡ true} (each_then singles (λ vs is. each_where (fits_places places may_be_none whole vs) (each_some is))) (λ list is. list_refused f taken list s is)
  where
    one_more : suc (leading entries) ≡ leading (value_entry v ∷ entries)
    one_more = omega arith

    singles : Each (λ vs. values_own vs ≡ true) (singles_of (take (leading (value_entry v ∷ entries)) (value_entry v ∷ entries)))
    singles = subst (λ (count : ℕ). Each (λ vs. values_own vs ≡ true) (singles_of (take count (value_entry v ∷ entries)))) one_more (singles_own false (value_entry v ∷ take (leading entries) entries) own)
adjusted_refused f places may_be_none taken (maker_entry items all ∷ entries) s own = not_so own
adjusted_refused f places may_be_none taken (open_entry v ∷ entries) s own =
    each_then {Holds = λ (list : Listed). ⊥} (each_refused (fits_places places may_be_none (open_entry v ∷ entries) no_values) _
    (none_fits (0 == suc (length entries)) (nat_le places (suc (length entries))) (nat_lt 0 (suc (length entries))) ((places == suc (length entries)) && (may_be_none || false)) (places == suc (length entries)) (zero_not (length entries)))) (λ list never. absurd never)
adjusted_refused f places may_be_none taken (method_entry v name ∷ entries) s own =
    each_then {Holds = λ (list : Listed). ⊥} (each_refused (fits_places places may_be_none (method_entry v name ∷ entries) no_values) _
    (none_fits (0 == suc (length entries)) (nat_le places (suc (length entries))) (nat_lt 0 (suc (length entries))) ((places == suc (length entries)) && (may_be_none || false)) (places == suc (length entries)) (zero_not (length entries)))) (λ list never. absurd never)
adjusted_refused f places may_be_none taken (entry ∷ entries) s own = not_so own

-- ---- what assignments store

abbrev straight_own : Straight → Bool
straight_own (straight_value v) = holds_own v
straight_own (straight_operand o) = operand_own o

straight_refused : (f : Function) (taken : ℕ) (last : Straight) (s : Situation) → straight_own last ≡ true → Each (λ p. ⊥) (straight_written f taken last s)
straight_refused f taken (straight_value v) s own = value_refused f taken v s own
straight_refused f taken (straight_operand o) s own = operand_refused f taken o s own

both_refused : (f : Function) (taken : ℕ) (vs : Values) (last : Straight) (s : Situation) → (values_own vs || straight_own last) ≡ true → Each (λ p. ⊥) (list_and_straight f taken vs last s)
both_refused f taken vs last s own = by (values_own vs) refl own
  where
    by : (first : Bool) → values_own vs ≡ first → (first || straight_own last) ≡ true → Each (λ p. ⊥) (list_and_straight f taken vs last s)
    by true is own = each_then (list_refused f taken (all_of vs) s is) (λ list never. absurd never)
    by false is own = each_next (list_written f taken (all_of vs) s) (λ list. each_map _ (straight_refused f list.1 last list.2 own) (λ p never. never))

split_same : (vs : Values) → Each (λ p. (values_own p.0 || holds_own p.1) ≡ values_own vs) (split_last vs)
split_same no_values = each_none
split_same (and_value v no_values) = each_some (or_comm false (holds_own v))
split_same (and_value v (and_value w rest)) = each_map _ (split_same (and_value w rest)) (λ p same. or_assoc (holds_own v) (values_own p.0) (holds_own p.1) ∙ ap (λ rest. holds_own v || rest) same)

pub nil_free : (v : Value) → is_nil v ≡ true → holds_own v ≡ false
nil_free nil_value is = refl
nil_free v is = not_so is

-- a nil that is left out holds none
before_nil : (vs : Values) → ends_with_nil vs ≡ true → values_own vs ≡ true → values_own (before_last (split_last vs)) ≡ true
before_nil vs nil own = by (split_last vs) (split_same vs) nil
  where
    by : (there : Option (Values × Value)) → Each (λ p. (values_own p.0 || holds_own p.1) ≡ values_own vs) there → is_last is_nil there ≡ true → values_own (before_last there) ≡ true
    by None same nil = not_so nil
    by (Some p) same nil = or_comm false (values_own p.0) ∙ ap (λ last. values_own p.0 || last) (sym (nil_free p.1 nil)) ∙ same.at p refl ∙ own

stored_refused : (f : Function) (place : Option Place) (count taken : ℕ) (vs : Values) (s : Situation) → values_own vs ≡ true → Each (λ p. ⊥) (stored_to f place count taken vs s)
stored_refused f (Some (Place.Index on key)) count taken vs s own = each_then (split_same vs) (λ p same. both_refused f taken p.0 (straight_operand (value_operand p.1)) s (same ∙ own))
stored_refused f (Some (Place.Local r)) count taken vs s own =
    each_either (nat_lt 1 count && ends_with_nil vs) (λ is. list_refused f taken (record { values = before_last (split_last vs); all = false }) s (before_nil vs (second_of_both (nat_lt 1 count) (ends_with_nil vs) is) own)) (list_refused f taken (all_of vs) s own)
stored_refused f place count taken vs s own = list_refused f taken (all_of vs) s own

stored_values_refused : (f : Function) (stores : List Store) (taken : ℕ) (entries : Entries) (s : Situation) → first_own entries ≡ true → Each (λ p. ⊥) (stored_values f stores taken entries s)
stored_values_refused f stores taken entries s own =
    each_if (nat_lt (leading entries) (length entries)) (adjusted_refused f (length stores) false taken entries s own)
    (each_then (singles_own false entries own) (λ vs is. each_if (value_count vs == length stores) (stored_refused f (first_place stores) (length stores) taken vs s is) (list_refused f taken (all_of vs) s is)))

abbrev pub last_own : Option Straight → Bool
last_own None = false
last_own (Some last) = straight_own last

-- the values of an assignment, where one of them is in the lowest register or goes straight to the last target
pub assigned_refused : (f : Function) (stores : List Store) (taken : ℕ) (entries : Entries) (last : Option Straight) (s : Situation) → own_in (last_own last) entries ≡ true → Each (λ p. ⊥) (assigned_values f stores taken entries last s)
assigned_refused f stores taken entries None s own = stored_values_refused f stores taken entries s own
assigned_refused f stores taken entries (Some last) s own = each_then (singles_own (straight_own last) entries own) (λ vs is. both_refused f taken vs last s (or_comm (values_own vs) (straight_own last) ∙ is))
