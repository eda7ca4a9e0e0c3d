-- Which values so many locals are given by what stands in registers: single values, behind which some are missing, or further ones of the last value.
use Rattle.std.proofs.Common.{◌≡◌, ℕ, zero, suc, ◌+◌, ◌-◌, ◌<◌, ◌≤◌, nat_lt, nat_le, Bool, true, false, ◌&&◌, List, [], ◌∷◌, ◌++◌, append-nil, append_assoc, length, length-append, take, take_all, drop, Option, Some, None, refl, sym, ap, ap₂, ◌∙◌, subst, arith, le-leb, lt-ltb, eq-eqb}
use Rattle.std.proofs.Math.Seq.{drop-append_seam, take-append_seam}
use Rattle.std.proofs.lemmas.Bool.{eqb-true, ne_eqb}
use Rattle.std.proofs.lemmas.Option.{same_Some}
use Rattle.std.specs.List.{list_all}
use Rattle.std.specs.Prelude.{◌==◌, ◌||◌, not, option_and_then, option_map, if◌then◌else◌}
use Rattle.core_expr.specs.Counting.{left_by, taken_behind, taken_behind_values}
use Rattle.core_expr.specs.Making.{deepest_item}
use Rattle.core_expr.specs.Places.{Place}
use Rattle.core_expr.specs.Values.{Value, nil_value, function_value, table_value, Values, no_values, and_value, Inner, ItemList}
use Rattle.core_expr.specs.Writing.{can_write, can_write_values, is_multiple}
use Rattle.recover_expr.specs.Declaring.{captures_itself, ends_with_nil as ends_so, is_nil_entry, is_one_value, is_own_function, without_nil as without_last}
use Rattle.recover_expr.specs.Entries.{EntryValue, value_entry, maker_entry, missing_entry, more_entry, Entries, and_last_value, more, single_of, singles_of}
use Rattle.recover_expr.specs.Lists.{adjusted_list, adjusted_to, are_missing, before_last, behind_leading, ends_multiple, fits_places, is_further, is_last, is_missing, is_nil, leading, split_last, value_count}
use Rattle.reads_back.specs.Acted.{ends_with_nil, with_nil, without_nil}
use Rattle.reads_back.proofs.Comes.{AreEntries}
use Rattle.reads_back.proofs.DeclaredValues.{nil_last}
use Rattle.reads_back.proofs.TableItems.{single_is}
use Rattle.reads_back.proofs.TakenEntries.{before_some, count_of_entries, more_entries}
use Rattle.reads_back.proofs.Tests.{and_not, both_hold, first_of_both, given_is, not_more, not_so, second_of_both, nor}

-- ---- single values one by one

-- these entries are these values
abbrev AreSingles : Entries → Values → Type 0
AreSingles [] no_values = Unit {0}
AreSingles (entry ∷ entries) (and_value v vs) = (single_of entry ≡ Some v) × AreSingles entries vs
AreSingles entries vs = ⊥

pub singles_are : (entries : Entries) (vs : Values) → AreEntries entries vs → AreSingles entries vs
singles_are [] vs are = subst (AreSingles []) (same_Some no_values vs are) tt
singles_are (entry ∷ entries) vs are =
    let all = before_some (single_of entry) (singles_of entries) vs are in
    subst (AreSingles (entry ∷ entries)) all.4 (all.2, singles_are entries all.1 all.3)

entries_are : (entries : Entries) (vs : Values) → AreSingles entries vs → AreEntries entries vs
entries_are [] no_values are = refl
entries_are [] (and_value v vs) are = absurd are
entries_are (entry ∷ entries) no_values are = absurd are
entries_are (entry ∷ entries) (and_value v vs) are = more_entries entry entries v vs are.0 (entries_are entries vs are.1)

-- and one value more
singles_end : (entries : Entries) (vs : Values) (v : Value) → AreSingles entries vs → AreSingles (entries ++ value_entry v ∷ []) (and_last_value vs v)
singles_end [] no_values v are = (refl, tt)
singles_end [] (and_value w vs) v are = absurd are
singles_end (entry ∷ entries) no_values v are = absurd are
singles_end (entry ∷ entries) (and_value w vs) v are = (are.0, singles_end entries vs v are.1)

pub entries_end : (entries : Entries) (vs : Values) (v : Value) → AreEntries entries vs → AreEntries (entries ++ value_entry v ∷ []) (and_last_value vs v)
entries_end entries vs v are = entries_are _ _ (singles_end entries vs v (singles_are entries vs are))

-- a test that is the same of a constructor and of its value tells of the entry what it tells of its value
test_same : (P : EntryValue → Bool) → ((items : ItemList) (all : Bool) (depth : ℕ) → P (maker_entry items all) ≡ P (value_entry (table_value items all depth))) →
    (entry : EntryValue) (v : Value) → single_of entry ≡ Some v → P entry ≡ P (value_entry v)
test_same P tables (value_entry w) v is = ap (λ v. P (value_entry v)) (same_Some w v is)
test_same P tables (maker_entry items all) v is =
    let depth = suc (deepest_item items) in
    tables items all depth ∙ ap (λ v. P (value_entry v)) (given_is (nat_lt (deepest_item items) 400) (table_value items all depth) v is)
test_same P tables entry v is = cc

nil_same : (entry : EntryValue) (v : Value) → single_of entry ≡ Some v → is_nil_entry entry ≡ is_nil v
nil_same = test_same is_nil_entry (λ items all depth. refl)

one_same : (entry : EntryValue) (v : Value) → single_of entry ≡ Some v → is_one_value entry ≡ not (is_multiple v)
one_same = test_same is_one_value (λ items all depth. refl)

ends_same : (entries : Entries) (vs : Values) → AreSingles entries vs → ends_so entries ≡ ends_with_nil vs
ends_same [] no_values are = refl
ends_same (a ∷ []) (and_value v no_values) are = nil_same a v are.0
ends_same (a ∷ b ∷ []) (and_value v (and_value w no_values)) are = ap₂ (λ (nil one : Bool). nil && one) (nil_same b w are.1.0) (one_same a v are.0)
ends_same (a ∷ b ∷ c ∷ entries) (and_value v (and_value w (and_value x vs))) are = ends_same (b ∷ c ∷ entries) (and_value w (and_value x vs)) are.1
ends_same entries vs are = absurd (assumption are)

-- ---- single values, and others behind them

leading_are : (before behind : Entries) (vs : Values) → AreSingles before vs → leading behind ≡ 0 → leading (before ++ behind) ≡ length before
leading_are [] behind vs are none = none
leading_are (entry ∷ before) behind no_values are none = absurd are
leading_are (entry ∷ before) behind (and_value v vs) are none =
    let rest = leading_are before behind vs are.1 none in
    ap (λ single. if single then 1 + leading (before ++ behind) else 0) (single_is entry v are.0) ∙ omega (arith, rest)

-- single values alone
pub all_lead : (entries : Entries) (vs : Values) → AreEntries entries vs → leading entries ≡ length entries
all_lead entries vs are = ap leading (sym (append-nil entries)) ∙ leading_are entries [] vs (singles_are entries vs are) refl

-- what is found where others stand behind the single values
module _ (before behind : Entries) (vs : Values) (are : AreEntries before vs) (none : leading behind ≡ 0) where
  abbrev whole : Entries
  whole = before ++ behind

  up_to : leading whole ≡ length before
  up_to = leading_are before behind vs (singles_are before vs are) none

  rest_is : behind_leading whole ≡ behind
  rest_is = ap (λ n. drop n whole) up_to ∙ drop-append_seam before behind

  module _ (some : 0 < length behind) where
    size : length whole ≡ length before + length behind
    size = length-append before behind

    pub others_follow : nat_lt (leading whole) (length whole) ≡ true
    others_follow = lt-ltb (leading whole) (length whole) (omega (arith, up_to, some, size))

    missing_there : are_missing whole ≡ list_all is_missing behind
    missing_there = ap₂ (λ (more : Bool) (rest : Entries). more && list_all is_missing rest) others_follow rest_is

    module _ (count : ℕ) (may_be_none : Bool) (counts : count ≡ length before + length behind) where
      abbrev allowed : Bool
      allowed = may_be_none || nat_lt 0 (length before)

      values_found : adjusted_list count may_be_none whole ≡ adjusted_to count may_be_none whole vs
      values_found =
          ap (λ front. option_and_then (adjusted_to count may_be_none whole) (singles_of front)) (ap (λ n. take n whole) up_to ∙ take-append_seam before behind)
          ∙ ap (option_and_then (adjusted_to count may_be_none whole)) are

      fits_as : (missing : Bool) → list_all is_missing behind ≡ missing → fits_places count may_be_none whole vs ≡ (if missing then allowed else (list_all is_further behind && ends_multiple vs))
      fits_as missing is =
          let further = λ (rest : Entries). list_all is_further rest && ends_multiple vs in
          let others = λ (n : ℕ) (missing : Bool) (rest : Entries). if missing then (count == length whole) && (may_be_none || nat_lt 0 n) else (count == length whole) && further rest in
          let either = λ (n : ℕ) (all : Bool). if all then nat_le count (length whole) else others n (are_missing whole) (behind_leading whole) in
          ap (λ n. either n (n == length whole)) up_to
          ∙ ap (either (length before)) (ne_eqb (length before) (length whole) (λ same. omega (arith, some, size, same)))
          ∙ ap₂ (others (length before)) (missing_there ∙ is) rest_is
          ∙ ap (λ all. if missing then all && allowed else all && further behind) (eq-eqb count (length whole) (omega (arith, counts, size)))

      adjusted_where : (missing : Bool) → list_all is_missing behind ≡ missing → (if missing then allowed else (list_all is_further behind && ends_multiple vs)) ≡ true →
          adjusted_list count may_be_none whole ≡ Some (record { values = vs; all = not missing })
      adjusted_where missing is fits =
          values_found
          ∙ ap₂ (λ (fits missing : Bool). if fits then Some (record { values = vs; all = not missing }) else None) (fits_as missing is ∙ fits) (missing_there ∙ is)

-- ---- some are missing, or are further ones of the last value

pub length_more : (n : ℕ) (entry : EntryValue) → length (more n entry) ≡ n
length_more zero entry = refl
length_more (suc n) entry = ap suc (length_more n entry)

all_more : (P : EntryValue → Bool) (entry : EntryValue) → P entry ≡ true → (n : ℕ) → list_all P (more n entry) ≡ true
all_more P entry is zero = refl
all_more P entry is (suc n) = both_hold _ _ is (all_more P entry is n)

-- all of them only where that is allowed
pub missing_adjusted : (count : ℕ) (may_be_none : Bool) (n : ℕ) (before : Entries) (vs : Values) → AreEntries before vs → (may_be_none || nat_lt 0 (length before)) ≡ true → count ≡ length before + suc n →
    adjusted_list count may_be_none (before ++ more (suc n) missing_entry) ≡ Some (record { values = vs; all = false })
missing_adjusted count may_be_none n before vs are allowed counts =
    let behind = more (suc n) missing_entry in
    let size = length_more (suc n) missing_entry in
    adjusted_where before behind vs are refl (omega (arith, size)) count may_be_none (omega (arith, counts, size)) true (all_more is_missing missing_entry refl (suc n)) allowed

pub further_adjusted : (count : ℕ) (may_be_none : Bool) (n : ℕ) (before : Entries) (vs : Values) → AreEntries before vs → count ≡ length before + suc n → ends_multiple vs ≡ true →
    adjusted_list count may_be_none (before ++ more (suc n) more_entry) ≡ Some (record { values = vs; all = true })
further_adjusted count may_be_none n before vs are counts several =
    let behind = more (suc n) more_entry in
    let size = length_more (suc n) more_entry in
    adjusted_where before behind vs are refl (omega (arith, size)) count may_be_none (omega (arith, counts, size)) false refl (both_hold _ _ (all_more is_further more_entry refl (suc n)) several)

-- what stands last is no nil
ends_other : (entries : Entries) (last : EntryValue) → is_nil_entry last ≡ false → ends_so (entries ++ last ∷ []) ≡ false
ends_other [] last other = other
ends_other (a ∷ []) last other = ap (λ nil. nil && is_one_value a) other
ends_other (a ∷ b ∷ []) last other = ends_other (b ∷ []) last other
ends_other (a ∷ b ∷ c ∷ entries) last other = ends_other (b ∷ c ∷ entries) last other

last_more : (n : ℕ) (entry : EntryValue) → more (suc n) entry ≡ more n entry ++ entry ∷ []
last_more zero entry = refl
last_more (suc n) entry = ap (λ entries. entry ∷ entries) (last_more n entry)

all_stay : (count n : ℕ) (before : Entries) (entry : EntryValue) → is_nil_entry entry ≡ false → without_last count (before ++ more (suc n) entry) ≡ before ++ more (suc n) entry
all_stay count n before entry other =
    let all = before ++ more (suc n) entry in
    let ends : ends_so all ≡ false =
    ap ends_so (ap (λ behind. before ++ behind) (last_more n entry) ∙ sym (append_assoc before (more n entry) (entry ∷ []))) ∙ ends_other (before ++ more n entry) entry other in
    ap (λ left_out. if left_out then take (length all - 1) all ++ missing_entry ∷ [] else all) (ap (λ ends. (length all == count) && ends) ends ∙ and_not (length all == count))

pub with_missing : (count n : ℕ) (before : Entries) (vs : Values) → AreEntries before vs → count ≡ length before + suc n →
    adjusted_list count true (without_last count (before ++ more (suc n) missing_entry)) ≡ Some (record { values = vs; all = false })
with_missing count n before vs are counts = ap (adjusted_list count true) (all_stay count n before missing_entry refl) ∙ missing_adjusted count true n before vs are refl counts

pub with_further : (count n : ℕ) (before : Entries) (vs : Values) → AreEntries before vs → count ≡ length before + suc n → ends_multiple vs ≡ true →
    adjusted_list count true (without_last count (before ++ more (suc n) more_entry)) ≡ Some (record { values = vs; all = true })
with_further count n before vs are counts several = ap (adjusted_list count true) (all_stay count n before more_entry refl) ∙ further_adjusted count true n before vs are counts several

-- ---- as many as there are locals, or more: a last nil is left out where they are as many

pub singles_adjusted : (count : ℕ) (may_be_none : Bool) (entries : Entries) (vs : Values) → AreEntries entries vs → count ≤ length entries → adjusted_list count may_be_none entries ≡ Some (record { values = vs; all = true })
singles_adjusted count may_be_none entries vs are enough =
    ap (λ front. option_and_then (adjusted_to count may_be_none entries) (singles_of front)) (take_all (leading entries) entries (omega (arith, all)))
    ∙ ap (option_and_then (adjusted_to count may_be_none entries)) are
    ∙ ap₂ (λ (fits missing : Bool). if fits then Some (record { values = vs; all = not missing }) else None) fits none_missing
  where
    all : leading entries ≡ length entries
    all = all_lead entries vs are

    fits : fits_places count may_be_none entries vs ≡ true
    fits =
        let others = if are_missing entries then (count == length entries) && (may_be_none || nat_lt 0 (leading entries)) else (count == length entries) && (list_all is_further (behind_leading entries) && ends_multiple vs) in
        let either = λ (all : Bool). if all then nat_le count (length entries) else others in
        ap either (eq-eqb (leading entries) (length entries) all) ∙ le-leb count (length entries) enough

    none_missing : are_missing entries ≡ false
    none_missing =
        let rest = list_all is_missing (behind_leading entries) in
        ap (λ n. nat_lt n (length entries) && rest) all ∙ ap (λ more. more && rest) (not_more (length entries))

pub count_last : (ws : Values) (v : Value) → value_count (and_last_value ws v) ≡ suc (value_count ws)
count_last no_values v = refl
count_last (and_value w ws) v = ap suc (count_last ws v)

-- all but the last
none_last : (ws : Values) (v : Value) → AreSingles [] (and_last_value ws v) → ⊥
none_last no_values v are = are
none_last (and_value w ws) v are = are

all_but_last : (entries : Entries) (ws : Values) (v : Value) → AreSingles entries (and_last_value ws v) → AreSingles (take (length entries - 1) entries) ws
all_but_last [] ws v are = absurd (none_last ws v are)
all_but_last (a ∷ []) no_values v are = tt
all_but_last (a ∷ []) (and_value w ws) v are = absurd (none_last ws v are.1)
all_but_last (a ∷ b ∷ entries) no_values v are = absurd are.1
all_but_last (a ∷ b ∷ entries) (and_value w ws) v are =
    let fewer : length (a ∷ b ∷ entries) - 1 ≡ suc (length (b ∷ entries) - 1) = omega arith in
    subst (λ (n : ℕ). AreSingles (take n (a ∷ b ∷ entries)) (and_value w ws)) (sym fewer) (are.0, all_but_last (b ∷ entries) ws v are.1)

pub with_singles : (count : ℕ) (entries : Entries) (vs : Values) → AreEntries entries vs → count ≤ length entries →
    adjusted_list count true (without_last count entries) ≡ Some (without_nil ((value_count vs == count) && ends_with_nil vs) vs)
with_singles count entries vs are enough =
    let left_out = ap₂ (λ (n : ℕ) (ends : Bool). (n == count) && ends) (count_of_entries entries vs are) (ends_same entries vs (singles_are entries vs are)) in
    ap (λ left_out. adjusted_list count true (if left_out then take (length entries - 1) entries ++ missing_entry ∷ [] else entries)) left_out ∙ by ((value_count vs == count) && ends_with_nil vs) refl
  where
    by : (left_out : Bool) → ((value_count vs == count) && ends_with_nil vs) ≡ left_out →
        adjusted_list count true (if left_out then take (length entries - 1) entries ++ missing_entry ∷ [] else entries) ≡ Some (without_nil left_out vs)
    by false is = singles_adjusted count true entries vs are enough
    by true is =
        let ws = before_last (split_last vs) in
        let front = take (length entries - 1) entries in
        let last = nil_last vs (second_of_both (value_count vs == count) (ends_with_nil vs) is) in
        let singles = all_but_last entries ws nil_value (subst (AreSingles entries) (sym last) (singles_are entries vs are)) in
        let counts = eqb-true (value_count vs) count (first_of_both (value_count vs == count) (ends_with_nil vs) is) in
        let there = entries_are front ws singles in
        missing_adjusted count true 0 front ws there refl (omega (arith, counts, count_of_entries front ws there, count_last ws nil_value, ap value_count last))

-- ---- what a last value takes, and whether it is several

pub taken_end : (ws : Values) (v : Value) (n : ℕ) → taken_behind_values (and_last_value ws v) n ≡ taken_behind v (taken_behind_values ws n)
taken_end no_values v n = refl
taken_end (and_value w ws) v n = taken_end ws v (taken_behind w n)

pub taken_with : (missing_one : Bool) (vs : Values) (n : ℕ) → taken_behind_values (with_nil missing_one vs) n ≡ taken_behind_values vs n
taken_with true vs n = taken_end vs nil_value n
taken_with false vs n = refl

pub taken_without : (left_out : Bool) (vs : Values) (n : ℕ) → (left_out ≡ true → ends_with_nil vs ≡ true) → taken_behind_values (without_nil left_out vs).values n ≡ taken_behind_values vs n
taken_without true vs n ends = sym (taken_end (before_last (split_last vs)) nil_value n) ∙ ap (λ vs. taken_behind_values vs n) (nil_last vs (ends refl))
taken_without false vs n ends = refl

pub last_split : (ws : Values) (v : Value) → split_last (and_last_value ws v) ≡ Some (ws, v)
last_split no_values v = refl
last_split (and_value w no_values) v = refl
last_split (and_value w (and_value x ws)) v = ap (option_map (λ (p : Values × Value). (and_value w p.0, p.1))) (last_split (and_value x ws) v)

pub several_last : (ws : Values) (v : Value) → is_multiple v ≡ true → ends_multiple (and_last_value ws v) ≡ true
several_last ws v several = ap (is_last is_multiple) (last_split ws v) ∙ several

-- ---- none is a function that captures the register that it goes to

abbrev pub AreNotOwn : Values → Type 0
AreNotOwn no_values = Unit {0}
AreNotOwn (and_value v vs) = (is_own_function (value_entry v) ≡ false) × AreNotOwn vs

own_by : (at : Place) (fs : List (Option Inner)) (v : Value) → can_write at fs v ≡ true → is_own_function (value_entry v) ≡ false
own_by at fs (function_value number true) can = not_so can
own_by at fs v can = refl

-- none that can be written is
pub written_not_own : (at : Place) (fs : List (Option Inner)) (vs : Values) → can_write_values at fs vs ≡ true → AreNotOwn vs
written_not_own at fs no_values can = tt
written_not_own at fs (and_value v vs) can = (own_by at fs v (first_of_both _ _ can), written_not_own at (left_by v fs) vs (second_of_both (can_write at fs v) _ can))

-- a nil is not, which is left out
pub with_left_out : (left_out : Bool) (vs : Values) → (left_out ≡ true → ends_with_nil vs ≡ true) → AreNotOwn (without_nil left_out vs).values → AreNotOwn vs
with_left_out true vs ends plain = subst AreNotOwn (nil_last vs (ends refl)) (and_last (before_last (split_last vs)) plain)
  where
    and_last : (ws : Values) → AreNotOwn ws → AreNotOwn (and_last_value ws nil_value)
    and_last no_values plain = (refl, tt)
    and_last (and_value w ws) plain = (plain.0, and_last ws plain.1)
with_left_out false vs ends plain = plain

own_same : (entry : EntryValue) (v : Value) → single_of entry ≡ Some v → is_own_function entry ≡ is_own_function (value_entry v)
own_same = test_same is_own_function (λ items all depth. refl)

pub not_own : (entries : Entries) (vs : Values) → AreSingles entries vs → AreNotOwn vs → (behind : Entries) → captures_itself behind ≡ false → captures_itself (entries ++ behind) ≡ false
not_own [] no_values are plain behind none = none
not_own [] (and_value v vs) are plain behind none = absurd are
not_own (entry ∷ entries) no_values are plain behind none = absurd are
not_own (entry ∷ entries) (and_value v vs) are plain behind none = nor _ _ (own_same entry v are.0 ∙ plain.0) (not_own entries vs are.1 plain.1 behind none)

pub none_more : (entry : EntryValue) → is_own_function entry ≡ false → (n : ℕ) → captures_itself (more n entry) ≡ false
none_more entry other zero = refl
none_more entry other (suc n) = nor _ _ other (none_more entry other n)
