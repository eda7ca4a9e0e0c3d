-- What is taken off the entries: a value on top, and the values behind a place.
use Rattle.std.proofs.Common.{◌≡◌, ℕ, suc, ◌+◌, ◌-◌, ◌≤◌, false, List, [], ◌∷◌, ◌++◌, length, length-append, take, drop, Option, Some, None, refl, ap, ap₂, ◌∙◌, arith, le-leb, eq-eqb}
use Rattle.std.proofs.Math.Seq.{drop-append_seam, take-append_seam}
use Rattle.std.proofs.lemmas.Option.{same_Some}
use Rattle.std.specs.Prelude.{option_map, option_and_then, slice_get, if◌then◌else◌}
use Rattle.core_expr.specs.Values.{Value, Values, no_values}
use Rattle.core_expr.specs.Values as values
use Rattle.recover_expr.specs.Entries.{Entries, EntryValue, before_values, single_of, singles_of, singles_with, single_alone, take_from, take_singles, take_at, take_list, take_open, open_alone, open_entry, listed}
use Rattle.recover_expr.specs.Lists.{value_count}
use Rattle.reads_back.proofs.Comes.{AreEntries}
use Rattle.reads_back.proofs.Tests.{both_hold}

pub before_some : (single : Option Value) (singles : Option Values) (vs : Values) → before_values single singles ≡ Some vs → (v : Value) × (rest : Values) × (single ≡ Some v) × (singles ≡ Some rest) × (values.and_value v rest ≡ vs)
before_some (Some v) (Some rest) vs is = (v, rest, refl, refl, same_Some _ _ is)
before_some (Some v) None vs is = cc
before_some None singles vs is = cc

pub count_of_entries : (entries : Entries) (vs : Values) → AreEntries entries vs → length entries ≡ value_count vs
count_of_entries [] vs are = ap value_count (same_Some no_values vs are)
count_of_entries (entry ∷ entries) vs are =
    let all = before_some (single_of entry) (singles_of entries) vs are in
    ap suc (count_of_entries entries all.1 all.3) ∙ ap value_count all.4

-- an entry before others
pub more_entries : (entry : EntryValue) (entries : Entries) (v : Value) (vs : Values) → single_of entry ≡ Some v → AreEntries entries vs → AreEntries (entry ∷ entries) (values.and_value v vs)
more_entries entry entries v vs single are = ap₂ before_values single are

pub at_place : {A : Type 0} (before : List A) (x : A) (behind : List A) → slice_get (before ++ x ∷ behind) (length before) ≡ Some x
at_place [] x behind = refl
at_place (y ∷ before) x behind = at_place before x behind

-- what stands behind a place is taken off
pub behind_taken : (before behind : Entries) (first : ℕ) → first ≡ length before → take_from first (before ++ behind) ≡ Some (behind, before)
behind_taken before behind first is =
    let all = before ++ behind in
    let within : first ≤ length all = omega (arith, length-append before behind) in
    let rest = ap (λ n. drop n all) is ∙ drop-append_seam before behind in
    let front = ap (λ n. take n all) is ∙ take-append_seam before behind in
    ap (λ there. if there then Some (drop first all, take first all) else None) (le-leb first (length all) within) ∙ ap₂ (λ (rest front : Entries). Some (rest, front)) rest front

pub top_taken : (before : Entries) (entry : EntryValue) (v : Value) (place : ℕ) → single_of entry ≡ Some v → place ≡ length before → take_at place (before ++ entry ∷ []) ≡ Some (v, before)
top_taken before entry v place single is =
    let all = before ++ entry ∷ [] in
    let rest = ap (λ n. drop n all) is ∙ drop-append_seam before (entry ∷ []) in
    let front = ap (λ n. take n all) is ∙ take-append_seam before (entry ∷ []) in
    ap₂ (λ (rest front : Entries). option_map (λ v. (v, front)) (single_alone rest)) rest front ∙ ap (option_map (λ v. (v, before))) single

-- all values of the one on top
pub open_taken : (before : Entries) (v : Value) → take_open (before ++ open_entry v ∷ []) ≡ Some (v, before)
open_taken before v =
    let all = before ++ open_entry v ∷ [] in
    let place : length all - 1 ≡ length before = omega (arith, length-append before (open_entry v ∷ [])) in
    let rest = ap (λ n. drop n all) place ∙ drop-append_seam before (open_entry v ∷ []) in
    let front = ap (λ n. take n all) place ∙ take-append_seam before (open_entry v ∷ []) in
    ap₂ (λ (rest front : Entries). option_map (λ v. (v, front)) (open_alone rest)) rest front

-- a field of a word counts one more than there are
pub list_taken : (before entries : Entries) (vs : Values) (first field : ℕ) → AreEntries entries vs → first ≡ length before → field ≡ suc (value_count vs) → take_list first field (before ++ entries) ≡ Some (record { values = vs; all = false }, before)
list_taken before entries vs first field are is counts =
    let all = before ++ entries in
    let size : length all ≡ length before + value_count vs = length-append before entries ∙ ap (λ n. length before + n) (count_of_entries entries vs are) in
    let there = both_hold _ _ (le-leb first (length all) (omega arith)) (eq-eqb (length all - first) (value_count vs) (omega arith)) in
    ap (λ n. take_list first n all) counts
    ∙ ap (λ there. if there then option_map listed (take_singles first all) else None) there
    ∙ ap (λ taken. option_map listed (option_and_then singles_with taken)) (behind_taken before entries first is)
    ∙ ap (λ singles. option_map listed (option_map (λ vs. (vs, before)) singles)) are
