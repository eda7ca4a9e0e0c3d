-- Entries that are taken off, and the values in them.
use Rattle.std.proofs.Common.{◌≡◌, ◌∙◌, ap, subst, sym, refl, ℕ, zero, suc, ◌+◌, ◌≤◌, ◌<◌, true, false, Bool, List, [], ◌∷◌, ◌++◌, length, take, drop, map, Option, Some, None, Result, Ok, Err, arith, length-drop, if◌then◌else◌}
use Rattle.std.specs.Option.{SomeIff, option_eq}
use Rattle.std.specs.Prelude.{◌-◌, IfErr, option_map, option_and_then, nat_eq, get_or, slice_get}
use Rattle.std.specs.Result.{IsErrAnd}
use Rattle.std.proofs.lemmas.Bool.Decides.{nat_tests}
use Rattle.std.proofs.lemmas.Bool.{le-leb}
use Rattle.std.proofs.lemmas.List.{map-append, take-map, drop-map, length-map, same_from_push, take_more}
use Rattle.std.proofs.lemmas.Option.{slice_get-map, slice_get_read, same_Some}
use Rattle.core_expr.specs.Values.{Value, Values, no_values, and_value, view_core, values_of}
use Rattle.core_expr.specs.declared.cores.Core.{Core}
use Rattle.recover_expr.specs.Entries.{EntryValue, more_entry, method_entry, Entries, view_entry, IsLostOnlyWhere, single_of, before_values, singles_of, and_last_value, take_from, single_alone, take_at, method_alone, take_method, take_singles, take_open, Listed, listed_to, take_list}
use Rattle.recover_expr.specs.declared.lost.Lost.{Lost}
use Rattle.recover_expr.specs.declared.stack.Entry.{Entry}

-- what is lost where one thing holds is lost where another holds that follows
pub lost_where : {A B T : Type 0} (result : Result T Lost) → (A → B) → IfErr result (IsLostOnlyWhere A) → IfErr result (IsLostOnlyWhere B)
lost_where (Ok made) follows lost = tt
lost_where (Err (Lost.NotScheme pc)) follows lost = follows lost
lost_where (Err Lost.OutOfMemory) follows lost = tt

-- what is lost with what a call hands on
pub lost_with : {A B T : Type 0} (result : Result T Lost) (lost : Lost) → IsErrAnd result (λ other. other ≡ lost) → (A → B) → IsLostOnlyWhere A lost → IfErr result (IsLostOnlyWhere B)
lost_with (Ok made) lost is follows holds = tt
lost_with {A} {B} {T} (Err other) lost is follows holds =
    let failed : Result T Lost = Err lost in
    let so = lost_where failed follows holds in
    let P : Lost → Type 0 = λ l. IsLostOnlyWhere B l in
    subst P (sym is) so

-- ---- single values

-- a value more behind others
pub values_more : (cores : List Core) (core : Core) → values_of (cores ++ core ∷ []) ≡ and_last_value (values_of cores) (view_core core)
values_more [] core = refl
values_more (c ∷ cores) core = ap (and_value (view_core c)) (values_more cores core)

before_last : (first : Option Value) (values : Option Values) (last : Value) →
    before_values first (option_map (λ vs. and_last_value vs last) values) ≡ option_map (λ vs. and_last_value vs last) (before_values first values)
before_last None None last = refl
before_last None (Some vs) last = refl
before_last (Some v) None last = refl
before_last (Some v) (Some vs) last = refl

singles_more : (entries : Entries) (entry : EntryValue) (last : Value) → Some last ≡ single_of entry → singles_of (entries ++ entry ∷ []) ≡ option_map (λ vs. and_last_value vs last) (singles_of entries)
singles_more [] entry last is = ap (λ first. before_values first (Some no_values)) (sym is)
singles_more (e ∷ entries) entry last is = ap (before_values (single_of e)) (singles_more entries entry last is) ∙ before_last (single_of e) (singles_of entries) last

pub singles_next : (entries : List Entry) (entry : Entry) (cores after : List Core) (core : Core) →
    Some (values_of cores) ≡ singles_of (map view_entry entries) → Some (view_core core) ≡ single_of (view_entry entry) → after ≡ cores ++ core ∷ [] → Some (values_of after) ≡ singles_of (map view_entry (entries ++ entry ∷ []))
singles_next entries entry cores after core so_far core_is after_is =
    ap (λ those. Some (values_of those)) after_is
    ∙ ap Some (values_more cores core)
    ∙ ap (option_map (λ vs. and_last_value vs (view_core core))) so_far
    ∙ sym (singles_more (map view_entry entries) (view_entry entry) (view_core core) core_is)
    ∙ ap singles_of (sym (map-append view_entry entries (entry ∷ [])))

before_none : (first : Option Value) → before_values first None ≡ None
before_none None = refl
before_none (Some v) = refl

-- where those behind an entry are no values, neither are all
pub none_next : (entry : Entry) (left rest : List Entry) → left ≡ entry ∷ rest → singles_of (map view_entry rest) ≡ None → singles_of (map view_entry left) ≡ None
none_next entry left rest left_is none =
    ap (λ those. singles_of (map view_entry those)) left_is ∙ ap (before_values (single_of (view_entry entry))) none ∙ before_none (single_of (view_entry entry))

-- ---- what stands from a place on

pub taken_from : (entries before behind : List Entry) (first : ℕ) → first ≤ length entries → before ≡ take first entries → behind ≡ drop first entries →
    ◌≡◌ {A = Option (Entries × Entries)} (Some (map view_entry behind, map view_entry before)) (take_from first (map view_entry entries))
taken_from entries before behind first within before_is behind_is =
    let all = map view_entry entries in
    let both : Option (Entries × Entries) = Some (drop first all, take first all) in
    let low : first ≤ length all = omega (arith, length-map entries view_entry) in
    (λ i. Some ((ap (map view_entry) behind_is ∙ sym (drop-map view_entry first entries)) i, (ap (map view_entry) before_is ∙ sym (take-map view_entry first entries)) i))
    ∙ ap (λ is. if is then both else None) (sym (le-leb first (length all) low))

-- ---- what stands in the highest registers

-- the lowest of so many highest ones is not at this place
pub not_highest : (length place count : ℕ) (found : Option ℕ) (is : Bool) → SomeIff found (count ≤ length) (length - count) → is ≡ option_eq nat_eq found (Some place) → is ≡ false → length ≡ place + count → ⊥
not_highest length place count None is found_is is_is false_is at = found_is (omega arith)
not_highest length place count (Some n) is found_is is_is false_is at =
    let not = sym is_is ∙ false_is in
    grind (arith, nat_tests)

-- and otherwise it is
pub highest : (length place count : ℕ) (found : Option ℕ) (is : Bool) → SomeIff found (count ≤ length) (length - count) → is ≡ option_eq nat_eq found (Some place) → is ≡ true → length ≡ place + count
highest length place count None is found_is is_is true_is = absurd (grind arith)
highest length place count (Some n) is found_is is_is true_is =
    let same = sym is_is ∙ true_is in
    grind (arith, nat_tests)

no_single : (entries : Entries) → (length entries ≡ 1 → ⊥) → single_alone entries ≡ None
no_single [] not = refl
no_single (entry ∷ []) not = absurd (not refl)
no_single (entry ∷ other ∷ entries) not = refl

pub none_at : (place : ℕ) (entries : Entries) → (length entries ≡ place + 1 → ⊥) → take_at place entries ≡ None
none_at place entries not = ap (option_map (λ v. (v, take place entries))) (no_single (drop place entries) (λ one. not (omega (arith, one, length-drop place entries))))

no_method : (entries : Entries) → (length entries ≡ 2 → ⊥) → method_alone entries ≡ None
no_method [] not = refl
no_method (method_entry on name ∷ []) not = refl
no_method (entry ∷ []) not = refl
no_method (entry ∷ other ∷ []) not = absurd (not refl)
no_method (method_entry on name ∷ other ∷ third ∷ entries) not = refl
no_method (entry ∷ other ∷ third ∷ entries) not = refl

pub none_of_method : (place : ℕ) (entries : Entries) → (length entries ≡ place + 2 → ⊥) → take_method place entries ≡ None
none_of_method place entries not = ap (option_map (λ m. (m, take place entries))) (no_method (drop place entries) (λ two. not (omega (arith, two, length-drop place entries))))

-- a method is one whatever stands in its second register
second_alone : (entry second : EntryValue) → method_alone (entry ∷ second ∷ []) ≡ method_alone (entry ∷ more_entry ∷ [])
second_alone (method_entry on name) second = refl
second_alone entry second = refl

method_in : (entries : Entries) (place : ℕ) (entry : EntryValue) → length entries ≡ place + 2 → slice_get entries place ≡ Some entry → method_alone (drop place entries) ≡ method_alone (entry ∷ more_entry ∷ [])
method_in [] place entry two is = absurd cc
method_in (e ∷ []) zero entry two is = absurd (omega (arith, two))
method_in (e ∷ second ∷ []) zero entry two is = second_alone e second ∙ ap (λ first. method_alone (first ∷ more_entry ∷ [])) (same_Some e entry is)
method_in (e ∷ second ∷ third ∷ entries) zero entry two is = absurd (omega (arith, two))
method_in (e ∷ entries) (suc place) entry two is = method_in entries place entry (omega (arith, two)) is

-- the entry that is taken off behind those below it
popped : (entries firsts rest : List Entry) (place : ℕ) (entry : Entry) → length entries ≡ place + 2 → firsts ≡ take (place + 1) entries → firsts ≡ rest ++ entry ∷ [] →
    (rest ≡ take place entries) × (slice_get entries place ≡ Some entry)
popped entries firsts rest place entry two firsts_are is =
    let low : place < length entries = omega (arith, two) in
    let same = same_from_push rest (take place entries) entry (get_or entries place entry) (sym is ∙ firsts_are ∙ take_more entries place entry low) in
    (same.0, slice_get_read entries (length entries) place entry refl low same.1)

method_at : (entries : List Entry) (place : ℕ) (entry : Entry) → length entries ≡ place + 2 → slice_get entries place ≡ Some entry →
    method_alone (drop place (map view_entry entries)) ≡ method_alone (view_entry entry ∷ more_entry ∷ [])
method_at entries place entry two is =
    method_in (map view_entry entries) place (view_entry entry) (length-map entries view_entry ∙ two) (slice_get-map view_entry entries place ∙ ap (option_map view_entry) is)

pub method_taken : (entries firsts rest : List Entry) (place : ℕ) (on : Core) (name : ℕ) → length (map view_entry entries) ≡ place + 2 → firsts ≡ take (place + 1) entries → firsts ≡ rest ++ Entry.Method on name ∷ [] →
    ◌≡◌ {A = Option ((Value × ℕ) × Entries)} (Some ((view_core on, name), map view_entry rest)) (take_method place (map view_entry entries))
method_taken entries firsts rest place on name two firsts_are is =
    let all = map view_entry entries in
    let length_is = sym (length-map entries view_entry) ∙ two in
    let top = popped entries firsts rest place (Entry.Method on name) length_is firsts_are is in
    let left : Entries → Option ((Value × ℕ) × Entries) = λ those. Some ((view_core on, name), those) in
    ap left (ap (map view_entry) top.0 ∙ sym (take-map view_entry place entries))
    ∙ ap (option_map (λ m. (m, take place all))) (sym (method_at entries place (Entry.Method on name) length_is top.1))

not_a_method : (entry : Entry) → ((on : Core) (name : ℕ) → entry ≡ Entry.Method on name → ⊥) → method_alone (view_entry entry ∷ more_entry ∷ []) ≡ None
not_a_method (Entry.Method on name) not = absurd (not on name refl)
not_a_method entry not = refl

pub no_method_taken : (entries firsts rest : List Entry) (place : ℕ) (entry : Entry) → length (map view_entry entries) ≡ place + 2 → firsts ≡ take (place + 1) entries → firsts ≡ rest ++ entry ∷ [] →
    ((on : Core) (name : ℕ) → entry ≡ Entry.Method on name → ⊥) → take_method place (map view_entry entries) ≡ None
no_method_taken entries firsts rest place entry two firsts_are is not =
    let length_is = sym (length-map entries view_entry) ∙ two in
    let top = popped entries firsts rest place entry length_is firsts_are is in
    ap (option_map (λ m. (m, take place (map view_entry entries)))) (method_at entries place entry length_is top.1 ∙ not_a_method entry not)

-- ---- values that a field of a word counts

pub list_open : (first field : ℕ) (entries rest left : Entries) (cores after : List Core) (last : Core) → (1 ≤ field → ⊥) →
    ◌≡◌ {A = Option (Value × Entries)} (Some (view_core last, rest)) (take_open entries) → ◌≡◌ {A = Option (Values × Entries)} (Some (values_of cores, left)) (take_singles first rest) → after ≡ cores ++ last ∷ [] →
    ◌≡◌ {A = Option (Listed × Entries)} (Some (record { values = values_of after; all = true }, left)) (take_list first field entries)
list_open first (suc count) entries rest left cores after last not opened singles after_is = absurd (not (omega arith))
list_open first zero entries rest left cores after last not opened singles after_is =
    let listed : Values → Option (Listed × Entries) = λ vs. Some (record { values = vs; all = true }, left) in
    ap listed (ap values_of after_is ∙ values_more cores last)
    ∙ ap (option_map (listed_to (view_core last))) singles
    ∙ ap (option_and_then (λ p. option_map (listed_to p.0) (take_singles first p.1))) opened
