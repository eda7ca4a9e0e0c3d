-- Lists of values and of names: the last one and those before it, and how many there are.
use Rattle.std.proofs.Common.{◌≡◌, ◌∙◌, ap, sym, refl, ℕ, suc, ◌+◌, ◌-◌, Bool, true, false, List, [], ◌∷◌, ◌++◌, length, map, take, drop, Option, Some, None, Result, Ok, Err, arith, if◌then◌else◌}
use Rattle.std.specs.List.{list_all, prefix_len}
use Rattle.std.specs.Prelude.{◌==◌, ◌&&◌, ◌||◌, not, nat_le, nat_lt, IfOk, IfErr, option_map, option_and_then, option_to_list, slice_get}
use Rattle.std.proofs.lemmas.Bool.Decides.{nat_tests}
use Rattle.std.proofs.lemmas.List.{take-map, drop-map, length-map}
use Rattle.std.specs.Option.{MatchOption}
use Rattle.lua_num.specs.Bytes.{Text}
use Rattle.lua_num.specs.declared.names.Names.{Names}
use Rattle.lua_tree.specs.Syntax.{function_body, function_statement}
use Rattle.lua_tree.specs.View.{view_block, view_body, view_statement}
use Rattle.lua_tree.specs.declared.tree.Body.{Body, Body', out-Body, roll-Body}
use Rattle.lua_tree.specs.declared.tree.StatKind.{Function as FunctionStat}
use Rattle.core_expr.specs.Values.{Value, Values, and_value, view_core, values_of}
use Rattle.core_expr.specs.declared.cores.Core.{Core}
use Rattle.recover_expr.specs.Assigning.{is_self, takes_self, all_but_first, without_self, last_name, names_before_last}
use Rattle.recover_expr.specs.Entries.{Listed, view_entry, IsLostOnlyWhere, is_single, singles_of}
use Rattle.recover_expr.specs.Lists.{value_count, split_last, before_last, is_last, all_of, stored_to, ends_multiple, is_missing, is_further, leading, behind_leading, are_missing, fits_places, adjusted_to, adjusted_list}
use Rattle.recover_expr.specs.Situation.{Function, Situation}
use Rattle.recover_expr.specs.Writing.{list_written}
use Rattle.recover_expr.specs.declared.lost.Lost.{Lost}
use Rattle.recover_expr.specs.declared.stack.Entry.{Entry}
use Rattle.recover_expr.specs.declared.stores.Place.{Place}

-- ---- values

pub counted : (cores : List Core) → value_count (values_of cores) ≡ length cores
counted [] = refl
counted (core ∷ cores) = ap suc (counted cores)

split_push : (firsts : List Core) (last : Core) → split_last (values_of (firsts ++ last ∷ [])) ≡ Some (values_of firsts, view_core last)
split_push [] last = refl
split_push (first ∷ []) last = refl
split_push (first ∷ second ∷ firsts) last = ap (option_map (λ p. (and_value (view_core first) p.0, p.1))) (split_push (second ∷ firsts) last)

-- what is taken off behind those before it
pub split_pop : (cores firsts : List Core) (last : Core) → cores ≡ firsts ++ last ∷ [] → split_last (values_of cores) ≡ Some (values_of firsts, view_core last)
split_pop cores firsts last is = ap (λ those. split_last (values_of those)) is ∙ split_push firsts last

pub split_none : (cores : List Core) → length cores ≡ 0 → split_last (values_of cores) ≡ None
split_none [] none = refl
split_none (core ∷ cores) none = absurd (omega (arith, none))

same_last : (is : Value → Bool) (v : Value) (found : Option (Values × Value)) → is_last is (option_map (λ p. (and_value v p.0, p.1)) found) ≡ is_last is found
same_last is v None = refl
same_last is v (Some p) = refl

abbrev pub is_at_end : (Value → Bool) → Option Core → Bool
is_at_end is None = false
is_at_end is (Some core) = is (view_core core)

pub last_is : (is : Value → Bool) (cores : List Core) → is_last is (split_last (values_of cores)) ≡ is_at_end is (slice_get cores (length cores - 1))
last_is is [] = refl
last_is is (core ∷ []) = refl
last_is is (first ∷ second ∷ cores) =
    let place : suc (length (second ∷ cores) - 1) ≡ length (first ∷ second ∷ cores) - 1 = omega arith in
    same_last is (view_core first) (split_last (values_of (second ∷ cores))) ∙ last_is is (second ∷ cores) ∙ ap (λ n. is_at_end is (slice_get (first ∷ second ∷ cores) n)) place

pub last_so : (is : Value → Bool) (cores items : List Core) (core : Core) → items ≡ cores → Some core ≡ slice_get items (length items - 1) → is_last is (split_last (values_of cores)) ≡ is (view_core core)
last_so is cores items core same there = ap (λ those. is_last is (split_last (values_of those))) (sym same) ∙ last_is is items ∙ ap (is_at_end is) (sym there)

-- how many single values come first
pub leading_map : (entries : List Entry) → leading (map view_entry entries) ≡ prefix_len (λ entry. is_single (view_entry entry)) entries
leading_map [] = refl
leading_map (entry ∷ entries) = ap (λ n. if is_single (view_entry entry) then 1 + n else 0) (leading_map entries)

-- ---- values for so many places

-- whether so many entries, of which so many single values come first, are for so many places
abbrev pub fitting : (places : ℕ) (may_be_none : Bool) (count total : ℕ) (missing further multiple : Bool) → Bool
fitting places may_be_none count total missing further multiple =
    if count == total then nat_le places total
    else if missing then (places == total) && (may_be_none || nat_lt 0 count)
    else (places == total) && (further && multiple)

firsts_are : (entries : List Entry) (count : ℕ) → count ≡ leading (map view_entry entries) → take (leading (map view_entry entries)) (map view_entry entries) ≡ map view_entry (take count entries)
firsts_are entries count count_is = ap (λ n. take n (map view_entry entries)) (sym count_is) ∙ take-map view_entry count entries

behind_are : (entries : List Entry) (count : ℕ) → count ≡ leading (map view_entry entries) → map view_entry (drop count entries) ≡ behind_leading (map view_entry entries)
behind_are entries count count_is = sym (drop-map view_entry count entries) ∙ ap (λ n. drop n (map view_entry entries)) count_is

pub missing_are : (entries : List Entry) (count : ℕ) (missing : Bool) → count ≡ leading (map view_entry entries) →
    missing ≡ (nat_lt count (length entries) && list_all is_missing (map view_entry (drop count entries))) → missing ≡ are_missing (map view_entry entries)
missing_are entries count missing count_is missing_is =
    missing_is ∙ (λ i. nat_lt (count_is i) (sym (length-map entries view_entry) i) && list_all is_missing (behind_are entries count count_is i))

pub adjusts : (entries : List Entry) (count total places : ℕ) (missing further multiple may_be_none fits : Bool) (values : Values) → count ≡ leading (map view_entry entries) → total ≡ length entries →
    missing ≡ are_missing (map view_entry entries) → further ≡ list_all is_further (map view_entry (drop count entries)) → Some values ≡ singles_of (map view_entry (take count entries)) →
    multiple ≡ ends_multiple values → fits ≡ fitting places may_be_none count total missing further multiple →
    adjusted_list places may_be_none (map view_entry entries) ≡ (if fits then Some (record { values = values; all = not missing }) else None)
adjusts entries count total places missing further multiple may_be_none fits values count_is total_is missing_is further_is values_are multiple_is fits_is =
    let all = map view_entry entries in
    let further_are : further ≡ list_all is_further (behind_leading all) = further_is ∙ ap (list_all is_further) (behind_are entries count count_is) in
    let fits_are : fits ≡ fits_places places may_be_none all values =
    fits_is ∙ (λ i. fitting places may_be_none (count_is i) ((total_is ∙ sym (length-map entries view_entry)) i) (missing_is i) (further_are i) (multiple_is i)) in
    let given : Bool → Bool → Option Listed = λ fit lacks. if fit then Some (record { values = values; all = not lacks }) else None in
    ap (λ those. option_and_then (adjusted_to places may_be_none all) (singles_of those)) (firsts_are entries count count_is)
    ∙ ap (option_and_then (adjusted_to places may_be_none all)) (sym values_are)
    ∙ (λ i. given (sym fits_are i) (sym missing_is i))

pub adjusts_none : (entries : List Entry) (count places : ℕ) (may_be_none : Bool) → count ≡ leading (map view_entry entries) → singles_of (map view_entry (take count entries)) ≡ None →
    adjusted_list places may_be_none (map view_entry entries) ≡ None
adjusts_none entries count places may_be_none count_is none =
    let all = map view_entry entries in
    ap (λ those. option_and_then (adjusted_to places may_be_none all) (singles_of those)) (firsts_are entries count count_is) ∙ ap (option_and_then (adjusted_to places may_be_none all)) none

-- ---- names

names_push : (names : List Text) (name : Text) → names_before_last (names ++ name ∷ []) ≡ names
names_push [] name = refl
names_push (first ∷ []) name = refl
names_push (first ∷ second ∷ names) name = ap (λ those. first ∷ those) (names_push (second ∷ names) name)

last_push : (names : List Text) (name : Text) → last_name (names ++ name ∷ []) ≡ Some name
last_push [] name = refl
last_push (first ∷ []) name = refl
last_push (first ∷ second ∷ names) name = last_push (second ∷ names) name

pub names_pop : (names firsts : List Text) (last : Text) → names ≡ firsts ++ last ∷ [] → (names_before_last names ≡ firsts) × (last_name names ≡ Some last)
names_pop names firsts last is = (ap names_before_last is ∙ names_push firsts last, ap last_name is ∙ last_push firsts last)

pub names_taken : {A : Type 0} (B : Text → Type 0) (names firsts : List Text) (last : Option Text) → names ≡ firsts ++ option_to_list last → MatchOption last A B → (A → length firsts ≡ 0) →
    (names_before_last names ≡ firsts) × (last_name names ≡ last)
names_taken B names firsts (Some last) is cases none = names_pop names firsts last is
names_taken B names [] None is cases none = (ap names_before_last is, ap last_name is)
names_taken B names (first ∷ firsts) None is cases none = absurd (omega (arith, none cases))

-- ---- functions

pub takes_self_of : (body : Body) → takes_self (view_body body) ≡ is_self (out-Body body).params
unfolding out-Body denote.Hole.Carrier.out
takes_self_of (Body' params vararg block first last) = refl

-- the body with other parameters
pub without_self_of : (body : Body) (params : Names) → params ≡ all_but_first (out-Body body).params →
    view_body (roll-Body (record { params = params; vararg = (out-Body body).vararg; block = (out-Body body).block; first_line = (out-Body body).first_line; last_line = (out-Body body).last_line })) ≡ without_self (view_body body)
unfolding out-Body roll-Body denote.Hole.Carrier.out denote.Hole.Carrier.roll
without_self_of (Body' old vararg block first last) params is = ap (λ names. function_body names vararg (view_block block) first last) is

pub method_kind_of : (names firsts : List Text) (last : Option Text) (body : Body) → firsts ≡ names_before_last names → last ≡ last_name names →
    view_statement (FunctionStat firsts last body) ≡ function_statement (names_before_last names) (last_name names) (view_body body)
method_kind_of names firsts last body firsts_are last_is = λ i. function_statement (firsts_are i) (last_is i) (view_body body)

-- ---- what is written of them

-- what is written where one thing is, is written where it is another
pub wrote_as : {T A : Type 0} (made : T → A) (result : Result T Lost) {one other : A} → one ≡ other → IfOk result (λ t. made t ≡ one) → IfOk result (λ t. made t ≡ other)
wrote_as made (Ok t) same wrote = wrote ∙ same
wrote_as made (Err lost) same wrote = tt

pub lost_as : {T A : Type 0} (result : Result T Lost) {one other : Option A} → one ≡ other → IfErr result (IsLostOnlyWhere (one ≡ None)) → IfErr result (IsLostOnlyWhere (other ≡ None))
lost_as (Ok t) same lost = tt
lost_as (Err (Lost.NotScheme pc)) same lost = sym same ∙ lost
lost_as (Err Lost.OutOfMemory) same lost = tt

-- as many values as so many, or not
pub counted_same : {A : Type 0} (cores items : List Core) (count : ℕ) (same other : A) → items ≡ cores → length items ≡ count → same ≡ (if value_count (values_of cores) == count then same else other)
counted_same cores items count same other items_are is =
    let equal : (value_count (values_of cores) == count) ≡ true = grind (arith, nat_tests, counted cores ∙ ap length (sym items_are) ∙ is) in
    ap (λ is. if is then same else other) (sym equal)

pub counted_other : {A : Type 0} (cores items : List Core) (count : ℕ) (same other : A) → items ≡ cores → (length items ≡ count → ⊥) → other ≡ (if value_count (values_of cores) == count then same else other)
counted_other cores items count same other items_are not =
    let unequal : (value_count (values_of cores) == count) ≡ false = grind (arith, nat_tests, counted cores ∙ ap length (sym items_are), not) in
    ap (λ is. if is then same else other) (sym unequal)

-- what stands before the last one
pub before_pop : {A : Type 0} (B : Core → Type 0) (cores firsts : List Core) (last : Option Core) → cores ≡ firsts ++ option_to_list last → MatchOption last A B → (A → length firsts ≡ 0) →
    values_of firsts ≡ before_last (split_last (values_of cores))
before_pop B cores firsts (Some last) is cases none = sym (ap before_last (split_pop cores firsts last is))
before_pop B cores [] None is cases none = sym (ap (λ those. before_last (split_last (values_of those))) is)
before_pop B cores (first ∷ firsts) None is cases none = absurd (omega (arith, none cases))

-- neither to a part of a table nor to a local
pub stored_other : (f : Function) (place : Place) (count n : ℕ) (values : Values) (s : Situation) → ((on key : ℕ) → place ≡ Place.Index on key → ⊥) → ((r : ℕ) → place ≡ Place.Local r → ⊥) →
    list_written f n (all_of values) s ≡ stored_to f (Some place) count n values s
stored_other f (Place.Index on key) count n vs s index local = absurd (index on key refl)
stored_other f (Place.Local r) count n vs s index local = absurd (local r refl)
stored_other f place count n vs s index local = refl
