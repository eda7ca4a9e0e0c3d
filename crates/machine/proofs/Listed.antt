-- Lists of values: of registers, and up to open results.
use Rattle.std.proofs.Common.{◌≡◌, ℕ, ◌+◌, ◌-◌, ◌≤◌, List, ◌++◌, length, take, drop, Option, Some, None, sym, ap, subst, ◌∙◌}
use Rattle.std.specs.Prelude.{option_map, nat_le, if◌then◌else◌}
use Rattle.std.proofs.lemmas.Bool.{le-leb}
use Rattle.std.proofs.lemmas.List.{length-map, take-map, drop-map, map-append}
use Rattle.std.proofs.lemmas.List.Elements.{All-append, All-take, All-drop}
use Rattle.lua_model.specs.declared.Value.{Value}
use Rattle.lua_model.specs.Datum.{Datum}
use Rattle.lua_heap.specs.State.{HeapState, datum, IsOf, AreOf}
use Rattle.rules.specs.State as rules
use Rattle.rules.specs.State.{State, Effect, need, check, has_registers, span, with_results}
use Rattle.rules.specs.Step.{listed}
use Rattle.machine.specs.declared.did.OpenResults.{OpenResults}
use Rattle.machine.specs.Frames.{data_of, showing, results_of}
use Rattle.machine.specs.Words.{AreThere, IsListed, GivesList, AreResultsOf}
use Rattle.machine.proofs.Rows.{has_them}

part_data : (h : HeapState) (values : List Value) (first n : ℕ) → take n (drop first (data_of h values)) ≡ data_of h (take n (drop first values))
part_data h values first n = ap (take n) (drop-map (datum h) first values) ∙ take-map (datum h) n (drop first values)

span_is : (m : State) (h : HeapState) (values : List Value) (first n : ℕ) → AreThere values first n → span (showing m h values) first n ≡ Some (data_of h (take n (drop first values)))
span_is m h values first n there =
    let s = showing m h values in
    let long : length (data_of h values) ≡ length values = length-map values (datum h) in
    ap (λ b. if b then Some (take n (drop first s.top.registers)) else None) (has_them s first n (λ some. subst (λ k. first + n ≤ k) (sym long) (there some)))
    ∙ ap Some (part_data h values first n)

-- where they are these already
same_results : (m : State) (h : HeapState) (values : List Value) (results : Option rules.OpenResults) → m.top.results ≡ results → showing m h values ≡ with_results (showing m h values) results
same_results m h values results is i = with_results (showing m h values) (is i)

pub fixed : (m : State) (h : HeapState) (values list : List Value) (results : Option OpenResults) (first n : ℕ) (next : State → List Datum → Effect) → AreThere values first n → list ≡ take n (drop first values) → m.top.results ≡ option_map (results_of h) results → listed (showing m h values) first (Some n) next ≡ next (with_results (showing m h values) (option_map (results_of h) results)) (data_of h list)
fixed m h values list results first n next there is same =
    let s = showing m h values in
    ap (λ (o : Option (List Datum)). need o (λ vs. next s vs)) (span_is m h values first n there)
    ∙ ap (λ (vs : List Value). next s (data_of h vs)) (sym is)
    ∙ ap (λ t. next t (data_of h list)) (same_results m h values (option_map (results_of h) results) same)

pub opened : (m : State) (h : HeapState) (values list : List Value) (results : OpenResults) (first : ℕ) (next : State → List Datum → Effect) → first ≤ results.first → AreThere values first (results.first - first) → list ≡ take (results.first - first) (drop first values) ++ results.values → m.top.results ≡ Some (results_of h results) → listed (showing m h values) first None next ≡ next (with_results (showing m h values) None) (data_of h list)
opened m h values list results first next order there is same =
    let s = showing m h values in
    let seen = results_of h results in
    let n = results.first - first in
    ap (λ o. need o (λ r. check (nat_le first r.first) (need (span s first (r.first - first)) (λ vs. next (with_results s None) (vs ++ r.values))))) same
    ∙ ap (λ b. check b (need (span s first n) (λ vs. next (with_results s None) (vs ++ seen.values)))) (le-leb first results.first order)
    ∙ ap (λ (o : Option (List Datum)). need o (λ vs. next (with_results s None) (vs ++ seen.values))) (span_is m h values first n there)
    ∙ ap (next (with_results s None)) (sym (map-append (datum h) (take n (drop first values)) results.values) ∙ ap (data_of h) (sym is))

pub list_fixed : (values : List Value) (results : Option OpenResults) (first n : ℕ) (count : Option ℕ) (list : List Value) → count ≡ Some n → IsListed values results first count → list ≡ take n (drop first values) → GivesList values results results first count list
list_fixed values results first n count list e there is =
    let P : Option ℕ → Type 0 = λ c. IsListed values results first c → GivesList values results results first c list in
    subst P (sym e) (λ t h m next same. fixed m h values list results first n next t is same) there

pub list_opened : (values : List Value) (results behind : Option OpenResults) (open_results : OpenResults) (first : ℕ) (count : Option ℕ) (list : List Value) → count ≡ None → results ≡ Some open_results → behind ≡ None → IsListed values results first count → list ≡ take (open_results.first - first) (drop first values) ++ open_results.values → GivesList values results behind first count list
list_opened values results behind open_results first count list e f g there is =
    let P : Option ℕ → Type 0 = λ c. IsListed values results first c → GivesList values results behind first c list in
    let Q : Option OpenResults → Type 0 = λ r. IsListed values r first None → GivesList values r behind first None list in
    let R : Option OpenResults → Type 0 = λ r. GivesList values (Some open_results) r first None list in
    subst P (sym e) (subst Q (sym f) (λ t. subst R (sym g) (λ h m next same. opened m h values list open_results first next t.0 t.1 is same))) there

pub part_known : (h : HeapState) (values : List Value) (first n : ℕ) → AreOf h values → AreOf h (take n (drop first values))
part_known h values first n known = All-take (IsOf h) n (drop first values) (All-drop (IsOf h) first values known)

pub opened_known : (h : HeapState) (values list : List Value) (results : Option OpenResults) (open_results : OpenResults) (first n : ℕ) → results ≡ Some open_results → list ≡ take n (drop first values) ++ open_results.values → AreOf h values → AreResultsOf h results → AreOf h list
opened_known h values list results open_results first n f is known open_known =
    let Q : Option OpenResults → Type 0 = λ r. AreResultsOf h r in
    subst (λ (vs : List Value). AreOf h vs) (sym is) (All-append (IsOf h) (take n (drop first values)) open_results.values (part_known h values first n known) (subst Q f open_known))
