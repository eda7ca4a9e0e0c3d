-- Values to registers in a row, one after another.
use Rattle.std.proofs.Common.{◌≡◌, ℕ, zero, suc, ◌+◌, ◌<◌, ◌≤◌, List, [], ◌∷◌, ◌++◌, length, get_or, true, refl, sym, ap, subst, ◌∙◌, arith}
use Rattle.std.specs.Prelude.{slice_set, replicate}
use Rattle.std.proofs.lemmas.List.{map-set, length-map}
use Rattle.std.proofs.lemmas.Bool.{le-leb}
use Rattle.lua_model.specs.declared.Value.{Value}
use Rattle.lua_model.specs.declared.Value.TheVariants.{Nil}
use Rattle.lua_model.specs.Datum.{Datum, nil, adjusted}
use Rattle.lua_heap.specs.State.{HeapState, datum, IsOf, AreOf}
use Rattle.lua_heap.proofs.Callers.{keeps_itself}
use Rattle.rules.specs.State.{State, Goes, check, has_registers, spliced, set_all, with_registers}
use Rattle.rules.proofs.Lists.{length-adjusted}
use Rattle.machine.specs.declared.function.Function.{Function}
use Rattle.machine.specs.declared.did.Did.{Did}
use Rattle.machine.specs.Frames.{data_of, showing}
use Rattle.machine.specs.Words.{AreThere, Does}

pub adjusted_next : (k : ℕ) (vs : List Datum) → adjusted (suc k) vs ≡ adjusted k vs ++ get_or vs k nil ∷ []
adjusted_next zero [] = refl
adjusted_next zero (v ∷ vs) = refl
adjusted_next (suc k) [] = ap (λ l. nil ∷ l) (adjusted_next k [])
adjusted_next (suc k) (v ∷ vs) = ap (λ l. v ∷ l) (adjusted_next k vs)

pub adjusted_none : (k : ℕ) → adjusted k [] ≡ replicate k nil
adjusted_none zero = refl
adjusted_none (suc k) = ap (λ l. nil ∷ l) (adjusted_none k)

spliced_last : (ds : List Datum) (a : ℕ) (vs : List Datum) (v : Datum) → spliced ds a (vs ++ v ∷ []) ≡ slice_set (spliced ds a vs) (a + length vs) v
spliced_last ds a [] v = let e : a ≡ a + 0 = omega arith in ap (λ n. slice_set ds n v) e
spliced_last ds a (w ∷ vs) v =
    let e : suc a + length vs ≡ a + suc (length vs) = omega arith in
    spliced_last (slice_set ds a w) (suc a) vs v ∙ ap (λ n. slice_set (spliced (slice_set ds a w) (suc a) vs) n v) e

-- one value more
pub spliced_next : (ds : List Datum) (a k : ℕ) (vs : List Datum) → spliced ds a (adjusted (suc k) vs) ≡ slice_set (spliced ds a (adjusted k vs)) (a + k) (get_or vs k nil)
spliced_next ds a k vs =
    ap (spliced ds a) (adjusted_next k vs)
    ∙ spliced_last ds a (adjusted k vs) (get_or vs k nil)
    ∙ ap (λ n. slice_set (spliced ds a (adjusted k vs)) (a + n) (get_or vs k nil)) (length-adjusted k vs)

get_or_data : (h : HeapState) (values : List Value) (k : ℕ) → get_or (data_of h values) k nil ≡ datum h (get_or values k Nil)
get_or_data h [] k = refl
get_or_data h (v ∷ values) zero = refl
get_or_data h (v ∷ values) (suc k) = get_or_data h values k

pub put_next : (h : HeapState) (before now : List Value) (a k : ℕ) (values : List Value) → data_of h now ≡ spliced (data_of h before) a (adjusted k (data_of h values)) → data_of h (slice_set now (a + k) (get_or values k Nil)) ≡ spliced (data_of h before) a (adjusted (suc k) (data_of h values))
put_next h before now a k values so_far =
    map-set (datum h) now (a + k) (get_or values k Nil)
    ∙ ap (λ ds. slice_set ds (a + k) (datum h (get_or values k Nil))) so_far
    ∙ ap (slice_set (spliced (data_of h before) a (adjusted k (data_of h values))) (a + k)) (sym (get_or_data h values k))
    ∙ sym (spliced_next (data_of h before) a k (data_of h values))

pub nil_or_known : (h : HeapState) (values : List Value) (k : ℕ) → AreOf h values → IsOf h (get_or values k Nil)
nil_or_known h [] k known = tt
nil_or_known h (v ∷ values) zero known = known 0 Nil (omega arith)
nil_or_known h (v ∷ values) (suc k) known = nil_or_known h values k (λ i d within. known (suc i) d (omega (arith, within)))

-- the registers are there
pub has_them : (m : State) (a n : ℕ) → (0 < n → a + n ≤ length m.top.registers) → has_registers m a n ≡ true
has_them m a zero there = refl
has_them m a (suc n) there = le-leb (a + suc n) (length m.top.registers) (there (omega arith))

pub put_is : (m : State) (h : HeapState) (before now : List Value) (a n : ℕ) (vs : List Datum) → length vs ≡ n → AreThere before a n → data_of h now ≡ spliced (data_of h before) a vs → set_all (showing m h before) a vs ≡ Goes (showing m h now)
put_is m h before now a n vs many there is =
    let s = showing m h before in
    let long : length (data_of h before) ≡ length before = length-map before (datum h) in
    ap (λ b. check b (Goes (with_registers s (spliced s.top.registers a vs)))) (ap (has_registers s a) many ∙ has_them s a n (λ some. subst (λ k. a + n ≤ k) (sym long) (there some)))
    ∙ ap (λ ds. Goes (with_registers s ds)) (sym is)

-- so many values put into registers, and nothing else
pub put_does : (h : HeapState) (f : Function) (before now : List Value) (pc a n : ℕ) (list values : List Value) → list ≡ values → ((m : State) → set_all (showing m h before) a (adjusted n (data_of h list)) ≡ Goes (showing m h now)) → AreOf h now → length now ≡ length before → Does (λ m. set_all m a (adjusted n (data_of h values))) h h f before now pc Did.Next
put_does h f before now pc a n list values is put known long = record {
  is = λ m runs. ap (λ (vs : List Value). set_all (showing m h before) a (adjusted n (data_of h vs))) (sym is) ∙ put m;
  known = tt;
  awaited = tt;
  registers = known;
  length_is = long;
  keeps = keeps_itself h;
  only_store = refl;
}
