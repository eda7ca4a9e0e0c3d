-- Results that land in registers.
use Rattle.std.proofs.Common.{◌≡◌, ℕ, ◌+◌, ◌<◌, List, length, get_or, Bool, true, false, Option, Some, sym, ap, ◌∙◌}
use Rattle.std.specs.Prelude.{slice_set, option_map, if◌then◌else◌}
use Rattle.std.proofs.lemmas.Option.{slice_get-map, slice_get-get_or}
use Rattle.std.proofs.lemmas.List.{map-set}
use Rattle.lua_model.specs.declared.Value.{Value}
use Rattle.lua_model.specs.declared.Value.TheVariants.{Nil}
use Rattle.lua_model.specs.Datum.{Datum, is_nil}
use Rattle.lua_heap.specs.State.{HeapState, datum}
use Rattle.rules.specs.State.{State, Effect, Goes, IsStuck, need, check, register, with_registers, set_all, has_registers, spliced}
use Rattle.rules.specs.Calls.{branch, turned, go_on}
use Rattle.machine.specs.Frames.{showing}
use Rattle.machine.proofs.Showing.{one_need, there}

-- what is done behind values that were set
then_same : (b : Bool) (x y : State) (next : State → Effect) → check b (Goes x) ≡ Goes y → check b (next x) ≡ next y
then_same true x y next e = let same : x ≡ y = cc in ap next same
then_same false x y next e = absurd (stuck_is_no_going e)
  where
    stuck_is_no_going : IsStuck ≡ Goes y → ⊥
    stuck_is_no_going f = cc

-- the value of a register, as a datum
pub at_register : (m : State) (h : HeapState) (values : List Value) (r : ℕ) → r < length values → register (showing m h values) r ≡ Some (datum h (get_or values r Nil))
at_register m h values r within = slice_get-map (datum h) values r ∙ ap (λ (o : Option Value). option_map (datum h) o) (slice_get-get_or values r Nil within)

abbrev pub turn_rest : ℕ → State → Effect
turn_rest a m = need (register m (a + 3)) (go_on m a)

pub turn_is : (m : State) (h : HeapState) (before now : List Value) (a : ℕ) (vs : List Datum) → set_all (showing m h before) (a + 3) vs ≡ Goes (showing m h now) → a + 3 < length now → turned (showing m h before) a vs ≡ go_on (showing m h now) a (datum h (get_or now (a + 3) Nil))
turn_is m h before now a vs put within =
    let s = showing m h before in
    then_same (has_registers s (a + 3) (length vs)) (with_registers s (spliced s.top.registers (a + 3) vs)) (showing m h now) (turn_rest a) put
    ∙ one_need (register (showing m h now) (a + 3)) (datum h (get_or now (a + 3) Nil)) (go_on (showing m h now) a) (at_register m h now (a + 3) within)

pub goes_on_with : (m : State) (h : HeapState) (values : List Value) (a : ℕ) (v : Value) → a + 2 < length values → is_nil (datum h v) ≡ false → go_on (showing m h values) a (datum h v) ≡ branch (showing m h (slice_set values (a + 2) v)) true
goes_on_with m h values a v within some =
    let s = showing m h values in
    ap (λ b. if b then branch s false else need (register s (a + 2)) (λ old. branch (with_registers s (slice_set s.top.registers (a + 2) (datum h v))) true)) some
    ∙ ap (λ (o : Option Datum). need o (λ old. branch (with_registers s (slice_set s.top.registers (a + 2) (datum h v))) true)) (there m h values (a + 2) within).1
    ∙ ap (λ ds. branch (with_registers s ds) true) (sym (map-set (datum h) values (a + 2) v))

pub stops_at_nil : (m : State) (h : HeapState) (values : List Value) (a : ℕ) (v : Value) → is_nil (datum h v) ≡ true → go_on (showing m h values) a (datum h v) ≡ branch (showing m h values) false
stops_at_nil m h values a v none =
    let s = showing m h values in
    ap (λ b. if b then branch s false else need (register s (a + 2)) (λ old. branch (with_registers s (slice_set s.top.registers (a + 2) (datum h v))) true)) none
