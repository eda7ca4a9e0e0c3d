-- Values behind those of protected calls that worked.
use Rattle.std.proofs.Common.{◌≡◌, ℕ, zero, suc, true, List, ◌∷◌, replicate, refl, ap}
use Rattle.std.proofs.lemmas.List.Elements.{All-append, All-replicate}
use Rattle.lua_model.specs.declared.Value.{Value}
use Rattle.lua_model.specs.declared.Value.TheVariants.{Bool as Boolean}
use Rattle.lua_model.specs.Datum.{boolean}
use Rattle.lua_heap.specs.State.{HeapState, IsOf, AreOf}
use Rattle.rules.specs.Calls.{worked}
use Rattle.machine.specs.Called.{worked_values}
use Rattle.machine.specs.Frames.{data_of}

-- as the rules have them
pub worked_is : (h : HeapState) (p : ℕ) (vs : List Value) → worked p (data_of h vs) ≡ data_of h (worked_values p vs)
worked_is h zero vs = refl
worked_is h (suc p) vs = ap (λ ds. boolean true ∷ ds) (worked_is h p vs)

pub worked_known : (h : HeapState) (p : ℕ) (vs : List Value) → AreOf h vs → AreOf h (worked_values p vs)
worked_known h p vs known = All-append (IsOf h) (replicate p (Boolean true)) vs (All-replicate (IsOf h) p (Boolean true) tt) known
