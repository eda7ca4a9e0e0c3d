-- Serves the laws. Which steps declare the locals that are active before a step, and that each CLOSE tells it of the first local that it closes.
use Rattle.std.specs.Prelude.{◌≡◌, ◌-◌, ℕ, zero, suc, List, ◌++◌, None, Some, Option, option_and_then, replicate, slice_get, take}
use Rattle.lua_num.specs.Bytes.{Text}
use Rattle.recover_expr.specs.Placing.{Steps}
use Rattle.recover_expr.specs.declared.steps.Step.{Step}
use Rattle.recover_expr.specs.declared.steps.StepKind.{StepKind}
use Rattle.scheme.specs.Making.{Ahead, active_count}
use Rattle.same_flow.specs.Alike.{AreStepsLoose}
use Rattle.same_flow.specs.Listed.{before_place}
use Rattle.same_flow.specs.Performed.{kind_at, performed_to}
use Rattle.same_flow.specs.SameFlow.{begun_of}
use Rattle.same_flow.specs.Told.{at_beginning}

-- of each local that is active behind so many steps the step that declares it, None for a parameter
abbrev pub declaring : Steps → (params names : List Text) → Ahead → (at : ℕ) → List (Option ℕ)
declaring code params names ahead zero = replicate (active_count (begun_of params names ahead)) None
declaring code params names ahead (suc at) =
    let left = active_count (before_place code params names ahead at).maker in
    take left (declaring code params names ahead at) ++ replicate (active_count (performed_to code (at_beginning code params names ahead) (suc at)).maker - left) (Some at)

abbrev pub same_option : Option ℕ → Option ℕ
same_option found = found

-- the step that declares the local in a register, where one is active before a step
abbrev pub declaring_before : Steps → (params names : List Text) → Ahead → (at register : ℕ) → Option ℕ
declaring_before code params names ahead at register =
    option_and_then same_option (slice_get (take (active_count (before_place code params names ahead at).maker) (declaring code params names ahead at)) register)

-- each CLOSE names the step that declares the first local that it closes
abbrev pub ClosesTell : Steps → (params names : List Text) → Ahead → Type 0
ClosesTell code params names ahead = (at register : ℕ) (declared : Option ℕ) → kind_at code.steps at ≡ Some (StepKind.Close register declared) → declared ≡ declaring_before code params names ahead at register

-- steps may be named so: what stands on some stands on others whose CLOSEs tell
abbrev pub ClosesMayTell : Type 0
ClosesMayTell =
    (code : Steps) (params names : List Text) (ahead : Ahead) → (steps : List Step) × AreStepsLoose code.steps steps × ClosesTell (record code { steps = steps }) params names ahead
