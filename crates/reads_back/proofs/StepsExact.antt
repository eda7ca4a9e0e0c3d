-- Exactly what the step that is read at a pc does to the listed locals: which it declares, and which of all are captured behind it.
use Rattle.std.proofs.Common.{◌≡◌, ℕ, suc, ◌-◌, ◌^◌, Bool, true, false, nat_lt, List, length, Option, Some, None, refl, if◌then◌else◌}
use Rattle.std.specs.Prelude.{◌==◌}
use Rattle.recover_expr.specs.Declaring.{and_captured}
use Rattle.recover_expr.specs.Drafts.{Drafted}
use Rattle.recover_expr.specs.Locals.{starting}
use Rattle.recover_expr.specs.Reading.{step_at, words_from}
use Rattle.recover_expr.specs.Situation.{Function, Situation, begun}
use Rattle.reads_back.proofs.OwnSteps.{own_by_words}
use Rattle.reads_back.proofs.ScopesGrow.{EndsAs, entered_times}
use Rattle.reads_back.proofs.ScopesRead.{capture_all, declared_of, has_register, is_local_function}
use Rattle.reads_back.proofs.StepScopes.{captured_by_words, step_captures}

-- ---- the step that begins at a pc

-- the registers whose locals the step that begins at a pc captures
abbrev pub captured_by_step : Function → (number pc : ℕ) → Situation → List ℕ
captured_by_step f number pc s = captured_by_words f (suc (f.last - pc)) pc (begun number pc s)

-- a step that is read is one of words
pub step_of_words : (f : Function) (number pc : ℕ) (s : Situation) (draft : Drafted) (behind : Situation) → step_at f number pc s ≡ Some (draft, behind) → words_from f (suc (f.last - pc)) pc (begun number pc s) ≡ Some (draft, behind)
step_of_words f number pc s draft behind is = by (nat_lt (length s.scope.active) (2 ^ 32)) (starting f.of.locals pc s.scope == 0) is
  where
    words : Option (Drafted × Situation)
    words = words_from f (suc (f.last - pc)) pc (begun number pc s)

    by : (few none : Bool) → (if few then (if none then words else None) else None) ≡ Some (draft, behind) → words ≡ Some (draft, behind)
    by true true is = is
    by true false is = absurd cc
    by false none is = absurd cc

-- it captures the locals in the registers that its CLOSUREs name, and declares so many, one after the other, the first of which is captured where its register is one of those; the step is a `local function` just then
pub record StepExact (f : Function) (number pc : ℕ) (s : Situation) (draft : Drafted) (behind : Situation) : Type 0 where
  pub scope : behind.scope ≡ and_captured (length s.scope.declared) (is_local_function draft.part) (entered_times (declared_of draft.kind) (Some number) (capture_all (captured_by_step f number pc s) s.scope))
  pub own : is_local_function draft.part ≡ has_register (length s.scope.active) (captured_by_step f number pc s)
  pub ends : EndsAs (captured_by_step f number pc s) (begun number pc s) (draft, behind)

pub step_exact : (f : Function) (number pc : ℕ) (s : Situation) (draft : Drafted) (behind : Situation) → step_at f number pc s ≡ Some (draft, behind) → StepExact f number pc s draft behind
step_exact f number pc s draft behind is =
    let words = step_of_words f number pc s draft behind is in
    let ends = step_captures f (suc (f.last - pc)) pc (begun number pc s) draft behind words in
    record { scope = ends.scope; own = own_by_words f (suc (f.last - pc)) pc (begun number pc s) draft behind words refl refl; ends = ends }
