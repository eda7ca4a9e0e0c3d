-- What is said of the words of a step and of its marks: these capture the same locals.
use Rattle.std.specs.Prelude.{◌≡◌, ◌<◌, ℕ, List, [], length, slice_get, Option, Some}
use Rattle.lua_num.specs.Bytes.{Text}
use Rattle.lua_tree.specs.Outline as outline
use Rattle.lua_tree.specs.Outline.{Mark, Place}
use Rattle.lua_tree.specs.Scoping.{is_captured}
use Rattle.lua_tree.specs.Syntax.{Statements}
use Rattle.core_expr.specs.Values.{Inner}
use Rattle.recover_expr.specs.Drafts.{Drafted}
use Rattle.recover_expr.specs.Placing.{Steps}
use Rattle.recover_expr.specs.Reading.{step_at}
use Rattle.recover_expr.specs.Situation.{Function, Situation}
use Rattle.scheme.specs.Making.{Ahead, Maker}
use Rattle.scheme.specs.declared.making.Active.{Active}
use Rattle.scheme_stands.specs.Words.{Fn}
use Rattle.same_flow.proofs.Walks.{said_at, state_of}
use Rattle.reads_back.proofs.FlowRead.{Begins}
use Rattle.reads_back.proofs.FlowThere.{IsFlowFunction, before_at, pcs}
use Rattle.reads_back.proofs.ScopesRead.{has_register}
use Rattle.reads_back.proofs.StepsExact.{captured_by_step}
use Rattle.reads_back.proofs.StepsKnown.{state_before}

-- a local that is active in a register is captured by these registers where these marks capture its declaration
abbrev pub CapturesLike : List Mark → List Active → (registers : List ℕ) → Type 0
CapturesLike marks active registers =
    (register declaration : ℕ) (one : Active) → slice_get active register ≡ Some one → one.local.declaration ≡ Some declaration → has_register register registers ≡ is_captured declaration marks

module _ {f : Function} {g : Fn} {z : Maker} {lefts : ℕ → List (Option Inner)} {parts : ℕ → outline.Part} {code : Steps} {params names : List Text} {ahead : Ahead} {block : Statements} (of : IsFlowFunction f g z lefts parts code params names ahead block) where
  -- so it is with each step of a function whose statements begin at a place
  abbrev pub StepsCaptureLike : Place → Type 0
  StepsCaptureLike place =
      (at : ℕ) (now behind : Situation) (draft : Drafted) → at < length code.steps → Begins of at now → step_at f at (pcs of at) now ≡ Some (draft, behind)
      → CapturesLike (said_at code at (state_before code (state_of place []) at)).marks (before_at of at).active (captured_by_step f at (pcs of at) now)
