-- The words of a function with blocks are read as steps like those on which its statements stand, where the reader's list has those locals captured in the end that the source captures.
use Rattle.std.proofs.Common.{◌≡◌, ◌≤◌, ℕ, suc, List, length, ◌∙◌, arith}
use Rattle.std.specs.Prelude.{Option, Some, map, slice_get}
use Rattle.lua_num.specs.Bytes.{Text}
use Rattle.lua_tree.specs.Outline as outline
use Rattle.lua_tree.specs.Syntax.{Statements}
use Rattle.core_expr.specs.Values.{Inner}
use Rattle.recover_expr.specs.Drafts.{Drafted}
use Rattle.recover_expr.specs.Placing.{Steps}
use Rattle.recover_expr.specs.Reading.{function_steps, left_at}
use Rattle.recover_expr.specs.Situation.{Function}
use Rattle.recover_expr.specs.declared.locals.Declared.{Declared}
use Rattle.scheme.specs.Making.{Ahead, Maker}
use Rattle.scheme.specs.declared.making.Active.{Active}
use Rattle.scheme_stands.specs.Words.{Fn}
use Rattle.reads_back.specs.Placed.{ArePlacedLike, HaveRegisters, active_behind}
use Rattle.reads_back.proofs.FlowBegins.{function_read, function_steps_are, params_behind}
use Rattle.reads_back.proofs.FlowDrafts.{FlowRead, declared_in_end}
use Rattle.reads_back.proofs.FlowSteps.{have_words}
use Rattle.reads_back.proofs.FlowThere.{IsFlowFunction, few_before}
use Rattle.reads_back.proofs.PlacedFlow.{all_placed}

module _ {f : Function} {g : Fn} {z : Maker} {lefts : ℕ → List (Option Inner)} {parts : ℕ → outline.Part} {code : Steps} {params names : List Text} {ahead : Ahead} {block : Statements} (of : IsFlowFunction f g z lefts parts code params names ahead block) (takes : f.of.params ≡ length params) where
  abbrev pub read : FlowRead of (left_at f 0 (params_behind of takes))
  read = function_read of takes

  -- in the end the list has the `captured` of each local that is active behind a step
  abbrev pub AreCapturedLike : Type 0
  AreCapturedLike =
      (at register : ℕ) (one : Active) → at ≤ length code.steps → slice_get (active_behind code params names ahead at) register ≡ Some one
      → (is : Declared) → slice_get read.behind.scope.declared one.listed ≡ Some is → is.captured ≡ one.local.captured

  registers : HaveRegisters code params names ahead
  registers at less = let few = few_before of at (omega (arith, less)) in omega (arith, few)

  -- its drafts are placed
  pub placed_in_end : AreCapturedLike → length f.of.code ≡ suc f.last → ArePlacedLike code params f read.behind.scope read.drafts
  placed_in_end captured ends =
      all_placed code of.plain params names ahead block of.laid (have_words of) registers f of.listed of.last ends read.behind.scope read.all_declared
      (declared_in_end of read.behind read.there (λ at register one is most active there. captured at register one most active is there))
      read.drafts read.as_many (λ at draft there. (read.each at draft there).draft_is)

  -- and so its words are read as steps that are like its own
  pub steps_in_end : (captured : AreCapturedLike) (ends : length f.of.code ≡ suc f.last)
      → function_steps (lefts 0) f ≡ Some (record { params = params; steps = (placed_in_end captured ends).steps; parts = map (λ (draft : Drafted). draft.part) read.drafts })
  steps_in_end captured ends = function_steps_are of takes ∙ (placed_in_end captured ends).is
