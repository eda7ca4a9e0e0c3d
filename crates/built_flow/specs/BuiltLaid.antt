-- Serves the laws. What is built of a plan that lies on the steps of a function stands on them.
use Rattle.std.specs.Prelude.{◌≡◌, ◌≤◌, ◌+◌, ◌-◌, ◌^◌, ℕ, List, length, None, Some, slice_get}
use Rattle.lua_num.specs.Bytes.{Text}
use Rattle.lua_tree.specs.Syntax.{Statements}
use Rattle.recover_expr.specs.Drafts.{Part}
use Rattle.recover_expr.specs.Placing.{Steps}
use Rattle.recover_expr.specs.declared.steps.Step.{Step}
use Rattle.recover_flow.specs.Built.{built_body}
use Rattle.recover_flow.specs.Lying.{BodyLies}
use Rattle.recover_flow.specs.Plans.{Plans}
use Rattle.same_flow.specs.Written.{ComparedOnOne}
use Rattle.same_flow.specs.SameFlow.{AreLaid, HasPlainParts}
use Rattle.same_flow.specs.Told.{AreTold}
use Rattle.scheme.specs.Making.{Ahead}

-- the register behind the hidden locals of a `for` is a number of 32 bits
abbrev pub FewLocals : Steps → Type 0
FewLocals code = (at : ℕ) (step : Step) → slice_get code.steps at ≡ Some step → step.base + 3 ≤ 2 ^ 32 - 1

-- on steps that tell of the locals of a function with these parameters, and whose parts are plain
abbrev pub BuiltAreLaid : Type 0
BuiltAreLaid =
    (code : Steps) → HasPlainParts code → ComparedOnOne code → FewLocals code → (params names : List Text) (ahead : Ahead) → AreTold code params names ahead
    → (plans : Plans) → BodyLies code.steps None (length code.steps) plans 0 (length code.steps) → (block : Statements) (behind : List Part) → built_body plans code.parts ≡ Some (block, behind)
    → AreLaid code params names ahead block
