-- Serves the laws. Statements that stand on the steps of a function lie there, no deeper than the room that they take.
use Rattle.std.specs.Prelude.{◌≡◌, ◌≤◌, true, List, length, None}
use Rattle.lua_num.specs.Bytes.{Text}
use Rattle.lua_tree.specs.Syntax.{Statements}
use Rattle.lua_tree.specs.WellFormed.{formed_statements}
use Rattle.recover_expr.specs.Placing.{Steps}
use Rattle.recover_flow.specs.Flow.{Around, Flow, FlowLies, flow_levels}
use Rattle.same_flow.specs.Written.{AreInRoom}
use Rattle.same_flow.specs.Declaring.{ClosesTell}
use Rattle.same_flow.specs.Laid.{highest_captured}
use Rattle.same_flow.specs.SameFlow.{AreLaid, HasPlainParts, begun_of}
use Rattle.same_flow.specs.Space.{flow_space}
use Rattle.scheme.specs.Making.{Ahead, active_count}
use Rattle.built_flow.specs.BuiltLaid.{FewLocals}

-- ---- the law

-- what is around the statements of a function
abbrev pub around_of : (params names : List Text) → Ahead → Around
around_of params names ahead = let begun = begun_of params names ahead in record { count = active_count begun; captured = highest_captured 0 begun.active; declared = λ register. None; exit = None }

-- a block that stands on all steps lies there, with no more levels than it has room for
pub record LaidLies (code : Steps) (params names : List Text) (ahead : Ahead) (block : Statements) : Type 0 where
  pub flow : Flow
  pub behind : Around
  pub lies : FlowLies code.steps (around_of params names ahead) behind (length code.steps) flow 0 (length code.steps)
  pub levels : AreInRoom code → flow_levels code.steps flow ≤ flow_space block

abbrev pub LaidLie : Type 0
LaidLie =
    (code : Steps) → HasPlainParts code → FewLocals code → (params names : List Text) (ahead : Ahead) → ClosesTell code params names ahead → (block : Statements) → formed_statements block ≡ true → AreLaid code params names ahead block
    → LaidLies code params names ahead block
