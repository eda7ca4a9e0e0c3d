-- Serves the laws. What the steps of a function tell, where statements stand on them: which locals are active before each, which are captured, and that each has a part of its kind.
use Rattle.std.specs.Prelude.{◌≡◌, ◌<◌, ◌+◌, ℕ, true, false, List, length, replicate, slice_get, None, Some}
use Rattle.lua_num.specs.Bytes.{Text}
use Rattle.lua_tree.specs.Syntax as syntax
use Rattle.lua_tree.specs.Syntax.{Statements, Statement, assignment, call_statement, function_statement, local_function, local_statement, Expressions, no_expressions, Expression, and_expression, or_expression, unary_expression, parenthesized}
use Rattle.lua_tree.specs.declared.tree.UnaryOp.{UnaryOp}
use Rattle.recover_expr.specs.Drafts.{Part, statement_part, values_part, condition_part, head_part}
use Rattle.recover_expr.specs.Placing.{Steps}
use Rattle.recover_expr.specs.declared.steps.Step.{Step}
use Rattle.recover_expr.specs.declared.steps.StepKind.{StepKind}
use Rattle.scheme.specs.Expressions.{literal}
use Rattle.scheme.specs.Making.{Ahead, Maker, active_count, captured_from}
use Rattle.same_flow.specs.Laid.{Tells}
use Rattle.same_flow.specs.Performed.{Performance, ended_before, kind_made, part_at, performed_to}
use Rattle.same_flow.specs.SameFlow.{AreLaid, HasPlainParts, begun_of}

-- ---- a function in the making, step by step

-- before its first step: the parameters end with it
abbrev pub at_beginning : Steps → (params names : List Text) → Ahead → Performance
at_beginning code params names ahead = let begun = begun_of params names ahead in record { maker = begun; ends = replicate (active_count begun) (length code.steps) }

-- before a step, where the locals that end there have ended
abbrev pub before_step : Steps → (params names : List Text) → Ahead → (at : ℕ) → Maker
before_step code params names ahead at = (ended_before at (performed_to code (at_beginning code params names ahead) at)).maker

-- ---- what a step tells

-- one of the locals that it brings into scope is captured; of a head, one of the variables
abbrev pub FlagTells : StepKind → (before behind : Maker) → Type 0
FlagTells (StepKind.Declaration end captured) before behind = captured ≡ captured_from (active_count before) behind
FlagTells (StepKind.Head numeric foot end variables_end captured) before behind = captured ≡ captured_from (active_count before + 3) behind
FlagTells kind before behind = Unit {0}

-- the locals of a declaration end behind it
abbrev pub EndsBehind : (at : ℕ) → StepKind → Type 0
EndsBehind at (StepKind.Declaration end captured) = at < end
EndsBehind at kind = Unit {0}

-- ---- parts of a kind

abbrev pub IsActPart : Statement → Type 0
IsActPart (assignment targets es) = Unit {0}
IsActPart (call_statement e) = Unit {0}
IsActPart (function_statement path method body) = Unit {0}
IsActPart s = ⊥

abbrev pub IsDeclarationPart : Statement → Type 0
IsDeclarationPart (local_function name body) = Unit {0}
IsDeclarationPart (local_statement names es) = Unit {0}
IsDeclarationPart s = ⊥

-- it is tested as a whole
abbrev pub IsLeaf : Expression → Type 0
IsLeaf (and_expression line left right) = ⊥
IsLeaf (or_expression line left right) = ⊥
IsLeaf (unary_expression line UnaryOp.Not e) = ⊥
IsLeaf (parenthesized line e) = ⊥
IsLeaf e = literal e ≡ None

-- the values of a loop over numbers, with its step or without
abbrev pub AreCounted : Expressions → Type 0
AreCounted (syntax.expression first (syntax.expression last no_expressions)) = Unit {0}
AreCounted (syntax.expression first (syntax.expression last (syntax.expression by no_expressions))) = Unit {0}
AreCounted values = ⊥

abbrev pub PartFits : StepKind → Part → Type 0
PartFits StepKind.Act (statement_part s) = IsActPart s
PartFits (StepKind.Declaration end captured) (statement_part s) = IsDeclarationPart s
PartFits StepKind.Return (values_part es) = Unit {0}
PartFits (StepKind.Test when target negated) (condition_part e) = IsLeaf e
PartFits (StepKind.Head true foot end variables_end captured) (head_part values names) = AreCounted values × (length names ≡ 1)
PartFits (StepKind.Head false foot end variables_end captured) (head_part values names) = Unit {0}
PartFits (StepKind.Jump target) part = Unit {0}
PartFits (StepKind.Close from declared) part = Unit {0}
PartFits (StepKind.Foot numeric target) part = Unit {0}
PartFits kind part = ⊥

-- ---- all steps

pub record IsTold (code : Steps) (before : Maker) (at : ℕ) (step : Step) : Type 0 where
  pub part : Part
  pub there : part_at code at ≡ Some part
  pub fits : PartFits step.kind part
  pub tells : Tells step before.active
  pub flag : FlagTells step.kind before (kind_made code step.kind part before)
  pub ends : EndsBehind at step.kind

abbrev pub AreTold : Steps → (params names : List Text) → Ahead → Type 0
AreTold code params names ahead = (at : ℕ) (step : Step) → slice_get code.steps at ≡ Some step → IsTold code (before_step code params names ahead at) at step

-- the steps on which the statements of a function stand tell so
abbrev pub LaidAreTold : Type 0
LaidAreTold = (code : Steps) → HasPlainParts code → (params names : List Text) (ahead : Ahead) (block : Statements) → AreLaid code params names ahead block → AreTold code params names ahead
