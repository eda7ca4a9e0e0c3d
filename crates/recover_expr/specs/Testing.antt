-- Serves a body. Tests.
use Rattle.std.specs.Prelude.{◌==◌, ◌&&◌, ℕ, Bool, true, false, nat_lt, length, Option, None, Some, option_map, option_and_then, if◌then◌else◌}
use Rattle.lua_tree.specs.Syntax.{Expression, binary_expression}
use Rattle.lua_tree.specs.declared.tree.BinaryOp.{BinaryOp}
use Rattle.opcode.specs.declared.op.Op.{Op}
use Rattle.core_expr.specs.Counting.{one_more}
use Rattle.core_expr.specs.Targets.{Comparison, view_comparison}
use Rattle.core_expr.specs.Values.{Value, OperandValue, view_core}
use Rattle.core_expr.specs.Writing.{Wording}
use Rattle.recover_expr.specs.Drafts.{Drafted, drafted, condition_part}
use Rattle.recover_expr.specs.Entries.{is_temporary}
use Rattle.recover_expr.specs.Situation.{Function, Situation, jump_behind, pop, pop_operand, target}
use Rattle.recover_expr.specs.Writing.{value_written, comparison_written}
use Rattle.recover_expr.specs.declared.draft.DraftKind.{DraftKind}
use Rattle.recover_expr.specs.declared.function.Word.{Word}
use Rattle.recover_expr.specs.declared.testing.Tested as declared

-- what a test tests
pub data TestedValue : Type 0 where
  tested_value : Value → TestedValue
  tested_comparison : Comparison → TestedValue

abbrev pub view_tested : declared.Tested → TestedValue
view_tested (declared.Tested.Value core) = tested_value (view_core core)
view_tested (declared.Tested.Comparison c) = tested_comparison (view_comparison c)

abbrev pub compared : Word → BinaryOp → (left right : OperandValue) → TestedValue
compared w op left right = tested_comparison (record { op = op; b = w.instr.b; c = w.instr.c; left = left; right = right })

-- the operand in one field, and behind it the one in another
abbrev pub right_first : Function → Word → BinaryOp → (OperandValue × Situation) → Option (TestedValue × Situation)
right_first f w op right = option_map (λ left. (compared w op left.0 right.0, left.1)) (pop_operand f w.instr.b right.1)

abbrev pub left_first : Function → Word → BinaryOp → (OperandValue × Situation) → Option (TestedValue × Situation)
left_first f w op left = option_map (λ right. (compared w op left.0 right.0, right.1)) (pop_operand f w.instr.c left.1)

-- the operands of a comparison; where both are registers of the statement, the higher one was made last
abbrev pub comparison : Function → Word → BinaryOp → Situation → Option (TestedValue × Situation)
comparison f w op s =
    if is_temporary s.base w.instr.c && (is_temporary s.base w.instr.b && nat_lt w.instr.c w.instr.b)
    then option_and_then (left_first f w op) (pop_operand f w.instr.b s)
    else option_and_then (right_first f w op) (pop_operand f w.instr.c s)

abbrev pub tested_as : Op → Function → Word → Situation → Option (TestedValue × Situation)
tested_as Op.Eq f w s = comparison f w BinaryOp.Eq s
tested_as Op.Lt f w s = comparison f w BinaryOp.Lt s
tested_as Op.Le f w s = comparison f w BinaryOp.Le s
tested_as op f w s = option_map (λ p. (tested_value p.0, p.1)) (pop f w.instr.a s)

abbrev pub tested_by : Function → Word → Situation → Option (TestedValue × Situation)
tested_by f w s = tested_as w.instr.op f w s

abbrev pub condition : Function → TestedValue → Situation → Option (Wording × Situation)
condition f (tested_value v) s = option_map (λ w. (w.0, w.2)) (value_written f s.taken v s)
condition f (tested_comparison c) s = comparison_written f c s

abbrev pub is_equality : BinaryOp → Bool
is_equality BinaryOp.Eq = true
is_equality op = false

-- how many levels a condition has where it is negated: `~=` for `==`, and else `not`, with parentheses around a binary operator
abbrev pub negated_levels : Expression → (levels : ℕ) → ℕ
negated_levels (binary_expression line op left right) levels = if is_equality op then levels else one_more (one_more levels)
negated_levels e levels = one_more levels

-- the value of the condition at which it goes on to its jump
abbrev pub when_of : Op → Word → Bool
when_of Op.Test w = w.instr.c == 1
when_of op w = w.instr.a == 1

abbrev pub test_ended : Word → (jump : Word) → (Wording × Situation) → (to : ℕ) → Drafted × Situation
test_ended w jump p to = (drafted (DraftKind.Test (when_of w.instr.op w) to (negated_levels p.0.words p.0.levels)) jump.next p.0.levels (condition_part p.0.words) p.1, p.1)

abbrev pub with_condition : Function → Word → (jump : Word) → (Wording × Situation) → Option (Drafted × Situation)
with_condition f w jump p = option_map (test_ended w jump p) (target f jump)

-- the step of a test, with the JMP behind it
abbrev pub test_step : Function → Word → (jump : Word) → (TestedValue × Situation) → Option (Drafted × Situation)
test_step f w jump p = option_and_then (with_condition f w jump) (condition f p.0 p.1)

abbrev pub alone : (TestedValue × Situation) → Option (TestedValue × Situation)
alone p = if length p.1.entries == 0 then Some p else None

abbrev pub test : Function → Word → Situation → Option (Drafted × Situation)
test f w s = option_and_then (λ jump. option_and_then (test_step f w jump) (option_and_then alone (tested_by f w s))) (jump_behind f w)
