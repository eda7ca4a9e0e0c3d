use Rattle.std.proofs.Common.{◌∙◌}
use Rattle.core_expr.proofs.Chains.{first_placed, turn_placed}
use Rattle.core_expr.proofs.operators.chained.Goals as goal

pub loop-operand-init : goal.loop-operand-init
loop-operand-init c =
    first_placed c.pop.new.self.items c.args.operands.items c.in-Some.last c.in_ok-chain.chain c.in-Some.ensures.items (rw c.right_of.ensures at c.in_ok-chain.ensures)

pub loop-operand-preserved : goal.loop-operand-preserved
loop-operand-preserved c =
    turn_placed c.pop-in-loop-operand.new.self.items c.loop-operand.operands.items c.in-Some-pop.operand c.in_ok-operand.operand c.loop-operand.chain c.in_ok-chain-2.chain c.in-Some-pop.ensures.items (rw c.left_of.ensures at c.in_ok-operand.ensures) c.in_ok-chain-2.ensures ∙ c.loop-operand.invariant
