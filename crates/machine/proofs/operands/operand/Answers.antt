use Rattle.machine.proofs.operands.operand.Goals as goal

pub returns-then-x-lt256-clause-known : goal.returns-then-x-lt256-clause-known
returns-then-x-lt256-clause-known c h known = c.register.ensures.known h known.registers

pub returns-else-x-lt256-clause-known : goal.returns-else-x-lt256-clause-known
returns-else-x-lt256-clause-known c h known = c.constant.ensures.known h known.constants
