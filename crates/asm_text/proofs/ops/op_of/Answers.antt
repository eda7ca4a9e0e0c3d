use Rattle.std.proofs.Common.{refl, sym, ◌∙◌, arith}
use Rattle.asm_text.specs.Reading.{op_at}
use Rattle.asm_text.proofs.Names.{op_here, op_later, op_nowhere}
use Rattle.asm_text.proofs.ops.op_of.Goals as goal

pub loop-number-init : goal.loop-number-init
unfolding op_at
loop-number-init c = refl

pub loop-number-preserved : goal.loop-number-preserved
loop-number-preserved c =
    sym (op_later c.in_ok-op.op c.loop-number.number c.args.name.now c.as_bytes.result.now c.in_ok-op.ensures.op (c.as_bytes.ensures.value ∙ c.op_name.ensures) c.if-eq.ensures) ∙ c.loop-number.invariant

pub returns-then-eq : goal.returns-then-eq
returns-then-eq c =
    sym (op_here c.in_ok-op.op c.loop-number.number c.args.name.now c.as_bytes.result.now c.in_ok-op.ensures.op (c.as_bytes.ensures.value ∙ c.op_name.ensures) c.if-eq.ensures) ∙ c.loop-number.invariant

pub returns : goal.returns
returns c = sym (op_nowhere c.loop-number.number c.args.name.now (omega arith)) ∙ c.loop-number.invariant
