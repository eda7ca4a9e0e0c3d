use Rattle.std.proofs.Common.{ℕ, ◌+◌, arith}
use Rattle.std.proofs.lemmas.Result.{err_from_is_err_and}
use Rattle.proto.specs.declared.parts.LocVar.{LocVar}
use Rattle.asm_text.specs.Reading.{Read, local_at, item_at, line_at, many_at, next_number}
use Rattle.asm_text.proofs.Loop.{ends, is_done}
use Rattle.asm_text.proofs.LoopStates.{goes_to}
use Rattle.asm_text.proofs.lists.many_locals.Goals as goal

pub returns-in_err-local : goal.returns-in_err-local
returns-in_err-local c =
    let p = err_from_is_err_and c.from_residual.result c.from_residual.ensures.1 in
    let one : ℕ → Read LocVar = λ n. line_at (item_at local_at n) in
    rw (p.1, p.2) (ends one next_number c.loop-number.number c.in_err-local.field-0.0 c.loop-number.locals.items c.args.count c.loop-number.number c.loop-number.rest.now (many_at one next_number 0 c.args.count c.args.bytes.now) c.loop-number-test.true c.in_err-local.ensures c.loop-number.invariant)

pub loop-number-preserved : goal.loop-number-preserved
loop-number-preserved c =
    let one : ℕ → Read LocVar = λ n. line_at (item_at local_at n) in
    rw c.in_ok-push.ensures.items (goes_to one next_number c.loop-number.number (c.loop-number.number + 1) c.loop-number.locals.items c.args.count c.loop-number.number c.loop-number.rest.now c.in_ok-local.local c.in_ok-local.after.now (many_at one next_number 0 c.args.count c.args.bytes.now) (omega arith) c.loop-number-test.true c.in_ok-local.ensures c.loop-number.invariant)

pub returns : goal.returns
returns c =
    let one : ℕ → Read LocVar = λ n. line_at (item_at local_at n) in
    is_done one next_number c.loop-number.number c.loop-number.locals.items c.args.count c.loop-number.number c.loop-number.rest.now (many_at one next_number 0 c.args.count c.args.bytes.now) c.loop-number-test.false c.loop-number.invariant
