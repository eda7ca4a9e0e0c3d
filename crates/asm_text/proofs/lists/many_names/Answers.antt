use Rattle.std.proofs.Common.{ℕ, ◌+◌, arith}
use Rattle.std.proofs.lemmas.Result.{err_from_is_err_and}
use Rattle.lua_num.specs.Bytes.{Text}
use Rattle.asm_text.specs.Reading.{Read, whole_quoted_at, item_at, line_at, many_at, next_number}
use Rattle.asm_text.proofs.Loop.{ends, is_done}
use Rattle.asm_text.proofs.LoopStates.{goes_to}
use Rattle.asm_text.proofs.lists.many_names.Goals as goal

pub returns-in_err-name : goal.returns-in_err-name
returns-in_err-name c =
    let p = err_from_is_err_and c.from_residual.result c.from_residual.ensures.1 in
    let one : ℕ → Read Text = λ n. line_at (item_at whole_quoted_at n) in
    rw (p.1, p.2) (ends one next_number c.loop-number.number c.in_err-name.field-0.0 c.loop-number.names c.args.count c.loop-number.number c.loop-number.rest.now (many_at one next_number 0 c.args.count c.args.bytes.now) c.loop-number-test.true c.in_err-name.ensures c.loop-number.invariant)

pub loop-number-preserved : goal.loop-number-preserved
loop-number-preserved c =
    let one : ℕ → Read Text = λ n. line_at (item_at whole_quoted_at n) in
    rw c.in_ok-push.ensures.ok (goes_to one next_number c.loop-number.number (c.loop-number.number + 1) c.loop-number.names c.args.count c.loop-number.number c.loop-number.rest.now c.in_ok-name.name c.in_ok-name.after.now (many_at one next_number 0 c.args.count c.args.bytes.now) (omega arith) c.loop-number-test.true c.in_ok-name.ensures c.loop-number.invariant)

pub returns : goal.returns
returns c =
    let one : ℕ → Read Text = λ n. line_at (item_at whole_quoted_at n) in
    is_done one next_number c.loop-number.number c.loop-number.names c.args.count c.loop-number.number c.loop-number.rest.now (many_at one next_number 0 c.args.count c.args.bytes.now) c.loop-number-test.false c.loop-number.invariant
