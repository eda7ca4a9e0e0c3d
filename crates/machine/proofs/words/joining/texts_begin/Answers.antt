use Rattle.std.proofs.Common.{◌≡◌, ◌+◌, ◌-◌, Some, suc, sym, subst, arith}
use Rattle.std.specs.Prelude.{slice_get}
use Rattle.lua_heap.specs.State.{datum}
use Rattle.machine.specs.Frames.{data_of}
use Rattle.machine.proofs.Joins.{one_more_text}
use Rattle.machine.proofs.words.joining.texts_begin.Goals as goal

pub loop-left-preserved : goal.loop-left-preserved
loop-left-preserved c =
    let values = c.args.registers.now in
    let first = c.args.first in
    let left = c.loop-left.left in
    let last = c.register-last.result in
    let is_left : left ≡ suc (left - 1) = omega (arith, c.loop-left-test.true) in
    let place : first + left - 1 ≡ first + (left - 1) = omega (arith, c.loop-left-test.true) in
    (omega (arith, c.loop-left.invariant.0), λ h. one_more_text h values first c.args.count left (left - 1) last is_left (subst (λ r. slice_get (data_of h values) r ≡ Some (datum h last)) place (c.register-last.ensures.value h)) (sym (c.if-not-is_text-2.ensures h)) (c.loop-left.invariant.1 h))
