use Rattle.std.proofs.Common.{◌≡◌, ◌+◌, ◌<◌, ℕ, suc, List, length, Some, arith, subst}
use Rattle.std.specs.Prelude.{slice_get}
use Rattle.opcode.specs.declared.op.Op.TheVariants as op
use Rattle.opcode.specs.declared.word.Instr.{Instr}
use Rattle.rules.specs.Step.{count_of}
use Rattle.upvalue.specs.State.{top}
use Rattle.machine.specs.declared.function.Function.{Function}
use Rattle.machine.specs.declared.running.Running.{Running}
use Rattle.machine.specs.Fits.{FitsFrame}
use Rattle.machine.specs.Seen.{cells_in}
use Rattle.machine.specs.Whole.{IsSafe}
use Rattle.machine.specs.Words.{IsListed}
use Rattle.machine.proofs.Crossings.{one_there, two_there, three_there}
use Rattle.machine.proofs.SeenWords.{top_function}
use Rattle.machine.proofs.crossing.call_in_place.Goals as goal

abbrev FitsCall : Function → Running → Instr → Type 0
FitsCall f k i = FitsFrame op.Call f (top k.stack.frames) k.top.results (length (cells_in k.heap k.top.closure)) k.top.pc i

-- the register of an argument, of so many
argument : (fs : List Function) (k : Running) (i : Instr) (n at : ℕ) → IsSafe fs k → ((f : Function) → slice_get fs k.top.function ≡ Some f → FitsCall f k i) → i.b ≡ suc n → at < n → i.a + 1 + at < length (top k.stack.frames)
argument fs k i n at safe asked is within =
    let f = top_function fs k safe in
    let there = subst (λ b. IsListed (top k.stack.frames) k.top.results (i.a + 1) (count_of b)) is (asked f.0 f.1).2 (omega (arith, within)) in
    omega (arith, within, there)

pub read-requires : goal.read-requires
read-requires c =
    let f = top_function c.args.functions.now c.args.running.now c.requires.safe in
    (c.requires.fits f.0 f.1).0

pub read-x-requires : goal.read-x-requires
read-x-requires c =
    let within = argument c.args.functions.now c.args.running.now c.args.i 1 0 c.requires.safe c.requires.fits c.in-2.is (omega arith) in
    omega (arith, within)

pub call_with-requires-in-2-clause-args : goal.call_with-requires-in-2-clause-args
call_with-requires-in-2-clause-args c = one_there (top c.args.running.now.stack.frames) (c.args.i.a + 1) c.read-x.result c.read-x.ensures.value

pub read-x-requires-in-3 : goal.read-x-requires-in-3
read-x-requires-in-3 c =
    let within = argument c.args.functions.now c.args.running.now c.args.i 2 0 c.requires.safe c.requires.fits c.in-3.is (omega arith) in
    omega (arith, within)

pub read-y-requires : goal.read-y-requires
read-y-requires c = argument c.args.functions.now c.args.running.now c.args.i 2 1 c.requires.safe c.requires.fits c.in-3.is (omega arith)

pub call_with-requires-in-3-clause-args : goal.call_with-requires-in-3-clause-args
call_with-requires-in-3-clause-args c = two_there (top c.args.running.now.stack.frames) (c.args.i.a + 1) c.read-x-in-3.result c.read-y.result c.read-x-in-3.ensures.value c.read-y.ensures.value

pub read-x-requires-in-4 : goal.read-x-requires-in-4
read-x-requires-in-4 c =
    let within = argument c.args.functions.now c.args.running.now c.args.i 3 0 c.requires.safe c.requires.fits c.in-4.is (omega arith) in
    omega (arith, within)

pub read-y-requires-in-4 : goal.read-y-requires-in-4
read-y-requires-in-4 c = argument c.args.functions.now c.args.running.now c.args.i 3 1 c.requires.safe c.requires.fits c.in-4.is (omega arith)

pub read-z-requires : goal.read-z-requires
read-z-requires c = argument c.args.functions.now c.args.running.now c.args.i 3 2 c.requires.safe c.requires.fits c.in-4.is (omega arith)

pub call_with-requires-in-4-clause-args : goal.call_with-requires-in-4-clause-args
call_with-requires-in-4-clause-args c = three_there (top c.args.running.now.stack.frames) (c.args.i.a + 1) c.read-x-in-4.result c.read-y-in-4.result c.read-z.result c.read-x-in-4.ensures.value c.read-y-in-4.ensures.value c.read-z.ensures.value
