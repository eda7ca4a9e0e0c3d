use Rattle.std.proofs.Common.{◌≡◌, ℕ, suc, List, [], ◌∷◌, length, Some, arith, refl, subst}
use Rattle.std.specs.Prelude.{slice_get}
use Rattle.std.proofs.lemmas.List.Elements.{All-nil, All-cons}
use Rattle.opcode.specs.declared.op.Op.TheVariants as op
use Rattle.opcode.specs.declared.word.Instr.{Instr}
use Rattle.lua_heap.specs.State.{IsOf}
use Rattle.rules.specs.Step.{count_of}
use Rattle.upvalue.specs.State.{top}
use Rattle.machine.specs.declared.function.Function.{Function}
use Rattle.machine.specs.declared.running.Running.{Running}
use Rattle.machine.specs.Fits.{FitsFrame}
use Rattle.machine.specs.Seen.{cells_in}
use Rattle.machine.specs.Whole.{IsSafe}
use Rattle.machine.specs.Words.{AreThere, IsListed}
use Rattle.machine.proofs.Crossings.{one_there, returned}
use Rattle.machine.proofs.SeenWords.{top_function}
use Rattle.machine.proofs.crossing.return_in_place.Goals as goal

abbrev FitsReturn : Function → Running → Instr → Type 0
FitsReturn f k i = FitsFrame op.Return f (top k.stack.frames) k.top.results (length (cells_in k.heap k.top.closure)) k.top.pc i

-- the registers of so many values
there : (fs : List Function) (k : Running) (i : Instr) (n : ℕ) → IsSafe fs k → ((f : Function) → slice_get fs k.top.function ≡ Some f → FitsReturn f k i) → i.b ≡ suc n → AreThere (top k.stack.frames) i.a n
there fs k i n safe asked is =
    let f = top_function fs k safe in
    subst (λ b. IsListed (top k.stack.frames) k.top.results i.a (count_of b)) is (asked f.0 f.1).1

pub read-value-requires : goal.read-value-requires
read-value-requires c =
    let within = there c.args.functions.now c.args.running.now c.args.i 1 c.requires.safe c.requires.fits c.in-2.is (omega arith) in
    omega (arith, within)

pub give_fixed-requires-in-2-clause-values : goal.give_fixed-requires-in-2-clause-values
give_fixed-requires-in-2-clause-values c =
    let h = c.args.running.now.heap in
    All-cons (IsOf h) c.read-value.result [] (c.read-value.ensures.known h c.requires.safe.shares) (All-nil (IsOf h))

pub returns-in-1-clause-done : goal.returns-in-1-clause-done
returns-in-1-clause-done c yes_done =
    let fs = c.args.functions.now in
    let old = c.args.running.now in
    let i = c.args.i in
    returned fs old c.give_fixed.new.running [] 0 i (omega (arith, c.if-running-gt0.false)) c.in-1.is (there fs old i 0 c.requires.safe c.requires.fits c.in-1.is) refl c.requires.safe.top_frame.results c.give_fixed.ensures

pub returns-in-2-clause-done : goal.returns-in-2-clause-done
returns-in-2-clause-done c yes_done =
    let fs = c.args.functions.now in
    let old = c.args.running.now in
    let i = c.args.i in
    let v = c.read-value.result in
    returned fs old c.give_fixed-in-2.new.running (v ∷ []) 1 i (omega (arith, c.if-running-gt0.false)) c.in-2.is (there fs old i 1 c.requires.safe c.requires.fits c.in-2.is) (one_there (top old.stack.frames) i.a v c.read-value.ensures.value) c.requires.safe.top_frame.results c.give_fixed-in-2.ensures
