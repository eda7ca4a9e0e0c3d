use Rattle.std.proofs.Common.{◌≡◌, ◌<◌, ℕ, List, Ok, Some, ap, sym, subst, arith}
use Rattle.std.specs.Prelude.{slice_get}
use Rattle.proto.specs.Chunk.{Chunk}
use Rattle.machine.specs.declared.function.Function.{Function}
use Rattle.machine.specs.declared.running.Running.{Running}
use Rattle.machine.specs.Memory.{NeedsNoneNext}
use Rattle.machine.specs.Ready.{GoesSteps, IsOtherNext, with_pc}
use Rattle.machine.specs.Seen.{Around, seen}
use Rattle.machine.specs.Whole.{IsWhole}
use Rattle.machine.proofs.WordsInRow.{row_function, row_there, row_fits, row_asks, row_further, row_crossed, row_not_such, row_other}
use Rattle.machine.proofs.row.do_row.Goals as goal

pub index-word-requires : goal.index-word-requires
index-word-requires c =
    let fs = c.args.functions.now in
    let old = c.args.running.now in
    let l = c.loop-done in
    let f = l.function.now in
    let (bound, went, safe, at) = l.invariant in
    omega (arith, f.words.ok.0, row_there fs f old l.running l.pc l.done c.requires.ready went at)

pub overflow_add-pc : goal.overflow_add-pc
overflow_add-pc c =
    let fs = c.args.functions.now in
    let old = c.args.running.now in
    let l = c.loop-done in
    let f = l.function.now in
    let (bound, went, safe, at) = l.invariant in
    omega (arith, f.words.ok.0, f.words.ok.1, f.words.small, row_there fs f old l.running l.pc l.done c.requires.ready went at)

pub overflow_add-running : goal.overflow_add-running
overflow_add-running c =
    let fs = c.args.functions.now in
    let old = c.args.running.now in
    let l = c.loop-done in
    let f = l.function.now in
    let (bound, went, safe, at) = l.invariant in
    omega (arith, f.words.ok.0, f.words.ok.1, f.words.small, row_there fs f old l.running l.pc l.done c.requires.ready went at)

pub word_at-requires : goal.word_at-requires
word_at-requires c =
    let fs = c.args.functions.now in
    let old = c.args.running.now in
    let l = c.loop-done in
    let f = l.function.now in
    let (bound, went, safe, at) = l.invariant in
    row_fits fs f old l.running l.pc l.done c.requires.ready went at c.index-word.result.now c.index-word.ensures safe

pub cross-requires : goal.cross-requires
cross-requires c =
    let fs = c.args.functions.now in
    let old = c.args.running.now in
    let l = c.loop-done in
    let f = l.function.now in
    let (bound, went, safe, at) = l.invariant in
    let asks = row_asks fs f old l.running l.pc l.done c.requires.ready went at c.index-word.result.now c.index-word.ensures c.word_at.new.running c.in_default.ensures.none safe in
    record { safe = asks.0; fits = asks.1 }

pub loop-done-preserved-in-Some : goal.loop-done-preserved-in-Some
loop-done-preserved-in-Some c =
    let fs = c.args.functions.now in
    let old = c.args.running.now in
    let l = c.loop-done in
    let f = l.function.now in
    let (bound, went, safe, at) = l.invariant in
    let made = c.in-Some.ensures in
    let further = row_further fs f old l.running l.pc l.done c.requires.ready went at c.index-word.result.now c.index-word.ensures _ (made.some fs at) safe in
    let P : ℕ → Type 0 = λ n. slice_get fs n ≡ Some f in
    (omega (arith, c.loop-done-test.true), further.0, further.1, subst P (ap (λ x. x.function) (sym made.top)) at)

pub bounds-functions-running-in-loop-done : goal.bounds-functions-running-in-loop-done
bounds-functions-running-in-loop-done c =
    let fs = c.args.functions.now in
    let old = c.args.running.now in
    let l = c.loop-done in
    let f = l.function.now in
    let (bound, went, safe, at) = l.invariant in
    let new = c.cross.new.running in
    let further = row_crossed fs f old l.running l.pc l.done c.requires.ready went at c.index-word.result.now c.index-word.ensures c.word_at.new.running new c.in_default.ensures.none (c.in_ok-crossed.ensures.done c.if-not-crossed.false) safe in
    further.1.top_frame.function

pub loop-done-preserved : goal.loop-done-preserved
loop-done-preserved c =
    let fs = c.args.functions.now in
    let old = c.args.running.now in
    let l = c.loop-done in
    let f = l.function.now in
    let (bound, went, safe, at) = l.invariant in
    let new = c.cross.new.running in
    let further = row_crossed fs f old l.running l.pc l.done c.requires.ready went at c.index-word.result.now c.index-word.ensures c.word_at.new.running new c.in_default.ensures.none (c.in_ok-crossed.ensures.done c.if-not-crossed.false) safe in
    (omega (arith, c.loop-done-test.true), further.0, further.1, row_function fs c.index-functions-running-in-loop-done.result new further.1 c.index-functions-running-in-loop-done.is)

pub returns-then-not-crossed-clause-went : goal.returns-then-not-crossed-clause-went
returns-then-not-crossed-clause-went c =
    let fs = c.args.functions.now in
    let old = c.args.running.now in
    let l = c.loop-done in
    let f = l.function.now in
    let (bound, went, safe, at) = l.invariant in
    let new = c.cross.new.running in
    let P : Running → Type 0 = λ k. GoesSteps fs l.done old (with_pc k l.pc) in
    subst P (sym (c.in_ok-crossed.ensures.not_done c.if-not-crossed.true)) (subst P (sym c.in_default.ensures.none) went)

pub returns-then-not-crossed-clause-other : goal.returns-then-not-crossed-clause-other
returns-then-not-crossed-clause-other c = λ fewer.
    let fs = c.args.functions.now in
    let old = c.args.running.now in
    let l = c.loop-done in
    let f = l.function.now in
    let (bound, went, safe, at) = l.invariant in
    let P : Running → Type 0 = λ k. IsOtherNext fs (with_pc k l.pc) in
    subst P (sym (c.in_ok-crossed.ensures.not_done c.if-not-crossed.true)) (subst P (sym c.in_default.ensures.none) (row_other fs f old l.running l.pc l.done c.requires.ready went at c.index-word.result.now c.index-word.ensures c.in_default.ensures.other))

-- the first word takes memory, where it was not done
first_takes : {P : Type 0} (fs : List Function) (old here : Running) (done steps : ℕ) → done < steps → steps ≡ 1 → GoesSteps fs done old here → ((d : Chunk) (a : Around) → IsWhole d fs here → NeedsNoneNext (seen d a here) → ⊥) → (d : Chunk) (a : Around) → IsWhole d fs old → NeedsNoneNext (seen d a old) → P
first_takes fs old here done steps fewer one went taken d a whole needs =
    let none : done ≡ 0 = omega (arith, fewer, one) in
    let unmoved : here ≡ old = subst (λ n. GoesSteps fs n old here) none went in
    absurd (taken d a (subst (IsWhole d fs) (sym unmoved) whole) (subst (λ k. NeedsNoneNext (seen d a k)) (sym unmoved) needs))

pub returns-then-not-crossed-clause-first : goal.returns-then-not-crossed-clause-first
returns-then-not-crossed-clause-first c = λ one d a whole needs.
    let fs = c.args.functions.now in
    let old = c.args.running.now in
    let l = c.loop-done in
    let f = l.function.now in
    let (bound, went, safe, at) = l.invariant in
    first_takes fs old (with_pc l.running l.pc) l.done c.args.steps c.loop-done-test.true one went (row_not_such fs f old l.running l.pc l.done c.requires.ready went at c.index-word.result.now c.index-word.ensures c.in_default.ensures.taken) d a whole needs

pub returns-in_err-crossed-clause-first : goal.returns-in_err-crossed-clause-first
returns-in_err-crossed-clause-first c = λ one d a whole needs.
    let fs = c.args.functions.now in
    let old = c.args.running.now in
    let l = c.loop-done in
    let f = l.function.now in
    let (bound, went, safe, at) = l.invariant in
    first_takes fs old (with_pc l.running l.pc) l.done c.args.steps c.loop-done-test.true one went (row_not_such fs f old l.running l.pc l.done c.requires.ready went at c.index-word.result.now c.index-word.ensures c.in_default.ensures.taken) d a whole needs

pub returns-clause-first : goal.returns-clause-first
returns-clause-first c = λ one d a whole needs.
    let l = c.loop-done in
    let all : l.done ≡ 1 = omega (arith, one, l.invariant.0, c.loop-done-test.false) in
    ap Ok all
