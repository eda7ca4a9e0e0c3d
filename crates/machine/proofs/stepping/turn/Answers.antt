use Rattle.std.proofs.Common.{◌≡◌, ◌∙◌, ◌+◌, ◌++◌, suc, List, Some, ap, subst, arith}
use Rattle.std.specs.Prelude.{slice_get, option_and_then}
use Rattle.std.proofs.lemmas.Result.{IfOk-weaker}
use Rattle.opcode.specs.Reading.{instr_of}
use Rattle.opcode.specs.declared.word.Instr.{Instr}
use Rattle.lua_heap.proofs.Callers.{keeps_both}
use Rattle.host.specs.Hosts.{HostSetState}
use Rattle.rules.specs.State.{need, at_pc}
use Rattle.rules.specs.Run.{after}
use Rattle.rules.specs.Step.{effect}
use Rattle.machine.specs.declared.function.Function.{Function}
use Rattle.machine.specs.declared.running.Running.{Running}
use Rattle.machine.specs.declared.did.Did.{Did}
use Rattle.machine.specs.declared.settling.Settled.{Settled}
use Rattle.machine.specs.Outside.{around, replies_in}
use Rattle.machine.specs.Ready.{Steps, with_pc}
use Rattle.machine.specs.Seen.{seen}
use Rattle.machine.specs.Settled.{DoesOutside, Settles, conf_of}
use Rattle.machine.proofs.EventsInRow.{happened_in_row, around_first, around_last}
use Rattle.machine.proofs.SeenStates.{whole_later}
use Rattle.machine.proofs.SeenWords.{top_function}
use Rattle.machine.proofs.WordsNext.{safe_behind_word, word_next, whole_behind_word}
use Rattle.machine.proofs.stepping.turn.Goals as goal
use Rattle.machine.proofs.BrokenOff.{on_err, on_err_as}
use Rattle.machine.proofs.BrokenSteps.{word_broke, settling_broke}

-- a word and what it left to be done, as a step
one_step : (fs : List Function) (f : Function) (old moved between new : Running) (i : Instr) (did : Did) (settled : Settled) (before middle behind : HostSetState) → slice_get fs old.top.function ≡ Some f → option_and_then instr_of (slice_get f.code.items old.top.pc) ≡ Some i → moved ≡ with_pc old (old.top.pc + 1) → DoesOutside fs (λ m. effect i.op m i) moved between before middle did → Settles fs did between new middle behind settled → Steps fs old new before behind settled
one_step fs f old moved between new i did settled before middle behind at word is_moved done settles =
    let pc = old.top.pc in
    let behind_it : pc + 1 ≡ suc pc = omega arith in
    let does = subst (λ n. DoesOutside fs (λ m. effect i.op m i) (with_pc old n) between before middle did) behind_it (subst (λ k. DoesOutside fs (λ m. effect i.op m i) k between before middle did) is_moved done) in
    record {
      es = does.es ++ settles.es;
      happened = happened_in_row does.es settles.es old.pieces.items between.pieces.items new.pieces.items before middle behind does.happened settles.happened;
      is = λ c events left j whole next.
          let m = seen c (around before events (replies_in (does.es ++ settles.es) ++ left)) old in
          let here = word_next c (around before events (replies_in (does.es ++ settles.es) ++ left)) fs f old i j whole at word next in
          let ready = whole_behind_word c fs old (suc pc) whole in
          ap (λ o. after m (need o (λ i. effect i.op (at_pc m (suc pc)) i))) here
          ∙ ap (λ a. after m (effect i.op (seen c a (with_pc old (suc pc))) i)) (around_first before events does.es settles.es left)
          ∙ ap (after m) (does.is c events (replies_in settles.es ++ left) ready)
          ∙ settles.is c m (events ++ does.es) left (whole_later c fs (with_pc old (suc pc)) between ready does.keeps (does.safe ready.safe))
          ∙ ap (λ a. conf_of settled (seen c a new)) (around_last behind events does.es settles.es left);
      safe = λ safe. settles.safe (does.safe (safe_behind_word fs old (suc pc) safe));
      keeps = keeps_both old.heap between.heap new.heap does.keeps settles.keeps;
      named = settles.named ∙ does.named;
    }

pub do_word-requires-clause-other : goal.do_word-requires-clause-other
do_word-requires-clause-other g c =
    let (f, at) = top_function c.args.functions.now c.args.running.now c.requires.safe in
    c.requires.other f c.take_word-i.result at (c.take_word-i.ensures.is f at)

pub returns-clause-steps : goal.returns-clause-steps
returns-clause-steps g c =
    let old = c.args.running.now in
    let fs = c.args.functions.now in
    let i = c.take_word-i.result in
    let (f, at) = top_function fs old c.requires.safe in
    IfOk-weaker c.settle.result _ _ (λ settled settles.
    one_step fs f old c.take_word-i.new.running c.do_word.new.running c.settle.new.running i c.in_ok-did.did settled _ _ _ at (c.take_word-i.ensures.is f at) c.take_word-i.ensures.behind c.in_ok-did.ensures.does settles) c.settle.ensures.settles

pub returns-in_err-did-clause-broke_off : goal.returns-in_err-did-clause-broke_off
returns-in_err-did-clause-broke_off g c =
    let old = c.args.running.now in
    let fs = c.args.functions.now in
    let i = c.take_word-i.result in
    let (f, at) = top_function fs old c.requires.safe in
    on_err c.from_residual.result (word_broke fs f old c.take_word-i.new.running i _ at (c.take_word-i.ensures.is f at) c.take_word-i.ensures.behind _ c.in_err-did.ensures.broke_off)

pub returns-clause-broke_off : goal.returns-clause-broke_off
returns-clause-broke_off g c =
    let old = c.args.running.now in
    let fs = c.args.functions.now in
    let i = c.take_word-i.result in
    let (f, at) = top_function fs old c.requires.safe in
    on_err_as c.settle.result (λ broke. settling_broke fs f old c.take_word-i.new.running i _ at (c.take_word-i.ensures.is f at) c.take_word-i.ensures.behind c.do_word.new.running c.in_ok-did.did _ _ c.in_ok-did.ensures.does broke) c.settle.ensures.broke_off
