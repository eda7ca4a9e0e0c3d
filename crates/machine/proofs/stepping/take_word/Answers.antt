use Rattle.std.proofs.Common.{◌≡◌, ◌∙◌, Some, sym, ap, subst, arith}
use Rattle.std.specs.Prelude.{get_or, slice_get, option_and_then}
use Rattle.std.proofs.lemmas.Option.{slice_get-get_or, same_Some}
use Rattle.opcode.specs.Reading.{instr_of}
use Rattle.machine.specs.declared.function.Function.{Function}
use Rattle.machine.proofs.WordsNext.{ready_word, word_there, word_decoded, fits_behind}
use Rattle.machine.proofs.stepping.take_word.Goals as goal

pub index-word-requires : goal.index-word-requires
index-word-requires c =
    let old = c.args.running.now in
    let fs = c.args.functions.now in
    let other = c.index-functions-running.result in
    let f = get_or fs old.top.function other in
    let there = word_there fs f old (ready_word fs old other c.requires.safe c.requires.ready) in
    omega (arith, f.words.ok.0, there)

pub overflow_add-running : goal.overflow_add-running
overflow_add-running c =
    let old = c.args.running.now in
    let fs = c.args.functions.now in
    let other = c.index-functions-running.result in
    let f = get_or fs old.top.function other in
    let there = word_there fs f old (ready_word fs old other c.requires.safe c.requires.ready) in
    omega (arith, f.words.ok.0, f.words.ok.1, f.words.small, there)

pub returns-clause-is : goal.returns-clause-is
returns-clause-is c = λ f here.
    let old = c.args.running.now in
    let fs = c.args.functions.now in
    let other = c.index-functions-running.result in
    let word = ready_word fs old other c.requires.safe c.requires.ready in
    let is = word_decoded fs (get_or fs old.top.function other) old c.index-word.result.now word c.index-word.ensures ∙ ap Some (sym c.instr.ensures) in
    let same = same_Some (get_or fs old.top.function other) f (sym (slice_get-get_or fs old.top.function other c.requires.safe.top_frame.function) ∙ here) in
    subst (λ (x : Function). option_and_then instr_of (slice_get x.code.items old.top.pc) ≡ Some c.instr.result) same is

pub returns-clause-fits : goal.returns-clause-fits
returns-clause-fits c = fits_behind c.args.functions.now c.args.running.now c.instr.result c.index-functions-running.result c.index-word.result.now c.requires.safe c.requires.ready c.index-word.ensures c.instr.ensures
