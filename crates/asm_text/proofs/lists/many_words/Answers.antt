use Rattle.std.proofs.Common.{◌≡◌, ◌+◌, suc, false, sym, arith}
use Rattle.std.proofs.lemmas.Result.{err_from_is_err_and}
use Rattle.asm_text.specs.Reading.{word_line, next_word, many_at}
use Rattle.asm_text.proofs.Loop.{ends, is_done}
use Rattle.asm_text.proofs.LoopStates.{goes_to}
use Rattle.asm_text.proofs.lists.many_words.Goals as goal

pub returns-in_err-word : goal.returns-in_err-word
returns-in_err-word c =
    let p = err_from_is_err_and c.from_residual.result c.from_residual.ensures.1 in
    rw (p.1, p.2) (ends word_line next_word (c.loop-pc.raw, c.loop-pc.pc) c.in_err-word.field-0.0 c.loop-pc.words.items c.args.count c.loop-pc.pc c.loop-pc.rest.now (many_at word_line next_word (false, 0) c.args.count c.args.bytes.now) c.loop-pc-test.true c.in_err-word.ensures c.loop-pc.invariant)

pub loop-pc-preserved : goal.loop-pc-preserved
loop-pc-preserved c =
    let later : suc c.loop-pc.pc ≡ c.loop-pc.pc + 1 = omega arith in
    let state : next_word (c.loop-pc.raw, c.loop-pc.pc) c.in_ok-word.word ≡ (c.is_block_next-raw.result, c.loop-pc.pc + 1) = λ i. (sym c.is_block_next-raw.ensures i, later i) in
    rw c.in_ok-push.ensures.items (goes_to word_line next_word (c.loop-pc.raw, c.loop-pc.pc) (c.is_block_next-raw.result, c.loop-pc.pc + 1) c.loop-pc.words.items c.args.count c.loop-pc.pc c.loop-pc.rest.now c.in_ok-word.word c.in_ok-word.after.now (many_at word_line next_word (false, 0) c.args.count c.args.bytes.now) state c.loop-pc-test.true c.in_ok-word.ensures c.loop-pc.invariant)

pub returns : goal.returns
returns c = is_done word_line next_word (c.loop-pc.raw, c.loop-pc.pc) c.loop-pc.words.items c.args.count c.loop-pc.pc c.loop-pc.rest.now (many_at word_line next_word (false, 0) c.args.count c.args.bytes.now) c.loop-pc-test.false c.loop-pc.invariant
