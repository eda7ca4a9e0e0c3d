-- An opcode's number is the low six bits of the word, and its format picks the fields.
use Rattle.std.proofs.Common.{◌%◌, ◌≤◌, Some, refl, sym, ap, ◌∙◌, arith}
use Rattle.std.proofs.lemmas.Int.{ints}
use Rattle.opcode.specs.declared.op.Format.{Format}
use Rattle.opcode.proofs.WordReading.{read_as, same_fields, no_word_is_read, by_reading}
use Rattle.opcode.proofs.word.decode.Goals as goal

pub returns-in_err-op-clause-reading : goal.returns-in_err-op-clause-reading
returns-in_err-op-clause-reading c =
    let past : 38 ≤ c.args.word % 64 = omega (arith, c.in_err-op.ensures.none, c.bits.ensures) in
    c.from_residual.ensures ∙ sym (no_word_is_read c.args.word past)

pub returns-in_err-op-clause-read_back : goal.returns-in_err-op-clause-read_back
returns-in_err-op-clause-read_back c = by_reading _ c.args.word (returns-in_err-op-clause-reading c)

pub returns-in-Abc-clause-reading : goal.returns-in-Abc-clause-reading
returns-in-Abc-clause-reading c =
    ap (λ i. Some i) (same_fields c.in_ok-op.op _ _ _ _ _ _ _ _ _ _ (omega arith) (omega arith) (omega arith) refl refl)
    ∙ sym (read_as c.in_ok-op.op Format.Abc c.args.word (omega (arith, c.in_ok-op.ensures.op)) (sym c.format.ensures ∙ c.in-Abc.is))

pub returns-in-Abc-clause-read_back : goal.returns-in-Abc-clause-read_back
returns-in-Abc-clause-read_back c = by_reading _ c.args.word (returns-in-Abc-clause-reading c)

pub returns-in-Abx-clause-reading : goal.returns-in-Abx-clause-reading
returns-in-Abx-clause-reading c =
    ap (λ i. Some i) (same_fields c.in_ok-op.op _ _ _ _ _ _ _ _ _ _ (omega arith) refl refl (omega arith) refl)
    ∙ sym (read_as c.in_ok-op.op Format.Abx c.args.word (omega (arith, c.in_ok-op.ensures.op)) (sym c.format.ensures ∙ c.in-Abx.is))

pub returns-in-Abx-clause-read_back : goal.returns-in-Abx-clause-read_back
returns-in-Abx-clause-read_back c = by_reading _ c.args.word (returns-in-Abx-clause-reading c)

pub returns-in-Asbx-clause-reading : goal.returns-in-Asbx-clause-reading
returns-in-Asbx-clause-reading c =
    ap (λ i. Some i) (same_fields c.in_ok-op.op _ _ _ _ _ _ _ _ _ _ (omega arith) refl refl refl (omega (arith, ints)))
    ∙ sym (read_as c.in_ok-op.op Format.Asbx c.args.word (omega (arith, c.in_ok-op.ensures.op)) (sym c.format.ensures ∙ c.in-Asbx.is))

pub returns-in-Asbx-clause-read_back : goal.returns-in-Asbx-clause-read_back
returns-in-Asbx-clause-read_back c = by_reading _ c.args.word (returns-in-Asbx-clause-reading c)
