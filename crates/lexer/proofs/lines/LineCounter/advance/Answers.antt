use Rattle.std.proofs.Common.{ℕ, List, [], ◌∷◌, ◌++◌, take, get_or, append_assoc, sym, ap, subst, ◌∙◌}
use Rattle.std.proofs.lemmas.List.{take_more}
use Rattle.lexer.specs.Lines.{IsCounted}
use Rattle.lexer.proofs.lines.LineCounter.advance.Goals as goal

pub loop-byte-preserved : goal.loop-byte-preserved
loop-byte-preserved c = λ done is.
    let before : List ℕ = done ++ take c.loop-byte.byte-index c.args.text.now in
    let same = append_assoc done (take c.loop-byte.byte-index c.args.text.now) (get_or c.args.text.now c.loop-byte.byte-index 0 ∷ []) ∙ ap (λ t. done ++ t) (sym (take_more c.args.text.now c.loop-byte.byte-index 0 c.loop-byte-test.true)) in
    subst (λ t. IsCounted t c.step.new.self) same (c.step.ensures before (c.loop-byte.invariant done is))
