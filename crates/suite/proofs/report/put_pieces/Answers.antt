use Rattle.std.proofs.Common.{List, ℕ, [], ◌∷◌, subst}
use Rattle.std.specs.Prelude.{codes}
use Rattle.suite_io.specs.Taken.{Takes}
use Rattle.suite_io.specs.Parts.{TakesPart}
use Rattle.suite.proofs.Putting.{first_refused, second_refused, third_refused, last_refused, on_err, on_err_then}
use Rattle.suite.proofs.report.put_pieces.Goals as goal

abbrev prefix : List ℕ
prefix = codes "luasuite: "

pub returns-in_err-put_all-clause-part : goal.returns-in_err-put_all-clause-part
returns-in_err-put_all-clause-part g c =
    on_err c.from_residual.result _ (first_refused prefix c.args.name.now c.args.text.now (10 ∷ []) _ _ c.in_err-put_all.ensures.part)

pub returns-in_err-put_all-2-clause-part : goal.returns-in_err-put_all-2-clause-part
returns-in_err-put_all-2-clause-part g c =
    let name = subst (TakesPart _ (g.E.Sink.taken c.put_all-2.new.sink)) c.as_bytes.ensures.value c.in_err-put_all-2.ensures.part in
    on_err c.from_residual-in_err-put_all-2.result _ (second_refused prefix c.args.name.now c.args.text.now (10 ∷ []) _ _ _ c.in_ok-put_all.ensures.whole name)

pub returns-in_err-put_all-3-clause-part : goal.returns-in_err-put_all-3-clause-part
returns-in_err-put_all-3-clause-part g c =
    let name = subst (Takes _ (g.E.Sink.taken c.put_all-2.new.sink)) c.as_bytes.ensures.value c.in_ok-put_all-2.ensures.whole in
    on_err c.from_residual-in_err-put_all-3.result _ (third_refused prefix c.args.name.now c.args.text.now (10 ∷ []) _ _ _ _ c.in_ok-put_all.ensures.whole name c.in_err-put_all-3.ensures.part)

pub returns-clause-part : goal.returns-clause-part
returns-clause-part g c =
    let name = subst (Takes _ (g.E.Sink.taken c.put_all-2.new.sink)) c.as_bytes.ensures.value c.in_ok-put_all-2.ensures.whole in
    on_err_then c.put_all-4.result _ _ (λ p. last_refused prefix c.args.name.now c.args.text.now (10 ∷ []) _ _ _ _ _ c.in_ok-put_all.ensures.whole name c.in_ok-put_all-3.ensures.whole p) c.put_all-4.ensures.part
