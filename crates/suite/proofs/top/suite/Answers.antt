use Rattle.std.specs.Prelude.{List, ℕ, IfSome, IfNone}
use Rattle.std.proofs.Common.{refl, subst}
use Rattle.suite.specs.Words.{Reads, NoCommand, job_of}
use Rattle.suite.specs.Lines.{Reported}
use Rattle.suite.proofs.Promised.{some_promised, none_promised, wanting_promised}
use Rattle.suite.proofs.top.suite.Goals as goal

pub returns-in-Some : goal.returns-in-Some
returns-in-Some g c =
    let reported = subst (λ (n : List ℕ). Reported c.do_command-outcome.result n c.report-in-Some.result (g.E.Sink.taken c.args.err.now) (g.E.Sink.taken c.report-in-Some.new.err) (g.E.Sink.faults c.args.err.now) (g.E.Sink.faults c.report-in-Some.new.err)) c.name.ensures c.report-in-Some.ensures in
    some_promised
    (record { compiled_are_one = c.chunks_are_one.ensures; source_or_fault = c.never_both.ensures; spelled_are_one = c.chunks_are_one-2.ensures; chunk_or_fault = c.never_both-2.ensures; sound_or_rejected = c.never_both-3.ensures; uses_are_one = c.texts_are_one.ensures; listed_are_one = c.chunks_are_one-3.ensures; listing_or_fault = c.never_both-4.ensures; compiled_does = c.compiled_does.ensures; globals_of_source = c.globals_of_source.ensures })
    c.args.words.now (job_of c.in-Some.command) (subst (λ o. IfSome o (λ command. Reads c.args.words.now (job_of command))) c.in-Some.is c.in-Ok.ensures.command) _ _ c.do_command-outcome.result c.do_command-outcome.ensures c.report-in-Some.result reported

pub returns-in-None : goal.returns-in-None
returns-in-None g c = none_promised c.args.words.now (subst (λ o. IfNone o (NoCommand c.args.words.now)) c.in-None.is c.in-Ok.ensures.none) _ _ refl refl c.report-in-None.result c.report-in-None.ensures

pub returns-in-Err : goal.returns-in-Err
returns-in-Err g c = wanting_promised c.args.words.now _ _ refl refl c.report.result c.report.ensures
    (record { compiled_are_one = c.chunks_are_one.ensures; source_or_fault = c.never_both.ensures; spelled_are_one = c.chunks_are_one-2.ensures; chunk_or_fault = c.never_both-2.ensures; sound_or_rejected = c.never_both-3.ensures; uses_are_one = c.texts_are_one.ensures; listed_are_one = c.chunks_are_one-3.ensures; listing_or_fault = c.never_both-4.ensures; compiled_does = c.compiled_does.ensures; globals_of_source = c.globals_of_source.ensures })
