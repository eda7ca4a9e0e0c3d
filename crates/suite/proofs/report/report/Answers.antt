use Rattle.std.proofs.Common.{sym, ap, subst, refl, ◌∙◌, []}
use Rattle.std.specs.String.{string_bytes}
use Rattle.suite.specs.declared.outcome.Outcome.{Outcome}
use Rattle.suite.specs.Lines.{status_of, Reported}
use Rattle.suite.proofs.Reporting.{made_or_wanting}
use Rattle.suite.proofs.report.report.Goals as goal

pub returns-in-Unfinished : goal.returns-in-Unfinished
returns-in-Unfinished g c =
    subst (λ (outcome : Outcome). Reported outcome c.args.name.now c.put_made_line.result (g.E.Sink.taken c.args.err.now) (g.E.Sink.taken c.put_made_line.new.err) (g.E.Sink.faults c.args.err.now) (g.E.Sink.faults c.put_made_line.new.err)) (sym c.in-Unfinished.is)
    (made_or_wanting string_bytes (Outcome.Unfinished c.in-Unfinished.steps) c.args.name.now [] _ c.format-text.result _ c.put_made_line.result _ _ _ _ (c.status-status.ensures ∙ ap status_of c.in-Unfinished.is) refl c.format-text.ensures.ok c.put_made_line.ensures.made c.put_made_line.ensures.wanting)

pub returns-in-Rejected : goal.returns-in-Rejected
returns-in-Rejected g c =
    subst (λ (outcome : Outcome). Reported outcome c.args.name.now c.put_made_line-in-Rejected.result (g.E.Sink.taken c.args.err.now) (g.E.Sink.taken c.put_made_line-in-Rejected.new.err) (g.E.Sink.faults c.args.err.now) (g.E.Sink.faults c.put_made_line-in-Rejected.new.err)) (sym c.in-Rejected.is)
    (made_or_wanting string_bytes (Outcome.Rejected c.in-Rejected.rejection) c.args.name.now _ _ c.format-text-in-Rejected.result _ c.put_made_line-in-Rejected.result _ _ _ _ (c.status-status.ensures ∙ ap status_of c.in-Rejected.is) refl c.format-text-in-Rejected.ensures.ok c.put_made_line-in-Rejected.ensures.made c.put_made_line-in-Rejected.ensures.wanting)

pub returns-in-NotDecompiled : goal.returns-in-NotDecompiled
returns-in-NotDecompiled g c =
    subst (λ (outcome : Outcome). Reported outcome c.args.name.now c.put_made_line-in-NotDecompiled.result (g.E.Sink.taken c.args.err.now) (g.E.Sink.taken c.put_made_line-in-NotDecompiled.new.err) (g.E.Sink.faults c.args.err.now) (g.E.Sink.faults c.put_made_line-in-NotDecompiled.new.err)) (sym c.in-NotDecompiled.is)
    (made_or_wanting string_bytes (Outcome.NotDecompiled c.in-NotDecompiled.refused) c.args.name.now _ _ c.format-text-in-NotDecompiled.result _ c.put_made_line-in-NotDecompiled.result _ _ _ _ (c.status-status.ensures ∙ ap status_of c.in-NotDecompiled.is) refl c.format-text-in-NotDecompiled.ensures.ok c.put_made_line-in-NotDecompiled.ensures.made c.put_made_line-in-NotDecompiled.ensures.wanting)

pub returns-in-BadListing : goal.returns-in-BadListing
returns-in-BadListing g c =
    subst (λ (outcome : Outcome). Reported outcome c.args.name.now c.put_made_line-in-BadListing.result (g.E.Sink.taken c.args.err.now) (g.E.Sink.taken c.put_made_line-in-BadListing.new.err) (g.E.Sink.faults c.args.err.now) (g.E.Sink.faults c.put_made_line-in-BadListing.new.err)) (sym c.in-BadListing.is)
    (made_or_wanting string_bytes (Outcome.BadListing c.in-BadListing.fault) c.args.name.now _ _ c.format-text-in-BadListing.result _ c.put_made_line-in-BadListing.result _ _ _ _ (c.status-status.ensures ∙ ap status_of c.in-BadListing.is) refl c.format-text-in-BadListing.ensures.ok c.put_made_line-in-BadListing.ensures.made c.put_made_line-in-BadListing.ensures.wanting)
