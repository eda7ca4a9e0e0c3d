-- Answers.
use Rattle.verifier.proofs.Hits.{hit_loops}
use Rattle.verifier.proofs.note.Note.hit.Goals as goal

pub returns : goal.returns
returns c = hit_loops c.args.self _ _ c.args.first c.args.end _ c.if-first-end.false c.saturating_sub.ensures c.range-lost.ensures c.without.ensures
