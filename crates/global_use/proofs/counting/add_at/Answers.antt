use Rattle.std.proofs.Common.{ap, ◌∙◌}
use Rattle.std.specs.Prelude.{slice_set}
use Rattle.global_use.proofs.Sums.{set_more, more_past}
use Rattle.global_use.proofs.counting.add_at.Goals as goal

pub returns-in_ok-counts : goal.returns-in_ok-counts
returns-in_ok-counts c =
    ap (λ v. slice_set c.args.counts.now c.args.place v) c.in_ok-counts.ensures ∙ set_more c.args.counts.now c.args.place _ c.args.more c.if-place-counts.true

pub returns-else-place-counts : goal.returns-else-place-counts
returns-else-place-counts c = more_past c.args.counts.now c.args.place c.args.more c.if-place-counts.false
