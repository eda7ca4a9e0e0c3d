use Rattle.std.proofs.Common.{rules, ◌+◌, ap, sym, ◌∙◌}
use Rattle.global_use.proofs.Sums.{none_more}
use Rattle.global_use.proofs.counting.count_instr.Goals as goal

pub returns-then-is_none : goal.returns-then-is_none
returns-then-is_none c =
    none_more c.args.counts.now c.args.instr.bx _ (sym (ap (λ one. one.gets + one.sets) c.counts_of-one.ensures) ∙ c.if-is_none.ensures.0 (search rules))
