use Rattle.suite_io.proofs.LastCall.{set-last}
use Rattle.std.proofs.Common.{◌∙◌, ap, length}
use Rattle.suite_io.proofs.calls.FileCalls.settle.Goals as goal

pub returns-then-count-gt0 : goal.returns-then-count-gt0
returns-then-count-gt0 c = λ calls call is.
    set-last c.self.inside.calls.items calls call (length c.as_slice-count.result.now) c.index_mut.result.now c.args.failed (c.self.view_is ∙ is) (ap length c.as_slice-count.ensures.value) c.index_mut.ensures.value
