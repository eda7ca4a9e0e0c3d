use Rattle.std.proofs.Common.{◌∙◌, ap}
use Rattle.recover_flow.specs.Searching.{known_with, or_nothing}
use Rattle.recover_flow.proofs.Remembered.{branches_remembered}
use Rattle.recover_flow.proofs.memory.Memory.keep_branches.Goals as goal

pub returns : goal.returns
returns c steps right answer =
    let known = c.with.ensures ∙ ap (known_with c.args.levels c.args.found) (c.or_nothing-known.ensures ∙ ap or_nothing (c.copied.ensures ∙ c.get.ensures.value)) in
    branches_remembered steps c.args.self.now c.args.at c.args.levels c.args.found c.insert.new.self c.with.result known c.in_ok-insert.ensures.updates right answer
