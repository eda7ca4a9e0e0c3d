use Rattle.std.proofs.Common.{ap, option_map, subst}
use Rattle.recover_flow.specs.Held.{view_store}
use Rattle.recover_flow.specs.Searching.{StatementsAnswer}
use Rattle.recover_flow.proofs.Remembered.{body_kept}
use Rattle.recover_flow.proofs.memory.Memory.keep_body.Goals as goal

pub returns-in_default : goal.returns-in_default
returns-in_default c steps right answer =
    c.in_ok-know_body.ensures steps right (subst (λ statements. StatementsAnswer c.args.at c.args.levels (option_map (λ list. list.items) statements) steps (view_store c.args.self.now)) c.in_default.is answer)

pub returns : goal.returns
returns c steps right answer =
    body_kept steps c.args.self.now c.push_body.new.self c.know_body-2.new.self c.args.at c.args.levels c.in-Some.statements c.in_ok-push_body.field-0
    c.in_ok-push_body.ensures.others c.in_ok-push_body.ensures.bodies c.in_ok-push_body.ensures.found right
    (subst (λ statements. StatementsAnswer c.args.at c.args.levels (option_map (λ list. list.items) statements) steps (view_store c.args.self.now)) c.in-Some.is answer)
    (c.in_ok-know_body-2.ensures steps)
