use Rattle.std.proofs.Common.{◌≡◌, ◌∙◌, None, sym, subst}
use Rattle.recover_flow.specs.Held.{ConditionFound}
use Rattle.recover_flow.specs.Searching.{LoopFormAnswer, steps_of, store_of}
use Rattle.recover_flow.proofs.Chained.{answers_as}
use Rattle.recover_flow.proofs.Looping.{no_loop_form}
use Rattle.recover_flow.proofs.search.Search.loop_form.Goals as goal

pub returns-in_default-2 : goal.returns-in_default-2
returns-in_default-2 c =
    let before = c.args.self.now in
    let after = c.condition.new.self in
    answers_as before after (λ steps store. ConditionFound steps store c.in-Some-parts.parts.condition c.in_ok-condition.field-0) _ c.in_ok-condition.ensures
    (λ is. no_loop_form (steps_of before) (store_of after) c.args.at c.args.length c.in-Some.length c.in-Some-parts.parts c.in-Some.is (sym c.parts.ensures ∙ c.in-Some-parts.is)
    (subst (λ one. ConditionFound (steps_of before) (store_of after) c.in-Some-parts.parts.condition one) c.in_default-2.is is))
