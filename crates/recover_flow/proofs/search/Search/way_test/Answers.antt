use Rattle.std.proofs.Common.{◌≡◌, ap, subst, arith}
use Rattle.recover_flow.specs.Held.{ConditionFound}
use Rattle.recover_flow.specs.Searching.{TestAnswer, steps_of, store_of}
use Rattle.recover_flow.specs.Standing.{way_condition}
use Rattle.recover_flow.specs.declared.regions.ConditionAt.{ConditionAt}
use Rattle.recover_flow.proofs.Arming.{no_condition, tests_found, tests_too_high}
use Rattle.recover_flow.proofs.Chained.{answers_as}
use Rattle.recover_flow.proofs.search.Search.way_test.Goals as goal

pub returns : goal.returns
returns c =
    let before = c.args.self.now in
    let after = c.condition.new.self in
    let at : ConditionAt = record { from = c.args.place; to = c.in-Some.to; target = c.unwrap_or.result } in
    let here : at ≡ way_condition c.args.place c.args.way c.in-Some.to = ap (λ target. record { from = c.args.place; to = c.in-Some.to; target = target }) c.unwrap_or.ensures in
    answers_as before after (λ steps store. ConditionFound steps store at c.in_ok-found.field-0) _ c.in_ok-found.ensures
    (λ is. tests_found (steps_of before) (store_of after) c.args.place c.args.way c.in-Some.to at c.args.levels c.in-Some-2.found c.max-needed.result c.in-Some.is here
    (subst (λ one. ConditionFound (steps_of before) (store_of after) at one) c.in-Some-2.is is) c.max-needed.ensures (omega (arith, c.if-needed-levels.false)))

pub returns-in_default-2 : goal.returns-in_default-2
returns-in_default-2 c =
    let before = c.args.self.now in
    let after = c.condition.new.self in
    let at : ConditionAt = record { from = c.args.place; to = c.in-Some.to; target = c.unwrap_or.result } in
    let here : at ≡ way_condition c.args.place c.args.way c.in-Some.to = ap (λ target. record { from = c.args.place; to = c.in-Some.to; target = target }) c.unwrap_or.ensures in
    answers_as before after (λ steps store. ConditionFound steps store at c.in_ok-found.field-0) _ c.in_ok-found.ensures
    (λ is. no_condition (steps_of before) (store_of after) c.args.place c.args.way c.in-Some.to at c.args.levels c.in-Some.is here (subst (λ one. ConditionFound (steps_of before) (store_of after) at one) c.in_default-2.is is))

pub returns-then-needed-levels : goal.returns-then-needed-levels
returns-then-needed-levels c =
    let before = c.args.self.now in
    let after = c.condition.new.self in
    let at : ConditionAt = record { from = c.args.place; to = c.in-Some.to; target = c.unwrap_or.result } in
    let here : at ≡ way_condition c.args.place c.args.way c.in-Some.to = ap (λ target. record { from = c.args.place; to = c.in-Some.to; target = target }) c.unwrap_or.ensures in
    answers_as before after (λ steps store. ConditionFound steps store at c.in_ok-found.field-0) _ c.in_ok-found.ensures
    (λ is. tests_too_high (steps_of before) (store_of after) c.args.place c.args.way c.in-Some.to at c.args.levels c.in-Some-2.found c.max-needed.result c.in-Some.is here
    (subst (λ one. ConditionFound (steps_of before) (store_of after) at one) c.in-Some-2.is is) c.max-needed.ensures (omega (arith, c.if-needed-levels.true)))
