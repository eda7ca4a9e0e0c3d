use Rattle.std.proofs.Common.{◌-◌, ◌++◌, ◌∙◌, List, ap, sym}
use Rattle.std.proofs.lemmas.Result.{IfOk-weaker}
use Rattle.lua_model.specs.declared.Value.{Value}
use Rattle.machine.proofs.Listed.{list_fixed, list_opened, opened_known}
use Rattle.machine.proofs.words.lists.listed.Goals as goal

pub returns-in-Some-clause-list : goal.returns-in-Some-clause-list
returns-in-Some-clause-list c =
    IfOk-weaker c.from_slice.result _ _ (λ list is. list_fixed c.args.registers.now c.args.results.now c.args.first c.in-Some.count c.args.count list c.in-Some.is c.requires.there (is ∙ c.part.ensures)) c.from_slice.ensures

pub returns-in-Some-take-clause-list : goal.returns-in-Some-take-clause-list
returns-in-Some-take-clause-list c =
    let open_results = c.in-Some-take.open in
    IfOk-weaker c.joined.result _ _ (λ list is. list_opened c.args.registers.now c.args.results.now c.take.new.self open_results c.args.first c.args.count list c.in-None.is (sym c.take.ensures.value ∙ c.in-Some-take.is) c.take.ensures.after c.requires.there (is ∙ ap (λ (vs : List Value). vs ++ open_results.values) c.part-between.ensures)) c.joined.ensures

pub returns-in-Some-take-clause-known : goal.returns-in-Some-take-clause-known
returns-in-Some-take-clause-known c =
    let open_results = c.in-Some-take.open in
    IfOk-weaker c.joined.result _ _ (λ list is h known open_known. opened_known h c.args.registers.now list c.args.results.now open_results c.args.first (open_results.first - c.args.first) (sym c.take.ensures.value ∙ c.in-Some-take.is) (is ∙ ap (λ (vs : List Value). vs ++ open_results.values) c.part-between.ensures) known open_known) c.joined.ensures
