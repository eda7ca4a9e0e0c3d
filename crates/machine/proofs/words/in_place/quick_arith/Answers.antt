use Rattle.std.proofs.Common.{SFits, w64, to_z-of_z, rules, Some, ap, sym, ◌∙◌}
use Rattle.lua_num.specs.Arith.{outcome}
use Rattle.lua_model.specs.declared.Value.{Value}
use Rattle.lua_model.specs.Datum.{number}
use Rattle.lua_model.specs.Operators.{arith, of_numbers}
use Rattle.rules.specs.State.{operand}
use Rattle.rules.specs.Step.{give, do_arith}
use Rattle.machine.specs.declared.did.Did.{Did}
use Rattle.machine.specs.Frames.{showing}
use Rattle.machine.proofs.QuickSteps.{step_does, numbered, if_none, same_number}
use Rattle.machine.proofs.Showing.{two_needs, set_does}
use Rattle.machine.proofs.words.in_place.quick_arith.Goals as goal

pub returns-clause-some : goal.returns-clause-some
returns-clause-some c h known =
    let values = c.args.registers.now in
    let i = c.args.i in
    let op = c.args.op in
    let x = c.in-Some.x in
    let y = c.in-Some-number.y in
    let x_fits : SFits w64 x = search rules in
    let y_fits : SFits w64 y = search rules in
    let n_fits : SFits w64 c.in_ok-n.n = search rules in
    let computed = simp to_z-of_z at c.in_ok-n.ensures.some in
    simp to_z-of_z (step_does Did.Next tt
    (set_does (λ m. do_arith op m i) h c.args.function.now values c.args.pc i.a (Value.Number c.in_ok-n.n) known.registers tt c.requires.a
    (λ m runs.
    let s = showing m h values in
    two_needs (operand s i.b) (operand s i.c) (number x) (number y) (λ x y. give s i.a (arith s.store op x y))
    (c.operand.ensures.value h m c.args.pc runs ∙ ap Some (numbered h c.operand.result x (sym c.number.ensures ∙ c.in-Some.is)))
    (c.operand-2.ensures.value h m c.args.pc runs ∙ ap Some (numbered h c.operand-2.result y (sym c.number-2.ensures ∙ c.in-Some-number.is)))
    ∙ ap (λ r. give s i.a (of_numbers r)) computed)))

pub returns-in_err-n-clause-taken : goal.returns-in_err-n-clause-taken
returns-in_err-n-clause-taken c =
    let op = c.args.op in
    let pc = c.args.pc in
    let x = c.in-Some.x in
    let y = c.in-Some-number.y in
    let x_fits : SFits w64 x = search rules in
    let y_fits : SFits w64 y = search rules in
    let fails = simp to_z-of_z at c.in_err-n.ensures.none in
    if_none c.from_residual.result _
    (λ h m runs (s, t, n, (at_b, at_c), is).
    let one = same_number s x (sym at_b ∙ c.operand.ensures.value h m pc runs ∙ ap Some (numbered h c.operand.result x (sym c.number.ensures ∙ c.in-Some.is))) in
    let two = same_number t y (sym at_c ∙ c.operand-2.ensures.value h m pc runs ∙ ap Some (numbered h c.operand-2.result y (sym c.number-2.ensures ∙ c.in-Some-number.is))) in
    fails n (sym (ap (λ x. outcome op x t) one ∙ ap (outcome op x) two) ∙ is))
