use Rattle.std.specs.Global.{Vec}
use Rattle.std.proofs.Common.{◌≡◌, ◌+◌, ◌-◌, ◌<◌, length, sym, ap, ◌∙◌, arith, option_map}
use Rattle.recover_flow.specs.Conditions.{view_condition, of_parts, condition_within}
use Rattle.recover_flow.specs.declared.conditions.Part.{Part}
use Rattle.recover_flow.proofs.ConditionJoins.{last_is, next_is, lost_behind, within_is, stretch_one, stretch_more}
use Rattle.recover_flow.proofs.conditions.+jumps.Goals as goal

pub all_jumps-returns-in_default-2 : goal.all_jumps-returns-in_default-2
all_jumps-returns-in_default-2 t c =
    let none = sym c.in_ok-whole.ensures ∙ ap (option_map view_condition) c.in_default-2.is in
    let last : c.in-Some.number + 1 ≡ length c.args.parts.now = omega (arith, c.in-Some.ensures.0, c.in-Some.ensures.1) in
    lost_behind (condition_within c.args.steps.now c.args.depth) c.args.to c.args.goal c.args.parts.now c.in-Some.number (omega (arith, last)) (last_is (condition_within c.args.steps.now c.args.depth) c.args.to c.args.goal c.args.parts.now _ _ last ∙ none)

pub all_jumps-returns-in_default-3 : goal.all_jumps-returns-in_default-3
all_jumps-returns-in_default-3 t c =
    let none = sym c.in_ok-joined.ensures ∙ ap (option_map view_condition) c.in_default-3.is in
    let low : c.loop-number.number - 1 < length c.args.parts.now = omega (arith, c.loop-number.invariant.0) in
    lost_behind (condition_within c.args.steps.now c.args.depth) c.args.to c.args.goal c.args.parts.now _ low (next_is (condition_within c.args.steps.now c.args.depth) c.args.to c.args.goal c.args.parts.now _ _ _ c.loop-number-test.true c.loop-number.invariant.0 c.loop-number.invariant.1 ∙ none)

pub jumps-returns-in_ok-found-in-len1 : goal.jumps-returns-in_ok-found-in-len1
jumps-returns-in_ok-found-in-len1 t c =
    let at = c.in-Some-get.ensures.lookup.0 in
    c.in_ok-found-in-len1.ensures ∙ sym (within_is c.args.steps.now c.in-Some-get.stretch.now c.args.depth c.in-Some.less c.args.from c.args.to c.args.goal c.in-Some.ensures.0 c.in-Some.ensures.1 at.0 at.1 at.2 ∙ stretch_one (condition_within c.args.steps.now c.in-Some.less) c.args.steps.now c.args.from c.args.to c.args.goal _ _ c.in-len1.len_at_least c.in-len1.len_below)

pub jumps-returns-in_ok-found-in_default-stretch :
    goal.jumps-returns-in_ok-found-in_default-stretch
jumps-returns-in_ok-found-in_default-stretch t c =
    let at = c.in-Some-get.ensures.lookup.0 in
    let parts = ap (option_map (λ (list : Vec Part). list.items)) (sym c.in-Some-2.is) ∙ c.in_ok-parts-in_default-stretch.ensures in
    c.in_ok-found-in_default-stretch.ensures ∙ ap (of_parts (condition_within c.args.steps.now c.in-Some.less) c.args.from c.args.to c.args.goal) c.as_slice.ensures.value
    ∙ sym (within_is c.args.steps.now c.in-Some-get.stretch.now c.args.depth c.in-Some.less c.args.from c.args.to c.args.goal c.in-Some.ensures.0 c.in-Some.ensures.1 at.0 at.1 at.2 ∙ stretch_more (condition_within c.args.steps.now c.in-Some.less) c.args.steps.now c.args.from c.args.to c.args.goal _ _ c.in_default-stretch.len_at_least parts)
