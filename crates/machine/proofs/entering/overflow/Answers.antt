use Rattle.std.proofs.Common.{◌-◌, ap, sym, ◌∙◌}
use Rattle.std.proofs.lemmas.Result.{IfOk-weaker}
use Rattle.lua_model.specs.Operators.{stack_overflow}
use Rattle.lua_heap.specs.State.{datum}
use Rattle.rules.specs.State.{Fails}
use Rattle.rules.specs.Calls.{failed_in, land}
use Rattle.machine.specs.declared.running.Running.{Running}
use Rattle.machine.specs.declared.did.Did.{Did}
use Rattle.machine.specs.Frames.{data_of, landing_of}
use Rattle.machine.specs.Seen.{seen}
use Rattle.machine.proofs.PushedCalls.{does_grown, does_alike, broke_data, broke_known, failed_within, failure_does}
use Rattle.machine.proofs.entering.overflow.Goals as goal

pub returns-then-protections-eq0-clause-does : goal.returns-then-protections-eq0-clause-does
returns-then-protections-eq0-clause-does c =
    let old = c.args.running.now in
    let heap = c.text_value.new.heap in
    let v = c.in_ok-value.value in
    let fs = c.args.functions.now in
    let lands = land (landing_of c.args.landing) in
    let new : Running = record old { heap = heap } in
    does_alike fs (λ m. failed_in lands c.args.protections m stack_overflow) (λ m. Fails m (datum heap v)) old new (Did.Fails v)
    (λ chunk a whole.
    let m = seen chunk a old in
    ap (λ p. failed_in lands p m stack_overflow) c.if-protections-eq0.true ∙ ap (Fails m) (sym c.in_ok-value.ensures.value))
    (does_grown fs old heap c.text_value.ensures.grown (λ m. Fails m (datum heap v)) new (Did.Fails v) (failure_does fs new v c.in_ok-value.ensures.known))

pub land_top-requires-clause-values : goal.land_top-requires-clause-values
land_top-requires-clause-values c =
    broke_known c.text_value.new.heap (c.args.protections - 1) c.in_ok-value.value c.in_ok-values.values c.in_ok-value.ensures.known c.in_ok-values.ensures

pub returns-clause-does : goal.returns-clause-does
returns-clause-does c =
    let old = c.args.running.now in
    let heap = c.text_value.new.heap in
    let new = c.land_top.new.running in
    let fs = c.args.functions.now in
    let p = c.args.protections in
    let values = c.in_ok-values.values in
    let lands = land (landing_of c.args.landing) in
    let same = broke_data heap (p - 1) c.in_ok-value.value stack_overflow values c.in_ok-value.ensures.value c.in_ok-values.ensures in
    IfOk-weaker c.land_top.result _ _
    (λ did does.
    does_alike fs (λ m. failed_in lands p m stack_overflow) (λ m. lands m (data_of heap values)) old new did
    (λ chunk a whole.
    let m = seen chunk a old in
    failed_within lands p m stack_overflow c.if-protections-eq0.false ∙ ap (lands m) (sym same))
    (does_grown fs old heap c.text_value.ensures.grown (λ m. lands m (data_of heap values)) new did does))
    c.land_top.ensures.does
