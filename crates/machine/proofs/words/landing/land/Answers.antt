use Rattle.std.proofs.Common.{◌≡◌, ◌∙◌, ℕ, List, ap, sym, subst}
use Rattle.std.proofs.lemmas.Result.{IfOk-weaker}
use Rattle.opcode.specs.Word.{truth_field}
use Rattle.std.specs.Prelude.{nat_eq}
use Rattle.lua_model.specs.Datum.{Datum, adjusted, first_of, is_true}
use Rattle.lua_heap.specs.State.{HeapState, AreOf}
use Rattle.rules.specs.State.{set}
use Rattle.rules.specs.Calls.{land as land_in, join, branch, negated_as, turned}
use Rattle.lua_model.specs.declared.Value.{Value}
use Rattle.machine.specs.declared.function.Function.{Function}
use Rattle.machine.specs.declared.did.Landing.{Landing}
use Rattle.machine.specs.declared.did.Did.{Did}
use Rattle.machine.specs.Frames.{data_of, landing_of, showing}
use Rattle.machine.specs.Words.{IsLanding, Does}
use Rattle.machine.proofs.Rows.{put_does}
use Rattle.machine.proofs.Showing.{set_does, same_does, shown_runs}
use Rattle.machine.proofs.words.landing.land.Goals as goal

-- where the landing is this one
for_landing : (l k : Landing) (old new : HeapState) (f : Function) (before behind : List Value) (pc : ℕ) (vs : List Datum) (did : Did) → l ≡ k → Does (λ m. land_in (landing_of k) m vs) old new f before behind pc did → Does (λ m. land_in (landing_of l) m vs) old new f before behind pc did
for_landing l k old new f before behind pc vs did is does =
    let P : Landing → Type 0 = λ x. Does (λ m. land_in (landing_of x) m vs) old new f before behind pc did in
    subst P (sym is) does

pub join-requires-clause-value : goal.join-requires-clause-value
join-requires-clause-value c = c.first-value-in-Pairs.ensures.known c.args.heap.now c.requires.values

pub returns-in-Into-clause-does : goal.returns-in-Into-clause-does
returns-in-Into-clause-does c =
    let h = c.args.heap.now in
    let f = c.args.function.now in
    let values = c.args.registers.now in
    let pc = c.args.pc in
    let a = c.in-Into.a in
    let vs = data_of h c.args.values in
    let within = subst (IsLanding f values pc) c.in-Into.is c.requires.landing in
    for_landing c.args.landing (Landing.Into a) h h f values _ pc vs Did.Next c.in-Into.is
    (set_does (λ m. set m a (first_of vs)) h f values pc a c.first.result c.requires.known (c.first.ensures.known h c.requires.values) within
    (λ m runs. ap (set (showing m h values) a) (sym (c.first.ensures.value h))))

pub returns-in-Test-clause-does : goal.returns-in-Test-clause-does
returns-in-Test-clause-does c =
    let h = c.args.heap.now in
    let f = c.args.function.now in
    let values = c.args.registers.now in
    let pc = c.args.pc in
    let a = c.in-Test.a in
    let negated = c.in-Test.negated in
    let vs = data_of h c.args.values in
    for_landing c.args.landing (Landing.Test a negated) h h f values values pc vs c.land_test.result c.in-Test.is
    (same_does (λ m. land_in (landing_of (Landing.Test a negated)) m vs) h f values pc c.land_test.result c.requires.known (c.land_test.ensures.known h) (c.land_test.ensures.awaited f values pc)
    (λ m runs.
    let s = showing m h values in
    ap (λ v. branch s (nat_eq (truth_field (negated_as negated (is_true v))) a)) (sym (c.first-value.ensures.value h))
    ∙ c.land_test.ensures.did h s (shown_runs m h f values pc runs)))

pub returns-in-Pairs-clause-does : goal.returns-in-Pairs-clause-does
returns-in-Pairs-clause-does c =
    let old = c.args.heap.now in
    let f = c.args.function.now in
    let values = c.args.registers.now in
    let pc = c.args.pc in
    let a = c.in-Pairs.a in
    let low = c.in-Pairs.low in
    let count = c.in-Pairs.count in
    let vs = data_of old c.args.values in
    IfOk-weaker c.join.result _ _ (λ did does.
    for_landing c.args.landing (Landing.Pairs a low count) old c.join.new.heap f values c.join.new.registers pc vs did c.in-Pairs.is
    (let P : Datum → Type 0 = λ v. Does (λ m. join m a low count v) old c.join.new.heap f values c.join.new.registers pc did in
    subst P (c.first-value-in-Pairs.ensures.value old) (does f pc))) c.join.ensures.does

pub returns-in-Fixed-clause-does : goal.returns-in-Fixed-clause-does
returns-in-Fixed-clause-does c =
    let h = c.args.heap.now in
    let f = c.args.function.now in
    let values = c.args.registers.now in
    let pc = c.args.pc in
    let a = c.in-Fixed.a in
    let count = c.in-Fixed.count in
    let vs = data_of h c.args.values in
    let items = c.items.ensures in
    for_landing c.args.landing (Landing.Fixed a count) h h f values c.put_all.new.registers pc vs Did.Next c.in-Fixed.is
    (put_does h f values c.put_all.new.registers pc a count c.items.result.now c.args.values items (c.put_all.ensures.put h) (c.put_all.ensures.known h c.requires.known (subst (AreOf h) (sym items) c.requires.values)) c.put_all.ensures.length_is)

pub returns-in-Turn-clause-does : goal.returns-in-Turn-clause-does
returns-in-Turn-clause-does c =
    let h = c.args.heap.now in
    let f = c.args.function.now in
    let values = c.args.registers.now in
    let pc = c.args.pc in
    let a = c.in-Turn.a in
    let count = c.in-Turn.count in
    let vs = data_of h c.args.values in
    let items = c.items-in-Turn.ensures in
    for_landing c.args.landing (Landing.Turn a count) h h f values c.land_turn.new.registers pc vs c.land_turn.result c.in-Turn.is
    (let P : List Value → Type 0 = λ list. Does (λ m. turned m a (adjusted count (data_of h list))) h h f values c.land_turn.new.registers pc c.land_turn.result in
    subst P items (c.land_turn.ensures.does h c.requires.known (subst (AreOf h) (sym items) c.requires.values)))
