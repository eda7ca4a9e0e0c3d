use Rattle.std.proofs.Common.{map, refl, sym, ap, ◌∙◌}
use Rattle.std.proofs.lemmas.List.{take_all}
use Rattle.lua_model.specs.Store.{as_plain}
use Rattle.lua_heap.specs.State.{datum}
use Rattle.natives.proofs.HostArguments.{host_is_asked, host_is_not_asked_at}
use Rattle.natives.proofs.hosts.host_call.Goals as goal

pub returns-in_default-clause-act : goal.returns-in_default-clause-act
returns-in_default-clause-act c hosts names live =
    host_is_not_asked_at c.args.heap.now hosts names c.args.host (live ∙ c.if-not-live.false) c.loop-i.heap c.loop-i.invariant.1 c.args.args.now c.loop-i.i _ c.loop-i.plain c.loop-i.invariant.0 c.loop-i-test.true (sym c.in_ok-value.ensures ∙ c.in_default.is)
    ∙ sym (c.in_ok-failure.ensures.failure _ refl)

pub returns-clause-act : goal.returns-clause-act
returns-clause-act c hosts names live =
    host_is_asked c.args.heap.now hosts names c.args.host (live ∙ c.if-not-live.false) c.args.args.now c.loop-i.plain
    (ap (map (λ v. as_plain (datum c.args.heap.now v))) (sym (take_all c.loop-i.i c.args.args.now c.loop-i-test.false)) ∙ c.loop-i.invariant.0)
