use Rattle.std.proofs.Common.{◌+◌, arith, true, false, refl, sym, subst}
use Rattle.lua_heap.specs.State.{HeapState}
use Rattle.host.specs.Views.{set_told}
use Rattle.machine.proofs.FirstGlobals.{HostsSet, host_set}
use Rattle.machine.proofs.beginning.set_hosts.Goals as goal
use Rattle.machine.proofs.beginning.set_hosts.Goals.{then-is_live+in_ok-set_named, else-is_live}

pub loop-number-preserved : goal.loop-number-preserved
loop-number-preserved g c =
    let hosts = (set_told (λ z. (goal.Host-dyn g z).heard z.1) c.args.hosts.now).hosts in
    elim c.if-is_live.branch [
      | then-is_live+in_ok-set_named w ↦
          subst (λ (h : HeapState). HostsSet hosts c.args.heap.now h (c.loop-number.number + 1)) (sym w.heap-is)
          (host_set c.name_host.new.self w.set_named.new.heap c.name-name.result.now true c.loop-number.invariant (omega (arith, c.loop-number-test.true, c.count-number-end.ensures)) c.name-name.ensures w.if-is_live.ensures c.in_ok-name_host.ensures.state w.in_ok-set_named.ensures)
      | else-is_live w ↦
          subst (λ (h : HeapState). HostsSet hosts c.args.heap.now h (c.loop-number.number + 1)) (sym w.heap-is)
          (host_set c.name_host.new.self c.name_host.new.self c.name-name.result.now false c.loop-number.invariant (omega (arith, c.loop-number-test.true, c.count-number-end.ensures)) c.name-name.ensures w.if-is_live.ensures c.in_ok-name_host.ensures.state refl)
    ]
