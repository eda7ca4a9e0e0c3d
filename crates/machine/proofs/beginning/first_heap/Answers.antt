use Rattle.lua_model.specs.Builtins.{builtin_names}
use Rattle.host.specs.Views.{set_told}
use Rattle.machine.specs.Outside.{hosts_of}
use Rattle.machine.proofs.FirstGlobals.{all_set}
use Rattle.machine.proofs.beginning.first_heap.Goals as goal

pub returns-clause-store : goal.returns-clause-store
returns-clause-store g c =
    let set = set_told (λ z. (goal.Host-dyn g z).heard z.1) c.args.hosts.now in
    all_set builtin_names (hosts_of set) _ c.new-heap.result c.set_builtins.new.heap c.set_hosts.new.heap c.new-heap.ensures c.in_ok-set_builtins.ensures c.in_ok-set_hosts.ensures
