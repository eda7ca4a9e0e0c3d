use Rattle.std.proofs.Common.{ap, None}
use Rattle.host.proofs.Boxes.{others_hear}
use Rattle.host.proofs.Slots.{differ-changed, changed-slot}
use Rattle.host.proofs.set.HostSet.close.Goals as goal

pub invariant_of-self : goal.invariant_of-self
invariant_of-self g c = record {
  names_differ =
      differ-changed c.args.self.now.hosts.items c.args.host c.index_mut-slot.result.now c.close.new.self c.args.self.now.names_differ c.index_mut-slot.ensures.value
      (ap (λ state. state.name) c.close.ensures);
}

pub returns-clause-closed : goal.returns-clause-closed
returns-clause-closed g c =
    ap (λ hosts. record { hosts = hosts; log = c.args.self.now.log })
    (changed-slot (λ b. (goal.Host-dyn g (b.vtable, b.value)).heard b.value) (λ host. record host { live = None }) c.args.self.now.hosts.items c.args.host c.index_mut-slot.result.now
    c.close.new.self c.requires c.index_mut-slot.ensures.value c.close.ensures)

pub returns-clause-others : goal.returns-clause-others
returns-clause-others g c = λ other before differs h. others_hear _ c.args.self.now.hosts.items c.args.host other c.close.new.self before differs h
