use Rattle.std.proofs.Common.{ap, sym, ◌∙◌, subst, position}
use Rattle.std.specs.Str.{bytes_eq}
use Rattle.host.specs.Hosts.{NamesDiffer}
use Rattle.host.proofs.Slots.{number_of-slots, names_of-slots, slot_names}
use Rattle.host.proofs.set.HostSet.find.Goals as goal

pub returns-clause-number : goal.returns-clause-number
returns-clause-number g c =
    c.position_of.ensures ∙ ap (λ slots. position (λ other. bytes_eq other c.args.name.now) (slot_names slots)) c.as_slice.ensures.value
    ∙ sym (number_of-slots (λ b. (goal.Host-dyn g (b.vtable, b.value)).heard b.value) c.args.self.now.hosts.items c.args.name.now)

pub returns-clause-names_differ : goal.returns-clause-names_differ
returns-clause-names_differ g c =
    subst NamesDiffer (sym (names_of-slots (λ b. (goal.Host-dyn g (b.vtable, b.value)).heard b.value) c.args.self.now.hosts.items)) c.args.self.now.names_differ
