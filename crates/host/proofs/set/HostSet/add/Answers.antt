use Rattle.std.proofs.Common.{ap, ◌∙◌, ◌++◌, ◌∷◌, []}
use Rattle.host.proofs.Slots.{differ-pushed}
use Rattle.host.proofs.set.HostSet.add.Goals as goal

pub invariant_of-self-2 : goal.invariant_of-self-2
invariant_of-self-2 g c = record {
  names_differ =
      differ-pushed (λ b. (goal.Host-dyn g (b.vtable, b.value)).heard b.value) c.args.self.now.hosts.items c.push_reserved.new.self.items c.new.result c.args.name.now
      c.args.self.now.names_differ c.requires (c.push_reserved.ensures.items ∙ ap (λ slots. slots ++ c.new.result ∷ []) c.reserve.ensures.items)
      (ap (λ state. state.name) c.new.ensures.state ∙ c.in-Ok.ensures);
}
