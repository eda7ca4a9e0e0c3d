use Rattle.std.proofs.Common.{ap, sym, subst}
use Rattle.host.specs.Views.{HostHears}
use Rattle.host.proofs.Boxes.{others_hear, called_hears}
use Rattle.host.proofs.Slots.{differ-changed, called-set}
use Rattle.host.proofs.set.HostSet.call.Goals as goal

pub invariant_of-self-inside-2 : goal.invariant_of-self-inside-2
invariant_of-self-inside-2 g c = record {
  names_differ =
      differ-changed c.self.inside.0.0.items c.args.host c.index_mut.result.now c.call-reply.new.self c.self.inside.1.0 c.index_mut.ensures.value
      (ap (λ state. state.name) c.call-reply.ensures.state);
}

pub returns-clause-ok : goal.returns-clause-ok
returns-clause-ok g c =
    called-set (λ b. (goal.Host-dyn g (b.vtable, b.value)).heard b.value) _ c.args.self.now c.args.host c.index_mut.result.now c.call-reply.new.self c.args.args c.items.result.now c.call-reply.result
    c.make_room.new.entries.items c.push_reserved.new.self.items c.self.view_is c.requires.in_range c.index_mut.ensures.value c.call-reply.ensures.state c.items.ensures c.push_reserved.ensures.items c.in_ok-make_room.ensures.items

pub returns-clause-once : goal.returns-clause-once
returns-clause-once g c = λ before.
    called_hears (λ b. (goal.Host-dyn g (b.vtable, b.value)).hears b.value) (λ b. (goal.Host-dyn g (b.vtable, b.value)).heard b.value) _ c.args.self.now c.args.host c.index_mut.result.now
    c.call-reply.new.self c.args.args c.items.result.now c.call-reply.result c.make_room.new.entries.items c.push_reserved.new.self.items before c.self.view_is c.requires.in_range
    c.index_mut.ensures.value (c.call-reply.ensures.once before) c.items.ensures c.push_reserved.ensures.items

pub returns-clause-others : goal.returns-clause-others
returns-clause-others g c = λ other before differs h.
    others_hear (λ b. (goal.Host-dyn g (b.vtable, b.value)).hears b.value) c.self.inside.0.0.items c.args.host other c.call-reply.new.self before differs
    (subst (λ s. HostHears (λ b. (goal.Host-dyn g (b.vtable, b.value)).hears b.value) s other before) (sym c.self.view_is) h)
