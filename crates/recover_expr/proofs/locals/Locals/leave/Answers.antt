use Rattle.std.proofs.Common.{rules, sym, ap, ◌∙◌}
use Rattle.recover_expr.specs.Locals.{listed}
use Rattle.recover_expr.proofs.Active.{one_less, left_at_end}
use Rattle.recover_expr.proofs.locals.Locals.leave.Goals as goal

pub loop-self-preserved : goal.loop-self-preserved
loop-self-preserved c =
    let was = c.loop-self.invariant in
    record {
      left = one_less (listed c.args.proto.now) c.args.pc c.args.self.now.active.items c.loop-self.self.active.items c.pop.new.self.items was.left (sym c.is_over.ensures ∙ c.loop-self-test.true) (c.pop.ensures.rest ∙ search rules);
      declared = was.declared;
    }

pub returns : goal.returns
returns c =
    let was = c.loop-self.invariant in
    let active = left_at_end (listed c.args.proto.now) c.args.pc c.args.self.now.active.items c.loop-self.self.active.items was.left (sym c.is_over.ensures ∙ c.loop-self-test.false) in
    ap (λ (d : _). record { declared = d; active = c.loop-self.self.active.items }) was.declared ∙ ap (λ a. record { declared = c.args.self.now.declared.items; active = a }) active
