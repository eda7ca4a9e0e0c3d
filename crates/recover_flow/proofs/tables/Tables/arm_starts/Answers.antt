use Rattle.std.proofs.Common.{◌≡◌, ◌∙◌, sym, ap, ◌+◌, [], ◌∷◌, ◌++◌, false, get_or, map, rules}
use Rattle.std.specs.Prelude.{replicate}
use Rattle.recover_flow.specs.Arms.{Starting, view_start}
use Rattle.recover_flow.proofs.Arms.{many_turn, none_many, reached_first, reached_turn, starts_first, starts_over, starts_turn}
use Rattle.recover_flow.proofs.tables.Tables.arm_starts.Goals as goal

pub loop-number-init : goal.loop-number-init
loop-number-init c =
    let fresh : c.in_ok-reached.reached.items ≡ replicate c.saturating_sub-count.result false = search rules in
    let start : Starting = record { place = c.args.at.from; ways = c.in_ok-ways.ways.items } in
    let first : map view_start c.add_start.new.starts.items ≡ start ∷ [] = c.in_ok-add_start.ensures.starts ∙ ap (λ those. map view_start those ++ start ∷ []) c.new-starts.ensures.items in
    record {
      many = many_turn c.args.at.from c.saturating_sub-count.result c.in_ok-ways.ways.items c.in_ok-reached.reached.items _ c.in_ok-add_start.ensures.reached (none_many c.saturating_sub-count.result c.in_ok-reached.reached.items fresh);
      reached = reached_first c.args.at.from c.saturating_sub-count.result _ start c.in_ok-reached.reached.items _ fresh first c.in_ok-add_start.ensures.reached;
      left = starts_first c.args.self.now.steps.now c.args.at c.saturating_sub-count.result _ c.in_ok-ways.ways.items c.saturating_sub-count.ensures first c.in_ok-ways.ensures;
    }

pub loop-number-preserved-then-not-is_reached : goal.loop-number-preserved-then-not-is_reached
loop-number-preserved-then-not-is_reached c = record {
  many = c.loop-number.invariant.many;
  reached = c.loop-number.invariant.reached;
  left = starts_over c.args.self.now.steps.now c.args.at c.loop-number.number c.saturating_sub-count.result (map view_start c.loop-number.starts.items) c.loop-number.reached.items c.loop-number-test.true
      c.loop-number.invariant.many c.loop-number.invariant.reached (ap (λ bits. get_or bits c.loop-number.number false) (sym c.deref.ensures.value) ∙ sym c.if-not-is_reached.ensures) c.loop-number.invariant.left;
}

pub loop-number-preserved : goal.loop-number-preserved
loop-number-preserved c =
    let start : Starting = record { place = c.args.at.from + c.loop-number.number; ways = c.in_ok-ways-2.ways.items } in
    record {
      many = many_turn c.args.at.from c.saturating_sub-count.result c.in_ok-ways-2.ways.items c.loop-number.reached.items _ c.in_ok-add_start-2.ensures.reached c.loop-number.invariant.many;
      reached = reached_turn c.args.at.from (map view_start c.loop-number.starts.items) _ start c.loop-number.reached.items _ c.in_ok-add_start-2.ensures.starts c.in_ok-add_start-2.ensures.reached c.loop-number.invariant.reached;
      left = starts_turn c.args.self.now.steps.now c.args.at c.loop-number.number c.saturating_sub-count.result (map view_start c.loop-number.starts.items) _ c.loop-number.reached.items c.in_ok-ways-2.ways.items c.loop-number-test.true
          c.loop-number.invariant.many c.loop-number.invariant.reached (ap (λ bits. get_or bits c.loop-number.number false) (sym c.deref.ensures.value) ∙ sym c.if-not-is_reached.ensures) c.in_ok-ways-2.ensures c.in_ok-add_start-2.ensures.starts c.loop-number.invariant.left;
    }
