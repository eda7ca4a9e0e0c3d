use Rattle.std.proofs.Common.{option_map, IfSome, ap, subst, ◌∙◌}
use Rattle.std.proofs.lemmas.Result.{IfOk-weaker, on_err_weaker}
use Rattle.lua_heap.specs.State.{datum, IsOf, pair_of, next_of}
use Rattle.lua_heap.proofs.Entries.{next_means, next_known}
use Rattle.lua_heap.proofs.Entities.{stands}
use Rattle.lua_heap.proofs.heap.Heap.next.Goals as goal

pub returns-clause-pair : goal.returns-clause-pair
returns-clause-pair c =
    let s = c.args.self.now in
    let e = c.index.result.now in
    let at = stands c.self.inside s c.self.view_is c.self.invariant c.args.id.index c.requires.table e c.index.ensures in
    let means = ap (λ t. next_of t.pairs (datum s c.args.key)) at.table ∙ next_means s at.differ c.args.key c.requires.key e.table at.pairs in
    IfOk-weaker c.next.result _ _ (λ p q. means ∙ ap (option_map (option_map (pair_of s))) q) c.next.ensures.pair

pub returns-clause-known : goal.returns-clause-known
returns-clause-known c =
    let s = c.args.self.now in
    let e = c.index.result.now in
    let at = stands c.self.inside s c.self.view_is c.self.invariant c.args.id.index c.requires.table e c.index.ensures in
    IfOk-weaker c.next.result _ _ (λ p q. subst (λ r. IfSome r (λ o. IfSome o (λ p. IsOf s p.0 × IsOf s p.1))) q (next_known (λ p. IsOf s p.0 × IsOf s p.1) e.table c.args.key at.pairs)) c.next.ensures.pair

pub returns-clause-unknown : goal.returns-clause-unknown
returns-clause-unknown c =
    let s = c.args.self.now in
    let e = c.index.result.now in
    let at = stands c.self.inside s c.self.view_is c.self.invariant c.args.id.index c.requires.table e c.index.ensures in
    let means = ap (λ t. next_of t.pairs (datum s c.args.key)) at.table ∙ next_means s at.differ c.args.key c.requires.key e.table at.pairs in
    on_err_weaker c.next.result (λ q. means ∙ ap (option_map (option_map (pair_of s))) q) c.next.ensures.unknown
