use Rattle.std.proofs.Common.{ap, sym, subst, ◌∙◌}
use Rattle.lua_model.specs.Store.{pair_value}
use Rattle.lua_heap.specs.State.{datum, IsOf}
use Rattle.lua_heap.proofs.Entries.{entry_means, entry_known}
use Rattle.lua_heap.proofs.Entities.{stands}
use Rattle.lua_heap.proofs.heap.Heap.raw_get.Goals as goal

pub returns-clause-value : goal.returns-clause-value
returns-clause-value c =
    let s = c.args.self.now in
    let at = stands c.self.inside s c.self.view_is c.self.invariant c.args.id.index c.requires.table c.index.result.now c.index.ensures in
    ap (datum s) c.get.ensures ∙ sym (entry_means s at.differ c.args.key c.requires.key c.index.result.now.table at.pairs) ∙ sym (ap (λ t. pair_value t.pairs (datum s c.args.key)) at.table)

pub returns-clause-known : goal.returns-clause-known
returns-clause-known c =
    let s = c.args.self.now in
    let at = stands c.self.inside s c.self.view_is c.self.invariant c.args.id.index c.requires.table c.index.result.now c.index.ensures in
    subst (IsOf s) (sym c.get.ensures) (entry_known s c.index.result.now.table c.args.key at.pairs)
