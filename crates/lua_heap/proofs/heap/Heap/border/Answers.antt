use Rattle.std.proofs.Common.{ap, sym, ◌∙◌, pos, w64, SFits, rules}
use Rattle.std.proofs.lemmas.Int.{to_z-of_z}
use Rattle.lua_model.specs.Operators.{border}
use Rattle.lua_heap.specs.State.{pairs_of}
use Rattle.lua_heap.proofs.Entries.{border_is}
use Rattle.lua_heap.proofs.Entities.{stands}
use Rattle.lua_heap.proofs.heap.Heap.border.Goals as goal

pub returns : goal.returns
returns c =
    let s = c.args.self.now in
    let e = c.index.result.now in
    let at = stands c.self.inside s c.self.view_is c.self.invariant c.args.id.index c.requires.table e c.index.ensures in
    let b = c.border.ensures in
    let same = border_is s at.differ e.table at.pairs b.0 (border (pairs_of s e.table)) b.2 (c.border_is_least.ensures (pairs_of s e.table)) in
    let fits : SFits w64 c.border.result = search rules in
    to_z-of_z w64 c.border.result fits ∙ b.1 ∙ ap pos (same ∙ sym (ap (λ t. border t.pairs) at.table))
