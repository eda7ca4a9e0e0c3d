use Rattle.std.proofs.Common.{sym, subst, ◌∙◌}
use Rattle.string_pool.specs.Texts.{TextsDiffer}
use Rattle.lua_heap.proofs.Alike.{same_datum}
use Rattle.lua_heap.proofs.heap.Heap.raw_equal.Goals as goal

pub returns : goal.returns
returns c =
    let s = c.args.self.now in
    c.raw_equal.ensures ∙ sym (same_datum s (subst (λ u. TextsDiffer u.texts) c.self.view_is c.self.invariant.differ) c.args.a c.args.b c.requires.a c.requires.b)
