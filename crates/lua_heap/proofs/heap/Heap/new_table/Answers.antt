use Rattle.std.proofs.Common.{sym, subst}
use Rattle.std.proofs.lemmas.List.Elements.{All-nil}
use Rattle.lua_heap.specs.declared.heap.Entity.{Entity}
use Rattle.lua_heap.specs.State.{IsOf, ArePairsOf, IsMetaOf}
use Rattle.lua_heap.proofs.Pushes.{table_pushed}
use Rattle.lua_heap.proofs.heap.Heap.new_table.Goals as goal

pub invariant_of-self-2 : goal.invariant_of-self-2
invariant_of-self-2 c =
    let s = c.args.self.now in
    let e : Entity = record { table = c.new.result; metatable = c.none.result } in
    table_pushed c.self.inside s c.self.view_is c.self.invariant c.push.new.self e c.in_ok-push.ensures.items (subst (ArePairsOf s) (sym c.new.ensures) (All-nil (λ p. IsOf s p.0 × IsOf s p.1))) (subst (IsMetaOf s) (sym c.none.ensures) tt)
