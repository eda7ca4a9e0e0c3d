use Rattle.std.proofs.Common.{◌+◌, ◌<◌, ◌^◌, Option, None, Some, IfSome, length, ap, sym, subst, ◌∙◌, arith}
use Rattle.std.proofs.lemmas.List.{length-map}
use Rattle.lua_model.specs.declared.TableId.{TableId}
use Rattle.lua_model.specs.Store.{Table, with_metatable}
use Rattle.lua_heap.specs.State.{HeapState, meta_of, IsMetaOf, own_store, with_store}
use Rattle.lua_heap.specs.Inside.{table_in}
use Rattle.lua_heap.proofs.Entities.{tables_are, stands, written, written_sound}
use Rattle.lua_heap.proofs.heap.Heap.set_metatable.Goals as goal

near : (s : HeapState) (m : Option TableId) → length s.tables < 2 ^ 63 → IsMetaOf s m → IfSome m (λ t. t.index + 1 < 2 ^ 64)
near s None l h = tt
near s (Some t) l h = omega arith

pub new-entity-requires : goal.new-entity-requires
new-entity-requires c =
    let s = c.args.self.now in
    let tables = c.self.inside.tables in
    let here = ap length (tables_are c.self.inside s c.self.view_is c.self.invariant) in
    let few : length s.tables < 2 ^ 63 = omega (arith, here, length-map tables.items (table_in s.texts), tables.ok, tables.small) in
    near s c.args.metatable few c.requires.metatable

pub invariant_of-self : goal.invariant_of-self
invariant_of-self c =
    let s = c.args.self.now in
    let e = c.index_mut-entity.result.now in
    let at = stands c.self.inside s c.self.view_is c.self.invariant c.args.id.index c.requires.table e c.index_mut-entity.ensures.value in
    written_sound c.self.inside s c.self.view_is c.self.invariant c.args.id.index (record e { metatable = c.new-entity.result }) at.pairs (subst (IsMetaOf s) (sym c.new-entity.ensures) c.requires.metatable)

pub returns-clause-state : goal.returns-clause-state
returns-clause-state c =
    let s = c.args.self.now in
    let e = c.index_mut-entity.result.now in
    let at = stands c.self.inside s c.self.view_is c.self.invariant c.args.id.index c.requires.table e c.index_mut-entity.ensures.value in
    let write : Table → Table = λ t. record t { meta = meta_of c.new-entity.result } in
    written c.self.inside s c.self.view_is c.self.invariant c.args.id.index (record e { metatable = c.new-entity.result }) _ (sym (ap write at.table))
    ∙ ap (λ m. with_store s (with_metatable (own_store s) c.args.id.index (meta_of m))) c.new-entity.ensures
