-- A table of a heap: what stands at its place, and what a write to it gives.
use Rattle.std.proofs.Common.{◌≡◌, ℕ, ◌<◌, ◌≤◌, List, length, map, get_or, slice_set, refl, sym, ap, subst, ◌∙◌, arith}
use Rattle.std.proofs.lemmas.List.{get_or-map, length-map, map-set}
use Rattle.std.proofs.Math.ListN.{length-set}
use Rattle.std.proofs.lemmas.List.Elements.{All-get_or, All-set}
use Rattle.std.specs.Vec.{with_item}
use Rattle.lua_model.specs.Store.{Table, no_table, table_at, with_table}
use Rattle.string_pool.specs.Texts.{TextsDiffer}
use Rattle.lua_heap.specs.declared.heap.Entity.{Entity}
use Rattle.lua_heap.specs.declared.heap.Heap.TheInside.{Inside}
use Rattle.lua_heap.specs.State.{HeapState, ArePairsOf, IsMetaOf, own_store, with_store}
use Rattle.lua_heap.specs.Inside.{IsSound, IsSoundIn, state, table_in}
use Rattle.lua_heap.proofs.Growth.{HasMore, sound_there, pairs_there, meta_there}

-- an entity that stands at a place is sound, and is the table there
pub record StandsAt (s : HeapState) (i : ℕ) (e : Entity) : Type 0 where
  pub table : table_at (own_store s) i ≡ table_in s.texts e
  pub pairs : ArePairsOf s e.table
  pub meta : IsMetaOf s e.metatable
  pub differ : TextsDiffer s.texts

module _ (h : Inside) (s : HeapState) (is : state h ≡ s) (sound : IsSound h) where
  pub tables_are : s.tables ≡ map (table_in s.texts) h.tables.items
  tables_are = subst (λ u. u.tables ≡ map (table_in u.texts) h.tables.items) is refl

  pub sound_in : IsSoundIn s h
  sound_in = subst (λ u. IsSoundIn u h) is sound

  pub within : (i : ℕ) → i < length s.tables → i < length h.tables.items
  within i l = omega (arith, ap length tables_are, length-map h.tables.items (table_in s.texts))

  pub stands : (i : ℕ) → i < length s.tables → (e : Entity) → e ≡ get_or h.tables.items i e → StandsAt s i e
  stands i l e at =
      let l : i < length h.tables.items = within i l in
      let known = subst (λ d. ArePairsOf s d.table × IsMetaOf s d.metatable) (sym at) (All-get_or (λ d. ArePairsOf s d.table × IsMetaOf s d.metatable) h.tables.items i e l sound_in.tables) in
      record {
        table = ap (λ ts. get_or ts i no_table) tables_are ∙ get_or-map (table_in s.texts) h.tables.items i e no_table l ∙ sym (ap (table_in s.texts) at);
        pairs = known.0;
        meta = known.1;
        differ = sound_in.differ;
      }

  -- another entity is written to a place
  pub written : (i : ℕ) (e : Entity) (t : Table) → table_in s.texts e ≡ t → state (record h { tables = with_item h.tables i e }) ≡ with_store s (with_table (own_store s) i t)
  written i e t same =
      let over : HeapState → HeapState = λ u. record u { tables = map (table_in u.texts) (slice_set h.tables.items i e) } in
      let with_tables : List Table → HeapState = λ ts. record s { tables = ts } in
      ap over is ∙ ap with_tables (map-set (table_in s.texts) h.tables.items i e ∙ ap (λ ts. slice_set ts i (table_in s.texts e)) (sym tables_are) ∙ ap (slice_set s.tables i) same)

  pub written_sound : (i : ℕ) (e : Entity) → ArePairsOf s e.table → IsMetaOf s e.metatable → IsSound (record h { tables = with_item h.tables i e })
  written_sound i e pairs meta =
      let new : Inside = record h { tables = with_item h.tables i e } in
      let long : length h.tables.items ≤ length (slice_set h.tables.items i e) = omega (arith, length-set h.tables.items i e) in
      let more : HasMore (state h) (state new) = record {
        texts = omega arith;
        tables = omega (arith, length-map h.tables.items (table_in h.texts), length-map (slice_set h.tables.items i e) (table_in h.texts));
        closures = omega arith;
        cells = omega arith;
        hosts = omega arith;
      } in
      let there = sound_there (state h) (state new) more h sound.differ sound in
      let its : ArePairsOf (state h) e.table × IsMetaOf (state h) e.metatable = subst (λ u. ArePairsOf u e.table × IsMetaOf u e.metatable) (sym is) (pairs, meta) in
      record {
        differ = there.differ;
        tables = All-set (λ d. ArePairsOf (state new) d.table × IsMetaOf (state new) d.metatable) h.tables.items i e (pairs_there (state h) (state new) more e.table its.0, meta_there (state h) (state new) more e.metatable its.1) there.tables;
        globals = there.globals;
        names = there.names;
        closures = there.closures;
        cells = there.cells;
      }
