-- What is written to a cell, and what is put behind the tables and cells of a heap.
use Rattle.std.proofs.Common.{◌≡◌, ℕ, ◌≤◌, List, [], ◌∷◌, ◌++◌, length, map, slice_set, refl, sym, ap, subst, ◌∙◌, arith}
use Rattle.std.specs.Global.{Vec}
use Rattle.std.specs.List.{All}
use Rattle.std.specs.Vec.{with_item}
use Rattle.std.proofs.lemmas.List.{length-append, length-map, map-set}
use Rattle.std.proofs.lemmas.List.Elements.{All-push}
use Rattle.lua_heap.specs.declared.cells.Cell.{Cell}
use Rattle.lua_heap.specs.declared.cells.Cell.TheVariants.{InStack, Held}
use Rattle.lua_heap.specs.declared.heap.Entity.{Entity}
use Rattle.lua_heap.specs.declared.heap.Heap.TheInside.{Inside}
use Rattle.lua_heap.specs.State.{HeapState, CellState, ArePairsOf, IsMetaOf, IsCellOf, cell_of}
use Rattle.lua_heap.specs.Inside.{IsSound, state, table_in, cell_in}
use Rattle.lua_heap.proofs.Growth.{HasMore, sound_there, pairs_there, meta_there, cell_there}

pub cell_in_is : (s : HeapState) (c : Cell) → cell_in s.texts c ≡ cell_of s c
cell_in_is s (InStack place) = refl
cell_in_is s (Held v) = refl

module _ (h : Inside) (s : HeapState) (is : state h ≡ s) where
  cells_are : s.cells ≡ map (cell_in s.texts) h.cells.items
  cells_are = subst (λ u. u.cells ≡ map (cell_in u.texts) h.cells.items) is refl

  -- another cell is written to a place
  pub cell_written : (i : ℕ) (c : Cell) → state (record h { cells = with_item h.cells i c }) ≡ record s { cells = slice_set s.cells i (cell_of s c) }
  cell_written i c =
      let over : HeapState → HeapState = λ u. record u { cells = map (cell_in u.texts) (slice_set h.cells.items i c) } in
      let with_cells : List CellState → HeapState = λ cs. record s { cells = cs } in
      ap over is ∙ ap with_cells (map-set (cell_in s.texts) h.cells.items i c ∙ ap (λ cs. slice_set cs i (cell_in s.texts c)) (sym cells_are) ∙ ap (slice_set s.cells i) (cell_in_is s c))

  module _ (sound : IsSound h) where
    pub cell_pushed : (cs : Vec Cell) (c : Cell) → cs.items ≡ h.cells.items ++ c ∷ [] → IsCellOf s c → IsSound (record h { cells = cs })
    cell_pushed cs c e l =
        let new : Inside = record h { cells = cs } in
        let long : length h.cells.items ≤ length cs.items = omega (arith, ap length e, length-append h.cells.items (c ∷ [])) in
        let more : HasMore (state h) (state new) = record {
          texts = omega arith;
          tables = omega arith;
          closures = omega arith;
          cells = omega (arith, length-map h.cells.items (cell_in h.texts), length-map cs.items (cell_in h.texts));
          hosts = omega arith;
        } in
        let there = sound_there (state h) (state new) more h sound.differ sound in
        let its = cell_there (state h) (state new) more c (subst (λ u. IsCellOf u c) (sym is) l) in
        record {
          differ = there.differ;
          tables = there.tables;
          globals = there.globals;
          names = there.names;
          closures = there.closures;
          cells = subst (All (IsCellOf (state new))) (sym e) (All-push (IsCellOf (state new)) h.cells.items c there.cells its);
        }

    pub table_pushed : (es : Vec Entity) (e : Entity) → es.items ≡ h.tables.items ++ e ∷ [] → ArePairsOf s e.table → IsMetaOf s e.metatable → IsSound (record h { tables = es })
    table_pushed es e at pairs meta =
        let new : Inside = record h { tables = es } in
        let long : length h.tables.items ≤ length es.items = omega (arith, ap length at, length-append h.tables.items (e ∷ [])) in
        let more : HasMore (state h) (state new) = record {
          texts = omega arith;
          tables = omega (arith, length-map h.tables.items (table_in h.texts), length-map es.items (table_in h.texts));
          closures = omega arith;
          cells = omega arith;
          hosts = omega arith;
        } in
        let there = sound_there (state h) (state new) more h sound.differ sound in
        let its : ArePairsOf (state h) e.table × IsMetaOf (state h) e.metatable = subst (λ u. ArePairsOf u e.table × IsMetaOf u e.metatable) (sym is) (pairs, meta) in
        let last : ArePairsOf (state new) e.table × IsMetaOf (state new) e.metatable = (pairs_there (state h) (state new) more e.table its.0, meta_there (state h) (state new) more e.metatable its.1) in
        record {
          differ = there.differ;
          tables = subst (All (λ d. ArePairsOf (state new) d.table × IsMetaOf (state new) d.metatable)) (sym at) (All-push (λ d. ArePairsOf (state new) d.table × IsMetaOf (state new) d.metatable) h.tables.items e there.tables last);
          globals = there.globals;
          names = there.names;
          closures = there.closures;
          cells = there.cells;
        }
