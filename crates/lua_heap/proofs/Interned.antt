-- A heap with other texts that keep those that it had.
use Rattle.std.proofs.Common.{◌≡◌, Bool, true, false, List, [], ◌∷◌, ◌++◌, if◌then◌else◌, refl, subst, arith}
use Rattle.std.specs.List.{list_any}
use Rattle.std.specs.Str.{bytes_eq}
use Rattle.std.proofs.lemmas.List.{length-append, length-map, get_or_append_left}
use Rattle.lua_num.specs.Bytes.{Text}
use Rattle.string_pool.specs.declared.Pool.{Pool}
use Rattle.string_pool.specs.Texts.{TextsDiffer, with_text}
use Rattle.lua_heap.specs.declared.heap.Heap.TheInside.{Inside}
use Rattle.lua_heap.specs.State.{HeapState, Keeps}
use Rattle.lua_heap.specs.Inside.{IsSound, state, table_in, cell_in}
use Rattle.lua_heap.proofs.Growth.{HasMore, KeepsTexts, sound_there, value_there, datum_kept, tables_kept, named_kept, cells_kept}

pub with_text_keeps : (texts : List Text) (b : Text) → KeepsTexts texts (with_text texts b)
with_text_keeps texts b = by (list_any (bytes_eq b) texts)
  where
    by : (t : Bool) → KeepsTexts texts (if t then texts else (texts ++ b ∷ []))
    by true = record { long = omega arith; kept = λ i l. refl }
    by false = record { long = omega (arith, length-append texts (b ∷ [])); kept = λ i l. get_or_append_left texts (b ∷ []) [] i l }

module _ (h : Inside) (s : HeapState) (is : state h ≡ s) (sound : IsSound h) (texts : Pool) (keeps : KeepsTexts h.texts texts) where
  pub texts_over : state (record h { texts = texts }) ≡ record s { texts = texts }
  texts_over =
      let tables = tables_kept (state h) texts keeps h.tables.items sound.tables in
      let globals = named_kept (state h) texts keeps h.globals sound.globals in
      let cells = cells_kept (state h) texts keeps h.cells.items sound.cells in
      subst (λ u. state (record h { texts = texts }) ≡ record u { texts = texts }) is (λ i. record (state h) { texts = texts; tables = tables i; globals = globals i; cells = cells i })

  more : HasMore (state h) (state (record h { texts = texts }))
  more = record {
    texts = keeps.long;
    tables = omega (arith, length-map h.tables.items (table_in h.texts), length-map h.tables.items (table_in texts));
    closures = omega arith;
    cells = omega (arith, length-map h.cells.items (cell_in h.texts), length-map h.cells.items (cell_in texts));
    hosts = omega arith;
  }

  pub values_kept : Keeps s (state (record h { texts = texts }))
  values_kept = subst (λ u. Keeps u (state (record h { texts = texts }))) is (λ v l. (value_there (state h) (state (record h { texts = texts })) more v l, datum_kept (state h) texts keeps v l))

  pub texts_sound : TextsDiffer texts → IsSound (record h { texts = texts })
  texts_sound differ =
      let there = sound_there (state h) (state (record h { texts = texts })) more h differ sound in
      record {
        differ = there.differ;
        tables = there.tables;
        globals = there.globals;
        names = there.names;
        closures = there.closures;
        cells = there.cells;
      }
