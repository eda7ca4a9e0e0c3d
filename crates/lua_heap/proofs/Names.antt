-- Globals, which are pairs whose keys are texts: what they stand for.
use Rattle.std.proofs.Common.{◌≡◌, ◌<◌, List, [], ◌∷◌, length, get_or, refl, sym, ap, subst, ◌∙◌}
use Rattle.std.specs.List.{All}
use Rattle.std.specs.Str.{bytes_eq}
use Rattle.std.proofs.lemmas.List.Elements.{All-head, All-tail}
use Rattle.lua_model.specs.declared.TextId.{TextId}
use Rattle.lua_model.specs.declared.Value.{Value}
use Rattle.lua_model.specs.declared.Value.TheVariants.{Nil, Bool as Boolean, Number, Text as TextValue, Table, Closure, Native, Host}
use Rattle.lua_num.specs.Bytes.{Text}
use Rattle.lua_model.specs.Datum.{Datum, nil, is_nil}
use Rattle.lua_model.specs.Pairs.{get, has, set}
use Rattle.lua_model.specs.Store.{with_global}
use Rattle.lua_model.specs.Value.{same_value}
use Rattle.lua_table.specs.declared.table.Table.{Table as TableOfValues}
use Rattle.lua_table.specs.Entries.{Entries, entry, has_place, with_entry, is_nil_value}
use Rattle.string_pool.specs.Texts.{TextsDiffer}
use Rattle.lua_heap.specs.declared.heap.Heap.TheInside.{Inside}
use Rattle.lua_heap.specs.State.{HeapState, datum, datum_in, IsOf, ArePairsOf, own_store, with_store}
use Rattle.lua_heap.specs.Inside.{IsSound, IsSoundIn, IsName, state, name_in, named_in}
use Rattle.lua_heap.proofs.Alike.{same_text, nil_datum}
use Rattle.lua_heap.proofs.Entries.{write_keeps, write_known}
use Rattle.lua_heap.proofs.Growth.{HasMore, as_much, sound_there, pairs_there}
use Rattle.lua_heap.proofs.Mapped.{Alike, get-map, has-map, set-map}

same_name : (s : HeapState) → TextsDiffer s.texts → (t : TextId) → t.index < length s.texts → (v : Value) → IsName v → IsOf s v → bytes_eq (get_or s.texts t.index []) (name_in s.texts v) ≡ same_value (TextValue t) v
same_name s d t l (TextValue u) n m = same_text s.texts t.index u.index d l m
same_name s d t l Nil n m = absurd n
same_name s d t l (Boolean b) n m = absurd n
same_name s d t l (Number k) n m = absurd n
same_name s d t l (Table k) n m = absurd n
same_name s d t l (Closure k) n m = absurd n
same_name s d t l (Native k) n m = absurd n
same_name s d t l (Host k) n m = absurd n

alike : (s : HeapState) → TextsDiffer s.texts → (t : TextId) → t.index < length s.texts → (ps : Entries) → ArePairsOf s ps → All (λ p. IsName p.0) ps → Alike same_value Nil is_nil_value bytes_eq nil is_nil (name_in s.texts) (datum_in s.texts) refl (nil_datum s.texts) ps (TextValue t)
alike s d t l [] h n = tt
alike s d t l (p ∷ ps) h n = (same_name s d t l p.0 (All-head (λ q. IsName q.0) p ps n) (All-head (λ q. IsOf s q.0 × IsOf s q.1) p ps h).0, alike s d t l ps (All-tail (λ q. IsOf s q.0 × IsOf s q.1) p ps h) (All-tail (λ q. IsName q.0) p ps n))

module _ (h : Inside) (s : HeapState) (is : state h ≡ s) (sound : IsSound h) (t : TextId) (known : t.index < length s.texts) where
  its : IsSoundIn s h
  its = subst (λ u. IsSoundIn u h) is sound

  globals_are : s.globals ≡ named_in s.texts h.globals
  globals_are = subst (λ u. u.globals ≡ named_in u.texts h.globals) is refl

  pub global_means : get bytes_eq nil is_nil s.globals (get_or s.texts t.index []) ≡ datum s (entry h.globals (TextValue t))
  global_means =
      ap (λ ps. get bytes_eq nil is_nil ps (get_or s.texts t.index [])) globals_are
      ∙ get-map same_value Nil is_nil_value bytes_eq nil is_nil (name_in s.texts) (datum_in s.texts) refl (nil_datum s.texts) h.globals (TextValue t) (alike s its.differ t known h.globals its.globals its.names)

  pub place_means : has bytes_eq nil is_nil s.globals (get_or s.texts t.index []) ≡ has_place h.globals (TextValue t)
  place_means =
      ap (λ ps. has bytes_eq nil is_nil ps (get_or s.texts t.index [])) globals_are
      ∙ has-map same_value Nil is_nil_value bytes_eq nil is_nil (name_in s.texts) (datum_in s.texts) refl (nil_datum s.texts) h.globals (TextValue t) (alike s its.differ t known h.globals its.globals its.names)

  pub globals_known : ArePairsOf s h.globals
  globals_known = its.globals

  -- a global is written
  pub written : (ps : TableOfValues) (v : Value) → ps ≡ with_entry h.globals (TextValue t) v → state (record h { globals = ps }) ≡ with_store s (with_global (own_store s) (get_or s.texts t.index []) (datum s v))
  written ps v e =
      let over : HeapState → HeapState = λ u. record u { globals = named_in u.texts ps } in
      let with_globals : List (Text × Datum) → HeapState = λ gs. record s { globals = gs } in
      ap over is
      ∙ ap with_globals (
      ap (named_in s.texts) e
      ∙ sym (set-map same_value Nil is_nil_value bytes_eq nil is_nil (name_in s.texts) (datum_in s.texts) refl (nil_datum s.texts) h.globals (TextValue t) v (alike s its.differ t known h.globals its.globals its.names))
      ∙ ap (λ gs. set bytes_eq nil is_nil gs (get_or s.texts t.index []) (datum s v)) (sym globals_are)
      )

  pub written_sound : (ps : TableOfValues) (v : Value) → IsOf s v → ps ≡ with_entry h.globals (TextValue t) v → IsSound (record h { globals = ps })
  written_sound ps v l e =
      let there : IsOf (state h) (TextValue t) × IsOf (state h) v = subst (λ u. IsOf u (TextValue t) × IsOf u v) (sym is) (known, l) in
      let new : Inside = record h { globals = ps } in
      let more : HasMore (state h) (state new) = as_much (state h) (state new) refl refl refl refl refl in
      let all = sound_there (state h) (state new) more h sound.differ sound in
      record {
        differ = all.differ;
        tables = all.tables;
        globals = subst (ArePairsOf (state new)) (sym e) (pairs_there (state h) (state new) more (with_entry h.globals (TextValue t) v) (write_known (state h) h.globals (TextValue t) v sound.globals there.0 there.1));
        names = subst (All (λ p. IsName p.0)) (sym e) (write_keeps (λ p. IsName p.0) h.globals (TextValue t) v sound.names tt (λ p n. n));
        closures = all.closures;
        cells = all.cells;
      }
