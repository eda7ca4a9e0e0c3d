-- A heap that has all that another one had: its values are still there, and stand for the same where the texts are kept.
use Rattle.std.proofs.Common.{◌≡◌, ℕ, ◌<◌, ◌≤◌, List, [], ◌∷◌, length, map, get_or, Option, None, Some, Result, Ok, Err, OnOk, OnErr, refl, sym, ap, subst, arith}
use Rattle.std.specs.List.{All}
use Rattle.std.proofs.lemmas.List.Elements.{All-weaker, All-head, All-tail}
use Rattle.lua_num.specs.Bytes.{Text}
use Rattle.lua_model.specs.declared.TableId.{TableId}
use Rattle.lua_model.specs.declared.Value.{Value}
use Rattle.lua_model.specs.declared.Value.TheVariants.{Nil, Bool as Boolean, Number, Text as TextValue, Table as TableValue, Closure as ClosureValue, Native, Host as HostValue}
use Rattle.lua_model.specs.Datum.{text}
use Rattle.lua_table.specs.Entries.{Entries}
use Rattle.string_pool.specs.Texts.{TextsDiffer}
use Rattle.lua_heap.specs.declared.cells.CellId.{CellId}
use Rattle.lua_heap.specs.declared.cells.Cell.{Cell}
use Rattle.lua_heap.specs.declared.cells.Cell.TheVariants.{InStack, Held}
use Rattle.lua_heap.specs.declared.heap.Heap.TheInside.{Inside}
use Rattle.lua_heap.specs.State.{HeapState, held, datum_in, datum, IsOf, ArePairsOf, IsMetaOf, IsCellOf, AreCellsOf}
use Rattle.lua_heap.specs.Inside.{IsSoundIn, data_in, table_in, name_in, named_in, cell_in}
use Rattle.lua_heap.specs.declared.heap.Entity.{Entity}

-- ---- more of everything

pub record HasMore (old new : HeapState) : Type 0 where
  pub texts : length old.texts ≤ length new.texts
  pub tables : length old.tables ≤ length new.tables
  pub closures : length old.closures ≤ length new.closures
  pub cells : length old.cells ≤ length new.cells
  pub hosts : length old.host_names ≤ length new.host_names

pub as_much : (old new : HeapState) → length old.texts ≡ length new.texts → length old.tables ≡ length new.tables → length old.closures ≡ length new.closures → length old.cells ≡ length new.cells → length old.host_names ≡ length new.host_names → HasMore old new
as_much old new a b c d e = record { texts = omega arith; tables = omega arith; closures = omega arith; cells = omega arith; hosts = omega arith }

module _ (old new : HeapState) (more : HasMore old new) where
  pub value_there : (v : Value) → IsOf old v → IsOf new v
  value_there (TextValue t) h = omega arith
  value_there (TableValue t) h = omega arith
  value_there (ClosureValue c) h = omega arith
  value_there (HostValue k) h = omega arith
  value_there (Native n) h = h
  value_there Nil h = tt
  value_there (Boolean b) h = tt
  value_there (Number n) h = tt

  pub pairs_there : (ps : Entries) → ArePairsOf old ps → ArePairsOf new ps
  pairs_there ps h = All-weaker (λ p. IsOf old p.0 × IsOf old p.1) (λ p. IsOf new p.0 × IsOf new p.1) (λ p l. (value_there p.0 l.0, value_there p.1 l.1)) ps h

  pub meta_there : (m : Option TableId) → IsMetaOf old m → IsMetaOf new m
  meta_there None h = tt
  meta_there (Some t) h = omega arith

  pub cell_there : (c : Cell) → IsCellOf old c → IsCellOf new c
  cell_there (InStack place) h = tt
  cell_there (Held v) h = value_there v h

  pub cells_there : (cs : List CellId) → AreCellsOf old cs → AreCellsOf new cs
  cells_there cs h = All-weaker (λ c. c.index < length old.cells) (λ c. c.index < length new.cells) (λ c l. omega arith) cs h

  -- what was sound stays so
  pub sound_there : (h : Inside) → TextsDiffer new.texts → IsSoundIn old h → IsSoundIn new h
  sound_there h differ sound = record {
    differ = differ;
    tables = All-weaker (λ e. ArePairsOf old e.table × IsMetaOf old e.metatable) (λ e. ArePairsOf new e.table × IsMetaOf new e.metatable) (λ e l. (pairs_there e.table l.0, meta_there e.metatable l.1)) h.tables.items sound.tables;
    globals = pairs_there h.globals sound.globals;
    names = sound.names;
    closures = All-weaker (λ c. AreCellsOf old c.cells.items) (λ c. AreCellsOf new c.cells.items) (λ c l. cells_there c.cells.items l) h.closures.items sound.closures;
    cells = All-weaker (IsCellOf old) (IsCellOf new) (λ c l. cell_there c l) h.cells.items sound.cells;
  }

-- ---- texts that are kept

pub map_agree : {X Y : Type 0} (P : X → Type 0) (f g : X → Y) → ((x : X) → P x → f x ≡ g x) → (xs : List X) → All P xs → map f xs ≡ map g xs
map_agree P f g e [] h = refl
map_agree P f g e (x ∷ xs) h = λ i. e x (All-head P x xs h) i ∷ map_agree P f g e xs (All-tail P x xs h) i

-- the texts stand where they stood
pub record KeepsTexts (old new : List Text) : Type 0 where
  pub long : length old ≤ length new
  pub kept : (i : ℕ) → i < length old → get_or new i [] ≡ get_or old i []

pub texts_as_they_were : (texts : List Text) → KeepsTexts texts texts
texts_as_they_were texts = record { long = omega arith; kept = λ i l. refl }

module _ (s : HeapState) (texts : List Text) (keeps : KeepsTexts s.texts texts) where
  pub datum_kept : (v : Value) → IsOf s v → datum_in texts v ≡ datum s v
  datum_kept (TextValue t) h = ap text (keeps.kept t.index h)
  datum_kept Nil h = refl
  datum_kept (Boolean b) h = refl
  datum_kept (Number n) h = refl
  datum_kept (TableValue t) h = refl
  datum_kept (ClosureValue c) h = refl
  datum_kept (Native n) h = refl
  datum_kept (HostValue k) h = refl

  name_kept : (v : Value) → IsOf s v → name_in texts v ≡ name_in s.texts v
  name_kept (TextValue t) h = keeps.kept t.index h
  name_kept Nil h = refl
  name_kept (Boolean b) h = refl
  name_kept (Number n) h = refl
  name_kept (TableValue t) h = refl
  name_kept (ClosureValue c) h = refl
  name_kept (Native n) h = refl
  name_kept (HostValue k) h = refl

  pub data_kept : (ps : Entries) → ArePairsOf s ps → data_in texts ps ≡ data_in s.texts ps
  data_kept ps h = map_agree (λ p. IsOf s p.0 × IsOf s p.1) _ _ (λ p l i. (datum_kept p.0 l.0 i, datum_kept p.1 l.1 i)) ps h

  pub named_kept : (ps : Entries) → ArePairsOf s ps → named_in texts ps ≡ named_in s.texts ps
  named_kept ps h = map_agree (λ p. IsOf s p.0 × IsOf s p.1) _ _ (λ p l i. (name_kept p.0 l.0 i, datum_kept p.1 l.1 i)) ps h

  pub tables_kept : (es : List Entity) → All (λ e. ArePairsOf s e.table × IsMetaOf s e.metatable) es → map (table_in texts) es ≡ map (table_in s.texts) es
  tables_kept es h = map_agree (λ e. ArePairsOf s e.table × IsMetaOf s e.metatable) _ _ (λ e l. ap (λ ps. record (table_in s.texts e) { pairs = ps }) (data_kept e.table l.0)) es h

  cell_kept : (c : Cell) → IsCellOf s c → cell_in texts c ≡ cell_in s.texts c
  cell_kept (InStack place) h = refl
  cell_kept (Held v) h = ap held (datum_kept v h)

  pub cells_kept : (cs : List Cell) → All (IsCellOf s) cs → map (cell_in texts) cs ≡ map (cell_in s.texts) cs
  cells_kept cs h = map_agree (IsCellOf s) _ _ cell_kept cs h

-- what holds where a call is done and where it fails and changes nothing
pub on_both : {A X E : Type 0} (P : A → Type 0) (r : Result X E) (new done old : A) → OnOk r (new ≡ done) → OnErr r (new ≡ old) → P done → P old → P new
on_both P (Ok x) new done old h k p q = subst P (sym h) p
on_both P (Err x) new done old h k p q = subst P (sym k) q
