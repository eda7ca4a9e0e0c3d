-- Serves the heap: its fields, and what they say of its state.
use Rattle.std.specs.Prelude.{List, [], map, get_or}
use Rattle.std.specs.List.{All}
use Rattle.lua_num.specs.Bytes.{Text}
use Rattle.lua_model.specs.declared.Value.{Value}
use Rattle.lua_model.specs.declared.Value.TheVariants.{Text as TextValue}
use Rattle.lua_model.specs.Datum.{Datum}
use Rattle.lua_model.specs.Store.{Table}
use Rattle.string_pool.specs.Texts.{TextsDiffer}
use Rattle.lua_heap.specs.declared.cells.Cell.{Cell}
use Rattle.lua_heap.specs.declared.heap.Entity.{Entity}
use Rattle.lua_heap.specs.declared.heap.Closure.{Closure}
use Rattle.lua_heap.specs.declared.heap.Heap.TheInside.{Inside}
use Rattle.lua_heap.specs.State.{HeapState, ClosureState, CellState, in_stack, held, datum_in, meta_of, ArePairsOf, IsMetaOf, IsCellOf, AreCellsOf}

-- the pairs of a table or of the globals, where these are the texts
abbrev pub data_in : List Text → List (Value × Value) → List (Datum × Datum)
data_in texts pairs = map (λ p. (datum_in texts p.0, datum_in texts p.1)) pairs

abbrev pub table_in : List Text → Entity → Table
table_in texts e = record { pairs = data_in texts e.table; meta = meta_of e.metatable }

-- the name of a global, whose key is a text
abbrev pub name_in : List Text → Value → Text
name_in texts (TextValue t) = get_or texts t.index []
name_in texts _ = []

abbrev pub named_in : List Text → List (Value × Value) → List (Text × Datum)
named_in texts pairs = map (λ p. (name_in texts p.0, datum_in texts p.1)) pairs

abbrev pub closure_in : Closure → ClosureState
closure_in c = record { function = c.function; cells = map (λ c. c.index) c.cells.items }

abbrev pub cell_in : List Text → Cell → CellState
cell_in texts (Cell.InStack place) = in_stack place
cell_in texts (Cell.Held v) = held (datum_in texts v)

abbrev pub state : Inside → HeapState
state h = record {
  texts = h.texts;
  tables = map (table_in h.texts) h.tables.items;
  globals = named_in h.texts h.globals;
  closures = map closure_in h.closures.items;
  cells = map (cell_in h.texts) h.cells.items;
  host_names = h.host_names.items;
}

-- a key of the globals is a text
abbrev pub IsName : Value → Type 0
IsName (TextValue t) = Unit {0}
IsName _ = ⊥

-- what the fields name is there, and no two texts are alike
pub record IsSoundIn (s : HeapState) (h : Inside) : Type 0 where
  pub differ : TextsDiffer s.texts
  pub tables : All (λ e. ArePairsOf s e.table × IsMetaOf s e.metatable) h.tables.items
  pub globals : ArePairsOf s h.globals
  pub names : All (λ p. IsName p.0) h.globals
  pub closures : All (λ c. AreCellsOf s c.cells.items) h.closures.items
  pub cells : All (IsCellOf s) h.cells.items

abbrev pub IsSound : Inside → Type 0
IsSound h = IsSoundIn (state h) h
