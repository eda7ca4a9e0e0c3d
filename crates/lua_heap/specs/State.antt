-- To be believed. A heap as contracts see it: what the values of a run are numbers of, and what these stand for (manual 2.2).
use Rattle.std.specs.Prelude.{◌≡◌, ℕ, ◌<◌, Bool, List, [], length, map, get_or, Option, None, Some, option_map, if◌then◌else◌}
use Rattle.std.specs.List.{All}
use Rattle.lua_num.specs.Bytes.{Text}
use Rattle.lua_model.specs.declared.TableId.{TableId}
use Rattle.lua_model.specs.declared.Value.{Value}
use Rattle.lua_model.specs.declared.Value.TheVariants.{Nil, Bool as Boolean, Number, Text as TextValue, Table as TableValue, Closure as ClosureValue, Native, Host as HostValue}
use Rattle.lua_model.specs.Datum.{Datum, nil, boolean, number, text, table, closure, native, host, is_nil, raw_equal}
use Rattle.lua_model.specs.Pairs.{has, first, after}
use Rattle.lua_model.specs.Store.{Table, Host, Store}
use Rattle.lua_model.specs.Builtins.{builtin_names}
use Rattle.lua_heap.specs.declared.cells.CellId.{CellId}
use Rattle.lua_heap.specs.declared.cells.Cell.{Cell}
use Rattle.lua_heap.specs.declared.cells.Cell.TheVariants.{InStack, Held}

-- a closure is a function, by its number, and its cells, by theirs
pub record ClosureState : Type 0 where
  pub function : ℕ
  pub cells : List ℕ

-- a cell is a place of the stack, or holds a value
pub data CellState : Type 0 where
  in_stack : (place : ℕ) → CellState
  held : Datum → CellState

-- the texts, tables, closures and cells by their ids, the globals by their names, and the names of the hosts by their numbers
pub record HeapState : Type 0 where
  pub texts : List Text
  pub tables : List Table
  pub globals : List (Text × Datum)
  pub closures : List ClosureState
  pub cells : List CellState
  pub host_names : List Text

abbrev pub empty : HeapState
empty = record { texts = []; tables = []; globals = []; closures = []; cells = []; host_names = [] }

-- ---- values of a heap

-- what a value stands for, where these are the texts
abbrev pub datum_in : List Text → Value → Datum
datum_in texts Nil = nil
datum_in texts (Boolean b) = boolean b
datum_in texts (Number n) = number n
datum_in texts (TextValue t) = text (get_or texts t.index [])
datum_in texts (TableValue t) = table t.index
datum_in texts (ClosureValue c) = closure c.index
datum_in texts (Native n) = native n
datum_in texts (HostValue k) = host k

abbrev pub datum : HeapState → Value → Datum
datum h v = datum_in h.texts v

-- a value is the heap's: what it is the number of is there
abbrev pub IsOf : HeapState → Value → Type 0
IsOf h (TextValue t) = t.index < length h.texts
IsOf h (TableValue t) = t.index < length h.tables
IsOf h (ClosureValue c) = c.index < length h.closures
IsOf h (Native n) = n < length builtin_names
IsOf h (HostValue k) = k < length h.host_names
IsOf h _ = Unit {0}

-- the values of one heap are those of the other, and stand for the same
abbrev pub Keeps : HeapState → HeapState → Type 0
Keeps old new = (v : Value) → IsOf old v → IsOf new v × (datum new v ≡ datum old v)

-- the values of a list
abbrev pub AreOf : HeapState → List Value → Type 0
AreOf h vs = All (IsOf h) vs

-- the values of a list of pairs, and what they stand for
abbrev pub ArePairsOf : HeapState → List (Value × Value) → Type 0
ArePairsOf h pairs = All (λ p. IsOf h p.0 × IsOf h p.1) pairs

abbrev pub pair_of : HeapState → Value × Value → Datum × Datum
pair_of h p = (datum h p.0, datum h p.1)

abbrev pub pairs_of : HeapState → List (Value × Value) → List (Datum × Datum)
pairs_of h pairs = map (pair_of h) pairs

-- ---- tables and globals

-- the tables and globals, beside these hosts
abbrev pub store_of : HeapState → List Host → Store
store_of h hosts = record { tables = h.tables; globals = h.globals; hosts = hosts }

-- the heap with the tables and globals of a store
abbrev pub with_store : HeapState → Store → HeapState
with_store h s = record h { tables = s.tables; globals = s.globals }

-- a heap has no hosts of its own but their names
abbrev pub own_store : HeapState → Store
own_store h = store_of h []

abbrev pub meta_of : Option TableId → Option ℕ
meta_of m = option_map (λ t. t.index) m

abbrev pub IsMetaOf : HeapState → Option TableId → Type 0
IsMetaOf h m = elim m [ None ↦ Unit {0} | Some t ↦ t.index < length h.tables ]

-- whether a key has a place among the pairs of a table
abbrev pub has_key : List (Datum × Datum) → Datum → Bool
has_key pairs k = has raw_equal nil is_nil pairs k

-- the first pair with a value after the place of a key, from the front for nil: None where the key has no place
abbrev pub next_of : List (Datum × Datum) → Datum → Option (Option (Datum × Datum))
next_of pairs k = if is_nil k then Some (first raw_equal nil is_nil pairs) else after raw_equal nil is_nil pairs k

-- ---- closures and cells

abbrev pub AreCellsOf : HeapState → List CellId → Type 0
AreCellsOf h cells = All (λ c. c.index < length h.cells) cells

abbrev pub cell_of : HeapState → Cell → CellState
cell_of h (InStack place) = in_stack place
cell_of h (Held v) = held (datum h v)

abbrev pub IsCellOf : HeapState → Cell → Type 0
IsCellOf h (InStack place) = Unit {0}
IsCellOf h (Held v) = IsOf h v

abbrev pub no_closure : ClosureState
no_closure = record { function = 0; cells = [] }

abbrev pub no_cell : CellState
no_cell = in_stack 0

-- ---- changes

-- of a heap only its texts changed, or only these and the pairs and metatables of its tables
abbrev pub OnlyTexts : HeapState → HeapState → Type 0
OnlyTexts old new = new ≡ record old { texts = new.texts }

abbrev pub OnlyTables : HeapState → HeapState → Type 0
OnlyTables old new = new ≡ record old { texts = new.texts; tables = new.tables }
