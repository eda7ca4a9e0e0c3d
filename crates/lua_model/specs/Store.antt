-- To be believed. What a run of Lua changes beside cells and closures: tables and globals (manual 2.2 and 2.3), which hosts are live, and outside
-- of them its events and the replies of hosts, which are this suite's own.
use Rattle.std.specs.Prelude.{ℕ, ℤ, pos, ◌+ℤ◌, Bool, List, [], ◌∷◌, ◌++◌, Option, Some, None, get_or, slice_set}
use Rattle.std.specs.Str.{bytes_eq}
use Rattle.lua_model.specs.declared.plain.Plain.{Plain}
use Rattle.lua_model.specs.Pairs.{get, set}
use Rattle.lua_num.specs.Bytes.{Text}
use Rattle.lua_model.specs.Datum.{Datum, nil, boolean, number, text, is_nil, raw_equal}

-- a table is its pairs, in the order in which their keys were first given a value, and its metatable
pub record Table : Type 0 where
  pub pairs : List (Datum × Datum)
  pub meta : Option ℕ

-- a host is a function of the outside
pub record Host : Type 0 where
  pub name : Text
  pub live : Bool

-- the tables by their places, the globals by their names, and the hosts
pub record Store : Type 0 where
  pub tables : List Table
  pub globals : List (Text × Datum)
  pub hosts : List Host

-- ---- tables (manual 2.2)

-- the value of a key, nil where there is none
abbrev pub pair_value : List (Datum × Datum) → Datum → Datum
pair_value ps k = get raw_equal nil is_nil ps k

-- a key keeps its place; a new key goes last, where its value is not nil
abbrev pub with_pair : List (Datum × Datum) → Datum → Datum → List (Datum × Datum)
with_pair ps k v = set raw_equal nil is_nil ps k v

abbrev pub no_table : Table
no_table = record { pairs = []; meta = None }

abbrev pub table_at : Store → ℕ → Table
table_at s t = get_or s.tables t no_table

-- the entry of a table, with no handler asked
abbrev pub raw_get : Store → ℕ → Datum → Datum
raw_get s t k = pair_value (table_at s t).pairs k

abbrev pub with_table : Store → ℕ → Table → Store
with_table s t new = record s { tables = slice_set s.tables t new }

abbrev pub raw_set : Store → ℕ → Datum → Datum → Store
raw_set s t k v = with_table s t (record (table_at s t) { pairs = with_pair (table_at s t).pairs k v })

-- a new table: it stands at the place `length s.tables`
abbrev pub new_table : Store → Store
new_table s = record s { tables = s.tables ++ no_table ∷ [] }

abbrev pub with_metatable : Store → ℕ → Option ℕ → Store
with_metatable s t m = with_table s t (record (table_at s t) { meta = m })

-- raw entries, from the key k on
abbrev pub with_items : Store → ℕ → (k : ℤ) → List Datum → Store
with_items s t k [] = s
with_items s t k (v ∷ vs) = with_items (raw_set s t (number k) v) t (k +ℤ pos 1) vs

-- ---- globals

abbrev pub global : Store → Text → Datum
global s name = get bytes_eq nil is_nil s.globals name

abbrev pub with_global : Store → Text → Datum → Store
with_global s name v = record s { globals = set bytes_eq nil is_nil s.globals name v }

-- ---- the outside

-- a host replies with values or with the text of a failure
pub data Reply : Type 0 where
  replies_values : List Plain → Reply
  replies_failure : Text → Reply

pub data Event : Type 0 where
  printed : Text → Event
  asked : (host : ℕ) → List Plain → Reply → Event
  closed : (host : ℕ) → Event

-- what happened, and the replies that hosts have left
pub record Outside : Type 0 where
  pub events : List Event
  pub replies : List Reply

-- what was printed, in one piece
abbrev pub output : List Event → Text
output [] = []
output (printed piece ∷ es) = piece ++ output es
output (asked h vs r ∷ es) = output es
output (closed h ∷ es) = output es

abbrev pub as_datum : Plain → Datum
as_datum Plain.Nil = nil
as_datum (Plain.Bool b) = boolean b
as_datum (Plain.Number n) = number n
as_datum (Plain.Text t) = text t

abbrev pub as_plain : Datum → Option Plain
as_plain nil = Some Plain.Nil
as_plain (boolean b) = Some (Plain.Bool b)
as_plain (number n) = Some (Plain.Number n)
as_plain (text t) = Some (Plain.Text t)
as_plain _ = None

-- one event more
abbrev pub happens : Event → Outside → Outside
happens e w = record w { events = w.events ++ e ∷ [] }

-- a host is asked, and gives the next reply, behind which these are left
abbrev pub replied : (host : ℕ) → List Plain → Reply → (left : List Reply) → Outside → Outside
replied h args reply left w = happens (asked h args reply) (record w { replies = left })
