-- To be believed. What a running source has beside the store: cells of locals, closures, and the place where a part runs (manual
-- 2.3, 2.5.9 and 2.6).
use Rattle.std.specs.Prelude.{ℕ, Bool, List, [], ◌∷◌, ◌++◌, length, drop, Option, Some, None, get_or, slice_set, cond}
use Rattle.std.specs.Str.{bytes_eq}
use Rattle.std.specs.Option.{option_or}
use Rattle.lua_tree.specs.Syntax.{Statements, FunctionBody, function_body}
use Rattle.lua_num.specs.Bytes.{Text}
use Rattle.lua_model.specs.Datum.{Datum, nil, first_of, extra_of}
use Rattle.lua_model.specs.Store.{Store}

-- names and their cells, the innermost first
abbrev pub Env : Type 0
Env = List (Text × ℕ)

-- a closure: a function, and the names that it sees (manual 2.6)
pub record Closure : Type 0 where
  pub params : List Text
  pub vararg : Bool
  pub block : Statements
  pub sees : Env

pub record State : Type 0 where
  pub store : Store
  pub cells : List Datum
  pub closures : List Closure

-- where a part runs: the names of the running function, those of the functions around it, the extra arguments, the call depth
pub record Place : Type 0 where
  pub own : Env
  pub outer : Env
  pub extra : List Datum
  pub depth : ℕ

-- how a part ends: it goes on with these names, or breaks the loop, or returns values, or returns what a call gives
pub data Flow : Type 0 where
  goes : Env → Flow
  breaks : Flow
  returns : List Datum → Flow
  tail_calls : Datum → List Datum → Flow

-- what stands at a late place: a value, or a local, which is read when the operation is done
pub data Taken : Type 0 where
  taken : Datum → Taken
  late : (cell : ℕ) → Taken

-- what an assignment stores to
pub data Target : Type 0 where
  to_cell : ℕ → Target
  to_global : Text → Target
  to_entry : (on key : Taken) → Target

-- ---- cells

abbrev pub cell : State → ℕ → Datum
cell s c = get_or s.cells c nil

abbrev pub with_cell : State → ℕ → Datum → State
with_cell s c v = record s { cells = slice_set s.cells c v }

-- a new cell stands at the place `length s.cells`
abbrev pub new_cell : State → Datum → State
new_cell s v = record s { cells = s.cells ++ v ∷ [] }

abbrev pub with_store : State → Store → State
with_store s new = record s { store = new }

-- ---- names (manual 2.6)

abbrev pub find : Text → Env → Option ℕ
find name [] = None
find name (e ∷ es) = cond (bytes_eq name e.0) (Some e.1) (find name es)

-- the cell of a name, none for a global
abbrev pub meant : Place → Text → Option ℕ
meant at name = option_or (find name at.own) (find name at.outer)

abbrev pub with_own : Place → Env → Place
with_own at env = record at { own = env }

-- new locals one after another, each with a new cell; missing values are nil
abbrev pub declared : List Text → List Datum → Env → State → Env × State
declared [] vs env s = (env, s)
declared (name ∷ names) vs env s = declared names (drop 1 vs) ((name, length s.cells) ∷ env) (new_cell s (first_of vs))

-- ---- functions (manual 2.5.9)

-- a new closure stands at the place `length s.closures`
abbrev pub new_closure : Place → FunctionBody → State → State
new_closure at (function_body params vararg block first last) s =
    record s { closures = s.closures ++ record { params = params; vararg = vararg; block = block; sees = at.own ++ at.outer } ∷ [] }

-- inside a function that is called: its parameters are new locals, and `...` is the arguments behind them
abbrev pub inside : Closure → (depth : ℕ) → List Datum → Env → Place
inside f depth args own = record { own = own; outer = f.sees; extra = extra_of f.vararg (length f.params) args; depth = depth }
