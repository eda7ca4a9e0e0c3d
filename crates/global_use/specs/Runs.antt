-- To be believed. Runs of a chunk that begin with any globals: those that it gets are all that matter, and those that it sets are all that it
-- changes (manual 2.3).
use Rattle.std.specs.Prelude.{◌≡◌, ℕ, ◌≤◌, List, Option, None, Some, IfSome}
use Rattle.std.specs.Str.{bytes_eq}
use Rattle.lua_num.specs.Bytes.{Text}
use Rattle.proto.specs.Chunk.{Chunk}
use Rattle.lua_model.specs.Datum.{Datum, nil, is_nil}
use Rattle.lua_model.specs.Pairs.{get}
use Rattle.lua_model.specs.Store.{Store, Host, Reply}
use Rattle.lua_model.specs.Builtins.{start as first_store}
use Rattle.rules.specs.Run.{Conf, Going, Ended, Failed, Waiting, Stuck, run, start, course}
use Rattle.global_use.specs.Uses.{gets, sets}

-- globals with their values; one that has none is nil
abbrev pub Globals : Type 0
Globals = List (Text × Datum)

abbrev pub value_in : Globals → Text → Datum
value_in globals name = get bytes_eq nil is_nil globals name

-- the store at the start, but for these globals
abbrev pub store_with : Globals → List Host → Store
store_with globals hosts = record (first_store hosts) { globals = globals }

-- the run of a chunk that begins with these globals, with these hosts and their replies, after n steps
abbrev pub run_from : Chunk → Globals → List Host → List Reply → ℕ → Conf
run_from chunk globals hosts replies n = run n (start chunk (store_with globals hosts) replies)

-- Where two lists of globals agree in the names that a chunk gets, its runs with both have the same course at each step; a stuck run has
-- none, so that both are stuck or neither is.
abbrev pub GetsAloneMatter : Chunk → Type 0
GetsAloneMatter chunk =
    (one other : Globals) (hosts : List Host) (replies : List Reply) (n : ℕ) →
    ((name : Text) → 1 ≤ gets chunk name → value_in one name ≡ value_in other name) →
    course (run_from chunk one hosts replies n) ≡ course (run_from chunk other hosts replies n)

-- the globals that a run has come to; of a stuck one nothing is said
abbrev pub globals_of : Conf → Option Globals
globals_of (Going m) = Some m.store.globals
globals_of (Ended store outside) = Some store.globals
globals_of (Failed text store outside) = Some store.globals
globals_of (Waiting m) = Some m.store.globals
globals_of Stuck = None

-- a global that a chunk does not set keeps its value
abbrev pub SetsAloneChange : Chunk → Type 0
SetsAloneChange chunk =
    (globals : Globals) (hosts : List Host) (replies : List Reply) (n : ℕ) (name : Text) →
    sets chunk name ≡ 0 →
    IfSome (globals_of (run_from chunk globals hosts replies n)) (λ now. value_in now name ≡ value_in globals name)
