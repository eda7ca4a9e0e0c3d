-- Serves `print` and `tostring`: the text of a value by the names of the hosts alone.
use Rattle.std.specs.Prelude.{List, [], ◌++◌, get_or, codes}
use Rattle.lua_num.specs.Bytes.{Text}
use Rattle.lua_model.specs.Datum.{Datum, host}
use Rattle.lua_model.specs.Store.{Store}
use Rattle.lua_model.specs.Builtins.{shown}

abbrev pub no_store : Store
no_store = record { tables = []; globals = []; hosts = [] }

abbrev pub shown_beside : List Text → Datum → Text
shown_beside names (host k) = codes "function: host " ++ get_or names k []
shown_beside names v = shown no_store v
