-- Serves the heap: the id of a table by one more than its index, or none by 0.
use Rattle.std.specs.Prelude.{ℕ, zero, suc, Option, None, Some}
use Rattle.lua_model.specs.declared.TableId.{TableId}

abbrev pub linked : ℕ → Option TableId
linked zero = None
linked (suc n) = Some (record { index = n })
