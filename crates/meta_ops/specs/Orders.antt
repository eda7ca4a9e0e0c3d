-- Serves comparison: the orders of two numbers and of two strings, where the operands are such.
use Rattle.std.specs.Prelude.{Bool, true, false, not, int_lt, int_le, Option, None, Some}
use Rattle.lua_model.specs.Datum.{Datum, number, text, table}
use Rattle.lua_model.specs.Operators.{text_less}

abbrev pub less_of : Datum → Datum → Option Bool
less_of (number a) (number b) = Some (int_lt a b)
less_of (text a) (text b) = Some (text_less a b)
less_of _ _ = None

abbrev pub at_most_of : Datum → Datum → Option Bool
at_most_of (number a) (number b) = Some (int_le a b)
at_most_of (text a) (text b) = Some (not (text_less b a))
at_most_of _ _ = None

abbrev pub are_both_tables : Datum → Datum → Bool
are_both_tables (table a) (table b) = true
are_both_tables _ _ = false
