-- Serves the laws: what the definitions that compute are, in words of what is least.
use Rattle.std.specs.Prelude.{◌≡◌, ℕ, suc, ◌<◌, pos, List, true, false}
use Rattle.lua_model.specs.Datum.{Datum, number, is_nil}
use Rattle.lua_model.specs.Store.{pair_value}
use Rattle.lua_model.specs.Operators.{border}

-- the least n of at least 0 whose entry n + 1 is nil
pub record IsBorder (pairs : List (Datum × Datum)) (n : ℕ) : Type 0 where
  pub ends : is_nil (pair_value pairs (number (pos (suc n)))) ≡ true
  pub goes : (m : ℕ) → m < n → is_nil (pair_value pairs (number (pos (suc m)))) ≡ false

abbrev pub BorderIsLeast : Type 0
BorderIsLeast = (pairs : List (Datum × Datum)) → IsBorder pairs (border pairs)
