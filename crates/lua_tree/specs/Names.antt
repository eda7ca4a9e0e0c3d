-- To be believed. Names (manual 2.1).
use Rattle.std.specs.Prelude.{◌&&◌, ℕ, Bool, false, not, List, [], ◌∷◌}
use Rattle.std.specs.List.{list_all}
use Rattle.lua_tree.specs.Bytes.{is_letter, is_word, is_among}
use Rattle.lua_tree.specs.Tokens.{keywords}

abbrev pub is_name : List ℕ → Bool
is_name [] = false
is_name (byte ∷ text) = is_letter byte && (list_all is_word text && not (is_among keywords (byte ∷ text)))

abbrev pub are_names : List (List ℕ) → Bool
are_names names = list_all is_name names

-- one name or more
abbrev pub are_some_names : List (List ℕ) → Bool
are_some_names [] = false
are_some_names (name ∷ names) = is_name name && are_names names
