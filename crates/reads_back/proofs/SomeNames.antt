-- Some names are one at least, and all of them are names; so are the parameters of a method, with `self`.
use Rattle.std.proofs.Common.{◌≡◌, ◌<◌, true, false, List, [], ◌∷◌, length, arith, Bool}
use Rattle.lua_num.specs.Bytes.{Text}
use Rattle.lua_tree.specs.Names.{are_some_names, are_names}
use Rattle.lua_tree.specs.Outline.{all_params}

-- some names are one at least
pub some_names : (names : List Text) → are_some_names names ≡ true → 0 < length names
some_names [] good = cc
some_names (name ∷ names) good = omega arith

-- a list that has some names has names alone
pub good_names : (names : List Text) → are_some_names names ≡ true → are_names names ≡ true
good_names [] names = cc
good_names (name ∷ names) good = good

-- `self` is a name
pub good_params : (method : Bool) (params : List Text) → are_names params ≡ true → are_names (all_params method params) ≡ true
good_params true params good = good
good_params false params good = good
