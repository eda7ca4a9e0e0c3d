-- To be believed. What a path shows: `main`, or the numbers of the functions with points between them.
use Rattle.std.specs.Prelude.{ℕ, List, [], ◌∷◌, ◌++◌, codes}
use Rattle.std.specs.List.{flat_map}
use Rattle.std.specs.Fmt.{decimal}

-- a point and a number
abbrev pub behind_point : ℕ → List ℕ
behind_point number = 46 ∷ decimal number

abbrev pub path_text : List ℕ → List ℕ
path_text [] = codes "main"
path_text (number ∷ path) = decimal number ++ flat_map behind_point path
