-- To be believed. A pool as contracts see it: its texts, by their ids (a string is its bytes, manual 2.2). That no two of them are alike makes ids stand for texts.
use Rattle.std.specs.Prelude.{List, [], ◌∷◌, ◌++◌, if◌then◌else◌}
use Rattle.std.specs.List.{list_any, IsDistinct}
use Rattle.std.specs.Str.{bytes_eq}
use Rattle.lua_num.specs.Bytes.{Text}

-- a text that is there keeps its place, and another one goes last
abbrev pub with_text : List Text → Text → List Text
with_text texts t = if list_any (bytes_eq t) texts then texts else (texts ++ t ∷ [])

abbrev pub TextsDiffer : List Text → Type 0
TextsDiffer texts = IsDistinct bytes_eq texts
