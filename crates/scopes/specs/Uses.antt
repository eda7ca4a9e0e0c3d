-- To be believed. What the answers of the program say, in the words of the definitions.
use Rattle.std.specs.Prelude.{List, [], ◌∷◌}
use Rattle.lua_tree.specs.Scoping.{Use, local_use, upvalue_use, global_use}
use Rattle.scopes.specs.declared.uses.NameUse.{NameUse}
use Rattle.scopes.specs.declared.uses.Source.{Source}
use Rattle.scopes.specs.declared.uses.Captures.{Captures}

-- the program's answers as uses
abbrev pub use_of : NameUse → Use
use_of (NameUse.Local declaration) = local_use declaration
use_of (NameUse.Upvalue slot) = upvalue_use slot
use_of NameUse.Global = global_use

abbrev pub source_use : Source → Use
source_use (Source.Local declaration) = local_use declaration
source_use (Source.Upvalue slot) = upvalue_use slot

abbrev pub uses_of_names : List NameUse → List Use
uses_of_names [] = []
uses_of_names (name ∷ names) = use_of name ∷ uses_of_names names

abbrev pub source_uses : List Source → List Use
source_uses [] = []
source_uses (source ∷ sources) = source_use source ∷ source_uses sources

abbrev pub uses_of_functions : List Captures → List (List Use)
uses_of_functions [] = []
uses_of_functions (captures ∷ functions) = source_uses captures.sources.items ∷ uses_of_functions functions
