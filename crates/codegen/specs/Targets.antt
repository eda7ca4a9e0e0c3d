-- Serves the bodies. Targets of assignments, in the words of the definitions.
use Rattle.std.specs.Prelude.{ℕ, List, [], ◌∷◌, map}
use Rattle.scheme.specs.Making.{Part}
use Rattle.scheme.specs.Expressions as parts
use Rattle.scheme.specs.Expressions.{name_target, part_target, Coded, coded_field}
use Rattle.scheme.specs.Statements.{store_register, path_from}
use Rattle.lua_num.specs.Bytes.{Text}
use Rattle.lua_tree.specs.Syntax.{field_expression}
use Rattle.code_builder.specs.Places.{place_of}
use Rattle.codegen.specs.declared.stores.Target.{Target}

abbrev pub target_of : Target → parts.Target
target_of (Target.Name name place) = name_target name.now (place_of place)
target_of (Target.Part on key on_local key_local) = part_target on key on_local key_local

abbrev pub targets_of : List Target → List parts.Target
targets_of targets = map target_of targets

-- targets are stored from registers, from right to left
abbrev pub stored_back : (line : ℕ) → List parts.Target → List ℕ → Part
stored_back line (target ∷ targets) (r ∷ rs) m = store_register line target r (stored_back line targets rs m)
stored_back line targets rs m = m

-- the name that a path begins with
abbrev pub first_text : List Text → Text
first_text [] = []
first_text (text ∷ texts) = text

-- a field of a path
abbrev pub path_field : (line : ℕ) → List Text → Text → Coded
path_field line path name = coded_field line (field_expression line (path_from line path).e name) (path_from line path) name
