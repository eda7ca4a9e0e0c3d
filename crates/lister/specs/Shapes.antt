-- Serves a body: the code's shapes as the definition has them, and the constants of an instruction's two operands.
use Rattle.std.specs.Prelude.{ℕ, List, [], ◌∷◌, ◌++◌, Option, None, Some, option_to_list, slice_get}
use Rattle.lua_num.specs.Bytes.{Text}
use Rattle.proto.specs.declared.parts.Constant.{Constant}
use Rattle.lister.specs.Listing.{Shape as Shape', shows_constant, shows_function, shows_jump, shows_two, constant_or, constants_comment}
use Rattle.lister.specs.declared.shape.Shape.{Shape}

abbrev pub meant : Shape → Shape'
meant Shape.Constant = shows_constant
meant Shape.Function = shows_function
meant Shape.Jump = shows_jump
meant (Shape.Two b c) = shows_two b c

abbrev pub operand_text : List Constant → Option ℕ → Text
operand_text constants None = []
operand_text constants (Some n) = 32 ∷ constant_or (slice_get constants n)

abbrev pub operands_comment : List Constant → (first second : Option ℕ) → Text
operands_comment constants first second = constants_comment constants (option_to_list first ++ option_to_list second)
