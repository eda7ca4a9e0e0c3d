-- Serves a body: the parts of a function's listing, in order.
use Rattle.std.specs.Prelude.{ℕ, List, [], ◌∷◌, ◌++◌, false, length, Option, None, codes}
use Rattle.lua_num.specs.Bytes.{Text}
use Rattle.proto.specs.Chunk.{Own}
use Rattle.proto.specs.declared.parts.Constant.{Constant}
use Rattle.lister.specs.Listing.{line, digits, spaced, source_text, counted_line, code_lines, numbered}

unfoldable pub name_line : Text → Text
name_line name = line (codes "function " ++ name)

unfoldable pub source_line : Option Text → Text
source_line source = line (codes "source " ++ source_text source)

unfoldable pub numbers_line : Text → List ℕ → Text
numbers_line what numbers = line (what ++ spaced numbers)

abbrev pub shape_of : Own → List ℕ
shape_of f = f.upvalues ∷ f.params ∷ f.flags ∷ f.registers ∷ []

unfoldable pub count_line : Text → ℕ → Text
count_line what n = counted_line what n

-- what the lines of code are made of beside the words
abbrev pub with_lists : (lines : List ℕ) → List Constant → Own
with_lists lines constants = record { source = None; line_defined = 0; last_line = 0; upvalues = 0; params = 0; flags = 0; registers = 0; code = []; constants = constants; lines = lines; locals = []; upvalue_names = [] }

unfoldable pub code_part : (code lines : List ℕ) → List Constant → Text
code_part code lines constants = counted_line (codes "code") (length code) ++ code_lines (with_lists lines constants) false 0 code

unfoldable pub lines_line : List ℕ → Text
lines_line lines = line (codes "lines " ++ (digits (length lines) ++ (58 ∷ spaced lines)))

-- how many items there are, and a line for each
unfoldable pub list_part : {A : Type 0} → (A → Text) → Text → List A → Text
list_part text what items = counted_line what (length items) ++ numbered text 0 items
