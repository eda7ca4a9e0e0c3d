-- Chunks that are the same but for lines have as many upvalues and lines; and as many locals are declared and active as there are names.
use Rattle.std.proofs.Common.{◌≡◌, ℕ, zero, suc, ◌+◌, true, false, Bool, List, [], ◌∷◌, ◌++◌, length, Option, Some, refl, sym, ap, ◌∙◌, arith}
use Rattle.std.specs.Prelude.{◌==◌, not, option_map}
use Rattle.lua_num.specs.Bytes.{Text}
use Rattle.proto.specs.Chunk.{Chunk, function, Functions, functions, no_functions, and_function, each_of, SameButLines, no_lines, own, function_at}
use Rattle.scheme.specs.Functions.{lines_of, vararg_flags, words_from}
use Rattle.scheme.specs.Making.{Ahead}
use Rattle.scheme.specs.declared.making.Active.{Active}
use Rattle.scheme.specs.declared.making.Item.{Item}
use Rattle.scheme.specs.declared.making.Local.{Local}
use Rattle.scheme_stands.proofs.Growth.{length_end}
use Rattle.scheme_stands.specs.Functions.{Activated, Declared}

-- ---- chunks that are the same but for lines

pub own_of_same : (c d : Chunk) → SameButLines c d → no_lines (own c) ≡ no_lines (own d)
own_of_same (function f inner) (function g others) same = ap own same

-- how many upvalues a function of these has
abbrev upvalues_of : Functions → (number : ℕ) → Option ℕ
upvalues_of inner number = option_map (λ c. (own c).upvalues) (function_at inner number)

without_lines : (inner : Functions) (number : ℕ) → upvalues_of (each_of no_lines inner) number ≡ upvalues_of inner number
without_lines no_functions number = refl
without_lines (and_function (function f inner) rest) zero = refl
without_lines (and_function (function f inner) rest) (suc number) = without_lines rest number

pub inner_same : (c d : Chunk) → SameButLines c d → each_of no_lines (functions c) ≡ each_of no_lines (functions d)
inner_same (function f inner) (function g others) same = ap functions same

pub as_many_upvalues : (c d : Chunk) → SameButLines c d → (number : ℕ) (inner : Chunk) → function_at (functions d) number ≡ Some inner → upvalues_of (functions c) number ≡ Some (own inner).upvalues
as_many_upvalues c d same number inner is =
    sym (without_lines (functions c) number)
    ∙ ap (λ functions. upvalues_of functions number) (inner_same c d same)
    ∙ without_lines (functions d) number
    ∙ ap (option_map (λ c. (own c).upvalues)) is

pub as_many_lines : (labels : List ℕ) (pc : ℕ) (items : List Item) → length (lines_of items) ≡ length (words_from labels pc items)
as_many_lines labels pc [] = refl
as_many_lines labels pc (item ∷ items) = ap suc (as_many_lines labels (suc pc) items)

-- ---- parameters

pub declared_count : (texts : List Text) (before behind : Ahead) (locals : List Local) → Declared texts before locals behind → length locals ≡ length texts
declared_count [] before behind locals declared = ap length declared.0
declared_count (text ∷ texts) before behind locals declared = ap length declared.1 ∙ ap suc (declared_count texts _ behind declared.0 declared.2)

pub activated_count : (locals : List Local) (active after : List Active) → Activated locals active after → length after ≡ length active + length locals
activated_count [] active after activated = omega (arith, ap length activated)
activated_count (one ∷ locals) active after activated = omega (arith, activated_count locals (active ++ activated.0 ∷ []) after activated.2, length_end active activated.0)

pub takes_further : (vararg : Bool) → not (vararg_flags vararg == 0) ≡ vararg
takes_further true = refl
takes_further false = refl
