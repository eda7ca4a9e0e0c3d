-- By which names a function is read, and functions that are the same but for lines.
use Rattle.std.proofs.Common.{◌≡◌, ℕ, zero, suc, ◌<◌, false, List, [], ◌∷◌, length, Option, Some, None, refl, ap, ◌∙◌, arith}
use Rattle.std.specs.Prelude.{slice_get}
use Rattle.std.proofs.lemmas.Option.{same_Some}
use Rattle.lua_num.specs.Bytes.{Text}
use Rattle.lua_tree.specs.Outline.{Part, body_part, nothing}
use Rattle.proto.specs.Chunk.{Chunk, Functions, functions_of, function_at, function_count, each, each_of, SameButLines, no_lines, no_functions, and_function}
use Rattle.core_expr.specs.Places.{as_name}
use Rattle.core_expr.specs.Values.{Inner}
use Rattle.scheme_stands.specs.Words.{Names}

-- the names of its upvalues are those by which it is read
abbrev pub AreNamedBy : Names → (names : List Text) → Type 0
AreNamedBy n names = (text : Text) (slot : ℕ) → slice_get n.upvalues slot ≡ Some text → as_name (slice_get names slot) ≡ Some text

-- ---- functions that are the same but for lines

pub counted : (cs : List Chunk) → function_count (functions_of cs) ≡ length cs
counted [] = refl
counted (c ∷ cs) = ap suc (counted cs)

pub count_same : (functions others : Functions) → each_of no_lines functions ≡ each_of no_lines others → function_count functions ≡ function_count others
count_same no_functions no_functions same = refl
count_same no_functions (and_function c rest) same = cc
count_same (and_function c rest) no_functions same = cc
count_same (and_function c rest) (and_function d others) same = ap suc (count_same rest others cc)

pub within_count : (functions : Functions) (number : ℕ) (c : Chunk) → function_at functions number ≡ Some c → number < function_count functions
within_count no_functions number c is = cc
within_count (and_function first rest) zero c is = omega arith
within_count (and_function first rest) (suc number) c is = omega (arith, within_count rest number c is)

-- where one of them stands the other stands too
pub record StandsToo (functions : Functions) (number : ℕ) (d : Chunk) : Type 0 where
  pub c : Chunk
  pub is : function_at functions number ≡ Some c
  pub same : SameButLines c d

pub stands_too : (functions others : Functions) (number : ℕ) (d : Chunk) → each_of no_lines functions ≡ each_of no_lines others → function_at others number ≡ Some d → StandsToo functions number d
stands_too _ no_functions number d same is = cc
stands_too no_functions (and_function first rest) number d same is = cc
stands_too (and_function c others) (and_function first rest) zero d same is =
    let here : each no_lines c ≡ each no_lines first = cc in
    record { c = c; is = refl; same = here ∙ ap (each no_lines) (same_Some first d is) }
stands_too (and_function c others) (and_function first rest) (suc number) d same is =
    let there = stands_too others rest number d (cc) is in
    record { c = there.c; is = there.is; same = there.same }

-- ---- the functions in one

-- the part of the source that a function is that was found
abbrev pub part_found : Option Inner → Part
part_found None = nothing
part_found (Some found) = body_part false found.body
