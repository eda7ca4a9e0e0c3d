-- What small chunks get and set, computed.
use Rattle.std.proofs.Common.{◌≡◌, ℕ, List, [], ◌∷◌, None, refl, codes, pos, arith}
use Rattle.std.specs.Fmt.{digits as radix_digits}
use Rattle.std.specs.List.Sorted.{IsStrictlySortedBy}
use Rattle.proto.specs.Chunk.{Chunk, Functions, function, no_functions, and_function}
use Rattle.proto.specs.declared.parts.Constant.{Constant}
use Rattle.global_use.specs.Uses.{gets, sets, use_line, IsUseText}

with_code : (upvalues : ℕ) → List ℕ → List Constant → Functions → Chunk
with_code upvalues code constants inner =
    function (record { source = None; line_defined = 0; last_line = 0; upvalues = upvalues; params = 0; flags = 2; registers = 2; code = code; constants = constants; lines = []; locals = []; upvalue_names = [] }) inner

-- `print(3)`
printing : Chunk
printing = with_code 0 (5 ∷ 16449 ∷ 16793628 ∷ 8388638 ∷ []) (Constant.Text (codes "print") ∷ Constant.Number (pos 3) ∷ []) no_functions

printing_gets : gets printing (codes "print") ≡ 1
unfolding printing with_code
printing_gets = refl

printing_sets : sets printing (codes "print") ≡ 0
unfolding printing with_code
printing_sets = refl

printing_others : gets printing (codes "x") ≡ 0
unfolding printing with_code
printing_others = refl

printing_line : use_line (codes "print") 1 0 ≡ codes "\"print\" gets 1 sets 0\n"
unfolding radix_digits
printing_line = refl

-- `x=1 if nil then y() end print(x)`: LOADK 0 k1, SETGLOBAL 0 k0, JMP 2, GETGLOBAL 0 k2, CALL 0 1 1, GETGLOBAL 0 k3, GETGLOBAL 1 k0, CALL 0 2 1, RETURN 0 1
branching : Chunk
branching =
    with_code 0 (16385 ∷ 7 ∷ 2147500054 ∷ 32773 ∷ 8405020 ∷ 49157 ∷ 69 ∷ 16793628 ∷ 8388638 ∷ []) (Constant.Text (codes "x") ∷ Constant.Number (pos 1) ∷ Constant.Text (codes "y") ∷ Constant.Text (codes "print") ∷ []) no_functions

branching_x : gets branching (codes "x") ≡ 1
unfolding branching with_code
branching_x = refl

branching_sets_x : sets branching (codes "x") ≡ 1
unfolding branching with_code
branching_sets_x = refl

-- code that is never reached counts
branching_y : gets branching (codes "y") ≡ 1
unfolding branching with_code
branching_y = refl

-- a name of two functions, with a further word of a CLOSURE and a block number that would be GETGLOBAL 0 k0 as words of their own:
-- CLOSURE 0 f0 and the word 5, SETLIST 0 1 0 and the number 5, SETGLOBAL 0 k0; within GETGLOBAL 0 k1 and GETGLOBAL 0 k0
nested : Chunk
nested =
    with_code 0 (36 ∷ 5 ∷ 8388642 ∷ 5 ∷ 7 ∷ []) (Constant.Text (codes "x") ∷ []) (and_function (with_code 1 (16389 ∷ 5 ∷ []) (Constant.Nil ∷ Constant.Text (codes "x") ∷ []) no_functions) no_functions)

nested_gets : gets nested (codes "x") ≡ 1
unfolding nested with_code
nested_gets = refl

nested_sets : sets nested (codes "x") ≡ 1
unfolding nested with_code
nested_sets = refl

-- the empty source: RETURN 0 1
nothing : Chunk
nothing = with_code 0 (8388638 ∷ []) [] no_functions

nothing_text : IsUseText nothing []
unfolding nothing with_code IsStrictlySortedBy
nothing_text = record {
  names = [];
  are_used = record { ordered = tt; used = λ name. ((λ has. absurd (omega (arith, has.1))), (λ some. absurd (omega arith))) };
  lines = refl;
}
