-- Serves the laws. Chunks that the verifier refuses, at least one for each rule.
use Rattle.std.specs.Prelude.{ℕ, pos, negsuc, List, [], ◌∷◌, None}
use Rattle.opcode.specs.declared.op.Op.{Op}
use Rattle.opcode.specs.Word.{abc, abx, asbx}
use Rattle.proto.specs.declared.parts.Constant.{Constant}
use Rattle.proto.specs.Chunk.{Chunk, function, Functions, no_functions, and_function}

abbrev pub plain_function : (upvalues params flags registers : ℕ) → List ℕ → List Constant → Functions → Chunk
plain_function upvalues params flags registers code constants inner =
    function (record { source = None; line_defined = 0; last_line = 0; upvalues = upvalues; params = params; flags = flags; registers = registers; code = code; constants = constants; lines = []; locals = []; upvalue_names = [] }) inner

abbrev pub main_function : (registers : ℕ) → List ℕ → List Constant → Functions → Chunk
main_function registers code constants inner = plain_function 0 0 2 registers code constants inner

abbrev pub ret : ℕ
ret = abc Op.Return 0 1 0

-- a function with one upvalue, which only returns
abbrev pub one_upvalue : Functions
one_upvalue = and_function (plain_function 1 0 0 2 (ret ∷ []) [] no_functions) no_functions

abbrev pub bad_word : Chunk
bad_word = main_function 2 (38 ∷ ret ∷ []) [] no_functions

abbrev pub bad_register : Chunk
bad_register = main_function 2 (abc Op.Move 2 0 0 ∷ ret ∷ []) [] no_functions

abbrev pub bad_constant : Chunk
bad_constant = main_function 2 (abx Op.LoadK 0 0 ∷ ret ∷ []) [] no_functions

abbrev pub bad_function : Chunk
bad_function = main_function 2 (abx Op.Closure 0 0 ∷ ret ∷ []) [] no_functions

abbrev pub bad_upvalue : Chunk
bad_upvalue = main_function 2 (abc Op.GetUpval 0 0 0 ∷ ret ∷ []) [] no_functions

abbrev pub bad_jump : Chunk
bad_jump = main_function 2 (asbx Op.Jmp 0 (pos 5) ∷ ret ∷ []) [] no_functions

abbrev pub bad_name : Chunk
bad_name = main_function 2 (abx Op.GetGlobal 0 0 ∷ ret ∷ []) (Constant.Number (pos 1) ∷ []) no_functions

abbrev pub no_open_results : Chunk
no_open_results = main_function 2 (abc Op.Return 0 0 0 ∷ []) [] no_functions

abbrev pub no_loop_numbers : Chunk
no_loop_numbers = main_function 4 (asbx Op.ForLoop 0 (negsuc 0) ∷ ret ∷ []) [] no_functions

abbrev pub bad_further_word : Chunk
bad_further_word = main_function 2 (abx Op.Closure 0 0 ∷ ret ∷ ret ∷ []) [] one_upvalue

abbrev pub no_jump : Chunk
no_jump = main_function 2 (abc Op.Test 0 0 0 ∷ ret ∷ ret ∷ []) [] no_functions

abbrev pub bad_shape : Chunk
bad_shape = main_function 251 (ret ∷ []) [] no_functions

abbrev pub falls_off : Chunk
falls_off = main_function 2 (abc Op.LoadNil 0 0 0 ∷ []) [] no_functions

-- the closure captures register 5, which the loop is to have
abbrev pub captured_loop : Chunk
captured_loop =
    main_function 9 (abx Op.Closure 0 0 ∷ abc Op.Move 0 5 0 ∷ abx Op.LoadK 5 0 ∷ abx Op.LoadK 6 0 ∷ abx Op.LoadK 7 0 ∷ asbx Op.ForPrep 5 (pos 0) ∷ asbx Op.ForLoop 5 (negsuc 0) ∷ ret ∷ []) (Constant.Number (pos 1) ∷ []) one_upvalue

-- the same, with a jump to the word after CLOSURE
abbrev pub jump_to_further : Chunk
jump_to_further =
    main_function 9 (abx Op.Closure 0 0 ∷ abc Op.Move 0 5 0 ∷ asbx Op.Jmp 0 (negsuc 1) ∷ abx Op.LoadK 6 0 ∷ abx Op.LoadK 7 0 ∷ asbx Op.ForPrep 5 (pos 0) ∷ asbx Op.ForLoop 5 (negsuc 0) ∷ ret ∷ []) (Constant.Number (pos 1) ∷ []) one_upvalue

-- flags that no compiler writes, and flags with a table of the extra arguments for which no register is left
abbrev pub bad_flags : Chunk
bad_flags = plain_function 0 0 5 2 (ret ∷ []) [] no_functions

abbrev pub no_room_for_arg : Chunk
no_room_for_arg = plain_function 0 1 7 1 (ret ∷ []) [] no_functions
