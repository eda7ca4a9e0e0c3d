-- A stuck state of each kind.
use Rattle.std.proofs.Common.{◌≡◌, pos, [], ◌∷◌, None, refl}
use Rattle.proto.specs.declared.parts.Constant.{Constant}
use Rattle.proto.specs.Chunk.{Chunk, function, no_functions, and_function}
use Rattle.rules.specs.Run.{Stuck, ran, IsNotStuck}

-- the opcode is 38
abbrev with_opcode : Chunk
with_opcode = function (record { source = None; line_defined = 0; last_line = 0; upvalues = 0; params = 0; flags = 2; registers = 2; code = 38 ∷ 8388638 ∷ []; constants = []; lines = []; locals = []; upvalue_names = [] }) no_functions

opcode_stuck : ran with_opcode [] [] 1 ≡ Stuck
opcode_stuck = refl

-- a test is not followed by a JMP
abbrev with_test : Chunk
with_test = function (record { source = None; line_defined = 0; last_line = 0; upvalues = 0; params = 0; flags = 2; registers = 2; code = 26 ∷ 8388638 ∷ 8388638 ∷ []; constants = []; lines = []; locals = []; upvalue_names = [] }) no_functions

test_stuck : ran with_test [] [] 1 ≡ Stuck
test_stuck = refl

-- TFORLOOP is not followed by a JMP
abbrev with_tforloop : Chunk
with_tforloop = function (record { source = None; line_defined = 0; last_line = 0; upvalues = 0; params = 0; flags = 2; registers = 8; code = 16417 ∷ 8388638 ∷ []; constants = []; lines = []; locals = []; upvalue_names = [] }) no_functions

tforloop_stuck : ran with_tforloop [] [] 1 ≡ Stuck
tforloop_stuck = refl

-- a word after CLOSURE is neither MOVE nor GETUPVAL
abbrev with_capture : Chunk
with_capture = function (record { source = None; line_defined = 0; last_line = 0; upvalues = 0; params = 0; flags = 2; registers = 2; code = 36 ∷ 8388638 ∷ 8388638 ∷ []; constants = []; lines = []; locals = []; upvalue_names = [] }) (and_function (function (record { source = None; line_defined = 0; last_line = 0; upvalues = 1; params = 0; flags = 0; registers = 2; code = 8388638 ∷ []; constants = []; lines = []; locals = []; upvalue_names = [] }) no_functions) no_functions)

capture_stuck : ran with_capture [] [] 1 ≡ Stuck
capture_stuck = refl

-- a word after CLOSURE is missing
abbrev with_missing : Chunk
with_missing = function (record { source = None; line_defined = 0; last_line = 0; upvalues = 0; params = 0; flags = 2; registers = 2; code = 36 ∷ []; constants = []; lines = []; locals = []; upvalue_names = [] }) (and_function (function (record { source = None; line_defined = 0; last_line = 0; upvalues = 1; params = 0; flags = 0; registers = 2; code = 8388638 ∷ []; constants = []; lines = []; locals = []; upvalue_names = [] }) no_functions) no_functions)

missing_stuck : ran with_missing [] [] 1 ≡ Stuck
missing_stuck = refl

-- CONCAT's B is not below its C
abbrev with_concat : Chunk
with_concat = function (record { source = None; line_defined = 0; last_line = 0; upvalues = 0; params = 0; flags = 2; registers = 2; code = 8405013 ∷ 8388638 ∷ []; constants = []; lines = []; locals = []; upvalue_names = [] }) no_functions

concat_stuck : ran with_concat [] [] 1 ≡ Stuck
concat_stuck = refl

-- a register is out of range
abbrev with_register : Chunk
with_register = function (record { source = None; line_defined = 0; last_line = 0; upvalues = 0; params = 0; flags = 2; registers = 2; code = 16777216 ∷ 8388638 ∷ []; constants = []; lines = []; locals = []; upvalue_names = [] }) no_functions

register_stuck : ran with_register [] [] 1 ≡ Stuck
register_stuck = refl

-- a constant is out of range
abbrev with_constant : Chunk
with_constant = function (record { source = None; line_defined = 0; last_line = 0; upvalues = 0; params = 0; flags = 2; registers = 2; code = 1 ∷ 8388638 ∷ []; constants = []; lines = []; locals = []; upvalue_names = [] }) no_functions

constant_stuck : ran with_constant [] [] 1 ≡ Stuck
constant_stuck = refl

-- a function is out of range
abbrev with_function : Chunk
with_function = function (record { source = None; line_defined = 0; last_line = 0; upvalues = 0; params = 0; flags = 2; registers = 2; code = 36 ∷ 8388638 ∷ []; constants = []; lines = []; locals = []; upvalue_names = [] }) no_functions

function_stuck : ran with_function [] [] 1 ≡ Stuck
function_stuck = refl

-- an upvalue is out of range
abbrev with_upvalue : Chunk
with_upvalue = function (record { source = None; line_defined = 0; last_line = 0; upvalues = 0; params = 0; flags = 2; registers = 2; code = 4 ∷ 8388638 ∷ []; constants = []; lines = []; locals = []; upvalue_names = [] }) no_functions

upvalue_stuck : ran with_upvalue [] [] 1 ≡ Stuck
upvalue_stuck = refl

-- the pc is out of range
abbrev with_pc : Chunk
with_pc = function (record { source = None; line_defined = 0; last_line = 0; upvalues = 0; params = 0; flags = 2; registers = 2; code = 2147549206 ∷ 8388638 ∷ []; constants = []; lines = []; locals = []; upvalue_names = [] }) no_functions

pc_stuck : ran with_pc [] [] 2 ≡ Stuck
pc_stuck = refl

pc_goes : IsNotStuck (ran with_pc [] [] 1)
pc_goes = tt

-- the pc falls off
abbrev with_end : Chunk
with_end = function (record { source = None; line_defined = 0; last_line = 0; upvalues = 0; params = 0; flags = 2; registers = 2; code = 3 ∷ []; constants = []; lines = []; locals = []; upvalue_names = [] }) no_functions

end_stuck : ran with_end [] [] 2 ≡ Stuck
end_stuck = refl

end_goes : IsNotStuck (ran with_end [] [] 1)
end_goes = tt

-- a global's name is no string
abbrev with_name : Chunk
with_name = function (record { source = None; line_defined = 0; last_line = 0; upvalues = 0; params = 0; flags = 2; registers = 2; code = 5 ∷ 8388638 ∷ []; constants = Constant.Number (pos 1) ∷ []; lines = []; locals = []; upvalue_names = [] }) no_functions

name_stuck : ran with_name [] [] 1 ≡ Stuck
name_stuck = refl

-- a further word is reached
abbrev with_further : Chunk
with_further = function (record { source = None; line_defined = 0; last_line = 0; upvalues = 0; params = 0; flags = 2; registers = 2; code = 2147483670 ∷ 36 ∷ 0 ∷ 8388638 ∷ []; constants = []; lines = []; locals = []; upvalue_names = [] }) (and_function (function (record { source = None; line_defined = 0; last_line = 0; upvalues = 1; params = 0; flags = 0; registers = 2; code = 8388638 ∷ []; constants = []; lines = []; locals = []; upvalue_names = [] }) no_functions) no_functions)

further_stuck : ran with_further [] [] 2 ≡ Stuck
further_stuck = refl

further_goes : IsNotStuck (ran with_further [] [] 1)
further_goes = tt

-- open results are wanted and absent
abbrev with_absent : Chunk
with_absent = function (record { source = None; line_defined = 0; last_line = 0; upvalues = 0; params = 0; flags = 2; registers = 2; code = 30 ∷ []; constants = []; lines = []; locals = []; upvalue_names = [] }) no_functions

absent_stuck : ran with_absent [] [] 1 ≡ Stuck
absent_stuck = refl

-- FORLOOP's registers are no numbers
abbrev with_numbers : Chunk
with_numbers = function (record { source = None; line_defined = 0; last_line = 0; upvalues = 0; params = 0; flags = 2; registers = 4; code = 2147450911 ∷ 8388638 ∷ []; constants = []; lines = []; locals = []; upvalue_names = [] }) no_functions

numbers_stuck : ran with_numbers [] [] 1 ≡ Stuck
numbers_stuck = refl
