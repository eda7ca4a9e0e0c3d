-- Serves a body. What is known behind the words of a function that are read, as plain data.
use Rattle.std.specs.Prelude.{◌==◌, ◌&&◌, ◌-◌, ◌^◌, ℕ, suc, ℤ, pos, negsuc, ◌+ℤ◌, Bool, true, false, nat_le, nat_lt, List, [], length, slice_get, slice_set, Option, None, Some, option_map, option_and_then, if◌then◌else◌}
use Rattle.lua_num.specs.Bytes.{Text}
use Rattle.lua_tree.specs.Names.{is_name}
use Rattle.opcode.specs.declared.op.Op.{Op}
use Rattle.opcode.specs.declared.word.Instr.{Instr}
use Rattle.opcode.specs.Reading.{instr_of}
use Rattle.proto.specs.Chunk.{Own, own, Functions, functions, function_at}
use Rattle.proto.specs.View.{view_proto}
use Rattle.proto.specs.declared.parts.Constant.{Constant}
use Rattle.core_expr.specs.Counting.{with_constant}
use Rattle.core_expr.specs.Places.{Place, place}
use Rattle.core_expr.specs.Values.{Value, local_value, OperandValue, constant_operand, value_operand, Inner, view_bodies}
use Rattle.recover_expr.specs.Entries.{Entries, entries_of, place_in, take_at}
use Rattle.recover_expr.specs.Locals.{Scope, view_locals, innermost, is_named}
use Rattle.recover_expr.specs.declared.function.Function as declared
use Rattle.recover_expr.specs.declared.function.Word as word
use Rattle.recover_expr.specs.declared.state.State.{State}

-- a function with those that stand directly in it, whether its forms of fewest levels are asked for, and the pc of its last word
pub record Function : Type 0 where
  pub of : Own
  pub inner : Functions
  pub short : Bool
  pub last : ℕ

abbrev pub view_function : declared.Function → Function
view_function f = record { of = own (view_proto f.proto.now); inner = functions (view_proto f.proto.now); short = f.short; last = f.last }

-- the functions that are left, the locals, the number of the step with the pc of its first word and the innermost local before it; how many locals are below the entries; how many constants the words
-- before the step have taken, and how many with the words of the step
pub record Situation : Type 0 where
  pub left : List (Option Inner)
  pub scope : Scope
  pub step : ℕ
  pub pc : ℕ
  pub inside : Option ℕ
  pub base : ℕ
  pub entries : Entries
  pub taken : ℕ
  pub seen : ℕ

abbrev pub view_state : State → Situation
view_state s = record {
  left = view_bodies s.bodies;
  scope = view_locals s.locals;
  step = s.step;
  pc = s.pc;
  inside = s.innermost;
  base = s.stack.base;
  entries = entries_of s.stack;
  taken = s.taken;
  seen = s.seen;
}

-- before the first word
abbrev pub at_first : List (Option Inner) → Situation
at_first left = record {
  left = left;
  scope = record { declared = []; active = [] };
  step = 0;
  pc = 0;
  inside = None;
  base = 0;
  entries = [];
  taken = 0;
  seen = 0;
}

-- the step of this number begins at a pc
abbrev pub begun : (step pc : ℕ) → Situation → Situation
begun step pc s = record s {
  step = step;
  pc = pc;
  inside = innermost s.scope;
  base = length s.scope.active;
  entries = [];
  taken = s.seen;
}

-- where a value of the step is written
abbrev pub place_in_step : Function → Situation → Place
place_in_step f s = place f.of s.scope.active f.short

abbrev pub with_left : List (Option Inner) → Situation → Situation
with_left left s = record s { left = left }

-- ---- words

abbrev pub instr_at : Function → (pc : ℕ) → Option Instr
instr_at f pc = option_and_then instr_of (slice_get f.of.code pc)

-- a RETURN with these fields
abbrev pub is_op_return : Op → Bool
is_op_return Op.Return = true
is_op_return op = false

abbrev pub is_return : (a b : ℕ) → Instr → Bool
is_return a b i = is_op_return i.op && ((i.a == a) && ((i.b == b) && (i.c == 0)))

-- ---- constants that words name

-- a constant of this number is taken, and so all before it
abbrev pub see_constant : (number : ℕ) → Situation → Situation
see_constant k s = record s { seen = with_constant s.seen k }

abbrev pub see_operand : (operand : ℕ) → Situation → Situation
see_operand o s = if nat_le 256 o then see_constant (o - 256) s else s

abbrev pub has_operands : Op → Bool
has_operands Op.SetTable = true
has_operands Op.Eq = true
has_operands Op.Lt = true
has_operands Op.Le = true
has_operands Op.Add = true
has_operands Op.Sub = true
has_operands Op.Mul = true
has_operands Op.Div = true
has_operands Op.Mod = true
has_operands Op.Pow = true
has_operands op = false

-- ---- values in registers

abbrev pub local_in : Function → Situation → (register : ℕ) → Option Value
local_in f s r = if is_named f.of.locals r s.scope then Some (local_value r) else None

abbrev pub with_entries : Situation → (Value × Entries) → Value × Situation
with_entries s p = (p.0, record s { entries = p.1 })

abbrev pub pop_at : Function → Situation → (register : ℕ) → Option ℕ → Option (Value × Situation)
pop_at f s r (Some place) = option_map (with_entries s) (take_at place s.entries)
pop_at f s r None = option_map (λ v. (v, s)) (local_in f s r)

-- the single value in a register: a local's, or that on top of the entries, which goes off them
abbrev pub pop : Function → (register : ℕ) → Situation → Option (Value × Situation)
pop f r s = pop_at f s r (place_in s.base r)

-- a constant that is there
abbrev pub constant_in : Function → (number : ℕ) → Option ℕ
constant_in f k = if nat_lt k (length f.of.constants) then Some k else None

-- a constant, or the single value in a register
abbrev pub pop_operand : Function → (operand : ℕ) → Situation → Option (OperandValue × Situation)
pop_operand f o s =
    if nat_le 256 o then option_map (λ k. (constant_operand k, s)) (constant_in f (o - 256))
    else option_map (λ p. (value_operand p.0, p.1)) (pop f o s)

-- the name of a global, by its number among the constants, and of an upvalue
abbrev pub good_constant : Constant → Bool
good_constant (Constant.Text name) = is_name name
good_constant c = false

abbrev pub is_good_name : Option Constant → Bool
is_good_name None = false
is_good_name (Some c) = good_constant c

abbrev pub is_good_text : Option Text → Bool
is_good_text None = false
is_good_text (Some name) = is_name name

abbrev pub global_in : Function → Instr → Option ℕ
global_in f i = if is_good_name (slice_get f.of.constants i.bx) then Some i.bx else None

abbrev pub upvalue_in : Function → Instr → Option ℕ
upvalue_in f i = if is_good_text (slice_get f.of.upvalue_names i.b) then Some i.b else None

-- how many upvalues a function in this one has
abbrev pub upvalues_in : Function → (number : ℕ) → Option ℕ
upvalues_in f number = option_map (λ inner. (own inner).upvalues) (function_at f.inner number)

-- ---- words with their pcs

abbrev pub next_pc : (pc : ℕ) → Instr → Option word.Word
next_pc pc i = if nat_lt (suc pc) (2 ^ 32) then Some (record { pc = pc; next = suc pc; instr = i }) else None

abbrev pub word_at : Function → (pc : ℕ) → Option word.Word
word_at f pc = option_and_then (next_pc pc) (instr_at f pc)

abbrev pub is_op_jump : Op → Bool
is_op_jump Op.Jmp = true
is_op_jump op = false

abbrev pub jump_at : Function → word.Word → Option word.Word
jump_at f jump = if nat_lt jump.pc f.last && is_op_jump jump.instr.op then Some jump else None

-- the JMP behind a word, where that is not the last
abbrev pub jump_behind : Function → word.Word → Option word.Word
jump_behind f w = option_and_then (jump_at f) (word_at f w.next)

abbrev pub within_last : Function → ℤ → Option ℕ
within_last f (pos n) = if nat_le n f.last then Some n else None
within_last f (negsuc n) = None

-- where a word jumps to, in the code
abbrev pub target : Function → word.Word → Option ℕ
target f w = within_last f (pos w.next +ℤ w.instr.sbx)

-- ---- what words of the step make known

abbrev pub see_as : Op → Instr → Situation → Situation
see_as Op.LoadK i s = see_constant i.bx s
see_as Op.GetGlobal i s = see_constant i.bx s
see_as Op.SetGlobal i s = see_constant i.bx s
see_as Op.GetTable i s = see_operand i.c s
see_as Op.Self_ i s = see_operand i.c s
see_as op i s = if has_operands op then see_operand i.c (see_operand i.b s) else s

-- the constants that a word of the step names are taken
abbrev pub see : Instr → Situation → Situation
see i s = see_as i.op i s

abbrev pub taken_body : (number : ℕ) → Situation → Option Inner → Option (Inner × Situation)
taken_body n s None = None
taken_body n s (Some inner) = Some (inner, record s { left = slice_set s.left n None })

abbrev pub body_at : (number : ℕ) → Situation → Option (Option Inner) → Option (Inner × Situation)
body_at n s None = None
body_at n s (Some inner) = taken_body n s inner

-- the body of a function of this one, which is used once
abbrev pub take_body : (number : ℕ) → Situation → Option (Inner × Situation)
take_body n s = body_at n s (slice_get s.left n)
