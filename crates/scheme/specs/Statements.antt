-- To be believed. The parts of the scheme for statements (manual 2.4), each by the parts of the expressions and blocks in it.
use Rattle.std.specs.Prelude.{ℕ, zero, suc, ◌+◌, ◌==◌, Bool, false, cond, ◌&&◌, ◌||◌, List, [], ◌∷◌, length, Option, Some, None, codes, pos, if◌then◌else◌}
use Rattle.std.specs.List.{list_any}
use Rattle.lua_num.specs.Bytes.{Text}
use Rattle.lua_tree.specs.Syntax.{field_expression}
use Rattle.lua_tree.specs.WellFormed.{is_call}
use Rattle.opcode.specs.declared.op.Op.{Op}
use Rattle.scheme.specs.Making.{◌>>=◌, ◌>>◌, Part, Asks, nothing, answer, read, put, new_label, place, jump_to, take_registers, used, free_from, constant, Where, in_register, in_upvalue, in_globals, declare, hidden, activate, starts_here, captured_from, end_locals, active_count, when}
use Rattle.scheme.specs.Expressions.{count_field, Coded, Target, name_target, part_target, next_reg, operand, rk, load, coded_name, coded_field, is_vararg}
use Rattle.scheme.specs.Lists.{open_list, list_count, adjust}
use Rattle.scheme.specs.Functions.{Inner, closure}
use Rattle.proto.specs.declared.parts.Constant.{Constant}
use Rattle.scheme.specs.declared.making.Piece.{Piece}
use Rattle.scheme.specs.declared.making.Local.{Local}

-- ---- blocks

-- the loop around: the label behind it, and the number of active locals before it
pub record Loop : Type 0 where
  pub exit : ℕ
  pub before : ℕ

abbrev pub close_from : (line register : ℕ) → Part
close_from line register = put line (Piece.Abc Op.Close register 0 0)

-- the locals from the n-th on end, with a CLOSE where one of them is captured
abbrev pub end_block : (line n : ℕ) → Part
end_block line n = do
  captured ← read (captured_from n)
  end_locals n
  when captured (close_from line n)
  free_from n

abbrev pub block_part : (line : ℕ) → Part → Part
block_part line statements = do
  n ← read active_count
  statements
  end_block line n

-- F is the number of active locals again
abbrev pub settle : Part
settle m = free_from (active_count m) m

-- ---- declarations

abbrev pub local_part : (line : ℕ) → List Text → List Coded → Part
local_part line names values = do
  locals ← declare names
  adjust line values (length names)
  activate locals

abbrev pub local_function_part : (line : ℕ) → Text → Inner → Part
local_function_part line text inner = do
  locals ← declare (text ∷ [])
  register ← read (λ m. m.free)
  listed ← read (λ m. length m.locals)
  take_registers 1
  activate locals
  closure line inner register
  starts_here listed

-- ---- assignments

abbrev pub set_where : (line register : ℕ) → Text → Where → Part
set_where line r text (in_register x) = put line (Piece.Abc Op.Move x r 0)
set_where line r text (in_upvalue slot) = put line (Piece.Abc Op.SetUpval r slot 0)
set_where line r text in_globals = do
  k ← constant (Constant.Text text)
  put line (Piece.Abx Op.SetGlobal r k)

abbrev pub store_register : (line : ℕ) → Target → (register : ℕ) → Part
store_register line (name_target text w) r = set_where line r text w
store_register line (part_target on key on_local key_local) r = put line (Piece.Abc Op.SetTable on key r)

abbrev pub store_operand : (line : ℕ) → Text → Where → Coded → Part
store_operand line text w c = do
  r ← operand c
  set_where line r text w

abbrev pub store : (line : ℕ) → Target → Coded → Part
store line (name_target text (in_register x)) c = c.to_reg x
store line (name_target text w) c = store_operand line text w c
store line (part_target on key on_local key_local) c = do
  v ← rk c
  put line (Piece.Abc Op.SetTable on key v)

abbrev pub all_targets : List Coded → Asks (List Target)
all_targets [] m = record { value = []; after = m }
all_targets (c ∷ cs) m =
    let target = c.target m in
    let targets = all_targets cs target.after in
    record { value = target.value ∷ targets.value; after = targets.after }

-- a local is the table or the key of a target
abbrev pub is_part_of : (register : ℕ) → Target → Bool
is_part_of x (name_target text w) = false
is_part_of x (part_target on key on_local key_local) = (on_local && (on == x)) || (key_local && (key == x))

abbrev pub is_target : (register : ℕ) → Target → Bool
is_target x (name_target text (in_register y)) = x == y
is_target x target = false

abbrev pub is_among : (register : ℕ) → List Target → Bool
is_among x targets = list_any (is_target x) targets

-- a local is the table or the key of a target, and is itself a target further right
abbrev pub clashes : (register : ℕ) → List Target → Bool
clashes x [] = false
clashes x (target ∷ targets) = (is_part_of x target && is_among x targets) || clashes x targets

abbrev pub renamed : (register copy : ℕ) → Target → Target
renamed x copy (name_target text w) = name_target text w
renamed x copy (part_target on key on_local key_local) =
    part_target (cond (on_local && (on == x)) copy on) (cond (key_local && (key == x)) copy key) on_local key_local

-- the targets left of the local's last place as a target use its copy
abbrev pub with_copy : (register copy : ℕ) → List Target → List Target
with_copy x copy [] = []
with_copy x copy (target ∷ targets) = cond (is_among x targets) (renamed x copy target) target ∷ with_copy x copy targets

abbrev pub copied : (line register : ℕ) → List Target → Asks (List Target)
copied line x targets m = record { value = with_copy x m.free targets; after = put line (Piece.Abc Op.Move m.free x 0) (take_registers 1 m) }

-- of the locals in so many registers, in order, those that clash are copied
abbrev pub copies : (line count : ℕ) → List Target → Asks (List Target)
copies line zero targets m = record { value = targets; after = m }
copies line (suc x) targets m =
    let before = copies line x targets m in
    cond (clashes x targets) (copied line x before.value) (answer before.value) before.after

-- as many expressions as targets: all but the last are stored from their registers, from right to left
abbrev pub each_stored : (line : ℕ) → List Target → List Coded → Part
each_stored line (target ∷ []) (c ∷ cs) m = store line target c m
each_stored line (target ∷ other ∷ targets) (c ∷ cs) m =
    store_register line target m.free (each_stored line (other ∷ targets) cs (next_reg c m))
each_stored line targets cs m = m

-- all targets from the registers from one on, from right to left
abbrev pub stored_from : (line register : ℕ) → List Target → Part
stored_from line r [] m = m
stored_from line r (target ∷ targets) m = store_register line target r (stored_from line (suc r) targets m)

abbrev pub assign_adjusted : (line : ℕ) → List Target → List Coded → Part
assign_adjusted line targets values = do
  base ← read (λ m. m.free)
  adjust line values (length targets)
  stored_from line base targets

abbrev pub assign_part : (line : ℕ) → (targets values : List Coded) → Part
assign_part line targets values = do
  parts ← all_targets targets
  count ← read active_count
  places ← copies line count parts
  cond (length values == length targets) (each_stored line places values) (assign_adjusted line places values)

-- the path of a function statement: a name, and fields
abbrev pub with_fields : (line : ℕ) → Coded → List Text → Coded
with_fields line on [] = on
with_fields line on (text ∷ texts) = with_fields line (coded_field line (field_expression line on.e text) on text) texts

abbrev pub path_from : (line : ℕ) → List Text → Coded
path_from line [] = coded_name line []
path_from line (text ∷ texts) = with_fields line (coded_name line text) texts

abbrev pub with_method : (line : ℕ) → Coded → Option Text → Coded
with_method line on None = on
with_method line on (Some text) = coded_field line (field_expression line on.e text) on text

-- ---- loops and branches

abbrev pub while_part : (line : ℕ) → Coded → (Option Loop → Part) → Part
while_part line test body = do
  exit ← new_label
  start ← new_label
  n ← read active_count
  place start
  test.jump_if false exit
  block_part line (body (Some (record { exit = exit; before = n })))
  jump_to line start
  place exit

abbrev pub repeat_plain : (start n : ℕ) → Coded → Part
repeat_plain start n test = do
  test.jump_if false start
  end_locals n

abbrev pub repeat_captured : (line start exit n : ℕ) → Coded → Part
repeat_captured line start exit n test = do
  again ← new_label
  test.jump_if false again
  close_from line n
  jump_to line exit
  place again
  end_locals n
  close_from line n
  jump_to line start

abbrev pub repeat_part : (line : ℕ) → (Option Loop → Part) → Coded → Part
repeat_part line body test = do
  exit ← new_label
  start ← new_label
  n ← read active_count
  place start
  body (Some (record { exit = exit; before = n }))
  captured ← read (captured_from n)
  cond captured (repeat_captured line start exit n test) (repeat_plain start n test)
  place exit

-- an arm; where something follows, it jumps to the end
abbrev pub arm_part : (line end : ℕ) → (more : Bool) → Coded → (block : Part) → Part
arm_part line end more test block = do
  next ← new_label
  test.jump_if false next
  block_part line block
  when more (jump_to line end)
  place next

-- the hidden locals of a loop, which are the first at its base
abbrev pub numeric_names : List Local
numeric_names = hidden (codes "(for index)") ∷ hidden (codes "(for limit)") ∷ hidden (codes "(for step)") ∷ []

abbrev pub generic_names : List Local
generic_names = hidden (codes "(for generator)") ∷ hidden (codes "(for state)") ∷ hidden (codes "(for control)") ∷ []

-- the variables of a loop, which are at base + 3, and its block
abbrev pub turn : (line base : ℕ) → List Local → Part → Part
turn line base variables block = do
  activate variables
  take_registers (length variables)
  block_part line block
  end_block line (base + 3)

abbrev pub step_part : (line : ℕ) → Option Coded → Part
step_part line None m = take_registers 1 (load line m.free (Constant.Number (pos 1)) m)
step_part line (Some c) m = next_reg c m

abbrev pub numeric_part : (line : ℕ) → Text → (first last : Coded) → Option Coded → (Option Loop → Part) → Part
numeric_part line text first last step body = do
  variables ← declare (text ∷ [])
  n ← read active_count
  base ← read (λ m. m.free)
  next_reg first
  next_reg last
  step_part line step
  activate numeric_names
  begin ← new_label
  end ← new_label
  exit ← new_label
  put line (Piece.Jump Op.ForPrep base end)
  place begin
  turn line base variables (body (Some (record { exit = exit; before = n })))
  place end
  put line (Piece.Jump Op.ForLoop base begin)
  place exit
  end_locals n

abbrev pub generic_part : (line : ℕ) → List Text → List Coded → (Option Loop → Part) → Part
generic_part line names values body = do
  variables ← declare names
  n ← read active_count
  base ← read (λ m. m.free)
  adjust line values 3
  activate generic_names
  begin ← new_label
  end ← new_label
  exit ← new_label
  jump_to line end
  place begin
  used (base + 6)
  turn line base variables (body (Some (record { exit = exit; before = n })))
  place end
  put line (Piece.Abc Op.TForLoop base 0 (length names))
  jump_to line begin
  place exit
  end_locals n

abbrev pub break_part : (line : ℕ) → Option Loop → Part
break_part line None = nothing
break_part line (Some loop) = do
  captured ← read (captured_from loop.before)
  when captured (close_from line loop.before)
  jump_to line loop.exit

-- ---- return

abbrev pub return_operand : (line : ℕ) → Coded → Part
return_operand line c = do
  x ← operand c
  put line (Piece.Abc Op.Return x 2 0)

abbrev pub return_call : (line : ℕ) → Coded → Part
return_call line c = do
  base ← read (λ m. m.free)
  c.multi Op.TailCall None
  put line (Piece.Abc Op.Return base 0 0)

abbrev pub return_list : (line : ℕ) → List Coded → Part
return_list line values = do
  base ← read (λ m. m.free)
  open_list values
  put line (Piece.Abc Op.Return base (count_field 1 (list_count values)) 0)

abbrev pub return_one : (line : ℕ) → Coded → Part
return_one line c = if is_call c.e then return_call line c else (if is_vararg c.e then return_list line (c ∷ []) else return_operand line c)

abbrev pub return_part : (line : ℕ) → List Coded → Part
return_part line [] = put line (Piece.Abc Op.Return 0 1 0)
return_part line (c ∷ []) = return_one line c
return_part line (c ∷ d ∷ cs) = return_list line (c ∷ d ∷ cs)
