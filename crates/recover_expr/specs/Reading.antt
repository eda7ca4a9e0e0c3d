-- Serves a body. The steps that the words of a function are read as.
use Rattle.std.specs.Prelude.{◌≡◌, ◌==◌, ◌&&◌, ◌+◌, ◌-◌, ◌^◌, not, ℕ, zero, suc, Bool, true, false, nat_le, nat_lt, List, [], ◌∷◌, ◌++◌, length, slice_get, Option, None, Some, is_some, option_map, option_and_then, if◌then◌else◌}
use Rattle.lua_num.specs.Bytes.{Text}
use Rattle.opcode.specs.declared.op.Op.{Op}
use Rattle.opcode.specs.Reading.{instr_of}
use Rattle.proto.specs.Chunk.{Chunk, Own, own, functions}
use Rattle.core_expr.specs.Values.{Value, bool_value, upvalue_value, global_value, Inner}
use Rattle.recover_expr.specs.Assigning.{assignment_from, value_assignment}
use Rattle.recover_expr.specs.Closures.{closure}
use Rattle.recover_expr.specs.Constructors.{new_table, item, set_list}
use Rattle.recover_expr.specs.Declaring.{declaration}
use Rattle.recover_expr.specs.Drafts.{Did, makes, goes, ends, Drafted, drafted, view_draft, nothing_part}
use Rattle.recover_expr.specs.Entries.{value_entry, place_in}
use Rattle.recover_expr.specs.Items.{is_item, is_so}
use Rattle.recover_expr.specs.Locals.{Scope, all_end, declare, declaring_step, leave, names_from, starting}
use Rattle.recover_expr.specs.Placing.{Steps, placed}
use Rattle.recover_expr.specs.Situation.{Function, Situation, at_first, begun, global_in, is_return, jump_behind, local_in, see, target, upvalue_in, word_at}
use Rattle.recover_expr.specs.Testing.{test}
use Rattle.recover_expr.specs.Words.{Done, as_end, with_register, load_constant, load_nil, get_table, method, call, vararg, returned, tail_call, operator}
use Rattle.recover_expr.specs.declared.draft.DraftKind.{DraftKind}
use Rattle.recover_expr.specs.declared.function.Word.{Word}
use Rattle.recover_expr.specs.declared.words.Turn as declared

-- ---- words of their own: a jump, a CLOSE, or the foot of a loop

abbrev pub lone : (next : ℕ) → Situation → DraftKind → Drafted
lone next s kind = drafted kind next 1 nothing_part s

abbrev pub generic_foot : Function → Situation → (jump : Word) → Option Drafted
generic_foot f s jump = option_map (λ to. lone jump.next s (DraftKind.Foot false to)) (target f jump)

abbrev pub lone_as : Op → Function → Word → Situation → Option Drafted
lone_as Op.Close f w s = Some (lone w.next s (DraftKind.Close w.instr.a (declaring_step w.instr.a s.scope)))
lone_as Op.TForLoop f w s = option_and_then (generic_foot f s) (jump_behind f w)
lone_as Op.ForLoop f w s = option_map (λ to. lone w.next s (DraftKind.Foot true to)) (target f w)
lone_as op f w s = option_map (λ to. lone w.next s (DraftKind.Jump to)) (target f w)

-- it is the first of its step
abbrev pub lone_word : Function → Word → Situation → Option Drafted
lone_word f w s = if (s.pc == w.pc) && (length s.entries == 0) then lone_as w.instr.op f w s else None

abbrev pub lone_step : Function → Word → Situation → Done
lone_step f w s = option_map (λ draft. (ends draft, s)) (lone_word f w s)

-- ---- words

abbrev pub made : Word → Situation → Value → Did × Situation
made w s v = (makes v w.next, s)

abbrev pub plain_as : Op → Function → Word → Situation → Done
plain_as Op.Move f w s = option_map (made w s) (local_in f s w.instr.b)
plain_as Op.LoadK f w s = load_constant f w s
plain_as Op.LoadBool f w s = Some (made w s (bool_value (not (w.instr.b == 0))))
plain_as Op.LoadNil f w s = load_nil w s
plain_as Op.GetTable f w s = get_table f w s
plain_as Op.NewTable f w s = new_table w s
plain_as Op.SetTable f w s = item f w s
plain_as Op.SetList f w s = set_list f w s
plain_as Op.Self_ f w s = method f w s
plain_as Op.Call f w s = call f w s
plain_as Op.Vararg f w s = vararg w s
plain_as Op.Closure f w s = closure f w s
plain_as Op.Return f w s = option_map as_end (returned f w s)
plain_as Op.TailCall f w s = option_map as_end (tail_call f w s)
plain_as Op.Jmp f w s = lone_step f w s
plain_as Op.Close f w s = lone_step f w s
plain_as Op.ForLoop f w s = lone_step f w s
plain_as Op.TForLoop f w s = lone_step f w s
plain_as op f w s = operator f w s

-- a word that has no fault of its own
abbrev pub plain_word : Function → Word → Situation → Done
plain_word f w s = plain_as w.instr.op f w s

abbrev pub stores_as : Op → Function → Word → Situation → Bool
stores_as Op.Move f w s = is_some (place_in s.base w.instr.b)
stores_as Op.SetGlobal f w s = true
stores_as Op.SetUpval f w s = true
stores_as Op.SetTable f w s = not (is_item f w s)
stores_as op f w s = false

-- a word stores a register or an operand
abbrev pub is_store : Function → Word → Situation → Bool
is_store f w s = stores_as w.instr.op f w s

abbrev pub value_as : Op → Function → Word → Situation → Done
value_as Op.GetGlobal f w s = option_map (λ name. made w s (global_value name)) (global_in f w.instr)
value_as Op.GetUpval f w s = option_map (λ upvalue. made w s (upvalue_value upvalue)) (upvalue_in f w.instr)
value_as Op.LoadBool f w s = if w.instr.c == 0 then plain_word f w s else None
value_as Op.TestSet f w s = None
value_as Op.Eq f w s = option_map as_end (test f w s)
value_as Op.Lt f w s = option_map as_end (test f w s)
value_as Op.Le f w s = option_map as_end (test f w s)
value_as Op.Test f w s = option_map as_end (test f w s)
value_as op f w s = plain_word f w s

-- what a word does
abbrev pub read_word : Function → Word → Situation → Done
read_word f w s = if is_store f w s then option_map as_end (assignment_from f w s) else value_as w.instr.op f w s

-- ---- steps

-- what a word comes to: the pc of the next one, or the step
pub data Turn : Type 0 where
  on : (next : ℕ) → Turn
  over : Drafted → Turn

abbrev pub view_turn : declared.Turn → Turn
view_turn (declared.Turn.Next next) = on next
view_turn (declared.Turn.Step draft) = over (view_draft draft)

abbrev pub as_over : (Drafted × Situation) → Turn × Situation
as_over p = (over p.0, p.1)

-- a value goes to the next free register, or straight into a local
abbrev pub value_to : Function → Word → Value → (next : ℕ) → Situation → Option ℕ → Option (Turn × Situation)
value_to f w v next s None = option_map as_over (value_assignment f w v next s)
value_to f w v next s (Some place) = option_map (λ behind. (on next, behind)) (with_register w.instr.a (value_entry v) s)

abbrev pub turned : Function → Word → Situation → Did → Option (Turn × Situation)
turned f w s (goes next) = Some (on next, s)
turned f w s (ends draft) = Some (over draft, s)
turned f w s (makes v next) = value_to f w v next s (place_in s.base w.instr.a)

abbrev pub turn_of : Function → Situation → Word → Option (Turn × Situation)
turn_of f s w = option_and_then (λ p. turned f w p.1 p.0) (read_word f w (see w.instr s))

abbrev pub turn_at : Function → (pc : ℕ) → Situation → Option (Turn × Situation)
turn_at f pc s =
    if nat_lt 0 (starting f.of.locals pc s.scope) then option_map as_over (declaration f pc (starting f.of.locals pc s.scope) s)
    else if nat_le f.last pc then None
    else option_and_then (turn_of f s) (word_at f pc)

abbrev pub go_on : ((pc : ℕ) → Situation → Option (Drafted × Situation)) → Turn → Situation → Option (Drafted × Situation)
go_on rest (on next) s = rest next s
go_on rest (over draft) s = Some (draft, s)

-- the step that so many words at most make, from a pc on
abbrev pub words_from : Function → (count pc : ℕ) → Situation → Option (Drafted × Situation)
words_from f zero pc s = None
words_from f (suc count) pc s = option_and_then (λ p. go_on (words_from f count) p.0 p.1) (turn_at f pc s)

-- the step that begins at the pc of the situation
abbrev pub read_step : Function → Situation → Option (Drafted × Situation)
read_step f s = if starting f.of.locals s.pc s.scope == 0 then words_from f (suc (f.last - s.pc)) s.pc s else None

-- ---- a function

abbrev pub params_declared : Function → Situation → Scope → Option (List Text × Situation)
params_declared f s scope =
    if all_end f.of.locals f.of.params f.last then option_map (λ names. (names, record s { scope = scope })) (names_from f.of.locals 0 f.of.params)
    else None

-- the parameters are declared
abbrev pub read_params : Function → Situation → Option (List Text × Situation)
read_params f s =
    if starting f.of.locals 0 s.scope == f.of.params then option_and_then (params_declared f s) (declare f.of.locals f.of.params 0 None s.scope)
    else None

abbrev pub left_at : Function → (pc : ℕ) → Situation → Situation
left_at f pc s = record s { scope = leave f.of.locals pc s.scope }

-- what is read so far, the pc behind it, and what is known there
abbrev pub ReadSoFar : Type 0
ReadSoFar = List Drafted × ℕ × Situation

abbrev pub and_draft : Function → List Drafted → (Drafted × Situation) → ReadSoFar
and_draft f drafts step = (drafts ++ step.0 ∷ [], step.0.next, left_at f step.0.next step.1)

-- the step of this number, which begins at a pc, where there is a number for its registers
abbrev pub step_at : Function → (number pc : ℕ) → Situation → Option (Drafted × Situation)
step_at f number pc s = if nat_lt (length s.scope.active) (2 ^ 32) then read_step f (begun number pc s) else None

-- at most so many steps more, up to the last word
abbrev pub drafts_from : Function → (count : ℕ) → ReadSoFar → Option ReadSoFar
drafts_from f zero sofar = Some sofar
drafts_from f (suc count) sofar =
    if nat_le f.last sofar.1 then Some sofar
    else option_and_then (λ step. drafts_from f count (and_draft f sofar.0 step)) (step_at f (length sofar.0) sofar.1 sofar.2)

abbrev pub read_drafts : Function → Situation → Option ReadSoFar
read_drafts f s = drafts_from f f.last ([], 0, left_at f 0 s)

-- these are the steps that are read, and that is what is known behind them
abbrev pub IsReadTo : Function → Situation → List Drafted → Situation → Type 0
IsReadTo f s drafts behind = (pc : ℕ) × (read_drafts f s ≡ Some (drafts, pc, behind))

-- each entry of the list is declared
abbrev pub all_declared : Function → Scope → Bool
all_declared f scope = nat_le (length f.of.locals) (length scope.declared)

abbrev pub steps_of : Function → (params : List Text) → ReadSoFar → Option Steps
steps_of f params p = if all_declared f p.2.scope then placed f p.2.scope params p.0 else None

abbrev pub with_params : Function → (List Text × Situation) → Option Steps
with_params f p = option_and_then (steps_of f p.0) (read_drafts f p.1)

abbrev pub function_steps : List (Option Inner) → Function → Option Steps
function_steps left f = option_and_then (with_params f) (read_params f (at_first left))

abbrev pub as_function : Chunk → (short : Bool) → (last : ℕ) → Function
as_function c short last = record { of = own c; inner = functions c; short = short; last = last }

-- the last word is a RETURN of no values
abbrev pub ends_code : Own → Bool
ends_code f = is_so (is_return 0 1) (option_and_then instr_of (slice_get f.code (length f.code - 1)))

-- The steps of a function, whose functions' bodies are these; `short` asks for the forms of fewest levels. None where the words are those of no source, or of one that is not found.
abbrev pub read_steps : Chunk → List (Option Inner) → (short : Bool) → Option Steps
read_steps c left short = if ends_code (own c) then function_steps left (as_function c short (length (own c).code - 1)) else None
