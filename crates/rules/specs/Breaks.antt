-- To be believed, and this suite's own. The rules that a function may break, and where; the registers are those that the
-- instructions read and write.
use Rattle.std.specs.Prelude.{ℕ, zero, suc, pred, ◌+◌, ◌-◌, Bool, true, false, not, ◌&&◌, ◌||◌, ◌==◌, nat_lt, nat_le, List, [], ◌∷◌, map, length, slice_get, filter, Option, Some, None, is_none, is_some, option_and_then, if◌then◌else◌}
use Rattle.opcode.specs.declared.op.Op.{Op}
use Rattle.opcode.specs.declared.word.Instr.{Instr}
use Rattle.proto.specs.declared.parts.Constant.{Constant}
use Rattle.proto.specs.Chunk.{Chunk, own, functions, function_at}
use Rattle.rules.specs.declared.rule.Rule.{Rule}
use Rattle.opcode.specs.Reading.{instr_of}
use Rattle.rules.specs.Words.{instr_at, is_test, is_vararg, has_arg_table}
use Rattle.std.specs.List.{list_any}
use Rattle.rules.specs.Places.{named_further, further_words, is_further, belonging_to, words_of, next_pc, target, is_place, jmp_at}
use Rattle.rules.specs.Notes.{Note, Notes}

-- some number of a list is not below the limit
abbrev pub reaches : ℕ → List ℕ → Bool
reaches limit numbers = list_any (λ n. nat_le limit n) numbers

-- BadWord: the opcode is 38 or more.

-- Register: a register that the word names is not there, or its fields name none.

-- the fields that are a register below 256 and a constant from 256 on
abbrev pub operands : Op → Instr → List ℕ
operands Op.GetTable i = i.c ∷ []
operands Op.SetTable i = i.b ∷ i.c ∷ []
operands Op.Self_ i = i.c ∷ []
operands Op.Add i = i.b ∷ i.c ∷ []
operands Op.Sub i = i.b ∷ i.c ∷ []
operands Op.Mul i = i.b ∷ i.c ∷ []
operands Op.Div i = i.b ∷ i.c ∷ []
operands Op.Mod i = i.b ∷ i.c ∷ []
operands Op.Pow i = i.b ∷ i.c ∷ []
operands Op.Eq i = i.b ∷ i.c ∷ []
operands Op.Lt i = i.b ∷ i.c ∷ []
operands Op.Le i = i.b ∷ i.c ∷ []
operands _ i = []

-- The other registers that a word names: of several in a row the last one, of open ones R(A).
abbrev pub names : Op → Instr → List ℕ
names Op.Jmp i = []
names Op.Eq i = []
names Op.Lt i = []
names Op.Le i = []
names Op.Move i = i.a ∷ i.b ∷ []
names Op.LoadNil i = i.a ∷ i.b ∷ []
names Op.GetTable i = i.a ∷ i.b ∷ []
names Op.Self_ i = suc i.a ∷ i.b ∷ []
names Op.Unm i = i.a ∷ i.b ∷ []
names Op.Not i = i.a ∷ i.b ∷ []
names Op.Len i = i.a ∷ i.b ∷ []
names Op.TestSet i = i.a ∷ i.b ∷ []
names Op.Concat i = i.a ∷ i.b ∷ i.c ∷ []
names Op.Call i = (i.a + pred i.b) ∷ (i.a + (i.c - 2)) ∷ []
names Op.TailCall i = (i.a + pred i.b) ∷ []
names Op.Return i = (i.a + (i.b - 2)) ∷ []
names Op.ForLoop i = (i.a + 3) ∷ []
names Op.ForPrep i = (i.a + 2) ∷ []
names Op.TForLoop i = (i.a + 5) ∷ (i.a + 2 + i.c) ∷ []
names Op.SetList i = (i.a + i.b) ∷ []
names Op.Vararg i = if i.b == 1 then [] else (i.a + (i.b - 2)) ∷ []
names _ i = i.a ∷ []

abbrev pub has_order : Op → Instr → Bool
has_order Op.LoadNil i = nat_le i.a i.b
has_order Op.Concat i = nat_lt i.b i.c
has_order Op.TForLoop i = nat_lt 0 i.c
has_order _ i = true

abbrev pub breaks_register : Chunk → ℕ → Instr → Bool
breaks_register f pc i =
    not (has_order i.op i)
    || reaches (own f).registers (names i.op i)
    || reaches (own f).registers (filter (λ x. nat_lt x 256) (operands i.op i))
    || reaches (own f).registers (named_further Op.Move i.op (words_of f pc i))

-- Constant: a constant's number is past the list.
abbrev pub constants_of : Op → Instr → List ℕ
constants_of Op.LoadK i = i.bx ∷ []
constants_of Op.GetGlobal i = i.bx ∷ []
constants_of Op.SetGlobal i = i.bx ∷ []
constants_of op i = map (λ x. x - 256) (filter (λ x. nat_le 256 x) (operands op i))

abbrev pub breaks_constant : Chunk → Instr → Bool
breaks_constant f i = reaches (length (own f).constants) (constants_of i.op i)

-- Function: the function of a CLOSURE is past the list.
abbrev pub breaks_function : Chunk → Op → Instr → Bool
breaks_function f Op.Closure i = is_none (function_at (functions f) i.bx)
breaks_function f _ i = false

-- Upvalue: an upvalue's number is not below the count.
abbrev pub upvalues_of : Op → Instr → List ℕ
upvalues_of Op.GetUpval i = i.b ∷ []
upvalues_of Op.SetUpval i = i.b ∷ []
upvalues_of _ i = []

abbrev pub breaks_upvalue : Chunk → ℕ → Instr → Bool
breaks_upvalue f pc i =
    reaches (own f).upvalues (upvalues_of i.op i)
    || reaches (own f).upvalues (named_further Op.GetUpval i.op (words_of f pc i))

-- JumpTarget: a jump or skip goes outside the code or to a further word. A test skips; its JMP jumps for itself.
abbrev pub plain_jumps : ℕ → Op → Instr → List (Option ℕ)
plain_jumps pc Op.Jmp i = target pc i.sbx ∷ []
plain_jumps pc Op.ForPrep i = target pc i.sbx ∷ []
plain_jumps pc Op.ForLoop i = target pc i.sbx ∷ []
plain_jumps pc Op.LoadBool i = if i.c == 0 then [] else Some (suc (suc pc)) ∷ []
plain_jumps pc _ i = []

abbrev pub jumps : ℕ → Instr → List (Option ℕ)
jumps pc i = if is_test i.op then Some (suc (suc pc)) ∷ [] else plain_jumps pc i.op i

abbrev pub breaks_jump : Chunk → ℕ → Instr → Bool
breaks_jump f pc i = list_any (λ t. not (is_place f t)) (jumps pc i)

-- NameConstant: a global's name is no string.
abbrev pub is_no_text : Option Constant → Bool
is_no_text None = false
is_no_text (Some (Constant.Text text)) = false
is_no_text (Some _) = true

abbrev pub breaks_name : Chunk → Op → Instr → Bool
breaks_name f Op.GetGlobal i = is_no_text (slice_get (own f).constants i.bx)
breaks_name f Op.SetGlobal i = is_no_text (slice_get (own f).constants i.bx)
breaks_name f _ i = false

-- OpenResults: open results that a word wants are not left for it, or that a word leaves are not taken, or a jump or skip goes to a
-- word that takes them.

-- the first register of the list of a word that takes open results
abbrev pub wants : Op → Instr → Option ℕ
wants Op.Call i = if i.b == 0 then Some (suc i.a) else None
wants Op.TailCall i = if i.b == 0 then Some (suc i.a) else None
wants Op.SetList i = if i.b == 0 then Some (suc i.a) else None
wants Op.Return i = if i.b == 0 then Some i.a else None
wants _ i = None

-- the first register of the open results that a word leaves
abbrev pub leaves : Op → Instr → Option ℕ
leaves Op.Call i = if i.c == 0 then Some i.a else None
leaves Op.TailCall i = Some i.a
leaves Op.Vararg i = if i.b == 0 then Some i.a else None
leaves _ i = None

abbrev pub wanted_at : Chunk → ℕ → Option ℕ
wanted_at f pc = option_and_then (λ i. wants i.op i) (instr_at f pc)

-- what the word before a pc leaves; further words leave nothing
abbrev pub left_before : Chunk → ℕ → Option ℕ
left_before f zero = None
left_before f (suc pc) = if is_further f pc then None else option_and_then (λ i. leaves i.op i) (instr_at f pc)

-- what is wanted from one register on is left from another one on
abbrev pub is_unmet : Option ℕ → Option ℕ → Bool
is_unmet None left = false
is_unmet (Some start) None = true
is_unmet (Some start) (Some first) = nat_lt first start

abbrev pub wants_at : Chunk → Option ℕ → Bool
wants_at f None = false
wants_at f (Some t) = is_some (wanted_at f t)

abbrev pub breaks_results : Chunk → ℕ → Instr → Bool
breaks_results f pc i =
    is_unmet (wants i.op i) (left_before f pc)
    || (is_some (leaves i.op i) && is_none (wanted_at f (suc pc)))
    || list_any (wants_at f) (jumps pc i)

-- LoopNumbers: a FORLOOP where its three registers are not surely the numbers of a loop.
abbrev pub breaks_numbers : Option Note → Op → Instr → Bool
breaks_numbers None op i = false
breaks_numbers (Some n) Op.ForLoop i = not (n.loops i.a)
breaks_numbers (Some n) _ i = false

-- LoopCaptured: a FORPREP where one of its three registers may be captured.
abbrev pub breaks_captured : Option Note → Op → Instr → Bool
breaks_captured None op i = false
breaks_captured (Some n) Op.ForPrep i = n.captured i.a || n.captured (i.a + 1) || n.captured (i.a + 2)
breaks_captured (Some n) _ i = false

-- FurtherWord: a word after CLOSURE is neither MOVE nor GETUPVAL, or is missing; a raw block number is missing or 0.
abbrev pub is_capture : Op → Bool
is_capture Op.Move = true
is_capture Op.GetUpval = true
is_capture _ = false

abbrev pub captures_none : Option Instr → Bool
captures_none None = true
captures_none (Some i) = not (is_capture i.op)

abbrev pub is_bad_word_of : Op → ℕ → Bool
is_bad_word_of Op.Closure w = captures_none (instr_of w)
is_bad_word_of _ w = w == 0

abbrev pub breaks_further : Chunk → ℕ → Instr → Bool
breaks_further f pc i =
    nat_lt (length (words_of f pc i)) (belonging_to (functions f) i.op i)
    || list_any (is_bad_word_of i.op) (words_of f pc i)

-- NoJump: a test is not followed by a JMP.
abbrev pub breaks_no_jump : Chunk → ℕ → Instr → Bool
breaks_no_jump f pc i = is_test i.op && is_none (jmp_at f (suc pc))

-- Shape: what is wrong with a function as a whole.
abbrev pub allowed_flags : List ℕ
allowed_flags = 0 ∷ 2 ∷ 3 ∷ 7 ∷ []

abbrev pub is_vararg_word : Option Instr → Bool
is_vararg_word None = false
is_vararg_word (Some i) = elim i.op [ Op.Vararg ↦ true | _ ↦ false ]

-- some word that is no further word is VARARG
abbrev pub has_vararg : List Bool → List ℕ → Bool
has_vararg (false ∷ marks) (w ∷ rest) = if is_vararg_word (instr_of w) then true else has_vararg marks rest
has_vararg (true ∷ marks) (w ∷ rest) = has_vararg marks rest
has_vararg _ _ = false

abbrev pub breaks_shape : Chunk → Bool → Bool
breaks_shape f main =
    nat_lt 250 (own f).registers
    || nat_lt (own f).registers (own f).params
    || (has_arg_table (own f).flags && nat_le (own f).registers (own f).params)
    || not (list_any (λ flags. flags == (own f).flags) allowed_flags)
    || (not (is_vararg (own f).flags) && has_vararg (further_words f) (own f).code)
    || (main && nat_lt 0 (own f).upvalues)
    || length (own f).code == 0

-- FallsOff: a word that ends the code, with those that belong to it, can go on past the end. A test ends no code so:
-- its skip or its missing JMP is broken there.
abbrev pub stays_in : Op → Bool
stays_in Op.Return = true
stays_in Op.Jmp = true
stays_in Op.ForPrep = true
stays_in op = is_test op

abbrev pub breaks_end : Chunk → ℕ → Instr → Bool
breaks_end f pc i = nat_le (length (own f).code) (next_pc f pc i) && not (stays_in i.op)

-- whether the instruction at a pc breaks a rule there, under the note of that pc
abbrev pub instr_breaks : Chunk → Option Note → ℕ → Instr → Rule → Bool
instr_breaks f n pc i Rule.BadWord = false
instr_breaks f n pc i Rule.Register = breaks_register f pc i
instr_breaks f n pc i Rule.Constant = breaks_constant f i
instr_breaks f n pc i Rule.Function = breaks_function f i.op i
instr_breaks f n pc i Rule.Upvalue = breaks_upvalue f pc i
instr_breaks f n pc i Rule.JumpTarget = breaks_jump f pc i
instr_breaks f n pc i Rule.NameConstant = breaks_name f i.op i
instr_breaks f n pc i Rule.OpenResults = breaks_results f pc i
instr_breaks f n pc i Rule.LoopNumbers = breaks_numbers n i.op i
instr_breaks f n pc i Rule.LoopCaptured = breaks_captured n i.op i
instr_breaks f n pc i Rule.FurtherWord = breaks_further f pc i
instr_breaks f n pc i Rule.NoJump = breaks_no_jump f pc i
instr_breaks f n pc i Rule.Shape = false
instr_breaks f n pc i Rule.FallsOff = breaks_end f pc i

abbrev pub is_bad_word : Rule → Bool
is_bad_word Rule.BadWord = true
is_bad_word _ = false

abbrev pub is_shape : Rule → Bool
is_shape Rule.Shape = true
is_shape _ = false

-- of a word whose opcode is 38 or more that is all
abbrev pub word_breaks : Chunk → Option Note → ℕ → Option Instr → Rule → Bool
word_breaks f n pc None rule = is_bad_word rule
word_breaks f n pc (Some i) rule = instr_breaks f n pc i rule

abbrev pub place_breaks : Chunk → Option Note → ℕ → Option ℕ → Rule → Bool
place_breaks f n pc None rule = false
place_breaks f n pc (Some w) rule = word_breaks f n pc (instr_of w) rule

-- Whether a rule is broken at a pc: at further words none, and Shape at pc 0 alone.
abbrev pub breaks : Chunk → Bool → Notes → ℕ → Rule → Bool
breaks f main notes pc rule =
    if is_shape rule then pc == 0 && breaks_shape f main else not (is_further f pc) && place_breaks f (notes pc) pc (slice_get (own f).code pc) rule
