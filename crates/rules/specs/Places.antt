-- To be believed. Which words of a function are further words, and which pcs can follow a word (A No-Frills Introduction to Lua 5.1 VM
-- Instructions, those that jump, skip and take words with them).
use Rattle.std.specs.Prelude.{ℕ, zero, suc, ◌+◌, ℤ, pos, negsuc, ◌+ℤ◌, Bool, true, false, not, ◌&&◌, ◌==◌, nat_lt, nat_eq, List, [], ◌∷◌, ◌++◌, length, take, drop, get_or, Option, Some, None, if◌then◌else◌}
use Rattle.std.specs.List.{list_any}
use Rattle.std.specs.Option.{option_eq}
use Rattle.opcode.specs.declared.op.Op.{Op}
use Rattle.opcode.specs.declared.word.Instr.{Instr}
use Rattle.proto.specs.Chunk.{Chunk, own, Functions, functions, function_at}
use Rattle.opcode.specs.Reading.{instr_of}
use Rattle.rules.specs.Words.{instr_at, is_test}

abbrev pub upvalue_count : Option Chunk → ℕ
upvalue_count None = 0
upvalue_count (Some f) = (own f).upvalues

-- how many words belong to an instruction: one per upvalue of a closure's function, and the raw block number of a
-- SETLIST whose C is 0
abbrev pub belonging_to : Functions → Op → Instr → ℕ
belonging_to inner Op.Closure i = upvalue_count (function_at inner i.bx)
belonging_to inner Op.SetList i = if i.c == 0 then 1 else 0
belonging_to inner _ i = 0

abbrev pub belonging : Functions → Option Instr → ℕ
belonging inner None = 0
belonging inner (Some i) = belonging_to inner i.op i

-- Whether each word is a further word, of which n more are to come. Reading goes from pc 0 on.
abbrev pub further_from : Functions → ℕ → List ℕ → List Bool
further_from inner n [] = []
further_from inner zero (w ∷ rest) = false ∷ further_from inner (belonging inner (instr_of w)) rest
further_from inner (suc n) (w ∷ rest) = true ∷ further_from inner n rest

abbrev pub further_words : Chunk → List Bool
further_words f = further_from (functions f) 0 (own f).code

abbrev pub is_further : Chunk → ℕ → Bool
is_further f pc = get_or (further_words f) pc false

-- the words that belong to the instruction at a pc, those that are there
abbrev pub words_of : Chunk → ℕ → Instr → List ℕ
words_of f pc i = take (belonging_to (functions f) i.op i) (drop (suc pc) (own f).code)

-- the register of each further word MOVE, and the upvalue of each GETUPVAL
abbrev pub named_by : Op → Option Instr → List ℕ
named_by op None = []
named_by Op.Move (Some i) = elim i.op [ Op.Move ↦ i.b ∷ [] | _ ↦ [] ]
named_by Op.GetUpval (Some i) = elim i.op [ Op.GetUpval ↦ i.b ∷ [] | _ ↦ [] ]
named_by _ (Some i) = []

abbrev pub named_by_all : Op → List ℕ → List ℕ
named_by_all op [] = []
named_by_all op (w ∷ rest) = named_by op (instr_of w) ++ named_by_all op rest

-- of the words that belong to an instruction
abbrev pub named_further : Op → Op → List ℕ → List ℕ
named_further by Op.Closure further = named_by_all by further
named_further by _ further = []

-- the pc after the word and those that belong to it
abbrev pub next_pc : Chunk → ℕ → Instr → ℕ
next_pc f pc i = suc pc + belonging_to (functions f) i.op i

-- the pc of a whole number: None below 0
abbrev pub as_pc : ℤ → Option ℕ
as_pc (pos n) = Some n
as_pc (negsuc n) = None

-- where a jump by s from a pc goes: to the pc after it plus s
abbrev pub target : ℕ → ℤ → Option ℕ
target pc s = as_pc (pos (suc pc) +ℤ s)

-- a pc of the code that is no further word
abbrev pub is_place : Chunk → Option ℕ → Bool
is_place f None = false
is_place f (Some t) = nat_lt t (length (own f).code) && not (is_further f t)

-- the distance of a JMP
abbrev pub jmp_by : Op → Instr → Option ℤ
jmp_by Op.Jmp i = Some i.sbx
jmp_by _ i = None

abbrev pub jmp_of : Option Instr → Option ℤ
jmp_of None = None
jmp_of (Some i) = jmp_by i.op i

-- the distance of the JMP at a pc, where one stands there
abbrev pub jmp_at : Chunk → ℕ → Option ℤ
jmp_at f pc = jmp_of (instr_at f pc)

-- The pcs that can follow: of a test the target of its JMP and the pc after that JMP.
abbrev pub test_ways : ℕ → Option ℤ → List (Option ℕ)
test_ways pc None = []
test_ways pc (Some s) = target (suc pc) s ∷ Some (suc (suc pc)) ∷ []

abbrev pub plain_ways : Chunk → ℕ → Op → Instr → List (Option ℕ)
plain_ways f pc Op.Jmp i = target pc i.sbx ∷ []
plain_ways f pc Op.ForPrep i = target pc i.sbx ∷ []
plain_ways f pc Op.ForLoop i = target pc i.sbx ∷ Some (suc pc) ∷ []
plain_ways f pc Op.LoadBool i = Some (if i.c == 0 then suc pc else suc (suc pc)) ∷ []
plain_ways f pc Op.Return i = []
plain_ways f pc _ i = Some (next_pc f pc i) ∷ []

abbrev pub ways : Chunk → ℕ → Instr → List (Option ℕ)
ways f pc i = if is_test i.op then test_ways pc (jmp_at f (suc pc)) else plain_ways f pc i.op i

-- whether a way goes to this pc
abbrev pub is_pc : ℕ → Option ℕ → Bool
is_pc t way = option_eq nat_eq way (Some t)

-- an edge: a way to a pc of the code that is no further word
abbrev pub is_edge : Chunk → ℕ → Instr → ℕ → Bool
is_edge f pc i t = is_place f (Some t) && list_any (is_pc t) (ways f pc i)
