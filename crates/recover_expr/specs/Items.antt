-- Serves a body. Which SETTABLE is an item of a constructor, and which a store.
use Rattle.std.specs.Prelude.{◌+◌, ◌-◌, ◌==◌, ◌&&◌, ◌||◌, not, ℕ, Bool, true, false, nat_lt, length, slice_get, Option, None, Some, option_and_then, if◌then◌else◌}
use Rattle.opcode.specs.declared.op.Op.{Op}
use Rattle.opcode.specs.declared.word.Instr.{Instr}
use Rattle.recover_expr.specs.Constructors.{maker_place}
use Rattle.recover_expr.specs.Effects.{reads_from, makes_value}
use Rattle.recover_expr.specs.Entries.{Entries, is_at, is_single, is_place, is_temporary, place_in}
use Rattle.recover_expr.specs.Locals.{Scope, innermost_end, is_over, or_zero, starting}
use Rattle.recover_expr.specs.Situation.{Function, Situation, instr_at, upvalues_in}
use Rattle.recover_expr.specs.declared.function.Word.{Word}

-- ---- how high the entries are without the operands of a SETTABLE into the constructor at a place, where they stand on top of it

abbrev pub below_top : (base place operand : ℕ) → Entries → (height : ℕ) → Option ℕ
below_top base place o entries height =
    if nat_lt 0 height && (is_place (place_in base o) (height - 1) && (is_at is_single (slice_get entries (height - 1)) && nat_lt place (height - 1))) then Some (height - 1)
    else None

abbrev pub below_operand : (base place operand : ℕ) → Entries → (height : ℕ) → Option ℕ
below_operand base place o entries height = if is_temporary base o then below_top base place o entries height else Some height

abbrev pub below_operands : (base place : ℕ) → Instr → Entries → Option ℕ
below_operands base place i entries = option_and_then (below_operand base place i.b entries) (below_operand base place i.c entries (length entries))

-- ---- what the next words tell

abbrev pub is_so : (Instr → Bool) → Option Instr → Bool
is_so is None = false
is_so is (Some i) = is i

abbrev pub stores_as : Op → Instr → (base : ℕ) → Bool
stores_as Op.SetGlobal i base = true
stores_as Op.SetUpval i base = true
stores_as Op.Move i base = nat_lt i.a base
stores_as Op.SetTable i base = is_temporary base i.c
stores_as op i base = false

-- the word at a pc stores a value of the statement
abbrev pub stores_next : Function → (base pc : ℕ) → Bool
stores_next f base pc = is_so (λ i. stores_as i.op i base) (instr_at f pc)

abbrev pub stores_alone_as : Op → Instr → (base : ℕ) → Bool
stores_alone_as Op.SetGlobal i base = true
stores_alone_as Op.SetUpval i base = true
stores_alone_as Op.SetTable i base = true
stores_alone_as op i base = makes_value op && nat_lt i.a base

-- a word that reads no register from a base on is a store
abbrev pub stores_alone : Instr → (base : ℕ) → Bool
stores_alone i base = stores_alone_as i.op i base

abbrev pub further_words : Function → Op → Instr → ℕ
further_words f Op.Closure i = or_zero (upvalues_in f i.bx)
further_words f op i = 0

-- the word behind the store at a pc, and behind the words that belong to that, reads a register of the statement
abbrev pub is_read_behind : Function → (base pc : ℕ) → Instr → Bool
is_read_behind f base pc store =
    let behind = pc + 1 + further_words f store.op store in
    nat_lt behind f.last && is_so (λ i. reads_from i base) (instr_at f behind)

abbrev pub calls_method_as : Op → Instr → (register : ℕ) → Bool
calls_method_as Op.Self_ i register = i.b == register
calls_method_as op i register = false

-- a word looks up a method of what is in a register
abbrev pub calls_method : Instr → (register : ℕ) → Bool
calls_method i register = calls_method_as i.op i register

abbrev pub calls_method_at : Function → (register pc : ℕ) → Bool
calls_method_at f register pc = nat_lt pc f.last && is_so (λ i. calls_method i register) (instr_at f pc)

-- a word makes a value above the constructor in a register: two above it may be the name of a method, of the constructor or of what the next statement begins with
abbrev pub makes_above : Function → (register pc : ℕ) → Instr → Bool
makes_above f register pc next = makes_value next.op && (nat_lt register next.a && (not (next.a == register + 2) || calls_method_at f register (pc + 1)))

-- no local that is active is over at a pc, as within a statement
abbrev pub all_stay : Function → Scope → (pc : ℕ) → Bool
all_stay f scope pc = not (is_over pc (innermost_end f.of.locals scope))

abbrev pub wants : Function → Scope → (base : ℕ) → Word → Instr → Bool
wants f scope base w next = all_stay f scope w.next && (reads_from next base || (makes_above f w.instr.a w.next next || (stores_alone next base && is_read_behind f base w.next next)))

-- the words behind a SETTABLE want the constructor in its register
abbrev pub is_wanted : Function → Scope → (base : ℕ) → Word → Bool
is_wanted f scope base w = is_so (wants f scope base w) (instr_at f w.next)

-- ---- whether it is an item

abbrev pub is_item_below : Function → Word → Situation → (place height : ℕ) → Bool
is_item_below f w s place height =
    if nat_lt (place + 1) height then not (stores_next f s.base w.next)
    else (nat_lt 0 place || (nat_lt 0 (starting f.of.locals w.next s.scope) || is_wanted f s.scope s.base w))

abbrev pub is_item_of_height : Function → Word → Situation → (place : ℕ) → Option ℕ → Bool
is_item_of_height f w s place None = false
is_item_of_height f w s place (Some height) = is_item_below f w s place height

abbrev pub is_item_at : Function → Word → Situation → Option ℕ → Bool
is_item_at f w s None = false
is_item_at f w s (Some place) = is_item_of_height f w s place (below_operands s.base place w.instr s.entries)

-- the next words decide whether a SETTABLE is an item of the constructor in its register
abbrev pub is_item : Function → Word → Situation → Bool
is_item f w s = is_item_at f w s (maker_place w s.base s.entries)
