-- Serves a body. Words that store, and which of them are those of one assignment.
use Rattle.std.specs.Prelude.{◌==◌, ◌&&◌, ◌+◌, ◌-◌, ℕ, Bool, true, false, nat_le, nat_lt, List, [], ◌∷◌, ◌++◌, length, replicate, slice_get, slice_set, Option, None, Some, option_map, option_and_then, if◌then◌else◌}
use Rattle.opcode.specs.declared.op.Op.{Op}
use Rattle.core_expr.specs.Values.{OperandValue, constant_operand, value_operand, view_operand}
use Rattle.recover_expr.specs.Entries.{is_temporary, place_in}
use Rattle.recover_expr.specs.Situation.{Function, Situation, constant_in, global_in, local_in, upvalue_in}
use Rattle.recover_expr.specs.declared.function.Word.{Word}
use Rattle.recover_expr.specs.declared.stores.Place.{Place}
use Rattle.recover_expr.specs.declared.stores.Store.{Store}
use Rattle.recover_expr.specs.declared.stores.Stored as declared
use Rattle.recover_expr.specs.declared.stores.Stores as walked

-- what a word stores: a register of the statement, by its place, or something that needs none
pub data StoredValue : Type 0 where
  register_stored : (place : ℕ) → StoredValue
  operand_stored : OperandValue → StoredValue

abbrev pub view_stored : declared.Stored → StoredValue
view_stored (declared.Stored.Register place) = register_stored place
view_stored (declared.Stored.Operand operand) = operand_stored (view_operand operand)

-- ---- one word

abbrev pub register_of : Function → Situation → (register : ℕ) → Option ℕ → Option StoredValue
register_of f s r (Some place) = Some (register_stored place)
register_of f s r None = option_map (λ v. operand_stored (value_operand v)) (local_in f s r)

-- a register of the statement, or a local
abbrev pub stored_register : Function → Situation → (register : ℕ) → Option StoredValue
stored_register f s r = register_of f s r (place_in s.base r)

-- or a constant
abbrev pub stored_operand : Function → Situation → (operand : ℕ) → Option StoredValue
stored_operand f s o =
    if nat_le 256 o then option_map (λ k. operand_stored (constant_operand k)) (constant_in f (o - 256))
    else stored_register f s o

abbrev pub to_place : Place → StoredValue → Place × StoredValue
to_place place stored = (place, stored)

abbrev pub to_local : Function → Situation → (register : ℕ) → (from to : Option ℕ) → Option (Place × StoredValue)
to_local f s r (Some place) None = option_map (λ v. (Place.Local r, register_stored place)) (local_in f s r)
to_local f s r from to = None

abbrev pub store_as : Op → Function → Word → Situation → Option (Place × StoredValue)
store_as Op.SetGlobal f w s = option_and_then (λ name. option_map (to_place (Place.Global name)) (stored_register f s w.instr.a)) (global_in f w.instr)
store_as Op.SetUpval f w s = option_and_then (λ upvalue. option_map (to_place (Place.Upvalue upvalue)) (stored_register f s w.instr.a)) (upvalue_in f w.instr)
store_as Op.SetTable f w s = option_map (to_place (Place.Index w.instr.a w.instr.b)) (stored_operand f s w.instr.c)
store_as Op.Move f w s = to_local f s w.instr.a (place_in s.base w.instr.b) (place_in s.base w.instr.a)
store_as op f w s = None

-- where a word stores to, and what it stores
abbrev pub store_of : Function → Word → Situation → Option (Store × StoredValue)
store_of f w s = option_map (λ p. (record { pc = w.pc; place = p.0 }, p.1)) (store_as w.instr.op f w s)

-- ---- those of one assignment

-- the stores from the last target back, the place from which on the values stand that are stored, which places are used, and how many of those that must be are not yet
pub record Assigning : Type 0 where
  pub stores : List Store
  pub low : ℕ
  pub used : List Bool
  pub left : ℕ

abbrev pub view_stores : walked.Stores → Assigning
view_stores s = record { stores = s.stores.items; low = s.low; used = s.used.items; left = s.left }

-- none of so many registers is used
abbrev pub none_used : (count : ℕ) → Assigning
none_used count = record { stores = []; low = count; used = replicate count false; left = count }

abbrev pub use_unused : (place : ℕ) → Assigning → Option Bool → Assigning
use_unused place a (Some false) = record a { used = slice_set a.used place true; left = a.left - 1 }
use_unused place a used = a

abbrev pub use_place : (place : ℕ) → Assigning → Assigning
use_place place a = use_unused place a (slice_get a.used place)

abbrev pub use_part_at : (base operand : ℕ) → Assigning → Option ℕ → Option Assigning
use_part_at base o a None = Some a
use_part_at base o a (Some place) =
    if is_temporary base o then (if nat_lt place (length a.used) then Some (use_place place a) else None)
    else Some a

-- a part of a target
abbrev pub use_part : (base operand : ℕ) → Assigning → Option Assigning
use_part base o a = use_part_at base o a (place_in base o)

abbrev pub use_target : (base : ℕ) → Place → Assigning → Option Assigning
use_target base (Place.Index on key) a = option_and_then (use_part base key) (use_part base on a)
use_target base place a = Some a

abbrev pub and_store : Store → Assigning → Assigning
and_store store a = record a { stores = a.stores ++ store ∷ [] }

-- a store, with the parts of its target
abbrev pub add : (base : ℕ) → Store → Assigning → Option Assigning
add base store a = option_map (and_store store) (use_target base store.place a)

abbrev pub is_unused : Option Bool → Bool
is_unused (Some false) = true
is_unused used = false

-- the value below those that are stored is stored, if it is this one and no part of a target
abbrev pub add_further : (base : ℕ) → Store → StoredValue → Assigning → Option Assigning
add_further base store (operand_stored o) a = None
add_further base store (register_stored place) a =
    if (place + 1 == a.low) && is_unused (slice_get a.used place) then add base store (record (use_place place a) { low = place })
    else None

-- the first store needs no register, where so many are set
abbrev pub straight : (base count : ℕ) → Store → Option Assigning
straight base count first = add base first (none_used count)

-- the first store is that of a register; what stands above it is stored nowhere
abbrev pub from_register : (base count : ℕ) → Store → (place : ℕ) → Option Assigning
from_register base count first place = if nat_lt place count then add_further base first (register_stored place) (none_used (place + 1)) else None

-- every register of the statement is used, so that the assignment is over
abbrev pub are_all : Assigning → Bool
are_all a = a.left == 0
