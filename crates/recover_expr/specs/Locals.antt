-- Serves a body. The listed locals of a function while its words are read: which are declared, and which are active.
use Rattle.std.specs.List.{list_all, list_any, prefix_len}
use Rattle.std.specs.Prelude.{◌==◌, ◌&&◌, ◌-◌, ◌^◌, ℕ, zero, suc, Bool, true, false, nat_le, nat_lt, List, [], ◌∷◌, ◌++◌, length, take, drop, slice_get, slice_set, Option, None, Some, option_map, option_and_then, if◌then◌else◌}
use Rattle.lua_num.specs.Bytes.{Text}
use Rattle.proto.specs.Chunk.{own}
use Rattle.proto.specs.View.{view_proto}
use Rattle.proto.specs.declared.parts.LocVar.{LocVar}
use Rattle.proto.specs.declared.proto.Proto.{Proto}
use Rattle.core_expr.specs.Counting.{one_more}
use Rattle.core_expr.specs.Places.{name_of_local}
use Rattle.recover_expr.specs.declared.fault.Fault.{Fault}
use Rattle.recover_expr.specs.declared.locals.Declared.{Declared}
use Rattle.recover_expr.specs.declared.locals.Locals.{Locals}

-- those that are declared, the first of the list; and those that are active, by their registers
pub record Scope : Type 0 where
  pub declared : List Declared
  pub active : List ℕ

abbrev pub listed : Proto → List LocVar
listed proto = (own (view_proto proto)).locals

abbrev pub view_locals : Locals → Scope
view_locals locals = record { declared = locals.declared.items; active = locals.active.items }

-- words have a fault only where this holds, or memory is wanting
abbrev pub IsFaultOnlyWhere : Type 0 → Fault → Type 0
IsFaultOnlyWhere holds (Fault.At pc reason) = holds
IsFaultOnlyWhere holds Fault.OutOfMemory = Unit {0}

-- ---- names

-- the name of an entry of the list, where it is one that a source can write
abbrev pub name_of : List LocVar → (entry : ℕ) → Option Text
name_of locals entry = name_of_local (slice_get locals entry)

abbrev pub before_names : Option Text → Option (List Text) → Option (List Text)
before_names (Some name) (Some names) = Some (name ∷ names)
before_names name names = None

-- the names of so many entries from one on
abbrev pub names_from : List LocVar → (first count : ℕ) → Option (List Text)
names_from locals first zero = Some []
names_from locals first (suc count) = before_names (name_of locals first) (names_from locals (suc first) count)

-- only hidden locals of loops have such names, which begin with a `(`
abbrev pub begins_hidden : Text → Bool
begins_hidden [] = false
begins_hidden (byte ∷ name) = byte == 40

abbrev pub is_hidden_local : Option LocVar → Bool
is_hidden_local None = false
is_hidden_local (Some local) = begins_hidden local.name

abbrev pub is_hidden : List LocVar → (entry : ℕ) → Bool
is_hidden locals entry = is_hidden_local (slice_get locals entry)

-- ---- which start, and which are declared

-- how many of those that are to be declared next start at a pc, before the first that does not
abbrev pub starting : List LocVar → (pc : ℕ) → Scope → ℕ
starting locals pc s = prefix_len (λ (local : LocVar). local.start == pc) (drop (length s.declared) locals)

abbrev pub end_of : List LocVar → (entry : ℕ) → Option ℕ
end_of locals entry = option_map (λ (local : LocVar). local.end) (slice_get locals entry)

abbrev pub innermost : Scope → Option ℕ
innermost s = slice_get s.active (length s.active - 1)

-- the first so many end at a pc
abbrev pub all_end : List LocVar → (count end : ℕ) → Bool
all_end locals count end = list_all (λ (local : LocVar). local.end == end) (take count locals)

-- where the innermost one that is active ends
abbrev pub innermost_end : List LocVar → Scope → Option ℕ
innermost_end locals s = option_and_then (end_of locals) (innermost s)

abbrev pub ends_within : Option ℕ → (end : ℕ) → Bool
ends_within None end = true
ends_within (Some outer) end = nat_le end outer

-- it starts at a pc, and ends behind it and not behind the innermost one that is active
abbrev pub nests : List LocVar → (pc : ℕ) → Scope → Option LocVar → Bool
nests locals pc s None = false
nests locals pc s (Some local) = (local.start == pc) && (nat_le pc local.end && ends_within (innermost_end locals s) local.end)

abbrev pub entered : (step : Option ℕ) → Scope → Scope
entered step s = record {
  declared = s.declared ++ record { outer = innermost s; register = length s.active; step = step; captured = false } ∷ [];
  active = s.active ++ length s.declared ∷ [];
}

-- the next one is declared, where there is a number for its register
abbrev pub declare_next : List LocVar → (pc : ℕ) → (step : Option ℕ) → Scope → Option Scope
declare_next locals pc step s = if nests locals pc s (slice_get locals (length s.declared)) && nat_lt (length s.active) (2 ^ 32) then Some (entered step s) else None

-- the next so many are declared at a pc, by a step
abbrev pub declare : List LocVar → (count pc : ℕ) → (step : Option ℕ) → Scope → Option Scope
declare locals zero pc step s = Some s
declare locals (suc count) pc step s = option_and_then (declare locals count pc step) (declare_next locals pc step s)

-- ---- which end

abbrev pub is_over : (pc : ℕ) → Option ℕ → Bool
is_over pc None = false
is_over pc (Some end) = nat_le end pc

-- of the first so many that are active, those that are left at a pc
abbrev pub left_of : List LocVar → (pc : ℕ) → List ℕ → (count : ℕ) → List ℕ
left_of locals pc active zero = []
left_of locals pc active (suc n) = if is_over pc (option_and_then (end_of locals) (slice_get active n)) then left_of locals pc active n else take (suc n) active

-- those end that are over at a pc, the innermost first, up to one that is not
abbrev pub leave : List LocVar → (pc : ℕ) → Scope → Scope
leave locals pc s = record s { active = left_of locals pc s.active (length s.active) }

-- ---- captures

abbrev pub captured_at : (entry : ℕ) → List Declared → Option Declared → List Declared
captured_at entry declared None = declared
captured_at entry declared (Some one) = slice_set declared entry (record one { captured = true })

-- the local of this place in the list is captured
abbrev pub capture_entry : (entry : ℕ) → Scope → Scope
capture_entry entry s = record s { declared = captured_at entry s.declared (slice_get s.declared entry) }

abbrev pub capture_some : Option ℕ → Scope → Scope
capture_some None s = s
capture_some (Some entry) s = capture_entry entry s

-- the local in a register is captured, where there is one
abbrev pub capture : (register : ℕ) → Scope → Scope
capture r s = capture_some (slice_get s.active r) s

-- the local in a register has a name that a source can write
abbrev pub has_name : Option Text → Bool
has_name None = false
has_name (Some name) = true

abbrev pub is_named : List LocVar → (register : ℕ) → Scope → Bool
is_named locals r s = has_name (option_and_then (name_of locals) (slice_get s.active r))

-- the step that declares the local in a register
abbrev pub declaring_step : (register : ℕ) → Scope → Option ℕ
declaring_step r s = option_and_then (λ (one : Declared). one.step) (option_and_then (slice_get s.declared) (slice_get s.active r))

-- one of so many from one on is captured
abbrev pub any_captured : (first count : ℕ) → Scope → Bool
any_captured first count s = list_any (λ (one : Declared). one.captured) (take count (drop first s.declared))

-- ---- the highest captured register

abbrev pub or_zero : Option ℕ → ℕ
or_zero None = 0
or_zero (Some n) = n

-- where this local is innermost, one more than the highest register of a captured one that is active; 0 where none is
abbrev pub up_to : List ℕ → Option ℕ → ℕ
up_to highest innermost = or_zero (option_and_then (slice_get highest) innermost)

abbrev pub highest_at : List ℕ → Declared → ℕ
highest_at before one = if one.captured then one_more one.register else up_to before one.outer

-- the same for each of these, behind those before them
abbrev pub highest_behind : (before : List ℕ) → List Declared → List ℕ
highest_behind before [] = before
highest_behind before (one ∷ others) = highest_behind (before ++ highest_at before one ∷ []) others

abbrev pub highest_captured : Scope → List ℕ
highest_captured s = highest_behind [] s.declared
