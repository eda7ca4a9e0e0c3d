-- To be believed. The parts of the scheme for lists of expressions, calls and constructors (manual 2.5.7 and 2.5.8).
use Rattle.std.specs.Prelude.{ℕ, zero, suc, ◌+◌, ◌-◌, ◌*◌, ◌/◌, nat_lt, nat_le, ◌==◌, Bool, true, false, not, cond, ◌&&◌, List, [], ◌∷◌, length, Some, None, if◌then◌else◌}
use Rattle.lua_num.specs.Bytes.{Text}
use Rattle.lua_tree.specs.Syntax.{Expression, vararg_expression, constructor, Fields}
use Rattle.opcode.specs.declared.op.Op.{Op}
use Rattle.scheme.specs.Making.{◌>>=◌, ◌>>◌, Part, Asks, read, put, take_registers, used, free_from, freeing, when}
use Rattle.scheme.specs.Expressions.{Want, count_field, Coded, is_multiple, next_reg, operand, rk, rk_text, single}
use Rattle.scheme.specs.declared.making.Piece.{Piece}

-- each NextReg
abbrev pub all_next : List Coded → Part
all_next [] m = m
all_next (c ∷ cs) m = all_next cs (next_reg c m)

-- the last one is open
abbrev pub ends_open : List Coded → Bool
ends_open [] = false
ends_open (c ∷ []) = is_multiple c.e
ends_open (c ∷ d ∷ cs) = ends_open (d ∷ cs)

-- each NextReg, but the last one gives several values by a word
abbrev pub all_multi : Op → Want → List Coded → Part
all_multi op want [] m = m
all_multi op want (c ∷ []) m = c.multi op want m
all_multi op want (c ∷ d ∷ cs) m = all_multi op want (d ∷ cs) (next_reg c m)

-- each NextReg, a last multiple one open; and how many values these are, open or not
abbrev pub open_list : List Coded → Part
open_list cs = cond (ends_open cs) (all_multi Op.Call None cs) (all_next cs)

abbrev pub list_count : List Coded → Want
list_count cs = cond (ends_open cs) None (Some (length cs))

-- ---- calls

-- the arguments of a call, and how many they are
pub record Given : Type 0 where
  pub part : Part
  pub count : Want

abbrev pub given_list : List Coded → Given
given_list cs = record { part = open_list cs; count = list_count cs }

abbrev pub given_one : Part → Given
given_one part = record { part = part; count = Some 1 }

-- F is base and so many more; one register counts as used by open results
abbrev pub results_at : (base : ℕ) → Want → Part
results_at base None m = used (suc base) (free_from base m)
results_at base (Some n) m = take_registers n (free_from base m)

abbrev pub call_at : (line : ℕ) → (on : Coded) → Given → Op → Want → Part
call_at line on given op want = do
  base ← read (λ m. m.free)
  next_reg on
  given.part
  put line (Piece.Abc op base (count_field 1 given.count) (count_field 1 want))
  results_at base want

abbrev pub method_at : (line : ℕ) → (on : Coded) → Text → Given → Op → Want → Part
method_at line on text given op want = do
  base ← read (λ m. m.free)
  x ← operand on
  free_from base
  take_registers 2
  y ← rk_text line text
  put line (Piece.Abc Op.Self_ base x y)
  free_from (base + 2)
  given.part
  put line (Piece.Abc op base (count_field 2 given.count) (count_field 1 want))
  results_at base want

-- a value that comes in F goes to the register
abbrev pub moved : (line base register : ℕ) → Part
moved line base r = when (not (base == r)) (put line (Piece.Abc Op.Move r base 0))

abbrev pub by_base : (line : ℕ) → (at_base : Part) → ℕ → Part
by_base line at_base r = do
  base ← read (λ m. m.free)
  at_base
  moved line base r

abbrev pub coded_call : (line : ℕ) → Expression → (Op → Want → Part) → Coded
coded_call line e at = record (single line e (by_base line (at Op.Call (Some 1)))) { multi = at }

abbrev pub vararg_at : (line : ℕ) → Op → Want → Part
vararg_at line op want = do
  base ← read (λ m. m.free)
  put line (Piece.Abc Op.Vararg base (count_field 1 want) 0)
  results_at base want

abbrev pub coded_vararg : (line : ℕ) → Coded
coded_vararg line = record (single line (vararg_expression line) (λ r. put line (Piece.Abc Op.Vararg r 2 0))) { multi = vararg_at line }

-- ---- constructors

pub data Entry : Type 0 where
  positional_entry : Coded → Entry
  named_entry : Text → Coded → Entry
  keyed_entry : (key value : Coded) → Entry

abbrev pub is_last : List Entry → Bool
is_last [] = true
is_last (entry ∷ entries) = false

-- positional items but an open last one, and other items
abbrev pub positional_count : List Entry → ℕ
positional_count [] = 0
positional_count (positional_entry c ∷ entries) = cond (is_last entries && is_multiple c.e) 0 (suc (positional_count entries))
positional_count (entry ∷ entries) = positional_count entries

abbrev pub other_count : List Entry → ℕ
other_count [] = 0
other_count (positional_entry c ∷ entries) = other_count entries
other_count (entry ∷ entries) = suc (other_count entries)

-- a size hint: below 8 itself; else halved, rounded up, until it is below 16
abbrev pub hint_from : (small : Bool) → (fuel e x : ℕ) → ℕ
hint_from true fuel e x = (e + 1) * 8 + (x - 8)
hint_from false zero e x = 0
hint_from false (suc fuel) e x = let half = (x + 1) / 2 in hint_from (nat_lt half 16) fuel (e + 1) half

abbrev pub size_hint : ℕ → ℕ
size_hint n = if nat_lt n 8 then n else hint_from (nat_lt n 16) n 0 n

abbrev pub small_block : (line t n block : ℕ) → Part
small_block line t n block = put line (Piece.Abc Op.SetList t n block)

abbrev pub large_block : (line t n block : ℕ) → Part
large_block line t n block = put line (Piece.Abc Op.SetList t n 0) >> put line (Piece.Bare block)

-- n pending items go into the table, where so many positional ones were done, or, where n is 0, those up to the open results
abbrev pub set_list : (line t n done : ℕ) → Part
set_list line t n done =
    let block = (done - 1) / 50 + 1 in
    cond (nat_le block 511) (small_block line t n block) (large_block line t n block) >> free_from (t + 1)

abbrev pub open_entry : (line t done : ℕ) → Coded → Part
open_entry line t done c = c.multi Op.Call None >> set_list line t 0 (suc done)

abbrev pub keyed_item : (line t : ℕ) → Asks ℕ → Coded → Part
keyed_item line t key value = do
  k ← key
  v ← rk value
  put line (Piece.Abc Op.SetTable t k v)

abbrev pub pending_end : (line t done pending : ℕ) → Part
pending_end line t done pending = when (nat_lt 0 pending) (set_list line t pending done)

abbrev pub full_end : (line t done pending : ℕ) → Part
full_end line t done pending = when (pending == 50) (set_list line t 50 done)

abbrev pub pending_after : ℕ → ℕ
pending_after pending = cond (pending == 50) 0 pending

-- the rest of the items, where so many were done, and so many of these are pending
abbrev pub entries_from : (line t done pending : ℕ) → List Entry → Part
entries_from line t done pending [] = pending_end line t done pending
entries_from line t done pending (positional_entry c ∷ entries) =
    cond (is_last entries && is_multiple c.e)
    (open_entry line t done c)
    (next_reg c >> full_end line t (suc done) (suc pending) >> entries_from line t (suc done) (pending_after (suc pending)) entries)
entries_from line t done pending (named_entry text c ∷ entries) = freeing (keyed_item line t (rk_text line text) c) >> entries_from line t done pending entries
entries_from line t done pending (keyed_entry key c ∷ entries) = freeing (keyed_item line t (rk key) c) >> entries_from line t done pending entries

abbrev pub table_at : (line : ℕ) → List Entry → Part
table_at line entries = do
  t ← read (λ m. m.free)
  put line (Piece.Abc Op.NewTable t (size_hint (positional_count entries)) (size_hint (other_count entries)))
  take_registers 1
  entries_from line t 0 0 entries
  free_from (t + 1)

abbrev pub coded_table : (line : ℕ) → Fields → List Entry → Coded
coded_table line fields entries = single line (constructor line fields) (by_base line (table_at line entries))

-- ---- Adjust

abbrev pub nils : (line n : ℕ) → Part
nils line n = do
  first ← read (λ m. m.free)
  take_registers n
  put line (Piece.Abc Op.LoadNil first (first + n - 1) 0)

-- there are fewer expressions than values
abbrev pub filled : (line : ℕ) → List Coded → (missing : ℕ) → Part
filled line cs missing = cond (ends_open cs) (all_multi Op.Call (Some (missing + 1)) cs) (all_next cs >> nils line missing)

-- n registers from F
abbrev pub adjust : (line : ℕ) → List Coded → (n : ℕ) → Part
adjust line cs n m =
    cond (nat_lt (length cs) n) (filled line cs (n - length cs)) (all_next cs >> free_from (m.free + n)) m
