-- What is kept as a part of a target: how many registers it takes, and what is left of it.
use Rattle.std.proofs.Common.{◌≡◌, ℕ, ◌+◌, List, length, arith}
use Rattle.core_expr.specs.Values.{Value, local_value, nil_value}
use Rattle.recover_expr.specs.Entries.{EntryValue, value_entry, held_entry}
use Rattle.recover_expr.specs.Situation.{Function}
use Rattle.reads_back.proofs.HeldOperands.{Kept, in_word, in_local, in_next, entries_in, StandsIn}

-- ---- what stands in the registers of the step

-- how many registers are taken for it
abbrev height : Kept → ℕ
height kept = length (entries_in kept)

abbrev pub value_of : Kept → Value
value_of (in_word number) = nil_value
value_of (in_local r) = local_value r
value_of (in_next entry v) = v

pub is_higher : (f : Function) (count : ℕ) (listed : List ℕ) (free x free1 : ℕ) (kept : Kept) → StandsIn f count listed free x free1 kept → free1 ≡ free + height kept
is_higher f count listed free x free1 (in_word number) stands = omega (arith, stands.2)
is_higher f count listed free x free1 (in_local r) stands = omega (arith, stands.3)
is_higher f count listed free x free1 (in_next entry v) stands = stands.2

-- what is left of a part of a target in its register
abbrev pub left_of : EntryValue → EntryValue
left_of (value_entry (local_value r)) = value_entry (local_value r)
left_of entry = held_entry
