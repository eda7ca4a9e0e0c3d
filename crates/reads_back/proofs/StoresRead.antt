-- What a word stores: a register of the step, a local or a constant.
use Rattle.std.proofs.Common.{◌≡◌, ℕ, ◌+◌, ◌-◌, ◌<◌, List, [], ◌∷◌, length, Option, Some, None, ap, ◌∙◌, arith, le-leb, lt-ltb, nat_lt}
use Rattle.std.proofs.lemmas.Option.{same_Some}
use Rattle.std.specs.Prelude.{slice_get, option_and_then, option_map, if◌then◌else◌}
use Rattle.lua_num.specs.Bytes.{Text}
use Rattle.core_expr.specs.Making.{deepest_item}
use Rattle.core_expr.specs.Places.{local_name, place}
use Rattle.core_expr.specs.Values.{Value, value_operand, constant_operand, local_value}
use Rattle.recover_expr.specs.Assigning.{function_number, stored_function}
use Rattle.recover_expr.specs.Entries.{EntryValue, value_entry, single_of, place_in, maker_entry}
use Rattle.recover_expr.specs.Lists.{Straight, straight_operand}
use Rattle.recover_expr.specs.Locals.{has_name, name_of}
use Rattle.recover_expr.specs.Situation.{Function, Situation, constant_in, local_in}
use Rattle.recover_expr.specs.Stores.{StoredValue, operand_stored, register_stored, register_of, stored_operand, stored_register}
use Rattle.reads_back.proofs.HeldOperands.{Kept, in_word, in_local, in_next, operand_of, StandsIn}
use Rattle.reads_back.proofs.NameReads.{entry_named}
use Rattle.reads_back.proofs.Tests.{not_below, given_is}
use Rattle.reads_back.proofs.ValueWords.{place_of_next}
use Rattle.reads_back.specs.Cores.{IsValueOperand}

-- ---- what a word stores

-- at this place where it stands in a register of the step
abbrev pub stored_at : (place : ℕ) → Kept → StoredValue
stored_at place (in_next entry v) = register_stored place
stored_at place kept = operand_stored (operand_of kept)

-- what needs no register
abbrev pub straight_of : Kept → Option Straight
straight_of (in_next entry v) = None
straight_of kept = Some (straight_operand (operand_of kept))

-- it is no constant of the word
abbrev pub IsValueKept : Kept → Type 0
IsValueKept (in_word number) = ⊥
IsValueKept kept = Unit {0}

pub is_value_kept : (Is : Value → Type 0) (kept : Kept) → IsValueOperand Is (operand_of kept) → IsValueKept kept
is_value_kept Is (in_word number) is = let same = is.2 in cc
is_value_kept Is (in_local r) is = tt
is_value_kept Is (in_next entry v) is = tt

-- the locals of the step are these
pub record IsInStep (f : Function) (count : ℕ) (listed : List ℕ) (s : Situation) : Type 0 where
  pub base : s.base ≡ count
  pub places : s.scope.active ≡ listed

module _ {f : Function} {count : ℕ} {listed : List ℕ} {s : Situation} (step : IsInStep f count listed s) where
  pub local_there : (r : ℕ) (text : Text) → local_name (place f.of listed f.short) r ≡ Some text → local_in f s r ≡ Some (local_value r)
  local_there r text named =
      ap (λ listed. if has_name (option_and_then (name_of f.of.locals) (slice_get listed r)) then Some (local_value r) else None) step.places
      ∙ ap (λ name. if has_name name then Some (local_value r) else None) (entry_named (place f.of listed f.short) text (slice_get listed r) named)

  pub no_place : (r : ℕ) → r < count → place_in s.base r ≡ None
  no_place r below = ap (λ above. if above then Some (r - s.base) else None) (not_below r s.base (omega (arith, below, step.base)))

  pub register_there : (place free x free1 : ℕ) (kept : Kept) → IsValueKept kept → StandsIn f count listed free x free1 kept → free ≡ count + place → stored_register f s x ≡ Some (stored_at place kept)
  register_there place free x free1 (in_word number) value stands next = absurd value
  register_there place free x free1 (in_local r) value stands next =
      ap (stored_register f s) stands.0
      ∙ ap (register_of f s r) (no_place r stands.1)
      ∙ ap (option_map (λ v. operand_stored (value_operand v))) (local_there r stands.4 stands.5)
  register_there place free x free1 (in_next entry v) value stands next = ap (register_of f s x) (place_of_next s.base place x (omega (arith, stands.0, next, step.base)))

  pub operand_there : (place free x free1 : ℕ) (kept : Kept) → StandsIn f count listed free x free1 kept → free ≡ count + place → stored_operand f s x ≡ Some (stored_at place kept)
  operand_there place free x free1 (in_word number) stands next =
      let minus : number + 256 - 256 ≡ number = omega arith in
      let constant : Option ℕ → Option StoredValue = option_map (λ k. operand_stored (constant_operand k)) in
      ap (stored_operand f s) stands.0
      ∙ ap (λ far. if far then constant (constant_in f (number + 256 - 256)) else stored_register f s (number + 256)) (le-leb 256 (number + 256) (omega arith))
      ∙ ap (λ n. constant (constant_in f n)) minus
      ∙ ap (λ within. constant (if within then Some number else None)) (lt-ltb number (length f.of.constants) stands.1)
  operand_there place free x free1 (in_local r) stands next =
      ap (λ far. if far then option_map (λ k. operand_stored (constant_operand k)) (constant_in f (x - 256)) else stored_register f s x) (not_below x 256 (omega (arith, stands.0, stands.1, stands.2)))
      ∙ register_there place free x free1 (in_local r) tt stands next
  operand_there place free x free1 (in_next entry v) stands next =
      ap (λ far. if far then option_map (λ k. operand_stored (constant_operand k)) (constant_in f (x - 256)) else stored_register f s x) (not_below x 256 (omega (arith, stands.0, stands.1)))
      ∙ register_there place free x free1 (in_next entry v) tt stands next

-- the only entry is the function that its value is, where it is one; a constructor is none
pub only_entry : (entry : EntryValue) (v : Value) → single_of entry ≡ Some v → stored_function None (entry ∷ []) ≡ function_number v
only_entry (value_entry w) v is = ap function_number (same_Some w v is)
only_entry (maker_entry items all) v is = ap function_number (given_is (nat_lt (deepest_item items) 400) _ v is)
only_entry entry v is = cc
