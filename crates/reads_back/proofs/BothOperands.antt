-- Two operands one behind the other, and the constants that a word names: what both take.
use Rattle.std.proofs.Common.{◌≡◌, ℕ, ◌-◌, max, nat_le, true, false, Bool, ◌++◌, length-append, Some, refl, sym, ap, ◌∙◌, arith, ◌≤◌, ◌<◌}
use Rattle.std.proofs.Math.Nat.{max-zero}
use Rattle.std.specs.Prelude.{if◌then◌else◌, ◌||◌}
use Rattle.std.proofs.lemmas.Bool.Decides.{nat_tests}
use Rattle.core_expr.specs.Counting.{one_more, taken_behind_operand}
use Rattle.core_expr.specs.Values.{Value, OperandValue, constant_operand, value_operand}
use Rattle.recover_expr.specs.Situation.{Function, Situation, pop_operand, see_constant, see_operand}
use Rattle.recover_expr.specs.Effects.{is_from}
use Rattle.reads_back.proofs.BehindWords.{behind_words}
use Rattle.reads_back.proofs.Comes.{OperandComes}
use Rattle.reads_back.proofs.Reaches.{Reaches, reaches_then}
use Rattle.reads_back.proofs.Taking.{max_swap, operand_taken_later}
use Rattle.reads_back.proofs.ValueWords.{next_free}

-- ---- values and constants as operands

-- a value as an operand
abbrev pub as_operand : (Value × Situation) → OperandValue × Situation
as_operand p = (value_operand p.0, p.1)

-- a constant as an operand
abbrev pub with_constant : Situation → ℕ → OperandValue × Situation
with_constant t k = (constant_operand k, t)

-- no two values are one operand
pub same_value : (v w : Value) → value_operand v ≡ value_operand w → v ≡ w
same_value v w is = cc

-- a register in one of both fields is read
pub first_is_read : (base x y : ℕ) → base ≤ x → x < 256 → (is_from x base || is_from y base) ≡ true
first_is_read base x y above small = grind (arith, nat_tests)

pub second_is_read : (base x y : ℕ) → base ≤ y → y < 256 → (is_from x base || is_from y base) ≡ true
second_is_read base x y above small = grind (arith, nat_tests)

-- ---- constants that operands name

-- so many constants are taken with a constant of an operand
abbrev pub counted : (x : ℕ) → ℕ
counted x = if nat_le 256 x then one_more (x - 256) else 0

seen_by : (is_constant : Bool) (number : ℕ) (t : Situation) → (if is_constant then see_constant number t else t) ≡ record t { seen = max t.seen (if is_constant then one_more number else 0) }
seen_by true number t = refl
seen_by false number t = ap (λ (n : ℕ). record t { seen = n }) (sym (max-zero t.seen))

pub seen_with : (x : ℕ) (t : Situation) → see_operand x t ≡ record t { seen = max t.seen (counted x) }
seen_with x t = seen_by (nat_le 256 x) (x - 256) t

pub seen_with_both : (x y : ℕ) (t : Situation) → see_operand y (see_operand x t) ≡ record t { seen = max (max t.seen (counted x)) (counted y) }
seen_with_both x y t = ap (see_operand y) (seen_with x t) ∙ seen_with y (record t { seen = max t.seen (counted x) })

-- ---- operands one behind the other

abbrev pub behind_operand : {f : Function} {Is : OperandValue → Type 0} {deep free x free1 first last : ℕ} {s : Situation} → OperandComes f Is deep s free x free1 first last → Situation
behind_operand {s = s} one = behind_words one.scope one.seen one.more s

pub next_behind : {f : Function} {Is : OperandValue → Type 0} {deep free x free1 first last : ℕ} {s : Situation} (one : OperandComes f Is deep s free x free1 first last) → free ≡ next_free s → free1 ≡ next_free (behind_operand one)
next_behind {s = s} one is = omega (arith, one.counts, is, length-append s.entries one.more)

pub constants_taken : {f : Function} {Is : OperandValue → Type 0} {deep free x free1 first last : ℕ} {s : Situation} (one : OperandComes f Is deep s free x free1 first last) → max one.seen (counted x) ≡ taken_behind_operand one.operand s.seen
constants_taken {x = x} one = sym (ap (λ (t : Situation). t.seen) (seen_with x (behind_operand one))) ∙ one.taken (behind_operand one) refl

abbrev pub with_seen : ℕ → Situation → Situation
with_seen n s = record s { seen = n }

module _ {f : Function} {Left Right : OperandValue → Type 0} {deep free x free1 y free2 first mid last : ℕ} {s : Situation} (one : OperandComes f Left deep s free x free1 first mid)
    (two : OperandComes f Right deep (behind_operand one) free1 y free2 mid last) where
  pub both_reach : Reaches f first s last (behind_operand two)
  both_reach = reaches_then one.reaches two.reaches

  pub second_popped : (n : ℕ) → free ≡ next_free s → pop_operand f y (with_seen n (behind_operand two)) ≡ Some (two.operand, with_seen n (behind_words two.scope one.seen one.more s))
  second_popped n is = two.popped (with_seen n (behind_operand two)) (s.entries ++ one.more) refl two.same.active refl (sym (next_behind one is))

  pub first_popped : (n : ℕ) → free ≡ next_free s → pop_operand f x (with_seen n (behind_words two.scope one.seen one.more s)) ≡ Some (one.operand, record s { scope = two.scope; seen = n })
  first_popped n is = one.popped (with_seen n (behind_words two.scope one.seen one.more s)) s.entries refl (two.same.active ∙ one.same.active) refl (sym is)

  -- the word names them together, behind all words of the operands
  pub both_taken : max (max two.seen (counted x)) (counted y) ≡ taken_behind_operand two.operand (taken_behind_operand one.operand s.seen)
  both_taken =
      max_swap two.seen (counted x) (counted y)
      ∙ ap (λ n. max n (counted x)) (constants_taken two)
      ∙ sym (operand_taken_later two.operand one.seen (counted x))
      ∙ ap (taken_behind_operand two.operand) (constants_taken one)
