-- The first rule that is broken at a place, and the first place.
use Rattle.std.proofs.Common.{◌∙◌, ◌≡◌, inl, inr, ℕ, suc, ◌+◌, ◌-◌, ◌<◌, ◌≤◌, Bool, true, false, ◌&&◌, ◌||◌, not, List, [], ◌∷◌, ◌++◌, length, None, Some, refl, sym, ap, subst, arith, true≢false}
use Rattle.std.specs.Prelude.{Option, slice_get, option_and_then, if◌then◌else◌, ◌==◌, nat_lt}
use Rattle.std.specs.List.{list_any}
use Rattle.std.proofs.lemmas.Option.{slice_get_past}
use Rattle.std.proofs.lemmas.Bool.{eqb-true, eqb-false, ltb-true, ltb-false}
use Rattle.opcode.specs.declared.word.Instr.{Instr}
use Rattle.opcode.specs.Reading.{instr_of}
use Rattle.proto.specs.Chunk.{Chunk, own}
use Rattle.rules.specs.declared.rule.Rule.{Rule}
use Rattle.rules.specs.Words.{instr_at}
use Rattle.rules.specs.Places.{is_further}
use Rattle.rules.specs.Notes.{Note, Notes}
use Rattle.rules.specs.Breaks.{breaks, instr_breaks, place_breaks, word_breaks, is_shape, breaks_shape}
use Rattle.rules.specs.Sound.{HasNotes, IsEarlier, RejectedAt, rule_number}
use Rattle.rules.proofs.Lists.{none_some, some_one}
use Rattle.rules.proofs.LeastNotes.{breaks_more}
use Rattle.verifier.specs.Least.{AreLeast}
use Rattle.verifier.specs.Rules.{first_of, rules_before_shape, all_rules}

-- two tests that agree but for Shape
first_agree : (t u : Rule → Bool) → ((rule : Rule) → is_shape rule ≡ false → t rule ≡ u rule) → (rules : List Rule) → list_any is_shape rules ≡ false → first_of t rules ≡ first_of u rules
first_agree t u same [] plain = refl
first_agree t u same (x ∷ rules) plain = go (is_shape x) refl (first_agree t u same rules)
  where
    go : (b : Bool) → is_shape x ≡ b → (list_any is_shape rules ≡ false → first_of t rules ≡ first_of u rules) → first_of t (x ∷ rules) ≡ first_of u (x ∷ rules)
    go true e rest = absurd (true≢false (sym (ap (λ b. b || list_any is_shape rules) e) ∙ plain))
    go false e rest = ap (λ b. if b then Some x else first_of t rules) (same x e) ∙ ap (λ o. if u x then Some x else o) (rest (sym (ap (λ b. b || list_any is_shape rules) e) ∙ plain))

instr_as : (f : Chunk) (main : Bool) (notes : Notes) (pc : ℕ) (i : Instr) (n : Option Note) → is_further f pc ≡ false → Some i ≡ instr_at f pc → notes pc ≡ n → (rule : Rule) → is_shape rule ≡ false → instr_breaks f n pc i rule ≡ breaks f main notes pc rule
instr_as f main notes pc i n place at note rule plain =
    go (slice_get (own f).code pc) at ∙ ap (λ m. place_breaks f m pc (slice_get (own f).code pc) rule) (sym note) ∙ ap (λ b. not b && place_breaks f (notes pc) pc (slice_get (own f).code pc) rule) (sym place) ∙ ap (λ b. if b then pc == 0 && breaks_shape f main else not (is_further f pc) && place_breaks f (notes pc) pc (slice_get (own f).code pc) rule) (sym plain)
  where
    go : (o : Option ℕ) → Some i ≡ option_and_then instr_of o → instr_breaks f n pc i rule ≡ place_breaks f n pc o rule
    go None e = none_some i (sym e)
    go (Some w) e = ap (λ x. word_breaks f n pc x rule) e

-- the first rule before Shape that a word breaks
pub word_first : (f : Chunk) (main : Bool) (notes : Notes) (pc : ℕ) (i : Instr) (n : Option Note) (found : Option Rule) → true ≡ (nat_lt pc (length (own f).code) && not (is_further f pc)) → Some i ≡ instr_at f pc → notes pc ≡ n → found ≡ first_of (instr_breaks f n pc i) rules_before_shape → found ≡ first_of (breaks f main notes pc) rules_before_shape
word_first f main notes pc i n found place at note is = is ∙ first_agree (instr_breaks f n pc i) (breaks f main notes pc) (instr_as f main notes pc i n (no_further (nat_lt pc (length (own f).code)) (is_further f pc) place) at note) rules_before_shape refl
  where
    no_further : (low further : Bool) → true ≡ (low && not further) → further ≡ false
    no_further true false e = refl
    no_further true true e = absurd (true≢false e)
    no_further false further e = absurd (true≢false e)

abbrev pub or_else : Option Rule → Option Rule → Option Rule
or_else None other = other
or_else (Some rule) other = Some rule

first_both : (t : Rule → Bool) (xs ys : List Rule) → first_of t (xs ++ ys) ≡ or_else (first_of t xs) (first_of t ys)
first_both t [] ys = refl
first_both t (x ∷ xs) ys = go (t x) (first_both t xs ys)
  where
    go : (b : Bool) → first_of t (xs ++ ys) ≡ or_else (first_of t xs) (first_of t ys) → (if b then Some x else first_of t (xs ++ ys)) ≡ or_else (if b then Some x else first_of t xs) (first_of t ys)
    go true e = refl
    go false e = e

-- the first rule of all, by the first before Shape
pub first_all : (t : Rule → Bool) → first_of t all_rules ≡ or_else (first_of t rules_before_shape) (if t Rule.Shape then Some Rule.Shape else if t Rule.FallsOff then Some Rule.FallsOff else None)
first_all t = first_both t rules_before_shape (Rule.Shape ∷ Rule.FallsOff ∷ [])

pub at_word : (t : Rule → Bool) (rule : Rule) → Some rule ≡ first_of t rules_before_shape → Some rule ≡ first_of t all_rules
at_word t rule is = ap (λ o. or_else o (first_of t (Rule.Shape ∷ Rule.FallsOff ∷ []))) is ∙ sym (first_all t)

after_words : (t : Rule → Bool) → None ≡ first_of t rules_before_shape → first_of t (Rule.Shape ∷ Rule.FallsOff ∷ []) ≡ first_of t all_rules
after_words t none = ap (λ o. or_else o (first_of t (Rule.Shape ∷ Rule.FallsOff ∷ []))) none ∙ sym (first_all t)

pub at_shape : (t : Rule → Bool) → None ≡ first_of t rules_before_shape → t Rule.Shape ≡ true → Some Rule.Shape ≡ first_of t all_rules
at_shape t none is = sym (ap (λ b. if b then Some Rule.Shape else (if t Rule.FallsOff then Some Rule.FallsOff else None)) is) ∙ after_words t none

pub at_end : (t : Rule → Bool) (b : Bool) → None ≡ first_of t rules_before_shape → t Rule.Shape ≡ false → t Rule.FallsOff ≡ b → (if b then Some Rule.FallsOff else None) ≡ first_of t all_rules
at_end t b none isnt is = ap (λ x. if x then Some Rule.FallsOff else None) (sym is) ∙ sym (ap (λ x. if x then Some Rule.Shape else (if t Rule.FallsOff then Some Rule.FallsOff else None)) isnt) ∙ after_words t none

numbered : (r : Rule) → slice_get all_rules (rule_number r - 1) ≡ Some r
numbered Rule.BadWord = refl
numbered Rule.Register = refl
numbered Rule.Constant = refl
numbered Rule.Function = refl
numbered Rule.Upvalue = refl
numbered Rule.JumpTarget = refl
numbered Rule.NameConstant = refl
numbered Rule.OpenResults = refl
numbered Rule.LoopNumbers = refl
numbered Rule.LoopCaptured = refl
numbered Rule.FurtherWord = refl
numbered Rule.NoJump = refl
numbered Rule.Shape = refl
numbered Rule.FallsOff = refl

same_rule : (r s : Rule) → rule_number r ≡ rule_number s → r ≡ s
same_rule r s e = some_one r s (sym (numbered r) ∙ ap (λ n. slice_get all_rules (n - 1)) e ∙ numbered s)

-- all rules from one number on, in order
abbrev AreFrom : ℕ → List Rule → Type 0
AreFrom n [] = n ≡ 15
AreFrom n (x ∷ rules) = (rule_number x ≡ n) × AreFrom (suc n) rules

numbers_small : (r : Rule) → rule_number r < 15
numbers_small Rule.BadWord = omega arith
numbers_small Rule.Register = omega arith
numbers_small Rule.Constant = omega arith
numbers_small Rule.Function = omega arith
numbers_small Rule.Upvalue = omega arith
numbers_small Rule.JumpTarget = omega arith
numbers_small Rule.NameConstant = omega arith
numbers_small Rule.OpenResults = omega arith
numbers_small Rule.LoopNumbers = omega arith
numbers_small Rule.LoopCaptured = omega arith
numbers_small Rule.FurtherWord = omega arith
numbers_small Rule.NoJump = omega arith
numbers_small Rule.Shape = omega arith
numbers_small Rule.FallsOff = omega arith

numbers_from_one : (r : Rule) → 1 ≤ rule_number r
numbers_from_one Rule.BadWord = omega arith
numbers_from_one Rule.Register = omega arith
numbers_from_one Rule.Constant = omega arith
numbers_from_one Rule.Function = omega arith
numbers_from_one Rule.Upvalue = omega arith
numbers_from_one Rule.JumpTarget = omega arith
numbers_from_one Rule.NameConstant = omega arith
numbers_from_one Rule.OpenResults = omega arith
numbers_from_one Rule.LoopNumbers = omega arith
numbers_from_one Rule.LoopCaptured = omega arith
numbers_from_one Rule.FurtherWord = omega arith
numbers_from_one Rule.NoJump = omega arith
numbers_from_one Rule.Shape = omega arith
numbers_from_one Rule.FallsOff = omega arith

found_true : (t : Rule → Bool) (rules : List Rule) (rule : Rule) → first_of t rules ≡ Some rule → t rule ≡ true
found_true t [] rule e = none_some rule e
found_true t (x ∷ rules) rule e = go (t x) refl e (found_true t rules rule)
  where
    go : (b : Bool) → t x ≡ b → (if b then Some x else first_of t rules) ≡ Some rule → (first_of t rules ≡ Some rule → t rule ≡ true) → t rule ≡ true
    go true is f rest = ap t (sym (some_one x rule f)) ∙ is
    go false is f rest = rest f

before_false : (t : Rule → Bool) (n : ℕ) (rules : List Rule) (rule r : Rule) → AreFrom n rules → first_of t rules ≡ Some rule → n ≤ rule_number r → rule_number r < rule_number rule → t r ≡ false
before_false t n [] rule r from e low high = none_some rule e
before_false t n (x ∷ rules) rule r from e low high = go (t x) refl e (before_false t (suc n) rules rule r from.1)
  where
    go : (b : Bool) → t x ≡ b → (if b then Some x else first_of t rules) ≡ Some rule → (first_of t rules ≡ Some rule → suc n ≤ rule_number r → rule_number r < rule_number rule → t r ≡ false) → t r ≡ false
    go true is f rest = absurd (omega (arith, ap rule_number (some_one x rule f), from.0, low, high))
    go false is f rest = next (rule_number r == n) refl
      where
        next : (b : Bool) → (rule_number r == n) ≡ b → t r ≡ false
        next true g = ap t (same_rule r x (eqb-true (rule_number r) n g ∙ sym from.0)) ∙ is
        next false g = rest f (omega (arith, low, λ (h : rule_number r ≡ n). eqb-false (rule_number r) n g h)) high

none_false : (t : Rule → Bool) (n : ℕ) (rules : List Rule) (r : Rule) → AreFrom n rules → None ≡ first_of t rules → n ≤ rule_number r → t r ≡ false
none_false t n [] r from e low = absurd (omega (arith, numbers_small r, from, low))
none_false t n (x ∷ rules) r from e low = go (t x) refl e (none_false t (suc n) rules r from.1)
  where
    go : (b : Bool) → t x ≡ b → None ≡ (if b then Some x else first_of t rules) → (None ≡ first_of t rules → suc n ≤ rule_number r → t r ≡ false) → t r ≡ false
    go true is f rest = none_some x f
    go false is f rest = next (rule_number r == n) refl
      where
        next : (b : Bool) → (rule_number r == n) ≡ b → t r ≡ false
        next true g = ap t (same_rule r x (eqb-true (rule_number r) n g ∙ sym from.0)) ∙ is
        next false g = rest f (omega (arith, low, λ (h : rule_number r ≡ n). eqb-false (rule_number r) n g h))

from_one : AreFrom 1 all_rules
from_one = (refl, (refl, (refl, (refl, (refl, (refl, (refl, (refl, (refl, (refl, (refl, (refl, (refl, (refl, refl))))))))))))))

-- nothing is broken at one more place
pub none_at : (f : Chunk) (main : Bool) (notes : Notes) (pc : ℕ) → None ≡ first_of (breaks f main notes pc) all_rules → ((p : ℕ) (r : Rule) → p < pc → breaks f main notes p r ≡ false) → (p : ℕ) (r : Rule) → p < pc + 1 → breaks f main notes p r ≡ false
none_at f main notes pc is so p r low = go (p == pc) refl
  where
    go : (b : Bool) → (p == pc) ≡ b → breaks f main notes p r ≡ false
    go true e = subst (λ x. breaks f main notes x r ≡ false) (sym (eqb-true p pc e)) (none_false (breaks f main notes pc) 1 all_rules r from_one is (numbers_from_one r))
    go false e = so p r (omega (arith, low, λ (h : p ≡ pc). eqb-false p pc e h))

-- where the least notes break a rule first the function is rejected
pub found_rejected : (f : Chunk) (main : Bool) (notes : Notes) (pc : ℕ) (rule : Rule) → AreLeast f notes → Some rule ≡ first_of (breaks f main notes pc) all_rules → ((p : ℕ) (r : Rule) → p < pc → breaks f main notes p r ≡ false) → RejectedAt f main pc rule
found_rejected f main notes pc rule least is so = record {
  always = λ others co. breaks_more f notes others (least.least others co) main pc rule (found_true (breaks f main notes pc) all_rules rule (sym is));
  notes = notes;
  consistent = least.consistent;
  first = λ p r earlier. go p r earlier;
}
  where
    go : (p : ℕ) (r : Rule) → IsEarlier p r pc rule → breaks f main notes p r ≡ false
    go p r (inl low) = so p r low
    go p r (inr same) = subst (λ x. breaks f main notes x r ≡ false) (sym same.0) (before_false (breaks f main notes pc) 1 all_rules rule r from_one (sym is) (numbers_from_one r) same.1)

-- nothing is broken past the end
past_end : (f : Chunk) (main : Bool) (notes : Notes) (p : ℕ) (r : Rule) → length (own f).code ≤ p → 1 ≤ p → breaks f main notes p r ≡ false
past_end f main notes p r past some = go (is_shape r) (p == 0) refl
  where
    none : (o : Option ℕ) → o ≡ None → place_breaks f (notes p) p o r ≡ false
    none o e = ap (λ x. place_breaks f (notes p) p x r) e

    and_none : (b c : Bool) → c ≡ false → (b && c) ≡ false
    and_none true c e = e
    and_none false c e = refl

    go : (b z : Bool) → (p == 0) ≡ z → (if b then z && breaks_shape f main else not (is_further f p) && place_breaks f (notes p) p (slice_get (own f).code p) r) ≡ false
    go true true e = absurd (omega (arith, some, eqb-true p 0 e))
    go true false e = refl
    go false z e = and_none _ _ (none _ (slice_get_past (own f).code p past))

-- where the least notes break nothing the function has notes that break none
pub none_noted : (f : Chunk) (main : Bool) (notes : Notes) (end : ℕ) → AreLeast f notes → length (own f).code ≤ end → 1 ≤ end → ((p : ℕ) (r : Rule) → p < end → breaks f main notes p r ≡ false) → HasNotes f main
none_noted f main notes end least past some so = (notes, record { consistent = least.consistent; keeps = λ p r. go p r (nat_lt p end) refl })
  where
    go : (p : ℕ) (r : Rule) (b : Bool) → nat_lt p end ≡ b → breaks f main notes p r ≡ false
    go p r true e = so p r (ltb-true p end e)
    go p r false e = past_end f main notes p r (omega (arith, past, ltb-false p end e)) (omega (arith, some, ltb-false p end e))
