-- Which words begin a value, and which want one.
use Rattle.std.proofs.Common.{◌≡◌, ◌≢◌, ◌⊎◌, ℕ, zero, suc, ◌+◌, ◌<◌, ◌≤◌, Bool, true, ◌&&◌, ◌||◌, length, Option, None, Some, refl, ap, ◌∙◌, subst, subst₂, arith, inl, inr, lt-ltb, nat_lt, sym}
use Rattle.std.proofs.lemmas.Bool.{ne_eqb}
use Rattle.std.specs.Prelude.{◌==◌, not, option_and_then, slice_get}
use Rattle.opcode.specs.Reading.{instr_of}
use Rattle.opcode.specs.declared.word.Instr.{Instr}
use Rattle.recover_expr.specs.Effects.{makes_value, reads_from}
use Rattle.recover_expr.specs.Items.{all_stay, calls_method, calls_method_at, further_words, is_read_behind, is_so, makes_above, stores_alone}
use Rattle.recover_expr.specs.Locals.{Scope}
use Rattle.recover_expr.specs.Situation.{Function, Situation, instr_at}
use Rattle.scheme.specs.declared.making.Piece.{Piece}
use Rattle.scheme_stands.specs.Words.{Fn, Spot, WordAt, IsRead, instr_by}
use Rattle.reads_back.proofs.BehindWords.{SameLocals, stay_same}
use Rattle.reads_back.proofs.Comes.{Begins, IsWanted, wants_lowest}
use Rattle.reads_back.proofs.Tests.{both_hold, not_so, or_first, or_second}
use Rattle.reads_back.proofs.WordsRead.{IsFunction, instr_there}

pub instr_is : {f : Function} {g : Fn} {w : Piece} {p q : Spot} → IsFunction f g → WordAt g w p q → IsRead p.pc w → instr_at f p.pc ≡ Some (instr_by p.pc w)
instr_is {g = g} {w} {p} is_function at read = ap (λ code. option_and_then instr_of (slice_get code p.pc)) is_function.code ∙ instr_there g.code p.pc w at.has read

pub word_begins : {f : Function} {g : Fn} {w : Piece} {p q : Spot} (from : ℕ) → IsFunction f g → WordAt g w p q → IsRead p.pc w → makes_value (instr_by p.pc w).op ≡ true → (instr_by p.pc w).a ≡ from → Begins f from p.pc
word_begins {w = w} {p} from is_function at read makes register = record { instr = instr_by p.pc w; there = instr_is is_function at read; makes = makes; register = inl register }

-- or for the second one above
pub second_begins : {f : Function} {g : Fn} {w : Piece} {p q : Spot} (from : ℕ) → IsFunction f g → WordAt g w p q → IsRead p.pc w → makes_value (instr_by p.pc w).op ≡ true → (instr_by p.pc w).a ≡ from + 2 → Begins f from p.pc
second_begins {w = w} {p} from is_function at read makes register = record { instr = instr_by p.pc w; there = instr_is is_function at read; makes = makes; register = inr register }

-- the register is no lower
pub begins_above : {f : Function} {from pc : ℕ} (begins : Begins f from pc) → from ≤ begins.instr.a
begins_above {from = from} begins = by begins.register
  where
    by : (begins.instr.a ≡ from) ⊎ (begins.instr.a ≡ from + 2) → from ≤ begins.instr.a
    by (inl is) = omega (arith, is)
    by (inr is) = omega (arith, is)

-- the same of equal numbers
pub begins_same : {f : Function} {from other pc first : ℕ} → other ≡ from → first ≡ pc → Begins f from pc → Begins f other first
begins_same {f} same there begins = subst₂ (λ (from pc : ℕ). Begins f from pc) (sym same) (sym there) begins

-- ---- what is wanted

-- a word wants the lowest one where no local is over and it wants it so
lowest_wanted : (f : Function) (pc : ℕ) (i : Instr) (s : Situation) → all_stay f s.scope pc ≡ true → instr_at f pc ≡ Some i →
    (reads_from i s.base || (makes_above f s.base pc i || (stores_alone i s.base && is_read_behind f s.base pc i))) ≡ true → IsWanted f s pc
lowest_wanted f pc i s stay there wants = inr (inr (ap (is_so (wants_lowest f s.scope s.base pc)) there ∙ both_hold _ _ stay wants))

-- a word that reads a register of the statement wants the lowest one
pub reads_want : (f : Function) (pc : ℕ) (s : Situation) → all_stay f s.scope pc ≡ true → is_so (λ i. reads_from i s.base) (instr_at f pc) ≡ true → IsWanted f s pc
reads_want f pc s stay reads = of_word (instr_at f pc) refl
  where
    of_word : (there : Option Instr) → instr_at f pc ≡ there → IsWanted f s pc
    of_word None is = not_so (sym (ap (is_so (λ i. reads_from i s.base)) is) ∙ reads)
    of_word (Some i) is = lowest_wanted f pc i s stay is (or_first (reads_from i s.base) _ (sym (ap (is_so (λ i. reads_from i s.base)) is) ∙ reads))

pub word_wants : {f : Function} {g : Fn} {w : Piece} {p q : Spot} (s : Situation) → all_stay f s.scope p.pc ≡ true → IsFunction f g → WordAt g w p q → IsRead p.pc w → reads_from (instr_by p.pc w) s.base ≡ true → IsWanted f s p.pc
word_wants {f} {w = w} {p} s stay is_function at read reads =
    reads_want f p.pc s stay (ap (is_so (λ i. reads_from i s.base)) (instr_is is_function at read) ∙ reads)

-- so does one that makes a value for a higher one, which is not the second one above it
makes_far : (f : Function) (register pc : ℕ) (i : Instr) → makes_value i.op ≡ true → register < i.a → i.a ≢ register + 2 → makes_above f register pc i ≡ true
makes_far f register pc i makes above other =
    both_hold _ _ makes (both_hold _ _ (lt-ltb register i.a above) (or_first _ (calls_method_at f register (pc + 1)) (ap not (ne_eqb i.a (register + 2) other))))

pub begins_far : {f : Function} (register pc : ℕ) (begins : Begins f (register + 1) pc) → makes_above f register pc begins.instr ≡ true
begins_far {f} register pc begins = by begins.register
  where
    by : (begins.instr.a ≡ register + 1) ⊎ (begins.instr.a ≡ register + 1 + 2) → makes_above f register pc begins.instr ≡ true
    by (inl is) = makes_far f register pc begins.instr begins.makes (omega (arith, is)) (λ same. omega (arith, is, same))
    by (inr is) = makes_far f register pc begins.instr begins.makes (omega (arith, is)) (λ same. omega (arith, is, same))

-- where nothing else of the statement stands there, the next register is the one that a value begins with
pub begins_wants : {f : Function} {from pc : ℕ} (s : Situation) → all_stay f s.scope pc ≡ true → Begins f from pc → (length s.entries ≡ 0 → from ≡ s.base + 1) → IsWanted f s pc
begins_wants {f} {from} {pc} s stay begins next = by (length s.entries) refl
  where
    by : (n : ℕ) → length s.entries ≡ n → IsWanted f s pc
    by (suc n) some = inl (omega (arith, some))
    by zero none =
        let begun : Begins f (s.base + 1) pc = subst (λ (from : ℕ). Begins f from pc) (next none) begins in
        lowest_wanted f pc begun.instr s stay begun.there (or_second (reads_from begun.instr s.base) _ (or_first _ _ (begins_far s.base pc begun)))

-- and the load of the name of a method that is called on it
pub name_wants : (f : Function) (pc : ℕ) (i call : Instr) (s : Situation) → all_stay f s.scope pc ≡ true → instr_at f pc ≡ Some i → makes_value i.op ≡ true → s.base < i.a →
    pc + 1 < f.last → instr_at f (pc + 1) ≡ Some call → calls_method call s.base ≡ true → IsWanted f s pc
name_wants f pc i call s stay there makes above before is calls =
    let called : calls_method_at f s.base (pc + 1) ≡ true = both_hold _ _ (lt-ltb (pc + 1) f.last before) (ap (is_so (λ i. calls_method i s.base)) is ∙ calls) in
    lowest_wanted f pc i s stay there (or_second (reads_from i s.base) _ (or_first _ _ (both_hold _ _ makes (both_hold _ _ (lt-ltb s.base i.a above) (or_second (not (i.a == s.base + 2)) _ called)))))

-- and a store that reads no register of the statement, where the word behind it reads one
pub store_wants : (f : Function) (pc next : ℕ) (i : Instr) (s : Situation) → all_stay f s.scope pc ≡ true → instr_at f pc ≡ Some i → stores_alone i s.base ≡ true → next ≡ pc + 1 + further_words f i.op i → next < f.last →
    is_so (λ i. reads_from i s.base) (instr_at f next) ≡ true → IsWanted f s pc
store_wants f pc next i s stay there alone is_next before reads =
    let behind = ap (λ (behind : ℕ). nat_lt behind f.last && is_so (λ i. reads_from i s.base) (instr_at f behind)) (sym is_next) ∙ both_hold _ _ (lt-ltb next f.last before) reads in
    lowest_wanted f pc i s stay there (or_second (reads_from i s.base) _ (or_second (makes_above f s.base pc i) _ (both_hold _ _ alone behind)))

-- behind words the same is wanted
pub lowest_same : (f : Function) (base pc : ℕ) {scope behind : Scope} → SameLocals scope behind → is_so (wants_lowest f behind base pc) (instr_at f pc) ≡ is_so (wants_lowest f scope base pc) (instr_at f pc)
lowest_same f base pc same =
    ap (λ (stay : Bool). is_so (λ i. stay && (reads_from i base || (makes_above f base pc i || (stores_alone i base && is_read_behind f base pc i)))) (instr_at f pc)) (stay_same f pc same)

pub wanted_above : (f : Function) (s : Situation) (last : ℕ) → 0 < length s.entries → IsWanted f s last
wanted_above f s last some = inl some
