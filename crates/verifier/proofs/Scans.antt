-- Loops over the words of a function.
use Rattle.std.proofs.Common.{◌∙◌, ◌≡◌, ℕ, zero, suc, ◌+◌, ◌<◌, ◌≤◌, Bool, true, false, ◌&&◌, ◌||◌, not, List, [], ◌∷◌, length, drop, None, refl, sym, ap, arith, not-suc-le-zero, le_of_suc-le-suc}
use Rattle.std.specs.Prelude.{get_or, slice_get, nat_le, option_and_then, if◌then◌else◌}
use Rattle.std.specs.List.{list_any}
use Rattle.std.proofs.lemmas.List.{at_drop_more, at_drop_all}
use Rattle.std.proofs.lemmas.List.Folds.{list_any-append}
use Rattle.opcode.specs.declared.op.Op.{Op}
use Rattle.opcode.specs.Reading.{instr_of}
use Rattle.proto.specs.Chunk.{Chunk, Functions}
use Rattle.rules.specs.Words.{instr_at}
use Rattle.rules.specs.Places.{further_from, is_further, belonging, named_by, named_by_all}
use Rattle.rules.specs.Breaks.{reaches, has_vararg, is_vararg_word, leaves, left_before}

one_more : (n : ℕ) → n + 1 ≡ suc n
one_more n = omega arith

pub any_some : (test : ℕ → Bool) (words : List ℕ) (k : ℕ) (all : Bool) → k < length words → test (get_or words k 0) ≡ true → all ≡ list_any test (drop k words) → true ≡ all
any_some test words k all low is so = sym (so ∙ at_drop_more (list_any test) words k 0 low ∙ ap (λ b. b || list_any test (drop (k + 1) words)) is)

pub any_end : (test : ℕ → Bool) (words : List ℕ) (k : ℕ) (all : Bool) → length words ≤ k → all ≡ list_any test (drop k words) → false ≡ all
any_end test words k all past so = sym (so ∙ at_drop_all (list_any test) words k past)

-- the further words that name something past a limit, one by one
pub named_one_by_one : (by : Op) (limit : ℕ) (words : List ℕ) → reaches limit (named_by_all by words) ≡ list_any (λ w. reaches limit (named_by by (instr_of w))) words
named_one_by_one by limit [] = refl
named_one_by_one by limit (w ∷ words) = list_any-append (nat_le limit) (named_by by (instr_of w)) (named_by_all by words) ∙ ap (λ b. reaches limit (named_by by (instr_of w)) || b) (named_one_by_one by limit words)

-- as many marks as words
pub length-further : (inner : Functions) (n : ℕ) (words : List ℕ) → length (further_from inner n words) ≡ length words
length-further inner n [] = refl
length-further inner zero (w ∷ words) = ap suc (length-further inner (belonging inner (instr_of w)) words)
length-further inner (suc n) (w ∷ words) = ap suc (length-further inner n words)

abbrev pub is_vararg_at : List Bool → List ℕ → ℕ → Bool
is_vararg_at marks words k = not (get_or marks k false) && is_vararg_word (option_and_then instr_of (slice_get words k))

vararg_at : (marks : List Bool) (words : List ℕ) (k : ℕ) → length marks ≡ length words → k < length words → has_vararg (drop k marks) (drop k words) ≡ (if is_vararg_at marks words k then true else has_vararg (drop (suc k) marks) (drop (suc k) words))
vararg_at marks [] k same low = absurd (not-suc-le-zero low)
vararg_at [] (w ∷ words) k same low = absurd (omega (arith, same))
vararg_at (true ∷ marks) (w ∷ words) zero same low = refl
vararg_at (false ∷ marks) (w ∷ words) zero same low = refl
vararg_at (m ∷ marks) (w ∷ words) (suc k) same low = vararg_at marks words k (omega (arith, same)) (le_of_suc-le-suc low)

pub vararg_none : (marks : List Bool) (words : List ℕ) (k : ℕ) (all : Bool) → length marks ≡ length words → k < length words → is_vararg_at marks words k ≡ false → all ≡ has_vararg (drop k marks) (drop k words) → all ≡ has_vararg (drop (k + 1) marks) (drop (k + 1) words)
vararg_none marks words k all same low isnt so = so ∙ vararg_at marks words k same low ∙ ap (λ b. if b then true else has_vararg (drop (suc k) marks) (drop (suc k) words)) isnt ∙ ap (λ n. has_vararg (drop n marks) (drop n words)) (sym (one_more k))

pub vararg_some : (marks : List Bool) (words : List ℕ) (k : ℕ) (all : Bool) → length marks ≡ length words → k < length words → is_vararg_at marks words k ≡ true → all ≡ has_vararg (drop k marks) (drop k words) → true ≡ all
vararg_some marks words k all same low is so = sym (so ∙ vararg_at marks words k same low ∙ ap (λ b. if b then true else has_vararg (drop (suc k) marks) (drop (suc k) words)) is)

pub vararg_end : (marks : List Bool) (words : List ℕ) (k : ℕ) (all : Bool) → length words ≤ k → all ≡ has_vararg (drop k marks) (drop k words) → false ≡ all
vararg_end marks words k all past so = sym (so ∙ at_drop_all (has_vararg (drop k marks)) words k past ∙ none (drop k marks))
  where
    none : (ms : List Bool) → has_vararg ms [] ≡ false
    none [] = refl
    none (false ∷ ms) = refl
    none (true ∷ ms) = refl

-- what the word before a pc leaves
pub left_behind : (f : Chunk) (pc before : ℕ) → pc ≡ suc before → (if is_further f before then None else option_and_then (λ i. leaves i.op i) (instr_at f before)) ≡ left_before f pc
left_behind f zero before is = absurd (omega (arith, is))
left_behind f (suc pc) before is = ap (λ p. left_before f (suc p)) (omega (arith, is))
