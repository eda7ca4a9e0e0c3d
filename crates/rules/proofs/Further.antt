-- Further words, and what a function that breaks no rule has at each pc that is none.
use Rattle.std.proofs.Common.{◌≡◌, ℕ, zero, suc, ◌+◌, ◌<◌, Bool, true, false, cond, ◌&&◌, not, List, [], ◌∷◌, length, drop, get_or, None, Some, refl, sym, ap, subst, ◌∙◌, true≢false, arith, not-suc-le-zero, le_of_suc-le-suc}
use Rattle.std.specs.Prelude.{Option, slice_get, option_and_then, ◌==◌}
use Rattle.opcode.specs.declared.word.Instr.{Instr}
use Rattle.proto.specs.Chunk.{Chunk, own, Functions, functions}
use Rattle.rules.specs.declared.rule.Rule.{Rule}
use Rattle.opcode.specs.Reading.{instr_of}
use Rattle.rules.specs.Words.{instr_at}
use Rattle.rules.specs.Places.{belonging, belonging_to, further_from, is_further}
use Rattle.rules.specs.Notes.{Notes}
use Rattle.rules.specs.Breaks.{instr_breaks, place_breaks, word_breaks, is_shape, breaks_shape}
use Rattle.rules.specs.Sound.{Noted}
use Rattle.rules.proofs.Lists.{and_not, none_some, some_one}

get_after : (inner : Functions) (n : ℕ) (code : List ℕ) (pc w t j : ℕ) → get_or (further_from inner n code) pc false ≡ false → slice_get code pc ≡ Some w → t ≡ suc pc + j → get_or (further_from inner n code) t false ≡ get_or (further_from inner (belonging inner (instr_of w)) (drop (suc pc) code)) j false
get_after inner n [] pc w t j solid is at = none_some w is
get_after inner n (x ∷ rest) pc w zero j solid is at = absurd (omega arith)
get_after inner zero (x ∷ rest) zero w (suc t) j solid is at =
    let same : t ≡ j = omega arith in
    ap (λ k. get_or (further_from inner (belonging inner (instr_of x)) rest) k false) same ∙ ap (λ v. get_or (further_from inner (belonging inner (instr_of v)) rest) j false) (some_one x w is)
get_after inner (suc n) (x ∷ rest) zero w (suc t) j solid is at = absurd (true≢false solid)
get_after inner zero (x ∷ rest) (suc pc) w (suc t) j solid is at =
    get_after inner (belonging inner (instr_of x)) rest pc w t j solid is (omega arith)
get_after inner (suc n) (x ∷ rest) (suc pc) w (suc t) j solid is at = get_after inner n rest pc w t j solid is (omega arith)

first_after : (inner : Functions) (n : ℕ) (code : List ℕ) → get_or (further_from inner n code) n false ≡ false
first_after inner n [] = refl
first_after inner zero (x ∷ rest) = refl
first_after inner (suc n) (x ∷ rest) = first_after inner n rest

within_after : (inner : Functions) (n : ℕ) (code : List ℕ) (j : ℕ) → j < n → j < length code → get_or (further_from inner n code) j false ≡ true
within_after inner n [] j few there = absurd (not-suc-le-zero there)
within_after inner zero (x ∷ rest) j few there = absurd (not-suc-le-zero few)
within_after inner (suc n) (x ∷ rest) zero few there = refl
within_after inner (suc n) (x ∷ rest) (suc j) few there = within_after inner n rest j (le_of_suc-le-suc few) (le_of_suc-le-suc there)

-- a pc's word, with its instruction
pub record HasWord (f : Chunk) (pc : ℕ) (i : Instr) : Type 0 where
  pub word : ℕ
  pub there : slice_get (own f).code pc ≡ Some word
  pub is : instr_of word ≡ Some i

pub word_at : (f : Chunk) (pc : ℕ) (i : Instr) → instr_at f pc ≡ Some i → HasWord f pc i
word_at f pc i at = go (slice_get (own f).code pc) refl at
  where
    go : (o : Option ℕ) → slice_get (own f).code pc ≡ o → option_and_then instr_of o ≡ Some i → HasWord f pc i
    go None e h = none_some i h
    go (Some w) e h = record { word = w; there = e; is = h }

-- the pc behind a word and those that belong to it is no further word
pub next_is_solid : (f : Chunk) (pc : ℕ) (i : Instr) (t : ℕ) → is_further f pc ≡ false → instr_at f pc ≡ Some i → t ≡ suc pc + belonging_to (functions f) i.op i → is_further f t ≡ false
next_is_solid f pc i t solid at is =
    let w = word_at f pc i at in
    let here : belonging (functions f) (instr_of w.word) ≡ belonging_to (functions f) i.op i = ap (belonging (functions f)) w.is in
    get_after (functions f) 0 (own f).code pc w.word t (belonging (functions f) (instr_of w.word)) solid w.there (is ∙ ap (λ k. suc pc + k) (sym here)) ∙ first_after (functions f) (belonging (functions f) (instr_of w.word)) (drop (suc pc) (own f).code)

-- and the words between are
pub between_is_further : (f : Chunk) (pc : ℕ) (i : Instr) (t j : ℕ) → is_further f pc ≡ false → instr_at f pc ≡ Some i → t ≡ suc pc + j → j < belonging_to (functions f) i.op i → j < length (drop (suc pc) (own f).code) → is_further f t ≡ true
between_is_further f pc i t j solid at is few there =
    let w = word_at f pc i at in
    let here : belonging (functions f) (instr_of w.word) ≡ belonging_to (functions f) i.op i = ap (belonging (functions f)) w.is in
    get_after (functions f) 0 (own f).code pc w.word t j solid w.there is ∙ within_after (functions f) (belonging (functions f) (instr_of w.word)) (drop (suc pc) (own f).code) j (subst (λ k. j < k) (sym here) few) there

-- no rule is broken by an instruction that is no further word
pub kept : (f : Chunk) (main : Bool) (notes : Notes) → Noted f main notes → (pc : ℕ) (i : Instr) → is_further f pc ≡ false → instr_at f pc ≡ Some i → (rule : Rule) → is_shape rule ≡ false → instr_breaks f (notes pc) pc i rule ≡ false
kept f main notes noted pc i solid at rule other =
    let w = word_at f pc i at in
    let whole : cond (is_shape rule) (pc == 0 && breaks_shape f main) (not (is_further f pc) && place_breaks f (notes pc) pc (slice_get (own f).code pc) rule) ≡ false = noted.keeps pc rule in
    let part : (not (is_further f pc) && place_breaks f (notes pc) pc (slice_get (own f).code pc) rule) ≡ false = subst (λ b. cond b (pc == 0 && breaks_shape f main) (not (is_further f pc) && place_breaks f (notes pc) pc (slice_get (own f).code pc) rule) ≡ false) other whole in
    let placed : place_breaks f (notes pc) pc (slice_get (own f).code pc) rule ≡ false = and_not _ _ part (ap not solid) in
    let worded : word_breaks f (notes pc) pc (instr_of w.word) rule ≡ false = subst (λ o. place_breaks f (notes pc) pc o rule ≡ false) w.there placed in
    subst (λ o. word_breaks f (notes pc) pc o rule ≡ false) w.is worded
