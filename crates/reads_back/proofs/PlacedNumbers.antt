-- The numbers of steps by their pcs: where the pcs of steps rise, the number that stands at the pc of a step is its own.
use Rattle.std.proofs.Common.{◌≡◌, ◌<◌, ◌≤◌, ℕ, zero, suc, ◌+◌, Bool, true, false, nat_lt, List, [], ◌∷◌, length, replicate, refl, sym, ap, ◌∙◌, arith, subst, if◌then◌else◌, length-set, Option, Some, None, get_or-set_same, lt-ltb}
use Rattle.std.proofs.lemmas.List.{length-replicate}
use Rattle.std.proofs.lemmas.Bool.Decides.{nat_tests}
use Rattle.std.proofs.lemmas.Option.{slice_get-get_or}
use Rattle.std.specs.Prelude.{slice_get, slice_set}
use Rattle.recover_expr.specs.Drafts.{Drafted}
use Rattle.recover_expr.specs.Placing.{Numbers, number_all, number_at, numbers_of, set_number, there}
use Rattle.recover_expr.specs.Situation.{Function}

-- ---- one number is set

-- as many numbers as before
length_set_number : (pc number : ℕ) (numbers : Numbers) → length (set_number pc number numbers) ≡ length numbers
length_set_number pc number numbers = by (nat_lt pc (length numbers))
  where
    by : (inside : Bool) → length (if inside then slice_set numbers pc (Some number) else numbers) ≡ length numbers
    by true = length-set numbers pc (Some number)
    by false = refl

-- the number is there
number_is_set : (pc number : ℕ) (numbers : Numbers) → pc < length numbers → number_at (set_number pc number numbers) pc ≡ Some number
number_is_set pc number numbers within =
    ap (λ (inside : Bool). number_at (if inside then slice_set numbers pc (Some number) else numbers) pc) (lt-ltb pc (length numbers) within)
    ∙ ap there (slice_get-get_or (slice_set numbers pc (Some number)) pc None (omega (arith, within, length-set numbers pc (Some number))) ∙ ap (λ (there : Option ℕ). Some there) (get_or-set_same numbers pc (Some number) None within))

-- an element stays where another is set
element_kept : {A : Type 0} (xs : List A) (i j : ℕ) (y : A) → (i ≡ j → ⊥) → slice_get (slice_set xs i y) j ≡ slice_get xs j
element_kept [] i j y apart = refl
element_kept (x ∷ xs) zero zero y apart = absurd (apart refl)
element_kept (x ∷ xs) zero (suc j) y apart = refl
element_kept (x ∷ xs) (suc i) zero y apart = refl
element_kept (x ∷ xs) (suc i) (suc j) y apart = element_kept xs i j y (λ same. apart (ap suc same))

-- the number at another pc stays
other_kept : (pc number at : ℕ) (numbers : Numbers) → (pc ≡ at → ⊥) → number_at (set_number pc number numbers) at ≡ number_at numbers at
other_kept pc number at numbers apart = by (nat_lt pc (length numbers))
  where
    by : (inside : Bool) → number_at (if inside then slice_set numbers pc (Some number) else numbers) at ≡ number_at numbers at
    by true = ap there (element_kept numbers pc at (Some number) apart)
    by false = refl

-- ---- the numbers of drafts in a row

length_number_all : (number : ℕ) (drafts : List Drafted) (numbers : Numbers) → length (number_all number drafts numbers) ≡ length numbers
length_number_all number [] numbers = refl
length_number_all number (draft ∷ drafts) numbers = length_number_all (suc number) drafts (set_number draft.pc number numbers) ∙ length_set_number draft.pc number numbers

-- the last word of a function has the number behind all steps
last_number : (f : Function) (drafts : List Drafted) → f.last < length f.of.code → number_at (numbers_of f drafts) f.last ≡ Some (length drafts)
last_number f drafts within =
    let before : Numbers = replicate (length f.of.code) None in
    number_is_set f.last (length drafts) (number_all 0 drafts before) (omega (arith, within, length_number_all 0 drafts before, length-replicate {A = Option ℕ} (length f.of.code) None))

-- drafts begin at the pcs of steps, from a step on
abbrev BeginAt : (pcs : ℕ → ℕ) → (number : ℕ) → List Drafted → Type 0
BeginAt pcs number drafts = (i : ℕ) (draft : Drafted) → slice_get drafts i ≡ Some draft → draft.pc ≡ pcs (number + i)

-- the pcs of the steps up to the last rise
abbrev Rise : (pcs : ℕ → ℕ) → (last : ℕ) → Type 0
Rise pcs last = (one other : ℕ) → one < other → other ≤ last → pcs one < pcs other

begin_next : (pcs : ℕ → ℕ) (number : ℕ) (draft : Drafted) (drafts : List Drafted) → BeginAt pcs number (draft ∷ drafts) → BeginAt pcs (suc number) drafts
begin_next pcs number draft drafts begin i one is = begin (suc i) one is ∙ ap pcs (let same : number + suc i ≡ suc number + i = omega arith in same)

module _ (pcs : ℕ → ℕ) (last : ℕ) (rise : Rise pcs last) where
  -- the drafts of later steps leave the number at the pc of a step
  later_kept : (at number : ℕ) (drafts : List Drafted) (numbers : Numbers) → at < number → number + length drafts ≤ suc last → BeginAt pcs number drafts →
      number_at (number_all number drafts numbers) (pcs at) ≡ number_at numbers (pcs at)
  later_kept at number [] numbers before most begin = refl
  later_kept at number (draft ∷ drafts) numbers before most begin =
      let here : draft.pc ≡ pcs number = begin 0 draft refl ∙ ap pcs (omega arith) in
      let less = rise at number before (omega (arith, most)) in
      later_kept at (suc number) drafts (set_number draft.pc number numbers) (omega (arith, before)) (omega (arith, most)) (begin_next pcs number draft drafts begin)
      ∙ other_kept draft.pc number (pcs at) numbers (λ same. absurd (omega (arith, here, less, same)))

  number_found : (number i : ℕ) (drafts : List Drafted) (numbers : Numbers) → i < length drafts → number + length drafts ≤ suc last → BeginAt pcs number drafts → pcs (number + i) < length numbers →
      number_at (number_all number drafts numbers) (pcs (number + i)) ≡ Some (number + i)
  number_found number i [] numbers within most begin inside = absurd (omega (arith, within))
  number_found number zero (draft ∷ drafts) numbers within most begin inside =
      let here : draft.pc ≡ pcs (number + 0) = begin 0 draft refl in
      let same : number + 0 ≡ number = omega arith in
      subst (λ at. number_at (number_all (suc number) drafts (set_number draft.pc number numbers)) (pcs at) ≡ Some at) (sym same)
      (later_kept number (suc number) drafts (set_number draft.pc number numbers) (omega arith) (omega (arith, most)) (begin_next pcs number draft drafts begin)
      ∙ subst (λ pc. number_at (set_number draft.pc number numbers) pc ≡ Some number) (here ∙ ap pcs same)
      (number_is_set draft.pc number numbers (omega (arith, here, inside))))
  number_found number (suc i) (draft ∷ drafts) numbers within most begin inside =
      let same : suc number + i ≡ number + suc i = omega arith in
      let more : pcs (suc number + i) < length (set_number draft.pc number numbers) =
      subst (λ at. pcs at < length (set_number draft.pc number numbers)) (sym same) (omega (arith, inside, length_set_number draft.pc number numbers)) in
      subst (λ at. number_at (number_all (suc number) drafts (set_number draft.pc number numbers)) (pcs at) ≡ Some at) same
      (number_found (suc number) i drafts (set_number draft.pc number numbers) (omega (arith, within)) (omega (arith, most)) (begin_next pcs number draft drafts begin) more)

-- ---- of a function

-- where each step has a word, the pcs of steps rise
pub words_rise : (pcs : ℕ → ℕ) (last : ℕ) → ((at : ℕ) → at < last → pcs at < pcs (suc at)) → Rise pcs last
words_rise pcs last words one zero less most = absurd (omega (arith, less))
words_rise pcs last words one (suc other) less most = by (λ below. words_rise pcs last words one other below (omega (arith, most))) (nat_lt one other) refl
  where
    by : (one < other → pcs one < pcs other) → (b : Bool) → nat_lt one other ≡ b → pcs one < pcs (suc other)
    by again true e =
        let before = again (grind (arith, nat_tests)) in
        let word = words other (omega (arith, most)) in
        omega (arith, before, word)
    by again false e =
        let same : one ≡ other = grind (arith, nat_tests) in
        subst (λ at. pcs at < pcs (suc other)) (sym same) (words other (omega (arith, most)))

-- the number at the pc of each step, and at that of the last word, which stands behind all steps
pub number_of_step : (pcs : ℕ → ℕ) (f : Function) (drafts : List Drafted) → Rise pcs (length drafts) → BeginAt pcs 0 drafts → f.last ≡ pcs (length drafts) → length f.of.code ≡ suc f.last →
    (at : ℕ) → at ≤ length drafts → number_at (numbers_of f drafts) (pcs at) ≡ Some at
number_of_step pcs f drafts rise begin ends count at most = by (nat_lt at (length drafts)) refl
  where
    before : Numbers
    before = replicate (length f.of.code) None

    by : (b : Bool) → nat_lt at (length drafts) ≡ b → number_at (numbers_of f drafts) (pcs at) ≡ Some at
    by true e =
        let within : at < length drafts = grind (arith, nat_tests) in
        let less = rise at (length drafts) within (omega arith) in
        other_kept f.last (length drafts) (pcs at) (number_all 0 drafts before) (λ same. absurd (omega (arith, same, less, ends)))
        ∙ subst (λ k. number_at (number_all 0 drafts before) (pcs k) ≡ Some k) (let same : 0 + at ≡ at = omega arith in same)
        (number_found pcs (length drafts) rise 0 at drafts before within (omega arith) begin
        (subst (λ k. pcs k < length before) (let same : at ≡ 0 + at = omega arith in same) (omega (arith, less, ends, count, length-replicate {A = Option ℕ} (length f.of.code) None))))
    by false e =
        let same : at ≡ length drafts = grind (arith, nat_tests) in
        subst (λ k. number_at (numbers_of f drafts) (pcs k) ≡ Some k) (sym same)
        (subst (λ pc. number_at (numbers_of f drafts) pc ≡ Some (length drafts)) ends (last_number f drafts (omega (arith, count))))
