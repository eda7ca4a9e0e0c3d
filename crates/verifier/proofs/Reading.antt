-- The words of a function.
use Rattle.std.proofs.Common.{◌∙◌, ◌≡◌, ℕ, zero, suc, ◌+◌, ◌<◌, ◌≤◌, drop, append_assoc, Bool, true, false, List, [], ◌∷◌, ◌++◌, length, map, Some, None, refl, sym, ap, arith, not-suc-le-zero, le_of_suc-le-suc}
use Rattle.std.specs.Prelude.{nat_lt, get_or, slice_get, option_map, option_and_then}
use Rattle.rules.specs.Words.{instr_at}
use Rattle.std.proofs.Math.Seq.{drop-cons}
use Rattle.std.proofs.lemmas.Bool.{ltb-true, ltb-false, lt-ltb}
use Rattle.opcode.specs.Reading.{instr_of}
use Rattle.proto.specs.Chunk.{Chunk, own, Functions, functions_of, function_at}
use Rattle.proto.specs.View.{view_proto}
use Rattle.proto.specs.declared.proto.Proto.{Proto}
use Rattle.rules.specs.Places.{further_from, belonging}

-- the function of a number, by the list of them
some_at : (xs : List Proto) (n : ℕ) (x : Proto) → n < length xs → x ≡ get_or xs n x → function_at (functions_of (map view_proto xs)) n ≡ Some (view_proto x)
some_at [] n x low is = absurd (not-suc-le-zero low)
some_at (y ∷ xs) zero x low is = ap (λ z. Some (view_proto z)) (sym is)
some_at (y ∷ xs) (suc n) x low is = some_at xs n x (le_of_suc-le-suc low) is

none_at : (xs : List Proto) (n : ℕ) → length xs ≤ n → function_at (functions_of (map view_proto xs)) n ≡ None
none_at [] n high = refl
none_at (y ∷ xs) zero high = absurd (not-suc-le-zero high)
none_at (y ∷ xs) (suc n) high = none_at xs n (le_of_suc-le-suc high)

pub inner_there : (inner : Functions) (xs : List Proto) (n upvalues : ℕ) (x : Proto) → inner ≡ functions_of (map view_proto xs) → true ≡ nat_lt n (length xs) → x ≡ get_or xs n x → upvalues ≡ (own (view_proto x)).upvalues → Some upvalues ≡ option_map (λ f. (own f).upvalues) (function_at inner n)
inner_there inner xs n upvalues x is low at has = ap Some has ∙ sym (ap (λ fs. option_map (λ f. (own f).upvalues) (function_at fs n)) is ∙ ap (option_map (λ f. (own f).upvalues)) (some_at xs n x (ltb-true n (length xs) (sym low)) at))

pub inner_past : (inner : Functions) (xs : List Proto) (n : ℕ) → inner ≡ functions_of (map view_proto xs) → false ≡ nat_lt n (length xs) → None ≡ option_map (λ f. (own f).upvalues) (function_at inner n)
inner_past inner xs n is high = sym (ap (λ fs. option_map (λ f. (own f).upvalues) (function_at fs n)) is ∙ ap (option_map (λ f. (own f).upvalues)) (none_at xs n (ltb-false n (length xs) (sym high))))

get_is : (xs : List ℕ) (n x : ℕ) → n < length xs → x ≡ get_or xs n x → slice_get xs n ≡ Some x
get_is [] n x low is = absurd (not-suc-le-zero low)
get_is (y ∷ xs) zero x low is = ap Some (sym is)
get_is (y ∷ xs) (suc n) x low is = get_is xs n x (le_of_suc-le-suc low) is

get_none : (xs : List ℕ) (n : ℕ) → length xs ≤ n → slice_get xs n ≡ None
get_none [] n high = refl
get_none (y ∷ xs) zero high = absurd (not-suc-le-zero high)
get_none (y ∷ xs) (suc n) high = get_none xs n (le_of_suc-le-suc high)

-- the instruction of the word at a pc
pub instr_there : (f : Chunk) (words : List ℕ) (pc w : ℕ) → words ≡ (own f).code → true ≡ nat_lt pc (length words) → w ≡ get_or words pc w → instr_of w ≡ instr_at f pc
instr_there f words pc w is low at = sym (ap (λ xs. option_and_then instr_of (slice_get xs pc)) (sym is) ∙ ap (option_and_then instr_of) (get_is words pc w (ltb-true pc (length words) (sym low)) at))

pub instr_past : (f : Chunk) (words : List ℕ) (pc : ℕ) → words ≡ (own f).code → false ≡ nat_lt pc (length words) → None ≡ instr_at f pc
instr_past f words pc is high = sym (ap (λ xs. option_and_then instr_of (slice_get xs pc)) (sym is) ∙ ap (option_and_then instr_of) (get_none words pc (ltb-false pc (length words) (sym high))))

-- one more mark
pub marked : (inner : Functions) (marks after : List Bool) (left next k : ℕ) (words : List ℕ) (all : List Bool) → after ≡ marks ++ nat_lt 0 left ∷ [] → k < length words → (left ≡ 0 → next ≡ belonging inner (instr_of (get_or words k 0))) → ((n : ℕ) → left ≡ suc n → next ≡ n) → marks ++ further_from inner left (drop k words) ≡ all → after ++ further_from inner next (drop (k + 1) words) ≡ all
marked inner marks after left next k words all is low none some so =
    ap (λ n. after ++ further_from inner next (drop n words)) (one_more k) ∙ ap (λ xs. xs ++ further_from inner next (drop (suc k) words)) is ∙ append_assoc marks _ _ ∙ ap (λ xs. marks ++ xs) (sym (go left (drop-cons words k 0 low) none some)) ∙ so
  where
    one_more : (n : ℕ) → n + 1 ≡ suc n
    one_more n = omega arith

    go : (n : ℕ) → drop k words ≡ get_or words k 0 ∷ drop (suc k) words → (n ≡ 0 → next ≡ belonging inner (instr_of (get_or words k 0))) → ((m : ℕ) → n ≡ suc m → next ≡ m) → further_from inner n (drop k words) ≡ nat_lt 0 n ∷ further_from inner next (drop (suc k) words)
    go zero e f g = ap (further_from inner 0) e ∙ ap (λ m. false ∷ further_from inner m (drop (suc k) words)) (sym (f refl))
    go (suc n) e f g = ap (further_from inner (suc n)) e ∙ ap (λ b. b ∷ further_from inner n (drop (suc k) words)) (sym (lt-ltb 0 (suc n) (omega arith))) ∙ ap (λ m. nat_lt 0 (suc n) ∷ further_from inner m (drop (suc k) words)) (sym (g n refl))
