-- The front of a line is the line that is read, without its line end.
use Rattle.std.proofs.Common.{◌≡◌, ◌≢◌, ◌⊎◌, inl, inr, All, ℕ, ◌+◌, ◌<◌, ◌≤◌, Bool, true, false, cond, not, eqb, List, [], ◌∷◌, ◌++◌, length, drop, refl, sym, ap, ◌∙◌, subst, arith, Some, None, IfSome, le_refl, drop_of_length-le, zero-le, take, get_or, ◌-◌, length-append, length-take-le, get_or-append-add, eq-eqb, suc, ◌&&◌, lt-ltb}
use Rattle.std.specs.Prelude.{◌==◌, nat_lt}
use Rattle.std.specs.declared.option.Option.{Option}
use Rattle.std.specs.Io.{IsEmptyOrEndsWith}
use Rattle.std.specs.Io.KnownBytes.{Consumes}
use Rattle.std.proofs.BufReadLemmas.{take_through_nonempty}
use Rattle.std.specs.Io.BufRead.{take_through, strip_last, ends_with_byte, first_piece}
use Rattle.std.proofs.lemmas.Bool.Decides.{eqb_tells}
use Rattle.std.proofs.lemmas.List.Sums.{take_while-cons}
use Rattle.lua_model.specs.declared.plain.Plain.TheVariants.{Text}
use Rattle.lua_model.specs.declared.plain.Reply.TheVariants.{Values}
use Rattle.host.specs.Lines.{front, line_reply, read_failed}

-- where nothing was appended
pub nothing_appended : (old new : List ℕ) → new ≡ old → drop (length old) new ≡ []
nothing_appended old new e = ap (drop (length old)) e ∙ drop_of_length-le old (le_refl _)

pub none_appended : (old new : List ℕ) (most : ℕ) → new ≡ old → length (drop (length old) new) ≤ most
none_appended old new most e = subst (λ l. length l ≤ most) (sym (nothing_appended old new e)) zero-le

-- the front byte by byte
front-cons : (x : ℕ) (xs : List ℕ) → front (x ∷ xs) ≡ cond (eqb x 10) [] (x ∷ front xs)
front-cons x xs = take_while-cons (λ b. not (b == 10)) x xs ∙ by (eqb x 10)
  where
    by : (b : Bool) → cond (not b) (x ∷ front xs) [] ≡ cond b [] (x ∷ front xs)
    by true = refl
    by false = refl

-- a line without its line end, byte by byte
strip_last-is : (x : ℕ) (xs : List ℕ) → strip_last 10 (x ∷ xs) ≡ cond (eqb (get_or (x ∷ xs) (length xs) 0) 10) (take (length xs) (x ∷ xs)) (x ∷ xs)
strip_last-is x xs =
    let some : nat_lt 0 (length (x ∷ xs)) ≡ true = lt-ltb _ _ (omega arith) in
    let last : length (x ∷ xs) - 1 ≡ length xs = omega arith in
    ap (λ b. cond (b && (get_or (x ∷ xs) (length (x ∷ xs) - 1) 0 == 10)) (take (length (x ∷ xs) - 1) (x ∷ xs)) (x ∷ xs)) some
    ∙ ap (λ n. cond (eqb (get_or (x ∷ xs) n 0) 10) (take n (x ∷ xs)) (x ∷ xs)) last

strip_last-cons : (x : ℕ) (xs : List ℕ) → eqb x 10 ≡ false → strip_last 10 (x ∷ xs) ≡ x ∷ strip_last 10 xs
strip_last-cons x [] e = ap (λ b. cond b [] (x ∷ [])) e
strip_last-cons x (y ∷ xs) e = strip_last-is x (y ∷ xs) ∙ by (eqb (get_or (y ∷ xs) (length xs) 0) 10) ∙ ap (λ l. x ∷ l) (sym (strip_last-is y xs))
  where
    by : (b : Bool) → cond b (x ∷ take (length xs) (y ∷ xs)) (x ∷ y ∷ xs) ≡ x ∷ cond b (take (length xs) (y ∷ xs)) (y ∷ xs)
    by true = refl
    by false = refl

-- the front is that line
front_is_first_piece : (bytes : List ℕ) → first_piece 10 bytes ≡ front bytes
front_is_first_piece [] = refl
front_is_first_piece (x ∷ xs) = by (front_is_first_piece xs) (eqb x 10) refl ∙ sym (front-cons x xs)
  where
    by : first_piece 10 xs ≡ front xs → (b : Bool) → eqb x 10 ≡ b → strip_last 10 (cond b (x ∷ []) (x ∷ take_through 10 xs)) ≡ cond b [] (x ∷ front xs)
    by rest true e = ap (λ b. cond b [] (x ∷ [])) e
    by rest false e = strip_last-cons x (take_through 10 xs) e ∙ ap (λ l. x ∷ l) rest

short_reply : (bytes : List ℕ) → 0 < length bytes → length (front bytes) < 67108864 → line_reply bytes ≡ Values (Text (front bytes) ∷ [])
short_reply [] some short = absurd (omega arith)
short_reply (b ∷ bytes) some short =
    let fits : nat_lt (length (front (b ∷ bytes))) 67108864 ≡ true = lt-ltb _ _ short in
    ap (λ t. cond t (Values (Text (front (b ∷ bytes)) ∷ [])) read_failed) fits

-- a line that was read is the one that the reply gives
pub reply_of_line : (known : Option (List ℕ)) (line text : List ℕ) → IfSome known (λ bytes. line ≡ take_through 10 bytes) → 0 < length line → length (strip_last 10 line) < 67108864
    → text ≡ strip_last 10 line → IfSome known (λ bytes. line_reply bytes ≡ Values (Text text ∷ []))
reply_of_line None line text is some short stripped = tt
reply_of_line (Some bytes) line text is some short stripped =
    let same : text ≡ front bytes = stripped ∙ ap (strip_last 10) is ∙ front_is_first_piece bytes in
    short_reply bytes (take_through_nonempty 10 bytes (subst (λ l. 0 < length l) is some)) (subst (λ l. length l < 67108864) (sym stripped ∙ same) short)
    ∙ ap (λ l. Values (Text l ∷ [])) (sym same)

-- the length of what is left without a line end
strip_last-le : (xs : List ℕ) → length (strip_last 10 xs) ≤ length xs
strip_last-le xs = by (ends_with_byte 10 xs)
  where
    by : (b : Bool) → length (cond b (take (length xs - 1) xs) xs) ≤ length xs
    by true = omega (arith, length-take-le (length xs - 1) xs (omega arith))
    by false = le_refl _

length-strip_last : (x : ℕ) (xs : List ℕ) → get_or (x ∷ xs) (length xs) 0 ≡ 10 → length (strip_last 10 (x ∷ xs)) ≡ length xs
length-strip_last x xs last =
    ap length (strip_last-is x xs ∙ ap (λ b. cond b (take (length xs) (x ∷ xs)) (x ∷ xs)) (eq-eqb _ 10 last)) ∙ length-take-le (length xs) (x ∷ xs) (omega arith)

-- a line with room for more, and then a part that fits in this room and ends the line
pub short_line : (line part : List ℕ) → length line < 67108864 → length part ≤ 67108864 - length line → IsEmptyOrEndsWith part 10 → length (strip_last 10 (line ++ part)) < 67108864
short_line line [] room fits ends = omega (arith, strip_last-le (line ++ []), length-append line [])
short_line line (x ∷ part) room fits ends =
    let long = length-append line (x ∷ part) in
    let last_part : length (x ∷ part) - 1 ≡ length part = omega arith in
    let ended = sym (ap (λ n. get_or (x ∷ part) n 0) last_part) ∙ ends (omega arith) in
    by line room (omega arith) ended
  where
    by : (line : List ℕ) → length line < 67108864 → length line + length part < 67108864 → get_or (x ∷ part) (length part) 0 ≡ 10 → length (strip_last 10 (line ++ x ∷ part)) < 67108864
    by [] room fits ended = omega (arith, length-strip_last x part ended)
    by (y ∷ line) room fits ended =
        let long = length-append line (x ∷ part) in
        let at : length (line ++ x ∷ part) ≡ suc (length line) + length part = omega (arith, long) in
        let end : get_or (y ∷ line ++ x ∷ part) (length (line ++ x ∷ part)) 0 ≡ 10 = ap (λ n. get_or (y ∷ line ++ x ∷ part) n 0) at ∙ get_or-append-add (y ∷ line) (x ∷ part) (length part) 0 ∙ ended in
        omega (arith, length-strip_last y (line ++ x ∷ part) end, long)

-- bytes without a line end are a part of the front
front_long : (line rest : List ℕ) → All (λ x. x ≢ 10) line → length line ≤ length (front (line ++ rest))
front_long [] rest unended = zero-le
front_long (x ∷ line) rest unended =
    let off : eqb x 10 ≡ false = by_tells (eqb_tells x 10) (unended 0 x (omega arith)) in
    let next : length line ≤ length (front (line ++ rest)) = front_long line rest (λ k d within. unended (suc k) d (omega arith)) in
    rw (front-cons x (line ++ rest), off) (omega arith)
  where
    by_tells : {x : ℕ} → ((eqb x 10 ≡ true) × (x ≡ 10)) ⊎ ((eqb x 10 ≡ false) × (x ≢ 10)) → x ≢ 10 → eqb x 10 ≡ false
    by_tells (inl is) off = absurd (off is.1)
    by_tells (inr is) off = is.0

-- where so many were lost, the line is too long
pub long_front : (known left : Option (List ℕ)) (line : List ℕ) → Consumes known left line → All (λ x. x ≢ 10) line → 67108864 ≤ length line → IfSome known (λ bytes. 67108864 ≤ length (front bytes))
long_front None left line lost unended long = tt
long_front (Some bytes) None line lost unended long = absurd lost
long_front (Some bytes) (Some rest) line lost unended long =
    let most = front_long line rest unended in
    let is : length (front bytes) ≡ length (front (line ++ rest)) = ap (λ l. length (front l)) lost in
    omega arith
