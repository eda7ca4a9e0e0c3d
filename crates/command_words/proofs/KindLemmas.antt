-- What a word is, and how it is read.
use Rattle.std.proofs.Common.{◌≡◌, ◌∙◌, ◌<◌, ◌≤◌, ◌==◌, ◌&&◌, ◌++◌, ℕ, Bool, true, false, true≢false, List, [], ◌∷◌, length, take, drop, get_or, Option, Some, None, option_map, refl, ap, sym, subst, arith, eqb-true, lt-ltb}
use Rattle.std.specs.Prelude.{codes, slice_get, if◌then◌else◌}
use Rattle.std.specs.List.{after_first, before_first, list_any, position_or_len}
use Rattle.std.specs.Str.{IsUtf8, bytes_eq, chars, encode_utf8_all}
use Rattle.std.proofs.lemmas.List.{take_all, take-append-drop}
use Rattle.std.proofs.lemmas.List.Sums.{passes_at_first, split_at_first}
use Rattle.std.proofs.lemmas.Slice.Eq.{bytes_eq-Decides}
use Rattle.std.proofs.lemmas.Str.{IsCharBoundary-after_ascii, IsUtf8-drop, encodes-chars}
use Rattle.clap.specs.Lexer.{has_byte, long_of, short_of}
use Rattle.lua_num.specs.Bytes.{Text}
use Rattle.command_words.specs.Arguments.{Arguments, arguments, behind_flag, files_alone, is_flag, layout_mark, steps_mark, with_file, with_layout, with_steps, with_strip}
use Rattle.command_words.proofs.TurnLemmas.{Valued, alone, layout, mark_of, steps}

-- clap takes the word for a flag that the command lacks
pub data IsUnknown (word : Text) : Type 0 where
  unknown : (name : Text) (v : Option Text) → long_of word ≡ Some (name, v) → bytes_eq (codes "strip") name ≡ false → bytes_eq (codes "steps") name ≡ false → bytes_eq (codes "layout") name ≡ false → IsUnknown word
  valued : (v : Text) → long_of word ≡ Some (codes "strip", Some v) → IsUnknown word
  short : (y x : ℕ) (flags : Text) → long_of word ≡ None → short_of word ≡ Some (y ∷ flags) → slice_get (chars (y ∷ flags)) 0 ≡ Some x → IsUnknown word

pub record IsRefused (word : Text) : Type 0 where
  pub flag : is_flag word ≡ true
  pub more : bytes_eq word (codes "--") ≡ false
  pub unread : (words : List Text) → arguments (word ∷ words) ≡ None
  pub how : IsUnknown word

pub record IsPlain (word : Text) : Type 0 where
  pub flag : is_flag word ≡ false
  pub more : bytes_eq word (codes "--") ≡ false
  pub long : long_of word ≡ None
  pub short : short_of word ≡ None
  pub reads : (words : List Text) → arguments (word ∷ words) ≡ option_map (with_file word) (arguments words)

pub data Kind (word : Text) : Type 0 where
  dashes : word ≡ codes "--" → Kind word
  strip : word ≡ codes "--strip" → Kind word
  lone : (k : Valued) → word ≡ alone k → Kind word
  joined : (k : Valued) (v : Text) → word ≡ mark_of k ++ v → Kind word
  refused : IsRefused word → Kind word
  plain : IsPlain word → Kind word

-- ---- what stands before and after the first `=`

module _ (p : ℕ → Bool) where
  within : (xs : List ℕ) → list_any p xs ≡ true → position_or_len p xs < length xs
  within [] e = absurd (true≢false (sym e))
  within (x ∷ xs) e = go (p x) refl e (within xs)
    where
      go : (b : Bool) → p x ≡ b → list_any p (x ∷ xs) ≡ true → (list_any p xs ≡ true → position_or_len p xs < length xs) → position_or_len p (x ∷ xs) < length (x ∷ xs)
      go true is h below = rw is (omega arith)
      go false is h below =
          let later : position_or_len p xs < length xs = below (rw is at h) in
          rw is (omega arith)

  past_all : (xs : List ℕ) → list_any p xs ≡ false → length xs ≤ position_or_len p xs
  past_all [] e = omega arith
  past_all (x ∷ xs) e = go (p x) refl e (past_all xs)
    where
      go : (b : Bool) → p x ≡ b → list_any p (x ∷ xs) ≡ false → (list_any p xs ≡ false → length xs ≤ position_or_len p xs) → length (x ∷ xs) ≤ position_or_len p (x ∷ xs)
      go true is h below = absurd (true≢false (rw is at h))
      go false is h below =
          let later : length xs ≤ position_or_len p xs = below (rw is at h) in
          rw is (omega arith)

cut_at_equals : (text : Text) → has_byte 61 text ≡ true → text ≡ before_first (λ x. x == 61) text ++ (61 ∷ after_first (λ x. x == 61) text)
cut_at_equals text e =
    let lt = within (λ x. x == 61) text e in
    split_at_first (λ x. x == 61) text 0 lt
    ∙ ap (λ x. before_first (λ y. y == 61) text ++ (x ∷ after_first (λ y. y == 61) text)) (eqb-true (get_or text (position_or_len (λ x. x == 61) text) 0) 61 (passes_at_first (λ x. x == 61) text 0 lt))

whole_name : (text : Text) → has_byte 61 text ≡ false → before_first (λ x. x == 61) text ≡ text
whole_name text e = take_all (position_or_len (λ x. x == 61) text) text (past_all (λ x. x == 61) text e)

same : (a b : Text) → bytes_eq a b ≡ true → a ≡ b
same a b e = (bytes_eq-Decides a b).0 e

two_or_more : (x y : ℕ) (text : Text) → is_flag (x ∷ y ∷ text) ≡ ((x == 45) && true)
two_or_more x y text = ap (λ b. (x == 45) && b) (lt-ltb 0 (length (y ∷ text)) (omega arith))

-- ---- a flag that is none of the command's

record NoneOfSix (word : Text) : Type 0 where
  more : bytes_eq word (codes "--") ≡ false
  strip : bytes_eq word (codes "--strip") ≡ false
  steps : bytes_eq word (codes "--steps") ≡ false
  steps_with : bytes_eq (take 8 word) steps_mark ≡ false
  layout : bytes_eq word (codes "--layout") ≡ false
  layout_with : bytes_eq (take 9 word) layout_mark ≡ false

differs : (a b : Text) → bytes_eq a b ≡ false → a ≡ b → ⊥
differs a b e is = true≢false (sym ((bytes_eq-Decides a b).1 is) ∙ e)

-- `arguments`, by its tests on the first word
abbrev by_tests : Bool → Bool → Bool → Bool → Bool → Bool → Bool → Text → List Text → Option Arguments
by_tests a b d e g h flag word words =
    if a then Some (files_alone words)
    else (if b then option_map with_strip (arguments words)
    else (if d then behind_flag with_steps words
    else (if e then option_map (with_steps (drop 8 word)) (arguments words)
    else (if g then behind_flag with_layout words
    else (if h then option_map (with_layout (drop 9 word)) (arguments words)
    else (if flag then None else option_map (with_file word) (arguments words)))))))

unread : (word : Text) → NoneOfSix word → is_flag word ≡ true → (words : List Text) → arguments (word ∷ words) ≡ None
unread word none flag words = λ i. by_tests (none.more i) (none.strip i) (none.steps i) (none.steps_with i) (none.layout i) (none.layout_with i) (flag i) word words

-- behind `--` stands a name, and a value where there is a `=`
long_unknown : (z : ℕ) (text : Text) → NoneOfSix (45 ∷ 45 ∷ z ∷ text) → IsUnknown (45 ∷ 45 ∷ z ∷ text)
long_unknown z text none = by (bytes_eq (codes "strip") name) refl (bytes_eq (codes "steps") name) refl (bytes_eq (codes "layout") name) refl (has_byte 61 (z ∷ text)) refl
  where
    name : Text
    name = before_first (λ x. x == 61) (z ∷ text)

    word : Text
    word = 45 ∷ 45 ∷ z ∷ text

    after : Text
    after = after_first (λ x. x == 61) (z ∷ text)

    long_by : (b : Bool) → has_byte 61 (z ∷ text) ≡ b → long_of word ≡ Some (name, if b then Some after else None)
    long_by b e = ap (λ (x : Bool). Some (name, if x then Some after else None)) e

    is_whole : (n : Text) → bytes_eq n name ≡ true → has_byte 61 (z ∷ text) ≡ false → word ≡ 45 ∷ 45 ∷ n
    is_whole n e lacks = ap (λ (t : Text). 45 ∷ 45 ∷ t) (sym (same n name e ∙ whole_name (z ∷ text) lacks))

    is_cut : (n : Text) → bytes_eq n name ≡ true → has_byte 61 (z ∷ text) ≡ true → word ≡ 45 ∷ 45 ∷ (n ++ (61 ∷ after))
    is_cut n e has = ap (λ (t : Text). 45 ∷ 45 ∷ t) (cut_at_equals (z ∷ text) has ∙ ap (λ (t : Text). t ++ (61 ∷ after)) (sym (same n name e)))

    by : (s : Bool) → bytes_eq (codes "strip") name ≡ s → (t : Bool) → bytes_eq (codes "steps") name ≡ t → (l : Bool) → bytes_eq (codes "layout") name ≡ l
        → (h : Bool) → has_byte 61 (z ∷ text) ≡ h → IsUnknown word
    by true e t te l le false lacks = absurd (differs word (codes "--strip") none.strip (is_whole (codes "strip") e lacks))
    by true e t te l le true has = valued after (long_by true has ∙ ap (λ (n : Text). Some (n, Some after)) (sym (same (codes "strip") name e)))
    by false e true te l le false lacks = absurd (differs word (codes "--steps") none.steps (is_whole (codes "steps") te lacks))
    by false e true te l le true has = absurd (differs (take 8 word) steps_mark none.steps_with (ap (take 8) (is_cut (codes "steps") te has)))
    by false e false te true le false lacks = absurd (differs word (codes "--layout") none.layout (is_whole (codes "layout") le lacks))
    by false e false te true le true has = absurd (differs (take 9 word) layout_mark none.layout_with (ap (take 9) (is_cut (codes "layout") le has)))
    by false e false te false le h he = unknown name (if h then Some after else None) (long_by h he) e te le

chars_first : (y : ℕ) (text : Text) → IsUtf8 (y ∷ text) → (x : ℕ) × (slice_get (chars (y ∷ text)) 0 ≡ Some x)
chars_first y text u = go (chars (y ∷ text)) (encodes-chars (y ∷ text) u)
  where
    go : (cs : List ℕ) → encode_utf8_all cs ≡ y ∷ text → (x : ℕ) × (slice_get cs 0 ≡ Some x)
    go [] e = absurd (let bad : 0 ≡ length (y ∷ text) = ap length e in omega arith)
    go (x ∷ cs) e = (x, refl)

short_unknown : (y : ℕ) (text : Text) → IsUtf8 (45 ∷ y ∷ text) → (y == 45) ≡ false → IsUnknown (45 ∷ y ∷ text)
short_unknown y text u other =
    let rest : IsUtf8 (y ∷ text) = IsUtf8-drop (45 ∷ y ∷ text) 1 u (IsCharBoundary-after_ascii (45 ∷ y ∷ text) 0 u (omega arith) (omega arith)) in
    let first = chars_first y text rest in
    short y first.0 text (rw other refl) (rw other refl) first.1

flag_unknown : (word : Text) → IsUtf8 word → NoneOfSix word → is_flag word ≡ true → IsUnknown word
flag_unknown [] u none flag = absurd (true≢false (sym flag))
flag_unknown (x ∷ []) u none flag = absurd (go (x == 45) flag)
  where
    go : (b : Bool) → (b && false) ≡ true → ⊥
    go true e = true≢false (sym e)
    go false e = true≢false (sym e)
flag_unknown (x ∷ y ∷ text) u none flag = go (x == 45) refl (sym (two_or_more x y text) ∙ flag)
  where
    long : (z : Text) → NoneOfSix (45 ∷ 45 ∷ z) → IsUnknown (45 ∷ 45 ∷ z)
    long [] none = absurd (true≢false none.more)
    long (z ∷ text) none = long_unknown z text none

    second : (b : Bool) → (y == 45) ≡ b → IsUtf8 (45 ∷ y ∷ text) → NoneOfSix (45 ∷ y ∷ text) → IsUnknown (45 ∷ y ∷ text)
    second true e u none = subst (λ n. IsUnknown (45 ∷ n ∷ text)) (sym (eqb-true y 45 e)) (long text (subst (λ n. NoneOfSix (45 ∷ n ∷ text)) (eqb-true y 45 e) none))
    second false e u none = short_unknown y text u e

    go : (b : Bool) → (x == 45) ≡ b → (b && true) ≡ true → IsUnknown (x ∷ y ∷ text)
    go true e h =
        let is : x ≡ 45 = eqb-true x 45 e in
        subst (λ n. IsUnknown (n ∷ y ∷ text)) (sym is) (second (y == 45) refl (subst (λ n. IsUtf8 (n ∷ y ∷ text)) is u) (subst (λ n. NoneOfSix (n ∷ y ∷ text)) is none))
    go false e h = absurd (true≢false (sym h))

-- ---- a word that is no flag

plain_reads : (word : Text) → NoneOfSix word → is_flag word ≡ false → (words : List Text) → arguments (word ∷ words) ≡ option_map (with_file word) (arguments words)
plain_reads word none flag words = λ i. by_tests (none.more i) (none.strip i) (none.steps i) (none.steps_with i) (none.layout i) (none.layout_with i) (flag i) word words

no_long : (word : Text) → is_flag word ≡ false → long_of word ≡ None
no_long [] flag = refl
no_long (x ∷ []) flag = go (x == 45) refl
  where
    go : (b : Bool) → (x == 45) ≡ b → long_of (x ∷ []) ≡ None
    go true e = rw e refl
    go false e = rw e refl
no_long (x ∷ y ∷ text) flag = go (x == 45) refl (sym (two_or_more x y text) ∙ flag)
  where
    go : (b : Bool) → (x == 45) ≡ b → (b && true) ≡ false → long_of (x ∷ y ∷ text) ≡ None
    go true e h = absurd (true≢false h)
    go false e h = rw e refl

no_short : (word : Text) → is_flag word ≡ false → short_of word ≡ None
no_short [] flag = refl
no_short (x ∷ []) flag = go (x == 45) refl
  where
    go : (b : Bool) → (x == 45) ≡ b → short_of (x ∷ []) ≡ None
    go true e = rw e refl
    go false e = rw e refl
no_short (x ∷ y ∷ text) flag = go (x == 45) refl (sym (two_or_more x y text) ∙ flag)
  where
    go : (b : Bool) → (x == 45) ≡ b → (b && true) ≡ false → short_of (x ∷ y ∷ text) ≡ None
    go true e h = absurd (true≢false h)
    go false e h = rw e refl

-- ---- each word is of one kind

marked : (n : ℕ) (word mark : Text) → bytes_eq (take n word) mark ≡ true → word ≡ mark ++ drop n word
marked n word mark e = sym (take-append-drop n word) ∙ ap (λ (t : Text). t ++ drop n word) (same (take n word) mark e)

other_kind : (word : Text) → IsUtf8 word → NoneOfSix word → Kind word
other_kind word u none = go (is_flag word) refl
  where
    go : (b : Bool) → is_flag word ≡ b → Kind word
    go true flag = refused (record { flag = flag; more = none.more; unread = unread word none flag; how = flag_unknown word u none flag })
    go false flag = plain (record { flag = flag; more = none.more; long = no_long word flag; short = no_short word flag; reads = plain_reads word none flag })

pub kind_of : (word : Text) → IsUtf8 word → Kind word
kind_of word u = by (bytes_eq word (codes "--")) refl (bytes_eq word (codes "--strip")) refl (bytes_eq word (codes "--steps")) refl (bytes_eq (take 8 word) steps_mark) refl (bytes_eq word (codes "--layout")) refl (bytes_eq (take 9 word) layout_mark) refl
  where
    by : (m : Bool) → bytes_eq word (codes "--") ≡ m → (s : Bool) → bytes_eq word (codes "--strip") ≡ s → (t : Bool) → bytes_eq word (codes "--steps") ≡ t → (tw : Bool) → bytes_eq (take 8 word) steps_mark ≡ tw
        → (l : Bool) → bytes_eq word (codes "--layout") ≡ l → (lw : Bool) → bytes_eq (take 9 word) layout_mark ≡ lw → Kind word
    by true me s se t te tw twe l le lw lwe = dashes (same word (codes "--") me)
    by false me true se t te tw twe l le lw lwe = strip (same word (codes "--strip") se)
    by false me false se true te tw twe l le lw lwe = lone steps (same word (codes "--steps") te)
    by false me false se false te true twe l le lw lwe = joined steps (drop 8 word) (marked 8 word steps_mark twe)
    by false me false se false te false twe true le lw lwe = lone layout (same word (codes "--layout") le)
    by false me false se false te false twe false le true lwe = joined layout (drop 9 word) (marked 9 word layout_mark lwe)
    by false me false se false te false twe false le false lwe =
        other_kind word u (record { more = me; strip = se; steps = te; steps_with = twe; layout = le; layout_with = lwe })

-- each word is text
abbrev pub AreTexts : List Text → Type 0
AreTexts [] = Unit {0}
AreTexts (word ∷ words) = IsUtf8 word × AreTexts words

pub plain_of : (word : Text) → Kind word → is_flag word ≡ false → IsPlain word
plain_of word (dashes is) none = absurd (true≢false (sym (ap is_flag is) ∙ none))
plain_of word (strip is) none = absurd (true≢false (sym (ap is_flag is) ∙ none))
plain_of word (lone steps is) none = absurd (true≢false (sym (ap is_flag is) ∙ none))
plain_of word (lone layout is) none = absurd (true≢false (sym (ap is_flag is) ∙ none))
plain_of word (joined steps v is) none = absurd (true≢false (sym (ap is_flag is ∙ two_or_more 45 45 (codes "steps=" ++ v)) ∙ none))
plain_of word (joined layout v is) none = absurd (true≢false (sym (ap is_flag is ∙ two_or_more 45 45 (codes "layout=" ++ v)) ∙ none))
plain_of word (refused r) none = absurd (true≢false (sym r.flag ∙ none))
plain_of word (plain p) none = p
