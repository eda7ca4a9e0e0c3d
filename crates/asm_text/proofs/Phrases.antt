-- Phrases: what a reader reads goes by the places that its values stand for. Each law is kept when phrases are put together.
use Rattle.std.proofs.Common.{◌≡◌, ℕ, List, [], ◌∷◌, ◌++◌, length, Option, None, Some, Result, Ok, Err, refl, sym, ap, subst, ◌∙◌}
use Rattle.std.proofs.lemmas.List.{append-nil}
use Rattle.lua_num.specs.Bytes.{Text}
use Rattle.lister.specs.Listing.{line}
use Rattle.asm_text.specs.declared.miss.Miss.{Miss}
use Rattle.asm_text.specs.Lines.{Place, Shows, Allowed, IsAlike, IsOneLine, together, Show}
use Rattle.asm_text.specs.Reading.{Read, ◌>>=◌, cut_at, if_cut, if_parsed, one_line_at, line_at}
use Rattle.asm_text.proofs.Cutting.{same_some, no_some, cut_there, cut_back}
use Rattle.asm_text.proofs.Places.{HasLine, ShowsLine, shows_more, first_shown, no_lines, NotThere, MissesLeft, missed_line, line_missed}

-- The bytes begin with lines of a value of the phrase.
pub record Taken {V : Type 0} (places : V → List Place) (Is : V → Type 0) (bytes : List ℕ) (x : V × List ℕ) : Type 0 where
  pub given : List Text
  pub here : bytes ≡ together given ++ x.1
  pub shown : Show (places x.0) given
  pub is : Is x.0

-- The lines go as some value of the phrase does, up to a place whose line they have not.
pub record MissIn {V : Type 0} (places : V → List Place) (Is : V → Type 0) (bytes : List ℕ) (m : Miss) : Type 0 where
  pub value : V
  pub is : Is value
  pub before : List Place
  pub due : Place
  pub after : List Place
  pub in_order : places value ≡ before ++ due ∷ after
  pub given : List Text
  pub shown : Show before given
  pub left : List ℕ
  pub here : bytes ≡ together given ++ left
  pub miss : MissesLeft due left m

-- what the answer means
abbrev pub Sees : {V : Type 0} → (V → List Place) → (V → Type 0) → List ℕ → Result (V × List ℕ) Miss → Type 0
Sees places Is bytes (Ok x) = Taken places Is bytes x
Sees places Is bytes (Err m) = MissIn places Is bytes m

-- The reader's answer is the only one that can mean what it means.
pub record Reads {V : Type 0} (read : Read V) (places : V → List Place) (Is : V → Type 0) : Type 0 where
  -- any value, behind a missed line
  pub some : V
  pub some_is : Is some
  pub sees : (bytes : List ℕ) → Sees places Is bytes (read bytes)
  pub gives : (bytes : List ℕ) (r : Result (V × List ℕ) Miss) → Sees places Is bytes r → read bytes ≡ r

-- ---- one line

-- What is read of a line is what stands there, and it is read.
pub record Parses {V : Type 0} (parse : Text → Option V) (place : V → Place) : Type 0 where
  pub some : V
  pub due : (v : V) → HasLine (place v)
  pub sound : (t : Text) (v : V) → parse t ≡ Some v → Allowed (place v) × Shows (place v) t
  pub complete : (t : Text) (v : V) → Allowed (place v) → Shows (place v) t → parse t ≡ Some v
  pub alike : (v w : V) → IsAlike (place v) (place w)
  pub only : (v : V) (p : Place) → IsAlike (place v) p → (w : V) × (p ≡ place w)

pub single_split : (x : Place) (before : List Place) (due : Place) (after : List Place) → x ∷ [] ≡ before ++ due ∷ after → (before ≡ []) × (x ≡ due)
single_split x [] due after e = (refl, cc)
single_split x (b ∷ []) due after e = absurd cc
single_split x (b ∷ (c ∷ before)) due after e = absurd cc

module _ {V : Type 0} (parse : Text → Option V) (place : V → Place) (p : Parses parse place) where
  abbrev one_place : V → List Place
  one_place v = place v ∷ []

  abbrev NoCondition : V → Type 0
  NoCondition v = Unit {0}

  not_there : (v : V) (bytes : List ℕ) → ((text : Text) (rest : List ℕ) (w : V) → bytes ≡ line text ++ rest → IsOneLine text → parse text ≡ Some w → ⊥) → NotThere (place v) bytes
  not_there v bytes absent text rest here one form =
      let q = p.only v form.0 form.1 in
      let allowed = subst Allowed q.1 form.2.0 in
      let shows = subst (λ i. Shows i text) q.1 form.2.1 in
      absent text rest q.0 here one (p.complete text q.0 allowed shows)

  miss_at : (bytes : List ℕ) → ((text : Text) (rest : List ℕ) (w : V) → bytes ≡ line text ++ rest → IsOneLine text → parse text ≡ Some w → ⊥) → MissIn one_place NoCondition bytes (Miss.BadLine (length bytes))
  miss_at bytes absent = record {
    value = p.some;
    is = tt;
    before = [];
    due = place p.some;
    after = [];
    in_order = refl;
    given = [];
    shown = tt;
    left = bytes;
    here = refl;
    miss = missed_line (place p.some) bytes (p.due p.some) (not_there p.some bytes absent);
  }

  parsed_sees : (bytes : List ℕ) (t : Text) (rest : List ℕ) (r : Option V) → cut_at 10 bytes ≡ Some (t, rest) → parse t ≡ r → Sees one_place NoCondition bytes (if_parsed (length bytes) rest r)
  parsed_sees bytes t rest None cut e =
      miss_at bytes (λ text after w here one f.
      let same : (text, after) ≡ (t, rest) = same_some (text, after) (t, rest) (cut_at 10 bytes) (cut_there 10 text after bytes here one) cut in
      no_some w (parse t) e (ap (λ (x : Text × List ℕ). parse x.0) (sym same) ∙ f))
  parsed_sees bytes t rest (Some v) cut e =
      let c = cut_back 10 bytes (t, rest) cut in
      let s = p.sound t v e in
      record {
        given = t ∷ [];
        here = c.here ∙ ap (λ b. b ++ rest) (sym (append-nil (line t)));
        shown = shows_more (place v) t [] [] (record { one = c.lacks; allowed = s.0; shows = s.1 }) tt;
        is = tt;
      }

  cut_sees : (bytes : List ℕ) (r : Option (Text × Text)) → cut_at 10 bytes ≡ r → Sees one_place NoCondition bytes (if_cut (length bytes) r >>= λ x. if_parsed (length bytes) x.1 (parse x.0))
  cut_sees bytes None e = miss_at bytes (λ text after w here one f. no_some (text, after) (cut_at 10 bytes) e (cut_there 10 text after bytes here one))
  cut_sees bytes (Some x) e = parsed_sees bytes x.0 x.1 (parse x.0) e refl

  line_sees : (bytes : List ℕ) → Sees one_place NoCondition bytes (line_at parse bytes)
  unfolding one_line_at
  line_sees bytes = cut_sees bytes (cut_at 10 bytes) refl

  line_taken : (t : Text) (rest bytes : List ℕ) (v : V) → bytes ≡ line t ++ rest → ShowsLine (place v) t → line_at parse bytes ≡ Ok (v, rest)
  unfolding one_line_at
  line_taken t rest bytes v here s =
      let e : cut_at 10 bytes ≡ Some (t, rest) = cut_there 10 t rest bytes here s.one in
      let f : parse t ≡ Some v = p.complete t v s.allowed s.shows in
      rw (e, f)

  parsed_missed : (bytes : List ℕ) (v : V) (t : Text) (rest : List ℕ) (r : Option V) → NotThere (place v) bytes → cut_at 10 bytes ≡ Some (t, rest) → parse t ≡ r → if_parsed (length bytes) rest r ≡ Err (Miss.BadLine (length bytes))
  parsed_missed bytes v t rest None absent cut e = refl
  parsed_missed bytes v t rest (Some w) absent cut e =
      let c = cut_back 10 bytes (t, rest) cut in
      absurd (absent t rest c.here c.lacks (place w, p.alike v w, p.sound t w e))

  cut_missed : (bytes : List ℕ) (v : V) (r : Option (Text × Text)) → NotThere (place v) bytes → cut_at 10 bytes ≡ r → (if_cut (length bytes) r >>= λ x. if_parsed (length bytes) x.1 (parse x.0)) ≡ Err (Miss.BadLine (length bytes))
  cut_missed bytes v None absent e = refl
  cut_missed bytes v (Some x) absent e = parsed_missed bytes v x.0 x.1 (parse x.0) absent e refl

  line_gives : (bytes : List ℕ) (r : Result (V × List ℕ) Miss) → Sees one_place NoCondition bytes r → line_at parse bytes ≡ r
  unfolding one_line_at
  line_gives bytes (Ok x) s =
      let f = first_shown (place x.0) [] s.given (p.due x.0) s.shown in
      let all : s.given ≡ f.text ∷ [] = f.is ∙ ap (λ ts. f.text ∷ ts) (no_lines f.others f.rest) in
      line_taken f.text x.1 bytes x.0 (s.here ∙ ap (λ ts. together ts ++ x.1) all ∙ ap (λ b. b ++ x.1) (append-nil (line f.text))) f.line
  line_gives bytes (Err m) s =
      let at = single_split (place s.value) s.before s.due s.after s.in_order in
      let none : s.given ≡ [] = no_lines s.given (subst (λ ps. Show ps s.given) at.0 s.shown) in
      let all : bytes ≡ s.left = s.here ∙ ap (λ ts. together ts ++ s.left) none in
      let missed = line_missed (place s.value) s.left m (p.due s.value) (subst (λ i. MissesLeft i s.left m) (sym at.1) s.miss) in
      ap (line_at parse) all ∙ cut_missed s.left s.value (cut_at 10 s.left) missed.1 refl ∙ ap (λ m. Err m) missed.0

pub reads_line : {V : Type 0} {parse : Text → Option V} {place : V → Place} → Parses parse place → Reads (line_at parse) (λ v. place v ∷ []) (λ v. Unit {0})
reads_line {parse = parse} {place = place} p = record {
  some = p.some;
  some_is = tt;
  sees = line_sees parse place p;
  gives = line_gives parse place p;
}
