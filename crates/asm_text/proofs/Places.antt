-- Lines that show places, in a row.
use Rattle.std.proofs.Common.{◌≡◌, ◌≢◌, ℕ, ◌<◌, List, [], ◌∷◌, ◌++◌, length, refl, sym, ap, ◌∙◌, append_assoc}
use Rattle.std.proofs.lemmas.Grind.{flat_map-append}
use Rattle.lua_num.specs.Bytes.{Text}
use Rattle.lister.specs.Listing.{line}
use Rattle.asm_text.specs.declared.miss.Miss.{Miss}
use Rattle.asm_text.specs.Lines.{Place, begin, end, Shows, Allowed, HasForm, IsOneLine, together, Show}

-- a place that has a line
abbrev pub HasLine : Place → Type 0
HasLine (begin nesting) = ⊥
HasLine end = ⊥
HasLine p = Unit {0}

pub record ShowsLine (p : Place) (t : Text) : Type 0 where
  pub one : IsOneLine t
  pub allowed : Allowed p
  pub shows : Shows p t

pub shows_more : (p : Place) (t : Text) (ps : List Place) (ts : List Text) → ShowsLine p t → Show ps ts → Show (p ∷ ps) (t ∷ ts)
shows_more (begin n) t ps ts s h = absurd s.shows
shows_more p t ps ts s h = (s.one, s.allowed, s.shows, h)

-- the first line of some
pub record FirstShown (p : Place) (ps : List Place) (ts : List Text) : Type 0 where
  pub text : Text
  pub others : List Text
  pub is : ts ≡ text ∷ others
  pub line : ShowsLine p text
  pub rest : Show ps others

pub first_shown : (p : Place) (ps : List Place) (ts : List Text) → HasLine p → Show (p ∷ ps) ts → FirstShown p ps ts
first_shown (begin n) ps ts due h = absurd due
first_shown end ps ts due h = absurd due
first_shown p ps [] due h = absurd h
first_shown p ps (t ∷ ts) due h = record { text = t; others = ts; is = refl; line = record { one = h.0; allowed = h.1; shows = h.2 }; rest = h.3 }

-- ---- two rows

pub together_both : (xs ys : List Text) (rest : List ℕ) → together (xs ++ ys) ++ rest ≡ together xs ++ (together ys ++ rest)
together_both xs ys rest = ap (λ b. b ++ rest) (flat_map-append line xs ys) ∙ append_assoc (together xs) (together ys) rest

then_both : (p : Place) (ps qs : List Place) (ss ts : List Text) → ((us : List Text) → Show ps us → Show (ps ++ qs) (us ++ ts)) → Show (p ∷ ps) ss → Show (p ∷ (ps ++ qs)) (ss ++ ts)
then_both (begin n) ps qs ss ts go h = (h.0, go ss h.1)
then_both p ps qs [] ts go h = absurd h
then_both p ps qs (s ∷ ss) ts go h = (h.0, h.1, h.2, go ss h.3)

pub show_both : (ps qs : List Place) (ss ts : List Text) → Show ps ss → Show qs ts → Show (ps ++ qs) (ss ++ ts)
show_both [] qs [] ts h g = g
show_both [] qs (s ∷ ss) ts h g = absurd h
show_both (p ∷ ps) qs ss ts h g = then_both p ps qs ss ts (λ us k. show_both ps qs us ts k g) h

-- lines that show two rows are those of the first and those of the second
pub record Split (ps qs : List Place) (ts : List Text) : Type 0 where
  pub first : List Text
  pub second : List Text
  pub is : ts ≡ first ++ second
  pub shows_first : Show ps first
  pub shows_second : Show qs second

then_split : (p : Place) (ps qs : List Place) (ts : List Text) → ((us : List Text) → Show (ps ++ qs) us → Split ps qs us) → Show (p ∷ (ps ++ qs)) ts → Split (p ∷ ps) qs ts
then_split (begin n) ps qs ts go h =
    let s = go ts h.1 in
    record { first = s.first; second = s.second; is = s.is; shows_first = (h.0, s.shows_first); shows_second = s.shows_second }
then_split p ps qs [] go h = absurd h
then_split p ps qs (t ∷ ts) go h =
    let s = go ts h.3 in
    record { first = t ∷ s.first; second = s.second; is = ap (λ us. t ∷ us) s.is; shows_first = (h.0, h.1, h.2, s.shows_first); shows_second = s.shows_second }

pub show_split : (ps qs : List Place) (ts : List Text) → Show (ps ++ qs) ts → Split ps qs ts
show_split [] qs ts h = record { first = []; second = ts; is = refl; shows_first = tt; shows_second = h }
show_split (p ∷ ps) qs ts h = then_split p ps qs ts (λ us k. show_split ps qs us k) h

pub no_lines : (ts : List Text) → Show [] ts → ts ≡ []
no_lines [] h = refl
no_lines (t ∷ ts) h = absurd h

-- ---- what is missed

-- the line that is left first, if there is one, has not the form of the place
abbrev pub NotThere : Place → List ℕ → Type 0
NotThere due left = (text : Text) (rest : List ℕ) → left ≡ line text ++ rest → IsOneLine text → HasForm due text → ⊥

-- As `Misses`, with how many bytes are left in place of the line's number.
abbrev pub MissesLeft : Place → (left : List ℕ) → Miss → Type 0
MissesLeft (begin nesting) left (Miss.TooDeep n) = (n ≡ length left) × (200 < nesting)
MissesLeft (begin nesting) left (Miss.BadLine n) = ⊥
MissesLeft end left (Miss.BadLine n) = (n ≡ length left) × (left ≢ [])
MissesLeft due left (Miss.BadLine n) = (n ≡ length left) × NotThere due left
MissesLeft due left (Miss.TooDeep n) = ⊥

pub missed_line : (p : Place) (left : List ℕ) → HasLine p → NotThere p left → MissesLeft p left (Miss.BadLine (length left))
missed_line (begin n) left due h = absurd due
missed_line end left due h = absurd due
missed_line p left due h = (refl, h)

pub line_missed : (p : Place) (left : List ℕ) (m : Miss) → HasLine p → MissesLeft p left m → (Miss.BadLine (length left) ≡ m) × NotThere p left
line_missed (begin n) left m due h = absurd due
line_missed end left m due h = absurd due
line_missed p left (Miss.BadLine n) due h = (ap (λ k. Miss.BadLine k) (sym h.0), h.1)
line_missed p left (Miss.TooDeep n) due h = absurd h
