-- Where a fault stands no piece begins, and one fault stands there.
use Rattle.std.proofs.Common.{◌≡◌, ◌&&◌, ◌⊎◌, ℕ, Bool, true, false, List, [], ◌∷◌, ◌++◌, refl, sym, ap, subst, ◌∙◌, ◌==◌, inl, inr, arith}
use Rattle.std.specs.Prelude.{codes}
use Rattle.std.proofs.lemmas.Bool.Decides.{nat_tests}
use Rattle.lua_tree.specs.Bytes.{has_front, longest}
use Rattle.lua_tree.specs.Strings.{items_text}
use Rattle.lua_tree.specs.Tokens.{marks}
use Rattle.lua_tree.specs.Tiling.{Cause, BadByte, UnfinishedString, UnfinishedLong, BadLongOpen, EscapeTooLarge, BadNumber, IsBadByte, IsBadNumber, IsBadOpening, IsUnclosed, IsUnfinished, IsTooLarge, IsFault}
use Rattle.lua_tree.proofs.LongBrackets.{true_false}
use Rattle.lua_tree.proofs.BadBytes.{may_begin, bad_class, no_mark, tilde_longest, nothing_passes}
use Rattle.lua_tree.proofs.Pieces.{Class, White, Word, Numeral, Quoted, Bracketed, Commented, Marked, class_of, numeral_class, long_class, short_class}

-- a fault of a class
abbrev pub FaultIn : Class → Cause → List ℕ → ℕ → Type 0
FaultIn White cause text distance = ⊥
FaultIn Word cause text distance = ⊥
FaultIn Numeral cause text distance = IsBadNumber text × (cause ≡ BadNumber) × (distance ≡ 0)
FaultIn Quoted cause text distance = (IsUnfinished text × (cause ≡ UnfinishedString) × (distance ≡ 0)) ⊎ (IsTooLarge text distance × (cause ≡ EscapeTooLarge))
FaultIn Bracketed cause text distance = (IsBadOpening text × (cause ≡ BadLongOpen) × (distance ≡ 0)) ⊎ (IsUnclosed [] text × (cause ≡ UnfinishedLong) × (distance ≡ 0))
FaultIn Commented cause text distance = IsUnclosed (codes "--") text × (cause ≡ UnfinishedLong) × (distance ≡ 2)
FaultIn Marked cause text distance = (longest marks text ≡ 0) × (cause ≡ BadByte) × (distance ≡ 0)

pub record SeenFault (cause : Cause) (at : ℕ) (text : List ℕ) (distance : ℕ) : Type 0 where
  pub class : Class
  pub class_is : class_of at text ≡ class
  pub seen : FaultIn class cause text distance

bad_byte_seen : (at : ℕ) (text : List ℕ) (distance : ℕ) → distance ≡ 0 → IsBadByte text → SeenFault BadByte at text distance
bad_byte_seen at [] distance d h = absurd h
bad_byte_seen at (byte ∷ text) distance d (inl h) =
    let none : may_begin byte ≡ false = nothing_passes byte h in
    record { class = Marked; class_is = bad_class at byte text none; seen = (no_mark byte text none, refl, d) }
bad_byte_seen at (byte ∷ text) distance d (inr h) =
    record {
      class = Marked;
      class_is = subst (λ b. class_of at (b ∷ text) ≡ Marked) (sym h.0) refl;
      seen = (subst (λ b. longest marks (b ∷ text) ≡ 0) (sym h.0) (tilde_longest text h.1), refl, d);
    }

one_byte : (b : Bool) → (b && false) ≡ true → ⊥
one_byte true h = true_false (sym h)
one_byte false h = true_false (sym h)

bracket_opens : (at : ℕ) (text : List ℕ) → has_front (codes "[=") text ≡ true → class_of at text ≡ Bracketed
bracket_opens at [] h = absurd (true_false (sym h))
bracket_opens at (a ∷ []) h = absurd (one_byte (91 == a) h)
bracket_opens at (a ∷ b ∷ text) h =
    let first : a ≡ 91 = grind (arith, nat_tests) in
    let second : b ≡ 61 = grind (arith, nat_tests) in
    subst (λ x. class_of at (x ∷ b ∷ text) ≡ Bracketed) (sym first) (subst (λ y. class_of at (91 ∷ y ∷ text) ≡ Bracketed) (sym second) refl)

pub fault_seen : (cause : Cause) (at : ℕ) (text : List ℕ) (distance : ℕ) → IsFault cause text distance → SeenFault cause at text distance
fault_seen BadByte at text distance is = bad_byte_seen at text distance is.0 is.1
fault_seen BadNumber at text distance is = record { class = Numeral; class_is = numeral_class at text is.1.begins; seen = (is.1, refl, is.0) }
fault_seen BadLongOpen at text distance is = record { class = Bracketed; class_is = bracket_opens at text is.1.front; seen = inl (is.1, refl, is.0) }
fault_seen UnfinishedLong at text distance (inl is) = record { class = Bracketed; class_is = ap (class_of at) is.1.whole ∙ long_class at is.1.level is.1.after; seen = inr (is.1, refl, is.0) }
fault_seen UnfinishedLong at text distance (inr is) = record { class = Commented; class_is = ap (class_of at) is.1.whole; seen = (is.1, refl, is.0) }
fault_seen UnfinishedString at text distance is = record { class = Quoted; class_is = ap (class_of at) is.1.whole ∙ short_class at is.1.quote (items_text is.1.items is.1.after) is.1.quoted; seen = inl (is.1, refl, is.0) }
fault_seen EscapeTooLarge at text distance is = record { class = Quoted; class_is = ap (class_of at) is.whole ∙ short_class at is.quote (items_text is.items (codes "\\" ++ (is.digits ++ is.after))) is.quoted; seen = inr (is, refl) }
