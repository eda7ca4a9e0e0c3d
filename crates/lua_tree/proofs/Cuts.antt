-- A text is cut into line ends and other bytes in one way.
use Rattle.std.proofs.Common.{◌≡◌, ℕ, ◌+◌, ◌<◌, false, List, [], ◌∷◌, ◌++◌, length, min, refl, sym, ap, ◌∙◌, arith}
use Rattle.lua_tree.specs.Bytes.{ends_line}
use Rattle.lua_tree.specs.Lines.{Part, End, Other, text_of, IsCut, line_end, end_count, IsLineOf}

pub record SameFronts (a b x y : List ℕ) : Type 0 where
  pub fronts : a ≡ b
  pub rests : x ≡ y

pub same_fronts : (a b x y : List ℕ) → a ++ x ≡ b ++ y → length a ≡ length b → SameFronts a b x y
same_fronts [] [] x y e l = record { fronts = refl; rests = e }
same_fronts [] (q ∷ b) x y e l = absurd (omega (arith, l))
same_fronts (p ∷ a) [] x y e l = absurd (omega (arith, l))
same_fronts (p ∷ a) (q ∷ b) x y e l =
    let tails : a ++ x ≡ b ++ y = cc in
    let same : SameFronts a b x y = same_fronts a b x y tails (omega (arith, l)) in
    let heads : p ≡ q = cc in
    record { fronts = cc; rests = same.rests }

-- a byte that ends no line begins no line end
no_line_end : (byte : ℕ) (text : List ℕ) → ends_line byte ≡ false → line_end (byte ∷ text) ≡ 0
no_line_end byte [] h = rw h
no_line_end byte (next ∷ text) h = rw h

pub no_end_here : (byte : ℕ) (text bytes after : List ℕ) → ends_line byte ≡ false → 0 < length bytes → length bytes ≡ line_end (bytes ++ after) → byte ∷ text ≡ bytes ++ after → ⊥
no_end_here byte text bytes after h some whole e =
    let none : line_end (bytes ++ after) ≡ 0 = ap line_end (sym e) ∙ no_line_end byte text h in
    omega (arith, some, whole, none)

no_part : (bytes after : List ℕ) → 0 < length bytes → [] ≡ bytes ++ after → ⊥
no_part [] after some e = omega (arith, some)
no_part (byte ∷ bytes) after some e = cc

pub cuts_are_one : (p q : List Part) → IsCut p → IsCut q → text_of p ≡ text_of q → p ≡ q
cuts_are_one [] [] a b e = refl
cuts_are_one [] (End bytes ∷ q) a b e = absurd (no_part bytes (text_of q) b.0 e)
cuts_are_one [] (Other byte ∷ q) a b e = cc
cuts_are_one (End bytes ∷ p) [] a b e = absurd (no_part bytes (text_of p) a.0 (sym e))
cuts_are_one (End bytes ∷ p) (End others ∷ q) a b e =
    let same_length : length bytes ≡ length others = a.1 ∙ (ap line_end e ∙ sym b.1) in
    let same : SameFronts bytes others (text_of p) (text_of q) = same_fronts bytes others (text_of p) (text_of q) e same_length in
    let rest : p ≡ q = cuts_are_one p q a.2 b.2 same.rests in
    let fronts : bytes ≡ others = same.fronts in
    cc
cuts_are_one (End bytes ∷ p) (Other byte ∷ q) a b e = absurd (no_end_here byte (text_of q) bytes (text_of p) b.0 a.0 a.1 (sym e))
cuts_are_one (Other byte ∷ p) [] a b e = cc
cuts_are_one (Other byte ∷ p) (End bytes ∷ q) a b e = absurd (no_end_here byte (text_of p) bytes (text_of q) a.0 b.0 b.1 e)
cuts_are_one (Other byte ∷ p) (Other other ∷ q) a b e =
    let tails : text_of p ≡ text_of q = cc in
    let rest : p ≡ q = cuts_are_one p q a.1 b.1 tails in
    let heads : byte ≡ other = cc in
    cc

pub one_line : (text : List ℕ) (a b : ℕ) → IsLineOf text a → IsLineOf text b → a ≡ b
one_line text a b x y =
    let same : x.parts ≡ y.parts = cuts_are_one x.parts y.parts x.cut.cut y.cut.cut (sym x.cut.whole ∙ y.cut.whole) in
    x.line_is ∙ (ap (λ parts. min (end_count parts + 1) 2147483647) same ∙ sym y.line_is)
