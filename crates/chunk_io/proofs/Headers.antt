-- The header, which gives the layout.
use Rattle.std.proofs.Common.{◌≡◌, ℕ, Bool, true, false, eqb, List, [], ◌∷◌, map, refl, sym, ap, subst, inl, inr}
use Rattle.std.specs.Prelude.{◌||◌}
use Rattle.std.proofs.Math.Bool.{Bool-set}
use Rattle.std.proofs.lemmas.Bool.{both_ways, eqb-true, or_cases}
use Rattle.chunk_io.specs.declared.layout.Layout.{Layout}
use Rattle.chunk_io.specs.Items.{sign, order, integral, header}
use Rattle.chunk_io.specs.Reading.{signs_at, layout_of, header_at}
use Rattle.chunk_io.proofs.Phrases.{Reads, reads_item}
use Rattle.chunk_io.proofs.Joined.{reads_then}
use Rattle.chunk_io.proofs.Renamed.{reads_as, reads_nothing}
use Rattle.chunk_io.proofs.SingleBytes.{width_of, sign_item, order_item, width_item, integral_item}

abbrev Nothing : Type 0
Nothing = Unit {0}

reads_signs : (bs : List ℕ) → Reads (signs_at bs) (λ u. map sign bs) (λ u. Unit {0})
unfolding signs_at
reads_signs [] = reads_as (λ (u : Nothing). u) (λ u. []) (λ u. Unit {0}) (reads_nothing {V = Nothing} (λ u. []) tt refl) (λ u is. (refl, tt)) (λ u is. (tt, refl, refl))
reads_signs (b ∷ bs) =
    reads_as (λ (p : Nothing × Nothing). tt {0}) (λ u. map sign (b ∷ bs)) (λ u. Unit {0}) (reads_then (reads_item (sign_item b)) (λ u is. reads_signs bs)) (λ p is. (refl, tt)) (λ u is. ((tt, tt), refl, (tt, tt)))

abbrev made : (little : Bool) (size : ℕ) → ((eqb size 4) || (eqb size 8)) ≡ true → Layout
made little size is = record { little = little; size = size; is_size = is }

same_size : (little : Bool) (a b : ℕ) (p : ((eqb a 4) || (eqb a 8)) ≡ true) (q : ((eqb b 4) || (eqb b 8)) ≡ true) → a ≡ b → made little a p ≡ made little b q
same_size little a b p q e = subst (λ (c : ℕ). (r : ((eqb c 4) || (eqb c 8)) ≡ true) → made little a p ≡ made little c r) e (λ r. ap (made little a) (Bool-set _ _ p r)) q

tested : (l : Layout) (wide : Bool) → eqb l.size 8 ≡ wide → layout_of l.little wide ≡ l
tested l true e = same_size l.little 8 l.size refl l.is_size (sym (eqb-true l.size 8 e))
tested l false e = same_size l.little 4 l.size refl l.is_size (elim (or_cases (eqb l.size 4) (eqb l.size 8) l.is_size) [
  | inl four ↦ sym (eqb-true l.size 4 four)
  | inr eight ↦ absurd (both_ways (eqb l.size 8) e eight)
])

laid_out : (l : Layout) → layout_of l.little (eqb l.size 8) ≡ l
laid_out l = tested l (eqb l.size 8) refl

header_is : (little wide : Bool) → header (layout_of little wide) ≡ sign 27 ∷ sign 76 ∷ sign 117 ∷ sign 97 ∷ sign 81 ∷ sign 0 ∷ order little ∷ sign 4 ∷ width_of wide ∷ sign 4 ∷ sign 8 ∷ integral ∷ []
header_is little true = refl
header_is little false = refl

abbrev HeaderParts : Type 0
HeaderParts = Nothing × (Bool × (Nothing × (Bool × (Nothing × Nothing))))

pub reads_header : Reads header_at header (λ l. Unit {0})
unfolding header_at
reads_header =
    reads_as (λ (p : HeaderParts). layout_of p.1.0 p.1.1.1.0) header (λ l. Unit {0})
    (reads_then (reads_signs (27 ∷ 76 ∷ 117 ∷ 97 ∷ 81 ∷ 0 ∷ [])) (λ u is. reads_then (reads_item order_item) (λ little is. reads_then (reads_item (sign_item 4)) (λ u is. reads_then (reads_item width_item) (λ wide is. reads_then (reads_signs (4 ∷ 8 ∷ [])) (λ u is. reads_item integral_item))))))
    (λ p is. (header_is p.1.0 p.1.1.1.0, tt))
    (λ l is. ((tt, (l.little, (tt, (eqb l.size 8, (tt, tt))))), laid_out l, (tt, (tt, (tt, (tt, (tt, tt)))))))
