-- Loops of which a register is written.
use Rattle.std.proofs.Common.{◌∙◌, ◌≡◌, ℕ, ◌+◌, ◌-◌, ◌<◌, Bool, true, false, ◌&&◌, ◌||◌, not, refl, ap, arith}
use Rattle.std.specs.Prelude.{nat_lt, nat_le}
use Rattle.std.proofs.lemmas.Bool.{ltb-true, ltb-false, lt-ltb, leb-true, leb-false}
use Rattle.verifier.specs.declared.registers.RegisterSet.{RegisterSet}
use Rattle.verifier.specs.declared.note.Note.{Note}
use Rattle.verifier.specs.Registers.{has, is_in, is_hit, hit, meant, Alike}
use Rattle.verifier.proofs.Bits.{in_set_low}

-- the loops of which a register is in a range that is not empty
hit_range : (first end a low : ℕ) → first < end → low ≡ first - 2 → is_in low end a ≡ is_hit first end a
hit_range first end a low some is = go (nat_le low a) (nat_lt a end) (nat_le first a) (nat_le first (a + 1)) (nat_lt (a + 1) end) (nat_le first (a + 2)) (nat_lt (a + 2) end) refl refl refl refl refl refl refl
  where
    go : (l e f0 f1 e1 f2 e2 : Bool) → nat_le low a ≡ l → nat_lt a end ≡ e → nat_le first a ≡ f0 → nat_le first (a + 1) ≡ f1 → nat_lt (a + 1) end ≡ e1 → nat_le first (a + 2) ≡ f2 → nat_lt (a + 2) end ≡ e2 → (l && e) ≡ (f0 && e || f1 && e1 || f2 && e2)
    go false e false false e1 false e2 hl he h0 h1 g1 h2 g2 = refl
    go false e true f1 e1 f2 e2 hl he h0 h1 g1 h2 g2 = absurd (omega (arith, leb-true first a h0, leb-false low a hl, is))
    go false e false true e1 f2 e2 hl he h0 h1 g1 h2 g2 = absurd (omega (arith, leb-true first (a + 1) h1, leb-false low a hl, is))
    go false e false false e1 true e2 hl he h0 h1 g1 h2 g2 = absurd (omega (arith, leb-true first (a + 2) h2, leb-false low a hl, is))
    go true e f0 f1 e1 false e2 hl he h0 h1 g1 h2 g2 = absurd (omega (arith, leb-false first (a + 2) h2, leb-true low a hl, is))
    go true false f0 f1 true true e2 hl he h0 h1 g1 h2 g2 = absurd (omega (arith, ltb-false a end he, ltb-true (a + 1) end g1))
    go true false f0 f1 false true true hl he h0 h1 g1 h2 g2 = absurd (omega (arith, ltb-false a end he, ltb-true (a + 2) end g2))
    go true false true true false true false hl he h0 h1 g1 h2 g2 = refl
    go true false true false false true false hl he h0 h1 g1 h2 g2 = refl
    go true false false true false true false hl he h0 h1 g1 h2 g2 = refl
    go true false false false false true false hl he h0 h1 g1 h2 g2 = refl
    go true true true f1 e1 true e2 hl he h0 h1 g1 h2 g2 = refl
    go true true false true true true e2 hl he h0 h1 g1 h2 g2 = refl
    go true true false true false true e2 hl he h0 h1 g1 h2 g2 = absurd (omega (arith, leb-false first a h0, ltb-false (a + 1) end g1, some))
    go true true false false e1 true true hl he h0 h1 g1 h2 g2 = refl
    go true true false false e1 true false hl he h0 h1 g1 h2 g2 = absurd (omega (arith, leb-false first (a + 1) h1, ltb-false (a + 2) end g2, some))

pub hit_loops : (n : Note) (lost left : RegisterSet) (first end low : ℕ) → first < end → low ≡ first - 2 → ((r : ℕ) → has lost r ≡ (nat_lt r 512 && is_in low end r)) → ((r : ℕ) → has left r ≡ (has n.loops r && not (has lost r))) → Alike (meant (record { free = n.free; loops = left })) (hit first end (meant n))
hit_loops n lost left first end low some is f g = record {
  captured = λ r. refl;
  loops = λ a. g a ∙ go a (has n.loops a) refl;
}
  where
    go : (a : ℕ) (b : Bool) → has n.loops a ≡ b → (b && not (has lost a)) ≡ (b && not (is_hit first end a))
    go a false e = refl
    go a true e = ap not (f a ∙ ap (λ x. x && is_in low end a) (lt-ltb a 512 (in_set_low n.loops a e)) ∙ hit_range first end a low some is)
