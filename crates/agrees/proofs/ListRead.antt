-- A list of values in registers, with open results behind them or not, is read by the next word.
use Rattle.std.proofs.Common.{◌≡◌, ◌≤◌, ℕ, zero, suc, ◌+◌, ◌-◌, true, List, [], ◌∷◌, ◌++◌, length, Option, Some, None, refl, sym, ap, ◌∙◌, subst, arith, nat_le, length-append, append_assoc}
use Rattle.std.proofs.lemmas.Bool.Decides.{nat_tests}
use Rattle.proto.specs.Chunk.{own}
use Rattle.scheme.specs.Expressions.{Want, count_field}
use Rattle.lua_model.specs.Datum.{Datum, first_of, adjusted}
use Rattle.lua_model.specs.Store.{Outside}
use Rattle.source_meaning.specs.State.{State as SourceState}
use Rattle.rules.specs.State.{State, OpenResults, Effect, need, check, span}
use Rattle.rules.specs.Step.{listed, count_of}
use Rattle.agrees.proofs.Registers.{span_row}
use Rattle.agrees.proofs.Posts.{Row, Held}
use Rattle.agrees.proofs.Accounts.{Place, Now}
use Rattle.agrees.proofs.Picture.{Setup, Ghost, Site, registers, pic, at, Ok}

pub adjusted_one : (vs : List Datum) → adjusted 1 vs ≡ first_of vs ∷ []
adjusted_one [] = refl
adjusted_one (v ∷ vs) = refl

pub adjusted_self : (n : ℕ) (vs : List Datum) → length vs ≡ n → adjusted n vs ≡ vs
adjusted_self zero [] e = refl
adjusted_self zero (v ∷ vs) e = absurd (omega arith)
adjusted_self (suc n) [] e = absurd (omega arith)
adjusted_self (suc n) (v ∷ vs) e = ap (λ l. v ∷ l) (adjusted_self n vs (omega arith))

pub row_app : (high xs ys : List Datum) (k : ℕ) → Row high k xs → Row high (k + length xs) ys → Row high k (xs ++ ys)
row_app high [] ys k h g = subst (λ i. Row high i ys) (let q : k + 0 ≡ k = omega arith in q) g
row_app high (x ∷ xs) ys k h g = (h.0, row_app high xs ys (suc k) h.1 (subst (λ i. Row high i ys) (let q : k + suc (length xs) ≡ suc k + length xs = omega arith in q) g))

-- registers from one on, and the open results behind them
pub open_listed : (s : SourceState) (o : Outside) (g : Ghost) (x : Site) (k free first : ℕ) (front rest : List Datum) (pc : ℕ) (next : State → List Datum → Effect) → free ≡ length x.a.slots + k → first ≡ free + length front → k ≤ length x.high → Row x.high k front → listed (pic s o g x pc (registers s.cells x.a x.high) (Some (record { first = first; values = rest }))) free None next ≡ next (at s o g x pc) (front ++ rest)
open_listed s o g x k free first front rest pc next fr ef l row =
    let m : State = pic s o g x pc (registers s.cells x.a x.high) (Some (record { first = first; values = rest })) in
    ap (λ b. check b (need (span m free (first - free)) (λ us. next (at s o g x pc) (us ++ rest)))) (let t : nat_le free first ≡ true = grind (arith, nat_tests, ef) in t)
    ∙ ap (λ n. need (span m free n) (λ us. next (at s o g x pc) (us ++ rest))) (let q : first - free ≡ length front = omega (arith, ef) in q)
    ∙ ap (λ r. need r (λ us. next (at s o g x pc) (us ++ rest))) (span_row s.cells x.a x.high front free k m refl fr l row)

module _ (z : Setup) where
  -- the next word reads a list, behind a front in registers
  pub list_read : (want : Want) (x : Site) (s : SourceState) (o : Outside) (g : Ghost) (q base free kb k more : ℕ) (us vs : List Datum) (p : Place) → Ok z s g x → base ≡ length x.a.slots + kb → k ≡ kb + length us → free ≡ base + length us → free ≤ (own x.a.chunk).registers → more ≡ suc (length us) → Row x.high kb us → ((n : ℕ) → want ≡ Some n → length vs ≡ n) → Held want x.high k (pic s o g x q (registers s.cells x.a x.high)) free vs p → (r : Option OpenResults) × (p ≡ Now (pic s o g x q (registers s.cells x.a x.high) r)) × ((pc : ℕ) (next : State → List Datum → Effect) → listed (pic s o g x pc (registers s.cells x.a x.high) r) base (count_of (count_field more want)) next ≡ next (at s o g x pc) (us ++ vs))
  list_read (Some n) x s o g q base free kb k more us vs p ok e ek ef room em front exact h =
      let many : length vs ≡ n = exact n refl in
      let row : Row x.high kb (us ++ vs) = row_app x.high us vs kb front (subst (λ i. Row x.high i vs) ek (subst (Row x.high k) (adjusted_self n vs many) h.0)) in (
        None,
        h.1,
        λ pc next.
            ap (λ c. listed (at s o g x pc) base c next) (ap count_of (let q1 : n + more ≡ suc (length (us ++ vs)) = omega (arith, many, em, length-append us vs) in q1))
            ∙ ap (λ y. need y (λ ws. next (at s o g x pc) ws)) (span_row s.cells x.a x.high (us ++ vs) base kb (at s o g x pc) refl e (let y = ok.acts.1 in omega (arith, e, ef, room, y)) row),
      )
  list_read None x s o g q base free kb k more us vs p ok e ek ef room em front exact h =
      let first : ℕ = free + length h.0 in
      let row : Row x.high kb (us ++ h.0) = row_app x.high us h.0 kb front (subst (λ i. Row x.high i h.0) ek h.2) in (
        Some (record { first = first; values = h.1 }),
        h.4,
        λ pc next.
            open_listed s o g x kb base first (us ++ h.0) h.1 pc next e (omega (arith, ef, length-append us h.0)) (let y = ok.acts.1 in omega (arith, e, ef, room, y)) row
            ∙ ap (next (at s o g x pc)) (append_assoc us h.0 h.1 ∙ ap (λ l. us ++ l) (sym h.3)),
      )
