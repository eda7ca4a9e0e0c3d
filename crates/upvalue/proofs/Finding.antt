-- The cell that captures a register: the one that stands for it, which the rules find, or a new one.
use Rattle.std.proofs.Common.{◌≡◌, ℕ, zero, suc, ◌+◌, ◌-◌, ◌<◌, ◌≤◌, Bool, true, false, List, [], ◌∷◌, ◌++◌, length, map, Option, None, Some, ◌⊎◌, inl, inr, refl, sym, ap, ◌∙◌, add-zero, zero-add, arith}
use Rattle.std.specs.Prelude.{nat_eq, slice_get, if◌then◌else◌}
use Rattle.std.proofs.lemmas.Bool.{false≢true, false_from_ne_true, eq-eqb, ne_eqb, eqb-true, and_parts, and_left, and_from, cases_lt, cases_order}
use Rattle.std.proofs.lemmas.Option.{same_Some}
use Rattle.lua_model.specs.declared.Value.{Value}
use Rattle.lua_heap.specs.State.{HeapState, CellState, in_stack, held}
use Rattle.lua_heap.specs.declared.cells.CellId.{CellId}
use Rattle.rules.specs.State.{Cell, Open, Closed}
use Rattle.rules.specs.Cells.{is_open_at, find_open}
use Rattle.upvalue.specs.declared.shared.OpenCell.{OpenCell}
use Rattle.upvalue.specs.State.{StackState, top, below, size, place_of, register_at, cell_of}
use Rattle.upvalue.specs.Shared.{Shares}
use Rattle.upvalue.specs.Captured.{captured}
use Rattle.upvalue.specs.Gaps.{IsGap}
use Rattle.upvalue.proofs.Places.{IsWithin, at_top, at_rest, at_is_within}

-- ---- the search

module _ (frame register : ℕ) (f : CellState → Cell) where
  abbrev chosen : ℕ → List CellState → Bool → Option ℕ
  chosen n rest b = if b then Some n else find_open frame register (suc n) (map f rest)

  finds : (cells : List CellState) (n k : ℕ) (c : CellState) → slice_get cells k ≡ Some c → is_open_at frame register (f c) ≡ true → ((j : ℕ) (d : CellState) → slice_get cells j ≡ Some d → is_open_at frame register (f d) ≡ true → j ≡ k) → find_open frame register n (map f cells) ≡ Some (n + k)
  finds [] n k c e holds one = cc
  finds (x ∷ rest) n zero c e holds one =
      ap (chosen n rest) (ap (λ d. is_open_at frame register (f d)) (same_Some x c e) ∙ holds) ∙ ap Some (sym (add-zero n))
  finds (x ∷ rest) n (suc k) c e holds one = by (is_open_at frame register (f x)) refl (finds rest (suc n) k c e holds (λ j d at so. let more : suc j ≡ suc k = one (suc j) d at so in omega (arith, more)))
    where
      by : (b : Bool) → is_open_at frame register (f x) ≡ b → find_open frame register (suc n) (map f rest) ≡ Some (suc n + k) → find_open frame register n (map f (x ∷ rest)) ≡ Some (n + suc k)
      by true is so = let wrong : 0 ≡ suc k = one 0 x refl is in absurd (omega (arith, wrong))
      by false is so = let count : suc n + k ≡ n + suc k = omega arith in ap (chosen n rest) is ∙ so ∙ ap Some count

  finds_none : (cells : List CellState) (n : ℕ) → ((j : ℕ) (d : CellState) → slice_get cells j ≡ Some d → is_open_at frame register (f d) ≡ false) → find_open frame register n (map f cells) ≡ None
  finds_none [] n fails = refl
  finds_none (x ∷ rest) n fails = ap (chosen n rest) (fails 0 x refl) ∙ finds_none rest (suc n) (λ j d e. fails (suc j) d e)

-- ---- the cells of a register of the topmost frame

abbrev is_its : List (List Value) → ℕ → Cell → Bool
is_its frames register c = is_open_at (length (below frames)) register c

other_is_not : (frame register : ℕ) (c : Cell) → IsWithin frame c → is_open_at frame register c ≡ true → ⊥
other_is_not frame register (Open other r) w holds =
    false≢true (sym (and_left (nat_eq other frame) (nat_eq r register) (ne_eqb other frame (λ same. omega arith))) ∙ holds)
other_is_not frame register (Closed v) w holds = w

its_place : (frames : List (List Value)) (register place : ℕ) → register < length (top frames) → is_its frames register (register_at frames place) ≡ true → place ≡ place_of frames register
its_place [] register place within holds = absurd (omega arith)
its_place (top ∷ rest) register place within holds = by (cases_lt place (size rest))
  where
    by : (place < size rest) ⊎ (size rest ≤ place) → place ≡ size rest + register
    by (inl low) =
        let at_rest_too = sym (ap (is_open_at (length rest) register) (at_rest top rest place low)) ∙ holds in
        absurd (other_is_not (length rest) register (register_at rest place) (at_is_within rest place low) at_rest_too)
    by (inr high) =
        let parts = and_parts (nat_eq (length rest) (length rest)) (nat_eq (place - size rest) register) (sym (ap (is_open_at (length rest) register) (at_top top rest place high)) ∙ holds) in
        let same = eqb-true (place - size rest) register parts.1 in
        omega (arith, same)

at_its_place : (frames : List (List Value)) (register : ℕ) → register < length (top frames) → is_its frames register (register_at frames (place_of frames register)) ≡ true
at_its_place [] register within = absurd (omega arith)
at_its_place (top ∷ rest) register within =
    let same : size rest + register - size rest ≡ register = omega arith in
    ap (is_open_at (length rest) register) (at_top top rest (size rest + register) (omega arith))
    ∙ and_from (nat_eq (length rest) (length rest)) (nat_eq (size rest + register - size rest) register) (eq-eqb (length rest) (length rest) refl) (eq-eqb (size rest + register - size rest) register same)

not_in_gap : (shared : List OpenCell) (place at : ℕ) → IsGap shared place at → (k : ℕ) (cell : CellId) → slice_get shared k ≡ Some (record { place = place; cell = cell }) → ⊥
not_in_gap shared place at gap k cell e = by (cases_lt k at)
  where
    by : (k < at) ⊎ (at ≤ k) → ⊥
    by (inl low) = let wrong = gap.lower k _ low e in omega (arith, wrong)
    by (inr high) = let wrong = gap.higher k _ high e in omega (arith, wrong)

module _ (self : StackState) (h : HeapState) (shares : Shares self h) (register place : ℕ) (within : register < length (top self.frames)) (place_is : place ≡ place_of self.frames register) where
  abbrev test : CellState → Bool
  test d = is_its self.frames register (cell_of self.frames d)

  abbrev outcome : Option ℕ → ℕ × HeapState
  outcome o = elim o [ None ↦ (length h.cells, record h { cells = h.cells ++ in_stack (place_of self.frames register) ∷ [] }) | Some number ↦ (number, h) ]

  stands_for_it : (d : CellState) → test d ≡ true → d ≡ in_stack place
  stands_for_it (in_stack p) holds = ap in_stack (its_place self.frames register p within holds ∙ sym place_is)
  stands_for_it (held v) holds = absurd (false≢true holds)

  is_one : (i j : ℕ) (cell : CellId) → slice_get self.shared i ≡ Some (record { place = place; cell = cell }) → slice_get h.cells j ≡ Some (in_stack place) → j ≡ cell.index
  is_one i j cell e at = by (cases_order found.0 i)
    where
      found : (k : ℕ) × (slice_get self.shared k ≡ Some (record { place = place; cell = record { index = j } }))
      found = shares.all j place at

      by : (found.0 ≡ i) ⊎ ((found.0 < i) ⊎ (i < found.0)) → j ≡ cell.index
      by (inl same) = ap (λ (o : OpenCell). o.cell.index) (same_Some _ _ (sym found.1 ∙ ap (slice_get self.shared) same ∙ e))
      by (inr (inl less)) = let wrong = shares.in_order found.0 i _ _ less found.1 e in absurd (omega (arith, wrong))
      by (inr (inr more)) = let wrong = shares.in_order i found.0 _ _ more e found.1 in absurd (omega (arith, wrong))

  pub captured_there : (i : ℕ) (cell : CellId) → slice_get self.shared i ≡ Some (record { place = place; cell = cell }) → (cell.index, h) ≡ captured self.frames register h
  captured_there i cell e =
      let holds : test (in_stack place) ≡ true = ap (λ p. is_its self.frames register (register_at self.frames p)) place_is ∙ at_its_place self.frames register within in
      let one : (j : ℕ) (d : CellState) → slice_get h.cells j ≡ Some d → test d ≡ true → j ≡ cell.index = λ j d at so. is_one i j cell e (at ∙ ap Some (stands_for_it d so)) in
      sym (ap outcome (finds (length (below self.frames)) register (cell_of self.frames) h.cells 0 cell.index (in_stack place) (shares.stands i _ e) holds one ∙ ap Some (zero-add cell.index)))

  pub captured_new : (at number : ℕ) (now : HeapState) → IsGap self.shared place at → number ≡ length h.cells → now ≡ record h { cells = h.cells ++ in_stack place ∷ [] } → (number, now) ≡ captured self.frames register h
  captured_new at number now gap last is =
      let fails : (j : ℕ) (d : CellState) → slice_get h.cells j ≡ Some d → test d ≡ false = λ j d e. false_from_ne_true (test d) (λ holds. let found = shares.all j place (e ∙ ap Some (stands_for_it d holds)) in not_in_gap self.shared place at gap found.0 _ found.1) in
      ap (λ n. (n, now)) last
      ∙ ap (λ u. (length h.cells, u)) (is ∙ ap (λ p. record h { cells = h.cells ++ in_stack p ∷ [] }) place_is)
      ∙ sym (ap outcome (finds_none (length (below self.frames)) register (cell_of self.frames) h.cells 0 fails))
