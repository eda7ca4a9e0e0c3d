-- Steps with their parts, so many for each piece of the tree, on which the piece stands wherever they are among the steps of a function.
use Rattle.std.proofs.Common.{◌≡◌, ◌≤◌, ℕ, zero, suc, ◌+◌, List, [], ◌∷◌, ◌++◌, length, map, refl, sym, ap, ap₂, ◌∙◌, subst, arith, length-append}
use Rattle.std.specs.Prelude.{Bool, None, Some, slice_get}
use Rattle.lua_num.specs.Bytes.{Text}
use Rattle.std.proofs.lemmas.List.{length-map}
use Rattle.std.proofs.lemmas.Option.{none-some, same_Some}
use Rattle.recover_expr.specs.Drafts.{Part, nothing_part}
use Rattle.recover_expr.specs.Placing.{Steps}
use Rattle.recover_expr.specs.declared.steps.Step.{Step}
use Rattle.recover_expr.specs.declared.steps.StepKind.{StepKind}
use Rattle.scheme.specs.declared.making.Active.{Active}
use Rattle.same_flow.specs.Laid.{HasStep, IsJump, IsClose, HasKind, highest_captured}

-- ---- steps with their parts

pub record Entry : Type 0 where
  pub step : Step
  pub part : Part

-- these are the steps from a number on
abbrev pub Has : Steps → (from : ℕ) → List Entry → Type 0
Has code from [] = Unit {0}
Has code from (entry ∷ entries) = (slice_get code.steps from ≡ Some entry.step) × (slice_get code.parts from ≡ Some entry.part) × Has code (suc from) entries

has_first : (code : Steps) (from : ℕ) (xs ys : List Entry) → Has code from (xs ++ ys) → Has code from xs
has_first code from [] ys h = tt
has_first code from (x ∷ xs) ys h = (h.0, h.1, has_first code (suc from) xs ys h.2)

has_rest : (code : Steps) (from mid : ℕ) (xs ys : List Entry) → mid ≡ from + length xs → Has code from (xs ++ ys) → Has code mid ys
has_rest code from mid [] ys e h = let same : from ≡ mid = omega (arith, e) in subst (λ (x : ℕ). Has code x ys) same h
has_rest code from mid (x ∷ xs) ys e h = let same : mid ≡ suc from + length xs = omega (arith, e) in has_rest code (suc from) mid xs ys same h.2

abbrev pub AllHold : (Part → Type 0) → List Entry → Type 0
AllHold P [] = Unit {0}
AllHold P (entry ∷ entries) = P entry.part × AllHold P entries

hold_both : (P : Part → Type 0) (xs ys : List Entry) → AllHold P xs → AllHold P ys → AllHold P (xs ++ ys)
hold_both P [] ys h k = k
hold_both P (x ∷ xs) ys h k = (h.0, hold_both P xs ys h.1 k)

-- ---- a piece of the tree

-- for each destination and each first number as many steps, and there the piece stands on them
pub record Lays (P : Part → Type 0) (D : Type 0) (L : D → Steps → (from to : ℕ) → Type 0) : Type 0 where
  pub size : ℕ
  pub entries : D → (from : ℕ) → List Entry
  pub count : (d : D) (from : ℕ) → length (entries d from) ≡ size
  pub holds : (d : D) (from : ℕ) → AllHold P (entries d from)
  pub lays : (code : Steps) (d : D) (from : ℕ) → Has code from (entries d from) → L d code from (from + size)

-- one behind the other
abbrev pub Both : {D E F : Type 0} (one : F → (from mid to : ℕ) → D) (other : F → (from mid to : ℕ) → E) (L : D → Steps → ℕ → ℕ → Type 0) (M : E → Steps → ℕ → ℕ → Type 0) →
    F → Steps → (from to : ℕ) → Type 0
Both one other L M f code from to = (mid : ℕ) × (from ≤ mid) × (mid ≤ to) × L (one f from mid to) code from mid × M (other f from mid to) code mid to

-- a step whose kind is asked
abbrev pub OneStep : List Active → Part → StepKind → Steps → (from to : ℕ) → Type 0
OneStep active part kind code from to = HasStep code active from kind part × (to ≡ suc from)

abbrev pub Jumps : List Active → (target : ℕ) → Steps → (from to : ℕ) → Type 0
Jumps active target code from to = IsJump code active from target × (to ≡ suc from)

abbrev pub Closes : List Active → (register : ℕ) → Unit {0} → Steps → (from to : ℕ) → Type 0
Closes active register none code from to = IsClose code active from register × (to ≡ suc from)

abbrev pub Feet : List Active → (numeric : Bool) → (target : ℕ) → Steps → (from to : ℕ) → Type 0
Feet active numeric target code from to = HasKind code active from (StepKind.Foot numeric target) × (to ≡ suc from)

module _ {P : Part → Type 0} where
  -- by another destination, which its place may tell
  pub laid_by : {D E : Type 0} {L : D → Steps → ℕ → ℕ → Type 0} {M : E → Steps → ℕ → ℕ → Type 0} (by : E → (from to : ℕ) → D) →
      ((code : Steps) (e : E) (from to : ℕ) → from ≤ to → L (by e from to) code from to → M e code from to) → Lays P D L → Lays P E M
  laid_by by said A = record {
    size = A.size;
    entries = λ e from. A.entries (by e from (from + A.size)) from;
    count = λ e from. A.count (by e from (from + A.size)) from;
    holds = λ e from. A.holds (by e from (from + A.size)) from;
    lays = λ code e from h. said code e from (from + A.size) (omega arith) (A.lays code (by e from (from + A.size)) from h);
  }

  pub both : {D E F : Type 0} {L : D → Steps → ℕ → ℕ → Type 0} {M : E → Steps → ℕ → ℕ → Type 0} (one : F → (from mid to : ℕ) → D) (other : F → (from mid to : ℕ) → E) →
      Lays P D L → Lays P E M → Lays P F (Both one other L M)
  both {M = M} one other A B = record {
    size = A.size + B.size;
    entries = λ f from.
        let mid = from + A.size in
        let to = from + (A.size + B.size) in
        A.entries (one f from mid to) from ++ B.entries (other f from mid to) mid;
    count = λ f from.
        let mid = from + A.size in
        let to = from + (A.size + B.size) in
        length-append (A.entries (one f from mid to) from) (B.entries (other f from mid to) mid) ∙ ap₂ (λ n k. n + k) (A.count (one f from mid to) from) (B.count (other f from mid to) mid);
    holds = λ f from.
        let mid = from + A.size in
        let to = from + (A.size + B.size) in
        hold_both P (A.entries (one f from mid to) from) (B.entries (other f from mid to) mid) (A.holds (one f from mid to) from) (B.holds (other f from mid to) mid);
    lays = λ code f from h.
        let mid = from + A.size in
        let to = from + (A.size + B.size) in
        let xs = A.entries (one f from mid to) from in
        let ys = B.entries (other f from mid to) mid in
        let end : mid + B.size ≡ to = omega arith in
        let start : mid ≡ from + length xs = ap (λ n. from + n) (sym (A.count (one f from mid to) from)) in
        let first = A.lays code (one f from mid to) from (has_first code from xs ys h) in
        let rest = B.lays code (other f from mid to) mid (has_rest code from mid xs ys start h) in
        (mid, omega arith, omega arith, first, subst (λ (x : ℕ). M (other f from mid to) code mid x) end rest);
  }

  pub no_steps : {D : Type 0} → Lays P D (λ d code from to. to ≡ from)
  no_steps = record { size = 0; entries = λ d from. []; count = λ d from. refl; holds = λ d from. tt; lays = λ code d from h. omega arith }

  pub one_step : (active : List Active) (part : Part) → P part → Lays P StepKind (OneStep active part)
  one_step active part h = record {
    size = 1;
    entries = λ kind from. record { step = record { kind = kind; pc = 0; base = length active; captured = highest_captured 0 active; levels = 0 }; part = part } ∷ [];
    count = λ kind from. refl;
    holds = λ kind from. (h, tt);
    lays = λ code kind from has. ((record { step = _; there = has.0; is = refl; tells = record { base = refl; captured = refl } }, has.1), omega arith);
  }

  -- ---- steps without a part of the source

  pub jump_lays : P nothing_part → (active : List Active) → Lays P ℕ (Jumps active)
  jump_lays h active = laid_by (λ target from to. StepKind.Jump target) (λ code target from to le is. ((nothing_part, is.0), is.1)) (one_step active nothing_part h)

  pub close_lays : P nothing_part → (active : List Active) (register : ℕ) → Lays P (Unit {0}) (Closes active register)
  close_lays h active register =
      laid_by (λ none from to. StepKind.Close register None) (λ code none from to le is. ((None, (nothing_part, is.0)), is.1)) (one_step active nothing_part h)

  pub foot_lays : P nothing_part → (active : List Active) (numeric : Bool) → Lays P ℕ (Feet active numeric)
  foot_lays h active numeric = laid_by (λ target from to. StepKind.Foot numeric target) (λ code target from to le is. ((nothing_part, is.0), is.1)) (one_step active nothing_part h)

-- ---- a whole function

abbrev steps_of : List Entry → List Step
steps_of entries = map (λ (entry : Entry). entry.step) entries

abbrev parts_of : List Entry → List Part
parts_of entries = map (λ (entry : Entry). entry.part) entries

behind_one : (params : List Text) (steps : List Step) (parts : List Part) (step : Step) (part : Part) (from : ℕ) (entries : List Entry) →
    Has (record { params = params; steps = steps; parts = parts }) from entries → Has (record { params = params; steps = step ∷ steps; parts = part ∷ parts }) (suc from) entries
behind_one params steps parts step part from [] h = tt
behind_one params steps parts step part from (x ∷ xs) h = (h.0, h.1, behind_one params steps parts step part (suc from) xs h.2)

abbrev pub code_of : (params : List Text) → List Entry → Steps
code_of params entries = record { params = params; steps = steps_of entries; parts = parts_of entries }

pub has_all : (params : List Text) (entries : List Entry) → Has (code_of params entries) 0 entries
has_all params [] = tt
has_all params (x ∷ xs) = (refl, refl, behind_one params (steps_of xs) (parts_of xs) x.step x.part 0 xs (has_all params xs))

pub code_length : (params : List Text) (entries : List Entry) → length (code_of params entries).steps ≡ length entries
code_length params entries = length-map entries (λ (entry : Entry). entry.step)

pub each_holds : (P : Part → Type 0) (entries : List Entry) → AllHold P entries → (at : ℕ) (part : Part) → slice_get (parts_of entries) at ≡ Some part → P part
each_holds P [] h at part is = absurd (none-some part is)
each_holds P (x ∷ xs) h zero part is = subst P (same_Some x.part part is) h.0
each_holds P (x ∷ xs) h (suc at) part is = each_holds P xs h.1 at part is
