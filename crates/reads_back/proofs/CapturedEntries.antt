-- How many locals a step declares, and which entries of the list are captured behind it.
use Rattle.std.proofs.Common.{◌≡◌, ℕ, zero, suc, ◌+◌, ◌<◌, ◌≤◌, ◌&&◌, Bool, true, false, List, [], ◌∷◌, ◌++◌, length, Option, Some, None, refl, sym, ap, ap₂, ◌∙◌, arith}
use Rattle.std.proofs.Math.Bool.{or_assoc, or_comm}
use Rattle.std.proofs.lemmas.Bool.Decides.{nat_tests}
use Rattle.std.specs.List.{list_any}
use Rattle.std.specs.Prelude.{◌==◌, ◌||◌, slice_get}
use Rattle.recover_expr.specs.Declaring.{and_captured}
use Rattle.recover_expr.specs.Drafts.{Drafted}
use Rattle.recover_expr.specs.Locals.{Scope, capture, capture_some, captured_at, entered, innermost}
use Rattle.recover_expr.specs.Reading.{step_at}
use Rattle.recover_expr.specs.Situation.{Function, Situation}
use Rattle.recover_expr.specs.declared.locals.Declared.{Declared}
use Rattle.reads_back.proofs.ActsRead.{Declares, numbers_from, same_declares}
use Rattle.reads_back.proofs.BehindWords.{SameLocals, same_locals}
use Rattle.reads_back.proofs.ClosureReads.{as_many, capture_same}
use Rattle.reads_back.proofs.ScopesGrow.{entered_times}
use Rattle.reads_back.proofs.ScopesRead.{capture_all, captures_same, declared_of, is_local_function}
use Rattle.reads_back.proofs.StartingLocals.{more_declared, one_declared}
use Rattle.reads_back.proofs.StepsExact.{captured_by_step, step_exact}
use Rattle.reads_back.proofs.Tests.{and_not, not_zero, zero_not}

-- ---- how many are declared

itself_same : (first : ℕ) (itself : Bool) (scope : Scope) → SameLocals scope (and_captured first itself scope)
itself_same first true scope = record { declared = as_many first scope.declared (slice_get scope.declared first); active = refl }
itself_same first false scope = same_locals scope

times_declare : (count : ℕ) (step : Option ℕ) (scope : Scope) → Declares count scope (entered_times count step scope)
times_declare zero step scope = same_declares (same_locals scope)
times_declare (suc count) step scope = more_declared count scope (entered step scope) (entered_times count step (entered step scope)) (one_declared step scope) (times_declare count step (entered step scope))

-- the locals are declared that the step says, and stand behind those before it
pub step_declares : (f : Function) (number pc : ℕ) (s : Situation) (draft : Drafted) (behind : Situation) → step_at f number pc s ≡ Some (draft, behind) → Declares (declared_of draft.kind) s.scope behind.scope
step_declares f number pc s draft behind is =
    let exact = step_exact f number pc s draft behind is in
    let registers = captured_by_step f number pc s in
    let before = capture_all registers s.scope in
    let count = declared_of draft.kind in
    let same = captures_same registers s.scope in
    let declared = times_declare count (Some number) before in
    let last = itself_same (length s.scope.declared) (is_local_function draft.part) (entered_times count (Some number) before) in
    record {
      declared_more = ap (λ (scope : Scope). length scope.declared) exact.scope ∙ last.declared ∙ declared.declared_more ∙ ap (λ n. n + count) same.declared;
      active_more = ap (λ (scope : Scope). scope.active) exact.scope ∙ last.active ∙ declared.active_more ∙ ap₂ (λ active first. active ++ numbers_from first count) same.active same.declared;
    }

-- ---- which are captured

-- the local of this place in the list is captured
abbrev pub is_captured : List Declared → (entry : ℕ) → Bool
is_captured [] entry = false
is_captured (one ∷ declared) zero = one.captured
is_captured (one ∷ declared) (suc entry) = is_captured declared entry

-- it stands in one of these registers
abbrev pub is_listed : (entry : ℕ) → Option ℕ → Bool
is_listed entry None = false
is_listed entry (Some other) = other == entry

abbrev pub stands_in : (active registers : List ℕ) → (entry : ℕ) → Bool
stands_in active registers entry = list_any (λ (register : ℕ). is_listed entry (slice_get active register)) registers

later_equal : (one other : ℕ) → (one == other) ≡ (suc one == suc other)
later_equal one other = grind (arith, nat_tests)

-- one is marked, and the others stay
mark_captured : (declared : List Declared) (other entry : ℕ) → entry < length declared → is_captured (captured_at other declared (slice_get declared other)) entry ≡ ((other == entry) || is_captured declared entry)
mark_captured [] other entry within = absurd (omega (arith, within))
mark_captured (one ∷ declared) zero zero within = refl
mark_captured (one ∷ declared) zero (suc entry) within = ap (λ same. same || is_captured declared entry) (sym (zero_not entry))
mark_captured (one ∷ declared) (suc other) zero within = by (slice_get declared other) ∙ ap (λ same. same || one.captured) (sym (not_zero other))
  where
    by : (there : Option Declared) → is_captured (captured_at (suc other) (one ∷ declared) there) 0 ≡ one.captured
    by None = refl
    by (Some mark) = refl
mark_captured (one ∷ declared) (suc other) (suc entry) within =
    by (slice_get declared other) ∙ mark_captured declared other entry (omega (arith, within)) ∙ ap (λ same. same || is_captured declared entry) (later_equal other entry)
  where
    by : (there : Option Declared) → is_captured (captured_at (suc other) (one ∷ declared) there) (suc entry) ≡ is_captured (captured_at other declared there) entry
    by None = refl
    by (Some mark) = refl

register_captured : (register : ℕ) (scope : Scope) (entry : ℕ) → entry < length scope.declared → is_captured (capture register scope).declared entry ≡ (is_listed entry (slice_get scope.active register) || is_captured scope.declared entry)
register_captured register scope entry within = by (slice_get scope.active register)
  where
    by : (there : Option ℕ) → is_captured (capture_some there scope).declared entry ≡ (is_listed entry there || is_captured scope.declared entry)
    by None = refl
    by (Some other) = mark_captured scope.declared other entry within

registers_captured : (registers : List ℕ) (scope : Scope) (entry : ℕ) → entry < length scope.declared → is_captured (capture_all registers scope).declared entry ≡ (stands_in scope.active registers entry || is_captured scope.declared entry)
registers_captured [] scope entry within = refl
registers_captured (register ∷ registers) scope entry within =
    let mid = capture register scope in
    let same = capture_same register scope in
    let as_many : length mid.declared ≡ length scope.declared = same.declared in
    let here = is_listed entry (slice_get scope.active register) in
    let rest = stands_in scope.active registers entry in
    let before = is_captured scope.declared entry in
    registers_captured registers mid entry (omega (arith, within, as_many))
    ∙ ap₂ (λ (active : List ℕ) (before : Bool). stands_in active registers entry || before) same.active (register_captured register scope entry within)
    ∙ sym (or_assoc rest here before)
    ∙ ap (λ first. first || before) (or_comm rest here)

-- those that are declared are not captured yet
next_uncaptured : (declared : List Declared) (one : Declared) (entry : ℕ) → one.captured ≡ false → is_captured (declared ++ one ∷ []) entry ≡ is_captured declared entry
next_uncaptured [] one zero is = is
next_uncaptured [] one (suc entry) is = refl
next_uncaptured (first ∷ declared) one zero is = refl
next_uncaptured (first ∷ declared) one (suc entry) is = next_uncaptured declared one entry is

pub times_uncaptured : (count : ℕ) (step : Option ℕ) (scope : Scope) (entry : ℕ) → is_captured (entered_times count step scope).declared entry ≡ is_captured scope.declared entry
times_uncaptured zero step scope entry = refl
times_uncaptured (suc count) step scope entry =
    let one : Declared = record { outer = innermost scope; register = length scope.active; step = step; captured = false } in
    times_uncaptured count step (entered step scope) entry ∙ next_uncaptured scope.declared one entry refl

none_beyond : (declared : List Declared) (entry : ℕ) → length declared ≤ entry → is_captured declared entry ≡ false
none_beyond [] entry beyond = refl
none_beyond (one ∷ declared) zero beyond = absurd (omega (arith, beyond))
none_beyond (one ∷ declared) (suc entry) beyond = none_beyond declared entry (omega (arith, beyond))

itself_captured : (first : ℕ) (itself : Bool) (scope : Scope) (entry : ℕ) → entry < length scope.declared → is_captured (and_captured first itself scope).declared entry ≡ ((itself && (first == entry)) || is_captured scope.declared entry)
itself_captured first true scope entry within = mark_captured scope.declared first entry within
itself_captured first false scope entry within = refl

module _ (f : Function) (number pc : ℕ) (s : Situation) (draft : Drafted) (behind : Situation) (is : step_at f number pc s ≡ Some (draft, behind)) where
  abbrev registers : List ℕ
  registers = captured_by_step f number pc s

  abbrev first : ℕ
  first = length s.scope.declared

  captured_behind : (entry : ℕ) → entry < length s.scope.declared + declared_of draft.kind → is_captured behind.scope.declared entry ≡ ((is_local_function draft.part && (first == entry)) || is_captured (capture_all registers s.scope).declared entry)
  captured_behind entry within =
      let exact = step_exact f number pc s draft behind is in
      let before = capture_all registers s.scope in
      let count = declared_of draft.kind in
      let itself = is_local_function draft.part in
      let as_many : length before.declared ≡ first = (captures_same registers s.scope).declared in
      let many : length (entered_times count (Some number) before).declared ≡ length before.declared + count = (times_declare count (Some number) before).declared_more in
      ap (λ (scope : Scope). is_captured scope.declared entry) exact.scope
      ∙ itself_captured first itself (entered_times count (Some number) before) entry (omega (arith, within, as_many, many))
      ∙ ap (λ before. (itself && (first == entry)) || before) (times_uncaptured count (Some number) before entry)

  -- a local that was there is captured where it was, or stands in a register that a CLOSURE of the step names
  pub still_captured : (entry : ℕ) → entry < length s.scope.declared → is_captured behind.scope.declared entry ≡ (stands_in s.scope.active registers entry || is_captured s.scope.declared entry)
  still_captured entry within =
      let before = is_captured (capture_all registers s.scope).declared entry in
      let other : (first == entry) ≡ false = grind (arith, nat_tests) in
      captured_behind entry (omega (arith, within))
      ∙ ap (λ same. (is_local_function draft.part && same) || before) other
      ∙ ap (λ own. own || before) (and_not (is_local_function draft.part))
      ∙ registers_captured registers s.scope entry within

  -- of those that the step declares, the first is captured where the step is a `local function`
  pub newly_captured : (entry : ℕ) → length s.scope.declared ≤ entry → entry < length s.scope.declared + declared_of draft.kind → is_captured behind.scope.declared entry ≡ (is_local_function draft.part && (length s.scope.declared == entry))
  newly_captured entry beyond within =
      let own = is_local_function draft.part && (first == entry) in
      let as_many : length (capture_all registers s.scope).declared ≡ first = (captures_same registers s.scope).declared in
      captured_behind entry within
      ∙ ap (λ before. own || before) (none_beyond (capture_all registers s.scope).declared entry (omega (arith, beyond, as_many)))
      ∙ or_comm own false
