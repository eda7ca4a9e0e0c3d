-- Each step of a function is read from its words, and what is known before it is known again before the next one.
use Rattle.std.proofs.Common.{◌≡◌, ◌≤◌, ℕ, zero, suc, ◌+◌, ◌-◌, true, false, List, [], ◌∷◌, length, take, refl, sym, ap, ◌∙◌, arith, subst, None}
use Rattle.std.proofs.lemmas.List.{length-map, length-replicate}
use Rattle.std.proofs.lemmas.Option.{none-some, slice_get-map, slice_get_past}
use Rattle.std.specs.Prelude.{Option, Some, option_and_then, option_map, replicate, slice_get}
use Rattle.lua_num.specs.Bytes.{Text}
use Rattle.lua_tree.specs.Outline as outline
use Rattle.lua_tree.specs.Syntax.{Statements}
use Rattle.core_expr.specs.Values.{Inner}
use Rattle.recover_expr.specs.Drafts.{Part, condition_part, head_part, statement_part, values_part}
use Rattle.recover_expr.specs.Locals.{declaring_step}
use Rattle.recover_expr.specs.Placing.{Steps}
use Rattle.recover_expr.specs.Situation.{Function, Situation, begun}
use Rattle.recover_expr.specs.declared.locals.Declared.{Declared}
use Rattle.recover_expr.specs.declared.steps.StepKind.{StepKind}
use Rattle.scheme.specs.Making.{Ahead, Maker, active_count}
use Rattle.scheme.specs.declared.making.Active.{Active}
use Rattle.scheme_stands.specs.Words.{Fn}
use Rattle.same_flow.specs.Declaring.{declaring, declaring_before, same_option}
use Rattle.same_flow.specs.Listed.{entries_from}
use Rattle.same_flow.specs.Performed.{kind_at, still_active}
use Rattle.reads_back.specs.Placed.{HaveWords, listed_before}
use Rattle.reads_back.proofs.FlowActs.{act_step_read, declaration_step_read, return_step_read}
use Rattle.reads_back.proofs.FlowHeads.{head_step_read}
use Rattle.reads_back.proofs.FlowKnown.{AllKnown, known_first}
use Rattle.reads_back.proofs.FlowLones.{close_step_read, foot_step_read, jump_step_read}
use Rattle.reads_back.proofs.FlowRead.{Begins, KindRead, kind_in}
use Rattle.reads_back.proofs.FlowStarts.{from_at, from_next, own_entries}
use Rattle.reads_back.proofs.FlowTests.{test_step_read}
use Rattle.reads_back.proofs.FlowThere.{IsFlowFunction, StepIs, before_at, now_at, pcs, step_is}
use Rattle.reads_back.proofs.LocalsLeave.{listed_of, taken_few}
use Rattle.reads_back.proofs.StartingLocals.{StartFrom, start_both, start_later}

-- one local of an invented situation
no_local : Declared
no_local = record { outer = None; register = 0; step = None; captured = false }

module _ {f : Function} {g : Fn} {z : Maker} {lefts : ℕ → List (Option Inner)} {parts : ℕ → outline.Part} {code : Steps} {params names : List Text} {ahead : Ahead} {block : Statements} (of : IsFlowFunction f g z lefts parts code params names ahead block) where
  -- ---- a step of any kind

  pub kind_step_read : {at : ℕ} (kind : StepKind) (part : Part) → StepIs of at kind part → (now : Situation) → Begins of at now → StartFrom (suc (pcs of (suc at))) (from_at of (suc at)) → KindRead of at kind part now
  kind_step_read StepKind.Act (statement_part s) is now begins rest = act_step_read of is now begins rest
  kind_step_read (StepKind.Declaration end captured) (statement_part s) is now begins rest = declaration_step_read of is now begins rest
  kind_step_read StepKind.Return (values_part es) is now begins rest = return_step_read of is now begins rest
  kind_step_read (StepKind.Test when target negated) (condition_part e) is now begins rest = test_step_read of is now begins rest
  kind_step_read (StepKind.Jump target) part is now begins rest = jump_step_read of is now begins rest
  kind_step_read (StepKind.Close from declared) part is now begins rest = close_step_read of is now begins rest
  kind_step_read {at} (StepKind.Head true foot end variables_end captured) (head_part es texts) is now begins rest = head_step_read of at foot end variables_end captured es texts now begins rest true is
  kind_step_read {at} (StepKind.Head false foot end variables_end captured) (head_part es texts) is now begins rest = head_step_read of at foot end variables_end captured es texts now begins rest false is
  kind_step_read (StepKind.Foot numeric target) part is now begins rest = foot_step_read of numeric is now begins rest
  kind_step_read kind part is now begins rest = absurd is.fits

  -- ---- each step has words

  -- an invented situation where a step begins
  abbrev invented : ℕ → Situation
  invented at = record {
    left = lefts (length (before_at of at).functions);
    scope = record { declared = replicate (listed_before code params names ahead at) no_local; active = listed_of (before_at of at).active };
    step = 0;
    pc = pcs of at;
    inside = None;
    base = length (before_at of at).active;
    entries = [];
    taken = length (before_at of at).constants;
    seen = length (before_at of at).constants;
  }

  begins_invented : (at : ℕ) → Begins of at (invented at)
  begins_invented at = record { declared = length-replicate (listed_before code params names ahead at) no_local; active = refl; base = refl; left = refl; seen = refl; taken = refl; entries = refl; pc = refl }

  later_from : (count at : ℕ) → length code.steps ≡ count + at → StartFrom (suc (pcs of at)) (from_at of at)
  later_from zero at is = let none : 0 ≡ length code.steps - at = omega (arith, is) in subst (λ count. StartFrom (suc (pcs of at)) (entries_from code (pcs of) at count)) none tt
  later_from (suc count) at is =
      let rest = later_from count (suc at) (omega (arith, is)) in
      let step = step_is of at (omega (arith, is)) in
      let read = kind_step_read step.0 step.1 step.2 (invented at) (begins_invented at) rest in
      let later = read.later in
      subst (StartFrom (suc (pcs of at))) (sym (from_next of at step.0 step.1 step.2))
      (start_both (suc (pcs of at)) (own_entries of at step.0 step.1 step.2) (from_at of (suc at)) read.own_later (start_later (suc (pcs of at)) (suc (pcs of (suc at))) (from_at of (suc at)) (omega (arith, later)) rest))

  -- no local of the steps from one on starts with its first word
  pub later_at : (at : ℕ) → at ≤ length code.steps → StartFrom (suc (pcs of at)) (from_at of at)
  later_at at most = later_from (length code.steps - at) at (omega (arith, most))

  pub have_words : HaveWords code params names ahead
  have_words at less =
      let step = step_is of at less in
      let read = kind_step_read step.0 step.1 step.2 (invented at) (begins_invented at) (later_at (suc at) (omega (arith, less))) in
      read.later

  -- ---- what is known before a step

  pub record IsThere (at : ℕ) (now : Situation) : Type 0 where
    -- the locals of the steps before are declared
    pub declared : length now.scope.declared ≡ listed_before code params names ahead at
    pub active : now.scope.active ≡ listed_of (before_at of at).active
    -- these functions are left, and so many constants were taken
    pub left : now.left ≡ lefts (length (before_at of at).functions)
    pub seen : now.seen ≡ length (before_at of at).constants
    -- of each that was active behind a step before: its register, the local around it, and the step that declares it
    pub known : (p : ℕ) → p ≤ at → AllKnown now.scope.declared (now_at of p).maker.active (declaring code params names ahead p)

  pub there_begins : {at : ℕ} {now : Situation} (number : ℕ) → IsThere at now → Begins of at (begun number (pcs of at) now)
  there_begins {at} number there = record {
    declared = there.declared;
    active = there.active;
    base = ap length there.active ∙ length-map (before_at of at).active (λ (one : Active). one.listed);
    left = there.left;
    seen = there.seen;
    taken = refl;
    entries = refl;
    pc = refl;
  }

  take_again : {A : Type 0} (n : ℕ) (xs : List A) → take (length (take n xs)) xs ≡ take n xs
  take_again zero xs = refl
  take_again (suc n) [] = refl
  take_again (suc n) (x ∷ xs) = ap (λ rest. x ∷ rest) (take_again n xs)

  -- the steps that declare those that are active before a step
  abbrev declaring_here : ℕ → List (Option ℕ)
  declaring_here at = take (active_count (before_at of at)) (declaring code params names ahead at)

  pub known_before : {at : ℕ} {now : Situation} → IsThere at now → AllKnown now.scope.declared (before_at of at).active (declaring_here at)
  known_before {at} {now} there =
      let n = still_active at (now_at of at).ends in
      let active = (now_at of at).maker.active in
      subst (λ (active : List Active). AllKnown now.scope.declared active (declaring_here at)) (take_again n active)
      (known_first (length (take n active)) now.scope.declared active (declaring code params names ahead at) (taken_few n active) (there.known at (omega arith)))

  -- a CLOSE names the step that declares its first local
  pub kind_told : {at : ℕ} {now : Situation} (kind : StepKind) → kind_at code.steps at ≡ Some kind → IsThere at now → kind_in now.scope kind ≡ kind
  kind_told {at} {now} (StepKind.Close from declared) is there =
      let active = (before_at of at).active in
      let known = known_before there in
      let told : declaring_step from now.scope ≡ declaring_before code params names ahead at from =
      ap (λ (active : List ℕ). option_and_then (λ (one : Declared). one.step) (option_and_then (slice_get now.scope.declared) (slice_get active from))) there.active
      ∙ ap (λ (found : Option ℕ). option_and_then (λ (one : Declared). one.step) (option_and_then (slice_get now.scope.declared) found)) (slice_get-map (λ (one : Active). one.listed) active from)
      ∙ by known (slice_get active from) refl in
      ap (StepKind.Close from) (told ∙ sym (of.closes at from declared is))
    where
      by : AllKnown now.scope.declared (before_at of at).active (declaring_here at) → (found : Option Active) → slice_get (before_at of at).active from ≡ found →
          option_and_then (λ (one : Declared). one.step) (option_and_then (slice_get now.scope.declared) (option_map (λ (one : Active). one.listed) found)) ≡ option_and_then same_option (slice_get (declaring_here at) from)
      by known None none = ap (option_and_then same_option) (sym (slice_get_past (declaring_here at) from (none_past none)))
        where
          none_past : slice_get (before_at of at).active from ≡ None → length (declaring_here at) ≤ from
          none_past none = let most = past (before_at of at).active from none in let few = take_most (active_count (before_at of at)) (declaring code params names ahead at) in omega (arith, most, few)
            where
              past : (xs : List Active) (i : ℕ) → slice_get xs i ≡ None → length xs ≤ i
              past [] i none = omega arith
              past (x ∷ xs) zero none = absurd (none-some x (sym none))
              past (x ∷ xs) (suc i) none = let rest = past xs i none in omega (arith, rest)

              take_most : (n : ℕ) (xs : List (Option ℕ)) → length (take n xs) ≤ n
              take_most zero xs = omega arith
              take_most (suc n) [] = omega arith
              take_most (suc n) (x ∷ xs) = let rest = take_most n xs in omega (arith, rest)
      by known (Some one) found =
          let one_known = known from one found in
          ap (option_and_then (λ (one : Declared). one.step)) one_known.there ∙ ap (option_and_then same_option) (sym one_known.step)
  kind_told kind is there = refl
