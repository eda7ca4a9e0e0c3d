-- Where what stands before and behind a function mentions nothing that is declared in it, the part of each of its steps stands apart among the marks of the source.
use Rattle.std.proofs.Common.{◌≡◌, ◌∙◌, ◌<◌, ◌≤◌, ◌⊎◌, inl, inr, ℕ, zero, suc, ◌+◌, ◌-◌, Bool, List, [], ◌∷◌, ◌++◌, append-nil, append_assoc, length, Some, refl, sym, ap, subst, arith}
use Rattle.std.proofs.lemmas.List.{append_cancel_right}
use Rattle.std.specs.Prelude.{Option}
use Rattle.lua_num.specs.Bytes.{Text}
use Rattle.lua_tree.specs.Outline as outline
use Rattle.lua_tree.specs.Outline.{Binding, Mark, Place, Scope, all_params, body_part, in_function, Walk, statements_part}
use Rattle.lua_tree.specs.Syntax.{Statements, function_body}
use Rattle.core_expr.specs.Values.{Inner}
use Rattle.recover_expr.specs.Drafts.{Part}
use Rattle.recover_expr.specs.Placing.{Steps}
use Rattle.recover_expr.specs.Situation.{Function}
use Rattle.recover_expr.specs.declared.steps.StepKind.{StepKind}
use Rattle.scheme.specs.Making.{Ahead, Maker}
use Rattle.scheme_stands.proofs.Entering.{entered_by}
use Rattle.scheme_stands.proofs.Origins.{mentions_both, mentions_more}
use Rattle.scheme_stands.specs.Places.{Between, IsApart, KnownFrom, LowAt, Mentions, ScopeAt, StandsApart, Under}
use Rattle.scheme_stands.specs.Words.{Fn}
use Rattle.scheme_stands.proofs.KnownMarks.{Later, MeansFrom}
use Rattle.scheme_stands.proofs.LowMentions.{StaysLow, under_more}
use Rattle.same_flow.specs.SameMarks.{but_breaks}
use Rattle.same_flow.specs.Told.{PartFits}
use Rattle.same_flow.proofs.Walks.{Entry, Said, State, ended_in, said_at, says, state_of}
use Rattle.reads_back.proofs.ActiveCaptured.{part_leads}
use Rattle.reads_back.proofs.FlowThere.{IsFlowFunction, StepIs, step_is}
use Rattle.reads_back.proofs.MarksCaptured.{all_declarations}
use Rattle.reads_back.proofs.MarksUnbroken.{mentions_unbroken}
use Rattle.reads_back.proofs.NamesCome.{Comes, Stays, step_scoped}
use Rattle.reads_back.proofs.NoLaterCaptured.{IsLow, LowEntries, low_before, part_low}
use Rattle.reads_back.proofs.StepsHere.{all_at, declarations_next, marks_before, marks_from, marks_next, rest_at, said_is, said_marks}
use Rattle.reads_back.proofs.StepsKnown.{part_said, says_part, state_before, ended_keeps}

-- what is declared before a number or from another on
abbrev pub IsOutside : (low high : ℕ) → Option Binding → List ℕ → Type 0
IsOutside low high means around = (b : Binding) → means ≡ Some b → (b.declaration < low) ⊎ (high ≤ b.declaration)

-- ---- what is in scope behind a place

module _ (from : ℕ) (base : Place) where
  abbrev IsGood : Binding → Type 0
  IsGood b = (b.declaration < from) ⊎ KnownFrom base b

  abbrev AreGood : Scope → Type 0
  AreGood scope = (name : Text) (b : Binding) → scope name ≡ Some b → IsGood b

  abbrev EntriesGood : List Entry → Type 0
  EntriesGood [] = Unit {0}
  EntriesGood (entry ∷ entries) = AreGood entry.scope × EntriesGood entries

  abbrev StateGood : State → Type 0
  StateGood state = AreGood state.place.scope × EntriesGood state.entries × (base.declarations ≤ state.place.declarations)

  good_ended : (at : ℕ) (place : Place) (entries : List Entry) → AreGood place.scope → EntriesGood entries → base.declarations ≤ place.declarations → StateGood (ended_in at place entries)
  good_ended at place entries here are more = ended_keeps StateGood (λ entry entries place good. (good.1.0, good.1.1, good.2)) at place entries (here, are, more)

  low_good : (entries : List Entry) → LowEntries from entries → EntriesGood entries
  low_good [] low = tt
  low_good (entry ∷ entries) low = (λ name b is. inl (low.0 name b is), low_good entries low.1)

  -- what is known from a good place is good
  known_good : (state : State) → StateGood state → (b : Binding) → KnownFrom state.place b → IsGood b
  known_good state good b (inl seen) = good.0 seen.0 b seen.1
  known_good state good b (inr later) = let more = good.2 in inr (inr (omega (arith, later, more)))

  -- of what a step says
  said_good : (kind : StepKind) (part : Part) (state : State) → PartFits kind part → StateGood state → (Mentions (IsApart from base) (part_said kind part state.place).marks) × StateGood (says kind part state).after
  said_good kind part state fits good =
      let itself : Later state.place state.place = record { declarations = omega arith; scope = λ name b is. inl (name, is) } in
      let led = part_leads state.place kind part fits state.place itself in
      let next = led.next in
      let place_is : (says kind part state).after.place ≡ (part_said kind part state.place).next = (says_part kind part state fits).1 in
      let grows = next.declarations in
      let more = good.2 in (
        mentions_more (MeansFrom state.place) (IsApart from base) (λ means around known b is. known_good state good b (known b is)) (part_said kind part state.place).marks led.from,
        (
          λ name b is. known_good state good b (next.scope name b (ap (λ (place : Place). place.scope name) (sym place_is) ∙ is)),
          by (step_scoped kind part state fits),
          omega (arith, grows, more, ap (λ (place : Place). place.declarations) place_is),
        ),
      )
    where
      by : Stays kind part state ⊎ Comes kind part state → EntriesGood (says kind part state).after.entries
      by (inl stays) = subst EntriesGood (sym stays.entries) good.1
      by (inr comes) = subst EntriesGood (sym comes.entries) (good.0, good.1)

-- behind a step
first_good : (kind : StepKind) (part : Part) (state : State) → PartFits kind part → IsLow state → StateGood state.place.declarations (part_said kind part state.place).next (says kind part state).after
first_good kind part state fits low =
    let base = (part_said kind part state.place).next in
    let place_is : (says kind part state).after.place ≡ base = (says_part kind part state fits).1 in (
      λ name b is. inr (inl (name, ap (λ (place : Place). place.scope name) (sym place_is) ∙ is)),
      by (step_scoped kind part state fits),
      omega (arith, ap (λ (place : Place). place.declarations) place_is),
    )
  where
    by : Stays kind part state ⊎ Comes kind part state → EntriesGood state.place.declarations (part_said kind part state.place).next (says kind part state).after.entries
    by (inl stays) = subst (EntriesGood state.place.declarations (part_said kind part state.place).next) (sym stays.entries) (low_good state.place.declarations (part_said kind part state.place).next state.entries low.1)
    by (inr comes) =
        subst (EntriesGood state.place.declarations (part_said kind part state.place).next) (sym comes.entries)
        (λ name b is. inl (low.0 name b is), low_good state.place.declarations (part_said kind part state.place).next state.entries low.1)

-- ---- along the steps of a function

module _ {f : Function} {g : Fn} {z : Maker} {lefts : ℕ → List (Option Inner)} {parts : ℕ → outline.Part} {code : Steps} {params names : List Text} {ahead : Ahead} {block : Statements} (of : IsFlowFunction f g z lefts parts code params names ahead block)
    (all : List Mark) (place : Place) (rest : List Mark) (between : Between all (statements_part block) place rest) (scope : ScopeAt place)
    (low : Mentions (Under place.declarations) between.reached.before) (outside : Mentions (IsOutside place.declarations (statements_part block place).next.declarations) rest) where
  abbrev first : State
  first = state_of place []

  abbrev state_at : ℕ → State
  state_at at = state_before code first at

  abbrev before_of : ℕ → List Mark
  before_of at = marks_before of all place rest between scope at

  stays_low : {at : ℕ} {kind : StepKind} {part : Part} → StepIs of at kind part → StaysLow (state_at at).place (part_said kind part (state_at at).place)
  stays_low {at} {kind} {part} is = let less = is.within in part_low kind part (state_at at).place is.fits (low_before of place scope.declared at (omega (arith, less))).0

  grows_to : (at : ℕ) → at ≤ length code.steps → place.declarations ≤ (state_at at).place.declarations
  grows_to zero most = omega arith
  grows_to (suc at) most =
      let step = step_is of at (omega (arith, most)) in
      let stays = stays_low step.2 in
      let grows = stays.grows in
      omega (arith, grows, declarations_next of all place rest between scope step.2, grows_to at (omega (arith, most)))

  -- before a step only what is declared before it is mentioned
  under_to : (at : ℕ) → at ≤ length code.steps → Mentions (Under (state_at at).place.declarations) (before_of at)
  under_to zero most = subst (Mentions (Under place.declarations)) (sym (append-nil (but_breaks between.reached.before))) (mentions_unbroken (Under place.declarations) between.reached.before low)
  under_to (suc at) most =
      let step = step_is of at (omega (arith, most)) in
      let stays = stays_low step.2 in
      let walk = part_said step.0 step.1 (state_at at).place in
      subst (λ n. Mentions (Under n) (before_of (suc at))) (sym (declarations_next of all place rest between scope step.2))
      (subst (Mentions (Under walk.next.declarations)) (sym (marks_next of all place rest between scope step.2))
      (mentions_both (Under walk.next.declarations) (before_of at) (but_breaks walk.marks)
      (under_more (state_at at).place.declarations walk.next.declarations stays.grows (before_of at) (under_to at (omega (arith, most))))
      (mentions_unbroken (Under walk.next.declarations) walk.marks stays.mentions)))

  module _ (from : ℕ) (base : Place) (above : place.declarations ≤ from) where
    abbrev after : List Mark
    after = but_breaks rest

    outside_good : (at : ℕ) → at ≡ length code.steps → StateGood from base (state_at at) → Mentions (IsApart from base) rest
    outside_good at last good =
        mentions_more (IsOutside place.declarations (statements_part block place).next.declarations) (IsApart from base) (λ means around is b there. by good.2 b (is b there)) rest outside
      where
        by : base.declarations ≤ (state_at at).place.declarations → (b : Binding) → (b.declaration < place.declarations) ⊎ ((statements_part block place).next.declarations ≤ b.declaration) → (b.declaration < from) ⊎ KnownFrom base b
        by more b (inl before) = inl (omega (arith, before, above))
        by more b (inr behind) =
            let end = all_declarations code params names ahead block of.laid place in
            let there = ap (λ at. (state_at at).place.declarations) last in
            inr (inr (omega (arith, behind, more, end, there)))

    behind_good : (count at : ℕ) → at + count ≡ length code.steps → StateGood from base (state_at at) → Mentions (IsApart from base) (marks_from of all place rest between scope at count ++ after)
    behind_good zero at is good = mentions_unbroken (IsApart from base) rest (outside_good at (omega (arith, is)) good)
    behind_good (suc count) at is good =
        let step = step_is of at (omega (arith, is)) in
        let others = marks_from of all place rest between scope (suc at) count in
        let said = said_at code at (state_at at) in
        let walk = part_said step.0 step.1 (state_at at).place in
        let one = said_good from base step.0 step.1 (state_at at) step.2.fits good in
        let behind = subst (λ (it : Said). StateGood from base it.after) (sym (said_is of all place rest between scope step.2)) one.1 in
        subst (Mentions (IsApart from base)) (sym (append_assoc said.marks others after))
        (mentions_both (IsApart from base) said.marks (others ++ after)
        (subst (Mentions (IsApart from base)) (sym (said_marks of all place rest between scope step.2)) (mentions_unbroken (IsApart from base) walk.marks one.0))
        (behind_good count (suc at) (omega (arith, is)) (good_ended from base (suc at) said.after.place said.after.entries behind.0 behind.1 behind.2)))

  -- each step stands apart
  step_apart : {at : ℕ} {kind : StepKind} {part : Part} → StepIs of at kind part →
      StandsApart (all_at of all place rest between scope at kind part) (part_said kind part) (state_before code (state_of place []) at).place (rest_at of all place rest between scope at)
  step_apart {at} {kind} {part} is =
      let less = is.within in
      let within : at ≤ length code.steps = omega (arith, less) in
      let here = (state_at at).place in
      let said = said_at code at (state_at at) in
      let low_at = low_before of place scope.declared at within in
      let base = (part_said kind part here).next in
      let behind = subst (λ (it : Said). StateGood here.declarations base it.after) (sym (said_is of all place rest between scope is)) (first_good kind part (state_at at) is.fits low_at) in
      record {
        before = before_of at;
        is = refl;
        low = under_to at within;
        scope = low_at.0;
        apart = behind_good here.declarations base (grows_to at within) (length code.steps - suc at) (suc at) (omega (arith, less)) (good_ended here.declarations base (suc at) said.after.place said.after.entries behind.0 behind.1 behind.2);
      }

-- so where its statements stand apart, and nothing behind them mentions what is declared in them
pub steps_apart : {f : Function} {g : Fn} {z : Maker} {lefts : ℕ → List (Option Inner)} {parts : ℕ → outline.Part} {code : Steps} {params names : List Text} {ahead : Ahead} {block : Statements} (of : IsFlowFunction f g z lefts parts code params names ahead block)
    (all : List Mark) (place : Place) (rest : List Mark) (between : Between all (statements_part block) place rest) (scope : ScopeAt place) → StandsApart all (statements_part block) place rest →
    Mentions (IsOutside place.declarations (statements_part block place).next.declarations) rest → {at : ℕ} {kind : StepKind} {part : Part} → StepIs of at kind part →
    StandsApart (all_at of all place rest between scope at kind part) (part_said kind part) (state_before code (state_of place []) at).place (rest_at of all place rest between scope at)
steps_apart {block = block} of all place rest between scope there outside is =
    let reached = between.reached in
    let same : there.before ≡ reached.before = append_cancel_right there.before reached.before ((statements_part block place).marks ++ rest) (sym there.is ∙ reached.is) in
    step_apart of all place rest between scope (subst (Mentions (Under place.declarations)) same there.low) outside is

-- nothing behind a function that stands apart mentions what is declared in its statements
pub block_outside : (all : List Mark) (method : Bool) (params : List Text) (vararg : Bool) (block : Statements) (first last : ℕ) (place : Place) (rest : List Mark) → StandsApart all (body_part method (function_body params vararg block first last)) place rest →
    (let entered = entered_by (all_params method params) first (in_function vararg place) in Mentions (IsOutside entered.declarations (statements_part block entered).next.declarations) rest)
block_outside all method params vararg block first last place rest there =
    let next = (body_part method (function_body params vararg block first last) place).next in
    let entered = entered_by (all_params method params) first (in_function vararg place) in
    mentions_more (IsApart place.declarations next) (IsOutside entered.declarations (statements_part block entered).next.declarations) (λ means around is b known. by there.scope b (is b known)) rest there.apart
  where
    by : LowAt place → (b : Binding) → (b.declaration < place.declarations) ⊎ KnownFrom (body_part method (function_body params vararg block first last) place).next b →
        (b.declaration < (entered_by (all_params method params) first (in_function vararg place)).declarations) ⊎ ((statements_part block (entered_by (all_params method params) first (in_function vararg place))).next.declarations ≤ b.declaration)
    by low b (inl before) = inl (omega (arith, before))
    by low b (inr (inl seen)) = let before = low seen.0 b seen.1 in inl (omega (arith, before))
    by low b (inr (inr later)) = inr later
