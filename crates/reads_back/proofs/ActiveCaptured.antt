-- The steps of a function capture only active locals of it, which have bindings of the function and numbers of their own.
use Rattle.std.proofs.Common.{◌≡◌, ◌<◌, ◌≤◌, ◌⊎◌, inl, inr, ℕ, zero, suc, ◌+◌, true, false, List, [], ◌∷◌, ◌++◌, length, refl, sym, ap, ap₂, ◌∙◌, arith, subst}
use Rattle.std.proofs.lemmas.Option.{none-some, same_Some}
use Rattle.std.specs.Prelude.{Option, Some, slice_get}
use Rattle.lua_num.specs.Bytes.{Text}
use Rattle.lua_tree.specs.Outline as outline
use Rattle.lua_tree.specs.Outline.{Binding, Mark, Place, Scope, both, come, declares, expressions_part, innermost, statements_part, with_names}
use Rattle.lua_tree.specs.Resolved.{declarations_in}
use Rattle.lua_tree.specs.Scoping.{is_captured}
use Rattle.lua_tree.specs.Syntax.{Expressions, Statements}
use Rattle.lua_tree.specs.WellFormed.{formed_statements}
use Rattle.core_expr.specs.Values.{Inner}
use Rattle.recover_expr.specs.Drafts.{Part, statement_part, values_part, condition_part, head_part}
use Rattle.recover_expr.specs.Placing.{Steps}
use Rattle.recover_expr.specs.Situation.{Function}
use Rattle.recover_expr.specs.declared.steps.StepKind.{StepKind}
use Rattle.scheme.specs.Making.{Ahead, Maker}
use Rattle.scheme.specs.declared.making.Active.{Active}
use Rattle.scheme_stands.proofs.Counting.{expression_closed, expressions_closed, statement_counted}
use Rattle.scheme_stands.specs.Places.{LowAt, ahead_at, ahead_by}
use Rattle.scheme_stands.specs.Words.{Fn}
use Rattle.scheme_stands.proofs.KnownMarks.{Leads, both_lead, come_leads, declares_leads, expression_leads, expressions_lead, nothing_leads, statement_leads}
use Rattle.same_flow.specs.SameFlow.{begun_of}
use Rattle.same_flow.specs.Told.{PartFits}
use Rattle.same_flow.proofs.Walks.{Entry, Said, State, ended_in, said_at, says, says_at, state_of}
use Rattle.reads_back.proofs.CapturedInEnd.{CapturesActive}
use Rattle.reads_back.proofs.CapturedMarks.{InScope, OnlyOwn, captured_in_scope}
use Rattle.reads_back.proofs.FlowThere.{IsFlowFunction, before_at, step_is}
use Rattle.reads_back.proofs.FunctionLocals.{locals_to, sound_to, stand_before, stand_to}
use Rattle.reads_back.proofs.LocalsBrought.{names_by}
use Rattle.reads_back.proofs.MarksCaptured.{captured_unbroken, around_ended}
use Rattle.reads_back.proofs.NamesCome.{Comes, Stays, names_mean, step_scoped}
use Rattle.reads_back.proofs.PlacedLocals.{Rising, rises_before}
use Rattle.reads_back.proofs.ScopeActive.{ScopesActiveBefore, scope_active_params}
use Rattle.reads_back.proofs.StepsKnown.{part_said, says_part, state_before, ended_keeps}

-- ---- what a step captures is in scope

pub part_leads : (base : Place) (kind : StepKind) (part : Part) → PartFits kind part → Leads base (part_said kind part)
part_leads base StepKind.Act (statement_part s) fits = statement_leads base 1 s
part_leads base (StepKind.Declaration end captured) (statement_part s) fits = statement_leads base 1 s
part_leads base StepKind.Return (values_part es) fits = expressions_lead base es
part_leads base (StepKind.Test when target negated) (condition_part e) fits = expression_leads base e
part_leads base (StepKind.Head true foot end variables_end captured) (head_part es names) fits = λ place h.
    let led = both_lead base (declares_leads base 1 3 names) (both_lead base (expressions_lead base es) (come_leads base 3 names place.declarations h.declarations)) place h in
    record { from = led.from; next = led.next }
part_leads base (StepKind.Head false foot end variables_end captured) (head_part es names) fits = λ place h.
    let led = both_lead base (declares_leads base 1 3 names) (both_lead base (expressions_lead base es) (come_leads base 3 names place.declarations h.declarations)) place h in
    record { from = led.from; next = led.next }
part_leads base (StepKind.Jump target) part fits = nothing_leads base
part_leads base (StepKind.Close from step) part fits = nothing_leads base
part_leads base (StepKind.Foot numeric target) part fits = nothing_leads base
part_leads base kind part fits = absurd fits

-- ---- the functions around

heads_around : (es : Expressions) (names : List Text) (place : Place) → (both (declares 1 3 names) (both (expressions_part es) (come 3 names place.declarations)) place).next.around ≡ place.around
heads_around es names place =
    let begun = (declares 1 3 names place).next in
    (expressions_closed es begun).counted.around

part_around : (kind : StepKind) (part : Part) (place : Place) → PartFits kind part → (part_said kind part place).next.around ≡ place.around
part_around StepKind.Act (statement_part s) place fits = (statement_counted 1 s place).around
part_around (StepKind.Declaration end captured) (statement_part s) place fits = (statement_counted 1 s place).around
part_around StepKind.Return (values_part es) place fits = (expressions_closed es place).counted.around
part_around (StepKind.Test when target negated) (condition_part e) place fits = (expression_closed e place).counted.around
part_around (StepKind.Head true foot end variables_end captured) (head_part es names) place fits = heads_around es names place
part_around (StepKind.Head false foot end variables_end captured) (head_part es names) place fits = heads_around es names place
part_around (StepKind.Jump target) part place fits = refl
part_around (StepKind.Close from step) part place fits = refl
part_around (StepKind.Foot numeric target) part place fits = refl
part_around kind part place fits = absurd fits

-- ---- homes

module _ (from home : ℕ) where
  -- what is in scope from a number on is of one function
  abbrev pub AllHome : Scope → Type 0
  AllHome scope = (name : Text) (b : Binding) → scope name ≡ Some b → from ≤ b.declaration → b.home ≡ home

  -- so where all was declared before it
  pub home_below : (scope : Scope) → ((name : Text) (b : Binding) → scope name ≡ Some b → b.declaration < from) → AllHome scope
  home_below scope below name b is low = let less = below name b is in absurd (omega (arith, less, low))

  abbrev EntriesHome : List Entry → Type 0
  EntriesHome [] = Unit {0}
  EntriesHome (entry ∷ entries) = AllHome entry.scope × EntriesHome entries

  abbrev StateHome : State → Type 0
  StateHome state = AllHome state.place.scope × EntriesHome state.entries

  home_ended : (at : ℕ) (place : Place) (entries : List Entry) → AllHome place.scope → EntriesHome entries → StateHome (ended_in at place entries)
  home_ended at place entries here are = ended_keeps StateHome (λ entry entries place both. both.1) at place entries (here, are)

  pub names_home : (names : List Text) (number : ℕ) (scope : Scope) → AllHome scope → AllHome (with_names names number home scope)
  names_home names number scope here name b is low = by (names_mean names number home scope name b is)
    where
      by : (scope name ≡ Some b) ⊎ ((i : ℕ) × (i < length names) × (b.declaration ≡ number + i) × (b.home ≡ home)) → b.home ≡ home
      by (inl old) = here name b old low
      by (inr own) = own.3

  home_said : (kind : StepKind) (part : Part) (state : State) → PartFits kind part → innermost state.place.around ≡ home → StateHome state → StateHome (says kind part state).after
  home_said kind part state fits same are = by (step_scoped kind part state fits)
    where
      by : Stays kind part state ⊎ Comes kind part state → StateHome (says kind part state).after
      by (inl stays) = (subst AllHome (sym stays.scope) are.0, subst EntriesHome (sym stays.entries) are.1)
      by (inr comes) = (
        subst AllHome (sym (comes.scope ∙ ap (λ home. with_names (names_by kind part) state.place.declarations home state.place.scope) same)) (names_home (names_by kind part) state.place.declarations state.place.scope are.0),
        subst EntriesHome (sym comes.entries) (are.0, are.1),
      )

-- ---- numbers that rise

rising_later : (low high : ℕ) (active : List Active) → Rising low active high → (i : ℕ) (one : Active) → slice_get active i ≡ Some one → low ≤ one.listed
rising_later low high [] rising i one there = absurd (none-some one there)
rising_later low high (first ∷ others) rising zero one there = subst (λ (one : Active). low ≤ one.listed) (same_Some first one there) rising.0
rising_later low high (first ∷ others) rising (suc i) one there =
    let here = rising.0 in
    let later = rising_later (suc first.listed) high others rising.1 i one there in
    omega (arith, here, later)

rising_once : (low high : ℕ) (active : List Active) → Rising low active high → (i j : ℕ) (one other : Active) → slice_get active i ≡ Some one → slice_get active j ≡ Some other → one.listed ≡ other.listed → i ≡ j
rising_once low high [] rising i j one other is also same = absurd (none-some one is)
rising_once low high (first ∷ others) rising zero zero one other is also same = refl
rising_once low high (first ∷ others) rising zero (suc j) one other is also same =
    let first_is : first.listed ≡ one.listed = ap (λ (one : Active). one.listed) (same_Some first one is) in
    let later = rising_later (suc first.listed) high others rising.1 j other also in
    absurd (omega (arith, first_is, later, same))
rising_once low high (first ∷ others) rising (suc i) zero one other is also same =
    let first_is : first.listed ≡ other.listed = ap (λ (one : Active). one.listed) (same_Some first other also) in
    let later = rising_later (suc first.listed) high others rising.1 i one is in
    absurd (omega (arith, first_is, later, same))
rising_once low high (first ∷ others) rising (suc i) (suc j) one other is also same = let rest = rising_once (suc first.listed) high others rising.1 i j one other is also same in omega (arith, rest)

-- ---- along the steps of a function

module _ {f : Function} {g : Fn} {z : Maker} {lefts : ℕ → List (Option Inner)} {parts : ℕ → outline.Part} {code : Steps} {params names : List Text} {ahead : Ahead} {block : Statements} (of : IsFlowFunction f g z lefts parts code params names ahead block) where
  -- where what is in scope is active, so is what a step captures
  captures_by : (place : Place) (from : ℕ) → ScopesActiveBefore of place from → CapturesActive of place from
  captures_by place from active at declaration less low before captured =
      let step = step_is of at less in
      let now = state_before code (state_of place []) at in
      let said = said_at code at now in
      let are : said ≡ says step.0 step.1 now = ap₂ (λ kind part. says_at kind part now) step.2.there step.2.part_there in
      let walk = part_said step.0 step.1 now.place in
      let same : is_captured declaration said.marks ≡ is_captured declaration walk.marks =
      ap (λ (it : Said). is_captured declaration it.marks) are ∙ ap (is_captured declaration) (says_part step.0 step.1 now step.2.fits).0 ∙ captured_unbroken declaration walk.marks in
      by (captured_in_scope (part_said step.0 step.1) now.place (part_leads now.place step.0 step.1 step.2.fits) declaration (sym same ∙ captured) before)
    where
      by : InScope (state_before code (state_of place []) at).place declaration → (register : ℕ) × (one : Active) × (slice_get (before_at of at).active register ≡ Some one) × (one.local.declaration ≡ Some declaration)
      by inside =
          let number = inside.3 in
          let found = active at less inside.0 inside.1 inside.2 (omega (arith, low, number)) in
          (found.0, found.1, found.2, found.3 ∙ ap Some number)

  -- the same functions are around
  pub around_stays : (place : Place) (at : ℕ) → at ≤ length code.steps → (state_before code (state_of place []) at).place.around ≡ place.around
  around_stays place zero most = refl
  around_stays place (suc at) most =
      let step = step_is of at (omega (arith, most)) in
      let now = state_before code (state_of place []) at in
      let said = said_at code at now in
      let are : said ≡ says step.0 step.1 now = ap₂ (λ kind part. says_at kind part now) step.2.there step.2.part_there in
      around_ended (suc at) said.after.place said.after.entries
      ∙ ap (λ (it : Said). it.after.place.around) are
      ∙ ap (λ (place : Place). place.around) (says_part step.0 step.1 now step.2.fits).1
      ∙ part_around step.0 step.1 now.place step.2.fits
      ∙ around_stays place at (omega (arith, most))

  homes_before : (place : Place) (from : ℕ) → AllHome from (innermost place.around) place.scope → (at : ℕ) → at ≤ length code.steps → StateHome from (innermost place.around) (state_before code (state_of place []) at)
  homes_before place from start zero most = (start, tt)
  homes_before place from start (suc at) most =
      let within : at ≤ length code.steps = omega (arith, most) in
      let step = step_is of at (omega (arith, most)) in
      let now = state_before code (state_of place []) at in
      let said = said_at code at now in
      let are : said ≡ says step.0 step.1 now = ap₂ (λ kind part. says_at kind part now) step.2.there step.2.part_there in
      let behind = subst (λ (it : Said). StateHome from (innermost place.around) it.after) (sym are)
      (home_said from (innermost place.around) step.0 step.1 now step.2.fits (ap innermost (around_stays place at within)) (homes_before place from start at within)) in
      home_ended from (innermost place.around) (suc at) said.after.place said.after.entries behind.0 behind.1

  module _ (formed : formed_statements block ≡ true) (all : List Mark) (place : Place) (rest : List Mark) (begun : (begun_of params names ahead).ahead ≡ ahead_at all place ((statements_part block place).marks ++ rest)) where
    module _ (declarations functions : ℕ) (marks : List Mark) (ahead_is : ahead ≡ ahead_by all declarations functions marks) (counted : (statements_part block place).next.declarations ≤ declarations_in all) where
      -- so it is in a function with parameters
      pub captures_active_params : LowAt place → CapturesActive of place declarations
      captures_active_params low = captures_by place declarations (scope_active_params of formed all place rest begun declarations functions marks ahead_is counted low)

      listed_local : (at : ℕ) → at ≤ length code.steps → (register : ℕ) (one : Active) → slice_get (before_at of at).active register ≡ Some one → slice_get (locals_to of at) one.listed ≡ Some one.local
      listed_local at most register one there = stand_before of at (stand_to of at most) register one there

      -- of active locals all bindings in scope are of the function, where the parameters' are
      pub only_own_before : AllHome declarations (innermost place.around) place.scope → (at : ℕ) → at ≤ length code.steps → (register : ℕ) (one : Active) (d : ℕ) → slice_get (before_at of at).active register ≡ Some one →
          one.local.declaration ≡ Some d → OnlyOwn (state_before code (state_of place []) at).place d
      only_own_before start at most register one d there number name b is same =
          let sound = sound_to of formed all place rest begun declarations functions marks ahead_is counted at most in
          let low = sound.low_of one.listed one.local d (listed_local at most register one there) number in
          (homes_before place declarations start at most).0 name b is (omega (arith, low, same)) ∙ ap innermost (sym (around_stays place at most))

      -- no two active locals have one declaration
      pub distinct_active : (at : ℕ) → at ≤ length code.steps → (register next : ℕ) (one other : Active) (d : ℕ) → slice_get (before_at of at).active register ≡ Some one → slice_get (before_at of at).active next ≡ Some other →
          one.local.declaration ≡ Some d → other.local.declaration ≡ Some d → register ≡ next
      distinct_active at most register next one other d there here is also =
          let sound = sound_to of formed all place rest begun declarations functions marks ahead_is counted at most in
          let same = sound.once one.listed other.listed one.local other.local d (listed_local at most register one there) (listed_local at most next other here) is also in
          rising_once 0 (length (before_at of at).locals) (before_at of at).active (rises_before code of.plain params names ahead at) register next one other there here same
