-- When all words of a function are read, the reader's list has just those locals captured that the source captures.
use Rattle.std.proofs.Common.{◌≡◌, ◌<◌, ◌≤◌, ◌⊎◌, inl, inr, ℕ, zero, suc, ◌+◌, ◌-◌, ◌&&◌, Bool, true, false, List, [], ◌∷◌, ◌++◌, length, length-append, refl, sym, ap, ap₂, ◌∙◌, arith, subst, eq-eqb, le-leb, if◌then◌else◌}
use Rattle.std.proofs.Math.Bool.{or_comm}
use Rattle.std.proofs.lemmas.Bool.{eqb-true}
use Rattle.std.proofs.lemmas.Bool.Decides.{nat_tests}
use Rattle.std.proofs.lemmas.Option.{none-some, same_Some, slice_get-map, slice_get_within}
use Rattle.std.specs.Prelude.{◌==◌, ◌||◌, None, Option, Some, option_and_then, option_map, slice_get}
use Rattle.lua_num.specs.Bytes.{Text}
use Rattle.lua_tree.specs.Outline as outline
use Rattle.lua_tree.specs.Outline.{Mark, Place, statements_part}
use Rattle.lua_tree.specs.Resolved.{declarations_in}
use Rattle.lua_tree.specs.Scoping.{is_captured}
use Rattle.lua_tree.specs.Syntax.{Statements}
use Rattle.lua_tree.specs.WellFormed.{formed_statements}
use Rattle.core_expr.specs.Values.{Inner}
use Rattle.recover_expr.specs.Drafts.{Drafted, Part, head_part}
use Rattle.recover_expr.specs.Locals.{Scope}
use Rattle.recover_expr.specs.Placing.{Steps}
use Rattle.recover_expr.specs.Reading.{ReadSoFar, and_draft, drafts_from, left_at, step_at}
use Rattle.recover_expr.specs.Situation.{Function, Situation, begun}
use Rattle.recover_expr.specs.declared.locals.Declared.{Declared}
use Rattle.recover_expr.specs.declared.steps.StepKind.{StepKind}
use Rattle.scheme.specs.Making.{Ahead, Maker, declare}
use Rattle.scheme.specs.declared.making.Active.{Active}
use Rattle.scheme.specs.declared.making.Local.{Local}
use Rattle.scheme_stands.specs.Places.{ahead_at, ahead_by}
use Rattle.scheme_stands.specs.Words.{Fn}
use Rattle.same_flow.specs.Listed.{entries_of}
use Rattle.same_flow.specs.Performed.{kind_at, part_at}
use Rattle.same_flow.specs.SameFlow.{begun_of}
use Rattle.same_flow.proofs.Walks.{State, said_at, state_of}
use Rattle.reads_back.specs.Placed.{active_behind}
use Rattle.reads_back.proofs.CapturedEntries as entries
use Rattle.reads_back.proofs.CapturedEntries.{is_listed, newly_captured, stands_in, step_declares, still_captured, times_uncaptured}
use Rattle.reads_back.proofs.CapturesLike.{StepsCaptureLike}
use Rattle.reads_back.proofs.FlowBegins.{declared_first, function_read, params_behind, there_first}
use Rattle.reads_back.proofs.FlowDrafts.{first_pc}
use Rattle.reads_back.proofs.FlowNext.{StepRead, step_read}
use Rattle.reads_back.proofs.FlowRead.{Begins, PartRead}
use Rattle.reads_back.proofs.FlowSteps.{IsThere, there_begins}
use Rattle.reads_back.proofs.FlowThere.{IsFlowFunction, StepIs, before_at, pcs, step_is}
use Rattle.reads_back.proofs.FunctionLocals.{declared_before, declared_last, declares_more, locals_count, locals_next, locals_to, number_at, sound_to, stand_before, stand_later, stand_to}
use Rattle.reads_back.proofs.LocalsBrought.{AreSound, all_hidden, declared_place, either_part, hidden_by, locals_by, names_by}
use Rattle.reads_back.proofs.LocalsLeave.{listed_of}
use Rattle.reads_back.proofs.MarksCaptured.{all_captured, captured_both, captured_in, captured_in_both, marks_to}
use Rattle.reads_back.proofs.ScopesGrow.{declare_enters}
use Rattle.reads_back.proofs.ScopesRead.{has_register, is_local_function}
use Rattle.reads_back.proofs.StepsExact.{captured_by_step}
use Rattle.reads_back.proofs.StepsGrow.{pcs_grow}
use Rattle.reads_back.proofs.StepsKnown.{state_before}
use Rattle.reads_back.proofs.Tests.{not_below, or_first, or_second, same_truth}

-- ---- what is said of the marks

module _ {f : Function} {g : Fn} {z : Maker} {lefts : ℕ → List (Option Inner)} {parts : ℕ → outline.Part} {code : Steps} {params names : List Text} {ahead : Ahead} {block : Statements} (of : IsFlowFunction f g z lefts parts code params names ahead block) where
  -- what a step says of a function whose statements begin at a place
  abbrev StepMarks : Place → (at : ℕ) → List Mark
  StepMarks place at = (said_at code at (state_before code (state_of place []) at)).marks

  -- of the declarations from a number on that stand before a step it captures those only whose local is active there
  abbrev pub CapturesActive : Place → (from : ℕ) → Type 0
  CapturesActive place from =
      (at declaration : ℕ) → at < length code.steps → from ≤ declaration → declaration < (state_before code (state_of place []) at).place.declarations → is_captured declaration (StepMarks place at) ≡ true
      → (register : ℕ) × (one : Active) × (slice_get (before_at of at).active register ≡ Some one) × (one.local.declaration ≡ Some declaration)

  -- and it captures none of those behind it
  abbrev pub CapturesNoLater : Place → Type 0
  CapturesNoLater place =
      (at declaration : ℕ) → at < length code.steps → (state_before code (state_of place []) (suc at)).place.declarations ≤ declaration → is_captured declaration (StepMarks place at) ≡ false

  -- of its own names it captures the first one, where it is read as a `local function`
  abbrev pub CapturesOwn : Place → Type 0
  CapturesOwn place =
      (at : ℕ) (now behind : Situation) (draft : Drafted) → at < length code.steps → Begins of at now → step_at f at (pcs of at) now ≡ Some (draft, behind)
      → (kind : StepKind) (part : Part) → kind_at code.steps at ≡ Some kind → part_at code at ≡ Some part → (i : ℕ) → i < length (names_by kind part)
      → is_captured ((state_before code (state_of place []) at).place.declarations + i) (StepMarks place at) ≡ (is_local_function draft.part && (0 == i))

  -- its words capture no hidden local
  abbrev pub CapturesNoHidden : Type 0
  CapturesNoHidden =
      (at : ℕ) (now behind : Situation) (draft : Drafted) → at < length code.steps → Begins of at now → step_at f at (pcs of at) now ≡ Some (draft, behind)
      → (register : ℕ) (one : Active) → slice_get (before_at of at).active register ≡ Some one → one.local.declaration ≡ None → has_register register (captured_by_step f at (pcs of at) now) ≡ false

-- the declarations from one on, up to the end of the statements, are captured by all marks where the statements capture them
abbrev pub CapturedInside : (all : List Mark) → Place → Statements → (declarations : ℕ) → Type 0
CapturedInside all place block declarations =
    (declaration : ℕ) → declarations ≤ declaration → declaration < (statements_part block place).next.declarations → is_captured declaration all ≡ is_captured declaration (statements_part block place).marks

-- ---- tests

has_more : (register : ℕ) (first : ℕ) (registers : List ℕ) → has_register register registers ≡ true → has_register register (first ∷ registers) ≡ true
has_more register first registers has = or_second (first == register) (has_register register registers) has

listed_is : (entry : ℕ) (found : Option ℕ) → is_listed entry found ≡ true → found ≡ Some entry
listed_is entry None is = cc
listed_is entry (Some other) is = ap Some (eqb-true other entry is)

-- a register in which the entry stands
found_in : (active registers : List ℕ) (entry : ℕ) → stands_in active registers entry ≡ true → (register : ℕ) × (has_register register registers ≡ true) × (slice_get active register ≡ Some entry)
found_in active [] entry is = cc
found_in active (first ∷ registers) entry is = by (is_listed entry (slice_get active first)) refl is (found_in active registers entry)
  where
    Found : List ℕ → Type 0
    Found registers = (register : ℕ) × (has_register register registers ≡ true) × (slice_get active register ≡ Some entry)

    by : (here : Bool) → is_listed entry (slice_get active first) ≡ here → (here || stands_in active registers entry) ≡ true → (stands_in active registers entry ≡ true → Found registers) → Found (first ∷ registers)
    by true here is rest = (first, or_first (first == first) (has_register first registers) (eq-eqb first first refl), listed_is entry (slice_get active first) here)
    by false here is rest = let later = rest is in (later.0, has_more later.0 first registers later.1, later.2)

stands_there : (active registers : List ℕ) (entry register : ℕ) → has_register register registers ≡ true → slice_get active register ≡ Some entry → stands_in active registers entry ≡ true
stands_there active [] entry register has there = cc
stands_there active (first ∷ registers) entry register has there = by (first == register) refl has (stands_there active registers entry register)
  where
    here : Bool
    here = is_listed entry (slice_get active first)

    by : (same : Bool) → (first == register) ≡ same → (same || has_register register registers) ≡ true → (has_register register registers ≡ true → slice_get active register ≡ Some entry → stands_in active registers entry ≡ true) →
        (here || stands_in active registers entry) ≡ true
    by true same has rest =
        or_first here (stands_in active registers entry)
        (ap (λ register. is_listed entry (slice_get active register)) (eqb-true first register same) ∙ ap (is_listed entry) there ∙ eq-eqb entry entry refl)
    by false same has rest = or_second here (stands_in active registers entry) (rest has there)

-- the active local of an entry
active_of : (active : List Active) (register entry : ℕ) → slice_get (listed_of active) register ≡ Some entry → (one : Active) × (slice_get active register ≡ Some one) × (one.listed ≡ entry)
active_of active register entry there = by (slice_get active register) refl (sym (slice_get-map (λ (one : Active). one.listed) active register) ∙ there)
  where
    by : (found : Option Active) → slice_get active register ≡ found → option_map (λ (one : Active). one.listed) found ≡ Some entry → (one : Active) × (slice_get active register ≡ Some one) × (one.listed ≡ entry)
    by None is none = absurd (none-some entry none)
    by (Some one) is some = (one, is, same_Some one.listed entry some)

captured_there : (declared : List Declared) (entry : ℕ) (is : Declared) → slice_get declared entry ≡ Some is → entries.is_captured declared entry ≡ is.captured
captured_there [] entry is there = absurd (none-some is there)
captured_there (one ∷ declared) zero is there = ap (λ (one : Declared). one.captured) (same_Some one is there)
captured_there (one ∷ declared) (suc entry) is there = captured_there declared entry is there

-- ---- along the steps of a function

module _ {f : Function} {g : Fn} {z : Maker} {lefts : ℕ → List (Option Inner)} {parts : ℕ → outline.Part} {code : Steps} {params names : List Text} {ahead : Ahead} {block : Statements} (of : IsFlowFunction f g z lefts parts code params names ahead block) (takes : f.of.params ≡ length params) where
  -- what is a `local function` has no hidden locals
  function_hides : (at behind : ℕ) (kind : StepKind) (part : Part) (draft : Drafted) → PartRead f g lefts (before_at of at) (pcs of) kind part behind draft → (is_local_function draft.part ≡ false) ⊎ (hidden_by kind part ≡ [])
  function_hides at behind (StepKind.Head true foot end variables_end captured) (head_part es texts) draft read = inl (ap is_local_function read.part)
  function_hides at behind (StepKind.Head false foot end variables_end captured) (head_part es texts) draft read = inl (ap is_local_function read.part)
  function_hides at behind kind part draft read = inr refl

  module _ (formed : formed_statements block ≡ true) (all : List Mark) (place : Place) (rest : List Mark) (begun_at : (begun_of params names ahead).ahead ≡ ahead_at all place ((statements_part block place).marks ++ rest))
      (declarations functions : ℕ) (marks : List Mark) (ahead_is : ahead ≡ ahead_by all declarations functions marks) (counted : (statements_part block place).next.declarations ≤ declarations_in all)
      (like : StepsCaptureLike of place) (only_active : CapturesActive of place declarations) (no_later : CapturesNoLater of place) (own : CapturesOwn of place) (no_hidden : CapturesNoHidden of) where
    abbrev first : State
    first = state_of place []

    abbrev count_at : ℕ → ℕ
    count_at at = declared_before of formed all place rest begun_at at

    sound : (at : ℕ) → at ≤ length code.steps → AreSound all declarations (count_at at) (locals_to of at)
    sound at most = sound_to of formed all place rest begun_at declarations functions marks ahead_is counted at most

    -- the steps before one capture nothing that is declared behind them
    none_before : (at declaration : ℕ) → at ≤ length code.steps → count_at at ≤ declaration → is_captured declaration (marks_to code first at) ≡ false
    none_before zero declaration most above = refl
    none_before (suc at) declaration most above =
        let step = step_is_there at (omega (arith, most)) in
        let grows = declares_more of formed all place rest begun_at at step.0 step.1 step.2 in
        captured_both declaration (marks_to code first at) (StepMarks of place at)
        ∙ ap₂ (λ one other. one || other) (none_before at declaration (omega (arith, most)) (omega (arith, grows, above))) (no_later at declaration (omega (arith, most)) above)
      where
        step_is_there : (at : ℕ) → at < length code.steps → (kind : StepKind) × (part : Part) × StepIs of at kind part
        step_is_there at less = step_is of at less

    -- before a step the reader's list has those locals captured that the marks before capture
    abbrev IsCapturedTo : (at : ℕ) → Situation → Type 0
    IsCapturedTo at now = (entry : ℕ) (one : Local) → slice_get (locals_to of at) entry ≡ Some one → entries.is_captured now.scope.declared entry ≡ captured_in one.declaration (marks_to code first at)

    module _ (at : ℕ) (less : at < length code.steps) (now : Situation) (there : IsThere of at now) (captured : IsCapturedTo at now) (read : StepRead of at now) where
      abbrev draft : Drafted
      draft = read.draft

      abbrev registers : List ℕ
      registers = captured_by_step f at (pcs of at) now

      abbrev said : List Mark
      said = StepMarks of place at

      within : at ≤ length code.steps
      within = omega (arith, less)

      begins : Begins of at (begun at (pcs of at) now)
      begins = there_begins of at there

      -- a local that was listed
      register_like : (register : ℕ) (other : Active) (declaration : ℕ) → slice_get (before_at of at).active register ≡ Some other → other.local.declaration ≡ Some declaration → has_register register registers ≡ is_captured declaration said
      register_like register other declaration there is = like at (begun at (pcs of at) now) read.behind draft less begins read.reads register declaration other there is

      stand : (register : ℕ) (other : Active) → slice_get (before_at of at).active register ≡ Some other → slice_get (locals_to of at) other.listed ≡ Some other.local
      stand = stand_before of at (stand_to of at within)

      stands_like : (entry : ℕ) (one : Local) → slice_get (locals_to of at) entry ≡ Some one → stands_in now.scope.active registers entry ≡ captured_in one.declaration said
      stands_like entry one listed = by one.declaration refl
        where
          -- the active local that stands there
          found : stands_in now.scope.active registers entry ≡ true → (register : ℕ) × (other : Active) × (has_register register registers ≡ true) × (slice_get (before_at of at).active register ≡ Some other) × (other.local ≡ one)
          found stands =
              let it = found_in now.scope.active registers entry stands in
              let other = active_of (before_at of at).active it.0 entry (ap (λ (active : List ℕ). slice_get active it.0) (sym there.active) ∙ it.2) in
              (it.0, other.0, it.1, other.1, same_Some other.0.local one (sym (stand it.0 other.0 other.1) ∙ ap (slice_get (locals_to of at)) other.2 ∙ listed))

          by : (declaration : Option ℕ) → one.declaration ≡ declaration → stands_in now.scope.active registers entry ≡ captured_in declaration said
          by None is =
              same_truth (stands_in now.scope.active registers entry) false
              (λ stands. let it = found stands in
              sym (no_hidden at (begun at (pcs of at) now) read.behind draft less begins read.reads it.0 it.1 it.3 (ap (λ (local : Local). local.declaration) it.4 ∙ is)) ∙ it.2)
              (λ is. cc)
          by (Some declaration) is =
              same_truth (stands_in now.scope.active registers entry) (is_captured declaration said)
              (λ stands. let it = found stands in sym (register_like it.0 it.1 declaration it.3 (ap (λ (local : Local). local.declaration) it.4 ∙ is)) ∙ it.2)
              (λ captures.
              let below = (sound at within).high_of entry one declaration listed is in
              let above = (sound at within).low_of entry one declaration listed is in
              let it = only_active at declaration less above below captures in
              let same : it.1.listed ≡ entry = (sound at within).once it.1.listed entry it.1.local one declaration (stand it.0 it.1 it.2) listed it.3 is in
              stands_there now.scope.active registers entry it.0 (register_like it.0 it.1 declaration it.2 it.3 ∙ captures)
              (ap (λ (active : List ℕ). slice_get active it.0) there.active ∙ slice_get-map (λ (one : Active). one.listed) (before_at of at).active it.0 ∙ ap (option_map (λ (one : Active). one.listed)) it.2 ∙ ap Some same))

      count : length now.scope.declared ≡ length (locals_to of at)
      count = there.declared ∙ sym (locals_count of at within)

      still : (entry : ℕ) (one : Local) → entry < length (locals_to of at) → slice_get (locals_to of at) entry ≡ Some one → entries.is_captured read.behind.scope.declared entry ≡ captured_in one.declaration (marks_to code first (suc at))
      still entry one below listed =
          still_captured f at (pcs of at) now draft read.behind read.reads entry (omega (arith, below, count))
          ∙ ap₂ (λ one other. one || other) (stands_like entry one listed) (captured entry one listed)
          ∙ or_comm (captured_in one.declaration said) (captured_in one.declaration (marks_to code first at))
          ∙ sym (captured_in_both one.declaration (marks_to code first at) said)

      abbrev itself : Bool
      itself = is_local_function draft.part

      -- where one of those stands that the step declares
      abbrev Where : (i : ℕ) → Local → Type 0
      Where i one =
          ((i < length (hidden_by read.read.kind read.read.part)) × (slice_get (hidden_by read.read.kind read.read.part) i ≡ Some one))
          ⊎ ((j : ℕ) × (i ≡ length (hidden_by read.read.kind read.read.part) + j) × (slice_get (declare (names_by read.read.kind read.read.part) (before_at of at)).value j ≡ Some one))

      -- one that the step declares
      newly : (i entry : ℕ) (one : Local) → entry ≡ length (locals_to of at) + i → slice_get (locals_by read.read.kind read.read.part (before_at of at)) i ≡ Some one → entry < length (locals_to of (suc at)) →
          entries.is_captured read.behind.scope.declared entry ≡ captured_in one.declaration (marks_to code first (suc at))
      newly i entry one is listed below =
          let kind = read.read.kind in
          let part = read.read.part in
          let m = before_at of at in
          let more = (step_declares f at (pcs of at) now draft read.behind read.reads).declared_more in
          let behind : length read.behind.scope.declared ≡ length (locals_to of (suc at)) = read.there.declared ∙ sym (locals_count of (suc at) (omega (arith, less))) in
          newly_captured f at (pcs of at) now draft read.behind read.reads entry (omega (arith, is, count)) (omega (arith, below, more, behind))
          ∙ by (function_hides at _ kind part draft read.read.part_read) (either_part (hidden_by kind part) (declare (names_by kind part) m).value i one listed)
          ∙ ap (λ before. before || captured_in one.declaration said) (sym before)
          ∙ sym (captured_in_both one.declaration (marks_to code first at) said)
        where
          before : captured_in one.declaration (marks_to code first at) ≡ false
          before = none one.declaration (λ declaration is. low declaration is (either_part (hidden_by read.read.kind read.read.part) (declare (names_by read.read.kind read.read.part) (before_at of at)).value i one listed))
            where
              low : (declaration : ℕ) → one.declaration ≡ Some declaration → Where i one → count_at at ≤ declaration
              low declaration is (inl hidden) = absurd (none-some declaration (sym (all_hidden all read.read.kind read.read.part i one hidden.1).0 ∙ is))
              low declaration is (inr named) =
                  let declares = (declared_place all (names_by read.read.kind read.read.part) (before_at of at) named.0 one named.2).1 in
                  let same : declaration ≡ (before_at of at).ahead.declarations + named.0 = same_Some declaration _ (sym is ∙ declares) in
                  omega (arith, same, number_at of formed all place rest begun_at at within)

              none : (declaration : Option ℕ) → ((number : ℕ) → declaration ≡ Some number → count_at at ≤ number) → captured_in declaration (marks_to code first at) ≡ false
              none None low = refl
              none (Some declaration) low = none_before at declaration within (low declaration refl)

          by : (itself ≡ false) ⊎ (hidden_by read.read.kind read.read.part ≡ []) → Where i one → (itself && (length now.scope.declared == entry)) ≡ captured_in one.declaration said
          by hides (inl hidden) = nothing hides ∙ sym (ap (λ declaration. captured_in declaration said) (all_hidden all read.read.kind read.read.part i one hidden.1).0)
            where
              nothing : (itself ≡ false) ⊎ (hidden_by read.read.kind read.read.part ≡ []) → (itself && (length now.scope.declared == entry)) ≡ false
              nothing (inl not) = ap (λ itself. itself && (length now.scope.declared == entry)) not
              nothing (inr none) = absurd (none-some one (ap (λ (locals : List Local). slice_get locals i) (sym none) ∙ hidden.1))
          by hides (inr named) =
              let declares = declared_place all (names_by read.read.kind read.read.part) (before_at of at) named.0 one named.2 in
              same hides
              ∙ sym (own at (begun at (pcs of at) now) read.behind draft less begins read.reads read.read.kind read.read.part read.read.is.there read.read.is.part_there named.0 declares.0)
              ∙ ap (λ number. is_captured (number + named.0) said) (sym (number_at of formed all place rest begun_at at within))
              ∙ sym (ap (λ declaration. captured_in declaration said) declares.1)
            where
              same : (itself ≡ false) ⊎ (hidden_by read.read.kind read.read.part ≡ []) → (itself && (length now.scope.declared == entry)) ≡ (itself && (0 == named.0))
              same (inl not) = ap (λ itself. itself && (length now.scope.declared == entry)) not ∙ sym (ap (λ itself. itself && (0 == named.0)) not)
              same (inr none) =
                  let from : i ≡ named.0 = named.1 ∙ ap (λ (locals : List Local). length locals + named.0) none ∙ (let zero_more : 0 + named.0 ≡ named.0 = omega arith in zero_more) in
                  let at_entry : entry ≡ length now.scope.declared + named.0 = omega (arith, is, from, count) in
                  ap (λ entry. itself && (length now.scope.declared == entry)) at_entry ∙ ap (λ same. itself && same) (let equal : (length now.scope.declared == length now.scope.declared + named.0) ≡ (0 == named.0) = grind (arith, nat_tests) in equal)

      captured_next : IsCapturedTo (suc at) (left_at f (pcs of (suc at)) read.behind)
      captured_next entry one listed =
          let here = read.read.is in
          let next = locals_next of at read.read.kind read.read.part here in
          by (slice_get_within (locals_to of (suc at)) entry one listed) (either_part (locals_to of at) (locals_by read.read.kind read.read.part (before_at of at)) entry one (ap (λ (locals : List Local). slice_get locals entry) (sym next) ∙ listed))
        where
          by : entry < length (locals_to of (suc at)) → ((entry < length (locals_to of at)) × (slice_get (locals_to of at) entry ≡ Some one)) ⊎ ((i : ℕ) × (entry ≡ length (locals_to of at) + i) × (slice_get (locals_by read.read.kind read.read.part (before_at of at)) i ≡ Some one)) →
              entries.is_captured read.behind.scope.declared entry ≡ captured_in one.declaration (marks_to code first (suc at))
          by below (inl old) = still entry one old.0 old.1
          by below (inr new) = newly new.0 entry one new.1 new.2 below

    -- so it is behind all steps
    captured_from : (left at : ℕ) → length code.steps ≡ left + at → (drafts : List Drafted) → length drafts ≡ at → (now : Situation) → IsThere of at now → IsCapturedTo at now → (count : ℕ) → f.last ≤ count + pcs of at →
        (behind : ReadSoFar) → drafts_from f count (drafts, pcs of at, now) ≡ Some behind → IsCapturedTo (length code.steps) behind.2
    captured_from zero at is drafts number now there captured count few behind reads =
        let last : at ≡ length code.steps = omega (arith, is) in
        subst (λ (now : ReadSoFar). IsCapturedTo (length code.steps) now.2) (by count reads (ap (pcs of) last ∙ sym of.last)) (subst (λ at. IsCapturedTo at now) last captured)
      where
        by : (count : ℕ) → drafts_from f count (drafts, pcs of at, now) ≡ Some behind → pcs of at ≡ f.last → ◌≡◌ {A = ReadSoFar} (drafts, pcs of at, now) behind
        by zero reads over = same_Some _ behind reads
        by (suc count) reads over =
            same_Some _ behind
            (sym (ap (λ over. if over then Some (drafts, pcs of at, now) else option_and_then (λ step. drafts_from f count (and_draft f drafts step)) (step_at f (length drafts) (pcs of at) now)) (le-leb f.last (pcs of at) (omega (arith, over)))) ∙ reads)
    captured_from (suc left) at is drafts number now there captured count few behind reads =
        let less : at < length code.steps = omega (arith, is) in
        let one = step_read of at less now there in
        let longer : length (drafts ++ one.draft ∷ []) ≡ suc at = omega (arith, number, length-append drafts (one.draft ∷ [])) in
        let later = one.later in
        let end : pcs of (suc at) ≤ f.last = omega (arith, of.last, pcs_grow code params names ahead (suc at) (length code.steps) (omega (arith, less))) in
        by less one longer later end count few reads
        (captured_from left (suc at) (omega (arith, is)) (drafts ++ one.draft ∷ []) longer (left_at f (pcs of (suc at)) one.behind) one.there (captured_next at less now there captured one))
      where
        by : at < length code.steps → (one : StepRead of at now) → length (drafts ++ one.draft ∷ []) ≡ suc at → pcs of at < pcs of (suc at) → pcs of (suc at) ≤ f.last → (count : ℕ) → f.last ≤ count + pcs of at → drafts_from f count (drafts, pcs of at, now) ≡ Some behind →
            ((count : ℕ) → f.last ≤ count + pcs of (suc at) → (behind : ReadSoFar) → drafts_from f count (drafts ++ one.draft ∷ [], pcs of (suc at), left_at f (pcs of (suc at)) one.behind) ≡ Some behind → IsCapturedTo (length code.steps) behind.2) →
            IsCapturedTo (length code.steps) behind.2
        by less one longer later end zero few reads rest = absurd (omega (arith, few, later, end))
        by less one longer later end (suc count) few reads rest =
            let go_on = λ (step : Drafted × Situation). drafts_from f count (and_draft f drafts step) in
            rest count (omega (arith, few, later)) behind
            (sym (ap (λ over. if over then Some (drafts, pcs of at, now) else option_and_then go_on (step_at f (length drafts) (pcs of at) now)) (not_below (pcs of at) f.last (omega (arith, later, end)))
            ∙ ap (λ number. option_and_then go_on (step_at f number (pcs of at) now)) number
            ∙ ap (option_and_then go_on) one.reads
            ∙ ap (λ pc. drafts_from f count (drafts ++ one.draft ∷ [], pc, left_at f pc one.behind)) one.next)
            ∙ reads)

    -- where the function begins, no parameter is captured
    captured_first : IsCapturedTo 0 (left_at f 0 (params_behind of takes))
    captured_first entry one listed =
        let parameters = declared_first of takes in
        let many = length (entries_of 0 (pcs of (length code.steps)) params) in
        let empty : Scope = record { declared = []; active = [] } in
        ap (λ (scope : Scope). entries.is_captured scope.declared entry) ((declare_enters f.of.locals many 0 None empty).at parameters.behind parameters.does)
        ∙ times_uncaptured many None empty entry ∙ sym (nothing one.declaration)
      where
        nothing : (declaration : Option ℕ) → captured_in declaration [] ≡ false
        nothing None = refl
        nothing (Some declaration) = refl

    captured_last : IsCapturedTo (length code.steps) (function_read of takes).behind
    captured_last =
        let read = function_read of takes in
        captured_from (length code.steps) 0 (omega arith) [] refl (left_at f 0 (params_behind of takes)) (there_first of takes) captured_first f.last (omega arith) (read.drafts, f.last, read.behind)
        (ap (λ pc. drafts_from f f.last ([], pc, left_at f 0 (params_behind of takes))) (first_pc of) ∙ read.reads f.last (omega arith))

    -- the local that is active behind a step has a declaration that the source captures where it is captured
    local_captured : CapturedInside all place block declarations → (entry : ℕ) (one : Local) → slice_get (locals_to of (length code.steps)) entry ≡ Some one → captured_in one.declaration (marks_to code first (length code.steps)) ≡ one.captured
    local_captured inside entry one listed = by one.declaration refl
      where
        by : (declaration : Option ℕ) → one.declaration ≡ declaration → captured_in declaration (marks_to code first (length code.steps)) ≡ one.captured
        by None is = sym ((sound (length code.steps) (omega arith)).hidden entry one listed is)
        by (Some declaration) is =
            let sound = sound (length code.steps) (omega arith) in
            let low = sound.low_of entry one declaration listed is in
            let high = sound.high_of entry one declaration listed is in
            all_captured code params names ahead block of.laid place declaration
            ∙ sym (inside declaration low (omega (arith, high, declared_last of formed all place rest begun_at)))
            ∙ sym (sound.captured entry one declaration listed is)

  -- in the end the reader's list has the `captured` of each local that is active behind a step
  pub captured_in_end : (all : List Mark) (place : Place) (rest : List Mark) → (begun_of params names ahead).ahead ≡ ahead_at all place ((statements_part block place).marks ++ rest) →
      (declarations functions : ℕ) (marks : List Mark) → ahead ≡ ahead_by all declarations functions marks → formed_statements block ≡ true →
      StepsCaptureLike of place → CapturesActive of place declarations → CapturesNoLater of place → CapturesOwn of place → CapturesNoHidden of →
      CapturedInside all place block declarations → (statements_part block place).next.declarations ≤ declarations_in all →
      (at register : ℕ) (one : Active) → at ≤ length code.steps → slice_get (active_behind code params names ahead at) register ≡ Some one →
      (is : Declared) → slice_get (function_read of takes).behind.scope.declared one.listed ≡ Some is → is.captured ≡ one.local.captured
  captured_in_end all place rest begun_at declarations functions marks ahead_is formed like only_active no_later own no_hidden inside counted at register one most active is there =
      let last = length code.steps in
      let behind : at + (last - at) ≡ last = omega (arith, most) in
      let listed : slice_get (locals_to of last) one.listed ≡ Some one.local =
      ap (λ n. slice_get (locals_to of n) one.listed) (sym behind) ∙ stand_later of (last - at) at (omega (arith, most)) register one active in
      sym (captured_there (function_read of takes).behind.scope.declared one.listed is there)
      ∙ captured_last formed all place rest begun_at declarations functions marks ahead_is counted like only_active no_later own no_hidden one.listed one.local listed
      ∙ local_captured formed all place rest begun_at declarations functions marks ahead_is counted like only_active no_later own no_hidden inside one.listed one.local listed
