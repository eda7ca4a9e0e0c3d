-- Of its own names a step captures the first one where it is read as a local function, and no other.
use Rattle.std.proofs.Common.{◌≡◌, ◌<◌, ◌≤◌, ℕ, zero, suc, ◌+◌, ◌-◌, ◌&&◌, Bool, true, false, List, [], ◌∷◌, ◌++◌, length, refl, sym, ap, ap₂, ◌∙◌, subst, arith}
use Rattle.std.proofs.lemmas.Option.{same_Some}
use Rattle.std.specs.Prelude.{◌==◌, ◌||◌, Option, Some, slice_get}
use Rattle.std.proofs.Math.Bool.{and-true}
use Rattle.lua_num.specs.Bytes.{Text}
use Rattle.lua_tree.specs.Outline as outline
use Rattle.lua_tree.specs.Outline.{Binding, Place, declares, expressions_part}
use Rattle.lua_tree.specs.Scoping.{is_captured}
use Rattle.lua_tree.specs.Syntax.{Expressions, FunctionBody, Statements, local_function, local_statement}
use Rattle.lua_tree.specs.WellFormed.{formed_statements}
use Rattle.core_expr.specs.Places as core
use Rattle.core_expr.specs.Values.{Inner}
use Rattle.recover_expr.specs.Drafts.{Drafted, Part, head_part, statement_part}
use Rattle.recover_expr.specs.Placing.{Steps}
use Rattle.recover_expr.specs.Reading.{step_at}
use Rattle.recover_expr.specs.Situation.{Function, Situation, begun}
use Rattle.recover_expr.specs.declared.steps.StepKind.{StepKind}
use Rattle.scheme.specs.Making.{Ahead, Maker}
use Rattle.scheme.specs.declared.making.Active.{Active}
use Rattle.scheme.specs.declared.making.Local.{Local}
use Rattle.scheme_stands.specs.Words.{Fn}
use Rattle.scheme_stands.specs.Places.{LowAt}
use Rattle.same_flow.proofs.Walks.{state_of}
use Rattle.reads_back.specs.Acted.{Acted, IsActed, act_statement, declared}
use Rattle.reads_back.specs.ReadAs.{part_of}
use Rattle.reads_back.proofs.CapturedFlow.{StepComes, begins_again, own_captures_like, said_captures, step_registers}
use Rattle.reads_back.proofs.CapturedInEnd.{CapturesOwn}
use Rattle.reads_back.proofs.CapturedMarks.{InScope, expressions_captured}
use Rattle.reads_back.proofs.CapturedSteps.{declares_silent}
use Rattle.reads_back.proofs.FlowRead.{Begins, PartRead, as_many, within_last}
use Rattle.reads_back.proofs.FlowSteps.{kind_step_read, later_at}
use Rattle.reads_back.proofs.FlowThere.{IsFlowFunction, StepIs, before_at, made_at, pcs, step_is}
use Rattle.reads_back.proofs.LocalsBrought.{names_by}
use Rattle.reads_back.proofs.MarksCaptured.{captured_both}
use Rattle.reads_back.proofs.NoLaterCaptured.{low_before}
use Rattle.reads_back.proofs.PlacedCaptures.{element_right}
use Rattle.reads_back.proofs.ScopesRead.{has_register, is_local_function}
use Rattle.reads_back.proofs.StatementsMeant.{own_active}
use Rattle.reads_back.proofs.StepsExact.{captured_by_step, step_exact, step_of_words}
use Rattle.reads_back.proofs.StepsKnown.{part_said, state_before}

-- ---- names that their values do not see

-- values capture nothing that is declared before them and behind all that they see
values_unseen : (es : Expressions) (place : Place) (d : ℕ) → ((name : Text) (b : Binding) → place.scope name ≡ Some b → b.declaration < d) → d < place.declarations → is_captured d (expressions_part es place).marks ≡ false
values_unseen es place d low before = by (is_captured d (expressions_part es place).marks) refl
  where
    seen : InScope place d → ⊥
    seen there = let below = low there.0 there.1 there.2 in let same = there.3 in omega (arith, below, same)

    by : (is : Bool) → is_captured d (expressions_part es place).marks ≡ is → is ≡ false
    by true is = absurd (seen (expressions_captured es place d is before))
    by false is = refl

values_silent : (line hidden : ℕ) (names : List Text) (es : Expressions) (place : Place) → LowAt place → (i : ℕ) → i < length names →
    is_captured (place.declarations + i) ((declares line hidden names place).marks ++ ((expressions_part es (declares line hidden names place).next).marks ++ [])) ≡ false
values_silent line hidden names es place low i less =
    let d = place.declarations + i in
    let declaring = declares line hidden names place in
    let values = expressions_part es declaring.next in
    captured_both d declaring.marks (values.marks ++ [])
    ∙ ap₂ (λ here rest. here || rest) (declares_silent d line hidden names place)
    (captured_both d values.marks [] ∙ ap (λ here. here || false) (values_unseen es declaring.next d (λ name b means. let below = low name b means in omega (arith, below)) (omega (arith, less))))

-- what is read of a `local` is no local function
declared_plain : (g : Fn) (active : List Active) (names : List Text) (es : Expressions) (before behind : ℕ) (writing : core.Place) (n : ℕ) (left : List (Option Inner)) (acted : Acted) → IsActed g active (local_statement names es) before behind acted →
    is_local_function (part_of (act_statement writing n left acted)) ≡ false
declared_plain g active names es before behind writing n left (declared others vs all) is = refl
declared_plain g active names es before behind writing n left acted is = absurd is

-- ---- along the steps of a function

module _ {f : Function} {g : Fn} {z : Maker} {lefts : ℕ → List (Option Inner)} {parts : ℕ → outline.Part} {code : Steps} {params names : List Text} {ahead : Ahead} {block : Statements} (of : IsFlowFunction f g z lefts parts code params names ahead block)
    (place : Place) (formed : formed_statements block ≡ true) (low : LowAt place) where
  abbrev place_at : ℕ → Place
  place_at at = (state_before code (state_of place []) at).place

  module _ (number : (at : ℕ) → at ≤ length code.steps → (before_at of at).ahead.declarations ≡ (place_at at).declarations) (comes : (at : ℕ) (kind : StepKind) (part : Part) → StepIs of at kind part → StepComes of place at kind part)
      (at : ℕ) (now behind : Situation) (draft : Drafted) (begins : Begins of at now) (reads : step_at f at (pcs of at) now ≡ Some (draft, behind)) where
    part_is_read : {kind : StepKind} {part : Part} → StepIs of at kind part → PartRead f g lefts (before_at of at) (pcs of) kind part (length (made_at of at kind part).functions) draft
    part_is_read {kind} {part} is =
        let less = is.within in
        let read = kind_step_read of kind part is (begun at (pcs of at) now) (begins_again of begins) (later_at of (suc at) (omega (arith, less))) in
        let within = within_last of is in
        let words = read.reads (suc (f.last - pcs of at)) (omega (arith, within, read.later)) in
        let same = same_Some (read.draft, read.behind) (draft, behind) (sym words ∙ step_of_words f at (pcs of at) now draft behind reads) in
        subst (PartRead f g lefts (before_at of at) (pcs of) kind part (length (made_at of at kind part).functions)) (ap (λ (p : Drafted × Situation). p.0) same) read.part_read

    -- a local function captures itself where it is read as one
    own_function : {end : ℕ} {captured : Bool} {text : Text} {body : FunctionBody} → StepIs of at (StepKind.Declaration end captured) (statement_part (local_function text body)) →
        is_captured (place_at at).declarations (outline.statement_part 1 (local_function text body) (place_at at)).marks ≡ is_local_function draft.part
    own_function {end} {captured} {text} {body} is =
        let less = is.within in
        let kind = StepKind.Declaration end captured in
        let part = statement_part (local_function text body) in
        let made = made_at of at kind part in
        let own = own_active body is.stands in
        let register = length (before_at of at).active in
        let declared : own.local.local.declaration ≡ Some (place_at at).declarations = ap (λ (local : Local). local.declaration) own.is_local ∙ ap Some (number at (omega (arith, less))) in
        let there : slice_get made.active register ≡ Some own.local =
        ap (λ (active : List Active). slice_get active register) own.is_after ∙ element_right (before_at of at).active (own.local ∷ []) 0 register (omega arith) in
        let base : length now.scope.active ≡ register = ap length begins.active ∙ as_many of at in
        sym (own_captures_like of place formed is (comes at kind part is) register (place_at at).declarations own.local there declared)
        ∙ sym (ap (has_register register) (step_registers of place at now behind draft less begins reads))
        ∙ sym (ap (λ register. has_register register (captured_by_step f at (pcs of at) now)) base)
        ∙ sym (step_exact f at (pcs of at) now draft behind reads).own

    -- of the names of a step
    own_names : (kind : StepKind) (part : Part) → StepIs of at kind part → LowAt (place_at at) → (i : ℕ) → i < length (names_by kind part) → is_captured ((place_at at).declarations + i) (part_said kind part (place_at at)).marks ≡ (is_local_function draft.part && (0 == i))
    own_names (StepKind.Declaration end captured) (statement_part (local_function text body)) is low_at zero few =
        ap (λ d. is_captured d (outline.statement_part 1 (local_function text body) (place_at at)).marks) (let same : (place_at at).declarations + 0 ≡ (place_at at).declarations = omega arith in same)
        ∙ own_function is ∙ sym (and-true (is_local_function draft.part))
    own_names (StepKind.Declaration end captured) (statement_part (local_function text body)) is low_at (suc i) few = absurd (omega (arith, few))
    own_names (StepKind.Declaration end captured) (statement_part (local_statement names es)) is low_at i few =
        let read = part_is_read is in
        values_silent 1 0 names es (place_at at) low_at i few
        ∙ sym (ap (λ own. own && (0 == i)) (ap is_local_function read.part ∙ declared_plain g (before_at of at).active names es _ _ _ _ _ read.acted read.is))
    own_names (StepKind.Head true foot end variables_end captured) (head_part es names) is low_at i few =
        let read = part_is_read is in values_silent 1 3 names es (place_at at) low_at i few ∙ sym (ap (λ own. own && (0 == i)) (ap is_local_function read.part))
    own_names (StepKind.Head false foot end variables_end captured) (head_part es names) is low_at i few =
        let read = part_is_read is in values_silent 1 3 names es (place_at at) low_at i few ∙ sym (ap (λ own. own && (0 == i)) (ap is_local_function read.part))
    own_names (StepKind.Declaration end captured) (statement_part s) is low_at i few = absurd is.fits
    own_names StepKind.Act part is low_at i few = absurd (omega (arith, few))
    own_names StepKind.Return part is low_at i few = absurd (omega (arith, few))
    own_names (StepKind.Test when target negated) part is low_at i few = absurd (omega (arith, few))
    own_names (StepKind.Jump target) part is low_at i few = absurd (omega (arith, few))
    own_names (StepKind.Close from step) part is low_at i few = absurd (omega (arith, few))
    own_names (StepKind.Foot numeric target) part is low_at i few = absurd (omega (arith, few))
    own_names kind part is low_at i few = absurd is.fits

  -- So it is with each step that is read.
  pub captures_own : ((at : ℕ) → at ≤ length code.steps → (before_at of at).ahead.declarations ≡ (place_at at).declarations) → ((at : ℕ) (kind : StepKind) (part : Part) → StepIs of at kind part → StepComes of place at kind part) → CapturesOwn of place
  captures_own number comes at now behind draft less begins reads kind part there part_there i few =
      let step = step_is of at less in
      let same : kind ≡ step.0 = same_Some kind step.0 (sym there ∙ step.2.there) in
      let same_part : part ≡ step.1 = same_Some part step.1 (sym part_there ∙ step.2.part_there) in
      let count : length (names_by kind part) ≡ length (names_by step.0 step.1) = ap₂ (λ kind part. length (names_by kind part)) same same_part in
      said_captures of place step.2 ((place_at at).declarations + i)
      ∙ own_names number comes at now behind draft begins reads step.0 step.1 step.2 (low_before of place low at (omega (arith, less))).0 i (omega (arith, few, count))
