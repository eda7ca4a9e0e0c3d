-- Each step of a function captures what its marks do, where these come next at its place.
use Rattle.std.proofs.Common.{◌≡◌, ◌<◌, ℕ, suc, ◌-◌, Bool, true, List, [], length, Some, refl, sym, ap, ap₂, ◌∙◌, subst, arith}
use Rattle.std.proofs.lemmas.Option.{same_Some}
use Rattle.std.specs.Prelude.{Option, option_map}
use Rattle.lua_num.specs.Bytes.{Text}
use Rattle.lua_tree.specs.Outline as outline
use Rattle.lua_tree.specs.Outline.{Mark, Place, dots, hidden_local, innermost, leave, local_name, mention, opened, statements_part}
use Rattle.lua_tree.specs.Scoping.{is_captured}
use Rattle.lua_tree.specs.Names.{is_name}
use Rattle.lua_tree.specs.Syntax.{FunctionBody, Statements, local_function}
use Rattle.lua_tree.specs.WellFormed.{formed_body, formed_statements}
use Rattle.core_expr.specs.Values.{Inner}
use Rattle.recover_expr.specs.Drafts.{Drafted, Part, statement_part}
use Rattle.recover_expr.specs.Placing.{Steps}
use Rattle.recover_expr.specs.Reading.{step_at}
use Rattle.recover_expr.specs.Situation.{Function, Situation, begun}
use Rattle.recover_expr.specs.declared.steps.Step.{Step}
use Rattle.recover_expr.specs.declared.steps.StepKind.{StepKind}
use Rattle.scheme.specs.Making.{Ahead, Maker}
use Rattle.scheme_stands.specs.Words.{Fn}
use Rattle.scheme_stands.proofs.Growth.{spot}
use Rattle.scheme_stands.proofs.Walks.{and_right}
use Rattle.same_flow.proofs.ListedRun.{step_there}
use Rattle.same_flow.proofs.Walks.{Said, said_at, says_at, state_of}
use Rattle.reads_back.proofs.CapturedSteps.{KindCatching, kind_caught, own_captured}
use Rattle.reads_back.proofs.CapturedStretches.{Onward, Shown}
use Rattle.reads_back.proofs.CapturedWords.{captured_between, spans_between}
use Rattle.reads_back.proofs.CapturedInEnd.{CapturesNoHidden}
use Rattle.reads_back.proofs.CapturesLike.{CapturesLike, StepsCaptureLike}
use Rattle.reads_back.proofs.FlowRead.{Begins, as_many, last_is, within_last}
use Rattle.reads_back.proofs.FlowSteps.{kind_step_read, later_at}
use Rattle.reads_back.proofs.FlowThere.{IsFlowFunction, StepIs, before_at, made_at, pcs, step_is}
use Rattle.reads_back.proofs.FormedSteps.{IsFormed, laid_formed}
use Rattle.reads_back.proofs.MarksCaptured.{captured_unbroken}
use Rattle.reads_back.proofs.ScopesRead.{has_register}
use Rattle.reads_back.proofs.StepsExact.{captured_by_step, step_of_words}
use Rattle.reads_back.proofs.StepsKnown.{part_said, says_part, state_before}
use Rattle.reads_back.proofs.StepsSpan.{step_captures_between}

module _ {f : Function} {g : Fn} {z : Maker} {lefts : ℕ → List (Option Inner)} {parts : ℕ → outline.Part} {code : Steps} {params names : List Text} {ahead : Ahead} {block : Statements} (of : IsFlowFunction f g z lefts parts code params names ahead block) where
  pub begins_again : {at : ℕ} {now : Situation} → Begins of at now → Begins of at (begun at (pcs of at) now)
  begins_again {at} begins = record {
    declared = begins.declared;
    active = begins.active;
    base = ap length begins.active ∙ as_many of at;
    left = begins.left;
    seen = begins.seen;
    taken = refl;
    entries = refl;
    pc = refl;
  }

  -- a step that is read ends where the next one begins
  step_next : (at : ℕ) (now behind : Situation) (draft : Drafted) → at < length code.steps → Begins of at now → step_at f at (pcs of at) now ≡ Some (draft, behind) → draft.next ≡ pcs of (suc at)
  step_next at now behind draft less begins is =
      let step = step_is of at less in
      let read = kind_step_read of step.0 step.1 step.2 (begun at (pcs of at) now) (begins_again begins) (later_at of (suc at) (omega (arith, less))) in
      let within = within_last of step.2 in
      let words = read.reads (suc (f.last - pcs of at)) (omega (arith, within, read.later)) in
      let same = same_Some (read.draft, read.behind) (draft, behind) (sym words ∙ step_of_words f at (pcs of at) now draft behind is) in
      ap (λ (p : Drafted × Situation). p.0.next) (sym same) ∙ read.next

  module _ (place : Place) where
    -- the place before a step, where the statements begin at a place
    abbrev place_at : ℕ → Place
    place_at at = (state_before code (state_of place []) at).place

    -- the marks of a step come next at its place, by a list of all marks of its own, and so much is known there
    pub record StepComes (at : ℕ) (kind : StepKind) (part : Part) : Type 1 where
      pub all : Onward
      pub rest : List Mark
      pub here : all.Comes (part_said kind part) (place_at at) rest (spot (before_at of at))
      pub catching : KindCatching f g all (place_at at) kind part (before_at of at).active (made_at of at kind part).active

    pub said_captures : {at : ℕ} {kind : StepKind} {part : Part} → StepIs of at kind part → (d : ℕ) → is_captured d (said_at code at (state_before code (state_of place []) at)).marks ≡ is_captured d (part_said kind part (place_at at)).marks
    said_captures {at} {kind} {part} is d =
        let state = state_before code (state_of place []) at in
        let said = says_part kind part state is.fits in
        ap (λ (it : Said). is_captured d it.marks) (ap₂ (λ kind part. says_at kind part state) is.there is.part_there)
        ∙ ap (is_captured d) said.0
        ∙ captured_unbroken d (part_said kind part (place_at at)).marks

    formed_at : formed_statements block ≡ true → {at : ℕ} {kind : StepKind} {part : Part} → StepIs of at kind part → IsFormed kind part
    formed_at formed {at} {kind} {part} is =
        let step = step_there code.steps at is.within in
        let same : kind ≡ step.0.kind = same_Some kind step.0.kind (sym is.there ∙ ap (option_map (λ (it : Step). it.kind)) step.1) in
        subst (λ kind. IsFormed kind part) (sym same) (laid_formed code params names ahead block of.laid formed at step.0 part step.1 is.part_there)

    -- The words of a step capture what its marks do.
    step_captures_like : formed_statements block ≡ true → {at : ℕ} {kind : StepKind} {part : Part} (is : StepIs of at kind part) → StepComes at kind part →
        CapturesLike (said_at code at (state_before code (state_of place []) at)).marks (before_at of at).active (captured_between f (pcs of (suc at) - pcs of at) (pcs of at))
    step_captures_like formed {at} {kind} {part} is comes =
        let caught = kind_caught code (pcs of) kind part (before_at of at) (made_at of at kind part) (spot (made_at of at kind part)) is.fits (formed_at formed is) comes.catching is.stands in
        let between : captured_between f (pcs of (suc at) - pcs of at) (pcs of at) ≡ caught.registers = ap (λ next. captured_between f (next - pcs of at) (pcs of at)) (last_is of is) ∙ spans_between caught.spans in
        subst (λ (registers : List ℕ). CapturesLike (said_at code at (state_before code (state_of place []) at)).marks (before_at of at).active registers) (sym between)
        (λ register declaration one there declared. caught.like comes.rest comes.here register declaration one there declared ∙ sym (said_captures is declaration))

    -- they name registers of declared locals
    step_shown : formed_statements block ≡ true → {at : ℕ} {kind : StepKind} {part : Part} (is : StepIs of at kind part) → StepComes at kind part → Shown (before_at of at).active (captured_between f (pcs of (suc at) - pcs of at) (pcs of at))
    step_shown formed {at} {kind} {part} is comes =
        let caught = kind_caught code (pcs of) kind part (before_at of at) (made_at of at kind part) (spot (made_at of at kind part)) is.fits (formed_at formed is) comes.catching is.stands in
        subst (Shown (before_at of at).active) (sym (ap (λ next. captured_between f (next - pcs of at) (pcs of at)) (last_is of is) ∙ spans_between caught.spans)) caught.shown

    -- and so do those of a local function, with its own local
    pub own_captures_like : formed_statements block ≡ true → {at end : ℕ} {captured : Bool} {text : Text} {body : FunctionBody} (is : StepIs of at (StepKind.Declaration end captured) (statement_part (local_function text body))) →
        StepComes at (StepKind.Declaration end captured) (statement_part (local_function text body)) →
        CapturesLike (outline.statement_part 1 (local_function text body) (place_at at)).marks (made_at of at (StepKind.Declaration end captured) (statement_part (local_function text body))).active (captured_between f (pcs of (suc at) - pcs of at) (pcs of at))
    own_captures_like formed {at} {end} {captured} {text} {body} is comes =
        let kind = StepKind.Declaration end captured in
        let part = statement_part (local_function text body) in
        let made = made_at of at kind part in
        subst (CapturesLike (outline.statement_part 1 (local_function text body) (place_at at)).marks made.active) (sym (ap (λ next. captured_between f (next - pcs of at) (pcs of at)) (last_is of is)))
        (own_captured text (comes.catching.own end captured text body refl refl) body (and_right (is_name text) (formed_body body) (formed_at formed is)) (spot (before_at of at)) (spot made) is.stands comes.rest comes.here)

    -- the registers that a step captures, as the reader has it
    pub step_registers : (at : ℕ) (now behind : Situation) (draft : Drafted) → at < length code.steps → Begins of at now → step_at f at (pcs of at) now ≡ Some (draft, behind) → captured_by_step f at (pcs of at) now ≡ captured_between f (pcs of (suc at) - pcs of at) (pcs of at)
    step_registers at now behind draft less begins is = step_captures_between f at (pcs of at) now draft behind is ∙ ap (λ next. captured_between f (next - pcs of at) (pcs of at)) (step_next at now behind draft less begins is)

    -- no hidden local is captured
    pub steps_capture_no_hidden : formed_statements block ≡ true → ((at : ℕ) (kind : StepKind) (part : Part) → StepIs of at kind part → StepComes at kind part) → CapturesNoHidden of
    steps_capture_no_hidden formed comes at now behind draft less begins is register one there hidden =
        let step = step_is of at less in
        ap (has_register register) (step_registers at now behind draft less begins is) ∙ step_shown formed step.2 (comes at step.0 step.1 step.2) register one there hidden

    -- So it is with each step that is read.
    pub steps_capture_like : formed_statements block ≡ true → ((at : ℕ) (kind : StepKind) (part : Part) → StepIs of at kind part → StepComes at kind part) → StepsCaptureLike of place
    steps_capture_like formed comes at now behind draft less begins is =
        let step = step_is of at less in
        let registers : captured_by_step f at (pcs of at) now ≡ captured_between f (pcs of (suc at) - pcs of at) (pcs of at) =
        step_captures_between f at (pcs of at) now draft behind is ∙ ap (λ next. captured_between f (next - pcs of at) (pcs of at)) (step_next at now behind draft less begins is) in
        subst (λ (registers : List ℕ). CapturesLike (said_at code at (state_before code (state_of place []) at)).marks (before_at of at).active registers) (sym registers)
        (step_captures_like formed step.2 (comes at step.0 step.1 step.2))
