-- What is written of all steps of a function makes the same and says the same as its parts in the source.
use Rattle.std.proofs.Common.{◌≡◌, ℕ, Bool, true, false, List, length, refl, sym, ap, ◌∙◌, arith, subst}
use Rattle.std.proofs.lemmas.List.{length-map}
use Rattle.std.proofs.lemmas.Option.{none-some, same_Some, slice_get-map, slice_get_within}
use Rattle.std.specs.Prelude.{None, Option, Some, map, option_map, slice_get}
use Rattle.lua_num.specs.Bytes.{Text}
use Rattle.lua_tree.specs.Outline as outline
use Rattle.lua_tree.specs.Syntax.{Statements}
use Rattle.core_expr.specs.Values.{Inner}
use Rattle.recover_expr.specs.Drafts.{Drafted, Part, condition_part, head_part}
use Rattle.recover_expr.specs.Placing.{Steps}
use Rattle.recover_expr.specs.Situation.{Function}
use Rattle.recover_expr.specs.declared.steps.Step.{Step}
use Rattle.recover_expr.specs.declared.steps.StepKind.{StepKind}
use Rattle.scheme.specs.Making.{Ahead, Maker}
use Rattle.scheme_order.specs.Ordered.{ordered_block}
use Rattle.scheme_stands.specs.Words.{Fn}
use Rattle.same_flow.specs.Alike.{ArePartsLike, SayLike}
use Rattle.same_flow.specs.Performed.{kind_at, kind_made, names_in, part_at}
use Rattle.reads_back.proofs.FlowNext.{DraftRead}
use Rattle.reads_back.proofs.FlowRead.{PartRead}
use Rattle.reads_back.proofs.FlowThere.{IsFlowFunction, StepIs, before_at, few_before, made_at, pcs}
use Rattle.reads_back.proofs.AmongNames.{among_named}
use Rattle.reads_back.proofs.OrderedSteps.{KeptAt, laid_ordered}
use Rattle.reads_back.proofs.OrderedTests.{ordered_turns}
use Rattle.reads_back.proofs.PartsMake.{SameHeads, TestTurns, kind_made_same}
use Rattle.reads_back.proofs.PartsSay.{say_like}
use Rattle.reads_back.proofs.PlacedCaptures.{element_there}

module _ {f : Function} {g : Fn} {z : Maker} {lefts : ℕ → List (Option Inner)} {parts : ℕ → outline.Part} {code : Steps} {params names : List Text} {ahead : Ahead} {block : Statements} (of : IsFlowFunction f g z lefts parts code params names ahead block)
    (drafts : List Drafted) (as_many : length drafts ≡ length code.steps) (each : (at : ℕ) (draft : Drafted) → slice_get drafts at ≡ Some draft → DraftRead of at draft) where
  -- the parts of all drafts
  abbrev parts_read : List Part
  parts_read = map (λ (draft : Drafted). draft.part) drafts

  abbrev steps_read : Steps
  steps_read = record { params = params; steps = code.steps; parts = parts_read }

  part_is : (at : ℕ) → part_at steps_read at ≡ option_map (λ (draft : Drafted). draft.part) (slice_get drafts at)
  part_is at = slice_get-map (λ (draft : Drafted). draft.part) drafts at

  -- a head is written with the names of its variables
  head_names : (m : Maker) (foot end variables_end : ℕ) (captured : Bool) (part : Part) (behind : ℕ) (draft : Drafted) → PartRead f g lefts m (pcs of) (StepKind.Head false foot end variables_end captured) part behind draft → names_in (Some draft.part) ≡ names_in (Some part)
  head_names m foot end variables_end captured (head_part es texts) behind draft read = ap (λ part. names_in (Some part)) read.part
  head_names m foot end variables_end captured part behind draft read = absurd read

  heads_kept : SameHeads code steps_read
  heads_kept at foot end variables_end captured there = by (slice_get code.steps at) refl there
    where
      by : (found : Option Step) → slice_get code.steps at ≡ found → option_map (λ (step : Step). step.kind) found ≡ Some (StepKind.Head false foot end variables_end captured) → names_in (part_at steps_read at) ≡ names_in (part_at code at)
      by None found is = absurd (none-some _ is)
      by (Some step) found is =
          let within = slice_get_within code.steps at step found in
          let draft = element_there drafts at (omega (arith, within, as_many)) in
          let read = each at draft.0 draft.1 in
          let same : read.kind ≡ StepKind.Head false foot end variables_end captured = same_Some _ _ (sym read.is.there ∙ there) in
          ap names_in (part_is at ∙ ap (option_map (λ (draft : Drafted). draft.part)) draft.1)
          ∙ head_names (before_at of at) foot end variables_end captured read.part (length (made_at of at read.kind read.part).functions) draft.0 (subst (λ kind. PartRead f g lefts (before_at of at) (pcs of) kind read.part (length (made_at of at read.kind read.part).functions) draft.0) same read.part_read)
          ∙ sym (ap names_in read.is.part_there)

  -- a draft is read of a step of this kind with this part
  abbrev IsRead : (at : ℕ) → Drafted → StepKind → Part → Type 0
  IsRead at draft kind part = StepIs of at kind part × PartRead f g lefts (before_at of at) (pcs of) kind part (length (made_at of at kind part).functions) draft

  -- the draft with a part
  record DraftOf (at : ℕ) (kind : StepKind) (one two : Part) : Type 0 where
    draft : Drafted
    is : StepIs of at kind one
    part : draft.part ≡ two
    part_read : PartRead f g lefts (before_at of at) (pcs of) kind one (length (made_at of at kind one).functions) draft

  draft_of : (at : ℕ) (kind : StepKind) (one two : Part) → kind_at code.steps at ≡ Some kind → part_at code at ≡ Some one → part_at steps_read at ≡ Some two → DraftOf at kind one two
  draft_of at kind one two kind_is one_is two_is = by (slice_get drafts at) refl (sym (part_is at) ∙ two_is)
    where
      by : (found : Option Drafted) → slice_get drafts at ≡ found → option_map (λ (draft : Drafted). draft.part) found ≡ Some two → DraftOf at kind one two
      by None found is = absurd (none-some two is)
      by (Some draft) found is =
          let read = each at draft found in
          let both = subst (λ part. IsRead at draft kind part) (same_Some read.part one (sym read.is.part_there ∙ one_is)) (subst (λ kind. IsRead at draft kind read.part) (same_Some read.kind kind (sym read.is.there ∙ kind_is)) (read.is, read.part_read)) in
          record { draft = draft; is = both.0; part = same_Some draft.part two is; part_read = both.1 }

  -- where no names change places in a leaf that is written the other way round, all parts make the same and say the same
  parts_alike : length code.parts ≡ length code.steps → ((at : ℕ) (kind : StepKind) (part : Part) → StepIs of at kind part → TestTurns of at kind part) → ArePartsLike code steps_read params names ahead
  parts_alike count turns = record {
    steps = refl;
    count = length-map drafts (λ (draft : Drafted). draft.part) ∙ as_many ∙ sym count;
    make = λ at kind one two kind_is one_is two_is.
        let found = draft_of at kind one two kind_is one_is two_is in
        kind_made_same of steps_read heads_kept kind one found.is (turns at kind one found.is) found.draft found.part_read ∙ ap (λ part. kind_made steps_read kind part (before_at of at)) found.part;
    say = λ at kind one two kind_is one_is two_is.
        let found = draft_of at kind one two kind_is one_is two_is in
        subst (SayLike kind one) found.part (say_like of kind one found.is (turns at kind one found.is) found.draft found.part_read);
  }

  -- so where no local of the function changes places in the conditions
  module _ (keeps : ordered_block params block ≡ true) where
    ordered_turn : (at : ℕ) (kind : StepKind) (part : Part) → StepIs of at kind part → TestTurns of at kind part
    ordered_turn at kind part is = by kind part ((laid_ordered code of.plain params names ahead block of.laid keeps).each at kind part (omega arith) is.within is.there is.part_there)
      where
        by : (kind : StepKind) (part : Part) → KeptAt (before_at of at).active kind part → TestTurns of at kind part
        by (StepKind.Test when target levels) (condition_part e) kept =
            let less = is.within in
            let active = (before_at of at).active in
            ordered_turns g active (few_before of at (omega (arith, less))) of.made.names of.made.law kept.own (among_named kept.own active kept.among) (length (before_at of at).constants)
            (length (before_at of at).functions) (length (made_at of at (StepKind.Test when target levels) (condition_part e)).functions) e kept.keeps
        by kind part kept = tt

  pub ordered_alike : length code.parts ≡ length code.steps → ordered_block params block ≡ true → ArePartsLike code steps_read params names ahead
  ordered_alike count keeps = parts_alike count (ordered_turn keeps)
