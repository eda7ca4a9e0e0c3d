-- Each body that stands in the steps which are read of a function is built as a block that is like its own.
use Rattle.std.proofs.Common.{◌≡◌, ℕ, zero, ◌^◌, ◌<◌, ◌≤◌, suc, Bool, true, false, List, length, map, Option, Some, refl, sym, ap, arith, subst, if◌then◌else◌}
use Rattle.std.proofs.lemmas.Option.{slice_get_within}
use Rattle.lua_num.specs.Bytes.{Text}
use Rattle.lua_tree.specs.Outline as outline
use Rattle.lua_tree.specs.Syntax.{Statements}
use Rattle.lua_tree.specs.WellFormed.{depth_of_statements}
use Rattle.proto.specs.Chunk.{Chunk}
use Rattle.core_expr.specs.Values.{Inner}
use Rattle.recover_expr.specs.Drafts.{Drafted, Part}
use Rattle.recover_expr.specs.Placing.{Steps}
use Rattle.recover_expr.specs.declared.steps.StepKind.{StepKind}
use Rattle.recover_flow.specs.Acts.{ActsAreFound}
use Rattle.recover_flow.specs.Built.{built_body}
use Rattle.recover_flow.specs.Flow.{AtBeginning, FlowComesApart, FlowIsFound}
use Rattle.recover_flow.specs.Logic as logic
use Rattle.recover_flow.specs.Lying.{AreOrdered, WhatStandsLies}
use Rattle.recover_flow.specs.Plans.{Plans, body_levels}
use Rattle.recover_flow.specs.Searching.{whole_body}
use Rattle.recover_flow.specs.Standing.{BodyStands}
use Rattle.scheme.specs.Functions.{Heading}
use Rattle.scheme.specs.Making.{Ahead}
use Rattle.scheme_stands.specs.Words.{Names}
use Rattle.same_flow.specs.Alike.{ArePartsLike, AreStepsLike, LaidOnLikeSteps, MarksOnLikeParts, SameOnLikeParts}
use Rattle.same_flow.specs.Listed.{pc_of_step}
use Rattle.same_flow.specs.SameFlow.{AreLaid, HasPlainParts, begun_of}
use Rattle.same_flow.specs.Space.{around_body, flow_space, has_blocks, space_of_statements}
use Rattle.same_flow.specs.Told.{AreTold, LaidAreTold}
use Rattle.same_flow.specs.Written.{AreInRoom, ComparedOnOne, HaveParts}
use Rattle.same_flow.proofs.LikeTransports.{closes_like, like_again, parts_on_like, told_alike}
use Rattle.built_flow.proofs.CapturesKept.{highest_most}
use Rattle.built_flow.specs.BuiltLaid.{BuiltAreLaid, FewLocals}
use Rattle.built_flow.specs.BuiltWhole.{BuiltIsFormed, BuiltIsShallow, LyingIsBuilt, StandingIsFormed}
use Rattle.built_flow.specs.LaidLie.{LaidLie, LaidLies, around_of}
use Rattle.reads_back.specs.Placed as written
use Rattle.reads_back.proofs.FlowPlaced.{AreCapturedLike}
use Rattle.reads_back.proofs.FlowSteps.{have_words}
use Rattle.reads_back.proofs.FlowThere.{few_before}
use Rattle.reads_back.proofs.PartsAlikeRead.{ordered_alike}
use Rattle.reads_back.proofs.PartsDeep.{are_levelled, parts_deep}
use Rattle.reads_back.proofs.PartsFit.{parts_fit}
use Rattle.reads_back.proofs.PartsFormed.{parts_formed}
use Rattle.reads_back.proofs.PartsOnOne.{parts_on_one}
use Rattle.reads_back.proofs.PartsPlain.{parts_plain}
use Rattle.reads_back.proofs.PlainValues.{ArePlainLeft}
use Rattle.reads_back.proofs.PartsRoom.{parts_in_room}
use Rattle.reads_back.proofs.ActsKnown.{AreLeft}
use Rattle.recovers.specs.Joined.{IsFlowRead, IsLike}
use Rattle.recovers.proofs.Blockless.{blockless_stand}
use Rattle.recovers.proofs.FlowHere.{IsFlowHere, closes, code, each_part, f, g, is_told, laid, parts_count, plain, steps_there}
use Rattle.recovers.proofs.FlowStepsRead.{are_placed, drafts_read, flow, is_read, placed, steps, takes}
use Rattle.recovers.proofs.PlainBuilt.{built_is_plain}

-- the laws of the crates below
pub record FlowLaws : Type 0 where
  pub found : FlowIsFound
  pub apart : FlowComesApart
  pub lies : WhatStandsLies
  pub laid : BuiltAreLaid
  pub lie : LaidLie
  pub built : LyingIsBuilt
  pub formed : BuiltIsFormed
  pub standing : StandingIsFormed
  pub shallow : BuiltIsShallow
  pub told : LaidAreTold
  pub steps : LaidOnLikeSteps
  pub makes : SameOnLikeParts
  pub says : MarksOnLikeParts
  pub acts : ActsAreFound

-- ---- small ones

levelled : (levels : ℕ) (kind : StepKind) → written.IsLevelled levels kind → logic.IsLevelled levels kind
levelled levels (StepKind.Test when target negated) is = is
levelled levels kind is = tt

at_beginning : (params names : List Text) (ahead : Ahead) → AtBeginning (around_of params names ahead)
at_beginning params names ahead = (refl, omega (arith, highest_most 0 (begun_of params names ahead).active), λ register. refl)

-- where each step has a word, there are no more steps than words
steps_few : (pcs : ℕ → ℕ) (count : ℕ) → ((at : ℕ) → at < count → pcs at < pcs (suc at)) → count ≤ pcs count
steps_few pcs zero each = omega arith
steps_few pcs (suc count) each =
    let rest = steps_few pcs count (λ at less. each at (omega (arith, less))) in
    let last = each count (omega arith) in
    omega (arith, rest, last)

module _ (laws : FlowLaws) {n : Names} {heading : Heading} {params : List Text} {block : Statements} {names : List Text} {ahead : Ahead} {chunk : Chunk} (fewest : Bool) (of : IsFlowHere n heading params block names ahead chunk)
    {lefts : ℕ → List (Option Inner)} {parts : ℕ → outline.Part} (left : AreLeft (f fewest of) (g fewest of) lefts parts) (plain_left : (made : ℕ) → ArePlainLeft (lefts made))
    (captured : AreCapturedLike (flow fewest of left) (takes fewest of)) where
  -- ---- the steps of the source with those that are read

  abbrev mine : Steps
  mine = code fewest of

  abbrev there : Steps
  there = steps fewest of left captured

  abbrev parts_there : List Part
  parts_there = map (λ (draft : Drafted). draft.part) (drafts_read fewest of left).drafts

  like : AreStepsLike mine.steps there.steps
  like = (are_placed fewest of left captured).like

  -- its mine parts on the steps that are read
  abbrev mixed : Steps
  mixed = record mine { steps = there.steps }

  mixed_laid : AreLaid mixed params names ahead block
  mixed_laid = laws.steps mine there.steps like params names ahead block (laid fewest of)

  mixed_plain : HasPlainParts mixed
  mixed_plain = plain fewest of

  mixed_told : AreTold mixed params names ahead
  mixed_told = laws.told mixed mixed_plain params names ahead block mixed_laid

  -- ---- the parts that are read make and say the same

  alike : ArePartsLike mine (record mine { parts = parts_there }) params names ahead
  alike =
      let read = drafts_read fewest of left in
      subst (λ texts. ArePartsLike mine (record { params = texts; steps = mine.steps; parts = parts_there }) params names ahead) (sym (steps_there fewest of).1)
      (ordered_alike (flow fewest of left) read.drafts read.as_many read.each (parts_count fewest of) of.joined.ordered)

  mixed_alike : ArePartsLike mixed there params names ahead
  mixed_alike = subst (λ texts. ArePartsLike mixed (record { params = texts; steps = there.steps; parts = parts_there }) params names ahead) (steps_there fewest of).1 (parts_on_like mine there.steps like parts_there params names ahead alike)

  there_plain : HasPlainParts there
  there_plain = parts_plain (flow fewest of left) plain_left there (placed fewest of left captured)

  have_parts : HaveParts there
  have_parts = parts_fit (flow fewest of left) there (placed fewest of left captured)

  there_told : AreTold there params names ahead
  there_told = told_alike mixed there params names ahead mixed_alike have_parts mixed_told

  on_one : ComparedOnOne there
  on_one = parts_on_one (flow fewest of left) there (placed fewest of left captured)

  few : FewLocals there
  few at step is =
      let one = (like_again mine.steps there.steps like).each at step is in
      let base = one.2.base in
      let within = slice_get_within mine.steps at one.0 one.1 in
      let told = (laws.told mine (plain fewest of) params names ahead block (laid fewest of) at one.0 one.1).tells.base in
      let most = few_before (flow fewest of left) at (omega (arith, within)) in
      omega (arith, base, told, most)

  -- ---- each body that stands there

  count_few : length there.steps < 2 ^ 32
  count_few =
      let count = like.count in
      let words = steps_few (pc_of_step mine params names ahead) (length mine.steps) (have_words (flow fewest of left)) in
      let last = (flow fewest of left).last in
      let short = of.short in
      omega (arith, count, words, last, short)

  block_lies : LaidLies mixed params names ahead block
  block_lies = laws.lie mixed mixed_plain few params names ahead (closes_like mine there.steps like params names ahead (closes fewest of)) block of.joined.formed mixed_laid

  ordered : AreOrdered there.steps
  ordered = (laws.apart there.steps count_few (around_of params names ahead) block_lies.behind (at_beginning params names ahead) block_lies.flow block_lies.lies).0

  each_likes : (plans : Plans) → BodyStands there.steps (whole_body there.steps) plans → body_levels there.steps plans ≤ 200 → (written : Statements) × (behind : List Part) × (built_body plans there.parts ≡ Some (written, behind)) × IsLike params names ahead block written × (depth_of_statements written ≤ body_levels there.steps plans)
  each_likes plans stands low =
      let lies = laws.lies there.steps ordered plans stands in
      let built = laws.built there have_parts plans lies in
      let is_laid = laws.laid there there_plain on_one few params names ahead there_told plans lies built.0 built.1 built.2 in
      let shallow = laws.shallow there have_parts (parts_deep (flow fewest of left) there (placed fewest of left captured)) plans lies low built.0 built.1 built.2 in (
        built.0,
        built.1,
        built.2,
        record {
          formed = laws.formed there have_parts (parts_formed (flow fewest of left) there (placed fewest of left captured)) plans (laws.standing there.steps (whole_body there.steps) plans stands) lies built.0 built.1 built.2;
          shallow = omega (arith, shallow, low);
          plain = built_is_plain there there_plain plans built.0 built.1 built.2;
          makes = laws.makes mixed there params names ahead mixed_plain there_plain mixed_alike block built.0 mixed_laid is_laid;
          marks = λ place. (laws.says mixed there params names ahead mixed_alike block built.0 mixed_laid is_laid place).0;
          next = λ place. let said = laws.says mixed there params names ahead mixed_alike block built.0 mixed_laid is_laid place in (said.1, said.2);
        },
        shallow,
      )

  -- ---- in the forms of fewest levels one stands there

  in_room : fewest ≡ true → AreInRoom mixed
  in_room short =
      parts_in_room (flow fewest of left) short (λ at part there. (each_part fewest of at part there).formed) there (placed fewest of left captured)

  one_stands : fewest ≡ true → (plans : Plans) × BodyStands there.steps (whole_body there.steps) plans × (body_levels there.steps plans ≤ 200) × (body_levels there.steps plans ≤ around_body block (space_of_statements block))
  one_stands short = by (has_blocks block) refl
    where
      levels : ℕ
      levels = space_of_statements block

      OneStands : (high : ℕ) → Type 0
      OneStands high = (plans : Plans) × BodyStands there.steps (whole_body there.steps) plans × (body_levels there.steps plans ≤ 200) × (body_levels there.steps plans ≤ high)

      by : (has : Bool) → has_blocks block ≡ has → OneStands (around_body block levels)
      by true has =
          let around : around_body block levels ≡ flow_space block = ap (λ has. if has then flow_space block else levels) has in
          let room = of.joined.room in
          let most = block_lies.levels (in_room short) in
          let found =
          laws.found there.steps count_few (λ at step there_is. levelled step.levels step.kind (are_levelled (flow fewest of left) there (placed fewest of left captured) at step there_is)) (around_of params names ahead) block_lies.behind
          (at_beginning params names ahead) block_lies.flow block_lies.lies (omega (arith, most, room, around)) in
          let low = found.2 in
          (found.0, found.1, omega (arith, low, most, room, around), omega (arith, low, most, around))
      by false none =
          let around : around_body block levels ≡ levels = ap (λ has. if has then flow_space block else levels) none in
          let room = of.joined.room in
          let found = blockless_stand laws.acts mixed params names ahead block mixed_laid none of.joined.formed (in_room short) in
          (found.0, found.1, omega (arith, found.2, room, around), omega (arith, found.2, around))

  pub flow_is_read : IsFlowRead fewest chunk (lefts 0) params names ahead block
  flow_is_read = record { told = is_told fewest of; steps = there; read = is_read fewest of left captured; each = each_likes; stands = one_stands }

  -- with its parameters
  pub flow_params : flow_is_read.steps.params ≡ params
  unfolding flow_is_read
  flow_params = refl
