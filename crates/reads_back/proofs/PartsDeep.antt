-- The step of what is written has levels enough for it, and a test those that its negation needs.
use Rattle.std.proofs.Common.{◌≡◌, ◌≤◌, ◌+◌, ℕ, suc, Bool, true, false, List, length, sym, ap, ◌∙◌, subst, arith}
use Rattle.std.proofs.lemmas.Option.{same_Some}
use Rattle.std.specs.Prelude.{Option, if◌then◌else◌}
use Rattle.lua_num.specs.Bytes.{Text}
use Rattle.lua_tree.specs.Outline as outline
use Rattle.lua_tree.specs.Syntax.{Expression, Expressions, Statement, Statements, binary_expression, return_statement}
use Rattle.lua_tree.specs.WellFormed.{depth_of_expression, depth_of_statement}
use Rattle.core_expr.specs.Counting.{one_more}
use Rattle.core_expr.specs.Values.{Inner}
use Rattle.recover_expr.specs.Drafts.{Drafted, Part, nothing_part, statement_part, values_part}
use Rattle.recover_expr.specs.Placing.{Steps}
use Rattle.recover_expr.specs.Situation.{Function}
use Rattle.recover_expr.specs.Testing.{is_equality, negated_levels}
use Rattle.recover_expr.specs.declared.draft.DraftKind.{DraftKind}
use Rattle.recover_expr.specs.declared.steps.StepKind.{StepKind}
use Rattle.scheme.specs.Making.{Ahead, Maker}
use Rattle.scheme_stands.specs.Words.{Fn}
use Rattle.same_flow.specs.Written.{ArePartsDeep, IsPartDeep}
use Rattle.same_flow.specs.Alike.{IsKindLike}
use Rattle.reads_back.specs.Acted.{act_statement}
use Rattle.reads_back.specs.Assignments.{as_assignment}
use Rattle.reads_back.specs.Placed.{AreLevelled, HasNegated, IsLevelled}
use Rattle.reads_back.specs.ReadAs.{part_of}
use Rattle.reads_back.proofs.Deeper.{some_depth}
use Rattle.reads_back.proofs.FlowActs.{part_stays}
use Rattle.reads_back.proofs.FlowRead.{PartRead, writing}
use Rattle.reads_back.proofs.FlowThere.{IsFlowFunction, StepIs, before_at, made_at, pcs}
use Rattle.reads_back.proofs.HeadValues.{head_wording}
use Rattle.reads_back.proofs.HeadsFormed.{head_shallow}
use Rattle.reads_back.proofs.PartsCases.{ActThere, Cases, HeadThere, IsActKind, IsLoneKind, TestThere, by_cases}
use Rattle.reads_back.proofs.PartsFormed.{returned_holds}
use Rattle.reads_back.proofs.PlacedReads.{ArePlaced, placed_read}
use Rattle.reads_back.proofs.ActsKnown.{written_ends, written_shallow}
use Rattle.reads_back.proofs.TestedAs.{condition_word}
use Rattle.reads_back.proofs.WrittenFormed.{condition_fine}

-- ---- parts of steps

-- whatever the kind of its step is
deep_statement : (levels : ℕ) (kind : StepKind) (s : Statement) → suc (depth_of_statement s) ≤ levels → IsPartDeep levels kind (statement_part s)
deep_statement levels (StepKind.Test when target negated) s low = low
deep_statement levels kind s low = low

deep_nothing : (levels : ℕ) (kind : StepKind) → IsPartDeep levels kind nothing_part
deep_nothing levels (StepKind.Test when target negated) = tt
deep_nothing levels kind = tt

deep_return : (levels : ℕ) (kind : StepKind) (es : Expressions) → suc (depth_of_statement (return_statement es)) ≤ levels → IsPartDeep levels kind (values_part es)
deep_return levels (StepKind.Test when target negated) es low = low
deep_return levels kind es low = low

-- ---- where a test is negated

-- it needs no fewer levels, and two more at most
negated_between : (e : Expression) (levels : ℕ) → levels ≤ 1000 → (levels ≤ negated_levels e levels) × (negated_levels e levels ≤ levels + 2)
negated_between (binary_expression line op left right) levels few = by (is_equality op)
  where
    by : (equality : Bool) → (levels ≤ (if equality then levels else one_more (one_more levels))) × ((if equality then levels else one_more (one_more levels)) ≤ levels + 2)
    by true = (omega arith, omega arith)
    by false = (omega (arith, few), omega (arith, few))
negated_between e levels few = (omega (arith, few), omega (arith, few))

-- what is placed of a test has these levels
placed_negated : (when sense : Bool) (pc target levels : ℕ) (draft : DraftKind) (other : ℕ) → draft ≡ DraftKind.Test when pc levels → HasNegated draft (StepKind.Test sense target other) → other ≡ levels
placed_negated when sense pc target levels draft other is negated = subst (λ draft. HasNegated draft (StepKind.Test sense target other)) is negated

-- ---- kinds that are no tests

level_of_act : (levels : ℕ) (kind other : StepKind) → IsActKind kind → IsKindLike kind other → 1 ≤ levels → IsLevelled levels other
level_of_act levels StepKind.Act other is like low = subst (IsLevelled levels) (sym like) low
level_of_act levels (StepKind.Declaration end captured) other is like low = subst (IsLevelled levels) (sym like) low
level_of_act levels kind other is like low = absurd is

level_of_lone : (levels : ℕ) (kind other : StepKind) → IsLoneKind kind → IsKindLike kind other → 1 ≤ levels → IsLevelled levels other
level_of_lone levels (StepKind.Jump target) other is like low = subst (IsLevelled levels) (sym like) low
level_of_lone levels (StepKind.Close from declared) other is like low = subst (IsLevelled levels) (sym like) low
level_of_lone levels (StepKind.Foot numeric target) other is like low = subst (IsLevelled levels) (sym like) low
level_of_lone levels kind other is like low = absurd is

module _ {f : Function} {g : Fn} {z : Maker} {lefts : ℕ → List (Option Inner)} {parts : ℕ → outline.Part} {code : Steps} {params names : List Text} {ahead : Ahead} {block : Statements} (of : IsFlowFunction f g z lefts parts code params names ahead block) where
  -- ---- deep enough

  -- of a step that is placed of the draft
  abbrev Deep : StepKind → Part → Drafted → Type 0
  Deep kind part draft = (other : StepKind) → IsKindLike kind other → HasNegated draft.kind other → IsPartDeep draft.levels other draft.part

  act_deep : (at : ℕ) (s : Statement) (behind : ℕ) (draft : Drafted) (act : ActThere of at s behind draft) →
      suc (depth_of_statement (act_statement (writing f g lefts (before_at of at)) (length (before_at of at).constants) (lefts (length (before_at of at).functions)) act.read.acted)) ≤ draft.levels
  act_deep at s behind draft act =
      let m = before_at of at in
      let low = written_shallow act.made of.left s act.flow.is act.flow.shallow act.own (length m.functions) behind act.read.acted (length m.constants) act.read.is in
      let levels = act.read.levels in
      omega (arith, low, levels)

  test_few : (at target negated : ℕ) (when : Bool) (e : Expression) (behind : ℕ) (draft : Drafted) (test : TestThere of at target negated when e behind draft) →
      (condition_word (writing f g lefts (before_at of at)) (length (before_at of at).constants) (lefts (length (before_at of at).functions)) test.read.tested).levels ≤ 1000
  test_few at target negated when e behind draft test =
      let few = test.written.few in
      let flow = test.flow.shallow in
      omega (arith, few, flow)

  test_deep : (at target negated : ℕ) (when : Bool) (e : Expression) (behind : ℕ) (draft : Drafted) (test : TestThere of at target negated when e behind draft) →
      depth_of_expression (condition_word (writing f g lefts (before_at of at)) (length (before_at of at).constants) (lefts (length (before_at of at).functions)) test.read.tested).words ≤ draft.levels
  test_deep at target negated when e behind draft test =
      let m = before_at of at in
      let fine = condition_fine (writing f g lefts m) (length m.constants) (lefts (length m.functions)) (of.left.fine (length m.functions)) test.read.tested test.written.can in
      let low = fine.shallow (test_few at target negated when e behind draft test) in
      let levels = test.read.levels in
      omega (arith, low, levels)

  -- its step has the levels of where it is negated
  pub test_negated : (at target negated : ℕ) (when sense : Bool) (to other : ℕ) (e : Expression) (behind : ℕ) (draft : Drafted) (test : TestThere of at target negated when e behind draft) → HasNegated draft.kind (StepKind.Test sense to other) →
      other ≡ negated_levels (condition_word (writing f g lefts (before_at of at)) (length (before_at of at).constants) (lefts (length (before_at of at).functions)) test.read.tested).words draft.levels
  test_negated at target negated when sense to other e behind draft test has =
      let m = before_at of at in
      let word = condition_word (writing f g lefts m) (length m.constants) (lefts (length m.functions)) test.read.tested in
      placed_negated when sense (pcs of target) to (negated_levels word.words word.levels) draft.kind other test.read.negated has ∙ ap (negated_levels word.words) (sym test.read.levels)

  head_deep : (at foot end variables_end : ℕ) (captured numeric : Bool) (es : Expressions) (texts : List Text) (behind : ℕ) (draft : Drafted) (head : HeadThere of at foot end variables_end captured numeric es texts behind draft) →
      suc (depth_of_statement (return_statement (head_wording numeric (writing f g lefts (before_at of at)) (length (before_at of at).constants) (lefts (length (before_at of at).functions)) head.read.headed).words)) ≤ draft.levels
  head_deep at foot end variables_end captured numeric es texts behind draft head =
      let m = before_at of at in
      let n = length m.constants in
      let few = head.rewritten.few n in
      let flow = head.flow.shallow in
      let low = head_shallow (writing f g lefts m) numeric head.read.headed n (lefts (length m.functions)) (of.left.fine (length m.functions)) head.rewritten.can (omega (arith, few, flow)) in
      let levels = head.read.levels in
      omega (arith, low, levels)

  deep_cases : Cases of Deep
  deep_cases = record {
    acts = λ at kind s behind draft is goes_on act other like negated.
        let m = before_at of at in
        let t = act_statement (writing f g lefts m) (length m.constants) (lefts (length m.functions)) act.read.acted in
        let ends = written_ends act.made of.left (as_assignment s) act.flow.is act.flow.shallow act.own (length m.functions) behind act.read.acted (length m.constants) act.read.is ∙ goes_on in
        subst (IsPartDeep draft.levels other) (sym (act.read.part ∙ part_stays t ends)) (deep_statement draft.levels other t (act_deep at (as_assignment s) behind draft act));
    returns = λ at es behind draft act other like negated.
        let m = before_at of at in
        subst (IsPartDeep draft.levels other) (sym act.read.part)
        (returned_holds (λ t. IsPartDeep draft.levels other (part_of t)) (writing f g lefts m) (length m.constants) (lefts (length m.functions)) g m.active es (length m.functions) behind act.read.acted act.read.is
        (λ others same. deep_return draft.levels other others (subst (λ t. suc (depth_of_statement t) ≤ draft.levels) same (act_deep at (return_statement es) behind draft act))));
    tests = λ at target negated when e behind draft test other like has.
        subst (λ kind. IsPartDeep draft.levels kind draft.part) (sym like.1)
        (subst (IsPartDeep draft.levels (StepKind.Test when target like.0)) (sym test.read.part)
        (test_deep at target negated when e behind draft test, test_negated at target negated when when target like.0 e behind draft test (subst (HasNegated draft.kind) like.1 has)));
    heads = λ at foot end variables_end captured numeric es texts behind draft head other like negated.
        subst (λ kind. IsPartDeep draft.levels kind draft.part) (sym like) (subst (IsPartDeep draft.levels (StepKind.Head numeric foot end variables_end captured)) (sym head.read.part) (head_deep at foot end variables_end captured numeric es texts behind draft head));
    lones = λ at kind part draft is lone other like negated. subst (IsPartDeep draft.levels other) (sym lone.part) (deep_nothing draft.levels other);
  }

  -- the step that is placed of a draft has levels enough
  part_deep : {at : ℕ} (kind : StepKind) (part : Part) → StepIs of at kind part → (draft : Drafted) → PartRead f g lefts (before_at of at) (pcs of) kind part (length (made_at of at kind part).functions) draft →
      (other : StepKind) → IsKindLike kind other → HasNegated draft.kind other → IsPartDeep draft.levels other draft.part
  part_deep kind part is draft read = by_cases of Deep deep_cases kind part is draft read

  -- ---- where tests are negated

  abbrev Levelled : StepKind → Part → Drafted → Type 0
  Levelled kind part draft = (other : StepKind) → IsKindLike kind other → HasNegated draft.kind other → IsLevelled draft.levels other

  levelled_cases : Cases of Levelled
  levelled_cases = record {
    acts = λ at kind s behind draft is goes_on act other like negated. let low = act_deep at (as_assignment s) behind draft act in level_of_act draft.levels kind other is like (omega (arith, low));
    returns = λ at es behind draft act other like negated. let low = act_deep at (return_statement es) behind draft act in subst (IsLevelled draft.levels) (sym like) (omega (arith, low));
    tests = λ at target negated when e behind draft test other like has.
        let m = before_at of at in
        let word = condition_word (writing f g lefts m) (length m.constants) (lefts (length m.functions)) test.read.tested in
        let low = test_deep at target negated when e behind draft test in
        let levels = test.read.levels in
        let few = test_few at target negated when e behind draft test in
        let between = negated_between word.words draft.levels (omega (arith, levels, few)) in
        let up = between.0 in
        let down = between.1 in
        let is = test_negated at target negated when when target like.0 e behind draft test (subst (HasNegated draft.kind) like.1 has) in
        subst (IsLevelled draft.levels) (sym like.1) (omega (arith, low, some_depth word.words), omega (arith, is, up), omega (arith, is, down));
    heads = λ at foot end variables_end captured numeric es texts behind draft head other like negated.
        let low = head_deep at foot end variables_end captured numeric es texts behind draft head in
        subst (IsLevelled draft.levels) (sym like) (omega (arith, low));
    lones = λ at kind part draft is lone other like negated. let levels = lone.levels in level_of_lone draft.levels kind other is like (omega (arith, levels));
  }

  part_levelled : {at : ℕ} (kind : StepKind) (part : Part) → StepIs of at kind part → (draft : Drafted) → PartRead f g lefts (before_at of at) (pcs of) kind part (length (made_at of at kind part).functions) draft →
      (other : StepKind) → IsKindLike kind other → HasNegated draft.kind other → IsLevelled draft.levels other
  part_levelled kind part is draft read = by_cases of Levelled levelled_cases kind part is draft read

  -- ---- all steps

  -- the steps that are placed have levels enough for what is written
  pub parts_deep : (other : Steps) → ArePlaced of other → ArePartsDeep other
  parts_deep other are at step part there part_there =
      let one = placed_read of other are at step there in
      let read = one.read in
      let deep = part_deep read.kind read.part read.is one.draft read.part_read step.kind one.like one.negated in
      subst (IsPartDeep step.levels step.kind) (same_Some one.draft.part part (sym one.part ∙ part_there)) (subst (λ levels. IsPartDeep levels step.kind one.draft.part) (sym one.levels) deep)

  pub are_levelled : (other : Steps) → ArePlaced of other → AreLevelled other
  are_levelled other are at step there =
      let one = placed_read of other are at step there in
      let read = one.read in
      subst (λ levels. IsLevelled levels step.kind) (sym one.levels) (part_levelled read.kind read.part read.is one.draft read.part_read step.kind one.like one.negated)
