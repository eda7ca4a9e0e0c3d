-- The step of what is written needs no more levels than the source has room for, in the forms of fewest levels.
use Rattle.std.proofs.Common.{◌≡◌, ◌≤◌, ℕ, suc, true, List, length, sym, ap, ◌∙◌, subst, arith}
use Rattle.std.proofs.lemmas.Option.{same_Some}
use Rattle.std.specs.Prelude.{Option, Some, slice_get}
use Rattle.lua_num.specs.Bytes.{Text}
use Rattle.lua_tree.specs.Outline as outline
use Rattle.lua_tree.specs.Syntax.{Expressions, Statement, Statements, return_statement}
use Rattle.lua_tree.specs.WellFormed.{formed_statement}
use Rattle.core_expr.specs.Values.{Inner}
use Rattle.recover_expr.specs.Drafts.{Drafted, Part, condition_part, head_part, nothing_part, statement_part, values_part}
use Rattle.recover_expr.specs.Placing.{Steps}
use Rattle.recover_expr.specs.Situation.{Function}
use Rattle.recover_expr.specs.Testing.{negated_levels}
use Rattle.recover_expr.specs.declared.steps.Step.{Step}
use Rattle.recover_expr.specs.declared.steps.StepKind.{StepKind}
use Rattle.scheme.specs.Making.{Ahead, Maker}
use Rattle.scheme_stands.specs.Words.{Fn}
use Rattle.same_flow.specs.Written.{AreInRoom, ArePartsFormed, IsPartFormed, KindInRoom, NegatedInRoom}
use Rattle.same_flow.specs.Alike.{IsKindLike}
use Rattle.same_flow.specs.Performed.{part_at}
use Rattle.same_flow.specs.Space.{space_of_expressions, space_of_statement}
use Rattle.reads_back.specs.Assignments.{as_assignment}
use Rattle.reads_back.specs.Placed.{HasNegated}
use Rattle.reads_back.proofs.FlowRead.{PartRead, as_many, writing}
use Rattle.reads_back.proofs.FlowThere.{IsFlowFunction, StepIs, before_at, made_at, pcs}
use Rattle.reads_back.proofs.FunctionStatements.{assigned_formed, assigned_roomy}
use Rattle.reads_back.proofs.HeadsSame.{head_low}
use Rattle.reads_back.proofs.PartsCases.{ActThere, Cases, IsLoneKind, by_cases}
use Rattle.reads_back.proofs.PartsDeep.{test_negated}
use Rattle.reads_back.proofs.PlacedReads.{ArePlaced, placed_read}
use Rattle.reads_back.proofs.Rooms.{lean_room}
use Rattle.reads_back.proofs.TestedAs.{condition_word}
use Rattle.reads_back.proofs.TestsLow.{test_low}

-- ---- parts of steps

-- the step of a part is in its room where a path that a function goes to does not count, whether a function statement has it or an assignment
abbrev KindInLeanRoom : (levels : ℕ) → StepKind → Part → Type 0
KindInLeanRoom levels kind (statement_part s) = levels ≤ suc (lean_room (as_assignment s))
KindInLeanRoom levels kind part = KindInRoom levels kind part

-- whatever the kind of its step is
statement_room : (levels : ℕ) (kind : StepKind) (s : Statement) → levels ≤ suc (space_of_statement s) → KindInRoom levels kind (statement_part s)
statement_room levels (StepKind.Test when target negated) s low = low
statement_room levels kind s low = low

return_room : (levels : ℕ) (kind : StepKind) (es : Expressions) → levels ≤ suc (space_of_expressions es) → KindInRoom levels kind (values_part es)
return_room levels (StepKind.Test when target negated) es low = low
return_room levels kind es low = low

head_room : (levels : ℕ) (kind : StepKind) (es : Expressions) (texts : List Text) → levels ≤ suc (space_of_expressions es) → KindInRoom levels kind (head_part es texts)
head_room levels (StepKind.Test when target negated) es texts low = low
head_room levels kind es texts low = low

lean_in_room : (levels : ℕ) (kind : StepKind) (part : Part) → IsPartFormed part → KindInLeanRoom levels kind part → KindInRoom levels kind part
lean_in_room levels kind (statement_part s) formed low = statement_room levels kind s (omega (arith, low, assigned_roomy s formed.0))
lean_in_room levels kind part formed low = low

nothing_room : (levels : ℕ) (kind : StepKind) → KindInRoom levels kind nothing_part
nothing_room levels (StepKind.Test when target negated) = tt
nothing_room levels kind = tt

-- what has nothing written of it needs one level
lone_room : (levels : ℕ) (kind other : StepKind) (part : Part) → IsLoneKind kind → IsKindLike kind other → levels ≡ 1 → KindInRoom levels other part
lone_room levels kind other (statement_part s) is like one = statement_room levels other s (omega (arith, one))
lone_room levels kind other (values_part es) is like one = return_room levels other es (omega (arith, one))
lone_room levels kind other (head_part es names) is like one = head_room levels other es names (omega (arith, one))
lone_room levels kind other nothing_part is like one = nothing_room levels other
lone_room levels (StepKind.Jump target) other (condition_part e) is like one = subst (λ kind. KindInRoom levels kind (condition_part e)) (sym like) tt
lone_room levels (StepKind.Close from declared) other (condition_part e) is like one = subst (λ kind. KindInRoom levels kind (condition_part e)) (sym like) tt
lone_room levels (StepKind.Foot numeric target) other (condition_part e) is like one = subst (λ kind. KindInRoom levels kind (condition_part e)) (sym like) tt
lone_room levels kind other (condition_part e) is like one = absurd is

lone_lean : (levels : ℕ) (kind other : StepKind) (part : Part) → IsLoneKind kind → IsKindLike kind other → levels ≡ 1 → KindInLeanRoom levels other part
lone_lean levels kind other (statement_part s) is like one = omega (arith, one)
lone_lean levels kind other part is like one = lone_room levels kind other part is like one

module _ {f : Function} {g : Fn} {z : Maker} {lefts : ℕ → List (Option Inner)} {parts : ℕ → outline.Part} {code : Steps} {params names : List Text} {ahead : Ahead} {block : Statements} (of : IsFlowFunction f g z lefts parts code params names ahead block) where
  -- ---- in the forms of fewest levels

  module _ (short : f.short ≡ true) where
    abbrev Roomy : StepKind → Part → Drafted → Type 0
    Roomy kind part draft = IsPartFormed part → (other : StepKind) → IsKindLike kind other → HasNegated draft.kind other → KindInLeanRoom draft.levels other part

    -- a path that a function goes to does not count
    act_low : (at : ℕ) (s : Statement) (behind : ℕ) (draft : Drafted) → ActThere of at s behind draft → formed_statement s ≡ true → draft.levels ≤ suc (lean_room s)
    act_low at s behind draft act formed =
        let low = act.rewritten.low short formed (before_at of at) act.comes act.final in
        let levels = act.read.levels in
        omega (arith, low, levels)

    roomy_cases : Cases of Roomy
    roomy_cases = record {
      acts = λ at kind s behind draft is goes_on act formed other like negated. act_low at (as_assignment s) behind draft act (assigned_formed s formed.0);
      returns = λ at es behind draft act formed other like negated. return_room draft.levels other es (act_low at (return_statement es) behind draft act formed);
      tests = λ at target negated when e behind draft test formed other like has.
          let m = before_at of at in
          let room = test_low lefts test.made of.left.again (as_many of at) (length m.functions) behind when target m short e test.read.tested test.flow.has test.flow.shallow test.read.is formed test.comes test.final in
          let low = room.low in
          let levels = test.read.levels in
          let word = condition_word (writing f g lefts m) (length m.constants) (lefts (length m.functions)) test.read.tested in
          let is = test_negated of at target negated when when target like.0 e behind draft test (subst (HasNegated draft.kind) like.1 has) ∙ ap (negated_levels word.words) levels in
          subst (λ kind. KindInRoom draft.levels kind (condition_part e)) (sym like.1) (omega (arith, low, levels), subst (λ levels. NegatedInRoom levels e) (sym is) room.negated);
      heads = λ at foot end variables_end captured numeric es texts behind draft head formed other like negated.
          let low = head_low head.rewritten code foot end variables_end captured texts (before_at of at) head.comes head.final short formed.2 in
          let levels = head.read.levels in
          head_room draft.levels other es texts (omega (arith, low, levels));
      lones = λ at kind part draft is lone formed other like negated. lone_lean draft.levels kind other part is like lone.levels;
    }

    -- there is room for the step of one draft
    part_in_lean_room : {at : ℕ} (kind : StepKind) (part : Part) → StepIs of at kind part → (draft : Drafted) → PartRead f g lefts (before_at of at) (pcs of) kind part (length (made_at of at kind part).functions) draft →
        IsPartFormed part → (other : StepKind) → IsKindLike kind other → HasNegated draft.kind other → KindInLeanRoom draft.levels other part
    part_in_lean_room kind part is draft read = by_cases of Roomy roomy_cases kind part is draft read

    -- and for all steps, with the parts of the source
    parts_in_lean_room : ArePartsFormed code → (other : Steps) → ArePlaced of other → (at : ℕ) (step : Step) (part : Part) → slice_get other.steps at ≡ Some step → part_at code at ≡ Some part → KindInLeanRoom step.levels step.kind part
    parts_in_lean_room formed other are at step part there part_there =
        let one = placed_read of other are at step there in
        let read = one.read in
        let low = part_in_lean_room read.kind read.part read.is one.draft read.part_read (formed at read.part read.is.part_there) step.kind one.like one.negated in
        subst (KindInLeanRoom step.levels step.kind) (same_Some read.part part (sym read.is.part_there ∙ part_there)) (subst (λ levels. KindInLeanRoom levels step.kind read.part) (sym one.levels) low)

    pub parts_in_room : ArePartsFormed code → (other : Steps) → ArePlaced of other → AreInRoom (record code { steps = other.steps })
    parts_in_room formed other are at step part there part_there = lean_in_room step.levels step.kind part (formed at part part_there) (parts_in_lean_room formed other are at step part there part_there)
