-- A block whose statements have no blocks stands on steps that are all statements by themselves, so a plan stands there that needs no more levels than the block has room for.
use Rattle.std.proofs.Common.{◌≡◌, ◌∙◌, ℕ, suc, ◌+◌, ◌≤◌, Bool, true, false, List, [], ◌∷◌, length, None, Some, refl, sym, ap, subst, arith, inl, inr}
use Rattle.std.proofs.lemmas.Bool.{or_parts}
use Rattle.std.proofs.lemmas.Option.{same_Some}
use Rattle.std.specs.Prelude.{◌⊎◌, slice_get}
use Rattle.lua_tree.specs.Syntax as syntax
use Rattle.lua_tree.specs.Syntax.{Statements, no_statements, Statement, assignment, call_statement, function_statement, local_function, local_statement, return_statement, break_statement}
use Rattle.lua_tree.specs.WellFormed.{ends_block, formed_statement, formed_statements, may_follow}
use Rattle.recover_expr.specs.Drafts.{Part}
use Rattle.recover_expr.specs.Placing.{Steps}
use Rattle.recover_expr.specs.declared.steps.Step.{Step}
use Rattle.recover_expr.specs.declared.steps.StepKind.{StepKind}
use Rattle.recover_flow.specs.Acts.{ActsAreFound, ArePlain, IsPlain, plan_of, plans_of}
use Rattle.recover_flow.specs.Plans.{body_levels, levels_at, plan_levels}
use Rattle.reads_back.proofs.Tests.{first_of_both, second_of_both}
use Rattle.same_flow.specs.Laid.{ActLaid, BodyLaid, DeclarationLaid, HasStep, StatementLaid}
use Rattle.same_flow.specs.SameFlow.{begun_of}
use Rattle.same_flow.specs.Space.{has_block, has_blocks, space_of_statement, space_of_statements}
use Rattle.same_flow.specs.Written.{AreInRoom, KindInRoom}
use Rattle.scheme.specs.Making.{Maker}
use Rattle.scheme.specs.Scheme.{statement_made}
use Rattle.scheme.specs.Statements.{settle}
use Rattle.scheme.specs.declared.making.Active.{Active}
use Rattle.recovers.specs.Joined.{BlocklessStand}

module _ (code : Steps) (room : AreInRoom code) where
  -- the steps are so many
  abbrev count : ℕ
  count = length code.steps

  -- a step needs no more levels than its part has room for
  in_room : (active : List Active) (from : ℕ) (kind : StepKind) (part : Part) (laid : HasStep code active from kind part) → KindInRoom laid.0.step.levels kind part
  in_room active from kind part (is, there) = subst (λ kind. KindInRoom is.step.levels kind part) is.is (room from is.step part is.there there)

  -- a statement is one step, a plain one, or a return where it ends its block, and the step needs no more levels than the statement has room for
  record IsAlone (s : Statement) (from to : ℕ) : Type 0 where
    step : Step
    there : slice_get code.steps from ≡ Some step
    is : IsPlain count step.kind ⊎ ((ends_block s ≡ true) × (step.kind ≡ StepKind.Return))
    few : step.levels ≤ suc (space_of_statement s)
    next : to ≡ suc from

  -- an act is so
  act_alone : (s : Statement) (m : Maker) (from to : ℕ) → ActLaid code m s from to → IsAlone s from to
  act_alone s m from to laid = let is = laid.0.0 in record { step = is.step; there = is.there; is = inl (inl is.is); few = in_room m.active from _ _ laid.0; next = laid.1 }

  -- and a declaration
  declaration_alone : (s : Statement) (m : Maker) (from to : ℕ) → DeclarationLaid code m count s from to → IsAlone s from to
  declaration_alone s m from to laid = let is = laid.0.0 in record { step = is.step; there = is.there; is = inl (inr (_, is.is)); few = in_room m.active from _ _ laid.0; next = laid.1 }

  -- and so is each statement that has no blocks and stands in no loop
  is_alone : (s : Statement) (m : Maker) (from to : ℕ) → has_block s ≡ false → StatementLaid code None count s None m from to → IsAlone s from to
  is_alone (assignment targets es) m from to blockless laid = act_alone _ m from to laid
  is_alone (call_statement e) m from to blockless laid = act_alone _ m from to laid
  is_alone (function_statement path method body) m from to blockless laid = act_alone _ m from to laid
  is_alone (local_function name body) m from to blockless laid = declaration_alone _ m from to laid
  is_alone (local_statement names es) m from to blockless laid = declaration_alone _ m from to laid
  is_alone (return_statement es) m from to blockless laid =
      let is = laid.0.0 in record { step = is.step; there = is.there; is = inr (refl, is.is); few = in_room m.active from _ _ laid.0; next = laid.1 }
  is_alone break_statement m from to blockless laid = absurd laid
  is_alone s m from to blockless laid = cc

  -- with such a step before those of the statements behind it all are plain up to the last one: a return has none behind it
  are_plain : (s : Statement) (semi : Bool) (rest : Statements) (m : Maker) (from to : ℕ) (step : Step) (steps : List Step)
      → to ≡ from + length steps → may_follow s semi rest ≡ true → BodyLaid code None count rest None m from to
      → IsPlain count step.kind ⊎ ((ends_block s ≡ true) × (step.kind ≡ StepKind.Return)) → ArePlain count steps → ArePlain count (step ∷ steps)
  are_plain s semi rest m from to step [] end follows behind (inl plain) others = inl plain
  are_plain s semi rest m from to step [] end follows behind (inr (ends, returns)) others = inr returns
  are_plain s semi rest m from to step (next ∷ steps) end follows behind (inl plain) others = (plain, others)
  are_plain s semi no_statements m from to step (next ∷ steps) end follows behind (inr (ends, returns)) others = absurd (omega (arith, end, behind))
  are_plain s semi (syntax.statement line semi' s' rest) m from to step (next ∷ steps) end follows behind (inr (ends, returns)) others = cc

  -- a statement by itself needs the levels of its step
  levels_are : (kind : StepKind) (from : ℕ) (step : Step) → slice_get code.steps from ≡ Some step → plan_levels code.steps (plan_of kind from) ≡ step.levels
  levels_are StepKind.Return from step there = ap levels_at there
  levels_are kind from step there = ap levels_at there

  -- statements without blocks are plain steps, up to the last one, and need no more levels than they have room for
  are_alone : (block : Statements) (m : Maker) (from to : ℕ) (steps : List Step)
      → to ≡ from + length steps → ((number : ℕ) → slice_get code.steps (from + number) ≡ slice_get steps number)
      → has_blocks block ≡ false → formed_statements block ≡ true → BodyLaid code None count block None m from to
      → ArePlain count steps × (body_levels code.steps (plans_of from steps) ≤ space_of_statements block)
  are_alone no_statements m from to [] end there blockless formed laid = (tt, omega arith)
  are_alone no_statements m from to (step ∷ steps) end there blockless formed laid = absurd (omega (arith, laid, end))
  are_alone (syntax.statement line semi s rest) m from to [] end there blockless formed (on, mid, low, high, laid, behind) =
      let one = is_alone s m from mid (or_parts (has_block s) _ blockless).0 laid in absurd (omega (arith, one.next, high, end))
  are_alone (syntax.statement line semi s rest) m from to (step ∷ steps) end there blockless formed (on, mid, low, high, laid, behind) =
      let parts = or_parts (has_block s) _ blockless in
      let follows = second_of_both (formed_statement s) _ formed in
      let one = is_alone s m from mid parts.0 laid in
      let here : slice_get code.steps from ≡ Some step = let same : from ≡ from + 0 = omega arith in ap (slice_get code.steps) same ∙ there 0 in
      let same : one.step ≡ step = same_Some one.step step (sym one.there ∙ here) in
      let next : mid ≡ from + 1 = omega (arith, one.next) in
      let after : (number : ℕ) → slice_get code.steps (from + 1 + number) ≡ slice_get steps number =
      λ number. let same : from + 1 + number ≡ from + suc number = omega arith in ap (slice_get code.steps) same ∙ there (suc number) in
      let over : to ≡ from + 1 + length steps = omega (arith, end) in
      let laid_behind = subst (λ mid. BodyLaid code None count rest None (settle (statement_made s 1 None m)) mid to) next behind in
      let others = are_alone rest _ (from + 1) to steps over after parts.1 (second_of_both (may_follow s semi rest) _ follows) laid_behind in
      let levels = levels_are step.kind from step here in
      let needs = ap (λ (step : Step). step.levels) same in
      let is = subst (λ (step : Step). IsPlain count step.kind ⊎ ((ends_block s ≡ true) × (step.kind ≡ StepKind.Return))) same one.is in
      (are_plain s semi rest _ (from + 1) to step steps over (first_of_both (may_follow s semi rest) _ follows) laid_behind is others.0, omega (arith, levels, one.few, needs, others.1))

-- so a plan stands on all of them
pub blockless_stand : ActsAreFound → BlocklessStand
blockless_stand found code params names ahead block laid blockless formed room =
    let end : length code.steps ≡ 0 + length code.steps = omega arith in
    let there : (number : ℕ) → slice_get code.steps (0 + number) ≡ slice_get code.steps number = λ number. let same : 0 + number ≡ number = omega arith in ap (slice_get code.steps) same in
    let all = are_alone code room block (begun_of params names ahead) 0 (length code.steps) code.steps end there blockless formed laid in
    (plans_of 0 code.steps, (found code.steps all.0).0, all.1)
