-- What is built of a plan that lies is no deeper than the plan, where that needs no more levels than a tree may have.
use Rattle.std.proofs.Common.{◌≡◌, ℕ, suc, ◌+◌, ◌-◌, ◌≤◌, Bool, true, false, max, inl, inr, List, [], ◌∷◌, length, refl, sym, ap, ◌∙◌, arith, subst}
use Rattle.std.proofs.lemmas.Option.{none-some}
use Rattle.std.specs.Prelude.{Option, None, Some, option_map, option_and_then, slice_get, if◌then◌else◌}
use Rattle.lua_num.specs.Bytes.{Text}
use Rattle.lua_tree.specs.Joins.{join_statements}
use Rattle.lua_tree.specs.Syntax.{Statements, no_statements, statement, Statement, do_block, while_loop, repeat_loop, if_statement, numeric_for, generic_for, return_statement, break_statement, Branches, no_branches, branch, Otherwise, no_otherwise, otherwise, Expressions, no_expressions, expression}
use Rattle.lua_tree.specs.WellFormed.{depth_of_branches, depth_of_expressions, depth_of_otherwise, depth_of_statement, depth_of_statements, depth_of_step}
use Rattle.core_expr.specs.Counting.{one_more}
use Rattle.recover_expr.specs.Drafts.{Part, statement_part, values_part, head_part}
use Rattle.recover_expr.specs.Placing.{Steps}
use Rattle.recover_expr.specs.declared.steps.StepKind.{StepKind}
use Rattle.recover_flow.specs.Built.{built_end, in_block, step_of, counted_of, built_condition, built_from, built_plan, built_arms}
use Rattle.recover_flow.specs.Conditions.{ConditionTree, condition_levels}
use Rattle.recover_flow.specs.Joining.{Joined, condition_expression}
use Rattle.recover_flow.specs.Lying.{TestLies, StepLies, EndLies, captures_own, exit_to, BodyLies, PlanLies, ArmsLie, BlockLies}
use Rattle.recover_flow.specs.Parts.{begins_open, separated, take_statement, take_values, take_head, appended}
use Rattle.recover_flow.specs.Plans.{Plans, no_plans, and_plan, PlanTree, step_plan, end_plan, do_plan, for_plan, while_plan, repeat_plan, if_plan, ArmPlans, no_arms, last_arm, and_arm, levels_at, step_levels, end_levels, until_levels, tested_levels, ending_levels, body_levels, plan_levels, arm_levels}
use Rattle.recover_flow.specs.declared.plan.End.{End}
use Rattle.recover_flow.specs.declared.regions.Exit.{Exit}
use Rattle.same_flow.specs.Written.{ArePartsDeep, IsPartDeep}
use Rattle.built_flow.specs.BuiltWhole.{BuiltIsShallow}
use Rattle.built_flow.proofs.FormedBuilt.{of_block}
use Rattle.built_flow.proofs.PartsTaken.{AreOf, all_of, same_some, mapped, chained, statement_taken, values_taken, head_taken}
use Rattle.built_flow.proofs.ShallowConditions.{condition_shallow, tested_shallow}
use Rattle.built_flow.proofs.StepsTold.{stood}

-- ---- appended statements

join_depth : (before : Statements) (s : Statement) (most : ℕ) → depth_of_statements before ≤ most → suc (depth_of_statement s) ≤ most → depth_of_statements (join_statements before (statement 1 false s no_statements)) ≤ most
join_depth no_statements s most a b = omega arith
join_depth (statement line semi t rest) s most a b = let c = join_depth rest s most (omega arith) b in omega arith

separated_depth : (before : Statements) → depth_of_statements (separated before) ≡ depth_of_statements before
separated_depth no_statements = refl
separated_depth (statement line semi t no_statements) = refl
separated_depth (statement line semi t (statement next_line next_semi next rest)) = ap (λ n. max (1 + depth_of_statement t) n) (separated_depth (statement next_line next_semi next rest))

appended_depth : (before : Statements) (s : Statement) (most : ℕ) → depth_of_statements before ≤ most → suc (depth_of_statement s) ≤ most → depth_of_statements (appended before s) ≤ most
appended_depth before s most a b = by (begins_open s)
  where
    by : (apart : Bool) → depth_of_statements (join_statements (if apart then separated before else before) (statement 1 false s no_statements)) ≤ most
    by true = join_depth (separated before) s most (subst (λ n. n ≤ most) (sym (separated_depth before)) a) b
    by false = join_depth before s most a b

-- ---- levels of the parts

statement_deep : (levels : ℕ) (kind : StepKind) (s : Statement) → IsPartDeep levels kind (statement_part s) → suc (depth_of_statement s) ≤ levels
statement_deep levels (StepKind.Test when target negated) s deep = deep
statement_deep levels kind s deep = deep

values_deep : (levels : ℕ) (kind : StepKind) (es : Expressions) → IsPartDeep levels kind (values_part es) → suc (depth_of_expressions es) ≤ levels
values_deep levels (StepKind.Test when target negated) es deep = deep
values_deep levels kind es deep = deep

head_deep : (levels : ℕ) (kind : StepKind) (es : Expressions) (names : List Text) → IsPartDeep levels kind (head_part es names) → suc (depth_of_expressions es) ≤ levels
head_deep levels (StepKind.Test when target negated) es names deep = deep
head_deep levels kind es names deep = deep

-- ---- loops

step_depth : (es : Expressions) → depth_of_step (step_of es) ≤ depth_of_expressions es
step_depth no_expressions = omega arith
step_depth (expression e rest) = omega arith

counted_depth : (numeric : Bool) (names : List Text) (values : Expressions) (block : Statements) (most : ℕ) → depth_of_expressions values ≤ most → depth_of_statements block ≤ most →
    (s : Statement) → counted_of numeric names values block ≡ Some s → depth_of_statement s ≤ most
counted_depth true [] values block most a b s e = absurd (none-some s e)
counted_depth true (name ∷ names) no_expressions block most a b s e = absurd (none-some s e)
counted_depth true (name ∷ names) (expression first no_expressions) block most a b s e = absurd (none-some s e)
counted_depth true (name ∷ names) (expression first (expression last rest)) block most a b s e =
    let c = step_depth rest in
    subst (λ x. depth_of_statement x ≤ most) (same_some (numeric_for name first last (step_of rest) block) s e) (omega arith)
counted_depth false names values block most a b s e = subst (λ x. depth_of_statement x ≤ most) (same_some (generic_for names values block) s e) (omega arith)

-- ---- plans

pub record StatementShallow (code : Steps) (most : ℕ) (made : Statement × List Part) : Type 0 where
  pub depth : suc (depth_of_statement made.0) ≤ most
  pub left : AreOf code.parts made.1

pub record BodyShallow (code : Steps) (most : ℕ) (made : Statements × List Part) : Type 0 where
  pub depth : depth_of_statements made.0 ≤ most
  pub left : AreOf code.parts made.1

pub record ArmsShallow (code : Steps) (most : ℕ) (made : (Branches × Otherwise) × List Part) : Type 0 where
  pub branches : depth_of_branches made.0.0 ≤ most
  pub last : depth_of_otherwise made.0.1 ≤ most
  pub left : AreOf code.parts made.1

module _ (code : Steps) (deep : ArePartsDeep code) where
  -- what is built of a body where it lies, behind others
  abbrev pub BodyIsShallow : Plans → Type 0
  BodyIsShallow body =
      (exit : Option Exit) (ends from to most : ℕ) (before : Statements) (parts : List Part) → AreOf code.parts parts → depth_of_statements before ≤ most → BodyLies code.steps exit ends body from to →
      body_levels code.steps body ≤ most → most ≤ 200 → (made : Statements × List Part) → built_from before body parts ≡ Some made → BodyShallow code most made

  -- ---- statements

  taken_shallow : (step ends from to : ℕ) (parts : List Part) → AreOf code.parts parts → step ≡ from → StepLies code.steps ends from to → (made : Statement × List Part) → take_statement step parts ≡ Some made →
      StatementShallow code (step_levels code.steps step) made
  taken_shallow step ends from to parts of s (kind, is, own, t) made e =
      let x = statement_taken code.parts parts step of made e in
      let st = stood code.steps from kind is in
      let there : slice_get code.steps step ≡ Some st.step = ap (λ p. slice_get code.steps p) s ∙ st.there in
      record { depth = subst (λ o. suc (depth_of_statement made.0) ≤ levels_at o) (sym there) (statement_deep st.step.levels st.step.kind made.0 (deep step st.step (statement_part made.0) there x.is)); left = x.left }

  end_shallow : (exit : Option Exit) (end : End) (from to : ℕ) (parts : List Part) → AreOf code.parts parts → EndLies code.steps exit end from to → (made : Statement × List Part) → built_end end parts ≡ Some made →
      StatementShallow code (end_levels code.steps end) made
  end_shallow exit (End.Return step) from to parts of (s, is, t) made e =
      let m = mapped (λ taken. (return_statement taken.0, taken.1)) (take_values step parts) made e in
      let x = values_taken code.parts parts step of m.found m.there in
      let st = stood code.steps from StepKind.Return is in
      let there : slice_get code.steps step ≡ Some st.step = ap (λ p. slice_get code.steps p) s ∙ st.there in
      subst (λ (pair : Statement × List Part). StatementShallow code (step_levels code.steps step) pair) m.gives
      (record { depth = subst (λ o. suc (depth_of_expressions m.found.0) ≤ levels_at o) (sym there) (values_deep st.step.levels st.step.kind m.found.0 (deep step st.step (values_part m.found.0) there x.is)); left = x.left })
  end_shallow exit End.Break from to parts of lies made e = subst (λ (pair : Statement × List Part). StatementShallow code 1 pair) (same_some (break_statement, parts) made e) (record { depth = omega arith; left = of })

  enclosed_depth : (enclosed : Bool) (s : Statement) (own most : ℕ) → suc (depth_of_statement s) ≤ own → ending_levels enclosed own ≤ most → most ≤ 200 → suc (depth_of_statement (in_block enclosed s)) ≤ most
  enclosed_depth true s own most h k few = let d = appended_depth no_statements s own (omega arith) h in omega arith
  enclosed_depth false s own most h k few = omega arith

  do_shallow : (step : ℕ) (body : Plans) (exit : Option Exit) (ends from to most : ℕ) (parts : List Part) → AreOf code.parts parts → BodyIsShallow body → PlanLies code.steps exit ends (do_plan step body) from to →
      plan_levels code.steps (do_plan step body) ≤ most → most ≤ 200 → (made : Statement × List Part) → built_plan (do_plan step body) parts ≡ Some made → StatementShallow code most made
  do_shallow step body exit ends from to most parts of shallow (s, lies) h few made e =
      let c = chained (λ (taken : Statement × List Part). option_map (λ (kind : Statements × List Part). (do_block kind.0, kind.1)) (built_from (appended no_statements taken.0) body taken.1)) (take_statement step parts) made e in
      let m = mapped (λ (kind : Statements × List Part). (do_block kind.0, kind.1)) (built_from (appended no_statements c.found.0) body c.found.1) made c.gives in
      let inside : body_levels code.steps body ≤ most - 1 = omega arith in
      let own : one_more (step_levels code.steps step) ≤ most = omega arith in
      let b = of_block code.steps (captures_own code.steps (and_plan (step_plan step) body))
      (λ ends end. StepLies code.steps ends from (suc from) × (suc from ≤ end) × BodyLies code.steps exit ends body (suc from) end) from to
      (λ ends end whole.
      let x = taken_shallow step ends from (suc from) parts of s whole.0 c.found c.there in
      let d = x.depth in
      shallow exit ends (suc from) end (most - 1) (appended no_statements c.found.0) c.found.1 x.left (appended_depth no_statements c.found.0 (most - 1) (omega arith) (omega arith)) whole.2 inside (omega arith) m.found m.there) lies in
      let d = b.depth in
      subst (λ (pair : Statement × List Part). StatementShallow code most pair) m.gives (record { depth = omega arith; left = b.left })

  -- a block of its own
  inside_shallow : (body : Plans) (exit : Option Exit) (from to most : ℕ) (parts : List Part) → AreOf code.parts parts → BodyIsShallow body → BlockLies code.steps exit body from to →
      body_levels code.steps body ≤ most → most ≤ 200 → (made : Statements × List Part) → built_from no_statements body parts ≡ Some made → BodyShallow code most made
  inside_shallow body exit from to most parts of shallow lies h few made e =
      of_block code.steps (captures_own code.steps body) (λ ends end. BodyLies code.steps exit ends body from end) from to
      (λ ends end whole. shallow exit ends from end most no_statements parts of (omega arith) whole h few made e) lies

  for_shallow : (step : ℕ) (numeric : Bool) (body : Plans) (exit : Option Exit) (ends from to most : ℕ) (parts : List Part) → AreOf code.parts parts → BodyIsShallow body →
      PlanLies code.steps exit ends (for_plan step numeric body) from to → plan_levels code.steps (for_plan step numeric body) ≤ most → most ≤ 200 →
      (made : Statement × List Part) → built_plan (for_plan step numeric body) parts ≡ Some made → StatementShallow code most made
  for_shallow step numeric body exit ends from to most parts of shallow (s, (head, foot, variables_end, captured, is, kind, less, lies, ended, jumping, t)) h few made e =
      let c = chained (λ taken. option_and_then (λ made. option_map (λ kind. (kind, made.1)) (counted_of numeric taken.0.1 taken.0.0 made.0)) (built_from no_statements body taken.1)) (take_head step parts) made e in
      let d = chained (λ made. option_map (λ kind. (kind, made.1)) (counted_of numeric c.found.0.1 c.found.0.0 made.0)) (built_from no_statements body c.found.1) made c.gives in
      let m = mapped (λ kind. (kind, d.found.1)) (counted_of numeric c.found.0.1 c.found.0.0 d.found.0) made d.gives in
      let x = head_taken code.parts parts step of c.found c.there in
      let there : slice_get code.steps step ≡ Some head = ap (λ p. slice_get code.steps p) s ∙ is in
      let values = head_deep head.levels head.kind c.found.0.0 c.found.0.1 (deep step head (head_part c.found.0.0 c.found.0.1) there x.is) in
      let levels : step_levels code.steps step ≡ head.levels = ap levels_at there in
      let b = inside_shallow body (exit_to to head) (suc from) variables_end (most - 1) c.found.1 x.left shallow lies (omega arith) (omega arith) d.found d.there in
      let f = counted_depth numeric c.found.0.1 c.found.0.0 d.found.0 (most - 1) (omega arith) b.depth m.found m.there in
      subst (λ (pair : Statement × List Part). StatementShallow code most pair) m.gives (record { depth = omega arith; left = b.left })

  while_shallow : (condition : ConditionTree) (body : Plans) (exit : Option Exit) (ends from to most : ℕ) (parts : List Part) → AreOf code.parts parts → BodyIsShallow body →
      PlanLies code.steps exit ends (while_plan condition body) from to → plan_levels code.steps (while_plan condition body) ≤ most → most ≤ 200 →
      (made : Statement × List Part) → built_plan (while_plan condition body) parts ≡ Some made → StatementShallow code most made
  while_shallow condition body exit ends from to most parts of shallow (first, start, back, is, a, b, test_lies, lies, jumping, t) h few made e =
      let c = chained (λ (test : Joined). option_map (λ (kind : Statements × List Part). (while_loop test.0 kind.0, kind.1)) (built_from no_statements body test.1)) (condition_expression condition parts) made e in
      let m = mapped (λ (kind : Statements × List Part). (while_loop c.found.0 kind.0, kind.1)) (built_from no_statements body c.found.1) made c.gives in
      let levels = condition_levels code.steps condition in
      let own : one_more levels ≤ most = omega arith in
      let x = condition_shallow code deep condition false to from start parts of test_lies (omega arith) c.found c.there in
      let y = inside_shallow body (exit_to to first) start back (most - 1) c.found.1 x.left shallow lies (omega arith) (omega arith) m.found m.there in
      let p = x.depth in
      let q = y.depth in
      subst (λ (pair : Statement × List Part). StatementShallow code most pair) m.gives (record { depth = omega arith; left = y.left })

  until_tested : (condition : Option ConditionTree) (most : ℕ) → until_levels code.steps condition ≤ most → most ≤ 200 → tested_levels code.steps condition ≤ most - 1
  until_tested None most h few = omega arith
  until_tested (Some condition) most h few = omega arith

  repeat_shallow : (body : Plans) (condition : Option ConditionTree) (exit : Option Exit) (ends target from start tested most : ℕ) (parts : List Part) → AreOf code.parts parts → BodyIsShallow body →
      BodyLies code.steps exit ends body from start → TestLies code.steps condition target start tested → plan_levels code.steps (repeat_plan body condition) ≤ most → most ≤ 200 →
      (made : Statement × List Part) → built_plan (repeat_plan body condition) parts ≡ Some made → StatementShallow code most made
  repeat_shallow body condition exit ends target from start tested most parts of shallow lies test_lies h few made e =
      let c = chained (λ (kind : Statements × List Part). option_map (λ (test : Joined). (repeat_loop kind.0 test.0, test.1)) (built_condition condition kind.1)) (built_from no_statements body parts) made e in
      let m = mapped (λ (test : Joined). (repeat_loop c.found.0 test.0, test.1)) (built_condition condition c.found.1) made c.gives in
      let y = shallow exit ends from start (most - 1) no_statements parts of (omega arith) lies (omega arith) (omega arith) c.found c.there in
      let x = tested_shallow code deep condition target start tested (most - 1) c.found.1 y.left test_lies (until_tested condition most (omega arith) few) (omega arith) m.found m.there in
      let p = x.depth in
      let q = y.depth in
      subst (λ (pair : Statement × List Part). StatementShallow code most pair) m.gives (record { depth = omega arith; left = x.left })

  -- ---- arms

  arm_shallow : (condition : Option ConditionTree) (body : Plans) (rest : ArmPlans) (exit : Option Exit) (target from start last most : ℕ) (parts : List Part) → AreOf code.parts parts → BodyIsShallow body →
      TestLies code.steps condition target from start → BlockLies code.steps exit body start last →
      ((parts : List Part) → AreOf code.parts parts → (made : (Branches × Otherwise) × List Part) → built_arms rest parts ≡ Some made → ArmsShallow code most made) →
      tested_levels code.steps condition ≤ most → body_levels code.steps body ≤ most → most ≤ 200 →
      (made : (Branches × Otherwise) × List Part) → built_arms (and_arm condition body rest) parts ≡ Some made → ArmsShallow code most made
  arm_shallow condition body rest exit target from start last most parts of shallow test_lies lies others h k few made e =
      let c = chained (λ (test : Joined). option_and_then (λ (kind : Statements × List Part). option_map (λ (behind : (Branches × Otherwise) × List Part). ((branch test.0 kind.0 behind.0.0, behind.0.1), behind.1)) (built_arms rest kind.1))
      (built_from no_statements body test.1)) (built_condition condition parts) made e in
      let d = chained (λ (kind : Statements × List Part). option_map (λ (behind : (Branches × Otherwise) × List Part). ((branch c.found.0 kind.0 behind.0.0, behind.0.1), behind.1)) (built_arms rest kind.1))
      (built_from no_statements body c.found.1) made c.gives in
      let m = mapped (λ (behind : (Branches × Otherwise) × List Part). ((branch c.found.0 d.found.0 behind.0.0, behind.0.1), behind.1)) (built_arms rest d.found.1) made d.gives in
      let x = tested_shallow code deep condition target from start most parts of test_lies h few c.found c.there in
      let y = inside_shallow body exit start last most c.found.1 x.left shallow lies k few d.found d.there in
      let z = others d.found.1 y.left m.found m.there in
      let p = x.depth in
      let q = y.depth in
      let r = z.branches in
      subst (λ (pair : (Branches × Otherwise) × List Part). ArmsShallow code most pair) m.gives (record { branches = omega arith; last = z.last; left = z.left })

  none_shallow : (most : ℕ) (parts : List Part) → AreOf code.parts parts → (made : (Branches × Otherwise) × List Part) → built_arms no_arms parts ≡ Some made → ArmsShallow code most made
  none_shallow most parts of made e =
      subst (λ (pair : (Branches × Otherwise) × List Part). ArmsShallow code most pair) (same_some ((no_branches, no_otherwise), parts) made e) (record { branches = omega arith; last = omega arith; left = of })

  mutual
    pub body_shallow : (plans : Plans) → BodyIsShallow plans
    body_shallow no_plans exit ends from to most before parts of d lies h few made e =
        subst (λ (pair : Statements × List Part). BodyShallow code most pair) (same_some (before, parts) made e) (record { depth = d; left = of })
    body_shallow (and_plan plan rest) exit ends from to most before parts of d (mid, less, a, plan_lies, lies) h few made e =
        let c = chained (λ (kind : Statement × List Part). built_from (appended before kind.0) rest kind.1) (built_plan plan parts) made e in
        let x = plan_shallow plan exit ends from mid most parts of plan_lies (omega arith) (omega arith) few c.found c.there in
        body_shallow rest exit ends mid to most (appended before c.found.0) c.found.1 x.left (appended_depth before c.found.0 most d x.depth) lies (omega arith) few made c.gives

    plan_shallow : (plan : PlanTree) (exit : Option Exit) (ends from to most : ℕ) (parts : List Part) → AreOf code.parts parts → PlanLies code.steps exit ends plan from to → plan_levels code.steps plan ≤ most → 1 ≤ most → most ≤ 200 →
        (made : Statement × List Part) → built_plan plan parts ≡ Some made → StatementShallow code most made
    plan_shallow (step_plan step) exit ends from to most parts of lies h some few made e =
        let x = taken_shallow step ends from to parts of lies.0 lies.1 made e in
        let d = x.depth in
        record { depth = omega arith; left = x.left }
    plan_shallow (end_plan end enclosed) exit ends from to most parts of lies h some few made e =
        let m = mapped (λ (kind : Statement × List Part). (in_block enclosed kind.0, kind.1)) (built_end end parts) made e in
        let x = end_shallow exit end from to parts of lies m.found m.there in
        subst (λ (pair : Statement × List Part). StatementShallow code most pair) m.gives (record { depth = enclosed_depth enclosed m.found.0 (end_levels code.steps end) most x.depth h few; left = x.left })
    plan_shallow (do_plan step body) exit ends from to most parts of lies h some few made e =
        do_shallow step body exit ends from to most parts of (λ exit ends from to most before parts of d lies h few made e. body_shallow body exit ends from to most before parts of d lies h few made e) lies h few made e
    plan_shallow (for_plan step numeric body) exit ends from to most parts of lies h some few made e =
        for_shallow step numeric body exit ends from to most parts of (λ exit ends from to most before parts of d lies h few made e. body_shallow body exit ends from to most before parts of d lies h few made e) lies h few made e
    plan_shallow (while_plan condition body) exit ends from to most parts of lies h some few made e =
        while_shallow condition body exit ends from to most parts of (λ exit ends from to most before parts of d lies h few made e. body_shallow body exit ends from to most before parts of d lies h few made e) lies h few made e
    plan_shallow (repeat_plan body condition) exit ends from to most parts of (first, start, is, a, inl (b, uncaptured, lies, test_lies)) h some few made e =
        repeat_shallow body condition (exit_to to first) to from from start to most parts of (λ exit ends from to most before parts of d lies h few made e. body_shallow body exit ends from to most before parts of d lies h few made e)
        lies test_lies h few made e
    plan_shallow (repeat_plan body condition) exit ends from to most parts of (first, start, is, a, inr (tested, b, is_captured, lies, test_lies, closing)) h some few made e =
        repeat_shallow body condition (exit_to to first) (tested + 2) (tested + 2) from start tested most parts of (λ exit ends from to most before parts of d lies h few made e. body_shallow body exit ends from to most before parts of d lies h few made e)
        lies test_lies h few made e
    plan_shallow (if_plan arms) exit ends from to most parts of lies h some few made e =
        let m = mapped (λ (all : (Branches × Otherwise) × List Part). (if_statement all.0.0 all.0.1, all.1)) (built_arms arms parts) made e in
        let x = arms_shallow arms exit from to (most - 1) parts of lies (omega arith) (omega arith) m.found m.there in
        let p = x.branches in
        let q = x.last in
        subst (λ (pair : Statement × List Part). StatementShallow code most pair) m.gives (record { depth = omega arith; left = x.left })

    arms_shallow : (arms : ArmPlans) (exit : Option Exit) (from to most : ℕ) (parts : List Part) → AreOf code.parts parts → ArmsLie code.steps exit arms from to → arm_levels code.steps arms ≤ most → most ≤ 200 →
        (made : (Branches × Otherwise) × List Part) → built_arms arms parts ≡ Some made → ArmsShallow code most made
    arms_shallow no_arms exit from to most parts of lies h few made e = none_shallow most parts of made e
    arms_shallow (last_arm body) exit from to most parts of (a, lies) h few made e =
        let m = mapped (λ (kind : Statements × List Part). ((no_branches, otherwise kind.0), kind.1)) (built_from no_statements body parts) made e in
        let y = inside_shallow body exit from to most parts of (λ exit ends from to most before parts of d lies h few made e. body_shallow body exit ends from to most before parts of d lies h few made e) lies h few m.found m.there in
        subst (λ (pair : (Branches × Otherwise) × List Part). ArmsShallow code most pair) m.gives (record { branches = omega arith; last = y.depth; left = y.left })
    arms_shallow (and_arm condition body no_arms) exit from to most parts of (start, a, b, test_lies, lies) h few made e =
        arm_shallow condition body no_arms exit to from start to most parts of (λ exit ends from to most before parts of d lies h few made e. body_shallow body exit ends from to most before parts of d lies h few made e) test_lies lies
        (λ parts of made e. none_shallow most parts of made e) (omega arith) (omega arith) few made e
    arms_shallow (and_arm condition body (last_arm other)) exit from to most parts of (start, last, a, b, c, test_lies, lies, jumping, rest_lies) h few made e =
        arm_shallow condition body (last_arm other) exit (suc last) from start last most parts of (λ exit ends from to most before parts of d lies h few made e. body_shallow body exit ends from to most before parts of d lies h few made e)
        test_lies lies (λ parts of made e. arms_shallow (last_arm other) exit (suc last) to most parts of rest_lies (omega arith) few made e) (omega arith) (omega arith) few made e
    arms_shallow (and_arm condition body (and_arm next other rest)) exit from to most parts of (start, last, a, b, c, test_lies, lies, jumping, rest_lies) h few made e =
        arm_shallow condition body (and_arm next other rest) exit (suc last) from start last most parts of (λ exit ends from to most before parts of d lies h few made e. body_shallow body exit ends from to most before parts of d lies h few made e)
        test_lies lies (λ parts of made e. arms_shallow (and_arm next other rest) exit (suc last) to most parts of rest_lies (omega arith) few made e) (omega arith) (omega arith) few made e

-- what is built is no deeper than the plan
pub built_is_shallow : BuiltIsShallow
built_is_shallow code have deep plans lies few block behind e =
    (body_shallow code deep plans None (length code.steps) 0 (length code.steps) (body_levels code.steps plans) no_statements code.parts (all_of code.parts) (omega arith) lies (omega arith) few (block, behind) e).depth
