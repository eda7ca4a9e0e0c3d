-- What is built of formed parts by plans that lie keeps the rules of form, where ends without a `do` of their own are last and each `if` begins with an arm.
use Rattle.std.proofs.Common.{◌≡◌, ℕ, suc, ◌+◌, ◌≤◌, Bool, true, false, inl, inr, List, [], ◌∷◌, length, refl, ◌∙◌, subst}
use Rattle.std.proofs.lemmas.Bool.{and_from, and_parts}
use Rattle.std.proofs.lemmas.Option.{none-some}
use Rattle.std.specs.Prelude.{◌&&◌, Option, None, Some, option_map, option_and_then}
use Rattle.lua_num.specs.Bytes.{Text}
use Rattle.lua_tree.specs.Names.{is_name, are_names, are_some_names}
use Rattle.lua_tree.specs.Syntax.{Statements, no_statements, Statement, do_block, while_loop, repeat_loop, if_statement, numeric_for, generic_for, return_statement, break_statement, Branches, no_branches, branch, Otherwise, no_otherwise, otherwise, Expressions, no_expressions, expression}
use Rattle.lua_tree.specs.WellFormed.{ends_block, has_branches, has_expressions, formed_branches, formed_expression, formed_expressions, formed_otherwise, formed_statement, formed_statements, formed_step}
use Rattle.recover_expr.specs.Drafts.{Part, statement_part, values_part, head_part}
use Rattle.recover_expr.specs.Placing.{Steps}
use Rattle.recover_expr.specs.declared.steps.Step.{Step}
use Rattle.recover_flow.specs.Built.{built_end, in_block, step_of, numeric_of, counted_of, built_condition, built_from, built_plan, built_arms}
use Rattle.recover_flow.specs.Conditions.{ConditionTree}
use Rattle.recover_flow.specs.Joining.{Joined, condition_expression}
use Rattle.recover_flow.specs.Lying.{TestLies, StepLies, captures_own, IsBlock, exit_to, BodyLies, PlanLies, ArmsLie, BlockLies}
use Rattle.recover_flow.specs.Parts.{take_statement, take_values, take_head, appended}
use Rattle.recover_flow.specs.Plans.{Plans, no_plans, and_plan, PlanTree, step_plan, end_plan, do_plan, for_plan, while_plan, repeat_plan, if_plan, ArmPlans, no_arms, last_arm, and_arm}
use Rattle.recover_flow.specs.declared.plan.End.{End}
use Rattle.recover_flow.specs.declared.regions.Exit.{Exit}
use Rattle.same_flow.specs.Written.{ArePartsFormed, HaveParts}
use Rattle.built_flow.specs.BuiltWhole.{EndsLast, HasArm, ArePlansFormed, IsPlanFormed, AreArmsFormed, BuiltIsFormed}
use Rattle.built_flow.proofs.FormedAppended.{last_ends, appended_ends, appended_formed}
use Rattle.built_flow.proofs.FormedConditions.{condition_formed, until_formed}
use Rattle.built_flow.proofs.PartsTaken.{AreOf, all_of, same_some, mapped, chained, statement_taken, values_taken, head_taken}

-- ---- statements that others may follow

-- where plans are left, the last statement before them is no `return` and no `break`
abbrev pub MayGoOn : Statements → (behind : Plans) → Type 0
MayGoOn before no_plans = Unit {0}
MayGoOn before (and_plan plan rest) = last_ends before ≡ false

-- only an end without a `do` of its own is built to a `return` or a `break`
abbrev pub StaysOpen : PlanTree → Statement → Type 0
StaysOpen (end_plan end false) s = Unit {0}
StaysOpen plan s = ends_block s ≡ false

goes_on : (plan : PlanTree) (rest : Plans) (before : Statements) (s : Statement) → EndsLast plan rest → StaysOpen plan s → MayGoOn (appended before s) rest
goes_on plan no_plans before s last stays = tt
goes_on (end_plan end false) (and_plan next rest) before s last stays = absurd last
goes_on plan (and_plan next rest) before s last stays = appended_ends before s ∙ stays

none_before : (plans : Plans) → MayGoOn no_statements plans
none_before no_plans = tt
none_before (and_plan plan rest) = refl

-- what is so of the statements of a block, which lie up to its end or up to its CLOSE
pub of_block : {answer : Type 0} (steps : List Step) (captured : Bool) (lies : (ends end : ℕ) → Type 0) (from to : ℕ) → ((ends end : ℕ) → lies ends end → answer) → IsBlock steps captured lies from to → answer
of_block steps captured lies from to inside (inl (uncaptured, whole)) = inside to to whole
of_block steps captured lies from to inside (inr (end, t, order, is_captured, closing, whole)) = inside end end whole

-- ---- loops

step_formed : (es : Expressions) → formed_expressions es ≡ true → formed_step (step_of es) ≡ true
step_formed no_expressions formed = refl
step_formed (expression e rest) formed = (and_parts (formed_expression e) (formed_expressions rest) formed).0

first_name : (name : Text) (names : List Text) → are_some_names (name ∷ names) ≡ true → is_name name ≡ true
first_name name names e = (and_parts (is_name name) (are_names names) e).0

numeric_formed : (names : List Text) (values : Expressions) (block : Statements) → are_some_names names ≡ true → formed_expressions values ≡ true → formed_statements block ≡ true →
    (s : Statement) → numeric_of names values block ≡ Some s → (formed_statement s ≡ true) × (ends_block s ≡ false)
numeric_formed [] values block named formed inside s e = absurd (none-some s e)
numeric_formed (name ∷ names) no_expressions block named formed inside s e = absurd (none-some s e)
numeric_formed (name ∷ names) (expression first no_expressions) block named formed inside s e = absurd (none-some s e)
numeric_formed (name ∷ names) (expression first (expression last rest)) block named formed inside s e =
    let a = and_parts (formed_expression first) (formed_expression last && formed_expressions rest) formed in
    let b = and_parts (formed_expression last) (formed_expressions rest) a.1 in
    subst (λ x. (formed_statement x ≡ true) × (ends_block x ≡ false)) (same_some (numeric_for name first last (step_of rest) block) s e) (
      and_from (is_name name) (formed_expression first && (formed_expression last && (formed_step (step_of rest) && formed_statements block))) (first_name name names named)
          (and_from (formed_expression first) (formed_expression last && (formed_step (step_of rest) && formed_statements block)) a.0
          (and_from (formed_expression last) (formed_step (step_of rest) && formed_statements block) b.0
          (and_from (formed_step (step_of rest)) (formed_statements block) (step_formed rest b.1) inside))),
      refl,
    )

counted_formed : (numeric : Bool) (names : List Text) (values : Expressions) (block : Statements) → are_some_names names ≡ true → has_expressions values ≡ true → formed_expressions values ≡ true → formed_statements block ≡ true →
    (s : Statement) → counted_of numeric names values block ≡ Some s → (formed_statement s ≡ true) × (ends_block s ≡ false)
counted_formed true names values block named some formed inside s e = numeric_formed names values block named formed inside s e
counted_formed false names values block named some formed inside s e =
    subst (λ x. (formed_statement x ≡ true) × (ends_block x ≡ false)) (same_some (generic_for names values block) s e) (
      and_from (are_some_names names) (has_expressions values && (formed_expressions values && formed_statements block)) named
          (and_from (has_expressions values) (formed_expressions values && formed_statements block) some (and_from (formed_expressions values) (formed_statements block) formed inside)),
      refl,
    )

-- ---- plans

pub record StatementFormed (code : Steps) (plan : PlanTree) (made : Statement × List Part) : Type 0 where
  pub formed : formed_statement made.0 ≡ true
  pub stays : StaysOpen plan made.0
  pub left : AreOf code.parts made.1

pub record BodyFormed (code : Steps) (made : Statements × List Part) : Type 0 where
  pub formed : formed_statements made.0 ≡ true
  pub left : AreOf code.parts made.1

pub record ArmsFormed (code : Steps) (arms : ArmPlans) (made : (Branches × Otherwise) × List Part) : Type 0 where
  pub branches : formed_branches made.0.0 ≡ true
  pub last : formed_otherwise made.0.1 ≡ true
  pub some : HasArm arms → has_branches made.0.0 ≡ true
  pub left : AreOf code.parts made.1

module _ (code : Steps) (have : HaveParts code) (parts_formed : ArePartsFormed code) where
  -- what is built of a body where it lies, behind others
  abbrev pub BodyForms : Plans → Type 0
  BodyForms body =
      (exit : Option Exit) (ends from to : ℕ) (before : Statements) (parts : List Part) → AreOf code.parts parts → formed_statements before ≡ true → MayGoOn before body → BodyLies code.steps exit ends body from to →
      (made : Statements × List Part) → built_from before body parts ≡ Some made → BodyFormed code made

  -- ---- statements

  taken_formed : (step : ℕ) (parts : List Part) → AreOf code.parts parts → (made : Statement × List Part) → take_statement step parts ≡ Some made →
      (formed_statement made.0 ≡ true) × (ends_block made.0 ≡ false) × AreOf code.parts made.1
  taken_formed step parts of made e =
      let x = statement_taken code.parts parts step of made e in
      let p = parts_formed step (statement_part made.0) x.is in
      (p.0, p.1, x.left)

  end_formed : (end : End) (parts : List Part) → AreOf code.parts parts → (made : Statement × List Part) → built_end end parts ≡ Some made → (formed_statement made.0 ≡ true) × AreOf code.parts made.1
  end_formed (End.Return step) parts of made e =
      let m = mapped (λ taken. (return_statement taken.0, taken.1)) (take_values step parts) made e in
      let x = values_taken code.parts parts step of m.found m.there in
      subst (λ (pair : Statement × List Part). (formed_statement pair.0 ≡ true) × AreOf code.parts pair.1) m.gives (parts_formed step (values_part m.found.0) x.is, x.left)
  end_formed End.Break parts of made e = subst (λ (pair : Statement × List Part). (formed_statement pair.0 ≡ true) × AreOf code.parts pair.1) (same_some (break_statement, parts) made e) (refl, of)

  enclosed_end : (end : End) (enclosed : Bool) (s : Statement) (behind : List Part) → formed_statement s ≡ true → AreOf code.parts behind → StatementFormed code (end_plan end enclosed) (in_block enclosed s, behind)
  enclosed_end end true s behind formed of = record { formed = appended_formed no_statements s refl refl formed; stays = refl; left = of }
  enclosed_end end false s behind formed of = record { formed = formed; stays = tt; left = of }

  do_formed : (step : ℕ) (body : Plans) (exit : Option Exit) (ends from to : ℕ) (parts : List Part) → AreOf code.parts parts → BodyForms body → PlanLies code.steps exit ends (do_plan step body) from to →
      (made : Statement × List Part) → built_plan (do_plan step body) parts ≡ Some made → StatementFormed code (do_plan step body) made
  do_formed step body exit ends from to parts of forms (s, lies) made e =
      let c = chained (λ (taken : Statement × List Part). option_map (λ (kind : Statements × List Part). (do_block kind.0, kind.1)) (built_from (appended no_statements taken.0) body taken.1)) (take_statement step parts) made e in
      let m = mapped (λ (kind : Statements × List Part). (do_block kind.0, kind.1)) (built_from (appended no_statements c.found.0) body c.found.1) made c.gives in
      let x = taken_formed step parts of c.found c.there in
      let b = of_block code.steps (captures_own code.steps (and_plan (step_plan step) body))
      (λ ends end. StepLies code.steps ends from (suc from) × (suc from ≤ end) × BodyLies code.steps exit ends body (suc from) end) from to
      (λ ends end whole. forms exit ends (suc from) end (appended no_statements c.found.0) c.found.1 x.2 (appended_formed no_statements c.found.0 refl refl x.0) (goes_on (step_plan step) body no_statements c.found.0 tt x.1) whole.2 m.found m.there) lies in
      subst (λ (pair : Statement × List Part). StatementFormed code (do_plan step body) pair) m.gives (record { formed = b.formed; stays = refl; left = b.left })

  -- a block of its own
  inside_formed : (body : Plans) (exit : Option Exit) (from to : ℕ) (parts : List Part) → AreOf code.parts parts → BodyForms body → BlockLies code.steps exit body from to →
      (made : Statements × List Part) → built_from no_statements body parts ≡ Some made → BodyFormed code made
  inside_formed body exit from to parts of forms lies made e =
      of_block code.steps (captures_own code.steps body) (λ ends end. BodyLies code.steps exit ends body from end) from to
      (λ ends end whole. forms exit ends from end no_statements parts of refl (none_before body) whole made e) lies

  for_formed : (step : ℕ) (numeric : Bool) (body : Plans) (exit : Option Exit) (ends from to : ℕ) (parts : List Part) → AreOf code.parts parts → BodyForms body → PlanLies code.steps exit ends (for_plan step numeric body) from to →
      (made : Statement × List Part) → built_plan (for_plan step numeric body) parts ≡ Some made → StatementFormed code (for_plan step numeric body) made
  for_formed step numeric body exit ends from to parts of forms (s, (head, foot, variables_end, captured, is, kind, less, lies, ended, jumping, t)) made e =
      let c = chained (λ taken. option_and_then (λ made. option_map (λ kind. (kind, made.1)) (counted_of numeric taken.0.1 taken.0.0 made.0)) (built_from no_statements body taken.1)) (take_head step parts) made e in
      let d = chained (λ made. option_map (λ kind. (kind, made.1)) (counted_of numeric c.found.0.1 c.found.0.0 made.0)) (built_from no_statements body c.found.1) made c.gives in
      let m = mapped (λ kind. (kind, d.found.1)) (counted_of numeric c.found.0.1 c.found.0.0 d.found.0) made d.gives in
      let x = head_taken code.parts parts step of c.found c.there in
      let p = parts_formed step (head_part c.found.0.0 c.found.0.1) x.is in
      let b = inside_formed body (exit_to to head) (suc from) variables_end c.found.1 x.left forms lies d.found d.there in
      let f = counted_formed numeric c.found.0.1 c.found.0.0 d.found.0 p.0 p.1 p.2 b.formed m.found m.there in
      subst (λ (pair : Statement × List Part). StatementFormed code (for_plan step numeric body) pair) m.gives (record { formed = f.0; stays = f.1; left = b.left })

  while_formed : (condition : ConditionTree) (body : Plans) (exit : Option Exit) (ends from to : ℕ) (parts : List Part) → AreOf code.parts parts → BodyForms body → PlanLies code.steps exit ends (while_plan condition body) from to →
      (made : Statement × List Part) → built_plan (while_plan condition body) parts ≡ Some made → StatementFormed code (while_plan condition body) made
  while_formed condition body exit ends from to parts of forms (first, start, back, is, a, b, test_lies, lies, jumping, t) made e =
      let c = chained (λ (test : Joined). option_map (λ (kind : Statements × List Part). (while_loop test.0 kind.0, kind.1)) (built_from no_statements body test.1)) (condition_expression condition parts) made e in
      let m = mapped (λ (kind : Statements × List Part). (while_loop c.found.0 kind.0, kind.1)) (built_from no_statements body c.found.1) made c.gives in
      let x = condition_formed code have parts_formed condition false to from start parts of test_lies c.found c.there in
      let y = inside_formed body (exit_to to first) start back c.found.1 x.left forms lies m.found m.there in
      subst (λ (pair : Statement × List Part). StatementFormed code (while_plan condition body) pair) m.gives
      (record { formed = and_from (formed_expression c.found.0) (formed_statements m.found.0) x.formed y.formed; stays = refl; left = y.left })

  repeat_formed : (body : Plans) (condition : Option ConditionTree) (exit : Option Exit) (ends target from start tested : ℕ) (parts : List Part) → AreOf code.parts parts → BodyForms body → BodyLies code.steps exit ends body from start →
      MayGoOn no_statements body → TestLies code.steps condition target start tested → (made : Statement × List Part) → built_plan (repeat_plan body condition) parts ≡ Some made → StatementFormed code (repeat_plan body condition) made
  repeat_formed body condition exit ends target from start tested parts of forms lies goes test_lies made e =
      let c = chained (λ (kind : Statements × List Part). option_map (λ (test : Joined). (repeat_loop kind.0 test.0, test.1)) (built_condition condition kind.1)) (built_from no_statements body parts) made e in
      let m = mapped (λ (test : Joined). (repeat_loop c.found.0 test.0, test.1)) (built_condition condition c.found.1) made c.gives in
      let y = forms exit ends from start no_statements parts of refl goes lies c.found c.there in
      let x = until_formed code have parts_formed condition target start tested c.found.1 y.left test_lies m.found m.there in
      subst (λ (pair : Statement × List Part). StatementFormed code (repeat_plan body condition) pair) m.gives
      (record { formed = and_from (formed_statements c.found.0) (formed_expression m.found.0) y.formed x.formed; stays = refl; left = x.left })

  -- ---- arms

  arm_formed : (condition : Option ConditionTree) (body : Plans) (rest : ArmPlans) (exit : Option Exit) (target from start last : ℕ) (parts : List Part) → AreOf code.parts parts → BodyForms body →
      TestLies code.steps condition target from start → BlockLies code.steps exit body start last →
      ((parts : List Part) → AreOf code.parts parts → (made : (Branches × Otherwise) × List Part) → built_arms rest parts ≡ Some made → ArmsFormed code rest made) →
      (made : (Branches × Otherwise) × List Part) → built_arms (and_arm condition body rest) parts ≡ Some made → ArmsFormed code (and_arm condition body rest) made
  arm_formed condition body rest exit target from start last parts of forms test_lies lies others made e =
      let c = chained (λ (test : Joined). option_and_then (λ (kind : Statements × List Part). option_map (λ (behind : (Branches × Otherwise) × List Part). ((branch test.0 kind.0 behind.0.0, behind.0.1), behind.1)) (built_arms rest kind.1))
      (built_from no_statements body test.1)) (built_condition condition parts) made e in
      let d = chained (λ (kind : Statements × List Part). option_map (λ (behind : (Branches × Otherwise) × List Part). ((branch c.found.0 kind.0 behind.0.0, behind.0.1), behind.1)) (built_arms rest kind.1))
      (built_from no_statements body c.found.1) made c.gives in
      let m = mapped (λ (behind : (Branches × Otherwise) × List Part). ((branch c.found.0 d.found.0 behind.0.0, behind.0.1), behind.1)) (built_arms rest d.found.1) made d.gives in
      let x = until_formed code have parts_formed condition target from start parts of test_lies c.found c.there in
      let y = inside_formed body exit start last c.found.1 x.left forms lies d.found d.there in
      let z = others d.found.1 y.left m.found m.there in
      subst (λ (pair : (Branches × Otherwise) × List Part). ArmsFormed code (and_arm condition body rest) pair) m.gives (record {
        branches = and_from (formed_expression c.found.0) (formed_statements d.found.0 && formed_branches m.found.0.0) x.formed (and_from (formed_statements d.found.0) (formed_branches m.found.0.0) y.formed z.branches);
        last = z.last;
        some = λ h. refl;
        left = z.left;
      })

  none_formed : (parts : List Part) → AreOf code.parts parts → (made : (Branches × Otherwise) × List Part) → built_arms no_arms parts ≡ Some made → ArmsFormed code no_arms made
  none_formed parts of made e =
      subst (λ (pair : (Branches × Otherwise) × List Part). ArmsFormed code no_arms pair) (same_some ((no_branches, no_otherwise), parts) made e) (record { branches = refl; last = refl; some = λ h. absurd h; left = of })

  mutual
    pub body_formed : (plans : Plans) → ArePlansFormed plans → BodyForms plans
    body_formed no_plans planned exit ends from to before parts of formed goes lies made e =
        subst (λ (pair : Statements × List Part). BodyFormed code pair) (same_some (before, parts) made e) (record { formed = formed; left = of })
    body_formed (and_plan plan rest) planned exit ends from to before parts of formed goes (mid, less, a, plan_lies, lies) made e =
        let c = chained (λ (kind : Statement × List Part). built_from (appended before kind.0) rest kind.1) (built_plan plan parts) made e in
        let x = plan_formed plan planned.1 exit ends from mid parts of plan_lies c.found c.there in
        body_formed rest planned.2 exit ends mid to (appended before c.found.0) c.found.1 x.left (appended_formed before c.found.0 formed goes x.formed) (goes_on plan rest before c.found.0 planned.0 x.stays) lies made c.gives

    plan_formed : (plan : PlanTree) → IsPlanFormed plan → (exit : Option Exit) (ends from to : ℕ) (parts : List Part) → AreOf code.parts parts → PlanLies code.steps exit ends plan from to →
        (made : Statement × List Part) → built_plan plan parts ≡ Some made → StatementFormed code plan made
    plan_formed (step_plan step) planned exit ends from to parts of lies made e = let x = taken_formed step parts of made e in record { formed = x.0; stays = x.1; left = x.2 }
    plan_formed (end_plan end enclosed) planned exit ends from to parts of lies made e =
        let m = mapped (λ (kind : Statement × List Part). (in_block enclosed kind.0, kind.1)) (built_end end parts) made e in
        let x = end_formed end parts of m.found m.there in
        subst (λ (pair : Statement × List Part). StatementFormed code (end_plan end enclosed) pair) m.gives (enclosed_end end enclosed m.found.0 m.found.1 x.0 x.1)
    plan_formed (do_plan step body) planned exit ends from to parts of lies made e =
        do_formed step body exit ends from to parts of (λ exit ends from to before parts of formed goes lies made e. body_formed body planned exit ends from to before parts of formed goes lies made e) lies made e
    plan_formed (for_plan step numeric body) planned exit ends from to parts of lies made e =
        for_formed step numeric body exit ends from to parts of (λ exit ends from to before parts of formed goes lies made e. body_formed body planned exit ends from to before parts of formed goes lies made e) lies made e
    plan_formed (while_plan condition body) planned exit ends from to parts of lies made e =
        while_formed condition body exit ends from to parts of (λ exit ends from to before parts of formed goes lies made e. body_formed body planned exit ends from to before parts of formed goes lies made e) lies made e
    plan_formed (repeat_plan body condition) planned exit ends from to parts of (first, start, is, a, inl (b, uncaptured, lies, test_lies)) made e =
        repeat_formed body condition (exit_to to first) to from from start to parts of (λ exit ends from to before parts of formed goes lies made e. body_formed body planned exit ends from to before parts of formed goes lies made e)
        lies (none_before body) test_lies made e
    plan_formed (repeat_plan body condition) planned exit ends from to parts of (first, start, is, a, inr (tested, b, is_captured, lies, test_lies, closing)) made e =
        repeat_formed body condition (exit_to to first) (tested + 2) (tested + 2) from start tested parts of (λ exit ends from to before parts of formed goes lies made e. body_formed body planned exit ends from to before parts of formed goes lies made e)
        lies (none_before body) test_lies made e
    plan_formed (if_plan arms) planned exit ends from to parts of lies made e =
        let m = mapped (λ (all : (Branches × Otherwise) × List Part). (if_statement all.0.0 all.0.1, all.1)) (built_arms arms parts) made e in
        let x = arms_formed arms planned.1 exit from to parts of lies m.found m.there in
        subst (λ (pair : Statement × List Part). StatementFormed code (if_plan arms) pair) m.gives (record {
          formed = and_from (has_branches m.found.0.0) (formed_branches m.found.0.0 && formed_otherwise m.found.0.1) (x.some planned.0) (and_from (formed_branches m.found.0.0) (formed_otherwise m.found.0.1) x.branches x.last);
          stays = refl;
          left = x.left;
        })

    arms_formed : (arms : ArmPlans) → AreArmsFormed arms → (exit : Option Exit) (from to : ℕ) (parts : List Part) → AreOf code.parts parts → ArmsLie code.steps exit arms from to →
        (made : (Branches × Otherwise) × List Part) → built_arms arms parts ≡ Some made → ArmsFormed code arms made
    arms_formed no_arms planned exit from to parts of lies made e = none_formed parts of made e
    arms_formed (last_arm body) planned exit from to parts of (a, lies) made e =
        let m = mapped (λ (kind : Statements × List Part). ((no_branches, otherwise kind.0), kind.1)) (built_from no_statements body parts) made e in
        let y = inside_formed body exit from to parts of (λ exit ends from to before parts of formed goes lies made e. body_formed body planned exit ends from to before parts of formed goes lies made e) lies m.found m.there in
        subst (λ (pair : (Branches × Otherwise) × List Part). ArmsFormed code (last_arm body) pair) m.gives (record { branches = refl; last = y.formed; some = λ h. absurd h; left = y.left })
    arms_formed (and_arm condition body no_arms) planned exit from to parts of (start, a, b, test_lies, lies) made e =
        arm_formed condition body no_arms exit to from start to parts of (λ exit ends from to before parts of formed goes lies made e. body_formed body planned.0 exit ends from to before parts of formed goes lies made e) test_lies lies
        (λ parts of made e. none_formed parts of made e) made e
    arms_formed (and_arm condition body (last_arm other)) planned exit from to parts of (start, last, a, b, c, test_lies, lies, jumping, rest_lies) made e =
        arm_formed condition body (last_arm other) exit (suc last) from start last parts of (λ exit ends from to before parts of formed goes lies made e. body_formed body planned.0 exit ends from to before parts of formed goes lies made e) test_lies lies
        (λ parts of made e. arms_formed (last_arm other) planned.1 exit (suc last) to parts of rest_lies made e) made e
    arms_formed (and_arm condition body (and_arm next other rest)) planned exit from to parts of (start, last, a, b, c, test_lies, lies, jumping, rest_lies) made e =
        arm_formed condition body (and_arm next other rest) exit (suc last) from start last parts of (λ exit ends from to before parts of formed goes lies made e. body_formed body planned.0 exit ends from to before parts of formed goes lies made e) test_lies lies
        (λ parts of made e. arms_formed (and_arm next other rest) planned.1 exit (suc last) to parts of rest_lies made e) made e

-- what is built of formed parts is formed
pub built_is_formed : BuiltIsFormed
built_is_formed code have parts_formed plans planned lies block behind e =
    (body_formed code have parts_formed plans planned None (length code.steps) 0 (length code.steps) no_statements code.parts (all_of code.parts) refl (none_before plans) lies (block, behind) e).formed
