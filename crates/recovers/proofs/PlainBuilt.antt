-- What is built of plain parts is plain.
use Rattle.std.proofs.Common.{◌≡◌, ℕ, Bool, true, false, List, [], ◌∷◌, refl, subst}
use Rattle.std.proofs.lemmas.Bool.{and_from, and_parts}
use Rattle.std.proofs.lemmas.Option.{none-some}
use Rattle.std.specs.Prelude.{◌&&◌, if◌then◌else◌, Option, None, Some, option_map, option_and_then}
use Rattle.lua_num.specs.Bytes.{Text}
use Rattle.lua_tree.specs.Joins.{join_statements}
use Rattle.lua_tree.specs.Syntax.{Statements, no_statements, statement, Statement, do_block, while_loop, repeat_loop, if_statement, numeric_for, generic_for, return_statement, break_statement, Branches, no_branches, branch, Otherwise, no_otherwise, otherwise, Expressions, no_expressions, expression, Expression, true_literal, false_literal, and_expression, or_expression, binary_expression, unary_expression, parenthesized}
use Rattle.lua_tree.specs.declared.tree.BinaryOp.{BinaryOp}
use Rattle.lua_tree.specs.declared.tree.UnaryOp.{UnaryOp}
use Rattle.recover_expr.specs.Drafts.{Part, statement_part, values_part, condition_part, head_part}
use Rattle.recover_expr.specs.Placing.{Steps}
use Rattle.recover_flow.specs.Built.{built_arms, built_body, built_condition, built_end, built_from, built_plan, counted_of, in_block, numeric_of, step_of}
use Rattle.recover_flow.specs.Conditions.{ConditionTree, test_condition, true_condition, false_condition, joined_condition, Conditions, no_conditions, and_condition, is_enclosed}
use Rattle.recover_flow.specs.Joining.{Joined, condition_expression, first_joined, in_parentheses, joined_behind, joined_expression, negated_where, negation_of}
use Rattle.recover_flow.specs.Parts.{appended, begins_open, separated, take_condition, take_head, take_statement, take_values}
use Rattle.recover_flow.specs.Plans.{Plans, no_plans, and_plan, PlanTree, step_plan, end_plan, do_plan, for_plan, while_plan, repeat_plan, if_plan, ArmPlans, no_arms, last_arm, and_arm}
use Rattle.recover_flow.specs.declared.conditions.Junction.{Junction}
use Rattle.recover_flow.specs.declared.plan.End.{End}
use Rattle.scheme.specs.Shapes.{plain_branches, plain_comparison, plain_otherwise, plain_statement, plain_statements, plain_step, plain_values, plainness}
use Rattle.scheme.specs.Expressions.{is_comparison}
use Rattle.same_flow.specs.Renaming.{IsTested}
use Rattle.same_flow.specs.SameFlow.{HasPlainParts}
use Rattle.built_flow.proofs.PartsTaken.{AreOf, all_of, chained, condition_taken, head_taken, mapped, same_some, statement_taken, values_taken}

-- ---- conditions

compared : (compares parts : Bool) → (plain_comparison compares parts).value ≡ true → (plain_comparison compares parts).condition ≡ true
compared true parts plain = absurd (cc (plain))
compared false parts plain = plain

-- what is plain as a value is plain as a condition
condition_of_value : (e : Expression) → (plainness e).value ≡ true → (plainness e).condition ≡ true
condition_of_value (and_expression line left right) plain = absurd (cc (plain))
condition_of_value (or_expression line left right) plain = absurd (cc (plain))
condition_of_value (binary_expression line op left right) plain = compared (is_comparison op) ((plainness left).value && (plainness right).value) plain
condition_of_value (unary_expression line UnaryOp.Not e) plain = condition_of_value e plain
condition_of_value (unary_expression line op e) plain = plain
condition_of_value (parenthesized line e) plain = condition_of_value e plain
condition_of_value e plain = plain

condition_of_tested : (e : Expression) → IsTested e → (plainness e).condition ≡ true
condition_of_tested (binary_expression line op left right) tested = tested
condition_of_tested e tested = condition_of_value e tested

negation_plain : (e : Expression) → (plainness e).condition ≡ true → (plainness (negation_of e)).condition ≡ true
negation_plain (binary_expression line BinaryOp.Eq left right) plain = plain
negation_plain (binary_expression line op left right) plain = plain
negation_plain e plain = plain

where_negated : (negated : Bool) (e : Expression) → (plainness e).condition ≡ true → (plainness (negated_where negated e)).condition ≡ true
where_negated true e plain = negation_plain e plain
where_negated false e plain = plain

enclosed_plain : (enclosed : Bool) (e : Expression) → (plainness e).condition ≡ true → (plainness (in_parentheses enclosed e)).condition ≡ true
enclosed_plain true e plain = plain
enclosed_plain false e plain = plain

joined_plain : (junction : Junction) (left right : Expression) → (plainness left).condition ≡ true → (plainness right).condition ≡ true → (plainness (joined_expression junction left right)).condition ≡ true
joined_plain Junction.And left right a b = and_from (plainness left).condition (plainness right).condition a b
joined_plain Junction.Or left right a b = and_from (plainness left).condition (plainness right).condition a b

-- ---- statements

join_plain : (before others : Statements) → plain_statements before ≡ true → plain_statements others ≡ true → plain_statements (join_statements before others) ≡ true
join_plain no_statements others a b = b
join_plain (statement line semi s rest) others a b =
    let parts = and_parts (plain_statement s) (plain_statements rest) a in
    and_from (plain_statement s) (plain_statements (join_statements rest others)) parts.0 (join_plain rest others parts.1 b)

separated_plain : (before : Statements) → plain_statements before ≡ true → plain_statements (separated before) ≡ true
separated_plain no_statements plain = refl
separated_plain (statement line semi s no_statements) plain = plain
separated_plain (statement line semi s (statement next_line next_semi next rest)) plain =
    let behind = statement next_line next_semi next rest in
    let parts = and_parts (plain_statement s) (plain_statements behind) plain in
    and_from (plain_statement s) (plain_statements (separated behind)) parts.0 (separated_plain (statement next_line next_semi next rest) parts.1)

where_open : (apart : Bool) (before : Statements) → plain_statements before ≡ true → plain_statements (if apart then separated before else before) ≡ true
where_open true before plain = separated_plain before plain
where_open false before plain = plain

appended_plain : (before : Statements) (s : Statement) → plain_statements before ≡ true → plain_statement s ≡ true → plain_statements (appended before s) ≡ true
appended_plain before s a b =
    join_plain (if begins_open s then separated before else before) (statement 1 false s no_statements) (where_open (begins_open s) before a) (and_from (plain_statement s) true b refl)

-- ---- loops

step_plain : (es : Expressions) → plain_values es ≡ true → plain_step (step_of es) ≡ true
step_plain no_expressions plain = refl
step_plain (expression e rest) plain = (and_parts (plainness e).value (plain_values rest) plain).0

numeric_plain : (names : List Text) (values : Expressions) (block : Statements) → plain_values values ≡ true → plain_statements block ≡ true → (s : Statement) → numeric_of names values block ≡ Some s → plain_statement s ≡ true
numeric_plain [] values block plain inside s e = absurd (none-some s e)
numeric_plain (name ∷ names) no_expressions block plain inside s e = absurd (none-some s e)
numeric_plain (name ∷ names) (expression first no_expressions) block plain inside s e = absurd (none-some s e)
numeric_plain (name ∷ names) (expression first (expression last rest)) block plain inside s e =
    let a = and_parts (plainness first).value (plain_values (expression last rest)) plain in
    let b = and_parts (plainness last).value (plain_values rest) a.1 in
    let bounds = and_from (plainness first).value (plainness last).value a.0 b.0 in
    let heads = and_from ((plainness first).value && (plainness last).value) (plain_step (step_of rest)) bounds (step_plain rest b.1) in
    subst (λ x. plain_statement x ≡ true) (same_some (numeric_for name first last (step_of rest) block) s e) (and_from ((plainness first).value && (plainness last).value && plain_step (step_of rest)) (plain_statements block) heads inside)

counted_plain : (numeric : Bool) (names : List Text) (values : Expressions) (block : Statements) → plain_values values ≡ true → plain_statements block ≡ true → (s : Statement) → counted_of numeric names values block ≡ Some s → plain_statement s ≡ true
counted_plain true names values block plain inside s e = numeric_plain names values block plain inside s e
counted_plain false names values block plain inside s e = subst (λ x. plain_statement x ≡ true) (same_some (generic_for names values block) s e) (and_from (plain_values values) (plain_statements block) plain inside)

-- ---- what is built, and the parts that are left

record ConditionPlain (code : Steps) (made : Joined) : Type 0 where
  plain : (plainness made.0).condition ≡ true
  left : AreOf code.parts made.1

record StatementPlain (code : Steps) (made : Statement × List Part) : Type 0 where
  plain : plain_statement made.0 ≡ true
  left : AreOf code.parts made.1

record BodyPlain (code : Steps) (made : Statements × List Part) : Type 0 where
  plain : plain_statements made.0 ≡ true
  left : AreOf code.parts made.1

record ArmsPlain (code : Steps) (made : (Branches × Otherwise) × List Part) : Type 0 where
  branches : plain_branches made.0.0 ≡ true
  last : plain_otherwise made.0.1 ≡ true
  left : AreOf code.parts made.1

module _ (code : Steps) (parts_plain : HasPlainParts code) where
  -- ---- conditions

  mutual
    condition_plain : (condition : ConditionTree) (parts : List Part) → AreOf code.parts parts → (made : Joined) → condition_expression condition parts ≡ Some made → ConditionPlain code made
    condition_plain (test_condition step negated) parts of made e =
        let m = mapped (λ taken. (negated_where negated taken.0, taken.1)) (take_condition step parts) made e in
        let x = condition_taken code.parts parts step of m.found m.there in
        subst (λ (pair : Joined). ConditionPlain code pair) m.gives
        (record { plain = where_negated negated m.found.0 (condition_of_tested m.found.0 (parts_plain step (condition_part m.found.0) x.is)); left = x.left })
    condition_plain true_condition parts of made e = subst (λ (pair : Joined). ConditionPlain code pair) (same_some (true_literal 1, parts) made e) (record { plain = refl; left = of })
    condition_plain false_condition parts of made e = subst (λ (pair : Joined). ConditionPlain code pair) (same_some (false_literal 1, parts) made e) (record { plain = refl; left = of })
    condition_plain (joined_condition junction conditions) parts of made e = first_plain junction conditions parts of made e

    first_plain : (junction : Junction) (conditions : Conditions) (parts : List Part) → AreOf code.parts parts → (made : Joined) → first_joined junction conditions parts ≡ Some made → ConditionPlain code made
    first_plain junction no_conditions parts of made e = absurd (none-some made e)
    first_plain junction (and_condition first rest) parts of made e =
        let enclosed = is_enclosed junction true first in
        let c = chained (λ (taken : Joined). joined_behind junction rest (in_parentheses enclosed taken.0) taken.1) (condition_expression first parts) made e in
        let x = condition_plain first parts of c.found c.there in
        behind_plain junction rest (in_parentheses enclosed c.found.0) c.found.1 x.left (enclosed_plain enclosed c.found.0 x.plain) made c.gives

    behind_plain : (junction : Junction) (conditions : Conditions) (before : Expression) (parts : List Part) → AreOf code.parts parts → (plainness before).condition ≡ true → (made : Joined) → joined_behind junction conditions before parts ≡ Some made →
        ConditionPlain code made
    behind_plain junction no_conditions before parts of plain made e = subst (λ (pair : Joined). ConditionPlain code pair) (same_some (before, parts) made e) (record { plain = plain; left = of })
    behind_plain junction (and_condition next rest) before parts of plain made e =
        let enclosed = is_enclosed junction false next in
        let c = chained (λ (taken : Joined). joined_behind junction rest (joined_expression junction before (in_parentheses enclosed taken.0)) taken.1) (condition_expression next parts) made e in
        let x = condition_plain next parts of c.found c.there in
        let right = in_parentheses enclosed c.found.0 in
        behind_plain junction rest (joined_expression junction before right) c.found.1 x.left (joined_plain junction before right plain (enclosed_plain enclosed c.found.0 x.plain)) made c.gives

  until_plain : (condition : Option ConditionTree) (parts : List Part) → AreOf code.parts parts → (made : Joined) → built_condition condition parts ≡ Some made → ConditionPlain code made
  until_plain None parts of made e = subst (λ (pair : Joined). ConditionPlain code pair) (same_some (true_literal 1, parts) made e) (record { plain = refl; left = of })
  until_plain (Some condition) parts of made e = condition_plain condition parts of made e

  -- ---- statements

  taken_plain : (step : ℕ) (parts : List Part) → AreOf code.parts parts → (made : Statement × List Part) → take_statement step parts ≡ Some made → StatementPlain code made
  taken_plain step parts of made e = let x = statement_taken code.parts parts step of made e in record { plain = (parts_plain step (statement_part made.0) x.is).1; left = x.left }

  end_plain : (end : End) (parts : List Part) → AreOf code.parts parts → (made : Statement × List Part) → built_end end parts ≡ Some made → StatementPlain code made
  end_plain (End.Return step) parts of made e =
      let m = mapped (λ taken. (return_statement taken.0, taken.1)) (take_values step parts) made e in
      let x = values_taken code.parts parts step of m.found m.there in
      subst (λ (pair : Statement × List Part). StatementPlain code pair) m.gives (record { plain = parts_plain step (values_part m.found.0) x.is; left = x.left })
  end_plain End.Break parts of made e = subst (λ (pair : Statement × List Part). StatementPlain code pair) (same_some (break_statement, parts) made e) (record { plain = refl; left = of })

  block_plain : (enclosed : Bool) (s : Statement) → plain_statement s ≡ true → plain_statement (in_block enclosed s) ≡ true
  block_plain true s plain = appended_plain no_statements s refl plain
  block_plain false s plain = plain

  mutual
    body_plain : (plans : Plans) (before : Statements) (parts : List Part) → AreOf code.parts parts → plain_statements before ≡ true → (made : Statements × List Part) → built_from before plans parts ≡ Some made → BodyPlain code made
    body_plain no_plans before parts of plain made e = subst (λ (pair : Statements × List Part). BodyPlain code pair) (same_some (before, parts) made e) (record { plain = plain; left = of })
    body_plain (and_plan plan rest) before parts of plain made e =
        let c = chained (λ (kind : Statement × List Part). built_from (appended before kind.0) rest kind.1) (built_plan plan parts) made e in
        let x = plan_plain plan parts of c.found c.there in
        body_plain rest (appended before c.found.0) c.found.1 x.left (appended_plain before c.found.0 plain x.plain) made c.gives

    plan_plain : (plan : PlanTree) (parts : List Part) → AreOf code.parts parts → (made : Statement × List Part) → built_plan plan parts ≡ Some made → StatementPlain code made
    plan_plain (step_plan step) parts of made e = taken_plain step parts of made e
    plan_plain (end_plan end enclosed) parts of made e =
        let m = mapped (λ (kind : Statement × List Part). (in_block enclosed kind.0, kind.1)) (built_end end parts) made e in
        let x = end_plain end parts of m.found m.there in
        subst (λ (pair : Statement × List Part). StatementPlain code pair) m.gives (record { plain = block_plain enclosed m.found.0 x.plain; left = x.left })
    plan_plain (do_plan step body) parts of made e =
        let c = chained (λ (taken : Statement × List Part). option_map (λ (kind : Statements × List Part). (do_block kind.0, kind.1)) (built_from (appended no_statements taken.0) body taken.1)) (take_statement step parts) made e in
        let m = mapped (λ (kind : Statements × List Part). (do_block kind.0, kind.1)) (built_from (appended no_statements c.found.0) body c.found.1) made c.gives in
        let x = taken_plain step parts of c.found c.there in
        let b = body_plain body (appended no_statements c.found.0) c.found.1 x.left (appended_plain no_statements c.found.0 refl x.plain) m.found m.there in
        subst (λ (pair : Statement × List Part). StatementPlain code pair) m.gives (record { plain = b.plain; left = b.left })
    plan_plain (for_plan step numeric body) parts of made e =
        let c = chained (λ taken. option_and_then (λ made. option_map (λ kind. (kind, made.1)) (counted_of numeric taken.0.1 taken.0.0 made.0)) (built_from no_statements body taken.1)) (take_head step parts) made e in
        let d = chained (λ made. option_map (λ kind. (kind, made.1)) (counted_of numeric c.found.0.1 c.found.0.0 made.0)) (built_from no_statements body c.found.1) made c.gives in
        let m = mapped (λ kind. (kind, d.found.1)) (counted_of numeric c.found.0.1 c.found.0.0 d.found.0) made d.gives in
        let x = head_taken code.parts parts step of c.found c.there in
        let b = body_plain body no_statements c.found.1 x.left refl d.found d.there in
        let plain = counted_plain numeric c.found.0.1 c.found.0.0 d.found.0 (parts_plain step (head_part c.found.0.0 c.found.0.1) x.is) b.plain m.found m.there in
        subst (λ (pair : Statement × List Part). StatementPlain code pair) {x = (m.found, d.found.1)} m.gives (record { plain = plain; left = b.left })
    plan_plain (while_plan condition body) parts of made e =
        let c = chained (λ (test : Joined). option_map (λ (kind : Statements × List Part). (while_loop test.0 kind.0, kind.1)) (built_from no_statements body test.1)) (condition_expression condition parts) made e in
        let m = mapped (λ (kind : Statements × List Part). (while_loop c.found.0 kind.0, kind.1)) (built_from no_statements body c.found.1) made c.gives in
        let x = condition_plain condition parts of c.found c.there in
        let b = body_plain body no_statements c.found.1 x.left refl m.found m.there in
        subst (λ (pair : Statement × List Part). StatementPlain code pair) m.gives (record { plain = and_from (plainness c.found.0).condition (plain_statements m.found.0) x.plain b.plain; left = b.left })
    plan_plain (repeat_plan body condition) parts of made e =
        let c = chained (λ (kind : Statements × List Part). option_map (λ (test : Joined). (repeat_loop kind.0 test.0, test.1)) (built_condition condition kind.1)) (built_from no_statements body parts) made e in
        let m = mapped (λ (test : Joined). (repeat_loop c.found.0 test.0, test.1)) (built_condition condition c.found.1) made c.gives in
        let b = body_plain body no_statements parts of refl c.found c.there in
        let x = until_plain condition c.found.1 b.left m.found m.there in
        subst (λ (pair : Statement × List Part). StatementPlain code pair) m.gives (record { plain = and_from (plain_statements c.found.0) (plainness m.found.0).condition b.plain x.plain; left = x.left })
    plan_plain (if_plan arms) parts of made e =
        let m = mapped (λ (all : (Branches × Otherwise) × List Part). (if_statement all.0.0 all.0.1, all.1)) (built_arms arms parts) made e in
        let x = arms_plain arms parts of m.found m.there in
        subst (λ (pair : Statement × List Part). StatementPlain code pair) m.gives (record { plain = and_from (plain_branches m.found.0.0) (plain_otherwise m.found.0.1) x.branches x.last; left = x.left })

    arms_plain : (arms : ArmPlans) (parts : List Part) → AreOf code.parts parts → (made : (Branches × Otherwise) × List Part) → built_arms arms parts ≡ Some made → ArmsPlain code made
    arms_plain no_arms parts of made e =
        subst (λ (pair : (Branches × Otherwise) × List Part). ArmsPlain code pair) (same_some ((no_branches, no_otherwise), parts) made e) (record { branches = refl; last = refl; left = of })
    arms_plain (last_arm body) parts of made e =
        let m = mapped (λ (kind : Statements × List Part). ((no_branches, otherwise kind.0), kind.1)) (built_from no_statements body parts) made e in
        let b = body_plain body no_statements parts of refl m.found m.there in
        subst (λ (pair : (Branches × Otherwise) × List Part). ArmsPlain code pair) m.gives (record { branches = refl; last = b.plain; left = b.left })
    arms_plain (and_arm condition body rest) parts of made e =
        let c = chained (λ (test : Joined). option_and_then (λ (kind : Statements × List Part). option_map (λ (behind : (Branches × Otherwise) × List Part). ((branch test.0 kind.0 behind.0.0, behind.0.1), behind.1)) (built_arms rest kind.1))
        (built_from no_statements body test.1)) (built_condition condition parts) made e in
        let d = chained (λ (kind : Statements × List Part). option_map (λ (behind : (Branches × Otherwise) × List Part). ((branch c.found.0 kind.0 behind.0.0, behind.0.1), behind.1)) (built_arms rest kind.1))
        (built_from no_statements body c.found.1) made c.gives in
        let m = mapped (λ (behind : (Branches × Otherwise) × List Part). ((branch c.found.0 d.found.0 behind.0.0, behind.0.1), behind.1)) (built_arms rest d.found.1) made d.gives in
        let x = until_plain condition parts of c.found c.there in
        let b = body_plain body no_statements c.found.1 x.left refl d.found d.there in
        let z = arms_plain rest d.found.1 b.left m.found m.there in
        let arm = and_from (plainness c.found.0).condition (plain_statements d.found.0) x.plain b.plain in
        subst (λ (pair : (Branches × Otherwise) × List Part). ArmsPlain code pair) {x = ((branch c.found.0 d.found.0 m.found.0.0, m.found.0.1), m.found.1)} m.gives (record {
          branches = and_from ((plainness c.found.0).condition && plain_statements d.found.0) (plain_branches m.found.0.0) arm z.branches;
          last = z.last;
          left = z.left;
        })

  -- the statements of a body
  pub built_is_plain : (plans : Plans) (block : Statements) (behind : List Part) → built_body plans code.parts ≡ Some (block, behind) → plain_statements block ≡ true
  built_is_plain plans block behind e = (body_plain plans no_statements code.parts (all_of code.parts) refl (block, behind) e).plain
