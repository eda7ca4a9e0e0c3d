-- What lies is built: a plan takes the part of each of its steps once, from the left, and each is of its step's kind.
use Rattle.std.proofs.Common.{◌≡◌, ℕ, zero, suc, ◌+◌, ◌≤◌, ◌<◌, Bool, true, false, not, inl, inr, List, [], ◌∷◌, length, refl, sym, ap, ◌∙◌, arith, subst}
use Rattle.std.specs.Prelude.{Option, None, Some, option_map, option_and_then, slice_get, slice_set}
use Rattle.lua_num.specs.Bytes.{Text}
use Rattle.lua_tree.specs.Syntax.{Statements, no_statements, Statement, do_block, while_loop, repeat_loop, if_statement, numeric_for, generic_for, return_statement, break_statement, Branches, no_branches, branch, Otherwise, no_otherwise, otherwise, Expressions, expression, Expression, true_literal, false_literal}
use Rattle.recover_expr.specs.Drafts.{Part, nothing_part, statement_part, values_part, condition_part, head_part}
use Rattle.recover_expr.specs.Placing.{Steps}
use Rattle.recover_expr.specs.declared.steps.Step.{Step}
use Rattle.recover_expr.specs.declared.steps.StepKind.{StepKind}
use Rattle.recover_flow.specs.Asked.{kind_at}
use Rattle.recover_flow.specs.Built.{built_end, in_block, step_of, numeric_of, counted_of, built_condition, built_from, built_plan, built_arms}
use Rattle.recover_flow.specs.Conditions.{ConditionTree, test_condition, true_condition, false_condition, joined_condition, Conditions, no_conditions, and_condition, is_enclosed}
use Rattle.recover_flow.specs.Joining.{in_parentheses, joined_expression, negated_where, condition_expression, first_joined, joined_behind}
use Rattle.recover_flow.specs.Lying.{TestGoes, LiteralLies, decides, decided_to, ConditionLies, PartsLie, TestLies, IsOwn, StepLies, EndLies, captures_own, VariablesEnd, IsBlock, exit_to, BodyLies, PlanLies, ArmsLie, BlockLies}
use Rattle.recover_flow.specs.Parts.{part_or_nothing, part_of_step, left_without, statement_in, values_in, condition_in, head_in, take_statement, take_values, take_condition, take_head, appended}
use Rattle.recover_flow.specs.Plans.{Plans, no_plans, and_plan, PlanTree, step_plan, end_plan, do_plan, for_plan, while_plan, repeat_plan, if_plan, ArmPlans, no_arms, last_arm, and_arm}
use Rattle.recover_flow.specs.declared.conditions.Junction.{Junction}
use Rattle.recover_flow.specs.declared.plan.End.{End}
use Rattle.recover_flow.specs.declared.regions.Exit.{Exit}
use Rattle.same_flow.specs.Written.{HaveParts}
use Rattle.same_flow.specs.Performed.{part_at}
use Rattle.same_flow.specs.Told.{AreCounted, PartFits}
use Rattle.built_flow.specs.BuiltWhole.{LyingIsBuilt}
use Rattle.built_flow.proofs.StepsTold.{stood}

-- ---- the parts that are left

-- those from a place on were not taken
abbrev pub AreUntouched : (all parts : List Part) (from : ℕ) → Type 0
AreUntouched all parts from = (at : ℕ) → from ≤ at → slice_get parts at ≡ slice_get all at

untouched_later : (all parts : List Part) (from to : ℕ) → AreUntouched all parts from → from ≤ to → AreUntouched all parts to
untouched_later all parts from to untouched h at k = untouched at (omega arith)

-- a place behind one that is set has what it had
set_behind : (parts : List Part) (step at : ℕ) (put : Part) → step < at → slice_get (slice_set parts step put) at ≡ slice_get parts at
set_behind [] zero at put h = refl
set_behind [] (suc step) at put h = refl
set_behind (part ∷ parts) zero zero put h = absurd (omega arith)
set_behind (part ∷ parts) zero (suc at) put h = refl
set_behind (part ∷ parts) (suc step) zero put h = refl
set_behind (part ∷ parts) (suc step) (suc at) put h = set_behind parts step at put (omega arith)

-- something is made, and the parts from a place on are left
pub record Makes {made_kind : Type 0} (all : List Part) (o : Option (made_kind × List Part)) (to : ℕ) : Type 0 where
  pub made : made_kind
  pub behind : List Part
  pub there : o ≡ Some (made, behind)
  pub left : AreUntouched all behind to

makes_later : {made_kind : Type 0} (all : List Part) (o : Option (made_kind × List Part)) (from to : ℕ) → from ≤ to → Makes all o from → Makes all o to
makes_later all o from to h m = record { made = m.made; behind = m.behind; there = m.there; left = untouched_later all m.behind from to m.left h }

makes_mapped : {made_kind other_kind : Type 0} (all : List Part) (f : made_kind → other_kind) (o : Option (made_kind × List Part)) (to : ℕ) → Makes all o to →
    Makes all (option_map (λ (pair : made_kind × List Part). (f pair.0, pair.1)) o) to
makes_mapped {made_kind} all f o to m =
    record { made = f m.made; behind = m.behind; there = ap (λ x. option_map (λ (pair : made_kind × List Part). (f pair.0, pair.1)) x) m.there; left = m.left }

makes_behind : {made_kind other_kind : Type 0} (all : List Part) (f : made_kind × List Part → Option (other_kind × List Part)) (o : Option (made_kind × List Part)) (mid to : ℕ) → (m : Makes all o mid) →
    Makes all (f (m.made, m.behind)) to → Makes all (option_and_then f o) to
makes_behind all f o mid to m n = record { made = n.made; behind = n.behind; there = ap (λ x. option_and_then f x) m.there ∙ n.there; left = n.left }

-- a part that was not taken is taken
makes_taken : {made_kind : Type 0} (within : Part → Option made_kind) (all parts : List Part) (step : ℕ) (part : Part) (x : made_kind) → AreUntouched all parts step → slice_get all step ≡ Some part → within part ≡ Some x →
    Makes all (option_map (λ found. (found, left_without step parts)) (within (part_of_step step parts))) (suc step)
makes_taken within all parts step part x untouched is e =
    record {
      made = x;
      behind = left_without step parts;
      there = ap (λ p. option_map (λ found. (found, left_without step parts)) (within (part_or_nothing p))) (untouched step (omega arith) ∙ is) ∙ ap (λ found. option_map (λ found. (found, left_without step parts)) found) e;
      left = λ at h. set_behind parts step at nothing_part (omega arith) ∙ untouched at (omega arith);
    }

-- ---- parts of a kind

statement_fits : (ends : ℕ) (kind : StepKind) (part : Part) → IsOwn ends kind → PartFits kind part → (s : Statement) × (statement_in part ≡ Some s)
statement_fits ends kind (statement_part s) own fits = (s, refl)
statement_fits ends StepKind.Act part own fits = absurd fits
statement_fits ends (StepKind.Declaration end captured) part own fits = absurd fits
statement_fits ends kind part own fits = absurd own

values_fit : (part : Part) → PartFits StepKind.Return part → (es : Expressions) × (values_in part ≡ Some es)
values_fit (values_part es) fits = (es, refl)
values_fit part fits = absurd fits

condition_fits : (when : Bool) (target negated : ℕ) (part : Part) → PartFits (StepKind.Test when target negated) part → (e : Expression) × (condition_in part ≡ Some e)
condition_fits when target negated (condition_part e) fits = (e, refl)
condition_fits when target negated part fits = absurd fits

-- the values and the names of a head, of which a statement is made
head_fits : (numeric : Bool) (foot end variables_end : ℕ) (captured : Bool) (part : Part) → PartFits (StepKind.Head numeric foot end variables_end captured) part →
    (head : Expressions × List Text) × (head_in part ≡ Some head) × ((block : Statements) → (s : Statement) × (counted_of numeric head.1 head.0 block ≡ Some s))
head_fits false foot end variables_end captured (head_part values names) fits = ((values, names), refl, λ block. (generic_for names values block, refl))
head_fits true foot end variables_end captured (head_part values names) (counted, one) = ((values, names), refl, λ block. numeric_there values names counted one block)
  where
    numeric_there : (values : Expressions) (names : List Text) → AreCounted values → length names ≡ 1 → (block : Statements) → (s : Statement) × (numeric_of names values block ≡ Some s)
    numeric_there values [] counted one block = absurd (omega arith)
    numeric_there (expression first (expression last rest)) (name ∷ names) counted one block = (numeric_for name first last (step_of rest) block, refl)
    numeric_there values (name ∷ names) counted one block = absurd counted
head_fits true foot end variables_end captured part fits = absurd fits
head_fits false foot end variables_end captured part fits = absurd fits

-- ---- plans

literal_order : (steps : List Step) (jumps : Bool) (target from to : ℕ) → LiteralLies steps jumps from to target → from ≤ to
literal_order steps true target from to lies = let t = lies.1 in omega arith
literal_order steps false target from to lies = omega arith

-- where a test lies, there is one
pub test_there : (negated sense : Bool) (target : ℕ) (kind : Option StepKind) → TestGoes negated sense target kind → (when : Bool) × (levels : ℕ) × (kind ≡ Some (StepKind.Test when target levels))
test_there negated sense target (Some (StepKind.Test when to levels)) goes = (when, levels, ap (λ x. Some (StepKind.Test when x levels)) goes.0)
test_there negated sense target None goes = absurd goes
test_there negated sense target (Some kind) goes = absurd goes

-- what is made of a block, where this is so of its statements
block_makes : {made_kind : Type 0} (all : List Part) (o : Option (made_kind × List Part)) (steps : List Step) (captured : Bool) (lies : (ends end : ℕ) → Type 0) (from to : ℕ) →
    ((ends end : ℕ) → lies ends end → Makes all o end) → IsBlock steps captured lies from to → Makes all o to
block_makes all o steps captured lies from to inside (inl (uncaptured, whole)) = inside to to whole
block_makes all o steps captured lies from to inside (inr (end, t, order, is_captured, closing, whole)) = makes_later all o end to (omega arith) (inside end end whole)

module _ (code : Steps) (have : HaveParts code) where
  -- a step of a kind has a part of that kind
  pub part_there : (at : ℕ) (kind : StepKind) → kind_at code.steps at ≡ Some kind → (part : Part) × (part_at code at ≡ Some part) × PartFits kind part
  part_there at kind e =
      let s = stood code.steps at kind e in
      let h = have at s.step s.there in
      (h.0, h.1, subst (λ k. PartFits k h.0) s.is h.2)

  -- ---- conditions

  mutual
    condition_makes : (condition : ConditionTree) (sense : Bool) (target from to : ℕ) (parts : List Part) → AreUntouched code.parts parts from → ConditionLies code.steps condition sense target from to →
        Makes code.parts (condition_expression condition parts) to
    condition_makes (test_condition step negated) sense target from to parts untouched (s, t, goes) =
        let k = test_there negated sense target (kind_at code.steps from) goes in
        let p = part_there from (StepKind.Test k.0 target k.1) k.2 in
        let x = condition_fits k.0 target k.1 p.0 p.2 in
        subst (λ y. Makes code.parts (condition_expression (test_condition step negated) parts) y) (sym t)
        (subst (λ y. Makes code.parts (condition_expression (test_condition y negated) parts) (suc from)) (sym s)
        (makes_mapped code.parts (negated_where negated) (take_condition from parts) (suc from) (makes_taken condition_in code.parts parts from p.0 x.0 untouched p.1 x.1)))
    condition_makes true_condition sense target from to parts untouched lies =
        record { made = true_literal 1; behind = parts; there = refl; left = untouched_later code.parts parts from to untouched (literal_order code.steps sense target from to lies) }
    condition_makes false_condition sense target from to parts untouched lies =
        record { made = false_literal 1; behind = parts; there = refl; left = untouched_later code.parts parts from to untouched (literal_order code.steps (not sense) target from to lies) }
    condition_makes (joined_condition junction conditions) sense target from to parts untouched lies =
        first_makes junction (decided_to junction sense to target) conditions sense target from to parts untouched lies

    first_makes : (junction : Junction) (early : ℕ) (conditions : Conditions) (sense : Bool) (target from to : ℕ) (parts : List Part) → AreUntouched code.parts parts from →
        PartsLie code.steps junction early conditions sense target from to → Makes code.parts (first_joined junction conditions parts) to
    first_makes junction early no_conditions sense target from to parts untouched lies = absurd lies
    first_makes junction early (and_condition last no_conditions) sense target from to parts untouched lies =
        let m = condition_makes last sense target from to parts untouched lies in
        makes_behind code.parts (λ taken. joined_behind junction no_conditions (in_parentheses (is_enclosed junction true last) taken.0) taken.1) (condition_expression last parts) to to m
        (record { made = in_parentheses (is_enclosed junction true last) m.made; behind = m.behind; there = refl; left = m.left })
    first_makes junction early (and_condition first (and_condition next rest)) sense target from to parts untouched (mid, a, b, lies, rest_lies) =
        let m = condition_makes first (decides junction) early from mid parts untouched lies in
        makes_behind code.parts (λ taken. joined_behind junction (and_condition next rest) (in_parentheses (is_enclosed junction true first) taken.0) taken.1) (condition_expression first parts) mid to m
        (behind_makes junction early (and_condition next rest) (in_parentheses (is_enclosed junction true first) m.made) sense target mid to m.behind m.left rest_lies)

    behind_makes : (junction : Junction) (early : ℕ) (conditions : Conditions) (before : Expression) (sense : Bool) (target from to : ℕ) (parts : List Part) → AreUntouched code.parts parts from →
        PartsLie code.steps junction early conditions sense target from to → Makes code.parts (joined_behind junction conditions before parts) to
    behind_makes junction early no_conditions before sense target from to parts untouched lies = absurd lies
    behind_makes junction early (and_condition last no_conditions) before sense target from to parts untouched lies =
        let m = condition_makes last sense target from to parts untouched lies in
        makes_behind code.parts (λ taken. joined_behind junction no_conditions (joined_expression junction before (in_parentheses (is_enclosed junction false last) taken.0)) taken.1) (condition_expression last parts) to to m
        (record { made = joined_expression junction before (in_parentheses (is_enclosed junction false last) m.made); behind = m.behind; there = refl; left = m.left })
    behind_makes junction early (and_condition first (and_condition next rest)) before sense target from to parts untouched (mid, a, b, lies, rest_lies) =
        let m = condition_makes first (decides junction) early from mid parts untouched lies in
        makes_behind code.parts (λ taken. joined_behind junction (and_condition next rest) (joined_expression junction before (in_parentheses (is_enclosed junction false first) taken.0)) taken.1) (condition_expression first parts) mid to m
        (behind_makes junction early (and_condition next rest) (joined_expression junction before (in_parentheses (is_enclosed junction false first) m.made)) sense target mid to m.behind m.left rest_lies)

  test_makes : (condition : Option ConditionTree) (target from to : ℕ) (parts : List Part) → AreUntouched code.parts parts from → TestLies code.steps condition target from to →
      Makes code.parts (built_condition condition parts) to
  test_makes None target from to parts untouched lies = record { made = true_literal 1; behind = parts; there = refl; left = untouched_later code.parts parts from to untouched (omega arith) }
  test_makes (Some condition) target from to parts untouched lies = condition_makes condition false target from to parts untouched lies

  -- ---- statements

  step_makes : (step ends from to : ℕ) (parts : List Part) → AreUntouched code.parts parts from → step ≡ from → StepLies code.steps ends from to → Makes code.parts (take_statement step parts) to
  step_makes step ends from to parts untouched s (kind, is, own, t) =
      let p = part_there from kind is in
      let x = statement_fits ends kind p.0 own p.2 in
      subst (λ y. Makes code.parts (take_statement step parts) y) (sym t) (subst (λ y. Makes code.parts (take_statement y parts) (suc from)) (sym s) (makes_taken statement_in code.parts parts from p.0 x.0 untouched p.1 x.1))

  leaves_order : (steps : List Step) (exit : Option Exit) (from to : ℕ) → EndLies steps exit End.Break from to → from ≤ to
  leaves_order steps None from to lies = absurd lies
  leaves_order steps (Some exit) from to (step, is, inl (a, b, t)) = omega arith
  leaves_order steps (Some exit) from to (step, is, inr (a, b, c, t)) = omega arith

  end_makes : (exit : Option Exit) (end : End) (from to : ℕ) (parts : List Part) → AreUntouched code.parts parts from → EndLies code.steps exit end from to → Makes code.parts (built_end end parts) to
  end_makes exit (End.Return step) from to parts untouched (s, is, t) =
      let p = part_there from StepKind.Return is in
      let x = values_fit p.0 p.2 in
      subst (λ y. Makes code.parts (built_end (End.Return step) parts) y) (sym t) (subst (λ y. Makes code.parts (built_end (End.Return y) parts) (suc from)) (sym s)
      (makes_mapped code.parts return_statement (take_values from parts) (suc from) (makes_taken values_in code.parts parts from p.0 x.0 untouched p.1 x.1)))
  end_makes exit End.Break from to parts untouched lies = record { made = break_statement; behind = parts; there = refl; left = untouched_later code.parts parts from to untouched (leaves_order code.steps exit from to lies) }

  -- ---- plans

  -- what is built of a body where it lies
  abbrev BodyMakes : Plans → Type 0
  BodyMakes body =
      (exit : Option Exit) (ends from to : ℕ) (before : Statements) (parts : List Part) → AreUntouched code.parts parts from → BodyLies code.steps exit ends body from to → Makes code.parts (built_from before body parts) to

  do_makes : (step : ℕ) (body : Plans) (exit : Option Exit) (ends from to : ℕ) (parts : List Part) → AreUntouched code.parts parts from → BodyMakes body → PlanLies code.steps exit ends (do_plan step body) from to →
      Makes code.parts (built_plan (do_plan step body) parts) to
  do_makes step body exit ends from to parts untouched makes (s, lies) =
      block_makes code.parts (built_plan (do_plan step body) parts) code.steps (captures_own code.steps (and_plan (step_plan step) body))
      (λ ends end. StepLies code.steps ends from (suc from) × (suc from ≤ end) × BodyLies code.steps exit ends body (suc from) end) from to
      (λ ends end whole.
      let m = step_makes step ends from (suc from) parts untouched s whole.0 in
      makes_behind code.parts (λ taken. option_map (λ made. (do_block made.0, made.1)) (built_from (appended no_statements taken.0) body taken.1)) (take_statement step parts) (suc from) end m
      (makes_mapped code.parts do_block (built_from (appended no_statements m.made) body m.behind) end (makes exit ends (suc from) end (appended no_statements m.made) m.behind m.left whole.2))) lies

  for_makes : (step : ℕ) (numeric : Bool) (body : Plans) (exit : Option Exit) (ends from to : ℕ) (parts : List Part) → AreUntouched code.parts parts from → BodyMakes body →
      PlanLies code.steps exit ends (for_plan step numeric body) from to → Makes code.parts (built_plan (for_plan step numeric body) parts) to
  unfolding makes_taken
  for_makes step numeric body exit ends from to parts untouched makes (s, (head, foot, variables_end, captured, is, kind, less, lies, ended, jumping, t)) =
      let p = have from head is in
      let fits = subst (λ k. PartFits k p.0) kind p.2 in
      let x = head_fits numeric foot to variables_end captured p.0 fits in
      let m = makes_taken head_in code.parts parts from p.0 x.0 untouched p.1 x.1 in
      let n = block_makes code.parts (built_from no_statements body m.behind) code.steps (captures_own code.steps body) (λ ends end. BodyLies code.steps (exit_to to head) ends body (suc from) end) (suc from) variables_end
      (λ ends end whole. makes (exit_to to head) ends (suc from) end no_statements m.behind m.left whole) lies in
      let c = x.2 n.made in
      let order : variables_end ≤ to = foot_order code.steps head captured variables_end foot to ended t in
      makes_later code.parts (built_plan (for_plan step numeric body) parts) variables_end to order
      (subst (λ y. Makes code.parts (built_plan (for_plan y numeric body) parts) variables_end) (sym s)
      (makes_behind code.parts (λ taken. option_and_then (λ made. option_map (λ kind. (kind, made.1)) (counted_of numeric taken.0.1 taken.0.0 made.0)) (built_from no_statements body taken.1)) (take_head from parts) (suc from) variables_end m
      (makes_behind code.parts (λ made. option_map (λ kind. (kind, made.1)) (counted_of numeric x.0.1 x.0.0 made.0)) (built_from no_statements body m.behind) variables_end variables_end n
      (record { made = c.0; behind = n.behind; there = ap (λ found. option_map (λ kind. (kind, n.behind)) found) c.1; left = n.left }))))
    where
      foot_order : (steps : List Step) (head : Step) (captured : Bool) (end foot to : ℕ) → VariablesEnd steps head captured end foot → to ≡ suc foot → end ≤ to
      foot_order steps head true end foot to ended t = let e = ended.1 in omega arith
      foot_order steps head false end foot to ended t = omega arith

  while_makes : (condition : ConditionTree) (body : Plans) (exit : Option Exit) (ends from to : ℕ) (parts : List Part) → AreUntouched code.parts parts from → BodyMakes body →
      PlanLies code.steps exit ends (while_plan condition body) from to → Makes code.parts (built_plan (while_plan condition body) parts) to
  while_makes condition body exit ends from to parts untouched makes (first, start, back, is, a, b, test_lies, lies, jumping, t) =
      let m = condition_makes condition false to from start parts untouched test_lies in
      let n = block_makes code.parts (built_from no_statements body m.behind) code.steps (captures_own code.steps body) (λ ends end. BodyLies code.steps (exit_to to first) ends body start end) start back
      (λ ends end whole. makes (exit_to to first) ends start end no_statements m.behind m.left whole) lies in
      makes_later code.parts (built_plan (while_plan condition body) parts) back to (omega arith)
      (makes_behind code.parts (λ test. option_map (λ made. (while_loop test.0 made.0, made.1)) (built_from no_statements body test.1)) (condition_expression condition parts) start back m
      (makes_mapped code.parts (while_loop m.made) (built_from no_statements body m.behind) back n))

  until_makes : (body : Plans) (condition : Option ConditionTree) (exit : Option Exit) (ends target from start tested : ℕ) (parts : List Part) → AreUntouched code.parts parts from → BodyMakes body →
      BodyLies code.steps exit ends body from start → TestLies code.steps condition target start tested → Makes code.parts (built_plan (repeat_plan body condition) parts) tested
  until_makes body condition exit ends target from start tested parts untouched makes lies test_lies =
      let m = makes exit ends from start no_statements parts untouched lies in
      makes_behind code.parts (λ made. option_map (λ test. (repeat_loop made.0 test.0, test.1)) (built_condition condition made.1)) (built_from no_statements body parts) start tested m
      (makes_mapped code.parts (λ test. repeat_loop m.made test) (built_condition condition m.behind) tested (test_makes condition target start tested m.behind m.left test_lies))

  repeat_makes : (body : Plans) (condition : Option ConditionTree) (exit : Option Exit) (ends from to : ℕ) (parts : List Part) → AreUntouched code.parts parts from → BodyMakes body →
      PlanLies code.steps exit ends (repeat_plan body condition) from to → Makes code.parts (built_plan (repeat_plan body condition) parts) to
  repeat_makes body condition exit ends from to parts untouched makes (first, start, is, a, inl (b, uncaptured, lies, test_lies)) =
      until_makes body condition (exit_to to first) to from from start to parts untouched makes lies test_lies
  repeat_makes body condition exit ends from to parts untouched makes (first, start, is, a, inr (tested, b, is_captured, lies, test_lies, (closing, jumping, again, back, t))) =
      makes_later code.parts (built_plan (repeat_plan body condition) parts) tested to (omega arith)
      (until_makes body condition (exit_to to first) (tested + 2) (tested + 2) from start tested parts untouched makes lies test_lies)

  -- ---- arms

  -- an arm, and what is behind it
  arm_makes : (condition : Option ConditionTree) (body : Plans) (rest : ArmPlans) (exit : Option Exit) (target from start last behind to : ℕ) (parts : List Part) → AreUntouched code.parts parts from → BodyMakes body →
      TestLies code.steps condition target from start → BlockLies code.steps exit body start last → last ≤ behind →
      ((parts : List Part) → AreUntouched code.parts parts behind → Makes code.parts (built_arms rest parts) to) → Makes code.parts (built_arms (and_arm condition body rest) parts) to
  arm_makes condition body rest exit target from start last behind to parts untouched makes test_lies lies order others =
      let m = test_makes condition target from start parts untouched test_lies in
      let n = block_makes code.parts (built_from no_statements body m.behind) code.steps (captures_own code.steps body) (λ ends end. BodyLies code.steps exit ends body start end) start last
      (λ ends end whole. makes exit ends start end no_statements m.behind m.left whole) lies in
      let k = others n.behind (untouched_later code.parts n.behind last behind n.left order) in
      makes_behind code.parts
      (λ test. option_and_then (λ made. option_map (λ behind. ((branch test.0 made.0 behind.0.0, behind.0.1), behind.1)) (built_arms rest made.1)) (built_from no_statements body test.1)) (built_condition condition parts) start to m
      (makes_behind code.parts (λ made. option_map (λ behind. ((branch m.made made.0 behind.0.0, behind.0.1), behind.1)) (built_arms rest made.1)) (built_from no_statements body m.behind) last to n
      (makes_mapped code.parts (λ (pair : Branches × Otherwise). (branch m.made n.made pair.0, pair.1)) (built_arms rest n.behind) to k))

  mutual
    body_makes : (plans : Plans) → BodyMakes plans
    body_makes no_plans exit ends from to before parts untouched lies = record { made = before; behind = parts; there = refl; left = untouched_later code.parts parts from to untouched (omega arith) }
    body_makes (and_plan plan rest) exit ends from to before parts untouched (mid, less, a, plan_lies, lies) =
        let m = plan_makes plan exit ends from mid parts untouched plan_lies in
        makes_behind code.parts (λ made. built_from (appended before made.0) rest made.1) (built_plan plan parts) mid to m
        (body_makes rest exit ends mid to (appended before m.made) m.behind m.left lies)

    plan_makes : (plan : PlanTree) (exit : Option Exit) (ends from to : ℕ) (parts : List Part) → AreUntouched code.parts parts from → PlanLies code.steps exit ends plan from to → Makes code.parts (built_plan plan parts) to
    plan_makes (step_plan step) exit ends from to parts untouched lies = step_makes step ends from to parts untouched lies.0 lies.1
    plan_makes (end_plan end enclosed) exit ends from to parts untouched lies = makes_mapped code.parts (in_block enclosed) (built_end end parts) to (end_makes exit end from to parts untouched lies)
    plan_makes (do_plan step body) exit ends from to parts untouched lies =
        do_makes step body exit ends from to parts untouched (λ exit ends from to before parts untouched lies. body_makes body exit ends from to before parts untouched lies) lies
    plan_makes (for_plan step numeric body) exit ends from to parts untouched lies =
        for_makes step numeric body exit ends from to parts untouched (λ exit ends from to before parts untouched lies. body_makes body exit ends from to before parts untouched lies) lies
    plan_makes (while_plan condition body) exit ends from to parts untouched lies =
        while_makes condition body exit ends from to parts untouched (λ exit ends from to before parts untouched lies. body_makes body exit ends from to before parts untouched lies) lies
    plan_makes (repeat_plan body condition) exit ends from to parts untouched lies =
        repeat_makes body condition exit ends from to parts untouched (λ exit ends from to before parts untouched lies. body_makes body exit ends from to before parts untouched lies) lies
    plan_makes (if_plan arms) exit ends from to parts untouched lies =
        makes_mapped code.parts (λ (pair : Branches × Otherwise). if_statement pair.0 pair.1) (built_arms arms parts) to (arms_make arms exit from to parts untouched lies)

    arms_make : (arms : ArmPlans) (exit : Option Exit) (from to : ℕ) (parts : List Part) → AreUntouched code.parts parts from → ArmsLie code.steps exit arms from to → Makes code.parts (built_arms arms parts) to
    arms_make no_arms exit from to parts untouched lies = record { made = (no_branches, no_otherwise); behind = parts; there = refl; left = untouched_later code.parts parts from to untouched (omega arith) }
    arms_make (last_arm body) exit from to parts untouched (a, lies) =
        makes_mapped code.parts (λ block. (no_branches, otherwise block)) (built_from no_statements body parts) to
        (block_makes code.parts (built_from no_statements body parts) code.steps (captures_own code.steps body) (λ ends end. BodyLies code.steps exit ends body from end) from to
        (λ ends end whole. body_makes body exit ends from end no_statements parts untouched whole) lies)
    arms_make (and_arm condition body no_arms) exit from to parts untouched (start, a, b, test_lies, lies) =
        arm_makes condition body no_arms exit to from start to to to parts untouched (λ exit ends from to before parts untouched lies. body_makes body exit ends from to before parts untouched lies) test_lies lies (omega arith)
        (λ parts untouched. record { made = (no_branches, no_otherwise); behind = parts; there = refl; left = untouched })
    arms_make (and_arm condition body (last_arm other)) exit from to parts untouched (start, last, a, b, c, test_lies, lies, jumping, rest_lies) =
        arm_makes condition body (last_arm other) exit (suc last) from start last (suc last) to parts untouched (λ exit ends from to before parts untouched lies. body_makes body exit ends from to before parts untouched lies) test_lies lies (omega arith)
        (λ parts untouched. arms_make (last_arm other) exit (suc last) to parts untouched rest_lies)
    arms_make (and_arm condition body (and_arm next other rest)) exit from to parts untouched (start, last, a, b, c, test_lies, lies, jumping, rest_lies) =
        arm_makes condition body (and_arm next other rest) exit (suc last) from start last (suc last) to parts untouched (λ exit ends from to before parts untouched lies. body_makes body exit ends from to before parts untouched lies) test_lies lies (omega arith)
        (λ parts untouched. arms_make (and_arm next other rest) exit (suc last) to parts untouched rest_lies)

-- what lies is built
pub lying_is_built : LyingIsBuilt
lying_is_built code have plans lies =
    let m = body_makes code have plans None (length code.steps) 0 (length code.steps) no_statements code.parts (λ at h. refl) lies in
    (m.made, m.behind, m.there)
