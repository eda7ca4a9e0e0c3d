-- What is built of plans that lie on steps stands on them, where this is so of `for`: the induction over the plans.
use Rattle.std.proofs.Common.{◌≡◌, ℕ, ◌≤◌, ◌<◌, Bool, true, false, List, refl, sym, ap, ◌∙◌, arith, subst}
use Rattle.std.specs.Prelude.{◌||◌, Some}
use Rattle.lua_num.specs.Bytes.{Text}
use Rattle.lua_tree.specs.Syntax.{Statements, Statement, if_statement, Branches, Otherwise}
use Rattle.recover_expr.specs.Drafts.{Part}
use Rattle.recover_expr.specs.Placing.{Steps}
use Rattle.recover_expr.specs.declared.steps.Step.{Step}
use Rattle.recover_flow.specs.Asked.{kind_at}
use Rattle.recover_flow.specs.Built.{built_from, built_plan, built_arms}
use Rattle.recover_flow.specs.Lying.{BodyLies, PlanLies, ArmsLie, captures_own, is_captured_at}
use Rattle.recover_flow.specs.Parts.{appended}
use Rattle.recover_flow.specs.Plans.{Plans, no_plans, and_plan, PlanTree, step_plan, end_plan, do_plan, for_plan, while_plan, repeat_plan, if_plan, ArmPlans, no_arms, last_arm, and_arm}
use Rattle.scheme.specs.Making.{Ahead}
use Rattle.same_flow.specs.Written.{ComparedOnOne}
use Rattle.same_flow.specs.Laid.{label_of, with_new_labels}
use Rattle.same_flow.specs.SameFlow.{HasPlainParts}
use Rattle.same_flow.specs.Told.{AreTold}
use Rattle.same_flow.proofs.Followed.{Run, last_weaker, relabelled}
use Rattle.built_flow.proofs.ArmsBuilt.{ArmsStand, last_stands, none_stand, alone_stands, before_last, before_arm}
use Rattle.built_flow.proofs.BlocksBuilt.{Block, Built, Stands, onwards, append_built}
use Rattle.built_flow.proofs.CapturesKept.{quiet, or_false}
use Rattle.built_flow.proofs.LoopsBuilt.{BodyBuilds, no_local, do_stands, while_stands}
use Rattle.built_flow.proofs.PartsTaken.{AreOf, same_some, mapped, chained}
use Rattle.built_flow.proofs.RepeatsBuilt.{repeat_stands}
use Rattle.built_flow.proofs.StatementsBuilt.{step_stands, end_stands}
use Rattle.built_flow.proofs.StepsTold.{run_of}

-- a plan declares a captured local of the block around it
abbrev plan_captures : List Step → PlanTree → Bool
plan_captures steps (step_plan step) = is_captured_at (kind_at steps step)
plan_captures steps plan = false

captures_split : (steps : List Step) (plan : PlanTree) (rest : Plans) → (plan_captures steps plan || captures_own steps rest) ≡ captures_own steps (and_plan plan rest)
captures_split steps (step_plan step) rest = refl
captures_split steps plan rest = refl

or_again : (a b c : Bool) → ((a || b) || c) ≡ (a || (b || c))
or_again true b c = refl
or_again false b c = refl

-- what is built of a `for` stands, where this is so of its body
abbrev pub ForStands : (code : Steps) (params names : List Text) (ahead : Ahead) → AreTold code params names ahead → HasPlainParts code → Type 0
ForStands code params names ahead told plain =
    (around_block : Block (run_of code params names ahead)) (step : ℕ) (numeric : Bool) (to : ℕ) (body : Plans) (parts : List Part) → BodyBuilds code params names ahead told plain body → AreOf code.parts parts → to ≤ around_block.stop →
    PlanLies code.steps around_block.exit around_block.stop (for_plan step numeric body) around_block.from to → (made : Statement × List Part) → built_plan (for_plan step numeric body) parts ≡ Some made →
    Stands code params names ahead told plain around_block made.0 to false made.1

module _ (code : Steps) (params names : List Text) (ahead : Ahead) (told : AreTold code params names ahead) (plain : HasPlainParts code) (one : ComparedOnOne code) (fors : ForStands code params names ahead told plain) where
  abbrev run : Run
  run = run_of code params names ahead

  mutual
    pub body_built : (plans : Plans) (own_block : Block run) (before : Statements) (at to : ℕ) (captured : Bool) (parts : List Part) → Built code params names ahead told plain own_block before at captured parts →
        to ≤ own_block.stop →
        BodyLies code.steps own_block.exit own_block.stop plans at to → (made : Statements × List Part) → built_from before plans parts ≡ Some made →
        Built code params names ahead told plain own_block made.0 to (captured || captures_own code.steps plans) made.1
    body_built no_plans own_block before at to captured parts b h lying made e =
        subst (λ (pair : Statements × List Part). Built code params names ahead told plain own_block pair.0 to (captured || false) pair.1) (same_some (before, parts) made e)
        (subst (λ p. Built code params names ahead told plain own_block before p (captured || false) parts) (sym lying)
        (subst (λ c. Built code params names ahead told plain own_block before at c parts) (sym (or_false captured)) b))
    body_built (and_plan plan rest) own_block before at to captured parts b h (mid, less, a, parted, rest_lying) made e =
        let c = chained (λ (kind : Statement × List Part). built_from (appended before kind.0) rest kind.1) (built_plan plan parts) made e in
        let k : at ≤ own_block.stop = omega arith in
        let around_block = onwards code params names ahead told plain own_block before at k b.laid in
        let whole_standing = plan_built plan around_block mid parts b.left less (omega arith) parted c.found c.there in
        let more = plan_captures code.steps plan in
        let next = append_built code params names ahead told plain own_block before c.found.0 at mid captured more parts c.found.1 b k (omega arith) (omega arith) whole_standing in
        let whole = body_built rest own_block (appended before c.found.0) mid to (captured || more) c.found.1 next h rest_lying made c.gives in
        subst (λ x. Built code params names ahead told plain own_block made.0 to x made.1)
        (or_again captured more (captures_own code.steps rest) ∙ ap (λ x. captured || x) (captures_split code.steps plan rest)) whole

    plan_built : (plan : PlanTree) (around_block : Block run) (to : ℕ) (parts : List Part) → AreOf code.parts parts → around_block.from < to → to ≤ around_block.stop → PlanLies code.steps around_block.exit around_block.stop plan around_block.from to →
        (made : Statement × List Part) → built_plan plan parts ≡ Some made → Stands code params names ahead told plain around_block made.0 to (plan_captures code.steps plan) made.1
    plan_built (step_plan step) around_block to parts of less h (at, lying) made e = step_stands code params names ahead told plain around_block step to parts of at lying h made e
    plan_built (end_plan end enclosed) around_block to parts of less h lying made e = end_stands code params names ahead told plain around_block end enclosed to parts of lying h (omega arith) made e
    plan_built (do_plan step body) around_block to parts of less h lying made e =
        do_stands code params names ahead told plain around_block step to body parts (λ own_block before at stop captured ps b k done_there found f. body_built body own_block before at stop captured ps b k done_there found f) of h lying made e
    plan_built (for_plan step numeric body) around_block to parts of less h lying made e =
        fors around_block step numeric to body parts (λ own_block before at stop captured ps b k done_there found f. body_built body own_block before at stop captured ps b k done_there found f) of h lying made e
    plan_built (while_plan condition body) around_block to parts of less h lying made e =
        while_stands code params names ahead told plain one around_block condition to body parts (λ own_block before at stop captured ps b k done_there found f. body_built body own_block before at stop captured ps b k done_there found f) of h lying made e
    plan_built (repeat_plan body condition) around_block to parts of less h lying made e =
        repeat_stands code params names ahead told plain one around_block body condition to parts (λ own_block before at stop captured ps b k done_there found f. body_built body own_block before at stop captured ps b k done_there found f) of less h lying made e
    plan_built (if_plan arms) around_block to parts of less h lying made e =
        let m = mapped (λ (all : (Branches × Otherwise) × List Part). (if_statement all.0.0 all.0.1, all.1)) (built_arms arms parts) made e in
        let more_block : Block run = record {
          exit = around_block.exit;
          stop = to;
          loop = around_block.loop;
          maker = with_new_labels 1 around_block.maker;
          ends = around_block.ends;
          from = around_block.from;
          follows = relabelled _ around_block.follows;
          matches = around_block.matches;
          lasts = last_weaker to around_block.stop around_block.ends h around_block.lasts;
        } in
        let whole_standing = arms_built arms more_block (label_of around_block.maker) parts of lying m.found m.there in
        let s = if_statement m.found.0.0 m.found.0.1 in
        subst (λ (pair : Statement × List Part). Stands code params names ahead told plain around_block pair.0 to false pair.1) m.gives (record {
          laid = (whole_standing.else_from, whole_standing.low, whole_standing.high, whole_standing.branches_laid, whole_standing.otherwise_laid);
          captures = no_local code params names ahead told plain around_block s (quiet s (λ d. d) around_block.loop around_block.maker);
          left = whole_standing.left;
        })

    arms_built : (arms : ArmPlans) (around_block : Block run) (label : ℕ) (parts : List Part) → AreOf code.parts parts → ArmsLie code.steps around_block.exit arms around_block.from around_block.stop →
        (made : (Branches × Otherwise) × List Part) → built_arms arms parts ≡ Some made → ArmsStand code params names ahead told plain one around_block label made.0.0 made.0.1 made.1
    arms_built no_arms around_block label parts of lying made e = none_stand code params names ahead told plain one around_block label parts of lying made e
    arms_built (last_arm body) around_block label parts of lying made e =
        last_stands code params names ahead told plain one around_block label body parts (λ own_block before at stop captured ps b k done_there found f. body_built body own_block before at stop captured ps b k done_there found f) of lying made e
    arms_built (and_arm condition body no_arms) around_block label parts of lying made e =
        alone_stands code params names ahead told plain one around_block label condition body parts (λ own_block before at stop captured ps b k done_there found f. body_built body own_block before at stop captured ps b k done_there found f) of lying made e
    arms_built (and_arm condition body (last_arm other)) around_block label parts of lying made e =
        before_last code params names ahead told plain one around_block label condition body other parts (λ own_block before at stop captured ps b k done_there found f. body_built body own_block before at stop captured ps b k done_there found f)
        (λ own_block before at stop captured ps b k done_there found f. body_built other own_block before at stop captured ps b k done_there found f) of lying made e
    arms_built (and_arm condition body (and_arm next other rest)) around_block label parts of lying made e =
        before_arm code params names ahead told plain one around_block label condition body next other rest parts (λ own_block before at stop captured ps b k done_there found f. body_built body own_block before at stop captured ps b k done_there found f)
        (λ more_block ps left done_there found f. arms_built (and_arm next other rest) more_block label ps left done_there found f) of lying made e
