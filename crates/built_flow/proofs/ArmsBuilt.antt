-- What is built of the arms of an `if` stands on their steps, where this is so of their bodies.
use Rattle.std.proofs.Common.{◌≡◌, ℕ, suc, ◌≤◌, true, false, List, refl, sym, ap, ◌∙◌, arith, subst}
use Rattle.std.specs.Prelude.{◌||◌, Option, Some, option_map, option_and_then}
use Rattle.lua_num.specs.Bytes.{Text}
use Rattle.lua_tree.specs.Syntax.{Statements, no_statements, Branches, no_branches, branch, Otherwise, no_otherwise, otherwise, Expression}
use Rattle.recover_expr.specs.Drafts.{Part}
use Rattle.recover_expr.specs.Placing.{Steps}
use Rattle.recover_expr.specs.declared.steps.StepKind.{StepKind}
use Rattle.recover_flow.specs.Built.{built_from, built_arms, built_condition}
use Rattle.recover_flow.specs.Conditions.{ConditionTree}
use Rattle.recover_flow.specs.Joining.{Joined}
use Rattle.recover_flow.specs.Lying as lying
use Rattle.recover_flow.specs.Lying.{BodyLies, TestLies, ArmsLie, Jumps, captures_own}
use Rattle.recover_flow.specs.Plans.{Plans, ArmPlans, no_arms, last_arm, and_arm}
use Rattle.scheme.specs.Making.{Ahead, active_count, captured_from, new_label, jump_to, when}
use Rattle.scheme.specs.Scheme.{coded, has_branch, has_otherwise, statements_made, branches_made}
use Rattle.scheme.specs.Statements.{block_part, arm_part}
use Rattle.same_flow.specs.Written.{ComparedOnOne}
use Rattle.same_flow.specs.Laid.{IsBlock, ArmEnds, BodyLaid, BranchesLaid, OtherwiseLaid, TestLaid, label_of, with_new_labels, arm_begun}
use Rattle.same_flow.specs.SameFlow.{HasPlainParts}
use Rattle.same_flow.specs.Told.{AreTold}
use Rattle.same_flow.proofs.Followed.{Run, Follows, nought, last_weaker, relabelled, followed}
use Rattle.same_flow.proofs.KeptActive.{active_kept, kept}
use Rattle.same_flow.proofs.RenamedStatements.{statements_rename}
use Rattle.same_flow.proofs.TestsFollowed.{test_goes, jump_step}
use Rattle.built_flow.proofs.BlocksBuilt.{as_laid, Block}
use Rattle.built_flow.proofs.LoopsBuilt.{BodyBuilds, whole_block, block_for}
use Rattle.built_flow.proofs.PartsTaken.{AreOf, same_some, mapped, chained}
use Rattle.built_flow.proofs.StatementsBuilt.{begins_here}
use Rattle.built_flow.proofs.StepsTold.{run_of, Here, has_kind}
use Rattle.built_flow.proofs.TestsBuilt.{test_stands}

module _ (code : Steps) (params names : List Text) (ahead : Ahead) (told : AreTold code params names ahead) (plain : HasPlainParts code) (one : ComparedOnOne code) where
  abbrev run : Run
  run = run_of code params names ahead

  -- arms that stand from where a block begins to where it stops
  pub record ArmsStand (around_block : Block run) (label : ℕ) (branches : Branches) (last : Otherwise) (parts : List Part) : Type 0 where
    pub else_from : ℕ
    pub low : around_block.from ≤ else_from
    pub high : else_from ≤ around_block.stop
    pub branches_laid : BranchesLaid code (as_laid around_block.exit) branches (has_otherwise last) label around_block.stop around_block.loop around_block.maker around_block.from else_from
    pub otherwise_laid : OtherwiseLaid code (as_laid around_block.exit) last around_block.loop (branches_made branches 1 around_block.loop label (has_otherwise last) around_block.maker) else_from around_block.stop
    pub left : AreOf code.parts parts

  -- one arm, up to the end of its block
  record Arm (around_block : Block run) (x : Expression) (block : Statements) (target start last : ℕ) (parts : List Part) : Type 0 where
    test : TestLaid code around_block.maker.active x false target around_block.from start
    laid : IsBlock code around_block.maker.active (active_count around_block.maker) (captured_from (active_count around_block.maker) (statements_made block around_block.loop (arm_begun x around_block.maker)))
        (λ ends stop. BodyLaid code (as_laid around_block.exit) ends block around_block.loop (arm_begun x around_block.maker) start stop) start last
    behind : Follows run nought nought (block_part 1 (statements_made block around_block.loop) (arm_begun x around_block.maker)) around_block.ends last
    same : (block_part 1 (statements_made block around_block.loop) (arm_begun x around_block.maker)).active ≡ around_block.maker.active
    left : AreOf code.parts parts

  arm_stands : (around_block : Block run) (condition : Option ConditionTree) (body : Plans) (target start last : ℕ) (parts : List Part) → BodyBuilds code params names ahead told plain body →
      AreOf code.parts parts →
      start ≤ last → last ≤ around_block.stop → TestLies code.steps condition target around_block.from start →
      lying.IsBlock code.steps (captures_own code.steps body) (λ ends end. BodyLies code.steps around_block.exit ends body start end) start last →
      (test : Joined) → built_condition condition parts ≡ Some test → (made : Statements × List Part) → built_from no_statements body test.1 ≡ Some made → Arm around_block test.0 made.0 target start last made.1
  arm_stands around_block condition body target start last parts builds of a b kind_there lies_there test e made f =
      let n = around_block.maker in
      let x = test.0 in
      let until = last_weaker start around_block.stop around_block.ends (omega arith) around_block.lasts in
      let test_standing = test_stands code params names ahead told plain one n.active around_block.ends condition target around_block.from start parts of (begins_here code params names ahead told plain around_block) until kind_there test e in
      let goes = test_goes run statements_rename plain n.active (new_label n).after around_block.ends x false (label_of n) target around_block.from start test_standing.laid until in
      let own_block : Block run = record {
        exit = around_block.exit;
        stop = last;
        loop = around_block.loop;
        maker = arm_begun x n;
        ends = around_block.ends;
        from = start;
        follows = followed goes (relabelled _ around_block.follows);
        matches = around_block.matches;
        lasts = last_weaker last around_block.stop around_block.ends b around_block.lasts;
      } in
      let whole_standing = whole_block code params names ahead told plain body builds own_block test.1 test_standing.left lies_there made f in
      let same : (arm_begun x n).active ≡ n.active = active_kept ((kept x).jump_if false (label_of n)) (with_new_labels 1 n) in
      record { test = test_standing.laid; laid = block_for code params names ahead told plain own_block made.0 made.1 n.active same whole_standing; behind = whole_standing.behind; same = whole_standing.kept ∙ same; left = whole_standing.left }

  -- what the arms behind one do
  abbrev Rests : ℕ → ArmPlans → Type 0
  Rests label rest =
      (around_block : Block run) (parts : List Part) → AreOf code.parts parts → ArmsLie code.steps around_block.exit rest around_block.from around_block.stop → (made : (Branches × Otherwise) × List Part) → built_arms rest parts ≡ Some made →
      ArmsStand around_block label made.0.0 made.0.1 made.1

  abbrev Further : ArmPlans → Type 0
  Further rest = (parts : List Part) (made : (Branches × Otherwise) × List Part) → built_arms rest parts ≡ Some made → (has_branch made.0.0 || has_otherwise made.0.1) ≡ true

  -- an arm behind which something stands
  then_arms : (around_block : Block run) (label : ℕ) (condition : Option ConditionTree) (body : Plans) (rest : ArmPlans) (start last : ℕ) (parts : List Part) →
      BodyBuilds code params names ahead told plain body → Rests label rest → Further rest →
      AreOf code.parts parts → around_block.from ≤ start → start ≤ last → suc last ≤ around_block.stop → TestLies code.steps condition (suc last) around_block.from start →
      lying.IsBlock code.steps (captures_own code.steps body) (λ ends end. BodyLies code.steps around_block.exit ends body start end) start last → Jumps code.steps last around_block.stop →
      ArmsLie code.steps around_block.exit rest (suc last) around_block.stop →
      (made : (Branches × Otherwise) × List Part) → built_arms (and_arm condition body rest) parts ≡ Some made → ArmsStand around_block label made.0.0 made.0.1 made.1
  then_arms around_block label condition body rest start last parts builds rests further of a b h kind_there lies_there jumping rest_lying made e =
      let c = chained (λ (test : Joined). option_and_then (λ (made : Statements × List Part). option_map (λ (behind : (Branches × Otherwise) × List Part). ((branch test.0 made.0 behind.0.0, behind.0.1), behind.1)) (built_arms rest made.1))
      (built_from no_statements body test.1)) (built_condition condition parts) made e in
      let test = c.found in
      let d = chained (λ (made : Statements × List Part). option_map (λ (behind : (Branches × Otherwise) × List Part). ((branch test.0 made.0 behind.0.0, behind.0.1), behind.1)) (built_arms rest made.1))
      (built_from no_statements body test.1) made c.gives in
      let m = mapped (λ (behind : (Branches × Otherwise) × List Part). ((branch test.0 d.found.0 behind.0.0, behind.0.1), behind.1)) (built_arms rest d.found.1) made d.gives in
      let arm_made = arm_stands around_block condition body (suc last) start last parts builds of b (omega arith) kind_there lies_there test c.there d.found d.there in
      let n = around_block.maker in
      let more = has_branch m.found.0.0 || has_otherwise m.found.0.1 in
      let yes : more ≡ true = further d.found.1 m.found m.there in
      let inside = block_part 1 (statements_made d.found.0 around_block.loop) (arm_begun test.0 n) in
      let until = last_weaker (suc last) around_block.stop around_block.ends h around_block.lasts in
      let standing : Here run n.active around_block.ends last = record { maker = inside; follows = arm_made.behind; same = arm_made.same } in
      let jump = has_kind code params names ahead told n.active around_block.ends last standing until (StepKind.Jump around_block.stop) jumping in
      let gone = followed (jump_step inside around_block.ends last label around_block.stop jump until) arm_made.behind in
      let around_block' : Block run = record {
        exit = around_block.exit;
        stop = around_block.stop;
        loop = around_block.loop;
        maker = arm_part 1 label more (coded test.0) (statements_made d.found.0 around_block.loop) n;
        ends = around_block.ends;
        from = suc last;
        follows = relabelled _ (subst (λ f. Follows run nought nought (when f (jump_to 1 label) inside) around_block.ends (suc last)) (sym yes) gone);
        matches = around_block.matches;
        lasts = around_block.lasts;
      } in
      let whole_standing = rests around_block' d.found.1 arm_made.left rest_lying m.found m.there in
      let ends = subst (λ f. ArmEnds code n.active f last around_block.stop (suc last)) (sym yes) (jump, refl) in
      let low = whole_standing.low in
      subst (λ (all : (Branches × Otherwise) × List Part). ArmsStand around_block label all.0.0 all.0.1 all.1) m.gives (record {
        else_from = whole_standing.else_from;
        low = omega arith;
        high = whole_standing.high;
        branches_laid = (start, last, suc last, a, b, low, arm_made.test, arm_made.laid, ends, whole_standing.branches_laid);
        otherwise_laid = whole_standing.otherwise_laid;
        left = whole_standing.left;
      })

  pub last_stands : (around_block : Block run) (label : ℕ) (body : Plans) (parts : List Part) → BodyBuilds code params names ahead told plain body → AreOf code.parts parts →
      ArmsLie code.steps around_block.exit (last_arm body) around_block.from around_block.stop →
      (made : (Branches × Otherwise) × List Part) → built_arms (last_arm body) parts ≡ Some made → ArmsStand around_block label made.0.0 made.0.1 made.1
  last_stands around_block label body parts builds of (h, lies_there) made e =
      let m = mapped (λ (kind : Statements × List Part). ((no_branches, otherwise kind.0), kind.1)) (built_from no_statements body parts) made e in
      let whole_standing = whole_block code params names ahead told plain body builds around_block parts of lies_there m.found m.there in
      subst (λ (all : (Branches × Otherwise) × List Part). ArmsStand around_block label all.0.0 all.0.1 all.1) m.gives
      (record { else_from = around_block.from; low = omega arith; high = h; branches_laid = refl; otherwise_laid = whole_standing.is; left = whole_standing.left })

  pub none_stand : (around_block : Block run) (label : ℕ) (parts : List Part) → AreOf code.parts parts → around_block.stop ≡ around_block.from →
      (made : (Branches × Otherwise) × List Part) → built_arms no_arms parts ≡ Some made → ArmsStand around_block label made.0.0 made.0.1 made.1
  none_stand around_block label parts of lies_there made e =
      subst (λ (all : (Branches × Otherwise) × List Part). ArmsStand around_block label all.0.0 all.0.1 all.1) (same_some ((no_branches, no_otherwise), parts) made e)
      (record { else_from = around_block.from; low = omega arith; high = omega arith; branches_laid = refl; otherwise_laid = lies_there; left = of })

  -- an arm behind which nothing stands
  pub alone_stands : (around_block : Block run) (label : ℕ) (condition : Option ConditionTree) (body : Plans) (parts : List Part) → BodyBuilds code params names ahead told plain body → AreOf code.parts parts →
      ArmsLie code.steps around_block.exit (and_arm condition body no_arms) around_block.from around_block.stop →
      (made : (Branches × Otherwise) × List Part) → built_arms (and_arm condition body no_arms) parts ≡ Some made → ArmsStand around_block label made.0.0 made.0.1 made.1
  alone_stands around_block label condition body parts builds of (start, a, b, kind_there, lies_there) made e =
      let c = chained (λ (test : Joined). option_and_then (λ (made : Statements × List Part). Some ((branch test.0 made.0 no_branches, no_otherwise), made.1)) (built_from no_statements body test.1)) (built_condition condition parts) made e in
      let test = c.found in
      let d = chained (λ (made : Statements × List Part). Some ((branch test.0 made.0 no_branches, no_otherwise), made.1)) (built_from no_statements body test.1) made c.gives in
      let arm_made = arm_stands around_block condition body around_block.stop start around_block.stop parts builds of b (omega arith) kind_there lies_there test c.there d.found d.there in
      subst (λ (all : (Branches × Otherwise) × List Part). ArmsStand around_block label all.0.0 all.0.1 all.1) (same_some ((branch test.0 d.found.0 no_branches, no_otherwise), d.found.1) made d.gives) (record {
        else_from = around_block.stop;
        low = omega arith;
        high = omega arith;
        branches_laid = (start, around_block.stop, around_block.stop, a, b, omega arith, arm_made.test, arm_made.laid, refl, refl);
        otherwise_laid = refl;
        left = arm_made.left;
      })

  pub before_last : (around_block : Block run) (label : ℕ) (condition : Option ConditionTree) (body : Plans) (other : Plans) (parts : List Part) → BodyBuilds code params names ahead told plain body →
      BodyBuilds code params names ahead told plain other → AreOf code.parts parts → ArmsLie code.steps around_block.exit (and_arm condition body (last_arm other)) around_block.from around_block.stop →
      (made : (Branches × Otherwise) × List Part) → built_arms (and_arm condition body (last_arm other)) parts ≡ Some made → ArmsStand around_block label made.0.0 made.0.1 made.1
  before_last around_block label condition body other parts builds others of (start, last, a, b, h, kind_there, lies_there, jumping, rest_lying) made e =
      then_arms around_block label condition body (last_arm other) start last parts builds (λ more_block ps left done_there found f. last_stands more_block label other ps others left done_there found f)
      (λ ps found f. let m = mapped (λ (kind : Statements × List Part). ((no_branches, otherwise kind.0), kind.1)) (built_from no_statements other ps) found f in
      ap (λ (all : (Branches × Otherwise) × List Part). has_branch all.0.0 || has_otherwise all.0.1) (sym m.gives)) of a b h kind_there lies_there jumping rest_lying made e

  pub before_arm : (around_block : Block run) (label : ℕ) (condition : Option ConditionTree) (body : Plans) (next : Option ConditionTree) (other : Plans) (rest : ArmPlans) (parts : List Part) →
      BodyBuilds code params names ahead told plain body → Rests label (and_arm next other rest) → AreOf code.parts parts →
      ArmsLie code.steps around_block.exit (and_arm condition body (and_arm next other rest)) around_block.from around_block.stop →
      (made : (Branches × Otherwise) × List Part) → built_arms (and_arm condition body (and_arm next other rest)) parts ≡ Some made → ArmsStand around_block label made.0.0 made.0.1 made.1
  before_arm around_block label condition body next other rest parts builds rests of (start, last, a, b, h, kind_there, lies_there, jumping, rest_lying) made e =
      then_arms around_block label condition body (and_arm next other rest) start last parts builds rests (λ ps found f.
      (let c = chained (λ (test : Joined). option_and_then (λ (made : Statements × List Part). option_map (λ (behind : (Branches × Otherwise) × List Part). ((branch test.0 made.0 behind.0.0, behind.0.1), behind.1)) (built_arms rest made.1))
      (built_from no_statements other test.1)) (built_condition next ps) found f in
      let d = chained (λ (made : Statements × List Part). option_map (λ (behind : (Branches × Otherwise) × List Part). ((branch c.found.0 made.0 behind.0.0, behind.0.1), behind.1)) (built_arms rest made.1))
      (built_from no_statements other c.found.1) found c.gives in
      let m = mapped (λ (behind : (Branches × Otherwise) × List Part). ((branch c.found.0 d.found.0 behind.0.0, behind.0.1), behind.1)) (built_arms rest d.found.1) found d.gives in
      ap (λ (all : (Branches × Otherwise) × List Part). has_branch all.0.0 || has_otherwise all.0.1) (sym m.gives))) of a b h kind_there lies_there jumping rest_lying made e
