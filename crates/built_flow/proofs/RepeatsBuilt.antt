-- What is built of the plan of a `repeat` stands on its steps, where this is so of its body.
use Rattle.std.proofs.Common.{◌≡◌, ℕ, suc, ◌+◌, ◌≤◌, ◌<◌, true, false, inl, inr, List, [], ◌++◌, length, take, sym, ap, ◌∙◌, arith, subst}
use Rattle.std.specs.Prelude.{Option, Some, option_map}
use Rattle.lua_num.specs.Bytes.{Text}
use Rattle.lua_tree.specs.Syntax.{Statements, no_statements, Statement, repeat_loop}
use Rattle.recover_expr.specs.Drafts.{Part}
use Rattle.recover_expr.specs.Placing.{Steps}
use Rattle.recover_expr.specs.declared.steps.StepKind.{StepKind}
use Rattle.recover_flow.specs.Asked.{closes}
use Rattle.recover_flow.specs.Built.{built_from, built_plan, built_condition}
use Rattle.recover_flow.specs.Conditions.{ConditionTree}
use Rattle.recover_flow.specs.Joining.{Joined}
use Rattle.recover_flow.specs.Lying as lying
use Rattle.recover_flow.specs.Lying.{PlanLies}
use Rattle.recover_flow.specs.Plans.{Plans, repeat_plan}
use Rattle.scheme.specs.Making.{Ahead, active_count, free_from, end_locals, jump_to}
use Rattle.scheme.specs.Statements.{close_from}
use Rattle.scheme.specs.declared.making.Active.{Active}
use Rattle.same_flow.specs.Written.{ComparedOnOne}
use Rattle.same_flow.specs.Laid.{IsClose, IsJump, BodyLaid, repeat_begun, loop_of, exit_to}
use Rattle.same_flow.specs.SameFlow.{HasPlainParts}
use Rattle.same_flow.specs.Told.{AreTold}
use Rattle.same_flow.proofs.BlocksFollowed.{close_step}
use Rattle.same_flow.proofs.Followed.{Run, EndBy, LastTo, last_weaker, relabelled, followed, ended}
use Rattle.same_flow.proofs.TestsFollowed.{jump_step}
use Rattle.built_flow.proofs.BlocksBuilt.{as_laid, Block, Stands, grown, onwards}
use Rattle.built_flow.proofs.CapturesKept.{kept_front, quiet}
use Rattle.built_flow.proofs.PartsTaken.{AreOf, mapped, chained}
use Rattle.built_flow.proofs.StatementsBuilt.{begins_here}
use Rattle.built_flow.proofs.StepsTold.{run_of, Here, step_tells, has_kind, has_close, test_here}
use Rattle.built_flow.proofs.TestsBuilt.{test_stands}
use Rattle.built_flow.proofs.LoopsBuilt.{BodyBuilds, at_start, no_local}

next_one : (n : ℕ) → suc n ≡ n + 1
next_one n = omega arith

next_two : (n : ℕ) → suc (n + 1) ≡ n + 2
next_two n = omega arith

next_three : (n : ℕ) → suc (n + 2) ≡ n + 3
next_three n = omega arith

module _ (code : Steps) (params names : List Text) (ahead : Ahead) (told : AreTold code params names ahead) (plain : HasPlainParts code) (one : ComparedOnOne code) where
  abbrev run : Run
  run = run_of code params names ahead

  here_at : (active : List Active) (ends : List ℕ) (p q : ℕ) → p ≡ q → Here run active ends p → Here run active ends q
  here_at active ends p q e standing = subst (λ x. Here run active ends x) e standing

  pub behind_close : (active : List Active) (ends : List ℕ) (p n : ℕ) → Here run active ends p → IsClose code active p n → LastTo (suc p) ends → Here run active ends (suc p)
  behind_close active ends p n standing closing_there l = record { maker = close_from 1 n standing.maker; follows = followed (close_step standing.maker ends p n closing_there l) standing.follows; same = standing.same }

  behind_jump : (active : List Active) (ends : List ℕ) (p target : ℕ) → Here run active ends p → IsJump code active p target → LastTo (suc p) ends → Here run active ends (suc p)
  behind_jump active ends p target standing jumping l = record { maker = jump_to 1 0 standing.maker; follows = followed (jump_step standing.maker ends p 0 target jumping l) standing.follows; same = standing.same }

  pub locals_end : (active : List Active) (ends new : List ℕ) (n p : ℕ) → length ends ≡ n → EndBy p new → Here run active (ends ++ new) p → Here run (take n active) ends p
  locals_end active ends new n p e h standing = record {
    maker = free_from n (end_locals n standing.maker);
    follows = followed {outer = []} (ended n new e h) standing.follows;
    same = ap (λ (l : List Active). take n l) standing.same;
  }

  pub repeat_stands : (around_block : Block run) (body : Plans) (condition : Option ConditionTree) (to : ℕ) (parts : List Part) → BodyBuilds code params names ahead told plain body → AreOf code.parts parts →
      around_block.from < to → to ≤ around_block.stop →
      PlanLies code.steps around_block.exit around_block.stop (repeat_plan body condition) around_block.from to →
      (made : Statement × List Part) → built_plan (repeat_plan body condition) parts ≡ Some made → Stands code params names ahead told plain around_block made.0 to false made.1
  repeat_stands around_block body condition to parts builds of less h (first, start, there, a, inl (b, captured, lies_there, kind_there)) made e =
      let c = chained (λ (kind : Statements × List Part). option_map (λ (test : Joined). (repeat_loop kind.0 test.0, test.1)) (built_condition condition kind.1)) (built_from no_statements body parts) made e in
      let m = mapped (λ (test : Joined). (repeat_loop c.found.0 test.0, test.1)) (built_condition condition c.found.1) made c.gives in
      let n = around_block.maker in
      let last = last_weaker to around_block.stop around_block.ends h around_block.lasts in
      let tells = step_tells code params names ahead told n.active around_block.ends around_block.from (begins_here code params names ahead told plain around_block) (last_weaker (suc around_block.from) to around_block.ends (omega arith) last) first there in
      let own_block : Block run = record {
        exit = lying.exit_to to first;
        stop = to;
        loop = loop_of n;
        maker = repeat_begun n;
        ends = around_block.ends;
        from = around_block.from;
        follows = relabelled _ around_block.follows;
        matches = sym tells.base;
        lasts = last;
      } in
      let built = builds own_block no_statements around_block.from start false parts (at_start code params names ahead told plain own_block parts of) b lies_there c.found c.there in
      let inside_block = onwards code params names ahead told plain own_block c.found.0 start b built.laid in
      let test_standing = test_stands code params names ahead told plain one inside_block.maker.active inside_block.ends condition around_block.from start to c.found.1 built.left (begins_here code params names ahead told plain inside_block) inside_block.lasts kind_there m.found m.there in
      let exit : as_laid (lying.exit_to to first) ≡ exit_to to n = ap (λ k. Some (record { place = to; locals = k })) tells.base in
      let block = subst (λ y. BodyLaid code y to c.found.0 (loop_of n) (repeat_begun n) around_block.from start) exit built.laid in
      subst (λ (pair : Statement × List Part). Stands code params names ahead told plain around_block pair.0 to false pair.1) m.gives
      (record {
        laid = (start, a, inl (built.captures ∙ captured, b, block, test_standing.laid));
        captures = no_local code params names ahead told plain around_block (repeat_loop c.found.0 m.found.0) (quiet (repeat_loop c.found.0 m.found.0) (λ d. d) around_block.loop around_block.maker);
        left = test_standing.left;
      })
  repeat_stands around_block body condition to parts builds of less h (first, start, there, a, inr (tested, b, captured, lies_there, kind_there, (close, leave, again, back, t))) made e =
      let c = chained (λ (kind : Statements × List Part). option_map (λ (test : Joined). (repeat_loop kind.0 test.0, test.1)) (built_condition condition kind.1)) (built_from no_statements body parts) made e in
      let m = mapped (λ (test : Joined). (repeat_loop c.found.0 test.0, test.1)) (built_condition condition c.found.1) made c.gives in
      let n = around_block.maker in
      let last = last_weaker to around_block.stop around_block.ends h around_block.lasts in
      let tells = step_tells code params names ahead told n.active around_block.ends around_block.from (begins_here code params names ahead told plain around_block) (last_weaker (suc around_block.from) to around_block.ends (omega arith) last) first there in
      let own_block : Block run = record {
        exit = lying.exit_to to first;
        stop = tested + 2;
        loop = loop_of n;
        maker = repeat_begun n;
        ends = around_block.ends;
        from = around_block.from;
        follows = relabelled _ around_block.follows;
        matches = sym tells.base;
        lasts = last_weaker (tested + 2) to around_block.ends (omega arith) last;
      } in
      let until : start ≤ tested + 2 = omega arith in
      let built = builds own_block no_statements around_block.from start false parts (at_start code params names ahead told plain own_block parts of) until lies_there c.found c.there in
      let growth = grown code params names ahead told plain own_block c.found.0 start until built.laid in
      let inside_block = onwards code params names ahead told plain own_block c.found.0 start until built.laid in
      let inside = inside_block.maker.active in
      let lasting = λ (p : ℕ) (k : p ≤ tested + 2). last_weaker p (tested + 2) inside_block.ends k inside_block.lasts in
      let test_standing = test_stands code params names ahead told plain one inside inside_block.ends condition (tested + 2) start tested c.found.1 built.left (begins_here code params names ahead told plain inside_block) (lasting tested (omega arith)) kind_there m.found m.there in
      let zero_here = test_here code params names ahead told plain inside inside_block.ends m.found.0 false (tested + 2) start tested (begins_here code params names ahead told plain inside_block) test_standing.laid (lasting tested (omega arith)) in
      let closing_there = has_close code params names ahead told inside inside_block.ends tested zero_here (lasting (suc tested) (omega arith)) (active_count n) (subst (λ k. closes code.steps tested k ≡ true) tells.base close) in
      let one_here = here_at inside inside_block.ends (suc tested) (tested + 1) (next_one tested) (behind_close inside inside_block.ends tested (active_count n) zero_here closing_there (lasting (suc tested) (omega arith))) in
      let jumping = has_kind code params names ahead told inside inside_block.ends (tested + 1) one_here (lasting (suc (tested + 1)) (omega arith)) (StepKind.Jump to) leave in
      let two_here = here_at inside inside_block.ends (suc (tested + 1)) (tested + 2) (next_two tested) (behind_jump inside inside_block.ends (tested + 1) to one_here jumping (lasting (suc (tested + 1)) (omega arith))) in
      let front = kept_front run plain n inside_block.maker around_block.ends growth.new around_block.from start around_block.follows inside_block.follows a (last_weaker start to around_block.ends (omega arith) last) in
      let outside = subst (λ (l : List Active). Here run l around_block.ends (tested + 2)) front (locals_end inside around_block.ends growth.new (active_count n) (tested + 2) around_block.follows.count growth.ends_by two_here) in
      let l₃ = last_weaker (suc (tested + 2)) to around_block.ends (omega arith) last in
      let done_there = has_close code params names ahead told n.active around_block.ends (tested + 2) outside l₃ (active_count n) (subst (λ k. closes code.steps (tested + 2) k ≡ true) tells.base again) in
      let three_here = here_at n.active around_block.ends (suc (tested + 2)) (tested + 3) (next_three tested) (behind_close n.active around_block.ends (tested + 2) (active_count n) outside done_there l₃) in
      let rest_lying = has_kind code params names ahead told n.active around_block.ends (tested + 3) three_here (last_weaker (suc (tested + 3)) to around_block.ends (omega arith) last) (StepKind.Jump around_block.from) back in
      let exit : as_laid (lying.exit_to to first) ≡ exit_to to n = ap (λ k. Some (record { place = to; locals = k })) tells.base in
      let block = subst (λ y. BodyLaid code y (tested + 2) c.found.0 (loop_of n) (repeat_begun n) around_block.from start) exit built.laid in
      subst (λ (pair : Statement × List Part). Stands code params names ahead told plain around_block pair.0 to false pair.1) m.gives
      (record {
        laid = (start, a, inr (built.captures ∙ captured, tested, b, block, test_standing.laid, closing_there, jumping, done_there, rest_lying, t));
        captures = no_local code params names ahead told plain around_block (repeat_loop c.found.0 m.found.0) (quiet (repeat_loop c.found.0 m.found.0) (λ d. d) around_block.loop around_block.maker);
        left = test_standing.left;
      })
