-- What is built of the plans of `do`, `while` and `repeat` stands on their steps, where this is so of their bodies.
use Rattle.std.proofs.Common.{◌≡◌, ℕ, suc, ◌≤◌, Bool, false, List, length, refl, sym, ap, ◌∙◌, arith, subst}
use Rattle.std.specs.Prelude.{◌||◌, Some, option_map}
use Rattle.lua_num.specs.Bytes.{Text}
use Rattle.lua_tree.specs.Syntax.{Statements, no_statements, Statement, do_block, while_loop}
use Rattle.recover_expr.specs.Drafts.{Part}
use Rattle.recover_expr.specs.Placing.{Steps}
use Rattle.recover_expr.specs.declared.steps.StepKind.{StepKind}
use Rattle.recover_flow.specs.Asked.{kind_at}
use Rattle.recover_flow.specs.Built.{built_from, built_plan}
use Rattle.recover_flow.specs.Conditions.{ConditionTree}
use Rattle.recover_flow.specs.Joining.{Joined, condition_expression}
use Rattle.recover_flow.specs.Lying as lying
use Rattle.recover_flow.specs.Lying.{BodyLies, PlanLies, captures_own, is_captured_at}
use Rattle.recover_flow.specs.Parts.{appended, take_statement}
use Rattle.recover_flow.specs.Plans.{Plans, and_plan, step_plan, do_plan, while_plan}
use Rattle.scheme.specs.Making.{Ahead, active_count, captured_from, place}
use Rattle.scheme.specs.Scheme.{statement_made, statements_made}
use Rattle.scheme.specs.declared.making.Active.{Active}
use Rattle.same_flow.specs.Written.{ComparedOnOne}
use Rattle.same_flow.specs.Laid.{IsBlock, BodyLaid, label_of, with_new_labels, while_begun, loop_of, exit_to}
use Rattle.same_flow.specs.SameFlow.{HasPlainParts}
use Rattle.same_flow.specs.Told.{AreTold}
use Rattle.same_flow.proofs.Followed.{Run, LastTo, last_weaker, relabelled, followed}
use Rattle.same_flow.proofs.KeptActive.{active_kept, kept}
use Rattle.same_flow.proofs.RenamedStatements.{statements_rename}
use Rattle.same_flow.proofs.TestsFollowed.{test_goes}
use Rattle.built_flow.proofs.BlocksBuilt.{as_laid, Block, with_stop, Built, Stands, BlockStands, onwards, append_built, block_stands}
use Rattle.built_flow.proofs.CapturesKept.{quiet, none_captured}
use Rattle.built_flow.proofs.PartsTaken.{AreOf, mapped, chained}
use Rattle.built_flow.proofs.StatementsBuilt.{begins_here, step_stands}
use Rattle.built_flow.proofs.StepsTold.{run_of, Here, step_tells, has_kind}
use Rattle.built_flow.proofs.TestsBuilt.{condition_stands}

module _ (code : Steps) (params names : List Text) (ahead : Ahead) (told : AreTold code params names ahead) (plain : HasPlainParts code) where
  abbrev run : Run
  run = run_of code params names ahead

  -- what is built of a body stands where it lies
  abbrev pub BodyBuilds : Plans → Type 0
  BodyBuilds body =
      (own_block : Block run) (before : Statements) (at to : ℕ) (captured : Bool) (parts : List Part) → Built code params names ahead told plain own_block before at captured parts → to ≤ own_block.stop →
      BodyLies code.steps own_block.exit own_block.stop body at to → (made : Statements × List Part) → built_from before body parts ≡ Some made →
      Built code params names ahead told plain own_block made.0 to (captured || captures_own code.steps body) made.1

  pub at_start : (own_block : Block run) (parts : List Part) → AreOf code.parts parts → Built code params names ahead told plain own_block no_statements own_block.from false parts
  at_start own_block parts of = record { laid = refl; captures = none_captured (active_count own_block.maker) own_block.maker (omega arith); left = of; order = omega arith }

  pub whole_block : (body : Plans) → BodyBuilds body → (own_block : Block run) (parts : List Part) → AreOf code.parts parts →
      lying.IsBlock code.steps (captures_own code.steps body) (λ ends end. BodyLies code.steps own_block.exit ends body own_block.from end) own_block.from own_block.stop →
      (made : Statements × List Part) → built_from no_statements body parts ≡ Some made → BlockStands code params names ahead told plain own_block made.0 made.1
  whole_block body builds own_block parts of lies_there made e =
      block_stands code params names ahead told plain own_block (captures_own code.steps body) (λ ends end. BodyLies code.steps own_block.exit ends body own_block.from end) made.0 made.1
      (λ stop l done_there. builds (with_stop own_block stop l) no_statements own_block.from stop false parts (at_start (with_stop own_block stop l) parts of) (omega arith) done_there made e) lies_there

  pub block_for : (own_block : Block run) (block : Statements) (parts : List Part) (active : List Active) → own_block.maker.active ≡ active → BlockStands code params names ahead told plain own_block block parts →
      IsBlock code active (length active) (captured_from (length active) (statements_made block own_block.loop own_block.maker)) (λ ends end. BodyLaid code (as_laid own_block.exit) ends block own_block.loop own_block.maker own_block.from end) own_block.from own_block.stop
  block_for own_block block parts active same whole_standing =
      subst (λ (a : List Active). IsBlock code a (length a) (captured_from (length a) (statements_made block own_block.loop own_block.maker)) (λ ends end. BodyLaid code (as_laid own_block.exit) ends block own_block.loop own_block.maker own_block.from end) own_block.from own_block.stop)
      same whole_standing.is

  pub no_local : (around_block : Block run) (s : Statement) → active_count (statement_made s 1 around_block.loop around_block.maker) ≤ active_count around_block.maker →
      captured_from (active_count around_block.maker) (statement_made s 1 around_block.loop around_block.maker) ≡ false
  no_local around_block s h = none_captured (active_count around_block.maker) (statement_made s 1 around_block.loop around_block.maker) h

  -- ---- do

  pub do_stands : (around_block : Block run) (step to : ℕ) (body : Plans) (parts : List Part) → BodyBuilds body → AreOf code.parts parts → to ≤ around_block.stop →
      PlanLies code.steps around_block.exit around_block.stop (do_plan step body) around_block.from to →
      (made : Statement × List Part) → built_plan (do_plan step body) parts ≡ Some made → Stands code params names ahead told plain around_block made.0 to false made.1
  do_stands around_block step to body parts builds of h (at, lies_there) made e =
      let c = chained (λ (taken : Statement × List Part). option_map (λ (kind : Statements × List Part). (do_block kind.0, kind.1)) (built_from (appended no_statements taken.0) body taken.1)) (take_statement step parts) made e in
      let m = mapped (λ (kind : Statements × List Part). (do_block kind.0, kind.1)) (built_from (appended no_statements c.found.0) body c.found.1) made c.gives in
      let own_block = with_stop around_block to (last_weaker to around_block.stop around_block.ends h around_block.lasts) in
      let captured = captures_own code.steps (and_plan (step_plan step) body) in
      let lies = λ (ends end : ℕ). lying.StepLies code.steps ends around_block.from (suc around_block.from) × (suc around_block.from ≤ end) × BodyLies code.steps around_block.exit ends body (suc around_block.from) end in
      let whole_standing = block_stands code params names ahead told plain own_block captured lies m.found.0 m.found.1 (λ stop l done_there.
      (let inside_block = with_stop around_block stop l in
      let b = at_start inside_block parts of in
      let less = done_there.1 in
      let k : around_block.from ≤ stop = omega arith in
      let one = step_stands code params names ahead told plain (onwards code params names ahead told plain inside_block no_statements around_block.from k b.laid) step (suc around_block.from) parts of at done_there.0 less c.found c.there in
      let first = append_built code params names ahead told plain inside_block no_statements c.found.0 around_block.from (suc around_block.from) false (is_captured_at (kind_at code.steps step)) parts c.found.1 b k (omega arith) less one in
      builds inside_block (appended no_statements c.found.0) (suc around_block.from) stop (is_captured_at (kind_at code.steps step)) c.found.1 first (omega arith) done_there.2 m.found m.there)) lies_there in
      subst (λ (pair : Statement × List Part). Stands code params names ahead told plain around_block pair.0 to false pair.1) m.gives
      (record { laid = whole_standing.is; captures = no_local around_block (do_block m.found.0) (quiet (do_block m.found.0) (λ d. d) around_block.loop around_block.maker); left = whole_standing.left })

  -- ---- while

  module _ (one : ComparedOnOne code) where
    pub while_stands : (around_block : Block run) (condition : ConditionTree) (to : ℕ) (body : Plans) (parts : List Part) → BodyBuilds body → AreOf code.parts parts → to ≤ around_block.stop →
        PlanLies code.steps around_block.exit around_block.stop (while_plan condition body) around_block.from to →
        (made : Statement × List Part) → built_plan (while_plan condition body) parts ≡ Some made → Stands code params names ahead told plain around_block made.0 to false made.1
    while_stands around_block condition to body parts builds of h (first, start, back, there, a, b, closing_there, lies_there, jumping, t) made e =
        let c = chained (λ (test : Joined). option_map (λ (kind : Statements × List Part). (while_loop test.0 kind.0, kind.1)) (built_from no_statements body test.1)) (condition_expression condition parts) made e in
        let m = mapped (λ (kind : Statements × List Part). (while_loop c.found.0 kind.0, kind.1)) (built_from no_statements body c.found.1) made c.gives in
        let x = c.found.0 in
        let n = around_block.maker in
        let last = last_weaker to around_block.stop around_block.ends h around_block.lasts in
        let until = last_weaker start to around_block.ends (omega arith) last in
        let tells = step_tells code params names ahead told n.active around_block.ends around_block.from (begins_here code params names ahead told plain around_block) (last_weaker (suc around_block.from) to around_block.ends (omega arith) last) first there in
        let test_standing = condition_stands code params names ahead told plain one n.active around_block.ends condition false to around_block.from start parts of (begins_here code params names ahead told plain around_block) until closing_there c.found c.there in
        let test = test_goes run statements_rename plain n.active (place (suc (label_of n)) (with_new_labels 2 n)) around_block.ends x false (label_of n) to around_block.from start test_standing.laid until in
        let own_block : Block run = record {
          exit = lying.exit_to to first;
          stop = back;
          loop = loop_of n;
          maker = while_begun x n;
          ends = around_block.ends;
          from = start;
          follows = followed test (relabelled _ around_block.follows);
          matches = sym tells.base;
          lasts = last_weaker back to around_block.ends (omega arith) last;
        } in
        let whole_standing = whole_block body builds own_block c.found.1 test_standing.left lies_there m.found m.there in
        let same : (while_begun x n).active ≡ n.active = active_kept ((kept x).jump_if false (label_of n)) (place (suc (label_of n)) (with_new_labels 2 n)) in
        let standing : Here run n.active around_block.ends back = record { maker = _; follows = whole_standing.behind; same = whole_standing.kept ∙ same } in
        let jump = has_kind code params names ahead told n.active around_block.ends back standing (subst (λ y. LastTo y around_block.ends) t last) (StepKind.Jump around_block.from) jumping in
        let exit : as_laid (lying.exit_to to first) ≡ exit_to to n = ap (λ k. Some (record { place = to; locals = k })) tells.base in
        let block = subst (λ y. IsBlock code n.active (active_count n) (captured_from (active_count n) (statements_made m.found.0 (loop_of n) (while_begun x n)))
        (λ ends end. BodyLaid code y ends m.found.0 (loop_of n) (while_begun x n) start end) start back) exit (block_for own_block m.found.0 m.found.1 n.active same whole_standing) in
        subst (λ (pair : Statement × List Part). Stands code params names ahead told plain around_block pair.0 to false pair.1) m.gives
        (record { laid = (start, back, a, b, test_standing.laid, block, jump, t); captures = no_local around_block (while_loop x m.found.0) (quiet (while_loop x m.found.0) (λ d. d) around_block.loop around_block.maker); left = whole_standing.left })
