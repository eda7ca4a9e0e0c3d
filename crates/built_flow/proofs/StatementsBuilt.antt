-- What is built of a plan of one step, or of a break, stands on it as a statement.
use Rattle.std.proofs.Common.{◌≡◌, ℕ, suc, ◌≤◌, Bool, true, false, inl, inr, List, [], refl, sym, ap, ap₂, ◌∙◌, arith, subst}
use Rattle.std.specs.Prelude.{Option, None, Some, option_map, slice_get, if◌then◌else◌}
use Rattle.lua_num.specs.Bytes.{Text}
use Rattle.lua_tree.specs.Joins.{join_statements}
use Rattle.lua_tree.specs.Syntax.{Statements, no_statements, statement, Statement, Expressions, assignment, call_statement, do_block, function_statement, local_function, local_statement, return_statement, break_statement}
use Rattle.recover_expr.specs.Drafts.{Part, statement_part, values_part}
use Rattle.recover_expr.specs.Placing.{Steps}
use Rattle.recover_expr.specs.declared.steps.StepKind.{StepKind}
use Rattle.recover_flow.specs.Asked.{kind_at}
use Rattle.recover_flow.specs.Built.{built_end, in_block}
use Rattle.recover_flow.specs.Lying as lying
use Rattle.recover_flow.specs.Lying.{StepLies, IsOwn, EndLies, is_captured_at}
use Rattle.recover_flow.specs.Parts.{begins_open, appended, separated, take_statement, take_values}
use Rattle.recover_flow.specs.declared.plan.End.{End}
use Rattle.recover_flow.specs.declared.regions.Exit as region
use Rattle.scheme.specs.Making.{Ahead, Maker, active_count, captured_from}
use Rattle.scheme.specs.Scheme.{statement_made, statements_made}
use Rattle.scheme.specs.Statements.{Loop, close_from}
use Rattle.same_flow.specs.Laid.{Exit, HasStep, LeavesTo, ActLaid, DeclarationLaid, IsBlock, BodyLaid, StatementLaid}
use Rattle.same_flow.specs.Performed.{kind_made}
use Rattle.same_flow.specs.SameFlow.{HasPlainParts}
use Rattle.same_flow.specs.Told.{before_step, FlagTells, IsActPart, IsDeclarationPart, AreTold}
use Rattle.same_flow.proofs.BlocksFollowed.{close_step}
use Rattle.same_flow.proofs.Followed.{Run, nought, LastTo, last_weaker, followed}
use Rattle.same_flow.proofs.RenamedStatements.{statements_rename}
use Rattle.built_flow.proofs.BlocksBuilt.{as_laid, Block, Stands}
use Rattle.built_flow.proofs.CapturesKept.{quiet, none_captured, captured_low, captured_high}
use Rattle.built_flow.proofs.PartsTaken.{AreOf, same_some, mapped, statement_taken, values_taken}
use Rattle.built_flow.proofs.StepsTold.{run_of, Here, same_before, step_tells, stood, has_step, has_kind, has_close, fits_there}

-- ---- by the kinds of statements

act_laid : (code : Steps) (exit : Option Exit) (stop : ℕ) (s : Statement) (loop : Option Loop) (m : Maker) (from to : ℕ) → IsActPart s → ActLaid code m s from to →
    StatementLaid code exit stop s loop m from to
act_laid code exit stop (assignment targets es) loop m from to is arm_made = arm_made
act_laid code exit stop (call_statement e) loop m from to is arm_made = arm_made
act_laid code exit stop (function_statement path method body) loop m from to is arm_made = arm_made
act_laid code exit stop s loop m from to is arm_made = absurd is

undeclared : (s : Statement) → IsActPart s → IsDeclarationPart s → ⊥
undeclared (local_function name body) is d = is
undeclared (local_statement names es) is d = is
undeclared s is d = d

declaration_laid : (code : Steps) (exit : Option Exit) (stop : ℕ) (s : Statement) (loop : Option Loop) (m : Maker) (from to : ℕ) → IsDeclarationPart s → DeclarationLaid code m stop s from to →
    StatementLaid code exit stop s loop m from to
declaration_laid code exit stop (local_function name body) loop m from to is done_there = done_there
declaration_laid code exit stop (local_statement names es) loop m from to is done_there = done_there
declaration_laid code exit stop s loop m from to is done_there = absurd is

declared_anywhere : (s : Statement) (loop : Option Loop) (m : Maker) → IsDeclarationPart s → statement_made s 1 loop m ≡ statement_made s 1 None m
declared_anywhere (local_function name body) loop m is = refl
declared_anywhere (local_statement names es) loop m is = refl
declared_anywhere s loop m is = absurd is

alone_is : (s : Statement) → begins_open s ≡ false → appended no_statements s ≡ statement 1 false s no_statements
alone_is s e = ap (λ b. join_statements (if b then separated no_statements else no_statements) (statement 1 false s no_statements)) e

module _ (code : Steps) (params names : List Text) (ahead : Ahead) (told : AreTold code params names ahead) (plain : HasPlainParts code) where
  abbrev run : Run
  run = run_of code params names ahead

  abbrev pub begins_here : (around_block : Block run) → Here run around_block.maker.active around_block.ends around_block.from
  begins_here around_block = record { maker = around_block.maker; follows = around_block.follows; same = refl }

  -- a declaration tells whether one of its locals is captured
  declared_flag : (around_block : Block run) (stop : ℕ) (captured : Bool) (s : Statement) → LastTo (suc around_block.from) around_block.ends → kind_at code.steps around_block.from ≡ Some (StepKind.Declaration stop captured) →
      slice_get code.parts around_block.from ≡ Some (statement_part s) → captured ≡ captured_from (active_count around_block.maker) (statement_made s 1 None around_block.maker)
  declared_flag around_block stop captured s l k is =
      let before = before_step code params names ahead around_block.from in
      let s' = stood code.steps around_block.from (StepKind.Declaration stop captured) k in
      let t = told around_block.from s'.step s'.there in
      let p = plain around_block.from (statement_part s) is in
      let r = statements_rename.statements nought [] s 1 None p.0 p.1 in
      let same = same_before code params names ahead told around_block.maker around_block.ends around_block.from around_block.follows l in
      let flag = subst (λ x. FlagTells (StepKind.Declaration stop captured) before (kind_made code (StepKind.Declaration stop captured) x before)) (same_some t.part (statement_part s) (sym t.there ∙ is))
      (subst (λ x. FlagTells x before (kind_made code x t.part before)) s'.is t.flag) in
      let made = r.same around_block.maker ∙ ap (statement_made s 1 None) same ∙ sym (r.same before) in
      flag ∙ ap₂ (λ (m n : Maker). captured_from (active_count m) n) (sym same) (sym made)

  one_step : (around_block : Block run) (to : ℕ) (s : Statement) (others : List Part) (kind : StepKind) → AreOf code.parts others → slice_get code.parts around_block.from ≡ Some (statement_part s) → to ≤ around_block.stop →
      kind_at code.steps around_block.from ≡ Some kind → IsOwn around_block.stop kind → to ≡ suc around_block.from → Stands code params names ahead told plain around_block s to (is_captured_at (Some kind)) others
  one_step around_block to s others StepKind.Act of is h k own t =
      let l = last_weaker (suc around_block.from) around_block.stop around_block.ends (omega arith) around_block.lasts in
      let act = fits_there code params names ahead told around_block.from StepKind.Act k (statement_part s) is in
      record {
        laid = act_laid code (as_laid around_block.exit) around_block.stop s around_block.loop around_block.maker around_block.from to act (has_step code params names ahead told around_block.maker.active around_block.ends around_block.from (begins_here around_block) l StepKind.Act k (statement_part s) is, t);
        captures = none_captured (active_count around_block.maker) (statement_made s 1 around_block.loop around_block.maker) (quiet s (undeclared s act) around_block.loop around_block.maker);
        left = of;
      }
  one_step around_block to s others (StepKind.Declaration stop captured) of is h k own t =
      let l = last_weaker (suc around_block.from) around_block.stop around_block.ends (omega arith) around_block.lasts in
      let declares = fits_there code params names ahead told around_block.from (StepKind.Declaration stop captured) k (statement_part s) is in
      let flag = declared_flag around_block stop captured s l k is in
      let has = has_step code params names ahead told around_block.maker.active around_block.ends around_block.from (begins_here around_block) l (StepKind.Declaration stop captured) k (statement_part s) is in
      record {
        laid = declaration_laid code (as_laid around_block.exit) around_block.stop s around_block.loop around_block.maker around_block.from to declares (
          subst (λ x. HasStep code around_block.maker.active around_block.from (StepKind.Declaration x (captured_from (active_count around_block.maker) (statement_made s 1 None around_block.maker))) (statement_part s)) own
              (subst (λ b. HasStep code around_block.maker.active around_block.from (StepKind.Declaration stop b) (statement_part s)) flag has),
          t,
        );
        captures = ap (captured_from (active_count around_block.maker)) (declared_anywhere s around_block.loop around_block.maker declares) ∙ sym flag;
        left = of;
      }
  one_step around_block to s others kind of is h k own t = absurd own

  pub step_stands : (around_block : Block run) (step to : ℕ) (parts : List Part) → AreOf code.parts parts → step ≡ around_block.from → StepLies code.steps around_block.stop around_block.from to → to ≤ around_block.stop → (made : Statement × List Part) →
      take_statement step parts ≡ Some made → Stands code params names ahead told plain around_block made.0 to (is_captured_at (kind_at code.steps step)) made.1
  step_stands around_block step to parts of at (kind, k, own, t) h made e =
      let x = statement_taken code.parts parts step of made e in
      let is = subst (λ p. slice_get code.parts p ≡ Some (statement_part made.0)) at x.is in
      subst (λ b. Stands code params names ahead told plain around_block made.0 to b made.1) (sym (ap is_captured_at (ap (kind_at code.steps) at ∙ k))) (one_step around_block to made.0 made.1 kind x.left is h k own t)

  -- ---- ends

  leaves : (around_block : Block run) (to : ℕ) (exit : Option region.Exit) → to ≤ around_block.stop → lying.LeavesTo code.steps exit around_block.from to → LeavesTo code (as_laid exit) around_block.maker around_block.from to
  leaves around_block to None h lies_there = absurd lies_there
  leaves around_block to (Some exit) h (step, there, inl (low, jump, t)) =
      let l = last_weaker (suc around_block.from) around_block.stop around_block.ends (omega arith) around_block.lasts in
      let tells = step_tells code params names ahead told around_block.maker.active around_block.ends around_block.from (begins_here around_block) l step there in
      let most = tells.captured in
      inl (captured_low exit.locals 0 around_block.maker.active (omega arith), has_kind code params names ahead told around_block.maker.active around_block.ends around_block.from (begins_here around_block) l (StepKind.Jump exit.place) jump, t)
  leaves around_block to (Some exit) h (step, there, inr (high, close, jump, t)) =
      let l = last_weaker (suc around_block.from) around_block.stop around_block.ends (omega arith) around_block.lasts in
      let more = last_weaker (suc (suc around_block.from)) around_block.stop around_block.ends (omega arith) around_block.lasts in
      let tells = step_tells code params names ahead told around_block.maker.active around_block.ends around_block.from (begins_here around_block) l step there in
      let most = tells.captured in
      let closing_there = has_close code params names ahead told around_block.maker.active around_block.ends around_block.from (begins_here around_block) l exit.locals close in
      let standing : Here run around_block.maker.active around_block.ends (suc around_block.from) = record { maker = close_from 1 exit.locals around_block.maker; follows = followed (close_step around_block.maker around_block.ends around_block.from exit.locals closing_there l) around_block.follows; same = refl } in
      inr (captured_high exit.locals 0 around_block.maker.active (omega arith), closing_there, has_kind code params names ahead told around_block.maker.active around_block.ends (suc around_block.from) standing more (StepKind.Jump exit.place) jump, t)

  -- where it stands whatever ends, it stands in a `do` of its own too
  enclosed : (around_block : Block run) (b : Bool) (s : Statement) (to : ℕ) (others : List Part) → begins_open s ≡ false → (IsDeclarationPart s → ⊥) → AreOf code.parts others → around_block.from ≤ to →
      ((stop : ℕ) → StatementLaid code (as_laid around_block.exit) stop s around_block.loop around_block.maker around_block.from to) → Stands code params names ahead told plain around_block (in_block b s) to false others
  enclosed around_block false s to others first no_local of h laid = record {
    laid = laid around_block.stop;
    captures = none_captured (active_count around_block.maker) (statement_made s 1 around_block.loop around_block.maker) (quiet s no_local around_block.loop around_block.maker);
    left = of;
  }
  enclosed around_block true s to others first no_local of h laid =
      let n = active_count around_block.maker in
      let alone = statement 1 false s no_statements in
      let whole = λ (block : Statements). StatementLaid code (as_laid around_block.exit) around_block.stop (do_block block) around_block.loop around_block.maker around_block.from to in
      let none = none_captured n (statements_made alone around_block.loop around_block.maker) (quiet s no_local around_block.loop around_block.maker) in
      record {
        laid = subst whole (sym (alone_is s first)) (subst (λ b. IsBlock code around_block.maker.active n b (λ ends end. BodyLaid code (as_laid around_block.exit) ends alone around_block.loop around_block.maker around_block.from end) around_block.from to) (sym none)
            (refl, to, h, omega arith, laid to, refl));
        captures = none_captured n (statement_made (do_block (appended no_statements s)) 1 around_block.loop around_block.maker) (quiet (do_block (appended no_statements s)) (λ d. d) around_block.loop around_block.maker);
        left = of;
      }

  pub end_stands : (around_block : Block run) (end : End) (b : Bool) (to : ℕ) (parts : List Part) → AreOf code.parts parts → EndLies code.steps around_block.exit end around_block.from to → to ≤ around_block.stop → around_block.from ≤ to →
      (made : Statement × List Part) →
      option_map (λ (kind : Statement × List Part). (in_block b kind.0, kind.1)) (built_end end parts) ≡ Some made → Stands code params names ahead told plain around_block made.0 to false made.1
  end_stands around_block (End.Return step) b to parts of (at, k, t) h order made e =
      let m = mapped (λ (kind : Statement × List Part). (in_block b kind.0, kind.1)) (built_end (End.Return step) parts) made e in
      let v = mapped (λ (taken : Expressions × List Part). (return_statement taken.0, taken.1)) (take_values step parts) m.found m.there in
      let x = values_taken code.parts parts step of v.found v.there in
      let is = subst (λ p. slice_get code.parts p ≡ Some (values_part v.found.0)) at x.is in
      let l = last_weaker (suc around_block.from) around_block.stop around_block.ends (omega arith) around_block.lasts in
      let has = has_step code params names ahead told around_block.maker.active around_block.ends around_block.from (begins_here around_block) l StepKind.Return k (values_part v.found.0) is in
      subst (λ (pair : Statement × List Part). Stands code params names ahead told plain around_block pair.0 to false pair.1)
      (ap (λ (kind : Statement × List Part). (in_block b kind.0, kind.1)) v.gives ∙ m.gives)
      (enclosed around_block b (return_statement v.found.0) to v.found.1 refl (λ d. d) x.left order (λ stop. (has, t)))
  end_stands around_block End.Break b to parts of lies_there h order made e =
      subst (λ (pair : Statement × List Part). Stands code params names ahead told plain around_block pair.0 to false pair.1) (same_some (in_block b break_statement, parts) made e)
      (enclosed around_block b break_statement to parts refl (λ d. d) of order (λ stop. leaves around_block to around_block.exit h lies_there))
