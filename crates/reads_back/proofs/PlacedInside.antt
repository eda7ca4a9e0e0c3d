-- The places that steps name lie inside the function, where its statements stand on them: no jump, no foot and no end lies behind the last step; and the foot of a loop goes back to the step behind its head.
use Rattle.std.proofs.Common.{◌≡◌, ◌<◌, ◌≤◌, ℕ, suc, ◌+◌, ◌-◌, Bool, true, false, not, inl, inr, List, length, refl, sym, ap, ◌∙◌, arith, subst}
use Rattle.std.proofs.lemmas.Bool.Decides.{nat_tests}
use Rattle.std.proofs.lemmas.Option.{same_Some, slice_get_within}
use Rattle.std.specs.Prelude.{Option, None, Some, nat_lt, option_map, slice_get, if◌then◌else◌, ◌||◌}
use Rattle.std.specs.Bool.{beq}
use Rattle.lua_num.specs.Bytes.{Text}
use Rattle.lua_tree.specs.Syntax as syntax
use Rattle.lua_tree.specs.Syntax.{Statements, no_statements, Statement, assignment, call_statement, do_block, while_loop, repeat_loop, if_statement, numeric_for, generic_for, function_statement, local_function, local_statement, return_statement, break_statement, Branches, no_branches, branch, Otherwise, no_otherwise, otherwise, Expression, and_expression, or_expression, unary_expression, parenthesized}
use Rattle.lua_tree.specs.declared.tree.UnaryOp.{UnaryOp}
use Rattle.proto.specs.declared.parts.Constant.{Constant}
use Rattle.recover_expr.specs.Drafts.{Part}
use Rattle.recover_expr.specs.Placing.{Steps}
use Rattle.recover_expr.specs.declared.steps.Step.{Step}
use Rattle.recover_expr.specs.declared.steps.StepKind.{StepKind}
use Rattle.scheme.specs.Expressions.{is_true_constant, literal}
use Rattle.scheme.specs.Making.{Ahead, Maker, active_count, captured_from}
use Rattle.scheme.specs.Scheme.{branches_made, coded, has_branch, has_otherwise, statement_made, statements_made}
use Rattle.scheme.specs.Statements.{Loop, arm_part, settle}
use Rattle.scheme.specs.declared.making.Active.{Active}
use Rattle.same_flow.specs.Laid.{AloneLaid, ArmEnds, BodyLaid, BranchesLaid, Exit, IsBlock, IsClose, IsFor, IsJump, IsStep, LeavesTo, LiteralLaid, OtherwiseLaid, StatementLaid, TestLaid, VariablesEnd, arm_begun, exit_to, for_loop_of, generic_begun, generic_valued, label_of, loop_of, numeric_begun, numeric_valued, repeat_begun, while_begun, with_new_labels}
use Rattle.same_flow.specs.Performed.{kind_at}
use Rattle.same_flow.specs.SameFlow.{AreLaid}

-- each place that a step names is one before a step, or behind the last
abbrev pub GoesInside : (last : ℕ) → StepKind → Type 0
GoesInside last (StepKind.Declaration end captured) = end ≤ last
GoesInside last (StepKind.Test when target negated) = target ≤ last
GoesInside last (StepKind.Jump target) = target ≤ last
GoesInside last (StepKind.Head numeric foot end variables_end captured) = (foot ≤ last) × (end ≤ last) × (variables_end ≤ last)
GoesInside last (StepKind.Foot numeric target) = target ≤ last
GoesInside last kind = Unit {0}

-- the foot of a loop goes back to the step behind its head
abbrev pub GoesBack : Steps → StepKind → Type 0
GoesBack code (StepKind.Foot numeric target) = (foot : ℕ) × (end : ℕ) × (variables_end : ℕ) × (captured : Bool) × (kind_at code.steps (target - 1) ≡ Some (StepKind.Head numeric foot end variables_end captured))
GoesBack code kind = Unit {0}

-- of each step from one place to another
record GoInside (code : Steps) (from to : ℕ) : Type 0 where
  each : (at : ℕ) (step : Step) → from ≤ at → at < to → slice_get code.steps at ≡ Some step → GoesInside (length code.steps) step.kind × GoesBack code step.kind

module _ (code : Steps) where
  abbrev last : ℕ
  last = length code.steps

  abbrev ExitInside : Option Exit → Type 0
  ExitInside None = Unit {0}
  ExitInside (Some exit) = exit.place ≤ last

  nowhere : (from to : ℕ) → to ≡ from → GoInside code from to
  nowhere from to e = record { each = λ at step h l s. absurd (omega (arith, e, h, l)) }

  both : (from mid to : ℕ) → GoInside code from mid → GoInside code mid to → GoInside code from to
  both from mid to one two = record { each = λ at step h l s. by at step h l s (nat_lt at mid) refl }
    where
      by : (at : ℕ) (step : Step) → from ≤ at → at < to → slice_get code.steps at ≡ Some step → (b : Bool) → nat_lt at mid ≡ b → GoesInside last step.kind × GoesBack code step.kind
      by at step h l s true e = one.each at step h (grind (arith, nat_tests)) s
      by at step h l s false e = two.each at step (grind (arith, nat_tests)) l s

  one_step : (active : List Active) (from to : ℕ) (kind : StepKind) → IsStep code active from kind → GoesInside last kind → GoesBack code kind → to ≡ suc from → GoInside code from to
  one_step active from to kind is inside back e = record {
    each = λ at step h l s.
        let here : at ≡ from = omega (arith, e, h, l) in
        let same : is.step ≡ step = same_Some is.step step (sym is.there ∙ ap (slice_get code.steps) (sym here) ∙ s) in
        subst (λ kind. GoesInside last kind × GoesBack code kind) (sym is.is ∙ ap (λ (it : Step). it.kind) same) (inside, back);
  }

  jump_inside : (active : List Active) (from to target : ℕ) → IsJump code active from target → target ≤ last → to ≡ suc from → GoInside code from to
  jump_inside active from to target is inside e = one_step active from to (StepKind.Jump target) is.1.0 inside tt e

  close_inside : (active : List Active) (from to register : ℕ) → IsClose code active from register → to ≡ suc from → GoInside code from to
  close_inside active from to register is e = one_step active from to (StepKind.Close register is.0) is.1.1.0 tt tt e

  -- ---- conditions

  literal_inside : (active : List Active) (jumps : Bool) (target from to : ℕ) → LiteralLaid code active jumps target from to → target ≤ last → GoInside code from to
  literal_inside active true target from to is inside = jump_inside active from to target is.0 inside is.1
  literal_inside active false target from to is inside = nowhere from to is

  alone_inside : (active : List Active) (o : Option Constant) (e : Expression) (sense : Bool) (target from to : ℕ) → AloneLaid code active o e sense target from to → target ≤ last → GoInside code from to
  alone_inside active (Some k) e sense target from to is inside = literal_inside active (beq sense (is_true_constant k)) target from to is.1 inside
  alone_inside active None e sense target from to (when, levels, tested, H, s, t) inside = one_step active from to (StepKind.Test when target levels) H.0 inside tt t

  either_inside : (sense : Bool) (one other : ℕ) → one ≤ last → other ≤ last → (if sense then one else other) ≤ last
  either_inside true one other a b = a
  either_inside false one other a b = b

  test_inside : (active : List Active) (e : Expression) (sense : Bool) (target from to : ℕ) → TestLaid code active e sense target from to → target ≤ last → to ≤ last → GoInside code from to
  test_inside active (and_expression line left right) sense target from to H inside most =
      let order = H.2 in
      both from H.0 to (test_inside active left false (if sense then to else target) from H.0 H.3 (either_inside sense to target most inside) (omega (arith, order, most)))
      (test_inside active right sense target H.0 to H.4 inside most)
  test_inside active (or_expression line left right) sense target from to H inside most =
      let order = H.2 in
      both from H.0 to (test_inside active left true (if sense then target else to) from H.0 H.3 (either_inside sense target to inside most) (omega (arith, order, most)))
      (test_inside active right sense target H.0 to H.4 inside most)
  test_inside active (unary_expression line UnaryOp.Not e) sense target from to H inside most = test_inside active e (not sense) target from to H inside most
  test_inside active (parenthesized line e) sense target from to H inside most = test_inside active e sense target from to H inside most
  test_inside active e sense target from to H inside most = alone_inside active (literal e) e sense target from to H inside

  -- ---- parts of statements

  block_inside : (active : List Active) (n : ℕ) (captured : Bool) (laid : (ends end : ℕ) → Type 0) (from to : ℕ) → IsBlock code active n captured laid from to → to ≤ last →
      ((stop : ℕ) → stop ≤ last → laid stop stop → GoInside code from stop) → GoInside code from to
  block_inside active n false laid from to B most inner = inner to most B
  block_inside active n true laid from to (end, t, h, C, B) most inner =
      both from end to (inner end (omega (arith, t, most)) B) (close_inside active end to n C t)

  leaves_inside : (exit : Option Exit) (m : Maker) (from to : ℕ) → LeavesTo code exit m from to → ExitInside exit → GoInside code from to
  leaves_inside None m from to H around = absurd H
  leaves_inside (Some exit) m from to (inl (c, J, t)) around = jump_inside m.active from to exit.place J around t
  leaves_inside (Some exit) m from to (inr (c, C, J, t)) around =
      both from (suc from) to (close_inside m.active from (suc from) exit.locals C refl) (jump_inside m.active (suc from) to exit.place J around t)

  variables_inside : (active : List Active) (n : ℕ) (captured : Bool) (end foot : ℕ) → VariablesEnd code active n captured end foot → GoInside code end foot × (end ≤ foot)
  variables_inside active n false end foot V = (nowhere end foot V, omega (arith, V))
  variables_inside active n true end foot V = let e = V.0 in (close_inside active end foot n V.1 e, omega (arith, e))

  for_inside : (numeric : Bool) (part : Part) (active hidden : List Active) (n : ℕ) (captured : Bool) (block : (from to : ℕ) → Type 0) (from to : ℕ) →
      IsFor code numeric part active hidden n captured block from to → to ≤ last → ((end : ℕ) → end ≤ last → block (suc from) end → GoInside code (suc from) end) → GoInside code from to
  for_inside numeric part active hidden n captured block from to (foot, variables_end, H, less, B, V, K, t) most inner =
      let behind = variables_inside hidden (n + 3) captured variables_end foot V in
      let order = behind.1 in
      let head : GoesInside last (StepKind.Head numeric foot to variables_end captured) = (omega (arith, t, most), most, omega (arith, t, most, order)) in
      let before : suc from - 1 ≡ from = omega arith in
      let head_there : kind_at code.steps (suc from - 1) ≡ Some (StepKind.Head numeric foot to variables_end captured) = ap (kind_at code.steps) before ∙ ap (option_map (λ (it : Step). it.kind)) H.0.there ∙ ap Some H.0.is in
      both from (suc from) to (one_step active from (suc from) (StepKind.Head numeric foot to variables_end captured) H.0 head tt refl)
      (both (suc from) variables_end to (inner variables_end (omega (arith, t, most, order)) B)
      (both variables_end foot to behind.0 (one_step hidden foot to (StepKind.Foot numeric (suc from)) K.1.0 (omega (arith, t, most, order, less)) (foot, to, variables_end, captured, head_there) t)))

  arm_inside : (more : Bool) (active : List Active) (stop end next : ℕ) → ArmEnds code active more stop end next → end ≤ last → GoInside code stop next × (stop ≤ next)
  arm_inside true active stop end next A inside = let e = A.1 in (jump_inside active stop next end A.0 inside e, omega (arith, e))
  arm_inside false active stop end next A inside = (nowhere stop next A, omega (arith, A))

  -- ---- statements

  mutual
    body_inside : (block : Statements) (exit : Option Exit) (stop : ℕ) (loop : Option Loop) (m : Maker) (from to : ℕ) → BodyLaid code exit stop block loop m from to → ExitInside exit →
        stop ≤ last → to ≤ last → GoInside code from to
    body_inside no_statements exit stop loop m from to B around until most = nowhere from to B
    body_inside (syntax.statement line semi s rest) exit stop loop m from to (one, mid, a, b, S, B) around until most =
        both from mid to (statement_inside s exit stop loop m from mid S around until (omega (arith, b, most)))
        (body_inside rest exit stop loop (settle (statement_made s 1 loop m)) mid to B around until most)

    statement_inside : (s : Statement) (exit : Option Exit) (stop : ℕ) (loop : Option Loop) (m : Maker) (from to : ℕ) → StatementLaid code exit stop s loop m from to → ExitInside exit →
        stop ≤ last → to ≤ last → GoInside code from to
    statement_inside (assignment targets es) exit stop loop m from to S around until most = one_step m.active from to StepKind.Act S.0.0 tt tt S.1
    statement_inside (call_statement x) exit stop loop m from to S around until most = one_step m.active from to StepKind.Act S.0.0 tt tt S.1
    statement_inside (function_statement path method body) exit stop loop m from to S around until most = one_step m.active from to StepKind.Act S.0.0 tt tt S.1
    statement_inside (local_function name body) exit stop loop m from to S around until most = one_step m.active from to (StepKind.Declaration stop _) S.0.0 until tt S.1
    statement_inside (local_statement names es) exit stop loop m from to S around until most = one_step m.active from to (StepKind.Declaration stop _) S.0.0 until tt S.1
    statement_inside (return_statement es) exit stop loop m from to S around until most = one_step m.active from to StepKind.Return S.0.0 tt tt S.1
    statement_inside break_statement exit stop loop m from to S around until most = leaves_inside exit m from to S around
    statement_inside (do_block block) exit stop loop m from to S around until most =
        block_inside m.active (active_count m) (captured_from (active_count m) (statements_made block loop m)) (λ ends end. BodyLaid code exit ends block loop m from end) from to S most
        (λ end inside B. body_inside block exit end loop m from end B around inside inside)
    statement_inside (while_loop x block) exit stop loop m from to (start, back, a, b, T, B, jump, t) around until most =
        let begun = while_begun x m in
        both from start to (test_inside m.active x false to from start T most (omega (arith, b, t, most)))
        (both start back to
        (block_inside m.active (active_count m) (captured_from (active_count m) (statements_made block (loop_of m) begun)) (λ ends end. BodyLaid code (exit_to to m) ends block (loop_of m) begun start end) start back B
        (omega (arith, t, most)) (λ end inside D. body_inside block (exit_to to m) end (loop_of m) begun start end D most inside inside))
        (jump_inside m.active back to from jump (omega (arith, a, b, t, most)) t))
    statement_inside (repeat_loop block x) exit stop loop m from to (start, a, inl (c, b, B, T)) around until most =
        let begun = repeat_begun m in
        let inside = statements_made block (loop_of m) begun in
        both from start to (body_inside block (exit_to to m) to (loop_of m) begun from start B most most (omega (arith, b, most)))
        (test_inside inside.active x false from start to T (omega (arith, a, b, most)) most)
    statement_inside (repeat_loop block x) exit stop loop m from to (start, a, inr (c, tested, b, B, T, C, jump, D, K, t)) around until most =
        let begun = repeat_begun m in
        let inside = statements_made block (loop_of m) begun in
        let later : tested + 2 ≤ last = omega (arith, t, most) in
        both from start to (body_inside block (exit_to to m) (tested + 2) (loop_of m) begun from start B most later (omega (arith, b, later)))
        (both start tested to (test_inside inside.active x false (tested + 2) start tested T later (omega (arith, later)))
        (both tested (tested + 1) to (close_inside inside.active tested (tested + 1) (active_count m) C (omega arith))
        (both (tested + 1) (tested + 2) to (jump_inside inside.active (tested + 1) (tested + 2) to jump most (omega arith))
        (both (tested + 2) (tested + 3) to (close_inside m.active (tested + 2) (tested + 3) (active_count m) D (omega arith))
        (jump_inside m.active (tested + 3) to from K (omega (arith, a, b, later)) (omega (arith, t)))))))
    statement_inside (if_statement branches other) exit stop loop m from to (else_from, a, b, B, O) around until most =
        both from else_from to (branches_inside branches exit (has_otherwise other) (label_of m) to loop (with_new_labels 1 m) from else_from B around most (omega (arith, b, most)))
        (otherwise_inside other exit loop (branches_made branches 1 loop (label_of m) (has_otherwise other) (with_new_labels 1 m)) else_from to O around most)
    statement_inside (numeric_for name first final by block) exit stop loop m from to S around until most =
        let valued = numeric_valued 1 name first final by m in
        let begun = numeric_begun 1 name first final by m in
        let inner = for_loop_of (active_count m) valued in
        for_inside true _ m.active valued.active (active_count m) (captured_from (active_count m + 3) begun)
        (λ start end. IsBlock code begun.active (active_count begun) (captured_from (active_count begun) (statements_made block inner begun)) (λ ends stop. BodyLaid code (exit_to to m) ends block inner begun start stop) start end) from to S most
        (λ end inside B. block_inside begun.active (active_count begun) (captured_from (active_count begun) (statements_made block inner begun)) (λ ends end. BodyLaid code (exit_to to m) ends block inner begun (suc from) end)
        (suc from) end B inside (λ x h D. body_inside block (exit_to to m) x inner begun (suc from) x D most h h))
    statement_inside (generic_for names es block) exit stop loop m from to S around until most =
        let valued = generic_valued 1 names es m in
        let begun = generic_begun 1 names es m in
        let inner = for_loop_of (active_count m) valued in
        for_inside false _ m.active valued.active (active_count m) (captured_from (active_count m + 3) begun)
        (λ start end. IsBlock code begun.active (active_count begun) (captured_from (active_count begun) (statements_made block inner begun)) (λ ends stop. BodyLaid code (exit_to to m) ends block inner begun start stop) start end) from to S most
        (λ end inside B. block_inside begun.active (active_count begun) (captured_from (active_count begun) (statements_made block inner begun)) (λ ends end. BodyLaid code (exit_to to m) ends block inner begun (suc from) end)
        (suc from) end B inside (λ x h D. body_inside block (exit_to to m) x inner begun (suc from) x D most h h))

    branches_inside : (branches : Branches) (exit : Option Exit) (more : Bool) (label end : ℕ) (loop : Option Loop) (m : Maker) (from to : ℕ) →
        BranchesLaid code exit branches more label end loop m from to → ExitInside exit → end ≤ last → to ≤ last → GoInside code from to
    branches_inside no_branches exit more label end loop m from to B around inside most = nowhere from to B
    branches_inside (branch x block rest) exit more label end loop m from to (start, stop, next, a, b, c, T, B, A, R) around inside most =
        let further = has_branch rest || more in
        let begun = arm_begun x m in
        let arm = arm_inside further m.active stop end next A inside in
        let order = arm.1 in
        both from start to (test_inside m.active x false next from start T (omega (arith, c, most)) (omega (arith, b, order, c, most)))
        (both start stop to
        (block_inside m.active (active_count m) (captured_from (active_count m) (statements_made block loop begun)) (λ ends end. BodyLaid code exit ends block loop begun start end) start stop B
        (omega (arith, order, c, most)) (λ y h D. body_inside block exit y loop begun start y D around h h))
        (both stop next to arm.0
        (branches_inside rest exit more label end loop (arm_part 1 label further (coded x) (statements_made block loop) m) next to R around inside most)))

    otherwise_inside : (other : Otherwise) (exit : Option Exit) (loop : Option Loop) (m : Maker) (from to : ℕ) → OtherwiseLaid code exit other loop m from to → ExitInside exit → to ≤ last →
        GoInside code from to
    otherwise_inside no_otherwise exit loop m from to O around most = nowhere from to O
    otherwise_inside (otherwise block) exit loop m from to O around most =
        block_inside m.active (active_count m) (captured_from (active_count m) (statements_made block loop m)) (λ ends end. BodyLaid code exit ends block loop m from end) from to O most
        (λ x h D. body_inside block exit x loop m from x D around h h)

-- the steps on which the statements of a function stand
module _ (code : Steps) (params names : List Text) (ahead : Ahead) (block : Statements) (laid : AreLaid code params names ahead block) (at : ℕ) (step : Step) (there : slice_get code.steps at ≡ Some step) where
  goes : GoesInside (length code.steps) step.kind × GoesBack code step.kind
  goes = (body_inside code block None (length code.steps) None _ 0 (length code.steps) laid tt (omega arith) (omega arith)).each at step (omega arith) (slice_get_within code.steps at step there) there

  pub laid_inside : GoesInside (length code.steps) step.kind
  laid_inside = goes.0

  pub laid_back : GoesBack code step.kind
  laid_back = goes.1
