-- Before the foot of a loop its three hidden locals are active.
use Rattle.std.proofs.Common.{◌≡◌, ◌<◌, ◌≤◌, ℕ, suc, ◌+◌, Bool, true, false, not, inl, inr, List, [], ◌∷◌, ◌++◌, length, refl, sym, ap, ◌∙◌, arith, subst, if◌then◌else◌}
use Rattle.std.proofs.lemmas.Bool.Decides.{nat_tests}
use Rattle.std.proofs.lemmas.Option.{same_Some, slice_get_within}
use Rattle.std.specs.Bool.{beq}
use Rattle.std.specs.Prelude.{◌||◌, None, Option, Some, nat_lt, slice_get}
use Rattle.lua_num.specs.Bytes.{Text}
use Rattle.lua_tree.specs.Syntax as syntax
use Rattle.lua_tree.specs.Syntax.{Statements, no_statements, Statement, assignment, call_statement, do_block, while_loop, repeat_loop, if_statement, numeric_for, generic_for, function_statement, local_function, local_statement, return_statement, break_statement, Branches, no_branches, branch, Otherwise, no_otherwise, otherwise, Expression, and_expression, or_expression, unary_expression, parenthesized}
use Rattle.lua_tree.specs.declared.tree.UnaryOp.{UnaryOp}
use Rattle.proto.specs.declared.parts.Constant.{Constant}
use Rattle.recover_expr.specs.Drafts.{Part}
use Rattle.recover_expr.specs.Placing.{Steps}
use Rattle.recover_expr.specs.declared.steps.Step.{Step}
use Rattle.recover_expr.specs.declared.steps.StepKind.{StepKind}
use Rattle.scheme.specs.Expressions.{is_true_constant, literal}
use Rattle.scheme.specs.Making.{Ahead, Maker, active_count, captured_from}
use Rattle.scheme.specs.Scheme.{branches_made, coded, has_branch, has_otherwise, statement_made, statements_made}
use Rattle.scheme.specs.Statements.{Loop, arm_part, settle}
use Rattle.scheme.specs.declared.making.Active.{Active}
use Rattle.same_flow.specs.Laid.{AloneLaid, ArmEnds, BodyLaid, BranchesLaid, Exit, IsBlock, IsClose, IsFor, IsJump, IsStep, LeavesTo, LiteralLaid, OtherwiseLaid, StatementLaid, TestLaid, VariablesEnd, arm_begun, exit_to, for_loop_of, generic_begun, generic_valued, label_of, loop_of, numeric_begun, numeric_valued, repeat_begun, while_begun, with_new_labels}
use Rattle.same_flow.specs.SameFlow.{AreLaid}
use Rattle.same_flow.proofs.Followed.{length_both}

-- where so many locals are active before a step of a kind
abbrev pub HasHidden : StepKind → (count : ℕ) → Type 0
HasHidden (StepKind.Foot numeric target) count = 3 ≤ count
HasHidden kind count = Unit {0}

-- so it is at each step from one place to another
record HeldBetween (code : Steps) (from to : ℕ) : Type 0 where
  each : (at : ℕ) (step : Step) → from ≤ at → at < to → slice_get code.steps at ≡ Some step → HasHidden step.kind step.base

three_more : (active : List Active) (one two three : Active) → 3 ≤ length (((active ++ one ∷ []) ++ two ∷ []) ++ three ∷ [])
three_more active one two three =
    omega (arith, length_both ((active ++ one ∷ []) ++ two ∷ []) (three ∷ []), length_both (active ++ one ∷ []) (two ∷ []), length_both active (one ∷ []))

module _ (code : Steps) where
  nowhere : (from to : ℕ) → to ≡ from → HeldBetween code from to
  nowhere from to e = record { each = λ at step h l s. absurd (omega (arith, e, h, l)) }

  both : (from mid to : ℕ) → HeldBetween code from mid → HeldBetween code mid to → HeldBetween code from to
  both from mid to one two = record { each = λ at step h l s. by at step h l s (nat_lt at mid) refl }
    where
      by : (at : ℕ) (step : Step) → from ≤ at → at < to → slice_get code.steps at ≡ Some step → (b : Bool) → nat_lt at mid ≡ b → HasHidden step.kind step.base
      by at step h l s true e = one.each at step h (grind (arith, nat_tests)) s
      by at step h l s false e = two.each at step (grind (arith, nat_tests)) l s

  one_step : (active : List Active) (from to : ℕ) (kind : StepKind) → IsStep code active from kind → HasHidden kind (length active) → to ≡ suc from → HeldBetween code from to
  one_step active from to kind is hidden e = record {
    each = λ at step h l s.
        let here : at ≡ from = omega (arith, e, h, l) in
        let same : is.step ≡ step = same_Some is.step step (sym is.there ∙ ap (slice_get code.steps) (sym here) ∙ s) in
        subst (λ (step : Step). HasHidden step.kind step.base) same (subst (λ kind. HasHidden kind is.step.base) (sym is.is) (subst (HasHidden kind) (sym is.tells.base) hidden));
  }

  jump_held : (active : List Active) (from to target : ℕ) → IsJump code active from target → to ≡ suc from → HeldBetween code from to
  jump_held active from to target is e = one_step active from to (StepKind.Jump target) is.1.0 tt e

  close_held : (active : List Active) (from to register : ℕ) → IsClose code active from register → to ≡ suc from → HeldBetween code from to
  close_held active from to register is e = one_step active from to (StepKind.Close register is.0) is.1.1.0 tt e

  -- ---- conditions

  literal_held : (active : List Active) (jumps : Bool) (target from to : ℕ) → LiteralLaid code active jumps target from to → HeldBetween code from to
  literal_held active true target from to is = jump_held active from to target is.0 is.1
  literal_held active false target from to is = nowhere from to is

  alone_held : (active : List Active) (o : Option Constant) (e : Expression) (sense : Bool) (target from to : ℕ) → AloneLaid code active o e sense target from to → HeldBetween code from to
  alone_held active (Some k) e sense target from to is = literal_held active (beq sense (is_true_constant k)) target from to is.1
  alone_held active None e sense target from to (when, levels, tested, H, s, t) = one_step active from to (StepKind.Test when target levels) H.0 tt t

  test_held : (active : List Active) (e : Expression) (sense : Bool) (target from to : ℕ) → TestLaid code active e sense target from to → HeldBetween code from to
  test_held active (and_expression line left right) sense target from to H =
      both from H.0 to (test_held active left false (if sense then to else target) from H.0 H.3) (test_held active right sense target H.0 to H.4)
  test_held active (or_expression line left right) sense target from to H =
      both from H.0 to (test_held active left true (if sense then target else to) from H.0 H.3) (test_held active right sense target H.0 to H.4)
  test_held active (unary_expression line UnaryOp.Not e) sense target from to H = test_held active e (not sense) target from to H
  test_held active (parenthesized line e) sense target from to H = test_held active e sense target from to H
  test_held active e sense target from to H = alone_held active (literal e) e sense target from to H

  -- ---- parts of statements

  block_held : (active : List Active) (n : ℕ) (captured : Bool) (laid : (ends end : ℕ) → Type 0) (from to : ℕ) → IsBlock code active n captured laid from to → ((stop : ℕ) → laid stop stop → HeldBetween code from stop) → HeldBetween code from to
  block_held active n false laid from to B inner = inner to B
  block_held active n true laid from to (end, t, h, C, B) inner = both from end to (inner end B) (close_held active end to n C t)

  leaves_held : (exit : Option Exit) (m : Maker) (from to : ℕ) → LeavesTo code exit m from to → HeldBetween code from to
  leaves_held None m from to H = absurd H
  leaves_held (Some exit) m from to (inl (c, J, t)) = jump_held m.active from to exit.place J t
  leaves_held (Some exit) m from to (inr (c, C, J, t)) = both from (suc from) to (close_held m.active from (suc from) exit.locals C refl) (jump_held m.active (suc from) to exit.place J t)

  variables_held : (active : List Active) (n : ℕ) (captured : Bool) (end foot : ℕ) → VariablesEnd code active n captured end foot → HeldBetween code end foot
  variables_held active n false end foot V = nowhere end foot V
  variables_held active n true end foot V = close_held active end foot n V.1 V.0

  for_held : (numeric : Bool) (part : Part) (active hidden : List Active) (n : ℕ) (captured : Bool) (block : (from to : ℕ) → Type 0) (from to : ℕ) → 3 ≤ length hidden → IsFor code numeric part active hidden n captured block from to →
      ((end : ℕ) → block (suc from) end → HeldBetween code (suc from) end) → HeldBetween code from to
  for_held numeric part active hidden n captured block from to three (foot, variables_end, H, less, B, V, K, t) inner =
      both from (suc from) to (one_step active from (suc from) (StepKind.Head numeric foot to variables_end captured) H.0 tt refl)
      (both (suc from) variables_end to (inner variables_end B)
      (both variables_end foot to (variables_held hidden (n + 3) captured variables_end foot V) (one_step hidden foot to (StepKind.Foot numeric (suc from)) K.1.0 three t)))

  arm_held : (more : Bool) (active : List Active) (stop end next : ℕ) → ArmEnds code active more stop end next → HeldBetween code stop next
  arm_held true active stop end next A = jump_held active stop next end A.0 A.1
  arm_held false active stop end next A = nowhere stop next A

  -- ---- statements

  mutual
    body_held : (block : Statements) (exit : Option Exit) (stop : ℕ) (loop : Option Loop) (m : Maker) (from to : ℕ) → BodyLaid code exit stop block loop m from to → HeldBetween code from to
    body_held no_statements exit stop loop m from to B = nowhere from to B
    body_held (syntax.statement line semi s rest) exit stop loop m from to (one, mid, a, b, S, B) =
        both from mid to (statement_held s exit stop loop m from mid S) (body_held rest exit stop loop (settle (statement_made s 1 loop m)) mid to B)

    statement_held : (s : Statement) (exit : Option Exit) (stop : ℕ) (loop : Option Loop) (m : Maker) (from to : ℕ) → StatementLaid code exit stop s loop m from to → HeldBetween code from to
    statement_held (assignment targets es) exit stop loop m from to S = one_step m.active from to StepKind.Act S.0.0 tt S.1
    statement_held (call_statement x) exit stop loop m from to S = one_step m.active from to StepKind.Act S.0.0 tt S.1
    statement_held (function_statement path method body) exit stop loop m from to S = one_step m.active from to StepKind.Act S.0.0 tt S.1
    statement_held (local_function name body) exit stop loop m from to S = one_step m.active from to (StepKind.Declaration stop _) S.0.0 tt S.1
    statement_held (local_statement names es) exit stop loop m from to S = one_step m.active from to (StepKind.Declaration stop _) S.0.0 tt S.1
    statement_held (return_statement es) exit stop loop m from to S = one_step m.active from to StepKind.Return S.0.0 tt S.1
    statement_held break_statement exit stop loop m from to S = leaves_held exit m from to S
    statement_held (do_block block) exit stop loop m from to S =
        block_held m.active (active_count m) (captured_from (active_count m) (statements_made block loop m)) (λ ends end. BodyLaid code exit ends block loop m from end) from to S (λ end B. body_held block exit end loop m from end B)
    statement_held (while_loop x block) exit stop loop m from to (start, back, a, b, T, B, jump, t) =
        let begun = while_begun x m in
        both from start to (test_held m.active x false to from start T)
        (both start back to
        (block_held m.active (active_count m) (captured_from (active_count m) (statements_made block (loop_of m) begun)) (λ ends end. BodyLaid code (exit_to to m) ends block (loop_of m) begun start end) start back B
        (λ end D. body_held block (exit_to to m) end (loop_of m) begun start end D))
        (jump_held m.active back to from jump t))
    statement_held (repeat_loop block x) exit stop loop m from to (start, a, inl (c, b, B, T)) =
        let begun = repeat_begun m in
        let inside = statements_made block (loop_of m) begun in
        both from start to (body_held block (exit_to to m) to (loop_of m) begun from start B) (test_held inside.active x false from start to T)
    statement_held (repeat_loop block x) exit stop loop m from to (start, a, inr (c, tested, b, B, T, C, jump, D, K, t)) =
        let begun = repeat_begun m in
        let inside = statements_made block (loop_of m) begun in
        both from start to (body_held block (exit_to to m) (tested + 2) (loop_of m) begun from start B)
        (both start tested to (test_held inside.active x false (tested + 2) start tested T)
        (both tested (tested + 1) to (close_held inside.active tested (tested + 1) (active_count m) C (omega arith))
        (both (tested + 1) (tested + 2) to (jump_held inside.active (tested + 1) (tested + 2) to jump (omega arith))
        (both (tested + 2) (tested + 3) to (close_held m.active (tested + 2) (tested + 3) (active_count m) D (omega arith)) (jump_held m.active (tested + 3) to from K (omega (arith, t)))))))
    statement_held (if_statement branches other) exit stop loop m from to (else_from, a, b, B, O) =
        both from else_from to (branches_held branches exit (has_otherwise other) (label_of m) to loop (with_new_labels 1 m) from else_from B)
        (otherwise_held other exit loop (branches_made branches 1 loop (label_of m) (has_otherwise other) (with_new_labels 1 m)) else_from to O)
    statement_held (numeric_for name first final by block) exit stop loop m from to S =
        let valued = numeric_valued 1 name first final by m in
        let begun = numeric_begun 1 name first final by m in
        let inner = for_loop_of (active_count m) valued in
        for_held true _ m.active valued.active (active_count m) (captured_from (active_count m + 3) begun)
        (λ start end. IsBlock code begun.active (active_count begun) (captured_from (active_count begun) (statements_made block inner begun)) (λ ends stop. BodyLaid code (exit_to to m) ends block inner begun start stop) start end) from to
        (three_more _ _ _ _) S
        (λ end B. block_held begun.active (active_count begun) (captured_from (active_count begun) (statements_made block inner begun)) (λ ends end. BodyLaid code (exit_to to m) ends block inner begun (suc from) end)
        (suc from) end B (λ x D. body_held block (exit_to to m) x inner begun (suc from) x D))
    statement_held (generic_for names es block) exit stop loop m from to S =
        let valued = generic_valued 1 names es m in
        let begun = generic_begun 1 names es m in
        let inner = for_loop_of (active_count m) valued in
        for_held false _ m.active valued.active (active_count m) (captured_from (active_count m + 3) begun)
        (λ start end. IsBlock code begun.active (active_count begun) (captured_from (active_count begun) (statements_made block inner begun)) (λ ends stop. BodyLaid code (exit_to to m) ends block inner begun start stop) start end) from to
        (three_more _ _ _ _) S
        (λ end B. block_held begun.active (active_count begun) (captured_from (active_count begun) (statements_made block inner begun)) (λ ends end. BodyLaid code (exit_to to m) ends block inner begun (suc from) end)
        (suc from) end B (λ x D. body_held block (exit_to to m) x inner begun (suc from) x D))

    branches_held : (branches : Branches) (exit : Option Exit) (more : Bool) (label end : ℕ) (loop : Option Loop) (m : Maker) (from to : ℕ) → BranchesLaid code exit branches more label end loop m from to → HeldBetween code from to
    branches_held no_branches exit more label end loop m from to B = nowhere from to B
    branches_held (branch x block rest) exit more label end loop m from to (start, stop, next, a, b, c, T, B, A, R) =
        let further = has_branch rest || more in
        let begun = arm_begun x m in
        both from start to (test_held m.active x false next from start T)
        (both start stop to
        (block_held m.active (active_count m) (captured_from (active_count m) (statements_made block loop begun)) (λ ends end. BodyLaid code exit ends block loop begun start end) start stop B
        (λ y D. body_held block exit y loop begun start y D))
        (both stop next to (arm_held further m.active stop end next A)
        (branches_held rest exit more label end loop (arm_part 1 label further (coded x) (statements_made block loop) m) next to R)))

    otherwise_held : (other : Otherwise) (exit : Option Exit) (loop : Option Loop) (m : Maker) (from to : ℕ) → OtherwiseLaid code exit other loop m from to → HeldBetween code from to
    otherwise_held no_otherwise exit loop m from to O = nowhere from to O
    otherwise_held (otherwise block) exit loop m from to O =
        block_held m.active (active_count m) (captured_from (active_count m) (statements_made block loop m)) (λ ends end. BodyLaid code exit ends block loop m from end) from to O (λ x D. body_held block exit x loop m from x D)

-- the steps on which the statements of a function stand
pub feet_held : (code : Steps) (params names : List Text) (ahead : Ahead) (block : Statements) → AreLaid code params names ahead block → (at : ℕ) (step : Step) → slice_get code.steps at ≡ Some step → HasHidden step.kind step.base
feet_held code params names ahead block laid at step there = (body_held code block None (length code.steps) None _ 0 (length code.steps) laid).each at step (omega arith) (slice_get_within code.steps at step there) there
