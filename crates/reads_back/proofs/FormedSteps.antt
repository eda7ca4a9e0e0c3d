-- The part of each step is well-formed, where the statements are that stand on the steps of a function.
use Rattle.std.proofs.Common.{◌≡◌, ◌<◌, ◌≤◌, ℕ, suc, ◌+◌, Bool, true, false, not, inl, inr, List, length, refl, sym, ap, ◌∙◌, arith, subst}
use Rattle.std.proofs.lemmas.Bool.Decides.{nat_tests}
use Rattle.std.proofs.lemmas.Option.{same_Some, slice_get_within}
use Rattle.std.specs.Prelude.{Option, None, Some, nat_lt, slice_get, if◌then◌else◌, ◌||◌}
use Rattle.std.specs.Bool.{beq}
use Rattle.lua_num.specs.Bytes.{Text}
use Rattle.lua_tree.specs.Syntax as syntax
use Rattle.lua_tree.specs.Syntax.{Statements, no_statements, Statement, assignment, call_statement, do_block, while_loop, repeat_loop, if_statement, numeric_for, generic_for, function_statement, local_function, local_statement, return_statement, break_statement, Branches, no_branches, branch, Otherwise, no_otherwise, otherwise, ForStep, no_step, by_step, Expressions, Expression, and_expression, or_expression, binary_expression, unary_expression, parenthesized}
use Rattle.lua_tree.specs.WellFormed.{formed_branches, formed_expression, formed_expressions, formed_otherwise, formed_statement, formed_statements, formed_step}
use Rattle.lua_tree.specs.declared.tree.BinaryOp.{BinaryOp}
use Rattle.lua_tree.specs.declared.tree.UnaryOp.{UnaryOp}
use Rattle.proto.specs.declared.parts.Constant.{Constant}
use Rattle.recover_expr.specs.Drafts.{Part, statement_part, values_part, condition_part, head_part}
use Rattle.recover_expr.specs.Placing.{Steps}
use Rattle.recover_expr.specs.declared.steps.Step.{Step}
use Rattle.recover_expr.specs.declared.steps.StepKind.{StepKind}
use Rattle.scheme.specs.Expressions.{is_true_constant, literal}
use Rattle.scheme.specs.Making.{Ahead, Maker, active_count, captured_from}
use Rattle.scheme.specs.Scheme.{branches_made, coded, has_branch, has_otherwise, statement_made, statements_made}
use Rattle.scheme.specs.Statements.{Loop, arm_part, settle}
use Rattle.scheme.specs.declared.making.Active.{Active}
use Rattle.scheme_stands.proofs.Walks.{and_left, and_right}
use Rattle.same_flow.specs.Laid.{AloneLaid, ArmEnds, BodyLaid, BranchesLaid, Exit, HasStep, IsBlock, IsClose, IsFor, IsJump, IsNegated, IsSaid, LeavesTo, LiteralLaid, OtherwiseLaid, StatementLaid, TestLaid, VariablesEnd, arm_begun, exit_to, for_loop_of, generic_begun, generic_valued, head_values, label_of, loop_of, numeric_begun, numeric_valued, repeat_begun, while_begun, with_new_labels}
use Rattle.same_flow.specs.Performed.{part_at}
use Rattle.same_flow.specs.SameFlow.{AreLaid}
use Rattle.reads_back.proofs.Tests.{both_hold}

-- the part of a step of this kind is well-formed
abbrev pub IsFormed : StepKind → Part → Type 0
IsFormed StepKind.Act (statement_part s) = formed_statement s ≡ true
IsFormed (StepKind.Declaration end captured) (statement_part s) = formed_statement s ≡ true
IsFormed StepKind.Return (values_part es) = formed_expressions es ≡ true
IsFormed (StepKind.Test when target negated) (condition_part e) = formed_expression e ≡ true
IsFormed (StepKind.Head numeric foot end variables_end captured) (head_part values names) = formed_expressions values ≡ true
IsFormed kind part = Unit {0}

-- so is the part of each step
abbrev pub AreFormed : Steps → Type 0
AreFormed code = (at : ℕ) (step : Step) (part : Part) → slice_get code.steps at ≡ Some step → part_at code at ≡ Some part → IsFormed step.kind part

-- of each step from one place to another
record FormedBetween (code : Steps) (from to : ℕ) : Type 0 where
  each : (at : ℕ) (step : Step) (part : Part) → from ≤ at → at < to → slice_get code.steps at ≡ Some step → part_at code at ≡ Some part → IsFormed step.kind part

-- what `~=` is tested as
negated_formed : (tested e : Expression) → IsNegated tested e → formed_expression e ≡ true → formed_expression tested ≡ true
negated_formed (binary_expression line BinaryOp.Eq left right) e is formed = sym (ap formed_expression is.1) ∙ formed
negated_formed tested e is formed = absurd is

said_formed : (e : Expression) (sense : Bool) (tested : Expression) (when : Bool) → IsSaid e sense tested when → formed_expression e ≡ true → formed_expression tested ≡ true
said_formed e sense tested when (inl is) formed = ap formed_expression is.0 ∙ formed
said_formed e sense tested when (inr is) formed = negated_formed tested e is.0 formed

-- the values of a loop over numbers
head_formed : (first last : Expression) (by : ForStep) → formed_expression first ≡ true → formed_expression last ≡ true → formed_step by ≡ true → formed_expressions (head_values first last by) ≡ true
head_formed first last no_step one two three = both_hold _ _ one (both_hold _ _ two refl)
head_formed first last (by_step by) one two three = both_hold _ _ one (both_hold _ _ two (both_hold _ _ three refl))

module _ (code : Steps) where
  nowhere : (from to : ℕ) → to ≡ from → FormedBetween code from to
  nowhere from to e = record { each = λ at step part h l s p. absurd (omega (arith, e, h, l)) }

  both : (from mid to : ℕ) → FormedBetween code from mid → FormedBetween code mid to → FormedBetween code from to
  both from mid to one two = record { each = λ at step part h l s p. by at step part h l s p (nat_lt at mid) refl }
    where
      by : (at : ℕ) (step : Step) (part : Part) → from ≤ at → at < to → slice_get code.steps at ≡ Some step → part_at code at ≡ Some part → (b : Bool) → nat_lt at mid ≡ b → IsFormed step.kind part
      by at step part h l s p true e = one.each at step part h (grind (arith, nat_tests)) s p
      by at step part h l s p false e = two.each at step part (grind (arith, nat_tests)) l s p

  one_step : (active : List Active) (from to : ℕ) (kind : StepKind) (part : Part) → HasStep code active from kind part → IsFormed kind part → to ≡ suc from → FormedBetween code from to
  one_step active from to kind part has formed e = record {
    each = λ at step other h l s p.
        let here : at ≡ from = omega (arith, e, h, l) in
        let same : has.0.step ≡ step = same_Some has.0.step step (sym has.0.there ∙ ap (slice_get code.steps) (sym here) ∙ s) in
        let also : part ≡ other = same_Some part other (sym has.1 ∙ ap (part_at code) (sym here) ∙ p) in
        subst (λ (it : Part). IsFormed step.kind it) also (subst (λ (it : StepKind). IsFormed it part) (sym has.0.is ∙ ap (λ (it : Step). it.kind) same) formed);
  }

  jump_formed : (active : List Active) (from to target : ℕ) → IsJump code active from target → to ≡ suc from → FormedBetween code from to
  jump_formed active from to target is e = one_step active from to (StepKind.Jump target) is.0 is.1 tt e

  close_formed : (active : List Active) (from to register : ℕ) → IsClose code active from register → to ≡ suc from → FormedBetween code from to
  close_formed active from to register is e = one_step active from to (StepKind.Close register is.0) is.1.0 is.1.1 tt e

  -- ---- conditions

  literal_formed : (active : List Active) (jumps : Bool) (target from to : ℕ) → LiteralLaid code active jumps target from to → FormedBetween code from to
  literal_formed active true target from to is = jump_formed active from to target is.0 is.1
  literal_formed active false target from to is = nowhere from to is

  alone_formed : (active : List Active) (o : Option Constant) (e : Expression) (sense : Bool) (target from to : ℕ) → AloneLaid code active o e sense target from to → formed_expression e ≡ true → FormedBetween code from to
  alone_formed active (Some k) e sense target from to is formed = literal_formed active (beq sense (is_true_constant k)) target from to is.1
  alone_formed active None e sense target from to (when, levels, tested, H, s, t) formed =
      one_step active from to (StepKind.Test when target levels) (condition_part tested) H (said_formed e sense tested when s formed) t

  test_formed : (active : List Active) (e : Expression) (sense : Bool) (target from to : ℕ) → TestLaid code active e sense target from to → formed_expression e ≡ true → FormedBetween code from to
  test_formed active (and_expression line left right) sense target from to H formed =
      let parts = and_right _ _ (and_right _ _ formed) in
      both from H.0 to (test_formed active left false (if sense then to else target) from H.0 H.3 (and_left _ _ parts)) (test_formed active right sense target H.0 to H.4 (and_right _ _ parts))
  test_formed active (or_expression line left right) sense target from to H formed =
      let parts = and_right _ _ (and_right _ _ formed) in
      both from H.0 to (test_formed active left true (if sense then target else to) from H.0 H.3 (and_left _ _ parts)) (test_formed active right sense target H.0 to H.4 (and_right _ _ parts))
  test_formed active (unary_expression line UnaryOp.Not e) sense target from to H formed = test_formed active e (not sense) target from to H (and_right _ _ formed)
  test_formed active (parenthesized line e) sense target from to H formed = test_formed active e sense target from to H formed
  test_formed active e sense target from to H formed = alone_formed active (literal e) e sense target from to H formed

  -- ---- parts of statements

  block_formed : (active : List Active) (n : ℕ) (captured : Bool) (laid : (ends end : ℕ) → Type 0) (from to : ℕ) → IsBlock code active n captured laid from to →
      ((stop : ℕ) → laid stop stop → FormedBetween code from stop) → FormedBetween code from to
  block_formed active n false laid from to B inner = inner to B
  block_formed active n true laid from to (end, t, h, C, B) inner = both from end to (inner end B) (close_formed active end to n C t)

  leaves_formed : (exit : Option Exit) (m : Maker) (from to : ℕ) → LeavesTo code exit m from to → FormedBetween code from to
  leaves_formed None m from to H = absurd H
  leaves_formed (Some exit) m from to (inl (c, J, t)) = jump_formed m.active from to exit.place J t
  leaves_formed (Some exit) m from to (inr (c, C, J, t)) = both from (suc from) to (close_formed m.active from (suc from) exit.locals C refl) (jump_formed m.active (suc from) to exit.place J t)

  variables_formed : (active : List Active) (n : ℕ) (captured : Bool) (end foot : ℕ) → VariablesEnd code active n captured end foot → FormedBetween code end foot
  variables_formed active n false end foot V = nowhere end foot V
  variables_formed active n true end foot V = close_formed active end foot n V.1 V.0

  for_formed : (numeric : Bool) (values : Expressions) (names : List Text) (active hidden : List Active) (n : ℕ) (captured : Bool) (block : (from to : ℕ) → Type 0) (from to : ℕ) → formed_expressions values ≡ true →
      IsFor code numeric (head_part values names) active hidden n captured block from to → ((end : ℕ) → block (suc from) end → FormedBetween code (suc from) end) → FormedBetween code from to
  for_formed numeric values names active hidden n captured block from to formed (foot, variables_end, H, less, B, V, K, t) inner =
      both from (suc from) to (one_step active from (suc from) (StepKind.Head numeric foot to variables_end captured) (head_part values names) H formed refl)
      (both (suc from) variables_end to (inner variables_end B)
      (both variables_end foot to (variables_formed hidden (n + 3) captured variables_end foot V) (one_step hidden foot to (StepKind.Foot numeric (suc from)) K.0 K.1 tt t)))

  arm_formed : (more : Bool) (active : List Active) (stop end next : ℕ) → ArmEnds code active more stop end next → FormedBetween code stop next
  arm_formed true active stop end next A = jump_formed active stop next end A.0 A.1
  arm_formed false active stop end next A = nowhere stop next A

  -- ---- statements

  mutual
    body_formed : (block : Statements) (exit : Option Exit) (stop : ℕ) (loop : Option Loop) (m : Maker) (from to : ℕ) → BodyLaid code exit stop block loop m from to → formed_statements block ≡ true → FormedBetween code from to
    body_formed no_statements exit stop loop m from to B formed = nowhere from to B
    body_formed (syntax.statement line semi s rest) exit stop loop m from to (one, mid, a, b, S, B) formed =
        both from mid to (statement_formed s exit stop loop m from mid S (and_left _ _ formed))
        (body_formed rest exit stop loop (settle (statement_made s 1 loop m)) mid to B (and_right _ _ (and_right _ _ formed)))

    statement_formed : (s : Statement) (exit : Option Exit) (stop : ℕ) (loop : Option Loop) (m : Maker) (from to : ℕ) → StatementLaid code exit stop s loop m from to → formed_statement s ≡ true → FormedBetween code from to
    statement_formed (assignment targets es) exit stop loop m from to S formed = one_step m.active from to StepKind.Act (statement_part (assignment targets es)) S.0 formed S.1
    statement_formed (call_statement x) exit stop loop m from to S formed = one_step m.active from to StepKind.Act (statement_part (call_statement x)) S.0 formed S.1
    statement_formed (function_statement path method body) exit stop loop m from to S formed = one_step m.active from to StepKind.Act (statement_part (function_statement path method body)) S.0 formed S.1
    statement_formed (local_function name body) exit stop loop m from to S formed = one_step m.active from to (StepKind.Declaration stop _) (statement_part (local_function name body)) S.0 formed S.1
    statement_formed (local_statement names es) exit stop loop m from to S formed = one_step m.active from to (StepKind.Declaration stop _) (statement_part (local_statement names es)) S.0 formed S.1
    statement_formed (return_statement es) exit stop loop m from to S formed = one_step m.active from to StepKind.Return (values_part es) S.0 formed S.1
    statement_formed break_statement exit stop loop m from to S formed = leaves_formed exit m from to S
    statement_formed (do_block block) exit stop loop m from to S formed =
        block_formed m.active (active_count m) (captured_from (active_count m) (statements_made block loop m)) (λ ends end. BodyLaid code exit ends block loop m from end) from to S
        (λ end B. body_formed block exit end loop m from end B formed)
    statement_formed (while_loop x block) exit stop loop m from to (start, back, a, b, T, B, jump, t) formed =
        let begun = while_begun x m in
        both from start to (test_formed m.active x false to from start T (and_left _ _ formed))
        (both start back to
        (block_formed m.active (active_count m) (captured_from (active_count m) (statements_made block (loop_of m) begun)) (λ ends end. BodyLaid code (exit_to to m) ends block (loop_of m) begun start end) start back B
        (λ end D. body_formed block (exit_to to m) end (loop_of m) begun start end D (and_right _ _ formed)))
        (jump_formed m.active back to from jump t))
    statement_formed (repeat_loop block x) exit stop loop m from to (start, a, inl (c, b, B, T)) formed =
        let begun = repeat_begun m in
        let inside = statements_made block (loop_of m) begun in
        both from start to (body_formed block (exit_to to m) to (loop_of m) begun from start B (and_left _ _ formed)) (test_formed inside.active x false from start to T (and_right _ _ formed))
    statement_formed (repeat_loop block x) exit stop loop m from to (start, a, inr (c, tested, b, B, T, C, jump, D, K, t)) formed =
        let begun = repeat_begun m in
        let inside = statements_made block (loop_of m) begun in
        both from start to (body_formed block (exit_to to m) (tested + 2) (loop_of m) begun from start B (and_left _ _ formed))
        (both start tested to (test_formed inside.active x false (tested + 2) start tested T (and_right _ _ formed))
        (both tested (tested + 1) to (close_formed inside.active tested (tested + 1) (active_count m) C (omega arith))
        (both (tested + 1) (tested + 2) to (jump_formed inside.active (tested + 1) (tested + 2) to jump (omega arith))
        (both (tested + 2) (tested + 3) to (close_formed m.active (tested + 2) (tested + 3) (active_count m) D (omega arith))
        (jump_formed m.active (tested + 3) to from K (omega (arith, t)))))))
    statement_formed (if_statement branches other) exit stop loop m from to (else_from, a, b, B, O) formed =
        let parts = and_right _ _ formed in
        both from else_from to (branches_formed branches exit (has_otherwise other) (label_of m) to loop (with_new_labels 1 m) from else_from B (and_left _ _ parts))
        (otherwise_formed other exit loop (branches_made branches 1 loop (label_of m) (has_otherwise other) (with_new_labels 1 m)) else_from to O (and_right _ _ parts))
    statement_formed (numeric_for name first final by block) exit stop loop m from to S formed =
        let valued = numeric_valued 1 name first final by m in
        let begun = numeric_begun 1 name first final by m in
        let inner = for_loop_of (active_count m) valued in
        let values = and_right _ _ formed in
        let others = and_right _ _ values in
        let step = and_right _ _ others in
        for_formed true (head_values first final by) _ m.active valued.active (active_count m) (captured_from (active_count m + 3) begun)
        (λ start end. IsBlock code begun.active (active_count begun) (captured_from (active_count begun) (statements_made block inner begun)) (λ ends stop. BodyLaid code (exit_to to m) ends block inner begun start stop) start end) from to
        (head_formed first final by (and_left _ _ values) (and_left _ _ others) (and_left _ _ step)) S
        (λ end B. block_formed begun.active (active_count begun) (captured_from (active_count begun) (statements_made block inner begun)) (λ ends end. BodyLaid code (exit_to to m) ends block inner begun (suc from) end)
        (suc from) end B (λ x D. body_formed block (exit_to to m) x inner begun (suc from) x D (and_right _ _ step)))
    statement_formed (generic_for names es block) exit stop loop m from to S formed =
        let valued = generic_valued 1 names es m in
        let begun = generic_begun 1 names es m in
        let inner = for_loop_of (active_count m) valued in
        let parts = and_right _ _ (and_right _ _ formed) in
        for_formed false es names m.active valued.active (active_count m) (captured_from (active_count m + 3) begun)
        (λ start end. IsBlock code begun.active (active_count begun) (captured_from (active_count begun) (statements_made block inner begun)) (λ ends stop. BodyLaid code (exit_to to m) ends block inner begun start stop) start end) from to
        (and_left _ _ parts) S
        (λ end B. block_formed begun.active (active_count begun) (captured_from (active_count begun) (statements_made block inner begun)) (λ ends end. BodyLaid code (exit_to to m) ends block inner begun (suc from) end)
        (suc from) end B (λ x D. body_formed block (exit_to to m) x inner begun (suc from) x D (and_right _ _ parts)))

    branches_formed : (branches : Branches) (exit : Option Exit) (more : Bool) (label end : ℕ) (loop : Option Loop) (m : Maker) (from to : ℕ) → BranchesLaid code exit branches more label end loop m from to →
        formed_branches branches ≡ true → FormedBetween code from to
    branches_formed no_branches exit more label end loop m from to B formed = nowhere from to B
    branches_formed (branch x block rest) exit more label end loop m from to (start, stop, next, a, b, c, T, B, A, R) formed =
        let further = has_branch rest || more in
        let begun = arm_begun x m in
        let parts = and_right _ _ formed in
        both from start to (test_formed m.active x false next from start T (and_left _ _ formed))
        (both start stop to
        (block_formed m.active (active_count m) (captured_from (active_count m) (statements_made block loop begun)) (λ ends end. BodyLaid code exit ends block loop begun start end) start stop B
        (λ y D. body_formed block exit y loop begun start y D (and_left _ _ parts)))
        (both stop next to (arm_formed further m.active stop end next A)
        (branches_formed rest exit more label end loop (arm_part 1 label further (coded x) (statements_made block loop) m) next to R (and_right _ _ parts))))

    otherwise_formed : (other : Otherwise) (exit : Option Exit) (loop : Option Loop) (m : Maker) (from to : ℕ) → OtherwiseLaid code exit other loop m from to → formed_otherwise other ≡ true → FormedBetween code from to
    otherwise_formed no_otherwise exit loop m from to O formed = nowhere from to O
    otherwise_formed (otherwise block) exit loop m from to O formed =
        block_formed m.active (active_count m) (captured_from (active_count m) (statements_made block loop m)) (λ ends end. BodyLaid code exit ends block loop m from end) from to O
        (λ x D. body_formed block exit x loop m from x D formed)

-- the steps on which well-formed statements of a function stand
pub laid_formed : (code : Steps) (params names : List Text) (ahead : Ahead) (block : Statements) → AreLaid code params names ahead block → formed_statements block ≡ true → AreFormed code
laid_formed code params names ahead block laid formed at step part there also =
    (body_formed code block None (length code.steps) None _ 0 (length code.steps) laid formed).each at step part (omega arith) (slice_get_within code.steps at step there) there also
