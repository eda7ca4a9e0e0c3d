-- What stands on steps stands on steps that are like them: of the same kinds, with other levels maybe, and other names of CLOSEs.
use Rattle.std.proofs.Common.{◌≡◌, inl, inr, ℕ, suc, Bool, true, false, List, length, Some, refl, sym, ◌∙◌, subst}
use Rattle.std.specs.Prelude.{Option, None, ◌+◌, ◌||◌, not, if◌then◌else◌}
use Rattle.std.specs.Bool.{beq}
use Rattle.lua_tree.specs.Syntax as syntax
use Rattle.lua_tree.specs.Syntax.{Statements, no_statements, Statement, assignment, call_statement, do_block, while_loop, repeat_loop, if_statement, numeric_for, generic_for, function_statement, local_function, local_statement, return_statement, break_statement, Branches, no_branches, branch, Otherwise, no_otherwise, otherwise, Expression, and_expression, or_expression, binary_expression, unary_expression, parenthesized, nil_literal, true_literal, false_literal, vararg_expression, number_literal, text_literal, name_expression, function_expression, index_expression, field_expression, call_expression, method_call, constructor}
use Rattle.lua_tree.specs.declared.tree.UnaryOp.{UnaryOp}
use Rattle.proto.specs.declared.parts.Constant.{Constant}
use Rattle.recover_expr.specs.Drafts.{Part}
use Rattle.recover_expr.specs.Placing.{Steps}
use Rattle.recover_expr.specs.declared.steps.Step.{Step}
use Rattle.recover_expr.specs.declared.steps.StepKind.{StepKind}
use Rattle.scheme.specs.Expressions.{literal, is_true_constant}
use Rattle.scheme.specs.Making.{Maker, captured_from, active_count}
use Rattle.scheme.specs.Scheme.{coded, has_branch, has_otherwise, statement_made, statements_made, branches_made}
use Rattle.scheme.specs.Statements.{Loop, arm_part, settle}
use Rattle.scheme.specs.declared.making.Active.{Active}
use Rattle.same_flow.specs.Alike.{AreStepsLike, AreStepsLoose, IsKindLike, IsKindLoose, LaidOnLikeSteps, LaidOnLooseSteps}
use Rattle.same_flow.specs.Laid.{AloneLaid, ArmEnds, BodyLaid, BranchesLaid, Exit, HasKind, HasStep, IsBlock, IsClose, IsFor, IsJump, IsStep, LeafLaid, LeavesTo, LiteralLaid, OtherwiseLaid, StatementLaid, TestLaid, VariablesEnd, arm_begun, exit_to, for_loop_of, generic_begun, generic_valued, label_of, loop_of, numeric_begun, numeric_valued, repeat_begun, while_begun, with_new_labels}
use Rattle.same_flow.specs.SameFlow.{begun_of}

-- a kind that is the same on such steps
abbrev IsFixed : StepKind → Type 0
IsFixed (StepKind.Test when target negated) = ⊥
IsFixed (StepKind.Close from declared) = ⊥
IsFixed kind = Unit {0}

fixed_same : (kind other : StepKind) → IsFixed kind → IsKindLoose kind other → other ≡ kind
fixed_same (StepKind.Test when target negated) other fixed like = absurd fixed
fixed_same (StepKind.Close from declared) other fixed like = absurd fixed
fixed_same StepKind.Act other fixed like = like
fixed_same StepKind.Return other fixed like = like
fixed_same (StepKind.Declaration end captured) other fixed like = like
fixed_same (StepKind.Jump target) other fixed like = like
fixed_same (StepKind.Head numeric foot end variables_end captured) other fixed like = like
fixed_same (StepKind.Foot numeric target) other fixed like = like

-- like kinds are no stricter
pub loose : (kind other : StepKind) → IsKindLike kind other → IsKindLoose kind other
loose (StepKind.Test when target negated) other like = like
loose (StepKind.Close from declared) other like = (declared, like)
loose StepKind.Act other like = like
loose StepKind.Return other like = like
loose (StepKind.Declaration end captured) other like = like
loose (StepKind.Jump target) other like = like
loose (StepKind.Head numeric foot end variables_end captured) other like = like
loose (StepKind.Foot numeric target) other like = like

pub loose_steps : (steps others : List Step) → AreStepsLike steps others → AreStepsLoose steps others
loose_steps steps others like = record {
  count = like.count;
  each = λ at step there. let found = like.each at step there in (found.0, found.1, record { kind = loose step.kind found.0.kind found.2.kind; base = found.2.base; captured = found.2.captured });
}

module _ (code : Steps) (others : List Step) (like : AreStepsLoose code.steps others) where
  abbrev here : Steps
  here = record code { steps = others }

  -- ---- single steps

  step_like : (active : List Active) (at : ℕ) (kind : StepKind) → IsStep code active at kind → (other : StepKind) × IsKindLoose kind other × IsStep here active at other
  step_like active at kind is =
      let found = like.each at is.step is.there in
      let alike = found.2 in (
        found.0.kind,
        subst (λ kind. IsKindLoose kind found.0.kind) is.is alike.kind,
        record { step = found.0; there = found.1; is = refl; tells = record { base = alike.base ∙ is.tells.base; captured = alike.captured ∙ is.tells.captured } },
      )

  has_like : (active : List Active) (at : ℕ) (kind : StepKind) (part : Part) → IsFixed kind → HasStep code active at kind part → HasStep here active at kind part
  has_like active at kind part fixed has =
      let found = step_like active at kind has.0 in
      (subst (λ kind. IsStep here active at kind) (fixed_same kind found.0 fixed found.1) found.2, has.1)

  kind_like : (active : List Active) (at : ℕ) (kind : StepKind) → IsFixed kind → HasKind code active at kind → HasKind here active at kind
  kind_like active at kind fixed has = (has.0, has_like active at kind has.0 fixed has.1)

  jump_like : (active : List Active) (at target : ℕ) → IsJump code active at target → IsJump here active at target
  jump_like active at target jump = kind_like active at (StepKind.Jump target) tt jump

  close_like : (active : List Active) (at register : ℕ) → IsClose code active at register → IsClose here active at register
  close_like active at register close =
      let found = step_like active at (StepKind.Close register close.0) close.1.1.0 in
      (found.1.0, (close.1.0, (subst (λ kind. IsStep here active at kind) found.1.1 found.2, close.1.1.1)))

  -- ---- conditions

  leaf_like : (active : List Active) (e : Expression) (sense : Bool) (target from to : ℕ) → LeafLaid code active e sense target from to → LeafLaid here active e sense target from to
  leaf_like active e sense target from to (when, levels, tested, has, said, next) =
      let found = step_like active from (StepKind.Test when target levels) has.0 in
      (when, found.1.0, tested, (subst (λ kind. IsStep here active from kind) found.1.1 found.2, has.1), said, next)

  literal_like : (active : List Active) (jumps : Bool) (target from to : ℕ) → LiteralLaid code active jumps target from to → LiteralLaid here active jumps target from to
  literal_like active true target from to (jump, next) = (jump_like active from target jump, next)
  literal_like active false target from to same = same

  alone_like : (active : List Active) (k : Option Constant) (e : Expression) (sense : Bool) (target from to : ℕ) → AloneLaid code active k e sense target from to → AloneLaid here active k e sense target from to
  alone_like active (Some k) e sense target from to (line, lies) = (line, literal_like active (beq sense (is_true_constant k)) target from to lies)
  alone_like active None e sense target from to lies = leaf_like active e sense target from to lies

  test_like : (active : List Active) (e : Expression) (sense : Bool) (target from to : ℕ) → TestLaid code active e sense target from to → TestLaid here active e sense target from to
  test_like active (and_expression line left right) sense target from to (mid, low, high, one, two) =
      (mid, low, high, test_like active left false (if sense then to else target) from mid one, test_like active right sense target mid to two)
  test_like active (or_expression line left right) sense target from to (mid, low, high, one, two) =
      (mid, low, high, test_like active left true (if sense then target else to) from mid one, test_like active right sense target mid to two)
  test_like active (unary_expression line UnaryOp.Not e) sense target from to lies = test_like active e (not sense) target from to lies
  test_like active (parenthesized line e) sense target from to lies = test_like active e sense target from to lies
  test_like active (unary_expression line UnaryOp.Neg e) sense target from to lies = alone_like active (literal (unary_expression line UnaryOp.Neg e)) (unary_expression line UnaryOp.Neg e) sense target from to lies
  test_like active (unary_expression line UnaryOp.Len e) sense target from to lies = alone_like active (literal (unary_expression line UnaryOp.Len e)) (unary_expression line UnaryOp.Len e) sense target from to lies
  test_like active e sense target from to lies = alone_like active (literal e) e sense target from to lies

  -- ---- blocks

  leaves_like : (exit : Option Exit) (m : Maker) (from to : ℕ) → LeavesTo code exit m from to → LeavesTo here exit m from to
  leaves_like None m from to lies = absurd lies
  leaves_like (Some exit) m from to (inl (none, jump, next)) = inl (none, jump_like m.active from exit.place jump, next)
  leaves_like (Some exit) m from to (inr (some, close, jump, next)) = inr (some, close_like m.active from exit.locals close, jump_like m.active (suc from) exit.place jump, next)

  block_like : (active : List Active) (n : ℕ) (captured : Bool) (lies others : (ends end : ℕ) → Type 0) (from to : ℕ) → ((ends end : ℕ) → lies ends end → others ends end) → IsBlock code active n captured lies from to → IsBlock here active n captured others from to
  block_like active n false lies others from to each is = each to to is
  block_like active n true lies others from to each (end, next, low, close, inside) = (end, next, low, close_like active end n close, each end end inside)

  variables_like : (active : List Active) (n : ℕ) (captured : Bool) (end foot : ℕ) → VariablesEnd code active n captured end foot → VariablesEnd here active n captured end foot
  variables_like active n false end foot is = is
  variables_like active n true end foot (next, close) = (next, close_like active end n close)

  for_like : (numeric : Bool) (part : Part) (active hidden : List Active) (n : ℕ) (captured : Bool) (lies others : (from to : ℕ) → Type 0) (from to : ℕ) → ((from to : ℕ) → lies from to → others from to) → IsFor code numeric part active hidden n captured lies from to
      → IsFor here numeric part active hidden n captured others from to
  for_like numeric part active hidden n captured lies others from to each (foot, variables_end, head, some, block, ends, back, next) = (
    foot,
    variables_end,
    has_like active from (StepKind.Head numeric foot to variables_end captured) part tt head,
    some,
    each (suc from) variables_end block,
    variables_like hidden (n + 3) captured variables_end foot ends,
    kind_like hidden foot (StepKind.Foot numeric (suc from)) tt back,
    next,
  )

  arm_like : (active : List Active) (more : Bool) (last end next : ℕ) → ArmEnds code active more last end next → ArmEnds here active more last end next
  arm_like active true last end next (jump, is) = (jump_like active last end jump, is)
  arm_like active false last end next is = is

  mutual
    body_like : (block : Statements) (exit : Option Exit) (ends : ℕ) (loop : Option Loop) (m : Maker) (from to : ℕ) → BodyLaid code exit ends block loop m from to → BodyLaid here exit ends block loop m from to
    body_like no_statements exit ends loop m from to lies = lies
    body_like (syntax.statement line semi s rest) exit ends loop m from to (one, mid, low, high, first, others) =
        (one, mid, low, high, statement_like s exit ends loop m from mid first, body_like rest exit ends loop (settle (statement_made s 1 loop m)) mid to others)

    statement_like : (s : Statement) (exit : Option Exit) (ends : ℕ) (loop : Option Loop) (m : Maker) (from to : ℕ) → StatementLaid code exit ends s loop m from to → StatementLaid here exit ends s loop m from to
    statement_like (assignment targets es) exit ends loop m from to (has, next) = (has_like m.active from StepKind.Act _ tt has, next)
    statement_like (call_statement e) exit ends loop m from to (has, next) = (has_like m.active from StepKind.Act _ tt has, next)
    statement_like (function_statement path method body) exit ends loop m from to (has, next) = (has_like m.active from StepKind.Act _ tt has, next)
    statement_like (local_function name body) exit ends loop m from to (has, next) = (has_like m.active from _ _ tt has, next)
    statement_like (local_statement names es) exit ends loop m from to (has, next) = (has_like m.active from _ _ tt has, next)
    statement_like (return_statement es) exit ends loop m from to (has, next) = (has_like m.active from StepKind.Return _ tt has, next)
    statement_like break_statement exit ends loop m from to lies = leaves_like exit m from to lies
    statement_like (do_block block) exit ends loop m from to lies =
        block_like m.active (active_count m) (captured_from (active_count m) (statements_made block loop m)) (λ ends end. BodyLaid code exit ends block loop m from end) (λ ends end. BodyLaid here exit ends block loop m from end) from to
        (λ ends end. body_like block exit ends loop m from end) lies
    statement_like (while_loop e block) exit ends loop m from to (start, back, low, high, test, inside, jump, next) =
        let begun = while_begun e m in (
          start,
          back,
          low,
          high,
          test_like m.active e false to from start test,
          block_like m.active (active_count m) (captured_from (active_count m) (statements_made block (loop_of m) begun)) (λ ends end. BodyLaid code (exit_to to m) ends block (loop_of m) begun start end)
              (λ ends end. BodyLaid here (exit_to to m) ends block (loop_of m) begun start end) start back (λ ends end. body_like block (exit_to to m) ends (loop_of m) begun start end) inside,
          jump_like m.active back from jump,
          next,
        )
    statement_like (repeat_loop block e) exit ends loop m from to (start, low, inl (none, high, body, test)) =
        (start, low, inl (none, high, body_like block (exit_to to m) to (loop_of m) (repeat_begun m) from start body, test_like (statements_made block (loop_of m) (repeat_begun m)).active e false from start to test))
    statement_like (repeat_loop block e) exit ends loop m from to (start, low, inr (some, tested, high, body, test, close, out, again, back, next)) =
        let inside = statements_made block (loop_of m) (repeat_begun m) in (
          start,
          low,
          inr (
            some,
            tested,
            high,
            body_like block (exit_to to m) (tested + 2) (loop_of m) (repeat_begun m) from start body,
            test_like inside.active e false (tested + 2) start tested test,
            close_like inside.active tested (active_count m) close,
            jump_like inside.active (tested + 1) to out,
            close_like m.active (tested + 2) (active_count m) again,
            jump_like m.active (tested + 3) from back,
            next,
          ),
        )
    statement_like (if_statement branches last) exit ends loop m from to (else_from, low, high, arms, behind) = (
      else_from,
      low,
      high,
      branches_like branches exit (has_otherwise last) (label_of m) to loop (with_new_labels 1 m) from else_from arms,
      otherwise_like last exit loop (branches_made branches 1 loop (label_of m) (has_otherwise last) (with_new_labels 1 m)) else_from to behind,
    )
    statement_like (numeric_for name first last by block) exit ends loop m from to lies =
        let valued = numeric_valued 1 name first last by m in
        let begun = numeric_begun 1 name first last by m in
        let around = for_loop_of (active_count m) valued in
        let captured = captured_from (active_count begun) (statements_made block around begun) in
        for_like true _ m.active valued.active (active_count m) (captured_from (active_count m + 3) begun) (λ from to'. IsBlock code begun.active (active_count begun) captured (λ ends end. BodyLaid code (exit_to to m) ends block around begun from end) from to')
        (λ from to'. IsBlock here begun.active (active_count begun) captured (λ ends end. BodyLaid here (exit_to to m) ends block around begun from end) from to') from to
        (λ from to'.
        block_like begun.active (active_count begun) captured (λ ends end. BodyLaid code (exit_to to m) ends block around begun from end) (λ ends end. BodyLaid here (exit_to to m) ends block around begun from end) from to'
        (λ ends end. body_like block (exit_to to m) ends around begun from end))
        lies
    statement_like (generic_for names es block) exit ends loop m from to lies =
        let valued = generic_valued 1 names es m in
        let begun = generic_begun 1 names es m in
        let around = for_loop_of (active_count m) valued in
        let captured = captured_from (active_count begun) (statements_made block around begun) in
        for_like false _ m.active valued.active (active_count m) (captured_from (active_count m + 3) begun) (λ from to'. IsBlock code begun.active (active_count begun) captured (λ ends end. BodyLaid code (exit_to to m) ends block around begun from end) from to')
        (λ from to'. IsBlock here begun.active (active_count begun) captured (λ ends end. BodyLaid here (exit_to to m) ends block around begun from end) from to') from to
        (λ from to'.
        block_like begun.active (active_count begun) captured (λ ends end. BodyLaid code (exit_to to m) ends block around begun from end) (λ ends end. BodyLaid here (exit_to to m) ends block around begun from end) from to'
        (λ ends end. body_like block (exit_to to m) ends around begun from end))
        lies

    branches_like : (branches : Branches) (exit : Option Exit) (more : Bool) (label end : ℕ) (loop : Option Loop) (m : Maker) (from to : ℕ) → BranchesLaid code exit branches more label end loop m from to → BranchesLaid here exit branches more label end loop m from to
    branches_like no_branches exit more label end loop m from to lies = lies
    branches_like (branch e block rest) exit more label end loop m from to (start, last, next, low, high, within, test, inside, ends, others) =
        let begun = arm_begun e m in (
          start,
          last,
          next,
          low,
          high,
          within,
          test_like m.active e false next from start test,
          block_like m.active (active_count m) (captured_from (active_count m) (statements_made block loop begun)) (λ ends stop. BodyLaid code exit ends block loop begun start stop) (λ ends stop. BodyLaid here exit ends block loop begun start stop) start last
              (λ ends stop. body_like block exit ends loop begun start stop) inside,
          arm_like m.active (has_branch rest || more) last end next ends,
          branches_like rest exit more label end loop (arm_part 1 label (has_branch rest || more) (coded e) (statements_made block loop) m) next to others,
        )

    otherwise_like : (last : Otherwise) (exit : Option Exit) (loop : Option Loop) (m : Maker) (from to : ℕ) → OtherwiseLaid code exit last loop m from to → OtherwiseLaid here exit last loop m from to
    otherwise_like no_otherwise exit loop m from to lies = lies
    otherwise_like (otherwise block) exit loop m from to lies =
        block_like m.active (active_count m) (captured_from (active_count m) (statements_made block loop m)) (λ ends end. BodyLaid code exit ends block loop m from end) (λ ends end. BodyLaid here exit ends block loop m from end) from to
        (λ ends end. body_like block exit ends loop m from end) lies

pub laid_on_loose_steps : LaidOnLooseSteps
laid_on_loose_steps code others like params names ahead block laid =
    subst (λ (count : ℕ). BodyLaid (record code { steps = others }) None count block None (begun_of params names ahead) 0 count) (sym like.count) (body_like code others like block None (length code.steps) None (begun_of params names ahead) 0 (length code.steps) laid)

pub laid_on_like_steps : LaidOnLikeSteps
laid_on_like_steps code others like params names ahead block laid = laid_on_loose_steps code others (loose_steps code.steps others like) params names ahead block laid
