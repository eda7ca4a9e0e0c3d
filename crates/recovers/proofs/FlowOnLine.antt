-- A function whose statements may have blocks stays such a one on one line.
use Rattle.std.proofs.Common.{◌≡◌, ℕ, zero, suc, Bool, true, false, Option, Some, None, refl, sym, ◌∙◌, subst}
use Rattle.lua_tree.specs.OneLine.{one_line_body, one_line_branches, one_line_expression, one_line_otherwise, one_line_statement, one_line_statements, one_line_step}
use Rattle.lua_tree.specs.Syntax as syntax
use Rattle.lua_tree.specs.Syntax.{Statements, no_statements, Statement, assignment, call_statement, do_block, while_loop, repeat_loop, if_statement, numeric_for, generic_for, function_statement, local_function, local_statement, return_statement, break_statement, Branches, no_branches, branch, Otherwise, no_otherwise, otherwise, ForStep, no_step, by_step, FunctionBody, function_body, Expression, name_expression, and_expression, or_expression, binary_expression, unary_expression, parenthesized}
use Rattle.lua_tree.specs.declared.tree.BinaryOp.{BinaryOp}
use Rattle.lua_tree.specs.declared.tree.UnaryOp.{UnaryOp}
use Rattle.proto.specs.declared.parts.Constant.{Constant}
use Rattle.recover_expr.specs.Drafts.{condition_part}
use Rattle.scheme.specs.Expressions.{literal}
use Rattle.same_flow.specs.Blocks.{AloneHolds, BranchesHold, OtherwiseHolds, StatementHolds, StatementsHold, TestHolds, tested_as}
use Rattle.same_flow.specs.Laid.{head_values}
use Rattle.reads_back.specs.Flows.{IsFlowBody, IsFlowLeafBy, IsFlowPartBy}
use Rattle.reads_back.specs.Straight.{AllHaveCoresBy}
use Rattle.reads_back.proofs.OneLineActs.{StayOnLine, core_on_line, cores_on_line, straight_statement_on_line}
use Rattle.reads_back.proofs.WordsSame.{same_literal}
use Rattle.recovers.proofs.OrderedOnLine.{ordered_on_line}

-- ---- what is tested

pub tested_on_line : (e : Expression) → one_line_expression (tested_as e) ≡ tested_as (one_line_expression e)
tested_on_line (binary_expression line BinaryOp.Ne left right) = refl
tested_on_line e = refl

-- ---- statements

module _ {P : FunctionBody → Type 0} (kept : StayOnLine P) where
  abbrev Holds : (looped : Bool) → Statements → Type 0
  Holds looped block = StatementsHold (IsFlowPartBy P) looped block

  leaf_on_line : (e : Expression) → IsFlowLeafBy P e → IsFlowLeafBy P (one_line_expression e)
  leaf_on_line (binary_expression line op left right) are = (core_on_line kept left are.0, core_on_line kept right are.1)
  leaf_on_line e is = core_on_line kept e is

  alone_on_line : (e : Expression) → (k : Option Constant) → literal e ≡ k → AloneHolds (IsFlowPartBy P) k e → AloneHolds (IsFlowPartBy P) (literal (one_line_expression e)) (one_line_expression e)
  alone_on_line e k is holds = subst (λ (k : Option Constant). AloneHolds (IsFlowPartBy P) k (one_line_expression e)) (sym (same_literal e ∙ is)) (by k holds)
    where
      by : (k : Option Constant) → AloneHolds (IsFlowPartBy P) k e → AloneHolds (IsFlowPartBy P) k (one_line_expression e)
      by (Some k) holds = tt
      by None holds = subst (λ (e : Expression). IsFlowPartBy P (condition_part e)) (tested_on_line e) (leaf_on_line (tested_as e) holds)

  test_on_line : (e : Expression) → TestHolds (IsFlowPartBy P) e → TestHolds (IsFlowPartBy P) (one_line_expression e)
  test_on_line (and_expression line left right) holds = (test_on_line left holds.0, test_on_line right holds.1)
  test_on_line (or_expression line left right) holds = (test_on_line left holds.0, test_on_line right holds.1)
  test_on_line (unary_expression line UnaryOp.Not e) holds = test_on_line e holds
  test_on_line (parenthesized line e) holds = test_on_line e holds
  test_on_line e holds = alone_on_line e (literal e) refl holds

  values_on_line : (first last : Expression) (by : ForStep) → AllHaveCoresBy P (head_values first last by) → AllHaveCoresBy P (head_values (one_line_expression first) (one_line_expression last) (one_line_step by))
  values_on_line first last no_step have = cores_on_line kept (head_values first last no_step) have
  values_on_line first last (by_step e) have = cores_on_line kept (head_values first last (by_step e)) have

  mutual
    block_on_line : (looped : Bool) (block : Statements) → Holds looped block → Holds looped (one_line_statements block)
    block_on_line looped no_statements holds = tt
    block_on_line looped (syntax.statement line semi s rest) holds = (statement_on_line looped s holds.0, block_on_line looped rest holds.1)

    statement_on_line : (looped : Bool) (s : Statement) → StatementHolds (IsFlowPartBy P) looped s → StatementHolds (IsFlowPartBy P) looped (one_line_statement s)
    statement_on_line looped (do_block block) holds = block_on_line looped block holds
    statement_on_line looped (while_loop e block) holds = (test_on_line e holds.0, block_on_line true block holds.1)
    statement_on_line looped (repeat_loop block e) holds = (block_on_line true block holds.0, test_on_line e holds.1)
    statement_on_line looped (if_statement branches last) holds = (branches_on_line looped branches holds.0, otherwise_on_line looped last holds.1)
    statement_on_line looped (numeric_for name first last by block) holds = (values_on_line first last by holds.0, block_on_line true block holds.1)
    statement_on_line looped (generic_for names es block) holds = (cores_on_line kept es holds.0, block_on_line true block holds.1)
    statement_on_line looped (return_statement es) holds = cores_on_line kept es holds
    statement_on_line looped break_statement holds = holds
    statement_on_line looped (call_statement e) holds = straight_statement_on_line kept (call_statement e) holds
    statement_on_line looped (assignment targets es) holds = straight_statement_on_line kept (assignment targets es) holds
    statement_on_line looped (local_statement names es) holds = straight_statement_on_line kept (local_statement names es) holds
    statement_on_line looped (local_function name body) holds = straight_statement_on_line kept (local_function name body) holds
    statement_on_line looped (function_statement path method body) holds = straight_statement_on_line kept (function_statement path method body) holds

    branches_on_line : (looped : Bool) (branches : Branches) → BranchesHold (IsFlowPartBy P) looped branches → BranchesHold (IsFlowPartBy P) looped (one_line_branches branches)
    branches_on_line looped no_branches holds = tt
    branches_on_line looped (branch e block rest) holds = (test_on_line e holds.0, block_on_line looped block holds.1, branches_on_line looped rest holds.2)

    otherwise_on_line : (looped : Bool) (last : Otherwise) → OtherwiseHolds (IsFlowPartBy P) looped last → OtherwiseHolds (IsFlowPartBy P) looped (one_line_otherwise last)
    otherwise_on_line looped no_otherwise holds = tt
    otherwise_on_line looped (otherwise block) holds = block_on_line looped block holds

-- ---- functions

pub flow_stays : (deep : ℕ) (body : FunctionBody) → IsFlowBody deep body → IsFlowBody deep (one_line_body body)
flow_stays zero body none = absurd none
flow_stays (suc deep) (function_body params vararg block first last) holds =
    (block_on_line (flow_stays deep) false block holds.0, ordered_on_line params block ∙ holds.1)
