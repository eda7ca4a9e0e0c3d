-- A function whose statements may have blocks is plain: `and`, `or` and comparisons stand in its conditions alone.
use Rattle.std.proofs.Common.{◌≡◌, ℕ, zero, suc, ℤ, Bool, true, false, ◌&&◌, Option, Some, None, refl, ap, ◌∙◌}
use Rattle.lua_tree.specs.Syntax as syntax
use Rattle.lua_tree.specs.Syntax.{Statements, no_statements, Statement, assignment, call_statement, do_block, while_loop, repeat_loop, if_statement, numeric_for, generic_for, function_statement, local_function, local_statement, return_statement, break_statement, Branches, no_branches, branch, Otherwise, no_otherwise, otherwise, ForStep, no_step, by_step, FunctionBody, function_body, Expression, and_expression, or_expression, binary_expression, unary_expression, parenthesized, number_literal, nil_literal, true_literal, false_literal, text_literal}
use Rattle.lua_tree.specs.declared.tree.BinaryOp.{BinaryOp}
use Rattle.lua_tree.specs.declared.tree.UnaryOp.{UnaryOp}
use Rattle.lua_num.specs.declared.arith.ArithOp.{ArithOp}
use Rattle.proto.specs.declared.parts.Constant.{Constant}
use Rattle.scheme.specs.Expressions.{arith_op, fold, fold_binary, fold_unary, is_comparison, literal, number_or, plain_literal}
use Rattle.scheme.specs.Shapes.{plain_body, plain_branches, plain_comparison, plain_otherwise, plain_statement, plain_statements, plain_step, plainness}
use Rattle.same_flow.specs.Blocks.{AloneHolds, BranchesHold, OtherwiseHolds, StatementHolds, StatementsHold, TestHolds, tested_as}
use Rattle.same_flow.specs.Laid.{head_values}
use Rattle.reads_back.specs.Flows.{IsFlowBody, IsFlowLeafBy, IsFlowPartBy}
use Rattle.reads_back.specs.Straight.{AllHaveCoresBy, HasCoreBy}
use Rattle.reads_back.proofs.Tests.{both_hold}
use Rattle.recovers.proofs.CoresPlain.{core_plain, cores_plain, straight_statement_plain}

-- ---- literals

no_comparison : (op : BinaryOp) (k : ArithOp) → arith_op op ≡ Some k → is_comparison op ≡ false
no_comparison BinaryOp.Add k is = refl
no_comparison BinaryOp.Sub k is = refl
no_comparison BinaryOp.Mul k is = refl
no_comparison BinaryOp.Div k is = refl
no_comparison BinaryOp.Rem k is = refl
no_comparison BinaryOp.Pow k is = refl
no_comparison op k is = cc

-- what is folded is plain, as a value and as a condition
folded_plain : (e : Expression) (n : ℤ) → fold e ≡ Some n → ((plainness e).value ≡ true) × ((plainness e).condition ≡ true)
folded_plain (number_literal line number) n is = (refl, refl)
folded_plain (parenthesized line e) n is = folded_plain e n is
folded_plain (unary_expression line op e) n is = by op (fold e) refl (folded_plain e) is
  where
    by : (op : UnaryOp) (folded : Option ℤ) → fold e ≡ folded → ((n : ℤ) → fold e ≡ Some n → ((plainness e).value ≡ true) × ((plainness e).condition ≡ true)) → fold_unary op folded ≡ Some n →
        ((plainness (unary_expression line op e)).value ≡ true) × ((plainness (unary_expression line op e)).condition ≡ true)
    by UnaryOp.Neg (Some a) known inside is = ((inside a known).0, (inside a known).0)
    by op folded known inside is = cc
folded_plain (binary_expression line op left right) n is = by (arith_op op) (fold left) (fold right) refl refl refl (folded_plain left) (folded_plain right) is
  where
    Inside : Expression → Type 0
    Inside e = (n : ℤ) → fold e ≡ Some n → ((plainness e).value ≡ true) × ((plainness e).condition ≡ true)

    by : (k : Option ArithOp) (one other : Option ℤ) → arith_op op ≡ k → fold left ≡ one → fold right ≡ other → Inside left → Inside right → fold_binary k one other ≡ Some n →
        ((plainness (binary_expression line op left right)).value ≡ true) × ((plainness (binary_expression line op left right)).condition ≡ true)
    by (Some k) (Some a) (Some b) known first second inside_left inside_right is =
        let values = both_hold _ _ (inside_left a first).0 (inside_right b second).0 in
        let compares = no_comparison op k known in (
          ap (λ compares. (plain_comparison compares ((plainness left).value && (plainness right).value)).value) compares ∙ values,
          ap (λ compares. (plain_comparison compares ((plainness left).value && (plainness right).value)).condition) compares ∙ values,
        )
    by k one other known first second inside_left inside_right is = cc
folded_plain e n is = cc

literal_plain : (e : Expression) (k : Constant) → literal e ≡ Some k → (plainness e).condition ≡ true
literal_plain e k is = by (fold e) refl is
  where
    alone : (e : Expression) → plain_literal e ≡ Some k → (plainness e).condition ≡ true
    alone (nil_literal line) is = refl
    alone (true_literal line) is = refl
    alone (false_literal line) is = refl
    alone (text_literal line text) is = refl
    alone e is = cc

    by : (folded : Option ℤ) → fold e ≡ folded → number_or folded (plain_literal e) ≡ Some k → (plainness e).condition ≡ true
    by (Some n) known is = (folded_plain e n known).1
    by None known is = alone e is

-- what is a value is a condition
value_condition : (e : Expression) → (plainness e).value ≡ true → (plainness e).condition ≡ true
value_condition (unary_expression line UnaryOp.Not e) plain = value_condition e plain
value_condition (parenthesized line e) plain = value_condition e plain
value_condition (binary_expression line op left right) plain = by (is_comparison op) plain
  where
    by : (compares : Bool) → (plain_comparison compares ((plainness left).value && (plainness right).value)).value ≡ true → (plain_comparison compares ((plainness left).value && (plainness right).value)).condition ≡ true
    by true plain = cc
    by false plain = plain
value_condition (and_expression line left right) plain = cc
value_condition (or_expression line left right) plain = cc
value_condition e plain = plain

-- two values that are compared are a condition
compared_condition : (line : ℕ) (op : BinaryOp) (left right : Expression) → (plainness left).value ≡ true → (plainness right).value ≡ true → (plainness (binary_expression line op left right)).condition ≡ true
compared_condition line op left right first second = by (is_comparison op)
  where
    by : (compares : Bool) → (plain_comparison compares ((plainness left).value && (plainness right).value)).condition ≡ true
    by true = both_hold _ _ first second
    by false = both_hold _ _ first second

-- ---- statements

module _ {P : FunctionBody → Type 0} (plain : (body : FunctionBody) → P body → plain_body body ≡ true) where
  operands_have : (line : ℕ) (op : BinaryOp) (left right : Expression) → IsFlowLeafBy P (tested_as (binary_expression line op left right)) → HasCoreBy P left × HasCoreBy P right
  operands_have line BinaryOp.Ne left right are = are
  operands_have line op left right are = are

  alone_plain : (e : Expression) (k : Option Constant) → literal e ≡ k → AloneHolds (IsFlowPartBy P) k e → (IsFlowLeafBy P (tested_as e) → (plainness e).condition ≡ true) → (plainness e).condition ≡ true
  alone_plain e (Some k) is holds leaf = literal_plain e k is
  alone_plain e None is holds leaf = leaf holds

  test_plain : (e : Expression) → TestHolds (IsFlowPartBy P) e → (plainness e).condition ≡ true
  test_plain (and_expression line left right) holds = both_hold _ _ (test_plain left holds.0) (test_plain right holds.1)
  test_plain (or_expression line left right) holds = both_hold _ _ (test_plain left holds.0) (test_plain right holds.1)
  test_plain (unary_expression line UnaryOp.Not e) holds = test_plain e holds
  test_plain (parenthesized line e) holds = test_plain e holds
  test_plain (binary_expression line op left right) holds =
      alone_plain (binary_expression line op left right) (literal (binary_expression line op left right)) refl holds
      (λ is. let have = operands_have line op left right is in compared_condition line op left right (core_plain plain left have.0) (core_plain plain right have.1))
  test_plain e holds = alone_plain e (literal e) refl holds (λ is. value_condition e (core_plain plain e is))

  -- the values of a loop that counts, and its block
  counted_plain : (first last : Expression) (by : ForStep) (block : Statements) → AllHaveCoresBy P (head_values first last by) → plain_statements block ≡ true →
      ((plainness first).value && (plainness last).value && plain_step by && plain_statements block) ≡ true
  counted_plain first last no_step block have inside = both_hold _ _ (both_hold _ _ (both_hold _ _ (core_plain plain first have.0) (core_plain plain last have.1.0)) refl) inside
  counted_plain first last (by_step e) block have inside = both_hold _ _ (both_hold _ _ (both_hold _ _ (core_plain plain first have.0) (core_plain plain last have.1.0)) (core_plain plain e have.1.1.0)) inside

  mutual
    block_plain : (looped : Bool) (block : Statements) → StatementsHold (IsFlowPartBy P) looped block → plain_statements block ≡ true
    block_plain looped no_statements holds = refl
    block_plain looped (syntax.statement line semi s rest) holds = both_hold _ _ (statement_plain looped s holds.0) (block_plain looped rest holds.1)

    statement_plain : (looped : Bool) (s : Statement) → StatementHolds (IsFlowPartBy P) looped s → plain_statement s ≡ true
    statement_plain looped (do_block block) holds = block_plain looped block holds
    statement_plain looped (while_loop e block) holds = both_hold _ _ (test_plain e holds.0) (block_plain true block holds.1)
    statement_plain looped (repeat_loop block e) holds = both_hold _ _ (block_plain true block holds.0) (test_plain e holds.1)
    statement_plain looped (if_statement branches last) holds = both_hold _ _ (branches_plain looped branches holds.0) (otherwise_plain looped last holds.1)
    statement_plain looped (numeric_for name first last by block) holds = counted_plain first last by block holds.0 (block_plain true block holds.1)
    statement_plain looped (generic_for names es block) holds = both_hold _ _ (cores_plain plain es holds.0) (block_plain true block holds.1)
    statement_plain looped (return_statement es) holds = cores_plain plain es holds
    statement_plain looped break_statement holds = refl
    statement_plain looped (call_statement e) holds = straight_statement_plain plain (call_statement e) holds
    statement_plain looped (assignment targets es) holds = straight_statement_plain plain (assignment targets es) holds
    statement_plain looped (local_statement names es) holds = straight_statement_plain plain (local_statement names es) holds
    statement_plain looped (local_function name body) holds = straight_statement_plain plain (local_function name body) holds
    statement_plain looped (function_statement path method body) holds = straight_statement_plain plain (function_statement path method body) holds

    branches_plain : (looped : Bool) (branches : Branches) → BranchesHold (IsFlowPartBy P) looped branches → plain_branches branches ≡ true
    branches_plain looped no_branches holds = refl
    branches_plain looped (branch e block rest) holds = both_hold _ _ (both_hold _ _ (test_plain e holds.0) (block_plain looped block holds.1)) (branches_plain looped rest holds.2)

    otherwise_plain : (looped : Bool) (last : Otherwise) → OtherwiseHolds (IsFlowPartBy P) looped last → plain_otherwise last ≡ true
    otherwise_plain looped no_otherwise holds = refl
    otherwise_plain looped (otherwise block) holds = block_plain looped block holds

-- ---- functions

pub flow_plain : (deep : ℕ) (body : FunctionBody) → IsFlowBody deep body → plain_body body ≡ true
flow_plain zero body none = absurd none
flow_plain (suc deep) (function_body params vararg block first last) holds = block_plain (flow_plain deep) false block holds.0
