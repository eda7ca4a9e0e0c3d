-- A block in which no test is turned is one on one line too.
use Rattle.std.proofs.Common.{◌≡◌, ◌∷◌, ◌++◌, not, ◌&&◌, List, refl, ap, ap₂, ◌∙◌}
use Rattle.lua_num.specs.Bytes.{Text}
use Rattle.lua_tree.specs.OneLine.{one_line_branches, one_line_expression, one_line_otherwise, one_line_statement, one_line_statements}
use Rattle.lua_tree.specs.Syntax as syntax
use Rattle.lua_tree.specs.Syntax.{Statements, no_statements, Statement, do_block, while_loop, repeat_loop, if_statement, numeric_for, generic_for, local_function, local_statement, Branches, no_branches, branch, Otherwise, no_otherwise, otherwise, Expression, name_expression, and_expression, or_expression, binary_expression, unary_expression, parenthesized}
use Rattle.lua_tree.specs.declared.tree.UnaryOp.{UnaryOp}
use Rattle.scheme_order.specs.Ordered.{ordered_block, ordered_branches, ordered_otherwise, ordered_statement, ordered_test}
use Rattle.scheme_order.specs.Turned.{is_own, is_turned, with_all_declared, with_declared}
use Rattle.reads_back.proofs.WordsSame.{same_literal}

-- ---- what is tested

own_on_line : (own : List Text) (e : Expression) → is_own own (one_line_expression e) ≡ is_own own e
own_on_line own (name_expression line text) = refl
own_on_line own (parenthesized line e) = own_on_line own e
own_on_line own e = refl

test_on_line : (own : List Text) (e : Expression) → ordered_test own (one_line_expression e) ≡ ordered_test own e
test_on_line own (and_expression line left right) = ap₂ (λ a b. a && b) (test_on_line own left) (test_on_line own right)
test_on_line own (or_expression line left right) = ap₂ (λ a b. a && b) (test_on_line own left) (test_on_line own right)
test_on_line own (unary_expression line UnaryOp.Not e) = test_on_line own e
test_on_line own (parenthesized line e) = test_on_line own e
test_on_line own (binary_expression line op left right) = ap not same
  where
    same : is_turned own op (one_line_expression left) (one_line_expression right) ≡ is_turned own op left right
    same = cc (own_on_line own left, own_on_line own right, same_literal left, same_literal right)
test_on_line own e = refl

-- ---- what is declared

declared_on_line : (own : List Text) (s : Statement) → with_declared own (one_line_statement s) ≡ with_declared own s
declared_on_line own (local_statement names es) = refl
declared_on_line own (local_function name body) = refl
declared_on_line own s = refl

all_declared_on_line : (own : List Text) (block : Statements) → with_all_declared own (one_line_statements block) ≡ with_all_declared own block
all_declared_on_line own no_statements = refl
all_declared_on_line own (syntax.statement line semi s rest) =
    ap (λ (own : List Text). with_all_declared own (one_line_statements rest)) (declared_on_line own s) ∙ all_declared_on_line (with_declared own s) rest

-- ---- statements

mutual
  pub ordered_on_line : (own : List Text) (block : Statements) → ordered_block own (one_line_statements block) ≡ ordered_block own block
  ordered_on_line own no_statements = refl
  ordered_on_line own (syntax.statement line semi s rest) =
      ap₂ (λ a b. a && b) (statement_on_line own s)
      (ap (λ (own : List Text). ordered_block own (one_line_statements rest)) (declared_on_line own s) ∙ ordered_on_line (with_declared own s) rest)

  statement_on_line : (own : List Text) (s : Statement) → ordered_statement own (one_line_statement s) ≡ ordered_statement own s
  statement_on_line own (do_block block) = ordered_on_line own block
  statement_on_line own (while_loop e block) = ap₂ (λ a b. a && b) (test_on_line own e) (ordered_on_line own block)
  statement_on_line own (repeat_loop block e) =
      ap₂ (λ a b. a && b) (ordered_on_line own block)
      (ap (λ (own : List Text). ordered_test own (one_line_expression e)) (all_declared_on_line own block) ∙ test_on_line (with_all_declared own block) e)
  statement_on_line own (if_statement branches last) = ap₂ (λ a b. a && b) (branches_on_line own branches) (otherwise_on_line own last)
  statement_on_line own (numeric_for name first last by block) = ordered_on_line (name ∷ own) block
  statement_on_line own (generic_for names es block) = ordered_on_line (names ++ own) block
  statement_on_line own s = refl

  branches_on_line : (own : List Text) (branches : Branches) → ordered_branches own (one_line_branches branches) ≡ ordered_branches own branches
  branches_on_line own no_branches = refl
  branches_on_line own (branch e block rest) = ap₂ (λ a b. a && b) (test_on_line own e) (ap₂ (λ a b. a && b) (ordered_on_line own block) (branches_on_line own rest))

  otherwise_on_line : (own : List Text) (last : Otherwise) → ordered_otherwise own (one_line_otherwise last) ≡ ordered_otherwise own last
  otherwise_on_line own no_otherwise = refl
  otherwise_on_line own (otherwise block) = ordered_on_line own block
