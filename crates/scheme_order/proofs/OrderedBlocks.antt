-- Where no test of a block is turned, nor of the functions in it, none is turned in the function itself.
use Rattle.std.proofs.Common.{◌≡◌, true, false, List, ◌∷◌, ◌++◌, refl, ap₂}
use Rattle.std.specs.Prelude.{◌&&◌, not}
use Rattle.std.proofs.lemmas.Bool.{and_parts}
use Rattle.lua_num.specs.Bytes.{Text}
use Rattle.lua_tree.specs.Syntax as syntax
use Rattle.lua_tree.specs.Syntax.{Statements, no_statements, Statement, do_block, while_loop, repeat_loop, if_statement, numeric_for, generic_for, Branches, no_branches, branch, Otherwise, no_otherwise, otherwise, Expression, and_expression, or_expression, binary_expression, unary_expression, parenthesized}
use Rattle.lua_tree.specs.declared.tree.UnaryOp.{UnaryOp}
use Rattle.scheme_order.specs.Turned.{with_declared, with_all_declared, is_turned}
use Rattle.scheme_order.specs.Ordered.{ordered_test, ordered_block, ordered_statement, ordered_branches, ordered_otherwise}
use Rattle.scheme_order.specs.AllOrdered.{all_ordered_block, all_ordered_statement, all_ordered_branches, all_ordered_otherwise, all_ordered_step, all_ordered_expression, all_ordered_values}

-- what is tested
pub test_of_all : (own : List Text) (e : Expression) → all_ordered_expression true own e ≡ true → ordered_test own e ≡ true
test_of_all own (and_expression line left right) is = let p = and_parts _ _ is in ap₂ ◌&&◌ (test_of_all own left p.0) (test_of_all own right p.1)
test_of_all own (or_expression line left right) is = let p = and_parts _ _ is in ap₂ ◌&&◌ (test_of_all own left p.0) (test_of_all own right p.1)
test_of_all own (binary_expression line op left right) is = (and_parts (not (is_turned own op left right)) _ is).0
test_of_all own (unary_expression line UnaryOp.Not e) is = test_of_all own e is
test_of_all own (unary_expression line op e) is = refl
test_of_all own (parenthesized line e) is = test_of_all own e is
test_of_all own e is = refl

mutual
  pub ordered_of_all : (own : List Text) (block : Statements) → all_ordered_block own block ≡ true → ordered_block own block ≡ true
  ordered_of_all own no_statements is = refl
  ordered_of_all own (syntax.statement line semi s rest) is = let p = and_parts _ _ is in ap₂ ◌&&◌ (statement_of_all own s p.0) (ordered_of_all (with_declared own s) rest p.1)

  statement_of_all : (own : List Text) (s : Statement) → all_ordered_statement own s ≡ true → ordered_statement own s ≡ true
  statement_of_all own (do_block block) is = ordered_of_all own block is
  statement_of_all own (while_loop e block) is = let p = and_parts _ _ is in ap₂ ◌&&◌ (test_of_all own e p.0) (ordered_of_all own block p.1)
  statement_of_all own (repeat_loop block e) is = let p = and_parts _ _ is in ap₂ ◌&&◌ (ordered_of_all own block p.0) (test_of_all (with_all_declared own block) e p.1)
  statement_of_all own (if_statement branches last) is = let p = and_parts _ _ is in ap₂ ◌&&◌ (branches_of_all own branches p.0) (otherwise_of_all own last p.1)
  statement_of_all own (numeric_for name first last by block) is =
      let p = and_parts (all_ordered_expression false own first) _ is in
      let q = and_parts (all_ordered_expression false own last) _ p.1 in
      ordered_of_all (name ∷ own) block (and_parts (all_ordered_step own by) _ q.1).1
  statement_of_all own (generic_for names es block) is = ordered_of_all (names ++ own) block (and_parts (all_ordered_values own es) _ is).1
  statement_of_all own s is = refl

  branches_of_all : (own : List Text) (branches : Branches) → all_ordered_branches own branches ≡ true → ordered_branches own branches ≡ true
  branches_of_all own no_branches is = refl
  branches_of_all own (branch e block rest) is =
      let p = and_parts (all_ordered_expression true own e) _ is in
      let q = and_parts (all_ordered_block own block) _ p.1 in
      ap₂ ◌&&◌ (test_of_all own e p.0) (ap₂ ◌&&◌ (ordered_of_all own block q.0) (branches_of_all own rest q.1))

  otherwise_of_all : (own : List Text) (last : Otherwise) → all_ordered_otherwise own last ≡ true → ordered_otherwise own last ≡ true
  otherwise_of_all own no_otherwise is = refl
  otherwise_of_all own (otherwise block) is = ordered_of_all own block is
