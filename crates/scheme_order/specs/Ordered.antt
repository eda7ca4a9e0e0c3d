-- To be believed. A block in which no test is turned: of each tested `>` and `>=` no operand is a local of the function where it stands, or one is a number or a string. What stands in the functions in it does not count.
use Rattle.std.specs.Prelude.{◌∷◌, ◌++◌, ◌&&◌, Bool, true, not, List}
use Rattle.lua_num.specs.Bytes.{Text}
use Rattle.lua_tree.specs.Syntax.{Statements, no_statements, statement, Statement, do_block, while_loop, repeat_loop, if_statement, numeric_for, generic_for, Branches, no_branches, branch, Otherwise, no_otherwise, otherwise, Expression, and_expression, or_expression, binary_expression, unary_expression, parenthesized}
use Rattle.lua_tree.specs.declared.tree.UnaryOp.{UnaryOp}
use Rattle.scheme_order.specs.Turned.{is_turned, with_all_declared, with_declared}

-- what is tested as a whole, where the locals of the function have these names
abbrev pub keeps_order : (own : List Text) → Expression → Bool
keeps_order own (binary_expression line op left right) = not (is_turned own op left right)
keeps_order own e = true

abbrev pub ordered_test : (own : List Text) → Expression → Bool
ordered_test own (and_expression line left right) = ordered_test own left && ordered_test own right
ordered_test own (or_expression line left right) = ordered_test own left && ordered_test own right
ordered_test own (unary_expression line UnaryOp.Not e) = ordered_test own e
ordered_test own (parenthesized line e) = ordered_test own e
ordered_test own e = keeps_order own e

abbrev mutual
  pub ordered_block : (own : List Text) → Statements → Bool
  ordered_block own no_statements = true
  ordered_block own (statement line semi s rest) = ordered_statement own s && ordered_block (with_declared own s) rest

  pub ordered_statement : (own : List Text) → Statement → Bool
  ordered_statement own (do_block block) = ordered_block own block
  ordered_statement own (while_loop e block) = ordered_test own e && ordered_block own block
  ordered_statement own (repeat_loop block e) = ordered_block own block && ordered_test (with_all_declared own block) e
  ordered_statement own (if_statement branches last) = ordered_branches own branches && ordered_otherwise own last
  ordered_statement own (numeric_for name first last by block) = ordered_block (name ∷ own) block
  ordered_statement own (generic_for names es block) = ordered_block (names ++ own) block
  ordered_statement own s = true

  pub ordered_branches : (own : List Text) → Branches → Bool
  ordered_branches own no_branches = true
  ordered_branches own (branch e block rest) = ordered_test own e && (ordered_block own block && ordered_branches own rest)

  pub ordered_otherwise : (own : List Text) → Otherwise → Bool
  ordered_otherwise own no_otherwise = true
  ordered_otherwise own (otherwise block) = ordered_block own block
