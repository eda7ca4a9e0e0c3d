-- Serves the law. What the names of a source mean, in order, and what they mean in order where comparisons are turned: the same but for the operands of those comparisons, one of which is a local of the function.
use Rattle.std.specs.Prelude.{◌≡◌, ◌++◌, ◌∷◌, ◌&&◌, ℕ, Bool, true, false, List, [], is_some}
use Rattle.lua_num.specs.Bytes.{Text}
use Rattle.lua_tree.specs.Outline.{all_params}
use Rattle.lua_tree.specs.Scoping.{Use, local_use}
use Rattle.lua_tree.specs.Syntax.{Statements, no_statements, statement, Statement, assignment, call_statement, do_block, while_loop, repeat_loop, if_statement, numeric_for, generic_for, function_statement, local_function, local_statement, return_statement, break_statement, Branches, no_branches, branch, Otherwise, no_otherwise, otherwise, ForStep, no_step, by_step, FunctionBody, function_body, Expressions, no_expressions, expression, Expression, name_expression, function_expression, index_expression, field_expression, call_expression, method_call, and_expression, or_expression, binary_expression, unary_expression, constructor, parenthesized, Arguments, argument_list, text_argument, table_argument, Fields, no_fields, positional, named, keyed}
use Rattle.lua_tree.specs.declared.tree.UnaryOp.{UnaryOp}
use Rattle.scheme_order.specs.Turned.{is_own, is_turned, with_all_declared, with_declared}

-- what the names of two sources mean, in order
abbrev pub Uses : Type 1
Uses = (here there : List Use) → Type 0

abbrev pub NoUses : Uses
NoUses here there = (here ≡ []) × (there ≡ [])

-- one name, which means the same
abbrev pub OneUse : Uses
OneUse here there = (meant : Use) × (here ≡ meant ∷ []) × (there ≡ meant ∷ [])

abbrev pub BothUse : Uses → Uses → Uses
BothUse First Second here there =
    (one : List Use) × (more : List Use) × (one' : List Use) × (more' : List Use) × First one one' × Second more more' × (here ≡ one ++ more) × (there ≡ one' ++ more')

abbrev pub IsLocalUse : List Use → Type 0
IsLocalUse uses = (declaration : ℕ) × (uses ≡ local_use declaration ∷ [])

-- where it is a local of the function it means one
abbrev pub OwnUse : (is_own : Bool) → List Use → Type 0
OwnUse true uses = IsLocalUse uses
OwnUse false uses = Unit {0}

-- the second is written first there
abbrev pub TurnedUse : (left_own right_own : Bool) → Uses → Uses → Uses
TurnedUse left_own right_own First Second here there =
    (one : List Use) × (more : List Use) × (one' : List Use) × (more' : List Use) × First one one' × Second more more' × OwnUse left_own one × OwnUse right_own more × (here ≡ one ++ more) × (there ≡ more' ++ one')

abbrev pub ComparedUse : (turned left_own right_own : Bool) → Uses → Uses → Uses
ComparedUse true left_own right_own First Second = TurnedUse left_own right_own First Second
ComparedUse false left_own right_own First Second = BothUse First Second

-- a function statement mentions the first name of its path
abbrev pub PathUses : List Text → Uses
PathUses [] here there = ⊥
PathUses (name ∷ fields) here there = OneUse here there

abbrev mutual
  pub BlockUses : (own : List Text) → Statements → Uses
  BlockUses own no_statements = NoUses
  BlockUses own (statement line semi s rest) = BothUse (StatementUses own s) (BlockUses (with_declared own s) rest)

  pub StatementUses : (own : List Text) → Statement → Uses
  StatementUses own (assignment targets es) = BothUse (AllUse own targets) (AllUse own es)
  StatementUses own (call_statement e) = ExpressionUses false own e
  StatementUses own (do_block block) = BlockUses own block
  StatementUses own (while_loop e block) = BothUse (ExpressionUses true own e) (BlockUses own block)
  StatementUses own (repeat_loop block e) = BothUse (BlockUses own block) (ExpressionUses true (with_all_declared own block) e)
  StatementUses own (if_statement branches last) = BothUse (BranchesUse own branches) (OtherwiseUses own last)
  StatementUses own (numeric_for name first last by block) =
      BothUse (ExpressionUses false own first) (BothUse (ExpressionUses false own last) (BothUse (StepUses own by) (BlockUses (name ∷ own) block)))
  StatementUses own (generic_for names es block) = BothUse (AllUse own es) (BlockUses (names ++ own) block)
  StatementUses own (function_statement path method body) = BothUse (PathUses path) (BodyUses (is_some method) body)
  StatementUses own (local_function name body) = BodyUses false body
  StatementUses own (local_statement names es) = AllUse own es
  StatementUses own (return_statement es) = AllUse own es
  StatementUses own break_statement = NoUses

  pub BranchesUse : (own : List Text) → Branches → Uses
  BranchesUse own no_branches = NoUses
  BranchesUse own (branch e block rest) = BothUse (ExpressionUses true own e) (BothUse (BlockUses own block) (BranchesUse own rest))

  pub OtherwiseUses : (own : List Text) → Otherwise → Uses
  OtherwiseUses own no_otherwise = NoUses
  OtherwiseUses own (otherwise block) = BlockUses own block

  pub StepUses : (own : List Text) → ForStep → Uses
  StepUses own no_step = NoUses
  StepUses own (by_step e) = ExpressionUses false own e

  pub BodyUses : (method : Bool) → FunctionBody → Uses
  BodyUses method (function_body params vararg block first last) = BlockUses (all_params method params) block

  pub ExpressionUses : (tested : Bool) → (own : List Text) → Expression → Uses
  ExpressionUses tested own (name_expression line text) = OneUse
  ExpressionUses tested own (function_expression line body) = BodyUses false body
  ExpressionUses tested own (index_expression line on key) = BothUse (ExpressionUses false own on) (ExpressionUses false own key)
  ExpressionUses tested own (field_expression line on name) = ExpressionUses false own on
  ExpressionUses tested own (call_expression line on args on_line) = BothUse (ExpressionUses false own on) (ArgumentsUse own args)
  ExpressionUses tested own (method_call line on name args on_line) = BothUse (ExpressionUses false own on) (ArgumentsUse own args)
  ExpressionUses tested own (and_expression line left right) = BothUse (ExpressionUses tested own left) (ExpressionUses tested own right)
  ExpressionUses tested own (or_expression line left right) = BothUse (ExpressionUses tested own left) (ExpressionUses tested own right)
  ExpressionUses tested own (binary_expression line op left right) = ComparedUse (tested && is_turned own op left right) (is_own own left) (is_own own right) (ExpressionUses false own left) (ExpressionUses false own right)
  ExpressionUses tested own (unary_expression line UnaryOp.Not e) = ExpressionUses tested own e
  ExpressionUses tested own (unary_expression line op e) = ExpressionUses false own e
  ExpressionUses tested own (constructor line fields) = FieldsUse own fields
  ExpressionUses tested own (parenthesized line e) = ExpressionUses tested own e
  ExpressionUses tested own e = NoUses

  pub ArgumentsUse : (own : List Text) → Arguments → Uses
  ArgumentsUse own (argument_list es) = AllUse own es
  ArgumentsUse own (text_argument text) = NoUses
  ArgumentsUse own (table_argument fields) = FieldsUse own fields

  pub AllUse : (own : List Text) → Expressions → Uses
  AllUse own no_expressions = NoUses
  AllUse own (expression e rest) = BothUse (ExpressionUses false own e) (AllUse own rest)

  pub FieldsUse : (own : List Text) → Fields → Uses
  FieldsUse own no_fields = NoUses
  FieldsUse own (positional e separator rest) = BothUse (ExpressionUses false own e) (FieldsUse own rest)
  FieldsUse own (named name e separator rest) = BothUse (ExpressionUses false own e) (FieldsUse own rest)
  FieldsUse own (keyed key e separator rest) = BothUse (ExpressionUses false own key) (BothUse (ExpressionUses false own e) (FieldsUse own rest))
