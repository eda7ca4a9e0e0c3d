-- Serves the laws. Straight statements: calls, assignments, function statements, local functions, declarations of locals and returns, of values in which no operator is `and`, `or` or a comparison; where the functions in them are such.
use Rattle.std.specs.Prelude.{◌≡◌, true, false, is_some}
use Rattle.lua_tree.specs.Names.{are_some_names, is_name}
use Rattle.lua_tree.specs.Syntax as syntax
use Rattle.lua_tree.specs.Syntax.{FunctionBody, function_body, Expression, Expressions, no_expressions, Source, Statement, Statements, Arguments, argument_list, text_argument, table_argument, Fields, no_fields, positional, named, keyed, nil_literal, true_literal, false_literal, vararg_expression, number_literal, text_literal, name_expression, function_expression, index_expression, field_expression, call_expression, method_call, binary_expression, unary_expression, constructor, parenthesized, assignment, call_statement, function_statement, local_function, local_statement, no_statements, return_statement}
use Rattle.lua_tree.specs.WellFormed.{has_expressions, is_call, is_numeral_value}
use Rattle.scheme.specs.Expressions.{is_comparison}
use Rattle.reads_back.specs.Assignments.{with_self}

-- ---- expressions: no `and`, `or` and comparisons

-- where the functions in it are such
abbrev mutual
  pub HasCoreBy : (FunctionBody → Type 0) → Expression → Type 0
  HasCoreBy P (nil_literal line) = Unit {0}
  HasCoreBy P (true_literal line) = Unit {0}
  HasCoreBy P (false_literal line) = Unit {0}
  HasCoreBy P (vararg_expression line) = Unit {0}
  HasCoreBy P (number_literal line n) = is_numeral_value n ≡ true
  HasCoreBy P (text_literal line text) = Unit {0}
  HasCoreBy P (name_expression line text) = is_name text ≡ true
  HasCoreBy P (function_expression line body) = P body
  HasCoreBy P (index_expression line on key) = HasCoreBy P on × HasCoreBy P key
  HasCoreBy P (field_expression line on text) = HasCoreBy P on
  HasCoreBy P (call_expression line on args on_line) = HasCoreBy P on × HaveCoresBy P args
  HasCoreBy P (method_call line on name args on_line) = (is_name name ≡ true) × HasCoreBy P on × HaveCoresBy P args
  HasCoreBy P (binary_expression line op left right) = (is_comparison op ≡ false) × HasCoreBy P left × HasCoreBy P right
  HasCoreBy P (unary_expression line op e) = HasCoreBy P e
  HasCoreBy P (constructor line fields) = HaveItemsBy P fields
  HasCoreBy P (parenthesized line e) = HasCoreBy P e
  HasCoreBy P e = ⊥

  pub HaveCoresBy : (FunctionBody → Type 0) → Arguments → Type 0
  HaveCoresBy P (argument_list es) = AllHaveCoresBy P es
  HaveCoresBy P (text_argument text) = Unit {0}
  HaveCoresBy P (table_argument fields) = HaveItemsBy P fields

  pub AllHaveCoresBy : (FunctionBody → Type 0) → Expressions → Type 0
  AllHaveCoresBy P no_expressions = Unit {0}
  AllHaveCoresBy P (syntax.expression e es) = HasCoreBy P e × AllHaveCoresBy P es

  pub HaveItemsBy : (FunctionBody → Type 0) → Fields → Type 0
  HaveItemsBy P no_fields = Unit {0}
  HaveItemsBy P (positional e separator rest) = HasCoreBy P e × HaveItemsBy P rest
  HaveItemsBy P (named text e separator rest) = HasCoreBy P e × HaveItemsBy P rest
  HaveItemsBy P (keyed key e separator rest) = HasCoreBy P key × HasCoreBy P e × HaveItemsBy P rest

-- ---- statements

abbrev pub IsActTargetBy : (FunctionBody → Type 0) → Expression → Type 0
IsActTargetBy P (name_expression line text) = is_name text ≡ true
IsActTargetBy P (index_expression line on key) = HasCoreBy P on × HasCoreBy P key
IsActTargetBy P (field_expression line on text) = HasCoreBy P on
IsActTargetBy P e = ⊥

abbrev pub AreActTargetsBy : (FunctionBody → Type 0) → Expressions → Type 0
AreActTargetsBy P no_expressions = Unit {0}
AreActTargetsBy P (syntax.expression e es) = IsActTargetBy P e × AreActTargetsBy P es

-- any values go to any targets
pub record AssignsBy (P : FunctionBody → Type 0) (to from : Expressions) : Type 0 where
  pub some : has_expressions to ≡ true
  pub targets : AreActTargetsBy P to
  pub given : has_expressions from ≡ true
  pub values : AllHaveCoresBy P from

abbrev pub IsActBy : (FunctionBody → Type 0) → Statement → Type 0
IsActBy P (call_statement e) = (is_call e ≡ true) × HasCoreBy P e
IsActBy P (assignment targets es) = AssignsBy P targets es
IsActBy P (local_statement names es) = (are_some_names names ≡ true) × AllHaveCoresBy P es
IsActBy P (local_function text body) = (is_name text ≡ true) × P body
IsActBy P (return_statement es) = AllHaveCoresBy P es
IsActBy P statement = ⊥

-- or it gives a function to a path
abbrev pub IsStraightStatementBy : (FunctionBody → Type 0) → Statement → Type 0
IsStraightStatementBy P (function_statement path method body) = P (with_self (is_some method) body)
IsStraightStatementBy P s = IsActBy P s
