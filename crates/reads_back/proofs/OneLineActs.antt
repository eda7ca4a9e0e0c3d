-- An act or a function statement is one on one line too, where the functions in it stay such.
use Rattle.std.proofs.Common.{◌≡◌, Bool, true, false, is_some, refl, subst}
use Rattle.lua_tree.specs.OneLine.{one_line_arguments, one_line_expression, one_line_expressions, one_line_fields, one_line_statement, one_line_body}
use Rattle.lua_tree.specs.Syntax as syntax
use Rattle.lua_tree.specs.Syntax.{Arguments, Expression, Expressions, Statement, argument_list, assignment, binary_expression, call_expression, call_statement, constructor, Fields, no_fields, positional, named, keyed, table_argument, false_literal, field_expression, index_expression, local_statement, method_call, name_expression, nil_literal, no_expressions, number_literal, parenthesized, return_statement, text_argument, text_literal, true_literal, unary_expression, vararg_expression, FunctionBody, function_body, function_expression, function_statement, local_function}
use Rattle.lua_tree.specs.WellFormed.{has_expressions, is_call}
use Rattle.reads_back.specs.Assignments.{with_self}
use Rattle.reads_back.specs.Straight.{IsActBy, IsActTargetBy, AreActTargetsBy, IsStraightStatementBy, HasCoreBy, AllHaveCoresBy, HaveCoresBy, HaveItemsBy}

module _ (P : FunctionBody → Type 0) where
  -- a target can be read as well, as a value
  target_has_core : (e : Expression) → IsActTargetBy P e → HasCoreBy P e
  target_has_core (name_expression line text) is = is
  target_has_core (index_expression line on key) is = is
  target_has_core (field_expression line on text) is = is
  target_has_core e is = absurd is

  pub targets_have_cores : (targets : Expressions) → AreActTargetsBy P targets → AllHaveCoresBy P targets
  targets_have_cores no_expressions are = tt
  targets_have_cores (syntax.expression e targets) are = (target_has_core e are.0, targets_have_cores targets are.1)

-- functions stay such on one line
abbrev pub StayOnLine : (FunctionBody → Type 0) → Type 0
StayOnLine P = (body : FunctionBody) → P body → P (one_line_body body)

-- with `self` among the parameters or not
pub self_on_line : (method : Bool) (body : FunctionBody) → one_line_body (with_self method body) ≡ with_self method (one_line_body body)
self_on_line true (function_body params vararg block first last) = refl
self_on_line false body = refl

module _ {P : FunctionBody → Type 0} (kept : StayOnLine P) where
  -- ---- it is an act

  mutual
    pub core_on_line : (e : Expression) → HasCoreBy P e → HasCoreBy P (one_line_expression e)
    core_on_line (nil_literal line) has = has
    core_on_line (true_literal line) has = has
    core_on_line (false_literal line) has = has
    core_on_line (vararg_expression line) has = has
    core_on_line (number_literal line n) has = has
    core_on_line (text_literal line text) has = has
    core_on_line (name_expression line text) has = has
    core_on_line (function_expression line body) has = kept body has
    core_on_line (index_expression line on key) has = (core_on_line on has.0, core_on_line key has.1)
    core_on_line (field_expression line on text) has = core_on_line on has
    core_on_line (call_expression line on args on_line) has = (core_on_line on has.0, arguments_on_line args has.1)
    core_on_line (method_call line on name args on_line) has = (has.0, core_on_line on has.1, arguments_on_line args has.2)
    core_on_line (binary_expression line op left right) has = (has.0, core_on_line left has.1, core_on_line right has.2)
    core_on_line (unary_expression line op e) has = core_on_line e has
    core_on_line (constructor line fields) has = items_on_line fields has
    core_on_line (parenthesized line e) has = core_on_line e has
    core_on_line e has = absurd has

    arguments_on_line : (args : Arguments) → HaveCoresBy P args → HaveCoresBy P (one_line_arguments args)
    arguments_on_line (argument_list es) have = cores_on_line es have
    arguments_on_line (text_argument text) have = have
    arguments_on_line (table_argument fields) have = items_on_line fields have

    items_on_line : (fields : Fields) → HaveItemsBy P fields → HaveItemsBy P (one_line_fields fields)
    items_on_line no_fields have = have
    items_on_line (positional e separator rest) have = (core_on_line e have.0, items_on_line rest have.1)
    items_on_line (named text e separator rest) have = (core_on_line e have.0, items_on_line rest have.1)
    items_on_line (keyed key e separator rest) have = (core_on_line key have.0, core_on_line e have.1, items_on_line rest have.2)

    pub cores_on_line : (es : Expressions) → AllHaveCoresBy P es → AllHaveCoresBy P (one_line_expressions es)
    cores_on_line no_expressions have = have
    cores_on_line (syntax.expression e es) have = (core_on_line e have.0, cores_on_line es have.1)

  call_on_line : (e : Expression) → is_call e ≡ true → is_call (one_line_expression e) ≡ true
  call_on_line (call_expression line on args on_line) call = call
  call_on_line (method_call line on name args on_line) call = call
  call_on_line e call = cc

  target_on_line : (e : Expression) → IsActTargetBy P e → IsActTargetBy P (one_line_expression e)
  target_on_line (name_expression line text) is = is
  target_on_line (index_expression line on key) is = (core_on_line on is.0, core_on_line key is.1)
  target_on_line (field_expression line on text) is = core_on_line on is
  target_on_line e is = absurd is

  targets_on_line : (targets : Expressions) → AreActTargetsBy P targets → AreActTargetsBy P (one_line_expressions targets)
  targets_on_line no_expressions are = are
  targets_on_line (syntax.expression e targets) are = (target_on_line e are.0, targets_on_line targets are.1)

  some_on_line : (es : Expressions) → has_expressions es ≡ true → has_expressions (one_line_expressions es) ≡ true
  some_on_line no_expressions some = some
  some_on_line (syntax.expression e es) some = refl

  pub act_on_line : (s : Statement) → IsActBy P s → IsActBy P (one_line_statement s)
  act_on_line (call_statement e) is = (call_on_line e is.0, core_on_line e is.1)
  act_on_line (assignment targets es) is =
      record { some = some_on_line targets is.some; targets = targets_on_line targets is.targets; given = some_on_line es is.given; values = cores_on_line es is.values }
  act_on_line (local_statement names es) is = (is.0, cores_on_line es is.1)
  act_on_line (local_function text body) is = (is.0, kept body is.1)
  act_on_line (return_statement es) is = cores_on_line es is
  act_on_line s is = absurd is

  -- so is a function statement
  pub straight_statement_on_line : (s : Statement) → IsStraightStatementBy P s → IsStraightStatementBy P (one_line_statement s)
  straight_statement_on_line (function_statement path method body) is = subst P (self_on_line (is_some method) body) (kept (with_self (is_some method) body) is)
  straight_statement_on_line s is = act_on_line s is
