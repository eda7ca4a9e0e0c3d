-- A value in which no operator is `and`, `or` or a comparison is plain, and so is an act, where the functions in them are.
use Rattle.std.proofs.Common.{◌≡◌, Bool, true, false, ◌&&◌, is_some, refl, sym, ap, ◌∙◌}
use Rattle.lua_tree.specs.Syntax as syntax
use Rattle.lua_tree.specs.Syntax.{Statements, no_statements, Statement, assignment, call_statement, function_statement, local_function, local_statement, return_statement, FunctionBody, function_body, Expressions, no_expressions, Expression, nil_literal, true_literal, false_literal, vararg_expression, number_literal, text_literal, name_expression, function_expression, index_expression, field_expression, call_expression, method_call, binary_expression, unary_expression, constructor, parenthesized, Arguments, argument_list, text_argument, table_argument, Fields, no_fields, positional, named, keyed}
use Rattle.lua_tree.specs.declared.tree.UnaryOp.{UnaryOp}
use Rattle.scheme.specs.Shapes.{plain_arguments, plain_body, plain_comparison, plain_fields, plain_statement, plain_values, plainness}
use Rattle.reads_back.specs.Assignments.{with_self}
use Rattle.reads_back.specs.Straight.{AllHaveCoresBy, HasCoreBy, HaveCoresBy, HaveItemsBy, IsActBy, IsStraightStatementBy}
use Rattle.reads_back.proofs.OneLineActs.{targets_have_cores}
use Rattle.reads_back.proofs.Tests.{both_hold}

-- with `self` among the parameters or not
self_plain : (method : Bool) (body : FunctionBody) → plain_body (with_self method body) ≡ plain_body body
self_plain true (function_body params vararg block first last) = refl
self_plain false body = refl

module _ {P : FunctionBody → Type 0} (plain : (body : FunctionBody) → P body → plain_body body ≡ true) where
  -- ---- expressions

  mutual
    pub core_plain : (e : Expression) → HasCoreBy P e → (plainness e).value ≡ true
    core_plain (nil_literal line) has = refl
    core_plain (true_literal line) has = refl
    core_plain (false_literal line) has = refl
    core_plain (vararg_expression line) has = refl
    core_plain (number_literal line n) has = refl
    core_plain (text_literal line text) has = refl
    core_plain (name_expression line text) has = refl
    core_plain (function_expression line body) has = plain body has
    core_plain (index_expression line on key) has = both_hold _ _ (core_plain on has.0) (core_plain key has.1)
    core_plain (field_expression line on text) has = core_plain on has
    core_plain (call_expression line on args on_line) has = both_hold _ _ (core_plain on has.0) (arguments_plain args has.1)
    core_plain (method_call line on name args on_line) has = both_hold _ _ (core_plain on has.1) (arguments_plain args has.2)
    core_plain (binary_expression line op left right) has =
        ap (λ compares. (plain_comparison compares ((plainness left).value && (plainness right).value)).value) has.0 ∙ both_hold _ _ (core_plain left has.1) (core_plain right has.2)
    core_plain (unary_expression line UnaryOp.Not e) has = core_plain e has
    core_plain (unary_expression line op e) has = core_plain e has
    core_plain (constructor line fields) has = fields_plain fields has
    core_plain (parenthesized line e) has = core_plain e has
    core_plain e has = absurd has

    arguments_plain : (args : Arguments) → HaveCoresBy P args → plain_arguments args ≡ true
    arguments_plain (argument_list es) have = cores_plain es have
    arguments_plain (text_argument text) have = refl
    arguments_plain (table_argument fields) have = fields_plain fields have

    fields_plain : (fields : Fields) → HaveItemsBy P fields → plain_fields fields ≡ true
    fields_plain no_fields have = refl
    fields_plain (positional e separator rest) have = both_hold _ _ (core_plain e have.0) (fields_plain rest have.1)
    fields_plain (named text e separator rest) have = both_hold _ _ (core_plain e have.0) (fields_plain rest have.1)
    fields_plain (keyed key e separator rest) have = both_hold _ _ (both_hold _ _ (core_plain key have.0) (core_plain e have.1)) (fields_plain rest have.2)

    pub cores_plain : (es : Expressions) → AllHaveCoresBy P es → plain_values es ≡ true
    cores_plain no_expressions have = refl
    cores_plain (syntax.expression e es) have = both_hold _ _ (core_plain e have.0) (cores_plain es have.1)

  -- ---- statements

  act_plain : (s : Statement) → IsActBy P s → plain_statement s ≡ true
  act_plain (call_statement e) is = core_plain e is.1
  act_plain (assignment targets es) is = both_hold _ _ (cores_plain targets (targets_have_cores P targets is.targets)) (cores_plain es is.values)
  act_plain (local_statement names es) is = cores_plain es is.1
  act_plain (local_function text body) is = plain body is.1
  act_plain (return_statement es) is = cores_plain es is
  act_plain s is = absurd is

  pub straight_statement_plain : (s : Statement) → IsStraightStatementBy P s → plain_statement s ≡ true
  straight_statement_plain (function_statement path method body) is = sym (self_plain (is_some method) body) ∙ plain (with_self (is_some method) body) is
  straight_statement_plain s is = act_plain s is
