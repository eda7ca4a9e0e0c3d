-- A value that is formed, plain and ordered has a core, and a condition such parts, where P holds of the functions in them that are so.
use Rattle.std.proofs.Common.{◌≡◌, ℕ, ◌+◌, Bool, true, false, List}
use Rattle.std.specs.Prelude.{Option, Some, None}
use Rattle.std.proofs.lemmas.Bool.{and_parts, false≢true}
use Rattle.lua_num.specs.Bytes.{Text}
use Rattle.lua_tree.specs.Outline.{Place, body_part, expressions_part, expression_part, arguments_part, fields_part}
use Rattle.lua_tree.specs.Syntax as syntax
use Rattle.lua_tree.specs.Syntax.{FunctionBody, Expressions, no_expressions, Expression, nil_literal, true_literal, false_literal, vararg_expression, number_literal, text_literal, name_expression, function_expression, index_expression, field_expression, call_expression, method_call, and_expression, or_expression, binary_expression, unary_expression, constructor, parenthesized, Arguments, argument_list, text_argument, table_argument, Fields, no_fields, positional, named, keyed}
use Rattle.lua_tree.specs.declared.tree.BinaryOp.{BinaryOp}
use Rattle.lua_tree.specs.declared.tree.UnaryOp.{UnaryOp}
use Rattle.lua_tree.specs.WellFormed.{is_target, are_targets, depth_of_body, depth_of_expressions, depth_of_expression, depth_of_arguments, depth_of_fields, formed_body, formed_expressions, formed_expression, formed_arguments, formed_fields}
use Rattle.proto.specs.declared.parts.Constant.{Constant}
use Rattle.recover_expr.specs.Drafts.{condition_part}
use Rattle.scheme.specs.Expressions.{is_comparison, literal}
use Rattle.scheme.specs.Shapes.{plain_body, plain_values, plainness, plain_arguments, plain_fields}
use Rattle.scheme_order.specs.AllOrdered.{all_ordered_arguments, all_ordered_body, all_ordered_expression, all_ordered_fields, all_ordered_values}
use Rattle.same_flow.specs.Blocks.{AloneHolds, TestHolds, tested_as}
use Rattle.reads_back.specs.Assignments.{with_self}
use Rattle.reads_back.specs.Flows.{IsFlowPartBy}
use Rattle.reads_back.specs.Straight.{AllHaveCoresBy, AreActTargetsBy, HasCoreBy, HaveCoresBy, HaveItemsBy, IsActTargetBy}
use Rattle.recovers.proofs.PlainGives.{Gives, at_once, as_formed, not_plain, ◌and◌, so, deeper, also, ahead_of, keeping, past, no_comparison, compared, joined}

-- P holds of each function, and of each method with its `self`, that lies less deep than so many levels
abbrev pub Known : (P : FunctionBody → Type 0) → (limit : ℕ) → Type 0
Known P limit = (method : Bool) (body : FunctionBody) (place : Place) →
    Gives limit (1 + depth_of_body body) (formed_body body) (plain_body body) (all_ordered_body method body) (body_part method body place).marks (P (with_self method body))

module _ (P : FunctionBody → Type 0) {limit : ℕ} (known : Known P limit) where
  -- ---- values

  mutual
    -- where nothing is tested in it, but in the functions in it
    pub value_holds : (own : List Text) (e : Expression) (place : Place) →
        Gives limit (depth_of_expression e) (formed_expression e) (plainness e).value (all_ordered_expression false own e) (expression_part e place).marks (HasCoreBy P e)
    value_holds own (nil_literal line) place = at_once tt
    value_holds own (true_literal line) place = at_once tt
    value_holds own (false_literal line) place = at_once tt
    value_holds own (vararg_expression line) place = at_once tt
    value_holds own (number_literal line n) place = as_formed
    value_holds own (text_literal line text) place = at_once tt
    value_holds own (name_expression line name) place = as_formed
    value_holds own (function_expression line body) place = known false body place
    value_holds own (index_expression line on key) place = deeper (also _ (value_holds own on place and value_holds own key _))
    value_holds own (field_expression line on name) place = deeper (also _ (ahead_of _ (value_holds own on place)))
    value_holds own (call_expression line on args on_line) place = deeper (also _ (value_holds own on place and also _ (arguments_hold own args _)))
    value_holds own (method_call line on name args on_line) place =
        so (λ both. (both.1.0, both.0, both.1.1)) (deeper (also _ (value_holds own on place and keeping (also _ (arguments_hold own args _)))))
    value_holds own (and_expression line left right) place = not_plain
    value_holds own (or_expression line left right) place = not_plain
    value_holds own (binary_expression line op left right) place = deeper (also _ (also _ (no_comparison (is_comparison op) (value_holds own left place and value_holds own right _))))
    value_holds own (unary_expression line UnaryOp.Not e) place = deeper (also _ (value_holds own e place))
    value_holds own (unary_expression line op e) place = deeper (also _ (value_holds own e place))
    value_holds own (constructor line fields) place = deeper (fields_hold own fields place)
    value_holds own (parenthesized line e) place = deeper (value_holds own e place)

    arguments_hold : (own : List Text) (args : Arguments) (place : Place) →
        Gives limit (depth_of_arguments args) (formed_arguments args) (plain_arguments args) (all_ordered_arguments own args) (arguments_part args place).marks (HaveCoresBy P args)
    arguments_hold own (argument_list es) place = values_hold own es place
    arguments_hold own (text_argument text) place = at_once tt
    arguments_hold own (table_argument fields) place = fields_hold own fields place

    pub values_hold : (own : List Text) (es : Expressions) (place : Place) →
        Gives limit (depth_of_expressions es) (formed_expressions es) (plain_values es) (all_ordered_values own es) (expressions_part es place).marks (AllHaveCoresBy P es)
    values_hold own no_expressions place = at_once tt
    values_hold own (syntax.expression e rest) place = value_holds own e place and values_hold own rest _

    fields_hold : (own : List Text) (fields : Fields) (place : Place) →
        Gives limit (depth_of_fields fields) (formed_fields fields) (plain_fields fields) (all_ordered_fields own fields) (fields_part fields place).marks (HaveItemsBy P fields)
    fields_hold own no_fields place = at_once tt
    fields_hold own (positional e separator rest) place = also _ (value_holds own e place and fields_hold own rest _)
    fields_hold own (named name e separator rest) place = also _ (also _ (value_holds own e place and fields_hold own rest _))
    fields_hold own (keyed key e separator rest) place = also _ (joined (value_holds own key place) (value_holds own e _) (fields_hold own rest _))

  -- ---- targets

  -- names, or parts of tables
  pub targets_hold : (own : List Text) (es : Expressions) (place : Place) → are_targets es ≡ true →
      Gives limit (depth_of_expressions es) (formed_expressions es) (plain_values es) (all_ordered_values own es) (expressions_part es place).marks (AreActTargetsBy P es)
  targets_hold own no_expressions place are = at_once tt
  targets_hold own (syntax.expression e rest) place are = let both = and_parts (is_target e) (are_targets rest) are in target e both.0 and targets_hold own rest _ both.1
    where
      target : (e : Expression) → is_target e ≡ true →
          Gives limit (depth_of_expression e) (formed_expression e) (plainness e).value (all_ordered_expression false own e) (expression_part e place).marks (IsActTargetBy P e)
      target (name_expression line name) is = value_holds own (name_expression line name) place
      target (index_expression line on key) is = value_holds own (index_expression line on key) place
      target (field_expression line on name) is = value_holds own (field_expression line on name) place
      target e is = absurd (false≢true is)

  -- ---- conditions

  -- what is tested, if it is
  alone : (k : Option Constant) (e : Expression) → IsFlowPartBy P (condition_part (tested_as e)) → AloneHolds (IsFlowPartBy P) k e
  alone (Some k) e is = tt
  alone None e is = is

  -- a comparison
  comparison : (line : ℕ) (op : BinaryOp) (left right : Expression) → HasCoreBy P left × HasCoreBy P right → IsFlowPartBy P (condition_part (tested_as (binary_expression line op left right)))
  comparison line BinaryOp.Ne left right have = have
  comparison line op left right have = have

  -- what is tested, by its parts
  pub test_holds : (own : List Text) (e : Expression) (place : Place) →
      Gives limit (depth_of_expression e) (formed_expression e) (plainness e).condition (all_ordered_expression true own e) (expression_part e place).marks
      (TestHolds (IsFlowPartBy P) e)
  test_holds own (and_expression line left right) place = deeper (also _ (also _ (test_holds own left place and test_holds own right _)))
  test_holds own (or_expression line left right) place = deeper (also _ (also _ (test_holds own left place and test_holds own right _)))
  test_holds own (unary_expression line UnaryOp.Not e) place = deeper (also _ (test_holds own e place))
  test_holds own (parenthesized line e) place = deeper (test_holds own e place)
  test_holds own (binary_expression line op left right) place =
      so (λ both. alone (literal (binary_expression line op left right)) (binary_expression line op left right) (comparison line op left right both))
      (deeper (also _ (also _ (compared (is_comparison op) (past _ (value_holds own left place and value_holds own right _))))))
  test_holds own e place = so (λ is. alone (literal e) e is) (value_holds own e place)
