-- Each function in a statement that is well formed, on one line and has room is plain, where the statements of functions may have blocks.
use Rattle.std.proofs.Common.{◌≡◌, ◌≤◌, ℕ, true, false, max, arith, inl, inr}
use Rattle.lua_tree.specs.Names.{is_name, are_some_names}
use Rattle.lua_tree.specs.OneLine.{one_line_arguments, one_line_expression, one_line_expressions, one_line_fields, one_line_statement}
use Rattle.lua_tree.specs.Precedence.{is_right_associative, left_binds, level_of_op, right_binds}
use Rattle.lua_tree.specs.Syntax as syntax
use Rattle.lua_tree.specs.Syntax.{Arguments, Expression, Expressions, Statement, argument_list, assignment, binary_expression, call_expression, call_statement, constructor, Fields, no_fields, positional, named, keyed, table_argument, false_literal, field_expression, function_expression, index_expression, local_statement, method_call, name_expression, nil_literal, no_expressions, number_literal, parenthesized, return_statement, text_argument, text_literal, true_literal, unary_expression, vararg_expression, local_function}
use Rattle.lua_tree.specs.WellFormed.{are_targets, ends_item, formed_arguments, formed_expression, formed_expressions, formed_fields, formed_statement, has_expressions, is_call, is_prefix, on_its_line}
use Rattle.same_flow.specs.Space.{space_of_arguments, space_of_expression, space_of_expressions, space_of_fields}
use Rattle.reads_back.specs.Acted.{is_path}
use Rattle.reads_back.specs.Cores.{AllHaveCores, HasCore, HaveCores, HaveItems, IsPlainBody}
use Rattle.reads_back.specs.Flows.{IsFlowBody}
use Rattle.reads_back.specs.Straight.{AllHaveCoresBy, AreActTargetsBy, HasCoreBy, HaveCoresBy, HaveItemsBy, IsActBy, IsActTargetBy}
use Rattle.reads_back.proofs.LeanTargets.{ArePathsOr, HasSpace, IsPathOr, targets_spaced}
use Rattle.reads_back.proofs.NamedSame.{lean_room_values}
use Rattle.reads_back.proofs.Rooms.{inside_room, lean_room, left_room, of_room}
use Rattle.reads_back.proofs.Tests.{first_of_both, not_so, second_of_both}

module _ (deep : ℕ) where
  -- ---- expressions

  mutual
    pub plain_core : (e : Expression) → HasCoreBy (IsFlowBody deep) e → formed_expression e ≡ true → one_line_expression e ≡ e → space_of_expression e ≤ 200 → HasCore e
    plain_core (nil_literal line) has formed same room = has
    plain_core (true_literal line) has formed same room = has
    plain_core (false_literal line) has formed same room = has
    plain_core (vararg_expression line) has formed same room = has
    plain_core (number_literal line n) has formed same room = has
    plain_core (text_literal line text) has formed same room = has
    plain_core (name_expression line text) has formed same room = has
    plain_core (function_expression line body) has formed same room = record { deep = deep; flow = has; formed = formed; on_line = cc same; room = omega arith }
    plain_core (index_expression line on key) has formed same room =
        let parts = second_of_both (is_prefix on) _ formed in (
          plain_core on has.0 (first_of_both _ _ parts) (cc same) (omega arith),
          plain_core key has.1 (second_of_both (formed_expression on) _ parts) (cc same) (omega arith),
        )
    plain_core (field_expression line on text) has formed same room =
        plain_core on has (first_of_both (formed_expression on) _ (second_of_both (is_prefix on) _ formed)) (cc same) (omega arith)
    plain_core (call_expression line on args on_line) has formed same room =
        let parts = second_of_both (is_prefix on) _ formed in
        let given = second_of_both (on_its_line args line on_line) _ (second_of_both (formed_expression on) _ parts) in (
          plain_core on has.0 (first_of_both _ _ parts) (cc same) (omega arith),
          plain_given args has.1 given (cc same) (omega arith),
        )
    plain_core (method_call line on name args on_line) has formed same room =
        let parts = second_of_both (is_prefix on) _ formed in
        let given = second_of_both (on_its_line args line on_line) _ (second_of_both (is_name name) _ (second_of_both (formed_expression on) _ parts)) in (
          has.0,
          plain_core on has.1 (first_of_both _ _ parts) (cc same) (omega arith),
          plain_given args has.2 given (cc same) (omega arith),
        )
    plain_core (binary_expression line op left right) has formed same room =
        let level = level_of_op op in
        let associative = is_right_associative op in
        let parts = second_of_both (right_binds level associative right) _ (second_of_both (left_binds level associative left) _ formed) in
        let low : max (space_of_expression left) (space_of_expression right) ≤ 200 = omega (arith, left_room line op left right) in (
          has.0,
          plain_core left has.1 (first_of_both _ _ parts) (cc same) (omega arith),
          plain_core right has.2 (second_of_both (formed_expression left) _ parts) (cc same) (omega arith),
        )
    plain_core (unary_expression line op e) has formed same room = plain_core e has (second_of_both (left_binds 7 false e) _ formed) (cc same) (omega (arith, of_room line op e))
    plain_core (constructor line fields) has formed same room = plain_items fields has formed (cc same) (omega arith)
    plain_core (parenthesized line e) has formed same room = plain_core e has formed (cc same) (omega (arith, inside_room line e))
    plain_core e has formed same room = absurd has

    plain_given : (args : Arguments) → HaveCoresBy (IsFlowBody deep) args → formed_arguments args ≡ true → one_line_arguments args ≡ args → space_of_arguments args ≤ 200 → HaveCores args
    plain_given (argument_list es) have formed same room = plain_cores es have formed (cc same) room
    plain_given (text_argument text) have formed same room = have
    plain_given (table_argument fields) have formed same room = plain_items fields have formed (cc same) room

    plain_items : (fields : Fields) → HaveItemsBy (IsFlowBody deep) fields → formed_fields fields ≡ true → one_line_fields fields ≡ fields → space_of_fields fields ≤ 200 → HaveItems fields
    plain_items no_fields have formed same room = have
    plain_items (positional e separator rest) have formed same room =
        let parts = second_of_both (ends_item separator rest) _ formed in (
          plain_core e have.0 (first_of_both _ _ parts) (cc same) (omega arith),
          plain_items rest have.1 (second_of_both (formed_expression e) _ parts) (cc same) (omega arith),
        )
    plain_items (named text e separator rest) have formed same room =
        let parts = second_of_both (is_name text) _ (second_of_both (ends_item separator rest) _ formed) in (
          plain_core e have.0 (first_of_both _ _ parts) (cc same) (omega arith),
          plain_items rest have.1 (second_of_both (formed_expression e) _ parts) (cc same) (omega arith),
        )
    plain_items (keyed key e separator rest) have formed same room =
        let behind = second_of_both (ends_item separator rest) _ formed in
        let parts = second_of_both (formed_expression key) _ behind in (
          plain_core key have.0 (first_of_both _ _ behind) (cc same) (omega arith),
          plain_core e have.1 (first_of_both _ _ parts) (cc same) (omega arith),
          plain_items rest have.2 (second_of_both (formed_expression e) _ parts) (cc same) (omega arith),
        )

    pub plain_cores : (es : Expressions) → AllHaveCoresBy (IsFlowBody deep) es → formed_expressions es ≡ true → one_line_expressions es ≡ es → space_of_expressions es ≤ 200 → AllHaveCores es
    plain_cores no_expressions have formed same room = have
    plain_cores (syntax.expression e es) have formed same room = (
      plain_core e have.0 (first_of_both _ _ formed) (cc same) (omega arith),
      plain_cores es have.1 (second_of_both (formed_expression e) _ formed) (cc same) (omega arith),
    )

  -- ---- targets

  -- a path needs no room
  plain_path : (e : Expression) → is_path e ≡ true → HasCoreBy (IsFlowBody deep) e → HasCore e
  plain_path (name_expression line text) path has = has
  plain_path (field_expression line on text) path has = plain_path on (first_of_both _ _ path) has
  plain_path e path has = not_so path

  plain_target : (e : Expression) → IsActTargetBy (IsFlowBody deep) e → formed_expression e ≡ true → one_line_expression e ≡ e → IsPathOr (HasSpace 200) e → IsActTargetBy IsPlainBody e
  plain_target (name_expression line text) is formed same room = is
  plain_target (index_expression line on key) is formed same (inl path) = not_so path
  plain_target (index_expression line on key) is formed same (inr room) = plain_core (index_expression line on key) is formed same room
  plain_target (field_expression line on text) is formed same (inl path) = plain_path on (first_of_both _ _ path) is
  plain_target (field_expression line on text) is formed same (inr room) = plain_core (field_expression line on text) is formed same room
  plain_target e is formed same room = absurd is

  plain_targets : (targets : Expressions) → AreActTargetsBy (IsFlowBody deep) targets → formed_expressions targets ≡ true → one_line_expressions targets ≡ targets → ArePathsOr (HasSpace 200) targets →
      AreActTargetsBy IsPlainBody targets
  plain_targets no_expressions are formed same room = are
  plain_targets (syntax.expression e targets) are formed same room = (
    plain_target e are.0 (first_of_both _ _ formed) (cc same) room.0,
    plain_targets targets are.1 (second_of_both (formed_expression e) _ formed) (cc same) room.1,
  )

  -- ---- statements

  pub plain_act : (s : Statement) → IsActBy (IsFlowBody deep) s → formed_statement s ≡ true → one_line_statement s ≡ s → lean_room s ≤ 200 → IsActBy IsPlainBody s
  plain_act (call_statement e) is formed same room = (is.0, plain_core e is.1 (second_of_both (is_call e) _ formed) (cc same) room)
  plain_act (assignment targets es) is formed same room =
      let formed_on = second_of_both (are_targets targets) _ (second_of_both (has_expressions targets) _ formed) in
      let values_on = second_of_both (formed_expressions targets) _ formed_on in
      record {
        some = is.some;
        targets = plain_targets targets is.targets (first_of_both _ _ formed_on) (cc same) (targets_spaced 200 targets es room);
        given = is.given;
        values = plain_cores es is.values (second_of_both (has_expressions es) _ values_on) (cc same) (omega (arith, room, lean_room_values targets es));
      }
  plain_act (local_statement names es) is formed same room = (is.0, plain_cores es is.1 (second_of_both (are_some_names names) _ formed) (cc same) room)
  plain_act (local_function text body) is formed same room = (is.0, record { deep = deep; flow = is.1; formed = second_of_both (is_name text) _ formed; on_line = cc same; room = omega arith })
  plain_act (return_statement es) is formed same room = plain_cores es is formed (cc same) room
  plain_act s is formed same room = absurd is
