-- What stands in an expression does not depend on whether a loop is around, and behind it the place is the same but for the numbers of declarations and functions.
use Rattle.std.proofs.Common.{◌≡◌, ℕ, Bool, false, List, [], ◌∷◌, ◌++◌, refl, sym, ap, ◌∙◌, subst}
use Rattle.lua_num.specs.Bytes.{Text}
use Rattle.std.specs.Prelude.{is_some, Option}
use Rattle.lua_tree.specs.Syntax as syntax
use Rattle.lua_tree.specs.Syntax.{FunctionBody, function_body, Expressions, no_expressions, Expression, nil_literal, true_literal, false_literal, vararg_expression, number_literal, text_literal, name_expression, function_expression, index_expression, field_expression, call_expression, method_call, and_expression, or_expression, binary_expression, unary_expression, constructor, parenthesized, Arguments, argument_list, text_argument, table_argument, Fields, no_fields, positional, named, keyed, assignment, call_statement, function_statement, local_function, local_statement}
use Rattle.lua_tree.specs.Outline.{Place, Walk, Part, nothing, both, come, declares, mentions, path_part, statement_part, body_part, expressions_part, expression_part, arguments_part, fields_part}
use Rattle.same_flow.proofs.Walks.{loopless, passed, heads}

abbrev pub loopless_walk : Walk → Walk
loopless_walk walk = record { marks = walk.marks; next = loopless walk.next }

-- no mark tells whether a loop is around, and with the scope before it the place behind is the same but for the numbers
pub record Steady (part : Part) : Type 0 where
  pub blind : (place : Place) → part (loopless place) ≡ loopless_walk (part place)
  pub returns : (place : Place) → record (part place).next { scope = place.scope; active = place.active } ≡ passed place (part place).next

infixl 20 ◌then◌
◌then◌ : {one two : Part} → Steady one → Steady two → Steady (both one two)
◌then◌ {one} {two} a b = record {
  blind = λ place.
      ap (λ (walk : Walk). record { marks = walk.marks ++ (two walk.next).marks; next = (two walk.next).next }) (a.blind place)
      ∙ ap (λ (walk : Walk). record { marks = (one place).marks ++ walk.marks; next = walk.next }) (b.blind (one place).next);
  returns = λ place.
      let first = (one place).next in
      let second = (two first).next in
      ap (λ (p : Place). record p { scope = place.scope; active = place.active }) (b.returns first) ∙ ap (λ (p : Place). passed p second) (a.returns place);
}

-- and nothing comes into scope
pub record Calm (part : Part) : Type 0 where
  pub steady : Steady part
  pub stays : (place : Place) → (part place).next ≡ passed place (part place).next

infixl 20 ◌and_then◌
pub ◌and_then◌ : {one two : Part} → Calm one → Calm two → Calm (both one two)
◌and_then◌ {one} {two} a b = record {
  steady = a.steady then b.steady;
  stays = λ place.
      let first = (one place).next in
      let second = (two first).next in
      b.stays first ∙ ap (λ (p : Place). passed p second) (a.stays place);
}

calm_nothing : Calm nothing
calm_nothing = record { steady = record { blind = λ place. refl; returns = λ place. refl }; stays = λ place. refl }

calm_mentions : (line : ℕ) (name : Text) → Calm (mentions line name)
calm_mentions line name = record { steady = record { blind = λ place. refl; returns = λ place. refl }; stays = λ place. refl }

pub calm_declares : (line hidden : ℕ) (names : List Text) → Calm (declares line hidden names)
calm_declares line hidden names = record { steady = record { blind = λ place. refl; returns = λ place. refl }; stays = λ place. refl }

calm_body : (method : Bool) (body : FunctionBody) → Calm (body_part method body)
calm_body method (function_body params vararg block first last) = record { steady = record { blind = λ place. refl; returns = λ place. refl }; stays = λ place. refl }

mutual
  pub calm_expressions : (es : Expressions) → Calm (expressions_part es)
  calm_expressions no_expressions = calm_nothing
  calm_expressions (syntax.expression e rest) = calm e and_then calm_expressions rest

  pub calm : (e : Expression) → Calm (expression_part e)
  calm (vararg_expression line) = record { steady = record { blind = λ place. refl; returns = λ place. refl }; stays = λ place. refl }
  calm (name_expression line name) = calm_mentions line name
  calm (function_expression line body) = calm_body false body
  calm (index_expression line on key) = calm on and_then calm key
  calm (field_expression line on name) = calm on
  calm (call_expression line on args on_line) = calm on and_then calm_arguments args
  calm (method_call line on name args on_line) = calm on and_then calm_arguments args
  calm (and_expression line left right) = calm left and_then calm right
  calm (or_expression line left right) = calm left and_then calm right
  calm (binary_expression line op left right) = calm left and_then calm right
  calm (unary_expression line op e) = calm e
  calm (constructor line fields) = calm_fields fields
  calm (parenthesized line e) = calm e
  calm e = calm_nothing

  calm_arguments : (args : Arguments) → Calm (arguments_part args)
  calm_arguments (argument_list es) = calm_expressions es
  calm_arguments (text_argument text) = calm_nothing
  calm_arguments (table_argument fields) = calm_fields fields

  calm_fields : (fields : Fields) → Calm (fields_part fields)
  calm_fields no_fields = calm_nothing
  calm_fields (positional e separator rest) = calm e and_then calm_fields rest
  calm_fields (named name e separator rest) = calm e and_then calm_fields rest
  calm_fields (keyed key e separator rest) = calm key and_then calm e and_then calm_fields rest

calm_path : (line : ℕ) (path : List Text) → Calm (path_part line path)
calm_path line [] = calm_nothing
calm_path line (name ∷ fields) = calm_mentions line name

-- ---- statements that are one step

pub calm_assignment : (targets es : Expressions) → Calm (statement_part 1 (assignment targets es))
calm_assignment targets es = calm_expressions targets and_then calm_expressions es

pub calm_function : (path : List Text) (method : Option Text) (body : FunctionBody) → Calm (statement_part 1 (function_statement path method body))
calm_function path method body = calm_path 1 path and_then calm_body (is_some method) body

-- a part that knows the place before it
at_place : {part : Part} (parts : Place → Part) → ((place : Place) → parts (loopless place) ≡ parts place) → ((place : Place) → Steady (parts place)) → ((place : Place) → part place ≡ parts place place) → Steady part
at_place {part} parts same steady is = record {
  blind = λ place.
      is (loopless place) ∙ ap (λ (p : Part). p (loopless place)) (same place) ∙ (steady place).blind place ∙ ap loopless_walk (sym (is place));
  returns = λ place. subst (λ (walk : Walk). record walk.next { scope = place.scope; active = place.active } ≡ passed place walk.next) (sym (is place)) ((steady place).returns place);
}

steady_come : (hidden : ℕ) (names : List Text) (number : ℕ) → Steady (come hidden names number)
steady_come hidden names number = record { blind = λ place. refl; returns = λ place. refl }

pub steady_local : (names : List Text) (es : Expressions) → Steady (statement_part 1 (local_statement names es))
steady_local names es =
    at_place (λ place. both (declares 1 0 names) (both (expressions_part es) (come 0 names place.declarations))) (λ place. refl)
    (λ place. (calm_declares 1 0 names).steady then ((calm_expressions es).steady then steady_come 0 names place.declarations)) (λ place. refl)

pub steady_local_function : (name : Text) (body : FunctionBody) → Steady (statement_part 1 (local_function name body))
steady_local_function name body =
    at_place (λ place. both (declares 1 0 (name ∷ [])) (both (come 0 (name ∷ []) place.declarations) (body_part false body))) (λ place. refl)
    (λ place. (calm_declares 1 0 (name ∷ [])).steady then (steady_come 0 (name ∷ []) place.declarations then (calm_body false body).steady)) (λ place. refl)

pub steady_heads : (names : List Text) (es : Expressions) → Steady (heads names es)
steady_heads names es =
    at_place (λ place. both (declares 1 3 names) (both (expressions_part es) (come 3 names place.declarations))) (λ place. refl)
    (λ place. (calm_declares 1 3 names).steady then ((calm_expressions es).steady then steady_come 3 names place.declarations)) (λ place. refl)
