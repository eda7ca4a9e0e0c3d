-- Behind an expression names mean what they meant before it, in the same functions.
use Rattle.std.proofs.Common.{◌≡◌, Bool, false, refl, ◌∙◌}
use Rattle.lua_tree.specs.Syntax as syntax
use Rattle.lua_tree.specs.Syntax.{FunctionBody, function_body, Expressions, no_expressions, Expression, vararg_expression, name_expression, function_expression, index_expression, field_expression, call_expression, method_call, and_expression, or_expression, binary_expression, unary_expression, constructor, parenthesized, Arguments, argument_list, text_argument, table_argument, Fields, no_fields, positional, named, keyed}
use Rattle.lua_tree.specs.Outline.{Place, Part, nothing, both, body_part, expressions_part, expression_part, arguments_part, fields_part}

-- a part behind which names mean what they meant before it
pub record Steady (part : Part) : Type 0 where
  pub scope : (place : Place) → (part place).next.scope ≡ place.scope
  pub around : (place : Place) → (part place).next.around ≡ place.around

steady_nothing : Steady nothing
steady_nothing = record { scope = λ place. refl; around = λ place. refl }

infixl 20 ◌and◌
◌and◌ : {one other : Part} → Steady one → Steady other → Steady (both one other)
◌and◌ {one} {other} a b = record { scope = λ place. b.scope (one place).next ∙ a.scope place; around = λ place. b.around (one place).next ∙ a.around place }

-- a function is a scope of its own
steady_body : (method : Bool) (body : FunctionBody) → Steady (body_part method body)
steady_body method (function_body params vararg block first last) = record { scope = λ place. refl; around = λ place. refl }

mutual
  steady_expressions : (es : Expressions) → Steady (expressions_part es)
  steady_expressions no_expressions = steady_nothing
  steady_expressions (syntax.expression e rest) = steady e and steady_expressions rest

  pub steady : (e : Expression) → Steady (expression_part e)
  steady (vararg_expression line) = record { scope = λ place. refl; around = λ place. refl }
  steady (name_expression line name) = record { scope = λ place. refl; around = λ place. refl }
  steady (function_expression line body) = steady_body false body
  steady (index_expression line on key) = steady on and steady key
  steady (field_expression line on name) = steady on
  steady (call_expression line on args on_line) = steady on and steady_arguments args
  steady (method_call line on name args on_line) = steady on and steady_arguments args
  steady (and_expression line left right) = steady left and steady right
  steady (or_expression line left right) = steady left and steady right
  steady (binary_expression line op left right) = steady left and steady right
  steady (unary_expression line op e) = steady e
  steady (constructor line fields) = steady_fields fields
  steady (parenthesized line e) = steady e
  steady e = steady_nothing

  steady_arguments : (args : Arguments) → Steady (arguments_part args)
  steady_arguments (argument_list es) = steady_expressions es
  steady_arguments (text_argument text) = steady_nothing
  steady_arguments (table_argument fields) = steady_fields fields

  steady_fields : (fields : Fields) → Steady (fields_part fields)
  steady_fields no_fields = steady_nothing
  steady_fields (positional e separator rest) = steady e and steady_fields rest
  steady_fields (named name e separator rest) = steady e and steady_fields rest
  steady_fields (keyed key e separator rest) = (steady key and steady e) and steady_fields rest
