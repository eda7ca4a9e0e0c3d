-- The parts of an expression by the expression.
use Rattle.std.proofs.Common.{◌≡◌, refl}
use Rattle.lua_tree.specs.Syntax.{Expression, nil_literal, true_literal, false_literal, vararg_expression, number_literal, text_literal, name_expression, function_expression, index_expression, field_expression, call_expression, method_call, and_expression, or_expression, binary_expression, unary_expression, constructor, parenthesized}
use Rattle.scheme.specs.Scheme.{coded}

-- an expression is its own
pub coded_e : (e : Expression) → (coded e).e ≡ e
coded_e (nil_literal line) = refl
coded_e (true_literal line) = refl
coded_e (false_literal line) = refl
coded_e (vararg_expression line) = refl
coded_e (number_literal line n) = refl
coded_e (text_literal line text) = refl
coded_e (name_expression line text) = refl
coded_e (function_expression line body) = refl
coded_e (index_expression line on key) = refl
coded_e (field_expression line on text) = refl
coded_e (call_expression line on args on_line) = refl
coded_e (method_call line on text args on_line) = refl
coded_e (and_expression line left right) = refl
coded_e (or_expression line left right) = refl
coded_e (binary_expression line op left right) = refl
coded_e (unary_expression line op e) = refl
coded_e (constructor line fields) = refl
coded_e (parenthesized line e) = refl
