-- Serves the laws. A function statement stands for the assignment of a function to its path (manual 2.5.9).
use Rattle.std.specs.Prelude.{Bool, true, false, List, [], ◌∷◌, Option, None, Some, is_some}
use Rattle.lua_num.specs.Bytes.{Text}
use Rattle.lua_tree.specs.Outline.{all_params}
use Rattle.lua_tree.specs.Syntax as syntax
use Rattle.lua_tree.specs.Syntax.{Expression, FunctionBody, Statement, assignment, field_expression, function_body, function_expression, function_statement, name_expression, nil_literal, no_expressions}

-- fields behind an expression
abbrev pub fields_behind : Expression → List Text → Expression
fields_behind on [] = on
fields_behind on (text ∷ texts) = fields_behind (field_expression 1 on text) texts

-- a method takes `self` first
abbrev pub with_self : (method : Bool) → FunctionBody → FunctionBody
with_self true (function_body params vararg block first last) = function_body (all_params true params) vararg block first last
with_self false body = body

abbrev pub with_method_name : Expression → Option Text → Expression
with_method_name on None = on
with_method_name on (Some text) = field_expression 1 on text

abbrev pub path_target : List Text → Option Text → Expression
path_target [] method = nil_literal 1
path_target (name ∷ names) method = with_method_name (fields_behind (name_expression 1 name) names) method

abbrev pub as_assignment : Statement → Statement
as_assignment (function_statement path method body) = assignment (syntax.expression (path_target path method) no_expressions) (syntax.expression (function_expression 1 (with_self (is_some method) body)) no_expressions)
as_assignment s = s
