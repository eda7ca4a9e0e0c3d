-- A statement on one line is as deep and needs as much room where a path does not count to which a function goes alone.
use Rattle.std.proofs.Common.{◌≡◌, refl, arith}
use Rattle.lua_tree.specs.OneLine.{one_line_body, one_line_expression, one_line_expressions, one_line_statement}
use Rattle.lua_tree.specs.Syntax as syntax
use Rattle.lua_tree.specs.Syntax.{Expression, Expressions, FunctionBody, Statement, assignment, field_expression, function_expression, no_expressions}
use Rattle.lua_tree.specs.WellFormed.{depth_of_body}
use Rattle.same_flow.specs.Space.{space_of_body}
use Rattle.reads_back.specs.Acted.{is_path, lean_assignment, lean_depth}
use Rattle.reads_back.proofs.Rooms.{lean_room, lean_room_assignment}
use Rattle.recovers.proofs.OneLineBlocks.{expression_as_deep, expression_as_roomy, expressions_as_deep, expressions_as_roomy, statement_as_deep, statement_as_roomy}

path_on_line : (e : Expression) → is_path (one_line_expression e) ≡ is_path e
path_on_line (field_expression line on text) = cc (path_on_line on)
path_on_line e = refl

body_as_deep : (body : FunctionBody) → depth_of_body (one_line_body body) ≡ depth_of_body body
body_as_deep body = omega (arith, expression_as_deep (function_expression 1 body))

body_as_roomy : (body : FunctionBody) → space_of_body (one_line_body body) ≡ space_of_body body
body_as_roomy body = omega (arith, expression_as_roomy (function_expression 1 body))

assigned_as_deep : (targets es : Expressions) → lean_assignment (one_line_expressions targets) (one_line_expressions es) ≡ lean_assignment targets es
assigned_as_deep (syntax.expression target no_expressions) (syntax.expression (function_expression line body) no_expressions) = cc (path_on_line target, expression_as_deep target, body_as_deep body)
assigned_as_deep targets es = cc (expressions_as_deep targets, expressions_as_deep es)

assigned_as_roomy : (targets es : Expressions) → lean_room_assignment (one_line_expressions targets) (one_line_expressions es) ≡ lean_room_assignment targets es
assigned_as_roomy (syntax.expression target no_expressions) (syntax.expression (function_expression line body) no_expressions) = cc (path_on_line target, expression_as_roomy target, body_as_roomy body)
assigned_as_roomy targets es = cc (expressions_as_roomy targets, expressions_as_roomy es)

pub lean_as_deep : (s : Statement) → lean_depth (one_line_statement s) ≡ lean_depth s
lean_as_deep (assignment targets es) = assigned_as_deep targets es
lean_as_deep s = statement_as_deep s

pub lean_as_roomy : (s : Statement) → lean_room (one_line_statement s) ≡ lean_room s
lean_as_roomy (assignment targets es) = assigned_as_roomy targets es
lean_as_roomy s = statement_as_roomy s
