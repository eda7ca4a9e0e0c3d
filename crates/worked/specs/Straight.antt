-- Serves the laws. Sources of statements without loops.
use Rattle.std.specs.Prelude.{codes, pos, false, [], ◌∷◌}
use Rattle.lua_tree.specs.declared.tree.BinaryOp.{BinaryOp}
use Rattle.lua_tree.specs.declared.tree.UnaryOp.{UnaryOp}
use Rattle.lua_tree.specs.Syntax.{no_statements, statement, assignment, call_statement, while_loop, if_statement, numeric_for, local_function, local_statement, return_statement, no_branches, branch, no_otherwise, no_step, function_body, no_expressions, expression, nil_literal, number_literal, text_literal, name_expression, index_expression, call_expression, and_expression, or_expression, binary_expression, unary_expression, constructor, parenthesized, argument_list, no_fields, Source}

-- `print(1+2)`
abbrev pub addition : Source
addition = (record { body = (statement 1 false (call_statement (call_expression 1 (name_expression 1 (codes "print")) (argument_list (expression (binary_expression 1 BinaryOp.Add (number_literal 1 (pos 1)) (number_literal 1 (pos 2))) no_expressions)) 1)) no_statements); last_line = 1 })

-- `local a,b=1 a,b=b,a print(a,b)`
abbrev pub swap : Source
swap = (record { body = (statement 1 false (local_statement ((codes "a") ∷ (codes "b") ∷ []) (expression (number_literal 1 (pos 1)) no_expressions)) (statement 1 false (assignment (expression (name_expression 1 (codes "a")) (expression (name_expression 1 (codes "b")) no_expressions)) (expression (name_expression 1 (codes "b")) (expression (name_expression 1 (codes "a")) no_expressions))) (statement 1 false (call_statement (call_expression 1 (name_expression 1 (codes "print")) (argument_list (expression (name_expression 1 (codes "a")) (expression (name_expression 1 (codes "b")) no_expressions))) 1)) no_statements))); last_line = 1 })

-- `local a=1 local function f() a=10 return 1 end print(a+f())`
abbrev pub late_left : Source
late_left = (record { body = (statement 1 false (local_statement ((codes "a") ∷ []) (expression (number_literal 1 (pos 1)) no_expressions)) (statement 1 false (local_function (codes "f") (function_body [] false (statement 1 false (assignment (expression (name_expression 1 (codes "a")) no_expressions) (expression (number_literal 1 (pos 10)) no_expressions)) (statement 1 false (return_statement (expression (number_literal 1 (pos 1)) no_expressions)) no_statements)) 1 1)) (statement 1 false (call_statement (call_expression 1 (name_expression 1 (codes "print")) (argument_list (expression (binary_expression 1 BinaryOp.Add (name_expression 1 (codes "a")) (call_expression 1 (name_expression 1 (codes "f")) (argument_list no_expressions) 1)) no_expressions)) 1)) no_statements))); last_line = 1 })

-- `local a="x" local function f() a="y" return "z" end print(a..f())`
abbrev pub in_order : Source
in_order = (record { body = (statement 1 false (local_statement ((codes "a") ∷ []) (expression (text_literal 1 (codes "x")) no_expressions)) (statement 1 false (local_function (codes "f") (function_body [] false (statement 1 false (assignment (expression (name_expression 1 (codes "a")) no_expressions) (expression (text_literal 1 (codes "y")) no_expressions)) (statement 1 false (return_statement (expression (text_literal 1 (codes "z")) no_expressions)) no_statements)) 1 1)) (statement 1 false (call_statement (call_expression 1 (name_expression 1 (codes "print")) (argument_list (expression (binary_expression 1 BinaryOp.Concat (name_expression 1 (codes "a")) (call_expression 1 (name_expression 1 (codes "f")) (argument_list no_expressions) 1)) no_expressions)) 1)) no_statements))); last_line = 1 })

-- `local i=2 local a={} i, a[i] = i+1, 20 print(i, a[2], a[3])`
abbrev pub copied_key : Source
copied_key = (record { body = (statement 1 false (local_statement ((codes "i") ∷ []) (expression (number_literal 1 (pos 2)) no_expressions)) (statement 1 false (local_statement ((codes "a") ∷ []) (expression (constructor 1 no_fields) no_expressions)) (statement 1 false (assignment (expression (name_expression 1 (codes "i")) (expression (index_expression 1 (name_expression 1 (codes "a")) (name_expression 1 (codes "i"))) no_expressions)) (expression (binary_expression 1 BinaryOp.Add (name_expression 1 (codes "i")) (number_literal 1 (pos 1))) (expression (number_literal 1 (pos 20)) no_expressions))) (statement 1 false (call_statement (call_expression 1 (name_expression 1 (codes "print")) (argument_list (expression (name_expression 1 (codes "i")) (expression (index_expression 1 (name_expression 1 (codes "a")) (number_literal 1 (pos 2))) (expression (index_expression 1 (name_expression 1 (codes "a")) (number_literal 1 (pos 3))) no_expressions)))) 1)) no_statements)))); last_line = 1 })

-- `local i=2 local a={} a[i], i = 20, i+1 print(i, a[2], a[3])`
abbrev pub copied_key_left : Source
copied_key_left = (record { body = (statement 1 false (local_statement ((codes "i") ∷ []) (expression (number_literal 1 (pos 2)) no_expressions)) (statement 1 false (local_statement ((codes "a") ∷ []) (expression (constructor 1 no_fields) no_expressions)) (statement 1 false (assignment (expression (index_expression 1 (name_expression 1 (codes "a")) (name_expression 1 (codes "i"))) (expression (name_expression 1 (codes "i")) no_expressions)) (expression (number_literal 1 (pos 20)) (expression (binary_expression 1 BinaryOp.Add (name_expression 1 (codes "i")) (number_literal 1 (pos 1))) no_expressions))) (statement 1 false (call_statement (call_expression 1 (name_expression 1 (codes "print")) (argument_list (expression (name_expression 1 (codes "i")) (expression (index_expression 1 (name_expression 1 (codes "a")) (number_literal 1 (pos 2))) (expression (index_expression 1 (name_expression 1 (codes "a")) (number_literal 1 (pos 3))) no_expressions)))) 1)) no_statements)))); last_line = 1 })

-- `print(-9223372036854775807-1)`
abbrev pub least_number : Source
least_number = (record { body = (statement 1 false (call_statement (call_expression 1 (name_expression 1 (codes "print")) (argument_list (expression (binary_expression 1 BinaryOp.Sub (unary_expression 1 UnaryOp.Neg (number_literal 1 (pos 9223372036854775807))) (number_literal 1 (pos 1))) no_expressions)) 1)) no_statements); last_line = 1 })

-- `local x,y=1,2 print(x<y and "lt" or "ge")`
abbrev pub value_logic : Source
value_logic = (record { body = (statement 1 false (local_statement ((codes "x") ∷ (codes "y") ∷ []) (expression (number_literal 1 (pos 1)) (expression (number_literal 1 (pos 2)) no_expressions))) (statement 1 false (call_statement (call_expression 1 (name_expression 1 (codes "print")) (argument_list (expression (or_expression 1 (and_expression 1 (binary_expression 1 BinaryOp.Lt (name_expression 1 (codes "x")) (name_expression 1 (codes "y"))) (text_literal 1 (codes "lt"))) (text_literal 1 (codes "ge"))) no_expressions)) 1)) no_statements)); last_line = 1 })

-- `if a and (b or c) then d() end`
abbrev pub condition : Source
condition = (record { body = (statement 1 false (if_statement (branch (and_expression 1 (name_expression 1 (codes "a")) (parenthesized 1 (or_expression 1 (name_expression 1 (codes "b")) (name_expression 1 (codes "c"))))) (statement 1 false (call_statement (call_expression 1 (name_expression 1 (codes "d")) (argument_list no_expressions) 1)) no_statements) no_branches) no_otherwise) no_statements); last_line = 1 })

-- `local x=nil while not x do x=1 end`
abbrev pub late_end : Source
late_end = (record { body = (statement 1 false (local_statement ((codes "x") ∷ []) (expression (nil_literal 1) no_expressions)) (statement 1 false (while_loop (unary_expression 1 UnaryOp.Not (name_expression 1 (codes "x"))) (statement 1 false (assignment (expression (name_expression 1 (codes "x")) no_expressions) (expression (number_literal 1 (pos 1)) no_expressions)) no_statements)) no_statements)); last_line = 1 })

-- `for i=9223372036854775806,9223372036854775807 do print(i) end`
abbrev pub endless_count : Source
endless_count = (record { body = (statement 1 false (numeric_for (codes "i") (number_literal 1 (pos 9223372036854775806)) (number_literal 1 (pos 9223372036854775807)) no_step (statement 1 false (call_statement (call_expression 1 (name_expression 1 (codes "print")) (argument_list (expression (name_expression 1 (codes "i")) no_expressions)) 1)) no_statements)) no_statements); last_line = 1 })
