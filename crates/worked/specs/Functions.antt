-- Serves the laws. Sources of functions, closures and loops that capture.
use Rattle.std.specs.Prelude.{codes, pos, true, false, [], ◌∷◌}
use Rattle.lua_tree.specs.declared.tree.BinaryOp.{BinaryOp}
use Rattle.lua_tree.specs.Syntax.{no_statements, statement, assignment, call_statement, repeat_loop, if_statement, numeric_for, local_function, local_statement, return_statement, break_statement, no_branches, branch, no_otherwise, no_step, function_body, no_expressions, expression, vararg_expression, number_literal, name_expression, function_expression, index_expression, call_expression, binary_expression, constructor, parenthesized, argument_list, no_fields, Source}

-- `local function mk() local n=0 return function() n=n+1 return n end, function() n=n+1 return n end end local a,b=mk() local c=mk() print(a(),b(),c())`
abbrev pub shared_cells : Source
shared_cells = (record { body = (statement 1 false (local_function (codes "mk") (function_body [] false (statement 1 false (local_statement ((codes "n") ∷ []) (expression (number_literal 1 (pos 0)) no_expressions)) (statement 1 false (return_statement (expression (function_expression 1 (function_body [] false (statement 1 false (assignment (expression (name_expression 1 (codes "n")) no_expressions) (expression (binary_expression 1 BinaryOp.Add (name_expression 1 (codes "n")) (number_literal 1 (pos 1))) no_expressions)) (statement 1 false (return_statement (expression (name_expression 1 (codes "n")) no_expressions)) no_statements)) 1 1)) (expression (function_expression 1 (function_body [] false (statement 1 false (assignment (expression (name_expression 1 (codes "n")) no_expressions) (expression (binary_expression 1 BinaryOp.Add (name_expression 1 (codes "n")) (number_literal 1 (pos 1))) no_expressions)) (statement 1 false (return_statement (expression (name_expression 1 (codes "n")) no_expressions)) no_statements)) 1 1)) no_expressions))) no_statements)) 1 1)) (statement 1 false (local_statement ((codes "a") ∷ (codes "b") ∷ []) (expression (call_expression 1 (name_expression 1 (codes "mk")) (argument_list no_expressions) 1) no_expressions)) (statement 1 false (local_statement ((codes "c") ∷ []) (expression (call_expression 1 (name_expression 1 (codes "mk")) (argument_list no_expressions) 1) no_expressions)) (statement 1 false (call_statement (call_expression 1 (name_expression 1 (codes "print")) (argument_list (expression (call_expression 1 (name_expression 1 (codes "a")) (argument_list no_expressions) 1) (expression (call_expression 1 (name_expression 1 (codes "b")) (argument_list no_expressions) 1) (expression (call_expression 1 (name_expression 1 (codes "c")) (argument_list no_expressions) 1) no_expressions)))) 1)) no_statements)))); last_line = 1 })

-- `local function f(...) local a,b=... print(a,b,...) end f(1,2,3)`
abbrev pub extra_arguments : Source
extra_arguments = (record { body = (statement 1 false (local_function (codes "f") (function_body [] true (statement 1 false (local_statement ((codes "a") ∷ (codes "b") ∷ []) (expression (vararg_expression 1) no_expressions)) (statement 1 false (call_statement (call_expression 1 (name_expression 1 (codes "print")) (argument_list (expression (name_expression 1 (codes "a")) (expression (name_expression 1 (codes "b")) (expression (vararg_expression 1) no_expressions)))) 1)) no_statements)) 1 1)) (statement 1 false (call_statement (call_expression 1 (name_expression 1 (codes "f")) (argument_list (expression (number_literal 1 (pos 1)) (expression (number_literal 1 (pos 2)) (expression (number_literal 1 (pos 3)) no_expressions)))) 1)) no_statements)); last_line = 1 })

-- `local function f() return 1,2 end print((f()),f()) print(f(),(f()))`
abbrev pub several_results : Source
several_results = (record { body = (statement 1 false (local_function (codes "f") (function_body [] false (statement 1 false (return_statement (expression (number_literal 1 (pos 1)) (expression (number_literal 1 (pos 2)) no_expressions))) no_statements) 1 1)) (statement 1 false (call_statement (call_expression 1 (name_expression 1 (codes "print")) (argument_list (expression (parenthesized 1 (call_expression 1 (name_expression 1 (codes "f")) (argument_list no_expressions) 1)) (expression (call_expression 1 (name_expression 1 (codes "f")) (argument_list no_expressions) 1) no_expressions))) 1)) (statement 1 false (call_statement (call_expression 1 (name_expression 1 (codes "print")) (argument_list (expression (call_expression 1 (name_expression 1 (codes "f")) (argument_list no_expressions) 1) (expression (parenthesized 1 (call_expression 1 (name_expression 1 (codes "f")) (argument_list no_expressions) 1)) no_expressions))) 1)) no_statements))); last_line = 1 })

-- `local function t(n) if n==0 then return 0 end return t(n-1) end print(t(3))`
abbrev pub tail_call : Source
tail_call = (record { body = (statement 1 false (local_function (codes "t") (function_body ((codes "n") ∷ []) false (statement 1 false (if_statement (branch (binary_expression 1 BinaryOp.Eq (name_expression 1 (codes "n")) (number_literal 1 (pos 0))) (statement 1 false (return_statement (expression (number_literal 1 (pos 0)) no_expressions)) no_statements) no_branches) no_otherwise) (statement 1 false (return_statement (expression (call_expression 1 (name_expression 1 (codes "t")) (argument_list (expression (binary_expression 1 BinaryOp.Sub (name_expression 1 (codes "n")) (number_literal 1 (pos 1))) no_expressions)) 1) no_expressions)) no_statements)) 1 1)) (statement 1 false (call_statement (call_expression 1 (name_expression 1 (codes "print")) (argument_list (expression (call_expression 1 (name_expression 1 (codes "t")) (argument_list (expression (number_literal 1 (pos 3)) no_expressions)) 1) no_expressions)) 1)) no_statements)); last_line = 1 })

-- `local t={} for i=1,3 do t[i]=function() return i end if i==2 then break end end print(t[1](),t[2](),t[3])`
abbrev pub broken_loop : Source
broken_loop = (record { body = (statement 1 false (local_statement ((codes "t") ∷ []) (expression (constructor 1 no_fields) no_expressions)) (statement 1 false (numeric_for (codes "i") (number_literal 1 (pos 1)) (number_literal 1 (pos 3)) no_step (statement 1 false (assignment (expression (index_expression 1 (name_expression 1 (codes "t")) (name_expression 1 (codes "i"))) no_expressions) (expression (function_expression 1 (function_body [] false (statement 1 false (return_statement (expression (name_expression 1 (codes "i")) no_expressions)) no_statements) 1 1)) no_expressions)) (statement 1 false (if_statement (branch (binary_expression 1 BinaryOp.Eq (name_expression 1 (codes "i")) (number_literal 1 (pos 2))) (statement 1 false break_statement no_statements) no_branches) no_otherwise) no_statements))) (statement 1 false (call_statement (call_expression 1 (name_expression 1 (codes "print")) (argument_list (expression (call_expression 1 (index_expression 1 (name_expression 1 (codes "t")) (number_literal 1 (pos 1))) (argument_list no_expressions) 1) (expression (call_expression 1 (index_expression 1 (name_expression 1 (codes "t")) (number_literal 1 (pos 2))) (argument_list no_expressions) 1) (expression (index_expression 1 (name_expression 1 (codes "t")) (number_literal 1 (pos 3))) no_expressions)))) 1)) no_statements))); last_line = 1 })

-- `local t={} local i=0 repeat local k=i i=i+1 t[i]=function() return k end until k==2 print(t[1](),t[3]())`
abbrev pub seen_by_until : Source
seen_by_until = (record { body = (statement 1 false (local_statement ((codes "t") ∷ []) (expression (constructor 1 no_fields) no_expressions)) (statement 1 false (local_statement ((codes "i") ∷ []) (expression (number_literal 1 (pos 0)) no_expressions)) (statement 1 false (repeat_loop (statement 1 false (local_statement ((codes "k") ∷ []) (expression (name_expression 1 (codes "i")) no_expressions)) (statement 1 false (assignment (expression (name_expression 1 (codes "i")) no_expressions) (expression (binary_expression 1 BinaryOp.Add (name_expression 1 (codes "i")) (number_literal 1 (pos 1))) no_expressions)) (statement 1 false (assignment (expression (index_expression 1 (name_expression 1 (codes "t")) (name_expression 1 (codes "i"))) no_expressions) (expression (function_expression 1 (function_body [] false (statement 1 false (return_statement (expression (name_expression 1 (codes "k")) no_expressions)) no_statements) 1 1)) no_expressions)) no_statements))) (binary_expression 1 BinaryOp.Eq (name_expression 1 (codes "k")) (number_literal 1 (pos 2)))) (statement 1 false (call_statement (call_expression 1 (name_expression 1 (codes "print")) (argument_list (expression (call_expression 1 (index_expression 1 (name_expression 1 (codes "t")) (number_literal 1 (pos 1))) (argument_list no_expressions) 1) (expression (call_expression 1 (index_expression 1 (name_expression 1 (codes "t")) (number_literal 1 (pos 3))) (argument_list no_expressions) 1) no_expressions))) 1)) no_statements)))); last_line = 1 })
