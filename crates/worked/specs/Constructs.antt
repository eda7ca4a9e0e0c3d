-- Serves the laws. Sources of statements and expressions, each with a construct that the others have not.
use Rattle.std.specs.Prelude.{codes, pos, false, Some, None, [], ◌∷◌}
use Rattle.lua_tree.specs.declared.tree.BinaryOp.{BinaryOp}
use Rattle.lua_tree.specs.declared.tree.UnaryOp.{UnaryOp}
use Rattle.lua_tree.specs.declared.tree.Separator.{Separator}
use Rattle.lua_tree.specs.Syntax.{no_statements, statement, assignment, call_statement, do_block, repeat_loop, if_statement, numeric_for, generic_for, function_statement, local_function, local_statement, return_statement, no_branches, branch, no_otherwise, otherwise, no_step, by_step, function_body, no_expressions, expression, nil_literal, number_literal, text_literal, name_expression, index_expression, field_expression, call_expression, method_call, binary_expression, unary_expression, constructor, argument_list, text_argument, table_argument, no_fields, positional, named, keyed, Source}

-- `local function upto(s,c) if c<s then return c+1,c end end for i,b in upto,2,0 do print(i,b) end`
abbrev pub iterated : Source
iterated = (record { body = (statement 1 false (local_function (codes "upto") (function_body ((codes "s") ∷ (codes "c") ∷ []) false (statement 1 false (if_statement (branch (binary_expression 1 BinaryOp.Lt (name_expression 1 (codes "c")) (name_expression 1 (codes "s"))) (statement 1 false (return_statement (expression (binary_expression 1 BinaryOp.Add (name_expression 1 (codes "c")) (number_literal 1 (pos 1))) (expression (name_expression 1 (codes "c")) no_expressions))) no_statements) no_branches) no_otherwise) no_statements) 1 1)) (statement 1 false (generic_for ((codes "i") ∷ (codes "b") ∷ []) (expression (name_expression 1 (codes "upto")) (expression (number_literal 1 (pos 2)) (expression (number_literal 1 (pos 0)) no_expressions))) (statement 1 false (call_statement (call_expression 1 (name_expression 1 (codes "print")) (argument_list (expression (name_expression 1 (codes "i")) (expression (name_expression 1 (codes "b")) no_expressions))) 1)) no_statements)) no_statements)); last_line = 1 })

-- `local t={n=1} function t:add(k) self.n=self.n+k return self.n end print(t:add(2),t.n)`
abbrev pub self_call : Source
self_call = (record { body = (statement 1 false (local_statement ((codes "t") ∷ []) (expression (constructor 1 (named (codes "n") (number_literal 1 (pos 1)) Separator.Missing no_fields)) no_expressions)) (statement 1 false (function_statement ((codes "t") ∷ []) (Some (codes "add")) (function_body ((codes "k") ∷ []) false (statement 1 false (assignment (expression (field_expression 1 (name_expression 1 (codes "self")) (codes "n")) no_expressions) (expression (binary_expression 1 BinaryOp.Add (field_expression 1 (name_expression 1 (codes "self")) (codes "n")) (name_expression 1 (codes "k"))) no_expressions)) (statement 1 false (return_statement (expression (field_expression 1 (name_expression 1 (codes "self")) (codes "n")) no_expressions)) no_statements)) 1 1)) (statement 1 false (call_statement (call_expression 1 (name_expression 1 (codes "print")) (argument_list (expression (method_call 1 (name_expression 1 (codes "t")) (codes "add") (argument_list (expression (number_literal 1 (pos 2)) no_expressions)) 1) (expression (field_expression 1 (name_expression 1 (codes "t")) (codes "n")) no_expressions))) 1)) no_statements))); last_line = 1 })

-- `function f(x) return x+1 end t={u={}} function t.u.g(x) return f(x)*2 end print(t.u.g(3))`
abbrev pub function_statements : Source
function_statements = (record { body = (statement 1 false (function_statement ((codes "f") ∷ []) None (function_body ((codes "x") ∷ []) false (statement 1 false (return_statement (expression (binary_expression 1 BinaryOp.Add (name_expression 1 (codes "x")) (number_literal 1 (pos 1))) no_expressions)) no_statements) 1 1)) (statement 1 false (assignment (expression (name_expression 1 (codes "t")) no_expressions) (expression (constructor 1 (named (codes "u") (constructor 1 no_fields) Separator.Missing no_fields)) no_expressions)) (statement 1 false (function_statement ((codes "t") ∷ (codes "u") ∷ (codes "g") ∷ []) None (function_body ((codes "x") ∷ []) false (statement 1 false (return_statement (expression (binary_expression 1 BinaryOp.Mul (call_expression 1 (name_expression 1 (codes "f")) (argument_list (expression (name_expression 1 (codes "x")) no_expressions)) 1) (number_literal 1 (pos 2))) no_expressions)) no_statements) 1 1)) (statement 1 false (call_statement (call_expression 1 (name_expression 1 (codes "print")) (argument_list (expression (call_expression 1 (field_expression 1 (field_expression 1 (name_expression 1 (codes "t")) (codes "u")) (codes "g")) (argument_list (expression (number_literal 1 (pos 3)) no_expressions)) 1) no_expressions)) 1)) no_statements)))); last_line = 1 })

-- `local t={[1+1]="b",x="c";"a"} print(t[1],t[2],t.x,#t)`
abbrev pub keyed_items : Source
keyed_items = (record { body = (statement 1 false (local_statement ((codes "t") ∷ []) (expression (constructor 1 (keyed (binary_expression 1 BinaryOp.Add (number_literal 1 (pos 1)) (number_literal 1 (pos 1))) (text_literal 1 (codes "b")) Separator.Comma (named (codes "x") (text_literal 1 (codes "c")) Separator.Semicolon (positional (text_literal 1 (codes "a")) Separator.Missing no_fields)))) no_expressions)) (statement 1 false (call_statement (call_expression 1 (name_expression 1 (codes "print")) (argument_list (expression (index_expression 1 (name_expression 1 (codes "t")) (number_literal 1 (pos 1))) (expression (index_expression 1 (name_expression 1 (codes "t")) (number_literal 1 (pos 2))) (expression (field_expression 1 (name_expression 1 (codes "t")) (codes "x")) (expression (unary_expression 1 UnaryOp.Len (name_expression 1 (codes "t"))) no_expressions))))) 1)) no_statements)); last_line = 1 })

-- `local x=1 do local x=2 print(x) end print(x)`
abbrev pub inner_block : Source
inner_block = (record { body = (statement 1 false (local_statement ((codes "x") ∷ []) (expression (number_literal 1 (pos 1)) no_expressions)) (statement 1 false (do_block (statement 1 false (local_statement ((codes "x") ∷ []) (expression (number_literal 1 (pos 2)) no_expressions)) (statement 1 false (call_statement (call_expression 1 (name_expression 1 (codes "print")) (argument_list (expression (name_expression 1 (codes "x")) no_expressions)) 1)) no_statements))) (statement 1 false (call_statement (call_expression 1 (name_expression 1 (codes "print")) (argument_list (expression (name_expression 1 (codes "x")) no_expressions)) 1)) no_statements))); last_line = 1 })

-- `local function f(x) if x==1 then return "one" elseif x then return "some" else return "none" end end print(f(1),f(2),f(nil))`
abbrev pub else_branch : Source
else_branch = (record { body = (statement 1 false (local_function (codes "f") (function_body ((codes "x") ∷ []) false (statement 1 false (if_statement (branch (binary_expression 1 BinaryOp.Eq (name_expression 1 (codes "x")) (number_literal 1 (pos 1))) (statement 1 false (return_statement (expression (text_literal 1 (codes "one")) no_expressions)) no_statements) (branch (name_expression 1 (codes "x")) (statement 1 false (return_statement (expression (text_literal 1 (codes "some")) no_expressions)) no_statements) no_branches)) (otherwise (statement 1 false (return_statement (expression (text_literal 1 (codes "none")) no_expressions)) no_statements))) no_statements) 1 1)) (statement 1 false (call_statement (call_expression 1 (name_expression 1 (codes "print")) (argument_list (expression (call_expression 1 (name_expression 1 (codes "f")) (argument_list (expression (number_literal 1 (pos 1)) no_expressions)) 1) (expression (call_expression 1 (name_expression 1 (codes "f")) (argument_list (expression (number_literal 1 (pos 2)) no_expressions)) 1) (expression (call_expression 1 (name_expression 1 (codes "f")) (argument_list (expression (nil_literal 1) no_expressions)) 1) no_expressions)))) 1)) no_statements)); last_line = 1 })

-- `for i=5,1,-2 do print(i) end for i=1,0 do print(i) end`
abbrev pub stepped : Source
stepped = (record { body = (statement 1 false (numeric_for (codes "i") (number_literal 1 (pos 5)) (number_literal 1 (pos 1)) (by_step (unary_expression 1 UnaryOp.Neg (number_literal 1 (pos 2)))) (statement 1 false (call_statement (call_expression 1 (name_expression 1 (codes "print")) (argument_list (expression (name_expression 1 (codes "i")) no_expressions)) 1)) no_statements)) (statement 1 false (numeric_for (codes "i") (number_literal 1 (pos 1)) (number_literal 1 (pos 0)) no_step (statement 1 false (call_statement (call_expression 1 (name_expression 1 (codes "print")) (argument_list (expression (name_expression 1 (codes "i")) no_expressions)) 1)) no_statements)) no_statements)); last_line = 1 })

-- `local function f(x) return x end print(f"x",f[[y]],f{7}[1])`
abbrev pub single_arguments : Source
single_arguments = (record { body = (statement 1 false (local_function (codes "f") (function_body ((codes "x") ∷ []) false (statement 1 false (return_statement (expression (name_expression 1 (codes "x")) no_expressions)) no_statements) 1 1)) (statement 1 false (call_statement (call_expression 1 (name_expression 1 (codes "print")) (argument_list (expression (call_expression 1 (name_expression 1 (codes "f")) (text_argument (codes "x")) 1) (expression (call_expression 1 (name_expression 1 (codes "f")) (text_argument (codes "y")) 1) (expression (index_expression 1 (call_expression 1 (name_expression 1 (codes "f")) (table_argument (positional (number_literal 1 (pos 7)) Separator.Missing no_fields)) 1) (number_literal 1 (pos 1))) no_expressions)))) 1)) no_statements)); last_line = 1 })

-- `local i=0 repeat i=i+1 until i>=3 print(i)`
abbrev pub repeated : Source
repeated = (record { body = (statement 1 false (local_statement ((codes "i") ∷ []) (expression (number_literal 1 (pos 0)) no_expressions)) (statement 1 false (repeat_loop (statement 1 false (assignment (expression (name_expression 1 (codes "i")) no_expressions) (expression (binary_expression 1 BinaryOp.Add (name_expression 1 (codes "i")) (number_literal 1 (pos 1))) no_expressions)) no_statements) (binary_expression 1 BinaryOp.Ge (name_expression 1 (codes "i")) (number_literal 1 (pos 3)))) (statement 1 false (call_statement (call_expression 1 (name_expression 1 (codes "print")) (argument_list (expression (name_expression 1 (codes "i")) no_expressions)) 1)) no_statements))); last_line = 1 })
