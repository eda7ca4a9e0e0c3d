-- Serves the laws. Sources of handlers, protected calls and hosts.
use Rattle.std.specs.Prelude.{List, true, codes, pos, false, [], ◌∷◌}
use Rattle.lua_tree.specs.declared.tree.BinaryOp.{BinaryOp}
use Rattle.lua_tree.specs.declared.tree.Separator.{Separator}
use Rattle.lua_model.specs.declared.plain.Plain.{Plain}
use Rattle.lua_model.specs.Store.{Host, Reply, replies_values}
use Rattle.lua_tree.specs.Syntax.{no_statements, statement, assignment, call_statement, numeric_for, local_statement, return_statement, no_step, function_body, no_expressions, expression, nil_literal, number_literal, text_literal, name_expression, function_expression, field_expression, call_expression, binary_expression, constructor, argument_list, no_fields, named, Source}

-- `local m={x=1} m.__index=m local f={__index=function(t,k) return k.."!" end} print(setmetatable({},m).x,setmetatable({},f).y)`
abbrev pub index_handlers : Source
index_handlers = (record { body = (statement 1 false (local_statement ((codes "m") ∷ []) (expression (constructor 1 (named (codes "x") (number_literal 1 (pos 1)) Separator.Missing no_fields)) no_expressions)) (statement 1 false (assignment (expression (field_expression 1 (name_expression 1 (codes "m")) (codes "__index")) no_expressions) (expression (name_expression 1 (codes "m")) no_expressions)) (statement 1 false (local_statement ((codes "f") ∷ []) (expression (constructor 1 (named (codes "__index") (function_expression 1 (function_body ((codes "t") ∷ (codes "k") ∷ []) false (statement 1 false (return_statement (expression (binary_expression 1 BinaryOp.Concat (name_expression 1 (codes "k")) (text_literal 1 (codes "!"))) no_expressions)) no_statements) 1 1)) Separator.Missing no_fields)) no_expressions)) (statement 1 false (call_statement (call_expression 1 (name_expression 1 (codes "print")) (argument_list (expression (field_expression 1 (call_expression 1 (name_expression 1 (codes "setmetatable")) (argument_list (expression (constructor 1 no_fields) (expression (name_expression 1 (codes "m")) no_expressions))) 1) (codes "x")) (expression (field_expression 1 (call_expression 1 (name_expression 1 (codes "setmetatable")) (argument_list (expression (constructor 1 no_fields) (expression (name_expression 1 (codes "f")) no_expressions))) 1) (codes "y")) no_expressions))) 1)) no_statements)))); last_line = 1 })

-- `local u={} local m={__newindex=u} local f={__newindex=function(t,k,v) rawset(t,k,v+1) end} local a=setmetatable({},m) local b=setmetatable({},f) a.x=1 b.x=1 print(rawget(a,"x"),u.x,b.x)`
abbrev pub newindex_handlers : Source
newindex_handlers = (record { body = (statement 1 false (local_statement ((codes "u") ∷ []) (expression (constructor 1 no_fields) no_expressions)) (statement 1 false (local_statement ((codes "m") ∷ []) (expression (constructor 1 (named (codes "__newindex") (name_expression 1 (codes "u")) Separator.Missing no_fields)) no_expressions)) (statement 1 false (local_statement ((codes "f") ∷ []) (expression (constructor 1 (named (codes "__newindex") (function_expression 1 (function_body ((codes "t") ∷ (codes "k") ∷ (codes "v") ∷ []) false (statement 1 false (call_statement (call_expression 1 (name_expression 1 (codes "rawset")) (argument_list (expression (name_expression 1 (codes "t")) (expression (name_expression 1 (codes "k")) (expression (binary_expression 1 BinaryOp.Add (name_expression 1 (codes "v")) (number_literal 1 (pos 1))) no_expressions)))) 1)) no_statements) 1 1)) Separator.Missing no_fields)) no_expressions)) (statement 1 false (local_statement ((codes "a") ∷ []) (expression (call_expression 1 (name_expression 1 (codes "setmetatable")) (argument_list (expression (constructor 1 no_fields) (expression (name_expression 1 (codes "m")) no_expressions))) 1) no_expressions)) (statement 1 false (local_statement ((codes "b") ∷ []) (expression (call_expression 1 (name_expression 1 (codes "setmetatable")) (argument_list (expression (constructor 1 no_fields) (expression (name_expression 1 (codes "f")) no_expressions))) 1) no_expressions)) (statement 1 false (assignment (expression (field_expression 1 (name_expression 1 (codes "a")) (codes "x")) no_expressions) (expression (number_literal 1 (pos 1)) no_expressions)) (statement 1 false (assignment (expression (field_expression 1 (name_expression 1 (codes "b")) (codes "x")) no_expressions) (expression (number_literal 1 (pos 1)) no_expressions)) (statement 1 false (call_statement (call_expression 1 (name_expression 1 (codes "print")) (argument_list (expression (call_expression 1 (name_expression 1 (codes "rawget")) (argument_list (expression (name_expression 1 (codes "a")) (expression (text_literal 1 (codes "x")) no_expressions))) 1) (expression (field_expression 1 (name_expression 1 (codes "u")) (codes "x")) (expression (field_expression 1 (name_expression 1 (codes "b")) (codes "x")) no_expressions)))) 1)) no_statements)))))))); last_line = 1 })

-- `local m={__concat=function(a,b) return "<"..tostring(b)..">" end} print("a"..setmetatable({},m).."b")`
abbrev pub concat_handler : Source
concat_handler = (record { body = (statement 1 false (local_statement ((codes "m") ∷ []) (expression (constructor 1 (named (codes "__concat") (function_expression 1 (function_body ((codes "a") ∷ (codes "b") ∷ []) false (statement 1 false (return_statement (expression (binary_expression 1 BinaryOp.Concat (text_literal 1 (codes "<")) (binary_expression 1 BinaryOp.Concat (call_expression 1 (name_expression 1 (codes "tostring")) (argument_list (expression (name_expression 1 (codes "b")) no_expressions)) 1) (text_literal 1 (codes ">")))) no_expressions)) no_statements) 1 1)) Separator.Missing no_fields)) no_expressions)) (statement 1 false (call_statement (call_expression 1 (name_expression 1 (codes "print")) (argument_list (expression (binary_expression 1 BinaryOp.Concat (text_literal 1 (codes "a")) (binary_expression 1 BinaryOp.Concat (call_expression 1 (name_expression 1 (codes "setmetatable")) (argument_list (expression (constructor 1 no_fields) (expression (name_expression 1 (codes "m")) no_expressions))) 1) (text_literal 1 (codes "b")))) no_expressions)) 1)) no_statements)); last_line = 1 })

-- `local m={__lt=function() return 1 end} local a,b=setmetatable({},m),setmetatable({},m) print(a<b,a<=b,a>=b)`
abbrev pub missing_le : Source
missing_le = (record { body = (statement 1 false (local_statement ((codes "m") ∷ []) (expression (constructor 1 (named (codes "__lt") (function_expression 1 (function_body [] false (statement 1 false (return_statement (expression (number_literal 1 (pos 1)) no_expressions)) no_statements) 1 1)) Separator.Missing no_fields)) no_expressions)) (statement 1 false (local_statement ((codes "a") ∷ (codes "b") ∷ []) (expression (call_expression 1 (name_expression 1 (codes "setmetatable")) (argument_list (expression (constructor 1 no_fields) (expression (name_expression 1 (codes "m")) no_expressions))) 1) (expression (call_expression 1 (name_expression 1 (codes "setmetatable")) (argument_list (expression (constructor 1 no_fields) (expression (name_expression 1 (codes "m")) no_expressions))) 1) no_expressions))) (statement 1 false (call_statement (call_expression 1 (name_expression 1 (codes "print")) (argument_list (expression (binary_expression 1 BinaryOp.Lt (name_expression 1 (codes "a")) (name_expression 1 (codes "b"))) (expression (binary_expression 1 BinaryOp.Le (name_expression 1 (codes "a")) (name_expression 1 (codes "b"))) (expression (binary_expression 1 BinaryOp.Ge (name_expression 1 (codes "a")) (name_expression 1 (codes "b"))) no_expressions)))) 1)) no_statements))); last_line = 1 })

-- `local t=setmetatable({},{__call=function(self,a,b) return b,a end}) print(t(1,2))`
abbrev pub called_table : Source
called_table = (record { body = (statement 1 false (local_statement ((codes "t") ∷ []) (expression (call_expression 1 (name_expression 1 (codes "setmetatable")) (argument_list (expression (constructor 1 no_fields) (expression (constructor 1 (named (codes "__call") (function_expression 1 (function_body ((codes "self") ∷ (codes "a") ∷ (codes "b") ∷ []) false (statement 1 false (return_statement (expression (name_expression 1 (codes "b")) (expression (name_expression 1 (codes "a")) no_expressions))) no_statements) 1 1)) Separator.Missing no_fields)) no_expressions))) 1) no_expressions)) (statement 1 false (call_statement (call_expression 1 (name_expression 1 (codes "print")) (argument_list (expression (call_expression 1 (name_expression 1 (codes "t")) (argument_list (expression (number_literal 1 (pos 1)) (expression (number_literal 1 (pos 2)) no_expressions))) 1) no_expressions)) 1)) no_statements)); last_line = 1 })

-- `print(pcall(function() error({}) end))`
abbrev pub caught_table : Source
caught_table = (record { body = (statement 1 false (call_statement (call_expression 1 (name_expression 1 (codes "print")) (argument_list (expression (call_expression 1 (name_expression 1 (codes "pcall")) (argument_list (expression (function_expression 1 (function_body [] false (statement 1 false (call_statement (call_expression 1 (name_expression 1 (codes "error")) (argument_list (expression (constructor 1 no_fields) no_expressions)) 1)) no_statements) 1 1)) no_expressions)) 1) no_expressions)) 1)) no_statements); last_line = 1 })

-- `print(pcall(pcall,error,7))`
abbrev pub caught_twice : Source
caught_twice = (record { body = (statement 1 false (call_statement (call_expression 1 (name_expression 1 (codes "print")) (argument_list (expression (call_expression 1 (name_expression 1 (codes "pcall")) (argument_list (expression (name_expression 1 (codes "pcall")) (expression (name_expression 1 (codes "error")) (expression (number_literal 1 (pos 7)) no_expressions)))) 1) no_expressions)) 1)) no_statements); last_line = 1 })

-- `local g print(pcall(function() local n=1 g=function() n=n+1 return n end error("x") end)) print(g(),g())`
abbrev pub kept_cell : Source
kept_cell = (record { body = (statement 1 false (local_statement ((codes "g") ∷ []) no_expressions) (statement 1 false (call_statement (call_expression 1 (name_expression 1 (codes "print")) (argument_list (expression (call_expression 1 (name_expression 1 (codes "pcall")) (argument_list (expression (function_expression 1 (function_body [] false (statement 1 false (local_statement ((codes "n") ∷ []) (expression (number_literal 1 (pos 1)) no_expressions)) (statement 1 false (assignment (expression (name_expression 1 (codes "g")) no_expressions) (expression (function_expression 1 (function_body [] false (statement 1 false (assignment (expression (name_expression 1 (codes "n")) no_expressions) (expression (binary_expression 1 BinaryOp.Add (name_expression 1 (codes "n")) (number_literal 1 (pos 1))) no_expressions)) (statement 1 false (return_statement (expression (name_expression 1 (codes "n")) no_expressions)) no_statements)) 1 1)) no_expressions)) (statement 1 false (call_statement (call_expression 1 (name_expression 1 (codes "error")) (argument_list (expression (text_literal 1 (codes "x")) no_expressions)) 1)) no_statements))) 1 1)) no_expressions)) 1) no_expressions)) 1)) (statement 1 false (call_statement (call_expression 1 (name_expression 1 (codes "print")) (argument_list (expression (call_expression 1 (name_expression 1 (codes "g")) (argument_list no_expressions) 1) (expression (call_expression 1 (name_expression 1 (codes "g")) (argument_list no_expressions) 1) no_expressions))) 1)) no_statements))); last_line = 1 })

-- `print(host_close("ask"),host_close("ask"),pcall(ask))`
abbrev pub closed_host : Source
closed_host = (record { body = (statement 1 false (call_statement (call_expression 1 (name_expression 1 (codes "print")) (argument_list (expression (call_expression 1 (name_expression 1 (codes "host_close")) (argument_list (expression (text_literal 1 (codes "ask")) no_expressions)) 1) (expression (call_expression 1 (name_expression 1 (codes "host_close")) (argument_list (expression (text_literal 1 (codes "ask")) no_expressions)) 1) (expression (call_expression 1 (name_expression 1 (codes "pcall")) (argument_list (expression (name_expression 1 (codes "ask")) no_expressions)) 1) no_expressions)))) 1)) no_statements); last_line = 1 })

-- `print(ask(1,"x",nil)) print(ask())`
abbrev pub waiting_host : Source
waiting_host = (record { body = (statement 1 false (call_statement (call_expression 1 (name_expression 1 (codes "print")) (argument_list (expression (call_expression 1 (name_expression 1 (codes "ask")) (argument_list (expression (number_literal 1 (pos 1)) (expression (text_literal 1 (codes "x")) (expression (nil_literal 1) no_expressions)))) 1) no_expressions)) 1)) (statement 1 false (call_statement (call_expression 1 (name_expression 1 (codes "print")) (argument_list (expression (call_expression 1 (name_expression 1 (codes "ask")) (argument_list no_expressions) 1) no_expressions)) 1)) no_statements)); last_line = 1 })

-- `local m={__eq=function(a,b) return 1 end} local a,b=setmetatable({},m),setmetatable({},m) print(a==b,a~=b,a=={},rawequal(a,b))`
abbrev pub eq_handler : Source
eq_handler = (record { body = (statement 1 false (local_statement ((codes "m") ∷ []) (expression (constructor 1 (named (codes "__eq") (function_expression 1 (function_body ((codes "a") ∷ (codes "b") ∷ []) false (statement 1 false (return_statement (expression (number_literal 1 (pos 1)) no_expressions)) no_statements) 1 1)) Separator.Missing no_fields)) no_expressions)) (statement 1 false (local_statement ((codes "a") ∷ (codes "b") ∷ []) (expression (call_expression 1 (name_expression 1 (codes "setmetatable")) (argument_list (expression (constructor 1 no_fields) (expression (name_expression 1 (codes "m")) no_expressions))) 1) (expression (call_expression 1 (name_expression 1 (codes "setmetatable")) (argument_list (expression (constructor 1 no_fields) (expression (name_expression 1 (codes "m")) no_expressions))) 1) no_expressions))) (statement 1 false (call_statement (call_expression 1 (name_expression 1 (codes "print")) (argument_list (expression (binary_expression 1 BinaryOp.Eq (name_expression 1 (codes "a")) (name_expression 1 (codes "b"))) (expression (binary_expression 1 BinaryOp.Ne (name_expression 1 (codes "a")) (name_expression 1 (codes "b"))) (expression (binary_expression 1 BinaryOp.Eq (name_expression 1 (codes "a")) (constructor 1 no_fields)) (expression (call_expression 1 (name_expression 1 (codes "rawequal")) (argument_list (expression (name_expression 1 (codes "a")) (expression (name_expression 1 (codes "b")) no_expressions))) 1) no_expressions))))) 1)) no_statements))); last_line = 1 })

-- `local m={__le=function(a,b) return a.n<=b.n end} local a,b=setmetatable({n=1},m),setmetatable({n=2},m) print(a<=b,a>=b)`
abbrev pub le_handler : Source
le_handler = (record { body = (statement 1 false (local_statement ((codes "m") ∷ []) (expression (constructor 1 (named (codes "__le") (function_expression 1 (function_body ((codes "a") ∷ (codes "b") ∷ []) false (statement 1 false (return_statement (expression (binary_expression 1 BinaryOp.Le (field_expression 1 (name_expression 1 (codes "a")) (codes "n")) (field_expression 1 (name_expression 1 (codes "b")) (codes "n"))) no_expressions)) no_statements) 1 1)) Separator.Missing no_fields)) no_expressions)) (statement 1 false (local_statement ((codes "a") ∷ (codes "b") ∷ []) (expression (call_expression 1 (name_expression 1 (codes "setmetatable")) (argument_list (expression (constructor 1 (named (codes "n") (number_literal 1 (pos 1)) Separator.Missing no_fields)) (expression (name_expression 1 (codes "m")) no_expressions))) 1) (expression (call_expression 1 (name_expression 1 (codes "setmetatable")) (argument_list (expression (constructor 1 (named (codes "n") (number_literal 1 (pos 2)) Separator.Missing no_fields)) (expression (name_expression 1 (codes "m")) no_expressions))) 1) no_expressions))) (statement 1 false (call_statement (call_expression 1 (name_expression 1 (codes "print")) (argument_list (expression (binary_expression 1 BinaryOp.Le (name_expression 1 (codes "a")) (name_expression 1 (codes "b"))) (expression (binary_expression 1 BinaryOp.Ge (name_expression 1 (codes "a")) (name_expression 1 (codes "b"))) no_expressions))) 1)) no_statements))); last_line = 1 })

-- `local t=setmetatable({},{__call=pcall}) print(select(200,t()))`
abbrev pub protected_200 : Source
protected_200 = (record { body = (statement 1 false (local_statement ((codes "t") ∷ []) (expression (call_expression 1 (name_expression 1 (codes "setmetatable")) (argument_list (expression (constructor 1 no_fields) (expression (constructor 1 (named (codes "__call") (name_expression 1 (codes "pcall")) Separator.Missing no_fields)) no_expressions))) 1) no_expressions)) (statement 1 false (call_statement (call_expression 1 (name_expression 1 (codes "print")) (argument_list (expression (call_expression 1 (name_expression 1 (codes "select")) (argument_list (expression (number_literal 1 (pos 200)) (expression (call_expression 1 (name_expression 1 (codes "t")) (argument_list no_expressions) 1) no_expressions))) 1) no_expressions)) 1)) no_statements)); last_line = 1 })

-- `for i=ask(),3 do print(i) end`
abbrev pub wrapped_first : Source
wrapped_first = (record { body = (statement 1 false (numeric_for (codes "i") (call_expression 1 (name_expression 1 (codes "ask")) (argument_list no_expressions) 1) (number_literal 1 (pos 3)) no_step (statement 1 false (call_statement (call_expression 1 (name_expression 1 (codes "print")) (argument_list (expression (name_expression 1 (codes "i")) no_expressions)) 1)) no_statements)) no_statements); last_line = 1 })

-- one live host, and the replies that hosts have left
abbrev pub ask_host : List Host
ask_host = record { name = codes "ask"; live = true } ∷ []

abbrev pub one_reply : List Reply
one_reply = replies_values (Plain.Bool true ∷ Plain.Number (pos 5) ∷ []) ∷ []

-- a reply past 64 bits, which no host of the program can give
abbrev pub wide_reply : List Reply
wide_reply = replies_values (Plain.Number (pos 18446744073709551617) ∷ []) ∷ []
