-- Serves the laws. Sources of calls of built-in functions.
use Rattle.std.specs.Prelude.{codes, pos, false, [], ◌∷◌}
use Rattle.lua_tree.specs.declared.tree.BinaryOp.{BinaryOp}
use Rattle.lua_tree.specs.declared.tree.UnaryOp.{UnaryOp}
use Rattle.lua_tree.specs.declared.tree.Separator.{Separator}
use Rattle.lua_tree.specs.Syntax.{no_statements, statement, call_statement, generic_for, local_statement, no_expressions, expression, nil_literal, true_literal, false_literal, number_literal, text_literal, name_expression, call_expression, binary_expression, unary_expression, constructor, argument_list, no_fields, positional, named, Source}

-- `print(type(nil),type(true),type(1),type("x"),type({}),type(print))`
abbrev pub kinds : Source
kinds = (record { body = (statement 1 false (call_statement (call_expression 1 (name_expression 1 (codes "print")) (argument_list (expression (call_expression 1 (name_expression 1 (codes "type")) (argument_list (expression (nil_literal 1) no_expressions)) 1) (expression (call_expression 1 (name_expression 1 (codes "type")) (argument_list (expression (true_literal 1) no_expressions)) 1) (expression (call_expression 1 (name_expression 1 (codes "type")) (argument_list (expression (number_literal 1 (pos 1)) no_expressions)) 1) (expression (call_expression 1 (name_expression 1 (codes "type")) (argument_list (expression (text_literal 1 (codes "x")) no_expressions)) 1) (expression (call_expression 1 (name_expression 1 (codes "type")) (argument_list (expression (constructor 1 no_fields) no_expressions)) 1) (expression (call_expression 1 (name_expression 1 (codes "type")) (argument_list (expression (name_expression 1 (codes "print")) no_expressions)) 1) no_expressions))))))) 1)) no_statements); last_line = 1 })

-- `print(tonumber(" 0x10 "),tonumber("z"),tonumber(3),tostring(nil),tostring(12))`
abbrev pub texts_and_numbers : Source
texts_and_numbers = (record { body = (statement 1 false (call_statement (call_expression 1 (name_expression 1 (codes "print")) (argument_list (expression (call_expression 1 (name_expression 1 (codes "tonumber")) (argument_list (expression (text_literal 1 (codes " 0x10 ")) no_expressions)) 1) (expression (call_expression 1 (name_expression 1 (codes "tonumber")) (argument_list (expression (text_literal 1 (codes "z")) no_expressions)) 1) (expression (call_expression 1 (name_expression 1 (codes "tonumber")) (argument_list (expression (number_literal 1 (pos 3)) no_expressions)) 1) (expression (call_expression 1 (name_expression 1 (codes "tostring")) (argument_list (expression (nil_literal 1) no_expressions)) 1) (expression (call_expression 1 (name_expression 1 (codes "tostring")) (argument_list (expression (number_literal 1 (pos 12)) no_expressions)) 1) no_expressions)))))) 1)) no_statements); last_line = 1 })

-- `print(assert(1,2),pcall(assert,false),pcall(assert,nil,"m"))`
abbrev pub asserted : Source
asserted = (record { body = (statement 1 false (call_statement (call_expression 1 (name_expression 1 (codes "print")) (argument_list (expression (call_expression 1 (name_expression 1 (codes "assert")) (argument_list (expression (number_literal 1 (pos 1)) (expression (number_literal 1 (pos 2)) no_expressions))) 1) (expression (call_expression 1 (name_expression 1 (codes "pcall")) (argument_list (expression (name_expression 1 (codes "assert")) (expression (false_literal 1) no_expressions))) 1) (expression (call_expression 1 (name_expression 1 (codes "pcall")) (argument_list (expression (name_expression 1 (codes "assert")) (expression (nil_literal 1) (expression (text_literal 1 (codes "m")) no_expressions)))) 1) no_expressions)))) 1)) no_statements); last_line = 1 })

-- `print(select("#",1,nil),select(2,"a","b","c"),select(-1,"a","b"))`
abbrev pub selected : Source
selected = (record { body = (statement 1 false (call_statement (call_expression 1 (name_expression 1 (codes "print")) (argument_list (expression (call_expression 1 (name_expression 1 (codes "select")) (argument_list (expression (text_literal 1 (codes "#")) (expression (number_literal 1 (pos 1)) (expression (nil_literal 1) no_expressions)))) 1) (expression (call_expression 1 (name_expression 1 (codes "select")) (argument_list (expression (number_literal 1 (pos 2)) (expression (text_literal 1 (codes "a")) (expression (text_literal 1 (codes "b")) (expression (text_literal 1 (codes "c")) no_expressions))))) 1) (expression (call_expression 1 (name_expression 1 (codes "select")) (argument_list (expression (unary_expression 1 UnaryOp.Neg (number_literal 1 (pos 1))) (expression (text_literal 1 (codes "a")) (expression (text_literal 1 (codes "b")) no_expressions)))) 1) no_expressions)))) 1)) no_statements); last_line = 1 })

-- `print(rawequal("a","a"),rawequal({},{}),rawequal(1,"1"))`
abbrev pub raw_equality : Source
raw_equality = (record { body = (statement 1 false (call_statement (call_expression 1 (name_expression 1 (codes "print")) (argument_list (expression (call_expression 1 (name_expression 1 (codes "rawequal")) (argument_list (expression (text_literal 1 (codes "a")) (expression (text_literal 1 (codes "a")) no_expressions))) 1) (expression (call_expression 1 (name_expression 1 (codes "rawequal")) (argument_list (expression (constructor 1 no_fields) (expression (constructor 1 no_fields) no_expressions))) 1) (expression (call_expression 1 (name_expression 1 (codes "rawequal")) (argument_list (expression (number_literal 1 (pos 1)) (expression (text_literal 1 (codes "1")) no_expressions))) 1) no_expressions)))) 1)) no_statements); last_line = 1 })

-- `local t={5,x=6} print(next(t)) print(next(t,1)) print(next(t,"x"))`
abbrev pub walked : Source
walked = (record { body = (statement 1 false (local_statement ((codes "t") ∷ []) (expression (constructor 1 (positional (number_literal 1 (pos 5)) Separator.Comma (named (codes "x") (number_literal 1 (pos 6)) Separator.Missing no_fields))) no_expressions)) (statement 1 false (call_statement (call_expression 1 (name_expression 1 (codes "print")) (argument_list (expression (call_expression 1 (name_expression 1 (codes "next")) (argument_list (expression (name_expression 1 (codes "t")) no_expressions)) 1) no_expressions)) 1)) (statement 1 false (call_statement (call_expression 1 (name_expression 1 (codes "print")) (argument_list (expression (call_expression 1 (name_expression 1 (codes "next")) (argument_list (expression (name_expression 1 (codes "t")) (expression (number_literal 1 (pos 1)) no_expressions))) 1) no_expressions)) 1)) (statement 1 false (call_statement (call_expression 1 (name_expression 1 (codes "print")) (argument_list (expression (call_expression 1 (name_expression 1 (codes "next")) (argument_list (expression (name_expression 1 (codes "t")) (expression (text_literal 1 (codes "x")) no_expressions))) 1) no_expressions)) 1)) no_statements)))); last_line = 1 })

-- `for k,v in pairs({5,x=6}) do print(k,v) end for i,v in ipairs({7,8,nil,9}) do print(i,v) end`
abbrev pub paired : Source
paired = (record { body = (statement 1 false (generic_for ((codes "k") ∷ (codes "v") ∷ []) (expression (call_expression 1 (name_expression 1 (codes "pairs")) (argument_list (expression (constructor 1 (positional (number_literal 1 (pos 5)) Separator.Comma (named (codes "x") (number_literal 1 (pos 6)) Separator.Missing no_fields))) no_expressions)) 1) no_expressions) (statement 1 false (call_statement (call_expression 1 (name_expression 1 (codes "print")) (argument_list (expression (name_expression 1 (codes "k")) (expression (name_expression 1 (codes "v")) no_expressions))) 1)) no_statements)) (statement 1 false (generic_for ((codes "i") ∷ (codes "v") ∷ []) (expression (call_expression 1 (name_expression 1 (codes "ipairs")) (argument_list (expression (constructor 1 (positional (number_literal 1 (pos 7)) Separator.Comma (positional (number_literal 1 (pos 8)) Separator.Comma (positional (nil_literal 1) Separator.Comma (positional (number_literal 1 (pos 9)) Separator.Missing no_fields))))) no_expressions)) 1) no_expressions) (statement 1 false (call_statement (call_expression 1 (name_expression 1 (codes "print")) (argument_list (expression (name_expression 1 (codes "i")) (expression (name_expression 1 (codes "v")) no_expressions))) 1)) no_statements)) no_statements)); last_line = 1 })

-- `local m={} print(getmetatable({}),getmetatable(setmetatable({},m))==m,getmetatable(setmetatable({},{__metatable="p"})))`
abbrev pub metatables : Source
metatables = (record { body = (statement 1 false (local_statement ((codes "m") ∷ []) (expression (constructor 1 no_fields) no_expressions)) (statement 1 false (call_statement (call_expression 1 (name_expression 1 (codes "print")) (argument_list (expression (call_expression 1 (name_expression 1 (codes "getmetatable")) (argument_list (expression (constructor 1 no_fields) no_expressions)) 1) (expression (binary_expression 1 BinaryOp.Eq (call_expression 1 (name_expression 1 (codes "getmetatable")) (argument_list (expression (call_expression 1 (name_expression 1 (codes "setmetatable")) (argument_list (expression (constructor 1 no_fields) (expression (name_expression 1 (codes "m")) no_expressions))) 1) no_expressions)) 1) (name_expression 1 (codes "m"))) (expression (call_expression 1 (name_expression 1 (codes "getmetatable")) (argument_list (expression (call_expression 1 (name_expression 1 (codes "setmetatable")) (argument_list (expression (constructor 1 no_fields) (expression (constructor 1 (named (codes "__metatable") (text_literal 1 (codes "p")) Separator.Missing no_fields)) no_expressions))) 1) no_expressions)) 1) no_expressions)))) 1)) no_statements)); last_line = 1 })

-- `print(unpack({1,2,3},2),unpack({1,2,3},1,2))`
abbrev pub unpacked : Source
unpacked = (record { body = (statement 1 false (call_statement (call_expression 1 (name_expression 1 (codes "print")) (argument_list (expression (call_expression 1 (name_expression 1 (codes "unpack")) (argument_list (expression (constructor 1 (positional (number_literal 1 (pos 1)) Separator.Comma (positional (number_literal 1 (pos 2)) Separator.Comma (positional (number_literal 1 (pos 3)) Separator.Missing no_fields)))) (expression (number_literal 1 (pos 2)) no_expressions))) 1) (expression (call_expression 1 (name_expression 1 (codes "unpack")) (argument_list (expression (constructor 1 (positional (number_literal 1 (pos 1)) Separator.Comma (positional (number_literal 1 (pos 2)) Separator.Comma (positional (number_literal 1 (pos 3)) Separator.Missing no_fields)))) (expression (number_literal 1 (pos 1)) (expression (number_literal 1 (pos 2)) no_expressions)))) 1) no_expressions))) 1)) no_statements); last_line = 1 })
