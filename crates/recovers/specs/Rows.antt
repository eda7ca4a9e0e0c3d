-- To be believed. A small source with a function whose statements have blocks: `function f(n) for i = 1, 3 do if i > n then print(i) end end end`.
use Rattle.std.specs.Prelude.{[], ◌∷◌, false, pos, codes, None}
use Rattle.lua_tree.specs.Syntax as syntax
use Rattle.lua_tree.specs.Syntax.{Source, Statements, no_statements, Expression, no_expressions, function_body, function_statement, if_statement, numeric_for, no_step, branch, no_branches, no_otherwise, call_statement, call_expression, argument_list, binary_expression, name_expression, number_literal}
use Rattle.lua_tree.specs.declared.tree.BinaryOp.{BinaryOp}
use Rattle.proto.specs.Chunk.{Chunk}
use Rattle.scheme.specs.Scheme.{scheme}

abbrev pub i_mentioned : Expression
i_mentioned = name_expression 1 (codes "i")

abbrev pub only : syntax.Statement → Statements
only s = syntax.statement 1 false s no_statements

abbrev pub counting : Statements
counting = only (numeric_for (codes "i") (number_literal 1 (pos 1)) (number_literal 1 (pos 3)) no_step
    (only (if_statement
    (branch (binary_expression 1 BinaryOp.Gt i_mentioned (name_expression 1 (codes "n")))
    (only (call_statement (call_expression 1 (name_expression 1 (codes "print")) (argument_list (syntax.expression i_mentioned no_expressions)) 1)))
    no_branches)
    no_otherwise)))

abbrev pub small_source : Source
small_source = record { body = only (function_statement (codes "f" ∷ []) None (function_body (codes "n" ∷ []) false counting 1 1)); last_line = 1 }

abbrev pub small_chunk : Chunk
small_chunk = scheme small_source (codes "=small")
