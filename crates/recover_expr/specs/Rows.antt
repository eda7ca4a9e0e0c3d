-- Serves a law. Chunks of small sources, and the steps that their words are read as.
use Rattle.std.specs.Prelude.{ℕ, false, List, [], ◌∷◌, None, codes, pos}
use Rattle.lua_num.specs.Bytes.{Text}
use Rattle.lua_tree.specs.Syntax.{no_expressions, expression, Expression, number_literal, name_expression, field_expression, call_expression, binary_expression, constructor, argument_list, no_fields, positional, named, assignment, call_statement, local_statement}
use Rattle.lua_tree.specs.declared.tree.BinaryOp.{BinaryOp}
use Rattle.lua_tree.specs.declared.tree.Separator.{Separator}
use Rattle.proto.specs.Chunk.{Chunk, function, no_functions}
use Rattle.proto.specs.declared.parts.Constant.{Constant}
use Rattle.proto.specs.declared.parts.LocVar.{LocVar}
use Rattle.recover_expr.specs.Drafts.{Part, statement_part, condition_part}
use Rattle.recover_expr.specs.Placing.{Steps}
use Rattle.recover_expr.specs.declared.steps.Step.{Step}
use Rattle.recover_expr.specs.declared.steps.StepKind.{StepKind}

-- the main chunk with these words, constants and locals
abbrev pub main : (code : List ℕ) → List Constant → List LocVar → (registers : ℕ) → Chunk
main code constants locals registers = function (record { source = None; line_defined = 0; last_line = 0; upvalues = 0; params = 0; flags = 2; registers = registers; code = code; constants = constants; lines = []; locals = locals; upvalue_names = [] }) no_functions

abbrev pub local : Text → (start end : ℕ) → LocVar
local name start end = record { name = name; start = start; end = end }

abbrev pub step : StepKind → (pc base levels : ℕ) → Step
step kind pc base levels = record { kind = kind; pc = pc; base = base; captured = 0; levels = levels }

abbrev pub steps : List Step → List Part → Steps
steps these parts = record { params = []; steps = these; parts = parts }

abbrev pub name : Text → Expression
name text = name_expression 1 text

abbrev pub number : ℕ → Expression
number n = number_literal 1 (pos n)

-- print(1) error(42)
abbrev pub two_calls : Chunk
two_calls =
    main (5 ∷ 16449 ∷ 16793628 ∷ 32773 ∷ 49217 ∷ 16793628 ∷ 8388638 ∷ []) (Constant.Text (codes "print") ∷ Constant.Number (pos 1) ∷ Constant.Text (codes "error") ∷ Constant.Number (pos 42) ∷ []) [] 2

abbrev pub called : Text → ℕ → Part
called text n = statement_part (call_statement (call_expression 1 (name text) (argument_list (expression (number n) no_expressions)) 1))

abbrev pub two_calls_read : Steps
two_calls_read = steps (step StepKind.Act 0 0 3 ∷ step StepKind.Act 3 0 3 ∷ []) (called (codes "print") 1 ∷ called (codes "error") 42 ∷ [])

-- local a, b = 1 a, b = b, a
abbrev pub swapped_locals : Chunk
swapped_locals = main (1 ∷ 8388675 ∷ 8388736 ∷ 64 ∷ 16777216 ∷ 8388638 ∷ []) (Constant.Number (pos 1) ∷ []) (local (codes "a") 2 5 ∷ local (codes "b") 2 5 ∷ []) 3

abbrev pub swapped_locals_read : Steps
swapped_locals_read =
    steps (step (StepKind.Declaration 2 false) 0 0 2 ∷ step StepKind.Act 2 2 2 ∷ [])
    (statement_part (local_statement (codes "a" ∷ codes "b" ∷ []) (expression (number 1) no_expressions))
    ∷ statement_part (assignment (expression (name (codes "a")) (expression (name (codes "b")) no_expressions)) (expression (name (codes "b")) (expression (name (codes "a")) no_expressions))) ∷ [])

-- if a == 1 then f() end
abbrev pub tested_call : Chunk
tested_call = main (5 ∷ 4210711 ∷ 2147500054 ∷ 32773 ∷ 8405020 ∷ 8388638 ∷ []) (Constant.Text (codes "a") ∷ Constant.Number (pos 1) ∷ Constant.Text (codes "f") ∷ []) [] 2

abbrev pub tested_call_read : Steps
tested_call_read =
    steps (step (StepKind.Test false 2 2) 0 0 2 ∷ step StepKind.Act 3 0 3 ∷ [])
    (condition_part (binary_expression 1 BinaryOp.Eq (name (codes "a")) (number 1)) ∷ statement_part (call_statement (call_expression 1 (name (codes "f")) (argument_list no_expressions) 1)) ∷ [])

-- t.x = {1, 2, y = z}
abbrev pub stored_table : Chunk
stored_table =
    main (5 ∷ 16793674 ∷ 32897 ∷ 49345 ∷ 82181 ∷ 2181103689 ∷ 16793698 ∷ 2155888649 ∷ 8388638 ∷ [])
    (Constant.Text (codes "t") ∷ Constant.Text (codes "x") ∷ Constant.Number (pos 1) ∷ Constant.Number (pos 2) ∷ Constant.Text (codes "y") ∷ Constant.Text (codes "z") ∷ []) [] 5

abbrev pub stored_table_read : Steps
stored_table_read =
    steps (step StepKind.Act 0 0 3 ∷ [])
    (statement_part
    (assignment (expression (field_expression 1 (name (codes "t")) (codes "x")) no_expressions)
    (expression (constructor 1 (positional (number 1) Separator.Comma (positional (number 2) Separator.Comma (named (codes "y") (name (codes "z")) Separator.Missing no_fields)))) no_expressions))
    ∷ [])
