-- To be believed. The tree of a source (manual 2.4, 2.5 and 8), without pointers: what all definitions speak of.
use Rattle.std.specs.Prelude.{ℕ, ℤ, Bool, List, Option}
use Rattle.lua_num.specs.Bytes.{Text}
use Rattle.lua_tree.specs.declared.tree.BinaryOp.{BinaryOp}
use Rattle.lua_tree.specs.declared.tree.UnaryOp.{UnaryOp}
use Rattle.lua_tree.specs.declared.tree.Separator.{Separator}

mutual
  pub data Statements : Type 0 where
    no_statements : Statements
    statement : (line : ℕ) → (semi : Bool) → Statement → Statements → Statements

  pub data Statement : Type 0 where
    assignment : (targets expressions : Expressions) → Statement
    call_statement : Expression → Statement
    do_block : Statements → Statement
    while_loop : Expression → Statements → Statement
    repeat_loop : Statements → Expression → Statement
    if_statement : Branches → Otherwise → Statement
    numeric_for : Text → (first last : Expression) → ForStep → Statements → Statement
    generic_for : List Text → Expressions → Statements → Statement
    function_statement : List Text → Option Text → FunctionBody → Statement
    local_function : Text → FunctionBody → Statement
    local_statement : List Text → Expressions → Statement
    return_statement : Expressions → Statement
    break_statement : Statement

  pub data Branches : Type 0 where
    no_branches : Branches
    branch : Expression → Statements → Branches → Branches

  pub data Otherwise : Type 0 where
    no_otherwise : Otherwise
    otherwise : Statements → Otherwise

  pub data ForStep : Type 0 where
    no_step : ForStep
    by_step : Expression → ForStep

  pub data FunctionBody : Type 0 where
    function_body : (params : List Text) → (vararg : Bool) → Statements → (first_line last_line : ℕ) → FunctionBody

  pub data Expressions : Type 0 where
    no_expressions : Expressions
    expression : Expression → Expressions → Expressions

  pub data Expression : Type 0 where
    nil_literal true_literal false_literal vararg_expression : (line : ℕ) → Expression
    number_literal : (line : ℕ) → ℤ → Expression
    text_literal name_expression : (line : ℕ) → Text → Expression
    function_expression : (line : ℕ) → FunctionBody → Expression
    index_expression : (line : ℕ) → (on key : Expression) → Expression
    field_expression : (line : ℕ) → Expression → Text → Expression
    call_expression : (line : ℕ) → Expression → Arguments → (on_line : ℕ) → Expression
    method_call : (line : ℕ) → Expression → Text → Arguments → (on_line : ℕ) → Expression
    and_expression or_expression : (line : ℕ) → (left right : Expression) → Expression
    binary_expression : (line : ℕ) → BinaryOp → (left right : Expression) → Expression
    unary_expression : (line : ℕ) → UnaryOp → Expression → Expression
    constructor : (line : ℕ) → Fields → Expression
    parenthesized : (line : ℕ) → Expression → Expression

  pub data Arguments : Type 0 where
    argument_list : Expressions → Arguments
    text_argument : Text → Arguments
    table_argument : Fields → Arguments

  pub data Fields : Type 0 where
    no_fields : Fields
    positional : Expression → Separator → Fields → Fields
    named : Text → Expression → Separator → Fields → Fields
    keyed : (key value : Expression) → Separator → Fields → Fields

pub record Source : Type 0 where
  pub body : Statements
  pub last_line : ℕ
