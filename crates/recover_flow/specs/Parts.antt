-- Serves a body. The parts of the source that are taken from the steps of a function, and statements that are appended to others.
use Rattle.std.specs.Prelude.{ℕ, Bool, true, false, List, map, slice_get, slice_set, Option, None, Some, option_map, if◌then◌else◌}
use Rattle.lua_num.specs.Bytes.{Text}
use Rattle.lua_tree.specs.Joins.{join_statements}
use Rattle.lua_tree.specs.Syntax.{Statements, no_statements, statement, Statement, assignment, call_statement, Expressions, no_expressions, expression, Expression, index_expression, field_expression, call_expression, method_call, parenthesized}
use Rattle.recover_expr.specs.Drafts.{Part, nothing_part, statement_part, values_part, condition_part, head_part, view_part}
use Rattle.recover_flow.specs.declared.parts.Parts.{Parts}
use Rattle.recover_flow.specs.declared.parts.Unbuilt.{Unbuilt}

-- by the numbers of the steps
abbrev pub parts_of : Parts → List Part
parts_of parts = map view_part parts.parts.items

-- a part is gone only where this holds, or memory is wanting
abbrev pub IsGoneOnlyWhere : Type 0 → Unbuilt → Type 0
IsGoneOnlyWhere holds Unbuilt.Gone = holds
IsGoneOnlyWhere holds Unbuilt.OutOfMemory = Unit {0}

-- ---- parts that are taken

-- the part of a step, and nothing where there is no such step
abbrev pub part_or_nothing : Option Part → Part
part_or_nothing None = nothing_part
part_or_nothing (Some part) = part

abbrev pub part_of_step : (step : ℕ) → List Part → Part
part_of_step step parts = part_or_nothing (slice_get parts step)

-- a part that was taken is nothing from then on
abbrev pub left_without : (step : ℕ) → List Part → List Part
left_without step parts = slice_set parts step nothing_part

abbrev pub statement_in : Part → Option Statement
statement_in (statement_part found) = Some found
statement_in part = None

abbrev pub values_in : Part → Option Expressions
values_in (values_part values) = Some values
values_in part = None

abbrev pub condition_in : Part → Option Expression
condition_in (condition_part condition) = Some condition
condition_in part = None

abbrev pub head_in : Part → Option (Expressions × List Text)
head_in (head_part values names) = Some (values, names)
head_in part = None

-- the statement of an act or a declaration, and the parts that are left
abbrev pub take_statement : (step : ℕ) → List Part → Option (Statement × List Part)
take_statement step parts = option_map (λ found. (found, left_without step parts)) (statement_in (part_of_step step parts))

-- the values of a return
abbrev pub take_values : (step : ℕ) → List Part → Option (Expressions × List Part)
take_values step parts = option_map (λ found. (found, left_without step parts)) (values_in (part_of_step step parts))

-- the expression of a test
abbrev pub take_condition : (step : ℕ) → List Part → Option (Expression × List Part)
take_condition step parts = option_map (λ found. (found, left_without step parts)) (condition_in (part_of_step step parts))

-- the values and the variables of a `for`
abbrev pub take_head : (step : ℕ) → List Part → Option ((Expressions × List Text) × List Part)
take_head step parts = option_map (λ found. (found, left_without step parts)) (head_in (part_of_step step parts))

-- ---- statements that are appended

-- an expression begins with a parenthesis
abbrev pub is_open : Expression → Bool
is_open (parenthesized line inner) = true
is_open (index_expression line on key) = is_open on
is_open (field_expression line on name) = is_open on
is_open (call_expression line on arguments on_line) = is_open on
is_open (method_call line on name arguments on_line) = is_open on
is_open exp = false

abbrev pub is_first_open : Expressions → Bool
is_first_open no_expressions = false
is_first_open (expression first rest) = is_open first

-- and a statement does
abbrev pub begins_open : Statement → Bool
begins_open (assignment targets values) = is_first_open targets
begins_open (call_statement call) = is_open call
begins_open kind = false

-- the last statement has a semicolon
abbrev pub separated : Statements → Statements
separated no_statements = no_statements
separated (statement line semicolon kind no_statements) = statement line true kind no_statements
separated (statement line semicolon kind rest) = statement line semicolon kind (separated rest)

-- A statement is appended on line 1, behind a semicolon where it begins with a parenthesis, which would call what stands before it.
abbrev pub appended : Statements → Statement → Statements
appended statements kind = join_statements (if begins_open kind then separated statements else statements) (statement 1 false kind no_statements)
