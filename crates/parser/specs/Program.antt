-- Serves the bodies. The parser as programs that read tokens from the left, with a look at the next one.
use Rattle.std.specs.Prelude.{◌==◌, ℕ, ◌+◌, nat_lt, true, false, [], ◌∷◌, Option, Some, None, if◌then◌else◌}
use Rattle.lua_tree.specs.Syntax.{Statements, no_statements, statement, assignment, call_statement, do_block, while_loop, repeat_loop, if_statement, numeric_for, generic_for, function_statement, local_function, local_statement, return_statement, break_statement, no_branches, branch, no_otherwise, otherwise, no_step, by_step, function_body, no_expressions, expression, Expression, name_expression, function_expression, index_expression, field_expression, call_expression, method_call, unary_expression, constructor, parenthesized, argument_list, text_argument, table_argument, Fields, no_fields, positional, named, keyed}
use Rattle.lua_num.specs.Bytes.{Text}
use Rattle.lua_tree.specs.Spelled.{Phrase, block_phrase, statement_phrase, branches_phrase, step_phrase, body_phrase, parameters_phrase, more_parameters_phrase, method_phrase, values_phrase, expressions_phrase, more_expressions_phrase, expression_phrase, arguments_phrase, fields_phrase, field_phrase, semicolon_phrase, separator_phrase, name_phrase, more_names_phrase, Meant, Field, positional_field, named_field, keyed_field}
use Rattle.lua_tree.specs.WellFormed.{is_target, is_call, ends_block, depth_of_expression}
use Rattle.lua_tree.specs.declared.token.TokenKind.{TokenKind}
use Rattle.lua_tree.specs.declared.tree.UnaryOp.{UnaryOp}
use Rattle.lua_tree.specs.declared.tree.Separator.{Separator}
use Rattle.parser.specs.Classes.{Role, Start, Suffix, start_of, suffix_of, literal_of, name_of, text_of, is_block_end}
use Rattle.parser.specs.Operators.{Infix, infix_of, unary_of, left_power, right_power, infix_expression}

-- a call that is to be a target, and parentheses that are no operand, need one more depth, for the suffix that must follow them
abbrev pub call_spare : Role → ℕ
call_spare Role.Target = 1
call_spare role = 0

abbrev pub paren_spare : Role → ℕ
paren_spare Role.Operand = 0
paren_spare role = 1

-- what is read next: `depth` is how many constructs are open around it
pub data Goal : Phrase → Type 0 where
  main_chunk : Goal block_phrase
  block : (depth : ℕ) → Goal block_phrase
  semicolon : Goal semicolon_phrase
  -- the depth of a statement counts itself
  one_statement if_of while_of do_of for_of repeat_of function_of local_of return_of break_of : (depth : ℕ) → Goal statement_phrase
  numeric_of generic_of : (depth : ℕ) → Text → Goal statement_phrase
  local_function_of : (depth : ℕ) → Goal statement_phrase
  local_names_of : (depth : ℕ) → Goal statement_phrase
  expression_statement : (depth : ℕ) → Goal statement_phrase
  branches : (depth : ℕ) → Goal branches_phrase
  step : (depth : ℕ) → Goal step_phrase
  method_name : Goal method_phrase
  values : (depth : ℕ) → Goal values_phrase
  results : (depth : ℕ) → Goal expressions_phrase
  targets : (depth : ℕ) → Expression → Goal expressions_phrase
  body : (depth line : ℕ) → Goal body_phrase
  parameters : Goal parameters_phrase
  first_parameter : Goal parameters_phrase
  more_parameters : Goal more_parameters_phrase
  one_name : Goal name_phrase
  more_names_by : (mark : TokenKind) → Goal (more_names_phrase mark)
  expressions_at : (depth : ℕ) → Goal expressions_phrase
  more_expressions_at : (depth : ℕ) → Goal more_expressions_phrase
  -- an expression of operators that bind more strongly than a limit
  whole : (depth limit : ℕ) → Goal expression_phrase
  -- more operators behind an operand whose first token stands on a line
  climb : (depth limit start : ℕ) → Expression → Goal expression_phrase
  simple : (depth : ℕ) → Goal expression_phrase
  prefix : (depth : ℕ) → Role → Goal expression_phrase
  suffix : (depth : ℕ) → Role → Expression → Goal expression_phrase
  function_value table_of : (depth : ℕ) → Goal expression_phrase
  paren_of : (depth : ℕ) → Role → Goal expression_phrase
  -- one suffix
  field_of index_of : (depth : ℕ) → Expression → Goal expression_phrase
  method_of call_of : (depth : ℕ) → Role → Expression → Goal expression_phrase
  -- arguments whose first token needs a depth
  arguments : (depth needed : ℕ) → Goal arguments_phrase
  listed : (depth : ℕ) → Goal expressions_phrase
  fields : (depth : ℕ) → Goal fields_phrase
  one_field keyed_of : (depth : ℕ) → Goal field_phrase
  -- an item that begins with a name
  named_of : (depth start : ℕ) → Text → Goal field_phrase
  separator : Goal separator_phrase

pub data Program (answer : Phrase) : Type 0 where
  give : Meant answer → Program answer
  -- no tree goes on with the next token
  stop : Program answer
  -- look at the line of the token before, at the next token and at its line
  look : (ℕ → Option TokenKind → ℕ → Program answer) → Program answer
  -- take the next token, which needs a depth
  skip : (depth : ℕ) → Program answer → Program answer
  -- take a mark or a keyword
  want : TokenKind → Program answer → Program answer
  -- go one way where the next token is a mark or a keyword, else the other
  choose : TokenKind → (yes no : Program answer) → Program answer
  call : {inner : Phrase} → Goal inner → (Meant inner → Program answer) → Program answer

-- go on as another goal
abbrev pub become : {answer : Phrase} → Goal answer → Program answer
become goal = call goal (λ meant. give meant)

abbrev pub statement_on : ℕ → Start → Program statement_phrase
statement_on depth Start.If = become (if_of depth)
statement_on depth Start.While = become (while_of depth)
statement_on depth Start.Do = become (do_of depth)
statement_on depth Start.For = become (for_of depth)
statement_on depth Start.Repeat = become (repeat_of depth)
statement_on depth Start.Function = become (function_of depth)
statement_on depth Start.Local = become (local_of depth)
statement_on depth Start.Return = become (return_of depth)
statement_on depth Start.Break = become (break_of depth)
statement_on depth Start.Expression = become (expression_statement depth)

abbrev pub name_on : Option Text → Program name_phrase
name_on (Some name) = skip 0 (give name)
name_on None = stop

-- the text of a call's argument
abbrev pub text_on : ℕ → Option Text → Program arguments_phrase
text_on needed (Some text) = skip needed (give (text_argument text))
text_on needed None = stop

-- an operand behind a unary operator, else a simple one
abbrev pub whole_on : ℕ → ℕ → ℕ → Option UnaryOp → Program expression_phrase
whole_on depth limit line (Some op) = skip (depth + 2) (call (whole (depth + 1) 8) (λ e. become (climb depth limit line (unary_expression line op e))))
whole_on depth limit line None = call (simple depth) (λ e. become (climb depth limit line e))

abbrev pub climb_on : ℕ → ℕ → ℕ → Expression → ℕ → Option Infix → Program expression_phrase
climb_on depth limit start left line None = give left
climb_on depth limit start left line (Some op) =
    if nat_lt limit (left_power op)
    then skip (depth + 1 + depth_of_expression left) (call (whole (depth + 1) (right_power op)) (λ right. become (climb depth limit start (infix_expression start line op left right))))
    else give left

abbrev pub simple_on : ℕ → Option Expression → Program expression_phrase
simple_on depth (Some e) = skip (depth + 1) (give e)
simple_on depth None = choose TokenKind.Function (become (function_value depth)) (choose TokenKind.OpenBrace (become (table_of depth)) (become (prefix depth Role.Operand)))

abbrev pub prefix_on : ℕ → Role → Option Text → ℕ → Program expression_phrase
prefix_on depth role (Some name) line = skip (depth + 1) (become (suffix depth role (name_expression line name)))
prefix_on depth role None line = choose TokenKind.OpenParen (call (paren_of depth role) (λ e. become (suffix depth role e))) stop

abbrev pub suffix_on : ℕ → Role → Expression → Suffix → Program expression_phrase
suffix_on depth role on Suffix.Field = call (field_of depth on) (λ e. become (suffix depth role e))
suffix_on depth role on Suffix.Index = call (index_of depth on) (λ e. become (suffix depth role e))
suffix_on depth role on Suffix.Method = call (method_of depth role on) (λ e. become (suffix depth role e))
suffix_on depth role on Suffix.Call = call (call_of depth role on) (λ e. become (suffix depth role e))
suffix_on depth role on Suffix.Missing = give on

abbrev pub add_field : Field → Separator → Fields → Fields
add_field (positional_field e) mark rest = positional e mark rest
add_field (named_field name e) mark rest = named name e mark rest
add_field (keyed_field key e) mark rest = keyed key e mark rest

-- items follow only a separator
abbrev pub fields_after : ℕ → Field → Separator → Program fields_phrase
fields_after depth item Separator.Missing = give (add_field item Separator.Missing no_fields)
fields_after depth item mark = call (fields depth) (λ rest. give (add_field item mark rest))

abbrev pub field_on : ℕ → Option Text → ℕ → Program field_phrase
field_on depth (Some name) line = skip (depth + 1) (become (named_of depth line name))
field_on depth None line = choose TokenKind.OpenBracket (become (keyed_of depth)) (call (whole depth 0) (λ e. give (positional_field e)))

abbrev pub main_on : Statements → Option TokenKind → Program block_phrase
main_on inside None = give inside
main_on inside kind = stop

-- what reads a goal
abbrev pub reads : {answer : Phrase} → Goal answer → Program answer
reads main_chunk = call (block 0) (λ inside. look (λ before kind line. main_on inside kind))
reads (block depth) = look (λ before kind line.
    if is_block_end kind then give no_statements
    else call (one_statement (depth + 1)) (λ s. call semicolon (λ semi.
    if ends_block s then give (statement line semi s no_statements)
    else call (block depth) (λ rest. give (statement line semi s rest)))))
reads semicolon = choose TokenKind.Semicolon (skip 0 (give true)) (give false)
reads (one_statement depth) = look (λ before kind line. statement_on depth (start_of kind))
reads (if_of depth) =
    skip (depth + 1) (call (whole depth 0) (λ cond. want TokenKind.Then (call (block depth) (λ inside. call (branches depth) (λ left. want TokenKind.End (give (if_statement (branch cond inside left.branches) left.last)))))))
reads (while_of depth) = skip (depth + 1) (call (whole depth 0) (λ cond. want TokenKind.Do (call (block depth) (λ inside. want TokenKind.End (give (while_loop cond inside))))))
reads (do_of depth) = skip depth (call (block depth) (λ inside. want TokenKind.End (give (do_block inside))))
reads (for_of depth) = skip (depth + 1) (call one_name (λ name. choose TokenKind.Equal (become (numeric_of depth name)) (become (generic_of depth name))))
reads (numeric_of depth name) =
    skip (depth + 1) (call (whole depth 0) (λ first. want TokenKind.Comma (call (whole depth 0) (λ last. call (step depth) (λ by. want TokenKind.Do (call (block depth) (λ inside. want TokenKind.End (give (numeric_for name first last by inside)))))))))
reads (generic_of depth name) =
    call (more_names_by TokenKind.Comma) (λ names. choose TokenKind.In
    (skip (depth + 1) (call (expressions_at depth) (λ es. want TokenKind.Do (call (block depth) (λ inside. want TokenKind.End (give (generic_for (name ∷ names) es inside)))))))
    stop)
reads (repeat_of depth) = skip (depth + 1) (call (block depth) (λ inside. want TokenKind.Until (call (whole depth 0) (λ cond. give (repeat_loop inside cond)))))
reads (function_of depth) = look (λ before kind line.
    skip (depth + 1) (call one_name (λ name. call (more_names_by TokenKind.Dot) (λ names. call method_name (λ method. call (body (depth + 1) line) (λ b. give (function_statement (name ∷ names) method b)))))))
reads (local_of depth) = skip depth (choose TokenKind.Function (become (local_function_of depth)) (become (local_names_of depth)))
reads (local_function_of depth) = look (λ before kind line. skip (depth + 1) (call one_name (λ name. call (body (depth + 1) line) (λ b. give (local_function name b)))))
reads (local_names_of depth) = call one_name (λ name. call (more_names_by TokenKind.Comma) (λ names. call (values depth) (λ es. give (local_statement (name ∷ names) es))))
reads (return_of depth) = skip depth (call (results depth) (λ es. give (return_statement es)))
reads (break_of depth) = skip depth (give break_statement)
reads (expression_statement depth) = call (prefix depth Role.Statement) (λ e.
    if is_call e then give (call_statement e)
    else call (targets depth e) (λ lefts. want TokenKind.Equal (call (expressions_at depth) (λ rights. give (assignment lefts rights)))))
reads (branches depth) =
    choose TokenKind.Elseif
    (skip (depth + 1) (call (whole depth 0) (λ cond. want TokenKind.Then (call (block depth) (λ inside. call (branches depth) (λ left. give (record { branches = branch cond inside left.branches; last = left.last })))))))
    (choose TokenKind.Else
    (skip 0 (call (block depth) (λ inside. give (record { branches = no_branches; last = otherwise inside }))))
    (give (record { branches = no_branches; last = no_otherwise })))
reads (step depth) = choose TokenKind.Comma (skip (depth + 1) (call (whole depth 0) (λ e. give (by_step e)))) (give no_step)
reads method_name = choose TokenKind.Colon (skip 0 (call one_name (λ name. give (Some name)))) (give None)
reads (values depth) = choose TokenKind.Equal (skip (depth + 1) (call (expressions_at depth) (λ es. give es))) (give no_expressions)
reads (results depth) = choose TokenKind.Semicolon (give no_expressions) (look (λ before kind line. if is_block_end kind then give no_expressions else become (expressions_at depth)))
reads (targets depth e) =
    if is_target e
    then choose TokenKind.Comma
    (skip (depth + 1) (call (prefix depth Role.Target) (λ next. call (targets depth next) (λ rest. give (expression e rest)))))
    (choose TokenKind.Equal (give (expression e no_expressions)) stop)
    else stop
reads (body depth first) =
    want TokenKind.OpenParen (call parameters (λ params. want TokenKind.CloseParen (call (block depth) (λ inside. want TokenKind.End (look (λ last kind line. give (function_body params.names params.vararg inside first last)))))))
reads parameters = choose TokenKind.CloseParen (give (record { names = []; vararg = false })) (become first_parameter)
reads first_parameter =
    choose TokenKind.DotDotDot
    (skip 0 (give (record { names = []; vararg = true })))
    (call one_name (λ name. call more_parameters (λ more. give (record { names = name ∷ more.names; vararg = more.vararg }))))
reads more_parameters =
    choose TokenKind.Comma
    (skip 0 (call first_parameter (λ more. give more)))
    (give (record { names = []; vararg = false }))
reads one_name = look (λ before kind line. name_on (name_of kind))
reads (more_names_by mark) = choose mark (skip 0 (call one_name (λ name. call (more_names_by mark) (λ names. give (name ∷ names))))) (give [])
reads (expressions_at depth) = call (whole depth 0) (λ e. call (more_expressions_at depth) (λ rest. give (expression e rest)))
reads (more_expressions_at depth) =
    choose TokenKind.Comma (skip (depth + 1) (call (whole depth 0) (λ e. call (more_expressions_at depth) (λ rest. give (expression e rest))))) (give no_expressions)
reads (whole depth limit) = look (λ before kind line. whole_on depth limit line (unary_of kind))
reads (climb depth limit start left) = look (λ before kind line. climb_on depth limit start left line (infix_of kind))
reads (simple depth) = look (λ before kind line. simple_on depth (literal_of line kind))
reads (function_value depth) = look (λ before kind line. skip (depth + 1) (call (body (depth + 1) line) (λ b. give (function_expression line b))))
reads (table_of depth) = look (λ before kind line. skip (depth + 1) (call (fields (depth + 1)) (λ items. want TokenKind.CloseBrace (give (constructor line items)))))
reads (paren_of depth role) = look (λ before kind line.
    skip (depth + paren_spare role + 2) (call (whole (depth + paren_spare role + 1) 0) (λ e. want TokenKind.CloseParen (give (parenthesized line e)))))
reads (prefix depth role) = look (λ before kind line. prefix_on depth role (name_of kind) line)
reads (suffix depth role on) = look (λ before kind line. suffix_on depth role on (suffix_of kind))
reads (field_of depth on) = look (λ before kind line. skip (depth + 1 + depth_of_expression on) (call one_name (λ name. give (field_expression line on name))))
reads (index_of depth on) = look (λ before kind line.
    skip (depth + 1 + depth_of_expression on) (call (whole (depth + 1) 0) (λ key. want TokenKind.CloseBracket (give (index_expression line on key)))))
reads (method_of depth role on) =
    skip (depth + call_spare role + 1 + depth_of_expression on) (call one_name (λ name. look (λ on_line kind line.
    call (arguments (depth + call_spare role + 1) 0) (λ args. give (method_call line on name args on_line)))))
reads (call_of depth role on) = look (λ before kind line.
    call (arguments (depth + call_spare role + 1) (depth + call_spare role + 1 + depth_of_expression on)) (λ args. give (call_expression line on args before)))
-- a `(` stands on the line of the token before
reads (arguments depth needed) =
    choose TokenKind.OpenParen
    (look (λ before kind line. if before == line then skip needed (call (listed depth) (λ es. want TokenKind.CloseParen (give (argument_list es)))) else stop))
    (choose TokenKind.OpenBrace
    (skip needed (call (fields depth) (λ items. want TokenKind.CloseBrace (give (table_argument items)))))
    (look (λ before kind line. text_on needed (text_of kind))))
reads (listed depth) = choose TokenKind.CloseParen (give no_expressions) (become (expressions_at depth))
reads (fields depth) = choose TokenKind.CloseBrace (give no_fields) (call (one_field depth) (λ item. call separator (λ mark. fields_after depth item mark)))
reads (one_field depth) = look (λ before kind line. field_on depth (name_of kind) line)
reads (keyed_of depth) = skip (depth + 1) (call (whole depth 0) (λ key. want TokenKind.CloseBracket (want TokenKind.Equal (call (whole depth 0) (λ e. give (keyed_field key e))))))
reads (named_of depth start name) =
    choose TokenKind.Equal
    (skip (depth + 1) (call (whole depth 0) (λ e. give (named_field name e))))
    (call (suffix depth Role.Operand (name_expression start name)) (λ e. call (climb depth 0 start e) (λ more. give (positional_field more))))
reads separator = choose TokenKind.Comma (skip 0 (give Separator.Comma)) (choose TokenKind.Semicolon (skip 0 (give Separator.Semicolon)) (give Separator.Missing))
