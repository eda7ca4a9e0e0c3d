-- To be believed. What a source declares and mentions, in the order of its spelling, and what is in scope at each place
-- (manual 2.3, 2.4.7, 2.5.9 and 2.6).
use Rattle.std.specs.Prelude.{ℕ, zero, suc, ◌+◌, Bool, true, false, List, [], ◌∷◌, ◌++◌, length, Option, Some, None, codes, is_some, if◌then◌else◌}
use Rattle.std.specs.Str.{bytes_eq}
use Rattle.lua_tree.specs.Syntax as syntax
use Rattle.lua_tree.specs.Syntax.{Statements, no_statements, Statement, assignment, call_statement, do_block, while_loop, repeat_loop, if_statement, numeric_for, generic_for, function_statement, local_function, local_statement, return_statement, break_statement, Branches, no_branches, branch, Otherwise, no_otherwise, otherwise, ForStep, no_step, by_step, FunctionBody, function_body, Expressions, no_expressions, Expression, nil_literal, true_literal, false_literal, vararg_expression, number_literal, text_literal, name_expression, function_expression, index_expression, field_expression, call_expression, method_call, and_expression, or_expression, binary_expression, unary_expression, constructor, parenthesized, Arguments, argument_list, text_argument, table_argument, Fields, no_fields, positional, named, keyed, Source}
use Rattle.lua_num.specs.Bytes.{Text}

-- a declaration by its number, and the number of the function in which it stands
pub record Binding : Type 0 where
  pub declaration : ℕ
  pub home : ℕ

abbrev pub Scope : Type 0
Scope = Text → Option Binding

-- a place in a source
pub record Place : Type 0 where
  -- what each name means there; a name that means nothing is a global
  pub scope : Scope
  -- the functions around it by their numbers, the innermost first; the main chunk is 0
  pub around : List ℕ
  -- whether the innermost takes extra arguments, whether a loop of it is around, and how many of its locals are active
  pub vararg : Bool
  pub looped : Bool
  pub active : ℕ
  -- how many declarations and functions stand before
  pub declarations : ℕ
  pub functions : ℕ

-- what stands in a source: a name that is mentioned, with what it means and the functions around it; a name or a hidden
-- local that is declared, with the number of active locals that this reaches; `...`; a break; a function, with the one around it
pub data Mark : Type 0 where
  mention : (line : ℕ) → Text → Option Binding → (around : List ℕ) → Mark
  local_name hidden_local : (line reached : ℕ) → Mark
  dots : (line : ℕ) → (vararg : Bool) → Mark
  leave : (line : ℕ) → (looped : Bool) → Mark
  opened : (outer : ℕ) → Mark

-- what stands in a part of a source, and the place behind it
pub record Walk : Type 0 where
  pub marks : List Mark
  pub next : Place

-- a part of a source, by the place before it
abbrev pub Part : Type 0
Part = Place → Walk

abbrev pub nothing : Part
nothing place = record { marks = []; next = place }

-- one part, and another behind it
abbrev pub both : Part → Part → Part
both one other place =
    let first = one place in
    let second = other first.next in
    record { marks = first.marks ++ second.marks; next = second.next }

-- a part that begins at another place, and whose scope ends with it
abbrev pub within : (Place → Place) → Part → Part
within enter part place =
    let inside = part (enter place) in
    let end = inside.next in
    record { marks = inside.marks; next = record place { declarations = end.declarations; functions = end.functions } }

-- the scope of a block begins as it is around
abbrev pub stay : Place → Place
stay place = place

-- the innermost function
abbrev pub innermost : List ℕ → ℕ
innermost [] = 0
innermost (function ∷ others) = function

-- a name means its latest declaration
abbrev pub with_name : Text → Binding → Scope → Scope
with_name name binding scope other = if bytes_eq name other then Some binding else scope other

-- names that are declared one after another, by the number of the first
abbrev pub with_names : List Text → (number home : ℕ) → Scope → Scope
with_names [] number home scope = scope
with_names (name ∷ names) number home scope = with_names names (suc number) home (with_name name (record { declaration = number; home = home }) scope)

-- locals come into scope: hidden ones, and names by the number of the first
abbrev pub with_locals : (hidden : ℕ) → List Text → (number : ℕ) → Place → Place
with_locals hidden names number place = record place {
  scope = with_names names number (innermost place.around) place.scope;
  active = place.active + hidden + length names;
}

abbrev pub come : (hidden : ℕ) → List Text → (number : ℕ) → Part
come hidden names number place = nothing (with_locals hidden names number place)

-- a loop is around
abbrev pub in_loop : Place → Place
in_loop place = record place { looped = true }

-- inside a function that is opened
abbrev pub in_function : Bool → Place → Place
in_function vararg place = record place {
  around = place.functions ∷ place.around;
  vararg = vararg;
  looped = false;
  active = 0;
  functions = suc place.functions;
}

-- so many marks, with one active local more each
abbrev pub reaching : (ℕ → Mark) → (active count : ℕ) → List Mark
reaching mark active zero = []
reaching mark active (suc count) = mark (suc active) ∷ reaching mark (suc active) count

-- hidden locals and names are declared, which are not yet in scope
abbrev pub declares : (line hidden : ℕ) → List Text → Part
declares line hidden names place = record {
  marks = reaching (hidden_local line) place.active hidden ++ reaching (local_name line) (place.active + hidden) (length names);
  next = record place { declarations = place.declarations + length names };
}

abbrev pub mentions : (line : ℕ) → Text → Part
mentions line name place = record { marks = mention line name (place.scope name) place.around ∷ []; next = place }

-- one mark, by its place
abbrev pub marked : (Place → Mark) → Part
marked mark place = record { marks = mark place ∷ []; next = place }

-- the first name of a function's path is mentioned, the others are fields
abbrev pub path_part : (line : ℕ) → List Text → Part
path_part line [] = nothing
path_part line (name ∷ fields) = mentions line name

-- a method has a first parameter `self`
abbrev pub all_params : (method : Bool) → List Text → List Text
all_params true params = codes "self" ∷ params
all_params false params = params

abbrev mutual
  -- a block's names are in scope behind their statement, up to the block's end
  pub statements_part : Statements → Part
  statements_part no_statements = nothing
  statements_part (syntax.statement line semi s rest) = both (statement_part line s) (statements_part rest)

  pub statement_part : (line : ℕ) → Statement → Part
  statement_part line (assignment targets es) = both (expressions_part targets) (expressions_part es)
  statement_part line (call_statement e) = expression_part e
  statement_part line (do_block block) = within stay (statements_part block)
  statement_part line (while_loop cond block) = both (expression_part cond) (within in_loop (statements_part block))
  -- the condition sees the locals of the block
  statement_part line (repeat_loop block cond) = within in_loop (both (statements_part block) (expression_part cond))
  statement_part line (if_statement branches last) = both (branches_part branches) (otherwise_part last)
  -- the three hidden locals and the variables of a loop are in scope in its block alone
  statement_part line (numeric_for name first last step block) = λ place.
      both (declares line 3 (name ∷ []))
      (both (both (expression_part first) (both (expression_part last) (step_part step)))
      (within (λ inside. in_loop (with_locals 3 (name ∷ []) place.declarations inside)) (statements_part block))) place
  statement_part line (generic_for names es block) = λ place.
      both (declares line 3 names)
      (both (expressions_part es)
      (within (λ inside. in_loop (with_locals 3 names place.declarations inside)) (statements_part block))) place
  statement_part line (function_statement path method body) = both (path_part line path) (body_part (is_some method) body)
  -- the function's name is in scope in its own body
  statement_part line (local_function name body) = λ place.
      both (declares line 0 (name ∷ [])) (both (come 0 (name ∷ []) place.declarations) (body_part false body)) place
  -- the names are not in scope in the values
  statement_part line (local_statement names es) = λ place.
      both (declares line 0 names) (both (expressions_part es) (come 0 names place.declarations)) place
  statement_part line (return_statement es) = expressions_part es
  statement_part line break_statement = marked (λ place. leave line place.looped)

  pub branches_part : Branches → Part
  branches_part no_branches = nothing
  branches_part (branch cond block rest) = both (expression_part cond) (both (within stay (statements_part block)) (branches_part rest))

  pub otherwise_part : Otherwise → Part
  otherwise_part no_otherwise = nothing
  otherwise_part (otherwise block) = within stay (statements_part block)

  pub step_part : ForStep → Part
  step_part no_step = nothing
  step_part (by_step e) = expression_part e

  -- a function's parameters are in scope in its block
  pub body_part : (method : Bool) → FunctionBody → Part
  body_part method (function_body params vararg block first last) =
      both (marked (λ place. opened (innermost place.around)))
      (within (in_function vararg) (λ place.
      both (declares first 0 (all_params method params))
      (both (come 0 (all_params method params) place.declarations) (statements_part block)) place))

  pub expressions_part : Expressions → Part
  expressions_part no_expressions = nothing
  expressions_part (syntax.expression e rest) = both (expression_part e) (expressions_part rest)

  pub expression_part : Expression → Part
  expression_part (nil_literal line) = nothing
  expression_part (true_literal line) = nothing
  expression_part (false_literal line) = nothing
  expression_part (vararg_expression line) = marked (λ place. dots line place.vararg)
  expression_part (number_literal line n) = nothing
  expression_part (text_literal line text) = nothing
  expression_part (name_expression line name) = mentions line name
  expression_part (function_expression line body) = body_part false body
  expression_part (index_expression line on key) = both (expression_part on) (expression_part key)
  expression_part (field_expression line on name) = expression_part on
  expression_part (call_expression line on args on_line) = both (expression_part on) (arguments_part args)
  expression_part (method_call line on name args on_line) = both (expression_part on) (arguments_part args)
  expression_part (and_expression line left right) = both (expression_part left) (expression_part right)
  expression_part (or_expression line left right) = both (expression_part left) (expression_part right)
  expression_part (binary_expression line op left right) = both (expression_part left) (expression_part right)
  expression_part (unary_expression line op of) = expression_part of
  expression_part (constructor line fields) = fields_part fields
  expression_part (parenthesized line e) = expression_part e

  pub arguments_part : Arguments → Part
  arguments_part (argument_list es) = expressions_part es
  arguments_part (text_argument text) = nothing
  arguments_part (table_argument fields) = fields_part fields

  pub fields_part : Fields → Part
  fields_part no_fields = nothing
  fields_part (positional e separator rest) = both (expression_part e) (fields_part rest)
  fields_part (named name e separator rest) = both (expression_part e) (fields_part rest)
  fields_part (keyed key e separator rest) = both (both (expression_part key) (expression_part e)) (fields_part rest)

-- the main chunk is a vararg function, and no name is in scope at its beginning
abbrev pub beginning : Place
beginning = record { scope = λ name. None; around = 0 ∷ []; vararg = true; looped = false; active = 0; declarations = 0; functions = 1 }

-- what stands in a source
abbrev pub outline : Source → List Mark
outline source = let walk = statements_part source.body beginning in walk.marks
