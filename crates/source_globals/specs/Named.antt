-- To be believed. How often a source gets and sets each global, by its mentions of names (manual 2.3, 2.4.3 and 2.5.9), and that its chunk does it
-- as often.
use Rattle.std.specs.Prelude.{◌≡◌, ℕ, ◌+◌, Bool, true, false, not, ◌&&◌, List, [], ◌∷◌, ◌++◌, Option, Some, None, is_some, if◌then◌else◌}
use Rattle.std.specs.Str.{bytes_eq}
use Rattle.lua_num.specs.Bytes.{Text}
use Rattle.lua_tree.specs.Syntax as syntax
use Rattle.lua_tree.specs.Syntax.{Statements, no_statements, Statement, assignment, call_statement, do_block, while_loop, repeat_loop, if_statement, numeric_for, generic_for, function_statement, local_function, local_statement, return_statement, break_statement, Branches, no_branches, branch, Otherwise, no_otherwise, otherwise, ForStep, no_step, by_step, FunctionBody, function_body, Expressions, no_expressions, Expression, nil_literal, true_literal, false_literal, vararg_expression, number_literal, text_literal, name_expression, function_expression, index_expression, field_expression, call_expression, method_call, and_expression, or_expression, binary_expression, unary_expression, constructor, parenthesized, Arguments, argument_list, text_argument, table_argument, Fields, no_fields, positional, named, keyed, Source}
use Rattle.lua_tree.specs.Outline.{Binding, Mark, mention, outline}
use Rattle.scheme.specs.Accepts.{Accepts}
use Rattle.scheme.specs.Scheme.{scheme}
use Rattle.global_use.specs.Uses.{gets, sets}

-- what a mention does with what its name means
pub data Role : Type 0 where
  gets_it : Role
  sets_it : Role

abbrev pub is_role : Role → Role → Bool
is_role gets_it gets_it = true
is_role sets_it sets_it = true
is_role one other = false

-- a name that is itself a target sets; what stands in another target gets
abbrev pub as_target : Expression → List Role → List Role
as_target (name_expression line name) roles = sets_it ∷ []
as_target e roles = roles

-- a function statement sets the name that is its whole path, and else gets the first name of its path
abbrev pub path_roles : List Text → (method : Option Text) → List Role
path_roles [] method = []
path_roles (name ∷ []) None = sets_it ∷ []
path_roles (name ∷ fields) method = gets_it ∷ []

-- the role of each mention, in the order of the spelling
abbrev mutual
  pub statements_roles : Statements → List Role
  statements_roles no_statements = []
  statements_roles (syntax.statement line semi s rest) = statement_roles s ++ statements_roles rest

  pub statement_roles : Statement → List Role
  statement_roles (assignment targets es) = targets_roles targets ++ expressions_roles es
  statement_roles (call_statement e) = expression_roles e
  statement_roles (do_block block) = statements_roles block
  statement_roles (while_loop test block) = expression_roles test ++ statements_roles block
  statement_roles (repeat_loop block test) = statements_roles block ++ expression_roles test
  statement_roles (if_statement branches last) = branches_roles branches ++ otherwise_roles last
  statement_roles (numeric_for name first last step block) =
      (expression_roles first ++ (expression_roles last ++ step_roles step)) ++ statements_roles block
  statement_roles (generic_for names es block) = expressions_roles es ++ statements_roles block
  statement_roles (function_statement path method body) = path_roles path method ++ body_roles body
  statement_roles (local_function name body) = body_roles body
  statement_roles (local_statement names es) = expressions_roles es
  statement_roles (return_statement es) = expressions_roles es
  statement_roles break_statement = []

  pub branches_roles : Branches → List Role
  branches_roles no_branches = []
  branches_roles (branch test block rest) = expression_roles test ++ (statements_roles block ++ branches_roles rest)

  pub otherwise_roles : Otherwise → List Role
  otherwise_roles no_otherwise = []
  otherwise_roles (otherwise block) = statements_roles block

  pub step_roles : ForStep → List Role
  step_roles no_step = []
  step_roles (by_step e) = expression_roles e

  pub body_roles : FunctionBody → List Role
  body_roles (function_body params vararg block first last) = statements_roles block

  pub targets_roles : Expressions → List Role
  targets_roles no_expressions = []
  targets_roles (syntax.expression e rest) = as_target e (expression_roles e) ++ targets_roles rest

  pub expressions_roles : Expressions → List Role
  expressions_roles no_expressions = []
  expressions_roles (syntax.expression e rest) = expression_roles e ++ expressions_roles rest

  pub expression_roles : Expression → List Role
  expression_roles (nil_literal line) = []
  expression_roles (true_literal line) = []
  expression_roles (false_literal line) = []
  expression_roles (vararg_expression line) = []
  expression_roles (number_literal line n) = []
  expression_roles (text_literal line text) = []
  expression_roles (name_expression line name) = gets_it ∷ []
  expression_roles (function_expression line body) = body_roles body
  expression_roles (index_expression line on key) = expression_roles on ++ expression_roles key
  expression_roles (field_expression line on name) = expression_roles on
  expression_roles (call_expression line on args on_line) = expression_roles on ++ arguments_roles args
  expression_roles (method_call line on name args on_line) = expression_roles on ++ arguments_roles args
  expression_roles (and_expression line left right) = expression_roles left ++ expression_roles right
  expression_roles (or_expression line left right) = expression_roles left ++ expression_roles right
  expression_roles (binary_expression line op left right) = expression_roles left ++ expression_roles right
  expression_roles (unary_expression line op e) = expression_roles e
  expression_roles (constructor line fields) = fields_roles fields
  expression_roles (parenthesized line e) = expression_roles e

  pub arguments_roles : Arguments → List Role
  arguments_roles (argument_list es) = expressions_roles es
  arguments_roles (text_argument text) = []
  arguments_roles (table_argument fields) = fields_roles fields

  pub fields_roles : Fields → List Role
  fields_roles no_fields = []
  fields_roles (positional e separator rest) = expression_roles e ++ fields_roles rest
  fields_roles (named name e separator rest) = expression_roles e ++ fields_roles rest
  fields_roles (keyed key e separator rest) = (expression_roles key ++ expression_roles e) ++ fields_roles rest

abbrev pub source_roles : Source → List Role
source_roles source = statements_roles source.body

-- the names that marks mention, with what they mean
abbrev pub mentions_among : List Mark → List (Text × Option Binding)
mentions_among [] = []
mentions_among (mention line name means around ∷ marks) = (name, means) ∷ mentions_among marks
mentions_among (mark ∷ marks) = mentions_among marks

-- whether a mention of a name in a role is one of this role and name; what means nothing is a global
abbrev pub is_so : Role → Text → Role → (Text × Option Binding) → Bool
is_so role name r m = is_role role r && (bytes_eq name m.0 && not (is_some m.1))

-- how many mentions are, of which the roles and the names with what they mean are given side by side
abbrev pub named_so : Role → Text → List Role → List (Text × Option Binding) → ℕ
named_so role name [] mentions = 0
named_so role name (r ∷ roles) [] = 0
named_so role name (r ∷ roles) (m ∷ mentions) = (if is_so role name r m then 1 else 0) + named_so role name roles mentions

-- how many mentions get a global, and how many set it
abbrev pub source_gets : Source → Text → ℕ
source_gets source name = named_so gets_it name (source_roles source) (mentions_among (outline source))

abbrev pub source_sets : Source → Text → ℕ
source_sets source name = named_so sets_it name (source_roles source) (mentions_among (outline source))

-- The chunk of an accepted source gets and sets each global as often as the source does.
abbrev pub GlobalsOfSource : Type 0
GlobalsOfSource =
    (bytes : List ℕ) (source : Source) (source_name : Text) → Accepts bytes source → (name : Text) →
    (gets (scheme source source_name) name ≡ source_gets source name) × (sets (scheme source source_name) name ≡ source_sets source name)
