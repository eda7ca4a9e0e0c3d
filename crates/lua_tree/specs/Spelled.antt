-- To be believed. Which tokens spell a source, with their lines: the grammar (manual 8), phrase by phrase.
use Rattle.std.specs.Prelude.{◌≡◌, ℕ, Bool, true, false, List, [], ◌∷◌, Option, Some, None}
use Rattle.lua_tree.specs.Syntax.{Statements, no_statements, statement, Statement, assignment, call_statement, do_block, while_loop, repeat_loop, if_statement, numeric_for, generic_for, function_statement, local_function, local_statement, return_statement, break_statement, Branches, no_branches, branch, Otherwise, no_otherwise, otherwise, ForStep, no_step, by_step, FunctionBody, function_body, Expressions, no_expressions, expression, Expression, nil_literal, true_literal, false_literal, vararg_expression, number_literal, text_literal, name_expression, function_expression, index_expression, field_expression, call_expression, method_call, and_expression, or_expression, binary_expression, unary_expression, constructor, parenthesized, Arguments, argument_list, text_argument, table_argument, Fields, no_fields, positional, named, keyed, Source}
use Rattle.lua_num.specs.Bytes.{Text}
use Rattle.lua_tree.specs.Spelling.{spell_op, spell_unary}
use Rattle.lua_tree.specs.declared.token.TokenKind.{TokenKind}
use Rattle.lua_tree.specs.declared.token.Token.{Token}
use Rattle.lua_tree.specs.declared.tree.Separator.{Separator}

-- the phrases of the grammar
pub data Phrase : Type 0 where
  block_phrase statement_phrase branches_phrase step_phrase body_phrase parameters_phrase more_parameters_phrase method_phrase values_phrase expressions_phrase more_expressions_phrase expression_phrase arguments_phrase fields_phrase field_phrase semicolon_phrase separator_phrase name_phrase : Phrase
  names_phrase more_names_phrase : (mark : TokenKind) → Phrase
  mark_phrase : (mark : TokenKind) → Phrase

-- the branches of an `if` that are left, and its last block
pub record BranchesLeft : Type 0 where
  pub branches : Branches
  pub last : Otherwise

-- the names of parameters, and whether `...` follows them
pub record Parameters : Type 0 where
  pub names : List Text
  pub vararg : Bool

-- an item of a constructor
pub data Field : Type 0 where
  positional_field : Expression → Field
  named_field : Text → Expression → Field
  keyed_field : (key value : Expression) → Field

-- what a phrase says
abbrev pub Meant : Phrase → Type 0
Meant block_phrase = Statements
Meant statement_phrase = Statement
Meant branches_phrase = BranchesLeft
Meant step_phrase = ForStep
Meant body_phrase = FunctionBody
Meant parameters_phrase = Parameters
Meant more_parameters_phrase = Parameters
Meant method_phrase = Option Text
Meant values_phrase = Expressions
Meant expressions_phrase = Expressions
Meant more_expressions_phrase = Expressions
Meant expression_phrase = Expression
Meant arguments_phrase = Arguments
Meant fields_phrase = Fields
Meant field_phrase = Field
Meant semicolon_phrase = Bool
Meant separator_phrase = Separator
Meant name_phrase = Text
Meant (names_phrase mark) = List Text
Meant (more_names_phrase mark) = List Text
Meant (mark_phrase mark) = Unit {0}

-- a part of a phrase: a token, a token on a line, the line of the next token or of the token before, or a phrase
pub data Part : Type 0 where
  word : TokenKind → Part
  word_on : (line : ℕ) → TokenKind → Part
  from_line to_line : (line : ℕ) → Part
  of : (phrase : Phrase) → Meant phrase → Part

-- the line of a body's `function`
abbrev pub first_line_of : FunctionBody → ℕ
first_line_of (function_body params vararg block first last) = first

abbrev pub statement_parts : Statement → List Part
statement_parts (assignment targets es) = of expressions_phrase targets ∷ word TokenKind.Equal ∷ of expressions_phrase es ∷ []
statement_parts (call_statement e) = of expression_phrase e ∷ []
statement_parts (do_block block) = word TokenKind.Do ∷ of block_phrase block ∷ word TokenKind.End ∷ []
statement_parts (while_loop cond block) = word TokenKind.While ∷ of expression_phrase cond ∷ word TokenKind.Do ∷ of block_phrase block ∷ word TokenKind.End ∷ []
statement_parts (repeat_loop block cond) = word TokenKind.Repeat ∷ of block_phrase block ∷ word TokenKind.Until ∷ of expression_phrase cond ∷ []
statement_parts (if_statement no_branches last) = of branches_phrase (record { branches = no_branches; last = last }) ∷ word TokenKind.End ∷ []
statement_parts (if_statement (branch cond block rest) last) =
    word TokenKind.If ∷ of expression_phrase cond ∷ word TokenKind.Then ∷ of block_phrase block ∷ of branches_phrase (record { branches = rest; last = last }) ∷ word TokenKind.End ∷ []
statement_parts (numeric_for name first last step block) =
    word TokenKind.For ∷ word (TokenKind.Name name) ∷ word TokenKind.Equal ∷ of expression_phrase first ∷ word TokenKind.Comma ∷ of expression_phrase last ∷ of step_phrase step ∷ word TokenKind.Do ∷ of block_phrase block ∷ word TokenKind.End ∷ []
statement_parts (generic_for names es block) =
    word TokenKind.For ∷ of (names_phrase TokenKind.Comma) names ∷ word TokenKind.In ∷ of expressions_phrase es ∷ word TokenKind.Do ∷ of block_phrase block ∷ word TokenKind.End ∷ []
statement_parts (function_statement path method body) =
    word_on (first_line_of body) TokenKind.Function ∷ of (names_phrase TokenKind.Dot) path ∷ of method_phrase method ∷ of body_phrase body ∷ []
statement_parts (local_function name body) = word TokenKind.Local ∷ word_on (first_line_of body) TokenKind.Function ∷ word (TokenKind.Name name) ∷ of body_phrase body ∷ []
statement_parts (local_statement names es) = word TokenKind.Local ∷ of (names_phrase TokenKind.Comma) names ∷ of values_phrase es ∷ []
statement_parts (return_statement es) = word TokenKind.Return ∷ of expressions_phrase es ∷ []
statement_parts break_statement = word TokenKind.Break ∷ []

-- a binary expression has its operator's line, a call that of the first token of its arguments, an index and a field that of their mark, each other its first token's
abbrev pub expression_parts : Expression → List Part
expression_parts (nil_literal line) = word_on line TokenKind.Nil ∷ []
expression_parts (true_literal line) = word_on line TokenKind.True ∷ []
expression_parts (false_literal line) = word_on line TokenKind.False ∷ []
expression_parts (vararg_expression line) = word_on line TokenKind.DotDotDot ∷ []
expression_parts (number_literal line n) = word_on line (TokenKind.Number n) ∷ []
expression_parts (text_literal line text) = word_on line (TokenKind.Text text) ∷ []
expression_parts (name_expression line name) = word_on line (TokenKind.Name name) ∷ []
expression_parts (function_expression line body) = from_line line ∷ word_on (first_line_of body) TokenKind.Function ∷ of body_phrase body ∷ []
expression_parts (index_expression line on key) = of expression_phrase on ∷ word_on line TokenKind.OpenBracket ∷ of expression_phrase key ∷ word TokenKind.CloseBracket ∷ []
expression_parts (field_expression line on name) = of expression_phrase on ∷ word_on line TokenKind.Dot ∷ word (TokenKind.Name name) ∷ []
expression_parts (call_expression line on args on_line) = of expression_phrase on ∷ to_line on_line ∷ from_line line ∷ of arguments_phrase args ∷ []
expression_parts (method_call line on name args on_line) =
    of expression_phrase on ∷ word TokenKind.Colon ∷ word_on on_line (TokenKind.Name name) ∷ from_line line ∷ of arguments_phrase args ∷ []
expression_parts (and_expression line left right) = from_line line ∷ of expression_phrase left ∷ word TokenKind.And ∷ of expression_phrase right ∷ []
expression_parts (or_expression line left right) = from_line line ∷ of expression_phrase left ∷ word TokenKind.Or ∷ of expression_phrase right ∷ []
expression_parts (binary_expression line op left right) = of expression_phrase left ∷ word_on line (spell_op op) ∷ of expression_phrase right ∷ []
expression_parts (unary_expression line op right) = word_on line (spell_unary op) ∷ of expression_phrase right ∷ []
expression_parts (constructor line fields) = word_on line TokenKind.OpenBrace ∷ of fields_phrase fields ∷ word TokenKind.CloseBrace ∷ []
expression_parts (parenthesized line e) = word_on line TokenKind.OpenParen ∷ of expression_phrase e ∷ word TokenKind.CloseParen ∷ []

abbrev pub arguments_parts : Arguments → List Part
arguments_parts (argument_list es) = word TokenKind.OpenParen ∷ of expressions_phrase es ∷ word TokenKind.CloseParen ∷ []
arguments_parts (text_argument text) = word (TokenKind.Text text) ∷ []
arguments_parts (table_argument fields) = word TokenKind.OpenBrace ∷ of fields_phrase fields ∷ word TokenKind.CloseBrace ∷ []

abbrev pub field_parts : Field → List Part
field_parts (positional_field e) = of expression_phrase e ∷ []
field_parts (named_field name e) = word (TokenKind.Name name) ∷ word TokenKind.Equal ∷ of expression_phrase e ∷ []
field_parts (keyed_field key e) = word TokenKind.OpenBracket ∷ of expression_phrase key ∷ word TokenKind.CloseBracket ∷ word TokenKind.Equal ∷ of expression_phrase e ∷ []

abbrev pub fields_parts : Fields → List Part
fields_parts no_fields = []
fields_parts (positional e separator rest) = of field_phrase (positional_field e) ∷ of separator_phrase separator ∷ of fields_phrase rest ∷ []
fields_parts (named name e separator rest) = of field_phrase (named_field name e) ∷ of separator_phrase separator ∷ of fields_phrase rest ∷ []
fields_parts (keyed key e separator rest) = of field_phrase (keyed_field key e) ∷ of separator_phrase separator ∷ of fields_phrase rest ∷ []

abbrev pub branches_parts : Branches → Otherwise → List Part
branches_parts no_branches no_otherwise = []
branches_parts no_branches (otherwise block) = word TokenKind.Else ∷ of block_phrase block ∷ []
branches_parts (branch cond block rest) last =
    word TokenKind.Elseif ∷ of expression_phrase cond ∷ word TokenKind.Then ∷ of block_phrase block ∷ of branches_phrase (record { branches = rest; last = last }) ∷ []

abbrev pub more_parameters_parts : List Text → Bool → List Part
more_parameters_parts [] false = []
more_parameters_parts [] true = word TokenKind.Comma ∷ word TokenKind.DotDotDot ∷ []
more_parameters_parts (name ∷ names) vararg = word TokenKind.Comma ∷ word (TokenKind.Name name) ∷ of more_parameters_phrase (record { names = names; vararg = vararg }) ∷ []

abbrev pub parameters_parts : List Text → Bool → List Part
parameters_parts [] false = []
parameters_parts [] true = word TokenKind.DotDotDot ∷ []
parameters_parts (name ∷ names) vararg = word (TokenKind.Name name) ∷ of more_parameters_phrase (record { names = names; vararg = vararg }) ∷ []

abbrev pub names_parts : TokenKind → List Text → List Part
names_parts mark [] = []
names_parts mark (name ∷ names) = word (TokenKind.Name name) ∷ of (more_names_phrase mark) names ∷ []

abbrev pub more_names_parts : TokenKind → List Text → List Part
more_names_parts mark [] = []
more_names_parts mark (name ∷ names) = word mark ∷ word (TokenKind.Name name) ∷ of (more_names_phrase mark) names ∷ []

abbrev pub expressions_parts : Expressions → List Part
expressions_parts no_expressions = []
expressions_parts (expression e rest) = of expression_phrase e ∷ of more_expressions_phrase rest ∷ []

abbrev pub more_expressions_parts : Expressions → List Part
more_expressions_parts no_expressions = []
more_expressions_parts (expression e rest) = word TokenKind.Comma ∷ of expression_phrase e ∷ of more_expressions_phrase rest ∷ []

abbrev pub values_parts : Expressions → List Part
values_parts no_expressions = []
values_parts (expression e rest) = word TokenKind.Equal ∷ of expressions_phrase (expression e rest) ∷ []

abbrev pub semicolon_parts : Bool → List Part
semicolon_parts true = word TokenKind.Semicolon ∷ []
semicolon_parts false = []

abbrev pub separator_parts : Separator → List Part
separator_parts Separator.Comma = word TokenKind.Comma ∷ []
separator_parts Separator.Semicolon = word TokenKind.Semicolon ∷ []
separator_parts Separator.Missing = []

abbrev pub method_parts : Option Text → List Part
method_parts None = []
method_parts (Some name) = word TokenKind.Colon ∷ word (TokenKind.Name name) ∷ []

abbrev pub step_parts : ForStep → List Part
step_parts no_step = []
step_parts (by_step e) = word TokenKind.Comma ∷ of expression_phrase e ∷ []

-- the line of a body's `function` is that of the token, which stands before the body
abbrev pub body_parts : FunctionBody → List Part
body_parts (function_body params vararg block first last) =
    word TokenKind.OpenParen ∷ of parameters_phrase (record { names = params; vararg = vararg }) ∷ word TokenKind.CloseParen ∷ of block_phrase block ∷ word_on last TokenKind.End ∷ []

abbrev pub block_parts : Statements → List Part
block_parts no_statements = []
block_parts (statement line semi s rest) = from_line line ∷ of statement_phrase s ∷ of semicolon_phrase semi ∷ of block_phrase rest ∷ []

-- the parts of a phrase
abbrev pub parts : (phrase : Phrase) → Meant phrase → List Part
parts block_phrase block = block_parts block
parts statement_phrase s = statement_parts s
parts branches_phrase left = branches_parts left.branches left.last
parts step_phrase step = step_parts step
parts body_phrase body = body_parts body
parts parameters_phrase params = parameters_parts params.names params.vararg
parts more_parameters_phrase params = more_parameters_parts params.names params.vararg
parts method_phrase method = method_parts method
parts values_phrase es = values_parts es
parts expressions_phrase es = expressions_parts es
parts more_expressions_phrase es = more_expressions_parts es
parts expression_phrase e = expression_parts e
parts arguments_phrase args = arguments_parts args
parts fields_phrase fields = fields_parts fields
parts field_phrase field = field_parts field
parts semicolon_phrase semi = semicolon_parts semi
parts separator_phrase separator = separator_parts separator
parts name_phrase name = word (TokenKind.Name name) ∷ []
parts (names_phrase mark) names = names_parts mark names
parts (more_names_phrase mark) names = more_names_parts mark names
parts (mark_phrase mark) unit = word mark ∷ []

-- tokens behind one on a line begin with what spells the parts; the last of that stands on another line, and the rest is left
pub data Spelled : List Part → (line : ℕ) → List Token → (last : ℕ) → (rest : List Token) → Type 0 where
  no_part : {line : ℕ} {tokens : List Token} → Spelled [] line tokens line tokens
  by_word : {kind : TokenKind} {parts : List Part} {line last : ℕ} {token : Token} {tokens rest : List Token} →
      token.kind ≡ kind → Spelled parts token.line tokens last rest → Spelled (word kind ∷ parts) line (token ∷ tokens) last rest
  by_word_on : {kind : TokenKind} {on : ℕ} {parts : List Part} {line last : ℕ} {token : Token} {tokens rest : List Token} →
      token.kind ≡ kind → token.line ≡ on → Spelled parts token.line tokens last rest → Spelled (word_on on kind ∷ parts) line (token ∷ tokens) last rest
  by_next : {on : ℕ} {parts : List Part} {line last : ℕ} {token : Token} {tokens rest : List Token} →
      token.line ≡ on → Spelled parts line (token ∷ tokens) last rest → Spelled (from_line on ∷ parts) line (token ∷ tokens) last rest
  by_last : {on : ℕ} {parts : List Part} {line last : ℕ} {tokens rest : List Token} →
      line ≡ on → Spelled parts line tokens last rest → Spelled (to_line on ∷ parts) line tokens last rest
  by_phrase : {phrase : Phrase} {meant : Meant phrase} {others : List Part} {line between last : ℕ} {tokens middle rest : List Token} →
      Spelled (parts phrase meant) line tokens between middle → Spelled others between middle last rest → Spelled (of phrase meant ∷ others) line tokens last rest

-- the tokens of a source: the last line is that of the last token, or 1
abbrev pub SpellsSource : Source → List Token → Type 0
SpellsSource source tokens = Spelled (block_parts source.body) 1 tokens source.last_line []
