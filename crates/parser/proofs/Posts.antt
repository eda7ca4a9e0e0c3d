-- What holds of an answer, goal by goal; and of each end of a program, by what holds of its calls.
use Rattle.std.proofs.Common.{◌≡◌, ◌&&◌, ℕ, ◌+◌, ◌<◌, ◌≤◌, Bool, true, false, List, [], ◌∷◌, Option, Some, refl}
use Rattle.lua_tree.specs.Spelled.{Phrase, Meant, Field, positional_field, named_field, keyed_field, Parameters, BranchesLeft, Part, word, Spelled, no_part, by_word, first_line_of}
use Rattle.lua_tree.specs.Spelled.{expression_parts, statement_parts, arguments_parts, field_parts, fields_parts, branches_parts, parameters_parts, more_parameters_parts, more_names_parts, expressions_parts, more_expressions_parts, values_parts, semicolon_parts, separator_parts, method_parts, step_parts, body_parts, block_parts}
use Rattle.lua_tree.specs.Syntax.{Statements, Statement, ForStep, FunctionBody, Expressions, Expression, Arguments, Fields}
use Rattle.lua_num.specs.Bytes.{Text}
use Rattle.lua_tree.specs.WellFormed.{is_prefix, are_targets, has_expressions, is_optional_name, on_its_line, takes_arguments, last_takes_arguments, statement_takes_arguments, formed_statements, formed_statement, formed_branches, formed_otherwise, formed_step, formed_body, formed_expressions, formed_expression, formed_arguments, formed_fields, depth_of_statements, depth_of_statement, depth_of_branches, depth_of_otherwise, depth_of_step, depth_of_body, depth_of_expressions, depth_of_expression, depth_of_arguments, depth_of_fields}
use Rattle.lua_tree.specs.Names.{is_name, are_names}
use Rattle.lua_tree.specs.Precedence.{level_of_op, is_right_associative, level_of, is_unary, left_binds}
use Rattle.lua_tree.specs.declared.token.Token.{Token}
use Rattle.lua_tree.specs.declared.token.TokenKind.{TokenKind}
use Rattle.parser.specs.Classes.{Suffix, suffix_of}
use Rattle.parser.specs.Operators.{Infix, infix_of, left_power}
use Rattle.parser.specs.Program.{Goal, main_chunk, block, semicolon, one_statement, if_of, while_of, do_of, for_of, repeat_of, function_of, local_of, return_of, break_of, numeric_of, generic_of, local_function_of, local_names_of, expression_statement, branches, step, method_name, values, results, targets, body, parameters, first_parameter, more_parameters, one_name, more_names_by, expressions_at, more_expressions_at, whole, climb, simple, prefix, suffix, function_value, table_of, paren_of, field_of, index_of, method_of, call_of, arguments, listed, fields, one_field, keyed_of, named_of, separator, Program, give, stop, look, skip, want, choose, call, reads}
use Rattle.parser.specs.Fields.{depth_of_field}
use Rattle.parser.specs.Runs.{kind_of, line_of, End, done, fault, Runs, gives, stops, looks, skips, deep, ends, wants, misses, chooses, passes, calls, fails}

-- the level of an operator, and whether it is right associative
abbrev pub level_of_infix : Infix → ℕ
level_of_infix Infix.Or = 1
level_of_infix Infix.And = 2
level_of_infix (Infix.Binary op) = level_of_op op

abbrev pub is_right_infix : Infix → Bool
is_right_infix (Infix.Binary op) = is_right_associative op
is_right_infix op = false

-- what an expression is on top: its operator binds its left operand more strongly than a limit
pub data Shape (limit : ℕ) (e : Expression) : Type 0 where
  simple_shape : level_of e ≡ 9 → Shape limit e
  unary_shape : level_of e ≡ 7 → is_unary e ≡ true → Shape limit e
  infix_shape : (op : Infix) → limit < left_power op → level_of e ≡ level_of_infix op → Shape limit e

-- an expression whose arguments, if it could take more, have ended
pub record ExpressionRead (most depth before : ℕ) (tokens : List Token) (e : Expression) (last : ℕ) (rest : List Token) : Type 0 where
  pub spelled : Spelled (expression_parts e) before tokens last rest
  pub formed : formed_expression e ≡ true
  pub shallow : depth + depth_of_expression e ≤ most
  pub closed : takes_arguments e ≡ true → suffix_of (kind_of rest) ≡ Suffix.Missing

-- an expression of operators that bind more strongly than a limit, and no such operator is next
pub record WholeRead (most depth limit before : ℕ) (tokens : List Token) (e : Expression) (last : ℕ) (rest : List Token) : Type 0 where
  pub tree : ExpressionRead most depth before tokens e last rest
  pub shape : Shape limit e
  pub ends : (op : Infix) → infix_of (kind_of rest) ≡ Some op → left_power op ≤ limit

-- an expression that may be the left operand of the next operator
pub record ClimbSoFar (most depth limit before : ℕ) (tokens : List Token) (e : Expression) (last : ℕ) (rest : List Token) : Type 0 where
  pub tree : ExpressionRead most depth before tokens e last rest
  pub shape : Shape limit e
  pub binds : (op : Infix) → infix_of (kind_of rest) ≡ Some op → left_binds (level_of_infix op) (is_right_infix op) e ≡ true

-- an expression with no operator on top
pub record SimpleRead (most depth before : ℕ) (tokens : List Token) (e : Expression) (last : ℕ) (rest : List Token) : Type 0 where
  pub tree : ExpressionRead most depth before tokens e last rest
  pub level : level_of e ≡ 9

-- an expression that may be indexed or called
pub record PrefixSoFar (most depth before : ℕ) (tokens : List Token) (e : Expression) (last : ℕ) (rest : List Token) : Type 0 where
  pub spelled : Spelled (expression_parts e) before tokens last rest
  pub formed : formed_expression e ≡ true
  pub shallow : depth + depth_of_expression e ≤ most
  pub prefix : is_prefix e ≡ true

-- and is not indexed or called further
pub record PrefixRead (most depth before : ℕ) (tokens : List Token) (e : Expression) (last : ℕ) (rest : List Token) : Type 0 where
  pub so_far : PrefixSoFar most depth before tokens e last rest
  pub missing : suffix_of (kind_of rest) ≡ Suffix.Missing

-- expressions as parts of a phrase
pub record ListRead (most depth : ℕ) (phrase : List Part) (before : ℕ) (tokens : List Token) (es : Expressions) (last : ℕ) (rest : List Token) : Type 0 where
  pub spelled : Spelled phrase before tokens last rest
  pub formed : formed_expressions es ≡ true
  pub shallow : depth + depth_of_expressions es ≤ most
  pub closed : last_takes_arguments es ≡ true → suffix_of (kind_of rest) ≡ Suffix.Missing

pub record SomeRead (most depth before : ℕ) (tokens : List Token) (es : Expressions) (last : ℕ) (rest : List Token) : Type 0 where
  pub list : ListRead most depth (expressions_parts es) before tokens es last rest
  pub some : has_expressions es ≡ true

pub record TargetsRead (most depth before : ℕ) (tokens : List Token) (es : Expressions) (last : ℕ) (rest : List Token) : Type 0 where
  pub spelled : Spelled (expressions_parts es) before tokens last rest
  pub formed : formed_expressions es ≡ true
  pub shallow : depth + depth_of_expressions es ≤ most
  pub are : are_targets es ≡ true
  pub some : has_expressions es ≡ true

pub record NameRead (before : ℕ) (tokens : List Token) (name : Text) (last : ℕ) (rest : List Token) : Type 0 where
  pub spelled : Spelled (word (TokenKind.Name name) ∷ []) before tokens last rest
  pub formed : is_name name ≡ true

pub record NamesRead (mark : TokenKind) (before : ℕ) (tokens : List Token) (names : List Text) (last : ℕ) (rest : List Token) : Type 0 where
  pub spelled : Spelled (more_names_parts mark names) before tokens last rest
  pub formed : are_names names ≡ true

pub record MethodRead (before : ℕ) (tokens : List Token) (method : Option Text) (last : ℕ) (rest : List Token) : Type 0 where
  pub spelled : Spelled (method_parts method) before tokens last rest
  pub formed : is_optional_name method ≡ true

pub record ParametersRead (before : ℕ) (tokens : List Token) (params : Parameters) (last : ℕ) (rest : List Token) : Type 0 where
  pub spelled : Spelled (parameters_parts params.names params.vararg) before tokens last rest
  pub formed : are_names params.names ≡ true

-- there is a parameter, so that a comma may stand before it
pub record FirstParameterRead (before : ℕ) (tokens : List Token) (params : Parameters) (last : ℕ) (rest : List Token) : Type 0 where
  pub all : ParametersRead before tokens params last rest
  pub behind : more_parameters_parts params.names params.vararg ≡ word TokenKind.Comma ∷ parameters_parts params.names params.vararg

pub record MoreParametersRead (before : ℕ) (tokens : List Token) (params : Parameters) (last : ℕ) (rest : List Token) : Type 0 where
  pub spelled : Spelled (more_parameters_parts params.names params.vararg) before tokens last rest
  pub formed : are_names params.names ≡ true

pub record BodyRead (most depth first before : ℕ) (tokens : List Token) (b : FunctionBody) (last : ℕ) (rest : List Token) : Type 0 where
  pub spelled : Spelled (body_parts b) before tokens last rest
  pub formed : formed_body b ≡ true
  pub shallow : depth + depth_of_body b ≤ most
  pub first_line : first_line_of b ≡ first

pub record ArgumentsRead (most depth before : ℕ) (tokens : List Token) (args : Arguments) (last : ℕ) (rest : List Token) : Type 0 where
  pub spelled : Spelled (arguments_parts args) before tokens last rest
  pub formed : formed_arguments args ≡ true
  pub shallow : depth + depth_of_arguments args ≤ most
  pub on_line : on_its_line args (line_of tokens) before ≡ true

abbrev pub formed_field : Field → Bool
formed_field (positional_field e) = formed_expression e
formed_field (named_field name e) = is_name name && formed_expression e
formed_field (keyed_field key e) = formed_expression key && formed_expression e

pub record FieldRead (most depth before : ℕ) (tokens : List Token) (item : Field) (last : ℕ) (rest : List Token) : Type 0 where
  pub spelled : Spelled (field_parts item) before tokens last rest
  pub formed : formed_field item ≡ true
  pub shallow : depth + depth_of_field item ≤ most

pub record FieldsRead (most depth before : ℕ) (tokens : List Token) (items : Fields) (last : ℕ) (rest : List Token) : Type 0 where
  pub spelled : Spelled (fields_parts items) before tokens last rest
  pub formed : formed_fields items ≡ true
  pub shallow : depth + depth_of_fields items ≤ most

pub record StepRead (most depth before : ℕ) (tokens : List Token) (by : ForStep) (last : ℕ) (rest : List Token) : Type 0 where
  pub spelled : Spelled (step_parts by) before tokens last rest
  pub formed : formed_step by ≡ true
  pub shallow : depth + depth_of_step by ≤ most

pub record BranchesRead (most depth before : ℕ) (tokens : List Token) (left : BranchesLeft) (last : ℕ) (rest : List Token) : Type 0 where
  pub spelled : Spelled (branches_parts left.branches left.last) before tokens last rest
  pub formed : formed_branches left.branches ≡ true
  pub formed_last : formed_otherwise left.last ≡ true
  pub shallow : depth + depth_of_branches left.branches ≤ most
  pub shallow_last : depth + depth_of_otherwise left.last ≤ most

-- a statement whose last expression, if it could take more arguments, has ended
pub record StatementRead (most depth before : ℕ) (tokens : List Token) (s : Statement) (last : ℕ) (rest : List Token) : Type 0 where
  pub spelled : Spelled (statement_parts s) before tokens last rest
  pub formed : formed_statement s ≡ true
  pub shallow : depth + depth_of_statement s ≤ most
  pub closed : statement_takes_arguments s ≡ true → suffix_of (kind_of rest) ≡ Suffix.Missing

pub record BlockRead (most depth before : ℕ) (tokens : List Token) (inside : Statements) (last : ℕ) (rest : List Token) : Type 0 where
  pub spelled : Spelled (block_parts inside) before tokens last rest
  pub formed : formed_statements inside ≡ true
  pub shallow : depth + depth_of_statements inside ≤ most

pub record ChunkRead (most before : ℕ) (tokens : List Token) (inside : Statements) (last : ℕ) (rest : List Token) : Type 0 where
  pub ended : rest ≡ []
  pub block : BlockRead most 0 before tokens inside last rest

-- what holds of an answer: a goal that is read behind a part of its phrase is given where that begins
abbrev pub Post : ℕ → {answer : Phrase} → Goal answer → ℕ → List Token → Meant answer → ℕ → List Token → Type 0
Post most main_chunk before tokens meant last rest = ChunkRead most before tokens meant last rest
Post most (block depth) before tokens meant last rest = depth ≤ most → BlockRead most depth before tokens meant last rest
Post most semicolon before tokens meant last rest = Spelled (semicolon_parts meant) before tokens last rest
Post most (one_statement depth) before tokens meant last rest = StatementRead most depth before tokens meant last rest
Post most (if_of depth) before tokens meant last rest = kind_of tokens ≡ Some TokenKind.If → StatementRead most depth before tokens meant last rest
Post most (while_of depth) before tokens meant last rest = kind_of tokens ≡ Some TokenKind.While → StatementRead most depth before tokens meant last rest
Post most (do_of depth) before tokens meant last rest = kind_of tokens ≡ Some TokenKind.Do → StatementRead most depth before tokens meant last rest
Post most (for_of depth) before tokens meant last rest = kind_of tokens ≡ Some TokenKind.For → StatementRead most depth before tokens meant last rest
Post most (repeat_of depth) before tokens meant last rest = kind_of tokens ≡ Some TokenKind.Repeat → StatementRead most depth before tokens meant last rest
Post most (function_of depth) before tokens meant last rest = kind_of tokens ≡ Some TokenKind.Function → StatementRead most depth before tokens meant last rest
Post most (local_of depth) before tokens meant last rest = kind_of tokens ≡ Some TokenKind.Local → StatementRead most depth before tokens meant last rest
Post most (return_of depth) before tokens meant last rest = kind_of tokens ≡ Some TokenKind.Return → StatementRead most depth before tokens meant last rest
Post most (break_of depth) before tokens meant last rest = kind_of tokens ≡ Some TokenKind.Break → StatementRead most depth before tokens meant last rest
Post most (numeric_of depth name) before tokens meant last rest =
    kind_of tokens ≡ Some TokenKind.Equal → is_name name ≡ true →
    (line : ℕ) (front : List Token) → Spelled (word TokenKind.For ∷ word (TokenKind.Name name) ∷ []) line front before tokens → StatementRead most depth line front meant last rest
Post most (generic_of depth name) before tokens meant last rest =
    is_name name ≡ true →
    (line : ℕ) (front : List Token) → Spelled (word TokenKind.For ∷ word (TokenKind.Name name) ∷ []) line front before tokens → StatementRead most depth line front meant last rest
Post most (local_function_of depth) before tokens meant last rest =
    kind_of tokens ≡ Some TokenKind.Function → (line : ℕ) (front : List Token) → Spelled (word TokenKind.Local ∷ []) line front before tokens → StatementRead most depth line front meant last rest
Post most (local_names_of depth) before tokens meant last rest =
    depth ≤ most → (line : ℕ) (front : List Token) → Spelled (word TokenKind.Local ∷ []) line front before tokens → StatementRead most depth line front meant last rest
Post most (expression_statement depth) before tokens meant last rest = StatementRead most depth before tokens meant last rest
Post most (branches depth) before tokens meant last rest = depth ≤ most → BranchesRead most depth before tokens meant last rest
Post most (step depth) before tokens meant last rest = depth ≤ most → StepRead most depth before tokens meant last rest
Post most method_name before tokens meant last rest = MethodRead before tokens meant last rest
Post most (values depth) before tokens meant last rest = depth ≤ most → ListRead most depth (values_parts meant) before tokens meant last rest
Post most (results depth) before tokens meant last rest = depth ≤ most → ListRead most depth (expressions_parts meant) before tokens meant last rest
Post most (targets depth e) before tokens meant last rest =
    (line : ℕ) (front : List Token) → PrefixRead most depth line front e before tokens → TargetsRead most depth line front meant last rest
Post most (body depth first) before tokens meant last rest = depth ≤ most → BodyRead most depth first before tokens meant last rest
Post most parameters before tokens meant last rest = ParametersRead before tokens meant last rest
Post most first_parameter before tokens meant last rest = FirstParameterRead before tokens meant last rest
Post most more_parameters before tokens meant last rest = MoreParametersRead before tokens meant last rest
Post most one_name before tokens meant last rest = NameRead before tokens meant last rest
Post most (more_names_by mark) before tokens meant last rest = NamesRead mark before tokens meant last rest
Post most (expressions_at depth) before tokens meant last rest = SomeRead most depth before tokens meant last rest
Post most (more_expressions_at depth) before tokens meant last rest = depth ≤ most → ListRead most depth (more_expressions_parts meant) before tokens meant last rest
Post most (whole depth limit) before tokens meant last rest = WholeRead most depth limit before tokens meant last rest
Post most (climb depth limit start left) before tokens meant last rest =
    (line : ℕ) (front : List Token) → line_of front ≡ start → ClimbSoFar most depth limit line front left before tokens → WholeRead most depth limit line front meant last rest
Post most (simple depth) before tokens meant last rest = SimpleRead most depth before tokens meant last rest
Post most (prefix depth role) before tokens meant last rest = PrefixRead most depth before tokens meant last rest
Post most (suffix depth role on) before tokens meant last rest =
    (line : ℕ) (front : List Token) → PrefixSoFar most depth line front on before tokens → PrefixRead most depth line front meant last rest
Post most (function_value depth) before tokens meant last rest = kind_of tokens ≡ Some TokenKind.Function → SimpleRead most depth before tokens meant last rest
Post most (table_of depth) before tokens meant last rest = kind_of tokens ≡ Some TokenKind.OpenBrace → SimpleRead most depth before tokens meant last rest
Post most (paren_of depth role) before tokens meant last rest = kind_of tokens ≡ Some TokenKind.OpenParen → PrefixSoFar most depth before tokens meant last rest
Post most (field_of depth on) before tokens meant last rest =
    kind_of tokens ≡ Some TokenKind.Dot → (line : ℕ) (front : List Token) → PrefixSoFar most depth line front on before tokens → PrefixSoFar most depth line front meant last rest
Post most (index_of depth on) before tokens meant last rest =
    kind_of tokens ≡ Some TokenKind.OpenBracket → (line : ℕ) (front : List Token) → PrefixSoFar most depth line front on before tokens → PrefixSoFar most depth line front meant last rest
Post most (method_of depth role on) before tokens meant last rest =
    kind_of tokens ≡ Some TokenKind.Colon → (line : ℕ) (front : List Token) → PrefixSoFar most depth line front on before tokens → PrefixSoFar most depth line front meant last rest
Post most (call_of depth role on) before tokens meant last rest =
    (line : ℕ) (front : List Token) → PrefixSoFar most depth line front on before tokens → PrefixSoFar most depth line front meant last rest
Post most (arguments depth needed) before tokens meant last rest = (needed ≤ most) × (depth ≤ most → ArgumentsRead most depth before tokens meant last rest)
Post most (listed depth) before tokens meant last rest = depth ≤ most → ListRead most depth (expressions_parts meant) before tokens meant last rest
Post most (fields depth) before tokens meant last rest = depth ≤ most → FieldsRead most depth before tokens meant last rest
Post most (one_field depth) before tokens meant last rest = FieldRead most depth before tokens meant last rest
Post most (keyed_of depth) before tokens meant last rest = kind_of tokens ≡ Some TokenKind.OpenBracket → FieldRead most depth before tokens meant last rest
Post most (named_of depth start name) before tokens meant last rest =
    depth + 1 ≤ most → is_name name ≡ true →
    (line : ℕ) (front : List Token) → line_of front ≡ start → Spelled (word (TokenKind.Name name) ∷ []) line front before tokens → FieldRead most depth line front meant last rest
Post most separator before tokens meant last rest = Spelled (separator_parts meant) before tokens last rest

-- the tokens behind the first one, which stands on a line
pub record Behind (tokens : List Token) (between : ℕ) (middle : List Token) : Type 0 where
  pub token : Token
  pub first : tokens ≡ token ∷ middle
  pub line : token.line ≡ between

-- what holds of each end of a program, by what holds of its calls
abbrev pub Holds : ℕ → {answer : Phrase} → Program answer → ℕ → List Token → (Meant answer → ℕ → List Token → Type 0) → Type 0
Holds most (give meant) before tokens q = q meant before tokens
Holds most stop before tokens q = Unit {0}
Holds most (look then) before tokens q = Holds most (then before (kind_of tokens) (line_of tokens)) before tokens q
Holds most (skip depth then) before tokens q = (between : ℕ) (middle : List Token) → Behind tokens between middle → depth ≤ most → Holds most then between middle q
Holds most (want kind then) before tokens q = (between : ℕ) (middle : List Token) → Spelled (word kind ∷ []) before tokens between middle → Holds most then between middle q
Holds most (choose kind then else) before tokens q = (kind_of tokens ≡ Some kind → Holds most then before tokens q) × ((kind_of tokens ≡ Some kind → ⊥) → Holds most else before tokens q)
Holds most (call goal then) before tokens q = (meant : Meant _) (last : ℕ) (rest : List Token) → Post most goal before tokens meant last rest → Holds most (then meant) last rest q

-- what is shown goal by goal
abbrev pub Good : ℕ → {answer : Phrase} → Goal answer → Type 0
Good most goal = (before : ℕ) (tokens : List Token) → Holds most (reads goal) before tokens (Post most goal before tokens)

-- what holds of an end that is an answer
abbrev pub AtEnd : {answer : Phrase} → (Meant answer → ℕ → List Token → Type 0) → End answer → Type 0
AtEnd q (done meant last rest) = q meant last rest
AtEnd q (fault why rest) = Unit {0}

-- what holds of each end holds of the end of a run
pub run_holds : {most : ℕ} {answer : Phrase} {program : Program answer} {before : ℕ} {tokens : List Token} {end : End answer} →
    ((inner : Phrase) (goal : Goal inner) → Good most goal) → Runs most answer program before tokens end →
    (q : Meant answer → ℕ → List Token → Type 0) → Holds most program before tokens q → AtEnd q end
run_holds good gives q h = h
run_holds good stops q h = tt
run_holds good (looks a) q h = run_holds good a q h
run_holds good (skips {token} {tokens} d a) q h = run_holds good a q (h token.line tokens (record { token = token; first = refl; line = refl }) d)
run_holds good (deep d) q h = tt
run_holds good ends q h = tt
run_holds good (wants {token} {tokens} k a) q h = run_holds good a q (h token.line tokens (by_word k no_part))
run_holds good (misses k) q h = tt
run_holds good (chooses k a) q h = run_holds good a q (h.0 k)
run_holds good (passes k a) q h = run_holds good a q (h.1 k)
run_holds {most} {before} {tokens} good (calls {inner} {goal} {last} {rest} {meant} a b) q h =
    run_holds good b q (h meant last rest (run_holds good a (Post most goal before tokens) (good inner goal before tokens)))
run_holds good (fails a) q h = tt
