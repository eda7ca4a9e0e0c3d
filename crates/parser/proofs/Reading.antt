-- What it says that a phrase is read where it is spelled: one statement for each kind of phrase.
use Rattle.std.proofs.Common.{◌≡◌, ℕ, ◌+◌, ◌<◌, ◌≤◌, Bool, true, List, ◌∷◌, Option, Some, None}
use Rattle.lua_tree.specs.Syntax.{Statements, Statement, Branches, Otherwise, ForStep, FunctionBody, Expressions, expression, Expression, call_expression, method_call, parenthesized, Arguments, Fields}
use Rattle.lua_tree.specs.WellFormed.{is_target, on_its_line, takes_arguments, last_takes_arguments, statement_takes_arguments, ends_block, depth_of_statements, depth_of_statement, depth_of_branches, depth_of_otherwise, depth_of_step, depth_of_body, depth_of_expressions, depth_of_expression, depth_of_arguments, depth_of_fields}
use Rattle.lua_tree.specs.Spelled.{Spelled, block_phrase, statement_phrase, branches_phrase, step_phrase, body_phrase, expressions_phrase, more_expressions_phrase, expression_phrase, arguments_phrase, fields_phrase, first_line_of, block_parts, statement_parts, branches_parts, step_parts, body_parts, expressions_parts, more_expressions_parts, expression_parts, arguments_parts, fields_parts}
use Rattle.lua_tree.specs.declared.token.TokenKind.{TokenKind}
use Rattle.lua_tree.specs.declared.token.Token.{Token}
use Rattle.parser.specs.Classes.{Role, Suffix, suffix_of, is_block_end}
use Rattle.parser.specs.Operators.{infix_of}
use Rattle.parser.specs.Program.{call_spare, paren_spare, reads, block, one_statement, branches, step, targets, body, expressions_at, more_expressions_at, whole, climb, prefix, suffix, arguments, fields}
use Rattle.parser.specs.Runs.{kind_of, line_of, End, done, Runs}
use Rattle.parser.proofs.Following.{Follows, left_edge}
use Rattle.parser.proofs.FirstTokens.{stands_after}

-- the depth that an expression needs beyond its own, for what must follow it
abbrev pub needed : Role → Expression → ℕ
needed role (call_expression line on args on_line) = call_spare role
needed role (method_call line on name args on_line) = call_spare role
needed role (parenthesized line e) = paren_spare role
needed role e = 0

-- a prefix expression is read, and then what its suffixes are
abbrev pub PrefixReads : ℕ → Expression → Type 0
PrefixReads most e =
    (role : Role) (d pv last : ℕ) (ts rest : List Token) (end : End expression_phrase) → Spelled (expression_parts e) pv ts last rest → d + needed role e + depth_of_expression e ≤ most →
    Runs most expression_phrase (reads (suffix d role e)) last rest end → Runs most expression_phrase (reads (prefix d role)) pv ts end

-- an expression is read, and then the operators behind it
abbrev pub WholeReads : ℕ → Expression → Type 0
WholeReads most e =
    (d limit pv last : ℕ) (ts rest : List Token) (end : End expression_phrase) → Spelled (expression_parts e) pv ts last rest → d + depth_of_expression e ≤ most → limit < left_edge e → Follows e rest →
    Runs most expression_phrase (reads (climb d limit (line_of ts) e)) last rest end → Runs most expression_phrase (reads (whole d limit)) pv ts end

-- the next token does not go on with an expression
pub record Closed (takes : Bool) (rest : List Token) : Type 0 where
  pub operator : infix_of (kind_of rest) ≡ None
  pub suffix : takes ≡ true → suffix_of (kind_of rest) ≡ Suffix.Missing

abbrev pub ExpressionReads : ℕ → Expression → Type 0
ExpressionReads most e =
    (d pv last : ℕ) (ts rest : List Token) → Spelled (expression_parts e) pv ts last rest → d + depth_of_expression e ≤ most → Closed (takes_arguments e) rest →
    Runs most expression_phrase (reads (whole d 0)) pv ts (done e last rest)

abbrev pub ExpressionsReads : ℕ → Expressions → Type 0
ExpressionsReads most es =
    (d pv last : ℕ) (ts rest : List Token) → Spelled (expressions_parts es) pv ts last rest → d + depth_of_expressions es ≤ most → Closed (last_takes_arguments es) rest → (kind_of rest ≡ Some TokenKind.Comma → ⊥) →
    Runs most expressions_phrase (reads (expressions_at d)) pv ts (done es last rest)

abbrev pub MoreReads : ℕ → Expressions → Type 0
MoreReads most es =
    (d pv last : ℕ) (ts rest : List Token) → Spelled (more_expressions_parts es) pv ts last rest → d + depth_of_expressions es ≤ most → Closed (last_takes_arguments es) rest → (kind_of rest ≡ Some TokenKind.Comma → ⊥) →
    Runs most more_expressions_phrase (reads (more_expressions_at d)) pv ts (done es last rest)

-- more targets behind one that is read
abbrev pub TargetsReads : ℕ → Expressions → Type 0
TargetsReads most es =
    (e : Expression) (d pv last : ℕ) (ts rest : List Token) → is_target e ≡ true → Spelled (more_expressions_parts es) pv ts last rest → d + depth_of_expressions es ≤ most → kind_of rest ≡ Some TokenKind.Equal →
    Runs most expressions_phrase (reads (targets d e)) pv ts (done (expression e es) last rest)

abbrev pub ArgumentsReads : ℕ → Arguments → Type 0
ArgumentsReads most args =
    (d least pv last : ℕ) (ts rest : List Token) → Spelled (arguments_parts args) pv ts last rest → least ≤ most → d + depth_of_arguments args ≤ most → on_its_line args (line_of ts) pv ≡ true →
    Runs most arguments_phrase (reads (arguments d least)) pv ts (done args last rest)

abbrev pub FieldsReads : ℕ → Fields → Type 0
FieldsReads most items =
    (d pv last : ℕ) (ts rest : List Token) → Spelled (fields_parts items) pv ts last rest → d + depth_of_fields items ≤ most → kind_of rest ≡ Some TokenKind.CloseBrace →
    Runs most fields_phrase (reads (fields d)) pv ts (done items last rest)

abbrev pub BodyReads : ℕ → FunctionBody → Type 0
BodyReads most b =
    (d pv last : ℕ) (ts rest : List Token) → Spelled (body_parts b) pv ts last rest → d + depth_of_body b ≤ most →
    Runs most body_phrase (reads (body d (first_line_of b))) pv ts (done b last rest)

abbrev pub BlockReads : ℕ → Statements → Type 0
BlockReads most b =
    (d pv last : ℕ) (ts rest : List Token) → Spelled (block_parts b) pv ts last rest → d + depth_of_statements b ≤ most → is_block_end (kind_of rest) ≡ true →
    Runs most block_phrase (reads (block d)) pv ts (done b last rest)

-- what may stand behind a statement
pub record Behind (s : Statement) (next : Option TokenKind) : Type 0 where
  pub stands : stands_after next ≡ true
  pub no_paren : statement_takes_arguments s ≡ true → next ≡ Some TokenKind.OpenParen → ⊥
  -- `return` is followed by a semicolon or the end of its block
  pub ended : ends_block s ≡ true → (next ≡ Some TokenKind.Semicolon → ⊥) → is_block_end next ≡ true

abbrev pub StatementReads : ℕ → Statement → Type 0
StatementReads most s =
    (d pv last : ℕ) (ts rest : List Token) → Spelled (statement_parts s) pv ts last rest → d ≤ most → d + depth_of_statement s ≤ most → Behind s (kind_of rest) →
    Runs most statement_phrase (reads (one_statement d)) pv ts (done s last rest)

abbrev pub BranchesReads : ℕ → Branches → Otherwise → Type 0
BranchesReads most bs last =
    (d pv line : ℕ) (ts rest : List Token) (token : Token) → token.kind ≡ TokenKind.End → Spelled (branches_parts bs last) pv ts line (token ∷ rest) → d + depth_of_branches bs ≤ most → d + depth_of_otherwise last ≤ most →
    Runs most branches_phrase (reads (branches d)) pv ts (done (record { branches = bs; last = last }) line (token ∷ rest))

abbrev pub StepReads : ℕ → ForStep → Type 0
StepReads most by =
    (d pv last : ℕ) (ts rest : List Token) → Spelled (step_parts by) pv ts last rest → d + depth_of_step by ≤ most → kind_of rest ≡ Some TokenKind.Do →
    Runs most step_phrase (reads (step d)) pv ts (done by last rest)
