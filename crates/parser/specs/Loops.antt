-- Serves the bodies. Programs that go on with a list of which a part is read.
use Rattle.std.specs.Prelude.{ℕ, List, ◌++◌}
use Rattle.lua_tree.specs.Syntax.{Statements, if_statement, Branches, Expressions, Expression, Fields}
use Rattle.lua_num.specs.Bytes.{Text}
use Rattle.lua_tree.specs.Joins.{join_statements, join_branches, join_expressions, join_fields}
use Rattle.lua_tree.specs.Spelled.{block_phrase, statement_phrase, parameters_phrase, expressions_phrase, fields_phrase, names_phrase}
use Rattle.lua_tree.specs.declared.token.TokenKind.{TokenKind}
use Rattle.parser.specs.Program.{Program, give, want, call, more_names_by, first_parameter, more_expressions_at, fields, branches, block, targets}

abbrev pub names_with : (mark : TokenKind) → List Text → Program (names_phrase mark)
names_with mark read = call (more_names_by mark) (λ more. give (read ++ more))

abbrev pub parameters_with : List Text → Program parameters_phrase
parameters_with read = call first_parameter (λ more. give (record { names = read ++ more.names; vararg = more.vararg }))

abbrev pub expressions_with : ℕ → Expressions → Program expressions_phrase
expressions_with depth read = call (more_expressions_at depth) (λ more. give (join_expressions read more))

abbrev pub fields_with : ℕ → Fields → Program fields_phrase
fields_with depth read = call (fields depth) (λ more. give (join_fields read more))

abbrev pub block_with : ℕ → Statements → Program block_phrase
block_with depth read = call (block depth) (λ more. give (join_statements read more))

-- behind a target that is not yet among those that are read
abbrev pub targets_with : ℕ → Expressions → Expression → Program expressions_phrase
targets_with depth read next = call (targets depth next) (λ more. give (join_expressions read more))

-- behind the block of a branch
abbrev pub if_with : ℕ → Branches → Program statement_phrase
if_with depth read = call (branches depth) (λ left. want TokenKind.End (give (if_statement (join_branches read left.branches) left.last)))
