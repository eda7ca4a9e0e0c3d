-- Tokens that spell a source, with their lines, have the kinds of its spelling.
use Rattle.std.proofs.Common.{◌≡◌, ℕ, Bool, true, false, List, [], ◌∷◌, ◌++◌, Some, None, refl, sym, ap, ◌∙◌, append_assoc, append-nil}
use Rattle.lua_tree.specs.Syntax.{no_statements, statement, Statement, assignment, call_statement, do_block, while_loop, repeat_loop, if_statement, numeric_for, generic_for, function_statement, local_function, local_statement, return_statement, break_statement, Branches, no_branches, branch, Otherwise, no_otherwise, otherwise, no_step, by_step, function_body, no_expressions, expression, Expression, nil_literal, true_literal, false_literal, vararg_expression, number_literal, text_literal, name_expression, function_expression, index_expression, field_expression, call_expression, method_call, and_expression, or_expression, binary_expression, unary_expression, constructor, parenthesized, argument_list, text_argument, table_argument, no_fields, positional, named, keyed}
use Rattle.lua_num.specs.Bytes.{Text}
use Rattle.lua_tree.specs.Spelling.{Kinds, spell_separator, spell_semi, more_names, spell_names, spell_method, spell_params, spell_statements, spell_statement, spell_arms, spell_else, spell_step, spell_body, spell_values, spell_expressions, more_expressions, spell_expression, spell_arguments, spell_fields}
use Rattle.lua_tree.specs.Spelled.{Phrase, block_phrase, statement_phrase, branches_phrase, step_phrase, body_phrase, parameters_phrase, more_parameters_phrase, method_phrase, values_phrase, expressions_phrase, more_expressions_phrase, expression_phrase, arguments_phrase, fields_phrase, field_phrase, semicolon_phrase, separator_phrase, name_phrase, names_phrase, more_names_phrase, mark_phrase, Field, positional_field, named_field, keyed_field, Meant, Part, word, word_on, from_line, to_line, of, statement_parts, expression_parts, branches_parts, parameters_parts, more_parameters_parts, parts, Spelled, no_part, by_word, by_word_on, by_next, by_last, by_phrase}
use Rattle.lua_tree.specs.SpelledLaws.{SpelledAsSpelling}
use Rattle.lua_tree.specs.TreeLists.{kinds_of}
use Rattle.lua_tree.specs.declared.token.TokenKind.{TokenKind}
use Rattle.lua_tree.specs.declared.token.Token.{Token}
use Rattle.lua_tree.specs.declared.tree.Separator.{Separator}

-- `...` behind parameters of which some stand before
abbrev spell_more_dots : Bool → Kinds
spell_more_dots false = []
spell_more_dots true = TokenKind.Comma ∷ TokenKind.DotDotDot ∷ []

abbrev spell_field : Field → Kinds
spell_field (positional_field e) = spell_expression e
spell_field (named_field name e) = TokenKind.Name name ∷ TokenKind.Equal ∷ spell_expression e
spell_field (keyed_field key e) = TokenKind.OpenBracket ∷ spell_expression key ++ TokenKind.CloseBracket ∷ TokenKind.Equal ∷ spell_expression e

-- the kinds of a phrase
abbrev pub spell_phrase : (phrase : Phrase) → Meant phrase → Kinds
spell_phrase block_phrase block = spell_statements block
spell_phrase statement_phrase s = spell_statement s
spell_phrase branches_phrase left = spell_arms left.branches TokenKind.Elseif ++ spell_else left.last
spell_phrase step_phrase step = spell_step step
spell_phrase body_phrase body = spell_body body
spell_phrase parameters_phrase params = spell_params params.names params.vararg
spell_phrase more_parameters_phrase params = more_names TokenKind.Comma params.names ++ spell_more_dots params.vararg
spell_phrase method_phrase method = spell_method method
spell_phrase values_phrase es = spell_values es
spell_phrase expressions_phrase es = spell_expressions es
spell_phrase more_expressions_phrase es = more_expressions es
spell_phrase expression_phrase e = spell_expression e
spell_phrase arguments_phrase args = spell_arguments args
spell_phrase fields_phrase fields = spell_fields fields
spell_phrase field_phrase field = spell_field field
spell_phrase semicolon_phrase semi = spell_semi semi
spell_phrase separator_phrase separator = spell_separator separator
spell_phrase name_phrase name = TokenKind.Name name ∷ []
spell_phrase (names_phrase mark) names = spell_names mark names
spell_phrase (more_names_phrase mark) names = more_names mark names
spell_phrase (mark_phrase mark) unit = mark ∷ []

-- the kinds of parts
abbrev pub spell_parts : List Part → Kinds
spell_parts [] = []
spell_parts (word kind ∷ others) = kind ∷ spell_parts others
spell_parts (word_on line kind ∷ others) = kind ∷ spell_parts others
spell_parts (from_line line ∷ others) = spell_parts others
spell_parts (to_line line ∷ others) = spell_parts others
spell_parts (of phrase meant ∷ others) = spell_phrase phrase meant ++ spell_parts others

statement_fits : (s : Statement) → spell_parts (statement_parts s) ≡ spell_statement s
statement_fits (assignment targets es) = simp append-nil
statement_fits (call_statement e) = simp append-nil
statement_fits (do_block block) = refl
statement_fits (while_loop cond block) = refl
statement_fits (repeat_loop block cond) = simp append-nil
statement_fits (if_statement no_branches last) = refl
statement_fits (if_statement (branch cond block rest) last) = simp append_assoc
statement_fits (numeric_for name first last step block) = refl
statement_fits (generic_for names es block) = refl
statement_fits (function_statement path method body) = simp append-nil
statement_fits (local_function name body) = simp append-nil
statement_fits (local_statement names es) = simp append-nil
statement_fits (return_statement es) = simp append-nil
statement_fits break_statement = refl

expression_fits : (e : Expression) → spell_parts (expression_parts e) ≡ spell_expression e
expression_fits (nil_literal line) = refl
expression_fits (true_literal line) = refl
expression_fits (false_literal line) = refl
expression_fits (vararg_expression line) = refl
expression_fits (number_literal line n) = refl
expression_fits (text_literal line text) = refl
expression_fits (name_expression line name) = refl
expression_fits (function_expression line body) = simp append-nil
expression_fits (index_expression line on key) = refl
expression_fits (field_expression line on name) = refl
expression_fits (call_expression line on args on_line) = simp append-nil
expression_fits (method_call line on name args on_line) = simp append-nil
expression_fits (and_expression line left right) = simp append-nil
expression_fits (or_expression line left right) = simp append-nil
expression_fits (binary_expression line op left right) = simp append-nil
expression_fits (unary_expression line op right) = simp append-nil
expression_fits (constructor line items) = refl
expression_fits (parenthesized line e) = refl

branches_fit : (branches : Branches) (last : Otherwise) → spell_parts (branches_parts branches last) ≡ spell_arms branches TokenKind.Elseif ++ spell_else last
branches_fit no_branches no_otherwise = refl
branches_fit no_branches (otherwise block) = simp append-nil
branches_fit (branch cond block rest) last = simp (append_assoc, append-nil)

parameters_fit : (names : List Text) (vararg : Bool) → spell_parts (parameters_parts names vararg) ≡ spell_params names vararg
parameters_fit [] false = refl
parameters_fit [] true = refl
parameters_fit (name ∷ names) false = simp append-nil
parameters_fit (name ∷ names) true = simp append-nil

more_parameters_fit : (names : List Text) (vararg : Bool) → spell_parts (more_parameters_parts names vararg) ≡ more_names TokenKind.Comma names ++ spell_more_dots vararg
more_parameters_fit [] false = refl
more_parameters_fit [] true = refl
more_parameters_fit (name ∷ names) vararg = simp append-nil

-- the parts of a phrase have its kinds
pub fits : (phrase : Phrase) (meant : Meant phrase) → spell_parts (parts phrase meant) ≡ spell_phrase phrase meant
fits block_phrase no_statements = refl
fits block_phrase (statement line semi s rest) = simp append-nil
fits statement_phrase s = statement_fits s
fits branches_phrase left = branches_fit left.branches left.last
fits step_phrase no_step = refl
fits step_phrase (by_step e) = simp append-nil
fits body_phrase (function_body params vararg block first last) = simp append_assoc
fits parameters_phrase params = parameters_fit params.names params.vararg
fits more_parameters_phrase params = more_parameters_fit params.names params.vararg
fits method_phrase None = refl
fits method_phrase (Some name) = refl
fits values_phrase no_expressions = refl
fits values_phrase (expression e rest) = simp append-nil
fits expressions_phrase no_expressions = refl
fits expressions_phrase (expression e rest) = simp append-nil
fits more_expressions_phrase no_expressions = refl
fits more_expressions_phrase (expression e rest) = simp append-nil
fits expression_phrase e = expression_fits e
fits arguments_phrase (argument_list es) = refl
fits arguments_phrase (text_argument text) = refl
fits arguments_phrase (table_argument items) = refl
fits fields_phrase no_fields = refl
fits fields_phrase (positional e separator rest) = simp append-nil
fits fields_phrase (named name e separator rest) = simp append-nil
fits fields_phrase (keyed key e separator rest) = simp (append-nil, append_assoc (spell_expression key))
fits field_phrase (positional_field e) = simp append-nil
fits field_phrase (named_field name e) = simp append-nil
fits field_phrase (keyed_field key e) = simp append-nil
fits semicolon_phrase true = refl
fits semicolon_phrase false = refl
fits separator_phrase Separator.Comma = refl
fits separator_phrase Separator.Semicolon = refl
fits separator_phrase Separator.Missing = refl
fits name_phrase name = refl
fits (names_phrase mark) [] = refl
fits (names_phrase mark) (name ∷ names) = simp append-nil
fits (more_names_phrase mark) [] = refl
fits (more_names_phrase mark) (name ∷ names) = simp append-nil
fits (mark_phrase mark) unit = refl

-- tokens that begin with what spells parts have the kinds of the parts, and those of the tokens left
kinds_fit : {those : List Part} {line last : ℕ} {tokens rest : List Token} → Spelled those line tokens last rest → kinds_of tokens ≡ spell_parts those ++ kinds_of rest
kinds_fit no_part = refl
kinds_fit (by_word is s) = let same = kinds_fit s in cc
kinds_fit (by_word_on is on s) = let same = kinds_fit s in cc
kinds_fit (by_next on s) = kinds_fit s
kinds_fit (by_last on s) = kinds_fit s
kinds_fit {rest} (by_phrase {phrase} {meant} {others} {middle} s t) =
    kinds_fit s ∙ (ap (λ kinds. kinds ++ kinds_of middle) (fits phrase meant) ∙ (ap (λ kinds. spell_phrase phrase meant ++ kinds) (kinds_fit t) ∙ sym (append_assoc (spell_phrase phrase meant) (spell_parts others) (kinds_of rest))))

pub spelled_as_spelling : SpelledAsSpelling
spelled_as_spelling source tokens s = kinds_fit s ∙ (append-nil _ ∙ fits block_phrase source.body)
