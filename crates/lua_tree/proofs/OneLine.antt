-- Tokens of the kinds of a source's spelling spell it, where all stands on one line.
use Rattle.std.proofs.Common.{◌≡◌, Bool, true, false, List, [], ◌∷◌, ◌++◌, Some, None, Option, refl, sym, subst, ◌∙◌, append_assoc, append-nil}
use Rattle.lua_tree.specs.Syntax.{Statements, no_statements, statement, Statement, assignment, call_statement, do_block, while_loop, repeat_loop, if_statement, numeric_for, generic_for, function_statement, local_function, local_statement, return_statement, break_statement, Branches, no_branches, branch, Otherwise, no_otherwise, otherwise, ForStep, no_step, by_step, FunctionBody, function_body, Expressions, no_expressions, expression, Expression, nil_literal, true_literal, false_literal, vararg_expression, number_literal, text_literal, name_expression, function_expression, index_expression, field_expression, call_expression, method_call, and_expression, or_expression, binary_expression, unary_expression, constructor, parenthesized, Arguments, argument_list, text_argument, table_argument, Fields, no_fields, positional, named, keyed}
use Rattle.lua_num.specs.Bytes.{Text}
use Rattle.lua_tree.specs.Spelling.{Kinds, spell_statements, spell_statement, spell_arms, spell_else, spell_expressions, spell_expression, spell_arguments}
use Rattle.lua_tree.specs.Spelled.{Phrase, block_phrase, statement_phrase, branches_phrase, step_phrase, body_phrase, parameters_phrase, more_parameters_phrase, method_phrase, values_phrase, expressions_phrase, more_expressions_phrase, expression_phrase, arguments_phrase, fields_phrase, field_phrase, semicolon_phrase, separator_phrase, name_phrase, names_phrase, more_names_phrase, mark_phrase, Field, positional_field, named_field, keyed_field, Meant, Part, word, word_on, from_line, to_line, of, block_parts, statement_parts, expression_parts, branches_parts, parameters_parts, more_parameters_parts, parts, Spelled, no_part, by_word, by_word_on, by_next, by_last, by_phrase}
use Rattle.lua_tree.specs.OneLine.{tokens_on_one_line, one_line_statements, one_line_statement, one_line_branches, one_line_otherwise, one_line_step, one_line_body, one_line_expressions, one_line_expression, one_line_arguments, one_line_fields}
use Rattle.lua_tree.specs.SpelledLaws.{SpellingIsSpelled}
use Rattle.lua_tree.specs.TreeLists.{kinds_of}
use Rattle.lua_tree.specs.declared.token.TokenKind.{TokenKind}
use Rattle.lua_tree.specs.declared.token.Token.{Token}
use Rattle.lua_tree.specs.declared.tree.Separator.{Separator}
use Rattle.lua_tree.proofs.SpelledKinds.{spell_phrase, spell_parts, fits}

abbrev one_line_field : Field → Field
one_line_field (positional_field e) = positional_field (one_line_expression e)
one_line_field (named_field name e) = named_field name (one_line_expression e)
one_line_field (keyed_field key e) = keyed_field (one_line_expression key) (one_line_expression e)

-- what a phrase says, and its parts, with every line 1
abbrev one_line_phrase : (phrase : Phrase) → Meant phrase → Meant phrase
one_line_phrase block_phrase block = one_line_statements block
one_line_phrase statement_phrase s = one_line_statement s
one_line_phrase branches_phrase left = record { branches = one_line_branches left.branches; last = one_line_otherwise left.last }
one_line_phrase step_phrase step = one_line_step step
one_line_phrase body_phrase body = one_line_body body
one_line_phrase parameters_phrase params = params
one_line_phrase more_parameters_phrase params = params
one_line_phrase method_phrase method = method
one_line_phrase values_phrase es = one_line_expressions es
one_line_phrase expressions_phrase es = one_line_expressions es
one_line_phrase more_expressions_phrase es = one_line_expressions es
one_line_phrase expression_phrase e = one_line_expression e
one_line_phrase arguments_phrase args = one_line_arguments args
one_line_phrase fields_phrase fields = one_line_fields fields
one_line_phrase field_phrase field = one_line_field field
one_line_phrase semicolon_phrase semi = semi
one_line_phrase separator_phrase separator = separator
one_line_phrase name_phrase name = name
one_line_phrase (names_phrase mark) names = names
one_line_phrase (more_names_phrase mark) names = names
one_line_phrase (mark_phrase mark) unit = unit

abbrev one_line_parts : List Part → List Part
one_line_parts [] = []
one_line_parts (word kind ∷ others) = word kind ∷ one_line_parts others
one_line_parts (word_on line kind ∷ others) = word_on 1 kind ∷ one_line_parts others
one_line_parts (from_line line ∷ others) = from_line 1 ∷ one_line_parts others
one_line_parts (to_line line ∷ others) = to_line 1 ∷ one_line_parts others
one_line_parts (of phrase meant ∷ others) = of phrase (one_line_phrase phrase meant) ∷ one_line_parts others

statement_same : (s : Statement) → statement_parts (one_line_statement s) ≡ one_line_parts (statement_parts s)
statement_same (assignment targets es) = refl
statement_same (call_statement e) = refl
statement_same (do_block block) = refl
statement_same (while_loop cond block) = refl
statement_same (repeat_loop block cond) = refl
statement_same (if_statement no_branches last) = refl
statement_same (if_statement (branch cond block rest) last) = refl
statement_same (numeric_for name first last step block) = refl
statement_same (generic_for names es block) = refl
statement_same (function_statement path method (function_body params vararg block first last)) = refl
statement_same (local_function name (function_body params vararg block first last)) = refl
statement_same (local_statement names es) = refl
statement_same (return_statement es) = refl
statement_same break_statement = refl

expression_same : (e : Expression) → expression_parts (one_line_expression e) ≡ one_line_parts (expression_parts e)
expression_same (nil_literal line) = refl
expression_same (true_literal line) = refl
expression_same (false_literal line) = refl
expression_same (vararg_expression line) = refl
expression_same (number_literal line n) = refl
expression_same (text_literal line text) = refl
expression_same (name_expression line name) = refl
expression_same (function_expression line (function_body params vararg block first last)) = refl
expression_same (index_expression line on key) = refl
expression_same (field_expression line on name) = refl
expression_same (call_expression line on args on_line) = refl
expression_same (method_call line on name args on_line) = refl
expression_same (and_expression line left right) = refl
expression_same (or_expression line left right) = refl
expression_same (binary_expression line op left right) = refl
expression_same (unary_expression line op right) = refl
expression_same (constructor line items) = refl
expression_same (parenthesized line e) = refl

branches_same : (branches : Branches) (last : Otherwise) → branches_parts (one_line_branches branches) (one_line_otherwise last) ≡ one_line_parts (branches_parts branches last)
branches_same no_branches no_otherwise = refl
branches_same no_branches (otherwise block) = refl
branches_same (branch cond block rest) last = refl

parameters_same : (names : List Text) (vararg : Bool) → parameters_parts names vararg ≡ one_line_parts (parameters_parts names vararg)
parameters_same [] false = refl
parameters_same [] true = refl
parameters_same (name ∷ names) vararg = refl

more_parameters_same : (names : List Text) (vararg : Bool) → more_parameters_parts names vararg ≡ one_line_parts (more_parameters_parts names vararg)
more_parameters_same [] false = refl
more_parameters_same [] true = refl
more_parameters_same (name ∷ names) vararg = refl

same : (phrase : Phrase) (meant : Meant phrase) → parts phrase (one_line_phrase phrase meant) ≡ one_line_parts (parts phrase meant)
same block_phrase no_statements = refl
same block_phrase (statement line semi s rest) = refl
same statement_phrase s = statement_same s
same branches_phrase left = branches_same left.branches left.last
same step_phrase no_step = refl
same step_phrase (by_step e) = refl
same body_phrase (function_body params vararg block first last) = refl
same parameters_phrase params = parameters_same params.names params.vararg
same more_parameters_phrase params = more_parameters_same params.names params.vararg
same method_phrase None = refl
same method_phrase (Some name) = refl
same values_phrase no_expressions = refl
same values_phrase (expression e rest) = refl
same expressions_phrase no_expressions = refl
same expressions_phrase (expression e rest) = refl
same more_expressions_phrase no_expressions = refl
same more_expressions_phrase (expression e rest) = refl
same expression_phrase e = expression_same e
same arguments_phrase (argument_list es) = refl
same arguments_phrase (text_argument text) = refl
same arguments_phrase (table_argument items) = refl
same fields_phrase no_fields = refl
same fields_phrase (positional e separator rest) = refl
same fields_phrase (named name e separator rest) = refl
same fields_phrase (keyed key e separator rest) = refl
same field_phrase (positional_field e) = refl
same field_phrase (named_field name e) = refl
same field_phrase (keyed_field key e) = refl
same semicolon_phrase true = refl
same semicolon_phrase false = refl
same separator_phrase Separator.Comma = refl
same separator_phrase Separator.Semicolon = refl
same separator_phrase Separator.Missing = refl
same name_phrase name = refl
same (names_phrase mark) [] = refl
same (names_phrase mark) (name ∷ names) = refl
same (more_names_phrase mark) [] = refl
same (more_names_phrase mark) (name ∷ names) = refl
same (mark_phrase mark) unit = refl

-- statements, arguments and expressions have a token
abbrev AreSome : Kinds → Type 0
AreSome [] = ⊥
AreSome (kind ∷ kinds) = Unit {0}

some_before : (a b : Kinds) → AreSome a → AreSome (a ++ b)
some_before [] b some = absurd some
some_before (kind ∷ a) b some = tt

some_behind : (a b : Kinds) → AreSome b → AreSome (a ++ b)
some_behind [] b some = some
some_behind (kind ∷ a) b some = tt

not_nothing : (a b : Kinds) → AreSome a → [] ≡ a ++ b → ⊥
not_nothing [] b some e = some
not_nothing (kind ∷ a) b some e = cc

arguments_some : (args : Arguments) → AreSome (spell_arguments args)
arguments_some (argument_list es) = tt
arguments_some (text_argument text) = tt
arguments_some (table_argument items) = tt

expression_some : (e : Expression) → AreSome (spell_expression e)
expression_some (nil_literal line) = tt
expression_some (true_literal line) = tt
expression_some (false_literal line) = tt
expression_some (vararg_expression line) = tt
expression_some (number_literal line n) = tt
expression_some (text_literal line text) = tt
expression_some (name_expression line name) = tt
expression_some (function_expression line body) = tt
expression_some (index_expression line on key) = some_behind (spell_expression on) _ tt
expression_some (field_expression line on name) = some_behind (spell_expression on) _ tt
expression_some (call_expression line on args on_line) = some_behind (spell_expression on) _ (arguments_some args)
expression_some (method_call line on name args on_line) = some_behind (spell_expression on) _ tt
expression_some (and_expression line left right) = some_behind (spell_expression left) _ tt
expression_some (or_expression line left right) = some_behind (spell_expression left) _ tt
expression_some (binary_expression line op left right) = some_behind (spell_expression left) _ tt
expression_some (unary_expression line op right) = tt
expression_some (constructor line items) = tt
expression_some (parenthesized line e) = tt

statement_some : (s : Statement) → AreSome (spell_statement s)
statement_some (assignment targets es) = some_behind (spell_expressions targets) (TokenKind.Equal ∷ spell_expressions es) tt
statement_some (call_statement e) = expression_some e
statement_some (do_block block) = tt
statement_some (while_loop cond block) = tt
statement_some (repeat_loop block cond) = tt
statement_some (if_statement arms last) = some_behind (spell_arms arms TokenKind.If) _ (some_behind (spell_else last) (TokenKind.End ∷ []) tt)
statement_some (numeric_for name first last step block) = tt
statement_some (generic_for names es block) = tt
statement_some (function_statement path method body) = tt
statement_some (local_function name body) = tt
statement_some (local_statement names es) = tt
statement_some (return_statement es) = tt
statement_some break_statement = tt

-- tokens begin with what spells parts, and those that are left have given kinds
record Begins (those : List Part) (tokens : List Token) (left : Kinds) : Type 0 where
  rest : List Token
  left_is : kinds_of rest ≡ left
  spelled : Spelled those 1 (tokens_on_one_line tokens) 1 (tokens_on_one_line rest)

-- tokens that begin with the kinds of a phrase begin with what spells it on one line
record IsBegun (phrase : Phrase) (meant : Meant phrase) : Type 0 where
  begun : (tokens : List Token) (left : Kinds) → kinds_of tokens ≡ spell_phrase phrase meant ++ left → Begins (parts phrase (one_line_phrase phrase meant)) tokens left

abbrev AreBegun : List Part → Type 0
AreBegun [] = Unit {0}
AreBegun (word kind ∷ others) = AreBegun others
AreBegun (word_on line kind ∷ others) = AreBegun others
AreBegun (from_line line ∷ others) = AreSome (spell_parts others) × AreBegun others
AreBegun (to_line line ∷ others) = AreBegun others
AreBegun (of phrase meant ∷ others) = IsBegun phrase meant × AreBegun others

parts_begun : (those : List Part) → AreBegun those → (tokens : List Token) (left : Kinds) → kinds_of tokens ≡ spell_parts those ++ left → Begins (one_line_parts those) tokens left
parts_begun [] begun tokens left e = record { rest = tokens; left_is = e; spelled = no_part }
parts_begun (word kind ∷ others) begun [] left e = cc
parts_begun (word kind ∷ others) begun (token ∷ tokens) left e =
    let b = parts_begun others begun tokens left (cc) in
    record { rest = b.rest; left_is = b.left_is; spelled = by_word (cc) b.spelled }
parts_begun (word_on line kind ∷ others) begun [] left e = cc
parts_begun (word_on line kind ∷ others) begun (token ∷ tokens) left e =
    let b = parts_begun others begun tokens left (cc) in
    record { rest = b.rest; left_is = b.left_is; spelled = by_word_on (cc) refl b.spelled }
parts_begun (from_line line ∷ others) begun [] left e = absurd (not_nothing _ left begun.0 e)
parts_begun (from_line line ∷ others) begun (token ∷ tokens) left e =
    let b = parts_begun others begun.1 (token ∷ tokens) left e in
    record { rest = b.rest; left_is = b.left_is; spelled = by_next refl b.spelled }
parts_begun (to_line line ∷ others) begun tokens left e =
    let b = parts_begun others begun tokens left e in
    record { rest = b.rest; left_is = b.left_is; spelled = by_last refl b.spelled }
parts_begun (of phrase meant ∷ others) begun tokens left e =
    let b = begun.0.begun tokens (spell_parts others ++ left) (e ∙ append_assoc (spell_phrase phrase meant) (spell_parts others) left) in
    let d = parts_begun others begun.1 b.rest left b.left_is in
    record { rest = d.rest; left_is = d.left_is; spelled = by_phrase b.spelled d.spelled }

begins : (phrase : Phrase) (meant : Meant phrase) → AreBegun (parts phrase meant) → IsBegun phrase meant
begins phrase meant begun = record {
  begun = λ tokens left e.
      let b = parts_begun (parts phrase meant) begun tokens left (subst (λ (kinds : Kinds). kinds_of tokens ≡ kinds ++ left) (sym (fits phrase meant)) e) in
      record { rest = b.rest; left_is = b.left_is; spelled = subst (λ (those : List Part). Spelled those 1 (tokens_on_one_line tokens) 1 (tokens_on_one_line b.rest)) (sym (same phrase meant)) b.spelled };
}

more_names_begun : (mark : TokenKind) (names : List Text) → IsBegun (more_names_phrase mark) names
more_names_begun mark [] = begins (more_names_phrase mark) [] tt
more_names_begun mark (name ∷ names) = begins (more_names_phrase mark) (name ∷ names) (more_names_begun mark names, tt)

names_begun : (mark : TokenKind) (names : List Text) → IsBegun (names_phrase mark) names
names_begun mark [] = begins (names_phrase mark) [] tt
names_begun mark (name ∷ names) = begins (names_phrase mark) (name ∷ names) (more_names_begun mark names, tt)

more_parameters_begun : (names : List Text) (vararg : Bool) → IsBegun more_parameters_phrase (record { names = names; vararg = vararg })
more_parameters_begun [] false = begins more_parameters_phrase (record { names = []; vararg = false }) tt
more_parameters_begun [] true = begins more_parameters_phrase (record { names = []; vararg = true }) tt
more_parameters_begun (name ∷ names) vararg = begins more_parameters_phrase (record { names = name ∷ names; vararg = vararg }) (more_parameters_begun names vararg, tt)

parameters_begun : (names : List Text) (vararg : Bool) → IsBegun parameters_phrase (record { names = names; vararg = vararg })
parameters_begun [] false = begins parameters_phrase (record { names = []; vararg = false }) tt
parameters_begun [] true = begins parameters_phrase (record { names = []; vararg = true }) tt
parameters_begun (name ∷ names) vararg = begins parameters_phrase (record { names = name ∷ names; vararg = vararg }) (more_parameters_begun names vararg, tt)

method_begun : (method : Option Text) → IsBegun method_phrase method
method_begun None = begins method_phrase None tt
method_begun (Some name) = begins method_phrase (Some name) tt

semicolon_begun : (semi : Bool) → IsBegun semicolon_phrase semi
semicolon_begun true = begins semicolon_phrase true tt
semicolon_begun false = begins semicolon_phrase false tt

separator_begun : (separator : Separator) → IsBegun separator_phrase separator
separator_begun Separator.Comma = begins separator_phrase Separator.Comma tt
separator_begun Separator.Semicolon = begins separator_phrase Separator.Semicolon tt
separator_begun Separator.Missing = begins separator_phrase Separator.Missing tt

mutual
  block_begun : (block : Statements) → IsBegun block_phrase block
  block_begun no_statements = begins block_phrase no_statements tt
  block_begun (statement line semi s rest) =
      begins block_phrase (statement line semi s rest) (some_before (spell_statement s) _ (statement_some s), (statement_begun s, (semicolon_begun semi, (block_begun rest, tt))))

  statement_begun : (s : Statement) → IsBegun statement_phrase s
  statement_begun (assignment targets es) = begins statement_phrase (assignment targets es) (expressions_begun targets, (expressions_begun es, tt))
  statement_begun (call_statement e) = begins statement_phrase (call_statement e) (expression_begun e, tt)
  statement_begun (do_block block) = begins statement_phrase (do_block block) (block_begun block, tt)
  statement_begun (while_loop cond block) = begins statement_phrase (while_loop cond block) (expression_begun cond, (block_begun block, tt))
  statement_begun (repeat_loop block cond) = begins statement_phrase (repeat_loop block cond) (block_begun block, (expression_begun cond, tt))
  statement_begun (if_statement no_branches last) = begins statement_phrase (if_statement no_branches last) (otherwise_begun last, tt)
  statement_begun (if_statement (branch cond block rest) last) =
      begins statement_phrase (if_statement (branch cond block rest) last) (expression_begun cond, (block_begun block, (branches_begun rest last (otherwise_begun last), tt)))
  statement_begun (numeric_for name first last step block) =
      begins statement_phrase (numeric_for name first last step block) (expression_begun first, (expression_begun last, (step_begun step, (block_begun block, tt))))
  statement_begun (generic_for names es block) = begins statement_phrase (generic_for names es block) (names_begun TokenKind.Comma names, (expressions_begun es, (block_begun block, tt)))
  statement_begun (function_statement path method body) =
      begins statement_phrase (function_statement path method body) (names_begun TokenKind.Dot path, (method_begun method, (body_begun body, tt)))
  statement_begun (local_function name body) = begins statement_phrase (local_function name body) (body_begun body, tt)
  statement_begun (local_statement names es) = begins statement_phrase (local_statement names es) (names_begun TokenKind.Comma names, (values_begun es, tt))
  statement_begun (return_statement es) = begins statement_phrase (return_statement es) (expressions_begun es, tt)
  statement_begun break_statement = begins statement_phrase break_statement tt

  branches_begun : (branches : Branches) (last : Otherwise) → IsBegun branches_phrase (record { branches = no_branches; last = last }) → IsBegun branches_phrase (record { branches = branches; last = last })
  branches_begun no_branches last begun = begun
  branches_begun (branch cond block rest) last begun =
      begins branches_phrase (record { branches = branch cond block rest; last = last }) (expression_begun cond, (block_begun block, (branches_begun rest last begun, tt)))

  otherwise_begun : (last : Otherwise) → IsBegun branches_phrase (record { branches = no_branches; last = last })
  otherwise_begun no_otherwise = begins branches_phrase (record { branches = no_branches; last = no_otherwise }) tt
  otherwise_begun (otherwise block) = begins branches_phrase (record { branches = no_branches; last = otherwise block }) (block_begun block, tt)

  step_begun : (step : ForStep) → IsBegun step_phrase step
  step_begun no_step = begins step_phrase no_step tt
  step_begun (by_step e) = begins step_phrase (by_step e) (expression_begun e, tt)

  body_begun : (body : FunctionBody) → IsBegun body_phrase body
  body_begun (function_body params vararg block first last) = begins body_phrase (function_body params vararg block first last) (parameters_begun params vararg, (block_begun block, tt))

  values_begun : (es : Expressions) → IsBegun values_phrase es
  values_begun no_expressions = begins values_phrase no_expressions tt
  values_begun (expression e rest) =
      begins values_phrase (expression e rest) (begins expressions_phrase (expression e rest) (expression_begun e, (more_expressions_begun rest, tt)), tt)

  expressions_begun : (es : Expressions) → IsBegun expressions_phrase es
  expressions_begun no_expressions = begins expressions_phrase no_expressions tt
  expressions_begun (expression e rest) = begins expressions_phrase (expression e rest) (expression_begun e, (more_expressions_begun rest, tt))

  more_expressions_begun : (es : Expressions) → IsBegun more_expressions_phrase es
  more_expressions_begun no_expressions = begins more_expressions_phrase no_expressions tt
  more_expressions_begun (expression e rest) = begins more_expressions_phrase (expression e rest) (expression_begun e, (more_expressions_begun rest, tt))

  expression_begun : (e : Expression) → IsBegun expression_phrase e
  expression_begun (nil_literal line) = begins expression_phrase (nil_literal line) tt
  expression_begun (true_literal line) = begins expression_phrase (true_literal line) tt
  expression_begun (false_literal line) = begins expression_phrase (false_literal line) tt
  expression_begun (vararg_expression line) = begins expression_phrase (vararg_expression line) tt
  expression_begun (number_literal line n) = begins expression_phrase (number_literal line n) tt
  expression_begun (text_literal line text) = begins expression_phrase (text_literal line text) tt
  expression_begun (name_expression line name) = begins expression_phrase (name_expression line name) tt
  expression_begun (function_expression line body) = begins expression_phrase (function_expression line body) (tt, (body_begun body, tt))
  expression_begun (index_expression line on key) = begins expression_phrase (index_expression line on key) (expression_begun on, (expression_begun key, tt))
  expression_begun (field_expression line on name) = begins expression_phrase (field_expression line on name) (expression_begun on, tt)
  expression_begun (call_expression line on args on_line) =
      begins expression_phrase (call_expression line on args on_line) (expression_begun on, (some_before (spell_arguments args) [] (arguments_some args), (arguments_begun args, tt)))
  expression_begun (method_call line on name args on_line) =
      begins expression_phrase (method_call line on name args on_line) (expression_begun on, (some_before (spell_arguments args) [] (arguments_some args), (arguments_begun args, tt)))
  expression_begun (and_expression line left right) =
      begins expression_phrase (and_expression line left right) (some_before (spell_expression left) _ (expression_some left), (expression_begun left, (expression_begun right, tt)))
  expression_begun (or_expression line left right) =
      begins expression_phrase (or_expression line left right) (some_before (spell_expression left) _ (expression_some left), (expression_begun left, (expression_begun right, tt)))
  expression_begun (binary_expression line op left right) = begins expression_phrase (binary_expression line op left right) (expression_begun left, (expression_begun right, tt))
  expression_begun (unary_expression line op right) = begins expression_phrase (unary_expression line op right) (expression_begun right, tt)
  expression_begun (constructor line fields) = begins expression_phrase (constructor line fields) (fields_begun fields, tt)
  expression_begun (parenthesized line e) = begins expression_phrase (parenthesized line e) (expression_begun e, tt)

  arguments_begun : (args : Arguments) → IsBegun arguments_phrase args
  arguments_begun (argument_list es) = begins arguments_phrase (argument_list es) (expressions_begun es, tt)
  arguments_begun (text_argument text) = begins arguments_phrase (text_argument text) tt
  arguments_begun (table_argument fields) = begins arguments_phrase (table_argument fields) (fields_begun fields, tt)

  fields_begun : (fields : Fields) → IsBegun fields_phrase fields
  fields_begun no_fields = begins fields_phrase no_fields tt
  fields_begun (positional e separator rest) =
      begins fields_phrase (positional e separator rest) (begins field_phrase (positional_field e) (expression_begun e, tt), (separator_begun separator, (fields_begun rest, tt)))
  fields_begun (named name e separator rest) =
      begins fields_phrase (named name e separator rest) (begins field_phrase (named_field name e) (expression_begun e, tt), (separator_begun separator, (fields_begun rest, tt)))
  fields_begun (keyed key e separator rest) =
      begins fields_phrase (keyed key e separator rest) (begins field_phrase (keyed_field key e) (expression_begun key, (expression_begun e, tt)), (separator_begun separator, (fields_begun rest, tt)))

-- no token is left of those that a source has
all_spelled : (block : Statements) (tokens : List Token) → Begins (block_parts (one_line_statements block)) tokens [] → Spelled (block_parts (one_line_statements block)) 1 (tokens_on_one_line tokens) 1 []
all_spelled block tokens b = ends b.rest b.left_is b.spelled where
  ends : (rest : List Token) → kinds_of rest ≡ [] → Spelled (block_parts (one_line_statements block)) 1 (tokens_on_one_line tokens) 1 (tokens_on_one_line rest) → Spelled (block_parts (one_line_statements block)) 1 (tokens_on_one_line tokens) 1 []
  ends [] e s = s
  ends (token ∷ rest) e s = cc

pub spelling_is_spelled : SpellingIsSpelled
spelling_is_spelled source tokens e = all_spelled source.body tokens ((block_begun source.body).begun tokens [] (e ∙ sym (append-nil (spell_statements source.body))))
