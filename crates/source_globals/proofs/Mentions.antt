-- The mentions of a tree with their roles: their roles are those of the definition, and their names those of the outline.
use Rattle.std.proofs.Common.{◌≡◌, ℕ, zero, suc, ◌+◌, Bool, true, false, List, [], ◌∷◌, ◌++◌, length, map, refl, sym, ap, ◌∙◌, subst}
use Rattle.std.specs.Prelude.{Option, Some, None, is_some}
use Rattle.lua_num.specs.Bytes.{Text}
use Rattle.lua_tree.specs.Syntax as syntax
use Rattle.lua_tree.specs.Syntax.{Statements, no_statements, Statement, assignment, call_statement, do_block, while_loop, repeat_loop, if_statement, numeric_for, generic_for, function_statement, local_function, local_statement, return_statement, break_statement, Branches, no_branches, branch, Otherwise, no_otherwise, otherwise, ForStep, no_step, by_step, FunctionBody, function_body, Expressions, no_expressions, Expression, nil_literal, true_literal, false_literal, vararg_expression, number_literal, text_literal, name_expression, function_expression, index_expression, field_expression, call_expression, method_call, and_expression, or_expression, binary_expression, unary_expression, constructor, parenthesized, Arguments, argument_list, text_argument, table_argument, Fields, no_fields, positional, named, keyed, Source}
use Rattle.lua_tree.specs.Outline.{Binding, Place, Part, Mark, mention, local_name, hidden_local, dots, leave, opened, nothing, both, within, stay, reaching, declares, mentions, marked, come, with_locals, in_loop, in_function, innermost, path_part, all_params, statements_part, statement_part, branches_part, otherwise_part, step_part, body_part, expressions_part, expression_part, arguments_part, fields_part}
use Rattle.source_globals.specs.Named.{Role, gets_it, sets_it, as_target, path_roles, statements_roles, statement_roles, branches_roles, otherwise_roles, step_roles, body_roles, targets_roles, expressions_roles, expression_roles, arguments_roles, fields_roles, mentions_among}
use Rattle.source_globals.proofs.Owed.{Mention}
use Rattle.source_globals.proofs.Calls.{joined}

-- ---- the mentions of each part

abbrev pub target_said : Expression → List Mention → List Mention
target_said (name_expression line name) ms = (sets_it, name) ∷ []
target_said e ms = ms

abbrev pub path_said : List Text → (method : Option Text) → List Mention
path_said [] method = []
path_said (name ∷ []) None = (sets_it, name) ∷ []
path_said (name ∷ fields) method = (gets_it, name) ∷ []

abbrev mutual
  pub statements_said : Statements → List Mention
  statements_said no_statements = []
  statements_said (syntax.statement line semi s rest) = statement_said s ++ statements_said rest

  pub statement_said : Statement → List Mention
  statement_said (assignment targets es) = joined (each_target targets) ++ joined (each_said es)
  statement_said (call_statement e) = said e
  statement_said (do_block block) = statements_said block
  statement_said (while_loop test block) = said test ++ statements_said block
  statement_said (repeat_loop block test) = statements_said block ++ said test
  statement_said (if_statement branches last) = branches_said branches ++ otherwise_said last
  statement_said (numeric_for name first last step block) = (said first ++ (said last ++ step_said step)) ++ statements_said block
  statement_said (generic_for names es block) = joined (each_said es) ++ statements_said block
  statement_said (function_statement path method body) = joined (path_said path method ∷ []) ++ joined (body_said body ∷ [])
  statement_said (local_function name body) = body_said body
  statement_said (local_statement names es) = joined (each_said es)
  statement_said (return_statement es) = joined (each_said es)
  statement_said break_statement = []

  pub branches_said : Branches → List Mention
  branches_said no_branches = []
  branches_said (branch test block rest) = (said test ++ statements_said block) ++ branches_said rest

  pub otherwise_said : Otherwise → List Mention
  otherwise_said no_otherwise = []
  otherwise_said (otherwise block) = statements_said block

  pub step_said : ForStep → List Mention
  step_said no_step = []
  step_said (by_step e) = said e

  pub body_said : FunctionBody → List Mention
  body_said (function_body params vararg block first last) = statements_said block

  pub each_target : Expressions → List (List Mention)
  each_target no_expressions = []
  each_target (syntax.expression e rest) = target_said e (said e) ∷ each_target rest

  pub each_said : Expressions → List (List Mention)
  each_said no_expressions = []
  each_said (syntax.expression e rest) = said e ∷ each_said rest

  pub said : Expression → List Mention
  said (nil_literal line) = []
  said (true_literal line) = []
  said (false_literal line) = []
  said (vararg_expression line) = []
  said (number_literal line n) = []
  said (text_literal line text) = []
  said (name_expression line name) = (gets_it, name) ∷ []
  said (function_expression line body) = body_said body
  said (index_expression line on key) = said on ++ said key
  said (field_expression line on name) = said on
  said (call_expression line on args on_line) = said on ++ arguments_said args
  said (method_call line on name args on_line) = said on ++ arguments_said args
  said (and_expression line left right) = said left ++ said right
  said (or_expression line left right) = said left ++ said right
  said (binary_expression line op left right) = said left ++ said right
  said (unary_expression line op e) = said e
  said (constructor line fields) = joined (fields_said fields)
  said (parenthesized line e) = said e

  pub arguments_said : Arguments → List Mention
  arguments_said (argument_list es) = joined (each_said es)
  arguments_said (text_argument text) = []
  arguments_said (table_argument fields) = joined (fields_said fields)

  pub fields_said : Fields → List (List Mention)
  fields_said no_fields = []
  fields_said (positional e separator rest) = said e ∷ fields_said rest
  fields_said (named name e separator rest) = said e ∷ fields_said rest
  fields_said (keyed key e separator rest) = (said key ++ said e) ∷ fields_said rest

-- ---- what a part says

abbrev pub role_of : Mention → Role
role_of m = m.0

abbrev pub name_of : Mention → Text
name_of m = m.1

abbrev pub named_by : (Text × Option Binding) → Text
named_by m = m.0

pub record Says (ms : List Mention) (roles : List Role) (part : Part) : Type 0 where
  pub roles_are : map role_of ms ≡ roles
  pub names_are : (place : Place) → map named_by (mentions_among (part place).marks) ≡ map name_of ms

map_both : {A B : Type 0} (f : A → B) (xs ys : List A) → map f (xs ++ ys) ≡ map f xs ++ map f ys
map_both f [] ys = refl
map_both f (x ∷ xs) ys = ap (λ zs. f x ∷ zs) (map_both f xs ys)

among_both : (xs ys : List Mark) → mentions_among (xs ++ ys) ≡ mentions_among xs ++ mentions_among ys
among_both [] ys = refl
among_both (mention line name means around ∷ xs) ys = ap (λ zs. (name, means) ∷ zs) (among_both xs ys)
among_both (local_name line reached ∷ xs) ys = among_both xs ys
among_both (hidden_local line reached ∷ xs) ys = among_both xs ys
among_both (dots line vararg ∷ xs) ys = among_both xs ys
among_both (leave line looped ∷ xs) ys = among_both xs ys
among_both (opened outer ∷ xs) ys = among_both xs ys

names_both : (xs ys : List Mark) (ms ns : List Mention) → map named_by (mentions_among xs) ≡ map name_of ms → map named_by (mentions_among ys) ≡ map name_of ns → map named_by (mentions_among (xs ++ ys)) ≡ map name_of (ms ++ ns)
names_both xs ys ms ns a b =
    ap (map named_by) (among_both xs ys) ∙ map_both named_by (mentions_among xs) (mentions_among ys)
    ∙ ap (λ us. us ++ map named_by (mentions_among ys)) a ∙ ap (λ vs. map name_of ms ++ vs) b ∙ sym (map_both name_of ms ns)

roles_both : {r s : List Role} (ms ns : List Mention) → map role_of ms ≡ r → map role_of ns ≡ s → map role_of (ms ++ ns) ≡ r ++ s
roles_both {r} {s} ms ns a b = map_both role_of ms ns ∙ ap (λ us. us ++ map role_of ns) a ∙ ap (λ vs. r ++ vs) b

pub says_both : {ms ns : List Mention} {r s : List Role} {p q : Part} → Says ms r p → Says ns s q → Says (ms ++ ns) (r ++ s) (both p q)
says_both {ms} {ns} {r} {s} {p} {q} a b = record {
  roles_are = roles_both ms ns a.roles_are b.roles_are;
  names_are = λ place. let first = p place in names_both first.marks (q first.next).marks ms ns (a.names_are place) (b.names_are first.next);
}

says_within : {ms : List Mention} {r : List Role} {p : Part} (enter : Place → Place) → Says ms r p → Says ms r (within enter p)
says_within enter a = record { roles_are = a.roles_are; names_are = λ place. a.names_are (enter place) }

says_nothing : Says [] [] nothing
says_nothing = record { roles_are = refl; names_are = λ place. refl }

-- what stands before a part and mentions nothing
says_behind : {ms : List Mention} {r : List Role} {p q : Part} → Says [] [] p → Says ms r q → Says ms r (both p q)
says_behind a b = says_both a b

-- a part that is chosen by its place
says_by : {ms : List Mention} {r : List Role} (p : Place → Part) → ((place : Place) → Says ms r (p place)) → map role_of ms ≡ r → Says ms r (λ place. p place place)
says_by p h e = record { roles_are = e; names_are = λ place. (h place).names_are place }

empty_behind : (ms : List Mention) → ms ++ [] ≡ ms
empty_behind [] = refl
empty_behind (m ∷ ms) = ap (λ ns. m ∷ ns) (empty_behind ms)

-- three in a row
grouped : (xs ys zs : List Mention) → xs ++ (ys ++ zs) ≡ (xs ++ ys) ++ zs
grouped [] ys zs = refl
grouped (x ∷ xs) ys zs = ap (λ us. x ∷ us) (grouped xs ys zs)

-- and behind it
says_before : {ms : List Mention} {r : List Role} {p q : Part} → Says ms r p → Says [] [] q → Says ms r (both p q)
says_before {ms} {r} {p} {q} a b = record {
  roles_are = a.roles_are;
  names_are = λ place. let first = p place in names_both first.marks (q first.next).marks ms [] (a.names_are place) (b.names_are first.next) ∙ ap (map name_of) (empty_behind ms);
}

hidden_none : (line active count : ℕ) → mentions_among (reaching (hidden_local line) active count) ≡ []
hidden_none line active zero = refl
hidden_none line active (suc count) = hidden_none line (suc active) count

local_none : (line active count : ℕ) → mentions_among (reaching (local_name line) active count) ≡ []
local_none line active zero = refl
local_none line active (suc count) = local_none line (suc active) count

says_declares : (line hidden : ℕ) (names : List Text) → Says [] [] (declares line hidden names)
says_declares line hidden names = record {
  roles_are = refl;
  names_are = λ place.
      let hs = reaching (hidden_local line) place.active hidden in
      let ls = reaching (local_name line) (place.active + hidden) (length names) in
      ap (map named_by) (among_both hs ls) ∙ ap (λ us. map named_by (us ++ mentions_among ls)) (hidden_none line place.active hidden) ∙ ap (map named_by) (local_none line (place.active + hidden) (length names));
}

says_come : (hidden : ℕ) (names : List Text) (number : ℕ) → Says [] [] (come hidden names number)
says_come hidden names number = record { roles_are = refl; names_are = λ place. refl }

says_mentions : (role : Role) (line : ℕ) (name : Text) → Says ((role, name) ∷ []) (role ∷ []) (mentions line name)
says_mentions role line name = record { roles_are = refl; names_are = λ place. refl }

-- ---- every part

says_target : (e : Expression) → Says (said e) (expression_roles e) (expression_part e) → Says (target_said e (said e)) (as_target e (expression_roles e)) (expression_part e)
says_target (name_expression line name) s = says_mentions sets_it line name
says_target e s = s

says_path : (line : ℕ) (path : List Text) (method : Option Text) → Says (path_said path method) (path_roles path method) (path_part line path)
says_path line [] method = says_nothing
says_path line (name ∷ []) None = says_mentions sets_it line name
says_path line (name ∷ []) (Some method) = says_mentions gets_it line name
says_path line (name ∷ field ∷ fields) method = says_mentions gets_it line name

mutual
  pub says_statements : (ss : Statements) → Says (statements_said ss) (statements_roles ss) (statements_part ss)
  says_statements no_statements = says_nothing
  says_statements (syntax.statement line semi s rest) = says_both (says_statement line s) (says_statements rest)

  says_statement : (line : ℕ) (s : Statement) → Says (statement_said s) (statement_roles s) (statement_part line s)
  says_statement line (assignment targets es) = says_both (says_targets targets) (says_all es)
  says_statement line (call_statement e) = says_one e
  says_statement line (do_block block) = says_within stay (says_statements block)
  says_statement line (while_loop test block) = says_both (says_one test) (says_within in_loop (says_statements block))
  says_statement line (repeat_loop block test) = says_within in_loop (says_both (says_statements block) (says_one test))
  says_statement line (if_statement branches last) = says_both (says_branches branches) (says_otherwise last)
  says_statement line (numeric_for name first last step block) =
      let values = says_both (says_one first) (says_both (says_one last) (says_step step)) in
      let inside = says_statements block in
      says_by (λ place. both (declares line 3 (name ∷ [])) (both (both (expression_part first) (both (expression_part last) (step_part step))) (within (λ inside. in_loop (with_locals 3 (name ∷ []) place.declarations inside)) (statements_part block))))
      (λ place. says_behind (says_declares line 3 (name ∷ [])) (says_both values (says_within (λ inside. in_loop (with_locals 3 (name ∷ []) place.declarations inside)) inside)))
      (roles_both _ _ values.roles_are inside.roles_are)
  says_statement line (generic_for names es block) =
      let values = says_all es in
      let inside = says_statements block in
      says_by (λ place. both (declares line 3 names) (both (expressions_part es) (within (λ inside. in_loop (with_locals 3 names place.declarations inside)) (statements_part block))))
      (λ place. says_behind (says_declares line 3 names) (says_both values (says_within (λ inside. in_loop (with_locals 3 names place.declarations inside)) inside)))
      (roles_both _ _ values.roles_are inside.roles_are)
  says_statement line (function_statement path method body) =
      let s = says_both (says_path line path method) (says_body (is_some method) body) in
      subst (λ ms. Says ms (path_roles path method ++ body_roles body) (both (path_part line path) (body_part (is_some method) body)))
      (ap (λ ms. ms ++ body_said body) (sym (empty_behind (path_said path method))) ∙ ap (λ ms. (path_said path method ++ []) ++ ms) (sym (empty_behind (body_said body)))) s
  says_statement line (local_function name body) =
      let inside = says_body false body in
      says_by (λ place. both (declares line 0 (name ∷ [])) (both (come 0 (name ∷ []) place.declarations) (body_part false body)))
      (λ place. says_behind (says_declares line 0 (name ∷ [])) (says_behind (says_come 0 (name ∷ []) place.declarations) inside)) inside.roles_are
  says_statement line (local_statement names es) =
      let values = says_all es in
      says_by (λ place. both (declares line 0 names) (both (expressions_part es) (come 0 names place.declarations)))
      (λ place. says_behind (says_declares line 0 names) (says_before values (says_come 0 names place.declarations))) values.roles_are
  says_statement line (return_statement es) = says_all es
  says_statement line break_statement = record { roles_are = refl; names_are = λ place. refl }

  says_branches : (branches : Branches) → Says (branches_said branches) (branches_roles branches) (branches_part branches)
  says_branches no_branches = says_nothing
  says_branches (branch test block rest) =
      let s = says_both (says_one test) (says_both (says_within stay (says_statements block)) (says_branches rest)) in
      subst (λ ms. Says ms (branches_roles (branch test block rest)) (branches_part (branch test block rest))) (grouped (said test) (statements_said block) (branches_said rest)) s

  says_otherwise : (last : Otherwise) → Says (otherwise_said last) (otherwise_roles last) (otherwise_part last)
  says_otherwise no_otherwise = says_nothing
  says_otherwise (otherwise block) = says_within stay (says_statements block)

  says_step : (step : ForStep) → Says (step_said step) (step_roles step) (step_part step)
  says_step no_step = says_nothing
  says_step (by_step e) = says_one e

  says_body : (method : Bool) (body : FunctionBody) → Says (body_said body) (body_roles body) (body_part method body)
  says_body method (function_body params vararg block first last) =
      let inside = says_statements block in
      let opens : Says [] [] (marked (λ place. opened (innermost place.around))) = record { roles_are = refl; names_are = λ place. refl } in
      let ps = all_params method params in
      says_behind opens (says_within (in_function vararg)
      (says_by (λ place. both (declares first 0 ps) (both (come 0 ps place.declarations) (statements_part block)))
      (λ place. says_behind (says_declares first 0 ps) (says_behind (says_come 0 ps place.declarations) inside)) inside.roles_are))

  says_targets : (es : Expressions) → Says (joined (each_target es)) (targets_roles es) (expressions_part es)
  says_targets no_expressions = says_nothing
  says_targets (syntax.expression e rest) = says_both (says_target e (says_one e)) (says_targets rest)

  says_all : (es : Expressions) → Says (joined (each_said es)) (expressions_roles es) (expressions_part es)
  says_all no_expressions = says_nothing
  says_all (syntax.expression e rest) = says_both (says_one e) (says_all rest)

  says_one : (e : Expression) → Says (said e) (expression_roles e) (expression_part e)
  says_one (nil_literal line) = says_nothing
  says_one (true_literal line) = says_nothing
  says_one (false_literal line) = says_nothing
  says_one (vararg_expression line) = record { roles_are = refl; names_are = λ place. refl }
  says_one (number_literal line n) = says_nothing
  says_one (text_literal line text) = says_nothing
  says_one (name_expression line name) = says_mentions gets_it line name
  says_one (function_expression line body) = says_body false body
  says_one (index_expression line on key) = says_both (says_one on) (says_one key)
  says_one (field_expression line on name) = says_one on
  says_one (call_expression line on args on_line) = says_both (says_one on) (says_arguments args)
  says_one (method_call line on name args on_line) = says_both (says_one on) (says_arguments args)
  says_one (and_expression line left right) = says_both (says_one left) (says_one right)
  says_one (or_expression line left right) = says_both (says_one left) (says_one right)
  says_one (binary_expression line op left right) = says_both (says_one left) (says_one right)
  says_one (unary_expression line op e) = says_one e
  says_one (constructor line fields) = says_fields fields
  says_one (parenthesized line e) = says_one e

  says_arguments : (args : Arguments) → Says (arguments_said args) (arguments_roles args) (arguments_part args)
  says_arguments (argument_list es) = says_all es
  says_arguments (text_argument text) = says_nothing
  says_arguments (table_argument fields) = says_fields fields

  says_fields : (fields : Fields) → Says (joined (fields_said fields)) (fields_roles fields) (fields_part fields)
  says_fields no_fields = says_nothing
  says_fields (positional e separator rest) = says_both (says_one e) (says_fields rest)
  says_fields (named name e separator rest) = says_both (says_one e) (says_fields rest)
  says_fields (keyed key e separator rest) = says_both (says_both (says_one key) (says_one e)) (says_fields rest)
