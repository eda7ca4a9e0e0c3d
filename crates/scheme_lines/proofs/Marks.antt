-- The marks of the bare form of a source are those of the source, with every line 1.
use Rattle.std.proofs.Common.{◌≡◌, ℕ, zero, suc, ◌+◌, Bool, false, List, [], ◌∷◌, ◌++◌, length, map, refl, ap, ap₂, ◌∙◌}
use Rattle.std.specs.Prelude.{is_some}
use Rattle.std.proofs.lemmas.List.{map-append}
use Rattle.lua_num.specs.Bytes.{Text}
use Rattle.lua_tree.specs.Syntax as syntax
use Rattle.lua_tree.specs.Syntax.{Statements, no_statements, Statement, assignment, call_statement, do_block, while_loop, repeat_loop, if_statement, numeric_for, generic_for, function_statement, local_function, local_statement, return_statement, break_statement, Branches, no_branches, branch, Otherwise, no_otherwise, otherwise, ForStep, no_step, by_step, FunctionBody, function_body, Expressions, no_expressions, Expression, nil_literal, true_literal, false_literal, vararg_expression, number_literal, text_literal, name_expression, function_expression, index_expression, field_expression, call_expression, method_call, and_expression, or_expression, binary_expression, unary_expression, constructor, parenthesized, Arguments, argument_list, text_argument, table_argument, Fields, no_fields, positional, named, keyed, Source}
use Rattle.lua_tree.specs.Outline.{Place, Mark, mention, local_name, hidden_local, dots, leave, opened, Walk, Part, nothing, both, within, stay, innermost, with_locals, come, in_loop, in_function, reaching, declares, mentions, marked, path_part, all_params, statements_part, statement_part, branches_part, otherwise_part, step_part, body_part, expressions_part, expression_part, arguments_part, fields_part, beginning, outline}
use Rattle.scheme_lines.specs.Bare.{bare_statements, bare_statement, bare_branches, bare_otherwise, bare_step, bare_body, bare_expressions, bare_expression, bare_arguments, bare_fields, bare}

abbrev pub one_line_mark : Mark → Mark
one_line_mark (mention line name means around) = mention 1 name means around
one_line_mark (local_name line reached) = local_name 1 reached
one_line_mark (hidden_local line reached) = hidden_local 1 reached
one_line_mark (dots line vararg) = dots 1 vararg
one_line_mark (leave line looped) = leave 1 looped
one_line_mark (opened outer) = opened outer

abbrev one_line_walk : Walk → Walk
one_line_walk walk = record { marks = map one_line_mark walk.marks; next = walk.next }

-- the second has the marks of the first, with every line 1
record SameMarks (part other : Part) : Type 0 where
  same : (place : Place) → one_line_walk (part place) ≡ other place

no_marks : SameMarks nothing nothing
no_marks = record { same = λ place. refl }

infixl 20 ◌then◌
◌then◌ : {one two other more : Part} → SameMarks one other → SameMarks two more → SameMarks (both one two) (both other more)
◌then◌ {one} {two} {other} {more} a b = record {
  same = λ place.
      let first = one place in
      let second = two first.next in
      ap (λ (marks : List Mark). record { marks = marks; next = second.next }) (map-append one_line_mark first.marks second.marks)
      ∙ ap (λ (walk : Walk). record { marks = map one_line_mark first.marks ++ walk.marks; next = walk.next }) (b.same first.next)
      ∙ ap (λ (walk : Walk). record { marks = walk.marks ++ (more walk.next).marks; next = (more walk.next).next }) (a.same place);
}

inside : {part other : Part} (enter : Place → Place) → SameMarks part other → SameMarks (within enter part) (within enter other)
inside enter p = record {
  same = λ place.
      ap (λ (walk : Walk). record { marks = walk.marks; next = record place { declarations = walk.next.declarations; functions = walk.next.functions } }) (p.same (enter place));
}

same_mentions : (line : ℕ) (name : Text) → SameMarks (mentions line name) (mentions 1 name)
same_mentions line name = record { same = λ place. refl }

reaching_same : (mark other : ℕ → Mark) → ((n : ℕ) → one_line_mark (mark n) ≡ other n) → (active count : ℕ) → map one_line_mark (reaching mark active count) ≡ reaching other active count
reaching_same mark other e active zero = refl
reaching_same mark other e active (suc count) = ap₂ (λ m marks. m ∷ marks) (e (suc active)) (reaching_same mark other e (suc active) count)

same_declares : (line hidden : ℕ) (names : List Text) → SameMarks (declares line hidden names) (declares 1 hidden names)
same_declares line hidden names = record {
  same = λ place.
      let ahead = reaching (hidden_local line) place.active hidden in
      let behind = reaching (local_name line) (place.active + hidden) (length names) in
      ap (λ (marks : List Mark). record { marks = marks; next = record place { declarations = place.declarations + length names } })
      (map-append one_line_mark ahead behind
      ∙ ap₂ (λ l k. l ++ k) (reaching_same (hidden_local line) (hidden_local 1) (λ n. refl) place.active hidden)
      (reaching_same (local_name line) (local_name 1) (λ n. refl) (place.active + hidden) (length names)));
}

same_come : (hidden : ℕ) (names : List Text) (number : ℕ) → SameMarks (come hidden names number) (come hidden names number)
same_come hidden names number = record { same = λ place. refl }

opens : SameMarks (marked (λ place. opened (innermost place.around))) (marked (λ place. opened (innermost place.around)))
opens = record { same = λ place. refl }

same_path : (line : ℕ) (path : List Text) → SameMarks (path_part line path) (path_part 1 path)
same_path line [] = no_marks
same_path line (name ∷ fields) = same_mentions line name

mutual
  statements_same : (block : Statements) → SameMarks (statements_part block) (statements_part (bare_statements block))
  statements_same no_statements = no_marks
  statements_same (syntax.statement line semi s rest) = statement_same line s then statements_same rest

  statement_same : (line : ℕ) (s : Statement) → SameMarks (statement_part line s) (statement_part 1 (bare_statement s))
  statement_same line (assignment targets es) = expressions_same targets then expressions_same es
  statement_same line (call_statement e) = same e
  statement_same line (do_block block) = inside stay (statements_same block)
  statement_same line (while_loop cond block) = same cond then inside in_loop (statements_same block)
  statement_same line (repeat_loop block cond) = inside in_loop (statements_same block then same cond)
  statement_same line (if_statement branches last) = branches_same branches then otherwise_same last
  statement_same line (numeric_for name first last step block) = record {
    same = λ place.
        (same_declares line 3 (name ∷ []) then ((same first then (same last then step_same step))
        then inside (λ inner. in_loop (with_locals 3 (name ∷ []) place.declarations inner)) (statements_same block))).same place;
  }
  statement_same line (generic_for names es block) = record {
    same = λ place.
        (same_declares line 3 names then (expressions_same es then inside (λ inner. in_loop (with_locals 3 names place.declarations inner)) (statements_same block))).same place;
  }
  statement_same line (function_statement path method body) = same_path line path then body_same (is_some method) body
  statement_same line (local_function name body) = record {
    same = λ place.
        (same_declares line 0 (name ∷ []) then (same_come 0 (name ∷ []) place.declarations then body_same false body)).same place;
  }
  statement_same line (local_statement names es) = record { same = λ place. (same_declares line 0 names then (expressions_same es then same_come 0 names place.declarations)).same place }
  statement_same line (return_statement es) = expressions_same es
  statement_same line break_statement = record { same = λ place. refl }

  branches_same : (branches : Branches) → SameMarks (branches_part branches) (branches_part (bare_branches branches))
  branches_same no_branches = no_marks
  branches_same (branch cond block rest) = same cond then (inside stay (statements_same block) then branches_same rest)

  otherwise_same : (last : Otherwise) → SameMarks (otherwise_part last) (otherwise_part (bare_otherwise last))
  otherwise_same no_otherwise = no_marks
  otherwise_same (otherwise block) = inside stay (statements_same block)

  step_same : (step : ForStep) → SameMarks (step_part step) (step_part (bare_step step))
  step_same no_step = no_marks
  step_same (by_step e) = same e

  body_same : (method : Bool) (body : FunctionBody) → SameMarks (body_part method body) (body_part method (bare_body body))
  body_same method (function_body params vararg block first last) =
      opens then inside (in_function vararg) (record {
        same = λ place.
            (same_declares first 0 (all_params method params) then (same_come 0 (all_params method params) place.declarations then statements_same block)).same place;
      })

  expressions_same : (es : Expressions) → SameMarks (expressions_part es) (expressions_part (bare_expressions es))
  expressions_same no_expressions = no_marks
  expressions_same (syntax.expression e rest) = same e then expressions_same rest

  same : (e : Expression) → SameMarks (expression_part e) (expression_part (bare_expression e))
  same (vararg_expression line) = record { same = λ place. refl }
  same (name_expression line name) = same_mentions line name
  same (function_expression line body) = body_same false body
  same (index_expression line on key) = same on then same key
  same (field_expression line on name) = same on
  same (call_expression line on args on_line) = same on then arguments_same args
  same (method_call line on name args on_line) = same on then arguments_same args
  same (and_expression line left right) = same left then same right
  same (or_expression line left right) = same left then same right
  same (binary_expression line op left right) = same left then same right
  same (unary_expression line op e) = same e
  same (constructor line fields) = fields_same fields
  same (parenthesized line e) = same e
  same e = no_marks

  arguments_same : (args : Arguments) → SameMarks (arguments_part args) (arguments_part (bare_arguments args))
  arguments_same (argument_list es) = expressions_same es
  arguments_same (text_argument text) = no_marks
  arguments_same (table_argument fields) = fields_same fields

  fields_same : (fields : Fields) → SameMarks (fields_part fields) (fields_part (bare_fields fields))
  fields_same no_fields = no_marks
  fields_same (positional e separator rest) = same e then fields_same rest
  fields_same (named name e separator rest) = same e then fields_same rest
  fields_same (keyed key e separator rest) = (same key then same e) then fields_same rest

pub outline_same : (source : Source) → map one_line_mark (outline source) ≡ outline (bare source)
outline_same source = ap (λ (walk : Walk). walk.marks) ((statements_same source.body).same beginning)
