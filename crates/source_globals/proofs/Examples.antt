-- Worked examples.
use Rattle.std.proofs.Common.{◌≡◌, refl, [], ◌∷◌}
use Rattle.std.specs.Prelude.{codes, pos, false, None, Some}
use Rattle.lua_tree.specs.Syntax.{no_statements, statement, assignment, call_statement, if_statement, function_statement, local_statement, branch, no_branches, no_otherwise, function_body, no_expressions, expression, nil_literal, number_literal, name_expression, field_expression, index_expression, call_expression, argument_list, Source}
use Rattle.global_use.specs.Uses.{gets, sets}
use Rattle.scheme.specs.Scheme.{scheme}
use Rattle.source_globals.specs.Named.{source_gets, source_sets}

-- `x=1 if nil then y() end print(x)`
abbrev example : Source
example = record {
  body =
      statement 1 false (assignment (expression (name_expression 1 (codes "x")) no_expressions) (expression (number_literal 1 (pos 1)) no_expressions))
      (statement 1 false (if_statement (branch (nil_literal 1) (statement 1 false (call_statement (call_expression 1 (name_expression 1 (codes "y")) (argument_list no_expressions) 1)) no_statements) no_branches) no_otherwise)
      (statement 1 false (call_statement (call_expression 1 (name_expression 1 (codes "print")) (argument_list (expression (name_expression 1 (codes "x")) no_expressions)) 1)) no_statements));
  last_line = 1;
}

gets_print : source_gets example (codes "print") ≡ 1
gets_print = refl

gets_x : source_gets example (codes "x") ≡ 1
gets_x = refl

gets_y : source_gets example (codes "y") ≡ 1
gets_y = refl

sets_x : source_sets example (codes "x") ≡ 1
sets_x = refl

sets_print : source_sets example (codes "print") ≡ 0
sets_print = refl

-- and so does its chunk
chunk_gets_x : gets (scheme example (codes "e")) (codes "x") ≡ 1
chunk_gets_x = refl

chunk_sets_x : sets (scheme example (codes "e")) (codes "x") ≡ 1
chunk_sets_x = refl

-- `local a a.b=a[c] function f() a=f end function g.h() end`: what is indexed is got, a function statement sets a path of one name, and a local
-- is no global
abbrev functions : Source
functions = record {
  body =
      statement 1 false (local_statement (codes "a" ∷ []) no_expressions)
      (statement 1 false (assignment (expression (field_expression 1 (name_expression 1 (codes "a")) (codes "b")) no_expressions) (expression (index_expression 1 (name_expression 1 (codes "a")) (name_expression 1 (codes "c"))) no_expressions))
      (statement 1 false (function_statement (codes "f" ∷ []) None (function_body [] false (statement 1 false (assignment (expression (name_expression 1 (codes "a")) no_expressions) (expression (name_expression 1 (codes "f")) no_expressions)) no_statements) 1 1))
      (statement 1 false (function_statement (codes "g" ∷ codes "h" ∷ []) None (function_body [] false no_statements 1 1)) no_statements)));
  last_line = 1;
}

sets_f : source_sets functions (codes "f") ≡ 1
sets_f = refl

gets_f : source_gets functions (codes "f") ≡ 1
gets_f = refl

gets_g : source_gets functions (codes "g") ≡ 1
gets_g = refl

sets_g : source_sets functions (codes "g") ≡ 0
sets_g = refl

gets_c : source_gets functions (codes "c") ≡ 1
gets_c = refl

gets_a : source_gets functions (codes "a") ≡ 0
gets_a = refl

sets_a : source_sets functions (codes "a") ≡ 0
sets_a = refl

chunk_gets_f : gets (scheme functions (codes "e")) (codes "f") ≡ 1
chunk_gets_f = refl

chunk_sets_f : sets (scheme functions (codes "e")) (codes "f") ≡ 1
chunk_sets_f = refl
