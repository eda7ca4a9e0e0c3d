-- A name that is free in a function whose statements may have blocks, and is in scope around it, is among the names of its upvalues.
use Rattle.std.proofs.Common.{◌≡◌, ℕ, Bool, true, false, List, [], ◌∷◌, length, Option, Some, None, refl}
use Rattle.std.specs.Prelude.{◌||◌, ◌+◌, not, is_some, drop}
use Rattle.std.specs.Str.{bytes_eq}
use Rattle.lua_num.specs.Bytes.{Text}
use Rattle.lua_tree.specs.Outline.{all_params}
use Rattle.lua_tree.specs.Syntax as syntax
use Rattle.lua_tree.specs.Syntax.{Arguments, argument_list, text_argument, table_argument, Branches, no_branches, branch, Otherwise, no_otherwise, otherwise, ForStep, no_step, by_step, Expression, Expressions, no_expressions, Fields, no_fields, positional, named, keyed, FunctionBody, function_body, Statement, Statements, no_statements, assignment, call_statement, do_block, while_loop, repeat_loop, if_statement, numeric_for, generic_for, function_statement, local_function, local_statement, return_statement, break_statement, nil_literal, true_literal, false_literal, vararg_expression, number_literal, text_literal, name_expression, function_expression, index_expression, field_expression, call_expression, method_call, and_expression, or_expression, binary_expression, unary_expression, constructor, parenthesized}
use Rattle.opcode.specs.declared.op.Op.{Op}
use Rattle.proto.specs.Chunk.{Chunk}
use Rattle.scheme.specs.Making.{Ahead, any_captured}
use Rattle.scheme.specs.Scheme.{has_otherwise}
use Rattle.scheme.specs.Statements.{generic_names, numeric_names}
use Rattle.scheme.specs.declared.making.Active.{Active}
use Rattle.scheme.specs.declared.making.Local.{Local}
use Rattle.scheme_stands.specs.Expressions.{Rel, form_of}
use Rattle.scheme_stands.specs.Functions.{Activated, Declared}
use Rattle.scheme_stands.specs.Relation.{BranchesAt, FunctionOf, OtherwiseAt, StatementAt, StatementsAt, StepAt, given_rel, related}
use Rattle.scheme_stands.specs.Statements.{LoopAt, UntilBy}
use Rattle.scheme_stands.specs.Words.{Fn, Names, asking, fn, is_among, own_register}
use Rattle.reads_back.proofs.FreeFound.{EachFinds, Finds, IsCapturedInside, IsOutside, ItemsFind, UsesFind, adjust_finds, binary_finds, call_finds, closed_uses, constructor_finds, field_finds, function_finds, function_uses, index_finds, is_not, logic_finds, method_finds, name_finds, open_finds, parenthesized_finds, table_finds, unary_finds}
use Rattle.reads_back.proofs.FreeNames.{brings, brings_in_block, free_in, free_in_all, free_in_block, free_in_body, free_in_branches, free_in_given, free_in_statement, free_in_step, free_otherwise}
use Rattle.reads_back.proofs.FreeStatements.{AreApart, assignment_finds, block_keeps_none, declared_apart, function_statement_finds, none_activated, return_finds, statement_keeps_none}
use Rattle.reads_back.proofs.Tests.{first_of_both, not_so, second_of_both, of_either}

-- ---- where the name is none of the locals that become active

outside_of : (text : Text) (n : Names) (active after : List Active) → IsOutside text n active → own_register text after ≡ None → IsOutside text n after
outside_of text n active after outside none = record { around = outside.around; none = none }

-- the hidden locals of a loop and its variables, none of which has it
turn_outside : (text : Text) (n : Names) (active around inner : List Active) (hidden variables : List Local) (names : List Text) (before behind : Ahead) → AreApart text hidden →
    Activated hidden active around →
    Declared names before variables behind → is_among text names ≡ false → Activated variables around inner → IsOutside text n active → IsOutside text n inner
turn_outside text n active around inner hidden variables names before behind apart activated declared apart_names activated_names outside =
    outside_of text n active inner outside
    (none_activated text variables around inner (declared_apart text names before variables behind declared apart_names) activated_names (none_activated text hidden active around apart activated outside.none))

or_false : (a : Bool) → a ≡ false → (a || false) ≡ false
or_false a is = cc

-- the condition of a `repeat`
until_found : (text : Text) (n : Names) (g : Fn) (free captured : Bool) (test : Rel) (inner : List Active) (count exit first : ℕ) → UsesFind text n free inner test →
    Finds text n free (UntilBy captured g test inner count exit first)
until_found text n g free true test inner count exit first finds p q at = finds.jump_if (length inner) false at.again.pc p at.closing at.test_at
until_found text n g free false test inner count exit first finds p q at = finds.jump_if (length inner) false first p q at

-- ---- the recursion

module _ (text : Text) where
  mutual
    expression_found : (e : Expression) (n : Names) (f : Fn) (active : List Active) → IsOutside text n active → UsesFind text n (free_in text e) active (related (asking n f) e)
    expression_found (nil_literal line) n f active outside = closed_uses text n f active (related (asking n f) (nil_literal line))
    expression_found (true_literal line) n f active outside = closed_uses text n f active (related (asking n f) (true_literal line))
    expression_found (false_literal line) n f active outside = closed_uses text n f active (related (asking n f) (false_literal line))
    expression_found (vararg_expression line) n f active outside = closed_uses text n f active (related (asking n f) (vararg_expression line))
    expression_found (number_literal line x) n f active outside = closed_uses text n f active (related (asking n f) (number_literal line x))
    expression_found (text_literal line it) n f active outside = closed_uses text n f active (related (asking n f) (text_literal line it))
    expression_found (name_expression line name) n f active outside = name_finds text n f active outside name
    expression_found (function_expression line body) n f active outside = function_uses text n f active outside line body (body_found body false)
    expression_found (index_expression line on key) n f active outside = index_finds text n f active line on key (expression_found on n f active outside) (expression_found key n f active outside)
    expression_found (field_expression line on name) n f active outside = field_finds text n f active line on name (expression_found on n f active outside)
    expression_found (call_expression line on args on_line) n f active outside =
        call_finds text n f active (free_in text on) (free_in_given text args) (form_of (call_expression line on args on_line)) (related (asking n f) on) (given_rel (asking n f) args) refl (λ k is. absurd cc)
        (expression_found on n f active outside) (given_found args n f active outside)
    expression_found (method_call line on name args on_line) n f active outside =
        method_finds text n f active (free_in text on) (free_in_given text args) (form_of (method_call line on name args on_line)) (related (asking n f) on) name (given_rel (asking n f) args) refl (λ k is. absurd cc)
        (expression_found on n f active outside) (given_found args n f active outside)
    expression_found (and_expression line left right) n f active outside =
        logic_finds text n f active (free_in text left) (free_in text right) (related (asking n f) left) (related (asking n f) right) (expression_found left n f active outside) (expression_found right n f active outside)
        false (form_of (and_expression line left right)) refl (λ k is. absurd cc)
    expression_found (or_expression line left right) n f active outside =
        logic_finds text n f active (free_in text left) (free_in text right) (related (asking n f) left) (related (asking n f) right) (expression_found left n f active outside) (expression_found right n f active outside)
        true (form_of (or_expression line left right)) refl (λ k is. absurd cc)
    expression_found (binary_expression line op left right) n f active outside = binary_finds text n f active line op left right (expression_found left n f active outside) (expression_found right n f active outside)
    expression_found (unary_expression line op e) n f active outside = unary_finds text n f active line op e (expression_found e n f active outside)
    expression_found (constructor line fields) n f active outside = constructor_finds text n f active line fields (fields_found fields n f active outside)
    expression_found (parenthesized line e) n f active outside = parenthesized_finds text n f active line e (expression_found e n f active outside)

    each_found : (es : Expressions) (n : Names) (f : Fn) (active : List Active) → IsOutside text n active → EachFinds text n f active es
    each_found no_expressions n f active outside = tt
    each_found (syntax.expression e es) n f active outside = (expression_found e n f active outside, each_found es n f active outside)

    fields_found : (fields : Fields) (n : Names) (f : Fn) (active : List Active) → IsOutside text n active → ItemsFind text n f active fields
    fields_found no_fields n f active outside = tt
    fields_found (positional e separator rest) n f active outside = (expression_found e n f active outside, fields_found rest n f active outside)
    fields_found (named name e separator rest) n f active outside = (expression_found e n f active outside, fields_found rest n f active outside)
    fields_found (keyed key e separator rest) n f active outside = (expression_found key n f active outside, expression_found e n f active outside, fields_found rest n f active outside)

    given_found : (args : Arguments) (n : Names) (f : Fn) (active : List Active) → IsOutside text n active → (from : ℕ) →
        Finds text n (free_in_given text args) ((given_rel (asking n f) args).part active from)
    given_found (argument_list es) n f active outside from = open_finds text n f active es (each_found es n f active outside) from
    given_found (text_argument it) n f active outside from = λ p q at. not_so
    given_found (table_argument fields) n f active outside from = table_finds text n f active fields (fields_found fields n f active outside) from

    for_step_found : (by : ForStep) (n : Names) (f : Fn) (active : List Active) → IsOutside text n active → (from : ℕ) → Finds text n (free_in_step text by) (StepAt (asking n f) by active from)
    for_step_found no_step n f active outside from = λ p q at. not_so
    for_step_found (by_step e) n f active outside from = (expression_found e n f active outside).to_reg from from

    block_found : (block : Statements) (n : Names) (f : Fn) (loop : Option LoopAt) (active after : List Active) → IsOutside text n active →
        Finds text n (free_in_block text block) (StatementsAt (asking n f) loop block active after)
    block_found no_statements n f loop active after outside p q at = not_so
    block_found (syntax.statement line semi s rest) n f loop active after outside p q at = λ is.
        of_either (free_in_statement text s) _ is (statement_found s n f loop active at.between outside p at.mid at.first_at)
        (λ is.
        let apart = is_not (brings text s) (first_of_both _ _ is) in
        let behind = outside_of text n active at.between outside (statement_keeps_none text (asking n f) loop s active at.between p at.mid at.first_at apart outside.none) in
        block_found rest n f loop at.between after behind at.mid q at.rest_at (second_of_both (not (brings text s)) _ is))

    statement_found : (s : Statement) (n : Names) (f : Fn) (loop : Option LoopAt) (active after : List Active) → IsOutside text n active →
        Finds text n (free_in_statement text s) (StatementAt (asking n f) loop s active after)
    statement_found (call_statement e) n f loop active after outside p q at = (expression_found e n f active outside).multi (length active) Op.Call (Some 0) p q at.part_at
    statement_found (assignment targets es) n f loop active after outside p q at =
        assignment_finds text n f active targets es (each_found targets n f active outside) (each_found es n f active outside) p q at.part_at
    statement_found (local_statement names es) n f loop active after outside p q at = adjust_finds text n f active es (length names) (each_found es n f active outside) (length active) at.mid q at.values_at
    statement_found (return_statement es) n f loop active after outside p q at = return_finds text n f active es (each_found es n f active outside) p q at.part_at
    statement_found (function_statement path method body) n f loop active after outside p q at =
        function_statement_finds text n f active outside path method body (body_found body (is_some method)) p q at.part_at
    statement_found (local_function name body) n f loop active after outside p q at = λ is.
        let apart = or_false (bytes_eq text name) (is_not (bytes_eq text name) (first_of_both _ _ is)) in
        let none = none_activated text at.locals active after (declared_apart text (name ∷ []) p.ahead at.locals at.mid.ahead at.declared apart) at.activated outside.none in
        function_finds text n f after (outside_of text n active after outside none) body false (body_found body false) (length active + 1) (length active) at.mid q at.closure_at (second_of_both (not (bytes_eq text name)) _ is)
    statement_found (do_block block) n f loop active after outside p q at = block_found block n f loop active at.part_at.inner outside p at.part_at.mid at.part_at.body_at
    statement_found (while_loop e block) n f loop active after outside p q at = λ is.
        let part = at.part_at in
        of_either (free_in text e) _ is ((expression_found e n f active outside).jump_if (length active) false q.pc p part.mid part.test_at)
        (block_found block n f (Some (record { exit = q.pc; before = length active })) active part.body_at.inner outside part.mid part.body_at.mid part.body_at.body_at)
    statement_found (repeat_loop block e) n f loop active after outside p q at = λ is.
        let part = at.part_at in
        let inside : Option LoopAt = Some (record { exit = q.pc; before = length active }) in
        of_either (free_in_block text block) _ is (block_found block n f inside active part.inner outside p part.mid part.body_at)
        (λ is.
        let apart = is_not (brings_in_block text block) (first_of_both _ _ is) in
        let inner = outside_of text n active part.inner outside (block_keeps_none text (asking n f) inside block active part.inner p part.mid part.body_at apart outside.none) in
        until_found text n (asking n f) (free_in text e) (any_captured (drop (length active) part.inner)) (related (asking n f) e) part.inner (length active) q.pc p.pc (expression_found e n f part.inner inner) part.mid q part.until (second_of_both (not (brings_in_block text block)) _ is))
    statement_found (if_statement branches last) n f loop active after outside p q at = λ is.
        of_either (free_in_branches text branches) _ is (branches_found branches n f loop q.pc (has_otherwise last) active outside p at.part_at.mid at.part_at.first_at)
        (otherwise_found last n f loop active outside at.part_at.mid q at.part_at.second_at)
    statement_found (numeric_for name first last by block) n f loop active after outside p q at = λ is.
        let part = at.part_at in
        let turn = part.turn_at in
        of_either (free_in text first) _ is ((expression_found first n f active outside).to_reg (length active) (length active) part.declared_by part.with_first part.first_at)
        (λ is. of_either (free_in text last) _ is ((expression_found last n f active outside).to_reg (length active + 1) (length active + 1) part.with_first part.with_last part.last_at)
        (λ is. of_either (free_in_step text by) _ is (for_step_found by n f active outside (length active + 2) part.with_last part.with_step part.step_at)
        (λ is.
        let apart = or_false (bytes_eq text name) (is_not (bytes_eq text name) (first_of_both _ _ is)) in
        let inner = turn_outside text n active part.around turn.inner numeric_names part.variables (name ∷ []) p.ahead part.declared_by.ahead (refl, (refl, (refl, tt))) part.hidden part.declared apart turn.activated outside in
        block_found block n f (Some (record { exit = q.pc; before = length active })) turn.inner turn.block_at.inner inner part.begin turn.block_at.mid turn.block_at.body_at (second_of_both (not (bytes_eq text name)) _ is))))
    statement_found (generic_for names es block) n f loop active after outside p q at = λ is.
        let part = at.part_at in
        let turn = part.turn_at in
        of_either (free_in_all text es) _ is (adjust_finds text n f active es 3 (each_found es n f active outside) (length active) part.declared_by part.valued part.values_at)
        (λ is.
        let apart = is_not (is_among text names) (first_of_both _ _ is) in
        let inner = turn_outside text n active part.around turn.inner generic_names part.variables names p.ahead part.declared_by.ahead (refl, (refl, (refl, tt))) part.hidden part.declared apart turn.activated outside in
        block_found block n f (Some (record { exit = q.pc; before = length active })) turn.inner turn.block_at.inner inner part.begin turn.block_at.mid turn.block_at.body_at (second_of_both (not (is_among text names)) _ is))
    statement_found break_statement n f loop active after outside p q at = not_so

    branches_found : (branches : Branches) (n : Names) (f : Fn) (loop : Option LoopAt) (end : ℕ) (more : Bool) (active : List Active) → IsOutside text n active →
        Finds text n (free_in_branches text branches) (BranchesAt (asking n f) loop end more branches active)
    branches_found no_branches n f loop end more active outside p q at = not_so
    branches_found (branch e block rest) n f loop end more active outside p q at = λ is.
        let arm = at.first_at in
        of_either (free_in text e || free_in_block text block) _ is
        (λ is. of_either (free_in text e) _ is ((expression_found e n f active outside).jump_if (length active) false at.mid.pc p arm.mid arm.test_at)
        (block_found block n f loop active arm.body_at.inner outside arm.mid arm.body_at.mid arm.body_at.body_at))
        (branches_found rest n f loop end more active outside at.mid q at.second_at)

    otherwise_found : (last : Otherwise) (n : Names) (f : Fn) (loop : Option LoopAt) (active : List Active) → IsOutside text n active →
        Finds text n (free_otherwise text last) (OtherwiseAt (asking n f) loop last active)
    otherwise_found no_otherwise n f loop active outside p q at = not_so
    otherwise_found (otherwise block) n f loop active outside p q at = block_found block n f loop active at.inner outside p at.mid at.body_at

    body_found : (body : FunctionBody) (method : Bool) → IsCapturedInside text body method
    body_found (function_body params vararg block first last) method n before behind chunk at around is =
        let all = all_params method params in
        let function = at.at in
        let apart = is_not (is_among text all) (first_of_both _ _ is) in
        let none = none_activated text function.locals [] function.active (declared_apart text all before function.locals function.first.ahead function.declared apart) function.activated refl in
        block_found block n (fn None chunk) None function.active function.inner (record { around = around; none = none }) function.first function.mid function.body_at (second_of_both (not (is_among text all)) _ is)

-- ---- functions

-- whatever its statements are
pub captured_wherever_free : (body : FunctionBody) (method : Bool) (text : Text) (n : Names) (before behind : Ahead) (chunk : Chunk) → FunctionOf body method (Some n) before behind chunk →
    is_among text n.around ≡ true → free_in_body text method body ≡ true → is_among text n.upvalues ≡ true
captured_wherever_free body method text = body_found text body method
