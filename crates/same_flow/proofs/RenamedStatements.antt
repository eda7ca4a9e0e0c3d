-- Plain statements of one step, plain expressions and tests make behind other labels what they make: the induction over the tree.
use Rattle.std.proofs.Common.{◌≡◌, ℕ, zero, suc, Bool, true, false, cond, List, [], ◌∷◌, length, refl, ap, ◌∙◌}
use Rattle.std.specs.Prelude.{Option, Some, None, is_some, ◌==◌, ◌&&◌}
use Rattle.lua_num.specs.Bytes.{Text}
use Rattle.lua_tree.specs.declared.tree.UnaryOp.{UnaryOp}
use Rattle.lua_tree.specs.Syntax as syntax
use Rattle.lua_tree.specs.Syntax.{Statement, assignment, call_statement, function_statement, local_function, local_statement, return_statement, Expressions, no_expressions, Expression, nil_literal, true_literal, false_literal, vararg_expression, number_literal, text_literal, name_expression, function_expression, index_expression, field_expression, call_expression, method_call, and_expression, or_expression, binary_expression, unary_expression, constructor, parenthesized, Arguments, argument_list, text_argument, table_argument, Fields, no_fields, positional, named, keyed}
use Rattle.lua_tree.specs.WellFormed.{is_call}
use Rattle.opcode.specs.declared.op.Op.{Op}
use Rattle.proto.specs.declared.parts.Constant.{Constant}
use Rattle.scheme.specs.Making.{Maker, Got, answer, read, Where, in_register, in_upvalue, in_globals, active_count}
use Rattle.scheme.specs.Expressions.{is_comparison, count_field, is_vararg, Coded, Target, name_target, part_target}
use Rattle.scheme.specs.Lists.{list_count}
use Rattle.scheme.specs.Functions.{Inner, coded_function}
use Rattle.scheme.specs.Scheme.{statement_made, inner, all_coded, coded, given, entries}
use Rattle.scheme.specs.Shapes.{Plainness, plain_comparison, plain_unary, plainness, plain_values, plain_arguments, plain_fields, plain_statement}
use Rattle.scheme.specs.Statements.{Loop, local_part, local_function_part, set_where, store_register, store_operand, store, all_targets, clashes, with_copy, copied, copies, each_stored, stored_from, assign_adjusted, assign_part, with_fields, path_from, with_method, return_operand, return_call, return_list, return_one, return_part}
use Rattle.same_flow.specs.Renaming.{IsOneStep, IsTested, StatementsRename}
use Rattle.same_flow.proofs.RenamedMakers.{SamePart, SameAsks, SameJump, bind, ◌then◌, no_part, either, either_asks, same_answer, same_free, same_abc, same_abx, same_take, same_constant, same_declare, same_activate, same_starts}
use Rattle.same_flow.proofs.RenamedExpressions.{Same, same_next, same_operand, same_rk, same_load, same_next_text, same_single, same_coded_name, same_index, same_field, same_paren, same_binary, same_tested, same_unary}
use Rattle.same_flow.proofs.RenamedLists.{AllSame, same_open, same_call_at, same_method_at, same_call, same_vararg, SameEntries, same_table_at, same_table, same_adjust, same_closure, same_coded_function}

-- ---- declarations

same_local : (line : ℕ) (names : List Text) (cs : List Coded) → AllSame cs → SamePart (local_part line names cs)
same_local line names cs s = bind (same_declare names) (λ locals. same_adjust line cs s (length names) then same_activate locals)

same_listed : SameAsks (read (λ m. length m.locals))
same_listed = record { same = λ numbers labels m. refl }

same_local_function : (line : ℕ) (text : Text) (inner : Inner) → SamePart (local_function_part line text inner)
same_local_function line text inner =
    bind (same_declare (text ∷ [])) (λ locals. bind same_free (λ register. bind same_listed (λ listed.
    same_take 1 then same_activate locals then same_closure line inner register then same_starts listed)))

-- ---- assignments

same_set : (line register : ℕ) (text : Text) (w : Where) → SamePart (set_where line register text w)
same_set line r text (in_register x) = same_abc line Op.Move x r 0
same_set line r text (in_upvalue slot) = same_abc line Op.SetUpval r slot 0
same_set line r text in_globals = bind (same_constant (Constant.Text text)) (λ k. same_abx line Op.SetGlobal r k)

same_store_register : (line : ℕ) (target : Target) (register : ℕ) → SamePart (store_register line target register)
same_store_register line (name_target text w) r = same_set line r text w
same_store_register line (part_target on key on_local key_local) r = same_abc line Op.SetTable on key r

same_store_operand : {c : Coded} (line : ℕ) (text : Text) (w : Where) → Same c → SamePart (store_operand line text w c)
same_store_operand line text w s = bind (same_operand s) (λ r. same_set line r text w)

same_store : {c : Coded} (line : ℕ) (target : Target) → Same c → SamePart (store line target c)
same_store line (name_target text (in_register x)) s = s.to_reg x
same_store line (name_target text (in_upvalue slot)) s = same_store_operand line text (in_upvalue slot) s
same_store line (name_target text in_globals) s = same_store_operand line text in_globals s
same_store line (part_target on key on_local key_local) s = bind (same_rk s) (λ v. same_abc line Op.SetTable on key v)

same_targets : (cs : List Coded) → AllSame cs → SameAsks (all_targets cs)
same_targets [] s = record { same = λ numbers labels m. refl }
same_targets (c ∷ cs) s = record {
  same = λ numbers labels m.
      let target = c.target m in
      ap (λ (targets : Got (List Target)). record { value = target.value ∷ targets.value; after = targets.after }) ((same_targets cs s.1).same numbers labels target.after)
      ∙ ap (λ (got : Got Target). record { value = got.value ∷ (all_targets cs got.after).value; after = (all_targets cs got.after).after }) (s.0.target.same numbers labels m);
}

same_copied : (line x : ℕ) (targets : List Target) → SameAsks (copied line x targets)
same_copied line x targets = record {
  same = λ numbers labels m.
      ap (λ (n : Maker). record { value = with_copy x m.free targets; after = n }) ((same_take 1 then same_abc line Op.Move m.free x 0).same numbers labels m);
}

same_copies : (line count : ℕ) (targets : List Target) → SameAsks (copies line count targets)
same_copies line zero targets = record { same = λ numbers labels m. refl }
same_copies line (suc x) targets = record {
  same = λ numbers labels m.
      let before = copies line x targets m in
      (either_asks (clashes x targets) (same_copied line x before.value) (same_answer before.value)).same numbers labels before.after
      ∙ ap (λ (got : Got (List Target)). cond (clashes x targets) (copied line x got.value) (answer got.value) got.after) ((same_copies line x targets).same numbers labels m);
}

same_each : (line : ℕ) (targets : List Target) (cs : List Coded) → AllSame cs → SamePart (each_stored line targets cs)
same_each line [] cs s = record { same = λ numbers labels m. refl }
same_each line (target ∷ []) [] s = record { same = λ numbers labels m. refl }
same_each line (target ∷ other ∷ targets) [] s = record { same = λ numbers labels m. refl }
same_each line (target ∷ []) (c ∷ cs) s = record { same = (same_store line target s.0).same }
same_each line (target ∷ other ∷ targets) (c ∷ cs) s = record {
  same = λ numbers labels m. (same_next s.0 then same_each line (other ∷ targets) cs s.1 then same_store_register line target m.free).same numbers labels m;
}

same_stored : (line register : ℕ) (targets : List Target) → SamePart (stored_from line register targets)
same_stored line r [] = no_part
same_stored line r (target ∷ targets) = same_stored line (suc r) targets then same_store_register line target r

same_assign_adjusted : (line : ℕ) (targets : List Target) (cs : List Coded) → AllSame cs → SamePart (assign_adjusted line targets cs)
same_assign_adjusted line targets cs s = bind same_free (λ base. same_adjust line cs s (length targets) then same_stored line base targets)

same_active : SameAsks (read active_count)
same_active = record { same = λ numbers labels m. refl }

same_assign : (line : ℕ) (targets cs : List Coded) → AllSame targets → AllSame cs → SamePart (assign_part line targets cs)
same_assign line targets cs t s =
    bind (same_targets targets t) (λ parts. bind same_active (λ count. bind (same_copies line count parts) (λ places.
    either (length cs == length targets) (same_each line places cs s) (same_assign_adjusted line places cs s))))

same_fields : (line : ℕ) (texts : List Text) (c : Coded) → Same c → Same (with_fields line c texts)
same_fields line [] c s = s
same_fields line (text ∷ texts) c s = same_fields line texts _ (same_field line (field_expression line c.e text) text s)

same_path : (line : ℕ) (path : List Text) → Same (path_from line path)
same_path line [] = same_coded_name line []
same_path line (text ∷ texts) = same_fields line texts _ (same_coded_name line text)

same_method : (line : ℕ) (path : List Text) (method : Option Text) → Same (with_method line (path_from line path) method)
same_method line path None = same_path line path
same_method line path (Some text) = same_field line (field_expression line (path_from line path).e text) text (same_path line path)

-- ---- return

same_return_operand : {c : Coded} (line : ℕ) → Same c → SamePart (return_operand line c)
same_return_operand line s = bind (same_operand s) (λ x. same_abc line Op.Return x 2 0)

same_return_call : {c : Coded} (line : ℕ) → Same c → SamePart (return_call line c)
same_return_call line s = bind same_free (λ base. s.multi Op.TailCall None then same_abc line Op.Return base 0 0)

same_return_list : (line : ℕ) (cs : List Coded) → AllSame cs → SamePart (return_list line cs)
same_return_list line cs s = bind same_free (λ base. same_open cs s then same_abc line Op.Return base (count_field 1 (list_count cs)) 0)

same_return_one : {c : Coded} (line : ℕ) → Same c → SamePart (return_one line c)
same_return_one {c} line s = either (is_call c.e) (same_return_call line s) (either (is_vararg c.e) (same_return_list line (c ∷ []) (s, tt)) (same_return_operand line s))

same_return : (line : ℕ) (cs : List Coded) → AllSame cs → SamePart (return_part line cs)
same_return line [] s = same_abc line Op.Return 0 1 0
same_return line (c ∷ []) s = same_return_one line s.0
same_return line (c ∷ d ∷ cs) s = same_return_list line (c ∷ d ∷ cs) s

-- ---- plain trees

first_plain : (a b : Bool) → (a && b) ≡ true → a ≡ true
first_plain true b is = refl
first_plain false b is = is

second_plain : (a b : Bool) → (a && b) ≡ true → b ≡ true
second_plain true b is = is
second_plain false b is = cc

-- an operator whose value is plain is no comparison, and its parts are plain
no_comparison : (comparison parts : Bool) → (plain_comparison comparison parts).value ≡ true → comparison ≡ false
no_comparison true parts is = cc
no_comparison false parts is = refl

value_parts : (comparison parts : Bool) → (plain_comparison comparison parts).value ≡ true → parts ≡ true
value_parts true parts is = cc
value_parts false parts is = is

tested_parts : (comparison parts : Bool) → (plain_comparison comparison parts).condition ≡ true → parts ≡ true
tested_parts true parts is = is
tested_parts false parts is = is

unary_part : (op : UnaryOp) (e : Plainness) → (plain_unary op e).value ≡ true → e.value ≡ true
unary_part UnaryOp.Not e is = is
unary_part UnaryOp.Neg e is = is
unary_part UnaryOp.Len e is = is

mutual
  all_same : (es : Expressions) → plain_values es ≡ true → AllSame (all_coded es)
  all_same no_expressions is = tt
  all_same (syntax.expression e rest) is = (same e (first_plain _ _ is), all_same rest (second_plain (plainness e).value _ is))

  same : (e : Expression) → (plainness e).value ≡ true → Same (coded e)
  same (nil_literal line) is = same_single line (nil_literal line) _ (λ r. same_abc line Op.LoadNil r r 0)
  same (true_literal line) is = same_single line (true_literal line) _ (λ r. same_abc line Op.LoadBool r 1 0)
  same (false_literal line) is = same_single line (false_literal line) _ (λ r. same_abc line Op.LoadBool r 0 0)
  same (vararg_expression line) is = same_vararg line
  same (number_literal line n) is = same_single line (number_literal line n) _ (λ r. same_load line r (Constant.Number n))
  same (text_literal line text) is = same_single line (text_literal line text) _ (λ r. same_load line r (Constant.Text text))
  same (name_expression line text) is = same_coded_name line text
  same (function_expression line body) is = same_coded_function line body (inner body false)
  same (index_expression line on key) is = same_index line (index_expression line on key) (same on (first_plain _ _ is)) (same key (second_plain (plainness on).value _ is))
  same (field_expression line on text) is = same_field line (field_expression line on text) text (same on is)
  same (call_expression line on args on_line) is =
      same_call line (call_expression line on args on_line) _ (same_call_at line (given args line) (same on (first_plain _ _ is)) (given_same args line (second_plain (plainness on).value _ is)))
  same (method_call line on text args on_line) is =
      same_call line (method_call line on text args on_line) _ (same_method_at line text (given args line) (same on (first_plain _ _ is)) (given_same args line (second_plain (plainness on).value _ is)))
  same (and_expression line left right) is = absurd cc
  same (or_expression line left right) is = absurd cc
  same (binary_expression line op left right) is =
      let parts = value_parts (is_comparison op) _ is in
      same_binary line op (binary_expression line op left right) (no_comparison (is_comparison op) _ is) (same left (first_plain _ _ parts)) (same right (second_plain (plainness left).value _ parts))
  same (unary_expression line op e) is = same_unary line op (unary_expression line op e) (same e (unary_part op (plainness e) is))
  same (constructor line fields) is = same_table line fields (entries fields) (entries_same fields is)
  same (parenthesized line e) is = same_paren (parenthesized line e) (same e is)

  given_same : (args : Arguments) (line : ℕ) → plain_arguments args ≡ true → SamePart (given args line).part
  given_same (argument_list es) line is = same_open (all_coded es) (all_same es is)
  given_same (text_argument text) line is = same_next_text line text
  given_same (table_argument fields) line is = same_table_at line (entries fields) (entries_same fields is)

  entries_same : (fields : Fields) → plain_fields fields ≡ true → SameEntries (entries fields)
  entries_same no_fields is = tt
  entries_same (positional e separator rest) is = (same e (first_plain _ _ is), entries_same rest (second_plain (plainness e).value _ is))
  entries_same (named text e separator rest) is = (same e (first_plain _ _ is), entries_same rest (second_plain (plainness e).value _ is))
  entries_same (keyed key e separator rest) is =
      let both = first_plain ((plainness key).value && (plainness e).value) (plain_fields rest) is in
      ((same key (first_plain _ _ both), same e (second_plain (plainness key).value _ both)), entries_same rest (second_plain ((plainness key).value && (plainness e).value) _ is))

-- ---- what is stated

statement_same : (s : Statement) (line : ℕ) (loop : Option Loop) → IsOneStep s → plain_statement s ≡ true → SamePart (statement_made s line loop)
statement_same (assignment targets es) line loop step is = same_assign line _ _ (all_same targets (first_plain _ _ is)) (all_same es (second_plain (plain_values targets) _ is))
statement_same (call_statement e) line loop step is = (same e is).multi Op.Call (Some 0)
statement_same (function_statement path method body) line loop step is =
    same_assign line (with_method line (path_from line path) method ∷ []) (coded_function line body (inner body (is_some method)) ∷ [])
    (same_method line path method, tt) (same_coded_function line body (inner body (is_some method)), tt)
statement_same (local_function text body) line loop step is = same_local_function line text (inner body false)
statement_same (local_statement names es) line loop step is = same_local line names _ (all_same es is)
statement_same (return_statement es) line loop step is = same_return line _ (all_same es is)
statement_same s line loop step is = absurd step

test_same : (e : Expression) → IsTested e → (truth : Bool) → SameJump ((coded e).jump_if truth)
test_same (binary_expression line op left right) is truth =
    let parts = tested_parts (is_comparison op) _ is in
    same_tested line op (binary_expression line op left right) (same left (first_plain _ _ parts)) (same right (second_plain (plainness left).value _ parts)) truth
test_same e is truth = (same e is).jump_if truth

pub statements_rename : StatementsRename
statements_rename = record {
  statements = λ numbers labels s line loop step is. record { same = (statement_same s line loop step is).same numbers labels };
  tests = λ numbers labels e is truth label. record { same = (test_same e is truth).same numbers labels label };
  values = λ numbers labels e is. record { same = (same_next (same e is)).same numbers labels };
  adjusted = λ numbers labels line es count is. record { same = (same_adjust line (all_coded es) (all_same es is) count).same numbers labels };
}
