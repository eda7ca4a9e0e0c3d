-- Every part of a tree adds the uses of its mentions.
use Rattle.std.proofs.Common.{◌≡◌, ◌≤◌, ℕ, zero, suc, ◌+◌, Bool, true, false, List, [], ◌∷◌, ◌++◌, length, refl, sym, ap, ◌∙◌, subst, arith}
use Rattle.std.specs.Prelude.{Option, Some, None, ℤ, ◌&&◌, ◌||◌, is_some}
use Rattle.lua_num.specs.Bytes.{Text}
use Rattle.lua_num.specs.declared.arith.ArithOp.{ArithOp}
use Rattle.lua_tree.specs.declared.tree.UnaryOp.{UnaryOp}
use Rattle.lua_tree.specs.Syntax as syntax
use Rattle.lua_tree.specs.Syntax.{Statements, no_statements, Statement, assignment, call_statement, do_block, while_loop, repeat_loop, if_statement, numeric_for, generic_for, function_statement, local_function, local_statement, return_statement, break_statement, Branches, no_branches, branch, Otherwise, no_otherwise, otherwise, ForStep, no_step, by_step, FunctionBody, function_body, Expressions, no_expressions, Expression, nil_literal, true_literal, false_literal, vararg_expression, number_literal, text_literal, name_expression, function_expression, index_expression, field_expression, call_expression, method_call, and_expression, or_expression, binary_expression, unary_expression, constructor, parenthesized, Arguments, argument_list, text_argument, table_argument, Fields, no_fields, positional, named, keyed, Source}
use Rattle.lua_tree.specs.Outline.{all_params}
use Rattle.lua_tree.specs.WellFormed.{is_call, is_target, is_prefix, are_targets, has_expressions, has_branches, is_optional_name, on_its_line, ends_item, may_follow, formed_statements, formed_statement, formed_branches, formed_otherwise, formed_step, formed_body, formed_expressions, formed_expression, formed_arguments, formed_fields}
use Rattle.lua_tree.specs.Names.{is_name as is_name_text, are_names, are_some_names}
use Rattle.lua_tree.specs.Precedence.{level_of_op, is_right_associative, left_binds, right_binds}
use Rattle.opcode.specs.declared.op.Op.{Op}
use Rattle.proto.specs.declared.parts.Constant.{Constant}
use Rattle.scheme.specs.Making.{Maker, new_label}
use Rattle.scheme.specs.Expressions.{Coded, is_multiple, local_register, literal, plain_literal, number_or, fold, fold_binary, fold_unary, arith_op}
use Rattle.scheme.specs.Lists.{call_at, method_at}
use Rattle.scheme.specs.Functions.{coded_function}
use Rattle.scheme.specs.Statements.{Loop, settle, path_from, with_method, arm_part}
use Rattle.scheme.specs.Scheme.{coded, all_coded, given, entries, inner, step_coded, statements_made, statement_made, branches_made, otherwise_made, has_branch, has_otherwise}
use Rattle.scheme_stands.proofs.Growth.{calm, start, on_put}
use Rattle.scheme_stands.proofs.Parts.{grows, grows_load, grows_given}
use Rattle.scheme_stands.proofs.Blocks.{arm_calm}
use Rattle.scheme_stands.proofs.Statements.{grow_statements, step_grows, calm_branches, calm_otherwise}
use Rattle.scheme_stands.proofs.Walks.{and_left, and_right}
use Rattle.source_globals.proofs.Owed.{Mention}
use Rattle.source_globals.proofs.Tally.{End, Last, Fine, Told, back, back_loose, still, both, on_abc}
use Rattle.source_globals.proofs.Values.{Speaks, next_told, load_told}
use Rattle.source_globals.proofs.Forms.{single_told, no_local, no_literal, name_told, index_told, field_told, paren_told, binary_told, logic_told, unary_told}
use Rattle.source_globals.proofs.Calls.{joined, AllSpeak, open_told, GivenSpeaks, call_at_told, method_at_told, call_told, vararg_told}
use Rattle.source_globals.proofs.Tables.{EntriesSpeak, entries_grow, table_at_told, table_told}
use Rattle.source_globals.proofs.Closures.{InnerSpeaks, function_told}
use Rattle.source_globals.proofs.Targets.{TargetSpeaks, TargetsSpeak, name_target_speaks, index_target_speaks, field_target_speaks}
use Rattle.source_globals.proofs.Stores.{assign_told}
use Rattle.source_globals.proofs.Statements.{PartSpeaks, local_told, local_function_told, block_told, arm_told, break_told, return_told}
use Rattle.source_globals.proofs.Loops.{StepSpeaks, no_step_told, while_told, repeat_told, numeric_told, generic_told}
use Rattle.source_globals.proofs.Functions.{function_speaks}
use Rattle.source_globals.proofs.Paths.{path_speaks}
use Rattle.source_globals.proofs.Mentions.{statements_said, statement_said, branches_said, otherwise_said, step_said, body_said, each_target, each_said, said, arguments_said, fields_said, target_said, path_said}

coded_is : (e : Expression) → (coded e).e ≡ e
coded_is (nil_literal line) = refl
coded_is e = refl

called : (e : Expression) → is_call e ≡ true → is_multiple (coded e).e ≡ true
called (call_expression line on args on_line) h = refl
called (method_call line on text args on_line) h = refl
called e h = cc

some_targets : (es : Expressions) → has_expressions es ≡ true → 1 ≤ length (all_coded es)
some_targets no_expressions h = cc
some_targets (syntax.expression e rest) h = omega arith

-- what is folded mentions nothing
folded : {z : End} {ms : List Mention} (e : Expression) → Speaks z ms (coded e) → (n : ℤ) → fold e ≡ Some n → ms ≡ []
folded e s n h = let v = s.value in v.silent (Constant.Number n) (ap literal (coded_is e) ∙ ap (λ o. number_or o (plain_literal e)) h)

binary_silent : (ms ns : List Mention) (op : Option ArithOp) (a b : Option ℤ) → ((n : ℤ) → a ≡ Some n → ms ≡ []) → ((n : ℤ) → b ≡ Some n → ns ≡ []) → (k : Constant) → number_or (fold_binary op a b) None ≡ Some k → ms ++ ns ≡ []
binary_silent ms ns (Some op) (Some a) (Some b) f g k h = ap (λ us. us ++ ns) (f a refl) ∙ g b refl
binary_silent ms ns (Some op) (Some a) None f g k h = cc
binary_silent ms ns (Some op) None b f g k h = cc
binary_silent ms ns None a b f g k h = cc

unary_silent : (ms : List Mention) (op : UnaryOp) (a : Option ℤ) → ((n : ℤ) → a ≡ Some n → ms ≡ []) → (k : Constant) → number_or (fold_unary op a) None ≡ Some k → ms ≡ []
unary_silent ms op (Some a) f k h = f a refl
unary_silent ms UnaryOp.Neg None f k h = cc
unary_silent ms UnaryOp.Not None f k h = cc
unary_silent ms UnaryOp.Len None f k h = cc

paren_silent : (ms : List Mention) (a : Option ℤ) → ((n : ℤ) → a ≡ Some n → ms ≡ []) → (k : Constant) → number_or a None ≡ Some k → ms ≡ []
paren_silent ms (Some a) f k h = f a refl
paren_silent ms None f k h = cc

mutual
  pub statements_speak : (z : End) (ss : Statements) → formed_statements ss ≡ true → (loop : Option Loop) → PartSpeaks z (statements_said ss) (statements_made ss loop)
  statements_speak z no_statements h loop m settled l f = still z f
  statements_speak z (syntax.statement line semi s rest) h loop m settled l f =
      let m2 = settle (statement_made s line loop m) in
      let h1 = and_left (formed_statement s) _ h in
      let h2 = and_right (may_follow s semi rest) (formed_statements rest) (and_right (formed_statement s) _ h) in
      let l2 : Last z m2 = back_loose z m2 _ (grow_statements rest loop m2 refl) l in
      let one = statement_speaks z s h1 line loop m settled l2 f in
      both z one (statements_speak z rest h2 loop m2 refl l one.went.fine)

  pub statement_speaks : (z : End) (s : Statement) → formed_statement s ≡ true → (line : ℕ) (loop : Option Loop) → PartSpeaks z (statement_said s) (statement_made s line loop)
  statement_speaks z (assignment targets es) h line loop m settled l f =
      let h1 = and_right (has_expressions targets) _ h in
      let h2 = and_right (are_targets targets) _ h1 in
      let h3 = and_right (formed_expressions targets) _ h2 in
      assign_told z line (each_target targets) (all_coded targets) (each_said es) (all_coded es) (targets_speak z targets (and_left (are_targets targets) _ h1) (and_left (formed_expressions targets) _ h2))
      (all_speak z es (and_right (has_expressions es) (formed_expressions es) h3)) (some_targets targets (and_left (has_expressions targets) _ h)) m l f
  statement_speaks z (call_statement e) h line loop m settled l f =
      let s = speaks z e (and_right (is_call e) (formed_expression e) h) in
      s.multi (called e (and_left (is_call e) (formed_expression e) h)) (Some 0) m l f
  statement_speaks z (do_block block) h line loop m settled l f = block_told z line (statements_made block loop) (statements_speak z block h loop) m settled l f
  statement_speaks z (while_loop test block) h line loop m settled l f =
      while_told z line (coded test) (statements_made block) (speaks z test (and_left (formed_expression test) (formed_statements block) h)) (grow_statements block) (statements_speak z block (and_right (formed_expression test) (formed_statements block) h)) m settled l f
  statement_speaks z (repeat_loop block test) h line loop m settled l f =
      repeat_told z line (coded test) (statements_made block) (speaks z test (and_right (formed_statements block) (formed_expression test) h)) (grow_statements block) (statements_speak z block (and_left (formed_statements block) (formed_expression test) h)) m settled l f
  statement_speaks z (if_statement branches last) h line loop m settled l f =
      let h1 = and_right (has_branches branches) _ h in
      let end = length m.labels in
      let ma = (new_label m).after in
      let mb = branches_made branches line loop end (has_otherwise last) ma in
      let b = calm_branches branches line loop end (has_otherwise last) ma settled in
      let c = calm_otherwise last line loop mb b.settled in
      let lb : Last z mb = back z mb (otherwise_made last line loop mb) c.grown l in
      let one = branches_speak z branches (and_left (formed_branches branches) (formed_otherwise last) h1) line loop end (has_otherwise last) ma settled lb f in
      both z one (otherwise_speaks z last (and_right (formed_branches branches) (formed_otherwise last) h1) line loop mb b.settled l one.went.fine)
  statement_speaks z (numeric_for name first last step block) h line loop m settled l f =
      let h1 = and_right (is_name_text name) _ h in
      let h2 = and_right (formed_expression first) _ h1 in
      let h3 = and_right (formed_expression last) _ h2 in
      numeric_told z line name (coded first) (coded last) (step_coded step) (statements_made block) (speaks z first (and_left (formed_expression first) _ h1)) (speaks z last (and_left (formed_expression last) _ h2))
      (step_speaks z step (and_left (formed_step step) (formed_statements block) h3) line) (grow_statements block) (statements_speak z block (and_right (formed_step step) (formed_statements block) h3)) m settled l f
  statement_speaks z (generic_for names es block) h line loop m settled l f =
      let h1 = and_right (are_some_names names) _ h in
      let h2 = and_right (has_expressions es) _ h1 in
      generic_told z line names (each_said es) (all_coded es) (statements_made block) (all_speak z es (and_left (formed_expressions es) (formed_statements block) h2)) (grow_statements block) (statements_speak z block (and_right (formed_expressions es) (formed_statements block) h2)) m settled l f
  statement_speaks z (function_statement path method body) h line loop m settled l f =
      let h1 = and_right (are_some_names path) _ h in
      assign_told z line (path_said path method ∷ []) (with_method line (path_from line path) method ∷ []) (body_said body ∷ []) (coded_function line body (inner body (is_some method)) ∷ [])
      (path_speaks z line path method (and_left (are_some_names path) _ h), tt) (function_told z line body (inner body (is_some method)) (inner_speaks z body (is_some method) (and_right (is_optional_name method) (formed_body body) h1)), tt) (omega arith) m l f
  statement_speaks z (local_function name body) h line loop m settled l f = local_function_told z line name (inner body false) (inner_speaks z body false (and_right (is_name_text name) (formed_body body) h)) m settled l f
  statement_speaks z (local_statement names es) h line loop m settled l f = local_told z line names (each_said es) (all_coded es) (all_speak z es (and_right (are_some_names names) (formed_expressions es) h)) m settled l f
  statement_speaks z (return_statement es) h line loop m settled l f = return_told z line (each_said es) (all_coded es) (all_speak z es h) m l f
  statement_speaks z break_statement h line loop m settled l f = break_told z line loop m f

  branches_speak : (z : End) (branches : Branches) → formed_branches branches ≡ true → (line : ℕ) (loop : Option Loop) (end : ℕ) (more : Bool) → PartSpeaks z (branches_said branches) (branches_made branches line loop end more)
  branches_speak z no_branches h line loop end more m settled l f = still z f
  branches_speak z (branch test block rest) h line loop end more m settled l f =
      let h1 = and_right (formed_expression test) _ h in
      let again = has_branch rest || more in
      let body = statements_made block loop in
      let a = arm_calm line end again (coded test) body (grows calm test) (grow_statements block loop) m settled in
      let m1 = arm_part line end again (coded test) body m in
      let c = calm_branches rest line loop end more m1 a.settled in
      let l1 = back z m1 (branches_made rest line loop end more m1) c.grown l in
      let one = arm_told z line end again (coded test) body (speaks z test (and_left (formed_expression test) _ h)) (grow_statements block loop) (statements_speak z block (and_left (formed_statements block) (formed_branches rest) h1) loop) m settled l1 f in
      both z one (branches_speak z rest (and_right (formed_statements block) (formed_branches rest) h1) line loop end more m1 a.settled l one.went.fine)

  otherwise_speaks : (z : End) (last : Otherwise) → formed_otherwise last ≡ true → (line : ℕ) (loop : Option Loop) → PartSpeaks z (otherwise_said last) (otherwise_made last line loop)
  otherwise_speaks z no_otherwise h line loop m settled l f = still z f
  otherwise_speaks z (otherwise block) h line loop m settled l f = block_told z line (statements_made block loop) (statements_speak z block h loop) m settled l f

  step_speaks : (z : End) (step : ForStep) → formed_step step ≡ true → (line : ℕ) → StepSpeaks z (step_said step) line (step_coded step)
  step_speaks z no_step h line = record { grows = step_grows line no_step; told = no_step_told z line }
  step_speaks z (by_step e) h line = let s = speaks z e h in record { grows = step_grows line (by_step e); told = next_told z (coded e) s.value }

  inner_speaks : (z : End) (body : FunctionBody) (method : Bool) → formed_body body ≡ true → InnerSpeaks z (body_said body) (inner body method)
  inner_speaks z (function_body params vararg block first last) method h =
      function_speaks (record { source = None; first_line = first; last_line = last; params = length (all_params method params); vararg = vararg }) last (all_params method params) (statements_made block None)
      (statements_said block) (grow_statements block None) (λ y. statements_speak y block (and_right (are_names params) (formed_statements block) h) None) z

  targets_speak : (z : End) (es : Expressions) → are_targets es ≡ true → formed_expressions es ≡ true → TargetsSpeak z (each_target es) (all_coded es)
  targets_speak z no_expressions t h = tt
  targets_speak z (syntax.expression e rest) t h =
      (target_speaks z e (and_left (is_target e) (are_targets rest) t) (and_left (formed_expression e) (formed_expressions rest) h), targets_speak z rest (and_right (is_target e) (are_targets rest) t) (and_right (formed_expression e) (formed_expressions rest) h))

  target_speaks : (z : End) (e : Expression) → is_target e ≡ true → formed_expression e ≡ true → TargetSpeaks z (target_said e (said e)) (coded e)
  target_speaks z (name_expression line text) t h = name_target_speaks z line text (grows calm (name_expression line text))
  target_speaks z (index_expression line on key) t h =
      let h1 = and_right (is_prefix on) _ h in
      index_target_speaks z line (index_expression line on key) (coded on) (coded key) (grows calm (index_expression line on key)) (speaks z on (and_left (formed_expression on) _ h1)) (speaks z key (and_right (formed_expression on) _ h1))
  target_speaks z (field_expression line on text) t h =
      let h1 = and_right (is_prefix on) _ h in
      field_target_speaks z line (field_expression line on text) (coded on) text (grows calm (field_expression line on text)) (speaks z on (and_left (formed_expression on) _ h1))
  target_speaks z e t h = cc

  all_speak : (z : End) (es : Expressions) → formed_expressions es ≡ true → AllSpeak z (each_said es) (all_coded es)
  all_speak z no_expressions h = tt
  all_speak z (syntax.expression e rest) h = (speaks z e (and_left (formed_expression e) (formed_expressions rest) h), all_speak z rest (and_right (formed_expression e) (formed_expressions rest) h))

  speaks : (z : End) (e : Expression) → formed_expression e ≡ true → Speaks z (said e) (coded e)
  speaks z (nil_literal line) h = single_told z line (nil_literal line) _ refl (λ r m. on_put _ _ (start m)) (λ r low m l f. on_abc z line Op.LoadNil r r 0 refl (still z f)) (λ r m e f. cc) (λ k e. refl)
  speaks z (true_literal line) h = single_told z line (true_literal line) _ refl (λ r m. on_put _ _ (start m)) (λ r low m l f. on_abc z line Op.LoadBool r 1 0 refl (still z f)) (λ r m e f. cc) (λ k e. refl)
  speaks z (false_literal line) h = single_told z line (false_literal line) _ refl (λ r m. on_put _ _ (start m)) (λ r low m l f. on_abc z line Op.LoadBool r 0 0 refl (still z f)) (λ r m e f. cc) (λ k e. refl)
  speaks z (vararg_expression line) h = vararg_told z line
  speaks z (number_literal line n) h = single_told z line (number_literal line n) _ refl (λ r m. grows_load line r (Constant.Number n) m) (λ r low m l f. load_told z line r (Constant.Number n) m f) (λ r m e f. cc) (λ k e. refl)
  speaks z (text_literal line text) h = single_told z line (text_literal line text) _ refl (λ r m. grows_load line r (Constant.Text text) m) (λ r low m l f. load_told z line r (Constant.Text text) m f) (λ r m e f. cc) (λ k e. refl)
  speaks z (name_expression line text) h = name_told z line text
  speaks z (function_expression line body) h = function_told z line body (inner body false) (inner_speaks z body false h)
  speaks z (index_expression line on key) h =
      let h1 = and_right (is_prefix on) _ h in
      index_told z line (index_expression line on key) (coded on) (coded key) refl refl refl (speaks z on (and_left (formed_expression on) _ h1)) (speaks z key (and_right (formed_expression on) _ h1))
  speaks z (field_expression line on text) h =
      let h1 = and_right (is_prefix on) _ h in
      field_told z line (field_expression line on text) (coded on) text refl refl refl (speaks z on (and_left (formed_expression on) _ h1))
  speaks z (call_expression line on args on_line) h =
      let h1 = and_right (is_prefix on) _ h in
      let h2 = and_right (formed_expression on) _ h1 in
      let e = call_expression line on args on_line in
      let s = speaks z on (and_left (formed_expression on) _ h1) in
      let g = given_speaks z args (and_right (on_its_line args line on_line) (formed_arguments args) h2) line in
      call_told z line e (call_at line (coded on) (given args line)) (grows calm e) refl (no_local z e refl) (λ op p want m l f. call_at_told z line (coded on) (given args line) s g op p want m l f) (λ n m l. let high = l.low in omega (arith, high))
  speaks z (method_call line on text args on_line) h =
      let h1 = and_right (is_prefix on) _ h in
      let h2 = and_right (is_name_text text) _ (and_right (formed_expression on) _ h1) in
      let e = method_call line on text args on_line in
      let s = speaks z on (and_left (formed_expression on) _ h1) in
      let g = given_speaks z args (and_right (on_its_line args line on_line) (formed_arguments args) h2) line in
      call_told z line e (method_at line (coded on) text (given args line)) (grows calm e) refl (no_local z e refl) (λ op p want m l f. method_at_told z line (coded on) text (given args line) s g op p want m l f) (λ n m l. let high = l.low in omega (arith, high))
  speaks z (and_expression line left right) h =
      let h1 = and_right (right_binds 2 false right) _ (and_right (left_binds 2 false left) _ h) in
      logic_told z line (coded left) (coded right) (speaks z left (and_left (formed_expression left) _ h1)) (speaks z right (and_right (formed_expression left) _ h1)) false (and_expression line left right) refl (no_local z (and_expression line left right) refl) (no_literal z (and_expression line left right) refl)
  speaks z (or_expression line left right) h =
      let h1 = and_right (right_binds 1 false right) _ (and_right (left_binds 1 false left) _ h) in
      logic_told z line (coded left) (coded right) (speaks z left (and_left (formed_expression left) _ h1)) (speaks z right (and_right (formed_expression left) _ h1)) true (or_expression line left right) refl (no_local z (or_expression line left right) refl) (no_literal z (or_expression line left right) refl)
  speaks z (binary_expression line op left right) h =
      let h1 = and_right (right_binds (level_of_op op) (is_right_associative op) right) _ (and_right (left_binds (level_of_op op) (is_right_associative op) left) _ h) in
      let s = speaks z left (and_left (formed_expression left) _ h1) in
      let t = speaks z right (and_right (formed_expression left) _ h1) in
      let e = binary_expression line op left right in
      binary_told z line (coded left) (coded right) s t op e refl (no_local z e refl) (λ k q. binary_silent (said left) (said right) (arith_op op) (fold left) (fold right) (folded left s) (folded right t) k q)
  speaks z (unary_expression line op e) h =
      let s = speaks z e (and_right (left_binds 7 false e) (formed_expression e) h) in
      let x = unary_expression line op e in
      unary_told z line op x (coded e) refl s (no_local z x refl) (λ k q. unary_silent (said e) op (fold e) (folded e s) k q)
  speaks z (constructor line fields) h = table_told z line fields (fields_said fields) (entries fields) (fields_speak z fields h)
  speaks z (parenthesized line e) h =
      let s = speaks z e h in
      let v = s.value in
      paren_told z (parenthesized line e) (coded e) refl s (λ r m q f. v.bare r m (ap (λ x. local_register x m) (coded_is e) ∙ q) f) (λ k q. paren_silent (said e) (fold e) (folded e s) k q)

  given_speaks : (z : End) (args : Arguments) → formed_arguments args ≡ true → (line : ℕ) → GivenSpeaks z (arguments_said args) (given args line)
  given_speaks z (argument_list es) h line = record { part_grows = grows_given calm (argument_list es) line; told = open_told z (each_said es) (all_coded es) (all_speak z es h) }
  given_speaks z (text_argument text) h line = record { part_grows = grows_given calm (text_argument text) line; told = λ m l f. load_told z line m.free (Constant.Text text) m f }
  given_speaks z (table_argument fields) h line = record { part_grows = grows_given calm (table_argument fields) line; told = table_at_told z line (fields_said fields) (entries fields) (fields_speak z fields h) }

  fields_speak : (z : End) (fields : Fields) → formed_fields fields ≡ true → EntriesSpeak z (fields_said fields) (entries fields)
  fields_speak z no_fields h = tt
  fields_speak z (positional e separator rest) h =
      let h1 = and_right (ends_item separator rest) _ h in
      (speaks z e (and_left (formed_expression e) (formed_fields rest) h1), fields_speak z rest (and_right (formed_expression e) (formed_fields rest) h1))
  fields_speak z (named name e separator rest) h =
      let h1 = and_right (is_name_text name) _ (and_right (ends_item separator rest) _ h) in
      (speaks z e (and_left (formed_expression e) (formed_fields rest) h1), fields_speak z rest (and_right (formed_expression e) (formed_fields rest) h1))
  fields_speak z (keyed key e separator rest) h =
      let h1 = and_right (ends_item separator rest) _ h in
      let h2 = and_right (formed_expression key) _ h1 in
      ((said key, said e, refl, speaks z key (and_left (formed_expression key) _ h1), speaks z e (and_left (formed_expression e) (formed_fields rest) h2)), fields_speak z rest (and_right (formed_expression e) (formed_fields rest) h2))
