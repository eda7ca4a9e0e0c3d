-- Every part of a source keeps the invariant: the induction over the tree.
use Rattle.std.proofs.Common.{◌≡◌, ◌<◌, ℕ, Bool, true, false, List, [], ◌∷◌, refl, sym, ap, ◌∙◌, arith}
use Rattle.std.specs.Prelude.{Option, None, Some, ◌||◌, is_some}
use Rattle.lua_num.specs.Bytes.{Text}
use Rattle.lua_tree.specs.Syntax as syntax
use Rattle.lua_tree.specs.Syntax.{Expressions, no_expressions, Expression, vararg_expression, FunctionBody, function_expression, Statements, function_body, local_statement, local_function, nil_literal, true_literal, false_literal, number_literal, text_literal, name_expression, index_expression, field_expression, call_expression, method_call, and_expression, or_expression, binary_expression, unary_expression, constructor, parenthesized, if_statement, Branches, Otherwise, no_statements, Statement, assignment, call_statement, do_block, while_loop, repeat_loop, numeric_for, generic_for, function_statement, return_statement, break_statement, no_branches, branch, no_otherwise, otherwise, ForStep, no_step, by_step, Arguments, argument_list, text_argument, table_argument, Fields, no_fields, positional, named, keyed}
use Rattle.lua_tree.specs.Outline.{all_params}
use Rattle.lua_tree.specs.WellFormed.{is_target, is_call, has_expressions}
use Rattle.opcode.specs.declared.op.Op.{Op}
use Rattle.proto.specs.declared.parts.Constant.{Constant}
use Rattle.scheme.specs.Making.{Maker, Ahead, put}
use Rattle.scheme.specs.Expressions.{Coded, rk, load, coded_field, is_vararg, is_local, coded_name}
use Rattle.scheme.specs.Lists.{call_at, method_at}
use Rattle.scheme.specs.Functions.{coded_function}
use Rattle.scheme.specs.Statements.{settle, arm_part, path_from, with_fields, with_method}
use Rattle.scheme.specs.Scheme.{all_coded, coded, statements_made, inner, statement_made, given, step_coded, has_branch}
use Rattle.scheme.specs.declared.making.Piece.{Piece}
use Rattle.scheme.specs.declared.making.Local.{Local}
use Rattle.scheme_sound.proofs.Ghosts.{locals_of, Ghost}
use Rattle.scheme_sound.proofs.States.{Leads, leads_self, leads_then, leads_as}
use Rattle.scheme_sound.proofs.Fitting.{Nothing, NameAt, Both, StatementsFit, StatementFits, BranchesFit, ForStepFits, BodyFits, TargetsFit, ExpressionFits, ArgumentsFit}
use Rattle.scheme_sound.proofs.Operands.{carry, rk_gives}
use Rattle.scheme_sound.proofs.Expressions.{Keeps, reads_names, function_reads_names, single_keeps, nil_leads, bool_leads, load_leads, name_keeps, indexed_keeps, field_keeps, field_reads_names, paren_keeps}
use Rattle.scheme_sound.proofs.Operators.{binary_keeps, unary_keeps}
use Rattle.scheme_sound.proofs.Logic.{logic_keeps}
use Rattle.scheme_sound.proofs.Calls.{results_room, GivenKeeps, call_multi, method_multi, call_keeps, vararg_keeps}
use Rattle.scheme_sound.proofs.Lists.{AllKeep, coded_is, count_of, list_given, text_given}
use Rattle.scheme_sound.proofs.Tables.{FieldsKeep, table_given, table_keeps}
use Rattle.scheme_sound.proofs.Closures.{InnerKeeps, function_keeps}
use Rattle.scheme_sound.proofs.Blocks.{Brings, brings_none, brings_then, carry_brought, loop_around_on, loop_around_later, StepKeeps, block_leads, settle_brings}
use Rattle.scheme_sound.proofs.Locals.{local_brings, local_function_brings}
use Rattle.scheme_sound.proofs.Assignments.{targets_lead, aim_one, assign_leads, assign_one}
use Rattle.scheme_sound.proofs.Loops.{while_leads, repeat_leads}
use Rattle.scheme_sound.proofs.Ifs.{arm_leads, BranchesKeep, OtherwiseKeeps, if_leads, break_brings}
use Rattle.scheme_sound.proofs.NumericFor.{ForStepKeeps, no_step_keeps, by_step_keeps, numeric_leads}
use Rattle.scheme_sound.proofs.GenericFor.{generic_leads}
use Rattle.scheme_sound.proofs.Returns.{return_leads}
use Rattle.scheme_sound.proofs.Functions.{inner_keeps}

-- ---- the path of a function statement

path_fields_keep : (line : ℕ) (texts : List Text) (on : Coded) → Keeps on NameAt → is_target on.e ≡ true → Keeps (with_fields line on texts) NameAt × (is_target (with_fields line on texts).e ≡ true)
path_fields_keep line [] on f t = (f, t)
path_fields_keep line (text ∷ texts) on f t = path_fields_keep line texts (coded_field line (field_expression line on.e text) on text) (field_keeps line (field_expression line on.e text) on text NameAt f (field_reads_names line on.e text) refl) refl

path_keeps : (line : ℕ) (text : Text) (path : List Text) (method : Option Text) → Keeps (with_method line (path_from line (text ∷ path)) method) NameAt × (is_target (with_method line (path_from line (text ∷ path)) method).e ≡ true)
path_keeps line text path method = go method
  where
    p : Keeps (path_from line (text ∷ path)) NameAt × (is_target (path_from line (text ∷ path)).e ≡ true)
    p = path_fields_keep line path (coded_name line text) (name_keeps line text (name_expression line text) (reads_names (name_expression line text)) refl) refl

    go : (o : Option Text) → Keeps (with_method line (path_from line (text ∷ path)) o) NameAt × (is_target (with_method line (path_from line (text ∷ path)) o).e ≡ true)
    go None = p
    go (Some k) = (field_keeps line (field_expression line (path_from line (text ∷ path)).e k) (path_from line (text ∷ path)) k NameAt p.0 (field_reads_names line (path_from line (text ∷ path)).e k) refl, refl)

-- ---- small facts

stays_brings : {m n : Maker} {g : Ghost} {b : Ahead} (after : List Local) → after ≡ locals_of m.active → Leads m g n None b → Brings m g n after b
stays_brings after e d = (let r = brings_none d in record { ghost = r.ghost; state = r.state; onward = r.onward; unplaced = r.unplaced; more = r.more; grown = r.grown; locals = r.locals ∙ sym e; ahead = r.ahead })

targets_some : (targets : Expressions) → has_expressions targets ≡ true → 0 < count_of targets
targets_some no_expressions e = cc
targets_some (syntax.expression e rest) i = omega arith

-- ---- all of it

mutual
  expression_keeps : (e : Expression) → Keeps (coded e) (ExpressionFits e)
  expression_keeps (nil_literal line) = single_keeps line (nil_literal line) (λ r. put line (Piece.Abc Op.LoadNil r r 0)) Nothing (nil_leads line) (reads_names (nil_literal line)) refl refl
  expression_keeps (true_literal line) = single_keeps line (true_literal line) (λ r. put line (Piece.Abc Op.LoadBool r 1 0)) Nothing (bool_leads line 1) (reads_names (true_literal line)) refl refl
  expression_keeps (false_literal line) = single_keeps line (false_literal line) (λ r. put line (Piece.Abc Op.LoadBool r 0 0)) Nothing (bool_leads line 0) (reads_names (false_literal line)) refl refl
  expression_keeps (vararg_expression line) = vararg_keeps line (reads_names (vararg_expression line))
  expression_keeps (number_literal line n) = single_keeps line (number_literal line n) (λ r. load line r (Constant.Number n)) Nothing (load_leads line (Constant.Number n)) (reads_names (number_literal line n)) refl refl
  expression_keeps (text_literal line text) = single_keeps line (text_literal line text) (λ r. load line r (Constant.Text text)) Nothing (load_leads line (Constant.Text text)) (reads_names (text_literal line text)) refl refl
  expression_keeps (name_expression line text) = name_keeps line text (name_expression line text) (reads_names (name_expression line text)) refl
  expression_keeps (function_expression line body) = function_keeps line body (inner body false) (BodyFits false body) (body_keeps body false) (reads_names (function_expression line body))
  expression_keeps (index_expression line on key) = indexed_keeps line (index_expression line on key) (coded on) (rk (coded key)) (ExpressionFits on) (ExpressionFits key) (is_local (coded key).e) (expression_keeps on) (rk_gives (coded key) (ExpressionFits key) (expression_keeps key).value) (reads_names (index_expression line on key)) refl
  expression_keeps (field_expression line on text) = field_keeps line (field_expression line on text) (coded on) text (ExpressionFits on) (expression_keeps on) (field_reads_names line on text) refl
  expression_keeps (call_expression line on args on_line) = call_keeps line (call_expression line on args on_line) (Both (ExpressionFits on) (ArgumentsFit args)) (call_at line (coded on) (given args line)) (λ op want m g b is s x. call_multi line (coded on) (given args line) (ExpressionFits on) (ArgumentsFit args) (expression_keeps on) (arguments_keep args line) op want m g b is s x) (λ op want m. results_room m.free want _) (reads_names (call_expression line on args on_line)) refl
  expression_keeps (method_call line on text args on_line) = call_keeps line (method_call line on text args on_line) (Both (ExpressionFits on) (ArgumentsFit args)) (method_at line (coded on) text (given args line)) (λ op want m g b is s x. method_multi line (coded on) text (given args line) (ExpressionFits on) (ArgumentsFit args) (expression_keeps on) (arguments_keep args line) op want m g b is s x) (λ op want m. results_room m.free want _) (reads_names (method_call line on text args on_line)) refl
  expression_keeps (and_expression line left right) = logic_keeps line false (and_expression line left right) (coded left) (coded right) (ExpressionFits left) (ExpressionFits right) (expression_keeps left) (expression_keeps right) (reads_names (and_expression line left right)) refl refl
  expression_keeps (or_expression line left right) = logic_keeps line true (or_expression line left right) (coded left) (coded right) (ExpressionFits left) (ExpressionFits right) (expression_keeps left) (expression_keeps right) (reads_names (or_expression line left right)) refl refl
  expression_keeps (binary_expression line op left right) = binary_keeps line op (binary_expression line op left right) (coded left) (coded right) (ExpressionFits left) (ExpressionFits right) (expression_keeps left) (expression_keeps right) (reads_names (binary_expression line op left right)) refl refl
  expression_keeps (unary_expression line op e) = unary_keeps line op (unary_expression line op e) (coded e) (ExpressionFits e) (expression_keeps e) (reads_names (unary_expression line op e)) refl refl
  expression_keeps (constructor line items) = table_keeps line items (fields_keep items) (reads_names (constructor line items))
  expression_keeps (parenthesized line e) = paren_keeps (parenthesized line e) (coded e) (ExpressionFits e) (expression_keeps e) (reads_names (parenthesized line e)) refl refl

  expressions_keep : (es : Expressions) → AllKeep es
  expressions_keep no_expressions = tt
  expressions_keep (syntax.expression e rest) = (expression_keeps e, expressions_keep rest)

  fields_keep : (items : Fields) → FieldsKeep items
  fields_keep no_fields = tt
  fields_keep (positional e separator rest) = (expression_keeps e, fields_keep rest)
  fields_keep (named text e separator rest) = (expression_keeps e, fields_keep rest)
  fields_keep (keyed key e separator rest) = (expression_keeps key, (expression_keeps e, fields_keep rest))

  arguments_keep : (args : Arguments) (line : ℕ) → GivenKeeps (given args line) (ArgumentsFit args)
  arguments_keep (argument_list es) line = list_given es (expressions_keep es)
  arguments_keep (text_argument text) line = text_given line text
  arguments_keep (table_argument items) line = table_given line items (fields_keep items)

  body_keeps : (body : FunctionBody) (method : Bool) → InnerKeeps (inner body method) (BodyFits method body)
  body_keeps (function_body params vararg block first last) method = inner_keeps (all_params method params) vararg first last (statements_made block) (StatementsFit block) (statements_keep block)

  pub statements_keep : (ss : Statements) → StepKeeps (statements_made ss) (StatementsFit ss)
  statements_keep no_statements loop m g after b s t k x = stays_brings after x.stays (let d = leads_self s in leads_as d (sym x.part_fits))
  statements_keep (syntax.statement line semi one rest) loop m g after b s t k x =
      let r = settle_brings (statement_keeps one line loop m g x.between x.mid s t k x.first_fits) in
      let n = settle (statement_made one line loop m) in
      brings_then r (statements_keep rest loop n r.ghost after b r.state refl (loop_around_later loop r k) (carry_brought (λ c a' b'. StatementsFit rest c after a' b') b r x.rest_fits))

  statement_keeps : (one : Statement) (line : ℕ) → StepKeeps (statement_made one line) (StatementFits one)
  statement_keeps (assignment targets es) line loop m g after b s t k x = stays_brings after x.stays (assign_leads line (all_coded targets) (TargetsFit targets) es (targets_lead targets (expressions_keep targets)) (targets_some targets x.part_fits.checked) (expressions_keep es) m g b s x.part_fits.part_fits)
  statement_keeps (call_statement e) line loop m g after b s t k x =
      let called : is_call (coded e).e ≡ true = ap is_call (coded_is e) ∙ x.part_fits.checked in
      stays_brings after x.stays ((expression_keeps e).multi (ap (λ y. y || is_vararg (coded e).e) called) Op.Call (Some 0) m g b tt called s x.part_fits.part_fits)
  statement_keeps (do_block block) line loop m g after b s t k x = stays_brings after x.stays (block_leads line (statements_made block) (StatementsFit block) (statements_keep block) loop m g b s t k x.part_fits)
  statement_keeps (while_loop test block) line loop m g after b s t k x = stays_brings after x.stays (while_leads line (coded test) (ExpressionFits test) (expression_keeps test) (statements_made block) (StatementsFit block) (statements_keep block) m g b s t x.part_fits)
  statement_keeps (repeat_loop block test) line loop m g after b s t k x = stays_brings after x.stays (repeat_leads line (coded test) (ExpressionFits test) (expression_keeps test) m g s (statements_made block) (StatementsFit block) (statements_keep block) b t x.part_fits)
  statement_keeps (if_statement branches last) line loop m g after b s t k x = stays_brings after x.stays (if_leads branches last (branches_keep branches) (otherwise_keeps last) line loop m g b s t k x.part_fits)
  statement_keeps (numeric_for text first last step block) line loop m g after b s t k x = stays_brings after x.stays (numeric_leads line text (coded first) (coded last) (step_coded step) (ExpressionFits first) (ExpressionFits last) (ForStepFits step) (expression_keeps first) (expression_keeps last) (step_keeps step line) (statements_made block) (StatementsFit block) (statements_keep block) m g b s t x.part_fits)
  statement_keeps (generic_for names es block) line loop m g after b s t k x = stays_brings after x.stays (generic_leads line names es (expressions_keep es) (statements_made block) (StatementsFit block) (statements_keep block) m g b s t x.part_fits.checked x.part_fits.part_fits)
  statement_keeps (function_statement [] method body) line loop m g after b s t k x = absurd x
  statement_keeps (function_statement (text ∷ path) method body) line loop m g after b s t k x =
      let p = path_keeps line text path method in
      stays_brings after x.stays (assign_one line (with_method line (path_from line (text ∷ path)) method) (coded_function line body (inner body (is_some method))) NameAt (BodyFits (is_some method) body) (aim_one _ NameAt p.0 p.1) (function_keeps line body (inner body (is_some method)) (BodyFits (is_some method) body) (body_keeps body (is_some method)) (function_reads_names line body (BodyFits (is_some method) body))) m g b s x.part_fits)
  statement_keeps (local_function text body) line loop m g after b s t k x = local_function_brings line text (inner body false) (BodyFits false body) (body_keeps body false) m g after b s t x.0 x.1
  statement_keeps (local_statement names es) line loop m g after b s t k x = local_brings line names es (expressions_keep es) m g after b s t x.0 x.1 x.2
  statement_keeps (return_statement es) line loop m g after b s t k x = stays_brings after x.stays (return_leads line es (expressions_keep es) m g b s x.part_fits)
  statement_keeps break_statement line loop m g after b s t k x = (let r = break_brings line loop m g s k in record { ghost = r.ghost; state = r.state; onward = r.onward; unplaced = r.unplaced; more = r.more; grown = r.grown; locals = r.locals ∙ sym x.stays; ahead = r.ahead ∙ sym x.part_fits })

  branches_keep : (branches : Branches) → BranchesKeep branches
  branches_keep no_branches line loop end more m g b s t k l w x = record { leads = (let d = leads_self s in leads_as d (sym x)); settled = t }
  branches_keep (branch test block rest) line loop end more m g b s t k l w x =
      let a = arm_leads line end (has_branch rest || more) (coded test) (ExpressionFits test) (expression_keeps test) (statements_made block) (StatementsFit block) (statements_keep block) loop m g x.second.mid s t k l w (record { mid = x.mid; first = x.first; second = x.second.first }) in
      let d = a.leads in
      let n = arm_part line end (has_branch rest || more) (coded test) (statements_made block loop) m in
      let q = d.onward.labels in
      let r = branches_keep rest line loop end more n d.ghost b d.state a.settled (loop_around_on loop d.onward d.active k) (omega (arith, q, l)) (d.onward.need end l ∙ w ∙ ap locals_of (sym d.active)) (carry (BranchesFit rest) b d x.second.second) in
      record { leads = leads_then d r.leads; settled = r.settled }

  otherwise_keeps : (last : Otherwise) → OtherwiseKeeps last
  otherwise_keeps no_otherwise line loop m g b s t k x = (let d = leads_self s in leads_as d (sym x))
  otherwise_keeps (otherwise block) line loop m g b s t k x = block_leads line (statements_made block) (StatementsFit block) (statements_keep block) loop m g b s t k x

  step_keeps : (step : ForStep) (line : ℕ) → ForStepKeeps line (step_coded step) (ForStepFits step)
  step_keeps no_step line = no_step_keeps line
  step_keeps (by_step e) line = by_step_keeps line (coded e) (ExpressionFits e) (expression_keeps e)
