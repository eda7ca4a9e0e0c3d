-- What stands ahead of a well-formed source that keeps the rules of scoping fits its tree, so its chunk is sound.
use Rattle.std.proofs.Common.{◌≡◌, ◌<◌, ℕ, Bool, true, false, List, [], ◌∷◌, length, refl, sym, arith, inl, ◌++◌, subst, true≢false}
use Rattle.std.specs.Prelude.{Option, None, ◌&&◌, Some, is_some}
use Rattle.std.specs.Option.{option_or}
use Rattle.lua_num.specs.Bytes.{Text}
use Rattle.lua_tree.specs.Syntax as syntax
use Rattle.lua_tree.specs.Syntax.{Expressions, no_expressions, Expression, vararg_expression, FunctionBody, function_expression, Source, Statements, function_body, local_statement, local_function, nil_literal, true_literal, false_literal, number_literal, text_literal, name_expression, index_expression, field_expression, call_expression, method_call, and_expression, or_expression, binary_expression, unary_expression, constructor, parenthesized, if_statement, Branches, Otherwise, no_statements, Statement, assignment, call_statement, do_block, while_loop, repeat_loop, numeric_for, generic_for, function_statement, return_statement, break_statement, no_branches, branch, no_otherwise, otherwise, ForStep, no_step, by_step, Arguments, argument_list, text_argument, table_argument, Fields, no_fields, positional, named, keyed}
use Rattle.lua_tree.specs.Names.{is_name, are_some_names}
use Rattle.lua_tree.specs.Outline.{Part, Mark, mention, local_name, hidden_local, dots, leave, opened, statements_part, statement_part, body_part, expressions_part, step_part, branches_part, otherwise_part, expression_part, arguments_part, fields_part, beginning, outline}
use Rattle.lua_tree.specs.Scoping.{Scoped, breach_at, first_breach}
use Rattle.lua_tree.specs.WellFormed.{WellFormed, are_targets, formed_statements, formed_statement, formed_branches, formed_otherwise, formed_step, formed_body, formed_expressions, formed_expression, formed_arguments, formed_fields, on_its_line}
use Rattle.rules.specs.Sound.{Sound}
use Rattle.rules.proofs.Lists.{and_second, and_first}
use Rattle.scheme.specs.Scheme.{scheme, Fits}
use Rattle.scheme.specs.Statements.{generic_names, numeric_names}
use Rattle.scheme_stands.specs.Places.{ahead_at}
use Rattle.scheme_stands.proofs.Counting.{statement_closed}
use Rattle.scheme_stands.proofs.Locals.{scope_first}
use Rattle.scheme_stands.proofs.Names.{begins}
use Rattle.scheme_stands.proofs.Origins.{statement_walked, between_all}
use Rattle.scheme_sound.proofs.Fitting.{Context, Fitting, Checked, StatementsFit, StatementFits, BranchesFit, OtherwiseFits, ForStepFits, BodyFits, TargetsFit, ExpressionsFit, ExpressionFits, ArgumentsFit, FieldsFit}
use Rattle.scheme_sound.proofs.Compiled.{SourceFits, fitting_sound}
use Rattle.scheme_sound.proofs.Contexts.{Marked}
use Rattle.scheme_sound.proofs.PartsFit.{DotsMark, AllDots, PartFits, nothing_fits, both_fit, StepFits, step_stays, step_then, block_fits, loop_fits, until_fits, mention_fits, dots_fit, leave_fits}
use Rattle.scheme_sound.proofs.DeclarationsFit.{looped_fits, local_fits, local_function_fits, function_fits}

-- ---- small facts

checked_fits : {P : Type 0} {part : Part} {i : Fitting} → P → PartFits part i → PartFits part (Checked P i)
checked_fits p r = record { closed = r.closed; walked = r.walked; fits = λ all place rest c t. record { checked = p; part_fits = r.fits all place rest c t } }

some_names : (names : List Text) → are_some_names names ≡ true → 0 < length names
some_names [] e = cc
some_names (name ∷ names) e = omega arith

numeric_marked : (all : List Mark) → Marked all numeric_names
numeric_marked all = ((λ d e. cc), ((λ d e. cc), ((λ d e. cc), tt)))

generic_marked : (all : List Mark) → Marked all generic_names
generic_marked all = ((λ d e. cc), ((λ d e. cc), ((λ d e. cc), tt)))

-- ---- the tree

mutual
  statements_fit : (ss : Statements) → formed_statements ss ≡ true → StepFits (statements_part ss) (StatementsFit ss)
  statements_fit no_statements k = step_stays nothing_fits
  statements_fit (syntax.statement line semi one rest) k = step_then (statement_fits line one (and_first _ _ k)) (statements_fit rest (and_second _ _ (and_second _ _ k)))

  statement_fits : (line : ℕ) (one : Statement) → formed_statement one ≡ true → StepFits (statement_part line one) (StatementFits one)
  statement_fits line (assignment targets es) k =
      let k1 = and_second _ _ k in
      let k2 = and_second _ _ k1 in
      step_stays (checked_fits (and_first _ _ k) (both_fit (targets_fit targets (and_first _ _ k1) (and_first _ _ k2)) (expressions_fit es (and_second _ _ (and_second _ _ k2)))))
  statement_fits line (call_statement e) k = step_stays (checked_fits (and_first _ _ k) (expression_fits e (and_second _ _ k)))
  statement_fits line (do_block block) k = step_stays (block_fits (statements_fit block k))
  statement_fits line (while_loop test block) k = step_stays (both_fit (expression_fits test (and_first _ _ k)) (loop_fits (statements_fit block (and_second _ _ k))))
  statement_fits line (repeat_loop block test) k = step_stays (until_fits (statements_fit block (and_first _ _ k)) (expression_fits test (and_second _ _ k)))
  statement_fits line (if_statement branches last) k =
      let k1 = and_second _ _ k in
      step_stays (both_fit (branches_fit branches (and_first _ _ k1)) (otherwise_fits last (and_second _ _ k1)))
  statement_fits line (numeric_for name first last step block) k =
      let k1 = and_second _ _ k in
      let k2 = and_second _ _ k1 in
      let labels_ghost = and_second _ _ k2 in
      step_stays (looped_fits line numeric_names (name ∷ []) numeric_marked
      (both_fit (expression_fits first (and_first _ _ k1)) (both_fit (expression_fits last (and_first _ _ k2)) (for_step_fits step (and_first _ _ labels_ghost))))
      (statements_fit block (and_second _ _ labels_ghost))
      (λ place. statement_closed line (numeric_for name first last step block) place refl)
      (λ base place z s. statement_walked base line (numeric_for name first last step block) place s))
  statement_fits line (generic_for names es block) k =
      let k1 = and_second _ _ (and_second _ _ k) in
      step_stays (checked_fits (some_names names (and_first _ _ k)) (looped_fits line generic_names names generic_marked
      (expressions_fit es (and_first _ _ k1))
      (statements_fit block (and_second _ _ k1))
      (λ place. statement_closed line (generic_for names es block) place refl)
      (λ base place z s. statement_walked base line (generic_for names es block) place s)))
  statement_fits line (function_statement [] method body) k = absurd (true≢false (sym k))
  statement_fits line (function_statement (text ∷ path) method body) k = step_stays (both_fit (mention_fits line text) (body_fits (is_some method) body (and_second _ _ (and_second _ _ k))))
  statement_fits line (local_function name body) k = local_function_fits line name body (body_fits false body (and_second _ _ k))
  statement_fits line (local_statement names es) k = local_fits line names es (some_names names (and_first _ _ k)) (expressions_fit es (and_second _ _ k))
  statement_fits line (return_statement es) k = step_stays (expressions_fit es k)
  statement_fits line break_statement k = step_stays (leave_fits line)

  branches_fit : (branches : Branches) → formed_branches branches ≡ true → PartFits (branches_part branches) (BranchesFit branches)
  branches_fit no_branches k = nothing_fits
  branches_fit (branch test block rest) k =
      let k1 = and_second _ _ k in
      both_fit (expression_fits test (and_first _ _ k)) (both_fit (block_fits (statements_fit block (and_first _ _ k1))) (branches_fit rest (and_second _ _ k1)))

  otherwise_fits : (last : Otherwise) → formed_otherwise last ≡ true → PartFits (otherwise_part last) (OtherwiseFits last)
  otherwise_fits no_otherwise k = nothing_fits
  otherwise_fits (otherwise block) k = block_fits (statements_fit block k)

  for_step_fits : (step : ForStep) → formed_step step ≡ true → PartFits (step_part step) (ForStepFits step)
  for_step_fits no_step k = nothing_fits
  for_step_fits (by_step e) k = expression_fits e k

  body_fits : (method : Bool) (body : FunctionBody) → formed_body body ≡ true → PartFits (body_part method body) (BodyFits method body)
  body_fits method (function_body params vararg block first last) k = function_fits method params vararg block first last (statements_fit block (and_second _ _ k))

  targets_fit : (es : Expressions) → are_targets es ≡ true → formed_expressions es ≡ true → PartFits (expressions_part es) (TargetsFit es)
  targets_fit no_expressions t k = nothing_fits
  targets_fit (syntax.expression e rest) t k = both_fit (checked_fits (and_first _ _ t) (expression_fits e (and_first _ _ k))) (targets_fit rest (and_second _ _ t) (and_second _ _ k))

  expressions_fit : (es : Expressions) → formed_expressions es ≡ true → PartFits (expressions_part es) (ExpressionsFit es)
  expressions_fit no_expressions k = nothing_fits
  expressions_fit (syntax.expression e rest) k = both_fit (expression_fits e (and_first _ _ k)) (expressions_fit rest (and_second _ _ k))

  expression_fits : (e : Expression) → formed_expression e ≡ true → PartFits (expression_part e) (ExpressionFits e)
  expression_fits (nil_literal line) k = nothing_fits
  expression_fits (true_literal line) k = nothing_fits
  expression_fits (false_literal line) k = nothing_fits
  expression_fits (vararg_expression line) k = dots_fit line
  expression_fits (number_literal line n) k = nothing_fits
  expression_fits (text_literal line text) k = nothing_fits
  expression_fits (name_expression line name) k = mention_fits line name
  expression_fits (function_expression line body) k = body_fits false body k
  expression_fits (index_expression line on key) k = (let k1 = and_second _ _ k in both_fit (expression_fits on (and_first _ _ k1)) (expression_fits key (and_second _ _ k1)))
  expression_fits (field_expression line on name) k = (let k1 = and_second _ _ k in expression_fits on (and_first _ _ k1))
  expression_fits (call_expression line on args on_line) k = (let k1 = and_second _ _ k in both_fit (expression_fits on (and_first _ _ k1)) (arguments_fit args (and_second _ _ (and_second _ _ k1))))
  expression_fits (method_call line on name args on_line) k =
      let k1 : (formed_expression on && (is_name name && (on_its_line args line on_line && formed_arguments args))) ≡ true = and_second _ _ k in
      let k2 : (is_name name && (on_its_line args line on_line && formed_arguments args)) ≡ true = and_second _ _ k1 in
      let labels_ghost : (on_its_line args line on_line && formed_arguments args) ≡ true = and_second _ _ k2 in
      both_fit (expression_fits on (and_first _ _ k1)) (arguments_fit args (and_second _ _ labels_ghost))
  expression_fits (and_expression line left right) k = (let k1 = and_second _ _ (and_second _ _ k) in both_fit (expression_fits left (and_first _ _ k1)) (expression_fits right (and_second _ _ k1)))
  expression_fits (or_expression line left right) k = (let k1 = and_second _ _ (and_second _ _ k) in both_fit (expression_fits left (and_first _ _ k1)) (expression_fits right (and_second _ _ k1)))
  expression_fits (binary_expression line op left right) k = (let k1 = and_second _ _ (and_second _ _ k) in both_fit (expression_fits left (and_first _ _ k1)) (expression_fits right (and_second _ _ k1)))
  expression_fits (unary_expression line op e) k = expression_fits e (and_second _ _ k)
  expression_fits (constructor line items) k = fields_fit items k
  expression_fits (parenthesized line e) k = expression_fits e k

  arguments_fit : (args : Arguments) → formed_arguments args ≡ true → PartFits (arguments_part args) (ArgumentsFit args)
  arguments_fit (argument_list es) k = expressions_fit es k
  arguments_fit (text_argument text) k = nothing_fits
  arguments_fit (table_argument items) k = fields_fit items k

  fields_fit : (items : Fields) → formed_fields items ≡ true → PartFits (fields_part items) (FieldsFit items)
  fields_fit no_fields k = nothing_fits
  fields_fit (positional e separator rest) k = (let k1 = and_second _ _ k in both_fit (expression_fits e (and_first _ _ k1)) (fields_fit rest (and_second _ _ k1)))
  fields_fit (named name e separator rest) k = (let k1 = and_second _ _ (and_second _ _ k) in both_fit (expression_fits e (and_first _ _ k1)) (fields_fit rest (and_second _ _ k1)))
  fields_fit (keyed key e separator rest) k =
      let k1 = and_second _ _ k in
      let k2 = and_second _ _ k1 in
      both_fit (both_fit (expression_fits key (and_first _ _ k1)) (expression_fits e (and_first _ _ k2))) (fields_fit rest (and_second _ _ k2))

-- ---- the whole

-- no `...` stands in a function that is not vararg
or_none : {A : Type 0} (a b : Option A) → option_or a b ≡ None → (a ≡ None) × (b ≡ None)
or_none None b e = (refl, e)
or_none (Some x) b e = cc

dots_mark : (before : List Mark) (mark : Mark) → breach_at before mark ≡ None → DotsMark mark
dots_mark before (dots line true) e = refl
dots_mark before (dots line false) e = cc
dots_mark before (mention line name means around) e = tt
dots_mark before (local_name line reached) e = tt
dots_mark before (hidden_local line reached) e = tt
dots_mark before (leave line looped) e = tt
dots_mark before (opened outer) e = tt

all_dots : (before ms : List Mark) → first_breach before ms ≡ None → AllDots ms
all_dots before [] e = tt
all_dots before (x ∷ xs) e = (let h = or_none (breach_at before x) (first_breach (before ++ x ∷ []) xs) e in (dots_mark before x h.0, all_dots (before ++ x ∷ []) xs h.1))

source_fits : (source : Source) → WellFormed source → Scoped source → SourceFits source
source_fits source w scoped =
    let all = outline source in
    let c : Context = record { locals = []; upvalues = 0; vararg = true } in
    let part = statements_part source.body in
    let r = (statements_fit source.body w.formed).steps all beginning [] c (record {
      between = between_all source.body;
      scope = scope_first;
      knows = record { own = λ name b h e. cc; marked = tt; upvalues = inl refl; vararg = refl };
      dots = all_dots [] all scoped;
    }) in
    record {
      inner = r.after;
      behind = ahead_at all (part beginning).next [];
      body_fits = subst (λ a. StatementsFit source.body c r.after a (ahead_at all (part beginning).next [])) (sym (begins source)) r.fits;
    }

-- the chunk of a well-formed source that keeps the rules of scoping and the limits is sound
pub source_sound : (source : Source) (name : Text) → WellFormed source → Scoped source → Fits source → Sound (scheme source name)
source_sound source name w scoped fits = fitting_sound source name (source_fits source w scoped) fits
