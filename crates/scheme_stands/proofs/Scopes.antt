-- The words of every part of a well-formed tree pass its marks: from what is ahead at the place before it to what is ahead behind it.
use Rattle.std.proofs.Common.{◌≡◌, ℕ, Bool, true, false, ◌&&◌, List, [], ◌∷◌, ◌++◌, length, refl, sym, ◌∙◌}
use Rattle.std.specs.Prelude.{Option, Some, None, ◌||◌, is_some}
use Rattle.lua_num.specs.Bytes.{Text}
use Rattle.lua_tree.specs.Names.{are_some_names, are_names, is_name}
use Rattle.lua_tree.specs.Outline as outline
use Rattle.lua_tree.specs.Outline.{Mark, Place, both, within, nothing, stay, in_loop, in_function, with_locals, come, declares, opened, innermost, marked, mentions, path_part, all_params, statements_part, statement_part, branches_part, otherwise_part, step_part, body_part, expressions_part, expression_part, arguments_part, fields_part}
use Rattle.lua_tree.specs.Syntax as syntax
use Rattle.lua_tree.specs.Syntax.{Expressions, no_expressions, Arguments, argument_list, text_argument, table_argument, Fields, no_fields, positional, named, keyed, Statements, no_statements, Statement, assignment, call_statement, do_block, while_loop, repeat_loop, if_statement, numeric_for, generic_for, function_statement, local_function, local_statement, return_statement, break_statement, Branches, no_branches, branch, Otherwise, no_otherwise, otherwise, ForStep, no_step, by_step, FunctionBody, function_body, Expression, nil_literal, true_literal, false_literal, vararg_expression, number_literal, text_literal, name_expression, function_expression, index_expression, field_expression, call_expression, method_call, and_expression, or_expression, binary_expression, unary_expression, constructor, parenthesized}
use Rattle.lua_tree.specs.WellFormed.{is_target, is_call, is_prefix, are_targets, has_expressions, has_branches, may_follow, formed_statements, formed_statement, formed_branches, formed_otherwise, formed_step, formed_body, formed_expressions, formed_expression, formed_arguments, formed_fields, on_its_line, ends_item}
use Rattle.lua_tree.specs.Precedence.{left_binds, right_binds}
use Rattle.opcode.specs.declared.op.Op.{Op}
use Rattle.scheme.specs.declared.making.Active.{Active}
use Rattle.scheme_stands.specs.Words.{Law, Same, Fn, fn, Spot, Stretch}
use Rattle.scheme_stands.specs.Expressions.{Rel, several, form_of, rel_alone, rel_single, rel_name, rel_field}
use Rattle.scheme_stands.specs.Lists.{TableAt, CallAt, MethodAt}
use Rattle.scheme_stands.specs.Functions.{rel_function, FunctionAt}
use Rattle.scheme_stands.specs.Statements.{LoopAt, rel_fields, rel_path, rel_method, UntilBy, ReturnBy, ReturnAt}
use Rattle.scheme_stands.specs.Relation.{related, all_related, given_rel, StatementsAt, StatementAt, BranchesAt, OtherwiseAt, StepAt, FunctionOf, ItemsAt}
use Rattle.scheme_stands.specs.Places.{ahead_at, Moves, ValueMoves, RelMoves, StepMoves, FunctionMoves}
use Rattle.scheme_stands.proofs.Moving.{chain, not_never, behind, ahead_of, literal_moves, name_moves, single_moves, name_all, field_all, index_all, binary_all, binary_value, load_moves, unary_value, unary_all, logic_all, logic_value, call_moves, method_moves, moved_value, call_all, vararg_all, paren_all, operand_moves}
use Rattle.scheme_stands.proofs.Walks.{and_left, and_right, AllMoves, FieldsMove, open_moves, adjust_moves, items_move, assign_moves, assign_one, within_moves, block_moves, turn_moves, close_same, jump_same, closure_moves, declared_moves, opened_ahead}

module _ (all : List Mark) where
  -- what has a value alone
  value_all : (f : Fn) (x : Expression) (to : List Active → (free r : ℕ) → Stretch) → ((active : List Active) (free r : ℕ) (p q : Spot) → to active free r p q → Moves all (expression_part x) p q) → ValueMoves all (expression_part x) (rel_alone f (form_of x) to)
  value_all f x to g = record { named = name_moves all x; bare = λ active p q a. a; quiet = literal_moves all x; to_reg = g }

  plain_all : (f : Fn) (x : Expression) (to : List Active → (free r : ℕ) → Stretch) → several (form_of x) ≡ false → ((active : List Active) (free r : ℕ) (p q : Spot) → to active free r p q → Moves all (expression_part x) p q) → RelMoves all (expression_part x) false (rel_single f (form_of x) to)
  plain_all f x to one g = single_moves all f (expression_part x) (form_of x) to one (value_all f x to g)

  -- ---- the path of a function statement

  fields_all : (f : Fn) (line : ℕ) (name : Text) (on : Rel) (texts : List Text) → RelMoves all (mentions line name) true on → RelMoves all (mentions line name) true (rel_fields f on texts)
  fields_all f line name on [] g = g
  fields_all f line name on (text ∷ texts) g = fields_all f line name (rel_field f on text) texts (field_all all f (mentions line name) on text g.value)

  pub path_all : (f : Fn) (line : ℕ) (path : List Text) → are_some_names path ≡ true → RelMoves all (path_part line path) true (rel_path f path)
  path_all f line [] h = cc
  path_all f line (text ∷ texts) h = fields_all f line text (rel_name f text) texts (name_all all f line text)

  pub method_all : (f : Fn) (line : ℕ) (path : List Text) (method : Option Text) → are_some_names path ≡ true → RelMoves all (path_part line path) true (rel_method f (rel_path f path) method)
  method_all f line path None h = path_all f line path h
  method_all f line path (Some text) h = let g = path_all f line path h in field_all all f (path_part line path) (rel_path f path) text g.value

  -- ---- statements without blocks

  pub until_moves : (b : Bool) (f : Fn) (part : outline.Part) (test : Rel) → ((active : List Active) (free : ℕ) (truth : Bool) (label : ℕ) (p q : Spot) → test.jump_if active free truth label p q → Moves all part p q) → (inner : List Active) (n exit first : ℕ) (p q : Spot) → UntilBy b f test inner n exit first p q → Moves all part p q
  until_moves true f part test g inner n exit first p q t =
      let w1 = t.close in
      let w2 = t.leave in
      let w3 = t.close_again in
      let w4 = t.back in
      behind all part p t.closing q (g inner (length inner) false (t.again).pc p t.closing t.test_at) (w4.ahead ∙ w3.ahead ∙ w2.ahead ∙ w1.ahead)
  until_moves false f part test g inner n exit first p q t = g inner (length inner) false first p q t

  alone : (x : Expression) (p q : Spot) → Moves all (expression_part x) p q → Moves all (both (expression_part x) nothing) p q
  alone x p q g = chain all (expression_part x) nothing p q q g (λ place rest e. e)

  return_by : (b c : Bool) (f : Fn) (x : Expression) → RelMoves all (expression_part x) (is_target x) (related f x) → (b ≡ true → several (related f x).form ≡ true) → (active : List Active) (p q : Spot) → ReturnBy b c f (related f x) active p q → Moves all (expressions_part (syntax.expression x no_expressions)) p q
  return_by true c f x g h active p q t = let w = t.second_at in alone x p q (behind all (expression_part x) p t.mid q (g.multi (h refl) active (length active) Op.TailCall None p t.mid t.first_at) w.ahead)
  return_by false true f x g h active p q t =
      let w = t.second_at in
      behind all (expressions_part (syntax.expression x no_expressions)) p t.mid q (open_moves all f (syntax.expression x no_expressions) (g, tt) active (length active) p t.mid t.first_at) w.ahead
  return_by false false f x g h active p q t = let w = t.words_at in alone x p q (behind all (expression_part x) p t.mid q (operand_moves all f (expression_part x) (related f x) g.value active (length active) t.x t.free1 p t.mid t.operand_at) w.ahead)

  several_call : (b d : Bool) → b ≡ true → b || d ≡ true
  several_call true d h = refl
  several_call false d h = cc

  return_moves : (f : Fn) (es : Expressions) → AllMoves all f es → (active : List Active) (p q : Spot) → ReturnAt f (all_related f es) active p q → Moves all (expressions_part es) p q
  return_moves f no_expressions g active p q t = λ place rest e. t.ahead ∙ e
  return_moves f (syntax.expression x no_expressions) g active p q t = return_by (related f x).form.call (related f x).form.dots f x g.0 (several_call (related f x).form.call (related f x).form.dots) active p q t
  return_moves f (syntax.expression x (syntax.expression y ys)) g active p q t =
      let w = t.second_at in
      behind all (expressions_part (syntax.expression x (syntax.expression y ys))) p t.mid q (open_moves all f (syntax.expression x (syntax.expression y ys)) g active (length active) p t.mid t.first_at) w.ahead

  -- a function whose statements pass their marks
  function_all : (params : List Text) (vararg : Bool) (block : Statements) (first last : ℕ) (method : Bool) → ((f : Fn) → StepMoves all (statements_part block) (StatementsAt f None block)) →
      (l : Law) → FunctionMoves all (body_part method (function_body params vararg block first last)) (FunctionAt l (all_params method params) vararg (λ f. StatementsAt f None block))
  function_all params vararg block first last method g l before behind' chunk t place rest e =
      let inside = in_function vararg place in
      let ps = all_params method params in
      let p : Spot = record { pc = 0; ahead = before; functions = 0 } in
      let body = λ (place : Place). both (declares first 0 ps) (both (come 0 ps place.declarations) (statements_part block)) place in
      let walk = body inside in
      let w = t.end in
      let start : before ≡ ahead_at all inside (walk.marks ++ rest) = e ∙ opened_ahead all place.declarations place.functions (walk.marks ++ rest) in
      let m = chain all (declares first 0 ps) (both (come 0 ps inside.declarations) (statements_part block)) p t.first t.mid (declared_moves all first 0 ps t.locals p t.first t.declared)
      (chain all (come 0 ps inside.declarations) (statements_part block) t.first t.first t.mid (λ place rest e. e) (g (fn l chunk) t.active t.inner t.first t.mid t.body_at)) in
      sym t.goes_on ∙ w.ahead ∙ m inside rest start

  pub called : (f : Fn) (x : Expression) → is_call x ≡ true → several (related f x).form ≡ true
  called f (call_expression line on args on_line) h = refl
  called f (method_call line on text args on_line) h = refl
  called f (nil_literal line) h = cc
  called f (true_literal line) h = cc
  called f (false_literal line) h = cc
  called f (vararg_expression line) h = cc
  called f (number_literal line n) h = cc
  called f (text_literal line text) h = cc
  called f (name_expression line text) h = cc
  called f (function_expression line body) h = cc
  called f (index_expression line on key) h = cc
  called f (field_expression line on text) h = cc
  called f (and_expression line left right) h = cc
  called f (or_expression line left right) h = cc
  called f (binary_expression line op left right) h = cc
  called f (unary_expression line op e) h = cc
  called f (constructor line items) h = cc
  called f (parenthesized line e) h = cc

  mutual
    pub statements_move : (f : Fn) (loop : Option LoopAt) (ss : Statements) → formed_statements ss ≡ true → StepMoves all (statements_part ss) (StatementsAt f loop ss)
    statements_move f loop no_statements h active after p q t = λ place rest e. let s = t.part_at in s.ahead ∙ e
    statements_move f loop (syntax.statement line semi s ss) h active after p q t =
        let h1 = and_left (formed_statement s) (may_follow s semi ss && formed_statements ss) h in
        let h2 = and_right (may_follow s semi ss) (formed_statements ss) (and_right (formed_statement s) (may_follow s semi ss && formed_statements ss) h) in
        chain all (statement_part line s) (statements_part ss) p t.mid q (statement_moves f loop line s h1 active t.between p t.mid t.first_at) (statements_move f loop ss h2 t.between after t.mid q t.rest_at)

    pub statement_moves : (f : Fn) (loop : Option LoopAt) (line : ℕ) (s : Statement) → formed_statement s ≡ true → StepMoves all (statement_part line s) (StatementAt f loop s)
    statement_moves f loop line (assignment targets es) h active after p q t =
        let a = and_right (has_expressions targets) _ h in
        let b = and_right (are_targets targets) _ a in
        let c = and_right (formed_expressions targets) _ b in
        assign_moves all f targets es (all_move f targets (and_left (formed_expressions targets) _ b)) (all_move f es (and_right (has_expressions es) _ c)) (and_left (are_targets targets) _ a) active p q t.part_at
    statement_moves f loop line (call_statement x) h active after p q t =
        let g = expression_moves f x (and_right (is_call x) (formed_expression x) h) in
        g.multi (called f x (and_left (is_call x) (formed_expression x) h)) active (length active) Op.Call (Some 0) p q t.part_at
    statement_moves f loop line (do_block block) h active after p q t =
        within_moves all f stay (statements_part block) (λ place. refl) (λ place. refl) p q (block_moves all f (statements_part block) (StatementsAt f loop block) (statements_move f loop block h) active p q t.part_at)
    statement_moves f loop line (while_loop x block) h active after p q t =
        let g = expression_moves f x (and_left (formed_expression x) (formed_statements block) h) in
        let k = and_right (formed_expression x) (formed_statements block) h in
        let r = t.part_at in
        let w = r.back in
        chain all (expression_part x) (within in_loop (statements_part block)) p r.mid q (g.jump_if active (length active) false q.pc p r.mid r.test_at)
        (behind all (within in_loop (statements_part block)) r.mid r.last q (within_moves all f in_loop (statements_part block) (λ place. refl) (λ place. refl) r.mid r.last (block_moves all f (statements_part block) _ (statements_move f _ block k) active r.mid r.last r.body_at)) w.ahead)
    statement_moves f loop line (repeat_loop block x) h active after p q t =
        let g = expression_moves f x (and_right (formed_statements block) (formed_expression x) h) in
        let k = and_left (formed_statements block) (formed_expression x) h in
        let r = t.part_at in
        within_moves all f in_loop (both (statements_part block) (expression_part x)) (λ place. refl) (λ place. refl) p q
        (chain all (statements_part block) (expression_part x) p r.mid q (statements_move f _ block k active r.inner p r.mid r.body_at) (until_moves _ f (expression_part x) (related f x) g.jump_if r.inner (length active) q.pc p.pc r.mid q r.until))
    statement_moves f loop line (if_statement branches last) h active after p q t =
        let k = and_right (has_branches branches) _ h in
        let r = t.part_at in
        chain all (branches_part branches) (otherwise_part last) p r.mid q (branches_move f loop q.pc _ branches (and_left (formed_branches branches) (formed_otherwise last) k) active p r.mid r.first_at)
        (otherwise_moves f loop last (and_right (formed_branches branches) (formed_otherwise last) k) active r.mid q r.second_at)
    statement_moves f loop line (numeric_for name first last step block) h active after p q t =
        let h1 = and_right (is_name name) _ h in
        let h2 = and_right (formed_expression first) _ h1 in
        let h3 = and_right (formed_expression last) _ h2 in
        let g1 = (expression_moves f first (and_left (formed_expression first) _ h1)).value in
        let g2 = (expression_moves f last (and_left (formed_expression last) _ h2)).value in
        let k = and_right (formed_step step) (formed_statements block) h3 in
        let r = t.part_at in
        let w1 = r.prepare in
        let w2 = r.back in
        λ place. let inner = λ (inside : Place). in_loop (with_locals 3 (name ∷ []) place.declarations inside) in
        chain all (declares line 3 (name ∷ [])) (both (both (expression_part first) (both (expression_part last) (step_part step))) (within inner (statements_part block))) p r.declared_by q
        (declared_moves all line 3 (name ∷ []) r.variables p r.declared_by r.declared)
        (chain all (both (expression_part first) (both (expression_part last) (step_part step))) (within inner (statements_part block)) r.declared_by r.with_step q
        (chain all (expression_part first) (both (expression_part last) (step_part step)) r.declared_by r.with_first r.with_step (g1.to_reg active (length active) (length active) r.declared_by r.with_first r.first_at)
        (chain all (expression_part last) (step_part step) r.with_first r.with_last r.with_step (g2.to_reg active _ _ r.with_first r.with_last r.last_at) (step_moves f step (and_left (formed_step step) (formed_statements block) h3) active _ r.with_last r.with_step r.step_at)))
        (ahead_of all (within inner (statements_part block)) r.with_step r.begin q w1.ahead
        (behind all (within inner (statements_part block)) r.begin r.loop q (within_moves all f inner (statements_part block) (λ place. refl) (λ place. refl) r.begin r.loop (turn_moves all f (statements_part block) _ (statements_move f _ block k) r.variables r.around r.begin r.loop r.turn_at)) w2.ahead))) place
    statement_moves f loop line (generic_for names es block) h active after p q t =
        let h1 = and_right (are_some_names names) _ h in
        let h2 = and_right (has_expressions es) _ h1 in
        let g = all_move f es (and_left (formed_expressions es) (formed_statements block) h2) in
        let k = and_right (formed_expressions es) (formed_statements block) h2 in
        let r = t.part_at in
        let w1 = r.enter in
        let w2 = r.call in
        let w3 = r.back in
        λ place. let inner = λ (inside : Place). in_loop (with_locals 3 names place.declarations inside) in
        chain all (declares line 3 names) (both (expressions_part es) (within inner (statements_part block))) p r.declared_by q
        (declared_moves all line 3 names r.variables p r.declared_by r.declared)
        (chain all (expressions_part es) (within inner (statements_part block)) r.declared_by r.valued q (adjust_moves all f es 3 g active (length active) r.declared_by r.valued r.values_at)
        (ahead_of all (within inner (statements_part block)) r.valued r.begin q w1.ahead
        (behind all (within inner (statements_part block)) r.begin r.loop q (within_moves all f inner (statements_part block) (λ place. refl) (λ place. refl) r.begin r.loop (turn_moves all f (statements_part block) _ (statements_move f _ block k) r.variables r.around r.begin r.loop r.turn_at)) (w3.ahead ∙ w2.ahead)))) place
    statement_moves f loop line (function_statement path method body) h active after p q t =
        let h1 = and_left (are_some_names path) _ h in
        let h2 = and_right _ (formed_body body) (and_right (are_some_names path) _ h) in
        let part = body_part (is_some method) body in
        let made = FunctionOf body (is_some method) in
        assign_one all f (path_part line path) part (rel_method f (rel_path f path) method) (rel_function f made) (method_all f line path method h1)
        (record { named = λ n p q a. cc; bare = λ active p q a. a; quiet = λ k l p q a. cc; to_reg = closure_moves all f part made (function_moves body (is_some method) h2) }) active p q t.part_at
    statement_moves f loop line (local_function name body) h active after p q t = λ place.
        chain all (declares line 0 (name ∷ [])) (both (come 0 (name ∷ []) place.declarations) (body_part false body)) p t.mid q (declared_moves all line 0 (name ∷ []) t.locals p t.mid t.declared)
        (chain all (come 0 (name ∷ []) place.declarations) (body_part false body) t.mid t.mid q (λ place rest e. e)
        (closure_moves all f (body_part false body) (FunctionOf body false) (function_moves body false (and_right (is_name name) (formed_body body) h)) after _ _ t.mid q t.closure_at)) place
    statement_moves f loop line (local_statement names es) h active after p q t = λ place.
        chain all (declares line 0 names) (both (expressions_part es) (come 0 names place.declarations)) p t.mid q (declared_moves all line 0 names t.locals p t.mid t.declared)
        (chain all (expressions_part es) (come 0 names place.declarations) t.mid q q (adjust_moves all f es (length names) (all_move f es (and_right (are_some_names names) (formed_expressions es) h)) active (length active) t.mid q t.values_at) (λ place rest e. e)) place
    statement_moves f loop line (return_statement es) h active after p q t = return_moves f es (all_move f es h) active p q t.part_at
    statement_moves f None line break_statement h active after p q t = λ place rest e. let s : Same p q = not_never f.law Same p q t.part_at in s.ahead ∙ e
    statement_moves f (Some loop) line break_statement h active after p q t = λ place rest e. let s = t.part_at in let w = s.second_at in w.ahead ∙ close_same all f _ loop.before p s.mid s.first_at ∙ e

    pub branches_move : (f : Fn) (loop : Option LoopAt) (end : ℕ) (more : Bool) (branches : Branches) → formed_branches branches ≡ true → (active : List Active) (p q : Spot) → BranchesAt f loop end more branches active p q → Moves all (branches_part branches) p q
    branches_move f loop end more no_branches h active p q t = λ place rest e. t.ahead ∙ e
    branches_move f loop end more (branch x block others) h active p q t =
        let g = expression_moves f x (and_left (formed_expression x) _ h) in
        let h1 = and_right (formed_expression x) _ h in
        let a = t.first_at in
        chain all (expression_part x) (both (within stay (statements_part block)) (branches_part others)) p a.mid q (g.jump_if active (length active) false (t.mid).pc p a.mid a.test_at)
        (chain all (within stay (statements_part block)) (branches_part others) a.mid t.mid q
        (behind all (within stay (statements_part block)) a.mid a.last t.mid (within_moves all f stay (statements_part block) (λ place. refl) (λ place. refl) a.mid a.last (block_moves all f (statements_part block) _ (statements_move f loop block (and_left (formed_statements block) (formed_branches others) h1)) active a.mid a.last a.body_at)) (jump_same all f _ end a.last t.mid a.leave))
        (branches_move f loop end more others (and_right (formed_statements block) (formed_branches others) h1) active t.mid q t.second_at))

    pub otherwise_moves : (f : Fn) (loop : Option LoopAt) (last : Otherwise) → formed_otherwise last ≡ true → (active : List Active) (p q : Spot) → OtherwiseAt f loop last active p q → Moves all (otherwise_part last) p q
    otherwise_moves f loop no_otherwise h active p q t = λ place rest e. t.ahead ∙ e
    otherwise_moves f loop (otherwise block) h active p q t = within_moves all f stay (statements_part block) (λ place. refl) (λ place. refl) p q (block_moves all f (statements_part block) _ (statements_move f loop block h) active p q t)

    pub step_moves : (f : Fn) (step : ForStep) → formed_step step ≡ true → (active : List Active) (free : ℕ) (p q : Spot) → StepAt f step active free p q → Moves all (step_part step) p q
    step_moves f no_step h active free p q t = λ place rest e. let w = t.word in w.ahead ∙ e
    step_moves f (by_step x) h active free p q t = let v = (expression_moves f x h).value in v.to_reg active free free p q t

    pub function_moves : (body : FunctionBody) (method : Bool) → formed_body body ≡ true → (l : Law) → FunctionMoves all (body_part method body) (FunctionOf body method l)
    function_moves (function_body params vararg block first last) method h =
        λ l before behind chunk t. function_all params vararg block first last method (λ f. statements_move f None block (and_right (are_names params) (formed_statements block) h)) l before behind chunk t.at

    pub expression_moves : (f : Fn) (x : Expression) → formed_expression x ≡ true → RelMoves all (expression_part x) (is_target x) (related f x)
    expression_moves f (nil_literal line) h = plain_all f (nil_literal line) _ refl (λ active free r p q w place rest e. w.ahead ∙ e)
    expression_moves f (true_literal line) h = plain_all f (true_literal line) _ refl (λ active free r p q w place rest e. w.ahead ∙ e)
    expression_moves f (false_literal line) h = plain_all f (false_literal line) _ refl (λ active free r p q w place rest e. w.ahead ∙ e)
    expression_moves f (vararg_expression line) h = vararg_all all f line
    expression_moves f (number_literal line n) h = plain_all f (number_literal line n) _ refl (λ active free r p q w place rest e. (w.word).ahead ∙ e)
    expression_moves f (text_literal line text) h = plain_all f (text_literal line text) _ refl (λ active free r p q w place rest e. (w.word).ahead ∙ e)
    expression_moves f (name_expression line text) h = name_all all f line text
    expression_moves f (function_expression line body) h = plain_all f (function_expression line body) _ refl (closure_moves all f (body_part false body) (FunctionOf body false) (function_moves body false h))
    expression_moves f (index_expression line on key) h =
        let h1 = and_right (is_prefix on) _ h in
        let g = expression_moves f on (and_left (formed_expression on) (formed_expression key) h1) in
        let k = expression_moves f key (and_right (formed_expression on) (formed_expression key) h1) in
        index_all all f (expression_part on) (expression_part key) line on key (related f on) (related f key) g.value k.value
    expression_moves f (field_expression line on text) h =
        let g = expression_moves f on (and_left (formed_expression on) _ (and_right (is_prefix on) _ h)) in
        field_all all f (expression_part on) (related f on) text g.value
    expression_moves f (call_expression line on args on_line) h =
        let h1 = and_right (is_prefix on) _ h in
        let g = expression_moves f on (and_left (formed_expression on) _ h1) in
        let k = given_moves f args (and_right (on_its_line args line on_line) (formed_arguments args) (and_right (formed_expression on) _ h1)) in
        call_all all f (both (expression_part on) (arguments_part args)) (form_of (call_expression line on args on_line)) (CallAt f (related f on) (given_rel f args)) refl refl
        (call_moves all f (expression_part on) (arguments_part args) (related f on) (given_rel f args) g.value k)
    expression_moves f (method_call line on text args on_line) h =
        let h1 = and_right (is_prefix on) _ h in
        let h2 = and_right (formed_expression on) _ h1 in
        let h3 = and_right (is_name text) _ h2 in
        let g = expression_moves f on (and_left (formed_expression on) _ h1) in
        let k = given_moves f args (and_right (on_its_line args line on_line) (formed_arguments args) h3) in
        call_all all f (both (expression_part on) (arguments_part args)) (form_of (method_call line on text args on_line)) (MethodAt f (related f on) text (given_rel f args)) refl refl
        (method_moves all f (expression_part on) (arguments_part args) (related f on) text (given_rel f args) g.value k)
    expression_moves f (and_expression line left right) h =
        let h1 = and_right (right_binds 2 false right) _ (and_right (left_binds 2 false left) _ h) in
        let g = expression_moves f left (and_left (formed_expression left) (formed_expression right) h1) in
        let k = expression_moves f right (and_right (formed_expression left) (formed_expression right) h1) in
        logic_all all f (expression_part left) (expression_part right) (related f left) (related f right) _ _ g k false (form_of (and_expression line left right)) refl
        (value_all f (and_expression line left right) _ (logic_value all f (expression_part left) (expression_part right) (related f left) (related f right) _ _ g k false))
    expression_moves f (or_expression line left right) h =
        let h1 = and_right (right_binds 1 false right) _ (and_right (left_binds 1 false left) _ h) in
        let g = expression_moves f left (and_left (formed_expression left) (formed_expression right) h1) in
        let k = expression_moves f right (and_right (formed_expression left) (formed_expression right) h1) in
        logic_all all f (expression_part left) (expression_part right) (related f left) (related f right) _ _ g k true (form_of (or_expression line left right)) refl
        (value_all f (or_expression line left right) _ (logic_value all f (expression_part left) (expression_part right) (related f left) (related f right) _ _ g k true))
    expression_moves f (binary_expression line op left right) h =
        let h1 = and_right _ _ (and_right _ _ h) in
        let g = expression_moves f left (and_left (formed_expression left) (formed_expression right) h1) in
        let k = expression_moves f right (and_right (formed_expression left) (formed_expression right) h1) in
        let x = binary_expression line op left right in
        binary_all all f (expression_part left) (expression_part right) (related f left) (related f right) _ _ g k op line left right
        (single_moves all f (expression_part x) (form_of x) _ refl (value_all f x _ (load_moves all f _ x _ refl (binary_value all f (expression_part left) (expression_part right) (related f left) (related f right) _ _ g k op))))
    expression_moves f (unary_expression line op e) h =
        let g = expression_moves f e (and_right (left_binds 7 false e) (formed_expression e) h) in
        let x = unary_expression line op e in
        unary_all all f op (expression_part e) x (related f e) _ g (single_moves all f (expression_part e) (form_of x) _ refl (value_all f x _ (load_moves all f _ x _ refl (unary_value all f op (expression_part e) (related f e) g.value))))
    expression_moves f (constructor line items) h =
        let g = fields_move f items h in
        plain_all f (constructor line items) _ refl (moved_value all f (fields_part items) (λ active free. TableAt f (λ t. ItemsAt f items active t 0 0) free) (λ active free p q t.
        ahead_of all (fields_part items) p t.mid q ((t.word).ahead) (items_move all f items g active free 0 0 t.mid q t.items_at)))
    expression_moves f (parenthesized line e) h =
        let g = expression_moves f e h in
        paren_all all f (expression_part e) line e (related f e) _ (λ p q n a. name_moves all e n p q a) (λ k p q l a. literal_moves all (parenthesized line e) k l p q a) g

    pub given_moves : (f : Fn) (args : Arguments) → formed_arguments args ≡ true → (active : List Active) (free : ℕ) (p q : Spot) → (given_rel f args).part active free p q → Moves all (arguments_part args) p q
    given_moves f (argument_list es) h active free p q t = open_moves all f es (all_move f es h) active free p q t
    given_moves f (text_argument text) h active free p q t = λ place rest e. let v = t.value_at in (v.word).ahead ∙ e
    given_moves f (table_argument items) h active free p q t = ahead_of all (fields_part items) p t.mid q ((t.word).ahead) (items_move all f items (fields_move f items h) active free 0 0 t.mid q t.items_at)

    pub all_move : (f : Fn) (es : Expressions) → formed_expressions es ≡ true → AllMoves all f es
    all_move f no_expressions h = tt
    all_move f (syntax.expression x xs) h = (expression_moves f x (and_left (formed_expression x) (formed_expressions xs) h), all_move f xs (and_right (formed_expression x) (formed_expressions xs) h))

    pub fields_move : (f : Fn) (items : Fields) → formed_fields items ≡ true → FieldsMove all f items
    fields_move f no_fields h = tt
    fields_move f (positional x separator rest) h =
        let h1 = and_right (ends_item separator rest) _ h in
        (expression_moves f x (and_left (formed_expression x) (formed_fields rest) h1), fields_move f rest (and_right (formed_expression x) (formed_fields rest) h1))
    fields_move f (named text x separator rest) h =
        let h1 = and_right (is_name text) _ (and_right (ends_item separator rest) _ h) in
        (expression_moves f x (and_left (formed_expression x) (formed_fields rest) h1), fields_move f rest (and_right (formed_expression x) (formed_fields rest) h1))
    fields_move f (keyed key x separator rest) h =
        let h1 = and_right (ends_item separator rest) _ h in
        let h2 = and_right (formed_expression key) _ h1 in
        (expression_moves f key (and_left (formed_expression key) _ h1), expression_moves f x (and_left (formed_expression x) (formed_fields rest) h2), fields_move f rest (and_right (formed_expression x) (formed_fields rest) h2))
