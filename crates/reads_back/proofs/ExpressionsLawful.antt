-- Expressions with the law asked, as `names_stand` has them, but for each by itself: all its uses, and those of the lists, the steps and the bodies of functions in it.
use Rattle.std.proofs.Common.{◌≡◌, ◌<◌, ℕ, Bool, true, false, ◌&&◌, List, [], ◌++◌, refl, sym, ◌∙◌, arith}
use Rattle.std.specs.Prelude.{Option, None, is_some, pos}
use Rattle.lua_num.specs.Bytes.{Text}
use Rattle.lua_tree.specs.Names.{are_names, is_name}
use Rattle.lua_tree.specs.Outline.{Mark, Place, both, nothing, in_function, all_params, statements_part, statement_part, step_part, body_part, expression_part, arguments_part, fields_part}
use Rattle.lua_tree.specs.Scoping.{upvalues_of}
use Rattle.lua_tree.specs.Syntax as syntax
use Rattle.lua_tree.specs.Syntax.{Expressions, no_expressions, Arguments, argument_list, text_argument, table_argument, Fields, no_fields, positional, named, keyed, Statements, no_statements, ForStep, no_step, by_step, FunctionBody, function_body, Expression, nil_literal, true_literal, false_literal, vararg_expression, number_literal, text_literal, name_expression, function_expression, index_expression, field_expression, call_expression, method_call, and_expression, or_expression, binary_expression, unary_expression, constructor, parenthesized}
use Rattle.lua_tree.specs.WellFormed.{is_target, is_prefix, may_follow, formed_statements, formed_statement, formed_step, formed_body, formed_expressions, formed_expression, formed_arguments, formed_fields, on_its_line, ends_item}
use Rattle.lua_tree.specs.Precedence.{left_binds, right_binds}
use Rattle.opcode.specs.declared.op.Op.{Op}
use Rattle.proto.specs.declared.parts.Constant.{Constant}
use Rattle.scheme.specs.Making.{head_or}
use Rattle.scheme.specs.declared.making.Active.{Active}
use Rattle.scheme_stands.specs.Words.{Names, Fn, fn, asking, Spot, names_in, onto}
use Rattle.scheme_stands.specs.Expressions.{form_of}
use Rattle.scheme_stands.specs.Lists.{CallAt, MethodAt}
use Rattle.scheme_stands.specs.Functions.{ClosureAt}
use Rattle.scheme_stands.specs.Statements.{LoopAt}
use Rattle.scheme_stands.specs.Relation.{related, given_rel, StatementsAt, StepAt, FunctionOf}
use Rattle.scheme_stands.specs.Placed.{RulesKept, names_of_seen}
use Rattle.scheme_stands.proofs.Counting.{statement_counted}
use Rattle.scheme_stands.proofs.Entering.{entered_by}
use Rattle.scheme_stands.proofs.Here.{tame_arguments}
use Rattle.scheme_stands.proofs.Walks.{and_left, and_right}
use Rattle.scheme_stands.proofs.Scopes.{expression_moves, all_move, fields_move}
use Rattle.scheme_stands.proofs.Sequences.{function_onwards}
use Rattle.scheme_stands.proofs.Small.{Setting, field_a, field_b}
use Rattle.scheme_stands.proofs.Words.{Lifted, alone, plain_first, same_lift, abc_lift, constant_lift}
use Rattle.scheme_stands.proofs.Lifts.{Stands, Lift, RelLifts, value_of, GivenLifts, single_lifts, load_lift, field_lifts, name_lifts, paren_lifts, unary_lifts, binary_lifts, index_lifts, logic_lifts, call_lift, method_lift, call_lifts, moved_lift, vararg_lifts}
use Rattle.scheme_stands.proofs.Lifting.{calm_expression, FunctionLifts, AllLift, FieldsLift, counts, open_lifts, list_room, table_lift, closure_lift}
use Rattle.scheme_stands.proofs.Standing.{stands_statement, stands_onwards}
use Rattle.scheme_stands.proofs.Lawful.{function_named, statement_lift}

module _ (all : List Mark) (rules : RulesKept all) where
  abbrev StatementsLift : Statements → Type 0
  StatementsLift ss =
      (n : Names) (f : Fn) → Setting n f → (loop : Option LoopAt) (place : Place) (rest : List Mark) (active after : List Active) (p q : Spot) → is_some loop ≡ place.looped →
      Stands all n f (statements_part ss) place rest active p → StatementsAt f loop ss active after p q → Lifted f (StatementsAt (asking n f) loop ss active after p q) q

  function_lift : (params : List Text) (vararg : Bool) (block : Statements) (first last : ℕ) (method : Bool) → StatementsLift block → FunctionLifts all (function_body params vararg block first last) method
  function_lift params vararg block first last method lift n f place rest active p behind' chunk s c made =
      let t = made.at in
      let ps = all_params method params in
      let uses = head_or [] p.ahead.sources in
      let h = s.here in
      let names = names_of_seen all place active (upvalues_of place.functions all) uses c in
      let inner : Names = record { around = names_in (onto active []) ++ n.around; upvalues = names } in
      let w = function_onwards all method params vararg block first last place rest p behind' chunk (λ f. StatementsAt f None block) h t in
      let g = function_named all rules method params vararg block first last place rest n active p behind' chunk h s.named c t in
      let setting : Setting inner (fn None chunk) = record { lawless = refl; limits = t.limits; few = g.0 } in
      let body = lift inner (fn None chunk) setting None (entered_by ps first (in_function vararg place)) rest t.active t.inner t.first t.mid refl (record { here = w.here; active_at = w.active_at; named = g.1; room = t.room; plain = plain_first (fn None chunk) t.first t.begins }) t.body_at in
      let end = abc_lift inner (fn None chunk) Op.Return 0 1 0 (alone Op.Return refl) (omega arith) (omega arith) (omega arith) t.mid t.last body.plain t.end in
      let limits = t.limits in
      record {
        at = record {
          param_count = t.param_count;
          flags = t.flags;
          limits = record { two = limits.two; registers = limits.registers; constants = limits.constants; functions = limits.functions };
          locals = t.locals;
          active = t.active;
          inner = t.inner;
          first = t.first;
          mid = t.mid;
          last = t.last;
          begins = t.begins;
          none_made = t.none_made;
          declared = t.declared;
          activated = t.activated;
          room = t.room;
          body_at = body.is;
          end = end.is;
          ends = t.ends;
          all_made = t.all_made;
          goes_on = t.goes_on;
        };
        is = made.is;
        placed = record {
          all = all;
          kept = rules;
          place = place;
          rest = rest;
          around = n;
          active = active;
          ahead = p.ahead;
          here = record { between = h.between; scope = h.scope; ahead = h.ahead; apart = h.apart };
          active_at = s.active_at;
          named = s.named;
          captures = c;
          before_is = refl;
          inside_is = refl;
        };
      }

  pub statements_lift : (ss : Statements) → formed_statements ss ≡ true → StatementsLift ss
  statements_lift no_statements h n f setting loop place rest active after p q is s t =
      let w = same_lift n f p q s.plain t.part_at in
      record { is = record { stays = t.stays; part_at = w.is }; plain = w.plain }
  statements_lift (syntax.statement line semi c ss) h n f setting loop place rest active after p q is s t =
      let h1 = and_left (formed_statement c) (may_follow c semi ss && formed_statements ss) h in
      let h2 = and_right (may_follow c semi ss) (formed_statements ss) (and_right (formed_statement c) (may_follow c semi ss && formed_statements ss) h) in
      let one = statement_lift all rules line c h1 n f setting loop place _ active t.between p t.mid is (stands_statement all n f line semi c ss place rest active p s) t.first_at in
      let others = statements_lift ss h2 n f setting loop (statement_part line c place).next rest t.between after t.mid q (is ∙ sym (statement_counted line c place).looped) (stands_onwards all n f loop line semi c ss place rest active t.between p t.mid h1 s t.first_at one.plain) t.rest_at in
      record { is = record { between = t.between; mid = t.mid; first_at = one.is; rest_at = others.is }; plain = others.plain }

  body_lifts : (body : FunctionBody) (method : Bool) → formed_body body ≡ true → FunctionLifts all body method
  body_lifts (function_body params vararg block first last) method h = function_lift params vararg block first last method (statements_lift block (and_right (are_names params) (formed_statements block) h))

  mutual
    pub expression_lifts : (n : Names) (f : Fn) (setting : Setting n f) (x : Expression) → formed_expression x ≡ true → RelLifts all n f (expression_part x) (is_target x) (related f x) (related (asking n f) x)
    expression_lifts n f setting (nil_literal line) h = single_lifts all n f setting nothing (form_of (nil_literal 0)) _ _ refl (λ active free r hr place rest p q s t. abc_lift n f Op.LoadNil r r 0 (alone Op.LoadNil refl) (field_a n f r setting (omega (arith, hr))) (field_b n f r setting (omega (arith, hr))) (omega arith) p q s.plain t)
    expression_lifts n f setting (true_literal line) h = single_lifts all n f setting nothing (form_of (true_literal 0)) _ _ refl (λ active free r hr place rest p q s t. abc_lift n f Op.LoadBool r 1 0 (alone Op.LoadBool refl) (field_a n f r setting (omega (arith, hr))) (omega arith) (omega arith) p q s.plain t)
    expression_lifts n f setting (false_literal line) h = single_lifts all n f setting nothing (form_of (false_literal 0)) _ _ refl (λ active free r hr place rest p q s t. abc_lift n f Op.LoadBool r 0 0 (alone Op.LoadBool refl) (field_a n f r setting (omega (arith, hr))) (omega arith) (omega arith) p q s.plain t)
    expression_lifts n f setting (vararg_expression line) h = vararg_lifts all n f setting (expression_part (vararg_expression line))
    expression_lifts n f setting (number_literal line x) h = single_lifts all n f setting nothing (form_of (number_literal 0 x)) _ _ refl (load_lift all n f setting nothing (Constant.Number x))
    expression_lifts n f setting (text_literal line text) h = single_lifts all n f setting nothing (form_of (text_literal 0 text)) _ _ refl (load_lift all n f setting nothing (Constant.Text text))
    expression_lifts n f setting (name_expression line text) h = name_lifts all n f setting line text
    expression_lifts n f setting (function_expression line body) h =
        single_lifts all n f setting (body_part false body) _ (ClosureAt f (FunctionOf body false)) (ClosureAt (asking n f) (FunctionOf body false)) refl (closure_lift all n f setting body false (body_lifts body false h))
    expression_lifts n f setting (index_expression line on key) h =
        let h1 = and_right (is_prefix on) _ h in
        let a = and_left (formed_expression on) (formed_expression key) h1 in
        let b = and_right (formed_expression on) (formed_expression key) h1 in
        index_lifts all n f setting (expression_part on) (expression_part key) (related f on) (related (asking n f) on) (related f key) (related (asking n f) key) (is_target on) (is_target key) (expression_moves all f on a) (calm_expression on) (calm_expression key) (expression_lifts n f setting on a) (expression_lifts n f setting key b) (form_of (index_expression line on key)) refl
    expression_lifts n f setting (field_expression line on text) h =
        field_lifts all n f setting (expression_part on) (is_target on) (related f on) (related (asking n f) on) text (expression_lifts n f setting on (and_left (formed_expression on) _ (and_right (is_prefix on) _ h)))
    expression_lifts n f setting (call_expression line on args on_line) h =
        let h1 = and_right (is_prefix on) _ h in
        let a = and_left (formed_expression on) _ h1 in
        let b = and_right (on_its_line args line on_line) (formed_arguments args) (and_right (formed_expression on) _ h1) in
        let g = expression_moves all f on a in
        call_lifts all n f setting (both (expression_part on) (arguments_part args)) (form_of (call_expression line on args on_line)) (CallAt f (related f on) (given_rel f args)) (CallAt (asking n f) (related (asking n f) on) (given_rel (asking n f) args))
        (call_lift all n f setting (expression_part on) (arguments_part args) (related f on) (related (asking n f) on) (given_rel f args) (given_rel (asking n f) args) g.value (calm_expression on) (tame_arguments args) (value_of all n f _ _ _ _ (expression_lifts n f setting on a)) (given_lifts n f setting args b))
    expression_lifts n f setting (method_call line on text args on_line) h =
        let h1 = and_right (is_prefix on) _ h in
        let h2 = and_right (formed_expression on) _ h1 in
        let h3 = and_right (is_name text) _ h2 in
        let a = and_left (formed_expression on) _ h1 in
        let b = and_right (on_its_line args line on_line) (formed_arguments args) h3 in
        let g = expression_moves all f on a in
        call_lifts all n f setting (both (expression_part on) (arguments_part args)) (form_of (method_call line on text args on_line)) (MethodAt f (related f on) text (given_rel f args)) (MethodAt (asking n f) (related (asking n f) on) text (given_rel (asking n f) args))
        (method_lift all n f setting (expression_part on) (arguments_part args) (related f on) (related (asking n f) on) (given_rel f args) (given_rel (asking n f) args) g.value (calm_expression on) (tame_arguments args) (value_of all n f _ _ _ _ (expression_lifts n f setting on a)) (given_lifts n f setting args b) text)
    expression_lifts n f setting (and_expression line left right) h =
        let h1 = and_right (right_binds 2 false right) _ (and_right (left_binds 2 false left) _ h) in
        let a = and_left (formed_expression left) (formed_expression right) h1 in
        let b = and_right (formed_expression left) (formed_expression right) h1 in
        logic_lifts all n f setting (expression_part left) (expression_part right) (related f left) (related (asking n f) left) (related f right) (related (asking n f) right) (is_target left) (is_target right) (expression_moves all f left a) (calm_expression left) (calm_expression right) (expression_lifts n f setting left a) (expression_lifts n f setting right b) false (form_of (and_expression line left right)) refl
    expression_lifts n f setting (or_expression line left right) h =
        let h1 = and_right (right_binds 1 false right) _ (and_right (left_binds 1 false left) _ h) in
        let a = and_left (formed_expression left) (formed_expression right) h1 in
        let b = and_right (formed_expression left) (formed_expression right) h1 in
        logic_lifts all n f setting (expression_part left) (expression_part right) (related f left) (related (asking n f) left) (related f right) (related (asking n f) right) (is_target left) (is_target right) (expression_moves all f left a) (calm_expression left) (calm_expression right) (expression_lifts n f setting left a) (expression_lifts n f setting right b) true (form_of (or_expression line left right)) refl
    expression_lifts n f setting (binary_expression line op left right) h =
        let h1 = and_right _ _ (and_right _ _ h) in
        let a = and_left (formed_expression left) (formed_expression right) h1 in
        let b = and_right (formed_expression left) (formed_expression right) h1 in
        binary_lifts all n f setting (expression_part left) (expression_part right) (related f left) (related (asking n f) left) (related f right) (related (asking n f) right) (is_target left) (is_target right) (expression_moves all f left a) (calm_expression left) (calm_expression right) (expression_lifts n f setting left a) (expression_lifts n f setting right b) op (binary_expression line op left right) refl
    expression_lifts n f setting (unary_expression line op e) h =
        unary_lifts all n f setting op (expression_part e) (is_target e) (unary_expression line op e) (related f e) (related (asking n f) e) refl (expression_lifts n f setting e (and_right (left_binds 7 false e) (formed_expression e) h))
    expression_lifts n f setting (constructor line items) h =
        single_lifts all n f setting (fields_part items) _ _ _ refl (λ active free r. moved_lift all n f setting (fields_part items) active _ _ free r (table_lift all n f setting items (fields_move all f items h) (fields_lift n f setting items h) active free) (λ p q t. t.room))
    expression_lifts n f setting (parenthesized line e) h = paren_lifts all n f setting (expression_part e) (is_target e) (form_of (parenthesized line e)) (related f e) (related (asking n f) e) refl (expression_lifts n f setting e h)

    given_lifts : (n : Names) (f : Fn) (setting : Setting n f) (args : Arguments) → formed_arguments args ≡ true → GivenLifts all n f setting (arguments_part args) (given_rel f args) (given_rel (asking n f) args)
    given_lifts n f setting (argument_list es) h = record {
      count = counts all n f setting es (all_lift n f setting es h);
      lift = open_lifts all n f setting es (all_move all f es h) (all_lift n f setting es h);
      room = list_room all n f setting es;
    }
    given_lifts n f setting (text_argument text) h = record {
      count = refl;
      lift = λ active free place rest p q s t.
          let room = t.room in
          let w = constant_lift n f Op.LoadK free (Constant.Text text) (record { is = refl; none = λ inner i. refl }) setting.limits (field_a n f free setting (omega (arith, room))) p q s.plain t.value_at in
          record { is = record { room = t.room; at_x = t.at_x; at_free = t.at_free; value_at = w.is }; plain = w.plain };
      room = λ active free p q h t. let room = t.room in omega (arith, room);
    }
    given_lifts n f setting (table_argument items) h = record {
      count = refl;
      lift = table_lift all n f setting items (fields_move all f items h) (fields_lift n f setting items h);
      room = λ active free p q h t. let room = t.room in omega (arith, room);
    }

    pub all_lift : (n : Names) (f : Fn) (setting : Setting n f) (es : Expressions) → formed_expressions es ≡ true → AllLift all n f es
    all_lift n f setting no_expressions h = tt
    all_lift n f setting (syntax.expression x xs) h = (expression_lifts n f setting x (and_left (formed_expression x) (formed_expressions xs) h), all_lift n f setting xs (and_right (formed_expression x) (formed_expressions xs) h))

    fields_lift : (n : Names) (f : Fn) (setting : Setting n f) (items : Fields) → formed_fields items ≡ true → FieldsLift all n f items
    fields_lift n f setting no_fields h = tt
    fields_lift n f setting (positional x separator rest) h =
        let h1 = and_right (ends_item separator rest) _ h in
        (expression_lifts n f setting x (and_left (formed_expression x) (formed_fields rest) h1), fields_lift n f setting rest (and_right (formed_expression x) (formed_fields rest) h1))
    fields_lift n f setting (named text x separator rest) h =
        let h1 = and_right (is_name text) _ (and_right (ends_item separator rest) _ h) in
        (expression_lifts n f setting x (and_left (formed_expression x) (formed_fields rest) h1), fields_lift n f setting rest (and_right (formed_expression x) (formed_fields rest) h1))
    fields_lift n f setting (keyed key x separator rest) h =
        let h1 = and_right (ends_item separator rest) _ h in
        let h2 = and_right (formed_expression key) _ h1 in
        (expression_lifts n f setting key (and_left (formed_expression key) _ h1), expression_lifts n f setting x (and_left (formed_expression x) (formed_fields rest) h2), fields_lift n f setting rest (and_right (formed_expression x) (formed_fields rest) h2))

  pub step_lift : (step : ForStep) → formed_step step ≡ true → (n : Names) (f : Fn) → Setting n f → (active : List Active) (free : ℕ) → free < f.size → Lift all n f (step_part step) active (StepAt f step active free) (StepAt (asking n f) step active free)
  step_lift no_step h n f setting active free hr place rest p q s t = load_lift all n f setting nothing (Constant.Number (pos 1)) active free free hr place rest p q s t
  step_lift (by_step x) h n f setting active free hr place rest p q s t = let l = expression_lifts n f setting x h in l.to_reg active free free hr place rest p q s t
