-- The whole tree with the law asked: what stands as the scheme gives it, at its place in a source that keeps the rules of scoping,
-- stands so that each word is read as its instruction, and each name and each closure has what the scope there finds.
use Rattle.std.proofs.Common.{◌≡◌, ◌≤◌, ◌<◌, ℕ, ◌+◌, Bool, true, false, ◌&&◌, List, [], ◌∷◌, ◌++◌, length, drop, refl, sym, ap, ◌∙◌, subst, arith, true≢false}
use Rattle.std.specs.Prelude.{Option, Some, None, ◌||◌, is_some, ◌==◌, pos}
use Rattle.std.proofs.lemmas.Bool.{eqb-true}
use Rattle.lua_num.specs.Bytes.{Text}
use Rattle.lua_tree.specs.Names.{are_some_names, are_names, is_name}
use Rattle.lua_tree.specs.Outline as outline
use Rattle.lua_tree.specs.Outline.{Binding, Mark, Place, both, within, nothing, stay, in_loop, in_function, declares, innermost, mentions, path_part, all_params, statements_part, statement_part, branches_part, otherwise_part, step_part, body_part, expressions_part, expression_part, arguments_part, fields_part, beginning}
use Rattle.lua_tree.specs.Scoping.{Scoped, is_one_of, upvalues_of}
use Rattle.lua_tree.specs.Syntax as syntax
use Rattle.lua_tree.specs.Syntax.{Source, Expressions, no_expressions, Arguments, argument_list, text_argument, table_argument, Fields, no_fields, positional, named, keyed, Statements, no_statements, Statement, assignment, call_statement, do_block, while_loop, repeat_loop, if_statement, numeric_for, generic_for, function_statement, local_function, local_statement, return_statement, break_statement, Branches, no_branches, branch, Otherwise, no_otherwise, otherwise, ForStep, no_step, by_step, FunctionBody, function_body, Expression, nil_literal, true_literal, false_literal, vararg_expression, number_literal, text_literal, name_expression, function_expression, index_expression, field_expression, call_expression, method_call, and_expression, or_expression, binary_expression, unary_expression, constructor, parenthesized}
use Rattle.lua_tree.specs.WellFormed.{WellFormed, is_target, is_call, is_prefix, are_targets, has_expressions, has_branches, may_follow, formed_statements, formed_statement, formed_branches, formed_otherwise, formed_step, formed_body, formed_expressions, formed_expression, formed_arguments, formed_fields, on_its_line, ends_item}
use Rattle.lua_tree.specs.Precedence.{left_binds, right_binds}
use Rattle.opcode.specs.declared.op.Op.{Op}
use Rattle.proto.specs.Chunk.{Chunk}
use Rattle.proto.specs.declared.parts.Constant.{Constant}
use Rattle.scheme.specs.Making.{head_or, any_captured, Ahead}
use Rattle.scheme.specs.Functions.{without_sources}
use Rattle.scheme.specs.Scheme.{has_branch, has_otherwise}
use Rattle.scheme.specs.Statements.{numeric_names, generic_names}
use Rattle.scheme.specs.Expressions.{Target, Want, count_field}
use Rattle.scheme.specs.declared.making.Piece.{Piece}
use Rattle.scheme.specs.declared.making.Active.{Active}
use Rattle.scheme.specs.declared.making.Local.{Local}
use Rattle.scheme_stands.specs.Words.{Names, Fn, fn, asking, Spot, Plain, WordAt, names_in, onto}
use Rattle.scheme_stands.specs.Expressions.{Form, Rel, form_of, rel_name, rel_field}
use Rattle.scheme_stands.specs.Lists.{CallAt, MethodAt, rels_count}
use Rattle.scheme_stands.specs.Functions.{Step, rel_function, Activated, ClosureAt, FunctionAt}
use Rattle.scheme_stands.specs.Statements.{LoopAt, rel_fields, rel_path, rel_method, UntilBy, ListReturnAt, ReturnBy, ReturnAt, AssignAt, EachStoredAt, BlockAt, TurnAt, BreakAt}
use Rattle.scheme_stands.specs.Relation.{related, all_related, given_rel, StatementsAt, StatementAt, BranchesAt, OtherwiseAt, StepAt, FunctionOf, MainAt}
use Rattle.scheme_stands.specs.Placed.{NamedAt, RulesKept, names_of_seen}
use Rattle.scheme_stands.specs.Places.{RelMoves, ScopeAt, Here, CapturesAre}
use Rattle.scheme_stands.proofs.Counting.{expression_closed, expressions_closed, declares_closed, path_closed, statement_counted, branches_closed, closed_inner, statements_counted, values_closed}
use Rattle.scheme_stands.proofs.Entering.{behind_name, in_numeric, in_generic, entered_by, function_enters, local_function_enters, numeric_enters, generic_enters, looped}
use Rattle.scheme_stands.proofs.Locals.{none_of, closed_active}
use Rattle.scheme_stands.proofs.Here.{Tame, turn_in, numbers_part, tame_numbers, tame_expression, tame_expressions, tame_arguments, tame_body, tame_nothing, tame_both, tame_path, tame_loop, tame_stay, tame_turn, tame_step, tame_statements, tame_branches, tame_otherwise, here_function, here_stay, here_loop, here_local, here_local_function, here_numeric, here_numeric_block, here_generic, here_generic_block}
use Rattle.scheme_stands.proofs.Moving.{behind, chain}
use Rattle.scheme_stands.proofs.Walks.{and_left, and_right, AllMoves, adjust_moves, copies_same, jump_same, block_moves, within_moves}
use Rattle.scheme_stands.proofs.Scopes.{statements_move, expression_moves, all_move, fields_move, branches_move, step_moves, method_all, called}
use Rattle.scheme_stands.proofs.Sequences.{function_onwards, main_onwards, repeat_onwards, until_here}
use Rattle.scheme_stands.proofs.Few.{kept}
use Rattle.scheme_stands.proofs.Environment.{seen_length, named_enters, named_locals, named_hidden, named_still, named_first}
use Rattle.scheme_stands.proofs.Small.{Setting, field_a, field_b, CountRoom, count_small, activated_length, declared_length, captured_inside}
use Rattle.scheme_stands.proofs.Words.{Lifted, alone, plain_first, same_lift, abc_lift, jump_lift, jmp_lift, jump_on_lift, constant_lift, close_lift}
use Rattle.scheme_stands.proofs.Lifts.{Stands, Calm, stands_first, stands_first_by, stands_behind, Lift, WordLift, RelLifts, ValueLifts, value_of, one_lift, GivenLifts, single_lifts, load_lift, field_lifts, name_lifts, paren_lifts, unary_lifts, binary_lifts, index_lifts, logic_lifts, call_lift, method_lift, call_lifts, moved_lift, vararg_lifts}
use Rattle.scheme_stands.proofs.Lifting.{calm_expression, FunctionLifts, AllLift, AllFit, FieldsLift, counts, open_lifts, list_room, adjust_lifts, table_lift, closure_lift, copies_lift, assign_lift, store_lift, store_word}
use Rattle.scheme_stands.proofs.Standing.{stands_statement, stands_onwards, named_statements, statements_room}

module _ (all : List Mark) (rules : RulesKept all) where
  -- ---- functions

  new_home : (place : Place) → ScopeAt place → ((b : Binding) → is_one_of b.home place.around ≡ true → b.home ≡ place.functions → ⊥) → (name : Text) (b : Binding) → place.scope name ≡ Some b → (b.home == place.functions) ≡ false
  new_home place s h name b e = by (b.home == place.functions) refl
    where
      by : (t : Bool) → (b.home == place.functions) ≡ t → (b.home == place.functions) ≡ false
      by true q = absurd (h b (s.homes name b e) (eqb-true b.home place.functions q))
      by false q = q

  abbrev StatementsLift : Statements → Type 0
  StatementsLift ss =
      (n : Names) (f : Fn) → Setting n f → (loop : Option LoopAt) (place : Place) (rest : List Mark) (active after : List Active) (p q : Spot) → is_some loop ≡ place.looped →
      Stands all n f (statements_part ss) place rest active p → StatementsAt f loop ss active after p q → Lifted f (StatementsAt (asking n f) loop ss active after p q) q

  -- what is named where its statements begin, and it has few upvalues
  pub function_named : (method : Bool) (params : List Text) (vararg : Bool) (block : Statements) (first last : ℕ) (place : Place) (rest : List Mark) (n : Names) (active : List Active) (p : Spot) (behind : Ahead) (chunk : Chunk) →
      Here all (body_part method (function_body params vararg block first last)) place rest p → NamedAt all place active n → (c : CapturesAre all place active (upvalues_of place.functions all) (head_or [] p.ahead.sources)) →
      (t : FunctionAt None (all_params method params) vararg (λ f. StatementsAt f None block) (without_sources p.ahead) behind chunk) →
      (length (names_of_seen all place active (upvalues_of place.functions all) (head_or [] p.ahead.sources) c) ≤ 60)
      × NamedAt all (entered_by (all_params method params) first (in_function vararg place)) t.active (record { around = names_in (onto active []) ++ n.around; upvalues = names_of_seen all place active (upvalues_of place.functions all) (head_or [] p.ahead.sources) c })
  function_named method params vararg block first last place rest n active p behind' chunk h g c t =
      let ps = all_params method params in
      let uses = head_or [] p.ahead.sources in
      let o = h.between in
      let b = (here_function all method params vararg block first last place rest p h).between in
      let names = names_of_seen all place active (upvalues_of place.functions all) uses c in
      let inner : Names = record { around = names_in (onto active []) ++ n.around; upvalues = names } in
      let e = function_enters all method params vararg block first last place rest (without_sources p.ahead) behind' chunk (λ f. StatementsAt f None block) t b.reached o.around_it h.scope (ap without_sources h.ahead) in
      let entered = named_enters all vararg place active n uses h.scope (new_home place h.scope (λ b one same. none_of place.functions place.around o.around_it (sym (ap (λ k. is_one_of k place.around) same) ∙ one))) g c in (
        subst (λ k. k ≤ 60) (sym (seen_length all place active (upvalues_of place.functions all) uses c)) (rules.few place.functions),
        named_locals all place.functions place.declarations inner ps [] t.active place.scope h.scope.declared (subst (λ ls. Activated ls [] t.active) e.0 t.activated) entered,
      )

  function_lift : (params : List Text) (vararg : Bool) (block : Statements) (first last : ℕ) (method : Bool) → StatementsLift block → FunctionLifts all (function_body params vararg block first last) method
  function_lift params vararg block first last method lift n f place rest active p behind' chunk s c made =
      let t = made.at in
      let ps = all_params method params in
      let uses = head_or [] p.ahead.sources in
      let h = s.here in
      let names = names_of_seen all place active (upvalues_of place.functions all) uses c in
      let inner : Names = record { around = names_in (onto active []) ++ n.around; upvalues = names } in
      let w = function_onwards all method params vararg block first last place rest p behind' chunk (λ f. StatementsAt f None block) h t in
      let g = function_named method params vararg block first last place rest n active p behind' chunk h s.named c t in
      let setting : Setting inner (fn None chunk) = record { lawless = refl; limits = t.limits; few = g.0 } in
      let body = lift inner (fn None chunk) setting None (entered_by ps first (in_function vararg place)) rest t.active t.inner t.first t.mid refl (record { here = w.here; active_at = w.active_at; named = g.1; room = t.room; plain = plain_first (fn None chunk) t.first t.begins }) t.body_at in
      let end = abc_lift inner (fn None chunk) Op.Return 0 1 0 (alone Op.Return refl) (omega arith) (omega arith) (omega arith) t.mid t.last body.plain t.end in
      let limits = t.limits in
      record {
        at = record {
          param_count = t.param_count;
          flags = t.flags;
          limits = record { two = limits.two; registers = limits.registers; constants = limits.constants; functions = limits.functions };
          locals = t.locals;
          active = t.active;
          inner = t.inner;
          first = t.first;
          mid = t.mid;
          last = t.last;
          begins = t.begins;
          none_made = t.none_made;
          declared = t.declared;
          activated = t.activated;
          room = t.room;
          body_at = body.is;
          end = end.is;
          ends = t.ends;
          all_made = t.all_made;
          goes_on = t.goes_on;
        };
        is = made.is;
        placed = record {
          all = all;
          kept = rules;
          place = place;
          rest = rest;
          around = n;
          active = active;
          ahead = p.ahead;
          here = record { between = h.between; scope = h.scope; ahead = h.ahead; apart = h.apart };
          active_at = s.active_at;
          named = s.named;
          captures = c;
          before_is = refl;
          inside_is = refl;
        };
      }

  -- ---- parts of statements

  module _ (n : Names) (f : Fn) (setting : Setting n f) where
    -- a block ends with its own locals
    block_lift : (body body1 : Step) (active : List Active) (p q : Spot) → length active ≤ f.size → (t : BlockAt f body active p q) → Lifted f (body1 active t.inner p t.mid) t.mid → Lifted f (BlockAt (asking n f) body1 active p q) q
    block_lift body body1 active p q h t l =
        let w = close_lift n f (any_captured (drop (length active) t.inner)) (length active) (λ e. field_a n f (length active) setting h) t.mid q l.plain t.close in
        record { is = record { inner = t.inner; mid = t.mid; body_at = l.is; close = w.is }; plain = w.plain }

    turn_lift : (body body1 : Step) (variables : List Local) (around : List Active) (p q : Spot) → length around ≤ f.size → (t : TurnAt f body variables around p q) → Lifted f (body1 t.inner t.block_at.inner p t.block_at.mid) t.block_at.mid → Lifted f (TurnAt (asking n f) body1 variables around p q) q
    turn_lift body body1 variables around p q h t l =
        let b = block_lift body body1 t.inner p t.mid t.room t.block_at l in
        let w = close_lift n f (any_captured (drop (length around) t.inner)) (length around) (λ e. field_a n f (length around) setting h) t.mid q b.plain t.close in
        record { is = record { inner = t.inner; mid = t.mid; activated = t.activated; room = t.room; block_at = b.is; close = w.is }; plain = w.plain }

    until_lift : (b : Bool) (part : outline.Part) (d e : Rel) (inner : List Active) (k exit first : ℕ) → k ≤ f.size → ((free : ℕ) (truth : Bool) (label : ℕ) → Lift all n f part inner (d.jump_if inner free truth label) (e.jump_if inner free truth label)) →
        Lift all n f part inner (UntilBy b f d inner k exit first) (UntilBy b (asking n f) e inner k exit first)
    until_lift true part d e inner k exit first h l place rest p q s t =
        let close_field = field_a n f k setting h in
        let test = l (length inner) false (t.again).pc place rest p t.closing s t.test_at in
        let close = abc_lift n f Op.Close k 0 0 (alone Op.Close refl) close_field (omega arith) (omega arith) t.closing t.leaving test.plain t.close in
        let leave = jmp_lift n f exit t.leaving t.again close.plain t.leave in
        let close_again = abc_lift n f Op.Close k 0 0 (alone Op.Close refl) close_field (omega arith) (omega arith) t.again t.last leave.plain t.close_again in
        let back = jmp_lift n f first t.last q close_again.plain t.back in
        record {
          is = record { closing = t.closing; leaving = t.leaving; again = t.again; last = t.last; test_at = test.is; close = close.is; leave = leave.is; close_again = close_again.is; back = back.is };
          plain = back.plain;
        }
    until_lift false part d e inner k exit first h l place rest p q s t = l (length inner) false first place rest p q s t

    break_lift : (loop : Option LoopAt) (active : List Active) → is_some loop ≡ true → length active ≤ f.size → WordLift all n f (BreakAt f loop active) (BreakAt (asking n f) loop active)
    break_lift None active some room p q plain t = absurd (true≢false (sym some))
    break_lift (Some loop) active some room p q plain t =
        let inside = captured_inside loop.before active in
        let close = close_lift n f (any_captured (drop loop.before active)) loop.before (λ e. field_a n f loop.before setting (let l = inside e in omega (arith, l, room))) p t.mid plain t.first_at in
        let leave = jmp_lift n f loop.exit t.mid q close.plain t.second_at in
        record { is = record { mid = t.mid; first_at = close.is; second_at = leave.is }; plain = leave.plain }

    -- RETURN of a list
    return_word : (active : List Active) (want : Want) → length active ≤ f.size → CountRoom f (length active) want → WordLift all n f (WordAt f (Piece.Abc Op.Return (length active) (count_field 1 want) 0)) (WordAt (asking n f) (Piece.Abc Op.Return (length active) (count_field 1 want) 0))
    return_word active want h room p q plain t = abc_lift n f Op.Return (length active) (count_field 1 want) 0 (alone Op.Return refl) (field_a n f (length active) setting h) (count_small n f (length active) 1 want setting (omega arith) room) (omega arith) p q plain t

    list_return : (es : Expressions) → AllMoves all f es → AllLift all n f es → (active : List Active) → Lift all n f (expressions_part es) active (ListReturnAt f (all_related f es) active) (ListReturnAt (asking n f) (all_related (asking n f) es) active)
    list_return es g l active place rest p q s t =
        let one = open_lifts all n f setting es g l active (length active) place rest p t.mid s t.first_at in
        let w = return_word active (rels_count (all_related f es)) s.room (list_room all n f setting es active (length active) p t.mid s.room t.first_at) t.mid q one.plain t.second_at in
        record { is = record { mid = t.mid; first_at = one.is; second_at = subst (λ k. WordAt (asking n f) (Piece.Abc Op.Return (length active) (count_field 1 k) 0) t.mid q) (sym (counts all n f setting es l)) w.is }; plain = w.plain }

    call_first : (b d : Bool) → b ≡ true → b || d ≡ true
    call_first true d e = refl
    call_first false d e = cc

    return_by : (b c : Bool) (x : Expression) → RelMoves all (expression_part x) (is_target x) (related f x) → RelLifts all n f (expression_part x) (is_target x) (related f x) (related (asking n f) x) → (related f x).form.call ≡ b →
        (active : List Active) → Lift all n f (expressions_part (syntax.expression x no_expressions)) active (ReturnBy b c f (related f x) active) (ReturnBy b c (asking n f) (related (asking n f) x) active)
    return_by true c x g l e active place rest p q s t =
        let one = l.multi (call_first (related f x).form.call (related f x).form.dots e) active (length active) Op.TailCall None (alone Op.TailCall refl) place _ p t.mid (stands_first all n f (expression_part x) nothing place rest active p (tame_expression x) tame_nothing s) t.first_at in
        let w = return_word active None s.room tt t.mid q one.plain t.second_at in
        record { is = record { mid = t.mid; first_at = one.is; second_at = w.is }; plain = w.plain }
    return_by false true x g l e active place rest p q s t = list_return (syntax.expression x no_expressions) (g, tt) (l, tt) active place rest p q s t
    return_by false false x g l e active place rest p q s t =
        one_lift all n f setting (expression_part x) (related f x) (related (asking n f) x) (value_of all n f _ _ _ _ l) active (length active) _ _
        (λ r h p q plain t. abc_lift n f Op.Return r 2 0 (alone Op.Return refl) (field_a n f r setting h) (omega arith) (omega arith) p q plain t) place _ p q (stands_first all n f (expression_part x) nothing place rest active p (tame_expression x) tame_nothing s) t

    return_lift : (es : Expressions) → AllMoves all f es → AllLift all n f es → (active : List Active) → Lift all n f (expressions_part es) active (ReturnAt f (all_related f es) active) (ReturnAt (asking n f) (all_related (asking n f) es) active)
    return_lift no_expressions g l active place rest p q s t = abc_lift n f Op.Return 0 1 0 (alone Op.Return refl) (omega arith) (omega arith) (omega arith) p q s.plain t
    return_lift (syntax.expression x no_expressions) g l active place rest p q s t =
        subst (λ (o : Form). Lifted f (ReturnBy o.call o.dots (asking n f) (related (asking n f) x) active p q) q) (sym (l.0).form) (return_by (related f x).form.call (related f x).form.dots x g.0 l.0 refl active place rest p q s t)
    return_lift (syntax.expression x (syntax.expression y ys)) g l active place rest p q s t = list_return (syntax.expression x (syntax.expression y ys)) g l active place rest p q s t

    -- the path of a function statement
    fields_lifts : (part : outline.Part) (c d : Rel) (texts : List Text) → RelLifts all n f part true c d → RelLifts all n f part true (rel_fields f c texts) (rel_fields (asking n f) d texts)
    fields_lifts part c d [] l = l
    fields_lifts part c d (text ∷ texts) l = fields_lifts part (rel_field f c text) (rel_field (asking n f) d text) texts (field_lifts all n f setting part true c d text l)

    path_some : (line : ℕ) (text : Text) (texts : List Text) → RelLifts all n f (mentions line text) true (rel_fields f (rel_name f text) texts) (rel_fields (asking n f) (rel_name (asking n f) text) texts)
    path_some line text texts = fields_lifts (mentions line text) (rel_name f text) (rel_name (asking n f) text) texts (name_lifts all n f setting line text)

    path_lifts : (line : ℕ) (path : List Text) → are_some_names path ≡ true → RelLifts all n f (path_part line path) true (rel_path f path) (rel_path (asking n f) path)
    path_lifts line [] h = absurd (true≢false (sym h))
    path_lifts line (text ∷ texts) h = path_some line text texts

    method_lifts : (line : ℕ) (path : List Text) (method : Option Text) → are_some_names path ≡ true → RelLifts all n f (path_part line path) true (rel_method f (rel_path f path) method) (rel_method (asking n f) (rel_path (asking n f) path) method)
    method_lifts line path None h = path_lifts line path h
    method_lifts line path (Some text) h = field_lifts all n f setting (path_part line path) true (rel_path f path) (rel_path (asking n f) path) text (path_lifts line path h)

    -- one target and one value
    one_each : (part : outline.Part) (c d : Rel) → ValueLifts all n f part c d → (places : List Target) → AllFit f places → (active : List Active) (free : ℕ) → Lift all n f part active (EachStoredAt f places (c ∷ []) active free) (EachStoredAt (asking n f) places (d ∷ []) active free)
    one_each part c d l [] fits active free place rest p q s t = same_lift n f p q s.plain t
    one_each part c d l (o ∷ []) fits active free place rest p q s t = store_lift all n f setting part c d l o fits.0 active free place rest p q s t
    one_each part c d l (o ∷ o1 ∷ os) fits active free place rest p q s t =
        let u = t.others in
        let room = t.room in
        let one = l.to_reg active free free t.room place rest p t.mid s t.first in
        let others = none_left os u.mid one.plain u.first_at in
        let word = store_word all n f setting o free fits.0 (omega (arith, room)) u.mid q others.plain u.second_at in
        record { is = record { mid = t.mid; room = t.room; first = one.is; others = record { mid = u.mid; first_at = others.is; second_at = word.is } }; plain = word.plain }
      where
        none_left : (os : List Target) (m : Spot) → Plain f (t.mid).pc → EachStoredAt f (o1 ∷ os) [] active (free + 1) t.mid m → Lifted f (EachStoredAt (asking n f) (o1 ∷ os) [] active (free + 1) t.mid m) m
        none_left [] m plain h = same_lift n f t.mid m plain h
        none_left (o2 ∷ os) m plain h = same_lift n f t.mid m plain h

    assign_one : (a b : outline.Part) (c c1 d d1 : Rel) → RelMoves all a true c → Calm a → Tame b → RelLifts all n f a true c c1 → ValueLifts all n f b d d1 → (active : List Active) → Lift all n f (both a b) active (AssignAt f (c ∷ []) (d ∷ []) active) (AssignAt (asking n f) (c1 ∷ []) (d1 ∷ []) active)
    assign_one a b c c1 d d1 g ka kb l m active place rest p q s t =
        let u = t.targets_at in
        let o = u.others_at in
        let same = o.same in
        let here = stands_first all n f a b place rest active p ka.tame kb s in
        let target = l.target refl active (length active) u.target u.free1 place _ p u.mid here u.target_at in
        let none = same_lift n f u.mid t.mid target.plain o.same in
        let fits : AllFit f t.parts = subst (AllFit f) (sym u.is) (l.target_fits refl active (length active) u.target u.free1 place _ p u.mid here u.target_at, subst (AllFit f) (sym o.is) tt) in
        let copies = copies_lift all n f setting (length active) s.room t.parts t.places t.free1 t.free2 t.mid t.last none.plain fits t.copies_at in
        let stores = one_each b d d1 m t.places copies.is.1 active t.free2 (a place).next rest t.last q
        (stands_behind all n f a b place rest active p t.last ka (behind all a p u.mid t.last (g.target refl active (length active) u.target u.free1 p u.mid u.target_at) (copies_same all f (length active) t.parts t.places t.free1 t.free2 t.mid t.last t.copies_at ∙ same.ahead)) copies.plain s) t.stores_at in
        record {
          is = record {
            parts = t.parts;
            places = t.places;
            free1 = t.free1;
            free2 = t.free2;
            mid = t.mid;
            last = t.last;
            targets_at = record { target = u.target; others = u.others; free1 = u.free1; mid = u.mid; is = u.is; target_at = target.is; others_at = record { is = o.is; at_free = o.at_free; same = none.is } };
            copies_at = copies.is.0;
            stores_at = stores.is;
          };
          plain = stores.plain;
        }

  in_turn : (block : Statements) (place : Place) (rest : List Mark) (n : Names) (f : Fn) (active : List Active) (p : Spot) → Stands all n f (within in_loop (statements_part block)) place rest active p → Stands all n f (statements_part block) (in_loop place) rest active p
  in_turn block place rest n f active p s = record { here = here_loop all (statements_part block) place rest p (tame_statements block) s.here; active_at = looped place active s.active_at; named = s.named; room = s.room; plain = s.plain }

  in_block : (block : Statements) (place : Place) (rest : List Mark) (n : Names) (f : Fn) (active : List Active) (p : Spot) → Stands all n f (within stay (statements_part block)) place rest active p → Stands all n f (statements_part block) place rest active p
  in_block block place rest n f active p s = record { here = here_stay all (statements_part block) place rest p (tame_statements block) s.here; active_at = s.active_at; named = s.named; room = s.room; plain = s.plain }

  calm_block : (block : Statements) → Calm (within stay (statements_part block))
  calm_block block = record { tame = tame_stay (statements_part block) (tame_statements block); closed = λ place. closed_inner stay (statements_part block) place refl refl (statements_counted block place) }

  some_name : (names : List Text) → are_some_names names ≡ true → 0 < length names
  some_name [] h = absurd (true≢false (sym h))
  some_name (x ∷ xs) h = omega arith

  -- ---- the whole tree

  mutual
    expression_lifts : (n : Names) (f : Fn) (setting : Setting n f) (x : Expression) → formed_expression x ≡ true → RelLifts all n f (expression_part x) (is_target x) (related f x) (related (asking n f) x)
    expression_lifts n f setting (nil_literal line) h = single_lifts all n f setting nothing (form_of (nil_literal 0)) _ _ refl (λ active free r hr place rest p q s t. abc_lift n f Op.LoadNil r r 0 (alone Op.LoadNil refl) (field_a n f r setting (omega (arith, hr))) (field_b n f r setting (omega (arith, hr))) (omega arith) p q s.plain t)
    expression_lifts n f setting (true_literal line) h = single_lifts all n f setting nothing (form_of (true_literal 0)) _ _ refl (λ active free r hr place rest p q s t. abc_lift n f Op.LoadBool r 1 0 (alone Op.LoadBool refl) (field_a n f r setting (omega (arith, hr))) (omega arith) (omega arith) p q s.plain t)
    expression_lifts n f setting (false_literal line) h = single_lifts all n f setting nothing (form_of (false_literal 0)) _ _ refl (λ active free r hr place rest p q s t. abc_lift n f Op.LoadBool r 0 0 (alone Op.LoadBool refl) (field_a n f r setting (omega (arith, hr))) (omega arith) (omega arith) p q s.plain t)
    expression_lifts n f setting (vararg_expression line) h = vararg_lifts all n f setting (expression_part (vararg_expression line))
    expression_lifts n f setting (number_literal line x) h = single_lifts all n f setting nothing (form_of (number_literal 0 x)) _ _ refl (load_lift all n f setting nothing (Constant.Number x))
    expression_lifts n f setting (text_literal line text) h = single_lifts all n f setting nothing (form_of (text_literal 0 text)) _ _ refl (load_lift all n f setting nothing (Constant.Text text))
    expression_lifts n f setting (name_expression line text) h = name_lifts all n f setting line text
    expression_lifts n f setting (function_expression line body) h =
        single_lifts all n f setting (body_part false body) _ (ClosureAt f (FunctionOf body false)) (ClosureAt (asking n f) (FunctionOf body false)) refl (closure_lift all n f setting body false (body_lifts body false h))
    expression_lifts n f setting (index_expression line on key) h =
        let h1 = and_right (is_prefix on) _ h in
        let a = and_left (formed_expression on) (formed_expression key) h1 in
        let b = and_right (formed_expression on) (formed_expression key) h1 in
        index_lifts all n f setting (expression_part on) (expression_part key) (related f on) (related (asking n f) on) (related f key) (related (asking n f) key) (is_target on) (is_target key) (expression_moves all f on a) (calm_expression on) (calm_expression key) (expression_lifts n f setting on a) (expression_lifts n f setting key b) (form_of (index_expression line on key)) refl
    expression_lifts n f setting (field_expression line on text) h =
        field_lifts all n f setting (expression_part on) (is_target on) (related f on) (related (asking n f) on) text (expression_lifts n f setting on (and_left (formed_expression on) _ (and_right (is_prefix on) _ h)))
    expression_lifts n f setting (call_expression line on args on_line) h =
        let h1 = and_right (is_prefix on) _ h in
        let a = and_left (formed_expression on) _ h1 in
        let b = and_right (on_its_line args line on_line) (formed_arguments args) (and_right (formed_expression on) _ h1) in
        let g = expression_moves all f on a in
        call_lifts all n f setting (both (expression_part on) (arguments_part args)) (form_of (call_expression line on args on_line)) (CallAt f (related f on) (given_rel f args)) (CallAt (asking n f) (related (asking n f) on) (given_rel (asking n f) args))
        (call_lift all n f setting (expression_part on) (arguments_part args) (related f on) (related (asking n f) on) (given_rel f args) (given_rel (asking n f) args) g.value (calm_expression on) (tame_arguments args) (value_of all n f _ _ _ _ (expression_lifts n f setting on a)) (given_lifts n f setting args b))
    expression_lifts n f setting (method_call line on text args on_line) h =
        let h1 = and_right (is_prefix on) _ h in
        let h2 = and_right (formed_expression on) _ h1 in
        let h3 = and_right (is_name text) _ h2 in
        let a = and_left (formed_expression on) _ h1 in
        let b = and_right (on_its_line args line on_line) (formed_arguments args) h3 in
        let g = expression_moves all f on a in
        call_lifts all n f setting (both (expression_part on) (arguments_part args)) (form_of (method_call line on text args on_line)) (MethodAt f (related f on) text (given_rel f args)) (MethodAt (asking n f) (related (asking n f) on) text (given_rel (asking n f) args))
        (method_lift all n f setting (expression_part on) (arguments_part args) (related f on) (related (asking n f) on) (given_rel f args) (given_rel (asking n f) args) g.value (calm_expression on) (tame_arguments args) (value_of all n f _ _ _ _ (expression_lifts n f setting on a)) (given_lifts n f setting args b) text)
    expression_lifts n f setting (and_expression line left right) h =
        let h1 = and_right (right_binds 2 false right) _ (and_right (left_binds 2 false left) _ h) in
        let a = and_left (formed_expression left) (formed_expression right) h1 in
        let b = and_right (formed_expression left) (formed_expression right) h1 in
        logic_lifts all n f setting (expression_part left) (expression_part right) (related f left) (related (asking n f) left) (related f right) (related (asking n f) right) (is_target left) (is_target right) (expression_moves all f left a) (calm_expression left) (calm_expression right) (expression_lifts n f setting left a) (expression_lifts n f setting right b) false (form_of (and_expression line left right)) refl
    expression_lifts n f setting (or_expression line left right) h =
        let h1 = and_right (right_binds 1 false right) _ (and_right (left_binds 1 false left) _ h) in
        let a = and_left (formed_expression left) (formed_expression right) h1 in
        let b = and_right (formed_expression left) (formed_expression right) h1 in
        logic_lifts all n f setting (expression_part left) (expression_part right) (related f left) (related (asking n f) left) (related f right) (related (asking n f) right) (is_target left) (is_target right) (expression_moves all f left a) (calm_expression left) (calm_expression right) (expression_lifts n f setting left a) (expression_lifts n f setting right b) true (form_of (or_expression line left right)) refl
    expression_lifts n f setting (binary_expression line op left right) h =
        let h1 = and_right _ _ (and_right _ _ h) in
        let a = and_left (formed_expression left) (formed_expression right) h1 in
        let b = and_right (formed_expression left) (formed_expression right) h1 in
        binary_lifts all n f setting (expression_part left) (expression_part right) (related f left) (related (asking n f) left) (related f right) (related (asking n f) right) (is_target left) (is_target right) (expression_moves all f left a) (calm_expression left) (calm_expression right) (expression_lifts n f setting left a) (expression_lifts n f setting right b) op (binary_expression line op left right) refl
    expression_lifts n f setting (unary_expression line op e) h =
        unary_lifts all n f setting op (expression_part e) (is_target e) (unary_expression line op e) (related f e) (related (asking n f) e) refl (expression_lifts n f setting e (and_right (left_binds 7 false e) (formed_expression e) h))
    expression_lifts n f setting (constructor line items) h =
        single_lifts all n f setting (fields_part items) _ _ _ refl (λ active free r. moved_lift all n f setting (fields_part items) active _ _ free r (table_lift all n f setting items (fields_move all f items h) (fields_lift n f setting items h) active free) (λ p q t. t.room))
    expression_lifts n f setting (parenthesized line e) h = paren_lifts all n f setting (expression_part e) (is_target e) (form_of (parenthesized line e)) (related f e) (related (asking n f) e) refl (expression_lifts n f setting e h)

    given_lifts : (n : Names) (f : Fn) (setting : Setting n f) (args : Arguments) → formed_arguments args ≡ true → GivenLifts all n f setting (arguments_part args) (given_rel f args) (given_rel (asking n f) args)
    given_lifts n f setting (argument_list es) h = record {
      count = counts all n f setting es (all_lift n f setting es h);
      lift = open_lifts all n f setting es (all_move all f es h) (all_lift n f setting es h);
      room = list_room all n f setting es;
    }
    given_lifts n f setting (text_argument text) h = record {
      count = refl;
      lift = λ active free place rest p q s t.
          let room = t.room in
          let w = constant_lift n f Op.LoadK free (Constant.Text text) (record { is = refl; none = λ inner i. refl }) setting.limits (field_a n f free setting (omega (arith, room))) p q s.plain t.value_at in
          record { is = record { room = t.room; at_x = t.at_x; at_free = t.at_free; value_at = w.is }; plain = w.plain };
      room = λ active free p q h t. let room = t.room in omega (arith, room);
    }
    given_lifts n f setting (table_argument items) h = record {
      count = refl;
      lift = table_lift all n f setting items (fields_move all f items h) (fields_lift n f setting items h);
      room = λ active free p q h t. let room = t.room in omega (arith, room);
    }

    all_lift : (n : Names) (f : Fn) (setting : Setting n f) (es : Expressions) → formed_expressions es ≡ true → AllLift all n f es
    all_lift n f setting no_expressions h = tt
    all_lift n f setting (syntax.expression x xs) h = (expression_lifts n f setting x (and_left (formed_expression x) (formed_expressions xs) h), all_lift n f setting xs (and_right (formed_expression x) (formed_expressions xs) h))

    fields_lift : (n : Names) (f : Fn) (setting : Setting n f) (items : Fields) → formed_fields items ≡ true → FieldsLift all n f items
    fields_lift n f setting no_fields h = tt
    fields_lift n f setting (positional x separator rest) h =
        let h1 = and_right (ends_item separator rest) _ h in
        (expression_lifts n f setting x (and_left (formed_expression x) (formed_fields rest) h1), fields_lift n f setting rest (and_right (formed_expression x) (formed_fields rest) h1))
    fields_lift n f setting (named text x separator rest) h =
        let h1 = and_right (is_name text) _ (and_right (ends_item separator rest) _ h) in
        (expression_lifts n f setting x (and_left (formed_expression x) (formed_fields rest) h1), fields_lift n f setting rest (and_right (formed_expression x) (formed_fields rest) h1))
    fields_lift n f setting (keyed key x separator rest) h =
        let h1 = and_right (ends_item separator rest) _ h in
        let h2 = and_right (formed_expression key) _ h1 in
        (expression_lifts n f setting key (and_left (formed_expression key) _ h1), expression_lifts n f setting x (and_left (formed_expression x) (formed_fields rest) h2), fields_lift n f setting rest (and_right (formed_expression x) (formed_fields rest) h2))

    body_lifts : (body : FunctionBody) (method : Bool) → formed_body body ≡ true → FunctionLifts all body method
    body_lifts (function_body params vararg block first last) method h = function_lift params vararg block first last method (statements_lift block (and_right (are_names params) (formed_statements block) h))

    statements_lift : (ss : Statements) → formed_statements ss ≡ true → StatementsLift ss
    statements_lift no_statements h n f setting loop place rest active after p q is s t =
        let w = same_lift n f p q s.plain t.part_at in
        record { is = record { stays = t.stays; part_at = w.is }; plain = w.plain }
    statements_lift (syntax.statement line semi c ss) h n f setting loop place rest active after p q is s t =
        let h1 = and_left (formed_statement c) (may_follow c semi ss && formed_statements ss) h in
        let h2 = and_right (may_follow c semi ss) (formed_statements ss) (and_right (formed_statement c) (may_follow c semi ss && formed_statements ss) h) in
        let one = statement_lift line c h1 n f setting loop place _ active t.between p t.mid is (stands_statement all n f line semi c ss place rest active p s) t.first_at in
        let others = statements_lift ss h2 n f setting loop (statement_part line c place).next rest t.between after t.mid q (is ∙ sym (statement_counted line c place).looped) (stands_onwards all n f loop line semi c ss place rest active t.between p t.mid h1 s t.first_at one.plain) t.rest_at in
        record { is = record { between = t.between; mid = t.mid; first_at = one.is; rest_at = others.is }; plain = others.plain }

    pub statement_lift : (line : ℕ) (c : Statement) → formed_statement c ≡ true → (n : Names) (f : Fn) → Setting n f → (loop : Option LoopAt) (place : Place) (rest : List Mark) (active after : List Active) (p q : Spot) → is_some loop ≡ place.looped → Stands all n f (statement_part line c) place rest active p → StatementAt f loop c active after p q → Lifted f (StatementAt (asking n f) loop c active after p q) q
    statement_lift line (assignment targets es) h n f setting loop place rest active after p q is s t =
        let a = and_right (has_expressions targets) _ h in
        let b = and_right (are_targets targets) _ a in
        let c = and_right (formed_expressions targets) _ b in
        let ht = and_left (formed_expressions targets) _ b in
        let he = and_right (has_expressions es) _ c in
        let w = assign_lift all n f setting targets es (all_move all f targets ht) (all_move all f es he) (all_lift n f setting targets ht) (all_lift n f setting es he) (and_left (are_targets targets) _ a) active place rest p q s t.part_at in
        record { is = record { stays = t.stays; part_at = w.is }; plain = w.plain }
    statement_lift line (call_statement x) h n f setting loop place rest active after p q is s t =
        let l = expression_lifts n f setting x (and_right (is_call x) (formed_expression x) h) in
        let w = l.multi (called all f x (and_left (is_call x) (formed_expression x) h)) active (length active) Op.Call (Some 0) (alone Op.Call refl) place rest p q s t.part_at in
        record { is = record { stays = t.stays; part_at = w.is }; plain = w.plain }
    statement_lift line (do_block block) h n f setting loop place rest active after p q is s t =
        let u = t.part_at in
        let body = statements_lift block h n f setting loop place rest active u.inner p u.mid is (in_block block place rest n f active p s) u.body_at in
        let w = block_lift n f setting (StatementsAt f loop block) (StatementsAt (asking n f) loop block) active p q s.room u body in
        record { is = record { stays = t.stays; part_at = w.is }; plain = w.plain }
    statement_lift line (while_loop x block) h n f setting loop place rest active after p q is s t =
        let hx = and_left (formed_expression x) (formed_statements block) h in
        let hb = and_right (formed_expression x) (formed_statements block) h in
        let l = expression_lifts n f setting x hx in
        let g = expression_moves all f x hx in
        let r = t.part_at in
        let u = r.body_at in
        let a = expression_part x in
        let b = within in_loop (statements_part block) in
        let tb = tame_loop (statements_part block) (tame_statements block) in
        let test = l.jump_if active (length active) false q.pc place _ p r.mid (stands_first all n f a b place rest active p (tame_expression x) tb s) r.test_at in
        let w = stands_behind all n f a b place rest active p r.mid (calm_expression x) (g.jump_if active (length active) false q.pc p r.mid r.test_at) test.plain s in
        let inside : LoopAt = record { exit = q.pc; before = length active } in
        let body = statements_lift block hb n f setting (Some inside) (in_loop (a place).next) rest active u.inner r.mid u.mid refl (in_turn block (a place).next rest n f active r.mid w) u.body_at in
        let turn = block_lift n f setting (StatementsAt f (Some inside) block) (StatementsAt (asking n f) (Some inside) block) active r.mid r.last s.room u body in
        let back = jmp_lift n f p.pc r.last q turn.plain r.back in
        record { is = record { stays = t.stays; part_at = record { mid = r.mid; last = r.last; test_at = test.is; body_at = turn.is; back = back.is } }; plain = back.plain }
    statement_lift line (repeat_loop block x) h n f setting loop place rest active after p q is s t =
        let hx = and_right (formed_statements block) (formed_expression x) h in
        let hb = and_left (formed_statements block) (formed_expression x) h in
        let l = expression_lifts n f setting x hx in
        let r = t.part_at in
        let inside : LoopAt = record { exit = q.pc; before = length active } in
        let o = repeat_onwards all line block x place rest active p s.here s.active_at in
        let w : Stands all n f (statements_part block) (in_loop place) _ active p = record { here = o.here; active_at = o.active_at; named = s.named; room = s.room; plain = s.plain } in
        let body = statements_lift block hb n f setting (Some inside) (in_loop place) _ active r.inner p r.mid refl w r.body_at in
        let e = until_here all f _ line block x place rest active r.inner p r.mid hb s.here s.active_at r.body_at in
        let w1 : Stands all n f (expression_part x) (statements_part block (in_loop place)).next rest r.inner r.mid = record {
          here = e.0;
          active_at = e.1;
          named = named_statements all n f (Some inside) block (in_loop place) _ active r.inner p r.mid hb o.here o.active_at s.named r.body_at;
          room = statements_room f (Some inside) block active r.inner p r.mid s.room r.body_at;
          plain = body.plain;
        } in
        let until = until_lift n f setting (any_captured (drop (length active) r.inner)) (expression_part x) (related f x) (related (asking n f) x) r.inner (length active) q.pc p.pc s.room (l.jump_if r.inner) (statements_part block (in_loop place)).next rest r.mid q w1 r.until in
        record { is = record { stays = t.stays; part_at = record { inner = r.inner; mid = r.mid; body_at = body.is; until = until.is } }; plain = until.plain }
    statement_lift line (if_statement branches last) h n f setting loop place rest active after p q is s t =
        let m = and_right (has_branches branches) _ h in
        let hb = and_left (formed_branches branches) (formed_otherwise last) m in
        let ho = and_right (formed_branches branches) (formed_otherwise last) m in
        let r = t.part_at in
        let a = branches_part branches in
        let b = otherwise_part last in
        let arms = branches_lift branches hb n f setting loop q.pc (has_otherwise last) active place _ p r.mid is (stands_first all n f a b place rest active p (tame_branches branches) (tame_otherwise last) s) r.first_at in
        let other = otherwise_lift last ho n f setting loop active (a place).next rest r.mid q (is ∙ sym (branches_closed branches place).counted.looped)
        (stands_behind all n f a b place rest active p r.mid (record { tame = tame_branches branches; closed = branches_closed branches }) (branches_move all f loop q.pc (has_otherwise last) branches hb active p r.mid r.first_at) arms.plain s) r.second_at in
        record { is = record { stays = t.stays; part_at = record { mid = r.mid; first_at = arms.is; second_at = other.is } }; plain = other.plain }
    statement_lift line (numeric_for name first last step block) h n f setting loop place rest active after p q is s t =
        let h1 = and_right (is_name name) _ h in
        let h2 = and_right (formed_expression first) _ h1 in
        let h3 = and_right (formed_expression last) _ h2 in
        let f1 = and_left (formed_expression first) _ h1 in
        let f2 = and_left (formed_expression last) _ h2 in
        let f3 = and_left (formed_step step) (formed_statements block) h3 in
        let hb = and_right (formed_step step) (formed_statements block) h3 in
        let l1 = expression_lifts n f setting first f1 in
        let l2 = expression_lifts n f setting last f2 in
        let g1 = (expression_moves all f first f1).value in
        let g2 = (expression_moves all f last f2).value in
        let names = name ∷ [] in
        let r = t.part_at in
        let turn = r.turn_at in
        let u = turn.block_at in
        let a = expression_part first in
        let b = expression_part last in
        let c = step_part step in
        let bc = both b c in
        let tbc = tame_both b c (tame_expression last) (tame_step step) in
        let p1 = (declares line 3 names place).next in
        let w1 = r.prepare in
        let bet = (s.here).between in
        let room = r.room in
        let start : Plain f (r.declared_by).pc = subst (Plain f) (sym r.same) s.plain in
        let e = numeric_enters all line name first last step block f _ _ _ _ active p q place rest r bet.reached (s.here).ahead s.active_at in
        let hn = here_numeric all line name first last step block place rest r.variables p r.declared_by r.declared s.here in
        let tn = tame_turn names place.declarations (statements_part block) (tame_statements block) in
        let numbers : Stands all n f (both (numbers_part first last step) (within (turn_in names place.declarations) (statements_part block))) p1 rest active r.declared_by =
        record { here = hn; active_at = closed_active (declares line 3 names) place active (declares_closed line 3 names place) s.active_at; named = s.named; room = s.room; plain = start } in
        let sn = stands_first_by all n f (numbers_part first last step) (within (turn_in names place.declarations) (statements_part block)) p1 rest active r.declared_by (omega arith) (tame_numbers first last step) tn numbers in
        let m1 = g1.to_reg active (length active) (length active) r.declared_by r.with_first r.first_at in
        let m2 = g2.to_reg active (length active + 1) (length active + 1) r.with_first r.with_last r.last_at in
        let m3 = step_moves all f step f3 active (length active + 2) r.with_last r.with_step r.step_at in
        let one = l1.to_reg active (length active) (length active) (omega (arith, room)) p1 _ r.declared_by r.with_first (stands_first all n f a bc p1 _ active r.declared_by (tame_expression first) tbc sn) r.first_at in
        let sl = stands_behind all n f a bc p1 _ active r.declared_by r.with_first (calm_expression first) m1 one.plain sn in
        let two = l2.to_reg active (length active + 1) (length active + 1) (omega (arith, room)) (a p1).next _ r.with_first r.with_last (stands_first all n f b c (a p1).next _ active r.with_first (tame_expression last) (tame_step step) sl) r.last_at in
        let three = step_lift step f3 n f setting active (length active + 2) (omega (arith, room)) (b (a p1).next).next _ r.with_last r.with_step (stands_behind all n f b c (a p1).next _ active r.with_first r.with_last (calm_expression last) m2 two.plain sl) r.step_at in
        let m = chain all a bc r.declared_by r.with_first r.with_step m1 (chain all b c r.with_first r.with_last r.with_step m2 m3) in
        let base = field_a n f (length active) setting s.room in
        let prepare = jump_lift n f Op.ForPrep (length active) (r.loop).pc (record { is = refl; none = λ inner i. refl }) base r.with_step r.begin three.plain r.prepare in
        let hb2 = here_numeric_block all line name first last step block place rest r.declared_by r.begin (behind all (numbers_part first last step) r.declared_by r.with_step r.begin m w1.ahead) hn in
        let later = (numbers_part first last step p1).next in
        let cl = values_closed first last step p1 in
        let nm : NamedAt all (in_numeric line name first last step place) turn.inner n =
        named_locals all (innermost later.around) place.declarations n names r.around turn.inner later.scope (λ other b found. ((s.here).scope).declared other b (sym (ap (λ (sc : outline.Scope). sc other) cl.scope) ∙ found)) (subst (λ ls. Activated ls r.around turn.inner) e.0 turn.activated)
        (named_hidden all (innermost later.around) n numeric_names active r.around later.scope (refl, (refl, (refl, tt))) r.hidden (named_still all p1 later active n cl.scope cl.counted.around s.named)) in
        let inside : LoopAt = record { exit = q.pc; before = length active } in
        let body = statements_lift block hb n f setting (Some inside) (in_numeric line name first last step place) rest turn.inner u.inner r.begin u.mid refl (record { here = hb2; active_at = e.1; named = nm; room = turn.room; plain = prepare.plain }) u.body_at in
        let hidden = activated_length numeric_names active r.around r.hidden in
        let turned = turn_lift n f setting (StatementsAt f (Some inside) block) (StatementsAt (asking n f) (Some inside) block) r.variables r.around r.begin r.loop (omega (arith, hidden, room)) turn body in
        let back = jump_lift n f Op.ForLoop (length active) (r.begin).pc (record { is = refl; none = λ inner i. refl }) base r.loop q turned.plain r.back in
        record {
          is = record {
            stays = t.stays;
            part_at = record {
              variables = r.variables;
              around = r.around;
              declared_by = r.declared_by;
              with_first = r.with_first;
              with_last = r.with_last;
              with_step = r.with_step;
              begin = r.begin;
              loop = r.loop;
              same = r.same;
              as_many = r.as_many;
              declared = r.declared;
              room = r.room;
              first_at = one.is;
              last_at = two.is;
              step_at = three.is;
              hidden = r.hidden;
              prepare = prepare.is;
              turn_at = turned.is;
              back = back.is;
            };
          };
          plain = back.plain;
        }
    statement_lift line (generic_for names es block) h n f setting loop place rest active after p q is s t =
        let h1 = and_right (are_some_names names) _ h in
        let h2 = and_right (has_expressions es) _ h1 in
        let he = and_left (formed_expressions es) (formed_statements block) h2 in
        let hb = and_right (formed_expressions es) (formed_statements block) h2 in
        let r = t.part_at in
        let turn = r.turn_at in
        let u = turn.block_at in
        let g = all_move all f es he in
        let p1 = (declares line 3 names place).next in
        let w1 = r.enter in
        let bet = (s.here).between in
        let room = r.room in
        let start : Plain f (r.declared_by).pc = subst (Plain f) (sym r.same) s.plain in
        let e = generic_enters all line names es block f _ _ active p q place rest r bet.reached (s.here).ahead s.active_at in
        let hn = here_generic all line names es block place rest r.variables p r.declared_by r.declared s.here in
        let tn = tame_turn names place.declarations (statements_part block) (tame_statements block) in
        let values : Stands all n f (both (expressions_part es) (within (turn_in names place.declarations) (statements_part block))) p1 rest active r.declared_by =
        record { here = hn; active_at = closed_active (declares line 3 names) place active (declares_closed line 3 names place) s.active_at; named = s.named; room = s.room; plain = start } in
        let valued = adjust_lifts all n f setting 3 es g (all_lift n f setting es he) active (length active) p1 _ r.declared_by r.valued (stands_first_by all n f (expressions_part es) (within (turn_in names place.declarations) (statements_part block)) p1 rest active r.declared_by (omega arith) (tame_expressions es) tn values) r.values_at in
        let m = adjust_moves all f es 3 g active (length active) r.declared_by r.valued r.values_at in
        let enter = jmp_lift n f (r.loop).pc r.valued r.begin valued.plain r.enter in
        let hb2 = here_generic_block all line names es block place rest r.declared_by r.begin (behind all (expressions_part es) r.declared_by r.valued r.begin m w1.ahead) hn in
        let later = (expressions_part es p1).next in
        let cl = expressions_closed es p1 in
        let nm : NamedAt all (in_generic line names es place) turn.inner n =
        named_locals all (innermost later.around) place.declarations n names r.around turn.inner later.scope (λ other b found. ((s.here).scope).declared other b (sym (ap (λ (sc : outline.Scope). sc other) cl.scope) ∙ found)) (subst (λ ls. Activated ls r.around turn.inner) e.0 turn.activated)
        (named_hidden all (innermost later.around) n generic_names active r.around later.scope (refl, (refl, (refl, tt))) r.hidden (named_still all p1 later active n cl.scope cl.counted.around s.named)) in
        let inside : LoopAt = record { exit = q.pc; before = length active } in
        let body = statements_lift block hb n f setting (Some inside) (in_generic line names es place) rest turn.inner u.inner r.begin u.mid refl (record { here = hb2; active_at = e.1; named = nm; room = turn.room; plain = enter.plain }) u.body_at in
        let hidden = activated_length generic_names active r.around r.hidden in
        let shown = activated_length r.variables r.around turn.inner turn.activated in
        let counted = declared_length names p.ahead r.variables (r.declared_by).ahead r.declared in
        let turn_room = turn.room in
        let turned = turn_lift n f setting (StatementsAt f (Some inside) block) (StatementsAt (asking n f) (Some inside) block) r.variables r.around r.begin r.loop (omega (arith, hidden, room)) turn body in
        let call = abc_lift n f Op.TForLoop (length active) 0 (length names) (alone Op.TForLoop refl) (field_a n f (length active) setting s.room) (omega arith) (field_b n f (length names) setting (omega (arith, shown, counted, turn_room))) r.loop r.again turned.plain r.call in
        let back = jmp_lift n f (r.begin).pc r.again q call.plain r.back in
        record {
          is = record {
            stays = t.stays;
            part_at = record {
              variables = r.variables;
              around = r.around;
              declared_by = r.declared_by;
              valued = r.valued;
              begin = r.begin;
              loop = r.loop;
              again = r.again;
              some = some_name names (and_left (are_some_names names) _ h);
              same = r.same;
              as_many = r.as_many;
              declared = r.declared;
              room = r.room;
              values_at = valued.is;
              hidden = r.hidden;
              enter = enter.is;
              turn_at = turned.is;
              call = call.is;
              back = back.is;
            };
          };
          plain = back.plain;
        }
    statement_lift line (function_statement path method body) h n f setting loop place rest active after p q is s t =
        let h1 = and_left (are_some_names path) _ h in
        let h2 = and_right _ (formed_body body) (and_right (are_some_names path) _ h) in
        let w = assign_one n f setting (path_part line path) (body_part (is_some method) body) (rel_method f (rel_path f path) method) (rel_method (asking n f) (rel_path (asking n f) path) method) (rel_function f (FunctionOf body (is_some method))) (rel_function (asking n f) (FunctionOf body (is_some method)))
        (method_all all f line path method h1) (record { tame = tame_path line path; closed = path_closed line path }) (tame_body (is_some method) body) (method_lifts n f setting line path method h1)
        (record { form = refl; to_reg = closure_lift all n f setting body (is_some method) (body_lifts body (is_some method) h2); bare = λ active place rest p q s t. record { is = t; plain = subst (Plain f) (sym t.pc) s.plain } }) active place rest p q s t.part_at in
        record { is = record { stays = t.stays; part_at = w.is }; plain = w.plain }
    statement_lift line (local_function name body) h n f setting loop place rest active after p q is s t =
        let hs = s.here in
        let b = hs.between in
        let e = local_function_enters all line name body f (FunctionOf body false) active after p q place rest t b.reached hs.ahead s.active_at in
        let nm = named_locals all (innermost place.around) place.declarations n (name ∷ []) active after place.scope (hs.scope).declared (subst (λ ls. Activated ls active after) e.0 t.activated) s.named in
        let room = t.room in
        let more = activated_length t.locals active after t.activated in
        let one = declared_length (name ∷ []) p.ahead t.locals (t.mid).ahead t.declared in
        let w = closure_lift all n f setting body false (body_lifts body false (and_right (is_name name) (formed_body body) h)) after (length active + 1) (length active) t.room (behind_name line name place) rest t.mid q
        (record { here = here_local_function all line name body place rest t.locals p t.mid t.declared hs; active_at = e.1; named = nm; room = omega (arith, more, one, room); plain = subst (Plain f) (sym t.same) s.plain }) t.closure_at in
        record { is = record { locals = t.locals; mid = t.mid; same = t.same; as_many = t.as_many; declared = t.declared; activated = t.activated; room = t.room; closure_at = w.is }; plain = w.plain }
    statement_lift line (local_statement names es) h n f setting loop place rest active after p q is s t =
        let he = and_right (are_some_names names) (formed_expressions es) h in
        let w = adjust_lifts all n f setting (length names) es (all_move all f es he) (all_lift n f setting es he) active (length active) (declares line 0 names place).next rest t.mid q
        (record { here = here_local all line names es place rest t.locals p t.mid t.declared s.here; active_at = closed_active (declares line 0 names) place active (declares_closed line 0 names place) s.active_at; named = s.named; room = s.room; plain = subst (Plain f) (sym t.same) s.plain }) t.values_at in
        record { is = record { locals = t.locals; mid = t.mid; same = t.same; as_many = t.as_many; declared = t.declared; activated = t.activated; values_at = w.is }; plain = w.plain }
    statement_lift line (return_statement es) h n f setting loop place rest active after p q is s t =
        let w = return_lift n f setting es (all_move all f es h) (all_lift n f setting es h) active place rest p q s t.part_at in
        record { is = record { stays = t.stays; part_at = w.is }; plain = w.plain }
    statement_lift line break_statement h n f setting loop place rest active after p q is s t =
        let b = (s.here).between in
        let r = b.reached in
        let w = break_lift n f setting loop active (is ∙ rules.in_loop r.before line place.looped rest r.is) s.room p q s.plain t.part_at in
        record { is = record { stays = t.stays; part_at = w.is }; plain = w.plain }

    branches_lift : (bs : Branches) → formed_branches bs ≡ true → (n : Names) (f : Fn) → Setting n f → (loop : Option LoopAt) (end : ℕ) (more : Bool) (active : List Active) (place : Place) (rest : List Mark) (p q : Spot) → is_some loop ≡ place.looped → Stands all n f (branches_part bs) place rest active p → BranchesAt f loop end more bs active p q → Lifted f (BranchesAt (asking n f) loop end more bs active p q) q
    branches_lift no_branches h n f setting loop end more active place rest p q is s t = same_lift n f p q s.plain t
    branches_lift (branch x block others) h n f setting loop end more active place rest p q is s t =
        let hx = and_left (formed_expression x) _ h in
        let h1 = and_right (formed_expression x) _ h in
        let hb = and_left (formed_statements block) (formed_branches others) h1 in
        let ho = and_right (formed_statements block) (formed_branches others) h1 in
        let l = expression_lifts n f setting x hx in
        let g = expression_moves all f x hx in
        let r = t.first_at in
        let u = r.body_at in
        let a = expression_part x in
        let b = within stay (statements_part block) in
        let c = branches_part others in
        let tb = tame_stay (statements_part block) (tame_statements block) in
        let is1 = is ∙ sym (expression_closed x place).counted.looped in
        let test = l.jump_if active (length active) false (t.mid).pc place _ p r.mid (stands_first all n f a (both b c) place rest active p (tame_expression x) (tame_both b c tb (tame_branches others)) s) r.test_at in
        let w = stands_behind all n f a (both b c) place rest active p r.mid (calm_expression x) (g.jump_if active (length active) false (t.mid).pc p r.mid r.test_at) test.plain s in
        let wb = stands_first all n f b c (a place).next rest active r.mid tb (tame_branches others) w in
        let mb = behind all b r.mid r.last t.mid (within_moves all f stay (statements_part block) (λ place. refl) (λ place. refl) r.mid r.last (block_moves all f (statements_part block) _ (statements_move all f loop block hb) active r.mid r.last r.body_at)) (jump_same all f _ end r.last t.mid r.leave) in
        let body = statements_lift block hb n f setting loop (a place).next _ active u.inner r.mid u.mid is1 (in_block block (a place).next _ n f active r.mid wb) u.body_at in
        let turn = block_lift n f setting (StatementsAt f loop block) (StatementsAt (asking n f) loop block) active r.mid r.last s.room u body in
        let leave = jump_on_lift n f (has_branch others || more) end r.last t.mid turn.plain r.leave in
        let rest_of = branches_lift others ho n f setting loop end more active (b (a place).next).next rest t.mid q is1 (stands_behind all n f b c (a place).next rest active r.mid t.mid (calm_block block) mb leave.plain w) t.second_at in
        record { is = record { mid = t.mid; first_at = record { mid = r.mid; last = r.last; test_at = test.is; body_at = turn.is; leave = leave.is }; second_at = rest_of.is }; plain = rest_of.plain }

    otherwise_lift : (last : Otherwise) → formed_otherwise last ≡ true → (n : Names) (f : Fn) → Setting n f → (loop : Option LoopAt) (active : List Active) (place : Place) (rest : List Mark) (p q : Spot) → is_some loop ≡ place.looped → Stands all n f (otherwise_part last) place rest active p → OtherwiseAt f loop last active p q → Lifted f (OtherwiseAt (asking n f) loop last active p q) q
    otherwise_lift no_otherwise h n f setting loop active place rest p q is s t = same_lift n f p q s.plain t
    otherwise_lift (otherwise block) h n f setting loop active place rest p q is s t =
        let body = statements_lift block h n f setting loop place rest active t.inner p t.mid is (in_block block place rest n f active p s) t.body_at in
        block_lift n f setting (StatementsAt f loop block) (StatementsAt (asking n f) loop block) active p q s.room t body

    step_lift : (step : ForStep) → formed_step step ≡ true → (n : Names) (f : Fn) → Setting n f → (active : List Active) (free : ℕ) → free < f.size → Lift all n f (step_part step) active (StepAt f step active free) (StepAt (asking n f) step active free)
    step_lift no_step h n f setting active free hr place rest p q s t = load_lift all n f setting nothing (Constant.Number (pos 1)) active free free hr place rest p q s t
    step_lift (by_step x) h n f setting active free hr place rest p q s t = let l = expression_lifts n f setting x h in l.to_reg active free free hr place rest p q s t

-- ---- the chunk of a source

pub main_lawful : (source : Source) (chunk : Chunk) → WellFormed source → Scoped source → MainAt None source chunk → MainAt (Some (record { around = []; upvalues = [] })) source chunk
main_lawful source chunk formed scoped m =
    let t = m.1 in
    let all = outline.outline source in
    let n : Names = record { around = []; upvalues = [] } in
    let o = main_onwards source chunk m.0 (λ f. StatementsAt f None source.body) t in
    let d = t.declared in
    let limits = t.limits in
    let none : t.active ≡ [] = subst (λ ls. Activated ls [] t.active) d.0 t.activated in
    let setting : Setting n (fn None chunk) = record { lawless = refl; limits = t.limits; few = omega arith } in
    let body = statements_lift all (kept source scoped) source.body formed.formed n (fn None chunk) setting None beginning [] t.active t.inner t.first t.mid refl
    (record { here = o.here; active_at = o.active_at; named = subst (λ l. NamedAt all beginning l n) (sym none) (named_first all); room = t.room; plain = plain_first (fn None chunk) t.first t.begins }) t.body_at in
    let end = abc_lift n (fn None chunk) Op.Return 0 1 0 (alone Op.Return refl) (omega arith) (omega arith) (omega arith) t.mid t.last body.plain t.end in (
      m.0,
      record {
        param_count = t.param_count;
        flags = t.flags;
        limits = record { two = limits.two; registers = limits.registers; constants = limits.constants; functions = limits.functions };
        locals = t.locals;
        active = t.active;
        inner = t.inner;
        first = t.first;
        mid = t.mid;
        last = t.last;
        begins = t.begins;
        none_made = t.none_made;
        declared = t.declared;
        activated = t.activated;
        room = t.room;
        body_at = body.is;
        end = end.is;
        ends = t.ends;
        all_made = t.all_made;
        goes_on = t.goes_on;
      },
    )
