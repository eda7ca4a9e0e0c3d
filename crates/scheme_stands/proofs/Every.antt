-- What the scheme makes of every part of a tree stands as the relation says, and so do the functions in it.
use Rattle.std.proofs.Common.{◌∙◌, ◌≡◌, ℕ, suc, Bool, true, false, List, [], ◌∷◌, length, get_or, refl, ap, subst, arith}
use Rattle.std.specs.Prelude.{Option, Some, None, ◌||◌, ◌&&◌, is_some}
use Rattle.lua_tree.specs.Syntax as syntax
use Rattle.lua_tree.specs.Syntax.{Expressions, no_expressions, Arguments, argument_list, text_argument, table_argument, Fields, no_fields, positional, named, keyed, Statements, no_statements, Statement, assignment, call_statement, do_block, while_loop, repeat_loop, if_statement, numeric_for, generic_for, function_statement, local_function, local_statement, return_statement, break_statement, Branches, no_branches, branch, Otherwise, no_otherwise, otherwise, ForStep, no_step, by_step, FunctionBody, function_body, Expression, nil_literal, true_literal, false_literal, vararg_expression, number_literal, text_literal, name_expression, function_expression, index_expression, field_expression, call_expression, method_call, and_expression, or_expression, binary_expression, unary_expression, constructor, parenthesized}
use Rattle.lua_tree.specs.Outline.{all_params, body_part}
use Rattle.opcode.specs.declared.op.Op.{Op}
use Rattle.proto.specs.declared.parts.Constant.{Constant}
use Rattle.scheme.specs.Making.{Maker, new_label, freeing}
use Rattle.scheme.specs.Expressions.{load, rk, rk_text, is_multiple}
use Rattle.scheme.specs.Lists.{is_last, entries_from, pending_after, call_at, method_at, table_at, by_base, keyed_item}
use Rattle.scheme.specs.Functions.{coded_function}
use Rattle.scheme.specs.Statements.{Loop, settle, path_from, with_method, arm_part}
use Rattle.scheme.specs.Scheme.{inner, all_coded, coded, given, entries, step_coded, statements_made, statement_made, branches_made, otherwise_made, has_branch, has_otherwise}
use Rattle.scheme.specs.declared.making.Piece.{Piece}
use Rattle.scheme.specs.declared.making.Active.{Active}
use Rattle.scheme_stands.proofs.Forms.{form_is}
use Rattle.scheme_stands.specs.Expressions.{form_of, several, RkAt, RkTextAt}
use Rattle.scheme_stands.specs.Lists.{ItemBy, is_last_item, CallAt, MethodAt, TableAt, MovedFrom}
use Rattle.scheme_stands.specs.Functions.{rel_function}
use Rattle.scheme_stands.specs.Placed.{IsPlaced}
use Rattle.scheme_stands.specs.Statements.{rel_method, rel_path}
use Rattle.scheme_stands.specs.Relation.{BranchesAt, OtherwiseAt, StatementsAt, StatementAt, StepAt, FunctionOf, related, all_related, given_rel, ItemsAt}
use Rattle.scheme_stands.proofs.Growth.{calm, length_end, Final, before, before_free, before_take, later, unplaced, placed, spot, fn_of, room_at}
use Rattle.scheme_stands.proofs.Parts.{grows, grow_all, grows_given, grow_entries, grows_entries, grows_function, grows_rk, grows_rk_text, grows_call_at, grows_method_at, grows_table_at}
use Rattle.scheme_stands.proofs.Links.{Links, AllLinks, GivenLinks, single_at, word_single, load_single, links_name, links_paren, links_index, links_field, links_binary, links_unary, links_logic, links_call, links_vararg, call_at_link, method_at_link, by_base_at, count_same, open_list_at, load_at, rk_at, rk_text_at}
use Rattle.scheme_stands.proofs.Functions.{Made, links_function}
use Rattle.scheme_stands.proofs.Lines.{grows_return, local_at, local_function_at, return_at}
use Rattle.scheme_stands.proofs.Tables.{RestAt, item_at, keyed_at, keyed_grows, table_stands, set_list_if}
use Rattle.scheme_stands.proofs.Stores.{grows_assign, grows_method, assign_at, links_method}
use Rattle.scheme_stands.proofs.Blocks.{Settled, StandsWell, loop_at, block_grows, block_at, arm_calm, arm_at, break_grows, break_at}
use Rattle.scheme_stands.proofs.Loops.{while_grows, while_at, repeat_grows, repeat_at}
use Rattle.scheme_stands.proofs.Fors.{StepStands, no_step_stands, by_step_stands, numeric_grows, numeric_at, generic_grows, generic_at}
use Rattle.scheme_stands.proofs.Statements.{step_grows, if_chain, grow_statements, grow_statement, calm_branches, calm_otherwise, settles}
use Rattle.scheme_stands.proofs.Whole.{function_made}

last_is : (fields : Fields) → is_last (entries fields) ≡ is_last_item fields
last_is no_fields = refl
last_is (positional e separator rest) = refl
last_is (named text e separator rest) = refl
last_is (keyed key e separator rest) = refl

table_at_link : (z : Maker) (line : ℕ) (fields : Fields) → ((t : ℕ) → RestAt z (entries_from line t 0 0 (entries fields)) (λ active. ItemsAt (fn_of z) fields active t 0 0) t 0) → (m : Maker) → Final (length m.labels) (table_at line (entries fields) m) z →
    TableAt (fn_of z) (λ t. ItemsAt (fn_of z) fields m.active t 0 0) m.free (spot m) (spot (table_at line (entries fields) m))
table_at_link z line fields l m f = table_stands z line (entries fields) (λ active t. ItemsAt (fn_of z) fields active t 0 0) (λ t. grows_entries line t 0 0 (entries fields) (grow_entries calm fields)) l m f

mutual
  pub statements_at : (z : Maker) (ss : Statements) (loop : Option Loop) → StandsWell z (statements_made ss loop) (StatementsAt (fn_of z) (loop_at z loop) ss)
  statements_at z no_statements loop m s f = record { stays = refl; part_at = record { pc = refl; ahead = refl; functions = refl } }
  statements_at z (syntax.statement line semi one rest) loop m s f =
      let m1 = statement_made one line loop m in
      let g1 = grow_statement one line loop m s in
      let g2 = grow_statements rest loop (settle m1) refl in
      let f1 = before_free (length m1.active) m1 (before g2 f) in
      record {
        between = m1.active;
        mid = spot m1;
        first_at = statement_at z one line loop m s f1;
        rest_at = statements_at z rest loop (settle m1) refl (later g1.more f);
      }

  pub statement_at : (z : Maker) (one : Statement) (line : ℕ) (loop : Option Loop) → StandsWell z (statement_made one line loop) (StatementAt (fn_of z) (loop_at z loop) one)
  statement_at z (assignment targets es) line loop m s f =
      let g = grows_assign line (all_coded targets) (all_coded es) (grow_all calm targets) (grow_all calm es) m in
      record { stays = g.active; part_at = assign_at z line (all_coded targets) (all_related (fn_of z) targets) (all_coded es) (all_related (fn_of z) es) (links_all z targets) (links_all z es) m s f }
  statement_at z (call_statement e) line loop m s f =
      let g = grows calm e in
      let g1 = g.multi Op.Call (Some 0) m in
      let l = links z e in
      record {
        stays = g1.active;
        part_at = subst (λ n. (related (fn_of z) e).multi m.active n Op.Call (Some 0) (spot m) (spot ((coded e).multi Op.Call (Some 0) m))) s (l.multi Op.Call (Some 0) m f);
      }
  statement_at z (do_block block) line loop m s f = record {
    stays = (block_grows line (statements_made block loop) m (grow_statements block loop m s)).active;
    part_at = block_at z line (statements_made block loop) (StatementsAt (fn_of z) (loop_at z loop) block) (grow_statements block loop) (statements_at z block loop) m s f;
  }
  statement_at z (while_loop test block) line loop m s f = record {
    stays = (while_grows line (coded test) (statements_made block) (grows calm test) (grow_statements block) m s).active;
    part_at = while_at z line (coded test) (related (fn_of z) test) (statements_made block) (λ l. StatementsAt (fn_of z) l block) (grows calm test) (links z test) (grow_statements block) (statements_at z block) m s f;
  }
  statement_at z (repeat_loop block test) line loop m s f = record {
    stays = (repeat_grows line (coded test) (statements_made block) (grows calm test) (grow_statements block) m s).active;
    part_at = repeat_at z line (coded test) (related (fn_of z) test) (statements_made block) (λ l. StatementsAt (fn_of z) l block) (grows calm test) (links z test) (grow_statements block) (settles block) (statements_at z block) m s f;
  }
  statement_at z (if_statement branches last) line loop m s f =
      let end = length m.labels in
      let ma = (new_label m).after in
      let more = has_otherwise last in
      let mb = branches_made branches line loop end more ma in
      let mc = otherwise_made last line loop mb in
      let b = calm_branches branches line loop end more ma s in
      let o = calm_otherwise last line loop mb b.settled in
      let one : length ma.labels ≡ suc end = length_end m.labels 0 in
      let gb = b.grown in
      let go = o.grown in
      let is : get_or z.labels end 0 ≡ length mc.items = placed mc end (omega arith) (omega (arith, one, gb.more, go.more)) f in
      let fc = unplaced {n = mc} end (omega arith) f in
      record {
        stays = (if_chain m b o).active;
        part_at = record {
          mid = spot mb;
          first_at = subst (λ x. BranchesAt (fn_of z) (loop_at z loop) x more branches m.active (spot m) (spot mb)) is (branches_at z branches line loop end more ma s (later (omega (arith, one)) (before go fc)));
          second_at = subst (λ a. OtherwiseAt (fn_of z) (loop_at z loop) last a (spot mb) (spot mc)) gb.active (otherwise_at z last line loop mb b.settled (later (omega (arith, one, gb.more)) fc));
        };
      }
  statement_at z (numeric_for text first last step block) line loop m s f = record {
    stays = (numeric_grows line text (coded first) (coded last) (step_coded step) (statements_made block) (grows calm first) (grows calm last) (step_grows line step) (grow_statements block) m s).active;
    part_at = numeric_at line text (coded first) (coded last) (step_coded step) (statements_made block) (grows calm first) (grows calm last) (step_grows line step) (grow_statements block)
        z (related (fn_of z) first) (related (fn_of z) last) (StepAt (fn_of z) step) (λ l. StatementsAt (fn_of z) l block) (links z first) (links z last) (step_at z line step) (statements_at z block) m s f;
  }
  statement_at z (generic_for names es block) line loop m s f = record {
    stays = (generic_grows line names (all_coded es) (statements_made block) (grow_all calm es) (grow_statements block) m s).active;
    part_at = generic_at line names (all_coded es) (statements_made block) (grow_all calm es) (grow_statements block) z (all_related (fn_of z) es) (λ l. StatementsAt (fn_of z) l block) (links_all z es) (statements_at z block) m s f;
  }
  statement_at z (function_statement path method body) line loop m s f =
      let target = with_method line (path_from line path) method in
      let value = coded_function line body (inner body (is_some method)) in
      let gt = grows_method line path method in
      let gv = grows_function line body (inner body (is_some method)) in
      let g = grows_assign line (target ∷ []) (value ∷ []) (gt, tt) (gv, tt) m in
      record {
        stays = g.active;
        part_at = assign_at z line (target ∷ []) (rel_method (fn_of z) (rel_path (fn_of z) path) method ∷ []) (value ∷ []) (rel_function (fn_of z) (FunctionOf body (is_some method)) ∷ [])
            (links_method z line path method, gt, tt) (links_function z line body (inner body (is_some method)) (FunctionOf body (is_some method)) (made body (is_some method)), gv, tt) m s f;
      }
  statement_at z (local_function text body) line loop m s f = local_function_at z line text (inner body false) (FunctionOf body false) (made body false) m s f
  statement_at z (local_statement names es) line loop m s f = local_at z line names (all_coded es) (all_related (fn_of z) es) (links_all z es) m s f
  statement_at z (return_statement es) line loop m s f = record {
    stays = (grows_return line (all_coded es) (grow_all calm es) m).active;
    part_at = return_at z line (all_coded es) (all_related (fn_of z) es) (links_all z es) m s f;
  }
  statement_at z break_statement line loop m s f = record { stays = (break_grows line loop m).active; part_at = break_at z line loop m f }

  branches_at : (z : Maker) (branches : Branches) (line : ℕ) (loop : Option Loop) (end : ℕ) (more : Bool) (m : Maker) → Settled m → Final (length m.labels) (branches_made branches line loop end more m) z →
      BranchesAt (fn_of z) (loop_at z loop) (get_or z.labels end 0) more branches m.active (spot m) (spot (branches_made branches line loop end more m))
  branches_at z no_branches line loop end more m s f = record { pc = refl; ahead = refl; functions = refl }
  branches_at z (branch test block rest) line loop end more m s f =
      let on = has_branch rest || more in
      let m1 = arm_part line end on (coded test) (statements_made block loop) m in
      let a = arm_calm line end on (coded test) (statements_made block loop) (grows calm test) (grow_statements block loop) m s in
      let b = calm_branches rest line loop end more m1 a.settled in
      let ga = a.grown in
      record {
        mid = spot m1;
        first_at = arm_at z line end on (coded test) (related (fn_of z) test) (statements_made block loop) (StatementsAt (fn_of z) (loop_at z loop) block) (grows calm test) (links z test) (grow_statements block loop) (statements_at z block loop) m s (before b.grown f);
        second_at = subst (λ c. BranchesAt (fn_of z) (loop_at z loop) (get_or z.labels end 0) more rest c (spot m1) (spot (branches_made rest line loop end more m1))) ga.active
            (branches_at z rest line loop end more m1 a.settled (later ga.more f));
      }

  otherwise_at : (z : Maker) (last : Otherwise) (line : ℕ) (loop : Option Loop) (m : Maker) → Settled m → Final (length m.labels) (otherwise_made last line loop m) z →
      OtherwiseAt (fn_of z) (loop_at z loop) last m.active (spot m) (spot (otherwise_made last line loop m))
  otherwise_at z no_otherwise line loop m s f = record { pc = refl; ahead = refl; functions = refl }
  otherwise_at z (otherwise block) line loop m s f = block_at z line (statements_made block loop) (StatementsAt (fn_of z) (loop_at z loop) block) (grow_statements block loop) (statements_at z block loop) m s f

  step_at : (z : Maker) (line : ℕ) (step : ForStep) → StepStands z line (step_coded step) (StepAt (fn_of z) step)
  step_at z line no_step = no_step_stands z line
  step_at z line (by_step e) = by_step_stands z line (coded e) (related (fn_of z) e) (links z e)

  pub made : (body : FunctionBody) (method : Bool) → Made (inner body method) (FunctionOf body method None)
  made (function_body params vararg block first last) method =
      function_made (record { source = None; first_line = first; last_line = last; params = length (all_params method params); vararg = vararg }) last (all_params method params)
      (statements_made block None) (λ f. StatementsAt f None block) (grow_statements block None) (λ z. statements_at z block None) refl
      (IsPlaced (body_part method (function_body params vararg block first last)))

  pub links : (z : Maker) (e : Expression) → Links z (coded e) (related (fn_of z) e)
  links z (nil_literal line) = word_single z line (nil_literal line) (form_of (nil_literal 0)) (λ r. Piece.Abc Op.LoadNil r r 0) refl (λ r. refl)
  links z (true_literal line) = word_single z line (true_literal line) (form_of (true_literal 0)) (λ r. Piece.Abc Op.LoadBool r 1 0) refl (λ r. refl)
  links z (false_literal line) = word_single z line (false_literal line) (form_of (false_literal 0)) (λ r. Piece.Abc Op.LoadBool r 0 0) refl (λ r. refl)
  links z (vararg_expression line) = links_vararg z line
  links z (number_literal line n) = load_single z line (number_literal line n) (form_of (number_literal 0 n)) (Constant.Number n) refl
  links z (text_literal line text) = load_single z line (text_literal line text) (form_of (text_literal 0 text)) (Constant.Text text) refl
  links z (name_expression line text) = links_name z line text
  links z (function_expression line body) = links_function z line body (inner body false) (FunctionOf body false) (made body false)
  links z (index_expression line on key) =
      let lo = links z on in
      let lk = links z key in
      links_index z line (index_expression line on key) (form_of (index_expression line on key)) (coded on) (coded key) (related (fn_of z) on) (related (fn_of z) key) refl (grows calm on) (grows calm key) lo.to lk.to
  links z (field_expression line on text) = let lo = links z on in links_field z line (field_expression line on text) (coded on) (related (fn_of z) on) text refl (grows calm on) lo.to
  links z (call_expression line on args on_line) =
      links_call z line (call_expression line on args on_line) (form_of (call_expression line on args on_line)) (call_at line (coded on) (given args line)) (CallAt (fn_of z) (related (fn_of z) on) (given_rel (fn_of z) args)) refl
      (grows_call_at line (coded on) (given args line) (grows calm on) (grows_given calm args line))
      (call_at_link z line (coded on) (related (fn_of z) on) (given args line) (given_rel (fn_of z) args) (grows calm on) (links z on) (links_given z args line))
  links z (method_call line on text args on_line) =
      links_call z line (method_call line on text args on_line) (form_of (method_call line on text args on_line)) (method_at line (coded on) text (given args line)) (MethodAt (fn_of z) (related (fn_of z) on) text (given_rel (fn_of z) args)) refl
      (grows_method_at line (coded on) text (given args line) (grows calm on) (grows_given calm args line))
      (method_at_link z line (coded on) (related (fn_of z) on) text (given args line) (given_rel (fn_of z) args) (grows calm on) (links z on) (links_given z args line))
  links z (and_expression line left right) =
      links_logic z line (coded left) (coded right) (related (fn_of z) left) (related (fn_of z) right) (grows calm left) (grows calm right) (links z left) (links z right) false (and_expression line left right) (form_of (and_expression line left right)) refl
  links z (or_expression line left right) =
      links_logic z line (coded left) (coded right) (related (fn_of z) left) (related (fn_of z) right) (grows calm left) (grows calm right) (links z left) (links z right) true (or_expression line left right) (form_of (or_expression line left right)) refl
  links z (binary_expression line op left right) =
      links_binary z line (coded left) (coded right) (related (fn_of z) left) (related (fn_of z) right) (grows calm left) (grows calm right) (links z left) (links z right) op (binary_expression line op left right)
  links z (unary_expression line op e) = links_unary z line op (unary_expression line op e) (coded e) (related (fn_of z) e) (links z e)
  links z (constructor line fields) =
      let at_base = table_at line (entries fields) in
      let rel = λ (active : List Active) (free : ℕ). TableAt (fn_of z) (λ t. ItemsAt (fn_of z) fields active t 0 0) free in
      single_at z line (constructor line fields) (form_of (constructor line fields)) (by_base line at_base) (λ active free r. MovedFrom (fn_of z) (rel active free) free r) refl
      (by_base_at z line at_base rel (grows_table_at line (entries fields) (grow_entries calm fields)) (table_at_link z line fields (λ t. items_at z fields line t 0 0)))
  links z (parenthesized line e) = links_paren z (parenthesized line e) (form_of (parenthesized line e)) (coded e) (related (fn_of z) e) refl (links z e)

  links_given : (z : Maker) (args : Arguments) (line : ℕ) → GivenLinks z (given args line) (given_rel (fn_of z) args)
  links_given z (argument_list es) line = record {
    grows = grows_given calm (argument_list es) line;
    count_is = count_same z (all_coded es) (all_related (fn_of z) es) (links_all z es);
    part_at = open_list_at z (all_coded es) (all_related (fn_of z) es) (links_all z es);
  }
  links_given z (text_argument text) line = record {
    grows = grows_given calm (text_argument text) line;
    count_is = refl;
    part_at = λ m f. record {
      room = room_at (load line m.free (Constant.Text text) m) f;
      at_x = refl;
      at_free = refl;
      value_at = load_at z line m.free (Constant.Text text) m (before_take 1 (load line m.free (Constant.Text text) m) f);
    };
  }
  links_given z (table_argument fields) line = record {
    grows = grows_given calm (table_argument fields) line;
    count_is = refl;
    part_at = table_at_link z line fields (λ t. items_at z fields line t 0 0);
  }

  pub links_all : (z : Maker) (es : Expressions) → AllLinks z (all_coded es) (all_related (fn_of z) es)
  links_all z no_expressions = tt
  links_all z (syntax.expression e rest) = (links z e, grows calm e, links_all z rest)

  items_at : (z : Maker) (fields : Fields) (line t done pending : ℕ) → RestAt z (entries_from line t done pending (entries fields)) (λ active. ItemsAt (fn_of z) fields active t done pending) t pending
  items_at z no_fields line t done pending m s f = set_list_if z _ line t pending done m f
  items_at z (positional e separator rest) line t done pending m s f =
      let c = coded e in
      let d = related (fn_of z) e in
      let l = links z e in
      let later_items = entries_from line t (suc done) (pending_after (suc pending)) (entries rest) in
      let rel = λ (active : List Active). ItemsAt (fn_of z) rest active t (suc done) (pending_after (suc pending)) in
      let q = spot (entries_from line t done pending (entries (positional e separator rest)) m) in
      subst (λ b. ItemBy (b && several (form_of e)) (fn_of z) d m.active t done pending (rel m.active) (spot m) q) (last_is rest)
      (subst (λ b. ItemBy (is_last (entries rest) && b) (fn_of z) d m.active t done pending (rel m.active) (spot m) q) (ap several (l.to.is_form ∙ form_is (fn_of z) e))
      (item_at z line t done pending c d (grows calm e) l later_items rel (grows_entries line t (suc done) (pending_after (suc pending)) (entries rest) (grow_entries calm rest)) (items_at z rest line t (suc done) (pending_after (suc pending)))
      (is_last (entries rest) && is_multiple c.e) m s f))
  items_at z (named text e separator rest) line t done pending m s f =
      let g1 = keyed_grows z line t pending (rk_text line text) (λ active. RkTextAt (fn_of z) text) (coded e) (related (fn_of z) e) (grows_rk_text line text) (rk_text_at z line text) (grows calm e) (links z e) m in
      let m1 = freeing (keyed_item line t (rk_text line text) (coded e)) m in
      record {
        mid = spot m1;
        first_at = keyed_at z line t pending (rk_text line text) (λ active. RkTextAt (fn_of z) text) (coded e) (related (fn_of z) e) (grows_rk_text line text) (rk_text_at z line text) (grows calm e) (links z e) m s (before (grows_entries {v = calm} line t done pending (entries rest) (grow_entries calm rest) m1) f);
        second_at = subst (λ a. ItemsAt (fn_of z) rest a t done pending (spot m1) (spot (entries_from line t done pending (entries rest) m1))) g1.active (items_at z rest line t done pending m1 s (later g1.more f));
      }
  items_at z (keyed key e separator rest) line t done pending m s f =
      let lk = links z key in
      let ask = rk (coded key) in
      let rel = λ (active : List Active). RkAt (fn_of z) active (related (fn_of z) key) in
      let g1 = keyed_grows z line t pending ask rel (coded e) (related (fn_of z) e) (grows_rk (coded key) (grows calm key)) (rk_at z (coded key) (related (fn_of z) key) (grows calm key) lk.to) (grows calm e) (links z e) m in
      let m1 = freeing (keyed_item line t ask (coded e)) m in
      record {
        mid = spot m1;
        first_at = keyed_at z line t pending ask rel (coded e) (related (fn_of z) e) (grows_rk (coded key) (grows calm key)) (rk_at z (coded key) (related (fn_of z) key) (grows calm key) lk.to) (grows calm e) (links z e) m s (before (grows_entries {v = calm} line t done pending (entries rest) (grow_entries calm rest) m1) f);
        second_at = subst (λ a. ItemsAt (fn_of z) rest a t done pending (spot m1) (spot (entries_from line t done pending (entries rest) m1))) g1.active (items_at z rest line t done pending m1 s (later g1.more f));
      }
