-- What is written of each form of a value, by what is written of its parts, and the turns of the loops over lists.
use Rattle.std.proofs.Common.{◌≡◌, refl, sym, ap, ◌∙◌, subst, map, ◌++◌, [], ◌∷◌, true, Some, IfOk, OnOk}
use Rattle.std.specs.Prelude.{◌&&◌, not, option_map, OnSome}
use Rattle.std.proofs.lemmas.Bool.{and_from, and_left, and_right}
use Rattle.std.proofs.lemmas.List.{map-append}
use Rattle.lua_tree.specs.View.{view_exp}
use Rattle.lua_tree.specs.WellFormed.{is_prefix}
use Rattle.core_expr.specs.Held.{view_written_args, view_written_items, view_written_item, join_wordings}
use Rattle.core_expr.specs.Standing.{view_writer, behind, behind_values, behind_operand, behind_operands, behind_item, behind_items, behind_arguments, worded, worded_values, worded_each, worded_operand, worded_keys, worded_item, worded_items, worded_arguments, worded_short, worded_only, can_word_values, can_word_operand, can_word_operands, can_word_item, can_word_items, no_field_wording}
use Rattle.core_expr.specs.Values.{view_core, view_operand, view_core_list, view_operand_list, values_of, operands_of, items_of, and_value, no_values}
use Rattle.core_expr.specs.Writing.{view_written, view_written_list, in_parentheses, as_prefix, as_value, as_table_argument, and_item, with_items, is_bare, is_multiple, chain}
use Rattle.core_expr.proofs.CoreViews.{view_cores_list, view_operands_list, view_items_list}
use Rattle.core_expr.proofs.Faults.{handed_on, either_way, where_ok}
use Rattle.core_expr.proofs.Turns.{none_left, join_lists, lists_start, lists_end, values_turn, behind_turn, can_turn, can_here, is_last_value, each_turn, each_end, keys_turn, behind_keys_turn, can_keys_turn, can_keys_here, wordings_start, wordings_end, is_last_item, items_turn, behind_items_turn, can_items_turn, can_items_here}
use Rattle.core_expr.proofs.Worded.{bare_is, not_bare_is, one_is, all_is, single_is, both_can, binary_made, binary_behind, binary_left, binary_right, unary_made, call_made, call_behind, call_on, call_args, method_made, method_behind, method_on, method_name, method_args, method_can, too_many_keys, few_keys, behind_field, field_can, field_made, index_made, named_made, keyed_made, not_short, no_short_form, short_behind, arguments_short, arguments_list, behind_none, behind_some, none_open, none_long, none_not_one, one_argument, only_one, can_only, none_each, some_each}
use Rattle.core_expr.proofs.writer.Writer.+writing.Goals.{value-else-only_one-via-then-only_one+else-is_multiple, value-else-only_one-via-else-only_one}
use Rattle.core_expr.proofs.writer.Writer.+writing.Goals as goal

pub arguments-returns-in_err-short-clause-refused : goal.arguments-returns-in_err-short-clause-refused
arguments-returns-in_err-short-clause-refused t c refusal = ap (λ those. can_word_values (view_writer c.args.self.now) (values_of those)) (sym c.items-items.ensures.items) ∙ handed_on c.from_residual.result _ c.from_residual.ensures.1 c.in_err-short.ensures.refused refusal

pub arguments-returns-in-Some-clause-made : goal.arguments-returns-in-Some-clause-made
arguments-returns-in-Some-clause-made t c = arguments_short (view_writer c.args.self.now) (view_core_list c.args.args.now) c.args.«open» _ ((ap (option_map view_written_args) (sym c.in-Some.is) ∙ c.in_ok-short.ensures.made) ∙ ap (λ those. worded_short (view_writer c.args.self.now) (values_of those) c.args.«open») c.items-items.ensures.items)

pub arguments-returns-in-Some-clause-behind : goal.arguments-returns-in-Some-clause-behind
arguments-returns-in-Some-clause-behind t c = c.in_ok-short.ensures.behind ∙ behind_some (worded_short (view_writer c.args.self.now) (values_of c.items-items.result.now) c.args.«open») (values_of c.items-items.result.now) (view_writer c.args.self.now) (view_written_args c.in-Some.short) (ap (option_map view_written_args) (sym c.in-Some.is) ∙ c.in_ok-short.ensures.made) ∙ ap (λ those. behind_values (values_of those) (view_writer c.args.self.now)) c.items-items.ensures.items

pub arguments-returns-in-Some-clause-able : goal.arguments-returns-in-Some-clause-able
arguments-returns-in-Some-clause-able t c = ap (λ those. can_word_values (view_writer c.args.self.now) (values_of those)) (sym c.items-items.ensures.items) ∙ (rw c.in-Some.is at c.in_ok-short.ensures.able)

pub arguments-returns-in_err-list-clause-refused : goal.arguments-returns-in_err-list-clause-refused
arguments-returns-in_err-list-clause-refused t c refusal = ap (λ those. can_word_values (view_writer c.args.self.now) (values_of those)) (sym c.items-items.ensures.items) ∙ ap (λ s. can_word_values s (values_of c.items-items.result.now)) (sym (c.in_ok-short.ensures.behind ∙ behind_none (worded_short (view_writer c.args.self.now) (values_of c.items-items.result.now) c.args.«open») (values_of c.items-items.result.now) (view_writer c.args.self.now) (ap (option_map view_written_args) (sym c.in_default.is) ∙ c.in_ok-short.ensures.made))) ∙ handed_on c.from_residual-in_err-list.result _ c.from_residual-in_err-list.ensures.1 c.in_err-list.ensures.refused refusal

pub arguments-returns-clause-made : goal.arguments-returns-clause-made
arguments-returns-clause-made t c = c.listed.ensures ∙ arguments_list (view_writer c.args.self.now) (view_writer c.short_arguments.new.self) (values_of c.items-items.result.now) c.args.«open» _ (ap (option_map view_written_args) (sym c.in_default.is) ∙ c.in_ok-short.ensures.made) (c.in_ok-short.ensures.behind ∙ behind_none (worded_short (view_writer c.args.self.now) (values_of c.items-items.result.now) c.args.«open») (values_of c.items-items.result.now) (view_writer c.args.self.now) (ap (option_map view_written_args) (sym c.in_default.is) ∙ c.in_ok-short.ensures.made)) c.in_ok-list.ensures.made ∙ ap (λ those. worded_arguments (view_writer c.args.self.now) (values_of those) c.args.«open») c.items-items.ensures.items

pub arguments-returns-clause-behind : goal.arguments-returns-clause-behind
arguments-returns-clause-behind t c = c.in_ok-list.ensures.behind ∙ ap (behind_values (values_of c.items-items.result.now)) (c.in_ok-short.ensures.behind ∙ behind_none (worded_short (view_writer c.args.self.now) (values_of c.items-items.result.now) c.args.«open») (values_of c.items-items.result.now) (view_writer c.args.self.now) (ap (option_map view_written_args) (sym c.in_default.is) ∙ c.in_ok-short.ensures.made)) ∙ ap (λ those. behind_values (values_of those) (view_writer c.args.self.now)) c.items-items.ensures.items

pub arguments-returns-clause-able : goal.arguments-returns-clause-able
arguments-returns-clause-able t c = ap (λ those. can_word_values (view_writer c.args.self.now) (values_of those)) (sym c.items-items.ensures.items) ∙ ap (λ s. can_word_values s (values_of c.items-items.result.now)) (sym (c.in_ok-short.ensures.behind ∙ behind_none (worded_short (view_writer c.args.self.now) (values_of c.items-items.result.now) c.args.«open») (values_of c.items-items.result.now) (view_writer c.args.self.now) (ap (option_map view_written_args) (sym c.in_default.is) ∙ c.in_ok-short.ensures.made))) ∙ c.in_ok-list.ensures.able

pub binary-returns-in_err-left-clause-refused : goal.binary-returns-in_err-left-clause-refused
binary-returns-in_err-left-clause-refused t c refusal = binary_left c.args.op (view_operand c.args.left.now) (view_operand c.args.right.now) (view_writer c.args.self.now) (handed_on c.from_residual.result _ c.from_residual.ensures.1 c.in_err-left.ensures.refused refusal)

pub binary-returns-in_err-right-clause-refused : goal.binary-returns-in_err-right-clause-refused
binary-returns-in_err-right-clause-refused t c refusal = binary_right c.args.op (view_operand c.args.left.now) (view_operand c.args.right.now) (view_writer c.args.self.now) _ c.in_ok-left.ensures.behind (handed_on c.from_residual-in_err-right.result _ c.from_residual-in_err-right.ensures.1 c.in_err-right.ensures.refused refusal)

pub binary-returns-clause-made : goal.binary-returns-clause-made
binary-returns-clause-made t c = binary_made c.args.op (view_operand c.args.left.now) (view_operand c.args.right.now) (view_writer c.args.self.now) _ _ _ _ c.in_ok-left.ensures.made c.in_ok-left.ensures.behind c.in_ok-right.ensures.made c.in_ok-joined.ensures

pub binary-returns-clause-behind : goal.binary-returns-clause-behind
binary-returns-clause-behind t c = binary_behind c.args.op (view_operand c.args.left.now) (view_operand c.args.right.now) (view_writer c.args.self.now) _ _ c.in_ok-left.ensures.behind c.in_ok-right.ensures.behind

pub binary-returns-clause-able : goal.binary-returns-clause-able
binary-returns-clause-able t c = both_can _ (λ s. can_word_operand s (view_operand c.args.right.now)) c.in_ok-left.ensures.able c.in_ok-left.ensures.behind c.in_ok-right.ensures.able

pub call-returns-in_err-on-clause-refused : goal.call-returns-in_err-on-clause-refused
call-returns-in_err-on-clause-refused t c refusal = call_on (view_core c.args.on.now) (view_core_list c.args.args.now) c.args.«open» (view_writer c.args.self.now) (handed_on c.from_residual.result _ c.from_residual.ensures.1 c.in_err-on.ensures.refused refusal)

pub call-returns-in_err-args-clause-refused : goal.call-returns-in_err-args-clause-refused
call-returns-in_err-args-clause-refused t c refusal = call_args (view_core c.args.on.now) (view_core_list c.args.args.now) c.args.«open» (view_writer c.args.self.now) _ c.in_ok-on.ensures.behind (handed_on c.from_residual-in_err-args.result _ c.from_residual-in_err-args.ensures.1 c.in_err-args.ensures.refused refusal)

pub call-returns-clause-made : goal.call-returns-clause-made
call-returns-clause-made t c = call_made (view_core c.args.on.now) (view_core_list c.args.args.now) c.args.«open» (view_writer c.args.self.now) _ _ _ _ c.in_ok-on.ensures.made c.in_ok-on.ensures.behind c.in_ok-args.ensures.made c.in_ok-call.ensures

pub call-returns-clause-behind : goal.call-returns-clause-behind
call-returns-clause-behind t c = call_behind (view_core c.args.on.now) (view_core_list c.args.args.now) c.args.«open» (view_writer c.args.self.now) _ _ c.in_ok-on.ensures.behind c.in_ok-args.ensures.behind

pub call-returns-clause-able : goal.call-returns-clause-able
call-returns-clause-able t c = both_can _ (λ s. can_word_values s (view_core_list c.args.args.now)) c.in_ok-on.ensures.able c.in_ok-on.ensures.behind c.in_ok-args.ensures.able

pub concat-loop-operand-init : goal.concat-loop-operand-init
concat-loop-operand-init t c = record { made = ap (λ ws. map view_written ws ++ worded_each (view_writer c.args.self.now) (values_of c.items-operand-items.result.now)) c.new-written.ensures.items; behind = refl; can = refl }

pub concat-returns-in_err-operand-clause-refused : goal.concat-returns-in_err-operand-clause-refused
concat-returns-in_err-operand-clause-refused t c refusal = and_right _ _ (ap (λ those. can_word_values (view_writer c.args.self.now) (values_of those)) (sym c.items-operand-items.ensures.items) ∙ sym c.loop-operand.invariant.can ∙ can_here c.items-operand-items.result.now c.loop-operand.operand-index c.operand-item.result c.loop-operand-test.true c.operand-item.is (view_writer c.loop-operand.self) (handed_on c.from_residual.result _ c.from_residual.ensures.1 c.in_err-operand.ensures.refused refusal))

pub concat-loop-operand-preserved : goal.concat-loop-operand-preserved
concat-loop-operand-preserved t c = record {
  made = each_turn c.items-operand-items.result.now c.loop-operand.operand-index c.operand-item.result c.loop-operand-test.true c.operand-item.is (view_writer c.loop-operand.self) (view_writer c.expression.new.self) (map view_written c.loop-operand.written.items) _ _ (view_written c.in_ok-operand.operand) c.loop-operand.invariant.made c.in_ok-operand.ensures.made c.in_ok-operand.ensures.behind
      (ap (map view_written) c.in_ok-push.ensures.items ∙ map-append view_written c.loop-operand.written.items (c.in_ok-operand.operand ∷ []));
  behind = behind_turn c.items-operand-items.result.now c.loop-operand.operand-index c.operand-item.result c.loop-operand-test.true c.operand-item.is (view_writer c.loop-operand.self) _ _ c.loop-operand.invariant.behind c.in_ok-operand.ensures.behind;
  can = can_turn c.items-operand-items.result.now c.loop-operand.operand-index c.operand-item.result c.loop-operand-test.true c.operand-item.is (view_writer c.loop-operand.self) _ c.loop-operand.invariant.can c.in_ok-operand.ensures.able c.in_ok-operand.ensures.behind;
}

pub concat-returns-clause-made : goal.concat-returns-clause-made
concat-returns-clause-made t c = subst (λ ws. IfOk c.chained.result (λ written. view_written written ≡ chain ws)) (each_end c.items-operand-items.result.now c.loop-operand.operand-index c.loop-operand-test.false (view_writer c.loop-operand.self) _ c.loop-operand.invariant.made ∙ ap (λ those. worded_each (view_writer c.args.self.now) (values_of those)) c.items-operand-items.ensures.items) c.chained.ensures.made

pub concat-returns-clause-behind : goal.concat-returns-clause-behind
concat-returns-clause-behind t c = either_way c.chained.result (sym (none_left (λ those. behind_values (values_of those) (view_writer c.loop-operand.self)) c.items-operand-items.result.now c.loop-operand.operand-index c.loop-operand-test.false refl) ∙ c.loop-operand.invariant.behind ∙ ap (λ those. behind_values (values_of those) (view_writer c.args.self.now)) c.items-operand-items.ensures.items)

pub concat-returns-clause-refused : goal.concat-returns-clause-refused
concat-returns-clause-refused t c refusal = none_each (view_core_list c.args.operands.now) (view_writer c.args.self.now) (ap (map view_written) (sym (c.chained.ensures.refused refusal)) ∙ (each_end c.items-operand-items.result.now c.loop-operand.operand-index c.loop-operand-test.false (view_writer c.loop-operand.self) _ c.loop-operand.invariant.made ∙ ap (λ those. worded_each (view_writer c.args.self.now) (values_of those)) c.items-operand-items.ensures.items))

pub concat-returns-clause-able : goal.concat-returns-clause-able
concat-returns-clause-able t c = where_ok c.chained.result (λ some. and_from _ _ (some_each (view_core_list c.args.operands.now) (view_writer c.args.self.now) c.loop-operand.written.items (each_end c.items-operand-items.result.now c.loop-operand.operand-index c.loop-operand-test.false (view_writer c.loop-operand.self) _ c.loop-operand.invariant.made ∙ ap (λ those. worded_each (view_writer c.args.self.now) (values_of those)) c.items-operand-items.ensures.items) some) (ap (λ those. can_word_values (view_writer c.args.self.now) (values_of those)) (sym c.items-operand-items.ensures.items) ∙ sym c.loop-operand.invariant.can ∙ none_left (λ those. can_word_values (view_writer c.loop-operand.self) (values_of those)) c.items-operand-items.result.now c.loop-operand.operand-index c.loop-operand-test.false refl)) c.chained.ensures.able

pub expression-returns-in-Index-clause-made : goal.expression-returns-in-Index-clause-made
expression-returns-in-Index-clause-made t c = rw (ap view_core c.in-Index.is) (rw (view_operands_list c.in-Index.keys) (rw (sym (ap view_core c.deref.ensures)) (c.indexed.ensures.made)))

pub expression-returns-in-Index-clause-behind : goal.expression-returns-in-Index-clause-behind
expression-returns-in-Index-clause-behind t c = rw (ap view_core c.in-Index.is) (rw (view_operands_list c.in-Index.keys) (rw (sym (ap view_core c.deref.ensures)) (c.indexed.ensures.behind)))

pub expression-returns-in-Index-clause-refused : goal.expression-returns-in-Index-clause-refused
expression-returns-in-Index-clause-refused t c refusal = rw (ap view_core c.in-Index.is) (rw (view_operands_list c.in-Index.keys) (rw (sym (ap view_core c.deref.ensures)) (c.indexed.ensures.refused refusal)))

pub expression-returns-in-Index-clause-able : goal.expression-returns-in-Index-clause-able
expression-returns-in-Index-clause-able t c = rw (ap view_core c.in-Index.is) (rw (view_operands_list c.in-Index.keys) (rw (sym (ap view_core c.deref.ensures)) (c.indexed.ensures.able)))

pub expression-returns-in-Binary-clause-made : goal.expression-returns-in-Binary-clause-made
expression-returns-in-Binary-clause-made t c = rw (ap view_core c.in-Binary.is) (rw (sym (ap view_operand c.deref-in-Binary.ensures)) (rw (sym (ap view_operand c.deref-in-Binary-2.ensures)) (c.binary.ensures.made)))

pub expression-returns-in-Binary-clause-behind : goal.expression-returns-in-Binary-clause-behind
expression-returns-in-Binary-clause-behind t c = rw (ap view_core c.in-Binary.is) (rw (sym (ap view_operand c.deref-in-Binary.ensures)) (rw (sym (ap view_operand c.deref-in-Binary-2.ensures)) (c.binary.ensures.behind)))

pub expression-returns-in-Binary-clause-refused : goal.expression-returns-in-Binary-clause-refused
expression-returns-in-Binary-clause-refused t c refusal = rw (ap view_core c.in-Binary.is) (rw (sym (ap view_operand c.deref-in-Binary.ensures)) (rw (sym (ap view_operand c.deref-in-Binary-2.ensures)) (c.binary.ensures.refused refusal)))

pub expression-returns-in-Binary-clause-able : goal.expression-returns-in-Binary-clause-able
expression-returns-in-Binary-clause-able t c = rw (ap view_core c.in-Binary.is) (rw (sym (ap view_operand c.deref-in-Binary.ensures)) (rw (sym (ap view_operand c.deref-in-Binary-2.ensures)) (c.binary.ensures.able)))

pub expression-returns-in-Unary-clause-made : goal.expression-returns-in-Unary-clause-made
expression-returns-in-Unary-clause-made t c = rw (ap view_core c.in-Unary.is) (rw (sym (ap view_core c.deref-in-Unary.ensures)) (c.unary.ensures.made))

pub expression-returns-in-Unary-clause-behind : goal.expression-returns-in-Unary-clause-behind
expression-returns-in-Unary-clause-behind t c = rw (ap view_core c.in-Unary.is) (rw (sym (ap view_core c.deref-in-Unary.ensures)) (c.unary.ensures.behind))

pub expression-returns-in-Unary-clause-refused : goal.expression-returns-in-Unary-clause-refused
expression-returns-in-Unary-clause-refused t c refusal = rw (ap view_core c.in-Unary.is) (rw (sym (ap view_core c.deref-in-Unary.ensures)) (c.unary.ensures.refused refusal))

pub expression-returns-in-Unary-clause-able : goal.expression-returns-in-Unary-clause-able
expression-returns-in-Unary-clause-able t c = rw (ap view_core c.in-Unary.is) (rw (sym (ap view_core c.deref-in-Unary.ensures)) (c.unary.ensures.able))

pub expression-returns-in-Concat-clause-made : goal.expression-returns-in-Concat-clause-made
expression-returns-in-Concat-clause-made t c = rw (ap view_core c.in-Concat.is) (rw (view_cores_list c.in-Concat.operands) (c.concat.ensures.made))

pub expression-returns-in-Concat-clause-behind : goal.expression-returns-in-Concat-clause-behind
expression-returns-in-Concat-clause-behind t c = rw (ap view_core c.in-Concat.is) (rw (view_cores_list c.in-Concat.operands) (c.concat.ensures.behind))

pub expression-returns-in-Concat-clause-refused : goal.expression-returns-in-Concat-clause-refused
expression-returns-in-Concat-clause-refused t c refusal = rw (ap view_core c.in-Concat.is) (rw (view_cores_list c.in-Concat.operands) (c.concat.ensures.refused refusal))

pub expression-returns-in-Concat-clause-able : goal.expression-returns-in-Concat-clause-able
expression-returns-in-Concat-clause-able t c = rw (ap view_core c.in-Concat.is) (rw (view_cores_list c.in-Concat.operands) (c.concat.ensures.able))

pub expression-returns-in-Call-clause-made : goal.expression-returns-in-Call-clause-made
expression-returns-in-Call-clause-made t c = rw (ap view_core c.in-Call.is) (rw (view_cores_list c.in-Call.args) (rw (sym (ap view_core c.deref-in-Call.ensures)) (c.call.ensures.made)))

pub expression-returns-in-Call-clause-behind : goal.expression-returns-in-Call-clause-behind
expression-returns-in-Call-clause-behind t c = rw (ap view_core c.in-Call.is) (rw (view_cores_list c.in-Call.args) (rw (sym (ap view_core c.deref-in-Call.ensures)) (c.call.ensures.behind)))

pub expression-returns-in-Call-clause-refused : goal.expression-returns-in-Call-clause-refused
expression-returns-in-Call-clause-refused t c refusal = rw (ap view_core c.in-Call.is) (rw (view_cores_list c.in-Call.args) (rw (sym (ap view_core c.deref-in-Call.ensures)) (c.call.ensures.refused refusal)))

pub expression-returns-in-Call-clause-able : goal.expression-returns-in-Call-clause-able
expression-returns-in-Call-clause-able t c = rw (ap view_core c.in-Call.is) (rw (view_cores_list c.in-Call.args) (rw (sym (ap view_core c.deref-in-Call.ensures)) (c.call.ensures.able)))

pub expression-returns-in-Method-clause-made : goal.expression-returns-in-Method-clause-made
expression-returns-in-Method-clause-made t c = rw (ap view_core c.in-Method.is) (rw (view_cores_list c.in-Method.args) (rw (sym (ap view_core c.deref-in-Method.ensures)) (c.method.ensures.made)))

pub expression-returns-in-Method-clause-behind : goal.expression-returns-in-Method-clause-behind
expression-returns-in-Method-clause-behind t c = rw (ap view_core c.in-Method.is) (rw (view_cores_list c.in-Method.args) (rw (sym (ap view_core c.deref-in-Method.ensures)) (c.method.ensures.behind)))

pub expression-returns-in-Method-clause-refused : goal.expression-returns-in-Method-clause-refused
expression-returns-in-Method-clause-refused t c refusal = rw (ap view_core c.in-Method.is) (rw (view_cores_list c.in-Method.args) (rw (sym (ap view_core c.deref-in-Method.ensures)) (c.method.ensures.refused refusal)))

pub expression-returns-in-Method-clause-able : goal.expression-returns-in-Method-clause-able
expression-returns-in-Method-clause-able t c = rw (ap view_core c.in-Method.is) (rw (view_cores_list c.in-Method.args) (rw (sym (ap view_core c.deref-in-Method.ensures)) (c.method.ensures.able)))

pub expression-returns-in-Table-clause-made : goal.expression-returns-in-Table-clause-made
expression-returns-in-Table-clause-made t c = rw (ap view_core c.in-Table.is) (rw (view_items_list c.in-Table.items) (c.table.ensures.made))

pub expression-returns-in-Table-clause-behind : goal.expression-returns-in-Table-clause-behind
expression-returns-in-Table-clause-behind t c = rw (ap view_core c.in-Table.is) (rw (view_items_list c.in-Table.items) (c.table.ensures.behind))

pub expression-returns-in-Table-clause-refused : goal.expression-returns-in-Table-clause-refused
expression-returns-in-Table-clause-refused t c refusal = rw (ap view_core c.in-Table.is) (rw (view_items_list c.in-Table.items) (c.table.ensures.refused refusal))

pub expression-returns-in-Table-clause-able : goal.expression-returns-in-Table-clause-able
expression-returns-in-Table-clause-able t c = rw (ap view_core c.in-Table.is) (rw (view_items_list c.in-Table.items) (c.table.ensures.able))

pub expression-returns-in-Function-clause-made : goal.expression-returns-in-Function-clause-made
expression-returns-in-Function-clause-made t c = rw (ap view_core c.in-Function.is) (c.function.ensures.made)

pub expression-returns-in-Function-clause-behind : goal.expression-returns-in-Function-clause-behind
expression-returns-in-Function-clause-behind t c = rw (ap view_core c.in-Function.is) (c.function.ensures.behind)

pub expression-returns-in-Function-clause-refused : goal.expression-returns-in-Function-clause-refused
expression-returns-in-Function-clause-refused t c refusal = rw (ap view_core c.in-Function.is) (c.function.ensures.refused refusal)

pub indexed-returns-then-items-gt-MOST_KEYS-clause-refused : goal.indexed-returns-then-items-gt-MOST_KEYS-clause-refused
indexed-returns-then-items-gt-MOST_KEYS-clause-refused t c refusal = and_left _ _ (too_many_keys c.args.keys.now c.items.result.now c.items.ensures.items c.if-items-gt-MOST_KEYS.true)

pub indexed-returns-in_err-written-clause-refused : goal.indexed-returns-in_err-written-clause-refused
indexed-returns-in_err-written-clause-refused t c refusal = and_right _ _ (and_left _ _ (handed_on c.from_residual.result _ c.from_residual.ensures.1 c.in_err-written.ensures.refused refusal))

pub indexed-loop-key-init : goal.indexed-loop-key-init
indexed-loop-key-init t c = record { made = refl; behind = refl; can = refl }

pub indexed-returns-in_err-written-2-clause-refused : goal.indexed-returns-in_err-written-2-clause-refused
indexed-returns-in_err-written-2-clause-refused t c refusal = and_right _ _ (and_right _ _ (ap (λ those. can_word_operands (behind (view_core c.args.on.now) (view_writer c.args.self.now)) (operands_of those)) (sym c.items-key-items.ensures.items) ∙ ap (λ s. can_word_operands s (operands_of c.items-key-items.result.now)) (sym c.in_ok-written.ensures.behind) ∙ sym c.loop-key.invariant.can ∙ can_keys_here c.items-key-items.result.now c.loop-key.key-index c.key-item.result c.loop-key-test.true c.key-item.is (view_writer c.loop-key.self) (handed_on c.from_residual-in_err-written-2.result _ c.from_residual-in_err-written-2.ensures.1 c.in_err-written-2.ensures.refused refusal)))

pub indexed-loop-key-preserved : goal.indexed-loop-key-preserved
indexed-loop-key-preserved t c = record {
  made = keys_turn c.items-key-items.result.now c.loop-key.key-index c.key-item.result c.loop-key-test.true c.key-item.is (view_writer c.loop-key.self) _ (view_written c.loop-key.written) _ _ c.loop-key.invariant.made c.in_ok-written-2.ensures.made c.in_ok-written-2.ensures.behind;
  behind = behind_keys_turn c.items-key-items.result.now c.loop-key.key-index c.key-item.result c.loop-key-test.true c.key-item.is (view_writer c.loop-key.self) _ _ c.loop-key.invariant.behind c.in_ok-written-2.ensures.behind;
  can = can_keys_turn c.items-key-items.result.now c.loop-key.key-index c.key-item.result c.loop-key-test.true c.key-item.is (view_writer c.loop-key.self) _ c.loop-key.invariant.can c.in_ok-written-2.ensures.able c.in_ok-written-2.ensures.behind;
}

pub indexed-returns-clause-made : goal.indexed-returns-clause-made
indexed-returns-clause-made t c = sym (none_left (λ those. worded_keys (view_writer c.loop-key.self) (view_written c.loop-key.written) (operands_of those)) c.items-key-items.result.now c.loop-key.key-index c.loop-key-test.false refl) ∙ c.loop-key.invariant.made ∙ ap (λ s. worded_keys s (view_written c.in_ok-written.written) (operands_of c.items-key-items.result.now)) c.in_ok-written.ensures.behind ∙ ap (λ w. worded_keys (behind (view_core c.args.on.now) (view_writer c.args.self.now)) w (operands_of c.items-key-items.result.now)) c.in_ok-written.ensures.made ∙ ap (λ those. worded_keys (behind (view_core c.args.on.now) (view_writer c.args.self.now)) (as_prefix (worded (view_writer c.args.self.now) (view_core c.args.on.now))) (operands_of those)) c.items-key-items.ensures.items

pub indexed-returns-clause-behind : goal.indexed-returns-clause-behind
indexed-returns-clause-behind t c = sym (none_left (λ those. behind_operands (operands_of those) (view_writer c.loop-key.self)) c.items-key-items.result.now c.loop-key.key-index c.loop-key-test.false refl) ∙ c.loop-key.invariant.behind ∙ ap (behind_operands (operands_of c.items-key-items.result.now)) c.in_ok-written.ensures.behind ∙ ap (λ those. behind_operands (operands_of those) (behind (view_core c.args.on.now) (view_writer c.args.self.now))) c.items-key-items.ensures.items

pub indexed-returns-clause-able : goal.indexed-returns-clause-able
indexed-returns-clause-able t c = and_from _ _ (few_keys c.args.keys.now c.items.result.now c.items.ensures.items c.if-items-gt-MOST_KEYS.false) (both_can _ (λ s. can_word_operands s (view_operand_list c.args.keys.now)) c.in_ok-written.ensures.able c.in_ok-written.ensures.behind (ap (λ those. can_word_operands (view_writer c.prefix.new.self) (operands_of those)) (sym c.items-key-items.ensures.items) ∙ sym c.loop-key.invariant.can ∙ none_left (λ those. can_word_operands (view_writer c.loop-key.self) (operands_of those)) c.items-key-items.result.now c.loop-key.key-index c.loop-key-test.false refl))

pub item-returns-in_err-value-in-Positional-clause-refused : goal.item-returns-in_err-value-in-Positional-clause-refused
item-returns-in_err-value-in-Positional-clause-refused t c refusal = ap (can_word_item (view_writer c.args.self.now)) c.in-Positional.is ∙ handed_on c.from_residual.result _ c.from_residual.ensures.1 c.in_err-value-in-Positional.ensures.refused refusal

pub item-returns-in_ok-value-in-Positional-clause-made : goal.item-returns-in_ok-value-in-Positional-clause-made
item-returns-in_ok-value-in-Positional-clause-made t c separator = c.positional_item.ensures separator ∙ ap (λ w. and_item w separator no_field_wording) c.in_ok-value-in-Positional.ensures.made ∙ ap (λ item. worded_item (view_writer c.args.self.now) c.args.only_one item separator) (sym c.in-Positional.is)

pub item-returns-in_ok-value-in-Positional-clause-behind : goal.item-returns-in_ok-value-in-Positional-clause-behind
item-returns-in_ok-value-in-Positional-clause-behind t c = c.in_ok-value-in-Positional.ensures.behind ∙ ap (λ item. behind_item item (view_writer c.args.self.now)) (sym c.in-Positional.is)

pub item-returns-in-Keyed-clause-made : goal.item-returns-in-Keyed-clause-made
item-returns-in-Keyed-clause-made t c = rw c.in-Keyed.is c.keyed_item.ensures.made

pub item-returns-in-Keyed-clause-behind : goal.item-returns-in-Keyed-clause-behind
item-returns-in-Keyed-clause-behind t c = rw c.in-Keyed.is c.keyed_item.ensures.behind

pub item-returns-in-Keyed-clause-refused : goal.item-returns-in-Keyed-clause-refused
item-returns-in-Keyed-clause-refused t c refusal = rw c.in-Keyed.is (c.keyed_item.ensures.refused refusal)

pub items-loop-i-init : goal.items-loop-i-init
items-loop-i-init t c = record { made = wordings_start _ c.new-written.ensures; behind = refl; can = refl }

pub items-returns-in_err-item-clause-refused : goal.items-returns-in_err-item-clause-refused
items-returns-in_err-item-clause-refused t c refusal = ap (λ those. can_word_items (view_writer c.args.self.now) (items_of those)) (sym c.items-all.ensures.items) ∙ sym c.loop-i.invariant.can ∙ can_items_here c.items-all.result.now c.loop-i.i c.index-all-i.result c.loop-i-test.true c.index-all-i.is (view_writer c.loop-i.self) (handed_on c.from_residual.result _ c.from_residual.ensures.1 c.in_err-item.ensures.refused refusal)

pub items-loop-i-preserved : goal.items-loop-i-preserved
items-loop-i-preserved t c = record {
  made = items_turn c.items-all.result.now c.loop-i.i c.index-all-i.result c.loop-i-test.true c.index-all-i.is c.args.«open» _ (is_last_item c.items-all.result.now c.loop-i.i c.loop-i-test.true) (view_writer c.loop-i.self) (view_writer c.item.new.self) (view_written_items c.loop-i.written) _ _ (view_written_item c.in_ok-item.item) c.loop-i.invariant.made
      (λ separator. c.in_ok-item.ensures.made separator ∙ ap (λ only_one. worded_item (view_writer c.loop-i.self) only_one c.index-all-i.result separator) c.wants_one.ensures) c.in_ok-item.ensures.behind c.in_ok-push.ensures;
  behind = behind_items_turn c.items-all.result.now c.loop-i.i c.index-all-i.result c.loop-i-test.true c.index-all-i.is (view_writer c.loop-i.self) _ _ c.loop-i.invariant.behind c.in_ok-item.ensures.behind;
  can = can_items_turn c.items-all.result.now c.loop-i.i c.index-all-i.result c.loop-i-test.true c.index-all-i.is (view_writer c.loop-i.self) _ c.loop-i.invariant.can c.in_ok-item.ensures.able c.in_ok-item.ensures.behind;
}

pub items-returns-clause-made : goal.items-returns-clause-made
items-returns-clause-made t c = sym (none_left (λ those. join_wordings (view_written_items c.loop-i.written) (worded_items (view_writer c.loop-i.self) (items_of those) c.args.«open»)) c.items-all.result.now c.loop-i.i c.loop-i-test.false (wordings_end (view_written_items c.loop-i.written))) ∙ c.loop-i.invariant.made ∙ ap (λ those. worded_items (view_writer c.args.self.now) (items_of those) c.args.«open») c.items-all.ensures.items

pub items-returns-clause-behind : goal.items-returns-clause-behind
items-returns-clause-behind t c = sym (none_left (λ those. behind_items (items_of those) (view_writer c.loop-i.self)) c.items-all.result.now c.loop-i.i c.loop-i-test.false refl) ∙ c.loop-i.invariant.behind ∙ ap (λ those. behind_items (items_of those) (view_writer c.args.self.now)) c.items-all.ensures.items

pub items-returns-clause-able : goal.items-returns-clause-able
items-returns-clause-able t c = ap (λ those. can_word_items (view_writer c.args.self.now) (items_of those)) (sym c.items-all.ensures.items) ∙ sym c.loop-i.invariant.can ∙ none_left (λ those. can_word_items (view_writer c.loop-i.self) (items_of those)) c.items-all.result.now c.loop-i.i c.loop-i-test.false refl

pub keyed_item-returns-in_err-value-clause-refused : goal.keyed_item-returns-in_err-value-clause-refused
keyed_item-returns-in_err-value-clause-refused t c refusal = and_right _ _ (ap (λ s. can_word_operand s (view_operand c.args.value.now)) (sym (c.take_constant.ensures ∙ behind_field (view_operand c.args.key.now) c.in-Some.number (view_writer c.args.self.now) c.in-Some.ensures.number)) ∙ handed_on c.from_residual.result _ c.from_residual.ensures.1 c.in_err-value.ensures.refused refusal)

pub keyed_item-returns-in-Some-clause-made : goal.keyed_item-returns-in-Some-clause-made
unfolding view_writer
keyed_item-returns-in-Some-clause-made t c separator = c.in_ok-named_item.ensures separator ∙ named_made (view_operand c.args.key.now) (view_operand c.args.value.now) c.in-Some.number c.in-Some.name.now (view_writer c.args.self.now) _ (view_written c.in_ok-value.value) separator c.in-Some.ensures.name c.in-Some.ensures.number c.take_constant.ensures c.in_ok-value.ensures.made

pub keyed_item-returns-in-Some-clause-behind : goal.keyed_item-returns-in-Some-clause-behind
keyed_item-returns-in-Some-clause-behind t c = c.in_ok-value.ensures.behind ∙ ap (behind_operand (view_operand c.args.value.now)) (c.take_constant.ensures ∙ behind_field (view_operand c.args.key.now) c.in-Some.number (view_writer c.args.self.now) c.in-Some.ensures.number)

pub keyed_item-returns-in-Some-clause-able : goal.keyed_item-returns-in-Some-clause-able
unfolding view_writer
keyed_item-returns-in-Some-clause-able t c = both_can _ (λ s. can_word_operand s (view_operand c.args.value.now)) (field_can (view_operand c.args.key.now) (view_writer c.args.self.now) c.in-Some.name.now c.in-Some.ensures.name) (c.take_constant.ensures ∙ behind_field (view_operand c.args.key.now) c.in-Some.number (view_writer c.args.self.now) c.in-Some.ensures.number) c.in_ok-value.ensures.able

pub keyed_item-returns-in_err-key-clause-refused : goal.keyed_item-returns-in_err-key-clause-refused
keyed_item-returns-in_err-key-clause-refused t c refusal = and_left _ _ (handed_on c.from_residual-in_err-key.result _ c.from_residual-in_err-key.ensures.1 c.in_err-key.ensures.refused refusal)

pub keyed_item-returns-in_err-value-2-clause-refused : goal.keyed_item-returns-in_err-value-2-clause-refused
keyed_item-returns-in_err-value-2-clause-refused t c refusal = and_right _ _ (ap (λ s. can_word_operand s (view_operand c.args.value.now)) (sym c.in_ok-key.ensures.behind) ∙ handed_on c.from_residual-in_err-value-2.result _ c.from_residual-in_err-value-2.ensures.1 c.in_err-value-2.ensures.refused refusal)

pub keyed_item-returns-clause-made : goal.keyed_item-returns-clause-made
unfolding view_writer
keyed_item-returns-clause-made t c separator = c.bracketed_item.ensures separator ∙ keyed_made (view_operand c.args.key.now) (view_operand c.args.value.now) (view_writer c.args.self.now) _ (view_written c.in_ok-key.key) (view_written c.in_ok-value-2.value) separator c.in_default.ensures.name c.in_ok-key.ensures.made c.in_ok-key.ensures.behind c.in_ok-value-2.ensures.made

pub keyed_item-returns-clause-behind : goal.keyed_item-returns-clause-behind
keyed_item-returns-clause-behind t c = c.in_ok-value-2.ensures.behind ∙ ap (behind_operand (view_operand c.args.value.now)) c.in_ok-key.ensures.behind

pub keyed_item-returns-clause-able : goal.keyed_item-returns-clause-able
keyed_item-returns-clause-able t c = both_can _ (λ s. can_word_operand s (view_operand c.args.value.now)) c.in_ok-key.ensures.able c.in_ok-key.ensures.behind c.in_ok-value-2.ensures.able

pub list-loop-i-init : goal.list-loop-i-init
list-loop-i-init t c = record { made = lists_start _ c.new-list.ensures; behind = refl; can = refl }

pub list-returns-in_err-written-clause-refused : goal.list-returns-in_err-written-clause-refused
list-returns-in_err-written-clause-refused t c refusal = sym c.loop-i.invariant.can ∙ can_here c.args.cores.now c.loop-i.i c.index-cores-i.result c.loop-i-test.true c.index-cores-i.is (view_writer c.loop-i.self) (handed_on c.from_residual.result _ c.from_residual.ensures.1 c.in_err-written.ensures.refused refusal)

pub list-loop-i-preserved : goal.list-loop-i-preserved
list-loop-i-preserved t c = record {
  made = values_turn c.args.cores.now c.loop-i.i c.index-cores-i.result c.loop-i-test.true c.index-cores-i.is c.args.«open» (view_writer c.loop-i.self) (view_writer c.value.new.self) (view_written_list c.loop-i.list) _ (view_written c.in_ok-written.written) _ c.loop-i.invariant.made
      (c.in_ok-written.ensures.made ∙ ap (λ only_one. as_value only_one (view_core c.index-cores-i.result) (worded (view_writer c.loop-i.self) (view_core c.index-cores-i.result))) (c.wants_one.ensures ∙ ap (λ is_last. is_last && not c.args.«open») (is_last_value c.args.cores.now c.loop-i.i c.loop-i-test.true)))
      c.in_ok-written.ensures.behind c.in_ok-push.ensures;
  behind = behind_turn c.args.cores.now c.loop-i.i c.index-cores-i.result c.loop-i-test.true c.index-cores-i.is (view_writer c.loop-i.self) _ _ c.loop-i.invariant.behind c.in_ok-written.ensures.behind;
  can = can_turn c.args.cores.now c.loop-i.i c.index-cores-i.result c.loop-i-test.true c.index-cores-i.is (view_writer c.loop-i.self) _ c.loop-i.invariant.can c.in_ok-written.ensures.able c.in_ok-written.ensures.behind;
}

pub list-returns-clause-made : goal.list-returns-clause-made
list-returns-clause-made t c = sym (none_left (λ those. join_lists (view_written_list c.loop-i.list) (worded_values (view_writer c.loop-i.self) (values_of those) c.args.«open»)) c.args.cores.now c.loop-i.i c.loop-i-test.false (lists_end (view_written_list c.loop-i.list))) ∙ c.loop-i.invariant.made

pub list-returns-clause-behind : goal.list-returns-clause-behind
list-returns-clause-behind t c = sym (none_left (λ those. behind_values (values_of those) (view_writer c.loop-i.self)) c.args.cores.now c.loop-i.i c.loop-i-test.false refl) ∙ c.loop-i.invariant.behind

pub list-returns-clause-able : goal.list-returns-clause-able
list-returns-clause-able t c = sym c.loop-i.invariant.can ∙ none_left (λ those. can_word_values (view_writer c.loop-i.self) (values_of those)) c.args.cores.now c.loop-i.i c.loop-i-test.false refl

pub method-returns-in_err-on-clause-refused : goal.method-returns-in_err-on-clause-refused
method-returns-in_err-on-clause-refused t c refusal = method_on (view_core c.args.on.now) c.args.name (view_core_list c.args.args.now) c.args.«open» (view_writer c.args.self.now) (handed_on c.from_residual.result _ c.from_residual.ensures.1 c.in_err-on.ensures.refused refusal)

pub method-returns-in_default-clause-refused : goal.method-returns-in_default-clause-refused
unfolding view_writer
method-returns-in_default-clause-refused t c refusal = method_name (view_core c.args.on.now) c.args.name (view_core_list c.args.args.now) c.args.«open» (view_writer c.args.self.now) (view_writer c.prefix.new.self) c.in_ok-on.ensures.behind c.in_default.ensures

pub method-returns-in_err-args-clause-refused : goal.method-returns-in_err-args-clause-refused
method-returns-in_err-args-clause-refused t c refusal = method_args (view_core c.args.on.now) c.args.name (view_core_list c.args.args.now) c.args.«open» (view_writer c.args.self.now) _ _ c.in_ok-on.ensures.behind c.take_constant.ensures (handed_on c.from_residual-in_err-args.result _ c.from_residual-in_err-args.ensures.1 c.in_err-args.ensures.refused refusal)

pub method-returns-clause-made : goal.method-returns-clause-made
unfolding view_writer
method-returns-clause-made t c = method_made (view_core c.args.on.now) c.args.name (view_core_list c.args.args.now) c.args.«open» (view_writer c.args.self.now) (view_writer c.prefix.new.self) _ _ _ c.in-Some.text.now _ c.in_ok-on.ensures.made c.in_ok-on.ensures.behind c.in-Some.ensures c.take_constant.ensures c.in_ok-args.ensures.made c.in_ok-method.ensures

pub method-returns-clause-behind : goal.method-returns-clause-behind
method-returns-clause-behind t c = method_behind (view_core c.args.on.now) c.args.name (view_core_list c.args.args.now) c.args.«open» (view_writer c.args.self.now) _ _ _ c.in_ok-on.ensures.behind c.take_constant.ensures c.in_ok-args.ensures.behind

pub method-returns-clause-able : goal.method-returns-clause-able
unfolding view_writer
method-returns-clause-able t c = method_can (view_core c.args.on.now) c.args.name (view_core_list c.args.args.now) c.args.«open» (view_writer c.args.self.now) (view_writer c.prefix.new.self) _ c.in-Some.text.now c.in_ok-on.ensures.able c.in_ok-on.ensures.behind c.in-Some.ensures c.take_constant.ensures c.in_ok-args.ensures.able

pub operand-returns-in_err-written-in-Value-clause-refused : goal.operand-returns-in_err-written-in-Value-clause-refused
operand-returns-in_err-written-in-Value-clause-refused t c refusal = ap (λ operand. can_word_operand (view_writer c.args.self.now) (view_operand operand)) c.in-Value.is ∙ handed_on c.from_residual.result _ c.from_residual.ensures.1 c.in_err-written-in-Value.ensures.refused refusal

pub operand-returns-in-Constant-clause-made : goal.operand-returns-in-Constant-clause-made
operand-returns-in-Constant-clause-made t c = rw (ap view_operand c.in-Constant.is) c.constant.ensures.made

pub operand-returns-then-is_bare-clause-made : goal.operand-returns-then-is_bare-clause-made
operand-returns-then-is_bare-clause-made t c = c.in_ok-written-in-Value.ensures.made ∙ bare_is (is_bare (view_writer c.args.self.now).at (view_writer c.args.self.now).taken (view_core c.in-Value.core)) _ (sym c.is_bare-is_bare.ensures ∙ c.if-is_bare.true) ∙ ap (λ operand. worded_operand (view_writer c.args.self.now) (view_operand operand)) (sym c.in-Value.is)

pub operand-returns-then-is_bare-clause-behind : goal.operand-returns-then-is_bare-clause-behind
operand-returns-then-is_bare-clause-behind t c = c.in_ok-written-in-Value.ensures.behind ∙ ap (λ operand. behind_operand (view_operand operand) (view_writer c.args.self.now)) (sym c.in-Value.is)

pub operand-returns-in_ok-parenthesized-in-Value-clause-made : goal.operand-returns-in_ok-parenthesized-in-Value-clause-made
operand-returns-in_ok-parenthesized-in-Value-clause-made t c = c.in_ok-parenthesized-in-Value.ensures ∙ ap in_parentheses c.in_ok-written-in-Value.ensures.made ∙ not_bare_is (is_bare (view_writer c.args.self.now).at (view_writer c.args.self.now).taken (view_core c.in-Value.core)) _ (sym c.is_bare-is_bare.ensures ∙ c.if-is_bare.false) ∙ ap (λ operand. worded_operand (view_writer c.args.self.now) (view_operand operand)) (sym c.in-Value.is)

pub operand-returns-in_ok-parenthesized-in-Value-clause-behind : goal.operand-returns-in_ok-parenthesized-in-Value-clause-behind
operand-returns-in_ok-parenthesized-in-Value-clause-behind t c = c.in_ok-written-in-Value.ensures.behind ∙ ap (λ operand. behind_operand (view_operand operand) (view_writer c.args.self.now)) (sym c.in-Value.is)

pub prefix-returns-in_err-written-clause-refused : goal.prefix-returns-in_err-written-clause-refused
prefix-returns-in_err-written-clause-refused t c refusal = handed_on c.from_residual.result _ c.from_residual.ensures.1 c.in_err-written.ensures.refused refusal

pub prefix-returns-then-is_prefix-clause-made : goal.prefix-returns-then-is_prefix-clause-made
prefix-returns-then-is_prefix-clause-made t c = bare_is (is_prefix (view_written c.in_ok-written.written).words) (view_written c.in_ok-written.written) (ap (λ exp. is_prefix (view_exp exp)) (sym c.deref.ensures) ∙ sym c.is_prefix.ensures ∙ c.if-is_prefix.true) ∙ ap as_prefix c.in_ok-written.ensures.made

pub prefix-returns-in_ok-parenthesized-clause-made : goal.prefix-returns-in_ok-parenthesized-clause-made
prefix-returns-in_ok-parenthesized-clause-made t c = c.in_ok-parenthesized.ensures ∙ not_bare_is (is_prefix (view_written c.in_ok-written.written).words) (view_written c.in_ok-written.written) (ap (λ exp. is_prefix (view_exp exp)) (sym c.deref.ensures) ∙ sym c.is_prefix.ensures ∙ c.if-is_prefix.false) ∙ ap as_prefix c.in_ok-written.ensures.made

pub short_argument-returns-in_err-items-in-Table-clause-refused : goal.short_argument-returns-in_err-items-in-Table-clause-refused
short_argument-returns-in_err-items-in-Table-clause-refused t c refusal = rw (ap view_core c.in-Table.is) (rw (view_items_list c.in-Table.items) (handed_on c.from_residual.result _ c.from_residual.ensures.1 c.in_err-items-in-Table.ensures.refused refusal))

pub short_argument-returns-in-Constant-clause-made : goal.short_argument-returns-in-Constant-clause-made
short_argument-returns-in-Constant-clause-made t c = rw (ap view_core c.in-Constant.is) c.short_text.ensures.made

pub short_argument-returns-in-Constant-clause-behind : goal.short_argument-returns-in-Constant-clause-behind
short_argument-returns-in-Constant-clause-behind t c = rw (ap view_core c.in-Constant.is) c.short_text.ensures.behind

pub short_argument-returns-in-Constant-clause-refused : goal.short_argument-returns-in-Constant-clause-refused
short_argument-returns-in-Constant-clause-refused t c refusal = rw (ap view_core c.in-Constant.is) (c.short_text.ensures.refused refusal)

pub short_argument-returns-in_ok-items-in-Table-clause-made : goal.short_argument-returns-in_ok-items-in-Table-clause-made
short_argument-returns-in_ok-items-in-Table-clause-made t c = rw (ap view_core c.in-Table.is) (rw (view_items_list c.in-Table.items) (ap Some (c.tabled.ensures ∙ ap as_table_argument c.in_ok-items-in-Table.ensures.made)))

pub short_argument-returns-in_ok-items-in-Table-clause-behind : goal.short_argument-returns-in_ok-items-in-Table-clause-behind
short_argument-returns-in_ok-items-in-Table-clause-behind t c = rw (ap view_core c.in-Table.is) (rw (view_items_list c.in-Table.items) c.in_ok-items-in-Table.ensures.behind)

pub short_argument-returns-in_ok-items-in-Table-clause-able : goal.short_argument-returns-in_ok-items-in-Table-clause-able
short_argument-returns-in_ok-items-in-Table-clause-able t c = rw (ap view_core c.in-Table.is) (rw (view_items_list c.in-Table.items) c.in_ok-items-in-Table.ensures.able)

pub short_argument-returns-in_default : goal.short_argument-returns-in_default
short_argument-returns-in_default t c = record {
  made = no_short_form c.args.only.now (view_writer c.args.self.now) c.in_default.not-Constant c.in_default.not-Table;
  behind = not_short (worded_only (view_writer c.args.self.now) (view_core c.args.only.now)) (view_core c.args.only.now) (view_writer c.args.self.now) (no_short_form c.args.only.now (view_writer c.args.self.now) c.in_default.not-Constant c.in_default.not-Table);
  refused = λ refusal. cc;
  able = tt;
}

pub short_arguments-returns-then-open-clause-made : goal.short_arguments-returns-then-open-clause-made
short_arguments-returns-then-open-clause-made t c = none_open (view_writer c.args.self.now) (values_of c.args.args.now) c.args.«open» c.if-open.true

pub short_arguments-returns-then-open-clause-behind : goal.short_arguments-returns-then-open-clause-behind
short_arguments-returns-then-open-clause-behind t c = sym (behind_none (worded_short (view_writer c.args.self.now) (values_of c.args.args.now) c.args.«open») (values_of c.args.args.now) (view_writer c.args.self.now) (none_open (view_writer c.args.self.now) (values_of c.args.args.now) c.args.«open» c.if-open.true))

pub short_arguments-returns-then-not-self-clause-made : goal.short_arguments-returns-then-not-self-clause-made
unfolding view_writer
short_arguments-returns-then-not-self-clause-made t c = none_long (view_writer c.args.self.now) (values_of c.args.args.now) c.args.«open» c.if-not-self.true

pub short_arguments-returns-then-not-self-clause-behind : goal.short_arguments-returns-then-not-self-clause-behind
unfolding view_writer
short_arguments-returns-then-not-self-clause-behind t c = sym (behind_none (worded_short (view_writer c.args.self.now) (values_of c.args.args.now) c.args.«open») (values_of c.args.args.now) (view_writer c.args.self.now) (none_long (view_writer c.args.self.now) (values_of c.args.args.now) c.args.«open» c.if-not-self.true))

pub short_arguments-returns-clause-made : goal.short_arguments-returns-clause-made
unfolding view_writer
short_arguments-returns-clause-made t c = subst (λ form. IfOk c.short_argument.result (λ written. option_map view_written_args written ≡ form)) (one_argument (view_writer c.args.self.now) (view_core c.index-args-0.result) c.args.«open» c.if-not-self.false c.if-open.false ∙ ap (λ those. worded_short (view_writer c.args.self.now) those c.args.«open») (sym (only_one c.args.args.now c.index-args-0.result c.if-args-ne1.false c.index-args-0.is))) c.short_argument.ensures.made

pub short_arguments-returns-clause-behind : goal.short_arguments-returns-clause-behind
unfolding view_writer
short_arguments-returns-clause-behind t c = subst (λ standing. OnOk c.short_argument.result (view_writer c.short_argument.new.self ≡ standing)) (short_behind (worded_only (view_writer c.args.self.now) (view_core c.index-args-0.result)) (view_core c.index-args-0.result) (view_writer c.args.self.now) ∙ ap (λ form. behind_arguments form (and_value (view_core c.index-args-0.result) no_values) (view_writer c.args.self.now)) (one_argument (view_writer c.args.self.now) (view_core c.index-args-0.result) c.args.«open» c.if-not-self.false c.if-open.false ∙ ap (λ those. worded_short (view_writer c.args.self.now) those c.args.«open») (sym (only_one c.args.args.now c.index-args-0.result c.if-args-ne1.false c.index-args-0.is))) ∙ ap (λ those. behind_arguments (worded_short (view_writer c.args.self.now) (values_of c.args.args.now) c.args.«open») those (view_writer c.args.self.now)) (sym (only_one c.args.args.now c.index-args-0.result c.if-args-ne1.false c.index-args-0.is))) c.short_argument.ensures.behind

pub short_arguments-returns-clause-refused : goal.short_arguments-returns-clause-refused
short_arguments-returns-clause-refused t c refusal = ap (can_word_values (view_writer c.args.self.now)) (only_one c.args.args.now c.index-args-0.result c.if-args-ne1.false c.index-args-0.is) ∙ and_left _ _ (c.short_argument.ensures.refused refusal)

pub short_arguments-returns-clause-able : goal.short_arguments-returns-clause-able
short_arguments-returns-clause-able t c = subst (λ can. IfOk c.short_argument.result (λ written. OnSome written (can ≡ true))) (can_only c.args.args.now c.index-args-0.result (view_writer c.args.self.now) c.if-args-ne1.false c.index-args-0.is) c.short_argument.ensures.able

pub table-returns-in_err-items-clause-refused : goal.table-returns-in_err-items-clause-refused
table-returns-in_err-items-clause-refused t c refusal = handed_on c.from_residual.result _ c.from_residual.ensures.1 c.in_err-items.ensures.refused refusal

pub table-returns-clause-made : goal.table-returns-clause-made
table-returns-clause-made t c = c.in_ok-constructor.ensures ∙ ap with_items c.in_ok-items.ensures.made

pub table-returns-clause-behind : goal.table-returns-clause-behind
table-returns-clause-behind t c = c.in_ok-items.ensures.behind

pub unary-returns-in_err-of-clause-refused : goal.unary-returns-in_err-of-clause-refused
unary-returns-in_err-of-clause-refused t c refusal = handed_on c.from_residual.result _ c.from_residual.ensures.1 c.in_err-of.ensures.refused refusal

pub unary-returns-clause-made : goal.unary-returns-clause-made
unary-returns-clause-made t c = unary_made c.args.op (view_core c.args.of.now) (view_writer c.args.self.now) _ _ c.in_ok-of.ensures.made c.in_ok-applied.ensures

pub value-returns-in_err-written-clause-refused : goal.value-returns-in_err-written-clause-refused
value-returns-in_err-written-clause-refused t c refusal = handed_on c.from_residual.result _ c.from_residual.ensures.1 c.in_err-written.ensures.refused refusal

pub value-returns-in_ok-parenthesized-clause-made : goal.value-returns-in_ok-parenthesized-clause-made
value-returns-in_ok-parenthesized-clause-made t c = c.in_ok-parenthesized.ensures ∙ ap in_parentheses c.in_ok-written.ensures.made ∙ one_is c.args.only_one (is_multiple (view_core c.args.core.now)) _ c.if-only_one.true (sym c.is_multiple.ensures ∙ c.if-is_multiple.true)

pub value-returns-else-only_one-clause-made : goal.value-returns-else-only_one-clause-made
value-returns-else-only_one-clause-made t c = elim c.else-only_one.branch [ value-else-only_one-via-then-only_one+else-is_multiple w ↦ c.in_ok-written.ensures.made ∙ single_is c.args.only_one (is_multiple (view_core c.args.core.now)) _ (sym w.is_multiple.ensures ∙ w.if-is_multiple.false) | value-else-only_one-via-else-only_one w ↦ c.in_ok-written.ensures.made ∙ all_is c.args.only_one (is_multiple (view_core c.args.core.now)) _ w.if-only_one.false ]

pub with_key-returns-in-Some-clause-made : goal.with_key-returns-in-Some-clause-made
unfolding view_writer
with_key-returns-in-Some-clause-made t c = field_made (view_operand c.args.key.now) (view_writer c.args.self.now) (view_written c.args.on) _ c.in-Some.name.now c.in-Some.ensures.name c.in_ok-field.ensures

pub with_key-returns-in-Some-clause-behind : goal.with_key-returns-in-Some-clause-behind
with_key-returns-in-Some-clause-behind t c = (c.take_constant.ensures ∙ behind_field (view_operand c.args.key.now) c.in-Some.number (view_writer c.args.self.now) c.in-Some.ensures.number)

pub with_key-returns-in-Some-clause-able : goal.with_key-returns-in-Some-clause-able
unfolding view_writer
with_key-returns-in-Some-clause-able t c = field_can (view_operand c.args.key.now) (view_writer c.args.self.now) c.in-Some.name.now c.in-Some.ensures.name

pub with_key-returns-in_err-key-clause-refused : goal.with_key-returns-in_err-key-clause-refused
with_key-returns-in_err-key-clause-refused t c refusal = handed_on c.from_residual-in_err-key.result _ c.from_residual-in_err-key.ensures.1 c.in_err-key.ensures.refused refusal

pub with_key-returns-clause-made : goal.with_key-returns-clause-made
unfolding view_writer
with_key-returns-clause-made t c = index_made (view_operand c.args.key.now) (view_writer c.args.self.now) (view_written c.args.on) (view_written c.in_ok-key.key) _ c.in_default.ensures.name c.in_ok-key.ensures.made c.in_ok-index.ensures

pub with_key-returns-clause-behind : goal.with_key-returns-clause-behind
with_key-returns-clause-behind t c = c.in_ok-key.ensures.behind

pub short_arguments-returns-then-args-ne1-clause-made : goal.short_arguments-returns-then-args-ne1-clause-made
short_arguments-returns-then-args-ne1-clause-made t c = none_not_one (view_writer c.args.self.now) c.args.args.now c.args.«open» c.if-args-ne1.true

pub short_arguments-returns-then-args-ne1-clause-behind : goal.short_arguments-returns-then-args-ne1-clause-behind
short_arguments-returns-then-args-ne1-clause-behind t c = sym (behind_none (worded_short (view_writer c.args.self.now) (values_of c.args.args.now) c.args.«open») (values_of c.args.args.now) (view_writer c.args.self.now) (none_not_one (view_writer c.args.self.now) c.args.args.now c.args.«open» c.if-args-ne1.true))
