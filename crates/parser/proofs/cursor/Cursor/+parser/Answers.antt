use Rattle.std.proofs.Common.{rules, refl, sym, subst, ◌∙◌, arith, Some, None}
use Rattle.lua_tree.specs.View.{view_exp, view_exps, view_items}
use Rattle.parser.specs.Classes.{Start, Suffix}
use Rattle.lua_tree.specs.Syntax.{branch, no_branches}
use Rattle.lua_tree.specs.WellFormed.{is_call, is_target}
use Rattle.parser.specs.Program.{call, give, branches}
use Rattle.parser.specs.Loops.{expressions_with, fields_with, if_with}
use Rattle.parser.specs.Finds.{Leads, found}
use Rattle.parser.proofs.Steps.{finds, refuses, lead_give, lead_answer, lead_stop, lead_look, lead_skip, lead_skip_not, lead_want, lead_want_not, lead_yes, lead_no, lead_accept, lead_leave, lead_call, lead_call_not, lead_then, lead_else, lead_become, lead_open, lead_names_not}
use Rattle.parser.proofs.Looks.{lead_statement, lead_whole, lead_climb, lead_simple, lead_prefix, lead_suffix, lead_field, lead_text, power_above, power_below}
use Rattle.parser.proofs.LoopSteps.{expression_turn, expressions_end, expressions_depth, statement_turn, statement_last, block_done, statements_depth, field_turn, field_last, fields_end, fields_depth, view_add, target_turn, target_last, target_halts, no_target, branch_turn, lead_path, lead_locals, lead_generic, infix_height, arm_view, branches_end, branches_depth}
use Rattle.parser.proofs.Passing.{handed_on, body_made, cond_made, inside_made, tested}
use Rattle.parser.proofs.cursor.Cursor.+parser.Goals as goal

pub arguments-returns-then-not-is_on_line-clause-refused : goal.arguments-returns-then-not-is_on_line-clause-refused
arguments-returns-then-not-is_on_line-clause-refused t c = refuses (lead_yes c.is.ensures c.if-is.true (lead_look (lead_else _ _ _ (sym c.is_on_line.ensures ∙ c.if-not-is_on_line.true) lead_stop)))

pub arguments-returns-in_err-take-clause-refused : goal.arguments-returns-in_err-take-clause-refused
arguments-returns-in_err-take-clause-refused t c = handed_on _ _ _ c.from_residual.ensures.1 (refuses (lead_yes c.is.ensures c.if-is.true (lead_look (lead_then _ _ _ (sym c.is_on_line.ensures ∙ c.if-not-is_on_line.false) (lead_skip_not c.in_err-take.ensures.not_taken refl)))))

pub arguments-returns-in_err-list-clause-refused : goal.arguments-returns-in_err-list-clause-refused
arguments-returns-in_err-list-clause-refused t c = handed_on _ _ _ c.from_residual-in_err-list.ensures.1 (refuses (lead_yes c.is.ensures c.if-is.true (lead_look (lead_then _ _ _ (sym c.is_on_line.ensures ∙ c.if-not-is_on_line.false) (lead_skip c.in_ok-take.ensures.taken refl (lead_call_not c.in_err-list.ensures.refused))))))

pub arguments-returns-in_err-want-clause-refused : goal.arguments-returns-in_err-want-clause-refused
arguments-returns-in_err-want-clause-refused t c = handed_on _ _ _ c.from_residual-in_err-want.ensures.1 (refuses (lead_yes c.is.ensures c.if-is.true (lead_look (lead_then _ _ _ (sym c.is_on_line.ensures ∙ c.if-not-is_on_line.false) (lead_skip c.in_ok-take.ensures.taken refl (lead_call c.in_ok-list.ensures.found (lead_want_not c.in_err-want.ensures.not_taken)))))))

pub arguments-returns-then-is-clause-found : goal.arguments-returns-then-is-clause-found
arguments-returns-then-is-clause-found t c = finds (lead_yes c.is.ensures c.if-is.true (lead_look (lead_then _ _ _ (sym c.is_on_line.ensures ∙ c.if-not-is_on_line.false) (lead_skip c.in_ok-take.ensures.taken refl (lead_call c.in_ok-list.ensures.found (lead_want c.in_ok-want.ensures.taken lead_give))))))

pub arguments-returns-in_err-take-2-clause-refused : goal.arguments-returns-in_err-take-2-clause-refused
arguments-returns-in_err-take-2-clause-refused t c = handed_on _ _ _ c.from_residual-in_err-take-2.ensures.1 (refuses (lead_no c.is.ensures c.if-is.false (lead_yes c.is-2.ensures c.if-is-2.true (lead_skip_not c.in_err-take-2.ensures.not_taken refl))))

pub arguments-returns-in_err-items-clause-refused : goal.arguments-returns-in_err-items-clause-refused
arguments-returns-in_err-items-clause-refused t c = handed_on _ _ _ c.from_residual-in_err-items.ensures.1 (refuses (lead_no c.is.ensures c.if-is.false (lead_yes c.is-2.ensures c.if-is-2.true (lead_skip c.in_ok-take-2.ensures.taken refl (lead_call_not c.in_err-items.ensures.refused)))))

pub arguments-returns-in_err-want-2-clause-refused : goal.arguments-returns-in_err-want-2-clause-refused
arguments-returns-in_err-want-2-clause-refused t c = handed_on _ _ _ c.from_residual-in_err-want-2.ensures.1 (refuses (lead_no c.is.ensures c.if-is.false (lead_yes c.is-2.ensures c.if-is-2.true (lead_skip c.in_ok-take-2.ensures.taken refl (lead_call c.in_ok-items.ensures.found (lead_want_not c.in_err-want-2.ensures.not_taken))))))

pub arguments-returns-then-is-2-clause-found : goal.arguments-returns-then-is-2-clause-found
arguments-returns-then-is-2-clause-found t c = finds (lead_no c.is.ensures c.if-is.false (lead_yes c.is-2.ensures c.if-is-2.true (lead_skip c.in_ok-take-2.ensures.taken refl (lead_call c.in_ok-items.ensures.found (lead_want c.in_ok-want-2.ensures.taken lead_give)))))

pub arguments-returns-in_default-clause-refused : goal.arguments-returns-in_default-clause-refused
arguments-returns-in_default-clause-refused t c = refuses (lead_no c.is.ensures c.if-is.false (lead_no c.is-2.ensures c.if-is-2.false (lead_text _ c.in_default.ensures lead_stop)))

pub arguments-returns-in_err-take-3-clause-refused : goal.arguments-returns-in_err-take-3-clause-refused
arguments-returns-in_err-take-3-clause-refused t c = handed_on _ _ _ c.from_residual-in_err-take-3.ensures.1 (refuses (lead_no c.is.ensures c.if-is.false (lead_no c.is-2.ensures c.if-is-2.false (lead_text _ c.in-Some.ensures (lead_skip_not c.in_err-take-3.ensures.not_taken refl)))))

pub arguments-returns-clause-found : goal.arguments-returns-clause-found
arguments-returns-clause-found t c = rw c.in_ok-text.ensures (finds (lead_no c.is.ensures c.if-is.false (lead_no c.is-2.ensures c.if-is-2.false (lead_text _ c.in-Some.ensures (lead_skip c.in_ok-take-3.ensures.taken refl lead_give)))))

pub arm-returns-in_err-cond-clause-refused : goal.arm-returns-in_err-cond-clause-refused
arm-returns-in_err-cond-clause-refused t c = handed_on _ _ _ c.from_residual.ensures.1 (record { leads = λ answer then. lead_call_not c.in_err-cond.ensures.refused })

pub arm-returns-in_err-want-clause-refused : goal.arm-returns-in_err-want-clause-refused
arm-returns-in_err-want-clause-refused t c = handed_on _ _ _ c.from_residual-in_err-want.ensures.1 (record { leads = λ answer then. lead_call c.in_ok-cond.ensures.found (lead_want_not c.in_err-want.ensures.not_taken) })

pub arm-returns-in_err-body-clause-refused : goal.arm-returns-in_err-body-clause-refused
arm-returns-in_err-body-clause-refused t c = handed_on _ _ _ c.from_residual-in_err-body.ensures.1 (record { leads = λ answer then. lead_call c.in_ok-cond.ensures.found (lead_want c.in_ok-want.ensures.taken (lead_call_not c.in_err-body.ensures.refused)) })

pub arm-returns-clause-found : goal.arm-returns-clause-found
arm-returns-clause-found t c = record { leads = λ answer then outcome l. lead_call c.in_ok-cond.ensures.found (lead_want c.in_ok-want.ensures.taken (lead_call c.in_ok-body.ensures.found (rw (cond_made, inside_made, c.into_inner.ensures) at l))) }

pub block-loop-alloc-init : goal.block-loop-alloc-init
block-loop-alloc-init t c = record { leads = λ outcome l. lead_open (rw c.new.ensures.view at l); height = rw c.new.ensures.view refl; low = search rules; shorter = search rules }

pub block-returns-in_err-statement-clause-refused : goal.block-returns-in_err-statement-clause-refused
block-returns-in_err-statement-clause-refused t c = handed_on _ _ _ c.from_residual.ensures.1 (refuses (c.loop-alloc.invariant.leads _ (lead_call_not (refuses (lead_look (lead_else _ _ _ (sym c.is_block_end.ensures ∙ c.loop-alloc-test.true) (lead_call_not c.in_err-statement.ensures.refused)))))))

pub block-loop-alloc-preserved : goal.block-loop-alloc-preserved
block-loop-alloc-preserved t c = record { leads = λ outcome l. c.loop-alloc.invariant.leads outcome (statement_turn _ c.is_block_end.ensures c.loop-alloc-test.true c.in_ok-statement.ensures.found c.semicolon-semi.ensures.found (sym c.ends_block-last.ensures ∙ c.if-last.false) (rw (c.in_ok-push.ensures.view, c.next_line-line.ensures) at l)); height = rw (c.in_ok-push.ensures.view, statements_depth, ← c.in_ok-statement.ensures.height, ← c.loop-alloc.invariant.height) c.max.ensures; low = search rules; shorter = search rules }

pub block-returns-clause-found : goal.block-returns-clause-found
block-returns-clause-found t c = finds (c.loop-alloc.invariant.leads _ (block_done _ c.is_block_end.ensures c.loop-alloc-test.false))

pub body-returns-in_err-want-clause-refused : goal.body-returns-in_err-want-clause-refused
body-returns-in_err-want-clause-refused t c = handed_on _ _ _ c.from_residual.ensures.1 (refuses (lead_want_not c.in_err-want.ensures.not_taken))

pub body-returns-in_err-params-clause-refused : goal.body-returns-in_err-params-clause-refused
body-returns-in_err-params-clause-refused t c = handed_on _ _ _ c.from_residual-in_err-params.ensures.1 (refuses (lead_want c.in_ok-want.ensures.taken (lead_call_not c.in_err-params.ensures.refused)))

pub body-returns-in_err-want-2-clause-refused : goal.body-returns-in_err-want-2-clause-refused
body-returns-in_err-want-2-clause-refused t c = handed_on _ _ _ c.from_residual-in_err-want-2.ensures.1 (refuses (lead_want c.in_ok-want.ensures.taken (lead_call c.in_ok-params.ensures.found (lead_want_not c.in_err-want-2.ensures.not_taken))))

pub body-returns-in_err-block-clause-refused : goal.body-returns-in_err-block-clause-refused
body-returns-in_err-block-clause-refused t c = handed_on _ _ _ c.from_residual-in_err-block.ensures.1 (refuses (lead_want c.in_ok-want.ensures.taken (lead_call c.in_ok-params.ensures.found (lead_want c.in_ok-want-2.ensures.taken (lead_call_not c.in_err-block.ensures.refused)))))

pub body-returns-in_err-want-3-clause-refused : goal.body-returns-in_err-want-3-clause-refused
body-returns-in_err-want-3-clause-refused t c = handed_on _ _ _ c.from_residual-in_err-want-3.ensures.1 (refuses (lead_want c.in_ok-want.ensures.taken (lead_call c.in_ok-params.ensures.found (lead_want c.in_ok-want-2.ensures.taken (lead_call c.in_ok-block.ensures.found (lead_want_not c.in_err-want-3.ensures.not_taken))))))

pub body-returns-clause-found : goal.body-returns-clause-found
body-returns-clause-found t c = rw body_made (finds (lead_want c.in_ok-want.ensures.taken (lead_call c.in_ok-params.ensures.found (lead_want c.in_ok-want-2.ensures.taken (lead_call c.in_ok-block.ensures.found (lead_want c.in_ok-want-3.ensures.taken (lead_look lead_give)))))))

pub call_of-returns-in_err-args-clause-refused : goal.call_of-returns-in_err-args-clause-refused
call_of-returns-in_err-args-clause-refused t c = handed_on _ _ _ c.from_residual.ensures.1 (refuses (lead_look (lead_call_not (rw (c.needed_behind.ensures, c.call_spare-spare.ensures, c.requires.height) at c.in_err-args.ensures.refused))))

pub call_of-returns-clause-found : goal.call_of-returns-clause-found
call_of-returns-clause-found t c = rw (c.in_ok-call.ensures, c.next_line-line.ensures) (finds (lead_look (lead_call (rw (c.needed_behind.ensures, c.call_spare-spare.ensures, c.requires.height) at c.in_ok-args.ensures.found) lead_give)))

pub climb-returns-in_err-take-clause-refused : goal.climb-returns-in_err-take-clause-refused
climb-returns-in_err-take-clause-refused t c = handed_on _ _ _ c.from_residual.ensures.1 (refuses (c.loop-op.invariant.leads _ (lead_climb c.args.depth c.args.limit c.args.start _ (Some c.in-Some.op) c.in-Some.ensures (lead_then _ _ _ (power_above c.if-left_power-limit.false c.left_power.ensures) (lead_skip_not c.in_err-take.ensures.not_taken (rw (c.needed_behind.ensures, c.loop-op.invariant.height) refl))))))

pub climb-returns-in_err-right-clause-refused : goal.climb-returns-in_err-right-clause-refused
climb-returns-in_err-right-clause-refused t c = handed_on _ _ _ c.from_residual-in_err-right.ensures.1 (refuses (c.loop-op.invariant.leads _ (lead_climb c.args.depth c.args.limit c.args.start _ (Some c.in-Some.op) c.in-Some.ensures (lead_then _ _ _ (power_above c.if-left_power-limit.false c.left_power.ensures) (lead_skip c.in_ok-take.ensures.taken (rw (c.needed_behind.ensures, c.loop-op.invariant.height) refl) (lead_call_not (rw c.right_power.ensures at c.in_err-right.ensures.refused)))))))

pub climb-loop-op-preserved : goal.climb-loop-op-preserved
climb-loop-op-preserved t c = record { leads = λ outcome l. c.loop-op.invariant.leads outcome (lead_climb c.args.depth c.args.limit c.args.start _ (Some c.in-Some.op) c.in-Some.ensures (lead_then _ _ _ (power_above c.if-left_power-limit.false c.left_power.ensures) (lead_skip c.in_ok-take.ensures.taken (rw (c.needed_behind.ensures, c.loop-op.invariant.height) refl) (lead_call (rw c.right_power.ensures at c.in_ok-right.ensures.found) (lead_become (rw (c.in_ok-operation.ensures, c.next_line-line.ensures) at l)))))); height = rw c.in_ok-operation.ensures (infix_height _ _ c.in-Some.op _ _ _ _ _ c.loop-op.invariant.height c.in_ok-right.ensures.height c.max.ensures); low = search rules; shorter = search rules }

pub climb-returns-clause-found : goal.climb-returns-clause-found
climb-returns-clause-found t c = finds (c.loop-op.invariant.leads _ (lead_climb c.args.depth c.args.limit c.args.start _ None c.in_default.ensures lead_give))

pub do_statement-returns-in_err-take-clause-refused : goal.do_statement-returns-in_err-take-clause-refused
do_statement-returns-in_err-take-clause-refused t c = handed_on _ _ _ c.from_residual.ensures.1 (refuses (lead_skip_not c.in_err-take.ensures.not_taken refl))

pub do_statement-returns-in_err-body-clause-refused : goal.do_statement-returns-in_err-body-clause-refused
do_statement-returns-in_err-body-clause-refused t c = handed_on _ _ _ c.from_residual-in_err-body.ensures.1 (refuses (lead_skip c.in_ok-take.ensures.taken refl (lead_call_not c.in_err-body.ensures.refused)))

pub do_statement-returns-in_err-want-clause-refused : goal.do_statement-returns-in_err-want-clause-refused
do_statement-returns-in_err-want-clause-refused t c = handed_on _ _ _ c.from_residual-in_err-want.ensures.1 (refuses (lead_skip c.in_ok-take.ensures.taken refl (lead_call c.in_ok-body.ensures.found (lead_want_not c.in_err-want.ensures.not_taken))))

pub do_statement-returns-clause-found : goal.do_statement-returns-clause-found
do_statement-returns-clause-found t c = finds (lead_skip c.in_ok-take.ensures.taken refl (lead_call c.in_ok-body.ensures.found (lead_want c.in_ok-want.ensures.taken lead_give)))

pub expression_statement-returns-in_err-first-clause-refused : goal.expression_statement-returns-in_err-first-clause-refused
expression_statement-returns-in_err-first-clause-refused t c = handed_on _ _ _ c.from_residual.ensures.1 (refuses (lead_call_not c.in_err-first.ensures.refused))

pub expression_statement-returns-then-is_call-clause-found : goal.expression_statement-returns-then-is_call-clause-found
expression_statement-returns-then-is_call-clause-found t c = rw c.into_inner.ensures (finds (lead_call c.in_ok-first.ensures.found (lead_then _ _ _ (tested (λ exp. is_call (view_exp exp)) c.deref.ensures c.is_call.ensures c.if-is_call.true) lead_give)))

pub expression_statement-returns-in_err-targets-clause-refused : goal.expression_statement-returns-in_err-targets-clause-refused
expression_statement-returns-in_err-targets-clause-refused t c = handed_on _ _ _ c.from_residual-in_err-targets.ensures.1 (refuses (lead_call c.in_ok-first.ensures.found (lead_else _ _ _ (tested (λ exp. is_call (view_exp exp)) c.deref.ensures c.is_call.ensures c.if-is_call.false) (lead_call_not c.in_err-targets.ensures.refused))))

pub expression_statement-returns-in_err-want-clause-refused : goal.expression_statement-returns-in_err-want-clause-refused
expression_statement-returns-in_err-want-clause-refused t c = handed_on _ _ _ c.from_residual-in_err-want.ensures.1 (refuses (lead_call c.in_ok-first.ensures.found (lead_else _ _ _ (tested (λ exp. is_call (view_exp exp)) c.deref.ensures c.is_call.ensures c.if-is_call.false) (lead_call c.in_ok-targets.ensures.found (lead_want_not c.in_err-want.ensures.not_taken)))))

pub expression_statement-returns-in_err-exps-clause-refused : goal.expression_statement-returns-in_err-exps-clause-refused
expression_statement-returns-in_err-exps-clause-refused t c = handed_on _ _ _ c.from_residual-in_err-exps.ensures.1 (refuses (lead_call c.in_ok-first.ensures.found (lead_else _ _ _ (tested (λ exp. is_call (view_exp exp)) c.deref.ensures c.is_call.ensures c.if-is_call.false) (lead_call c.in_ok-targets.ensures.found (lead_want c.in_ok-want.ensures.taken (lead_call_not c.in_err-exps.ensures.refused))))))

pub expression_statement-returns-clause-found : goal.expression_statement-returns-clause-found
expression_statement-returns-clause-found t c = finds (lead_call c.in_ok-first.ensures.found (lead_else _ _ _ (tested (λ exp. is_call (view_exp exp)) c.deref.ensures c.is_call.ensures c.if-is_call.false) (lead_call c.in_ok-targets.ensures.found (lead_want c.in_ok-want.ensures.taken (lead_call c.in_ok-exps.ensures.found lead_give)))))

pub expressions-returns-in_err-first-clause-refused : goal.expressions-returns-in_err-first-clause-refused
expressions-returns-in_err-first-clause-refused t c = handed_on _ _ _ c.from_residual.ensures.1 (refuses (lead_call_not c.in_err-first.ensures.refused))

pub expressions-loop-alloc-init : goal.expressions-loop-alloc-init
expressions-loop-alloc-init t c = record { leads = λ outcome l. lead_call c.in_ok-first.ensures.found (rw (c.in_ok-push.ensures.view, c.new.ensures.view, c.into_inner.ensures) at l); height = rw (c.in_ok-push.ensures.view, c.new.ensures.view, c.into_inner.ensures) (let h = c.in_ok-first.ensures.height in omega arith); low = search rules; shorter = search rules }

pub expressions-returns-in_err-next-clause-refused : goal.expressions-returns-in_err-next-clause-refused
expressions-returns-in_err-next-clause-refused t c = handed_on _ _ _ c.from_residual-in_err-next.ensures.1 (refuses (c.loop-alloc.invariant.leads _ (lead_call_not (refuses (lead_yes c.is.ensures c.loop-alloc-test.true (lead_skip c.in_ok-take.ensures.taken refl (lead_call_not c.in_err-next.ensures.refused)))))))

pub expressions-loop-alloc-preserved : goal.expressions-loop-alloc-preserved
expressions-loop-alloc-preserved t c = record { leads = λ outcome l. c.loop-alloc.invariant.leads outcome (expression_turn _ c.is.ensures c.loop-alloc-test.true c.in_ok-take.ensures.taken refl c.in_ok-next.ensures.found (rw (c.in_ok-push-2.ensures.view, c.into_inner-in-loop-alloc.ensures) at l)); height = rw (c.in_ok-push-2.ensures.view, c.into_inner-in-loop-alloc.ensures, expressions_depth, ← c.in_ok-next.ensures.height, ← c.loop-alloc.invariant.height) c.max.ensures; low = search rules; shorter = search rules }

pub expressions-returns-clause-found : goal.expressions-returns-clause-found
expressions-returns-clause-found t c = finds (c.loop-alloc.invariant.leads _ (subst (λ x. Leads (expressions_with c.args.depth (view_exps c.loop-alloc.list.part)) c.loop-alloc.self.line c.loop-alloc.self.rest.now (found x c.loop-alloc.self.line c.loop-alloc.self.rest.now)) (expressions_end _) (lead_call (finds (lead_no c.is.ensures c.loop-alloc-test.false lead_give)) lead_give)))

pub field-returns-in_err-take-clause-refused : goal.field-returns-in_err-take-clause-refused
field-returns-in_err-take-clause-refused t c = handed_on _ _ _ c.from_residual.ensures.1 (refuses (lead_field (Some c.in-Some.name.now) c.in-Some.ensures (lead_skip_not c.in_err-take.ensures.not_taken refl)))

pub field-returns-in-Some-clause-found : goal.field-returns-in-Some-clause-found
field-returns-in-Some-clause-found t c = finds (lead_field (Some c.in-Some.name.now) c.in-Some.ensures (lead_skip c.in_ok-take.ensures.taken refl (lead_call (rw (c.in_ok-name.ensures, c.next_line-line.ensures) at c.in_ok-item.ensures.found) lead_give)))

pub field-returns-then-is-clause-found : goal.field-returns-then-is-clause-found
field-returns-then-is-clause-found t c = finds (lead_field None c.in_default.ensures (lead_yes c.is.ensures c.if-is.true (lead_call c.in_ok-item-2.ensures.found lead_give)))

pub field-returns-in_err-value-clause-refused : goal.field-returns-in_err-value-clause-refused
field-returns-in_err-value-clause-refused t c = handed_on _ _ _ c.from_residual-in_err-value.ensures.1 (refuses (lead_field None c.in_default.ensures (lead_no c.is.ensures c.if-is.false (lead_call_not c.in_err-value.ensures.refused))))

pub field-returns-clause-found : goal.field-returns-clause-found
field-returns-clause-found t c = rw c.into_inner.ensures (finds (lead_field None c.in_default.ensures (lead_no c.is.ensures c.if-is.false (lead_call c.in_ok-value.ensures.found lead_give))))

pub fields-loop-alloc-init : goal.fields-loop-alloc-init
fields-loop-alloc-init t c = record { leads = λ outcome l. lead_open (rw c.new.ensures.view at l); height = rw c.new.ensures.view refl; low = search rules; shorter = search rules }

pub fields-returns-in_err-item-clause-refused : goal.fields-returns-in_err-item-clause-refused
fields-returns-in_err-item-clause-refused t c = handed_on _ _ _ c.from_residual.ensures.1 (refuses (c.loop-alloc.invariant.leads _ (lead_call_not (refuses (lead_no c.is.ensures c.loop-alloc-test.true (lead_call_not c.in_err-item.ensures.refused))))))

pub fields-loop-alloc-preserved : goal.fields-loop-alloc-preserved
fields-loop-alloc-preserved t c = record { leads = λ outcome l. c.loop-alloc.invariant.leads outcome (field_turn _ c.is.ensures c.loop-alloc-test.true c.in_ok-item.ensures.found c.separator-sep.ensures.found c.in_default.not-Missing (rw (c.in_ok-push.ensures.view, view_add) at l)); height = rw (c.in_ok-push.ensures.view, view_add, fields_depth, ← c.in_ok-item.ensures.height, ← c.loop-alloc.invariant.height) c.max.ensures; low = search rules; shorter = search rules }

pub fields-returns-clause-found : goal.fields-returns-clause-found
fields-returns-clause-found t c = finds (c.loop-alloc.invariant.leads _ (subst (λ x. Leads (fields_with c.args.depth (view_items c.loop-alloc.items.part)) c.loop-alloc.self.line c.loop-alloc.self.rest.now (found x c.loop-alloc.self.line c.loop-alloc.self.rest.now)) (fields_end _) (lead_call (finds (lead_yes c.is.ensures c.loop-alloc-test.false lead_give)) lead_give)))

pub for_statement-returns-in_err-take-clause-refused : goal.for_statement-returns-in_err-take-clause-refused
for_statement-returns-in_err-take-clause-refused t c = handed_on _ _ _ c.from_residual.ensures.1 (refuses (lead_skip_not c.in_err-take.ensures.not_taken refl))

pub for_statement-returns-in_err-name-clause-refused : goal.for_statement-returns-in_err-name-clause-refused
for_statement-returns-in_err-name-clause-refused t c = handed_on _ _ _ c.from_residual-in_err-name.ensures.1 (refuses (lead_skip c.in_ok-take.ensures.taken refl (lead_call_not c.in_err-name.ensures.refused)))

pub function_statement-returns-in_err-take-clause-refused : goal.function_statement-returns-in_err-take-clause-refused
function_statement-returns-in_err-take-clause-refused t c = handed_on _ _ _ c.from_residual.ensures.1 (refuses (lead_look (lead_skip_not c.in_err-take.ensures.not_taken refl)))

pub function_statement-returns-in_err-name-clause-refused : goal.function_statement-returns-in_err-name-clause-refused
function_statement-returns-in_err-name-clause-refused t c = handed_on _ _ _ c.from_residual-in_err-name.ensures.1 (refuses (lead_look (lead_skip c.in_ok-take.ensures.taken refl (lead_call_not c.in_err-name.ensures.refused))))

pub function_statement-returns-in_err-path-clause-refused : goal.function_statement-returns-in_err-path-clause-refused
function_statement-returns-in_err-path-clause-refused t c = handed_on _ _ _ c.from_residual-in_err-path.ensures.1 (refuses (lead_look (lead_skip c.in_ok-take.ensures.taken refl (lead_call c.in_ok-name.ensures.found (lead_names_not c.in_err-path.ensures.refused)))))

pub function_statement-returns-in_err-method-clause-refused : goal.function_statement-returns-in_err-method-clause-refused
function_statement-returns-in_err-method-clause-refused t c = handed_on _ _ _ c.from_residual-in_err-method.ensures.1 (refuses (lead_look (lead_skip c.in_ok-take.ensures.taken refl (lead_call c.in_ok-name.ensures.found (lead_path c.in_ok-path.ensures.found (lead_call_not c.in_err-method.ensures.refused))))))

pub function_statement-returns-in_err-body-clause-refused : goal.function_statement-returns-in_err-body-clause-refused
function_statement-returns-in_err-body-clause-refused t c = handed_on _ _ _ c.from_residual-in_err-body.ensures.1 (refuses (lead_look (lead_skip c.in_ok-take.ensures.taken refl (lead_call c.in_ok-name.ensures.found (lead_path c.in_ok-path.ensures.found (lead_call c.in_ok-method.ensures.found (lead_call_not (rw c.next_line-line.ensures at c.in_err-body.ensures.refused))))))))

pub function_statement-returns-clause-found : goal.function_statement-returns-clause-found
function_statement-returns-clause-found t c = finds (lead_look (lead_skip c.in_ok-take.ensures.taken refl (lead_call c.in_ok-name.ensures.found (lead_path c.in_ok-path.ensures.found (lead_call c.in_ok-method.ensures.found (lead_call (rw c.next_line-line.ensures at c.in_ok-body.ensures.found) lead_give))))))

pub function_value-returns-in_err-take-clause-refused : goal.function_value-returns-in_err-take-clause-refused
function_value-returns-in_err-take-clause-refused t c = handed_on _ _ _ c.from_residual.ensures.1 (refuses (lead_look (lead_skip_not c.in_err-take.ensures.not_taken refl)))

pub function_value-returns-in_err-body-clause-refused : goal.function_value-returns-in_err-body-clause-refused
function_value-returns-in_err-body-clause-refused t c = handed_on _ _ _ c.from_residual-in_err-body.ensures.1 (refuses (lead_look (lead_skip c.in_ok-take.ensures.taken refl (lead_call_not (rw c.next_line-line.ensures at c.in_err-body.ensures.refused)))))

pub function_value-returns-clause-found : goal.function_value-returns-clause-found
function_value-returns-clause-found t c = rw (c.in_ok-function.ensures, c.next_line-line.ensures) (finds (lead_look (lead_skip c.in_ok-take.ensures.taken refl (lead_call (rw c.next_line-line.ensures at c.in_ok-body.ensures.found) lead_give))))

pub generic_for-returns-in_err-names-clause-refused : goal.generic_for-returns-in_err-names-clause-refused
generic_for-returns-in_err-names-clause-refused t c = handed_on _ _ _ c.from_residual.ensures.1 (refuses (lead_names_not c.in_err-names.ensures.refused))

pub generic_for-returns-then-not-is-clause-refused : goal.generic_for-returns-then-not-is-clause-refused
generic_for-returns-then-not-is-clause-refused t c = refuses (lead_generic c.in_ok-names.ensures.found (lead_no c.is.ensures c.if-not-is.true lead_stop))

pub generic_for-returns-in_err-take-clause-refused : goal.generic_for-returns-in_err-take-clause-refused
generic_for-returns-in_err-take-clause-refused t c = handed_on _ _ _ c.from_residual-in_err-take.ensures.1 (refuses (lead_generic c.in_ok-names.ensures.found (lead_yes c.is.ensures c.if-not-is.false (lead_skip_not c.in_err-take.ensures.not_taken refl))))

pub generic_for-returns-in_err-exps-clause-refused : goal.generic_for-returns-in_err-exps-clause-refused
generic_for-returns-in_err-exps-clause-refused t c = handed_on _ _ _ c.from_residual-in_err-exps.ensures.1 (refuses (lead_generic c.in_ok-names.ensures.found (lead_yes c.is.ensures c.if-not-is.false (lead_skip c.in_ok-take.ensures.taken refl (lead_call_not c.in_err-exps.ensures.refused)))))

pub generic_for-returns-in_err-want-clause-refused : goal.generic_for-returns-in_err-want-clause-refused
generic_for-returns-in_err-want-clause-refused t c = handed_on _ _ _ c.from_residual-in_err-want.ensures.1 (refuses (lead_generic c.in_ok-names.ensures.found (lead_yes c.is.ensures c.if-not-is.false (lead_skip c.in_ok-take.ensures.taken refl (lead_call c.in_ok-exps.ensures.found (lead_want_not c.in_err-want.ensures.not_taken))))))

pub generic_for-returns-in_err-body-clause-refused : goal.generic_for-returns-in_err-body-clause-refused
generic_for-returns-in_err-body-clause-refused t c = handed_on _ _ _ c.from_residual-in_err-body.ensures.1 (refuses (lead_generic c.in_ok-names.ensures.found (lead_yes c.is.ensures c.if-not-is.false (lead_skip c.in_ok-take.ensures.taken refl (lead_call c.in_ok-exps.ensures.found (lead_want c.in_ok-want.ensures.taken (lead_call_not c.in_err-body.ensures.refused)))))))

pub generic_for-returns-in_err-want-2-clause-refused : goal.generic_for-returns-in_err-want-2-clause-refused
generic_for-returns-in_err-want-2-clause-refused t c = handed_on _ _ _ c.from_residual-in_err-want-2.ensures.1 (refuses (lead_generic c.in_ok-names.ensures.found (lead_yes c.is.ensures c.if-not-is.false (lead_skip c.in_ok-take.ensures.taken refl (lead_call c.in_ok-exps.ensures.found (lead_want c.in_ok-want.ensures.taken (lead_call c.in_ok-body.ensures.found (lead_want_not c.in_err-want-2.ensures.not_taken))))))))

pub generic_for-returns-clause-found : goal.generic_for-returns-clause-found
generic_for-returns-clause-found t c = finds (lead_generic c.in_ok-names.ensures.found (lead_yes c.is.ensures c.if-not-is.false (lead_skip c.in_ok-take.ensures.taken refl (lead_call c.in_ok-exps.ensures.found (lead_want c.in_ok-want.ensures.taken (lead_call c.in_ok-body.ensures.found (lead_want c.in_ok-want-2.ensures.taken lead_give)))))))

pub index_of-returns-in_err-take-clause-refused : goal.index_of-returns-in_err-take-clause-refused
index_of-returns-in_err-take-clause-refused t c = handed_on _ _ _ c.from_residual.ensures.1 (refuses (lead_look (lead_skip_not c.in_err-take.ensures.not_taken (rw (c.needed_behind.ensures, c.requires.height) refl))))

pub index_of-returns-in_err-key-clause-refused : goal.index_of-returns-in_err-key-clause-refused
index_of-returns-in_err-key-clause-refused t c = handed_on _ _ _ c.from_residual-in_err-key.ensures.1 (refuses (lead_look (lead_skip c.in_ok-take.ensures.taken (rw (c.needed_behind.ensures, c.requires.height) refl) (lead_call_not c.in_err-key.ensures.refused))))

pub index_of-returns-in_err-want-clause-refused : goal.index_of-returns-in_err-want-clause-refused
index_of-returns-in_err-want-clause-refused t c = handed_on _ _ _ c.from_residual-in_err-want.ensures.1 (refuses (lead_look (lead_skip c.in_ok-take.ensures.taken (rw (c.needed_behind.ensures, c.requires.height) refl) (lead_call c.in_ok-key.ensures.found (lead_want_not c.in_err-want.ensures.not_taken)))))

pub index_of-returns-clause-found : goal.index_of-returns-clause-found
index_of-returns-clause-found t c = rw (c.in_ok-index.ensures, c.next_line-line.ensures) (finds (lead_look (lead_skip c.in_ok-take.ensures.taken (rw (c.needed_behind.ensures, c.requires.height) refl) (lead_call c.in_ok-key.ensures.found (lead_want c.in_ok-want.ensures.taken lead_give)))))

pub keyed-returns-in_err-take-clause-refused : goal.keyed-returns-in_err-take-clause-refused
keyed-returns-in_err-take-clause-refused t c = handed_on _ _ _ c.from_residual.ensures.1 (refuses (lead_skip_not c.in_err-take.ensures.not_taken refl))

pub keyed-returns-in_err-key-clause-refused : goal.keyed-returns-in_err-key-clause-refused
keyed-returns-in_err-key-clause-refused t c = handed_on _ _ _ c.from_residual-in_err-key.ensures.1 (refuses (lead_skip c.in_ok-take.ensures.taken refl (lead_call_not c.in_err-key.ensures.refused)))

pub keyed-returns-in_err-want-clause-refused : goal.keyed-returns-in_err-want-clause-refused
keyed-returns-in_err-want-clause-refused t c = handed_on _ _ _ c.from_residual-in_err-want.ensures.1 (refuses (lead_skip c.in_ok-take.ensures.taken refl (lead_call c.in_ok-key.ensures.found (lead_want_not c.in_err-want.ensures.not_taken))))

pub keyed-returns-in_err-want-2-clause-refused : goal.keyed-returns-in_err-want-2-clause-refused
keyed-returns-in_err-want-2-clause-refused t c = handed_on _ _ _ c.from_residual-in_err-want-2.ensures.1 (refuses (lead_skip c.in_ok-take.ensures.taken refl (lead_call c.in_ok-key.ensures.found (lead_want c.in_ok-want.ensures.taken (lead_want_not c.in_err-want-2.ensures.not_taken)))))

pub keyed-returns-in_err-value-clause-refused : goal.keyed-returns-in_err-value-clause-refused
keyed-returns-in_err-value-clause-refused t c = handed_on _ _ _ c.from_residual-in_err-value.ensures.1 (refuses (lead_skip c.in_ok-take.ensures.taken refl (lead_call c.in_ok-key.ensures.found (lead_want c.in_ok-want.ensures.taken (lead_want c.in_ok-want-2.ensures.taken (lead_call_not c.in_err-value.ensures.refused))))))

pub keyed-returns-clause-found : goal.keyed-returns-clause-found
keyed-returns-clause-found t c = rw (c.into_inner.ensures, c.into_inner-2.ensures) (finds (lead_skip c.in_ok-take.ensures.taken refl (lead_call c.in_ok-key.ensures.found (lead_want c.in_ok-want.ensures.taken (lead_want c.in_ok-want-2.ensures.taken (lead_call c.in_ok-value.ensures.found lead_give))))))

pub listed-returns-then-is-clause-found : goal.listed-returns-then-is-clause-found
listed-returns-then-is-clause-found t c = finds (lead_yes c.is.ensures c.if-is.true (lead_answer c.new.ensures.view))

pub listed-returns-clause-found : goal.listed-returns-clause-found
listed-returns-clause-found t c = finds (lead_no c.is.ensures c.if-is.false (lead_call c.in_ok-list.ensures.found lead_give))

pub local_function-returns-in_err-take-clause-refused : goal.local_function-returns-in_err-take-clause-refused
local_function-returns-in_err-take-clause-refused t c = handed_on _ _ _ c.from_residual.ensures.1 (refuses (lead_look (lead_skip_not c.in_err-take.ensures.not_taken refl)))

pub local_function-returns-in_err-name-clause-refused : goal.local_function-returns-in_err-name-clause-refused
local_function-returns-in_err-name-clause-refused t c = handed_on _ _ _ c.from_residual-in_err-name.ensures.1 (refuses (lead_look (lead_skip c.in_ok-take.ensures.taken refl (lead_call_not c.in_err-name.ensures.refused))))

pub local_function-returns-in_err-body-clause-refused : goal.local_function-returns-in_err-body-clause-refused
local_function-returns-in_err-body-clause-refused t c = handed_on _ _ _ c.from_residual-in_err-body.ensures.1 (refuses (lead_look (lead_skip c.in_ok-take.ensures.taken refl (lead_call c.in_ok-name.ensures.found (lead_call_not (rw c.next_line-line.ensures at c.in_err-body.ensures.refused))))))

pub local_function-returns-clause-found : goal.local_function-returns-clause-found
local_function-returns-clause-found t c = finds (lead_look (lead_skip c.in_ok-take.ensures.taken refl (lead_call c.in_ok-name.ensures.found (lead_call (rw c.next_line-line.ensures at c.in_ok-body.ensures.found) lead_give))))

pub local_names-returns-in_err-name-clause-refused : goal.local_names-returns-in_err-name-clause-refused
local_names-returns-in_err-name-clause-refused t c = handed_on _ _ _ c.from_residual.ensures.1 (refuses (lead_call_not c.in_err-name.ensures.refused))

pub local_names-returns-in_err-names-clause-refused : goal.local_names-returns-in_err-names-clause-refused
local_names-returns-in_err-names-clause-refused t c = handed_on _ _ _ c.from_residual-in_err-names.ensures.1 (refuses (lead_call c.in_ok-name.ensures.found (lead_names_not c.in_err-names.ensures.refused)))

pub local_names-returns-in_err-exps-clause-refused : goal.local_names-returns-in_err-exps-clause-refused
local_names-returns-in_err-exps-clause-refused t c = handed_on _ _ _ c.from_residual-in_err-exps.ensures.1 (refuses (lead_call c.in_ok-name.ensures.found (lead_locals c.in_ok-names.ensures.found (lead_call_not c.in_err-exps.ensures.refused))))

pub local_names-returns-clause-found : goal.local_names-returns-clause-found
local_names-returns-clause-found t c = finds (lead_call c.in_ok-name.ensures.found (lead_locals c.in_ok-names.ensures.found (lead_call c.in_ok-exps.ensures.found lead_give)))

pub local_statement-returns-in_err-take-clause-refused : goal.local_statement-returns-in_err-take-clause-refused
local_statement-returns-in_err-take-clause-refused t c = handed_on _ _ _ c.from_residual.ensures.1 (refuses (lead_skip_not c.in_err-take.ensures.not_taken refl))

pub method_of-returns-in_err-take-clause-refused : goal.method_of-returns-in_err-take-clause-refused
method_of-returns-in_err-take-clause-refused t c = handed_on _ _ _ c.from_residual.ensures.1 (refuses (lead_skip_not c.in_err-take.ensures.not_taken (rw (c.needed_behind.ensures, c.call_spare-spare.ensures, c.requires.height) refl)))

pub method_of-returns-in_err-name-clause-refused : goal.method_of-returns-in_err-name-clause-refused
method_of-returns-in_err-name-clause-refused t c = handed_on _ _ _ c.from_residual-in_err-name.ensures.1 (refuses (lead_skip c.in_ok-take.ensures.taken (rw (c.needed_behind.ensures, c.call_spare-spare.ensures, c.requires.height) refl) (lead_call_not c.in_err-name.ensures.refused)))

pub method_of-returns-in_err-args-clause-refused : goal.method_of-returns-in_err-args-clause-refused
method_of-returns-in_err-args-clause-refused t c = handed_on _ _ _ c.from_residual-in_err-args.ensures.1 (refuses (lead_skip c.in_ok-take.ensures.taken (rw (c.needed_behind.ensures, c.call_spare-spare.ensures, c.requires.height) refl) (lead_call c.in_ok-name.ensures.found (lead_look (lead_call_not (rw c.call_spare-spare.ensures at c.in_err-args.ensures.refused))))))

pub method_of-returns-clause-found : goal.method_of-returns-clause-found
method_of-returns-clause-found t c = rw (c.in_ok-method.ensures, c.next_line-line.ensures) (finds (lead_skip c.in_ok-take.ensures.taken (rw (c.needed_behind.ensures, c.call_spare-spare.ensures, c.requires.height) refl) (lead_call c.in_ok-name.ensures.found (lead_look (lead_call (rw c.call_spare-spare.ensures at c.in_ok-args.ensures.found) lead_give)))))

pub named-returns-in_err-value-clause-refused : goal.named-returns-in_err-value-clause-refused
named-returns-in_err-value-clause-refused t c = handed_on _ _ _ c.from_residual-in_err-value.ensures.1 (refuses (lead_yes c.is.ensures c.if-is.true (lead_skip c.in_ok-take.ensures.taken refl (lead_call_not c.in_err-value.ensures.refused))))

pub named-returns-then-is-clause-found : goal.named-returns-then-is-clause-found
named-returns-then-is-clause-found t c = rw c.into_inner.ensures (finds (lead_yes c.is.ensures c.if-is.true (lead_skip c.in_ok-take.ensures.taken refl (lead_call c.in_ok-value.ensures.found lead_give))))

pub named-returns-in_err-operand-clause-refused : goal.named-returns-in_err-operand-clause-refused
named-returns-in_err-operand-clause-refused t c = handed_on _ _ _ c.from_residual-in_err-operand.ensures.1 (refuses (lead_no c.is.ensures c.if-is.false (lead_call_not (rw c.in_ok-part.ensures at c.in_err-operand.ensures.refused))))

pub named-returns-in_err-value-2-clause-refused : goal.named-returns-in_err-value-2-clause-refused
named-returns-in_err-value-2-clause-refused t c = handed_on _ _ _ c.from_residual-in_err-value-2.ensures.1 (refuses (lead_no c.is.ensures c.if-is.false (lead_call (rw c.in_ok-part.ensures at c.in_ok-operand.ensures.found) (lead_call_not c.in_err-value-2.ensures.refused))))

pub named-returns-clause-found : goal.named-returns-clause-found
named-returns-clause-found t c = rw c.into_inner-2.ensures (finds (lead_no c.is.ensures c.if-is.false (lead_call (rw c.in_ok-part.ensures at c.in_ok-operand.ensures.found) (lead_call c.in_ok-value-2.ensures.found lead_give))))

pub numeric_for-returns-in_err-take-clause-refused : goal.numeric_for-returns-in_err-take-clause-refused
numeric_for-returns-in_err-take-clause-refused t c = handed_on _ _ _ c.from_residual.ensures.1 (refuses (lead_skip_not c.in_err-take.ensures.not_taken refl))

pub numeric_for-returns-in_err-from-clause-refused : goal.numeric_for-returns-in_err-from-clause-refused
numeric_for-returns-in_err-from-clause-refused t c = handed_on _ _ _ c.from_residual-in_err-from.ensures.1 (refuses (lead_skip c.in_ok-take.ensures.taken refl (lead_call_not c.in_err-from.ensures.refused)))

pub numeric_for-returns-in_err-want-clause-refused : goal.numeric_for-returns-in_err-want-clause-refused
numeric_for-returns-in_err-want-clause-refused t c = handed_on _ _ _ c.from_residual-in_err-want.ensures.1 (refuses (lead_skip c.in_ok-take.ensures.taken refl (lead_call c.in_ok-from.ensures.found (lead_want_not c.in_err-want.ensures.not_taken))))

pub numeric_for-returns-in_err-to-clause-refused : goal.numeric_for-returns-in_err-to-clause-refused
numeric_for-returns-in_err-to-clause-refused t c = handed_on _ _ _ c.from_residual-in_err-to.ensures.1 (refuses (lead_skip c.in_ok-take.ensures.taken refl (lead_call c.in_ok-from.ensures.found (lead_want c.in_ok-want.ensures.taken (lead_call_not c.in_err-to.ensures.refused)))))

pub numeric_for-returns-in_err-step-clause-refused : goal.numeric_for-returns-in_err-step-clause-refused
numeric_for-returns-in_err-step-clause-refused t c = handed_on _ _ _ c.from_residual-in_err-step.ensures.1 (refuses (lead_skip c.in_ok-take.ensures.taken refl (lead_call c.in_ok-from.ensures.found (lead_want c.in_ok-want.ensures.taken (lead_call c.in_ok-to.ensures.found (lead_call_not c.in_err-step.ensures.refused))))))

pub numeric_for-returns-in_err-want-2-clause-refused : goal.numeric_for-returns-in_err-want-2-clause-refused
numeric_for-returns-in_err-want-2-clause-refused t c = handed_on _ _ _ c.from_residual-in_err-want-2.ensures.1 (refuses (lead_skip c.in_ok-take.ensures.taken refl (lead_call c.in_ok-from.ensures.found (lead_want c.in_ok-want.ensures.taken (lead_call c.in_ok-to.ensures.found (lead_call c.in_ok-step.ensures.found (lead_want_not c.in_err-want-2.ensures.not_taken)))))))

pub numeric_for-returns-in_err-body-clause-refused : goal.numeric_for-returns-in_err-body-clause-refused
numeric_for-returns-in_err-body-clause-refused t c = handed_on _ _ _ c.from_residual-in_err-body.ensures.1 (refuses (lead_skip c.in_ok-take.ensures.taken refl (lead_call c.in_ok-from.ensures.found (lead_want c.in_ok-want.ensures.taken (lead_call c.in_ok-to.ensures.found (lead_call c.in_ok-step.ensures.found (lead_want c.in_ok-want-2.ensures.taken (lead_call_not c.in_err-body.ensures.refused))))))))

pub numeric_for-returns-in_err-want-3-clause-refused : goal.numeric_for-returns-in_err-want-3-clause-refused
numeric_for-returns-in_err-want-3-clause-refused t c = handed_on _ _ _ c.from_residual-in_err-want-3.ensures.1 (refuses (lead_skip c.in_ok-take.ensures.taken refl (lead_call c.in_ok-from.ensures.found (lead_want c.in_ok-want.ensures.taken (lead_call c.in_ok-to.ensures.found (lead_call c.in_ok-step.ensures.found (lead_want c.in_ok-want-2.ensures.taken (lead_call c.in_ok-body.ensures.found (lead_want_not c.in_err-want-3.ensures.not_taken)))))))))

pub numeric_for-returns-clause-found : goal.numeric_for-returns-clause-found
numeric_for-returns-clause-found t c = rw c.numeric_for.ensures (finds (lead_skip c.in_ok-take.ensures.taken refl (lead_call c.in_ok-from.ensures.found (lead_want c.in_ok-want.ensures.taken (lead_call c.in_ok-to.ensures.found (lead_call c.in_ok-step.ensures.found (lead_want c.in_ok-want-2.ensures.taken (lead_call c.in_ok-body.ensures.found (lead_want c.in_ok-want-3.ensures.taken lead_give)))))))))

pub paren-returns-in_err-take-clause-refused : goal.paren-returns-in_err-take-clause-refused
paren-returns-in_err-take-clause-refused t c = handed_on _ _ _ c.from_residual.ensures.1 (refuses (lead_look (lead_skip_not c.in_err-take.ensures.not_taken (rw c.paren_spare-spare.ensures refl))))

pub paren-returns-in_err-inner-clause-refused : goal.paren-returns-in_err-inner-clause-refused
paren-returns-in_err-inner-clause-refused t c = handed_on _ _ _ c.from_residual-in_err-inner.ensures.1 (refuses (lead_look (lead_skip c.in_ok-take.ensures.taken (rw c.paren_spare-spare.ensures refl) (lead_call_not (rw c.paren_spare-spare.ensures at c.in_err-inner.ensures.refused)))))

pub paren-returns-in_err-want-clause-refused : goal.paren-returns-in_err-want-clause-refused
paren-returns-in_err-want-clause-refused t c = handed_on _ _ _ c.from_residual-in_err-want.ensures.1 (refuses (lead_look (lead_skip c.in_ok-take.ensures.taken (rw c.paren_spare-spare.ensures refl) (lead_call (rw c.paren_spare-spare.ensures at c.in_ok-inner.ensures.found) (lead_want_not c.in_err-want.ensures.not_taken)))))

pub paren-returns-clause-found : goal.paren-returns-clause-found
paren-returns-clause-found t c = rw (c.in_ok-parenthesized.ensures, c.next_line-line.ensures) (finds (lead_look (lead_skip c.in_ok-take.ensures.taken (rw c.paren_spare-spare.ensures refl) (lead_call (rw c.paren_spare-spare.ensures at c.in_ok-inner.ensures.found) (lead_want c.in_ok-want.ensures.taken lead_give)))))

pub prefix-returns-in_err-take-clause-refused : goal.prefix-returns-in_err-take-clause-refused
prefix-returns-in_err-take-clause-refused t c = handed_on _ _ _ c.from_residual.ensures.1 (refuses (lead_prefix (Some c.in-Some.name.now) c.in-Some.ensures (lead_skip_not c.in_err-take.ensures.not_taken refl)))

pub prefix-returns-in-Some-clause-found : goal.prefix-returns-in-Some-clause-found
prefix-returns-in-Some-clause-found t c = finds (lead_prefix (Some c.in-Some.name.now) c.in-Some.ensures (lead_skip c.in_ok-take.ensures.taken refl (lead_call (rw (c.in_ok-part.ensures, c.in_ok-name.ensures, c.next_line-line.ensures) at c.in_ok-whole.ensures.found) lead_give)))

pub prefix-returns-then-not-is-clause-refused : goal.prefix-returns-then-not-is-clause-refused
prefix-returns-then-not-is-clause-refused t c = refuses (lead_prefix None c.in_default.ensures (lead_no c.is.ensures c.if-not-is.true lead_stop))

pub prefix-returns-in_err-first-clause-refused : goal.prefix-returns-in_err-first-clause-refused
prefix-returns-in_err-first-clause-refused t c = handed_on _ _ _ c.from_residual-in_err-first.ensures.1 (refuses (lead_prefix None c.in_default.ensures (lead_yes c.is.ensures c.if-not-is.false (lead_call_not c.in_err-first.ensures.refused))))

pub prefix-returns-clause-found : goal.prefix-returns-clause-found
prefix-returns-clause-found t c = finds (lead_prefix None c.in_default.ensures (lead_yes c.is.ensures c.if-not-is.false (lead_call c.in_ok-first.ensures.found (lead_call c.in_ok-whole-2.ensures.found lead_give))))

pub repeat_statement-returns-in_err-take-clause-refused : goal.repeat_statement-returns-in_err-take-clause-refused
repeat_statement-returns-in_err-take-clause-refused t c = handed_on _ _ _ c.from_residual.ensures.1 (refuses (lead_skip_not c.in_err-take.ensures.not_taken refl))

pub repeat_statement-returns-in_err-body-clause-refused : goal.repeat_statement-returns-in_err-body-clause-refused
repeat_statement-returns-in_err-body-clause-refused t c = handed_on _ _ _ c.from_residual-in_err-body.ensures.1 (refuses (lead_skip c.in_ok-take.ensures.taken refl (lead_call_not c.in_err-body.ensures.refused)))

pub repeat_statement-returns-in_err-want-clause-refused : goal.repeat_statement-returns-in_err-want-clause-refused
repeat_statement-returns-in_err-want-clause-refused t c = handed_on _ _ _ c.from_residual-in_err-want.ensures.1 (refuses (lead_skip c.in_ok-take.ensures.taken refl (lead_call c.in_ok-body.ensures.found (lead_want_not c.in_err-want.ensures.not_taken))))

pub repeat_statement-returns-in_err-cond-clause-refused : goal.repeat_statement-returns-in_err-cond-clause-refused
repeat_statement-returns-in_err-cond-clause-refused t c = handed_on _ _ _ c.from_residual-in_err-cond.ensures.1 (refuses (lead_skip c.in_ok-take.ensures.taken refl (lead_call c.in_ok-body.ensures.found (lead_want c.in_ok-want.ensures.taken (lead_call_not c.in_err-cond.ensures.refused)))))

pub repeat_statement-returns-clause-found : goal.repeat_statement-returns-clause-found
repeat_statement-returns-clause-found t c = rw c.into_inner.ensures (finds (lead_skip c.in_ok-take.ensures.taken refl (lead_call c.in_ok-body.ensures.found (lead_want c.in_ok-want.ensures.taken (lead_call c.in_ok-cond.ensures.found lead_give)))))

pub results-returns-then-is-clause-found : goal.results-returns-then-is-clause-found
results-returns-then-is-clause-found t c = finds (lead_yes c.is.ensures c.if-is.true (lead_answer c.new.ensures.view))

pub results-returns-clause-found : goal.results-returns-clause-found
results-returns-clause-found t c = finds (lead_no c.is.ensures c.if-is.false (lead_look (lead_else _ _ _ (sym c.is_block_end.ensures ∙ c.if-is_block_end.false) (lead_call c.in_ok-list.ensures.found lead_give))))

pub return_statement-returns-in_err-take-clause-refused : goal.return_statement-returns-in_err-take-clause-refused
return_statement-returns-in_err-take-clause-refused t c = handed_on _ _ _ c.from_residual.ensures.1 (refuses (lead_skip_not c.in_err-take.ensures.not_taken refl))

pub return_statement-returns-in_err-list-clause-refused : goal.return_statement-returns-in_err-list-clause-refused
return_statement-returns-in_err-list-clause-refused t c = handed_on _ _ _ c.from_residual-in_err-list.ensures.1 (refuses (lead_skip c.in_ok-take.ensures.taken refl (lead_call_not c.in_err-list.ensures.refused)))

pub return_statement-returns-clause-found : goal.return_statement-returns-clause-found
return_statement-returns-clause-found t c = finds (lead_skip c.in_ok-take.ensures.taken refl (lead_call c.in_ok-list.ensures.found lead_give))

pub simple-returns-in_err-take-clause-refused : goal.simple-returns-in_err-take-clause-refused
simple-returns-in_err-take-clause-refused t c = handed_on _ _ _ c.from_residual-in_err-take.ensures.1 (refuses (lead_simple (Some (view_exp c.in-Some.part.value)) (rw c.in-Some.is at c.in_ok-part.ensures) (lead_skip_not c.in_err-take.ensures.not_taken refl)))

pub simple-returns-in-Some-clause-found : goal.simple-returns-in-Some-clause-found
simple-returns-in-Some-clause-found t c = finds (lead_simple (Some (view_exp c.in-Some.part.value)) (rw c.in-Some.is at c.in_ok-part.ensures) (lead_skip c.in_ok-take.ensures.taken refl lead_give))

pub simple-returns-then-is-clause-found : goal.simple-returns-then-is-clause-found
simple-returns-then-is-clause-found t c = finds (lead_simple None (rw c.in_default.is at c.in_ok-part.ensures) (lead_yes c.is.ensures c.if-is.true (lead_call c.in_ok-function.ensures.found lead_give)))

pub simple-returns-then-is-2-clause-found : goal.simple-returns-then-is-2-clause-found
simple-returns-then-is-2-clause-found t c = finds (lead_simple None (rw c.in_default.is at c.in_ok-part.ensures) (lead_no c.is.ensures c.if-is.false (lead_yes c.is-2.ensures c.if-is-2.true (lead_call c.in_ok-table.ensures.found lead_give))))

pub step-returns-then-not-is-clause-found : goal.step-returns-then-not-is-clause-found
step-returns-then-not-is-clause-found t c = finds (lead_no c.is.ensures c.if-not-is.true lead_give)

pub step-returns-in_err-take-clause-refused : goal.step-returns-in_err-take-clause-refused
step-returns-in_err-take-clause-refused t c = handed_on _ _ _ c.from_residual.ensures.1 (refuses (lead_yes c.is.ensures c.if-not-is.false (lead_skip_not c.in_err-take.ensures.not_taken refl)))

pub step-returns-in_err-step-clause-refused : goal.step-returns-in_err-step-clause-refused
step-returns-in_err-step-clause-refused t c = handed_on _ _ _ c.from_residual-in_err-step.ensures.1 (refuses (lead_yes c.is.ensures c.if-not-is.false (lead_skip c.in_ok-take.ensures.taken refl (lead_call_not c.in_err-step.ensures.refused))))

pub step-returns-clause-found : goal.step-returns-clause-found
step-returns-clause-found t c = finds (lead_yes c.is.ensures c.if-not-is.false (lead_skip c.in_ok-take.ensures.taken refl (lead_call c.in_ok-step.ensures.found lead_give)))

pub suffix-returns-in_err-on-in-Field-clause-refused : goal.suffix-returns-in_err-on-in-Field-clause-refused
suffix-returns-in_err-on-in-Field-clause-refused t c = handed_on _ _ _ c.from_residual.ensures.1 (refuses (c.loop-self.invariant.leads _ (lead_suffix c.args.depth c.args.role _ Suffix.Field c.in-Field.ensures (lead_call_not c.in_err-on-in-Field.ensures.refused))))

pub suffix-returns-in_err-on-in-Index-clause-refused : goal.suffix-returns-in_err-on-in-Index-clause-refused
suffix-returns-in_err-on-in-Index-clause-refused t c = handed_on _ _ _ c.from_residual-in_err-on-in-Index.ensures.1 (refuses (c.loop-self.invariant.leads _ (lead_suffix c.args.depth c.args.role _ Suffix.Index c.in-Index.ensures (lead_call_not c.in_err-on-in-Index.ensures.refused))))

pub suffix-returns-in_err-on-in-Method-clause-refused : goal.suffix-returns-in_err-on-in-Method-clause-refused
suffix-returns-in_err-on-in-Method-clause-refused t c = handed_on _ _ _ c.from_residual-in_err-on-in-Method.ensures.1 (refuses (c.loop-self.invariant.leads _ (lead_suffix c.args.depth c.args.role _ Suffix.Method c.in-Method.ensures (lead_call_not c.in_err-on-in-Method.ensures.refused))))

pub suffix-returns-in_err-on-in-Call-clause-refused : goal.suffix-returns-in_err-on-in-Call-clause-refused
suffix-returns-in_err-on-in-Call-clause-refused t c = handed_on _ _ _ c.from_residual-in_err-on-in-Call.ensures.1 (refuses (c.loop-self.invariant.leads _ (lead_suffix c.args.depth c.args.role _ Suffix.Call c.in-Call.ensures (lead_call_not c.in_err-on-in-Call.ensures.refused))))

pub suffix-returns-in-Missing-clause-found : goal.suffix-returns-in-Missing-clause-found
suffix-returns-in-Missing-clause-found t c = finds (c.loop-self.invariant.leads _ (lead_suffix c.args.depth c.args.role _ Suffix.Missing c.in-Missing.ensures lead_give))

pub suffix-loop-self-preserved-in_ok-on-in-Field : goal.suffix-loop-self-preserved-in_ok-on-in-Field
suffix-loop-self-preserved-in_ok-on-in-Field t c = record { leads = λ outcome l. c.loop-self.invariant.leads outcome (lead_suffix c.args.depth c.args.role _ Suffix.Field c.in-Field.ensures (lead_call c.in_ok-on-in-Field.ensures.found (lead_become l))); height = c.in_ok-on-in-Field.ensures.height; low = c.in_ok-on-in-Field.ensures.low; shorter = search rules }

pub suffix-loop-self-preserved-in_ok-on-in-Index : goal.suffix-loop-self-preserved-in_ok-on-in-Index
suffix-loop-self-preserved-in_ok-on-in-Index t c = record { leads = λ outcome l. c.loop-self.invariant.leads outcome (lead_suffix c.args.depth c.args.role _ Suffix.Index c.in-Index.ensures (lead_call c.in_ok-on-in-Index.ensures.found (lead_become l))); height = c.in_ok-on-in-Index.ensures.height; low = c.in_ok-on-in-Index.ensures.low; shorter = search rules }

pub suffix-loop-self-preserved-in_ok-on-in-Method : goal.suffix-loop-self-preserved-in_ok-on-in-Method
suffix-loop-self-preserved-in_ok-on-in-Method t c = record { leads = λ outcome l. c.loop-self.invariant.leads outcome (lead_suffix c.args.depth c.args.role _ Suffix.Method c.in-Method.ensures (lead_call c.in_ok-on-in-Method.ensures.found (lead_become l))); height = c.in_ok-on-in-Method.ensures.height; low = c.in_ok-on-in-Method.ensures.low; shorter = search rules }

pub suffix-loop-self-preserved : goal.suffix-loop-self-preserved
suffix-loop-self-preserved t c = record { leads = λ outcome l. c.loop-self.invariant.leads outcome (lead_suffix c.args.depth c.args.role _ Suffix.Call c.in-Call.ensures (lead_call c.in_ok-on-in-Call.ensures.found (lead_become l))); height = c.in_ok-on-in-Call.ensures.height; low = c.in_ok-on-in-Call.ensures.low; shorter = search rules }

pub table-returns-in_err-take-clause-refused : goal.table-returns-in_err-take-clause-refused
table-returns-in_err-take-clause-refused t c = handed_on _ _ _ c.from_residual.ensures.1 (refuses (lead_look (lead_skip_not c.in_err-take.ensures.not_taken refl)))

pub table-returns-in_err-items-clause-refused : goal.table-returns-in_err-items-clause-refused
table-returns-in_err-items-clause-refused t c = handed_on _ _ _ c.from_residual-in_err-items.ensures.1 (refuses (lead_look (lead_skip c.in_ok-take.ensures.taken refl (lead_call_not c.in_err-items.ensures.refused))))

pub table-returns-in_err-want-clause-refused : goal.table-returns-in_err-want-clause-refused
table-returns-in_err-want-clause-refused t c = handed_on _ _ _ c.from_residual-in_err-want.ensures.1 (refuses (lead_look (lead_skip c.in_ok-take.ensures.taken refl (lead_call c.in_ok-items.ensures.found (lead_want_not c.in_err-want.ensures.not_taken)))))

pub table-returns-clause-found : goal.table-returns-clause-found
table-returns-clause-found t c = rw (c.in_ok-constructor.ensures, c.next_line-line.ensures) (finds (lead_look (lead_skip c.in_ok-take.ensures.taken refl (lead_call c.in_ok-items.ensures.found (lead_want c.in_ok-want.ensures.taken lead_give)))))

pub targets-loop-alloc-init : goal.targets-loop-alloc-init
targets-loop-alloc-init t c = record { leads = λ outcome l. lead_open (rw c.new.ensures.view at l); height = rw c.new.ensures.view refl; next_height = c.requires.height; low = search rules; next_low = c.requires.low; shorter = search rules }

pub targets-returns-then-not-is_target-clause-refused : goal.targets-returns-then-not-is_target-clause-refused
targets-returns-then-not-is_target-clause-refused t c = refuses (c.loop-alloc.invariant.leads _ (no_target _ _ (tested (λ exp. is_target (view_exp exp)) c.deref.ensures c.is_target.ensures c.if-not-is_target.true)))

pub targets-returns-then-not-is-2-clause-refused : goal.targets-returns-then-not-is-2-clause-refused
targets-returns-then-not-is-2-clause-refused t c = refuses (c.loop-alloc.invariant.leads _ (target_halts _ _ (tested (λ exp. is_target (view_exp exp)) c.deref.ensures c.is_target.ensures c.if-not-is_target.false) (lead_no c.is.ensures c.if-not-is.true (lead_no c.is-then-not-is.ensures c.if-not-is-2.true lead_stop))))

pub targets-returns-then-not-is-clause-found : goal.targets-returns-then-not-is-clause-found
targets-returns-then-not-is-clause-found t c = finds (c.loop-alloc.invariant.leads _ (rw (c.in_ok-push.ensures.view, c.into_inner.ensures) (target_last _ _ (tested (λ exp. is_target (view_exp exp)) c.deref.ensures c.is_target.ensures c.if-not-is_target.false) c.is.ensures c.if-not-is.true c.is-then-not-is.ensures c.if-not-is-2.false)))

pub targets-returns-then-not-is-clause-height : goal.targets-returns-then-not-is-clause-height
targets-returns-then-not-is-clause-height t c = rw (c.in_ok-push.ensures.view, c.into_inner.ensures, expressions_depth, ← c.loop-alloc.invariant.next_height, ← c.loop-alloc.invariant.height) c.max.ensures

pub targets-returns-in_err-next-clause-refused : goal.targets-returns-in_err-next-clause-refused
targets-returns-in_err-next-clause-refused t c = handed_on _ _ _ c.from_residual-in_err-next.ensures.1 (refuses (c.loop-alloc.invariant.leads _ (target_halts _ _ (tested (λ exp. is_target (view_exp exp)) c.deref.ensures c.is_target.ensures c.if-not-is_target.false) (lead_yes c.is.ensures c.if-not-is.false (lead_skip c.in_ok-take.ensures.taken refl (lead_call_not c.in_err-next.ensures.refused))))))

pub targets-loop-alloc-preserved : goal.targets-loop-alloc-preserved
targets-loop-alloc-preserved t c = record { leads = λ outcome l. c.loop-alloc.invariant.leads outcome (target_turn _ _ (tested (λ exp. is_target (view_exp exp)) c.deref.ensures c.is_target.ensures c.if-not-is_target.false) c.is.ensures c.if-not-is.false c.in_ok-take.ensures.taken refl c.in_ok-next.ensures.found (rw (c.in_ok-push.ensures.view, c.into_inner.ensures) at l)); height = rw (c.in_ok-push.ensures.view, c.into_inner.ensures, expressions_depth, ← c.loop-alloc.invariant.next_height, ← c.loop-alloc.invariant.height) c.max.ensures; next_height = c.in_ok-next.ensures.height; low = search rules; next_low = c.in_ok-next.ensures.low; shorter = search rules }

pub values-returns-then-not-is-clause-found : goal.values-returns-then-not-is-clause-found
values-returns-then-not-is-clause-found t c = finds (lead_no c.is.ensures c.if-not-is.true (lead_answer c.new.ensures.view))

pub values-returns-in_err-take-clause-refused : goal.values-returns-in_err-take-clause-refused
values-returns-in_err-take-clause-refused t c = handed_on _ _ _ c.from_residual.ensures.1 (refuses (lead_yes c.is.ensures c.if-not-is.false (lead_skip_not c.in_err-take.ensures.not_taken refl)))

pub values-returns-clause-found : goal.values-returns-clause-found
values-returns-clause-found t c = finds (lead_yes c.is.ensures c.if-not-is.false (lead_skip c.in_ok-take.ensures.taken refl (lead_call c.in_ok-list.ensures.found lead_give)))

pub while_statement-returns-in_err-take-clause-refused : goal.while_statement-returns-in_err-take-clause-refused
while_statement-returns-in_err-take-clause-refused t c = handed_on _ _ _ c.from_residual.ensures.1 (refuses (lead_skip_not c.in_err-take.ensures.not_taken refl))

pub while_statement-returns-in_err-cond-clause-refused : goal.while_statement-returns-in_err-cond-clause-refused
while_statement-returns-in_err-cond-clause-refused t c = handed_on _ _ _ c.from_residual-in_err-cond.ensures.1 (refuses (lead_skip c.in_ok-take.ensures.taken refl (lead_call_not c.in_err-cond.ensures.refused)))

pub while_statement-returns-in_err-want-clause-refused : goal.while_statement-returns-in_err-want-clause-refused
while_statement-returns-in_err-want-clause-refused t c = handed_on _ _ _ c.from_residual-in_err-want.ensures.1 (refuses (lead_skip c.in_ok-take.ensures.taken refl (lead_call c.in_ok-cond.ensures.found (lead_want_not c.in_err-want.ensures.not_taken))))

pub while_statement-returns-in_err-body-clause-refused : goal.while_statement-returns-in_err-body-clause-refused
while_statement-returns-in_err-body-clause-refused t c = handed_on _ _ _ c.from_residual-in_err-body.ensures.1 (refuses (lead_skip c.in_ok-take.ensures.taken refl (lead_call c.in_ok-cond.ensures.found (lead_want c.in_ok-want.ensures.taken (lead_call_not c.in_err-body.ensures.refused)))))

pub while_statement-returns-in_err-want-2-clause-refused : goal.while_statement-returns-in_err-want-2-clause-refused
while_statement-returns-in_err-want-2-clause-refused t c = handed_on _ _ _ c.from_residual-in_err-want-2.ensures.1 (refuses (lead_skip c.in_ok-take.ensures.taken refl (lead_call c.in_ok-cond.ensures.found (lead_want c.in_ok-want.ensures.taken (lead_call c.in_ok-body.ensures.found (lead_want_not c.in_err-want-2.ensures.not_taken))))))

pub while_statement-returns-clause-found : goal.while_statement-returns-clause-found
while_statement-returns-clause-found t c = rw c.into_inner.ensures (finds (lead_skip c.in_ok-take.ensures.taken refl (lead_call c.in_ok-cond.ensures.found (lead_want c.in_ok-want.ensures.taken (lead_call c.in_ok-body.ensures.found (lead_want c.in_ok-want-2.ensures.taken lead_give))))))

pub whole-returns-in_err-take-in-Some-clause-refused : goal.whole-returns-in_err-take-in-Some-clause-refused
whole-returns-in_err-take-in-Some-clause-refused t c = handed_on _ _ _ c.from_residual.ensures.1 (refuses (lead_whole (Some c.in-Some.op) c.in-Some.ensures (lead_skip_not c.in_err-take-in-Some.ensures.not_taken refl)))

pub whole-returns-in_err-of-in-Some-clause-refused : goal.whole-returns-in_err-of-in-Some-clause-refused
whole-returns-in_err-of-in-Some-clause-refused t c = handed_on _ _ _ c.from_residual-in_err-of-in-Some.ensures.1 (refuses (lead_whole (Some c.in-Some.op) c.in-Some.ensures (lead_skip c.in_ok-take-in-Some.ensures.taken refl (lead_call_not c.in_err-of-in-Some.ensures.refused))))

pub whole-returns-in_err-first-in-None-clause-refused : goal.whole-returns-in_err-first-in-None-clause-refused
whole-returns-in_err-first-in-None-clause-refused t c = handed_on _ _ _ c.from_residual-in_err-first-in-None.ensures.1 (refuses (lead_whole None c.in-None.ensures (lead_call_not c.in_err-first-in-None.ensures.refused)))

pub listed-returns-in_err-list-clause-refused : goal.listed-returns-in_err-list-clause-refused
listed-returns-in_err-list-clause-refused t c = handed_on _ _ _ c.from_residual.ensures.1 (refuses (lead_no c.is.ensures c.if-is.false (lead_call_not c.in_err-list.ensures.refused)))

pub for_statement-returns-in_err-numeric-clause-refused : goal.for_statement-returns-in_err-numeric-clause-refused
for_statement-returns-in_err-numeric-clause-refused t c = handed_on _ _ _ c.from_residual-in_err-numeric.ensures.1 (refuses (lead_skip c.in_ok-take.ensures.taken refl (lead_call c.in_ok-name.ensures.found (lead_yes c.is.ensures c.if-is.true (lead_call_not c.in_err-numeric.ensures.refused)))))

pub for_statement-returns-in_ok-numeric-clause-found : goal.for_statement-returns-in_ok-numeric-clause-found
for_statement-returns-in_ok-numeric-clause-found t c = finds (lead_skip c.in_ok-take.ensures.taken refl (lead_call c.in_ok-name.ensures.found (lead_yes c.is.ensures c.if-is.true (lead_call c.in_ok-numeric.ensures.found lead_give))))

pub for_statement-returns-in_err-generic-clause-refused : goal.for_statement-returns-in_err-generic-clause-refused
for_statement-returns-in_err-generic-clause-refused t c = handed_on _ _ _ c.from_residual-in_err-generic.ensures.1 (refuses (lead_skip c.in_ok-take.ensures.taken refl (lead_call c.in_ok-name.ensures.found (lead_no c.is.ensures c.if-is.false (lead_call_not c.in_err-generic.ensures.refused)))))

pub for_statement-returns-in_ok-generic-clause-found : goal.for_statement-returns-in_ok-generic-clause-found
for_statement-returns-in_ok-generic-clause-found t c = finds (lead_skip c.in_ok-take.ensures.taken refl (lead_call c.in_ok-name.ensures.found (lead_no c.is.ensures c.if-is.false (lead_call c.in_ok-generic.ensures.found lead_give))))

pub values-returns-in_err-list-clause-refused : goal.values-returns-in_err-list-clause-refused
values-returns-in_err-list-clause-refused t c = handed_on _ _ _ c.from_residual-in_err-list.ensures.1 (refuses (lead_yes c.is.ensures c.if-not-is.false (lead_skip c.in_ok-take.ensures.taken refl (lead_call_not c.in_err-list.ensures.refused))))

pub local_statement-returns-in_err-function-clause-refused : goal.local_statement-returns-in_err-function-clause-refused
local_statement-returns-in_err-function-clause-refused t c = handed_on _ _ _ c.from_residual-in_err-function.ensures.1 (refuses (lead_skip c.in_ok-take.ensures.taken refl (lead_yes c.is.ensures c.if-is.true (lead_call_not c.in_err-function.ensures.refused))))

pub local_statement-returns-in_ok-function-clause-found : goal.local_statement-returns-in_ok-function-clause-found
local_statement-returns-in_ok-function-clause-found t c = finds (lead_skip c.in_ok-take.ensures.taken refl (lead_yes c.is.ensures c.if-is.true (lead_call c.in_ok-function.ensures.found lead_give)))

pub local_statement-returns-in_err-names-clause-refused : goal.local_statement-returns-in_err-names-clause-refused
local_statement-returns-in_err-names-clause-refused t c = handed_on _ _ _ c.from_residual-in_err-names.ensures.1 (refuses (lead_skip c.in_ok-take.ensures.taken refl (lead_no c.is.ensures c.if-is.false (lead_call_not c.in_err-names.ensures.refused))))

pub local_statement-returns-in_ok-names-clause-found : goal.local_statement-returns-in_ok-names-clause-found
local_statement-returns-in_ok-names-clause-found t c = finds (lead_skip c.in_ok-take.ensures.taken refl (lead_no c.is.ensures c.if-is.false (lead_call c.in_ok-names.ensures.found lead_give)))

pub statement-returns-in_err-if_statement-in-If-clause-refused : goal.statement-returns-in_err-if_statement-in-If-clause-refused
statement-returns-in_err-if_statement-in-If-clause-refused t c = handed_on _ _ _ c.from_residual.ensures.1 (refuses (lead_statement Start.If c.in-If.ensures (lead_call_not c.in_err-if_statement-in-If.ensures.refused)))

pub statement-returns-in_ok-if_statement-in-If-clause-found : goal.statement-returns-in_ok-if_statement-in-If-clause-found
statement-returns-in_ok-if_statement-in-If-clause-found t c = finds (lead_statement Start.If c.in-If.ensures (lead_call c.in_ok-if_statement-in-If.ensures.found lead_give))

pub statement-returns-in_err-while_statement-in-While-clause-refused : goal.statement-returns-in_err-while_statement-in-While-clause-refused
statement-returns-in_err-while_statement-in-While-clause-refused t c = handed_on _ _ _ c.from_residual-in_err-while_statement-in-While.ensures.1 (refuses (lead_statement Start.While c.in-While.ensures (lead_call_not c.in_err-while_statement-in-While.ensures.refused)))

pub statement-returns-in_ok-while_statement-in-While-clause-found : goal.statement-returns-in_ok-while_statement-in-While-clause-found
statement-returns-in_ok-while_statement-in-While-clause-found t c = finds (lead_statement Start.While c.in-While.ensures (lead_call c.in_ok-while_statement-in-While.ensures.found lead_give))

pub statement-returns-in_err-do_statement-in-Do-clause-refused : goal.statement-returns-in_err-do_statement-in-Do-clause-refused
statement-returns-in_err-do_statement-in-Do-clause-refused t c = handed_on _ _ _ c.from_residual-in_err-do_statement-in-Do.ensures.1 (refuses (lead_statement Start.Do c.in-Do.ensures (lead_call_not c.in_err-do_statement-in-Do.ensures.refused)))

pub statement-returns-in_ok-do_statement-in-Do-clause-found : goal.statement-returns-in_ok-do_statement-in-Do-clause-found
statement-returns-in_ok-do_statement-in-Do-clause-found t c = finds (lead_statement Start.Do c.in-Do.ensures (lead_call c.in_ok-do_statement-in-Do.ensures.found lead_give))

pub statement-returns-in_err-for_statement-in-For-clause-refused : goal.statement-returns-in_err-for_statement-in-For-clause-refused
statement-returns-in_err-for_statement-in-For-clause-refused t c = handed_on _ _ _ c.from_residual-in_err-for_statement-in-For.ensures.1 (refuses (lead_statement Start.For c.in-For.ensures (lead_call_not c.in_err-for_statement-in-For.ensures.refused)))

pub statement-returns-in_ok-for_statement-in-For-clause-found : goal.statement-returns-in_ok-for_statement-in-For-clause-found
statement-returns-in_ok-for_statement-in-For-clause-found t c = finds (lead_statement Start.For c.in-For.ensures (lead_call c.in_ok-for_statement-in-For.ensures.found lead_give))

pub statement-returns-in_err-repeat_statement-in-Repeat-clause-refused : goal.statement-returns-in_err-repeat_statement-in-Repeat-clause-refused
statement-returns-in_err-repeat_statement-in-Repeat-clause-refused t c = handed_on _ _ _ c.from_residual-in_err-repeat_statement-in-Repeat.ensures.1 (refuses (lead_statement Start.Repeat c.in-Repeat.ensures (lead_call_not c.in_err-repeat_statement-in-Repeat.ensures.refused)))

pub statement-returns-in_ok-repeat_statement-in-Repeat-clause-found : goal.statement-returns-in_ok-repeat_statement-in-Repeat-clause-found
statement-returns-in_ok-repeat_statement-in-Repeat-clause-found t c = finds (lead_statement Start.Repeat c.in-Repeat.ensures (lead_call c.in_ok-repeat_statement-in-Repeat.ensures.found lead_give))

pub statement-returns-in_err-function_statement-in-Function-clause-refused : goal.statement-returns-in_err-function_statement-in-Function-clause-refused
statement-returns-in_err-function_statement-in-Function-clause-refused t c = handed_on _ _ _ c.from_residual-in_err-function_statement-in-Function.ensures.1 (refuses (lead_statement Start.Function c.in-Function.ensures (lead_call_not c.in_err-function_statement-in-Function.ensures.refused)))

pub statement-returns-in_ok-function_statement-in-Function-clause-found : goal.statement-returns-in_ok-function_statement-in-Function-clause-found
statement-returns-in_ok-function_statement-in-Function-clause-found t c = finds (lead_statement Start.Function c.in-Function.ensures (lead_call c.in_ok-function_statement-in-Function.ensures.found lead_give))

pub statement-returns-in_err-local_statement-in-Local-clause-refused : goal.statement-returns-in_err-local_statement-in-Local-clause-refused
statement-returns-in_err-local_statement-in-Local-clause-refused t c = handed_on _ _ _ c.from_residual-in_err-local_statement-in-Local.ensures.1 (refuses (lead_statement Start.Local c.in-Local.ensures (lead_call_not c.in_err-local_statement-in-Local.ensures.refused)))

pub statement-returns-in_ok-local_statement-in-Local-clause-found : goal.statement-returns-in_ok-local_statement-in-Local-clause-found
statement-returns-in_ok-local_statement-in-Local-clause-found t c = finds (lead_statement Start.Local c.in-Local.ensures (lead_call c.in_ok-local_statement-in-Local.ensures.found lead_give))

pub statement-returns-in_err-return_statement-in-Return-clause-refused : goal.statement-returns-in_err-return_statement-in-Return-clause-refused
statement-returns-in_err-return_statement-in-Return-clause-refused t c = handed_on _ _ _ c.from_residual-in_err-return_statement-in-Return.ensures.1 (refuses (lead_statement Start.Return c.in-Return.ensures (lead_call_not c.in_err-return_statement-in-Return.ensures.refused)))

pub statement-returns-in_ok-return_statement-in-Return-clause-found : goal.statement-returns-in_ok-return_statement-in-Return-clause-found
statement-returns-in_ok-return_statement-in-Return-clause-found t c = finds (lead_statement Start.Return c.in-Return.ensures (lead_call c.in_ok-return_statement-in-Return.ensures.found lead_give))

pub statement-returns-in_err-break_statement-in-Break-clause-refused : goal.statement-returns-in_err-break_statement-in-Break-clause-refused
statement-returns-in_err-break_statement-in-Break-clause-refused t c = handed_on _ _ _ c.from_residual-in_err-break_statement-in-Break.ensures.1 (refuses (lead_statement Start.Break c.in-Break.ensures (lead_call_not c.in_err-break_statement-in-Break.ensures.refused)))

pub statement-returns-in_ok-break_statement-in-Break-clause-found : goal.statement-returns-in_ok-break_statement-in-Break-clause-found
statement-returns-in_ok-break_statement-in-Break-clause-found t c = finds (lead_statement Start.Break c.in-Break.ensures (lead_call c.in_ok-break_statement-in-Break.ensures.found lead_give))

pub statement-returns-in_err-expression_statement-in-Expression-clause-refused : goal.statement-returns-in_err-expression_statement-in-Expression-clause-refused
statement-returns-in_err-expression_statement-in-Expression-clause-refused t c = handed_on _ _ _ c.from_residual-in_err-expression_statement-in-Expression.ensures.1 (refuses (lead_statement Start.Expression c.in-Expression.ensures (lead_call_not c.in_err-expression_statement-in-Expression.ensures.refused)))

pub statement-returns-in_ok-expression_statement-in-Expression-clause-found : goal.statement-returns-in_ok-expression_statement-in-Expression-clause-found
statement-returns-in_ok-expression_statement-in-Expression-clause-found t c = finds (lead_statement Start.Expression c.in-Expression.ensures (lead_call c.in_ok-expression_statement-in-Expression.ensures.found lead_give))

pub whole-returns-in_err-whole-in-None-clause-refused : goal.whole-returns-in_err-whole-in-None-clause-refused
whole-returns-in_err-whole-in-None-clause-refused t c = handed_on _ _ _ c.from_residual-in_err-whole-in-None.ensures.1 (refuses (lead_whole None c.in-None.ensures (lead_call c.in_ok-first-in-None.ensures.found (lead_call_not (rw c.next_line-start.ensures at c.in_err-whole-in-None.ensures.refused)))))

pub results-returns-then-is_block_end-clause-found : goal.results-returns-then-is_block_end-clause-found
results-returns-then-is_block_end-clause-found t c = finds (lead_no c.is.ensures c.if-is.false (lead_look (lead_then _ _ _ (sym c.is_block_end.ensures ∙ c.if-is_block_end.true) (lead_answer c.new-then-is_block_end.ensures.view))))

pub results-returns-in_err-list-clause-refused : goal.results-returns-in_err-list-clause-refused
results-returns-in_err-list-clause-refused t c = handed_on _ _ _ c.from_residual.ensures.1 (refuses (lead_no c.is.ensures c.if-is.false (lead_look (lead_else _ _ _ (sym c.is_block_end.ensures ∙ c.if-is_block_end.false) (lead_call_not c.in_err-list.ensures.refused)))))

pub field-returns-in_err-item-clause-refused : goal.field-returns-in_err-item-clause-refused
field-returns-in_err-item-clause-refused t c = handed_on _ _ _ c.from_residual-in_err-item.ensures.1 (refuses (lead_field (Some c.in-Some.name.now) c.in-Some.ensures (lead_skip c.in_ok-take.ensures.taken refl (lead_call_not (rw (c.in_ok-name.ensures, c.next_line-line.ensures) at c.in_err-item.ensures.refused)))))

pub field-returns-in_err-item-2-clause-refused : goal.field-returns-in_err-item-2-clause-refused
field-returns-in_err-item-2-clause-refused t c = handed_on _ _ _ c.from_residual-in_err-item-2.ensures.1 (refuses (lead_field None c.in_default.ensures (lead_yes c.is.ensures c.if-is.true (lead_call_not c.in_err-item-2.ensures.refused))))

pub prefix-returns-in_err-whole-clause-refused : goal.prefix-returns-in_err-whole-clause-refused
prefix-returns-in_err-whole-clause-refused t c = handed_on _ _ _ c.from_residual-in_err-whole.ensures.1 (refuses (lead_prefix (Some c.in-Some.name.now) c.in-Some.ensures (lead_skip c.in_ok-take.ensures.taken refl (lead_call_not (rw (c.in_ok-part.ensures, c.in_ok-name.ensures, c.next_line-line.ensures) at c.in_err-whole.ensures.refused)))))

pub prefix-returns-in_err-whole-2-clause-refused : goal.prefix-returns-in_err-whole-2-clause-refused
prefix-returns-in_err-whole-2-clause-refused t c = handed_on _ _ _ c.from_residual-in_err-whole-2.ensures.1 (refuses (lead_prefix None c.in_default.ensures (lead_yes c.is.ensures c.if-not-is.false (lead_call c.in_ok-first.ensures.found (lead_call_not c.in_err-whole-2.ensures.refused)))))

pub simple-returns-in_err-function-clause-refused : goal.simple-returns-in_err-function-clause-refused
simple-returns-in_err-function-clause-refused t c = handed_on _ _ _ c.from_residual-in_err-function.ensures.1 (refuses (lead_simple None (rw c.in_default.is at c.in_ok-part.ensures) (lead_yes c.is.ensures c.if-is.true (lead_call_not c.in_err-function.ensures.refused))))

pub simple-returns-in_err-table-clause-refused : goal.simple-returns-in_err-table-clause-refused
simple-returns-in_err-table-clause-refused t c = handed_on _ _ _ c.from_residual-in_err-table.ensures.1 (refuses (lead_simple None (rw c.in_default.is at c.in_ok-part.ensures) (lead_no c.is.ensures c.if-is.false (lead_yes c.is-2.ensures c.if-is-2.true (lead_call_not c.in_err-table.ensures.refused)))))

pub simple-returns-in_err-prefix-clause-refused : goal.simple-returns-in_err-prefix-clause-refused
simple-returns-in_err-prefix-clause-refused t c = handed_on _ _ _ c.from_residual-in_err-prefix.ensures.1 (refuses (lead_simple None (rw c.in_default.is at c.in_ok-part.ensures) (lead_no c.is.ensures c.if-is.false (lead_no c.is-2.ensures c.if-is-2.false (lead_call_not c.in_err-prefix.ensures.refused)))))

pub simple-returns-clause-found : goal.simple-returns-clause-found
simple-returns-clause-found t c = finds (lead_simple None (rw c.in_default.is at c.in_ok-part.ensures) (lead_no c.is.ensures c.if-is.false (lead_no c.is-2.ensures c.if-is-2.false (lead_call c.in_ok-prefix.ensures.found lead_give))))

pub whole-returns-in_err-whole-in-Some-clause-refused : goal.whole-returns-in_err-whole-in-Some-clause-refused
whole-returns-in_err-whole-in-Some-clause-refused t c = handed_on _ _ _ c.from_residual-in_err-whole-in-Some.ensures.1 (refuses (lead_whole (Some c.in-Some.op) c.in-Some.ensures (lead_skip c.in_ok-take-in-Some.ensures.taken refl (lead_call c.in_ok-of-in-Some.ensures.found (lead_call_not (rw (c.in_ok-unary-in-Some.ensures, c.next_line-start.ensures) at c.in_err-whole-in-Some.ensures.refused))))))

pub whole-returns-in_ok-whole-in-Some-clause-found : goal.whole-returns-in_ok-whole-in-Some-clause-found
whole-returns-in_ok-whole-in-Some-clause-found t c = finds (lead_whole (Some c.in-Some.op) c.in-Some.ensures (lead_skip c.in_ok-take-in-Some.ensures.taken refl (lead_call c.in_ok-of-in-Some.ensures.found (lead_call (rw (c.in_ok-unary-in-Some.ensures, c.next_line-start.ensures) at c.in_ok-whole-in-Some.ensures.found) lead_give))))

pub whole-returns-in_ok-whole-in-None-clause-found : goal.whole-returns-in_ok-whole-in-None-clause-found
whole-returns-in_ok-whole-in-None-clause-found t c = finds (lead_whole None c.in-None.ensures (lead_call c.in_ok-first-in-None.ensures.found (lead_call (rw c.next_line-start.ensures at c.in_ok-whole-in-None.ensures.found) lead_give)))

pub climb-returns-then-left_power-limit-clause-found : goal.climb-returns-then-left_power-limit-clause-found
climb-returns-then-left_power-limit-clause-found t c = finds (c.loop-op.invariant.leads _ (lead_climb c.args.depth c.args.limit c.args.start _ (Some c.in-Some.op) c.in-Some.ensures (lead_else _ _ _ (power_below c.if-left_power-limit.true c.left_power.ensures) lead_give)))

pub block-returns-then-last-clause-found : goal.block-returns-then-last-clause-found
block-returns-then-last-clause-found t c = finds (c.loop-alloc.invariant.leads _ (rw (c.in_ok-push.ensures.view, c.next_line-line.ensures) (statement_last _ c.is_block_end.ensures c.loop-alloc-test.true c.in_ok-statement.ensures.found c.semicolon-semi.ensures.found (sym c.ends_block-last.ensures ∙ c.if-last.true))))

pub block-returns-then-last-clause-height : goal.block-returns-then-last-clause-height
block-returns-then-last-clause-height t c = rw (c.in_ok-push.ensures.view, statements_depth, ← c.in_ok-statement.ensures.height, ← c.loop-alloc.invariant.height) c.max.ensures

pub fields-returns-in-Missing-clause-found : goal.fields-returns-in-Missing-clause-found
fields-returns-in-Missing-clause-found t c = finds (c.loop-alloc.invariant.leads _ (rw (c.in_ok-push.ensures.view, view_add) (field_last _ c.is.ensures c.loop-alloc-test.true c.in_ok-item.ensures.found c.separator-sep.ensures.found c.in-Missing.is)))

pub fields-returns-in-Missing-clause-height : goal.fields-returns-in-Missing-clause-height
fields-returns-in-Missing-clause-height t c = rw (c.in_ok-push.ensures.view, view_add, fields_depth, ← c.in_ok-item.ensures.height, ← c.loop-alloc.invariant.height) c.max.ensures

pub if_statement-returns-in_err-take-clause-refused : goal.if_statement-returns-in_err-take-clause-refused
if_statement-returns-in_err-take-clause-refused t c = handed_on _ _ _ c.from_residual.ensures.1 (refuses (lead_skip_not c.in_err-take.ensures.not_taken refl))

pub if_statement-returns-in_err-first-clause-refused : goal.if_statement-returns-in_err-first-clause-refused
if_statement-returns-in_err-first-clause-refused t c = handed_on _ _ _ c.from_residual-in_err-first.ensures.1 (refuses (lead_skip c.in_ok-take.ensures.taken refl (c.in_err-first.ensures.refused.leads _ (λ cond inside. if_with c.args.depth (branch cond inside no_branches)))))

pub if_statement-loop-self-init : goal.if_statement-loop-self-init
if_statement-loop-self-init t c = record { leads = λ outcome l. lead_skip c.in_ok-take.ensures.taken refl (c.in_ok-first.ensures.found.leads _ (λ cond inside. if_with c.args.depth (branch cond inside no_branches)) outcome (rw (c.in_ok-push.ensures.view, c.new.ensures.view, arm_view) at l)); height = rw (c.in_ok-push.ensures.view, c.new.ensures.view, arm_view) (let h = c.in_ok-first.ensures.height in omega arith); low = search rules; inside = search rules; shorter = search rules }

pub if_statement-returns-in_err-arm-clause-refused : goal.if_statement-returns-in_err-arm-clause-refused
if_statement-returns-in_err-arm-clause-refused t c = handed_on _ _ _ c.from_residual-in_err-arm.ensures.1 (refuses (c.loop-self.invariant.leads _ (lead_call_not (refuses (lead_yes c.is.ensures c.loop-self-test.true (lead_skip c.in_ok-take-2.ensures.taken refl (c.in_err-arm.ensures.refused.leads _ (λ cond inside. call (branches c.args.depth) (λ left. give (record { branches = branch cond inside left.branches; last = left.last }))))))))))

pub if_statement-loop-self-preserved : goal.if_statement-loop-self-preserved
if_statement-loop-self-preserved t c = record { leads = λ outcome l. c.loop-self.invariant.leads outcome (branch_turn _ c.is.ensures c.loop-self-test.true c.in_ok-take-2.ensures.taken refl c.in_ok-arm.ensures.found (rw (c.in_ok-push-2.ensures.view, arm_view) at l)); height = rw (c.in_ok-push-2.ensures.view, arm_view, branches_depth, ← c.in_ok-arm.ensures.height, ← c.loop-self.invariant.height) c.max.ensures; low = search rules; inside = search rules; shorter = search rules }

pub if_statement-returns-in_err-last-clause-refused : goal.if_statement-returns-in_err-last-clause-refused
if_statement-returns-in_err-last-clause-refused t c = handed_on _ _ _ c.from_residual-in_err-last.ensures.1 (refuses (c.loop-self.invariant.leads _ (lead_call_not (refuses (lead_no c.is.ensures c.loop-self-test.false (lead_accept c.accept.ensures.accepted c.if-accept.true (lead_call_not c.in_err-last.ensures.refused)))))))

pub if_statement-returns-in_err-want-clause-refused : goal.if_statement-returns-in_err-want-clause-refused
if_statement-returns-in_err-want-clause-refused t c = handed_on _ _ _ c.from_residual-in_err-want.ensures.1 (refuses (c.loop-self.invariant.leads _ (lead_call (finds (lead_no c.is.ensures c.loop-self-test.false (lead_accept c.accept.ensures.accepted c.if-accept.true (lead_call c.in_ok-last.ensures.found lead_give)))) (lead_want_not c.in_err-want.ensures.not_taken))))

pub if_statement-returns-then-accept-clause-found : goal.if_statement-returns-then-accept-clause-found
if_statement-returns-then-accept-clause-found t c = finds (c.loop-self.invariant.leads _ (lead_call (finds (lead_no c.is.ensures c.loop-self-test.false (lead_accept c.accept.ensures.accepted c.if-accept.true (lead_call c.in_ok-last.ensures.found lead_give)))) (lead_want c.in_ok-want.ensures.taken (rw branches_end lead_give))))

pub if_statement-returns-in_err-want-2-clause-refused : goal.if_statement-returns-in_err-want-2-clause-refused
if_statement-returns-in_err-want-2-clause-refused t c = handed_on _ _ _ c.from_residual-in_err-want-2.ensures.1 (refuses (c.loop-self.invariant.leads _ (lead_call (finds (lead_no c.is.ensures c.loop-self-test.false (lead_leave c.accept.ensures.accepted c.if-accept.false lead_give))) (lead_want_not c.in_err-want-2.ensures.not_taken))))

pub if_statement-returns-clause-found : goal.if_statement-returns-clause-found
if_statement-returns-clause-found t c = finds (c.loop-self.invariant.leads _ (lead_call (finds (lead_no c.is.ensures c.loop-self-test.false (lead_leave c.accept.ensures.accepted c.if-accept.false lead_give))) (lead_want c.in_ok-want-2.ensures.taken (rw branches_end lead_give))))
