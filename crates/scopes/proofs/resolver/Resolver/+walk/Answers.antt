use Rattle.std.proofs.Common.{rules, arith, refl, ap, ◌∙◌, inl, inr, [], ◌∷◌, ◌+◌, length, false}
use Rattle.std.proofs.lemmas.Grind.{common_steps}
use Rattle.lua_tree.specs.Outline.{both, within, in_loop, with_locals, come, all_params, statements_part, body_part, expressions_part, expression_part, arguments_part}
use Rattle.lua_tree.specs.View.{view_block, view_body, view_exps, view_exp, view_args}
use Rattle.lua_tree.specs.declared.tree.Body.{out-Body}
use Rattle.scopes.specs.Standing.{Keeps, last_part, step_part_of}
use Rattle.scopes.proofs.Goings.{goes_both, goes_first, goes_handed, goes_as, goes_within, goes_within_broken}
use Rattle.scopes.proofs.Entrances.{goes_dots, goes_leave, enters_loop, enters_for, goes_function, goes_function_broken}
use Rattle.scopes.proofs.Declaring.{declares_too_many, goes_for, goes_for_values, goes_named, goes_local, goes_local_values}
use Rattle.scopes.proofs.KindParts.{if_part, numeric_part, view_body_parts, counted_params, sound_loop, sound_opened, sound_left, true_if_not_false}
use Rattle.scopes.proofs.Turns.{statements_turn, statements_break, statements_end, expressions_turn, expressions_break, expressions_end, branches_turn, branches_break, branches_broken, branches_end, fields_turn, fields_break, fields_end, extends_both, keeps_both}
use Rattle.scopes.proofs.resolver.Resolver.+walk.Goals as goal

pub expression-returns-in_err-expression-in-Index-clause-goes : goal.expression-returns-in_err-expression-in-Index-clause-goes
expression-returns-in_err-expression-in-Index-clause-goes t c = rw c.in-Index.is (goes_handed _ _ c.from_residual.ensures.1 (goes_first (expression_part (view_exp c.in-Index.key.value)) (rw c.deref.ensures at c.in_err-expression-in-Index.ensures.goes)))

pub expression-returns-in_ok-expression-in-Index-clause-goes : goal.expression-returns-in_ok-expression-in-Index-clause-goes
expression-returns-in_ok-expression-in-Index-clause-goes t c = rw c.in-Index.is (goes_both (rw c.deref.ensures at c.in_ok-expression-in-Index.ensures.goes) c.in_ok-expression-in-Index.ensures.sound (rw c.deref-in-Index.ensures at c.expression-in-Index.ensures.goes))

pub expression-returns-in_err-expression-in-Binary-clause-goes : goal.expression-returns-in_err-expression-in-Binary-clause-goes
expression-returns-in_err-expression-in-Binary-clause-goes t c = rw c.in-Binary.is (goes_handed _ _ c.from_residual-in_err-expression-in-Binary.ensures.1 (goes_first (expression_part (view_exp c.in-Binary.right.value)) (rw c.deref-in-Binary.ensures at c.in_err-expression-in-Binary.ensures.goes)))

pub expression-returns-in_ok-expression-in-Binary-clause-goes : goal.expression-returns-in_ok-expression-in-Binary-clause-goes
expression-returns-in_ok-expression-in-Binary-clause-goes t c = rw c.in-Binary.is (goes_both (rw c.deref-in-Binary.ensures at c.in_ok-expression-in-Binary.ensures.goes) c.in_ok-expression-in-Binary.ensures.sound (rw c.deref-in-Binary-2.ensures at c.expression-in-Binary-2.ensures.goes))

pub expression-returns-in_err-expression-in-And-clause-goes : goal.expression-returns-in_err-expression-in-And-clause-goes
expression-returns-in_err-expression-in-And-clause-goes t c = elim c.in-And.is [ inl e ↦ rw e (goes_handed _ _ c.from_residual-in_err-expression-in-And.ensures.1 (goes_first (expression_part (view_exp c.in-And.right.value)) (rw c.deref-in-And.ensures at c.in_err-expression-in-And.ensures.goes))) | inr e ↦ rw e (goes_handed _ _ c.from_residual-in_err-expression-in-And.ensures.1 (goes_first (expression_part (view_exp c.in-And.right.value)) (rw c.deref-in-And.ensures at c.in_err-expression-in-And.ensures.goes))) ]

pub expression-returns-in_ok-expression-in-And-clause-goes : goal.expression-returns-in_ok-expression-in-And-clause-goes
expression-returns-in_ok-expression-in-And-clause-goes t c = elim c.in-And.is [ inl e ↦ rw e (goes_both (rw c.deref-in-And.ensures at c.in_ok-expression-in-And.ensures.goes) c.in_ok-expression-in-And.ensures.sound (rw c.deref-in-And-2.ensures at c.expression-in-And-2.ensures.goes)) | inr e ↦ rw e (goes_both (rw c.deref-in-And.ensures at c.in_ok-expression-in-And.ensures.goes) c.in_ok-expression-in-And.ensures.sound (rw c.deref-in-And-2.ensures at c.expression-in-And-2.ensures.goes)) ]

pub expression-returns-in_err-expression-in-Call-clause-goes : goal.expression-returns-in_err-expression-in-Call-clause-goes
expression-returns-in_err-expression-in-Call-clause-goes t c = elim c.in-Call.is [ inl e ↦ rw e.1 (goes_handed _ _ c.from_residual-in_err-expression-in-Call.ensures.1 (goes_first (arguments_part (view_args c.in-Call.args)) (rw c.deref-in-Call.ensures at c.in_err-expression-in-Call.ensures.goes))) | inr e ↦ rw e.2 (goes_handed _ _ c.from_residual-in_err-expression-in-Call.ensures.1 (goes_first (arguments_part (view_args c.in-Call.args)) (rw c.deref-in-Call.ensures at c.in_err-expression-in-Call.ensures.goes))) ]

pub expression-returns-in_ok-expression-in-Call-clause-goes : goal.expression-returns-in_ok-expression-in-Call-clause-goes
expression-returns-in_ok-expression-in-Call-clause-goes t c = elim c.in-Call.is [ inl e ↦ rw e.1 (goes_both (rw c.deref-in-Call.ensures at c.in_ok-expression-in-Call.ensures.goes) c.in_ok-expression-in-Call.ensures.sound c.arguments.ensures.goes) | inr e ↦ rw e.2 (goes_both (rw c.deref-in-Call.ensures at c.in_ok-expression-in-Call.ensures.goes) c.in_ok-expression-in-Call.ensures.sound c.arguments.ensures.goes) ]

pub expression-returns-else-not-self-clause-goes : goal.expression-returns-else-not-self-clause-goes
expression-returns-else-not-self-clause-goes t c = rw c.in-Vararg.is (goes_dots c.args.expression.now.line (search (rules, true_if_not_false)))

pub loop_block-returns-in_err-statements-clause-goes : goal.loop_block-returns-in_err-statements-clause-goes
loop_block-returns-in_err-statements-clause-goes t c = goes_handed _ _ c.from_residual.ensures.1 (goes_within_broken enters_loop (sound_loop c.requires) c.in_err-statements.ensures.goes)

pub loop_block-returns-clause-goes : goal.loop_block-returns-clause-goes
loop_block-returns-clause-goes t c = let keeps : Keeps c.args.self.now c.leave.new.self = first_of (search rules, grind (arith, common_steps)) in goes_within enters_loop (sound_loop c.requires) c.in_ok-statements.ensures.goes c.leave.ensures keeps

pub for_block-returns-in_err-statements-clause-goes : goal.for_block-returns-in_err-statements-clause-goes
for_block-returns-in_err-statements-clause-goes t c = goes_handed _ _ c.from_residual-in_err-statements.ensures.1 (goes_within_broken (enters_for c.args.names.now c.args.first c.in_ok-bring.ensures.brought) (sound_loop c.in_ok-bring.ensures.sound) c.in_err-statements.ensures.goes)

pub for_block-returns-clause-goes : goal.for_block-returns-clause-goes
for_block-returns-clause-goes t c = let keeps : Keeps c.args.self.now c.leave.new.self = first_of (search rules, grind (arith, common_steps)) in goes_within (enters_for c.args.names.now c.args.first c.in_ok-bring.ensures.brought) (sound_loop c.in_ok-bring.ensures.sound) c.in_ok-statements.ensures.goes c.leave.ensures keeps

pub statement-returns-in_err-statements-in-Repeat-clause-goes : goal.statement-returns-in_err-statements-in-Repeat-clause-goes
statement-returns-in_err-statements-in-Repeat-clause-goes t c = rw c.in-Repeat.is (goes_handed _ _ c.from_residual-in_err-statements-in-Repeat.ensures.1 (goes_within_broken enters_loop (sound_loop c.requires) (goes_first (expression_part (view_exp c.in-Repeat.cond)) c.in_err-statements-in-Repeat.ensures.goes)))

pub statement-returns-in_err-expression-in-Repeat-clause-goes : goal.statement-returns-in_err-expression-in-Repeat-clause-goes
statement-returns-in_err-expression-in-Repeat-clause-goes t c = rw c.in-Repeat.is (goes_handed _ _ c.from_residual-in_err-expression-in-Repeat.ensures.1 (goes_within_broken enters_loop (sound_loop c.requires) (goes_both c.in_ok-statements-in-Repeat.ensures.goes c.in_ok-statements-in-Repeat.ensures.sound c.in_err-expression-in-Repeat.ensures.goes)))

pub statement-returns-in_ok-expression-in-Repeat-clause-goes : goal.statement-returns-in_ok-expression-in-Repeat-clause-goes
statement-returns-in_ok-expression-in-Repeat-clause-goes t c = let keeps : Keeps c.args.self.now c.leave.new.self = first_of (search rules, grind (arith, common_steps)) in rw c.in-Repeat.is (goes_within enters_loop (sound_loop c.requires) (goes_both c.in_ok-statements-in-Repeat.ensures.goes c.in_ok-statements-in-Repeat.ensures.sound c.in_ok-expression-in-Repeat.ensures.goes) c.leave.ensures keeps)

pub statement-returns-in_err-expressions-in-Assign-clause-goes : goal.statement-returns-in_err-expressions-in-Assign-clause-goes
statement-returns-in_err-expressions-in-Assign-clause-goes t c = rw c.in-Assign.is (goes_handed _ _ c.from_residual.ensures.1 (goes_first (expressions_part (view_exps c.in-Assign.exps)) c.in_err-expressions-in-Assign.ensures.goes))

pub statement-returns-in_ok-expressions-in-Assign-clause-goes : goal.statement-returns-in_ok-expressions-in-Assign-clause-goes
statement-returns-in_ok-expressions-in-Assign-clause-goes t c = rw c.in-Assign.is (goes_both c.in_ok-expressions-in-Assign.ensures.goes c.in_ok-expressions-in-Assign.ensures.sound c.expressions-in-Assign.ensures.goes)

pub statement-returns-in_err-expression-in-While-clause-goes : goal.statement-returns-in_err-expression-in-While-clause-goes
statement-returns-in_err-expression-in-While-clause-goes t c = rw c.in-While.is (goes_handed _ _ c.from_residual-in_err-expression-in-While.ensures.1 (goes_first (within in_loop (statements_part (view_block c.in-While.body))) c.in_err-expression-in-While.ensures.goes))

pub statement-returns-in_ok-expression-in-While-clause-goes : goal.statement-returns-in_ok-expression-in-While-clause-goes
statement-returns-in_ok-expression-in-While-clause-goes t c = rw c.in-While.is (goes_both c.in_ok-expression-in-While.ensures.goes c.in_ok-expression-in-While.ensures.sound c.loop_block.ensures.goes)

pub statement-returns-in_err-branches-in-If-clause-goes : goal.statement-returns-in_err-branches-in-If-clause-goes
statement-returns-in_err-branches-in-If-clause-goes t c = goes_as (if_part _ c.args.line c.in-If.arms c.in-If.last c.in-If.is) (goes_handed _ _ c.from_residual-in_err-branches-in-If.ensures.1 (goes_first (last_part c.in-If.last) c.in_err-branches-in-If.ensures.goes))

pub statement-returns-in_ok-branches-in-If-clause-goes : goal.statement-returns-in_ok-branches-in-If-clause-goes
statement-returns-in_ok-branches-in-If-clause-goes t c = goes_as (if_part _ c.args.line c.in-If.arms c.in-If.last c.in-If.is) (goes_both c.in_ok-branches-in-If.ensures.goes c.in_ok-branches-in-If.ensures.sound c.last_block.ensures.goes)

pub statement-returns-in_err-expression-in-NumFor-clause-goes : goal.statement-returns-in_err-expression-in-NumFor-clause-goes
statement-returns-in_err-expression-in-NumFor-clause-goes t c = goes_as (numeric_part _ c.args.line c.in-NumFor.name c.in-NumFor.from c.in-NumFor.to c.in-NumFor.step c.in-NumFor.body c.in-NumFor.is) (goes_handed _ _ c.from_residual-in_err-expression-in-NumFor.ensures.1 (goes_for_values c.args.line (c.in-NumFor.name ∷ []) (both (expression_part (view_exp c.in-NumFor.from)) (both (expression_part (view_exp c.in-NumFor.to)) (step_part_of c.in-NumFor.step))) (statements_part (view_block c.in-NumFor.body)) 1 refl c.in_ok-declare-in-NumFor.ensures.declared c.in_ok-declare-in-NumFor.ensures.fits c.in_ok-declare-in-NumFor.ensures.sound (goes_first (both (expression_part (view_exp c.in-NumFor.to)) (step_part_of c.in-NumFor.step)) c.in_err-expression-in-NumFor.ensures.goes)))

pub statement-returns-in_err-expression-in-NumFor-2-clause-goes : goal.statement-returns-in_err-expression-in-NumFor-2-clause-goes
statement-returns-in_err-expression-in-NumFor-2-clause-goes t c = goes_as (numeric_part _ c.args.line c.in-NumFor.name c.in-NumFor.from c.in-NumFor.to c.in-NumFor.step c.in-NumFor.body c.in-NumFor.is) (goes_handed _ _ c.from_residual-in_err-expression-in-NumFor-2.ensures.1 (goes_for_values c.args.line (c.in-NumFor.name ∷ []) (both (expression_part (view_exp c.in-NumFor.from)) (both (expression_part (view_exp c.in-NumFor.to)) (step_part_of c.in-NumFor.step))) (statements_part (view_block c.in-NumFor.body)) 1 refl c.in_ok-declare-in-NumFor.ensures.declared c.in_ok-declare-in-NumFor.ensures.fits c.in_ok-declare-in-NumFor.ensures.sound (goes_both c.in_ok-expression-in-NumFor.ensures.goes c.in_ok-expression-in-NumFor.ensures.sound (goes_first (step_part_of c.in-NumFor.step) c.in_err-expression-in-NumFor-2.ensures.goes))))

pub statement-returns-in_err-step-in-NumFor-clause-goes : goal.statement-returns-in_err-step-in-NumFor-clause-goes
statement-returns-in_err-step-in-NumFor-clause-goes t c = goes_as (numeric_part _ c.args.line c.in-NumFor.name c.in-NumFor.from c.in-NumFor.to c.in-NumFor.step c.in-NumFor.body c.in-NumFor.is) (goes_handed _ _ c.from_residual-in_err-step-in-NumFor.ensures.1 (goes_for_values c.args.line (c.in-NumFor.name ∷ []) (both (expression_part (view_exp c.in-NumFor.from)) (both (expression_part (view_exp c.in-NumFor.to)) (step_part_of c.in-NumFor.step))) (statements_part (view_block c.in-NumFor.body)) 1 refl c.in_ok-declare-in-NumFor.ensures.declared c.in_ok-declare-in-NumFor.ensures.fits c.in_ok-declare-in-NumFor.ensures.sound (goes_both c.in_ok-expression-in-NumFor.ensures.goes c.in_ok-expression-in-NumFor.ensures.sound (goes_both c.in_ok-expression-in-NumFor-2.ensures.goes c.in_ok-expression-in-NumFor-2.ensures.sound c.in_err-step-in-NumFor.ensures.goes))))

pub statement-returns-in_ok-step-in-NumFor-clause-goes : goal.statement-returns-in_ok-step-in-NumFor-clause-goes
statement-returns-in_ok-step-in-NumFor-clause-goes t c = goes_as (numeric_part _ c.args.line c.in-NumFor.name c.in-NumFor.from c.in-NumFor.to c.in-NumFor.step c.in-NumFor.body c.in-NumFor.is) (goes_for c.args.line (c.in-NumFor.name ∷ []) c.from_ref.result.now (both (expression_part (view_exp c.in-NumFor.from)) (both (expression_part (view_exp c.in-NumFor.to)) (step_part_of c.in-NumFor.step))) (statements_part (view_block c.in-NumFor.body)) 1 c.len-first.result refl c.in_ok-declare-in-NumFor.ensures.declared c.in_ok-declare-in-NumFor.ensures.fits c.in_ok-declare-in-NumFor.ensures.sound (c.len-first.ensures ∙ c.args.self.now.captured.ok.0) c.from_ref.ensures.value (goes_both c.in_ok-expression-in-NumFor.ensures.goes c.in_ok-expression-in-NumFor.ensures.sound (goes_both c.in_ok-expression-in-NumFor-2.ensures.goes c.in_ok-expression-in-NumFor-2.ensures.sound c.in_ok-step-in-NumFor.ensures.goes)) c.in_ok-step-in-NumFor.ensures.sound c.for_block.ensures.goes)

pub statement-returns-in_err-declare-in-GenFor-clause-goes : goal.statement-returns-in_err-declare-in-GenFor-clause-goes
statement-returns-in_err-declare-in-GenFor-clause-goes t c = rw c.in-GenFor.is (goes_handed _ _ c.from_residual-in_err-declare-in-GenFor.ensures.1 (declares_too_many c.args.line 3 c.in-GenFor.names (λ n. both (expressions_part (view_exps c.in-GenFor.exps)) (within (λ inside. in_loop (with_locals 3 c.in-GenFor.names n inside)) (statements_part (view_block c.in-GenFor.body)))) (length c.items.result.now) _ (ap length c.items.ensures) c.in_err-declare-in-GenFor.ensures.fault))

pub statement-returns-in_err-expressions-in-GenFor-clause-goes : goal.statement-returns-in_err-expressions-in-GenFor-clause-goes
statement-returns-in_err-expressions-in-GenFor-clause-goes t c = rw c.in-GenFor.is (goes_handed _ _ c.from_residual-in_err-expressions-in-GenFor.ensures.1 (goes_for_values c.args.line c.in-GenFor.names (expressions_part (view_exps c.in-GenFor.exps)) (statements_part (view_block c.in-GenFor.body)) (length c.items.result.now) (ap length c.items.ensures) c.in_ok-declare-in-GenFor.ensures.declared c.in_ok-declare-in-GenFor.ensures.fits c.in_ok-declare-in-GenFor.ensures.sound c.in_err-expressions-in-GenFor.ensures.goes))

pub statement-returns-in_ok-expressions-in-GenFor-clause-goes : goal.statement-returns-in_ok-expressions-in-GenFor-clause-goes
statement-returns-in_ok-expressions-in-GenFor-clause-goes t c = rw c.in-GenFor.is (goes_for c.args.line c.in-GenFor.names c.items-in-GenFor.result.now (expressions_part (view_exps c.in-GenFor.exps)) (statements_part (view_block c.in-GenFor.body)) (length c.items.result.now) c.len-first-in-GenFor.result (ap length c.items.ensures) c.in_ok-declare-in-GenFor.ensures.declared c.in_ok-declare-in-GenFor.ensures.fits c.in_ok-declare-in-GenFor.ensures.sound (c.len-first-in-GenFor.ensures ∙ c.args.self.now.captured.ok.0) c.items-in-GenFor.ensures c.in_ok-expressions-in-GenFor.ensures.goes c.in_ok-expressions-in-GenFor.ensures.sound c.for_block-in-GenFor.ensures.goes)

pub statement-returns-in_err-declare-in-Local-clause-goes : goal.statement-returns-in_err-declare-in-Local-clause-goes
statement-returns-in_err-declare-in-Local-clause-goes t c = rw c.in-Local.is (goes_handed _ _ c.from_residual-in_err-declare-in-Local.ensures.1 (declares_too_many c.args.line 0 c.in-Local.names (λ n. both (expressions_part (view_exps c.in-Local.exps)) (come 0 c.in-Local.names n)) (length c.items-in-Local.result.now) _ (ap length c.items-in-Local.ensures) c.in_err-declare-in-Local.ensures.fault))

pub statement-returns-in_err-expressions-in-Local-clause-goes : goal.statement-returns-in_err-expressions-in-Local-clause-goes
statement-returns-in_err-expressions-in-Local-clause-goes t c = rw c.in-Local.is (goes_handed _ _ c.from_residual-in_err-expressions-in-Local.ensures.1 (goes_local_values c.args.line c.in-Local.names (expressions_part (view_exps c.in-Local.exps)) (length c.items-in-Local.result.now) (ap length c.items-in-Local.ensures) c.in_ok-declare-in-Local.ensures.declared c.in_ok-declare-in-Local.ensures.fits c.in_ok-declare-in-Local.ensures.sound c.in_err-expressions-in-Local.ensures.goes))

pub statement-returns-in_ok-bring-in-Local-clause-goes : goal.statement-returns-in_ok-bring-in-Local-clause-goes
statement-returns-in_ok-bring-in-Local-clause-goes t c = rw c.in-Local.is (goes_local c.args.line c.in-Local.names c.items-in-Local-2.result.now (expressions_part (view_exps c.in-Local.exps)) (length c.items-in-Local.result.now) c.len-first-in-Local.result (ap length c.items-in-Local.ensures) c.in_ok-declare-in-Local.ensures.declared c.in_ok-declare-in-Local.ensures.fits c.in_ok-declare-in-Local.ensures.sound (c.len-first-in-Local.ensures ∙ c.args.self.now.captured.ok.0) c.items-in-Local-2.ensures c.in_ok-expressions-in-Local.ensures.goes c.in_ok-expressions-in-Local.ensures.sound c.in_ok-bring-in-Local.ensures.brought)

pub statement-returns-in_ok-bring_one-in-LocalFunction-clause-goes : goal.statement-returns-in_ok-bring_one-in-LocalFunction-clause-goes
statement-returns-in_ok-bring_one-in-LocalFunction-clause-goes t c = rw c.in-LocalFunction.is (goes_named c.args.line (c.in-LocalFunction.name ∷ []) (c.bytes.result.now ∷ []) (body_part false (view_body c.in-LocalFunction.body)) 1 c.len-first-in-LocalFunction.result refl c.in_ok-declare-in-LocalFunction.ensures.declared c.in_ok-declare-in-LocalFunction.ensures.fits c.in_ok-declare-in-LocalFunction.ensures.sound (c.len-first-in-LocalFunction.ensures ∙ c.args.self.now.captured.ok.0) (ap (λ name. name ∷ []) c.bytes.ensures) c.in_ok-bring_one-in-LocalFunction.ensures.brought c.in_ok-bring_one-in-LocalFunction.ensures.sound c.function-in-LocalFunction.ensures.goes)

pub statement-returns-in_ok-mention_path-in-Function-clause-goes : goal.statement-returns-in_ok-mention_path-in-Function-clause-goes
statement-returns-in_ok-mention_path-in-Function-clause-goes t c = rw c.in-Function.is (goes_both c.in_ok-mention_path-in-Function.ensures.goes c.in_ok-mention_path-in-Function.ensures.sound (rw c.is_some.ensures at c.function.ensures.goes))

pub function-returns-in_err-declare-clause-goes : goal.function-returns-in_err-declare-clause-goes
function-returns-in_err-declare-clause-goes t c = goes_as (ap (body_part c.args.method) (view_body_parts c.args.body.now)) (goes_handed _ _ c.from_residual-in_err-declare.ensures.1 (goes_function_broken c.in_ok-open.ensures (sound_opened c.requires c.in_ok-open.ensures) (declares_too_many (out-Body c.args.body.now).first_line 0 (all_params c.args.method (out-Body c.args.body.now).params) (λ n. both (come 0 (all_params c.args.method (out-Body c.args.body.now).params) n) (statements_part (view_block (out-Body c.args.body.now).block))) (length c.items-params.result.now + c.from.result) _ (counted_params c.args.method (out-Body c.args.body.now).params _ _ (ap length c.items-params.ensures) c.from.ensures) c.in_err-declare.ensures.fault)))

pub function-returns-in_err-statements-clause-goes : goal.function-returns-in_err-statements-clause-goes
function-returns-in_err-statements-clause-goes t c = goes_as (ap (body_part c.args.method) (view_body_parts c.args.body.now)) (goes_handed _ _ c.from_residual-in_err-statements.ensures.1 (goes_function_broken c.in_ok-open.ensures (sound_opened c.requires c.in_ok-open.ensures) (goes_named (out-Body c.args.body.now).first_line (all_params c.args.method (out-Body c.args.body.now).params) (all_params c.args.method c.items-params.result.now) (statements_part (view_block (out-Body c.args.body.now).block)) (length c.items-params.result.now + c.from.result) c.len-first.result (counted_params c.args.method (out-Body c.args.body.now).params _ _ (ap length c.items-params.ensures) c.from.ensures) c.in_ok-declare.ensures.declared c.in_ok-declare.ensures.fits c.in_ok-declare.ensures.sound (c.len-first.ensures ∙ c.open.new.self.captured.ok.0) (ap (all_params c.args.method) c.items-params.ensures) c.in_ok-bring_params.ensures.brought c.in_ok-bring_params.ensures.sound c.in_err-statements.ensures.goes)))

pub function-returns-clause-sound : goal.function-returns-clause-sound
function-returns-clause-sound t c = let keeps : Keeps c.args.self.now c.leave.new.self = first_of (search rules, grind (arith, common_steps)) in sound_left c.requires c.in_ok-statements.ensures.sound c.leave.ensures keeps

pub function-returns-clause-goes : goal.function-returns-clause-goes
function-returns-clause-goes t c = let keeps : Keeps c.args.self.now c.leave.new.self = first_of (search rules, grind (arith, common_steps)) in goes_as (ap (body_part c.args.method) (view_body_parts c.args.body.now)) (goes_function c.in_ok-open.ensures (sound_opened c.requires c.in_ok-open.ensures) (goes_named (out-Body c.args.body.now).first_line (all_params c.args.method (out-Body c.args.body.now).params) (all_params c.args.method c.items-params.result.now) (statements_part (view_block (out-Body c.args.body.now).block)) (length c.items-params.result.now + c.from.result) c.len-first.result (counted_params c.args.method (out-Body c.args.body.now).params _ _ (ap length c.items-params.ensures) c.from.ensures) c.in_ok-declare.ensures.declared c.in_ok-declare.ensures.fits c.in_ok-declare.ensures.sound (c.len-first.ensures ∙ c.open.new.self.captured.ok.0) (ap (all_params c.args.method) c.items-params.ensures) c.in_ok-bring_params.ensures.brought c.in_ok-bring_params.ensures.sound c.in_ok-statements.ensures.goes) c.leave.ensures keeps)

pub field-returns-in_err-expression-in-Keyed-clause-goes : goal.field-returns-in_err-expression-in-Keyed-clause-goes
field-returns-in_err-expression-in-Keyed-clause-goes t c = rw c.in-Keyed.is (goes_handed _ _ c.from_residual.ensures.1 (goes_first (expression_part (view_exp c.in-Keyed.value)) c.in_err-expression-in-Keyed.ensures.goes))

pub field-returns-in_ok-expression-in-Keyed-clause-goes : goal.field-returns-in_ok-expression-in-Keyed-clause-goes
field-returns-in_ok-expression-in-Keyed-clause-goes t c = rw c.in-Keyed.is (goes_both c.in_ok-expression-in-Keyed.ensures.goes c.in_ok-expression-in-Keyed.ensures.sound c.expression-in-Keyed.ensures.goes)

pub statement-returns-else-not-self-clause-goes : goal.statement-returns-else-not-self-clause-goes
statement-returns-else-not-self-clause-goes t c = rw c.in-Break.is (goes_leave c.args.line (search (rules, true_if_not_false)))

pub statements-loop-statement-preserved : goal.statements-loop-statement-preserved
statements-loop-statement-preserved t c = record { sound = c.in_ok-statement.ensures.sound; extends = extends_both c.loop-statement.invariant.extends c.in_ok-statement.ensures.extends; passes = statements_turn c.items-statement-items.result.now c.loop-statement.statement-index c.statement-item.result (omega arith) c.statement-item.is c.loop-statement.invariant.passes c.in_ok-statement.ensures.goes c.in_ok-statement.ensures.sound }

pub expressions-loop-expression-preserved : goal.expressions-loop-expression-preserved
expressions-loop-expression-preserved t c = record { sound = c.in_ok-expression.ensures.sound; keeps = keeps_both c.loop-expression.invariant.keeps c.in_ok-expression.ensures.keeps; passes = expressions_turn c.items-expression-items.result.now c.loop-expression.expression-index c.expression-item.result (omega arith) c.expression-item.is c.loop-expression.invariant.passes c.in_ok-expression.ensures.goes c.in_ok-expression.ensures.sound }

pub branches-loop-arm-preserved : goal.branches-loop-arm-preserved
branches-loop-arm-preserved t c = record { sound = c.in_ok-block.ensures.sound; keeps = keeps_both c.loop-arm.invariant.keeps (keeps_both c.in_ok-expression.ensures.keeps c.in_ok-block.ensures.keeps); passes = branches_turn c.items-arm-items.result.now c.loop-arm.arm-index c.arm-item.result (omega arith) c.arm-item.is c.loop-arm.invariant.passes c.in_ok-expression.ensures.goes c.in_ok-expression.ensures.sound c.in_ok-block.ensures.goes c.in_ok-block.ensures.sound }

pub fields-loop-item-preserved : goal.fields-loop-item-preserved
fields-loop-item-preserved t c = record { sound = c.in_ok-field.ensures.sound; keeps = keeps_both c.loop-item.invariant.keeps c.in_ok-field.ensures.keeps; passes = fields_turn c.items-item-items.result.now c.loop-item.item-index c.item-item.result (omega arith) c.item-item.is c.loop-item.invariant.passes c.in_ok-field.ensures.goes c.in_ok-field.ensures.sound }

pub statements-returns-clause-goes : goal.statements-returns-clause-goes
statements-returns-clause-goes t c = rw c.items-statement-items.ensures.view (statements_end c.items-statement-items.result.now c.loop-statement.statement-index c.loop-statement-test.false c.loop-statement.invariant.passes)

pub statements-returns-in_err-statement-clause-goes : goal.statements-returns-in_err-statement-clause-goes
statements-returns-in_err-statement-clause-goes t c = rw c.items-statement-items.ensures.view (goes_handed _ _ c.from_residual.ensures.1 (statements_break c.items-statement-items.result.now c.loop-statement.statement-index c.statement-item.result (omega arith) c.statement-item.is c.loop-statement.invariant.passes c.in_err-statement.ensures.goes))

pub expressions-returns-clause-goes : goal.expressions-returns-clause-goes
expressions-returns-clause-goes t c = rw c.items-expression-items.ensures.view (expressions_end c.items-expression-items.result.now c.loop-expression.expression-index c.loop-expression-test.false c.loop-expression.invariant.passes)

pub expressions-returns-in_err-expression-clause-goes : goal.expressions-returns-in_err-expression-clause-goes
expressions-returns-in_err-expression-clause-goes t c = rw c.items-expression-items.ensures.view (goes_handed _ _ c.from_residual.ensures.1 (expressions_break c.items-expression-items.result.now c.loop-expression.expression-index c.expression-item.result (omega arith) c.expression-item.is c.loop-expression.invariant.passes c.in_err-expression.ensures.goes))

pub branches-returns-clause-goes : goal.branches-returns-clause-goes
branches-returns-clause-goes t c = rw c.items-arm-items.ensures.view (branches_end c.items-arm-items.result.now c.loop-arm.arm-index c.loop-arm-test.false c.loop-arm.invariant.passes)

pub branches-returns-in_err-expression-clause-goes : goal.branches-returns-in_err-expression-clause-goes
branches-returns-in_err-expression-clause-goes t c = rw c.items-arm-items.ensures.view (goes_handed _ _ c.from_residual.ensures.1 (branches_break c.items-arm-items.result.now c.loop-arm.arm-index c.arm-item.result (omega arith) c.arm-item.is c.loop-arm.invariant.passes c.in_err-expression.ensures.goes))

pub branches-returns-in_err-block-clause-goes : goal.branches-returns-in_err-block-clause-goes
branches-returns-in_err-block-clause-goes t c = rw c.items-arm-items.ensures.view (goes_handed _ _ c.from_residual-in_err-block.ensures.1 (branches_broken c.items-arm-items.result.now c.loop-arm.arm-index c.arm-item.result (omega arith) c.arm-item.is c.loop-arm.invariant.passes c.in_ok-expression.ensures.goes c.in_ok-expression.ensures.sound c.in_err-block.ensures.goes))

pub fields-returns-clause-goes : goal.fields-returns-clause-goes
fields-returns-clause-goes t c = rw c.items-item-items.ensures.view (fields_end c.items-item-items.result.now c.loop-item.item-index c.loop-item-test.false c.loop-item.invariant.passes)

pub fields-returns-in_err-field-clause-goes : goal.fields-returns-in_err-field-clause-goes
fields-returns-in_err-field-clause-goes t c = rw c.items-item-items.ensures.view (goes_handed _ _ c.from_residual.ensures.1 (fields_break c.items-item-items.result.now c.loop-item.item-index c.item-item.result (omega arith) c.item-item.is c.loop-item.invariant.passes c.in_err-field.ensures.goes))
