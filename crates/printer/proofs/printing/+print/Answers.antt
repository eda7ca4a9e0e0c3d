use Rattle.std.proofs.Common.{refl, ◌∙◌, length, drop, take, ◌-◌, Some, arith}
use Rattle.std.proofs.lemmas.Bool.Decides.{nat_tests}
use Rattle.lua_tree.specs.View.{view_exp}
use Rattle.lua_tree.specs.declared.token.TokenKind.{TokenKind}
use Rattle.lua_tree.proofs.TreeViews.{view_exps_first}
use Rattle.lua_tree.specs.TreeLists.{branches_of, expressions_of}
use Rattle.printer.specs.Layout.{more_branches_pieces, expression_pieces, more_expressions_pieces}
use Rattle.printer.specs.Sheets.{arm_pieces}
use Rattle.printer.proofs.SheetLemmas.{put_pieces_append}
use Rattle.printer.proofs.Turns.{put_behind_is, loop_ends, statements_turn, expressions_turn, values_some, view_arms_first, arm_pieces_is, first_arm, arms_turn, body_pieces_is, fields_turn}
use Rattle.printer.proofs.printing.+print.Goals as goal

pub put_arm-returns : goal.put_arm-returns
put_arm-returns t c = rw (arm_pieces_is c.args.blocks c.args.word.now c.args.arm.now) (grind (arith, put_pieces_append))

pub put_arms-loop-arm-preserved : goal.put_arms-loop-arm-preserved
put_arms-loop-arm-preserved t c =
    arms_turn c.args.blocks (take (length c.items.result.now - 1) (drop 1 c.items.result.now)) c.loop-arm.arm-index c.arm-item.result c.loop-arm-test.true c.arm-item.is _ _ _ _ c.loop-arm.invariant c.in_ok-start_line.ensures c.in_ok-put_arm-2.ensures

pub put_arms-returns : goal.put_arms-returns
put_arms-returns t c =
    let others = take (length c.items.result.now - 1) (drop 1 c.items.result.now) in
    let done = loop_ends (λ arms. more_branches_pieces c.args.blocks (branches_of arms)) others c.loop-arm.arm-index c.loop-arm-test.false refl c.loop-arm.invariant in
    rw (view_arms_first c.args.arms.now c.items.result.now c.first-item.result c.items.ensures.items c.in-len1-up.len_at_least c.first-item.is, first_arm c.args.blocks c.first-item.result (branches_of others))
    (done ∙ put_behind_is (arm_pieces c.args.blocks TokenKind.If c.first-item.result) (more_branches_pieces c.args.blocks (branches_of others)) (Some c.args.out.now) c.in_ok-put_arm.ensures)

pub put_block-loop-statement-preserved : goal.put_block-loop-statement-preserved
put_block-loop-statement-preserved t c =
    statements_turn c.args.blocks c.items-statement-items.result.now c.loop-statement.statement-index c.statement-item.result c.loop-statement-test.true c.statement-item.is _ _ _ _ _ c.loop-statement.invariant c.in_ok-start_line.ensures c.in_ok-put_statement.ensures c.in_ok-put_semicolon.ensures

pub put_body-returns : goal.put_body-returns
put_body-returns t c = rw (body_pieces_is c.args.blocks c.args.body.now) (grind (arith, put_pieces_append))

pub put_expressions-loop-expression-preserved : goal.put_expressions-loop-expression-preserved
put_expressions-loop-expression-preserved t c =
    expressions_turn c.args.blocks (take (length c.items.result.now - 1) (drop 1 c.items.result.now)) c.loop-expression.expression-index c.expression-item.result c.loop-expression-test.true c.expression-item.is _ _ _ c.loop-expression.invariant c.in_ok-put_behind.ensures

pub put_expressions-returns : goal.put_expressions-returns
put_expressions-returns t c =
    let others = take (length c.items.result.now - 1) (drop 1 c.items.result.now) in
    let done = loop_ends (λ es. more_expressions_pieces c.args.blocks (expressions_of es)) others c.loop-expression.expression-index c.loop-expression-test.false refl c.loop-expression.invariant in
    rw (view_exps_first c.args.exps.now c.items.result.now c.first-item.result c.items.ensures.items c.in-len1-up.len_at_least c.first-item.is)
    (done ∙ put_behind_is (expression_pieces c.args.blocks (view_exp c.first-item.result)) (more_expressions_pieces c.args.blocks (expressions_of others)) (Some c.args.out.now) c.in_ok-put_expression.ensures)

pub put_fields-loop-item-preserved : goal.put_fields-loop-item-preserved
put_fields-loop-item-preserved t c =
    fields_turn c.args.blocks c.items-item-items.result.now c.loop-item.item-index c.item-item.result c.loop-item-test.true c.item-item.is _ _ _ _ c.loop-item.invariant c.in_ok-put_item.ensures c.in_ok-put_separator.ensures

pub put_values-returns : goal.put_values-returns
put_values-returns t c = rw (values_some c.args.blocks c.args.exps.now c.items.result.now c.items.ensures.items (grind (arith, nat_tests, c.if-is_empty.ensures))) (grind arith)
