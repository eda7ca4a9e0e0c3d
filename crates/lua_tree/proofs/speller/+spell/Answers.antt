use Rattle.std.proofs.Common.{refl, sym, ◌-◌, take, drop, length, append-nil, append_assoc, arith}
use Rattle.std.proofs.lemmas.Bool.Decides.{nat_tests}
use Rattle.lua_tree.specs.Spelling.{spell_statements, spell_arms, spell_fields, more_expressions}
use Rattle.lua_tree.specs.declared.token.TokenKind.{TokenKind}
use Rattle.lua_tree.specs.TreeLists.{statements_of, branches_of, expressions_of, fields_of}
use Rattle.lua_tree.proofs.TreeViews.{view_block_items, view_arms_items, view_items_items, view_exps_empty, view_exps_first, values_some, loop_end}
use Rattle.lua_tree.proofs.speller.+spell.Goals as goal

pub put_block-returns : goal.put_block-returns
put_block-returns t c =
    rw (view_block_items c.args.block.now, ← c.items-statement-items.ensures.items) (loop_end c.loop-statement.out c.args.out.now (spell_statements (statements_of c.items-statement-items.result.now)) (λ ss. spell_statements (statements_of ss)) c.items-statement-items.result.now c.loop-statement.statement-index c.loop-statement-test.false refl c.loop-statement.invariant)

pub put_arms-returns : goal.put_arms-returns
put_arms-returns t c =
    rw (view_arms_items c.args.arms.now, ← c.items-arm-items.ensures.items) (loop_end c.loop-arm.out c.args.out.now (spell_arms (branches_of c.items-arm-items.result.now) TokenKind.If) (λ bs. spell_arms (branches_of bs) c.loop-arm.word) c.items-arm-items.result.now c.loop-arm.arm-index c.loop-arm-test.false refl c.loop-arm.invariant)

pub put_fields-returns : goal.put_fields-returns
put_fields-returns t c =
    rw (view_items_items c.args.items.now, ← c.items-item-items.ensures.items) (loop_end c.loop-item.out c.args.out.now (spell_fields (fields_of c.items-item-items.result.now)) (λ fs. spell_fields (fields_of fs)) c.items-item-items.result.now c.loop-item.item-index c.loop-item-test.false refl c.loop-item.invariant)

pub put_expressions-returns-in_default : goal.put_expressions-returns-in_default
put_expressions-returns-in_default t c =
    rw (view_exps_empty c.args.exps.now c.items.result.now c.items.ensures.items c.in_default.len_below) (sym (append-nil c.args.out.now))

pub put_expressions-returns : goal.put_expressions-returns
put_expressions-returns t c =
    let others = take (length c.items.result.now - 1) (drop 1 c.items.result.now)
    in let put = loop_end c.loop-expression.out c.put_expression.new.out (more_expressions (expressions_of others)) (λ es. more_expressions (expressions_of es)) others c.loop-expression.expression-index c.loop-expression-test.false refl c.loop-expression.invariant
    in rw (view_exps_first c.args.exps.now c.items.result.now c.first-item.result c.items.ensures.items c.in-len1-up.len_at_least c.first-item.is) (rw (c.in_ok-put_expression.ensures, append_assoc) at put)

pub put_values-returns-then-is_empty : goal.put_values-returns-then-is_empty
put_values-returns-then-is_empty t c =
    rw (view_exps_empty c.args.exps.now c.items.result.now c.items.ensures.items (grind (arith, nat_tests, c.if-is_empty.ensures))) (sym (append-nil c.args.out.now))

pub put_values-returns : goal.put_values-returns
put_values-returns t c =
    rw (values_some c.args.exps.now c.items.result.now c.items.ensures.items (grind (arith, nat_tests, c.if-is_empty.ensures))) (rw (c.in_ok-put.ensures, append_assoc) at c.put_expressions.ensures)
