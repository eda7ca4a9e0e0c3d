use Rattle.std.proofs.Common.{◌≡◌, Some, drop}
use Rattle.lua_tree.specs.TreeLists.{statements_of, branches_of, expressions_of, fields_of}
use Rattle.printer.specs.Layout.{statements_pieces, more_branches_pieces, more_expressions_pieces, fields_pieces}
use Rattle.printer.specs.Sheets.{put_pieces}
use Rattle.printer.proofs.printing.+print.Given as goal

abbrev pub invariant-put_block-loop-statement : goal.invariant-put_block-loop-statement
invariant-put_block-loop-statement l =
    put_pieces (statements_pieces l.blocks (statements_of (drop l.statement-index l.statement-items))) (Some l.out) ≡ put_pieces (statements_pieces l.blocks (statements_of l.statement-items)) (Some l.initial.out)

abbrev pub invariant-put_arms-loop-arm : goal.invariant-put_arms-loop-arm
invariant-put_arms-loop-arm l =
    put_pieces (more_branches_pieces l.blocks (branches_of (drop l.arm-index l.rest))) (Some l.out) ≡ put_pieces (more_branches_pieces l.blocks (branches_of l.rest)) (Some l.initial.out)

abbrev pub invariant-put_expressions-loop-expression : goal.invariant-put_expressions-loop-expression
invariant-put_expressions-loop-expression l =
    put_pieces (more_expressions_pieces l.blocks (expressions_of (drop l.expression-index l.rest))) (Some l.out) ≡ put_pieces (more_expressions_pieces l.blocks (expressions_of l.rest)) (Some l.initial.out)

abbrev pub invariant-put_fields-loop-item : goal.invariant-put_fields-loop-item
invariant-put_fields-loop-item l =
    put_pieces (fields_pieces l.blocks (fields_of (drop l.item-index l.item-items))) (Some l.out) ≡ put_pieces (fields_pieces l.blocks (fields_of l.item-items)) (Some l.initial.out)
