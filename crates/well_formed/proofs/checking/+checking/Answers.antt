use Rattle.std.proofs.Common.{sym, ◌∙◌, ap}
use Rattle.well_formed.specs.Within.{fields_within}
use Rattle.well_formed.proofs.Lists.{fields_unended, fields_stop, fields_go_on}
use Rattle.well_formed.proofs.checking.+checking.Goals as goal

pub are_items-returns-then-not-ends_item : goal.are_items-returns-then-not-ends_item
are_items-returns-then-not-ends_item t c =
    fields_unended c.args.levels c.items-all.result.now c.loop-number.number c.index-all-number.result c.loop-number-test.true c.index-all-number.is c.if-not-ends_item.ensures c.loop-number.invariant ∙
    sym (ap (fields_within c.args.levels) c.items-all.ensures.view)

pub are_items-returns-then-not-is_item : goal.are_items-returns-then-not-is_item
are_items-returns-then-not-is_item t c =
    fields_stop c.args.levels c.items-all.result.now c.loop-number.number c.index-all-number.result c.loop-number-test.true c.index-all-number.is c.if-not-ends_item.ensures c.if-not-is_item.ensures
    c.loop-number.invariant ∙ sym (ap (fields_within c.args.levels) c.items-all.ensures.view)

pub are_items-loop-number-preserved : goal.are_items-loop-number-preserved
are_items-loop-number-preserved t c =
    fields_go_on c.args.levels c.items-all.result.now c.loop-number.number c.index-all-number.result c.loop-number-test.true c.index-all-number.is c.if-not-ends_item.ensures c.if-not-is_item.ensures
    c.loop-number.invariant
