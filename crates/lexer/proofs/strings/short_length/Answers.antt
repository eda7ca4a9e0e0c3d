use Rattle.std.proofs.lemmas.List.{take_rest}
use Rattle.lexer.proofs.StringItems.{reaches_more, short_closed}
use Rattle.lexer.proofs.strings.short_length.Goals as goal

pub loop-length-preserved : goal.loop-length-preserved
loop-length-preserved c = reaches_more _ c.loop-length.at c.in-Item.value c.in-Item.length c.args.text.now c.loop-length.invariant (rw take_rest at c.in-Item.ensures)

pub returns-in-Closed-clause-whole : goal.returns-in-Closed-clause-whole
returns-in-Closed-clause-whole c =
    let closed = c.in-Closed.ensures in
    short_closed c.loop-length.at c.args.text.now closed.0 c.requires c.loop-length.invariant (rw take_rest at closed.1)
