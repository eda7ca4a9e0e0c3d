use Rattle.lexer.proofs.StringLemmas.{first_and_rest}
use Rattle.std.proofs.lemmas.List.{take_rest}
use Rattle.lexer.proofs.StringItems.{means_more, short_means}
use Rattle.lexer.proofs.strings.short_value.Goals as goal

pub loop-value-preserved : goal.loop-value-preserved
loop-value-preserved c =
    rw (take_rest c.loop-value.rest.now c.in-Item.length, c.in_ok-push.ensures.ok) (means_more _ c.in-Item.value c.in-Item.length c.loop-value.bytes _ c.loop-value.rest.now c.loop-value.invariant c.in-Item.ensures)

pub returns : goal.returns
returns c =
    short_means _ c.args.text.now _ c.loop-value.bytes c.loop-value.rest.now c.string_part.result (first_and_rest c.args.text.now c.in-len1-up.len_at_least) c.loop-value.invariant c.string_part.ensures c.in_default-string_part.not-Item
