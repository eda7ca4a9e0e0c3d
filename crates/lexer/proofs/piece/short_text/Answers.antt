use Rattle.std.proofs.Common.{◌≤◌, length, subst, rules}
use Rattle.lexer.specs.StringParts.{StringFails}
use Rattle.lexer.proofs.PieceLemmas.{too_large_within}
use Rattle.lexer.proofs.piece.short_text.Goals as goal

pub overflow_add-result : goal.overflow_add-result
overflow_add-result c =
    let within : c.in-Err-TooLarge.distance ≤ length c.args.text.now = too_large_within c.args.text.now c.in-Err-TooLarge.distance (subst (StringFails c.args.text.now) c.in-Err-TooLarge.field-0-is c.in-Err-TooLarge.ensures.fault) in
    search rules
