use Rattle.std.proofs.Common.{◌≡◌, ◌++◌, ◌∙◌, ap, sym}
use Rattle.std.specs.Prelude.{codes}
use Rattle.lexer.proofs.BracketLemmas.{long_comment, short_comment}
use Rattle.lexer.proofs.FrontLemmas.{front_parts}
use Rattle.lexer.proofs.brackets.comment_length.Goals as goal

pub returns-in_ok-long_length-in-Some-clause-some : goal.returns-in_ok-long_length-in-Some-clause-some
returns-in_ok-long_length-in-Some-clause-some c =
    let whole : c.args.text.now ≡ codes "--" ++ c.split_at.result.1.now = front_parts (codes "--") c.args.text.now c.requires ∙ ap (λ t. codes "--" ++ t) (sym c.split_at.ensures.back) in
    rw c.split_at.ensures.front_len (long_comment c.in-Some.level c.in_ok-long_length-in-Some.field-0 c.args.text.now c.split_at.result.1.now whole c.in_ok-long_length-in-Some.ensures.some)

pub returns-in-None-clause-some : goal.returns-in-None-clause-some
returns-in-None-clause-some c =
    let whole : c.args.text.now ≡ codes "--" ++ c.split_at.result.1.now = front_parts (codes "--") c.args.text.now c.requires ∙ ap (λ t. codes "--" ++ t) (sym c.split_at.ensures.back) in
    rw c.split_at.ensures.front_len (short_comment c.line_length.result c.args.text.now c.split_at.result.1.now whole c.in-None.ensures.none c.line_length.ensures)
