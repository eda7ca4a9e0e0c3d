use Rattle.std.proofs.Common.{◌≡◌, ◌++◌, ◌∙◌, Some, sym}
use Rattle.std.specs.Prelude.{codes}
use Rattle.std.proofs.lemmas.Bool.Decides.{Decides-eqb}
use Rattle.std.proofs.lemmas.Slice.Eq.{strip_prefix_is}
use Rattle.lexer.proofs.BracketLemmas.{byte_stands, opening_front, opens_front}
use Rattle.lexer.proofs.brackets.opening_level.Goals as goal

pub returns-then-starts_with-clause-some : goal.returns-then-starts_with-clause-some
returns-then-starts_with-clause-some c =
    let whole : c.args.text.now ≡ codes "[" ++ c.in_ok-after.after.now = strip_prefix_is Decides-eqb c.args.text.now (codes "[") (Some c.in_ok-after.after) c.in_ok-after.ensures.cases in
    (_, opening_front c.equals_length-level.result c.args.text.now c.in_ok-after.after.now whole c.equals_length-level.ensures (sym (byte_stands 91 c.equals_length-level.result c.in_ok-after.after.now) ∙ (sym c.starts_with.ensures.value ∙ c.if-starts_with.true)))

pub returns-else-starts_with-clause-none : goal.returns-else-starts_with-clause-none
returns-else-starts_with-clause-none c =
    let whole : c.args.text.now ≡ codes "[" ++ c.in_ok-after.after.now = strip_prefix_is Decides-eqb c.args.text.now (codes "[") (Some c.in_ok-after.after) c.in_ok-after.ensures.cases in
    opens_front c.equals_length-level.result c.args.text.now c.in_ok-after.after.now whole c.equals_length-level.ensures ∙ (sym (byte_stands 91 c.equals_length-level.result c.in_ok-after.after.now) ∙ (sym c.starts_with.ensures.value ∙ c.if-starts_with.false))
