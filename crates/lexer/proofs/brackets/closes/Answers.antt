use Rattle.std.proofs.Common.{◌≡◌, ◌++◌, Some}
use Rattle.std.specs.Prelude.{codes}
use Rattle.std.proofs.lemmas.Bool.Decides.{Decides-eqb}
use Rattle.std.proofs.lemmas.Slice.Eq.{strip_prefix_is}
use Rattle.lexer.proofs.BracketLemmas.{closes_there, closes_elsewhere}
use Rattle.lexer.proofs.brackets.closes.Goals as goal

pub returns-then-count-level : goal.returns-then-count-level
returns-then-count-level c =
    let whole : c.args.text.now ≡ codes "]" ++ c.in-Some.after.now = strip_prefix_is Decides-eqb c.args.text.now (codes "]") (Some c.in-Some.after) c.in-Some.ensures.cases in
    closes_there c.args.level c.equals_length-count.result c.args.text.now c.in-Some.after.now c.starts_with.result whole c.equals_length-count.ensures c.if-count-level.true c.starts_with.ensures.value

pub returns-else-count-level : goal.returns-else-count-level
returns-else-count-level c =
    let whole : c.args.text.now ≡ codes "]" ++ c.in-Some.after.now = strip_prefix_is Decides-eqb c.args.text.now (codes "]") (Some c.in-Some.after) c.in-Some.ensures.cases in
    closes_elsewhere c.args.level c.equals_length-count.result c.args.text.now c.in-Some.after.now whole c.equals_length-count.ensures c.if-count-level.false
