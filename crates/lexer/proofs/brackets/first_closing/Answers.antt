use Rattle.std.proofs.Common.{◌<◌, ap, sym, ◌∙◌, replicate, ◌++◌, arith}
use Rattle.std.specs.Prelude.{codes}
use Rattle.lua_tree.specs.Bytes.{has_front}
use Rattle.lua_tree.specs.Brackets.{closing}
use Rattle.std.proofs.lemmas.List.{take_rest}
use Rattle.lexer.proofs.BracketLemmas.{first_closing, holds_nowhere}
use Rattle.lexer.proofs.brackets.first_closing.Goals as goal

pub returns-then-closes-clause-some : goal.returns-then-closes-clause-some
returns-then-closes-clause-some c =
    first_closing c.args.level c.loop-at.at c.args.text.now c.loop-at-test.true c.loop-at.invariant
    (sym (ap (has_front (closing c.args.level)) (take_rest c.args.text.now c.loop-at.at)) ∙ (sym c.closes.ensures ∙ c.if-closes.true))

pub returns-clause-none : goal.returns-clause-none
returns-clause-none c =
    holds_nowhere 93 (replicate c.args.level 61 ++ codes "]") c.args.text.now
    (λ k below. let before : k < c.loop-at.at = omega (arith, below, c.loop-at-test.false) in c.loop-at.invariant k before)
