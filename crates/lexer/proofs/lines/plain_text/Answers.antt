use Rattle.std.proofs.Common.{[], append-nil, subst}
use Rattle.lexer.specs.Lines.{IsPlain}
use Rattle.lexer.proofs.LineLemmas.{plain_nothing}
use Rattle.lexer.proofs.lines.plain_text.Goals as goal

pub returns : goal.returns
returns c = subst (IsPlain c.args.text.now) (append-nil c.loop-byte.plain) (c.loop-byte.invariant [] (plain_nothing c.loop-byte.rest.now (c.in_default.ensures.none)))
