use Rattle.lexer.proofs.LexLemmas.{only_these}
use Rattle.lexer.proofs.tokenize.lex.Goals as goal

pub returns-clause-only_tokens : goal.returns-clause-only_tokens
returns-clause-only_tokens c = only_these c.args.bytes.now c.tokenize.result c.tokenize.ensures.tokens c.tokenize.ensures.fault c.tokens_are_one.ensures c.never_both.ensures
