use Rattle.lexer.proofs.TokenLemmas.{token_front}
use Rattle.lexer.proofs.tokenize.piece_length.Goals as goal

pub returns-in-Ok-clause-token : goal.returns-in-Ok-clause-token
returns-in-Ok-clause-token c = token_front c.args.at c.args.text.now c.in-Ok.piece c.in-Ok.ensures.piece
