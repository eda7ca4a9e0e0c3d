-- By the marks of each part.
use Rattle.scheme_stands.proofs.Scopes.{statements_move}
use Rattle.scheme_stands.proofs.words_pass_marks.Goals as goal

pub returns : goal.returns
returns c = statements_move
