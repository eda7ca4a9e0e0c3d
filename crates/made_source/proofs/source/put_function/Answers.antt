use Rattle.std.proofs.lemmas.Result.{on_ok_weaker}
use Rattle.made_source.proofs.Pieces.{four_more}
use Rattle.made_source.proofs.source.put_function.Goals as goal

pub returns : goal.returns
returns c = on_ok_weaker c.extend.result (λ last. four_more _ _ _ _ _ _ _ _ _ c.in_ok-put_piece.ensures c.in_ok-put_piece-2.ensures c.in_ok-put_piece-3.ensures last) c.extend.ensures.ok
