use Rattle.std.proofs.Common.{refl, take, ℕ, List, ◌≡◌, arith}
use Rattle.lexer.specs.Fronts.{IsFront}
use Rattle.lexer.proofs.FrontLemmas.{front_taken}
use Rattle.lexer.proofs.PieceLemmas.{bad_number}
use Rattle.lexer.proofs.piece.number.Goals as goal

pub returns-in-None-clause-fault : goal.returns-in-None-clause-fault
returns-in-None-clause-fault c =
    let same : (front after : List ℕ) → IsFront c.numeral_length-length.result c.args.text.now front after → take c.numeral_length-length.result c.args.text.now ≡ front = front_taken c.numeral_length-length.result c.args.text.now in
    (0, (refl, bad_number c.numeral_length-length.result c.args.text.now (take c.numeral_length-length.result c.args.text.now) c.requires c.numeral_length-length.ensures c.in-None.ensures same), omega arith)
