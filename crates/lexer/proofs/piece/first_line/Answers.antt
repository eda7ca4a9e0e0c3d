use Rattle.std.proofs.Common.{not, subst}
use Rattle.lua_tree.specs.Bytes.{ends_line}
use Rattle.lexer.specs.Fronts.{RunFront}
use Rattle.std.proofs.lemmas.List.{take_rest}
use Rattle.lexer.proofs.PieceLemmas.{first_line_piece}
use Rattle.lexer.proofs.piece.first_line.Goals as goal

pub returns : goal.returns
returns c = first_line_piece c.line_length.result c.args.text.now c.requires (subst (RunFront (λ byte. not (ends_line byte)) c.line_length.result) (take_rest c.args.text.now 1) c.line_length.ensures)
