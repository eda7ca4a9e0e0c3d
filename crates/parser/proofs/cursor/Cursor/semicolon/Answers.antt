use Rattle.std.proofs.Common.{ℕ, Bool, true, false, List, refl}
use Rattle.lua_tree.specs.declared.token.Token.{Token}
use Rattle.lua_tree.specs.declared.token.TokenKind.{TokenKind}
use Rattle.parser.specs.Finds.{Accepts, Finds}
use Rattle.parser.specs.Program.{semicolon}
use Rattle.parser.proofs.Steps.{finds, lead_accept, lead_leave, lead_give}
use Rattle.parser.proofs.cursor.Cursor.semicolon.Goals as goal

as_answered : (semi : Bool) {before line : ℕ} {tokens rest : List Token} → Accepts TokenKind.Semicolon before tokens line rest semi → Finds semicolon before tokens semi line rest
as_answered true a = finds (lead_accept a refl lead_give)
as_answered false a = finds (lead_leave a refl lead_give)

pub returns-clause-found : goal.returns-clause-found
returns-clause-found c = as_answered _ c.accept.ensures.accepted
