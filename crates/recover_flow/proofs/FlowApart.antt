-- The statements of a function that lie on its steps come apart into pieces, and their locals end behind their declarations.
use Rattle.std.proofs.Common.{◌∙◌, sym, refl, subst, length, arith}
use Rattle.std.proofs.lemmas.Option.{none-some}
use Rattle.recover_flow.specs.Flow.{FlowComesApart}
use Rattle.recover_flow.specs.Searching.{whole_body}
use Rattle.recover_flow.proofs.ClosesNamed.{closes_are_named}
use Rattle.recover_flow.proofs.FlowInside.{ExitBehind, KnownIn, LocalsWithin}
use Rattle.recover_flow.proofs.FlowOrdered.{function_ordered}
use Rattle.recover_flow.proofs.FlowPieces.{body_has_pieces}

pub comes_apart : FlowComesApart
comes_apart steps small before behind beginning flow lies =
    let none = beginning.0 in
    let pieces = body_has_pieces steps (closes_are_named steps flow before behind beginning lies) (whole_body steps) flow before behind (length steps) 0
    (record {
      small = small;
      fits = omega arith;
      behind = subst (λ e. ExitBehind e (length steps)) (sym none) tt;
      owned = refl;
      used = λ e is. absurd (none-some e (sym none ∙ is));
      same = λ e is. absurd (none-some e is);
    })
    (record { captured = beginning.1; locals = subst (λ e. LocalsWithin e before.count) (sym none) tt; known = subst (KnownIn 0 before) (sym none) tt }) (omega arith) (omega arith) lies in
    (function_ordered steps flow before behind lies, (pieces.0, pieces.1))
