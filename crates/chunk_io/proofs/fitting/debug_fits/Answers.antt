use Rattle.std.proofs.Common.{[], ◌∷◌}
use Rattle.std.specs.Bool.{Decides}
use Rattle.std.proofs.lemmas.Bool.Decides.{Decides-at}
use Rattle.proto.proofs.Equality.{and_then, and_not}
use Rattle.proto.proofs.Views.{own_fields, view_proto_fields}
use Rattle.chunk_io.specs.Items.{int, local_items, string_items, counted}
use Rattle.chunk_io.proofs.Fitted.{All, debug_decided}
use Rattle.chunk_io.proofs.fitting.debug_fits.Goals as goal
use Rattle.chunk_io.proofs.fitting.debug_fits.Goals.{then-lines_fit, else-lines_fit}

pub returns-then-locals_fit : goal.returns-then-locals_fit
returns-then-locals_fit c =
    let l = c.args.layout in
    let f = own_fields c.args.proto.now in
    let lines : Decides c.lines_fit.result (All (counted l (λ line. int l line ∷ []) f.lines)) = rw c.items.ensures at (c.lines_fit.ensures l) in
    let two : Decides c.if-lines_fit.value (All (counted l (λ line. int l line ∷ []) f.lines) × All (counted l (local_items l) f.locals)) = elim c.if-lines_fit.branch [
      | then-lines_fit w ↦ Decides-at _ _ w.value-is (and_then c.lines_fit.result _ lines (rw w.items-then-lines_fit.ensures at w.locals_fit.ensures) w.if-lines_fit.true)
      | else-lines_fit w ↦ Decides-at _ _ w.value-is (and_not c.lines_fit.result lines w.if-lines_fit.false)
    ] in
    let names : Decides c.names_fit.result (All (counted l (string_items l) f.upvalue_names)) = rw c.items-then-locals_fit.ensures at c.names_fit.ensures in
    rw (view_proto_fields c.args.proto.now) (debug_decided l f c.names_fit.result (and_then c.if-lines_fit.value c.names_fit.result two names c.if-locals_fit.true))

pub returns-else-locals_fit : goal.returns-else-locals_fit
returns-else-locals_fit c =
    let l = c.args.layout in
    let f = own_fields c.args.proto.now in
    let lines : Decides c.lines_fit.result (All (counted l (λ line. int l line ∷ []) f.lines)) = rw c.items.ensures at (c.lines_fit.ensures l) in
    let two : Decides c.if-lines_fit.value (All (counted l (λ line. int l line ∷ []) f.lines) × All (counted l (local_items l) f.locals)) = elim c.if-lines_fit.branch [
      | then-lines_fit w ↦ Decides-at _ _ w.value-is (and_then c.lines_fit.result _ lines (rw w.items-then-lines_fit.ensures at w.locals_fit.ensures) w.if-lines_fit.true)
      | else-lines_fit w ↦ Decides-at _ _ w.value-is (and_not c.lines_fit.result lines w.if-lines_fit.false)
    ] in
    rw (view_proto_fields c.args.proto.now) (debug_decided l f c.if-lines_fit.value (and_not c.if-lines_fit.value two c.if-locals_fit.false))
