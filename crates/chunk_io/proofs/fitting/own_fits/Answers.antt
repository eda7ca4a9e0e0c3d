use Rattle.std.specs.Bool.{Decides}
use Rattle.std.proofs.lemmas.Bool.Decides.{Decides-at}
use Rattle.proto.specs.Chunk.{own}
use Rattle.proto.specs.View.{view_proto}
use Rattle.proto.proofs.Equality.{and_then, and_not}
use Rattle.chunk_io.specs.Items.{front_items}
use Rattle.chunk_io.specs.Fitting.{code_items}
use Rattle.chunk_io.proofs.Fitted.{All, own_decided}
use Rattle.chunk_io.proofs.fitting.own_fits.Goals as goal
use Rattle.chunk_io.proofs.fitting.own_fits.Goals.{then-front_fits, else-front_fits}

pub returns-then-code_fits : goal.returns-then-code_fits
returns-then-code_fits c =
    let l = c.args.layout in
    let chunk = view_proto c.args.proto.now in
    let two : Decides c.if-front_fits.value (All (front_items l (own chunk)) × All (code_items l chunk)) = elim c.if-front_fits.branch [
      | then-front_fits w ↦ Decides-at _ _ w.value-is (and_then c.front_fits.result _ c.front_fits.ensures w.code_fits.ensures w.if-front_fits.true)
      | else-front_fits w ↦ Decides-at _ _ w.value-is (and_not c.front_fits.result c.front_fits.ensures w.if-front_fits.false)
    ] in
    own_decided l chunk c.debug_fits.result (and_then c.if-front_fits.value c.debug_fits.result two c.debug_fits.ensures c.if-code_fits.true)

pub returns-else-code_fits : goal.returns-else-code_fits
returns-else-code_fits c =
    let l = c.args.layout in
    let chunk = view_proto c.args.proto.now in
    let two : Decides c.if-front_fits.value (All (front_items l (own chunk)) × All (code_items l chunk)) = elim c.if-front_fits.branch [
      | then-front_fits w ↦ Decides-at _ _ w.value-is (and_then c.front_fits.result _ c.front_fits.ensures w.code_fits.ensures w.if-front_fits.true)
      | else-front_fits w ↦ Decides-at _ _ w.value-is (and_not c.front_fits.result c.front_fits.ensures w.if-front_fits.false)
    ] in
    own_decided l chunk c.if-front_fits.value (and_not c.if-front_fits.value two c.if-code_fits.false)
