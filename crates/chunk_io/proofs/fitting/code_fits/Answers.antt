use Rattle.std.proofs.Common.{◌≡◌, ◌<◌, ◌^◌, map, length, [], ◌∷◌, ap, sym, ◌∙◌}
use Rattle.std.specs.Bool.{Decides}
use Rattle.std.proofs.lemmas.Bool.Decides.{Decides-at}
use Rattle.std.proofs.lemmas.List.{length-map}
use Rattle.proto.specs.Chunk.{function_count}
use Rattle.proto.specs.View.{view_proto, view_protos}
use Rattle.proto.specs.declared.proto.Proto.{out-Proto}
use Rattle.proto.proofs.Equality.{and_then, and_not}
use Rattle.proto.proofs.Views.{own_fields, view_proto_fields}
use Rattle.chunk_io.specs.Items.{instruction, constant_items, counted}
use Rattle.chunk_io.proofs.Fitted.{All, code_decided}
use Rattle.chunk_io.proofs.Spelled.{functions_counted}
use Rattle.chunk_io.proofs.fitting.code_fits.Goals as goal
use Rattle.chunk_io.proofs.fitting.code_fits.Goals.{then-words_fit, else-words_fit}

pub returns-then-constants_fit : goal.returns-then-constants_fit
returns-then-constants_fit c =
    let l = c.args.layout in
    let f = own_fields c.args.proto.now in
    let inner = view_protos (out-Proto c.args.proto.now).functions in
    let words : Decides c.words_fit.result (All (counted l (λ word. instruction l word ∷ []) f.code)) = rw c.items.ensures at (c.words_fit.ensures l) in
    let two : Decides c.if-words_fit.value (All (counted l (λ word. instruction l word ∷ []) f.code) × All (counted l (constant_items l) f.constants)) = elim c.if-words_fit.branch [
      | then-words_fit w ↦ Decides-at _ _ w.value-is (and_then c.words_fit.result _ words (rw w.items-then-words_fit.ensures at w.constants_fit.ensures) w.if-words_fit.true)
      | else-words_fit w ↦ Decides-at _ _ w.value-is (and_not c.words_fit.result words w.if-words_fit.false)
    ] in
    let protos = c.items-then-constants_fit.result.now in
    let length_is : length protos ≡ function_count inner = sym (ap function_count c.items-then-constants_fit.ensures.view ∙ (functions_counted (map view_proto protos) ∙ length-map protos view_proto)) in
    let count : Decides c.count_fits.result (function_count inner < 2 ^ 31) = rw length_is at c.count_fits.ensures in
    rw (view_proto_fields c.args.proto.now) (code_decided l f inner c.count_fits.result (and_then c.if-words_fit.value c.count_fits.result two count c.if-constants_fit.true))

pub returns-else-constants_fit : goal.returns-else-constants_fit
returns-else-constants_fit c =
    let l = c.args.layout in
    let f = own_fields c.args.proto.now in
    let inner = view_protos (out-Proto c.args.proto.now).functions in
    let words : Decides c.words_fit.result (All (counted l (λ word. instruction l word ∷ []) f.code)) = rw c.items.ensures at (c.words_fit.ensures l) in
    let two : Decides c.if-words_fit.value (All (counted l (λ word. instruction l word ∷ []) f.code) × All (counted l (constant_items l) f.constants)) = elim c.if-words_fit.branch [
      | then-words_fit w ↦ Decides-at _ _ w.value-is (and_then c.words_fit.result _ words (rw w.items-then-words_fit.ensures at w.constants_fit.ensures) w.if-words_fit.true)
      | else-words_fit w ↦ Decides-at _ _ w.value-is (and_not c.words_fit.result words w.if-words_fit.false)
    ] in
    rw (view_proto_fields c.args.proto.now) (code_decided l f inner c.if-words_fit.value (and_not c.if-words_fit.value two c.if-constants_fit.false))
