use Rattle.std.proofs.Common.{◌≡◌, suc, ap, sym, map, length, ◌∙◌}
use Rattle.std.proofs.lemmas.List.{length-map}
use Rattle.std.proofs.lemmas.Result.{on_ok_weaker}
use Rattle.proto.specs.Chunk.{own, function, function_count, functions_of}
use Rattle.proto.specs.View.{view_proto}
use Rattle.proto.proofs.Views.{own_fields, view_proto_fields}
use Rattle.chunk_io.proofs.Spelled.{function_written, functions_counted}
use Rattle.chunk_io.proofs.dumping.+writing.Goals as goal

pub put_function-returns : goal.put_function-returns
put_function-returns t c = λ nesting.
    let p = c.args.proto.now in
    let inner = functions_of (map view_proto c.items-4.result.now) in
    let fields : own (view_proto p) ≡ own_fields p = ap own (view_proto_fields p) in
    let is : view_proto p ≡ function (own_fields p) inner = view_proto_fields p ∙ ap (λ fs. function (own_fields p) fs) c.items-4.ensures.view in
    let count : length c.items-3.result.now ≡ function_count inner = ap length (c.items-3.ensures.items ∙ sym c.items-4.ensures.items) ∙ sym (functions_counted (map view_proto c.items-4.result.now) ∙ length-map c.items-4.result.now view_proto) in
    let front = rw fields at c.in_ok-put_front.ensures in
    let code = rw c.items.ensures at c.in_ok-put_words.ensures in
    let constants = rw c.items-2.ensures at c.in_ok-put_constants.ensures in
    let counted = rw count at c.in_ok-put_count.ensures in
    let functions = c.in_ok-put_functions.ensures (suc nesting) in
    let debug = rw fields at c.put_debug.ensures in
    on_ok_weaker c.put_debug.result (λ last. function_written c.args.layout nesting (view_proto p) (own_fields p) inner c.args.out.now c.put_front.new.out c.put_words.new.out c.put_constants.new.out c.put_count.new.out c.put_functions.new.out c.put_debug.new.out is front code constants counted functions last) debug
