use Rattle.std.proofs.Common.{◌≡◌, map, length, sym, ◌∙◌}
use Rattle.std.proofs.lemmas.Result.{err_from_is_err_and}
use Rattle.code_builder.specs.Drafts.{draft_chunk}
use Rattle.code_builder.specs.declared.draft.Draft.{out-Draft, out-roll-Draft}
use Rattle.code_builder.proofs.Encoded.{inner_fault, own_fault, draft_fits, draft_encoded, encoded_length, next_encoded, next_fits, left_next, left_fault}
use Rattle.code_builder.proofs.encoding.+encoding.Goals as goal

pub encode-returns-in_err-functions-clause-fault : goal.encode-returns-in_err-functions-clause-fault
encode-returns-in_err-functions-clause-fault t c =
    let p = err_from_is_err_and c.from_residual.result c.from_residual.ensures.1 in
    rw (p.1, p.2) (inner_fault c.args.draft _ c.in_err-functions.ensures.fault)

pub encode-returns-in_err-check_limits-clause-fault : goal.encode-returns-in_err-check_limits-clause-fault
encode-returns-in_err-check_limits-clause-fault t c =
    let p = err_from_is_err_and c.from_residual-in_err-check_limits.result c.from_residual-in_err-check_limits.ensures.1 in
    let inner = (out-Draft c.args.draft).functions.items in
    let made = c.in_ok-functions.functions in
    let count : length (map draft_chunk inner) ≡ c.len.result = encoded_length inner made.items c.in_ok-functions.ensures.chunks ∙ sym made.ok.0 ∙ sym c.len.ensures in
    let fault = rw out-roll-Draft at (c.in_err-check_limits.ensures.fault (map draft_chunk inner) count) in
    rw (p.1, p.2) (own_fault c.args.draft _ fault)

pub encode-returns-clause-chunk : goal.encode-returns-clause-chunk
encode-returns-clause-chunk t c =
    let own = rw out-roll-Draft at c.in_ok-proto.ensures in
    draft_encoded c.args.draft c.in_ok-functions.functions.items _ c.in_ok-functions.ensures.chunks own

pub encode-returns-clause-fits : goal.encode-returns-clause-fits
encode-returns-clause-fits t c =
    let inner = (out-Draft c.args.draft).functions.items in
    let made = c.in_ok-functions.functions in
    let count : length (map draft_chunk inner) ≡ c.len.result = encoded_length inner made.items c.in_ok-functions.ensures.chunks ∙ sym made.ok.0 ∙ sym c.len.ensures in
    let fits = rw out-roll-Draft at (c.in_ok-check_limits.ensures.fits (map draft_chunk inner) count) in
    draft_fits c.args.draft c.in_ok-functions.ensures.fits fits

pub encode_all-returns-in_err-proto-clause-fault : goal.encode_all-returns-in_err-proto-clause-fault
encode_all-returns-in_err-proto-clause-fault t c =
    let p = err_from_is_err_and c.from_residual-in_err-proto.result c.from_residual-in_err-proto.ensures.1 in
    rw (p.1, p.2) (left_fault c.in-Some.draft _ _ _ _ c.in-Some.ensures.steps.0 c.loop-draft.invariant.left c.in_err-proto.ensures.fault)

pub encode_all-loop-draft-preserved : goal.encode_all-loop-draft-preserved
encode_all-loop-draft-preserved t c = record {
  chunks = next_encoded c.loop-draft.yielded c.in-Some.draft _ _ c.in_ok-proto.proto c.in_ok-push.ensures.items c.loop-draft.invariant.chunks c.in_ok-proto.ensures.chunk;
  fits = next_fits c.loop-draft.yielded c.in-Some.draft c.loop-draft.invariant.fits c.in_ok-proto.ensures.fits;
  left = left_next c.in-Some.draft _ _ _ c.in-Some.ensures.steps.0 c.in_ok-proto.ensures.fits c.loop-draft.invariant.left;
}
