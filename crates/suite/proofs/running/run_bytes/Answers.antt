use Rattle.std.proofs.Common.{refl, sym, subst}
use Rattle.std.specs.String.{string_bytes}
use Rattle.proto.specs.View.{view_proto}
use Rattle.suite.specs.Jobs.{HasChunk}
use Rattle.suite.proofs.Working.{run_refused, none_verified, not_sound}
use Rattle.suite.proofs.running.run_bytes.Goals as goal

pub returns-in-Err : goal.returns-in-Err
returns-in-Err g c = λ contents calls.
    run_refused (string_bytes c.args.file.now) c.args.steps c.args.bytes.now _ c.in-Err.outcome _ refl (none_verified (string_bytes c.args.file.now) c.args.bytes.now c.in-Err.outcome c.in-Err.ensures.none)

pub returns-in-Ok-verified : goal.returns-in-Ok-verified
returns-in-Ok-verified g c = λ contents calls.
    c.run_chunk.ensures (string_bytes c.args.file.now) c.args.bytes.now (subst (λ p. HasChunk (string_bytes c.args.file.now) c.args.bytes.now (view_proto p)) (sym c.in-Ok-verified.ensures.is) c.in-Ok.ensures.chunk) contents calls

pub returns-in-Err-verified : goal.returns-in-Err-verified
returns-in-Err-verified g c = λ contents calls.
    run_refused (string_bytes c.args.file.now) c.args.steps c.args.bytes.now _ c.in-Err-verified.outcome _ refl (not_sound c.compiled_is_sound.ensures c.never_both.ensures (string_bytes c.args.file.now) c.args.bytes.now (view_proto c.in-Ok.proto) c.in-Err-verified.outcome c.in-Ok.ensures.chunk c.in-Err-verified.ensures.refused)
