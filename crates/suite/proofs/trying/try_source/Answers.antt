use Rattle.std.proofs.Common.{refl, sym, subst}
use Rattle.lua_num.specs.Bytes.{Text}
use Rattle.proto.specs.View.{view_proto}
use Rattle.suite.specs.Words.{made_name}
use Rattle.suite.specs.Jobs.{HasChunk}
use Rattle.suite.proofs.Working.{made_refused, none_verified, not_sound}
use Rattle.suite.proofs.trying.try_source.Goals as goal

pub returns-in-Err : goal.returns-in-Err
returns-in-Err g c = λ count contents calls.
    made_refused count c.args.bytes.now _ c.in-Err.outcome _ refl (none_verified made_name c.args.bytes.now c.in-Err.outcome c.in-Err.ensures.none)

pub returns-in-Ok-verified : goal.returns-in-Ok-verified
returns-in-Ok-verified g c = λ count contents calls.
    let has = subst (λ (name : Text). HasChunk name c.args.bytes.now (view_proto c.in-Ok-chunk_of.proto)) c.in-Ok.ensures c.in-Ok-chunk_of.ensures.chunk in
    c.run_and_tell.ensures (subst (λ p. HasChunk made_name c.args.bytes.now (view_proto p)) (sym c.in-Ok-verified.ensures.is) has) count contents calls

pub returns : goal.returns
returns g c = λ count contents calls.
    let has = subst (λ (name : Text). HasChunk name c.args.bytes.now (view_proto c.in-Ok-chunk_of.proto)) c.in-Ok.ensures c.in-Ok-chunk_of.ensures.chunk in
    made_refused count c.args.bytes.now _ c.in-Err-verified.outcome _ refl (not_sound c.compiled_is_sound.ensures c.never_both.ensures made_name c.args.bytes.now (view_proto c.in-Ok-chunk_of.proto) c.in-Err-verified.outcome has c.in-Err-verified.ensures.refused)
