use Rattle.std.specs.String.{string_bytes}
use Rattle.proto.specs.View.{view_proto}
use Rattle.suite.proofs.Working.{globals_made, not_sound_used}
use Rattle.suite.proofs.making.globals_of.Goals as goal

pub returns-in-Ok-global_text-clause-made : goal.returns-in-Ok-global_text-clause-made
returns-in-Ok-global_text-clause-made c =
    globals_made (string_bytes c.args.file.now) c.args.bytes.now _ _ _ _ c.proto.ensures.proto c.in-Ok-verified.ensures.is c.in-Ok.ensures.chunk c.proto.ensures.sound c.in-Ok-global_text.ensures.text

pub returns-clause-none : goal.returns-clause-none
returns-clause-none c =
    not_sound_used c.compiled_is_sound.ensures c.never_both.ensures (string_bytes c.args.file.now) c.args.bytes.now (view_proto c.in-Ok.proto) c.in-Err-verified.outcome c.in-Ok.ensures.chunk c.in-Err-verified.ensures.refused
