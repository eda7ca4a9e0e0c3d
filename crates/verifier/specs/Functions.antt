-- Serves the bodies: functions with their marks.
use Rattle.std.specs.Prelude.{◌≡◌, ◌<◌, ◌^◌, length}
use Rattle.proto.specs.Chunk.{own}
use Rattle.proto.specs.declared.proto.Proto.{Proto}
use Rattle.proto.specs.View.{view_proto}
use Rattle.rules.specs.Places.{further_words}
use Rattle.verifier.specs.declared.words.Function.TheInside.{Inside}

abbrev pub proto_of : Inside → Proto
proto_of f = f.proto.now

abbrev pub IsMarked : Inside → Type 0
IsMarked f = (f.further.items ≡ further_words (view_proto f.proto.now)) × (length (own (view_proto f.proto.now)).code < 2 ^ 32)
