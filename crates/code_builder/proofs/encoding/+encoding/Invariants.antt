use Rattle.std.proofs.Common.{◌≡◌, [], map}
use Rattle.std.specs.Vec.Iter.{into_iter_items}
use Rattle.proto.specs.View.{view_proto}
use Rattle.code_builder.specs.Drafts.{draft_chunk, all_misfits}
use Rattle.code_builder.proofs.encoding.+encoding.Given as goal

abbrev pub invariant-encode_all-loop-draft : goal.invariant-encode_all-loop-draft
invariant-encode_all-loop-draft l = record {
  chunks : map view_proto l.protos.items ≡ map draft_chunk l.yielded;
  fits : all_misfits l.yielded ≡ [];
  left : all_misfits (into_iter_items l.draft-iterator) ≡ all_misfits l.fn.drafts.items;
}
