-- The small source is one of those that come back.
use Rattle.std.proofs.Common.{refl, arith}
use Rattle.std.specs.Prelude.{codes}
use Rattle.recovers.specs.PlainSources.{IsPlainChunk}
use Rattle.recovers.specs.Rows.{small_chunk, small_source}

pub small_comes_back : IsPlainChunk small_chunk
small_comes_back = record {
  source = small_source;
  name = codes "=small";
  formed = record { formed = refl; shallow = omega arith };
  scoped = refl;
  fits = refl;
  plain = refl;
  room = omega arith;
  same = refl;
}
