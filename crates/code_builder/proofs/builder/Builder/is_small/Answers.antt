use Rattle.std.proofs.Common.{ap, ◌∙◌, sym}
use Rattle.std.specs.Prelude.{nat_le}
use Rattle.std.proofs.lemmas.Iterator.Adapters.{position_from-zero}
use Rattle.proto.specs.contracts.parts.ConstantPartialEq.TheImpl.{ghosts}
use Rattle.proto.proofs.ConstantPool.{number_among}
use Rattle.code_builder.proofs.Places.{none_is_len}
use Rattle.code_builder.proofs.builder.Builder.is_small.Goals as goal

pub returns-in-None : goal.returns-in-None
returns-in-None c =
    let absent = none_is_len (ghosts.eq c.args.constant.now) 0 c.args.self.now.constants.keys (sym (position_from-zero (ghosts.eq c.args.constant.now) c.args.self.now.constants.keys) ∙ sym c.get_index_of.ensures.index ∙ c.in-None.is) in
    ap (λ n. nat_le n 255) (c.len.ensures.len ∙ number_among c.args.constant.now c.args.self.now.constants.keys _ (sym absent))
