use Rattle.proto.proofs.ConstantPool.{number_among, pool_with}
use Rattle.code_builder.proofs.builder.insert.Goals as goal

pub returns-clause-number : goal.returns-clause-number
returns-clause-number c = number_among c.args.constant c.args.constants.now.keys _ c.in_ok-number.ensures.index

pub returns-clause-constants : goal.returns-clause-constants
returns-clause-constants c = pool_with c.args.constant c.args.constants.now.keys _ c.in_ok-number.ensures.keys
