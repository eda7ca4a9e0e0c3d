use Rattle.std.proofs.Common.{length, drop, arith}
use Rattle.code_builder.specs.Made.{maker_of}
use Rattle.codegen.specs.Targets.{targets_of}
use Rattle.codegen.proofs.StoredBack.{stored_back-end}
use Rattle.codegen.proofs.stores.stored_back.Goals as goal

pub loop-i-init : goal.loop-i-init
loop-i-init c = record {
  within = omega arith;
  stored = stored_back-end c.args.line (targets_of (drop (length c.args.registers.now) c.args.targets.now)) c.args.registers.now (maker_of c.args.builder.now);
}
