use Rattle.std.proofs.Common.{arith}
use Rattle.scopes.proofs.LoopSteps.{slot_passed, slot_hit, slot_none}
use Rattle.scopes.proofs.uses.Captures.slot.Goals as goal

pub loop-i-preserved : goal.loop-i-preserved
loop-i-preserved c = slot_passed c.args.declaration c.loop-i.i c.args.self.now.declarations.items c.index.result.now (omega arith) c.index.ensures c.if-index-declaration.false c.loop-i.invariant

pub returns-then-index-declaration : goal.returns-then-index-declaration
returns-then-index-declaration c = slot_hit c.args.declaration c.loop-i.i c.args.self.now.declarations.items c.index.result.now (omega arith) c.index.ensures c.if-index-declaration.true c.loop-i.invariant

pub returns : goal.returns
returns c = slot_none c.args.declaration c.loop-i.i c.args.self.now.declarations.items (omega arith) c.loop-i.invariant
