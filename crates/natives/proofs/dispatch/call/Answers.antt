-- Functions that are given no heap answer for each.
use Rattle.natives.proofs.dispatch.call.Goals as goal

pub returns-in-4-clause-act : goal.returns-in-4-clause-act
returns-in-4-clause-act c = rw c.in-4.is (c.error.ensures c.args.heap.now c.requires.args)

pub returns-in-11-clause-act : goal.returns-in-11-clause-act
returns-in-11-clause-act c = rw c.in-11.is (c.pairs.ensures c.args.heap.now c.requires.args)

pub returns-in-12-clause-act : goal.returns-in-12-clause-act
returns-in-12-clause-act c = rw c.in-12.is (c.ipairs.ensures c.args.heap.now c.requires.args)

pub returns-in-17-clause-act : goal.returns-in-17-clause-act
returns-in-17-clause-act c = rw c.in-17.is (c.pcall.ensures c.args.heap.now c.requires.args)
