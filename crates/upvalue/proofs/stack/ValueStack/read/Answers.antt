use Rattle.std.proofs.Common.{◌+◌, sym, subst}
use Rattle.lua_heap.specs.State.{IsOf}
use Rattle.upvalue.proofs.Rows.{register_there, fits_of}
use Rattle.upvalue.proofs.stack.ValueStack.read.Goals as goal

pub returns-clause-known : goal.returns-clause-known
returns-clause-known c h shares =
    let s = c.self.inside in
    let fits = fits_of s c.args.self.now c.self.view_is c.self.invariant h shares in
    let there = register_there s c.args.self.now c.self.view_is c.self.invariant c.args.register c.requires in
    subst (IsOf h) (sym c.index.ensures) (fits.known (s.base + c.args.register) c.index.result.now there)
