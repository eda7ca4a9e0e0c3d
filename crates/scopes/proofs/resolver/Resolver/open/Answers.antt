use Rattle.std.proofs.Common.{refl}
use Rattle.scopes.proofs.resolver.Resolver.open.Goals as goal

pub returns : goal.returns
returns c = record {
  stack = rw (c.len.ensures, c.args.self.now.functions.ok.0) at c.in_ok-push.ensures.items;
  empty = c.new.result;
  functions = c.in_ok-push-2.ensures.items;
  no_declarations = c.new.ensures.declarations;
  no_sources = c.new.ensures.sources;
  vararg = refl;
  looped = refl;
  active = refl;
  locals = refl;
  names = refl;
  captured = refl;
}
