-- To be believed. The plain value of a function that is being made.
use Rattle.std.specs.Prelude.{drop, map}
use Rattle.scheme.specs.Making as making
use Rattle.scheme.specs.Making.{Maker}
use Rattle.code_builder.specs.declared.ahead.Ahead.{Ahead}
use Rattle.code_builder.specs.declared.builder.Builder.{Builder}
use Rattle.code_builder.specs.Drafts.{draft_chunk, all_misfits}

abbrev pub ahead_of : Ahead → making.Ahead
ahead_of a = record {
  names = drop a.names a.scopes.now.names;
  captures = drop a.declarations a.scopes.now.captured;
  sources = drop a.functions a.scopes.now.upvalues;
  declarations = a.declarations;
}

abbrev pub maker_of : Builder → Maker
maker_of b = record {
  items = b.items.items;
  labels = b.labels.items;
  constants = b.constants.keys;
  functions = map draft_chunk b.functions.items;
  free = b.free;
  high = b.high;
  active = b.active.items;
  locals = b.locals.items;
  upvalue_names = b.upvalue_names;
  ahead = ahead_of b.ahead;
  misfits = all_misfits b.functions.items;
}
