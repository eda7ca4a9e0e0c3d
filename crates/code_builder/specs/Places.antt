-- To be believed. Where what a name means is, in the words of the definitions.
use Rattle.scheme.specs.Making.{Where, in_register, in_upvalue, in_globals}
use Rattle.code_builder.specs.declared.names.Place.{Place}

abbrev pub place_of : Place → Where
place_of (Place.Register r) = in_register r
place_of (Place.Upvalue slot) = in_upvalue slot
place_of Place.Global = in_globals
