use Rattle.std.proofs.Common.{sym, subst}
use Rattle.rules.specs.Sound.{Sound}
use Rattle.front.proofs.laws.compiled_is_sound.Goals as goal

pub returns : goal.returns
returns c = λ name bytes chunk compiled.
    subst Sound (sym compiled.is) (c.accepted_source_is_sound.ensures.sound bytes compiled.source compiled.accepts name)
