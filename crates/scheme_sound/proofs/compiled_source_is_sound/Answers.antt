-- By the notes that the locals active at each pc give.
use Rattle.scheme_sound.proofs.SourcesFit.{source_sound}
use Rattle.scheme_sound.proofs.compiled_source_is_sound.Goals as goal

pub returns : goal.returns
returns c = source_sound
