-- By the soundness of compiled source, and what the rules say of sound chunks.
use Rattle.rules.proofs.NeverStuck.{sound_never_stuck}
use Rattle.scheme.specs.Scheme.{scheme}
use Rattle.scheme_sound.proofs.SourcesFit.{source_sound}
use Rattle.scheme_sound.proofs.Rejected.{not_rejected}
use Rattle.scheme_sound.proofs.accepted_source_is_sound.Goals as goal
use Rattle.std.proofs.Common.{true}

pub returns-clause-sound : goal.returns-clause-sound
returns-clause-sound c = λ bytes source a name. source_sound source name a.parsed.well_formed a.scoped a.fits

pub returns-clause-rejected : goal.returns-clause-rejected
returns-clause-rejected c = λ bytes source a name path pc rule r. not_rejected (scheme source name) true path pc rule (source_sound source name a.parsed.well_formed a.scoped a.fits) r

pub returns-clause-runs : goal.returns-clause-runs
returns-clause-runs c = λ bytes source a name hosts replies n. sound_never_stuck (scheme source name) (source_sound source name a.parsed.well_formed a.scoped a.fits) hosts replies n
