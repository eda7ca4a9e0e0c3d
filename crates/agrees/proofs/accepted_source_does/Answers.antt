use Rattle.scheme.specs.Scheme.{scheme}
use Rattle.agrees.proofs.Doing.{does_so}
use Rattle.agrees.proofs.accepted_source_does.Goals as goal

pub returns : goal.returns
returns c = λ bytes source accepts name hosts replies steps.
    does_so source (scheme source name) hosts replies
    (c.compiled_source_agrees.ensures source name accepts.parsed.well_formed accepts.scoped accepts.fits hosts replies)
    (λ n. c.accepted_source_is_sound.ensures.runs bytes source accepts name hosts replies n)
    steps
