-- From the laws of what is read, found and built.
use Rattle.recovers.proofs.FlowSources.{flow_sources_recovered}
use Rattle.recovers.proofs.flow_sources_are_recovered.Goals as goal

pub returns : goal.returns
returns c =
    flow_sources_recovered c.names_stand.ensures c.lines_do_not_matter.ensures.semicolons
    (record {
      found = c.flow_is_found.ensures;
      apart = c.flow_comes_apart.ensures;
      lies = c.what_stands_lies.ensures;
      laid = c.what_is_built_stands.ensures;
      lie = c.what_is_laid_lies.ensures;
      built = c.what_lies_is_built.ensures.built;
      formed = c.what_lies_is_built.ensures.formed;
      standing = c.what_lies_is_built.ensures.standing;
      shallow = c.what_lies_is_built.ensures.shallow;
      told = c.steps_tell_of_locals.ensures;
      steps = c.like_steps_make_the_same.ensures.steps;
      makes = c.like_steps_make_the_same.ensures.makes;
      says = c.like_steps_make_the_same.ensures.says;
      acts = c.acts_are_found.ensures.found;
    })
