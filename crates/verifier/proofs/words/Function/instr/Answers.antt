-- Answers.
use Rattle.std.proofs.Common.{ap, ◌∙◌}
use Rattle.proto.specs.Chunk.{own}
use Rattle.proto.specs.View.{view_proto}
use Rattle.verifier.proofs.Reading.{instr_there, instr_past}
use Rattle.verifier.proofs.words.Function.instr.Goals as goal

pub returns-in-Some-clause-instr : goal.returns-in-Some-clause-instr
returns-in-Some-clause-instr c = c.decoded.ensures.reading ∙ instr_there (view_proto c.args.self.now) _ c.args.pc _ (c.code_of.ensures ∙ ap (λ p. (own (view_proto p)).code) c.self.view_is) c.in-Some.ensures.lookup.0 c.in-Some.ensures.lookup.1

pub returns-in-None-clause-instr : goal.returns-in-None-clause-instr
returns-in-None-clause-instr c = instr_past (view_proto c.args.self.now) _ c.args.pc (c.code_of.ensures ∙ ap (λ p. (own (view_proto p)).code) c.self.view_is) c.in-None.ensures.lookup.0
