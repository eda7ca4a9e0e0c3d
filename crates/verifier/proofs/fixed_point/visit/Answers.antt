-- Answers.
use Rattle.std.proofs.Common.{◌∙◌, sym}
use Rattle.proto.specs.View.{view_proto}
use Rattle.verifier.proofs.Moving.{no_word_flows, no_note_flows, step_flows}
use Rattle.verifier.proofs.fixed_point.visit.Goals as goal

pub returns-in_default-clause-flows : goal.returns-in_default-clause-flows
returns-in_default-clause-flows c = no_word_flows (view_proto c.args.function.now) _ _ c.args.pc (sym c.in_default.is ∙ c.instr.ensures.instr)

pub returns-in_default-note_at-clause-flows : goal.returns-in_default-note_at-clause-flows
returns-in_default-note_at-clause-flows c = no_note_flows (view_proto c.args.function.now) c.args.notes.now _ c.args.pc (sym c.note_at.ensures ∙ c.in_default-note_at.is)

pub returns-clause-flows : goal.returns-clause-flows
returns-clause-flows c = step_flows (view_proto c.args.function.now) c.args.notes.now _ _ _ _ _ c.args.pc c.in-Some.instr c.in-Some-note_at.note c.after-note.result _ _ c.in-Some.ensures.instr (sym c.in-Some-note_at.ensures) c.after-note.ensures c.edges-ways.ensures.edges c.in_ok-follow.ensures.followed c.in_ok-follow-2.ensures.followed
