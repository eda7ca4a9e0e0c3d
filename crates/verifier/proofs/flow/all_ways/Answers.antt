-- Answers.
use Rattle.std.proofs.Common.{◌∙◌, ap, sym}
use Rattle.std.specs.List.{list_any}
use Rattle.proto.specs.View.{view_proto}
use Rattle.rules.specs.Places.{is_pc, test_ways}
use Rattle.verifier.proofs.After.{ways_of_test, next_jmp}
use Rattle.verifier.proofs.flow.all_ways.Goals as goal

pub returns-then-is_test : goal.returns-then-is_test
returns-then-is_test c t = ways_of_test (view_proto c.args.function.now) c.args.pc c.args.instr t (sym c.is_test.ensures ∙ c.if-is_test.true) ∙ ap (λ d. list_any (is_pc t) (test_ways c.args.pc d)) (next_jmp (view_proto c.args.function.now) c.args.pc _ c.jmp.ensures) ∙ c.test_ways.ensures t
