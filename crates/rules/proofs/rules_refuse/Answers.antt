use Rattle.std.proofs.Common.{true, refl}
use Rattle.rules.specs.declared.rule.Rule.{Rule}
use Rattle.rules.specs.Refused.{bad_word, bad_register, bad_constant, bad_function, bad_upvalue, bad_jump, bad_name, no_open_results, bad_further_word, no_jump, bad_shape, falls_off, jump_to_further, bad_flags, no_room_for_arg}
use Rattle.rules.proofs.Checks.{rejected_at}
use Rattle.rules.proofs.Rejections.{no_loop_numbers_rejected, captured_loop_rejected}
use Rattle.rules.proofs.rules_refuse.Goals as goal

pub returns-clause-bad_word : goal.returns-clause-bad_word
returns-clause-bad_word c = rejected_at bad_word true 0 Rule.BadWord (λ notes k. refl) refl refl

pub returns-clause-bad_register : goal.returns-clause-bad_register
returns-clause-bad_register c = rejected_at bad_register true 0 Rule.Register (λ notes k. refl) refl refl

pub returns-clause-bad_constant : goal.returns-clause-bad_constant
returns-clause-bad_constant c = rejected_at bad_constant true 0 Rule.Constant (λ notes k. refl) refl refl

pub returns-clause-bad_function : goal.returns-clause-bad_function
returns-clause-bad_function c = rejected_at bad_function true 0 Rule.Function (λ notes k. refl) refl refl

pub returns-clause-bad_upvalue : goal.returns-clause-bad_upvalue
returns-clause-bad_upvalue c = rejected_at bad_upvalue true 0 Rule.Upvalue (λ notes k. refl) refl refl

pub returns-clause-bad_jump : goal.returns-clause-bad_jump
returns-clause-bad_jump c = rejected_at bad_jump true 0 Rule.JumpTarget (λ notes k. refl) refl refl

pub returns-clause-bad_name : goal.returns-clause-bad_name
returns-clause-bad_name c = rejected_at bad_name true 0 Rule.NameConstant (λ notes k. refl) refl refl

pub returns-clause-no_open_results : goal.returns-clause-no_open_results
returns-clause-no_open_results c = rejected_at no_open_results true 0 Rule.OpenResults (λ notes k. refl) refl refl

pub returns-clause-no_loop_numbers : goal.returns-clause-no_loop_numbers
returns-clause-no_loop_numbers c = no_loop_numbers_rejected

pub returns-clause-captured_loop : goal.returns-clause-captured_loop
returns-clause-captured_loop c = captured_loop_rejected

pub returns-clause-bad_further_word : goal.returns-clause-bad_further_word
returns-clause-bad_further_word c = rejected_at bad_further_word true 0 Rule.FurtherWord (λ notes k. refl) refl refl

pub returns-clause-no_jump : goal.returns-clause-no_jump
returns-clause-no_jump c = rejected_at no_jump true 0 Rule.NoJump (λ notes k. refl) refl refl

pub returns-clause-bad_shape : goal.returns-clause-bad_shape
returns-clause-bad_shape c = rejected_at bad_shape true 0 Rule.Shape (λ notes k. refl) refl refl

pub returns-clause-falls_off : goal.returns-clause-falls_off
returns-clause-falls_off c = rejected_at falls_off true 0 Rule.FallsOff (λ notes k. refl) refl refl

pub returns-clause-jump_to_further : goal.returns-clause-jump_to_further
returns-clause-jump_to_further c = rejected_at jump_to_further true 2 Rule.JumpTarget (λ notes k. refl) refl refl

pub returns-clause-bad_flags : goal.returns-clause-bad_flags
returns-clause-bad_flags c = rejected_at bad_flags true 0 Rule.Shape (λ notes k. refl) refl refl

pub returns-clause-no_room_for_arg : goal.returns-clause-no_room_for_arg
returns-clause-no_room_for_arg c = rejected_at no_room_for_arg true 0 Rule.Shape (λ notes k. refl) refl refl
