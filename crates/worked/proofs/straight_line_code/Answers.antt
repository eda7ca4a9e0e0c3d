use Rattle.std.proofs.Common.{refl}
use Rattle.std.specs.Fmt.{digits}
use Rattle.worked.proofs.straight_line_code.Goals as goal

pub returns-clause-addition_code : goal.returns-clause-addition_code
returns-clause-addition_code c = record { registers_are = refl; constants_are = refl; code_is = refl }

pub returns-clause-addition : goal.returns-clause-addition
unfolding digits
returns-clause-addition c = record { before = refl; runs = refl; means = refl }

pub returns-clause-swap_code : goal.returns-clause-swap_code
returns-clause-swap_code c = record { registers_are = refl; constants_are = refl; code_is = refl }

pub returns-clause-swap : goal.returns-clause-swap
unfolding digits
returns-clause-swap c = record { before = refl; runs = refl; means = refl }

pub returns-clause-late_left_code : goal.returns-clause-late_left_code
returns-clause-late_left_code c = record { registers_are = refl; constants_are = refl; code_is = refl }

pub returns-clause-late_left : goal.returns-clause-late_left
unfolding digits
returns-clause-late_left c = record { before = refl; runs = refl; means = refl }

pub returns-clause-in_order : goal.returns-clause-in_order
unfolding digits
returns-clause-in_order c = record { before = refl; runs = refl; means = refl }

pub returns-clause-copied_key : goal.returns-clause-copied_key
unfolding digits
returns-clause-copied_key c = record { before = refl; runs = refl; means = refl }

pub returns-clause-copied_key_left : goal.returns-clause-copied_key_left
unfolding digits
returns-clause-copied_key_left c = record { before = refl; runs = refl; means = refl }

pub returns-clause-least_number_code : goal.returns-clause-least_number_code
returns-clause-least_number_code c = record { registers_are = refl; constants_are = refl; code_is = refl }

pub returns-clause-least_number : goal.returns-clause-least_number
unfolding digits
returns-clause-least_number c = record { before = refl; runs = refl; means = refl }

pub returns-clause-late_end_code : goal.returns-clause-late_end_code
returns-clause-late_end_code c = record { registers_are = refl; constants_are = refl; code_is = refl }

pub returns-clause-late_end : goal.returns-clause-late_end
unfolding digits
returns-clause-late_end c = record { before = refl; runs = refl; means = refl }

pub returns-clause-value_logic_code : goal.returns-clause-value_logic_code
returns-clause-value_logic_code c = record { registers_are = refl; constants_are = refl; code_is = refl }

pub returns-clause-value_logic : goal.returns-clause-value_logic
unfolding digits
returns-clause-value_logic c = record { before = refl; runs = refl; means = refl }

pub returns-clause-condition_code : goal.returns-clause-condition_code
returns-clause-condition_code c = record { registers_are = refl; constants_are = refl; code_is = refl }

pub returns-clause-condition : goal.returns-clause-condition
unfolding digits
returns-clause-condition c = record { before = refl; runs = refl; means = refl }
