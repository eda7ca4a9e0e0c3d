use Rattle.std.proofs.Common.{refl}
use Rattle.std.specs.Fmt.{digits}
use Rattle.worked.proofs.constructs.Goals as goal

pub returns-clause-iterated : goal.returns-clause-iterated
unfolding digits
returns-clause-iterated c = record { before = refl; runs = refl; means = refl }

pub returns-clause-self_call : goal.returns-clause-self_call
unfolding digits
returns-clause-self_call c = record { before = refl; runs = refl; means = refl }

pub returns-clause-function_statements : goal.returns-clause-function_statements
unfolding digits
returns-clause-function_statements c = record { before = refl; runs = refl; means = refl }

pub returns-clause-keyed_items : goal.returns-clause-keyed_items
unfolding digits
returns-clause-keyed_items c = record { before = refl; runs = refl; means = refl }

pub returns-clause-inner_block : goal.returns-clause-inner_block
unfolding digits
returns-clause-inner_block c = record { before = refl; runs = refl; means = refl }

pub returns-clause-else_branch : goal.returns-clause-else_branch
unfolding digits
returns-clause-else_branch c = record { before = refl; runs = refl; means = refl }

pub returns-clause-stepped : goal.returns-clause-stepped
unfolding digits
returns-clause-stepped c = record { before = refl; runs = refl; means = refl }

pub returns-clause-single_arguments : goal.returns-clause-single_arguments
unfolding digits
returns-clause-single_arguments c = record { before = refl; runs = refl; means = refl }

pub returns-clause-repeated : goal.returns-clause-repeated
unfolding digits
returns-clause-repeated c = record { before = refl; runs = refl; means = refl }
