use Rattle.std.proofs.Common.{refl}
use Rattle.std.specs.Fmt.{digits}
use Rattle.worked.proofs.functions_and_loops.Goals as goal

pub returns-clause-shared_cells : goal.returns-clause-shared_cells
unfolding digits
returns-clause-shared_cells c = record { before = refl; runs = refl; means = refl }

pub returns-clause-extra_arguments : goal.returns-clause-extra_arguments
unfolding digits
returns-clause-extra_arguments c = record { before = refl; runs = refl; means = refl }

pub returns-clause-several_results : goal.returns-clause-several_results
unfolding digits
returns-clause-several_results c = record { before = refl; runs = refl; means = refl }

pub returns-clause-tail_call : goal.returns-clause-tail_call
unfolding digits
returns-clause-tail_call c = record { before = refl; runs = refl; means = refl }

pub returns-clause-broken_loop : goal.returns-clause-broken_loop
unfolding digits
returns-clause-broken_loop c = record { before = refl; runs = refl; means = refl }

pub returns-clause-seen_by_until : goal.returns-clause-seen_by_until
unfolding digits
returns-clause-seen_by_until c = record { before = refl; runs = refl; means = refl }
