use Rattle.std.proofs.Common.{refl}
use Rattle.std.specs.Fmt.{digits}
use Rattle.worked.proofs.handlers_and_hosts.Goals as goal

pub returns-clause-index_handlers : goal.returns-clause-index_handlers
unfolding digits
returns-clause-index_handlers c = record { before = refl; runs = refl; means = refl }

pub returns-clause-newindex_handlers : goal.returns-clause-newindex_handlers
unfolding digits
returns-clause-newindex_handlers c = record { before = refl; runs = refl; means = refl }

pub returns-clause-concat_handler : goal.returns-clause-concat_handler
unfolding digits
returns-clause-concat_handler c = record { before = refl; runs = refl; means = refl }

pub returns-clause-missing_le : goal.returns-clause-missing_le
unfolding digits
returns-clause-missing_le c = record { before = refl; runs = refl; means = refl }

pub returns-clause-called_table : goal.returns-clause-called_table
unfolding digits
returns-clause-called_table c = record { before = refl; runs = refl; means = refl }

pub returns-clause-caught_table : goal.returns-clause-caught_table
unfolding digits
returns-clause-caught_table c = record { before = refl; runs = refl; means = refl }

pub returns-clause-caught_twice : goal.returns-clause-caught_twice
unfolding digits
returns-clause-caught_twice c = record { before = refl; runs = refl; means = refl }

pub returns-clause-kept_cell : goal.returns-clause-kept_cell
unfolding digits
returns-clause-kept_cell c = record { before = refl; runs = refl; means = refl }

pub returns-clause-closed_host : goal.returns-clause-closed_host
unfolding digits
returns-clause-closed_host c = record { before = refl; runs = refl; means = refl }

pub returns-clause-waiting_host : goal.returns-clause-waiting_host
unfolding digits
returns-clause-waiting_host c = record { before = refl; runs = refl; means = refl }

pub returns-clause-eq_handler : goal.returns-clause-eq_handler
unfolding digits
returns-clause-eq_handler c = record { before = refl; runs = refl; means = refl }

pub returns-clause-le_handler : goal.returns-clause-le_handler
unfolding digits
returns-clause-le_handler c = record { before = refl; runs = refl; means = refl }

pub returns-clause-protected_200 : goal.returns-clause-protected_200
unfolding digits
returns-clause-protected_200 c = record { before = refl; runs = refl; means = refl }

pub returns-clause-wrapped_first : goal.returns-clause-wrapped_first
unfolding digits
returns-clause-wrapped_first c = record { before = refl; runs = refl; means = refl }
