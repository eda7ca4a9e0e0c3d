use Rattle.std.proofs.Common.{refl}
use Rattle.std.specs.Fmt.{digits}
use Rattle.worked.proofs.built_in_functions.Goals as goal

pub returns-clause-kinds : goal.returns-clause-kinds
unfolding digits
returns-clause-kinds c = record { before = refl; runs = refl; means = refl }

pub returns-clause-texts_and_numbers : goal.returns-clause-texts_and_numbers
unfolding digits
returns-clause-texts_and_numbers c = record { before = refl; runs = refl; means = refl }

pub returns-clause-asserted : goal.returns-clause-asserted
unfolding digits
returns-clause-asserted c = record { before = refl; runs = refl; means = refl }

pub returns-clause-selected : goal.returns-clause-selected
unfolding digits
returns-clause-selected c = record { before = refl; runs = refl; means = refl }

pub returns-clause-raw_equality : goal.returns-clause-raw_equality
unfolding digits
returns-clause-raw_equality c = record { before = refl; runs = refl; means = refl }

pub returns-clause-walked : goal.returns-clause-walked
unfolding digits
returns-clause-walked c = record { before = refl; runs = refl; means = refl }

pub returns-clause-paired : goal.returns-clause-paired
unfolding digits
returns-clause-paired c = record { before = refl; runs = refl; means = refl }

pub returns-clause-metatables : goal.returns-clause-metatables
unfolding digits
returns-clause-metatables c = record { before = refl; runs = refl; means = refl }

pub returns-clause-unpacked : goal.returns-clause-unpacked
unfolding digits
returns-clause-unpacked c = record { before = refl; runs = refl; means = refl }
