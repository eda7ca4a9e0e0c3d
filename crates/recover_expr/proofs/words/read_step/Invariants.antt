-- What the words from here on come to is what those from the first on do.
use Rattle.std.proofs.Common.{◌≡◌, suc, ◌-◌}
use Rattle.recover_expr.specs.Reading.{words_from}
use Rattle.recover_expr.specs.Situation.{view_function, view_state}
use Rattle.recover_expr.proofs.words.read_step.Given as goal

abbrev pub invariant-loop : goal.invariant-loop
invariant-loop l =
    words_from (view_function l.function) (suc (l.function.last - l.counter)) l.at (view_state l.state) ≡ words_from (view_function l.function) (suc (l.function.last - l.start)) l.start (view_state l.initial.state)
