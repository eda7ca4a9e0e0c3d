use Rattle.std.proofs.Common.{◌++◌, take, drop, sym, ap, ◌∙◌}
use Rattle.lua_table.specs.Entries.{first_pair}
use Rattle.lua_table.specs.Rows.{row_pairs}
use Rattle.lua_table.proofs.Around.{first_some, first_none}
use Rattle.lua_table.proofs.rowed.first_from.Goals as goal

pub returns-in-Some : goal.returns-in-Some
returns-in-Some c =
    let s = c.args.rest.now in
    let e = c.in-Some.ensures ∙ ap (λ n. first_pair (drop c.args.start (take n s.pairs))) c.before-2.ensures in
    sym (first_some (drop c.args.start (take s.before s.pairs)) (row_pairs 0 c.args.row.now ++ drop s.before s.pairs) c.in-Some.pair (sym e))

pub returns-in-None : goal.returns-in-None
returns-in-None c =
    let s = c.args.rest.now in
    let e = c.in-None.ensures ∙ ap (λ n. first_pair (drop c.args.start (take n s.pairs))) c.before-2.ensures in
    c.first_in_row.ensures ∙ sym (first_none (drop c.args.start (take s.before s.pairs)) (row_pairs 0 c.args.row.now ++ drop s.before s.pairs) (sym e))
