use Rattle.std.proofs.Common.{◌≡◌, ◌+◌, ◌-◌, length, vec_len, refl, arith}
use Rattle.recover_flow.proofs.Separated.{last_marked}
use Rattle.recover_flow.proofs.separating.separate.Goals as goal

pub returns-in-Some : goal.returns-in-Some
returns-in-Some c =
    let statements = c.args.statements.now in
    let count : vec_len statements - 1 + 1 ≡ length statements.items = omega (arith, c.in-Some.ensures.item.3.0, statements.ok.0) in
    last_marked statements.items (vec_len statements - 1) c.in-Some.last.now _ count c.in-Some.ensures.value refl refl refl
