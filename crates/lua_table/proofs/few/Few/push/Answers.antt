use Rattle.std.proofs.Common.{◌≡◌, ◌<◌, false, length, sym, ap, subst, ◌∙◌}
use Rattle.lua_table.specs.Entries.{has_place, with_entry}
use Rattle.lua_table.specs.Rows.{AreFew}
use Rattle.lua_table.proofs.Lists.{few_more, last_entry}
use Rattle.lua_table.proofs.few.Few.push.Goals as goal

pub invariant_of-self-2 : goal.invariant_of-self-2
invariant_of-self-2 c =
    let ps = c.self.inside.pairs.items in
    let room : length ps < 8 = subst (λ qs. length qs < 8) (sym c.self.view_is) c.requires.room in
    let apart : has_place ps c.args.key ≡ false = ap (λ qs. has_place qs c.args.key) c.self.view_is ∙ c.requires.apart in
    subst AreFew (sym c.in_ok-push.ensures.items) (few_more ps c.args.key c.args.value c.self.invariant room apart c.requires.value)

pub returns-clause-pairs : goal.returns-clause-pairs
returns-clause-pairs c =
    let ps = c.self.inside.pairs.items in
    let apart : has_place ps c.args.key ≡ false = ap (λ qs. has_place qs c.args.key) c.self.view_is ∙ c.requires.apart in
    c.in_ok-push.ensures.items ∙ last_entry ps c.args.key c.args.value apart c.requires.value ∙ ap (λ qs. with_entry qs c.args.key c.args.value) c.self.view_is
