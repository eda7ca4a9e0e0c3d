use Rattle.std.proofs.Common.{◌≡◌, suc, ◌+◌, take, get_or, ap, ◌∙◌, arith}
use Rattle.indexmap.specs.IndexMap.{insert_entry}
use Rattle.lua_model.specs.declared.Value.{Value}
use Rattle.lua_model.specs.declared.Value.TheVariants.{Nil}
use Rattle.lua_table.proofs.Lists.{inserted}
use Rattle.lua_table.proofs.Mapped.{eq}
use Rattle.lua_table.proofs.hashed.Hashed.from_pairs.Goals as goal

pub loop-key-preserved : goal.loop-key-preserved
loop-key-preserved c =
    let ps = c.args.pairs.now in
    let i = c.loop-key.key-index in
    let d : Value × Value = (Nil, Nil) in
    let next : suc i ≡ i + 1 = omega arith in
    c.in_ok-insert.ensures.entries
    ∙ ap (λ es. insert_entry eq es (get_or ps i d).0 (get_or ps i d).1) c.loop-key.invariant
    ∙ inserted ps i d c.requires.apart c.loop-key-test.true
    ∙ ap (λ m. take m ps) next
