use Rattle.std.proofs.Common.{ap, sym, ◌∙◌, rules}
use Rattle.lua_model.specs.Datum.{text}
use Rattle.lua_model.specs.Store.{pair_value}
use Rattle.lua_heap.proofs.Fields.{no_field}
use Rattle.lua_heap.proofs.heap.Heap.field.Goals as goal

pub returns-in-None-clause-value : goal.returns-in-None-clause-value
returns-in-None-clause-value c =
    sym (ap (λ ps. pair_value ps (text c.args.name.now)) (sym c.table.ensures.pairs) ∙ no_field c.args.self.now c.args.name.now (search rules) c.table.result.now c.table.ensures.known)
