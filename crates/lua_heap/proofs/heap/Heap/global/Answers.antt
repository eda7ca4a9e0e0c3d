use Rattle.std.proofs.Common.{ap, sym, subst, ◌∙◌}
use Rattle.lua_model.specs.declared.Value.TheVariants.{Text}
use Rattle.lua_heap.specs.State.{datum, IsOf}
use Rattle.lua_heap.proofs.Entries.{entry_known}
use Rattle.lua_heap.proofs.Names.{global_means, globals_known}
use Rattle.lua_heap.proofs.heap.Heap.global.Goals as goal

pub returns-clause-value : goal.returns-clause-value
returns-clause-value c =
    let s = c.args.self.now in
    ap (datum s) c.get.ensures ∙ sym (global_means c.self.inside s c.self.view_is c.self.invariant c.args.name c.requires.name)

pub returns-clause-known : goal.returns-clause-known
returns-clause-known c =
    let s = c.args.self.now in
    subst (IsOf s) (sym c.get.ensures) (entry_known s c.self.inside.globals (Text c.args.name) (globals_known c.self.inside s c.self.view_is c.self.invariant c.args.name c.requires.name))
