use Rattle.std.proofs.Common.{◌≡◌, length, get_or, sym, ◌<◌, subst, arith}
use Rattle.lua_tree.specs.Scoping.{global_use}
use Rattle.lua_tree.specs.Resolved.{Resolved}
use Rattle.scopes.specs.Uses.{use_of, uses_of_names}
use Rattle.scopes.proofs.Views.{names_length, name_at}
use Rattle.scopes.proofs.uses.Scopes.name.Goals as goal

pub index-requires : goal.index-requires
index-requires c =
    let below : c.args.i < length (uses_of_names c.self.inside.names.items) = subst (λ (x : Resolved). c.args.i < length x.names) (sym c.self.view_is) c.requires in
    omega (arith, names_length c.self.inside.names.items)

pub returns : goal.returns
returns c =
    let below : c.args.i < length (uses_of_names c.self.inside.names.items) = subst (λ (x : Resolved). c.args.i < length x.names) (sym c.self.view_is) c.requires in
    subst (λ (x : Resolved). use_of c.index.result.now ≡ get_or x.names c.args.i global_use) c.self.view_is
    (name_at c.self.inside.names.items c.args.i c.index.result.now global_use (omega (arith, names_length c.self.inside.names.items)) c.index.ensures)
