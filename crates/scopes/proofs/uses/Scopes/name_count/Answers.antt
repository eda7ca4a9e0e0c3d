use Rattle.std.proofs.Common.{◌≡◌, length, rules, sym, ◌∙◌, subst}
use Rattle.lua_tree.specs.Resolved.{Resolved}
use Rattle.scopes.proofs.Views.{names_length}
use Rattle.scopes.proofs.uses.Scopes.name_count.Goals as goal

pub returns : goal.returns
returns c =
    let is : c.len.result ≡ length c.self.inside.names.items = search rules in
    subst (λ (x : Resolved). c.len.result ≡ length x.names) c.self.view_is
    (is ∙ sym (names_length c.self.inside.names.items))
