use Rattle.std.proofs.Common.{◌≡◌, length, rules, sym, ◌∙◌, subst}
use Rattle.lua_tree.specs.Resolved.{Resolved}
use Rattle.scopes.proofs.Views.{functions_length}
use Rattle.scopes.proofs.uses.Scopes.function_count.Goals as goal

pub returns : goal.returns
returns c =
    let is : c.len.result ≡ length c.self.inside.functions.items = search rules in
    subst (λ (x : Resolved). c.len.result ≡ length x.upvalues) c.self.view_is
    (is ∙ sym (functions_length c.self.inside.functions.items))
