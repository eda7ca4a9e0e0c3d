use Rattle.std.proofs.Common.{◌≡◌, length, get_or, [], sym, ap, ◌∙◌, ◌<◌, subst, arith}
use Rattle.lua_tree.specs.Resolved.{Resolved}
use Rattle.scopes.specs.Uses.{source_uses, uses_of_functions}
use Rattle.scopes.proofs.Views.{functions_length, sources_at}
use Rattle.scopes.proofs.uses.Scopes.upvalues.Goals as goal

pub index-requires : goal.index-requires
index-requires c =
    let below : c.args.function < length (uses_of_functions c.self.inside.functions.items) = subst (λ (x : Resolved). c.args.function < length x.upvalues) (sym c.self.view_is) c.requires in
    omega (arith, functions_length c.self.inside.functions.items)

pub returns : goal.returns
returns c =
    let below : c.args.function < length (uses_of_functions c.self.inside.functions.items) = subst (λ (x : Resolved). c.args.function < length x.upvalues) (sym c.self.view_is) c.requires in
    subst (λ (x : Resolved). source_uses c.as_slice.result.now ≡ get_or x.upvalues c.args.function []) c.self.view_is
    (ap source_uses c.as_slice.ensures.value ∙
    sources_at c.self.inside.functions.items c.args.function c.index.result.now (omega (arith, functions_length c.self.inside.functions.items)) c.index.ensures)
