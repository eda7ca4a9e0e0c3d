use Rattle.std.proofs.Common.{◌≡◌, slice_get, Some, IfSome, ap, sym, subst, ◌∙◌}
use Rattle.std.specs.Cmp.Lexicographic.{bytes_decides}
use Rattle.std.proofs.lemmas.Map.Made.{IfSome-find_same}
use Rattle.string_pool.proofs.Pool.find.Goals as goal

pub returns-clause-id : goal.returns-clause-id
returns-clause-id c =
    let keys = c.self.inside.texts.keys in
    let sought = c.args.bytes.now in
    let same = subst (λ o. IfSome o (λ k. k ≡ sought)) (sym c.in_ok-index.ensures.key) (IfSome-find_same bytes_decides sought keys) in
    ap (λ p. slice_get p c.in_ok-index.index) (sym c.self.view_is) ∙ c.in_ok-index.ensures.stored ∙ ap Some same
