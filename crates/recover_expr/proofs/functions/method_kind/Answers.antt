use Rattle.std.proofs.Common.{◌∙◌, sym, ap, arith}
use Rattle.recover_expr.proofs.Listing.{method_kind_of, names_taken}
use Rattle.recover_expr.specs.Assigning.{names_before_last, last_name}
use Rattle.recover_expr.proofs.functions.method_kind.Goals as goal

pub returns : goal.returns
returns c =
    let taken = names_taken _ c.into_vec-path.result.items c.pop-method.new.self.items c.pop-method.result c.pop-method.ensures.items c.pop-method.ensures.cases (λ none. omega (arith, none.1, c.pop-method.new.self.ok.0)) in
    method_kind_of c.args.path c.from_vec.result c.pop-method.result c.args.body
    (c.from_vec.ensures ∙ sym taken.0 ∙ ap names_before_last c.into_vec-path.ensures) (sym taken.1 ∙ ap last_name c.into_vec-path.ensures)
