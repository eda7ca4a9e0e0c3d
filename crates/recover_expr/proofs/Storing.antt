-- The stores of an assignment.
use Rattle.std.proofs.Common.{◌≡◌, ◌∙◌, ap, sym, ℕ, suc, ◌+◌, ◌-◌, ◌<◌, false, Option, Some, arith}
use Rattle.std.specs.Prelude.{option_and_then, if◌then◌else◌}
use Rattle.recover_expr.specs.Assigning.{further_store, further_stores}
use Rattle.recover_expr.specs.Situation.{Function, Situation}
use Rattle.recover_expr.specs.Stores.{Assigning, are_all}

-- one store more
pub further_turn : (f : Function) (count counter : ℕ) (now next : Assigning × ℕ × Situation) → counter < count → are_all now.0 ≡ false → Some next ≡ further_store f now.0 now.1 now.2 →
    {whole : Option (Assigning × ℕ × Situation)} → further_stores f (count - counter) now ≡ whole → further_stores f (count - (counter + 1)) next ≡ whole
further_turn f count counter now next below more is left =
    let fewer : count - counter ≡ suc (count - (counter + 1)) = omega arith in
    ap (option_and_then (further_stores f (count - (counter + 1)))) is
    ∙ ap (λ all. if all then Some now else option_and_then (further_stores f (count - (counter + 1))) (further_store f now.0 now.1 now.2)) (sym more)
    ∙ ap (λ n. further_stores f n now) (sym fewer)
    ∙ left
