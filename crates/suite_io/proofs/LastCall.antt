-- The last one of a list of calls.
use Rattle.std.proofs.Common.{◌≡◌, ap, ◌∙◌, ℕ, ◌-◌, Bool, List, [], ◌∷◌, ◌++◌, length, get_or, take, arith, length-append}
use Rattle.std.proofs.Math.ListN.{set}
use Rattle.std.proofs.Math.Seq.{set-append_seam, get_or-append_seam, take-append_seam}
use Rattle.suite_io.specs.declared.calls.FileCall.{FileCall}

-- where the last one stands
pub last_index : {X : Type 0} (xs : List X) (x : X) → length (xs ++ x ∷ []) - 1 ≡ length xs
last_index xs x = omega (arith, length-append xs (x ∷ []))

-- all but the last one
pub take-last : {X : Type 0} (xs : List X) (x : X) → take (length (xs ++ x ∷ []) - 1) (xs ++ x ∷ []) ≡ xs
take-last xs x = ap (λ n. take n (xs ++ x ∷ [])) (last_index xs x) ∙ take-append_seam xs (x ∷ [])

-- a write of the last call's outcome
pub set-last : (old calls : List FileCall) (call : FileCall) (count : ℕ) (at : FileCall) (failed : Bool) → old ≡ calls ++ call ∷ [] → count ≡ length old → at ≡ get_or old (count - 1) at
    → set old (count - 1) (record at { failed = failed }) ≡ calls ++ record call { failed = failed } ∷ []
set-last old calls call count at failed is counted read =
    let place : count - 1 ≡ length calls = ap (λ n. n - 1) (counted ∙ ap length is) ∙ last_index calls call in
    let same : at ≡ call = read ∙ ap (λ n. get_or old n at) place ∙ ap (λ xs. get_or xs (length calls) at) is ∙ get_or-append_seam calls call [] at in
    ap (λ n. set old n (record at { failed = failed })) place
    ∙ ap (λ xs. set xs (length calls) (record at { failed = failed })) is
    ∙ set-append_seam calls call [] (record at { failed = failed })
    ∙ ap (λ c. calls ++ record c { failed = failed } ∷ []) same
