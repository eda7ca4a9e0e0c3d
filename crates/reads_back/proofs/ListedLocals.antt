-- The innermost active local of a name is the one that the name means.
use Rattle.std.proofs.Common.{◌≡◌, ℕ, suc, ◌+◌, ◌⊎◌, inl, inr, Bool, true, false, List, [], ◌∷◌, length, Some, None, refl, subst, arith, if◌then◌else◌}
use Rattle.std.specs.Prelude.{slice_get}
use Rattle.lua_num.specs.Bytes.{Text}
use Rattle.scheme.specs.declared.making.Active.{Active}
use Rattle.scheme_stands.specs.Words.{is_named, onto, own_register, register_in}

-- the local in a register has this name
pub record IsNamedAt (text : Text) (xs : List Active) (register : ℕ) : Type 0 where
  pub local : Active
  pub there : slice_get xs register ≡ Some local
  pub named : is_named text local ≡ true

named_onto : (text : Text) (xs acc : List Active) (r : ℕ) → register_in text (onto xs acc) ≡ Some r → (register_in text acc ≡ Some r) ⊎ ((place : ℕ) × (r ≡ length acc + place) × IsNamedAt text xs place)
named_onto text [] acc r is = inl is
named_onto text (x ∷ xs) acc r is = by (named_onto text xs (x ∷ acc) r is)
  where
    here : (named : Bool) → is_named text x ≡ named → (if named then Some (length acc) else register_in text acc) ≡ Some r → (register_in text acc ≡ Some r) ⊎ ((place : ℕ) × (r ≡ length acc + place) × IsNamedAt text (x ∷ xs) place)
    here true known is = let same : length acc ≡ r = cc in inr (0, omega (arith, same), record { local = x; there = refl; named = known })
    here false known is = inl is

    by : (register_in text (x ∷ acc) ≡ Some r) ⊎ ((place : ℕ) × (r ≡ length (x ∷ acc) + place) × IsNamedAt text xs place) → (register_in text acc ≡ Some r) ⊎ ((place : ℕ) × (r ≡ length acc + place) × IsNamedAt text (x ∷ xs) place)
    by (inl found) = here (is_named text x) refl found
    by (inr (place, at, found)) = inr (suc place, omega (arith, at), record { local = found.local; there = found.there; named = found.named })

-- the innermost local of a name is in its register
pub own_named : (text : Text) (xs : List Active) (r : ℕ) → own_register text xs ≡ Some r → IsNamedAt text xs r
own_named text xs r is = by (named_onto text xs [] r is)
  where
    by : (None ≡ Some r) ⊎ ((place : ℕ) × (r ≡ 0 + place) × IsNamedAt text xs place) → IsNamedAt text xs r
    by (inl none) = cc
    by (inr (place, at, found)) = let same : place ≡ r = omega (arith, at) in subst (IsNamedAt text xs) same found
