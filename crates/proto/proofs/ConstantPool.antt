-- The test that a set of constants makes is that of the definitions, and so are the numbers that it gives.
use Rattle.std.proofs.Common.{◌≡◌, ℕ, Bool, List, [], ◌∷◌, ◌++◌, refl, ap, ◌∙◌}
use Rattle.std.specs.Prelude.{if◌then◌else◌}
use Rattle.std.specs.Bool.{Decides}
use Rattle.std.specs.Cmp.{booleans_Decides}
use Rattle.std.proofs.lemmas.Bool.Decides.{Decides-at, Decides-int_eq}
use Rattle.std.proofs.lemmas.Slice.Eq.{bytes_eq-Decides}
use Rattle.std.specs.List.{list_any, position_or_len}
use Rattle.proto.specs.declared.parts.Constant.{Constant}
use Rattle.proto.specs.contracts.parts.ConstantPartialEq.TheImpl.{ghosts}
use Rattle.proto.specs.Constants.{same_constant, constant_number, with_constant}

constant_eq-at : (j k : Constant) → ghosts.eq j k ≡ same_constant j k
constant_eq-at Constant.Nil Constant.Nil = refl
constant_eq-at (Constant.Bool a) (Constant.Bool b) = refl
constant_eq-at (Constant.Number a) (Constant.Number b) = refl
constant_eq-at (Constant.Text a) (Constant.Text b) = refl
constant_eq-at j k = refl

pub constant_eq-same_constant : ghosts.eq ≡ same_constant
constant_eq-same_constant = λ i j k. constant_eq-at j k i

pub same_constant-Decides : (j k : Constant) → Decides (same_constant j k) (j ≡ k)
same_constant-Decides Constant.Nil Constant.Nil = (λ t. refl, λ e. refl)
same_constant-Decides (Constant.Bool a) (Constant.Bool b) =
    let d = booleans_Decides a b in (λ t. ap Constant.Bool (d.0 t), λ e. d.1 (cc))
same_constant-Decides (Constant.Number a) (Constant.Number b) =
    let d = Decides-int_eq a b in (λ t. ap Constant.Number (d.0 t), λ e. d.1 (cc))
same_constant-Decides (Constant.Text a) (Constant.Text b) =
    let d = bytes_eq-Decides a b in (λ t. ap Constant.Text (d.0 t), λ e. d.1 (cc))
same_constant-Decides j k = (λ t. cc, λ e. cc)

pub constant_eq-Decides : (j k : Constant) → Decides (ghosts.eq j k) (j ≡ k)
constant_eq-Decides j k =
    Decides-at (ghosts.eq j k) (same_constant j k) (constant_eq-at j k) (same_constant-Decides j k)

-- whether a constant is in a pool, its number there, and the pool with it
pub is_among : (k : Constant) (pool : List Constant) (b : Bool) → b ≡ list_any (ghosts.eq k) pool → b ≡ list_any (same_constant k) pool
is_among k pool b h = h ∙ ap (λ eq. list_any (eq k) pool) constant_eq-same_constant

pub number_among : (k : Constant) (pool : List Constant) (n : ℕ) → n ≡ position_or_len (ghosts.eq k) pool → n ≡ constant_number k pool
number_among k pool n h = h ∙ ap (λ eq. position_or_len (eq k) pool) constant_eq-same_constant

pub pool_with : (k : Constant) (pool more : List Constant) → more ≡ (if list_any (ghosts.eq k) pool then pool else pool ++ k ∷ []) → more ≡ with_constant k pool
pool_with k pool more h =
    h ∙ ap (λ eq. if list_any (eq k) pool then pool else pool ++ k ∷ []) constant_eq-same_constant
