-- The values that `select` gives, by the distance of its number from 0.
use Rattle.std.proofs.Common.{◌≡◌, ℕ, zero, suc, ◌-◌, ◌≤◌, ℤ, pos, negsuc, ◌<ℤ◌, true, List, length, map, drop, refl, nat_lt, arith}
use Rattle.std.proofs.lemmas.List.{drop-map, length-map}
use Rattle.std.proofs.lemmas.Bool.{lt-ltb}
use Rattle.std.proofs.lemmas.Int.{ints}
use Rattle.std.specs.Int.RustNames.{unsigned_abs}
use Rattle.lua_model.specs.declared.Value.{Value}
use Rattle.lua_model.specs.Acts.{results}
use Rattle.lua_model.specs.Store.{Store}
use Rattle.lua_model.specs.Builtins.{selected}
use Rattle.lua_heap.specs.State.{HeapState, datum}

pub selected-front : (n : ℤ) (distance : ℕ) → pos 0 <ℤ n → distance ≡ unsigned_abs n → (others : List Value) (h : HeapState) (s : Store) → selected n (map (datum h) others) s ≡ results (map (datum h) (drop (distance - 1) others)) s
selected-front (pos zero) distance l e others h s = absurd (omega arith)
selected-front (pos (suc before)) distance l e others h s =
    let one_less : distance - 1 ≡ before = omega arith in
    rw (one_less, drop-map (datum h) before others) refl
selected-front (negsuc less) distance l e others h s = absurd (omega arith)

natural-not_negative : (m : ℕ) → pos m <ℤ pos 0 → ⊥
natural-not_negative m l = grind (arith, ints)

pub selected-back : (n : ℤ) (distance : ℕ) → n <ℤ pos 0 → distance ≡ unsigned_abs n → (others : List Value) → distance ≤ length others → (h : HeapState) (s : Store) → selected n (map (datum h) others) s ≡ results (map (datum h) (drop (length others - distance) others)) s
selected-back (pos m) distance l e others within h s = absurd (natural-not_negative m l)
selected-back (negsuc less) distance l e others within h s =
    let one_less : suc less ≡ distance = omega arith in
    let there : nat_lt less (length others) ≡ true = lt-ltb less (length others) (omega arith) in
    rw (length-map others (datum h), there, one_less, drop-map (datum h) (length others - distance) others) refl
