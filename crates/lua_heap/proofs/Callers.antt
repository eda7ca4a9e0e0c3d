-- What callers of a heap need: values that a heap keeps are kept in lists and over several calls, and a key with a value has a place.
use Rattle.std.proofs.Common.{◌≡◌, Bool, true, false, List, [], ◌∷◌, map, if◌then◌else◌, refl, sym, ap, ◌∙◌}
use Rattle.std.specs.List.{All}
use Rattle.std.proofs.lemmas.List.Elements.{All-weaker}
use Rattle.lua_model.specs.declared.Value.{Value}
use Rattle.lua_model.specs.Datum.{Datum, is_nil, raw_equal}
use Rattle.lua_model.specs.Store.{pair_value}
use Rattle.lua_heap.specs.State.{HeapState, datum, IsOf, Keeps, has_key}
use Rattle.lua_heap.proofs.Growth.{map_agree}

-- ---- several calls

pub keeps_itself : (s : HeapState) → Keeps s s
keeps_itself s v h = (h, refl)

pub keeps_both : (s t u : HeapState) → Keeps s t → Keeps t u → Keeps s u
keeps_both s t u a b v h =
    let first = a v h in
    let second = b v first.0 in
    (second.0, second.1 ∙ first.1)

-- ---- lists

pub values_are_kept : (s t : HeapState) → Keeps s t → (vs : List Value) → All (IsOf s) vs → All (IsOf t) vs
values_are_kept s t keeps vs h = All-weaker (IsOf s) (IsOf t) (λ v l. (keeps v l).0) vs h

pub data_are_kept : (s t : HeapState) → Keeps s t → (vs : List Value) → All (IsOf s) vs → map (datum t) vs ≡ map (datum s) vs
data_are_kept s t keeps vs h = map_agree (IsOf s) (datum t) (datum s) (λ v l. (keeps v l).1) vs h

-- ---- pairs of a heap

-- a key with a value has a place
pub place_there : (ps : List (Datum × Datum)) (k : Datum) → is_nil (pair_value ps k) ≡ false → has_key ps k ≡ true
place_there [] k there = cc
place_there (p ∷ ps) k there = by (raw_equal k p.0) refl (place_there ps k)
  where
    by : (b : Bool) → raw_equal k p.0 ≡ b → (is_nil (pair_value ps k) ≡ false → has_key ps k ≡ true) → (if b then true else has_key ps k) ≡ true
    by true e rest = refl
    by false e rest = rest (sym (ap (λ b. is_nil (if b then p.1 else pair_value ps k)) e) ∙ there)
