-- Operations on pairs under a change of their keys and values that keeps which keys are equal.
use Rattle.std.proofs.Common.{◌≡◌, Bool, true, false, List, [], ◌∷◌, map, Some, option_map, if◌then◌else◌, refl, sym, ap, true≢false}
use Rattle.lua_model.specs.Pairs.{get, has, set, first, after}

-- a choice of images by an equal test is the image of the choice
pub chosen : {A B : Type 0} (g : A → B) (b c : Bool) (x y : A) (w z : B) → b ≡ c → w ≡ g x → z ≡ g y → (if b then w else z) ≡ g (if c then x else y)
chosen g true true x y w z e p q = p
chosen g false false x y w z e p q = q
chosen g true false x y w z e p q = absurd (true≢false e)
chosen g false true x y w z e p q = absurd (true≢false (sym e))

module _ {K V L W : Type 0} (eq : K → K → Bool) (absent : V) (is_absent : V → Bool) (eq' : L → L → Bool) (absent' : W) (is_absent' : W → Bool) (f : K → L) (g : V → W) (at_absent : g absent ≡ absent') (at_value : (v : V) → is_absent' (g v) ≡ is_absent v) where
  -- the key k is equal to those of the pairs as its image is to theirs
  abbrev pub Alike : List (K × V) → K → Type 0
  Alike [] k = Unit {0}
  Alike (p ∷ ps) k = (eq' (f k) (f p.0) ≡ eq k p.0) × Alike ps k

  abbrev pub image : K × V → L × W
  image p = (f p.0, g p.1)

  pub get-map : (ps : List (K × V)) (k : K) → Alike ps k → get eq' absent' is_absent' (map image ps) (f k) ≡ g (get eq absent is_absent ps k)
  get-map [] k h = sym at_absent
  get-map (p ∷ ps) k h = chosen g _ _ p.1 (get eq absent is_absent ps k) (g p.1) _ h.0 refl (get-map ps k h.1)

  pub has-map : (ps : List (K × V)) (k : K) → Alike ps k → has eq' absent' is_absent' (map image ps) (f k) ≡ has eq absent is_absent ps k
  has-map [] k h = refl
  has-map (p ∷ ps) k h = chosen (λ b. b) _ _ true (has eq absent is_absent ps k) true _ h.0 refl (has-map ps k h.1)

  pub set-map : (ps : List (K × V)) (k : K) (v : V) → Alike ps k → set eq' absent' is_absent' (map image ps) (f k) (g v) ≡ map image (set eq absent is_absent ps k v)
  set-map [] k v h = chosen (map image) _ _ [] ((k, v) ∷ []) [] _ (at_value v) refl refl
  set-map (p ∷ ps) k v h = chosen (map image) _ _ ((p.0, v) ∷ ps) (p ∷ set eq absent is_absent ps k v) _ _ h.0 refl (ap (λ l. image p ∷ l) (set-map ps k v h.1))

  pub first-map : (ps : List (K × V)) → first eq' absent' is_absent' (map image ps) ≡ option_map image (first eq absent is_absent ps)
  first-map [] = refl
  first-map (p ∷ ps) = chosen (option_map image) _ _ (first eq absent is_absent ps) (Some p) _ _ (at_value p.1) (first-map ps) refl

  pub after-map : (ps : List (K × V)) (k : K) → Alike ps k → after eq' absent' is_absent' (map image ps) (f k) ≡ option_map (option_map image) (after eq absent is_absent ps k)
  after-map [] k h = refl
  after-map (p ∷ ps) k h = chosen (option_map (option_map image)) _ _ (Some (first eq absent is_absent ps)) (after eq absent is_absent ps k) _ _ h.0 (ap Some (first-map ps)) (after-map ps k h.1)
