-- The arguments of a host, as plain values one after the other, or the first that is none.
use Rattle.std.proofs.Common.{◌≡◌, ℕ, zero, suc, ◌+◌, ◌<◌, List, [], ◌∷◌, ◌++◌, map, take, drop, length, get_or, None, Some, codes, true, if◌then◌else◌, refl, sym, ap, subst, ◌∙◌, arith}
use Rattle.lua_num.specs.Bytes.{Text}
use Rattle.lua_model.specs.declared.Value.{Value}
use Rattle.lua_model.specs.declared.plain.Plain.{Plain}
use Rattle.lua_model.specs.Datum.{kind_name}
use Rattle.lua_model.specs.Acts.{NativeAct}
use Rattle.lua_model.specs.Datum.{Datum}
use Rattle.lua_model.specs.Acts.{asks}
use Rattle.lua_model.specs.Store.{Host, as_plain}
use Rattle.lua_model.specs.Builtins.{plain_values, bad_argument, call_host, host_at, no_host, fails_with}
use Rattle.lua_heap.specs.State.{HeapState, datum, store_of}

-- the plain value of each of these
abbrev pub ArePlain : HeapState → List Value → List Plain → Type 0
ArePlain h vs ps = map (λ v. as_plain (datum h v)) vs ≡ map Some ps

module _ (h : HeapState) (f : Text) where
  pub plain_values_are : (i : ℕ) (vs : List Value) (ps : List Plain) (k : List Plain → NativeAct) → ArePlain h vs ps → plain_values i f (map (datum h) vs) k ≡ k ps
  plain_values_are i [] [] k e = refl
  plain_values_are i [] (p ∷ ps) k e = cc
  plain_values_are i (v ∷ vs) [] k e = cc
  plain_values_are i (v ∷ vs) (p ∷ ps) k e =
      let head : as_plain (datum h v) ≡ Some p = ap (λ l. get_or l 0 None) e in
      let tail : ArePlain h vs ps = ap (λ l. drop 1 l) e in
      ap (λ o. elim o [ None ↦ bad_argument i f (codes "plain value expected, got " ++ kind_name (datum h v)) | Some q ↦ plain_values (suc i) f (map (datum h) vs) λ qs. k (q ∷ qs) ]) head ∙ plain_values_are (suc i) vs ps (λ qs. k (p ∷ qs)) tail

  pub first_is_not_plain : (i : ℕ) (vs : List Value) (n : ℕ) (d : Value) (ps : List Plain) (k : List Plain → NativeAct) → ArePlain h (take n vs) ps → n < length vs → as_plain (datum h (get_or vs n d)) ≡ None → plain_values i f (map (datum h) vs) k ≡ bad_argument (i + n) f (codes "plain value expected, got " ++ kind_name (datum h (get_or vs n d)))
  first_is_not_plain i [] n d ps k e l none = absurd (omega arith)
  first_is_not_plain i (v ∷ vs) zero d ps k e l none =
      ap (λ o. elim o [ None ↦ bad_argument i f (codes "plain value expected, got " ++ kind_name (datum h v)) | Some q ↦ plain_values (suc i) f (map (datum h) vs) λ qs. k (q ∷ qs) ]) none ∙ ap (λ m. bad_argument m f (codes "plain value expected, got " ++ kind_name (datum h v))) (omega arith)
  first_is_not_plain i (v ∷ vs) (suc n) d [] k e l none = cc
  first_is_not_plain i (v ∷ vs) (suc n) d (p ∷ ps) k e l none =
      let head : as_plain (datum h v) ≡ Some p = ap (λ l. get_or l 0 None) e in
      let tail : ArePlain h (take n vs) ps = ap (λ l. drop 1 l) e in
      ap (λ o. elim o [ None ↦ bad_argument i f (codes "plain value expected, got " ++ kind_name (datum h v)) | Some q ↦ plain_values (suc i) f (map (datum h) vs) λ qs. k (q ∷ qs) ]) head ∙ first_is_not_plain (suc i) vs n d ps (λ qs. k (p ∷ qs)) tail (omega arith) none ∙ ap (λ m. bad_argument m f (codes "plain value expected, got " ++ kind_name (datum h (get_or vs n d)))) (omega arith)

-- ---- calls of hosts

module _ (s : HeapState) (hosts : List Host) (names : map (λ k. k.name) hosts ≡ s.host_names) (host : ℕ) (live : (host_at (store_of s hosts) host).live ≡ true) where
  name_is : (host_at (store_of s hosts) host).name ≡ get_or s.host_names host []
  name_is = sym (named hosts host) ∙ ap (λ l. get_or l host []) names
    where
      named : (ks : List Host) (n : ℕ) → get_or (map (λ k. k.name) ks) n [] ≡ (get_or ks n no_host).name
      named [] n = refl
      named (k ∷ ks) zero = refl
      named (k ∷ ks) (suc n) = named ks n

  is_asked : (args : List Datum) → call_host host args (store_of s hosts) ≡ plain_values 1 (host_at (store_of s hosts) host).name args (asks host)
  is_asked args = ap (λ b. if b then plain_values 1 (host_at (store_of s hosts) host).name args (asks host) else fails_with (codes "host is closed")) live

  pub host_is_asked : (vs : List Value) (ps : List Plain) → ArePlain s vs ps → call_host host (map (datum s) vs) (store_of s hosts) ≡ asks host ps
  host_is_asked vs ps e = is_asked (map (datum s) vs) ∙ plain_values_are s (host_at (store_of s hosts) host).name 1 vs ps (asks host) e

  host_is_not_asked : (vs : List Value) (n : ℕ) (d : Value) (ps : List Plain) → ArePlain s (take n vs) ps → n < length vs → as_plain (datum s (get_or vs n d)) ≡ None → call_host host (map (datum s) vs) (store_of s hosts) ≡ bad_argument (suc n) (get_or s.host_names host []) (codes "plain value expected, got " ++ kind_name (datum s (get_or vs n d)))
  host_is_not_asked vs n d ps e l none =
      is_asked (map (datum s) vs) ∙ first_is_not_plain s (host_at (store_of s hosts) host).name 1 vs n d ps (asks host) e l none ∙ ap (λ m. bad_argument m (host_at (store_of s hosts) host).name (codes "plain value expected, got " ++ kind_name (datum s (get_or vs n d)))) (omega arith) ∙ ap (λ f. bad_argument (suc n) f (codes "plain value expected, got " ++ kind_name (datum s (get_or vs n d)))) name_is

  -- the same, seen from a heap that is this one
  pub host_is_not_asked_at : (t : HeapState) → t ≡ s → (vs : List Value) (n : ℕ) (d : Value) (ps : List Plain) → ArePlain s (take n vs) ps → n < length vs → as_plain (datum t (get_or vs n d)) ≡ None → call_host host (map (datum s) vs) (store_of s hosts) ≡ bad_argument (suc n) (get_or t.host_names host []) (codes "plain value expected, got " ++ kind_name (datum t (get_or vs n d)))
  host_is_not_asked_at t stays vs n d ps e l none =
      subst (λ u. as_plain (datum u (get_or vs n d)) ≡ None → call_host host (map (datum s) vs) (store_of s hosts) ≡ bad_argument (suc n) (get_or u.host_names host []) (codes "plain value expected, got " ++ kind_name (datum u (get_or vs n d)))) (sym stays) (host_is_not_asked vs n d ps e l) none
