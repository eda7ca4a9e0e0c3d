-- Which names mean locals of the function at a place: those that it has declared, and none at its beginning.
use Rattle.std.proofs.Common.{◌≡◌, ℕ, suc, Bool, true, false, List, [], ◌∷◌, ◌++◌, refl, sym, ap, ◌∙◌, subst}
use Rattle.std.specs.Prelude.{Option, Some, ◌||◌, if◌then◌else◌}
use Rattle.std.specs.Str.{bytes_eq}
use Rattle.std.proofs.lemmas.Bool.{eq-eqb}
use Rattle.std.proofs.lemmas.List.{append-nil}
use Rattle.std.proofs.lemmas.Slice.Eq.{bytes_eq-Decides}
use Rattle.lua_num.specs.Bytes.{Text}
use Rattle.lua_tree.specs.Outline.{Binding, Scope, Mark, mention, Place, innermost, with_name, with_names, with_locals}
use Rattle.lua_tree.specs.Scoping.{upvalues_of, slot_of, Use, local_use, upvalue_use, use_in, uses_among}
use Rattle.scheme_order.specs.Own.{but_own, IsLocalOf, IsOwn}
use Rattle.scheme_order.specs.Permuted.{IsLocalUse}
use Rattle.scheme_order.specs.Turned.{is_among}

-- ---- what is declared

-- no name is one of none
pub no_own : (place : Place) → IsOwn [] place
no_own place name e = cc

-- a local stays one behind the declaration of a name
name_local : (name : Text) (b : Binding) (scope : Scope) (other : Text) → IsLocalOf b.home (scope other) → IsLocalOf b.home (with_name name b scope other)
name_local name b scope other was = by (bytes_eq name other)
  where
    by : (t : Bool) → IsLocalOf b.home (if t then Some b else scope other)
    by true = (b, refl, refl)
    by false = was

-- and behind those of more names
names_keep : (names : List Text) (number home : ℕ) (scope : Scope) (other : Text) → IsLocalOf home (scope other) → IsLocalOf home (with_names names number home scope other)
names_keep [] number home scope other was = was
names_keep (name ∷ names) number home scope other was =
    let b : Binding = record { declaration = number; home = home } in
    names_keep names (suc number) home (with_name name b scope) other (name_local name b scope other was)

-- what is declared is a local, and what was one before
names_local : (names own : List Text) (number home : ℕ) (scope : Scope) (other : Text) → (is_among other own ≡ true → IsLocalOf home (scope other))
    → is_among other (names ++ own) ≡ true → IsLocalOf home (with_names names number home scope other)
names_local [] own number home scope other was e = was e
names_local (name ∷ names) own number home scope other was e =
    by (bytes_eq other name) refl (names_local names own (suc number) home (with_name name this scope) other (λ one. name_local name this scope other (was one))) e
  where
    this : Binding
    this = record { declaration = number; home = home }

    by : (t : Bool) → bytes_eq other name ≡ t → (is_among other (names ++ own) ≡ true → IsLocalOf home (with_names names (suc number) home (with_name name this scope) other))
        → (t || is_among other (names ++ own)) ≡ true → IsLocalOf home (with_names names (suc number) home (with_name name this scope) other)
    by true same behind e =
        let found : (if bytes_eq name other then Some this else scope other) ≡ Some this =
        ap (λ t. if t then Some this else scope other) ((bytes_eq-Decides name other).1 (sym ((bytes_eq-Decides other name).0 same))) in
        names_keep names (suc number) home (with_name name this scope) other (this, found, refl)
    by false apart behind e = behind e

-- at a place where locals have come into scope
pub own_locals : (names own : List Text) (hidden number : ℕ) (place : Place) → IsOwn own place → IsOwn (names ++ own) (with_locals hidden names number place)
own_locals names own hidden number place o other e = names_local names own number (innermost place.around) place.scope other (o other) e

-- the parameters of a function, where no other name is a local
pub own_params : (names : List Text) (hidden number : ℕ) (place : Place) → IsOwn names (with_locals hidden names number place)
own_params names hidden number place = subst (λ own. IsOwn own (with_locals hidden names number place)) (append-nil names) (own_locals names [] hidden number place (no_own place))

-- ---- what such a name means

-- a mention of it is left out
pub own_gone : (line : ℕ) (name : Text) (means : Option Binding) (around : List ℕ) → IsLocalOf (innermost around) means → but_own (mention line name means around ∷ []) ≡ []
own_gone line name means around l =
    let here : but_own (mention line name (Some l.0) around ∷ []) ≡ [] = ap (λ t. if t then [] else mention line name (Some l.0) around ∷ []) (eq-eqb l.0.home (innermost around) l.2) in
    ap (λ meant. but_own (mention line name meant around ∷ [])) l.1 ∙ here

-- and it is a local where it is mentioned
pub own_use : (all : List Mark) (line : ℕ) (name : Text) (means : Option Binding) (around : List ℕ) → IsLocalOf (innermost around) means
    → IsLocalUse (uses_among all (mention line name means around ∷ []))
own_use all line name means around l =
    let here : use_in (innermost around) all (Some l.0) ≡ local_use l.0.declaration =
    ap (λ t. if t then local_use l.0.declaration else upvalue_use (slot_of l.0.declaration (upvalues_of (innermost around) all))) (eq-eqb l.0.home (innermost around) l.2) in
    (l.0.declaration, ap (λ meant. use_in (innermost around) all meant ∷ []) l.1 ∙ ap (λ (u : Use). u ∷ []) here)
