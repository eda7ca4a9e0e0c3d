-- Functions whose upvalues and their sources are those that marks give them.
use Rattle.std.proofs.Common.{◌≡◌, ◌==◌, ◌||◌, ℕ, zero, suc, ◌+◌, ◌<◌, ◌≤◌, Bool, true, false, List, [], ◌∷◌, ◌++◌, length, get_or, Option, Some, None, if◌then◌else◌, refl, sym, ap, ◌∙◌, subst, arith}
use Rattle.std.proofs.Math.ListN.{set}
use Rattle.lua_tree.specs.Outline.{Binding, Mark}
use Rattle.lua_tree.specs.Scoping.{is_known, slot_of, upvalues_of, Use, use_in, uses_by, sources_of}
use Rattle.lua_tree.specs.Resolved.{upvalues_below}
use Rattle.scopes.specs.Uses.{source_use, source_uses, uses_of_functions}
use Rattle.scopes.specs.Standing.{HaveUpvalues, numbers_of}
use Rattle.scopes.specs.Capturing.{slot_from}
use Rattle.scopes.specs.declared.uses.Captures.{Captures}
use Rattle.scopes.specs.declared.uses.Source.{Source}
use Rattle.scopes.proofs.Known.{same_number}

-- one function, and all from a number on
pub record IsAt (f : ℕ) (captures : Captures) (marks : List Mark) : Type 0 where
  pub declarations : captures.declarations.items ≡ numbers_of (upvalues_of f marks)
  pub few : length captures.declarations.items ≤ 60
  pub sources : source_uses captures.sources.items ≡ sources_of f marks

abbrev pub AreAt : ℕ → List Captures → List Mark → Type 0
AreAt f [] marks = Unit {0}
AreAt f (captures ∷ functions) marks = IsAt f captures marks × AreAt (suc f) functions marks

abbrev sources_from : (f count : ℕ) → List Mark → List (List Use)
sources_from f zero marks = []
sources_from f (suc count) marks = sources_of f marks ∷ sources_from (suc f) count marks

sources_last : (f count : ℕ) (marks : List Mark) → sources_from f (suc count) marks ≡ sources_from f count marks ++ sources_of (f + count) marks ∷ []
sources_last f zero marks =
    let e : f ≡ f + 0 = omega arith in
    ap (λ x. sources_of x marks ∷ []) e
sources_last f (suc count) marks =
    let e : suc f + count ≡ f + suc count = omega arith in
    ap (λ x. sources_of f marks ∷ x) (sources_last (suc f) count marks ∙ ap (λ x. sources_from (suc f) count marks ++ sources_of x marks ∷ []) e)

below_from : (count : ℕ) (marks : List Mark) → upvalues_below count marks ≡ sources_from 0 count marks
below_from zero marks = refl
below_from (suc count) marks =
    let e : count ≡ 0 + count = omega arith in
    ap (λ x. upvalues_below count marks ++ sources_of x marks ∷ []) e ∙ ap (λ x. x ++ sources_of (0 + count) marks ∷ []) (below_from count marks) ∙ sym (sources_last 0 count marks)

first_is : {A : Type 0} (x y : A) (xs ys : List A) → x ∷ xs ≡ y ∷ ys → x ≡ y
first_is x y xs ys e = cc

rest_is : {A : Type 0} (x y : A) (xs ys : List A) → x ∷ xs ≡ y ∷ ys → xs ≡ ys
rest_is x y xs ys e = cc

at_from : (f : ℕ) (functions : List Captures) (marks : List Mark) → HaveUpvalues f functions marks → uses_of_functions functions ≡ sources_from f (length functions) marks → AreAt f functions marks
at_from f [] marks have sources = tt
at_from f (captures ∷ functions) marks have sources = (
  record {
    declarations = have.0;
    few = have.1;
    sources = first_is (source_uses captures.sources.items) (sources_of f marks) (uses_of_functions functions) (sources_from (suc f) (length functions) marks) sources;
  },
  at_from (suc f) functions marks have.2 (rest_is (source_uses captures.sources.items) (sources_of f marks) (uses_of_functions functions) (sources_from (suc f) (length functions) marks) sources),
)

upvalues_at : (f : ℕ) (functions : List Captures) (marks : List Mark) → AreAt f functions marks → HaveUpvalues f functions marks
upvalues_at f [] marks are = tt
upvalues_at f (captures ∷ functions) marks are = (are.0.declarations, are.0.few, upvalues_at (suc f) functions marks are.1)

sources_at_from : (f : ℕ) (functions : List Captures) (marks : List Mark) → AreAt f functions marks → uses_of_functions functions ≡ sources_from f (length functions) marks
sources_at_from f [] marks are = refl
sources_at_from f (captures ∷ functions) marks are =
    ap (λ x. x ∷ uses_of_functions functions) are.0.sources ∙ ap (λ x. sources_of f marks ∷ x) (sources_at_from (suc f) functions marks are.1)

pub all_at : (functions : List Captures) (marks : List Mark) → HaveUpvalues 0 functions marks → uses_of_functions functions ≡ upvalues_below (length functions) marks → AreAt 0 functions marks
all_at functions marks have sources = at_from 0 functions marks have (sources ∙ below_from (length functions) marks)

pub have_upvalues : (functions : List Captures) (marks : List Mark) → AreAt 0 functions marks → HaveUpvalues 0 functions marks
have_upvalues functions marks are = upvalues_at 0 functions marks are

pub have_all_sources : (functions : List Captures) (marks : List Mark) → AreAt 0 functions marks → uses_of_functions functions ≡ upvalues_below (length functions) marks
have_all_sources functions marks are = sources_at_from 0 functions marks are ∙ sym (below_from (length functions) marks)

-- a function by its number
at_index : (start i f : ℕ) (functions : List Captures) (captures : Captures) (marks : List Mark) → start + i ≡ f → AreAt start functions marks → i < length functions → captures ≡ get_or functions i captures → IsAt f captures marks
at_index start i f [] captures marks e are below is = absurd (omega arith)
at_index start zero f (first ∷ functions) captures marks e are below is =
    let same : start ≡ f = omega arith in
    subst (λ x. IsAt f x marks) (sym is) (subst (λ x. IsAt x first marks) same are.0)
at_index start (suc i) f (first ∷ functions) captures marks e are below is = at_index (suc start) i f functions captures marks (omega arith) are.1 (omega arith) is

pub one_at : (f : ℕ) (functions : List Captures) (captures : Captures) (marks : List Mark) → AreAt 0 functions marks → f < length functions → captures ≡ get_or functions f captures → IsAt f captures marks
one_at f functions captures marks are below is = at_index 0 f f functions captures marks (omega arith) are below is

few_at : (start i f : ℕ) (functions : List Captures) (marks : List Mark) → start + i ≡ f → AreAt start functions marks → i < length functions → length (numbers_of (upvalues_of f marks)) ≤ 60
few_at start i f [] marks e are below = absurd (omega arith)
few_at start zero f (first ∷ functions) marks e are below =
    let same : start ≡ f = omega arith in
    subst (λ n. length (numbers_of (upvalues_of n marks)) ≤ 60) same (subst (λ (x : List ℕ). length x ≤ 60) are.0.declarations are.0.few)
few_at start (suc i) f (first ∷ functions) marks e are below = few_at (suc start) i f functions marks (omega arith) are.1 (omega arith)

pub numbers_length : (known : List Binding) → length (numbers_of known) ≡ length known
numbers_length [] = refl
numbers_length (binding ∷ known) = ap suc (numbers_length known)

pub few_upvalues : (f : ℕ) (functions : List Captures) (marks : List Mark) → AreAt 0 functions marks → f < length functions → length (upvalues_of f marks) ≤ 60
few_upvalues f functions marks are below = omega (arith, few_at 0 f f functions marks (omega arith) are below, numbers_length (upvalues_of f marks))

-- other marks, and another function at a number
pub record SameAt (f : ℕ) (marks others : List Mark) : Type 0 where
  pub upvalues : upvalues_of f others ≡ upvalues_of f marks
  pub sources : sources_of f others ≡ sources_of f marks

pub at_others : (f : ℕ) (captures : Captures) (marks others : List Mark) → SameAt f marks others → IsAt f captures marks → IsAt f captures others
at_others f captures marks others same is = record {
  declarations = is.declarations ∙ ap numbers_of (sym same.upvalues);
  few = is.few;
  sources = is.sources ∙ sym same.sources;
}

pub are_others : (f : ℕ) (functions : List Captures) (marks others : List Mark) → ((i : ℕ) → f ≤ i → i < f + length functions → SameAt i marks others) → AreAt f functions marks → AreAt f functions others
are_others f [] marks others same are = tt
are_others f (captures ∷ functions) marks others same are = (
  at_others f captures marks others (same f (omega arith) (omega arith)) are.0,
  are_others (suc f) functions marks others (λ i low high. same i (omega arith) (omega arith)) are.1,
)

set_at_from : (start i f : ℕ) (functions : List Captures) (after : Captures) (marks others : List Mark) → start + i ≡ f → ((j : ℕ) → start ≤ j → j < start + length functions → (j ≡ f → ⊥) → SameAt j marks others) →
    IsAt f after others → AreAt start functions marks → AreAt start (set functions i after) others
set_at_from start i f [] after marks others e same is are = tt
set_at_from start zero f (first ∷ functions) after marks others e same is are =
    let e2 : f ≡ start = omega arith in (
      subst (λ x. IsAt x after others) e2 is,
      are_others (suc start) functions marks others (λ j low high. same j (omega arith) (omega arith) (λ k. omega arith)) are.1,
    )
set_at_from start (suc i) f (first ∷ functions) after marks others e same is are = (
  at_others start first marks others (same start (omega arith) (omega arith) (λ k. omega arith)) are.0,
  set_at_from (suc start) i f functions after marks others (omega arith) (λ j low high differ. same j (omega arith) (omega arith) differ) is are.1,
)

pub set_at : (f : ℕ) (functions : List Captures) (after : Captures) (marks others : List Mark) → ((j : ℕ) → j < length functions → (j ≡ f → ⊥) → SameAt j marks others) →
    IsAt f after others → AreAt 0 functions marks → AreAt 0 (set functions f after) others
set_at f functions after marks others same is are = set_at_from 0 f f functions after marks others (omega arith) (λ j low high differ. same j (omega arith) differ) is are

-- the slot of a declaration among numbers is that among bindings
found_step : (t : Bool) (declaration other slot n : ℕ) (known : List Binding) →
    (slot_from declaration (suc n) (numbers_of known) ≡ Some slot → (is_known declaration known ≡ true) × (slot ≡ suc n + slot_of declaration known)) →
    (if t then Some n else slot_from declaration (suc n) (numbers_of known)) ≡ Some slot → ((t || is_known declaration known) ≡ true) × (slot ≡ n + (if t then 0 else suc (slot_of declaration known)))
found_step true declaration other slot n known go e = let same : n ≡ slot = cc in (refl, omega arith)
found_step false declaration other slot n known go e = ((go e).0, omega (arith, (go e).1))

pub slot_found : (declaration slot n : ℕ) (known : List Binding) → slot_from declaration n (numbers_of known) ≡ Some slot → (is_known declaration known ≡ true) × (slot ≡ n + slot_of declaration known)
slot_found declaration slot n [] e = cc
slot_found declaration slot n (binding ∷ known) e =
    found_step (declaration == binding.declaration) declaration binding.declaration slot n known (slot_found declaration slot (suc n) known) e

missed_step : (t : Bool) (n : ℕ) (rest : Option ℕ) (known : Bool) → (rest ≡ None → known ≡ false) → (if t then Some n else rest) ≡ None → (t || known) ≡ false
missed_step true n rest known go e = cc
missed_step false n rest known go e = go e

pub slot_missed : (declaration n : ℕ) (known : List Binding) → slot_from declaration n (numbers_of known) ≡ None → is_known declaration known ≡ false
slot_missed declaration n [] e = refl
slot_missed declaration n (binding ∷ known) e =
    missed_step (declaration == binding.declaration) n (slot_from declaration (suc n) (numbers_of known)) (is_known declaration known) (slot_missed declaration (suc n) known) e

last_step : (t : Bool) (known : Bool) (n m : ℕ) → (known ≡ false → n ≡ m) → (t || known) ≡ false → (if t then 0 else suc n) ≡ suc m
last_step true known n m go e = cc
last_step false known n m go e = ap suc (go e)

pub slot_last : (known : List Binding) (binding : Binding) → is_known binding.declaration known ≡ false → slot_of binding.declaration (known ++ binding ∷ []) ≡ length known
slot_last [] binding e = ap (λ t. if t then 0 else 1) (same_number binding.declaration)
slot_last (first ∷ known) binding e =
    last_step (binding.declaration == first.declaration) (is_known binding.declaration known) (slot_of binding.declaration (known ++ binding ∷ [])) (length known) (slot_last known binding) e

-- one upvalue more
pub numbers_last : (known : List Binding) (binding : Binding) → numbers_of (known ++ binding ∷ []) ≡ numbers_of known ++ binding.declaration ∷ []
numbers_last [] binding = refl
numbers_last (first ∷ known) binding = ap (λ x. first.declaration ∷ x) (numbers_last known binding)

pub source_uses_last : (sources : List Source) (source : Source) → source_uses (sources ++ source ∷ []) ≡ source_uses sources ++ source_use source ∷ []
source_uses_last [] source = refl
source_uses_last (first ∷ sources) source = ap (λ x. source_use first ∷ x) (source_uses_last sources source)

pub uses_by_last : (f : ℕ) (marks : List Mark) (known : List Binding) (binding : Binding) → uses_by f marks (known ++ binding ∷ []) ≡ uses_by f marks known ++ use_in f marks (Some binding) ∷ []
uses_by_last f marks [] binding = refl
uses_by_last f marks (first ∷ known) binding = ap (λ x. use_in f marks (Some first) ∷ x) (uses_by_last f marks known binding)
