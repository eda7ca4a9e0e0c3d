-- A mention that breaks the rule on upvalues, and one that keeps it.
use Rattle.std.proofs.Common.{◌≡◌, ◌==◌, ◌&&◌, ◌||◌, inl, inr, ℕ, ◌+◌, ◌<◌, ◌≤◌, Bool, true, false, not, List, [], ◌∷◌, ◌++◌, length, Option, Some, None, if◌then◌else◌, nat_lt, refl, sym, ap, ◌∙◌, subst, length-append, arith}
use Rattle.std.proofs.lemmas.Bool.Decides.{nat_tests}
use Rattle.lua_num.specs.Bytes.{Text}
use Rattle.lua_tree.specs.Outline.{Binding, Mark}
use Rattle.std.specs.Option.{option_or}
use Rattle.lua_tree.specs.Scoping.{inside_of, is_one_of, is_known, upvalues_of, Breach, too_many_upvalues, upvalue_breach}
use Rattle.lua_tree.specs.Resolved.{declarations_in, functions_in}
use Rattle.scopes.specs.Standing.{binding_of, AreNested, AreWellMade}
use Rattle.scopes.specs.Capturing.{slot_from, Full, Stuck}
use Rattle.scopes.specs.declared.fault.ScopeFault.{ScopeFault}
use Rattle.scopes.specs.declared.uses.Binding.{Binding as Bound}
use Rattle.scopes.specs.declared.uses.Captures.{Captures}
use Rattle.scopes.specs.declared.uses.Source.{Source}
use Rattle.scopes.proofs.Quiet.{none_above, no_upvalues}
use Rattle.scopes.proofs.Known.{same_number, turned, equal_numbers, or_other, or_second}
use Rattle.scopes.proofs.States.{IsAt, AreAt, one_at, slot_missed, numbers_length, few_upvalues}
use Rattle.scopes.proofs.Reaching.{below_home, nested_not, mentioned, mention_upvalues, unmentioned, Mentioned, reached_is}

-- a function that has 60 upvalues, and would get one more
pub record Overfull (marks : List Mark) (line : ℕ) (b : Bound) (around : List ℕ) (fault : ScopeFault) : Type 0 where
  pub function : ℕ
  pub inside : is_one_of function (inside_of b.home around) ≡ true
  pub full : length (upvalues_of function marks) ≡ 60
  pub unknown : is_known b.declaration (upvalues_of function marks) ≡ false
  pub told : fault ≡ ScopeFault.TooManyUpvalues line 61

stuck_none : (b : Bound) (line : ℕ) (around : List ℕ) (functions : List Captures) (fault : ScopeFault) → ((f : ℕ) → is_one_of f around ≡ true → f ≤ b.home) → Stuck b line around functions fault → ⊥
stuck_none b line [] functions fault below stuck = stuck
stuck_none b line (g ∷ around) functions fault below (inl stuck) = stuck_none b line around functions fault (λ f h. below f (or_second (f == g) (is_one_of f around) h)) stuck
stuck_none b line (g ∷ around) functions fault below (inr stuck) =
    let low : g ≤ b.home = below g (ap (λ t. t || is_one_of g around) (same_number g)) in
    omega (arith, stuck.3)

module _ (marks : List Mark) (line : ℕ) (name : Text) (b : Bound) (functions : List Captures) (made : AreWellMade marks marks) (declared : b.declaration < declarations_in marks) (count : functions_in marks ≡ length functions) (are : AreAt 0 functions marks) where
  full_is : (g h : ℕ) (around : List ℕ) (between : List Captures) (from : Source) (fault : ScopeFault) → AreNested (g ∷ h ∷ around) marks → (g == b.home) ≡ false →
      Mentioned functions between (mentioned marks line name (binding_of b) (h ∷ around)) h (binding_of b) from → Full b.declaration g between line fault → Overfull marks line b (g ∷ h ∷ around) fault
  full_is g h around between from fault nested differ outer full =
      let there : IsAt g full.before (mentioned marks line name (binding_of b) (h ∷ around)) = one_at g between full.before (mentioned marks line name (binding_of b) (h ∷ around)) outer.are (omega (arith, nested.1, count, outer.count)) full.stands in
      let same : upvalues_of g (mentioned marks line name (binding_of b) (h ∷ around)) ≡ upvalues_of g marks = unmentioned g marks line name (binding_of b) (h ∷ around) (nested_not g b.home (h ∷ around) marks nested) in
      let counted : length full.before.declarations.items ≡ length (upvalues_of g marks) = ap length there.declarations ∙ numbers_length (upvalues_of g (mentioned marks line name (binding_of b) (h ∷ around))) ∙ ap length same in
      let sixty : length full.before.declarations.items ≡ 60 = omega (arith, there.few, full.full) in
      record {
        function = g;
        inside = ap (λ t. is_one_of g (if t then [] else g ∷ inside_of b.home (h ∷ around))) differ ∙ ap (λ t. t || is_one_of g (inside_of b.home (h ∷ around))) (same_number g);
        full = sym counted ∙ sixty;
        unknown = subst (λ x. is_known b.declaration x ≡ false) same
            (slot_missed b.declaration 0 (upvalues_of g (mentioned marks line name (binding_of b) (h ∷ around))) (subst (λ x. slot_from b.declaration 0 x ≡ None) there.declarations full.unknown));
        told = full.told ∙ ap (λ x. ScopeFault.TooManyUpvalues line (x + 1)) sixty;
      }

  inner : (g h : ℕ) (around : List ℕ) (fault : ScopeFault) → (g == b.home) ≡ false → Overfull marks line b (h ∷ around) fault → Overfull marks line b (g ∷ h ∷ around) fault
  inner g h around fault differ over = record {
    function = over.function;
    inside = ap (λ t. is_one_of over.function (if t then [] else g ∷ inside_of b.home (h ∷ around))) differ ∙ or_second (over.function == g) (is_one_of over.function (inside_of b.home (h ∷ around))) over.inside;
    full = over.full;
    unknown = over.unknown;
    told = over.told;
  }

  pub stuck_is : (around : List ℕ) (fault : ScopeFault) → AreNested around marks → is_one_of b.home around ≡ true → Stuck b line around functions fault → Overfull marks line b around fault
  stuck_is [] fault nested inside stuck = absurd nested
  stuck_is (g ∷ []) fault nested inside stuck = by_test (b.home == g) refl inside
    where
      by_test : (t : Bool) → (b.home == g) ≡ t → t || false ≡ true → Overfull marks line b (g ∷ []) fault
      by_test true e i = absurd (stuck_none b line (g ∷ []) functions fault (λ f h. below_home f g b.home [] marks nested (turned b.home g true e) h) stuck)
      by_test false e i = cc
  stuck_is (g ∷ h ∷ around) fault nested inside stuck = by_test (b.home == g) refl stuck (λ in_rest rest. stuck_is (h ∷ around) fault nested.3 in_rest rest)
    where
      by_test : (t : Bool) → (b.home == g) ≡ t → Stuck b line (g ∷ h ∷ around) functions fault → (is_one_of b.home (h ∷ around) ≡ true → Stuck b line (h ∷ around) functions fault → Overfull marks line b (h ∷ around) fault) →
          Overfull marks line b (g ∷ h ∷ around) fault
      by_test true e s go = absurd (stuck_none b line (g ∷ h ∷ around) functions fault (λ f i. below_home f g b.home (h ∷ around) marks nested (turned b.home g true e) i) s)
      by_test false e (inl rest) go = inner g h around fault (turned b.home g false e) (go (or_other (b.home == g) (is_one_of b.home (h ∷ around)) inside e) rest)
      by_test false e (inr s) go =
          full_is g h around s.0 s.1 fault nested (turned b.home g false e)
          (reached_is marks line name b functions made declared count are (h ∷ around) s.0 s.1 nested.3 (or_other (b.home == g) (is_one_of b.home (h ∷ around)) inside e) s.2) s.4

-- how many upvalues a function has
few_by : (t : Bool) (f : ℕ) (functions : List Captures) (marks : List Mark) → nat_lt f (length functions) ≡ t → AreWellMade marks marks → functions_in marks ≡ length functions → AreAt 0 functions marks → length (upvalues_of f marks) ≤ 60
few_by true f functions marks e made count are = few_upvalues f functions marks are (grind (arith, nat_tests))
few_by false f functions marks e made count are =
    let past : length functions ≤ f = grind (arith, nat_tests) in
    subst (λ (x : List Binding). length x ≤ 60) (sym (no_upvalues f marks marks made (omega arith))) (omega arith)

pub few_everywhere : (f : ℕ) (functions : List Captures) (marks : List Mark) → AreWellMade marks marks → functions_in marks ≡ length functions → AreAt 0 functions marks → length (upvalues_of f marks) ≤ 60
few_everywhere f functions marks made count are = few_by (nat_lt f (length functions)) f functions marks refl made count are

one_more : (t : Bool) (known : List Binding) (binding : Binding) → length (if t then known ++ binding ∷ [] else known) ≤ length known + 1
one_more true known binding = omega (arith, length-append known (binding ∷ []))
one_more false known binding = omega arith

-- no breach, or the 61st upvalue
pub no_breach : (line : ℕ) (marks : List Mark) (functions : List ℕ) → ((f : ℕ) → length (upvalues_of f marks) ≤ 60) → upvalue_breach line marks functions ≡ None
no_breach line marks [] few = refl
no_breach line marks (f ∷ functions) few =
    ap (λ x. option_or x (upvalue_breach line marks functions)) (none_above 60 (length (upvalues_of f marks)) (too_many_upvalues line (length (upvalues_of f marks))) (few f)) ∙
    no_breach line marks functions few

breach_step : (t : Bool) (n line : ℕ) (rest : Option Breach) → nat_lt 60 n ≡ t → n ≤ 61 → (n ≤ 60 → rest ≡ Some (too_many_upvalues line 61)) →
    option_or (if t then Some (too_many_upvalues line n) else None) rest ≡ Some (too_many_upvalues line 61)
breach_step true n line rest e most go =
    let last : n ≡ 61 = grind (arith, nat_tests) in
    ap (λ x. Some (too_many_upvalues line x)) last
breach_step false n line rest e most go =
    let low : n ≤ 60 = grind (arith, nat_tests) in
    go low

pub breach_among : (line g : ℕ) (marks : List Mark) (functions : List ℕ) → ((f : ℕ) → length (upvalues_of f marks) ≤ 61) → is_one_of g functions ≡ true → length (upvalues_of g marks) ≡ 61 →
    upvalue_breach line marks functions ≡ Some (too_many_upvalues line 61)
breach_among line g marks [] most inside full = cc
breach_among line g marks (f ∷ functions) most inside full =
    breach_step (nat_lt 60 (length (upvalues_of f marks))) (length (upvalues_of f marks)) line (upvalue_breach line marks functions) refl (most f)
    (λ low. breach_among line g marks functions most (by_test (g == f) refl inside low) full)
  where
    by_test : (t : Bool) → (g == f) ≡ t → t || is_one_of g functions ≡ true → length (upvalues_of f marks) ≤ 60 → is_one_of g functions ≡ true
    by_test true e i low = let same : length (upvalues_of g marks) ≡ length (upvalues_of f marks) = ap (λ x. length (upvalues_of x marks)) (equal_numbers g f e) in absurd (omega arith)
    by_test false e i low = i

pub overfull_breach : (marks : List Mark) (line : ℕ) (name : Text) (b : Bound) (functions : List Captures) (around : List ℕ) (fault : ScopeFault) → AreWellMade marks marks → functions_in marks ≡ length functions → AreAt 0 functions marks →
    Overfull marks line b around fault → upvalue_breach line (mentioned marks line name (binding_of b) around) (inside_of b.home around) ≡ Some (too_many_upvalues line 61)
overfull_breach marks line name b functions around fault made count are over =
    breach_among line over.function (mentioned marks line name (binding_of b) around) (inside_of b.home around)
    (λ f. omega (
      arith,
      few_everywhere f functions marks made count are,
      ap length (mention_upvalues f marks line name (binding_of b) around),
      one_more (is_one_of f (inside_of b.home around) && not (is_known b.declaration (upvalues_of f marks))) (upvalues_of f marks) (binding_of b),
    ))
    over.inside
    (ap length (mention_upvalues over.function marks line name (binding_of b) around ∙
    ap (λ t. if t && not (is_known b.declaration (upvalues_of over.function marks)) then upvalues_of over.function marks ++ binding_of b ∷ [] else upvalues_of over.function marks) over.inside ∙
    ap (λ t. if not t then upvalues_of over.function marks ++ binding_of b ∷ [] else upvalues_of over.function marks) over.unknown) ∙
    length-append (upvalues_of over.function marks) (binding_of b ∷ []) ∙ ap (λ x. x + 1) over.full)
