-- What the reader knows of captured locals in the end: the highest captured register before a step, and whether one of those that a step declares is captured.
use Rattle.std.proofs.Common.{◌≡◌, ◌<◌, ◌≤◌, ℕ, zero, suc, ◌+◌, ◌^◌, ◌||◌, Bool, true, false, cond, List, [], ◌∷◌, ◌++◌, drop, length, length-drop, take, refl, sym, ap, ap₂, ◌∙◌, arith, subst, if◌then◌else◌}
use Rattle.std.proofs.Math.Seq.{take-length}
use Rattle.std.proofs.lemmas.List.{length-take-le}
use Rattle.std.proofs.lemmas.List.Folds.{list_any-append}
use Rattle.std.proofs.lemmas.Option.{none-some, same_Some, slice_get_within}
use Rattle.std.specs.List.{list_any}
use Rattle.std.specs.Prelude.{Option, None, Some, option_map, slice_get}
use Rattle.core_expr.specs.Counting.{one_more}
use Rattle.recover_expr.specs.Locals as locals
use Rattle.recover_expr.specs.Locals.{Scope, highest_at, highest_behind, or_zero, up_to}
use Rattle.recover_expr.specs.declared.locals.Declared.{Declared}
use Rattle.scheme.specs.Making.{Maker, active_count, any_captured, captured_from}
use Rattle.scheme.specs.declared.making.Active.{Active}
use Rattle.same_flow.specs.Laid.{highest_captured}
use Rattle.same_flow.proofs.Followed.{length_both}
use Rattle.reads_back.specs.Placed.{IsDeclared, innermost_of, outer_of}
use Rattle.reads_back.proofs.PlacedLocals.{Adds, InTurn, Rising, rising_next}

-- ---- elements of lists

module _ {A : Type 0} where
  pub element_there : (xs : List A) (i : ℕ) → i < length xs → (x : A) × (slice_get xs i ≡ Some x)
  element_there [] i h = absurd (omega (arith, h))
  element_there (x ∷ xs) zero h = (x, refl)
  element_there (x ∷ xs) (suc i) h = element_there xs i (omega (arith, h))

  pub element_left : (xs ys : List A) (i : ℕ) → i < length xs → slice_get (xs ++ ys) i ≡ slice_get xs i
  element_left [] ys i h = absurd (omega (arith, h))
  element_left (x ∷ xs) ys zero h = refl
  element_left (x ∷ xs) ys (suc i) h = element_left xs ys i (omega (arith, h))

  pub element_right : (xs ys : List A) (i at : ℕ) → at ≡ length xs + i → slice_get (xs ++ ys) at ≡ slice_get ys i
  element_right [] ys i at e = ap (slice_get ys) (let same : at ≡ i = omega (arith, e) in same)
  element_right (x ∷ xs) ys i zero e = absurd (omega (arith, e))
  element_right (x ∷ xs) ys i (suc at) e = element_right xs ys i at (omega (arith, e))

  element_behind : (n : ℕ) (xs : List A) (i at : ℕ) → at ≡ n + i → slice_get (drop n xs) i ≡ slice_get xs at
  element_behind zero xs i at e = ap (slice_get xs) (let same : i ≡ at = omega (arith, e) in same)
  element_behind (suc n) [] i at e = refl
  element_behind (suc n) (x ∷ xs) i zero e = absurd (omega (arith, e))
  element_behind (suc n) (x ∷ xs) i (suc at) e = element_behind n xs i at (omega (arith, e))

  pub element_taken : (n : ℕ) (xs : List A) (i : ℕ) (x : A) → slice_get (take n xs) i ≡ Some x → slice_get xs i ≡ Some x
  element_taken zero xs i x e = absurd (none-some x e)
  element_taken (suc n) [] i x e = e
  element_taken (suc n) (y ∷ xs) zero x e = e
  element_taken (suc n) (y ∷ xs) (suc i) x e = element_taken n xs i x e

  take_one_more : (xs : List A) (n : ℕ) (x : A) → slice_get xs n ≡ Some x → take (suc n) xs ≡ take n xs ++ x ∷ []
  take_one_more [] n x e = absurd (none-some x e)
  take_one_more (y ∷ xs) zero x e = ap (λ z. z ∷ []) (same_Some y x e)
  take_one_more (y ∷ xs) (suc n) x e = ap (λ (zs : List A). y ∷ zs) (take_one_more xs n x e)

  drop_behind : (xs ys : List A) (k n : ℕ) → n ≡ length xs + k → drop n (xs ++ ys) ≡ drop k ys
  drop_behind [] ys k n e = ap (λ count. drop count ys) (let same : n ≡ k = omega (arith, e) in same)
  drop_behind (x ∷ xs) ys k zero e = absurd (omega (arith, e))
  drop_behind (x ∷ xs) ys k (suc n) e = drop_behind xs ys k n (omega (arith, e))

-- ---- the highest captured register, by the list of all locals

-- where there is one, it is an earlier one
abbrev IsEarlier : Option ℕ → (number : ℕ) → Type 0
IsEarlier None number = Unit {0}
IsEarlier (Some other) number = other < number

behind_kept : (before : List ℕ) (others : List Declared) (i : ℕ) → i < length before → slice_get (highest_behind before others) i ≡ slice_get before i
behind_kept before [] i h = refl
behind_kept before (one ∷ others) i h =
    let this = highest_at before one ∷ [] in
    behind_kept (before ++ this) others i (omega (arith, h, length_both before this)) ∙ element_left before this i h

same_up_to : (before others : List ℕ) (outer : Option ℕ) → IsEarlier outer (length before) → ((i : ℕ) → i < length before → slice_get others i ≡ slice_get before i) → up_to before outer ≡ up_to others outer
same_up_to before others None earlier same = refl
same_up_to before others (Some other) earlier same = ap or_zero (sym (same other earlier))

-- each place has what its local asks for, where that depends on an earlier one
behind_at : (before : List ℕ) (others : List Declared) (i at : ℕ) (one : Declared) → at ≡ length before + i → slice_get others i ≡ Some one → IsEarlier one.outer at →
    slice_get (highest_behind before others) at ≡ Some (highest_at (highest_behind before others) one)
behind_at before [] i at one e there earlier = absurd (none-some one there)
behind_at before (first ∷ others) zero at one e there earlier =
    let this = highest_at before first ∷ [] in
    let all = highest_behind (before ++ this) others in
    let here : at ≡ length before = omega (arith, e) in
    let same : first ≡ one = same_Some first one there in
    behind_kept (before ++ this) others at (omega (arith, here, length_both before this)) ∙ element_right before this 0 at e
    ∙ ap (λ (it : Declared). Some (highest_at before it)) same
    ∙ ap (λ count. Some (if one.captured then one_more one.register else count))
    (same_up_to before all one.outer (subst (IsEarlier one.outer) here earlier) (behind_kept before (first ∷ others)))
behind_at before (first ∷ others) (suc i) at one e there earlier =
    let this = highest_at before first ∷ [] in
    behind_at (before ++ this) others i at one (omega (arith, e, length_both before this)) there earlier

-- ---- the highest captured register, by the active locals

or_false : (b : Bool) → (b || false) ≡ b
or_false true = refl
or_false false = refl

or_true : (b : Bool) → (b || true) ≡ true
or_true true = refl
or_true false = refl

-- with one more behind the others
highest_more : (below : ℕ) (active : List Active) (one : Active) → highest_captured below (active ++ one ∷ []) ≡ (if one.local.captured then suc (below + length active) else highest_captured below active)
highest_more below [] one = by one.local.captured
  where
    by : (b : Bool) → (cond (b || false) (suc below) 0) ≡ (if b then suc (below + 0) else 0)
    by true = omega arith
    by false = refl
highest_more below (first ∷ active) one =
    ap₂ (λ (any : Bool) behind. cond (first.local.captured || any) (cond any behind (suc below)) 0)
    (list_any-append (λ (it : Active). it.local.captured) active (one ∷ []))
    (highest_more (suc below) active one)
    ∙ by first.local.captured (any_captured active) one.local.captured (length active) (highest_captured (suc below) active)
  where
    by : (here any b : Bool) (count behind : ℕ) →
        (cond (here || (any || (b || false))) (cond (any || (b || false)) (if b then suc (suc below + count) else behind) (suc below)) 0)
        ≡ (if b then suc (below + suc count) else (cond (here || any) (cond any behind (suc below)) 0))
    by here any true count behind =
        ap (λ all. cond (here || all) (cond all (suc (suc below + count)) (suc below)) 0) (or_true any)
        ∙ ap (λ all. cond all (suc (suc below + count)) 0) (or_true here) ∙ (let same : suc (suc below + count) ≡ suc (below + suc count) = omega arith in same)
    by here any false count behind = ap (λ all. cond (here || all) (cond all behind (suc below)) 0) (or_false any)

counted : (n : ℕ) → suc n < 2 ^ 32 → one_more n ≡ suc n
counted n few = omega (arith, few)

module _ (declared : List Declared) (active : List Active) (high : ℕ) (rising : Rising 0 active high)
    (known : (register : ℕ) (one : Active) → slice_get active register ≡ Some one → IsDeclared declared active register one) where
  outer_earlier : (register : ℕ) (one : Active) → slice_get active register ≡ Some one → IsEarlier (outer_of active register) one.listed
  outer_earlier zero one there = tt
  outer_earlier (suc register) one there =
      let before = element_there active register (let within = slice_get_within active (suc register) one there in omega (arith, within)) in
      subst (λ (outer : Option Active). IsEarlier (option_map (λ (it : Active). it.listed) outer) one.listed) (sym before.1) (rising_next 0 high active rising register before.0 one before.1 there)

  highest_to : (n : ℕ) → n ≤ length active → n < 2 ^ 32 → up_to (highest_behind [] declared) (outer_of active n) ≡ highest_captured 0 (take n active)
  highest_to zero within few = refl
  highest_to (suc n) within few =
      let all = highest_behind [] declared in
      let one = element_there active n (omega (arith, within)) in
      let knows = known n one.0 one.1 in
      let outer = knows.outer in
      let earlier : IsEarlier knows.is.outer one.0.listed = subst (λ (it : Option ℕ). IsEarlier it one.0.listed) (sym outer) (outer_earlier n one.0 one.1) in
      let count : length (take n active) ≡ n = length-take-le n active (omega (arith, within)) in
      ap (λ (it : Option Active). up_to all (option_map (λ (it : Active). it.listed) it)) one.1
      ∙ ap or_zero (behind_at [] declared one.0.listed one.0.listed knows.is (omega arith) knows.there earlier)
      ∙ ap₂ (λ (b : Bool) register. if b then register else up_to all knows.is.outer) knows.captured (ap one_more knows.in_register ∙ counted n few)
      ∙ ap (λ behind. if one.0.local.captured then suc n else behind) (ap (up_to all) outer ∙ highest_to n (omega (arith, within)) (omega (arith, few)))
      ∙ ap (λ place. if one.0.local.captured then place else highest_captured 0 (take n active)) (let same : suc n ≡ suc (0 + length (take n active)) = omega (arith, count) in same)
      ∙ sym (highest_more 0 (take n active) one.0)
      ∙ ap (highest_captured 0) (sym (take_one_more active n one.0 one.1))

  pub highest_known : length active < 2 ^ 32 → up_to (highest_behind [] declared) (innermost_of active) ≡ highest_captured 0 active
  highest_known few = highest_to (length active) (omega arith) few ∙ ap (highest_captured 0) (take-length active)

-- of the first of these
pub known_taken : (n : ℕ) (declared : List Declared) (active : List Active) → ((register : ℕ) (one : Active) → slice_get active register ≡ Some one → IsDeclared declared active register one) →
    (register : ℕ) (one : Active) → slice_get (take n active) register ≡ Some one → IsDeclared declared (take n active) register one
known_taken n declared active known register one there =
    let knows = known register one (element_taken n active register one there) in
    record { is = knows.is; there = knows.there; in_register = knows.in_register; outer = knows.outer ∙ sym (same register one there); captured = knows.captured }
  where
    same : (register : ℕ) (one : Active) → slice_get (take n active) register ≡ Some one → outer_of (take n active) register ≡ outer_of active register
    same zero one there = refl
    same (suc register) one there =
        let before = element_there (take n active) register (let within = slice_get_within (take n active) (suc register) one there in omega (arith, within)) in
        ap (option_map (λ (it : Active). it.listed)) (before.1 ∙ sym (element_taken n active register before.0 before.1))

-- ---- whether one of those that a step declares is captured

pub in_turn_at : (first : ℕ) (active : List Active) → InTurn first active → (i : ℕ) (one : Active) → slice_get active i ≡ Some one → one.listed ≡ first + i
in_turn_at first [] turn i one there = absurd (none-some one there)
in_turn_at first (it ∷ others) turn zero one there = subst (λ (x : Active). x.listed ≡ first + 0) (same_Some it one there) (let here = turn.0 in omega (arith, here))
in_turn_at first (it ∷ others) turn (suc i) one there = let behind = in_turn_at (suc first) others turn.1 i one there in omega (arith, behind)

-- of these, as many as are active
any_known : (declared : List Declared) (new : List Active) →
    ((i : ℕ) (one : Active) → slice_get new i ≡ Some one → (is : Declared) × (slice_get declared i ≡ Some is) × (is.captured ≡ one.local.captured)) →
    list_any (λ (one : Declared). one.captured) (take (length new) declared) ≡ any_captured new
any_known declared [] known = refl
any_known [] (one ∷ new) known = let first = known 0 one refl in absurd (none-some first.0 first.1)
any_known (it ∷ declared) (one ∷ new) known =
    let first = known 0 one refl in
    ap₂ (λ (a b : Bool). a || b) (ap (λ (x : Declared). x.captured) (same_Some it first.0 first.1) ∙ first.2) (any_known declared new (λ i. known (suc i)))

pub captured_known : (scope : Scope) (before behind : Maker) (adds : Adds before behind) →
    ((register : ℕ) (one : Active) → slice_get behind.active register ≡ Some one → IsDeclared scope.declared behind.active register one) →
    (k some : ℕ) → k + some ≡ length adds.new → locals.any_captured (length before.locals + k) some scope ≡ captured_from (active_count before + k) behind
captured_known scope before behind adds known k some e =
    let first = length before.locals + k in
    let new = drop k adds.new in
    let count : some ≡ length new = omega (arith, e, length-drop k adds.new) in
    let knows : (i : ℕ) (one : Active) → slice_get new i ≡ Some one → (is : Declared) × (slice_get (drop first scope.declared) i ≡ Some is) × (is.captured ≡ one.local.captured) =
    λ i one there.
    let at : slice_get adds.new (k + i) ≡ Some one = sym (element_behind k adds.new i (k + i) refl) ∙ there in
    let is = known (active_count before + (k + i)) one
    (ap (λ (active : List Active). slice_get active (active_count before + (k + i))) adds.active ∙ element_right before.active adds.new (k + i) (active_count before + (k + i)) refl ∙ at) in
    let listed = in_turn_at (length before.locals) adds.new adds.listed (k + i) one at in
    (is.is, element_behind first scope.declared i one.listed (omega (arith, listed)) ∙ is.there, is.captured) in
    ap (λ n. list_any (λ (one : Declared). one.captured) (take n (drop first scope.declared))) count
    ∙ any_known (drop first scope.declared) new knows
    ∙ ap any_captured (sym (drop_behind before.active adds.new k (active_count before + k) refl) ∙ ap (drop (active_count before + k)) (sym adds.active))
