-- What the reader knows of a local that is declared: its register, the local around it and the step that declares it.
use Rattle.std.proofs.Common.{◌≡◌, ◌<◌, ◌≤◌, ℕ, zero, suc, ◌+◌, ◌-◌, Bool, true, false, nat_lt, List, [], ◌∷◌, ◌++◌, length, map, take, refl, sym, ap, ap₂, ◌∙◌, arith, subst}
use Rattle.std.proofs.lemmas.Bool.Decides.{nat_tests}
use Rattle.std.proofs.lemmas.List.{length-map, map-append}
use Rattle.std.proofs.lemmas.Option.{none-some, same_Some, slice_get-map, slice_get_within}
use Rattle.std.specs.Prelude.{None, Option, Some, option_map, replicate, slice_get}
use Rattle.recover_expr.specs.Locals.{Scope, entered, innermost}
use Rattle.recover_expr.specs.declared.locals.Declared.{Declared}
use Rattle.scheme.specs.declared.making.Active.{Active}
use Rattle.scheme_stands.proofs.Growth.{at_end, kept_end, length_end}
use Rattle.same_flow.proofs.Followed.{append_again, append_nothing}
use Rattle.reads_back.specs.Placed.{outer_of}
use Rattle.reads_back.proofs.ActsRead.{numbers_from}
use Rattle.reads_back.proofs.LikeScopes.{uncaptured}
use Rattle.reads_back.proofs.LocalsLeave.{listed_of}
use Rattle.reads_back.proofs.PlacedCaptures.{element_left, element_taken}
use Rattle.reads_back.proofs.PlacedLocals.{InTurn}
use Rattle.reads_back.proofs.ScopesGrow.{entered_times}

-- of the local that is active in a register, where these steps declare the active ones
pub record IsKnown (declared : List Declared) (active : List Active) (steps : List (Option ℕ)) (register : ℕ) (one : Active) : Type 0 where
  pub is : Declared
  pub there : slice_get declared one.listed ≡ Some is
  pub in_register : is.register ≡ register
  pub outer : is.outer ≡ outer_of active register
  pub step : slice_get steps register ≡ Some is.step

abbrev pub AllKnown : List Declared → List Active → List (Option ℕ) → Type 0
AllKnown declared active steps = (register : ℕ) (one : Active) → slice_get active register ≡ Some one → IsKnown declared active steps register one

-- ---- it stays known

-- but for what is captured the same is declared
pub known_like : (one two : List Declared) (active : List Active) (steps : List (Option ℕ)) → map uncaptured two ≡ map uncaptured one → AllKnown one active steps → AllKnown two active steps
known_like one two active steps same known register local there =
    let before = known register local there in
    let is_there : option_map uncaptured (slice_get two local.listed) ≡ Some (uncaptured before.is) =
    sym (slice_get-map uncaptured two local.listed) ∙ ap (λ (all : List Declared). slice_get all local.listed) same ∙ slice_get-map uncaptured one local.listed ∙ ap (option_map uncaptured) before.there in
    by before (slice_get two local.listed) refl is_there
  where
    by : (before : IsKnown one active steps register local) → (found : Option Declared) → slice_get two local.listed ≡ found → option_map uncaptured found ≡ Some (uncaptured before.is) → IsKnown two active steps register local
    by before None is none = absurd (none-some (uncaptured before.is) none)
    by before (Some other) is like =
        let alike = same_Some (uncaptured other) (uncaptured before.is) like in
        record {
          is = other;
          there = is;
          in_register = ap (λ (one : Declared). one.register) alike ∙ before.in_register;
          outer = ap (λ (one : Declared). one.outer) alike ∙ before.outer;
          step = before.step ∙ ap (λ (one : Declared). Some one.step) (sym alike);
        }

pub known_more : (declared more : List Declared) (active : List Active) (steps : List (Option ℕ)) → AllKnown declared active steps → AllKnown (declared ++ more) active steps
known_more declared more active steps known register one there =
    let before = known register one there in
    record { is = before.is; there = kept_end declared more one.listed before.is before.there; in_register = before.in_register; outer = before.outer; step = before.step }

-- of the first of these
pub known_first : (n : ℕ) (declared : List Declared) (active : List Active) (steps : List (Option ℕ)) → n ≤ length active → AllKnown declared active steps → AllKnown declared (take n active) (take n steps)
known_first n declared active steps few known register one there =
    let before = known register one (element_taken n active register one there) in
    let below : register < n = within n active register one there in
    record {
      is = before.is;
      there = before.there;
      in_register = before.in_register;
      outer = before.outer ∙ sym (outer_first n active register (omega (arith, below)));
      step = taken_there n steps register before.is.step below before.step;
    }
  where
    within : {A : Type 0} (n : ℕ) (xs : List A) (i : ℕ) (x : A) → slice_get (take n xs) i ≡ Some x → i < n
    within zero xs i x there = absurd (none-some x there)
    within (suc n) [] i x there = absurd (none-some x there)
    within (suc n) (y ∷ xs) zero x there = omega arith
    within (suc n) (y ∷ xs) (suc i) x there = let rest = within n xs i x there in omega (arith, rest)

    same_taken : {A : Type 0} (n : ℕ) (xs : List A) (i : ℕ) → i < n → slice_get (take n xs) i ≡ slice_get xs i
    same_taken zero xs i below = absurd (omega (arith, below))
    same_taken (suc n) [] i below = refl
    same_taken (suc n) (x ∷ xs) zero below = refl
    same_taken (suc n) (x ∷ xs) (suc i) below = same_taken n xs i (omega (arith, below))

    taken_there : {A : Type 0} (n : ℕ) (xs : List A) (i : ℕ) (x : A) → i < n → slice_get xs i ≡ Some x → slice_get (take n xs) i ≡ Some x
    taken_there n xs i x below there = same_taken n xs i below ∙ there

    outer_first : (n : ℕ) (active : List Active) (register : ℕ) → register ≤ n → outer_of (take n active) register ≡ outer_of active register
    outer_first n active zero below = refl
    outer_first n active (suc register) below = ap (option_map (λ (one : Active). one.listed)) (same_taken n active register (omega (arith, below)))

-- ---- locals are declared

pub times_length : (count : ℕ) (step : Option ℕ) (scope : Scope) → length (entered_times count step scope).declared ≡ length scope.declared + count
times_length zero step scope = omega arith
times_length (suc count) step scope = omega (arith, times_length count step (entered step scope), length_end scope.declared (record { outer = innermost scope; register = length scope.active; step = step; captured = false }))

pub times_more : (count : ℕ) (step : Option ℕ) (scope : Scope) → (more : List Declared) × ((entered_times count step scope).declared ≡ scope.declared ++ more)
times_more zero step scope = ([], sym (append_nothing scope.declared))
times_more (suc count) step scope =
    let one : Declared = record { outer = innermost scope; register = length scope.active; step = step; captured = false } in
    let rest = times_more count step (entered step scope) in
    (one ∷ rest.0, rest.1 ∙ append_again scope.declared (one ∷ []) rest.0)

outer_front : (active more : List Active) (register : ℕ) → register ≤ length active → outer_of (active ++ more) register ≡ outer_of active register
outer_front active more zero few = refl
outer_front active more (suc register) few = ap (option_map (λ (one : Active). one.listed)) (element_left active more register (omega (arith, few)))

-- the innermost active local
pub innermost_listed : (active : List Active) → slice_get (listed_of active) (length (listed_of active) - 1) ≡ outer_of active (length active)
innermost_listed [] = refl
innermost_listed (one ∷ active) =
    let last : length (listed_of (one ∷ active)) - 1 ≡ length active = omega (arith, length-map (one ∷ active) (λ (one : Active). one.listed)) in
    ap (slice_get (listed_of (one ∷ active))) last ∙ slice_get-map (λ (one : Active). one.listed) (one ∷ active) (length active)

one_known : (one : Active) (active : List Active) (steps : List (Option ℕ)) (step : Option ℕ) (scope : Scope) → scope.active ≡ listed_of active → one.listed ≡ length scope.declared → length steps ≡ length active → AllKnown scope.declared active steps →
    AllKnown (entered step scope).declared (active ++ one ∷ []) (steps ++ step ∷ [])
one_known one active steps step scope same next as_many known register local there = by (nat_lt register (length active)) refl
  where
    new : Declared
    new = record { outer = innermost scope; register = length scope.active; step = step; captured = false }

    by : (b : Bool) → nat_lt register (length active) ≡ b → IsKnown (entered step scope).declared (active ++ one ∷ []) (steps ++ step ∷ []) register local
    by true test =
        let below : register < length active = grind (arith, nat_tests) in
        let before = known register local (sym (element_left active (one ∷ []) register below) ∙ there) in
        record {
          is = before.is;
          there = kept_end scope.declared (new ∷ []) local.listed before.is before.there;
          in_register = before.in_register;
          outer = before.outer ∙ sym (outer_front active (one ∷ []) register (omega (arith, below)));
          step = kept_end steps (step ∷ []) register before.is.step before.step;
        }
    by false test =
        let above : length active ≤ register = grind (arith, nat_tests) in
        let within = slice_get_within (active ++ one ∷ []) register local there in
        let last : register ≡ length active = omega (arith, above, within, length_end active one) in
        let is_one : one ≡ local = same_Some one local (sym (ap (slice_get (active ++ one ∷ [])) last ∙ at_end active one) ∙ there) in
        record {
          is = new;
          there = ap (slice_get (scope.declared ++ new ∷ [])) (ap (λ (one : Active). one.listed) (sym is_one) ∙ next) ∙ at_end scope.declared new;
          in_register = ap length same ∙ length-map active (λ (one : Active). one.listed) ∙ sym last;
          outer =
              ap (λ (active : List ℕ). slice_get active (length active - 1)) same ∙ innermost_listed active
              ∙ sym (ap (outer_of (active ++ one ∷ [])) last ∙ outer_front active (one ∷ []) (length active) (omega arith));
          step = ap (slice_get (steps ++ step ∷ [])) (last ∙ sym as_many) ∙ at_end steps step;
        }

-- locals that are declared one after the other are known behind the others
pub times_known : (new active : List Active) (steps : List (Option ℕ)) (step : Option ℕ) (scope : Scope) → scope.active ≡ listed_of active → InTurn (length scope.declared) new → length steps ≡ length active → AllKnown scope.declared active steps →
    AllKnown (entered_times (length new) step scope).declared (active ++ new) (steps ++ replicate (length new) step)
times_known [] active steps step scope same turn as_many known =
    subst (λ (steps : List (Option ℕ)). AllKnown scope.declared (active ++ []) steps) (sym (append_nothing steps))
    (subst (λ (active : List Active). AllKnown scope.declared active steps) (sym (append_nothing active)) known)
times_known (one ∷ new) active steps step scope same turn as_many known =
    let more = entered step scope in
    let longer : length more.declared ≡ suc (length scope.declared) = length_end scope.declared (record { outer = innermost scope; register = length scope.active; step = step; captured = false }) in
    let same_more : more.active ≡ listed_of (active ++ one ∷ []) =
    ap₂ (λ (active : List ℕ) n. active ++ n ∷ []) same (sym turn.0) ∙ sym (map-append (λ (one : Active). one.listed) active (one ∷ [])) in
    let rest = times_known new (active ++ one ∷ []) (steps ++ step ∷ []) step more same_more (subst (λ n. InTurn n new) (sym longer) turn.1) (omega (arith, as_many, length_end steps step, length_end active one)) (one_known one active steps step scope same turn.0 as_many known) in
    subst (λ (steps : List (Option ℕ)). AllKnown (entered_times (length new) step more).declared (active ++ one ∷ new) steps) (append_again steps (step ∷ []) (replicate (length new) step))
    (subst (λ (active : List Active). AllKnown (entered_times (length new) step more).declared active ((steps ++ step ∷ []) ++ replicate (length new) step)) (append_again active (one ∷ []) new) rest)

-- those that are listed one after the other
pub turn_numbers : (first : ℕ) (new : List Active) → InTurn first new → listed_of new ≡ numbers_from first (length new)
turn_numbers first [] turn = refl
turn_numbers first (one ∷ new) turn = ap₂ (λ n (rest : List ℕ). n ∷ rest) turn.0 (turn_numbers (suc first) new turn.1)
