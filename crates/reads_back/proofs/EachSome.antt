-- What holds of the value in an option, if there is one, through the ways in which options are made of options.
use Rattle.std.proofs.Common.{◌≡◌, Bool, true, false, Option, Some, None, refl, subst, if◌then◌else◌}
use Rattle.std.proofs.lemmas.Option.{same_Some}
use Rattle.std.specs.Prelude.{option_and_then, option_map}

-- it holds of the value, if there is one
pub record Each {A : Type 0} (Holds : A → Type 0) (o : Option A) : Type 0 where
  pub at : (x : A) → o ≡ Some x → Holds x

pub each_none : {A : Type 0} {Holds : A → Type 0} → Each Holds None
each_none = record { at = λ x is. absurd cc }

pub each_some : {A : Type 0} {Holds : A → Type 0} {x : A} → Holds x → Each Holds (Some x)
each_some {Holds = Holds} {x} holds = record { at = λ y is. subst Holds (same_Some x y is) holds }

-- nothing is said of it
pub each_there : {A : Type 0} {o : Option A} → Each (λ x. Unit {0}) o
each_there = record { at = λ x is. tt }

pub each_then : {A B : Type 0} {Holds : A → Type 0} {Then : B → Type 0} {o : Option A} {g : A → Option B} → Each Holds o → ((x : A) → Holds x → Each Then (g x)) → Each Then (option_and_then g o)
each_then {o = None} first next = each_none
each_then {o = Some x} first next = next x (first.at x refl)

-- whatever it is
pub each_next : {A B : Type 0} {Then : B → Type 0} (o : Option A) {g : A → Option B} → ((x : A) → Each Then (g x)) → Each Then (option_and_then g o)
each_next None next = each_none
each_next (Some x) next = next x

pub each_map : {A B : Type 0} {Holds : A → Type 0} {Then : B → Type 0} {o : Option A} (g : A → B) → Each Holds o → ((x : A) → Holds x → Then (g x)) → Each Then (option_map g o)
each_map {o = None} g first next = each_none
each_map {o = Some x} g first next = each_some (next x (first.at x refl))

pub each_if : {A : Type 0} {Holds : A → Type 0} {first second : Option A} (test : Bool) → Each Holds first → Each Holds second → Each Holds (if test then first else second)
each_if true one other = one
each_if false one other = other

-- where there is one only if a test holds
pub each_where : {A : Type 0} {Holds : A → Type 0} {first : Option A} (test : Bool) → Each Holds first → Each Holds (if test then first else None)
each_where test one = each_if test one each_none

-- what follows holds too
pub each_of : {A : Type 0} {Holds Then : A → Type 0} {o : Option A} → Each Holds o → ((x : A) → Holds x → Then x) → Each Then o
each_of each all = record { at = λ x is. all x (each.at x is) }

-- it is asked of only where a test holds
pub each_tested : {A : Type 0} {Holds : A → Type 0} {first : Option A} (test : Bool) → (test ≡ true → Each Holds first) → Each Holds (if test then first else None)
each_tested true holds = holds refl
each_tested false holds = each_none

pub each_either : {A : Type 0} {Holds : A → Type 0} {first second : Option A} (test : Bool) → (test ≡ true → Each Holds first) → Each Holds second → Each Holds (if test then first else second)
each_either true holds other = holds refl
each_either false holds other = other

-- a test refuses it
pub each_refused : {A : Type 0} {Holds : A → Type 0} (test : Bool) (first : Option A) → test ≡ false → Each Holds (if test then first else None)
each_refused true first is = absurd cc
each_refused false first is = each_none

pub each_both : {A : Type 0} {Holds Also : A → Type 0} {o : Option A} → Each Holds o → Each Also o → Each (λ x. Holds x × Also x) o
each_both first second = record { at = λ x is. (first.at x is, second.at x is) }
