-- The words of a step one behind the other: from a pc and what is known there, reading comes to another.
use Rattle.std.proofs.Common.{◌≡◌, ℕ, zero, suc, ◌+◌, ◌<◌, ◌⊎◌, inl, inr, Some, refl, ap, ◌∙◌, ◌≤◌, arith}
use Rattle.std.specs.Prelude.{option_and_then}
use Rattle.recover_expr.specs.Drafts.{Drafted}
use Rattle.recover_expr.specs.Reading.{on, over, go_on, turn_at, words_from}
use Rattle.recover_expr.specs.Situation.{Function, Situation}

-- the words between are read, and the step is not over
pub data Reaches (f : Function) : ℕ → Situation → ℕ → Situation → Type 0 where
  here : {pc : ℕ} {s : Situation} → Reaches f pc s pc s
  word : {pc next last : ℕ} {s t behind : Situation} → pc < next → turn_at f pc s ≡ Some (on next, t) → Reaches f next t last behind → Reaches f pc s last behind

pub reaches_then : {f : Function} {pc mid last : ℕ} {s t behind : Situation} → Reaches f pc s mid t → Reaches f mid t last behind → Reaches f pc s last behind
reaches_then here more = more
reaches_then (word later turn rest) more = word later turn (reaches_then rest more)

pub reaches_on : {f : Function} {pc last : ℕ} {s behind : Situation} → Reaches f pc s last behind → pc ≤ last
reaches_on here = omega arith
reaches_on (word later turn rest) = let on = reaches_on rest in omega arith

-- some words are read, or nothing changes
pub reaches_some : {f : Function} {pc last : ℕ} {s behind : Situation} → Reaches f pc s last behind → (pc < last) ⊎ (s ≡ behind)
reaches_some here = inr refl
reaches_some (word later turn rest) = inl (let on = reaches_on rest in omega arith)

-- the step is over with the next word, which so many words reach
pub step_ends : {f : Function} {pc last : ℕ} {s t behind : Situation} (draft : Drafted) (count : ℕ) → Reaches f pc s last t → turn_at f last t ≡ Some (over draft, behind) → last < count + pc →
    words_from f count pc s ≡ Some (draft, behind)
step_ends draft zero here ends few = absurd (omega arith)
step_ends {f} draft (suc count) here ends few = ap (option_and_then (λ p. go_on (words_from f count) p.0 p.1)) ends
step_ends draft zero (word later turn rest) ends few = let on = reaches_on rest in absurd (omega arith)
step_ends {f} draft (suc count) (word later turn rest) ends few =
    ap (option_and_then (λ p. go_on (words_from f count) p.0 p.1)) turn ∙ step_ends draft count rest ends (omega arith)
