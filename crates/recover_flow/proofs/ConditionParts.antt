-- The parts of a condition, one turn of the loop that finds them after another.
use Rattle.std.proofs.Common.{◌≡◌, ◌+◌, ◌-◌, ◌<◌, ◌≤◌, ℕ, suc, List, [], ◌∷◌, ◌++◌, Option, None, Some, option_map, refl, sym, ap, ◌∙◌, arith}
use Rattle.std.specs.Prelude.{option_and_then}
use Rattle.std.proofs.lemmas.Bool.{le-leb, lt-leb}
use Rattle.std.proofs.lemmas.List.{append_assoc}
use Rattle.recover_expr.specs.declared.steps.Step.{Step}
use Rattle.recover_flow.specs.Asked.{target_at}
use Rattle.recover_flow.specs.Conditions.{empty_part, part_with, before_parts, parts_from}
use Rattle.recover_flow.specs.declared.conditions.Part.{Part}

-- what was found, and the rest
abbrev pub behind : List Part → Option (List Part) → Option (List Part)
behind before rest = option_map (λ (parts : List Part). before ++ parts) rest

pub behind_none : (rest : Option (List Part)) → rest ≡ behind [] rest
behind_none None = refl
behind_none (Some parts) = refl

module _ (steps : List Step) (target to place : ℕ) (part : Part) (before : List Part) (whole : Option (List Part)) (low : place < to) (sofar : behind before (parts_from steps target to (to - place) place part) ≡ whole) where
  abbrev rest : Part → Option (List Part)
  rest = parts_from steps target to (to - (place + 1)) (place + 1)

  one_more : behind before (option_and_then (before_parts rest (place + 1)) (option_and_then (part_with target to place part) (target_at steps place))) ≡ whole
  one_more =
      let count : to - place ≡ suc (to - (place + 1)) = omega (arith, low) in
      ap (λ n. behind before (parts_from steps target to n place part)) (sym count) ∙ sofar

  pub parts_end : None ≡ target_at steps place → None ≡ whole
  parts_end none = let known = one_more in rw (sym none) at known

  pub parts_lost : (goes : ℕ) → Some goes ≡ target_at steps place → None ≡ part_with target to place part goes → None ≡ whole
  parts_lost goes some none = let known = rw (sym some) at one_more in rw (sym none) at known

  with_longer : (goes : ℕ) (longer : Part) → Some goes ≡ target_at steps place → Some longer ≡ part_with target to place part goes → behind before (before_parts rest (place + 1) longer) ≡ whole
  with_longer goes longer some is = let known = rw (sym some) at one_more in rw (sym is) at known

  pub parts_on : (goes : ℕ) (longer : Part) → Some goes ≡ target_at steps place → Some longer ≡ part_with target to place part goes → place + 1 < longer.to → behind before (rest longer) ≡ whole
  parts_on goes longer some is above = let known = with_longer goes longer some is in rw (lt-leb longer.to (place + 1) above) at known

  taken : (part : Part) (parts : Option (List Part)) → behind (before ++ part ∷ []) parts ≡ behind before (option_map (λ (others : List Part). part ∷ others) parts)
  taken part None = refl
  taken part (Some parts) = ap Some (append_assoc before (part ∷ []) parts)

  pub parts_over : (goes : ℕ) (longer over empty : Part) (after : List Part) → Some goes ≡ target_at steps place → Some longer ≡ part_with target to place part goes → longer.to ≤ place + 1 → over ≡ record longer { to = place + 1 } → after ≡ before ++ over ∷ [] → empty ≡ empty_part (place + 1) → behind after (rest empty) ≡ whole
  parts_over goes longer over empty after some is within o a e =
      let known = with_longer goes longer some is in
      let found = rw (le-leb longer.to (place + 1) within) at known in
      rw e (rw a (rw o (taken _ (rest (empty_part (place + 1))) ∙ found)))
