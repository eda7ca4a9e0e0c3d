-- What was found and what the rest will give are what the definition gives.
use Rattle.std.proofs.Common.{◌≡◌, ◌-◌, ◌++◌, List, option_map}
use Rattle.recover_flow.specs.Conditions.{parts_from, condition_parts}
use Rattle.recover_flow.specs.declared.conditions.Part.{Part}
use Rattle.recover_flow.proofs.conditions.parts.Given as goal

abbrev pub invariant-loop-place : goal.invariant-loop-place
invariant-loop-place l =
    option_map (λ (rest : List Part). l.parts.items ++ rest) (parts_from l.steps l.target l.to (l.to - l.place) l.place l.part) ≡ condition_parts l.steps l.from l.to l.target
