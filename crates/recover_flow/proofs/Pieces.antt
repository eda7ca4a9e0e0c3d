-- Statements piece by piece: the last one may be an `if` up to the end of the body.
use Rattle.std.proofs.Common.{◌≡◌, ◌∙◌, ◌≤◌, ◌<◌, ◌⊎◌, inl, inr, refl, sym, ap, subst, ℕ, zero, suc, max, Bool, true, List, [], ◌∷◌, ◌++◌, length, take, slice_get, Option, None, Some, arith}
use Rattle.std.proofs.lemmas.Option.{none-some, same_Some}
use Rattle.recover_expr.specs.declared.steps.Step.{Step}
use Rattle.recover_flow.specs.Asked.{begins_branches}
use Rattle.recover_flow.specs.Cutting.{pieces_of}
use Rattle.recover_flow.specs.Held.{Store, PlansHeld, NoBody}
use Rattle.recover_flow.specs.Plans.{Plans, no_plans, and_plan, PlanTree, step_plan, end_plan, do_plan, for_plan, while_plan, repeat_plan, if_plan, ArmPlans, body_levels, plan_levels}
use Rattle.recover_flow.specs.Searching.{PlanFound, NoPlan, NoLastIf, LastIfFound, SoFar, StatementsFound}
use Rattle.recover_flow.specs.Standing.{BodyStands, PlanStands, RestStands, EndsInBranches}
use Rattle.recover_flow.specs.declared.plan.Planned.{Planned}
use Rattle.recover_flow.specs.declared.regions.BodyAt.{BodyAt}
use Rattle.recover_flow.specs.declared.regions.Piece.{Piece}
use Rattle.recover_flow.proofs.Levels.{body_from_first, body_from_rest}

-- an `if` up to the end is the only statement that is no piece
pub last_if_levels : (steps : List Step) (at : BodyAt) (levels : ℕ) (piece : Piece) (plan : PlanTree) (rest : Plans) → NoLastIf steps at piece levels → EndsInBranches steps at piece plan rest → levels < body_levels steps (and_plan plan rest)
last_if_levels steps at levels piece (if_plan arms) no_plans none ends = let over = none ends.0 ends.1.0 arms ends.1.1 in omega (arith, over)
last_if_levels steps at levels piece (if_plan arms) (and_plan next rest) none ends = absurd ends
last_if_levels steps at levels piece (step_plan step) rest none ends = absurd ends
last_if_levels steps at levels piece (end_plan end enclosed) rest none ends = absurd ends
last_if_levels steps at levels piece (do_plan step body) rest none ends = absurd ends
last_if_levels steps at levels piece (for_plan step numeric body) rest none ends = absurd ends
last_if_levels steps at levels piece (while_plan condition body) rest none ends = absurd ends
last_if_levels steps at levels piece (repeat_plan body condition) rest none ends = absurd ends

-- where no statement is the piece of a number, and no `if` goes from it or a piece before it to the end, no statements of so many levels stand there
pub none_stand : (steps : List Step) (at : BodyAt) (levels number : ℕ) (pieces : List Piece) (piece : Piece) → slice_get pieces number ≡ Some piece → NoPlan steps at piece levels
    → ((n : ℕ) (p : Piece) → n ≤ number → slice_get pieces n ≡ Some p → NoLastIf steps at p levels) → (plan : PlanTree) (rest : Plans) → RestStands steps at pieces (and_plan plan rest) → levels < body_levels steps (and_plan plan rest)
none_stand steps at levels zero [] piece there none last plan rest stands = absurd stands
none_stand steps at levels (suc number) [] piece there none last plan rest stands = absurd stands
none_stand steps at levels zero (first ∷ pieces) piece there none last plan rest (inl stands) =
    let over = none plan (subst (λ p. PlanStands steps at p plan) (same_Some first piece there) stands.0) in omega (arith, over, body_from_first steps plan rest)
none_stand steps at levels zero (first ∷ pieces) piece there none last plan rest (inr ends) = last_if_levels steps at levels first plan rest (last zero first (omega arith) refl) ends
none_stand steps at levels (suc number) (first ∷ pieces) piece there none last plan rest (inr ends) = last_if_levels steps at levels first plan rest (last zero first (omega arith) refl) ends
none_stand steps at levels (suc number) (first ∷ []) piece there none last plan no_plans (inl stands) = absurd (none-some piece there)
none_stand steps at levels (suc number) (first ∷ second ∷ pieces) piece there none last plan no_plans (inl stands) = absurd stands.1
none_stand steps at levels (suc number) (first ∷ pieces) piece there none last plan (and_plan next rest) (inl stands) =
    let over = none_stand steps at levels number pieces piece there none (λ n p below is. last (suc n) p (omega arith) is) next rest stands.1 in
    omega (arith, over, body_from_rest steps plan (and_plan next rest))

-- the statements so far, and an `if` from the piece of a number up to the end
pub record LastStands (steps : List Step) (store : Store) (at : BodyAt) (levels : ℕ) (pieces : List Piece) (statements : List Planned) : Type 0 where
  pub first : PlanTree
  pub rest : Plans
  pub stands : RestStands steps at pieces (and_plan first rest)
  pub held : PlansHeld steps store statements (and_plan first rest)
  pub fits : body_levels steps (and_plan first rest) ≤ levels

pub last_stands : (steps : List Step) (store : Store) (at : BodyAt) (levels number : ℕ) (pieces : List Piece) (statements : List Planned) (piece : Piece) (last : Planned) → 1 ≤ levels → number ≤ length statements
    → SoFar steps store at levels pieces statements → slice_get pieces number ≡ Some piece → last.levels ≤ levels → LastIfFound steps store at piece last → LastStands steps store at levels pieces (take number statements ++ last ∷ [])
last_stands steps store at levels zero [] statements piece last one within sofar there fits found = absurd (none-some piece there)
last_stands steps store at levels (suc number) [] statements piece last one within sofar there fits found = absurd (none-some piece there)
last_stands steps store at levels zero (first ∷ pieces) statements piece last one within sofar there fits found =
    let here : LastIfFound steps store at first last = subst (λ p. LastIfFound steps store at p last) (sym (same_Some first piece there)) found in
    record {
      first = if_plan here.found.arms;
      rest = no_plans;
      stands = inr (here.begins, (here.bare, here.found.stand));
      held = (here.found.levels, here.found.held, tt);
      fits = omega (arith, here.found.levels, fits, one);
    }
last_stands steps store at levels (suc number) (first ∷ pieces) [] piece last one within sofar there fits found = absurd (nothing_below number within)
  where
    nothing_below : (n : ℕ) → suc n ≤ 0 → ⊥
    nothing_below n below = omega (arith, below)
last_stands steps store at levels (suc number) (first ∷ pieces) (planned ∷ statements) piece last one within sofar there fits found =
    let later = last_stands steps store at levels number pieces statements piece last one (omega (arith, within)) sofar.2 there fits found in
    let head : PlanFound steps store at first planned = sofar.1 in
    record {
      first = head.tree;
      rest = and_plan later.first later.rest;
      stands = inl (head.stands, later.stands);
      held = (head.levels, head.held, later.held);
      fits = omega (arith, head.levels, sofar.0, later.fits, one);
    }

-- a statement for each piece
pub all_stand : (steps : List Step) (store : Store) (at : BodyAt) (levels : ℕ) (first : Piece) (pieces : List Piece) (planned : Planned) (statements : List Planned) → 1 ≤ levels → length statements ≡ length pieces
    → SoFar steps store at levels (first ∷ pieces) (planned ∷ statements) → LastStands steps store at levels (first ∷ pieces) (planned ∷ statements)
all_stand steps store at levels first [] planned [] one same sofar =
    let head : PlanFound steps store at first planned = sofar.1 in
    record { first = head.tree; rest = no_plans; stands = inl (head.stands, tt); held = (head.levels, head.held, tt); fits = omega (arith, head.levels, sofar.0, one) }
all_stand steps store at levels first [] planned (next ∷ statements) one same sofar = absurd (none_is_some (length statements) same)
  where
    none_is_some : (n : ℕ) → suc n ≡ 0 → ⊥
    none_is_some n same = omega (arith, same)
all_stand steps store at levels first (second ∷ pieces) planned [] one same sofar = absurd (none_is_some (length pieces) same)
  where
    none_is_some : (n : ℕ) → 0 ≡ suc n → ⊥
    none_is_some n same = omega (arith, same)
all_stand steps store at levels first (second ∷ pieces) planned (next ∷ statements) one same sofar =
    let later = all_stand steps store at levels second pieces next statements one (omega (arith, same)) sofar.2 in
    let head : PlanFound steps store at first planned = sofar.1 in
    record { first = head.tree; rest = and_plan later.first later.rest; stands = inl (head.stands, later.stands); held = (head.levels, head.held, later.held); fits = omega (arith, head.levels, sofar.0, later.fits, one) }

-- ---- the body of these statements

pub body_stands : (steps : List Step) (store : Store) (at : BodyAt) (levels : ℕ) (pieces : List Piece) (statements : List Planned) → (at.from ≡ at.to → ⊥) → pieces_of steps at ≡ Some pieces
    → LastStands steps store at levels pieces statements → StatementsFound steps store at levels statements
body_stands steps store at levels [] statements apart are found = absurd found.stands
body_stands steps store at levels (piece ∷ pieces) statements apart are found =
    record { first = found.first; rest = found.rest; stands = (apart, (piece, pieces, are, found.stands)); held = found.held; fits = found.fits }

pub no_body : (steps : List Step) (at : BodyAt) (levels : ℕ) → (at.from ≡ at.to → ⊥) → ((piece : Piece) (pieces : List Piece) → pieces_of steps at ≡ Some (piece ∷ pieces) → (plan : PlanTree) (rest : Plans) → RestStands steps at (piece ∷ pieces) (and_plan plan rest) → levels < body_levels steps (and_plan plan rest))
    → NoBody steps at levels
no_body steps at levels apart none no_plans stands = absurd (apart stands)
no_body steps at levels apart none (and_plan plan rest) stands = none stands.1.0 stands.1.1 stands.1.2 plan rest stands.1.3
