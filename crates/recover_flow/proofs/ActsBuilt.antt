-- Statements of steps, a return among them, are built one behind the other.
use Rattle.std.proofs.Common.{◌≡◌, ◌∙◌, refl, sym, ap, ℕ, zero, suc, ◌+◌, ◌<◌, Bool, true, false, List, [], ◌∷◌, slice_get, slice_set, Some, add-one, arith, if◌then◌else◌}
use Rattle.std.specs.Prelude.{option_map, option_and_then}
use Rattle.lua_tree.specs.Joins.{join_statements}
use Rattle.lua_tree.specs.Syntax.{Statements, no_statements, statement, Statement, return_statement, Expressions}
use Rattle.recover_expr.specs.Drafts.{Part, nothing_part}
use Rattle.recover_expr.specs.declared.steps.Step.{Step}
use Rattle.recover_expr.specs.declared.steps.StepKind.{StepKind}
use Rattle.recover_flow.specs.Acts.{AreStepsOf, begin_open, plan_of, plans_of, is_return, is_return_step, part_of_statement, parts_of_statements, with_separators, ActsAreBuilt}
use Rattle.recover_flow.specs.Built.{built_from, built_plan, in_block}
use Rattle.recover_flow.specs.Parts.{begins_open, separated, appended, left_without, part_or_nothing, statement_in, values_in}
use Rattle.recover_flow.specs.Plans.{Plans, step_plan, end_plan}
use Rattle.recover_flow.specs.declared.plan.End.{End}

-- ---- where they stand

-- these are the statements of the steps from one on
abbrev StandFrom : (step : ℕ) → Statements → List Part → Type 0
StandFrom step no_statements parts = Unit {0}
StandFrom step (statement line semicolon kind rest) parts = (slice_get parts step ≡ Some (part_of_statement kind)) × StandFrom (step + 1) rest parts

other_part : (parts : List Part) (taken step : ℕ) → taken < step → slice_get (slice_set parts taken nothing_part) step ≡ slice_get parts step
other_part [] taken step before = refl
other_part (part ∷ parts) taken zero before = absurd (omega (arith, before))
other_part (part ∷ parts) zero (suc step) before = refl
other_part (part ∷ parts) (suc taken) (suc step) before = other_part parts taken step (omega (arith, before))

-- what was taken before them leaves them
still_stand : (statements : Statements) (parts : List Part) (taken step : ℕ) → taken < step → StandFrom step statements parts → StandFrom step statements (left_without taken parts)
still_stand no_statements parts taken step before stand = tt
still_stand (statement line semicolon kind rest) parts taken step before stand =
    (other_part parts taken step before ∙ stand.0, still_stand rest parts taken (step + 1) (omega (arith, before)) stand.1)

behind_another : (statements : Statements) (part : Part) (parts : List Part) (step : ℕ) → StandFrom step statements parts → StandFrom (step + 1) statements (part ∷ parts)
behind_another no_statements part parts step stand = tt
behind_another (statement line semicolon kind rest) part parts step stand =
    (ap (slice_get (part ∷ parts)) (add-one step) ∙ stand.0, behind_another rest part parts (step + 1) stand.1)

stand_first : (statements : Statements) → StandFrom 0 statements (parts_of_statements statements)
stand_first no_statements = tt
stand_first (statement line semicolon kind rest) = (refl, behind_another rest (part_of_statement kind) (parts_of_statements rest) 0 (stand_first rest))

-- ---- one statement

return_plan : (made : StepKind) (step : ℕ) → is_return_step made ≡ true → plan_of made step ≡ end_plan (End.Return step) false
return_plan StepKind.Return step returns = refl
return_plan made step returns = cc

other_plan : (made : StepKind) (step : ℕ) → is_return_step made ≡ false → plan_of made step ≡ step_plan step
other_plan StepKind.Return step other = cc
other_plan made step other = refl

-- it is built where it stands
plan_built : (kind : Statement) (made : StepKind) (step : ℕ) (parts : List Part) → is_return_step made ≡ is_return kind → slice_get parts step ≡ Some (part_of_statement kind)
    → built_plan (plan_of made step) parts ≡ Some (kind, left_without step parts)
plan_built (return_statement values) made step parts same there =
    ap (λ plan. built_plan plan parts) (return_plan made step same)
    ∙ ap (λ values. option_map (λ (done : Statement × List Part). (in_block false done.0, done.1)) (option_map (λ (taken : Expressions × List Part). (return_statement taken.0, taken.1)) (option_map (λ found. (found, left_without step parts)) values)))
    (ap (λ part. values_in (part_or_nothing part)) there)
plan_built kind made step parts same there =
    ap (λ plan. built_plan plan parts) (other_plan made step same) ∙ ap (λ part. option_map (λ found. (found, left_without step parts)) (statement_in (part_or_nothing part))) there

-- ---- what is appended

-- statements, with a semicolon behind the last one where this holds
abbrev separated_where : Bool → Statements → Statements
separated_where true before = separated before
separated_where false before = before

separated_last : (before : Statements) (kind : Statement) → separated (join_statements before (statement 1 false kind no_statements)) ≡ join_statements before (statement 1 true kind no_statements)
separated_last no_statements kind = refl
separated_last (statement line semicolon first no_statements) kind = refl
separated_last (statement line semicolon first (statement line' semicolon' second rest)) kind = ap (statement line semicolon first) (separated_last (statement line' semicolon' second rest) kind)

one_more_behind : (before more : Statements) (semicolon : Bool) (kind : Statement) → join_statements (join_statements before (statement 1 semicolon kind no_statements)) more ≡ join_statements before (statement 1 semicolon kind more)
one_more_behind no_statements more semicolon kind = refl
one_more_behind (statement line separator first rest) more semicolon kind = ap (statement line separator first) (one_more_behind rest more semicolon kind)

-- the last one is separated where what stands behind it begins with a parenthesis
last_separated : (separate : Bool) (before more : Statements) (kind : Statement) → join_statements (separated_where separate (join_statements before (statement 1 false kind no_statements))) more ≡ join_statements before (statement 1 separate kind more)
last_separated true before more kind = ap (λ before. join_statements before more) (separated_last before kind) ∙ one_more_behind before more true kind
last_separated false before more kind = one_more_behind before more false kind

is_appended : (before : Statements) (kind : Statement) → appended before kind ≡ join_statements (separated_where (begins_open kind) before) (statement 1 false kind no_statements)
is_appended before kind = by (begins_open kind)
  where
    by : (separate : Bool) → join_statements (if separate then separated before else before) (statement 1 false kind no_statements) ≡ join_statements (separated_where separate before) (statement 1 false kind no_statements)
    by true = refl
    by false = refl

none_behind : (before : Statements) → join_statements before no_statements ≡ before
none_behind no_statements = refl
none_behind (statement line semicolon first rest) = ap (statement line semicolon first) (none_behind rest)

-- ---- all of them

-- statements behind others
built_behind : (statements before : Statements) (steps : List Step) (step : ℕ) (parts : List Part) → AreStepsOf statements steps → StandFrom step statements parts
    → (behind : List Part) × (built_from before (plans_of step steps) parts ≡ Some (join_statements (separated_where (begin_open statements) before) (with_separators statements), behind))
built_behind no_statements before steps step parts are stand =
    (parts, ap (λ left. built_from before (plans_of step left) parts) are ∙ ap (λ s. Some (s, parts)) (sym (none_behind before)))
built_behind (statement line semicolon kind rest) before [] step parts are stand = absurd are
built_behind (statement line semicolon kind rest) before (first ∷ steps) step parts are stand =
    let later : Plans = plans_of (step + 1) steps in
    let front = separated_where (begins_open kind) before in
    let made = built_behind rest (join_statements front (statement 1 false kind no_statements)) steps (step + 1) (left_without step parts) are.1 (still_stand rest parts step (step + 1) (omega arith) stand.1) in (
      made.0,
      ap (λ o. option_and_then (λ taken. built_from (appended before taken.0) later taken.1) o) (plan_built kind first.kind step parts are.0 stand.0)
          ∙ ap (λ s. built_from s later (left_without step parts)) (is_appended before kind)
          ∙ made.1
          ∙ ap (λ s. Some (s, made.0)) (last_separated (begin_open rest) front (with_separators rest) kind),
    )

pub acts_built : ActsAreBuilt
acts_built statements steps are =
    let made = built_behind statements no_statements steps 0 (parts_of_statements statements) are (stand_first statements) in
    (made.0, made.1 ∙ ap (λ s. Some (s, made.0)) (front_alone (begin_open statements) (with_separators statements)))
  where
    front_alone : (separate : Bool) (statements : Statements) → join_statements (separated_where separate no_statements) statements ≡ statements
    front_alone true statements = refl
    front_alone false statements = refl
