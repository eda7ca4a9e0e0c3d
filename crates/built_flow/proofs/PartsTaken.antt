-- What is taken out of a list of parts is the part of its step, and what is left are parts of these steps, or nothing.
use Rattle.std.proofs.Common.{◌≡◌, ℕ, zero, suc, inl, inr, List, [], ◌∷◌, refl, sym, ap, ◌∙◌, subst}
use Rattle.std.proofs.lemmas.Option.{none-some}
use Rattle.std.specs.Prelude.{◌⊎◌, Option, None, Some, option_map, option_and_then, slice_get, slice_set}
use Rattle.lua_num.specs.Bytes.{Text}
use Rattle.lua_tree.specs.Syntax.{Statement, Expressions, Expression}
use Rattle.recover_expr.specs.Drafts.{Part, nothing_part, statement_part, values_part, condition_part, head_part}
use Rattle.recover_flow.specs.Parts.{part_or_nothing, part_of_step, left_without, statement_in, values_in, condition_in, head_in, take_statement, take_values, take_condition, take_head}

-- each is the part of its step, or it was taken before
abbrev pub AreOf : (all parts : List Part) → Type 0
AreOf all parts = (at : ℕ) (part : Part) → slice_get parts at ≡ Some part → (part ≡ nothing_part) ⊎ (slice_get all at ≡ Some part)

pub all_of : (all : List Part) → AreOf all all
all_of all at part e = inr e

pub same_some : {arm_made : Type 0} (x y : arm_made) → Some x ≡ Some y → x ≡ y
same_some x y e = cc

-- ---- what is made of what is there

pub record Mapped {arm_made own_block : Type 0} (f : arm_made → own_block) (o : Option arm_made) (made : own_block) : Type 0 where
  pub found : arm_made
  pub there : o ≡ Some found
  pub gives : f found ≡ made

pub record Chained {arm_made own_block : Type 0} (f : arm_made → Option own_block) (o : Option arm_made) (made : own_block) : Type 0 where
  pub found : arm_made
  pub there : o ≡ Some found
  pub gives : f found ≡ Some made

pub mapped : {arm_made own_block : Type 0} (f : arm_made → own_block) (o : Option arm_made) (made : own_block) → option_map f o ≡ Some made → Mapped f o made
mapped f None made e = absurd (none-some made e)
mapped f (Some x) made e = record { found = x; there = refl; gives = same_some (f x) made e }

pub chained : {arm_made own_block : Type 0} (f : arm_made → Option own_block) (o : Option arm_made) (made : own_block) → option_and_then f o ≡ Some made → Chained f o made
chained f None made e = absurd (none-some made e)
chained f (Some x) made e = record { found = x; there = refl; gives = e }

-- ---- taking

-- a place that was set has what was put there, or what it had
set_gives : (parts : List Part) (step at : ℕ) (put part : Part) → slice_get (slice_set parts step put) at ≡ Some part → (part ≡ put) ⊎ (slice_get parts at ≡ Some part)
set_gives [] zero at put part e = inr e
set_gives [] (suc step) at put part e = inr e
set_gives (x ∷ parts) zero zero put part e = inl (sym (same_some put part e))
set_gives (x ∷ parts) zero (suc at) put part e = inr e
set_gives (x ∷ parts) (suc step) zero put part e = inr e
set_gives (x ∷ parts) (suc step) (suc at) put part e = set_gives parts step at put part e

pub left_of : (all parts : List Part) (step : ℕ) → AreOf all parts → AreOf all (left_without step parts)
left_of all parts step of at part e = by (set_gives parts step at nothing_part part e)
  where
    by : (part ≡ nothing_part) ⊎ (slice_get parts at ≡ Some part) → (part ≡ nothing_part) ⊎ (slice_get all at ≡ Some part)
    by (inl h) = inl h
    by (inr h) = of at part h

-- which part it is
statement_only : (part : Part) (s : Statement) → statement_in part ≡ Some s → part ≡ statement_part s
statement_only nothing_part s e = absurd (none-some s e)
statement_only (statement_part found) s e = ap statement_part (same_some found s e)
statement_only (values_part es) s e = absurd (none-some s e)
statement_only (condition_part x) s e = absurd (none-some s e)
statement_only (head_part es names) s e = absurd (none-some s e)

values_only : (part : Part) (s : Expressions) → values_in part ≡ Some s → part ≡ values_part s
values_only nothing_part s e = absurd (none-some s e)
values_only (statement_part found) s e = absurd (none-some s e)
values_only (values_part es) s e = ap values_part (same_some es s e)
values_only (condition_part x) s e = absurd (none-some s e)
values_only (head_part es names) s e = absurd (none-some s e)

condition_only : (part : Part) (s : Expression) → condition_in part ≡ Some s → part ≡ condition_part s
condition_only nothing_part s e = absurd (none-some s e)
condition_only (statement_part found) s e = absurd (none-some s e)
condition_only (values_part es) s e = absurd (none-some s e)
condition_only (condition_part x) s e = ap condition_part (same_some x s e)
condition_only (head_part es names) s e = absurd (none-some s e)

head_only : (part : Part) (s : Expressions × List Text) → head_in part ≡ Some s → part ≡ head_part s.0 s.1
head_only nothing_part s e = absurd (none-some s e)
head_only (statement_part found) s e = absurd (none-some s e)
head_only (values_part es) s e = absurd (none-some s e)
head_only (condition_part x) s e = absurd (none-some s e)
head_only (head_part es names) s e = ap (λ (pair : Expressions × List Text). head_part pair.0 pair.1) (same_some (es, names) s e)

-- what can be taken is the part of the step
there : (all parts : List Part) (step : ℕ) (part : Part) → AreOf all parts → (part ≡ nothing_part → ⊥) → part_of_step step parts ≡ part → slice_get all step ≡ Some part
there all parts step part of some e = by (slice_get parts step) refl e
  where
    or_all : (part ≡ nothing_part) ⊎ (slice_get all step ≡ Some part) → slice_get all step ≡ Some part
    or_all (inl h) = absurd (some h)
    or_all (inr h) = h

    by : (o : Option Part) → slice_get parts step ≡ o → part_or_nothing o ≡ part → slice_get all step ≡ Some part
    by None is h = absurd (some (sym h))
    by (Some found) is h = or_all (of step part (is ∙ ap Some h))

-- of the step it is the part, and the others are left
pub record Taken (all : List Part) (step : ℕ) (part : Part) (behind : List Part) : Type 0 where
  pub is : slice_get all step ≡ Some part
  pub left : AreOf all behind

taken : {arm_made : Type 0} (from : Part → Option arm_made) (as_part : arm_made → Part) (all parts : List Part) (step : ℕ) → AreOf all parts → ((part : Part) (x : arm_made) → from part ≡ Some x → part ≡ as_part x) →
    ((x : arm_made) → as_part x ≡ nothing_part → ⊥) → (made : arm_made × List Part) → option_map (λ found. (found, left_without step parts)) (from (part_of_step step parts)) ≡ Some made →
    Taken all step (as_part made.0) made.1
taken from as_part all parts step of only some made e =
    let m = mapped (λ found. (found, left_without step parts)) (from (part_of_step step parts)) made e in
    subst (λ (pair : _ × List Part). Taken all step (as_part pair.0) pair.1) m.gives (record {
      is = there all parts step (as_part m.found) of (some m.found) (only (part_of_step step parts) m.found m.there);
      left = left_of all parts step of;
    })

pub statement_taken : (all parts : List Part) (step : ℕ) → AreOf all parts → (made : Statement × List Part) → take_statement step parts ≡ Some made → Taken all step (statement_part made.0) made.1
statement_taken all parts step of made e = taken statement_in statement_part all parts step of statement_only (λ x h. cc) made e

pub values_taken : (all parts : List Part) (step : ℕ) → AreOf all parts → (made : Expressions × List Part) → take_values step parts ≡ Some made → Taken all step (values_part made.0) made.1
values_taken all parts step of made e = taken values_in values_part all parts step of values_only (λ x h. cc) made e

pub condition_taken : (all parts : List Part) (step : ℕ) → AreOf all parts → (made : Expression × List Part) → take_condition step parts ≡ Some made → Taken all step (condition_part made.0) made.1
condition_taken all parts step of made e = taken condition_in condition_part all parts step of condition_only (λ x h. cc) made e

pub head_taken : (all parts : List Part) (step : ℕ) → AreOf all parts → (made : (Expressions × List Text) × List Part) → take_head step parts ≡ Some made →
    Taken all step (head_part made.0.0 made.0.1) made.1
head_taken all parts step of made e = taken head_in (λ (pair : Expressions × List Text). head_part pair.0 pair.1) all parts step of head_only (λ x h. cc) made e
