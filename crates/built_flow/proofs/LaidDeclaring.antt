-- Which step declares each active local stays so while the local lasts, and a step declares those that it brings into scope.
use Rattle.std.proofs.Common.{◌≡◌, ◌≤◌, ◌<◌, ℕ, zero, suc, ◌+◌, ◌-◌, List, [], ◌∷◌, ◌++◌, length, take, refl, sym, ap, ◌∙◌, arith, subst}
use Rattle.std.specs.Prelude.{Option, None, Some, option_and_then, replicate, slice_get}
use Rattle.lua_num.specs.Bytes.{Text}
use Rattle.recover_expr.specs.Placing.{Steps}
use Rattle.scheme.specs.Making.{Ahead, Maker, active_count}
use Rattle.scheme.specs.declared.making.Active.{Active}
use Rattle.same_flow.specs.Declaring.{declaring, declaring_before, same_option}
use Rattle.same_flow.specs.Performed.{ended_before}
use Rattle.same_flow.specs.SameFlow.{HasPlainParts}
use Rattle.same_flow.proofs.Followed.{Run, at_step, at_most, Follows, nought, LastTo, last_weaker}
use Rattle.same_flow.proofs.RunKeeps.{Begins, begins_before, keeps}
use Rattle.same_flow.proofs.StepsTold.{before, before_active}
use Rattle.built_flow.proofs.StepsTold.{run_of}

-- ---- lists

taken_at : {X : Type 0} (n : ℕ) (xs : List X) (i : ℕ) (x : X) → i < n → slice_get xs i ≡ Some x → slice_get (take n xs) i ≡ Some x
taken_at zero xs i x h e = absurd (omega arith)
taken_at (suc n) [] i x h e = e
taken_at (suc n) (y ∷ xs) zero x h e = e
taken_at (suc n) (y ∷ xs) (suc i) x h e = taken_at n xs i x (omega arith) e

taken_past : {X : Type 0} (n : ℕ) (xs : List X) (i : ℕ) → n ≤ i → slice_get (take n xs) i ≡ None
taken_past zero xs i h = refl
taken_past (suc n) [] i h = refl
taken_past (suc n) (y ∷ xs) zero h = absurd (omega arith)
taken_past (suc n) (y ∷ xs) (suc i) h = taken_past n xs i (omega arith)

front_at : {X : Type 0} (n : ℕ) (xs ys : List X) (i : ℕ) (x : X) → i < n → slice_get xs i ≡ Some x → slice_get (take n xs ++ ys) i ≡ Some x
front_at zero xs ys i x h e = absurd (omega arith)
front_at (suc n) [] ys i x h e = cc
front_at (suc n) (y ∷ xs) ys zero x h e = e
front_at (suc n) (y ∷ xs) ys (suc i) x h e = front_at n xs ys i x (omega arith) e

pub equal_at : {X : Type 0} (k : ℕ) (x : X) (i : ℕ) → i < k → slice_get (replicate k x) i ≡ Some x
equal_at zero x i h = absurd (omega arith)
equal_at (suc k) x zero h = refl
equal_at (suc k) x (suc i) h = equal_at k x i (omega arith)

behind_at : {X : Type 0} (n : ℕ) (xs : List X) (k : ℕ) (x : X) (i : ℕ) → n ≤ length xs → n ≤ i → i < n + k → slice_get (take n xs ++ replicate k x) i ≡ Some x
behind_at zero xs k x i enough low h = equal_at k x i (omega arith)
behind_at (suc n) [] k x i enough low h = absurd (omega arith)
behind_at (suc n) (y ∷ xs) k x zero enough low h = absurd (omega arith)
behind_at (suc n) (y ∷ xs) k x (suc i) enough low h = behind_at n xs k x i (omega arith) (omega arith) (omega arith)

module _ (code : Steps) (params names : List Text) (ahead : Ahead) (plain : HasPlainParts code) where
  abbrev run : Run
  run = run_of code params names ahead

  abbrev list_at : ℕ → List (Option ℕ)
  list_at at = declaring code params names ahead at

  -- the active locals of a function in the making last before a step as in the run
  count_before : (m : Maker) (ends : List ℕ) (p : ℕ) → Follows run nought nought m ends p → LastTo (suc p) ends → active_count (before run p) ≡ active_count m
  count_before m ends p follows l = ap (λ (a : List Active). length a) (before_active follows l)

  begins_there : (m : Maker) (ends : List ℕ) (p : ℕ) → Follows run nought nought m ends p → Begins run plain m.active ends (at_step run p)
  begins_there m ends p follows = record {
    behind = follows.behind;
    all_ends = follows.all_ends;
    same = ap (λ k. take k (at_step run p).maker.active) follows.count ∙ ap (λ (x : Maker). x.active) (sym follows.same);
    count = sym follows.count;
  }

  stays_for : (active : List Active) (ends : List ℕ) (p d q register : ℕ) (found : Option ℕ) → q ≡ d + p → LastTo q ends → Begins run plain active ends (at_step run p) → register < length ends →
      slice_get (list_at p) register ≡ Some found → slice_get (list_at q) register ≡ Some found
  stays_for active ends p zero q register found e l begins h there = subst (λ n. slice_get (list_at n) register ≡ Some found) (omega arith) there
  stays_for active ends p (suc d) zero register found e l begins h there = absurd (omega arith)
  stays_for active ends p (suc d) (suc q) register found e l begins h there =
      let first = last_weaker q (suc q) ends (omega arith) l in
      let here = begins_before run plain active ends q (at_step run q) l (keeps run plain active ends p q (omega arith) first begins) in
      let now = (ended_before q (at_step run q)).maker in
      let enough : length ends ≤ active_count now = at_most (length ends) now.active (sym here.count ∙ ap (λ (a : List Active). length a) (sym here.same)) in
      front_at (active_count now) (list_at q) (replicate _ (Some q)) register found (omega arith) (stays_for active ends p d q register found (omega arith) first begins h there)

  -- a local that lasts is declared by the same step
  pub declared_stays : (m : Maker) (ends : List ℕ) (p q register : ℕ) (found : Option ℕ) → Follows run nought nought m ends p → p ≤ q → LastTo q ends → register < active_count m →
      slice_get (list_at p) register ≡ Some found → slice_get (list_at q) register ≡ Some found
  declared_stays m ends p q register found follows h l less there =
      let count = follows.count in
      stays_for m.active ends p (q - p) q register found (omega arith) l (begins_there m ends p follows) (omega arith) there

  -- before a step the list says which step declares a local
  pub declared_before : (m : Maker) (ends : List ℕ) (p register : ℕ) (found : Option ℕ) → Follows run nought nought m ends p → LastTo (suc p) ends → register < active_count m →
      slice_get (list_at p) register ≡ Some found → declaring_before code params names ahead p register ≡ found
  declared_before m ends p register found follows l less there =
      let count = count_before m ends p follows l in
      ap (option_and_then same_option) (taken_at (active_count (before run p)) (list_at p) register found (omega arith) there)

  -- and no step where none is active
  pub none_before : (m : Maker) (ends : List ℕ) (p register : ℕ) → Follows run nought nought m ends p → LastTo (suc p) ends → active_count m ≤ register →
      declaring_before code params names ahead p register ≡ None
  none_before m ends p register follows l less =
      let count = count_before m ends p follows l in
      ap (option_and_then same_option) (taken_past (active_count (before run p)) (list_at p) register (omega arith))

  -- what comes into scope is declared by the step
  pub declared_new : (m n : Maker) (ends others : List ℕ) (p register : ℕ) → Follows run nought nought m ends p → LastTo (suc p) ends → Follows run nought nought n others (suc p) →
      active_count m ≤ length (list_at p) → active_count m ≤ register → register < active_count n → slice_get (list_at (suc p)) register ≡ Some (Some p)
  declared_new m n ends others p register follows l behind enough low less =
      let count = count_before m ends p follows l in
      let now = (at_step run (suc p)).maker in
      let k = active_count n in
      let more : k ≤ active_count now = at_most k now.active (ap (λ (x : Maker). active_count x) behind.same) in
      behind_at (active_count (before run p)) (list_at p) (active_count now - active_count (before run p)) (Some p) register (omega arith) (omega arith) (omega arith)
