-- A condition before a cut which bare jumps leave stands as statements with breaks, and one around the cut as such statements and what is left of it, no deeper than the whole.
use Rattle.std.proofs.Common.{◌≡◌, ◌≤◌, ◌<◌, ◌⊎◌, inl, inr, refl, sym, subst, ℕ, suc, max, Bool, true, false, List, arith}
use Rattle.std.specs.Prelude.{not, if◌then◌else◌}
use Rattle.std.specs.Bool.{beq}
use Rattle.recover_expr.specs.declared.steps.Step.{Step}
use Rattle.recover_flow.specs.Asked.{kind_at}
use Rattle.recover_flow.specs.Flow.{AreTold, Around, BreakLies, no_flow, and_flow, break_flow, do_flow, IsTold, logic_room}
use Rattle.recover_flow.specs.Logic.{AreLevelled, Logic, LogicLies, test_logic, literal_logic, not_logic, and_logic, or_logic}
use Rattle.recover_flow.specs.Lying.{Jumps, LiteralLies, TestGoes}
use Rattle.recover_flow.proofs.LogicCut.{IsLower}
use Rattle.recover_flow.proofs.LogicRest.{FlatFlow, empty_flat, if_flat, join_flat, raise_flat, told_part}
use Rattle.recover_flow.proofs.PartsInside.{order}

module _ (steps : List Step) (levelled : AreLevelled steps) (before : Around) (low cut high : ℕ) (stays : (place goal : ℕ) (negated sense : Bool) → low ≤ place → place < cut → TestGoes negated sense goal (kind_at steps place) → goal ≤ cut)
    (leaves : (place goal : ℕ) → low ≤ place → place < cut → cut < goal → goal ≤ high → Jumps steps place goal → IsTold steps before place → BreakLies steps before before.exit place (suc place)) where
  below : (sense : Bool) (a b : ℕ) → a ≤ high → b ≤ high → (if sense then a else b) ≤ high
  below true a b one two = one
  below false a b one two = two

  past : (sense : Bool) (a b : ℕ) → cut < a → cut < b → cut < (if sense then a else b)
  past true a b one two = one
  past false a b one two = two

  -- a break in a block of its own
  break_flat : (place : ℕ) → BreakLies steps before before.exit place (suc place) → FlatFlow steps before place (suc place) 2
  break_flat place lies =
      record {
        flow = and_flow (do_flow (and_flow break_flow no_flow)) no_flow;
        lies = λ ends. (tt, suc place, before, omega arith, omega arith, (refl, (before, (tt, suc place, before, omega arith, omega arith, (refl, lies), (refl, refl)))), (refl, refl));
        low = omega arith;
        none = refl;
        calm = (refl, tt);
      }

  -- one before the cut, whose target is behind it
  pub leaving_flat : (logic : Logic) (sense : Bool) (goal from to : ℕ) → low ≤ from → from ≤ to → to ≤ cut → cut < goal → goal ≤ high → LogicLies steps logic sense goal from to → AreTold steps before from to → FlatFlow steps before from to (suc (logic_room steps logic))
  leaving_flat (test_logic step negated) sense goal from to begins goes stops ahead most lies told = let known = stays from goal negated sense begins (omega (arith, stops, lies.1)) lies.2 in absurd (omega (arith, known, ahead))
  leaving_flat (literal_logic truth) sense goal from to begins goes stops ahead most lies told = by (beq truth sense) lies
    where
      by : (jumps : Bool) → LiteralLies steps jumps from to goal → FlatFlow steps before from to (suc (logic_room steps (literal_logic truth)))
      by true jump =
          subst (λ n. FlatFlow steps before from n (suc (logic_room steps (literal_logic truth)))) (omega (arith, jump.1))
          (raise_flat steps before from (suc from) 2 (suc (logic_room steps (literal_logic truth))) (omega arith) (break_flat from (leaves from goal begins (omega (arith, stops, jump.1)) ahead most jump.0 (told from (omega arith) (omega (arith, jump.1))))))
      by false none = subst (λ n. FlatFlow steps before from n (suc (logic_room steps (literal_logic truth)))) (omega (arith, none)) (empty_flat steps before from (suc (logic_room steps (literal_logic truth))))
  leaving_flat (not_logic inner) sense goal from to begins goes stops ahead most lies told =
      raise_flat steps before from to (suc (logic_room steps inner)) (suc (logic_room steps (not_logic inner))) (omega arith) (leaving_flat inner (not sense) goal from to begins goes stops ahead most lies told)
  leaving_flat (and_logic left right) false goal from to begins goes stops ahead most (mid, rises, ends, one, two) told =
      join_flat steps before from mid to (suc (logic_room steps (and_logic left right))) ends
      (raise_flat steps before from mid (suc (logic_room steps left)) (suc (logic_room steps (and_logic left right))) (omega arith) (leaving_flat left false goal from mid begins rises (omega (arith, stops, ends)) ahead most one (told_part steps before from from to mid (omega arith) ends told)))
      (raise_flat steps before mid to (suc (logic_room steps right)) (suc (logic_room steps (and_logic left right))) (omega arith) (leaving_flat right false goal mid to (omega (arith, begins, rises)) ends stops ahead most two (told_part steps before from mid to to rises (omega arith) told)))
  leaving_flat (or_logic left right) true goal from to begins goes stops ahead most (mid, rises, ends, one, two) told =
      join_flat steps before from mid to (suc (logic_room steps (or_logic left right))) ends
      (raise_flat steps before from mid (suc (logic_room steps left)) (suc (logic_room steps (or_logic left right))) (omega arith) (leaving_flat left true goal from mid begins rises (omega (arith, stops, ends)) ahead most one (told_part steps before from from to mid (omega arith) ends told)))
      (raise_flat steps before mid to (suc (logic_room steps right)) (suc (logic_room steps (or_logic left right))) (omega arith) (leaving_flat right true goal mid to (omega (arith, begins, rises)) ends stops ahead most two (told_part steps before from mid to to rises (omega arith) told)))
  leaving_flat (and_logic left right) true goal from to begins goes stops ahead most (mid, rises, ends, one, two) told =
      let bound : ℕ = max (logic_room steps left) (suc (logic_room steps right)) in
      raise_flat steps before from to (suc (max 1 bound)) (suc (logic_room steps (and_logic left right))) (omega arith)
      (if_flat steps before left from mid to (max 1 bound) rises ends one (told_part steps before from from to mid (omega arith) ends told) (omega arith) (omega arith)
      (raise_flat steps before mid to (suc (logic_room steps right)) (max 1 bound) (omega arith) (leaving_flat right true goal mid to (omega (arith, begins, rises)) ends stops ahead most two (told_part steps before from mid to to rises (omega arith) told))))
  leaving_flat (or_logic left right) false goal from to begins goes stops ahead most (mid, rises, ends, one, two) told =
      let bound : ℕ = max (logic_room steps (not_logic left)) (suc (logic_room steps right)) in
      raise_flat steps before from to (suc (max 1 bound)) (suc (logic_room steps (or_logic left right))) (omega arith)
      (if_flat steps before (not_logic left) from mid to (max 1 bound) rises ends one (told_part steps before from from to mid (omega arith) ends told) (omega arith) (omega arith)
      (raise_flat steps before mid to (suc (logic_room steps right)) (max 1 bound) (omega arith) (leaving_flat right false goal mid to (omega (arith, begins, rises)) ends stops ahead most two (told_part steps before from mid to to rises (omega arith) told))))

  -- what of a condition stands before the cut, and what is left of it
  pub record Left (logic : Logic) (sense : Bool) (goal from to : ℕ) : Type 0 where
    pub front : FlatFlow steps before from cut (suc (logic_room steps logic))
    pub rest : Logic
    pub rest_at : LogicLies steps rest sense goal cut to
    pub rest_low : IsLower steps rest logic

  whole : (logic : Logic) (sense : Bool) (goal from to : ℕ) → from ≡ cut → LogicLies steps logic sense goal from to → Left logic sense goal from to
  whole logic sense goal from to same lies =
      subst (λ n. Left logic sense goal n to) (sym same)
      (record { front = empty_flat steps before cut (suc (logic_room steps logic)); rest = logic; rest_at = subst (λ n. LogicLies steps logic sense goal n to) same lies; rest_low = (omega arith, omega arith) })

  -- one around the cut, whose target is behind it
  pub leaving_cut : (logic : Logic) (sense : Bool) (goal from to : ℕ) → low ≤ from → from ≤ cut → cut < to → to ≤ high → cut < goal → goal ≤ high → LogicLies steps logic sense goal from to → AreTold steps before from to → Left logic sense goal from to
  leaving_cut (test_logic step negated) sense goal from to begins goes ends within ahead most lies told = whole (test_logic step negated) sense goal from to (omega (arith, goes, ends, lies.1)) lies
  leaving_cut (literal_logic truth) sense goal from to begins goes ends within ahead most lies told = by (beq truth sense) refl lies
    where
      by : (jumps : Bool) → beq truth sense ≡ jumps → LiteralLies steps jumps from to goal → Left (literal_logic truth) sense goal from to
      by true is jump = whole (literal_logic truth) sense goal from to (omega (arith, goes, ends, jump.1)) lies
      by false is none = absurd (omega (arith, none, goes, ends))
  leaving_cut (not_logic inner) sense goal from to begins goes ends within ahead most lies told =
      let r = leaving_cut inner (not sense) goal from to begins goes ends within ahead most lies told in
      let a = r.rest_low in
      record {
        front = raise_flat steps before from cut (suc (logic_room steps inner)) (suc (logic_room steps (not_logic inner))) (omega arith) r.front;
        rest = not_logic r.rest;
        rest_at = r.rest_at;
        rest_low = (omega (arith, a.0), omega (arith, a.1));
      }
  leaving_cut (and_logic left right) sense goal from to begins goes ends within ahead most (mid, rises, stops, one, two) told =
      by (order cut mid) (λ z. leaving_cut left false (if sense then to else goal) from mid begins goes z (omega (arith, stops, within)) (past sense to goal ends ahead) (below sense to goal within most) one (told_part steps before from from to mid (omega arith) stops told))
      (λ z. leaving_cut right sense goal mid to (omega (arith, begins, rises)) z ends within ahead most two (told_part steps before from mid to to rises (omega arith) told))
    where
      by : (cut < mid) ⊎ (mid ≤ cut) → (cut < mid → Left left false (if sense then to else goal) from mid) → (mid ≤ cut → Left right sense goal mid to) → Left (and_logic left right) sense goal from to
      by (inl z) early late =
          let r = early z in
          let a = r.rest_low in
          record {
            front = raise_flat steps before from cut (suc (logic_room steps left)) (suc (logic_room steps (and_logic left right))) (omega arith) r.front;
            rest = and_logic r.rest right;
            rest_at = (mid, omega (arith, z), stops, r.rest_at, two);
            rest_low = (omega (arith, a.0), omega (arith, a.1));
          }
      by (inr z) early late =
          let r = late z in
          let a = r.rest_low in
          record {
            front =
                join_flat steps before from mid cut (suc (logic_room steps (and_logic left right))) z
                (raise_flat steps before from mid (suc (logic_room steps left)) (suc (logic_room steps (and_logic left right))) (omega arith)
                (leaving_flat left false (if sense then to else goal) from mid begins rises z (past sense to goal ends ahead) (below sense to goal within most) one (told_part steps before from from to mid (omega arith) stops told)))
                (raise_flat steps before mid cut (suc (logic_room steps right)) (suc (logic_room steps (and_logic left right))) (omega arith) r.front);
            rest = r.rest;
            rest_at = r.rest_at;
            rest_low = (omega (arith, a.0), omega (arith, a.1));
          }
  leaving_cut (or_logic left right) sense goal from to begins goes ends within ahead most (mid, rises, stops, one, two) told =
      by (order cut mid) (λ z. leaving_cut left true (if sense then goal else to) from mid begins goes z (omega (arith, stops, within)) (past sense goal to ahead ends) (below sense goal to most within) one (told_part steps before from from to mid (omega arith) stops told))
      (λ z. leaving_cut right sense goal mid to (omega (arith, begins, rises)) z ends within ahead most two (told_part steps before from mid to to rises (omega arith) told))
    where
      by : (cut < mid) ⊎ (mid ≤ cut) → (cut < mid → Left left true (if sense then goal else to) from mid) → (mid ≤ cut → Left right sense goal mid to) → Left (or_logic left right) sense goal from to
      by (inl z) early late =
          let r = early z in
          let a = r.rest_low in
          record {
            front = raise_flat steps before from cut (suc (logic_room steps left)) (suc (logic_room steps (or_logic left right))) (omega arith) r.front;
            rest = or_logic r.rest right;
            rest_at = (mid, omega (arith, z), stops, r.rest_at, two);
            rest_low = (omega (arith, a.0), omega (arith, a.1));
          }
      by (inr z) early late =
          let r = late z in
          let a = r.rest_low in
          record {
            front =
                join_flat steps before from mid cut (suc (logic_room steps (or_logic left right))) z
                (raise_flat steps before from mid (suc (logic_room steps left)) (suc (logic_room steps (or_logic left right))) (omega arith)
                (leaving_flat left true (if sense then goal else to) from mid begins rises z (past sense goal to ahead ends) (below sense goal to most within) one (told_part steps before from from to mid (omega arith) stops told)))
                (raise_flat steps before mid cut (suc (logic_room steps right)) (suc (logic_room steps (or_logic left right))) (omega arith) r.front);
            rest = r.rest;
            rest_at = r.rest_at;
            rest_low = (omega (arith, a.0), omega (arith, a.1));
          }
