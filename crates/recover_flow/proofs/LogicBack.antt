-- A condition that goes back comes apart behind its last jump back, where nothing before that jump goes further than the cut.
use Rattle.std.proofs.Common.{◌≡◌, ◌≤◌, ◌<◌, ◌⊎◌, inl, inr, refl, ℕ, Bool, true, false, List, Some, arith}
use Rattle.std.specs.Prelude.{not}
use Rattle.std.specs.Bool.{beq}
use Rattle.recover_expr.specs.declared.steps.Step.{Step}
use Rattle.recover_flow.specs.Asked.{target_at}
use Rattle.recover_flow.specs.Logic.{AreLevelled, Logic, LogicLies, test_logic, literal_logic, not_logic, and_logic, or_logic}
use Rattle.recover_flow.specs.Lying.{LiteralLies}
use Rattle.recover_flow.proofs.HardParts.{logic_past}
use Rattle.recover_flow.proofs.LogicCut.{AnyTarget, Hits, IsLower, any_target, levels_least}
use Rattle.recover_flow.proofs.PartsInside.{order}

module _ (steps : List Step) (levelled : AreLevelled steps) (cut : ℕ) where
  -- what goes back, and what never does
  pub record Last (logic : Logic) (sense : Bool) (goal from to : ℕ) : Type 0 where
    pub at : ℕ
    pub past : from < at
    pub stops : at ≤ to
    pub within : at ≤ cut
    pub first : Logic
    pub first_at : LogicLies steps first sense goal from at
    pub first_low : IsLower steps first logic
    pub rest : Logic
    pub rest_at : (other : ℕ) → LogicLies steps rest sense other at to
    pub rest_low : IsLower steps rest logic

  -- all before a jump back stays up to the cut
  abbrev pub StaysBack : (goal from to : ℕ) → Type 0
  StaysBack goal from to = (place last target : ℕ) → from ≤ place → place ≤ last → last < to → target_at steps last ≡ Some goal → target_at steps place ≡ Some target → target ≤ cut

  abbrev pub BackBefore : (goal from to : ℕ) → Type 0
  BackBefore goal from to = (last : ℕ) → from ≤ last → last < to → target_at steps last ≡ Some goal → last < cut

  nothing : (sense : Bool) (place other : ℕ) → LogicLies steps (literal_logic (not sense)) sense other place place
  nothing true place other = refl
  nothing false place other = refl

  all_of : (logic : Logic) (sense : Bool) (goal from to : ℕ) → from < to → to ≤ cut → LogicLies steps logic sense goal from to → Last logic sense goal from to
  all_of logic sense goal from to some within lies =
      let least = levels_least steps levelled logic sense goal from to lies in
      record {
        at = to;
        past = some;
        stops = omega arith;
        within = within;
        first = logic;
        first_at = lies;
        first_low = (omega arith, omega arith);
        rest = literal_logic (not sense);
        rest_at = λ other. nothing sense to other;
        rest_low = (omega (arith, least), omega arith);
      }

  narrow_stays : (goal from from' to to' : ℕ) → from ≤ from' → to' ≤ to → StaysBack goal from to → StaysBack goal from' to'
  narrow_stays goal from from' to to' low high stays place last target begins above ends there goes = stays place last target (omega (arith, begins, low)) above (omega (arith, ends, high)) there goes

  narrow_back : (goal from from' to to' : ℕ) → from ≤ from' → to' ≤ to → BackBefore goal from to → BackBefore goal from' to'
  narrow_back goal from from' to to' low high back last begins ends there = back last (omega (arith, begins, low)) (omega (arith, ends, high)) there

  in_front : (goal from mid to : ℕ) (hit : Hits steps from to goal) → hit.place < mid → Hits steps from mid goal
  in_front goal from mid to hit first = record { place = hit.place; least = hit.least; most = first; there = hit.there }

  behind_it : (goal from mid to : ℕ) (hit : Hits steps from to goal) → mid ≤ hit.place → Hits steps mid to goal
  behind_it goal from mid to hit later = record { place = hit.place; least = later; most = hit.most; there = hit.there }

  -- no jump of a part with a target behind it goes to its beginning or before
  never_back : (logic : Logic) (sense : Bool) (end goal from mid place : ℕ) → LogicLies steps logic sense end from mid → mid ≤ end → goal ≤ from → from ≤ place → place < mid → target_at steps place ≡ Some goal → ⊥
  never_back logic sense end goal from mid place lies high low least most there =
      let known = logic_past steps logic sense end from mid goal place goal lies (omega (arith, high, low, least, most)) low least most there in absurd (omega (arith, known))

  pub last_back_cut : (logic : Logic) (sense : Bool) (goal from to : ℕ) → goal ≤ from → StaysBack goal from to → BackBefore goal from to → Hits steps from to goal → LogicLies steps logic sense goal from to → Last logic sense goal from to
  last_back_cut (test_logic step negated) sense goal from to low stays back hit lies =
      let known = back hit.place hit.least hit.most hit.there in
      let a = hit.least in
      all_of (test_logic step negated) sense goal from to (omega (arith, lies.1)) (omega (arith, lies.1, known, a)) lies
  last_back_cut (literal_logic truth) sense goal from to low stays back hit lies = by (beq truth sense) lies
    where
      by : (jumps : Bool) → LiteralLies steps jumps from to goal → Last (literal_logic truth) sense goal from to
      by true jump =
          let known = back hit.place hit.least hit.most hit.there in
          let a = hit.least in
          all_of (literal_logic truth) sense goal from to (omega (arith, jump.1)) (omega (arith, jump.1, known, a)) lies
      by false none =
          let a = hit.least in
          let b = hit.most in
          absurd (omega (arith, none, a, b))
  last_back_cut (not_logic inner) sense goal from to low stays back hit lies =
      let r = last_back_cut inner (not sense) goal from to low stays back hit lies in
      let a = r.first_low in
      let b = r.rest_low in
      record {
        at = r.at;
        past = r.past;
        stops = r.stops;
        within = r.within;
        first = not_logic r.first;
        first_at = r.first_at;
        first_low = (omega (arith, a.0), omega (arith, a.1));
        rest = not_logic r.rest;
        rest_at = λ other. r.rest_at other;
        rest_low = (omega (arith, b.0), omega (arith, b.1));
      }
  last_back_cut (and_logic left right) false goal from to low stays back hit (mid, rises, ends, one, two) =
      by (order hit.place mid) (any_target steps right false goal mid to two)
      (λ first. last_back_cut left false goal from mid low (narrow_stays goal from from to mid (omega arith) ends stays) (narrow_back goal from from to mid (omega arith) ends back) (in_front goal from mid to hit first) one)
      (λ later. last_back_cut right false goal mid to (omega (arith, low, rises)) (narrow_stays goal from mid to to rises (omega arith) stays) (narrow_back goal from mid to to rises (omega arith) back) later two)
    where
      second : Last right false goal mid to → Last (and_logic left right) false goal from to
      second r =
          let a = r.first_low in
          let b = r.rest_low in
          let past = r.past in
          record {
            at = r.at;
            past = omega (arith, past, rises);
            stops = r.stops;
            within = r.within;
            first = and_logic left r.first;
            first_at = (mid, rises, omega (arith, past), one, r.first_at);
            first_low = (omega (arith, a.0), omega (arith, a.1));
            rest = r.rest;
            rest_at = r.rest_at;
            rest_low = (omega (arith, b.0), omega (arith, b.1));
          }

      by : (hit.place < mid) ⊎ (mid ≤ hit.place) → AnyTarget steps right false goal mid to → (hit.place < mid → Last left false goal from mid) → (Hits steps mid to goal → Last right false goal mid to) → Last (and_logic left right) false goal from to
      by (inr later) any early late = second (late (behind_it goal from mid to hit later))
      by (inl first) (inl again) early late = second (late again)
      by (inl first) (inr any) early late =
          let r = early first in
          let a = r.first_low in
          let b = r.rest_low in
          let stops = r.stops in
          record {
            at = r.at;
            past = r.past;
            stops = omega (arith, stops, ends);
            within = r.within;
            first = r.first;
            first_at = r.first_at;
            first_low = (omega (arith, a.0), omega (arith, a.1));
            rest = and_logic r.rest right;
            rest_at = λ other. (mid, stops, ends, r.rest_at other, any other);
            rest_low = (omega (arith, b.0), omega (arith, b.1));
          }
  last_back_cut (or_logic left right) true goal from to low stays back hit (mid, rises, ends, one, two) =
      by (order hit.place mid) (any_target steps right true goal mid to two)
      (λ first. last_back_cut left true goal from mid low (narrow_stays goal from from to mid (omega arith) ends stays) (narrow_back goal from from to mid (omega arith) ends back) (in_front goal from mid to hit first) one)
      (λ later. last_back_cut right true goal mid to (omega (arith, low, rises)) (narrow_stays goal from mid to to rises (omega arith) stays) (narrow_back goal from mid to to rises (omega arith) back) later two)
    where
      second : Last right true goal mid to → Last (or_logic left right) true goal from to
      second r =
          let a = r.first_low in
          let b = r.rest_low in
          let past = r.past in
          record {
            at = r.at;
            past = omega (arith, past, rises);
            stops = r.stops;
            within = r.within;
            first = or_logic left r.first;
            first_at = (mid, rises, omega (arith, past), one, r.first_at);
            first_low = (omega (arith, a.0), omega (arith, a.1));
            rest = r.rest;
            rest_at = r.rest_at;
            rest_low = (omega (arith, b.0), omega (arith, b.1));
          }

      by : (hit.place < mid) ⊎ (mid ≤ hit.place) → AnyTarget steps right true goal mid to → (hit.place < mid → Last left true goal from mid) → (Hits steps mid to goal → Last right true goal mid to) → Last (or_logic left right) true goal from to
      by (inr later) any early late = second (late (behind_it goal from mid to hit later))
      by (inl first) (inl again) early late = second (late again)
      by (inl first) (inr any) early late =
          let r = early first in
          let a = r.first_low in
          let b = r.rest_low in
          let stops = r.stops in
          record {
            at = r.at;
            past = r.past;
            stops = omega (arith, stops, ends);
            within = r.within;
            first = r.first;
            first_at = r.first_at;
            first_low = (omega (arith, a.0), omega (arith, a.1));
            rest = or_logic r.rest right;
            rest_at = λ other. (mid, stops, ends, r.rest_at other, any other);
            rest_low = (omega (arith, b.0), omega (arith, b.1));
          }
  last_back_cut (and_logic left right) true goal from to low stays back hit (mid, rises, ends, one, two) =
      by (order hit.place mid) (any_target steps left false to from mid one)
      (λ later. last_back_cut right true goal mid to (omega (arith, low, rises)) (narrow_stays goal from mid to to rises (omega arith) stays) (narrow_back goal from mid to to rises (omega arith) back) (behind_it goal from mid to hit later) two)
    where
      by : (hit.place < mid) ⊎ (mid ≤ hit.place) → AnyTarget steps left false to from mid → (mid ≤ hit.place → Last right true goal mid to) → Last (and_logic left right) true goal from to
      by (inl first) any late = absurd (never_back left false to goal from mid hit.place one ends low hit.least first hit.there)
      by (inr later) (inl out) late =
          let most = out.most in
          let a = hit.least in
          let b = hit.most in
          all_of (and_logic left right) true goal from to (omega (arith, a, b)) (stays out.place hit.place to out.least (omega (arith, most, later)) b hit.there out.there) (mid, rises, ends, one, two)
      by (inr later) (inr any) late =
          let r = late later in
          let a = r.first_low in
          let b = r.rest_low in
          let past = r.past in
          record {
            at = r.at;
            past = omega (arith, past, rises);
            stops = r.stops;
            within = r.within;
            first = and_logic left r.first;
            first_at = (mid, rises, omega (arith, past), any r.at, r.first_at);
            first_low = (omega (arith, a.0), omega (arith, a.1));
            rest = r.rest;
            rest_at = r.rest_at;
            rest_low = (omega (arith, b.0), omega (arith, b.1));
          }
  last_back_cut (or_logic left right) false goal from to low stays back hit (mid, rises, ends, one, two) =
      by (order hit.place mid) (any_target steps left true to from mid one)
      (λ later. last_back_cut right false goal mid to (omega (arith, low, rises)) (narrow_stays goal from mid to to rises (omega arith) stays) (narrow_back goal from mid to to rises (omega arith) back) (behind_it goal from mid to hit later) two)
    where
      by : (hit.place < mid) ⊎ (mid ≤ hit.place) → AnyTarget steps left true to from mid → (mid ≤ hit.place → Last right false goal mid to) → Last (or_logic left right) false goal from to
      by (inl first) any late = absurd (never_back left true to goal from mid hit.place one ends low hit.least first hit.there)
      by (inr later) (inl out) late =
          let most = out.most in
          let a = hit.least in
          let b = hit.most in
          all_of (or_logic left right) false goal from to (omega (arith, a, b)) (stays out.place hit.place to out.least (omega (arith, most, later)) b hit.there out.there) (mid, rises, ends, one, two)
      by (inr later) (inr any) late =
          let r = late later in
          let a = r.first_low in
          let b = r.rest_low in
          let past = r.past in
          record {
            at = r.at;
            past = omega (arith, past, rises);
            stops = r.stops;
            within = r.within;
            first = or_logic left r.first;
            first_at = (mid, rises, omega (arith, past), any r.at, r.first_at);
            first_low = (omega (arith, a.0), omega (arith, a.1));
            rest = r.rest;
            rest_at = r.rest_at;
            rest_low = (omega (arith, b.0), omega (arith, b.1));
          }
