-- What the steps of statements with blocks may name: places of their own part of the code, the exit of the loop around, and the end of the body's own locals.
use Rattle.std.proofs.Common.{◌≡◌, ◌∙◌, ◌≤◌, ◌<◌, ◌+◌, ◌⊎◌, inl, inr, refl, sym, ap, subst, ℕ, suc, Bool, true, false, List, slice_get, Option, None, Some, arith}
use Rattle.std.specs.Prelude.{not, nat_le, option_map, option_and_then, if◌then◌else◌}
use Rattle.std.specs.Bool.{beq}
use Rattle.std.proofs.lemmas.Bool.{and_parts}
use Rattle.std.proofs.lemmas.Bool.Decides.{nat_tests}
use Rattle.std.proofs.lemmas.Option.{none-some, same_Some}
use Rattle.recover_expr.specs.declared.steps.Step.{Step}
use Rattle.recover_expr.specs.declared.steps.StepKind.{StepKind}
use Rattle.recover_flow.specs.Asked.{goes_back, is_this, kind_at, leaves, target_at, target_of}
use Rattle.recover_flow.specs.Cutting.{locals_reach}
use Rattle.recover_flow.specs.Logic.{Logic, LogicLies, test_logic, literal_logic, not_logic, and_logic, or_logic}
use Rattle.recover_flow.specs.Lying.{Jumps, LiteralLies, TestGoes}
use Rattle.recover_flow.specs.declared.regions.Exit.{Exit}
use Rattle.recover_flow.proofs.FormsLie.{this_is}

pub order : (a b : ℕ) → (a < b) ⊎ (b ≤ a)
order a b = by (nat_le b a) refl
  where
    by : (test : Bool) → nat_le b a ≡ test → (a < b) ⊎ (b ≤ a)
    by true is = inr (grind (arith, nat_tests))
    by false is = inl (grind (arith, nat_tests))

-- what the declarations of a part may be that do not end in it: by whether they are captured, and where they end
abbrev pub Owns : Type 1
Owns = Bool → ℕ → Type 0

-- none, in a statement with blocks
abbrev pub NoneOwned : Owns
NoneOwned captured end = ⊥

-- a body's own end at a place, and are captured where the body captures some
abbrev pub Owned : (ends : ℕ) → (captures : Bool) → Owns
Owned ends captures captured end = (end ≡ ends) × (captured ≡ true → captures ≡ true)

-- a CLOSE names no declaration, or one from a place on
abbrev pub NamedFrom : (first : ℕ) → Option ℕ → Type 0
NamedFrom first None = Unit {0}
NamedFrom first (Some declaration) = first ≤ declaration

pub named_lower : (first lower : ℕ) (declared : Option ℕ) → lower ≤ first → NamedFrom first declared → NamedFrom lower declared
named_lower first lower None low named = tt
named_lower first lower (Some declaration) low named = omega (arith, low, named)

-- the head of a `for` with this foot
abbrev pub HeadTo : (foot : ℕ) → Option StepKind → Type 0
HeadTo foot (Some (StepKind.Head numeric to end variables_end captured)) = to ≡ foot
HeadTo foot kind = ⊥

module _ (steps : List Step) where
  -- a loop begins at a step and goes on up to another one
  abbrev pub Turns : (first last : ℕ) → Type 0
  Turns first last = (goes_back steps first last ≡ true) ⊎ ((first ≤ last) × HeadTo last (kind_at steps first))

  -- a place is in no loop of a part
  abbrev pub Free : (low high place : ℕ) → Type 0
  Free low high place = (first last : ℕ) → low ≤ first → first ≤ place → place ≤ last → last < high → Turns first last → ⊥

  -- a jump is a break out of the loop around
  abbrev pub BreaksAt : Option Exit → (low high place target : ℕ) → Type 0
  BreaksAt None low high place target = ⊥
  BreaksAt (Some exit) low high place target = (target ≡ exit.place) × (leaves steps place exit ≡ true) × Free low high place

  -- a CLOSE is that of a break out of the loop around, and names a local of the loop, which begins at `first`
  abbrev pub ClosesOwn : Option Exit → (first place from : ℕ) → (declared : Option ℕ) → Type 0
  ClosesOwn None first place from declared = ⊥
  ClosesOwn (Some exit) first place from declared = (from ≡ exit.locals) × NamedFrom first declared × Jumps steps (place + 1) exit.place

  -- a step of a part from `low` to `high` that goes up to `hi` at most
  abbrev pub In : Owns → Option Exit → (first hi low high place base : ℕ) → StepKind → Type 0
  In owns exit first hi low high place base StepKind.Act = Unit {0}
  In owns exit first hi low high place base StepKind.Return = Unit {0}
  In owns exit first hi low high place base (StepKind.Test when target negated) = (low ≤ target) × (target ≤ hi)
  In owns exit first hi low high place base (StepKind.Jump target) = (low ≤ target) × ((target ≤ hi) ⊎ BreaksAt exit low high place target)
  In owns exit first hi low high place base (StepKind.Declaration end captured) = (locals_reach end captured ≤ hi) ⊎ owns captured end
  In owns exit first hi low high place base (StepKind.Close from declared) = from < base → (place + 2 ≤ hi) × (NamedFrom low declared ⊎ ClosesOwn exit first place from declared)
  In owns exit first hi low high place base (StepKind.Head numeric foot end variables_end captured) = (place < foot) × (foot < high)
  In owns exit first hi low high place base (StepKind.Foot numeric target) = (target ≤ place) × (head : ℕ) × (target ≡ suc head) × (low ≤ head) × HeadTo place (kind_at steps head)

  -- the steps from `begin` to `end`
  abbrev pub AllIn : Owns → Option Exit → (first hi low high begin end : ℕ) → Type 0
  AllIn owns exit first hi low high begin end = (place : ℕ) (step : Step) → begin ≤ place → place < end → slice_get steps place ≡ Some step → In owns exit first hi low high place step.base step.kind

  -- a part in a wider one
  pub moved : (owns more : Owns) (exit : Option Exit) (first hi hi' low low' high high' place base : ℕ) (kind : StepKind) → low' ≤ low → hi ≤ hi' → high ≤ high'
      → ((captured : Bool) (end : ℕ) → owns captured end → (locals_reach end captured ≤ hi') ⊎ more captured end) → (Free low high place → Free low' high' place)
      → In owns exit first hi low high place base kind → In more exit first hi' low' high' place base kind
  moved owns more exit first hi hi' low low' high high' place base StepKind.Act lower upper wider own free here = tt
  moved owns more exit first hi hi' low low' high high' place base StepKind.Return lower upper wider own free here = tt
  moved owns more exit first hi hi' low low' high high' place base (StepKind.Test when target negated) lower upper wider own free here = (omega (arith, here.0, lower), omega (arith, here.1, upper))
  moved owns more exit first hi hi' low low' high high' place base (StepKind.Jump target) lower upper wider own free here = (omega (arith, here.0, lower), by exit here.1)
    where
      by : (exit : Option Exit) → (target ≤ hi) ⊎ BreaksAt exit low high place target → (target ≤ hi') ⊎ BreaksAt exit low' high' place target
      by exit (inl stays) = inl (omega (arith, stays, upper))
      by None (inr breaks) = absurd breaks
      by (Some exit) (inr breaks) = inr (breaks.0, breaks.1, free breaks.2)
  moved owns more exit first hi hi' low low' high high' place base (StepKind.Declaration end captured) lower upper wider own free (inl ends) = inl (omega (arith, ends, upper))
  moved owns more exit first hi hi' low low' high high' place base (StepKind.Declaration end captured) lower upper wider own free (inr owned) = own captured end owned
  moved owns more exit first hi hi' low low' high high' place base (StepKind.Close from declared) lower upper wider own free here = λ closes. (omega (arith, (here closes).0, upper), by (here closes).1)
    where
      by : NamedFrom low declared ⊎ ClosesOwn exit first place from declared → NamedFrom low' declared ⊎ ClosesOwn exit first place from declared
      by (inl named) = inl (named_lower low low' declared lower named)
      by (inr breaks) = inr breaks
  moved owns more exit first hi hi' low low' high high' place base (StepKind.Head numeric foot end variables_end captured) lower upper wider own free here = (here.0, omega (arith, here.1, wider))
  moved owns more exit first hi hi' low low' high high' place base (StepKind.Foot numeric target) lower upper wider own free here = (here.0, here.1, here.2, omega (arith, here.3, lower), here.4)

  -- where the exit is, a part of the loop's code
  abbrev pub ExitWithin : Option Exit → (hi : ℕ) → Type 0
  ExitWithin None hi = Unit {0}
  ExitWithin (Some exit) hi = exit.place ≤ hi

  -- in the loop itself its breaks go within it
  pub kept : (owns : Owns) (exit : Option Exit) (first hi hi' low low' high high' place base : ℕ) (kind : StepKind) → low' ≤ low → hi ≤ hi' → high ≤ high' → low' ≤ first → ExitWithin exit hi'
      → ((captured : Bool) (end : ℕ) → owns captured end → locals_reach end captured ≤ hi') → In owns exit first hi low high place base kind → In NoneOwned None 0 hi' low' high' place base kind
  kept owns exit first hi hi' low low' high high' place base StepKind.Act lower upper wider begins goes own here = tt
  kept owns exit first hi hi' low low' high high' place base StepKind.Return lower upper wider begins goes own here = tt
  kept owns exit first hi hi' low low' high high' place base (StepKind.Test when target negated) lower upper wider begins goes own here = (omega (arith, here.0, lower), omega (arith, here.1, upper))
  kept owns exit first hi hi' low low' high high' place base (StepKind.Jump target) lower upper wider begins goes own here = (omega (arith, here.0, lower), by exit goes here.1)
    where
      by : (exit : Option Exit) → ExitWithin exit hi' → (target ≤ hi) ⊎ BreaksAt exit low high place target → (target ≤ hi') ⊎ BreaksAt None low' high' place target
      by exit goes (inl stays) = inl (omega (arith, stays, upper))
      by None goes (inr breaks) = absurd breaks
      by (Some exit) goes (inr breaks) = inl (omega (arith, breaks.0, goes))
  kept owns exit first hi hi' low low' high high' place base (StepKind.Declaration end captured) lower upper wider begins goes own (inl ends) = inl (omega (arith, ends, upper))
  kept owns exit first hi hi' low low' high high' place base (StepKind.Declaration end captured) lower upper wider begins goes own (inr owned) = inl (own captured end owned)
  kept owns exit first hi hi' low low' high high' place base (StepKind.Close from declared) lower upper wider begins goes own here = λ closes. (omega (arith, (here closes).0, upper), by exit (here closes).1)
    where
      by : (exit : Option Exit) → NamedFrom low declared ⊎ ClosesOwn exit first place from declared → NamedFrom low' declared ⊎ ClosesOwn None 0 place from declared
      by exit (inl named) = inl (named_lower low low' declared lower named)
      by None (inr breaks) = absurd breaks
      by (Some exit) (inr breaks) = inl (named_lower first low' declared begins breaks.1)
  kept owns exit first hi hi' low low' high high' place base (StepKind.Head numeric foot end variables_end captured) lower upper wider begins goes own here = (here.0, omega (arith, here.1, wider))
  kept owns exit first hi hi' low low' high high' place base (StepKind.Foot numeric target) lower upper wider begins goes own here = (here.0, here.1, here.2, omega (arith, here.3, lower), here.4)

  -- a loop in the part around
  pub loosened : (owns : Owns) (exit : Option Exit) (first hi low high place base : ℕ) (kind : StepKind) → In NoneOwned None 0 hi low high place base kind → In owns exit first hi low high place base kind
  loosened owns exit first hi low high place base StepKind.Act here = tt
  loosened owns exit first hi low high place base StepKind.Return here = tt
  loosened owns exit first hi low high place base (StepKind.Test when target negated) here = here
  loosened owns exit first hi low high place base (StepKind.Jump target) (stays, inl within) = (stays, inl within)
  loosened owns exit first hi low high place base (StepKind.Jump target) (stays, inr breaks) = absurd breaks
  loosened owns exit first hi low high place base (StepKind.Declaration end captured) (inl ends) = inl ends
  loosened owns exit first hi low high place base (StepKind.Declaration end captured) (inr owned) = absurd owned
  loosened owns exit first hi low high place base (StepKind.Close from declared) here = λ closes. ((here closes).0, by (here closes).1)
    where
      by : NamedFrom low declared ⊎ ⊥ → NamedFrom low declared ⊎ ClosesOwn exit first place from declared
      by (inl named) = inl named
      by (inr breaks) = absurd breaks
  loosened owns exit first hi low high place base (StepKind.Head numeric foot end variables_end captured) here = here
  loosened owns exit first hi low high place base (StepKind.Foot numeric target) here = here

  pub all_loosened : (owns : Owns) (exit : Option Exit) (first hi low high begin end : ℕ) → AllIn NoneOwned None 0 hi low high begin end → AllIn owns exit first hi low high begin end
  all_loosened owns exit first hi low high begin end all place step from to there = loosened owns exit first hi low high place step.base step.kind (all place step from to there)

  -- ---- parts that follow one another

  pub kind_there : (place : ℕ) (step : Step) → slice_get steps place ≡ Some step → kind_at steps place ≡ Some step.kind
  kind_there place step there = ap (λ found. option_map (λ (step : Step). step.kind) found) there

  -- the step of a kind
  pub step_there : (place : ℕ) (kind : StepKind) → kind_at steps place ≡ Some kind → (step : Step) × (slice_get steps place ≡ Some step) × (step.kind ≡ kind)
  step_there place kind is = by (slice_get steps place) refl is
    where
      by : (found : Option Step) → slice_get steps place ≡ found → option_map (λ (step : Step). step.kind) found ≡ Some kind → (step : Step) × (slice_get steps place ≡ Some step) × (step.kind ≡ kind)
      by None there is = absurd (none-some kind is)
      by (Some step) there is = (step, there, same_Some step.kind kind is)

  -- a jump back goes no further than its part
  back_within : (owns : Owns) (exit : Option Exit) (first hi low high place base target : ℕ) (kind : StepKind) → In owns exit first hi low high place base kind → target_of kind ≡ Some target → low ≤ target
  back_within owns exit first hi low high place base target StepKind.Act here goes = absurd (none-some target goes)
  back_within owns exit first hi low high place base target StepKind.Return here goes = absurd (none-some target goes)
  back_within owns exit first hi low high place base target (StepKind.Test when to negated) here goes = let same : to ≡ target = same_Some to target goes in omega (arith, here.0, same)
  back_within owns exit first hi low high place base target (StepKind.Jump to) here goes = let same : to ≡ target = same_Some to target goes in omega (arith, here.0, same)
  back_within owns exit first hi low high place base target (StepKind.Declaration end captured) here goes = absurd (none-some target goes)
  back_within owns exit first hi low high place base target (StepKind.Close from declared) here goes = absurd (none-some target goes)
  back_within owns exit first hi low high place base target (StepKind.Head numeric foot end variables_end captured) here goes = absurd (none-some target goes)
  back_within owns exit first hi low high place base target (StepKind.Foot numeric to) here goes = absurd (none-some target goes)

  -- what a jump back is
  pub back_is : (first last : ℕ) → goes_back steps first last ≡ true → (first ≤ last) × ((step : Step) × (slice_get steps last ≡ Some step) × (target_of step.kind ≡ Some first))
  back_is first last is =
      let both = and_parts (nat_le first last) (is_this (target_at steps last) first) is in
      let low = both.0 in
      (grind (arith, nat_tests), by (slice_get steps last) refl (this_is (target_at steps last) first both.1))
    where
      by : (found : Option Step) → slice_get steps last ≡ found → target_at steps last ≡ Some first → (step : Step) × (slice_get steps last ≡ Some step) × (target_of step.kind ≡ Some first)
      by None there goes = absurd (none-some first (subst (λ found. option_and_then target_of (option_map (λ (step : Step). step.kind) found) ≡ Some first) there goes))
      by (Some step) there goes = (step, there, subst (λ found. option_and_then target_of (option_map (λ (step : Step). step.kind) found) ≡ Some first) there goes)

  -- a jump of a part does not go back before it
  pub no_back_before : (owns : Owns) (exit : Option Exit) (first' hi low high begin end first last : ℕ) → AllIn owns exit first' hi low high begin end → begin ≤ last → last < end → first < low → goes_back steps first last ≡ true → ⊥
  no_back_before owns exit first' hi low high begin end first last all from to before back =
      let found = back_is first last back in
      let within = back_within owns exit first' hi low high last found.1.0.base first found.1.0.kind (all last found.1.0 from to found.1.1) found.1.2 in
      absurd (omega (arith, within, before))

  -- and a head of one has its foot there
  head_within : (owns : Owns) (exit : Option Exit) (first hi low high place base foot : ℕ) (kind : StepKind) → In owns exit first hi low high place base kind → HeadTo foot (Some kind) → foot < high
  head_within owns exit first hi low high place base foot StepKind.Act here head = absurd head
  head_within owns exit first hi low high place base foot StepKind.Return here head = absurd head
  head_within owns exit first hi low high place base foot (StepKind.Test when to negated) here head = absurd head
  head_within owns exit first hi low high place base foot (StepKind.Jump to) here head = absurd head
  head_within owns exit first hi low high place base foot (StepKind.Declaration end captured) here head = absurd head
  head_within owns exit first hi low high place base foot (StepKind.Close from declared) here head = absurd head
  head_within owns exit first hi low high place base foot (StepKind.Head numeric to end variables_end captured) here head = omega (arith, here.1, head)
  head_within owns exit first hi low high place base foot (StepKind.Foot numeric to) here head = absurd head

  pub head_is : (foot place : ℕ) → HeadTo foot (kind_at steps place) → (step : Step) × (slice_get steps place ≡ Some step) × HeadTo foot (Some step.kind)
  head_is foot place head = by (slice_get steps place) refl head
    where
      by : (found : Option Step) → slice_get steps place ≡ found → HeadTo foot (option_map (λ (step : Step). step.kind) found) → (step : Step) × (slice_get steps place ≡ Some step) × HeadTo foot (Some step.kind)
      by None there head = absurd head
      by (Some step) there head = (step, there, head)

  pub no_head_across : (owns : Owns) (exit : Option Exit) (first' hi low high begin end first last : ℕ) → AllIn owns exit first' hi low high begin end → begin ≤ first → first < end → high ≤ last → HeadTo last (kind_at steps first) → ⊥
  no_head_across owns exit first' hi low high begin end first last all from to behind head =
      let found = head_is last first head in
      let within = head_within owns exit first' hi low high first found.0.base last found.0.kind (all first found.0 from to found.1) found.2 in
      absurd (omega (arith, within, behind))

  -- no loop goes from one part to the next
  no_loop_across : (owns : Owns) (exit : Option Exit) (first' hi hi' low mid high first last : ℕ) → AllIn owns exit first' hi low mid low mid → AllIn owns exit first' hi' mid high mid high
      → low ≤ first → first < mid → mid ≤ last → last < high → Turns first last → ⊥
  no_loop_across owns exit first' hi hi' low mid high first last one two from before behind to (inl back) = no_back_before owns exit first' hi' mid high mid high first last two behind to before back
  no_loop_across owns exit first' hi hi' low mid high first last one two from before behind to (inr head) = no_head_across owns exit first' hi low mid low mid first last one from before behind head.1

  pub joined : (owns : Owns) (exit : Option Exit) (first hi low mid high : ℕ) → low ≤ mid → mid ≤ high → AllIn owns exit first hi low mid low mid → AllIn owns exit first hi mid high mid high → AllIn owns exit first hi low high low high
  joined owns exit first hi low mid high before behind one two place step from to there = by (order place mid)
    where
      across : (f last : ℕ) → low ≤ f → f < mid → mid ≤ last → last < high → Turns f last → ⊥
      across f last = no_loop_across owns exit first hi hi low mid high f last one two

      free_one : place < mid → Free low mid place → Free low high place
      free_one within free f last below here above ends turns = at_last (order last mid)
        where
          at_last : (last < mid) ⊎ (mid ≤ last) → ⊥
          at_last (inl ends_before) = free f last below here above ends_before turns
          at_last (inr ends_behind) = across f last below (omega (arith, here, within)) ends_behind ends turns

      free_two : mid ≤ place → Free mid high place → Free low high place
      free_two within free f last below here above ends turns = at_first (order f mid)
        where
          at_first : (f < mid) ⊎ (mid ≤ f) → ⊥
          at_first (inl begins_before) = across f last below begins_before (omega (arith, above, within)) ends turns
          at_first (inr begins_behind) = free f last begins_behind here above ends turns

      by : (place < mid) ⊎ (mid ≤ place) → In owns exit first hi low high place step.base step.kind
      by (inl within) = moved owns owns exit first hi hi low low mid high place step.base step.kind (omega arith) (omega arith) behind (λ captured end owned. inr owned) (free_one within) (one place step from within there)
      by (inr within) = moved owns owns exit first hi hi mid low high high place step.base step.kind before (omega arith) (omega arith) (λ captured end owned. inr owned) (free_two within) (two place step within to there)

  pub both : (owns : Owns) (exit : Option Exit) (first hi low high begin mid end : ℕ) → AllIn owns exit first hi low high begin mid → AllIn owns exit first hi low high mid end → AllIn owns exit first hi low high begin end
  both owns exit first hi low high begin mid end one two place step from to there = by (order place mid)
    where
      by : (place < mid) ⊎ (mid ≤ place) → In owns exit first hi low high place step.base step.kind
      by (inl within) = one place step from within there
      by (inr within) = two place step within to there

  pub nothing_in : (owns : Owns) (exit : Option Exit) (first hi low high place : ℕ) → AllIn owns exit first hi low high place place
  nothing_in owns exit first hi low high place other step from to there = absurd (omega (arith, from, to))

  pub one_in : (owns : Owns) (exit : Option Exit) (first hi low high place : ℕ) (kind : StepKind) → kind_at steps place ≡ Some kind → ((step : Step) → slice_get steps place ≡ Some step → In owns exit first hi low high place step.base kind)
      → AllIn owns exit first hi low high place (suc place)
  one_in owns exit first hi low high place kind is here other step from to there =
      let same : place ≡ other = omega (arith, from, to) in
      subst (λ n. slice_get steps n ≡ Some step → In owns exit first hi low high n step.base step.kind) same
      (λ found. subst (λ k. In owns exit first hi low high place step.base k) (same_Some kind step.kind (sym is ∙ kind_there place step found)) (here step found)) there

  -- the hi of a part grows
  pub higher : (exit : Option Exit) (first hi hi' low high begin end : ℕ) → hi ≤ hi' → AllIn NoneOwned exit first hi low high begin end → AllIn NoneOwned exit first hi' low high begin end
  higher exit first hi hi' low high begin end upper all place step from to there =
      moved NoneOwned NoneOwned exit first hi hi' low low high high place step.base step.kind (omega arith) upper (omega arith) (λ captured end owned. inr owned) (λ free. free) (all place step from to there)

  -- ---- conditions

  module _ (owns : Owns) (exit : Option Exit) (first hi low high : ℕ) where
    chosen : (sense : Bool) (a b : ℕ) → (low ≤ a) × (a ≤ hi) → (low ≤ b) × (b ≤ hi) → (low ≤ (if sense then a else b)) × ((if sense then a else b) ≤ hi)
    chosen true a b one two = one
    chosen false a b one two = two

    test_in : (negated sense : Bool) (target place : ℕ) (kind : Option StepKind) → kind_at steps place ≡ kind → TestGoes negated sense target kind → (low ≤ target) × (target ≤ hi) → AllIn owns exit first hi low high place (suc place)
    test_in negated sense target place (Some (StepKind.Test when to levels)) is goes within =
        one_in owns exit first hi low high place (StepKind.Test when to levels) is (λ step there. (omega (arith, goes.0, within.0), omega (arith, goes.0, within.1)))
    test_in negated sense target place None is goes within = absurd goes
    test_in negated sense target place (Some StepKind.Act) is goes within = absurd goes
    test_in negated sense target place (Some StepKind.Return) is goes within = absurd goes
    test_in negated sense target place (Some (StepKind.Declaration end captured)) is goes within = absurd goes
    test_in negated sense target place (Some (StepKind.Jump to)) is goes within = absurd goes
    test_in negated sense target place (Some (StepKind.Close from declared)) is goes within = absurd goes
    test_in negated sense target place (Some (StepKind.Head numeric foot end variables_end captured)) is goes within = absurd goes
    test_in negated sense target place (Some (StepKind.Foot numeric to)) is goes within = absurd goes

    pub jump_in : (target place : ℕ) → Jumps steps place target → (low ≤ target) × (target ≤ hi) → AllIn owns exit first hi low high place (suc place)
    jump_in target place jumps within = one_in owns exit first hi low high place (StepKind.Jump target) jumps (λ step there. (within.0, inl within.1))

    literal_in : (jumps : Bool) (target from to : ℕ) → LiteralLies steps jumps from to target → (low ≤ target) × (target ≤ hi) → AllIn owns exit first hi low high from to
    literal_in true target from to lies within = subst (λ n. AllIn owns exit first hi low high from n) (sym lies.1) (jump_in target from lies.0 within)
    literal_in false target from to lies within = subst (λ n. AllIn owns exit first hi low high from n) (sym lies) (nothing_in owns exit first hi low high from)

    -- a condition goes to its target, or within itself
    pub logic_in : (logic : Logic) (sense : Bool) (target from to : ℕ) → LogicLies steps logic sense target from to → low ≤ from → to ≤ hi → (low ≤ target) × (target ≤ hi) → AllIn owns exit first hi low high from to
    logic_in (test_logic step negated) sense target from to lies begins ends within = subst (λ n. AllIn owns exit first hi low high from n) (sym lies.1) (test_in negated sense target from (kind_at steps from) refl lies.2 within)
    logic_in (literal_logic truth) sense target from to lies begins ends within = literal_in (beq truth sense) target from to lies within
    logic_in (not_logic inner) sense target from to lies begins ends within = logic_in inner (not sense) target from to lies begins ends within
    logic_in (and_logic left right) sense target from to (mid, before, behind, one, two) begins ends within =
        both owns exit first hi low high from mid to
        (logic_in left false (if sense then to else target) from mid one begins (omega (arith, behind, ends)) (chosen sense to target (omega (arith, begins, before, behind), ends) within))
        (logic_in right sense target mid to two (omega (arith, begins, before)) ends within)
    logic_in (or_logic left right) sense target from to (mid, before, behind, one, two) begins ends within =
        both owns exit first hi low high from mid to
        (logic_in left true (if sense then target else to) from mid one begins (omega (arith, behind, ends)) (chosen sense target to within (omega (arith, begins, before, behind), ends)))
        (logic_in right sense target mid to two (omega (arith, begins, before)) ends within)
