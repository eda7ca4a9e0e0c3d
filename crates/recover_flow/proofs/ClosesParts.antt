-- The loops of some steps, and the CLOSEs there of active locals: what they name, where each jump goes ahead or back to where its loop begins.
use Rattle.std.proofs.Common.{◌≡◌, ◌∙◌, ◌≤◌, ◌<◌, ◌⊎◌, inl, inr, refl, sym, ap, subst, ℕ, suc, Bool, true, false, List, slice_get, Option, None, Some, arith}
use Rattle.std.specs.Prelude.{not, if◌then◌else◌}
use Rattle.std.specs.Bool.{beq}
use Rattle.std.proofs.lemmas.Option.{none-some, same_Some}
use Rattle.recover_expr.specs.declared.steps.Step.{Step}
use Rattle.recover_expr.specs.declared.steps.StepKind.{StepKind}
use Rattle.recover_flow.specs.Asked.{goes_back, kind_at, target_of}
use Rattle.recover_flow.specs.Flow.{Around, Declares, IsClose, declares_active, in_loop}
use Rattle.recover_flow.specs.Logic.{Logic, LogicLies, test_logic, literal_logic, not_logic, and_logic, or_logic}
use Rattle.recover_flow.specs.Lying.{Jumps, LiteralLies, TestGoes}
use Rattle.recover_flow.specs.declared.regions.Exit.{Exit}
use Rattle.recover_flow.proofs.FlowInside.{captured_below, told_base}
use Rattle.recover_flow.proofs.PartsInside.{HeadTo, Turns, back_is, head_is, kind_there, order}

-- ---- what is around

-- no declaration, or one from a place on and before another
abbrev pub NamedBetween : (first place : ℕ) → Option ℕ → Type 0
NamedBetween first place None = Unit {0}
NamedBetween first place (Some declaration) = (first ≤ declaration) × (declaration < place)

pub named_later : (first place later : ℕ) (declared : Option ℕ) → place ≤ later → NamedBetween first place declared → NamedBetween first later declared
named_later first place later None low named = tt
named_later first place later (Some declaration) low named = (named.0, omega (arith, low, named.1))

-- the locals of the loop around are declared in it, before a place
abbrev pub KnownBetween : (first place : ℕ) → Around → Option Exit → Type 0
KnownBetween first place around None = Unit {0}
KnownBetween first place around (Some exit) = (register : ℕ) → exit.locals ≤ register → register < around.count → NamedBetween first place (around.declared register)

pub record IsKnown (first place : ℕ) (around : Around) : Type 0 where
  pub captured : around.captured ≤ around.count
  pub known : KnownBetween first place around around.exit

pub known_later : (first place later : ℕ) (around : Around) → place ≤ later → IsKnown first place around → IsKnown first later around
known_later first place later around low ready = record { captured = ready.captured; known = by around.exit ready.known }
  where
    by : (exit : Option Exit) → KnownBetween first place around exit → KnownBetween first later around exit
    by None known = tt
    by (Some exit) known = λ register from within. named_later first place later (around.declared register) low (known register from within)

pub known_declared : (step : ℕ) (captured : Bool) (before behind : Around) (first place later : ℕ) → IsKnown first place before → first ≤ step → step < later → place ≤ later
    → Declares step captured before behind → IsKnown first later behind
known_declared step captured before behind first place later ready low high grows declares =
    record {
      captured = captured_below captured before behind ready.captured declares.more declares.highest;
      known = subst (λ exit. KnownBetween first later behind exit) (sym declares.exit) (by before.exit ready.known);
    }
  where
    by : (exit : Option Exit) → KnownBetween first place before exit → KnownBetween first later behind exit
    by None known = tt
    by (Some exit) known = λ register from within. at_register register (known register from) within (order register before.count)
      where
        at_register : (register : ℕ) → (register < before.count → NamedBetween first place (before.declared register)) → register < behind.count
            → (register < before.count) ⊎ (before.count ≤ register) → NamedBetween first later (behind.declared register)
        at_register register known within (inl old) = subst (NamedBetween first later) (sym (declares.same register old)) (named_later first place later (before.declared register) grows (known old))
        at_register register known within (inr new) = subst (NamedBetween first later) (sym (declares.new register new within)) (low, high)

pub known_loop : (to first place : ℕ) (around : Around) → around.captured ≤ around.count → IsKnown first place (in_loop to around)
known_loop to first place around captured = record { captured = captured; known = λ register from within. absurd (omega (arith, from, within)) }

-- ---- steps that go ahead, or back to the first step of their loop

-- a head is that first step, and its foot stands before the loop's end
abbrev pub Steady : (back : Option ℕ) → (finish place : ℕ) → StepKind → Type 0
Steady back finish place (StepKind.Test when target negated) = (place < target) ⊎ (back ≡ Some target)
Steady back finish place (StepKind.Jump target) = (place < target) ⊎ (back ≡ Some target)
Steady back finish place (StepKind.Head numeric foot end variables_end captured) = (back ≡ Some place) × (foot < finish)
Steady back finish place kind = Unit {0}

abbrev pub NamedClose : (first place base : ℕ) → StepKind → Type 0
NamedClose first place base (StepKind.Close from declared) = from < base → NamedBetween first place declared
NamedClose first place base kind = Unit {0}

steady_back : (back : Option ℕ) (finish place target : ℕ) (kind : StepKind) → Steady back finish place kind → target_of kind ≡ Some target → target ≤ place → back ≡ Some target
steady_back back finish place target StepKind.Act steady goes low = absurd (none-some target goes)
steady_back back finish place target StepKind.Return steady goes low = absurd (none-some target goes)
steady_back back finish place target (StepKind.Declaration end captured) steady goes low = absurd (none-some target goes)
steady_back back finish place target (StepKind.Test when to negated) (inl ahead) goes low = let same : to ≡ target = same_Some to target goes in absurd (omega (arith, ahead, same, low))
steady_back back finish place target (StepKind.Test when to negated) (inr is) goes low = is ∙ goes
steady_back back finish place target (StepKind.Jump to) (inl ahead) goes low = let same : to ≡ target = same_Some to target goes in absurd (omega (arith, ahead, same, low))
steady_back back finish place target (StepKind.Jump to) (inr is) goes low = is ∙ goes
steady_back back finish place target (StepKind.Close from declared) steady goes low = absurd (none-some target goes)
steady_back back finish place target (StepKind.Head numeric foot end variables_end captured) steady goes low = absurd (none-some target goes)
steady_back back finish place target (StepKind.Foot numeric to) steady goes low = absurd (none-some target goes)

steady_head : (back : Option ℕ) (finish place foot : ℕ) (kind : StepKind) → Steady back finish place kind → HeadTo foot (Some kind) → (back ≡ Some place) × (foot < finish)
steady_head back finish place foot StepKind.Act steady head = absurd head
steady_head back finish place foot StepKind.Return steady head = absurd head
steady_head back finish place foot (StepKind.Declaration end captured) steady head = absurd head
steady_head back finish place foot (StepKind.Test when to negated) steady head = absurd head
steady_head back finish place foot (StepKind.Jump to) steady head = absurd head
steady_head back finish place foot (StepKind.Close from declared) steady head = absurd head
steady_head back finish place foot (StepKind.Head numeric to end variables_end captured) steady head = (steady.0, omega (arith, steady.1, head))
steady_head back finish place foot (StepKind.Foot numeric to) steady head = absurd head

module _ (steps : List Step) where
  abbrev pub AllSteady : (back : Option ℕ) → (first finish begin end : ℕ) → Type 0
  AllSteady back first finish begin end =
      (place : ℕ) (step : Step) → begin ≤ place → place < end → slice_get steps place ≡ Some step → Steady back finish place step.kind × NamedClose first place step.base step.kind

  pub both_steady : (back : Option ℕ) (first finish begin mid end : ℕ) → AllSteady back first finish begin mid → AllSteady back first finish mid end → AllSteady back first finish begin end
  both_steady back first finish begin mid end one two place step from to there = by (order place mid)
    where
      by : (place < mid) ⊎ (mid ≤ place) → Steady back finish place step.kind × NamedClose first place step.base step.kind
      by (inl within) = one place step from within there
      by (inr within) = two place step within to there

  pub none_steady : (back : Option ℕ) (first finish begin end : ℕ) → end ≤ begin → AllSteady back first finish begin end
  none_steady back first finish begin end none place step from to there = absurd (omega (arith, none, from, to))

  pub one_steady : (back : Option ℕ) (first finish place end : ℕ) (kind : StepKind) → kind_at steps place ≡ Some kind → end ≡ suc place → Steady back finish place kind
      → ((step : Step) → slice_get steps place ≡ Some step → NamedClose first place step.base kind) → AllSteady back first finish place end
  one_steady back first finish place end kind is next steady named other step from to there =
      let same : place ≡ other = omega (arith, from, to, next) in
      subst (λ n. slice_get steps n ≡ Some step → Steady back finish n step.kind × NamedClose first n step.base step.kind) same
      (λ found. subst (λ k. Steady back finish place k × NamedClose first place step.base k) (same_Some kind step.kind (sym is ∙ kind_there steps place step found)) (steady, named step found)) there

  pub jump_steady : (back : Option ℕ) (first finish target place end : ℕ) → Jumps steps place target → (place < target) ⊎ (back ≡ Some target) → end ≡ suc place
      → AllSteady back first finish place end
  jump_steady back first finish target place end jumps goes next = one_steady back first finish place end (StepKind.Jump target) jumps next goes (λ step there. tt)

  -- the CLOSE of a block's own locals, which are no more active
  pub close_steady : (back : Option ℕ) (first finish : ℕ) (around : Around) (place end : ℕ) → IsClose steps around place around.count → end ≡ suc place → AllSteady back first finish place end
  close_steady back first finish around place end close next =
      one_steady back first finish place end (StepKind.Close around.count (declares_active around around.count)) close.1 next tt
      (λ step there closes. let same = told_base steps around place close.0 step there in absurd (omega (arith, same, closes)))

  -- ---- conditions

  test_steady : (back : Option ℕ) (first finish : ℕ) (negated sense : Bool) (target place end : ℕ) (kind : Option StepKind) → kind_at steps place ≡ kind → end ≡ suc place
      → TestGoes negated sense target kind
      → (end ≤ target) ⊎ (back ≡ Some target) → AllSteady back first finish place end
  test_steady back first finish negated sense target place end (Some (StepKind.Test when to levels)) is next goes within =
      one_steady back first finish place end (StepKind.Test when to levels) is next (by within) (λ step there. tt)
    where
      by : (end ≤ target) ⊎ (back ≡ Some target) → (place < to) ⊎ (back ≡ Some to)
      by (inl ahead) = inl (omega (arith, ahead, next, goes.0))
      by (inr same) = inr (same ∙ ap Some (sym goes.0))
  test_steady back first finish negated sense target place end None is next goes within = absurd goes
  test_steady back first finish negated sense target place end (Some StepKind.Act) is next goes within = absurd goes
  test_steady back first finish negated sense target place end (Some StepKind.Return) is next goes within = absurd goes
  test_steady back first finish negated sense target place end (Some (StepKind.Declaration ends captured)) is next goes within = absurd goes
  test_steady back first finish negated sense target place end (Some (StepKind.Jump to)) is next goes within = absurd goes
  test_steady back first finish negated sense target place end (Some (StepKind.Close from declared)) is next goes within = absurd goes
  test_steady back first finish negated sense target place end (Some (StepKind.Head numeric foot ends variables_end captured)) is next goes within = absurd goes
  test_steady back first finish negated sense target place end (Some (StepKind.Foot numeric to)) is next goes within = absurd goes

  literal_steady : (back : Option ℕ) (first finish : ℕ) (jumps : Bool) (target from to : ℕ) → LiteralLies steps jumps from to target → (to ≤ target) ⊎ (back ≡ Some target)
      → AllSteady back first finish from to
  literal_steady back first finish true target from to lies within = jump_steady back first finish target from to lies.0 (by within) lies.1
    where
      by : (to ≤ target) ⊎ (back ≡ Some target) → (from < target) ⊎ (back ≡ Some target)
      by (inl ahead) = inl (omega (arith, ahead, lies.1))
      by (inr same) = inr same
  literal_steady back first finish false target from to lies within = none_steady back first finish from to (omega (arith, lies))

  nearer : (back : Option ℕ) (mid to target : ℕ) → mid ≤ to → (to ≤ target) ⊎ (back ≡ Some target) → (mid ≤ target) ⊎ (back ≡ Some target)
  nearer back mid to target low (inl ahead) = inl (omega (arith, low, ahead))
  nearer back mid to target low (inr same) = inr same

  either : (back : Option ℕ) (sense : Bool) (mid a b : ℕ) → (mid ≤ a) ⊎ (back ≡ Some a) → (mid ≤ b) ⊎ (back ≡ Some b) → (mid ≤ (if sense then a else b)) ⊎ (back ≡ Some (if sense then a else b))
  either back true mid a b one two = one
  either back false mid a b one two = two

  -- a condition goes ahead, or back to where its loop begins
  pub logic_steady : (back : Option ℕ) (first finish : ℕ) (logic : Logic) (sense : Bool) (target from to : ℕ) → LogicLies steps logic sense target from to → (to ≤ target) ⊎ (back ≡ Some target)
      → AllSteady back first finish from to
  logic_steady back first finish (test_logic step negated) sense target from to lies within = test_steady back first finish negated sense target from to (kind_at steps from) refl lies.1 lies.2 within
  logic_steady back first finish (literal_logic truth) sense target from to lies within = literal_steady back first finish (beq truth sense) target from to lies within
  logic_steady back first finish (not_logic inner) sense target from to lies within = logic_steady back first finish inner (not sense) target from to lies within
  logic_steady back first finish (and_logic left right) sense target from to (mid, before, behind, one, two) within =
      both_steady back first finish from mid to
      (logic_steady back first finish left false (if sense then to else target) from mid one (either back sense mid to target (inl behind) (nearer back mid to target behind within)))
      (logic_steady back first finish right sense target mid to two within)
  logic_steady back first finish (or_logic left right) sense target from to (mid, before, behind, one, two) within =
      both_steady back first finish from mid to
      (logic_steady back first finish left true (if sense then target else to) from mid one (either back sense mid target to (nearer back mid to target behind within) (inl behind)))
      (logic_steady back first finish right sense target mid to two within)

  -- ---- parts that no loop crosses

  back_of : (back : Option ℕ) (first finish begin end target last : ℕ) → AllSteady back first finish begin end → begin ≤ last → last < end → goes_back steps target last ≡ true → back ≡ Some target
  back_of back first finish begin end target last all low high turns =
      let found = back_is steps target last turns in steady_back back finish last target found.1.0.kind (all last found.1.0 low high found.1.1).0 found.1.2 found.0

  head_of : (back : Option ℕ) (first finish begin end place foot : ℕ) → AllSteady back first finish begin end → begin ≤ place → place < end → HeadTo foot (kind_at steps place)
      → (back ≡ Some place) × (foot < finish)
  head_of back first finish begin end place foot all low high head =
      let found = head_is steps foot place head in steady_head back finish place foot found.0.kind (all place found.0 low high found.1).0 found.2

  -- the CLOSEs from `low` to `high`, by where the loop around begins, and by the loops that lie there
  pub record Part (first low high : ℕ) : Type 0 where
    pub back : (begin last : ℕ) → low ≤ last → last < high → goes_back steps begin last ≡ true → low ≤ begin
    pub ahead : (begin last : ℕ) → low ≤ begin → begin < high → HeadTo last (kind_at steps begin) → last < high
    pub named : (place : ℕ) (step : Step) (from declaration : ℕ) → low ≤ place → place < high → slice_get steps place ≡ Some step → step.kind ≡ StepKind.Close from (Some declaration)
        → from < step.base
        → (first ≤ declaration) × (declaration < place) × ((begin last : ℕ) → Turns steps begin last → low ≤ begin → begin ≤ place → place ≤ last → last < high → begin ≤ declaration)

  close_named : (back : Option ℕ) (first finish begin end : ℕ) → AllSteady back first finish begin end → (place : ℕ) (step : Step) (from declaration : ℕ) → begin ≤ place → place < end
      → slice_get steps place ≡ Some step
      → step.kind ≡ StepKind.Close from (Some declaration) → from < step.base → (first ≤ declaration) × (declaration < place)
  close_named back first finish begin end all place step from declaration low high there kind closes = subst (NamedClose first place step.base) kind (all place step low high there).1 closes

  pub steady_part : (first finish low high : ℕ) → AllSteady None first finish low high → Part first low high
  steady_part first finish low high all =
      record {
        back = λ begin last from to turns. absurd (none-some begin (back_of None first finish low high begin last all from to turns));
        ahead = λ begin last from to head. absurd (none-some begin (head_of None first finish low high begin last all from to head).0);
        named = λ place step from declaration lower upper there kind closes.
            let found = close_named None first finish low high all place step from declaration lower upper there kind closes in
            (found.0, found.1, λ begin last turns starts before behind ends. by place begin last lower upper turns starts before behind ends);
      }
    where
      by : (place begin last : ℕ) {declaration : ℕ} → low ≤ place → place < high → Turns steps begin last → low ≤ begin → begin ≤ place → place ≤ last → last < high → begin ≤ declaration
      by place begin last lower upper (inl turns) starts before behind ends = absurd (none-some begin (back_of None first finish low high begin last all (omega (arith, lower, behind)) ends turns))
      by place begin last lower upper (inr head) starts before behind ends =
          absurd (none-some begin (head_of None first finish low high begin last all starts (omega (arith, before, upper)) head.1).0)

  pub part_joined : (first low mid high : ℕ) → low ≤ mid → mid ≤ high → Part first low mid → Part first mid high → Part first low high
  part_joined first low mid high lower upper one two =
      record {
        back = λ begin last from to turns. back_by begin last from to turns (order last mid);
        ahead = λ begin last from to head. ahead_by begin last from to head (order begin mid);
        named = λ place step from declaration begins ends there kind closes. named_by place step from declaration begins ends there kind closes (order place mid);
      }
    where
      back_by : (begin last : ℕ) → low ≤ last → last < high → goes_back steps begin last ≡ true → (last < mid) ⊎ (mid ≤ last) → low ≤ begin
      back_by begin last from to turns (inl before) = one.back begin last from before turns
      back_by begin last from to turns (inr behind) = let within = two.back begin last behind to turns in omega (arith, lower, within)

      ahead_by : (begin last : ℕ) → low ≤ begin → begin < high → HeadTo last (kind_at steps begin) → (begin < mid) ⊎ (mid ≤ begin) → last < high
      ahead_by begin last from to head (inl before) = let within = one.ahead begin last from before head in omega (arith, upper, within)
      ahead_by begin last from to head (inr behind) = two.ahead begin last behind to head

      -- what begins in the first part ends there
      apart : (begin last : ℕ) → Turns steps begin last → low ≤ begin → begin < mid → last < high → last < mid
      apart begin last (inl turns) from before to = by (order last mid)
        where
          by : (last < mid) ⊎ (mid ≤ last) → last < mid
          by (inl ends) = ends
          by (inr behind) = let within = two.back begin last behind to turns in absurd (omega (arith, within, before))
      apart begin last (inr head) from before to = one.ahead begin last from before head.1

      named_by : (place : ℕ) (step : Step) (from declaration : ℕ) → low ≤ place → place < high → slice_get steps place ≡ Some step → step.kind ≡ StepKind.Close from (Some declaration)
          → from < step.base → (place < mid) ⊎ (mid ≤ place)
          → (first ≤ declaration) × (declaration < place) × ((begin last : ℕ) → Turns steps begin last → low ≤ begin → begin ≤ place → place ≤ last → last < high → begin ≤ declaration)
      named_by place step from declaration begins ends there kind closes (inl before) =
          let found = one.named place step from declaration begins before there kind closes in
          (found.0, found.1, λ begin last turns starts low_place above stops. found.2 begin last turns starts low_place above (apart begin last turns starts (omega (arith, low_place, before)) stops))
      named_by place step from declaration begins ends there kind closes (inr behind) =
          let found = two.named place step from declaration behind ends there kind closes in
          (found.0, found.1, λ begin last turns starts low_place above stops. by found.2 begin last turns starts low_place above stops (order begin mid))
        where
          by : ((begin last : ℕ) → Turns steps begin last → mid ≤ begin → begin ≤ place → place ≤ last → last < high → begin ≤ declaration)
              → (begin last : ℕ) → Turns steps begin last → low ≤ begin → begin ≤ place → place ≤ last → last < high → (begin < mid) ⊎ (mid ≤ begin) → begin ≤ declaration
          by known begin last turns starts low_place above stops (inl early) = let within = apart begin last turns starts early stops in absurd (omega (arith, within, behind, above))
          by known begin last turns starts low_place above stops (inr late) = known begin last turns late low_place above stops

  -- ---- loops

  -- a loop, whose other steps go ahead or back to its first step
  pub loop_part : (first from begin end to : ℕ) → first ≤ from → from ≤ begin → end ≤ to → AllSteady (Some from) from to from begin → Part from begin end → AllSteady (Some from) from to end to
      → Part first from to
  loop_part first from begin end to low starts stops head body tail =
      record {
        back = λ place last above below turns. back_by place last above below turns (order last begin) (order last end);
        ahead = λ place last above below heads. ahead_by place last above below heads (order place begin) (order place end);
        named = λ place step register declaration above below there kind closes. named_by place step register declaration above below there kind closes (order place begin) (order place end);
      }
    where
      same : (place : ℕ) → Some from ≡ Some place → place ≡ from
      same place is = sym (same_Some from place is)

      back_by : (place last : ℕ) → from ≤ last → last < to → goes_back steps place last ≡ true → (last < begin) ⊎ (begin ≤ last) → (last < end) ⊎ (end ≤ last) → from ≤ place
      back_by place last above below turns (inl before) sides = let is = same place (back_of (Some from) from to from begin place last head above before turns) in omega (arith, is)
      back_by place last above below turns (inr behind) (inl within) = let found = body.back place last behind within turns in omega (arith, starts, found)
      back_by place last above below turns (inr behind) (inr past) = let is = same place (back_of (Some from) from to end to place last tail past below turns) in omega (arith, is)

      ahead_by : (place last : ℕ) → from ≤ place → place < to → HeadTo last (kind_at steps place) → (place < begin) ⊎ (begin ≤ place) → (place < end) ⊎ (end ≤ place) → last < to
      ahead_by place last above below heads (inl before) sides = (head_of (Some from) from to from begin place last head above before heads).1
      ahead_by place last above below heads (inr behind) (inl within) = let found = body.ahead place last behind within heads in omega (arith, stops, found)
      ahead_by place last above below heads (inr behind) (inr past) = (head_of (Some from) from to end to place last tail past below heads).1

      -- a loop in it is the loop itself, or one of its body
      turn_by : (place last : ℕ) → Turns steps place last → from ≤ place → place ≤ last → last < to → (place ≡ from) ⊎ ((begin ≤ place) × (last < end))
      turn_by place last (inl turns) above rises below = by (order last begin) (order last end)
        where
          by : (last < begin) ⊎ (begin ≤ last) → (last < end) ⊎ (end ≤ last) → (place ≡ from) ⊎ ((begin ≤ place) × (last < end))
          by (inl before) sides = inl (same place (back_of (Some from) from to from begin place last head (omega (arith, above, rises)) before turns))
          by (inr behind) (inl within) = inr (body.back place last behind within turns, within)
          by (inr behind) (inr past) = inl (same place (back_of (Some from) from to end to place last tail past below turns))
      turn_by place last (inr heads) above rises below = by (order place begin) (order place end)
        where
          by : (place < begin) ⊎ (begin ≤ place) → (place < end) ⊎ (end ≤ place) → (place ≡ from) ⊎ ((begin ≤ place) × (last < end))
          by (inl before) sides = inl (same place (head_of (Some from) from to from begin place last head above before heads.1).0)
          by (inr behind) (inl within) = inr (behind, body.ahead place last behind within heads.1)
          by (inr behind) (inr past) = inl (same place (head_of (Some from) from to end to place last tail past (omega (arith, rises, below)) heads.1).0)

      -- a CLOSE beside the body
      beside : (place declaration : ℕ) → (place < begin) ⊎ (end ≤ place) → (from ≤ declaration) × (declaration < place)
          → (first ≤ declaration) × (declaration < place) × ((starts last : ℕ) → Turns steps starts last → from ≤ starts → starts ≤ place → place ≤ last → last < to → starts ≤ declaration)
      beside place declaration side found = (
        omega (arith, low, found.0),
        found.1,
        λ starts last turns above before behind below. by starts last before behind side (turn_by starts last turns above (omega (arith, before, behind)) below),
      )
        where
          by : (starts last : ℕ) → starts ≤ place → place ≤ last → (place < begin) ⊎ (end ≤ place) → (starts ≡ from) ⊎ ((begin ≤ starts) × (last < end)) → starts ≤ declaration
          by starts last before behind side (inl is) = omega (arith, is, found.0)
          by starts last before behind (inl early) (inr within) = absurd (omega (arith, before, early, within.0))
          by starts last before behind (inr late) (inr within) = absurd (omega (arith, behind, late, within.1))

      named_by : (place : ℕ) (step : Step) (register declaration : ℕ) → from ≤ place → place < to → slice_get steps place ≡ Some step → step.kind ≡ StepKind.Close register (Some declaration)
          → register < step.base
          → (place < begin) ⊎ (begin ≤ place) → (place < end) ⊎ (end ≤ place)
          → (first ≤ declaration) × (declaration < place) × ((starts last : ℕ) → Turns steps starts last → from ≤ starts → starts ≤ place → place ≤ last → last < to → starts ≤ declaration)
      named_by place step register declaration above below there kind closes (inl before) sides =
          beside place declaration (inl before) (close_named (Some from) from to from begin head place step register declaration above before there kind closes)
      named_by place step register declaration above below there kind closes (inr behind) (inr past) =
          beside place declaration (inr past) (close_named (Some from) from to end to tail place step register declaration past below there kind closes)
      named_by place step register declaration above below there kind closes (inr behind) (inl within) =
          let found = body.named place step register declaration behind within there kind closes in (
            omega (arith, low, found.0),
            found.1,
            λ starts last turns over before later stops. by found.0 found.2 starts last turns before later (turn_by starts last turns over (omega (arith, before, later)) stops),
          )
        where
          by : from ≤ declaration → ((starts last : ℕ) → Turns steps starts last → begin ≤ starts → starts ≤ place → place ≤ last → last < end → starts ≤ declaration)
              → (starts last : ℕ) → Turns steps starts last → starts ≤ place → place ≤ last → (starts ≡ from) ⊎ ((begin ≤ starts) × (last < end)) → starts ≤ declaration
          by known all starts last turns before later (inl is) = omega (arith, is, known)
          by known all starts last turns before later (inr inner) = all starts last turns inner.0 before later inner.1
