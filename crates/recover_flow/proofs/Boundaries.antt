-- A body is cut behind each of its statements: the pieces of what lies there are those of its first statement, and those of what follows it.
use Rattle.std.proofs.Common.{◌≡◌, ◌∙◌, ◌≤◌, ◌<◌, ◌≢◌, ◌+◌, ◌-◌, ◌⊎◌, inl, inr, refl, sym, ap, subst, ℕ, zero, suc, Bool, true, false, List, [], ◌∷◌, ◌++◌, length, get_or, slice_get, Option, None, Some, arith}
use Rattle.std.specs.Prelude.{◌==◌, ◌&&◌, ◌^◌, not, nat_le, nat_lt, option_map, option_and_then, if◌then◌else◌}
use Rattle.std.proofs.lemmas.Bool.{false≢true}
use Rattle.std.proofs.lemmas.Bool.Decides.{nat_tests}
use Rattle.std.proofs.lemmas.List.{append_assoc}
use Rattle.std.proofs.lemmas.Option.{slice_get_cases}
use Rattle.recover_expr.specs.declared.steps.Step.{Step}
use Rattle.recover_expr.specs.declared.steps.StepKind.{StepKind}
use Rattle.recover_flow.specs.Asked.{goes_back, is_closed, is_this, kind_at, last_back, last_below, leaves, target_at, target_of}
use Rattle.recover_flow.specs.Cutting.{begun_behind, behind_jump, behind_kind, behind_place, behind_step, breaks_out, cut_behind, ends_behind, ends_with_body, further, locals_reach, pieces_from, reach_to, turn_behind, turn_to, within}
use Rattle.recover_flow.specs.Lying.{Jumps}
use Rattle.recover_flow.specs.declared.cuts.Reach.{Reach}
use Rattle.recover_flow.specs.declared.regions.BodyAt.{BodyAt}
use Rattle.recover_flow.specs.declared.regions.Exit.{Exit}
use Rattle.recover_flow.specs.declared.regions.Piece.{Piece}
use Rattle.recover_flow.proofs.LyingParts.{FollowOn}
use Rattle.recover_flow.proofs.PlacesFit.{IsPast, past_place}
use Rattle.recover_flow.proofs.PartsInside.{AllIn, BreaksAt, Free, back_is, HeadTo, In, Owns, Turns, kind_there, no_head_across, order}

-- what the last number below a count tells
abbrev pub LastTells : (ℕ → Bool) → (count : ℕ) → Option ℕ → Type 0
LastTells holds count None = (n : ℕ) → n < count → holds n ≡ true → ⊥
LastTells holds count (Some last) = (last < count) × (holds last ≡ true) × ((n : ℕ) → n < count → holds n ≡ true → n ≤ last)

pub last_tells : (holds : ℕ → Bool) (count : ℕ) → LastTells holds count (last_below holds count)
last_tells holds zero = λ n low is. absurd (omega (arith, low))
last_tells holds (suc count) = by (holds count) refl (last_tells holds count)
  where
    by : (b : Bool) → holds count ≡ b → LastTells holds count (last_below holds count) → LastTells holds (suc count) (if b then Some count else last_below holds count)
    by true is known = (omega arith, is, λ n low passes. omega (arith, low))
    by false fails known = rest (last_below holds count) known
      where
        below : (n : ℕ) → n < suc count → holds n ≡ true → n < count
        below n low passes = at (order n count)
          where
            at : (n < count) ⊎ (count ≤ n) → n < count
            at (inl before) = before
            at (inr behind) = let same : n ≡ count = omega (arith, low, behind) in absurd (false≢true (sym fails ∙ ap holds (sym same) ∙ passes))

        rest : (found : Option ℕ) → LastTells holds count found → LastTells holds (suc count) found
        rest None none = λ n low passes. none n (below n low passes) passes
        rest (Some last) known = (omega (arith, known.0), known.1, λ n low passes. known.2 n (below n low passes) passes)

-- a piece begins at a place, and no loop of it goes on there
pub record IsFresh (place : ℕ) (reach : Reach) : Type 0 where
  pub begin : reach.begin ≡ place
  pub far : reach.far ≡ place
  pub turned : reach.turned ≤ place

-- a piece that is cut behind a place begins what follows
follow_at : (at : BodyAt) (to place : ℕ) (before behind : Reach) (rest : List Piece) → before.begin ≤ place → IsPast at place before behind → behind.far ≤ to → (ends : Bool)
    → FollowOn rest (if ends then record behind { begin = behind.far } else behind).begin to → FollowOn ((if ends then record { from = behind.begin; to = behind.far } ∷ [] else []) ++ rest) before.begin to
follow_at at to place before behind rest begun past most true others = (past.begin, omega (arith, begun, past.past), most, others)
follow_at at to place before behind rest begun past most false others = subst (λ begin. FollowOn rest begin to) past.begin others

module _ (steps : List Step) (at : BodyAt) (exit : Option Exit) (first : ℕ) (small : length steps < 2 ^ 32) (fits : at.to ≤ length steps)
    (used : (e : Exit) → exit ≡ Some e → (place : ℕ) → at.from ≤ place → place < at.to → Jumps steps place e.place → at.exit ≡ Some e) where
  module _ (owns : Owns) (low high : ℕ) (begins : at.from ≤ low) (below : high ≤ at.to) (one : AllIn steps owns exit first high low high low high)
      (after : (f last : ℕ) → low ≤ f → f < high → high ≤ last → last < at.to → goes_back steps f last ≡ true → ⊥)
      (own : (place end : ℕ) (captured : Bool) → low ≤ place → place < high → kind_at steps place ≡ Some (StepKind.Declaration end captured) → owns captured end
      → (end ≡ at.locals_end) × (is_closed steps at place ≡ false) × Free steps low high place) where
    -- before the step of a number
    record OnWay (place : ℕ) (reach : Reach) : Type 0 where
      least : low ≤ reach.begin
      begun : reach.begin ≤ place
      on : place ≤ reach.far
      most : reach.far ≤ high
      fresh : reach.far ≡ place → reach.begin ≡ place
      turned : reach.turned ≤ reach.far
      free : (i : ℕ) → place ≤ i → i < high → Free steps low at.to i → reach.turned ≤ i
      loops : (f last : ℕ) → low ≤ f → f < place → place ≤ last → last < at.to → Turns steps f last → (reach.begin ≤ f) × (last < reach.far)

    -- with the loop that begins at the step
    record Here (place : ℕ) (reach : Reach) : Type 0 where
      least : low ≤ reach.begin
      begun : reach.begin ≤ place
      past : place + 1 ≤ reach.far
      most : reach.far ≤ high
      turned : reach.turned ≤ reach.far
      free : (i : ℕ) → place ≤ i → i < high → Free steps low at.to i → reach.turned ≤ i
      loops : (f last : ℕ) → low ≤ f → f < place → place ≤ last → last < at.to → Turns steps f last → (reach.begin ≤ f) × (last < reach.far)
      back : (last : ℕ) → last < at.to → goes_back steps place last ≡ true → last < reach.far

    -- behind the step
    record Past (place : ℕ) (reach : Reach) : Type 0 where
      least : low ≤ reach.begin
      begun : reach.begin ≤ place
      past : place + 1 ≤ reach.far
      most : reach.far ≤ high
      turned : reach.turned ≤ reach.far
      free : (i : ℕ) → place + 1 ≤ i → i < high → Free steps low at.to i → reach.turned ≤ i
      loops : (f last : ℕ) → low ≤ f → f < place + 1 → place + 1 ≤ last → last < at.to → Turns steps f last → (reach.begin ≤ f) × (last < reach.far)

    starts : (reach : Reach) → low ≤ high → IsFresh low reach → OnWay low reach
    starts reach goes fresh =
        let a = fresh.begin in
        let b = fresh.far in
        let c = fresh.turned in
        record {
          least = omega (arith, a);
          begun = omega (arith, a);
          on = omega (arith, b);
          most = omega (arith, b, goes);
          fresh = λ same. a;
          turned = omega (arith, b, c);
          free = λ i from to none. omega (arith, c, from);
          loops = λ f last from to here ends turns. absurd (omega (arith, from, to));
        }

    ends : (reach : Reach) → OnWay high reach → IsFresh high reach
    ends reach on =
        let a = on.on in
        let b = on.most in
        let same : reach.far ≡ high = omega (arith, a, b) in
        let c = on.turned in
        record { begin = on.fresh same; far = same; turned = omega (arith, c, same) }

    -- no loop of what follows has a place inside
    free_wider : (place : ℕ) → low ≤ place → place < high → Free steps low high place → Free steps low at.to place
    free_wider place from to free f last begin here above stop turns = by (order last high) turns
      where
        by : (last < high) ⊎ (high ≤ last) → Turns steps f last → ⊥
        by (inl before) turns = free f last begin here above before turns
        by (inr behind) (inl back) = after f last begin (omega (arith, here, to)) behind stop back
        by (inr behind) (inr head) = no_head_across steps owns exit first high low high low high f last one begin (omega (arith, here, to)) behind head.1

    here_from : (place : ℕ) (reach : Reach) → low ≤ place → place < high → OnWay place reach → Here place (turn_behind (last_back steps place at.to) (reach_to (place + 1) reach))
    here_from place reach from to on = by (last_back steps place at.to) (last_tells (goes_back steps place) at.to)
      where
        d : reach.far ≤ high
        d = on.most

        e : reach.turned ≤ reach.far
        e = on.turned

        by : (found : Option ℕ) → LastTells (goes_back steps place) at.to found → Here place (turn_behind found (reach_to (place + 1) reach))
        by None none =
            record {
              least = on.least;
              begun = on.begun;
              past = omega arith;
              most = omega (arith, d, to);
              turned = omega (arith, e);
              free = on.free;
              loops = λ f last begin before here stop turns. let known = on.loops f last begin before here stop turns in (known.0, omega (arith, known.1));
              back = λ last stop back. absurd (none last stop back);
            }
        by (Some back) (stops, is, most) =
            let ends : back < high = back_below (order back high) in
            let here = back_is steps place back is in
            record {
              least = on.least;
              begun = on.begun;
              past = omega arith;
              most = omega (arith, d, to, ends);
              turned = omega (arith, e);
              free = λ i begin stop none. at_place i (on.free i begin stop none) (order back i) begin none;
              loops = λ f last begin before here stop turns. let known = on.loops f last begin before here stop turns in (known.0, omega (arith, known.1));
              back = λ last stop goes. let known = most last stop goes in omega (arith, known, stops, fits, small);
            }
          where
            back_below : (back < high) ⊎ (high ≤ back) → back < high
            back_below (inl ends) = ends
            back_below (inr behind) = absurd (after place back from to behind stops is)

            at_place : (i : ℕ) → reach.turned ≤ i → (back < i) ⊎ (i ≤ back) → place ≤ i → Free steps low at.to i → (turn_behind (Some back) (reach_to (place + 1) reach)).turned ≤ i
            at_place i known (inl before) begin none = omega (arith, known, before)
            at_place i known (inr behind) begin none = absurd (none place back from begin behind stops (inl is))

    -- ---- what a step is

    -- a step that is no head leaves the reach
    settled : (place : ℕ) (reach : Reach) → Here place reach → ((foot : ℕ) → HeadTo foot (kind_at steps place) → ⊥) → Past place reach
    settled place reach here none =
        record {
          least = here.least;
          begun = here.begun;
          past = here.past;
          most = here.most;
          turned = here.turned;
          free = λ i begin stop free. here.free i (omega (arith, begin)) stop free;
          loops = λ f last begin before above stop turns. by f last begin before above stop turns (order f place);
        }
      where
        by : (f last : ℕ) → low ≤ f → f < place + 1 → place + 1 ≤ last → last < at.to → Turns steps f last → (f < place) ⊎ (place ≤ f) → (reach.begin ≤ f) × (last < reach.far)
        by f last begin before above stop turns (inl earlier) = here.loops f last begin earlier (omega (arith, above)) stop turns
        by f last begin before above stop turns (inr now) = this (subst (λ n. Turns steps n last) same turns)
          where
            same : f ≡ place
            same = omega (arith, before, now)

            this : Turns steps place last → (reach.begin ≤ f) × (last < reach.far)
            this (inl back) = let a = here.begun in (omega (arith, a, same), here.back last stop back)
            this (inr head) = absurd (none last head.1)

    raised : (place target : ℕ) (reach : Reach) → Past place reach → target ≤ high → Past place (reach_to target reach)
    raised place target reach past within =
        let a = past.past in
        let b = past.most in
        let c = past.turned in
        record {
          least = past.least;
          begun = past.begun;
          past = omega (arith, a);
          most = omega (arith, b, within);
          turned = omega (arith, c);
          free = past.free;
          loops = λ f last begin before above stop turns. let known = past.loops f last begin before above stop turns in (known.0, omega (arith, known.1));
        }

    -- what a step comes to
    abbrev Comes : (place base : ℕ) → StepKind → Reach → Type 0
    Comes place base kind reach = (behind : Reach) × (behind_kind steps at place base kind reach ≡ Some behind) × Past place behind

    at_true : {X : Type 0} (test : Bool) (x y : X) → test ≡ true → (if test then x else y) ≡ x
    at_true true x y is = refl
    at_true false x y is = absurd (false≢true is)

    at_false : {X : Type 0} (test : Bool) (x y : X) → test ≡ false → (if test then x else y) ≡ y
    at_false true x y is = absurd (false≢true (sym is))
    at_false false x y is = refl

    passes_le : (a b : ℕ) → a ≤ b → nat_le a b ≡ true
    passes_le a b low = grind (arith, nat_tests)

    fails_le : (a b : ℕ) → b < a → nat_le a b ≡ false
    fails_le a b low = grind (arith, nat_tests)

    -- of a jump
    jumps : (place target : ℕ) (reach : Reach) → Here place reach → ((foot : ℕ) → HeadTo foot (kind_at steps place) → ⊥) → (target ≤ place → reach.begin ≤ target) → (target ≤ high) ⊎ (breaks_out steps at.exit place reach ≡ true)
        → (behind : Reach) × (behind_jump steps at.exit place target reach ≡ Some behind) × Past place behind
    jumps place target reach here none back ahead = by (order place target)
      where
        by : (place < target) ⊎ (target ≤ place) → (behind : Reach) × (behind_jump steps at.exit place target reach ≡ Some behind) × Past place behind
        by (inr low_target) = (
          reach,
          at_true (nat_le target place) _ _ (passes_le target place low_target) ∙ at_true (nat_le reach.begin target) _ _ (passes_le reach.begin target (back low_target)),
          settled place reach here none,
        )
        by (inl far_target) = out (breaks_out steps at.exit place reach) refl ahead
          where
            first_test : behind_jump steps at.exit place target reach ≡ (if breaks_out steps at.exit place reach then Some reach else Some (reach_to target reach))
            first_test = at_false (nat_le target place) _ _ (fails_le target place far_target)

            out : (b : Bool) → breaks_out steps at.exit place reach ≡ b → (target ≤ high) ⊎ (breaks_out steps at.exit place reach ≡ true) → (behind : Reach) × (behind_jump steps at.exit place target reach ≡ Some behind) × Past place behind
            out true is ahead = (reach, first_test ∙ at_true (breaks_out steps at.exit place reach) _ _ is, settled place reach here none)
            out false is (inl within) = (reach_to target reach, first_test ∙ at_false (breaks_out steps at.exit place reach) _ _ is, raised place target reach (settled place reach here none) within)
            out false is (inr breaks) = absurd (false≢true (sym is ∙ breaks))

    -- a break leaves the piece, which has no loop around it
    leaves_piece : (place target : ℕ) (reach : Reach) → Here place reach → low ≤ place → place < high → Jumps steps place target → BreaksAt steps exit low high place target → breaks_out steps at.exit place reach ≡ true
    leaves_piece place target reach here from to jump breaks = by exit refl breaks
      where
        by : (e : Option Exit) → exit ≡ e → BreaksAt steps e low high place target → breaks_out steps at.exit place reach ≡ true
        by None is breaks = absurd breaks
        by (Some e) is (goes, out, free) =
            let turned = here.free place (omega arith) to (free_wider place from to free) in
            let known = used e is place (omega (arith, begins, from)) (omega (arith, to, below)) (subst (λ n. Jumps steps place n) goes jump) in
            ap (λ found. breaks_out steps found place reach) known ∙ ap (λ b. b && leaves steps place e) (passes_le reach.turned place turned) ∙ out

    -- a jump back to the beginning of a loop
    loop_begun : (place target : ℕ) (reach : Reach) → Here place reach → low ≤ target → place < at.to → goes_back steps target place ≡ true → target ≤ place → reach.begin ≤ target
    loop_begun place target reach here from stop back low_target = by (order target place)
      where
        by : (target < place) ⊎ (place ≤ target) → reach.begin ≤ target
        by (inl before) = (here.loops target place from before (omega arith) stop (inl back)).0
        by (inr now) = let a = here.begun in omega (arith, a, now)

    target_back : (place target : ℕ) (kind : StepKind) → kind_at steps place ≡ Some kind → target_of kind ≡ Some target → target ≤ place → goes_back steps target place ≡ true
    target_back place target kind is goes low_target =
        let same : (target == target) ≡ true = grind (arith, nat_tests) in
        ap (λ b. b && is_this (target_at steps place) target) (passes_le target place low_target) ∙ ap (λ found. is_this (option_and_then target_of found) target) is ∙ ap (λ found. is_this found target) goes ∙ same

    no_head : (place : ℕ) (kind : StepKind) → kind_at steps place ≡ Some kind → ((foot : ℕ) → HeadTo foot (Some kind) → ⊥) → (foot : ℕ) → HeadTo foot (kind_at steps place) → ⊥
    no_head place kind is none foot head = none foot (subst (HeadTo foot) is head)

    head_comes : (place foot : ℕ) (reach between : Reach) → Here place reach → low ≤ place → place < foot → foot < high → HeadTo foot (kind_at steps place) → ((to : ℕ) → HeadTo to (kind_at steps place) → to ≡ foot)
        → (between.begin ≡ reach.begin) × (between.turned ≡ reach.turned) × (reach.far ≤ between.far) × (between.far ≤ high) → Past place (turn_to (further 1 foot) between)
    head_comes place foot reach between here from ahead within head only known =
        record {
          least = let a = here.least in omega (arith, a, known.0);
          begun = let a = here.begun in omega (arith, a, known.0);
          past = let a = here.past in omega (arith, a, known.2);
          most = omega (arith, known.3, within);
          turned = let a = here.turned in omega (arith, a, known.1, known.2);
          free = λ i begin stop free. at_place i (here.free i (omega (arith, begin)) stop free) (order foot i) begin stop free;
          loops = λ f last begin before above stop turns. by f last begin above stop turns (order f place) before;
        }
      where
        at_place : (i : ℕ) → reach.turned ≤ i → (foot < i) ⊎ (i ≤ foot) → place + 1 ≤ i → i < high → Free steps low at.to i → (turn_to (further 1 foot) between).turned ≤ i
        at_place i low_turned (inl before) begin stop free = omega (arith, low_turned, before, known.1)
        at_place i low_turned (inr behind) begin stop free = absurd (free place foot from (omega (arith, begin)) behind (omega (arith, within, below)) (inr (omega (arith, ahead), head)))

        raised_far : (last : ℕ) → last < reach.far → last < (turn_to (further 1 foot) between).far
        raised_far last low_last = omega (arith, low_last, known.2)

        by : (f last : ℕ) → low ≤ f → place + 1 ≤ last → last < at.to → Turns steps f last → (f < place) ⊎ (place ≤ f) → f < place + 1 → (between.begin ≤ f) × (last < (turn_to (further 1 foot) between).far)
        by f last begin above stop turns (inl earlier) before = let old = here.loops f last begin earlier (omega (arith, above)) stop turns in (omega (arith, old.0, known.0), raised_far last old.1)
        by f last begin above stop turns (inr now) before = this (subst (λ n. Turns steps n last) same turns)
          where
            same : f ≡ place
            same = omega (arith, before, now)

            low_f : between.begin ≤ f
            low_f = let a = here.begun in omega (arith, a, same, known.0)

            this : Turns steps place last → (between.begin ≤ f) × (last < (turn_to (further 1 foot) between).far)
            this (inl back) = (low_f, raised_far last (here.back last stop back))
            this (inr other) = let here = only last other.1 in (low_f, omega (arith, here, within, below, fits, small))

    comes : (place base : ℕ) (kind : StepKind) (reach : Reach) → low ≤ place → place < high → kind_at steps place ≡ Some kind → In steps owns exit first high low high place base kind → Here place reach → Comes place base kind reach
    comes place base StepKind.Act reach from to is known here = (reach, refl, settled place reach here (no_head place StepKind.Act is (λ foot head. head)))
    comes place base StepKind.Return reach from to is known here = (reach, refl, settled place reach here (no_head place StepKind.Return is (λ foot head. head)))
    comes place base (StepKind.Test when target negated) reach from to is known here =
        jumps place target reach here (no_head place (StepKind.Test when target negated) is (λ foot head. head))
        (λ back. loop_begun place target reach here known.0 (omega (arith, to, below)) (target_back place target (StepKind.Test when target negated) is refl back) back) (inl known.1)
    comes place base (StepKind.Jump target) reach from to is known here =
        jumps place target reach here (no_head place (StepKind.Jump target) is (λ foot head. head))
        (λ back. loop_begun place target reach here known.0 (omega (arith, to, below)) (target_back place target (StepKind.Jump target) is refl back) back) (by known.1)
      where
        by : (target ≤ high) ⊎ BreaksAt steps exit low high place target → (target ≤ high) ⊎ (breaks_out steps at.exit place reach ≡ true)
        by (inl within) = inl within
        by (inr breaks) = inr (leaves_piece place target reach here from to is breaks)
    comes place base (StepKind.Declaration end captured) reach from to is known here = by (ends_with_body steps at place end reach) refl known
      where
        none : (foot : ℕ) → HeadTo foot (kind_at steps place) → ⊥
        none = no_head place (StepKind.Declaration end captured) is (λ foot head. head)

        by : (b : Bool) → ends_with_body steps at place end reach ≡ b → (locals_reach end captured ≤ high) ⊎ owns captured end → Comes place base (StepKind.Declaration end captured) reach
        by true passes known = (reach, ap Some (at_true (ends_with_body steps at place end reach) _ _ passes), settled place reach here none)
        by false fails (inl within) =
            (reach_to (locals_reach end captured) reach, ap Some (at_false (ends_with_body steps at place end reach) _ _ fails), raised place (locals_reach end captured) reach (settled place reach here none) within)
        by false fails (inr owned) =
            let mine = own place end captured from to is owned in
            let ended = mine.0 in
            let same : (end == at.locals_end) ≡ true = grind (arith, nat_tests) in
            let turned = here.free place (omega arith) to (free_wider place from to mine.2) in
            absurd (false≢true (sym fails ∙ ap (λ b. b && (nat_le reach.turned place && not (is_closed steps at place))) same ∙ ap (λ b. b && not (is_closed steps at place)) (passes_le reach.turned place turned) ∙ ap not mine.1))
    comes place base (StepKind.Close from' declared) reach from to is known here = by (nat_lt from' base) refl
      where
        none : (foot : ℕ) → HeadTo foot (kind_at steps place) → ⊥
        none = no_head place (StepKind.Close from' declared) is (λ foot head. head)

        by : (b : Bool) → nat_lt from' base ≡ b → Comes place base (StepKind.Close from' declared) reach
        by true passes =
            let closes : from' < base = grind (arith, nat_tests) in
            (reach_to (further 2 place) reach, ap Some (at_true (nat_lt from' base) _ _ passes), raised place (further 2 place) reach (settled place reach here none) (let within = (known closes).0 in omega (arith, within)))
        by false fails = (reach, ap Some (at_false (nat_lt from' base) _ _ fails), settled place reach here none)
    comes place base (StepKind.Head numeric foot end variables_end captured) reach from to is known here = by (breaks_out steps at.exit place reach) refl
      where
        first_test : behind_jump steps at.exit place foot reach ≡ (if breaks_out steps at.exit place reach then Some reach else Some (reach_to foot reach))
        first_test = at_false (nat_le foot place) _ _ (fails_le foot place known.0)

        head : HeadTo foot (kind_at steps place)
        head = subst (HeadTo foot) (sym is) refl

        only : (to : ℕ) → HeadTo to (kind_at steps place) → to ≡ foot
        only to other = sym (subst (HeadTo to) is other)

        by : (b : Bool) → breaks_out steps at.exit place reach ≡ b → Comes place base (StepKind.Head numeric foot end variables_end captured) reach
        by true passes = (
          turn_to (further 1 foot) reach,
          ap (option_map (turn_to (further 1 foot))) (first_test ∙ at_true (breaks_out steps at.exit place reach) _ _ passes),
          head_comes place foot reach reach here from known.0 known.1 head only (refl, refl, omega arith, here.most),
        )
        by false fails = (
          turn_to (further 1 foot) (reach_to foot reach),
          ap (option_map (turn_to (further 1 foot))) (first_test ∙ at_false (breaks_out steps at.exit place reach) _ _ fails),
          head_comes place foot reach (reach_to foot reach) here from known.0 known.1 head only (refl, refl, omega arith, (let most = here.most in omega (arith, most, known.1))),
        )
    comes place base (StepKind.Foot numeric target) reach from to is known here =
        jumps place target reach here (no_head place (StepKind.Foot numeric target) is (λ foot head. head))
        (λ back. let loop = here.loops known.1 place known.3 (omega (arith, known.0, known.2)) (omega arith) (omega (arith, to, below)) (inr (omega (arith, known.0, known.2), known.4)) in omega (arith, loop.0, known.2))
        (inl (omega (arith, known.0, to)))

    -- ---- a step, and all of them

    step_comes : (place : ℕ) (reach : Reach) → low ≤ place → place < high → OnWay place reach → (behind : Reach) × (behind_place steps at place reach ≡ Some behind) × Past place behind
    step_comes place reach from to on = by (slice_get_cases steps place).1
      where
        by : ((step : Step) × (place < length steps) × (slice_get steps place ≡ Some step) × (get_or steps place step ≡ step)) ⊎ ((length steps ≤ place) × (slice_get steps place ≡ None))
            → (behind : Reach) × (behind_place steps at place reach ≡ Some behind) × Past place behind
        by (inr past) = absurd (omega (arith, past.0, to, below, fits))
        by (inl (step, inside, there, more)) =
            let found = comes place step.base step.kind (turn_behind (last_back steps place at.to) (reach_to (place + 1) reach)) from to (kind_there steps place step there) (one place step from to there) (here_from place reach from to on) in
            let most = found.2.most in (
              found.0,
              ap (option_and_then (behind_step steps at place reach)) there ∙ ap (option_and_then (within at)) found.1 ∙ at_true (nat_le found.0.far at.to) _ _ (passes_le found.0.far at.to (omega (arith, most, below))),
              found.2,
            )

    on_next : (place : ℕ) (behind : Reach) → low ≤ place → Past place behind → (ends : Bool) → ends_behind place behind ≡ ends → OnWay (place + 1) (if ends then record behind { begin = behind.far } else behind)
    on_next place behind from past true ends =
        let here : behind.far ≡ place + 1 = grind (arith, nat_tests) in
        record {
          least = omega (arith, here, from);
          begun = omega (arith, here);
          on = past.past;
          most = past.most;
          fresh = λ same. here;
          turned = past.turned;
          free = past.free;
          loops = λ f last begin before above stop turns. let known = past.loops f last begin before above stop turns in absurd (omega (arith, known.1, here, above));
        }
    on_next place behind from past false goes =
        let further_on : behind.far ≢ place + 1 = grind (arith, nat_tests) in
        record {
          least = past.least;
          begun = let a = past.begun in omega (arith, a);
          on = past.past;
          most = past.most;
          fresh = λ same. absurd (further_on same);
          turned = past.turned;
          free = past.free;
          loops = past.loops;
        }

    -- the pieces of the part, and those behind it
    abbrev Walks : (total place : ℕ) → Reach → Type 0
    Walks total place reach =
        (those : List Piece) × (behind : Reach) × IsFresh high behind × FollowOn those reach.begin high
        × ((others : List Piece) → pieces_from steps at (place + total - high) high behind ≡ Some others → pieces_from steps at total place reach ≡ Some (those ++ others))

    arrives : (total place : ℕ) (reach : Reach) → place ≡ high → OnWay place reach → Walks total place reach
    arrives total place reach same on =
        let ended = ends reach (subst (λ n. OnWay n reach) same on) in
        let left : place + total - high ≡ total = omega (arith, same) in
        ([], reach, ended, sym ended.begin, λ others is. subst (λ n. pieces_from steps at total n reach ≡ Some others) (sym same) (subst (λ n. pieces_from steps at n high reach ≡ Some others) left is))

    walk : (total place : ℕ) (reach : Reach) → low ≤ place → place ≤ high → high ≤ place + total → OnWay place reach → Walks total place reach
    walk zero place reach from to enough on = arrives zero place reach (omega (arith, to, enough)) on
    walk (suc total) place reach from to enough on = by (order place high) (λ next goes. walk total (place + 1) next (omega (arith, from)) goes (omega (arith, enough)))
      where
        by : (place < high) ⊎ (high ≤ place) → ((next : Reach) → place + 1 ≤ high → OnWay (place + 1) next → Walks total (place + 1) next) → Walks (suc total) place reach
        by (inr there) others_walk = arrives (suc total) place reach (omega (arith, to, there)) on
        by (inl before) others_walk =
            let found = step_comes place reach from before on in
            let rest = others_walk (begun_behind place found.0) (omega (arith, before)) (on_next place found.0 from found.2 (ends_behind place found.0) refl) in
            let left : place + suc total - high ≡ place + 1 + total - high = omega arith in
            let past = past_place steps at place reach found.0 found.1 in (
              cut_behind place found.0 ++ rest.0,
              rest.1,
              rest.2,
              follow_at at high place reach found.0 rest.0 on.begun past found.2.most (ends_behind place found.0) rest.3,
              λ others is.
                  ap (option_and_then (λ behind. option_map (λ rest. cut_behind place behind ++ rest) (pieces_from steps at total (place + 1) (begun_behind place behind)))) found.1
                  ∙ ap (option_map (λ rest. cut_behind place found.0 ++ rest)) (rest.4 others (subst (λ n. pieces_from steps at n high rest.1 ≡ Some others) left is))
                  ∙ ap Some (sym (append_assoc (cut_behind place found.0) rest.0 others)),
            )

    -- the part is cut at its end
    pub walked : (reach : Reach) → low ≤ high → IsFresh low reach → Walks (at.to - low) low reach
    walked reach goes fresh = walk (at.to - low) low reach (omega arith) goes (omega (arith, goes, below)) (starts reach goes fresh)
