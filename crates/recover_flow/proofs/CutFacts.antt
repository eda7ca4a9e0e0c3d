-- What the first piece of a body tells of its steps: none of them goes across its end but a break, and locals of the body.
use Rattle.std.proofs.Common.{◌≡◌, ◌∙◌, ◌≤◌, ◌<◌, ◌+◌, ◌⊎◌, inl, inr, refl, sym, ap, subst, ℕ, zero, suc, Bool, true, false, List, [], ◌∷◌, ◌++◌, length, slice_get, Option, None, Some, arith}
use Rattle.std.specs.Prelude.{◌==◌, ◌&&◌, ◌||◌, ◌^◌, not, nat_le, nat_lt, option_map, option_and_then, if◌then◌else◌}
use Rattle.std.proofs.lemmas.Bool.{and_parts, false≢true}
use Rattle.std.proofs.lemmas.Bool.Decides.{nat_tests}
use Rattle.std.proofs.lemmas.Option.{none-some, same_Some}
use Rattle.recover_expr.specs.declared.steps.Step.{Step}
use Rattle.recover_expr.specs.declared.steps.StepKind.{StepKind}
use Rattle.recover_flow.specs.Asked.{closes_before, goes_back, is_closed, is_this, jump_of, kind_at, last_back, leaves, leaves_with}
use Rattle.recover_flow.specs.Cutting.{begun_behind, behind_jump, behind_kind, behind_place, behind_step, breaks_out, cut_behind, ends_behind, ends_with_body, further, locals_reach, pieces_from, reach_to, turn_behind, turn_to, within}
use Rattle.recover_flow.specs.Lying.{Jumps}
use Rattle.recover_flow.specs.declared.cuts.Reach.{Reach}
use Rattle.recover_flow.specs.declared.regions.BodyAt.{BodyAt}
use Rattle.recover_flow.specs.declared.regions.Exit.{Exit}
use Rattle.recover_flow.specs.declared.regions.Piece.{Piece}
use Rattle.recover_flow.proofs.Boundaries.{IsFresh, LastTells, last_tells}
use Rattle.recover_flow.proofs.FormsLie.{below_or_same, joined_from, mapped_by, passed_on, same_numbers}
use Rattle.recover_flow.proofs.PartsInside.{kind_there, order}
use Rattle.recover_flow.proofs.PlacesFit.{past_place}

-- ---- what a step leaves

-- what holds of either value holds of the one that a test takes
by_test : {X P : Type 0} (test : Bool) (x y z : X) → (if test then x else y) ≡ z → (test ≡ true → x ≡ z → P) → (test ≡ false → y ≡ z → P) → P
by_test true x y z is passes fails = passes refl is
by_test false x y z is passes fails = fails refl is

-- it reaches as far as before, and its loops do, which end in it
record Grows (before after : Reach) : Type 0 where
  far : before.far ≤ after.far
  turned : before.turned ≤ after.turned
  kept : before.turned ≤ before.far → after.turned ≤ after.far

grown_same : (reach : Reach) → Grows reach reach
grown_same reach = record { far = omega arith; turned = omega arith; kept = λ low. low }

grown_to : (place : ℕ) (reach : Reach) → Grows reach (reach_to place reach)
grown_to place reach = record { far = omega arith; turned = omega arith; kept = λ low. omega (arith, low) }

turned_on : (place : ℕ) (reach : Reach) → Grows reach (turn_to place reach)
turned_on place reach = record { far = omega arith; turned = omega arith; kept = λ low. omega (arith, low) }

grown_both : (before between after : Reach) → Grows before between → Grows between after → Grows before after
grown_both before between after one two =
    let a = one.far in
    let b = two.far in
    let c = one.turned in
    let d = two.turned in
    record { far = omega (arith, a, b); turned = omega (arith, c, d); kept = λ low. two.kept (one.kept low) }

grown_jump : (steps : List Step) (exit : Option Exit) (place target : ℕ) (reach after : Reach) → behind_jump steps exit place target reach ≡ Some after → Grows reach after
grown_jump steps exit place target reach after is =
    by_test (nat_le target place) _ _ (Some after) is
    (λ back now. by_test (nat_le reach.begin target) _ _ (Some after) now (λ from same. subst (Grows reach) (same_Some reach after same) (grown_same reach)) (λ from none. absurd (none-some after none)))
    (λ ahead now.
    by_test (breaks_out steps exit place reach) _ _ (Some after) now
    (λ out same. subst (Grows reach) (same_Some reach after same) (grown_same reach))
    (λ stays more. subst (Grows reach) (same_Some (reach_to target reach) after more) (grown_to target reach)))

grown_one : (test : Bool) (reach more : Reach) → Grows reach more → Grows reach (if test then reach else more)
grown_one true reach more grown = grown_same reach
grown_one false reach more grown = grown

grown_other : (test : Bool) (reach more : Reach) → Grows reach more → Grows reach (if test then more else reach)
grown_other true reach more grown = grown
grown_other false reach more grown = grown_same reach

grown_kind : (steps : List Step) (at : BodyAt) (place base : ℕ) (kind : StepKind) (reach after : Reach) → behind_kind steps at place base kind reach ≡ Some after → Grows reach after
grown_kind steps at place base StepKind.Act reach after is = subst (Grows reach) (same_Some reach after is) (grown_same reach)
grown_kind steps at place base StepKind.Return reach after is = subst (Grows reach) (same_Some reach after is) (grown_same reach)
grown_kind steps at place base (StepKind.Declaration end captured) reach after is =
    subst (Grows reach) (same_Some _ after is) (grown_one (ends_with_body steps at place end reach) reach (reach_to (locals_reach end captured) reach) (grown_to (locals_reach end captured) reach))
grown_kind steps at place base (StepKind.Test when target negated) reach after is = grown_jump steps at.exit place target reach after is
grown_kind steps at place base (StepKind.Jump target) reach after is = grown_jump steps at.exit place target reach after is
grown_kind steps at place base (StepKind.Close from declared) reach after is =
    subst (Grows reach) (same_Some _ after is) (grown_other (nat_lt from base) reach (reach_to (further 2 place) reach) (grown_to (further 2 place) reach))
grown_kind steps at place base (StepKind.Head numeric foot end variables_end captured) reach after is =
    let found = mapped_by (turn_to (further 1 foot)) (behind_jump steps at.exit place foot reach) after is in
    grown_both reach found.0 after (grown_jump steps at.exit place foot reach found.0 found.1) (subst (Grows found.0) found.2 (turned_on (further 1 foot) found.0))
grown_kind steps at place base (StepKind.Foot numeric target) reach after is = grown_jump steps at.exit place target reach after is

grown_behind : (found : Option ℕ) (reach : Reach) → Grows reach (turn_behind found reach)
grown_behind None reach = grown_same reach
grown_behind (Some last) reach = turned_on (further 1 last) reach

-- the steps of a behind_place
pub record Passes (steps : List Step) (at : BodyAt) (place : ℕ) (before after : Reach) : Type 0 where
  pub step : Step
  pub there : slice_get steps place ≡ Some step
  pub kind : behind_kind steps at place step.base step.kind (turn_behind (last_back steps place at.to) (reach_to (place + 1) before)) ≡ Some after

passes_place : (steps : List Step) (at : BodyAt) (place : ℕ) (before after : Reach) → behind_place steps at place before ≡ Some after → Passes steps at place before after
passes_place steps at place before after is =
    let one = joined_from (behind_step steps at place before) (slice_get steps place) after is in
    let two = joined_from (within at) (behind_kind steps at place one.0.base one.0.kind (turn_behind (last_back steps place at.to) (reach_to (place + 1) before))) after one.2 in
    let three = passed_on (nat_le two.0.far at.to) (Some two.0) after two.2 in
    record { step = one.0; there = one.1; kind = two.1 ∙ three.1 }

module _ (steps : List Step) (at : BodyAt) (small : length steps < 2 ^ 32) (fits : at.to ≤ length steps) where
  grown_place : (place : ℕ) (before after : Reach) → Passes steps at place before after → Grows before after
  grown_place place before after passes =
      let first : Reach = reach_to (place + 1) before in
      grown_both before first after (grown_to (place + 1) before)
      (grown_both first (turn_behind (last_back steps place at.to) first) after (grown_behind (last_back steps place at.to) first) (grown_kind steps at place passes.step.base passes.step.kind _ after passes.kind))

  -- a loop that begins at a place ends in the piece
  loop_known : (place last : ℕ) (before after : Reach) → Passes steps at place before after → last < at.to → goes_back steps place last ≡ true → (last < after.far) × (last < after.turned)
  loop_known place last before after passes stops back = by (last_back steps place at.to) refl (last_tells (goes_back steps place) at.to)
    where
      by : (found : Option ℕ) → last_back steps place at.to ≡ found → LastTells (goes_back steps place) at.to found → (last < after.far) × (last < after.turned)
      by None is none = absurd (none last stops back)
      by (Some most) is known =
          let grown = grown_kind steps at place passes.step.base passes.step.kind (turn_behind (Some most) (reach_to (place + 1) before)) after (subst (λ found. behind_kind steps at place passes.step.base passes.step.kind (turn_behind found (reach_to (place + 1) before)) ≡ Some after) is passes.kind) in
          let low = known.2 last stops back in
          let a = grown.far in
          let b = grown.turned in
          (omega (arith, low, a, known.0, fits, small), omega (arith, low, b, known.0, fits, small))

  -- ---- the first piece

  -- a step of it, and the reach before and behind it
  record Visits (place : ℕ) (reach : Reach) (to i : ℕ) : Type 0 where
    before : Reach
    after : Reach
    passes : Passes steps at i before after
    begin : before.begin ≡ reach.begin
    far : after.far ≤ to
    turned : reach.turned ≤ before.turned
    loops : (f last : ℕ) → place ≤ f → f < i → last < at.to → goes_back steps f last ≡ true → last < before.turned

  -- the pieces behind it
  pub record Others (place total : ℕ) (piece : Piece) (others : List Piece) : Type 0 where
    pub left : ℕ
    pub counted : piece.to + left ≡ place + total
    pub reach : Reach
    pub fresh : IsFresh piece.to reach
    pub pieces : pieces_from steps at left piece.to reach ≡ Some others

  record Traced (place total : ℕ) (reach : Reach) (piece : Piece) (others : List Piece) : Type 0 where
    begin : piece.from ≡ reach.begin
    far : reach.far ≤ piece.to
    past : place < piece.to
    each : (i : ℕ) → place ≤ i → i < piece.to → Visits place reach piece.to i
    behind : Others place total piece others

  same_pieces : (one : Piece) (rest : List Piece) (piece : Piece) (others : List Piece) → one ∷ rest ≡ piece ∷ others → (one ≡ piece) × (rest ≡ others)
  same_pieces one rest piece others is = (ap (λ xs. head_or xs) is, ap (λ xs. tail_of xs) is)
    where
      head_or : List Piece → Piece
      head_or [] = one
      head_or (x ∷ xs) = x

      tail_of : List Piece → List Piece
      tail_of [] = []
      tail_of (x ∷ xs) = xs

  trace : (total place : ℕ) (reach : Reach) (piece : Piece) (others : List Piece) → reach.turned ≤ reach.far → pieces_from steps at total place reach ≡ Some (piece ∷ others) → Traced place total reach piece others
  trace zero place reach piece others low is = absurd (no_piece (same_Some [] (piece ∷ others) is))
    where
      no_piece : [] ≡ piece ∷ others → ⊥
      no_piece same = absurd (none-some piece (ap first_of same))
        where
          first_of : List Piece → Option Piece
          first_of [] = None
          first_of (x ∷ xs) = Some x
  trace (suc total) place reach piece others low is =
      by found.0 found.1 (ends_behind place found.0) refl others_found.0 others_found.1 others_found.2
      (λ next kept pieces. trace total (place + 1) next piece others kept pieces)
    where
      found : (behind : Reach) × (behind_place steps at place reach ≡ Some behind) × (option_map (λ rest. cut_behind place behind ++ rest) (pieces_from steps at total (place + 1) (begun_behind place behind)) ≡ Some (piece ∷ others))
      found = joined_from (λ behind. option_map (λ rest. cut_behind place behind ++ rest) (pieces_from steps at total (place + 1) (begun_behind place behind))) (behind_place steps at place reach) (piece ∷ others) is

      others_found : (rest : List Piece) × (pieces_from steps at total (place + 1) (begun_behind place found.0) ≡ Some rest) × (cut_behind place found.0 ++ rest ≡ piece ∷ others)
      others_found = mapped_by (λ rest. cut_behind place found.0 ++ rest) (pieces_from steps at total (place + 1) (begun_behind place found.0)) (piece ∷ others) found.2

      by : (behind : Reach) → behind_place steps at place reach ≡ Some behind → (ends : Bool) → ends_behind place behind ≡ ends → (rest : List Piece)
          → pieces_from steps at total (place + 1) (if ends then record behind { begin = behind.far } else behind) ≡ Some rest
          → (if ends then record { from = behind.begin; to = behind.far } ∷ [] else []) ++ rest ≡ piece ∷ others
          → ((next : Reach) → next.turned ≤ next.far → pieces_from steps at total (place + 1) next ≡ Some (piece ∷ others) → Traced (place + 1) total next piece others) → Traced place (suc total) reach piece others
      by behind there true ends rest pieces joined more =
          let passes = passes_place steps at place reach behind there in
          let grown = grown_place place reach behind passes in
          let past = past_place steps at place reach behind there in
          let here : behind.far ≡ place + 1 = grind (arith, nat_tests) in
          let same = same_pieces (record { from = behind.begin; to = behind.far }) rest piece others joined in
          let to : behind.far ≡ piece.to = ap (λ (p : Piece). p.to) same.0 in
          let turned = grown.kept low in
          let far = grown.far in
          record {
            begin = sym (ap (λ (p : Piece). p.from) same.0) ∙ past.begin;
            far = omega (arith, far, to);
            past = omega (arith, here, to);
            each = λ i from stop.
                let now : place ≡ i = omega (arith, from, stop, here, to) in
                subst (λ n. Visits place reach piece.to n) now
                (record { before = reach; after = behind; passes = passes; begin = refl; far = omega (arith, to); turned = omega arith; loops = λ f last f_low f_high. absurd (omega (arith, f_low, f_high)) });
            behind =
                record {
                  left = total;
                  counted = omega (arith, here, to);
                  reach = record behind { begin = behind.far };
                  fresh = record { begin = to; far = to; turned = omega (arith, turned, to) };
                  pieces = subst (λ n. pieces_from steps at total n (record behind { begin = behind.far }) ≡ Some others) (sym here ∙ to) (pieces ∙ ap Some same.1);
                };
          }
      by behind there false goes rest pieces joined more =
          let passes = passes_place steps at place reach behind there in
          let grown = grown_place place reach behind passes in
          let past = past_place steps at place reach behind there in
          let traced = more behind (grown.kept low) (pieces ∙ ap Some joined) in
          let far = grown.far in
          let on = traced.far in
          let beyond = past.past in
          let old = traced.behind in
          record {
            begin = traced.begin ∙ past.begin;
            far = omega (arith, far, on);
            past = omega (arith, on, beyond);
            each = λ i from stop. at_step i from stop passes past.begin on grown.turned (order place i) traced.each;
            behind = record { left = old.left; counted = (let counted = old.counted in omega (arith, counted)); reach = old.reach; fresh = old.fresh; pieces = old.pieces };
          }
        where
          at_step : (i : ℕ) → place ≤ i → i < piece.to → Passes steps at place reach behind → behind.begin ≡ reach.begin → behind.far ≤ piece.to → reach.turned ≤ behind.turned → (place < i) ⊎ (i ≤ place)
              → ((i : ℕ) → place + 1 ≤ i → i < piece.to → Visits (place + 1) behind piece.to i) → Visits place reach piece.to i
          at_step i from stop passes begin far turned (inr here) each =
              let now : place ≡ i = omega (arith, from, here) in
              subst (λ n. Visits place reach piece.to n) now (record { before = reach; after = behind; passes = passes; begin = refl; far = far; turned = omega arith; loops = λ f last f_low f_high. absurd (omega (arith, f_low, f_high)) })
          at_step i from stop passes begin far turned (inl later) each =
              let one = each i (omega (arith, later)) stop in
              let known = one.turned in
              record {
                before = one.before;
                after = one.after;
                passes = one.passes;
                begin = one.begin ∙ begin;
                far = one.far;
                turned = omega (arith, turned, known);
                loops = λ f last f_low f_high stops back. first_loop f last f_low f_high stops back known (order place f) one.loops;
              }
            where
              first_loop : (f last : ℕ) → place ≤ f → f < i → last < at.to → goes_back steps f last ≡ true → behind.turned ≤ (each i (omega (arith, later)) stop).before.turned → (place < f) ⊎ (f ≤ place)
                  → ((f last : ℕ) → place + 1 ≤ f → f < i → last < at.to → goes_back steps f last ≡ true → last < (each i (omega (arith, later)) stop).before.turned) → last < (each i (omega (arith, later)) stop).before.turned
              first_loop f last f_low f_high stops back known (inl past_first) loops = loops f last (omega (arith, past_first)) f_high stops back
              first_loop f last f_low f_high stops back known (inr at_first) loops =
                  let same : f ≡ place = omega (arith, f_low, at_first) in
                  let loop = loop_known place last reach behind passes stops (subst (λ n. goes_back steps n last ≡ true) same back) in
                  omega (arith, loop.1, known)

  -- ---- what the steps before a cut are

  -- where locals end, and the CLOSE behind them
  abbrev pub past_locals : (end : ℕ) → (captured : Bool) → ℕ
  past_locals end captured = if captured then suc end else end

  abbrev pub LeavesAt : (place target : ℕ) → Type 0
  LeavesAt place target = (exit : Exit) × (at.exit ≡ Some exit) × (target ≡ exit.place) × (leaves steps place exit ≡ true)

  -- locals are the body's own
  abbrev pub OwnAt : (low place end : ℕ) → Type 0
  OwnAt low place end = (end ≡ at.locals_end) × (is_closed steps at place ≡ false) × ((f last : ℕ) → low ≤ f → f ≤ place → place ≤ last → last < at.to → goes_back steps f last ≡ true → ⊥)

  -- what a step does that does not go across a cut
  abbrev pub Before : (low cut place base : ℕ) → StepKind → Type 0
  Before low cut place base StepKind.Act = Unit {0}
  Before low cut place base StepKind.Return = Unit {0}
  Before low cut place base (StepKind.Test when target negated) = target ≤ cut
  Before low cut place base (StepKind.Jump target) = (target ≤ cut) ⊎ LeavesAt place target
  Before low cut place base (StepKind.Declaration end captured) = (past_locals end captured ≤ cut) ⊎ OwnAt low place end
  Before low cut place base (StepKind.Close from declared) = from < base → suc place < cut
  Before low cut place base (StepKind.Head numeric foot end variables_end captured) = foot < cut
  Before low cut place base (StepKind.Foot numeric target) = Unit {0}

  -- a place that no step of a body goes across, from a place on
  pub record IsCut (low cut : ℕ) : Type 0 where
    pub below : cut ≤ at.to
    pub back : (f last : ℕ) → low ≤ f → f < cut → last < at.to → goes_back steps f last ≡ true → last < cut
    pub each : (place : ℕ) (step : Step) → low ≤ place → place < cut → slice_get steps place ≡ Some step → Before low cut place step.base step.kind
    -- a jump across it is in no loop
    pub free : (place target : ℕ) → low ≤ place → place < cut → cut < target → Jumps steps place target → (f last : ℕ) → low ≤ f → f ≤ place → place ≤ last → last < at.to → goes_back steps f last ≡ true → ⊥

  jump_tells : (place target cut : ℕ) (kind : StepKind) (reach after : Reach) → kind_at steps place ≡ Some kind → place < cut → after.far ≤ cut → behind_jump steps at.exit place target reach ≡ Some after → (target ≤ cut) ⊎ ((exit : Exit) × (at.exit ≡ Some exit) × (leaves steps place exit ≡ true))
  jump_tells place target cut kind reach after is_kind before far is =
      by_test (nat_le target place) _ _ (Some after) is
      (λ back now. let low = below_or_same target place back in inl (omega (arith, low, before)))
      (λ ahead now.
      by_test (breaks_out steps at.exit place reach) _ _ (Some after) now
      (λ out same. inr (exit_of at.exit refl out))
      (λ stays more. let same = ap (λ (r : Reach). r.far) (same_Some (reach_to target reach) after more) in inl (omega (arith, same, far))))
    where
      exit_of : (exit : Option Exit) → at.exit ≡ exit → breaks_out steps exit place reach ≡ true → (e : Exit) × (at.exit ≡ Some e) × (leaves steps place e ≡ true)
      exit_of None is out = absurd (false≢true out)
      exit_of (Some e) is out = let parts = and_parts (nat_le reach.turned place) (leaves steps place e) out in (e, is, parts.1)

  -- a step that leaves is a jump to the exit
  pub leaves_jumps : (place : ℕ) (exit : Exit) → leaves steps place exit ≡ true → Jumps steps place exit.place
  leaves_jumps place exit is = by (slice_get steps place) refl is
    where
      by : (found : Option Step) → slice_get steps place ≡ found → leaves_with steps place exit found ≡ true → Jumps steps place exit.place
      by None there out = absurd (false≢true out)
      by (Some step) there out =
          let parts = and_parts (is_this (jump_of step.kind) exit.place) (nat_le step.captured exit.locals || closes_before steps place exit.locals) out in
          kind_there steps place step there ∙ ap Some (jump_kind step.kind parts.0)
        where
          jump_kind : (kind : StepKind) → is_this (jump_of kind) exit.place ≡ true → kind ≡ StepKind.Jump exit.place
          jump_kind StepKind.Act is = absurd (false≢true is)
          jump_kind StepKind.Return is = absurd (false≢true is)
          jump_kind (StepKind.Declaration end captured) is = absurd (false≢true is)
          jump_kind (StepKind.Test when to negated) is = absurd (false≢true is)
          jump_kind (StepKind.Jump to) is = ap StepKind.Jump (same_numbers to exit.place is)
          jump_kind (StepKind.Close from declared) is = absurd (false≢true is)
          jump_kind (StepKind.Head numeric foot end variables_end captured) is = absurd (false≢true is)
          jump_kind (StepKind.Foot numeric to) is = absurd (false≢true is)

  not_leaving : (place : ℕ) (kind : StepKind) (exit : Exit) → kind_at steps place ≡ Some kind → jump_of kind ≡ None → leaves steps place exit ≡ true → ⊥
  not_leaving place kind exit is none out =
      let jumps = leaves_jumps place exit out in
      absurd (none-some exit.place (sym none ∙ ap (λ found. option_and_then jump_of found) (sym is ∙ jumps)))

  step_before : (low cut place base : ℕ) (kind : StepKind) (reach after : Reach) → kind_at steps place ≡ Some kind → place < cut → cut ≤ at.to → after.far ≤ cut
      → ((f last : ℕ) → low ≤ f → f ≤ place → last < at.to → goes_back steps f last ≡ true → last < reach.turned) → behind_kind steps at place base kind reach ≡ Some after → Before low cut place base kind
  step_before low cut place base StepKind.Act reach after is_kind before within far loops is = tt
  step_before low cut place base StepKind.Return reach after is_kind before within far loops is = tt
  step_before low cut place base (StepKind.Test when target negated) reach after is_kind before within far loops is = by (jump_tells place target cut (StepKind.Test when target negated) reach after is_kind before far is)
    where
      by : (target ≤ cut) ⊎ ((exit : Exit) × (at.exit ≡ Some exit) × (leaves steps place exit ≡ true)) → target ≤ cut
      by (inl stays) = stays
      by (inr out) = absurd (not_leaving place (StepKind.Test when target negated) out.0 is_kind refl out.2)
  step_before low cut place base (StepKind.Jump target) reach after is_kind before within far loops is = by (jump_tells place target cut (StepKind.Jump target) reach after is_kind before far is)
    where
      by : (target ≤ cut) ⊎ ((exit : Exit) × (at.exit ≡ Some exit) × (leaves steps place exit ≡ true)) → (target ≤ cut) ⊎ LeavesAt place target
      by (inl stays) = inl stays
      by (inr out) = inr (out.0, out.1, same_Some target out.0.place (ap (λ found. option_and_then jump_of found) (sym is_kind ∙ leaves_jumps place out.0 out.2)), out.2)
  step_before low cut place base (StepKind.Declaration end captured) reach after is_kind before within far loops is =
      by_test (ends_with_body steps at place end reach) _ _ after (same_Some _ after is)
      (λ owned same.
      let parts = and_parts (end == at.locals_end) (nat_le reach.turned place && not (is_closed steps at place)) owned in
      let more = and_parts (nat_le reach.turned place) (not (is_closed steps at place)) parts.1 in
      let turned = below_or_same reach.turned place more.0 in
      inr (same_numbers end at.locals_end parts.0, opened (is_closed steps at place) more.1, λ f last f_low f_high l_low stops back. let known = loops f last f_low f_high stops back in absurd (omega (arith, known, turned, l_low))))
      (λ other same. let reached = ap (λ (r : Reach). r.far) same in inl (reaches captured reached))
    where
      opened : (b : Bool) → not b ≡ true → b ≡ false
      opened true is = absurd (false≢true is)
      opened false is = refl

      reaches : (captured : Bool) → (reach_to (locals_reach end captured) reach).far ≡ after.far → past_locals end captured ≤ cut
      reaches true same = omega (arith, same, far, within, fits, small)
      reaches false same = omega (arith, same, far)
  step_before low cut place base (StepKind.Close from declared) reach after is_kind before within far loops is =
      λ closes.
      by_test (nat_lt from base) _ _ after (same_Some _ after is)
      (λ passes same. let reached = ap (λ (r : Reach). r.far) same in omega (arith, reached, far, within, fits, small))
      (λ fails same. let not_below : base ≤ from = grind (arith, nat_tests) in absurd (omega (arith, closes, not_below)))
  step_before low cut place base (StepKind.Head numeric foot end variables_end captured) reach after is_kind before within far loops is =
      let found = mapped_by (turn_to (further 1 foot)) (behind_jump steps at.exit place foot reach) after is in
      let reached = ap (λ (r : Reach). r.far) found.2 in
      omega (arith, reached, far, within, fits, small)
  step_before low cut place base (StepKind.Foot numeric target) reach after is_kind before within far loops is = tt

  -- the first piece of a body ends at a cut, and the pieces behind it are those from there on
  pub first_piece : (place total : ℕ) (reach : Reach) (piece : Piece) (others : List Piece) → IsFresh place reach → place + total ≡ at.to → pieces_from steps at total place reach ≡ Some (piece ∷ others)
      → (piece.from ≡ place) × (place < piece.to) × IsCut place piece.to × Others place total piece others
  first_piece place total reach piece others fresh counted is =
      let begin = fresh.begin in
      let far = fresh.far in
      let turned = fresh.turned in
      let traced = trace total place reach piece others (omega (arith, far, turned)) is in
      let behind = traced.behind in
      let ends = behind.counted in (
        traced.begin ∙ begin,
        traced.past,
        record {
          below = omega (arith, ends, counted);
          back = λ f last f_low f_high stops back. (let visit = traced.each f f_low f_high in let known = loop_known f last visit.before visit.after visit.passes stops back in let most = visit.far in omega (arith, known.0, most));
          each = λ i step from to there. visited i step from to there (traced.each i from to) (omega (arith, ends, counted));
          free = λ i target from to past jump f last f_low f_high above stops back. freed i target from to past jump f last f_low f_high above stops back (traced.each i from to);
        },
        behind,
      )
    where
      turned_at : (i : ℕ) (visit : Visits place reach piece.to i) (f last : ℕ) → place ≤ f → last < at.to → goes_back steps f last ≡ true → (f < i) ⊎ (i ≤ f) → f ≤ i → last < (turn_behind (last_back steps i at.to) (reach_to (i + 1) visit.before)).turned
      turned_at i visit f last f_low stops back (inl earlier) f_high =
          let known = visit.loops f last f_low earlier stops back in
          let grown = grown_behind (last_back steps i at.to) (reach_to (i + 1) visit.before) in
          let more = grown.turned in
          omega (arith, known, more)
      turned_at i visit f last f_low stops back (inr here) f_high = by (last_back steps i at.to) (last_tells (goes_back steps i) at.to)
        where
          same : f ≡ i
          same = omega (arith, here, f_high)

          by : (found : Option ℕ) → LastTells (goes_back steps i) at.to found → last < (turn_behind found (reach_to (i + 1) visit.before)).turned
          by None none = absurd (none last stops (subst (λ n. goes_back steps n last ≡ true) same back))
          by (Some most) known = let low = known.2 last stops (subst (λ n. goes_back steps n last ≡ true) same back) in omega (arith, low, known.0, fits, small)

      freed : (i target : ℕ) → place ≤ i → i < piece.to → piece.to < target → Jumps steps i target → (f last : ℕ) → place ≤ f → f ≤ i → i ≤ last → last < at.to → goes_back steps f last ≡ true → Visits place reach piece.to i → ⊥
      freed i target from to past jump f last f_low f_high above stops back visit =
          by_test (nat_le target i) _ _ (Some visit.after) there
          (λ back now. let low = below_or_same target i back in absurd (omega (arith, low, to, past)))
          (λ ahead now.
          by_test (breaks_out steps at.exit i around) _ _ (Some visit.after) now (λ out same. turned at.exit out)
          (λ stays more. let same = ap (λ (r : Reach). r.far) (same_Some (reach_to target around) visit.after more) in let far = visit.far in absurd (omega (arith, same, far, past))))
        where
          around : Reach
          around = turn_behind (last_back steps i at.to) (reach_to (i + 1) visit.before)

          there : behind_jump steps at.exit i target around ≡ Some visit.after
          there =
              let passes = visit.passes in
              subst (λ k. behind_kind steps at i passes.step.base k around ≡ Some visit.after) (same_Some passes.step.kind (StepKind.Jump target) (sym (kind_there steps i passes.step passes.there) ∙ jump)) passes.kind

          turned : (exit : Option Exit) → breaks_out steps exit i around ≡ true → ⊥
          turned None out = absurd (false≢true out)
          turned (Some e) out =
              let parts = and_parts (nat_le around.turned i) (leaves steps i e) out in
              let most = below_or_same around.turned i parts.0 in
              let known = turned_at i visit f last f_low stops back (order f i) f_high in
              absurd (omega (arith, most, known, above))

      visited : (i : ℕ) (step : Step) → place ≤ i → i < piece.to → slice_get steps i ≡ Some step → Visits place reach piece.to i → piece.to ≤ at.to → Before place piece.to i step.base step.kind
      visited i step from to there visit within =
          let passes = visit.passes in
          let same : passes.step ≡ step = same_Some passes.step step (sym passes.there ∙ there) in
          subst (λ (s : Step). Before place piece.to i s.base s.kind) same
          (step_before place piece.to i passes.step.base passes.step.kind (turn_behind (last_back steps i at.to) (reach_to (i + 1) visit.before)) visit.after (kind_there steps i passes.step passes.there) to within visit.far
          (λ f last f_low f_high stops back. turned_at i visit f last f_low stops back (order f i) f_high) passes.kind)
