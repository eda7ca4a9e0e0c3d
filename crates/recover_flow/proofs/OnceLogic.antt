-- A condition that never goes to its target is found as an `if` where it fills a piece.
use Rattle.std.proofs.Common.{◌≡◌, ◌≤◌, ◌<◌, ◌^◌, ◌⊎◌, inl, inr, refl, sym, subst, ℕ, suc, max, Bool, true, false, List, length, arith}
use Rattle.std.specs.Prelude.{not}
use Rattle.std.specs.Bool.{beq}
use Rattle.recover_expr.specs.declared.steps.Step.{Step}
use Rattle.recover_flow.specs.Asked.{kind_at}
use Rattle.recover_flow.specs.Flow.{AreTold, Around, and_flow, FlowStatement, do_flow, if_flow, no_more, FlowLies, IsFlowBlock, captures_flow, logic_room}
use Rattle.recover_flow.specs.Logic.{AreLevelled, Logic, LogicIsFound, LogicLies, test_logic, literal_logic, not_logic, and_logic, or_logic}
use Rattle.recover_flow.specs.Lying.{AreOrdered}
use Rattle.recover_flow.specs.declared.regions.BodyAt.{BodyAt}
use Rattle.recover_flow.specs.declared.regions.Piece.{Piece}
use Rattle.recover_flow.proofs.BodiesFound.{IsPiece, LighterFound, PieceFound}
use Rattle.recover_flow.proofs.DoFound.{first_within}
use Rattle.recover_flow.proofs.FlowInside.{ClosesAreNamed}
use Rattle.recover_flow.proofs.IfPieces.{tested_piece}
use Rattle.recover_flow.proofs.InPlace.{in_place}
use Rattle.recover_flow.proofs.LogicCut.{Never, test_hit}
use Rattle.recover_flow.proofs.LogicRest.{FlatFlow, cut_back, empty_flat, ends_well, flipped, flipped_lies, flipped_low}
use Rattle.recover_flow.proofs.OnceFound.{never_literal}
use Rattle.recover_flow.proofs.PartsInside.{order}

module _ (steps : List Step) (levelled : AreLevelled steps) where
  -- what such a condition does, as statements
  pub logic_flat : (before : Around) (logic : Logic) (sense : Bool) (target from to : ℕ) → from ≤ to → Never steps from to target → AreTold steps before from to → LogicLies steps logic sense target from to → FlatFlow steps before from to (logic_room steps logic)
  logic_flat before logic sense target from to low never told lies = by (order from to)
    where
      by : (from < to) ⊎ (to ≤ from) → FlatFlow steps before from to (logic_room steps logic)
      by (inl some) = (cut_back steps levelled before from to told logic sense target from to from (omega arith) (omega arith) (omega arith) some (λ place goes least most there. absurd (omega (arith, least, most))) never lies).rest
      by (inr none) = let same : from ≡ to = omega (arith, low, none) in subst (λ n. FlatFlow steps before from n (logic_room steps logic)) same (empty_flat steps before from (logic_room steps logic))

  flat_block : (before : Around) (from to bound : ℕ) (flat : FlatFlow steps before from to bound) → IsFlowBlock steps before (captures_flow steps flat.flow) (λ ends end. (inside : Around) × FlowLies steps before inside ends flat.flow from end) from to
  flat_block before from to bound flat = subst (λ b. IsFlowBlock steps before b (λ ends end. (inside : Around) × FlowLies steps before inside ends flat.flow from end) from to) (sym flat.none) (before, flat.lies to)

  module _ (small : length steps < 2 ^ 32) (logic_found : LogicIsFound) (named : ClosesAreNamed steps) (ordered : AreOrdered steps) (at : BodyAt) (others_found : LighterFound steps at)
      (piece : Piece) (whole : FlowStatement) (before between : Around) (ends first bound : ℕ) (is : IsPiece steps at piece whole before between ends first bound) (may : captures_flow steps is.rest ≡ true → at.may_capture ≡ true) (same : between ≡ before) (told : AreTold steps before piece.from piece.to)
      (target : ℕ) (never : Never steps piece.from piece.to target) where
    told_part : (from to : ℕ) → piece.from ≤ from → to ≤ piece.to → AreTold steps before from to
    told_part from to low high place begins stops = told place (omega (arith, begins, low)) (omega (arith, stops, high))

    never_part : (from to : ℕ) → piece.from ≤ from → to ≤ piece.to → Never steps from to target
    never_part from to low high place begins stops there = never place (omega (arith, begins, low)) (omega (arith, stops, high)) there

    -- one condition, and a flat block behind it
    if_piece : (left : Logic) (mid most : ℕ) → piece.from < mid → mid ≤ piece.to → LogicLies steps left false piece.to piece.from mid → (rest : FlatFlow steps before mid piece.to most) → suc (max (max 1 (logic_room steps left)) most) < bound → PieceFound steps at bound piece
    if_piece left mid most low high lies rest deep =
        let rest_low = rest.low in
        in_place steps levelled small logic_found named ordered at others_found piece whole (if_flow left rest.flow no_more) before between ends first bound is may same
        (λ other. (refl, (mid, omega (arith, low), high, lies, told_part piece.from mid (omega arith) high, flat_block before mid piece.to most rest))) (omega (arith, deep, rest_low))
        (λ calm here. tested_piece steps levelled small logic_found named ordered at others_found piece left rest.flow no_more before before ends first bound here refl mid low high lies (told_part piece.from mid (omega arith) high) (flat_block before mid piece.to most rest))

    -- two of them never fill it
    not_both : (left right : Logic) (one two : Bool) (mid : ℕ) → piece.from < mid → mid < piece.to → LogicLies steps left one target piece.from mid → LogicLies steps right two target mid piece.to → ⊥
    not_both left right one two mid low high first_lies second_lies =
        let within = is.within in
        let flat_left = logic_flat before left one target piece.from mid (omega (arith, low)) (never_part piece.from mid (omega arith) (omega (arith, high))) (told_part piece.from mid (omega arith) (omega (arith, high))) first_lies in
        let flat_right = logic_flat before right two target mid piece.to (omega (arith, high)) (never_part mid piece.to (omega (arith, low)) (omega arith)) (told_part mid piece.to (omega (arith, low)) (omega arith)) second_lies in
        let past = first_within steps small named ordered at others_found piece is.others (do_flow flat_left.flow) (and_flow (do_flow flat_right.flow) is.rest) before before is.behind ends mid first is.reach is.body is.later is.ready is.begins low (omega (arith, high, within)) is.fresh is.pieces
        (refl, flat_block before piece.from mid (logic_room steps left) flat_left)
        (ends_well (do_flow flat_right.flow) is.rest refl, piece.to, before, omega (arith, high), within, (refl, flat_block before mid piece.to (logic_room steps right) flat_right), subst (λ a. FlowLies steps a is.behind ends is.rest piece.to at.to) same is.rest_lies) in
        absurd (omega (arith, past, high))

    both_piece : (left right : Logic) (one two : Bool) (mid : ℕ) → piece.from ≤ mid → mid ≤ piece.to → LogicLies steps left one target piece.from mid → LogicLies steps right two target mid piece.to
        → (LogicLies steps left one target piece.from piece.to → PieceFound steps at bound piece) → (LogicLies steps right two target piece.from piece.to → PieceFound steps at bound piece) → PieceFound steps at bound piece
    both_piece left right one two mid low high first_lies second_lies at_left at_right = by (order piece.from mid) (order mid piece.to)
      where
        by : (piece.from < mid) ⊎ (mid ≤ piece.from) → (mid < piece.to) ⊎ (piece.to ≤ mid) → PieceFound steps at bound piece
        by (inr empty) second = let here : mid ≡ piece.from = omega (arith, low, empty) in at_right (subst (λ n. LogicLies steps right two target n piece.to) here second_lies)
        by (inl some) (inr empty) = let here : mid ≡ piece.to = omega (arith, high, empty) in at_left (subst (λ n. LogicLies steps left one target piece.from n) here first_lies)
        by (inl some) (inl more) = absurd (not_both left right one two mid some more first_lies second_lies)

    -- the first of two has steps, or the second fills it
    behind_first : (right : Logic) (sense : Bool) (mid : ℕ) → piece.from ≤ mid → LogicLies steps right sense target mid piece.to → (LogicLies steps right sense target piece.from piece.to → PieceFound steps at bound piece)
        → (piece.from < mid → PieceFound steps at bound piece) → PieceFound steps at bound piece
    behind_first right sense mid low lies at_right at_both = by (order piece.from mid)
      where
        by : (piece.from < mid) ⊎ (mid ≤ piece.from) → PieceFound steps at bound piece
        by (inl some) = at_both some
        by (inr empty) = let here : mid ≡ piece.from = omega (arith, low, empty) in at_right (subst (λ n. LogicLies steps right sense target n piece.to) here lies)

    pub logic_piece : (logic : Logic) (sense : Bool) → LogicLies steps logic sense target piece.from piece.to → logic_room steps logic < bound → PieceFound steps at bound piece
    logic_piece (test_logic step negated) sense lies deep = let some = is.some in absurd (never piece.from (omega arith) some (test_hit steps negated sense target piece.from (kind_at steps piece.from) refl lies.2))
    logic_piece (literal_logic truth) sense lies deep = absurd (never_literal steps (beq truth sense) target piece.from piece.to is.some never lies)
    logic_piece (not_logic inner) sense lies deep = logic_piece inner (not sense) lies (omega (arith, deep))
    logic_piece (and_logic left right) false (mid, low, high, one, two) deep =
        both_piece left right false false mid low high one two (λ lies. logic_piece left false lies (omega (arith, deep))) (λ lies. logic_piece right false lies (omega (arith, deep)))
    logic_piece (or_logic left right) true (mid, low, high, one, two) deep =
        both_piece left right true true mid low high one two (λ lies. logic_piece left true lies (omega (arith, deep))) (λ lies. logic_piece right true lies (omega (arith, deep)))
    logic_piece (and_logic left right) true (mid, low, high, one, two) deep =
        behind_first right true mid low two (λ lies. logic_piece right true lies (omega (arith, deep)))
        (λ some.
        if_piece left mid (logic_room steps right) some high one
        (logic_flat before right true target mid piece.to high (never_part mid piece.to low (omega arith)) (told_part mid piece.to low (omega arith)) two) (omega (arith, deep)))
    logic_piece (or_logic left right) false (mid, low, high, one, two) deep =
        behind_first right false mid low two (λ lies. logic_piece right false lies (omega (arith, deep)))
        (λ some.
        let flips = flipped_low steps levelled left true piece.to piece.from mid one in
        if_piece (flipped left) mid (logic_room steps right) some high (flipped_lies steps left true piece.to piece.from mid one)
        (logic_flat before right false target mid piece.to high (never_part mid piece.to low (omega arith)) (told_part mid piece.to low (omega arith)) two) (omega (arith, deep, flips.0, flips.1)))
