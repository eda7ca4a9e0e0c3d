-- The pieces of a body, one behind the other.
use Rattle.std.proofs.Common.{◌≡◌, refl, sym, ap, ◌∙◌, ℕ, suc, ◌+◌, ◌-◌, ◌<◌, ◌≤◌, List, [], ◌++◌, Option, None, Some, option_map, option_and_then, append_assoc, append-nil, arith}
use Rattle.recover_expr.specs.declared.steps.Step.{Step}
use Rattle.recover_flow.specs.declared.cuts.Reach.{Reach}
use Rattle.recover_flow.specs.declared.regions.BodyAt.{BodyAt}
use Rattle.recover_flow.specs.declared.regions.Piece.{Piece}
use Rattle.recover_flow.specs.Cutting.{begun_behind, behind_place, cut_behind, pieces_from, pieces_of}

joined : (front cut : List Piece) (rest : Option (List Piece)) → option_map (λ all. (front ++ cut) ++ all) rest ≡ option_map (λ all. front ++ all) (option_map (λ all. cut ++ all) rest)
joined front cut None = refl
joined front cut (Some all) = ap Some (append_assoc front cut all)

pub none_yet : (steps : List Step) (at : BodyAt) → option_map (λ rest. [] ++ rest) (pieces_of steps at) ≡ pieces_of steps at
none_yet steps at = kept (pieces_of steps at)
  where
    kept : (pieces : Option (List Piece)) → option_map (λ rest. [] ++ rest) pieces ≡ pieces
    kept None = refl
    kept (Some pieces) = refl

pub piece_turn : (steps : List Step) (at : BodyAt) (place to : ℕ) (before behind begun : Reach) (pieces all : List Piece) → place < to → Some behind ≡ behind_place steps at place before → all ≡ pieces ++ cut_behind place behind → begun ≡ begun_behind place behind → {whole : Option (List Piece)} →
    option_map (λ rest. pieces ++ rest) (pieces_from steps at (to - place) place before) ≡ whole →
    option_map (λ rest. all ++ rest) (pieces_from steps at (to - (place + 1)) (place + 1) begun) ≡ whole
piece_turn steps at place to before behind begun pieces all more is cut begins left =
    let count : to - place ≡ suc (to - (place + 1)) = omega arith in
    ap (λ front. option_map (λ rest. front ++ rest) (pieces_from steps at (to - (place + 1)) (place + 1) begun)) cut
    ∙ ap (λ reach. option_map (λ rest. (pieces ++ cut_behind place behind) ++ rest) (pieces_from steps at (to - (place + 1)) (place + 1) reach)) begins
    ∙ joined pieces (cut_behind place behind) (pieces_from steps at (to - (place + 1)) (place + 1) (begun_behind place behind))
    ∙ ap (λ o. option_map (λ rest. pieces ++ rest) (option_and_then (λ next. option_map (λ rest. cut_behind place next ++ rest) (pieces_from steps at (to - (place + 1)) (place + 1) (begun_behind place next))) o)) is
    ∙ ap (λ n. option_map (λ rest. pieces ++ rest) (pieces_from steps at n place before)) (sym count) ∙ left

-- a step is no part of the body
pub piece_stops : (steps : List Step) (at : BodyAt) (place to : ℕ) (before : Reach) (pieces : List Piece) → place < to → behind_place steps at place before ≡ None → {whole : Option (List Piece)} →
    option_map (λ rest. pieces ++ rest) (pieces_from steps at (to - place) place before) ≡ whole → None ≡ whole
piece_stops steps at place to before pieces more none left =
    let count : to - place ≡ suc (to - (place + 1)) = omega arith in
    ap (λ o. option_map (λ rest. pieces ++ rest) (option_and_then (λ next. option_map (λ rest. cut_behind place next ++ rest) (pieces_from steps at (to - (place + 1)) (place + 1) (begun_behind place next))) o)) (sym none)
    ∙ ap (λ n. option_map (λ rest. pieces ++ rest) (pieces_from steps at n place before)) (sym count) ∙ left

pub pieces_end : (steps : List Step) (at : BodyAt) (place to : ℕ) (before : Reach) (pieces : List Piece) → to ≤ place → {whole : Option (List Piece)} →
    option_map (λ rest. pieces ++ rest) (pieces_from steps at (to - place) place before) ≡ whole → Some pieces ≡ whole
pieces_end steps at place to before pieces past left =
    let none : to - place ≡ 0 = omega arith in
    ap Some (sym (append-nil pieces)) ∙ ap (λ n. option_map (λ rest. pieces ++ rest) (pieces_from steps at n place before)) (sym none) ∙ left
