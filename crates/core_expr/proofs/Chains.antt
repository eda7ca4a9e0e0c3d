-- Operands that are joined from the last one on.
use Rattle.std.proofs.Common.{◌≡◌, refl, sym, ap, ◌∙◌, true, false, List, [], ◌∷◌, ◌++◌, map}
use Rattle.std.proofs.lemmas.List.{map-append}
use Rattle.lua_tree.specs.declared.tree.BinaryOp.{BinaryOp}
use Rattle.core_expr.specs.Held.{stands_bare, chained_before}
use Rattle.core_expr.specs.Writing.{Wording, with_binary, on_left, on_right, unless, chained, chain, view_written}
use Rattle.core_expr.specs.declared.scope.Written.{Written}

chained_by : (w : Wording) (ws : List Wording) (last : Wording) → chained w (ws ++ last ∷ []) ≡ chained_before (w ∷ ws) (on_right BinaryOp.Concat last)
chained_by w [] last = refl
chained_by w (next ∷ ws) last = ap (with_binary BinaryOp.Concat (on_left BinaryOp.Concat w)) (chained_by next ws last)

pub chain_by : (ws : List Wording) (last : Wording) → chain (ws ++ last ∷ []) ≡ chained_before ws (on_right BinaryOp.Concat last)
chain_by [] last = refl
chain_by (w ∷ ws) last = chained_by w ws last

pub chained_turn : (ws : List Wording) (w chain : Wording) → chained_before (ws ++ w ∷ []) chain ≡ chained_before ws (with_binary BinaryOp.Concat (on_left BinaryOp.Concat w) chain)
chained_turn [] w chain = refl
chained_turn (v ∷ ws) w chain = ap (with_binary BinaryOp.Concat (on_left BinaryOp.Concat v)) (chained_turn ws w chain)

-- the last operand is taken from the list
pub first_placed : (rest whole : List Written) (last made : Written) → whole ≡ rest ++ last ∷ [] → view_written made ≡ unless (stands_bare 4 true false (view_written last).words) (view_written last) →
    chained_before (map view_written rest) (view_written made) ≡ chain (map view_written whole)
first_placed rest whole last made is made_is =
    ap (chained_before (map view_written rest)) made_is
    ∙ sym (chain_by (map view_written rest) (view_written last))
    ∙ ap chain (sym (map-append view_written rest (last ∷ [])) ∙ ap (map view_written) (sym is))

-- and then the one before
pub turn_placed : (rest whole : List Written) (next placed before made : Written) → whole ≡ rest ++ next ∷ [] → view_written placed ≡ unless (stands_bare 4 false false (view_written next).words) (view_written next) →
    view_written made ≡ with_binary BinaryOp.Concat (view_written placed) (view_written before) →
    chained_before (map view_written rest) (view_written made) ≡ chained_before (map view_written whole) (view_written before)
turn_placed rest whole next placed before made is placed_is made_is =
    ap (chained_before (map view_written rest)) (made_is ∙ ap (λ w. with_binary BinaryOp.Concat w (view_written before)) placed_is)
    ∙ sym (chained_turn (map view_written rest) (view_written next) (view_written before))
    ∙ ap (λ ws. chained_before ws (view_written before)) (sym (map-append view_written rest (next ∷ [])) ∙ ap (map view_written) (sym is))
