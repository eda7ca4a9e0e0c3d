-- A frame put on top: the stack as contracts see it, and that it shares its cells as before.
use Rattle.std.proofs.Common.{◌≡◌, ℕ, List, [], ◌∷◌, ◌++◌, length, take, replicate, reverse, refl, ap, ◌∙◌, arith}
use Rattle.std.proofs.lemmas.List.{length-append, reverse-append, take_at, drop_at}
use Rattle.std.proofs.lemmas.List.Elements.{All-append, All-replicate}
use Rattle.lua_model.specs.declared.Value.{Value}
use Rattle.lua_model.specs.declared.Value.TheVariants.{Nil}
use Rattle.lua_heap.specs.State.{IsOf}
use Rattle.upvalue.specs.declared.shared.OpenCell.{OpenCell}
use Rattle.upvalue.specs.State.{StackState, in_a_row}
use Rattle.upvalue.specs.Shared.{KeepsShares}
use Rattle.upvalue.specs.Inside.{cut}
use Rattle.upvalue.proofs.Rows.{stack_of, stands_there}
use Rattle.upvalue.proofs.Cells.{cells_under}

pub pushed_keeps : (self : StackState) (registers : ℕ) → KeepsShares self (record self { frames = replicate registers Nil ∷ self.frames })
pushed_keeps self registers h shares = (
  record {
    known = All-append (IsOf h) (in_a_row self.frames) (replicate registers Nil) shares.known (All-replicate (IsOf h) registers Nil tt);
    stands = shares.stands;
    there = λ i o e. let low = shares.there i o e in omega (arith, low, length-append (in_a_row self.frames) (replicate registers Nil));
    all = shares.all;
    in_order = shares.in_order;
  },
  cells_under (replicate registers Nil) self.frames h (stands_there self h shares),
)

-- the fields, before and then
module _ (bases bases' : List ℕ) (values values' : List Value) (shared shared' : List OpenCell) (self : StackState) (is : stack_of bases values shared ≡ self) where
  pub pushed_is : (registers : List Value) → bases' ≡ bases ++ length values ∷ [] → values' ≡ values ++ registers → shared' ≡ shared → stack_of bases' values' shared' ≡ record self { frames = registers ∷ self.frames }
  pushed_is registers on_bases on_values on_shared =
      let base = length values in
      let of_parts : List (List Value) → List OpenCell → StackState = λ frames shared. record { frames = frames; shared = shared } in
      ap (λ bs. stack_of bs values' shared') on_bases
      ∙ ap (λ vs. stack_of (bases ++ base ∷ []) vs shared') on_values
      ∙ ap (of_parts (cut (reverse (bases ++ base ∷ [])) (values ++ registers))) on_shared
      ∙ ap (λ bs. of_parts (cut bs (values ++ registers)) shared) (reverse-append bases (base ∷ []))
      ∙ ap (λ vs. of_parts (vs ∷ cut (reverse bases) (take base (values ++ registers))) shared) (drop_at values registers base refl)
      ∙ ap (λ vs. of_parts (registers ∷ cut (reverse bases) vs) shared) (take_at values registers base refl)
      ∙ ap (λ (u : StackState). record u { frames = registers ∷ u.frames }) is
