-- What a word leaves in the stack when it worked on the registers of the topmost frame that were lent.
use Rattle.std.proofs.Common.{◌≡◌, ◌∙◌, ◌-◌, ◌++◌, ℕ, List, [], ◌∷◌, length, take, drop, refl, ap, sym, subst}
use Rattle.lua_model.specs.declared.Value.{Value}
use Rattle.lua_heap.specs.State.{HeapState}
use Rattle.rules.specs.State.{State, Effect}
use Rattle.upvalue.specs.State.{StackState, top, below, with_top, in_a_row, size, with_row, fitted}
use Rattle.upvalue.specs.Shared.{Shares}
use Rattle.machine.specs.declared.function.Function.{Function}
use Rattle.machine.specs.declared.did.Did.{Did}
use Rattle.machine.specs.Words.{Does}
use Rattle.machine.proofs.LentRegisters.{part_is, row_is, left_frames, top-with_top, left_shares}

-- the stack when these were left in the registers behind the base, of a row that was lent
abbrev pub left_in : StackState → ℕ → List Value → List Value → StackState
left_in stack base row now = record stack { frames = with_row stack.frames (fitted stack.frames (take base row ++ (now ++ drop (length row - base) (drop base row)))) }

module _ (stack : StackState) (old new : HeapState) (f : Function) (effect : State → Effect) (base : ℕ) (row now : List Value) (pc : ℕ) (did : Did) (b : base ≡ size (below stack.frames)) (r : row ≡ in_a_row stack.frames) (does : Does effect old new f (take (length row - base) (drop base row)) now pc did) where
  abbrev left : StackState
  left = left_in stack base row now

  part : take (length row - base) (drop base row) ≡ top stack.frames
  part = part_is stack.frames base row b r

  long : length now ≡ length (top stack.frames)
  long = does.length_is ∙ ap length part

  left_is : left.frames ≡ with_top stack.frames now
  left_is = ap (λ vs. with_row stack.frames (fitted stack.frames vs)) (row_is stack.frames base row now b r) ∙ left_frames stack.frames now long

  top_is : top left.frames ≡ now
  top_is = ap top left_is ∙ top-with_top stack.frames now long

  pub does_top : Does effect old new f (top stack.frames) (top (left_in stack base row now).frames) pc did
  does_top =
      let P : List Value → Type 0 = λ vs. Does effect old new f vs (top left.frames) pc did in
      let Q : List Value → Type 0 = λ vs. Does effect old new f (take (length row - base) (drop base row)) vs pc did in
      subst P part (subst Q (sym top_is) does)

  pub top_alone : (left_in stack base row now).frames ≡ with_top stack.frames (top (left_in stack base row now).frames)
  top_alone = left_is ∙ ap (with_top stack.frames) (sym top_is)

  pub still_shares : Shares stack old → Shares (left_in stack base row now) new
  still_shares shares =
      let same : new.cells ≡ old.cells = ap (λ (h : HeapState). h.cells) does.only_store in
      subst (λ (vs : List Value). Shares (record stack { frames = with_row stack.frames (fitted stack.frames vs) }) new) (sym (row_is stack.frames base row now b r)) (left_shares stack old new now does.keeps same long does.registers shares)

-- where a word changed no register the stack is as it was
same_top : (frames : List (List Value)) → with_top frames (top frames) ≡ frames
same_top [] = refl
same_top (x ∷ rest) = refl

pub left_alone : (stack : StackState) (base : ℕ) (row now : List Value) → base ≡ size (below stack.frames) → row ≡ in_a_row stack.frames → now ≡ take (length row - base) (drop base row) → left_in stack base row now ≡ stack
left_alone stack base row now b r same =
    let is_top : now ≡ top stack.frames = same ∙ part_is stack.frames base row b r in
    let frames : with_row stack.frames (fitted stack.frames (take base row ++ (now ++ drop (length row - base) (drop base row)))) ≡ stack.frames =
    ap (λ vs. with_row stack.frames (fitted stack.frames vs)) (row_is stack.frames base row now b r)
    ∙ left_frames stack.frames now (ap length is_top)
    ∙ ap (with_top stack.frames) is_top
    ∙ same_top stack.frames in
    ap (λ fs. record stack { frames = fs }) frames
