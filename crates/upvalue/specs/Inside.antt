-- Serves the value stack: its fields, and the frames that they are.
use Rattle.std.specs.Prelude.{◌≡◌, ℕ, ◌≤◌, List, [], ◌∷◌, length, take, drop, reverse}
use Rattle.lua_model.specs.declared.Value.{Value}
use Rattle.upvalue.specs.declared.stack.ValueStack.TheInside.{Inside}
use Rattle.upvalue.specs.State.{StackState}

-- the frames that begin at these places, all from the topmost one down
abbrev pub cut : List ℕ → List Value → List (List Value)
cut [] values = []
cut (base ∷ bases) values = drop base values ∷ cut bases (take base values)

-- each frame begins where the one below it ends, the main frame at 0
abbrev pub AreLaid : List ℕ → ℕ → Type 0
AreLaid [] end = end ≡ 0
AreLaid (base ∷ bases) end = (base ≤ end) × AreLaid bases base

abbrev pub first_base : List ℕ → ℕ
first_base [] = 0
first_base (base ∷ bases) = base

abbrev pub view_of : Inside → StackState
view_of s = record { frames = cut (reverse s.bases.items) s.values.items; shared = s.shared.items }

pub record IsLaid (s : Inside) : Type 0 where
  pub laid : AreLaid (reverse s.bases.items) (length s.values.items)
  pub base : s.base ≡ first_base (reverse s.bases.items)
