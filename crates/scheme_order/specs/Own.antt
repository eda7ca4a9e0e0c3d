-- Serves the law. Mentions of the locals of the innermost function, which say nothing of scopes but what the name itself means, and names that mean such locals.
use Rattle.std.specs.Prelude.{◌≡◌, ◌==◌, ℕ, true, List, [], ◌∷◌, Option, Some, if◌then◌else◌}
use Rattle.lua_num.specs.Bytes.{Text}
use Rattle.lua_tree.specs.Outline.{Binding, Mark, mention, Place, innermost}
use Rattle.lua_tree.specs.Scoping.{use_in}
use Rattle.scheme_order.specs.Turned.{is_among}

-- marks but for the mentions of locals of the innermost function
abbrev pub but_own : List Mark → List Mark
but_own [] = []
but_own (mention line name (Some binding) around ∷ marks) =
    if binding.home == innermost around then but_own marks else mention line name (Some binding) around ∷ but_own marks
but_own (mark ∷ marks) = mark ∷ but_own marks

-- what is meant is a declaration of this function
abbrev pub IsLocalOf : (home : ℕ) → Option Binding → Type 0
IsLocalOf home means = (binding : Binding) × (means ≡ Some binding) × (binding.home ≡ home)

-- each of these names means a local of the innermost function around the place
abbrev pub IsOwn : List Text → Place → Type 0
IsOwn own place = (name : Text) → is_among name own ≡ true → IsLocalOf (innermost place.around) (place.scope name)

-- what is meant in a function is the same among both
abbrev pub SameUse : (all other : List Mark) → Type 0
SameUse all other = (f : ℕ) (means : Option Binding) → use_in f all means ≡ use_in f other means
