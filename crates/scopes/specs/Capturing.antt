-- Serves the bodies. What a mention of a declaration makes of the upvalues of the functions around it.
use Rattle.std.specs.Prelude.{◌≡◌, ◌⊎◌, ℕ, suc, ◌+◌, ◌<◌, ◌≤◌, ◌==◌, true, Bool, List, [], ◌∷◌, ◌++◌, length, get_or, Option, Some, None, reverse, if◌then◌else◌}
use Rattle.std.proofs.Math.ListN.{set}
use Rattle.scopes.specs.declared.fault.ScopeFault.{ScopeFault}
use Rattle.scopes.specs.declared.resolver.Resolver.{Resolver}
use Rattle.scopes.specs.declared.uses.Binding.{Binding as Bound}
use Rattle.scopes.specs.declared.uses.Captures.{Captures}
use Rattle.scopes.specs.declared.uses.NameUse.{NameUse}
use Rattle.scopes.specs.declared.uses.Source.{Source}

-- the slot of a declaration among others, the first of which has a number
abbrev pub slot_from : (declaration slot : ℕ) → List ℕ → Option ℕ
slot_from declaration slot [] = None
slot_from declaration slot (other ∷ others) = if declaration == other then Some slot else slot_from declaration (suc slot) others

-- a function has an upvalue already, or gets it from a source
abbrev pub IsKnown : (declaration : ℕ) → (before after : Captures) → (slot : ℕ) → Type 0
IsKnown declaration before after slot = (slot_from declaration 0 before.declarations.items ≡ Some slot) × (after ≡ before)

abbrev pub IsAdded : (declaration : ℕ) → Source → (before after : Captures) → (slot : ℕ) → Type 0
IsAdded declaration source before after slot =
    (slot_from declaration 0 before.declarations.items ≡ None)
    × (length before.declarations.items < 60)
    × (after.declarations.items ≡ before.declarations.items ++ declaration ∷ [])
    × (after.sources.items ≡ before.sources.items ++ source ∷ [])
    × (slot ≡ length before.declarations.items)

pub record Captured (declaration : ℕ) (source : Source) (function : ℕ) (old new : List Captures) (slot : ℕ) : Type 0 where
  pub before : Captures
  pub after : Captures
  pub stands : before ≡ get_or old function before
  pub put : new ≡ set old function after
  pub how : IsKnown declaration before after slot ⊎ IsAdded declaration source before after slot

-- a function has no room for one upvalue more
pub record Full (declaration function : ℕ) (functions : List Captures) (line : ℕ) (fault : ScopeFault) : Type 0 where
  pub before : Captures
  pub stands : before ≡ get_or functions function before
  pub unknown : slot_from declaration 0 before.declarations.items ≡ None
  pub full : 60 ≤ length before.declarations.items
  pub told : fault ≡ ScopeFault.TooManyUpvalues line (length before.declarations.items + 1)

-- each function inside that of the declaration gets it from the one around it, from the outermost on
abbrev pub Passes : Bound → (function : ℕ) → (old new : List Captures) → (from source : Source) → Type 0
Passes binding function old new from source =
    ((function ≤ binding.home) × (new ≡ old) × (source ≡ from))
    ⊎ ((binding.home < function) × ((slot : ℕ) × Captured binding.declaration from function old new slot × (source ≡ Source.Upvalue slot)))

abbrev pub Reached : Bound → (around : List ℕ) → (old new : List Captures) → Source → Type 0
Reached binding [] old new source = (new ≡ old) × (source ≡ Source.Local binding.declaration)
Reached binding (function ∷ around) old new source =
    (between : List Captures) × (from : Source) × Reached binding around old between from × Passes binding function between new from source

abbrev pub Stuck : Bound → (line : ℕ) → (around : List ℕ) → List Captures → ScopeFault → Type 0
Stuck binding line [] functions fault = ⊥
Stuck binding line (function ∷ around) functions fault =
    Stuck binding line around functions fault
    ⊎ ((between : List Captures) × (from : Source) × Reached binding around functions between from × (binding.home < function) × Full binding.declaration function between line fault)

-- all but the functions stays
pub record OnlyFunctions (old new : Resolver) : Type 0 where
  pub locals : new.locals ≡ old.locals
  pub stack : new.stack ≡ old.stack
  pub here : new.here ≡ old.here
  pub names : new.names ≡ old.names
  pub captured : new.captured ≡ old.captured

-- what a declaration is in the innermost function, and whether it is captured
abbrev pub name_use : Source → NameUse
name_use (Source.Local declaration) = NameUse.Local declaration
name_use (Source.Upvalue slot) = NameUse.Upvalue slot

abbrev pub captured_by : Source → (declaration : ℕ) → List Bool → List Bool
captured_by (Source.Local number) declaration captured = captured
captured_by (Source.Upvalue slot) declaration captured = set captured declaration true

pub record Used (binding : Bound) (old new : Resolver) (meant : NameUse) : Type 0 where
  pub source : Source
  pub reached : Reached binding (reverse old.stack.items) old.functions.items new.functions.items source
  pub is : meant ≡ name_use source
  pub captured : new.captured.items ≡ captured_by source binding.declaration old.captured.items
  pub locals : new.locals ≡ old.locals
  pub stack : new.stack ≡ old.stack
  pub here : new.here ≡ old.here
  pub names : new.names ≡ old.names
