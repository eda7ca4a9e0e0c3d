-- The answers as the program has them, one by one.
use Rattle.std.proofs.Common.{◌≡◌, ℕ, zero, suc, ◌<◌, List, [], ◌∷◌, length, get_or, refl, ap, arith}
use Rattle.lua_tree.specs.Scoping.{Use}
use Rattle.scopes.specs.Uses.{use_of, source_uses, uses_of_names, uses_of_functions}
use Rattle.scopes.specs.declared.uses.NameUse.{NameUse}
use Rattle.scopes.specs.declared.uses.Captures.{Captures}

pub names_length : (names : List NameUse) → length (uses_of_names names) ≡ length names
names_length [] = refl
names_length (name ∷ names) = ap suc (names_length names)

pub name_at : (names : List NameUse) (i : ℕ) (name : NameUse) (other : Use) → i < length names → name ≡ get_or names i name → use_of name ≡ get_or (uses_of_names names) i other
name_at [] i name other below is = absurd (omega arith)
name_at (first ∷ names) zero name other below is = ap use_of is
name_at (first ∷ names) (suc i) name other below is = name_at names i name other (omega arith) is

pub functions_length : (functions : List Captures) → length (uses_of_functions functions) ≡ length functions
functions_length [] = refl
functions_length (captures ∷ functions) = ap suc (functions_length functions)

pub sources_at : (functions : List Captures) (i : ℕ) (captures : Captures) → i < length functions → captures ≡ get_or functions i captures → source_uses captures.sources.items ≡ get_or (uses_of_functions functions) i []
sources_at [] i captures below is = absurd (omega arith)
sources_at (first ∷ functions) zero captures below is = ap (λ (x : Captures). source_uses x.sources.items) is
sources_at (first ∷ functions) (suc i) captures below is = sources_at functions i captures (omega arith) is
