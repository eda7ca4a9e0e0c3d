-- To be believed. What the scopes of a source are (manual 2.6).
use Rattle.std.specs.Prelude.{ℕ, zero, suc, Bool, List, [], ◌∷◌, ◌++◌}
use Rattle.lua_tree.specs.Syntax.{Source}
use Rattle.lua_tree.specs.Outline.{Mark, local_name, opened, outline}
use Rattle.lua_tree.specs.Scoping.{Use, uses_of, is_captured, sources_of}

-- what each name means, whether each declaration is captured, and where each function's upvalues come from
pub record Resolved : Type 0 where
  pub names : List Use
  pub captured : List Bool
  pub upvalues : List (List Use)

abbrev pub declarations_in : List Mark → ℕ
declarations_in [] = 0
declarations_in (local_name line reached ∷ marks) = suc (declarations_in marks)
declarations_in (mark ∷ marks) = declarations_in marks

-- the functions, the main chunk among them
abbrev pub functions_in : List Mark → ℕ
functions_in [] = 1
functions_in (opened outer ∷ marks) = suc (functions_in marks)
functions_in (mark ∷ marks) = functions_in marks

-- of each number below a count, in order
abbrev pub captured_below : ℕ → List Mark → List Bool
captured_below zero marks = []
captured_below (suc n) marks = captured_below n marks ++ is_captured n marks ∷ []

abbrev pub upvalues_below : ℕ → List Mark → List (List Use)
upvalues_below zero marks = []
upvalues_below (suc n) marks = upvalues_below n marks ++ sources_of n marks ∷ []

abbrev pub resolved_by : List Mark → Resolved
resolved_by marks = record {
  names = uses_of marks;
  captured = captured_below (declarations_in marks) marks;
  upvalues = upvalues_below (functions_in marks) marks;
}

abbrev pub resolved : Source → Resolved
resolved source = resolved_by (outline source)
