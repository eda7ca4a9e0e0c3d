-- The mentions of globals that are owed are those of the definition, by what the names of the source mean.
use Rattle.std.proofs.Common.{◌≡◌, ℕ, ◌+◌, Bool, true, false, not, List, [], ◌∷◌, map, refl, ap, ◌∙◌, sym, arith}
use Rattle.std.specs.Prelude.{Option, Some, None, is_some, ◌&&◌, ◌==◌, if◌then◌else◌}
use Rattle.std.specs.Str.{bytes_eq}
use Rattle.lua_num.specs.Bytes.{Text}
use Rattle.lua_tree.specs.Outline.{Binding, Mark, mention, local_name, hidden_local, dots, leave, opened, innermost}
use Rattle.lua_tree.specs.Scoping.{Use, local_use, upvalue_use, global_use, use_in, uses_among, slot_of, upvalues_of}
use Rattle.source_globals.specs.Named.{Role, is_role, is_so, named_so, mentions_among}
use Rattle.source_globals.proofs.Owed.{Mention, is_global, is_mine, one_if, owed}
use Rattle.source_globals.proofs.Mentions.{role_of, name_of, named_by}

-- what means nothing is a global, and nothing else is
bound : (b : Bool) (declaration slot : ℕ) → is_global (if b then local_use declaration else upvalue_use slot) ≡ false
bound true declaration slot = refl
bound false declaration slot = refl

global_is : (f : ℕ) (all : List Mark) (means : Option Binding) → is_global (use_in f all means) ≡ not (is_some means)
global_is f all None = refl
global_is f all (Some binding) = bound (binding.home == f) binding.declaration (slot_of binding.declaration (upvalues_of f all))

pub counted : (role : Role) (name : Text) (all marks : List Mark) (ms : List Mention) → map named_by (mentions_among marks) ≡ map name_of ms →
    named_so role name (map role_of ms) (mentions_among marks) ≡ owed role name ms (uses_among all marks)
counted role name all [] [] e = refl
counted role name all [] (m ∷ ms) e = cc
counted role name all (mention line text means around ∷ marks) [] e = cc
counted role name all (mention line text means around ∷ marks) (m ∷ ms) e =
    let same : text ≡ m.1 = cc in
    let others : map named_by (mentions_among marks) ≡ map name_of ms = cc in
    let h = counted role name all marks ms others in
    let one : one_if (is_role role m.0 && (bytes_eq name text && not (is_some means))) ≡ one_if (is_role role m.0 && (bytes_eq name m.1 && is_global (use_in (innermost around) all means))) =
    ap (λ t. one_if (is_role role m.0 && (bytes_eq name t && not (is_some means)))) same ∙ ap (λ b. one_if (is_role role m.0 && (bytes_eq name m.1 && b))) (sym (global_is (innermost around) all means)) in
    omega (arith, h, one)
counted role name all (local_name line reached ∷ marks) ms e = counted role name all marks ms e
counted role name all (hidden_local line reached ∷ marks) ms e = counted role name all marks ms e
counted role name all (dots line vararg ∷ marks) ms e = counted role name all marks ms e
counted role name all (leave line looped ∷ marks) ms e = counted role name all marks ms e
counted role name all (opened outer ∷ marks) ms e = counted role name all marks ms e
