-- To be believed. Scoping: what each name means, what is captured, the upvalues of each function, and the first place
-- where a source breaks a rule (manual 2.6, 2.4.4 and 2.5.9; at most 200 active locals and 60 upvalues a function).
use Rattle.std.specs.Prelude.{◌≡◌, ◌==◌, ◌&&◌, ◌||◌, ℕ, zero, suc, nat_lt, Bool, false, not, List, [], ◌∷◌, ◌++◌, length, map, get_or, Option, Some, None, if◌then◌else◌}
use Rattle.std.specs.List.{list_any}
use Rattle.std.specs.Option.{option_or}
use Rattle.lua_tree.specs.Syntax.{Source}
use Rattle.lua_tree.specs.Outline.{Binding, Mark, mention, local_name, hidden_local, dots, leave, opened, innermost, outline}

-- the functions around a place that stand inside this one, the innermost first
abbrev pub inside_of : ℕ → List ℕ → List ℕ
inside_of home [] = []
inside_of home (function ∷ around) = if function == home then [] else function ∷ inside_of home around

abbrev pub is_one_of : ℕ → List ℕ → Bool
is_one_of n numbers = list_any (λ m. n == m) numbers

abbrev pub is_known : ℕ → List Binding → Bool
is_known declaration known = list_any (λ binding. declaration == binding.declaration) known

-- a mention in a function, or in one inside it, of what is declared outside it makes an upvalue of it, if none is known yet
abbrev pub with_mention : (function : ℕ) → Binding → (around : List ℕ) → List Binding → List Binding
with_mention function binding around known =
    if is_one_of function (inside_of binding.home around) && not (is_known binding.declaration known) then known ++ binding ∷ [] else known

abbrev pub upvalues_behind : (function : ℕ) → List Binding → List Mark → List Binding
upvalues_behind f known [] = known
upvalues_behind f known (mention line name (Some binding) around ∷ marks) = upvalues_behind f (with_mention f binding around known) marks
upvalues_behind f known (mark ∷ marks) = upvalues_behind f known marks

-- the upvalues of a function, in order of first mention
abbrev pub upvalues_of : (function : ℕ) → List Mark → List Binding
upvalues_of f marks = upvalues_behind f [] marks

abbrev pub slot_of : ℕ → List Binding → ℕ
slot_of declaration [] = 0
slot_of declaration (binding ∷ others) = if declaration == binding.declaration then 0 else suc (slot_of declaration others)

-- what is meant in a function: a local of it, an upvalue of it, or a global
pub data Use : Type 0 where
  local_use : (declaration : ℕ) → Use
  upvalue_use : (slot : ℕ) → Use
  global_use : Use

abbrev pub use_in : (function : ℕ) → List Mark → Option Binding → Use
use_in f marks None = global_use
use_in f marks (Some binding) = if binding.home == f then local_use binding.declaration else upvalue_use (slot_of binding.declaration (upvalues_of f marks))

-- what each name means, in the order of the spelling
abbrev pub uses_among : (all : List Mark) → List Mark → List Use
uses_among all [] = []
uses_among all (mention line name means around ∷ marks) = use_in (innermost around) all means ∷ uses_among all marks
uses_among all (mark ∷ marks) = uses_among all marks

abbrev pub uses_of : List Mark → List Use
uses_of marks = uses_among marks marks

-- a declaration is captured where a function inside that of the declaration mentions it
abbrev pub is_captured : (declaration : ℕ) → List Mark → Bool
is_captured declaration [] = false
is_captured declaration (mention line name (Some binding) around ∷ marks) =
    ((binding.declaration == declaration) && not (binding.home == innermost around)) || is_captured declaration marks
is_captured declaration (mark ∷ marks) = is_captured declaration marks

-- the function around each function but the main chunk, in the order of the spelling
abbrev pub outer_functions : List Mark → List ℕ
outer_functions [] = []
outer_functions (opened outer ∷ marks) = outer ∷ outer_functions marks
outer_functions (mark ∷ marks) = outer_functions marks

-- the function around one
abbrev pub outer_of : (function : ℕ) → List Mark → ℕ
outer_of zero marks = 0
outer_of (suc f) marks = get_or (outer_functions marks) f 0

abbrev pub uses_by : (function : ℕ) → List Mark → List Binding → List Use
uses_by f marks bindings = map (λ binding. use_in f marks (Some binding)) bindings

-- where the upvalues of a function come from: what they are in the function around it
abbrev pub sources_of : (function : ℕ) → List Mark → List Use
sources_of f marks = uses_by (outer_of f marks) marks (upvalues_of f marks)

-- how a rule is broken
pub data Breach : Type 0 where
  no_loop no_vararg : (line : ℕ) → Breach
  too_many_locals too_many_upvalues : (line reached : ℕ) → Breach

abbrev pub above : (most reached : ℕ) → Breach → Option Breach
above most reached breach = if nat_lt most reached then Some breach else None

-- the upvalues of some functions, with a mention behind these marks
abbrev pub upvalue_breach : (line : ℕ) → List Mark → List ℕ → Option Breach
upvalue_breach line marks [] = None
upvalue_breach line marks (f ∷ functions) =
    let reached = length (upvalues_of f marks) in
    option_or (above 60 reached (too_many_upvalues line reached)) (upvalue_breach line marks functions)

-- whether a mark behind others breaks a rule
abbrev pub breach_at : List Mark → Mark → Option Breach
breach_at before (leave line false) = Some (no_loop line)
breach_at before (dots line false) = Some (no_vararg line)
breach_at before (local_name line reached) = above 200 reached (too_many_locals line reached)
breach_at before (hidden_local line reached) = above 200 reached (too_many_locals line reached)
breach_at before (mention line name (Some binding) around) = upvalue_breach line (before ++ mention line name (Some binding) around ∷ []) (inside_of binding.home around)
breach_at before mark = None

-- the first break of a rule, in the order of the spelling
abbrev pub first_breach : (before marks : List Mark) → Option Breach
first_breach before [] = None
first_breach before (mark ∷ marks) = option_or (breach_at before mark) (first_breach (before ++ mark ∷ []) marks)

abbrev pub breach_of : Source → Option Breach
breach_of source = first_breach [] (outline source)

-- a source that keeps the rules
abbrev pub Scoped : Source → Type 0
Scoped source = breach_of source ≡ None
