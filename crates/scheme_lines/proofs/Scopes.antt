-- What marks say of scopes does not depend on their lines, and a break of a rule only tells them.
use Rattle.std.proofs.Common.{◌≡◌, ℕ, zero, suc, Bool, true, false, not, List, [], ◌∷◌, ◌++◌, length, map, get_or, refl, sym, ap, ap₂, ◌∙◌}
use Rattle.std.specs.Prelude.{Option, Some, None, nat_lt, ◌==◌, ◌&&◌, ◌||◌, if◌then◌else◌}
use Rattle.std.specs.Option.{option_or, option_map}
use Rattle.std.proofs.lemmas.List.{map-append}
use Rattle.lua_tree.specs.Syntax.{Source}
use Rattle.lua_tree.specs.Outline.{Binding, Mark, mention, local_name, hidden_local, dots, leave, opened, innermost, outline}
use Rattle.lua_tree.specs.Resolved.{declarations_in, functions_in, captured_below, upvalues_below, resolved_by, resolved}
use Rattle.lua_tree.specs.Scoping.{inside_of, with_mention, upvalues_behind, upvalues_of, slot_of, Use, local_use, upvalue_use, use_in, uses_among, uses_of, is_captured, outer_functions, outer_of, uses_by, sources_of, Breach, no_loop, no_vararg, too_many_locals, too_many_upvalues, above, upvalue_breach, breach_at, first_breach, breach_of, Scoped}
use Rattle.scheme_lines.specs.Bare.{bare}
use Rattle.scheme_lines.proofs.Marks.{one_line_mark, outline_same}

abbrev flat : List Mark → List Mark
flat marks = map one_line_mark marks

-- ---- what names mean

behind_same : (f : ℕ) (known : List Binding) (marks : List Mark) → upvalues_behind f known marks ≡ upvalues_behind f known (flat marks)
behind_same f known [] = refl
behind_same f known (mention line name (Some binding) around ∷ marks) = behind_same f (with_mention f binding around known) marks
behind_same f known (mark ∷ marks) = behind_same f known marks

use_same : (f : ℕ) (marks : List Mark) (means : Option Binding) → use_in f marks means ≡ use_in f (flat marks) means
use_same f marks None = refl
use_same f marks (Some binding) = ap (λ known. if binding.home == f then local_use binding.declaration else upvalue_use (slot_of binding.declaration known)) (behind_same f [] marks)

among_same : (all marks : List Mark) → uses_among all marks ≡ uses_among (flat all) (flat marks)
among_same all [] = refl
among_same all (mention line name means around ∷ marks) = ap₂ (λ use' uses. use' ∷ uses) (use_same (innermost around) all means) (among_same all marks)
among_same all (mark ∷ marks) = among_same all marks

pub captured_same : (declaration : ℕ) (marks : List Mark) → is_captured declaration marks ≡ is_captured declaration (flat marks)
captured_same d [] = refl
captured_same d (mention line name (Some binding) around ∷ marks) = ap (λ rest. ((binding.declaration == d) && not (binding.home == innermost around)) || rest) (captured_same d marks)
captured_same d (mark ∷ marks) = captured_same d marks

functions_same : (marks : List Mark) → outer_functions marks ≡ outer_functions (flat marks)
functions_same [] = refl
functions_same (opened outer ∷ marks) = ap (λ rest. outer ∷ rest) (functions_same marks)
functions_same (mark ∷ marks) = functions_same marks

outer_same : (f : ℕ) (marks : List Mark) → outer_of f marks ≡ outer_of f (flat marks)
outer_same zero marks = refl
outer_same (suc f) marks = ap (λ outers. get_or outers f 0) (functions_same marks)

by_same : (f : ℕ) (marks : List Mark) (bindings : List Binding) → uses_by f marks bindings ≡ uses_by f (flat marks) bindings
by_same f marks [] = refl
by_same f marks (binding ∷ bindings) = ap₂ (λ use' uses. use' ∷ uses) (use_same f marks (Some binding)) (by_same f marks bindings)

sources_same : (f : ℕ) (marks : List Mark) → sources_of f marks ≡ sources_of f (flat marks)
sources_same f marks =
    ap₂ (λ outer known. uses_by outer marks known) (outer_same f marks) (behind_same f [] marks) ∙ by_same (outer_of f (flat marks)) marks (upvalues_of f (flat marks))

-- ---- all scopes

declarations_same : (marks : List Mark) → declarations_in marks ≡ declarations_in (flat marks)
declarations_same [] = refl
declarations_same (local_name line reached ∷ marks) = ap suc (declarations_same marks)
declarations_same (mark ∷ marks) = declarations_same marks

count_same : (marks : List Mark) → functions_in marks ≡ functions_in (flat marks)
count_same [] = refl
count_same (opened outer ∷ marks) = ap suc (count_same marks)
count_same (mark ∷ marks) = count_same marks

captured_below_same : (n : ℕ) (marks : List Mark) → captured_below n marks ≡ captured_below n (flat marks)
captured_below_same zero marks = refl
captured_below_same (suc n) marks = ap₂ (λ l b. l ++ b ∷ []) (captured_below_same n marks) (captured_same n marks)

upvalues_below_same : (n : ℕ) (marks : List Mark) → upvalues_below n marks ≡ upvalues_below n (flat marks)
upvalues_below_same zero marks = refl
upvalues_below_same (suc n) marks = ap₂ (λ l uses. l ++ uses ∷ []) (upvalues_below_same n marks) (sources_same n marks)

resolved_by_same : (marks : List Mark) → resolved_by marks ≡ resolved_by (flat marks)
resolved_by_same marks =
    let captured = ap (λ n. captured_below n marks) (declarations_same marks) ∙ captured_below_same (declarations_in (flat marks)) marks in
    let upvalues = ap (λ n. upvalues_below n marks) (count_same marks) ∙ upvalues_below_same (functions_in (flat marks)) marks in
    ap (λ (l : List Use). record { names = l; captured = captured_below (declarations_in marks) marks; upvalues = upvalues_below (functions_in marks) marks }) (among_same marks marks)
    ∙ ap₂ (λ (l : List Bool) (k : List (List Use)). record { names = uses_of (flat marks); captured = l; upvalues = k }) captured upvalues

pub resolved_same : (source : Source) → resolved source ≡ resolved (bare source)
resolved_same source = resolved_by_same (outline source) ∙ ap resolved_by (outline_same source)

-- ---- rules that are broken

abbrev one_line_breach : Breach → Breach
one_line_breach (no_loop line) = no_loop 1
one_line_breach (no_vararg line) = no_vararg 1
one_line_breach (too_many_locals line reached) = too_many_locals 1 reached
one_line_breach (too_many_upvalues line reached) = too_many_upvalues 1 reached

abbrev told : Option Breach → Option Breach
told o = option_map one_line_breach o

or_same : (o p : Option Breach) → told (option_or o p) ≡ option_or (told o) (told p)
or_same None p = refl
or_same (Some breach) p = refl

above_same : (most reached : ℕ) (breach : Breach) → told (above most reached breach) ≡ above most reached (one_line_breach breach)
above_same most reached breach = by (nat_lt most reached)
  where
    by : (b : Bool) → told (if b then Some breach else None) ≡ (if b then Some (one_line_breach breach) else None)
    by true = refl
    by false = refl

upvalue_same : (line : ℕ) (marks : List Mark) (functions : List ℕ) → told (upvalue_breach line marks functions) ≡ upvalue_breach 1 (flat marks) functions
upvalue_same line marks [] = refl
upvalue_same line marks (f ∷ functions) =
    let reached = length (upvalues_of f marks) in
    or_same (above 60 reached (too_many_upvalues line reached)) (upvalue_breach line marks functions)
    ∙ ap₂ option_or
    (above_same 60 reached (too_many_upvalues line reached) ∙ ap (λ (known : List Binding). above 60 (length known) (too_many_upvalues 1 (length known))) (behind_same f [] marks))
    (upvalue_same line marks functions)

at_same : (before : List Mark) (mark : Mark) → told (breach_at before mark) ≡ breach_at (flat before) (one_line_mark mark)
at_same before (mention line name (Some binding) around) =
    let this = mention line name (Some binding) around in
    upvalue_same line (before ++ this ∷ []) (inside_of binding.home around) ∙ ap (λ marks. upvalue_breach 1 marks (inside_of binding.home around)) (map-append one_line_mark before (this ∷ []))
at_same before (local_name line reached) = above_same 200 reached (too_many_locals line reached)
at_same before (hidden_local line reached) = above_same 200 reached (too_many_locals line reached)
at_same before (dots line true) = refl
at_same before (leave line true) = refl
at_same before mark = refl

first_same : (before marks : List Mark) → told (first_breach before marks) ≡ first_breach (flat before) (flat marks)
first_same before [] = refl
first_same before (mark ∷ marks) =
    or_same (breach_at before mark) (first_breach (before ++ mark ∷ []) marks)
    ∙ ap₂ option_or (at_same before mark)
    (first_same (before ++ mark ∷ []) marks ∙ ap (λ past. first_breach past (flat marks)) (map-append one_line_mark before (mark ∷ [])))

breach_same : (source : Source) → told (breach_of source) ≡ breach_of (bare source)
breach_same source = first_same [] (outline source) ∙ ap (first_breach []) (outline_same source)

pub scoped_to_bare : (source : Source) → Scoped source → Scoped (bare source)
scoped_to_bare source scoped = sym (breach_same source) ∙ ap told scoped

pub scoped_from_bare : (source : Source) → Scoped (bare source) → Scoped source
scoped_from_bare source scoped = by (breach_of source) (breach_same source ∙ scoped)
  where
    by : (o : Option Breach) → told o ≡ None → o ≡ None
    by None e = refl
    by (Some breach) e = cc
