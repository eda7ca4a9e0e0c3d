-- Breaks that stand in a loop say nothing of what names mean, and break no rule.
use Rattle.std.proofs.Common.{◌≡◌, ℕ, zero, suc, Bool, true, not, List, [], ◌∷◌, ◌++◌, length, get_or, refl, sym, ap, ap₂, ◌∙◌}
use Rattle.std.specs.Prelude.{Option, Some, None, ◌==◌, ◌&&◌, ◌||◌, if◌then◌else◌}
use Rattle.std.specs.Option.{option_or}
use Rattle.std.proofs.lemmas.List.{append-nil}
use Rattle.lua_tree.specs.Outline.{Binding, Mark, mention, local_name, dots, leave, opened, innermost}
use Rattle.lua_tree.specs.Resolved.{declarations_in, functions_in, captured_below, upvalues_below, resolved_by}
use Rattle.lua_tree.specs.Scoping.{inside_of, with_mention, upvalues_behind, upvalues_of, slot_of, Use, local_use, upvalue_use, use_in, uses_among, uses_of, is_captured, outer_functions, outer_of, uses_by, sources_of, too_many_upvalues, above, upvalue_breach, breach_at, first_breach}
use Rattle.same_flow.specs.SameMarks.{but_breaks, BreaksSayNothing}

-- ---- what names mean

behind_same : (f : ℕ) (known : List Binding) (marks : List Mark) → upvalues_behind f known (but_breaks marks) ≡ upvalues_behind f known marks
behind_same f known [] = refl
behind_same f known (mention line name (Some binding) around ∷ marks) = behind_same f (with_mention f binding around known) marks
behind_same f known (leave line true ∷ marks) = behind_same f known marks
behind_same f known (mark ∷ marks) = behind_same f known marks

use_same : (f : ℕ) (marks : List Mark) (means : Option Binding) → use_in f (but_breaks marks) means ≡ use_in f marks means
use_same f marks None = refl
use_same f marks (Some binding) = ap (λ known. if binding.home == f then local_use binding.declaration else upvalue_use (slot_of binding.declaration known)) (behind_same f [] marks)

among_same : (all marks : List Mark) → uses_among (but_breaks all) (but_breaks marks) ≡ uses_among all marks
among_same all [] = refl
among_same all (mention line name means around ∷ marks) = ap₂ (λ use' uses. use' ∷ uses) (use_same (innermost around) all means) (among_same all marks)
among_same all (leave line true ∷ marks) = among_same all marks
among_same all (mark ∷ marks) = among_same all marks

captured_same : (declaration : ℕ) (marks : List Mark) → is_captured declaration (but_breaks marks) ≡ is_captured declaration marks
captured_same d [] = refl
captured_same d (mention line name (Some binding) around ∷ marks) = ap (λ rest. ((binding.declaration == d) && not (binding.home == innermost around)) || rest) (captured_same d marks)
captured_same d (leave line true ∷ marks) = captured_same d marks
captured_same d (mark ∷ marks) = captured_same d marks

functions_same : (marks : List Mark) → outer_functions (but_breaks marks) ≡ outer_functions marks
functions_same [] = refl
functions_same (opened outer ∷ marks) = ap (λ rest. outer ∷ rest) (functions_same marks)
functions_same (leave line true ∷ marks) = functions_same marks
functions_same (mark ∷ marks) = functions_same marks

outer_same : (f : ℕ) (marks : List Mark) → outer_of f (but_breaks marks) ≡ outer_of f marks
outer_same zero marks = refl
outer_same (suc f) marks = ap (λ outers. get_or outers f 0) (functions_same marks)

by_same : (f : ℕ) (marks : List Mark) (bindings : List Binding) → uses_by f (but_breaks marks) bindings ≡ uses_by f marks bindings
by_same f marks [] = refl
by_same f marks (binding ∷ bindings) = ap₂ (λ use' uses. use' ∷ uses) (use_same f marks (Some binding)) (by_same f marks bindings)

sources_same : (f : ℕ) (marks : List Mark) → sources_of f (but_breaks marks) ≡ sources_of f marks
sources_same f marks =
    ap₂ (λ outer known. uses_by outer (but_breaks marks) known) (outer_same f marks) (behind_same f [] marks) ∙ by_same (outer_of f marks) marks (upvalues_of f marks)

-- ---- all scopes

declarations_same : (marks : List Mark) → declarations_in (but_breaks marks) ≡ declarations_in marks
declarations_same [] = refl
declarations_same (local_name line reached ∷ marks) = ap suc (declarations_same marks)
declarations_same (leave line true ∷ marks) = declarations_same marks
declarations_same (mark ∷ marks) = declarations_same marks

count_same : (marks : List Mark) → functions_in (but_breaks marks) ≡ functions_in marks
count_same [] = refl
count_same (opened outer ∷ marks) = ap suc (count_same marks)
count_same (leave line true ∷ marks) = count_same marks
count_same (mark ∷ marks) = count_same marks

captured_below_same : (n : ℕ) (marks : List Mark) → captured_below n (but_breaks marks) ≡ captured_below n marks
captured_below_same zero marks = refl
captured_below_same (suc n) marks = ap₂ (λ l b. l ++ b ∷ []) (captured_below_same n marks) (captured_same n marks)

upvalues_below_same : (n : ℕ) (marks : List Mark) → upvalues_below n (but_breaks marks) ≡ upvalues_below n marks
upvalues_below_same zero marks = refl
upvalues_below_same (suc n) marks = ap₂ (λ l uses. l ++ uses ∷ []) (upvalues_below_same n marks) (sources_same n marks)

resolved_same : (marks : List Mark) → resolved_by (but_breaks marks) ≡ resolved_by marks
resolved_same marks =
    let bare = but_breaks marks in
    let captured = ap (λ n. captured_below n bare) (declarations_same marks) ∙ captured_below_same (declarations_in marks) marks in
    let upvalues = ap (λ n. upvalues_below n bare) (count_same marks) ∙ upvalues_below_same (functions_in marks) marks in
    ap (λ (l : List Use). record { names = l; captured = captured_below (declarations_in bare) bare; upvalues = upvalues_below (functions_in bare) bare }) (among_same marks marks)
    ∙ ap₂ (λ (l : List Bool) (k : List (List Use)). record { names = uses_of marks; captured = l; upvalues = k }) captured upvalues

-- ---- rules that are broken

pub breaks_append : (marks others : List Mark) → but_breaks (marks ++ others) ≡ but_breaks marks ++ but_breaks others
breaks_append [] others = refl
breaks_append (leave line true ∷ marks) others = breaks_append marks others
breaks_append (mark ∷ marks) others = ap (λ rest. mark ∷ rest) (breaks_append marks others)

upvalue_same : (line : ℕ) (marks : List Mark) (functions : List ℕ) → upvalue_breach line (but_breaks marks) functions ≡ upvalue_breach line marks functions
upvalue_same line marks [] = refl
upvalue_same line marks (f ∷ functions) =
    ap₂ option_or (ap (λ (known : List Binding). above 60 (length known) (too_many_upvalues line (length known))) (behind_same f [] marks)) (upvalue_same line marks functions)

at_same : (before : List Mark) (mark : Mark) → breach_at (but_breaks before) mark ≡ breach_at before mark
at_same before (mention line name (Some binding) around) =
    let this = mention line name (Some binding) around in
    ap (λ marks. upvalue_breach line marks (inside_of binding.home around)) (sym (breaks_append before (this ∷ []))) ∙ upvalue_same line (before ++ this ∷ []) (inside_of binding.home around)
at_same before (dots line true) = refl
at_same before (leave line true) = refl
at_same before mark = refl

first_same : (before marks : List Mark) → first_breach (but_breaks before) (but_breaks marks) ≡ first_breach before marks
first_same before [] = refl
first_same before (leave line true ∷ marks) =
    ap (λ past. first_breach past (but_breaks marks)) (sym (breaks_append before (leave line true ∷ []) ∙ append-nil (but_breaks before))) ∙ first_same (before ++ leave line true ∷ []) marks
first_same before (mark ∷ marks) =
    ap₂ option_or (at_same before mark) (ap (λ past. first_breach past (but_breaks marks)) (sym (breaks_append before (mark ∷ []))) ∙ first_same (before ++ mark ∷ []) marks)

pub breaks_say_nothing : BreaksSayNothing
breaks_say_nothing marks = (resolved_same marks, first_same [] marks)
