-- Mentions of locals of the innermost function say nothing of what is captured, of upvalues, and of what other names mean, and break no rule.
use Rattle.std.proofs.Common.{◌≡◌, ℕ, zero, suc, Bool, true, false, not, List, [], ◌∷◌, ◌++◌, length, get_or, refl, sym, ap, ap₂, ◌∙◌}
use Rattle.std.specs.Prelude.{Option, Some, None, ◌==◌, ◌&&◌, ◌||◌, if◌then◌else◌}
use Rattle.std.specs.Option.{option_or}
use Rattle.std.proofs.lemmas.Bool.{and_right, eqb-true, eq-eqb}
use Rattle.std.proofs.lemmas.List.{append-nil}
use Rattle.lua_tree.specs.Outline.{Binding, Mark, mention, local_name, dots, leave, opened, innermost}
use Rattle.lua_tree.specs.Resolved.{declarations_in, functions_in, captured_below, upvalues_below}
use Rattle.lua_tree.specs.Scoping.{inside_of, is_one_of, is_known, with_mention, upvalues_behind, upvalues_of, slot_of, local_use, upvalue_use, use_in, is_captured, outer_functions, outer_of, uses_by, sources_of, too_many_upvalues, above, upvalue_breach, breach_at, first_breach}
use Rattle.scheme_order.specs.Own.{but_own}

-- no function around a place stands inside its innermost one
inside_none : (home : ℕ) (around : List ℕ) → (home == innermost around) ≡ true → inside_of home around ≡ []
inside_none home [] e = refl
inside_none home (function ∷ around) e = ap (λ b. if b then [] else function ∷ inside_of home around) (eq-eqb function home (sym (eqb-true home function e)))

-- a local of the innermost function is no upvalue
mention_none : (f : ℕ) (binding : Binding) (around : List ℕ) (known : List Binding) → (binding.home == innermost around) ≡ true → with_mention f binding around known ≡ known
mention_none f binding around known e =
    ap (λ (functions : List ℕ). if is_one_of f functions && not (is_known binding.declaration known) then known ++ binding ∷ [] else known) (inside_none binding.home around e)

-- ---- what names mean

-- the upvalues of a function
pub behind_same : (f : ℕ) (known : List Binding) (marks : List Mark) → upvalues_behind f known (but_own marks) ≡ upvalues_behind f known marks
behind_same f known [] = refl
behind_same f known (mention line name (Some binding) around ∷ marks) =
    by (binding.home == innermost around) refl (behind_same f known marks) (behind_same f (with_mention f binding around known) marks)
  where
    by : (b : Bool) → (binding.home == innermost around) ≡ b → upvalues_behind f known (but_own marks) ≡ upvalues_behind f known marks
        → upvalues_behind f (with_mention f binding around known) (but_own marks) ≡ upvalues_behind f (with_mention f binding around known) marks
        → upvalues_behind f known (if b then but_own marks else mention line name (Some binding) around ∷ but_own marks) ≡ upvalues_behind f (with_mention f binding around known) marks
    by true e one other = one ∙ ap (λ k. upvalues_behind f k marks) (sym (mention_none f binding around known e))
    by false e one other = other
behind_same f known (mark ∷ marks) = behind_same f known marks

-- what is meant in a function
pub use_same : (f : ℕ) (marks : List Mark) (means : Option Binding) → use_in f (but_own marks) means ≡ use_in f marks means
use_same f marks None = refl
use_same f marks (Some binding) = ap (λ known. if binding.home == f then local_use binding.declaration else upvalue_use (slot_of binding.declaration known)) (behind_same f [] marks)

-- whether a declaration is captured
pub captured_same : (declaration : ℕ) (marks : List Mark) → is_captured declaration (but_own marks) ≡ is_captured declaration marks
captured_same d [] = refl
captured_same d (mention line name (Some binding) around ∷ marks) = by (binding.home == innermost around) refl (captured_same d marks)
  where
    by : (b : Bool) → (binding.home == innermost around) ≡ b → is_captured d (but_own marks) ≡ is_captured d marks
        → is_captured d (if b then but_own marks else mention line name (Some binding) around ∷ but_own marks)
        ≡ (((binding.declaration == d) && not (binding.home == innermost around)) || is_captured d marks)
    by true e same =
        same ∙ sym (ap (λ t. ((binding.declaration == d) && not t) || is_captured d marks) e ∙ ap (λ t. t || is_captured d marks) (and_right (binding.declaration == d) false refl))
    by false e same = ap (λ rest. ((binding.declaration == d) && not (binding.home == innermost around)) || rest) same
captured_same d (mark ∷ marks) = captured_same d marks

-- the functions around functions
pub functions_same : (marks : List Mark) → outer_functions (but_own marks) ≡ outer_functions marks
functions_same [] = refl
functions_same (mention line name (Some binding) around ∷ marks) = by (binding.home == innermost around) (functions_same marks)
  where
    by : (b : Bool) → outer_functions (but_own marks) ≡ outer_functions marks
        → outer_functions (if b then but_own marks else mention line name (Some binding) around ∷ but_own marks) ≡ outer_functions marks
    by true same = same
    by false same = same
functions_same (opened outer ∷ marks) = ap (λ rest. outer ∷ rest) (functions_same marks)
functions_same (mark ∷ marks) = functions_same marks

pub outer_same : (f : ℕ) (marks : List Mark) → outer_of f (but_own marks) ≡ outer_of f marks
outer_same zero marks = refl
outer_same (suc f) marks = ap (λ outers. get_or outers f 0) (functions_same marks)

by_same : (f : ℕ) (marks : List Mark) (bindings : List Binding) → uses_by f (but_own marks) bindings ≡ uses_by f marks bindings
by_same f marks [] = refl
by_same f marks (binding ∷ bindings) = ap₂ (λ use' uses. use' ∷ uses) (use_same f marks (Some binding)) (by_same f marks bindings)

-- where the upvalues of a function come from
pub sources_same : (f : ℕ) (marks : List Mark) → sources_of f (but_own marks) ≡ sources_of f marks
sources_same f marks =
    ap₂ (λ outer known. uses_by outer (but_own marks) known) (outer_same f marks) (behind_same f [] marks) ∙ by_same (outer_of f marks) marks (upvalues_of f marks)

-- ---- all scopes

-- how many declarations and functions there are
pub declarations_same : (marks : List Mark) → declarations_in (but_own marks) ≡ declarations_in marks
declarations_same [] = refl
declarations_same (mention line name (Some binding) around ∷ marks) = by (binding.home == innermost around) (declarations_same marks)
  where
    by : (b : Bool) → declarations_in (but_own marks) ≡ declarations_in marks
        → declarations_in (if b then but_own marks else mention line name (Some binding) around ∷ but_own marks) ≡ declarations_in marks
    by true same = same
    by false same = same
declarations_same (local_name line reached ∷ marks) = ap suc (declarations_same marks)
declarations_same (mark ∷ marks) = declarations_same marks

pub count_same : (marks : List Mark) → functions_in (but_own marks) ≡ functions_in marks
count_same [] = refl
count_same (mention line name (Some binding) around ∷ marks) = by (binding.home == innermost around) (count_same marks)
  where
    by : (b : Bool) → functions_in (but_own marks) ≡ functions_in marks → functions_in (if b then but_own marks else mention line name (Some binding) around ∷ but_own marks) ≡ functions_in marks
    by true same = same
    by false same = same
count_same (opened outer ∷ marks) = ap suc (count_same marks)
count_same (mark ∷ marks) = count_same marks

-- of each number below a count
pub captured_below_same : (n : ℕ) (marks : List Mark) → captured_below n (but_own marks) ≡ captured_below n marks
captured_below_same zero marks = refl
captured_below_same (suc n) marks = ap₂ (λ l b. l ++ b ∷ []) (captured_below_same n marks) (captured_same n marks)

pub upvalues_below_same : (n : ℕ) (marks : List Mark) → upvalues_below n (but_own marks) ≡ upvalues_below n marks
upvalues_below_same zero marks = refl
upvalues_below_same (suc n) marks = ap₂ (λ l uses. l ++ uses ∷ []) (upvalues_below_same n marks) (sources_same n marks)

-- ---- rules that are broken

-- what stays of marks behind others
pub own_append : (marks others : List Mark) → but_own (marks ++ others) ≡ but_own marks ++ but_own others
own_append [] others = refl
own_append (mention line name (Some binding) around ∷ marks) others = by (binding.home == innermost around) (own_append marks others)
  where
    by : (b : Bool) → but_own (marks ++ others) ≡ but_own marks ++ but_own others
        → (if b then but_own (marks ++ others) else mention line name (Some binding) around ∷ but_own (marks ++ others))
        ≡ (if b then but_own marks else mention line name (Some binding) around ∷ but_own marks) ++ but_own others
    by true same = same
    by false same = ap (λ rest. mention line name (Some binding) around ∷ rest) same
own_append (mark ∷ marks) others = ap (λ rest. mark ∷ rest) (own_append marks others)

-- the first break of the limit on upvalues
upvalue_same : (line : ℕ) (marks : List Mark) (functions : List ℕ) → upvalue_breach line (but_own marks) functions ≡ upvalue_breach line marks functions
upvalue_same line marks [] = refl
upvalue_same line marks (f ∷ functions) =
    ap₂ option_or (ap (λ (known : List Binding). above 60 (length known) (too_many_upvalues line (length known))) (behind_same f [] marks))
    (upvalue_same line marks functions)

-- a mark that stays breaks the same rule
at_same : (before : List Mark) (mark : Mark) → but_own (mark ∷ []) ≡ mark ∷ [] → breach_at (but_own before) mark ≡ breach_at before mark
at_same before (mention line name (Some binding) around) kept =
    let this = mention line name (Some binding) around in
    ap (λ marks. upvalue_breach line marks (inside_of binding.home around)) (sym (own_append before (this ∷ []) ∙ ap (λ marks. but_own before ++ marks) kept))
    ∙ upvalue_same line (before ++ this ∷ []) (inside_of binding.home around)
at_same before (dots line true) kept = refl
at_same before (leave line true) kept = refl
at_same before mark kept = refl

-- a mark that stays, and one that does not
one_stays : (before : List Mark) (mark : Mark) (marks : List Mark) → but_own (mark ∷ []) ≡ mark ∷ []
    → first_breach (but_own (before ++ mark ∷ [])) (but_own marks) ≡ first_breach (before ++ mark ∷ []) marks
    → first_breach (but_own before) (mark ∷ but_own marks) ≡ first_breach before (mark ∷ marks)
one_stays before mark marks kept same =
    ap₂ option_or (at_same before mark kept)
    (ap (λ past. first_breach past (but_own marks)) (sym (own_append before (mark ∷ []) ∙ ap (λ more. but_own before ++ more) kept)) ∙ same)

one_goes : (before : List Mark) (mark : Mark) (marks : List Mark) → but_own (mark ∷ []) ≡ [] → breach_at before mark ≡ None
    → first_breach (but_own (before ++ mark ∷ [])) (but_own marks) ≡ first_breach (before ++ mark ∷ []) marks
    → first_breach (but_own before) (but_own marks) ≡ first_breach before (mark ∷ marks)
one_goes before mark marks gone none same =
    ap (λ past. first_breach past (but_own marks)) (sym (own_append before (mark ∷ []) ∙ ap (λ more. but_own before ++ more) gone ∙ append-nil (but_own before)))
    ∙ same ∙ sym (ap (λ breach. option_or breach (first_breach (before ++ mark ∷ []) marks)) none)

-- the first break of a rule, behind other marks
first_same : (before marks : List Mark) → first_breach (but_own before) (but_own marks) ≡ first_breach before marks
first_same before [] = refl
first_same before (mention line name (Some binding) around ∷ marks) =
    by (binding.home == innermost around) refl (first_same (before ++ mention line name (Some binding) around ∷ []) marks)
  where
    this : Mark
    this = mention line name (Some binding) around

    alone : (b : Bool) → (binding.home == innermost around) ≡ b → but_own (this ∷ []) ≡ (if b then [] else this ∷ [])
    alone b e = ap (λ t. if t then [] else this ∷ []) e

    by : (b : Bool) → (binding.home == innermost around) ≡ b → first_breach (but_own (before ++ this ∷ [])) (but_own marks) ≡ first_breach (before ++ this ∷ []) marks
        → first_breach (but_own before) (if b then but_own marks else this ∷ but_own marks) ≡ first_breach before (this ∷ marks)
    by true e same = one_goes before this marks (alone true e) (ap (upvalue_breach line (before ++ this ∷ [])) (inside_none binding.home around e)) same
    by false e same = one_stays before this marks (alone false e) same
first_same before (mark ∷ marks) = one_stays before mark marks refl (first_same (before ++ mark ∷ []) marks)

pub breach_same : (marks : List Mark) → first_breach [] (but_own marks) ≡ first_breach [] marks
breach_same marks = first_same [] marks
