-- What a list of marks and another behind it declare and mention.
use Rattle.std.proofs.Common.{◌≡◌, ◌==◌, ◌&&◌, ◌||◌, ℕ, zero, suc, ◌+◌, ◌<◌, ◌≤◌, Bool, true, false, not, List, [], ◌∷◌, ◌++◌, length, get_or, Option, Some, None, refl, sym, ap, ◌∙◌, append_assoc, append-nil, length-append, arith}
use Rattle.std.proofs.Math.ListN.{get_or-append}
use Rattle.std.proofs.Math.Seq.{get_or-append_seam}
use Rattle.lua_tree.specs.Outline.{Binding, Mark, mention, local_name, opened, innermost}
use Rattle.std.specs.Option.{option_or}
use Rattle.lua_tree.specs.Scoping.{Breach, breach_at, first_breach, with_mention, upvalues_behind, outer_functions, outer_of, use_in, uses_among, is_captured}
use Rattle.lua_tree.specs.Resolved.{declarations_in, functions_in}
use Rattle.scopes.specs.Standing.{AreNested}

-- the parts of two lists of marks
pub upvalues_both : (f : ℕ) (known : List Binding) (one other : List Mark) → upvalues_behind f known (one ++ other) ≡ upvalues_behind f (upvalues_behind f known one) other
upvalues_both f known [] other = refl
upvalues_both f known (mention line name (Some binding) around ∷ one) other = upvalues_both f (with_mention f binding around known) one other
upvalues_both f known (mark ∷ one) other = upvalues_both f known one other

pub declarations_both : (one other : List Mark) → declarations_in (one ++ other) ≡ declarations_in one + declarations_in other
declarations_both [] other = omega arith
declarations_both (local_name line reached ∷ one) other = omega (arith, declarations_both one other)
declarations_both (mark ∷ one) other = declarations_both one other

pub outer_both : (one other : List Mark) → outer_functions (one ++ other) ≡ outer_functions one ++ outer_functions other
outer_both [] other = refl
outer_both (opened outer ∷ one) other = ap (λ x. outer ∷ x) (outer_both one other)
outer_both (mark ∷ one) other = outer_both one other

pub functions_are : (marks : List Mark) → functions_in marks ≡ suc (length (outer_functions marks))
functions_are [] = refl
functions_are (opened outer ∷ marks) = ap suc (functions_are marks)
functions_are (mark ∷ marks) = functions_are marks

pub functions_more : (marks more : List Mark) → functions_in marks ≤ functions_in (marks ++ more)
functions_more marks more = omega (arith, functions_are marks, functions_are (marks ++ more), ap length (outer_both marks more), length-append (outer_functions marks) (outer_functions more))

or_both : (one other third : Bool) → one || (other || third) ≡ (one || other) || third
or_both true other third = refl
or_both false other third = refl

pub captured_both : (declaration : ℕ) (one other : List Mark) → is_captured declaration (one ++ other) ≡ is_captured declaration one || is_captured declaration other
captured_both declaration [] other = refl
captured_both declaration (mention line name (Some binding) around ∷ one) other =
    ap (λ x. ((binding.declaration == declaration) && not (binding.home == innermost around)) || x) (captured_both declaration one other) ∙
    or_both ((binding.declaration == declaration) && not (binding.home == innermost around)) (is_captured declaration one) (is_captured declaration other)
captured_both declaration (mark ∷ one) other = captured_both declaration one other

pub uses_both : (all one other : List Mark) → uses_among all (one ++ other) ≡ uses_among all one ++ uses_among all other
uses_both all [] other = refl
uses_both all (mention line name means around ∷ one) other = ap (λ x. use_in (innermost around) all means ∷ x) (uses_both all one other)
uses_both all (mark ∷ one) other = uses_both all one other

-- the first breach is that of the first part, or that of the second behind it
pub first_of_three : (one other third : Option Breach) → option_or one (option_or other third) ≡ option_or (option_or one other) third
first_of_three None other third = refl
first_of_three (Some breach) other third = refl

pub breach_of_both : (before one other : List Mark) → first_breach before (one ++ other) ≡ option_or (first_breach before one) (first_breach (before ++ one) other)
breach_of_both before [] other = ap (λ x. first_breach x other) (sym (append-nil before))
breach_of_both before (mark ∷ one) other =
    ap (option_or (breach_at before mark)) (breach_of_both (before ++ mark ∷ []) one other
    ∙ ap (λ x. option_or (first_breach (before ++ mark ∷ []) one) (first_breach x other)) (append_assoc before (mark ∷ []) one)) ∙
    first_of_three (breach_at before mark) (first_breach (before ++ mark ∷ []) one) (first_breach (before ++ mark ∷ one) other)

-- the function around one stays so
pub outer_stays : (f : ℕ) (marks more : List Mark) → f < functions_in marks → outer_of f (marks ++ more) ≡ outer_of f marks
outer_stays zero marks more below = refl
outer_stays (suc f) marks more below =
    ap (λ x. get_or x f 0) (outer_both marks more) ∙ get_or-append (outer_functions marks) (outer_functions more) 0 f (omega (arith, functions_are marks))

pub outer_of_last : (marks : List Mark) (outer : ℕ) → outer_of (functions_in marks) (marks ++ opened outer ∷ []) ≡ outer
outer_of_last marks outer =
    ap (λ x. outer_of x (marks ++ opened outer ∷ [])) (functions_are marks) ∙
    ap (λ x. get_or x (length (outer_functions marks)) 0) (outer_both marks (opened outer ∷ [])) ∙
    get_or-append_seam (outer_functions marks) outer [] 0

pub nested_stays : (around : List ℕ) (marks more : List Mark) → AreNested around marks → AreNested around (marks ++ more)
nested_stays [] marks more nested = nested
nested_stays (f ∷ []) marks more nested = nested
nested_stays (f ∷ g ∷ around) marks more nested =
    (nested.0, omega (arith, nested.1, functions_more marks more), outer_stays f marks more nested.1 ∙ nested.2, nested_stays (g ∷ around) marks more nested.3)
