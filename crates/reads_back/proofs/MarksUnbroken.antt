-- What is known of a source ahead stays the same where breaks are left out of its marks.
use Rattle.std.proofs.Common.{◌≡◌, ℕ, suc, true, List, [], ◌∷◌, ◌++◌, append-nil, drop, refl, sym, ap, ap₂, ◌∙◌, if◌then◌else◌}
use Rattle.std.specs.Prelude.{◌==◌, None, Option, Some}
use Rattle.lua_tree.specs.Outline.{Binding, Mark, Place, innermost, leave, local_name, mention, opened}
use Rattle.lua_tree.specs.Resolved.{Resolved, declarations_in, functions_in}
use Rattle.lua_tree.specs.Scoping.{Use, local_use, slot_of, upvalue_use, upvalues_behind, use_in, uses_among, with_mention}
use Rattle.scheme_stands.specs.Places.{Mentions, ahead_at}
use Rattle.same_flow.specs.SameMarks.{but_breaks}
use Rattle.same_flow.proofs.Breaks.{breaks_append, breaks_say_nothing}
use Rattle.reads_back.proofs.StepsKnown.{ahead_unbroken}

-- ---- what names mean

upvalues_unbroken : (f : ℕ) (known : List Binding) (marks : List Mark) → upvalues_behind f known (but_breaks marks) ≡ upvalues_behind f known marks
upvalues_unbroken f known [] = refl
upvalues_unbroken f known (mention line name (Some binding) around ∷ marks) = upvalues_unbroken f (with_mention f binding around known) marks
upvalues_unbroken f known (leave line true ∷ marks) = upvalues_unbroken f known marks
upvalues_unbroken f known (mark ∷ marks) = upvalues_unbroken f known marks

use_unbroken : (f : ℕ) (marks : List Mark) (means : Option Binding) → use_in f (but_breaks marks) means ≡ use_in f marks means
use_unbroken f marks None = refl
use_unbroken f marks (Some binding) = ap (λ known. if binding.home == f then local_use binding.declaration else upvalue_use (slot_of binding.declaration known)) (upvalues_unbroken f [] marks)

uses_unbroken : (all marks : List Mark) → uses_among (but_breaks all) marks ≡ uses_among all marks
uses_unbroken all [] = refl
uses_unbroken all (mention line name means around ∷ marks) = ap₂ (λ use' uses. use' ∷ uses) (use_unbroken (innermost around) all means) (uses_unbroken all marks)
uses_unbroken all (mark ∷ marks) = uses_unbroken all marks

-- ---- what is ahead

all_unbroken : (all : List Mark) (place : Place) (marks : List Mark) → ahead_at (but_breaks all) place marks ≡ ahead_at all place marks
all_unbroken all place marks =
    let same = (breaks_say_nothing all).0 in
    ap (λ (names : List Use). record (ahead_at (but_breaks all) place marks) { names = names }) (uses_unbroken all marks)
    ∙ ap (λ (r : Resolved). record (ahead_at all place marks) { captures = drop place.declarations r.captured; sources = drop place.functions r.upvalues }) same

-- behind the marks of a part, breaks are left out of all others
pub part_ahead : (all : List Mark) (place : Place) (marks rest : List Mark) → ahead_at all place (marks ++ rest) ≡ ahead_at (but_breaks all) place (marks ++ but_breaks rest)
part_ahead all place marks rest =
    ap (ahead_at all place) (sym (append-nil (marks ++ rest)))
    ∙ sym (ahead_unbroken all place (marks ++ rest) [])
    ∙ ap (ahead_at all place) (append-nil (but_breaks (marks ++ rest)) ∙ breaks_append marks rest)
    ∙ ahead_unbroken all place marks (but_breaks rest)
    ∙ sym (all_unbroken all place (marks ++ but_breaks rest))

-- where breaks are left out, none is left to leave out
breaks_again : (marks : List Mark) → but_breaks (but_breaks marks) ≡ but_breaks marks
breaks_again [] = refl
breaks_again (leave line true ∷ marks) = breaks_again marks
breaks_again (mark ∷ marks) = ap (λ (rest : List Mark). mark ∷ rest) (breaks_again marks)

between_again : (before marks behind : List Mark) → but_breaks (before ++ (but_breaks marks ++ behind)) ≡ but_breaks (before ++ (marks ++ behind))
between_again before marks behind =
    breaks_append before (but_breaks marks ++ behind)
    ∙ ap (λ (rest : List Mark). but_breaks before ++ rest)
    (breaks_append (but_breaks marks) behind ∙ ap (λ (own : List Mark). own ++ but_breaks behind) (breaks_again marks) ∙ sym (breaks_append marks behind))
    ∙ sym (breaks_append before (marks ++ behind))

-- marks between others may stand with their breaks
pub ahead_between : (before marks behind : List Mark) (place : Place) → ahead_at (before ++ (but_breaks marks ++ behind)) place (but_breaks marks ++ behind) ≡ ahead_at (before ++ (marks ++ behind)) place (marks ++ behind)
ahead_between before marks behind place =
    let without = before ++ (but_breaks marks ++ behind) in
    let with_them = before ++ (marks ++ behind) in
    ahead_unbroken without place marks behind
    ∙ sym (all_unbroken without place (marks ++ behind))
    ∙ ap (λ (all : List Mark). ahead_at all place (marks ++ behind)) (between_again before marks behind)
    ∙ all_unbroken with_them place (marks ++ behind)

-- ---- what is mentioned, and how much is declared

pub mentions_unbroken : (P : Option Binding → List ℕ → Type 0) (marks : List Mark) → Mentions P marks → Mentions P (but_breaks marks)
mentions_unbroken P [] is = tt
mentions_unbroken P (mention line name means around ∷ marks) is = (is.0, mentions_unbroken P marks is.1)
mentions_unbroken P (leave line true ∷ marks) is = mentions_unbroken P marks is
mentions_unbroken P (mark ∷ marks) is = mentions_unbroken P marks is

pub declarations_unbroken : (marks : List Mark) → declarations_in (but_breaks marks) ≡ declarations_in marks
declarations_unbroken [] = refl
declarations_unbroken (local_name line reached ∷ marks) = ap suc (declarations_unbroken marks)
declarations_unbroken (leave line true ∷ marks) = declarations_unbroken marks
declarations_unbroken (mark ∷ marks) = declarations_unbroken marks

pub functions_unbroken : (marks : List Mark) → functions_in (but_breaks marks) ≡ functions_in marks
functions_unbroken [] = refl
functions_unbroken (opened outer ∷ marks) = ap suc (functions_unbroken marks)
functions_unbroken (leave line true ∷ marks) = functions_unbroken marks
functions_unbroken (mark ∷ marks) = functions_unbroken marks
