-- What is known of the names of a function that stands in another: each upvalue has one slot, and its name is in scope around.
use Rattle.std.proofs.Common.{◌≡◌, ℕ, zero, suc, Bool, true, false, not, ◌&&◌, ◌||◌, List, [], ◌∷◌, ◌++◌, length, slice_get, Some, None, is_some, refl, sym, ap, ◌∙◌, subst, eq-eqb, true≢false}
use Rattle.std.specs.Prelude.{◌==◌, if◌then◌else◌}
use Rattle.std.specs.Str.{bytes_eq}
use Rattle.std.proofs.lemmas.Option.{same_Some}
use Rattle.lua_num.specs.Bytes.{Text}
use Rattle.lua_tree.specs.Outline as outline
use Rattle.lua_tree.specs.Outline.{Binding, Mark, Place, mention, local_name, hidden_local, dots, leave, opened, innermost}
use Rattle.lua_tree.specs.Scoping.{Use, inside_of, is_known, is_one_of, upvalues_behind, upvalues_of, with_mention}
use Rattle.scheme.specs.Making.{Ahead, head_or}
use Rattle.scheme.specs.declared.making.Active.{Active}
use Rattle.scheme_stands.specs.Placed.{FindsBy, FindsIn, IsPlaced, names_of_seen}
use Rattle.scheme_stands.specs.Places.{CapturesAre}
use Rattle.scheme_stands.specs.Words.{Names, is_among, names_in, onto, register_in}
use Rattle.reads_back.proofs.Tests.{or_first, or_second}

-- what is known of the names of any function
pub record AreKnown (n : Names) : Type 0 where
  pub slots : (text : Text) (one other : ℕ) → slice_get n.upvalues one ≡ Some text → slice_get n.upvalues other ≡ Some text → one ≡ other
  pub around : (text : Text) (slot : ℕ) → slice_get n.upvalues slot ≡ Some text → is_among text n.around ≡ true

-- the main function has none
pub none_known : AreKnown (record { around = []; upvalues = [] })
none_known = record { slots = λ text one other is. cc; around = λ text slot is. cc }

-- ---- each binding is among the upvalues once

abbrev AreApart : List Binding → Type 0
AreApart known = (one other : ℕ) (b c : Binding) → slice_get known one ≡ Some b → slice_get known other ≡ Some c → b.declaration ≡ c.declaration → one ≡ other

-- what stands at a place is known
known_at : (known : List Binding) (place : ℕ) (b : Binding) → slice_get known place ≡ Some b → is_known b.declaration known ≡ true
known_at [] place b is = cc
known_at (first ∷ known) zero b is = let same : first ≡ b = same_Some first b is in ap (λ same. same || is_known b.declaration known) (eq-eqb b.declaration first.declaration (ap (λ (b : Binding). b.declaration) (sym same)))
known_at (first ∷ known) (suc place) b is = by (b.declaration == first.declaration) (known_at known place b is)
  where
    by : (same : Bool) → is_known b.declaration known ≡ true → same || is_known b.declaration known ≡ true
    by true is = refl
    by false is = is

-- at the end or before it
data EndOr (known : List Binding) (last b : Binding) (place : ℕ) : Type 0 where
  earlier : slice_get known place ≡ Some b → EndOr known last b place
  at_end : place ≡ length known → b ≡ last → EndOr known last b place

end_or : (known : List Binding) (last b : Binding) (place : ℕ) → slice_get (known ++ last ∷ []) place ≡ Some b → EndOr known last b place
end_or [] last b zero is = at_end refl (sym (same_Some last b is))
end_or [] last b (suc place) is = cc
end_or (first ∷ known) last b zero is = earlier is
end_or (first ∷ known) last b (suc place) is = by (end_or known last b place is)
  where
    by : EndOr known last b place → EndOr (first ∷ known) last b (suc place)
    by (earlier is) = earlier is
    by (at_end is same) = at_end (ap suc is) same

not_known : {A : Type 0} (known : List Binding) (place : ℕ) (b last : Binding) → is_known last.declaration known ≡ false → slice_get known place ≡ Some b → b.declaration ≡ last.declaration → A
not_known known place b last none is same = absurd (true≢false (sym (known_at known place b is) ∙ ap (λ d. is_known d known) same ∙ none))

one_more_apart : (known : List Binding) (last : Binding) → is_known last.declaration known ≡ false → AreApart known → AreApart (known ++ last ∷ [])
one_more_apart known last none apart one other b c first second same = by (end_or known last b one first) (end_or known last c other second)
  where
    by : EndOr known last b one → EndOr known last c other → one ≡ other
    by (earlier is) (earlier also) = apart one other b c is also same
    by (earlier is) (at_end there last_is) = not_known known one b last none is (same ∙ ap (λ (b : Binding). b.declaration) last_is)
    by (at_end there last_is) (earlier also) = not_known known other c last none also (sym same ∙ ap (λ (b : Binding). b.declaration) last_is)
    by (at_end there last_is) (at_end there' last_is') = there ∙ sym there'

with_apart : (f : ℕ) (b : Binding) (around : List ℕ) (known : List Binding) → AreApart known → AreApart (with_mention f b around known)
with_apart f b around known apart = by (is_one_of f (inside_of b.home around)) (is_known b.declaration known) refl
  where
    by : (inside is : Bool) → is_known b.declaration known ≡ is → AreApart (if inside && not is then known ++ b ∷ [] else known)
    by true true is = apart
    by true false is = one_more_apart known b is apart
    by false is same = apart

behind_apart : (f : ℕ) (known : List Binding) (marks : List Mark) → AreApart known → AreApart (upvalues_behind f known marks)
behind_apart f known [] apart = apart
behind_apart f known (mention line name (Some b) around ∷ marks) apart = behind_apart f (with_mention f b around known) marks (with_apart f b around known apart)
behind_apart f known (mention line name None around ∷ marks) apart = behind_apart f known marks apart
behind_apart f known (local_name line reached ∷ marks) apart = behind_apart f known marks apart
behind_apart f known (hidden_local line reached ∷ marks) apart = behind_apart f known marks apart
behind_apart f known (dots line vararg ∷ marks) apart = behind_apart f known marks apart
behind_apart f known (leave line looped ∷ marks) apart = behind_apart f known marks apart
behind_apart f known (opened outer ∷ marks) apart = behind_apart f known marks apart

-- ---- the names

-- the name of an upvalue is in scope where the function is opened
seen_at : (all : List Mark) (place : Place) (active : List Active) (bindings : List Binding) (uses : List Use) (c : CapturesAre all place active bindings uses) (slot : ℕ) (text : Text) → slice_get (names_of_seen all place active bindings uses c) slot ≡ Some text →
    (b : Binding) × (slice_get bindings slot ≡ Some b) × (place.scope text ≡ Some b)
seen_at all place active [] uses c slot text is = cc
seen_at all place active (b ∷ bindings) uses c zero text is = (b, refl, ap place.scope (sym (same_Some c.3.0 text is)) ∙ c.3.1)
seen_at all place active (b ∷ bindings) uses c (suc slot) text is = seen_at all place active bindings c.1 c.5 slot text is

pub among_both : (text : Text) (texts others : List Text) → is_among text (texts ++ others) ≡ is_among text texts || is_among text others
among_both text [] others = refl
among_both text (first ∷ texts) others = by (bytes_eq text first) (among_both text texts others)
  where
    by : (same : Bool) → is_among text (texts ++ others) ≡ is_among text texts || is_among text others → same || is_among text (texts ++ others) ≡ (same || is_among text texts) || is_among text others
    by true is = refl
    by false is = is

pub among_names : (text : Text) (active : List Active) → is_among text (names_in active) ≡ is_some (register_in text active)
among_names text [] = refl
among_names text (x ∷ active) = by (is_some x.local.declaration) (among_names text active)
  where
    named : (same : Bool) → is_among text (names_in active) ≡ is_some (register_in text active) → same || is_among text (names_in active) ≡ is_some (if same then Some (length active) else register_in text active)
    named true is = refl
    named false is = is

    by : (shown : Bool) → is_among text (names_in active) ≡ is_some (register_in text active) → is_among text (if shown then x.local.name ∷ names_in active else names_in active) ≡ is_some (if shown && bytes_eq text x.local.name then Some (length active) else register_in text active)
    by true is = named (bytes_eq text x.local.name) is
    by false is = is

-- what is in scope there is among the names around the function
found_around : (all : List Mark) (home : ℕ) (n : Names) (active : List Active) (text : Text) (b : Binding) (own : Bool) → FindsIn all home n active text b own → is_among text (names_in (onto active []) ++ n.around) ≡ true
found_around all home n active text b true found =
    among_both text (names_in (onto active [])) n.around ∙ or_first _ _ (among_names text (onto active []) ∙ ap is_some found.is)
found_around all home n active text b false found = among_both text (names_in (onto active [])) n.around ∙ or_second _ _ found.among

pub placed_known : (part : outline.Part) (n : Names) (before : Ahead) → IsPlaced part n before → AreKnown n
placed_known part n before placed = subst AreKnown (sym placed.inside_is) (record {
  slots = λ text one other first second.
      let here = seen text one first in
      let there = seen text other second in
      let same : here.0 ≡ there.0 = same_Some here.0 there.0 (sym here.2 ∙ there.2) in
      behind_apart place.functions [] all (λ one other b c is. cc) one other here.0 there.0 here.1 there.1 (ap (λ (b : Binding). b.declaration) same);
  around = λ text slot is.
      let here = seen text slot is in
      found_around all (innermost place.around) placed.around placed.active text here.0 _ (subst (FindsBy all (innermost place.around) placed.around placed.active text) here.2 (placed.named.finds text));
})
  where
    all : List Mark
    all = placed.all

    place : Place
    place = placed.place

    seen : (text : Text) (slot : ℕ) → slice_get (names_of_seen all place placed.active (upvalues_of place.functions all) (head_or [] placed.ahead.sources) placed.captures) slot ≡ Some text →
        (b : Binding) × (slice_get (upvalues_of place.functions all) slot ≡ Some b) × (place.scope text ≡ Some b)
    seen text slot is = seen_at all place placed.active (upvalues_of place.functions all) (head_or [] placed.ahead.sources) placed.captures slot text is
