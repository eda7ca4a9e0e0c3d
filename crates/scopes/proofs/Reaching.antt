-- What a walk over the functions around a mention makes of their upvalues is what the marks give them.
use Rattle.std.proofs.Common.{◌≡◌, ◌==◌, ◌&&◌, ◌||◌, ◌⊎◌, inl, inr, ℕ, zero, suc, ◌+◌, ◌<◌, ◌≤◌, Bool, true, false, not, List, [], ◌∷◌, ◌++◌, length, get_or, Some, None, if◌then◌else◌, refl, sym, ap, ◌∙◌, subst, length-append, append-nil, arith}
use Rattle.std.proofs.Math.ListN.{length-set}
use Rattle.lua_num.specs.Bytes.{Text}
use Rattle.lua_tree.specs.Outline.{Binding, Mark, mention, innermost}
use Rattle.lua_tree.specs.Scoping.{inside_of, is_one_of, is_known, with_mention, upvalues_of, slot_of, outer_functions, outer_of, local_use, upvalue_use, use_in, uses_by}
use Rattle.lua_tree.specs.Resolved.{declarations_in, functions_in}
use Rattle.scopes.specs.Uses.{source_use, source_uses}
use Rattle.scopes.specs.Standing.{binding_of, AreNested, AreWellMade, numbers_of}
use Rattle.scopes.specs.Capturing.{slot_from, IsKnown, IsAdded, Captured, Passes, Reached}
use Rattle.scopes.specs.declared.uses.Binding.{Binding as Bound}
use Rattle.scopes.specs.declared.uses.Captures.{Captures}
use Rattle.scopes.specs.declared.uses.Source.{Source}
use Rattle.scopes.proofs.Marks.{upvalues_both, outer_both, declarations_both, nested_stays}
use Rattle.scopes.proofs.Quiet.{made_more, made_both}
use Rattle.scopes.proofs.Known.{same_number, turned, equal_numbers, or_more, or_other, or_second, Grows, upvalues_grown, if_grown, have_all, sources_stay, sources_stay_by, HaveSources}
use Rattle.scopes.proofs.States.{IsAt, AreAt, one_at, SameAt, at_others, are_others, set_at, slot_found, slot_missed, slot_last, numbers_last, source_uses_last, uses_by_last, numbers_length}

-- tests
not_true : (t : Bool) → (t ≡ true → ⊥) → t ≡ false
not_true true differ = absurd (differ refl)
not_true false differ = refl

differ_test : (n m : ℕ) → (n ≡ m → ⊥) → (n == m) ≡ false
differ_test n m differ = not_true (n == m) (λ h. differ (equal_numbers n m h))

-- functions around a place
inside_step : (t : Bool) (f g : ℕ) (inside around : List ℕ) → (is_one_of f inside ≡ true → is_one_of f around ≡ true) → is_one_of f (if t then [] else g ∷ inside) ≡ true → (f == g) || is_one_of f around ≡ true
inside_step true f g inside around go h = cc
inside_step false f g inside around go h = or_more (f == g) (is_one_of f inside) (is_one_of f around) go h

pub inside_around : (f home : ℕ) (around : List ℕ) → is_one_of f (inside_of home around) ≡ true → is_one_of f around ≡ true
inside_around f home [] h = h
inside_around f home (g ∷ around) h = inside_step (g == home) f g (inside_of home around) around (inside_around f home around) h

less_step : (t one : Bool) (f g h : ℕ) → (f == h) ≡ t → h < g → (one ≡ true → f < h) → t || one ≡ true → f < g
less_step true one f g h e below go i = let same : f ≡ h = equal_numbers f h e in omega arith
less_step false one f g h e below go i = let less : f < h = go i in omega arith

pub nested_less : (f g : ℕ) (around : List ℕ) (marks : List Mark) → AreNested (g ∷ around) marks → is_one_of f around ≡ true → f < g
nested_less f g [] marks nested h = cc
nested_less f g (k ∷ around) marks nested h =
    less_step (f == k) (is_one_of f around) f g k refl nested.0 (nested_less f k around marks nested.3) h

pub nested_not : (g home : ℕ) (around : List ℕ) (marks : List Mark) → AreNested (g ∷ around) marks → is_one_of g (inside_of home around) ≡ false
nested_not g home around marks nested =
    not_true (is_one_of g (inside_of home around)) (λ h. let less : g < g = nested_less g g around marks nested (inside_around g home around h) in omega arith)

-- a mention behind marks
abbrev pub mentioned : List Mark → (line : ℕ) → Text → Binding → (around : List ℕ) → List Mark
mentioned marks line name binding around = marks ++ mention line name (Some binding) around ∷ []

pub mention_upvalues : (f : ℕ) (marks : List Mark) (line : ℕ) (name : Text) (binding : Binding) (around : List ℕ) →
    upvalues_of f (mentioned marks line name binding around) ≡ with_mention f binding around (upvalues_of f marks)
mention_upvalues f marks line name binding around = upvalues_both f [] marks (mention line name (Some binding) around ∷ [])

pub unmentioned : (f : ℕ) (marks : List Mark) (line : ℕ) (name : Text) (binding : Binding) (around : List ℕ) → is_one_of f (inside_of binding.home around) ≡ false →
    upvalues_of f (mentioned marks line name binding around) ≡ upvalues_of f marks
unmentioned f marks line name binding around h =
    mention_upvalues f marks line name binding around ∙
    ap (λ t. if t && not (is_known binding.declaration (upvalues_of f marks)) then upvalues_of f marks ++ binding ∷ [] else upvalues_of f marks) h

pub outer_mentioned : (f : ℕ) (marks : List Mark) (line : ℕ) (name : Text) (binding : Binding) (around : List ℕ) → outer_of f (mentioned marks line name binding around) ≡ outer_of f marks
outer_mentioned zero marks line name binding around = refl
outer_mentioned (suc f) marks line name binding around =
    ap (λ x. get_or x f 0) (outer_both marks (mention line name (Some binding) around ∷ []) ∙ append-nil (outer_functions marks))

pub made_mentioned : (marks : List Mark) (line : ℕ) (name : Text) (binding : Binding) (around : List ℕ) → AreWellMade marks marks → binding.declaration < declarations_in marks → AreNested around marks →
    AreWellMade (mentioned marks line name binding around) (mentioned marks line name binding around)
made_mentioned marks line name binding around made declared nested =
    let more : List Mark = mention line name (Some binding) around ∷ [] in
    made_both (marks ++ more) marks more (made_more marks more marks made)
    (omega (arith, declarations_both marks more), nested_stays around marks more nested, tt)

-- outside the functions inside the declaration's own nothing is captured
passes_none : (b : Bound) (g : ℕ) (old new : List Captures) (from source : Source) → g ≤ b.home → Passes b g old new from source → (new ≡ old) × (source ≡ from)
passes_none b g old new from source below (inl p) = (p.1, p.2)
passes_none b g old new from source below (inr p) = absurd (omega (arith, p.0))

pub reached_none : (b : Bound) (around : List ℕ) (old new : List Captures) (source : Source) → ((f : ℕ) → is_one_of f around ≡ true → f ≤ b.home) → Reached b around old new source →
    (new ≡ old) × (source ≡ Source.Local b.declaration)
reached_none b [] old new source below reached = reached
reached_none b (g ∷ around) old new source below reached =
    let rest : (reached.0 ≡ old) × (reached.1 ≡ Source.Local b.declaration) = reached_none b around old reached.0 reached.1 (λ f h. below f (or_second (f == g) (is_one_of f around) h)) reached.2 in
    let first : (new ≡ reached.0) × (source ≡ reached.1) = passes_none b g reached.0 new reached.1 source (below g (ap (λ t. t || is_one_of g around) (same_number g))) reached.3 in
    (first.0 ∙ rest.0, first.1 ∙ rest.1)

-- what was captured is what the marks give, and the source is what is meant
pub record Mentioned (functions new : List Captures) (marks : List Mark) (f : ℕ) (binding : Binding) (source : Source) : Type 0 where
  pub are : AreAt 0 new marks
  pub count : length new ≡ length functions
  pub meant : source_use source ≡ use_in f marks (Some binding)

below_step : (t one : Bool) (f g home : ℕ) → (f == g) ≡ t → g ≡ home → (one ≡ true → f < g) → t || one ≡ true → f ≤ home
below_step true one f g home e is go i = let same : f ≡ g = equal_numbers f g e in omega arith
below_step false one f g home e is go i = let less : f < g = go i in omega arith

pub below_home : (f g home : ℕ) (around : List ℕ) (marks : List Mark) → AreNested (g ∷ around) marks → (g == home) ≡ true → is_one_of f (g ∷ around) ≡ true → f ≤ home
below_home f g home around marks nested e h =
    below_step (f == g) (is_one_of f around) f g home refl (equal_numbers g home e) (nested_less f g around marks nested) h

module _ (marks : List Mark) (line : ℕ) (name : Text) (b : Bound) (functions : List Captures) (made : AreWellMade marks marks) (declared : b.declaration < declarations_in marks) (count : functions_in marks ≡ length functions) (are : AreAt 0 functions marks) where
  abbrev upto : List ℕ → List Mark
  upto around = mentioned marks line name (binding_of b) around

  -- in the function of the declaration
  at_home : (g : ℕ) (around : List ℕ) (new : List Captures) (source : Source) → AreNested (g ∷ around) marks → (g == b.home) ≡ true → Reached b (g ∷ around) functions new source →
      Mentioned functions new (upto (g ∷ around)) g (binding_of b) source
  at_home g around new source nested e reached =
      let none : (new ≡ functions) × (source ≡ Source.Local b.declaration) = reached_none b (g ∷ around) functions new source (λ f h. below_home f g b.home around marks nested e h) reached in
      let outside = λ (f : ℕ). ap (λ t. is_one_of f (if t then [] else g ∷ inside_of b.home around)) e in
      let same = λ (f : ℕ). unmentioned f marks line name (binding_of b) (g ∷ around) (outside f) in
      let kept : AreAt 0 functions (upto (g ∷ around)) = are_others 0 functions marks (upto (g ∷ around)) (λ f low high. record {
        upvalues = same f;
        sources = sources_stay f marks (upto (g ∷ around)) (outer_mentioned f marks line name (binding_of b) (g ∷ around)) (same f) (λ k. upvalues_grown k marks (mention line name (Some (binding_of b)) (g ∷ around) ∷ [])) made;
      }) are in
      record {
        are = subst (λ x. AreAt 0 x (upto (g ∷ around))) (sym none.0) kept;
        count = ap length none.0;
        meant = ap source_use none.1 ∙ sym (ap (λ t. if t then local_use b.declaration else upvalue_use (slot_of b.declaration (upvalues_of g (upto (g ∷ around))))) (turned g b.home true e));
      }

  -- one function further inside
  module _ (g h : ℕ) (around : List ℕ) (nested : AreNested (g ∷ h ∷ around) marks) (differ : (g == b.home) ≡ false) (in_rest : is_one_of b.home (h ∷ around) ≡ true) where
    abbrev outer_marks : List Mark
    outer_marks = upto (h ∷ around)

    abbrev inner_marks : List Mark
    inner_marks = upto (g ∷ h ∷ around)

    abbrev known_at : List Binding
    known_at = upvalues_of g marks

    inside_more : (f : ℕ) → is_one_of f (inside_of b.home (g ∷ h ∷ around)) ≡ (f == g) || is_one_of f (inside_of b.home (h ∷ around))
    inside_more f = ap (λ t. is_one_of f (if t then [] else g ∷ inside_of b.home (h ∷ around))) differ

    before_at : upvalues_of g outer_marks ≡ known_at
    before_at = unmentioned g marks line name (binding_of b) (h ∷ around) (nested_not g b.home (h ∷ around) marks nested)

    after_at : upvalues_of g inner_marks ≡ (if not (is_known b.declaration known_at) then known_at ++ binding_of b ∷ [] else known_at)
    after_at =
        mention_upvalues g marks line name (binding_of b) (g ∷ h ∷ around) ∙
        ap (λ t. if t && not (is_known b.declaration known_at) then known_at ++ binding_of b ∷ [] else known_at)
        (inside_more g ∙ ap (λ t. t || is_one_of g (inside_of b.home (h ∷ around))) (same_number g))

    others_at : (f : ℕ) → (f == g) ≡ false → upvalues_of f inner_marks ≡ upvalues_of f outer_marks
    others_at f e =
        mention_upvalues f marks line name (binding_of b) (g ∷ h ∷ around) ∙
        ap (λ t. if t && not (is_known b.declaration (upvalues_of f marks)) then upvalues_of f marks ++ binding_of b ∷ [] else upvalues_of f marks)
        (inside_more f ∙ ap (λ t. t || is_one_of f (inside_of b.home (h ∷ around))) e) ∙
        sym (mention_upvalues f marks line name (binding_of b) (h ∷ around))

    grown_at : (added : List Binding) × (upvalues_of g inner_marks ≡ upvalues_of g outer_marks ++ added)
    grown_at =
        let grown : (more : List Binding) × ((if not (is_known b.declaration known_at) then known_at ++ binding_of b ∷ [] else known_at) ≡ known_at ++ more) = if_grown (not (is_known b.declaration known_at)) known_at (binding_of b) in
        (grown.0, after_at ∙ grown.1 ∙ ap (λ x. x ++ grown.0) (sym before_at))

    grows_by : (t : Bool) (f : ℕ) → (f == g) ≡ t → (added : List Binding) × (upvalues_of f inner_marks ≡ upvalues_of f outer_marks ++ added)
    grows_by true f e = subst (λ x. (added : List Binding) × (upvalues_of x inner_marks ≡ upvalues_of x outer_marks ++ added)) (sym (equal_numbers f g e)) grown_at
    grows_by false f e = ([], others_at f e ∙ sym (append-nil (upvalues_of f outer_marks)))

    grows : Grows outer_marks inner_marks
    grows f = grows_by (f == g) f refl

    made_outer : AreWellMade outer_marks outer_marks
    made_outer = made_mentioned marks line name (binding_of b) (h ∷ around) made declared nested.3

    outer_same : (f : ℕ) → outer_of f inner_marks ≡ outer_of f outer_marks
    outer_same f = outer_mentioned f marks line name (binding_of b) (g ∷ h ∷ around) ∙ sym (outer_mentioned f marks line name (binding_of b) (h ∷ around))

    same_at : (f : ℕ) → upvalues_of f inner_marks ≡ upvalues_of f outer_marks → SameAt f outer_marks inner_marks
    same_at f e = record { upvalues = e; sources = sources_stay f outer_marks inner_marks (outer_same f) e grows made_outer }

    outer_is : outer_of g outer_marks ≡ h
    outer_is = outer_mentioned g marks line name (binding_of b) (h ∷ around) ∙ nested.2

    meant_upvalue : (slot : ℕ) → slot ≡ slot_of b.declaration (upvalues_of g inner_marks) → upvalue_use slot ≡ use_in g inner_marks (Some (binding_of b))
    meant_upvalue slot e =
        ap upvalue_use e ∙ sym (ap (λ t. if t then local_use b.declaration else upvalue_use (slot_of b.declaration (upvalues_of g inner_marks))) (turned g b.home false differ))

    -- it is known there, or comes last
    when_known : (before after : Captures) (slot : ℕ) → IsAt g before outer_marks → IsKnown b.declaration before after slot → IsAt g after inner_marks × (upvalue_use slot ≡ use_in g inner_marks (Some (binding_of b)))
    when_known before after slot is known =
        let found : (is_known b.declaration (upvalues_of g outer_marks) ≡ true) × (slot ≡ 0 + slot_of b.declaration (upvalues_of g outer_marks)) =
        slot_found b.declaration slot 0 (upvalues_of g outer_marks) (subst (λ x. slot_from b.declaration 0 x ≡ Some slot) is.declarations known.0) in
        let there : is_known b.declaration known_at ≡ true = subst (λ x. is_known b.declaration x ≡ true) before_at found.0 in
        let same : upvalues_of g inner_marks ≡ upvalues_of g outer_marks = after_at ∙ ap (λ t. if not t then known_at ++ binding_of b ∷ [] else known_at) there ∙ sym before_at in
        let in_slot : slot ≡ slot_of b.declaration (upvalues_of g outer_marks) = omega (arith, found.1) in (
          subst (λ x. IsAt g x inner_marks) (sym known.1) (at_others g before outer_marks inner_marks (same_at g same) is),
          meant_upvalue slot (in_slot ∙ ap (slot_of b.declaration) (sym same)),
        )

    when_added : (before after : Captures) (from : Source) (slot : ℕ) → IsAt g before outer_marks → source_use from ≡ use_in h outer_marks (Some (binding_of b)) → IsAdded b.declaration from before after slot →
        IsAt g after inner_marks × (upvalue_use slot ≡ use_in g inner_marks (Some (binding_of b)))
    when_added before after from slot is meant added =
        let missed : is_known b.declaration (upvalues_of g outer_marks) ≡ false =
        slot_missed b.declaration 0 (upvalues_of g outer_marks) (subst (λ x. slot_from b.declaration 0 x ≡ None) is.declarations added.0) in
        let missing : is_known b.declaration known_at ≡ false = subst (λ x. is_known b.declaration x ≡ false) before_at missed in
        let more : upvalues_of g inner_marks ≡ upvalues_of g outer_marks ++ binding_of b ∷ [] =
        after_at ∙ ap (λ t. if not t then known_at ++ binding_of b ∷ [] else known_at) missing ∙ ap (λ x. x ++ binding_of b ∷ []) (sym before_at) in
        let less : h < g = nested.0 in
        let apart : (h == g) ≡ false = differ_test h g (λ e. omega arith) in
        let use_there : use_in h outer_marks (Some (binding_of b)) ≡ use_in h inner_marks (Some (binding_of b)) =
        ap (λ x. if b.home == h then local_use b.declaration else upvalue_use (slot_of b.declaration x)) (sym (others_at h apart)) in
        let have : HaveSources h outer_marks (upvalues_of g outer_marks) = subst (λ x. HaveSources x outer_marks (upvalues_of g outer_marks)) outer_is (have_all g outer_marks made_outer) in
        let counted : length before.declarations.items ≡ length (upvalues_of g outer_marks) = ap length is.declarations ∙ numbers_length (upvalues_of g outer_marks) in (
          record {
            declarations = added.2 ∙ ap (λ x. x ++ b.declaration ∷ []) is.declarations ∙ sym (numbers_last (upvalues_of g outer_marks) (binding_of b)) ∙ ap numbers_of (sym more);
            few = omega (arith, ap length added.2, length-append before.declarations.items (b.declaration ∷ []), added.1);
            sources = ap source_uses added.3 ∙ source_uses_last before.sources.items from ∙
                ap (λ x. x ++ source_use from ∷ []) (is.sources ∙ ap (λ x. uses_by x outer_marks (upvalues_of g outer_marks)) outer_is ∙ sym (sources_stay_by h outer_marks inner_marks (upvalues_of g outer_marks) grows have)) ∙
                ap (λ x. uses_by h inner_marks (upvalues_of g outer_marks) ++ x ∷ []) (meant ∙ use_there) ∙
                sym (uses_by_last h inner_marks (upvalues_of g outer_marks) (binding_of b)) ∙
                ap (λ x. uses_by h inner_marks x) (sym more) ∙
                ap (λ x. uses_by x inner_marks (upvalues_of g inner_marks)) (sym (outer_same g ∙ outer_is));
          },
          meant_upvalue slot (added.4 ∙ counted ∙ sym (slot_last (upvalues_of g outer_marks) (binding_of b) missed) ∙ ap (slot_of b.declaration) (sym more)),
        )

    when_captured : (before after : Captures) (from : Source) (slot : ℕ) → IsAt g before outer_marks → source_use from ≡ use_in h outer_marks (Some (binding_of b)) → IsKnown b.declaration before after slot ⊎ IsAdded b.declaration from before after slot →
        IsAt g after inner_marks × (upvalue_use slot ≡ use_in g inner_marks (Some (binding_of b)))
    when_captured before after from slot is meant (inl known) = when_known before after slot is known
    when_captured before after from slot is meant (inr added) = when_added before after from slot is meant added

    further : (between new : List Captures) (from source : Source) → Mentioned functions between outer_marks h (binding_of b) from → Passes b g between new from source → Mentioned functions new inner_marks g (binding_of b) source
    further between new from source outer (inl p) = let less : b.home < g = nested_less b.home g (h ∷ around) marks nested in_rest in absurd (omega (arith, p.0))
    further between new from source outer (inr p) =
        let slot : ℕ = p.1.0 in
        let captured : Captured b.declaration from g between new slot = p.1.1 in
        let inside : g < length between = omega (arith, nested.1, count, outer.count) in
        let there : IsAt g captured.after inner_marks × (upvalue_use slot ≡ use_in g inner_marks (Some (binding_of b))) =
        when_captured captured.before captured.after from slot (one_at g between captured.before outer_marks outer.are inside captured.stands) outer.meant captured.how in
        record {
          are = subst (λ x. AreAt 0 x inner_marks) (sym captured.put)
              (set_at g between captured.after outer_marks inner_marks (λ f low apart. same_at f (others_at f (differ_test f g apart))) there.0 outer.are);
          count = ap length captured.put ∙ length-set between g captured.after ∙ outer.count;
          meant = ap source_use p.1.2 ∙ there.1;
        }

  pub reached_is : (around : List ℕ) (new : List Captures) (source : Source) → AreNested around marks → is_one_of b.home around ≡ true → Reached b around functions new source →
      Mentioned functions new (upto around) (innermost around) (binding_of b) source
  reached_is [] new source nested inside reached = absurd nested
  reached_is (g ∷ []) new source nested inside reached = by_test (b.home == g) refl inside
    where
      by_test : (t : Bool) → (b.home == g) ≡ t → t || false ≡ true → Mentioned functions new (upto (g ∷ [])) g (binding_of b) source
      by_test true e i = at_home g [] new source nested (turned b.home g true e) reached
      by_test false e i = cc
  reached_is (g ∷ h ∷ around) new source nested inside reached =
      by_test (b.home == g) refl (λ in_rest. reached_is (h ∷ around) reached.0 reached.1 nested.3 in_rest reached.2)
    where
      by_test : (t : Bool) → (b.home == g) ≡ t → (is_one_of b.home (h ∷ around) ≡ true → Mentioned functions reached.0 (upto (h ∷ around)) h (binding_of b) reached.1) →
          Mentioned functions new (upto (g ∷ h ∷ around)) g (binding_of b) source
      by_test true e go = at_home g (h ∷ around) new source nested (turned b.home g true e) reached
      by_test false e go =
          let in_rest : is_one_of b.home (h ∷ around) ≡ true = or_other (b.home == g) (is_one_of b.home (h ∷ around)) inside e in
          further g h around nested (turned b.home g false e) in_rest reached.0 new reached.1 source (go in_rest) reached.3
