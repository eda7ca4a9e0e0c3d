-- The locals that the steps of a function bring into scope, in the order of the list: each has a declaration of its own, or is hidden, and is captured where its declaration is.
use Rattle.std.proofs.Common.{◌≡◌, ◌<◌, ◌≤◌, ◌⊎◌, inl, inr, ℕ, zero, suc, ◌+◌, ◌-◌, Bool, true, false, nat_lt, List, [], ◌∷◌, ◌++◌, append_assoc, drop, length, map, refl, sym, ap, ◌∙◌, arith, subst}
use Rattle.std.proofs.lemmas.Bool.Decides.{nat_tests}
use Rattle.std.proofs.lemmas.List.{map-append}
use Rattle.std.proofs.lemmas.Option.{none-some, same_Some}
use Rattle.std.specs.Prelude.{None, Some, codes, slice_get}
use Rattle.lua_num.specs.Bytes.{Text}
use Rattle.lua_tree.specs.Outline.{Mark}
use Rattle.lua_tree.specs.Resolved.{captured_below, declarations_in}
use Rattle.lua_tree.specs.Scoping.{is_captured}
use Rattle.lua_tree.specs.Syntax.{Statement, assignment, call_statement, function_statement, local_function, local_statement}
use Rattle.opcode.specs.declared.op.Op.{Op}
use Rattle.recover_expr.specs.Drafts.{Part, statement_part, values_part, condition_part, head_part}
use Rattle.recover_expr.specs.Placing.{Steps}
use Rattle.recover_expr.specs.declared.steps.StepKind.{StepKind}
use Rattle.scheme.specs.Lists.{adjust}
use Rattle.scheme.specs.Making.{Maker, activate, declare, head_or, hidden, jump_to, put, take_registers, used}
use Rattle.scheme.specs.Scheme.{all_coded, inner, statement_made}
use Rattle.scheme.specs.Statements.{generic_names, numeric_names}
use Rattle.scheme.specs.declared.making.Active.{Active}
use Rattle.scheme.specs.declared.making.Local.{Local}
use Rattle.scheme.specs.declared.making.Piece.{Piece}
use Rattle.scheme_stands.proofs.Growth.{at_end, kept_end, length_end}
use Rattle.scheme_stands.proofs.Walks.{drop_one}
use Rattle.same_flow.specs.Performed.{counted_values, kind_made}
use Rattle.same_flow.specs.Told.{IsActPart, IsDeclarationPart, PartFits}
use Rattle.same_flow.proofs.KeptActive.{active_kept, adjust_kept, all_kept, assignment_kept, closure_kept, function_statement_kept, kept, return_kept}
use Rattle.same_flow.proofs.RunKeeps.{counted_kept, declared_active}
use Rattle.reads_back.proofs.PlacedCaptures.{element_left, element_right, in_turn_at}
use Rattle.reads_back.proofs.PlacedLocals.{InTurn}

-- ---- which locals a step brings

-- the names that it declares
abbrev pub names_by : StepKind → Part → List Text
names_by (StepKind.Declaration end captured) (statement_part (local_function text body)) = text ∷ []
names_by (StepKind.Declaration end captured) (statement_part (local_statement names es)) = names
names_by (StepKind.Head numeric foot end variables_end captured) (head_part es names) = names
names_by kind part = []

-- the hidden locals of a loop
abbrev pub hidden_by : StepKind → Part → List Local
hidden_by (StepKind.Head true foot end variables_end captured) (head_part es names) = numeric_names
hidden_by (StepKind.Head false foot end variables_end captured) (head_part es names) = generic_names
hidden_by kind part = []

abbrev pub locals_by : StepKind → Part → Maker → List Local
locals_by kind part m = hidden_by kind part ++ (declare (names_by kind part) m).value

abbrev pub locals_of : List Active → List Local
locals_of active = map (λ (one : Active). one.local) active

locals_end : (active : List Active) (one : Active) → locals_of (active ++ one ∷ []) ≡ locals_of active ++ one.local ∷ []
locals_end active one = map-append (λ (one : Active). one.local) active (one ∷ [])

pub activated : (locals : List Local) (m : Maker) → locals_of (activate locals m).active ≡ locals_of m.active ++ locals
activated [] m = sym (nothing (locals_of m.active))
  where
    nothing : (xs : List Local) → xs ++ [] ≡ xs
    nothing [] = refl
    nothing (x ∷ xs) = ap (λ rest. x ∷ rest) (nothing xs)
activated (local ∷ locals) m =
    activated locals _
    ∙ ap (λ front. front ++ locals) (locals_end m.active (record { local = local; listed = length m.locals }))
    ∙ append_assoc (locals_of m.active) (local ∷ []) locals

-- behind these active locals there are these
abbrev Brings : List Active → List Local → List Active → Type 0
Brings before new behind = locals_of behind ≡ locals_of before ++ new

brings_none : {before behind : List Active} → behind ≡ before → Brings before [] behind
brings_none {before} {behind} same = ap locals_of same ∙ sym (nothing (locals_of before))
  where
    nothing : (xs : List Local) → xs ++ [] ≡ xs
    nothing [] = refl
    nothing (x ∷ xs) = ap (λ rest. x ∷ rest) (nothing xs)

brings_these : {before : List Active} (locals : List Local) (m : Maker) → m.active ≡ before → Brings before locals (activate locals m).active
brings_these locals m same = activated locals m ∙ ap (λ (active : List Active). locals_of active ++ locals) same

act_brings : (s : Statement) → IsActPart s → (m : Maker) → Brings m.active [] (statement_made s 1 None m).active
act_brings (assignment targets es) fits m = brings_none (active_kept (assignment_kept 1 targets es) m)
act_brings (call_statement e) fits m = brings_none (active_kept ((kept e).multi Op.Call (Some 0)) m)
act_brings (function_statement path method body) fits m = brings_none (active_kept (function_statement_kept 1 path method body) m)
act_brings s fits m = absurd fits

declaration_brings : (end : ℕ) (captured : Bool) (s : Statement) → IsDeclarationPart s → (m : Maker) → Brings m.active (locals_by (StepKind.Declaration end captured) (statement_part s) m) (statement_made s 1 None m).active
declaration_brings end captured (local_function text body) fits m =
    let declared = declare (text ∷ []) m in
    let taken = take_registers 1 declared.after in
    ap locals_of (active_kept (closure_kept 1 (inner body false) m.free) (activate declared.value taken)) ∙ brings_these declared.value taken refl
declaration_brings end captured (local_statement names es) fits m =
    let declared = declare names m in
    let valued = adjust 1 (all_coded es) (length names) declared.after in
    brings_these declared.value valued (active_kept (adjust_kept 1 (all_coded es) (all_kept es) (length names)) declared.after ∙ declared_active names m)
declaration_brings end captured s fits m = absurd fits

head_brings : {before : List Active} (hidden variables : List Local) (valued next : Maker) → valued.active ≡ before → next.active ≡ (activate hidden valued).active →
    Brings before (hidden ++ variables) (activate variables next).active
head_brings {before} hidden variables valued next same next_is =
    activated variables next ∙ ap (λ front. front ++ variables) (ap locals_of next_is ∙ brings_these hidden valued same)
    ∙ append_assoc (locals_of before) hidden variables

-- behind the active locals there are those that the step brings
pub kind_brings_locals : (code : Steps) (kind : StepKind) (part : Part) (m : Maker) → PartFits kind part → locals_of (kind_made code kind part m).active ≡ locals_of m.active ++ locals_by kind part m
kind_brings_locals code StepKind.Act (statement_part s) m fits = act_brings s fits m
kind_brings_locals code (StepKind.Declaration end captured) (statement_part s) m fits = declaration_brings end captured s fits m
kind_brings_locals code StepKind.Return (values_part es) m fits = brings_none (active_kept (return_kept 1 (all_coded es) (all_kept es)) m)
kind_brings_locals code (StepKind.Test when target negated) (condition_part e) m fits = brings_none (active_kept ((kept e).jump_if when target) m)
kind_brings_locals code (StepKind.Head true foot end variables_end captured) (head_part values names) m fits =
    let declared = (declare names m).after in
    let valued = counted_values values declared in
    head_brings numeric_names (declare names m).value valued (put 1 (Piece.Jump Op.ForPrep declared.free foot) (activate numeric_names valued)) (counted_kept values declared ∙ declared_active names m) refl
kind_brings_locals code (StepKind.Head false foot end variables_end captured) (head_part values names) m fits =
    let declared = (declare names m).after in
    let valued = adjust 1 (all_coded values) 3 declared in
    head_brings generic_names (declare names m).value valued (used (declared.free + 6) (jump_to 1 foot (activate generic_names valued))) (active_kept (adjust_kept 1 (all_coded values) (all_kept values) 3) declared ∙ declared_active names m) refl
kind_brings_locals code (StepKind.Jump target) part m fits = brings_none refl
kind_brings_locals code (StepKind.Close from step) part m fits = brings_none refl
kind_brings_locals code (StepKind.Foot true target) part m fits = brings_none refl
kind_brings_locals code (StepKind.Foot false target) part m fits = brings_none refl
kind_brings_locals code kind part m fits = absurd fits

-- ---- lists of locals

pub either_part : {A : Type 0} (xs ys : List A) (at : ℕ) (x : A) → slice_get (xs ++ ys) at ≡ Some x → ((at < length xs) × (slice_get xs at ≡ Some x)) ⊎ ((i : ℕ) × (at ≡ length xs + i) × (slice_get ys i ≡ Some x))
either_part xs ys at x there = by (nat_lt at (length xs)) refl
  where
    by : (b : Bool) → nat_lt at (length xs) ≡ b → ((at < length xs) × (slice_get xs at ≡ Some x)) ⊎ ((i : ℕ) × (at ≡ length xs + i) × (slice_get ys i ≡ Some x))
    by true test = let below : at < length xs = grind (arith, nat_tests) in inl (below, sym (element_left xs ys at below) ∙ there)
    by false test =
        let above : length xs ≤ at = grind (arith, nat_tests) in
        let same : at ≡ length xs + (at - length xs) = omega (arith, above) in
        inr (at - length xs, same, sym (element_right xs ys (at - length xs) at same) ∙ there)

-- the active locals stand in this list, each in its place
abbrev pub StandIn : List Local → List Active → Type 0
StandIn locals active = (register : ℕ) (one : Active) → slice_get active register ≡ Some one → slice_get locals one.listed ≡ Some one.local

pub stand_longer : (locals more : List Local) (active : List Active) → StandIn locals active → StandIn (locals ++ more) active
stand_longer locals more active stand register one there = kept_end locals more one.listed one.local (stand register one there)

local_there : (active : List Active) (i : ℕ) (one : Active) → slice_get active i ≡ Some one → slice_get (locals_of active) i ≡ Some one.local
local_there [] i one there = absurd (none-some one there)
local_there (first ∷ active) zero one there = ap (λ (one : Active). Some one.local) (same_Some first one there)
local_there (first ∷ active) (suc i) one there = local_there active i one there

pub stand_both : (locals : List Local) (active new : List Active) → StandIn locals active → InTurn (length locals) new → StandIn (locals ++ locals_of new) (active ++ new)
stand_both locals active new stand turn register one there = by (either_part active new register one there)
  where
    by : ((register < length active) × (slice_get active register ≡ Some one)) ⊎ ((i : ℕ) × (register ≡ length active + i) × (slice_get new i ≡ Some one)) → slice_get (locals ++ locals_of new) one.listed ≡ Some one.local
    by (inl old) = stand_longer locals (locals_of new) active stand register one old.1
    by (inr later) = element_right locals (locals_of new) later.0 one.listed (in_turn_at (length locals) new turn later.0 one later.2) ∙ local_there new later.0 one later.2

-- ---- which declarations they have

module _ (all : List Mark) where
  -- those of the list have declarations between these, no two the same, and are captured as these are; the others are hidden
  pub record AreSound (low high : ℕ) (locals : List Local) : Type 0 where
    pub low_of : (i : ℕ) (one : Local) (d : ℕ) → slice_get locals i ≡ Some one → one.declaration ≡ Some d → low ≤ d
    pub high_of : (i : ℕ) (one : Local) (d : ℕ) → slice_get locals i ≡ Some one → one.declaration ≡ Some d → d < high
    pub captured : (i : ℕ) (one : Local) (d : ℕ) → slice_get locals i ≡ Some one → one.declaration ≡ Some d → one.captured ≡ is_captured d all
    pub hidden : (i : ℕ) (one : Local) → slice_get locals i ≡ Some one → one.declaration ≡ None → one.captured ≡ false
    pub once : (i j : ℕ) (one other : Local) (d : ℕ) → slice_get locals i ≡ Some one → slice_get locals j ≡ Some other → one.declaration ≡ Some d → other.declaration ≡ Some d → i ≡ j

  abbrev Where : List Local → List Local → ℕ → Local → Type 0
  Where xs ys at x = ((at < length xs) × (slice_get xs at ≡ Some x)) ⊎ ((i : ℕ) × (at ≡ length xs + i) × (slice_get ys i ≡ Some x))

  pub sound_both : (low mid high : ℕ) (xs ys : List Local) → low ≤ mid → mid ≤ high → AreSound low mid xs → AreSound mid high ys → AreSound low high (xs ++ ys)
  sound_both low mid high xs ys below above one two = record {
    low_of = λ i x d there is. lows i x d is (either_part xs ys i x there);
    high_of = λ i x d there is. highs i x d is (either_part xs ys i x there);
    captured = λ i x d there is. captures i x d is (either_part xs ys i x there);
    hidden = λ i x there is. hides i x is (either_part xs ys i x there);
    once = λ i j x y d there here is also. same i j x y d is also (either_part xs ys i x there) (either_part xs ys j y here);
  }
    where
      lows : (i : ℕ) (x : Local) (d : ℕ) → x.declaration ≡ Some d → Where xs ys i x → low ≤ d
      lows i x d is (inl w) = one.low_of i x d w.1 is
      lows i x d is (inr w) = let h = two.low_of w.0 x d w.2 is in omega (arith, h, below)

      highs : (i : ℕ) (x : Local) (d : ℕ) → x.declaration ≡ Some d → Where xs ys i x → d < high
      highs i x d is (inl w) = let h = one.high_of i x d w.1 is in omega (arith, h, above)
      highs i x d is (inr w) = two.high_of w.0 x d w.2 is

      captures : (i : ℕ) (x : Local) (d : ℕ) → x.declaration ≡ Some d → Where xs ys i x → x.captured ≡ is_captured d all
      captures i x d is (inl w) = one.captured i x d w.1 is
      captures i x d is (inr w) = two.captured w.0 x d w.2 is

      hides : (i : ℕ) (x : Local) → x.declaration ≡ None → Where xs ys i x → x.captured ≡ false
      hides i x is (inl w) = one.hidden i x w.1 is
      hides i x is (inr w) = two.hidden w.0 x w.2 is

      same : (i j : ℕ) (x y : Local) (d : ℕ) → x.declaration ≡ Some d → y.declaration ≡ Some d → Where xs ys i x → Where xs ys j y → i ≡ j
      same i j x y d is also (inl v) (inl w) = one.once i j x y d v.1 w.1 is also
      same i j x y d is also (inl v) (inr w) = let a = one.high_of i x d v.1 is in let b = two.low_of w.0 y d w.2 also in absurd (omega (arith, a, b))
      same i j x y d is also (inr v) (inl w) = let a = two.low_of v.0 x d v.2 is in let b = one.high_of j y d w.1 also in absurd (omega (arith, a, b))
      same i j x y d is also (inr v) (inr w) = let e : v.0 ≡ w.0 = two.once v.0 w.0 x y d v.2 w.2 is also in let a : i ≡ length xs + v.0 = v.1 in let b : j ≡ length xs + w.0 = w.1 in omega (arith, e, a, b)

  -- hidden ones have no declaration
  abbrev AllHidden : List Local → Type 0
  AllHidden locals = (i : ℕ) (one : Local) → slice_get locals i ≡ Some one → (one.declaration ≡ None) × (one.captured ≡ false)

  sound_hidden : (low : ℕ) (locals : List Local) → AllHidden locals → AreSound low low locals
  sound_hidden low locals hides = record {
    low_of = λ i one d there is. absurd (none-some d (sym (hides i one there).0 ∙ is));
    high_of = λ i one d there is. absurd (none-some d (sym (hides i one there).0 ∙ is));
    captured = λ i one d there is. absurd (none-some d (sym (hides i one there).0 ∙ is));
    hidden = λ i one there is. (hides i one there).1;
    once = λ i j one other d there here is also. absurd (none-some d (sym (hides i one there).0 ∙ is));
  }

  hidden_more : (first : Local) (locals : List Local) → (first.declaration ≡ None) × (first.captured ≡ false) → AllHidden locals → AllHidden (first ∷ locals)
  hidden_more first locals is rest zero one there = subst (λ (one : Local). (one.declaration ≡ None) × (one.captured ≡ false)) (same_Some first one there) is
  hidden_more first locals is rest (suc i) one there = rest i one there

  hidden_none : AllHidden []
  hidden_none i one there = absurd (none-some one there)

  three_hidden : (one two three : Text) → AllHidden (hidden one ∷ hidden two ∷ hidden three ∷ [])
  three_hidden one two three =
      hidden_more (hidden one) (hidden two ∷ hidden three ∷ []) (refl, refl)
      (hidden_more (hidden two) (hidden three ∷ []) (refl, refl) (hidden_more (hidden three) [] (refl, refl) hidden_none))

  pub all_hidden : (kind : StepKind) (part : Part) → AllHidden (hidden_by kind part)
  all_hidden (StepKind.Head true foot end variables_end captured) (head_part es names) = three_hidden (codes "(for index)") (codes "(for limit)") (codes "(for step)")
  all_hidden (StepKind.Head false foot end variables_end captured) (head_part es names) = three_hidden (codes "(for generator)") (codes "(for state)") (codes "(for control)")
  all_hidden kind part = hidden_none

  -- ---- those that are declared

  head_at : {A : Type 0} (other : A) (xs : List A) (n : ℕ) (x : A) → slice_get xs n ≡ Some x → head_or other (drop n xs) ≡ x
  head_at other [] n x e = cc
  head_at other (y ∷ xs) zero x e = cc
  head_at other (y ∷ xs) (suc n) x e = head_at other xs n x e

  captured_length : (n : ℕ) → length (captured_below n all) ≡ n
  captured_length zero = refl
  captured_length (suc n) = length_end (captured_below n all) _ ∙ ap suc (captured_length n)

  captured_stands : (n d : ℕ) → d < n → slice_get (captured_below n all) d ≡ Some (is_captured d all)
  captured_stands zero d l = absurd (omega (arith, l))
  captured_stands (suc n) d l = by (nat_lt d n) refl (captured_stands n d)
    where
      by : (b : Bool) → nat_lt d n ≡ b → (d < n → slice_get (captured_below n all) d ≡ Some (is_captured d all)) → slice_get (captured_below n all ++ is_captured n all ∷ []) d ≡ Some (is_captured d all)
      by true e h = kept_end (captured_below n all) (is_captured n all ∷ []) d (is_captured d all) (h (grind (arith, nat_tests)))
      by false e h =
          let k : n ≤ d = grind (arith, nat_tests) in
          let same : d ≡ n = omega (arith, k, l) in
          ap (slice_get (captured_below n all ++ is_captured n all ∷ [])) (same ∙ sym (captured_length n)) ∙ at_end (captured_below n all) (is_captured n all) ∙ ap (λ k. Some (is_captured k all)) (sym same)

  -- which declarations are captured, from one on
  abbrev pub captures_from : ℕ → List Bool
  captures_from d = drop d (captured_below (declarations_in all) all)

  pub declared_place : (texts : List Text) (m : Maker) (i : ℕ) (one : Local) → slice_get (declare texts m).value i ≡ Some one → (i < length texts) × (one.declaration ≡ Some (m.ahead.declarations + i))
  declared_place [] m i one there = absurd (none-some one there)
  declared_place (text ∷ texts) m zero one there =
      (omega arith, subst (λ (one : Local). one.declaration ≡ Some (m.ahead.declarations + 0)) (same_Some _ one there) (ap Some (let same : m.ahead.declarations ≡ m.ahead.declarations + 0 = omega arith in same)))
  declared_place (text ∷ texts) m (suc i) one there =
      let later : Maker = record m { ahead = record (m.ahead) { captures = drop 1 m.ahead.captures; declarations = suc m.ahead.declarations } } in
      let rest = declared_place texts later i one there in
      let within = rest.0 in
      (omega (arith, within), rest.1 ∙ ap Some (let same : suc m.ahead.declarations + i ≡ m.ahead.declarations + suc i = omega arith in same))

  declared_captured : (texts : List Text) (m : Maker) → m.ahead.captures ≡ captures_from m.ahead.declarations → m.ahead.declarations + length texts ≤ declarations_in all →
      (i : ℕ) (one : Local) → slice_get (declare texts m).value i ≡ Some one → one.captured ≡ is_captured (m.ahead.declarations + i) all
  declared_captured [] m are most i one there = absurd (none-some one there)
  declared_captured (text ∷ texts) m are most zero one there =
      let d = m.ahead.declarations in
      subst (λ (one : Local). one.captured ≡ is_captured (d + 0) all) (same_Some _ one there)
      (ap (head_or false) are ∙ head_at false (captured_below (declarations_in all) all) d (is_captured d all) (captured_stands (declarations_in all) d (omega (arith, most)))
      ∙ ap (λ d. is_captured d all) (let same : d ≡ d + 0 = omega arith in same))
  declared_captured (text ∷ texts) m are most (suc i) one there =
      let d = m.ahead.declarations in
      let later : Maker = record m { ahead = record (m.ahead) { captures = drop 1 m.ahead.captures; declarations = suc d } } in
      declared_captured texts later (ap (drop 1) are ∙ drop_one d (captured_below (declarations_in all) all)) (omega (arith, most)) i one there
      ∙ ap (λ d. is_captured d all) (let same : suc d + i ≡ d + suc i = omega arith in same)

  pub sound_declared : (texts : List Text) (m : Maker) → m.ahead.captures ≡ captures_from m.ahead.declarations → m.ahead.declarations + length texts ≤ declarations_in all →
      AreSound m.ahead.declarations (m.ahead.declarations + length texts) (declare texts m).value
  sound_declared texts m are most = record {
    low_of = λ i one d there is. let at = number i one d there is in omega (arith, at);
    high_of = λ i one d there is. let at = number i one d there is in let within = (declared_place texts m i one there).0 in omega (arith, at, within);
    captured = λ i one d there is. declared_captured texts m are most i one there ∙ ap (λ d. is_captured d all) (sym (number i one d there is));
    hidden = λ i one there is. absurd (none-some _ (sym is ∙ (declared_place texts m i one there).1));
    once = λ i j one other d there here is also. let a = number i one d there is in let b = number j other d here also in omega (arith, a, b);
  }
    where
      number : (i : ℕ) (one : Local) (d : ℕ) → slice_get (declare texts m).value i ≡ Some one → one.declaration ≡ Some d → d ≡ m.ahead.declarations + i
      number i one d there is = same_Some d _ (sym is ∙ (declared_place texts m i one there).1)

  -- and so those of a step
  pub sound_step : (kind : StepKind) (part : Part) (m : Maker) → m.ahead.captures ≡ captures_from m.ahead.declarations → m.ahead.declarations + length (names_by kind part) ≤ declarations_in all →
      AreSound m.ahead.declarations (m.ahead.declarations + length (names_by kind part)) (locals_by kind part m)
  sound_step kind part m are most =
      let d = m.ahead.declarations in
      sound_both d d (d + length (names_by kind part)) (hidden_by kind part) (declare (names_by kind part) m).value (omega arith) (omega arith)
      (sound_hidden d (hidden_by kind part) (all_hidden kind part)) (sound_declared (names_by kind part) m are most)
