-- Before each step of a function what is in scope and was declared in it is an active local.
use Rattle.std.proofs.Common.{◌≡◌, ◌<◌, ◌≤◌, ◌⊎◌, inl, inr, ℕ, zero, suc, ◌+◌, ◌-◌, Bool, true, false, nat_lt, List, [], ◌∷◌, ◌++◌, length, length-append, take, refl, sym, ap, ap₂, ◌∙◌, arith, subst, if◌then◌else◌}
use Rattle.std.proofs.lemmas.Bool.Decides.{nat_tests}
use Rattle.std.proofs.lemmas.List.{length-map}
use Rattle.std.proofs.lemmas.Option.{none-some, same_Some, slice_get-map, slice_get_within}
use Rattle.std.specs.Prelude.{None, Option, Some, option_map, slice_get}
use Rattle.lua_num.specs.Bytes.{Text}
use Rattle.lua_tree.specs.Outline as outline
use Rattle.lua_tree.specs.Outline.{Binding, Mark, Place, Scope, come, innermost, statements_part, with_name, with_names}
use Rattle.lua_tree.specs.Resolved.{declarations_in}
use Rattle.lua_tree.specs.Syntax.{Statements}
use Rattle.lua_tree.specs.WellFormed.{formed_statements}
use Rattle.core_expr.specs.Values.{Inner}
use Rattle.recover_expr.specs.Drafts.{Part}
use Rattle.recover_expr.specs.Placing.{Steps}
use Rattle.recover_expr.specs.Situation.{Function}
use Rattle.recover_expr.specs.declared.steps.StepKind.{StepKind}
use Rattle.scheme.specs.Functions.{empty_maker}
use Rattle.scheme.specs.Making.{Ahead, Maker, active_count, declare}
use Rattle.scheme.specs.declared.making.Active.{Active}
use Rattle.scheme.specs.declared.making.Local.{Local}
use Rattle.scheme_stands.proofs.Growth.{kept_end}
use Rattle.scheme_stands.proofs.Lines.{declare_length}
use Rattle.scheme_stands.specs.Places.{LowAt, ahead_at, ahead_by}
use Rattle.scheme_stands.specs.Words.{Fn}
use Rattle.same_flow.specs.Listed.{before_place}
use Rattle.same_flow.specs.Performed.{Performance, ends_of, still_active}
use Rattle.same_flow.specs.SameFlow.{begun_of}
use Rattle.same_flow.proofs.Followed.{EndBy, still}
use Rattle.same_flow.proofs.LocalsListed.{all_end, listed_to, locals_listed, parted_at}
use Rattle.same_flow.proofs.RunKeeps.{declared_active}
use Rattle.same_flow.proofs.StatementsTold.{run}
use Rattle.same_flow.proofs.Walks.{Entry, Said, State, back_to, ended_in, said_at, says, says_at, state_of}
use Rattle.reads_back.proofs.EndsFall.{Falling, ends_fall}
use Rattle.reads_back.proofs.FlowThere.{IsFlowFunction, StepIs, before_at, made_at, now_at, step_is}
use Rattle.reads_back.proofs.FunctionLocals.{active_next, adds, count_by, first_number, new_are, number_at}
use Rattle.reads_back.proofs.LocalsBrought.{activated, declared_place, either_part, hidden_by, locals_of, names_by}
use Rattle.reads_back.proofs.LocalsLeave.{gone_there}
use Rattle.reads_back.proofs.NamesCome.{Comes, IsBringing, Named, Stays, ends_new, names_end, names_inside, names_mean, names_some, repeated, step_scoped}
use Rattle.reads_back.proofs.PlacedCaptures.{element_right, element_there}
use Rattle.reads_back.proofs.StepsKnown.{state_before, state_to}

-- ---- lists

taken_there : {A : Type 0} (n : ℕ) (xs : List A) (i : ℕ) (x : A) → i < n → slice_get xs i ≡ Some x → slice_get (take n xs) i ≡ Some x
taken_there zero xs i x less there = absurd (omega (arith, less))
taken_there (suc n) [] i x less there = there
taken_there (suc n) (y ∷ xs) zero x less there = there
taken_there (suc n) (y ∷ xs) (suc i) x less there = taken_there n xs i x (omega (arith, less)) there

falls_to : (ends : List ℕ) (i j one other : ℕ) → Falling ends → i < j → slice_get ends i ≡ Some one → slice_get ends j ≡ Some other → other ≤ one
falls_to [] i j one other falls less is also = absurd (none-some one is)
falls_to (end ∷ ends) zero zero one other falls less is also = absurd (omega (arith, less))
falls_to (end ∷ ends) zero (suc j) one other falls less is also = let same = same_Some end one is in let most = gone_there end ends j other falls.0 also in omega (arith, same, most)
falls_to (end ∷ ends) (suc i) zero one other falls less is also = absurd (omega (arith, less))
falls_to (end ∷ ends) (suc i) (suc j) one other falls less is also = falls_to ends i j one other falls.1 (omega (arith, less)) is also

-- ---- scopes whose locals are active

-- a local in a register has this declaration, and ends no earlier than at a step
pub record Held (low : ℕ) (active : List Active) (ends : List ℕ) (declaration : ℕ) : Type 0 where
  pub register : ℕ
  pub one : Active
  pub there : slice_get active register ≡ Some one
  pub is : one.local.declaration ≡ Some declaration
  pub end : ℕ
  pub ends_there : slice_get ends register ≡ Some end
  pub later : low ≤ end

held_longer : (low : ℕ) (active new : List Active) (ends more : List ℕ) (declaration : ℕ) → Held low active ends declaration → Held low (active ++ new) (ends ++ more) declaration
held_longer low active new ends more declaration held = record {
  register = held.register;
  one = held.one;
  there = kept_end active new held.register held.one held.there;
  is = held.is;
  end = held.end;
  ends_there = kept_end ends more held.register held.end held.ends_there;
  later = held.later;
}

-- so many are left at a step, where all of those that end later are
abbrev LeftAt : (at n : ℕ) → List ℕ → Type 0
LeftAt at n ends = (register end : ℕ) → slice_get ends register ≡ Some end → at < end → register < n

held_left : (at n low : ℕ) (active : List Active) (ends : List ℕ) (declaration : ℕ) → LeftAt at n ends → at < low → Held low active ends declaration → Held low (take n active) (take n ends) declaration
held_left at n low active ends declaration left less held =
    let later = held.later in
    let below = left held.register held.end held.ends_there (omega (arith, less, later)) in
    record {
      register = held.register;
      one = held.one;
      there = taken_there n active held.register held.one below held.there;
      is = held.is;
      end = held.end;
      ends_there = taken_there n ends held.register held.end below held.ends_there;
      later = later;
    }

module _ (from last : ℕ) where
  -- where the innermost of some entries ends, or all
  abbrev bound : List Entry → ℕ
  bound [] = last
  bound (entry ∷ entries) = entry.end

  -- what is in scope from a number on is held
  abbrev ScopeHeld : (low : ℕ) → List Active → List ℕ → Scope → Type 0
  ScopeHeld low active ends scope = (name : Text) (b : Binding) → scope name ≡ Some b → from ≤ b.declaration → Held low active ends b.declaration

  -- so it is with what an entry goes back to; it ends no later than those around it, and with some active local
  record EntryHeld (active : List Active) (ends : List ℕ) (entry : Entry) (around : List Entry) : Type 0 where
    scope : ScopeHeld (bound around) active ends entry.scope
    inside : entry.end ≤ bound around
    register : ℕ
    there : slice_get ends register ≡ Some entry.end

  abbrev EntriesHeld : List Active → List ℕ → List Entry → Type 0
  EntriesHeld active ends [] = Unit {0}
  EntriesHeld active ends (entry ∷ entries) = EntryHeld active ends entry entries × EntriesHeld active ends entries

  abbrev StateHeld : List Active → List ℕ → Scope → List Entry → Type 0
  StateHeld active ends scope entries = ScopeHeld (bound entries) active ends scope × EntriesHeld active ends entries

  -- ---- locals that leave

  entries_left : (at n : ℕ) (active : List Active) (ends : List ℕ) → LeftAt at n ends → (entries : List Entry) → at < bound entries → EntriesHeld active ends entries → EntriesHeld (take n active) (take n ends) entries
  entries_left at n active ends left [] less held = tt
  entries_left at n active ends left (entry ∷ entries) less held =
      let one = held.0 in
      let inside = one.inside in
      let outer : at < bound entries = omega (arith, less, inside) in (
        record {
          scope = λ name b is low. held_left at n (bound entries) active ends b.declaration left outer (one.scope name b is low);
          inside = inside;
          register = one.register;
          there = taken_there n ends one.register entry.end (left one.register entry.end one.there less) one.there;
        },
        entries_left at n active ends left entries outer held.1,
      )

  state_left : (at n : ℕ) (active : List Active) (ends : List ℕ) → LeftAt at n ends → at < last → (place : Place) (entries : List Entry) → StateHeld active ends place.scope entries
      → StateHeld (take n active) (take n ends) (ended_in at place entries).place.scope (ended_in at place entries).entries
  state_left at n active ends left less place [] held = (λ name b is low. held_left at n last active ends b.declaration left less (held.0 name b is low), tt)
  state_left at n active ends left less place (entry ∷ entries) held =
      by (nat_lt at entry.end) refl (state_left at n active ends left less (back_to entry place) entries (held.1.0.scope, held.1.1))
    where
      Left : State → Type 0
      Left state = StateHeld (take n active) (take n ends) state.place.scope state.entries

      by : (test : Bool) → nat_lt at entry.end ≡ test → Left (ended_in at (back_to entry place) entries) → Left (if test then record { place = place; entries = entry ∷ entries } else ended_in at (back_to entry place) entries)
      by true test rest =
          let later : at < entry.end = grind (arith, nat_tests) in
          (λ name b is low. held_left at n entry.end active ends b.declaration left later (held.0 name b is low), entries_left at n active ends left (entry ∷ entries) later held.1)
      by false test rest = rest

  -- ---- locals that come

  entries_longer : (active new : List Active) (ends more : List ℕ) (entries : List Entry) → EntriesHeld active ends entries → EntriesHeld (active ++ new) (ends ++ more) entries
  entries_longer active new ends more [] held = tt
  entries_longer active new ends more (entry ∷ entries) held =
      let one = held.0 in (
        record {
          scope = λ name b is low. held_longer (bound entries) active new ends more b.declaration (one.scope name b is low);
          inside = one.inside;
          register = one.register;
          there = kept_end ends more one.register entry.end one.there;
        },
        entries_longer active new ends more entries held.1,
      )

  state_longer : (active new : List Active) (ends more : List ℕ) (scope : Scope) (entries : List Entry) → StateHeld active ends scope entries → StateHeld (active ++ new) (ends ++ more) scope entries
  state_longer active new ends more scope entries held = (λ name b is low. held_longer (bound entries) active new ends more b.declaration (held.0 name b is low), entries_longer active new ends more entries held.1)

  -- those that were active end no earlier than these
  abbrev AllLater : (end : ℕ) → List ℕ → Type 0
  AllLater end ends = (register one : ℕ) → slice_get ends register ≡ Some one → end ≤ one

  inside_bound : (end : ℕ) (active : List Active) (ends : List ℕ) (entries : List Entry) → end ≤ last → AllLater end ends → EntriesHeld active ends entries → end ≤ bound entries
  inside_bound end active ends [] most later held = most
  inside_bound end active ends (entry ∷ entries) most later held = let one = held.0 in later one.register entry.end one.there

  state_comes : (active new : List Active) (ends more : List ℕ) (scope : Scope) (entries : List Entry) (names : List Text) (number home count end : ℕ) → StateHeld active ends scope entries → end ≤ last → AllLater end ends →
      ((i : ℕ) → i < length names → Held end (active ++ new) (ends ++ more) (number + i)) → (register : ℕ) → slice_get (ends ++ more) register ≡ Some end →
      StateHeld (active ++ new) (ends ++ more) (with_names names number home scope) (record { scope = scope; active = count; end = end } ∷ entries)
  state_comes active new ends more scope entries names number home count end held most later comes register there = (
    λ name b is low. by name b (λ old. held.0 name b old low) (names_mean names number home scope name b is),
    (
      record {
        scope = longer.0;
        inside = inside_bound end active ends entries most later held.1;
        register = register;
        there = there;
      },
      longer.1,
    ),
  )
    where
      longer : StateHeld (active ++ new) (ends ++ more) scope entries
      longer = state_longer active new ends more scope entries held

      by : (name : Text) (b : Binding) → (scope name ≡ Some b → Held (bound entries) active ends b.declaration) → Named scope (length names) number home name b → Held end (active ++ new) (ends ++ more) b.declaration
      by name b before (inl old) =
          let one = before old in
          held_longer end active new ends more b.declaration
          (record { register = one.register; one = one.one; there = one.there; is = one.is; end = one.end; ends_there = one.ends_there; later = later one.register one.end one.ends_there })
      by name b before (inr own) = subst (Held end (active ++ new) (ends ++ more)) (sym own.2) (comes own.0 own.1)

-- ---- along the steps of a function

module _ {f : Function} {g : Fn} {z : Maker} {lefts : ℕ → List (Option Inner)} {parts : ℕ → outline.Part} {code : Steps} {params names : List Text} {ahead : Ahead} {block : Statements} (of : IsFlowFunction f g z lefts parts code params names ahead block) where
  abbrev ends_to : ℕ → List ℕ
  ends_to at = (now_at of at).ends

  abbrev ends_before : ℕ → List ℕ
  ends_before at = (before_place code params names ahead at).ends

  left_at : (at : ℕ) → at ≤ length code.steps → LeftAt at (still_active at (ends_to at)) (ends_to at)
  left_at at most register end there less =
      let parted = parted_at code of.plain params names ahead block of.laid at most in
      let count : still_active at (ends_to at) ≡ length parted.ends = ap (still_active at) parted.all_ends ∙ still at parted.ends parted.behind parted.lasts parted.gone in
      subst (λ n. register < n) (sym count) (by parted.ends parted.behind parted.gone (either_part parted.ends parted.behind register end (ap (λ ends. slice_get ends register) (sym parted.all_ends) ∙ there)))
    where
      by : (first behind : List ℕ) → EndBy at behind → ((register < length first) × (slice_get first register ≡ Some end)) ⊎ ((i : ℕ) × (register ≡ length first + i) × (slice_get behind i ≡ Some end)) → register < length first
      by first behind gone (inl one) = one.0
      by first behind gone (inr other) = let most = gone_there at behind other.0 end gone other.2 in absurd (omega (arith, most, less))

  falls_at : (at : ℕ) → at ≤ length code.steps → Falling (ends_to at)
  falls_at at most =
      let known = listed_to code of.plain params names ahead block of.laid at most in
      ends_fall (run code params names ahead) (length code.steps) (parted_at code of.plain params names ahead block of.laid) (all_end code of.plain params names ahead block of.laid) at most known.lasts

  as_many : (at : ℕ) → at ≤ length code.steps → length (before_at of at).active ≡ length (ends_before at)
  as_many at most =
      let known = ((locals_listed code of.plain params names ahead block of.laid).before at most).ends in
      sym (length-map (before_at of at).active _) ∙ ap (λ (l : List (Option ℕ)). length l) known ∙ length-map (ends_before at) _

  module _ (at : ℕ) (kind : StepKind) (part : Part) (is : StepIs of at kind part) where
    abbrev new : List Active
    new = (adds of at kind part is).new

    abbrev more : List ℕ
    more = ends_of kind (active_count (made_at of at kind part) - active_count (before_at of at))

    ends_next : ends_to (suc at) ≡ ends_before at ++ more
    ends_next = ap (λ (now : Performance). now.ends) is.makes

    count_new : active_count (made_at of at kind part) - active_count (before_at of at) ≡ length (hidden_by kind part) + length (names_by kind part)
    count_new =
        let m = before_at of at in
        let all = ap length (adds of at kind part is).active in
        omega (arith, all, length-append m.active new, count_by of at kind part is, length-append (hidden_by kind part) (declare (names_by kind part) m).value, declare_length (names_by kind part) m)

    -- a name that it brings is that of a new local
    new_local : (i : ℕ) → i < length (names_by kind part) →
        (one : Active) × (slice_get new (length (hidden_by kind part) + i) ≡ Some one) × (one.local.declaration ≡ Some ((before_at of at).ahead.declarations + i))
    new_local i less =
        let m = before_at of at in
        let texts = names_by kind part in
        let hidden = hidden_by kind part in
        let count = declare_length texts m in
        let local = element_there (declare texts m).value i (omega (arith, count, less)) in
        let there : slice_get (locals_of new) (length hidden + i) ≡ Some local.0 =
        ap (λ (locals : List Local). slice_get locals (length hidden + i)) (new_are of at kind part is) ∙ element_right hidden (declare texts m).value i (length hidden + i) refl ∙ local.1 in
        by local.0 (declared_place [] texts m i local.0 local.1).1 (slice_get new (length hidden + i)) refl (sym (slice_get-map (λ (one : Active). one.local) new (length hidden + i)) ∙ there)
      where
        by : (local : Local) → local.declaration ≡ Some ((before_at of at).ahead.declarations + i) → (found : Option Active) → slice_get new (length (hidden_by kind part) + i) ≡ found → option_map (λ (one : Active). one.local) found ≡ Some local →
            (one : Active) × (slice_get new (length (hidden_by kind part) + i) ≡ Some one) × (one.local.declaration ≡ Some ((before_at of at).ahead.declarations + i))
        by local number None is none = absurd (none-some local none)
        by local number (Some one) is some = (one, is, ap (λ (local : Local). local.declaration) (same_Some one.local local some) ∙ number)

    module _ (brings : IsBringing kind) where
      end_new : (i : ℕ) → i < length (names_by kind part) → slice_get more (length (hidden_by kind part) + i) ≡ Some (names_end kind)
      end_new i less = ends_new kind part (active_count (made_at of at kind part) - active_count (before_at of at)) i brings is.fits count_new less

      -- it stands behind those that were active
      abbrev place_new : ℕ → ℕ
      place_new i = length (ends_before at) + (length (hidden_by kind part) + i)

      end_there : (i : ℕ) → i < length (names_by kind part) → slice_get (ends_before at ++ more) (place_new i) ≡ Some (names_end kind)
      end_there i less = element_right (ends_before at) more (length (hidden_by kind part) + i) (place_new i) refl ∙ end_new i less

      held_new : (i : ℕ) → i < length (names_by kind part) → Held (names_end kind) ((before_at of at).active ++ new) (ends_before at ++ more) ((before_at of at).ahead.declarations + i)
      held_new i less =
          let within = is.within in
          let m = before_at of at in
          let local = new_local i less in
          let count = as_many at (omega (arith, within)) in
          record {
            register = place_new i;
            one = local.0;
            there = element_right m.active new (length (hidden_by kind part) + i) (place_new i) (omega (arith, count)) ∙ local.1;
            is = local.2;
            end = names_end kind;
            ends_there = end_there i less;
            later = omega arith;
          }

      first_name : 0 < length (names_by kind part)
      first_name = names_some kind part brings is.fits is.flow

      later_all : (register one : ℕ) → slice_get (ends_before at) register ≡ Some one → names_end kind ≤ one
      later_all register one there =
          let within = is.within in
          let less = slice_get_within (ends_before at) register one there in
          falls_to (ends_before at ++ more) register (place_new 0) one (names_end kind) (subst Falling ends_next (falls_at (suc at) (omega (arith, within)))) (omega (arith, less))
          (kept_end (ends_before at) more register one there) (end_there 0 first_name)

  module _ (formed : formed_statements block ≡ true) (all : List Mark) (place : Place) (rest : List Mark) (begun : (begun_of params names ahead).ahead ≡ ahead_at all place ((statements_part block place).marks ++ rest)) (from last : ℕ)
      (most : length code.steps ≤ last) (start : ScopeHeld from last last (now_at of 0).maker.active (ends_to 0) place.scope) where
    abbrev first : State
    first = state_of place []

    abbrev HeldTo : ℕ → Type 0
    HeldTo at = StateHeld from last (now_at of at).maker.active (ends_to at) (state_to code first at).place.scope (state_to code first at).entries

    abbrev HeldBefore : ℕ → Type 0
    HeldBefore at = StateHeld from last (before_at of at).active (ends_before at) (state_before code first at).place.scope (state_before code first at).entries

    held_before : (at : ℕ) → at ≤ length code.steps → at < last → HeldTo at → HeldBefore at
    held_before at within less held =
        let state = state_to code first at in
        state_left from last at (still_active at (ends_to at)) (now_at of at).maker.active (ends_to at) (left_at at within) less state.place state.entries held

    held_next : (at : ℕ) (kind : StepKind) (part : Part) → StepIs of at kind part → HeldBefore at → HeldTo (suc at)
    held_next at kind part is held =
        subst (λ (active : List Active). StateHeld from last active (ends_to (suc at)) said.after.place.scope said.after.entries) (sym (active_next of at kind part is))
        (subst (λ (ends : List ℕ). StateHeld from last (m.active ++ added) ends said.after.place.scope said.after.entries) (sym (ends_next at kind part is))
        (subst (λ (it : Said). StateHeld from last (m.active ++ added) (ends_before at ++ ended) it.after.place.scope it.after.entries) (sym are) (by (step_scoped kind part now is.fits))))
      where
        m : Maker
        m = before_at of at

        now : State
        now = state_before code first at

        said : Said
        said = said_at code at now

        added : List Active
        added = new at kind part is

        ended : List ℕ
        ended = more at kind part is

        are : said ≡ says kind part now
        are = ap₂ (λ kind part. says_at kind part now) is.there is.part_there

        Behind : Scope → List Entry → Type 0
        Behind scope entries = StateHeld from last (m.active ++ added) (ends_before at ++ ended) scope entries

        within : at ≤ length code.steps
        within = let less = is.within in omega (arith, less)

        by : Stays kind part now ⊎ Comes kind part now → Behind (says kind part now).after.place.scope (says kind part now).after.entries
        by (inl stays) =
            subst (λ (scope : Scope). Behind scope (says kind part now).after.entries) (sym stays.scope)
            (subst (λ (entries : List Entry). Behind now.place.scope entries) (sym stays.entries) (state_longer from last m.active added (ends_before at) ended now.place.scope now.entries held))
        by (inr comes) =
            let end = names_end kind in
            let inside = names_inside (length code.steps) kind comes.brings is.inside in
            let number = number_at of formed all place rest begun at within in
            subst (λ (scope : Scope). Behind scope (says kind part now).after.entries) (sym comes.scope)
            (subst (λ (entries : List Entry). Behind (with_names (names_by kind part) now.place.declarations (innermost now.place.around) now.place.scope) entries) (sym comes.entries)
            (state_comes from last m.active added (ends_before at) ended now.place.scope now.entries (names_by kind part) now.place.declarations (innermost now.place.around) now.place.active end held (omega (arith, inside, most))
            (later_all at kind part is comes.brings)
            (λ i less. subst (λ n. Held end (m.active ++ added) (ends_before at ++ ended) (n + i)) number (held_new at kind part is comes.brings i less))
            (place_new at kind part is comes.brings 0) (end_there at kind part is comes.brings 0 (first_name at kind part is comes.brings))))

    held_to : (at : ℕ) → at ≤ length code.steps → HeldTo at
    held_to zero within = (start, tt)
    held_to (suc at) within =
        let step = step_is of at (omega (arith, within)) in
        held_next at step.0 step.1 step.2 (held_before at (omega (arith, within)) (omega (arith, within, most)) (held_to at (omega (arith, within))))

    scope_active_before : (at : ℕ) → at ≤ length code.steps → at < last → (name : Text) (b : Binding) → (state_before code first at).place.scope name ≡ Some b → from ≤ b.declaration
        → (register : ℕ) × (one : Active) × (slice_get (before_at of at).active register ≡ Some one) × (one.local.declaration ≡ Some b.declaration)
    scope_active_before at within less name b is low = let held = (held_before at within less (held_to at within)).0 name b is low in (held.register, held.one, held.there, held.is)

  -- what is in scope before each step, of a function with parameters
  abbrev pub ScopesActiveBefore : Place → (from : ℕ) → Type 0
  ScopesActiveBefore place from =
      (at : ℕ) → at < length code.steps → (name : Text) (b : Binding) → (state_before code (state_of place []) at).place.scope name ≡ Some b → from ≤ b.declaration
      → (register : ℕ) × (one : Active) × (slice_get (before_at of at).active register ≡ Some one) × (one.local.declaration ≡ Some b.declaration)

  -- ---- the parameters

  param_local : (i : ℕ) → i < length params → (one : Active) × (slice_get (now_at of 0).maker.active i ≡ Some one) × (one.local.declaration ≡ Some (ahead.declarations + i))
  param_local i less =
      let empty = empty_maker ahead names in
      let declared = declare params empty in
      let count = declare_length params empty in
      let local = element_there declared.value i (omega (arith, count, less)) in
      let are : locals_of (begun_of params names ahead).active ≡ declared.value = activated declared.value declared.after ∙ ap (λ (active : List Active). locals_of active ++ declared.value) (declared_active params empty) in
      by local.0 (declared_place [] params empty i local.0 local.1).1 (slice_get (begun_of params names ahead).active i) refl
      (sym (slice_get-map (λ (one : Active). one.local) (begun_of params names ahead).active i) ∙ ap (λ (locals : List Local). slice_get locals i) are ∙ local.1)
    where
      by : (local : Local) → local.declaration ≡ Some (ahead.declarations + i) → (found : Option Active) → slice_get (begun_of params names ahead).active i ≡ found → option_map (λ (one : Active). one.local) found ≡ Some local →
          (one : Active) × (slice_get (begun_of params names ahead).active i ≡ Some one) × (one.local.declaration ≡ Some (ahead.declarations + i))
      by local number None is none = absurd (none-some local none)
      by local number (Some one) is some = (one, is, ap (λ (local : Local). local.declaration) (same_Some one.local local some) ∙ number)

  module _ (formed : formed_statements block ≡ true) (all : List Mark) (place : Place) (rest : List Mark) (begun : (begun_of params names ahead).ahead ≡ ahead_at all place ((statements_part block place).marks ++ rest))
      (declarations functions : ℕ) (marks : List Mark) (ahead_is : ahead ≡ ahead_by all declarations functions marks) (counted : (statements_part block place).next.declarations ≤ declarations_in all) where
    -- where all that is in scope at the beginning was declared before it, of this function only the parameters
    pub scope_active_params : LowAt place → ScopesActiveBefore place declarations
    scope_active_params low_at at less =
        scope_active_before formed all place rest begun declarations (length code.steps) (omega arith) begins at (omega (arith, less)) less
      where
        begins : ScopeHeld declarations (length code.steps) (length code.steps) (now_at of 0).maker.active (ends_to 0) place.scope
        begins name b is low =
            let i = b.declaration - declarations in
            let below = low_at name b is in
            let number = first_number of formed all place rest begun declarations functions marks ahead_is counted in
            let start : ahead.declarations ≡ declarations = ap (λ (it : Ahead). it.declarations) ahead_is in
            let known : (state_before code (state_of place []) 0).place.declarations ≡ place.declarations = refl in
            let local = param_local i (omega (arith, below, low, number, known)) in
            let count = slice_get_within (now_at of 0).maker.active i local.0 local.1 in
            let same : ahead.declarations + i ≡ b.declaration = omega (arith, start, low) in
            record {
              register = i;
              one = local.0;
              there = local.1;
              is = local.2 ∙ ap Some same;
              end = length code.steps;
              ends_there = repeated (length (now_at of 0).maker.active) (length code.steps) i count;
              later = omega arith;
            }
