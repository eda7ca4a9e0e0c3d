-- What single steps, conditions and the ends of blocks say in a walk, beside a tree that stands on the steps.
use Rattle.std.proofs.Common.{◌≡◌, ◌≤◌, ◌<◌, ℕ, suc, Bool, true, false, List, [], ◌∷◌, Some, refl, sym, ap, ◌∙◌, subst, arith}
use Rattle.std.specs.Prelude.{nat_lt, option_map, if◌then◌else◌}
use Rattle.std.proofs.lemmas.Bool.Decides.{nat_tests}
use Rattle.std.proofs.lemmas.List.{append-nil}
use Rattle.lua_tree.specs.Outline as outline
use Rattle.lua_tree.specs.Outline.{Place, Mark, Walk, nothing, both, expression_part}
use Rattle.recover_expr.specs.Drafts.{Part}
use Rattle.recover_expr.specs.Placing.{Steps}
use Rattle.recover_expr.specs.declared.steps.Step.{Step}
use Rattle.recover_expr.specs.declared.steps.StepKind.{StepKind}
use Rattle.scheme.specs.declared.making.Active.{Active}
use Rattle.same_flow.specs.Laid.{IsStep, HasStep, HasKind, IsJump, IsClose, IsBlock, VariablesEnd, ArmEnds}
use Rattle.same_flow.specs.Performed.{kind_at}
use Rattle.same_flow.specs.SameMarks.{but_breaks}
use Rattle.same_flow.proofs.Walks.{Entry, State, loopless, state_of, passed, back_to, ended_in, ended, walked, walked_until, says, left_again, with_numbers, left_passed, Goes, goes_nowhere, ◌then◌, goes_to_equal, goes_by_equal, steps}
use Rattle.same_flow.proofs.Steady.{Steady, Calm}

-- ---- locals that are active up to a step

abbrev pub Live : ℕ → List Entry → Type 0
Live ends [] = Unit {0}
Live ends (entry ∷ entries) = ends ≤ entry.end

pub live_less : (ends more : ℕ) (entries : List Entry) → ends ≤ more → Live more entries → Live ends entries
live_less ends more [] le live = tt
live_less ends more (entry ∷ entries) le live = omega (arith, le, live)

test_true : (at end : ℕ) → at < end → nat_lt at end ≡ true
test_true at end less = grind (arith, nat_tests)

test_false : (at end : ℕ) → end ≤ at → nat_lt at end ≡ false
test_false at end le = grind (arith, nat_tests)

stays_live : (at ends : ℕ) (place : Place) (entries : List Entry) → at < ends → Live ends entries → ended_in at place entries ≡ record { place = place; entries = entries }
stays_live at ends place [] less live = refl
stays_live at ends place (entry ∷ entries) less live =
    ap (λ (test : Bool). if test then record { place = place; entries = entry ∷ entries } else ended_in at (back_to entry place) entries) (test_true at entry.end (omega (arith, less, live)))

pub leaves : (at : ℕ) (entry : Entry) (place : Place) (entries : List Entry) → entry.end ≤ at → ended_in at place (entry ∷ entries) ≡ ended_in at (back_to entry place) entries
leaves at entry place entries le =
    ap (λ (test : Bool). if test then record { place = place; entries = entry ∷ entries } else ended_in at (back_to entry place) entries) (test_false at entry.end le)

-- from one place to a later one locals may come into scope, which have left again at this step
pub record Ended (ends : ℕ) (place : Place) (before : List Entry) (next : Place) (after : List Entry) : Type 0 where
  pub live : Live ends after
  pub looped : next.looped ≡ place.looped
  pub left : (at : ℕ) → ends ≤ at → ended at (state_of next after) ≡ ended at (state_of (passed place next) before)

pub left_with : {ends : ℕ} {place next : Place} {before after : List Entry} → Ended ends place before next after → (at : ℕ) → ends ≤ at → (later : Place) →
    ended at (state_of (passed next later) after) ≡ ended at (state_of (passed place later) before)
left_with {place = place} {next = next} {before = before} {after = after} e at le later =
    left_passed at (loopless next) later after
    ∙ ap (λ (state : State). with_numbers state later) (e.left at le)
    ∙ sym (left_passed at (loopless (passed place next)) later before)

-- what stands in a part is what its steps say
pub record Walked (code : Steps) (from to ends : ℕ) (place : Place) (before : List Entry) (walk : Walk) : Type 0 where
  pub after : List Entry
  pub goes : Goes code from to (state_of place before) walk.marks (state_of walk.next after)
  pub ended : Ended ends place before walk.next after

pub walked_nowhere : (code : Steps) (at ends : ℕ) (place : Place) (before : List Entry) → Live ends before → Walked code at at ends place before (nothing place)
walked_nowhere code at ends place before live =
    record { after = before; goes = goes_nowhere code at (state_of place before); ended = record { live = live; looped = refl; left = λ at le. refl } }

pub walked_both : {code : Steps} {from mid to ends : ℕ} {place : Place} {before : List Entry} (one two : outline.Part) (w : Walked code from mid ends place before (one place)) →
    Walked code mid to ends (one place).next w.after (two (one place).next) → Walked code from to ends place before (both one two place)
walked_both {place = place} one two w v = record {
  after = v.after;
  goes = w.goes then v.goes;
  ended = record {
    live = v.ended.live;
    looped = v.ended.looped ∙ w.ended.looped;
    left = λ at le. v.ended.left at le ∙ left_with w.ended at le (two (one place).next).next;
  };
}

-- ---- parts behind which the same locals are active

-- the same, where nothing comes into scope
pub record Kept (code : Steps) (from to : ℕ) (before : List Entry) (place : Place) (walk : Walk) : Type 0 where
  pub goes : Goes code from to (state_of place before) walk.marks (state_of walk.next before)
  pub stays : walk.next ≡ passed place walk.next

pub walked_kept : {code : Steps} {from to ends : ℕ} {place : Place} {before : List Entry} {walk : Walk} → Kept code from to before place walk → Live ends before → Walked code from to ends place before walk
walked_kept {before = before} k live = record {
  after = before;
  goes = k.goes;
  ended = record { live = live; looped = ap (λ (p : Place). p.looped) k.stays; left = λ at le. ap (λ (p : Place). ended at (state_of p before)) k.stays };
}

pub kept_both : {code : Steps} {from mid to : ℕ} {before : List Entry} {place : Place} (one two : outline.Part) → Kept code from mid before place (one place) →
    Kept code mid to before (one place).next (two (one place).next) → Kept code from to before place (both one two place)
kept_both {place = place} one two k l = record {
  goes = k.goes then l.goes;
  stays = l.stays ∙ ap (λ (p : Place). passed p (two (one place).next).next) k.stays;
}

-- a step, or several, of which none says anything
pub record Quiet (code : Steps) (from to : ℕ) : Type 0 where
  pub goes : (state : State) → Goes code from to state [] state

pub then_quiet : {code : Steps} {from mid to : ℕ} {before after : State} {marks : List Mark} → Goes code from mid before marks after → Quiet code mid to → Goes code from to before marks after
then_quiet {after = after} {marks = marks} g q = goes_by_equal (ap but_breaks (append-nil marks)) (g then q.goes after)

pub quiet_nowhere : (code : Steps) (from to : ℕ) → to ≡ from → Quiet code from to
quiet_nowhere code from to e = subst (λ at. Quiet code from at) (sym e) (record { goes = goes_nowhere code from })

pub quiet_both : {code : Steps} {from mid to : ℕ} → Quiet code from mid → Quiet code mid to → Quiet code from to
quiet_both q r = record { goes = λ state. then_quiet (q.goes state) r }

has_kind : {code : Steps} {active : List Active} {at : ℕ} {kind : StepKind} → IsStep code active at kind → kind_at code.steps at ≡ Some kind
has_kind s = ap (option_map (λ (step : Step). step.kind)) s.there ∙ ap Some s.is

says_nothing : {code : Steps} {active : List Active} {at : ℕ} (kind : StepKind) (next : ℕ) → ((part : Part) (state : State) → says kind part state ≡ record { marks = []; after = state }) → next ≡ suc at →
    HasKind code active at kind → Quiet code at next
says_nothing {code} {active} {at} kind next quiet e h =
    subst (λ to. Quiet code at to) (sym e) (record {
      goes = λ state. goes_to_equal (left_again at (suc at) (omega arith) state.place state.entries) (steps {marks = []} kind h.0 (has_kind h.1.0) h.1.1 (quiet h.0 (ended at state)));
    })

pub jumps : {code : Steps} {active : List Active} {at : ℕ} (target next : ℕ) → next ≡ suc at → IsJump code active at target → Quiet code at next
jumps target next e h = says_nothing (StepKind.Jump target) next (λ part state. refl) e h

pub closes : {code : Steps} {active : List Active} {at : ℕ} (register next : ℕ) → next ≡ suc at → IsClose code active at register → Quiet code at next
closes register next e h = says_nothing (StepKind.Close register h.0) next (λ part state. refl) e h.1

pub feet : {code : Steps} {active : List Active} {at : ℕ} (numeric : Bool) (target next : ℕ) → next ≡ suc at → HasKind code active at (StepKind.Foot numeric target) → Quiet code at next
feet numeric target next e h = says_nothing (StepKind.Foot numeric target) next (λ part state. refl) e h

pub kept_quiet : {code : Steps} {from mid to : ℕ} {before : List Entry} {place : Place} {walk : Walk} → Kept code from mid before place walk → Quiet code mid to → Kept code from to before place walk
kept_quiet k q = record { goes = then_quiet k.goes q; stays = k.stays }

-- ---- steps

-- a step that says what this part says
pub steps_calm : {code : Steps} {active : List Active} (from to ends : ℕ) (kind : StepKind) (part : Part) {one : outline.Part} → ((state : State) → says kind part state ≡ walked one state) → Calm one →
    HasStep code active from kind part → to ≡ suc from → to ≤ ends → (place : Place) (before : List Entry) → Live ends before → Kept code from to before place (one place)
steps_calm {code} from to ends kind part {one} is c h e le place before live =
    let there = stays_live from ends (loopless place) before (omega (arith, e, le)) live in
    record {
      goes = subst (λ at. Goes code from at (state_of place before) (one place).marks (state_of (one place).next before)) (sym e)
          (steps kind part (has_kind h.0) h.1
          (ap (says kind part) there ∙ is (state_of place before)
          ∙ ap (λ (walk : Walk). record { marks = but_breaks walk.marks; after = record { place = walk.next; entries = before } }) (c.steady.blind place)));
      stays = c.stays place;
    }

abbrev pub entry_at : Place → ℕ → Entry
entry_at place end = record { scope = place.scope; active = place.active; end = end }

-- a step that says so too, and brings locals into scope
pub steps_until : {code : Steps} {active : List Active} (from ends end : ℕ) (kind : StepKind) (part : Part) {one : outline.Part} → ((state : State) → says kind part state ≡ walked_until end one state) → Steady one →
    HasStep code active from kind part → from < ends → (place : Place) (before : List Entry) → Live ends before →
    Goes code from (suc from) (state_of place before) (one place).marks (state_of (one place).next (entry_at place end ∷ before))
steps_until from ends end kind part is s h less place before live =
    let there = stays_live from ends (loopless place) before less live in
    steps kind part (has_kind h.0) h.1
    (ap (says kind part) there ∙ is (state_of place before)
    ∙ ap (λ (walk : Walk). record { marks = but_breaks walk.marks; after = record { place = walk.next; entries = entry_at place end ∷ before } }) (s.blind place))

pub walked_declaration : {code : Steps} {active : List Active} (from to ends : ℕ) (kind : StepKind) (part : Part) {one : outline.Part} → ((state : State) → says kind part state ≡ walked_until ends one state) → Steady one →
    HasStep code active from kind part → to ≡ suc from → to ≤ ends → (place : Place) (before : List Entry) → Live ends before → Walked code from to ends place before (one place)
walked_declaration {code} from to ends kind part {one} is s h e le place before live = record {
  after = entry_at place ends ∷ before;
  goes = subst (λ at. Goes code from at (state_of place before) (one place).marks (state_of (one place).next (entry_at place ends ∷ before))) (sym e)
      (steps_until from ends ends kind part is s h (omega (arith, e, le)) place before live);
  ended = record {
    live = omega arith;
    looped = ap (λ (p : Place). p.looped) (s.returns place);
    left = λ at le. leaves at (entry_at place ends) (loopless (one place).next) before le ∙ ap (λ (p : Place). ended_in at (loopless p) before) (s.returns place);
  };
}

-- ---- the ends of blocks

pub block_goes : (code : Steps) (active : List Active) (n : ℕ) (captured : Bool) (laid : (ends end : ℕ) → Type 0) (from to : ℕ) (place : Place) (before : List Entry) (part : outline.Part) →
    IsBlock code active n captured laid from to → Live to before → ((end : ℕ) → laid end end → end ≤ to → Live end before → Walked code from end end place before (part place)) →
    Goes code from to (state_of place before) (part place).marks (state_of (passed place (part place).next) before)
block_goes code active n false laid from to place before part h live body =
    let w = body to h (omega arith) live in
    goes_to_equal (w.ended.left to (omega arith)) w.goes
block_goes code active n true laid from to place before part h live body =
    let le : h.0 ≤ to = let e = h.1 in omega (arith, e) in
    let w = body h.0 h.4 le (live_less h.0 to before le live) in
    goes_to_equal (w.ended.left to le) (then_quiet w.goes (closes n to h.1 h.3))

pub quiet_variables : (code : Steps) (active : List Active) (n : ℕ) (captured : Bool) (end foot : ℕ) → VariablesEnd code active n captured end foot → Quiet code end foot
quiet_variables code active n false end foot h = quiet_nowhere code end foot h
quiet_variables code active n true end foot h = closes n foot h.0 h.1

pub variables_before : (code : Steps) (active : List Active) (n : ℕ) (captured : Bool) (end foot : ℕ) → VariablesEnd code active n captured end foot → end ≤ foot
variables_before code active n false end foot h = omega (arith, h)
variables_before code active n true end foot h = let e = h.0 in omega (arith, e)

pub quiet_arm : (code : Steps) (active : List Active) (more : Bool) (last end next : ℕ) → ArmEnds code active more last end next → Quiet code last next
quiet_arm code active true last end next h = jumps end next h.1 h.0
quiet_arm code active false last end next h = quiet_nowhere code last next h

pub arm_before : (code : Steps) (active : List Active) (more : Bool) (last end next : ℕ) → ArmEnds code active more last end next → last ≤ next
arm_before code active true last end next h = let e = h.1 in omega (arith, e)
arm_before code active false last end next h = omega (arith, h)
