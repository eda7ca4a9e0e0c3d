-- The ends of the statements of a body are cuts: the pieces of a body are those of its first statement, and those of the rest.
use Rattle.std.proofs.Common.{◌≡◌, ◌∙◌, ◌≤◌, ◌<◌, ◌+◌, ◌-◌, ◌⊎◌, inl, inr, refl, sym, ap, subst, ℕ, zero, suc, Bool, true, false, List, [], ◌∷◌, ◌++◌, length, slice_get, Option, None, Some, arith}
use Rattle.std.specs.Prelude.{◌==◌, ◌&&◌, ◌||◌, ◌^◌, not, nat_le, nat_lt, option_and_then, if◌then◌else◌}
use Rattle.std.proofs.lemmas.Bool.{and_parts, false≢true}
use Rattle.std.proofs.lemmas.Bool.Decides.{nat_tests}
use Rattle.std.proofs.lemmas.Option.{none-some, same_Some}
use Rattle.recover_expr.specs.declared.steps.Step.{Step}
use Rattle.recover_expr.specs.declared.steps.StepKind.{StepKind}
use Rattle.recover_flow.specs.Asked.{any_between, break_exit, closing_exit, exit_behind, is_closed, is_other, jump_of, kind_at, target_of}
use Rattle.recover_flow.specs.Cutting.{pieces_from, pieces_of}
use Rattle.recover_flow.specs.Flow.{Around, Flow, no_flow, and_flow, FlowStatement, step_flow, return_flow, break_flow, do_flow, while_flow, repeat_flow, for_flow, if_flow, FlowLies, FlowStatementLies, captures_flow}
use Rattle.recover_flow.specs.Lying.{Jumps}
use Rattle.recover_flow.specs.declared.cuts.Reach.{Reach}
use Rattle.recover_flow.specs.declared.regions.BodyAt.{BodyAt}
use Rattle.recover_flow.specs.declared.regions.Exit.{Exit}
use Rattle.recover_flow.specs.declared.regions.Piece.{Piece}
use Rattle.recover_flow.proofs.Boundaries.{IsFresh, walked}
use Rattle.recover_flow.proofs.FlowInside.{ClosesAreNamed, ExitBehind, IsReady, behind_earlier, flow_in, owns_of, statement_flow_in}
use Rattle.recover_flow.proofs.FormsLie.{below, joined_from, passed, same_numbers}
use Rattle.recover_flow.proofs.LyingParts.{FollowOn}
use Rattle.recover_flow.proofs.PartsInside.{AllIn, ClosesOwn, Free, HeadTo, In, NamedFrom, Owned, Turns, back_is, kind_there, no_back_before}

-- ---- numbers that pass a test

pub none_between : (holds : ℕ → Bool) (from to : ℕ) → ((n : ℕ) → from ≤ n → n < to → holds n ≡ true → ⊥) → any_between holds from to ≡ false
none_between holds from zero none = refl
none_between holds from (suc n) none = by (nat_le from n) refl (holds n) refl (none_between holds from n (λ m low high passes. none m low (omega (arith, high)) passes))
  where
    by : (low : Bool) → nat_le from n ≡ low → (passes : Bool) → holds n ≡ passes → any_between holds from n ≡ false → ((nat_le from n && holds n) || any_between holds from n) ≡ false
    by true low true passes rest = absurd (none n (grind (arith, nat_tests)) (omega arith) passes)
    by true low false passes rest = ap (λ b. (nat_le from n && b) || any_between holds from n) passes ∙ ap (λ b. (b && false) || any_between holds from n) low ∙ rest
    by false low passes is rest = ap (λ b. (b && holds n) || any_between holds from n) low ∙ rest

-- ---- a declaration that no break of another loop closes

-- what a break's CLOSE that names a declaration is
pub record NamesAt (steps : List Step) (declaration close : ℕ) (exit : Exit) : Type 0 where
  pub step : Step
  pub there : slice_get steps close ≡ Some step
  pub kind : step.kind ≡ StepKind.Close exit.locals (Some declaration)
  pub active : exit.locals < step.base
  pub jump : Jumps steps (close + 1) exit.place

behind_is : (close locals : ℕ) (kind : Option StepKind) (exit : Exit) → exit_behind close locals kind ≡ Some exit → (kind ≡ Some (StepKind.Jump exit.place)) × (exit.locals ≡ locals)
behind_is close locals (Some (StepKind.Jump target)) exit is =
    let found = passed (nat_lt (close + 1) target) (record { place = target; locals = locals }) exit is in
    (ap (λ (e : Exit). Some (StepKind.Jump e.place)) found.1, sym (ap (λ (e : Exit). e.locals) found.1))
behind_is close locals None exit is = absurd (none-some exit is)
behind_is close locals (Some StepKind.Act) exit is = absurd (none-some exit is)
behind_is close locals (Some StepKind.Return) exit is = absurd (none-some exit is)
behind_is close locals (Some (StepKind.Declaration end captured)) exit is = absurd (none-some exit is)
behind_is close locals (Some (StepKind.Test when target negated)) exit is = absurd (none-some exit is)
behind_is close locals (Some (StepKind.Close from declared)) exit is = absurd (none-some exit is)
behind_is close locals (Some (StepKind.Head numeric foot end variables_end captured)) exit is = absurd (none-some exit is)
behind_is close locals (Some (StepKind.Foot numeric target)) exit is = absurd (none-some exit is)

closing_is : (steps : List Step) (declaration close : ℕ) (step : Step) (kind : StepKind) (exit : Exit) → slice_get steps close ≡ Some step → step.kind ≡ kind → closing_exit steps declaration close step.base kind ≡ Some exit → NamesAt steps declaration close exit
closing_is steps declaration close step (StepKind.Close from (Some declared)) exit there kind is = by ((declared == declaration) && nat_lt from step.base) refl is
  where
    by : (test : Bool) → ((declared == declaration) && nat_lt from step.base) ≡ test → (if test then exit_behind close from (kind_at steps (close + 1)) else None) ≡ Some exit → NamesAt steps declaration close exit
    by true passes found =
        let parts = and_parts (declared == declaration) (nat_lt from step.base) passes in
        let behind = behind_is close from (kind_at steps (close + 1)) exit found in
        let same : declared ≡ declaration = same_numbers declared declaration parts.0 in
        let active = below from step.base parts.1 in
        record {
          step = step;
          there = there;
          kind = kind ∙ ap (λ n. StepKind.Close n (Some declared)) (sym behind.1) ∙ ap (λ n. StepKind.Close exit.locals (Some n)) same;
          active = omega (arith, active, behind.1);
          jump = behind.0;
        }
    by false fails found = absurd (none-some exit found)
closing_is steps declaration close step (StepKind.Close from None) exit there kind is = absurd (none-some exit is)
closing_is steps declaration close step StepKind.Act exit there kind is = absurd (none-some exit is)
closing_is steps declaration close step StepKind.Return exit there kind is = absurd (none-some exit is)
closing_is steps declaration close step (StepKind.Declaration end captured) exit there kind is = absurd (none-some exit is)
closing_is steps declaration close step (StepKind.Test when target negated) exit there kind is = absurd (none-some exit is)
closing_is steps declaration close step (StepKind.Jump target) exit there kind is = absurd (none-some exit is)
closing_is steps declaration close step (StepKind.Head numeric foot end variables_end captured) exit there kind is = absurd (none-some exit is)
closing_is steps declaration close step (StepKind.Foot numeric target) exit there kind is = absurd (none-some exit is)

pub names_at : (steps : List Step) (declaration close : ℕ) (exit : Exit) → break_exit steps declaration close ≡ Some exit → NamesAt steps declaration close exit
names_at steps declaration close exit is =
    let found = joined_from (λ (step : Step). closing_exit steps declaration close step.base step.kind) (slice_get steps close) exit is in
    closing_is steps declaration close found.0 found.0.kind exit found.1 refl found.2

-- ---- pieces that follow one another

pub follow_joined : (those others : List Piece) (from mid to : ℕ) → mid ≤ to → FollowOn those from mid → FollowOn others mid to → FollowOn (those ++ others) from to
follow_joined [] others from mid to low first second = subst (λ n. FollowOn others n to) first second
follow_joined (piece ∷ those) others from mid to low (begin, goes, ends, more) second = (begin, goes, omega (arith, ends, low), follow_joined those others piece.to mid to low more second)

-- the pieces up to a place in a body, and those behind it
abbrev pub CutAt : List Step → BodyAt → (from mid : ℕ) → Reach → Type 0
CutAt steps at from mid reach =
    (those : List Piece) × (behind : Reach) × IsFresh mid behind × FollowOn those from mid
    × ((others : List Piece) → pieces_from steps at (at.to - mid) mid behind ≡ Some others → pieces_from steps at (at.to - from) from reach ≡ Some (those ++ others))

-- a body where statements lie, in a loop with an exit whose locals are declared from a place on
pub record IsBody (steps : List Step) (at : BodyAt) (exit : Option Exit) (ends : ℕ) : Type 0 where
  pub small : length steps < 2 ^ 32
  pub fits : at.to ≤ length steps
  pub behind : ExitBehind exit at.to
  pub owned : ends ≡ at.locals_end
  -- the exit counts where a jump of the body goes there
  pub used : (e : Exit) → exit ≡ Some e → (place : ℕ) → at.from ≤ place → place < at.to → Jumps steps place e.place → at.exit ≡ Some e
  -- and no other one does
  pub same : (e : Exit) → at.exit ≡ Some e → exit ≡ Some e

module _ (steps : List Step) (named : ClosesAreNamed steps) where
  -- no break of another loop closes a declaration that stands before a part
  not_closed : (at : BodyAt) (owns : Bool → ℕ → Type 0) (exit : Option Exit) (first ends mid declaration : ℕ) → IsBody steps at exit ends → at.from ≤ mid → declaration < mid → mid ≤ suc declaration → AllIn steps owns exit first at.to mid at.to mid at.to
      → is_closed steps at declaration ≡ false
  not_closed at owns exit first ends mid declaration body begins before next rest = by (nat_le declaration (length steps)) (none_between (λ close. is_other at.exit (break_exit steps declaration close)) 0 at.to none)
    where
      by : (b : Bool) → any_between (λ close. is_other at.exit (break_exit steps declaration close)) 0 at.to ≡ false → (b && any_between (λ close. is_other at.exit (break_exit steps declaration close)) 0 at.to) ≡ false
      by true is = is
      by false is = refl

      same_exit : (e : Exit) → is_other (Some e) (Some e) ≡ false
      same_exit e =
          let a : (e.place == e.place) ≡ true = grind (arith, nat_tests) in
          let b : (e.locals == e.locals) ≡ true = grind (arith, nat_tests) in
          ap (λ t. not (t && (e.locals == e.locals))) a ∙ ap not b

      none : (close : ℕ) → 0 ≤ close → close < at.to → is_other at.exit (break_exit steps declaration close) ≡ true → ⊥
      none close low within other = at_found (break_exit steps declaration close) refl other
        where
          not_own : (e : Exit) → NamesAt steps declaration close e → is_other at.exit (Some e) ≡ true → NamedFrom mid (Some declaration) ⊎ ClosesOwn steps exit first close e.locals (Some declaration) → close + 2 ≤ at.to → mid ≤ close → ⊥
          not_own e names other (inl late) more from = absurd (omega (arith, late, before))
          not_own e names other (inr own) more from = at_exit exit refl own
            where
              at_exit : (x : Option Exit) → exit ≡ x → ClosesOwn steps x first close e.locals (Some declaration) → ⊥
              at_exit None is own = absurd own
              at_exit (Some x) is (locals, known, jump) =
                  let target : e.place ≡ x.place = jump_targets (sym names.jump ∙ jump) in
                  let here = body.used x is (close + 1) (omega (arith, begins, from)) (omega (arith, more)) jump in
                  let one : e ≡ x = same_parts e x target locals in
                  absurd (false≢true (sym (same_exit x) ∙ ap (λ f. is_other (Some x) (Some f)) (sym one) ∙ ap (λ f. is_other f (Some e)) (sym here) ∙ other))
                where
                  jump_targets : Some (StepKind.Jump e.place) ≡ Some (StepKind.Jump x.place) → e.place ≡ x.place
                  jump_targets both = same_Some e.place x.place (ap (λ found. option_and_then jump_of found) both)

                  same_parts : (a b : Exit) → a.place ≡ b.place → a.locals ≡ b.locals → a ≡ b
                  same_parts a b p l = ap (λ n. record { place = n; locals = a.locals }) p ∙ ap (λ n. record { place = b.place; locals = n }) l

          at_found : (found : Option Exit) → break_exit steps declaration close ≡ found → is_other at.exit found ≡ true → ⊥
          at_found None is other = absurd (false≢true (by_exit at.exit other))
            where
              by_exit : (x : Option Exit) → is_other x None ≡ true → false ≡ true
              by_exit None other = other
              by_exit (Some e) other = other
          at_found (Some e) is other =
              let names = names_at steps declaration close e is in
              let order_of = named close names.step e.locals declaration names.there names.kind names.active in
              let from : mid ≤ close = omega (arith, order_of.0, next) in
              let known = subst (λ kind. In steps owns exit first at.to mid at.to close names.step.base kind) names.kind (rest close names.step from within names.there) in
              let closes = known names.active in
              not_own e names other closes.1 closes.0 from

  -- a body's own declaration is a statement by itself
  alone : (at : BodyAt) (s : FlowStatement) (rest : Flow) (before between : Around) (ends from mid first : ℕ) → IsBody steps at before.exit ends → at.from ≤ from → mid ≤ at.to → FlowStatementLies steps before between ends s from mid
      → AllIn steps (Owned ends (captures_flow steps rest)) before.exit first at.to mid at.to mid at.to
      → (place end : ℕ) (captured : Bool) → from ≤ place → place < mid → kind_at steps place ≡ Some (StepKind.Declaration end captured) → owns_of steps ends s captured end
      → (end ≡ at.locals_end) × (is_closed steps at place ≡ false) × Free steps from mid place
  alone at (step_flow step) rest before between ends from mid first body begins stops lies others place end captured low high is owned =
      let here : place ≡ from = omega (arith, low, high, lies.1) in (
        owned.0 ∙ body.owned,
        not_closed at (Owned ends (captures_flow steps rest)) before.exit first ends mid place body (omega (arith, begins, lies.1)) high (omega (arith, lies.1, low)) others,
        λ f last from_f before_place above ends_last turns.
            let same : f ≡ place = omega (arith, from_f, before_place, here) in
            let there : last ≡ place = omega (arith, above, ends_last, lies.1, here) in
            no_turn (subst (λ n. Turns steps n place) same (subst (λ n. Turns steps f n) there turns)),
      )
    where
      no_turn : Turns steps place place → ⊥
      no_turn (inl back) =
          let found = back_is steps place place back in
          let kind : found.1.0.kind ≡ StepKind.Declaration end captured = same_Some found.1.0.kind (StepKind.Declaration end captured) (sym (kind_there steps place found.1.0 found.1.1) ∙ is) in
          absurd (none-some place (sym (ap target_of kind) ∙ found.1.2))
      no_turn (inr head) = absurd (subst (HeadTo place) is head.1)
  alone at (return_flow step) rest before between ends from mid first body begins stops lies others place end captured low high is owned = absurd owned
  alone at break_flow rest before between ends from mid first body begins stops lies others place end captured low high is owned = absurd owned
  alone at (do_flow inner) rest before between ends from mid first body begins stops lies others place end captured low high is owned = absurd owned
  alone at (while_flow logic inner) rest before between ends from mid first body begins stops lies others place end captured low high is owned = absurd owned
  alone at (repeat_flow inner logic) rest before between ends from mid first body begins stops lies others place end captured low high is owned = absurd owned
  alone at (for_flow step numeric inner) rest before between ends from mid first body begins stops lies others place end captured low high is owned = absurd owned
  alone at (if_flow logic inner arms) rest before between ends from mid first body begins stops lies others place end captured low high is owned = absurd owned

  -- the first statement of a body ends at a cut
  pub first_cut : (at : BodyAt) (s : FlowStatement) (rest : Flow) (before between behind : Around) (ends from mid first : ℕ) → IsBody steps at before.exit ends → at.from ≤ from → IsReady first before → first ≤ from → mid ≤ at.to
      → FlowStatementLies steps before between ends s from mid → FlowLies steps between behind ends rest mid at.to → (reach : Reach) → IsFresh from reach → CutAt steps at from mid reach
  first_cut at s rest before between behind ends from mid first body begins ready low stops one others reach fresh =
      let head = statement_flow_in steps named s before between ends from mid first ready low (behind_earlier before.exit at.to mid stops body.behind) one in
      let same = head.exit in
      let goes = head.rises in
      let tail = flow_in steps named rest between behind ends mid at.to first head.ready (omega (arith, low, goes)) (subst (λ e. ExitBehind e at.to) (sym same) body.behind) others in
      let inside = subst (λ e. AllIn steps (Owned ends (captures_flow steps rest)) e first at.to mid at.to mid at.to) same tail.inside in
      let found = walked steps at before.exit first body.small body.fits body.used (owns_of steps ends s) from mid begins stops head.inside
      (λ f last begun before_mid above stop back. no_back_before steps (Owned ends (captures_flow steps rest)) before.exit first at.to mid at.to mid at.to f last inside above stop before_mid back)
      (λ place end captured from_place to_place is owned. alone at s rest before between ends from mid first body begins stops one inside place end captured from_place to_place is owned) reach goes fresh in
      let left : from + (at.to - from) - mid ≡ at.to - mid = omega (arith, goes, stops) in
      (found.0, found.1, found.2, subst (λ n. FollowOn found.0 n mid) fresh.begin found.3, λ pieces is. found.4 pieces (subst (λ n. pieces_from steps at n mid found.1 ≡ Some pieces) (sym left) is))

  -- what lies on a body, or on its end, has pieces
  pub has_pieces : (flow : Flow) (at : BodyAt) (before behind : Around) (ends from first : ℕ) → IsBody steps at before.exit ends → at.from ≤ from → IsReady first before → first ≤ from → from ≤ at.to
      → FlowLies steps before behind ends flow from at.to → (reach : Reach) → IsFresh from reach → (pieces : List Piece) × (pieces_from steps at (at.to - from) from reach ≡ Some pieces) × FollowOn pieces from at.to
  has_pieces no_flow at before behind ends from first body begins ready low goes (same, ended) reach fresh =
      let none : at.to - from ≡ 0 = omega (arith, ended) in
      ([], subst (λ n. pieces_from steps at n from reach ≡ Some []) (sym none) refl, ended)
  has_pieces (and_flow s rest) at before behind ends from first body begins ready low goes (well, mid, between, starts, stops, one, others) reach fresh =
      let head = statement_flow_in steps named s before between ends from mid first ready low (behind_earlier before.exit at.to mid stops body.behind) one in
      let cut = first_cut at s rest before between behind ends from mid first body begins ready low stops one others reach fresh in
      let more = has_pieces rest at between behind ends mid first (subst (λ e. IsBody steps at e ends) (sym head.exit) body) (omega (arith, begins, starts)) head.ready (omega (arith, low, starts)) stops others cut.1 cut.2 in
      (cut.0 ++ more.0, cut.4 more.0 more.1, follow_joined cut.0 more.0 from mid at.to stops cut.3 more.2)

  -- the pieces of a body where statements lie
  pub body_has_pieces : (at : BodyAt) (flow : Flow) (before behind : Around) (ends first : ℕ) → IsBody steps at before.exit ends → IsReady first before → first ≤ at.from → at.from ≤ at.to → FlowLies steps before behind ends flow at.from at.to
      → (pieces : List Piece) × (pieces_of steps at ≡ Some pieces) × FollowOn pieces at.from at.to
  body_has_pieces at flow before behind ends first body ready low goes lies =
      has_pieces flow at before behind ends at.from first body (omega arith) ready low goes lies (record { begin = at.from; far = at.from; turned = 0 }) (record { begin = refl; far = refl; turned = omega arith })
