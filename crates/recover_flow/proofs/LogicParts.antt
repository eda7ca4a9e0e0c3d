-- How the steps of a condition fit together, with nothing said of truth: where each of them goes, and that they are cut in two at the first place that no jump crosses.
use Rattle.std.proofs.Common.{◌≡◌, ◌∙◌, ◌≤◌, ◌<◌, ◌+◌, ◌⊎◌, inl, inr, ⊎_elim, refl, sym, ap, subst, ℕ, zero, suc, max, Bool, true, false, ◌&&◌, ◌==◌, nat_lt, List, ◌∷◌, None, Some, option_map, if◌then◌else◌, arith}
use Rattle.std.specs.Prelude.{option_and_then}
use Rattle.std.proofs.Math.Nat.{eq-or-lt_of_le}
use Rattle.std.proofs.lemmas.Bool.{false≢true}
use Rattle.std.proofs.lemmas.Bool.Decides.{leb_tells, nat_tests}
use Rattle.std.proofs.lemmas.Option.{same_Some}
use Rattle.recover_expr.specs.declared.steps.Step.{Step}
use Rattle.recover_flow.specs.Asked.{target_at}
use Rattle.recover_flow.specs.Conditions.{before_parts, empty_part, part_with, parts_from}
use Rattle.recover_flow.specs.declared.conditions.Part.{Part}

-- one step, none, or what comes before the rest, of which the first one goes to the end or to the target of the whole
pub data Frame : Type 0 where
  step_frame no_frame : Frame
  joined_frame : (ends : Bool) → (left right : Frame) → Frame

abbrev pub joints : Frame → ℕ
joints step_frame = 0
joints no_frame = 0
joints (joined_frame ends left right) = suc (joints left + joints right)

abbrev pub FrameLies : List Step → Frame → (target from to : ℕ) → Type 0
FrameLies steps step_frame target from to = (target_at steps from ≡ Some target) × (to ≡ suc from)
FrameLies steps no_frame target from to = to ≡ from
FrameLies steps (joined_frame ends left right) target from to =
    (mid : ℕ) × (from ≤ mid) × (mid ≤ to) × FrameLies steps left (if ends then to else target) from mid × FrameLies steps right target mid to

pub early_is : (ends : Bool) (to target : ℕ) → ((if ends then to else target) ≡ target) ⊎ ((if ends then to else target) ≡ to)
early_is true to target = inr refl
early_is false to target = inl refl

-- it is no place between them
abbrev pub IsOutside : (target from to : ℕ) → Type 0
IsOutside target from to = (target ≤ from) ⊎ (to ≤ target)

module _ (steps : List Step) where
  -- a step goes to the target, or ahead and not past the end
  abbrev pub GoesOn : (target to place : ℕ) → Type 0
  GoesOn target to place = (goes : ℕ) × (target_at steps place ≡ Some goes) × ((goes ≡ target) ⊎ ((place < goes) × (goes ≤ to)))

  -- no step before a place goes past it, but to the target or to the end
  abbrev pub IsCut : (target from to mid : ℕ) → Type 0
  IsCut target from to mid = (place goes : ℕ) → from ≤ place → place < mid → target_at steps place ≡ Some goes → (goes ≡ target) ⊎ ((goes ≡ to) ⊎ (goes ≤ mid))

  abbrev pub IsFirstCut : (target from to mid : ℕ) → Type 0
  IsFirstCut target from to mid = IsCut target from to mid × ((other : ℕ) → from < other → other < mid → IsCut target from to other → ⊥)

  pub same_goal : (place first second : ℕ) → target_at steps place ≡ Some first → target_at steps place ≡ Some second → first ≡ second
  same_goal place first second one other = same_Some first second (sym one ∙ other)

  pub in_order : (frame : Frame) (target from to : ℕ) → FrameLies steps frame target from to → from ≤ to
  in_order step_frame target from to lies = omega (arith, lies.1)
  in_order no_frame target from to lies = omega (arith, lies)
  in_order (joined_frame ends left right) target from to lies = omega (arith, lies.1, lies.2)

  pub goes_on : (frame : Frame) (target from to : ℕ) → FrameLies steps frame target from to → (place : ℕ) → from ≤ place → place < to → GoesOn target to place
  goes_on step_frame target from to (there, one) place low high =
      let here : from ≡ place = omega (arith, one, low, high) in
      (target, subst (λ n. target_at steps n ≡ Some target) here there, inl refl)
  goes_on no_frame target from to none place low high = absurd (omega (arith, none, low, high))
  goes_on (joined_frame ends left right) target from to (mid, begins, goes, lies, rest) place low high =
      ⊎_elim (λ h. goes_on right target mid to rest place h.1 high) (λ h. before (goes_on left (if ends then to else target) from mid lies place low h.1)) (leb_tells mid place)
    where
      before : GoesOn (if ends then to else target) mid place → GoesOn target to place
      before (there, is, inl same) = (there, is, ⊎_elim (λ e. inl (same ∙ e)) (λ e. inr (omega (arith, same, e, high), omega (arith, same, e))) (early_is ends to target))
      before (there, is, inr (above, within)) = (there, is, inr (above, omega (arith, within, goes)))

  -- the place between two frames
  cut_between : (ends : Bool) (left : Frame) (target from mid to : ℕ) → FrameLies steps left (if ends then to else target) from mid → IsCut target from to mid
  cut_between ends left target from mid to lies place goes low high there = by (goes_on left (if ends then to else target) from mid lies place low high)
    where
      by : GoesOn (if ends then to else target) mid place → (goes ≡ target) ⊎ ((goes ≡ to) ⊎ (goes ≤ mid))
      by (other, is, inl same) = let here = same_goal place goes other there is in ⊎_elim (λ e. inl (here ∙ (same ∙ e))) (λ e. inr (inl (here ∙ (same ∙ e)))) (early_is ends to target)
      by (other, is, inr (above, within)) = inr (inr (omega (arith, same_goal place goes other there is, within)))

  abbrev HasCut : (target from to : ℕ) → Type 0
  HasCut target from to = (mid : ℕ) × (from < mid) × (mid < to) × IsCut target from to mid

  -- two steps or more are cut somewhere
  pub cut_somewhere : (frame : Frame) (target from to : ℕ) → FrameLies steps frame target from to → suc from < to → HasCut target from to
  cut_somewhere step_frame target from to lies many = absurd (omega (arith, lies.1, many))
  cut_somewhere no_frame target from to lies many = absurd (omega (arith, lies, many))
  cut_somewhere (joined_frame ends left right) target from to (mid, begins, goes, lies, rest) many =
      ⊎_elim
      (λ same. cut_somewhere right target from to (subst (λ n. FrameLies steps right target n to) (sym same) rest) many)
      (λ above.
      ⊎_elim
      (λ last. of_left (cut_somewhere left (if ends then to else target) from to (subst (FrameLies steps left (if ends then to else target) from) last lies) many))
      (λ below. (mid, above, below, cut_between ends left target from mid to lies))
      (eq-or-lt_of_le goes))
      (eq-or-lt_of_le begins)
    where
      of_left : HasCut (if ends then to else target) from to → HasCut target from to
      of_left (at, above, below, cut) = (
        at,
        above,
        below,
        λ place other low high there.
            ⊎_elim (λ same. ⊎_elim (λ e. inl (same ∙ e)) (λ e. inr (inl (same ∙ e))) (early_is ends to target)) (λ h. inr h) (cut place other low high there),
      )

  -- where no step goes to its target, it may have another one
  pub goes_elsewhere : (frame : Frame) (target other from to : ℕ) → FrameLies steps frame target from to
      → ((place : ℕ) → from ≤ place → place < to → target_at steps place ≡ Some target → target ≡ other) → FrameLies steps frame other from to
  goes_elsewhere step_frame target other from to (there, one) alike = (there ∙ ap Some (alike from (omega arith) (omega (arith, one)) there), one)
  goes_elsewhere no_frame target other from to lies alike = lies
  goes_elsewhere (joined_frame true left right) target other from to (mid, begins, goes, lies, rest) alike =
      (mid, begins, goes, lies, goes_elsewhere right target other mid to rest (λ place low high there. alike place (omega (arith, begins, low)) high there))
  goes_elsewhere (joined_frame false left right) target other from to (mid, begins, goes, lies, rest) alike =
      (mid, begins, goes, goes_elsewhere left target other from mid lies (λ place low high there. alike place low (omega (arith, goes, high)) there), goes_elsewhere right target other mid to rest (λ place low high there. alike place (omega (arith, begins, low)) high there))

  -- what goes to the target or to the end up to a place, and the rest
  abbrev pub IsParted : (target from mid to most : ℕ) → Type 0
  IsParted target from mid to most =
      (first : Frame) × (rest : Frame) × (FrameLies steps first target from mid ⊎ FrameLies steps first to from mid) × FrameLies steps rest target mid to × (suc (joints first + joints rest) ≤ most)

  -- a first cut of two frames that stands within the left one is a first cut of that
  module _ (ends : Bool) (left right : Frame) (target from mid at to : ℕ) (outside : IsOutside target from to) (above : from < mid) (before : mid < at) (goes : at ≤ to)
      (lies : FrameLies steps left (if ends then to else target) from at) (rest : FrameLies steps right target at to) (first : IsFirstCut target from to mid) where
    early_outside : IsOutside (if ends then to else target) from at
    early_outside =
        ⊎_elim
        (λ e. ⊎_elim (λ low. inl (omega (arith, e, low))) (λ high. inr (omega (arith, e, high, goes))) outside)
        (λ e. inr (omega (arith, e, goes)))
        (early_is ends to target)

    cut_within : IsCut (if ends then to else target) from at mid
    cut_within place other low high there = by (first.0 place other low high there) (goes_on left (if ends then to else target) from at lies place low (omega (arith, high, before)))
      where
        by : (other ≡ target) ⊎ ((other ≡ to) ⊎ (other ≤ mid)) → GoesOn (if ends then to else target) at place → (other ≡ (if ends then to else target)) ⊎ ((other ≡ at) ⊎ (other ≤ mid))
        by cut (same, is, inl early) = inl (same_goal place other same there is ∙ early)
        by (inl aim) (same, is, inr (on, within)) =
            let equal = same_goal place other same there is in
            ⊎_elim (λ down. absurd (omega (arith, aim, equal, on, down, low))) (λ up. inr (inl (omega (arith, aim, equal, within, up, goes)))) outside
        by (inr (inl last)) (same, is, inr (on, within)) = inr (inl (omega (arith, last, same_goal place other same there is, within, goes)))
        by (inr (inr low)) (same, is, inr on) = inr (inr low)

    cut_without : (other : ℕ) → other < mid → IsCut (if ends then to else target) from at other → IsCut target from to other
    cut_without other below cut place goal low high there = by (cut place goal low high there) (first.0 place goal low (omega (arith, high, below)) there)
      where
        by : (goal ≡ (if ends then to else target)) ⊎ ((goal ≡ at) ⊎ (goal ≤ other)) → (goal ≡ target) ⊎ ((goal ≡ to) ⊎ (goal ≤ mid)) → (goal ≡ target) ⊎ ((goal ≡ to) ⊎ (goal ≤ other))
        by (inl early) whole = ⊎_elim (λ e. inl (early ∙ e)) (λ e. inr (inl (early ∙ e))) (early_is ends to target)
        by (inr (inl last)) (inl aim) = inl aim
        by (inr (inl last)) (inr (inl end)) = inr (inl end)
        by (inr (inl last)) (inr (inr low)) = absurd (omega (arith, last, low, before))
        by (inr (inr low)) whole = inr (inr low)

    first_within : IsFirstCut (if ends then to else target) from at mid
    first_within = (cut_within, λ other high low cut. first.1 other high low (cut_without other low cut))

    -- what stands before the cut goes where the left one goes, or nowhere past the cut
    from_left : IsParted (if ends then to else target) from mid at (joints left) → IsParted target from mid to (suc (joints left + joints right))
    from_left (one, other, one_lies, other_lies, few) =
        (one, joined_frame ends other right, by one_lies, (at, omega (arith, before), goes, other_lies, rest), omega (arith, few))
      where
        by : FrameLies steps one (if ends then to else target) from mid ⊎ FrameLies steps one at from mid → FrameLies steps one target from mid ⊎ FrameLies steps one to from mid
        by (inl early) =
            ⊎_elim (λ e. inl (subst (λ n. FrameLies steps one n from mid) e early)) (λ e. inr (subst (λ n. FrameLies steps one n from mid) e early)) (early_is ends to target)
        by (inr last) =
            ⊎_elim
            (λ e. inr (subst (λ n. FrameLies steps one n from mid) e last))
            (λ below.
            inl (goes_elsewhere one at target from mid last (λ place low high there.
            ⊎_elim (λ aim. aim) (λ h. ⊎_elim (λ end. absurd (omega (arith, end, below))) (λ low. absurd (omega (arith, low, before))) h) (first.0 place at low high there))))
            (eq-or-lt_of_le goes)

  parted_more : (target from mid to few most : ℕ) → few ≤ most → IsParted target from mid to few → IsParted target from mid to most
  parted_more target from mid to few most more (first, rest, lies, others, fits) = (first, rest, lies, others, omega (arith, more, fits))

  -- at the first place that no jump crosses a frame is two
  pub parted : (frame : Frame) (target from mid to : ℕ) → IsOutside target from to → FrameLies steps frame target from to → from < mid → mid < to → IsFirstCut target from to mid → IsParted target from mid to (joints frame)
  parted step_frame target from mid to outside lies above below first = absurd (omega (arith, lies.1, above, below))
  parted no_frame target from mid to outside lies above below first = absurd (omega (arith, lies, above, below))
  parted (joined_frame ends left right) target from mid to outside (at, begins, goes, lies, rest) above below first =
      ⊎_elim
      (λ h.
      ⊎_elim
      (λ same. here same)
      (λ behind.
      ⊎_elim
      (λ same. parted_more target from mid to (joints right) (suc (joints left + joints right)) (omega arith) (parted right target from mid to outside (subst (λ n. FrameLies steps right target n to) (sym same) rest) above below first))
      (λ inner. absurd (first.1 at inner behind (cut_between ends left target from at to lies)))
      (eq-or-lt_of_le begins))
      (eq-or-lt_of_le h.1))
      (λ h.
      from_left ends left right target from mid at to outside above h.1 goes lies rest first
      (parted left (if ends then to else target) from mid at (early_outside ends left right target from mid at to outside above h.1 goes lies rest first) lies above h.1
      (first_within ends left right target from mid at to outside above h.1 goes lies rest first)))
      (leb_tells at mid)
    where
      here : at ≡ mid → IsParted target from mid to (suc (joints left + joints right))
      here same =
          let left_lies = subst (FrameLies steps left (if ends then to else target) from) same lies in (
            left,
            right,
            ⊎_elim (λ e. inl (subst (λ n. FrameLies steps left n from mid) e left_lies)) (λ e. inr (subst (λ n. FrameLies steps left n from mid) e left_lies)) (early_is ends to target),
            subst (λ n. FrameLies steps right target n to) same rest,
            omega arith,
          )

-- ---- the parts that are found

-- one of three that are tried
chosen : {X : Type 0} (P : X → Type 0) (a b c : Bool) (x y z : X) → (a ≡ true → P x) → (a ≡ false → b ≡ true → P y) → (a ≡ false → b ≡ false → (c ≡ true) × P z)
    → (found : X) × ((if a then Some x else if b then Some y else if c then Some z else None) ≡ Some found) × P found
chosen P true b c x y z first second third = (x, refl, first refl)
chosen P false true c x y z first second third = (y, refl, second refl refl)
chosen P false false true x y z first second third = (z, refl, (third refl refl).1)
chosen P false false false x y z first second third = absurd (false≢true (third refl refl).0)

at_last : (place other : ℕ) → other < place + 1 → (other ≡ place) ⊎ (other < place)
at_last place other below = eq-or-lt_of_le (omega (arith, below))

module _ (steps : List Step) (target from to : ℕ) where
  abbrev pub SomeGoes : (place goes : ℕ) → Type 0
  SomeGoes place goes = (step : ℕ) × (from ≤ step) × (step < place) × (target_at steps step ≡ Some goes)

  -- a part begins there, no jump of its steps before a place goes past its end, and it tells where they go
  pub record IsPart (place : ℕ) (part : Part) : Type 0 where
    pub begins : part.from ≡ from
    pub within : (step goes : ℕ) → from ≤ step → step < place → target_at steps step ≡ Some goes → (goes ≡ target) ⊎ ((goes ≡ to) ⊎ (goes ≤ part.to))
    pub reached : (part.to ≤ from) ⊎ (SomeGoes place part.to × (part.to ≡ target → ⊥) × (part.to ≡ to → ⊥))
    pub there : part.there ≡ true → SomeGoes place target
    pub ends : part.end ≡ true → SomeGoes place to × (to ≡ target → ⊥)
    pub stays : part.end ≡ false → (step : ℕ) → from ≤ step → step < place → target_at steps step ≡ Some to → to ≡ target

  goes_later : (place goes : ℕ) → SomeGoes place goes → SomeGoes (place + 1) goes
  goes_later place goes (step, low, high, is) = (step, low, omega (arith, high), is)

  -- of a part with one more step
  module _ (place goes : ℕ) (part : Part) (low : from ≤ place) (is_part : IsPart place part) (there : target_at steps place ≡ Some goes) where
    here : (step other : ℕ) → step ≡ place → target_at steps step ≡ Some other → other ≡ goes
    here step other same is = same_goal steps place other goes (subst (λ n. target_at steps n ≡ Some other) same is) there

    reached_later : (end : ℕ) → (end ≤ from) ⊎ (SomeGoes place end × (end ≡ target → ⊥) × (end ≡ to → ⊥)) → (end ≤ from) ⊎ (SomeGoes (place + 1) end × (end ≡ target → ⊥) × (end ≡ to → ⊥))
    reached_later end (inl none) = inl none
    reached_later end (inr (some, aside, inside)) = inr (goes_later place end some, aside, inside)

    goes_there : goes ≡ target → IsPart (place + 1) (record part { there = true })
    goes_there aim = record {
      begins = is_part.begins;
      within = λ step other begin high is. ⊎_elim (λ same. inl (here step other same is ∙ aim)) (λ before. is_part.within step other begin before is) (at_last place step high);
      reached = reached_later part.to is_part.reached;
      there = λ _. (place, low, omega arith, there ∙ ap Some aim);
      ends = λ end. (goes_later place to (is_part.ends end).0, (is_part.ends end).1);
      stays = λ end step begin high is. ⊎_elim (λ same. here step to same is ∙ aim) (λ before. is_part.stays end step begin before is) (at_last place step high);
    }

    goes_to_end : (goes ≡ target → ⊥) → goes ≡ to → IsPart (place + 1) (record part { end = true })
    goes_to_end aside last = record {
      begins = is_part.begins;
      within = λ step other begin high is. ⊎_elim (λ same. inr (inl (here step other same is ∙ last))) (λ before. is_part.within step other begin before is) (at_last place step high);
      reached = reached_later part.to is_part.reached;
      there = λ goal. goes_later place target (is_part.there goal);
      ends = λ _. ((place, low, omega arith, there ∙ ap Some last), λ same. aside (last ∙ same));
      stays = λ end. absurd (false≢true (sym end));
    }

    goes_inside : (goes ≡ target → ⊥) → (goes ≡ to → ⊥) → IsPart (place + 1) (record part { to = max part.to goes })
    goes_inside aside inside = record {
      begins = is_part.begins;
      within = λ step other begin high is.
          ⊎_elim
          (λ same. inr (inr (omega (arith, here step other same is))))
          (λ before. ⊎_elim (λ aim. inl aim) (λ h. ⊎_elim (λ last. inr (inl last)) (λ most. inr (inr (omega (arith, most)))) h) (is_part.within step other begin before is))
          (at_last place step high);
      reached =
          ⊎_elim
          (λ h. let longest : goes ≡ max part.to goes = omega (arith, h.1) in
          subst (λ n. (n ≤ from) ⊎ (SomeGoes (place + 1) n × (n ≡ target → ⊥) × (n ≡ to → ⊥))) longest (inr ((place, low, omega arith, there), aside, inside)))
          (λ h. let longest : part.to ≡ max part.to goes = omega (arith, h.1) in
          subst (λ n. (n ≤ from) ⊎ (SomeGoes (place + 1) n × (n ≡ target → ⊥) × (n ≡ to → ⊥))) longest (reached_later part.to is_part.reached))
          (leb_tells part.to goes);
      there = λ goal. goes_later place target (is_part.there goal);
      ends = λ end. (goes_later place to (is_part.ends end).0, (is_part.ends end).1);
      stays = λ end step begin high is. ⊎_elim (λ same. absurd (inside (sym (here step to same is)))) (λ before. is_part.stays end step begin before is) (at_last place step high);
    }

    part_grown : (goes ≡ target) ⊎ ((place < goes) × (goes ≤ to)) → (longer : Part) × (part_with target to place part goes ≡ Some longer) × IsPart (place + 1) longer
    part_grown on =
        chosen (IsPart (place + 1)) (goes == target) (goes == to) (nat_lt place goes && nat_lt goes to) (record part { there = true }) (record part { end = true }) (record part { to = max part.to goes })
        (λ aim. goes_there (grind (arith, nat_tests)))
        (λ aside last. goes_to_end (grind (arith, nat_tests)) (grind (arith, nat_tests)))
        (λ aside inside.
        let no_aim : goes ≡ target → ⊥ = grind (arith, nat_tests) in
        let no_end : goes ≡ to → ⊥ = grind (arith, nat_tests) in
        (ahead no_aim no_end on, goes_inside no_aim no_end))
      where
        ahead : (goes ≡ target → ⊥) → (goes ≡ to → ⊥) → (goes ≡ target) ⊎ ((place < goes) × (goes ≤ to)) → (nat_lt place goes && nat_lt goes to) ≡ true
        ahead no_aim no_end (inl aim) = absurd (no_aim aim)
        ahead no_aim no_end (inr (above, within)) =
            ⊎_elim (λ same. absurd (no_end same)) (λ below. let first : nat_lt place goes ≡ true = grind (arith, nat_tests) in let second : nat_lt goes to ≡ true = grind (arith, nat_tests) in rw first (rw second refl)) (eq-or-lt_of_le within)

  -- a part that is over at the first cut, and the others
  abbrev pub IsCutAt : (count place : ℕ) → Part → Type 0
  IsCutAt count place part =
      (mid : ℕ) × (left : ℕ) × (longer : Part) × (place < mid) × (mid + left ≡ to) × IsPart mid longer × IsFirstCut steps target from to mid
      × (parts_from steps target to count place part ≡ option_map (λ parts. record longer { to = mid } ∷ parts) (parts_from steps target to left mid (empty_part mid)))

  abbrev NoneUpTo : (place : ℕ) → Type 0
  NoneUpTo place = (other : ℕ) → from < other → other ≤ place → IsCut steps target from to other → ⊥

  -- or one that goes on
  abbrev GoesFurther : (count place : ℕ) → Part → Type 0
  GoesFurther count place part =
      (longer : Part) × IsPart (place + 1) longer × (place + 1 < to) × NoneUpTo (place + 1) × (parts_from steps target to (suc count) place part ≡ parts_from steps target to count (place + 1) longer)

  module _ (all : (place : ℕ) → from ≤ place → place < to → GoesOn steps target to place) where
    -- how far a part reaches is no cut before there, and not past the end
    reach_of : (place : ℕ) (part : Part) → place ≤ to → from ≤ place → IsPart place part → place < part.to → (part.to ≤ to) × (IsCut steps target from to place → ⊥)
    reach_of place part high low is_part past = by is_part.reached
      where
        by : (part.to ≤ from) ⊎ (SomeGoes place part.to × (part.to ≡ target → ⊥) × (part.to ≡ to → ⊥)) → (part.to ≤ to) × (IsCut steps target from to place → ⊥)
        by (inl none) = absurd (omega (arith, none, low, past))
        by (inr ((step, begin, before, is), aside, inside)) =
            (ends (all step begin (omega (arith, before, high))), λ cut. ⊎_elim aside (λ h. ⊎_elim inside (λ low. omega (arith, low, past)) h) (cut step part.to begin before is))
          where
            ends : GoesOn steps target to step → part.to ≤ to
            ends (goes, there, inl aim) = absurd (aside (same_goal steps step part.to goes is there ∙ aim))
            ends (goes, there, inr on) = omega (arith, same_goal steps step part.to goes is there, on.1)

    cut_or_on : (count place : ℕ) (part : Part) → place + suc count ≡ to → from ≤ place → IsPart place part → NoneUpTo place → IsCutAt (suc count) place part ⊎ GoesFurther count place part
    cut_or_on count place part sum low is_part none = by (all place low (omega (arith, sum)))
      where
        by : GoesOn steps target to place → IsCutAt (suc count) place part ⊎ GoesFurther count place part
        by (goes, there, on) = grown (part_grown place goes part low is_part there on)
          where
            grown : (longer : Part) × (part_with target to place part goes ≡ Some longer) × IsPart (place + 1) longer → IsCutAt (suc count) place part ⊎ GoesFurther count place part
            grown (longer, is, is_longer) =
                let begun : parts_from steps target to (suc count) place part ≡ before_parts (parts_from steps target to count (place + 1)) (place + 1) longer =
                ap (λ o. option_and_then (before_parts (parts_from steps target to count (place + 1)) (place + 1)) (option_and_then (part_with target to place part) o)) there
                ∙ ap (option_and_then (before_parts (parts_from steps target to count (place + 1)) (place + 1))) is in
                ⊎_elim
                (λ h. inl (
                  place + 1,
                  count,
                  longer,
                  omega arith,
                  omega (arith, sum),
                  is_longer,
                  (over longer is_longer h.1, λ other above below. none other above (omega (arith, below))),
                  begun ∙ ap (λ b. if b then option_map (λ parts. record longer { to = place + 1 } ∷ parts) (parts_from steps target to count (place + 1) (empty_part (place + 1))) else parts_from steps target to count (place + 1) longer) h.0,
                ))
                (λ h.
                let reach = reach_of (place + 1) longer (omega (arith, sum)) (omega (arith, low)) is_longer h.1 in
                inr (
                  longer,
                  is_longer,
                  omega (arith, reach.0, h.1),
                  none_yet reach.1,
                  begun ∙ ap (λ b. if b then option_map (λ parts. record longer { to = place + 1 } ∷ parts) (parts_from steps target to count (place + 1) (empty_part (place + 1))) else parts_from steps target to count (place + 1) longer) h.0,
                ))
                (leb_tells longer.to (place + 1))
              where
                over : (longer : Part) → IsPart (place + 1) longer → longer.to ≤ place + 1 → IsCut steps target from to (place + 1)
                over longer is_longer short step other begin before is =
                    ⊎_elim (λ aim. inl aim) (λ h. ⊎_elim (λ last. inr (inl last)) (λ most. inr (inr (omega (arith, most, short)))) h) (is_longer.within step other begin before is)

                none_yet : (IsCut steps target from to (place + 1) → ⊥) → NoneUpTo (place + 1)
                none_yet uncut other above below cut = ⊎_elim (λ same. uncut (subst (IsCut steps target from to) same cut)) (λ before. none other above (omega (arith, before)) cut) (eq-or-lt_of_le below)

    first_cut : (count place : ℕ) (part : Part) → place + suc count ≡ to → from ≤ place → IsPart place part → NoneUpTo place → IsCutAt (suc count) place part
    first_cut zero place part sum low is_part none = ⊎_elim (λ cut. cut) (λ h. absurd (omega (arith, sum, h.2))) (cut_or_on 0 place part sum low is_part none)
    first_cut (suc count) place part sum low is_part none =
        ⊎_elim
        (λ cut. cut)
        (λ h. by h.0 h.4 (first_cut count (place + 1) h.0 (omega (arith, sum)) (omega (arith, low)) h.1 h.3))
        (cut_or_on (suc count) place part sum low is_part none)
      where
        by : (longer : Part) → parts_from steps target to (suc (suc count)) place part ≡ parts_from steps target to (suc count) (place + 1) longer → IsCutAt (suc count) (place + 1) longer → IsCutAt (suc (suc count)) place part
        by longer same (mid, left, longest, above, all_sum, is_longest, first, found) = (mid, left, longest, omega (arith, above), all_sum, is_longest, first, same ∙ found)

    empty_is_part : IsPart from (empty_part from)
    empty_is_part = record {
      begins = refl;
      within = λ step goes low high is. absurd (omega (arith, low, high));
      reached = inl (omega arith);
      there = λ no. absurd (false≢true no);
      ends = λ no. absurd (false≢true no);
      stays = λ no step low high is. absurd (omega (arith, low, high));
    }

    -- the parts from there on begin with one up to the first cut
    pub begin_with : (count : ℕ) → from < to → from + count ≡ to → IsCutAt count from (empty_part from)
    begin_with zero some sum = absurd (omega (arith, some, sum))
    begin_with (suc count) some sum = first_cut count from (empty_part from) sum (omega arith) empty_is_part (λ other above below cut. omega (arith, above, below))
