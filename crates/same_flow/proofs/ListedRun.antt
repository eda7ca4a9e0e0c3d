-- The list of locals along the steps of a function: before each step it has the entries of the steps before, but for the ends of those that are active.
use Rattle.std.proofs.Common.{◌≡◌, ◌≤◌, ◌<◌, ℕ, zero, suc, ◌+◌, ◌-◌, List, [], ◌∷◌, ◌++◌, length, take, drop, refl, sym, ap, ap₂, ◌∙◌, arith, subst}
use Rattle.std.proofs.Math.Seq.{take-append_seam, drop-append_seam}
use Rattle.std.specs.Prelude.{Option, Some, option_map, replicate, slice_get}
use Rattle.proto.specs.declared.parts.LocVar.{LocVar}
use Rattle.recover_expr.specs.Drafts.{Part}
use Rattle.recover_expr.specs.Placing.{Steps}
use Rattle.recover_expr.specs.declared.steps.Step.{Step}
use Rattle.recover_expr.specs.declared.steps.StepKind.{StepKind}
use Rattle.scheme.specs.Making.{active_count}
use Rattle.same_flow.specs.Listed.{entries_where, entries_from}
use Rattle.same_flow.specs.Performed.{Performance, kind_at, part_at, kind_made, still_active, ended_to, ended_before, ends_of, behind_kind, behind_step}
use Rattle.same_flow.proofs.BlocksFollowed.{replicate_lasts}
use Rattle.same_flow.proofs.Followed.{Run, at_step, pc_of, EndBy, LastTo, last_weaker, last_both, still, append_nothing, append_again}
use Rattle.same_flow.proofs.ListedLocals.{ComesTo, AllAt, comes_ended}
use Rattle.same_flow.proofs.ListedSteps.{step_lists}
use Rattle.same_flow.proofs.StepsTold.{Parted, EndLater, Tell, Told}

-- ---- the entries of steps in a row

-- those of one more
pub entries_last : (code : Steps) (pcs : ℕ → ℕ) (at count last : ℕ) → last ≡ at + count →
    entries_from code pcs at (suc count) ≡ entries_from code pcs at count ++ entries_where pcs last (kind_at code.steps last) (part_at code last)
entries_last code pcs at zero last e = append_nothing _ ∙ ap (λ n. entries_where pcs n (kind_at code.steps n) (part_at code n)) (let d : at ≡ last = omega (arith, e) in d)
entries_last code pcs at (suc count) last e =
    let first = entries_where pcs at (kind_at code.steps at) (part_at code at) in
    ap (λ (l : List LocVar). first ++ l) (entries_last code pcs (suc at) count last (omega (arith, e))) ∙ sym (append_again first (entries_from code pcs (suc at) count) _)

-- the first ones
pub entries_begin : (code : Steps) (pcs : ℕ → ℕ) (at count all : ℕ) → count ≤ all → (rest : List LocVar) × (entries_from code pcs at all ≡ entries_from code pcs at count ++ rest)
entries_begin code pcs at zero all h = (entries_from code pcs at all, refl)
entries_begin code pcs at (suc count) zero h = absurd (omega (arith, h))
entries_begin code pcs at (suc count) (suc all) h =
    let first = entries_where pcs at (kind_at code.steps at) (part_at code at) in
    let x = entries_begin code pcs (suc at) count all (omega (arith, h)) in
    (x.0, ap (λ (l : List LocVar). first ++ l) x.1 ∙ sym (append_again first (entries_from code pcs (suc at) count) x.0))

-- ---- ends

pub last_first : (p : ℕ) (xs ys : List ℕ) → LastTo p (xs ++ ys) → LastTo p ys
last_first p [] ys l = l
last_first p (x ∷ xs) ys l = last_first p xs ys l.1

last_zero : (ends : List ℕ) → LastTo 0 ends
last_zero [] = tt
last_zero (end ∷ ends) = (omega arith, last_zero ends)

-- what ends neither before a place nor behind it
pub all_at : (pcs : ℕ → ℕ) (p : ℕ) (ends : List ℕ) → LastTo p ends → EndBy p ends → AllAt pcs p ends
all_at pcs p [] l e = tt
all_at pcs p (end ∷ ends) l e = let a = l.0 in let b = e.0 in (omega arith, all_at pcs p ends l.1 e.1)

replicate_later : (p k end : ℕ) → p < end → LastTo (suc p) (replicate k end)
replicate_later p k end h = last_weaker (suc p) end (replicate k end) (omega (arith, h)) (replicate_lasts k end)

later_lasts : (p : ℕ) (kind : StepKind) (k : ℕ) → EndLater p kind → LastTo (suc p) (ends_of kind k)
later_lasts p (StepKind.Declaration end captured) k h = replicate_later p k end h
later_lasts p (StepKind.Head numeric foot end variables_end captured) k h =
    last_both (suc p) (replicate 3 end) (replicate (k - 3) variables_end) (replicate_later p 3 end h.0) (replicate_later p (k - 3) variables_end h.1)
later_lasts p StepKind.Act k h = tt
later_lasts p StepKind.Return k h = tt
later_lasts p (StepKind.Test when target levels) k h = tt
later_lasts p (StepKind.Jump target) k h = tt
later_lasts p (StepKind.Close register declared) k h = tt
later_lasts p (StepKind.Foot numeric target) k h = tt

pub step_there : (steps : List Step) (i : ℕ) → i < length steps → (step : Step) × (slice_get steps i ≡ Some step)
step_there [] i h = absurd (omega (arith, h))
step_there (step ∷ steps) zero h = (step, refl)
step_there (step ∷ steps) (suc i) h = step_there steps i (omega (arith, h))

-- ---- a run, where the list comes to this one before its first step

module _ (run : Run) (first : List LocVar) where
  -- what it comes to when so many steps are made
  abbrev pub front : ℕ → List LocVar
  front p = first ++ entries_from run.code (pc_of run) 0 p

  abbrev Comes : Performance → ℕ → Type 0
  Comes now p = ComesTo (pc_of run) now.maker.active now.ends now.maker.locals (front p)

  pub record ListedTo (p : ℕ) : Type 0 where
    pub comes : Comes (at_step run p) p
    pub lasts : LastTo p (at_step run p).ends

  front_next : (p : ℕ) → front (suc p) ≡ front p ++ entries_where (pc_of run) p (kind_at run.code.steps p) (part_at run.code p)
  front_next p =
      ap (λ (l : List LocVar). first ++ l) (entries_last run.code (pc_of run) 0 p p (omega arith))
      ∙ sym (append_again first (entries_from run.code (pc_of run) 0 p) (entries_where (pc_of run) p (kind_at run.code.steps p) (part_at run.code p)))

  -- before a step
  pub record EndedTo (p : ℕ) : Type 0 where
    pub comes : Comes (ended_before p (at_step run p)) p
    pub lasts : LastTo (suc p) (ended_before p (at_step run p)).ends

  pub ended_listed : (p : ℕ) → Parted run p → ListedTo p → EndedTo p
  ended_listed p P L =
      let now = at_step run p in
      let n = length P.ends in
      let count : still_active p now.ends ≡ n = ap (still_active p) P.all_ends ∙ still p P.ends P.behind P.lasts P.gone in
      let kept : take n now.ends ≡ P.ends = ap (λ (es : List ℕ). take n es) P.all_ends ∙ take-append_seam P.ends P.behind in
      let behind : drop n now.ends ≡ P.behind = ap (λ (es : List ℕ). drop n es) P.all_ends ∙ drop-append_seam P.ends P.behind in
      let last = last_first p P.ends P.behind (subst (λ (es : List ℕ). LastTo p es) P.all_ends L.lasts) in
      let here = subst (λ (es : List ℕ). AllAt (pc_of run) p es) (sym behind) (all_at (pc_of run) p P.behind last P.gone) in
      record {
        comes = subst (λ k. Comes (ended_to k now) p) (sym count) (comes_ended (pc_of run) p n here L.comes);
        lasts = subst (λ k. LastTo (suc p) (take k now.ends)) (sym count) (subst (λ (es : List ℕ). LastTo (suc p) es) (sym kept) P.lasts);
      }

  step_listed : (p : ℕ) (step : Step) → slice_get run.code.steps p ≡ Some step → Tell run p step → ListedTo p → ListedTo (suc p)
  step_listed p step there T L =
      let before = ended_before p (at_step run p) in
      let B = ended_listed p T.parted L in
      let kind = step.kind in
      let part = T.told.part in
      let after = kind_made run.code kind part before.maker in
      let k : kind_at run.code.steps p ≡ Some kind = ap (option_map (λ (it : Step). it.kind)) there in
      let here : at_step run (suc p) ≡ behind_kind run.code kind part before = ap₂ (λ (a : Option StepKind) (b : Option Part). behind_step run.code a b before) k T.told.there in
      let entries = ap₂ (λ (a : Option StepKind) (b : Option Part). front p ++ entries_where (pc_of run) p a b) k T.told.there in
      record {
        comes =
            subst (λ (now : Performance). Comes now (suc p)) (sym here)
            (subst (λ (l : List LocVar). ComesTo (pc_of run) after.active (before.ends ++ ends_of kind (active_count after - active_count before.maker)) after.locals l) (sym (front_next p ∙ entries))
            (step_lists (pc_of run) run.code p kind part T.told.fits before.maker before.ends (front p) (ap (λ (now : Performance). length now.maker.items) here) B.comes));
        lasts =
            subst (λ (now : Performance). LastTo (suc p) now.ends) (sym here)
            (last_both (suc p) before.ends (ends_of kind (active_count after - active_count before.maker)) B.lasts (later_lasts p kind (active_count after - active_count before.maker) T.later));
      }

  pub all_listed : Told run 0 (length run.code.steps) → Comes run.first 0 → (p : ℕ) → p ≤ length run.code.steps → ListedTo p
  all_listed told start zero h = record { comes = start; lasts = last_zero run.first.ends }
  all_listed told start (suc p) h =
      let there = step_there run.code.steps p (omega (arith, h)) in
      step_listed p there.0 there.1 (told.each p there.0 (omega arith) (omega (arith, h)) there.1) (all_listed told start p (omega (arith, h)))
