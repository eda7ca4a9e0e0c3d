-- Of the locals that are active behind so many steps each ends no later than those around it.
use Rattle.std.proofs.Common.{◌≡◌, ◌≤◌, ℕ, zero, suc, ◌+◌, ◌-◌, List, [], ◌∷◌, ◌++◌, length, take, drop, refl, sym, ap, ap₂, ◌∙◌, arith, subst}
use Rattle.std.proofs.Math.Seq.{take-append_seam}
use Rattle.std.specs.Prelude.{Option, None, Some}
use Rattle.recover_expr.specs.Drafts.{Part}
use Rattle.recover_expr.specs.Placing.{Steps}
use Rattle.recover_expr.specs.declared.steps.StepKind.{StepKind}
use Rattle.same_flow.specs.Performed.{Performance, behind_step, ended_before, kind_at, part_at, still_active}
use Rattle.same_flow.proofs.Followed.{EndBy, LastTo, Run, append_again, append_nothing, at_step, end_append, end_weaker, still}
use Rattle.same_flow.proofs.ListedRun.{last_first}
use Rattle.same_flow.proofs.StepsTold.{Parted}

-- each ends no later than those before it
abbrev pub Falling : List ℕ → Type 0
Falling [] = Unit {0}
Falling (end ∷ ends) = EndBy end ends × Falling ends

-- all have the same end
all_fall : (p : ℕ) (ends : List ℕ) → LastTo p ends → EndBy p ends → Falling ends
all_fall p [] lasts gone = tt
all_fall p (end ∷ ends) lasts gone = let one = lasts.0 in (end_weaker p end ends (omega (arith, one)) gone.1, all_fall p ends lasts.1 gone.1)

both_fall : (p : ℕ) (ends others : List ℕ) → LastTo p ends → Falling ends → EndBy p others → Falling others → Falling (ends ++ others)
both_fall p [] others lasts one gone other = other
both_fall p (end ∷ ends) others lasts one gone other =
    let here = lasts.0 in
    (end_append end ends others one.0 (end_weaker p end others (omega (arith, here)) gone), both_fall p ends others lasts.1 one.1 gone other)

first_gone : (p : ℕ) (ends others : List ℕ) → EndBy p (ends ++ others) → EndBy p ends
first_gone p [] others gone = tt
first_gone p (end ∷ ends) others gone = (gone.0, first_gone p ends others gone.1)

first_lasts : (p : ℕ) (ends others : List ℕ) → LastTo p (ends ++ others) → LastTo p ends
first_lasts p [] others lasts = tt
first_lasts p (end ∷ ends) others lasts = (lasts.0, first_lasts p ends others lasts.1)

-- the first of some ends: those that are behind a place, and those that are not
record Split (p : ℕ) (first ends : List ℕ) : Type 0 where
  later : List ℕ
  others : List ℕ
  both : first ≡ later ++ others
  lasts : LastTo (suc p) later
  gone : EndBy p others
  rest : List ℕ
  begins : ends ≡ later ++ rest

split : (p : ℕ) (first more ends behind : List ℕ) → first ++ more ≡ ends ++ behind → LastTo (suc p) ends → EndBy p behind → Split p first ends
split p [] more ends behind same lasts gone = record { later = []; others = []; both = refl; lasts = tt; gone = tt; rest = ends; begins = refl }
split p (end ∷ first) more [] behind same lasts gone = record {
  later = [];
  others = end ∷ first;
  both = refl;
  lasts = tt;
  gone = first_gone p (end ∷ first) more (subst (EndBy p) (sym same) gone);
  rest = [];
  begins = refl;
}
split p (end ∷ first) more (other ∷ ends) behind same lasts gone =
    let one : end ≡ other = cc in
    let rest : first ++ more ≡ ends ++ behind = ap (drop 1) same in
    let found = split p first more ends behind rest lasts.1 gone in
    record {
      later = other ∷ found.later;
      others = found.others;
      both = ap₂ (λ (end : ℕ) ends. end ∷ ends) one found.both;
      lasts = (lasts.0, found.lasts);
      gone = found.gone;
      rest = found.rest;
      begins = ap (λ ends. other ∷ ends) found.begins;
    }

module _ (run : Run) where
  -- the ends of the locals that are active before a step
  pub before_ends : (p : ℕ) (parted : Parted run p) → (ended_before p (at_step run p)).ends ≡ parted.ends
  before_ends p parted =
      let now = at_step run p in
      let count : still_active p now.ends ≡ length parted.ends = ap (still_active p) parted.all_ends ∙ still p parted.ends parted.behind parted.lasts parted.gone in
      ap (λ n. take n now.ends) count ∙ ap (take (length parted.ends)) parted.all_ends ∙ take-append_seam parted.ends parted.behind

  -- a step adds ends behind the others
  adds_ends : (code : Steps) (kind : Option StepKind) (part : Option Part) (now : Performance) → (new : List ℕ) × ((behind_step code kind part now).ends ≡ now.ends ++ new)
  adds_ends code (Some kind) (Some part) now = (_, refl)
  adds_ends code None part now = ([], sym (append_nothing now.ends))
  adds_ends code (Some kind) None now = ([], sym (append_nothing now.ends))

  module _ (last : ℕ) (parted : (p : ℕ) → p ≤ last → Parted run p) (gone : EndBy last (at_step run last).ends) where
    falls_from : (count p : ℕ) → last ≡ count + p → (ends more : List ℕ) → LastTo p ends → (at_step run p).ends ≡ ends ++ more → Falling ends
    falls_from zero p is ends more lasts begins =
        let here : p ≡ last = omega (arith, is) in
        let all = subst (λ q. EndBy q (at_step run q).ends) (sym here) gone in
        all_fall p ends lasts (first_gone p ends more (subst (EndBy p) begins all))
    falls_from (suc count) p is ends more lasts begins =
        let parts = parted p (omega (arith, is)) in
        let found = split p ends more parts.ends parts.behind (sym begins ∙ parts.all_ends) parts.lasts parts.gone in
        let both = subst (LastTo p) found.both lasts in
        let new = adds_ends run.code (kind_at run.code.steps p) (part_at run.code p) (ended_before p (at_step run p)) in
        let next : (at_step run (suc p)).ends ≡ found.later ++ (found.rest ++ new.0) =
        new.1 ∙ ap (λ ends. ends ++ new.0) (before_ends p parts ∙ found.begins) ∙ append_again found.later found.rest new.0 in
        subst Falling (sym found.both)
        (both_fall p found.later found.others (first_lasts p found.later found.others both) (falls_from count (suc p) (omega (arith, is)) found.later (found.rest ++ new.0) found.lasts next) found.gone
        (all_fall p found.others (last_first p found.later found.others both) found.gone))

    pub ends_fall : (p : ℕ) → p ≤ last → LastTo p (at_step run p).ends → Falling (at_step run p).ends
    ends_fall p most lasts = falls_from (last - p) p (omega (arith, most)) (at_step run p).ends [] lasts (sym (append_nothing (at_step run p).ends))

-- the last of some ends is no later than any of them
pub last_of_all : (ends : List ℕ) (end : ℕ) (others : List ℕ) → Falling (ends ++ end ∷ others) → LastTo end ends
last_of_all [] end others falls = tt
last_of_all (one ∷ ends) end others falls = (first_of ends falls.0, last_of_all ends end others falls.1)
  where
    first_of : (ends : List ℕ) → EndBy one (ends ++ end ∷ others) → end ≤ one
    first_of [] gone = gone.0
    first_of (other ∷ ends) gone = first_of ends gone.1
