-- Words one behind the other, and steps one behind the other.
use Rattle.std.proofs.Common.{◌≡◌, refl, sym, ap, ◌∙◌, ℕ, suc, zero, ◌+◌, ◌-◌, ◌<◌, ◌≤◌, true, false, nat_le, List, ◌∷◌, [], ◌++◌, Option, Some, None, arith, length}
use Rattle.std.specs.Prelude.{◌==◌, option_and_then, if◌then◌else◌}
use Rattle.std.proofs.lemmas.Bool.Decides.{nat_tests}
use Rattle.recover_expr.specs.Drafts.{Drafted}
use Rattle.recover_expr.specs.Locals.{starting}
use Rattle.recover_expr.specs.Situation.{Function, Situation}
use Rattle.recover_expr.specs.Reading.{Turn, on, over, go_on, turn_at, words_from, ReadSoFar, drafts_from, and_draft, left_at, read_step, step_at}

-- ---- the words of a step

-- where no local starts at its first word
pub step_begins : (f : Function) (s : Situation) → starting f.of.locals s.pc s.scope ≡ 0 → read_step f s ≡ words_from f (suc (f.last - s.pc)) s.pc s
step_begins f s none = ap (λ n. if n == 0 then words_from f (suc (f.last - s.pc)) s.pc s else None) none

pub word_turn : (f : Function) (last counter at next : ℕ) (before after : Situation) → counter < last → ◌≡◌ {A = Option (Turn × Situation)} (Some (on next, after)) (turn_at f at before) → {whole : Option (Drafted × Situation)} →
    words_from f (suc (last - counter)) at before ≡ whole → words_from f (suc (last - (counter + 1))) next after ≡ whole
word_turn f last counter at next before after below is left =
    let fewer : suc (last - (counter + 1)) ≡ last - counter = omega arith in
    ap (λ n. words_from f n next after) fewer ∙ ap (option_and_then (λ p. go_on (words_from f (last - counter)) p.0 p.1)) is ∙ left

pub word_over : (f : Function) (count at : ℕ) (draft : Drafted) (before after : Situation) → ◌≡◌ {A = Option (Turn × Situation)} (Some (over draft, after)) (turn_at f at before) → {whole : Option (Drafted × Situation)} →
    words_from f (suc count) at before ≡ whole → Some (draft, after) ≡ whole
word_over f count at draft before after is left = ap (option_and_then (λ p. go_on (words_from f count) p.0 p.1)) is ∙ left

pub word_stops : (f : Function) (count at : ℕ) (before : Situation) → turn_at f at before ≡ None → {whole : Option (Drafted × Situation)} → words_from f (suc count) at before ≡ whole → whole ≡ None
word_stops f count at before none left = sym left ∙ ap (option_and_then (λ p. go_on (words_from f count) p.0 p.1)) none

-- no word is left
pub words_end : (f : Function) (last counter at next : ℕ) (before after : Situation) → last ≤ counter → ◌≡◌ {A = Option (Turn × Situation)} (Some (on next, after)) (turn_at f at before) → {whole : Option (Drafted × Situation)} →
    words_from f (suc (last - counter)) at before ≡ whole → whole ≡ None
words_end f last counter at next before after past is left =
    let none : last - counter ≡ 0 = omega arith in
    sym left ∙ ap (λ n. words_from f (suc n) at before) none ∙ ap (option_and_then (λ p. go_on (words_from f zero) p.0 p.1)) (sym is)

-- ---- the steps of a function

below_is : (last pc : ℕ) → pc < last → nat_le last pc ≡ false
below_is last pc below = grind (arith, nat_tests)

behind_is : (last pc : ℕ) → last ≤ pc → nat_le last pc ≡ true
behind_is last pc behind = grind (arith, nat_tests)

step_read : (f : Function) (count pc : ℕ) (drafts : List Drafted) (s : Situation) → pc < f.last →
    drafts_from f (suc count) (drafts, pc, s) ≡ option_and_then (λ step. drafts_from f count (and_draft f drafts step)) (step_at f (length drafts) pc s)
step_read f count pc drafts s below =
    let sofar : ReadSoFar = (drafts, pc, s) in
    ap (λ b. if b then Some sofar else option_and_then (λ step. drafts_from f count (and_draft f drafts step)) (step_at f (length drafts) pc s)) (below_is f.last pc below)

pub draft_turn : (f : Function) (counter pc number : ℕ) (drafts : List Drafted) (before after : Situation) (draft : Drafted) → counter < f.last → pc < f.last → number ≡ length drafts →
    ◌≡◌ {A = Option (Drafted × Situation)} (Some (draft, after)) (step_at f number pc before) → {whole : Option ReadSoFar} →
    drafts_from f (f.last - counter) (drafts, pc, before) ≡ whole → drafts_from f (f.last - (counter + 1)) (drafts ++ draft ∷ [], draft.next, left_at f draft.next after) ≡ whole
draft_turn f counter pc number drafts before after draft more below number_is is left =
    let count : f.last - counter ≡ suc (f.last - (counter + 1)) = omega arith in
    ap (option_and_then (λ step. drafts_from f (f.last - (counter + 1)) (and_draft f drafts step))) (is ∙ ap (λ n. step_at f n pc before) number_is)
    ∙ sym (step_read f (f.last - (counter + 1)) pc drafts before below)
    ∙ ap (λ n. drafts_from f n (drafts, pc, before)) (sym count) ∙ left

pub draft_stops : (f : Function) (counter pc number : ℕ) (drafts : List Drafted) (before : Situation) → counter < f.last → pc < f.last → number ≡ length drafts → step_at f number pc before ≡ None → {whole : Option ReadSoFar} →
    drafts_from f (f.last - counter) (drafts, pc, before) ≡ whole → whole ≡ None
draft_stops f counter pc number drafts before more below number_is none left =
    let count : f.last - counter ≡ suc (f.last - (counter + 1)) = omega arith in
    sym left ∙ ap (λ n. drafts_from f n (drafts, pc, before)) count ∙ step_read f (f.last - (counter + 1)) pc drafts before below
    ∙ ap (option_and_then (λ step. drafts_from f (f.last - (counter + 1)) (and_draft f drafts step))) (ap (λ n. step_at f n pc before) (sym number_is) ∙ none)

-- all are read
pub drafts_over : (f : Function) (count pc : ℕ) (drafts : List Drafted) (s : Situation) → f.last ≤ pc → drafts_from f count (drafts, pc, s) ≡ Some (drafts, pc, s)
drafts_over f zero pc drafts s behind = refl
drafts_over f (suc count) pc drafts s behind =
    let sofar : ReadSoFar = (drafts, pc, s) in
    ap (λ b. if b then Some sofar else option_and_then (λ step. drafts_from f count (and_draft f drafts step)) (step_at f (length drafts) pc s)) (behind_is f.last pc behind)

pub drafts_counted : (f : Function) (counter pc : ℕ) (drafts : List Drafted) (s : Situation) → f.last ≤ counter → drafts_from f (f.last - counter) (drafts, pc, s) ≡ Some (drafts, pc, s)
drafts_counted f counter pc drafts s past =
    let none : f.last - counter ≡ 0 = omega arith in
    ap (λ n. drafts_from f n (drafts, pc, s)) none
