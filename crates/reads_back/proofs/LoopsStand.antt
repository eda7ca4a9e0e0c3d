-- The steps behind the block of a `repeat` and of an arm stand.
use Rattle.std.proofs.Common.{◌≡◌, ◌≤◌, ℕ, suc, ◌+◌, Bool, true, false, List, [], ◌++◌, length, sym, ◌∙◌, subst, arith}
use Rattle.lua_tree.specs.Syntax.{Expression}
use Rattle.scheme.specs.Making.{Maker, active_count, jump_to, new_label, place}
use Rattle.scheme.specs.Scheme.{coded}
use Rattle.scheme.specs.Statements.{close_from}
use Rattle.scheme.specs.declared.making.Active.{Active}
use Rattle.scheme_stands.specs.Words.{Fn}
use Rattle.same_flow.specs.Laid.{ArmEnds, IsClose, IsJump, TestLaid, label_of}
use Rattle.same_flow.specs.Renaming.{StatementsRename}
use Rattle.same_flow.specs.SameFlow.{HasPlainParts}
use Rattle.same_flow.proofs.BlocksFollowed.{close_step}
use Rattle.same_flow.proofs.Followed.{EndBy, Follows, LastTo, Run, at_pc, at_place, ended, followed, last_weaker, nought, pc_of, relabelled}
use Rattle.same_flow.proofs.TestsFollowed.{jump_step, test_goes}
use Rattle.reads_back.proofs.LabelsStand.{Owned}
use Rattle.reads_back.proofs.LoopLabels.{again_labels}
use Rattle.reads_back.proofs.StepsStand.{Standing, close_stands, jump_stands, stands_both, stands_nowhere, stands_to}
use Rattle.reads_back.proofs.TestsStand.{test_stands}
use Rattle.reads_back.specs.Through.{JumpThrough, UntilThrough, pc_of_label}

-- ---- arms

-- an arm with something behind it jumps to the end
pub arm_ends_stand : (g : Fn) (z : Maker) (run : Run) (active : List Active) (more : Bool) (m : Maker) (ends : List ℕ) (label last end next : ℕ) → Follows run nought nought m ends last →
    ArmEnds run.code active more last end next → pc_of_label z label ≡ pc_of run end → JumpThrough g z more 1 label m → Standing g run last next
arm_ends_stand g z run active true m ends label last end next follows (jump, t) pc through = stands_to t (jump_stands follows jump pc through)
arm_ends_stand g z run active false m ends label last end next follows t pc through = stands_nowhere g run last next t

-- ---- repeat

module _ (g : Fn) (z : Maker) (run : Run) (renames : StatementsRename) (plain : HasPlainParts run.code) where
  -- behind the block, where it has a captured local
  pub captured_stands : (active others : List Active) (e : Expression) (m inside : Maker) (ends new : List ℕ) (exit begin from to start tested : ℕ) →
      Follows run nought nought inside (ends ++ new) start → length ends ≡ active_count m → EndBy (tested + 2) new → LastTo (tested + 2) (ends ++ new) → start ≤ tested →
      TestLaid run.code active e false (tested + 2) start tested →
      IsClose run.code active tested (active_count m) → IsJump run.code active (tested + 1) to → IsClose run.code others (tested + 2) (active_count m) →
      IsJump run.code others (tested + 3) from → to ≡ tested + 4 → LastTo to ends →
      pc_of_label z exit ≡ pc_of run to → pc_of_label z begin ≡ pc_of run from →
      Owned (label_of inside) (place (label_of inside) (jump_to 1 exit (close_from 1 (active_count m) ((coded e).jump_if false (label_of inside) (new_label inside).after)))).labels z →
      UntilThrough g z true e 1 begin exit (active_count m) inside → Standing g run start to
  captured_stands active others e m inside ends new exit begin from to start tested follows c ended_by last b test_laid first_close leave second_close back_jump t l leaves returns owned (test_through, close_word, leave_word, again_word, back_word) =
      let all = ends ++ new in
      let n = active_count m in
      let again = label_of inside in
      let begun = (new_label inside).after in
      let first = last_weaker tested (tested + 2) all (omega arith) last in
      let middle = last_weaker (suc tested) (tested + 2) all (omega arith) last in
      let made = (coded e).jump_if false again begun in
      let test = followed (test_goes run renames plain active begun all e false again (tested + 2) start tested test_laid first) (relabelled _ follows) in
      let one : tested + 1 ≡ suc tested = omega arith in
      let second : tested + 2 ≡ suc (tested + 1) = omega arith in
      let third : tested + 3 ≡ suc (tested + 2) = omega arith in
      let fourth : to ≡ suc (tested + 3) = omega arith in
      let closed = followed (at_place (sym one) (close_step made all tested n first_close middle)) test in
      let left = followed (at_place (sym second) (jump_step (close_from 1 n made) all (tested + 1) exit to leave (subst (λ x. LastTo x all) second last))) closed in
      let labels = again_labels z e exit n inside owned in
      let behind = followed {outer = []} (ended n new c ended_by) left in
      let also = followed (at_place (sym third) (close_step _ ends (tested + 2) n second_close (last_weaker (suc (tested + 2)) to ends (omega arith) l))) behind in
      stands_both g run start tested to (test_stands g z run renames plain e active false again (tested + 2) start tested begun all (relabelled _ follows) first test_laid test_through (labels.again ∙ at_pc left) labels.test)
      (stands_both g run tested (tested + 1) to (stands_to one (close_stands test first_close close_word))
      (stands_both g run (tested + 1) (tested + 2) to (stands_to second (jump_stands closed leave leaves leave_word))
      (stands_both g run (tested + 2) (tested + 3) to (stands_to third (close_stands behind second_close again_word)) (stands_to fourth (jump_stands also back_jump returns back_word)))))
