-- The steps of a `repeat` whose block has a captured local, and of arms, tell of their locals behind the block.
use Rattle.std.proofs.Common.{◌≡◌, ◌≤◌, ℕ, suc, ◌+◌, Bool, true, false, List, [], ◌++◌, refl, sym, arith, subst}
use Rattle.lua_tree.specs.Syntax.{Expression}
use Rattle.scheme.specs.Making.{Maker, jump_to, active_count, when}
use Rattle.scheme.specs.Statements.{close_from}
use Rattle.scheme.specs.declared.making.Active.{Active}
use Rattle.same_flow.specs.Laid.{IsJump, IsClose, TestLaid, ArmEnds}
use Rattle.same_flow.specs.Renaming.{StatementsRename}
use Rattle.same_flow.specs.SameFlow.{HasPlainParts}
use Rattle.same_flow.proofs.Followed.{Run, Follows, nought, EndBy, LastTo, last_weaker, at_place, followed, ended}
use Rattle.same_flow.proofs.TestsFollowed.{jump_step, test_goes}
use Rattle.same_flow.proofs.BlocksFollowed.{close_step}
use Rattle.same_flow.proofs.StepsTold.{Told, told_both, told_to, told_nowhere, same_active, jump_told, close_told}
use Rattle.same_flow.proofs.TestsTold.{test_told}

-- what tells, and leads on
pub record Passes (run : Run) (p : ℕ) (made : Maker) (ends : List ℕ) (q : ℕ) : Type 0 where
  pub told : Told run p q
  pub follows : Follows run nought nought made ends q

pub jump_passes : {run : Run} {active : List Active} (m : Maker) (ends : List ℕ) (p q label target : ℕ) → q ≡ suc p → LastTo q ends → Follows run nought nought m ends p → m.active ≡ active →
    IsJump run.code active p target → Passes run p (jump_to 1 label m) ends q
jump_passes m ends p q label target t l F is J =
    let last = subst (λ x. LastTo x ends) t l in
    record { told = told_to t (jump_told F last is J); follows = followed (at_place (sym t) (jump_step m ends p label target J last)) F }

pub close_passes : {run : Run} {active : List Active} (m : Maker) (ends : List ℕ) (p q n : ℕ) → q ≡ suc p → LastTo q ends → Follows run nought nought m ends p → m.active ≡ active →
    IsClose run.code active p n → Passes run p (close_from 1 n m) ends q
close_passes m ends p q n t l F is C =
    let last = subst (λ x. LastTo x ends) t l in
    record { told = told_to t (close_told F last is C); follows = followed (at_place (sym t) (close_step m ends p n C last)) F }

pub arm_passes : {run : Run} {active : List Active} (more : Bool) (m : Maker) (ends : List ℕ) (label last end next : ℕ) → Follows run nought nought m ends last → m.active ≡ active →
    ArmEnds run.code active more last end next → LastTo next ends → Passes run last (when more (jump_to 1 label) m) ends next
arm_passes true m ends label last end next F is (jump, t) l = jump_passes m ends last next label end t l F is jump
arm_passes {run} false m ends label last end next F is t l =
    record { told = told_nowhere run last next t; follows = subst (λ x. Follows run nought nought m ends x) (sym t) F }

pub arm_order : (run : Run) (more : Bool) (active : List Active) (last end next : ℕ) → ArmEnds run.code active more last end next → last ≤ next
arm_order run true active last end next (jump, t) = omega arith
arm_order run false active last end next t = omega arith

-- ---- repeat

module _ (run : Run) (renames : StatementsRename) (plain : HasPlainParts run.code) where
  pub captured_told : (e : Expression) (m inside : Maker) (ends new : List ℕ) (from to start tested : ℕ) → Follows run nought nought m ends from → Follows run nought nought inside (ends ++ new) start →
      EndBy (tested + 2) new → LastTo (tested + 2) (ends ++ new) → from ≤ start → start ≤ tested →
      TestLaid run.code inside.active e false (tested + 2) start tested →
      IsClose run.code inside.active tested (active_count m) → IsJump run.code inside.active (tested + 1) to → IsClose run.code m.active (tested + 2) (active_count m) →
      IsJump run.code m.active (tested + 3) from → to ≡ tested + 4 → LastTo to ends → Told run start to
  captured_told e m inside ends new from to start tested F G ended_by last a b T C J D K t l =
      let all = ends ++ new in
      let n = active_count m in
      let first = last_weaker tested (tested + 2) all (omega arith) last in
      let test = followed (test_goes run renames plain inside.active inside all e false 0 (tested + 2) start tested T first) G in
      let close = close_passes _ all tested (tested + 1) n (omega arith) (last_weaker (tested + 1) (tested + 2) all (omega arith) last) test (same_active plain G test b first) C in
      let same = same_active plain G close.follows (omega arith) (last_weaker (tested + 1) (tested + 2) all (omega arith) last) in
      let jump = jump_passes _ all (tested + 1) (tested + 2) 0 to (omega arith) last close.follows same J in
      let outside : from ≤ tested + 2 = omega arith in
      let before = last_weaker (tested + 2) to ends (omega arith) l in
      let behind = followed {outer = []} (ended n new F.count ended_by) jump.follows in
      let also = close_passes _ ends (tested + 2) (tested + 3) n (omega arith) (last_weaker (tested + 3) to ends (omega arith) l) behind (same_active plain F behind outside before) D in
      let back = jump_passes _ ends (tested + 3) to 0 from (omega arith) l also.follows
      (same_active plain F also.follows (omega arith) (last_weaker (tested + 3) to ends (omega arith) l)) K in
      told_both run start tested to (test_told run renames plain inside.active e false (tested + 2) start tested T inside all G refl first)
      (told_both run tested (tested + 1) to close.told (told_both run (tested + 1) (tested + 2) to jump.told (told_both run (tested + 2) (tested + 3) to also.told back.told)))
