-- From agreement to where a run is after any number of steps.
use Rattle.std.proofs.Common.{◌≡◌, ◌≢◌, ◌≤◌, ℕ, ◌*◌, List, Some, refl, sym, ap, ◌∙◌, subst}
use Rattle.lua_tree.specs.Syntax.{Source}
use Rattle.lua_model.specs.Store.{Host, Reply}
use Rattle.lua_model.specs.Endings as ending
use Rattle.lua_model.specs.Endings.{Ending, Course, IsPrefix}
use Rattle.source_meaning.specs.Meaning.{meaning}
use Rattle.proto.specs.Chunk.{Chunk}
use Rattle.rules.specs.Run.{Conf, Going, Ended, Failed, Waiting, Stuck, ran, course, events_of, IsNotStuck}
use Rattle.agrees.specs.Agrees.{AgreesFor}
use Rattle.agrees.specs.Doing.{DoesSo}
use Rattle.agrees.proofs.Lists.{some_same}
use Rattle.agrees.proofs.Accounts.{Grows, prefix_trans}
use Rattle.agrees.proofs.EventsOfRuns.{grows_self, told_of}
use Rattle.agrees.proofs.BothWays.{over_is, over_course, later_grows, told_events, to_prefix}

-- a run that is not stuck has a course, whose events are those of it
course_of : (conf : Conf) → IsNotStuck conf → (c : Course) × (course conf ≡ Some c) × (events_of conf ≡ c.events)
course_of (Going m) not_stuck = (record { ending = ending.Going; events = m.outside.events }, refl, refl)
course_of (Ended store outside) not_stuck = (record { ending = ending.Ended; events = outside.events }, refl, refl)
course_of (Failed text store outside) not_stuck = (record { ending = ending.Failed text; events = outside.events }, refl, refl)
course_of (Waiting m) not_stuck = (record { ending = ending.Waiting; events = m.outside.events }, refl, refl)
course_of Stuck not_stuck = absurd not_stuck

module _ (source : Source) (chunk : Chunk) (hosts : List Host) (replies : List Reply) (agrees : AgreesFor source chunk hosts replies) (never_stuck : (n : ℕ) → IsNotStuck (ran chunk hosts replies n)) where
  -- what has happened after some steps has happened after more
  grows : (n later : ℕ) → n ≤ later → IsPrefix (events_of (ran chunk hosts replies n)) (events_of (ran chunk hosts replies later))
  grows n later within =
      to_prefix (events_of (ran chunk hosts replies n)) (ran chunk hosts replies later) (λ stuck. subst IsNotStuck stuck (never_stuck later))
      (subst (λ events. Grows events (ran chunk hosts replies later)) (told_events (ran chunk hosts replies n))
      (later_grows n later (ran chunk hosts replies 0) (told_of (ran chunk hosts replies n)) within (grows_self (ran chunk hosts replies n))))

  -- where it is going, the source was, an eighth as many ticks before
  source_goes : (steps : ℕ) (c : Course) → course (ran chunk hosts replies steps) ≡ Some c → c.ending ≡ ending.Going → (ticks : ℕ) → 8 * ticks ≤ steps → ((meaning source hosts replies ticks).ending ≢ ending.Going → ⊥)
  source_goes steps c is going ticks within over =
      let ended = agrees.ends ticks over in
      let over_at = over_course (ran chunk hosts replies (8 * ticks)) (meaning source hosts replies ticks) ended over in
      let stays = over_is (8 * ticks) steps (ran chunk hosts replies 0) (ran chunk hosts replies (8 * ticks)) over_at within refl in
      let same = some_same (meaning source hosts replies ticks) c (sym ended ∙ ap course (sym stays) ∙ is) in
      over (ap (λ (d : Course). d.ending) same ∙ going)

  is_going : (e : Ending) → (e ≢ ending.Going → ⊥) → e ≡ ending.Going
  is_going ending.Going not_other = refl
  is_going ending.Ended not_other = absurd (not_other (λ g. cc))
  is_going (ending.Failed why) not_other = absurd (not_other (λ g. cc))
  is_going ending.Waiting not_other = absurd (not_other (λ g. cc))

  pub does_so : (steps : ℕ) → DoesSo source chunk hosts replies steps
  does_so steps =
      let here = course_of (ran chunk hosts replies steps) (never_stuck steps) in
      let told = agrees.tells_only steps in
      record {
        so = here.0;
        is = here.1;
        over = λ other. agrees.ends_only steps here.0 here.1 other;
        going = λ going ticks within. is_going (meaning source hosts replies ticks).ending (source_goes steps here.0 here.1 going ticks within);
        tells = λ ticks within.
            subst (IsPrefix (meaning source hosts replies ticks).events) here.2
            (prefix_trans (meaning source hosts replies ticks).events (events_of (ran chunk hosts replies (8 * ticks))) (events_of (ran chunk hosts replies steps)) (agrees.tells ticks) (grows (8 * ticks) steps within));
        told = (told.0, subst (λ events. IsPrefix events (meaning source hosts replies told.0).events) here.2 told.1);
      }
