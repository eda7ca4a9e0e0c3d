-- What a run has come to stands first in what it comes to with one step more.
use Rattle.std.proofs.Common.{◌≡◌, ℕ, zero, suc, List, [], ◌++◌, Option, None, Some, refl, sym, ap, subst, ◌∙◌, append-nil}
use Rattle.proto.specs.Chunk.{Chunk}
use Rattle.lua_model.specs.Store.{Event, Host, Reply}
use Rattle.lua_model.specs.Builtins.{start as first_store}
use Rattle.lua_model.specs.Endings.{Ending, Course, IsPrefix}
use Rattle.rules.specs.Sound.{Sound}
use Rattle.rules.specs.Run.{Conf, Going, Ended, Failed, Waiting, Stuck, step, run, start, ran, course, IsNotStuck}
use Rattle.rules.proofs.NeverStuck.{sound_never_stuck}
use Rattle.machine.specs.At.{RanTo, BeginsWith, BeginsStep}
use Rattle.machine.specs.Outside.{replies_in}
use Rattle.machine.specs.Begun.{BeginsConf}
use Rattle.machine.proofs.EventsGrow.{step_begins}

-- one step more
abbrev further : Conf → Conf
further (Going m) = step m
further conf = conf

one_further : (n : ℕ) (conf : Conf) → run (suc n) conf ≡ further (run n conf)
one_further zero (Going m) = refl
one_further zero (Ended store outside) = refl
one_further zero (Failed text store outside) = refl
one_further zero (Waiting m) = refl
one_further zero Stuck = refl
one_further (suc n) (Going m) = one_further n (step m)
one_further (suc n) (Ended store outside) = refl
one_further (suc n) (Failed text store outside) = refl
one_further (suc n) (Waiting m) = refl
one_further (suc n) Stuck = refl

abbrev events_in : Option Course → List Event
events_in None = []
events_in (Some so) = so.events

first_of_all : (events all : List Event) → all ≡ events → IsPrefix events all
first_of_all events all same = ([], same ∙ sym (append-nil events))

further_begins : (events : List Event) (end : Ending) (conf : Conf) → course conf ≡ Some (record { ending = end; events = events }) → BeginsConf events (further conf)
further_begins events end (Going m) is = step_begins events m (first_of_all events _ (ap events_in is))
further_begins events end (Ended store outside) is = first_of_all events _ (ap events_in is)
further_begins events end (Failed text store outside) is = first_of_all events _ (ap events_in is)
further_begins events end (Waiting m) is = tt
further_begins events end Stuck is = tt

-- a run that is not stuck
pub not_stuck_begins : (es : List Event) (conf : Conf) → IsNotStuck conf → BeginsConf es conf → BeginsWith es conf
not_stuck_begins es (Going m) fine begins = begins
not_stuck_begins es (Ended store outside) fine begins = begins
not_stuck_begins es (Failed text store outside) fine begins = begins
not_stuck_begins es (Waiting m) fine begins = tt
not_stuck_begins es Stuck fine begins = absurd fine

-- a step of which nothing is known
pub nothing_begun : (c : Chunk) → Sound c → (hosts : List Host) (events : List Event) (n : ℕ) (end : Ending) → RanTo c hosts events n end → BeginsStep c hosts events n []
nothing_begun c sound hosts events n end ran_to left =
    let replies : List Reply = replies_in events ++ left in
    let more = one_further n (start c (first_store hosts) replies) in
    let begins : BeginsWith events (ran c hosts replies (suc n)) =
    not_stuck_begins events (ran c hosts replies (suc n)) (sound_never_stuck c sound hosts replies (suc n))
    (subst (BeginsConf events) (sym more) (further_begins events end (ran c hosts replies n) (ran_to left)))
    in
    subst (λ (es : List Event). BeginsWith es (ran c hosts (replies_in es ++ left) (suc n))) (sym (append-nil events)) begins
