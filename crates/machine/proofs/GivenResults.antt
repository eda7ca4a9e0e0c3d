-- Results that are given to the frame below: what they come to, and how much there is to do then.
use Rattle.std.proofs.Common.{◌≡◌, ◌*◌, ◌<◌, ◌≤◌, ℕ, suc, Vec, Global, List, [], ◌∷◌, length, reverse, Option, refl, sym, ap, subst, ◌∙◌, arith}
use Rattle.std.proofs.lemmas.List.{length-reverse}
use Rattle.opcode.specs.declared.op.Op.TheVariants as op
use Rattle.opcode.specs.declared.word.Instr.{Instr}
use Rattle.proto.specs.Chunk.{Chunk}
use Rattle.lua_model.specs.declared.Value.{Value}
use Rattle.lua_model.specs.Datum.{Datum}
use Rattle.lua_heap.specs.State.{HeapState, AreOf, Keeps}
use Rattle.lua_heap.proofs.Callers.{keeps_both, data_are_kept}
use Rattle.rules.specs.State as rules
use Rattle.rules.specs.State.{State, Effect}
use Rattle.rules.specs.Cells.{close_from}
use Rattle.rules.specs.Calls.{give_to, land as land_in, leave}
use Rattle.rules.specs.Step.{effect, count_of}
use Rattle.upvalue.specs.State.{top, below}
use Rattle.machine.specs.declared.function.Function.{Function}
use Rattle.machine.specs.declared.frame.Frame.{Frame}
use Rattle.machine.specs.declared.running.Running.{Running}
use Rattle.machine.specs.declared.did.Landing.{Landing}
use Rattle.machine.specs.declared.did.OpenResults.{OpenResults}
use Rattle.machine.specs.declared.did.Did.{Did}
use Rattle.machine.specs.Called.{worked_values}
use Rattle.machine.specs.Frames.{data_of, landing_of}
use Rattle.machine.specs.Seen.{Around, seen}
use Rattle.machine.specs.Settled.{to_do}
use Rattle.machine.specs.Whole.{IsWaiting, IsSafe, DoesSeen}
use Rattle.machine.specs.Words.{GivesList, AreResultsOf, IsLanding, calls_of, calls_left}
use Rattle.machine.proofs.SeenStates.{length-frames_seen, whole_later, safe_at}
use Rattle.machine.proofs.SeenWords.{top_function}
use Rattle.machine.proofs.WorkedValues.{worked_is}

-- ---- how much there is to do

-- a landing that a frame awaits asks for few calls
few_calls : (f : Function) (registers : List Value) (pc : ℕ) (landing : Landing) → IsLanding f registers pc landing → calls_of landing ≤ 1025
few_calls f registers pc (Landing.Into a) fits = omega arith
few_calls f registers pc (Landing.Test a negated) fits = omega arith
few_calls f registers pc (Landing.Pairs a first count) fits = omega (arith, fits.2)
few_calls f registers pc (Landing.Fixed a count) fits = omega arith
few_calls f registers pc (Landing.Open a) fits = omega arith
few_calls f registers pc (Landing.Turn a count) fits = omega arith
few_calls f registers pc Landing.Nowhere fits = omega arith

-- one frame more below has room for that many calls
less_to_do : (n calls : ℕ) (did : Did) → calls_left did < calls → calls ≤ 1025 → to_do n did ≤ 2048 * suc n
less_to_do n calls (Did.Calls landing callee args) falls few = omega (arith, falls, few)
less_to_do n calls (Did.Fails v) falls few = omega arith
less_to_do n calls Did.Next falls few = omega arith
less_to_do n calls (Did.Jumps pc) falls few = omega arith
less_to_do n calls (Did.Opens results) falls few = omega arith
less_to_do n calls Did.Ends falls few = omega arith

-- where results landed in the frame below, there is no more than the frames had
pub fewer_below : (fs : List Function) (old left new : Running) (landing : Landing) (did : Did) → IsSafe fs left → IsWaiting fs landing left.top (top left.stack.frames) → suc (length left.below.items) ≡ length old.below.items → new.below ≡ left.below → calls_left did < calls_of landing → to_do (length new.below.items) did ≤ 2048 * length old.below.items
fewer_below fs old left new landing did safe waiting one same falls =
    let f = top_function fs left safe in
    let few = few_calls f.0 (top left.stack.frames) left.top.pc landing (waiting f.0 f.1) in
    let less = less_to_do (length left.below.items) (calls_of landing) did falls few in
    subst (λ (n : ℕ). to_do n did ≤ 2048 * length old.below.items) (sym (ap (λ (xs : Vec Frame Global). length xs.items) same))
    (subst (λ (n : ℕ). to_do (length left.below.items) did ≤ 2048 * n) one less)

-- ---- results are given

-- the effect, with these values
abbrev pub gives : List Datum → State → Effect
gives vs m = give_to m.below (close_from m 0) m.top.landing vs

-- to the frame below
given_to : (m left : State) (xs : List rules.Frame) (landing : rules.Landing) (vs : List Datum) → 0 < length xs → ((x : rules.Frame) (rest : List rules.Frame) → xs ≡ x ∷ rest → left ≡ record m { top = x; below = rest }) → give_to xs m landing vs ≡ land_in landing left vs
given_to m left [] landing vs some is = absurd (omega (arith, some))
given_to m left (x ∷ rest) landing vs some is = ap (λ s. land_in landing s vs) (sym (is x rest refl))

-- where the topmost frame was left and they landed in the frame below
pub lands_seen : (fs : List Function) (old left new : Running) (values : List Value) (landing : Landing) (did : Did) → IsSafe fs left → AreOf old.heap values → landing ≡ old.top.landing → ((c : Chunk) (a : Around) → IsSafe fs old → (x : rules.Frame) (rest : List rules.Frame) → (seen c a old).below ≡ x ∷ rest → seen c a left ≡ record (close_from (seen c a old) 0) { top = x; below = rest }) → left.heap ≡ record old.heap { cells = left.heap.cells } → Keeps old.heap left.heap → suc (length left.below.items) ≡ length old.below.items → left.pieces ≡ old.pieces → DoesSeen fs (λ m. land_in (landing_of landing) m (data_of left.heap values)) left new did → DoesSeen fs (gives (data_of old.heap values)) old new did
lands_seen fs old left new values landing did safe known lands left_is only keeps one pieces does = record {
  is = λ c a whole.
      let m = seen c a old in
      let some : 0 < length m.below = omega (arith, length-frames_seen c old.heap (reverse old.below.items) (below old.stack.frames), length-reverse old.below.items, one) in
      given_to (close_from m 0) (seen c a left) m.below m.top.landing (data_of old.heap values) some (left_is c a whole.safe)
      ∙ (λ i. land_in (landing_of (sym lands i)) (seen c a left) (sym (data_are_kept old.heap left.heap keeps values known) i))
      ∙ does.is c a (whole_later c fs old left whole keeps safe);
  safe = λ was. does.safe safe;
  known = does.known;
  awaited = does.awaited;
  keeps = keeps_both old.heap left.heap new.heap keeps does.keeps;
  named = does.named ∙ ap (λ (h : HeapState). h.host_names) only;
  pieces = does.pieces ∙ pieces;
}

-- RETURN: a list is given behind the results of protected calls, where it may have taken the open results
pub returns_seen : (fs : List Function) (old new : Running) (registers list values : List Value) (results : Option OpenResults) (count : Option ℕ) (i : Instr) (did : Did) → registers ≡ top old.stack.frames → count ≡ count_of i.b → GivesList registers old.top.results results i.a count list → values ≡ worked_values old.top.protections list → AreResultsOf old.heap results → DoesSeen fs (gives (data_of old.heap values)) (record old { top = record old.top { results = results } }) new did → DoesSeen fs (λ m. effect op.Return m i) old new did
returns_seen fs old new registers list values results count i did are counts gives_list all known does =
    let h = old.heap in
    let taken : Running = record old { top = record old.top { results = results } } in
    let P : List Value → Option ℕ → Type 0 = λ vs n. GivesList vs old.top.results results i.a n list in
    let listed = subst (λ (n : Option ℕ). P (top old.stack.frames) n) counts (subst (λ (vs : List Value). P vs count) are gives_list) in
    record {
      is = λ c a whole.
          listed h (seen c a old) leave refl
          ∙ ap (λ vs. gives vs (seen c a taken)) (worked_is h old.top.protections list ∙ ap (data_of h) (sym all))
          ∙ does.is c a (record { safe = safe_at fs old old.top.pc results whole.safe known; loaded = whole.loaded });
      safe = λ safe. does.safe (safe_at fs old old.top.pc results safe known);
      known = does.known;
      awaited = does.awaited;
      keeps = does.keeps;
      named = does.named;
      pieces = does.pieces;
    }
