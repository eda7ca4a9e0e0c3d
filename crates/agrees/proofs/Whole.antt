-- The theorem: a chunk that stands as the scheme says, with names as the law says, does what its source means.
use Rattle.std.proofs.Common.{◌≡◌, ℕ, zero, suc, ◌+◌, ◌*◌, ◌≤◌, true, List, [], length, sym, ap, ◌∙◌, subst, arith}
use Rattle.lua_tree.specs.Syntax.{Source}
use Rattle.lua_tree.specs.Resolved.{resolved}
use Rattle.proto.specs.Chunk.{Chunk}
use Rattle.scheme.specs.Scheme.{ahead_of}
use Rattle.lua_model.specs.Datum.{Datum}
use Rattle.lua_model.specs.Store.{Host, Reply, Outside}
use Rattle.lua_model.specs.Builtins.{failure_text}
use Rattle.lua_model.specs.Endings.{IsPrefix}
use Rattle.source_meaning.specs.State.{State as SourceState, Closure as Function}
use Rattle.source_meaning.specs.Tasks.{block}
use Rattle.source_meaning.specs.Programs.{ask, run, Answer, ended, failed, waiting, going, eval}
use Rattle.source_meaning.specs.Meaning.{program, start_state, main_place, answer, results_of}
use Rattle.rules.specs.State.{State, Closure, nowhere}
use Rattle.rules.specs.Run.{Conf, Going, Ended, Failed, step, after, run as steps, ran, first_state}
use Rattle.agrees.specs.Agrees.{Agrees}
use Rattle.scheme_stands.specs.Relation.{MainAt}
use Rattle.agrees.proofs.Posts.{Backs, Faults}
use Rattle.agrees.proofs.Accounts.{steps_add, Grows, prefix_self, Place, Now, Soon, state_of, Told, Waits, Self, Follow, Reach, world}
use Rattle.agrees.proofs.Sizes.{size_b, call_cost}
use Rattle.agrees.proofs.Picture.{law_of, Setup, Off, Ghost, at, ClosureFine, Fine}
use Rattle.agrees.proofs.CallEnters as entry
use Rattle.agrees.proofs.BothWays.{Says, agrees}
use Rattle.agrees.proofs.Induction.{all_simulated}

-- before the run there are no cells and no closures
abbrev nobody : Ghost
nobody = record { home = λ c. Off; owner = []; closures = [] }

module _ (z : Setup) where
  fine_nobody : Fine z 0 [] nobody []
  fine_nobody = record {
    loc = λ f r c b h. absurd h;
    back = λ c f r b l e. absurd (omega arith);
    owned = λ k c e. cc;
    marked = λ k c f r b e h. cc;
    once = λ k j c e h. cc;
    acts = tt;
    closures = tt;
    deep = omega arith;
  }

  abbrev main_function : Source → Function
  main_function source = record { params = []; vararg = true; block = source.body; sees = [] }

  abbrev main_closure : Chunk → Closure
  main_closure chunk = record { function = chunk; cells = [] }

  main_fine : (source : Source) (chunk : Chunk) → MainAt (law_of [] []) source chunk → size_b source.body + call_cost ≤ z.bound → ClosureFine z.bound [] (main_closure chunk) (main_function source)
  main_fine source chunk stands small = record {
    source_cells = [];
    carry = tt;
    names = [];
    known = tt;
    before = ahead_of (resolved source);
    behind = stands.0;
    stands = stands.1;
    small = small;
  }

  abbrev first_outside : List Reply → Outside
  first_outside replies = record { events = []; replies = replies }

  -- what the answer of the main block says, after its first steps
  says_of : (S t : ℕ) (m0 : State) (c0 : Conf) (r : Answer (List Datum)) → c0 ≡ Going m0 → Follow z.bound 1 S (suc t) (Now m0) (Faults z nowhere 0 []) (Backs z nowhere 0 []) r → Says z.bound S c0 (suc t) r
  says_of S t m0 c0 (ended vs s w) e f = by f.to f.holds f.reach
    where
      by : (p : Place) → Backs z nowhere 0 [] vs s w.outside p → Reach z.bound 1 S (suc t) (Now m0) w.ticks p → Says z.bound S c0 (suc t) (ended vs s w)
      by (Now m) h r = let q = h.at_m in cc
      by (Soon m) h r = last m r h.m h.at_m h.is
        where
          last : (m : State) → Reach z.bound 1 S (suc t) (Now m0) w.ticks (Soon m) → (m1 : State) → Soon m ≡ Soon m1 → step m1 ≡ Ended s.store w.outside → Says z.bound S c0 (suc t) (ended vs s w)
          last m r m1 q g =
              let x : r.k + 1 + 7 * w.ticks ≤ 7 * suc t + (1 + 0) = r.few in
              (r.k + 1, omega (arith, x), steps_add r.k 1 c0 ∙ ap (λ c. steps 1 (steps r.k c)) e ∙ ap (steps 1) r.runs ∙ ap (λ p. steps 1 (Going (state_of p))) q ∙ g)
  says_of S t m0 c0 (failed v s w) e f = by f.to f.holds f.reach
    where
      by : (p : Place) → Faults z nowhere 0 [] v s w.outside p → Reach z.bound 1 S (suc t) (Now m0) w.ticks p → Says z.bound S c0 (suc t) (failed v s w)
      by (Now m) h r = let q = h.at_m in cc
      by (Soon m) h r = last m r h.m h.at_m h.is
        where
          last : (m : State) → Reach z.bound 1 S (suc t) (Now m0) w.ticks (Soon m) → (m1 : State) → Soon m ≡ Soon m1 → step m1 ≡ Failed (failure_text v) s.store w.outside → Says z.bound S c0 (suc t) (failed v s w)
          last m r m1 q g =
              let x : r.k + 1 + 7 * w.ticks ≤ 7 * suc t + (1 + 0) = r.few in
              (r.k + 1, omega (arith, x), steps_add r.k 1 c0 ∙ ap (λ c. steps 1 (steps r.k c)) e ∙ ap (steps 1) r.runs ∙ ap (λ p. steps 1 (Going (state_of p))) q ∙ g)
  says_of S t m0 c0 (waiting w) e f = by f.to f.holds f.reach
    where
      by : (p : Place) → Waits w.outside p → Reach z.bound 1 S (suc t) (Now m0) w.ticks p → Says z.bound S c0 (suc t) (waiting w)
      by (Now m) h r = absurd h
      by (Soon m) h r =
          let x : r.k + 1 + 7 * w.ticks ≤ 7 * suc t + (1 + 0) = r.few in
          (r.k + 1, omega (arith, x), m, steps_add r.k 1 c0 ∙ ap (λ c. steps 1 (steps r.k c)) e ∙ ap (steps 1) r.runs ∙ h.1, h.0)
  says_of S t m0 c0 (going w) e f = by f.to f.holds f.reach
    where
      by : (p : Place) → Told w.outside p → Reach z.bound 1 S (suc t) (Now m0) w.ticks p → Says z.bound S c0 (suc t) (going w)
      by (Now m) h r =
          let x : r.k + 0 + 7 * w.ticks ≤ 7 * suc t + (1 + 0) = r.few in
          let there : steps r.k c0 ≡ Going m = ap (steps r.k) e ∙ r.runs in
          (r.k, omega (arith, x), r.many, m, there, subst (λ o. IsPrefix o.events w.outside.events) (sym h) (prefix_self w.outside.events), r.k, omega arith, omega (arith, x), subst (Grows w.outside.events) (sym there) (subst (λ o. IsPrefix w.outside.events o.events) (sym h) (prefix_self w.outside.events)))
      by (Soon m) h r =
          let x : r.k + 1 + 7 * w.ticks ≤ 7 * suc t + (1 + 0) = r.few in
          let there : steps r.k c0 ≡ Going m = ap (steps r.k) e ∙ r.runs in
          (r.k, omega (arith, x), r.many, m, there, h.0, r.k + 1, omega arith, omega (arith, x), subst (Grows w.outside.events) (sym (steps_add r.k 1 c0 ∙ ap (steps 1) there)) h.1)

  module _ (source : Source) (chunk : Chunk) (stands : MainAt (law_of [] []) source chunk) (small : size_b source.body + call_cost ≤ z.bound) (hosts : List Host) (replies : List Reply) where
    abbrev S0 : ℕ
    S0 = size_b source.body + call_cost

    abbrev c0 : Conf
    c0 = ran chunk hosts replies 0

    entered : entry.Entered z (start_state hosts) (first_outside replies) nobody [] (main_closure chunk) (main_function source) [] nowhere 0
    entered = entry.entered z (start_state hosts) (first_outside replies) nobody [] (main_closure chunk) (main_function source) [] nowhere 0 (omega arith) fine_nobody (main_fine source chunk stands small)

    begins : c0 ≡ Going (at (start_state hosts) (first_outside replies) entered.g1 entered.y 0)
    begins = ap (after (first_state chunk (start_state hosts).store replies)) entered.is

    says : (t : ℕ) → Says z.bound S0 c0 t (answer source hosts replies t)
    says zero = (0, omega arith, omega arith, at (start_state hosts) (first_outside replies) entered.g1 entered.y 0, begins, prefix_self [], 0, omega arith, omega arith, subst (Grows []) (sym begins) (prefix_self []))
    says (suc t) =
        let n = entered in
        let s0 : SourceState = start_state hosts in
        let o0 : Outside = first_outside replies in
        let m0 : State = at s0 o0 n.g1 n.y 0 in
        let all : Self = eval program (suc t) in
        let g = entry.block_goes z all (all_simulated z (suc t)) s0 o0 n.g1 n.y (main_function source) main_place n.inner n.first n.mid n.last n.sees n.ok small n.first_pc n.body_at n.end in
        says_of S0 t m0 c0 (answer source hosts replies (suc t)) begins
        (subst (λ l. Follow z.bound 1 S0 (suc t) (Now m0) (Faults z l 0 []) (Backs z l 0 []) (answer source hosts replies (suc t))) n.landing
        (subst (λ p. Follow z.bound 1 S0 (suc t) (Now m0) (Faults z n.y.a.landing p []) (Backs z n.y.a.landing p []) (answer source hosts replies (suc t))) n.protections
        (subst (λ gs. Follow z.bound 1 S0 (suc t) (Now m0) (Faults z n.y.a.landing n.y.a.protections gs) (Backs z n.y.a.landing n.y.a.protections gs) (run all (ask (block main_place source.body) s0 (results_of (length gs))) (world (suc t) o0))) n.below
        (g.is (suc t)))))

-- the bound of the ticks of a function's block is that of the whole source
pub standing_agrees : (source : Source) (chunk : Chunk) → MainAt (law_of [] []) source chunk → Agrees source chunk
standing_agrees source chunk stands hosts replies =
    let bound : ℕ = size_b source.body + call_cost in
    agrees source chunk hosts replies bound bound (says (record { bound = bound }) source chunk stands (omega arith) hosts replies)
