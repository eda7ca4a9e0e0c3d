-- Turns of a generic `for`: the iterator's call by TFORLOOP, the variables, the block.
use Rattle.std.proofs.Common.{◌≡◌, ◌≤◌, ◌<◌, ℕ, zero, suc, ◌+◌, Bool, true, false, inl, List, [], ◌∷◌, ◌++◌, map, length, Some, None, refl, sym, ap, ◌∙◌, subst, arith, length-append, option_and_then}
use Rattle.std.specs.Prelude.{slice_get, slice_set, drop, if◌then◌else◌}
use Rattle.opcode.specs.declared.op.Op.{Op}
use Rattle.opcode.specs.Reading.{instr_of}
use Rattle.proto.specs.Chunk.{own}
use Rattle.lua_tree.specs.Syntax.{Statements}
use Rattle.lua_num.specs.Bytes.{Text}
use Rattle.scheme.specs.Making.{any_captured}
use Rattle.scheme.specs.Functions.{distance}
use Rattle.scheme.specs.declared.making.Active.{Active}
use Rattle.scheme.specs.declared.making.Piece.{Piece}
use Rattle.lua_model.specs.Datum.{Datum, is_nil, first_of, adjusted}
use Rattle.lua_model.specs.Store.{Outside}
use Rattle.source_meaning.specs.State.{State as SourceState, Flow, goes, breaks, returns, tail_calls, declared}
use Rattle.source_meaning.specs.Tasks.{block, iterator_test, iterator_turn, call}
use Rattle.source_meaning.specs.Programs.{Prog, done, ask}
use Rattle.source_meaning.specs.Programs as programs
use Rattle.source_meaning.specs.Meaning.{iterate_from, goes_on_at, behind_turn, block_with, program}
use Rattle.rules.specs.Places.{jmp_at, jmp_of}
use Rattle.rules.specs.State.{State, turn, Goes as Going_on, need, check, at_pc, with_registers, register, spliced}
use Rattle.rules.specs.Calls as rules
use Rattle.rules.specs.Calls.{jump, skip, branch, land, go_on}
use Rattle.rules.specs.Run.{Going, step, after}
use Rattle.rules.proofs.Lists.{length-adjusted}
use Rattle.scheme_stands.specs.Words.{Spot, WordAt}
use Rattle.scheme_stands.specs.Functions.{Activated}
use Rattle.scheme_stands.specs.Statements.{CloseAt}
use Rattle.agrees.proofs.Registers.{ok_high, set_above, high_get, has_rows}
use Rattle.agrees.proofs.Tasks.{Simulates, scope, IterWords, IterTestBy, IterTurnBy, iter_size}
use Rattle.agrees.proofs.Posts.{Named, looped, fail_of, Around, FlowPost, Backs, Grown, keeps_self}
use Rattle.agrees.proofs.Lists.{length_map}
use Rattle.agrees.proofs.Accounts.{Place, Now, Soon, Post, Self, Goes, prefix_self, goes_done, goes_soon, goes_step, goes_paid, goes_ask, goes_last, goes_weaken, goes_from, goes_to, by_tick}
use Rattle.agrees.proofs.Sizes.{size_b, call_cost}
use Rattle.agrees.proofs.Words.{word_abc, jumps}
use Rattle.agrees.proofs.Picture.{code_of, Setup, Act, Ghost, Site, raised, registers, slot_value, pic, at, waits, Ok}
use Rattle.agrees.proofs.PictureApart.{add_hidden}
use Rattle.agrees.proofs.LocalsBegin.{grown_act, put, hides, declares_all, opened_as, grown_on}
use Rattle.agrees.proofs.PictureChanges.{fine_waiter}
use Rattle.lua_model.specs.Endings.{IsPrefix}
use Rattle.agrees.proofs.LocalsEnd.{named_of, ends, Ended}
use Rattle.agrees.proofs.CallEnters.{activated_length}
use Rattle.agrees.proofs.LoopCount.{same_call, same_backs, leaves_loop, hidden_grown, uncaptured, three_more}
use Rattle.agrees.proofs.CallMakes.{call_tells}

-- the JMP behind a test
pub jmp_there : (a : Act) (l : ℕ) (p q : Spot) → WordAt (code_of a) (Piece.Jump Op.Jmp 0 l) p q → jmp_at a.chunk p.pc ≡ Some (distance p.pc l)
jmp_there a l p q w = ap (λ o. jmp_of (option_and_then instr_of o)) w.has ∙ ap jmp_of w.reads.is

-- a test's way, by what stands behind it
pub branches_on : (m : State) (a : Act) (l : ℕ) (p q : Spot) → WordAt (code_of a) (Piece.Jump Op.Jmp 0 l) p q → m.top.function ≡ a.chunk → m.top.pc ≡ p.pc → branch m true ≡ Going_on (at_pc m l)
branches_on m a l p q w ec ep =
    ap (λ o. need o (λ d. jump (skip m) d)) (ap (λ f. jmp_at f m.top.pc) ec ∙ ap (jmp_at a.chunk) ep ∙ jmp_there a l p q w)
    ∙ jumps (skip m) p.pc l (ap suc ep)

pub branches_past : (m : State) (a : Act) (l : ℕ) (p q : Spot) → WordAt (code_of a) (Piece.Jump Op.Jmp 0 l) p q → m.top.function ≡ a.chunk → m.top.pc ≡ p.pc → branch m false ≡ Going_on (at_pc m q.pc)
branches_past m a l p q w ec ep =
    ap (λ o. need o (λ d. Going_on (skip m))) (ap (λ f. jmp_at f m.top.pc) ec ∙ ap (jmp_at a.chunk) ep ∙ jmp_there a l p q w)
    ∙ ap (λ n. Going_on (at_pc m n)) (ap suc ep ∙ sym w.next)

-- results in a row of registers
pub spliced_above : (cells : List Datum) (a : Act) (high : List Datum) (r k : ℕ) (vs : List Datum) → r ≡ length a.slots + k → spliced (registers cells a high) r vs ≡ registers cells a (spliced high k vs)
spliced_above cells a high r k [] e = refl
spliced_above cells a high r k (v ∷ vs) e =
    ap (λ rs. spliced rs (suc r) vs) (set_above cells a high r k v e)
    ∙ spliced_above cells a (slice_set high k v) (suc r) (suc k) vs (omega (arith, e))

spliced_past : (y : Datum) (high : List Datum) (k : ℕ) (vs : List Datum) → spliced (y ∷ high) (suc k) vs ≡ y ∷ spliced high k vs
spliced_past y high k [] = refl
spliced_past y high k (v ∷ vs) = spliced_past y (slice_set high k v) (suc k) vs

spliced_front : (high vs : List Datum) → length vs ≤ length high → spliced high 0 vs ≡ vs ++ drop (length vs) high
spliced_front high [] l = refl
spliced_front [] (v ∷ vs) l = absurd (omega arith)
spliced_front (h ∷ high) (v ∷ vs) l = spliced_past v high 0 vs ∙ ap (λ r. v ∷ r) (spliced_front high vs (omega arith))

first_adjusted : (n : ℕ) (vs : List Datum) → 0 < n → first_of (adjusted n vs) ≡ first_of vs
first_adjusted zero vs l = absurd (omega arith)
first_adjusted (suc n) [] l = refl
first_adjusted (suc n) (v ∷ vs) l = refl

first_there : (vs : List Datum) (rest : List Datum) → 0 < length vs → slice_get (vs ++ rest) 0 ≡ Some (first_of vs)
first_there [] rest l = absurd (omega arith)
first_there (v ∷ vs) rest l = refl

rest_length : (n : ℕ) (xs : List Datum) → n ≤ length xs → n + length (drop n xs) ≡ length xs
rest_length zero xs l = let e : 0 + length xs ≡ length xs = omega arith in e
rest_length (suc n) [] l = absurd (omega arith)
rest_length (suc n) (x ∷ xs) l = let e = rest_length n xs (omega arith) in omega (arith, e)

same_length : (n : ℕ) (high vs : List Datum) → n ≤ length high → length high ≡ length (adjusted n vs ++ drop n high)
same_length n high vs l = let e = rest_length n high l in omega (arith, e, length-append (adjusted n vs) (drop n high), length-adjusted n vs)

module _ (z : Setup) (s : SourceState) (o : Outside) (g : Ghost) (x : Site) (names : List Text) (body : Statements) (q : Spot) (w : IterWords x names body q) where
  -- TFORLOOP calls
  pub iter_word : (f state control : Datum) (high : List Datum) → length x.a.active ≡ length x.a.slots → step (at s o g (raised x (f ∷ state ∷ control ∷ high)) w.loop.pc) ≡ after (at s o g (raised x (f ∷ state ∷ control ∷ high)) w.loop.pc) (rules.call (turn (length x.a.active) (length names)) (at s o g (raised x (f ∷ state ∷ control ∷ high)) w.again.pc) f (state ∷ control ∷ []))
  iter_word f state control high e =
      let base = length x.a.active in
      let x1 : Site = raised x (f ∷ state ∷ control ∷ high) in
      let m0 : State = at s o g x1 w.loop.pc in
      let m1 : State = at s o g x1 (suc w.loop.pc) in
      word_abc x.a Op.TForLoop base 0 (length names) w.loop w.again m0 w.call refl refl
      ∙ ap (λ r. after m0 (need r (λ d. need (register m1 base) (λ f1. need (register m1 (base + 1)) (λ st. need (register m1 (base + 2)) (λ c. rules.call (turn base (length names)) m1 f1 (st ∷ c ∷ []))))))) (ap (jmp_at x.a.chunk) (sym w.call.next) ∙ jmp_there x.a w.begin.pc w.again q w.back)
      ∙ ap (λ r. after m0 (need r (λ f1. need (register m1 (base + 1)) (λ st. need (register m1 (base + 2)) (λ c. rules.call (turn base (length names)) m1 f1 (st ∷ c ∷ [])))))) (high_get s.cells x.a (f ∷ state ∷ control ∷ high) base 0 (omega (arith, e)))
      ∙ ap (λ r. after m0 (need r (λ st. need (register m1 (base + 2)) (λ c. rules.call (turn base (length names)) m1 f (st ∷ c ∷ []))))) (high_get s.cells x.a (f ∷ state ∷ control ∷ high) (base + 1) 1 (omega (arith, e)))
      ∙ ap (λ r. after m0 (need r (λ c. rules.call (turn base (length names)) m1 f (state ∷ c ∷ [])))) (high_get s.cells x.a (f ∷ state ∷ control ∷ high) (base + 2) 2 (omega (arith, e)))
      ∙ ap (λ pc. after m0 (rules.call (turn base (length names)) (at s o g x1 pc) f (state ∷ control ∷ []))) (sym w.call.next)

  -- its results land
  landed : (f state control : Datum) (high : List Datum) (vs : List Datum) → length x.a.active ≡ length x.a.slots → length names ≤ length high → land (turn (length x.a.active) (length names)) (at s o g (raised x (f ∷ state ∷ control ∷ high)) w.again.pc) vs ≡ go_on (at s o g (raised x (f ∷ state ∷ control ∷ (adjusted (length names) vs ++ drop (length names) high))) w.again.pc) (length x.a.active) (first_of vs)
  landed f state control high vs e room =
      let base = length x.a.active in
      let us = adjusted (length names) vs in
      let many : length us ≡ length names = length-adjusted (length names) vs in
      let high1 : List Datum = f ∷ state ∷ control ∷ high in
      let m : State = at s o g (raised x high1) w.again.pc in
      let by : List Datum → State = λ rs. pic s o g (raised x high1) w.again.pc rs None in
      let new : List Datum = f ∷ state ∷ control ∷ (us ++ drop (length names) high) in
      let size : length (registers s.cells x.a high1) ≡ length x.a.slots + suc (suc (suc (length high))) = length-append (map (slot_value s.cells) x.a.slots) high1 ∙ ap (λ n. n + suc (suc (suc (length high)))) (length_map (slot_value s.cells) x.a.slots) in
      let regs : spliced (registers s.cells x.a high1) (base + 3) us ≡ registers s.cells x.a new =
      spliced_above s.cells x.a high1 (base + 3) 3 us (omega (arith, e))
      ∙ ap (registers s.cells x.a) (spliced_past f (state ∷ control ∷ high) 2 us ∙ ap (λ l. f ∷ l) (spliced_past state (control ∷ high) 1 us) ∙ ap (λ l. f ∷ state ∷ l) (spliced_past control high 0 us) ∙ ap (λ l. f ∷ state ∷ control ∷ l) (spliced_front high us (omega (arith, many, room)) ∙ ap (λ n. us ++ drop n high) many)) in
      ap (λ b. check b (need (register (by (spliced (registers s.cells x.a high1) (base + 3) us)) (base + 3)) (go_on (by (spliced (registers s.cells x.a high1) (base + 3) us)) base))) (has_rows m (base + 3) (length us) (omega (arith, size, many, room, e)))
      ∙ ap (λ rs. need (register (by rs) (base + 3)) (go_on (by rs) base)) regs
      ∙ ap (λ r. need r (go_on (by (registers s.cells x.a new)) base)) (high_get s.cells x.a new (base + 3) 3 (omega (arith, e)) ∙ first_there us (drop (length names) high) (let k = w.some in omega (arith, k, many)) ∙ ap Some (first_adjusted (length names) vs w.some))

  pub lands_nil : (f state control : Datum) (high : List Datum) (vs : List Datum) (m0 : State) → length x.a.active ≡ length x.a.slots → length names ≤ length high → is_nil (first_of vs) ≡ true → step m0 ≡ after m0 (land (turn (length x.a.active) (length names)) (at s o g (raised x (f ∷ state ∷ control ∷ high)) w.again.pc) vs) → step m0 ≡ Going (at s o g (raised x (f ∷ state ∷ control ∷ (adjusted (length names) vs ++ drop (length names) high))) q.pc)
  lands_nil f state control high vs m0 e room et em =
      let base = length x.a.active in
      let new : List Datum = f ∷ state ∷ control ∷ (adjusted (length names) vs ++ drop (length names) high) in
      let m : State = at s o g (raised x new) w.again.pc in
      em ∙ ap (after m0) (landed f state control high vs e room)
      ∙ ap (λ b. after m0 (if b then branch m false else need (register m (base + 2)) (λ old. branch (with_registers m (slice_set m.top.registers (base + 2) (first_of vs))) true))) et
      ∙ ap (after m0) (branches_past m x.a w.begin.pc w.again q w.back refl refl)

  pub lands_on : (f state control : Datum) (high : List Datum) (vs : List Datum) (m0 : State) → length x.a.active ≡ length x.a.slots → length names ≤ length high → is_nil (first_of vs) ≡ false → step m0 ≡ after m0 (land (turn (length x.a.active) (length names)) (at s o g (raised x (f ∷ state ∷ control ∷ high)) w.again.pc) vs) → step m0 ≡ Going (at s o g (raised x (f ∷ state ∷ first_of vs ∷ (adjusted (length names) vs ++ drop (length names) high))) w.begin.pc)
  lands_on f state control high vs m0 e room et em =
      let base = length x.a.active in
      let rest : List Datum = adjusted (length names) vs ++ drop (length names) high in
      let new : List Datum = f ∷ state ∷ control ∷ rest in
      let m : State = at s o g (raised x new) w.again.pc in
      let m1 : State = pic s o g (raised x new) w.again.pc (slice_set (registers s.cells x.a new) (base + 2) (first_of vs)) None in
      em ∙ ap (after m0) (landed f state control high vs e room)
      ∙ ap (λ b. after m0 (if b then branch m false else need (register m (base + 2)) (λ old. branch (with_registers m (slice_set m.top.registers (base + 2) (first_of vs))) true))) et
      ∙ ap (λ r. after m0 (need r (λ old. branch m1 true))) (high_get s.cells x.a new (base + 2) 2 (omega (arith, e)))
      ∙ ap (after m0) (branches_on m1 x.a w.begin.pc w.again q w.back refl refl)
      ∙ ap (λ rs. Going (pic s o g x w.begin.pc rs None)) (set_above s.cells x.a new (base + 2) 2 (first_of vs) (omega (arith, e)))

module _ (z : Setup) (self : Self) (ih : Simulates z self) where
  pub next_iter_test : (f state control : Datum) → IterTestBy z f state control (λ c s w. programs.spend w.ticks w (programs.run self (program (iterator_test c f state control) s)))
  next_iter_test f state control s o g x ld pc m ok eo e =
      let before = subst (λ o1. IsPrefix m.outside.events o1.events) eo (prefix_self m.outside.events) in
      by_tick z.bound self (fail_of z x) 0 0 call_cost o (Soon m) (Backs z ld 0 (waits x pc ∷ x.below)) (ask (call (suc (length x.below)) f (state ∷ control ∷ [])) s done) (call_tells z f (state ∷ control ∷ []) s o g x ld pc 200 0 m before (inl eo) e) (omega arith)
      (goes_last z.bound self (fail_of z x) 0 call_cost o (Soon m) (call (suc (length x.below)) f (state ∷ control ∷ [])) s (Backs z ld 0 (waits x pc ∷ x.below)) (ih.calls f (state ∷ control ∷ []) s o g x ld pc 200 m refl ok before (inl eo) e))

  -- from TFORLOOP on
  pub iterate_from_goes : (names : List Text) (f state control : Datum) (body : Statements) (s : SourceState) (o : Outside) (g : Ghost) (x : Site) (around : Around) (high : List Datum) (q : Spot) → Ok z s g (raised x (f ∷ state ∷ control ∷ high)) → length names ≤ length high → iter_size body ≤ z.bound → (w : IterWords x names body q) → Goes z.bound self (fail_of z x) 1 (suc call_cost) o (Now (at s o g (raised x (f ∷ state ∷ control ∷ high)) w.loop.pc)) (FlowPost z x around x.a.active q.pc) (iterate_from (scope x) names f state control body s)
  iterate_from_goes names f state control body s o g x around high q ok room small w =
      let x1 : Site = raised x (f ∷ state ∷ control ∷ high) in
      let m : State = at s o g x1 w.loop.pc in
      let ld = turn (length x.a.active) (length names) in
      goes_soon z.bound self (fail_of z x) 0 (suc call_cost) o m (FlowPost z x around x.a.active q.pc) _
      (goes_weaken z.bound self (fail_of z x) 0 (suc call_cost + 0) 0 (suc call_cost) o (Soon m) (FlowPost z x around x.a.active q.pc) _ (omega arith) (omega arith)
      (goes_ask z.bound self (fail_of z x) (suc call_cost) 0 0 o (Soon m) (iterator_test (scope x) f state control) s (Backs z ld 0 (waits x1 w.again.pc ∷ x.below)) (FlowPost z x around x.a.active q.pc) _
      (ih.iter_tests f state control s o g x1 ld w.again.pc m ok refl (iter_word z s o g x names body q w f state control high ok.acts.0.as_many))
      (λ vs s1 o1 p1 h. goes_from z.bound self (fail_of z x) 0 0 o1 p1 (Soon h.m) (FlowPost z x around x.a.active q.pc) _ h.at_m (decide vs s1 o1 h.m h.is.g (fine_waiter z (length s1.cells) s1.closures h.is.g (waits x1 w.again.pc) (waits x1 0) x.below refl refl h.is.fine) h.is.is (is_nil (first_of vs)) refl))))
    where
      decide : (vs : List Datum) (s1 : SourceState) (o1 : Outside) (m : State) (g1 : Ghost) → Ok z s1 g1 (raised x (f ∷ state ∷ control ∷ high)) → step m ≡ after m (land (turn (length x.a.active) (length names)) (at s1 o1 g1 (raised x (f ∷ state ∷ control ∷ high)) w.again.pc) vs) → (t : Bool) → is_nil (first_of vs) ≡ t → Goes z.bound self (fail_of z x) 0 0 o1 (Soon m) (FlowPost z x around x.a.active q.pc) (elim t [ true ↦ goes_on_at (scope x) s1 | false ↦ ask (iterator_turn (scope x) names f state vs body) s1 done ])
      decide vs s1 o1 m g1 ok1 em true et =
          let rest = adjusted (length names) vs ++ drop (length names) high in
          let high1 = f ∷ state ∷ control ∷ rest in
          let m1 = at s1 o1 g1 (raised x high1) q.pc in
          goes_step z.bound self (fail_of z x) 0 0 o1 m m1 (FlowPost z x around x.a.active q.pc) _ (lands_nil z s1 o1 g1 x names body q w f state control high vs m ok.acts.0.as_many room et em)
          (goes_done z.bound self (fail_of z x) 0 0 o1 (Now m1) (FlowPost z x around x.a.active q.pc) (goes x.a.own) s1
          (leaves_loop z x around q.pc s1 o1 (Now m1) high1 (record { g = g1; high = high1; keeps = keeps_self 0 high1; is = refl; ok = ok_high z s1 g1 x (f ∷ state ∷ control ∷ high) high1 (ap (λ n. suc (suc (suc n))) (same_length (length names) high vs room)) ok1 })))
      decide vs s1 o1 m g1 ok1 em false et =
          let rest = drop (length names) high in
          let high1 = f ∷ state ∷ first_of vs ∷ (adjusted (length names) vs ++ rest) in
          goes_paid z.bound self (fail_of z x) 0 (iter_size body) o1 m (at s1 o1 g1 (raised x high1) w.begin.pc) (FlowPost z x around x.a.active q.pc) _ (lands_on z s1 o1 g1 x names body q w f state control high vs m ok.acts.0.as_many room et em) small
          (goes_last z.bound self (fail_of z x) 0 (iter_size body) o1 _ (iterator_turn (scope x) names f state vs body) s1 (FlowPost z x around x.a.active q.pc)
          (ih.iter_turns names f state vs body s1 o1 g1 x around rest q (ok_high z s1 g1 x (f ∷ state ∷ control ∷ high) high1 (ap (λ n. suc (suc (suc n))) (same_length (length names) high vs room)) ok1) small w))

  -- behind the block of a turn
  behind : (names : List Text) (f state : Datum) (vs : List Datum) (body : Statements) (x : Site) (around : Around) (rest : List Datum) (q : Spot) → iter_size body ≤ z.bound → (w : IterWords x names body q) → (a3 a4 : Act) (g03 : Grown x.a a3) (g34 : Grown a3 a4) → w.around ≡ a3.active → a4.active ≡ w.turn_at.inner → ((cells : List Datum) → map (slot_value cells) g03.slots ≡ f ∷ state ∷ first_of vs ∷ []) → length a3.active ≡ length x.a.active + 3 → any_captured (drop (length x.a.active) a3.active) ≡ false → (named : Named x.a) → Named a3 → Named a4 → (fl : Flow) (s1 : SourceState) (o1 : Outside) (p1 : Place) → FlowPost z (put a4 x.below rest) (looped q.pc x.a named) w.turn_at.block_at.inner w.turn_at.block_at.mid.pc fl s1 o1 p1 → Goes z.bound self (fail_of z x) 4 (suc call_cost) o1 p1 (FlowPost z x around x.a.active q.pc) (behind_turn (scope x) fl s1 (λ env. iterate_from (scope x) names f state (first_of vs) body s1))
  behind names f state vs body x around rest q small w a3 a4 g03 g34 ea e4 eh el eu n0 n3 n4 (goes env) s1 o1 p1 h =
      let t = w.turn_at in
      let S = suc call_cost in
      let P : Post Flow = FlowPost z x around x.a.active q.pc in
      let prog : Prog Flow = iterate_from (scope x) names f state (first_of vs) body s1 in
      goes_from z.bound self (fail_of z x) 4 S o1 p1 _ P prog h.is
      (goes_to z.bound self (fail_of z x) 1 3 S o1 _ (Ended z s1 o1 a4 x.below (map (slot_value s1.cells) h.grown.slots ++ h.high) t.mid.pc) P prog
      (λ n. ends z s1 o1 h.g a4 h.a h.grown h.high x.below t.block_at.mid t.mid n n4 h.ok (close1 h.a.active h.actives))
      (λ p2 e1. goes_from z.bound self (fail_of z x) 3 S o1 p2 _ P prog e1.is
      (goes_to z.bound self (fail_of z x) 1 2 S o1 _ (Ended z s1 o1 a3 x.below (map (slot_value s1.cells) g34.slots ++ (map (slot_value s1.cells) h.grown.slots ++ h.high)) w.loop.pc) P prog
      (λ n. ends z s1 o1 e1.g a3 a4 g34 (map (slot_value s1.cells) h.grown.slots ++ h.high) x.below t.mid w.loop n n3 e1.ok close2)
      (λ p3 e2. goes_from z.bound self (fail_of z x) 2 S o1 p3 _ P prog e2.is
      (goes_to z.bound self (fail_of z x) 1 1 S o1 _ (Ended z s1 o1 x.a x.below (map (slot_value s1.cells) g03.slots ++ (map (slot_value s1.cells) g34.slots ++ (map (slot_value s1.cells) h.grown.slots ++ h.high))) w.loop.pc) P prog
      (λ n. ends z s1 o1 e2.g x.a a3 g03 (map (slot_value s1.cells) g34.slots ++ (map (slot_value s1.cells) h.grown.slots ++ h.high)) x.below w.loop w.loop n n0 e2.ok close3)
      (λ p4 e3.
      let high = map (slot_value s1.cells) g34.slots ++ (map (slot_value s1.cells) h.grown.slots ++ h.high) in
      let e : map (slot_value s1.cells) g03.slots ++ high ≡ f ∷ state ∷ first_of vs ∷ high = ap (λ l. l ++ high) (eh s1.cells) in
      goes_from z.bound self (fail_of z x) 1 S o1 p4 _ P prog (e3.is ∙ ap (λ l. Now (at s1 o1 e3.g (raised x l) w.loop.pc)) e)
      (iterate_from_goes names f state (first_of vs) body s1 o1 e3.g x around high q (subst (λ l. Ok z s1 e3.g (raised x l)) e e3.ok) (room e3.g high (subst (λ l. Ok z s1 e3.g (raised x l)) e e3.ok)) small w)))))))
    where
      code3 : code_of a3 ≡ code_of x.a
      code3 = ap (λ a. code_of a) g03.is

      code4 : code_of a4 ≡ code_of x.a
      code4 = ap (λ a. code_of a) g34.is ∙ ap (λ a. code_of a) g03.is

      close1 : (active : List Active) → active ≡ w.turn_at.block_at.inner → CloseAt (any_captured (drop (length a4.active) active)) (code_of a4) (length a4.active) w.turn_at.block_at.mid w.turn_at.mid
      close1 active e =
          subst (λ c. CloseAt (any_captured (drop (length a4.active) active)) c (length a4.active) w.turn_at.block_at.mid w.turn_at.mid) (sym code4)
          (subst (λ l. CloseAt (any_captured (drop (length l) active)) (code_of x.a) (length l) w.turn_at.block_at.mid w.turn_at.mid) (sym e4)
          (subst (λ l. CloseAt (any_captured (drop (length w.turn_at.inner) l)) (code_of x.a) (length w.turn_at.inner) w.turn_at.block_at.mid w.turn_at.mid) (sym e) w.turn_at.block_at.close))

      close2 : CloseAt (any_captured (drop (length a3.active) a4.active)) (code_of a3) (length a3.active) w.turn_at.mid w.loop
      close2 =
          subst (λ c. CloseAt (any_captured (drop (length a3.active) a4.active)) c (length a3.active) w.turn_at.mid w.loop) (sym code3)
          (subst (λ l. CloseAt (any_captured (drop (length a3.active) l)) (code_of x.a) (length a3.active) w.turn_at.mid w.loop) (sym e4)
          (subst (λ l. CloseAt (any_captured (drop (length l) w.turn_at.inner)) (code_of x.a) (length l) w.turn_at.mid w.loop) ea w.turn_at.close))

      close3 : CloseAt (any_captured (drop (length x.a.active) a3.active)) (code_of x.a) (length x.a.active) w.loop w.loop
      close3 = subst (λ b. CloseAt b (code_of x.a) (length x.a.active) w.loop w.loop) (sym eu) (record { pc = refl; ahead = refl; functions = refl })

      room : (g1 : Ghost) (high : List Datum) → Ok z s1 g1 (raised x (f ∷ state ∷ first_of vs ∷ high)) → length names ≤ length high
      room g1 high ok =
          let k : length x.a.slots + suc (suc (suc (length high))) ≡ (own x.a.chunk).registers = ok.acts.1 in
          let l : length w.turn_at.inner ≤ (own x.a.chunk).registers = w.turn_at.room in
          let u = activated_length names w.variables w.before w.behind w.around w.turn_at.inner w.declared w.turn_at.activated in
          let m : length w.around ≡ length a3.active = ap length ea in
          let n = n0.as_many in
          omega (arith, k, l, u, m, n, el)
  behind names f state vs body x around rest q small w a3 a4 g03 g34 ea e4 eh el eu n0 n3 n4 breaks s1 o1 p1 h =
      goes_done z.bound self (fail_of z x) 4 (suc call_cost) o1 p1 (FlowPost z x around x.a.active q.pc) (goes x.a.own) s1 (leaves_loop z x around q.pc s1 o1 p1 h.0 h.1)
  behind names f state vs body x around rest q small w a3 a4 g03 g34 ea e4 eh el eu n0 n3 n4 (returns us) s1 o1 p1 h =
      goes_done z.bound self (fail_of z x) 4 (suc call_cost) o1 p1 (FlowPost z x around x.a.active q.pc) (returns us) s1 (same_backs z x a4 rest (grown_on x.a a3 a4 g03 g34) us s1 o1 p1 h)
  behind names f state vs body x around rest q small w a3 a4 g03 g34 ea e4 eh el eu n0 n3 n4 (tail_calls h1 us) s1 o1 p1 h =
      goes_done z.bound self (fail_of z x) 4 (suc call_cost) o1 p1 (FlowPost z x around x.a.active q.pc) (tail_calls h1 us) s1 (same_call z x a4 rest (grown_on x.a a3 a4 g03 g34) h1 us s1 o1 p1 h)

  pub iter_turn_goes : (names : List Text) (f state : Datum) (vs : List Datum) (body : Statements) (s : SourceState) (o : Outside) (g : Ghost) (x : Site) (around : Around) (rest : List Datum) (q : Spot) → Ok z s g (raised x (f ∷ state ∷ first_of vs ∷ (adjusted (length names) vs ++ rest))) → iter_size body ≤ z.bound → (w : IterWords x names body q) → Goes z.bound self (fail_of z x) 4 (size_b body + suc call_cost) o (Now (at s o g (raised x (f ∷ state ∷ first_of vs ∷ (adjusted (length names) vs ++ rest))) w.begin.pc)) (FlowPost z x around x.a.active q.pc) (block_with (scope x) names vs body s (λ fl s1. behind_turn (scope x) fl s1 (λ env. iterate_from (scope x) names f state (first_of vs) body s1)))
  iter_turn_goes names f state vs body s o g x around rest q ok small w =
      let more = adjusted (length names) vs ++ rest in
      let h1 = w.hidden in
      let h2 = h1.2 in
      let h3 = h2.2 in
      let a1 : Act = add_hidden x.a f h1.0 in
      let a2 : Act = add_hidden a1 state h2.0 in
      let a3 : Act = add_hidden a2 (first_of vs) h3.0 in
      let o1 = hides z s g x.a x.below h1.0 f (state ∷ first_of vs ∷ more) (ap (λ l. l.declaration) h1.1) ok in
      let o2 = hides z s g a1 x.below h2.0 state (first_of vs ∷ more) (ap (λ l. l.declaration) h2.1) o1.0 in
      let o3 = hides z s g a2 x.below h3.0 (first_of vs) more (ap (λ l. l.declaration) h3.1) o2.0 in
      let t = w.turn_at in
      let d = declared names vs x.a.own s in
      let o4 = opened_as z s g (put a3 x.below more) d.0 d.1 t.inner rest (declares_all z names w.variables w.before w.behind t.inner vs rest s g a3 x.below w.declared (subst (λ l. Activated w.variables l t.inner) h3.2 t.activated) o3.0) in
      let a4 : Act = grown_act a3 d.0 t.inner (a3.slots ++ o4.slots) in
      let x4 : Site = put a4 x.below rest in
      let g34 : Grown a3 a4 = record { active = o4.more; slots = o4.slots; env = d.0; is = ap (λ l. grown_act a3 d.0 l (a3.slots ++ o4.slots)) o4.is_more } in
      let g03 : Grown x.a a3 = hidden_grown x.a f state (first_of vs) h1.0 h2.0 h3.0 in
      let y4 : Around = looped q.pc x.a (named_of z s g (raised x (f ∷ state ∷ first_of vs ∷ more)) ok) in
      let S = size_b body + suc call_cost in
      let begin_at : at s o g (raised x (f ∷ state ∷ first_of vs ∷ more)) w.begin.pc ≡ at d.1 o o4.g1 x4 w.begin.pc = o1.1 o w.begin.pc None ∙ o2.1 o w.begin.pc None ∙ o3.1 o w.begin.pc None ∙ o4.seen o w.begin.pc None in
      goes_from z.bound self (fail_of z x) 4 S o _ (Now (at d.1 o o4.g1 x4 w.begin.pc)) (FlowPost z x around x.a.active q.pc) _ (ap Now begin_at)
      (goes_ask z.bound self (fail_of z x) (size_b body) 4 (suc call_cost) o (Now (at d.1 o o4.g1 x4 w.begin.pc)) (block (scope x4) body) d.1 (FlowPost z x4 y4 t.block_at.inner t.block_at.mid.pc) (FlowPost z x around x.a.active q.pc) _
      (ih.blocks body d.1 o o4.g1 x4 y4 t.block_at.inner w.begin t.block_at.mid o4.ok (grown_on x.a a3 a4 g03 g34) (omega arith) t.block_at.body_at)
      (λ fl s1 o1 p1 h. behind names f state vs body x around rest q small w a3 a4 g03 g34 h3.2 refl (λ cells. refl) (three_more x.a.active h1.0 h2.0 h3.0) (uncaptured x.a f state (first_of vs) h1.0 h2.0 h3.0 (ap (λ l. l.captured) h1.1) (ap (λ l. l.captured) h2.1) (ap (λ l. l.captured) h3.1)) (named_of z s g (raised x (f ∷ state ∷ first_of vs ∷ more)) ok) (named_of z s g (put a3 x.below more) o3.0) (named_of z d.1 o4.g1 x4 o4.ok) fl s1 o1 p1 h))

  pub next_iter_turn : (names : List Text) (f state : Datum) (vs : List Datum) (body : Statements) → IterTurnBy z names f state vs body (λ x s w. programs.spend w.ticks w (programs.run self (program (iterator_turn (scope x) names f state vs body) s)))
  next_iter_turn names f state vs body s o g x around rest q ok small w =
      by_tick z.bound self (fail_of z x) 0 4 (size_b body + suc call_cost) o _ (FlowPost z x around x.a.active q.pc) _ refl (omega arith) (iter_turn_goes names f state vs body s o g x around rest q ok small w)
