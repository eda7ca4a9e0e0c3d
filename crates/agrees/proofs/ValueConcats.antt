-- `..` along its right spine: the operands go to registers one after another, and CONCAT joins them from the right.
use Rattle.proto.specs.Chunk.{own}
use Rattle.std.proofs.lemmas.Bool.Decides.{nat_tests}
use Rattle.std.specs.Prelude.{slice_get, slice_set}
use Rattle.lua_model.specs.Operators.{join as join_two}
use Rattle.std.proofs.Common.{◌≡◌, ◌≤◌, ◌<◌, ℕ, suc, ◌+◌, ◌-◌, true, List, [], ◌∷◌, length, Some, None, refl, sym, ◌∙◌, subst, arith, ap, inr, nat_lt}
use Rattle.lua_model.specs.Datum.{Datum, first_of}
use Rattle.lua_model.specs.Store.{Outside}
use Rattle.lua_tree.specs.Syntax.{Expression, binary_expression}
use Rattle.lua_tree.specs.declared.tree.BinaryOp.{BinaryOp}
use Rattle.opcode.specs.declared.op.Op.{Op}
use Rattle.rules.specs.Calls.{join, answer}
use Rattle.rules.specs.Run.{after}
use Rattle.rules.specs.State.{State, Effect, need, pairs, register, check}
use Rattle.scheme.specs.declared.making.Active.{Active}
use Rattle.scheme.specs.declared.making.Piece.{Piece}
use Rattle.scheme_stands.specs.Words.{Spot, WordAt, Fn}
use Rattle.scheme_stands.specs.Expressions.{NextAt, SpineAt}
use Rattle.scheme_stands.specs.Relation.{related}
use Rattle.source_meaning.specs.Meaning.{evaluate, finish_binary, perform}
use Rattle.source_meaning.specs.State.{State as SourceState}
use Rattle.source_meaning.specs.Tasks.{expression}
use Rattle.agrees.proofs.ValueCounts.{single}
use Rattle.agrees.proofs.Operators.{perform_goes, join_takes, AnswerPost}
use Rattle.agrees.proofs.NextRegister.{next_reg, to_next}
use Rattle.agrees.proofs.Picture.{code_of, Setup, Ghost, Site, raised, at, Ok, pic, registers}
use Rattle.agrees.proofs.Posts.{Keeps, keeps_on, keeps_self, ValuePost, fail_of, JoinPost}
use Rattle.agrees.proofs.Accounts.{Place, Now, Soon, Self, Asks, Goes, Arrive, goes_weaken, goes_then, goes_post, goes_more, by_tick, follow_post, to_soon, world, prefix_self, goes_from, goes_ask, to_step, goes_done}
use Rattle.agrees.proofs.Registers.{high_get, room_for}
use Rattle.agrees.proofs.Sizes.{size_e, call_cost, inner}
use Rattle.agrees.proofs.Tasks.{Simulates, scope, tasked, Evaluates, SpineBy}
use Rattle.agrees.proofs.EventsOfSteps.{join_table}
use Rattle.agrees.proofs.Words.{word_abc, sets}

-- what is no `..` goes to the next register
abbrev pub InNext : Expression → Type 0
InNext e = (f : Fn) (active : List Active) (free free1 : ℕ) (p q : Spot) → (related f e).spine active free free1 p q → NextAt f ((related f e).to_reg active free free) free free free1 p q

module _ (z : Setup) (self : Self) (ih : Simulates z self) where
  -- the operand left of the running value is joined to it: at once, or by a handler, whose landing goes on with the registers left
  pub join_goes : (x : Site) (k kk first a n pc : ℕ) (va v : Datum) (s : SourceState) (o : Outside) (p : Place) → first + n ≡ length x.a.slots + kk → (h : JoinPost z x k first a (suc n) pc v s o p) → slice_get h.high kk ≡ Some va → Goes z.bound self (fail_of z x) 0 call_cost o p (JoinPost z x k first a n pc) (perform (scope x) (join_two s.store va v) s)
  join_goes x k kk first a n pc va v s o p e h there =
      let x1 : Site = raised x h.high in
      let M : State = at s o h.g x1 pc in
      let next : State → Datum → Effect = λ m1 w. join m1 a first n w in
      goes_from z.bound self (fail_of z x) 0 call_cost o p (Soon h.m) (JoinPost z x k first a n pc) _ h.at_m
      (goes_post z.bound self (fail_of z x) 0 call_cost o (Soon h.m) (AnswerPost z x1 pc next) (JoinPost z x k first a n pc) _
      (λ w s1 o1 p1 b. record { g = b.g; high = h.high; keeps = h.keeps; m = b.m; at_m = b.at_m; before = b.before; ok = b.ok; is = b.is })
      (perform_goes z self ih x1 pc (pairs a first n) next (λ m1 vs. refl) (join_two s.store va v) (join_takes s.store va v) s o h.g h.m h.ok h.before (inr (join_table s.store va v))
      (h.is ∙ ap (λ r. after h.m (need r (λ left. answer (pairs a first n) (λ m1 vs. join m1 a first n (first_of vs)) next M (join_two s.store left v)))) (high_get s.cells x.a h.high (first + n) kk e ∙ there))))

  -- the last join gives the value
  pub joined : (x : Site) (k first a pc old_k : ℕ) (v old : Datum) (s : SourceState) (o : Outside) (p : Place) → (h : JoinPost z x k first a 0 pc v s o p) → ((high : List Datum) → Keeps k x.high high → Ok z s h.g (raised x high) → (w : Datum) × (slice_get (registers s.cells x.a high) a ≡ Some w)) → (t : ℕ) → Arrive z.bound 0 0 t p t (ValuePost z x k a pc (v ∷ []) s o)
  joined x k first a pc old_k v old s o p h has t =
      let w = has h.high h.keeps h.ok in
      subst (λ q. Arrive z.bound 0 0 t q t (ValuePost z x k a pc (v ∷ []) s o)) (sym h.at_m)
      (to_step z.bound 0 t h.m (pic s o h.g (raised x h.high) pc (slice_set (registers s.cells x.a h.high) a v) None) (ValuePost z x k a pc (v ∷ []) s o)
      (h.is ∙ ap (after h.m) (sets (at s o h.g (raised x h.high) pc) a v w.0 w.1))
      (record { g = h.g; high = h.high; keeps = h.keeps; is = refl; ok = h.ok }))

  -- the word begins with the last operand, in its register
  pub concat_word : (x : Site) (s : SourceState) (o : Outside) (g : Ghost) (k first last_k a last : ℕ) (v : Datum) (p q : Spot) → Ok z s g x → first < last → last ≡ length x.a.slots + last_k → slice_get x.high last_k ≡ Some v → WordAt (code_of x.a) (Piece.Abc Op.Concat a first last) p q → JoinPost z x k first a (last - first) q.pc v s o (Soon (at s o g x p.pc))
  concat_word x s o g k first last_k a last v p q ok l e there w =
      let m : State = at s o g x p.pc in
      let m1 : State = at s o g x (suc p.pc) in
      record {
        g = g;
        high = x.high;
        keeps = keeps_self k x.high;
        m = m;
        at_m = refl;
        before = prefix_self o.events;
        ok = ok;
        is =
            word_abc x.a Op.Concat a first last p q m w refl refl
            ∙ ap (λ b. after m (check b (need (register m1 last) (λ u. join m1 a first (last - first) u)))) (let t : nat_lt first last ≡ true = grind (arith, nat_tests) in t)
            ∙ ap (λ r. after m (need r (λ u. join m1 a first (last - first) u))) (high_get s.cells x.a x.high last last_k e ∙ there)
            ∙ ap (λ n. after m (join (at s o g x n) a first (last - first) v)) (sym w.next);
      }

  -- the left operand of a `..` in a spine, and what its right side gives: joined
  pub spine_left : (left right : Expression) (s : SourceState) (o : Outside) (g : Ghost) (x : Site) (k first a free n pc : ℕ) (p mid : Spot) → Ok z s g x → free ≡ length x.a.slots + k → free ≡ first + n → size_e left ≤ z.bound → free < (own x.a.chunk).registers → (related (code_of x.a) left).to_reg x.a.active free free p mid → ((s1 : SourceState) (o1 : Outside) (g1 : Ghost) (high : List Datum) → Ok z s1 g1 (raised x high) → Asks z.bound 0 (size_e right) o1 (Now (at s1 o1 g1 (raised x high) mid.pc)) (fail_of z x) (λ vs. JoinPost z (raised x high) (suc k) first a (suc n) pc (first_of vs)) (self (expression (scope x) right) s1)) → Goes z.bound self (fail_of z x) 0 (size_e left + (size_e right + (call_cost + 0))) o (Now (at s o g x p.pc)) (λ vs. JoinPost z x k first a n pc (first_of vs)) (evaluate (binary_expression 0 BinaryOp.Concat left right) (scope x) s)
  spine_left left right s o g x k first a free n pc p mid ok fr fn1 small room t rest =
      next_reg z self ih left s o g x k free p mid 0 (size_e right + (call_cost + 0)) (λ vs. JoinPost z x k first a n pc (first_of vs)) _ ok fr small room t
      (λ va s1 o1 g1 high1 k1 ok1 e1.
      goes_ask z.bound self (fail_of z x) (size_e right) 0 (call_cost + 0) o1 (Now (at s1 o1 g1 (raised x high1) mid.pc)) (expression (scope x) right) s1 (λ vs. JoinPost z (raised x high1) (suc k) first a (suc n) pc (first_of vs)) (λ vs. JoinPost z x k first a n pc (first_of vs)) _
      (rest s1 o1 g1 high1 ok1)
      (λ vs s2 o2 p2 h.
      goes_then z.bound self (fail_of z x) 0 call_cost 0 0 o2 p2 (JoinPost z x k first a n pc) (λ us. JoinPost z x k first a n pc (first_of us)) (perform (scope x) (join_two s2.store va (first_of vs)) s2) (finish_binary BinaryOp.Concat)
      (join_goes x k k first a n pc va (first_of vs) s2 o2 p2 (sym fn1 ∙ fr) (record { g = h.g; high = h.high; keeps = keeps_on k (suc k) x.high high1 h.high (omega arith) k1 h.keeps; m = h.m; at_m = h.at_m; before = h.before; ok = h.ok; is = h.is }) (h.keeps.old k (omega arith) ∙ e1))
      (λ w s3 o3 p3 j. goes_done z.bound self (fail_of z x) 0 0 o3 p3 (λ us. JoinPost z x k first a n pc (first_of us)) (w ∷ []) s3 j)))

  -- an operand that is no `..`
  pub spine_other : (e : Expression) → InNext e → Evaluates z self 6 e → SpineBy z e (λ x. tasked self (expression (scope x) e))
  spine_other e single given s o g x k first a free free1 p last q ok fr l small w word =
      let n = single (code_of x.a) x.a.active free free1 p last w in
      let at_last : free1 - 1 ≡ free = let b = n.at_free in omega (arith, b) in
      let word1 : WordAt (code_of x.a) (Piece.Abc Op.Concat a first free) last q = subst (λ i. WordAt (code_of x.a) (Piece.Abc Op.Concat a first i) last q) at_last word in
      let room = n.room in
      by_tick z.bound self (fail_of z x) 0 7 (inner e) o (Now (at s o g x p.pc)) (λ vs. JoinPost z x k first a (free - first) q.pc (first_of vs)) (evaluate e (scope x) s) refl (omega arith)
      (goes_more z.bound self (fail_of z x) 6 1 (inner e) o (Now (at s o g x p.pc)) (ValuePost z x k free last.pc) (λ vs. JoinPost z x k first a (free - first) q.pc (first_of vs)) (evaluate e (scope x) s)
      (given s o g x k free free p last ok (record { is = fr; within = omega (arith, room) }) small room n.value_at)
      (λ vs s1 o1 p1 h t.
      let y = to_next z x k free last.pc vs s1 o1 p1 fr room h in
      let j = concat_word (raised x y.high) s1 o1 y.g k first k a free (first_of vs) last q y.ok l fr y.has word1 in
      subst (λ place. Arrive z.bound 1 0 t place t (JoinPost z x k first a (free - first) q.pc (first_of vs) s1 o1)) (sym y.is)
      (to_soon z.bound t (at s1 o1 y.g (raised x y.high) last.pc) (JoinPost z x k first a (free - first) q.pc (first_of vs) s1 o1)
      (record { g = j.g; high = j.high; keeps = keeps_on k k x.high y.high j.high (omega arith) y.keeps j.keeps; m = j.m; at_m = j.at_m; before = j.before; ok = j.ok; is = j.is }))))

  -- the operands of a `..`, of which the left one is in `free`, where n come before it
  operands_go : (left right : Expression) (s : SourceState) (o : Outside) (g : Ghost) (x : Site) (k first a free free1 n : ℕ) (p last q : Spot) → Ok z s g x → free ≡ length x.a.slots + k → free ≡ first + n → size_e left ≤ z.bound → size_e right ≤ z.bound → SpineAt (code_of x.a) (related (code_of x.a) left) (related (code_of x.a) right) x.a.active free free1 p last → WordAt (code_of x.a) (Piece.Abc Op.Concat a first (free1 - 1)) last q → Goes z.bound self (fail_of z x) 0 (size_e left + (size_e right + (call_cost + 0))) o (Now (at s o g x p.pc)) (λ vs. JoinPost z x k first a n q.pc (first_of vs)) (evaluate (binary_expression 0 BinaryOp.Concat left right) (scope x) s)
  operands_go left right s o g x k first a free free1 n p last q ok fr fn1 small_l small_r w word =
      spine_left left right s o g x k first a free n q.pc p w.mid ok fr fn1 small_l w.room w.first
      (λ s1 o1 g1 high ok1 t.
      follow_post z.bound 0 (size_e right) t (Now (at s1 o1 g1 (raised x high) w.mid.pc)) (fail_of z x) (fail_of z x) (λ vs. JoinPost z (raised x high) (suc k) first a (free + 1 - first) q.pc (first_of vs)) (λ vs. JoinPost z (raised x high) (suc k) first a (suc n) q.pc (first_of vs)) (self (expression (scope x) right) s1 (world t o1))
      (λ vs s2 o2 p2 h. subst (λ i. JoinPost z (raised x high) (suc k) first a i q.pc (first_of vs) s2 o2 p2) (let e : free + 1 - first ≡ suc n = omega (arith, fn1) in e) h)
      (λ v s2 o2 p2 h. h)
      (ih.spines right s1 o1 g1 (raised x high) (suc k) first a (free + 1) free1 w.mid last q ok1 (omega (arith, fr)) (omega (arith, fn1)) small_r w.rest word t))

  -- a `..` among the operands
  pub spine_concat : (line : ℕ) (left right : Expression) → SpineBy z (binary_expression line BinaryOp.Concat left right) (λ x. tasked self (expression (scope x) (binary_expression line BinaryOp.Concat left right)))
  spine_concat line left right s o g x k first a free free1 p last q ok fr l small w word =
      by_tick z.bound self (fail_of z x) 0 0 (size_e left + (size_e right + call_cost)) o (Now (at s o g x p.pc)) (λ vs. JoinPost z x k first a (free - first) q.pc (first_of vs)) (evaluate (binary_expression line BinaryOp.Concat left right) (scope x) s) refl (omega arith)
      (goes_weaken z.bound self (fail_of z x) 0 (size_e left + (size_e right + (call_cost + 0))) 0 (size_e left + (size_e right + call_cost)) o (Now (at s o g x p.pc)) (λ vs. JoinPost z x k first a (free - first) q.pc (first_of vs)) _ (omega arith) (omega arith)
      (operands_go left right s o g x k first a free free1 (free - first) p last q ok fr (omega (arith, l)) (omega (arith, small)) (omega (arith, small)) w word))

  -- `..` as a value
  pub concat_goes : (line : ℕ) (left right : Expression) → Evaluates z self 0 (binary_expression line BinaryOp.Concat left right)
  concat_goes line left right s o g x k free r p q ok fr small lr w =
      goes_weaken z.bound self (fail_of z x) 0 (size_e left + (size_e right + (call_cost + 0))) 0 (size_e left + (size_e right + call_cost)) o (Now (at s o g x p.pc)) (ValuePost z x k r q.pc) _ (omega arith) (omega arith)
      (goes_more z.bound self (fail_of z x) 0 0 (size_e left + (size_e right + (call_cost + 0))) o (Now (at s o g x p.pc)) (λ vs. JoinPost z x k free r 0 q.pc (first_of vs)) (ValuePost z x k r q.pc) _
      (operands_go left right s o g x k free r free w.free1 0 p w.last q ok fr.is (omega arith) (omega (arith, small)) (omega (arith, small)) w.operands w.word)
      (λ vs s1 o1 p1 h t.
      let j = joined x k free r q.pc 0 (first_of vs) Datum.nil s1 o1 p1 h (λ high kp ok1. room_for z s1 h.g (raised x high) r ok1 lr) t in
      record { to = j.to; holds = record { g = j.holds.g; high = j.holds.high; keeps = j.holds.keeps; is = j.holds.is; ok = j.holds.ok }; reach = j.reach }))

  pub next_spine : ((e : Expression) → Evaluates z self 6 e) → (e : Expression) → SpineBy z e (λ x. tasked self (expression (scope x) e))
  next_spine given (binary_expression line BinaryOp.Concat left right) = spine_concat line left right
  next_spine given (binary_expression line op left right) = spine_other (binary_expression line op left right) (λ f active free free1 p q w. w) (given (binary_expression line op left right))
  next_spine given e = spine_other e (λ f active free free1 p q w. w) (given e)
