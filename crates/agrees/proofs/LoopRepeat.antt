-- `repeat`: the test sees the locals of the block, and each way behind it ends them.
use Rattle.std.proofs.Common.{◌≡◌, ◌≤◌, ℕ, suc, ◌+◌, Bool, true, false, List, length, refl, sym, ap, ◌∙◌, subst, arith}
use Rattle.std.specs.Prelude.{drop}
use Rattle.opcode.specs.declared.op.Op.{Op}
use Rattle.lua_tree.specs.Syntax.{Statements, repeat_loop, Expression}
use Rattle.scheme.specs.Making.{any_captured}
use Rattle.lua_model.specs.Datum.{Datum}
use Rattle.lua_model.specs.Store.{Outside}
use Rattle.source_meaning.specs.State.{State as SourceState, Env, Flow, goes, breaks, returns, tail_calls, with_own}
use Rattle.source_meaning.specs.Tasks.{block, test, repeat_turn}
use Rattle.source_meaning.specs.Programs.{Prog, done, ask, spend, run}
use Rattle.source_meaning.specs.Meaning.{execute, goes_on_at, behind_turn, program}
use Rattle.rules.specs.State.{State}
use Rattle.rules.specs.Run.{after}
use Rattle.scheme_stands.specs.Words.{Spot}
use Rattle.scheme_stands.specs.Statements.{CloseAt, RepeatAt, UntilBy}
use Rattle.scheme_stands.specs.Relation.{StatementsAt, related}
use Rattle.agrees.proofs.Tasks.{StatementBy, RepeatTurnBy, repeat_size, Simulates, Does, scope}
use Rattle.agrees.proofs.Posts.{Named, looped, Faults, fail_of, Around, FlowPost, GoesOnPost, JumpPost}
use Rattle.agrees.proofs.Accounts.{Place, Now, Post, Self, Asks, Goes, goes_done, goes_ask, goes_last, goes_weaken, goes_from, goes_to, goes_post, goes_step, goes_soon, goes_word, goes_paid, by_tick}
use Rattle.agrees.proofs.Sizes.{size_e, size_b}
use Rattle.agrees.proofs.Words.{word_jump, jumps}
use Rattle.agrees.proofs.Picture.{code_of, Setup, Ghost, Site, at, scope_of, Ok}
use Rattle.agrees.proofs.LocalsBegin.{put, grown_self}
use Rattle.agrees.proofs.LocalsEnd.{named_of}
use Rattle.agrees.proofs.StatementBlocks.{same_flow, block_ends}

module _ (z : Setup) (self : Self) (ih : Simulates z self) where
  module _ (b : Statements) (e : Expression) (x : Site) (around : Around) (p q : Spot) (small : repeat_size b e ≤ z.bound) (w : RepeatAt (code_of x.a) (λ loop. StatementsAt (code_of x.a) loop b) (related (code_of x.a) e) x.a.active p q) (named : Named x.a) where
    abbrev P : Post Flow
    P = FlowPost z x around x.a.active q.pc

    abbrev again : Env → Bool → SourceState → Prog Flow
    again env holds s2 = elim holds [ true ↦ goes_on_at (scope x) s2 | false ↦ ask (repeat_turn (scope x) b e) s2 done ]

    -- another turn
    turn : (s : SourceState) (o : Outside) (g : Ghost) (high : List Datum) → Ok z s g (put x.a x.below high) → Goes z.bound self (fail_of z x) 0 (repeat_size b e) o (Now (at s o g (put x.a x.below high) p.pc)) P (ask (repeat_turn (scope x) b e) s done)
    turn s o g high ok =
        goes_post z.bound self (fail_of z x) 0 (repeat_size b e) o _ (FlowPost z (put x.a x.below high) around x.a.active q.pc) P _ (λ f2 s2 o2 p2 h2. same_flow z self x x.a high (grown_self x.a) around x.a.active q.pc f2 s2 o2 p2 h2)
        (goes_last z.bound self (fail_of z x) 0 (repeat_size b e) o _ (repeat_turn (scope x) b e) s (FlowPost z (put x.a x.below high) around x.a.active q.pc) (ih.repeat_turns b e s o g (put x.a x.below high) around p q ok small w))

    left : (s : SourceState) (o : Outside) (g : Ghost) (high : List Datum) → Ok z s g (put x.a x.below high) → P (goes x.a.own) s o (Now (at s o g (put x.a x.below high) q.pc))
    left s o g high ok = record { a = x.a; g = g; high = high; grown = grown_self x.a; names = refl; actives = refl; is = refl; ok = ok }

    -- the same locals, at another place
    on_at : (env : Env) (s1 : SourceState) (o1 : Outside) (p1 : Place) (h : GoesOnPost z x w.inner w.mid.pc env s1 o1 p1) (s2 : SourceState) (o2 : Outside) (g2 : Ghost) (high2 : List Datum) (r : ℕ) → Ok z s2 g2 (put h.a x.below high2) → GoesOnPost z x w.inner r env s2 o2 (Now (at s2 o2 g2 (put h.a x.below high2) r))
    on_at env s1 o1 p1 h s2 o2 g2 high2 r ok = record { a = h.a; g = g2; high = high2; grown = h.grown; names = h.names; actives = h.actives; is = refl; ok = ok }

    here : (env : Env) (s1 : SourceState) (o1 : Outside) (p1 : Place) (h : GoesOnPost z x w.inner w.mid.pc env s1 o1 p1) → scope (put h.a x.below h.high) ≡ with_own (scope x) env
    here env s1 o1 p1 h = ap (λ a. scope_of a x.below) h.grown.is ∙ ap (λ e1. with_own (scope x) e1) (sym (ap (λ a. a.own) h.grown.is) ∙ h.names)

    -- the test, by where its words are
    tested : (env : Env) (s1 : SourceState) (o1 : Outside) (p1 : Place) (h : GoesOnPost z x w.inner w.mid.pc env s1 o1 p1) (l : ℕ) (m : Spot) → (related (code_of x.a) e).jump_if w.inner (length w.inner) false l w.mid m → Asks z.bound 0 (suc (size_e e)) o1 (Now (at s1 o1 h.g (put h.a x.below h.high) w.mid.pc)) (fail_of z x) (λ t. JumpPost z (put h.a x.below h.high) 0 false l m.pc (Datum.boolean t)) (self (test (with_own (scope x) env) e) s1)
    tested env s1 o1 p1 h l m t =
        let x1 : Site = put h.a x.below h.high in
        let PP : Post Bool = λ t. JumpPost z x1 0 false l m.pc (Datum.boolean t) in
        let n = Now (at s1 o1 h.g x1 w.mid.pc) in
        subst (λ c. Asks z.bound 0 (suc (size_e e)) o1 n (fail_of z x) PP (self (test c e) s1)) (here env s1 o1 p1 h)
        (subst (λ ld. Asks z.bound 0 (suc (size_e e)) o1 n (Faults z ld x.a.protections x.below) PP (self (test (scope x1) e) s1)) (ap (λ a. a.landing) h.grown.is)
        (subst (λ k. Asks z.bound 0 (suc (size_e e)) o1 n (Faults z h.a.landing k x.below) PP (self (test (scope x1) e) s1)) (ap (λ a. a.protections) h.grown.is)
        (ih.test_cond e false s1 o1 h.g x1 0 (length h.a.active) l w.mid m h.ok
        (record { is = (let k = h.ok.acts.0.as_many in omega (arith, k)); within = (let r = h.ok.acts.1 in let k = h.ok.acts.0.as_many in omega (arith, r, k)) })
        (omega arith)
        (subst (λ c. (related c e).jump_if h.a.active (length h.a.active) false l w.mid m) (sym (ap (λ a. code_of a) h.grown.is))
        (subst (λ ac. (related (code_of x.a) e).jump_if ac (length ac) false l w.mid m) (sym h.actives) t)))))

    until_goes : (env : Env) (s1 : SourceState) (o1 : Outside) (p1 : Place) (h : GoesOnPost z x w.inner w.mid.pc env s1 o1 p1) (c : Bool) → any_captured (drop (length x.a.active) w.inner) ≡ c → UntilBy c (code_of x.a) (related (code_of x.a) e) w.inner (length x.a.active) q.pc p.pc w.mid q → Goes z.bound self (fail_of z x) 2 (suc (size_e e)) o1 (Now (at s1 o1 h.g (put h.a x.below h.high) w.mid.pc)) P (ask (test (with_own (scope x) env) e) s1 (again env))
    until_goes env s1 o1 p1 h false ec u =
        goes_weaken z.bound self (fail_of z x) 2 (suc (size_e e) + 0) 2 (suc (size_e e)) o1 _ P _ (omega arith) (omega arith)
        (goes_ask z.bound self (fail_of z x) (suc (size_e e)) 2 0 o1 _ (test (with_own (scope x) env) e) s1 _ P (again env) (tested env s1 o1 p1 h p.pc q u)
        (λ t s2 o2 p2 h2. decide t s2 o2 p2 h2))
      where
        nothing : (r : Spot) → CloseAt (any_captured (drop (length x.a.active) w.inner)) (code_of x.a) (length x.a.active) r r
        nothing r = subst (λ c. CloseAt c (code_of x.a) (length x.a.active) r r) (sym ec) (record { pc = refl; ahead = refl; functions = refl })

        decide : (t : Bool) (s2 : SourceState) (o2 : Outside) (p2 : Place) → JumpPost z (put h.a x.below h.high) 0 false p.pc q.pc (Datum.boolean t) s2 o2 p2 → Goes z.bound self (fail_of z x) 2 0 o2 p2 P (again env t s2)
        decide true s2 o2 p2 h2 =
            goes_from z.bound self (fail_of z x) 2 0 o2 p2 _ P _ h2.is
            (goes_to z.bound self (fail_of z x) 1 1 0 o2 _ _ P _ (block_ends z self ih x around w.inner q q env s2 o2 _ named (nothing q) (on_at env s1 o1 p1 h s2 o2 h2.g h2.high q.pc h2.ok))
            (λ p3 d. goes_from z.bound self (fail_of z x) 1 0 o2 p3 _ P _ d.1.is
            (goes_done z.bound self (fail_of z x) 1 0 o2 _ P (goes x.a.own) s2 (left s2 o2 d.1.g d.0 d.1.ok))))
        decide false s2 o2 p2 h2 =
            goes_weaken z.bound self (fail_of z x) 1 0 2 0 o2 p2 P _ (omega arith) (omega arith)
            (goes_from z.bound self (fail_of z x) 1 0 o2 p2 _ P _ h2.is.1
            (goes_paid z.bound self (fail_of z x) 1 (repeat_size b e) o2 h2.is.0 (at s2 o2 h2.g (put h.a x.below h2.high) p.pc) P _ h2.is.3 small
            (goes_to z.bound self (fail_of z x) 1 0 (repeat_size b e) o2 _ _ P _ (block_ends z self ih x around w.inner p p env s2 o2 _ named (nothing p) (on_at env s1 o1 p1 h s2 o2 h2.g h2.high p.pc h2.ok))
            (λ p3 d. goes_from z.bound self (fail_of z x) 0 (repeat_size b e) o2 p3 _ P _ d.1.is (turn s2 o2 d.1.g d.0 d.1.ok)))))
    until_goes env s1 o1 p1 h true ec u =
        goes_weaken z.bound self (fail_of z x) 2 (suc (size_e e) + 0) 2 (suc (size_e e)) o1 _ P _ (omega arith) (omega arith)
        (goes_ask z.bound self (fail_of z x) (suc (size_e e)) 2 0 o1 _ (test (with_own (scope x) env) e) s1 _ P (again env) (tested env s1 o1 p1 h u.again.pc u.closing u.test_at)
        (λ t s2 o2 p2 h2. decide t s2 o2 p2 h2))
      where
        decide : (t : Bool) (s2 : SourceState) (o2 : Outside) (p2 : Place) → JumpPost z (put h.a x.below h.high) 0 false u.again.pc u.closing.pc (Datum.boolean t) s2 o2 p2 → Goes z.bound self (fail_of z x) 2 0 o2 p2 P (again env t s2)
        decide true s2 o2 p2 h2 =
            goes_from z.bound self (fail_of z x) 2 0 o2 p2 _ P _ h2.is
            (goes_to z.bound self (fail_of z x) 1 1 0 o2 _ _ P _ (block_ends z self ih x around w.inner u.closing u.leaving env s2 o2 _ named (subst (λ c. CloseAt c (code_of x.a) (length x.a.active) u.closing u.leaving) (sym ec) u.close) (on_at env s1 o1 p1 h s2 o2 h2.g h2.high u.closing.pc h2.ok))
            (λ p3 d.
            let x1 : Site = put x.a x.below d.0 in
            let m : State = at s2 o2 d.1.g x1 u.leaving.pc in
            goes_from z.bound self (fail_of z x) 1 0 o2 p3 _ P _ d.1.is
            (goes_word z.bound self (fail_of z x) 0 0 o2 m (at s2 o2 d.1.g x1 q.pc) P _
            (word_jump x.a Op.Jmp 0 q.pc u.leaving u.again m u.leave refl refl ∙ ap (after m) (jumps (at s2 o2 d.1.g x1 (suc u.leaving.pc)) u.leaving.pc q.pc refl))
            (goes_done z.bound self (fail_of z x) 0 0 o2 _ P (goes x.a.own) s2 (left s2 o2 d.1.g d.0 d.1.ok)))))
        decide false s2 o2 p2 h2 =
            goes_from z.bound self (fail_of z x) 2 0 o2 p2 _ P _ h2.is.1
            (goes_step z.bound self (fail_of z x) 2 0 o2 h2.is.0 (at s2 o2 h2.g (put h.a x.below h2.high) u.again.pc) P _ h2.is.3
            (goes_to z.bound self (fail_of z x) 1 1 0 o2 _ _ P _ (block_ends z self ih x around w.inner u.again u.last env s2 o2 _ named (subst (λ c. CloseAt c (code_of x.a) (length x.a.active) u.again u.last) (sym ec) u.close_again) (on_at env s1 o1 p1 h s2 o2 h2.g h2.high u.again.pc h2.ok))
            (λ p3 d.
            let x1 : Site = put x.a x.below d.0 in
            let m : State = at s2 o2 d.1.g x1 u.last.pc in
            goes_from z.bound self (fail_of z x) 1 0 o2 p3 _ P _ d.1.is
            (goes_soon z.bound self (fail_of z x) 0 0 o2 m P _
            (goes_paid z.bound self (fail_of z x) 0 (repeat_size b e) o2 m (at s2 o2 d.1.g x1 p.pc) P _
            (word_jump x.a Op.Jmp 0 p.pc u.last q m u.back refl refl ∙ ap (after m) (jumps (at s2 o2 d.1.g x1 (suc u.last.pc)) u.last.pc p.pc refl)) small
            (turn s2 o2 d.1.g d.0 d.1.ok))))))

    behind : (f : Flow) (s1 : SourceState) (o1 : Outside) (p1 : Place) → FlowPost z x (looped q.pc x.a named) w.inner w.mid.pc f s1 o1 p1 → Goes z.bound self (fail_of z x) 2 (suc (size_e e)) o1 p1 P (behind_turn (scope x) f s1 (λ env. ask (test (with_own (scope x) env) e) s1 (again env)))
    behind (goes env) s1 o1 p1 h =
        goes_from z.bound self (fail_of z x) 2 (suc (size_e e)) o1 p1 _ P _ h.is
        (until_goes env s1 o1 p1 h (any_captured (drop (length x.a.active) w.inner)) refl w.until)
    behind breaks s1 o1 p1 h = goes_done z.bound self (fail_of z x) 2 (suc (size_e e)) o1 p1 P (goes x.a.own) s1 (record { a = x.a; g = h.1.g; high = h.1.high; grown = grown_self x.a; names = refl; actives = refl; is = h.1.is; ok = h.1.ok })
    behind (returns vs) s1 o1 p1 h = goes_done z.bound self (fail_of z x) 2 (suc (size_e e)) o1 p1 P (returns vs) s1 h
    behind (tail_calls g1 vs) s1 o1 p1 h = goes_done z.bound self (fail_of z x) 2 (suc (size_e e)) o1 p1 P (tail_calls g1 vs) s1 h

  pub next_repeat_turn : (b : Statements) (e : Expression) → RepeatTurnBy z b e (λ x s w. spend w.ticks w (run self (program (repeat_turn (scope x) b e) s)))
  next_repeat_turn b e s o g x around p q ok small w =
      let named = named_of z s g x ok in
      by_tick z.bound self (fail_of z x) 0 2 (size_b b + suc (size_e e)) o (Now (at s o g x p.pc)) (FlowPost z x around x.a.active q.pc) _ refl (omega arith)
      (goes_ask z.bound self (fail_of z x) (size_b b) 2 (suc (size_e e)) o (Now (at s o g x p.pc)) (block (scope x) b) s (FlowPost z x (looped q.pc x.a named) w.inner w.mid.pc) (FlowPost z x around x.a.active q.pc) _
      (ih.blocks b s o g x (looped q.pc x.a named) w.inner p w.mid ok (grown_self x.a) (omega arith) w.body_at)
      (λ f s1 o1 p1 h. behind b e x around p q small w named f s1 o1 p1 h))

  pub repeat_goes : (b : Statements) (e : Expression) → StatementBy z (repeat_loop b e) (Does z self 0 (repeat_size b e) (λ x s. execute (repeat_loop b e) (scope x) s))
  repeat_goes b e s o g x around active1 p q ok out small t =
      subst (λ l. Goes z.bound self (fail_of z x) 0 (repeat_size b e) o (Now (at s o g x p.pc)) (FlowPost z x around l q.pc) (execute (repeat_loop b e) (scope x) s)) (sym t.stays)
      (goes_last z.bound self (fail_of z x) 0 (repeat_size b e) o (Now (at s o g x p.pc)) (repeat_turn (scope x) b e) s (FlowPost z x around x.a.active q.pc) (ih.repeat_turns b e s o g x around p q ok (omega arith) t.part_at))
