-- Blocks, statement by statement; a block as a statement; `while`.
use Rattle.std.proofs.Common.{◌≡◌, ◌≤◌, ℕ, suc, ◌+◌, Bool, true, false, List, ◌++◌, map, length, refl, sym, ap, ◌∙◌, subst, arith}
use Rattle.std.specs.Prelude.{drop}
use Rattle.opcode.specs.declared.op.Op.{Op}
use Rattle.lua_tree.specs.Syntax as syntax
use Rattle.lua_tree.specs.Syntax.{Statements, no_statements, do_block, while_loop, Expression}
use Rattle.scheme.specs.Making.{any_captured}
use Rattle.scheme.specs.declared.making.Active.{Active}
use Rattle.lua_model.specs.Datum.{Datum}
use Rattle.lua_model.specs.Store.{Outside}
use Rattle.source_meaning.specs.State.{State as SourceState, Env, Flow, goes, breaks, returns, tail_calls, with_own}
use Rattle.source_meaning.specs.Tasks.{block, statement, test, while_turn}
use Rattle.source_meaning.specs.Programs.{Prog, done, ask, spend, run}
use Rattle.source_meaning.specs.Meaning.{sequence, execute, goes_on_at, leave_block, behind_turn, while_from, program}
use Rattle.rules.specs.State.{State}
use Rattle.rules.specs.Run.{after}
use Rattle.scheme_stands.specs.Words.{Spot}
use Rattle.scheme_stands.specs.Statements.{CloseAt, BlockAt, WhileAt}
use Rattle.scheme_stands.specs.Relation.{StatementsAt, related}
use Rattle.agrees.proofs.Tasks.{BlockBy, StatementBy, WhileTurnBy, while_size, Simulates, Asked, Does, scope}
use Rattle.agrees.proofs.Posts.{Named, looped, Faults, fail_of, Around, FlowPost, GoesOnPost, Grown, JumpPost, keeps_self}
use Rattle.agrees.proofs.Accounts.{Arrive, Place, Now, Post, Self, Goes, goes_done, goes_ask, goes_last, goes_weaken, goes_from, goes_to, goes_post, goes_step, goes_soon, goes_paid, by_tick}
use Rattle.agrees.proofs.Sizes.{size_e, size_b, inner_block, inner_statement}
use Rattle.agrees.proofs.Words.{word_jump, jumps}
use Rattle.agrees.proofs.Picture.{code_of, Setup, Act, Ghost, Site, raised, slot_value, at, scope_of, Ok}
use Rattle.agrees.proofs.LocalsBegin.{put, grown_self, grown_on}
use Rattle.agrees.proofs.LocalsEnd.{named_of, ends, Ended}
use Rattle.agrees.proofs.LoopCount.{same_call, same_backs, leaves_loop}

module _ (z : Setup) (self : Self) where
  -- failures of a frame are the same for all acts of one call
  pub same_fail : {A : Type 0} (x : Site) (b : Act) (high : List Datum) → Grown x.a b → (j S : ℕ) (o : Outside) (p : Place) (P : Post A) (prog : Prog A) → Goes z.bound self (fail_of z (put b x.below high)) j S o p P prog → Goes z.bound self (fail_of z x) j S o p P prog
  same_fail x b high w j S o p P prog h =
      subst (λ l. Goes z.bound self (Faults z l x.a.protections x.below) j S o p P prog) (ap (λ a. a.landing) w.is)
      (subst (λ q. Goes z.bound self (Faults z b.landing q x.below) j S o p P prog) (ap (λ a. a.protections) w.is) h)

  -- how a part ends that began with more locals
  pub same_flow : (x : Site) (b : Act) (high : List Datum) → Grown x.a b → (around : Around) (active1 : List Active) (q : ℕ) (f : Flow) (s : SourceState) (o : Outside) (p : Place) → FlowPost z (put b x.below high) around active1 q f s o p → FlowPost z x around active1 q f s o p
  same_flow x b high w around active1 q (goes env) s o p h = record { a = h.a; g = h.g; high = h.high; grown = grown_on x.a b h.a w h.grown; names = h.names; actives = h.actives; is = h.is; ok = h.ok }
  same_flow x b high w around active1 q breaks s o p h = h
  same_flow x b high w around active1 q (returns vs) s o p h = same_backs z x b high w vs s o p h
  same_flow x b high w around active1 q (tail_calls f vs) s o p h = same_call z x b high w f vs s o p h

module _ (z : Setup) (self : Self) (ih : Simulates z self) where
  pub sequence_goes : (b : Statements) → BlockBy z b (Does z self 0 (inner_block b) (λ x s. sequence b (scope x) s))
  sequence_goes no_statements s o g x around active1 p q ok out small t =
      goes_done z.bound self (fail_of z x) 0 0 o (Now (at s o g x p.pc)) (FlowPost z x around active1 q.pc) (goes x.a.own) s
      (record { a = x.a; g = g; high = x.high; grown = grown_self x.a; names = refl; actives = sym t.stays; is = ap (λ pc. Now (at s o g x pc)) (sym t.part_at.pc); ok = ok })
  sequence_goes (syntax.statement line semi c rest) s o g x around active1 p q ok out small t =
      goes_ask z.bound self (fail_of z x) (suc (inner_statement c)) 0 (inner_block rest) o (Now (at s o g x p.pc)) (statement (scope x) c) s (FlowPost z x around t.between t.mid.pc) (FlowPost z x around active1 q.pc) _
      (ih.statements c s o g x around t.between p t.mid ok out (omega arith) t.first_at)
      (λ f s1 o1 p1 h. behind rest x around active1 t.between t.mid q out (omega arith) t.rest_at (λ s2 o2 g2 x2 y2 a2 p2 q2 ok2 out2 small2 t2. sequence_goes rest s2 o2 g2 x2 y2 a2 p2 q2 ok2 out2 small2 t2) f s1 o1 p1 h)
    where
      behind : (rest : Statements) (x : Site) (around : Around) (active1 between : List Active) (mid q : Spot) → Grown around.exit x.a → size_b rest ≤ z.bound → StatementsAt (code_of x.a) around.loop rest between active1 mid q → BlockBy z rest (Does z self 0 (inner_block rest) (λ x s. sequence rest (scope x) s)) → (f : Flow) (s1 : SourceState) (o1 : Outside) (p1 : Place) → FlowPost z x around between mid.pc f s1 o1 p1 → Goes z.bound self (fail_of z x) 0 (inner_block rest) o1 p1 (FlowPost z x around active1 q.pc) (elim f [ goes env ↦ sequence rest (with_own (scope x) env) s1 | breaks ↦ done breaks s1 | returns vs ↦ done (returns vs) s1 | tail_calls g1 vs ↦ done (tail_calls g1 vs) s1 ])
      behind rest x around active1 between mid q out small t again (goes env) s1 o1 p1 h =
          let x1 : Site = put h.a x.below h.high in
          let here : scope x1 ≡ with_own (scope x) env = ap (λ a. scope_of a x.below) h.grown.is ∙ ap (λ e. with_own (scope x) e) (sym (ap (λ a. a.own) h.grown.is) ∙ h.names) in
          goes_from z.bound self (fail_of z x) 0 (inner_block rest) o1 p1 _ (FlowPost z x around active1 q.pc) _ h.is
          (subst (λ c1. Goes z.bound self (fail_of z x) 0 (inner_block rest) o1 (Now (at s1 o1 h.g x1 mid.pc)) (FlowPost z x around active1 q.pc) (sequence rest c1 s1)) here
          (same_fail z self x h.a h.high h.grown 0 (inner_block rest) o1 _ (FlowPost z x around active1 q.pc) _
          (goes_post z.bound self (fail_of z x1) 0 (inner_block rest) o1 _ (FlowPost z x1 around active1 q.pc) (FlowPost z x around active1 q.pc) _ (λ f2 s2 o2 p2 h2. same_flow z self x h.a h.high h.grown around active1 q.pc f2 s2 o2 p2 h2)
          (again s1 o1 h.g x1 around active1 mid q h.ok (grown_on around.exit x.a h.a out h.grown) small
          (subst (λ l. StatementsAt (code_of h.a) around.loop rest l active1 mid q) (sym h.actives) (subst (λ k. StatementsAt k around.loop rest between active1 mid q) (sym (ap (λ a. code_of a) h.grown.is)) t))))))
      behind rest x around active1 between mid q out small t again breaks s1 o1 p1 h = goes_done z.bound self (fail_of z x) 0 (inner_block rest) o1 p1 (FlowPost z x around active1 q.pc) breaks s1 h
      behind rest x around active1 between mid q out small t again (returns vs) s1 o1 p1 h = goes_done z.bound self (fail_of z x) 0 (inner_block rest) o1 p1 (FlowPost z x around active1 q.pc) (returns vs) s1 h
      behind rest x around active1 between mid q out small t again (tail_calls g1 vs) s1 o1 p1 h = goes_done z.bound self (fail_of z x) 0 (inner_block rest) o1 p1 (FlowPost z x around active1 q.pc) (tail_calls g1 vs) s1 h

  pub next_block : (b : Statements) → BlockBy z b (Asked z (size_b b) (λ x s w. spend w.ticks w (run self (program (block (scope x) b) s))))
  next_block b s o g x around active1 p q ok out small t =
      by_tick z.bound self (fail_of z x) 0 0 (inner_block b) o (Now (at s o g x p.pc)) (FlowPost z x around active1 q.pc) (sequence b (scope x) s) refl (omega arith) (sequence_goes b s o g x around active1 p q ok out small t)

  -- the locals of a block end behind it
  pub block_ends : (x : Site) (around : Around) (inner : List Active) (mid q : Spot) (env : Env) (s : SourceState) (o : Outside) (p : Place) → Named x.a → CloseAt (any_captured (drop (length x.a.active) inner)) (code_of x.a) (length x.a.active) mid q → GoesOnPost z x inner mid.pc env s o p → (t : ℕ) → Arrive z.bound 1 0 t p t (λ p1. (high : List Datum) × Ended z s o x.a x.below high q.pc p1)
  block_ends x around inner mid q env s o p named close h t =
      let a = ends z s o h.g x.a h.a h.grown h.high x.below mid q t named h.ok (subst (λ l. CloseAt (any_captured (drop (length x.a.active) l)) (code_of x.a) (length x.a.active) mid q) (sym h.actives) close) in
      subst (λ r. Arrive z.bound 1 0 t r t (λ p1. (high : List Datum) × Ended z s o x.a x.below high q.pc p1)) (sym h.is)
      (record { to = a.to; holds = (map (slot_value s.cells) h.grown.slots ++ h.high, a.holds); reach = a.reach })

  pub do_goes : (b : Statements) → StatementBy z (do_block b) (Does z self 1 (size_b b) (λ x s. execute (do_block b) (scope x) s))
  do_goes b s o g x around active1 p q ok out small t =
      subst (λ l. Goes z.bound self (fail_of z x) 1 (size_b b) o (Now (at s o g x p.pc)) (FlowPost z x around l q.pc) (execute (do_block b) (scope x) s)) (sym t.stays)
      (goes_weaken z.bound self (fail_of z x) 1 (size_b b + 0) 1 (size_b b) o (Now (at s o g x p.pc)) (FlowPost z x around x.a.active q.pc) _ (omega arith) (omega arith)
      (goes_ask z.bound self (fail_of z x) (size_b b) 1 0 o (Now (at s o g x p.pc)) (block (scope x) b) s (FlowPost z x around t.part_at.inner t.part_at.mid.pc) (FlowPost z x around x.a.active q.pc) (leave_block (scope x))
      (ih.blocks b s o g x around t.part_at.inner p t.part_at.mid ok out (omega arith) t.part_at.body_at)
      (λ f s1 o1 p1 h. behind (named_of z s g x ok) t.part_at f s1 o1 p1 h)))
    where
      behind : Named x.a → (w : BlockAt (code_of x.a) (StatementsAt (code_of x.a) around.loop b) x.a.active p q) → (f : Flow) (s1 : SourceState) (o1 : Outside) (p1 : Place) → FlowPost z x around w.inner w.mid.pc f s1 o1 p1 → Goes z.bound self (fail_of z x) 1 0 o1 p1 (FlowPost z x around x.a.active q.pc) (leave_block (scope x) f s1)
      behind named w (goes env) s1 o1 p1 h =
          goes_to z.bound self (fail_of z x) 1 0 0 o1 p1 _ (FlowPost z x around x.a.active q.pc) (goes_on_at (scope x) s1) (block_ends x around w.inner w.mid q env s1 o1 p1 named w.close h)
          (λ p2 e. goes_from z.bound self (fail_of z x) 0 0 o1 p2 _ (FlowPost z x around x.a.active q.pc) (goes_on_at (scope x) s1) e.1.is
          (goes_done z.bound self (fail_of z x) 0 0 o1 _ (FlowPost z x around x.a.active q.pc) (goes x.a.own) s1 (record { a = x.a; g = e.1.g; high = e.0; grown = grown_self x.a; names = refl; actives = refl; is = refl; ok = e.1.ok })))
      behind named w breaks s1 o1 p1 h = goes_done z.bound self (fail_of z x) 1 0 o1 p1 (FlowPost z x around x.a.active q.pc) breaks s1 h
      behind named w (returns vs) s1 o1 p1 h = goes_done z.bound self (fail_of z x) 1 0 o1 p1 (FlowPost z x around x.a.active q.pc) (returns vs) s1 h
      behind named w (tail_calls g1 vs) s1 o1 p1 h = goes_done z.bound self (fail_of z x) 1 0 o1 p1 (FlowPost z x around x.a.active q.pc) (tail_calls g1 vs) s1 h

  -- ## `while`

  -- from the test on
  while_from_goes : (e : Expression) (b : Statements) (s : SourceState) (o : Outside) (g : Ghost) (x : Site) (around : Around) (p q : Spot) → Ok z s g x → suc (size_e e) + while_size b ≤ z.bound → WhileAt (code_of x.a) (related (code_of x.a) e) (λ loop. StatementsAt (code_of x.a) loop b) x.a.active p q → Goes z.bound self (fail_of z x) 0 (suc (size_e e) + while_size b) o (Now (at s o g x p.pc)) (FlowPost z x around x.a.active q.pc) (while_from (scope x) e b s)
  while_from_goes e b s o g x around p q ok small w =
      goes_ask z.bound self (fail_of z x) (suc (size_e e)) 0 (while_size b) o (Now (at s o g x p.pc)) (test (scope x) e) s _ (FlowPost z x around x.a.active q.pc) _
      (ih.test_cond e false s o g x 0 (length x.a.active) q.pc p w.mid ok (record { is = (let m = ok.acts.0.as_many in omega (arith, m)); within = (let r = ok.acts.1 in let m = ok.acts.0.as_many in omega (arith, r, m)) }) (omega arith) w.test_at)
      (λ t s1 o1 p1 h. decide t s1 o1 p1 h)
    where
      decide : (t : Bool) (s1 : SourceState) (o1 : Outside) (p1 : Place) → JumpPost z x 0 false q.pc w.mid.pc (Datum.boolean t) s1 o1 p1 → Goes z.bound self (fail_of z x) 0 (while_size b) o1 p1 (FlowPost z x around x.a.active q.pc) (elim t [ true ↦ ask (while_turn (scope x) e b) s1 done | false ↦ goes_on_at (scope x) s1 ])
      decide true s1 o1 p1 h =
          goes_from z.bound self (fail_of z x) 0 (while_size b) o1 p1 _ (FlowPost z x around x.a.active q.pc) _ h.is
          (goes_post z.bound self (fail_of z x) 0 (while_size b) o1 _ (FlowPost z (raised x h.high) around x.a.active q.pc) (FlowPost z x around x.a.active q.pc) _ (λ f2 s2 o2 p2 h2. same_flow z self x x.a h.high (grown_self x.a) around x.a.active q.pc f2 s2 o2 p2 h2)
          (goes_last z.bound self (fail_of z x) 0 (while_size b) o1 _ (while_turn (scope x) e b) s1 (FlowPost z (raised x h.high) around x.a.active q.pc) (ih.while_turns e b s1 o1 h.g (raised x h.high) around p q h.ok small w)))
      decide false s1 o1 p1 h =
          let x1 : Site = raised x h.high in
          goes_from z.bound self (fail_of z x) 0 (while_size b) o1 p1 _ (FlowPost z x around x.a.active q.pc) _ h.is.1
          (goes_step z.bound self (fail_of z x) 0 (while_size b) o1 h.is.0 (at s1 o1 h.g x1 q.pc) (FlowPost z x around x.a.active q.pc) _ h.is.3
          (goes_done z.bound self (fail_of z x) 0 (while_size b) o1 _ (FlowPost z x around x.a.active q.pc) (goes x.a.own) s1 (leaves_loop z x around q.pc s1 o1 _ h.high (record { g = h.g; high = h.high; keeps = keeps_self 0 h.high; is = refl; ok = h.ok }))))

  pub while_goes : (e : Expression) (b : Statements) → StatementBy z (while_loop e b) (Does z self 0 (suc (size_e e) + while_size b) (λ x s. execute (while_loop e b) (scope x) s))
  while_goes e b s o g x around active1 p q ok out small t =
      subst (λ l. Goes z.bound self (fail_of z x) 0 (suc (size_e e) + while_size b) o (Now (at s o g x p.pc)) (FlowPost z x around l q.pc) (execute (while_loop e b) (scope x) s)) (sym t.stays)
      (while_from_goes e b s o g x around p q ok (omega arith) t.part_at)

  -- behind a turn the JMP back pays for the next one
  pub next_while_turn : (e : Expression) (b : Statements) → WhileTurnBy z e b (λ x s w. spend w.ticks w (run self (program (while_turn (scope x) e b) s)))
  next_while_turn e b s o g x around p q ok small w =
      by_tick z.bound self (fail_of z x) 0 2 (size_b b) o (Now (at s o g x w.mid.pc)) (FlowPost z x around x.a.active q.pc) _ refl (omega arith)
      (goes_weaken z.bound self (fail_of z x) 2 (size_b b + 0) 2 (size_b b) o _ (FlowPost z x around x.a.active q.pc) _ (omega arith) (omega arith)
      (goes_ask z.bound self (fail_of z x) (size_b b) 2 0 o (Now (at s o g x w.mid.pc)) (block (scope x) b) s (FlowPost z x inside w.body_at.inner w.body_at.mid.pc) (FlowPost z x around x.a.active q.pc) _
      (ih.blocks b s o g x inside w.body_at.inner w.mid w.body_at.mid ok (grown_self x.a) (omega arith) w.body_at.body_at)
      (λ f s1 o1 p1 h. behind (named_of z s g x ok) f s1 o1 p1 h)))
    where
      inside : Around
      inside = looped q.pc x.a (named_of z s g x ok)

      behind : (named : Named x.a) → (f : Flow) (s1 : SourceState) (o1 : Outside) (p1 : Place) → FlowPost z x (looped q.pc x.a named) w.body_at.inner w.body_at.mid.pc f s1 o1 p1 → Goes z.bound self (fail_of z x) 2 0 o1 p1 (FlowPost z x around x.a.active q.pc) (behind_turn (scope x) f s1 (λ env. while_from (scope x) e b s1))
      behind named (goes env) s1 o1 p1 h =
          goes_to z.bound self (fail_of z x) 1 1 0 o1 p1 _ (FlowPost z x around x.a.active q.pc) (while_from (scope x) e b s1) (block_ends x around w.body_at.inner w.body_at.mid w.last env s1 o1 p1 named w.body_at.close h)
          (λ p2 d.
          let x1 : Site = put x.a x.below d.0 in
          let m : State = at s1 o1 d.1.g x1 w.last.pc in
          goes_from z.bound self (fail_of z x) 1 0 o1 p2 _ (FlowPost z x around x.a.active q.pc) (while_from (scope x) e b s1) d.1.is
          (goes_soon z.bound self (fail_of z x) 0 0 o1 m (FlowPost z x around x.a.active q.pc) (while_from (scope x) e b s1)
          (goes_paid z.bound self (fail_of z x) 0 (suc (size_e e) + while_size b) o1 m (at s1 o1 d.1.g x1 p.pc) (FlowPost z x around x.a.active q.pc) (while_from (scope x) e b s1)
          (word_jump x.a Op.Jmp 0 p.pc w.last q m w.back refl refl ∙ ap (after m) (jumps (at s1 o1 d.1.g x1 (suc w.last.pc)) w.last.pc p.pc refl)) small
          (goes_post z.bound self (fail_of z x) 0 (suc (size_e e) + while_size b) o1 _ (FlowPost z x1 around x.a.active q.pc) (FlowPost z x around x.a.active q.pc) _ (λ f2 s2 o2 p2 h2. same_flow z self x x.a d.0 (grown_self x.a) around x.a.active q.pc f2 s2 o2 p2 h2)
          (while_from_goes e b s1 o1 d.1.g x1 around p q d.1.ok small w)))))
      behind named breaks s1 o1 p1 h = goes_done z.bound self (fail_of z x) 2 0 o1 p1 (FlowPost z x around x.a.active q.pc) (goes x.a.own) s1 (leaves_loop z x around q.pc s1 o1 p1 h.0 h.1)
      behind named (returns vs) s1 o1 p1 h = goes_done z.bound self (fail_of z x) 2 0 o1 p1 (FlowPost z x around x.a.active q.pc) (returns vs) s1 h
      behind named (tail_calls g1 vs) s1 o1 p1 h = goes_done z.bound self (fail_of z x) 2 0 o1 p1 (FlowPost z x around x.a.active q.pc) (tail_calls g1 vs) s1 h
