-- `if`, with the words behind an arm, and `break`.
use Rattle.std.proofs.Common.{◌≡◌, ◌≤◌, ℕ, suc, ◌+◌, Bool, true, false, List, ◌++◌, map, length, Option, Some, None, refl, sym, ap, ◌∙◌, subst, arith}
use Rattle.std.specs.Prelude.{drop, ◌||◌}
use Rattle.opcode.specs.declared.op.Op.{Op}
use Rattle.lua_tree.specs.Syntax.{Statements, if_statement, break_statement, Branches, no_branches, branch, Otherwise, no_otherwise, otherwise}
use Rattle.scheme.specs.Making.{any_captured}
use Rattle.scheme.specs.Scheme.{has_branch, has_otherwise}
use Rattle.scheme.specs.declared.making.Active.{Active}
use Rattle.scheme.specs.declared.making.Piece.{Piece}
use Rattle.lua_model.specs.Datum.{Datum, is_true, first_of}
use Rattle.lua_model.specs.Store.{Outside}
use Rattle.source_meaning.specs.State.{State as SourceState, Flow, goes, breaks, returns, tail_calls}
use Rattle.source_meaning.specs.Tasks.{block, expression}
use Rattle.source_meaning.specs.Programs.{done}
use Rattle.source_meaning.specs.Meaning.{execute, goes_on_at, inner_block as asks_block, leave_block, choose}
use Rattle.rules.specs.State.{State}
use Rattle.rules.specs.Run.{after}
use Rattle.scheme_stands.specs.Words.{Spot, JumpOn, WordAt}
use Rattle.scheme_stands.specs.Statements.{LoopAt, BlockAt, BreakAt, CloseAt}
use Rattle.scheme_stands.specs.Relation.{BranchesAt, OtherwiseAt, StatementsAt}
use Rattle.agrees.proofs.Tasks.{StatementBy, Simulates, Does, scope}
use Rattle.agrees.proofs.Posts.{Named, Fits, keeps_self, fail_of, Around, FlowPost, Grown, JumpPost, Splits, same}
use Rattle.agrees.proofs.Accounts.{Place, Now, Self, Goes, goes_done, goes_ask, goes_weaken, goes_from, goes_to, goes_post, goes_step, goes_word}
use Rattle.agrees.proofs.Sizes.{size_e, size_b, inner_branches, inner_last}
use Rattle.agrees.proofs.Words.{word_jump, jumps}
use Rattle.agrees.proofs.Picture.{code_of, Setup, Act, Ghost, Site, raised, at, slot_value, Ok}
use Rattle.agrees.proofs.LocalsBegin.{put, grown_self}
use Rattle.agrees.proofs.LocalsEnd.{named_of, ends, Ended}
use Rattle.agrees.proofs.StatementBlocks.{same_flow, block_ends}

module _ (z : Setup) (self : Self) (ih : Simulates z self) where
  -- the jump behind an arm, where there is one
  leave_arm : (more : Bool) (end : ℕ) (s : SourceState) (o : Outside) (g : Ghost) (x : Site) (around : Around) (last q : Spot) → Ok z s g x → JumpOn (code_of x.a) more end last q → (more ≡ false → end ≡ q.pc) → Goes z.bound self (fail_of z x) 1 0 o (Now (at s o g x last.pc)) (FlowPost z x around x.a.active end) (goes_on_at (scope x) s)
  leave_arm true end s o g x around last q ok w e =
      let m : State = at s o g x last.pc in
      goes_word z.bound self (fail_of z x) 0 0 o m (at s o g x end) (FlowPost z x around x.a.active end) (goes_on_at (scope x) s)
      (word_jump x.a Op.Jmp 0 end last q m w refl refl ∙ ap (after m) (jumps (at s o g x (suc last.pc)) last.pc end refl))
      (goes_done z.bound self (fail_of z x) 0 0 o _ (FlowPost z x around x.a.active end) (goes x.a.own) s (record { a = x.a; g = g; high = x.high; grown = grown_self x.a; names = refl; actives = refl; is = refl; ok = ok }))
  leave_arm false end s o g x around last q ok w e =
      goes_done z.bound self (fail_of z x) 1 0 o _ (FlowPost z x around x.a.active end) (goes x.a.own) s (record { a = x.a; g = g; high = x.high; grown = grown_self x.a; names = refl; actives = refl; is = ap (λ pc. Now (at s o g x pc)) (sym w.pc ∙ sym (e refl)); ok = ok })

  -- a block of an arm and what follows it
  arm_goes : (b : Statements) (more : Bool) (end : ℕ) (s : SourceState) (o : Outside) (g : Ghost) (x : Site) (around : Around) (p last q : Spot) → Ok z s g x → Grown around.exit x.a → size_b b ≤ z.bound → BlockAt (code_of x.a) (StatementsAt (code_of x.a) around.loop b) x.a.active p last → JumpOn (code_of x.a) more end last q → (more ≡ false → end ≡ q.pc) → Goes z.bound self (fail_of z x) 2 (size_b b) o (Now (at s o g x p.pc)) (FlowPost z x around x.a.active end) (asks_block (scope x) b s)
  arm_goes b more end s o g x around p last q ok out small w leave stays =
      goes_weaken z.bound self (fail_of z x) 2 (size_b b + 0) 2 (size_b b) o (Now (at s o g x p.pc)) (FlowPost z x around x.a.active end) _ (omega arith) (omega arith)
      (goes_ask z.bound self (fail_of z x) (size_b b) 2 0 o (Now (at s o g x p.pc)) (block (scope x) b) s (FlowPost z x around w.inner w.mid.pc) (FlowPost z x around x.a.active end) (leave_block (scope x))
      (ih.blocks b s o g x around w.inner p w.mid ok out small w.body_at)
      (λ f s1 o1 p1 h. behind (named_of z s g x ok) f s1 o1 p1 h))
    where
      behind : Named x.a → (f : Flow) (s1 : SourceState) (o1 : Outside) (p1 : Place) → FlowPost z x around w.inner w.mid.pc f s1 o1 p1 → Goes z.bound self (fail_of z x) 2 0 o1 p1 (FlowPost z x around x.a.active end) (leave_block (scope x) f s1)
      behind named (goes env) s1 o1 p1 h =
          goes_to z.bound self (fail_of z x) 1 1 0 o1 p1 _ (FlowPost z x around x.a.active end) (goes_on_at (scope x) s1) (block_ends z self ih x around w.inner w.mid last env s1 o1 p1 named w.close h)
          (λ p2 d.
          goes_from z.bound self (fail_of z x) 1 0 o1 p2 _ (FlowPost z x around x.a.active end) (goes_on_at (scope x) s1) d.1.is
          (goes_post z.bound self (fail_of z x) 1 0 o1 _ (FlowPost z (put x.a x.below d.0) around x.a.active end) (FlowPost z x around x.a.active end) _ (λ f2 s2 o2 p2 h2. same_flow z self x x.a d.0 (grown_self x.a) around x.a.active end f2 s2 o2 p2 h2)
          (leave_arm more end s1 o1 d.1.g (put x.a x.below d.0) around last q d.1.ok leave stays)))
      behind named breaks s1 o1 p1 h = goes_done z.bound self (fail_of z x) 2 0 o1 p1 (FlowPost z x around x.a.active end) breaks s1 h
      behind named (returns vs) s1 o1 p1 h = goes_done z.bound self (fail_of z x) 2 0 o1 p1 (FlowPost z x around x.a.active end) (returns vs) s1 h
      behind named (tail_calls g1 vs) s1 o1 p1 h = goes_done z.bound self (fail_of z x) 2 0 o1 p1 (FlowPost z x around x.a.active end) (tail_calls g1 vs) s1 h

  -- an arm with nothing behind it is the last part
  no_more : (f : _) (loop : Option LoopAt) (end : ℕ) (bs : Branches) (last : Otherwise) (active : List Active) (p mid q : Spot) → (has_branch bs || has_otherwise last) ≡ false → BranchesAt f loop end (has_otherwise last) bs active p mid → OtherwiseAt f loop last active mid q → q.pc ≡ p.pc
  no_more f loop end no_branches no_otherwise active p mid q e h1 h2 = h2.pc ∙ h1.pc
  no_more f loop end no_branches (otherwise b) active p mid q e h1 h2 = cc
  no_more f loop end (branch t b rest) last active p mid q e h1 h2 = cc

  choose_goes : (bs : Branches) (last : Otherwise) (s : SourceState) (o : Outside) (g : Ghost) (x : Site) (around : Around) (p mid q : Spot) → Ok z s g x → Grown around.exit x.a → inner_branches bs + inner_last last ≤ z.bound → BranchesAt (code_of x.a) around.loop q.pc (has_otherwise last) bs x.a.active p mid → OtherwiseAt (code_of x.a) around.loop last x.a.active mid q → Goes z.bound self (fail_of z x) 2 (inner_branches bs + inner_last last) o (Now (at s o g x p.pc)) (FlowPost z x around x.a.active q.pc) (choose bs last (scope x) s)
  choose_goes no_branches no_otherwise s o g x around p mid q ok out small h1 h2 =
      goes_done z.bound self (fail_of z x) 2 0 o _ (FlowPost z x around x.a.active q.pc) (goes x.a.own) s (record { a = x.a; g = g; high = x.high; grown = grown_self x.a; names = refl; actives = refl; is = ap (λ pc. Now (at s o g x pc)) (sym h1.pc ∙ sym h2.pc); ok = ok })
  choose_goes no_branches (otherwise b) s o g x around p mid q ok out small h1 h2 =
      goes_weaken z.bound self (fail_of z x) 2 (size_b b) 2 (inner_branches no_branches + inner_last (otherwise b)) o _ (FlowPost z x around x.a.active q.pc) _ (omega arith) (omega arith)
      (goes_from z.bound self (fail_of z x) 2 (size_b b) o _ _ (FlowPost z x around x.a.active q.pc) _ (ap (λ pc. Now (at s o g x pc)) (sym h1.pc))
      (arm_goes b false q.pc s o g x around mid q q ok out (omega arith) h2 (record { pc = refl; ahead = refl; functions = refl }) (λ e. refl)))
  choose_goes (branch e b rest) last s o g x around p mid q ok out small h1 h2 =
      goes_weaken z.bound self (fail_of z x) 2 (size_e e + (size_b b + (inner_branches rest + inner_last last))) 2 (inner_branches (branch e b rest) + inner_last last) o _ (FlowPost z x around x.a.active q.pc) _ (omega arith) (omega arith)
      (goes_ask z.bound self (fail_of z x) (size_e e) 2 (size_b b + (inner_branches rest + inner_last last)) o (Now (at s o g x p.pc)) (expression (scope x) e) s _ (FlowPost z x around x.a.active q.pc) _
      (ih.cond e false s o g x 0 (length x.a.active) h1.mid.pc p h1.first_at.mid ok (record { is = (let m = ok.acts.0.as_many in omega (arith, m)); within = (let r = ok.acts.1 in let m = ok.acts.0.as_many in omega (arith, r, m)) }) (omega arith) h1.first_at.test_at)
      (λ vs s1 o1 p1 h. decide (first_of vs) (is_true (first_of vs)) refl s1 o1 p1 h
      (λ s2 o2 g2 high2 ok2. choose_goes rest last s2 o2 g2 (raised x high2) around h1.mid mid q ok2 out (omega arith) h1.second_at h2)))
    where
      decide : (v : Datum) (t : Bool) → is_true v ≡ t → (s1 : SourceState) (o1 : Outside) (p1 : Place) → JumpPost z x 0 false h1.mid.pc h1.first_at.mid.pc v s1 o1 p1 → ((s2 : SourceState) (o2 : Outside) (g2 : Ghost) (high2 : List Datum) → Ok z s2 g2 (raised x high2) → Goes z.bound self (fail_of z (raised x high2)) 2 (inner_branches rest + inner_last last) o2 (Now (at s2 o2 g2 (raised x high2) h1.mid.pc)) (FlowPost z (raised x high2) around x.a.active q.pc) (choose rest last (scope (raised x high2)) s2)) → Goes z.bound self (fail_of z x) 2 (size_b b + (inner_branches rest + inner_last last)) o1 p1 (FlowPost z x around x.a.active q.pc) (elim t [ true ↦ asks_block (scope x) b s1 | false ↦ choose rest last (scope x) s1 ])
      decide v true et s1 o1 p1 h again =
          let x1 : Site = raised x h.high in
          let here : Splits false (at s1 o1 h.g x1) h1.mid.pc h1.first_at.mid.pc p1 = subst (λ b1. Splits (same false b1) (at s1 o1 h.g x1) h1.mid.pc h1.first_at.mid.pc p1) et h.is in
          goes_from z.bound self (fail_of z x) 2 (size_b b + (inner_branches rest + inner_last last)) o1 p1 _ (FlowPost z x around x.a.active q.pc) _ here
          (goes_post z.bound self (fail_of z x) 2 (size_b b + (inner_branches rest + inner_last last)) o1 _ (FlowPost z x1 around x.a.active q.pc) (FlowPost z x around x.a.active q.pc) _ (λ f2 s2 o2 p2 h3. same_flow z self x x.a h.high (grown_self x.a) around x.a.active q.pc f2 s2 o2 p2 h3)
          (goes_weaken z.bound self (fail_of z x) 2 (size_b b) 2 (size_b b + (inner_branches rest + inner_last last)) o1 _ (FlowPost z x1 around x.a.active q.pc) _ (omega arith) (omega arith)
          (arm_goes b (has_branch rest || has_otherwise last) q.pc s1 o1 h.g x1 around h1.first_at.mid h1.first_at.last h1.mid h.ok out (omega arith) h1.first_at.body_at h1.first_at.leave
          (λ no. no_more (code_of x.a) around.loop q.pc rest last x.a.active h1.mid mid q no h1.second_at h2))))
      decide v false et s1 o1 p1 h again =
          let x1 : Site = raised x h.high in
          let there : Splits true (at s1 o1 h.g x1) h1.mid.pc h1.first_at.mid.pc p1 = subst (λ b1. Splits (same false b1) (at s1 o1 h.g x1) h1.mid.pc h1.first_at.mid.pc p1) et h.is in
          goes_from z.bound self (fail_of z x) 2 (size_b b + (inner_branches rest + inner_last last)) o1 p1 _ (FlowPost z x around x.a.active q.pc) _ there.1
          (goes_step z.bound self (fail_of z x) 2 (size_b b + (inner_branches rest + inner_last last)) o1 there.0 (at s1 o1 h.g x1 h1.mid.pc) (FlowPost z x around x.a.active q.pc) _ there.3
          (goes_post z.bound self (fail_of z x) 2 (size_b b + (inner_branches rest + inner_last last)) o1 _ (FlowPost z x1 around x.a.active q.pc) (FlowPost z x around x.a.active q.pc) _ (λ f2 s2 o2 p2 h3. same_flow z self x x.a h.high (grown_self x.a) around x.a.active q.pc f2 s2 o2 p2 h3)
          (goes_weaken z.bound self (fail_of z x) 2 (inner_branches rest + inner_last last) 2 (size_b b + (inner_branches rest + inner_last last)) o1 _ (FlowPost z x1 around x.a.active q.pc) _ (omega arith) (omega arith)
          (again s1 o1 h.g h.high h.ok))))

  pub if_goes : (bs : Branches) (last : Otherwise) → StatementBy z (if_statement bs last) (Does z self 2 (inner_branches bs + inner_last last) (λ x s. execute (if_statement bs last) (scope x) s))
  if_goes bs last s o g x around active1 p q ok out small t =
      subst (λ l. Goes z.bound self (fail_of z x) 2 (inner_branches bs + inner_last last) o (Now (at s o g x p.pc)) (FlowPost z x around l q.pc) (execute (if_statement bs last) (scope x) s)) (sym t.stays)
      (choose_goes bs last s o g x around p t.part_at.mid q ok out (omega arith) t.part_at.first_at t.part_at.second_at)

  -- ## `break`: the locals behind those of the loop's outside end, and the jump goes to the loop's exit
  break_by : (loop : Option LoopAt) (s : SourceState) (o : Outside) (g : Ghost) (x : Site) (exit : Act) (active1 : List Active) (p q : Spot) → Ok z s g x → Grown exit x.a → (fits : Fits loop exit) → BreakAt (code_of x.a) loop x.a.active p q → Goes z.bound self (fail_of z x) 2 0 o (Now (at s o g x p.pc)) (FlowPost z x (record { loop = loop; exit = exit; fits = fits }) active1 q.pc) (done breaks s)
  break_by None s o g x exit active1 p q ok out fits t = absurd t
  break_by (Some l) s o g x exit active1 p q ok out fits t =
      goes_to z.bound self (fail_of z x) 1 1 0 o _ (Ended z s o exit x.below (map (slot_value s.cells) out.slots ++ x.high) t.mid.pc) (FlowPost z x (record { loop = Some l; exit = exit; fits = fits }) active1 q.pc) (done breaks s)
      (λ n. ends z s o g exit x.a out x.high x.below p t.mid n fits.1 ok close)
      (λ p1 d.
      let x1 : Site = put exit x.below (map (slot_value s.cells) out.slots ++ x.high) in
      let m : State = at s o d.g x1 t.mid.pc in
      goes_from z.bound self (fail_of z x) 1 0 o p1 (Now m) (FlowPost z x (record { loop = Some l; exit = exit; fits = fits }) active1 q.pc) (done breaks s) d.is
      (goes_word z.bound self (fail_of z x) 0 0 o m (at s o d.g x1 l.exit) (FlowPost z x (record { loop = Some l; exit = exit; fits = fits }) active1 q.pc) (done breaks s)
      (word_jump exit Op.Jmp 0 l.exit t.mid q m (subst (λ c. WordAt c (Piece.Jump Op.Jmp 0 l.exit) t.mid q) (ap (λ a. code_of a) out.is) t.second_at) refl refl ∙ ap (after m) (jumps (at s o d.g x1 (suc t.mid.pc)) t.mid.pc l.exit refl))
      (goes_done z.bound self (fail_of z x) 0 0 o _ (FlowPost z x (record { loop = Some l; exit = exit; fits = fits }) active1 q.pc) breaks s
      (map (slot_value s.cells) out.slots ++ x.high, record { g = d.g; high = map (slot_value s.cells) out.slots ++ x.high; keeps = keeps_self 0 _; is = refl; ok = d.ok }))))
    where
      close : CloseAt (any_captured (drop (length exit.active) x.a.active)) (code_of exit) (length exit.active) p t.mid
      close =
          subst (λ c. CloseAt (any_captured (drop (length exit.active) x.a.active)) c (length exit.active) p t.mid) (ap (λ a. code_of a) out.is)
          (subst (λ n. CloseAt (any_captured (drop n x.a.active)) (code_of x.a) n p t.mid) fits.0 t.first_at)

  pub break_goes : StatementBy z break_statement (Does z self 2 0 (λ x s. execute break_statement (scope x) s))
  break_goes s o g x around active1 p q ok out small t = break_by around.loop s o g x around.exit active1 p q ok out around.fits t.part_at
