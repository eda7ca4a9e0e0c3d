-- `and` and `or` as values: TEST or TESTSET of the left side, and the right one.
use Rattle.std.proofs.Common.{◌≡◌, ◌≤◌, ◌<◌, ◌==◌, ℕ, suc, ◌+◌, Bool, true, false, not, inl, inr, List, [], ◌∷◌, length, Option, Some, None, refl, sym, ap, ◌∙◌, subst, arith}
use Rattle.std.specs.Prelude.{slice_get, slice_set, if◌then◌else◌}
use Rattle.opcode.specs.declared.op.Op.{Op}
use Rattle.opcode.specs.Word.{truth_field}
use Rattle.proto.specs.Chunk.{own}
use Rattle.lua_tree.specs.Syntax.{Expression, and_expression, or_expression}
use Rattle.scheme.specs.declared.making.Piece.{Piece}
use Rattle.lua_model.specs.Datum.{Datum, first_of, is_true}
use Rattle.lua_model.specs.Store.{Outside}
use Rattle.source_meaning.specs.State.{State as SourceState, Place as Scope, cell}
use Rattle.source_meaning.specs.Tasks.{expression}
use Rattle.source_meaning.specs.Programs.{Prog}
use Rattle.source_meaning.specs.Meaning.{with_value, one, evaluate}
use Rattle.rules.specs.State.{State, Effect, need, register, with_registers}
use Rattle.rules.specs.Calls.{branch}
use Rattle.rules.specs.Places.{jmp_at}
use Rattle.rules.specs.Run.{step, after}
use Rattle.scheme_stands.specs.Words.{Spot, WordAt}
use Rattle.scheme_stands.specs.Expressions.{HereAt, DecideBy, LogicAt, local_at}
use Rattle.scheme_stands.specs.Relation.{related}
use Rattle.agrees.proofs.PictureChanges.{top_register}
use Rattle.agrees.proofs.Names.{Resolves, decided_resolves, bare_passed}
use Rattle.agrees.proofs.NextRegister.{next_reg, value_from, value_here, moves}
use Rattle.agrees.proofs.Registers.{high_get, room_for}
use Rattle.agrees.proofs.Tasks.{Above, Simulates, scope}
use Rattle.agrees.proofs.Posts.{Keeps, ValuePost, fail_of, keeps_self}
use Rattle.agrees.proofs.Accounts.{Now, Self, Goes, goes_done, goes_word, goes_ask, goes_more, goes_weaken, goes_staying}
use Rattle.agrees.proofs.Sizes.{size_e, inner}
use Rattle.agrees.proofs.Words.{word_abc}
use Rattle.agrees.proofs.Picture.{code_of, Setup, Ghost, Site, raised, registers, pic, at, Ok, of_cell}
use Rattle.agrees.proofs.LoopGeneric.{jmp_there, branches_on, branches_past}
use Rattle.agrees.proofs.ValueWords.{value_of_expr}

-- what follows the left value, by its truth; false decides an `and`, true an `or`
abbrev pub second : Bool → Scope → Expression → Datum → SourceState → Bool → Prog (List Datum)
second false here right v s t = elim t [ true ↦ with_value here right s one | false ↦ one v s ]
second true here right v s t = elim t [ true ↦ one v s | false ↦ with_value here right s one ]

abbrev decided : Bool → Bool → Bool
decided true t = t
decided false true = false
decided false false = true

test_is : (d t : Bool) → not (truth_field (not t) == truth_field d) ≡ decided d t
test_is true true = refl
test_is true false = refl
test_is false true = refl
test_is false false = refl

set_is : (d t : Bool) → (truth_field (not t) == truth_field d) ≡ not (decided d t)
set_is true true = refl
set_is true false = refl
set_is false true = refl
set_is false false = refl

second_stays : (d : Bool) (here : Scope) (right : Expression) (v : Datum) (s : SourceState) (t : Bool) → decided d t ≡ true → second d here right v s t ≡ one v s
second_stays true here right v s true e = refl
second_stays false here right v s false e = refl
second_stays true here right v s false e = cc
second_stays false here right v s true e = cc

second_goes : (d : Bool) (here : Scope) (right : Expression) (v : Datum) (s : SourceState) (t : Bool) → decided d t ≡ false → second d here right v s t ≡ with_value here right s one
second_goes true here right v s false e = refl
second_goes false here right v s true e = refl
second_goes true here right v s true e = cc
second_goes false here right v s false e = cc

module _ (z : Setup) (self : Self) (ih : Simulates z self) where
  -- the right side, which is the value
  right_goes : (right : Expression) (s : SourceState) (o : Outside) (g : Ghost) (x : Site) (k free : ℕ) (high1 : List Datum) (on q : Spot) → Keeps k x.high high1 → Ok z s g (raised x high1) → free ≡ length x.a.slots + k → free < (own x.a.chunk).registers → size_e right ≤ z.bound → (related (code_of x.a) right).to_reg x.a.active free free on q → Goes z.bound self (fail_of z x) 0 (size_e right + 0) o (Now (at s o g (raised x high1) on.pc)) (ValuePost z x k free q.pc) (with_value (scope x) right s one)
  right_goes right s o g x k free high1 on q kp ok fr room small w =
      goes_ask z.bound self (fail_of z x) (size_e right) 0 0 o (Now (at s o g (raised x high1) on.pc)) (expression (scope x) right) s (ValuePost z (raised x high1) k free q.pc) (ValuePost z x k free q.pc) _
      (value_of_expr z self ih right s o g (raised x high1) k free free on q ok (record { is = fr; within = omega (arith, room) }) small room w)
      (λ vs s1 o1 p1 h. goes_done z.bound self (fail_of z x) 0 0 o1 p1 (ValuePost z x k free q.pc) (first_of vs ∷ []) s1
      (value_from z x high1 k k free q.pc (first_of vs ∷ []) s1 o1 p1 (omega arith) kp (record { g = h.g; high = h.high; keeps = h.keeps; is = h.is; ok = h.ok })))

  -- behind the left value in the next register: TEST
  tested : (d : Bool) (right : Expression) (v : Datum) (s : SourceState) (o : Outside) (g : Ghost) (x : Site) (k free : ℕ) (high1 : List Datum) (a mid on q : Spot) → Keeps k x.high high1 → Ok z s g (raised x high1) → free ≡ length x.a.slots + k → free < (own x.a.chunk).registers → size_e right ≤ z.bound → slice_get high1 k ≡ Some v → WordAt (code_of x.a) (Piece.Abc Op.Test free 0 (truth_field d)) a mid → WordAt (code_of x.a) (Piece.Jump Op.Jmp 0 q.pc) mid on → (related (code_of x.a) right).to_reg x.a.active free free on q → Goes z.bound self (fail_of z x) 1 (size_e right + 0) o (Now (at s o g (raised x high1) a.pc)) (ValuePost z x k free q.pc) (second d (scope x) right v s (is_true v))
  tested d right v s o g x k free high1 a mid on q kp ok fr room small there w jump wr = by (decided d (is_true v)) refl
    where
      m0 : State
      m0 = at s o g (raised x high1) a.pc

      m1 : State
      m1 = at s o g (raised x high1) (suc a.pc)

      word : step m0 ≡ after m0 (branch m1 (decided d (is_true v)))
      word =
          word_abc x.a Op.Test free 0 (truth_field d) a mid m0 w refl refl
          ∙ ap (λ y. after m0 (need y (λ u. branch m1 (not (truth_field (not (is_true u)) == truth_field d))))) (high_get s.cells x.a high1 free k fr ∙ there)
          ∙ ap (λ b. after m0 (branch m1 b)) (test_is d (is_true v))

      by : (b : Bool) → decided d (is_true v) ≡ b → Goes z.bound self (fail_of z x) 1 (size_e right + 0) o (Now m0) (ValuePost z x k free q.pc) (second d (scope x) right v s (is_true v))
      by true e =
          subst (λ prog. Goes z.bound self (fail_of z x) 1 (size_e right + 0) o (Now m0) (ValuePost z x k free q.pc) prog) (sym (second_stays d (scope x) right v s (is_true v) e))
          (goes_word z.bound self (fail_of z x) 0 (size_e right + 0) o m0 (at s o g (raised x high1) q.pc) (ValuePost z x k free q.pc) (one v s)
          (word ∙ ap (λ b. after m0 (branch m1 b)) e ∙ ap (after m0) (branches_on m1 x.a q.pc mid on jump refl (sym w.next)))
          (goes_done z.bound self (fail_of z x) 0 (size_e right + 0) o _ (ValuePost z x k free q.pc) (v ∷ []) s (value_here z x k free q.pc (v ∷ []) s o g high1 fr kp ok there)))
      by false e =
          subst (λ prog. Goes z.bound self (fail_of z x) 1 (size_e right + 0) o (Now m0) (ValuePost z x k free q.pc) prog) (sym (second_goes d (scope x) right v s (is_true v) e))
          (goes_word z.bound self (fail_of z x) 0 (size_e right + 0) o m0 (at s o g (raised x high1) on.pc) (ValuePost z x k free q.pc) (with_value (scope x) right s one)
          (word ∙ ap (λ b. after m0 (branch m1 b)) e ∙ ap (after m0) (branches_past m1 x.a q.pc mid on jump refl (sym w.next)))
          (right_goes right s o g x k free high1 on q kp ok fr room small wr))

  -- behind a left local: TESTSET
  tested_set : (d : Bool) (right : Expression) (v : Datum) (s : SourceState) (o : Outside) (g : Ghost) (x : Site) (k free i : ℕ) (high1 : List Datum) (a mid on q : Spot) → Keeps k x.high high1 → Ok z s g (raised x high1) → free ≡ length x.a.slots + k → free < (own x.a.chunk).registers → size_e right ≤ z.bound → slice_get (registers s.cells x.a high1) i ≡ Some v → WordAt (code_of x.a) (Piece.Abc Op.TestSet free i (truth_field d)) a mid → WordAt (code_of x.a) (Piece.Jump Op.Jmp 0 q.pc) mid on → (related (code_of x.a) right).to_reg x.a.active free free on q → Goes z.bound self (fail_of z x) 1 (size_e right + 0) o (Now (at s o g (raised x high1) a.pc)) (ValuePost z x k free q.pc) (second d (scope x) right v s (is_true v))
  tested_set d right v s o g x k free i high1 a mid on q kp ok fr room small there w jump wr = by (decided d (is_true v)) refl
    where
      m0 : State
      m0 = at s o g (raised x high1) a.pc

      m1 : State
      m1 = at s o g (raised x high1) (suc a.pc)

      set_m : State
      set_m = pic s o g (raised x high1) (suc a.pc) (slice_set (registers s.cells x.a high1) free v) None

      way : Bool → Effect
      way b = if b then branch m1 false else need (register m1 free) (λ old. branch set_m true)

      word : step m0 ≡ after m0 (way (not (decided d (is_true v))))
      word =
          word_abc x.a Op.TestSet free i (truth_field d) a mid m0 w refl refl
          ∙ ap (λ y. after m0 (need y (λ dist. need (register m1 i) (λ u. if truth_field (not (is_true u)) == truth_field d then branch m1 false else need (register m1 free) (λ old. branch (with_registers m1 (slice_set m1.top.registers free u)) true))))) (ap (jmp_at x.a.chunk) (sym w.next) ∙ jmp_there x.a q.pc mid on jump)
          ∙ ap (λ y. after m0 (need y (λ u. if truth_field (not (is_true u)) == truth_field d then branch m1 false else need (register m1 free) (λ old. branch (with_registers m1 (slice_set m1.top.registers free u)) true)))) there
          ∙ ap (λ b. after m0 (way b)) (set_is d (is_true v))

      by : (b : Bool) → decided d (is_true v) ≡ b → Goes z.bound self (fail_of z x) 1 (size_e right + 0) o (Now m0) (ValuePost z x k free q.pc) (second d (scope x) right v s (is_true v))
      by true e =
          let old = room_for z s g (raised x high1) free ok room in
          subst (λ prog. Goes z.bound self (fail_of z x) 1 (size_e right + 0) o (Now m0) (ValuePost z x k free q.pc) prog) (sym (second_stays d (scope x) right v s (is_true v) e))
          (goes_word z.bound self (fail_of z x) 0 (size_e right + 0) o m0 (pic s o g (raised x high1) q.pc (slice_set (registers s.cells x.a high1) free v) None) (ValuePost z x k free q.pc) (one v s)
          (word ∙ ap (λ b. after m0 (way (not b))) e ∙ ap (λ y. after m0 (need y (λ u. branch set_m true))) old.1 ∙ ap (after m0) (branches_on set_m x.a q.pc mid on jump refl (sym w.next)))
          (goes_done z.bound self (fail_of z x) 0 (size_e right + 0) o _ (ValuePost z x k free q.pc) (v ∷ []) s (record { g = g; high = high1; keeps = kp; is = refl; ok = ok })))
      by false e =
          subst (λ prog. Goes z.bound self (fail_of z x) 1 (size_e right + 0) o (Now m0) (ValuePost z x k free q.pc) prog) (sym (second_goes d (scope x) right v s (is_true v) e))
          (goes_word z.bound self (fail_of z x) 0 (size_e right + 0) o m0 (at s o g (raised x high1) on.pc) (ValuePost z x k free q.pc) (with_value (scope x) right s one)
          (word ∙ ap (λ b. after m0 (way (not b))) e ∙ ap (after m0) (branches_past m1 x.a q.pc mid on jump refl (sym w.next)))
          (right_goes right s o g x k free high1 on q kp ok fr room small wr))

  here_goes : (d : Bool) (left right : Expression) (s : SourceState) (o : Outside) (g : Ghost) (x : Site) (k free : ℕ) (p q : Spot) → Ok z s g x → free ≡ length x.a.slots + k → free < (own x.a.chunk).registers → size_e left ≤ z.bound → size_e right ≤ z.bound → HereAt (code_of x.a) d (related (code_of x.a) left) (related (code_of x.a) right) x.a.active free free p q → Goes z.bound self (fail_of z x) 1 (size_e left + (size_e right + 0)) o (Now (at s o g x p.pc)) (ValuePost z x k free q.pc) (with_value (scope x) left s (λ v s1. second d (scope x) right v s1 (is_true v)))
  here_goes d left right s o g x k free p q ok fr room small_l small_r w = by (local_at (related (code_of x.a) left).form x.a.active p) (decided_resolves z s g x ok d left free free p w.mid w.decide) w.decide
    where
      by : (l : Option ℕ) → Resolves x left l → DecideBy l (code_of x.a) d (related (code_of x.a) left) x.a.active free free p w.mid → Goes z.bound self (fail_of z x) 1 (size_e left + (size_e right + 0)) o (Now (at s o g x p.pc)) (ValuePost z x k free q.pc) (with_value (scope x) left s (λ v s1. second d (scope x) right v s1 (is_true v)))
      by None res t =
          next_reg z self ih left s o g x k free p t.mid 1 (size_e right + 0) (ValuePost z x k free q.pc) (λ v s1. second d (scope x) right v s1 (is_true v)) ok fr small_l room t.first_at
          (λ v s1 o1 g1 high1 kp ok1 there. tested d right v s1 o1 g1 x k free high1 t.mid w.mid w.on q kp ok1 fr room small_r there t.second_at w.jump w.second)
      by (Some i) res t =
          goes_staying z.bound self (fail_of z x) 1 (size_e left) (size_e right + 0) o (Now (at s o g x p.pc)) (expression (scope x) left) s (cell s res.0 ∷ []) (ValuePost z x k free q.pc) (λ vs s1. second d (scope x) right (first_of vs) s1 (is_true (first_of vs))) (ih.bare left res.0 s o x (Now (at s o g x p.pc)) res.1 refl)
          (subst (λ pc. Goes z.bound self (fail_of z x) 1 (size_e right + 0) o (Now (at s o g x pc)) (ValuePost z x k free q.pc) (second d (scope x) right (cell s res.0) s (is_true (cell s res.0)))) (bare_passed (code_of x.a) left x.a.active p t.mid t.first_at).pc
          (tested_set d right (cell s res.0) s o g x k free i x.high t.mid w.mid w.on q (keeps_self k x.high) ok fr room small_r (top_register s.cells x.a x.high i (of_cell res.0) res.2) t.second_at w.jump w.second))

  -- in the register that is wanted, or by the next one
  logic_goes : (d : Bool) (left right : Expression) (s : SourceState) (o : Outside) (g : Ghost) (x : Site) (k free r : ℕ) (p q : Spot) → Ok z s g x → Above x k free → size_e left ≤ z.bound → size_e right ≤ z.bound → r < (own x.a.chunk).registers → LogicAt (code_of x.a) d (related (code_of x.a) left) (related (code_of x.a) right) x.a.active free r p q → Goes z.bound self (fail_of z x) 2 (size_e left + (size_e right + 0)) o (Now (at s o g x p.pc)) (ValuePost z x k r q.pc) (with_value (scope x) left s (λ v s1. second d (scope x) right v s1 (is_true v)))
  logic_goes d left right s o g x k free r p q ok fr small_l small_r lr (inl h) =
      goes_weaken z.bound self (fail_of z x) 1 (size_e left + (size_e right + 0)) 2 (size_e left + (size_e right + 0)) o (Now (at s o g x p.pc)) (ValuePost z x k r q.pc) _ (omega arith) (omega arith)
      (subst (λ i. Goes z.bound self (fail_of z x) 1 (size_e left + (size_e right + 0)) o (Now (at s o g x p.pc)) (ValuePost z x k i q.pc) (with_value (scope x) left s (λ v s1. second d (scope x) right v s1 (is_true v)))) (sym h.0)
      (here_goes d left right s o g x k free p q ok fr.is (subst (λ i. i < (own x.a.chunk).registers) h.0 lr) small_l small_r (subst (λ i. HereAt (code_of x.a) d (related (code_of x.a) left) (related (code_of x.a) right) x.a.active free i p q) h.0 h.1)))
  logic_goes d left right s o g x k free r p q ok fr small_l small_r lr (inr h) =
      goes_more z.bound self (fail_of z x) 1 1 (size_e left + (size_e right + 0)) o (Now (at s o g x p.pc)) (ValuePost z x k free h.value.mid.pc) (ValuePost z x k r q.pc) _
      (here_goes d left right s o g x k free p h.value.mid ok fr.is h.room small_l small_r h.value.first_at)
      (λ vs s1 o1 p1 e t. moves z x k free r vs s1 o1 p1 h.value.mid q fr.is h.room lr e h.value.second_at t)

  pub and_goes : (line : ℕ) (left right : Expression) (s : SourceState) (o : Outside) (g : Ghost) (x : Site) (k free r : ℕ) (p q : Spot) → Ok z s g x → Above x k free → inner (and_expression line left right) ≤ z.bound → r < (own x.a.chunk).registers → (related (code_of x.a) (and_expression line left right)).to_reg x.a.active free r p q → Goes z.bound self (fail_of z x) 2 (inner (and_expression line left right)) o (Now (at s o g x p.pc)) (ValuePost z x k r q.pc) (evaluate (and_expression line left right) (scope x) s)
  and_goes line left right s o g x k free r p q ok fr small lr w =
      goes_weaken z.bound self (fail_of z x) 2 (size_e left + (size_e right + 0)) 2 (inner (and_expression line left right)) o (Now (at s o g x p.pc)) (ValuePost z x k r q.pc) _ (omega arith) (omega arith)
      (logic_goes false left right s o g x k free r p q ok fr (omega (arith, small)) (omega (arith, small)) lr w)

  pub or_goes : (line : ℕ) (left right : Expression) (s : SourceState) (o : Outside) (g : Ghost) (x : Site) (k free r : ℕ) (p q : Spot) → Ok z s g x → Above x k free → inner (or_expression line left right) ≤ z.bound → r < (own x.a.chunk).registers → (related (code_of x.a) (or_expression line left right)).to_reg x.a.active free r p q → Goes z.bound self (fail_of z x) 2 (inner (or_expression line left right)) o (Now (at s o g x p.pc)) (ValuePost z x k r q.pc) (evaluate (or_expression line left right) (scope x) s)
  or_goes line left right s o g x k free r p q ok fr small lr w =
      goes_weaken z.bound self (fail_of z x) 2 (size_e left + (size_e right + 0)) 2 (inner (or_expression line left right)) o (Now (at s o g x p.pc)) (ValuePost z x k r q.pc) _ (omega arith) (omega arith)
      (logic_goes true left right s o g x k free r p q ok fr (omega (arith, small)) (omega (arith, small)) lr w)
