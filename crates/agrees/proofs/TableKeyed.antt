-- An item of a constructor with a name or a key: SETTABLE.
use Rattle.std.proofs.Common.{◌≡◌, ◌≤◌, ◌<◌, ℕ, suc, ◌+◌, List, length, Some, refl, ◌∙◌, arith}
use Rattle.std.specs.Prelude.{slice_get}
use Rattle.opcode.specs.declared.op.Op.{Op}
use Rattle.lua_num.specs.Bytes.{Text}
use Rattle.lua_tree.specs.Syntax.{Expression}
use Rattle.scheme.specs.declared.making.Piece.{Piece}
use Rattle.lua_model.specs.Datum.{Datum, text, table}
use Rattle.lua_model.specs.Store.{Outside}
use Rattle.source_meaning.specs.State.{State as SourceState, taken}
use Rattle.source_meaning.specs.Tasks.{named_item, keyed_item}
use Rattle.source_meaning.specs.Meaning.{write, read, with_value, with_late}
use Rattle.scheme_stands.specs.Words.{Spot, WordAt}
use Rattle.scheme_stands.specs.Expressions.{RkTextAt, RkAt}
use Rattle.scheme_stands.specs.Lists.{KeyedAt}
use Rattle.scheme_stands.specs.Relation.{related}
use Rattle.agrees.proofs.AssignWords.{table_goes, StoredPost, stored_on}
use Rattle.agrees.proofs.Operands.{rk_keep, rk_is, value_rk, text_rk, two_goes}
use Rattle.agrees.proofs.Registers.{high_get}
use Rattle.agrees.proofs.Tasks.{Simulates, scope, tasked}
use Rattle.agrees.proofs.Posts.{Keeps, keeps_on, AtPost, fail_of, OperandIs}
use Rattle.agrees.proofs.Accounts.{Now, Self, Asks, Goes, goes_weaken, by_tick, goes_post}
use Rattle.agrees.proofs.Sizes.{size_e, call_cost}
use Rattle.agrees.proofs.Picture.{code_of, Setup, Ghost, Site, raised, at, Ok}

module _ (z : Setup) (self : Self) (ih : Simulates z self) where
  -- a table's register, a key and a value: SETTABLE
  set_step : (x : Site) (k kk tb t i j : ℕ) (key v : Datum) (p q : Spot) (s : SourceState) (o : Outside) (g : Ghost) (high1 : List Datum) → Ok z s g (raised x high1) → Keeps kk x.high high1 → k < kk → t ≡ length x.a.slots + k → slice_get x.high k ≡ Some (table tb) → OperandIs x high1 s i key → OperandIs x high1 s j v → WordAt (code_of x.a) (Piece.Abc Op.SetTable t i j) p q → Goes z.bound self (fail_of z x) 1 (call_cost + 0) o (Now (at s o g (raised x high1) p.pc)) (λ u. AtPost z x kk q.pc) (write (scope x) (table tb) key v s)
  set_step x k kk tb t i j key v p q s o g high1 ok kp l et there at_i at_j w =
      goes_weaken z.bound self (fail_of z x) 1 call_cost 1 (call_cost + 0) o (Now (at s o g (raised x high1) p.pc)) (λ u. AtPost z x kk q.pc) _ (omega arith) (omega arith)
      (goes_post z.bound self (fail_of z x) 1 call_cost o (Now (at s o g (raised x high1) p.pc)) (StoredPost z (raised x high1) kk q.pc) (StoredPost z x kk q.pc) (write (scope x) (table tb) key v s)
      (λ u s1 o1 p1 h. stored_on z x kk kk q.pc high1 u s1 o1 p1 (omega arith) kp h)
      (table_goes z self ih (raised x high1) kk t i j (table tb) key v s o g p q ok (high_get s.cells x.a high1 t k et ∙ kp.old k l ∙ there) at_i at_j w))

  -- an item with a name
  pub named_goes : (tb : ℕ) (name : Text) (e : Expression) (s : SourceState) (o : Outside) (g : Ghost) (x : Site) (k t pending : ℕ) (p q : Spot) → Ok z s g x → t ≡ length x.a.slots + k → size_e e + call_cost ≤ z.bound → slice_get x.high k ≡ Some (table tb) → (w : KeyedAt (code_of x.a) (RkTextAt (code_of x.a) name) (related (code_of x.a) e) x.a.active t pending p q) → Asks z.bound 0 (suc (size_e e + call_cost)) o (Now (at s o g x p.pc)) (fail_of z x) (λ u. AtPost z x (suc k + pending) q.pc) (tasked self (named_item (scope x) tb name e) s)
  named_goes tb name e s o g x k t pending p q ok et small there w =
      by_tick z.bound self (fail_of z x) 0 2 (size_e e + call_cost) o (Now (at s o g x p.pc)) (λ u. AtPost z x (suc k + pending) q.pc) (with_value (scope x) e s (λ v s1. write (scope x) (table tb) (text name) v s1)) refl (omega arith)
      (goes_weaken z.bound self (fail_of z x) 2 (size_e e + (call_cost + 0)) 2 (size_e e + call_cost) o (Now (at s o g x p.pc)) (λ u. AtPost z x (suc k + pending) q.pc) _ (omega arith) (omega arith)
      (text_rk z self ih name s o g x (suc k + pending) (t + suc pending) w.x w.free1 p w.mid 1 (size_e e + (call_cost + 0)) (λ u. AtPost z x (suc k + pending) q.pc) _ ok (omega (arith, et)) w.left_at
      (λ h1 d1.
      value_rk z self ih e s o g (raised x h1) d1.k1 w.free1 w.y w.free2 w.mid w.last 1 (call_cost + 0) (λ u. AtPost z x (suc k + pending) q.pc) _ d1.ok d1.at_free (omega (arith, small)) w.right_at
      (λ v s2 o2 g2 h2 kp2 ok2 there2.
      set_step x k (suc k + pending) tb t w.x w.y (text name) v w.last q s2 o2 g2 h2 ok2 (keeps_on (suc k + pending) d1.k1 x.high h1 h2 d1.more d1.keeps kp2) (omega arith) et there
      (rk_is z s2 g2 x h2 d1.k1 (taken (text name)) w.x ok2 (rk_keep x.a h1 h2 d1.k1 d1.k1 (taken (text name)) w.x (omega arith) kp2 d1.holds)) there2 w.words_at))))

  -- an item with a key: a local is read when the item is stored
  pub keyed_goes : (tb : ℕ) (key e : Expression) (s : SourceState) (o : Outside) (g : Ghost) (x : Site) (k t pending : ℕ) (p q : Spot) → Ok z s g x → t ≡ length x.a.slots + k → size_e key + (size_e e + call_cost) ≤ z.bound → slice_get x.high k ≡ Some (table tb) → (w : KeyedAt (code_of x.a) (RkAt (code_of x.a) x.a.active (related (code_of x.a) key)) (related (code_of x.a) e) x.a.active t pending p q) → Asks z.bound 0 (suc (size_e key + (size_e e + call_cost))) o (Now (at s o g x p.pc)) (fail_of z x) (λ u. AtPost z x (suc k + pending) q.pc) (tasked self (keyed_item (scope x) tb key e) s)
  keyed_goes tb key e s o g x k t pending p q ok et small there w =
      by_tick z.bound self (fail_of z x) 0 1 (size_e key + (size_e e + call_cost)) o (Now (at s o g x p.pc)) (λ u. AtPost z x (suc k + pending) q.pc) (with_late (scope x) key s (λ kv s1. with_value (scope x) e s1 (λ v s2. write (scope x) (table tb) (read kv s2) v s2))) refl (omega arith)
      (goes_weaken z.bound self (fail_of z x) 1 (size_e key + (size_e e + (call_cost + 0))) 1 (size_e key + (size_e e + call_cost)) o (Now (at s o g x p.pc)) (λ u. AtPost z x (suc k + pending) q.pc) _ (omega arith) (omega arith)
      (two_goes z self ih key e s o g x (suc k + pending) (t + suc pending) p q _ 1 (call_cost + 0) (λ u. AtPost z x (suc k + pending) q.pc) (λ a v s1. write (scope x) (table tb) a v s1) ok (omega (arith, et)) (omega (arith, small)) (omega (arith, small)) w
      (λ a v s1 o1 g1 h1 kp1 ok1 at_x at_y. set_step x k (suc k + pending) tb t w.x w.y a v w.last q s1 o1 g1 h1 ok1 kp1 (omega arith) et there at_x at_y w.words_at)))
