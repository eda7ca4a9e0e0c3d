-- The parts of a method call: SELF, then the arguments.
use Rattle.std.proofs.Common.{◌≡◌, ◌≤◌, ◌<◌, ℕ, suc, ◌+◌, inl, inr, List, [], ◌∷◌, length, Option, Some, None, refl, sym, ap, ◌∙◌, subst, arith}
use Rattle.std.specs.Prelude.{slice_get, slice_set}
use Rattle.opcode.specs.declared.op.Op.{Op}
use Rattle.proto.specs.Chunk.{own}
use Rattle.lua_tree.specs.Syntax.{Expression, method_call, Arguments}
use Rattle.lua_num.specs.Bytes.{Text}
use Rattle.scheme.specs.declared.making.Piece.{Piece}
use Rattle.scheme.specs.Expressions.{Want, count_field}
use Rattle.lua_model.specs.Datum.{Datum, text}
use Rattle.lua_model.specs.Store.{Outside}
use Rattle.lua_model.specs.Operators.{index, chain_limit}
use Rattle.source_meaning.specs.State.{State as SourceState, Taken, taken, late}
use Rattle.source_meaning.specs.Programs.{Prog, done, and_then}
use Rattle.source_meaning.specs.Meaning.{arguments, call_parts, perform, read}
use Rattle.rules.specs.State.{State, into, need, register, operand, with_registers, set}
use Rattle.rules.specs.Step.{give}
use Rattle.rules.specs.Run.{Going, after}
use Rattle.scheme_stands.specs.Words.{Spot, WordAt}
use Rattle.scheme_stands.specs.Expressions.{local_at, OperandBy, RkTextAt}
use Rattle.scheme_stands.specs.Lists.{MethodAt, ResultRoom}
use Rattle.scheme_stands.specs.Relation.{related, given_rel}
use Rattle.agrees.proofs.Names.{Resolves, operand_resolves}
use Rattle.agrees.proofs.Operators.{AnswerPost, perform_goes, index_takes}
use Rattle.agrees.proofs.Registers.{ok_high, set_above, high_get}
use Rattle.agrees.proofs.Tasks.{Above, Simulates, scope}
use Rattle.agrees.proofs.Posts.{Keeps, keeps_on, CalledPost, fail_of, InRegister, InOperand, OperandIs}
use Rattle.agrees.proofs.Lists.{get_set, get_set_other, length_set, within, get_within}
use Rattle.agrees.proofs.Accounts.{Now, Soon, Post, Self, Goes, prefix_self, goes_done, goes_soon, goes_from, goes_step, goes_then, goes_weaken}
use Rattle.agrees.proofs.Sizes.{size_e, inner_args, call_cost}
use Rattle.agrees.proofs.Words.{word_abc, sets}
use Rattle.agrees.proofs.Picture.{code_of, Setup, of_cell, Ghost, Site, raised, registers, pic, at, Ok}
use Rattle.agrees.proofs.Operands.{op_keep, op_value, late_goes, text_rk, rk_is}
use Rattle.agrees.proofs.ListOpen.{OpenPost}
use Rattle.agrees.proofs.CallValues.{arguments_goes, called_word}

module _ (z : Setup) (self : Self) (ih : Simulates z self) where
  -- SELF, by any operand that holds the name
  pub self_goes : (x : Site) (k i y pc : ℕ) (base : ℕ) (name : Text) (on : Datum) (s : SourceState) (o : Outside) (g : Ghost) (p q : Spot) → Ok z s g x → base ≡ length x.a.slots + k → suc base < (own x.a.chunk).registers → slice_get (registers s.cells x.a x.high) i ≡ Some on → OperandIs x (slice_set x.high (suc k) on) s y (text name) → WordAt (code_of x.a) (Piece.Abc Op.Self_ base i y) p q → Goes z.bound self (fail_of z x) 1 call_cost o (Now (at s o g x p.pc)) (AnswerPost z (raised x (slice_set x.high (suc k) on)) q.pc (λ m w. set m base w)) (perform (scope x) (index s.store on (text name)) s)
  self_goes x k i y pc base name on s o g p q ok e room there key w =
      let m0 : State = at s o g x p.pc in
      let m1 : State = at s o g x (suc p.pc) in
      let high1 : List Datum = slice_set x.high (suc k) on in
      let x1 : Site = raised x high1 in
      let m2 : State = at s o g x1 (suc p.pc) in
      let l : suc k < length x.high = let r = ok.acts.1 in omega (arith, r, e, room) in
      let old = get_within x.high (suc k) l in
      goes_soon z.bound self (fail_of z x) 0 call_cost o m0 (AnswerPost z x1 q.pc (λ m v. set m base v)) _
      (perform_goes z self ih x1 q.pc (into base) (λ m v. set m base v) (λ m vs. refl) (index s.store on (text name)) (index_takes chain_limit s.store on (text name)) s o g m0 (ok_high z s g x x.high high1 (sym (length_set x.high (suc k) on)) ok) (prefix_self o.events) (inl refl)
      (word_abc x.a Op.Self_ base i y p q m0 w refl refl
      ∙ ap (λ r. after m0 (need r (λ d. need (register m1 (suc base)) (λ old1. need (operand (with_registers m1 (slice_set m1.top.registers (suc base) d)) y) (λ key1. give (with_registers m1 (slice_set m1.top.registers (suc base) d)) base (index s.store d key1)))))) there
      ∙ ap (λ r. after m0 (need r (λ old1. need (operand (with_registers m1 (slice_set m1.top.registers (suc base) on)) y) (λ key1. give (with_registers m1 (slice_set m1.top.registers (suc base) on)) base (index s.store on key1))))) (high_get s.cells x.a x.high (suc base) (suc k) (omega (arith, e)) ∙ old.1)
      ∙ ap (λ rs. after m0 (need (operand (pic s o g x (suc p.pc) rs None) y) (λ key1. give (pic s o g x (suc p.pc) rs None) base (index s.store on key1)))) (set_above s.cells x.a x.high (suc base) (suc k) on (omega (arith, e)))
      ∙ ap (λ r. after m0 (need r (λ key1. give m2 base (index s.store on key1)))) (key m2 refl refl)
      ∙ ap (λ n. after m0 (give (at s o g x1 n) base (index s.store on (text name)))) (sym w.next)))

  -- an operand is a local, or the first free register
  near : (x : Site) (on : Expression) (l : Option ℕ) (k free i free1 : ℕ) (p q : Spot) (high : List Datum) (k1 : ℕ) (v : Taken) → Resolves x on l → free ≡ length x.a.slots + k → OperandBy l (code_of x.a) x.a.active (related (code_of x.a) on) free i free1 p q → InRegister x.a high k1 v i → InRegister x.a high (suc k) v i
  near x on l k free i free1 p q high k1 (late c) res fr w op = op
  near x on (Some r) k free i free1 p q high k1 (taken v) res fr w op =
      let m = within x.a.slots r (of_cell res.0) res.2 in
      let e = w.at_x in let f = op.2 in absurd (omega (arith, m, e, f))
  near x on None k free i free1 p q high k1 (taken v) res fr w op =
      let e = w.at_x in let f = op.2 in (op.0, omega (arith, e, f, fr), op.2, op.3)

  -- a name as an operand is not in the register of the object
  name_kept : (x : Site) (s : SourceState) (g : Ghost) (name : Text) (k free y free2 : ℕ) (p q : Spot) (high : List Datum) (k1 : ℕ) (object : Datum) → Ok z s g (raised x high) → free ≡ length x.a.slots + k → RkTextAt (code_of x.a) name (free + 2) y free2 p q → InOperand x.a high k1 (taken (text name)) y → InOperand x.a (slice_set high (suc k) object) k1 (taken (text name)) y
  name_kept x s g name k free y free2 p q high k1 object ok fr w (inr c) = inr c
  name_kept x s g name k free y free2 p q high k1 object ok fr (inl w) (inl op) =
      let m = within high op.0 (text name) op.3 in
      let e = w.at_x in let f = op.2 in let r = ok.acts.1 in let few = ok.acts.0.limits.registers in absurd (omega (arith, m, e, f, r, few))
  name_kept x s g name k free y free2 p q high k1 object ok fr (inr (large, w)) (inl op) =
      let e = w.at_x in let f = op.2 in
      inl (op.0, op.1, op.2, get_set_other high (suc k) op.0 object (λ i. omega (arith, e, f, fr, i)) ∙ op.3)

  -- from the SELF on
  self_on : (name : Text) (args : Arguments) (s : SourceState) (o : Outside) (g : Ghost) (x : Site) (op : Op) (want : Want) (k free i y : ℕ) (high : List Datum) (object : Datum) (named begun last q : Spot) → Ok z s g (raised x high) → Above x k free → inner_args args ≤ z.bound → free + 2 ≤ (own x.a.chunk).registers → Keeps k x.high high → slice_get (registers s.cells x.a high) i ≡ Some object → OperandIs x (slice_set high (suc k) object) s y (text name) → WordAt (code_of x.a) (Piece.Abc Op.Self_ free i y) named begun → (given_rel (code_of x.a) args).part x.a.active (free + 2) begun last → WordAt (code_of x.a) (Piece.Abc op free (count_field 2 (given_rel (code_of x.a) args).count) (count_field 1 want)) last q → ResultRoom (code_of x.a) free want → Goes z.bound self (fail_of z x) 1 (call_cost + inner_args args) o (Now (at s o g (raised x high) named.pc)) (CalledPost z x k free op want q.pc) (and_then (perform (scope x) (index s.store object (text name)) s) (λ f s2. and_then (arguments args (scope x) s2) (λ vs s3. done (f, object ∷ vs) s3)))
  self_on name args s o g x op want k free i y high object named begun last q ok ab small room kp there key ws wa wc results =
      let P : Post (Datum × List Datum) = CalledPost z x k free op want q.pc in
      let x1 : Site = raised x high in
      let high1 : List Datum = slice_set high (suc k) object in
      let fr = ab.is in
      let size : length high1 ≡ length high = length_set high (suc k) object in
      let many : length x.a.slots + length high ≡ (own x.a.chunk).registers = ok.acts.1 in
      goes_then z.bound self (fail_of z x) 1 call_cost 0 (inner_args args) o (Now (at s o g x1 named.pc)) (AnswerPost z (raised x high1) begun.pc (λ m f. set m free f)) P (perform (scope x) (index s.store object (text name)) s) (λ f s2. and_then (arguments args (scope x) s2) (λ vs s3. done (f, object ∷ vs) s3))
      (self_goes x1 k i y begun.pc free name object s o g named begun ok fr (omega (arith, room)) there key ws)
      (λ f s2 o2 p2 h.
      let high2 : List Datum = slice_set high1 k f in
      let x2 : Site = raised x high2 in
      let old = get_within high1 k (omega (arith, size, many, fr, room)) in
      let m2 : State = at s2 o2 h.g x2 begun.pc in
      let ok2 : Ok z s2 h.g x2 = ok_high z s2 h.g x high1 high2 (sym (length_set high1 k f)) h.ok in
      let kp2 : Keeps k x.high high2 = record { same = length_set high1 k f ∙ size ∙ kp.same; old = λ j l. get_set_other high1 k j f (λ e. omega arith) ∙ get_set_other high (suc k) j object (λ e. omega arith) ∙ kp.old j l } in
      let has_f : slice_get high2 k ≡ Some f = get_set high1 k f (omega (arith, size, many, fr, room)) in
      let has_object : slice_get high2 (suc k) ≡ Some object = get_set_other high1 k (suc k) f (λ e. omega arith) ∙ get_set high (suc k) object (omega (arith, many, fr, room)) in
      goes_from z.bound self (fail_of z x) 0 (inner_args args) o2 p2 (Soon h.m) P (and_then (arguments args (scope x) s2) (λ vs s3. done (f, object ∷ vs) s3)) h.at_m
      (goes_step z.bound self (fail_of z x) 0 (inner_args args) o2 h.m m2 P (and_then (arguments args (scope x) s2) (λ vs s3. done (f, object ∷ vs) s3))
      (h.is
      ∙ ap (after h.m) (sets (at s2 o2 h.g (raised x high1) begun.pc) free f old.0 (high_get s2.cells x.a high1 free k fr ∙ old.1))
      ∙ ap (λ rs. Going (pic s2 o2 h.g x begun.pc rs None)) (set_above s2.cells x.a high1 free k f fr))
      (goes_weaken z.bound self (fail_of z x) 0 (inner_args args + 0) 0 (inner_args args) o2 (Now m2) P (and_then (arguments args (scope x) s2) (λ vs s3. done (f, object ∷ vs) s3)) (omega arith) (omega arith)
      (goes_then z.bound self (fail_of z x) 0 (inner_args args) 0 0 o2 (Now m2) (OpenPost z x2 (given_rel (code_of x.a) args).count (suc (suc k)) (free + 2) last.pc) P (arguments args (scope x) s2) (λ vs s3. done (f, object ∷ vs) s3)
      (arguments_goes z self ih args s2 o2 h.g x2 (suc (suc k)) (free + 2) begun last ok2 (record { is = omega (arith, fr); within = room }) small wa)
      (λ vs s3 o3 p3 c.
      goes_done z.bound self (fail_of z x) 0 0 o3 p3 P (f, object ∷ vs) s3
      (called_word z self ih op want (given_rel (code_of x.a) args).count x high2 s3 o3 k free (free + 2) 2 0 f (object ∷ []) vs p3 last q fr (omega (arith, room)) (omega arith) refl room kp2 has_f (has_object, tt)
      (subst (λ j. OpenPost z x2 (given_rel (code_of x.a) args).count j (free + 2) last.pc vs s3 o3 p3) (let e : suc (suc k) ≡ suc k + 1 = omega arith in e) c) wc results))))))

  pub method_parts_goes : (line on_line : ℕ) (on : Expression) (name : Text) (args : Arguments) (s : SourceState) (o : Outside) (g : Ghost) (x : Site) (op : Op) (want : Want) (k free : ℕ) (p q : Spot) → Ok z s g x → Above x k free → size_e on + (call_cost + inner_args args) ≤ z.bound → MethodAt (code_of x.a) (related (code_of x.a) on) name (given_rel (code_of x.a) args) x.a.active free op want p q → Goes z.bound self (fail_of z x) 2 (size_e on + (call_cost + inner_args args)) o (Now (at s o g x p.pc)) (CalledPost z x k free op want q.pc) (call_parts (method_call line on name args on_line) (scope x) s)
  method_parts_goes line on_line on name args s o g x op want k free p q ok ab small w =
      let P : Post (Datum × List Datum) = CalledPost z x k free op want q.pc in
      let go : Taken → SourceState → Prog (Datum × List Datum) = λ v s1. and_then (perform (scope x) (index s1.store (read v s1) (text name)) s1) (λ f s2. and_then (arguments args (scope x) s2) (λ vs s3. done (f, read v s1 ∷ vs) s3)) in
      late_goes z self ih on s o g x k free w.x w.free1 p w.mid 2 (call_cost + inner_args args) P go ok ab.is (omega arith) w.on_at
      (λ v s1 o1 g1 h1 d1 f1.
      let object : Datum = read v s1 in
      let op1 : InRegister x.a h1 (suc k) v w.x = near x on (local_at (related (code_of x.a) on).form x.a.active p) k free w.x w.free1 p w.mid h1 d1.k1 v (operand_resolves z s g x ok on free w.x w.free1 p w.mid w.on_at) ab.is w.on_at d1.holds in
      text_rk z self ih name s1 o1 g1 (raised x h1) (suc (suc k)) (free + 2) w.y w.free2 w.mid w.named 1 (call_cost + inner_args args) P (go v s1) d1.ok (let e = ab.is in omega (arith, e)) w.name_at
      (λ h2 d2.
      self_on name args s1 o1 g1 x op want k free w.x w.y h2 object w.named w.begun w.last q d2.ok ab (omega arith) w.room (keeps_on k (suc (suc k)) x.high h1 h2 (omega arith) d1.keeps (record { same = d2.keeps.same; old = d2.keeps.old }))
      (op_value s1 x.a h2 (suc k) v w.x (op_keep x.a h1 h2 (suc k) (suc k) v w.x (omega arith) (record { same = d2.keeps.same; old = λ j l. d2.keeps.old j (omega arith) }) op1))
      (rk_is z s1 g1 x (slice_set h2 (suc k) object) d2.k1 (taken (text name)) w.y (ok_high z s1 g1 x h2 (slice_set h2 (suc k) object) (sym (length_set h2 (suc k) object)) d2.ok) (name_kept x s1 g1 name k free w.y w.free2 w.mid w.named h2 d2.k1 object d2.ok ab.is w.name_at d2.holds))
      w.self_at w.given_at w.word w.results))
