-- The statement of an assignment: targets, copies, right sides and stores, and that there are registers for them.
use Rattle.std.proofs.Common.{◌≡◌, ◌≤◌, ◌<◌, ℕ, zero, suc, ◌+◌, ◌*◌, ◌==◌, Bool, true, false, inl, inr, List, [], ◌∷◌, length, Option, Some, None, refl, sym, ap, ◌∙◌, subst, arith}
use Rattle.std.specs.Prelude.{slice_set}
use Rattle.std.proofs.lemmas.Bool.Decides.{nat_tests}
use Rattle.opcode.specs.declared.op.Op.{Op}
use Rattle.proto.specs.Chunk.{own}
use Rattle.lua_tree.specs.Syntax as syntax
use Rattle.lua_tree.specs.Syntax.{Expressions, no_expressions, Expression, assignment, name_expression, index_expression, field_expression}
use Rattle.lua_num.specs.Bytes.{Text}
use Rattle.proto.specs.declared.parts.Constant.{Constant}
use Rattle.scheme.specs.declared.making.Active.{Active}
use Rattle.scheme.specs.Expressions as scheme
use Rattle.scheme.specs.Statements.{clashes}
use Rattle.lua_model.specs.Datum.{Datum}
use Rattle.lua_model.specs.Store.{Outside}
use Rattle.source_meaning.specs.State.{State as SourceState, Target, to_cell, to_global, to_entry, goes}
use Rattle.source_meaning.specs.Programs.{Prog, and_then}
use Rattle.source_meaning.specs.Meaning.{execute, items, assign, with_copies, store_each, goes_on_at}
use Rattle.rules.specs.State.{State, need, set}
use Rattle.rules.specs.Run.{Going, after as run_after}
use Rattle.scheme_stands.specs.Words.{Fn, Spot}
use Rattle.scheme_stands.specs.Expressions.{Rel, local_at, OperandBy, RkBy, RkTextAt}
use Rattle.scheme_stands.specs.Statements.{TargetsAt, CopiesAt, CopyBy, StoresBy, AssignAt}
use Rattle.scheme_stands.specs.Relation.{related, all_related}
use Rattle.agrees.proofs.LocalsBegin.{stays_on}
use Rattle.agrees.proofs.Registers.{ok_high, set_above, high_get, all_above}
use Rattle.agrees.proofs.Tasks.{Simulates, scope, StatementBy, Does}
use Rattle.agrees.proofs.Posts.{Keeps, keeps_self, keeps_on, ListPost, FlowPost, fail_of, AllStand, Pushed}
use Rattle.agrees.proofs.Lists.{some_same, get_within, get_set, get_set_other, length_set}
use Rattle.agrees.proofs.Accounts.{Now, Post, Self, Goes, goes_done, goes_from, goes_then, goes_post, goes_weaken, goes_word}
use Rattle.agrees.proofs.Sizes.{inner_list, inner_targets, inner_statement, call_cost}
use Rattle.agrees.proofs.Words.{word_abc, sets}
use Rattle.agrees.proofs.Picture.{code_of, Setup, of_cell, Act, Ghost, Site, raised, slot_value, pic, at, Ok, Apart}
use Rattle.agrees.proofs.PictureChanges.{top_register}
use Rattle.agrees.proofs.ListOpen.{count, count_is, adjust_goes}
use Rattle.agrees.proofs.AssignWords.{StoredPost}
use Rattle.agrees.proofs.AssignStores.{all_stand_keep}
use Rattle.agrees.proofs.AssignTargets.{tsize, tsize_is}
use Rattle.agrees.proofs.AssignEach.{targets_goes, each_goes, from_goes}
use Rattle.agrees.proofs.AssignCopies.{one_if, clash_count, few_copies, AllMoved, all_start, all_stay, all_copy, all_end}

all_length : (a : Act) (high : List Datum) (k : ℕ) (ts : List Target) (ds : List scheme.Target) → AllStand a high k ts ds → length ds ≡ length ts
all_length a high k [] [] st = refl
all_length a high k [] (d ∷ ds) st = absurd st
all_length a high k (t ∷ ts) [] st = absurd st
all_length a high k (t ∷ ts) (d ∷ ds) st = ap suc (all_length a high k ts ds st.1)

length_with : (ts : List Target) (s : SourceState) → length (with_copies ts s) ≡ length ts
length_with [] s = refl
length_with (to_cell c ∷ ts) s = ap suc (length_with ts s)
length_with (to_global c ∷ ts) s = ap suc (length_with ts s)
length_with (to_entry on key ∷ ts) s = ap suc (length_with ts s)

-- ## there are registers

operand_room : (f : Fn) (l : Option ℕ) (active : List Active) (c : Rel) (free i free1 : ℕ) (p q : Spot) → OperandBy l f active c free i free1 p q → free ≤ f.size → free1 ≤ f.size
operand_room f (Some r) active c free i free1 p q w l = let e = w.at_free in omega (arith, e, l)
operand_room f None active c free i free1 p q w l = let e = w.at_free in let r = w.room in omega (arith, e, r)

rk_room : (f : Fn) (lit : Option Constant) (active : List Active) (c : Rel) (free i free1 : ℕ) (p q : Spot) → RkBy lit f active c free i free1 p q → free ≤ f.size → free1 ≤ f.size
rk_room f None active c free i free1 p q w l = operand_room f (local_at c.form active p) active c free i free1 p q w l
rk_room f (Some k) active c free i free1 p q (inl w) l = let e = w.at_free in omega (arith, e, l)
rk_room f (Some k) active c free i free1 p q (inr (large, w)) l = operand_room f (local_at c.form active p) active c free i free1 p q w l

text_room : (f : Fn) (name : Text) (free i free1 : ℕ) (p q : Spot) → RkTextAt f name free i free1 p q → free ≤ f.size → free1 ≤ f.size
text_room f name free i free1 p q (inl w) l = let e = w.at_free in omega (arith, e, l)
text_room f name free i free1 p q (inr (large, w)) l = let e = w.at_free in let r = w.room in omega (arith, e, r)

target_room : (x : Site) (e : Expression) (free : ℕ) (d : scheme.Target) (free1 : ℕ) (p q : Spot) → (related (code_of x.a) e).target x.a.active free d free1 p q → free ≤ (own x.a.chunk).registers → free1 ≤ (own x.a.chunk).registers
target_room x (name_expression line name) free d free1 p q w l = let e = w.at_free in omega (arith, e, l)
target_room x (index_expression line on key) free d free1 p q w l =
    rk_room (code_of x.a) (related (code_of x.a) key).form.literal x.a.active (related (code_of x.a) key) w.free1 w.k free1 w.mid q w.key_at (operand_room (code_of x.a) (local_at (related (code_of x.a) on).form x.a.active p) x.a.active (related (code_of x.a) on) free w.t w.free1 p w.mid w.on_at l)
target_room x (field_expression line on name) free d free1 p q w l =
    text_room (code_of x.a) name w.free1 w.k free1 w.mid q w.key_at (operand_room (code_of x.a) (local_at (related (code_of x.a) on).form x.a.active p) x.a.active (related (code_of x.a) on) free w.t w.free1 p w.mid w.on_at l)
target_room x e free d free1 p q w l = absurd w

targets_room : (x : Site) (ts : Expressions) (free : ℕ) (ds : List scheme.Target) (free1 : ℕ) (p q : Spot) → (w : TargetsAt (all_related (code_of x.a) ts) x.a.active ds free free1 p q) → free ≤ (own x.a.chunk).registers → free1 ≤ (own x.a.chunk).registers
targets_room x no_expressions free ds free1 p q w l = let e = w.at_free in omega (arith, e, l)
targets_room x (syntax.expression e rest) free ds free1 p q w l =
    targets_room x rest w.free1 w.others free1 w.mid q w.others_at (target_room x e free w.target w.free1 p w.mid w.target_at l)

copy_room : (f : Fn) (b : Bool) (x : ℕ) (ds ds1 : List scheme.Target) (free free1 : ℕ) (p q : Spot) → CopyBy b f x ds ds1 free free1 p q → free ≤ f.size → free1 ≤ f.size
copy_room f true x ds ds1 free free1 p q w l = let e = w.at_free in let r = w.room in omega (arith, e, r)
copy_room f false x ds ds1 free free1 p q w l = let e = w.at_free in omega (arith, e, l)

copies_room : (f : Fn) (n : ℕ) (ds ds1 : List scheme.Target) (free free1 : ℕ) (p q : Spot) → CopiesAt f n ds ds1 free free1 p q → free ≤ f.size → free1 ≤ f.size
copies_room f zero ds ds1 free free1 p q w l = let e = w.at_free in omega (arith, e, l)
copies_room f (suc n) ds ds1 free free1 p q w l = copy_room f (clashes n ds) n w.between ds1 w.free1 free1 w.mid q w.later_at (copies_room f n ds w.between free w.free1 p w.mid w.earlier_at l)

module _ (z : Setup) (self : Self) (ih : Simulates z self) where
  -- the copies, register by register
  copies_run : {B : Type 0} (n : ℕ) (ts : List Target) (ds ds1 : List scheme.Target) (s : SourceState) (o : Outside) (g : Ghost) (x : Site) (k free free1 : ℕ) (p q : Spot) (j S : ℕ) (P : Post B) (prog : Prog B) → n ≤ length x.a.slots → Apart x.a → Ok z s g x → free ≡ length x.a.slots + k → AllStand x.a x.high k ts ds → CopiesAt (code_of x.a) n ds ds1 free free1 p q → ((high1 : List Datum) → Pushed z s g x high1 k free1 (λ k1. AllMoved x.a high1 k1 n s ts ds ds1) → Goes z.bound self (fail_of z x) j S o (Now (at s o g (raised x high1) q.pc)) P prog) → Goes z.bound self (fail_of z x) (clash_count n ds + j) S o (Now (at s o g x p.pc)) P prog
  copies_run zero ts ds ds1 s o g x k free free1 p q j S P prog l apart ok fr st w after =
      goes_weaken z.bound self (fail_of z x) j S (0 + j) S o _ P prog (omega arith) (omega arith)
      (subst (λ pc. Goes z.bound self (fail_of z x) j S o (Now (at s o g x pc)) P prog) w.same.pc
      (after x.high (record { k1 = k; ok = ok; at_free = w.at_free ∙ fr; more = omega arith; keeps = keeps_self k x.high; holds = subst (AllMoved x.a x.high k 0 s ts ds) (sym w.is) (all_start x.a x.high k s ts ds st) })))
  copies_run (suc n) ts ds ds1 s o g x k free free1 p q j S P prog l apart ok fr st w after =
      goes_weaken z.bound self (fail_of z x) (clash_count n ds + (one_if (clashes n ds) + j)) S (clash_count (suc n) ds + j) S o _ P prog (omega arith) (omega arith)
      (copies_run n ts ds w.between s o g x k free w.free1 p w.mid (one_if (clashes n ds) + j) S P prog (omega arith) apart ok fr st w.earlier_at
      (λ high1 d. by high1 d (clashes n ds) refl w.later_at))
    where
      by : (high1 : List Datum) → Pushed z s g x high1 k w.free1 (λ k1. AllMoved x.a high1 k1 n s ts ds w.between) → (b : Bool) → clashes n ds ≡ b → CopyBy b (code_of x.a) n w.between ds1 w.free1 free1 w.mid q → Goes z.bound self (fail_of z x) (one_if b + j) S o (Now (at s o g (raised x high1) w.mid.pc)) P prog
      by high1 d false e c =
          goes_weaken z.bound self (fail_of z x) j S (0 + j) S o _ P prog (omega arith) (omega arith)
          (subst (λ pc. Goes z.bound self (fail_of z x) j S o (Now (at s o g (raised x high1) pc)) P prog) c.same.pc
          (after high1 (record { k1 = d.k1; ok = d.ok; at_free = c.at_free ∙ d.at_free; more = d.more; keeps = d.keeps; holds = subst (AllMoved x.a high1 d.k1 (suc n) s ts ds) (sym c.is) (all_stay x.a x.high high1 high1 k d.k1 d.k1 n s ts ds w.between (omega arith) (keeps_self d.k1 high1) st e d.holds) })))
      by high1 d true e c =
          let x1 : Site = raised x high1 in
          let slot = get_within x.a.slots n (omega arith) in
          let v : Datum = slot_value s.cells slot.0 in
          let high2 : List Datum = slice_set high1 d.k1 v in
          let room : d.k1 < length high1 = (let r = d.ok.acts.1 in let f = d.at_free in let m = c.room in omega (arith, r, f, m)) in
          let old = get_within high1 d.k1 room in
          let m0 : State = at s o g x1 w.mid.pc in
          let m1 : State = at s o g x1 (suc w.mid.pc) in
          let kp : Keeps d.k1 high1 high2 = record { same = length_set high1 d.k1 v; old = λ i b. get_set_other high1 d.k1 i v (λ y. omega arith) } in
          goes_weaken z.bound self (fail_of z x) (suc j) S (1 + j) S o _ P prog (omega arith) (omega arith)
          (goes_word z.bound self (fail_of z x) j S o m0 (at s o g (raised x high2) q.pc) P prog
          (word_abc x.a Op.Move w.free1 n 0 w.mid q m0 c.word refl refl
          ∙ ap (λ y. run_after m0 (need y (λ u. set m1 w.free1 u))) (top_register s.cells x.a high1 n slot.0 slot.1)
          ∙ ap (run_after m0) (sets m1 w.free1 v old.0 (high_get s.cells x.a high1 w.free1 d.k1 d.at_free ∙ old.1))
          ∙ ap (λ rs. Going (pic s o g x (suc w.mid.pc) rs None)) (set_above s.cells x.a high1 w.free1 d.k1 v d.at_free)
          ∙ ap (λ pc. Going (at s o g (raised x high2) pc)) (sym c.word.next))
          (after high2 (record {
            k1 = suc d.k1;
            ok = ok_high z s g x high1 high2 (sym (length_set high1 d.k1 v)) d.ok;
            at_free = (let a = c.at_free in let b = d.at_free in omega (arith, a, b));
            more = (let a = d.more in omega (arith, a));
            keeps = keeps_on k d.k1 x.high high1 high2 d.more d.keeps kp;
            holds = subst (AllMoved x.a high2 (suc d.k1) (suc n) s ts ds) (sym c.is) (all_copy z s g x ok apart x.high high1 high2 k d.k1 n w.free1 ts ds w.between (omega arith) st (kp, d.at_free, λ y q1. get_set high1 d.k1 v room ∙ ap Some (ap (slot_value s.cells) (some_same slot.0 (of_cell y) (sym slot.1 ∙ q1)))) d.holds);
          })))

  -- all copies are made
  pub copies_goes : {B : Type 0} (ts : List Target) (ds ds1 : List scheme.Target) (s : SourceState) (o : Outside) (g : Ghost) (x : Site) (k free free1 : ℕ) (p q : Spot) (j S : ℕ) (P : Post B) (prog : Prog B) → Apart x.a → Ok z s g x → free ≡ length x.a.slots + k → AllStand x.a x.high k ts ds → CopiesAt (code_of x.a) (length x.a.active) ds ds1 free free1 p q → ((high1 : List Datum) → Pushed z s g x high1 k free1 (λ k1. AllStand x.a high1 k1 (with_copies ts s) ds1) → Goes z.bound self (fail_of z x) j S o (Now (at s o g (raised x high1) q.pc)) P prog) → Goes z.bound self (fail_of z x) (length ds + j) S o (Now (at s o g x p.pc)) P prog
  copies_goes ts ds ds1 s o g x k free free1 p q j S P prog apart ok fr st w after =
      let many : length x.a.active ≡ length x.a.slots = ok.acts.0.as_many in
      let few = few_copies (length x.a.slots) ds in
      goes_weaken z.bound self (fail_of z x) (clash_count (length x.a.slots) ds + j) S (length ds + j) S o _ P prog (omega (arith, few)) (omega arith)
      (copies_run (length x.a.slots) ts ds ds1 s o g x k free free1 p q j S P prog (omega arith) apart ok fr st (subst (λ n. CopiesAt (code_of x.a) n ds ds1 free free1 p q) many w)
      (λ high1 d. after high1 (record { k1 = d.k1; ok = d.ok; at_free = d.at_free; more = d.more; keeps = d.keeps; holds = all_end z s g x ok apart x.high high1 k d.k1 ts ds ds1 d.more d.keeps st d.holds })))

  -- the right sides and the stores
  stores_goes : (es : Expressions) (ts : List Target) (ds : List scheme.Target) (n : ℕ) (s : SourceState) (o : Outside) (g : Ghost) (x : Site) (k free : ℕ) (p q : Spot) → length ds ≡ n → Ok z s g x → free ≡ length x.a.slots + k → free ≤ (own x.a.chunk).registers → inner_list es ≤ z.bound → AllStand x.a x.high k ts ds → (b : Bool) → (length (all_related (code_of x.a) es) == n) ≡ b → (w : StoresBy b (code_of x.a) ds (all_related (code_of x.a) es) x.a.active free p q) → Goes z.bound self (fail_of z x) (suc n) (inner_list es + n * call_cost) o (Now (at s o g x p.pc)) (StoredPost z x k q.pc) (and_then (items es (scope x) s) (λ vs s1. store_each ts vs (scope x) s1))
  stores_goes es ts ds n s o g x k free p q many ok fr lim small st true e w =
      let same : length (all_related (code_of x.a) es) ≡ n = grind (arith, nat_tests) in
      goes_weaken z.bound self (fail_of z x) (length ds) (inner_list es + length ds * call_cost) (suc n) (inner_list es + n * call_cost) o _ (StoredPost z x k q.pc) (and_then (items es (scope x) s) (λ vs s1. store_each ts vs (scope x) s1)) (omega (arith, many)) (let m = ap (λ i. i * call_cost) many in omega (arith, m))
      (each_goes z self ih ds es ts s o g x k free p q (let c = count_is (code_of x.a) es in omega (arith, c, same, many)) ok fr lim small st w)
  stores_goes es ts ds n s o g x k free p q many ok fr lim small st false e w =
      goes_weaken z.bound self (fail_of z x) (1 + length ds) (inner_list es + length ds * call_cost) (suc n) (inner_list es + n * call_cost) o _ (StoredPost z x k q.pc) (and_then (items es (scope x) s) (λ vs s1. store_each ts vs (scope x) s1)) (omega (arith, many)) (let m = ap (λ i. i * call_cost) many in omega (arith, m))
      (goes_then z.bound self (fail_of z x) 1 (inner_list es) (length ds) (length ds * call_cost) o _ (ListPost z x (Some (length ds)) k free w.mid.pc) (StoredPost z x k q.pc) (items es (scope x) s) (λ vs s1. store_each ts vs (scope x) s1)
      (adjust_goes z self ih es (length ds) s o g x k free p w.mid ok (record { is = fr; within = lim }) small w.first_at)
      (λ vs s1 o1 p1 h.
      let x1 : Site = raised x h.high in
      goes_from z.bound self (fail_of z x) (length ds) (length ds * call_cost) o1 p1 (Now (at s1 o1 h.g x1 w.mid.pc)) (StoredPost z x k q.pc) (store_each ts vs (scope x) s1) h.held.1
      (goes_post z.bound self (fail_of z x) (length ds) (length ds * call_cost) o1 (Now (at s1 o1 h.g x1 w.mid.pc)) (StoredPost z x1 k q.pc) (StoredPost z x k q.pc) (store_each ts vs (scope x) s1)
      (λ u s2 o2 p2 h2. record { g = h2.g; high = h2.high; keeps = keeps_on k k x.high h.high h2.high (omega arith) h.keeps h2.keeps; is = h2.is; ok = h2.ok })
      (from_goes z self ih ds ts vs s1 o1 h.g x1 k k free w.mid q h.ok fr (omega arith) (all_stand_keep x.a x.high h.high k k ts ds (omega arith) h.keeps st) h.held.0 w.second_at))))

  -- an assignment, up to behind its stores
  pub assign_core : (ts es : Expressions) (s : SourceState) (o : Outside) (g : Ghost) (x : Site) (p q : Spot) → Ok z s g x → suc (inner_targets ts + inner_list es) ≤ z.bound → (w : AssignAt (code_of x.a) (all_related (code_of x.a) ts) (all_related (code_of x.a) es) x.a.active p q) → Goes z.bound self (fail_of z x) 1 (inner_targets ts + inner_list es) o (Now (at s o g x p.pc)) (StoredPost z x 0 q.pc) (assign ts es (scope x) s)
  assign_core ts es s o g x p q ok small w =
      let apart = ok.acts.0.apart in
      let n : ℕ = length (all_related (code_of x.a) ts) in
      let c : n ≡ count ts = count_is (code_of x.a) ts in
      let S : ℕ = inner_list es + n * call_cost in
      let sum = tsize_is ts in
      let above = all_above z s g x ok in
      let nc = ap (λ i. i * call_cost) c in
      let lim1 : w.free1 ≤ (own x.a.chunk).registers = targets_room x ts (length x.a.active) w.parts w.free1 p w.mid w.targets_at above.within in
      let lim2 : w.free2 ≤ (own x.a.chunk).registers = copies_room (code_of x.a) (length x.a.active) w.parts w.places w.free1 w.free2 w.mid w.last w.copies_at lim1 in
      goes_weaken z.bound self (fail_of z x) 1 (tsize ts + S) 1 (inner_targets ts + inner_list es) o (Now (at s o g x p.pc)) (StoredPost z x 0 q.pc) (assign ts es (scope x) s) (omega arith) (omega (arith, sum, nc))
      (targets_goes z self ih ts s o g x 0 (length x.a.active) w.parts w.free1 p w.mid 1 S (StoredPost z x 0 q.pc) (λ places s1. and_then (items es (scope x) s1) (λ vs s2. store_each (with_copies places s1) vs (scope x) s2)) ok above.is (omega (arith, sum, small)) w.targets_at
      (λ places s1 o1 g1 high1 d many.
      let x1 : Site = raised x high1 in
      goes_weaken z.bound self (fail_of z x) (length w.parts + suc n) S (count ts * 6 + 1) S o1 (Now (at s1 o1 g1 x1 w.mid.pc)) (StoredPost z x 0 q.pc) (and_then (items es (scope x) s1) (λ vs s2. store_each (with_copies places s1) vs (scope x) s2)) (omega (arith, many, c)) (omega arith)
      (copies_goes places w.parts w.places s1 o1 g1 x1 d.k1 w.free1 w.free2 w.mid w.last (suc n) S (StoredPost z x 0 q.pc) (and_then (items es (scope x) s1) (λ vs s2. store_each (with_copies places s1) vs (scope x) s2)) apart d.ok d.at_free d.holds w.copies_at
      (λ high2 d2.
      let x2 : Site = raised x high2 in
      let size : length high2 ≡ length x.high = d2.keeps.same ∙ d.keeps.same in
      goes_post z.bound self (fail_of z x) (suc n) S o1 (Now (at s1 o1 g1 x2 w.last.pc)) (StoredPost z x2 d2.k1 q.pc) (StoredPost z x 0 q.pc) (and_then (items es (scope x) s1) (λ vs s2. store_each (with_copies places s1) vs (scope x) s2))
      (λ u s2 o2 p2 h. record { g = h.g; high = h.high; keeps = record { same = h.keeps.same ∙ size; old = λ i l. absurd (omega arith) }; is = h.is; ok = h.ok })
      (stores_goes es (with_copies places s1) w.places n s1 o1 g1 x2 d2.k1 w.free2 w.last q (all_length x.a high2 d2.k1 (with_copies places s1) w.places d2.holds ∙ length_with places s1 ∙ sym (all_length x.a high1 d.k1 places w.parts d.holds) ∙ many ∙ sym c) d2.ok d2.at_free lim2 (omega (arith, small)) d2.holds (length (all_related (code_of x.a) es) == n) refl w.stores_at)))))

  -- the statement
  pub assign_goes : (ts es : Expressions) → StatementBy z (assignment ts es) (Does z self 1 (inner_statement (assignment ts es)) (λ x s. execute (assignment ts es) (scope x) s))
  assign_goes ts es s o g x around active1 p q ok out small t =
      subst (λ l. Goes z.bound self (fail_of z x) 1 (inner_statement (assignment ts es)) o (Now (at s o g x p.pc)) (FlowPost z x around l q.pc) (execute (assignment ts es) (scope x) s)) (sym t.stays)
      (goes_weaken z.bound self (fail_of z x) (1 + 0) (inner_statement (assignment ts es) + 0) 1 (inner_statement (assignment ts es)) o (Now (at s o g x p.pc)) (FlowPost z x around x.a.active q.pc) (execute (assignment ts es) (scope x) s) (omega arith) (omega arith)
      (goes_then z.bound self (fail_of z x) 1 (inner_statement (assignment ts es)) 0 0 o (Now (at s o g x p.pc)) (StoredPost z x 0 q.pc) (FlowPost z x around x.a.active q.pc) (assign ts es (scope x) s) (λ u s1. goes_on_at (scope x) s1)
      (assign_core ts es s o g x p q ok small t.part_at)
      (λ u s1 o1 p1 h. goes_done z.bound self (fail_of z x) 0 0 o1 p1 (FlowPost z x around x.a.active q.pc) (goes x.a.own) s1 (stays_on z x around 0 q.pc s1 o1 p1 h))))
