-- The targets of an assignment one after another, and the stores from right to left, each value from its own expression or from its register.
use Rattle.std.proofs.Common.{◌≡◌, ◌≤◌, ℕ, suc, ◌+◌, ◌*◌, List, [], ◌∷◌, length, refl, sym, ap, ◌∙◌, subst, arith}
use Rattle.std.specs.Prelude.{drop}
use Rattle.proto.specs.Chunk.{own}
use Rattle.lua_tree.specs.Syntax as syntax
use Rattle.lua_tree.specs.Syntax.{Expressions, no_expressions, Expression}
use Rattle.scheme.specs.Expressions as scheme
use Rattle.lua_model.specs.Datum.{Datum, first_of, adjusted}
use Rattle.lua_model.specs.Store.{Outside}
use Rattle.source_meaning.specs.State.{State as SourceState, Target}
use Rattle.source_meaning.specs.Tasks.{target}
use Rattle.source_meaning.specs.Programs.{Prog, done, and_then}
use Rattle.source_meaning.specs.Meaning.{items, targets, store_to, store_each}
use Rattle.scheme_stands.specs.Words.{Spot}
use Rattle.scheme_stands.specs.Statements.{TargetsAt, EachStoredAt, StoredFromAt}
use Rattle.scheme_stands.specs.Relation.{all_related}
use Rattle.agrees.proofs.Registers.{high_get}
use Rattle.agrees.proofs.Tasks.{Simulates, scope}
use Rattle.agrees.proofs.Posts.{Keeps, keeps_self, keeps_on, Row, fail_of, AllStand, Pushed}
use Rattle.agrees.proofs.Accounts.{Now, Post, Self, Goes, goes_done, goes_from, goes_then, goes_post, goes_weaken, goes_earning}
use Rattle.agrees.proofs.Sizes.{size_e, inner, inner_list, call_cost}
use Rattle.agrees.proofs.Picture.{code_of, Setup, Ghost, Site, raised, at, Ok}
use Rattle.agrees.proofs.ListOpen.{count, item_next}
use Rattle.agrees.proofs.AssignWords.{StoredPost, stored_on}
use Rattle.agrees.proofs.AssignTargets.{tsize}
use Rattle.agrees.proofs.AssignStores.{goes_assoc, goes_unassoc, stands_keep, all_stand_keep, store_goes, direct_goes}

first_adjusted : (n : ℕ) (us : List Datum) → adjusted (suc n) us ≡ first_of us ∷ adjusted n (drop 1 us)
first_adjusted n [] = refl
first_adjusted n (u ∷ us) = refl

module _ (z : Setup) (self : Self) (ih : Simulates z self) where
  -- the targets, and what follows: six words for each
  pub targets_goes : {B : Type 0} (ts : Expressions) (s : SourceState) (o : Outside) (g : Ghost) (x : Site) (k free : ℕ) (ds : List scheme.Target) (free1 : ℕ) (p q : Spot) (j S : ℕ) (P : Post B) (K : List Target → SourceState → Prog B) → Ok z s g x → free ≡ length x.a.slots + k → tsize ts ≤ z.bound → (w : TargetsAt (all_related (code_of x.a) ts) x.a.active ds free free1 p q) → ((places : List Target) (s1 : SourceState) (o1 : Outside) (g1 : Ghost) (high1 : List Datum) → Pushed z s1 g1 x high1 k free1 (λ k1. AllStand x.a high1 k1 places ds) → length ds ≡ count ts → Goes z.bound self (fail_of z x) (count ts * 6 + j) S o1 (Now (at s1 o1 g1 (raised x high1) q.pc)) P (K places s1)) → Goes z.bound self (fail_of z x) j (tsize ts + S) o (Now (at s o g x p.pc)) P (and_then (targets ts (scope x) s) K)
  targets_goes no_expressions s o g x k free ds free1 p q j S P K ok fr small w after =
      goes_weaken z.bound self (fail_of z x) (0 * 6 + j) S j (0 + S) o _ P _ (omega arith) (omega arith)
      (subst (λ pc. Goes z.bound self (fail_of z x) (0 * 6 + j) S o (Now (at s o g x pc)) P (K [] s)) w.same.pc
      (after [] s o g x.high (record { k1 = k; ok = ok; at_free = w.at_free ∙ fr; more = omega arith; keeps = keeps_self k x.high; holds = subst (AllStand x.a x.high k []) (sym w.is) tt }) (ap length w.is)))
  targets_goes (syntax.expression e rest) s o g x k free ds free1 p q j S P K ok fr small w after =
      goes_weaken z.bound self (fail_of z x) j (suc (inner e) + (tsize rest + S)) j (suc (inner e) + tsize rest + S) o _ P _ (omega arith) (omega arith)
      (goes_earning z.bound self (fail_of z x) 6 (suc (inner e)) j (6 + j) (tsize rest + S) o _ (target (scope x) e) s _ P _ (omega arith)
      (ih.targets e s o g x k free w.target w.free1 p w.mid ok fr (omega arith) w.target_at)
      (λ t s1 o1 p1 h.
      let x1 : Site = raised x h.high in
      goes_from z.bound self (fail_of z x) (6 + j) (tsize rest + S) o1 p1 (Now (at s1 o1 h.g x1 w.mid.pc)) P _ h.is
      (goes_assoc z.bound self (fail_of z x) (6 + j) (tsize rest + S) o1 (Now (at s1 o1 h.g x1 w.mid.pc)) P (targets rest (scope x) s1) (λ us s2. done (t ∷ us) s2) K
      (targets_goes rest s1 o1 h.g x1 h.pushed.k1 w.free1 w.others free1 w.mid q (6 + j) S P (λ us s2. K (t ∷ us) s2) h.pushed.ok h.pushed.at_free (omega arith) w.others_at
      (λ places s2 o2 g2 high2 d many.
      goes_weaken z.bound self (fail_of z x) (suc (count rest) * 6 + j) S (count rest * 6 + (6 + j)) S o2 _ P _ (omega arith) (omega arith)
      (after (t ∷ places) s2 o2 g2 high2 (record {
        k1 = d.k1;
        ok = d.ok;
        at_free = d.at_free;
        more = (let a = h.pushed.more in let b = d.more in omega (arith, a, b));
        keeps = keeps_on k h.pushed.k1 x.high h.high high2 h.pushed.more h.pushed.keeps (record { same = d.keeps.same; old = d.keeps.old });
        holds = subst (AllStand x.a high2 d.k1 (t ∷ places)) (sym w.is) (stands_keep x.a h.high high2 h.pushed.k1 d.k1 t w.target d.more (record { same = d.keeps.same; old = d.keeps.old }) h.pushed.holds, d.holds);
      }) (ap length w.is ∙ ap suc many)))))))

  -- ## as many right sides as targets

  pub each_goes : (ds : List scheme.Target) (es : Expressions) (ts : List Target) (s : SourceState) (o : Outside) (g : Ghost) (x : Site) (k free : ℕ) (p q : Spot) → count es ≡ length ds → Ok z s g x → free ≡ length x.a.slots + k → free ≤ (own x.a.chunk).registers → inner_list es ≤ z.bound → AllStand x.a x.high k ts ds → EachStoredAt (code_of x.a) ds (all_related (code_of x.a) es) x.a.active free p q → Goes z.bound self (fail_of z x) (length ds) (inner_list es + length ds * call_cost) o (Now (at s o g x p.pc)) (StoredPost z x k q.pc) (and_then (items es (scope x) s) (λ vs s1. store_each ts vs (scope x) s1))
  each_goes [] no_expressions [] s o g x k free p q many ok fr lim small st w =
      goes_done z.bound self (fail_of z x) 0 (0 + 0 * call_cost) o _ (StoredPost z x k q.pc) tt s (record { g = g; high = x.high; keeps = keeps_self k x.high; is = ap (λ pc. Now (at s o g x pc)) (sym w.pc); ok = ok })
  each_goes [] no_expressions (t ∷ ts) s o g x k free p q many ok fr lim small st w = absurd st
  each_goes [] (syntax.expression e rest) ts s o g x k free p q many ok fr lim small st w = absurd (omega (arith, many))
  each_goes (d ∷ ds) es [] s o g x k free p q many ok fr lim small st w = absurd st
  each_goes (d ∷ ds) no_expressions (t ∷ ts) s o g x k free p q many ok fr lim small st w = absurd (omega (arith, many))
  each_goes (d ∷ []) (syntax.expression e no_expressions) (t ∷ []) s o g x k free p q many ok fr lim small st w =
      goes_weaken z.bound self (fail_of z x) 1 (suc (size_e e) + call_cost) 1 (inner_list (syntax.expression e no_expressions) + 1 * call_cost) o _ (StoredPost z x k q.pc) _ (omega arith) (omega arith)
      (direct_goes z self ih t d e s o g x k free p q ok fr (omega arith) lim st.0 w)
  each_goes (d ∷ []) (syntax.expression e no_expressions) (t ∷ t1 ∷ ts) s o g x k free p q many ok fr lim small st w = absurd st.1
  each_goes (d ∷ []) (syntax.expression e (syntax.expression e1 rest)) (t ∷ ts) s o g x k free p q many ok fr lim small st w = absurd (omega (arith, many))
  each_goes (d ∷ d1 ∷ ds) (syntax.expression e no_expressions) (t ∷ ts) s o g x k free p q many ok fr lim small st w = absurd (omega (arith, many))
  each_goes (d ∷ d1 ∷ ds) (syntax.expression e (syntax.expression e1 rest)) (t ∷ ts) s o g x k free p q many ok fr lim small st w =
      let es : Expressions = syntax.expression e1 rest in
      let dd : List scheme.Target = d1 ∷ ds in
      let n : ℕ = length dd in
      let S : ℕ = inner_list es + n * call_cost in
      goes_weaken z.bound self (fail_of z x) (suc n) (suc (size_e e) + (S + call_cost)) (suc n) (inner_list (syntax.expression e es) + suc n * call_cost) o _ (StoredPost z x k q.pc) _ (omega arith) (omega arith)
      (item_next z self ih e s o g x k free p w.mid (suc n) (S + call_cost) (StoredPost z x k q.pc) (λ vs s1. and_then (and_then (items es (scope x) s1) (λ ws s2. done (first_of vs ∷ ws) s2)) (λ us s2. store_each (t ∷ ts) us (scope x) s2)) ok fr (omega arith) w.room w.first
      (λ vs s1 o1 g1 high kp ok1 there one.
      let x1 : Site = raised x high in
      let v : Datum = first_of vs in
      goes_weaken z.bound self (fail_of z x) (n + 1) (S + call_cost) (6 + suc n) (S + call_cost) o1 (Now (at s1 o1 g1 x1 w.mid.pc)) (StoredPost z x k q.pc) (and_then (and_then (items es (scope x) s1) (λ ws s2. done (v ∷ ws) s2)) (λ us s2. store_each (t ∷ ts) us (scope x) s2)) (omega arith) (omega arith)
      (goes_assoc z.bound self (fail_of z x) (n + 1) (S + call_cost) o1 (Now (at s1 o1 g1 x1 w.mid.pc)) (StoredPost z x k q.pc) (items es (scope x) s1) (λ ws s2. done (v ∷ ws) s2) (λ us s2. store_each (t ∷ ts) us (scope x) s2)
      (goes_unassoc z.bound self (fail_of z x) (n + 1) (S + call_cost) o1 (Now (at s1 o1 g1 x1 w.mid.pc)) (StoredPost z x k q.pc) (items es (scope x) s1) (λ ws s2. store_each ts ws (scope x) s2) (λ u s2. store_to t v (scope x) s2)
      (goes_then z.bound self (fail_of z x) n S 1 call_cost o1 (Now (at s1 o1 g1 x1 w.mid.pc)) (StoredPost z x1 (suc k) w.others.mid.pc) (StoredPost z x k q.pc) (and_then (items es (scope x) s1) (λ ws s2. store_each ts ws (scope x) s2)) (λ u s2. store_to t v (scope x) s2)
      (each_goes (d1 ∷ ds) (syntax.expression e1 rest) ts s1 o1 g1 x1 (suc k) (free + 1) w.mid w.others.mid (omega (arith, many)) ok1 (omega (arith, fr)) (let r = w.room in omega (arith, r)) (omega arith) (all_stand_keep x.a x.high high k (suc k) ts (d1 ∷ ds) (omega arith) kp st.1) w.others.first_at)
      (λ u s2 o2 p2 h.
      let x2 : Site = raised x h.high in
      let kp2 : Keeps k x.high h.high = keeps_on k (suc k) x.high high h.high (omega arith) kp h.keeps in
      goes_from z.bound self (fail_of z x) 1 call_cost o2 p2 (Now (at s2 o2 h.g x2 w.others.mid.pc)) (StoredPost z x k q.pc) (store_to t v (scope x) s2) h.is
      (goes_post z.bound self (fail_of z x) 1 call_cost o2 (Now (at s2 o2 h.g x2 w.others.mid.pc)) (StoredPost z x2 k q.pc) (StoredPost z x k q.pc) (store_to t v (scope x) s2) (λ u1 s3 o3 p3 h3. stored_on z x k k q.pc h.high u1 s3 o3 p3 (omega arith) kp2 h3)
      (store_goes z self ih t d s2 o2 h.g x2 k k free v w.others.mid q h.ok (stands_keep x.a x.high h.high k k t d (omega arith) kp2 st.0) (high_get s2.cells x.a h.high free k fr ∙ h.keeps.old k (omega arith) ∙ there) w.others.second_at))))))))

  -- ## the values are in registers

  pub from_goes : (ds : List scheme.Target) (ts : List Target) (vs : List Datum) (s : SourceState) (o : Outside) (g : Ghost) (x : Site) (k0 k free : ℕ) (p q : Spot) → Ok z s g x → free ≡ length x.a.slots + k → k0 ≤ k → AllStand x.a x.high k0 ts ds → Row x.high k (adjusted (length ds) vs) → StoredFromAt (code_of x.a) free ds p q → Goes z.bound self (fail_of z x) (length ds) (length ds * call_cost) o (Now (at s o g x p.pc)) (StoredPost z x k q.pc) (store_each ts vs (scope x) s)
  from_goes [] [] vs s o g x k0 k free p q ok fr l st row w =
      goes_done z.bound self (fail_of z x) 0 (0 * call_cost) o _ (StoredPost z x k q.pc) tt s (record { g = g; high = x.high; keeps = keeps_self k x.high; is = ap (λ pc. Now (at s o g x pc)) (sym w.pc); ok = ok })
  from_goes [] (t ∷ ts) vs s o g x k0 k free p q ok fr l st row w = absurd st
  from_goes (d ∷ ds) [] vs s o g x k0 k free p q ok fr l st row w = absurd st
  from_goes (d ∷ ds) (t ∷ ts) vs s o g x k0 k free p q ok fr l st row w =
      let n : ℕ = length ds in
      let row1 : Row x.high k (first_of vs ∷ adjusted n (drop 1 vs)) = subst (Row x.high k) (first_adjusted n vs) row in
      goes_weaken z.bound self (fail_of z x) (n + 1) (n * call_cost + call_cost) (suc n) (suc n * call_cost) o (Now (at s o g x p.pc)) (StoredPost z x k q.pc) (store_each (t ∷ ts) vs (scope x) s) (omega arith) (omega arith)
      (goes_then z.bound self (fail_of z x) n (n * call_cost) 1 call_cost o (Now (at s o g x p.pc)) (StoredPost z x (suc k) w.mid.pc) (StoredPost z x k q.pc) (store_each ts (drop 1 vs) (scope x) s) (λ u s1. store_to t (first_of vs) (scope x) s1)
      (from_goes ds ts (drop 1 vs) s o g x k0 (suc k) (suc free) p w.mid ok (omega (arith, fr)) (omega arith) st.1 row1.1 w.first_at)
      (λ u s1 o1 p1 h.
      let x1 : Site = raised x h.high in
      let kp : Keeps k x.high h.high = record { same = h.keeps.same; old = λ i b. h.keeps.old i (omega arith) } in
      let kp0 : Keeps k0 x.high h.high = record { same = h.keeps.same; old = λ i b. h.keeps.old i (omega arith) } in
      goes_from z.bound self (fail_of z x) 1 call_cost o1 p1 (Now (at s1 o1 h.g x1 w.mid.pc)) (StoredPost z x k q.pc) (store_to t (first_of vs) (scope x) s1) h.is
      (goes_post z.bound self (fail_of z x) 1 call_cost o1 (Now (at s1 o1 h.g x1 w.mid.pc)) (StoredPost z x1 k q.pc) (StoredPost z x k q.pc) (store_to t (first_of vs) (scope x) s1) (λ u1 s3 o3 p3 h3. stored_on z x k k q.pc h.high u1 s3 o3 p3 (omega arith) kp h3)
      (store_goes z self ih t d s1 o1 h.g x1 k0 k free (first_of vs) w.mid q h.ok (stands_keep x.a x.high h.high k0 k0 t d (omega arith) kp0 st.0) (high_get s1.cells x.a h.high free k fr ∙ h.keeps.old k (omega arith) ∙ row1.0) w.second_at))))
