-- The values of a list of expressions, adjusted to so many, in the registers above the locals.
use Rattle.std.proofs.Common.{◌≡◌, ◌≤◌, ◌<◌, ℕ, zero, suc, ◌+◌, ◌-◌, Bool, true, false, List, [], ◌∷◌, map, length, Some, None, refl, sym, ap, ◌∙◌, subst, arith, nat_lt, replicate, length-append}
use Rattle.std.proofs.lemmas.Bool.Decides.{nat_tests}
use Rattle.std.specs.Prelude.{slice_get, slice_set}
use Rattle.opcode.specs.declared.op.Op.{Op}
use Rattle.proto.specs.Chunk.{own}
use Rattle.lua_tree.specs.Syntax as syntax
use Rattle.lua_tree.specs.Syntax.{Expressions, no_expressions, Expression, nil_literal, true_literal, false_literal, vararg_expression, number_literal, text_literal, name_expression, function_expression, index_expression, field_expression, call_expression, method_call, and_expression, or_expression, binary_expression, unary_expression, constructor, parenthesized}
use Rattle.scheme.specs.declared.making.Piece.{Piece}
use Rattle.lua_model.specs.Datum.{Datum, nil, first_of, adjusted}
use Rattle.lua_model.specs.Store.{Outside}
use Rattle.source_meaning.specs.State.{State as SourceState}
use Rattle.source_meaning.specs.Tasks.{item}
use Rattle.source_meaning.specs.Programs.{done}
use Rattle.source_meaning.specs.Meaning.{items}
use Rattle.rules.specs.State.{State, Goes as Going_on, with_registers, check, spliced, has_registers}
use Rattle.rules.specs.Run.{Going, step, after}
use Rattle.scheme_stands.specs.Words.{Fn, Spot, WordAt}
use Rattle.scheme_stands.specs.Expressions.{form_of, several}
use Rattle.scheme_stands.specs.Lists.{AllNextAt, AllMultiAt, AdjustAt, AdjustBy, FilledAt, NilsAt, rels_open}
use Rattle.scheme_stands.specs.Relation.{related, all_related}
use Rattle.scheme_stands.proofs.Forms.{form_is}
use Rattle.agrees.proofs.NextRegister.{to_next}
use Rattle.agrees.proofs.Registers.{ok_high, has_rows}
use Rattle.agrees.proofs.Tasks.{Simulates, scope}
use Rattle.agrees.proofs.Posts.{Keeps, keeps_self, keeps_on, fail_of, Row, ListPost}
use Rattle.agrees.proofs.Lists.{get_set, get_set_other, length_set, length_map}
use Rattle.agrees.proofs.Accounts.{Place, Now, Self, Goes, goes_done, goes_ask, goes_weaken, goes_from, goes_then, goes_post, goes_earning, goes_more, Arrive, to_word}
use Rattle.agrees.proofs.Sizes.{size_e, inner_list}
use Rattle.agrees.proofs.Words.{word_abc}
use Rattle.agrees.proofs.Picture.{code_of, Setup, Ghost, Site, raised, registers, slot_value, pic, at, Ok}
use Rattle.agrees.proofs.LoopGeneric.{spliced_above}

-- rows of registers
pub row_first : (high : List Datum) (k : ℕ) (vs : List Datum) → slice_get high k ≡ Some (first_of vs) → Row high k (adjusted 1 vs)
row_first high k [] e = (e, tt)
row_first high k (v ∷ vs) e = (e, tt)

pub row_less : (high : List Datum) (k n m : ℕ) (vs : List Datum) → n ≤ m → Row high k (adjusted m vs) → Row high k (adjusted n vs)
row_less high k zero m vs l h = tt
row_less high k (suc n) zero vs l h = absurd (omega arith)
row_less high k (suc n) (suc m) [] l h = (h.0, row_less high (suc k) n m [] (omega arith) h.1)
row_less high k (suc n) (suc m) (v ∷ vs) l h = (h.0, row_less high (suc k) n m vs (omega arith) h.1)

row_nils : (high : List Datum) (k n : ℕ) → Row high k (replicate n nil) → Row high k (adjusted n [])
row_nils high k zero h = tt
row_nils high k (suc n) h = (h.0, row_nils high (suc k) n h.1)

row_filled : (high : List Datum) (k n m : ℕ) (vs : List Datum) → length vs ≡ m → Row high k (adjusted m vs) → Row high (k + m) (replicate n nil) → Row high k (adjusted (m + n) vs)
row_filled high k n zero [] e h g = subst (λ i. Row high k (adjusted i [])) (let q : n ≡ 0 + n = omega arith in q) (row_nils high k n (subst (λ i. Row high i (replicate n nil)) (let q : k + 0 ≡ k = omega arith in q) g))
row_filled high k n zero (v ∷ vs) e h g = absurd (omega (arith, e))
row_filled high k n (suc m) [] e h g = absurd (omega (arith, e))
row_filled high k n (suc m) (v ∷ vs) e h g =
    subst (λ i. Row high k (adjusted i (v ∷ vs))) (let q : suc (m + n) ≡ suc m + n = omega arith in q)
    (h.0, row_filled high (suc k) n m vs (omega (arith, e)) h.1 (subst (λ i. Row high i (replicate n nil)) (let q : k + suc m ≡ suc k + m = omega arith in q) g))

pub spliced_length : (high : List Datum) (k : ℕ) (vs : List Datum) → length (spliced high k vs) ≡ length high
spliced_length high k [] = refl
spliced_length high k (v ∷ vs) = spliced_length (slice_set high k v) (suc k) vs ∙ length_set high k v

pub spliced_old : (high : List Datum) (k : ℕ) (vs : List Datum) (i : ℕ) → i < k → slice_get (spliced high k vs) i ≡ slice_get high i
spliced_old high k [] i l = refl
spliced_old high k (v ∷ vs) i l = spliced_old (slice_set high k v) (suc k) vs i (omega arith) ∙ get_set_other high k i v (λ e. omega (arith, e))

pub spliced_row : (high : List Datum) (k : ℕ) (vs : List Datum) → k + length vs ≤ length high → Row (spliced high k vs) k vs
spliced_row high k [] l = tt
spliced_row high k (v ∷ vs) l = (
  spliced_old (slice_set high k v) (suc k) vs k (omega arith) ∙ get_set high k v (omega arith),
  spliced_row (slice_set high k v) (suc k) vs (let e = length_set high k v in omega (arith, e)),
)

pub row_kept : (high high1 : List Datum) (k k1 n : ℕ) (vs : List Datum) → k + n ≤ k1 → Keeps k1 high high1 → Row high k (adjusted n vs) → Row high1 k (adjusted n vs)
row_kept high high1 k k1 zero vs l kp h = tt
row_kept high high1 k k1 (suc n) [] l kp h = (kp.old k (omega arith) ∙ h.0, row_kept high high1 (suc k) k1 n [] (omega arith) kp h.1)
row_kept high high1 k k1 (suc n) (v ∷ vs) l kp h = (kp.old k (omega arith) ∙ h.0, row_kept high high1 (suc k) k1 n vs (omega arith) kp h.1)

pub length_replicate : {A : Type 0} (n : ℕ) (a : A) → length (replicate n a) ≡ n
length_replicate zero a = refl
length_replicate (suc n) a = ap suc (length_replicate n a)

-- a part's form is its expression's
pub related_form : (f : Fn) (e : Expression) → several (related f e).form ≡ several (form_of e)
related_form f e = ap several (form_is f e)

-- n values are in the registers from the k-th above the locals on
pub record ValuesPost (z : Setup) (x : Site) (k n q : ℕ) (vs : List Datum) (s : SourceState) (o : Outside) (p : Place) : Type 0 where
  pub g : Ghost
  pub high : List Datum
  pub keeps : Keeps k x.high high
  pub row : Row high k (adjusted n vs)
  pub is : p ≡ Now (at s o g (raised x high) q)
  pub ok : Ok z s g (raised x high)

module _ (z : Setup) (self : Self) (ih : Simulates z self) where
  -- each value in a register of its own
  pub values_next : (es : Expressions) (s : SourceState) (o : Outside) (g : Ghost) (x : Site) (k free : ℕ) (p q : Spot) → Ok z s g x → free ≡ length x.a.slots + k → inner_list es ≤ z.bound → AllNextAt (code_of x.a) (all_related (code_of x.a) es) x.a.active free p q → Goes z.bound self (fail_of z x) 0 (inner_list es) o (Now (at s o g x p.pc)) (λ vs s1 o1 p1. ValuesPost z x k (length (all_related (code_of x.a) es)) q.pc vs s1 o1 p1 × (rels_open (all_related (code_of x.a) es) ≡ false → length vs ≡ length (all_related (code_of x.a) es))) (items es (scope x) s)
  values_next no_expressions s o g x k free p q ok fr small t =
      goes_done z.bound self (fail_of z x) 0 0 o _ _ [] s (record { g = g; high = x.high; keeps = keeps_self k x.high; row = tt; is = ap (λ pc. Now (at s o g x pc)) (sym t.pc); ok = ok }, λ e. refl)
  values_next (syntax.expression e no_expressions) s o g x k free p q ok fr small t =
      goes_earning z.bound self (fail_of z x) 6 (suc (size_e e)) 0 0 0 o (Now (at s o g x p.pc)) (item (scope x) e) s _ _ done (omega arith)
      (ih.one_item e s o g x k free free p t.mid ok (record { is = fr; within = (let r = t.room in omega arith) }) (omega arith) t.room t.first)
      (λ vs s1 o1 p1 h.
      let n = to_next z x k free t.mid.pc vs s1 o1 p1 fr t.room h.0 in
      goes_done z.bound self (fail_of z x) 0 0 o1 p1 _ vs s1 (
        record { g = n.g; high = n.high; keeps = n.keeps; row = row_first n.high k vs n.has; is = n.is ∙ ap (λ pc. Now (at s1 o1 n.g (raised x n.high) pc)) (sym t.others.pc); ok = n.ok },
        λ no. ap length (h.1 (sym (related_form (code_of x.a) e) ∙ no)),
      ))
  values_next (syntax.expression e (syntax.expression e2 rest)) s o g x k free p q ok fr small t =
      let es2 = syntax.expression e2 rest in
      goes_earning z.bound self (fail_of z x) 6 (suc (size_e e)) 0 0 (inner_list es2) o (Now (at s o g x p.pc)) (item (scope x) e) s _ _ _ (omega arith)
      (ih.one_item e s o g x k free free p t.mid ok (record { is = fr; within = (let r = t.room in omega arith) }) (omega arith) t.room t.first)
      (λ vs s1 o1 p1 h.
      let n = to_next z x k free t.mid.pc vs s1 o1 p1 fr t.room h.0 in
      goes_from z.bound self (fail_of z x) 0 (inner_list es2) o1 p1 _ _ _ n.is
      (goes_weaken z.bound self (fail_of z x) 0 (inner_list es2 + 0) 0 (inner_list es2) o1 _ _ _ (omega arith) (omega arith)
      (goes_then z.bound self (fail_of z x) 0 (inner_list es2) 0 0 o1 _ _ _ (items es2 (scope x) s1) (λ ws s2. done (first_of vs ∷ ws) s2)
      (values_next (syntax.expression e2 rest) s1 o1 n.g (raised x n.high) (suc k) (free + 1) t.mid q n.ok (omega (arith, fr)) (omega arith) t.others)
      (λ ws s2 o2 p2 h2.
      goes_done z.bound self (fail_of z x) 0 0 o2 p2 _ (first_of vs ∷ ws) s2 (
        record {
          g = h2.0.g;
          high = h2.0.high;
          keeps = keeps_on k (suc k) x.high n.high h2.0.high (omega arith) n.keeps h2.0.keeps;
          row = (h2.0.keeps.old k (omega arith) ∙ n.has, h2.0.row);
          is = h2.0.is;
          ok = h2.0.ok;
        },
        λ no. ap suc (h2.1 no),
      )))))

  -- the last one gives so many more values
  pub values_multi : (e0 : Expression) (es0 : Expressions) (m : ℕ) (s : SourceState) (o : Outside) (g : Ghost) (x : Site) (k free : ℕ) (p q : Spot) → Ok z s g x → free ≡ length x.a.slots + k → free ≤ (own x.a.chunk).registers → inner_list (syntax.expression e0 es0) ≤ z.bound → AllMultiAt (code_of x.a) Op.Call (Some (m + 1)) (all_related (code_of x.a) (syntax.expression e0 es0)) x.a.active free p q → Goes z.bound self (fail_of z x) 0 (inner_list (syntax.expression e0 es0)) o (Now (at s o g x p.pc)) (ValuesPost z x k (length (all_related (code_of x.a) (syntax.expression e0 es0)) + m) q.pc) (items (syntax.expression e0 es0) (scope x) s)
  values_multi e no_expressions m s o g x k free p q ok fr room small t =
      goes_weaken z.bound self (fail_of z x) 0 (suc (size_e e) + 0) 0 (suc (size_e e) + 0) o _ _ _ (omega arith) (omega arith)
      (goes_ask z.bound self (fail_of z x) (suc (size_e e)) 0 0 o (Now (at s o g x p.pc)) (item (scope x) e) s _ _ done
      (ih.all_item e s o g x (Some (m + 1)) k free p q ok (record { is = fr; within = room }) (omega arith) t)
      (λ vs s1 o1 p1 h. goes_done z.bound self (fail_of z x) 0 0 o1 p1 _ vs s1
      (record { g = h.g; high = h.high; keeps = h.keeps; row = subst (λ i. Row h.high k (adjusted i vs)) (let q1 : m + 1 ≡ 1 + m = omega arith in q1) h.held.0; is = h.held.1; ok = h.ok })))
  values_multi e (syntax.expression e2 rest) m s o g x k free p q ok fr room small t =
      let es2 = syntax.expression e2 rest in
      goes_earning z.bound self (fail_of z x) 6 (suc (size_e e)) 0 0 (inner_list es2) o (Now (at s o g x p.pc)) (item (scope x) e) s _ _ _ (omega arith)
      (ih.one_item e s o g x k free free p t.mid ok (record { is = fr; within = room }) (omega arith) t.room t.first)
      (λ vs s1 o1 p1 h.
      let n = to_next z x k free t.mid.pc vs s1 o1 p1 fr t.room h.0 in
      goes_from z.bound self (fail_of z x) 0 (inner_list es2) o1 p1 _ _ _ n.is
      (goes_weaken z.bound self (fail_of z x) 0 (inner_list es2 + 0) 0 (inner_list es2) o1 _ _ _ (omega arith) (omega arith)
      (goes_then z.bound self (fail_of z x) 0 (inner_list es2) 0 0 o1 _ _ _ (items es2 (scope x) s1) (λ ws s2. done (first_of vs ∷ ws) s2)
      (values_multi e2 rest m s1 o1 n.g (raised x n.high) (suc k) (free + 1) t.mid q n.ok (omega (arith, fr)) (let r = t.room in omega arith) (omega arith) t.others)
      (λ ws s2 o2 p2 h2.
      goes_done z.bound self (fail_of z x) 0 0 o2 p2 _ (first_of vs ∷ ws) s2
      (record {
        g = h2.g;
        high = h2.high;
        keeps = keeps_on k (suc k) x.high n.high h2.high (omega arith) n.keeps h2.keeps;
        row = subst (λ i. Row h2.high k (adjusted i (first_of vs ∷ ws))) (let l1 = length (all_related (code_of x.a) (syntax.expression e2 rest)) in let q1 : suc (l1 + m) ≡ suc l1 + m = omega arith in q1) (h2.keeps.old k (omega arith) ∙ n.has, h2.row);
        is = h2.is;
        ok = h2.ok;
      })))))

  -- LOADNIL
  nil_word : (n k free : ℕ) (s : SourceState) (o : Outside) (g : Ghost) (x : Site) (p q : Spot) → Ok z s g x → 0 < n → free ≡ length x.a.slots + k → free + n ≤ (own x.a.chunk).registers → WordAt (code_of x.a) (Piece.Abc Op.LoadNil free (free + n - 1) 0) p q → step (at s o g x p.pc) ≡ Going (at s o g (raised x (spliced x.high k (replicate n nil))) q.pc)
  nil_word n k free s o g x p q ok some fr room w =
      let m : State = at s o g x p.pc in
      let m1 : State = at s o g x (suc p.pc) in
      word_abc x.a Op.LoadNil free (free + n - 1) 0 p q m w refl refl
      ∙ ap (λ i. after m (check (has_registers m1 free (length (replicate i nil))) (Going_on (with_registers m1 (spliced m1.top.registers free (replicate i nil)))))) (let e : suc (free + n - 1) - free ≡ n = omega (arith, some) in e)
      ∙ ap (λ b. after m (check b (Going_on (with_registers m1 (spliced m1.top.registers free (replicate n nil)))))) (has_rows m1 free (length (replicate n nil)) (let l = length_replicate n nil in let r = ok.acts.1 in let h = length-append (map (slot_value s.cells) x.a.slots) x.high in let h1 = length_map (slot_value s.cells) x.a.slots in omega (arith, l, r, h, h1, room)))
      ∙ ap (λ rs. Going (pic s o g (raised x (spliced x.high k (replicate n nil))) (suc p.pc) rs None)) (spliced_above s.cells x.a x.high free k (replicate n nil) fr)
      ∙ ap (λ pc. Going (at s o g (raised x (spliced x.high k (replicate n nil))) pc)) (sym w.next)

  filled : (vs : List Datum) (n c k free : ℕ) (s : SourceState) (o : Outside) (g : Ghost) (x : Site) (p q : Spot) → Ok z s g x → 0 < n → free ≡ length x.a.slots + k → Row x.high k (adjusted c vs) → length vs ≡ c → NilsAt (code_of x.a) (free + c) n p q → (t : ℕ) → Arrive z.bound 1 0 t (Now (at s o g x p.pc)) t (ValuesPost z x k (c + n) q.pc vs s o)
  filled vs n c k free s o g x p q ok some fr row many w t =
      let vs1 : List Datum = replicate n nil in
      let high1 : List Datum = spliced x.high (k + c) vs1 in
      let kp : Keeps (k + c) x.high high1 = record { same = spliced_length x.high (k + c) vs1; old = λ i l. spliced_old x.high (k + c) vs1 i l } in
      let room = w.room in
      let r = ok.acts.1 in
      let ln = length_replicate n nil in
      to_word z.bound t (at s o g x p.pc) (at s o g (raised x high1) q.pc) (ValuesPost z x k (c + n) q.pc vs s o)
      (nil_word n (k + c) (free + c) s o g x p q ok some (omega (arith, fr)) (omega (arith, room)) w.word)
      (record {
        g = g;
        high = high1;
        keeps = record { same = kp.same; old = λ i l. kp.old i (omega arith) };
        row = row_filled high1 k n c vs many (row_kept x.high high1 k (k + c) c vs (omega arith) kp row) (spliced_row x.high (k + c) vs1 (omega (arith, room, r, ln, fr)));
        is = refl;
        ok = ok_high z s g x x.high high1 (sym kp.same) ok;
      })

  -- a list's values are so many
  pub adjust_goes : (es : Expressions) (n : ℕ) (s : SourceState) (o : Outside) (g : Ghost) (x : Site) (k free : ℕ) (p q : Spot) → Ok z s g x → free ≡ length x.a.slots + k → free ≤ (own x.a.chunk).registers → inner_list es ≤ z.bound → AdjustAt (code_of x.a) (all_related (code_of x.a) es) n x.a.active free p q → Goes z.bound self (fail_of z x) 1 (inner_list es) o (Now (at s o g x p.pc)) (ValuesPost z x k n q.pc) (items es (scope x) s)
  adjust_goes es n s o g x k free p q ok fr room small w = by (nat_lt (length (all_related (code_of x.a) es)) n) refl w
    where
      fill : (es : Expressions) (c : Bool) → rels_open (all_related (code_of x.a) es) ≡ c → length (all_related (code_of x.a) es) < n → inner_list es ≤ z.bound → FilledAt c (code_of x.a) (all_related (code_of x.a) es) (n - length (all_related (code_of x.a) es)) x.a.active free p q → Goes z.bound self (fail_of z x) 1 (inner_list es) o (Now (at s o g x p.pc)) (ValuesPost z x k n q.pc) (items es (scope x) s)
      fill no_expressions true e l small w = cc
      fill (syntax.expression e0 es0) true e l small w =
          let c = length (all_related (code_of x.a) (syntax.expression e0 es0)) in
          subst (λ i. Goes z.bound self (fail_of z x) 1 (inner_list (syntax.expression e0 es0)) o (Now (at s o g x p.pc)) (ValuesPost z x k i q.pc) (items (syntax.expression e0 es0) (scope x) s)) (let e1 : c + (n - c) ≡ n = omega arith in e1)
          (goes_weaken z.bound self (fail_of z x) 0 (inner_list (syntax.expression e0 es0)) 1 (inner_list (syntax.expression e0 es0)) o _ _ _ (omega arith) (omega arith)
          (values_multi e0 es0 (n - c) s o g x k free p q ok fr room small w))
      fill es false e l small w =
          let c = length (all_related (code_of x.a) es) in
          subst (λ i. Goes z.bound self (fail_of z x) 1 (inner_list es) o (Now (at s o g x p.pc)) (ValuesPost z x k i q.pc) (items es (scope x) s)) (let e1 : c + (n - c) ≡ n = omega arith in e1)
          (goes_more z.bound self (fail_of z x) 0 1 (inner_list es) o _ _ (ValuesPost z x k (c + (n - c)) q.pc) (items es (scope x) s)
          (values_next es s o g x k free p w.mid ok fr small w.first_at)
          (λ vs s1 o1 p1 h t.
          let x1 : Site = raised x h.0.high in
          subst (λ y. Arrive z.bound 1 0 t y t (ValuesPost z x k (c + (n - c)) q.pc vs s1 o1)) (sym h.0.is)
          (lifted vs (c + (n - c)) s1 o1 h.0.high (Now (at s1 o1 h.0.g x1 w.mid.pc)) h.0.keeps t
          (filled vs (n - c) c k free s1 o1 h.0.g x1 w.mid q h.0.ok (omega arith) fr h.0.row (h.1 e) w.second_at t))))
        where
          lifted : (vs : List Datum) (i : ℕ) (s1 : SourceState) (o1 : Outside) (high : List Datum) (p1 : Place) → Keeps k x.high high → (t : ℕ) → Arrive z.bound 1 0 t p1 t (ValuesPost z (raised x high) k i q.pc vs s1 o1) → Arrive z.bound 1 0 t p1 t (ValuesPost z x k i q.pc vs s1 o1)
          lifted vs i s1 o1 high p1 kp t a = record { to = a.to; holds = record { g = a.holds.g; high = a.holds.high; keeps = keeps_on k k x.high high a.holds.high (omega arith) kp a.holds.keeps; row = a.holds.row; is = a.holds.is; ok = a.holds.ok }; reach = a.reach }

      by : (b : Bool) → nat_lt (length (all_related (code_of x.a) es)) n ≡ b → AdjustBy b (code_of x.a) (all_related (code_of x.a) es) n x.a.active free p q → Goes z.bound self (fail_of z x) 1 (inner_list es) o (Now (at s o g x p.pc)) (ValuesPost z x k n q.pc) (items es (scope x) s)
      by true e w = fill es (rels_open (all_related (code_of x.a) es)) refl (let c = length (all_related (code_of x.a) es) in grind (arith, nat_tests)) small w
      by false e w =
          let c = length (all_related (code_of x.a) es) in
          let l : n ≤ length (all_related (code_of x.a) es) = grind (arith, nat_tests) in
          goes_weaken z.bound self (fail_of z x) 0 (inner_list es) 1 (inner_list es) o _ _ _ (omega arith) (omega arith)
          (goes_post z.bound self (fail_of z x) 0 (inner_list es) o _ _ (ValuesPost z x k n q.pc) _ (λ vs s1 o1 p1 h. record { g = h.0.g; high = h.0.high; keeps = h.0.keeps; row = row_less h.0.high k n (length (all_related (code_of x.a) es)) vs l h.0.row; is = h.0.is; ok = h.0.ok })
          (values_next es s o g x k free p q ok fr small w))

  -- the last one's values are left open behind the others
  pub values_open : (e0 : Expression) (es0 : Expressions) (s : SourceState) (o : Outside) (g : Ghost) (x : Site) (k free : ℕ) (p q : Spot) → Ok z s g x → free ≡ length x.a.slots + k → free ≤ (own x.a.chunk).registers → inner_list (syntax.expression e0 es0) ≤ z.bound → AllMultiAt (code_of x.a) Op.Call None (all_related (code_of x.a) (syntax.expression e0 es0)) x.a.active free p q → Goes z.bound self (fail_of z x) 0 (inner_list (syntax.expression e0 es0)) o (Now (at s o g x p.pc)) (ListPost z x None k free q.pc) (items (syntax.expression e0 es0) (scope x) s)
  values_open e no_expressions s o g x k free p q ok fr room small t =
      goes_weaken z.bound self (fail_of z x) 0 (suc (size_e e) + 0) 0 (suc (size_e e) + 0) o _ (ListPost z x None k free q.pc) _ (omega arith) (omega arith)
      (goes_ask z.bound self (fail_of z x) (suc (size_e e)) 0 0 o (Now (at s o g x p.pc)) (item (scope x) e) s (ListPost z x None k free q.pc) (ListPost z x None k free q.pc) done
      (ih.all_item e s o g x None k free p q ok (record { is = fr; within = room }) (omega arith) t)
      (λ vs s1 o1 p1 h. goes_done z.bound self (fail_of z x) 0 0 o1 p1 (ListPost z x None k free q.pc) vs s1 h))
  values_open e (syntax.expression e2 rest) s o g x k free p q ok fr room small t =
      let es2 = syntax.expression e2 rest in
      goes_earning z.bound self (fail_of z x) 6 (suc (size_e e)) 0 0 (inner_list es2) o (Now (at s o g x p.pc)) (item (scope x) e) s _ (ListPost z x None k free q.pc) _ (omega arith)
      (ih.one_item e s o g x k free free p t.mid ok (record { is = fr; within = room }) (omega arith) t.room t.first)
      (λ vs s1 o1 p1 h.
      let n = to_next z x k free t.mid.pc vs s1 o1 p1 fr t.room h.0 in
      goes_from z.bound self (fail_of z x) 0 (inner_list es2) o1 p1 _ (ListPost z x None k free q.pc) _ n.is
      (goes_weaken z.bound self (fail_of z x) 0 (inner_list es2 + 0) 0 (inner_list es2) o1 _ (ListPost z x None k free q.pc) _ (omega arith) (omega arith)
      (goes_then z.bound self (fail_of z x) 0 (inner_list es2) 0 0 o1 _ _ (ListPost z x None k free q.pc) (items es2 (scope x) s1) (λ ws s2. done (first_of vs ∷ ws) s2)
      (values_open e2 rest s1 o1 n.g (raised x n.high) (suc k) (free + 1) t.mid q n.ok (omega (arith, fr)) (let r = t.room in omega arith) (omega arith) t.others)
      (λ ws s2 o2 p2 h2.
      let front : List Datum = h2.held.0 in
      let left : List Datum = h2.held.1 in
      goes_done z.bound self (fail_of z x) 0 0 o2 p2 (ListPost z x None k free q.pc) (first_of vs ∷ ws) s2
      (record {
        g = h2.g;
        high = h2.high;
        keeps = keeps_on k (suc k) x.high n.high h2.high (omega arith) n.keeps h2.keeps;
        held = (first_of vs ∷ front, left, (h2.keeps.old k (omega arith) ∙ n.has, h2.held.2), ap (λ us. first_of vs ∷ us) h2.held.3, h2.held.4 ∙ ap (λ i. Now (pic s2 o2 h2.g (raised x h2.high) q.pc (registers s2.cells x.a h2.high) (Some (record { first = i; values = left })))) (let a : free + 1 + length front ≡ free + suc (length front) = omega arith in a));
        ok = h2.ok;
      })))))
