-- The items of a constructor without keys: SETLIST takes them in batches.
use Rattle.std.proofs.Common.{◌≡◌, ◌≢◌, ◌≤◌, ◌<◌, ℕ, suc, ◌+◌, ◌-◌, ◌*◌, ◌/◌, ◌%◌, ◌==◌, Bool, true, false, List, [], ◌∷◌, ◌++◌, length, Some, None, cond, refl, sym, ap, ◌∙◌, subst, arith, nat_lt, nat_le, div-add-mod', mod-lt, length-append, pos, ◌+ℤ◌, ◌-ℤ◌, ◌*ℤ◌}
use Rattle.std.specs.Prelude.{slice_get, if◌then◌else◌}
use Rattle.std.proofs.lemmas.Bool.Decides.{nat_tests}
use Rattle.std.proofs.lemmas.Int.{ints}
use Rattle.opcode.specs.declared.op.Op.{Op}
use Rattle.opcode.specs.declared.word.Instr.{Instr}
use Rattle.proto.specs.Chunk.{own}
use Rattle.scheme.specs.Lists.{pending_after}
use Rattle.lua_model.specs.Datum.{Datum, table, first_of}
use Rattle.lua_model.specs.Store.{Outside, with_items}
use Rattle.source_meaning.specs.State.{State as SourceState, with_store}
use Rattle.source_meaning.specs.Programs.{Prog, done, ask}
use Rattle.source_meaning.specs.Tasks.{Task, Gives, item, named_item, keyed_item}
use Rattle.source_meaning.specs.Meaning.{set_entries, fields}
use Rattle.lua_tree.specs.Syntax.{Expression, Fields, no_fields, positional, named, keyed}
use Rattle.agrees.proofs.NextRegister.{to_next}
use Rattle.agrees.proofs.Registers.{high_get, span_row, row_keep}
use Rattle.agrees.proofs.Tasks.{scope, Simulates}
use Rattle.agrees.proofs.Posts.{Keeps, keeps_self, Row, AtPost, fail_of}
use Rattle.agrees.proofs.Sizes.{size_e, inner_fields, call_cost}
use Rattle.rules.specs.State.{State, need}
use Rattle.rules.specs.Calls.{skip}
use Rattle.rules.specs.Run.{Going, step, after}
use Rattle.rules.specs.Step.{do_setlist, set_list, listed, list_of}
use Rattle.scheme_stands.specs.Words.{Spot, Seq}
use Rattle.scheme_stands.specs.Expressions.{several, form_of}
use Rattle.scheme_stands.specs.Lists.{SetListAt, SetListBy, SetListIf, ItemBy, FirstAt}
use Rattle.scheme_stands.specs.Relation.{ItemsAt, related}
use Rattle.agrees.proofs.Lists.{within}
use Rattle.agrees.proofs.Accounts.{Place, Now, Post, Self, Asks, Goes, goes_word, goes_done, goes_from, goes_ask, goes_weaken, goes_earning, goes_post}
use Rattle.agrees.proofs.Words.{word_abc}
use Rattle.agrees.proofs.Picture.{code_of, Setup, Ghost, Site, raised, at, Ok}

-- the key of the first of a batch
pub batch_key : (c n : ℕ) → 0 < n → n ≤ 50 → (pos ((50 * c + n - 1) / 50 + 1) -ℤ pos 1) *ℤ pos 50 +ℤ pos 1 ≡ pos (suc (50 * c))
batch_key c n l h =
    let fifty : 0 < 50 = omega arith in
    let small : (50 * c + n - 1) % 50 < 50 = mod-lt (50 * c + n - 1) fifty in
    let whole = div-add-mod' (50 * c + n - 1) 50 in
    let q : (50 * c + n - 1) / 50 ≡ c = omega (arith, small, whole, l, h) in
    ap (λ b. (pos (b + 1) -ℤ pos 1) *ℤ pos 50 +ℤ pos 1) q ∙ omega (arith, ints)

module _ (z : Setup) where
  -- what SETLIST does, with its batch in registers, when its block is known
  set_tail : (x : Site) (s : SourceState) (o : Outside) (g : Ghost) (t k tb block pc c : ℕ) (vs : List Datum) (m0 : State) → t ≡ length x.a.slots + k → k < length x.high → slice_get x.high k ≡ Some (table tb) → Row x.high (suc k) vs → 0 < length vs → after m0 (do_setlist (at s o g x pc) (record { op = Op.SetList; a = t; b = length vs; c = c; bx = 0; sbx = pos 0 }) block) ≡ Going (at (with_store s (with_items s.store tb ((pos block -ℤ pos 1) *ℤ pos 50 +ℤ pos 1) vs)) o g x pc)
  set_tail x s o g t k tb block pc c vs m0 e l there row some =
      let m1 : State = at s o g x pc in
      ap (λ r. after m0 (need r (λ d. listed m1 (suc t) (list_of (length vs)) (λ m2 us. set_list m2 block d us)))) (high_get s.cells x.a x.high t k e ∙ there)
      ∙ ap (λ b. after m0 (listed m1 (suc t) (if b then None else Some (length vs)) (λ m2 us. set_list m2 block (table tb) us))) (let f : (length vs == 0) ≡ false = grind (arith, nat_tests) in f)
      ∙ ap (λ r. after m0 (need r (λ us. set_list m1 block (table tb) us))) (span_row s.cells x.a x.high vs (suc t) (suc k) m1 refl (omega (arith, e)) (omega (arith, l)) row)

  -- SETLIST, whose block is in the word or in the one behind it
  pub setlist_word : (small : Bool) (x : Site) (s : SourceState) (o : Outside) (g : Ghost) (t k tb block : ℕ) (vs : List Datum) (p q : Spot) → t ≡ length x.a.slots + k → k < length x.high → slice_get x.high k ≡ Some (table tb) → Row x.high (suc k) vs → 0 < length vs → 0 < block → SetListBy small (code_of x.a) t (length vs) block p q → step (at s o g x p.pc) ≡ Going (at (with_store s (with_items s.store tb ((pos block -ℤ pos 1) *ℤ pos 50 +ℤ pos 1) vs)) o g x q.pc)
  setlist_word true x s o g t k tb block vs p q e l there row some nz w =
      let m0 : State = at s o g x p.pc in
      let m1 : State = at s o g x (suc p.pc) in
      let i : Instr = record { op = Op.SetList; a = t; b = length vs; c = block; bx = 0; sbx = pos 0 } in
      word_abc x.a Op.SetList t (length vs) block p q m0 w refl refl
      ∙ ap (λ b. after m0 (if b then need (slice_get (own x.a.chunk).code (suc p.pc)) (λ bl. do_setlist (skip m1) i bl) else do_setlist m1 i block)) (let f : (block == 0) ≡ false = grind (arith, nat_tests) in f)
      ∙ set_tail x s o g t k tb block (suc p.pc) block vs m0 e l there row some
      ∙ ap (λ pc. Going (at (with_store s (with_items s.store tb ((pos block -ℤ pos 1) *ℤ pos 50 +ℤ pos 1) vs)) o g x pc)) (sym w.next)
  setlist_word false x s o g t k tb block vs p q e l there row some nz w =
      let m0 : State = at s o g x p.pc in
      let m1 : State = at s o g x (suc p.pc) in
      let i : Instr = record { op = Op.SetList; a = t; b = length vs; c = 0; bx = 0; sbx = pos 0 } in
      word_abc x.a Op.SetList t (length vs) 0 p w.mid m0 w.first_at refl refl
      ∙ ap (λ bl. after m0 (need bl (λ bl1. do_setlist (skip m1) i bl1))) (ap (slice_get (own x.a.chunk).code) (sym w.first_at.next) ∙ w.second_at.has)
      ∙ set_tail x s o g t k tb block (suc (suc p.pc)) 0 vs m0 e l there row some
      ∙ ap (λ pc. Going (at (with_store s (with_items s.store tb ((pos block -ℤ pos 1) *ℤ pos 50 +ℤ pos 1) vs)) o g x pc)) (sym (w.second_at.next ∙ ap suc w.first_at.next))

  -- a batch goes into the table, as the source does it
  pub batch : (x : Site) (s : SourceState) (o : Outside) (g : Ghost) (t k tb c : ℕ) (vs : List Datum) (p q : Spot) → Ok z s g x → t ≡ length x.a.slots + k → k < length x.high → slice_get x.high k ≡ Some (table tb) → Row x.high (suc k) vs → 0 < length vs → length vs ≤ 50 → SetListAt (code_of x.a) t (length vs) (50 * c + length vs) p q → step (at s o g x p.pc) ≡ Going (at (set_entries tb (50 * c) vs s) o g x q.pc)
  batch x s o g t k tb c vs p q ok e l there row some few w =
      let block : ℕ = (50 * c + length vs - 1) / 50 + 1 in
      setlist_word (nat_le block 511) x s o g t k tb block vs p q e l there row some (omega arith) w
      ∙ ap (λ key. Going (at (with_store s (with_items s.store tb key vs)) o g x q.pc)) (batch_key c (length vs) some few)

-- ## the items

row_snoc : (high vs : List Datum) (k : ℕ) (v : Datum) → Row high k vs → slice_get high (k + length vs) ≡ Some v → Row high k (vs ++ v ∷ [])
row_snoc high [] k v h e = (ap (slice_get high) (let q : k ≡ k + 0 = omega arith in q) ∙ e, tt)
row_snoc high (w ∷ vs) k v h e = (h.0, row_snoc high vs (suc k) v h.1 (ap (slice_get high) (let q : suc k + length vs ≡ k + suc (length vs) = omega arith in q) ∙ e))

abbrev pub count_of : Fields → ℕ
count_of no_fields = 0
count_of (positional e sep rest) = suc (count_of rest)
count_of (named name e sep rest) = count_of rest
count_of (keyed key e sep rest) = count_of rest

-- what is pending, in registers behind the table
pub record Pending (x : Site) (k t tb : ℕ) (vs : List Datum) : Type 0 where
  pub at_t : t ≡ length x.a.slots + k
  pub holds_table : slice_get x.high k ≡ Some (table tb)
  pub row : Row x.high (suc k) vs

length_snoc : (vs : List Datum) (v : Datum) → length (vs ++ v ∷ []) ≡ suc (length vs)
length_snoc vs v = omega (arith, length-append vs (v ∷ []))

-- no list has more items than the limit, which is any number
module _ (z : Setup) (self : Self) (ih : Simulates z self) (limit : ℕ) where
  abbrev DonePost : Site → ℕ → ℕ → Post (Unit {0})
  DonePost x k q u s o p = AtPost z x (suc k) q s o p

  -- the pending items go into the table, and the machine is at q
  flush : (x : Site) (k t tb c : ℕ) (vs : List Datum) (s : SourceState) (o : Outside) (g : Ghost) (p q : Spot) → Ok z s g x → Pending x k t tb vs → 0 < length vs → length vs ≤ 50 → 50 * c + length vs ≤ limit → SetListAt (code_of x.a) t (length vs) (50 * c + length vs) p q → step (at s o g x p.pc) ≡ Going (at (set_entries tb (50 * c) vs s) o g x q.pc)
  flush x k t tb c vs s o g p q ok pd some few all w =
      batch z x s o g t k tb c vs p q ok pd.at_t (within x.high k (table tb) pd.holds_table) pd.holds_table pd.row some few w

  ends_items : (x : Site) (k t tb c : ℕ) (vs : List Datum) (s : SourceState) (o : Outside) (g : Ghost) (p q : Spot) → Ok z s g x → Pending x k t tb vs → length vs ≤ 50 → 50 * c + length vs ≤ limit → (b : Bool) → nat_lt 0 (length vs) ≡ b → SetListIf b (code_of x.a) t (length vs) (50 * c + length vs) p q → Goes z.bound self (fail_of z x) 1 0 o (Now (at s o g x p.pc)) (DonePost x k q.pc) (done tt (set_entries tb (50 * c) vs s))
  ends_items x k t tb c vs s o g p q ok pd few all true e w =
      let s1 : SourceState = set_entries tb (50 * c) vs s in
      goes_word z.bound self (fail_of z x) 0 0 o (at s o g x p.pc) (at s1 o g x q.pc) (DonePost x k q.pc) (done tt s1) (flush x k t tb c vs s o g p q ok pd (grind (arith, nat_tests)) few all w)
      (goes_done z.bound self (fail_of z x) 0 0 o (Now (at s1 o g x q.pc)) (DonePost x k q.pc) tt s1 (record { g = g; high = x.high; keeps = keeps_self (suc k) x.high; is = refl; ok = ok }))
  ends_items x k t tb c [] s o g p q ok pd few all false e w =
      goes_done z.bound self (fail_of z x) 1 0 o (Now (at s o g x p.pc)) (DonePost x k q.pc) tt s (record { g = g; high = x.high; keeps = keeps_self (suc k) x.high; is = ap (λ pc. Now (at s o g x pc)) (sym w.pc); ok = ok })
  ends_items x k t tb c (v ∷ vs) s o g p q ok pd few all false e w = absurd (let q1 : nat_lt 0 (length (v ∷ vs)) ≡ true = grind (arith, nat_tests) in let q2 : true ≡ false = sym q1 ∙ e in cc)

  -- an item's value behind the pending ones
  one_more : (x : Site) (k t tb : ℕ) (pend : List Datum) (v : Datum) (high : List Datum) → Pending x k t tb pend → Keeps (suc k + length pend) x.high high → slice_get high (suc k + length pend) ≡ Some v → Pending (raised x high) k t tb (pend ++ v ∷ [])
  one_more x k t tb pend v high pd kp e = record {
    at_t = pd.at_t;
    holds_table = kp.old k (omega arith) ∙ pd.holds_table;
    row = row_snoc high pend (suc k) v (row_keep x.high high pend (suc k) (suc k + length pend) (omega arith) kp.old pd.row) e;
  }

  -- a positional item that is not left open, and what follows it
  item_goes : {B : Type 0} (e : Expression) (s : SourceState) (o : Outside) (g : Ghost) (x : Site) (k t tb : ℕ) (pend : List Datum) (p mid : Spot) (j S : ℕ) (P : Post B) (go : List Datum → SourceState → Prog B) → Ok z s g x → Pending x k t tb pend → size_e e ≤ z.bound → t + suc (length pend) < (own x.a.chunk).registers → (related (code_of x.a) e).to_reg x.a.active (t + suc (length pend)) (t + suc (length pend)) p mid → ((vs : List Datum) (s1 : SourceState) (o1 : Outside) (g1 : Ghost) (high : List Datum) → Keeps (suc k) x.high high → Ok z s1 g1 (raised x high) → Pending (raised x high) k t tb (pend ++ first_of vs ∷ []) → (several (form_of e) ≡ false → vs ≡ first_of vs ∷ []) → Goes z.bound self (fail_of z x) (6 + j) S o1 (Now (at s1 o1 g1 (raised x high) mid.pc)) P (go vs s1)) → Goes z.bound self (fail_of z x) j (suc (size_e e) + S) o (Now (at s o g x p.pc)) P (ask (item (scope x) e) s go)
  item_goes e s o g x k t tb pend p mid j S P go ok pd small room w after =
      let free : ℕ = t + suc (length pend) in
      let kk : ℕ = suc k + length pend in
      let fr : free ≡ length x.a.slots + kk = let a = pd.at_t in omega (arith, a) in
      goes_earning z.bound self (fail_of z x) 6 (suc (size_e e)) j (6 + j) S o (Now (at s o g x p.pc)) (item (scope x) e) s _ P go (omega arith)
      (ih.one_item e s o g x kk free free p mid ok (record { is = fr; within = omega arith }) small room w)
      (λ vs s1 o1 p1 h.
      let n = to_next z x kk free mid.pc vs s1 o1 p1 fr room h.0 in
      goes_from z.bound self (fail_of z x) (6 + j) S o1 p1 _ P (go vs s1) n.is
      (after vs s1 o1 n.g n.high (keeps_less (suc k) kk x.high n.high (omega arith) n.keeps) n.ok (one_more x k t tb pend (first_of vs) n.high pd n.keeps n.has) h.1))
    where
      keeps_less : (k k1 : ℕ) (h h1 : List Datum) → k ≤ k1 → Keeps k1 h h1 → Keeps k h h1
      keeps_less k k1 h h1 l a = record { same = a.same; old = λ i b. a.old i (omega arith) }

  abbrev FieldsBy : Fields → Type 0
  FieldsBy fs =
      (s : SourceState) (o : Outside) (g : Ghost) (x : Site) (k t tb c : ℕ) (pend : List Datum) (p q : Spot) →
      Ok z s g x → Pending x k t tb pend → length pend < 50 → inner_fields fs ≤ z.bound → 50 * c + length pend + count_of fs ≤ limit → ItemsAt (code_of x.a) fs x.a.active t (50 * c + length pend) (length pend) p q →
      Goes z.bound self (fail_of z x) 1 (inner_fields fs) o (Now (at s o g x p.pc)) (DonePost x k q.pc) (fields fs (scope x) tb (50 * c) pend s)

  at_less : (x : Site) (high : List Datum) (k k1 q : ℕ) (s : SourceState) (o : Outside) (p : Place) → k ≤ k1 → Keeps k1 x.high high → AtPost z (raised x high) k q s o p → AtPost z x k q s o p
  at_less x high k k1 q s o p l a h = record { g = h.g; high = h.high; keeps = record { same = h.keeps.same ∙ a.same; old = λ i b. h.keeps.old i b ∙ a.old i (omega arith) }; is = h.is; ok = h.ok }

  after_more : (n : ℕ) → suc n ≢ 50 → pending_after (suc n) ≡ suc n
  after_more n h = ap (λ b. cond b 0 (suc n)) (let f : (suc n == 50) ≡ false = grind (arith, nat_tests) in f)

  -- a positional item and the rest of the items
  next_item : (e : Expression) (rest : Fields) → FieldsBy rest → (s : SourceState) (o : Outside) (g : Ghost) (x : Site) (k t tb c : ℕ) (pend : List Datum) (p q : Spot) → Ok z s g x → Pending x k t tb pend → length pend < 50 → suc (size_e e) + inner_fields rest ≤ z.bound → 50 * c + length pend + suc (count_of rest) ≤ limit → FirstAt (code_of x.a) (related (code_of x.a) e) x.a.active (t + suc (length pend)) (Seq (SetListIf (suc (length pend) == 50) (code_of x.a) t 50 (suc (50 * c + length pend))) (ItemsAt (code_of x.a) rest x.a.active t (suc (50 * c + length pend)) (pending_after (suc (length pend))))) p q → Goes z.bound self (fail_of z x) 1 (suc (size_e e) + inner_fields rest) o (Now (at s o g x p.pc)) (DonePost x k q.pc) (ask (item (scope x) e) s (λ vs s1. elim (length pend == 49) [ true ↦ fields rest (scope x) tb (50 * c + 50) [] (set_entries tb (50 * c) (pend ++ first_of vs ∷ []) s1) | false ↦ fields rest (scope x) tb (50 * c) (pend ++ first_of vs ∷ []) s1 ]))
  next_item e rest again s o g x k t tb c pend p q ok pd few small all w =
      item_goes e s o g x k t tb pend p w.mid 1 (inner_fields rest) (DonePost x k q.pc) _ ok pd (omega arith) w.room w.first
      (λ vs s1 o1 g1 high kp ok1 pd1 single. decide (first_of vs) s1 o1 g1 high kp ok1 pd1 (length pend == 49) refl)
    where
      decide : (v : Datum) (s1 : SourceState) (o1 : Outside) (g1 : Ghost) (high : List Datum) → Keeps (suc k) x.high high → Ok z s1 g1 (raised x high) → Pending (raised x high) k t tb (pend ++ v ∷ []) → (b : Bool) → (length pend == 49) ≡ b → Goes z.bound self (fail_of z x) 7 (inner_fields rest) o1 (Now (at s1 o1 g1 (raised x high) w.mid.pc)) (DonePost x k q.pc) (elim b [ true ↦ fields rest (scope x) tb (50 * c + 50) [] (set_entries tb (50 * c) (pend ++ v ∷ []) s1) | false ↦ fields rest (scope x) tb (50 * c) (pend ++ v ∷ []) s1 ])
      decide v s1 o1 g1 high kp ok1 pd1 true eb =
          let many : length pend ≡ 49 = grind (arith, nat_tests) in
          let full : length (pend ++ v ∷ []) ≡ 50 = length_snoc pend v ∙ ap suc many in
          let x1 : Site = raised x high in
          let s2 : SourceState = set_entries tb (50 * c) (pend ++ v ∷ []) s1 in
          let d : suc (50 * c + length pend) ≡ 50 * c + length (pend ++ v ∷ []) = omega (arith, many, full) in
          let at_list : SetListAt (code_of x.a) t (length (pend ++ v ∷ [])) (50 * c + length (pend ++ v ∷ [])) w.mid w.others.mid =
          subst (λ n. SetListAt (code_of x.a) t n (50 * c + length (pend ++ v ∷ [])) w.mid w.others.mid) (sym full)
          (subst (λ n. SetListAt (code_of x.a) t 50 n w.mid w.others.mid) d
          (subst (λ b1. SetListIf b1 (code_of x.a) t 50 (suc (50 * c + length pend)) w.mid w.others.mid) (let f : (suc (length pend) == 50) ≡ true = grind (arith, nat_tests) in f) w.others.first_at)) in
          let next : 50 * suc c ≡ 50 * c + 50 = omega arith in
          goes_weaken z.bound self (fail_of z x) 2 (inner_fields rest) 7 (inner_fields rest) o1 _ (DonePost x k q.pc) _ (omega arith) (omega arith)
          (goes_word z.bound self (fail_of z x) 1 (inner_fields rest) o1 _ (at s2 o1 g1 x1 w.others.mid.pc) (DonePost x k q.pc) _ (flush x1 k t tb c (pend ++ v ∷ []) s1 o1 g1 w.mid w.others.mid ok1 pd1 (omega (arith, full)) (omega (arith, full)) (omega (arith, full, many, all)) at_list)
          (goes_post z.bound self (fail_of z x) 1 (inner_fields rest) o1 _ (DonePost x1 k q.pc) (DonePost x k q.pc) _ (λ u s3 o3 p3 h. at_less x high (suc k) (suc k) q.pc s3 o3 p3 (omega arith) kp h)
          (subst (λ n. Goes z.bound self (fail_of z x) 1 (inner_fields rest) o1 (Now (at s2 o1 g1 x1 w.others.mid.pc)) (DonePost x1 k q.pc) (fields rest (scope x) tb n [] s2)) next
          (again s2 o1 g1 x1 k t tb (suc c) [] w.others.mid q ok1 (record { at_t = pd1.at_t; holds_table = pd1.holds_table; row = tt }) (omega arith) (omega arith) (omega (arith, all, many))
          (subst (λ n. ItemsAt (code_of x.a) rest x.a.active t n 0 w.others.mid q) (let f : suc (50 * c + length pend) ≡ 50 * suc c + 0 = omega (arith, many) in f)
          (subst (λ n. ItemsAt (code_of x.a) rest x.a.active t (suc (50 * c + length pend)) n w.others.mid q) (let f : pending_after (suc (length pend)) ≡ 0 = ap (λ n. pending_after (suc n)) many in f) w.others.second_at))))))
      decide v s1 o1 g1 high kp ok1 pd1 false eb =
          let fewer : length pend ≢ 49 = λ y. (let f : (length pend == 49) ≡ true = grind (arith, nat_tests) in let h : true ≡ false = sym f ∙ eb in cc) in
          let x1 : Site = raised x high in
          let n1 : suc (length pend) ≡ length (pend ++ v ∷ []) = sym (length_snoc pend v) in
          let no : SetListIf false (code_of x.a) t 50 (suc (50 * c + length pend)) w.mid w.others.mid = subst (λ b1. SetListIf b1 (code_of x.a) t 50 (suc (50 * c + length pend)) w.mid w.others.mid) (let f : (suc (length pend) == 50) ≡ false = grind (arith, nat_tests) in f) w.others.first_at in
          goes_weaken z.bound self (fail_of z x) 1 (inner_fields rest) 7 (inner_fields rest) o1 _ (DonePost x k q.pc) _ (omega arith) (omega arith)
          (subst (λ pc. Goes z.bound self (fail_of z x) 1 (inner_fields rest) o1 (Now (at s1 o1 g1 x1 pc)) (DonePost x k q.pc) (fields rest (scope x) tb (50 * c) (pend ++ v ∷ []) s1)) no.pc
          (goes_post z.bound self (fail_of z x) 1 (inner_fields rest) o1 _ (DonePost x1 k q.pc) (DonePost x k q.pc) _ (λ u s3 o3 p3 h. at_less x high (suc k) (suc k) q.pc s3 o3 p3 (omega arith) kp h)
          (again s1 o1 g1 x1 k t tb c (pend ++ v ∷ []) w.others.mid q ok1 pd1 (omega (arith, n1, fewer, few)) (omega arith) (omega (arith, all, n1))
          (subst (λ n. ItemsAt (code_of x.a) rest x.a.active t n (length (pend ++ v ∷ [])) w.others.mid q) (let f : suc (50 * c + length pend) ≡ 50 * c + length (pend ++ v ∷ []) = omega (arith, n1) in f)
          (subst (λ n. ItemsAt (code_of x.a) rest x.a.active t (suc (50 * c + length pend)) n w.others.mid q) (after_more (length pend) (λ y. fewer (let f : length pend ≡ 49 = omega arith in f)) ∙ n1) w.others.second_at)))))

  -- the last item, which gives one value
  last_item : (e : Expression) → several (form_of e) ≡ false → (s : SourceState) (o : Outside) (g : Ghost) (x : Site) (k t tb c : ℕ) (pend : List Datum) (p q : Spot) → Ok z s g x → Pending x k t tb pend → length pend < 50 → suc (size_e e) ≤ z.bound → 50 * c + length pend + 1 ≤ limit → FirstAt (code_of x.a) (related (code_of x.a) e) x.a.active (t + suc (length pend)) (Seq (SetListIf (suc (length pend) == 50) (code_of x.a) t 50 (suc (50 * c + length pend))) (SetListIf (nat_lt 0 (pending_after (suc (length pend)))) (code_of x.a) t (pending_after (suc (length pend))) (suc (50 * c + length pend)))) p q → Goes z.bound self (fail_of z x) 1 (suc (size_e e) + 0) o (Now (at s o g x p.pc)) (DonePost x k q.pc) (ask (item (scope x) e) s (λ vs s1. done tt (set_entries tb (50 * c) (pend ++ vs) s1)))
  last_item e one s o g x k t tb c pend p q ok pd few small all w =
      item_goes e s o g x k t tb pend p w.mid 1 0 (DonePost x k q.pc) _ ok pd (omega arith) w.room w.first
      (λ vs s1 o1 g1 high kp ok1 pd1 single.
      subst (λ us. Goes z.bound self (fail_of z x) 7 0 o1 (Now (at s1 o1 g1 (raised x high) w.mid.pc)) (DonePost x k q.pc) (done tt (set_entries tb (50 * c) (pend ++ us) s1))) (sym (single one))
      (decide (first_of vs) s1 o1 g1 high kp ok1 pd1 (suc (length pend) == 50) refl))
    where
      decide : (v : Datum) (s1 : SourceState) (o1 : Outside) (g1 : Ghost) (high : List Datum) → Keeps (suc k) x.high high → Ok z s1 g1 (raised x high) → Pending (raised x high) k t tb (pend ++ v ∷ []) → (b : Bool) → (suc (length pend) == 50) ≡ b → Goes z.bound self (fail_of z x) 7 0 o1 (Now (at s1 o1 g1 (raised x high) w.mid.pc)) (DonePost x k q.pc) (done tt (set_entries tb (50 * c) (pend ++ v ∷ []) s1))
      decide v s1 o1 g1 high kp ok1 pd1 true eb =
          let many : length pend ≡ 49 = grind (arith, nat_tests) in
          let full : length (pend ++ v ∷ []) ≡ 50 = length_snoc pend v ∙ ap suc many in
          let x1 : Site = raised x high in
          let d : suc (50 * c + length pend) ≡ 50 * c + length (pend ++ v ∷ []) = omega (arith, many, full) in
          let at_list : SetListAt (code_of x.a) t (length (pend ++ v ∷ [])) (50 * c + length (pend ++ v ∷ [])) w.mid w.others.mid =
          subst (λ n. SetListAt (code_of x.a) t n (50 * c + length (pend ++ v ∷ [])) w.mid w.others.mid) (sym full)
          (subst (λ n. SetListAt (code_of x.a) t 50 n w.mid w.others.mid) d
          (subst (λ b1. SetListIf b1 (code_of x.a) t 50 (suc (50 * c + length pend)) w.mid w.others.mid) eb w.others.first_at)) in
          let none : SetListIf false (code_of x.a) t 0 (suc (50 * c + length pend)) w.others.mid q =
          subst (λ n. SetListIf (nat_lt 0 n) (code_of x.a) t n (suc (50 * c + length pend)) w.others.mid q) (ap (λ n. pending_after (suc n)) many) w.others.second_at in
          let at_q : SetListAt (code_of x.a) t (length (pend ++ v ∷ [])) (50 * c + length (pend ++ v ∷ [])) w.mid w.others.mid = at_list in
          let s2 : SourceState = set_entries tb (50 * c) (pend ++ v ∷ []) s1 in
          goes_weaken z.bound self (fail_of z x) 1 0 7 0 o1 _ (DonePost x k q.pc) _ (omega arith) (omega arith)
          (goes_word z.bound self (fail_of z x) 0 0 o1 _ (at s2 o1 g1 x1 w.others.mid.pc) (DonePost x k q.pc) _ (flush x1 k t tb c (pend ++ v ∷ []) s1 o1 g1 w.mid w.others.mid ok1 pd1 (omega (arith, full)) (omega (arith, full)) (omega (arith, full, many, all)) at_q)
          (goes_done z.bound self (fail_of z x) 0 0 o1 _ (DonePost x k q.pc) tt s2
          (at_less x high (suc k) (suc k) q.pc s2 o1 _ (omega arith) kp (record { g = g1; high = high; keeps = keeps_self (suc k) high; is = ap (λ pc. Now (at s2 o1 g1 x1 pc)) (sym none.pc); ok = ok1 }))))
      decide v s1 o1 g1 high kp ok1 pd1 false eb =
          let x1 : Site = raised x high in
          let n1 : suc (length pend) ≡ length (pend ++ v ∷ []) = sym (length_snoc pend v) in
          let d : suc (50 * c + length pend) ≡ 50 * c + length (pend ++ v ∷ []) = omega (arith, n1) in
          let fewer : suc (length pend) ≢ 50 = λ y. (let f : (suc (length pend) == 50) ≡ true = grind (arith, nat_tests) in let h : true ≡ false = sym f ∙ eb in cc) in
          let no : SetListIf false (code_of x.a) t 50 (suc (50 * c + length pend)) w.mid w.others.mid = subst (λ b1. SetListIf b1 (code_of x.a) t 50 (suc (50 * c + length pend)) w.mid w.others.mid) eb w.others.first_at in
          let last : SetListIf (nat_lt 0 (length (pend ++ v ∷ []))) (code_of x.a) t (length (pend ++ v ∷ [])) (50 * c + length (pend ++ v ∷ [])) w.others.mid q =
          subst (λ n. SetListIf (nat_lt 0 (length (pend ++ v ∷ []))) (code_of x.a) t (length (pend ++ v ∷ [])) n w.others.mid q) d
          (subst (λ n. SetListIf (nat_lt 0 n) (code_of x.a) t n (suc (50 * c + length pend)) w.others.mid q) (after_more (length pend) fewer ∙ n1) w.others.second_at) in
          goes_weaken z.bound self (fail_of z x) 1 0 7 0 o1 _ (DonePost x k q.pc) _ (omega arith) (omega arith)
          (subst (λ pc. Goes z.bound self (fail_of z x) 1 0 o1 (Now (at s1 o1 g1 x1 pc)) (DonePost x k q.pc) (done tt (set_entries tb (50 * c) (pend ++ v ∷ []) s1))) no.pc
          (goes_post z.bound self (fail_of z x) 1 0 o1 _ (DonePost x1 k q.pc) (DonePost x k q.pc) _ (λ u s3 o3 p3 h. at_less x high (suc k) (suc k) q.pc s3 o3 p3 (omega arith) kp h)
          (ends_items x1 k t tb c (pend ++ v ∷ []) s1 o1 g1 w.others.mid q ok1 pd1 (omega (arith, n1, few)) (omega (arith, n1, all)) (nat_lt 0 (length (pend ++ v ∷ []))) refl last)))

  -- an item with a name or a key, and the rest
  other_item : (q0 : Task) → (size : ℕ) (rest : Fields) → FieldsBy rest → (s : SourceState) (o : Outside) (g : Ghost) (x : Site) (k t tb c : ℕ) (pend : List Datum) (p mid q : Spot) → Ok z s g x → Pending x k t tb pend → length pend < 50 → inner_fields rest ≤ z.bound → 50 * c + length pend + count_of rest ≤ limit → ItemsAt (code_of x.a) rest x.a.active t (50 * c + length pend) (length pend) mid q → Asks z.bound 0 size o (Now (at s o g x p.pc)) (fail_of z x) (λ (u : Gives q0) s1 o1 p1. AtPost z x (suc k + length pend) mid.pc s1 o1 p1) (self q0 s) → Goes z.bound self (fail_of z x) 1 (size + inner_fields rest) o (Now (at s o g x p.pc)) (DonePost x k q.pc) (ask q0 s (λ u s1. fields rest (scope x) tb (50 * c) pend s1))
  other_item q0 size rest again s o g x k t tb c pend p mid q ok pd few small all w asked =
      goes_ask z.bound self (fail_of z x) size 1 (inner_fields rest) o (Now (at s o g x p.pc)) q0 s (λ u s1 o1 p1. AtPost z x (suc k + length pend) mid.pc s1 o1 p1) (DonePost x k q.pc) _ asked
      (λ u s1 o1 p1 h.
      let x1 : Site = raised x h.high in
      goes_from z.bound self (fail_of z x) 1 (inner_fields rest) o1 p1 _ (DonePost x k q.pc) _ h.is
      (goes_post z.bound self (fail_of z x) 1 (inner_fields rest) o1 _ (DonePost x1 k q.pc) (DonePost x k q.pc) _ (λ u1 s3 o3 p3 h3. at_less x h.high (suc k) (suc k + length pend) q.pc s3 o3 p3 (omega arith) h.keeps h3)
      (again s1 o1 h.g x1 k t tb c pend mid q h.ok (record { at_t = pd.at_t; holds_table = h.keeps.old k (omega arith) ∙ pd.holds_table; row = row_keep x.high h.high pend (suc k) (suc k + length pend) (omega arith) h.keeps.old pd.row }) few small all w)))

  -- a last item that is left open
  abbrev pub OpenLast : Expression → Type 0
  OpenLast e =
      (s : SourceState) (o : Outside) (g : Ghost) (x : Site) (k t tb c : ℕ) (pend : List Datum) (p q : Spot) →
      Ok z s g x → Pending x k t tb pend → length pend < 50 → suc (size_e e) ≤ z.bound → 50 * c + length pend + 1 ≤ limit → Seq ((related (code_of x.a) e).multi x.a.active (t + suc (length pend)) Op.Call None) (SetListAt (code_of x.a) t 0 (suc (50 * c + length pend))) p q →
      Goes z.bound self (fail_of z x) 1 (suc (size_e e) + 0) o (Now (at s o g x p.pc)) (DonePost x k q.pc) (ask (item (scope x) e) s (λ vs s1. done tt (set_entries tb (50 * c) (pend ++ vs) s1)))

  -- the items of a constructor
  pub fields_goes : (fs : Fields) → ((e : Expression) → several (form_of e) ≡ true → OpenLast e) → FieldsBy fs
  fields_goes no_fields c0 = λ s o g x k t tb c pend p q ok pd few small all w. ends_items x k t tb c pend s o g p q ok pd (omega arith) (omega arith) (nat_lt 0 (length pend)) refl w
  fields_goes (positional e sep no_fields) c0 = λ s o g x k t tb c pend p q ok pd few small all w. by (several (form_of e)) refl s o g x k t tb c pend p q ok pd few small all w
    where
      by : (b : Bool) → several (form_of e) ≡ b → (s : SourceState) (o : Outside) (g : Ghost) (x : Site) (k t tb c : ℕ) (pend : List Datum) (p q : Spot) → Ok z s g x → Pending x k t tb pend → length pend < 50 → inner_fields (positional e sep no_fields) ≤ z.bound → 50 * c + length pend + 1 ≤ limit → ItemBy b (code_of x.a) (related (code_of x.a) e) x.a.active t (50 * c + length pend) (length pend) (ItemsAt (code_of x.a) no_fields x.a.active t (suc (50 * c + length pend)) (pending_after (suc (length pend)))) p q → Goes z.bound self (fail_of z x) 1 (suc (size_e e) + 0) o (Now (at s o g x p.pc)) (DonePost x k q.pc) (ask (item (scope x) e) s (λ vs s1. done tt (set_entries tb (50 * c) (pend ++ vs) s1)))
      by true eb s o g x k t tb c pend p q ok pd few small all w = c0 e eb s o g x k t tb c pend p q ok pd few (omega arith) all w
      by false eb s o g x k t tb c pend p q ok pd few small all w = last_item e eb s o g x k t tb c pend p q ok pd few (omega arith) all w
  fields_goes (positional e sep (positional e1 sep1 rest)) c0 = λ s o g x k t tb c pend p q ok pd few small all w.
      next_item e (positional e1 sep1 rest) (fields_goes (positional e1 sep1 rest) c0) s o g x k t tb c pend p q ok pd few small all w
  fields_goes (positional e sep (named name e1 sep1 rest)) c0 = λ s o g x k t tb c pend p q ok pd few small all w.
      next_item e (named name e1 sep1 rest) (fields_goes (named name e1 sep1 rest) c0) s o g x k t tb c pend p q ok pd few small all w
  fields_goes (positional e sep (keyed key e1 sep1 rest)) c0 = λ s o g x k t tb c pend p q ok pd few small all w.
      next_item e (keyed key e1 sep1 rest) (fields_goes (keyed key e1 sep1 rest) c0) s o g x k t tb c pend p q ok pd few small all w
  fields_goes (named name e sep rest) c0 = λ s o g x k t tb c pend p q ok pd few small all w.
      other_item (named_item (scope x) tb name e) (suc (size_e e + call_cost)) rest (fields_goes rest c0) s o g x k t tb c pend p w.mid q ok pd few (omega arith) all w.second_at (ih.named_items tb name e s o g x k t (length pend) p w.mid ok pd.at_t (omega arith) pd.holds_table w.first_at)
  fields_goes (keyed key e sep rest) c0 = λ s o g x k t tb c pend p q ok pd few small all w.
      other_item (keyed_item (scope x) tb key e) (suc (size_e key + (size_e e + call_cost))) rest (fields_goes rest c0) s o g x k t tb c pend p w.mid q ok pd few (omega arith) all w.second_at (ih.keyed_items tb key e s o g x k t (length pend) p w.mid ok pd.at_t (omega arith) pd.holds_table w.first_at)
