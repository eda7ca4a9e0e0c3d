-- TEST and the words of comparisons, each with the JMP behind it: which way they go.
use Rattle.std.proofs.Common.{◌≡◌, ℕ, suc, ◌+◌, ◌==◌, Bool, true, false, not, ◌⊎◌, inl, inr, List, [], ◌∷◌, ◌++◌, length, Some, None, refl, sym, ap, ◌∙◌, subst, arith, nat_eq}
use Rattle.std.specs.Prelude.{slice_get, if◌then◌else◌, codes}
use Rattle.std.specs.Bool.{beq}
use Rattle.opcode.specs.declared.op.Op.{Op}
use Rattle.opcode.specs.declared.word.Instr.{Instr}
use Rattle.opcode.specs.Word.{truth_field}
use Rattle.scheme.specs.declared.making.Piece.{Piece}
use Rattle.lua_num.specs.declared.arith.CompareOp.{CompareOp}
use Rattle.lua_model.specs.Datum.{Datum, boolean, number, text, table, is_true, is_nil, first_of, raw_equal, kind_name}
use Rattle.lua_model.specs.Store.{Outside, Store}
use Rattle.lua_model.specs.Endings.{IsPrefix}
use Rattle.lua_model.specs.Acts.{Act, value, call as asks, failure, fail_text, truth, negated, Use}
use Rattle.lua_model.specs.Operators.{compare, equal, less, at_most, ask_or, common_handler, incomparable, protection_limit}
use Rattle.source_meaning.specs.State.{State as SourceState}
use Rattle.source_meaning.specs.Tasks.{call}
use Rattle.source_meaning.specs.Meaning.{perform}
use Rattle.rules.specs.State.{State, test, need, operand}
use Rattle.rules.specs.Calls.{branch}
use Rattle.rules.specs.Places.{jmp_at}
use Rattle.rules.specs.Step.{effect, give_test, do_compare}
use Rattle.rules.specs.Run.{step, after}
use Rattle.scheme_stands.specs.Words.{Spot, WordAt, instr_by}
use Rattle.agrees.proofs.Tasks.{Simulates, scope}
use Rattle.agrees.proofs.Posts.{Keeps, JumpPost, Splits, same, fail_of}
use Rattle.agrees.proofs.Accounts.{Place, Now, Soon, Post, Self, Goes, Arrive, prefix_self, goes_done, goes_fault, goes_soon, goes_ask, goes_weaken, to_step, to_here}
use Rattle.agrees.proofs.Sizes.{call_cost}
use Rattle.agrees.proofs.Words.{word_abc}
use Rattle.agrees.proofs.Picture.{code_of, Setup, Ghost, Site, raised, registers, at, waits, Ok}
use Rattle.agrees.proofs.PictureChanges.{fine_waiter}
use Rattle.agrees.proofs.CallLeaves.{fails_at}
use Rattle.agrees.proofs.LoopGeneric.{jmp_there, branches_on, branches_past}

-- ## truths

pub same_flip : (t b : Bool) → same (not t) b ≡ same t (not b)
same_flip true true = refl
same_flip true false = refl
same_flip false true = refl
same_flip false false = refl

pub same_beq : (t b : Bool) → beq t b ≡ same t b
same_beq true true = refl
same_beq true false = refl
same_beq false true = refl
same_beq false false = refl

field_same : (t b : Bool) → (truth_field b == truth_field t) ≡ same t b
field_same true true = refl
field_same true false = refl
field_same false true = refl
field_same false false = refl

field_eq : (t b : Bool) → nat_eq (truth_field b) (truth_field t) ≡ same t b
field_eq true true = refl
field_eq true false = refl
field_eq false true = refl
field_eq false false = refl

field_test : (t b : Bool) → not (truth_field (not b) == truth_field t) ≡ same t b
field_test true true = refl
field_test true false = refl
field_test false true = refl
field_test false false = refl

-- ## answers that are truths

abbrev pub Tests : Act → Type 0
Tests (value v) = v ≡ boolean (is_true v)
Tests (asks h args how) = (how ≡ truth) ⊎ (how ≡ negated)
Tests (failure v) = Unit {0}

ask_tests : (h : Datum) (args : List Datum) (how : Use) (other : Act) → (how ≡ truth) ⊎ (how ≡ negated) → Tests other → Tests (ask_or h args how other)
ask_tests h args how other u t = go (is_nil h)
  where
    go : (b : Bool) → Tests (if b then other else asks h args how)
    go true = t
    go false = u

fails_tests : (a b : Datum) → Tests (incomparable a b)
fails_tests a b = go _
  where
    go : (c : Bool) → Tests (if c then fail_text (codes "attempt to compare two " ++ kind_name a ++ codes " values") else fail_text (codes "attempt to compare " ++ kind_name a ++ codes " with " ++ kind_name b))
    go true = tt
    go false = tt

equal_tests : (s : Store) (a b : Datum) → Tests (equal s a b)
equal_tests s (table a) (table b) = go (raw_equal (table a) (table b))
  where
    go : (c : Bool) → Tests (if c then value (boolean true) else ask_or (common_handler s (table a) (table b) (codes "__eq")) (table a ∷ table b ∷ []) truth (value (boolean false)))
    go true = refl
    go false = ask_tests (common_handler s (table a) (table b) (codes "__eq")) (table a ∷ table b ∷ []) truth (value (boolean false)) (inl refl) refl
equal_tests s (table a) b = refl
equal_tests s a b = refl

less_other : (s : Store) (a b : Datum) → Tests (ask_or (common_handler s a b (codes "__lt")) (a ∷ b ∷ []) truth (incomparable a b))
less_other s a b = ask_tests (common_handler s a b (codes "__lt")) (a ∷ b ∷ []) truth (incomparable a b) (inl refl) (fails_tests a b)

less_tests : (s : Store) (a b : Datum) → Tests (less s a b)
less_tests s (number a) (number b) = refl
less_tests s (text a) (text b) = refl
less_tests s a b = less_other s a b

most_other : (s : Store) (a b : Datum) → Tests (ask_or (common_handler s a b (codes "__le")) (a ∷ b ∷ []) truth (ask_or (common_handler s a b (codes "__lt")) (b ∷ a ∷ []) negated (incomparable a b)))
most_other s a b = ask_tests (common_handler s a b (codes "__le")) (a ∷ b ∷ []) truth _ (inl refl) (ask_tests (common_handler s a b (codes "__lt")) (b ∷ a ∷ []) negated (incomparable a b) (inr refl) (fails_tests a b))

most_tests : (s : Store) (a b : Datum) → Tests (at_most s a b)
most_tests s (number a) (number b) = refl
most_tests s (text a) (text b) = refl
most_tests s a b = most_other s a b

pub compare_tests : (s : Store) (op : CompareOp) (a b : Datum) → Tests (compare s op a b)
compare_tests s CompareOp.Eq a b = equal_tests s a b
compare_tests s CompareOp.Lt a b = less_tests s a b
compare_tests s CompareOp.Le a b = most_tests s a b

-- ## where a test goes

-- the next step does the JMP at pc or skips it
pub record TestPost (z : Setup) (x : Site) (pc : ℕ) (d : Bool) (s : SourceState) (o : Outside) (p : Place) : Type 0 where
  pub m : State
  pub at_m : p ≡ Soon m
  pub before : IsPrefix m.outside.events o.events
  pub g : Ghost
  pub ok : Ok z s g x
  pub is : step m ≡ after m (branch (at s o g x pc) d)

-- and the value is that truth
abbrev pub TruthPost : Setup → Site → ℕ → Bool → Post Datum
TruthPost z x pc t v s o p = TestPost z x pc (same t (is_true v)) s o p × (v ≡ boolean (is_true v))

module _ (z : Setup) where
  -- by the JMP
  pub test_splits : (x : Site) (l : ℕ) (mid q : Spot) (d : Bool) (s : SourceState) (o : Outside) (p : Place) → WordAt (code_of x.a) (Piece.Jump Op.Jmp 0 l) mid q → (h : TestPost z x mid.pc d s o p) → (t : ℕ) → Arrive z.bound 0 0 t p t (Splits d (at s o h.g x) l q.pc)
  test_splits x l mid q true s o p w h t =
      to_here z.bound 0 t p _ (h.m, h.at_m, h.before, h.is ∙ ap (after h.m) (branches_on (at s o h.g x mid.pc) x.a l mid q w refl refl))
  test_splits x l mid q false s o p w h t =
      subst (λ p0. Arrive z.bound 0 0 t p0 t (Splits false (at s o h.g x) l q.pc)) (sym h.at_m)
      (to_step z.bound 0 t h.m (at s o h.g x q.pc) _ (h.is ∙ ap (after h.m) (branches_past (at s o h.g x mid.pc) x.a l mid q w refl refl)) refl)

  pub test_jumps : (x : Site) (high : List Datum) (k l : ℕ) (t : Bool) (mid q : Spot) (v : Datum) (s : SourceState) (o : Outside) (p : Place) → Keeps k x.high high → WordAt (code_of x.a) (Piece.Jump Op.Jmp 0 l) mid q → TestPost z (raised x high) mid.pc (same t (is_true v)) s o p → (n : ℕ) → Arrive z.bound 0 0 n p n (JumpPost z x k t l q.pc v s o)
  test_jumps x high k l t mid q v s o p kp w h n =
      let a = test_splits (raised x high) l mid q (same t (is_true v)) s o p w h n in
      record { to = a.to; holds = record { g = h.g; high = high; keeps = kp; is = a.holds; ok = h.ok }; reach = a.reach }

  -- TEST
  pub test_word : (x : Site) (i : ℕ) (t : Bool) (v : Datum) (p mid : Spot) (s : SourceState) (o : Outside) (g : Ghost) → Ok z s g x → slice_get (registers s.cells x.a x.high) i ≡ Some v → WordAt (code_of x.a) (Piece.Abc Op.Test i 0 (truth_field t)) p mid → TestPost z x mid.pc (same t (is_true v)) s o (Soon (at s o g x p.pc))
  test_word x i t v p mid s o g ok there w =
      let m0 : State = at s o g x p.pc in
      let m1 : State = at s o g x (suc p.pc) in
      record {
        m = m0;
        at_m = refl;
        before = prefix_self o.events;
        g = g;
        ok = ok;
        is =
            word_abc x.a Op.Test i 0 (truth_field t) p mid m0 w refl refl
            ∙ ap (λ r. after m0 (need r (λ u. branch m1 (not (truth_field (not (is_true u)) == truth_field t))))) there
            ∙ ap (λ b. after m0 (branch m1 b)) (field_test t (is_true v))
            ∙ ap (λ n. after m0 (branch (at s o g x n) (same t (is_true v)))) (sym w.next);
      }

  module _ (self : Self) (ih : Simulates z self) where
    -- an answer that goes to a test: its truth, its handler's, or its failure
    pub answer_goes : (x : Site) (pc : ℕ) (t : Bool) (act : Act) → Tests act → (s : SourceState) (o : Outside) (g : Ghost) (m : State) → Ok z s g x → m.outside ≡ o → step m ≡ after m (give_test (at s o g x pc) (truth_field t) act) → Goes z.bound self (fail_of z x) 0 call_cost o (Soon m) (TruthPost z x pc t) (perform (scope x) act s)
    answer_goes x pc t (value v) is s o g m ok eo e =
        goes_done z.bound self (fail_of z x) 0 call_cost o (Soon m) (TruthPost z x pc t) v s
        (record { m = m; at_m = refl; before = subst (λ o1. IsPrefix m.outside.events o1.events) eo (prefix_self m.outside.events); g = g; ok = ok; is = e ∙ ap (λ b. after m (branch (at s o g x pc) b)) (field_same t (is_true v)) }, is)
    answer_goes x pc t (failure v) is s o g m ok eo e =
        goes_fault z.bound self (fail_of z x) 0 call_cost o (Soon m) (TruthPost z x pc t) v s (fails_at z s o g x pc None v m ok (subst (λ o1. IsPrefix m.outside.events o1.events) eo (prefix_self m.outside.events)) e)
    answer_goes x pc t (asks h args how) is s o g m ok eo e = by how is e
      where
        by : (how : Use) → (how ≡ truth) ⊎ (how ≡ negated) → step m ≡ after m (give_test (at s o g x pc) (truth_field t) (asks h args how)) → Goes z.bound self (fail_of z x) 0 call_cost o (Soon m) (TruthPost z x pc t) (perform (scope x) (asks h args how) s)
        by truth u e1 =
            goes_weaken z.bound self (fail_of z x) 0 (call_cost + 0) 0 call_cost o (Soon m) (TruthPost z x pc t) _ (omega arith) (omega arith)
            (goes_ask z.bound self (fail_of z x) call_cost 0 0 o (Soon m) (call (suc (length x.below)) h args) s _ (TruthPost z x pc t) _
            (ih.calls h args s o g x (test (truth_field t) false) pc protection_limit m refl ok (subst (λ o1. IsPrefix m.outside.events o1.events) eo (prefix_self m.outside.events)) (inl eo) e1)
            (λ vs s1 o1 p1 b. goes_done z.bound self (fail_of z x) 0 0 o1 p1 (TruthPost z x pc t) (boolean (is_true (first_of vs))) s1
            (record { m = b.m; at_m = b.at_m; before = b.before; g = b.is.g; ok = fine_waiter z (length s1.cells) s1.closures b.is.g (waits x pc) (waits x 0) x.below refl refl b.is.fine; is = b.is.is ∙ ap (λ c. after b.m (branch (at s1 o1 b.is.g x pc) c)) (field_eq t (is_true (first_of vs))) }, refl)))
        by negated u e1 =
            goes_weaken z.bound self (fail_of z x) 0 (call_cost + 0) 0 call_cost o (Soon m) (TruthPost z x pc t) _ (omega arith) (omega arith)
            (goes_ask z.bound self (fail_of z x) call_cost 0 0 o (Soon m) (call (suc (length x.below)) h args) s _ (TruthPost z x pc t) _
            (ih.calls h args s o g x (test (truth_field t) true) pc protection_limit m refl ok (subst (λ o1. IsPrefix m.outside.events o1.events) eo (prefix_self m.outside.events)) (inl eo) e1)
            (λ vs s1 o1 p1 b. goes_done z.bound self (fail_of z x) 0 0 o1 p1 (TruthPost z x pc t) (boolean (not (is_true (first_of vs)))) s1
            (record { m = b.m; at_m = b.at_m; before = b.before; g = b.is.g; ok = fine_waiter z (length s1.cells) s1.closures b.is.g (waits x pc) (waits x 0) x.below refl refl b.is.fine; is = b.is.is ∙ ap (λ c. after b.m (branch (at s1 o1 b.is.g x pc) c)) (field_eq t (not (is_true (first_of vs)))) }, refl)))
        by how (inl u) e1 = cc
        by how (inr u) e1 = cc

    -- EQ, LT, LE of two operands
    pub compare_word : (op : CompareOp) (word : Op) → ((m : State) (i : Instr) → effect word m i ≡ do_compare op m i) → (x : Site) (t : Bool) (i j l : ℕ) (u w : Datum) (s : SourceState) (o : Outside) (g : Ghost) (p mid q : Spot) → Ok z s g x → operand (at s o g x (suc p.pc)) i ≡ Some u → operand (at s o g x (suc p.pc)) j ≡ Some w → WordAt (code_of x.a) (Piece.Abc word (truth_field t) i j) p mid → WordAt (code_of x.a) (Piece.Jump Op.Jmp 0 l) mid q → Goes z.bound self (fail_of z x) 1 call_cost o (Now (at s o g x p.pc)) (TruthPost z x mid.pc t) (perform (scope x) (compare s.store op u w) s)
    compare_word op word is x t i j l u w s o g p mid q ok hu hw wc wj =
        let m0 : State = at s o g x p.pc in
        let m1 : State = at s o g x (suc p.pc) in
        let ins : Instr = instr_by p.pc (Piece.Abc word (truth_field t) i j) in
        goes_soon z.bound self (fail_of z x) 0 call_cost o m0 (TruthPost z x mid.pc t) _
        (answer_goes x mid.pc t (compare s.store op u w) (compare_tests s.store op u w) s o g m0 ok refl
        (word_abc x.a word (truth_field t) i j p mid m0 wc refl refl
        ∙ ap (after m0) (is m1 ins)
        ∙ ap (λ r. after m0 (need r (λ d. need (operand m1 i) (λ a. need (operand m1 j) (λ b. give_test m1 (truth_field t) (compare s.store op a b)))))) (ap (jmp_at x.a.chunk) (sym wc.next) ∙ jmp_there x.a l mid q wj)
        ∙ ap (λ r. after m0 (need r (λ a. need (operand m1 j) (λ b. give_test m1 (truth_field t) (compare s.store op a b))))) hu
        ∙ ap (λ r. after m0 (need r (λ b. give_test m1 (truth_field t) (compare s.store op u b)))) hw
        ∙ ap (λ n. after m0 (give_test (at s o g x n) (truth_field t) (compare s.store op u w))) (sym wc.next)))
