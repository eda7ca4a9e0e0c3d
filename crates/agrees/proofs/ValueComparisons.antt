-- Comparisons as values: their condition, and the two LOADBOOL behind it.
use Rattle.std.proofs.Common.{◌≡◌, ◌<◌, ℕ, suc, ◌+◌, Bool, true, false, not, List, [], ◌∷◌, ◌++◌, None, refl, sym, ap, ◌∙◌, subst, arith}
use Rattle.std.specs.Prelude.{slice_set, if◌then◌else◌, codes}
use Rattle.std.specs.Str.{bytes_eq}
use Rattle.opcode.specs.declared.op.Op.{Op}
use Rattle.proto.specs.Chunk.{own}
use Rattle.lua_tree.specs.declared.tree.BinaryOp.{BinaryOp}
use Rattle.lua_tree.specs.Syntax.{Expression, binary_expression}
use Rattle.scheme.specs.Expressions.{is_comparison}
use Rattle.scheme.specs.declared.making.Piece.{Piece}
use Rattle.lua_model.specs.Datum.{Datum, boolean, number, text, table, first_of, is_true, is_nil, kind_name}
use Rattle.lua_model.specs.Store.{Outside, Store}
use Rattle.lua_model.specs.Acts.{Act, value, call as asks, failure, fail_text, Use, truth, negated, used}
use Rattle.lua_model.specs.Datum.{raw_equal}
use Rattle.lua_model.specs.Operators.{equal, less, at_most, ask_or, common_handler, incomparable}
use Rattle.source_meaning.specs.State.{State as SourceState, Place as Scope}
use Rattle.source_meaning.specs.Tasks.{call}
use Rattle.source_meaning.specs.Programs.{Prog, done, and_then, Answer, ended, failed, waiting, going, after as then_answer, run}
use Rattle.source_meaning.specs.Meaning.{evaluate, perform, with_value, binary, read, finish_binary}
use Rattle.source_meaning.proofs.Joins.{run_and_then}
use Rattle.rules.specs.State.{State}
use Rattle.rules.specs.Run.{after}
use Rattle.scheme_stands.specs.Words.{Spot, WordAt}
use Rattle.scheme_stands.specs.Expressions.{TruthAt}
use Rattle.scheme_stands.specs.Relation.{related}
use Rattle.agrees.proofs.Registers.{set_word}
use Rattle.agrees.proofs.Tasks.{scope}
use Rattle.agrees.proofs.Posts.{ValuePost, JumpPost, Splits, same, fail_of}
use Rattle.agrees.proofs.Accounts.{Place, Now, Soon, Self, Goes, Arrive, goes_more, to_word, reach_then, reach_step, reach_weaken}
use Rattle.agrees.proofs.Sizes.{inner}
use Rattle.agrees.proofs.Words.{word_abc}
use Rattle.agrees.proofs.Picture.{code_of, Setup, Ghost, Site, raised, registers, pic, at}
use Rattle.agrees.proofs.ValueCounts.{Gives_only, Only, only_done, only_value, only_left, goes_also}

-- ## comparisons give truths

abbrev pub IsBool : Datum → Type 0
IsBool v = (b : Bool) × (v ≡ boolean b)

abbrev pub GivesBool : Act → Type 0
GivesBool (value v) = IsBool v
GivesBool (asks h args how) = (v : Datum) → IsBool (used how v)
GivesBool (failure v) = Unit {0}

ask_bool : (h : Datum) (args : List Datum) (how : Use) (other : Act) → ((v : Datum) → IsBool (used how v)) → GivesBool other → GivesBool (ask_or h args how other)
ask_bool h args how other u t = go (is_nil h)
  where
    go : (b : Bool) → GivesBool (if b then other else asks h args how)
    go true = t
    go false = u

truth_bool : (v : Datum) → IsBool (used truth v)
truth_bool v = (is_true v, refl)

negated_bool : (v : Datum) → IsBool (used negated v)
negated_bool v = (not (is_true v), refl)

incomparable_bool : (a b : Datum) → GivesBool (incomparable a b)
incomparable_bool a b = go (bytes_eq (kind_name a) (kind_name b))
  where
    go : (t : Bool) → GivesBool (if t then fail_text (codes "attempt to compare two " ++ kind_name a ++ codes " values") else fail_text (codes "attempt to compare " ++ kind_name a ++ codes " with " ++ kind_name b))
    go true = tt
    go false = tt

equal_bool : (s : Store) (a b : Datum) → GivesBool (equal s a b)
equal_bool s (table a) (table b) = go (raw_equal (table a) (table b))
  where
    go : (t : Bool) → GivesBool (if t then value (boolean true) else ask_or (common_handler s (table a) (table b) (codes "__eq")) (table a ∷ table b ∷ []) truth (value (boolean false)))
    go true = (true, refl)
    go false = ask_bool (common_handler s (table a) (table b) (codes "__eq")) (table a ∷ table b ∷ []) truth (value (boolean false)) truth_bool (false, refl)
equal_bool s a b = (raw_equal a b, refl)

less_bool : (s : Store) (a b : Datum) → GivesBool (less s a b)
less_bool s (number a) (number b) = (_, refl)
less_bool s (text a) (text b) = (_, refl)
less_bool s a b = ask_bool (common_handler s a b (codes "__lt")) (a ∷ b ∷ []) truth (incomparable a b) truth_bool (incomparable_bool a b)

at_most_bool : (s : Store) (a b : Datum) → GivesBool (at_most s a b)
at_most_bool s (number a) (number b) = (_, refl)
at_most_bool s (text a) (text b) = (_, refl)
at_most_bool s a b =
    ask_bool (common_handler s a b (codes "__le")) (a ∷ b ∷ []) truth (ask_or (common_handler s a b (codes "__lt")) (b ∷ a ∷ []) negated (incomparable a b)) truth_bool
    (ask_bool (common_handler s a b (codes "__lt")) (b ∷ a ∷ []) negated (incomparable a b) negated_bool (incomparable_bool a b))

abbrev pub Truth : List Datum → Type 0
Truth vs = (b : Bool) × (vs ≡ boolean b ∷ [])

module _ (self : Self) where
  perform_bool : (here : Scope) (act : Act) (s : SourceState) → GivesBool act → Only self IsBool (perform here act s)
  perform_bool here (value v) s h = only_done self IsBool v s h
  perform_bool here (failure v) s h = record { is = λ w. tt }
  perform_bool here (asks g args how) s h = record { is = λ w. by (self (call (suc here.depth) g args) s w) }
    where
      by : (r : Answer (List Datum)) → Gives_only IsBool (then_answer r (λ vs s1. run self (done (used how (first_of vs)) s1)))
      by (ended vs s1 w1) = h (first_of vs)
      by (failed v s1 w1) = tt
      by (waiting w1) = tt
      by (going w1) = tt

  ends_bool : (prog : Prog Datum) (k : Datum → SourceState → Prog (List Datum)) → Only self IsBool prog → ((v : Datum) (s : SourceState) → IsBool v → Only self Truth (k v s)) → Only self Truth (and_then prog k)
  ends_bool prog k h g = record { is = λ w. subst (Gives_only Truth) (sym (run_and_then self prog k w)) (by (run self prog w) (h.is w)) }
    where
      by : (r : Answer Datum) → Gives_only IsBool r → Gives_only Truth (then_answer r (λ v s. run self (k v s)))
      by (ended v s1 w1) b = (g v s1 b).is w1
      by (failed v s1 w1) b = tt
      by (waiting w1) b = tt
      by (going w1) b = tt

  binary_bool : (op : BinaryOp) → is_comparison op ≡ true → (s : Store) (a b : Datum) → GivesBool (binary s op a b)
  binary_bool BinaryOp.Eq e s a b = equal_bool s a b
  binary_bool BinaryOp.Ne e s a b = equal_bool s a b
  binary_bool BinaryOp.Lt e s a b = less_bool s a b
  binary_bool BinaryOp.Le e s a b = at_most_bool s a b
  binary_bool BinaryOp.Gt e s a b = less_bool s b a
  binary_bool BinaryOp.Ge e s a b = at_most_bool s b a
  binary_bool BinaryOp.Add e s a b = cc
  binary_bool BinaryOp.Sub e s a b = cc
  binary_bool BinaryOp.Mul e s a b = cc
  binary_bool BinaryOp.Div e s a b = cc
  binary_bool BinaryOp.Rem e s a b = cc
  binary_bool BinaryOp.Pow e s a b = cc
  binary_bool BinaryOp.Concat e s a b = cc

  finish_bool : (op : BinaryOp) (v : Datum) (s : SourceState) → IsBool v → Only self Truth (finish_binary op v s)
  finish_bool BinaryOp.Ne v s h = only_done self Truth (boolean (not (is_true v)) ∷ []) s (not (is_true v), refl)
  finish_bool BinaryOp.Concat v s h = only_done self Truth (v ∷ []) s (h.0, ap (λ u. u ∷ []) h.1)
  finish_bool BinaryOp.Add v s h = only_done self Truth (v ∷ []) s (h.0, ap (λ u. u ∷ []) h.1)
  finish_bool BinaryOp.Sub v s h = only_done self Truth (v ∷ []) s (h.0, ap (λ u. u ∷ []) h.1)
  finish_bool BinaryOp.Mul v s h = only_done self Truth (v ∷ []) s (h.0, ap (λ u. u ∷ []) h.1)
  finish_bool BinaryOp.Div v s h = only_done self Truth (v ∷ []) s (h.0, ap (λ u. u ∷ []) h.1)
  finish_bool BinaryOp.Rem v s h = only_done self Truth (v ∷ []) s (h.0, ap (λ u. u ∷ []) h.1)
  finish_bool BinaryOp.Pow v s h = only_done self Truth (v ∷ []) s (h.0, ap (λ u. u ∷ []) h.1)
  finish_bool BinaryOp.Eq v s h = only_done self Truth (v ∷ []) s (h.0, ap (λ u. u ∷ []) h.1)
  finish_bool BinaryOp.Lt v s h = only_done self Truth (v ∷ []) s (h.0, ap (λ u. u ∷ []) h.1)
  finish_bool BinaryOp.Le v s h = only_done self Truth (v ∷ []) s (h.0, ap (λ u. u ∷ []) h.1)
  finish_bool BinaryOp.Gt v s h = only_done self Truth (v ∷ []) s (h.0, ap (λ u. u ∷ []) h.1)
  finish_bool BinaryOp.Ge v s h = only_done self Truth (v ∷ []) s (h.0, ap (λ u. u ∷ []) h.1)

  -- a comparison gives one truth
  pub comparison_truth : (line : ℕ) (op : BinaryOp) (left right : Expression) → is_comparison op ≡ true → (here : Scope) (s : SourceState) → Only self Truth (evaluate (binary_expression line op left right) here s)
  comparison_truth line op left right e here s =
      only_left self Truth op here left s (λ a s1. with_value here right s1 (λ b s2. and_then (perform here (binary s2.store op (read a s2) b) s2) (finish_binary op)))
      (λ a s1. only_value self Truth here right s1 (λ b s2. and_then (perform here (binary s2.store op (read a s2) b) s2) (finish_binary op))
      (λ b s2. ends_bool (perform here (binary s2.store op (read a s2) b) s2) (finish_binary op) (perform_bool here (binary s2.store op (read a s2) b) s2 (binary_bool op e s2.store (read a s2) b)) (λ v s3 h. finish_bool op v s3 h)))

module _ (z : Setup) (self : Self) where
  -- where it is decided LOADBOOL loads the truth
  loads : (x : Site) (k r : ℕ) (mid over q : Spot) (b : Bool) (vs : List Datum) (s : SourceState) (o : Outside) (p1 : Place) → vs ≡ boolean b ∷ [] → r < (own x.a.chunk).registers → JumpPost z x k true over.pc mid.pc (first_of vs) s o p1 → WordAt (code_of x.a) (Piece.Abc Op.LoadBool r 0 1) mid over → WordAt (code_of x.a) (Piece.Abc Op.LoadBool r 1 0) over q → (t : ℕ) → Arrive z.bound 1 0 t p1 t (ValuePost z x k r q.pc vs s o)
  loads x k r mid over q true vs s o p1 e lr h not_so load t =
      let is : Splits true (at s o h.g (raised x h.high)) over.pc mid.pc p1 = subst (λ us. Splits (same true (is_true (first_of us))) (at s o h.g (raised x h.high)) over.pc mid.pc p1) e h.is in
      let m1 : State = at s o h.g (raised x h.high) over.pc in
      let arrived = to_word z.bound t m1 (pic s o h.g (raised x h.high) (suc over.pc) (slice_set (registers s.cells x.a h.high) r (boolean true)) None) (ValuePost z x k r q.pc vs s o)
      (word_abc x.a Op.LoadBool r 1 0 over q m1 load refl refl ∙ ap (after m1) (set_word z s o h.g (raised x h.high) r (suc over.pc) (boolean true) h.ok lr))
      (record {
        g = h.g;
        high = h.high;
        keeps = h.keeps;
        is = ap (λ pc. Now (pic s o h.g (raised x h.high) pc (slice_set (registers s.cells x.a h.high) r (boolean true)) None)) (sym load.next) ∙ ap (λ us. Now (pic s o h.g (raised x h.high) q.pc (slice_set (registers s.cells x.a h.high) r (first_of us)) None)) (sym e);
        ok = h.ok;
      }) in
      subst (λ y. Arrive z.bound 1 0 t y t (ValuePost z x k r q.pc vs s o)) (sym is.1)
      (record { to = arrived.to; holds = arrived.holds; reach = reach_weaken z.bound (0 + 1) (0 + 0) 1 0 t t (Soon is.0) arrived.to (omega arith) (omega arith) (reach_then z.bound 0 0 1 0 t t t (Soon is.0) (Now m1) arrived.to (reach_step z.bound t is.0 m1 is.3) arrived.reach) })
  loads x k r mid over q false vs s o p1 e lr h not_so load t =
      let is : p1 ≡ Now (at s o h.g (raised x h.high) mid.pc) = subst (λ us. Splits (same true (is_true (first_of us))) (at s o h.g (raised x h.high)) over.pc mid.pc p1) e h.is in
      let m0 : State = at s o h.g (raised x h.high) mid.pc in
      subst (λ y. Arrive z.bound 1 0 t y t (ValuePost z x k r q.pc vs s o)) (sym is)
      (to_word z.bound t m0 (pic s o h.g (raised x h.high) (suc (suc mid.pc)) (slice_set (registers s.cells x.a h.high) r (boolean false)) None) (ValuePost z x k r q.pc vs s o)
      (word_abc x.a Op.LoadBool r 0 1 mid over m0 not_so refl refl ∙ ap (after m0) (set_word z s o h.g (raised x h.high) r (suc (suc mid.pc)) (boolean false) h.ok lr))
      (record {
        g = h.g;
        high = h.high;
        keeps = h.keeps;
        is = ap (λ pc. Now (pic s o h.g (raised x h.high) pc (slice_set (registers s.cells x.a h.high) r (boolean false)) None)) (sym (load.next ∙ ap suc not_so.next)) ∙ ap (λ us. Now (pic s o h.g (raised x h.high) q.pc (slice_set (registers s.cells x.a h.high) r (first_of us)) None)) (sym e);
        ok = h.ok;
      }))

  -- a comparison as a value, from the same as a condition that goes to the second LOADBOOL
  pub truth_goes : (j line : ℕ) (op : BinaryOp) (left right : Expression) → is_comparison op ≡ true → (s : SourceState) (o : Outside) (g : Ghost) (x : Site) (k free r : ℕ) (p q : Spot) → r < (own x.a.chunk).registers → (w : TruthAt (code_of x.a) op (related (code_of x.a) left) (related (code_of x.a) right) x.a.active free r p q) → Goes z.bound self (fail_of z x) j (inner (binary_expression line op left right)) o (Now (at s o g x p.pc)) (λ vs. JumpPost z x k true w.yes.pc w.mid.pc (first_of vs)) (evaluate (binary_expression line op left right) (scope x) s) → Goes z.bound self (fail_of z x) (j + 1) (inner (binary_expression line op left right)) o (Now (at s o g x p.pc)) (ValuePost z x k r q.pc) (evaluate (binary_expression line op left right) (scope x) s)
  truth_goes j line op left right e s o g x k free r p q lr w given =
      let S : ℕ = inner (binary_expression line op left right) in
      goes_more z.bound self (fail_of z x) j 1 S o (Now (at s o g x p.pc)) (λ vs s1 o1 p1. JumpPost z x k true w.yes.pc w.mid.pc (first_of vs) s1 o1 p1 × Truth vs) (ValuePost z x k r q.pc) (evaluate (binary_expression line op left right) (scope x) s)
      (goes_also self z.bound (fail_of z x) j S o (Now (at s o g x p.pc)) (λ vs. JumpPost z x k true w.yes.pc w.mid.pc (first_of vs)) Truth (evaluate (binary_expression line op left right) (scope x) s) (comparison_truth self line op left right e (scope x) s) given)
      (λ vs s1 o1 p1 h t. loads x k r w.mid w.yes q h.1.0 vs s1 o1 p1 h.1.1 lr h.0 w.no w.load t)
