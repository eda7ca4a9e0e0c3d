-- Facts of the rules: what follows from a note, words that only go on to the next, and the further words of a closure.
use Rattle.std.proofs.Common.{◌≡◌, ◌≤◌, ◌<◌, ℕ, zero, suc, Bool, true, false, List, [], ◌∷◌, length, refl, sym, ap, ◌∙◌, arith, inl, ◌+◌, cond, eqb-true, ◌⊎◌, ◌++◌, take, drop, true≢false, inr, not, nat_le, eq-eqb}
use Rattle.std.specs.Prelude.{Option, None, ◌==◌, ◌&&◌, Some, slice_get}
use Rattle.std.specs.List.{list_any}
use Rattle.std.proofs.lemmas.Bool.{or_left, and_from, lt-leb}
use Rattle.opcode.specs.declared.op.Op.{Op}
use Rattle.opcode.specs.declared.word.Instr.{Instr}
use Rattle.opcode.specs.Reading.{instr_of}
use Rattle.proto.specs.Chunk.{Chunk}
use Rattle.rules.specs.Words.{is_test}
use Rattle.rules.specs.Places.{is_pc, named_further, next_pc, plain_ways, named_by, named_by_all}
use Rattle.rules.specs.Notes.{Note, AsksLess, after, writes, captures, spares, closes, touches}
use Rattle.rules.specs.Breaks.{reaches, breaks_function, plain_jumps, breaks_numbers, breaks_captured, is_bad_word_of, captures_none, is_capture}
use Rattle.rules.proofs.Lists.{both_false, and_second, and_first, or_cases}
use Rattle.scheme.specs.declared.making.Local.{Local}
use Rattle.scheme_sound.proofs.Ghosts.{kind_at, captured_at, IsLoop, loop_at, Below, goes_on}

-- ---- notes

-- the note that locals give
abbrev pub note_of : List Local → Note
note_of xs = record { captured = captured_at xs; loops = loop_at xs }

pub loop_true : (xs : List Local) (a : ℕ) → loop_at xs a ≡ true → IsLoop xs a
loop_true xs a e =
    let rest = and_second (kind_at xs a == 1) _ e in
    record { index = eqb-true (kind_at xs a) 1 (and_first _ _ e); limit = eqb-true (kind_at xs (suc a)) 2 (and_first _ _ rest); step = eqb-true (kind_at xs (suc (suc a))) 3 (and_second (kind_at xs (suc a) == 2) _ rest) }

pub loop_holds : (xs : List Local) (a : ℕ) → IsLoop xs a → loop_at xs a ≡ true
loop_holds xs a l = three (kind_at xs a == 1) (kind_at xs (suc a) == 2) (kind_at xs (suc (suc a)) == 3) (eq-eqb _ _ l.index) (eq-eqb _ _ l.limit) (eq-eqb _ _ l.step)
  where
    three : (a b c : Bool) → a ≡ true → b ≡ true → c ≡ true → (a && (b && c)) ≡ true
    three true true true x y z = refl
    three true true false x y z = z
    three true false c x y z = y
    three false b c x y z = x

not_true : (b : Bool) → (b ≡ true → ⊥) → not b ≡ true
not_true true n = absurd (n refl)
not_true false n = refl

all_three : (a b c : Bool) → a ≡ true → b ≡ true → c ≡ true → (a && b && c) ≡ true
all_three true true true x y z = refl
all_three true true false x y z = z
all_three true false c x y z = y
all_three false b c x y z = x

-- ---- what follows

-- what a word touches is no number of a loop
pub spared : (f : Chunk) (pc : ℕ) (i : Instr) (xs : List Local) (a : ℕ) → ((r : ℕ) → writes i.op i r ≡ true → kind_at xs r ≡ 0) → ((r : ℕ) → captures f pc i r ≡ true → kind_at xs r ≡ 0) → IsLoop xs a → spares f pc i a ≡ true
spared f pc i xs a w c l =
    let one : a + 1 ≡ suc a = omega arith in
    let two : a + 2 ≡ suc (suc a) = omega arith in
    all_three _ _ _ (not_true (touches f pc i a) (λ e. free a 0 l.index (or_cases _ _ e))) (not_true (touches f pc i (a + 1)) (λ e. free (a + 1) 1 (ap (kind_at xs) one ∙ l.limit) (or_cases _ _ e))) (not_true (touches f pc i (a + 2)) (λ e. free (a + 2) 2 (ap (kind_at xs) two ∙ l.step) (or_cases _ _ e)))
  where
    free : (r k : ℕ) → kind_at xs r ≡ suc k → (writes i.op i r ≡ true) ⊎ (captures f pc i r ≡ true) → ⊥
    free r k e (inl h) = let z = w r h in omega (arith, e, z)
    free r k e (inr h) = let z = c r h in omega (arith, e, z)

pub follows : (f : Chunk) (pc : ℕ) (i : Instr) (xs ys : List Local) → ((r : ℕ) → writes i.op i r ≡ true → kind_at xs r ≡ 0) → ((r : ℕ) → captures f pc i r ≡ true → (captured_at xs r ≡ true) × (kind_at xs r ≡ 0)) → Below xs ys → AsksLess (after f pc i (note_of xs)) (note_of ys)
follows f pc i xs ys w c b = record {
  captured = λ r e. b.captured r (held r (or_cases _ _ e));
  loops = λ a e. (let l = b.loops a (loop_true ys a e) in or_left _ _ (and_from _ _ (loop_holds xs a l) (spared f pc i xs a w (λ r h. (c r h).1) l)));
}
  where
    held : (r : ℕ) → ((captured_at xs r && not (closes i.op i r)) ≡ true) ⊎ (captures f pc i r ≡ true) → captured_at xs r ≡ true
    held r (inl e) = and_first _ _ e
    held r (inr e) = (c r e).0

-- ---- words that go on to the next

pub on_test : (op : Op) (c : ℕ) → goes_on op c ≡ true → is_test op ≡ false
on_test Op.Eq c e = cc
on_test Op.Lt c e = cc
on_test Op.Le c e = cc
on_test Op.Test c e = cc
on_test Op.TestSet c e = cc
on_test Op.TForLoop c e = cc
on_test op c e = refl

pub on_named : (by op : Op) (c : ℕ) (ws : List ℕ) → goes_on op c ≡ true → named_further by op ws ≡ []
on_named by Op.Closure c ws e = cc
on_named by op c ws e = refl

pub on_function : (f : Chunk) (op : Op) (c : ℕ) (i : Instr) → goes_on op c ≡ true → breaks_function f op i ≡ false
on_function f Op.Closure c i e = cc
on_function f op c i e = refl

pub on_numbers : (n : Note) (op : Op) (c : ℕ) (i : Instr) → goes_on op c ≡ true → breaks_numbers (Some n) op i ≡ false
on_numbers n Op.ForLoop c i e = cc
on_numbers n op c i e = refl

pub on_captured : (n : Note) (op : Op) (c : ℕ) (i : Instr) → goes_on op c ≡ true → breaks_captured (Some n) op i ≡ false
on_captured n Op.ForPrep c i e = cc
on_captured n op c i e = refl

on_load : (c : ℕ) (x y : List (Option ℕ)) → goes_on Op.LoadBool c ≡ true → cond (c == 0) x y ≡ x
on_load zero x y e = refl
on_load (suc c) x y e = cc

on_load_way : (c a b : ℕ) → goes_on Op.LoadBool c ≡ true → cond (c == 0) a b ≡ a
on_load_way zero a b e = refl
on_load_way (suc c) a b e = cc

pub on_jumps : (pc : ℕ) (op : Op) (i : Instr) → goes_on op i.c ≡ true → plain_jumps pc op i ≡ []
on_jumps pc Op.Jmp i e = cc
on_jumps pc Op.ForPrep i e = cc
on_jumps pc Op.ForLoop i e = cc
on_jumps pc Op.LoadBool i e = on_load i.c [] (Some (suc (suc pc)) ∷ []) e
on_jumps pc op i e = refl

pub on_ways : (f : Chunk) (pc : ℕ) (op : Op) (i : Instr) → goes_on op i.c ≡ true → next_pc f pc i ≡ suc pc → plain_ways f pc op i ≡ Some (suc pc) ∷ []
on_ways f pc Op.Jmp i e n = cc
on_ways f pc Op.ForPrep i e n = cc
on_ways f pc Op.ForLoop i e n = cc
on_ways f pc Op.Return i e n = cc
on_ways f pc Op.LoadBool i e n = ap (λ x. Some x ∷ []) (on_load_way i.c (suc pc) (suc (suc pc)) e)
on_ways f pc op i e n = ap (λ x. Some x ∷ []) n

-- ---- the ways of an instruction, and no others

pub one_way : (t a : ℕ) → list_any (is_pc t) (Some a ∷ []) ≡ true → a ≡ t
one_way t a e = go (or_cases (is_pc t (Some a)) false e)
  where
    go : (is_pc t (Some a) ≡ true) ⊎ (false ≡ true) → a ≡ t
    go (inl h) = eqb-true a t h
    go (inr h) = absurd (true≢false (sym h))

pub two_ways : (t a b : ℕ) → list_any (is_pc t) (Some a ∷ Some b ∷ []) ≡ true → (a ≡ t) ⊎ (b ≡ t)
two_ways t a b e = go (or_cases (is_pc t (Some a)) _ e)
  where
    go : (is_pc t (Some a) ≡ true) ⊎ (list_any (is_pc t) (Some b ∷ []) ≡ true) → (a ≡ t) ⊎ (b ≡ t)
    go (inl h) = inl (eqb-true a t h)
    go (inr h) = inr (one_way t b h)

-- ---- the further words of a closure

pub take_drop : {A : Type 0} (n k : ℕ) (xs : List A) (j : ℕ) → j < n → slice_get (take n (drop k xs)) j ≡ slice_get xs (k + j)
take_drop {A} n zero xs j h = taken n xs j h ∙ ap (slice_get xs) (let e : j ≡ 0 + j = omega arith in e)
  where
    taken : {A : Type 0} (n : ℕ) (xs : List A) (j : ℕ) → j < n → slice_get (take n xs) j ≡ slice_get xs j
    taken zero xs j h = absurd (omega arith)
    taken (suc n) [] j h = refl
    taken (suc n) (x ∷ xs) zero h = refl
    taken (suc n) (x ∷ xs) (suc j) h = taken n xs j (omega arith)
take_drop {A} n (suc k) [] j h = emptied n j
  where
    emptied : (n j : ℕ) → slice_get {X = A} (take n []) j ≡ None
    emptied zero j = refl
    emptied (suc n) j = refl
take_drop {A} n (suc k) (x ∷ xs) j h = take_drop n k xs j h ∙ ap (slice_get (x ∷ xs)) (let e : suc (k + j) ≡ suc k + j = omega arith in e)

pub take_long : {A : Type 0} (n k : ℕ) (xs : List A) → k + n ≤ length xs → length (take n (drop k xs)) ≡ n
take_long zero k xs h = refl
take_long (suc n) zero [] h = absurd (omega arith)
take_long (suc n) zero (x ∷ xs) h = ap suc (take_long n zero xs (omega arith))
take_long (suc n) (suc k) [] h = absurd (omega arith)
take_long (suc n) (suc k) (x ∷ xs) h = take_long (suc n) k xs (omega arith)

-- what a further word of a closure names is there, and a local that it names is captured
abbrev pub NamesCapture : (size upvalues : ℕ) → List Local → Instr → Type 0
NamesCapture size upvalues xs i = ((i.op ≡ Op.Move) × (i.b < size) × (captured_at xs i.b ≡ true) × (kind_at xs i.b ≡ 0)) ⊎ ((i.op ≡ Op.GetUpval) × (i.b < upvalues))

-- a word that is a further word of a closure
pub record IsCapture (size upvalues : ℕ) (xs : List Local) (w : ℕ) : Type 0 where
  pub instr : Instr
  pub read : instr_of w ≡ Some instr
  pub is : NamesCapture size upvalues xs instr

abbrev pub AllCaptures : ℕ → ℕ → List Local → List ℕ → Type 0
AllCaptures s u xs [] = Unit {0}
AllCaptures s u xs (w ∷ ws) = IsCapture s u xs w × AllCaptures s u xs ws

pub captures_from : (s u : ℕ) (xs : List Local) (ws : List ℕ) → ((j w : ℕ) → slice_get ws j ≡ Some w → IsCapture s u xs w) → AllCaptures s u xs ws
captures_from s u xs [] h = tt
captures_from s u xs (w ∷ ws) h = (h 0 w refl, captures_from s u xs ws (λ j v e. h (suc j) v e))

by_move : (i : Instr) → i.op ≡ Op.Move → named_by Op.Move (Some i) ≡ i.b ∷ []
by_move i e = ap (λ op. elim op [ Op.Move ↦ i.b ∷ [] | _ ↦ [] ]) e

by_move_none : (i : Instr) → i.op ≡ Op.GetUpval → named_by Op.Move (Some i) ≡ []
by_move_none i e = ap (λ op. elim op [ Op.Move ↦ i.b ∷ [] | _ ↦ [] ]) e

by_upvalue : (i : Instr) → i.op ≡ Op.GetUpval → named_by Op.GetUpval (Some i) ≡ i.b ∷ []
by_upvalue i e = ap (λ op. elim op [ Op.GetUpval ↦ i.b ∷ [] | _ ↦ [] ]) e

by_upvalue_none : (i : Instr) → i.op ≡ Op.Move → named_by Op.GetUpval (Some i) ≡ []
by_upvalue_none i e = ap (λ op. elim op [ Op.GetUpval ↦ i.b ∷ [] | _ ↦ [] ]) e

reach_none : (s x : ℕ) (xs : List ℕ) → x < s → reaches s xs ≡ false → reaches s (x ∷ xs) ≡ false
reach_none s x xs l e = both_false (nat_le s x) (reaches s xs) (lt-leb s x l) e

pub moves_within : (s u : ℕ) (xs : List Local) (ws : List ℕ) → AllCaptures s u xs ws → reaches s (named_by_all Op.Move ws) ≡ false
moves_within s u xs [] a = refl
moves_within s u xs (w ∷ ws) a = go a.0.is (moves_within s u xs ws a.1)
  where
    go : NamesCapture s u xs a.0.instr → reaches s (named_by_all Op.Move ws) ≡ false → reaches s (named_by Op.Move (instr_of w) ++ named_by_all Op.Move ws) ≡ false
    go (inl h) e = ap (λ ns. reaches s (ns ++ named_by_all Op.Move ws)) (ap (named_by Op.Move) a.0.read ∙ by_move a.0.instr h.0) ∙ reach_none s a.0.instr.b _ h.1 e
    go (inr h) e = ap (λ ns. reaches s (ns ++ named_by_all Op.Move ws)) (ap (named_by Op.Move) a.0.read ∙ by_move_none a.0.instr h.0) ∙ e

pub upvalues_within : (s u : ℕ) (xs : List Local) (ws : List ℕ) → AllCaptures s u xs ws → reaches u (named_by_all Op.GetUpval ws) ≡ false
upvalues_within s u xs [] a = refl
upvalues_within s u xs (w ∷ ws) a = go a.0.is (upvalues_within s u xs ws a.1)
  where
    go : NamesCapture s u xs a.0.instr → reaches u (named_by_all Op.GetUpval ws) ≡ false → reaches u (named_by Op.GetUpval (instr_of w) ++ named_by_all Op.GetUpval ws) ≡ false
    go (inl h) e = ap (λ ns. reaches u (ns ++ named_by_all Op.GetUpval ws)) (ap (named_by Op.GetUpval) a.0.read ∙ by_upvalue_none a.0.instr h.0) ∙ e
    go (inr h) e = ap (λ ns. reaches u (ns ++ named_by_all Op.GetUpval ws)) (ap (named_by Op.GetUpval) a.0.read ∙ by_upvalue a.0.instr h.0) ∙ reach_none u a.0.instr.b _ h.1 e

pub captured_named : (s u : ℕ) (xs : List Local) (ws : List ℕ) (r : ℕ) → AllCaptures s u xs ws → list_any (λ named. named == r) (named_by_all Op.Move ws) ≡ true → (captured_at xs r ≡ true) × (kind_at xs r ≡ 0)
captured_named s u xs [] r a e = cc
captured_named s u xs (w ∷ ws) r a e = go a.0.is (captured_named s u xs ws r a.1)
  where
    go : NamesCapture s u xs a.0.instr → (list_any (λ named. named == r) (named_by_all Op.Move ws) ≡ true → (captured_at xs r ≡ true) × (kind_at xs r ≡ 0)) → (captured_at xs r ≡ true) × (kind_at xs r ≡ 0)
    go (inl h) k = pick (or_cases (a.0.instr.b == r) _ (sym (ap (λ ns. list_any (λ named. named == r) (ns ++ named_by_all Op.Move ws)) (ap (named_by Op.Move) a.0.read ∙ by_move a.0.instr h.0)) ∙ e))
      where
        pick : ((a.0.instr.b == r) ≡ true) ⊎ (list_any (λ named. named == r) (named_by_all Op.Move ws) ≡ true) → (captured_at xs r ≡ true) × (kind_at xs r ≡ 0)
        pick (inl q) = let same = eqb-true a.0.instr.b r q in (ap (captured_at xs) (sym same) ∙ h.2, ap (kind_at xs) (sym same) ∙ h.3)
        pick (inr q) = k q
    go (inr h) k = k (sym (ap (λ ns. list_any (λ named. named == r) (ns ++ named_by_all Op.Move ws)) (ap (named_by Op.Move) a.0.read ∙ by_move_none a.0.instr h.0)) ∙ e)

pub captures_read : (s u : ℕ) (xs : List Local) (ws : List ℕ) → AllCaptures s u xs ws → list_any (is_bad_word_of Op.Closure) ws ≡ false
captures_read s u xs [] a = refl
captures_read s u xs (w ∷ ws) a = both_false _ _ (ap captures_none a.0.read ∙ go a.0.is) (captures_read s u xs ws a.1)
  where
    go : NamesCapture s u xs a.0.instr → not (is_capture a.0.instr.op) ≡ false
    go (inl h) = ap (λ op. not (is_capture op)) h.0
    go (inr h) = ap (λ op. not (is_capture op)) h.0
