-- What a word does to a note.
use Rattle.std.proofs.Common.{◌∙◌, ◌≡◌, ℕ, suc, ◌+◌, ◌<◌, Bool, true, false, ◌&&◌, ◌||◌, not, List, [], ◌∷◌, ◌++◌, length, drop, refl, sym, ap, subst, arith}
use Rattle.std.specs.Prelude.{ℤ, Option, get_or, ◌==◌, nat_lt, nat_le, if◌then◌else◌}
use Rattle.std.specs.List.{list_any}
use Rattle.std.proofs.Math.Bool.{or_assoc, or-false, and-true}
use Rattle.std.proofs.lemmas.List.{at_drop_more}
use Rattle.std.proofs.lemmas.List.Folds.{list_any-append}
use Rattle.std.proofs.lemmas.Bool.{ltb-true, ltb-false, leb-true, leb-false, eqb-true, eqb-false}
use Rattle.opcode.specs.declared.op.Op.{Op}
use Rattle.opcode.specs.declared.word.Instr.{Instr}
use Rattle.opcode.specs.Reading.{instr_of}
use Rattle.proto.specs.Chunk.{Chunk}
use Rattle.rules.specs.Places.{named_by, named_by_all, named_further, words_of, is_pc, ways, test_ways, plain_ways, jmp_at}
use Rattle.rules.specs.Words.{is_test}
use Rattle.rules.specs.Notes.{Note as Meant, after, writes, closes, prepares, captures}
use Rattle.verifier.specs.Registers.{Alike, hit, is_in, is_hit, capturing, capturing_each, capturing_all, letting_go, preparing}
use Rattle.verifier.specs.Flow.{Writes}

-- notes that say the same still do after a capture
capturing_alike : (r : ℕ) (n m : Meant) → Alike n m → Alike (capturing r n) (capturing r m)
capturing_alike r n m same = record {
  captured = λ x. ap (λ b. b || (x == r)) (same.captured x);
  loops = λ a. ap (λ b. b && not (is_hit r (r + 1) a)) (same.loops a);
}

each_alike : (rs : List ℕ) (n m : Meant) → Alike n m → Alike (capturing_each rs n) (capturing_each rs m)
each_alike [] n m same = same
each_alike (r ∷ rs) n m same = each_alike rs (capturing r n) (capturing r m) (capturing_alike r n m same)

all_alike : (words : List ℕ) (n m : Meant) → Alike n m → Alike (capturing_all words n) (capturing_all words m)
all_alike [] n m same = same
all_alike (w ∷ words) n m same = all_alike words _ _ (each_alike (named_by Op.Move (instr_of w)) n m same)

alike_by : (n m k : Meant) → Alike n m → Alike m k → Alike n k
alike_by n m k one two = record { captured = λ r. one.captured r ∙ two.captured r; loops = λ a. one.loops a ∙ two.loops a }

-- one more further word
pub captures_one : (words : List ℕ) (k : ℕ) (now next whole : Meant) → k < length words → Alike next (capturing_each (named_by Op.Move (instr_of (get_or words k 0))) now) → Alike (capturing_all (drop k words) now) whole → Alike (capturing_all (drop (k + 1) words) next) whole
captures_one words k now next whole low one so = alike_by _ _ _ (all_alike (drop (k + 1) words) next _ one) (subst (λ m. Alike m whole) (at_drop_more (λ ws. capturing_all ws now) words k 0 low) so)

abbrev pub any_is : List ℕ → ℕ → Bool
any_is rs r = list_any (λ named. named == r) rs

any_both : (rs ss : List ℕ) (r : ℕ) → any_is (rs ++ ss) r ≡ (any_is rs r || any_is ss r)
any_both rs ss r = list_any-append (λ named. named == r) rs ss

-- a note where some registers are captured
abbrev pub capturing_these : List ℕ → Meant → Meant
capturing_these rs n = record {
  captured = λ r. n.captured r || any_is rs r;
  loops = λ a. n.loops a && not (any_is rs a || any_is rs (a + 1) || any_is rs (a + 2));
}

-- two lists of three tests each
apart : (x w0 w1 w2 c0 c1 c2 : Bool) → ((x && not (w0 || w1 || w2)) && not (c0 || c1 || c2)) ≡ (x && not ((w0 || c0) || (w1 || c1) || (w2 || c2)))
apart false w0 w1 w2 c0 c1 c2 = refl
apart true true w1 w2 c0 c1 c2 = refl
apart true false true w2 true c1 c2 = refl
apart true false true w2 false c1 c2 = refl
apart true false false true true c1 c2 = refl
apart true false false true false true c2 = refl
apart true false false true false false c2 = refl
apart true false false false c0 c1 c2 = refl

none_of_three : (x y z : Bool) → not (x || y || z) ≡ (not x && not y && not z)
none_of_three true y z = refl
none_of_three false true z = refl
none_of_three false false z = refl

none_captured : (n : Meant) → Alike n (capturing_these [] n)
none_captured n = record { captured = λ r. sym (or-false (n.captured r)); loops = λ a. sym (and-true (n.loops a)) }

more_captured : (rs ss : List ℕ) (n : Meant) → Alike (capturing_these ss (capturing_these rs n)) (capturing_these (rs ++ ss) n)
more_captured rs ss n = record {
  captured = λ r. or_assoc (n.captured r) (any_is rs r) (any_is ss r) ∙ ap (λ b. n.captured r || b) (sym (any_both rs ss r));
  loops = λ a. apart (n.loops a) (any_is rs a) (any_is rs (a + 1)) (any_is rs (a + 2)) (any_is ss a) (any_is ss (a + 1)) (any_is ss (a + 2)) ∙ joined a (sym (any_both rs ss a)) (sym (any_both rs ss (a + 1))) (sym (any_both rs ss (a + 2)));
}
  where
    joined : (a : ℕ) {x y z : Bool} → (any_is rs a || any_is ss a) ≡ x → (any_is rs (a + 1) || any_is ss (a + 1)) ≡ y → (any_is rs (a + 2) || any_is ss (a + 2)) ≡ z → (n.loops a && not ((any_is rs a || any_is ss a) || (any_is rs (a + 1) || any_is ss (a + 1)) || (any_is rs (a + 2) || any_is ss (a + 2)))) ≡ (n.loops a && not (x || y || z))
    joined a e f g = cc

-- one register is a range of one
one_register : (r x : ℕ) → is_in r (r + 1) x ≡ (r == x || false)
one_register r x = go (nat_le r x) (nat_lt x (r + 1)) (r == x) refl refl refl
  where
    go : (low high same : Bool) → nat_le r x ≡ low → nat_lt x (r + 1) ≡ high → (r == x) ≡ same → (low && high) ≡ (same || false)
    go true true true e f g = refl
    go true true false e f g = absurd (eqb-false r x g (omega (arith, leb-true r x e, ltb-true x (r + 1) f)))
    go true false true e f g = absurd (omega (arith, eqb-true r x g, ltb-false x (r + 1) f))
    go true false false e f g = refl
    go false high true e f g = absurd (omega (arith, eqb-true r x g, leb-false r x e))
    go false high false e f g = refl

turned_round : (r x : ℕ) → (x == r) ≡ (r == x || false)
turned_round r x = go (x == r) (r == x) refl refl
  where
    go : (one two : Bool) → (x == r) ≡ one → (r == x) ≡ two → one ≡ (two || false)
    go true true e f = refl
    go true false e f = absurd (eqb-false r x f (sym (eqb-true x r e)))
    go false true e f = absurd (eqb-false x r e (sym (eqb-true r x f)))
    go false false e f = refl

one_captured : (r : ℕ) (n : Meant) → Alike (capturing r n) (capturing_these (r ∷ []) n)
one_captured r n = record {
  captured = λ x. ap (λ b. n.captured x || b) (turned_round r x);
  loops = λ a. hits a (one_register r a) (one_register r (a + 1)) (one_register r (a + 2));
}
  where
    hits : (a : ℕ) {x y z : Bool} → is_in r (r + 1) a ≡ x → is_in r (r + 1) (a + 1) ≡ y → is_in r (r + 1) (a + 2) ≡ z → (n.loops a && not (is_hit r (r + 1) a)) ≡ (n.loops a && not (x || y || z))
    hits a e f g = cc

these_alike : (rs : List ℕ) (n m : Meant) → Alike n m → Alike (capturing_these rs n) (capturing_these rs m)
these_alike rs n m same = record {
  captured = λ r. ap (λ b. b || any_is rs r) (same.captured r);
  loops = λ a. ap (λ b. b && not (any_is rs a || any_is rs (a + 1) || any_is rs (a + 2))) (same.loops a);
}

each_captured : (rs : List ℕ) (n : Meant) → Alike (capturing_each rs n) (capturing_these rs n)
each_captured [] n = none_captured n
each_captured (r ∷ rs) n = alike_by _ _ _ (each_captured rs (capturing r n)) (alike_by _ _ _ (these_alike rs _ _ (one_captured r n)) (more_captured (r ∷ []) rs n))

all_captured : (words : List ℕ) (n : Meant) → Alike (capturing_all words n) (capturing_these (named_by_all Op.Move words) n)
all_captured [] n = none_captured n
all_captured (w ∷ words) n = alike_by _ _ _ (all_captured words _) (alike_by _ _ _ (these_alike (named_by_all Op.Move words) _ _ (each_captured (named_by Op.Move (instr_of w)) n)) (more_captured (named_by Op.Move (instr_of w)) (named_by_all Op.Move words) n))

-- A note after a word: the registers that it writes are hit, some are let go, some captured, and a loop is prepared.
pub after_alike : (f : Chunk) (pc : ℕ) (i : Instr) (n h l k p : Meant) (first end : ℕ) (words : List ℕ) → Writes i first end → named_further Op.Move i.op (words_of f pc i) ≡ named_by_all Op.Move words → Alike h (hit first end n) → Alike l (letting_go (closes i.op i) h) → Alike k (capturing_all words l) → Alike p (preparing (prepares i.op i) k) → Alike p (after f pc i n)
after_alike f pc i n h l k p first end words wrote named hits lets caps prep = record {
  captured = λ r. prep.captured r ∙ all.captured r ∙ ap (λ b. b || any_is rs r) (lets.captured r ∙ ap (λ b. b && not (closes i.op i r)) (hits.captured r)) ∙ ap (λ b. (n.captured r && not (closes i.op i r)) || b) (named_as r);
  loops = λ a. prep.loops a ∙ ap (λ b. b || prepares i.op i a) (all.loops a ∙ ap (λ b. b && not (any_is rs a || any_is rs (a + 1) || any_is rs (a + 2))) (lets.loops a ∙ hits.loops a) ∙ spared a);
}
  where
    rs : List ℕ
    rs = named_by_all Op.Move words

    all : Alike k (capturing_these rs l)
    all = alike_by _ _ _ caps (all_captured words l)

    named_as : (r : ℕ) → any_is rs r ≡ captures f pc i r
    named_as r = ap (λ xs. any_is xs r) (sym named)

    spared : (a : ℕ) → ((n.loops a && not (is_hit first end a)) && not (any_is rs a || any_is rs (a + 1) || any_is rs (a + 2))) ≡ (n.loops a && (not (writes i.op i a || captures f pc i a) && not (writes i.op i (a + 1) || captures f pc i (a + 1)) && not (writes i.op i (a + 2) || captures f pc i (a + 2))))
    spared a = turned (n.loops a) _ _ _ _ _ _ _ _ _ _ _ _ (wrote a) (wrote (a + 1)) (wrote (a + 2)) (named_as a) (named_as (a + 1)) (named_as (a + 2))
      where
        turned : (x v0 v1 v2 w0 w1 w2 c0 c1 c2 d0 d1 d2 : Bool) → w0 ≡ v0 → w1 ≡ v1 → w2 ≡ v2 → c0 ≡ d0 → c1 ≡ d1 → c2 ≡ d2 → ((x && not (v0 || v1 || v2)) && not (c0 || c1 || c2)) ≡ (x && (not (w0 || d0) && not (w1 || d1) && not (w2 || d2)))
        turned x v0 v1 v2 w0 w1 w2 c0 c1 c2 d0 d1 d2 e0 e1 e2 f0 f1 f2 = apart x v0 v1 v2 c0 c1 c2 ∙ ap (λ b. x && b) (none_of_three (v0 || c0) (v1 || c1) (v2 || c2)) ∙ same (sym e0) (sym e1) (sym e2) f0 f1 f2
          where
            same : v0 ≡ w0 → v1 ≡ w1 → v2 ≡ w2 → c0 ≡ d0 → c1 ≡ d1 → c2 ≡ d2 → (x && (not (v0 || c0) && not (v1 || c1) && not (v2 || c2))) ≡ (x && (not (w0 || d0) && not (w1 || d1) && not (w2 || d2)))
            same g0 g1 g2 h0 h1 h2 = cc

-- the ways of a test
pub ways_of_test : (f : Chunk) (pc : ℕ) (i : Instr) (t : ℕ) → is_test i.op ≡ true → list_any (is_pc t) (ways f pc i) ≡ list_any (is_pc t) (test_ways pc (jmp_at f (suc pc)))
ways_of_test f pc i t is = ap (λ b. list_any (is_pc t) (if b then test_ways pc (jmp_at f (suc pc)) else plain_ways f pc i.op i)) is

pub next_jmp : (f : Chunk) (pc : ℕ) (distance : Option ℤ) → distance ≡ jmp_at f (pc + 1) → jmp_at f (suc pc) ≡ distance
next_jmp f pc distance is = ap (jmp_at f) same ∙ sym is
  where
    same : suc pc ≡ pc + 1
    same = omega arith
