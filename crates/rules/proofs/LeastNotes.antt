-- The law of least notes.
use Rattle.std.proofs.Common.{◌∙◌, ◌≡◌, ℕ, Bool, true, false, cond, ◌&&◌, ◌||◌, not, None, Some, refl, sym, ap, subst, true≢false}
use Rattle.std.specs.Prelude.{Option, slice_get}
use Rattle.opcode.specs.declared.op.Op.{Op}
use Rattle.opcode.specs.declared.word.Instr.{Instr}
use Rattle.proto.specs.Chunk.{Chunk, own}
use Rattle.rules.specs.declared.rule.Rule.{Rule}
use Rattle.opcode.specs.Reading.{instr_of}
use Rattle.rules.specs.Words.{instr_at}
use Rattle.rules.specs.Places.{is_edge}
use Rattle.rules.specs.Notes.{Note, Notes, Consistent, FollowsIn, IsStart, after, AsksLess}
use Rattle.rules.specs.Breaks.{breaks_numbers, breaks_captured, instr_breaks, word_breaks, place_breaks, is_shape}
use Rattle.rules.specs.Common.{AsksLessAt, common_note, common_at, common, HaveLeast, BreaksMore}

and_true : (a b : Bool) → a ≡ true → b ≡ true → (a && b) ≡ true
and_true true b e h = h
and_true false b e h = absurd (true≢false (sym e))

and_first : (a b : Bool) → (a && b) ≡ true → a ≡ true
and_first true b e = refl
and_first false b e = e

and_second : (a b : Bool) → (a && b) ≡ true → b ≡ true
and_second true b e = e
and_second false b e = absurd (true≢false (sym e))

or_more : (a b x y : Bool) → (a ≡ true → x ≡ true) → (b ≡ true → y ≡ true) → (a || b) ≡ true → (x || y) ≡ true
or_more true b true y f g e = refl
or_more true b false y f g e = absurd (true≢false (sym (f refl)))
or_more false b true y f g e = refl
or_more false b false y f g e = g e

and_more : (a b x y : Bool) → (a ≡ true → x ≡ true) → (b ≡ true → y ≡ true) → (a && b) ≡ true → (x && y) ≡ true
and_more a b x y f g e = and_true x y (f (and_first a b e)) (g (and_second a b e))

-- a smaller note stays smaller after a word
pub after_asks_less : (f : Chunk) (pc : ℕ) (i : Instr) (n m : Note) → AsksLess n m → AsksLess (after f pc i n) (after f pc i m)
after_asks_less f pc i n m less = record {
  captured = λ r. or_more _ _ _ _ (and_more _ _ _ _ (less.captured r) (λ h. h)) (λ h. h);
  loops = λ a. or_more _ _ _ _ (and_more _ _ _ _ (less.loops a) (λ h. h)) (λ h. h);
}

first_asks_less : (n m : Note) → AsksLess (common_note n m) n
first_asks_less n m = record { captured = λ r. and_first _ _; loops = λ a e. or_first (n.loops a) (m.loops a) e }
  where
    or_first : (a b : Bool) → a ≡ true → (a || b) ≡ true
    or_first true b e = refl
    or_first false b e = absurd (true≢false (sym e))

second_asks_less : (n m : Note) → AsksLess (common_note n m) m
second_asks_less n m = record { captured = λ r. and_second _ _; loops = λ a e. or_second (n.loops a) (m.loops a) e }
  where
    or_second : (a b : Bool) → b ≡ true → (a || b) ≡ true
    or_second true b e = refl
    or_second false b e = e

either_true : (a b c : Bool) → (a ≡ true → c ≡ true) → (b ≡ true → c ≡ true) → (a || b) ≡ true → c ≡ true
either_true true b c f g e = f refl
either_true false b c f g e = g e

-- what follows two notes in two sets, what they have in common follows in what these have in common
follows_both : (before before1 before2 : Note) (o1 o2 : Option Note) → AsksLess before before1 → AsksLess before before2 → FollowsIn before1 o1 → FollowsIn before2 o2 → FollowsIn before (common_at o1 o2)
follows_both before before1 before2 None o2 less1 less2 e1 e2 = absurd e1
follows_both before before1 before2 (Some n) None less1 less2 e1 e2 = absurd e2
follows_both before before1 before2 (Some n) (Some m) less1 less2 e1 e2 = record {
  captured = λ r h. and_true _ _ (e1.captured r (less1.captured r h)) (e2.captured r (less2.captured r h));
  loops = λ a h. either_true (n.loops a) (m.loops a) _ (λ k. less1.loops a (e1.loops a k)) (λ k. less2.loops a (e2.loops a k)) h;
}

starts_both : (o1 o2 : Option Note) → IsStart o1 → IsStart o2 → IsStart (common_at o1 o2)
starts_both None o2 e1 e2 = absurd e1
starts_both (Some n) None e1 e2 = absurd e2
starts_both (Some n) (Some m) e1 e2 = λ a. go (n.loops a) (m.loops a) (e1 a) (e2 a)
  where
    go : (x y : Bool) → x ≡ false → y ≡ false → (x || y) ≡ false
    go true y e h = absurd (true≢false e)
    go false y e h = h

none_is_some : {A : Type 0} (n : Note) → None ≡ Some n → A
none_is_some {A} n e = absurd (true≢false (ap (λ o. elim o [ None ↦ true | Some m ↦ false ]) e))

some_same : (x n : Note) → Some x ≡ Some n → x ≡ n
some_same x n e = ap (λ o. elim o [ None ↦ x | Some m ↦ m ]) e

pub common_consistent : (f : Chunk) (a b : Notes) → Consistent f a → Consistent f b → Consistent f (common a b)
common_consistent f a b ca cb = record {
  start = starts_both (a 0) (b 0) ca.start cb.start;
  edges = λ pc t i n at note edge. go pc t i n at edge (a pc) (b pc) refl refl note;
}
  where
    go : (pc t : ℕ) (i : Instr) (n : Note) → instr_at f pc ≡ Some i → is_edge f pc i t ≡ true → (o1 o2 : Option Note) → a pc ≡ o1 → b pc ≡ o2 → common_at o1 o2 ≡ Some n → FollowsIn (after f pc i n) (common_at (a t) (b t))
    go pc t i n at edge None o2 e1 e2 note = none_is_some n note
    go pc t i n at edge (Some n1) None e1 e2 note = none_is_some n note
    go pc t i n at edge (Some n1) (Some n2) e1 e2 note =
        subst (λ x. FollowsIn (after f pc i x) (common_at (a t) (b t))) (some_same (common_note n1 n2) n note) (
        follows_both _ (after f pc i n1) (after f pc i n2) (a t) (b t) (after_asks_less f pc i _ _ (first_asks_less n1 n2)) (after_asks_less f pc i _ _ (second_asks_less n1 n2)) (ca.edges pc t i n1 at e1 edge) (cb.edges pc t i n2 at e2 edge))

not_more : (a b : Bool) → (b ≡ true → a ≡ true) → not a ≡ true → not b ≡ true
not_more true b f e = absurd (true≢false (sym e))
not_more false true f e = absurd (true≢false (sym (f refl)))
not_more false false f e = refl

numbers_more : (n m : Note) → AsksLess n m → (op : Op) (i : Instr) → breaks_numbers (Some n) op i ≡ true → breaks_numbers (Some m) op i ≡ true
numbers_more n m less Op.ForLoop i e = not_more (n.loops i.a) (m.loops i.a) (less.loops i.a) e
numbers_more n m less _ i e = e

captured_more : (n m : Note) → AsksLess n m → (op : Op) (i : Instr) → breaks_captured (Some n) op i ≡ true → breaks_captured (Some m) op i ≡ true
captured_more n m less Op.ForPrep i e = or_more _ _ _ _ (or_more _ _ _ _ (less.captured _) (less.captured _)) (less.captured _) e
captured_more n m less _ i e = e

instr_more : (f : Chunk) (n m : Note) → AsksLess n m → (pc : ℕ) (i : Instr) (rule : Rule) → instr_breaks f (Some n) pc i rule ≡ true → instr_breaks f (Some m) pc i rule ≡ true
instr_more f n m less pc i Rule.LoopNumbers e = numbers_more n m less i.op i e
instr_more f n m less pc i Rule.LoopCaptured e = captured_more n m less i.op i e
instr_more f n m less pc i _ e = e

-- where a pc is not noted, what is broken there is broken under each note
instr_any : (f : Chunk) (o : Option Note) (pc : ℕ) (i : Instr) (rule : Rule) → instr_breaks f None pc i rule ≡ true → instr_breaks f o pc i rule ≡ true
instr_any f o pc i Rule.LoopNumbers e = absurd (true≢false (sym e))
instr_any f o pc i Rule.LoopCaptured e = absurd (true≢false (sym e))
instr_any f o pc i _ e = e

word_more : (f : Chunk) (o1 o2 : Option Note) → AsksLessAt o1 o2 → (pc : ℕ) (i : Option Instr) (rule : Rule) → word_breaks f o1 pc i rule ≡ true → word_breaks f o2 pc i rule ≡ true
word_more f o1 o2 less pc None rule e = e
word_more f None o2 less pc (Some i) rule e = instr_any f o2 pc i rule e
word_more f (Some n) None less pc (Some i) rule e = absurd less
word_more f (Some n) (Some m) less pc (Some i) rule e = instr_more f n m less pc i rule e

place_more : (f : Chunk) (o1 o2 : Option Note) → AsksLessAt o1 o2 → (pc : ℕ) (w : Option ℕ) (rule : Rule) → place_breaks f o1 pc w rule ≡ true → place_breaks f o2 pc w rule ≡ true
place_more f o1 o2 less pc None rule e = e
place_more f o1 o2 less pc (Some w) rule e = word_more f o1 o2 less pc (instr_of w) rule e

cond_more : (b x y z : Bool) → (y ≡ true → z ≡ true) → cond b x y ≡ true → cond b x z ≡ true
cond_more true x y z f e = e
cond_more false x y z f e = f e

pub breaks_more : (f : Chunk) (a b : Notes) → BreaksMore f a b
breaks_more f a b less main pc rule =
    cond_more (is_shape rule) _ _ _ (and_more _ _ _ _ (λ h. h) (place_more f (a pc) (b pc) (less pc) pc (slice_get (own f).code pc) rule))

first_at : (o1 o2 : Option Note) → AsksLessAt (common_at o1 o2) o1
first_at None o2 = tt
first_at (Some n) None = tt
first_at (Some n) (Some m) = first_asks_less n m

second_at : (o1 o2 : Option Note) → AsksLessAt (common_at o1 o2) o2
second_at None o2 = tt
second_at (Some n) None = tt
second_at (Some n) (Some m) = second_asks_less n m

pub common_least : (f : Chunk) (a b : Notes) → Consistent f a → Consistent f b → HaveLeast f a b
common_least f a b ca cb = record {
  consistent = common_consistent f a b ca cb;
  first = λ pc. first_at (a pc) (b pc);
  second = λ pc. second_at (a pc) (b pc);
}

-- ---- for a fixed point that begins with no register captured and no loop at pc 0, and merges along edges

abbrev pub empty_note : Note
empty_note = record { captured = λ r. false; loops = λ a. false }

-- what holds where two ways meet: what may be captured on one of them, and the loops of both
abbrev pub merged : Note → Note → Note
merged n m = record { captured = λ r. n.captured r || m.captured r; loops = λ a. n.loops a && m.loops a }

-- it asks no more than any consistent notes: at the start,
pub start_asks_less : (f : Chunk) (b : Notes) → Consistent f b → AsksLessAt (Some empty_note) (b 0)
start_asks_less f b c = go (b 0) c.start
  where
    go : (o : Option Note) → IsStart o → AsksLessAt (Some empty_note) o
    go None start = start
    go (Some n) start = record {
      captured = λ r e. absurd (true≢false (sym e));
      loops = λ a e. absurd (true≢false (sym e ∙ start a));
    }

-- along each edge,
pub edge_asks_less : (f : Chunk) (b : Notes) → Consistent f b → (pc t : ℕ) (i : Instr) (n : Note) → instr_at f pc ≡ Some i → is_edge f pc i t ≡ true → AsksLessAt (Some n) (b pc) → AsksLessAt (Some (after f pc i n)) (b t)
edge_asks_less f b c pc t i n at edge less = go (b pc) refl less
  where
    join_less : (m : Note) (o : Option Note) → AsksLess (after f pc i n) (after f pc i m) → FollowsIn (after f pc i m) o → AsksLessAt (Some (after f pc i n)) o
    join_less m None l follows = follows
    join_less m (Some k) l follows = record {
      captured = λ r e. follows.captured r (l.captured r e);
      loops = λ a e. l.loops a (follows.loops a e);
    }

    go : (o : Option Note) → b pc ≡ o → AsksLessAt (Some n) o → AsksLessAt (Some (after f pc i n)) (b t)
    go None e l = absurd l
    go (Some m) e l = join_less m (b t) (after_asks_less f pc i n m l) (c.edges pc t i m at e edge)

-- and where ways meet
pub merged_asks_less : (n m : Note) (o : Option Note) → AsksLessAt (Some n) o → AsksLessAt (Some m) o → AsksLessAt (Some (merged n m)) o
merged_asks_less n m None l1 l2 = l1
merged_asks_less n m (Some k) l1 l2 = record {
  captured = λ r e. either_true (n.captured r) (m.captured r) (k.captured r) (l1.captured r) (l2.captured r) e;
  loops = λ a e. and_true (n.loops a) (m.loops a) (l1.loops a e) (l2.loops a e);
}
