-- Joining notes along edges keeps them least, and at the end they are consistent.
use Rattle.std.proofs.Common.{◌∙◌, ◌≡◌, ◌⊎◌, inl, inr, ℕ, zero, suc, ◌+◌, ◌<◌, ◌≤◌, Bool, true, false, ◌||◌, List, [], ◌∷◌, ◌++◌, length, length-append, None, Some, refl, sym, ap, subst, arith, true≢false, not-suc-le-zero}
use Rattle.std.specs.Prelude.{Option, get_or, nat_eq}
use Rattle.std.specs.List.{Contains}
use Rattle.opcode.specs.declared.word.Instr.{Instr}
use Rattle.proto.specs.Chunk.{Chunk}
use Rattle.rules.specs.Words.{instr_at}
use Rattle.rules.specs.Places.{is_edge, is_pc}
use Rattle.rules.specs.Notes.{Note as Meant, Notes, FollowsIn, IsStart, AsksLess, after}
use Rattle.rules.specs.Common.{AsksLessAt, AskLess}
use Rattle.std.proofs.lemmas.Map.Made.{Contains-tail}
use Rattle.std.proofs.lemmas.Bool.{eqb-true, eqb-false}
use Rattle.rules.proofs.Lists.{none_some, some_one}
use Rattle.rules.proofs.LeastNotes.{edge_asks_less}
use Rattle.verifier.specs.declared.note.Note.{Note}
use Rattle.verifier.specs.Registers.{Alike, Adds, AreEdges, Followed, meant, meant_in, notes_of, rooms}
use Rattle.verifier.specs.Least.{AsksLeast, LeastAt, FollowedFrom, Flowing, JoinsIn, Moves, AreLeast}

less_by : (a b c : Meant) → AsksLess a b → AsksLess b c → AsksLess a c
less_by a b c one two = record { captured = λ r e. two.captured r (one.captured r e); loops = λ l e. one.loops l (two.loops l e) }

alike_less : (a b : Meant) → Alike a b → AsksLess a b
alike_less a b same = record { captured = λ r e. sym (same.captured r) ∙ e; loops = λ l e. same.loops l ∙ e }

alike_more : (a b : Meant) → Alike a b → AsksLess b a
alike_more a b same = record { captured = λ r e. same.captured r ∙ e; loops = λ l e. sym (same.loops l) ∙ e }

follows_more : (m : Meant) (old now : Option Meant) → AsksLessAt old now → FollowsIn m old → FollowsIn m now
follows_more m None now less follows = absurd follows
follows_more m (Some a) None less follows = absurd less
follows_more m (Some a) (Some b) less follows = less_by m a b follows less

follows_from : (a b : Meant) (o : Option Meant) → AsksLess a b → FollowsIn b o → FollowsIn a o
follows_from a b None less follows = follows
follows_from a b (Some c) less follows = less_by a b c less follows

less_at : (a b : Meant) (o : Option Meant) → AsksLess a b → AsksLessAt (Some b) o → AsksLessAt (Some a) o
less_at a b None less more = more
less_at a b (Some c) less more = less_by a b c less more

joined_more : (old now : Option Meant) (m : Meant) → JoinsIn old m now → AsksLessAt old now
joined_more old None m joins = absurd joins
joined_more old (Some k) m joins = joins.above

joined_follows : (old now : Option Meant) (m : Meant) → JoinsIn old m now → FollowsIn m now
joined_follows old None m joins = joins
joined_follows old (Some k) m joins = joins.takes

joined_least : (old now other : Option Meant) (m : Meant) → JoinsIn old m now → AsksLessAt old other → AsksLessAt (Some m) other → AsksLessAt now other
joined_least old None other m joins l1 l2 = tt
joined_least old (Some k) None m joins l1 l2 = l2
joined_least old (Some k) (Some x) m joins l1 l2 = joins.least x l1 l2

same_or_not : (p t : ℕ) → (p ≡ t) ⊎ (p ≡ t → ⊥)
same_or_not zero zero = inl refl
same_or_not zero (suc t) = inr (λ e. omega (arith, e))
same_or_not (suc p) zero = inr (λ e. omega (arith, e))
same_or_not (suc p) (suc t) = go (same_or_not p t)
  where
    go : (p ≡ t) ⊎ (p ≡ t → ⊥) → (suc p ≡ suc t) ⊎ (suc p ≡ suc t → ⊥)
    go (inl e) = inl (ap suc e)
    go (inr d) = inr (λ e. d (omega (arith, e)))

-- what goes along an edge is asked by all consistent notes
edge_least : (f : Chunk) (notes : Notes) → AsksLeast f notes → (pc t : ℕ) (i : Instr) (n : Meant) → instr_at f pc ≡ Some i → notes pc ≡ Some n → is_edge f pc i t ≡ true → LeastAt f t (after f pc i n)
edge_least f notes least pc t i n at note edge others c =
    edge_asks_less f others c pc t i n at edge (subst (λ o. AsksLessAt o (others pc)) note (least others c pc))

-- joining keeps notes least
moved_least : (f : Chunk) (before now : Notes) (t : ℕ) (m : Meant) → AsksLeast f before → LeastAt f t m → Moves before now t m → AsksLeast f now
moved_least f before now t m least at moves others c p = go (same_or_not p t)
  where
    go : (p ≡ t) ⊎ (p ≡ t → ⊥) → AsksLessAt (now p) (others p)
    go (inl same) = subst (λ x. AsksLessAt (now x) (others x)) (sym same) (joined_least (before t) (now t) (others t) m moves.here (least others c t) (at others c))
    go (inr differ) = subst (λ o. AsksLessAt o (others p)) (sym (moves.others p differ)) (least others c p)

reflects : (o : Option Meant) → AsksLessAt o o
reflects None = tt
reflects (Some n) = record { captured = λ r e. e; loops = λ a e. e }

-- joining asks more at each pc
moved_more : (before now : Notes) (t : ℕ) (m : Meant) → Moves before now t m → AskLess before now
moved_more before now t m moves p = go (same_or_not p t)
  where
    go : (p ≡ t) ⊎ (p ≡ t → ⊥) → AsksLessAt (before p) (now p)
    go (inl same) = subst (λ x. AsksLessAt (before x) (now x)) (sym same) (joined_more (before t) (now t) m moves.here)
    go (inr differ) = subst (λ o. AsksLessAt (before p) o) (sym (moves.others p differ)) (reflects (before p))

start_more : (o p : Option Meant) → AsksLessAt o p → IsStart o → IsStart p
start_more None p less start = absurd start
start_more (Some n) None less start = less
start_more (Some n) (Some m) less start = λ a. go (n.loops a) (m.loops a) (less.loops a) (start a)
  where
    go : (x y : Bool) → (y ≡ true → x ≡ true) → x ≡ false → y ≡ false
    go x false h e = refl
    go x true h e = sym (h refl) ∙ e

-- While the word at a pc is done, which had the note n: all words but those to be done and this one are followed.
record Reached (f : Chunk) (notes : Notes) (work : List ℕ) (pc : ℕ) (n : Meant) : Type 0 where
  pub start : IsStart (notes 0)
  pub least : AsksLeast f notes
  pub kept : (p : ℕ) → (p ≡ pc → ⊥) → (Contains work p → ⊥) → FollowedFrom f notes p
  pub here : (Contains work pc → ⊥) → notes pc ≡ Some n

begin_step : (f : Chunk) (notes : Notes) (work : List ℕ) (pc : ℕ) (n : Meant) → Flowing f notes (pc ∷ work) → notes pc ≡ Some n → Reached f notes work pc n
begin_step f notes work pc n flow at = record {
  start = flow.start;
  least = flow.least;
  kept = λ p differ outside. flow.kept p (λ there. outside (Contains-tail pc work p (λ e. differ (sym e)) there));
  here = λ outside. at;
}

moved_reached : (f : Chunk) (before now : Notes) (work more : List ℕ) (pc t : ℕ) (n m : Meant) → Reached f before work pc n → LeastAt f t m → Moves before now t m → Adds work more t → Reached f now more pc n
moved_reached f before now work more pc t n m r at moves adds = record {
  start = start_more (before 0) (now 0) (moved_more before now t m moves 0) r.start;
  least = moved_least f before now t m r.least at moves;
  kept = λ p differ outside u i k is note edge. follows_more (after f p i k) (before u) (now u) (moved_more before now t m moves u) (r.kept p differ (λ there. outside (adds.kept p there)) u i k is (sym (moves.others p (apart p outside)) ∙ note) edge);
  here = λ outside. moves.others pc (apart pc outside) ∙ r.here (λ there. outside (adds.kept pc there));
}
  where
    apart : (p : ℕ) → (Contains more p → ⊥) → p ≡ t → ⊥
    apart p outside e = outside (subst (λ x. Contains more x) (sym e) adds.there)

-- a way that is followed
way_reached : (f : Chunk) (before now : List (Option Note)) (work more : List ℕ) (pc : ℕ) (n : Meant) (way : Option ℕ) (m : Note) → Reached f (notes_of before) work pc n → ((t : ℕ) → way ≡ Some t → LeastAt f t (meant m)) → Followed before now work more way m → Reached f (notes_of now) more pc n
way_reached f before now work more pc n None m r at done =
    subst (λ w. Reached f (notes_of now) w pc n) (sym done.1) (subst (λ x. Reached f (notes_of x) work pc n) (sym done.0) r)
way_reached f before now work more pc n (Some t) m r at done = go done.1
  where
    go : ((now ≡ before) × (more ≡ work)) ⊎ ((rooms now < rooms before) × Adds work more t) → Reached f (notes_of now) more pc n
    go (inl same) = subst (λ w. Reached f (notes_of now) w pc n) (sym same.1) (subst (λ x. Reached f (notes_of x) work pc n) (sym same.0) r)
    go (inr less) = moved_reached f (notes_of before) (notes_of now) work more pc t n (meant m) r (at t refl) done.0 less.1

-- it asks more at each pc
way_more : (before now : List (Option Note)) (work more : List ℕ) (way : Option ℕ) (m : Note) → Followed before now work more way m → AskLess (notes_of before) (notes_of now)
way_more before now work more None m done p = subst (λ x. AsksLessAt (notes_of before p) (notes_of x p)) (sym done.0) (reflects (notes_of before p))
way_more before now work more (Some t) m done p = moved_more (notes_of before) (notes_of now) t (meant m) done.0 p

-- and its note is followed where it goes
way_follows : (before now : List (Option Note)) (work more : List ℕ) (way : Option ℕ) (m : Note) → Followed before now work more way m → (t : ℕ) → way ≡ Some t → FollowsIn (meant m) (notes_of now t)
way_follows before now work more None m done t e = none_some t e
way_follows before now work more (Some u) m done t e = subst (λ x. FollowsIn (meant m) (notes_of now x)) (some_one u t e) (joined_follows (notes_of before u) (notes_of now u) (meant m) done.0.here)

-- it makes room where it makes work
way_less : (before now : List (Option Note)) (work more : List ℕ) (way : Option ℕ) (m : Note) → Followed before now work more way m → rooms now + length more ≤ rooms before + length work
way_less before now work more None m done = subst (λ x. rooms x + length more ≤ rooms before + length work) (sym done.0) (subst (λ w. rooms before + length w ≤ rooms before + length work) (sym done.1) (omega arith))
way_less before now work more (Some t) m done = go done.1
  where
    go : ((now ≡ before) × (more ≡ work)) ⊎ ((rooms now < rooms before) × Adds work more t) → rooms now + length more ≤ rooms before + length work
    go (inl same) = subst (λ x. rooms x + length more ≤ rooms before + length work) (sym same.0) (subst (λ w. rooms before + length w ≤ rooms before + length work) (sym same.1) (omega arith))
    go (inr less) = omega (arith, less.0, less.1.fewer)

end_step : (f : Chunk) (notes : Notes) (work : List ℕ) (pc : ℕ) (n : Meant) → Reached f notes work pc n → ((t : ℕ) (i : Instr) → instr_at f pc ≡ Some i → is_edge f pc i t ≡ true → FollowsIn (after f pc i n) (notes t)) → Flowing f notes work
end_step f notes work pc n r follows = record {
  start = r.start;
  least = r.least;
  kept = λ p outside. go p outside (same_or_not p pc);
}
  where
    go : (p : ℕ) → (Contains work p → ⊥) → (p ≡ pc) ⊎ (p ≡ pc → ⊥) → FollowedFrom f notes p
    go p outside (inr differ) = r.kept p differ outside
    go p outside (inl same) = subst (λ x. FollowedFrom f notes x) (sym same) (λ t i k is note edge. subst (λ x. FollowsIn (after f pc i x) (notes t)) (some_one n k (sym (r.here (λ there. outside (subst (λ x. Contains work x) (sym same) there))) ∙ note)) (follows t i is edge))

is_that : (t : ℕ) (way : Option ℕ) → is_pc t way ≡ true → way ≡ Some t
is_that t None e = absurd (true≢false (sym e))
is_that t (Some u) e = ap Some (eqb-true u t e)

is_it : (t : ℕ) (way : Option ℕ) → way ≡ Some t → is_pc t way ≡ true
is_it t way e = ap (is_pc t) e ∙ same t
  where
    same : (n : ℕ) → nat_eq n n ≡ true
    same n = go (nat_eq n n) refl
      where
        go : (b : Bool) → nat_eq n n ≡ b → b ≡ true
        go true f = refl
        go false f = absurd (eqb-false n n f refl)

either : (x y : Bool) → (x || y) ≡ true → (x ≡ true) ⊎ (y ≡ true)
either true y e = inl refl
either false y e = inr e

-- both ways of a noted word
pub step_flows : (f : Chunk) (before mid now : List (Option Note)) (work some more : List ℕ) (pc : ℕ) (i : Instr) (n m : Note) (first second : Option ℕ) → Some i ≡ instr_at f pc → get_or before pc None ≡ Some n → Alike (meant m) (after f pc i (meant n)) → AreEdges f pc i first second → Followed before mid work some first m → Followed mid now some more second m → Flowing f (notes_of before) (pc ∷ work) → Flowing f (notes_of now) more
step_flows f before mid now work some more pc i n m first second is at like edges one two flows = end_step f (notes_of now) more pc (meant n) second_reached followed
  where
    noted : notes_of before pc ≡ Some (meant n)
    noted = ap meant_in at

    way_least : (t : ℕ) → is_edge f pc i t ≡ true → LeastAt f t (meant m)
    way_least t edge others c = less_at _ _ (others t) (alike_less _ _ like) (edge_least f (notes_of before) flows.least pc t i (meant n) (sym is) noted edge others c)

    first_edge : (t : ℕ) → first ≡ Some t → is_edge f pc i t ≡ true
    first_edge t e = edges t ∙ ap (λ b. b || is_pc t second) (is_it t first e)

    second_edge : (t : ℕ) → second ≡ Some t → is_edge f pc i t ≡ true
    second_edge t e = edges t ∙ ap (λ b. is_pc t first || b) (is_it t second e) ∙ or_true (is_pc t first)
      where
        or_true : (b : Bool) → (b || true) ≡ true
        or_true true = refl
        or_true false = refl

    first_reached : Reached f (notes_of mid) some pc (meant n)
    first_reached = way_reached f before mid work some pc (meant n) first m (begin_step f (notes_of before) work pc (meant n) flows noted) (λ t e. way_least t (first_edge t e)) one

    second_reached : Reached f (notes_of now) more pc (meant n)
    second_reached = way_reached f mid now some more pc (meant n) second m first_reached (λ t e. way_least t (second_edge t e)) two

    meant_follows : (t : ℕ) → (is_pc t first ≡ true) ⊎ (is_pc t second ≡ true) → FollowsIn (meant m) (notes_of now t)
    meant_follows t (inl e) = follows_more (meant m) (notes_of mid t) (notes_of now t) (way_more mid now some more second m two t) (way_follows before mid work some first m one t (is_that t first e))
    meant_follows t (inr e) = way_follows mid now some more second m two t (is_that t second e)

    followed : (t : ℕ) (j : Instr) → instr_at f pc ≡ Some j → is_edge f pc j t ≡ true → FollowsIn (after f pc j (meant n)) (notes_of now t)
    followed t j ij edge = follows_from _ _ (notes_of now t) (alike_more _ _ (subst (λ x. Alike (meant m) (after f pc x (meant n))) (some_one i j (is ∙ ij)) like)) (meant_follows t (either _ _ (sym (edges t) ∙ subst (λ x. is_edge f pc x t ≡ true) (sym (some_one i j (is ∙ ij))) edge)))

pub step_less : (before mid now : List (Option Note)) (work some more : List ℕ) (first second : Option ℕ) (m : Note) → Followed before mid work some first m → Followed mid now some more second m → rooms now + length more ≤ rooms before + length work
step_less before mid now work some more first second m one two = omega (arith, way_less before mid work some first m one, way_less mid now some more second m two)

-- a word that is none, or has no note, is done
skipped : (f : Chunk) (notes : Notes) (work : List ℕ) (pc : ℕ) → FollowedFrom f notes pc → Flowing f notes (pc ∷ work) → Flowing f notes work
skipped f notes work pc done flow = record {
  start = flow.start;
  least = flow.least;
  kept = λ p outside. go p outside (same_or_not p pc);
}
  where
    go : (p : ℕ) → (Contains work p → ⊥) → (p ≡ pc) ⊎ (p ≡ pc → ⊥) → FollowedFrom f notes p
    go p outside (inl same) = subst (λ x. FollowedFrom f notes x) (sym same) done
    go p outside (inr differ) = flow.kept p (λ there. outside (Contains-tail pc work p (λ e. differ (sym e)) there))

pub no_word_flows : (f : Chunk) (notes : Notes) (work : List ℕ) (pc : ℕ) → None ≡ instr_at f pc → Flowing f notes (pc ∷ work) → Flowing f notes work
no_word_flows f notes work pc is = skipped f notes work pc (λ t i n at note edge. none_some i (is ∙ at))

pub no_note_flows : (f : Chunk) (table : List (Option Note)) (work : List ℕ) (pc : ℕ) → get_or table pc None ≡ None → Flowing f (notes_of table) (pc ∷ work) → Flowing f (notes_of table) work
no_note_flows f table work pc is = skipped f (notes_of table) work pc (λ t i n at note edge. none_some n (sym (ap meant_in is) ∙ note))

-- with no work left the notes are consistent, and the least
pub all_done : (f : Chunk) (notes : Notes) → Flowing f notes [] → AreLeast f notes
all_done f notes flow = record {
  consistent = record {
    start = flow.start;
    edges = λ pc t i n at note edge. flow.kept pc (λ there. absurd (not-suc-le-zero there.1)) t i n at note edge;
  };
  least = flow.least;
}
