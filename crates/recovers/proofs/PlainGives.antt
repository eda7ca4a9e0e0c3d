-- What holds of a part of a source where it lies no deeper than so many levels, is formed, plain and ordered, and its breaks stand in loops; and how that of a whole comes from that of its parts.
use Rattle.std.proofs.Common.{◌≡◌, ◌≤◌, ℕ, ◌+◌, max, Bool, true, false, List, ◌++◌, refl, arith}
use Rattle.std.specs.Prelude.{◌&&◌}
use Rattle.std.proofs.lemmas.Bool.{and_parts, false≢true}
use Rattle.lua_tree.specs.Outline.{Mark}
use Rattle.scheme.specs.Shapes.{plain_comparison}
use Rattle.recovers.proofs.BreaksInLoops.{InLoops, in_both, in_three, in_joined}

-- G holds there
pub record Gives (limit depth : ℕ) (formed plain ordered : Bool) (marks : List Mark) (G : Type 0) : Type 0 where
  pub holds : depth ≤ limit → formed ≡ true → plain ≡ true → ordered ≡ true → InLoops marks → G

-- ---- what holds at once

-- of every part
pub at_once : {limit depth : ℕ} {formed plain ordered : Bool} {marks : List Mark} {G : Type 0} → G → Gives limit depth formed plain ordered marks G
at_once is = record { holds = λ shallow f p o breaks. is }

-- it is formed
pub as_formed : {limit depth : ℕ} {formed plain ordered : Bool} {marks : List Mark} → Gives limit depth formed plain ordered marks (formed ≡ true)
as_formed = record { holds = λ shallow f p o breaks. f }

-- what is never plain
pub not_plain : {limit depth : ℕ} {formed ordered : Bool} {marks : List Mark} {G : Type 0} → Gives limit depth formed false ordered marks G
not_plain = record { holds = λ shallow f p o breaks. absurd (false≢true p) }

-- ---- two parts

-- one behind the other
infixl 20 ◌and◌
pub ◌and◌ : {limit depth depth' : ℕ} {formed formed' plain plain' ordered ordered' : Bool} {marks marks' : List Mark} {G H : Type 0}
    → Gives limit depth formed plain ordered marks G → Gives limit depth' formed' plain' ordered' marks' H
    → Gives limit (max depth depth') (formed && formed') (plain && plain') (ordered && ordered') (marks ++ marks') (G × H)
◌and◌ {depth} {depth'} {formed} {formed'} {plain} {plain'} {ordered} {ordered'} {marks} {marks'} one other = record {
  holds = λ shallow f p o breaks.
      let fs = and_parts formed formed' f in
      let ps = and_parts plain plain' p in
      let os = and_parts ordered ordered' o in
      let each = in_both marks marks' breaks in
      (one.holds (omega arith) fs.0 ps.0 os.0 each.0, other.holds (omega arith) fs.1 ps.1 os.1 each.1);
}

-- ---- one part, and something else

-- what holds gives more
pub so : {limit depth : ℕ} {formed plain ordered : Bool} {marks : List Mark} {G H : Type 0}
    → (G → H) → Gives limit depth formed plain ordered marks G → Gives limit depth formed plain ordered marks H
so then g = record { holds = λ shallow f p o breaks. then (g.holds shallow f p o breaks) }

-- one level above it
pub deeper : {limit depth : ℕ} {formed plain ordered : Bool} {marks : List Mark} {G : Type 0}
    → Gives limit depth formed plain ordered marks G → Gives limit (1 + depth) formed plain ordered marks G
deeper g = record { holds = λ shallow f p o breaks. g.holds (omega arith) f p o breaks }

-- behind a test of form or ahead of it, which is passed over, or is kept
pub also : (test : Bool) {limit depth : ℕ} {formed plain ordered : Bool} {marks : List Mark} {G : Type 0}
    → Gives limit depth formed plain ordered marks G → Gives limit depth (test && formed) plain ordered marks G
also test {formed} g = record { holds = λ shallow f p o breaks. g.holds shallow (and_parts test formed f).1 p o breaks }

pub ahead_of : (test : Bool) {limit depth : ℕ} {formed plain ordered : Bool} {marks : List Mark} {G : Type 0}
    → Gives limit depth formed plain ordered marks G → Gives limit depth (formed && test) plain ordered marks G
ahead_of test {formed} g = record { holds = λ shallow f p o breaks. g.holds shallow (and_parts formed test f).0 p o breaks }

pub keeping : {limit depth : ℕ} {test formed plain ordered : Bool} {marks : List Mark} {G : Type 0}
    → Gives limit depth formed plain ordered marks G → Gives limit depth (test && formed) plain ordered marks ((test ≡ true) × G)
keeping {test} {formed} g = record { holds = λ shallow f p o breaks. let fs = and_parts test formed f in (fs.0, g.holds shallow fs.1 p o breaks) }

-- where what holds is asked for
pub knowing : {limit depth : ℕ} {test formed plain ordered : Bool} {marks : List Mark} {G : Type 0}
    → (test ≡ true → Gives limit depth formed plain ordered marks G) → Gives limit depth (test && formed) plain ordered marks G
knowing {test} {formed} g = record { holds = λ shallow f p o breaks. let fs = and_parts test formed f in (g fs.0).holds shallow fs.1 p o breaks }

-- behind a test of what is ordered, which is passed over
pub past : (test : Bool) {limit depth : ℕ} {formed plain ordered : Bool} {marks : List Mark} {G : Type 0}
    → Gives limit depth formed plain ordered marks G → Gives limit depth formed plain (test && ordered) marks G
past test {ordered} g = record { holds = λ shallow f p o breaks. g.holds shallow f p (and_parts test ordered o).1 breaks }

-- behind other marks, and before them
pub later : {limit depth : ℕ} {formed plain ordered : Bool} (before : List Mark) {marks : List Mark} {G : Type 0}
    → Gives limit depth formed plain ordered marks G → Gives limit depth formed plain ordered (before ++ marks) G
later before {marks} g = record { holds = λ shallow f p o breaks. g.holds shallow f p o (in_both before marks breaks).1 }

pub earlier : {limit depth : ℕ} {formed plain ordered : Bool} {marks : List Mark} (behind : List Mark) {G : Type 0}
    → Gives limit depth formed plain ordered marks G → Gives limit depth formed plain ordered (marks ++ behind) G
earlier {marks} behind g = record { holds = λ shallow f p o breaks. g.holds shallow f p o (in_both marks behind breaks).0 }

-- ---- an operation of two operands

-- one that is plain as a value is no comparison
pub no_comparison : (compares : Bool) {limit depth : ℕ} {formed plain ordered : Bool} {marks : List Mark} {G H : Type 0}
    → Gives limit depth formed plain ordered marks (G × H) → Gives limit depth formed (plain_comparison compares plain).value ordered marks ((compares ≡ false) × G × H)
no_comparison true g = not_plain
no_comparison false g = so (λ both. (refl, both.0, both.1)) g

-- one that is plain as a condition has plain operands
pub compared : (compares : Bool) {limit depth : ℕ} {formed plain ordered : Bool} {marks : List Mark} {G : Type 0}
    → Gives limit depth formed plain ordered marks G → Gives limit depth formed (plain_comparison compares plain).condition ordered marks G
compared true g = g
compared false g = g

-- ---- three parts

-- of which the first two are plain together
three : {limit a b c : ℕ} {f g h p q r i j k : Bool} {one two more marks : List Mark} {G H K : Type 0} → (InLoops marks → InLoops one × InLoops two × InLoops more)
    → Gives limit a f p i one G → Gives limit b g q j two H → Gives limit c h r k more K
    → Gives limit (max (max a b) c) (f && (g && h)) ((p && q) && r) (i && (j && k)) marks (G × H × K)
three {a} {b} {c} {f} {g} {h} {p} {q} {r} {i} {j} {k} apart first second third = record {
  holds = λ shallow formed plain ordered breaks.
      let fs = and_parts f (g && h) formed in
      let gs = and_parts g h fs.1 in
      let ps = and_parts (p && q) r plain in
      let pq = and_parts p q ps.0 in
      let is = and_parts i (j && k) ordered in
      let js = and_parts j k is.1 in
      let each = apart breaks in (
        first.holds (omega arith) fs.0 pq.0 is.0 each.0,
        second.holds (omega arith) gs.0 pq.1 js.0 each.1,
        third.holds (omega arith) gs.1 ps.1 js.1 each.2,
      );
}

-- and the marks of the last two are joined, or those of the first two
pub in_turn : {limit a b c : ℕ} {f g h p q r i j k : Bool} {one two more : List Mark} {G H K : Type 0}
    → Gives limit a f p i one G → Gives limit b g q j two H → Gives limit c h r k more K
    → Gives limit (max (max a b) c) (f && (g && h)) ((p && q) && r) (i && (j && k)) (one ++ (two ++ more)) (G × H × K)
in_turn {one} {two} {more} first second third = three (in_three one two more) first second third

pub joined : {limit a b c : ℕ} {f g h p q r i j k : Bool} {one two more : List Mark} {G H K : Type 0}
    → Gives limit a f p i one G → Gives limit b g q j two H → Gives limit c h r k more K
    → Gives limit (max (max a b) c) (f && (g && h)) ((p && q) && r) (i && (j && k)) ((one ++ two) ++ more) (G × H × K)
joined {one} {two} {more} first second third = three (in_joined one two more) first second third

-- ---- four parts

-- of which the first three stand before the last
pub headed : {limit a b c d : ℕ} {f g h k p q r s i j m n : Bool} {one two more last : List Mark} {G H K L : Type 0}
    → Gives limit a f p i one G → Gives limit b g q j two H → Gives limit c h r m more K → Gives limit d k s n last L
    → Gives limit (max (max a b) (max c d)) (f && (g && (h && k))) (((p && q) && r) && s) (i && (j && (m && n))) ((one ++ (two ++ more)) ++ last) ((G × H × K) × L)
headed {a} {b} {c} {d} {f} {g} {h} {k} {p} {q} {r} {s} {i} {j} {m} {n} {one} {two} {more} {last} first second third fourth = record {
  holds = λ shallow formed plain ordered breaks.
      let fs = and_parts (f && (g && h)) k (parted f g h k formed) in
      let ps = and_parts ((p && q) && r) s plain in
      let is = and_parts (i && (j && m)) n (parted i j m n ordered) in
      let each = in_both (one ++ (two ++ more)) last breaks in
      ((in_turn first second third).holds (omega arith) fs.0 ps.0 is.0 each.0, fourth.holds (omega arith) fs.1 ps.1 is.1 each.1);
} where
  parted : (f g h k : Bool) → (f && (g && (h && k))) ≡ true → ((f && (g && h)) && k) ≡ true
  parted true true true k all = all
  parted true true false k all = all
  parted true false h k all = all
  parted false g h k all = all
