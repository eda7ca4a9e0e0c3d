-- What every step of the scheme keeps, what is final of a function that is being made, and the words and constants that stand there.
use Rattle.std.proofs.Common.{◌≡◌, ◌≤◌, ◌<◌, ℕ, zero, suc, ◌+◌, Bool, true, false, cond, List, [], ◌∷◌, ◌++◌, length, get_or, set, refl, sym, ap, ◌∙◌, subst, arith, length-append, Decides, not}
use Rattle.std.specs.Prelude.{None, Some, if◌then◌else◌, ◌||◌, slice_get}
use Rattle.std.specs.List.{list_any}
use Rattle.std.proofs.lemmas.List.{get_or-set_same, get_or-set_other}
use Rattle.proto.specs.Chunk.{Chunk, functions_of, function_at}
use Rattle.proto.specs.Constants.{with_constant, constant_number, same_constant}
use Rattle.proto.proofs.ConstantPool.{same_constant-Decides}
use Rattle.proto.specs.declared.parts.Constant.{Constant}
use Rattle.scheme.specs.Functions.{Finished, with_function, words_from, word_at, reach_from, reach_at, register_count}
use Rattle.scheme.specs.Making.{Maker, pc, put, new_label, place, take_registers, used, free_from, constant, pass_name}
use Rattle.scheme.specs.declared.making.Piece.{Piece}
use Rattle.scheme.specs.declared.making.Item.{Item}
use Rattle.scheme.specs.declared.making.Active.{Active}
use Rattle.scheme_stands.specs.Words.{number_at, Near, Fn, Spot, WordAt}

by_decides : (b : Bool) (P : Type 0) → Decides b P → b ≡ true → P
by_decides b P d e = d.0 e

-- ---- lists by place

-- what stands in the first list stands there in the second
abbrev pub Kept : {A : Type 0} → List A → List A → Type 0
Kept {A} xs ys = (i : ℕ) (x : A) → slice_get xs i ≡ Some x → slice_get ys i ≡ Some x

pub kept_end : {A : Type 0} (xs more : List A) → Kept xs (xs ++ more)
kept_end [] more i x e = cc
kept_end (y ∷ xs) more zero x e = e
kept_end (y ∷ xs) more (suc i) x e = kept_end xs more i x e

pub at_end : {A : Type 0} (xs : List A) (x : A) → slice_get (xs ++ x ∷ []) (length xs) ≡ Some x
at_end [] x = refl
at_end (y ∷ xs) x = at_end xs x

pub length_end : {A : Type 0} (xs : List A) (x : A) → length (xs ++ x ∷ []) ≡ suc (length xs)
length_end xs x = omega (arith, length-append xs (x ∷ []))

pub get_or_end : (xs more : List ℕ) (i : ℕ) → i < length xs → get_or (xs ++ more) i 0 ≡ get_or xs i 0
get_or_end [] more i l = absurd (omega arith)
get_or_end (x ∷ xs) more zero l = refl
get_or_end (x ∷ xs) more (suc i) l = get_or_end xs more i (omega arith)

pub length_set : (xs : List ℕ) (i x : ℕ) → length (set xs i x) ≡ length xs
length_set [] i x = refl
length_set (y ∷ xs) zero x = refl
length_set (y ∷ xs) (suc i) x = ap suc (length_set xs i x)

pub front_empty : {A : Type 0} (xs ys : List A) → xs ++ ys ≡ [] → xs ≡ []
front_empty [] ys e = refl
front_empty (x ∷ xs) ys e = cc

pub back_empty : {A : Type 0} (xs ys : List A) → xs ++ ys ≡ [] → ys ≡ []
back_empty [] ys e = e
back_empty (x ∷ xs) ys e = cc

-- ---- growth

-- the active locals: the same ones, or more of them, or whatever they are
pub data Mode : Type 0 where
  calm : Mode
  loose : Mode
  any : Mode

abbrev pub Actives : Mode → List Active → List Active → Type 0
Actives calm xs ys = ys ≡ xs
Actives loose xs ys = Kept xs ys
Actives any xs ys = Unit {0}

pub actives_same : (v : Mode) (xs : List Active) → Actives v xs xs
actives_same calm xs = refl
actives_same loose xs = λ i x e. e
actives_same any xs = tt

pub actives_then : (v : Mode) (xs ys zs : List Active) → Actives v xs ys → Actives v ys zs → Actives v xs zs
actives_then calm xs ys zs a b = b ∙ a
actives_then loose xs ys zs a b = λ i x e. b i x (a i x e)
actives_then any xs ys zs a b = tt

-- all that is made stays, and the labels that there are stay where they are
pub record Grown (v : Mode) (m n : Maker) : Type 0 where
  pub items : Kept m.items n.items
  pub constants : Kept m.constants n.constants
  pub functions : Kept m.functions n.functions
  pub labels : (i : ℕ) → i < length m.labels → get_or n.labels i 0 ≡ get_or m.labels i 0
  pub more : length m.labels ≤ length n.labels
  pub high : m.high ≤ n.high
  -- what has no misfits had none before
  pub fine : n.misfits ≡ [] → m.misfits ≡ []
  pub upvalues : n.upvalue_names ≡ m.upvalue_names
  pub active : Actives v m.active n.active

pub start : {v : Mode} (m : Maker) → Grown v m m
start {v} m = record { items = λ i x e. e; constants = λ i x e. e; functions = λ i x e. e; labels = λ i l. refl; more = omega arith; high = omega arith; fine = λ e. e; upvalues = refl; active = actives_same v m.active }

pub on_part : {v : Mode} {m n o : Maker} → Grown v n o → Grown v m n → Grown v m o
on_part {v} {m} {n} {o} h g = record {
  items = λ i x e. h.items i x (g.items i x e);
  constants = λ i x e. h.constants i x (g.constants i x e);
  functions = λ i x e. h.functions i x (g.functions i x e);
  labels = λ i l. h.labels i (omega (arith, g.more, l)) ∙ g.labels i l;
  more = omega (arith, g.more, h.more);
  high = omega (arith, g.high, h.high);
  fine = λ e. g.fine (h.fine e);
  upvalues = h.upvalues ∙ g.upvalues;
  active = actives_then v m.active n.active o.active g.active h.active;
}

pub put_step : {v : Mode} (line : ℕ) (piece : Piece) (n : Maker) → Grown v n (put line piece n)
put_step {v} line piece n = record { items = kept_end n.items _; constants = λ i x e. e; functions = λ i x e. e; labels = λ i l. refl; more = omega arith; high = omega arith; fine = λ e. e; upvalues = refl; active = actives_same v n.active }

pub new_step : {v : Mode} (n : Maker) → Grown v n (new_label n).after
new_step {v} n = record { items = λ i x e. e; constants = λ i x e. e; functions = λ i x e. e; labels = λ i l. get_or_end n.labels (0 ∷ []) i l; more = omega (arith, length-append n.labels (0 ∷ [])); high = omega arith; fine = λ e. e; upvalues = refl; active = actives_same v n.active }

pub take_step : {v : Mode} (k : ℕ) (n : Maker) → Grown v n (take_registers k n)
take_step {v} k n = record { items = λ i x e. e; constants = λ i x e. e; functions = λ i x e. e; labels = λ i l. refl; more = omega arith; high = omega arith; fine = λ e. e; upvalues = refl; active = actives_same v n.active }

pub used_step : {v : Mode} (k : ℕ) (n : Maker) → Grown v n (used k n)
used_step {v} k n = record { items = λ i x e. e; constants = λ i x e. e; functions = λ i x e. e; labels = λ i l. refl; more = omega arith; high = omega arith; fine = λ e. e; upvalues = refl; active = actives_same v n.active }

pub free_step : {v : Mode} (r : ℕ) (n : Maker) → Grown v n (free_from r n)
free_step {v} r n = record { items = λ i x e. e; constants = λ i x e. e; functions = λ i x e. e; labels = λ i l. refl; more = omega arith; high = omega arith; fine = λ e. e; upvalues = refl; active = actives_same v n.active }

pass_step : {v : Mode} (n : Maker) → Grown v n (pass_name n)
pass_step {v} n = record { items = λ i x e. e; constants = λ i x e. e; functions = λ i x e. e; labels = λ i l. refl; more = omega arith; high = omega arith; fine = λ e. e; upvalues = refl; active = actives_same v n.active }

pub with_kept : (b : Bool) (k : Constant) (ks : List Constant) → Kept ks (if b then ks else ks ++ k ∷ [])
with_kept true k ks = λ i x e. e
with_kept false k ks = kept_end ks (k ∷ [])

constant_step : {v : Mode} (k : Constant) (n : Maker) → Grown v n (constant k n).after
constant_step {v} k n = record { items = λ i x e. e; constants = with_kept (list_any (same_constant k) n.constants) k n.constants; functions = λ i x e. e; labels = λ i l. refl; more = omega arith; high = omega arith; fine = λ e. e; upvalues = refl; active = actives_same v n.active }

pub function_step : {v : Mode} (made : Finished) (n : Maker) → Grown v n (with_function made n)
function_step {v} made n = record { items = λ i x e. e; constants = λ i x e. e; functions = kept_end n.functions (made.chunk ∷ []); labels = λ i l. refl; more = omega arith; high = omega arith; fine = λ e. front_empty n.misfits made.misfits e; upvalues = refl; active = actives_same v n.active }

pub on_put : {v : Mode} {m n : Maker} (line : ℕ) (piece : Piece) → Grown v m n → Grown v m (put line piece n)
on_put line piece g = on_part (put_step line piece _) g

pub on_new : {v : Mode} {m n : Maker} → Grown v m n → Grown v m (new_label n).after
on_new g = on_part (new_step _) g

pub on_take : {v : Mode} {m n : Maker} (k : ℕ) → Grown v m n → Grown v m (take_registers k n)
on_take k g = on_part (take_step k _) g

pub on_used : {v : Mode} {m n : Maker} (k : ℕ) → Grown v m n → Grown v m (used k n)
on_used k g = on_part (used_step k _) g

pub on_free : {v : Mode} {m n : Maker} (r : ℕ) → Grown v m n → Grown v m (free_from r n)
on_free r g = on_part (free_step r _) g

pub on_pass : {v : Mode} {m n : Maker} → Grown v m n → Grown v m (pass_name n)
on_pass g = on_part (pass_step _) g

pub on_constant : {v : Mode} {m n : Maker} (k : Constant) → Grown v m n → Grown v m (constant k n).after
on_constant k g = on_part (constant_step k _) g

-- a label that the part made itself is placed
pub on_place : {v : Mode} {m n : Maker} (label : ℕ) → length m.labels ≤ label → Grown v m n → Grown v m (place label n)
on_place {v} {m} {n} label l g = record {
  items = g.items;
  constants = g.constants;
  functions = g.functions;
  labels = λ i k. get_or-set_other n.labels label i (length n.items) 0 (λ e. omega (arith, e, k, l)) ∙ g.labels i k;
  more = omega (arith, g.more, length_set n.labels label (length n.items));
  high = g.high;
  fine = g.fine;
  upvalues = g.upvalues;
  active = g.active;
}

-- ---- what is final

-- what is made stands in the finished function z, and so do the labels from the k-th on; that has no misfits, and no long jumps
pub record Final (k : ℕ) (n z : Maker) : Type 0 where
  pub items : Kept n.items z.items
  pub constants : Kept n.constants z.constants
  pub functions : Kept n.functions z.functions
  pub labels : (i : ℕ) → k ≤ i → i < length n.labels → get_or z.labels i 0 ≡ get_or n.labels i 0
  pub high : n.high ≤ z.high
  pub fine : n.misfits ≡ []
  pub upvalues : z.upvalue_names ≡ n.upvalue_names
  pub near : reach_from z.labels 0 z.items ≤ 131071

pub final_self : (z : Maker) → z.misfits ≡ [] → reach_from z.labels 0 z.items ≤ 131071 → Final 0 z z
final_self z e l = record { items = λ i x e. e; constants = λ i x e. e; functions = λ i x e. e; labels = λ i l h. refl; high = omega arith; fine = e; upvalues = refl; near = l }

-- before a part that keeps the labels
pub before : {v : Mode} {k : ℕ} {n o z : Maker} → Grown v n o → Final k o z → Final k n z
before g f = record {
  items = λ i x e. f.items i x (g.items i x e);
  constants = λ i x e. f.constants i x (g.constants i x e);
  functions = λ i x e. f.functions i x (g.functions i x e);
  labels = λ i l h. f.labels i l (omega (arith, g.more, h)) ∙ g.labels i h;
  high = omega (arith, g.high, f.high);
  fine = g.fine f.fine;
  upvalues = f.upvalues ∙ g.upvalues;
  near = f.near;
}

-- of fewer labels
pub later : {j k : ℕ} {n z : Maker} → j ≤ k → Final j n z → Final k n z
later l f = record { items = f.items; constants = f.constants; functions = f.functions; labels = λ i h b. f.labels i (omega (arith, l, h)) b; high = f.high; fine = f.fine; upvalues = f.upvalues; near = f.near }

-- before a label was placed, and where it stands
pub unplaced : {k : ℕ} {n z : Maker} (label : ℕ) → k ≤ label → Final k (place label n) z → Final (suc label) n z
unplaced {k} {n} {z} label l f = record {
  items = f.items;
  constants = f.constants;
  functions = f.functions;
  labels = λ i h b. f.labels i (omega (arith, l, h)) (omega (arith, b, length_set n.labels label (length n.items))) ∙ get_or-set_other n.labels label i (length n.items) 0 (λ e. omega (arith, e, h));
  high = f.high;
  fine = f.fine;
  upvalues = f.upvalues;
  near = f.near;
}

-- before an earlier label was placed
pub unplaced_below : {k : ℕ} {n z : Maker} (label : ℕ) → label < k → Final k (place label n) z → Final k n z
unplaced_below {k} {n} {z} label l f = record {
  items = f.items;
  constants = f.constants;
  functions = f.functions;
  labels = λ i h b. f.labels i h (omega (arith, b, length_set n.labels label (length n.items))) ∙ get_or-set_other n.labels label i (length n.items) 0 (λ e. omega (arith, e, h, l));
  high = f.high;
  fine = f.fine;
  upvalues = f.upvalues;
  near = f.near;
}

pub placed : {k : ℕ} {z : Maker} (n : Maker) (label : ℕ) → k ≤ label → label < length n.labels → Final k (place label n) z → get_or z.labels label 0 ≡ length n.items
placed {k} {z} n label l b f = f.labels label l (omega (arith, b, length_set n.labels label (length n.items))) ∙ get_or-set_same n.labels label (length n.items) 0 b

-- a label stands where it was placed at c, and what was made since keeps it
pub stood : {v : Mode} (c n : Maker) (label : ℕ) → label < length c.labels → Grown v (place label c) n → get_or n.labels label 0 ≡ length c.items
stood c n label b g = g.labels label (omega (arith, b, length_set c.labels label (length c.items))) ∙ get_or-set_same c.labels label (length c.items) 0 b

-- ---- what stands

abbrev pub spot : Maker → Spot
spot m = record { pc = length m.items; ahead = m.ahead; functions = length m.functions }

-- the finished function
abbrev pub fn_of : Maker → Fn
fn_of z = record { code = words_from z.labels 0 z.items; constants = z.constants; functions = functions_of z.functions; size = register_count z; upvalue_names = z.upvalue_names; law = None }

-- a word with its label as a place
abbrev pub resolved : List ℕ → Piece → Piece
resolved labels (Piece.Abc op a b c) = Piece.Abc op a b c
resolved labels (Piece.Abx op a bx) = Piece.Abx op a bx
resolved labels (Piece.Jump op a label) = Piece.Jump op a (get_or labels label 0)
resolved labels (Piece.Bare n) = Piece.Bare n

number_is : (labels : List ℕ) (pc : ℕ) (piece : Piece) → word_at labels pc piece ≡ number_at pc (resolved labels piece)
number_is labels pc (Piece.Abc op a b c) = refl
number_is labels pc (Piece.Abx op a bx) = refl
number_is labels pc (Piece.Jump op a label) = refl
number_is labels pc (Piece.Bare n) = refl

pub word_stands : (labels : List ℕ) (first : ℕ) (items : List Item) (i : ℕ) (x : Item) → slice_get items i ≡ Some x → slice_get (words_from labels first items) i ≡ Some (word_at labels (first + i) x.piece)
word_stands labels first [] i x e = cc
word_stands labels first (y ∷ items) zero x e =
    let same : y ≡ x = cc in
    let sum : first ≡ first + 0 = omega arith in
    ap (λ y. Some (word_at labels first y.piece)) same ∙ ap (λ n. Some (word_at labels n x.piece)) sum
word_stands labels first (y ∷ items) (suc i) x e =
    let sum : suc first + i ≡ first + suc i = omega arith in
    word_stands labels (suc first) items i x e ∙ ap (λ n. Some (word_at labels n x.piece)) sum

-- no word jumps farther than the longest jump
pub reaches : (labels : List ℕ) (first : ℕ) (items : List Item) (i : ℕ) (x : Item) → slice_get items i ≡ Some x → reach_at labels (first + i) x.piece ≤ reach_from labels first items
reaches labels first [] i x e = cc
reaches labels first (y ∷ items) zero x e =
    let same : y ≡ x = cc in
    let sum : first ≡ first + 0 = omega arith in
    subst (λ n. reach_at labels n x.piece ≤ reach_from labels first (y ∷ items)) sum
    (subst (λ y'. reach_at labels first y'.piece ≤ reach_from labels first (y ∷ items)) same (omega arith))
reaches labels first (y ∷ items) (suc i) x e =
    let sum : suc first + i ≡ first + suc i = omega arith in
    let h = reaches labels (suc first) items i x e in
    let l : reach_at labels (suc first + i) x.piece ≤ reach_from labels first (y ∷ items) = omega (arith, h) in
    subst (λ n. reach_at labels n x.piece ≤ reach_from labels first (y ∷ items)) sum l

near_at : (labels : List ℕ) (pc : ℕ) (piece : Piece) → reach_at labels pc piece ≤ 131071 → Near pc (resolved labels piece)
near_at labels pc (Piece.Abc op a b c) l = tt
near_at labels pc (Piece.Abx op a bx) l = tt
near_at labels pc (Piece.Jump op a label) l = l
near_at labels pc (Piece.Bare n) l = tt

pub put_at : {k : ℕ} {z : Maker} (line : ℕ) (piece : Piece) (n : Maker) → Final k (put line piece n) z → WordAt (fn_of z) (resolved z.labels piece) (spot n) (spot (put line piece n))
put_at {k} {z} line piece n f =
    let sum : 0 + length n.items ≡ length n.items = omega arith in
    let there = f.items _ _ (at_end n.items (record { line = line; piece = piece })) in
    let h = reaches z.labels 0 z.items (length n.items) (record { line = line; piece = piece }) there in
    let near = f.near in
    let l : reach_at z.labels (0 + length n.items) piece ≤ 131071 = omega (arith, h, near) in
    record {
      has = word_stands z.labels 0 z.items (length n.items) (record { line = line; piece = piece }) there ∙ ap (λ i. Some (word_at z.labels i piece)) sum ∙ ap Some (number_is z.labels (length n.items) piece);
      near = near_at z.labels (length n.items) piece (subst (λ i. reach_at z.labels i piece ≤ 131071) sum l);
      reads = tt;
      next = length_end n.items _;
      ahead = refl;
      functions = refl;
    }

same_is : (a b : Constant) → same_constant a b ≡ true → a ≡ b
same_is a b e = by_decides _ _ (same_constant-Decides a b) e

-- a constant stands at its number
pub constant_stands : (k : Constant) (ks : List Constant) → slice_get (with_constant k ks) (constant_number k ks) ≡ Some k
constant_stands k [] = refl
constant_stands k (y ∷ ys) = go (same_constant k y) refl (constant_stands k ys)
  where
    on : (b : Bool) → slice_get (if b then ys else ys ++ k ∷ []) (constant_number k ys) ≡ Some k → slice_get (if b then y ∷ ys else y ∷ ys ++ k ∷ []) (1 + constant_number k ys) ≡ Some k
    on true h = let sum : 1 + constant_number k ys ≡ suc (constant_number k ys) = omega arith in ap (slice_get (y ∷ ys)) sum ∙ h
    on false h = let sum : 1 + constant_number k ys ≡ suc (constant_number k ys) = omega arith in ap (slice_get (y ∷ ys ++ k ∷ [])) sum ∙ h

    go : (b : Bool) → same_constant k y ≡ b → slice_get (with_constant k ys) (constant_number k ys) ≡ Some k → slice_get (if b || list_any (same_constant k) ys then y ∷ ys else y ∷ ys ++ k ∷ []) (cond (not b) (1 + constant_number k ys) 0) ≡ Some k
    go true e h = ap Some (sym (same_is k y e))
    go false e h = on (list_any (same_constant k) ys) h

-- a constant's number is final
pub constant_at : {j : ℕ} {z : Maker} (k : Constant) (n : Maker) → Final j (constant k n).after z → slice_get z.constants (constant k n).value ≡ Some k
constant_at k n f = f.constants _ _ (constant_stands k n.constants)

-- the functions of a chunk by their numbers
pub function_stands : (cs : List Chunk) (i : ℕ) (c : Chunk) → slice_get cs i ≡ Some c → function_at (functions_of cs) i ≡ Some c
function_stands [] i c e = cc
function_stands (d ∷ cs) zero c e = e
function_stands (d ∷ cs) (suc i) c e = function_stands cs i c e

-- a function that was put among the others has no misfits
pub made_fine : {k : ℕ} {z : Maker} (made : Finished) (n : Maker) → Final k (with_function made n) z → made.misfits ≡ []
made_fine made n f = back_empty n.misfits made.misfits f.fine

-- ---- one step back

pub before_put : {k : ℕ} {z : Maker} (line : ℕ) (piece : Piece) (n : Maker) → Final k (put line piece n) z → Final k n z
before_put line piece n f = before (put_step {v = calm} line piece n) f

pub before_take : {k : ℕ} {z : Maker} (i : ℕ) (n : Maker) → Final k (take_registers i n) z → Final k n z
before_take i n f = before (take_step {v = calm} i n) f

pub before_used : {k : ℕ} {z : Maker} (i : ℕ) (n : Maker) → Final k (used i n) z → Final k n z
before_used i n f = before (used_step {v = calm} i n) f

pub before_free : {k : ℕ} {z : Maker} (r : ℕ) (n : Maker) → Final k (free_from r n) z → Final k n z
before_free r n f = before (free_step {v = calm} r n) f

-- registers that were taken are there
pub room_at : {k : ℕ} {z : Maker} (n : Maker) → Final k (take_registers 1 n) z → n.free < register_count z
room_at n f = let h = f.high in omega (arith, h)
