-- Each word that is put keeps the invariant, and so does a constant that is taken.
use Rattle.std.proofs.Common.{◌≡◌, ◌≤◌, ◌<◌, ℕ, zero, suc, Bool, true, false, List, [], ◌∷◌, length, refl, sym, ap, ◌∙◌, arith, inl, ◌+◌, cond, eqb-true, ◌++◌, subst, nat_lt, nat_le, leb-true, ◌-◌, ne_eqb}
use Rattle.std.specs.Prelude.{Option, None, ◌==◌, ◌&&◌, Some, slice_get}
use Rattle.std.proofs.lemmas.Option.{slice_get_within}
use Rattle.std.proofs.lemmas.List.{length-map}
use Rattle.opcode.specs.declared.op.Op.{Op}
use Rattle.proto.specs.declared.parts.Constant.{Constant}
use Rattle.proto.specs.Constants.{constant_number, with_constant}
use Rattle.rules.specs.Breaks.{wants, leaves}
use Rattle.rules.proofs.Lists.{and_first}
use Rattle.scheme.specs.Making.{Maker, put, constant}
use Rattle.scheme.specs.declared.making.Piece.{Piece}
use Rattle.scheme.specs.declared.making.Local.{Local}
use Rattle.scheme.specs.declared.making.Item.{Item}
use Rattle.scheme_stands.proofs.Growth.{calm, at_end, length_end, on_constant, start, put_step}
use Rattle.scheme_sound.proofs.Ghosts.{locals_of, kind_at, captured_at, IsLoop, Below, ClosedBelow, PreparedBelow, Ghost, plain_instr, Sane, Meets, goes_on, Clear, Flow, on_to_next, closing, ending, jumping, preparing, looping, HasFormat, Ok, Invariant, Grew, Widens}
use Rattle.scheme_sound.proofs.Later.{below_self, sane_later}
use Rattle.scheme_sound.proofs.States.{updated, updated_same, updated_other, grew_by, invariant_later, no_new_word, State, Onward, Leads, widens_self, SameMade, invariant_same}
use Rattle.scheme_stands.proofs.Growth.{constant_stands}

-- ---- what is known behind a word

-- the ghost behind a word: what is active there, and the results that are left open
abbrev pub next_ghost : Ghost → ℕ → List Local → Option ℕ → Ghost
next_ghost g p xs o = record g { note = updated g.note (suc p) xs; left = updated g.left (suc p) o; is_place = updated g.is_place (suc p) true }

next_ghost_widens : (m : Maker) (g : Ghost) (xs : List Local) (o : Option ℕ) → Widens m g (next_ghost g (length m.items) xs o)
next_ghost_widens m g xs o =
    let p = length m.items in
    record {
      note = λ i l. updated_other g.note (suc p) xs i (λ e. omega (arith, e, l));
      last = subst (λ ys. Below (g.note p) ys) (sym (updated_other g.note (suc p) xs p (λ e. omega (arith, e)))) (below_self (g.note p));
      left = λ i l. updated_other g.left (suc p) o i (λ e. omega (arith, e, l));
      is_place = λ i l. updated_other g.is_place (suc p) true i (λ e. omega (arith, e, l));
      need = λ l k. refl;
      size = omega arith;
      vararg = refl;
    }

put_grew : (line : ℕ) (piece : Piece) (m : Maker) → Grew m (put line piece m)
put_grew line piece m = grew_by (put_step {v = calm} line piece m)

put_onward : (line : ℕ) (piece : Piece) (m : Maker) (g : Ghost) (xs : List Local) (o : Option ℕ) → Onward m g (put line piece m) (next_ghost g (length m.items) xs o)
put_onward line piece m g xs o = record { need = λ l k. refl; labels = omega arith; high = omega arith; count = omega arith; upvalues = refl; larger = omega arith; size = omega arith; vararg = refl }

-- the new word alone is new
only_new : (line : ℕ) (piece : Piece) (m : Maker) (P : ℕ → Piece → Type 0) → P (length m.items) piece → (i : ℕ) (x : Item) → length m.items ≤ i → slice_get (put line piece m).items i ≡ Some x → P i x.piece
only_new line piece m P p i x l e =
    let item : Item = record { line = line; piece = piece } in
    let k = slice_get_within (m.items ++ item ∷ []) i x e in
    let same : i ≡ length m.items = omega (arith, l, k, length_end m.items item) in
    let e' : slice_get (m.items ++ item ∷ []) (length m.items) ≡ Some x = subst (λ j. slice_get (m.items ++ item ∷ []) j ≡ Some x) same e in
    let is : item ≡ x = (let a = at_end m.items item in cc) in
    subst (λ y. P i y.piece) is (subst (λ j. P j piece) (sym same) p)

-- a word is put, with what follows from it
pub put_word : (line : ℕ) (piece : Piece) (m : Maker) (g : Ghost) (xs : List Local) (o : Option ℕ) → Invariant m g → Ok (put line piece m) (next_ghost g (length m.items) xs o) (length m.items) piece → Invariant (put line piece m) (next_ghost g (length m.items) xs o)
put_word line piece m g xs o v k =
    invariant_later m (put line piece m) g (next_ghost g (length m.items) xs o) v (put_grew line piece m) (next_ghost_widens m g xs o) refl refl v.functions
    (λ i x l e s. only_new line piece m (λ j p. Ok (put line piece m) (next_ghost g (length m.items) xs o) j p) k i x l e)
    (subst (λ j. updated g.is_place (suc (length m.items)) true j ≡ true) (sym (length_end m.items _)) (updated_same g.is_place (suc (length m.items)) true))

-- the state behind a word
word_leads : (line : ℕ) (piece : Piece) (m : Maker) (g : Ghost) (o o' : Option ℕ) → State m g o → Ok (put line piece m) (next_ghost g (length m.items) (locals_of m.active) o') (length m.items) piece → Leads m g (put line piece m) o' m.ahead
word_leads line piece m g o o' s k = record {
  ghost = next_ghost g (length m.items) (locals_of m.active) o';
  state = record {
    invariant = put_word line piece m g (locals_of m.active) o' s.invariant k;
    now = subst (λ j. updated g.note (suc (length m.items)) (locals_of m.active) j ≡ locals_of m.active) (sym (length_end m.items _)) (updated_same g.note (suc (length m.items)) (locals_of m.active));
    left = subst (λ j. updated g.left (suc (length m.items)) o' j ≡ o') (sym (length_end m.items _)) (updated_same g.left (suc (length m.items)) o');
    held = s.held;
    room = s.room;
  };
  onward = put_onward line piece m g (locals_of m.active) o';
  unplaced = refl;
  active = refl;
  ahead = refl;
}

-- what a word is where it is put
module _ (line : ℕ) (piece : Piece) (m : Maker) (g : Ghost) (o o' : Option ℕ) (s : State m g o) where
  abbrev p : ℕ
  p = length m.items

  abbrev n : Maker
  n = put line piece m

  abbrev h : Ghost
  h = next_ghost g p (locals_of m.active) o'

  put_note : h.note p ≡ locals_of m.active
  put_note = updated_other g.note (suc p) _ p (λ e. omega (arith, e)) ∙ s.now

  put_next : h.note (suc p) ≡ locals_of m.active
  put_next = updated_same g.note (suc p) _

  put_sane : Sane m g (locals_of m.active) (plain_instr piece) → Sane n h (h.note p) (plain_instr piece)
  put_sane a = sane_later m n g h (locals_of m.active) (h.note p) (plain_instr piece) (put_grew line piece m) (next_ghost_widens m g (locals_of m.active) o') put_note a

  put_meets : Meets (wants (plain_instr piece).op (plain_instr piece)) o → Meets (wants (plain_instr piece).op (plain_instr piece)) (h.left p)
  put_meets a = subst (λ x. Meets (wants (plain_instr piece).op (plain_instr piece)) x) (sym (updated_other g.left (suc p) o' p (λ e. omega (arith, e)) ∙ s.left)) a

  pub put_place : h.is_place (suc p) ≡ true
  put_place = updated_same g.is_place (suc p) true

  pub put_left : h.left (suc p) ≡ o'
  put_left = updated_same g.left (suc p) o'

  put_below : Below (h.note p) (h.note (suc p))
  put_below = subst (λ xs. Below xs (h.note (suc p))) (sym put_note) (subst (λ xs. Below (locals_of m.active) xs) (sym put_next) (below_self (locals_of m.active)))

  pub put_ok : HasFormat piece → Sane m g (locals_of m.active) (plain_instr piece) → Meets (wants (plain_instr piece).op (plain_instr piece)) o → Flow n h p piece → Ok n h p piece
  put_ok f a w l = record { format = f; sane = put_sane a; meets = put_meets w; flow = l }

-- ---- what a word wants, leaves and writes

-- a count that is not open
pub not_open : (b : ℕ) (start : Option ℕ) → 0 < b → Meets (cond (b == 0) start None) None
not_open b start l = subst (λ t. Meets (cond t start None) None) (sym (ne_eqb b 0 (λ e. omega (arith, e, l)))) tt

-- a count that is not open leaves none
pub leaves_none : (b first : ℕ) → 0 < b → cond (b == 0) (Some first) None ≡ None
leaves_none b first l = ap (λ t. cond t (Some first) None) (ne_eqb b 0 (λ e. omega (arith, e, l)))

-- a word that writes none
pub none_written : (xs : List Local) (r : ℕ) → false ≡ true → kind_at xs r ≡ 0
none_written xs r e = cc

-- a word that writes one register, and it is no number of a loop
pub one_written : (xs : List Local) (r x : ℕ) → kind_at xs r ≡ 0 → (r == x) ≡ true → kind_at xs x ≡ 0
one_written xs r x k e = subst (λ y. kind_at xs y ≡ 0) (eqb-true r x e) k

kind_past : (xs : List Local) (r : ℕ) → length xs ≤ r → kind_at xs r ≡ 0
kind_past [] r l = refl
kind_past (x ∷ xs) zero l = absurd (omega arith)
kind_past (x ∷ xs) (suc r) l = kind_past xs r (omega arith)

captured_past : (xs : List Local) (r : ℕ) → length xs ≤ r → captured_at xs r ≡ false
captured_past [] r l = refl
captured_past (x ∷ xs) zero l = absurd (omega arith)
captured_past (x ∷ xs) (suc r) l = captured_past xs r (omega arith)

-- registers behind the active locals are no numbers of a loop
pub kind_free : (m : Maker) (r : ℕ) → length m.active ≤ r → kind_at (locals_of m.active) r ≡ 0
kind_free m r l = kind_past (locals_of m.active) r (omega (arith, l, length-map m.active (λ one. one.local)))

-- a register in a range that begins at one is not below it
pub range_from : (a x : ℕ) (c : Bool) → (nat_le a x && c) ≡ true → a ≤ x
range_from a x c e = leb-true a x (and_first (nat_le a x) c e)

-- so it is no number of a loop where the range begins behind the active locals
pub range_spares : (m : Maker) (a x : ℕ) (c : Bool) → length m.active ≤ a → (nat_le a x && c) ≡ true → kind_at (locals_of m.active) x ≡ 0
range_spares m a x c l e = kind_free m x (let q = range_from a x c e in omega (arith, q, l))

-- ---- words that go on, RETURN and JMP

-- a word that goes on to the next
pub put_on : (line : ℕ) (piece : Piece) (m : Maker) (g : Ghost) (o : Option ℕ) → State m g o → HasFormat piece → Sane m g (locals_of m.active) (plain_instr piece) → Meets (wants (plain_instr piece).op (plain_instr piece)) o → goes_on (plain_instr piece).op (plain_instr piece).c ≡ true
    → Leads m g (put line piece m) (leaves (plain_instr piece).op (plain_instr piece)) m.ahead
put_on line piece m g o s f a w k =
    let o' = leaves (plain_instr piece).op (plain_instr piece) in
    word_leads line piece m g o o' s (put_ok line piece m g o o' s f a w (on_to_next k (put_place line piece m g o o' s) (put_left line piece m g o o' s) (put_below line piece m g o o' s)))

pub return_sane : (a b : ℕ) (m : Maker) (g : Ghost) → a < g.size → a + (b - 2) < g.size → Sane m g (locals_of m.active) (plain_instr (Piece.Abc Op.Return a b 0))
return_sane a b m g l k = record { first = l; ordered = refl; registers = (k, tt); fields = tt; constant = tt; upvalues = tt; small = inl (omega arith); extra = tt; spares = λ y e. none_written (locals_of m.active) y e }

-- a RETURN
pub put_return : (line a b : ℕ) (m : Maker) (g : Ghost) (o : Option ℕ) → State m g o → Sane m g (locals_of m.active) (plain_instr (Piece.Abc Op.Return a b 0)) → Meets (wants Op.Return (plain_instr (Piece.Abc Op.Return a b 0))) o → Leads m g (put line (Piece.Abc Op.Return a b 0) m) None m.ahead
put_return line a b m g o s k w =
    let piece = Piece.Abc Op.Return a b 0 in
    word_leads line piece m g o None s (put_ok line piece m g o None s refl k w (ending a b refl (record { is_place = put_place line piece m g o None s; left = put_left line piece m g o None s })))

pub jump_sane : (label : ℕ) (m : Maker) (g : Ghost) (xs : List Local) → 2 ≤ g.size → Sane m g xs (plain_instr (Piece.Jump Op.Jmp 0 label))
jump_sane label m g xs l = record { first = omega (arith, l); ordered = refl; registers = tt; fields = tt; constant = tt; upvalues = tt; small = inl (omega arith); extra = tt; spares = λ r e. none_written xs r e }

-- a JMP
pub put_jump : (line label : ℕ) (m : Maker) (g : Ghost) → State m g None → label < length m.labels → Below (locals_of m.active) (g.need label) → Leads m g (put line (Piece.Jump Op.Jmp 0 label) m) None m.ahead
put_jump line label m g s l b =
    let piece = Piece.Jump Op.Jmp 0 label in
    word_leads line piece m g None None s (put_ok line piece m g None None s refl (jump_sane label m g _ s.invariant.least) tt
    (jumping label refl l (record { is_place = put_place line piece m g None None s; left = put_left line piece m g None None s }) (subst (λ xs. Below xs (g.need label)) (sym (put_note line piece m g None None s)) b)))

-- ---- words behind which other locals are active: CLOSE, a JMP out of a block, FORPREP

-- a word behind which other locals are active
apart_state : (line : ℕ) (piece : Piece) (m n : Maker) (g : Ghost) → State m g None → SameMade m n → HasFormat piece → Sane m g (locals_of m.active) (plain_instr piece) → Meets (wants (plain_instr piece).op (plain_instr piece)) None
    → ((next_ghost g (length m.items) (locals_of n.active) None).note (length m.items) ≡ locals_of m.active → (next_ghost g (length m.items) (locals_of n.active) None).note (suc (length m.items)) ≡ locals_of n.active → Clear (next_ghost g (length m.items) (locals_of n.active) None) (suc (length m.items)) → Flow (put line piece m) (next_ghost g (length m.items) (locals_of n.active) None) (length m.items) piece)
    → length n.active ≤ g.size → length n.active ≤ n.free → State (put line piece n) (next_ghost g (length m.items) (locals_of n.active) None) None
apart_state line piece m n g s e f k w flow l r =
    let p = length m.items in
    let h = next_ghost g p (locals_of n.active) None in
    let z = put line piece m in
    let at_p : h.note p ≡ locals_of m.active = updated_other g.note (suc p) (locals_of n.active) p (λ x. omega (arith, x)) ∙ s.now in
    let at_next : h.note (suc p) ≡ locals_of n.active = updated_same g.note (suc p) (locals_of n.active) in
    let long : length (put line piece n).items ≡ suc p = length_end n.items _ ∙ ap suc (ap length e.items) in
    let v = put_word line piece m g (locals_of n.active) None s.invariant (record {
      format = f;
      sane = sane_later m z g h (locals_of m.active) (h.note p) (plain_instr piece) (put_grew line piece m) (next_ghost_widens m g (locals_of n.active) None) at_p k;
      meets = subst (λ x. Meets (wants (plain_instr piece).op (plain_instr piece)) x) (sym (updated_other g.left (suc p) None p (λ x. omega (arith, x)) ∙ s.left)) w;
      flow = flow at_p at_next (record { is_place = updated_same g.is_place (suc p) true; left = updated_same g.left (suc p) None });
    }) in
    record {
      invariant = invariant_same {m = z} {n = put line piece n} (record { items = ap (λ xs. xs ++ record { line = line; piece = piece } ∷ []) e.items; labels = e.labels; constants = e.constants; functions = e.functions; upvalues = e.upvalues; misfits = e.misfits }) (widens_self z h) refl v;
      now = subst (λ j. h.note j ≡ locals_of n.active) (sym long) at_next;
      left = subst (λ j. h.left j ≡ None) (sym long) (updated_same g.left (suc p) None);
      held = l;
      room = r;
    }

close_sane : (a : ℕ) (m : Maker) (g : Ghost) (xs : List Local) → a < g.size → Sane m g xs (plain_instr (Piece.Abc Op.Close a 0 0))
close_sane a m g xs l = record { first = l; ordered = refl; registers = (l, tt); fields = tt; constant = tt; upvalues = tt; small = inl (omega arith); extra = tt; spares = λ r e. none_written xs r e }

pub put_close : (line a : ℕ) (m n : Maker) (g : Ghost) → State m g None → a < g.size → SameMade m n → ClosedBelow a (locals_of m.active) (locals_of n.active) → length n.active ≤ g.size → length n.active ≤ n.free
    → State (put line (Piece.Abc Op.Close a 0 0) n) (next_ghost g (length m.items) (locals_of n.active) None) None
put_close line a m n g s l e b k r =
    let h = next_ghost g (length m.items) (locals_of n.active) None in
    apart_state line (Piece.Abc Op.Close a 0 0) m n g s e refl (close_sane a m g (locals_of m.active) l) tt
    (λ at_p at_next c. closing a refl c (subst (λ xs. ClosedBelow a xs (h.note (suc (length m.items)))) (sym at_p) (subst (λ xs. ClosedBelow a (locals_of m.active) xs) (sym at_next) b))) k r

pub jump_apart : (line label : ℕ) (m n : Maker) (g : Ghost) → State m g None → SameMade m n → label < length m.labels → Below (locals_of m.active) (g.need label) → length n.active ≤ g.size → length n.active ≤ n.free
    → State (put line (Piece.Jump Op.Jmp 0 label) n) (next_ghost g (length m.items) (locals_of n.active) None) None
jump_apart line label m n g s e l w k r =
    apart_state line (Piece.Jump Op.Jmp 0 label) m n g s e refl (jump_sane label m g (locals_of m.active) s.invariant.least) tt
    (λ at_p at_next c. jumping label refl l c (subst (λ xs. Below xs (g.need label)) (sym at_p) w)) k r

prep_sane : (a label : ℕ) (m : Maker) (g : Ghost) → a + 2 < g.size → length m.active ≤ a → Sane m g (locals_of m.active) (plain_instr (Piece.Jump Op.ForPrep a label))
prep_sane a label m g l k = record { first = omega (arith, l); ordered = refl; registers = (l, tt); fields = tt; constant = tt; upvalues = tt; small = inl (omega arith); extra = tt; spares = λ x t. range_spares m a x (nat_lt x (a + 3)) k t }

pub put_prep : (line a label : ℕ) (m n : Maker) (g : Ghost) → State m g None → SameMade m n → a + 2 < g.size → length m.active ≤ a → label < length m.labels → PreparedBelow a (locals_of m.active) (g.need label) → length n.active ≤ g.size → length n.active ≤ n.free
    → State (put line (Piece.Jump Op.ForPrep a label) n) (next_ghost g (length m.items) (locals_of n.active) None) None
put_prep line a label m n g s e l k b w u r =
    apart_state line (Piece.Jump Op.ForPrep a label) m n g s e refl (prep_sane a label m g l k) tt
    (λ at_p at_next c. preparing a label refl b c
    (λ x y. subst (λ xs. captured_at xs x ≡ false) (sym at_p) (captured_past (locals_of m.active) x (omega (arith, y, k, length-map m.active (λ one. one.local)))))
    (subst (λ xs. PreparedBelow a xs (g.need label)) (sym at_p) w)) u r

-- ---- FORLOOP

loop_sane : (a label : ℕ) (m : Maker) (g : Ghost) → a + 3 < g.size → length m.active ≤ a + 3 → Sane m g (locals_of m.active) (plain_instr (Piece.Jump Op.ForLoop a label))
loop_sane a label m g l k = record { first = omega (arith, l); ordered = refl; registers = (l, tt); fields = tt; constant = tt; upvalues = tt; small = inl (omega arith); extra = tt; spares = λ x t. kind_free m x (let e = eqb-true (a + 3) x t in omega (arith, e, k)) }

pub put_loop : (line a label : ℕ) (m : Maker) (g : Ghost) → State m g None → a + 3 < g.size → length m.active ≤ a + 3 → label < length m.labels → IsLoop (locals_of m.active) a → Below (locals_of m.active) (g.need label) → Leads m g (put line (Piece.Jump Op.ForLoop a label) m) None m.ahead
put_loop line a label m g s l k b i w =
    let piece = Piece.Jump Op.ForLoop a label in
    word_leads line piece m g None None s (put_ok line piece m g None None s refl (loop_sane a label m g l k) tt
    (looping a label refl b (record { is_place = put_place line piece m g None None s; left = put_left line piece m g None None s })
    (subst (λ xs. IsLoop xs a) (sym (put_note line piece m g None None s)) i)
    (subst (λ xs. Below xs (g.need label)) (sym (put_note line piece m g None None s)) w)
    (put_below line piece m g None None s)))

-- ---- constants

pub constant_within : (k : Constant) (ks : List Constant) → constant_number k ks < length (with_constant k ks)
constant_within k ks = slice_get_within (with_constant k ks) (constant_number k ks) k (constant_stands k ks)

-- a constant is taken
pub constant_leads : (k : Constant) {m : Maker} {g : Ghost} {o : Option ℕ} → State m g o → Leads m g (constant k m).after o m.ahead
constant_leads k {m} {g} {o} s =
    let n = (constant k m).after in
    let r : Grew m n = grew_by (on_constant {v = calm} k (start m)) in
    record {
      ghost = g;
      state = record {
        invariant = invariant_later m n g g s.invariant r (widens_self m g) refl refl s.invariant.functions (λ i x l a e. no_new_word m (λ i p. Ok n g i p) i x l a) s.invariant.here;
        now = s.now;
        left = s.left;
        held = s.held;
        room = s.room;
      };
      onward = record { need = λ l k. refl; labels = omega arith; high = omega arith; count = r.count; upvalues = refl; larger = omega arith; size = omega arith; vararg = refl };
      unplaced = refl;
      active = refl;
      ahead = refl;
    }
