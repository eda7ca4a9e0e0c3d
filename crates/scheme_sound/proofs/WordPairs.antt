-- Words that stand together keep the invariant: a test and its JMP, SETLIST and its number, the two LOADBOOL of a truth.
use Rattle.std.proofs.Common.{◌≡◌, ◌≤◌, ◌<◌, ℕ, suc, Bool, true, false, List, [], ◌∷◌, length, refl, sym, ap, ◌∙◌, arith, inl, cond, eqb-true, ◌⊎◌, ◌++◌, subst, true≢false, inr}
use Rattle.std.specs.Prelude.{Option, None, ◌==◌, Some, slice_get}
use Rattle.std.proofs.lemmas.Option.{slice_get_within}
use Rattle.std.proofs.lemmas.Bool.{cases_lt}
use Rattle.opcode.specs.declared.op.Op.{Op}
use Rattle.opcode.specs.declared.op.Format.{Format}
use Rattle.opcode.specs.Word.{format_of}
use Rattle.rules.specs.Breaks.{wants}
use Rattle.rules.specs.Words.{is_test}
use Rattle.scheme.specs.Making.{Maker, put, place}
use Rattle.scheme.specs.declared.making.Piece.{Piece}
use Rattle.scheme.specs.declared.making.Local.{Local}
use Rattle.scheme.specs.declared.making.Item.{Item}
use Rattle.scheme_stands.proofs.Growth.{kept_end, at_end, length_end, length_set}
use Rattle.scheme_sound.proofs.Ghosts.{locals_of, kind_at, Below, Ghost, plain_instr, Sane, Meets, HasPiece, Clear, on_to_next, jumping, testing, skipping, filling, Ok, IsIn, Invariant, Grew, Widens}
use Rattle.scheme_sound.proofs.Later.{below_self, sane_later}
use Rattle.scheme_sound.proofs.States.{updated, updated_same, updated_other, kept_same, invariant_later, State, Onward, Leads}
use Rattle.scheme_sound.proofs.Words.{jump_sane}
use Rattle.scheme_sound.proofs.Labels.{with_unplaced, placed_invariant}

-- ---- two words

-- the ghost behind two words, of which the second is a place or not
abbrev next_two_ghost : Ghost → ℕ → Bool → List Local → Ghost
next_two_ghost g p b xs = record g { note = updated (updated g.note (suc p) xs) (suc (suc p)) xs; left = updated (updated g.left (suc p) None) (suc (suc p)) None; is_place = updated (updated g.is_place (suc p) b) (suc (suc p)) true }

abbrev put_both : (line : ℕ) → (one two : Piece) → Maker → Maker
put_both line one two m = put line two (put line one m)

module _ (line : ℕ) (one two : Piece) (m : Maker) (g : Ghost) (b : Bool) (o : Option ℕ) (s : State m g o) where
  abbrev p : ℕ
  p = length m.items

  abbrev n : Maker
  n = put_both line one two m

  abbrev h : Ghost
  h = next_two_ghost g p b (locals_of m.active)

  two_same : {A : Type 0} (f : ℕ → A) (x y : A) (i : ℕ) → i ≤ p → updated (updated f (suc p) x) (suc (suc p)) y i ≡ f i
  two_same f x y i l = updated_other (updated f (suc p) x) (suc (suc p)) y i (λ e. omega (arith, e, l)) ∙ updated_other f (suc p) x i (λ e. omega (arith, e, l))

  two_mid : {A : Type 0} (f : ℕ → A) (x y : A) → updated (updated f (suc p) x) (suc (suc p)) y (suc p) ≡ x
  two_mid f x y = updated_other (updated f (suc p) x) (suc (suc p)) y (suc p) (λ e. omega (arith, e)) ∙ updated_same f (suc p) x

  two_widens : Widens m g h
  two_widens = record {
    note = λ i l. two_same g.note _ _ i (omega (arith, l));
    last = subst (λ ys. Below (g.note p) ys) (sym (two_same g.note (locals_of m.active) (locals_of m.active) p (omega arith))) (below_self (g.note p));
    left = λ i l. two_same g.left _ _ i l;
    is_place = λ i l. two_same g.is_place _ _ i l;
    need = λ l k. refl;
    size = omega arith;
    vararg = refl;
  }

  two_length : length n.items ≡ suc (suc p)
  two_length = length_end _ _ ∙ ap suc (length_end m.items _)

  two_grew : Grew m n
  two_grew = record { items = λ i x e. kept_end _ _ i x (kept_end m.items _ i x e); longer = omega (arith, two_length); constants = kept_same m.constants; count = omega arith; functions = kept_same m.functions; labels = omega arith; upvalues = refl }

  abbrev two_first : HasPiece n p one
  two_first = record { item = record { line = line; piece = one }; there = kept_end _ _ p _ (at_end m.items _); is = refl }

  abbrev two_second : HasPiece n (suc p) two
  two_second = record { item = record { line = line; piece = two }; there = subst (λ j. slice_get n.items j ≡ Some (record { line = line; piece = two })) (length_end m.items _) (at_end (put line one m).items _); is = refl }

  two_note : h.note p ≡ locals_of m.active
  two_note = two_same g.note _ _ p (omega arith) ∙ s.now

  two_between : h.note (suc p) ≡ locals_of m.active
  two_between = two_mid g.note _ _

  two_behind : h.note (suc (suc p)) ≡ locals_of m.active
  two_behind = updated_same (updated g.note (suc p) _) (suc (suc p)) _

  two_below : (j : ℕ) → h.note j ≡ locals_of m.active → Below (h.note p) (h.note j)
  two_below j e = subst (λ xs. Below (h.note p) xs) (two_note ∙ sym e) (below_self (h.note p))

  two_clear : Clear h (suc (suc p))
  two_clear = record { is_place = updated_same (updated g.is_place (suc p) b) (suc (suc p)) true; left = updated_same (updated g.left (suc p) None) (suc (suc p)) None }

  two_left : h.left (suc p) ≡ None
  two_left = two_mid g.left None None

  two_place : h.is_place (suc p) ≡ b
  two_place = two_mid g.is_place b true

  two_sane : (j : ℕ) → h.note j ≡ locals_of m.active → (piece : Piece) → Sane m g (locals_of m.active) (plain_instr piece) → Sane n h (h.note j) (plain_instr piece)
  two_sane j e piece a = sane_later m n g h (locals_of m.active) (h.note j) (plain_instr piece) two_grew two_widens e a

  two_meets : Meets (wants (plain_instr one).op (plain_instr one)) o → Meets (wants (plain_instr one).op (plain_instr one)) (h.left p)
  two_meets a = subst (λ x. Meets (wants (plain_instr one).op (plain_instr one)) x) (sym (two_same g.left None None p (omega arith) ∙ s.left)) a

  two_invariant : Ok n h p one → (b ≡ true → Ok n h (suc p) two) → Invariant n h
  two_invariant k k' =
      invariant_later m n g h s.invariant two_grew two_widens refl refl s.invariant.functions (λ i x l e. new i x l e (cases_lt i (suc p)) (cases_lt i (suc (suc p))))
      (subst (λ j. h.is_place j ≡ true) (sym two_length) two_clear.is_place)
    where
      new : (i : ℕ) (x : Item) → p ≤ i → slice_get n.items i ≡ Some x → (i < suc p) ⊎ (suc p ≤ i) → (i < suc (suc p)) ⊎ (suc (suc p) ≤ i) → h.is_place i ≡ true → Ok n h i x.piece
      new i x l e (inl a) c t =
          let same : i ≡ p = omega (arith, l, a) in
          let e' : slice_get n.items p ≡ Some x = subst (λ j. slice_get n.items j ≡ Some x) same e in
          let is : two_first.item ≡ x = (let q = two_first.there in cc) in
          subst (λ y. Ok n h i y.piece) is (subst (λ j. Ok n h j one) (sym same) k)
      new i x l e (inr a) (inl c) t =
          let same : i ≡ suc p = omega (arith, c, a) in
          let e' : slice_get n.items (suc p) ≡ Some x = subst (λ j. slice_get n.items j ≡ Some x) same e in
          let is : two_second.item ≡ x = (let q = two_second.there in cc) in
          let t' : h.is_place (suc p) ≡ true = subst (λ j. h.is_place j ≡ true) same t in
          subst (λ y. Ok n h i y.piece) is (subst (λ j. Ok n h j two) (sym same) (k' (sym two_place ∙ t')))
      new i x l e (inr a) (inr c) t = absurd (let q = slice_get_within n.items i x e in omega (arith, q, c, two_length))

  two_lead : Ok n h p one → (b ≡ true → Ok n h (suc p) two) → Leads m g n None m.ahead
  two_lead k k' = record {
    ghost = h;
    state = record {
      invariant = two_invariant k k';
      now = subst (λ j. h.note j ≡ locals_of m.active) (sym two_length) two_behind;
      left = subst (λ j. h.left j ≡ None) (sym two_length) two_clear.left;
      held = s.held;
      room = s.room;
    };
    onward = record { need = λ l k. refl; labels = omega arith; high = omega arith; count = omega arith; upvalues = refl; larger = omega arith; size = omega arith; vararg = refl };
    unplaced = refl;
    active = refl;
    ahead = refl;
  }

-- ---- a test and its JMP

-- a test wants nothing
test_wants : (op : Op) (a b c : ℕ) → is_test op ≡ true → Meets (wants op (plain_instr (Piece.Abc op a b c))) None
test_wants Op.Eq a b c e = tt
test_wants Op.Lt a b c e = tt
test_wants Op.Le a b c e = tt
test_wants Op.Test a b c e = tt
test_wants Op.TestSet a b c e = tt
test_wants Op.TForLoop a b c e = tt
test_wants op a b c e = cc

pub put_test : (line : ℕ) (op : Op) (a b c label : ℕ) (m : Maker) (g : Ghost) → State m g None → is_test op ≡ true → format_of op ≡ Format.Abc → Sane m g (locals_of m.active) (plain_instr (Piece.Abc op a b c)) → label < length m.labels → Below (locals_of m.active) (g.need label)
    → Leads m g (put line (Piece.Jump Op.Jmp 0 label) (put line (Piece.Abc op a b c) m)) None m.ahead
put_test line op a b c label m g s t f k l w =
    let one = Piece.Abc op a b c in
    let two = Piece.Jump Op.Jmp 0 label in
    let p = length m.items in
    let hh = next_two_ghost g p true (locals_of m.active) in
    let mid : Clear hh (suc p) = record { is_place = two_place line one two m g true None s; left = two_left line one two m g true None s } in
    two_lead line one two m g true None s
    (record {
      format = f;
      sane = two_sane line one two m g true None s p (two_note line one two m g true None s) one k;
      meets = two_meets line one two m g true None s (test_wants op a b c t);
      flow = testing op a b c label refl t (two_second line one two m g true None s) mid (two_clear line one two m g true None s)
          (two_below line one two m g true None s (suc p) (two_between line one two m g true None s)) (two_below line one two m g true None s (suc (suc p)) (two_behind line one two m g true None s));
    })
    (λ e. record {
      format = refl;
      sane = two_sane line one two m g true None s (suc p) (two_between line one two m g true None s) two (jump_sane label m g (locals_of m.active) s.invariant.least);
      meets = subst (λ x. Meets None x) (sym (two_left line one two m g true None s)) tt;
      flow = jumping label refl l (two_clear line one two m g true None s) (subst (λ xs. Below xs (g.need label)) (sym (two_between line one two m g true None s)) w);
    })

-- ---- SETLIST with a large block, and its number

pub put_block : (line a n block : ℕ) (m : Maker) (g : Ghost) (o : Option ℕ) → State m g o → Meets (cond (n == 0) (Some (suc a)) None) o → Sane m g (locals_of m.active) (plain_instr (Piece.Abc Op.SetList a n 0)) → Leads m g (put line (Piece.Bare (suc block)) (put line (Piece.Abc Op.SetList a n 0) m)) None m.ahead
put_block line a n block m g o s z k =
    let one = Piece.Abc Op.SetList a n 0 in
    let two = Piece.Bare (suc block) in
    let p = length m.items in
    two_lead line one two m g false o s
    (record {
      format = refl;
      sane = two_sane line one two m g false o s p (two_note line one two m g false o s) one k;
      meets = two_meets line one two m g false o s z;
      flow = filling a n block refl (two_second line one two m g false o s) (two_place line one two m g false o s) (two_clear line one two m g false o s) (two_below line one two m g false o s (suc (suc p)) (two_behind line one two m g false o s));
    })
    (λ e. absurd (true≢false (sym e)))

-- ---- the two LOADBOOL of a truth, with a label between them

-- the two LOADBOOL of a truth; the label stands between them
bool_sane : (r b c : ℕ) (m : Maker) (g : Ghost) → c ≤ 1 → r < g.size → kind_at (locals_of m.active) r ≡ 0 → Sane m g (locals_of m.active) (plain_instr (Piece.Abc Op.LoadBool r b c))
bool_sane r b c m g k l e = record { first = l; ordered = refl; registers = (l, tt); fields = tt; constant = tt; upvalues = tt; small = inl (omega (arith, k)); extra = tt; spares = λ x t. subst (λ y. kind_at (locals_of m.active) y ≡ 0) (eqb-true r x t) e }

pub put_truth : (line r label : ℕ) (m : Maker) (g : Ghost) (os : List ℕ) → State m g None → r < g.size → kind_at (locals_of m.active) r ≡ 0 → Below (g.need label) (locals_of m.active) → ((k : ℕ) → IsIn k g.unplaced → (k ≡ label) ⊎ IsIn k os)
    → (h : Ghost) × State (put line (Piece.Abc Op.LoadBool r 1 0) (place label (put line (Piece.Abc Op.LoadBool r 0 1) m))) h None × Onward m g (put line (Piece.Abc Op.LoadBool r 1 0) (place label (put line (Piece.Abc Op.LoadBool r 0 1) m))) h × (h.unplaced ≡ os)
unfolding two_lead
put_truth line r label m g os s l e b w =
    let one = Piece.Abc Op.LoadBool r 0 1 in
    let two = Piece.Abc Op.LoadBool r 1 0 in
    let p = length m.items in
    let q = length (m.items ++ record { line = line; piece = one } ∷ []) in
    let is : q ≡ suc p = length_end m.items (record { line = line; piece = one }) in
    let hh = next_two_ghost g p true (locals_of m.active) in
    let mid : Clear hh (suc p) = record { is_place = two_place line one two m g true None s; left = two_left line one two m g true None s } in
    let d = two_lead line one two m g true None s
    (record {
      format = refl;
      sane = two_sane line one two m g true None s p (two_note line one two m g true None s) one (bool_sane r 0 1 m g (omega arith) l e);
      meets = two_meets line one two m g true None s tt;
      flow = skipping r refl (two_second line one two m g true None s) mid (two_clear line one two m g true None s) (two_below line one two m g true None s (suc (suc p)) (two_behind line one two m g true None s));
    })
    (λ t. record {
      format = refl;
      sane = two_sane line one two m g true None s (suc p) (two_between line one two m g true None s) two (bool_sane r 1 0 m g (omega arith) l e);
      meets = subst (λ x. Meets None x) (sym (two_left line one two m g true None s)) tt;
      flow = on_to_next refl (two_clear line one two m g true None s).is_place (two_clear line one two m g true None s).left
          (subst (λ xs. Below xs (hh.note (suc (suc p)))) (sym (two_between line one two m g true None s)) (subst (λ xs. Below (locals_of m.active) xs) (sym (two_behind line one two m g true None s)) (below_self (locals_of m.active))));
    }) in
    let n = put_both line one two m in
    let v = placed_invariant label q n hh os d.state.invariant (subst (λ x. x ≤ length n.items) (sym is) (omega (arith, two_length line one two m g true None s)))
    (subst (λ x. Clear hh x) (sym is) mid) (subst (λ x. Below (g.need label) (hh.note x)) (sym is) (subst (λ xs. Below (g.need label) xs) (sym (two_between line one two m g true None s)) b)) w in (
      with_unplaced hh os,
      record { invariant = v; now = d.state.now; left = d.state.left; held = s.held; room = s.room },
      record { need = λ l k. refl; labels = omega (arith, length_set m.labels label q); high = omega arith; count = omega arith; upvalues = refl; larger = omega arith; size = omega arith; vararg = refl },
      refl,
    )
