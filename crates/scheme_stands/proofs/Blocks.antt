-- Blocks, branches and breaks keep what is made, and stand as the relation says.
use Rattle.std.proofs.Common.{◌≡◌, ℕ, suc, Bool, true, false, List, [], ◌∷◌, length, get_or, take, refl, sym, ap, ◌∙◌, subst, arith}
use Rattle.std.specs.Prelude.{Option, Some, None, slice_get}
use Rattle.opcode.specs.declared.op.Op.{Op}
use Rattle.scheme.specs.Making.{Maker, Part, new_label, jump_to, captured_from, end_locals, when}
use Rattle.scheme.specs.Expressions.{Coded}
use Rattle.scheme.specs.Statements.{Loop, close_from, block_part, arm_part, break_part}
use Rattle.scheme.specs.declared.making.Piece.{Piece}
use Rattle.scheme_stands.specs.Expressions.{Rel}
use Rattle.scheme_stands.specs.Functions.{Step}
use Rattle.scheme_stands.specs.Statements.{LoopAt, CloseAt, BlockAt, BreakAt, ArmAt}
use Rattle.scheme_stands.proofs.Growth.{length_end, Kept, calm, loose, any, Mode, Grown, start, on_part, on_put, on_new, on_free, on_place, Final, before, later, unplaced, placed, spot, fn_of, put_at, before_put, before_free}
use Rattle.scheme_stands.proofs.Parts.{Grows, grows_when}
use Rattle.scheme_stands.proofs.Links.{Links, jump_on}

pub take_kept : {A : Type 0} (xs ys : List A) → Kept xs ys → take (length xs) ys ≡ xs
take_kept [] ys k = refl
take_kept (x ∷ xs) [] k = let h = k 0 x refl in cc
take_kept (x ∷ xs) (y ∷ ys) k =
    let h : Some y ≡ Some x = k 0 x refl in
    let same : y ≡ x = cc in
    ap (λ a. a ∷ take (length xs) ys) same ∙ ap (λ rest. x ∷ rest) (take_kept xs ys (λ i v e. k (suc i) v e))

pub loosen : {m n : Maker} → Grown calm m n → Grown loose m n
loosen g = record { items = g.items; constants = g.constants; functions = g.functions; labels = g.labels; more = g.more; high = g.high; fine = g.fine; upvalues = g.upvalues; active = λ i x e. subst (λ xs. slice_get xs i ≡ Some x) (sym g.active) e }

pub forget : {v : Mode} {m n : Maker} → Grown v m n → Grown any m n
forget g = record { items = g.items; constants = g.constants; functions = g.functions; labels = g.labels; more = g.more; high = g.high; fine = g.fine; upvalues = g.upvalues; active = tt }

-- where the locals of a block end, the active ones are as they were before it
pub end_step : {m n : Maker} → Grown loose m n → Grown calm m (end_locals (length m.active) n)
end_step {m} {n} g = record { items = g.items; constants = g.constants; functions = g.functions; labels = g.labels; more = g.more; high = g.high; fine = g.fine; upvalues = g.upvalues; active = take_kept m.active n.active g.active }

pub end_any : (k : ℕ) (n : Maker) → Grown any n (end_locals k n)
end_any k n = record { items = λ i x e. e; constants = λ i x e. e; functions = λ i x e. e; labels = λ i l. refl; more = omega arith; high = omega arith; fine = λ e. e; upvalues = refl; active = tt }

-- F is the number of active locals
abbrev pub Settled : Maker → Type 0
Settled m = m.free ≡ length m.active

pub settled_on : {m n : Maker} → Settled m → n.free ≡ m.free → Grown calm m n → Settled n
settled_on s f g = f ∙ s ∙ ap length (sym g.active)

abbrev pub Body : Type 0
Body = Option Loop → Part

abbrev pub GrowsWell : Part → Type 0
GrowsWell part = (m : Maker) → Settled m → Grown loose m (part m)

pub block_grows : (line : ℕ) (body : Part) (m : Maker) → Grown loose m (body m) → Grown calm m (block_part line body m)
block_grows line body m g =
    let n = length m.active in
    on_free n (on_part (grows_when (captured_from n (body m)) (close_from line n) (end_locals n (body m)) (on_put _ _ (start (end_locals n (body m))))) (end_step g))

-- ---- branches

-- a part that leaves the active locals and F as they are
pub record Calm (m n : Maker) : Type 0 where
  pub grown : Grown calm m n
  pub settled : Settled n

when_free : (b : Bool) (line label : ℕ) (m : Maker) → (when b (jump_to line label) m).free ≡ m.free
when_free true line label m = refl
when_free false line label m = refl

pub arm_calm : (line end : ℕ) (more : Bool) (test : Coded) (body : Part) → Grows calm test → GrowsWell body → (m : Maker) → Settled m → Calm m (arm_part line end more test body m)
arm_calm line end more test body g h m s =
    let next = length m.labels in
    let ma = (new_label m).after in
    let mb = test.jump_if false next ma in
    let mc = block_part line body mb in
    let gb : Grown calm m mb = on_part (g.jump_if false next ma) (on_new (start m)) in
    let gc = block_grows line body mb (h mb (settled_on s (g.jump_free false next ma) gb)) in
    let gd : Grown calm m (arm_part line end more test body m) = on_place next (omega arith) (on_part (grows_when more (jump_to line end) mc (on_put _ _ (start mc))) (on_part gc gb)) in
    record { grown = gd; settled = when_free more line end mc ∙ ap length gb.active ∙ sym (ap length gd.active) }

pub calm_then : {m n o : Maker} → Calm m n → Calm n o → Calm m o
calm_then c d = record { grown = on_part d.grown c.grown; settled = d.settled }

pub break_grows : (line : ℕ) (loop : Option Loop) (m : Maker) → Grown calm m (break_part line loop m)
break_grows line None m = start m
break_grows line (Some loop) m =
    let b = captured_from loop.before m in
    on_put line (Piece.Jump Op.Jmp 0 loop.exit) (grows_when b (close_from line loop.before) m (on_put _ _ (start m)))

-- ---- what stands

-- before locals ended
pub before_end : {k : ℕ} {z : Maker} (n : ℕ) (m : Maker) → Final k (end_locals n m) z → Final k m z
before_end n m f = record { items = f.items; constants = f.constants; functions = f.functions; labels = f.labels; high = f.high; fine = f.fine; upvalues = f.upvalues; near = f.near }

module _ (z : Maker) where
  abbrev pub loop_at : Option Loop → Option LoopAt
  loop_at None = None
  loop_at (Some loop) = Some (record { exit = get_or z.labels loop.exit 0; before = loop.before })

  abbrev pub StandsWell : Part → Step → Type 0
  StandsWell part step = (m : Maker) → Settled m → Final (length m.labels) (part m) z → step m.active (part m).active (spot m) (spot (part m))

  pub close_at : (b : Bool) (line n : ℕ) (m : Maker) {k : ℕ} → Final k (when b (close_from line n) m) z → CloseAt b (fn_of z) n (spot m) (spot (when b (close_from line n) m))
  close_at true line n m f = put_at line (Piece.Abc Op.Close n 0 0) m f
  close_at false line n m f = record { pc = refl; ahead = refl; functions = refl }

  pub block_at : (line : ℕ) (body : Part) (step : Step) → GrowsWell body → StandsWell body step → (m : Maker) → Settled m → Final (length m.labels) (block_part line body m) z →
      BlockAt (fn_of z) step m.active (spot m) (spot (block_part line body m))
  block_at line body step g l m s f =
      let n = length m.active in
      let m1 = body m in
      let m2 = end_locals n m1 in
      let b = captured_from n m1 in
      let f3 = before_free n (when b (close_from line n) m2) f in
      let grown : Grown calm m2 (when b (close_from line n) m2) = grows_when b (close_from line n) m2 (on_put _ _ (start m2)) in
      let f2 : Final (length m.labels) m2 z = before grown f3 in
      record { inner = m1.active; mid = spot m1; body_at = l m s (before_end n m1 f2); close = close_at b line n m2 f3 }

  module _ (line end : ℕ) (more : Bool) (test : Coded) (e : Rel) (body : Part) (step : Step) (g : Grows calm test) (l : Links z test e) (h : GrowsWell body) (k : StandsWell body step) where
    pub arm_at : (m : Maker) → Settled m → Final (length m.labels) (arm_part line end more test body m) z → ArmAt (fn_of z) (get_or z.labels end 0) more e step m.active (spot m) (spot (arm_part line end more test body m))
    arm_at m s f =
        let next = length m.labels in
        let ma = (new_label m).after in
        let mb = test.jump_if false next ma in
        let mc = block_part line body mb in
        let md = when more (jump_to line end) mc in
        let one : length ma.labels ≡ suc next = length_end m.labels 0 in
        let gt = g.jump_if false next ma in
        let sb : Settled mb = settled_on s (g.jump_free false next ma) (on_part gt (on_new (start m))) in
        let gb = block_grows line body mb (h mb sb) in
        let gd : Grown calm mc md = grows_when more (jump_to line end) mc (on_put _ _ (start mc)) in
        let is : get_or z.labels next 0 ≡ length md.items = placed md next (omega arith) (omega (arith, one, gt.more, gb.more, gd.more)) f in
        let fd = unplaced {n = md} next (omega arith) f in
        let fc = before gd fd in
        let fb = before gb fc in
        record {
          mid = spot mb;
          last = spot mc;
          test_at = subst (λ x. e.jump_if m.active (length m.active) false x (spot m) (spot mb)) is
              (subst (λ n. e.jump_if m.active n false (get_or z.labels next 0) (spot m) (spot mb)) s (l.jump_if false next ma (later (omega (arith, one)) fb)));
          body_at = subst (λ a. BlockAt (fn_of z) step a (spot mb) (spot mc)) gt.active (block_at line body step h k mb sb (later (omega (arith, one, gt.more)) fc));
          leave = jump_on z more line end mc (later (omega (arith, one, gt.more, gb.more)) fd);
        }

  pub break_at : (line : ℕ) (loop : Option Loop) (m : Maker) {k : ℕ} → Final k (break_part line loop m) z → BreakAt (fn_of z) (loop_at loop) m.active (spot m) (spot (break_part line loop m))
  break_at line None m f = record { pc = refl; ahead = refl; functions = refl }
  break_at line (Some loop) m f =
      let b = captured_from loop.before m in
      let m1 = when b (close_from line loop.before) m in
      record { mid = spot m1; first_at = close_at b line loop.before m (before_put line (Piece.Jump Op.Jmp 0 loop.exit) m1 f); second_at = put_at line (Piece.Jump Op.Jmp 0 loop.exit) m1 f }
