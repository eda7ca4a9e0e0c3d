-- Both `for` loops keep what is made, and stand as the relation says.
use Rattle.std.proofs.Common.{◌≡◌, ◌≤◌, ◌<◌, ℕ, suc, ◌+◌, List, [], ◌∷◌, length, drop, get_or, set, refl, sym, ap, ◌∙◌, subst, arith}
use Rattle.std.specs.Prelude.{Option, Some, None, pos}
use Rattle.std.proofs.lemmas.List.{get_or-set_same, get_or-set_other}
use Rattle.lua_num.specs.Bytes.{Text}
use Rattle.opcode.specs.declared.op.Op.{Op}
use Rattle.proto.specs.declared.parts.Constant.{Constant}
use Rattle.scheme.specs.Making.{Maker, Part, put, place, new_label, take_registers, used, declare, activate, any_captured, captured_from, end_locals, when}
use Rattle.scheme.specs.Expressions.{Coded, next_reg, load}
use Rattle.scheme.specs.Lists.{adjust}
use Rattle.scheme.specs.Statements.{Loop, close_from, block_part, end_block, turn, step_part, numeric_names, generic_names, numeric_part, generic_part}
use Rattle.scheme.specs.declared.making.Piece.{Piece}
use Rattle.scheme.specs.declared.making.Local.{Local}
use Rattle.scheme.specs.declared.making.Active.{Active}
use Rattle.scheme_stands.specs.Words.{Stretch, WordAt, ConstantWord}
use Rattle.scheme_stands.specs.Expressions.{Rel}
use Rattle.scheme_stands.specs.Lists.{AdjustAt}
use Rattle.scheme_stands.specs.Functions.{Step, Activated}
use Rattle.scheme_stands.specs.Statements.{LoopAt, CloseAt, BlockAt, TurnAt, NumericAt, GenericAt}
use Rattle.scheme_stands.proofs.Growth.{length_end, length_set, calm, loose, Grown, start, on_part, on_put, on_new, on_take, on_used, on_free, on_place, Final, before, later, unplaced, unplaced_below, placed, stood, spot, fn_of, put_at, before_put, before_take, before_used, before_free}
use Rattle.scheme_stands.proofs.Parts.{Grows, AllGrow, grows_when, grows_next, grows_load}
use Rattle.scheme_stands.proofs.Links.{Links, AllLinks, next_at, load_at}
use Rattle.scheme_stands.proofs.Lines.{grows_declare, grows_activate, grows_adjust, declare_active, declare_items, declare_functions, declare_free, declared, activated, activate_spot, activate_free, activate_length, adjust_free, adjust_at}
use Rattle.scheme_stands.proofs.Blocks.{loosen, end_step, Settled, Body, GrowsWell, StandsWell, block_grows, block_at, loop_at, before_end, close_at}

-- ---- turns

-- the parts of a turn: the variables are active in the block
abbrev pub begun : List Local → Maker → Maker
begun variables m = take_registers (length variables) (activate variables m)

begun_settled : (variables : List Local) (m : Maker) → Settled m → Settled (begun variables m)
begun_settled variables m s = let a = activate_length variables m in let b = activate_free variables m in omega (arith, a, b, s)

module _ (line : ℕ) (variables : List Local) (block : Part) (h : GrowsWell block) where
  inside_grows : (m : Maker) → Settled m → Grown calm (begun variables m) (block_part line block (begun variables m))
  inside_grows m s = block_grows line block (begun variables m) (h (begun variables m) (begun_settled variables m s))

  ends_grow : (m n : Maker) → Grown loose m n → Grown calm m (end_block line (length m.active) n)
  ends_grow m n g =
      let k = length m.active in
      on_free k (on_part (grows_when (captured_from k n) (close_from line k) (end_locals k n) (on_put _ _ (start (end_locals k n)))) (end_step g))

  pub turn_grows : (base : ℕ) (m : Maker) → length m.active ≡ base + 3 → Settled m → Grown calm m (turn line base variables block m)
  turn_grows base m e s =
      let n = block_part line block (begun variables m) in
      subst (λ k. Grown calm m (end_block line k n)) e (ends_grow m n (on_part (loosen (inside_grows m s)) (on_take (length variables) (grows_activate variables m))))

module _ (z : Maker) (line : ℕ) (variables : List Local) (block : Part) (step : Step) (h : GrowsWell block) (k : StandsWell z block step) where
  ends_at : (m n : Maker) → n.active ≡ (begun variables m).active → (base : ℕ) → length m.active ≡ base → {j : ℕ} → Final j (end_block line base n) z →
      CloseAt (any_captured (drop (length m.active) (begun variables m).active)) (fn_of z) (length m.active) (spot n) (spot (end_block line base n))
  ends_at m n a base e f =
      let b = captured_from base n in
      let n1 = end_locals base n in
      subst (λ x. CloseAt (any_captured (drop x (begun variables m).active)) (fn_of z) x (spot n) (spot (end_block line base n))) (sym e)
      (subst (λ xs. CloseAt (any_captured (drop base xs)) (fn_of z) base (spot n) (spot (end_block line base n))) a
      (close_at z b line base n1 (before_free base (when b (close_from line base) n1) f)))

  pub turn_at : (base : ℕ) (m : Maker) → length m.active ≡ base + 3 → Settled m → Final (length m.labels) (turn line base variables block m) z → TurnAt (fn_of z) step variables m.active (spot m) (spot (turn line base variables block m))
  turn_at base m e s f =
      let m1 = activate variables m in
      let m2 = begun variables m in
      let m3 = block_part line block m2 in
      let b = captured_from (base + 3) m3 in
      let m4 = end_locals (base + 3) m3 in
      let g1 : Grown loose m m2 = on_take (length variables) (grows_activate variables m) in
      let g3 = inside_grows line variables block h m s in
      let f4 : Final (length m.labels) m4 z = before (grows_when b (close_from line (base + 3)) m4 (on_put _ _ (start {v = calm} m4))) (before_free (base + 3) (when b (close_from line (base + 3)) m4) f) in
      let f3 = before_end (base + 3) m3 f4 in
      let f2 = before g3 f3 in
      let high = f2.high in
      let s2 = begun_settled variables m s in
      let free = activate_free variables m in
      record {
        inner = m1.active;
        mid = spot m3;
        activated = activated variables m;
        room = omega (arith, high, s2, free);
        block_at = subst (λ p. BlockAt (fn_of z) step m1.active p (spot m3)) (activate_spot variables m) (block_at z line block step h k m2 s2 (later g1.more f3));
        close = ends_at m m3 g3.active (base + 3) e f;
      }

-- ---- the step of a numeric loop, and labels

-- the step of a loop: it keeps what is made and takes a register
pub record StepGrows (line : ℕ) (c : Option Coded) : Type 0 where
  pub grown : (m : Maker) → Grown calm m (step_part line c m)
  pub free : (m : Maker) → (step_part line c m).free ≡ m.free + 1
  pub high : (m : Maker) → m.free + 1 ≤ (step_part line c m).high

pub no_step_grows : (line : ℕ) → StepGrows line None
no_step_grows line = record { grown = λ m. on_take 1 (grows_load line m.free (Constant.Number (pos 1)) m); free = λ m. refl; high = λ m. omega arith }

pub by_step_grows : (line : ℕ) (c : Coded) → Grows calm c → StepGrows line (Some c)
by_step_grows line c g = record {
  grown = grows_next c g;
  free = λ m. ap (λ n. n + 1) (g.to_free m.free m);
  high = λ m. let h = g.to_free m.free m in omega (arith, h);
}

-- and it stands
abbrev pub StepStands : Maker → (line : ℕ) → Option Coded → (List Active → (free : ℕ) → Stretch) → Type 0
StepStands z line c rel = (m : Maker) → Final (length m.labels) (step_part line c m) z → rel m.active m.free (spot m) (spot (step_part line c m))

pub no_step_stands : (z : Maker) (line : ℕ) → StepStands z line None (λ active free. ConstantWord (fn_of z) Op.LoadK free (Constant.Number (pos 1)))
no_step_stands z line m f = load_at z line m.free (Constant.Number (pos 1)) m (before_take 1 (load line m.free (Constant.Number (pos 1)) m) f)

pub by_step_stands : (z : Maker) (line : ℕ) (c : Coded) (e : Rel) → Links z c e → StepStands z line (Some c) (λ active free. e.to_reg active free free)
by_step_stands z line c e l m f = let n = next_at z c e l.to m f in n.value_at

-- what is common to both loops: labels that are placed at the beginning of the turn, c, behind it, d, and at the exit, n
module _ (z c d n : Maker) (begin end exit k : ℕ) (less : k ≤ begin) (one : begin < end) (two : end < exit) (inside : exit < length d.labels) (grown : Grown calm (place begin c) d) (kept : n.labels ≡ set d.labels end (length d.items)) (f : Final k (place exit n) z) where
  n_length : length n.labels ≡ length d.labels
  n_length = ap length kept ∙ length_set d.labels end (length d.items)

  pub exit_is : get_or z.labels exit 0 ≡ length n.items
  exit_is = placed n exit (omega (arith, less, one, two)) (omega (arith, inside, n_length)) f

  pub end_is : get_or z.labels end 0 ≡ length d.items
  end_is =
      f.labels end (omega (arith, less, one)) (omega (arith, inside, two, n_length, length_set n.labels exit (length n.items)))
      ∙ get_or-set_other n.labels exit end (length n.items) 0 (λ e. omega (arith, e, two))
      ∙ ap (λ xs. get_or xs end 0) kept
      ∙ get_or-set_same d.labels end (length d.items) 0 (omega (arith, inside, two))

  pub begin_is : begin < length c.labels → get_or z.labels begin 0 ≡ length c.items
  begin_is b =
      f.labels begin less (omega (arith, inside, one, two, n_length, length_set n.labels exit (length n.items)))
      ∙ get_or-set_other n.labels exit begin (length n.items) 0 (λ e. omega (arith, e, one, two))
      ∙ ap (λ xs. get_or xs begin 0) kept
      ∙ get_or-set_other d.labels end begin (length d.items) 0 (λ e. omega (arith, e, one))
      ∙ stood c d begin b grown

-- ---- the numeric loop

module _ (line : ℕ) (text : Text) (first last : Coded) (step : Option Coded) (body : Body) (g : Grows calm first) (k : Grows calm last) (w : StepGrows line step) (h : (loop : Option Loop) → GrowsWell (body loop)) where
  -- what comes before the words of the loop: three values, which are hidden locals then
  abbrev pub with_numbers : Maker → Maker
  with_numbers m = step_part line step (next_reg last (next_reg first (declare (text ∷ []) m).after))

  abbrev pub numeric_ready : Maker → Maker
  numeric_ready m = activate numeric_names (with_numbers m)

  numbers_grow : (m : Maker) → Grown calm m (with_numbers m)
  numbers_grow m = on_part (w.grown _) (on_part (grows_next last k _) (on_part (grows_next first g _) (grows_declare calm (text ∷ []) m)))

  numbers_free : (m : Maker) → (with_numbers m).free ≡ m.free + 3
  numbers_free m =
      let m1 = (declare (text ∷ []) m).after in
      let m2 = next_reg first m1 in
      let m3 = next_reg last m2 in
      let a = g.to_free m1.free m1 in
      let b = k.to_free m2.free m2 in
      let c = w.free m3 in
      omega (arith, a, b, c)

  ready_active : (m : Maker) → length (numeric_ready m).active ≡ length m.active + 3
  ready_active m = let a = activate_length numeric_names (with_numbers m) in let b = numbers_grow m in omega (arith, a, ap length b.active)

  ready_free : (m : Maker) → (numeric_ready m).free ≡ m.free + 3
  ready_free m = activate_free numeric_names (with_numbers m) ∙ numbers_free m

  pub numeric_grows : (m : Maker) → Settled m → Grown calm m (numeric_part line text first last step body m)
  numeric_grows m s =
      let vs = (declare (text ∷ []) m).value in
      let m5 = numeric_ready m in
      let begin = length m5.labels in
      let ma = (new_label m5).after in
      let end = length ma.labels in
      let mb = (new_label ma).after in
      let exit = length mb.labels in
      let mc = (new_label mb).after in
      let m7 = place begin (put line (Piece.Jump Op.ForPrep m.free end) mc) in
      let one : end ≡ suc begin = length_end m5.labels 0 in
      let two : exit ≡ suc end = length_end ma.labels 0 in
      let e : length m7.active ≡ m.free + 3 = omega (arith, ready_active m, s) in
      let s7 : Settled m7 = ready_free m ∙ sym e in
      let gt = turn_grows line vs (body (Some (record { exit = exit; before = length m.active }))) (h _) m.free m7 e s7 in
      let gl : Grown calm m5 (place exit (put line (Piece.Jump Op.ForLoop m.free begin) (place end (turn line m.free vs (body (Some (record { exit = exit; before = length m.active }))) m7)))) =
      on_place exit (omega (arith, one, two)) (on_put _ _ (on_place end (omega (arith, one)) (on_part gt (on_place begin (omega arith) (on_put _ _ (on_new (on_new (on_new (start m5))))))))) in
      end_step (on_part (loosen gl) (on_part (grows_activate numeric_names (with_numbers m)) (loosen (numbers_grow m))))

  module _ (z : Maker) (d e : Rel) (rel : List Active → (free : ℕ) → Stretch) (inside : Option LoopAt → Step) (ld : Links z first d) (le : Links z last e) (lw : StepStands z line step rel) (lb : (loop : Option Loop) → StandsWell z (body loop) (inside (loop_at z loop))) where
    pub numeric_at : (m : Maker) → Settled m → Final (length m.labels) (numeric_part line text first last step body m) z → NumericAt (fn_of z) text d e rel inside m.active (spot m) (spot (numeric_part line text first last step body m))
    numeric_at m s f =
        let vs = (declare (text ∷ []) m).value in
        let m1 = (declare (text ∷ []) m).after in
        let m2 = next_reg first m1 in
        let m3 = next_reg last m2 in
        let m4 = with_numbers m in
        let m5 = numeric_ready m in
        let begin = length m5.labels in
        let ma = (new_label m5).after in
        let end = length ma.labels in
        let mb = (new_label ma).after in
        let exit = length mb.labels in
        let mc = (new_label mb).after in
        let prepare = Piece.Jump Op.ForPrep m.free end in
        let m6 = put line prepare mc in
        let m7 = place begin m6 in
        let loop : Option Loop = Some (record { exit = exit; before = length m.active }) in
        let m8 = turn line m.free vs (body loop) m7 in
        let m9 = place end m8 in
        let back = Piece.Jump Op.ForLoop m.free begin in
        let m10 = put line back m9 in
        let m11 = place exit m10 in
        let q = spot m10 in
        let one : end ≡ suc begin = length_end m5.labels 0 in
        let two : exit ≡ suc end = length_end ma.labels 0 in
        let three : length mc.labels ≡ suc exit = length_end mb.labels 0 in
        let four : length m7.labels ≡ suc exit = length_set mc.labels begin (length m6.items) ∙ three in
        let ea : length m7.active ≡ m.free + 3 = omega (arith, ready_active m, s) in
        let s7 : Settled m7 = ready_free m ∙ sym ea in
        let g2 = grows_next first g m1 in
        let g3 = grows_next last k m2 in
        let g4 = w.grown m3 in
        let gn = numbers_grow m in
        let g5 : Grown loose m4 m5 = grows_activate numeric_names m4 in
        let gt : Grown calm m7 m8 = turn_grows line vs (body loop) (h loop) m.free m7 ea s7 in
        let gl : Grown calm m5 m11 = on_place exit (omega (arith, one, two)) (on_put line back (on_place end (omega (arith, one)) (on_part gt (on_place {n = m6} begin (omega arith) (on_put line prepare (on_new (on_new (on_new (start m5))))))))) in
        let f11 : Final (length m.labels) m11 z = before_end (length m.active) m11 f in
        let f5 : Final (length m.labels) m5 z = before gl f11 in
        let f4 = before g5 f5 in
        let f3 = before g4 f4 in
        let f2 = before g3 f3 in
        let f10 : Final (suc exit) m10 z = unplaced {n = m10} exit (omega (arith, one, two, gn.more, g5.more)) f11 in
        let f9 = before_put line back m9 f10 in
        let f8 : Final (suc exit) m8 z = unplaced_below {n = m8} end (omega (arith, two)) f9 in
        let f7 = before gt f8 in
        let f6 : Final (suc exit) m6 z = unplaced_below {n = m6} begin (omega (arith, one, two)) f7 in
        let low : length m.labels ≤ begin = omega (arith, gn.more, g5.more) in
        let begin_end : begin < end = omega (arith, one) in
        let end_exit : end < exit = omega (arith, two) in
        let exit_in : exit < length m8.labels = omega (arith, four, gt.more) in
        let is_exit : get_or z.labels exit 0 ≡ length m10.items = exit_is z m6 m8 m10 begin end exit (length m.labels) low begin_end end_exit exit_in gt refl f11 in
        let is_end : get_or z.labels end 0 ≡ length m8.items = end_is z m6 m8 m10 begin end exit (length m.labels) low begin_end end_exit exit_in gt refl f11 in
        let is_begin : get_or z.labels begin 0 ≡ length m6.items = begin_is z m6 m8 m10 begin end exit (length m.labels) low begin_end end_exit exit_in gt refl f11 (omega (arith, one, two, three)) in
        let n1 = next_at z first d ld.to m1 f2 in
        let n2 = next_at z last e le.to m2 (later g2.more f3) in
        let n3 = lw m3 (later (omega (arith, g2.more, g3.more)) f4) in
        let a2 : m2.active ≡ m.active = g2.active in
        let a3 : m3.active ≡ m.active = g3.active ∙ a2 in
        let r2 : m2.free ≡ length m.active + 1 = n1.at_free ∙ omega (arith, s) in
        let r3 : m3.free ≡ length m.active + 2 = n2.at_free ∙ omega (arith, r2) in
        let high = w.high m3 in
        let high4 = f4.high in
        record {
          variables = vs;
          around = m5.active;
          declared_by = spot m1;
          with_first = spot m2;
          with_last = spot m3;
          with_step = spot m4;
          begin = spot m6;
          loop = spot m8;
          same = refl;
          as_many = refl;
          declared = declared (text ∷ []) m;
          room = omega (arith, r3, high, high4);
          first_at = subst (λ n. d.to_reg m.active n n (spot m1) (spot m2)) s n1.value_at;
          last_at = subst (λ n. e.to_reg m.active n n (spot m2) (spot m3)) r2 (subst (λ a. e.to_reg a m2.free m2.free (spot m2) (spot m3)) a2 n2.value_at);
          step_at = subst (λ n. rel m.active n (spot m3) (spot m4)) r3 (subst (λ a. rel a m3.free (spot m3) (spot m4)) a3 n3);
          hidden = subst (λ a. Activated numeric_names a m5.active) gn.active (activated numeric_names m4);
          prepare = subst (λ n. WordAt (fn_of z) (Piece.Jump Op.ForPrep n (length m8.items)) (spot m4) (spot m6)) s
              (subst (λ p. WordAt (fn_of z) (Piece.Jump Op.ForPrep m.free (length m8.items)) p (spot m6)) (activate_spot numeric_names m4)
              (subst (λ x. WordAt (fn_of z) (Piece.Jump Op.ForPrep m.free x) (spot m5) (spot m6)) is_end (put_at line prepare mc f6)));
          turn_at = subst (λ x. TurnAt (fn_of z) (inside (Some (record { exit = x; before = length m.active }))) vs m5.active (spot m6) (spot m8)) is_exit
              (turn_at z line vs (body loop) (inside (loop_at z loop)) (h loop) (lb loop) m.free m7 ea s7 (later (omega (arith, four)) f8));
          back = subst (λ n. WordAt (fn_of z) (Piece.Jump Op.ForLoop n (length m6.items)) (spot m8) (spot m10)) s
              (subst (λ x. WordAt (fn_of z) (Piece.Jump Op.ForLoop m.free x) (spot m8) (spot m10)) is_begin (put_at line back m9 f10));
        }

-- ---- the generic loop

module _ (line : ℕ) (names : List Text) (values : List Coded) (body : Body) (g : AllGrow calm values) (h : (loop : Option Loop) → GrowsWell (body loop)) where
  abbrev pub with_three : Maker → Maker
  with_three m = adjust line values 3 (declare names m).after

  abbrev pub generic_ready : Maker → Maker
  generic_ready m = activate generic_names (with_three m)

  three_grow : (m : Maker) → Grown calm m (with_three m)
  three_grow m = on_part (grows_adjust calm line values g 3 _) (grows_declare calm names m)

  generic_active : (m : Maker) → length (generic_ready m).active ≡ length m.active + 3
  generic_active m = let a = activate_length generic_names (with_three m) in let b = three_grow m in omega (arith, a, ap length b.active)

  generic_free : (m : Maker) → (generic_ready m).free ≡ (declare names m).after.free + 3
  generic_free m = activate_free generic_names (with_three m) ∙ adjust_free line values g 3 (declare names m).after

  pub generic_grows : (m : Maker) → Settled m → Grown calm m (generic_part line names values body m)
  generic_grows m s =
      let vs = (declare names m).value in
      let m1 = (declare names m).after in
      let base = m1.free in
      let m3 = generic_ready m in
      let begin = length m3.labels in
      let ma = (new_label m3).after in
      let end = length ma.labels in
      let mb = (new_label ma).after in
      let exit = length mb.labels in
      let mc = (new_label mb).after in
      let m6 = used (base + 6) (place begin (put line (Piece.Jump Op.Jmp 0 end) mc)) in
      let loop : Option Loop = Some (record { exit = exit; before = length m1.active }) in
      let one : end ≡ suc begin = length_end m3.labels 0 in
      let two : exit ≡ suc end = length_end ma.labels 0 in
      let ea : length m6.active ≡ base + 3 = omega (arith, generic_active m, s, declare_free names m) in
      let s6 : Settled m6 = generic_free m ∙ sym ea in
      let gt = turn_grows line vs (body loop) (h loop) base m6 ea s6 in
      let gl : Grown calm m3 (place exit (put line (Piece.Jump Op.Jmp 0 begin) (put line (Piece.Abc Op.TForLoop base 0 (length names)) (place end (turn line base vs (body loop) m6))))) =
      on_place exit (omega (arith, one, two)) (on_put _ _ (on_put _ _ (on_place end (omega (arith, one)) (on_part gt (on_used _ (on_place begin (omega arith) (on_put _ _ (on_new (on_new (on_new (start m3))))))))))) in
      let g0 : Grown loose m _ = on_part (loosen gl) (on_part (grows_activate generic_names (with_three m)) (loosen (three_grow m))) in
      subst (λ n. Grown calm m (end_locals n (place exit (put line (Piece.Jump Op.Jmp 0 begin) (put line (Piece.Abc Op.TForLoop base 0 (length names)) (place end (turn line base vs (body loop) m6))))))) (sym (ap length (declare_active names m))) (end_step g0)

  module _ (z : Maker) (es : List Rel) (inside : Option LoopAt → Step) (l : AllLinks z values es) (lb : (loop : Option Loop) → StandsWell z (body loop) (inside (loop_at z loop))) where
    pub generic_at : (m : Maker) → Settled m → Final (length m.labels) (generic_part line names values body m) z → GenericAt (fn_of z) names es inside m.active (spot m) (spot (generic_part line names values body m))
    generic_at m s f =
        let vs = (declare names m).value in
        let m1 = (declare names m).after in
        let base = m1.free in
        let n = length m1.active in
        let m2 = with_three m in
        let m3 = generic_ready m in
        let begin = length m3.labels in
        let ma = (new_label m3).after in
        let end = length ma.labels in
        let mb = (new_label ma).after in
        let exit = length mb.labels in
        let mc = (new_label mb).after in
        let enter = Piece.Jump Op.Jmp 0 end in
        let m4 = put line enter mc in
        let m5 = place begin m4 in
        let m6 = used (base + 6) m5 in
        let loop : Option Loop = Some (record { exit = exit; before = n }) in
        let m7 = turn line base vs (body loop) m6 in
        let m8 = place end m7 in
        let call = Piece.Abc Op.TForLoop base 0 (length names) in
        let m9 = put line call m8 in
        let back = Piece.Jump Op.Jmp 0 begin in
        let m10 = put line back m9 in
        let m11 = place exit m10 in
        let one : end ≡ suc begin = length_end m3.labels 0 in
        let two : exit ≡ suc end = length_end ma.labels 0 in
        let three : length mc.labels ≡ suc exit = length_end mb.labels 0 in
        let four : length m6.labels ≡ suc exit = length_set mc.labels begin (length m4.items) ∙ three in
        let eb : base ≡ length m.active = declare_free names m ∙ s in
        let en : n ≡ length m.active = ap length (declare_active names m) in
        let ea : length m6.active ≡ base + 3 = omega (arith, generic_active m, eb) in
        let s6 : Settled m6 = generic_free m ∙ sym ea in
        let g1 = grows_declare calm names m in
        let g2 = grows_adjust calm line values g 3 m1 in
        let gn = three_grow m in
        let g3 : Grown loose m2 m3 = grows_activate generic_names m2 in
        let gt : Grown calm m6 m7 = turn_grows line vs (body loop) (h loop) base m6 ea s6 in
        let g5 : Grown calm m5 m7 = on_part gt (on_used (base + 6) (start m5)) in
        let gl : Grown calm m3 m11 = on_place exit (omega (arith, one, two)) (on_put line back (on_put line call (on_place end (omega (arith, one)) (on_part g5 (on_place {n = m4} begin (omega arith) (on_put line enter (on_new (on_new (on_new (start m3)))))))))) in
        let f11 : Final (length m.labels) m11 z = before_end n m11 f in
        let f3 : Final (length m.labels) m3 z = before gl f11 in
        let f2 = before g3 f3 in
        let low : length m.labels ≤ begin = omega (arith, gn.more, g3.more) in
        let f10 : Final (suc exit) m10 z = unplaced {n = m10} exit (omega (arith, one, two, low)) f11 in
        let f9 = before_put line back m9 f10 in
        let f8 = before_put line call m8 f9 in
        let f7 : Final (suc exit) m7 z = unplaced_below {n = m7} end (omega (arith, two)) f8 in
        let f6 = before gt f7 in
        let f5 = before_used (base + 6) m5 f6 in
        let f4 : Final (suc exit) m4 z = unplaced_below {n = m4} begin (omega (arith, one, two)) f5 in
        let begin_end : begin < end = omega (arith, one) in
        let end_exit : end < exit = omega (arith, two) in
        let exit_in : exit < length m7.labels = omega (arith, four, gt.more) in
        let is_exit : get_or z.labels exit 0 ≡ length m10.items = exit_is z m4 m7 m10 begin end exit (length m.labels) low begin_end end_exit exit_in g5 refl f11 in
        let is_end : get_or z.labels end 0 ≡ length m7.items = end_is z m4 m7 m10 begin end exit (length m.labels) low begin_end end_exit exit_in g5 refl f11 in
        let is_begin : get_or z.labels begin 0 ≡ length m4.items = begin_is z m4 m7 m10 begin end exit (length m.labels) low begin_end end_exit exit_in g5 refl f11 (omega (arith, one, two, three)) in
        let high = f6.high in
        record {
          variables = vs;
          around = m3.active;
          declared_by = spot m1;
          valued = spot m2;
          begin = spot m4;
          loop = spot m7;
          again = spot m9;
          some = tt;
          same = ap length (declare_items names m);
          as_many = ap length (declare_functions names m);
          declared = declared names m;
          room = omega (arith, high, eb);
          values_at = subst (λ x. AdjustAt (fn_of z) es 3 m.active x (spot m1) (spot m2)) eb
              (subst (λ a. AdjustAt (fn_of z) es 3 a base (spot m1) (spot m2)) (declare_active names m) (adjust_at z line values es l 3 m1 (later g1.more f2)));
          hidden = subst (λ a. Activated generic_names a m3.active) gn.active (activated generic_names m2);
          enter = subst (λ p. WordAt (fn_of z) (Piece.Jump Op.Jmp 0 (length m7.items)) p (spot m4)) (activate_spot generic_names m2)
              (subst (λ x. WordAt (fn_of z) (Piece.Jump Op.Jmp 0 x) (spot m3) (spot m4)) is_end (put_at line enter mc f4));
          turn_at = subst (λ k. TurnAt (fn_of z) (inside (Some (record { exit = length m10.items; before = k }))) vs m3.active (spot m4) (spot m7)) en
              (subst (λ x. TurnAt (fn_of z) (inside (Some (record { exit = x; before = n }))) vs m3.active (spot m4) (spot m7)) is_exit
              (turn_at z line vs (body loop) (inside (loop_at z loop)) (h loop) (lb loop) base m6 ea s6 (later (omega (arith, four)) f7)));
          call = subst (λ x. WordAt (fn_of z) (Piece.Abc Op.TForLoop x 0 (length names)) (spot m7) (spot m9)) eb (put_at line call m8 f9);
          back = subst (λ x. WordAt (fn_of z) (Piece.Jump Op.Jmp 0 x) (spot m9) (spot m10)) is_begin (put_at line back m9 f10);
        }
