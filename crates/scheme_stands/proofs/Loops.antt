-- `while` and `repeat` keep what is made, and stand as the relation says.
use Rattle.std.proofs.Common.{◌≡◌, ℕ, suc, Bool, true, false, cond, length, get_or, take, ap, ◌∙◌, subst, arith}
use Rattle.std.specs.Prelude.{Option, Some}
use Rattle.opcode.specs.declared.op.Op.{Op}
use Rattle.scheme.specs.Making.{Maker, Part, put, place, new_label, captured_from, end_locals}
use Rattle.scheme.specs.Expressions.{Coded}
use Rattle.scheme.specs.Statements.{Loop, block_part, while_part, repeat_part, repeat_plain, repeat_captured}
use Rattle.scheme.specs.declared.making.Piece.{Piece}
use Rattle.scheme_stands.specs.Words.{WordAt}
use Rattle.scheme_stands.specs.Expressions.{Rel}
use Rattle.scheme_stands.specs.Functions.{Step}
use Rattle.scheme_stands.specs.Statements.{LoopAt, BlockAt, WhileAt, RepeatAt, UntilBy}
use Rattle.scheme_stands.proofs.Growth.{length_end, length_set, calm, any, Grown, start, on_part, on_put, on_new, on_place, Final, before, later, unplaced, placed, stood, spot, fn_of, put_at, before_put}
use Rattle.scheme_stands.proofs.Parts.{Grows}
use Rattle.scheme_stands.proofs.Links.{Links}
use Rattle.scheme_stands.proofs.Blocks.{take_kept, forget, end_any, Settled, settled_on, Body, GrowsWell, StandsWell, block_grows, block_at, loop_at}

-- ---- while

module _ (line : ℕ) (test : Coded) (body : Body) (g : Grows calm test) (h : (loop : Option Loop) → GrowsWell (body loop)) where
  pub while_grows : (m : Maker) → Settled m → Grown calm m (while_part line test body m)
  while_grows m s =
      let exit = length m.labels in
      let ma = (new_label m).after in
      let first = length ma.labels in
      let mb = (new_label ma).after in
      let mc = place first mb in
      let md = test.jump_if false exit mc in
      let inside = body (Some (record { exit = exit; before = length m.active })) in
      let one : length ma.labels ≡ suc exit = length_end m.labels 0 in
      let gc : Grown calm m mc = on_place {n = mb} first (omega (arith, one)) (on_new (on_new (start m))) in
      let gd : Grown calm m md = on_part (g.jump_if false exit mc) gc in
      on_place exit (omega arith) (on_put _ _ (on_part (block_grows line inside md (h _ md (settled_on s (g.jump_free false exit mc) gd))) gd))

-- ---- repeat

abbrev until : Bool → (line start exit n : ℕ) → Coded → Part
until b line first exit n test = cond b (repeat_captured line first exit n test) (repeat_plain first n test)

-- the test of the loop, after a body
until_any : (b : Bool) (line first exit n : ℕ) (test : Coded) → Grows calm test → (m : Maker) → Grown any m (until b line first exit n test m)
until_any true line first exit n test g m =
    let again = length m.labels in
    on_put _ _ (on_put _ _ (on_part (end_any n _) (on_place again (omega arith) (on_put _ _ (on_put _ _ (on_part (forget (g.jump_if false again (new_label m).after)) (on_new (start m))))))))
until_any false line first exit n test g m = on_part (end_any n _) (forget (g.jump_if false first m))

until_active : (b : Bool) (line first exit n : ℕ) (test : Coded) → Grows calm test → (m : Maker) → (until b line first exit n test m).active ≡ take n m.active
until_active true line first exit n test g m = let h = g.jump_if false (length m.labels) (new_label m).after in ap (take n) h.active
until_active false line first exit n test g m = let h = g.jump_if false first m in ap (take n) h.active

module _ (line : ℕ) (test : Coded) (body : Body) (g : Grows calm test) (h : (loop : Option Loop) → GrowsWell (body loop)) where
  pub repeat_grows : (m : Maker) → Settled m → Grown calm m (repeat_part line body test m)
  repeat_grows m s =
      let exit = length m.labels in
      let n = length m.active in
      let ma = (new_label m).after in
      let first = length ma.labels in
      let mb = (new_label ma).after in
      let mc = place first mb in
      let md = body (Some (record { exit = exit; before = n })) mc in
      let b = captured_from n md in
      let one : length ma.labels ≡ suc exit = length_end m.labels 0 in
      let gd = h (Some (record { exit = exit; before = n })) mc s in
      let ga : Grown any m (repeat_part line body test m) = on_place exit (omega arith) (on_part (until_any b line first exit n test g md) (on_part (forget gd) (on_place {n = mb} first (omega (arith, one)) (on_new (on_new (start m)))))) in
      record { items = ga.items; constants = ga.constants; functions = ga.functions; labels = ga.labels; more = ga.more; high = ga.high; fine = ga.fine; upvalues = ga.upvalues; active = until_active b line first exit n test g md ∙ take_kept m.active md.active gd.active }

-- ---- what stands

module _ (z : Maker) where
  module _ (line : ℕ) (test : Coded) (e : Rel) (body : Body) (step : Option LoopAt → Step) (g : Grows calm test) (l : Links z test e) (h : (loop : Option Loop) → GrowsWell (body loop)) (k : (loop : Option Loop) → StandsWell z (body loop) (step (loop_at z loop))) where
    pub while_at : (m : Maker) → Settled m → Final (length m.labels) (while_part line test body m) z → WhileAt (fn_of z) e step m.active (spot m) (spot (while_part line test body m))
    while_at m s f =
        let exit = length m.labels in
        let ma = (new_label m).after in
        let first = length ma.labels in
        let mb = (new_label ma).after in
        let mc = place first mb in
        let md = test.jump_if false exit mc in
        let inside = body (Some (record { exit = exit; before = length m.active })) in
        let me = block_part line inside md in
        let back = Piece.Jump Op.Jmp 0 first in
        let mf = put line back me in
        let one : length ma.labels ≡ suc exit = length_end m.labels 0 in
        let two : length mb.labels ≡ suc first = length_end ma.labels 0 in
        let three : length mc.labels ≡ suc first = length_set mb.labels first (length mb.items) ∙ two in
        let gt = g.jump_if false exit mc in
        let sd : Settled md = settled_on s (g.jump_free false exit mc) (on_part gt (on_place {n = mb} first (omega (arith, one)) (on_new (on_new (start m))))) in
        let gb = block_grows line inside md (h _ md sd) in
        let gf : Grown calm mc mf = on_put line back (on_part gb gt) in
        let is_exit : get_or z.labels exit 0 ≡ length mf.items = placed mf exit (omega arith) (omega (arith, one, three, gf.more)) f in
        let ff = unplaced {n = mf} exit (omega arith) f in
        let is_first : get_or z.labels first 0 ≡ length mb.items = ff.labels first (omega (arith, one)) (omega (arith, three, gf.more)) ∙ stood mb mf first (omega (arith, two)) gf in
        let fe = before_put line back me ff in
        let fd = before gb fe in
        record {
          mid = spot md;
          last = spot me;
          test_at = subst (λ x. e.jump_if m.active (length m.active) false x (spot m) (spot md)) is_exit
              (subst (λ n. e.jump_if m.active n false (get_or z.labels exit 0) (spot m) (spot md)) s (l.jump_if false exit mc (later (omega (arith, one, three)) fd)));
          body_at = subst (λ x. BlockAt (fn_of z) (step (Some (record { exit = x; before = length m.active }))) m.active (spot md) (spot me)) is_exit
              (subst (λ a. BlockAt (fn_of z) (step (Some (record { exit = get_or z.labels exit 0; before = length m.active }))) a (spot md) (spot me)) gt.active
              (block_at z line inside _ (h _) (k _) md sd (later (omega (arith, one, three, gt.more)) fe)));
          back = subst (λ x. WordAt (fn_of z) (Piece.Jump Op.Jmp 0 x) (spot me) (spot mf)) is_first (put_at line back me ff);
        }

  until_at : (b : Bool) (line first exit n : ℕ) (test : Coded) (e : Rel) → Grows calm test → Links z test e → (m : Maker) → Settled m → Final (length m.labels) (until b line first exit n test m) z →
      UntilBy b (fn_of z) e m.active n (get_or z.labels exit 0) (get_or z.labels first 0) (spot m) (spot (until b line first exit n test m))
  until_at true line first exit n test e g l m s f =
      let again = length m.labels in
      let close = Piece.Abc Op.Close n 0 0 in
      let me = (new_label m).after in
      let mf = test.jump_if false again me in
      let mg = put line close mf in
      let mh = put line (Piece.Jump Op.Jmp 0 exit) mg in
      let mi = place again mh in
      let mj = end_locals n mi in
      let mk = put line close mj in
      let one : length me.labels ≡ suc again = length_end m.labels 0 in
      let gt = g.jump_if false again me in
      let fk = before_put line (Piece.Jump Op.Jmp 0 first) mk f in
      let fi = before (end_any n mi) (before_put line close mj fk) in
      let is : get_or z.labels again 0 ≡ length mh.items = placed mh again (omega arith) (omega (arith, one, gt.more)) fi in
      let fh = unplaced {n = mh} again (omega arith) fi in
      let fg = before_put line (Piece.Jump Op.Jmp 0 exit) mg fh in
      let ff = before_put line close mf fg in
      record {
        closing = spot mf;
        leaving = spot mg;
        again = spot mh;
        last = spot mk;
        test_at = subst (λ x. e.jump_if m.active (length m.active) false x (spot m) (spot mf)) is
            (subst (λ k. e.jump_if m.active k false (get_or z.labels again 0) (spot m) (spot mf)) s (l.jump_if false again me (later (omega (arith, one)) ff)));
        close = put_at line close mf fg;
        leave = put_at line (Piece.Jump Op.Jmp 0 exit) mg fh;
        close_again = put_at line close mj fk;
        back = put_at line (Piece.Jump Op.Jmp 0 first) mk f;
      }
  until_at false line first exit n test e g l m s f =
      subst (λ k. e.jump_if m.active k false (get_or z.labels first 0) (spot m) (spot (test.jump_if false first m))) s (l.jump_if false first m (before (end_any n (test.jump_if false first m)) f))

  module _ (line : ℕ) (test : Coded) (e : Rel) (body : Body) (step : Option LoopAt → Step) (g : Grows calm test) (l : Links z test e) (h : (loop : Option Loop) → GrowsWell (body loop)) (settled : (loop : Option Loop) (m : Maker) → Settled m → Settled (body loop m)) (k : (loop : Option Loop) → StandsWell z (body loop) (step (loop_at z loop))) where
    pub repeat_at : (m : Maker) → Settled m → Final (length m.labels) (repeat_part line body test m) z → RepeatAt (fn_of z) step e m.active (spot m) (spot (repeat_part line body test m))
    repeat_at m s f =
        let exit = length m.labels in
        let n = length m.active in
        let ma = (new_label m).after in
        let first = length ma.labels in
        let mb = (new_label ma).after in
        let mc = place first mb in
        let loop : Option Loop = Some (record { exit = exit; before = n }) in
        let md = body loop mc in
        let b = captured_from n md in
        let mx = until b line first exit n test md in
        let one : length ma.labels ≡ suc exit = length_end m.labels 0 in
        let two : length mb.labels ≡ suc first = length_end ma.labels 0 in
        let three : length mc.labels ≡ suc first = length_set mb.labels first (length mb.items) ∙ two in
        let gd = h loop mc s in
        let gu = until_any b line first exit n test g md in
        let gx : Grown any mc mx = on_part gu (forget gd) in
        let is_exit : get_or z.labels exit 0 ≡ length mx.items = placed mx exit (omega arith) (omega (arith, one, three, gx.more)) f in
        let fx = unplaced {n = mx} exit (omega arith) f in
        let is_first : get_or z.labels first 0 ≡ length mb.items = fx.labels first (omega (arith, one)) (omega (arith, three, gx.more)) ∙ stood mb mx first (omega (arith, two)) gx in
        record {
          inner = md.active;
          mid = spot md;
          body_at = subst (λ x. step (Some (record { exit = x; before = n })) m.active md.active (spot m) (spot md)) is_exit (k loop mc s (later (omega (arith, one, three)) (before gu fx)));
          until = subst (λ x. UntilBy b (fn_of z) e md.active n x (length m.items) (spot md) (spot mx)) is_exit
              (subst (λ y. UntilBy b (fn_of z) e md.active n (get_or z.labels exit 0) y (spot md) (spot mx)) is_first
              (until_at b line first exit n test e g l md (settled loop mc s) (later (omega (arith, one, three, gd.more)) fx)));
        }
