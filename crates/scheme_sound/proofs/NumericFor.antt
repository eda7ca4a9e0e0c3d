-- A numeric `for` keeps the invariant.
use Rattle.std.proofs.Common.{◌≡◌, ◌≤◌, ◌<◌, ℕ, zero, suc, false, List, [], ◌∷◌, length, refl, sym, ap, ◌∙◌, arith, inl, ◌+◌, ◌⊎◌, ◌++◌, take, drop, subst, length-append, inr}
use Rattle.std.specs.Prelude.{Option, None, Some, pos}
use Rattle.std.proofs.Math.Seq.{take-append_seam, drop-append_seam}
use Rattle.std.proofs.lemmas.List.{length-map, map-append}
use Rattle.lua_num.specs.Bytes.{Text}
use Rattle.opcode.specs.declared.op.Op.{Op}
use Rattle.proto.specs.declared.parts.Constant.{Constant}
use Rattle.scheme.specs.Making.{◌>>=◌, ◌>>◌, Maker, Ahead, put, active_count, Part, any_captured, end_locals, activate, new_label, place}
use Rattle.scheme.specs.Expressions.{Coded, next_reg, load}
use Rattle.scheme.specs.Statements.{Loop, numeric_names, turn, step_part, numeric_part}
use Rattle.scheme.specs.declared.making.Piece.{Piece}
use Rattle.scheme.specs.declared.making.Local.{Local}
use Rattle.scheme_sound.proofs.Ghosts.{locals_of, IsLoop, PreparedBelow, Ghost, IsIn}
use Rattle.scheme_sound.proofs.States.{State, Onward, onward_then, Leads, leads_then, leads_as, sized, sized_state, sized_leads}
use Rattle.scheme_sound.proofs.Words.{next_ghost, put_prep, put_loop}
use Rattle.scheme_sound.proofs.Labels.{with_unplaced, placed_state, placed_onward, below_is, from_need}
use Rattle.scheme_sound.proofs.Fitting.{Fitting, Nothing, Both, declared_ahead, declared_locals, more_locals, FittingStep, Block, Looped}
use Rattle.scheme_sound.proofs.Operands.{context, carry, Takes, next_by, next_takes, loads}
use Rattle.scheme_sound.proofs.Expressions.{Keeps}
use Rattle.scheme_sound.proofs.Blocks.{LoopAround, Settled, StepKeeps, end_plain}
use Rattle.scheme_sound.proofs.Locals.{declared_leads, behind_declared, activated, captured_append}
use Rattle.scheme_sound.proofs.Turns.{turn_leads, begin_of, end_of, exit_of, labels_made, labels_ghost, end_is, exit_is, labels_count, labels_state, labels_onward, begin_asks, end_asks, exit_asks, begin_unplaced, end_unplaced, none_hidden, block_moved}

-- ---- the hidden locals

-- the loops of the locals with the hidden ones are the loops before, and theirs
numeric_loops : (xs : List Local) (r : ℕ) → IsLoop (xs ++ numeric_names) r → (r ≡ length xs) ⊎ (IsLoop xs r × (suc (suc r) < length xs))
numeric_loops [] zero l = inl refl
numeric_loops [] (suc zero) l = absurd (let h = l.index in omega (arith, h))
numeric_loops [] (suc (suc zero)) l = absurd (let h = l.index in omega (arith, h))
numeric_loops [] (suc (suc (suc r))) l = absurd (let h = l.index in omega (arith, h))
numeric_loops (x ∷ []) zero l = absurd (let h = l.limit in omega (arith, h))
numeric_loops (x ∷ y ∷ []) zero l = absurd (let h = l.step in omega (arith, h))
numeric_loops (x ∷ y ∷ z ∷ xs) zero l = inr (record { index = l.index; limit = l.limit; step = l.step }, omega arith)
numeric_loops (x ∷ xs) (suc r) l = up (numeric_loops xs r (record { index = l.index; limit = l.limit; step = l.step }))
  where
    up : (r ≡ length xs) ⊎ (IsLoop xs r × (suc (suc r) < length xs)) → (suc r ≡ suc (length xs)) ⊎ (IsLoop (x ∷ xs) (suc r) × (suc (suc (suc r)) < suc (length xs)))
    up (inl e) = inl (ap suc e)
    up (inr (k, h)) = inr (record { index = k.index; limit = k.limit; step = k.step }, omega (arith, h))

numeric_below : (xs : List Local) → PreparedBelow (length xs) xs (xs ++ numeric_names)
numeric_below xs = record { captured = λ r e. captured_append xs numeric_names r e; loops = λ r l. numeric_loops xs r l }

numeric_is : (xs : List Local) → IsLoop (xs ++ numeric_names) (length xs)
numeric_is [] = record { index = refl; limit = refl; step = refl }
numeric_is (x ∷ xs) = let h = numeric_is xs in record { index = h.index; limit = h.limit; step = h.step }

-- ---- the step

-- the value of the step, or 1
pub record ForStepKeeps (line : ℕ) (step : Option Coded) (i : Fitting) : Type 0 where
  pub takes : (m : Maker) (g : Ghost) (b : Ahead) → State m g None → i (context m g) m.ahead b → Takes m g (step_part line step m) b m.free
  pub free : (m : Maker) → (step_part line step m).free ≡ m.free + 1

pub no_step_keeps : (line : ℕ) → ForStepKeeps line None Nothing
no_step_keeps line = record {
  takes = next_by (λ r. load line r (Constant.Number (pos 1))) Nothing (λ r m g b s x l k. (let d = loads line r (Constant.Number (pos 1)) m g s l k in leads_as d (sym x))) (λ r m. refl);
  free = λ m. refl;
}

pub by_step_keeps : (line : ℕ) (c : Coded) (i : Fitting) → Keeps c i → ForStepKeeps line (Some c) i
by_step_keeps line c i f = record { takes = λ m g b s x. next_takes c i f.value m g b s x; free = λ m. ap (λ y. y + 1) (f.value.to_free m.free m) }

-- ---- the loop

-- from the hidden locals on
abbrev numeric_rest : (line base n : ℕ) → List Local → (Option Loop → Part) → Part
numeric_rest line base n variables body = do
  activate numeric_names
  begin ← new_label
  end ← new_label
  exit ← new_label
  put line (Piece.Jump Op.ForPrep base end)
  place begin
  turn line base variables (body (Some (record { exit = exit; before = n })))
  place end
  put line (Piece.Jump Op.ForLoop base begin)
  place exit
  end_locals n

numeric_tail : (line : ℕ) (text : Text) (body : Option Loop → Part) (step : FittingStep) → StepKeeps body step → (a0 : Ahead) (m : Maker) (g : Ghost) (mid b : Ahead) (s : State m g None) → m.free ≡ length m.active + 3 → m.ahead ≡ mid
    → Block step (more_locals (context m g) (numeric_names ++ declared_locals (text ∷ []) a0)) mid b
    → (base n : ℕ) → base ≡ length m.active → n ≡ length m.active
    → Leads m g (numeric_rest line base n (declared_locals (text ∷ []) a0) body m) None b
numeric_tail line text body step f a0 m g mid b s free ahead x base n e1 e2 =
    let xs = locals_of m.active in
    let ys = xs ++ numeric_names in
    let z = base + 4 in
    let begin = begin_of m g s ys in
    let end = end_of m g s ys in
    let exit = exit_of m g s ys in
    let gz = sized g z in
    let sz = sized_state z s in
    let act = activated numeric_names m in
    let mh = activate numeric_names m in
    let v3 = labels_made m gz sz ys in
    let h3 = labels_ghost m gz sz ys in
    let s3 = labels_state m gz sz ys in
    let r3 = (new_label (new_label (new_label mh).after).after).after in
    let hid : locals_of mh.active ≡ ys = ap locals_of act.grown ∙ map-append (λ one. one.local) m.active act.more ∙ ap (λ l. xs ++ l) act.are in
    let long : length xs ≡ base = length-map m.active (λ one. one.local) ∙ sym e1 in
    let wide : length mh.active ≡ base + 3 = (let a = ap length hid in let c = length-append xs numeric_names in let d = length-map mh.active (λ one. one.local) in omega (arith, a, c, d, long)) in
    let held = s.held in
    let e_is = end_is m gz sz ys in
    let x_is = exit_is m gz sz ys in
    let l_is = labels_count m gz sz ys in
    let asked_end = end_asks m gz sz ys in
    let prep : PreparedBelow base xs (h3.need end) = subst (λ l. PreparedBelow base xs l) (sym asked_end) (subst (λ y. PreparedBelow y xs ys) long (numeric_below xs)) in
    let s4 = put_prep line base end v3 r3 h3 s3 (record { items = refl; labels = refl; constants = refl; functions = refl; upvalues = refl; misfits = refl }) (omega arith) (omega (arith, e1)) (omega (arith, e_is, l_is)) prep (omega (arith, wide)) (omega (arith, wide, free, e1)) in
    let p4 = put line (Piece.Jump Op.ForPrep base end) r3 in
    let h4 = next_ghost h3 (length v3.items) (locals_of r3.active) None in
    let s5 = placed_state begin (exit ∷ end ∷ g.unplaced) s4 (below_is (h4.need begin) (locals_of mh.active) (hid ∙ sym (begin_asks m gz sz ys))) (begin_unplaced m gz sz ys) in
    let p5 = place begin p4 in
    let h5 = with_unplaced h4 (exit ∷ end ∷ g.unplaced) in
    let go5 : Onward m gz p5 h5 = onward_then (labels_onward m gz sz ys) (onward_then (record { need = λ l y. refl; labels = omega arith; high = omega arith; count = omega arith; upvalues = refl; larger = omega arith; size = omega arith; vararg = refl }) (placed_onward begin p4 h4 (exit ∷ end ∷ g.unplaced))) in
    let long5 : length v3.labels ≤ length p5.labels = (let q = (placed_onward begin p4 h4 (exit ∷ end ∷ g.unplaced)).labels in omega (arith, q)) in
    let cut : take n mh.active ≡ m.active = ap (λ y. take y mh.active) e2 ∙ ap (take (length m.active)) act.grown ∙ take-append_seam m.active act.more in
    let loop : Option Loop = Some (record { exit = exit; before = n }) in
    let ok : LoopAround p5 h5 loop = (omega (arith, x_is, l_is, long5), omega (arith, wide, e1, e2), below_is (locals_of (take n mh.active)) (h5.need exit) (exit_asks m gz sz ys ∙ ap locals_of (sym cut))) in
    let t = turn_leads line base (text ∷ []) a0 body step f loop p5 h5 b s5 wide (omega (arith, free, e1)) ok (block_moved m p5 g h5 numeric_names (text ∷ []) a0 mid b step hid refl refl ahead x) in
    let p6 = turn line base (declared_locals (text ∷ []) a0) (body loop) p5 in
    let d6 = t.leads in
    let high6 = t.high in
    let need6 = d6.onward.need in
    let asked6 : d6.ghost.need end ≡ ys = need6 end (omega (arith, e_is, l_is, long5)) ∙ asked_end in
    let s7 = placed_state end (exit ∷ g.unplaced) d6.state (below_is (d6.ghost.need end) (locals_of p6.active) (ap locals_of d6.active ∙ hid ∙ sym asked6)) (λ k i. end_unplaced m gz sz ys k (subst (λ os. IsIn k os) d6.unplaced i)) in
    let p7 = place end p6 in
    let h7 = with_unplaced d6.ghost (exit ∷ g.unplaced) in
    let long6 = d6.onward.labels in
    let go7 : Onward m gz p7 h7 = onward_then go5 (onward_then d6.onward (placed_onward end p6 d6.ghost (exit ∷ g.unplaced))) in
    let long7 = (placed_onward end p6 d6.ghost (exit ∷ g.unplaced)).labels in
    let lar7 = go7.larger in
    let all7 : locals_of p7.active ≡ ys = ap locals_of d6.active ∙ hid in
    let wide7 : length p7.active ≡ base + 3 = ap length d6.active ∙ wide in
    let asked7 : h7.need begin ≡ ys = need6 begin (omega (arith, l_is, long5)) ∙ begin_asks m gz sz ys in
    let d8 = put_loop line base begin p7 h7 s7 (omega (arith, lar7)) (omega (arith, wide7)) (omega (arith, l_is, long5, long6, long7))
    (subst (λ l. IsLoop l base) (sym all7) (subst (λ y. IsLoop ys y) long (numeric_is xs))) (below_is (locals_of p7.active) (h7.need begin) (asked7 ∙ sym all7)) in
    let p8 = put line (Piece.Jump Op.ForLoop base begin) p7 in
    let act8 : p8.active ≡ m.active ++ act.more = d8.active ∙ d6.active ∙ act.grown in
    let none : any_captured (drop n p8.active) ≡ false = ap (λ l. any_captured (drop n l)) act8 ∙ ap (λ y. any_captured (drop y (m.active ++ act.more))) e2 ∙ ap any_captured (drop-append_seam m.active act.more) ∙ none_hidden act.more numeric_names act.are in
    let w = end_plain n p8 d8.ghost d8.state none in
    let p9 = end_locals n p8 in
    let same : p9.active ≡ m.active = ap (take n) (d8.active ∙ d6.active) ∙ cut in
    let asked9 : w.ghost.need exit ≡ xs = w.onward.need exit (omega (arith, x_is, l_is, long5, long6, long7)) ∙ d8.onward.need exit (omega (arith, x_is, l_is, long5, long6, long7)) ∙ need6 exit (omega (arith, x_is, l_is, long5)) ∙ exit_asks m gz sz ys in
    let s10 = placed_state exit g.unplaced w.state (from_need _ m.active w.ghost exit same asked9) (λ k i. subst (λ os. IsIn k os) (w.unplaced ∙ d8.unplaced) i) in
    let high8 = d8.onward.high in
    let high9 = w.onward.high in
    sized_leads z (record {
      ghost = with_unplaced w.ghost g.unplaced;
      state = s10;
      onward = onward_then go7 (onward_then d8.onward (onward_then w.onward (placed_onward exit p9 w.ghost g.unplaced)));
      unplaced = refl;
      active = same;
      ahead = d8.ahead ∙ d6.ahead;
    }) (omega (arith, high6, high8, high9))

pub numeric_leads : (line : ℕ) (text : Text) (first last : Coded) (step : Option Coded) (i j k : Fitting) → Keeps first i → Keeps last j → ForStepKeeps line step k → (body : Option Loop → Part) (inner : FittingStep) → StepKeeps body inner → (m : Maker) (g : Ghost) (b : Ahead) → State m g None → Settled m
    → Looped numeric_names (text ∷ []) (Both i (Both j k)) inner (context m g) m.ahead b → Leads m g (numeric_part line text first last step body m) None b
numeric_leads line text first last step i j k f h p body inner q m g b s t x =
    behind_declared (text ∷ []) (λ variables n1. numeric_rest line n1.free (active_count n1) variables body (step_part line step (next_reg last (next_reg first n1)))) m (λ n. Leads m g n None b) (
    let d0 = declared_leads (text ∷ []) s in
    let m1 : Maker = record m { ahead = declared_ahead (text ∷ []) m.ahead } in
    let xv = carry (Both i (Both j k)) x.mid d0 x.values_fit in
    let d1 = next_takes first i f.value m1 d0.ghost xv.mid d0.state xv.first in
    let n1 = next_reg first m1 in
    let xw = carry (Both j k) x.mid d1.leads xv.second in
    let d2 = next_takes last j h.value n1 d1.leads.ghost xw.mid d1.leads.state xw.first in
    let n2 = next_reg last n1 in
    let d3 = p.takes n2 d2.leads.ghost x.mid d2.leads.state (carry k x.mid d2.leads xw.second) in
    let m4 = step_part line step n2 in
    let d4 = leads_then (leads_then (leads_then d0 d1.leads) d2.leads) d3.leads in
    let a1 = f.value.to_free m1.free m1 in
    let a2 = h.value.to_free n1.free n1 in
    let a3 = p.free n2 in
    let same = ap length d4.active in
    let body_fits : Block inner (more_locals (context m g) (numeric_names ++ declared_locals (text ∷ []) m.ahead)) x.mid b = record { inner = x.inner; body_fits = x.body_fits } in
    leads_then d4 (numeric_tail line text body inner q m.ahead m4 d4.ghost x.mid b d4.state (omega (arith, a1, a2, a3, t, same)) d4.ahead
    (carry (λ c a b. Block inner (more_locals c (numeric_names ++ declared_locals (text ∷ []) m.ahead)) x.mid b) b d4 body_fits) m.free (length m.active) (omega (arith, t, same)) (sym same)))
