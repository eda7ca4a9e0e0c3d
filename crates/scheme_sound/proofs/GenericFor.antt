-- A generic `for` keeps the invariant.
use Rattle.std.proofs.Common.{◌≡◌, ◌≤◌, ◌<◌, ℕ, zero, suc, false, List, [], ◌∷◌, length, refl, sym, ap, ◌∙◌, arith, ◌+◌, ◌⊎◌, ◌++◌, take, drop, subst, length-append, inr, nat_le, lt-ltb, max}
use Rattle.std.specs.Prelude.{Option, None, Some}
use Rattle.std.proofs.Math.Seq.{take-append_seam, drop-append_seam}
use Rattle.std.proofs.lemmas.List.{length-map, map-append}
use Rattle.lua_num.specs.Bytes.{Text}
use Rattle.lua_tree.specs.Syntax.{Expressions}
use Rattle.opcode.specs.declared.op.Op.{Op}
use Rattle.scheme.specs.Making.{◌>>=◌, ◌>>◌, Maker, Ahead, put, active_count, Part, any_captured, end_locals, activate, new_label, place, jump_to, used}
use Rattle.scheme.specs.Lists.{adjust}
use Rattle.scheme.specs.Statements.{Loop, generic_names, turn, generic_part}
use Rattle.scheme.specs.Scheme.{all_coded}
use Rattle.scheme.specs.declared.making.Piece.{Piece}
use Rattle.scheme.specs.declared.making.Local.{Local}
use Rattle.scheme.specs.declared.making.Active.{Active}
use Rattle.scheme_sound.proofs.Ghosts.{locals_of, kind_at, Below, Ghost, IsIn}
use Rattle.scheme_sound.proofs.States.{State, Onward, onward_then, Leads, leads_then, used_leads, sized, sized_state, sized_leads}
use Rattle.scheme_sound.proofs.Words.{next_ghost, range_from, jump_apart}
use Rattle.scheme_sound.proofs.Labels.{with_unplaced, placed_state, placed_onward, below_is}
use Rattle.scheme_sound.proofs.WordPairs.{put_test}
use Rattle.scheme_sound.proofs.Fitting.{declared_ahead, declared_locals, more_locals, FittingStep, Block, Looped, ExpressionsFit}
use Rattle.scheme_sound.proofs.Operands.{context, carry}
use Rattle.scheme_sound.proofs.Lists.{AllKeep}
use Rattle.scheme_sound.proofs.Blocks.{LoopAround, Settled, StepKeeps, end_plain}
use Rattle.scheme_sound.proofs.Locals.{declared_leads, behind_declared, activated, kind_append, captured_append, adjust_leads}
use Rattle.scheme_sound.proofs.Turns.{turn_leads, begin_of, end_of, exit_of, labels_made, labels_ghost, end_is, exit_is, labels_count, labels_state, labels_onward, begin_asks, end_asks, exit_asks, begin_unplaced, end_unplaced, none_hidden, block_moved}

-- ---- the hidden locals, which are no numbers of a loop

generic_none : (j : ℕ) → kind_at generic_names j ≡ 0
generic_none zero = refl
generic_none (suc zero) = refl
generic_none (suc (suc zero)) = refl
generic_none (suc (suc (suc j))) = refl

generic_kinds : (xs : List Local) (r : ℕ) → length xs ≤ r → kind_at (xs ++ generic_names) r ≡ 0
generic_kinds [] r l = generic_none r
generic_kinds (x ∷ xs) zero l = absurd (omega arith)
generic_kinds (x ∷ xs) (suc r) l = generic_kinds xs r (omega arith)

generic_below : (xs : List Local) → Below xs (xs ++ generic_names)
generic_below xs = record {
  captured = λ r e. captured_append xs generic_names r e;
  loops = λ r l. record { index = kind_append xs generic_names r 0 generic_none l.index; limit = kind_append xs generic_names (suc r) 1 generic_none l.limit; step = kind_append xs generic_names (suc (suc r)) 2 generic_none l.step };
}

-- ---- arithmetic, apart from the long chains in which it is used

size_five : (base w s h : ℕ) → max s (max (base + 6) (base + 3 + w)) ≤ h → base + 5 < h
size_five base w s h l = omega (arith, l)

size_last : (base w s h : ℕ) → max s (max (base + 6) (base + 3 + w)) ≤ h → base + 2 + w < h
size_last base w s h l = omega (arith, l)

behind_two : (base r l : ℕ) → base + 2 ≤ r → l ≡ base → l ≤ r
behind_two base r l a e = omega (arith, a, e)

rest_first : (base s h : ℕ) → base + 5 < s → s ≤ h → base < h
rest_first base s h a b = omega (arith, a, b)

rest_more : (x s h : ℕ) → x < s → s ≤ h → x < h
rest_more x s h a b = omega (arith, a, b)

rest_count : (base w s h : ℕ) → base + 2 + w < s → s ≤ h → w ≤ suc h
rest_count base w s h a b = omega (arith, a, b)

rest_high : (x a b c : ℕ) → x ≤ a → a ≤ b → b ≤ c → x ≤ c
rest_high x a b c p q r = omega (arith, p, q, r)

rest_low : (n base l k : ℕ) → n ≡ base → l ≡ base + 3 → k ≡ l → n ≤ k
rest_low n base l k a b c = omega (arith, a, b, c)

used_high : (k : ℕ) (m : Maker) → k ≤ (used k m).high
used_high k m = omega arith

top_is : (x y a b : ℕ) → x ≤ a → y ≤ b → a ≤ b → max x y ≤ b
top_is x y a b p q r = omega (arith, p, q, r)

-- ---- the loop

-- the rest of a loop leads on, and so many registers were taken in it
pub record RestLeads (m : Maker) (g : Ghost) (n : Maker) (os : List ℕ) (us : List Active) (b : Ahead) (top : ℕ) : Type 0 where
  pub ghost : Ghost
  pub state : State n ghost None
  pub onward : Onward m g n ghost
  pub unplaced : ghost.unplaced ≡ os
  pub active : n.active ≡ us
  pub ahead : n.ahead ≡ b
  pub high : top ≤ n.high

-- from the place where a turn begins to behind the loop
generic_turns : (line : ℕ) (texts : List Text) (body : Option Loop → Part) (step : FittingStep) → StepKeeps body step → (a0 : Ahead) (m : Maker) (g : Ghost) (b : Ahead) → State m g None → (base k begin end exit : ℕ) (os : List ℕ) (xs : List Local)
    → length m.active ≡ base + 3 → m.free ≡ base + 3 → k ≤ length m.active → locals_of m.active ≡ xs ++ generic_names → length xs ≡ base → locals_of (take k m.active) ≡ xs → any_captured (drop k m.active) ≡ false
    → begin < length m.labels → end < length m.labels → exit < length m.labels → g.need begin ≡ xs ++ generic_names → g.need end ≡ xs ++ generic_names → g.need exit ≡ xs
    → ((l : ℕ) → IsIn l g.unplaced → (l ≡ end) ⊎ IsIn l (exit ∷ os)) → 0 < length texts → base + 5 < g.size → base + 2 + length texts < g.size
    → Block step (more_locals (context m g) (declared_locals texts a0)) m.ahead b
    → RestLeads m g (end_locals k (place exit (put line (Piece.Jump Op.Jmp 0 begin) (put line (Piece.Abc Op.TForLoop base 0 (length texts)) (place end (turn line base (declared_locals texts a0) (body (Some (record { exit = exit; before = k }))) m)))))) os (take k m.active) b (base + 3 + length texts)
generic_turns line texts body step f a0 m g b s base k begin end exit os xs wide free low hid long cut none lb le lx nb ne nx unplaced some z1 z2 x =
    let ys = xs ++ generic_names in
    let w0 = length texts in
    let loop : Option Loop = Some (record { exit = exit; before = k }) in
    let ok : LoopAround m g loop = (lx, low, below_is (locals_of (take k m.active)) (g.need exit) (nx ∙ sym cut)) in
    let t = turn_leads line base texts a0 body step f loop m g b s wide free ok x in
    let d6 = t.leads in
    let p6 = turn line base (declared_locals texts a0) (body loop) m in
    let asked6 : d6.ghost.need end ≡ ys = d6.onward.need end le ∙ ne in
    let s7 = placed_state end (exit ∷ os) d6.state (below_is (d6.ghost.need end) (locals_of p6.active) (ap locals_of d6.active ∙ hid ∙ sym asked6)) (λ l i. unplaced l (subst (λ os. IsIn l os) d6.unplaced i)) in
    let p7 = place end p6 in
    let h7 = with_unplaced d6.ghost (exit ∷ os) in
    let pg = placed_onward end p6 d6.ghost (exit ∷ os) in
    let go7 : Onward m g p7 h7 = onward_then d6.onward pg in
    let all7 : locals_of p7.active ≡ ys = ap locals_of d6.active ∙ hid in
    let lar7 = go7.larger in
    let lab7 = go7.labels in
    let asked7 : h7.need begin ≡ ys = go7.need begin lb ∙ nb in
    let d8 = put_test line Op.TForLoop base 0 w0 begin p7 h7 s7 refl refl
    (record { first = rest_first base g.size h7.size z1 lar7; ordered = lt-ltb 0 w0 some; registers = (rest_more (base + 5) g.size h7.size z1 lar7, (rest_more (base + 2 + w0) g.size h7.size z2 lar7, tt)); fields = tt; constant = tt; upvalues = tt; small = inr (rest_count base w0 g.size h7.size z2 lar7); extra = tt; spares = λ r e. subst (λ l. kind_at l r ≡ 0) (sym all7) (generic_kinds xs r (behind_two base r (length xs) (range_from (base + 2) r (nat_le r (base + 2 + w0)) e) long)) })
    (rest_more begin (length m.labels) (length p7.labels) lb lab7) (below_is (locals_of p7.active) (h7.need begin) (asked7 ∙ sym all7)) in
    let p8 = put line (Piece.Jump Op.Jmp 0 begin) (put line (Piece.Abc Op.TForLoop base 0 w0) p7) in
    let act8 : p8.active ≡ m.active = d8.active ∙ d6.active in
    let w = end_plain k p8 d8.ghost d8.state (ap (λ l. any_captured (drop k l)) act8 ∙ none) in
    let p9 = end_locals k p8 in
    let same : p9.active ≡ take k m.active = ap (take k) act8 in
    let all9 : Onward m g p9 w.ghost = onward_then go7 (onward_then d8.onward w.onward) in
    let asked9 : w.ghost.need exit ≡ xs = all9.need exit lx ∙ nx in
    let s10 = placed_state exit os w.state (below_is (w.ghost.need exit) (locals_of p9.active) (ap locals_of same ∙ cut ∙ sym asked9)) (λ l i. subst (λ os. IsIn l os) (w.unplaced ∙ d8.unplaced) i) in
    let h6 = t.high in
    let h8 = d8.onward.high in
    let h9 = w.onward.high in
    record { ghost = with_unplaced w.ghost os; state = s10; onward = onward_then all9 (placed_onward exit p9 w.ghost os); unplaced = refl; active = same; ahead = d8.ahead ∙ d6.ahead; high = rest_high (base + 3 + w0) p6.high p8.high p9.high h6 h8 h9 }

-- from the hidden locals on
abbrev generic_rest : (line base n width : ℕ) → List Local → (Option Loop → Part) → Part
generic_rest line base n width variables body = do
  activate generic_names
  begin ← new_label
  end ← new_label
  exit ← new_label
  jump_to line end
  place begin
  used (base + 6)
  turn line base variables (body (Some (record { exit = exit; before = n })))
  place end
  put line (Piece.Abc Op.TForLoop base 0 width)
  jump_to line begin
  place exit
  end_locals n

generic_tail : (line : ℕ) (texts : List Text) (body : Option Loop → Part) (step : FittingStep) → StepKeeps body step → (a0 : Ahead) (m : Maker) (g : Ghost) (mid b : Ahead) (s : State m g None) → m.free ≡ length m.active + 3 → m.ahead ≡ mid
    → Block step (more_locals (context m g) (generic_names ++ declared_locals texts a0)) mid b
    → 0 < length texts → (base n : ℕ) → base ≡ length m.active → n ≡ length m.active
    → Leads m g (generic_rest line base n (length texts) (declared_locals texts a0) body m) None b
generic_tail line texts body step f a0 m g mid b s free ahead x some base n e1 e2 =
    let xs = locals_of m.active in
    let ys = xs ++ generic_names in
    let w0 = length texts in
    let z = max (base + 6) (base + 3 + w0) in
    let begin = begin_of m g s ys in
    let end = end_of m g s ys in
    let exit = exit_of m g s ys in
    let gz = sized g z in
    let sz = sized_state z s in
    let act = activated generic_names m in
    let mh = activate generic_names m in
    let v3 = labels_made m gz sz ys in
    let h3 = labels_ghost m gz sz ys in
    let s3 = labels_state m gz sz ys in
    let r3 = (new_label (new_label (new_label mh).after).after).after in
    let hid : locals_of mh.active ≡ ys = ap locals_of act.grown ∙ map-append (λ one. one.local) m.active act.more ∙ ap (λ l. xs ++ l) act.are in
    let long : length xs ≡ base = length-map m.active (λ one. one.local) ∙ sym e1 in
    let wide : length mh.active ≡ base + 3 = (let a = ap length hid in let c = length-append xs generic_names in let d = length-map mh.active (λ one. one.local) in omega (arith, a, c, d, long)) in
    let e_is = end_is m gz sz ys in
    let x_is = exit_is m gz sz ys in
    let l_is = labels_count m gz sz ys in
    let asked_end = end_asks m gz sz ys in
    let s4 = jump_apart line end v3 r3 h3 s3 (record { items = refl; labels = refl; constants = refl; functions = refl; upvalues = refl; misfits = refl }) (omega (arith, e_is, l_is)) (subst (λ l. Below xs l) (sym asked_end) (generic_below xs)) (omega (arith, wide)) (omega (arith, wide, free, e1)) in
    let p4 = put line (Piece.Jump Op.Jmp 0 end) r3 in
    let h4 = next_ghost h3 (length v3.items) (locals_of r3.active) None in
    let os5 = exit ∷ end ∷ g.unplaced in
    let s5 = placed_state begin os5 s4 (below_is (h4.need begin) (locals_of mh.active) (hid ∙ sym (begin_asks m gz sz ys))) (begin_unplaced m gz sz ys) in
    let p5' = place begin p4 in
    let h5' = with_unplaced h4 os5 in
    let du = used_leads (base + 6) s5 in
    let p5 = used (base + 6) p5' in
    let pg = placed_onward begin p4 h4 os5 in
    let go4 : Onward v3 h3 p4 h4 = record { need = λ l y. refl; labels = omega arith; high = omega arith; count = omega arith; upvalues = refl; larger = omega arith; size = omega arith; vararg = refl } in
    let go35 : Onward v3 h3 p5 du.ghost = onward_then go4 (onward_then pg du.onward) in
    let go5 : Onward m gz p5 du.ghost = onward_then (labels_onward m gz sz ys) go35 in
    let lab = go35.labels in
    let lb : begin < length v3.labels = omega (arith, l_is) in
    let le : end < length v3.labels = omega (arith, l_is, e_is) in
    let lx : exit < length v3.labels = omega (arith, l_is, x_is) in
    let cut : take n mh.active ≡ m.active = ap (λ y. take y mh.active) e2 ∙ ap (take (length m.active)) act.grown ∙ take-append_seam m.active act.more in
    let none : any_captured (drop n mh.active) ≡ false = ap (λ l. any_captured (drop n l)) act.grown ∙ ap (λ y. any_captured (drop y (m.active ++ act.more))) e2 ∙ ap any_captured (drop-append_seam m.active act.more) ∙ none_hidden act.more generic_names act.are in
    let lar = go5.larger in
    let r = generic_turns line texts body step f a0 p5 du.ghost b du.state base n begin end exit g.unplaced xs (ap length du.active ∙ wide) (omega (arith, free, e1)) (rest_low n base (length mh.active) (length p5.active) (e2 ∙ sym e1) wide (ap length du.active)) (ap locals_of du.active ∙ hid) long
    (ap locals_of (ap (take n) du.active ∙ cut)) (ap (λ l. any_captured (drop n l)) du.active ∙ none) (rest_more begin _ _ lb lab) (rest_more end _ _ le lab) (rest_more exit _ _ lx lab)
    (go35.need begin lb ∙ begin_asks m gz sz ys) (go35.need end le ∙ asked_end) (go35.need exit lx ∙ exit_asks m gz sz ys)
    (λ k i. end_unplaced m gz sz ys k (subst (λ os. IsIn k os) du.unplaced i)) some (size_five base w0 g.size du.ghost.size lar) (size_last base w0 g.size du.ghost.size lar)
    (block_moved m p5 g du.ghost generic_names texts a0 mid b step (ap locals_of du.active ∙ hid) du.onward.upvalues du.onward.vararg (du.ahead ∙ ahead) x) in
    let high5 : base + 6 ≤ p5.high = used_high (base + 6) p5' in
    let high = r.high in
    let up = r.onward.high in
    sized_leads z (record { ghost = r.ghost; state = r.state; onward = onward_then go5 r.onward; unplaced = r.unplaced; active = r.active ∙ ap (take n) du.active ∙ cut; ahead = r.ahead }) (top_is (base + 6) (base + 3 + w0) p5.high _ high5 high up)

pub generic_leads : (line : ℕ) (names : List Text) (es : Expressions) → AllKeep es → (body : Option Loop → Part) (inner : FittingStep) → StepKeeps body inner → (m : Maker) (g : Ghost) (b : Ahead) → State m g None → Settled m → 0 < length names
    → Looped generic_names names (ExpressionsFit es) inner (context m g) m.ahead b → Leads m g (generic_part line names (all_coded es) body m) None b
generic_leads line names es f body inner q m g b s t some x =
    behind_declared names (λ variables n1. generic_rest line n1.free (active_count n1) (length names) variables body (adjust line (all_coded es) 3 n1)) m (λ n. Leads m g n None b) (
    let d0 = declared_leads names s in
    let m1 : Maker = record m { ahead = declared_ahead names m.ahead } in
    let a = adjust_leads line 3 es f m1 d0.ghost x.mid d0.state (carry (ExpressionsFit es) x.mid d0 x.values_fit) (omega arith) in
    let m4 = adjust line (all_coded es) 3 m1 in
    let d4 = leads_then d0 a.leads in
    let free = a.free in
    let same = ap length d4.active in
    let body_fits : Block inner (more_locals (context m g) (generic_names ++ declared_locals names m.ahead)) x.mid b = record { inner = x.inner; body_fits = x.body_fits } in
    leads_then d4 (generic_tail line names body inner q m.ahead m4 d4.ghost x.mid b d4.state (omega (arith, free, t, same)) d4.ahead
    (carry (λ c a b. Block inner (more_locals c (generic_names ++ declared_locals names m.ahead)) x.mid b) b d4 body_fits) some m.free (length m.active) (omega (arith, t, same)) (sym same)))
