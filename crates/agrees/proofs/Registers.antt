-- The registers of the running frame: those of its locals, and the ones above them, in which values are worked out.
use Rattle.std.proofs.Common.{◌≡◌, ◌≤◌, ◌<◌, ℕ, zero, suc, ◌+◌, true, List, [], ◌∷◌, map, length, Some, None, refl, sym, ap, ◌∙◌, arith, option_map, length-append, ◌++◌}
use Rattle.std.specs.Prelude.{slice_get, slice_set, take, drop, if◌then◌else◌}
use Rattle.std.proofs.lemmas.Bool.Decides.{nat_tests}
use Rattle.opcode.specs.declared.op.Op.{Op}
use Rattle.proto.specs.Chunk.{own}
use Rattle.proto.specs.declared.parts.Constant.{Constant}
use Rattle.lua_model.specs.Datum.{Datum}
use Rattle.lua_model.specs.Store.{Outside}
use Rattle.source_meaning.specs.State.{State as SourceState}
use Rattle.rules.specs.State.{State, Goes as Going_on, need, check, set, set_all, span, has_registers, value_of}
use Rattle.rules.specs.Run.{Going, step, after}
use Rattle.scheme_stands.specs.Words.{Spot, ConstantWord}
use Rattle.agrees.proofs.Tasks.{Above}
use Rattle.agrees.proofs.Lists.{some_same, within, get_within, get_app_right, set_app_right, length_map, drop_get}
use Rattle.agrees.proofs.Words.{word_abx, sets}
use Rattle.agrees.proofs.Picture.{code_of, Setup, Act, Ghost, Site, raised, registers, slot_value, pic, at, waits, Ok}
use Rattle.agrees.proofs.PictureChanges.{fine_waiter}
use Rattle.agrees.proofs.Posts.{Row}

-- registers above the locals change
pub ok_high : (z : Setup) (s : SourceState) (g : Ghost) (x : Site) (high high1 : List Datum) → length high ≡ length high1 → Ok z s g (raised x high) → Ok z s g (raised x high1)
ok_high z s g x high high1 e ok = fine_waiter z (length s.cells) s.closures g (waits (raised x high) 0) (waits (raised x high1) 0) x.below refl e ok

-- a register above the locals is written
pub set_above : (cells : List Datum) (a : Act) (high : List Datum) (r k : ℕ) (v : Datum) → r ≡ length a.slots + k → slice_set (registers cells a high) r v ≡ registers cells a (slice_set high k v)
set_above cells a high r k v e = set_app_right (map (slot_value cells) a.slots) high r k v (let l = length_map (slot_value cells) a.slots in omega (arith, e, l))

pub high_get : (cells : List Datum) (a : Act) (high : List Datum) (r k : ℕ) → r ≡ length a.slots + k → slice_get (registers cells a high) r ≡ slice_get high k
high_get cells a high r k e = get_app_right (map (slot_value cells) a.slots) high r k (let l = length_map (slot_value cells) a.slots in omega (arith, e, l))

-- all registers above the locals
pub all_above : (z : Setup) (s : SourceState) (g : Ghost) (x : Site) → Ok z s g x → Above x 0 (length x.a.active)
all_above z s g x ok = record { is = (let m = ok.acts.0.as_many in omega (arith, m)); within = (let r = ok.acts.1 in let m = ok.acts.0.as_many in omega (arith, r, m)) }

pub set_same : {A : Type 0} (xs : List A) (i : ℕ) (v : A) → slice_get xs i ≡ Some v → slice_set xs i v ≡ xs
set_same [] i v e = refl
set_same (x ∷ xs) zero v e = ap (λ y. y ∷ xs) (sym (some_same x v e))
set_same (x ∷ xs) (suc i) v e = ap (λ r. x ∷ r) (set_same xs i v e)

-- where n registers are
pub has_rows : (m : State) (a n : ℕ) → a + n ≤ length m.top.registers → has_registers m a n ≡ true
has_rows m a zero l = refl
has_rows m a (suc n) l = grind (arith, nat_tests)

-- a row of registers as a list
take_row : (high vs : List Datum) (k : ℕ) → Row high k vs → take (length vs) (drop k high) ≡ vs
take_row high [] k h = refl
take_row high (v ∷ vs) k h = ap (take (suc (length vs))) (drop_get high k v h.0) ∙ ap (λ l. v ∷ l) (take_row high vs (suc k) h.1)

pub row_within : (high vs : List Datum) (k : ℕ) → k ≤ length high → Row high k vs → k + length vs ≤ length high
row_within high [] k l h = omega arith
row_within high (v ∷ vs) k l h = let w = within high k v h.0 in let r = row_within high vs (suc k) w h.1 in omega (arith, r)

pub row_keep : (high high1 vs : List Datum) (k n : ℕ) → k + length vs ≤ n → ((i : ℕ) → i < n → slice_get high1 i ≡ slice_get high i) → Row high k vs → Row high1 k vs
row_keep high high1 [] k n l old h = tt
row_keep high high1 (v ∷ vs) k n l old h = (old k (omega arith) ∙ h.0, row_keep high high1 vs (suc k) n (omega arith) old h.1)

drop_slots : {A : Type 0} (xs ys : List A) (n k : ℕ) → n ≡ length xs + k → drop n (xs ++ ys) ≡ drop k ys
drop_slots [] ys n k e = ap (λ i. drop i ys) (let q : n ≡ k = omega arith in q)
drop_slots (x ∷ xs) ys zero k e = absurd (omega arith)
drop_slots (x ∷ xs) ys (suc n) k e = drop_slots xs ys n k (omega arith)

pub span_row : (cells : List Datum) (a : Act) (high vs : List Datum) (r k : ℕ) (m : State) → m.top.registers ≡ registers cells a high → r ≡ length a.slots + k → k ≤ length high → Row high k vs → span m r (length vs) ≡ Some vs
span_row cells a high vs r k m em e l h =
    let w = row_within high vs k l h in
    let size : length m.top.registers ≡ length a.slots + length high = ap length em ∙ length-append (map (slot_value cells) a.slots) high ∙ ap (λ n. n + length high) (length_map (slot_value cells) a.slots) in
    ap (λ b. if b then Some (take (length vs) (drop r m.top.registers)) else None) (has_rows m r (length vs) (omega (arith, size, e, w)))
    ∙ ap (λ rs. Some (take (length vs) (drop r rs))) em
    ∙ ap (λ l1. Some (take (length vs) l1)) (drop_slots (map (slot_value cells) a.slots) high r k (let n = length_map (slot_value cells) a.slots in omega (arith, e, n)))
    ∙ ap Some (take_row high vs k h)

-- a constant is loaded to a register above the locals
pub loads : (s : SourceState) (o : Outside) (g : Ghost) (x : Site) (a k : ℕ) (c : Constant) (old : Datum) (p q : Spot) → a ≡ length x.a.slots + k → slice_get x.high k ≡ Some old → ConstantWord (code_of x.a) Op.LoadK a c p q → step (at s o g x p.pc) ≡ Going (at s o g (raised x (slice_set x.high k (value_of c))) q.pc)
loads s o g x a k c old p q e there w =
    let m0 : State = at s o g x p.pc in
    let m1 : State = pic s o g x (suc p.pc) (registers s.cells x.a x.high) None in
    word_abx x.a Op.LoadK a w.number p q m0 w.word refl refl
    ∙ ap (λ r. after m0 (need (option_map value_of r) (λ v. set m1 a v))) w.is
    ∙ ap (after m0) (sets m1 a (value_of c) old (high_get s.cells x.a x.high a k e ∙ there))
    ∙ ap (λ rs. Going (pic s o g x (suc p.pc) rs None)) (set_above s.cells x.a x.high a k (value_of c) e)
    ∙ ap (λ pc. Going (at s o g (raised x (slice_set x.high k (value_of c))) pc)) (sym w.word.next)

module _ (z : Setup) where
  pub size_of : (x : Site) (s : SourceState) (g : Ghost) (high : List Datum) → Ok z s g (raised x high) → length (registers s.cells x.a high) ≡ (own x.a.chunk).registers
  size_of x s g high ok = length-append (map (slot_value s.cells) x.a.slots) high ∙ ap (λ n. n + length high) (length_map (slot_value s.cells) x.a.slots) ∙ ok.acts.1

  pub room_for : (s : SourceState) (g : Ghost) (x : Site) (r : ℕ) → Ok z s g x → r < (own x.a.chunk).registers → (old : Datum) × (slice_get (registers s.cells x.a x.high) r ≡ Some old)
  room_for s g x r ok l =
      let size = length-append (map (slot_value s.cells) x.a.slots) x.high in
      let n = length_map (slot_value s.cells) x.a.slots in
      let k = ok.acts.1 in
      get_within (registers s.cells x.a x.high) r (omega (arith, size, n, k, l))

  pub set_word : (s : SourceState) (o : Outside) (g : Ghost) (x : Site) (r pc : ℕ) (v : Datum) → Ok z s g x → r < (own x.a.chunk).registers → set (at s o g x pc) r v ≡ Going_on (pic s o g x pc (slice_set (registers s.cells x.a x.high) r v) None)
  set_word s o g x r pc v ok l = let old = room_for s g x r ok l in sets (at s o g x pc) r v old.0 old.1

  -- one value to the register
  pub set_one : (s : SourceState) (o : Outside) (g : Ghost) (x : Site) (r pc : ℕ) (v : Datum) → Ok z s g x → r < (own x.a.chunk).registers → set_all (at s o g x pc) r (v ∷ []) ≡ Going_on (pic s o g x pc (slice_set (registers s.cells x.a x.high) r v) None)
  set_one s o g x r pc v ok l =
      let old = room_for s g x r ok l in
      let i = within (registers s.cells x.a x.high) r old.0 old.1 in
      ap (λ b. check b (Going_on (pic s o g x pc (slice_set (registers s.cells x.a x.high) r v) None))) (has_rows (at s o g x pc) r 1 (omega (arith, i)))
