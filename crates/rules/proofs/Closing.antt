-- Cells that are closed or added, and frames that are left, in the state of a sound chunk's run.
use Rattle.std.proofs.Common.{zero, ◌≡◌, inl, inr, ℕ, suc, ◌<◌, ◌≤◌, Bool, true, false, cond, ◌&&◌, List, [], ◌∷◌, map, length, get_or, None, Some, refl, sym, ap, ◌∙◌, true≢false, arith, nat_le, eq-eqb, leb-false}
use Rattle.std.specs.Prelude.{Option, slice_get, option_map, nat_eq}
use Rattle.std.proofs.lemmas.List.{length-map}
use Rattle.std.proofs.lemmas.Option.{slice_get-map}
use Rattle.proto.specs.Chunk.{Chunk, own}
use Rattle.lua_model.specs.Datum.{Datum, nil}
use Rattle.rules.specs.Notes.{Notes, Registers}
use Rattle.rules.specs.State.{Landing, into, test, pairs, fixed, open_at, turn, nowhere, Frame, Cell, Open, Closed, Closure, State}
use Rattle.rules.specs.Cells.{close_one, close_from}
use Rattle.rules.specs.Calls.{replace, tail_call, give_to, leave, land}
use Rattle.rules.proofs.Lists.{none_some, clash, and_true, length-adjusted}
use Rattle.rules.proofs.Invariant.{IsOpen, Arrival, Branches, Awaits, AreCells, AreAwaiting, IsClosure, HasRegister, InRange, Base, BaseOf, Fine}
use Rattle.rules.proofs.Starting.{known_of, has_frame}
use Rattle.rules.proofs.Landing.{land_fine, call_by_fine, push_fine, begin_fine}

-- ---- fewer open cells

abbrev pub Fewer : List Cell → List Cell → ℕ → Type 0
Fewer cells after k = (r : ℕ) → IsOpen after k r → IsOpen cells k r

pub arrival_cells : (f : Chunk) (notes : Notes) (cells after : List Cell) (k : ℕ) (registers : List Datum) (pc : ℕ) (written : Registers) (left : Option ℕ) → Fewer cells after k → Arrival f notes cells k registers pc written left → Arrival f notes after k registers pc written left
arrival_cells f notes cells after k registers pc written left fewer a = record {
  place = a.place;
  note = a.note;
  noted = a.noted;
  holds = record {
    captured = λ r is. a.holds.captured r (fewer r is);
    numbers = a.holds.numbers;
    alone = λ x r l low high is. a.holds.alone x r l low high (fewer r is);
  };
  spared = a.spared;
  met = a.met;
}

branches_cells : (f : Chunk) (notes : Notes) (cells after : List Cell) (k : ℕ) (registers : List Datum) (pc : ℕ) (written : Registers) → Fewer cells after k → Branches f notes cells k registers pc written → Branches f notes after k registers pc written
branches_cells f notes cells after k registers pc written fewer ways = record {
  s = ways.s;
  jmp = ways.jmp;
  t = ways.t;
  goes = ways.goes;
  yes = arrival_cells f notes cells after k registers ways.t written None fewer ways.yes;
  skips = arrival_cells f notes cells after k registers (suc pc) written None fewer ways.skips;
}

pub awaits_cells : (f : Chunk) (notes : Notes) (cells after : List Cell) (k : ℕ) (registers : List Datum) (pc : ℕ) → Fewer cells after k → (landing : Landing) → Awaits f notes cells k registers pc landing → Awaits f notes after k registers pc landing
awaits_cells f notes cells after k registers pc fewer (into a) is = (is.0, arrival_cells f notes cells after k registers pc _ None fewer is.1)
awaits_cells f notes cells after k registers pc fewer (test a negated) is = branches_cells f notes cells after k registers pc _ fewer is
awaits_cells f notes cells after k registers pc fewer (pairs a first n) is = (is.0, is.1, arrival_cells f notes cells after k registers pc _ None fewer is.2)
awaits_cells f notes cells after k registers pc fewer (fixed a n) is = (is.0, arrival_cells f notes cells after k registers pc _ None fewer is.1)
awaits_cells f notes cells after k registers pc fewer (open_at a) is = (is.0, arrival_cells f notes cells after k registers pc _ (Some a) fewer is.1)
awaits_cells f notes cells after k registers pc fewer (turn a n) is = (is.0, is.1, branches_cells f notes cells after k registers pc _ fewer is.2)
awaits_cells f notes cells after k registers pc fewer nowhere is = arrival_cells f notes cells after k registers pc _ None fewer is

pub are_cells : (cells after : List Cell) → length cells ≤ length after → (named : List ℕ) → AreCells cells named → AreCells after named
are_cells cells after more named are u c e = let low = are u c e in omega arith

pub awaiting_cells : (cells after : List Cell) → length cells ≤ length after → (below : List Frame) → ((k : ℕ) → k < length below → Fewer cells after k) → (landing : Landing) → AreAwaiting cells landing below → AreAwaiting after landing below
awaiting_cells cells after more [] fewer landing are = tt
awaiting_cells cells after more (x ∷ below) fewer landing are =
    let is = are.0 in (
      record {
        known = is.known;
        size = is.size;
        upvalues = is.upvalues;
        named = are_cells cells after more x.cells is.named;
        awaits = awaits_cells x.function is.known.notes cells after (length below) x.registers x.pc (fewer (length below) (omega arith)) landing is.awaits;
      },
      awaiting_cells cells after more below (λ k low. fewer k (omega arith)) x.landing are.1,
    )

abbrev pub base_cells : (f : Chunk) (ups : List ℕ) (registers : List Datum) (landing : Landing) (below : List Frame) (cells after : List Cell) (closures : List Closure) → Base f ups registers landing below cells closures → length cells ≤ length after → ((k : ℕ) → k < length below → Fewer cells after k) → ((k r : ℕ) → IsOpen after k r → InRange registers below k r) → Base f ups registers landing below after closures
base_cells f ups registers landing below cells after closures base more fewer opens = record {
  known = base.known;
  size = base.size;
  counted = base.counted;
  named = are_cells cells after more ups base.named;
  closures_are = λ n c e. let is = base.closures_are n c e in record { sound = is.sound; upvalues = is.upvalues; named = are_cells cells after more c.cells is.named };
  opens = opens;
  waiting = awaiting_cells cells after more below fewer landing base.waiting;
}

-- ---- cells that are closed

pub closed_open : {A : Type 0} (v : Datum) (k r : ℕ) → Some (Closed v) ≡ Some (Open k r) → A
closed_open {A} v k r e =
    absurd (true≢false (ap (λ o. elim o [ None ↦ true | Some c ↦ elim c [ Closed w ↦ true | Open x y ↦ false ] ]) e))

pub open_one : (g s k r : ℕ) → Some (Open g s) ≡ Some (Open k r) → (g ≡ k) × (s ≡ r)
open_one g s k r e =
    (ap (λ o. elim o [ None ↦ g | Some c ↦ elim c [ Closed w ↦ g | Open x y ↦ x ] ]) e, ap (λ o. elim o [ None ↦ s | Some c ↦ elim c [ Closed w ↦ s | Open x y ↦ y ] ]) e)

-- what is open after a closing was open, and is of another frame or below the register
close_cases : (frame from : ℕ) (registers : List Datum) (o : Option Cell) (k r : ℕ) → option_map (close_one frame from registers) o ≡ Some (Open k r) → (o ≡ Some (Open k r)) × (k ≡ frame → r < from)
close_cases frame from registers None k r e = none_some (Open k r) e
close_cases frame from registers (Some (Closed v)) k r e = closed_open v k r e
close_cases frame from registers (Some (Open g s)) k r e = go (nat_eq g frame && nat_le from s) refl e
  where
    go : (b : Bool) → (nat_eq g frame && nat_le from s) ≡ b → Some (cond b (Closed (get_or registers s nil)) (Open g s)) ≡ Some (Open k r) → (Some (Open g s) ≡ Some (Open k r)) × (k ≡ frame → r < from)
    go true is h = closed_open _ k r h
    go false is h =
        (h, λ same. let one = open_one g s k r h in below (nat_le from s) refl is (one.0 ∙ same) one.1)
      where
        below : (c : Bool) → nat_le from s ≡ c → (nat_eq g frame && nat_le from s) ≡ false → g ≡ frame → s ≡ r → r < from
        below true le both here eq = clash (and_true _ _ (eq-eqb g frame here) le) both
        below false le both here eq = let low : s < from = leb-false from s le in omega arith

pub closed_opens : (frame from : ℕ) (registers : List Datum) (cells : List Cell) (k r : ℕ) → IsOpen (map (close_one frame from registers) cells) k r → IsOpen cells k r × (k ≡ frame → r < from)
closed_opens frame from registers cells k r is =
    let both = close_cases frame from registers (slice_get cells is.0) k r (sym (slice_get-map (close_one frame from registers) cells is.0) ∙ is.1) in
    ((is.0, both.0), both.1)

abbrev pub base_closed : (m : State) (from : ℕ) → BaseOf m → BaseOf (close_from m from)
base_closed m from base =
    base_cells m.top.function m.top.cells m.top.registers m.top.landing m.below m.cells (map (close_one (length m.below) from m.top.registers) m.cells) m.closures base (let len = length-map m.cells (close_one (length m.below) from m.top.registers) in omega arith) (λ k low r is. (closed_opens (length m.below) from m.top.registers m.cells k r is).0) (λ k r is. base.opens k r (closed_opens (length m.below) from m.top.registers m.cells k r is).0)

-- after all cells of the running frame were closed, open ones are those of frames below
pub opens_below : (m : State) → BaseOf m → (k r : ℕ) → IsOpen (close_from m 0).cells k r → HasRegister m.below k r
opens_below m base k r is =
    let was = closed_opens (length m.below) 0 m.top.registers m.cells k r is in
    elim (base.opens k r was.0) [
      | inl here ↦ absurd (let low = was.1 here.0 in omega arith)
      | inr below ↦ below
    ]

-- the frame below that awaits
abbrev pub base_awaiting : (x : Frame) (below : List Frame) (m : State) (landing : Landing) → AreAwaiting m.cells landing (x ∷ below) → ((n : ℕ) (c : Closure) → slice_get m.closures n ≡ Some c → IsClosure m.cells c) → ((k r : ℕ) → IsOpen m.cells k r → HasRegister (x ∷ below) k r) → BaseOf (record m { top = x; below = below })
base_awaiting x below m landing are closures opens = record {
  known = are.0.known;
  size = are.0.size;
  counted = are.0.upvalues;
  named = are.0.named;
  closures_are = closures;
  opens = opens;
  waiting = are.1;
}

pub give_fine : (below : List Frame) (m : State) (landing : Landing) (vs : List Datum) → AreAwaiting m.cells landing below → ((n : ℕ) (c : Closure) → slice_get m.closures n ≡ Some c → IsClosure m.cells c) → ((k r : ℕ) → IsOpen m.cells k r → HasRegister below k r) → Fine (give_to below m landing vs)
give_fine [] m landing vs are closures opens = tt
give_fine (x ∷ below) m landing vs are closures opens =
    let is = are.0 in
    land_fine landing (record m { top = x; below = below }) (record {
      known = is.known;
      size = is.size;
      counted = is.upvalues;
      named = is.named;
      closures_are = closures;
      opens = opens;
      waiting = are.1;
    }) is.awaits vs

-- the running frame is left
pub leave_fine : (m : State) → BaseOf m → (vs : List Datum) → Fine (leave m vs)
leave_fine m base vs =
    let closed : BaseOf (close_from m 0) = base_closed m 0 base in
    give_fine m.below (close_from m 0) m.top.landing _ closed.waiting closed.closures_are (opens_below m base)

-- a Lua function takes the running frame's place
pub replace_fine : (a : ℕ) (m : State) (base : BaseOf m) → Awaits m.top.function base.known.notes m.cells (length m.below) m.top.registers m.top.pc (open_at a) → (p : ℕ) (c : Closure) → IsClosure m.cells c → (args : List Datum) → Fine (replace a p m c args)
replace_fine a m base awaits (suc p) c is args = push_fine m base (open_at a) (land (open_at a)) (suc p) (λ vs. land_fine (open_at a) m base awaits vs) awaits c is args
replace_fine a m base awaits zero c is args =
    let closed : BaseOf (close_from m 0) = base_closed m 0 base in
    let below : (k r : ℕ) → IsOpen (close_from m 0).cells k r → HasRegister m.below k r = opens_below m base in
    begin_fine (close_from m 0) c args m.top.landing m.top.protections (record {
      known = known_of c.function false is.sound;
      size = length-adjusted (own c.function).registers _;
      counted = is.upvalues;
      named = are_cells m.cells (close_from m 0).cells (let len = length-map m.cells (close_one (length m.below) 0 m.top.registers) in omega arith) c.cells is.named;
      closures_are = closed.closures_are;
      opens = λ k r has. inr (below k r has);
      waiting = closed.waiting;
    }) (λ r has. let low = has_frame m.below (length m.below) r (below (length m.below) r has) in omega arith)

pub tail_call_fine : (a : ℕ) (m : State) (base : BaseOf m) → Awaits m.top.function base.known.notes m.cells (length m.below) m.top.registers m.top.pc (open_at a) → (f : Datum) (args : List Datum) → Fine (tail_call a m f args)
tail_call_fine a m base awaits f args =
    call_by_fine m base (replace a) (land (open_at a)) (λ p n c e xs. replace_fine a m base awaits p c (base.closures_are n c e) xs) (λ store outside vs. land_fine (open_at a) (record m { store = store; outside = outside }) base awaits vs) f args
