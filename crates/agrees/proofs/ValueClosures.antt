-- A function as a value: CLOSURE, whose further words take the machine's cells of what it captures.
use Rattle.std.proofs.Common.{◌≡◌, ◌≢◌, ◌≤◌, ◌<◌, ℕ, zero, suc, ◌+◌, Bool, true, false, ◌⊎◌, inl, inr, List, [], ◌∷◌, ◌++◌, map, length, Option, Some, None, refl, sym, ap, ◌∙◌, subst, arith, nat_eq, ◌&&◌}
use Rattle.std.specs.Prelude.{slice_get, slice_set, take, drop, if◌then◌else◌}
use Rattle.opcode.specs.declared.op.Op.{Op}
use Rattle.opcode.specs.Reading.{instr_of}
use Rattle.proto.specs.Chunk.{own}
use Rattle.lua_num.specs.Bytes.{Text}
use Rattle.lua_tree.specs.Scoping.{Use}
use Rattle.lua_tree.specs.Syntax.{FunctionBody, function_body, function_expression, Statements}
use Rattle.scheme.specs.Making.{Where, in_register, in_upvalue, in_globals, where_is, head_or}
use Rattle.scheme.specs.Functions.{further_word, without_sources}
use Rattle.scheme.specs.declared.making.Piece.{Piece}
use Rattle.lua_model.specs.Datum.{Datum, closure, first_of}
use Rattle.lua_model.specs.Store.{Outside}
use Rattle.source_meaning.specs.State.{State as SourceState, Closure as Function, new_closure}
use Rattle.source_meaning.specs.Programs.{done}
use Rattle.source_meaning.specs.Meaning.{evaluate}
use Rattle.rules.specs.State.{State, Cell, Open, Closed, Closure, Effect, need, check, set, at_pc}
use Rattle.rules.specs.Cells.{is_open_at, find_open, capture, capture_as, take_cell_by, take_cells}
use Rattle.rules.specs.Step.{add_closure}
use Rattle.rules.specs.Run.{Going, step, after}
use Rattle.scheme_stands.specs.Words.{is_marked, Spot, number_at, instr_by}
use Rattle.scheme_stands.specs.Functions.{FurtherWordAt, FurtherAt, ClosureAt, FunctionAt}
use Rattle.scheme_stands.specs.Relation.{FunctionOf, related, StatementsAt}
use Rattle.agrees.proofs.Cells.{carry_get}
use Rattle.agrees.proofs.Names.{TakesCells, TakesCell, captures_all}
use Rattle.agrees.proofs.Registers.{set_word}
use Rattle.agrees.proofs.Tasks.{scope}
use Rattle.agrees.proofs.Posts.{keeps_self, ValuePost, fail_of}
use Rattle.agrees.proofs.Lists.{nat_cases, eq_yes, some_same, get_map, get_app, get_snoc, get_last, length_map, map_append, drop_get}
use Rattle.agrees.proofs.Accounts.{Now, Self, Goes, goes_weaken, goes_word, goes_done}
use Rattle.agrees.proofs.Sizes.{inner, inner_function}
use Rattle.agrees.proofs.Words.{word_abx}
use Rattle.agrees.proofs.Picture.{code_of, Setup, of_cell, Home, At, Off, Waiter, Ghost, Site, registers, cell_in_home, cell_at, read, frame_of, pic, at, waits, SlotAt, Carry, ActsFine, ClosureFine, ClosuresFine, Fine, Ok}
use Rattle.agrees.proofs.PictureChanges.{slot_below, same_home, same_cell, top_register}
use Rattle.agrees.proofs.NamesFound.{law_there}

-- ## more machine's cells

abbrev pub Extends : List ℕ → List ℕ → Type 0
Extends owner owner1 = (k c : ℕ) → slice_get owner k ≡ Some c → slice_get owner1 k ≡ Some c

pub carry_more : (owner owner1 ks cs : List ℕ) → Extends owner owner1 → Carry owner ks cs → Carry owner1 ks cs
carry_more owner owner1 [] [] x h = tt
carry_more owner owner1 [] (c ∷ cs) x h = h
carry_more owner owner1 (k ∷ ks) [] x h = h
carry_more owner owner1 (k ∷ ks) (c ∷ cs) x h = (x k c h.0, carry_more owner owner1 ks cs x h.1)

pub acts_more : (owner owner1 : List ℕ) (gs : List Waiter) → Extends owner owner1 → ActsFine owner gs → ActsFine owner1 gs
acts_more owner owner1 [] x h = tt
acts_more owner owner1 (g ∷ gs) x h =
    (record { carry = carry_more owner owner1 g.act.machine_cells g.act.source_cells x h.0.carry; known = h.0.known; owned = h.0.owned; as_many = h.0.as_many; apart = h.0.apart; limits = h.0.limits }, h.1, acts_more owner owner1 gs x h.2)

pub closures_more : (bound : ℕ) (owner owner1 : List ℕ) (ms : List Closure) (cs : List Function) → Extends owner owner1 → ClosuresFine bound owner ms cs → ClosuresFine bound owner1 ms cs
closures_more bound owner owner1 [] [] x h = tt
closures_more bound owner owner1 [] (c ∷ cs) x h = h
closures_more bound owner owner1 (m ∷ ms) [] x h = h
closures_more bound owner owner1 (m ∷ ms) (c ∷ cs) x h =
    (record { source_cells = h.0.source_cells; carry = carry_more owner owner1 m.cells h.0.source_cells x h.0.carry; names = h.0.names; known = h.0.known; before = h.0.before; behind = h.0.behind; stands = h.0.stands; small = h.0.small }, closures_more bound owner owner1 ms cs x h.1)

pub closures_length : (bound : ℕ) (owner : List ℕ) (ms : List Closure) (cs : List Function) → ClosuresFine bound owner ms cs → length ms ≡ length cs
closures_length bound owner [] [] h = refl
closures_length bound owner [] (c ∷ cs) h = absurd h
closures_length bound owner (m ∷ ms) [] h = absurd h
closures_length bound owner (m ∷ ms) (c ∷ cs) h = ap suc (closures_length bound owner ms cs h.1)

pub closures_snoc : (bound : ℕ) (owner : List ℕ) (ms : List Closure) (cs : List Function) (m : Closure) (c : Function) → ClosuresFine bound owner ms cs → ClosureFine bound owner m c → ClosuresFine bound owner (ms ++ m ∷ []) (cs ++ c ∷ [])
closures_snoc bound owner [] [] m c h y = (y, tt)
closures_snoc bound owner [] (d ∷ cs) m c h y = absurd h
closures_snoc bound owner (n ∷ ms) [] m c h y = absurd h
closures_snoc bound owner (n ∷ ms) (d ∷ cs) m c h y = (h.0, closures_snoc bound owner ms cs m c h.1 y)

abbrev pub with_owner : Ghost → List ℕ → Ghost
with_owner g owner = record { home = g.home; owner = owner; closures = g.closures }

-- a marked local of some frame gets a machine's cell
pub fine_capture : (z : Setup) (n : ℕ) (fs : List Function) (g : Ghost) (gs : List Waiter) (c f r : ℕ) → c < n → g.home c ≡ At f r true → ((k : ℕ) → slice_get g.owner k ≡ Some c → ⊥) → Fine z n fs g gs → Fine z n fs (with_owner g (g.owner ++ c ∷ [])) gs
fine_capture z n fs g gs c f r l h none fine = record {
  loc = fine.loc;
  back = fine.back;
  owned = λ k d e. owned1 k d (get_snoc g.owner c k d e);
  marked = λ k d f1 r1 b e q. marked1 k d f1 r1 b q (get_snoc g.owner c k d e);
  once = λ k j d e e1. once1 k j d (get_snoc g.owner c k d e) (get_snoc g.owner c j d e1);
  acts = acts_more g.owner (g.owner ++ c ∷ []) gs (λ k d e. get_app g.owner (c ∷ []) k d e) fine.acts;
  closures = closures_more z.bound g.owner (g.owner ++ c ∷ []) g.closures fs (λ k d e. get_app g.owner (c ∷ []) k d e) fine.closures;
  deep = fine.deep;
}
  where
    owned1 : (k d : ℕ) → (slice_get g.owner k ≡ Some d) ⊎ ((k ≡ length g.owner) × (d ≡ c)) → d < n
    owned1 k d (inl e) = fine.owned k d e
    owned1 k d (inr e) = let q = e.1 in omega (arith, q, l)

    marked1 : (k d f1 r1 : ℕ) (b : Bool) → g.home d ≡ At f1 r1 b → (slice_get g.owner k ≡ Some d) ⊎ ((k ≡ length g.owner) × (d ≡ c)) → b ≡ true
    marked1 k d f1 r1 b q (inl e) = fine.marked k d f1 r1 b e q
    marked1 k d f1 r1 b q (inr e) = (same_home f1 r1 f r b true (sym q ∙ ap g.home e.1 ∙ h)).2

    once1 : (k j d : ℕ) → (slice_get g.owner k ≡ Some d) ⊎ ((k ≡ length g.owner) × (d ≡ c)) → (slice_get g.owner j ≡ Some d) ⊎ ((j ≡ length g.owner) × (d ≡ c)) → k ≡ j
    once1 k j d (inl e) (inl e1) = fine.once k j d e e1
    once1 k j d (inl e) (inr e1) = absurd (none k (e ∙ ap Some e1.1))
    once1 k j d (inr e) (inl e1) = absurd (none j (e1 ∙ ap Some e.1))
    once1 k j d (inr e) (inr e1) = e.0 ∙ sym e1.0

-- ## the search for an open cell

open_yes : (f r : ℕ) (c : Cell) → is_open_at f r c ≡ true → c ≡ Open f r
open_yes f r (Closed v) e = cc
open_yes f r (Open g s) e = go (nat_cases g f) (nat_cases s r)
  where
    go : ((nat_eq g f ≡ true) × (g ≡ f)) ⊎ ((nat_eq g f ≡ false) × (g ≢ f)) → ((nat_eq s r ≡ true) × (s ≡ r)) ⊎ ((nat_eq s r ≡ false) × (s ≢ r)) → Open g s ≡ Open f r
    go (inl a) (inl b) = ap (λ i. Open i s) a.1 ∙ ap (Open f) b.1
    go (inl a) (inr b) = let q : false ≡ true = sym (ap (λ t. t && nat_eq s r) a.0 ∙ b.0) ∙ e in cc
    go (inr a) y = let q : false ≡ true = sym (ap (λ t. t && nat_eq s r) a.0) ∙ e in cc

open_self : (f r : ℕ) → is_open_at f r (Open f r) ≡ true
open_self f r = ap (λ t. t && nat_eq r r) (eq_yes f f refl) ∙ eq_yes r r refl

find_some : (f r n : ℕ) (cells : List Cell) (k : ℕ) → find_open f r n cells ≡ Some k → (j : ℕ) × (k ≡ n + j) × (slice_get cells j ≡ Some (Open f r))
find_some f r n [] k e = cc
find_some f r n (c ∷ cs) k e = go (find_some f r (suc n) cs k) (is_open_at f r c) refl
  where
    go : (find_open f r (suc n) cs ≡ Some k → (j : ℕ) × (k ≡ suc n + j) × (slice_get cs j ≡ Some (Open f r))) → (t : Bool) → is_open_at f r c ≡ t → (j : ℕ) × (k ≡ n + j) × (slice_get (c ∷ cs) j ≡ Some (Open f r))
    go ih true q =
        let h : Some n ≡ Some k = sym (ap (λ t. if t then Some n else find_open f r (suc n) cs) q) ∙ e in
        (0, (let m = some_same n k h in omega (arith, m)), ap Some (open_yes f r c q))
    go ih false q =
        let h : find_open f r (suc n) cs ≡ Some k = sym (ap (λ t. if t then Some n else find_open f r (suc n) cs) q) ∙ e in
        let j = ih h in
        (suc j.0, (let m = j.1 in omega (arith, m)), j.2)

find_none : (f r n : ℕ) (cells : List Cell) → find_open f r n cells ≡ None → (k : ℕ) → slice_get cells k ≡ Some (Open f r) → ⊥
find_none f r n [] e k h = cc
find_none f r n (c ∷ cs) e k h = go (find_none f r (suc n) cs) (is_open_at f r c) refl k h
  where
    go : (find_open f r (suc n) cs ≡ None → (j : ℕ) → slice_get cs j ≡ Some (Open f r) → ⊥) → (t : Bool) → is_open_at f r c ≡ t → (k : ℕ) → slice_get (c ∷ cs) k ≡ Some (Open f r) → ⊥
    go ih true q k h = let y : Some n ≡ None = sym (ap (λ t. if t then Some n else find_open f r (suc n) cs) q) ∙ e in cc
    go ih false q zero h = let y : true ≡ false = sym (ap (is_open_at f r) (some_same c (Open f r) h) ∙ open_self f r) ∙ q in cc
    go ih false q (suc k) h = ih (sym (ap (λ t. if t then Some n else find_open f r (suc n) cs) q) ∙ e) k h

get_map_back : {A B : Type 0} (h : A → B) (xs : List A) (k : ℕ) (y : B) → slice_get (map h xs) k ≡ Some y → (x : A) × (slice_get xs k ≡ Some x) × (h x ≡ y)
get_map_back h [] k y e = cc
get_map_back h (x ∷ xs) zero y e = (x, refl, some_same (h x) y e)
get_map_back h (x ∷ xs) (suc k) y e = get_map_back h xs k y e

open_home : (v : Datum) (h : Home) (f r : ℕ) → cell_in_home v h ≡ Open f r → (b : Bool) × (h ≡ At f r b)
open_home v Off f r e = cc
open_home v (At g s b) f r e = let p : g ≡ f = cc in let q : s ≡ r = cc in (b, ap (λ i. At i s b) p ∙ ap (λ i. At f i b) q)

-- ## what is captured

-- the number of a further word, and that its fields are in range
abbrev further_number : Where → ℕ
further_number w = number_at 0 (further_word w)

abbrev FitsWord : Where → Type 0
FitsWord w = instr_of (further_number w) ≡ Some (instr_by 0 (further_word w))

abbrev FitWords : Site → List Use → Type 0
FitWords x [] = Unit {0}
FitWords x (one ∷ uses) = FitsWord (where_is one x.a.active) × FitWords x uses

record FurtherWords (x : Site) (uses : List Use) (mid q : Spot) : Type 0 where
  pub words : take (length uses) (drop mid.pc (own x.a.chunk).code) ≡ map (λ u. further_number (where_is u x.a.active)) uses
  pub fits : FitWords x uses
  pub ends : q.pc ≡ mid.pc + length uses

further_words : (x : Site) (uses : List Use) (mid q : Spot) → FurtherAt (code_of x.a) x.a.active uses mid q → FurtherWords x uses mid q
further_words x [] mid q w = record { words = refl; fits = tt; ends = w.pc ∙ (let e : mid.pc ≡ mid.pc + 0 = omega arith in e) }
further_words x (one ∷ uses) mid q w =
    let y = by (where_is one x.a.active) w.first_at in
    let rest = further_words x uses w.mid q w.second_at in
    let n = w.first_at.next in
    record {
      words =
          ap (take (suc (length uses))) (drop_get (own x.a.chunk).code mid.pc (further_number (where_is one x.a.active)) y.0)
          ∙ ap (λ i. further_number (where_is one x.a.active) ∷ take (length uses) (drop i (own x.a.chunk).code)) (sym n)
          ∙ ap (λ l. further_number (where_is one x.a.active) ∷ l) rest.words;
      fits = (y.1, rest.fits);
      ends = (let e = rest.ends in omega (arith, e, n));
    }
  where
    by : (wh : Where) → FurtherWordAt (code_of x.a) (further_word wh) mid w.mid → (slice_get (own x.a.chunk).code mid.pc ≡ Some (further_number wh)) × FitsWord wh
    by (in_register r) t = (t.has, t.reads)
    by (in_upvalue i) t = (t.has, t.reads)
    by in_globals t = (t.has, t.reads)

-- ## one capture, and all of a closure's

module _ (z : Setup) (s : SourceState) (o : Outside) (x : Site) (pc : ℕ) where
  record Took (g : Ghost) (w : Where) (c : ℕ) : Type 0 where
    pub owner : List ℕ
    pub k : ℕ
    pub is : (next : State → ℕ → Effect) → take_cell_by (instr_by 0 (further_word w)).op (at s o g x pc) (instr_by 0 (further_word w)) next ≡ next (at s o (with_owner g owner) x pc) k
    pub got : slice_get owner k ≡ Some c
    pub more : Extends g.owner owner
    pub fine : Ok z s (with_owner g owner) x

  pub record TookAll (g : Ghost) (words : List ℕ) (cs : List ℕ) : Type 0 where
    pub owner : List ℕ
    pub ks : List ℕ
    pub is : (next : State → List ℕ → Effect) → take_cells (at s o g x pc) words next ≡ next (at s o (with_owner g owner) x pc) ks
    pub carry : Carry owner ks cs
    pub more : Extends g.owner owner
    pub fine : Ok z s (with_owner g owner) x

  take_local : (g : Ghost) (r c : ℕ) → Ok z s g x → slice_get x.a.slots r ≡ Some (of_cell c) → slice_get (map is_marked x.a.active) r ≡ Some true → Took g (in_register r) c
  take_local g r c ok slot marked = go (find_open (length (map (frame_of s.cells) x.below)) r 0 (map (cell_at s.cells g.home) g.owner)) refl
    where
      n : ℕ
      n = length (map (frame_of s.cells) x.below)

      place : (c < length s.cells) × (g.home c ≡ At (length x.below) r true)
      place = ok.loc (length x.below) r c true (inl (record { at_frame = refl; slot = slot; marked = marked }))

      its : cell_at s.cells g.home c ≡ Open (length (map (frame_of s.cells) x.below)) r
      its = ap (cell_in_home (read s.cells c)) place.1 ∙ ap (λ i. Open i r) (sym (length_map (frame_of s.cells) x.below))

      owner_of : (d f : ℕ) (b : Bool) → f ≡ length x.below → SlotAt f r d b (waits x 0 ∷ x.below) → d ≡ c
      owner_of d f b ef (inl h) = sym (same_cell c d (some_same (of_cell c) (of_cell d) (sym slot ∙ h.slot)))
      owner_of d f b ef (inr h) = let l = slot_below f r d b x.below h in absurd (omega (arith, l, ef))

      there : (next : State → ℕ → Effect) → take_cell_by Op.Move (at s o g x pc) (instr_by 0 (Piece.Abc Op.Move 0 r 0)) next ≡ capture_as (at s o g x pc) r (find_open (length (map (frame_of s.cells) x.below)) r 0 (map (cell_at s.cells g.home) g.owner)) next
      there next = ap (λ y. need y (λ v. capture (at s o g x pc) r next)) (top_register s.cells x.a x.high r (of_cell c) slot)

      go : (found : Option ℕ) → find_open (length (map (frame_of s.cells) x.below)) r 0 (map (cell_at s.cells g.home) g.owner) ≡ found → Took g (in_register r) c
      go (Some k) e =
          let j = find_some (length (map (frame_of s.cells) x.below)) r 0 (map (cell_at s.cells g.home) g.owner) k e in
          let y = get_map_back (cell_at s.cells g.home) g.owner j.0 (Open (length (map (frame_of s.cells) x.below)) r) j.2 in
          let h = open_home (read s.cells y.0) (g.home y.0) (length (map (frame_of s.cells) x.below)) r y.2 in
          let d = owner_of y.0 (length (map (frame_of s.cells) x.below)) h.0 (length_map (frame_of s.cells) x.below) (ok.back y.0 (length (map (frame_of s.cells) x.below)) r h.0 (ok.owned j.0 y.0 y.1) h.1) in
          record {
            owner = g.owner;
            k = k;
            is = λ next. there next ∙ ap (λ f. capture_as (at s o g x pc) r f next) e;
            got = ap (slice_get g.owner) (let q = j.1 in let q1 : k ≡ j.0 = omega (arith, q) in q1) ∙ y.1 ∙ ap Some d;
            more = λ i v q. q;
            fine = ok;
          }
      go None e = record {
        owner = g.owner ++ c ∷ [];
        k = length (map (cell_at s.cells g.home) g.owner);
        is = λ next.
            there next
            ∙ ap (λ f. capture_as (at s o g x pc) r f next) e
            ∙ ap (λ l. next (record (at s o g x pc) { cells = l }) (length (map (cell_at s.cells g.home) g.owner))) (ap (λ y. map (cell_at s.cells g.home) g.owner ++ y ∷ []) (sym its) ∙ sym (map_append (cell_at s.cells g.home) g.owner (c ∷ [])));
        got = get_last g.owner c _ (length_map (cell_at s.cells g.home) g.owner);
        more = λ i v q. get_app g.owner (c ∷ []) i v q;
        fine = fine_capture z (length s.cells) s.closures g (waits x 0 ∷ x.below) c (length x.below) r place.0 place.1 (λ k q. find_none (length (map (frame_of s.cells) x.below)) r 0 (map (cell_at s.cells g.home) g.owner) e k (get_map (cell_at s.cells g.home) g.owner k c q ∙ ap Some its)) ok;
      }

  take_one : (g : Ghost) (w : Where) (c : ℕ) → Ok z s g x → TakesCell x.a w c → Took g w c
  take_one g (in_register r) c ok h = take_local g r c ok h.0 h.1
  take_one g (in_upvalue i) c ok h =
      let y = carry_get g.owner x.a.machine_cells x.a.source_cells i c ok.acts.0.carry h in
      record {
        owner = g.owner;
        k = y.0;
        is = λ next. ap (λ u. need u (λ d. next (at s o g x pc) d)) y.1;
        got = y.2;
        more = λ j v q. q;
        fine = ok;
      }
  take_one g in_globals c ok h = absurd h

  pub take_all : (uses : List Use) (cs : List ℕ) (g : Ghost) → Ok z s g x → TakesCells x.a uses cs → FitWords x uses → TookAll g (map (λ u. further_number (where_is u x.a.active)) uses) cs
  take_all [] [] g ok h f = record { owner = g.owner; ks = []; is = λ next. refl; carry = tt; more = λ j v q. q; fine = ok }
  take_all [] (c ∷ cs) g ok h f = absurd h
  take_all (one ∷ uses) [] g ok h f = absurd h
  take_all (one ∷ uses) (c ∷ cs) g ok h f =
      let t = take_one g (where_is one x.a.active) c ok h.0 in
      let y = take_all uses cs (with_owner g t.owner) t.fine h.1 f.1 in
      record {
        owner = y.owner;
        ks = t.k ∷ y.ks;
        is = λ next.
            ap (λ i. need i (λ j. take_cell_by j.op (at s o g x pc) j (λ m1 d. take_cells m1 (map (λ u. further_number (where_is u x.a.active)) uses) (λ m2 ds. next m2 (d ∷ ds))))) f.0
            ∙ t.is (λ m1 d. take_cells m1 (map (λ u. further_number (where_is u x.a.active)) uses) (λ m2 ds. next m2 (d ∷ ds)))
            ∙ y.is (λ m2 ds. next m2 (t.k ∷ ds));
        carry = (y.more t.k c t.got, y.carry);
        more = λ j v q. y.more j v (t.more j v q);
        fine = y.fine;
      }

module _ (z : Setup) (self : Self) where
  -- CLOSURE, with its further words
  pub closure_word : (body : FunctionBody) (s : SourceState) (o : Outside) (g : Ghost) (x : Site) (free r : ℕ) (p q : Spot) → Ok z s g x → inner_function body ≤ z.bound → r < (own x.a.chunk).registers → (w : ClosureAt (code_of x.a) (FunctionOf body false) x.a.active free r p q) → (g1 : Ghost) × (step (at s o g x p.pc) ≡ Going (pic (new_closure (scope x) body s) o g1 x q.pc (slice_set (registers s.cells x.a x.high) r (closure (length s.closures))) None)) × Ok z (new_closure (scope x) body s) g1 x
  closure_word (function_body params vararg b first last) s o g x free r p q ok small lr w =
      let uses : List Use = head_or [] p.ahead.sources in
      let cf = captures_all g.owner x.a w.names uses ok.acts.0 w.captured in
      let fw = further_words x uses w.mid q w.further in
      let t = take_all z s o x (suc p.pc) uses cf.cells g ok cf.takes fw.fits in
      let words : List ℕ = map (λ u. further_number (where_is u x.a.active)) uses in
      let m0 : State = at s o g x p.pc in
      let m1 : State = at s o g x (suc p.pc) in
      let mc : Closure = record { function = w.chunk; cells = t.ks } in
      let fc : Function = record { params = params; vararg = vararg; block = b; sees = x.a.own ++ x.a.outer } in
      let s1 : SourceState = record s { closures = s.closures ++ fc ∷ [] } in
      let g1 : Ghost = record { home = g.home; owner = t.owner; closures = g.closures ++ mc ∷ [] } in
      let len : length g.closures ≡ length s.closures = closures_length z.bound t.owner g.closures s.closures t.fine.closures in
      let n_words : length words ≡ (own w.chunk).upvalues = length_map (λ u. further_number (where_is u x.a.active)) uses ∙ sym w.upvalues in
      let at_words : take (own w.chunk).upvalues (drop (suc p.pc) (own x.a.chunk).code) ≡ words =
      ap (λ n. take n (drop (suc p.pc) (own x.a.chunk).code)) w.upvalues ∙ ap (λ i. take (length uses) (drop i (own x.a.chunk).code)) (sym (w.next ∙ w.word.next)) ∙ fw.words in
      let behind : suc p.pc + (own w.chunk).upvalues ≡ q.pc = let e1 = fw.ends in let e2 = w.next in let e3 = w.word.next in let e4 = w.upvalues in omega (arith, e1, e2, e3, e4) in
      let ok1 : Ok z s1 g1 x = record {
        loc = t.fine.loc;
        back = t.fine.back;
        owned = t.fine.owned;
        marked = t.fine.marked;
        once = t.fine.once;
        acts = t.fine.acts;
        closures = closures_snoc z.bound t.owner g.closures s.closures mc fc t.fine.closures (record { source_cells = cf.cells; carry = t.carry; names = w.names; known = cf.known; before = without_sources p.ahead; behind = w.mid.ahead; stands = subst (λ l. FunctionAt l params vararg (λ f. StatementsAt f None b) (without_sources p.ahead) w.mid.ahead w.chunk) (law_there g.owner x.a w.names ok.acts.0) w.made_at.at; small = small });
        deep = t.fine.deep;
      } in (
        g1,
        word_abx x.a Op.Closure r p.functions p w.begun m0 w.word refl refl
            ∙ ap (λ y. after m0 (need y (λ f. check (nat_eq (length (take (own f).upvalues (drop (suc p.pc) (own x.a.chunk).code))) (own f).upvalues) (take_cells m1 (take (own f).upvalues (drop (suc p.pc) (own x.a.chunk).code)) (λ m2 cells. add_closure (at_pc m2 (m2.top.pc + (own f).upvalues)) r f cells))))) w.is
            ∙ ap (λ l. after m0 (check (nat_eq (length l) (own w.chunk).upvalues) (take_cells m1 l (λ m2 cells. add_closure (at_pc m2 (m2.top.pc + (own w.chunk).upvalues)) r w.chunk cells)))) at_words
            ∙ ap (λ y. after m0 (check y (take_cells m1 words (λ m2 cells. add_closure (at_pc m2 (m2.top.pc + (own w.chunk).upvalues)) r w.chunk cells)))) (eq_yes (length words) (own w.chunk).upvalues n_words)
            ∙ ap (after m0) (t.is (λ m2 cells. add_closure (at_pc m2 (m2.top.pc + (own w.chunk).upvalues)) r w.chunk cells))
            ∙ ap (λ pc. after m0 (add_closure (at s o (with_owner g t.owner) x pc) r w.chunk t.ks)) behind
            ∙ ap (λ n. after m0 (set (at s1 o g1 x q.pc) r (closure n))) len
            ∙ ap (after m0) (set_word z s1 o g1 x r q.pc (closure (length s.closures)) ok1 lr),
        ok1,
      )

  -- a function expression
  pub function_goes : (line first last : ℕ) (params : List Text) (vararg : Bool) (b : Statements) (s : SourceState) (o : Outside) (g : Ghost) (x : Site) (k free r : ℕ) (p q : Spot) → Ok z s g x → inner (function_expression line (function_body params vararg b first last)) ≤ z.bound → r < (own x.a.chunk).registers → (w : (related (code_of x.a) (function_expression line (function_body params vararg b first last))).to_reg x.a.active free r p q) → Goes z.bound self (fail_of z x) 1 (inner (function_expression line (function_body params vararg b first last))) o (Now (at s o g x p.pc)) (ValuePost z x k r q.pc) (evaluate (function_expression line (function_body params vararg b first last)) (scope x) s)
  function_goes line first last params vararg b s o g x k free r p q ok small lr w =
      let c = closure_word (function_body params vararg b first last) s o g x free r p q ok (omega (arith, small)) lr w in
      goes_weaken z.bound self (fail_of z x) 1 0 1 (inner (function_expression line (function_body params vararg b first last))) o (Now (at s o g x p.pc)) (ValuePost z x k r q.pc) _ (omega arith) (omega arith)
      (made x k r p q s (new_closure (scope x) (function_body params vararg b first last) s) o g c.0 (closure (length s.closures) ∷ []) c.2 c.1)
    where
      made : (x : Site) (k r : ℕ) (p q : Spot) (s s1 : SourceState) (o : Outside) (g g1 : Ghost) (vs : List Datum) → Ok z s1 g1 x → step (at s o g x p.pc) ≡ Going (pic s1 o g1 x q.pc (slice_set (registers s1.cells x.a x.high) r (first_of vs)) None) → Goes z.bound self (fail_of z x) 1 0 o (Now (at s o g x p.pc)) (ValuePost z x k r q.pc) (done vs s1)
      made x k r p q s s1 o g g1 vs ok h =
          goes_word z.bound self (fail_of z x) 0 0 o (at s o g x p.pc) _ (ValuePost z x k r q.pc) (done vs s1) h
          (goes_done z.bound self (fail_of z x) 0 0 o _ (ValuePost z x k r q.pc) vs s1
          (record { g = g1; high = x.high; keeps = keeps_self k x.high; is = refl; ok = ok }))
