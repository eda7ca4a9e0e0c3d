-- Locals begin: the first register above the locals becomes that of a new one.
use Rattle.std.proofs.Common.{◌≡◌, ◌≢◌, ◌<◌, ℕ, zero, suc, Bool, true, false, ◌⊎◌, inl, inr, List, [], ◌∷◌, ◌++◌, map, length, Option, Some, None, refl, sym, ap, ◌∙◌, subst, arith, nat_eq, length-append, append-nil, append_assoc}
use Rattle.std.specs.Prelude.{is_some, slice_get, drop, if◌then◌else◌}
use Rattle.scheme.specs.Making.{Ahead}
use Rattle.scheme.specs.declared.making.Active.{Active}
use Rattle.scheme.specs.declared.making.Local.{Local}
use Rattle.lua_num.specs.Bytes.{Text}
use Rattle.lua_model.specs.Datum.{Datum, first_of, adjusted}
use Rattle.lua_model.specs.Store.{Outside}
use Rattle.source_meaning.specs.State.{State as SourceState, Env, Closure as Function, new_cell, declared, goes}
use Rattle.rules.specs.State.{OpenResults}
use Rattle.scheme_stands.specs.Words.{onto, is_marked}
use Rattle.scheme_stands.specs.Functions.{Declared, Activated}
use Rattle.agrees.proofs.Accounts.{Place}
use Rattle.agrees.proofs.Posts.{Grown, Around, AtPost, FlowPost}
use Rattle.agrees.proofs.Lists.{nat_cases, eq_yes, eq_no, within, get_within, get_app, get_snoc, get_last, map_same, map_append, length_map}
use Rattle.agrees.proofs.Picture.{Setup, Slot, of_cell, holds, Home, At, Act, Waiter, Ghost, Site, cell_in_home, cell_at, read, slot_value, registers, frame_of, pic, SlotAt, Owned, Fine, Ok}
use Rattle.agrees.proofs.PictureChanges.{same_home, same_cell, frames_same}
use Rattle.agrees.proofs.PictureApart.{add_local, add_hidden, upvalue_old, apart_declare, apart_hide}

read_old : (cells : List Datum) (c : ℕ) (v : Datum) → c < length cells → read cells c ≡ read (cells ++ v ∷ []) c
read_old [] c v l = absurd (omega arith)
read_old (x ∷ xs) zero v l = refl
read_old (x ∷ xs) (suc c) v l = read_old xs c v (omega arith)

read_last : (cells : List Datum) (v : Datum) → read (cells ++ v ∷ []) (length cells) ≡ v
read_last [] v = refl
read_last (x ∷ xs) v = read_last xs v

onto_snoc : {A : Type 0} (xs : List A) (y : A) (zs : List A) → onto (xs ++ y ∷ []) zs ≡ y ∷ onto xs zs
onto_snoc [] y zs = refl
onto_snoc (x ∷ xs) y zs = onto_snoc xs y (x ∷ zs)

abbrev pub with_home : (ℕ → Home) → ℕ → Home → ℕ → Home
with_home home n h c = if nat_eq c n then h else home c

home_new : (home : ℕ → Home) (n : ℕ) (h : Home) → with_home home n h n ≡ h
home_new home n h = ap (λ t. if t then h else home n) (eq_yes n n refl)

home_old : (home : ℕ → Home) (n : ℕ) (h : Home) (c : ℕ) → c < n → with_home home n h c ≡ home c
home_old home n h c l = ap (λ t. if t then h else home c) (eq_no c n (λ e. omega arith))

abbrev pub add_home : Ghost → ℕ → ℕ → ℕ → Bool → Ghost
add_home g n f r m = record g { home = with_home g.home n (At f r m) }

module _ (z : Setup) (n : ℕ) (fs : List Function) where
  -- a waiting frame's act, with its registers above
  abbrev pub row : Act → List Datum → Waiter
  row a high = record { act = a; pc = 0; high = high }

  pub fine_declare : (g : Ghost) (a : Act) (gs : List Waiter) (name : Text) (one : Active) (v : Datum) (rest : List Datum) → (one.local.name ≡ name) × (is_some one.local.declaration ≡ true) → Fine z n fs g (row a (v ∷ rest) ∷ gs) → Fine z (suc n) fs (add_home g n (length gs) (length a.slots) (is_marked one)) (row (add_local a name n one) rest ∷ gs)
  fine_declare g a gs name one v rest named fine = record {
    loc = loc1;
    back = λ c f r b l e. back1 c f r b l e (nat_cases c n);
    owned = λ k c e. let h = fine.owned k c e in omega arith;
    marked = λ k c f r b e h. fine.marked k c f r b e (sym (home_old g.home n (At (length gs) (length a.slots) (is_marked one)) c (fine.owned k c e)) ∙ h);
    once = fine.once;
    acts = (
      record {
        carry = fine.acts.0.carry;
        known = fine.acts.0.known;
        owned = subst (λ l. Owned l (onto (a.slots ++ of_cell n ∷ []) []) ((name, n) ∷ a.own)) (sym (onto_snoc a.active one [])) (subst (λ l. Owned (one ∷ onto a.active []) l ((name, n) ∷ a.own)) (sym (onto_snoc a.slots (of_cell n) [])) (named, refl, fine.acts.0.owned));
        as_many = (let k = even in omega (arith, k, length-append a.active (one ∷ []), length-append a.slots (of_cell n ∷ [])));
        apart = apart_declare a name n one (upvalue_old z n fs g (row a (v ∷ rest)) gs fine) fine.acts.0.apart;
        limits = fine.acts.0.limits;
      },
      (let k = fine.acts.1 in omega (arith, k, length-append a.slots (of_cell n ∷ []))),
      fine.acts.2,
    );
    closures = fine.closures;
    deep = fine.deep;
  }
    where
      even : length a.active ≡ length a.slots
      even = fine.acts.0.as_many

      new_home : Home
      new_home = At (length gs) (length a.slots) (is_marked one)

      old : (f r c : ℕ) (b : Bool) → SlotAt f r c b (row a (v ∷ rest) ∷ gs) → (c < suc n) × (with_home g.home n (At (length gs) (length a.slots) (is_marked one)) c ≡ At f r b)
      old f r c b h = let x = fine.loc f r c b h in (let l = x.0 in omega arith, home_old g.home n (At (length gs) (length a.slots) (is_marked one)) c x.0 ∙ x.1)

      new : (f r c : ℕ) (b : Bool) → f ≡ length gs → (slice_get a.slots r ≡ Some (of_cell c)) ⊎ ((r ≡ length a.slots) × (of_cell c ≡ of_cell n)) → (slice_get (map is_marked a.active) r ≡ Some b) ⊎ ((r ≡ length (map is_marked a.active)) × (b ≡ is_marked one)) → (c < suc n) × (with_home g.home n (At (length gs) (length a.slots) (is_marked one)) c ≡ At f r b)
      new f r c b e (inl p) (inl q) = old f r c b (inl (record { at_frame = e; slot = p; marked = q }))
      new f r c b e (inl p) (inr q) = let l = within a.slots r (of_cell c) p in absurd (let k = q.0 in omega (arith, even, l, k, length_map is_marked a.active))
      new f r c b e (inr p) (inl q) = let l = within (map is_marked a.active) r b q in absurd (let k = p.0 in omega (arith, even, l, k, length_map is_marked a.active))
      new f r c b e (inr p) (inr q) =
          let d : c ≡ n = same_cell c n p.1 in
          (omega arith, ap (with_home g.home n (At (length gs) (length a.slots) (is_marked one))) d ∙ home_new g.home n (At (length gs) (length a.slots) (is_marked one)) ∙ ap (λ x. At x (length a.slots) (is_marked one)) (sym e) ∙ ap (λ x. At f x (is_marked one)) (sym p.0) ∙ ap (At f r) (sym q.1))

      loc1 : (f r c : ℕ) (b : Bool) → SlotAt f r c b (row (add_local a name n one) rest ∷ gs) → (c < suc n) × (with_home g.home n (At (length gs) (length a.slots) (is_marked one)) c ≡ At f r b)
      loc1 f r c b (inl h) = new f r c b h.at_frame (get_snoc a.slots (of_cell n) r (of_cell c) h.slot) (get_snoc (map is_marked a.active) (is_marked one) r b (sym (ap (λ l. slice_get l r) (map_append is_marked a.active (one ∷ []))) ∙ h.marked))
      loc1 f r c b (inr h) = old f r c b (inr h)

      lift : (f r c : ℕ) (b : Bool) → SlotAt f r c b (row a (v ∷ rest) ∷ gs) → SlotAt f r c b (row (add_local a name n one) rest ∷ gs)
      lift f r c b (inl h) = inl (record { at_frame = h.at_frame; slot = get_app a.slots (of_cell n ∷ []) r (of_cell c) h.slot; marked = ap (λ l. slice_get l r) (map_append is_marked a.active (one ∷ [])) ∙ get_app (map is_marked a.active) (is_marked one ∷ []) r b h.marked })
      lift f r c b (inr h) = inr h

      back1 : (c f r : ℕ) (b : Bool) → c < suc n → with_home g.home n (At (length gs) (length a.slots) (is_marked one)) c ≡ At f r b → ((nat_eq c n ≡ true) × (c ≡ n)) ⊎ ((nat_eq c n ≡ false) × (c ≢ n)) → SlotAt f r c b (row (add_local a name n one) rest ∷ gs)
      back1 c f r b l e (inl h) =
          let q = same_home (length gs) (length a.slots) f r (is_marked one) b (sym (ap (λ t. if t then At (length gs) (length a.slots) (is_marked one) else g.home c) h.0) ∙ e) in
          inl (record {
            at_frame = sym q.0;
            slot = get_last a.slots (of_cell n) r (sym q.1) ∙ ap (λ y. Some (of_cell y)) (sym h.1);
            marked = ap (λ y. slice_get y r) (map_append is_marked a.active (one ∷ [])) ∙ get_last (map is_marked a.active) (is_marked one) r (sym q.1 ∙ sym even ∙ sym (length_map is_marked a.active)) ∙ ap Some q.2;
          })
      back1 c f r b l e (inr h) =
          lift f r c b (fine.back c f r b (let o = h.1 in omega (arith, o)) (sym (ap (λ t. if t then At (length gs) (length a.slots) (is_marked one) else g.home c) h.0) ∙ e))

  -- a hidden local
  pub fine_hide : (g : Ghost) (a : Act) (gs : List Waiter) (one : Active) (v : Datum) (rest : List Datum) → one.local.declaration ≡ None → Fine z n fs g (row a (v ∷ rest) ∷ gs) → Fine z n fs g (row (add_hidden a v one) rest ∷ gs)
  fine_hide g a gs one v rest hidden fine = record {
    loc = loc1;
    back = λ c f r b l e. lift f r c b (fine.back c f r b l e);
    owned = fine.owned;
    marked = fine.marked;
    once = fine.once;
    acts = (
      record {
        carry = fine.acts.0.carry;
        known = fine.acts.0.known;
        owned = subst (λ l. Owned l (onto (a.slots ++ holds v ∷ []) []) a.own) (sym (onto_snoc a.active one [])) (subst (λ l. Owned (one ∷ onto a.active []) l a.own) (sym (onto_snoc a.slots (holds v) [])) (hidden, fine.acts.0.owned));
        as_many = (let k = even in omega (arith, k, length-append a.active (one ∷ []), length-append a.slots (holds v ∷ [])));
        apart = apart_hide a v one fine.acts.0.apart;
        limits = fine.acts.0.limits;
      },
      (let k = fine.acts.1 in omega (arith, k, length-append a.slots (holds v ∷ []))),
      fine.acts.2,
    );
    closures = fine.closures;
    deep = fine.deep;
  }
    where
      even : length a.active ≡ length a.slots
      even = fine.acts.0.as_many

      new : (f r c : ℕ) (b : Bool) → f ≡ length gs → (slice_get a.slots r ≡ Some (of_cell c)) ⊎ ((r ≡ length a.slots) × (of_cell c ≡ holds v)) → (slice_get (map is_marked a.active) r ≡ Some b) ⊎ ((r ≡ length (map is_marked a.active)) × (b ≡ is_marked one)) → (c < n) × (g.home c ≡ At f r b)
      new f r c b e (inl p) (inl q) = fine.loc f r c b (inl (record { at_frame = e; slot = p; marked = q }))
      new f r c b e (inl p) (inr q) = let l = within a.slots r (of_cell c) p in absurd (let k = q.0 in omega (arith, even, l, k, length_map is_marked a.active))
      new f r c b e (inr p) q = let d = p.1 in cc

      loc1 : (f r c : ℕ) (b : Bool) → SlotAt f r c b (row (add_hidden a v one) rest ∷ gs) → (c < n) × (g.home c ≡ At f r b)
      loc1 f r c b (inl h) = new f r c b h.at_frame (get_snoc a.slots (holds v) r (of_cell c) h.slot) (get_snoc (map is_marked a.active) (is_marked one) r b (sym (ap (λ l. slice_get l r) (map_append is_marked a.active (one ∷ []))) ∙ h.marked))
      loc1 f r c b (inr h) = fine.loc f r c b (inr h)

      lift : (f r c : ℕ) (b : Bool) → SlotAt f r c b (row a (v ∷ rest) ∷ gs) → SlotAt f r c b (row (add_hidden a v one) rest ∷ gs)
      lift f r c b (inl h) = inl (record { at_frame = h.at_frame; slot = get_app a.slots (holds v ∷ []) r (of_cell c) h.slot; marked = ap (λ l. slice_get l r) (map_append is_marked a.active (one ∷ [])) ∙ get_app (map is_marked a.active) (is_marked one ∷ []) r b h.marked })
      lift f r c b (inr h) = inr h

-- what is seen stays the same
abbrev pub Seen : SourceState → Ghost → Site → SourceState → Ghost → Site → Type 0
Seen s g x s1 g1 x1 = (o : Outside) (pc : ℕ) (results : Option OpenResults) → pic s o g x pc (registers s.cells x.a x.high) results ≡ pic s1 o g1 x1 pc (registers s1.cells x1.a x1.high) results

abbrev pub put : Act → List Waiter → List Datum → Site
put a below high = record { a = a; below = below; high = high }

module _ (z : Setup) where
  pub declares : (s : SourceState) (g : Ghost) (a : Act) (below : List Waiter) (name : Text) (one : Active) (v : Datum) (rest : List Datum) → (one.local.name ≡ name) × (is_some one.local.declaration ≡ true) → Ok z s g (put a below (v ∷ rest)) → Ok z (new_cell s v) (add_home g (length s.cells) (length below) (length a.slots) (is_marked one)) (put (add_local a name (length s.cells) one) below rest) × Seen s g (put a below (v ∷ rest)) (new_cell s v) (add_home g (length s.cells) (length below) (length a.slots) (is_marked one)) (put (add_local a name (length s.cells) one) below rest)
  declares s g a below name one v rest named ok = (
    subst (λ n. Fine z n s.closures g1 (row z (length s.cells) s.closures a1 rest ∷ below)) (let e : suc (length s.cells) ≡ length (s.cells ++ v ∷ []) = omega (arith, length-append s.cells (v ∷ [])) in e) (fine_declare z (length s.cells) s.closures g a below name one v rest named ok),
    λ o pc results.
        ap (λ rs. pic s o g (put a below (v ∷ rest)) pc rs results) regs
        ∙ ap (λ bs. record (pic s o g (put a below (v ∷ rest)) pc (registers (s.cells ++ v ∷ []) a1 rest) results) { below = bs }) frames
        ∙ ap (λ cs. record (pic s o g (put a below (v ∷ rest)) pc (registers (s.cells ++ v ∷ []) a1 rest) results) { below = map (frame_of (s.cells ++ v ∷ [])) below; cells = cs }) cells,
  )
    where
      a1 : Act
      a1 = add_local a name (length s.cells) one

      g1 : Ghost
      g1 = add_home g (length s.cells) (length below) (length a.slots) (is_marked one)

      same_slots : map (slot_value s.cells) a.slots ≡ map (slot_value (s.cells ++ v ∷ [])) a.slots
      same_slots = map_same (slot_value s.cells) (slot_value (s.cells ++ v ∷ [])) a.slots by
        where
          by : (i : ℕ) (y : Slot) → slice_get a.slots i ≡ Some y → slot_value s.cells y ≡ slot_value (s.cells ++ v ∷ []) y
          by i (holds w) q = refl
          by i (of_cell c) q =
              let l = within a.slots i (of_cell c) q in let k = ok.acts.0.as_many in
              let b = get_within (map is_marked a.active) i (omega (arith, l, k, length_map is_marked a.active)) in
              read_old s.cells c v (ok.loc (length below) i c b.0 (inl (record { at_frame = refl; slot = q; marked = b.1 }))).0

      regs : registers s.cells a (v ∷ rest) ≡ registers (s.cells ++ v ∷ []) (add_local a name (length s.cells) one) rest
      regs =
          ap (λ l. l ++ v ∷ rest) same_slots
          ∙ ap (λ y. map (slot_value (s.cells ++ v ∷ [])) a.slots ++ y ∷ rest) (sym (read_last s.cells v))
          ∙ sym (append_assoc (map (slot_value (s.cells ++ v ∷ [])) a.slots) (read (s.cells ++ v ∷ []) (length s.cells) ∷ []) rest)
          ∙ ap (λ l. l ++ rest) (sym (map_append (slot_value (s.cells ++ v ∷ [])) a.slots (of_cell (length s.cells) ∷ [])))

      frames : map (frame_of s.cells) below ≡ map (frame_of (s.cells ++ v ∷ [])) below
      frames = frames_same g.owner s.cells (s.cells ++ v ∷ []) below ok.acts.2 (λ f r c b q. read_old s.cells c v (ok.loc f r c b (inr q)).0)

      cells : map (cell_at s.cells g.home) g.owner ≡ map (cell_at (s.cells ++ v ∷ []) (with_home g.home (length s.cells) (At (length below) (length a.slots) (is_marked one)))) g.owner
      cells = map_same _ _ g.owner (λ k c e. let l = ok.owned k c e in ap (λ y. cell_in_home y (g.home c)) (read_old s.cells c v l) ∙ ap (cell_in_home (read (s.cells ++ v ∷ []) c)) (sym (home_old g.home (length s.cells) (At (length below) (length a.slots) (is_marked one)) c l)))

  pub hides : (s : SourceState) (g : Ghost) (a : Act) (below : List Waiter) (one : Active) (v : Datum) (rest : List Datum) → one.local.declaration ≡ None → Ok z s g (put a below (v ∷ rest)) → Ok z s g (put (add_hidden a v one) below rest) × Seen s g (put a below (v ∷ rest)) s g (put (add_hidden a v one) below rest)
  hides s g a below one v rest hidden ok = (
    fine_hide z (length s.cells) s.closures g a below one v rest hidden ok,
    λ o pc results. ap (λ rs. pic s o g (put a below (v ∷ rest)) pc rs results) (sym (append_assoc (map (slot_value s.cells) a.slots) (v ∷ []) rest) ∙ ap (λ l. l ++ rest) (sym (map_append (slot_value s.cells) a.slots (holds v ∷ [])))),
  )

-- ## several new locals

abbrev pub grown_act : Act → Env → List Active → List Slot → Act
grown_act a env active slots = record a { own = env; active = active; slots = slots }

abbrev pub grown_self : (a : Act) → Grown a a
grown_self a = record { active = []; slots = []; env = a.own; is = ap (λ l. grown_act a a.own l a.slots) (sym (append-nil a.active)) ∙ ap (λ l. grown_act a a.own (a.active ++ []) l) (sym (append-nil a.slots)) }

-- a statement that declares nothing is over
pub stays_on : (z : Setup) (x : Site) (around : Around) (k q : ℕ) (s : SourceState) (o : Outside) (p : Place) → AtPost z x k q s o p → FlowPost z x around x.a.active q (goes x.a.own) s o p
stays_on z x around k q s o p h = record { a = x.a; g = h.g; high = h.high; grown = grown_self x.a; names = refl; actives = refl; is = h.is; ok = h.ok }

abbrev pub grown_on : (a b c : Act) → Grown a b → Grown b c → Grown a c
grown_on a b c p q = record {
  active = p.active ++ q.active;
  slots = p.slots ++ q.slots;
  env = q.env;
  is = q.is ∙ ap (λ y. grown_act y q.env (y.active ++ q.active) (y.slots ++ q.slots)) p.is
      ∙ ap (λ l. grown_act a q.env l ((a.slots ++ p.slots) ++ q.slots)) (append_assoc a.active p.active q.active)
      ∙ ap (λ l. grown_act a q.env (a.active ++ (p.active ++ q.active)) l) (append_assoc a.slots p.slots q.slots);
}

pub record Opened (z : Setup) (s : SourceState) (g : Ghost) (x : Site) (env : Env) (s1 : SourceState) (active : List Active) (rest : List Datum) : Type 0 where
  pub a : Act
  pub g1 : Ghost
  pub grown : Grown x.a a
  pub names : a.own ≡ env
  pub actives : a.active ≡ active
  pub ok : Ok z s1 g1 (put a x.below rest)
  pub seen : Seen s g x s1 g1 (put a x.below rest)

module _ (z : Setup) where
  pub declares_all : (names : List Text) (locals : List Local) (before behind : Ahead) (active : List Active) (vs : List Datum) (rest : List Datum) (s : SourceState) (g : Ghost) (a : Act) (below : List Waiter) → Declared names before locals behind → Activated locals a.active active → Ok z s g (put a below (adjusted (length names) vs ++ rest)) → Opened z s g (put a below (adjusted (length names) vs ++ rest)) (declared names vs a.own s).0 (declared names vs a.own s).1 active rest
  declares_all [] locals before behind active vs rest s g a below d t ok = record {
    a = a;
    g1 = g;
    grown = grown_self a;
    names = refl;
    actives = sym (subst (λ l. Activated l a.active active) d.0 t);
    ok = ok;
    seen = λ o pc results. refl;
  }
  declares_all (name ∷ names) locals before behind active vs rest s g a below d t ok =
      let t1 = subst (λ l. Activated l a.active active) d.1 t in
      let one = t1.0 in
      let named : (one.local.name ≡ name) × (is_some one.local.declaration ≡ true) = (ap (λ l. l.name) t1.1, ap (λ l. is_some l.declaration) t1.1) in
      let v = first_of vs in
      let e : adjusted (length (name ∷ names)) vs ++ rest ≡ v ∷ (adjusted (length names) (drop 1 vs) ++ rest) = ap (λ l. l ++ rest) (first_value (length names) vs) in
      let more = adjusted (length names) (drop 1 vs) ++ rest in
      let ok1 = subst (λ h. Ok z s g (put a below h)) e ok in
      let x = declares z s g a below name one v more named ok1 in
      let y = declares_all names d.0 (record before { captures = drop 1 before.captures; declarations = suc before.declarations }) behind active (drop 1 vs) rest (new_cell s v) (add_home g (length s.cells) (length below) (length a.slots) (is_marked one)) (add_local a name (length s.cells) one) below d.2 t1.2 x.0 in
      record {
        a = y.a;
        g1 = y.g1;
        grown = grown_on a (add_local a name (length s.cells) one) y.a (record { active = one ∷ []; slots = of_cell (length s.cells) ∷ []; env = (name, length s.cells) ∷ a.own; is = refl }) y.grown;
        names = y.names;
        actives = y.actives;
        ok = y.ok;
        seen = λ o pc results. ap (λ h. pic s o g (put a below h) pc (registers s.cells a h) results) e ∙ x.1 o pc results ∙ y.seen o pc results;
      }
    where
      first_value : (n : ℕ) (us : List Datum) → adjusted (suc n) us ≡ first_of us ∷ adjusted n (drop 1 us)
      first_value n [] = refl
      first_value n (u ∷ us) = refl

-- the same, with the new act written out
pub record OpenedAs (z : Setup) (s : SourceState) (g : Ghost) (x : Site) (env : Env) (s1 : SourceState) (active : List Active) (rest : List Datum) : Type 0 where
  pub more : List Active
  pub slots : List Slot
  pub is_more : active ≡ x.a.active ++ more
  pub g1 : Ghost
  pub ok : Ok z s1 g1 (put (grown_act x.a env active (x.a.slots ++ slots)) x.below rest)
  pub seen : Seen s g x s1 g1 (put (grown_act x.a env active (x.a.slots ++ slots)) x.below rest)

pub opened_as : (z : Setup) (s : SourceState) (g : Ghost) (x : Site) (env : Env) (s1 : SourceState) (active : List Active) (rest : List Datum) → Opened z s g x env s1 active rest → OpenedAs z s g x env s1 active rest
opened_as z s g x env s1 active rest w =
    let w_env : w.grown.env ≡ env = sym (ap (λ a. a.own) w.grown.is) ∙ w.names in
    let w_active : x.a.active ++ w.grown.active ≡ active = sym (ap (λ a. a.active) w.grown.is) ∙ w.actives in
    let e : w.a ≡ grown_act x.a env active (x.a.slots ++ w.grown.slots) = w.grown.is ∙ ap (λ y. grown_act x.a y (x.a.active ++ w.grown.active) (x.a.slots ++ w.grown.slots)) w_env ∙ ap (λ y. grown_act x.a env y (x.a.slots ++ w.grown.slots)) w_active in
    record {
      more = w.grown.active;
      slots = w.grown.slots;
      is_more = sym w_active;
      g1 = w.g1;
      ok = subst (λ a. Ok z s1 w.g1 (put a x.below rest)) e w.ok;
      seen = subst (λ a. Seen s g x s1 w.g1 (put a x.below rest)) e w.seen;
    }
