-- What the scope finds by a name: a local of the running function by its register, an upvalue by its slot, a global.
use Rattle.std.proofs.Common.{◌≡◌, ℕ, zero, suc, ◌+◌, Bool, true, false, List, [], ◌∷◌, ◌++◌, length, Some, None, refl, sym, ap, ◌∙◌, subst, arith, cond}
use Rattle.std.specs.Prelude.{slice_get, is_some, if◌then◌else◌, ◌&&◌, ◌||◌}
use Rattle.std.specs.Str.{bytes_eq}
use Rattle.lua_num.specs.Bytes.{Text}
use Rattle.scheme.specs.declared.making.Active.{Active}
use Rattle.source_meaning.specs.State.{Env, find}
use Rattle.scheme_stands.specs.Words.{register_in, own_register, is_among, names_in, onto, law_inside}
use Rattle.agrees.proofs.Lists.{some_same}
use Rattle.agrees.proofs.Picture.{Slot, of_cell, holds, Act, ActFine, Owned, Known, env_names, law_of, code_of}

-- ## lists from their ends

onto_get : {A : Type 0} (xs zs : List A) (i : ℕ) → slice_get (onto xs zs) (length xs + i) ≡ slice_get zs i
onto_get [] zs i = ap (slice_get zs) (let e : 0 + i ≡ i = omega arith in e)
onto_get (x ∷ xs) zs i = ap (slice_get (onto xs (x ∷ zs))) (let e : suc (length xs) + i ≡ length xs + suc i = omega arith in e) ∙ onto_get xs (x ∷ zs) (suc i)

onto_onto : {A : Type 0} (xs ys zs : List A) → onto (onto xs ys) zs ≡ onto ys (xs ++ zs)
onto_onto [] ys zs = refl
onto_onto (x ∷ xs) ys zs = onto_onto xs (x ∷ ys) zs

app_none : {A : Type 0} (xs : List A) → xs ++ [] ≡ xs
app_none [] = refl
app_none (x ∷ xs) = ap (λ l. x ∷ l) (app_none xs)

pub onto_twice : {A : Type 0} (xs : List A) → onto (onto xs []) [] ≡ xs
onto_twice xs = onto_onto xs [] [] ∙ app_none xs

onto_length : {A : Type 0} (xs zs : List A) → length (onto xs zs) ≡ length xs + length zs
onto_length [] zs = let e : length zs ≡ 0 + length zs = omega arith in e
onto_length (x ∷ xs) zs = onto_length xs (x ∷ zs) ∙ (let e : length xs + suc (length zs) ≡ suc (length xs) + length zs = omega arith in e)

-- ## locals

-- a cell that is found, and its register
pub record OwnCell (env : Env) (slots : List Slot) (text : Text) (r : ℕ) : Type 0 where
  pub cell : ℕ
  pub found : find text env ≡ Some cell
  pub slot : slice_get slots r ≡ Some (of_cell cell)

owned_some : (xs : List Active) (ss tail : List Slot) (env : Env) (text : Text) (r : ℕ) → length xs ≡ length ss → Owned xs ss env → register_in text xs ≡ Some r → OwnCell env (onto ss tail) text r
owned_some [] [] tail [] text r k o e = cc
owned_some (one ∷ xs) (holds v ∷ ss) tail env text r k o e =
    owned_some xs ss (holds v ∷ tail) env text r (omega (arith, k)) o.1 (sym (ap (λ d. if is_some d && bytes_eq text one.local.name then Some (length xs) else register_in text xs) o.0) ∙ e)
owned_some (one ∷ xs) (of_cell c ∷ ss) tail (x ∷ env) text r k o e =
    by (bytes_eq text x.0) refl (λ h. owned_some xs ss (of_cell c ∷ tail) env text r (omega (arith, k)) o.2 h)
  where
    asks : register_in text (one ∷ xs) ≡ (if bytes_eq text x.0 then Some (length xs) else register_in text xs)
    asks = ap (λ b. if b && bytes_eq text one.local.name then Some (length xs) else register_in text xs) o.0.1 ∙ ap (λ n. if bytes_eq text n then Some (length xs) else register_in text xs) o.0.0

    by : (t : Bool) → bytes_eq text x.0 ≡ t → (register_in text xs ≡ Some r → OwnCell env (onto ss (of_cell c ∷ tail)) text r) → OwnCell (x ∷ env) (onto ss (of_cell c ∷ tail)) text r
    by true q ih =
        let h : Some (length xs) ≡ Some r = sym (asks ∙ ap (λ t. if t then Some (length xs) else register_in text xs) q) ∙ e in
        let same : r ≡ length ss + 0 = let i = some_same (length xs) r h in omega (arith, k, i) in
        record {
          cell = c;
          found = ap (λ t. cond t (Some x.1) (find text env)) q ∙ ap Some (sym o.1);
          slot = ap (slice_get (onto ss (of_cell c ∷ tail))) same ∙ onto_get ss (of_cell c ∷ tail) 0;
        }
    by false q ih =
        let h : register_in text xs ≡ Some r = sym (asks ∙ ap (λ t. if t then Some (length xs) else register_in text xs) q) ∙ e in
        let w = ih h in
        record { cell = w.cell; found = ap (λ t. cond t (Some x.1) (find text env)) q ∙ w.found; slot = w.slot }
owned_some _ _ tail env text r k o e = absurd o

owned_none : (xs : List Active) (ss : List Slot) (env : Env) (text : Text) → Owned xs ss env → register_in text xs ≡ None → find text env ≡ None
owned_none [] [] [] text o e = refl
owned_none (one ∷ xs) (holds v ∷ ss) env text o e =
    owned_none xs ss env text o.1 (sym (ap (λ d. if is_some d && bytes_eq text one.local.name then Some (length xs) else register_in text xs) o.0) ∙ e)
owned_none (one ∷ xs) (of_cell c ∷ ss) (x ∷ env) text o e = by (bytes_eq text x.0) refl (λ h. owned_none xs ss env text o.2 h)
  where
    asks : register_in text (one ∷ xs) ≡ (if bytes_eq text x.0 then Some (length xs) else register_in text xs)
    asks = ap (λ b. if b && bytes_eq text one.local.name then Some (length xs) else register_in text xs) o.0.1 ∙ ap (λ n. if bytes_eq text n then Some (length xs) else register_in text xs) o.0.0

    by : (t : Bool) → bytes_eq text x.0 ≡ t → (register_in text xs ≡ None → find text env ≡ None) → find text (x ∷ env) ≡ None
    by true q ih = let h : Some (length xs) ≡ None = sym (asks ∙ ap (λ t. if t then Some (length xs) else register_in text xs) q) ∙ e in cc
    by false q ih =
        let h : register_in text xs ≡ None = sym (asks ∙ ap (λ t. if t then Some (length xs) else register_in text xs) q) ∙ e in
        ap (λ t. cond t (Some x.1) (find text env)) q ∙ ih h
owned_none _ _ env text o e = absurd o

-- of an act in order
pub own_found : (a : Act) (text : Text) (r : ℕ) → length a.active ≡ length a.slots → Owned (onto a.active []) (onto a.slots []) a.own → own_register text a.active ≡ Some r → OwnCell a.own a.slots text r
own_found a text r k o e =
    subst (λ l. OwnCell a.own l text r) (onto_twice a.slots)
    (owned_some (onto a.active []) (onto a.slots []) [] a.own text r (onto_length a.active [] ∙ ap (λ n. n + 0) k ∙ sym (onto_length a.slots [])) o e)

pub own_missing : (a : Act) (text : Text) → Owned (onto a.active []) (onto a.slots []) a.own → own_register text a.active ≡ None → find text a.own ≡ None
own_missing a text o e = owned_none (onto a.active []) (onto a.slots []) a.own text o e

-- the names of the environment are those of the locals
pub owned_names : (xs : List Active) (ss : List Slot) (env : Env) → Owned xs ss env → env_names env ≡ names_in xs
owned_names [] [] [] o = refl
owned_names (one ∷ xs) (holds v ∷ ss) env o = owned_names xs ss env o.1 ∙ sym (ap (λ d. if is_some d then one.local.name ∷ names_in xs else names_in xs) o.0)
owned_names (one ∷ xs) (of_cell c ∷ ss) (x ∷ env) o =
    ap (λ l. x.0 ∷ l) (owned_names xs ss env o.2)
    ∙ ap (λ n. n ∷ names_in xs) (sym o.0.0)
    ∙ sym (ap (λ b. if b then one.local.name ∷ names_in xs else names_in xs) o.0.1)
owned_names _ _ env o = absurd o

pub names_app : (es fs : Env) → env_names (es ++ fs) ≡ env_names es ++ env_names fs
names_app [] fs = refl
names_app (e ∷ es) fs = ap (λ l. e.0 ∷ l) (names_app es fs)

-- ## upvalues

pub record UpCell (us : List ℕ) (outer : Env) (text : Text) (slot : ℕ) : Type 0 where
  pub cell : ℕ
  pub found : find text outer ≡ Some cell
  pub up : slice_get us slot ≡ Some cell

pub up_found : (us : List ℕ) (names : List Text) (outer : Env) (text : Text) (slot : ℕ) → Known names us outer → slice_get names slot ≡ Some text → UpCell us outer text slot
up_found [] [] outer text slot k e = cc
up_found (u ∷ us) (t ∷ names) outer text zero k e = let same : t ≡ text = cc in record { cell = u; found = subst (λ y. find y outer ≡ Some u) same k.0; up = refl }
up_found (u ∷ us) (t ∷ names) outer text (suc slot) k e = let h = up_found us names outer text slot k.1 e in record { cell = h.cell; found = h.found; up = h.up }
up_found [] (t ∷ names) outer text slot k e = absurd k
up_found (u ∷ us) [] outer text slot k e = absurd k

-- ## globals

pub not_found : (text : Text) (env : Env) → is_among text (env_names env) ≡ false → find text env ≡ None
not_found text [] e = refl
not_found text (x ∷ env) e = by (bytes_eq text x.0) refl (λ h. not_found text env h)
  where
    by : (t : Bool) → bytes_eq text x.0 ≡ t → (is_among text (env_names env) ≡ false → find text env ≡ None) → find text (x ∷ env) ≡ None
    by true q ih = let h : true ≡ false = sym (ap (λ t. t || is_among text (env_names env)) q) ∙ e in cc
    by false q ih = ap (λ t. cond t (Some x.1) (find text env)) q ∙ ih (sym (ap (λ t. t || is_among text (env_names env)) q) ∙ e)

-- ## one environment behind another

pub find_front : (text : Text) (env outer : Env) (c : ℕ) → find text env ≡ Some c → find text (env ++ outer) ≡ Some c
find_front text [] outer c e = cc
find_front text (x ∷ env) outer c e = by (bytes_eq text x.0) refl (λ h. find_front text env outer c h)
  where
    by : (t : Bool) → bytes_eq text x.0 ≡ t → (find text env ≡ Some c → find text (env ++ outer) ≡ Some c) → find text (x ∷ env ++ outer) ≡ Some c
    by true q ih = ap (λ t. cond t (Some x.1) (find text (env ++ outer))) q ∙ sym (ap (λ t. cond t (Some x.1) (find text env)) q) ∙ e
    by false q ih = ap (λ t. cond t (Some x.1) (find text (env ++ outer))) q ∙ ih (sym (ap (λ t. cond t (Some x.1) (find text env)) q) ∙ e)

pub find_behind : (text : Text) (env outer : Env) → find text env ≡ None → find text (env ++ outer) ≡ find text outer
find_behind text [] outer e = refl
find_behind text (x ∷ env) outer e = by (bytes_eq text x.0) refl (λ h. find_behind text env outer h)
  where
    by : (t : Bool) → bytes_eq text x.0 ≡ t → (find text env ≡ None → find text (env ++ outer) ≡ find text outer) → find text (x ∷ env ++ outer) ≡ find text outer
    by true q ih = let h : Some x.1 ≡ None = sym (ap (λ t. cond t (Some x.1) (find text env)) q) ∙ e in cc
    by false q ih = ap (λ t. cond t (Some x.1) (find text (env ++ outer))) q ∙ ih (sym (ap (λ t. cond t (Some x.1) (find text env)) q) ∙ e)

-- ## functions that are made

-- the function that is made sees the locals and what is around them
pub law_there : (owner : List ℕ) (a : Act) (names : List Text) → ActFine owner a → law_inside (code_of a).law a.active names ≡ law_of (a.own ++ a.outer) names
law_there owner a names fine =
    ap (λ around. Some (record { around = around; upvalues = names }))
    (ap (λ l. l ++ env_names a.outer) (sym (owned_names (onto a.active []) (onto a.slots []) a.own fine.owned)) ∙ sym (names_app a.own a.outer))
