-- Locals that end twice at one place end once, and parts do not see what their labels are called.
use Rattle.std.proofs.Common.{◌≡◌, ℕ, zero, suc, ◌≤◌, List, [], ◌∷◌, ◌++◌, length, map, take, drop, refl, sym, ap, ap₂, ◌∙◌, arith, false}
use Rattle.std.proofs.lemmas.List.{length-map, map-append}
use Rattle.std.proofs.Math.Seq.{take-length, drop-length}
use Rattle.std.specs.Prelude.{Some}
use Rattle.lua_num.specs.Bytes.{Text}
use Rattle.proto.specs.declared.parts.LocVar.{LocVar}
use Rattle.scheme.specs.Making.{Maker, Part, Got, put, declare, activate, end_one, end_all, end_locals, active_count, head_or}
use Rattle.scheme.specs.declared.making.Piece.{Piece}
use Rattle.scheme.specs.declared.making.Item.{Item}
use Rattle.scheme.specs.declared.making.Local.{Local}
use Rattle.scheme.specs.declared.making.Active.{Active}
use Rattle.same_flow.specs.Renaming.{renamed_piece, renamed_item, with_labels, Renames}

-- ---- locals that end

swap_one : (here i j : ℕ) (entries : List LocVar) → end_one here i (end_one here j entries) ≡ end_one here j (end_one here i entries)
swap_one here zero zero [] = refl
swap_one here zero (suc j) [] = refl
swap_one here (suc i) zero [] = refl
swap_one here (suc i) (suc j) [] = refl
swap_one here zero zero (x ∷ xs) = refl
swap_one here zero (suc j) (x ∷ xs) = refl
swap_one here (suc i) zero (x ∷ xs) = refl
swap_one here (suc i) (suc j) (x ∷ xs) = ap (λ (ys : List LocVar). x ∷ ys) (swap_one here i j xs)

pub swap_all : (here i : ℕ) (xs : List Active) (entries : List LocVar) → end_all here xs (end_one here i entries) ≡ end_one here i (end_all here xs entries)
swap_all here i [] entries = refl
swap_all here i (x ∷ xs) entries = ap (end_all here xs) (swap_one here x.listed i entries) ∙ swap_all here i xs (end_one here x.listed entries)

swap_both : (here : ℕ) (xs ys : List Active) (entries : List LocVar) → end_all here xs (end_all here ys entries) ≡ end_all here ys (end_all here xs entries)
swap_both here xs [] entries = refl
swap_both here xs (y ∷ ys) entries = swap_both here xs ys (end_one here y.listed entries) ∙ ap (end_all here ys) (swap_all here y.listed xs entries)

end_both : (here : ℕ) (xs ys : List Active) (entries : List LocVar) → end_all here ys (end_all here xs entries) ≡ end_all here (xs ++ ys) entries
end_both here [] ys entries = refl
end_both here (x ∷ xs) ys entries = end_both here xs ys (end_one here x.listed entries)

pub take_less : (n k : ℕ) (xs : List Active) → n ≤ k → take n (take k xs) ≡ take n xs
take_less zero k xs h = refl
take_less (suc n) zero xs h = absurd (omega arith)
take_less (suc n) (suc k) [] h = refl
take_less (suc n) (suc k) (x ∷ xs) h = ap (λ (ys : List Active). x ∷ ys) (take_less n k xs (omega arith))

drop_less : (n k : ℕ) (xs : List Active) → n ≤ k → drop n (take k xs) ++ drop k xs ≡ drop n xs
drop_less zero zero xs h = refl
drop_less zero (suc k) [] h = refl
drop_less zero (suc k) (x ∷ xs) h = ap (λ (ys : List Active). x ∷ ys) (drop_less zero k xs (omega arith))
drop_less (suc n) zero xs h = absurd (omega arith)
drop_less (suc n) (suc k) [] h = refl
drop_less (suc n) (suc k) (x ∷ xs) h = drop_less n k xs (omega arith)

-- the locals from n on end here, where those from k on have ended here before
pub end_twice : (n k : ℕ) (m : Maker) → n ≤ k → end_locals n (end_locals k m) ≡ end_locals n m
end_twice n k m h =
    let here = length m.items in
    ap₂ (λ (active : List Active) (locals : List LocVar). record m { active = active; locals = locals })
    (take_less n k m.active h)
    (swap_both here (drop n (take k m.active)) (drop k m.active) m.locals ∙ end_both here (drop n (take k m.active)) (drop k m.active) m.locals
    ∙ ap (λ (xs : List Active). end_all here xs m.locals) (drop_less n k m.active h))

-- no local ends
pub end_none : (m : Maker) → end_locals (active_count m) m ≡ m
end_none m =
    ap₂ (λ (active ended : List Active). record m { active = active; locals = end_all (length m.items) ended m.locals }) (take-length m.active) (drop-length m.active)

-- ---- labels by another name, and what is made of them

abbrev pub numbered : (numbers : ℕ → ℕ) → Maker → Maker
numbered numbers m = with_labels numbers [] m

pub items_length : (numbers : ℕ → ℕ) (m : Maker) → length m.items ≡ length (map (renamed_item numbers) m.items)
items_length numbers m = sym (length-map m.items (renamed_item numbers))

pub put_numbered : (numbers : ℕ → ℕ) (line : ℕ) (piece : Piece) (m : Maker) → numbered numbers (put line piece m) ≡ put line (renamed_piece numbers piece) (numbered numbers m)
put_numbered numbers line piece m = ap (λ (items : List Item). record (numbered numbers m) { items = items }) (map-append (renamed_item numbers) m.items (record { line = line; piece = piece } ∷ []))

pub end_numbered : (numbers : ℕ → ℕ) (n : ℕ) (m : Maker) → numbered numbers (end_locals n m) ≡ end_locals n (numbered numbers m)
end_numbered numbers n m =
    ap (λ (pc : ℕ). record (numbered numbers m) { active = take n m.active; locals = end_all pc (drop n m.active) m.locals }) (items_length numbers m)

activate_numbered : (numbers : ℕ → ℕ) (locals : List Local) (m : Maker) → numbered numbers (activate locals m) ≡ activate locals (numbered numbers m)
activate_numbered numbers [] m = refl
activate_numbered numbers (local ∷ locals) m =
    activate_numbered numbers locals (record m {
      active = m.active ++ record { local = local; listed = length m.locals } ∷ [];
      locals = m.locals ++ record { name = local.name; start = length m.items; end = length m.items } ∷ [];
    })
    ∙ ap (λ (pc : ℕ). activate locals (record (numbered numbers m) {
      active = m.active ++ record { local = local; listed = length m.locals } ∷ [];
      locals = m.locals ++ record { name = local.name; start = pc; end = pc } ∷ [];
    })) (items_length numbers m)

abbrev pub numbered_got : {A : Type 0} → (numbers : ℕ → ℕ) → Got A → Got A
numbered_got numbers got = record { value = got.value; after = numbered numbers got.after }

declare_numbered : (numbers : ℕ → ℕ) (texts : List Text) (m : Maker) → numbered_got numbers (declare texts m) ≡ declare texts (numbered numbers m)
declare_numbered numbers [] m = refl
declare_numbered numbers (text ∷ texts) m =
    let local : Local = record { name = text; declaration = Some m.ahead.declarations; captured = head_or false m.ahead.captures } in
    ap (λ (others : Got (List Local)). record { value = local ∷ others.value; after = others.after })
    (declare_numbered numbers texts (record m { ahead = record (m.ahead) { captures = drop 1 m.ahead.captures; declarations = suc m.ahead.declarations } }))

-- ---- two parts that make the same, each by its names of the labels

pub record Alike (f g : ℕ → ℕ) (one other : Part) : Type 0 where
  pub alike : (m n : Maker) → numbered f m ≡ numbered g n → numbered f (one m) ≡ numbered g (other n)

pub alike_by : {f g : ℕ → ℕ} {one other : Part} (part more : Part) → Renames f [] one part → Renames g [] other more → ((m : Maker) → part m ≡ more m) → Alike f g one other
alike_by part more a b e = record { alike = λ m n h. a.same m ∙ ap part h ∙ e _ ∙ sym (b.same n) }

pub alike_put : (f g : ℕ → ℕ) (line : ℕ) (piece other : Piece) → renamed_piece f piece ≡ renamed_piece g other → Alike f g (put line piece) (put line other)
alike_put f g line piece other e = record {
  alike = λ m n h. put_numbered f line piece m ∙ ap₂ (put line) e h ∙ sym (put_numbered g line other n);
}

pub alike_end : (f g : ℕ → ℕ) (k : ℕ) → Alike f g (end_locals k) (end_locals k)
alike_end f g k = record { alike = λ m n h. end_numbered f k m ∙ ap (end_locals k) h ∙ sym (end_numbered g k n) }

pub alike_activate : (f g : ℕ → ℕ) (locals : List Local) → Alike f g (activate locals) (activate locals)
alike_activate f g locals = record { alike = λ m n h. activate_numbered f locals m ∙ ap (activate locals) h ∙ sym (activate_numbered g locals n) }

pub same_declared : (f g : ℕ → ℕ) (texts : List Text) (m n : Maker) → numbered f m ≡ numbered g n → numbered_got f (declare texts m) ≡ numbered_got g (declare texts n)
same_declared f g texts m n h = declare_numbered f texts m ∙ ap (declare texts) h ∙ sym (declare_numbered g texts n)

pub alike_declare : (f g : ℕ → ℕ) (texts : List Text) → Alike f g (λ m. (declare texts m).after) (λ m. (declare texts m).after)
alike_declare f g texts = record { alike = λ m n h. ap (λ (got : Got (List Local)). got.after) (same_declared f g texts m n h) }

-- ---- names of labels that change nothing

same_items : (items : List Item) → map (renamed_item (λ n. n)) items ≡ items
same_items [] = refl
same_items (item ∷ items) = ap₂ (λ (i : Item) (is : List Item). i ∷ is) (same_item item) (same_items items)
  where
    same_item : (item : Item) → renamed_item (λ n. n) item ≡ item
    same_item item = ap (λ (p : Piece). record { line = item.line; piece = p }) (same_piece item.piece)
      where
        same_piece : (p : Piece) → renamed_piece (λ n. n) p ≡ p
        same_piece (Piece.Abc op a b c) = refl
        same_piece (Piece.Abx op a bx) = refl
        same_piece (Piece.Jump op a label) = refl
        same_piece (Piece.Bare n) = refl

own_labels : (m : Maker) → with_labels (λ n. n) m.labels m ≡ m
own_labels m = ap (λ (items : List Item). record m { items = items }) (same_items m.items)

-- a part that makes the same whatever the labels are changes none
pub labels_kept : (part : Part) (m : Maker) → Renames (λ n. n) m.labels part part → (part m).labels ≡ m.labels
labels_kept part m renames = sym (ap (λ (n : Maker). n.labels) (renames.same m ∙ ap part (own_labels m)))

-- by labels that are all one
renamed_twice : (f : ℕ → ℕ) (items : List Item) → map (renamed_item (λ n. 0)) (map (renamed_item f) items) ≡ map (renamed_item (λ n. 0)) items
renamed_twice f [] = refl
renamed_twice f (item ∷ items) = ap₂ (λ (i : Item) (is : List Item). i ∷ is) (ap (λ (p : Piece). record { line = item.line; piece = p }) (twice item.piece)) (renamed_twice f items)
  where
    twice : (p : Piece) → renamed_piece (λ n. 0) (renamed_piece f p) ≡ renamed_piece (λ n. 0) p
    twice (Piece.Abc op a b c) = refl
    twice (Piece.Abx op a bx) = refl
    twice (Piece.Jump op a label) = refl
    twice (Piece.Bare n) = refl

numbered_twice : (f : ℕ → ℕ) (m : Maker) → numbered (λ n. 0) (numbered f m) ≡ numbered (λ n. 0) m
numbered_twice f m = ap (λ (items : List Item). record (numbered (λ n. 0) m) { items = items }) (renamed_twice f m.items)

pub unnumbered : (f g : ℕ → ℕ) (m n : Maker) → numbered f m ≡ numbered g n → numbered (λ n. 0) m ≡ numbered (λ n. 0) n
unnumbered f g m n e = sym (numbered_twice f m) ∙ ap (numbered (λ n. 0)) e ∙ numbered_twice g n
