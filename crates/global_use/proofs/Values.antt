-- Values of globals where one is set.
use Rattle.std.proofs.Common.{◌≡◌, Bool, true, false, cond, [], ◌∷◌, refl, sym, ap, ◌∙◌, subst, true≢false}
use Rattle.std.specs.Str.{bytes_eq}
use Rattle.std.proofs.lemmas.Slice.Eq.{bytes_eq-Decides}
use Rattle.lua_num.specs.Bytes.{Text}
use Rattle.lua_model.specs.Datum.{Datum, nil, boolean, number, text, table, closure, native, host, is_nil}
use Rattle.lua_model.specs.Pairs.{set}
use Rattle.global_use.specs.Runs.{Globals, value_in}

abbrev pub set_in : Globals → Text → Datum → Globals
set_in globals name v = set bytes_eq nil is_nil globals name v

same_text : (a b : Text) → bytes_eq a b ≡ true → a ≡ b
same_text a b e = (bytes_eq-Decides a b).0 e

text_same : (a : Text) → bytes_eq a a ≡ true
text_same a = (bytes_eq-Decides a a).1 refl

-- the one pair of a list that was empty
one_here : (name : Text) (v : Datum) → value_in (set_in [] name v) name ≡ v
one_here name nil = refl
one_here name (boolean b) = ap (λ t. cond t (boolean b) nil) (text_same name)
one_here name (number n) = ap (λ t. cond t (number n) nil) (text_same name)
one_here name (text x) = ap (λ t. cond t (text x) nil) (text_same name)
one_here name (table x) = ap (λ t. cond t (table x) nil) (text_same name)
one_here name (closure x) = ap (λ t. cond t (closure x) nil) (text_same name)
one_here name (native x) = ap (λ t. cond t (native x) nil) (text_same name)
one_here name (host x) = ap (λ t. cond t (host x) nil) (text_same name)

one_other : (name q : Text) (v : Datum) → bytes_eq q name ≡ false → value_in (set_in [] name v) q ≡ nil
one_other name q v apart = go (is_nil v)
  where
    go : (b : Bool) → value_in (cond b [] ((name, v) ∷ [])) q ≡ nil
    go true = refl
    go false = ap (λ t. cond t v nil) apart

-- a global that is set has the value
pub set_in_here : (globals : Globals) (name : Text) (v : Datum) → value_in (set_in globals name v) name ≡ v
set_in_here [] name v = one_here name v
set_in_here (p ∷ ps) name v = go (set_in_here ps name v) (bytes_eq name p.0) refl
  where
    go : value_in (set_in ps name v) name ≡ v → (b : Bool) → bytes_eq name p.0 ≡ b → value_in (cond b ((p.0, v) ∷ ps) (p ∷ set_in ps name v)) name ≡ v
    go rest true is = ap (λ t. cond t v (value_in ps name)) is
    go rest false is = ap (λ t. cond t p.1 (value_in (set_in ps name v) name)) is ∙ rest

-- and others keep theirs
pub set_in_other : (globals : Globals) (name q : Text) (v : Datum) → bytes_eq q name ≡ false → value_in (set_in globals name v) q ≡ value_in globals q
set_in_other [] name q v apart = one_other name q v apart
set_in_other (p ∷ ps) name q v apart = go (set_in_other ps name q v apart) (bytes_eq name p.0) refl (bytes_eq q p.0) refl
  where
    go : value_in (set_in ps name v) q ≡ value_in ps q → (b : Bool) → bytes_eq name p.0 ≡ b → (c : Bool) → bytes_eq q p.0 ≡ c → value_in (cond b ((p.0, v) ∷ ps) (p ∷ set_in ps name v)) q ≡ value_in (p ∷ ps) q
    go rest true is true also =
        let both : q ≡ name = same_text q p.0 also ∙ sym (same_text name p.0 is) in
        absurd (true≢false (sym (subst (λ t. bytes_eq t name ≡ true) (sym both) (text_same name)) ∙ apart))
    go rest true is false also = ap (λ t. cond t v (value_in ps q)) also ∙ sym (ap (λ t. cond t p.1 (value_in ps q)) also)
    go rest false is c also = ap (λ r. cond (bytes_eq q p.0) p.1 r) rest

-- where a name has one value in both, it has so where the same is set in both
pub set_in_both : (one other : Globals) (name q : Text) (v : Datum) → value_in one q ≡ value_in other q → value_in (set_in one name v) q ≡ value_in (set_in other name v) q
set_in_both one other name q v same = go (bytes_eq q name) refl
  where
    go : (b : Bool) → bytes_eq q name ≡ b → value_in (set_in one name v) q ≡ value_in (set_in other name v) q
    go true is =
        let there : q ≡ name = same_text q name is in
        subst (λ t. value_in (set_in one name v) t ≡ value_in (set_in other name v) t) (sym there) (set_in_here one name v ∙ sym (set_in_here other name v))
    go false is = set_in_other one name q v is ∙ (same ∙ sym (set_in_other other name q v is))
