-- A local that is declared behind those that are active has the next register, and only its own name finds it there: a function that captures it captures its name.
use Rattle.std.proofs.Common.{◌≡◌, ℕ, Bool, true, false, ◌&&◌, List, [], ◌∷◌, ◌++◌, length, map, Some, None, is_some, refl, sym, ap, ap₂, ◌∙◌, subst, arith, if◌then◌else◌, length-append}
use Rattle.std.proofs.lemmas.Cmp.{nat_list_eq_equiv}
use Rattle.std.proofs.lemmas.Option.{get_or_from_slice_get, same_Some, slice_get-map}
use Rattle.std.proofs.lemmas.Slice.Eq.{bytes_eq-Decides}
use Rattle.std.specs.Prelude.{get_or, option_map, slice_get}
use Rattle.std.specs.Str.{bytes_eq}
use Rattle.lua_num.specs.Bytes.{Text}
use Rattle.lua_tree.specs.Scoping.{Use, global_use, local_use, upvalue_use}
use Rattle.recover_expr.specs.Situation.{Function}
use Rattle.scheme.specs.Functions.{name_of}
use Rattle.scheme.specs.Making.{Ahead, Where, in_globals, in_register, in_upvalue, register_among, where_is}
use Rattle.scheme.specs.declared.making.Active.{Active}
use Rattle.scheme.specs.declared.making.Local.{Local}
use Rattle.scheme_stands.proofs.Environment.{onto_length}
use Rattle.scheme_stands.proofs.Growth.{kept_end}
use Rattle.scheme_stands.specs.Functions.{captured_name}
use Rattle.scheme_stands.specs.Words.{CapturedBy, Fn, IsCaptured, Law, Means, MeansBy, Names, is_marked, is_named, onto, own_register, register_in}
use Rattle.reads_back.specs.Coming.{declared_local}
use Rattle.reads_back.proofs.FreeFound.{onto_end}
use Rattle.reads_back.proofs.ListedLocals.{own_named}
use Rattle.reads_back.proofs.NameReads.{AreListed, IsListed}
use Rattle.reads_back.proofs.NamesInside.{declared_name, is_name_of}
use Rattle.reads_back.proofs.Tests.{second_of_both}

-- ---- the register of the last local

-- it hides others of its name
own_last : (text : Text) (active : List Active) (x : Active) → own_register text (active ++ x ∷ []) ≡ (if is_named text x then Some (length active) else own_register text active)
own_last text active x =
    let size : length (onto active []) ≡ length active = omega (arith, onto_length active []) in
    ap (register_in text) (onto_end active x []) ∙ ap (λ r. if is_named text x then Some r else own_register text active) size

own_by : (text : Text) (active : List Active) (x : Active) (named : Bool) → is_named text x ≡ named → own_register text (active ++ x ∷ []) ≡ (if named then Some (length active) else own_register text active)
own_by text active x named is = own_last text active x ∙ ap (λ named. if named then Some (length active) else own_register text active) is

module _ (text : Text) (ahead : Ahead) (x : Active) (is : x.local ≡ declared_local text ahead) where
  pub named_as : (other : Text) → is_named other x ≡ bytes_eq text other
  named_as other = ap (λ (local : Local). is_some local.declaration && bytes_eq other local.name) is ∙ nat_list_eq_equiv.symm other text

  named_itself : is_named text x ≡ true
  named_itself = named_as text ∙ (bytes_eq-Decides text text).1 refl

  -- its name finds it
  pub own_found : (active : List Active) → own_register text (active ++ x ∷ []) ≡ Some (length active)
  own_found active = own_by text active x true named_itself

-- ---- what else is captured there

-- what a name means besides the last local it means without it
pub captured_before : (n : Names) (active : List Active) (x : Active) (text : Text) (w : Where) → is_named text x ≡ false → IsCaptured n (active ++ x ∷ []) text w → IsCaptured n active text w
captured_before n active x text (in_register r) other captured =
    let same = sym (own_by text active x false other) in
    let own = same ∙ captured.0 in
    let found = own_named text active r own in
    let marked = λ (xs : List Active) (there : slice_get xs r ≡ Some found.local). slice_get-map is_marked xs r ∙ ap (option_map is_marked) there in
    (own, marked active found.there ∙ sym (marked (active ++ x ∷ []) (kept_end active (x ∷ []) r found.local found.there)) ∙ captured.1)
captured_before n active x text (in_upvalue slot) other captured = (sym (own_by text active x false other) ∙ captured.0, captured.1)
captured_before n active x text in_globals other captured = captured

-- the last local is captured in its register
pub captured_last : (n : Names) (active : List Active) (x : Active) (text : Text) (w : Where) → is_named text x ≡ true → IsCaptured n (active ++ x ∷ []) text w → w ≡ in_register (length active)
captured_last n active x text (in_register r) named captured =
    let same : Some (length active) ≡ Some r = sym (own_by text active x true named) ∙ captured.0 in
    ap in_register (sym (same_Some (length active) r same))
captured_last n active x text (in_upvalue slot) named captured = let no : Some (length active) ≡ None = sym (own_by text active x true named) ∙ captured.0 in cc
captured_last n active x text in_globals named captured = absurd captured

-- ---- the names of what is captured there

declared_inside : (n : Names) (active : List Active) (text : Text) (declaration : ℕ) → IsCaptured n active text (in_register (register_among declaration active)) → name_of declaration active ≡ text
declared_inside n active text declaration captured =
    let found = own_named text active (register_among declaration active) captured.0 in
    declared_name declaration active found.local found.there ∙ sym ((bytes_eq-Decides text found.local.local.name).0 (second_of_both _ _ found.named))

module _ {f : Function} {g : Fn} {active : List Active} {listed : List ℕ} (n : Names) (law : g.law ≡ Some n) (all : AreListed f g active listed) (same : f.of.upvalue_names ≡ g.upvalue_names) (x : Active) where
  -- it is named as it is
  own_name_inside : (text : Text) (one : Use) → IsCaptured n (active ++ x ∷ []) text (where_is one (active ++ x ∷ [])) → captured_name (active ++ x ∷ []) g.upvalue_names one ≡ text
  own_name_inside text (local_use declaration) captured = declared_inside n (active ++ x ∷ []) text declaration captured
  own_name_inside text (upvalue_use slot) captured = by (is_named text x) refl
    where
      by : (named : Bool) → is_named text x ≡ named → get_or g.upvalue_names slot [] ≡ text
      by true known = let no : Some (length active) ≡ None = sym (own_by text active x true known) ∙ captured.0 in cc
      by false known =
          let means : MeansBy n active text (in_upvalue slot) = captured_before n active x text (in_upvalue slot) known captured in
          let there = is_name_of (slice_get f.of.upvalue_names slot) text (all.listed_as text (in_upvalue slot) (subst (λ (law : Law). Means law active text (in_upvalue slot)) (sym law) means)) in
          get_or_from_slice_get g.upvalue_names slot text [] (ap (λ (names : List Text). slice_get names slot) (sym same) ∙ there.is)
  own_name_inside text global_use captured = absurd captured

  pub own_names_inside : (names : List Text) (uses : List Use) → CapturedBy n (active ++ x ∷ []) names uses → map (captured_name (active ++ x ∷ []) g.upvalue_names) uses ≡ names
  own_names_inside [] [] captured = refl
  own_names_inside [] (one ∷ uses) captured = absurd captured
  own_names_inside (text ∷ names) [] captured = absurd captured
  own_names_inside (text ∷ names) (one ∷ uses) captured = ap₂ (λ (text : Text) (names : List Text). text ∷ names) (own_name_inside text one captured.0) (own_names_inside names uses captured.1)

-- ---- they hang on nothing else of the last local

module _ (active : List Active) (x y : Active) (same : x.local ≡ y.local) where
  own_register_same : (text : Text) → own_register text (active ++ x ∷ []) ≡ own_register text (active ++ y ∷ [])
  own_register_same text =
      own_last text active x
      ∙ ap (λ (local : Local). if is_some local.declaration && bytes_eq text local.name then Some (length active) else own_register text active) same
      ∙ sym (own_last text active y)

-- what is listed of one is listed of the other
pub listed_same : {f : Function} (g : Fn) (active : List Active) (x y : Active) → x.local ≡ y.local → {listed : List ℕ} → AreListed f g (active ++ x ∷ []) listed → AreListed f g (active ++ y ∷ []) listed
listed_same {f} g active x y same {listed} all = record {
  listed_as = λ text w means. subst (λ count. IsListed f count listed text w) count (all.listed_as text w (means_same g.law text w means));
  few = omega (arith, all.few, count);
}
  where
    count : length (active ++ x ∷ []) ≡ length (active ++ y ∷ [])
    count = length-append active (x ∷ []) ∙ sym (length-append active (y ∷ []))

    means_by : (n : Names) (text : Text) (w : Where) → MeansBy n (active ++ y ∷ []) text w → MeansBy n (active ++ x ∷ []) text w
    means_by n text (in_register r) means = own_register_same active x y same text ∙ means
    means_by n text (in_upvalue slot) means = (own_register_same active x y same text ∙ means.0, means.1)
    means_by n text in_globals means = (own_register_same active x y same text ∙ means.0, means.1)

    means_same : (law : Law) (text : Text) (w : Where) → Means law (active ++ y ∷ []) text w → Means law (active ++ x ∷ []) text w
    means_same None text w means = tt
    means_same (Some n) text w means = means_by n text w means
