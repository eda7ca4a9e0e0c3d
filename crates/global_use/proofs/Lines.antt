-- The lines of a table that tells what a chunk uses are the text of its uses.
use Rattle.std.proofs.Common.{◌≡◌, ℕ, suc, ◌+◌, ◌<◌, ◌≤◌, Bool, true, false, cond, ◌||◌, List, [], ◌∷◌, ◌++◌, length, map, None, Some, refl, sym, ap, ◌∙◌, subst, true≢false, arith, get_or, is_some, Ok, Err}
use Rattle.std.specs.Prelude.{Option, IfSome, Contains, All, Result, IfOk, OnOk}
use Rattle.std.specs.BTreeMap.{is_at}
use Rattle.std.specs.Borrow.{Bor}
use Rattle.std.specs.Cmp.Lexicographic.{slice_cmp}
use Rattle.std.specs.List.{AllByRecursion, flat_map}
use Rattle.std.specs.List.Sorted.{IsStrictlySortedBy}
use Rattle.std.specs.Map.{lookup, keys_of}
use Rattle.std.specs.Option.{option_map_or}
use Rattle.std.specs.Ordering.{nat_cmp, is_eq}
use Rattle.std.specs.Set.{is_member}
use Rattle.std.specs.declared.cmp.Ordering.TheVariants.{Less}
use Rattle.std.proofs.lemmas.Map.Made.{is_member-Decides}
use Rattle.lua_num.specs.Bytes.{Text}
use Rattle.proto.specs.Chunk.{Chunk}
use Rattle.global_use.specs.declared.counting.Counts.{Counts}
use Rattle.global_use.specs.Uses.{uses, gets, sets, use_line, IsUseText}
use Rattle.global_use.specs.Counts.{Kind, getting, setting, does, count_of, Names, counts_at, told, AllUsed, IsInOrder, Adds}
use Rattle.global_use.proofs.OneText.{text_eq, text_eq-Decides}

abbrev Entries : Type 0
Entries = List (Bor (List ℕ) × Counts)

abbrev names_of : Entries → List Text
names_of es = map (λ e. e.0.now) es

all_behind : (name : Text) (es : Entries) → AllByRecursion (λ (y : Bor (List ℕ)). slice_cmp nat_cmp name y.now ≡ Less) (keys_of es) → AllByRecursion (λ y. slice_cmp nat_cmp name y ≡ Less) (names_of es)
all_behind name [] all = all
all_behind name (e ∷ es) all = (all.0, all_behind name es all.1)

in_order : (es : Entries) → IsStrictlySortedBy (λ (x y : Bor (List ℕ)). slice_cmp nat_cmp x.now y.now) (keys_of es) → IsStrictlySortedBy (slice_cmp nat_cmp) (names_of es)
unfolding IsStrictlySortedBy
in_order [] sorted = sorted
in_order (e ∷ es) sorted = (all_behind e.0.now es sorted.0, in_order es sorted.1)

-- a name is among them where it is looked up
is_there : (q : Text) (es : Entries) → is_some (lookup (is_at (λ k. slice_cmp nat_cmp q k.now)) es) ≡ is_member text_eq (names_of es) q
is_there q [] = refl
is_there q (e ∷ es) = go (is_there q es) (is_eq (slice_cmp nat_cmp q e.0.now))
  where
    go : is_some (lookup (is_at (λ k. slice_cmp nat_cmp q k.now)) es) ≡ is_member text_eq (names_of es) q → (b : Bool) → is_some (cond b (Some e.1) (lookup (is_at (λ k. slice_cmp nat_cmp q k.now)) es)) ≡ (b || is_member text_eq (names_of es) q)
    go rest true = refl
    go rest false = rest

-- lines that are the same one by one
same_lines : (es : Entries) (first : Bor (List ℕ) × Counts → Text) (second : Text → Text) → ((k : ℕ) (d : Bor (List ℕ) × Counts) → k < length es → first (get_or es k d) ≡ second (get_or es k d).0.now) → flat_map first es ≡ flat_map second (names_of es)
same_lines [] first second same = refl
same_lines (e ∷ es) first second same =
    ap (λ t. t ++ flat_map first es) (same 0 e (omega arith)) ∙ ap (λ t. second e.0.now ++ t) (same_lines es first second (λ k d low. same (suc k) d (omega arith)))

module _ (chunk : Chunk) (empty table : Names) (nothing_there : (q : Text) → counts_at empty q ≡ None) (adds : Adds empty table (λ kind name. uses (does kind) name chunk)) where
  told_is : (kind : Kind) (q : Text) → told kind table q ≡ uses (does kind) q chunk
  told_is kind q =
      let all = adds.more kind q in
      let none : told kind empty q ≡ 0 = ap (λ o. option_map_or (count_of kind) o 0) (nothing_there q) in
      omega arith

  -- of a name that has counts these are how often it is got and set
  counts_are : (kind : Kind) (q : Text) (c : Counts) → counts_at table q ≡ Some c → count_of kind c ≡ uses (does kind) q chunk
  counts_are kind q c is = sym (ap (λ o. option_map_or (count_of kind) o 0) is) ∙ told_is kind q

  all_used : AllUsed table
  all_used = adds.used (λ q. subst (λ o. IfSome o (λ c. 1 ≤ c.gets + c.sets)) (sym (nothing_there q)) tt)

  used_there : (q : Text) → Contains (names_of table.entries) q → 1 ≤ gets chunk q + sets chunk q
  used_there q has = go (counts_at table q) refl
    where
      some : is_some (counts_at table q) ≡ true
      some = is_there q table.entries ∙ (is_member-Decides text_eq-Decides (names_of table.entries) q).1 has

      go : (o : Option Counts) → counts_at table q ≡ o → 1 ≤ gets chunk q + sets chunk q
      go None is = absurd (true≢false (sym some ∙ ap is_some is))
      go (Some c) is =
          let used : 1 ≤ c.gets + c.sets = subst (λ o. IfSome o (λ d. 1 ≤ d.gets + d.sets)) is (all_used q) in
          let got : c.gets ≡ gets chunk q = counts_are getting q c is in
          let put : c.sets ≡ sets chunk q = counts_are setting q c is in
          omega arith

  there_used : (q : Text) → 1 ≤ gets chunk q + sets chunk q → Contains (names_of table.entries) q
  there_used q used = go (counts_at table q) refl
    where
      go : (o : Option Counts) → counts_at table q ≡ o → Contains (names_of table.entries) q
      go None is =
          let none : (kind : Kind) → told kind table q ≡ 0 = λ kind. ap (λ o. option_map_or (count_of kind) o 0) is in
          let got : told getting table q ≡ gets chunk q = told_is getting q in
          let put : told setting table q ≡ sets chunk q = told_is setting q in
          let no_got : told getting table q ≡ 0 = none getting in
          let no_put : told setting table q ≡ 0 = none setting in
          absurd (omega arith)
      go (Some c) is = (is_member-Decides text_eq-Decides (names_of table.entries) q).0 (sym (is_there q table.entries) ∙ ap is_some is)

  pub lines_tell : (text : Text) → text ≡ flat_map (λ e. use_line e.0.now e.1.gets e.1.sets) table.entries → IsInOrder table → All (λ e. counts_at table e.0.now ≡ Some e.1) table.entries → IsUseText chunk text
  lines_tell text is order found = record {
    names = names_of table.entries;
    are_used = record { ordered = in_order table.entries order; used = λ q. (used_there q, there_used q) };
    lines = is ∙ same_lines table.entries (λ e. use_line e.0.now e.1.gets e.1.sets) (λ name. use_line name (gets chunk name) (sets chunk name)) (λ k d low.
        let e : Bor (List ℕ) × Counts = get_or table.entries k d in
        ap (λ n. use_line e.0.now n e.1.sets) (counts_are getting e.0.now e.1 (found k d low)) ∙ ap (λ n. use_line e.0.now (gets chunk e.0.now) n) (counts_are setting e.0.now e.1 (found k d low)));
  }

-- what follows from all that is known where something went well
pub if_ok_all : {T E : Type 0} (r : Result T E) (P Q : T → Type 0) (A B : Type 0) → ((t : T) → P t → A → B → Q t) → IfOk r P → OnOk r A → OnOk r B → IfOk r Q
if_ok_all (Ok t) P Q A B then p a b = then t p a b
if_ok_all (Err e) P Q A B then p a b = tt

-- an empty table has no name
pub empty_has_none : (table : Names) → table.entries ≡ [] → (q : Text) → counts_at table q ≡ None
empty_has_none table is q = ap (λ es. lookup (is_at (λ k. slice_cmp nat_cmp q k.now)) es) is
