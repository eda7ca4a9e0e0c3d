-- Tables of the counts of names.
use Rattle.std.proofs.Common.{◌≡◌, ℕ, zero, suc, ◌+◌, ◌<◌, ◌≤◌, Bool, true, false, cond, List, [], ◌∷◌, length, map, drop, None, Some, refl, sym, ap, ◌∙◌, subst, true≢false, arith, get_or, not-suc-le-zero, le_of_suc-le-suc}
use Rattle.std.specs.Prelude.{Option, IfSome, unwrap_or}
use Rattle.std.specs.Option.{option_map_or}
use Rattle.std.specs.Str.{bytes_eq}
use Rattle.std.proofs.Math.Seq.{drop-cons}
use Rattle.std.proofs.lemmas.Slice.Eq.{bytes_eq-Decides}
use Rattle.lua_num.specs.Bytes.{Text}
use Rattle.proto.specs.declared.parts.Constant.{Constant}
use Rattle.proto.specs.declared.proto.Proto.{Proto, out-Proto}
use Rattle.proto.specs.Chunk.{Chunk, function, own, functions, functions_of}
use Rattle.proto.specs.View.{view_proto, view_protos}
use Rattle.proto.proofs.Views.{view_proto_fields}
use Rattle.rules.specs.Places.{further_words}
use Rattle.global_use.specs.declared.counting.Counts.{Counts}
use Rattle.global_use.specs.Uses.{is_name, uses_in, uses, uses_of}
use Rattle.global_use.specs.Counts.{Kind, getting, setting, does, count_of, counts_sum, no_counts, named_sum, Names, counts_at, told, HasMore, Tells, Adds}

-- ---- what a table tells, in parts

pub tells_start : (table : Names) (whole : Kind → Text → ℕ) → Tells table table whole whole
tells_start table whole = record { more = λ kind name. refl; used = λ used. used }

pub tells_next : (old now new : Names) (whole rest part left : Kind → Text → ℕ) → Tells old now whole rest → Adds now new part → ((kind : Kind) (name : Text) → rest kind name ≡ part kind name + left kind name) → Tells old new whole left
tells_next old now new whole rest part left before one splits = record {
  more = λ kind name.
      let a = before.more kind name in
      let b = one.more kind name in
      let s = splits kind name in
      omega arith;
  used = λ used. one.used (before.used used);
}

pub tells_end : (old new : Names) (whole rest : Kind → Text → ℕ) → Tells old new whole rest → ((kind : Kind) (name : Text) → rest kind name ≡ 0) → Adds old new whole
tells_end old new whole rest tells none = record {
  more = λ kind name.
      let a = tells.more kind name in
      let n = none kind name in
      omega arith;
  used = tells.used;
}

pub adds_both : (old now new : Names) (one other whole : Kind → Text → ℕ) → Adds old now one → Adds now new other → ((kind : Kind) (name : Text) → whole kind name ≡ one kind name + other kind name) → Adds old new whole
adds_both old now new one other whole first second sums = record {
  more = λ kind name.
      let a = first.more kind name in
      let b = second.more kind name in
      let s = sums kind name in
      omega arith;
  used = λ used. second.used (first.used used);
}

pub adds_same : (old new : Names) (one other : Kind → Text → ℕ) → Adds old new one → ((kind : Kind) (name : Text) → one kind name ≡ other kind name) → Adds old new other
adds_same old new one other adds same = record {
  more = λ kind name.
      let a = adds.more kind name in
      let s = same kind name in
      omega arith;
  used = adds.used;
}

pub adds_none : (table : Names) (whole : Kind → Text → ℕ) → ((kind : Kind) (name : Text) → whole kind name ≡ 0) → Adds table table whole
adds_none table whole none = record {
  more = λ kind name. let n = none kind name in omega arith;
  used = λ used. used;
}

-- ---- one name

pub name_added : (old new : Names) (name : Text) (value : Option Counts) (had more sum : Counts) → value ≡ counts_at old name → had ≡ unwrap_or value no_counts → sum ≡ counts_sum had more → ((q : Text) → counts_at new q ≡ cond (bytes_eq name q) (Some sum) (counts_at old q)) → HasMore old new name more
name_added old new name value had more sum is held sums updates q =
    updates q ∙ ap (λ s. cond (bytes_eq name q) (Some s) (counts_at old q)) (sums ∙ ap (λ h. counts_sum h more) (held ∙ ap (λ v. unwrap_or v no_counts) is))

flipped : (a b : Text) (t : Bool) → bytes_eq a b ≡ t → bytes_eq b a ≡ t
flipped a b true is = (bytes_eq-Decides b a).1 (sym ((bytes_eq-Decides a b).0 is))
flipped a b false is = go (bytes_eq b a) refl
  where
    go : (t : Bool) → bytes_eq b a ≡ t → bytes_eq b a ≡ false
    go false e = e
    go true e = absurd (true≢false (sym ((bytes_eq-Decides a b).1 (sym ((bytes_eq-Decides b a).0 e))) ∙ is))

abbrev tells_of : Kind → Option Counts → ℕ
tells_of kind o = option_map_or (count_of kind) o 0

abbrev IsUsed : Option Counts → Type 0
IsUsed o = IfSome o (λ c. 1 ≤ c.gets + c.sets)

-- a constant's name with counts that are not none
pub name_adds : (old new : Names) (name : Text) (more : Counts) → (more.gets + more.sets ≡ 0 → ⊥) → HasMore old new name more → Adds old new (λ kind q. cond (is_name q (Some (Constant.Text name))) (count_of kind more) 0)
name_adds old new name more some has = record {
  more = λ kind q. by kind q (bytes_eq name q) refl;
  used = λ used q. used_by q (used q) (used name) (bytes_eq name q) refl;
}
  where
    had : Option Counts
    had = counts_at old name

    sum_of : (kind : Kind) (o : Option Counts) → count_of kind (counts_sum (unwrap_or o no_counts) more) + 0 ≡ tells_of kind o + count_of kind more
    sum_of getting None = omega arith
    sum_of getting (Some c) = omega arith
    sum_of setting None = omega arith
    sum_of setting (Some c) = omega arith

    by : (kind : Kind) (q : Text) (t : Bool) → bytes_eq name q ≡ t → told kind new q + 0 ≡ told kind old q + cond (bytes_eq q name) (count_of kind more) 0
    by kind q true is =
        let there : name ≡ q = (bytes_eq-Decides name q).0 is in
        ap (λ o. tells_of kind o + 0) (has q ∙ ap (λ t. cond t (Some (counts_sum (unwrap_or (counts_at old name) no_counts) more)) (counts_at old q)) is)
        ∙ (sum_of kind (counts_at old name) ∙ (ap (λ n. told kind old n + count_of kind more) there ∙ ap (λ t. told kind old q + cond t (count_of kind more) 0) (sym (flipped name q true is))))
    by kind q false is =
        ap (λ o. tells_of kind o + 0) (has q ∙ ap (λ t. cond t (Some (counts_sum (unwrap_or (counts_at old name) no_counts) more)) (counts_at old q)) is)
        ∙ ap (λ t. told kind old q + cond t (count_of kind more) 0) (sym (flipped name q false is))

    at_least : (o : Option Counts) → 1 ≤ (counts_sum (unwrap_or o no_counts) more).gets + (counts_sum (unwrap_or o no_counts) more).sets
    at_least o = let c : Counts = unwrap_or o no_counts in go c (more.gets + more.sets) refl
      where
        go : (c : Counts) (n : ℕ) → more.gets + more.sets ≡ n → 1 ≤ (c.gets + more.gets) + (c.sets + more.sets)
        go c zero is = absurd (some is)
        go c (suc n) is = omega arith

    used_by : (q : Text) → IsUsed (counts_at old q) → IsUsed (counts_at old name) → (t : Bool) → bytes_eq name q ≡ t → IsUsed (counts_at new q)
    used_by q here there true is = subst IsUsed (sym (has q ∙ ap (λ t. cond t (Some (counts_sum (unwrap_or (counts_at old name) no_counts) more)) (counts_at old q)) is)) (at_least (counts_at old name))
    used_by q here there false is = subst IsUsed (sym (has q ∙ ap (λ t. cond t (Some (counts_sum (unwrap_or (counts_at old name) no_counts) more)) (counts_at old q)) is)) here

-- counts that are none
pub none_adds : (table : Names) (constant : Option Constant) (more : Counts) → more.gets + more.sets ≡ 0 → Adds table table (λ kind q. cond (is_name q constant) (count_of kind more) 0)
none_adds table constant more none = adds_none table _ (λ kind q. go kind (is_name q constant))
  where
    go : (kind : Kind) (t : Bool) → cond t (count_of kind more) 0 ≡ 0
    go getting true = omega arith
    go setting true = omega arith
    go kind false = refl

-- ---- constants, functions

pub named_sum-no_constants : (kind : Kind) (name : Text) (constants : List Constant) (counts : List Counts) → length constants ≡ 0 → named_sum kind name constants counts ≡ 0
named_sum-no_constants kind name [] counts none = refl
named_sum-no_constants kind name (c ∷ constants) counts none = absurd (omega arith)

pub named_sum-no_counts : (kind : Kind) (name : Text) (constants : List Constant) (counts : List Counts) → length counts ≡ 0 → named_sum kind name constants counts ≡ 0
named_sum-no_counts kind name [] counts none = refl
named_sum-no_counts kind name (c ∷ constants) [] none = refl
named_sum-no_counts kind name (c ∷ constants) (n ∷ counts) none = absurd (omega arith)

abbrev pub sums_of : List Constant → List Counts → Kind → Text → ℕ
sums_of constants counts kind name = named_sum kind name constants counts

pub next_constant : (old now new : Names) (whole : Kind → Text → ℕ) (constants_now constants : List Constant) (counts_now counts : List Counts) (constant : Constant) (one : Counts) → Tells old now whole (sums_of constants_now counts_now) → constants_now ≡ constant ∷ constants → counts_now ≡ one ∷ counts → Adds now new (λ kind name. cond (is_name name (Some constant)) (count_of kind one) 0) → Tells old new whole (sums_of constants counts)
next_constant old now new whole constants_now constants counts_now counts constant one before is are adds =
    tells_next old now new whole (sums_of constants_now counts_now) _ (sums_of constants counts) before adds (λ kind name. ap (λ cs. named_sum kind name cs counts_now) is ∙ ap (λ ns. named_sum kind name (constant ∷ constants) ns) are)

abbrev pub uses_all : List Proto → Kind → Text → ℕ
uses_all protos kind name = uses_of (does kind) name (functions_of (map view_proto protos))

pub next_function : (old now new : Names) (whole : Kind → Text → ℕ) (protos : List Proto) (k : ℕ) (p : Proto) → k < length protos → p ≡ get_or protos k p → Tells old now whole (uses_all (drop k protos)) → Adds now new (λ kind name. uses (does kind) name (view_proto p)) → Tells old new whole (uses_all (drop (k + 1) protos))
next_function old now new whole protos k p low at before adds =
    tells_next old now new whole (uses_all (drop k protos)) _ (uses_all (drop (k + 1) protos)) before adds (λ kind name.
    ap (λ ps. uses_all ps kind name) (drop-cons protos k p low) ∙ (ap (λ x. uses (does kind) name (view_proto x) + uses_all (drop (suc k) protos) kind name) (sym at) ∙ ap (λ n. uses (does kind) name (view_proto p) + uses_all (drop n protos) kind name) one_more))
  where
    one_more : suc k ≡ k + 1
    one_more = omega arith

drop_past : (protos : List Proto) (k : ℕ) → length protos ≤ k → drop k protos ≡ []
drop_past [] zero past = refl
drop_past [] (suc k) past = refl
drop_past (p ∷ protos) zero past = absurd (not-suc-le-zero past)
drop_past (p ∷ protos) (suc k) past = drop_past protos k (le_of_suc-le-suc past)

pub last_function : (old new : Names) (whole : Kind → Text → ℕ) (protos : List Proto) (k : ℕ) → length protos ≤ k → Tells old new whole (uses_all (drop k protos)) → Adds old new whole
last_function old new whole protos k past tells = tells_end old new whole _ tells (λ kind name. ap (λ ps. uses_all ps kind name) (drop_past protos k past))

uses_parts : (kind : Kind) (name : Text) (f : Chunk) → uses (does kind) name f ≡ uses_in (does kind) (own f).constants name (further_words f) (own f).code + uses_of (does kind) name (functions f)
uses_parts kind name (function f inner) = refl

pub whole_function : (old now new : Names) (p : Proto) (protos : List Proto) → view_protos (out-Proto p).functions ≡ functions_of (map view_proto protos) →
    Adds old now (λ kind name. uses_in (does kind) (own (view_proto p)).constants name (further_words (view_proto p)) (own (view_proto p)).code) → Adds now new (uses_all protos) → Adds old new (λ kind name. uses (does kind) name (view_proto p))
whole_function old now new p protos view first second =
    adds_both old now new _ (uses_all protos) _ first second (λ kind name.
    uses_parts kind name (view_proto p) ∙ ap (λ fs. uses_in (does kind) (own (view_proto p)).constants name (further_words (view_proto p)) (own (view_proto p)).code + uses_of (does kind) name fs) (ap functions (view_proto_fields p) ∙ view))
