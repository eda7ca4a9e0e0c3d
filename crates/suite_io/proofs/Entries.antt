-- What the entries of a map with texts as keys hold at each name.
use Rattle.std.proofs.Common.{◌≡◌, ◌≢◌, ap, sym, ◌∙◌, ℕ, Some, cond, List, [], ◌∷◌, String}
use Rattle.std.specs.String.{string_bytes, string_cmp}
use Rattle.std.specs.Str.{bytes_eq}
use Rattle.std.specs.Ordering.{nat_cmp, eq_by_cmp}
use Rattle.std.specs.Cmp.{eq_by_cmp_equiv}
use Rattle.std.specs.Cmp.Lexicographic.{slice_cmp, nat_list_cmp_total}
use Rattle.std.specs.Map.{lookup}
use Rattle.std.specs.BTreeMap.{BTreeMap, is_at, get_by_text, Updates}
use Rattle.std.specs.FinMap.{get, insert, get-empty, get-insert, same_map}
use Rattle.std.proofs.lemmas.Bool.{false_from_ne_true}
use Rattle.std.proofs.lemmas.Slice.Eq.{bytes_eq-Decides}
use Rattle.std.proofs.lemmas.Map.Text.{is_eq-slice_cmp, btree_map_updates_text}
use Rattle.std.proofs.lemmas.Map.Lookups.{exact_bytes}
use Rattle.suite_io.specs.Contents.{Contents}
use Rattle.suite_io.specs.Held.{contents_of}

-- what the contents have at a name is what a scan of the entries finds
pub get-contents_of : {Y : Type 0} (es : List (String Y × List ℕ)) (name : List ℕ) → get (contents_of es) name ≡ lookup (is_at (λ k. slice_cmp nat_cmp name (string_bytes k))) es
get-contents_of [] name = get-empty (slice_cmp nat_cmp) name
get-contents_of (e ∷ es) name =
    get-insert nat_list_cmp_total (contents_of es) (string_bytes e.0) e.1 name
    ∙ ap (cond (eq_by_cmp (slice_cmp nat_cmp) name (string_bytes e.0)) (Some e.1)) (get-contents_of es name)

-- a map that was given one entry has the contents with that entry
pub contents_of-given : {Y : Type 0} (old new : BTreeMap (String Y) (List ℕ)) (key : String Y) (bytes : List ℕ) → Updates string_cmp old new key (Some bytes) → contents_of new.entries ≡ insert (contents_of old.entries) (string_bytes key) bytes
contents_of-given old new key bytes updates = same_map nat_list_cmp_total exact_bytes _ _ (λ q.
    get-contents_of new.entries q
    ∙ btree_map_updates_text (string_bytes key) old new (Some bytes) updates q
    ∙ ap (λ b. cond b (Some bytes) (get_by_text old q)) (sym (is_eq-slice_cmp (string_bytes key) q) ∙ (eq_by_cmp_equiv nat_list_cmp_total).symm (string_bytes key) q)
    ∙ sym (get-insert nat_list_cmp_total (contents_of old.entries) (string_bytes key) bytes q
    ∙ ap (cond (eq_by_cmp (slice_cmp nat_cmp) q (string_bytes key)) (Some bytes)) (get-contents_of old.entries q)))

-- other names keep what they have
pub get_other : (held : Contents) (name bytes other : List ℕ) → other ≢ name → get (insert held name bytes) other ≡ get held other
get_other held name bytes other differs =
    get-insert nat_list_cmp_total held name bytes other
    ∙ ap (λ b. cond b (Some bytes) (get held other)) (is_eq-slice_cmp other name ∙ false_from_ne_true (bytes_eq other name) (λ e. differs ((bytes_eq-Decides other name).0 e)))
