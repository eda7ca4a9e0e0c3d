-- The items of a constructor from a place on, by what stands there.
use Rattle.std.proofs.Common.{◌≡◌, ℕ, suc, ◌+◌, ◌<◌, Bool, true, false, cond, List, length, drop, get_or, refl, sym, ap, ◌∙◌, arith}
use Rattle.std.specs.Prelude.{◌&&◌, ◌==◌}
use Rattle.lua_tree.specs.View.{view_kind, view_item}
use Rattle.lua_tree.specs.TreeLists.{fields_of}
use Rattle.lua_tree.specs.declared.tree.Item.{Item}
use Rattle.lua_tree.specs.declared.tree.ItemKind.{ItemKind, Positional', Named', Keyed'}
use Rattle.scheme.specs.Making.{Maker}
use Rattle.scheme.specs.Expressions.{Coded, is_multiple, next_reg}
use Rattle.scheme.specs.Lists.{is_last, entries_from, open_entry, full_end, pending_after}
use Rattle.scheme.specs.Scheme.{coded, entries}
use Rattle.codegen.specs.Items.{is_open, open_part, closed_part, done_behind, pending_behind}
use Rattle.codegen.proofs.Parts.{coded_e}
use Rattle.codegen.proofs.Steps.{from_place}
use Rattle.codegen.proofs.Sizes.{ends, is_last-ends, ends-behind}

-- a positional item: open, or not
positional : (line t done pending : ℕ) (c : Coded) (rest : List Item) (b : Bool) (m : Maker) → (is_last (entries (fields_of rest)) && is_multiple c.e) ≡ b →
    cond (is_last (entries (fields_of rest)) && is_multiple c.e) (open_entry line t done c)
    (λ n. entries_from line t (suc done) (pending_after (suc pending)) (entries (fields_of rest)) (full_end line t (suc done) (suc pending) (next_reg c n))) m
    ≡ cond b (open_entry line t done c) (λ n. entries_from line t (suc done) (pending_after (suc pending)) (entries (fields_of rest)) (full_end line t (suc done) (suc pending) (next_reg c n))) m
positional line t done pending c rest b m e =
    ap (λ b. cond b (open_entry line t done c) (λ n. entries_from line t (suc done) (pending_after (suc pending)) (entries (fields_of rest)) (full_end line t (suc done) (suc pending) (next_reg c n))) m) e

open_test : (l : ℕ) (k : _) (rest : List Item) → (is_last (entries (fields_of rest)) && is_multiple (coded (view_kind k l)).e) ≡ (ends rest && is_multiple (view_kind k l))
open_test l k rest = ap (λ b. b && is_multiple (coded (view_kind k l)).e) (is_last-ends rest) ∙ ap (λ x. ends rest && is_multiple x) (coded_e (view_kind k l))

by_open : (line t done pending : ℕ) (kind : ItemKind) (item : Item) (rest : List Item) (m : Maker) → is_open (ends rest) kind ≡ true →
    open_part line t done kind m ≡ entries_from line t done pending (entries (view_item kind item.sep (fields_of rest))) m
by_open line t done pending (Positional' l k) item rest m e = sym (positional line t done pending (coded (view_kind k l)) rest true m (open_test l k rest ∙ e))
by_open line t done pending (Named' name l k) item rest m e = absurd (cc)
by_open line t done pending (Keyed' l k l' k') item rest m e = absurd (cc)

by_closed : (line t done pending : ℕ) (kind : ItemKind) (item : Item) (rest : List Item) (m : Maker) → is_open (ends rest) kind ≡ false →
    entries_from line t (done_behind kind done) (pending_behind kind pending) (entries (fields_of rest)) (closed_part line t done pending kind m)
    ≡ entries_from line t done pending (entries (view_item kind item.sep (fields_of rest))) m
by_closed line t done pending (Positional' l k) item rest m e = sym (positional line t done pending (coded (view_kind k l)) rest false m (open_test l k rest ∙ e))
by_closed line t done pending (Named' name l k) item rest m e = refl
by_closed line t done pending (Keyed' l k l' k') item rest m e = refl

tested : (i : ℕ) (items : List Item) (kind : ItemKind) (b : Bool) → i < length items → b ≡ is_open (i + 1 == length items) kind → is_open (ends (drop (i + 1) items)) kind ≡ b
tested i items kind b h e =
    let next : i + 1 ≡ suc i = omega arith in
    ap (λ n. is_open (ends (drop n items)) kind) next ∙ ap (λ last. is_open last kind) (ends-behind i items h) ∙ sym e

pub entries_from-closed : (line t done pending i : ℕ) (items : List Item) (item d : Item) (m : Maker) → i < length items → item ≡ get_or items i d → false ≡ is_open (i + 1 == length items) item.kind →
    entries_from line t (done_behind item.kind done) (pending_behind item.kind pending) (entries (fields_of (drop (i + 1) items))) (closed_part line t done pending item.kind m)
    ≡ entries_from line t done pending (entries (fields_of (drop i items))) m
entries_from-closed line t done pending i items item d m h same is =
    by_closed line t done pending item.kind item (drop (i + 1) items) m (tested i items item.kind false h is)
    ∙ sym (ap (λ xs. entries_from line t done pending (entries (fields_of xs)) m) (from_place items i item d h same))
