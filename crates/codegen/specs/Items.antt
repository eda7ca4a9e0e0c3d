-- Serves the bodies. Items of a constructor: which count as positional, which is open, and what an item puts.
use Rattle.std.specs.Prelude.{ℕ, suc, Bool, false, not, ◌&&◌}
use Rattle.lua_tree.specs.View.{view_kind}
use Rattle.lua_tree.specs.declared.tree.ItemKind.{ItemKind, Positional', Named', Keyed'}
use Rattle.scheme.specs.Making.{◌>>◌, Part, nothing, freeing}
use Rattle.scheme.specs.Expressions.{is_multiple, next_reg, rk, rk_text}
use Rattle.scheme.specs.Lists.{keyed_item, full_end, open_entry, pending_after}
use Rattle.scheme.specs.Scheme.{coded}

-- an open last item does not count
abbrev pub is_positional : (last : Bool) → ItemKind → Bool
is_positional last (Positional' l k) = not (last && is_multiple (view_kind k l))
is_positional last (Named' name l k) = false
is_positional last (Keyed' l k l' k') = false

abbrev pub is_open : (last : Bool) → ItemKind → Bool
is_open last (Positional' l k) = last && is_multiple (view_kind k l)
is_open last (Named' name l k) = false
is_open last (Keyed' l k l' k') = false

abbrev pub open_part : (line t done : ℕ) → ItemKind → Part
open_part line t done (Positional' l k) = open_entry line t done (coded (view_kind k l))
open_part line t done (Named' name l k) = nothing
open_part line t done (Keyed' l k l' k') = nothing

abbrev pub closed_part : (line t done pending : ℕ) → ItemKind → Part
closed_part line t done pending (Positional' l k) = next_reg (coded (view_kind k l)) >> full_end line t (suc done) (suc pending)
closed_part line t done pending (Named' name l k) = freeing (keyed_item line t (rk_text line name) (coded (view_kind k l)))
closed_part line t done pending (Keyed' l k l' k') = freeing (keyed_item line t (rk (coded (view_kind k l))) (coded (view_kind k' l')))

-- how many positional items are done behind an item, and how many of these are pending
abbrev pub done_behind : ItemKind → ℕ → ℕ
done_behind (Positional' l k) done = suc done
done_behind (Named' name l k) done = done
done_behind (Keyed' l k l' k') done = done

abbrev pub pending_behind : ItemKind → ℕ → ℕ
pending_behind (Positional' l k) pending = pending_after (suc pending)
pending_behind (Named' name l k) pending = pending
pending_behind (Keyed' l k l' k') pending = pending
