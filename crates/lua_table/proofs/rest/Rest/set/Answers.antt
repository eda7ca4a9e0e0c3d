use Rattle.std.proofs.Common.{◌≡◌, ℕ, false, sym, ap, ◌∙◌}
use Rattle.lua_table.specs.declared.rest.Listed.{Listed}
use Rattle.lua_table.specs.Entries.{Entries, has_place}
use Rattle.lua_table.specs.Kept.{kept_split}
use Rattle.lua_table.specs.Rows.{Split}
use Rattle.lua_table.proofs.Mapped.{nil_kept}
use Rattle.lua_table.proofs.rest.Rest.set.Goals as goal

abbrev split : ℕ → Entries → Split
split n ps = record { pairs = ps; before = n }

pub returns-then-is_nil-3-clause-pairs : goal.returns-then-is_nil-3-clause-pairs
returns-then-is_nil-3-clause-pairs c =
    let s : Split = c.args.self.now in
    let list = c.deref_mut.result.now in
    let whole = ap (λ (l : Listed). split l.before l.pairs) c.deref_mut.ensures.value ∙ ap kept_split (sym c.in-InList.is) ∙ c.self.view_is in
    let absent : has_place s.pairs c.args.key ≡ false = ap (λ (t : Split). has_place t.pairs c.args.key) (sym whole) ∙ sym c.replace.ensures.placed ∙ c.if-replace.false in
    ap (λ ps. split list.before ps) (c.replace.ensures.missing c.if-replace.false)
    ∙ whole
    ∙ sym (ap (λ ps. split s.before ps) (nil_kept s.pairs c.args.key c.args.value absent (sym c.is_nil-in-InList.ensures ∙ c.if-is_nil-3.true)))
