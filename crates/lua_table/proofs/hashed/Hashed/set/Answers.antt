use Rattle.std.proofs.Common.{ℕ, Bool, refl, ◌≡◌, ◌≤◌, true, false, is_some, ap, ◌∙◌, sym, if◌then◌else◌, arith, true≢false}
use Rattle.lua_table.proofs.Mapped.{has_lookup, insert_means, nil_kept}
use Rattle.lua_table.specs.Entries.{has_place, with_entry, is_nil_value}
use Rattle.lua_table.proofs.hashed.Hashed.set.Goals.{else-is_nil-2-via-then-is_nil-2+else-not-has, else-is_nil-2-via-else-is_nil-2, else-len-ge-MOST_PAIRS-via-then-len-ge-MOST_PAIRS+else-not-has-2, else-len-ge-MOST_PAIRS-via-else-len-ge-MOST_PAIRS}
use Rattle.lua_table.proofs.hashed.Hashed.set.Goals as goal

abbrev added : Bool → ℕ
added b = if b then 0 else 1

none_more : (b : Bool) → b ≡ true → added b ≡ 0
none_more true e = refl
none_more false e = absurd (true≢false (sym e))

one_more : (b : Bool) → added b ≤ 1
one_more true = omega arith
one_more false = omega arith

pub returns-then-not-has-clause-pairs : goal.returns-then-not-has-clause-pairs
returns-then-not-has-clause-pairs c =
    sym (nil_kept c.args.self.now c.args.key c.args.value (sym c.has.ensures ∙ c.if-not-has.true) (sym c.is_nil-2.ensures ∙ c.if-is_nil-2.true))

pub returns-in_err-insert-clause-memory : goal.returns-in_err-insert-clause-memory
returns-in_err-insert-clause-memory c =
    let ps = c.self-2.inside.map.entries in
    let none : has_place c.args.self.now c.args.key ≡ false = ap (λ p. has_place p c.args.key) (sym c.self-2.view_is) ∙ sym (has_lookup ps c.args.key) ∙ ap is_some c.in_err-insert.ensures.absent in
    let some : is_nil_value c.args.value ≡ false = elim c.else-is_nil-2.branch [ else-is_nil-2-via-then-is_nil-2+else-not-has w ↦ absurd (true≢false (sym (sym w.has.ensures ∙ w.if-not-has.false) ∙ none)) | else-is_nil-2-via-else-is_nil-2 w ↦ sym c.is_nil-2.ensures ∙ w.if-is_nil-2.false ] in
    λ e. (none, some)

pub invariant_of-self-2 : goal.invariant_of-self-2
invariant_of-self-2 c =
    let ps = c.self-2.inside.map.entries in
    elim c.else-len-ge-MOST_PAIRS.branch [
      | else-len-ge-MOST_PAIRS-via-then-len-ge-MOST_PAIRS+else-not-has-2 w ↦
          let there : is_some c.in_ok-insert.field-0 ≡ true = ap is_some c.in_ok-insert.ensures.old ∙ has_lookup ps c.args.key ∙ ap (λ p. has_place p c.args.key) c.self-2.view_is ∙ sym w.has-then-len-ge-MOST_PAIRS.ensures ∙ w.if-not-has-2.false in
          omega (arith, c.in_ok-insert.ensures.len, none_more (is_some c.in_ok-insert.field-0) there, c.self-2.invariant)
      | else-len-ge-MOST_PAIRS-via-else-len-ge-MOST_PAIRS w ↦
          omega (arith, c.in_ok-insert.ensures.len, one_more (is_some c.in_ok-insert.field-0), c.len.ensures.len, w.if-len-ge-MOST_PAIRS.false)
    ]

pub returns-clause-pairs : goal.returns-clause-pairs
returns-clause-pairs c =
    let ps = c.self-2.inside.map.entries in
    let new_value : has_place ps c.args.key ≡ false → is_nil_value c.args.value ≡ false =
    λ none. elim c.else-is_nil-2.branch [
      | else-is_nil-2-via-then-is_nil-2+else-not-has w ↦ absurd (true≢false (sym (sym w.has.ensures ∙ w.if-not-has.false) ∙ ap (λ p. has_place p c.args.key) (sym c.self-2.view_is) ∙ none))
      | else-is_nil-2-via-else-is_nil-2 w ↦ sym c.is_nil-2.ensures ∙ w.if-is_nil-2.false
    ] in
    c.in_ok-insert.ensures.entries ∙ insert_means ps c.args.key c.args.value new_value ∙ ap (λ p. with_entry p c.args.key c.args.value) c.self-2.view_is
