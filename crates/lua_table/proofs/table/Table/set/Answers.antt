use Rattle.std.proofs.Common.{◌≡◌, ◌+◌, sym, ap, ◌∙◌, arith, subst}
use Rattle.lua_table.specs.Entries.{IsBorder, number_key}
use Rattle.lua_table.specs.Rows.{IsFull, IsFullBut}
use Rattle.lua_table.proofs.Borders.{lowered, kept_unless_there, kept_outside, behind, hole_opened, hole_kept, hole_filled, cut_short, kept_beyond, kept_full}
use Rattle.lua_table.proofs.table.Table.set.Goals as goal

pub invariant_of-self-in_default : goal.invariant_of-self-in_default
invariant_of-self-in_default c =
    let ps = c.self.inside.pairs in
    let b = c.self.inside.border in
    let n = c.self.inside.full_to in
    let border = kept_outside ps b c.args.key c.args.value c.self.invariant.0 (λ m l. c.in_default.ensures.missing m (omega (arith, l, c.self.invariant.2))) in
    let full = kept_beyond ps b n c.args.key c.args.value c.self.invariant.1 c.in_default.ensures.missing in
    (subst (λ qs. IsBorder qs b) (sym c.in_ok-set.ensures.pairs) border, subst (λ qs. IsFullBut qs b n) (sym c.in_ok-set.ensures.pairs) full, c.self.invariant.2, c.self.invariant.3)

pub invariant_of-self-then-i-self : goal.invariant_of-self-then-i-self
invariant_of-self-then-i-self c =
    let ps = c.self.inside.pairs in
    let b = c.self.inside.border in
    let i = c.in-Some.i in
    let key = c.in-Some.ensures.found.1 in
    let border = lowered ps b i c.args.key c.args.value c.self.invariant.0 (omega (arith, c.if-i-self.true)) key (sym c.is_nil.ensures ∙ c.if-is_nil.true) in
    let full = hole_opened ps b i c.args.key c.args.value c.self.invariant.0 key in
    (subst (λ qs. IsBorder qs i) (sym c.in_ok-set.ensures.pairs) border, subst (λ qs. IsFullBut qs i b) (sym c.in_ok-set.ensures.pairs) full, c.if-i-self.true, omega (arith, c.self.invariant.2, c.self.invariant.3))

pub invariant_of-self-then-i-self-2 : goal.invariant_of-self-then-i-self-2
invariant_of-self-then-i-self-2 c =
    let ps = c.self.inside.pairs in
    let b = c.self.inside.border in
    let i = c.in-Some.i in
    let found = c.in-Some.ensures.found in
    let border = kept_outside ps b c.args.key c.args.value c.self.invariant.0 (behind b i c.args.key c.if-i-self-2.true found.1) in
    let full = cut_short ps b c.self.inside.full_to i c.args.key c.args.value c.self.invariant.1 found.0 found.1 in
    (subst (λ qs. IsBorder qs b) (sym c.in_ok-set.ensures.pairs) border, subst (λ qs. IsFullBut qs b i) (sym c.in_ok-set.ensures.pairs) full, c.if-i-self-2.true, omega (arith, found.0, c.self.invariant.3))

pub invariant_of-self-else-i-self-2 : goal.invariant_of-self-else-i-self-2
invariant_of-self-else-i-self-2 c =
    let ps = c.self.inside.pairs in
    let b = c.self.inside.border in
    let n = c.self.inside.full_to in
    let here : c.in-Some.i + 1 ≡ b + 1 = omega (arith, c.if-i-self.false, c.if-i-self-2.false) in
    let key = c.in-Some.ensures.found.1 ∙ ap number_key here in
    let border = lowered ps b b c.args.key c.args.value c.self.invariant.0 (omega arith) key (sym c.is_nil.ensures ∙ c.if-is_nil.true) in
    let full = hole_kept ps b n c.args.key c.args.value c.self.invariant.1 key in
    (subst (λ qs. IsBorder qs b) (sym c.in_ok-set.ensures.pairs) border, subst (λ qs. IsFullBut qs b n) (sym c.in_ok-set.ensures.pairs) full, c.self.invariant.2, c.self.invariant.3)

pub walk-self-inside-requires : goal.walk-self-inside-requires
walk-self-inside-requires c =
    let ps = c.self.inside.pairs in
    let b = c.self.inside.border in
    let n = c.self.inside.full_to in
    let here : c.in-Some.i + 1 ≡ b + 1 = omega (arith, c.if-i-self-3.true) in
    let full = hole_filled ps b n c.args.key c.args.value c.self.invariant.1 (c.in-Some.ensures.found.1 ∙ ap number_key here) (sym c.is_nil.ensures ∙ c.if-is_nil.false) in
    subst (λ qs. IsFull qs n) (sym c.in_ok-set.ensures.pairs) full

pub invariant_of-self-else-i-self-3 : goal.invariant_of-self-else-i-self-3
invariant_of-self-else-i-self-3 c =
    let ps = c.self.inside.pairs in
    let b = c.self.inside.border in
    let n = c.self.inside.full_to in
    let key = c.in-Some.ensures.found.1 in
    let value = sym c.is_nil.ensures ∙ c.if-is_nil.false in
    let border = kept_unless_there ps b c.in-Some.i c.args.key c.args.value c.self.invariant.0 c.if-i-self-3.false key value in
    let full = kept_full ps b n c.args.key c.args.value c.self.invariant.1 value in
    (subst (λ qs. IsBorder qs b) (sym c.in_ok-set.ensures.pairs) border, subst (λ qs. IsFullBut qs b n) (sym c.in_ok-set.ensures.pairs) full, c.self.invariant.2, c.self.invariant.3)
