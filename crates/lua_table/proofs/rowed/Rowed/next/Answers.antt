use Rattle.std.proofs.Common.{◌+◌, ◌++◌, ◌<◌, ◌≤◌, Some, length, take, drop, sym, ap, subst, ◌∙◌, arith, if◌then◌else◌}
use Rattle.std.proofs.Math.Seq.{take-length}
use Rattle.lua_table.specs.Entries.{Entries, first_pair, pair_after, next_of}
use Rattle.lua_table.specs.Rows.{row_pairs, around, IsOutside}
use Rattle.lua_table.proofs.Around.{row_hit, next_front, next_back, next_none}
use Rattle.lua_table.proofs.rowed.Rowed.next.Goals as goal

pub returns-in-Some-clause-pair : goal.returns-in-Some-clause-pair
returns-in-Some-clause-pair c =
    let s = c.self.inside.rest in
    let vs = c.self.inside.row.items in
    let A : Entries = around s vs in
    let k = c.args.key in
    let i = c.in-Some.i in
    let h = row_hit s vs i k c.self.invariant (subst (λ ws. i < length ws) c.as_slice-row.ensures.value c.in-Some.ensures.found.0) c.in-Some.ensures.found.1 in
    ap (λ ps. next_of ps k) (sym c.self.view_is)
    ∙ ap (λ b. if b then Some (first_pair A) else pair_after A k) (sym c.is_nil.ensures ∙ c.if-is_nil.false)
    ∙ h.next
    ∙ ap Some (ap (λ ws. first_pair (row_pairs (i + 1) (drop (i + 1) ws) ++ drop s.before s.pairs)) (sym c.as_slice-row.ensures.value) ∙ sym c.first_in_row.ensures)

pub returns-in_default-place-clause-unknown : goal.returns-in_default-place-clause-unknown
returns-in_default-place-clause-unknown c =
    let s = c.self.inside.rest in
    let vs = c.self.inside.row.items in
    let A : Entries = around s vs in
    let k = c.args.key in
    let outside = subst (λ ws. IsOutside (length ws) k) c.as_slice-row.ensures.value c.in_default.ensures.missing in
    ap (λ ps. next_of ps k) (sym c.self.view_is)
    ∙ ap (λ b. if b then Some (first_pair A) else pair_after A k) (sym c.is_nil.ensures ∙ c.if-is_nil.false)
    ∙ next_none s vs k outside (sym c.in_default-place.ensures.place)

pub returns-then-i-before-clause-pair : goal.returns-then-i-before-clause-pair
returns-then-i-before-clause-pair c =
    let s = c.self.inside.rest in
    let vs = c.self.inside.row.items in
    let A : Entries = around s vs in
    let k = c.args.key in
    let i = c.in-Some-place.i in
    let front : i < s.before = omega (arith, c.if-i-before.true, c.before-2.ensures) in
    ap (λ ps. next_of ps k) (sym c.self.view_is)
    ∙ ap (λ b. if b then Some (first_pair A) else pair_after A k) (sym c.is_nil.ensures ∙ c.if-is_nil.false)
    ∙ next_front s vs k i (sym c.in-Some-place.ensures.place) front
    ∙ ap Some (ap (λ ws. first_pair (drop (i + 1) (take s.before s.pairs) ++ (row_pairs 0 ws ++ drop s.before s.pairs))) (sym c.as_slice-row.ensures.value) ∙ sym c.first_from-then-i-before.ensures)

pub returns-clause-pair : goal.returns-clause-pair
returns-clause-pair c =
    let s = c.self.inside.rest in
    let vs = c.self.inside.row.items in
    let A : Entries = around s vs in
    let k = c.args.key in
    let i = c.in-Some-place.i in
    let back : s.before ≤ i = omega (arith, c.if-i-before.false, c.before-2.ensures) in
    let outside = subst (λ ws. IsOutside (length ws) k) c.as_slice-row.ensures.value c.in_default.ensures.missing in
    ap (λ ps. next_of ps k) (sym c.self.view_is)
    ∙ ap (λ b. if b then Some (first_pair A) else pair_after A k) (sym c.is_nil.ensures ∙ c.if-is_nil.false)
    ∙ next_back s vs k i outside (sym c.in-Some-place.ensures.place) back
    ∙ ap Some (ap (λ ps. first_pair (drop (i + 1) ps)) (sym (take-length s.pairs)) ∙ ap (λ n. first_pair (drop (i + 1) (take n s.pairs))) (sym c.len.ensures.len) ∙ sym c.first_in.ensures)
