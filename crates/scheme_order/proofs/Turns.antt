-- A comparison of a local agrees with the comparison the other way round.
use Rattle.std.proofs.Common.{◌≡◌, ℕ, Bool, true, cond, List, ◌∷◌, refl, sym, ap, ◌∙◌, true≢false}
use Rattle.std.specs.Prelude.{None}
use Rattle.lua_tree.specs.declared.tree.BinaryOp.{BinaryOp}
use Rattle.lua_tree.specs.Scoping.{Use, local_use}
use Rattle.lua_tree.specs.Syntax.{Expression, binary_expression, name_expression, parenthesized}
use Rattle.scheme.specs.Making.{Maker, Got, register_among, put, jump_to, freeing, next_name}
use Rattle.scheme.specs.Expressions.{fold, number_or, literal, is_name, Coded, register_of, operand_by, rk_by, rk, comparison_word, compare, single, truth_value, coded_binary}
use Rattle.scheme_order.specs.Turned.{turned_op, is_greater}
use Rattle.scheme_order.proofs.Makers.{Names, one_name, and_then, with_names, Agree, AgreeAsks, mirrored, mirrored_asks, same_freeing}
use Rattle.scheme_order.proofs.Trees.{SameLook, look_plain}
use Rattle.scheme_order.proofs.Expressions.{SameValue, SameParts, same_rk, same_single, truth_by}

-- ---- a local as an operand

-- a name is not folded
name_folds : (e : Expression) → is_name e ≡ true → fold e ≡ None
name_folds (name_expression line text) is = refl
name_folds (parenthesized line e) is = name_folds e is
name_folds e is = cc

-- a name is no literal
name_plain : (e : Expression) → is_name e ≡ true → literal e ≡ None
name_plain (name_expression line text) is = refl
name_plain (parenthesized line e) is = ap (λ o. number_or o None) (name_folds e is)
name_plain e is = cc

-- a local of this number is its register, and nothing is made for it
abbrev pub TakesLocal : ℕ → Coded → Type 0
TakesLocal d c = (m : Maker) (rest : List Use) → rk c (with_names (local_use d ∷ rest) m) ≡ record { value = register_among d m.active; after = with_names rest m }

-- a name takes no more than what it means
pub takes_local : (d : ℕ) (c : Coded) → is_name c.e ≡ true → TakesLocal d c
takes_local d c is m rest =
    let n = with_names (local_use d ∷ rest) m in
    ap (λ o. rk_by o c n) (name_plain c.e is) ∙ ap (λ b. operand_by (cond b (register_of (next_name n)) None) c n) is

-- ---- a comparison, and the other way round

-- what a test makes of its two operands
abbrev made_by : (line : ℕ) → BinaryOp → (truth : Bool) → (label x : ℕ) → Got ℕ → Maker
made_by line op truth label x y = jump_to line label (put line (comparison_word op truth x y.value) y.after)

-- the left operand is a local: the two tests make the same
swapped : {here there : Names} (line : ℕ) (op other : BinaryOp) (truth : Bool) (label d : ℕ) (left right third fourth : Coded) →
    ((x y : ℕ) → comparison_word op truth x y ≡ comparison_word other truth y x) →
    TakesLocal d left → TakesLocal d fourth → AgreeAsks true here there (rk right) (rk third) →
    Agree true (and_then (one_name (local_use d)) here) (and_then there (one_name (local_use d))) (compare line op left right truth label) (compare line other third fourth truth label)
swapped {here} {there} line op other truth label d left right third fourth word p q s = record {
  made = λ m. made_by line op truth label (register_among d m.active) (s.made m);
  first = λ m rest.
      ap (λ (x : Got ℕ). made_by line op truth label x.value (rk right x.after)) (p m (here rest))
      ∙ ap (made_by line op truth label (register_among d m.active)) (s.first m rest);
  second = λ m rest.
      let y = s.made m in
      let ending = λ (x : Got ℕ). jump_to line label (put line (comparison_word other truth y.value x.value) x.after) in
      ap (λ (y : Got ℕ). made_by line other truth label y.value (rk fourth y.after)) (s.second m (local_use d ∷ rest))
      ∙ ap ending (q y.after rest)
      ∙ ap (λ active. ending (record { value = register_among d active; after = with_names rest y.after })) (s.active refl m)
      ∙ ap (λ piece. jump_to line label (put line piece (with_names rest y.after))) (sym (word (register_among d m.active) y.value));
  active = λ e m. s.active refl m;
}

-- the words of a comparison, and of the other way round
greater_word : (op : BinaryOp) → is_greater op ≡ true → (truth : Bool) (x y : ℕ) → comparison_word op truth x y ≡ comparison_word (turned_op op) truth y x
greater_word BinaryOp.Gt is truth x y = refl
greater_word BinaryOp.Ge is truth x y = refl
greater_word op is truth x y = cc

-- ---- as an expression

-- an expression that compares
abbrev comparison : (line : ℕ) → BinaryOp → Expression → (left right : Coded) → Coded
comparison line op e left right = record (single line e (truth_value line op left right)) { jump_if = λ truth label. freeing (compare line op left right truth label) }

-- where the tests agree, so do the expressions
same_comparison : {here there : Names} (line : ℕ) (op other : BinaryOp) (left right third fourth : Coded) (e f : Expression) → SameLook here there e f →
    ((truth : Bool) (label : ℕ) → Agree true here there (compare line op left right truth label) (compare line other third fourth truth label)) →
    SameParts here there (comparison line op e left right) (comparison line other f third fourth)
same_comparison line op other left right third fourth e f look p =
    let v = same_single line e f (truth_value line op left right) (truth_value line other third fourth) look (truth_by left right third fourth line op other (p true)) in
    record { value = record { look = look; to_reg = v.value.to_reg }; jump_if = λ truth label. same_freeing (p truth label); spine = v.spine }

-- where the tests agree, so do the comparison and the turned one
abbrev Greater : BinaryOp → Type 0
Greater op = (here there : Names) (line : ℕ) (left right third fourth : Coded) (e f g h : Expression) →
    ((truth : Bool) (label : ℕ) → Agree true here there (compare line op left right truth label) (compare line (turned_op op) third fourth truth label)) →
    SameParts here there (coded_binary line op (binary_expression line op e f) left right) (coded_binary line (turned_op op) (binary_expression line (turned_op op) g h) third fourth)

-- `>`
above : Greater BinaryOp.Gt
above here there line left right third fourth e f g h =
    same_comparison line BinaryOp.Gt BinaryOp.Lt left right third fourth (binary_expression line BinaryOp.Gt e f) (binary_expression line BinaryOp.Lt g h)
    (look_plain refl refl refl refl refl refl refl)

-- `>=`
above_or_equal : Greater BinaryOp.Ge
above_or_equal here there line left right third fourth e f g h =
    same_comparison line BinaryOp.Ge BinaryOp.Le left right third fourth (binary_expression line BinaryOp.Ge e f) (binary_expression line BinaryOp.Le g h)
    (look_plain refl refl refl refl refl refl refl)

-- both
same_greater : (op : BinaryOp) → is_greater op ≡ true → Greater op
same_greater BinaryOp.Gt is = above
same_greater BinaryOp.Ge is = above_or_equal
same_greater op is = absurd (true≢false (sym is))

-- the left operand is a local
pub same_turned_left : {here there : Names} (line : ℕ) (op : BinaryOp) (d : ℕ) (left right third fourth : Coded) (e f g h : Expression) → is_greater op ≡ true → TakesLocal d left →
    TakesLocal d fourth → SameValue here there right third →
    SameParts (and_then (one_name (local_use d)) here) (and_then there (one_name (local_use d)))
    (coded_binary line op (binary_expression line op e f) left right) (coded_binary line (turned_op op) (binary_expression line (turned_op op) g h) third fourth)
same_turned_left line op d left right third fourth e f g h is p q s =
    same_greater op is _ _ line left right third fourth e f g h (λ truth label. swapped line op (turned_op op) truth label d left right third fourth (greater_word op is truth) p q (same_rk s))

-- the right one is
pub same_turned_right : {here there : Names} (line : ℕ) (op : BinaryOp) (d : ℕ) (left right third fourth : Coded) (e f g h : Expression) → is_greater op ≡ true → TakesLocal d right →
    TakesLocal d third → SameValue here there left fourth →
    SameParts (and_then here (one_name (local_use d))) (and_then (one_name (local_use d)) there)
    (coded_binary line op (binary_expression line op e f) left right) (coded_binary line (turned_op op) (binary_expression line (turned_op op) g h) third fourth)
same_turned_right line op d left right third fourth e f g h is p q s =
    same_greater op is _ _ line left right third fourth e f g h (λ truth label.
    mirrored (swapped line (turned_op op) op truth label d third fourth left right (λ x y. sym (greater_word op is truth y x)) q p (mirrored_asks (same_rk s))))
