-- Assignments, by their targets and values.
use Rattle.std.proofs.Common.{◌≡◌, ℕ, zero, suc, ◌<◌, Bool, true, false, cond, List, [], ◌∷◌, ◌++◌, length, get_or, refl, sym, ap, ◌∙◌, arith}
use Rattle.std.specs.Prelude.{◌&&◌, ◌||◌}
use Rattle.std.proofs.lemmas.Bool.{eq-eqb, ne_eqb}
use Rattle.lua_tree.specs.TreeLists.{expressions_of}
use Rattle.lua_tree.specs.declared.tree.Exp.{Exp}
use Rattle.scheme.specs.Making.{Maker, Part, active_count, answer}
use Rattle.scheme.specs.Expressions.{Coded, Target}
use Rattle.scheme.specs.Statements.{all_targets, clashes, copied, copies, each_stored, assign_adjusted, assign_part, store, store_register, is_part_of}
use Rattle.scheme.specs.Scheme.{all_coded}
use Rattle.codegen.specs.Targets.{stored_back}

-- ---- one target has no copies

and_false : (b : Bool) → (b && false || false) ≡ false
and_false true = refl
and_false false = refl

no_clash : (x : ℕ) (target : Target) → clashes x (target ∷ []) ≡ false
no_clash x target = and_false (is_part_of x target)

copies_one : (line n : ℕ) (target : Target) (m : Maker) → copies line n (target ∷ []) m ≡ record { value = target ∷ []; after = m }
copies_one line zero target m = refl
copies_one line (suc x) target m =
    ap (λ g. cond (clashes x (target ∷ [])) (copied line x g.value) (answer g.value) g.after) (copies_one line x target m)
    ∙ ap (λ b. cond b (copied line x (target ∷ [])) (answer (target ∷ [])) m) (no_clash x target)

pub assign_part-one : (line : ℕ) (to value : Coded) (m : Maker) → store line (to.target m).value value (to.target m).after ≡ assign_part line (to ∷ []) (value ∷ []) m
assign_part-one line to value m =
    sym (ap (λ g. each_stored line g.value (value ∷ []) g.after) (copies_one line (active_count (to.target m).after) (to.target m).value (to.target m).after))

-- ---- several

coded_length : (list : List Exp) → length (all_coded (expressions_of list)) ≡ length list
coded_length [] = refl
coded_length (e ∷ list) = ap suc (coded_length list)

pub all_targets-length : (targets : List Coded) (m : Maker) → length (all_targets targets m).value ≡ length targets
all_targets-length [] m = refl
all_targets-length (c ∷ cs) m = ap suc (all_targets-length cs (c.target m).after)

-- what is done with the targets and their copies
by_places : (finish : List Target → Part) (line : ℕ) (targets : List Coded) (m mt mc n : Maker) (count : ℕ) (ts ps : List Target) →
    ts ≡ (all_targets targets m).value → mt ≡ (all_targets targets m).after → count ≡ active_count mt →
    ps ≡ (copies line count ts mt).value → mc ≡ (copies line count ts mt).after → n ≡ finish ps mc →
    n ≡ finish (copies line (active_count (all_targets targets m).after) (all_targets targets m).value (all_targets targets m).after).value (copies line (active_count (all_targets targets m).after) (all_targets targets m).value (all_targets targets m).after).after
by_places finish line targets m mt mc n count ts ps tsE mtE countE psE mcE nE =
    nE ∙ ap (λ p. finish p mc) psE ∙ ap (λ x. finish (copies line count ts mt).value x) mcE
    ∙ ap (λ k. finish (copies line k ts mt).value (copies line k ts mt).after) countE
    ∙ ap (λ x. finish (copies line (active_count mt) x mt).value (copies line (active_count mt) x mt).after) tsE
    ∙ ap (λ x. finish (copies line (active_count x) (all_targets targets m).value x).value (copies line (active_count x) (all_targets targets m).value x).after) mtE

pub assign_part-each : (line : ℕ) (targets values : List Coded) (m mt mc n : Maker) (count : ℕ) (ts ps : List Target) → length values ≡ length targets →
    ts ≡ (all_targets targets m).value → mt ≡ (all_targets targets m).after → count ≡ active_count mt →
    ps ≡ (copies line count ts mt).value → mc ≡ (copies line count ts mt).after → n ≡ each_stored line ps values mc → n ≡ assign_part line targets values m
assign_part-each line targets values m mt mc n count ts ps same tsE mtE countE psE mcE nE =
    by_places (λ p. each_stored line p values) line targets m mt mc n count ts ps tsE mtE countE psE mcE nE
    ∙ ap (λ b. let got = all_targets targets m in let places = copies line (active_count got.after) got.value got.after in cond b (each_stored line places.value values) (assign_adjusted line places.value values) places.after)
    (sym (eq-eqb (length values) (length targets) same))

pub assign_part-adjusted : (line : ℕ) (targets values : List Coded) (m mt mc n : Maker) (count : ℕ) (ts ps : List Target) → (length values ≡ length targets → ⊥) →
    ts ≡ (all_targets targets m).value → mt ≡ (all_targets targets m).after → count ≡ active_count mt →
    ps ≡ (copies line count ts mt).value → mc ≡ (copies line count ts mt).after → n ≡ assign_adjusted line ps values mc → n ≡ assign_part line targets values m
assign_part-adjusted line targets values m mt mc n count ts ps differ tsE mtE countE psE mcE nE =
    by_places (λ p. assign_adjusted line p values) line targets m mt mc n count ts ps tsE mtE countE psE mcE nE
    ∙ ap (λ b. let got = all_targets targets m in let places = copies line (active_count got.after) got.value got.after in cond b (each_stored line places.value values) (assign_adjusted line places.value values) places.after)
    (sym (ne_eqb (length values) (length targets) differ))

copied_length : (line x : ℕ) (targets : List Target) (m : Maker) → length (copied line x targets m).value ≡ length targets
copied_length line x targets m = go targets
  where
    go : (ts : List Target) → length (copied line x ts m).value ≡ length ts
    go [] = refl
    go (t ∷ ts) = ap suc (go ts)

clashed_length : (line x : ℕ) (targets before : List Target) (m : Maker) (b : Bool) → length before ≡ length targets →
    length (cond b (copied line x before) (answer before) m).value ≡ length targets
clashed_length line x targets before m true same = copied_length line x before m ∙ same
clashed_length line x targets before m false same = same

pub copies_length : (line n : ℕ) (targets : List Target) (m : Maker) → length (copies line n targets m).value ≡ length targets
copies_length line zero targets m = refl
copies_length line (suc x) targets m =
    clashed_length line x targets (copies line x targets m).value (copies line x targets m).after (clashes x targets) (copies_length line x targets m)

-- one more register behind the others
pub stored_back-more : (line : ℕ) (ts : List Target) (rs : List ℕ) (r : ℕ) (t d : Target) (m : Maker) → length rs < length ts → t ≡ get_or ts (length rs) d →
    stored_back line ts (rs ++ r ∷ []) m ≡ stored_back line ts rs (store_register line t r m)
stored_back-more line [] rs r t d m h same = absurd (omega (arith, h))
stored_back-more line (one ∷ ts) [] r t d m h same =
    ap (λ x. store_register line one r x) (none ts) ∙ ap (λ x. store_register line x r m) (sym same)
  where
    none : (ts : List Target) → stored_back line ts [] m ≡ m
    none [] = refl
    none (t ∷ ts) = refl
stored_back-more line (one ∷ ts) (q ∷ rs) r t d m h same = ap (store_register line one q) (stored_back-more line ts rs r t d m (omega (arith, h)) same)
