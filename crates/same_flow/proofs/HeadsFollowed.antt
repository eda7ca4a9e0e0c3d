-- The heads of `for` loops follow the steps that they stand on.
use Rattle.std.proofs.Common.{◌≡◌, ℕ, suc, ◌+◌, ◌-◌, Bool, true, false, List, [], ◌∷◌, ◌++◌, length, set, refl, sym, ap, ap₂, ◌∙◌, arith}
use Rattle.std.specs.Prelude.{Some, None, ◌&&◌, replicate, pos}
use Rattle.lua_num.specs.Bytes.{Text}
use Rattle.lua_tree.specs.Syntax.{Expressions, Expression, ForStep, no_step, by_step}
use Rattle.opcode.specs.declared.op.Op.{Op}
use Rattle.proto.specs.declared.parts.Constant.{Constant}
use Rattle.recover_expr.specs.Drafts.{Part, head_part}
use Rattle.recover_expr.specs.declared.steps.StepKind.{StepKind}
use Rattle.scheme.specs.Making.{Maker, place, put, jump_to, take_registers, used, constant, declare, activate, active_count, Got}
use Rattle.scheme.specs.Expressions.{next_reg}
use Rattle.scheme.specs.Lists.{adjust}
use Rattle.scheme.specs.Statements.{settle, step_part, numeric_names, generic_names}
use Rattle.scheme.specs.Scheme.{coded, all_coded, step_coded}
use Rattle.scheme.specs.Shapes.{plainness, plain_values}
use Rattle.scheme.specs.declared.making.Piece.{Piece}
use Rattle.scheme.specs.declared.making.Item.{Item}
use Rattle.scheme.specs.declared.making.Local.{Local}
use Rattle.scheme.specs.declared.making.Active.{Active}
use Rattle.same_flow.specs.Laid.{HasStep, label_of, with_new_labels, numeric_valued, numeric_begun, generic_valued, generic_begun, head_values}
use Rattle.same_flow.specs.Performed.{kind_at, part_at, kind_made, counted_values}
use Rattle.same_flow.specs.Renaming.{Renames, StatementsRename}
use Rattle.same_flow.specs.SameFlow.{HasPlainParts}
use Rattle.same_flow.proofs.KeptActive.{active_kept, kept, all_kept, next_kept, adjust_kept}
use Rattle.same_flow.proofs.Endings.{numbered, put_numbered, alike_by, alike_put, alike_activate, alike_declare, same_declared, labels_kept}
use Rattle.same_flow.proofs.Followed.{Run, OneStep, length_both, settle_same}
use Rattle.same_flow.proofs.TestsFollowed.{kind_there}
use Rattle.same_flow.proofs.RunKeeps.{declared_active}
use Rattle.same_flow.proofs.BlocksFollowed.{replicated}
use Rattle.same_flow.proofs.FreeValues.{next_free, step_free, adjust_free}

-- ---- what activation and declaration leave

pub activated_count : (locals : List Local) (m : Maker) → active_count (activate locals m) ≡ active_count m + length locals
activated_count [] m = omega arith
activated_count (local ∷ locals) m =
    let one : Active = record { local = local; listed = length m.locals } in
    let a = activated_count locals (record m { active = m.active ++ one ∷ []; locals = m.locals ++ record { name = local.name; start = length m.items; end = length m.items } ∷ [] }) in
    let b = length_both m.active (one ∷ []) in
    let n = length locals in
    omega arith

pub activated_free : (locals : List Local) (m : Maker) → (activate locals m).free ≡ m.free
activated_free [] m = refl
activated_free (local ∷ locals) m = activated_free locals _

pub activated_items : (locals : List Local) (m : Maker) → (activate locals m).items ≡ m.items
activated_items [] m = refl
activated_items (local ∷ locals) m = activated_items locals _

pub activated_labels : (locals : List Local) (m : Maker) → (activate locals m).labels ≡ m.labels
activated_labels [] m = refl
activated_labels (local ∷ locals) m = activated_labels locals _

pub declared_free : (texts : List Text) (m : Maker) → (declare texts m).after.free ≡ m.free
declared_free [] m = refl
declared_free (text ∷ texts) m = declared_free texts _

pub declared_labels : (texts : List Text) (m : Maker) → (declare texts m).after.labels ≡ m.labels
declared_labels [] m = refl
declared_labels (text ∷ texts) m = declared_labels texts _

-- the first of three new labels is placed
set_three : (xs : List ℕ) (y : ℕ) → set (((xs ++ 0 ∷ []) ++ 0 ∷ []) ++ 0 ∷ []) (length xs) y ≡ xs ++ y ∷ 0 ∷ 0 ∷ []
set_three [] y = refl
set_three (x ∷ xs) y = ap (λ l. x ∷ l) (set_three xs y)

-- ---- heads

abbrev with_variables : (names : List Text) → (m ready : Maker) → Maker
with_variables names m ready = let variables = (declare names m).value in take_registers (length variables) (activate variables ready)

-- what is made before the variables become active
record Ready (m ready : Maker) : Type 0 where
  pub free : ready.free ≡ m.free + 3
  pub count : active_count ready ≡ active_count m + 3
  pub labels : ready.labels ≡ m.labels ++ length ready.items ∷ 0 ∷ 0 ∷ []

begun_settled : (names : List Text) (m ready : Maker) → Ready m ready → m.free ≡ active_count m → (with_variables names m ready).free ≡ active_count (with_variables names m ready)
begun_settled names m ready R e =
    let variables = (declare names m).value in
    let a = activated_free variables ready in
    let b = activated_count variables ready in
    let c = R.free in
    let d = R.count in
    let n = length variables in
    omega arith

begun_labels : (names : List Text) (m ready : Maker) → Ready m ready → (with_variables names m ready).labels ≡ m.labels ++ length (with_variables names m ready).items ∷ 0 ∷ 0 ∷ []
begun_labels names m ready R =
    let variables = (declare names m).value in
    activated_labels variables ready ∙ R.labels ∙ ap (λ (items : List Item). m.labels ++ length items ∷ 0 ∷ 0 ∷ []) (sym (activated_items variables ready))

-- the head is one step, but for the places of its labels
pub record Head (run : Run) (m : Maker) (from label foot to variables_end : ℕ) (begun : Maker) : Type 0 where
  pub variables : ℕ
  pub same_label : label ≡ label_of m
  pub step : OneStep run ((suc label, foot) ∷ []) m from (record begun { labels = m.labels }) (replicate 3 to ++ replicate variables variables_end)
  pub labels : begun.labels ≡ m.labels ++ length begun.items ∷ 0 ∷ 0 ∷ []

hidden_ends : (to k x : ℕ) → replicate 3 to ++ replicate (length (replicate 3 to ++ replicate k x) - 3) x ≡ replicate 3 to ++ replicate k x
hidden_ends to k x = ap (λ n. replicate 3 to ++ replicate n x) (let e = length_both (replicate 3 to) (replicate k x) in let f = replicated k x in let d : length (replicate 3 to) ≡ 3 = refl in omega arith)

head_step : {run : Run} (numeric : Bool) (names : List Text) (m ready : Maker) (other : Maker → Maker) (from label foot to variables_end : ℕ) (some : Bool) (part : Part) → label ≡ label_of m →
    kind_at run.code.steps from ≡ Some (StepKind.Head numeric foot to variables_end some) → part_at run.code from ≡ Some part →
    ((n : Maker) → kind_made run.code (StepKind.Head numeric foot to variables_end some) part n ≡ with_variables names n (other n)) → Ready m ready →
    ((f g : ℕ → ℕ) → f (suc label) ≡ g foot → (n : Maker) → numbered f m ≡ numbered g n → numbered f ready ≡ numbered g (other n)) →
    Head run m from label foot to variables_end (with_variables names m ready)
head_step numeric names m ready other from label foot to variables_end some part e k p makes R same =
    let variables = (declare names m).value in
    let begun = with_variables names m ready in
    record {
      variables = length variables;
      same_label = e;
      step = record {
        kind = StepKind.Head numeric foot to variables_end some;
        part = part;
        kind_is = k;
        part_is = p;
        makes = λ f g o n free h.
            let made = with_variables names n (other n) in
            let equal : variables ≡ (declare names n).value = ap (λ (got : Got (List Local)). got.value) (same_declared f g names m n h) in
            let all : numbered f begun ≡ numbered g made =
            ap (take_registers (length variables)) ((alike_activate f g variables).alike ready (other n) (same f g o.0 n h))
            ∙ ap (λ (vs : List Local). numbered g (take_registers (length vs) (activate vs (other n)))) equal in
            let before : m.free ≡ active_count m = ap (λ (x : Maker). x.free) h ∙ free ∙ ap (λ (x : Maker). active_count x) (sym h) in
            let settled : made.free ≡ active_count made = ap (λ (x : Maker). x.free) (sym all) ∙ begun_settled names m ready R before ∙ ap (λ (x : Maker). active_count x) all in
            all ∙ ap (numbered g) (sym (settle_same made settled) ∙ ap settle (sym (makes n)));
        labels = refl;
        count =
            let a = activated_count variables ready in
            let b = R.count in
            let n = length variables in
            let c = length_both (replicate 3 to) (replicate n variables_end) in
            let d = replicated n variables_end in
            let e : length (replicate 3 to) ≡ 3 = refl in
            omega arith;
        new_ends = hidden_ends to (length variables) variables_end;
      };
      labels = begun_labels names m ready R;
    }

-- ---- values

pub first_of : (a b : Bool) → a && b ≡ true → a ≡ true
first_of true b e = refl
first_of false b e = cc

pub second_of : (a b : Bool) → a && b ≡ true → b ≡ true
second_of true b e = e
second_of false b e = cc

module _ (renames : StatementsRename) where
  no_step_renames : (f : ℕ → ℕ) (labels : List ℕ) → Renames f labels (step_part 1 None) (step_part 1 None)
  no_step_renames f labels = record {
    same = λ m.
        let number = constant (Constant.Number (pos 1)) m in
        ap (λ (x : Maker). record (take_registers 1 x) { labels = labels }) (put_numbered f 1 (Piece.Abx Op.LoadK m.free number.value) number.after);
  }

  step_renames : (by : ForStep) (first last : Expression) → plain_values (head_values first last by) ≡ true → (f : ℕ → ℕ) (labels : List ℕ) →
      Renames f labels (step_part 1 (step_coded by)) (step_part 1 (step_coded by))
  step_renames no_step first last p f labels = no_step_renames f labels
  step_renames (by_step e) first last p f labels =
      let rest = second_of (plainness last).value _ (second_of (plainness first).value _ p) in
      let v = renames.values f labels e (first_of (plainness e).value _ rest) in
      record { same = v.same }

  values_of : (by : ForStep) (first last : Expression) (n : Maker) → counted_values (head_values first last by) n ≡ step_part 1 (step_coded by) (next_reg (coded last) (next_reg (coded first) n))
  values_of no_step first last n = refl
  values_of (by_step e) first last n = refl

  first_plain : (by : ForStep) (first last : Expression) → plain_values (head_values first last by) ≡ true → (plainness first).value ≡ true
  first_plain no_step first last p = first_of (plainness first).value _ p
  first_plain (by_step e) first last p = first_of (plainness first).value _ p

  last_plain : (by : ForStep) (first last : Expression) → plain_values (head_values first last by) ≡ true → (plainness last).value ≡ true
  last_plain no_step first last p = first_of (plainness last).value _ (second_of (plainness first).value _ p)
  last_plain (by_step e) first last p = first_of (plainness last).value _ (second_of (plainness first).value _ p)

  step_kept : (by : ForStep) (m : Maker) → (step_part 1 (step_coded by) m).active ≡ m.active
  step_kept no_step m = refl
  step_kept (by_step e) m = active_kept (next_kept (kept e)) m

  -- a loop over numbers, before its variable is active
  abbrev numeric_ready : Text → (first last : Expression) → ForStep → Maker → Maker
  numeric_ready name first last by m =
      let valued = numeric_valued 1 name first last by m in
      place (label_of valued) (put 1 (Piece.Jump Op.ForPrep m.free (suc (label_of valued))) (with_new_labels 3 valued))

  numeric_labels : (name : Text) (first last : Expression) (by : ForStep) (m : Maker) → plain_values (head_values first last by) ≡ true → (numeric_valued 1 name first last by m).labels ≡ m.labels
  numeric_labels name first last by m p =
      let declared = (declare (name ∷ []) m).after in
      let one = next_reg (coded first) declared in
      let two = next_reg (coded last) one in
      labels_kept (step_part 1 (step_coded by)) two (step_renames by first last p (λ n. n) two.labels)
      ∙ labels_kept (next_reg (coded last)) one (renames.values (λ n. n) one.labels last (last_plain by first last p))
      ∙ labels_kept (next_reg (coded first)) declared (renames.values (λ n. n) declared.labels first (first_plain by first last p))

  numeric_is_ready : (name : Text) (first last : Expression) (by : ForStep) (m : Maker) → plain_values (head_values first last by) ≡ true → Ready m (numeric_ready name first last by m)
  numeric_is_ready name first last by m p =
      let declared = (declare (name ∷ []) m).after in
      let one = next_reg (coded first) declared in
      let two = next_reg (coded last) one in
      let three = step_part 1 (step_coded by) two in
      let valued = numeric_valued 1 name first last by m in
      record {
        free = let a = next_free first declared in let b = next_free last one in let c = step_free 1 by two in omega arith;
        count =
            let a = activated_count numeric_names three in
            let b : active_count three ≡ active_count m = ap (λ (x : List Active). length x) (step_kept by two ∙ active_kept (next_kept (kept last)) one ∙ active_kept (next_kept (kept first)) declared) in
            let c : length numeric_names ≡ 3 = refl in
            let d : active_count (numeric_ready name first last by m) ≡ active_count (activate numeric_names three) = refl in
            omega arith;
        labels = set_three valued.labels _ ∙ ap (λ (l : List ℕ). l ++ length (numeric_ready name first last by m).items ∷ 0 ∷ 0 ∷ []) (numeric_labels name first last by m p);
      }

  module _ (run : Run) (plain : HasPlainParts run.code) where
    pub numeric_head_goes : (name : Text) (first last : Expression) (by : ForStep) (m : Maker) (from foot to variables_end : ℕ) (some : Bool) →
        HasStep run.code m.active from (StepKind.Head true foot to variables_end some) (head_part (head_values first last by) (name ∷ [])) →
        Head run m from (label_of (numeric_valued 1 name first last by m)) foot to variables_end (numeric_begun 1 name first last by m)
    numeric_head_goes name first last by m from foot to variables_end some H =
        let values = head_values first last by in
        let p = plain from (head_part values (name ∷ [])) H.1 in
        let label = label_of (numeric_valued 1 name first last by m) in
        let other = λ (n : Maker). put 1 (Piece.Jump Op.ForPrep n.free foot) (activate numeric_names (counted_values values (declare (name ∷ []) n).after)) in
        head_step true (name ∷ []) m (numeric_ready name first last by m) other from label foot to variables_end some (head_part values (name ∷ []))
        (ap (λ (l : List ℕ). length l) (numeric_labels name first last by m p)) (kind_there H.0) H.1 (λ n. refl)
        (numeric_is_ready name first last by m p)
        (λ f g o n h.
        let declared = (declare (name ∷ []) m).after in
        let one = next_reg (coded first) declared in
        let two = next_reg (coded last) one in
        let start = (declare (name ∷ []) n).after in
        let d = (alike_declare f g (name ∷ [])).alike m n h in
        let v = renames.values in
        let s = λ (k : ℕ → ℕ). step_renames by first last p k [] in
        let a = (alike_by {f = f} {g = g} (next_reg (coded first)) (next_reg (coded first)) (v f [] first (first_plain by first last p)) (v g [] first (first_plain by first last p))
        (λ x. refl)).alike declared start d in
        let b = (alike_by {f = f} {g = g} (next_reg (coded last)) (next_reg (coded last)) (v f [] last (last_plain by first last p)) (v g [] last (last_plain by first last p)) (λ x. refl)).alike one
        (next_reg (coded first) start) a in
        let c = (alike_by {f = f} {g = g} (step_part 1 (step_coded by)) (step_part 1 (step_coded by)) (s f) (s g) (λ x. refl)).alike two (next_reg (coded last) (next_reg (coded first) start)) b in
        let e = (alike_activate f g numeric_names).alike (step_part 1 (step_coded by) two) (counted_values values start) (c ∙ ap (numbered g) (sym (values_of by first last start))) in
        (alike_put f g 1 (Piece.Jump Op.ForPrep m.free (suc label)) (Piece.Jump Op.ForPrep n.free foot) (ap₂ (λ x y. Piece.Jump Op.ForPrep x y) (ap (λ (x : Maker). x.free) h) o)).alike
        (activate numeric_names (step_part 1 (step_coded by) two)) (activate numeric_names (counted_values values start)) e)

  -- a loop over values, before its variables are active
  abbrev generic_ready : List Text → Expressions → Maker → Maker
  generic_ready names es m =
      let valued = generic_valued 1 names es m in
      used (m.free + 6) (place (label_of valued) (jump_to 1 (suc (label_of valued)) (with_new_labels 3 valued)))

  generic_labels : (names : List Text) (es : Expressions) (m : Maker) → plain_values es ≡ true → (generic_valued 1 names es m).labels ≡ m.labels
  generic_labels names es m p =
      let declared = (declare names m).after in
      activated_labels generic_names (adjust 1 (all_coded es) 3 declared)
      ∙ labels_kept (adjust 1 (all_coded es) 3) declared (renames.adjusted (λ n. n) declared.labels 1 es 3 p) ∙ declared_labels names m

  generic_is_ready : (names : List Text) (es : Expressions) (m : Maker) → plain_values es ≡ true → Ready m (generic_ready names es m)
  generic_is_ready names es m p =
      let declared = (declare names m).after in
      let adjusted = adjust 1 (all_coded es) 3 declared in
      let valued = generic_valued 1 names es m in
      record {
        free = activated_free generic_names adjusted ∙ adjust_free 1 es 3 declared ∙ ap (λ n. n + 3) (declared_free names m);
        count =
            let a = activated_count generic_names adjusted in
            let b : active_count adjusted ≡ active_count m = ap (λ (x : List Active). length x) (active_kept (adjust_kept 1 (all_coded es) (all_kept es) 3) declared ∙ declared_active names m) in
            let c : length generic_names ≡ 3 = refl in
            let d : active_count (generic_ready names es m) ≡ active_count (activate generic_names adjusted) = refl in
            omega arith;
        labels = set_three valued.labels _ ∙ ap (λ (l : List ℕ). l ++ length (generic_ready names es m).items ∷ 0 ∷ 0 ∷ []) (generic_labels names es m p);
      }

  module _ (run : Run) (plain : HasPlainParts run.code) where
    pub generic_head_goes : (names : List Text) (es : Expressions) (m : Maker) (from foot to variables_end : ℕ) (some : Bool) →
        HasStep run.code m.active from (StepKind.Head false foot to variables_end some) (head_part es names) →
        Head run m from (label_of (generic_valued 1 names es m)) foot to variables_end (generic_begun 1 names es m)
    generic_head_goes names es m from foot to variables_end some H =
        let p = plain from (head_part es names) H.1 in
        let label = label_of (generic_valued 1 names es m) in
        let other = λ (n : Maker). let d = (declare names n).after in used (d.free + 6) (jump_to 1 foot (activate generic_names (adjust 1 (all_coded es) 3 d))) in
        head_step false names m (generic_ready names es m) other from label foot to variables_end some (head_part es names) (ap (λ (l : List ℕ). length l) (generic_labels names es m p))
        (kind_there H.0) H.1 (λ n. refl)
        (generic_is_ready names es m p)
        (λ f g o n h.
        let declared = (declare names m).after in
        let start = (declare names n).after in
        let d = (alike_declare f g names).alike m n h in
        let adjusted = adjust 1 (all_coded es) 3 in
        let a = (alike_by {f = f} {g = g} adjusted adjusted (renames.adjusted f [] 1 es 3 p) (renames.adjusted g [] 1 es 3 p) (λ x. refl)).alike declared start d in
        let e = (alike_activate f g generic_names).alike (adjusted declared) (adjusted start) a in
        let j = (alike_put f g 1 (Piece.Jump Op.Jmp 0 (suc label)) (Piece.Jump Op.Jmp 0 foot) (ap (λ x. Piece.Jump Op.Jmp 0 x) o)).alike (activate generic_names (adjusted declared))
        (activate generic_names (adjusted start)) e in
        ap₂ (λ x (y : Maker). used (x + 6) y) (ap (λ (x : Maker). x.free) h ∙ sym (declared_free names n)) j)
