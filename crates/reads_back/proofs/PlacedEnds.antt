-- Where the locals of a step end, by the list: they stand in a row, behind those of the steps before, and all have the end that the step says.
use Rattle.std.proofs.Common.{◌≡◌, ◌<◌, ◌≤◌, ℕ, suc, ◌+◌, ◌&&◌, Bool, true, List, [], ◌∷◌, ◌++◌, drop, length, refl, sym, ap, ◌∙◌, arith, eq-eqb, le-leb, if◌then◌else◌}
use Rattle.std.proofs.Math.Seq.{drop-append_seam}
use Rattle.std.proofs.lemmas.List.{length-map}
use Rattle.std.specs.Prelude.{Some, None, option_and_then}
use Rattle.lua_num.specs.Bytes.{Text}
use Rattle.proto.specs.declared.parts.LocVar.{LocVar}
use Rattle.recover_expr.specs.Locals.{all_end, end_of}
use Rattle.recover_expr.specs.Placing.{Numbers, Steps, end_shared, number_at, shared_end}
use Rattle.scheme.specs.Making.{Ahead}
use Rattle.same_flow.specs.Listed.{all_entries, entries_from, entries_of, entries_where, pc_of_step}
use Rattle.same_flow.specs.Performed.{kind_at, part_at}
use Rattle.same_flow.proofs.Followed.{append_again, length_both}
use Rattle.same_flow.proofs.ListedRun.{entries_begin, entries_last}
use Rattle.reads_back.specs.Placed.{listed_before}
use Rattle.reads_back.proofs.Tests.{both_hold}

-- ---- entries in a row

pub length_entries : (start end : ℕ) (texts : List Text) → length (entries_of start end texts) ≡ length texts
length_entries start end texts = length-map {B = LocVar} texts (λ text. record { name = text; start = start; end = end })

pub all_end_there : (start end : ℕ) (texts : List Text) (rest : List LocVar) → all_end (entries_of start end texts ++ rest) (length texts) end ≡ true
all_end_there start end [] rest = refl
all_end_there start end (text ∷ texts) rest =
    ap (λ same. same && all_end (entries_of start end texts ++ rest) (length texts) end) (eq-eqb end end refl) ∙ all_end_there start end texts rest

first_end : (start end : ℕ) (front : List LocVar) (texts : List Text) (rest : List LocVar) → 0 < length texts → end_of (front ++ (entries_of start end texts ++ rest)) (length front) ≡ Some end
first_end start end [] [] rest some = absurd (omega (arith, some))
first_end start end [] (text ∷ texts) rest some = refl
first_end start end (entry ∷ front) texts rest some = first_end start end front texts rest some

-- of these entries, which stand behind others, the end is that step
pub row_shared : (numbers : Numbers) (start end number : ℕ) (front : List LocVar) (texts : List Text) (rest : List LocVar) → 0 < length texts → number_at numbers end ≡ Some number →
    shared_end (front ++ (entries_of start end texts ++ rest)) numbers (length front) (length texts) ≡ Some number
row_shared numbers start end number front texts rest some is =
    let row = entries_of start end texts ++ rest in
    let left : drop (length front) (front ++ row) ≡ row = drop-append_seam front row in
    let enough : length texts ≤ length (drop (length front) (front ++ row)) =
    omega (arith, ap (λ (entries : List LocVar). length entries) left, length_both (entries_of start end texts) rest, length_entries start end texts) in
    ap (option_and_then (end_shared (front ++ row) numbers (length front) (length texts))) (first_end start end front texts rest some)
    ∙ ap (λ (all : Bool). if all then number_at numbers end else None)
    (both_hold _ _ (le-leb (length texts) (length (drop (length front) (front ++ row))) enough)
    (ap (λ (entries : List LocVar). all_end entries (length texts) end) left ∙ all_end_there start end texts rest))
    ∙ is

-- ---- the entries of a step

-- in the list of all locals, those of a step stand behind those of the parameters and of the steps before
pub record StandsIn (code : Steps) (params names : List Text) (ahead : Ahead) (at : ℕ) : Type 0 where
  pub front : List LocVar
  pub rest : List LocVar
  pub all : all_entries code params names ahead ≡ front ++ (entries_where (pc_of_step code params names ahead) at (kind_at code.steps at) (part_at code at) ++ rest)
  pub first : length front ≡ listed_before code params names ahead at

pub stands_in : (code : Steps) (params names : List Text) (ahead : Ahead) (at : ℕ) → at < length code.steps → StandsIn code params names ahead at
stands_in code params names ahead at less =
    let pcs = pc_of_step code params names ahead in
    let last = length code.steps in
    let parameters = entries_of 0 (pcs last) params in
    let before = entries_from code pcs 0 at in
    let here = entries_where pcs at (kind_at code.steps at) (part_at code at) in
    let all = entries_begin code pcs 0 (suc at) last (omega (arith, less)) in
    record {
      front = parameters ++ before;
      rest = all.0;
      all =
          ap (λ (entries : List LocVar). parameters ++ entries) (all.1 ∙ ap (λ (entries : List LocVar). entries ++ all.0) (entries_last code pcs 0 at at (omega arith)) ∙ append_again before here all.0)
          ∙ sym (append_again parameters before (here ++ all.0));
      first = length_both parameters before ∙ ap (λ count. count + length before) (length_entries 0 (pcs last) params);
    }
