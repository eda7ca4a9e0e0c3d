-- A function in the making follows a run of steps: what is made between two places of the run, and how that is put together.
use Rattle.std.proofs.Common.{◌≡◌, ℕ, zero, suc, ◌+◌, ◌-◌, ◌≤◌, Bool, true, false, List, [], ◌∷◌, ◌++◌, length, map, take, set, refl, sym, ap, ap₂, ◌∙◌, arith, subst}
use Rattle.std.proofs.lemmas.Bool.Decides.{nat_tests}
use Rattle.std.proofs.lemmas.List.{length-map, length-take-le, length-append}
use Rattle.std.proofs.Math.Seq.{take-append_seam}
use Rattle.std.specs.Prelude.{Option, Some, nat_lt, cond}
use Rattle.recover_expr.specs.Drafts.{Part}
use Rattle.recover_expr.specs.Placing.{Steps}
use Rattle.recover_expr.specs.declared.steps.StepKind.{StepKind}
use Rattle.scheme.specs.Making.{Maker, new_label, place, end_locals, free_from, active_count}
use Rattle.scheme.specs.Statements.{settle}
use Rattle.scheme.specs.declared.making.Active.{Active}
use Rattle.same_flow.specs.Performed.{Performance, kind_at, part_at, kind_made, still_active, ended_to, ends_of, behind_kind, behind_step, performed_to}
use Rattle.same_flow.specs.Laid.{label_of}
use Rattle.same_flow.proofs.Endings.{end_twice, end_none, numbered, items_length, end_numbered, unnumbered}

-- steps, and a function in the making before them
pub record Run : Type 0 where
  pub code : Steps
  pub first : Performance

abbrev pub at_step : Run → ℕ → Performance
at_step run p = performed_to run.code run.first p

abbrev pub pc_of : Run → ℕ → ℕ
pc_of run p = length (at_step run p).maker.items

-- each local ends at this place or before it
abbrev pub EndBy : ℕ → List ℕ → Type 0
EndBy p [] = Unit {0}
EndBy p (e ∷ es) = (e ≤ p) × EndBy p es

-- no local ends before this place
abbrev pub LastTo : ℕ → List ℕ → Type 0
LastTo p [] = Unit {0}
LastTo p (e ∷ es) = (p ≤ e) × LastTo p es

abbrev pub names_to : (f g : ℕ → ℕ) → ℕ × ℕ → Type 0
names_to f g tie = f tie.0 ≡ g tie.1

-- labels, and the steps where they are to stand
abbrev pub Outer : (f g : ℕ → ℕ) → List (ℕ × ℕ) → Type 0
Outer f g [] = Unit {0}
Outer f g (tie ∷ ties) = (f tie.0 ≡ g tie.1) × Outer f g ties

-- the labels from one on
abbrev pub Tied : (f g : ℕ → ℕ) → (label : ℕ) → List ℕ → Type 0
Tied f g label [] = Unit {0}
Tied f g label (x ∷ xs) = (f label ≡ g x) × Tied f g (suc label) xs

-- Before a step, the active locals end at these places; the locals behind them in the run have ended. But for the names of labels both have made the same.
pub record Follows (run : Run) (f g : ℕ → ℕ) (m : Maker) (ends : List ℕ) (p : ℕ) : Type 0 where
  pub behind : List ℕ
  pub all_ends : (at_step run p).ends ≡ ends ++ behind
  pub count : length ends ≡ active_count m
  pub gone : EndBy p behind
  pub same : numbered f m ≡ numbered g (settle (end_locals (active_count m) (at_step run p).maker))

abbrev pub nought : ℕ → ℕ
nought n = 0

-- what leads from before one step to before another, where labels of these numbers are new
pub record Goes (run : Run) (outer : List (ℕ × ℕ)) (m : Maker) (ends : List ℕ) (p : ℕ) (made : Maker) (others : List ℕ) (q : ℕ) : Type 0 where
  pub numbers : List ℕ
  pub follows : (f g : ℕ → ℕ) → Outer f g outer → Tied f g (label_of m) numbers → Follows run f g m ends p → Follows run f g made others q
  pub labels : Follows run nought nought m ends p → made.labels ≡ m.labels ++ map (pc_of run) numbers

-- ---- lists

pub append_nothing : {A : Type 0} (xs : List A) → xs ++ [] ≡ xs
append_nothing [] = refl
append_nothing (x ∷ xs) = ap (λ ys. x ∷ ys) (append_nothing xs)

pub append_again : {A : Type 0} (xs ys zs : List A) → (xs ++ ys) ++ zs ≡ xs ++ (ys ++ zs)
append_again [] ys zs = refl
append_again (x ∷ xs) ys zs = ap (λ l. x ∷ l) (append_again xs ys zs)

pub length_both : {A : Type 0} (xs ys : List A) → length (xs ++ ys) ≡ length xs + length ys
length_both xs ys = length-append xs ys

pub map_both : (f : ℕ → ℕ) (xs ys : List ℕ) → map f (xs ++ ys) ≡ map f xs ++ map f ys
map_both f [] ys = refl
map_both f (x ∷ xs) ys = ap (λ l. f x ∷ l) (map_both f xs ys)

set_new : (xs ys : List ℕ) (y : ℕ) → set ((xs ++ 0 ∷ []) ++ ys) (length xs) y ≡ xs ++ y ∷ ys
set_new [] ys y = refl
set_new (x ∷ xs) ys y = ap (λ l. x ∷ l) (set_new xs ys y)

set_last : (xs : List ℕ) (y : ℕ) → set (xs ++ 0 ∷ []) (length xs) y ≡ xs ++ y ∷ []
set_last [] y = refl
set_last (x ∷ xs) y = ap (λ l. x ∷ l) (set_last xs y)

pub last_weaker : (p q : ℕ) (es : List ℕ) → p ≤ q → LastTo q es → LastTo p es
last_weaker p q [] h l = tt
last_weaker p q (e ∷ es) h l = let a = l.0 in (omega arith, last_weaker p q es h l.1)

pub last_both : (p : ℕ) (xs ys : List ℕ) → LastTo p xs → LastTo p ys → LastTo p (xs ++ ys)
last_both p [] ys a b = b
last_both p (x ∷ xs) ys a b = (a.0, last_both p xs ys a.1 b)

pub end_weaker : (p q : ℕ) (es : List ℕ) → p ≤ q → EndBy p es → EndBy q es
end_weaker p q [] h l = tt
end_weaker p q (e ∷ es) h l = let a = l.0 in (omega arith, end_weaker p q es h l.1)

pub end_append : (p : ℕ) (xs ys : List ℕ) → EndBy p xs → EndBy p ys → EndBy p (xs ++ ys)
end_append p [] ys a b = b
end_append p (x ∷ xs) ys a b = (a.0, end_append p xs ys a.1 b)

tied_first : (f g : ℕ → ℕ) (label : ℕ) (xs ys : List ℕ) → Tied f g label (xs ++ ys) → Tied f g label xs
tied_first f g label [] ys t = tt
tied_first f g label (x ∷ xs) ys t = (t.0, tied_first f g (suc label) xs ys t.1)

tied_second : (f g : ℕ → ℕ) (label : ℕ) (xs ys : List ℕ) (other : ℕ) → other ≡ label + length xs → Tied f g label (xs ++ ys) → Tied f g other ys
tied_second f g label [] ys other e t = subst (λ l. Tied f g l ys) (omega arith) t
tied_second f g label (x ∷ xs) ys other e t = let n = length xs in let d : other ≡ label + suc (length xs) = e in tied_second f g (suc label) xs ys other (omega arith) t.1

outer_nought : (outer : List (ℕ × ℕ)) → Outer nought nought outer
outer_nought [] = tt
outer_nought (tie ∷ ties) = (refl, outer_nought ties)

tied_nought : (label : ℕ) (xs : List ℕ) → Tied nought nought label xs
tied_nought label [] = tt
tied_nought label (x ∷ xs) = (refl, tied_nought (suc label) xs)

-- ---- what follows a run

pub settled : {run : Run} {f g : ℕ → ℕ} {m : Maker} {ends : List ℕ} {p : ℕ} → Follows run f g m ends p → m.free ≡ active_count m
settled F = ap (λ (n : Maker). n.free) F.same ∙ ap (λ (n : Maker). active_count n) (sym F.same)

pub by_nought : {run : Run} {f g : ℕ → ℕ} {m : Maker} {ends : List ℕ} {p : ℕ} → Follows run f g m ends p → Follows run nought nought m ends p
by_nought {run} {f} {g} {m} {ends} {p} F =
    record { behind = F.behind; all_ends = F.all_ends; count = F.count; gone = F.gone; same = unnumbered f g m (settle (end_locals (active_count m) (at_step run p).maker)) F.same }

-- its pc is that of the run
pub at_pc : {run : Run} {f g : ℕ → ℕ} {m : Maker} {ends : List ℕ} {p : ℕ} → Follows run f g m ends p → length m.items ≡ pc_of run p
at_pc {run} {f} {g} {m} {ends} {p} F = items_length f m ∙ ap (λ (n : Maker). length n.items) F.same ∙ sym (items_length g (at_step run p).maker)

-- where only labels were made or placed
pub relabelled : {run : Run} {f g : ℕ → ℕ} {m : Maker} {ends : List ℕ} {p : ℕ} (labels : List ℕ) → Follows run f g m ends p → Follows run f g (record m { labels = labels }) ends p
relabelled labels F = record { behind = F.behind; all_ends = F.all_ends; count = F.count; gone = F.gone; same = F.same }

-- ---- putting together

pub stays : {run : Run} {outer : List (ℕ × ℕ)} {m : Maker} {ends : List ℕ} {p : ℕ} → Goes run outer m ends p m ends p
stays {m = m} = record { numbers = []; follows = λ f g o t F. F; labels = λ F. sym (append_nothing m.labels) }

pub followed : {run : Run} {outer : List (ℕ × ℕ)} {m made : Maker} {ends others : List ℕ} {p q : ℕ} → Goes run outer m ends p made others q → Follows run nought nought m ends p →
    Follows run nought nought made others q
followed {outer = outer} {m = m} G F = G.follows nought nought (outer_nought outer) (tied_nought (label_of m) G.numbers) F

labels_more : {run : Run} {outer : List (ℕ × ℕ)} {m made : Maker} {ends others : List ℕ} {p q : ℕ} (G : Goes run outer m ends p made others q) → Follows run nought nought m ends p →
    label_of made ≡ label_of m + length G.numbers
labels_more {run} {m = m} G F = ap (λ (l : List ℕ). length l) (G.labels F) ∙ length_both m.labels (map (pc_of run) G.numbers) ∙ ap (λ n. label_of m + n) (length-map G.numbers (pc_of run))

infixl 20 ◌onward◌
pub ◌onward◌ : {run : Run} {outer : List (ℕ × ℕ)} {m one two : Maker} {ends more others : List ℕ} {p mid q : ℕ} →
    Goes run outer m ends p one more mid → Goes run outer one more mid two others q → Goes run outer m ends p two others q
◌onward◌ {run} {outer} {m} {one} {two} G H = record {
  numbers = G.numbers ++ H.numbers;
  follows = λ f g o t F.
      H.follows f g o (tied_second f g (label_of m) G.numbers H.numbers (label_of one) (labels_more G (by_nought F)) t)
      (G.follows f g o (tied_first f g (label_of m) G.numbers H.numbers t) F);
  labels = λ F.
      H.labels (followed G F) ∙ ap (λ (l : List ℕ). l ++ map (pc_of run) H.numbers) (G.labels F) ∙ append_again m.labels (map (pc_of run) G.numbers) (map (pc_of run) H.numbers)
      ∙ ap (λ (l : List ℕ). m.labels ++ l) (sym (map_both (pc_of run) G.numbers H.numbers));
}

-- with other labels around
pub within : {run : Run} {outer wider : List (ℕ × ℕ)} {m made : Maker} {ends others : List ℕ} {p q : ℕ} → ((f g : ℕ → ℕ) → Outer f g wider → Outer f g outer) →
    Goes run outer m ends p made others q → Goes run wider m ends p made others q
within w G = record { numbers = G.numbers; follows = λ f g o. G.follows f g (w f g o); labels = G.labels }

-- what is made is known by another name
pub made_as : {run : Run} {outer : List (ℕ × ℕ)} {m made other : Maker} {ends others : List ℕ} {p q : ℕ} → made ≡ other →
    Goes run outer m ends p made others q → Goes run outer m ends p other others q
made_as {run} {outer} {m} {ends = ends} {others = others} {p = p} {q = q} e G = subst (λ n. Goes run outer m ends p n others q) e G

pub ends_as : {run : Run} {outer : List (ℕ × ℕ)} {m made : Maker} {ends others more : List ℕ} {p q : ℕ} → others ≡ more →
    Goes run outer m ends p made others q → Goes run outer m ends p made more q
ends_as {run} {outer} {m} {made} {ends} {p = p} {q = q} e G = subst (λ (es : List ℕ). Goes run outer m ends p made es q) e G

pub at_place : {run : Run} {outer : List (ℕ × ℕ)} {m made : Maker} {ends others : List ℕ} {p q r : ℕ} → q ≡ r → Goes run outer m ends p made others q → Goes run outer m ends p made others r
at_place {run} {outer} {m} {made} {ends} {others} {p} e G = subst (λ x. Goes run outer m ends p made others x) e G

pub settle_same : (m : Maker) → m.free ≡ active_count m → settle m ≡ m
settle_same m e = ap (λ n. free_from n m) (sym e)

-- F is already the number of active locals
pub settling : {run : Run} {outer : List (ℕ × ℕ)} {m made : Maker} {ends others : List ℕ} {p q : ℕ} →
    Goes run outer m ends p made others q → Goes run outer m ends p (settle made) others q
settling {run} {made = made} {others = others} {q = q} G = record {
  numbers = G.numbers;
  follows = λ f g o t F. let H = G.follows f g o t F in subst (λ n. Follows run f g n others q) (sym (settle_same made (settled H))) H;
  labels = G.labels;
}

pub next_label : (m : Maker) → label_of (new_label m).after ≡ suc (label_of m)
next_label m = let e = length_both m.labels (0 ∷ []) in let n = length m.labels in omega arith

-- a label that stands at the end
pub label_ends : {run : Run} {outer : List (ℕ × ℕ)} {m made : Maker} {ends others : List ℕ} {p q : ℕ} →
    Goes run ((label_of m, q) ∷ outer) (new_label m).after ends p made others q → Goes run outer m ends p (place (label_of m) made) others q
label_ends {run} {outer} {m} {made} {ends} {others} {p} {q} G = record {
  numbers = q ∷ G.numbers;
  follows = λ f g o t F.
      relabelled _ (G.follows f g (t.0, o) (subst (λ l. Tied f g l G.numbers) (sym (next_label m)) t.1) (relabelled _ F));
  labels = λ F.
      let H = relabelled (m.labels ++ 0 ∷ []) F in
      ap₂ (λ (l : List ℕ) pc. set l (label_of m) pc) (G.labels H) (at_pc (followed G H)) ∙ set_new m.labels (map (pc_of run) G.numbers) (pc_of run q);
}

-- a label that stands at the start
pub label_starts : {run : Run} {outer : List (ℕ × ℕ)} {m made : Maker} {ends others : List ℕ} {p q : ℕ} →
    Goes run ((label_of m, p) ∷ outer) (place (label_of m) (new_label m).after) ends p made others q → Goes run outer m ends p made others q
label_starts {run} {outer} {m} {made} {ends} {others} {p} {q} G = record {
  numbers = p ∷ G.numbers;
  follows = λ f g o t F. G.follows f g (t.0, o) (subst (λ l. Tied f g l G.numbers) (sym next) t.1) (relabelled _ F);
  labels = λ F.
      G.labels (relabelled _ F) ∙ ap (λ (l : List ℕ). l ++ map (pc_of run) G.numbers) (set_last m.labels (length m.items))
      ∙ append_again m.labels (length m.items ∷ []) (map (pc_of run) G.numbers)
      ∙ ap (λ pc. m.labels ++ pc ∷ map (pc_of run) G.numbers) (at_pc F);
}
  where
    next : label_of (place (label_of m) (new_label m).after) ≡ suc (label_of m)
    next = ap (λ (l : List ℕ). length l) (set_last m.labels (length m.items)) ∙ length_both m.labels (length m.items ∷ []) ∙ omega arith

-- ---- one step

counted_no : (n : ℕ) (b : Bool) → b ≡ false → cond b (1 + n) 0 ≡ 0
counted_no n true h = cc
counted_no n false h = refl

counted_yes : (n k : ℕ) (b : Bool) → b ≡ true → n ≡ k → cond b (1 + n) 0 ≡ suc k
counted_yes n k true h e = let d : 1 + n ≡ suc k = omega arith in d
counted_yes n k false h e = cc

-- the locals that end behind a step, and those that end there or have ended
pub still : (p : ℕ) (ends behind : List ℕ) → LastTo (suc p) ends → EndBy p behind → still_active p (ends ++ behind) ≡ length ends
still p [] [] l e = refl
still p [] (x ∷ xs) l e = counted_no _ (nat_lt p x) (let a = e.0 in grind (arith, nat_tests))
still p (x ∷ xs) behind l e = counted_yes (still_active p (xs ++ behind)) (length xs) (nat_lt p x) (let a = l.0 in grind (arith, nat_tests)) (still p xs behind l.1 e)

-- what the run makes in one step is made here too
pub record OneStep (run : Run) (outer : List (ℕ × ℕ)) (m : Maker) (p : ℕ) (made : Maker) (new : List ℕ) : Type 0 where
  pub kind : StepKind
  pub part : Part
  pub kind_is : kind_at run.code.steps p ≡ Some kind
  pub part_is : part_at run.code p ≡ Some part
  pub makes : (f g : ℕ → ℕ) → Outer f g outer → (n : Maker) → n.free ≡ active_count n → numbered f m ≡ numbered g n → numbered f made ≡ numbered g (settle (kind_made run.code kind part n))
  pub labels : made.labels ≡ m.labels
  pub count : active_count made ≡ active_count m + length new
  pub new_ends : ends_of kind (length new) ≡ new

performed_here : {run : Run} (f g : ℕ → ℕ) {m : Maker} {ends : List ℕ} {p : ℕ} (F : Follows run f g m ends p) (kind : StepKind) (part : Part) → kind_at run.code.steps p ≡ Some kind →
    part_at run.code p ≡ Some part → LastTo (suc p) ends →
    at_step run (suc p) ≡ behind_kind run.code kind part (record { maker = settle (end_locals (active_count m) (at_step run p).maker); ends = ends })
performed_here {run} f g {m} {ends} {p} F kind part k t l =
    let now = at_step run p in
    let count : still_active p now.ends ≡ active_count m = ap (still_active p) F.all_ends ∙ still p ends F.behind l F.gone ∙ F.count in
    let kept : take (active_count m) now.ends ≡ ends = ap₂ (λ n (es : List ℕ). take n es) (sym F.count) F.all_ends ∙ take-append_seam ends F.behind in
    ap₂ (λ (a : Option StepKind) (b : Option Part). behind_step run.code a b (ended_to (still_active p now.ends) now)) k t
    ∙ ap (λ n. behind_kind run.code kind part (ended_to n now)) count
    ∙ ap (λ (es : List ℕ). behind_kind run.code kind part (record { maker = settle (end_locals (active_count m) now.maker); ends = es })) kept

pub step_follows : {run : Run} {outer : List (ℕ × ℕ)} {m made : Maker} {ends new : List ℕ} {p : ℕ} → OneStep run outer m p made new → LastTo (suc p) ends → (f g : ℕ → ℕ) → Outer f g outer →
    Follows run f g m ends p → Follows run f g made (ends ++ new) (suc p)
step_follows {run} {outer} {m} {made} {ends} {new} {p} S l f g o F =
    let before = settle (end_locals (active_count m) (at_step run p).maker) in
    let after = kind_made run.code S.kind S.part before in
    let here = performed_here f g F S.kind S.part S.kind_is S.part_is l in
    let same = S.makes f g o before refl F.same in
    let was : active_count m ≡ active_count before = ap (λ (n : Maker). active_count n) F.same in
    let is : active_count made ≡ active_count after = ap (λ (n : Maker). active_count n) same in
    let grown : active_count after - active_count before ≡ length new = let c = S.count in omega arith in
    record {
      behind = [];
      all_ends = ap (λ (now : Performance). now.ends) here ∙ ap (λ n. ends ++ ends_of S.kind n) grown ∙ ap (λ (es : List ℕ). ends ++ es) S.new_ends ∙ sym (append_nothing (ends ++ new));
      count = let c = S.count in let d = F.count in length_both ends new ∙ omega arith;
      gone = tt;
      same = same ∙ ap (numbered g) (sym (ap₂ (λ k (now : Performance). settle (end_locals k now.maker)) is here ∙ ap settle (end_none (settle after))));
    }

pub one_step : {run : Run} {outer : List (ℕ × ℕ)} {m made : Maker} {ends new : List ℕ} {p : ℕ} → OneStep run outer m p made new → LastTo (suc p) ends →
    Goes run outer m ends p made (ends ++ new) (suc p)
one_step {m = m} S l = record { numbers = []; follows = λ f g o t F. step_follows S l f g o F; labels = λ F. S.labels ∙ sym (append_nothing m.labels) }

-- ---- locals that end

pub at_most : (k : ℕ) (xs : List Active) → k ≡ length (take k xs) → k ≤ length xs
at_most zero xs e = omega arith
at_most (suc k) [] e = absurd (omega arith)
at_most (suc k) (x ∷ xs) e = let d = at_most k xs (omega arith) in let c = length xs in omega arith

-- the last active locals have ended
pub ended_follows : {run : Run} {m : Maker} {ends : List ℕ} {p : ℕ} (n : ℕ) (last : List ℕ) → length ends ≡ n → EndBy p last → (f g : ℕ → ℕ) →
    Follows run f g m (ends ++ last) p → Follows run f g (free_from n (end_locals n m)) ends p
ended_follows {run} {m} {ends} {p} n last e h f g F =
    let now = (at_step run p).maker in
    let k = active_count m in
    let all : n + length last ≡ k = ap (λ x. x + length last) (sym e) ∙ sym (length_both ends last) ∙ F.count in
    let in_run : k ≡ length (take k now.active) = ap (λ (x : Maker). active_count x) F.same in
    let enough : k ≤ length now.active = at_most k now.active in_run in
    let a : length (take n m.active) ≡ n = length-take-le n m.active (omega arith) in
    let b : length (take n now.active) ≡ n = length-take-le n now.active (omega arith) in
    record {
      behind = last ++ F.behind;
      all_ends = F.all_ends ∙ append_again ends last F.behind;
      count = e ∙ sym a;
      gone = end_append p last F.behind h F.gone;
      same =
          ap (free_from n) (end_numbered f n m) ∙ ap (λ (x : Maker). free_from n (end_locals n x)) F.same
          ∙ sym (ap (free_from n) (end_numbered g n (settle (end_locals k now))))
          ∙ ap (λ (x : Maker). numbered g (free_from n x)) (end_twice n k now (omega arith))
          ∙ ap (λ x. numbered g (free_from x (end_locals n now))) (sym b)
          ∙ ap (λ x. numbered g (settle (end_locals x now))) (sym a);
    }

pub ended : {run : Run} {outer : List (ℕ × ℕ)} {m : Maker} {ends : List ℕ} {p : ℕ} (n : ℕ) (last : List ℕ) → length ends ≡ n → EndBy p last →
    Goes run outer m (ends ++ last) p (free_from n (end_locals n m)) ends p
ended {m = m} n last e h = record { numbers = []; follows = λ f g o t F. ended_follows n last e h f g F; labels = λ F. sym (append_nothing m.labels) }
