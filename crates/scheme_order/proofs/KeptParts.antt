-- Parts of a source that mention the same but for locals of the function, at places where these names mean such locals; and how they are joined.
use Rattle.std.proofs.Common.{◌≡◌, ℕ, zero, suc, ◌+◌, Bool, true, List, [], ◌∷◌, ◌++◌, length, refl, sym, ap, ap₂, ◌∙◌, subst, append_assoc}
use Rattle.std.specs.Prelude.{◌&&◌}
use Rattle.std.proofs.lemmas.Bool.{false≢true, and_parts, and_from}
use Rattle.std.proofs.lemmas.List.{append-nil}
use Rattle.lua_num.specs.Bytes.{Text}
use Rattle.lua_tree.specs.Names.{are_some_names}
use Rattle.lua_tree.specs.Outline.{Place, Mark, mention, local_name, hidden_local, Walk, Part, innermost, nothing, both, within, come, declares, reaching, marked, mentions, path_part}
use Rattle.lua_tree.specs.Scoping.{Use, use_in, uses_among}
use Rattle.scheme_order.specs.Own.{but_own, IsOwn, SameUse}
use Rattle.scheme_order.specs.Permuted.{Uses, NoUses, OneUse, BothUse, PathUses}
use Rattle.scheme_order.proofs.OwnMarks.{own_append}
use Rattle.scheme_order.proofs.OwnNames.{own_locals, own_params}

-- the same place behind both, where these names are locals; what the names mean is told where the source is well-formed
pub record KeptWalk (formed : Bool) (uses : Uses) (after : List Text) (walk other : Walk) : Type 0 where
  pub marks : but_own other.marks ≡ but_own walk.marks
  pub next : other.next ≡ walk.next
  pub own : IsOwn after walk.next
  pub meant : formed ≡ true → (all there : List Mark) → SameUse all there → uses (uses_among all walk.marks) (uses_among there other.marks)

-- from each place where these names are locals to one where those are
pub record Kept (formed : Bool) (uses : Uses) (before after : List Text) (part other : Part) : Type 0 where
  pub at : (place : Place) → IsOwn before place → KeptWalk formed uses after (part place) (other place)

-- what is meant among marks behind others
pub uses_append : (all marks others : List Mark) → uses_among all (marks ++ others) ≡ uses_among all marks ++ uses_among all others
uses_append all [] others = refl
uses_append all (mention line name means around ∷ marks) others = ap (λ uses. use_in (innermost around) all means ∷ uses) (uses_append all marks others)
uses_append all (mark ∷ marks) others = uses_append all marks others

-- ---- joined

-- nothing at all
pub kept_nothing : {own : List Text} → Kept true NoUses own own nothing nothing
kept_nothing = record { at = λ place o. record { marks = refl; next = refl; own = o; meant = λ f all there s. (refl, refl) } }

-- one part, and another behind it
infixl 20 ◌then◌
pub ◌then◌ : {a b : Bool} {U V : Uses} {first second third : List Text} {part part' other other' : Part}
    → Kept a U first second part part' → Kept b V second third other other' → Kept (a && b) (BothUse U V) first third (both part other) (both part' other')
◌then◌ {a} {b} {U} {V} {first} {second} {third} {part} {part'} {other} {other'} p q = record {
  at = λ place o.
      let one = p.at place o in
      let two = q.at (part place).next one.own in
      let marks = (part place).marks in
      let marks' = (part' place).marks in
      let walk = other (part place).next in
      let walk' = other' (part place).next in
      let same : KeptWalk (a && b) (BothUse U V) third (both part other place) (record { marks = marks' ++ walk'.marks; next = walk'.next }) = record {
        marks = own_append marks' walk'.marks ∙ ap₂ (λ l k. l ++ k) one.marks two.marks ∙ sym (own_append marks walk.marks);
        next = two.next;
        own = two.own;
        meant = λ f all there s. (
          uses_among all marks,
          uses_among all walk.marks,
          uses_among there marks',
          uses_among there walk'.marks,
          one.meant (and_parts a b f).0 all there s,
          two.meant (and_parts a b f).1 all there s,
          uses_append all marks walk.marks,
          uses_append there marks' walk'.marks,
        );
      } in
      subst (λ end. KeptWalk (a && b) (BothUse U V) third (both part other place) (record { marks = marks' ++ (other' end).marks; next = (other' end).next })) (sym one.next) same;
}

-- in a scope of its own
pub inside : {a : Bool} {U : Uses} {before first last : List Text} {part other : Part} (enter : Place → Place) → ((place : Place) → IsOwn before place → IsOwn first (enter place))
    → Kept a U first last part other → Kept a U before before (within enter part) (within enter other)
inside enter entered p = record {
  at = λ place o.
      let one = p.at (enter place) (entered place o) in
      record {
        marks = one.marks;
        next = ap (λ (end : Place). record place { declarations = end.declarations; functions = end.functions }) one.next;
        own = o;
        meant = one.meant;
      };
}

-- where more is well-formed
pub from : {a b : Bool} {U : Uses} {before after : List Text} {part other : Part} → (b ≡ true → a ≡ true) → Kept a U before after part other → Kept b U before after part other
from formed p = record {
  at = λ place o.
      let one = p.at place o in
      record { marks = one.marks; next = one.next; own = one.own; meant = λ f. one.meant (formed f) };
}

-- another test beside
pub also : {b : Bool} {U : Uses} {before after : List Text} {part other : Part} (a : Bool) → Kept b U before after part other → Kept (a && b) U before after part other
also {b} a p = from (λ f. (and_parts a b f).1) p

-- where the same is told otherwise
retold : {a : Bool} {U V : Uses} {before after : List Text} {part other : Part} → ((here there : List Use) → U here there → V here there)
    → Kept a U before after part other → Kept a V before after part other
retold {part} {other} tell p = record {
  at = λ place o.
      let one = p.at place o in
      record { marks = one.marks; next = one.next; own = one.own; meant = λ f all there s. tell (uses_among all (part place).marks) (uses_among there (other place).marks) (one.meant f all there s) };
}

-- the same uses
moved : (U : Uses) {more more' : List Use} (here there : List Use) → here ≡ more → there ≡ more' → U more more' → U here there
moved U {more} {more'} here there e e' u = subst (λ uses. U uses there) (sym e) (subst (λ uses. U more uses) (sym e') u)

-- what mentions nothing before, and behind
none_before : (U : Uses) (here there : List Use) → BothUse NoUses U here there → U here there
none_before U here there (one, more, one', more', none, u, e, e') = moved U here there (e ∙ ap (λ l. l ++ more) none.0) (e' ∙ ap (λ l. l ++ more') none.1) u

none_behind : (U : Uses) (here there : List Use) → BothUse U NoUses here there → U here there
none_behind U here there (one, more, one', more', u, none, e, e') =
    moved U here there (e ∙ ap (λ l. one ++ l) none.0 ∙ append-nil one) (e' ∙ ap (λ l. one' ++ l) none.1 ∙ append-nil one') u

-- three parts, and four, are the same in whichever groups they are joined
grouped_uses : (U V W : Uses) (here there : List Use) → BothUse (BothUse U V) W here there → BothUse U (BothUse V W) here there
grouped_uses U V W here there (both', third, both'', third', (first, second, first', second', u, v, d, d'), w, e, e') = (
  first,
  second ++ third,
  first',
  second' ++ third',
  u,
  (second, third, second', third', v, w, refl, refl),
  e ∙ ap (λ l. l ++ third) d ∙ append_assoc first second third,
  e' ∙ ap (λ l. l ++ third') d' ∙ append_assoc first' second' third',
)

grouped_tests : (a b c : Bool) → (a && (b && c)) ≡ true → ((a && b) && c) ≡ true
grouped_tests a b c f =
    let others = and_parts b c (and_parts a (b && c) f).1 in
    and_from (a && b) c (and_from a b (and_parts a (b && c) f).0 others.0) others.1

pub grouped : (a b c : Bool) {U V W : Uses} {before after : List Text} {part other : Part}
    → Kept ((a && b) && c) (BothUse (BothUse U V) W) before after part other → Kept (a && (b && c)) (BothUse U (BothUse V W)) before after part other
grouped a b c {U} {V} {W} p = from (grouped_tests a b c) (retold (grouped_uses U V W) p)

four_grouped_uses : (U V W X : Uses) (here there : List Use) → BothUse (BothUse U (BothUse V W)) X here there → BothUse U (BothUse V (BothUse W X)) here there
four_grouped_uses U V W X here there u =
    let (first, others, first', others', v, more, e, e') = grouped_uses U (BothUse V W) X here there u in
    (first, others, first', others', v, grouped_uses V W X others others' more, e, e')

four_grouped_tests : (a b c d : Bool) → (a && (b && (c && d))) ≡ true → ((a && (b && c)) && d) ≡ true
four_grouped_tests a b c d f =
    let first = and_parts a (b && (c && d)) f in
    grouped_tests a (b && c) d (and_from a ((b && c) && d) first.0 (grouped_tests b c d first.1))

pub four_grouped : (a b c d : Bool) {U V W X : Uses} {before after : List Text} {part other : Part}
    → Kept ((a && (b && c)) && d) (BothUse (BothUse U (BothUse V W)) X) before after part other → Kept (a && (b && (c && d))) (BothUse U (BothUse V (BothUse W X))) before after part other
four_grouped a b c d {U} {V} {W} {X} p = from (four_grouped_tests a b c d) (retold (four_grouped_uses U V W X) p)

-- a part that mentions nothing stands before another, and behind it
infixl 20 ◌before◌ ◌behind◌
pub ◌before◌ : {a : Bool} {U : Uses} {first second third : List Text} {part part' other other' : Part}
    → Kept true NoUses first second part part' → Kept a U second third other other' → Kept a U first third (both part other) (both part' other')
◌before◌ {U} p q = retold (none_before U) (p then q)

pub ◌behind◌ : {a : Bool} {U : Uses} {first second third : List Text} {part part' other other' : Part}
    → Kept a U first second part part' → Kept true NoUses second third other other' → Kept a U first third (both part other) (both part' other')
◌behind◌ {a} {U} p q = retold (none_behind U) (from (λ f. and_from a true f refl) (p then q))

-- ---- parts without parts

-- one mark that mentions nothing
pub kept_mark : {own : List Text} (mark : Place → Mark) → ((place : Place) (all : List Mark) → uses_among all (mark place ∷ []) ≡ [])
    → Kept true NoUses own own (marked mark) (marked mark)
kept_mark mark none = record {
  at = λ place o. record { marks = refl; next = refl; own = o; meant = λ f all there s. (none place all, none place there) };
}

-- declarations mention nothing
reaching_none : (all : List Mark) (mark : ℕ → Mark) → ((n : ℕ) (marks : List Mark) → uses_among all (mark n ∷ marks) ≡ uses_among all marks)
    → (active count : ℕ) → uses_among all (reaching mark active count) ≡ []
reaching_none all mark none active zero = refl
reaching_none all mark none active (suc count) = none (suc active) (reaching mark (suc active) count) ∙ reaching_none all mark none (suc active) count

declares_none : (all : List Mark) (line hidden : ℕ) (names : List Text) (place : Place) → uses_among all (declares line hidden names place).marks ≡ []
declares_none all line hidden names place =
    uses_append all (reaching (hidden_local line) place.active hidden) (reaching (local_name line) (place.active + hidden) (length names))
    ∙ ap₂ (λ l k. l ++ k) (reaching_none all (hidden_local line) (λ n marks. refl) place.active hidden)
    (reaching_none all (local_name line) (λ n marks. refl) (place.active + hidden) (length names))

-- names are declared, and come into scope
pub kept_declares : {own : List Text} (line hidden : ℕ) (names : List Text) → Kept true NoUses own own (declares line hidden names) (declares line hidden names)
kept_declares line hidden names = record {
  at = λ place o. record { marks = refl; next = refl; own = o; meant = λ f all there s. (declares_none all line hidden names place, declares_none there line hidden names place) };
}

pub kept_come : (own : List Text) (hidden : ℕ) (names : List Text) (number : ℕ) → Kept true NoUses own (names ++ own) (come hidden names number) (come hidden names number)
kept_come own hidden names number = record {
  at = λ place o. record { marks = refl; next = refl; own = own_locals names own hidden number place o; meant = λ f all there s. (refl, refl) };
}

-- the first names of a function
pub kept_params : (hidden : ℕ) (names : List Text) (number : ℕ) → Kept true NoUses [] names (come hidden names number) (come hidden names number)
kept_params hidden names number = record {
  at = λ place o. record { marks = refl; next = refl; own = own_params names hidden number place; meant = λ f all there s. (refl, refl) };
}

-- a name is mentioned
pub kept_mentions : {own : List Text} (line : ℕ) (name : Text) → Kept true OneUse own own (mentions line name) (mentions line name)
kept_mentions line name = record {
  at = λ place o.
      let f = innermost place.around in
      record {
        marks = refl;
        next = refl;
        own = o;
        meant = λ formed all there s. (use_in f all (place.scope name), refl, ap (λ (u : Use). u ∷ []) (sym (s f (place.scope name))));
      };
}

-- a path has a name where it is well-formed
pub kept_path : {own : List Text} (line : ℕ) (path : List Text) → Kept (are_some_names path) (PathUses path) own own (path_part line path) (path_part line path)
kept_path line [] = record {
  at = λ place o. record { marks = refl; next = refl; own = o; meant = λ f all there s. absurd (false≢true f) };
}
kept_path line (name ∷ fields) = from (λ f. refl) (kept_mentions line name)
