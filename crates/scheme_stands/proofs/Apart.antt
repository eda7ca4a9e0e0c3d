-- A part of a source stands apart: before it only what is declared before it is mentioned, and behind it what is declared before it or behind it, or is in scope at its end. So do its parts.
use Rattle.std.proofs.Common.{◌≡◌, ◌∙◌, ◌<◌, ◌≤◌, ◌⊎◌, inl, inr, ℕ, suc, ◌+◌, List, [], ◌∷◌, ◌++◌, length, append_assoc, append-nil, Some, refl, sym, subst, ap, arith, if◌then◌else◌, Bool, true, false}
use Rattle.std.specs.Str.{bytes_eq}
use Rattle.lua_num.specs.Bytes.{Text}
use Rattle.lua_tree.specs.Outline as outline
use Rattle.lua_tree.specs.Outline.{Binding, Mark, Place, Scope, Walk, all_params, beginning, body_part, both, come, declares, in_function, innermost, marked, nothing, opened, statements_part, with_locals, with_name, with_names, within}
use Rattle.lua_tree.specs.Syntax.{FunctionBody, Source, Statements, function_body}
use Rattle.scheme_stands.proofs.Entering.{entered_by}
use Rattle.scheme_stands.proofs.KnownMarks.{Led, MeansFrom}
use Rattle.scheme_stands.proofs.LowMentions.{StaysLow, low_both, low_come, low_declares, low_within, under_more}
use Rattle.scheme_stands.proofs.Origins.{mentions_both, mentions_more}
use Rattle.scheme_stands.specs.Places.{IsApart, KnownFrom, LowAt, Mentions, StandsApart, Under, inside_part, is_vararg_body}

-- ---- what a part mentions is declared before a number, or known from a place

module _ (from : ℕ) (base : Place) where
  abbrev pub IsGood : Binding → Type 0
  IsGood b = (b.declaration < from) ⊎ KnownFrom base b

  abbrev AreGood : Scope → Type 0
  AreGood scope = (name : Text) (b : Binding) → scope name ≡ Some b → IsGood b

  pub record Good (place : Place) : Type 0 where
    pub declarations : base.declarations ≤ place.declarations
    pub scope : AreGood place.scope

  pub record GoodWalk (walk : Walk) : Type 0 where
    pub mentions : Mentions (IsApart from base) walk.marks
    pub next : Good walk.next

  pub known_good : (place : Place) → Good place → (b : Binding) → KnownFrom place b → IsGood b
  known_good place good b (inl seen) = good.scope seen.0 b seen.1
  known_good place good b (inr later) = let more = good.declarations in inr (inr (omega (arith, later, more)))

  -- what is known before a part of itself
  led_good : (part : outline.Part) (place : Place) → Led place part place → Good place → GoodWalk (part place)
  led_good part place led good =
      let next = led.next in
      let grows = next.declarations in
      let more = good.declarations in
      record {
        mentions = mentions_more (MeansFrom place) (IsApart from base) (λ means around known b is. known_good place good b (known b is)) (part place).marks led.from;
        next = record { declarations = omega (arith, grows, more); scope = λ name b is. known_good place good b (next.scope name b is) };
      }

  name_good : (name other : Text) (new : Binding) (scope : Scope) (b : Binding) → new.declaration < from → (scope other ≡ Some b → IsGood b) → with_name name new scope other ≡ Some b → IsGood b
  name_good name other new scope b low good is = by (bytes_eq name other) is
    where
      by : (same : Bool) → (if same then Some new else scope other) ≡ Some b → IsGood b
      by true is = let same : new ≡ b = cc in inl (subst (λ (x : Binding). x.declaration < from) same low)
      by false is = good is

  names_good : (names : List Text) (number home : ℕ) (scope : Scope) → number + length names ≤ from → AreGood scope → AreGood (with_names names number home scope)
  names_good [] number home scope low good = good
  names_good (name ∷ names) number home scope low good =
      let new : Binding = record { declaration = number; home = home } in
      names_good names (suc number) home (with_name name new scope) (omega (arith, low)) (λ other b. name_good name other new scope b (omega (arith, low)) (good other b))

  locals_good : (hidden : ℕ) (names : List Text) (number : ℕ) (place : Place) → number + length names ≤ from → Good place → Good (with_locals hidden names number place)
  locals_good hidden names number place low good = record { declarations = good.declarations; scope = names_good names number (innermost place.around) place.scope low good.scope }

  both_good : (a b : outline.Part) (place : Place) → GoodWalk (a place) → GoodWalk (b (a place).next) → GoodWalk (both a b place)
  both_good a b place one two = record { mentions = mentions_both (IsApart from base) (a place).marks (b (a place).next).marks one.mentions two.mentions; next = two.next }

-- a part wherever it stands, where the names that it brings from outside are declared before a number
pub record Keeps (bound : ℕ) (part : outline.Part) : Type 0 where
  pub low : (place : Place) → bound ≤ place.declarations → LowAt place → StaysLow place (part place)
  pub good : (from : ℕ) (base place : Place) → bound ≤ from → Good from base place → GoodWalk from base (part place)

-- one that brings none
pub keeps_own : {part : outline.Part} → ((place : Place) → LowAt place → StaysLow place (part place)) → ((place : Place) → Led place part place) → Keeps 0 part
keeps_own {part} low led = record { low = λ place bound. low place; good = λ from base place bound good. led_good from base part place (led place) good }

pub keeps_more : {bound : ℕ} {part : outline.Part} → Keeps 0 part → Keeps bound part
keeps_more keeps = record { low = λ place bound. keeps.low place (omega arith); good = λ from base place bound. keeps.good from base place (omega arith) }

pub keeps_both : {bound : ℕ} {a b : outline.Part} → Keeps bound a → Keeps bound b → Keeps bound (both a b)
keeps_both {bound} {a} {b} one two = record {
  low = λ place more low.
      let first = one.low place more low in
      let grows = first.grows in
      low_both a b place first (two.low (a place).next (omega (arith, more, grows)) first.low);
  good = λ from base place more good.
      let first = one.good from base place more good in
      both_good from base a b place first (two.good from base (a place).next more first.next);
}

pub keeps_come : (hidden : ℕ) (names : List Text) (number : ℕ) → Keeps (number + length names) (come hidden names number)
keeps_come hidden names number = record {
  low = λ place more low. low_come hidden names number place more low;
  good = λ from base place more good. record { mentions = tt; next = locals_good from base hidden names number place more good };
}

-- inside a block
pub keeps_within : {bound : ℕ} (enter : Place → Place) {part : outline.Part} → ((place : Place) → (enter place).declarations ≡ place.declarations) → ((place : Place) → bound ≤ place.declarations → LowAt place → LowAt (enter place)) →
    ((from : ℕ) (base place : Place) → bound ≤ from → Good from base place → Good from base (enter place)) → Keeps 0 part → Keeps bound (within enter part)
keeps_within enter {part} same into_low into_good keeps = record {
  low = λ place more low. let is = same place in low_within enter part place low (omega (arith, is)) (keeps.low (enter place) (omega arith) (into_low place more low));
  good = λ from base place more good.
      let inside = keeps.good from base (enter place) (omega arith) (into_good from base place more good) in
      let next = inside.next in
      record { mentions = inside.mentions; next = record { declarations = next.declarations; scope = good.scope } };
}

pub keeps_turn : (hidden : ℕ) (names : List Text) (number : ℕ) {part : outline.Part} → Keeps 0 part → Keeps (number + length names) (within (λ place. outline.in_loop (with_locals hidden names number place)) part)
keeps_turn hidden names number {part} keeps =
    keeps_within (λ place. outline.in_loop (with_locals hidden names number place)) (λ place. refl) (λ place more low. (low_come hidden names number place more low).low)
    (λ from base place more good. let there = locals_good from base hidden names number place more good in record { declarations = there.declarations; scope = there.scope }) keeps

-- a place is good from itself
pub good_itself : (from : ℕ) (place : Place) → Good from place place
good_itself from place = record { declarations = omega arith; scope = λ name b is. inr (inl (name, is)) }

-- ---- it is handed on

-- all statements of a source stand so
pub apart_all : (source : Source) → StandsApart (outline.outline source) (statements_part source.body) beginning []
apart_all source = record { before = []; is = sym (append-nil (outline.outline source)); low = tt; scope = λ name b there. cc; apart = tt }

module _ (all : List Mark) (a b : outline.Part) (place : Place) (rest : List Mark) (there : StandsApart all (both a b) place rest) where
  -- the first of two parts
  pub apart_first : GoodWalk place.declarations (a place).next (b (a place).next) → StandsApart all a place ((b (a place).next).marks ++ rest)
  apart_first good =
      let x = a place in
      let y = b x.next in
      record {
        before = there.before;
        is = there.is ∙ ap (λ marks. there.before ++ marks) (append_assoc x.marks y.marks rest);
        low = there.low;
        scope = there.scope;
        apart = mentions_both (IsApart place.declarations x.next) y.marks rest good.mentions
            (mentions_more (IsApart place.declarations y.next) (IsApart place.declarations x.next) (λ means around from b is. by good.next b (from b is)) rest there.apart);
      }
    where
      by : Good place.declarations (a place).next (b (a place).next).next → (c : Binding) → (c.declaration < place.declarations) ⊎ KnownFrom (b (a place).next).next c → (c.declaration < place.declarations) ⊎ KnownFrom (a place).next c
      by good c (inl low) = inl low
      by good c (inr known) = known_good place.declarations (a place).next (b (a place).next).next good c known

  -- the second
  pub apart_second : StaysLow place (a place) → StandsApart all b (a place).next rest
  apart_second stays =
      let x = a place in
      let y = b x.next in
      let grows = stays.grows in
      record {
        before = there.before ++ x.marks;
        is = there.is ∙ ap (λ marks. there.before ++ marks) (append_assoc x.marks y.marks rest) ∙ sym (append_assoc there.before x.marks (y.marks ++ rest));
        low = mentions_both (Under x.next.declarations) there.before x.marks (under_more place.declarations x.next.declarations grows there.before there.low) stays.mentions;
        scope = stays.low;
        apart = mentions_more (IsApart place.declarations y.next) (IsApart x.next.declarations y.next) (λ means around from b is. by grows b (from b is)) rest there.apart;
      }
    where
      by : place.declarations ≤ (a place).next.declarations → (c : Binding) → (c.declaration < place.declarations) ⊎ KnownFrom (b (a place).next).next c → (c.declaration < (a place).next.declarations) ⊎ KnownFrom (b (a place).next).next c
      by grows c (inl low) = inl (omega (arith, low, grows))
      by grows c (inr known) = inr known

-- inside a block
pub apart_within : {all : List Mark} (enter : Place → Place) {part : outline.Part} {place : Place} {rest : List Mark} → (enter place).declarations ≡ place.declarations → LowAt (enter place) → StandsApart all (within enter part) place rest → StandsApart all part (enter place) rest
apart_within {all} enter {part} {place} {rest} same scope there =
    let end = (part (enter place)).next in
    record {
      before = there.before;
      is = there.is;
      low = under_more place.declarations (enter place).declarations (omega (arith, same)) there.before there.low;
      scope = scope;
      apart = mentions_more (IsApart place.declarations (within enter part place).next) (IsApart (enter place).declarations end) (λ means around from b is. by there.scope b (from b is)) rest there.apart;
    }
  where
    by : LowAt place → (c : Binding) → (c.declaration < place.declarations) ⊎ KnownFrom (within enter part place).next c → (c.declaration < (enter place).declarations) ⊎ KnownFrom (part (enter place)).next c
    by low c (inl before) = inl (omega (arith, before, same))
    by low c (inr (inl seen)) = let before = low seen.0 c seen.1 in inl (omega (arith, before, same))
    by low c (inr (inr later)) = inr (inr later)

-- inside a function
pub apart_function : (all : List Mark) (method : Bool) (body : FunctionBody) (place : Place) (rest : List Mark) → StandsApart all (body_part method body) place rest →
    StandsApart all (inside_part method body) (in_function (is_vararg_body body) place) rest
apart_function all method (function_body params vararg block first last) place rest there =
    let opens = marked (λ place. opened (innermost place.around)) in
    let inside = inside_part method (function_body params vararg block first last) in
    let low : StaysLow place (opens place) = record { mentions = tt; low = there.scope; grows = omega arith } in
    apart_within (in_function vararg) refl there.scope (apart_second all opens (within (in_function vararg) inside) place rest there low)

-- the same part, written otherwise
pub apart_as : (all : List Mark) (part other : outline.Part) (place : Place) (rest : List Mark) → part place ≡ other place → StandsApart all part place rest → StandsApart all other place rest
apart_as all part other place rest same there = record {
  before = there.before;
  is = there.is ∙ ap (λ (walk : Walk). there.before ++ (walk.marks ++ rest)) same;
  low = there.low;
  scope = there.scope;
  apart = subst (λ (walk : Walk). Mentions (IsApart place.declarations walk.next) rest) same there.apart;
}

-- the statements of a function, behind its parameters
pub apart_block : (all : List Mark) (method : Bool) (params : List Text) (vararg : Bool) (block : Statements) (first last : ℕ) (place : Place) (rest : List Mark) → StandsApart all (body_part method (function_body params vararg block first last)) place rest →
    StandsApart all (statements_part block) (entered_by (all_params method params) first (in_function vararg place)) rest
apart_block all method params vararg block first last place rest there =
    let body = function_body params vararg block first last in
    let texts = all_params method params in
    let inside = in_function vararg place in
    let one = declares first 0 texts in
    let two = come 0 texts inside.declarations in
    let begun = (one inside).next in
    let within = apart_as all (inside_part method body) (both one (both two (statements_part block))) inside rest refl (apart_function all method body place rest there) in
    let declared = low_declares first 0 texts inside there.scope in
    apart_second all two (statements_part block) begun rest (apart_second all one (both two (statements_part block)) inside rest within declared) (low_come 0 texts inside.declarations begun (omega arith) declared.low)
