-- Parts of a line: what is cut off a text is what stands there in its one spelling, and it is cut off.
use Rattle.std.proofs.Common.{◌≡◌, ℕ, false, [], ◌∷◌, ◌++◌, Option, None, Some, refl, sym, ap, subst, ◌∙◌, append_assoc}
use Rattle.std.proofs.lemmas.List.{append-nil}
use Rattle.lua_num.specs.Bytes.{Text, is_digit}
use Rattle.asm_text.specs.Reading.{Cut, ◌&>=◌, then_cut, as_cut, if_empty, whole, after, behind, begins_digit}
use Rattle.asm_text.proofs.Cutting.{the_same, after_there, after_back}

-- no digit follows
abbrev pub NoDigit : Text → Type 0
NoDigit rest = begins_digit rest ≡ false

pub record Takes {A : Type 0} (cut : Cut A) (show : A → Text) (Good : A → Type 0) : Type 0 where
  pub sound : (text : Text) (x : A × Text) → cut text ≡ Some x → (text ≡ show x.0 ++ x.1) × Good x.0
  pub complete : (a : A) (rest : Text) → Good a → NoDigit rest → cut (show a ++ rest) ≡ Some (a, rest)

-- what shows a value begins with no digit, where what follows does not
pub record Starts {A : Type 0} (show : A → Text) (Good : A → Type 0) : Type 0 where
  pub no_digit : (a : A) (rest : Text) → Good a → NoDigit rest → NoDigit (show a ++ rest)

-- ---- one part and then another

module _ {A B : Type 0} (first : Cut A) (show : A → Text) (Good : A → Type 0) (second : A → Cut B) (shows : A → B → Text) (Goods : A → B → Type 0) where
  abbrev pub both_show : A × B → Text
  both_show p = show p.0 ++ shows p.0 p.1

  abbrev pub BothGood : A × B → Type 0
  BothGood p = Good p.0 × Goods p.0 p.1

  second_sound : (text : Text) (x : A × Text) → (text ≡ show x.0 ++ x.1) × Good x.0 → ((a : A) → Takes (second a) (shows a) (Goods a)) → (r : Option (B × Text)) → second x.0 x.1 ≡ r → (z : (A × B) × Text) → (r &>= λ y. Some ((x.0, y.0), y.1)) ≡ Some z → (text ≡ both_show z.0 ++ z.1) × BothGood z.0
  second_sound text x h q None e z f = absurd cc
  second_sound text x h q (Some y) e z f =
      let s = (q x.0).sound x.1 y e in
      let whole : text ≡ (show x.0 ++ shows x.0 y.0) ++ y.1 = h.0 ∙ ap (λ t. show x.0 ++ t) s.0 ∙ sym (append_assoc (show x.0) (shows x.0 y.0) y.1) in
      subst (λ (z : (A × B) × Text). (text ≡ both_show z.0 ++ z.1) × BothGood z.0) (the_same {A = (A × B) × Text} ((x.0, y.0), y.1) z f) (whole, (h.1, s.1))

  first_sound : (text : Text) → Takes first show Good → ((a : A) → Takes (second a) (shows a) (Goods a)) → (r : Option (A × Text)) → first text ≡ r → (z : (A × B) × Text) → (r &>= λ x. second x.0 x.1 &>= λ y. Some ((x.0, y.0), y.1)) ≡ Some z → (text ≡ both_show z.0 ++ z.1) × BothGood z.0
  first_sound text p q None e z f = absurd cc
  first_sound text p q (Some x) e z f = second_sound text x (p.sound text x e) q (second x.0 x.1) refl z f

  both_complete : Takes first show Good → ((a : A) → Takes (second a) (shows a) (Goods a)) → ((a : A) → Starts (shows a) (Goods a)) → (p : A × B) (rest : Text) → BothGood p → NoDigit rest → then_cut first second (both_show p ++ rest) ≡ Some (p, rest)
  both_complete t q starts p rest good none =
      let e : first (show p.0 ++ (shows p.0 p.1 ++ rest)) ≡ Some (p.0, shows p.0 p.1 ++ rest) = t.complete p.0 (shows p.0 p.1 ++ rest) good.0 ((starts p.0).no_digit p.1 rest good.1 none) in
      let f : second p.0 (shows p.0 p.1 ++ rest) ≡ Some (p.1, rest) = (q p.0).complete p.1 rest good.1 none in
      rw (append_assoc (show p.0) (shows p.0 p.1) rest, e, f)

pub takes_then : {A B : Type 0} {first : Cut A} {show : A → Text} {Good : A → Type 0} {second : A → Cut B} {shows : A → B → Text} {Goods : A → B → Type 0}
    → Takes first show Good → ((a : A) → Takes (second a) (shows a) (Goods a)) → ((a : A) → Starts (shows a) (Goods a)) → Takes (then_cut first second) (both_show first show Good second shows Goods) (BothGood first show Good second shows Goods)
takes_then {first = first} {show = show} {Good = Good} {second = second} {shows = shows} {Goods = Goods} p q starts = record {
  sound = λ text z f. first_sound first show Good second shows Goods text p q (first text) refl z f;
  complete = λ a rest good none. both_complete first show Good second shows Goods p q starts a rest good none;
}

pub starts_then : {A B : Type 0} (show : A → Text) (Good : A → Type 0) (shows : A → B → Text) (Goods : A → B → Type 0) → Starts show Good → ((a : A) → Starts (shows a) (Goods a)) → Starts (λ (p : A × B). show p.0 ++ shows p.0 p.1) (λ p. Good p.0 × Goods p.0 p.1)
starts_then show Good shows Goods p q = record {
  no_digit = λ a rest good none. rw (append_assoc (show a.0) (shows a.0 a.1) rest) (p.no_digit a.0 (shows a.0 a.1 ++ rest) good.0 ((q a.0).no_digit a.1 rest good.1 none));
}

-- ---- the same values under another name

as_sound : {A B : Type 0} (f : A → B) (show : A → Text) (Good : A → Type 0) (shows : B → Text) (Goods : B → Type 0) → ((a : A) → Good a → (shows (f a) ≡ show a) × Goods (f a))
    → (text : Text) (r : Option (A × Text)) → ((x : A × Text) → r ≡ Some x → (text ≡ show x.0 ++ x.1) × Good x.0) → (z : B × Text) → (r &>= λ x. Some (f x.0, x.1)) ≡ Some z → (text ≡ shows z.0 ++ z.1) × Goods z.0
as_sound f show Good shows Goods to text None h z e = absurd cc
as_sound {A} {B} f show Good shows Goods to text (Some x) h z e =
    let s = h x refl in
    let t = to x.0 s.1 in
    subst (λ (z : B × Text). (text ≡ shows z.0 ++ z.1) × Goods z.0) (the_same {A = B × Text} (f x.0, x.1) z e) (s.0 ∙ ap (λ t. t ++ x.1) (sym t.0), t.1)

pub takes_as : {A B : Type 0} {cut : Cut A} {show : A → Text} {Good : A → Type 0} (f : A → B) (shows : B → Text) (Goods : B → Type 0) → Takes cut show Good
    → ((a : A) → Good a → (shows (f a) ≡ show a) × Goods (f a)) → ((b : B) → Goods b → (a : A) × (f a ≡ b) × Good a) → Takes (as_cut f cut) shows Goods
takes_as {A} {B} {cut = cut} {show = show} {Good = Good} f shows Goods p to from = record {
  sound = λ text z e. as_sound f show Good shows Goods to text (cut text) (p.sound text) z e;
  complete = λ b rest good none.
      let a = from b good in
      let same : shows b ≡ show a.0 = ap shows (sym a.1) ∙ (to a.0 a.2).0 in
      let e : cut (show a.0 ++ rest) ≡ Some (a.0, rest) = p.complete a.0 rest a.2 none in
      rw (same, e) (ap (λ (b : B). Some (b, rest)) a.1);
}

pub starts_as : {A : Type 0} {show : A → Text} {Good : A → Type 0} (shows : A → Text) (Goods : A → Type 0) → Starts show Good → ((a : A) → Goods a → (shows a ≡ show a) × Good a) → Starts shows Goods
starts_as shows Goods p to = record {
  no_digit = λ a rest good none. let t = to a good in rw t.0 (p.no_digit a rest t.1 none);
}

-- ---- behind a text

behind_sound : {A : Type 0} (front : Text) (parse : Text → Option A) (text : Text) (r : Option Text) → ((rest : Text) → r ≡ Some rest → text ≡ front ++ rest) → (z : A) → (r &>= parse) ≡ Some z → (rest : Text) × (text ≡ front ++ rest) × (parse rest ≡ Some z)
behind_sound front parse text None h z e = absurd cc
behind_sound front parse text (Some rest) h z e = (rest, h rest refl, e)

pub behind_back : {A : Type 0} (front : Text) (parse : Text → Option A) (text : Text) (z : A) → behind front parse text ≡ Some z → (rest : Text) × (text ≡ front ++ rest) × (parse rest ≡ Some z)
behind_back front parse text z e = behind_sound front parse text (after front text) (λ rest f. after_back front text rest f) z e

pub behind_there : {A : Type 0} (front : Text) (parse : Text → Option A) (rest : Text) → behind front parse (front ++ rest) ≡ parse rest
behind_there front parse rest = rw (after_there front rest)

pub takes_behind : {A : Type 0} {cut : Cut A} {show : A → Text} {Good : A → Type 0} (front : Text) → Takes cut show Good → Takes (behind front cut) (λ a. front ++ show a) Good
takes_behind {A} {cut = cut} {show = show} {Good = Good} front p = record {
  sound = λ text z e.
      let b = behind_back front cut text z e in
      let s = p.sound b.0 z b.2 in
      (b.1 ∙ ap (λ t. front ++ t) s.0 ∙ sym (append_assoc front (show z.0) z.1), s.1);
  complete = λ a rest good none.
      ap (behind front cut) (append_assoc front (show a) rest) ∙ behind_there front cut (show a ++ rest) ∙ p.complete a rest good none;
}

pub starts_behind : {A : Type 0} (byte : ℕ) (front : Text) (show : A → Text) (Good : A → Type 0) → is_digit byte ≡ false → Starts (λ a. (byte ∷ front) ++ show a) Good
starts_behind byte front show Good e = record { no_digit = λ a rest good none. e }

-- ---- a whole text

pub record Wholes {A : Type 0} (parse : Text → Option A) (show : A → Text) (Good : A → Type 0) : Type 0 where
  pub sound : (text : Text) (a : A) → parse text ≡ Some a → (text ≡ show a) × Good a
  pub complete : (text : Text) (a : A) → Good a → text ≡ show a → parse text ≡ Some a

empty_sound : {A : Type 0} (a z : A) (rest : Text) → if_empty a rest ≡ Some z → (rest ≡ []) × (a ≡ z)
empty_sound a z [] e = (refl, the_same a z e)
empty_sound a z (b ∷ rest) e = absurd cc

whole_sound : {A : Type 0} (show : A → Text) (Good : A → Type 0) (text : Text) (r : Option (A × Text)) → ((x : A × Text) → r ≡ Some x → (text ≡ show x.0 ++ x.1) × Good x.0) → (z : A) → (r &>= λ x. if_empty x.0 x.1) ≡ Some z → (text ≡ show z) × Good z
whole_sound show Good text None h z e = absurd cc
whole_sound {A} show Good text (Some x) h z e =
    let s = h x refl in
    let t = empty_sound x.0 z x.1 e in
    subst (λ z. (text ≡ show z) × Good z) t.1 (s.0 ∙ ap (λ r. show x.0 ++ r) t.0 ∙ append-nil (show x.0), s.1)

pub whole_of : {A : Type 0} {cut : Cut A} {show : A → Text} {Good : A → Type 0} → Takes cut show Good → Wholes (whole cut) show Good
whole_of {A} {cut = cut} {show = show} {Good = Good} p = record {
  sound = λ text z e. whole_sound show Good text (cut text) (p.sound text) z e;
  complete = λ text a good is.
      let e : cut text ≡ Some (a, []) = ap cut (is ∙ sym (append-nil (show a))) ∙ p.complete a [] good refl in
      rw e refl;
}

pub wholes_behind : {A : Type 0} {parse : Text → Option A} {show : A → Text} {Good : A → Type 0} (front : Text) → Wholes parse show Good → Wholes (behind front parse) (λ a. front ++ show a) Good
wholes_behind {A} {parse = parse} {show = show} {Good = Good} front p = record {
  sound = λ text z e.
      let b = behind_back front parse text z e in
      let s = p.sound b.0 z b.2 in
      (b.1 ∙ ap (λ t. front ++ t) s.0, s.1);
  complete = λ text a good is. ap (behind front parse) is ∙ behind_there front parse (show a) ∙ p.complete (show a) a good refl;
}
