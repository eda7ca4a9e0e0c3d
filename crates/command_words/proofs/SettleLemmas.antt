-- An argument whose values are being read may be used before the next word: what comes of the words stays the same.
use Rattle.std.proofs.Common.{◌≡◌, ◌∙◌, ◌++◌, ℕ, true, false, List, [], ◌∷◌, Option, Some, None, refl, ap, sym, subst}
use Rattle.std.specs.Prelude.{codes}
use Rattle.std.specs.Str.{bytes_eq}
use Rattle.clap.specs.Kinds.{Kinds}
use Rattle.clap.specs.Lexer.{long_of}
use Rattle.clap.specs.Walk.{Row, Rule, Text, Waiting, arg_by_index, idle, settled_rows}
use Rattle.clap.specs.Faults.{settle_fault}
use Rattle.command_words.specs.declared.reading.Form.{Form}
use Rattle.command_words.proofs.RuleLemmas.{Finds}
use Rattle.command_words.proofs.TurnLemmas.{IsPlace, Valued, alone_turn, dashes_turn, end_turn, joined_turn, layout, mark_of, name_of, outcome, past, past_none, plain_stray, plain_turn, settling, short_turn, standing, steps, strip_turn, trailing_stray, trailing_turn, unknown_turn, valued_turn}
use Rattle.command_words.proofs.KindLemmas.{AreTexts, IsPlain, IsRefused, IsUnknown, Kind, dashes, joined, kind_of, lone, plain, refused, short, strip, unknown, valued}

-- the positional to which a word goes, if one is left
pub data Taker (c : List Rule) (position : ℕ) : Type 0 where
  taker : (a : Rule) → IsPlace c position a → Taker c position
  nobody : arg_by_index c position ≡ None → Taker c position

pub mark_more : (k : Valued) (v : Text) → bytes_eq (mark_of k ++ v) (codes "--") ≡ false
mark_more steps v = refl
mark_more layout v = refl

pub mark_long : (k : Valued) (v : Text) → long_of (mark_of k ++ v) ≡ Some (name_of k, Some v)
mark_long steps v = refl
mark_long layout v = refl

-- a flag that the command lacks is refused, whatever waits
pub unknown_fails : (form : Form) (c : List Rule) (f : Finds form c) (rows : List Row) (pending : Option (Text × List Text)) (waiting : Waiting) (position : ℕ) (word : Text) (rest : List Text)
    → bytes_eq word (codes "--") ≡ false → IsUnknown word → outcome c (standing rows pending waiting position false) (word ∷ rest) ≡ None
unknown_fails form c f rows pending waiting position word rest more (unknown name v is s t l) = unknown_turn c rows pending waiting position word name v rest more is (f.other name s t l)
unknown_fails form c f rows pending waiting position word rest more (valued v is) = valued_turn form c f rows pending waiting position word v rest more is
unknown_fails form c f rows pending waiting position word rest more (short y x flags long is first) = short_turn form c f rows pending waiting position word y x flags rest more long is first

module _ (c : List Rule) (rows : List Row) (pending : Option (Text × List Text)) (position : ℕ) where
  abbrev now : List Row
  now = settled_rows c pending rows

  abbrev fails : Kinds
  fails = settle_fault c false (record { rows = rows; pending = pending; skip = 0 })

  pub settled_trailing : (waiting : Waiting) → Taker c position → (rest : List Text)
      → outcome c (standing rows pending waiting position true) rest ≡ settling c rows pending (λ r. outcome c (standing r None idle position true) rest)
  settled_trailing waiting t [] = end_turn c rows pending waiting position true ∙ ap (past fails) (sym (end_turn c now None idle position true))
  settled_trailing waiting (taker a place) (word ∷ rest) = trailing_turn c position a place rows pending waiting word rest ∙ ap (past fails) (sym (trailing_turn c position a place now None idle word rest))
  settled_trailing waiting (nobody none) (word ∷ rest) = trailing_stray c position none rows pending waiting word rest ∙ sym (ap (past fails) (trailing_stray c position none now None idle word rest) ∙ past_none fails)

  module _ (form : Form) (f : Finds form c) where
    abbrev IsSettled : List Text → Type 0
    IsSettled rest = outcome c (standing rows pending idle position false) rest ≡ settling c rows pending (λ r. outcome c (standing r None idle position false) rest)

    refused_same : (word : Text) (rest : List Text) → IsRefused word → IsSettled (word ∷ rest)
    refused_same word rest r =
        unknown_fails form c f rows pending idle position word rest r.more r.how
        ∙ sym (ap (past fails) (unknown_fails form c f now None idle position word rest r.more r.how) ∙ past_none fails)

    plain_same : (word : Text) (rest : List Text) → IsPlain word → Taker c position → IsSettled (word ∷ rest)
    plain_same word rest p (taker a place) =
        plain_turn c position a place rows pending word rest p.more p.long p.short ∙ ap (past fails) (sym (plain_turn c position a place now None word rest p.more p.long p.short))
    plain_same word rest p (nobody none) =
        plain_stray c position none rows pending word rest p.more p.long p.short
        ∙ sym (ap (past fails) (plain_stray c position none now None word rest p.more p.long p.short) ∙ past_none fails)

    by_kind : (word : Text) (rest : List Text) → Taker c position → Kind word → IsSettled (word ∷ rest)
    by_kind word rest t (dashes is) = subst (λ (w : Text). IsSettled (w ∷ rest)) (sym is)
        (dashes_turn c rows pending idle position rest ∙ settled_trailing idle t rest ∙ ap (past fails) (sym (dashes_turn c now None idle position rest)))
    by_kind word rest t (strip is) = subst (λ (w : Text). IsSettled (w ∷ rest)) (sym is)
        (strip_turn form c f rows pending position rest ∙ ap (past fails) (sym (strip_turn form c f now None position rest)))
    by_kind word rest t (lone k is) = subst (λ (w : Text). IsSettled (w ∷ rest)) (sym is)
        (alone_turn form c f k rows pending position rest ∙ ap (past fails) (sym (alone_turn form c f k now None position rest)))
    by_kind word rest t (joined k v is) = subst (λ (w : Text). IsSettled (w ∷ rest)) (sym is)
        (joined_turn form c f k rows pending position (mark_of k ++ v) v rest (mark_more k v) (mark_long k v)
        ∙ ap (past fails) (sym (joined_turn form c f k now None position (mark_of k ++ v) v rest (mark_more k v) (mark_long k v))))
    by_kind word rest t (refused r) = refused_same word rest r
    by_kind word rest t (plain p) = plain_same word rest p t

    pub settled_free : (words : List Text) → Taker c position → AreTexts words → IsSettled words
    settled_free [] t texts = end_turn c rows pending idle position false ∙ ap (past fails) (sym (end_turn c now None idle position false))
    settled_free (word ∷ rest) t texts = by_kind word rest t (kind_of word texts.0)
