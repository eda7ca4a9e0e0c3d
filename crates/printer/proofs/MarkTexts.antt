-- Marks stand as tokens where no byte follows that makes a longer mark, a comment, a long bracket or a numeral of them.
use Rattle.std.proofs.Common.{◌≡◌, ◌≤◌, ℕ, ◌||◌, ◌==◌, bytes_eq, codes, length, Bool, true, false, List, [], ◌∷◌, ◌++◌, refl, sym, ap, ◌∙◌, true≢false}
use Rattle.lua_num.specs.Bytes.{is_digit, BeginsWithout}
use Rattle.lua_tree.specs.Bytes.{longest}
use Rattle.lua_tree.specs.Tokens.{marks, IsMarkPlace, IsMark}

-- what may not follow `=`, `<`, `>` and `..`, `-`, `[` and `.`
abbrev pub is_byte : ℕ → ℕ → Bool
is_byte one byte = one == byte

abbrev pub opens_bracket : ℕ → Bool
opens_bracket byte = (byte == 91) || (byte == 61)

abbrev pub goes_on_point : ℕ → Bool
goes_on_point byte = is_digit byte || (46 == byte)

differ : (mark other : List ℕ) → bytes_eq mark other ≡ false → bytes_eq other other ≡ true → mark ≡ other → ⊥
differ mark other differs same e = true≢false (sym same ∙ (sym (ap (λ m. bytes_eq m other) e) ∙ differs))

-- marks that stand before any byte that makes no longer one
record IsPlain (mark : List ℕ) : Type 0 where
  minus : bytes_eq mark (codes "-") ≡ false
  bracket : bytes_eq mark (codes "[") ≡ false
  point : bytes_eq mark (codes ".") ≡ false
  hash : bytes_eq mark (codes "#") ≡ false

plain_place : (mark : List ℕ) (at : ℕ) (after : List ℕ) → IsPlain mark → IsMarkPlace at mark after
plain_place mark at after plain = record {
  minus = λ e. absurd (differ mark (codes "-") plain.minus refl e);
  bracket = λ e. absurd (differ mark (codes "[") plain.bracket refl e);
  point = λ e. absurd (differ mark (codes ".") plain.point refl e);
  hash = λ e. absurd (differ mark (codes "#") plain.hash refl e);
}

plain_mark : (mark : List ℕ) (at : ℕ) (after : List ℕ) → IsPlain mark → longest marks (mark ++ after) ≡ length mark → IsMark mark at mark after
plain_mark mark at after plain long = record { text_is = refl; place = plain_place mark at after plain; longest_is = long }

-- marks that begin no longer one
pub lone : (mark : List ℕ) (at : ℕ) (after : List ℕ) → bytes_eq mark (codes "-") ≡ false → bytes_eq mark (codes "[") ≡ false → bytes_eq mark (codes ".") ≡ false → bytes_eq mark (codes "#") ≡ false → longest marks (mark ++ after) ≡ length mark → IsMark mark at mark after
lone mark at after minus bracket point hash long = plain_mark mark at after (record { minus = minus; bracket = bracket; point = point; hash = hash }) long

pub minus_mark : (at : ℕ) (after : List ℕ) → BeginsWithout (λ byte. byte == 45) after → IsMark (codes "-") at (codes "-") after
minus_mark at after follows = record {
  text_is = refl;
  place = record {
    minus = λ e. follows;
    bracket = λ e. absurd (differ (codes "-") (codes "[") refl refl e);
    point = λ e. absurd (differ (codes "-") (codes ".") refl refl e);
    hash = λ e. absurd (differ (codes "-") (codes "#") refl refl e);
  };
  longest_is = refl;
}

pub hash_mark : (at : ℕ) (after : List ℕ) → 1 ≤ at → IsMark (codes "#") at (codes "#") after
hash_mark at after later = record {
  text_is = refl;
  place = record {
    minus = λ e. absurd (differ (codes "#") (codes "-") refl refl e);
    bracket = λ e. absurd (differ (codes "#") (codes "[") refl refl e);
    point = λ e. absurd (differ (codes "#") (codes ".") refl refl e);
    hash = λ e. later;
  };
  longest_is = refl;
}

pub bracket_mark : (at : ℕ) (after : List ℕ) → BeginsWithout opens_bracket after → IsMark (codes "[") at (codes "[") after
bracket_mark at after follows = record {
  text_is = refl;
  place = record {
    minus = λ e. absurd (differ (codes "[") (codes "-") refl refl e);
    bracket = λ e. follows;
    point = λ e. absurd (differ (codes "[") (codes ".") refl refl e);
    hash = λ e. absurd (differ (codes "[") (codes "#") refl refl e);
  };
  longest_is = refl;
}

-- ---- marks that may begin a longer one

less_long : (after : List ℕ) → BeginsWithout (is_byte 61) after → longest marks (codes "<" ++ after) ≡ 1
less_long [] follows = refl
less_long (byte ∷ after) follows = rw follows

greater_long : (after : List ℕ) → BeginsWithout (is_byte 61) after → longest marks (codes ">" ++ after) ≡ 1
greater_long [] follows = refl
greater_long (byte ∷ after) follows = rw follows

equal_long : (after : List ℕ) → BeginsWithout (is_byte 61) after → longest marks (codes "=" ++ after) ≡ 1
equal_long [] follows = refl
equal_long (byte ∷ after) follows = rw follows

dots_long : (after : List ℕ) → BeginsWithout (is_byte 46) after → longest marks (codes ".." ++ after) ≡ 2
dots_long [] follows = refl
dots_long (byte ∷ after) follows = rw follows

left_false : (a b : Bool) → (a || b) ≡ false → a ≡ false
left_false true b e = absurd (true≢false e)
left_false false b e = refl

right_false : (a b : Bool) → (a || b) ≡ false → b ≡ false
right_false true b e = absurd (true≢false e)
right_false false b e = e

point_long : (after : List ℕ) → BeginsWithout goes_on_point after → longest marks (codes "." ++ after) ≡ 1
point_long [] follows = refl
point_long (byte ∷ after) follows = let other : (46 == byte) ≡ false = right_false (is_digit byte) (46 == byte) follows in rw other

no_digit : (after : List ℕ) → BeginsWithout goes_on_point after → BeginsWithout is_digit after
no_digit [] follows = tt
no_digit (byte ∷ after) follows = left_false (is_digit byte) (46 == byte) follows

pub less_mark : (at : ℕ) (after : List ℕ) → BeginsWithout (is_byte 61) after → IsMark (codes "<") at (codes "<") after
less_mark at after follows = lone (codes "<") at after refl refl refl refl (less_long after follows)

pub greater_mark : (at : ℕ) (after : List ℕ) → BeginsWithout (is_byte 61) after → IsMark (codes ">") at (codes ">") after
greater_mark at after follows = lone (codes ">") at after refl refl refl refl (greater_long after follows)

pub equal_mark : (at : ℕ) (after : List ℕ) → BeginsWithout (is_byte 61) after → IsMark (codes "=") at (codes "=") after
equal_mark at after follows = lone (codes "=") at after refl refl refl refl (equal_long after follows)

pub dots_mark : (at : ℕ) (after : List ℕ) → BeginsWithout (is_byte 46) after → IsMark (codes "..") at (codes "..") after
dots_mark at after follows = lone (codes "..") at after refl refl refl refl (dots_long after follows)

pub point_mark : (at : ℕ) (after : List ℕ) → BeginsWithout goes_on_point after → IsMark (codes ".") at (codes ".") after
point_mark at after follows = record {
  text_is = refl;
  place = record {
    minus = λ e. absurd (differ (codes ".") (codes "-") refl refl e);
    bracket = λ e. absurd (differ (codes ".") (codes "[") refl refl e);
    point = λ e. no_digit after follows;
    hash = λ e. absurd (differ (codes ".") (codes "#") refl refl e);
  };
  longest_is = point_long after follows;
}
