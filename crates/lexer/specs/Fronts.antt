-- Serves the bodies. What stands at the front of a text, told by how many bytes it takes.
use Rattle.std.specs.Prelude.{◌≡◌, ◌⊎◌, ℕ, Bool, List, ◌++◌, length}
use Rattle.lua_num.specs.Bytes.{IsRun}
use Rattle.lua_tree.specs.Brackets.{IsLong}
use Rattle.lua_tree.specs.Strings.{IsShort}
use Rattle.lua_tree.specs.Tiling.{IsShortComment, IsLongComment}

-- so many bytes at the front of a text, and what follows them
pub record IsFront (n : ℕ) (text front after : List ℕ) : Type 0 where
  pub whole : text ≡ front ++ after
  pub length_is : length front ≡ n

-- the longest run of bytes that pass
pub record RunFront (test : ℕ → Bool) (n : ℕ) (text : List ℕ) : Type 0 where
  pub front : List ℕ
  pub after : List ℕ
  pub is_front : IsFront n text front after
  pub run : IsRun test front after

-- a short string
pub record ShortFront (n : ℕ) (text : List ℕ) : Type 0 where
  pub front : List ℕ
  pub after : List ℕ
  pub bytes : List ℕ
  pub is_front : IsFront n text front after
  pub short : IsShort front after bytes

-- a long bracket of a level
pub record LongFront (level n : ℕ) (text : List ℕ) : Type 0 where
  pub front : List ℕ
  pub after : List ℕ
  pub inside : List ℕ
  pub is_front : IsFront n text front after
  pub long : IsLong level inside front

-- a comment after `--`
pub record CommentFront (n : ℕ) (text : List ℕ) : Type 0 where
  pub front : List ℕ
  pub after : List ℕ
  pub is_front : IsFront n text front after
  pub comment : IsShortComment front after ⊎ IsLongComment front
