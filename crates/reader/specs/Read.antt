-- What one read says, and what it leaves in the lent buffer. Which bytes come is the world's.
use Rattle.std.specs.Prelude.{ℕ, ◌+◌, ◌≤◌, ◌≡◌, cond, List, leb, length, take, drop}
use Rattle.reader.specs.declared.Got.{Got}

-- how many bytes it asked for
abbrev pub asked_of : Got → ℕ
asked_of g = g.asked

-- how many bytes came
abbrev pub came_of : Got → ℕ
came_of g = g.came

-- What a read of `want` bytes into a buffer from the index `have` on leaves. It asks for just these, and for none where they don't
-- fit. The buffer before and after their place stays as it was.
pub record ReadAt (have want : ℕ) (before : List ℕ) (g : Got) (after : List ℕ) : Type 0 where
  pub asked_is : asked_of g ≡ cond (leb (have + want) (length before)) want 0
  pub came-few : came_of g ≤ asked_of g
  pub front : take have after ≡ take have before
  pub rest : drop (have + asked_of g) after ≡ drop (have + asked_of g) before
  pub long : length after ≡ length before
