-- A call's words stored into a list, by what the code tests (specs/Put). Assumes nothing.
use Prim.Native.Nat.{ℕ, ◌+◌, ◌≤◌}
use mathlib.Core.Path.{◌≡◌, ◌∙◌}
use mathlib.Core.Bool.{true}
use mathlib.Core.List.{List, [], ◌∷◌, append_assoc}
use native.Mathlib.Numerals.{add-one}
use borrow.Author.Tests.{le-leb}
use lib.ListN.{length, take, set}
use lib.Seq.{sets-eq}
use Rattle.calls.specs.declared.Call.{Call}
use Rattle.writer_theory.specs.Words.{fits, encoded_words}
use Rattle.call_encode.specs.Put.{pasted, put_at}

module _ (ws : List ℕ) (at : ℕ) (c : Call) where
  pub put-there : fits c ≡ true → at + length (encoded_words c) ≤ length ws → put_at ws at c ≡ pasted ws at (encoded_words c)
  unfolding put_at
  put-there f h = rw (f, le-leb _ _ h)

-- ---- words written one after the other
pub one_set : (xs : List ℕ) (at a : ℕ) → at + 1 ≤ length xs → set xs at a ≡ pasted xs at (a ∷ [])
one_set xs at a h = sets-eq (a ∷ []) xs at h ∙ append_assoc (take at xs) _ _

pub two_sets : (xs : List ℕ) (at a b : ℕ) → at + 2 ≤ length xs → set (set xs at a) (at + 1) b ≡ pasted xs at (a ∷ b ∷ [])
two_sets xs at a b h = rw (add-one at) (sets-eq (a ∷ b ∷ []) xs at h ∙ append_assoc (take at xs) _ _)
