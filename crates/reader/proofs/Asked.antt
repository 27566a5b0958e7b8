-- A read asks for what is wanted wherever that fits, and for nothing elsewhere.
use Rattle.std.proofs.Common.{ℕ, ◌+◌, ◌≤◌, ◌<◌, ◌≡◌, List, length, ap, ◌∙◌}
use mathlib.Core.Bool.{Bool, cond}
use borrow.Author.Tests.{le-leb, lt-leb}
use Rattle.reader.specs.Read.{asked_of, ReadAt}
use Rattle.reader.specs.declared.Got.{Got}

module _ {have want : ℕ} {before after : List ℕ} {g : Got} (read : ReadAt have want before g after) where
  pub asks-all : have + want ≤ length before → asked_of g ≡ want
  asks-all fits = read.asked_is ∙ ap (λ (b : Bool). cond b want 0) (le-leb _ _ fits)

  pub asks_none : length before < have + want → asked_of g ≡ 0
  asks_none past = read.asked_is ∙ ap (λ (b : Bool). cond b want 0) (lt-leb _ _ past)
