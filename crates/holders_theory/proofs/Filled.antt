-- The holders as they are computed from a table, or the words as they are left (specs/Noted). Assumes nothing.
use mathlib.Core.Path.{◌≡◌, refl, sym}
use mathlib.Core.Bool.{true, false}
use mathlib.Core.List.{List}
use Prim.Native.Nat.{ℕ, ◌*◌}
use native.Mathlib.Omega.{arith}
use borrow.Author.Tests.{lt-ltb, le-leb, eq-eqb}
use lib.ListN.{length}
use Rattle.machine.specs.Below.{bits_below}
use Rattle.machine.specs.Table.{domains}
use Rattle.machine.specs.Check.{Accepted}
use Rattle.machine.specs.Influence.{reaches}
use Rattle.machine.specs.Holders.{holders_of}
use Rattle.machine.proofs.Bools.{and_intro}
use Rattle.machine.proofs.Below.{words-length}
use Rattle.machine.proofs.Accepted.{accepted-sized, accepted-counts}
use Rattle.holders_theory.specs.Noted.{room_for, filled}

module _ (t p : List ℕ) (n : ℕ) (e : n ≡ domains t) where
  pub filled-done : room_for n (length t) (length p) ≡ true → holders_of t ≡ filled t p
  unfolding filled
  filled-done h = rw (← e, h)

  pub filled-stays : room_for n (length t) (length p) ≡ false → p ≡ filled t p
  unfolding filled
  filled-stays h = rw (← e, h)

-- ---- for callers: the holders of an accepted table are computed into as many words as it has domains
pub filled-accepted : (t p : List ℕ) → Accepted t → length p ≡ domains t → filled t p ≡ holders_of t
unfolding room_for
filled-accepted t p a e =
    sym
    (filled-done t p (domains t) refl
    (and_intro
    (and_intro (le-leb (domains t) 16 (accepted-counts t a).1) (eq-eqb (length p) (domains t) e))
    (lt-ltb (domains t * domains t) (length t) (omega (arith, accepted-sized t a)))))

pub holders-length : (t : List ℕ) → length (holders_of t) ≡ domains t
unfolding holders_of
holders-length t = words-length (domains t) (λ g. bits_below (domains t) (λ h. reaches t h g))
