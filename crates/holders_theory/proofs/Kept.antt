-- The holders are kept: noting what a call alters leaves those of the table after it (specs/Claims). Assumes nothing.
use mathlib.Core.Path.{◌≡◌, refl, sym, ap, ◌∙◌}
use mathlib.Core.Logic.{⊎_elim}
use mathlib.Core.List.{List, [], ◌∷◌}
use Prim.Native.Nat.{ℕ, ◌<◌, ◌≤◌}
use native.Mathlib.Omega.{arith}
use borrow.Author.Tests.{lt-ltb, le-ltb}
use lib.ListN.{length, get_or, take, set, length-set}
use lib.Seq.{get_or-set_same, get_or-set_other, ext_get_or}
use Rattle.machine.specs.Below.{words_below, bits_below}
use Rattle.machine.specs.Word.{payload}
use Rattle.machine.specs.Right.{has_any}
use Rattle.machine.specs.Table.{domains, rights, set_rights, set_endpoint}
use Rattle.machine.specs.Check.{Accepted}
use Rattle.machine.specs.Call.{Call}
use Rattle.machine.specs.Machine.{Effect, decide, effect, after, step, Effect.nothing, Effect.new_rights, Effect.new_endpoint}
use Rattle.machine.specs.Run.{run}
use Rattle.machine.specs.Influence.{reaches}
use Rattle.machine.specs.Holders.{holders_of}
use Rattle.machine.proofs.Below.{words-at, words_same, bits-same}
use Rattle.machine.proofs.Table as table
use Rattle.machine.proofs.Table.{equal-either}
use Rattle.machine.proofs.Right.{rights-payload}
use Rattle.machine.proofs.Accepted.{accepted-sized, accepted-counts}
use Rattle.machine.proofs.Step.{InOrder, call-in-order, stays-accepted}
use Rattle.holders_theory.specs.Noted.{with_bit, noted, holders_after, holders_after_calls}
use Rattle.holders_theory.specs.Claims.{HoldersKept, HoldersKeptAlong}
use Rattle.holders_theory.proofs.OneBit.{bits-with}
use Rattle.holders_theory.proofs.Filled.{holders-length}

-- ---- what is noted

module _ (p : List ℕ) (h g s : ℕ) where
  pub noted-there : h ≤ 31 → g < length p → set p g (with_bit (get_or p g 0) h (has_any s)) ≡ noted p h g s
  unfolding noted
  noted-there lh lg = rw (lt-ltb h 32 (omega arith), lt-ltb g (length p) lg)

  pub noted-no-bit : 32 ≤ h → p ≡ noted p h g s
  unfolding noted
  noted-no-bit l = rw (le-ltb h 32 l)

  pub noted-no-word : h ≤ 31 → length p ≤ g → p ≡ noted p h g s
  unfolding noted
  noted-no-word lh l = rw (lt-ltb h 32 (omega arith), le-ltb g (length p) l)

-- ---- tables that say the same

-- two tables of n domains with the same holders on each
same-holders : (s t : List ℕ) → domains s ≡ domains t → ((h g : ℕ) → h < domains t → g < domains t → reaches s h g ≡ reaches t h g) → holders_of s ≡ holders_of t
unfolding holders_of
same-holders s t e same =
    ap (λ n. words_below n (λ g. bits_below n (λ h. reaches s h g))) e
    ∙ words_same (domains t) _ _ (λ g lg. bits-same (domains t) _ _ (λ h lh. same h g lh lg))

-- word v of a table's holders
word_of : (t : List ℕ) (v : ℕ) → v < domains t → get_or (holders_of t) v 0 ≡ bits_below (domains t) (λ u. reaches t u v)
unfolding holders_of
word_of t v l = words-at (domains t) (λ g. bits_below (domains t) (λ h. reaches t h g)) v 0 l

-- ---- one effect

module _ (t : List ℕ) (a : Accepted t) where
  endpoint-kept : (e : ℕ) (q : List ℕ) → InOrder t (new_endpoint e q) → holders_of t ≡ holders_of (set_endpoint t e q)
  unfolding reaches rights
  endpoint-kept e q o =
      let z = accepted-sized t a in
      sym
      (same-holders (set_endpoint t e q) t (table.set_endpoint-domains t z e q o.0 o.1)
      (λ h g lh lg. ap (λ w. has_any (payload w)) (table.set_endpoint-rights t z e q o.0 o.1 h g lh lg)))

  module _ (h g s : ℕ) (o : InOrder t (new_rights h g s)) where
    t' : List ℕ
    t' = set_rights t h g s

    reaches_here : reaches t' h g ≡ has_any s
    unfolding reaches rights t'
    reaches_here =
        ap (λ w. has_any (payload w)) (table.set_rights-same t (accepted-sized t a) h g s o.0 o.1)
        ∙ ap has_any (rights-payload s o.2)

    reaches-there : (u v : ℕ) → v < domains t → (u ≡ h → v ≡ g → ⊥) → reaches t' u v ≡ reaches t u v
    unfolding reaches rights t'
    reaches-there u v l ne =
        ap (λ w. has_any (payload w)) (table.set_rights-other t (accepted-sized t a) h g s o.0 o.1 u v l ne)

    -- word g, and every other
    word-here : with_bit (bits_below (domains t) (λ u. reaches t u g)) h (has_any s) ≡ bits_below (domains t) (λ u. reaches t' u g)
    word-here =
        bits-with (domains t) h (λ u. reaches t u g) (λ u. reaches t' u g) (has_any s) o.0 reaches_here
        (λ u _ ne. reaches-there u g o.1 (λ x _. ne x))

    word-there : (v : ℕ) → v < domains t → (v ≡ g → ⊥) → bits_below (domains t) (λ u. reaches t u v) ≡ bits_below (domains t) (λ u. reaches t' u v)
    word-there v l ne = bits-same (domains t) _ _ (λ u _. sym (reaches-there u v l (λ _ y. ne y)))

    same_count : domains t' ≡ domains t
    unfolding t'
    same_count = table.set_rights-domains t (accepted-sized t a) h g s o.0 o.1

    rights-noted : noted (holders_of t) h g s ≡ holders_of t'
    rights-noted =
        sym (noted-there (holders_of t) h g s (omega (arith, o.0, (accepted-counts t a).1)) here)
        ∙ ext_get_or 0 (set (holders_of t) g changed) (holders_of t')
        (length-set (holders_of t) g changed ∙ holders-length t ∙ sym same_count ∙ sym (holders-length t'))
        (λ v l. word v (omega (arith, l, length-set (holders_of t) g changed, holders-length t)))
      where
        here : g < length (holders_of t)
        here = omega (arith, o.1, holders-length t)

        changed : ℕ
        changed = with_bit (get_or (holders_of t) g 0) h (has_any s)

        after-at : (v : ℕ) → v < domains t → bits_below (domains t) (λ u. reaches t' u v) ≡ get_or (holders_of t') v 0
        after-at v l =
            ap (λ n. bits_below n (λ u. reaches t' u v)) (sym same_count) ∙ sym (word_of t' v (omega (arith, l, same_count)))

        word : (v : ℕ) → v < domains t → get_or (set (holders_of t) g changed) v 0 ≡ get_or (holders_of t') v 0
        word v l =
            ⊎_elim
            (λ e.
            rw e
            (get_or-set_same (holders_of t) g changed 0 here
            ∙ ap (λ w. with_bit w h (has_any s)) (word_of t g o.1)
            ∙ word-here
            ∙ after-at g o.1))
            (λ ne. get_or-set_other (holders_of t) g v changed 0 ne ∙ word_of t v l ∙ word-there v l ne ∙ after-at v l)
            (equal-either v g)

  effect-kept : (x : Effect) → InOrder t x → holders_after (holders_of t) x ≡ holders_of (after t x)
  unfolding holders_after after t'
  effect-kept nothing o = refl
  effect-kept (new_rights h g s) o = rights-noted h g s o
  effect-kept (new_endpoint e q) o = endpoint-kept e q o

-- ---- one call, and any calls, however many

pub holders-kept : HoldersKept
unfolding step
holders-kept t c a = effect-kept t a (effect t (decide t c)) (call-in-order t c a)

along : (t : List ℕ) (cs : List Call) → Accepted t → holders_after_calls (holders_of t) t cs ≡ holders_of (run t cs)
unfolding holders_after_calls run
along t [] a = refl
along t (c ∷ cs) a =
    ap (λ p. holders_after_calls p (step t c) cs) (holders-kept t c a) ∙ along (step t c) cs (stays-accepted t c a).accepted

pub holders-kept-along : HoldersKeptAlong
holders-kept-along t cs k a = along t (take k cs) a
