-- The decision on a call that has passed its range tests, by what was read for it. Assumes nothing.
use mathlib.Core.Path.{◌≡◌, refl, ap, ap₂, ◌∙◌}
use mathlib.Core.List.{List}
use Prim.Native.Nat.{ℕ}
use Rattle.std.specs.Prelude.{Ok}
use Rattle.machine.specs.Table.{domains, endpoints, rights, endpoint}
use Rattle.machine.specs.Queue.{owner, waiting}
use Rattle.machine.specs.Machine.{Decision}
use Rattle.calls.specs.Decide.{decide_call}
use Rattle.calls.specs.declared.Call.TheVariants.{Send, Receive, Grant, Remove, Revoke}
use Rattle.rules.specs.Range.{call_numbers, endpoint_numbers, grant_numbers, remove_numbers}
use Rattle.rules.specs.Access.{send_access, receive_access, grant_access, revoke_access, remove_access, access_by}
use Rattle.rules.proofs.Places.{decided}

module _ (t : List ℕ) (n : ℕ) (en : n ≡ domains t) (u : ℕ) where
  module _ (m : ℕ) (em : m ≡ endpoints t) (e : ℕ) (tested : (next : Decision) → next ≡ endpoint_numbers n m u e next) where
    pub send-decided : (message held : ℕ) → held ≡ rights t u (owner (endpoint t e)) → send_access held e message ≡ decide_call t (Send u e message)
    unfolding call_numbers access_by
    send-decided message held is =
        ap (λ (k : ℕ). send_access k e message) is ∙ decided t n m (Send u e message) (Ok tt) en em tested

    pub receive-decided : (own count : ℕ) → own ≡ owner (endpoint t e) → count ≡ waiting (endpoint t e) → receive_access u own count e ≡ decide_call t (Receive u e)
    unfolding call_numbers access_by
    receive-decided own count is many =
        ap₂ (λ (i j : ℕ). receive_access u i j e) is many ∙ decided t n m (Receive u e) (Ok tt) en em tested

  module _ (g h s : ℕ) (tested : (next : Decision) → next ≡ grant_numbers n u g h s next) (mine toward : ℕ) (is : mine ≡ rights t u g) (near : toward ≡ rights t u h) where
    pub grant-decided : grant_access u g h s mine toward ≡ decide_call t (Grant u g h s)
    unfolding call_numbers access_by
    grant-decided = ap₂ (grant_access u g h s) is near ∙ decided t n (endpoints t) (Grant u g h s) (Ok tt) en refl tested

    pub revoke-decided : revoke_access u g h s mine toward ≡ decide_call t (Revoke u g h s)
    unfolding call_numbers access_by
    revoke-decided = ap₂ (revoke_access u g h s) is near ∙ decided t n (endpoints t) (Revoke u g h s) (Ok tt) en refl tested

  pub remove-decided : (g s mine : ℕ) → ((next : Decision) → next ≡ remove_numbers n u g s next) → mine ≡ rights t u g → remove_access u g s mine ≡ decide_call t (Remove u g s)
  unfolding call_numbers access_by
  remove-decided g s mine tested is =
      ap (remove_access u g s) is ∙ decided t n (endpoints t) (Remove u g s) (Ok tt) en refl tested
