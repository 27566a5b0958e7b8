-- What a call's result is and what it leaves, by the decision on it. Assumes nothing.
use mathlib.Core.Path.{◌≡◌, refl, sym, ap, ap₂, subst, ◌∙◌}
use mathlib.Core.List.{List, [], ◌∷◌}
use Prim.Native.Nat.{ℕ}
use Rattle.std.specs.Prelude.{Result, Ok, Err, IsErrAnd}
use Rattle.machine.specs.Right.{adds, without}
use Rattle.machine.specs.Table.{domains, rights, endpoint, set_rights, set_endpoint}
use Rattle.machine.specs.Queue.{oldest, lost, sent, received}
use Rattle.machine.specs.Call.{Call.one}
use Rattle.machine.specs.Machine as machine
use Rattle.machine.specs.Machine.{Decision, code, data_words, answer_word, answer_to, effect, after, owned_bits, rights_bits, Effect.new_rights}
use Rattle.calls.specs.Number.{number_of}
use Rattle.calls.specs.Decide.{known_caller, refused_call, decide_call}
use Rattle.calls.specs.declared.Call.TheVariants.{Refused}
use Rattle.calls.specs.declared.Refusal.{Refusal}
use Rattle.rules.specs.Range.{caller_number, refused_numbers}
use Rattle.holders.specs.Noted.{noted, holders_after}
use Rattle.kernel.specs.Outcome.{CallOutcome}

-- what a `?` returns where it stops
pub stopped : {T E : Type 0} (r : Result T E) (e : E) → IsErrAnd r (λ (x : E). x ≡ e) → r ≡ Err e
stopped (Err x) e is = ap (λ (y : _). Err y) is
stopped (Ok x) e is = absurd is

module _ (t p : List ℕ) (d : Decision) where
  pub settled-refused : (r : Refusal) → machine.refused (number_of r) ≡ d → CallOutcome t p d (Err r) t p
  unfolding answer_to code data_words effect after holders_after
  settled-refused r is =
      subst (λ (x : Decision). CallOutcome t p x (Err r) t p) is (record { answer = λ w. refl; table = refl; holders = refl })

  pub settled-stopped : (r : Result (ℕ × ℕ) Refusal) (e : Refusal) → IsErrAnd r (λ (x : Refusal). x ≡ e) → machine.refused (number_of e) ≡ d → CallOutcome t p d r t p
  settled-stopped r e ends is =
      subst (λ (x : Result (ℕ × ℕ) Refusal). CallOutcome t p d x t p) (sym (stopped r e ends)) (settled-refused e is)

  pub settled-sent : (e message : ℕ) (t' : List ℕ)
      → machine.sends e message ≡ d
      → t' ≡ set_endpoint t e (sent (endpoint t e) message)
      → CallOutcome t p d (Ok (0, 0)) t' p
  unfolding answer_to code data_words effect after holders_after
  settled-sent e message t' is left =
      subst (λ (x : Decision). CallOutcome t p x (Ok (0, 0)) t' p) is (record { answer = λ w. refl; table = left; holders = refl })

  pub settled-received : (e x y : ℕ) (t' : List ℕ)
      → machine.receives e ≡ d
      → x ≡ oldest (endpoint t e)
      → y ≡ lost (endpoint t e)
      → t' ≡ set_endpoint t e (received (endpoint t e))
      → CallOutcome t p d (Ok (x, y)) t' p
  unfolding answer_to code data_words effect after holders_after
  settled-received e x y t' is message count left =
      subst (λ (v : Decision). CallOutcome t p v (Ok (x, y)) t' p) is
      (record {
        answer = λ w. ap₂ (λ (i j : ℕ). answer_word (one w) 0 ∷ i ∷ j ∷ []) message count;
        table = left;
        holders = refl;
      })

  pub settled-looked-up : (e : ℕ) → machine.looked_up e ≡ d → CallOutcome t p d (Ok (e, 0)) t p
  unfolding answer_to code data_words effect after holders_after
  settled-looked-up e is =
      subst (λ (x : Decision). CallOutcome t p x (Ok (e, 0)) t p) is (record { answer = λ w. refl; table = refl; holders = refl })

  pub settled-endpoints : (u x : ℕ) → machine.lists_endpoints u ≡ d → x ≡ owned_bits t u → CallOutcome t p d (Ok (x, 0)) t p
  unfolding answer_to code data_words effect after holders_after
  settled-endpoints u x is same =
      subst (λ (v : Decision). CallOutcome t p v (Ok (x, 0)) t p) is
      (record { answer = λ w. ap (λ (k : ℕ). answer_word (one w) 0 ∷ k ∷ 0 ∷ []) same; table = refl; holders = refl })

  pub settled-rights : (u x y : ℕ)
      → machine.lists_rights u ≡ d
      → x ≡ rights_bits t u 0
      → y ≡ rights_bits t u 8
      → CallOutcome t p d (Ok (x, y)) t p
  unfolding answer_to code data_words effect after holders_after
  settled-rights u x y is low high =
      subst (λ (v : Decision). CallOutcome t p v (Ok (x, y)) t p) is
      (record { answer = λ w. ap₂ (λ (i j : ℕ). answer_word (one w) 0 ∷ i ∷ j ∷ []) low high; table = refl; holders = refl })

  -- one rights word is altered, whichever of the calls did it
  module _ (h g s : ℕ) (t' p' : List ℕ) (left : t' ≡ set_rights t h g s) (kept : p' ≡ noted p h g s) where
    altered : (x : Decision) → x ≡ d → ((w : ℕ) → answer_word (one w) 0 ∷ 0 ∷ 0 ∷ [] ≡ answer_to t (one w) x) → new_rights h g s ≡ effect t x → CallOutcome t p d (Ok (0, 0)) t' p'
    unfolding after holders_after
    altered x is plain same =
        subst (λ (v : Decision). CallOutcome t p v (Ok (0, 0)) t' p') is
        (record { answer = plain; table = left ∙ ap (after t) same; holders = kept ∙ ap (holders_after p) same })

    pub granted : (r : ℕ) → machine.grants g h r ≡ d → s ≡ adds (rights t h g) r → CallOutcome t p d (Ok (0, 0)) t' p'
    unfolding answer_to code data_words effect
    granted r is new = altered (machine.grants g h r) is (λ w. refl) (ap (new_rights h g) new)

    pub removed : (r : ℕ) → machine.removes g h r ≡ d → s ≡ without (rights t h g) r → CallOutcome t p d (Ok (0, 0)) t' p'
    unfolding answer_to code data_words effect
    removed r is new = altered (machine.removes g h r) is (λ w. refl) (ap (new_rights h g) new)

    pub revoked : (r : ℕ) → machine.revokes g h r ≡ d → s ≡ without (rights t h g) r → CallOutcome t p d (Ok (0, 0)) t' p'
    unfolding answer_to code data_words effect
    revoked r is new = altered (machine.revokes g h r) is (λ w. refl) (ap (new_rights h g) new)

-- a call that is refused without a table, whose refusal is r: 12 may come before its own code
pub settled-unread : (t p : List ℕ) (n u : ℕ) (own r : Refusal)
    → n ≡ domains t
    → machine.refused (number_of r) ≡ refused_numbers n u own (machine.refused (number_of own))
    → CallOutcome t p (decide_call t (Refused u own)) (Err r) t p
unfolding decide_call refused_call known_caller refused_numbers caller_number
settled-unread t p n u own r is said =
    settled-refused t p _ r (said ∙ ap (λ (k : ℕ). refused_numbers k u own (machine.refused (number_of own))) is)
