-- What each code of handing in and of a turn is for (specs/Claims). Assumes nothing.
use mathlib.Core.Path.{◌≡◌, refl, ap}
use mathlib.Core.Bool.{Bool, true, false, cond}
use mathlib.Core.List.{List, [], ◌∷◌}
use mathlib.Core.Option.{Option, none, some}
use Prim.Native.Nat.{ℕ}
use borrow.Author.Tests.{eq-eqb, ne_eqb, lt-ltb, le-ltb}
use Rattle.machine.specs.Call.{Call, caller_of, split}
use Rattle.machine.specs.DomainSet.{called_by}
use Rattle.turns_theory.specs.Turns.{is_one_of, hand_in_code, turn_code, answer_code}
use Rattle.turns_theory.specs.Claims.{OneCallOf, EveryHandInCode, EveryTurnCode}

-- ---- handing in

is_one : (d : ℕ) (ws : List ℕ) → OneCallOf d ws → is_one_of d (split ws) ≡ true
unfolding is_one_of called_by
is_one d ws x = rw (x.one, x.called_by) (eq-eqb d d refl)

isn't-one : (d : ℕ) (ws : List ℕ) → (OneCallOf d ws → ⊥) → is_one_of d (split ws) ≡ false
unfolding is_one_of called_by
isn't-one d ws x = go (split ws) refl
  where
    of : (c : Call) (u : Option ℕ) → split ws ≡ c ∷ [] → caller_of c ≡ u → called_by d u ≡ false
    of c none e f = refl
    of c (some u) e f = ne_eqb u d (λ same. x (record { call = c; one = e; called_by = rw same at f }))

    go : (cs : List Call) → split ws ≡ cs → is_one_of d cs ≡ false
    go [] e = refl
    go (c ∷ []) e = of c (caller_of c) e refl
    go (c ∷ next ∷ cs) e = refl

pub hand-in-code : EveryHandInCode
unfolding hand_in_code
hand-in-code t s d ws =
    record {
      bad_table = λ bad. simp (ne_eqb _ _ bad);
      unknown_domain = λ a far. simp (a, le-ltb _ _ far);
      not_one_call = λ a near none. simp (a, lt-ltb _ _ near, isn't-one d ws none);
      no_space = λ a near one more. simp (a, lt-ltb _ _ near, is_one d ws one) (ap (λ (b : Bool). cond b 37 0) (lt-ltb _ _ more));
      passed = λ a near one few. simp (a, lt-ltb _ _ near, is_one d ws one) (ap (λ (b : Bool). cond b 37 0) (le-ltb _ _ few));
    }

-- ---- a turn

pub turn-code : EveryTurnCode
unfolding turn_code answer_code
turn-code t s space lent =
    record {
      bad_table = λ bad. simp (ne_eqb _ _ bad);
      other_holders = λ a other. simp (a, ne_eqb _ _ other);
      no_space = λ a same d c e few. simp (a, eq-eqb _ _ same, e) (ap (λ (b : Bool). cond b 6 0) (lt-ltb _ _ few));
      serving = λ a same d c e enough. simp (a, eq-eqb _ _ same, e) (ap (λ (b : Bool). cond b 6 0) (le-ltb _ _ enough));
      idling = λ a same e. simp (a, eq-eqb _ _ same, e);
    }
