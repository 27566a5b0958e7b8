-- The words that fields are written in: how many they are, and that each field is read back as it was written.
-- Assumes nothing.
use Prim.Native.Nat.{ℕ, ◌+◌, ◌*◌, ◌/◌, ◌%◌, ◌<◌, ◌≤◌}
use mathlib.Core.Path.{◌≡◌, refl}
use mathlib.Core.Bool.{Bool, true, false, cond, not, ◌&&◌, false≢true}
use mathlib.Core.List.{[], ◌∷◌}
use native.Mathlib.Omega.{arith}
use borrow.Author.Tests.{ltb-true, eqb-false, not-true}
use lib.Dec.{eqb, ltb}
use lib.ListN.{length}
use Rattle.machine.specs.Word.{kind, payload, caller, field_a, field_b, field_c, word}
use Rattle.machine.specs.Call.{wants_second}
use Rattle.calls.specs.declared.Call.{Call}
use Rattle.calls.specs.declared.Call.TheVariants.{LookUp, Send, Receive, MyEndpoints, MyRights, Grant, Remove, Revoke, Refused}
use Rattle.writer_theory.specs.declared.Fields.{Fields}
use Rattle.writer_theory.specs.Words.{fields_of, within_bits, first_word, field_words, encoded_words}

-- a kind has four bits
pub kind_small : (c : Call) → (fields_of c).kind < 16
unfolding fields_of
kind_small (LookUp u x) = omega arith
kind_small (Send u e m) = omega arith
kind_small (Receive u e) = omega arith
kind_small (MyEndpoints u) = omega arith
kind_small (MyRights u) = omega arith
kind_small (Grant u g h r) = omega arith
kind_small (Remove u g r) = omega arith
kind_small (Revoke u g h r) = omega arith
kind_small (Refused u r) = omega arith

-- the fields are within their bits
pub record Bounds (f : Fields) : Type 0 where
  pub some : f.kind ≡ 0 → ⊥
  pub caller : f.caller < 64
  pub a : f.a < 64
  pub b : f.b < 256
  pub c : f.c < 256
  pub second : f.second < 268435456

-- each of six tests, where all of them hold
each : (k u a b c x : Bool) → (k && u && a && b && c && x) ≡ true
    → (k ≡ true) × (u ≡ true) × (a ≡ true) × (b ≡ true) × (c ≡ true) × (x ≡ true)
each true true true true true x h = (refl, refl, refl, refl, refl, h)
each true true true true false x h = absurd (false≢true h)
each true true true false c x h = absurd (false≢true h)
each true true false b c x h = absurd (false≢true h)
each true false a b c x h = absurd (false≢true h)
each false u a b c x h = absurd (false≢true h)

pub bounds : (f : Fields) → within_bits f ≡ true → Bounds f
unfolding within_bits
bounds f h =
    let all = each (not (eqb f.kind 0)) (ltb f.caller 64) (ltb f.a 64) (ltb f.b 256) (ltb f.c 256) _ h in
    record {
      some = eqb-false _ _ (not-true _ all.0);
      caller = ltb-true _ _ all.1;
      a = ltb-true _ _ all.2;
      b = ltb-true _ _ all.3;
      c = ltb-true _ _ all.4;
      second = ltb-true _ _ all.5;
    }

-- a first word that holds the fields
pub record Holds (w : ℕ) (f : Fields) : Type 0 where
  pub kind : kind w ≡ f.kind
  pub caller : caller w ≡ f.caller
  pub a : field_a w ≡ f.a
  pub b : field_b w ≡ f.b
  pub c : field_c w ≡ f.c

digits : (k u a b c : ℕ) → u < 64 → a < 64 → b < 256 → c < 256
    → let w = word k (u * 4194304 + a * 65536 + b * 256 + c) in
    (w / 268435456 ≡ k) × (w / 4194304 % 64 ≡ u) × (w / 65536 % 64 ≡ a) × (w / 256 % 256 ≡ b) × (w % 256 ≡ c)
digits k u a b c hu ha hb hc = (omega arith, omega arith, omega arith, omega arith, omega arith)

pub held : (f : Fields) → within_bits f ≡ true → Holds (first_word f) f
unfolding first_word
held f h =
    let r = bounds f h in
    let d = digits f.kind f.caller f.a f.b f.c r.caller r.a r.b r.c in
    record { kind = d.0; caller = d.1; a = d.2; b = d.3; c = d.4 }

-- a second word that holds a name or a message
pub second-kind : (x : ℕ) → x < 268435456 → kind (word 15 x) ≡ 15
second-kind x h = omega arith

pub second_holds : (x : ℕ) → x < 268435456 → payload (word 15 x) ≡ x
second_holds x h = omega arith

-- two words where the kind wants a second, else one
pub width-of : (f : Fields) → length (field_words f) ≡ cond (wants_second f.kind) 2 1
unfolding field_words
width-of f = go (wants_second f.kind)
  where
    go : (b : Bool) → length (first_word f ∷ cond b (word 15 f.second ∷ []) []) ≡ cond b 2 1
    go true = refl
    go false = refl

-- so a call is one word or two
pub one-or-two : (c : Call) → (1 ≤ length (encoded_words c)) × (length (encoded_words c) ≤ 2)
unfolding encoded_words
one-or-two c = rw (width-of (fields_of c)) (go (wants_second (fields_of c).kind))
  where
    go : (b : Bool) → (1 ≤ cond b 2 1) × (cond b 2 1 ≤ 2)
    go true = (omega arith, omega arith)
    go false = (omega arith, omega arith)
