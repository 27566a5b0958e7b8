-- A refused call changes nothing, wherever in a list it is (specs/RunClaims). Assumes nothing.
use mathlib.Core.Path.{◌≡◌, sym, ap, ◌∙◌}
use mathlib.Core.List.{List, [], ◌∷◌, ◌++◌, append_assoc}
use Prim.Native.Nat.{ℕ, ◌*◌}
use lib.ListN.{length, take, drop}
use lib.Seq.{drop-append_seam}
use Rattle.machine.specs.Call.{Call}
use Rattle.machine.specs.Machine.{Decision.refused, decide, code, data_words, answer_word, answer_to, answer}
use Rattle.machine.specs.Run.{run, answers}
use Rattle.machine.specs.RunClaims.{RefusedHere}
use Rattle.machine.specs.MachineClaims.{EveryRunRefusalChangesNothing}
use Rattle.machine.proofs.Step.{refused-keeps}
use Rattle.machine.proofs.Counts.{answers-length, run-append, answers-append}

module _ (t : List ℕ) (before : List Call) (c : Call) (later : List Call) (n : ℕ) (d : decide (run t before) c ≡ refused n) (rest : List ℕ) where
  -- the words from the call's answer on
  from-here : List ℕ
  from-here = answers (run t before) (c ∷ later) ++ rest

  drops : drop (3 * length before) (answers t (before ++ (c ∷ later)) ++ rest) ≡ from-here
  unfolding from-here
  drops =
      ap (λ (x : List ℕ). drop (3 * length before) (x ++ rest)) (answers-append t before (c ∷ later))
      ∙ ap (λ (x : List ℕ). drop (3 * length before) x) (append_assoc (answers t before) (answers (run t before) (c ∷ later)) rest)
      ∙ ap (λ (x : ℕ). drop x (answers t before ++ (answers (run t before) (c ∷ later) ++ rest))) (sym (answers-length t before))
      ∙ drop-append_seam (answers t before) _

  three : take 3 from-here ≡ answer_word c n ∷ 0 ∷ 0 ∷ []
  unfolding from-here answers answer answer_to code data_words
  three = rw d

  without : run t (before ++ (c ∷ later)) ≡ run t (before ++ later)
  unfolding run
  without =
      run-append t before (c ∷ later)
      ∙ ap (λ (x : List ℕ). run x later) (refused-keeps (run t before) c n d)
      ∙ sym (run-append t before later)

  here : RefusedHere t before c later n (answers t (before ++ (c ∷ later)) ++ rest) (run t (before ++ (c ∷ later)))
  here =
      record {
        table = refused-keeps (run t before) c n d;
        answer = ap (λ (x : List ℕ). take 3 x) drops ∙ three;
        without = without;
      }

pub refusal-changes-nothing : EveryRunRefusalChangesNothing
refusal-changes-nothing t cs rest before c later n e d = rw e (here t before c later n d rest)
