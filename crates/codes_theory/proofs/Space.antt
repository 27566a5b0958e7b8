-- What a run leaves of the answer space (specs/Claims: EverySpaceBeyondUntouched). Assumes nothing.
use mathlib.Core.Path.{◌≡◌, sym, ap, ◌∙◌}
use mathlib.Core.List.{List, ◌++◌}
use Prim.Native.Nat.{ℕ, ◌*◌, ◌≤◌}
use native.Mathlib.Omega.{arith}
use lib.ListN.{length, take, drop, length-append, length-drop}
use lib.Seq.{take-append_seam, drop-append_seam}
use Rattle.machine.specs.Call.{split}
use Rattle.machine.specs.Run as machine
use Rattle.machine.specs.Entry.{Outcome, Runs, ran}
use Rattle.machine.proofs.Promise.{entry-ran, entry-code}
use Rattle.machine.proofs.Counts.{answers-length}
use Rattle.codes_theory.specs.Claims.{EverySpaceBeyondUntouched}
use Rattle.codes_theory.proofs.EntryCodes.{entry-code-exactly}

-- the machine's answers, and after them the words that were there
module _ (t ws space : List ℕ) (enough : 3 * length (split ws) ≤ length space) where
  given : List ℕ
  given = machine.answers t (split ws)

  given-length : length given ≡ 3 * length (split ws)
  unfolding given
  given-length = answers-length t (split ws)

  left : List ℕ
  left = given ++ drop (3 * length (split ws)) space

  left-answers : take (3 * length (split ws)) left ≡ given
  unfolding left
  left-answers = ap (λ (k : ℕ). take k left) (sym given-length) ∙ take-append_seam given _

  left-beyond : drop (3 * length (split ws)) left ≡ drop (3 * length (split ws)) space
  unfolding left
  left-beyond = ap (λ (k : ℕ). drop k left) (sym given-length) ∙ drop-append_seam given _

  left-size : length left ≡ length space
  unfolding left
  left-size =
      length-append given _ ∙ omega (arith, given-length, length-drop (3 * length (split ws)) space, enough)

pub space-beyond : EverySpaceBeyondUntouched
unfolding ran left given
space-beyond t ws space holders code calls after end kept p none =
    let runs : Runs t ws (length space) (length holders) = sym (p.same_code ∙ entry-code t ws space holders) ∙ none in
    let done = entry-ran t ws space holders runs in
    let enough = ((entry-code-exactly t ws (length space) (length holders)).runs.0 runs).2 in
    let counted : calls ≡ length (split ws) = p.same_calls ∙ ap (λ (o : Outcome). o.calls) done in
    let same : after ≡ left t ws space enough = p.same_answers ∙ ap (λ (o : Outcome). o.answers) done in
    record {
      counted = counted;
      answered = rw (counted, same) (left-answers t ws space enough);
      beyond = rw (counted, same) (left-beyond t ws space enough);
      size = rw same (left-size t ws space enough);
    }
