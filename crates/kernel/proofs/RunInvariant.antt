-- A list's run under way, as the kernel's loop has it: the machine's run of the calls done, and what the next call needs.
-- Assumes nothing.
use mathlib.Core.Path.{◌≡◌, refl, sym, ap, subst, subst₂, ◌∙◌}
use mathlib.Core.List.{List, ◌++◌}
use Prim.Native.Nat.{ℕ, ◌+◌, ◌*◌, ◌<◌, ◌≤◌}
use native.Mathlib.Omega.{arith}
use lib.ListN.{length, get_or, take, drop, drop_of_length-le}
use Rattle.machine.specs.Check.{Accepted}
use Rattle.machine.specs.Call.{split}
use Rattle.machine.specs.Holders.{holders_of}
use Rattle.machine.proofs.Split.{Running, running-start, running-next, running-end}
use Rattle.machine.proofs.Step.{stays-accepted}
use Rattle.calls.specs.Split.{call_of, second_at, width_of}
use Rattle.std.specs.Prelude.{Option}
use Rattle.calls.proofs.SplitAt.{SplitAt, split_at}
use Rattle.calls.proofs.SplitAt as calls
use Rattle.kernel.specs.Step.{StepOutcome}
use Rattle.kernel.specs.Run.{AllRun}

-- k calls of the list ws are done, the next begins at index i, and t, space and p are the present table, answer space and holders
pub record Underway (t₀ ws space₀ p₀ t space p : List ℕ) (k i : ℕ) : Type 0 where
  pub running : Running t₀ ws space₀ t (drop i ws) k space
  pub accepted : Accepted t
  pub holders : p ≡ holders_of t
  pub table_size : length t ≡ length t₀
  pub space_size : length space ≡ length space₀
  pub holders_size : length p ≡ length p₀
  pub within : i ≤ length ws

pub underway-start : (t ws space p : List ℕ) → Accepted t → p ≡ holders_of t → Underway t ws space p t space p 0 0
underway-start t ws space p a h =
    record {
      running = running-start t ws space;
      accepted = a;
      holders = h;
      table_size = refl;
      space_size = refl;
      holders_size = refl;
      within = omega arith;
    }

module _ {t₀ ws space₀ p₀ t space p : List ℕ} {k i : ℕ} (u : Underway t₀ ws space₀ p₀ t space p k i) (l : i < length ws) where
  -- there is space for one answer more, and no more calls than words
  pub room : 3 * length (split ws) ≤ length space₀ → 3 * k + 3 ≤ length space
  room enough =
      let more = ap length (split_at ws i l).front in
      omega (arith, u.running.count, u.space_size)

  -- the next call ends within the list, and has a word
  pub next-place : (s : Option ℕ) (w : ℕ) → s ≡ second_at ws i → w ≡ width_of s → (i + w ≤ length ws) × (1 ≤ w)
  next-place s w is wide =
      (rw (wide, is) (split_at ws i l).within, omega (arith, wide, calls.wide s))

  -- one call more, whose answer words are put after the others
  pub underway-next : (s : Option ℕ) (w : ℕ) (words t' space' p' : List ℕ)
      → s ≡ second_at ws i
      → w ≡ width_of s
      → StepOutcome t (call_of (get_or ws i 0) s) words t' p'
      → length p' ≡ length p
      → space' ≡ take (3 * k) space ++ (words ++ drop (3 * k + 3) space)
      → length space' ≡ length space
      → Underway t₀ ws space₀ p₀ t' space' p' (k + 1) (i + w)
  underway-next s w words t' space' p' is wide served many put long =
      let c = call_of (get_or ws i 0) s in
      let stays = stays-accepted t c u.accepted in
      let at = subst (SplitAt ws i) (sym is) (split_at ws i l) in
      subst₂ (λ (x : List ℕ) (j : ℕ). Underway t₀ ws space₀ p₀ x space' p' (k + 1) (i + j)) (sym served.table) (sym wide)
      (record {
        running =
            running-next (drop (i + width_of s) ws) c space' u.running at.front
            (put ∙ ap (λ (x : List ℕ). take (3 * k) space ++ (x ++ drop (3 * k + 3) space)) served.answer);
        accepted = stays.accepted;
        holders = served.holders;
        table_size = stays.frame.size ∙ u.table_size;
        space_size = long ∙ u.space_size;
        holders_size = many ∙ u.holders_size;
        within = at.within;
      })

-- no word is left
pub underway-end : {t₀ ws space₀ p₀ t space p : List ℕ} {k i : ℕ}
    → Underway t₀ ws space₀ p₀ t space p k i
    → length ws ≤ i
    → AllRun t₀ ws space₀ k space t p
underway-end {t₀} {ws} {space₀} {p₀} {t} {space} {p} {k} {i} u past =
    let done = running-end (subst (λ (left : List ℕ). Running t₀ ws space₀ t left k space) (drop_of_length-le ws past) u.running) in
    record { count = done.2; table = done.0; answers = done.1; holders = u.holders ∙ ap holders_of done.0 }
