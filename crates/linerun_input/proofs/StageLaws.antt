-- The stages of the reading: each is that after the bytes that came, and each read brings the reading nearer to its end.
-- Assumes nothing.
use Prim.Native.Nat.{ℕ, ◌+◌, ◌-◌, ◌≤◌, ◌<◌}
use mathlib.Core.Path.{◌≡◌, refl, sym, ap, subst, ◌∙◌}
use mathlib.Core.Bool.{Bool, true, false, cond, false≢true}
use mathlib.Core.List.{List, ◌++◌, append_assoc}
use borrow.Author.Tests.{lt-ltb, le-ltb, ltb-true, ltb-false, eq-eqb, le-leb}
use native.Mathlib.Omega.{arith}
use lib.Dec.{ltb}
use lib.ListN.{length, take, drop, length-append, length-drop}
use lib.Seq.{length-take-le, take-append_seam}
use Rattle.std.specs.Prelude.{Option}
use Rattle.std.specs.Io.KnownBytes.{Consumes}
use Rattle.std.proofs.KnownBytes.{Consumes-trans}
use Rattle.input_words.specs.TableInput.{no_table, table_wanted}
use Rattle.input_words.proofs.Needed.{needed-none, needed-more, stored}
use Rattle.linerun_input.specs.Input.{wanted, most_input, Reads}
use Rattle.reader.specs.Read.{asked_of, came_of, ReadAt}
use Rattle.reader.proofs.Asked.{asks-all}
use Rattle.linerun_input.specs.Stage.{have_of, wanted_of, ended_of, ReadInto}
use Rattle.linerun_input.specs.Stage.{started, stage_at, is_step, stepped, StageAfter, EveryStart, EveryStep}
use Rattle.reader.specs.declared.Got.{Got}
use Rattle.linerun_input.specs.declared.stage.Input.{Input}
use Rattle.linerun_input.proofs.InputLaws.{wanted-within, still-wanted}

pub starts : EveryStart
unfolding started wanted no_table table_wanted
starts = record { all = refl; needed = needed-none wanted; wants = refl; short = λ e. absurd (false≢true e) }

-- while something is wanted, the input has not ended, and what is wanted is what is wanted after the bytes
module _ {bytes : List ℕ} {s : Input} (a : StageAfter bytes s) where
  pub not-ended : 0 < wanted_of s → ended_of s ≡ false
  not-ended more = go (ended_of s) a.wants
    where
      go : (b : Bool) → wanted_of s ≡ cond b 0 (wanted bytes) → b ≡ false
      go true e = absurd (omega arith)
      go false e = refl

  pub still-wants : 0 < wanted_of s → wanted_of s ≡ wanted bytes
  still-wants more = a.wants ∙ ap (λ (b : Bool). cond b 0 (wanted bytes)) (not-ended more)

  -- where nothing is wanted, the bytes are all that is read
  pub all_read : wanted_of s ≡ 0 → Reads bytes (ended_of s)
  all_read none = record { reason = go (ended_of s) a.wants a.short; needed = a.needed }
    where
      go : (b : Bool) → wanted_of s ≡ cond b 0 (wanted bytes) → (b ≡ true → 0 < wanted bytes) → b ≡ ltb 0 (wanted bytes)
      go true e h = sym (lt-ltb 0 (wanted bytes) (h refl))
      go false e h = sym (le-ltb 0 (wanted bytes) (omega arith))

-- a read that is a step
pub step_is : (s : Input) (g : Got) (buffer : List ℕ) → 0 < wanted_of s → asked_of g ≡ wanted_of s → have_of s + came_of g ≤ length buffer
    → stepped s g buffer ≡ stage_at (have_of s + came_of g) (ltb (came_of g) (asked_of g)) buffer
unfolding stepped is_step
step_is s g buffer more asked fits = simp (lt-ltb _ _ more, eq-eqb _ _ asked, le-leb _ _ fits)

-- what the stage says where so many bytes are at the front of a buffer
module _ (have : ℕ) (buffer : List ℕ) where
  have_at : (ended : Bool) → have_of (stage_at have ended buffer) ≡ have
  unfolding stage_at
  have_at ended = refl

  wanted_at : (ended : Bool) → wanted_of (stage_at have ended buffer) ≡ cond ended 0 (wanted (take have buffer))
  unfolding stage_at
  wanted_at true = refl
  wanted_at false = refl

  ended_at : (ended : Bool) → ended_of (stage_at have ended buffer) ≡ ended
  unfolding stage_at
  ended_at true = refl
  ended_at false = refl

-- the stage after the bytes and the part that came
pub goes_on : (bytes part buffer : List ℕ) (s : Input) (g : Got)
    → StageAfter bytes s → 0 < wanted_of s → asked_of g ≡ wanted_of s → came_of g ≡ length part → length part ≤ wanted_of s
    → take (have_of s + came_of g) buffer ≡ bytes ++ part → have_of s + came_of g ≤ length buffer
    → StageAfter (bytes ++ part) (stepped s g buffer)
goes_on bytes part buffer s g a more asked came few is fits =
    let wants = still-wants a more in
    let have = have_of s + came_of g in
    let ended = ltb (came_of g) (asked_of g) in
    let over = ended_at have buffer ended in
    rw (step_is s g buffer more asked fits)
    record {
      all = omega (arith, have_at have buffer ended, a.all, came, length-append bytes part);
      needed = needed-more wanted still-wanted bytes part a.needed (omega (arith, wants));
      wants =
          wanted_at have buffer ended
          ∙ ap (λ (l : List ℕ). cond ended 0 (wanted l)) is
          ∙ ap (λ (b : Bool). cond b 0 (wanted (bytes ++ part))) (sym over);
      short = λ e. still-wanted bytes part (omega (arith, ltb-true (came_of g) (asked_of g) (sym over ∙ e), wants));
    }

pub steps : EveryStep
steps bytes part rest s g a more asked came few =
    let long : have_of s + came_of g ≡ length (bytes ++ part) = omega (arith, a.all, length-append bytes part) in
    goes_on bytes part (bytes ++ (part ++ rest)) s g a more asked came few
    (ap (λ (k : ℕ). take k (bytes ++ (part ++ rest))) long
    ∙ ap (take (length (bytes ++ part))) (sym (append_assoc bytes part rest))
    ∙ take-append_seam (bytes ++ part) rest)
    (omega (arith, length-append bytes part, length-append part rest, length-append bytes (part ++ rest), a.all))

-- ---- the loop

-- the stage is that after the bytes at the buffer's front
pub record Reached (buffer : List ℕ) (s : Input) : Type 0 where
  pub long : length buffer ≡ most_input
  pub within : have_of s ≤ most_input
  pub stage : StageAfter (take (have_of s) buffer) s

pub reached-first : (buffer : List ℕ) → length buffer ≡ most_input → Reached buffer started
unfolding started
reached-first buffer long = record { long = long; within = omega arith; stage = starts }

-- how many steps there can be at most: one for each byte that there is space for, and the one that meets the input's end
unfoldable pub steps_left : Input → ℕ
steps_left s = most_input - have_of s + cond (ended_of s) 0 1

-- a read of what is wanted is a step, and leaves fewer
module _ (before after : List ℕ) (s : Input) (g : Got) (r : Reached before s) (more : 0 < wanted_of s) (have want : ℕ)
    (is-have : have ≡ have_of s) (is-want : want ≡ wanted_of s) (was_read : ReadAt have want before g after) where
  read : ReadAt (have_of s) (wanted_of s) before g after
  read = rw (is-have, is-want) at was_read

  a : StageAfter (take (have_of s) before) s
  a = r.stage

  long : length (take (have_of s) before) ≡ have_of s
  long = length-take-le (have_of s) before (omega (arith, r.long, r.within))

  space : have_of s + wanted_of s ≤ most_input
  space =
      omega (arith, wanted-within (take (have_of s) before) (omega (arith, long, r.within)), still-wants a more, long)

  asked : asked_of g ≡ wanted_of s
  asked = asks-all read (omega (arith, space, r.long))

  fits : have_of s + came_of g ≤ length after
  fits = omega (arith, space, read.came-few, asked, read.long, r.long)

  part : List ℕ
  part = take (came_of g) (drop (have_of s) after)

  part-long : came_of g ≡ length part
  unfolding part
  part-long = sym (length-take-le (came_of g) (drop (have_of s) after) (omega (arith, fits, length-drop (have_of s) after)))

  next : StageAfter (take (have_of s) before ++ part) (stepped s g after)
  unfolding part
  next =
      goes_on (take (have_of s) before) part after s g a more asked part-long (omega (arith, read.came-few, asked, part-long))
      (stored before after (have_of s) (came_of g) read.front) fits

  have-is : have_of (stepped s g after) ≡ have_of s + came_of g
  have-is = next.all ∙ length-append (take (have_of s) before) part ∙ omega (arith, long, part-long)

  -- the bytes of the next stage are those of this one, and then those that came
  bytes-next : take (have_of (stepped s g after)) after ≡ take (have_of s) before ++ take (came_of g) (drop (have_of s) after)
  unfolding part
  bytes-next = ap (λ (k : ℕ). take k after) have-is ∙ stored before after (have_of s) (came_of g) read.front

  -- so what a reader gave up to this stage, and then what it gave in this read, is what it gave up to the next
  pub given-next : (a b c : Option (List ℕ)) → Consumes a b (take (have_of s) before)
      → Consumes b c (take (came_of g) (drop have after)) → Consumes a c (take (have_of (stepped s g after)) after)
  given-next a b c front now =
      subst (Consumes a c) (sym bytes-next)
      (Consumes-trans a b c _ _ front (subst (λ (k : ℕ). Consumes b c (take (came_of g) (drop k after))) is-have now))

  pub reached-next : Reached after (stepped s g after)
  unfolding part
  reached-next =
      record {
        long = omega (arith, read.long, r.long);
        within = omega (arith, have-is, space, read.came-few, asked);
        stage = subst (λ (l : List ℕ). StageAfter l (stepped s g after)) (sym bytes-next) next;
      }

  ended_is : ended_of (stepped s g after) ≡ ltb (came_of g) (asked_of g)
  ended_is = ap ended_of (step_is s g after more asked fits) ∙ ended_at _ after _

  pub fewer-left : steps_left (stepped s g after) < steps_left s
  unfolding steps_left
  fewer-left = rw (ended_is, have-is, not-ended a more) (go (ltb (came_of g) (asked_of g)) refl)
    where
      go : (b : Bool) → ltb (came_of g) (asked_of g) ≡ b → most_input - (have_of s + came_of g) + cond b 0 1 < most_input - have_of s + 1
      go true e = omega arith
      go false e = omega (arith, ltb-false (came_of g) (asked_of g) e, asked, more, space)

-- where nothing more is wanted, the loop ends
pub reads-into : (start : List ℕ) {buffer : List ℕ} {s : Input} → length start ≡ most_input → Reached buffer s → wanted_of s ≡ 0
    → ReadInto start s buffer
reads-into start long r none =
    record {
      within = omega (arith, r.within, r.long);
      stage = r.stage;
      done = λ _. none;
      refused = λ other. absurd (other long);
    }

-- into a buffer of another length nothing is read
pub reads_nothing : (buffer : List ℕ) → (length buffer ≡ most_input → ⊥) → ReadInto buffer started buffer
unfolding started
reads_nothing buffer other =
    record { within = omega arith; stage = starts; done = λ long. absurd (other long); refused = λ _. (refl, refl) }
