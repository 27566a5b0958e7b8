-- How far linerun's reading is, as the values that its functions pass on (document 01, 'Into firmware and onto the bench'): what one
-- read gave, and the stage that says how many bytes are wanted next. A stage goes on by what was read and by nothing else.
use Rattle.std.specs.Prelude.{ℕ, ◌+◌, ◌≤◌, ◌<◌, ◌≡◌, Bool, true, cond, ◌&&◌, List, [], ◌++◌, eqb, ltb, leb, length, take, Some, None}
use Rattle.std.specs.Option.{unwrap_or, is_none}
use Rattle.linerun_input.specs.Input.{wanted, most_input, Needed}
use Rattle.reader.specs.Read.{asked_of, came_of}
use Rattle.reader.specs.declared.Got.{Got}
use Rattle.linerun_input.specs.declared.stage.Input.{Input}

-- a stage: how many bytes came, how many more are wanted, and whether the input ended before they came
abbrev pub have_of : Input → ℕ
have_of s = s.have

abbrev pub wanted_of : Input → ℕ
wanted_of s = unwrap_or s.wanted 0

abbrev pub ended_of : Input → Bool
ended_of s = is_none s.wanted

-- the stage before anything is read: the length word is wanted
unfoldable pub started : Input
started = record { have = 0; wanted = Some 4 }

-- the stage where so many bytes are at the front of a buffer: nothing is wanted where the input ended after them
unfoldable pub stage_at : ℕ → Bool → List ℕ → Input
stage_at have ended buffer =
    record { have = have; wanted = cond ended None (Some (wanted (take have buffer))) }

-- a read is a step of a stage: something is wanted, the read asked for just that, and what came is in the buffer
unfoldable pub is_step : Input → Got → List ℕ → Bool
is_step s g buffer =
    ltb 0 (wanted_of s) && eqb (asked_of g) (wanted_of s) && leb (have_of s + came_of g) (length buffer)

-- the stage after a read: it stays where the read is no step; fewer bytes than were asked for are the input's last
unfoldable pub stepped : Input → Got → List ℕ → Input
stepped s g buffer = cond (is_step s g buffer) (stage_at (have_of s + came_of g) (ltb (came_of g) (asked_of g)) buffer) s

-- the stage after these bytes: all of them came, each was needed, and what is wanted after them is wanted, unless the input ended there
pub record StageAfter (bytes : List ℕ) (s : Input) : Type 0 where
  pub all : have_of s ≡ length bytes
  pub needed : Needed bytes
  pub wants : wanted_of s ≡ cond (ended_of s) 0 (wanted bytes)
  pub short : ended_of s ≡ true → 0 < wanted bytes

-- Before anything is read, the stage is that after no byte.
abbrev pub EveryStart : Type 0
EveryStart = StageAfter [] started

-- Parts that are read in order, each of at most as many bytes as are wanted, give the stage after their concatenation.
abbrev pub EveryStep : Type 0
EveryStep = (bytes part rest : List ℕ) (s : Input) (g : Got)
    → StageAfter bytes s → 0 < wanted_of s → asked_of g ≡ wanted_of s → came_of g ≡ length part → length part ≤ wanted_of s
    → StageAfter (bytes ++ part) (stepped s g (bytes ++ (part ++ rest)))

-- What reading into a buffer leaves. Into one of the right length it reads until nothing more is wanted; else it reads nothing, and
-- the stage is the first.
pub record ReadInto (before : List ℕ) (s : Input) (after : List ℕ) : Type 0 where
  pub within : have_of s ≤ length after
  pub stage : StageAfter (take (have_of s) after) s
  pub done : length before ≡ most_input → wanted_of s ≡ 0
  pub refused : (length before ≡ most_input → ⊥) → (s ≡ started) × (after ≡ before)
