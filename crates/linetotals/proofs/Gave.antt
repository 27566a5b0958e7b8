-- What a reader gave, part by part, as the parts that a loop took: together they are the reader's next bytes. Assumes nothing.
use Prim.Native.Nat.{ℕ, ◌≤◌, ◌<◌}
use mathlib.Core.Path.{◌≡◌, sym, ap, subst, ◌∙◌}
use mathlib.Core.List.{List, [], ◌∷◌, ◌++◌, append_assoc, append-nil}
use native.Mathlib.Omega.{arith}
use lib.ListN.{length, take}
use Rattle.std.specs.Prelude.{Option}
use Rattle.std.specs.Io.KnownBytes.{Consumes}
use Rattle.std.proofs.KnownBytes.{Consumes-nil, Consumes-trans}
use Rattle.input_words.specs.TableInput.{longest_table}
use Rattle.linetotals_run.specs.Stage.{wanted_at, first_stage}
use Rattle.linetotals_run.specs.Step.{State, step_on, Left}
use Rattle.linetotals_run.specs.declared.Stage.{Stage}
use Rattle.linetotals_report.specs.Claims.{first_state, Space, joined, InputRan}
use Rattle.linetotals_report.proofs.Loop.{On, on-start, on-next, input-ran, wanted-few, nearer, rank_of}
use Rattle.reader.specs.Read.{asked_of, came_of, ReadAt}
use Rattle.reader.specs.declared.Got.{Got}
use Rattle.reader.proofs.Asked.{asks-all}

joined-more : (parts : List (List ℕ)) (part : List ℕ) → joined (parts ++ (part ∷ [])) ≡ joined parts ++ part
unfolding joined
joined-more [] part = append-nil part
joined-more (first ∷ parts) part = ap (λ l. first ++ l) (joined-more parts part) ∙ sym (append_assoc first (joined parts) part)

-- the parts led from the first state to this one, and the reader gave just them
pub record Gave (first : State) (before after : Option (List ℕ)) (x : State) : Type 0 where
  pub on : On first x
  pub bytes : Consumes before after (joined on.parts)

pub gave-start : (x : State) (before : Option (List ℕ)) → Gave x before before x
unfolding on-start joined
gave-start x before = record { on = on-start x; bytes = Consumes-nil before }

-- before anything is read
pub gave-first : (table list answers holders : List ℕ) (s : Stage) (before : Option (List ℕ)) → s ≡ first_stage
    → Gave (first_state table list answers holders) before before
    (record { stage = s; table = table; list = list; answers = answers; holders = holders })
gave-first table list answers holders s before e =
    subst
    (λ (at : Stage).
    Gave (first_state table list answers holders) before before
    (record { stage = at; table = table; list = list; answers = answers; holders = holders }))
    (sym e) (gave-start (first_state table list answers holders) before)

-- lent words of these lengths are space enough
pub space-of : (table list answers holders : List ℕ) → longest_table ≤ length table → length list ≡ 4096 → length answers ≡ 12288 → length holders ≡ 16
    → Space (first_state table list answers holders)
space-of table list answers holders t l a h = record { table = t; list = omega arith; answers = omega arith; holders = omega arith }

-- a read of what a stage wants, which asked for all of it
pub record AllAsked (x : State) (g : Got) (input : List ℕ) : Type 0 where
  pub some : 0 < wanted_at x.stage
  pub own : asked_of g ≡ wanted_at x.stage
  pub few : came_of g ≤ asked_of g
  pub came : came_of g ≤ length input

module _ (table list answers holders : List ℕ) (space : Space (first_state table list answers holders)) (x : State)
    (before after : Option (List ℕ)) (gave : Gave (first_state table list answers holders) before after x) where
  pub all-asked : {want : ℕ} {input input' : List ℕ} {g : Got} → 0 < wanted_at x.stage → want ≡ wanted_at x.stage → length input ≡ 16388
      → ReadAt 0 want input g input' → AllAsked x g input'
  all-asked some own size read =
      let most = wanted-few table list answers holders space x gave.on in
      let asked = asks-all read (omega (arith, own, most, size)) ∙ own in
      record { some = some; own = asked; few = read.came-few; came = omega (arith, read.came-few, asked, most, read.long, size) }

  module _ (g : Got) (input : List ℕ) (asked : AllAsked x g input) {r : Stage} {table' list' answers' holders' : List ℕ}
      (left : Left (step_on x (asked_of g) (came_of g) input) r table' list' answers' holders') where
    -- one read more, of as many bytes as were wanted
    pub gave-next : (later : Option (List ℕ)) → Consumes after later (take (came_of g) input)
        → Gave (first_state table list answers holders) before later
        (record { stage = r; table = table'; list = list'; answers = answers'; holders = holders' })
    unfolding on-next
    gave-next later now =
        record {
          on = on-next table list answers holders space x gave.on asked.some (asked_of g) (came_of g) input asked.own asked.few asked.came left;
          bytes = subst (Consumes before later) (sym (joined-more gave.on.parts (take (came_of g) input))) (Consumes-trans before after later _ _ gave.bytes now);
        }

    -- the reading is nearer to its end
    pub gave-nearer : rank_of r < rank_of x.stage
    gave-nearer =
        nearer table list answers holders space x gave.on asked.some (asked_of g) (came_of g) input asked.own asked.few asked.came left

  -- where nothing more is wanted, the input was run
  pub gave-ran : wanted_at x.stage ≡ 0 → (ran : InputRan table x.stage x.table) × Consumes before after (joined ran.parts)
  unfolding input-ran
  gave-ran over = (input-ran table list answers holders space x gave.on over, gave.bytes)
