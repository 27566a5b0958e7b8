-- The lists that bytes give run, one after another, from an accepted table. Assumes nothing.
use Prim.Native.Nat.{ℕ, zero, suc, ◌*◌, ◌≤◌, ◌<◌}
use mathlib.Core.Path.{◌≡◌, refl, sym, subst, ◌∙◌}
use mathlib.Core.List.{List, [], ◌∷◌}
use native.Mathlib.Omega.{arith}
use lib.ListN.{length, take, drop, length-take}
use native.Mathlib.Decide.{dec_lt}
use Rattle.machine.specs.Table.{domains}
use Rattle.machine.specs.Check.{Accepted}
use Rattle.machine.specs.Call.{split}
use Rattle.machine.specs.Run.{run}
use Rattle.machine.specs.Entry.{longest_list}
use Rattle.machine.proofs.Split.{split-few}
use Rattle.machine.proofs.Step.{run-accepted}
use Rattle.machine.proofs.Promise.{code-holders, holders-fit}
use Rattle.input_words.specs.Bytes.{word_at, words_of}
use Rattle.input_words.specs.TableInput.{table_of, after_table}
use Rattle.linetotals_input.specs.Input.{most_lists, Lists, stopped, then, lists_from}
use Rattle.linetotals_input.proofs.ListLaws.{Front, none, many, cut_word, long, list, front, from_list, list-cut, list-whole}
use Rattle.linetotals_theory.specs.Sheet.{RunsFrom, AllRun, EveryListRuns}

-- a list that isn't too long runs from an accepted table
runs : (t ws : List ℕ) → Accepted t → length ws ≤ longest_list → RunsFrom t ws
runs t ws a short =
    code-holders t ws _ (domains t) short a (omega (arith, split-few ws)) ∙ holders-fit t (domains t) refl

-- no list
none-run : (t : List ℕ) (given : Lists) (code wanted : ℕ) → given ≡ stopped code wanted → AllRun t given.lists
unfolding stopped
none-run t given code wanted e = subst (λ (x : Lists). AllRun t x.lists) (sym e) tt

-- a list, and others after it
one-runs : (t : List ℕ) (given : Lists) (ws : List ℕ) (others : Lists) → given ≡ then ws others → RunsFrom t ws
    → AllRun (run t (split ws)) others.lists
    → AllRun t given.lists
unfolding then
one-runs t given ws others e r rest = subst (λ (x : Lists). AllRun t x.lists) (sym e) (r, rest)

all-run : (left : ℕ) (bytes t : List ℕ) → Accepted t → AllRun t (lists_from left bytes).lists
all-run zero bytes t a = go (front zero bytes)
  where
    go : Front bytes 0 → AllRun t (lists_from 0 bytes).lists
    go (none _ e) = none-run t _ _ _ e
    go (many _ e) = none-run t _ _ _ e
all-run (suc left) bytes t a = go (all-run left) (front (suc left) bytes)
  where
    -- what is said of the lists after the first
    Afterwards : Type 0
    Afterwards = (xs u : List ℕ) → Accepted u → AllRun u (lists_from left xs).lists

    first : Afterwards → (n : ℕ) (xs : List ℕ) → n ≤ longest_list → Dec (length xs < 4 * n) → AllRun t (from_list left n xs).lists
    first behind n xs short (yes h) = none-run t _ _ _ (list-cut left n xs h)
    first behind n xs short (no h) =
        let ws = take n (words_of xs) in
        one-runs t _ ws _ (list-whole left n xs (omega arith)) (runs t ws a (omega (arith, length-take n (words_of xs))))
        (behind _ _ (run-accepted t (split ws) a).accepted)

    go : Afterwards → Front bytes (suc left) → AllRun t (lists_from (suc left) bytes).lists
    go behind (none _ is) = none-run t _ _ _ is
    go behind (cut_word _ _ is) = none-run t _ _ _ is
    go behind (long _ _ is) = none-run t _ _ _ is
    go behind (list _ short is) =
        subst (λ (x : Lists). AllRun t x.lists) (sym is) (first behind (word_at bytes 0) (drop 4 bytes) short (dec_lt _ _))

pub every-list-runs : EveryListRuns
every-list-runs bytes a = all-run most_lists (after_table bytes) (table_of bytes) a
