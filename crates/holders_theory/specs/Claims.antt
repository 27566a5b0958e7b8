-- What is claimed of the holders (document 02 (h)), in closed statements about all accepted tables, or about arbitrary words
-- where a claim says so.
use Rattle.std.specs.Prelude.{ℕ, ◌<◌, ◌≤◌, ◌≡◌, true, false, ◌↔◌, List, length, get_or, take}
use Rattle.machine.specs.Below.{has_bit}
use Rattle.machine.specs.Table.{domains}
use Rattle.machine.specs.Check.{Accepted}
use Rattle.machine.specs.Call.{Call, split}
use Rattle.machine.specs.Machine.{decide, effect, step}
use Rattle.machine.specs.Run.{run}
use Rattle.machine.specs.Entry.{Runs}
use Rattle.machine.specs.Influence.{reaches}
use Rattle.machine.specs.Holders.{holders_of}
use Rattle.machine.specs.Promise.{RunPromise}
use Rattle.reachability.specs.Chain.{Chain, linked, among}
use Rattle.holders_theory.specs.Noted.{holders_after, holders_after_calls, first_words}
use Rattle.holders_theory.specs.Asked.{askable, ask_code, asked}

-- Bit h of word g of a table's holders says whether h has any right on g.
abbrev pub HoldersSay : Type 0
HoldersSay = (t : List ℕ) (h g : ℕ) → h < domains t → g < domains t → has_bit (get_or (holders_of t) g 0) h ≡ reaches t h g

-- There is one word a domain,
abbrev pub HoldersOneWord : Type 0
HoldersOneWord = (t : List ℕ) → length (holders_of t) ≡ domains t

-- and no word has a bit from the count of domains on.
abbrev pub HoldersNoOther : Type 0
HoldersNoOther = (t : List ℕ) (h g : ℕ) → domains t ≤ h → has_bit (get_or (holders_of t) g 0) h ≡ false

-- Noting what a call alters turns the holders of an accepted table before it into those of the table after it, computed afresh.
abbrev pub HoldersKept : Type 0
HoldersKept = (t : List ℕ) (c : Call) → Accepted t → holders_after (holders_of t) (effect t (decide t c)) ≡ holders_of (step t c)

-- Noted from an accepted table on, the words are the holders of the table after each of any calls: after the first k, for any k.
abbrev pub HoldersKeptAlong : Type 0
HoldersKeptAlong =
    (t : List ℕ) (cs : List Call) (k : ℕ)
    → Accepted t
    → holders_after_calls (holders_of t) t (take k cs) ≡ holders_of (run t (take k cs))

-- The holders after the first k calls of the list ws, from the table t: noted call by call, they are those of the table then. A
-- run of these calls alone, lent so many words as answer space and for the holders, isn't refused, and leaves them and that table.
pub record HoldersAfterCalls (t ws : List ℕ) (size lent k : ℕ) : Type 0 where
  pub noted : holders_after_calls (holders_of t) t (take k (split ws)) ≡ holders_of (run t (take k (split ws)))
  pub runs : Runs t (first_words k ws) size lent
  pub left :
      (space holders : List ℕ) (calls : ℕ) (answers end kept : List ℕ)
      → RunPromise t (first_words k ws) space holders 0 calls answers end kept
      → (kept ≡ holders_of (run t (take k (split ws)))) × (end ≡ run t (take k (split ws)))

-- "From the start of a list that runs, and after every call", of every list that a run of the kernel ran: after its first k calls,
-- for any k.
abbrev pub HoldersAfterEveryCall : Type 0
HoldersAfterEveryCall =
    (t ws space holders : List ℕ) (calls : ℕ) (answers end kept : List ℕ) (k : ℕ)
    → RunPromise t ws space holders 0 calls answers end kept
    → HoldersAfterCalls t ws (length space) (length holders) k

-- Which words can be asked about d: 32, with the empty set, if they aren't 1 to 16, one has a bit from their count on, or d isn't
-- below it; else 0.
pub record AskCode (ws : List ℕ) (d : ℕ) : Type 0 where
  pub no_words : length ws ≡ 0 → ask_code ws d ≡ 32
  pub too_many : 16 < length ws → ask_code ws d ≡ 32
  pub other_bit : (v h : ℕ) → v < length ws → length ws ≤ h → has_bit (get_or ws v 0) h ≡ true → ask_code ws d ≡ 32
  pub other_domain : length ws ≤ d → ask_code ws d ≡ 32
  pub passed : length ws ≤ 16 → d < length ws → ((v h : ℕ) → v < length ws → length ws ≤ h → has_bit (get_or ws v 0) h ≡ false) → ask_code ws d ≡ 0
  pub empty : ask_code ws d ≡ 32 → asked ws d ≡ 0

abbrev pub EveryAskCode : Type 0
EveryAskCode = (ws : List ℕ) (d : ℕ) → AskCode ws d

-- Of any words that can be asked, the set holds exactly those that have a chain in these words, d itself among them.
abbrev pub AskedExactly : Type 0
AskedExactly =
    (ws : List ℕ) (d u : ℕ) → askable ws d ≡ true → (has_bit (asked ws d) u ≡ true) ↔ Chain (linked ws) d u

-- The holders of an accepted table, and each call leaves an accepted table, can be asked about each of its domains. The set
-- holds exactly those that have a chain of rights to it in that table.
abbrev pub AskedNow : Type 0
AskedNow =
    (t : List ℕ) (d u : ℕ)
    → Accepted t
    → d < domains t
    → (ask_code (holders_of t) d ≡ 0) × ((has_bit (asked (holders_of t) d) u ≡ true) ↔ Chain (among (domains t) (reaches t)) d u)

-- The same of the words that a run of the kernel left: its holders can be asked about each domain, and the set holds exactly those
-- that have a chain of rights to it in the table that the run left.
abbrev pub AskedAfterRun : Type 0
AskedAfterRun =
    (t ws space holders : List ℕ) (calls : ℕ) (answers end kept : List ℕ) (d u : ℕ)
    → RunPromise t ws space holders 0 calls answers end kept
    → d < domains t
    → (ask_code kept d ≡ 0) × ((has_bit (asked kept d) u ≡ true) ↔ Chain (among (domains end) (reaches end)) d u)
