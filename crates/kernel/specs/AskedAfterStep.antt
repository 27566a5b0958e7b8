-- What is claimed of the holders after one call by itself (document 02 (h)).
use Rattle.std.specs.Prelude.{ℕ, ◌<◌, ◌≡◌, true, ◌↔◌, List, Ok}
use Rattle.machine.specs.Below.{has_bit}
use Rattle.machine.specs.Table.{domains}
use Rattle.machine.specs.Call.{Call}
use Rattle.machine.specs.Influence.{reaches}
use Rattle.machine.specs.Holders.{holders_of}
use Rattle.reachability.specs.Chain.{Chain, among}
use Rattle.holders_theory.specs.Asked.{ask_code, asked}
use Rattle.answers.specs.declared.Answer.{Answer}
use Rattle.kernel.specs.Step.{StepPromise}

-- "After a call, in the present table", of a step that was answered: its holders are those of the table that it left. They can be
-- asked about each domain, and the set holds exactly those that have a chain of rights to it in that table.
abbrev pub AskedAfterStep : Type 0
AskedAfterStep =
    (t : List ℕ) (c : Call) (holders : List ℕ) (a : Answer) (t' kept : List ℕ) (d u : ℕ)
    → StepPromise t c holders (Ok a) t' kept
    → d < domains t
    → (kept ≡ holders_of t')
    × (ask_code kept d ≡ 0)
    × ((has_bit (asked kept d) u ≡ true) ↔ Chain (among (domains t') (reaches t')) d u)
