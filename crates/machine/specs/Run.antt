-- The run of a list of calls, of any length: the first call gets the table, each later one the table left by the call before
-- (document 01, 'The striking rule').
use Rattle.std.specs.Prelude.{ℕ, List, [], ◌∷◌, ◌++◌}
use Rattle.machine.specs.Call.{Call}
use Rattle.machine.specs.Machine.{step, answer}

-- the table after the calls
unfoldable pub run : List ℕ → List Call → List ℕ
run t [] = t
run t (c ∷ cs) = run (step t c) cs

-- the answers, three words for each call
unfoldable pub answers : List ℕ → List Call → List ℕ
answers t [] = []
answers t (c ∷ cs) = answer t c ++ answers (step t c) cs
