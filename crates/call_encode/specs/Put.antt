-- The words of a call stored into a list, from an index on (document 02, (c)).
use Rattle.std.specs.Prelude.{ℕ, ◌+◌, cond, ◌&&◌, List, ◌++◌, leb, length, take, drop}
use Rattle.calls.specs.declared.Call.{Call}
use Rattle.writer_theory.specs.Words.{fits, encoded_words}

-- a list with other words in place of its own, from an index on
abbrev pub pasted : List ℕ → ℕ → List ℕ → List ℕ
pasted ws at vs = take at ws ++ (vs ++ drop (at + length vs) ws)

-- a list with the words of a call from an index on; as it was where the call can't be written, or the words would pass the end
unfoldable pub put_at : List ℕ → ℕ → Call → List ℕ
put_at ws at c = cond (fits c && leb (at + length (encoded_words c)) (length ws)) (pasted ws at (encoded_words c)) ws
