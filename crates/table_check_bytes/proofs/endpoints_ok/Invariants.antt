-- The endpoints passed are valid, and their names are gathered.
use Rattle.table_check.proofs.Gather.{Gathered}
use Rattle.input_words.specs.Bytes.{words_of}
use Rattle.table_check_bytes.proofs.Places.{Counted}
use Rattle.table_check_bytes.proofs.endpoints_ok.Given as goal

abbrev pub invariant-loop-e : goal.invariant-loop-e
invariant-loop-e l = Gathered (words_of l.bytes) l.m l.names l.e × Counted l.bytes l.n l.from l.m
