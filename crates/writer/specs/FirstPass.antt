-- What the writer's first pass finds, in terms of the definition of writing (writer_theory: specs/Write; document 02, (c)).
use Rattle.std.specs.Prelude.{ℕ, Result, Ok, Err, List, length}
use Rattle.std.proofs.Math.Option.{Option, none, some}
use Rattle.calls.specs.declared.Call.{Call}
use Rattle.writer_theory.specs.Words.{written}
use Rattle.writer.specs.declared.WriteRefusal.{WriteRefusal}
use Rattle.writer.specs.declared.WriteRefusal.TheVariants.{BadCall}
use Rattle.writer_theory.specs.Write.{first_unfit}

-- the index of the first call that can't be written, or how many words the calls need
abbrev pub found : Option ℕ → ℕ → Result ℕ WriteRefusal
found none words = Ok words
found (some i) words = Err (BadCall i)

-- what is found in some calls
unfoldable pub measured : List Call → Result ℕ WriteRefusal
measured cs = found (first_unfit cs) (length (written cs))
