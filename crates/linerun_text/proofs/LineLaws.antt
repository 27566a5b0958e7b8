-- How long the lines are. Assumes nothing.
use Prim.Native.Nat.{ℕ, ◌^◌, ◌/◌, ◌%◌, ◌≤◌, ◌<◌}
use mathlib.Core.List.{◌++◌}
use native.Mathlib.Omega.{arith}
use lib.ListN.{length, length-append}
use Rattle.text.specs.Ascii.{ascii}
use Rattle.text.specs.Decimal.{labelled}
use Rattle.text.proofs.LabelLaws.{length-labelled}
use Rattle.machine.specs.Word.{kind, caller, answer_code}
use Rattle.linerun_text.specs.Lines.{first_line, call_line}

pub length-first_line : (calls code : ℕ) → calls ≤ 10000 → code < 2 ^ 32 → length (first_line calls code) ≤ 28
unfolding first_line ascii
length-first_line calls code hn hr =
    omega (
      arith,
      length-append (labelled (ascii "calls ") calls ++ labelled (ascii " code ") code) (ascii "\n"),
      length-append (labelled (ascii "calls ") calls) (labelled (ascii " code ") code),
      length-labelled (ascii "calls ") calls 4 (omega arith),
      length-labelled (ascii " code ") code 9 (omega arith),
    )

pub length-call_line : (i w x y : ℕ) → i < 10000 → w < 2 ^ 32 → x < 2 ^ 32 → y < 2 ^ 32 → length (call_line i w x y) ≤ 66
unfolding call_line ascii
length-call_line i w x y hi hw hx hy =
    let call = labelled (ascii "call ") i in
    let caller = labelled (ascii " caller ") (caller w) in
    let kind = labelled (ascii " kind ") (kind w) in
    let code = labelled (ascii " code ") (answer_code w) in
    let first = labelled (ascii " data ") x in
    let second = labelled (ascii " ") y in
    omega (
      arith,
      length-append (call ++ caller ++ kind ++ code ++ first ++ second) (ascii "\n"),
      length-append (call ++ caller ++ kind ++ code ++ first) second,
      length-append (call ++ caller ++ kind ++ code) first,
      length-append (call ++ caller ++ kind) code,
      length-append (call ++ caller) kind,
      length-append call caller,
      length-labelled (ascii "call ") i 3 (omega arith),
      length-labelled (ascii " caller ") (w / 4194304 % 64) 1 (omega arith),
      length-labelled (ascii " kind ") (w / 268435456) 1 (omega arith),
      length-labelled (ascii " code ") (w % 65536) 4 (omega arith),
      length-labelled (ascii " data ") x 9 (omega arith),
      length-labelled (ascii " ") y 9 (omega arith),
    )
