-- How long the lines are. Assumes nothing.
use Prim.Native.Nat.{ℕ, ◌^◌, ◌≤◌, ◌<◌}
use mathlib.Core.List.{◌++◌}
use native.Mathlib.Omega.{arith}
use lib.ListN.{length, length-append}
use Rattle.text.specs.Ascii.{ascii}
use Rattle.text.specs.Decimal.{labelled}
use Rattle.text.proofs.LabelLaws.{length-labelled}
use Rattle.linetotals_text.specs.Lines.{endpoint_line, last_line}

pub length-last_line : (lists code : ℕ) → lists < 2 ^ 64 → code < 2 ^ 32 → length (last_line lists code) ≤ 43
unfolding last_line ascii
length-last_line lists code hn hr =
    omega (
      arith,
      length-append (labelled (ascii "lists ") lists ++ labelled (ascii " code ") code) (ascii "\n"),
      length-append (labelled (ascii "lists ") lists) (labelled (ascii " code ") code),
      length-labelled (ascii "lists ") lists 19 (omega arith),
      length-labelled (ascii " code ") code 9 (omega arith),
    )

pub length-endpoint_line : (e sent received lost start end : ℕ) → e < 100 → sent < 2 ^ 64 → received < 2 ^ 64 → lost < 2 ^ 64
    → start < 2 ^ 64 → end < 2 ^ 64 → length (endpoint_line e sent received lost start end) ≤ 146
unfolding endpoint_line ascii
length-endpoint_line e sent received lost start end he hs hr hl hw hv =
    let of = labelled (ascii "endpoint ") e in
    let sends = labelled (ascii " sent ") sent in
    let receives = labelled (ascii " received ") received in
    let losses = labelled (ascii " lost ") lost in
    let starts = labelled (ascii " start ") start in
    let ends = labelled (ascii " end ") end in
    omega (
      arith,
      length-append (of ++ sends ++ receives ++ losses ++ starts ++ ends) (ascii "\n"),
      length-append (of ++ sends ++ receives ++ losses ++ starts) ends,
      length-append (of ++ sends ++ receives ++ losses) starts,
      length-append (of ++ sends ++ receives) losses,
      length-append (of ++ sends) receives,
      length-append of sends,
      length-labelled (ascii "endpoint ") e 1 (omega arith),
      length-labelled (ascii " sent ") sent 19 (omega arith),
      length-labelled (ascii " received ") received 19 (omega arith),
      length-labelled (ascii " lost ") lost 19 (omega arith),
      length-labelled (ascii " start ") start 19 (omega arith),
      length-labelled (ascii " end ") end 19 (omega arith),
    )
