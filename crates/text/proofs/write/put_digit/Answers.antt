-- `text::write::put_digit` meets its contract: past the end it writes nothing, and otherwise one byte. Assumes nothing.
use Prim.Native.Nat.{◌+◌}
use mathlib.Core.Path.{◌≡◌, sym, ap, ◌∙◌}
use mathlib.Core.List.{[], ◌∷◌}
use native.Mathlib.Omega.{arith}
use lib.ListN.{length}
use Rattle.text.specs.Decimal.{decimal}
use Rattle.text.specs.Write.{overwrite}
use Rattle.text.proofs.DigitLaws.{decimal_digit}
use Rattle.text.proofs.WriteLaws.{overwrite-past, overwrite-one}
use Rattle.text.proofs.write.put_digit.Goals as goal

pub returns-then-out-at : goal.returns-then-out-at
returns-then-out-at c =
    let given = c.args in
    let one : length (decimal given.x) ≡ 1 = ap length (decimal_digit given.x c.requires) in
    record { place = omega arith; bytes = sym (overwrite-past given.at (decimal given.x) given.out.now (omega arith)) }

pub returns : goal.returns
returns c =
    let given = c.args in
    let digit : decimal given.x ≡ (48 + given.x) ∷ [] = decimal_digit given.x c.requires in
    let one : length (decimal given.x) ≡ 1 = ap length digit in
    record {
      place = omega arith;
      bytes = sym (overwrite-one given.at (48 + given.x) given.out.now) ∙ ap (λ t. overwrite given.at t given.out.now) (sym digit);
    }
