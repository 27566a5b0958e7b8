-- `write_lines` meets its contract: there are ever fewer lines left, and each part that is written continues what was written before.
use Prim.Native.Nat.{ℕ, ◌≤◌}
use mathlib.Core.Path.{◌≡◌, refl, sym, ap, subst, ◌∙◌}
use mathlib.Core.Bool.{false, false≢true}
use mathlib.Core.List.{List}
use native.Mathlib.Omega.{arith}
use lib.ListN.{length, take}
use Rattle.std.specs.Io.KnownBytes.{Appends}
use Rattle.std.proofs.KnownBytes.{Appends-nil, Appends-trans}
use Rattle.std.specs.Prelude.{Option, Result, Ok, Err, IsErr, OnOk}
use Rattle.text.specs.Write.{overwrite}
use Rattle.linerun_report.specs.Lines.{printed_before}
use Rattle.linerun_report.specs.Cursor.{calls_of, code_of, line_of, given_of, ended, part_of, advanced}
use Rattle.linerun_report.specs.declared.Lines.{Lines}
use Rattle.linerun_report.proofs.CursorLaws.{Going, going_next, fewer-left, next-within, printed-next, part-in-front, all-given, none-printed}
use Rattle.linerun.proofs.write_lines.Goals as goal

-- a part is written only where all before it were, and then what holds of both
both-written : {T E : Type 0} (before now : Result T E) {P Q R : Type 0} → (IsErr before → IsErr now) → OnOk before P → OnOk now Q → (P → Q → R) → OnOk now R
both-written (Ok x) (Ok y) h p q f = f p q
both-written (Err x) (Ok y) h p q f = absurd (false≢true (h refl))
both-written (Ok x) (Err y) h p q f = tt
both-written (Err x) (Err y) h p q f = tt

pub loop-out-init : goal.loop-out-init
loop-out-init g c =
    let prints = c.requires.prints in
    record {
      room = refl;
      going = record { few = prints.few; lent = prints.lent; fits = omega arith; same-calls = refl; same_code = refl };
      within = omega (arith, prints.start);
      printed = subst (Appends _ _) (sym (none-printed c.args.first c.args.answers.now prints.start)) (Appends-nil _);
    }

-- the cursor after a part, by the space that there is
module _ (first l next : Lines) (answers out left : List ℕ) (room : length out ≡ 16924) (g : Going first answers 16924 l)
    (is : next ≡ advanced l answers (length out)) where
  there : next ≡ advanced l answers 16924
  there = subst (λ (n : ℕ). next ≡ advanced l answers n) room is

  -- a part that is written continues what was written before it
  continues : (a b d : Option (List ℕ)) → ended l ≡ false → left ≡ overwrite 0 (part_of l answers (length out)) out → given_of next ≤ length left
      → Appends a b (printed_before (calls_of l) (code_of l) answers (line_of l)) → Appends b d (take (given_of next) left)
      → Appends a d (printed_before (calls_of next) (code_of next) answers (line_of next))
  continues a b d more stored fits front now =
      let part = part-in-front l next answers out left is stored fits ∙ ap (part_of l answers) room in
      subst (Appends a d) (printed-next g there more) (Appends-trans a b d _ _ front (subst (Appends b d) part now))

pub loop-out-smaller : goal.loop-out-smaller
loop-out-smaller g c =
    let at_loop = c.loop-out.invariant in
    let is = there _ c.loop-out.lines c.next-lines.result c.args.answers.now c.loop-out.out c.next-lines.new.out at_loop.room at_loop.going
    c.next-lines.ensures.value in
    fewer-left at_loop.going is (sym c.ended.ensures ∙ c.loop-out-test.true)

pub loop-out-preserved : goal.loop-out-preserved
loop-out-preserved g c =
    let at_loop = c.loop-out.invariant in
    let next = c.next-lines.ensures in
    let is = there _ c.loop-out.lines c.next-lines.result c.args.answers.now c.loop-out.out c.next-lines.new.out at_loop.room at_loop.going
    next.value in
    record {
      room = omega (arith, c.next-lines.auto.out, at_loop.room);
      going = going_next at_loop.going is;
      within = next-within at_loop.going is;
      printed =
          both-written _ _ c.write_part-written.ensures.unwritten at_loop.printed c.write_part-written.ensures.written
          (continues _ c.loop-out.lines c.next-lines.result c.args.answers.now c.loop-out.out c.next-lines.new.out at_loop.room at_loop.going next.value
          _ _ _ (sym c.ended.ensures ∙ c.loop-out-test.true) next.out_after next.result_in_bounds);
    }

-- bytes that are the same
same-bytes : {T E : Type 0} (r : Result T E) (a b : Option (List ℕ)) {p q : List ℕ} → p ≡ q → OnOk r (Appends a b p) → OnOk r (Appends a b q)
same-bytes r a b e h = subst (λ (bytes : List ℕ). OnOk r (Appends a b bytes)) e h

pub returns : goal.returns
returns g c =
    let at_loop = c.loop-out.invariant in
    let over = sym c.ended.ensures ∙ c.loop-out-test.false in
    record {
      given = (over, at_loop.going.same-calls, at_loop.going.same_code);
      written =
          same-bytes c.loop-out.written _ _
          (all-given c.args.first c.loop-out.lines c.args.answers.now 16924 at_loop.going over at_loop.within ∙ c.requires.prints.read)
          at_loop.printed;
    }
