-- Rows and their calls, both ways: rows whose calls fit are the rows of these calls, and calls that fit are those of their rows.
-- So what is claimed of calls holds of rows (specs/ListClaims). Assumes nothing.
use Prim.Native.Nat.{ℕ, zero, suc, ◌<◌}
use mathlib.Core.Path.{◌≡◌, refl, sym, ap, ap₂, ◌∙◌}
use mathlib.Core.Bool.{Bool, true, false, cond, ◌&&◌, false≢true}
use mathlib.Core.List.{List, [], ◌∷◌, ◌++◌}
use native.Mathlib.Omega.{arith}
use borrow.Author.Tests.{eqb-true}
use lib.Dec.{eqb}
use lib.ListN.{length, get_or}
use Rattle.machine.specs.Call.{Kind, kind_of, wants_second}
use Rattle.machine.proofs.Bools.{and_left, and_right, cond-elim}
use Rattle.machine.proofs.KindCases.{kind-elim}
use Rattle.calls.specs.declared.Call.{Call}
use Rattle.calls.specs.declared.Call.TheVariants.{LookUp, Send, Receive, MyEndpoints, MyRights, Grant, Remove, Revoke, Refused}
use Rattle.writer_theory.specs.Words.{fields_of, within_bits, fits, all_fit}
use Rattle.writer_theory.specs.Write.{writing}
use Rattle.writer_theory.specs.Rows.{no_call, where_zero, of_columns, row_call, rows_handed_in, row_of, rows_of}
use Rattle.writer_theory.specs.Claims.{read_from}
use Rattle.writer_theory.specs.ListClaims.{RowsReadBack, RowsDifferentWords, RowsWrittenAsItCame}
use Rattle.writer_theory.proofs.FieldWords.{kind_small, bounds}
use Rattle.writer_theory.proofs.Writing.{writes-back}
use Rattle.writer_theory.proofs.ListClaims.{written_all, written-reads-back, written-as-it-came}

-- what is no call doesn't fit
no_call_lem : fits no_call ≡ true → ⊥
unfolding fits within_bits fields_of
no_call_lem h = false≢true h

-- a call that fits had zeros in the columns that its kind doesn't use
record Zeros (a b c : ℕ) (call : Call) : Type 0 where
  pub a-zero : a ≡ 0
  pub b-zero : b ≡ 0
  pub c-zero : c ≡ 0
  pub same : where_zero a b c call ≡ call

zeros : (a b c : ℕ) (call : Call) → fits (where_zero a b c call) ≡ true → Zeros a b c call
unfolding where_zero
zeros a b c call = go (eqb a 0) (eqb b 0) (eqb c 0) refl refl refl
  where
    go : (x y z : Bool) → eqb a 0 ≡ x → eqb b 0 ≡ y → eqb c 0 ≡ z → fits (cond (x && y && z) call no_call) ≡ true → Zeros a b c call
    go true true true x y z h =
        record { a-zero = eqb-true a 0 x; b-zero = eqb-true b 0 y; c-zero = eqb-true c 0 z; same = rw (x, y, z) }
    go true true false x y z h = absurd (no_call_lem h)
    go true false z' x y z h = absurd (no_call_lem h)
    go false y' z' x y z h = absurd (no_call_lem h)

-- the row of the call of a row
row_back : (k u a b c : ℕ) → fits (row_call k u a b c) ≡ true → row_of (row_call k u a b c) ≡ k ∷ u ∷ a ∷ b ∷ c ∷ []
unfolding row_call of_columns row_of fields_of wants_second
row_back k u a b c =
    kind-elim k (λ (kind : Kind). fits (of_columns kind u a b c) ≡ true → row_of (of_columns kind u a b c) ≡ k ∷ u ∷ a ∷ b ∷ c ∷ [])
    (λ e h. let z = zeros a b 0 _ h in ap row_of z.same ∙ simp (e, z.a-zero, z.b-zero))
    (λ e h. let z = zeros a 0 0 _ h in ap row_of z.same ∙ simp (e, z.a-zero))
    (λ e h. let z = zeros a 0 c _ h in ap row_of z.same ∙ simp (e, z.a-zero, z.c-zero))
    (λ e h. let z = zeros a b c _ h in ap row_of z.same ∙ simp (e, z.a-zero, z.b-zero, z.c-zero))
    (λ e h. let z = zeros a b c _ h in ap row_of z.same ∙ simp (e, z.a-zero, z.b-zero, z.c-zero))
    (λ e h. simp e)
    (λ e h. let z = zeros 0 b 0 _ h in ap row_of z.same ∙ simp (e, z.b-zero))
    (λ e h. simp e)
    (λ e h. absurd (no_call_lem h))
    (λ h. absurd (no_call_lem h))

-- the rows of the calls of rows
pub rows_back : (rows : List ℕ) → all_fit (rows_handed_in rows) ≡ true → rows_of (rows_handed_in rows) ≡ rows
unfolding rows_handed_in rows_of all_fit
rows_back [] h = refl
rows_back (k ∷ []) h = absurd (no_call_lem (and_left (fits no_call) true h))
rows_back (k ∷ (u ∷ [])) h = absurd (no_call_lem (and_left (fits no_call) true h))
rows_back (k ∷ (u ∷ (a ∷ []))) h = absurd (no_call_lem (and_left (fits no_call) true h))
rows_back (k ∷ (u ∷ (a ∷ (b ∷ [])))) h = absurd (no_call_lem (and_left (fits no_call) true h))
rows_back (k ∷ (u ∷ (a ∷ (b ∷ (c ∷ ws))))) h =
    let call = row_call k u a b c in
    ap₂ (λ (x y : List ℕ). x ++ y) (row_back k u a b c (and_left (fits call) (all_fit (rows_handed_in ws)) h))
    (rows_back ws (and_right (fits call) (all_fit (rows_handed_in ws)) h))

-- the call of the row of a call
call_back : (c : Call) (ws : List ℕ) → fits c ≡ true → rows_handed_in (row_of c ++ ws) ≡ c ∷ rows_handed_in ws
unfolding rows_handed_in row_of fields_of wants_second row_call kind_of of_columns where_zero fits within_bits
call_back (LookUp u x) ws h = refl
call_back (Send u e m) ws h = refl
call_back (Receive u e) ws h = refl
call_back (MyEndpoints u) ws h = refl
call_back (MyRights u) ws h = refl
call_back (Grant u g k r) ws h = refl
call_back (Remove u g r) ws h = refl
call_back (Revoke u g k r) ws h = refl
call_back (Refused u r) ws h = absurd (false≢true h)

-- the calls of the rows of calls
calls_back : (cs : List Call) → all_fit cs ≡ true → rows_handed_in (rows_of cs) ≡ cs
unfolding rows_handed_in rows_of all_fit
calls_back [] h = refl
calls_back (c ∷ cs) h =
    call_back c (rows_of cs) (and_left (fits c) (all_fit cs) h)
    ∙ ap (λ (xs : List Call). c ∷ xs) (calls_back cs (and_right (fits c) (all_fit cs) h))

-- the words of the rows of calls
five-small : (x y z v w : ℕ) (ws : List ℕ) → x < 4294967296 → y < 4294967296 → z < 4294967296 → v < 4294967296 → w < 4294967296
    → ((k : ℕ) → get_or ws k 0 < 4294967296) → (k : ℕ) → get_or (x ∷ y ∷ z ∷ v ∷ w ∷ ws) k 0 < 4294967296
five-small x y z v w ws a b c d e rest zero = a
five-small x y z v w ws a b c d e rest (suc zero) = b
five-small x y z v w ws a b c d e rest (suc (suc zero)) = c
five-small x y z v w ws a b c d e rest (suc (suc (suc zero))) = d
five-small x y z v w ws a b c d e rest (suc (suc (suc (suc zero)))) = e
five-small x y z v w ws a b c d e rest (suc (suc (suc (suc (suc k))))) = rest k

rows-small : (cs : List Call) → all_fit cs ≡ true → (k : ℕ) → get_or (rows_of cs) k 0 < 4294967296
unfolding rows_of row_of all_fit fits
rows-small [] h = λ k. omega arith
rows-small (c ∷ cs) h =
    let f = fields_of c in
    let r = bounds f (and_left (fits c) (all_fit cs) h) in
    five-small f.kind f.caller f.a f.b (cond (wants_second f.kind) f.second f.c) (rows_of cs)
    (omega (arith, kind_small c)) (omega (arith, r.caller)) (omega (arith, r.a)) (omega (arith, r.b))
    (cond-elim (λ (x : ℕ). x < 4294967296) (wants_second f.kind) (λ _. omega (arith, r.second)) (λ _. omega (arith, r.c)))
    (rows-small cs (and_right (fits c) (all_fit cs) h))

-- ---- what is claimed of rows

pub rows-read-back : RowsReadBack
rows-read-back rows list whole =
    let cs = rows_handed_in rows in
    (written-reads-back cs (length cs) list whole, rows_back rows (written_all cs (length cs) list whole).0)

pub rows-different-words : RowsDifferentWords
rows-different-words rows others list space one two same =
    let (calls, mine) = rows-read-back rows list one in
    let (calls', theirs) = rows-read-back others space two in
    sym mine ∙ ap rows_of (sym calls ∙ ap read_from same ∙ calls') ∙ theirs

pub rows-written-as-it-came : RowsWrittenAsItCame
rows-written-as-it-came ws list h short room =
    let fit = (writes-back ws h).0 in (
      ap (λ (cs : List Call). writing cs (length cs) list) (calls_back (read_from ws) fit) ∙ written-as-it-came ws list h short room,
      rows-small (read_from ws) fit,
    )
