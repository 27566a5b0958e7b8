-- The places 2 to 5 for bytes: what each test says of their code (specs/Bytes), and what the first two say of the counts in
-- word 0. Assumes nothing.
use mathlib.Core.Path.{◌≡◌, refl}
use mathlib.Core.Bool.{true, false, not, or-true}
use mathlib.Core.List.{List}
use Prim.Native.Nat.{ℕ, ◌+◌, ◌*◌, ◌/◌, ◌%◌, ◌<◌, ◌≤◌}
use native.Mathlib.Nat.{pos_of_ne-zero}
use native.Mathlib.Omega.{arith}
use borrow.Author.Tests.{le-ltb, eq-eqb, eqb-true, eqb-false, not-true}
use lib.Dec.{eqb, ltb}
use lib.ListN.{length, get_or, take, drop}
use Rattle.machine.specs.Table as table
use Rattle.machine.specs.Table.{length_for, endpoint}
use Rattle.machine.specs.Queue.{name}
use Rattle.machine.specs.Check.{header_word_ok, header_ok, length_ok, table_code}
use Rattle.machine.proofs.Bools.{and_left}
use Rattle.table_check.specs.Checked.{Headed}
use Rattle.table_check.proofs.Places.{empty-header, word-header, headed-most, headed-size}
use Rattle.table_check.proofs.Gather.{part-name}
use Rattle.input_words.specs.Bytes.{words_of}
use Rattle.table_check_bytes.specs.Bytes.{bytes_for, bytes_code, Fitting}
use Rattle.input_words.proofs.WordLaws.{length-words_of}

-- What a first word x of a table says of it: its n domains and m endpoints, the first endpoint at `from`, and that the bytes
-- hold them all.
pub record Counted (b : List ℕ) (n from m : ℕ) : Type 0 where
  pub domains : n ≡ table.domains (words_of b)
  pub endpoints : m ≡ table.endpoints (words_of b)
  pub start : from ≡ 1 + n * n
  pub room : 4 * (from + 12 * m) ≤ length b
  pub most : m ≤ 32

-- the words of endpoint e by their place, and its name
pub counted-endpoint : (b : List ℕ) (n from m : ℕ) → Counted b n from m → (e : ℕ) → take 12 (drop (from + 12 * e) (words_of b)) ≡ endpoint (words_of b) e
unfolding endpoint
counted-endpoint b n from m c e = rw (c.start, c.domains)

pub counted-name : (b : List ℕ) (n from m : ℕ) → Counted b n from m → (e : ℕ) → get_or (words_of b) (from + 12 * e) 0 % 268435456 ≡ name (endpoint (words_of b) e)
counted-name b n from m c e = rw (c.start, c.domains) (part-name (words_of b) e)

module _ (b : List ℕ) where
  pub under_four : length b < 4 → header_ok (words_of b) ≡ false
  under_four h = empty-header (words_of b) (let n = length-words_of b in omega arith)

  pub first_word : 4 ≤ length b → header_ok (words_of b) ≡ header_word_ok (get_or (words_of b) 0 0)
  first_word f = word-header (words_of b) (λ e. omega (arith, length-words_of b))

  -- where the first word is valid, four bytes are there
  pub header_four : header_ok (words_of b) ≡ true → 4 ≤ length b
  unfolding header_ok
  header_four h =
      let some = eqb-false (length (words_of b)) 0 (not-true _ (and_left (not (eqb (length (words_of b)) 0)) _ h)) in
      let n = pos_of_ne-zero some in
      omega (arith, length-words_of b)

  pub fitting-headed : Fitting b → Headed (words_of b)
  unfolding bytes_for length_ok
  fitting-headed f =
      record {
        header = f.header;
        size = eq-eqb (length (words_of b)) (length_for (table.domains (words_of b)) (table.endpoints (words_of b))) (omega (arith, length-words_of b, f.size));
      }

  pub fitting-counted : Fitting b → (x : ℕ) → x ≡ get_or (words_of b) 0 0 → Counted b (x / 256 % 256) (1 + (x / 256 % 256) * (x / 256 % 256)) (x % 256)
  unfolding table.domains table.endpoints
  fitting-counted f x e =
      let h = fitting-headed f in
      record {
        domains = rw e;
        endpoints = rw e;
        start = refl;
        room = rw e (omega (arith, length-words_of b, headed-size (words_of b) h));
        most = rw e (headed-most (words_of b) h);
      }

  pub bytes_2 : header_ok (words_of b) ≡ false → 2 ≡ bytes_code b
  unfolding bytes_code
  bytes_2 h = rw (h, or-true (ltb (length b) 4))

  pub bytes-3 : header_ok (words_of b) ≡ true → eqb (length b) (bytes_for (words_of b)) ≡ false → 3 ≡ bytes_code b
  unfolding bytes_code
  bytes-3 h n = rw (le-ltb (length b) 4 (header_four h), h, n)

  -- where the first word is valid, and the length: as tests
  pub four_bytes : header_ok (words_of b) ≡ true → ltb (length b) 4 ≡ false
  four_bytes h = le-ltb (length b) 4 (header_four h)

  pub words_fit : header_ok (words_of b) ≡ true → eqb (length b) (bytes_for (words_of b)) ≡ true → length_ok (words_of b) ≡ true
  words_fit h e = (fitting-headed (record { header = h; size = eqb-true _ _ e })).size

  -- of a valid length: the words decide
  pub bytes-words : Fitting b → table_code (words_of b) ≡ bytes_code b
  unfolding bytes_code
  bytes-words f =
      rw (le-ltb (length b) 4 (header_four f.header), f.header, eq-eqb (length b) (bytes_for (words_of b)) f.size)
