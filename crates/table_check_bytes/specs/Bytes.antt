-- A table as little-endian bytes, and the code of its check (document 01, 'Into firmware and onto the bench').
use Rattle.std.specs.Prelude.{ℕ, ◌*◌, ◌%◌, ◌^◌, ◌<◌, ◌≤◌, ◌≡◌, true, false, cond, not, ◌||◌, ◌⊎◌, List, length, get_or, eqb, ltb}
use Rattle.input_words.specs.Bytes.{words_of, bytes_of}
use Rattle.machine.specs.Table.{domains, endpoints, length_for}
use Rattle.machine.specs.Check.{header_ok, table_code}

-- four times the length that the first word requires
unfoldable pub bytes_for : List ℕ → ℕ
bytes_for t = 4 * length_for (domains t) (endpoints t)

-- the check's code: 2 where there are fewer than four bytes or the first word is broken, 3 where the length isn't four times
-- the required one; else the words decide
unfoldable pub bytes_code : List ℕ → ℕ
bytes_code bytes =
    let t = words_of bytes in
    cond (ltb (length bytes) 4 || not (header_ok t)) 2
    (cond (not (eqb (length bytes) (bytes_for t))) 3 (table_code t))

-- What ties it to the check of words: bytes that are those of words of 32 bits get the code of the words.
abbrev pub SameCode : Type 0
SameCode = (ws : List ℕ) → ((i : ℕ) → get_or ws i 0 < 2 ^ 32) → bytes_code (bytes_of ws) ≡ table_code ws

-- Bytes left over after the last whole word get 3, unless the first word is broken.
abbrev pub LeftOver : Type 0
LeftOver = (bytes : List ℕ) → header_ok (words_of bytes) ≡ true → (length bytes % 4 ≡ 0 → ⊥) → bytes_code bytes ≡ 3

-- "Under four bytes is 2; a length that isn't four times the right one is 3" (document 01, 'Into firmware and onto the bench'), of any
-- bytes: 2 also where the first word is broken, before 3; else the words decide.
pub record BytesCode (bytes : List ℕ) : Type 0 where
  pub short : length bytes < 4 → bytes_code bytes ≡ 2
  pub broken : header_ok (words_of bytes) ≡ false → bytes_code bytes ≡ 2
  pub other_length : header_ok (words_of bytes) ≡ true → (length bytes ≡ bytes_for (words_of bytes) → ⊥) → bytes_code bytes ≡ 3
  pub by_words : header_ok (words_of bytes) ≡ true → length bytes ≡ bytes_for (words_of bytes) → bytes_code bytes ≡ table_code (words_of bytes)

abbrev pub EveryBytesCode : Type 0
EveryBytesCode = (bytes : List ℕ) → BytesCode bytes

-- "The result is 0 or 2 to 5" (document 01, 'Into firmware and onto the bench'), of any bytes.
abbrev pub CodesOfBytes : Type 0
CodesOfBytes = (bytes : List ℕ) → (bytes_code bytes ≡ 0) ⊎ ((2 ≤ bytes_code bytes) × (bytes_code bytes ≤ 5))

-- the precondition of the tests after the first two places: the places 2 and 3 don't refuse the bytes
pub record Fitting (bytes : List ℕ) : Type 0 where
  pub header : header_ok (words_of bytes) ≡ true
  pub size : length bytes ≡ bytes_for (words_of bytes)
