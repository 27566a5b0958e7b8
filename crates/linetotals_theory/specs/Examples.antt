-- Inputs of `linetotals` and what it prints for them: list L of document 01 twice on table T, a queue that is full at the start, an
-- empty list, a table without endpoints, and refusals.
use Rattle.std.specs.Prelude.{ℕ, zero, suc, ◌≡◌, List, [], ◌∷◌, ◌++◌, length, take, set}
use Prim.Native.String.{String}
use Rattle.machine.specs.Examples.{T, L}
use Rattle.text.specs.Ascii.{ascii}
use Rattle.input_words.specs.Bytes.{bytes_of}
use Rattle.linetotals_input.specs.Input.{most_lists, lists_from}
use Rattle.linetotals_theory.specs.Sheet.{sheet}

-- an input, and what is printed for it
pub record Row : Type 0 where
  pub input : List ℕ
  pub printed : String

-- every row holds of the definition
abbrev pub EveryRow : List Row → Type 0
EveryRow [] = Unit {0}
EveryRow (r ∷ rs) = (sheet r.input ≡ ascii r.printed) × EveryRow rs

-- the rows
abbrev pub rows : List Row
rows =
    record {
      input = bytes_of (34 ∷ T ++ (12 ∷ L) ++ (12 ∷ L));
      printed = "endpoint 0 sent 0 received 0 lost 0 start 0 end 0\nendpoint 1 sent 5 received 2 lost 3 start 0 end 0\nlists 2 code 0\n";
    }
    -- what waits at the start and at the end are distinct, and lost isn't the table's count, which is at its largest
    ∷ record {
      input =
          bytes_of
          (34
          ∷ set (set (set (set T 12 0x5000_0002) 13 0x6FFF_FFFF) 14 0xF000_0001) 15 0xF000_0002
          ++ (6 ∷ 0x2000_0000 ∷ 0xF000_0007 ∷ 0x2000_0000 ∷ 0xF000_0008 ∷ 0x3040_0000 ∷ 0x4040_0000 ∷ []));
      printed = "endpoint 0 sent 2 received 1 lost 2 start 2 end 1\nendpoint 1 sent 0 received 0 lost 0 start 0 end 0\nlists 1 code 0\n";
    }
    -- an empty list, which ran
    ∷ record {
      input = bytes_of (34 ∷ T ++ (0 ∷ []));
      printed = "endpoint 0 sent 0 received 0 lost 0 start 0 end 0\nendpoint 1 sent 0 received 0 lost 0 start 0 end 0\nlists 1 code 0\n";
    }
    -- m is 0: the last line only
    ∷ record { input = bytes_of (2 ∷ 0x1000_0100 ∷ 0x2000_0000 ∷ 1 ∷ 0x5000_0000 ∷ []); printed = "lists 1 code 0\n" }
    -- 7: the table's length word cut short
    ∷ record { input = 34 ∷ 0 ∷ 0 ∷ []; printed = "lists 0 code 7\n" }
    -- 4, whatever follows the table
    ∷ record { input = bytes_of (34 ∷ set T 9 0x2000_0010 ++ (0 ∷ [])); printed = "lists 0 code 4\n" }
    -- 1, before 7: a length word above 4,096; the totals so far stay
    ∷ record {
      input = bytes_of (34 ∷ T ++ (12 ∷ L) ++ (4097 ∷ []));
      printed = "endpoint 0 sent 0 received 0 lost 0 start 0 end 0\nendpoint 1 sent 2 received 1 lost 1 start 0 end 0\nlists 1 code 1\n";
    }
    -- 7: a list cut short changes nothing
    ∷ record {
      input = bytes_of (34 ∷ T ++ (12 ∷ L) ++ (12 ∷ take 11 L)) ++ (0 ∷ 0 ∷ 0x80 ∷ []);
      printed = "endpoint 0 sent 0 received 0 lost 0 start 0 end 0\nendpoint 1 sent 2 received 1 lost 1 start 0 end 0\nlists 1 code 7\n";
    }
    ∷ []

-- the bytes of so many empty lists
unfoldable pub empty_lists : ℕ → List ℕ
empty_lists zero = []
empty_lists (suc k) = 0 ∷ 0 ∷ 0 ∷ 0 ∷ empty_lists k

-- The most lists that there may be: a byte after 65,536 empty ones is one list too many, and one after 65,535 is a length word that
-- is cut short.
pub record MostListsRow (b : ℕ) : Type 0 where
  pub all_ran : length (lists_from most_lists (empty_lists 65536 ++ (b ∷ []))).lists ≡ 65536
  pub too_many : (lists_from most_lists (empty_lists 65536 ++ (b ∷ []))).code ≡ 1
  pub cut_short : (lists_from most_lists (empty_lists 65535 ++ (b ∷ []))).code ≡ 7

abbrev pub EveryMostListsRow : Type 0
EveryMostListsRow = (b : ℕ) → MostListsRow b
