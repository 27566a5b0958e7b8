-- Rows that pin which lists bytes give: what is wanted first, what each code is for, and which of two comes first. The most lists
-- that there may be is a field of each row, so that a row can have the last one.
use Rattle.std.specs.Prelude.{ℕ, ◌≡◌, List, [], ◌∷◌, ◌++◌}
use Rattle.input_words.specs.Bytes.{bytes_of}
use Rattle.linetotals_input.specs.Input.{Lists, lists_from}

-- the most lists that may come, the bytes after the table, and what they give
pub record Row : Type 0 where
  pub most : ℕ
  pub bytes : List ℕ
  pub given : Lists

-- every row holds of the definition
abbrev pub EveryRow : List Row → Type 0
EveryRow [] = Unit {0}
EveryRow (r ∷ rs) = (lists_from r.most r.bytes ≡ r.given) × EveryRow rs

-- the rows
abbrev pub rows : List Row
rows =
    -- no byte: no list, a length word is wanted; and one byte where no list may come
    record { most = 65536; bytes = []; given = record { lists = []; code = 0; wanted = 4 } }
    ∷ record { most = 0; bytes = []; given = record { lists = []; code = 0; wanted = 1 } }
    -- an empty list, and one of two words after it
    ∷ record {
      most = 65536;
      bytes = bytes_of (0 ∷ 2 ∷ 0x4080_0000 ∷ 0x5000_0000 ∷ []);
      given = record { lists = [] ∷ (0x4080_0000 ∷ 0x5000_0000 ∷ []) ∷ []; code = 0; wanted = 4 };
    }
    -- 7: a length word cut short, first and after a list
    ∷ record { most = 65536; bytes = 1 ∷ 0 ∷ 0 ∷ []; given = record { lists = []; code = 7; wanted = 1 } }
    ∷ record {
      most = 65536;
      bytes = bytes_of (1 ∷ 7 ∷ []) ++ (0 ∷ []);
      given = record { lists = (7 ∷ []) ∷ []; code = 7; wanted = 3 };
    }
    -- 7: a list cut short; the bytes before the next list are wanted with it
    ∷ record {
      most = 65536;
      bytes = bytes_of (2 ∷ 7 ∷ []) ++ (0 ∷ 0 ∷ []);
      given = record { lists = []; code = 7; wanted = 6 };
    }
    ∷ record { most = 1; bytes = bytes_of (2 ∷ []); given = record { lists = []; code = 7; wanted = 9 } }
    -- 1, before 7: a length word above 4,096 with nothing after it; a list of 4,096 is cut short
    ∷ record { most = 65536; bytes = bytes_of (4097 ∷ []); given = record { lists = []; code = 1; wanted = 0 } }
    ∷ record { most = 65536; bytes = bytes_of (4096 ∷ []); given = record { lists = []; code = 7; wanted = 16388 } }
    -- 1, before 7: one list too many, whether its length word is whole or cut short
    ∷ record {
      most = 1;
      bytes = bytes_of (1 ∷ 7 ∷ 1 ∷ 8 ∷ []);
      given = record { lists = (7 ∷ []) ∷ []; code = 1; wanted = 0 };
    }
    ∷ record {
      most = 1;
      bytes = bytes_of (1 ∷ 7 ∷ []) ++ (1 ∷ []);
      given = record { lists = (7 ∷ []) ∷ []; code = 1; wanted = 0 };
    }
    -- as many lists as may come
    ∷ record {
      most = 2;
      bytes = bytes_of (1 ∷ 7 ∷ 0 ∷ []);
      given = record { lists = (7 ∷ []) ∷ [] ∷ []; code = 0; wanted = 1 };
    }
    ∷ []
