-- Rows that pin down the results of writing: calls, how many are passed, the lent words, and the whole result. Worked out by hand
-- from document 01, 'The calls', and document 02, (c).
use Rattle.std.specs.Prelude.{ℕ, ◌≡◌, List, [], ◌∷◌, ◌++◌, map, replicate}
use Rattle.calls.specs.declared.Call.{Call}
use Rattle.calls.specs.declared.Call.TheVariants.{LookUp, Send, Receive, MyEndpoints, MyRights, Grant, Remove, Revoke, Refused}
use Rattle.calls.specs.declared.Refusal.TheVariants.{Stray, NoSecondWord}
use Rattle.writer_theory.specs.Write.{WriteOutcome, refusal, writing}

-- a row: the result of writing so many calls into these words
pub record Row : Type 0 where
  pub calls : List Call
  pub count : ℕ
  pub list : List ℕ
  pub leaves : WriteOutcome

-- every row holds of the definition
abbrev pub EveryRow : List Row → Type 0
EveryRow [] = Unit {0}
EveryRow (r ∷ rs) = (writing r.calls r.count r.list ≡ r.leaves) × EveryRow rs

-- a call of each kind, in ten words
abbrev pub each_kind : List Call
each_kind =
    LookUp 1 0x11 ∷ Send 0 1 5 ∷ Receive 2 1 ∷ MyEndpoints 2 ∷ MyRights 0 ∷ Grant 1 2 0 1 ∷ Remove 1 2 4 ∷ Revoke 1 2 0 8 ∷ []

abbrev pub each_kind_words : List ℕ
each_kind_words =
    0x1040_0000 ∷ 0xF000_0011
    ∷ 0x2000_0100 ∷ 0xF000_0005
    ∷ 0x3080_0100
    ∷ 0x4080_0000
    ∷ 0x5000_0000
    ∷ 0x6042_0001
    ∷ 0x7042_0004
    ∷ 0x8042_0008
    ∷ []

-- name 0, C 0, and every field at its largest: no table is read
abbrev pub no_table : List Call
no_table =
    LookUp 63 0 ∷ Send 63 255 268435455 ∷ Receive 63 255 ∷ MyEndpoints 63 ∷ MyRights 63 ∷ Grant 63 63 255 255
    ∷ Remove 63 63 255 ∷ Remove 0 0 0 ∷ Revoke 63 63 255 255 ∷ []

abbrev pub no_table_words : List ℕ
no_table_words =
    0x1FC0_0000 ∷ 0xF000_0000
    ∷ 0x2FC0_FF00 ∷ 0xFFFF_FFFF
    ∷ 0x3FC0_FF00
    ∷ 0x4FC0_0000
    ∷ 0x5FC0_0000
    ∷ 0x6FFF_FFFF
    ∷ 0x7FFF_00FF
    ∷ 0x7000_0000
    ∷ 0x8FFF_FFFF
    ∷ []

-- each field of each kind one above its bits, and refused calls
abbrev pub bad_calls : List Call
bad_calls =
    LookUp 64 0 ∷ LookUp 0 268435456
    ∷ Send 64 0 0 ∷ Send 0 256 0 ∷ Send 0 0 268435456
    ∷ Receive 64 0 ∷ Receive 0 256
    ∷ MyEndpoints 64 ∷ MyRights 64
    ∷ Grant 64 0 0 0 ∷ Grant 0 64 0 0 ∷ Grant 0 0 256 0 ∷ Grant 0 0 0 256
    ∷ Remove 64 0 0 ∷ Remove 0 64 0 ∷ Remove 0 0 256
    ∷ Revoke 64 0 0 0 ∷ Revoke 0 64 0 0 ∷ Revoke 0 0 256 0 ∷ Revoke 0 0 0 256
    ∷ Refused 0 Stray ∷ Refused 0 NoSecondWord
    ∷ []

-- each of these is refused by 30 as the third of four calls, and no word is written
abbrev pub EveryBadCall : Type 0
EveryBadCall =
    map (λ (c : Call). writing (MyRights 0 ∷ Send 0 1 5 ∷ c ∷ MyRights 64 ∷ []) 4 (7 ∷ 8 ∷ 9 ∷ [])) bad_calls
    ≡ replicate 22 (refusal 30 2 (7 ∷ 8 ∷ 9 ∷ []))

abbrev pub rows : List Row
rows =
    record { calls = each_kind; count = 8; list = replicate 12 7; leaves = record { code = 0; number = 10; list = each_kind_words ++ (7 ∷ 7 ∷ []) } }
    ∷ record { calls = no_table; count = 9; list = replicate 11 7; leaves = record { code = 0; number = 11; list = no_table_words } }
    -- 31: a space that is too short by one word
    ∷ record { calls = each_kind; count = 8; list = replicate 9 7; leaves = refusal 31 0 (replicate 9 7) }
    -- 30 before 31: a bad call and no space at all
    ∷ record { calls = Send 0 1 5 ∷ MyRights 64 ∷ []; count = 2; list = []; leaves = refusal 30 1 [] }
    -- 31: a count above 4,096
    ∷ record { calls = MyRights 0 ∷ []; count = 4097; list = 7 ∷ []; leaves = refusal 31 0 (7 ∷ []) }
    -- exactly 4,096 words, and one word more
    ∷ record {
      calls = replicate 4096 (MyRights 0);
      count = 4096;
      list = replicate 4097 7;
      leaves = record { code = 0; number = 4096; list = replicate 4096 0x5000_0000 ++ (7 ∷ []) };
    }
    ∷ record {
      calls = replicate 4095 (MyRights 0) ++ (Send 0 1 5 ∷ []);
      count = 4096;
      list = replicate 4097 7;
      leaves = refusal 31 0 (replicate 4097 7);
    }
    ∷ []
