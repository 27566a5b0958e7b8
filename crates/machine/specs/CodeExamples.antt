-- Rows that pin what L and P1 to P12 leave open: every code from 10 to 23 with its order, what each call answers, a table
-- in which the caller, the target and the owner differ, and the edges of the entry. Inputs and outcomes are literals, worked
-- out from the paper by hand, never by the definitions.
use Rattle.std.specs.Prelude.{ℕ, List, [], ◌∷◌, ◌++◌, set, replicate}
use Rattle.machine.specs.Examples.{Row, Row.leaves, space_of, unchanged, T}

-- a call's words and its answer's
pub data Answered : Type 0 where
  answered : (words answer : List ℕ) → Answered

abbrev pub call_words : List Answered → List ℕ
call_words [] = []
call_words (answered ws _ ∷ rest) = ws ++ call_words rest

abbrev pub call_answers : List Answered → List ℕ
call_answers [] = []
call_answers (answered _ a ∷ rest) = a ++ call_answers rest

-- four domains: 0 has SEND and GRANT on 1 and SEND on 2, 1 has GRANT on 0 and SEND on itself, 2 has SEND and REMOVE on 1 and
-- REMOVE on itself; endpoint 0 is 1's, holds one message of two and has lost as many as it can count; endpoints 1 and 2 are
-- 0's
abbrev pub four_domains : List ℕ
four_domains =
    (0x1000_0403
    ∷ 0x2000_0000 ∷ 0x2000_0003 ∷ 0x2000_0001 ∷ 0x2000_0000
    ∷ 0x2000_0002 ∷ 0x2000_0001 ∷ 0x2000_0000 ∷ 0x2000_0000
    ∷ 0x2000_0000 ∷ 0x2000_0005 ∷ 0x2000_0004 ∷ 0x2000_0000
    ∷ 0x2000_0000 ∷ 0x2000_0000 ∷ 0x2000_0000 ∷ 0x2000_0000
    ∷ [])
    ++ (0x3FFF_FFFF ∷ 0x4000_0102 ∷ 0x5000_0001 ∷ 0x6FFF_FFFF ∷ 0xFABC_DEF1 ∷ 0xF000_0000 ∷ 0xF000_0000 ∷ 0xF000_0000 ∷ 0xF000_0000 ∷ 0xF000_0000 ∷ 0xF000_0000 ∷ 0xF000_0000 ∷ [])
    ++ (0x3000_0005 ∷ 0x4000_0001 ∷ 0x5000_0000 ∷ 0x6000_0000 ∷ 0xF000_0000 ∷ 0xF000_0000 ∷ 0xF000_0000 ∷ 0xF000_0000 ∷ 0xF000_0000 ∷ 0xF000_0000 ∷ 0xF000_0000 ∷ 0xF000_0000 ∷ [])
    ++ (0x3000_0006 ∷ 0x4000_0008 ∷ 0x5000_0002 ∷ 0x6000_0000 ∷ 0xF000_0001 ∷ 0xF000_0002 ∷ 0xF000_0000 ∷ 0xF000_0000 ∷ 0xF000_0000 ∷ 0xF000_0000 ∷ 0xF000_0000 ∷ 0xF000_0000 ∷ [])

-- a call for each code, and for each row of the call table
abbrev pub every_code : List Answered
every_code =
    -- 10: a stray; its answer shows no caller
    answered (0xF0C0_0007 ∷ []) (0xF000_000A ∷ 0 ∷ 0 ∷ [])
    -- 11, before 12: kind 0 from caller 63
    ∷ answered (0x0FC1_0101 ∷ []) (0x0FC0_000B ∷ 0 ∷ 0 ∷ [])
    -- 12, before 13: caller 4
    ∷ answered (0x5101_0000 ∷ []) (0x5100_000C ∷ 0 ∷ 0 ∷ [])
    -- 13, before 14: field C of a send
    ∷ answered (0x2000_0001 ∷ []) (0x2000_000D ∷ 0 ∷ 0 ∷ [])
    -- 14
    ∷ answered (0x1000_0000 ∷ []) (0x1000_000E ∷ 0 ∷ 0 ∷ [])
    -- 14, before 16: a send to endpoint 3
    ∷ answered (0x2000_0300 ∷ []) (0x2000_000E ∷ 0 ∷ 0 ∷ [])
    -- 13, before 16: field A of a receive from endpoint 3
    ∷ answered (0x3001_0300 ∷ []) (0x3000_000D ∷ 0 ∷ 0 ∷ [])
    -- 15: no endpoint is named 7
    ∷ answered (0x10C0_0000 ∷ 0xF000_0007 ∷ []) (0x10C0_000F ∷ 0 ∷ 0 ∷ [])
    -- look up: the endpoint named 6 is 2
    ∷ answered (0x10C0_0000 ∷ 0xF000_0006 ∷ []) (0x10C0_0000 ∷ 2 ∷ 0 ∷ [])
    -- 16, before 17: caller 3 has no right on anybody
    ∷ answered (0x20C0_0300 ∷ 0xF000_0001 ∷ []) (0x20C0_0010 ∷ 0 ∷ 0 ∷ [])
    -- 16, before 18
    ∷ answered (0x3040_0300 ∷ []) (0x3040_0010 ∷ 0 ∷ 0 ∷ [])
    -- 17; and for an owner with no right on itself
    ∷ answered (0x20C0_0000 ∷ 0xF000_0001 ∷ []) (0x20C0_0011 ∷ 0 ∷ 0 ∷ [])
    ∷ answered (0x2000_0100 ∷ 0xF000_0001 ∷ []) (0x2000_0011 ∷ 0 ∷ 0 ∷ [])
    -- 18, before 19
    ∷ answered (0x3040_0100 ∷ []) (0x3040_0012 ∷ 0 ∷ 0 ∷ [])
    -- 19
    ∷ answered (0x3000_0100 ∷ []) (0x3000_0013 ∷ 0 ∷ 0 ∷ [])
    -- a send by a SEND right, with space
    ∷ answered (0x2000_0000 ∷ 0xF000_0009 ∷ []) (0x2000_0000 ∷ 0 ∷ 0 ∷ [])
    -- a send by the owner, which has SEND on itself, to a full queue whose lost count is at its largest: the oldest message is
    -- pushed out
    ∷ answered (0x2040_0000 ∷ 0xF000_000A ∷ []) (0x2040_0000 ∷ 0 ∷ 0 ∷ [])
    -- a receive: the message, and the lost count
    ∷ answered (0x3040_0000 ∷ []) (0x3040_0000 ∷ 9 ∷ 0x0FFF_FFFF ∷ [])
    -- my endpoints: 1 and 2
    ∷ answered (0x4000_0000 ∷ []) (0x4000_0000 ∷ 6 ∷ 0 ∷ [])
    -- my rights: 5 on target 1, 4 on target 2
    ∷ answered (0x5080_0000 ∷ []) (0x5080_0000 ∷ 1104 ∷ 0 ∷ [])
    -- 20: the recipient
    ∷ answered (0x6001_0401 ∷ []) (0x6000_0014 ∷ 0 ∷ 0 ∷ [])
    -- 20, before 21: the target
    ∷ answered (0x6004_0000 ∷ []) (0x6000_0014 ∷ 0 ∷ 0 ∷ [])
    -- 21, before 22
    ∷ answered (0x6003_0210 ∷ []) (0x6000_0015 ∷ 0 ∷ 0 ∷ [])
    -- 21: no right at all
    ∷ answered (0x6001_0200 ∷ []) (0x6000_0015 ∷ 0 ∷ 0 ∷ [])
    -- 22: GRANT is not held
    ∷ answered (0x6002_0201 ∷ []) (0x6000_0016 ∷ 0 ∷ 0 ∷ [])
    -- 22: GRANT is held and the right given is not
    ∷ answered (0x6040_0103 ∷ []) (0x6040_0016 ∷ 0 ∷ 0 ∷ [])
    -- 22, before 23: caller 3 has neither GRANT on the target nor a right on the recipient
    ∷ answered (0x60C1_0201 ∷ []) (0x60C0_0016 ∷ 0 ∷ 0 ∷ [])
    -- 23
    ∷ answered (0x6001_0301 ∷ []) (0x6000_0017 ∷ 0 ∷ 0 ∷ [])
    -- a grant of what the recipient has already
    ∷ answered (0x6001_0201 ∷ []) (0x6000_0000 ∷ 0 ∷ 0 ∷ [])
    -- a grant that adds to it
    ∷ answered (0x6001_0203 ∷ []) (0x6000_0000 ∷ 0 ∷ 0 ∷ [])
    -- 20, before 21
    ∷ answered (0x7084_0000 ∷ []) (0x7080_0014 ∷ 0 ∷ 0 ∷ [])
    -- 21, before 22: no right at all, and a bit more than there are rights; nothing is held on the target
    ∷ answered (0x7080_0000 ∷ []) (0x7080_0015 ∷ 0 ∷ 0 ∷ [])
    ∷ answered (0x7080_0010 ∷ []) (0x7080_0015 ∷ 0 ∷ 0 ∷ [])
    -- 22: REMOVE is held and the right is not; two rights, REMOVE and one that is not held
    ∷ answered (0x7082_0001 ∷ []) (0x7080_0016 ∷ 0 ∷ 0 ∷ [])
    ∷ answered (0x7082_0005 ∷ []) (0x7080_0016 ∷ 0 ∷ 0 ∷ [])
    -- 22: the right is held, or both of two are, and REMOVE is not
    ∷ answered (0x7001_0001 ∷ []) (0x7000_0016 ∷ 0 ∷ 0 ∷ [])
    ∷ answered (0x7001_0003 ∷ []) (0x7000_0016 ∷ 0 ∷ 0 ∷ [])
    -- 13: field B of a remove; before 20, of a remove on target 4
    ∷ answered (0x7081_0101 ∷ []) (0x7080_000D ∷ 0 ∷ 0 ∷ [])
    ∷ answered (0x7004_0101 ∷ []) (0x7000_000D ∷ 0 ∷ 0 ∷ [])
    -- a remove of two rights at once
    ∷ answered (0x7081_0003 ∷ []) (0x7080_0000 ∷ 0 ∷ 0 ∷ [])
    ∷ []

abbrev pub code_rows : List Row
code_rows =
    leaves four_domains (call_words every_code) (space_of 120) (space_of 4)
    (record {
      code = 0;
      calls = 40;
      table = set (set four_domains 10 0x2000_0004) 21 0xF000_000A;
      answers = call_answers every_code;
      holders = 2 ∷ 7 ∷ 5 ∷ 0 ∷ [];
    })
    -- nine domains: a right on target 8 shows in the second data word, and in the word of domain 8
    ∷ leaves (set (0x1000_0900 ∷ replicate 81 0x2000_0000) 9 0x2000_0005) (0x5000_0000 ∷ []) (space_of 3) (space_of 9)
    (record {
      code = 0;
      calls = 1;
      table = set (0x1000_0900 ∷ replicate 81 0x2000_0000) 9 0x2000_0005;
      answers = 0x5000_0000 ∷ 0 ∷ 5 ∷ [];
      holders = replicate 8 0 ++ (1 ∷ []);
    })
    -- 4,096 words are a list, and 4,097 are none, though they make 4,096 calls and whatever the table is
    ∷ leaves T (replicate 4096 0x4080_0000) [] (space_of 3) (unchanged 6 T [] (space_of 3))
    ∷ leaves [] (0x1000_0000 ∷ 0xF000_0011 ∷ replicate 4095 0x4080_0000) [] [] (unchanged 1 [] [] [])
    -- 6: for the holders one word more than there are domains, or none; the table's 5 is tested before it
    ∷ leaves T (0x4080_0000 ∷ []) (space_of 3) (space_of 4) (unchanged 6 T (space_of 3) (space_of 4))
    ∷ leaves T [] [] [] (unchanged 6 T [] [])
    ∷ leaves (set T 22 0x3000_0011) [] [] (space_of 2) (unchanged 5 (set T 22 0x3000_0011) [] (space_of 2))
    ∷ []
