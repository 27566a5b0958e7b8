-- Rows that pin the fields of a call and what each call reads and writes by them: every bit of a spare field and of the
-- caller, every unknown kind, which words make one call, which right each call requires, the sets that a grant, a remove and
-- a revoke take, and a queue through all its slots. Worked out by hand from documents 01
-- and 02.
use Rattle.std.specs.Prelude.{ℕ, ◌+◌, ◌*◌, List, [], ◌∷◌, ◌++◌, set}
use Rattle.machine.specs.Examples.{Row, Row.leaves, space_of}
use Rattle.machine.specs.CodeExamples.{Answered, Answered.answered, call_words, call_answers, four_domains}

-- calls of one word each that are all answered alike, with no data
unfoldable pub each : List ℕ → ℕ → List Answered
each [] a = []
each (w ∷ ws) a = answered (w ∷ []) (a ∷ 0 ∷ 0 ∷ []) ∷ each ws a

-- 13: each bit of each spare field of a look up; the lowest and the highest bit of the other calls' spare fields
abbrev pub spare_fields : List Answered
spare_fields =
    each
    (0x1000_0001 ∷ 0x1000_0002 ∷ 0x1000_0004 ∷ 0x1000_0008 ∷ 0x1000_0010 ∷ 0x1000_0020 ∷ 0x1000_0040 ∷ 0x1000_0080
    ∷ 0x1000_0100 ∷ 0x1000_0200 ∷ 0x1000_0400 ∷ 0x1000_0800 ∷ 0x1000_1000 ∷ 0x1000_2000 ∷ 0x1000_4000 ∷ 0x1000_8000
    ∷ 0x1001_0000 ∷ 0x1002_0000 ∷ 0x1004_0000 ∷ 0x1008_0000 ∷ 0x1010_0000 ∷ 0x1020_0000 ∷ [])
    0x1000_000D
    ++ each (0x2001_0000 ∷ 0x2020_0000 ∷ 0x2000_0001 ∷ 0x2000_0080 ∷ []) 0x2000_000D
    ++ each (0x3001_0000 ∷ 0x3020_0000 ∷ 0x3000_0001 ∷ 0x3000_0080 ∷ []) 0x3000_000D
    ++ each (0x4001_0000 ∷ 0x4020_0000 ∷ 0x4000_0100 ∷ 0x4000_8000 ∷ 0x4000_0001 ∷ 0x4000_0080 ∷ []) 0x4000_000D
    ++ each (0x5001_0000 ∷ 0x5020_0000 ∷ 0x5000_0100 ∷ 0x5000_8000 ∷ 0x5000_0001 ∷ 0x5000_0080 ∷ []) 0x5000_000D
    ++ each (0x7001_0101 ∷ 0x7001_8001 ∷ []) 0x7000_000D

-- 11, for every unknown kind, with a stray after it; and 12, for callers that differ in one bit from domain 0
abbrev pub unknowns : List Answered
unknowns =
    answered (0x0000_0000 ∷ 0xF000_0001 ∷ []) (0x0000_000B ∷ 0 ∷ 0 ∷ 0xF000_000A ∷ 0 ∷ 0 ∷ [])
    ∷ answered (0x9000_0000 ∷ 0xF000_0001 ∷ []) (0x9000_000B ∷ 0 ∷ 0 ∷ 0xF000_000A ∷ 0 ∷ 0 ∷ [])
    ∷ answered (0xA000_0000 ∷ 0xF000_0001 ∷ []) (0xA000_000B ∷ 0 ∷ 0 ∷ 0xF000_000A ∷ 0 ∷ 0 ∷ [])
    ∷ answered (0xB000_0000 ∷ 0xF000_0001 ∷ []) (0xB000_000B ∷ 0 ∷ 0 ∷ 0xF000_000A ∷ 0 ∷ 0 ∷ [])
    ∷ answered (0xC000_0000 ∷ 0xF000_0001 ∷ []) (0xC000_000B ∷ 0 ∷ 0 ∷ 0xF000_000A ∷ 0 ∷ 0 ∷ [])
    ∷ answered (0xD000_0000 ∷ 0xF000_0001 ∷ []) (0xD000_000B ∷ 0 ∷ 0 ∷ 0xF000_000A ∷ 0 ∷ 0 ∷ [])
    ∷ answered (0xE000_0000 ∷ 0xF000_0001 ∷ []) (0xE000_000B ∷ 0 ∷ 0 ∷ 0xF000_000A ∷ 0 ∷ 0 ∷ [])
    ∷ answered (0x4100_0000 ∷ []) (0x4100_000C ∷ 0 ∷ 0 ∷ [])
    ∷ answered (0x4200_0000 ∷ []) (0x4200_000C ∷ 0 ∷ 0 ∷ [])
    ∷ answered (0x4400_0000 ∷ []) (0x4400_000C ∷ 0 ∷ 0 ∷ [])
    ∷ answered (0x4800_0000 ∷ []) (0x4800_000C ∷ 0 ∷ 0 ∷ [])
    ∷ []

-- the split: a stray after each known kind that takes no second word, and after another stray. A look up and a send that are
-- followed by a word of a kind other than 15 have no second word
abbrev pub splitting : List Answered
splitting =
    answered (0x3080_0000 ∷ 0xF000_0001 ∷ []) (0x3080_0012 ∷ 0 ∷ 0 ∷ 0xF000_000A ∷ 0 ∷ 0 ∷ [])
    ∷ answered (0x40C0_0000 ∷ 0xF000_0001 ∷ []) (0x40C0_0000 ∷ 0 ∷ 0 ∷ 0xF000_000A ∷ 0 ∷ 0 ∷ [])
    ∷ answered (0x50C0_0000 ∷ 0xF000_0001 ∷ []) (0x50C0_0000 ∷ 0xF040 ∷ 0 ∷ 0xF000_000A ∷ 0 ∷ 0 ∷ [])
    ∷ answered (0x6000_0000 ∷ 0xF000_0001 ∷ []) (0x6000_0015 ∷ 0 ∷ 0 ∷ 0xF000_000A ∷ 0 ∷ 0 ∷ [])
    ∷ answered (0x7000_0000 ∷ 0xF000_0001 ∷ []) (0x7000_0015 ∷ 0 ∷ 0 ∷ 0xF000_000A ∷ 0 ∷ 0 ∷ [])
    ∷ answered (0x8000_0000 ∷ 0xF000_0001 ∷ []) (0x8000_0015 ∷ 0 ∷ 0 ∷ 0xF000_000A ∷ 0 ∷ 0 ∷ [])
    ∷ answered (0xFFC0_0000 ∷ 0xF000_0001 ∷ []) (0xF000_000A ∷ 0 ∷ 0 ∷ 0xF000_000A ∷ 0 ∷ 0 ∷ [])
    ∷ answered (0x1000_0000 ∷ 0xE000_0006 ∷ []) (0x1000_000E ∷ 0 ∷ 0 ∷ 0xE000_000B ∷ 0 ∷ 0 ∷ [])
    ∷ answered (0x1000_0000 ∷ 0x7000_0000 ∷ []) (0x1000_000E ∷ 0 ∷ 0 ∷ 0x7000_0015 ∷ 0 ∷ 0 ∷ [])
    ∷ answered (0x2000_0000 ∷ 0x1000_0000 ∷ 0xF000_0005 ∷ []) (0x2000_000E ∷ 0 ∷ 0 ∷ 0x1000_0000 ∷ 1 ∷ 0 ∷ [])
    ∷ []

-- four domains in which 3 has REMOVE alone on 1 and every right on itself, 1 has GRANT alone on 0 and none on itself, and 0 has
-- SEND on 3
abbrev pub one_right : List ℕ
one_right = set (set (set (set four_domains 4 0x2000_0001) 6 0x2000_0000) 14 0x2000_0004) 16 0x2000_000F

-- which right a call requires: calls on that table
abbrev pub right_asked : List Answered
right_asked =
    -- 17: GRANT on the owner, or REMOVE on it, is not SEND
    answered (0x2040_0100 ∷ 0xF000_0001 ∷ []) (0x2040_0011 ∷ 0 ∷ 0 ∷ [])
    ∷ answered (0x20C0_0000 ∷ 0xF000_0001 ∷ []) (0x20C0_0011 ∷ 0 ∷ 0 ∷ [])
    -- a look up by a name in all of its bits, and 15 where one of them differs
    ∷ answered (0x1040_0000 ∷ 0xFFFF_FFFF ∷ []) (0x1040_0000 ∷ 0 ∷ 0 ∷ [])
    ∷ answered (0x1040_0000 ∷ 0xF7FF_FFFF ∷ []) (0x1040_000F ∷ 0 ∷ 0 ∷ [])
    ∷ answered (0x1040_0000 ∷ 0xF000_0105 ∷ []) (0x1040_000F ∷ 0 ∷ 0 ∷ [])
    -- 16: endpoints that differ in one bit from 0
    ∷ answered (0x3040_0400 ∷ []) (0x3040_0010 ∷ 0 ∷ 0 ∷ [])
    ∷ answered (0x3040_0800 ∷ []) (0x3040_0010 ∷ 0 ∷ 0 ∷ [])
    ∷ answered (0x3040_1000 ∷ []) (0x3040_0010 ∷ 0 ∷ 0 ∷ [])
    ∷ answered (0x3040_2000 ∷ []) (0x3040_0010 ∷ 0 ∷ 0 ∷ [])
    ∷ answered (0x3040_4000 ∷ []) (0x3040_0010 ∷ 0 ∷ 0 ∷ [])
    ∷ answered (0x3040_8000 ∷ []) (0x3040_0010 ∷ 0 ∷ 0 ∷ [])
    -- 18: SEND on the owner is not enough to receive
    ∷ answered (0x3000_0000 ∷ []) (0x3000_0012 ∷ 0 ∷ 0 ∷ [])
    -- 20: a target that differs in one bit from 0, for a grant and for a remove
    ∷ answered (0x6060_0001 ∷ []) (0x6040_0014 ∷ 0 ∷ 0 ∷ [])
    ∷ answered (0x70E0_0001 ∷ []) (0x70C0_0014 ∷ 0 ∷ 0 ∷ [])
    -- 21: a grant of a set that has one bit more
    ∷ answered (0x60C3_031F ∷ []) (0x60C0_0015 ∷ 0 ∷ 0 ∷ [])
    ∷ answered (0x60C3_0311 ∷ []) (0x60C0_0015 ∷ 0 ∷ 0 ∷ [])
    ∷ answered (0x60C3_0381 ∷ []) (0x60C0_0015 ∷ 0 ∷ 0 ∷ [])
    -- 23: no right on the recipient, which has some on the caller
    ∷ answered (0x60C3_0001 ∷ []) (0x60C0_0017 ∷ 0 ∷ 0 ∷ [])
    -- a grant to oneself, by one with no right on itself; GRANT alone and REMOVE alone on the recipient are enough;
    -- every right at once
    ∷ answered (0x6040_0102 ∷ []) (0x6040_0000 ∷ 0 ∷ 0 ∷ [])
    ∷ answered (0x6040_0002 ∷ []) (0x6040_0000 ∷ 0 ∷ 0 ∷ [])
    ∷ answered (0x60C3_010F ∷ []) (0x60C0_0000 ∷ 0 ∷ 0 ∷ [])
    ∷ answered (0x60C3_030F ∷ []) (0x60C0_0000 ∷ 0 ∷ 0 ∷ [])
    -- 17: an owner that was given GRANT on itself has no SEND on itself
    ∷ answered (0x2000_0100 ∷ 0xF000_0001 ∷ []) (0x2000_0011 ∷ 0 ∷ 0 ∷ [])
    ∷ []

-- domain 1 gives domain 3 every right on 3; 3 removes the set r of them, and its rights on 3 are then left
unfoldable pub removed_of_all : ℕ → ℕ → List Answered
removed_of_all r left =
    answered (0x6043_030F ∷ []) (0x6040_0000 ∷ 0 ∷ 0 ∷ [])
    ∷ answered ((0x70C3_0000 + r) ∷ []) (0x70C0_0000 ∷ 0 ∷ 0 ∷ [])
    ∷ answered (0x50C0_0000 ∷ []) (0x50C0_0000 ∷ (0x40 + 0x1000 * left) ∷ 0 ∷ [])
    ∷ []

-- removes by one that holds every right
abbrev pub removes : List Answered
removes =
    -- 21: no right at all, and bits that are no right
    each
    (0x70C3_0000 ∷ 0x70C3_0010 ∷ 0x70C3_0011 ∷ 0x70C3_001F ∷ 0x70C3_0020 ∷ 0x70C3_0022 ∷ 0x70C3_0044 ∷ 0x70C3_0080
    ∷ 0x70C3_0081 ∷ 0x70C3_00FF ∷ [])
    0x70C0_0015
    -- each set there is, out of all of them
    ++ removed_of_all 1 14
    ++ removed_of_all 2 13
    ++ removed_of_all 3 12
    ++ removed_of_all 4 11
    ++ removed_of_all 5 10
    ++ removed_of_all 6 9
    ++ removed_of_all 7 8
    ++ removed_of_all 8 7
    ++ removed_of_all 9 6
    ++ removed_of_all 10 5
    ++ removed_of_all 11 4
    ++ removed_of_all 12 3
    ++ removed_of_all 13 2
    ++ removed_of_all 14 1
    ++ removed_of_all 15 0
    -- 22: REMOVE was cleared with the others; then GRANT is cleared alone, and of a set with it nothing is cleared
    ++ (answered (0x70C3_0004 ∷ []) (0x70C0_0016 ∷ 0 ∷ 0 ∷ []) ∷ [])
    ++ removed_of_all 2 13
    ++ each (0x70C3_0003 ∷ 0x70C3_0006 ∷ 0x70C3_000F ∷ []) 0x70C0_0016
    ++ (answered (0x50C0_0000 ∷ []) (0x50C0_0000 ∷ 0xD040 ∷ 0 ∷ [])
    -- what domain 1 holds is as it was
    ∷ answered (0x5040_0000 ∷ []) (0x5040_0000 ∷ 0xF002 ∷ 0 ∷ [])
    ∷ [])

-- four domains in which 0 has REVOKE alone on 1 and SEND on 2, 1 has SEND on itself, 2 has every right on 1 and REMOVE on itself,
-- and 3 has every right but REVOKE on 1 and REVOKE on itself
abbrev pub revokers : List ℕ
revokers = set (set (set (set four_domains 2 0x2000_0008) 10 0x2000_000F) 14 0x2000_0007) 16 0x2000_0008

-- revokes on that table, with what the holder then holds
abbrev pub revokes : List Answered
revokes =
    -- 12, before 20
    answered (0x8121_0201 ∷ []) (0x8100_000C ∷ 0 ∷ 0 ∷ [])
    -- 20: the target, also by its highest bit, and the holder; before 21
    ∷ answered (0x8004_0200 ∷ []) (0x8000_0014 ∷ 0 ∷ 0 ∷ [])
    ∷ answered (0x8021_0201 ∷ []) (0x8000_0014 ∷ 0 ∷ 0 ∷ [])
    ∷ answered (0x8001_0400 ∷ []) (0x8000_0014 ∷ 0 ∷ 0 ∷ [])
    ∷ answered (0x8001_8201 ∷ []) (0x8000_0014 ∷ 0 ∷ 0 ∷ [])
    -- 21, before 22: no right at all, and bits that are no right
    ∷ answered (0x80C1_0200 ∷ []) (0x80C0_0015 ∷ 0 ∷ 0 ∷ [])
    ∷ answered (0x80C1_0210 ∷ []) (0x80C0_0015 ∷ 0 ∷ 0 ∷ [])
    ∷ answered (0x8001_021F ∷ []) (0x8000_0015 ∷ 0 ∷ 0 ∷ [])
    ∷ answered (0x8001_0281 ∷ []) (0x8000_0015 ∷ 0 ∷ 0 ∷ [])
    -- 22, before 23: every right but REVOKE on the target, and none on the holder
    ∷ answered (0x80C1_0201 ∷ []) (0x80C0_0016 ∷ 0 ∷ 0 ∷ [])
    -- 22: REMOVE on the target is not REVOKE, not for one's own right either
    ∷ answered (0x8082_0204 ∷ []) (0x8080_0016 ∷ 0 ∷ 0 ∷ [])
    -- 23: REVOKE on the target, and no right on the holder, which has the right
    ∷ answered (0x8001_0301 ∷ []) (0x8000_0017 ∷ 0 ∷ 0 ∷ [])
    -- a right that is there, the same once more, and two of which one is there
    ∷ answered (0x8001_0201 ∷ []) (0x8000_0000 ∷ 0 ∷ 0 ∷ [])
    ∷ answered (0x5080_0000 ∷ []) (0x5080_0000 ∷ 0x4E0 ∷ 0 ∷ [])
    ∷ answered (0x8001_0201 ∷ []) (0x8000_0000 ∷ 0 ∷ 0 ∷ [])
    ∷ answered (0x5080_0000 ∷ []) (0x5080_0000 ∷ 0x4E0 ∷ 0 ∷ [])
    ∷ answered (0x8001_0203 ∷ []) (0x8000_0000 ∷ 0 ∷ 0 ∷ [])
    ∷ answered (0x5080_0000 ∷ []) (0x5080_0000 ∷ 0x4C0 ∷ 0 ∷ [])
    -- REVOKE alone is a right on the holder; the holder is the target
    ∷ answered (0x8001_0101 ∷ []) (0x8000_0000 ∷ 0 ∷ 0 ∷ [])
    ∷ answered (0x5040_0000 ∷ []) (0x5040_0000 ∷ 0x002 ∷ 0 ∷ [])
    -- by the holder itself, with no right on itself, of rights that it hasn't got
    ∷ answered (0x8001_0007 ∷ []) (0x8000_0000 ∷ 0 ∷ 0 ∷ [])
    ∷ answered (0x5000_0000 ∷ []) (0x5000_0000 ∷ 0x180 ∷ 0 ∷ [])
    -- by the holder itself: REMOVE goes; then REVOKE itself, and with it the next
    ∷ answered (0x8081_0204 ∷ []) (0x8080_0000 ∷ 0 ∷ 0 ∷ [])
    ∷ answered (0x8081_020F ∷ []) (0x8080_0000 ∷ 0 ∷ 0 ∷ [])
    ∷ answered (0x8081_0208 ∷ []) (0x8080_0016 ∷ 0 ∷ 0 ∷ [])
    ∷ answered (0x5080_0000 ∷ []) (0x5080_0000 ∷ 0x400 ∷ 0 ∷ [])
    -- REVOKE on itself, once
    ∷ answered (0x80C3_0308 ∷ []) (0x80C0_0000 ∷ 0 ∷ 0 ∷ [])
    ∷ answered (0x80C3_0308 ∷ []) (0x80C0_0016 ∷ 0 ∷ 0 ∷ [])
    ∷ answered (0x50C0_0000 ∷ []) (0x50C0_0000 ∷ 0x070 ∷ 0 ∷ [])
    ∷ []

-- four domains in which 0 has SEND on itself
abbrev pub self_sender : List ℕ
self_sender = set four_domains 1 0x2000_0001

-- an endpoint of capacity 8 in which two wait: six more fill it, the next two push out those two and the lost count reaches
-- its largest and stays there, then four are received in FIFO order, and one is sent after the first of them
abbrev pub whole_queue : List Answered
whole_queue =
    answered (0x2000_0200 ∷ 0xFFFF_FFFF ∷ []) (0x2000_0000 ∷ 0 ∷ 0 ∷ [])
    ∷ answered (0x2000_0200 ∷ 0xF800_0000 ∷ []) (0x2000_0000 ∷ 0 ∷ 0 ∷ [])
    ∷ answered (0x2000_0200 ∷ 0xF001_0000 ∷ []) (0x2000_0000 ∷ 0 ∷ 0 ∷ [])
    ∷ answered (0x2000_0200 ∷ 0xF000_0100 ∷ []) (0x2000_0000 ∷ 0 ∷ 0 ∷ [])
    ∷ answered (0x2000_0200 ∷ 0xF000_0000 ∷ []) (0x2000_0000 ∷ 0 ∷ 0 ∷ [])
    ∷ answered (0x2000_0200 ∷ 0xF000_0008 ∷ []) (0x2000_0000 ∷ 0 ∷ 0 ∷ [])
    ∷ answered (0x2000_0200 ∷ 0xF000_0009 ∷ []) (0x2000_0000 ∷ 0 ∷ 0 ∷ [])
    ∷ answered (0x2000_0200 ∷ 0xF000_000A ∷ []) (0x2000_0000 ∷ 0 ∷ 0 ∷ [])
    ∷ answered (0x3000_0200 ∷ []) (0x3000_0000 ∷ 0x0FFF_FFFF ∷ 0x0FFF_FFFF ∷ [])
    ∷ answered (0x2000_0200 ∷ 0xF000_000B ∷ []) (0x2000_0000 ∷ 0 ∷ 0 ∷ [])
    ∷ answered (0x3000_0200 ∷ []) (0x3000_0000 ∷ 0x0800_0000 ∷ 0x0FFF_FFFF ∷ [])
    ∷ answered (0x3000_0200 ∷ []) (0x3000_0000 ∷ 0x0001_0000 ∷ 0x0FFF_FFFF ∷ [])
    ∷ answered (0x3000_0200 ∷ []) (0x3000_0000 ∷ 0x0000_0100 ∷ 0x0FFF_FFFF ∷ [])
    ∷ []

abbrev pub field_rows : List Row
field_rows =
    leaves four_domains (call_words spare_fields) (space_of 132) (space_of 4)
    (record { code = 0; calls = 44; table = four_domains; answers = call_answers spare_fields; holders = 2 ∷ 7 ∷ 5 ∷ 0 ∷ [] })
    ∷ leaves one_right (call_words (unknowns ++ splitting)) (space_of 114) (space_of 4)
    (record {
      code = 0;
      calls = 38;
      table = one_right;
      answers = call_answers (unknowns ++ splitting);
      holders = 2 ∷ 13 ∷ 5 ∷ 9 ∷ [];
    })
    -- what was given: GRANT on 0 to 0, and every right on 3 to 1
    ∷ leaves one_right (call_words right_asked) (space_of 69) (space_of 4)
    (record {
      code = 0;
      calls = 23;
      table = set (set one_right 1 0x2000_0002) 8 0x2000_000F;
      answers = call_answers right_asked;
      holders = 3 ∷ 13 ∷ 5 ∷ 11 ∷ [];
    })
    ∷ leaves (set one_right 8 0x2000_000F) (call_words removes) (space_of 192) (space_of 4)
    (record {
      code = 0;
      calls = 64;
      table = set (set one_right 8 0x2000_000F) 16 0x2000_000D;
      answers = call_answers removes;
      holders = 2 ∷ 13 ∷ 5 ∷ 11 ∷ [];
    })
    -- the queue has five left, from message 0 on, and three free slots
    ∷ leaves (set self_sender 44 0x6FFF_FFFE) (call_words whole_queue) (space_of 39) (space_of 4)
    (record {
      code = 0;
      calls = 13;
      table =
          set
          (set
          (set
          (set (set (set (set self_sender 44 0x6FFF_FFFF) 43 0x5000_0005) 45 0xF000_0000) 46 0xF000_0008)
          47 0xF000_0009)
          48 0xF000_000A)
          49 0xF000_000B;
      answers = call_answers whole_queue;
      holders = 3 ∷ 7 ∷ 5 ∷ 0 ∷ [];
    })
    -- what was revoked: SEND of 1 on itself, all of 2 on 1, REVOKE of 3 on itself
    ∷ leaves revokers (call_words revokes) (space_of 87) (space_of 4)
    (record {
      code = 0;
      calls = 29;
      table = set (set (set revokers 6 0x2000_0000) 10 0x2000_0000) 16 0x2000_0000;
      answers = call_answers revokes;
      holders = 2 ∷ 9 ∷ 5 ∷ 0 ∷ [];
    })
    ∷ []
