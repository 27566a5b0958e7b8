-- Rows that pin the definitions on words that no check accepts: a word past the end reads as 0, a field is all of its bits, and a
-- send or a receive leaves what its row doesn't name. Worked out by hand. No run is of such a table, since its entry refuses
-- it: what a function does with such words is said by its own contract, and by these rows only where that cites the definition.
use Rattle.std.specs.Prelude.{ℕ, ◌≡◌, List, [], ◌∷◌, set}
use Rattle.machine.specs.Table.{rights}
use Rattle.machine.specs.Queue.{sent, received}
use Rattle.machine.specs.Call.{split}
use Rattle.machine.specs.Run.{run, answers}
use Rattle.machine.specs.CodeExamples.{Answered, Answered.answered, call_words, call_answers, four_domains}

-- twelve words with a message in every slot, for a waiting word and a lost word
abbrev pub filled : ℕ → ℕ → List ℕ
filled w l =
    0x3000_0001 ∷ 0x4000_0008 ∷ w ∷ l
    ∷ 0xF000_0001 ∷ 0xF000_0002 ∷ 0xF000_0003 ∷ 0xF000_0004 ∷ 0xF000_0005 ∷ 0xF000_0006 ∷ 0xF000_0007 ∷ 0xF000_0008 ∷ []

-- calls on a table of one word, of four domains and one endpoint, which reads as name 0, owner 0, capacity 0 and empty
abbrev pub on_one_word : List Answered
on_one_word =
    answered (0x10C0_0000 ∷ 0xF000_0000 ∷ []) (0x10C0_0000 ∷ 0 ∷ 0 ∷ [])
    ∷ answered (0x10C0_0000 ∷ 0xF000_0001 ∷ []) (0x10C0_000F ∷ 0 ∷ 0 ∷ [])
    ∷ answered (0x20C0_0000 ∷ 0xF000_0001 ∷ []) (0x20C0_0011 ∷ 0 ∷ 0 ∷ [])
    ∷ answered (0x2000_0000 ∷ 0xF000_0001 ∷ []) (0x2000_0011 ∷ 0 ∷ 0 ∷ [])
    ∷ answered (0x3000_0000 ∷ []) (0x3000_0013 ∷ 0 ∷ 0 ∷ [])
    ∷ answered (0x4000_0000 ∷ []) (0x4000_0000 ∷ 1 ∷ 0 ∷ [])
    ∷ answered (0x5000_0000 ∷ []) (0x5000_0000 ∷ 0 ∷ 0 ∷ [])
    ∷ answered (0x6000_0001 ∷ []) (0x6000_0016 ∷ 0 ∷ 0 ∷ [])
    ∷ answered (0x7000_0001 ∷ []) (0x7000_0016 ∷ 0 ∷ 0 ∷ [])
    ∷ answered (0x8000_0001 ∷ []) (0x8000_0016 ∷ 0 ∷ 0 ∷ [])
    ∷ []

-- what the rows are about
pub record OfAnyWords : Type 0 where
  -- a receive where two wait: the second slot becomes free, and those after it stay
  pub two_wait : List ℕ
  -- a receive and a send where 258 wait, by the waiting word, and the capacity is 8: the newcomer finds no slot
  pub many_wait : List ℕ
  pub many_wait_and_one : List ℕ
  -- a send where five wait and the capacity is 3: the oldest is pushed out, five wait again, and the slots after them stay
  pub five_of_three : List ℕ
  -- the rights that a word holds with bits set above the rights
  pub wide_rights : ℕ
  -- calls on one word, their answers and what is left; and a caller on no word at all
  pub one_word : List ℕ
  pub left : List ℕ
  pub no_word : List ℕ

-- their values by the definitions
unfoldable pub of_any_words : OfAnyWords
of_any_words =
    record {
      two_wait = received (filled 0x5000_0002 0x6000_0000);
      many_wait = received (filled 0x5000_0102 0x6000_0000);
      many_wait_and_one = sent (filled 0x5000_0102 0x6000_0000) 9;
      five_of_three = sent (set (filled 0x5000_0005 0x6000_0000) 1 0x4000_0003) 9;
      wide_rights = rights (set four_domains 2 0x2800_0103) 0 1;
      one_word = answers (0x1000_0401 ∷ []) (split (call_words on_one_word));
      left = run (0x1000_0401 ∷ []) (split (call_words on_one_word));
      no_word = answers [] (split (0x4000_0000 ∷ []));
    }

-- the values that they must have
abbrev pub AnyWordsHold : Type 0
AnyWordsHold =
    of_any_words
    ≡ record {
      two_wait =
          0x3000_0001 ∷ 0x4000_0008 ∷ 0x5000_0001 ∷ 0x6000_0000
          ∷ 0xF000_0002 ∷ 0xF000_0000 ∷ 0xF000_0003 ∷ 0xF000_0004 ∷ 0xF000_0005 ∷ 0xF000_0006 ∷ 0xF000_0007 ∷ 0xF000_0008 ∷ [];
      many_wait =
          0x3000_0001 ∷ 0x4000_0008 ∷ 0x5000_0101 ∷ 0x6000_0000
          ∷ 0xF000_0002 ∷ 0xF000_0003 ∷ 0xF000_0004 ∷ 0xF000_0005 ∷ 0xF000_0006 ∷ 0xF000_0007 ∷ 0xF000_0008 ∷ 0xF000_0000 ∷ [];
      many_wait_and_one =
          0x3000_0001 ∷ 0x4000_0008 ∷ 0x5000_0102 ∷ 0x6000_0001
          ∷ 0xF000_0002 ∷ 0xF000_0003 ∷ 0xF000_0004 ∷ 0xF000_0005 ∷ 0xF000_0006 ∷ 0xF000_0007 ∷ 0xF000_0008 ∷ 0xF000_0000 ∷ [];
      five_of_three =
          0x3000_0001 ∷ 0x4000_0003 ∷ 0x5000_0005 ∷ 0x6000_0001
          ∷ 0xF000_0002 ∷ 0xF000_0003 ∷ 0xF000_0004 ∷ 0xF000_0005 ∷ 0xF000_0009 ∷ 0xF000_0006 ∷ 0xF000_0007 ∷ 0xF000_0008 ∷ [];
      wide_rights = 0x0800_0103;
      one_word = call_answers on_one_word;
      left = 0x1000_0401 ∷ [];
      no_word = 0x4000_000C ∷ 0 ∷ 0 ∷ [];
    }
