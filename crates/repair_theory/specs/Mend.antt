-- The mending of a table's broken words, without ever adding a right (document 02 (k)): what becomes of each word, the table
-- that results, and for which tables that is enough.
use Rattle.std.specs.Prelude.{ℕ, ◌+◌, ◌*◌, ◌-◌, ◌/◌, ◌%◌, Bool, cond, ◌&&◌, List, ◌∷◌, ◌++◌, length, get_or, take, replicate, eqb, ltb}
use Rattle.machine.specs.Below.{all_below, words_below}
use Rattle.machine.specs.Word.{word}
use Rattle.machine.specs.Table.{domains, endpoints, endpoint}
use Rattle.machine.specs.Queue.{empty_slot}
use Rattle.machine.specs.Check.{rights_word_ok, identity_ok, queue_ok, name_new, header_ok, length_ok}

-- a rights word: a broken one becomes 20000000, which has no right
unfoldable pub mended_rights : ℕ → ℕ
mended_rights w = cond (rights_word_ok w) w (word 2 0)

-- the ten queue words of an endpoint where nothing waits and nothing was lost
abbrev pub empty_queue : List ℕ
empty_queue = word 5 0 ∷ word 6 0 ∷ replicate 8 empty_slot

-- an endpoint's words: with a broken waiting, lost or slot word its queue is emptied, and its name and its info stay
unfoldable pub mended_endpoint : List ℕ → List ℕ
mended_endpoint q = cond (queue_ok q) q (take 2 q ++ empty_queue)

-- where the endpoints' words begin, after word 0 and the rights words of n domains
abbrev pub endpoints_from : ℕ → ℕ
endpoints_from n = 1 + n * n

-- the word at place i once the table is mended: word 0 stays, then follow the rights words, then twelve words an endpoint
unfoldable pub mended_at : List ℕ → ℕ → ℕ
mended_at t i =
    let behind = i - endpoints_from (domains t) in
    cond (eqb i 0) (get_or t 0 0)
    (cond (ltb i (endpoints_from (domains t))) (mended_rights (get_or t i 0))
    (get_or (mended_endpoint (endpoint t (behind / 12))) (behind % 12) 0))

-- the table mended, word by word. With a wrong word 0 or length nothing says where words are, and it stays as it is
unfoldable pub mended : List ℕ → List ℕ
mended t = cond (header_ok t && length_ok t) (words_below (length t) (mended_at t)) t

-- mending is enough: word 0, the length, and each name and info are right, and no name repeats
unfoldable pub mendable : List ℕ → Bool
mendable t =
    header_ok t && length_ok t && all_below (endpoints t) (λ e. identity_ok (domains t) (endpoint t e) && name_new t e)
