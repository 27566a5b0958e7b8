-- What was stored in a part of a buffer stands there: a buffer's first bytes are its front, and then the first bytes stored after it.
use Rattle.std.proofs.Common.{◌≡◌, ℕ, ◌+◌, ◌≤◌, List, ◌++◌, length, take, drop, sym, ap, ◌∙◌, drop_at, length-take-le}
use borrow.Rule.Slice.PartMut.{put_mid, post_of, take_put}
use lib.Seq.{take-add, take-append-le}

-- the first bytes from the part's start on are those that were stored first
pub part_stored : (a k n : ℕ) (xs ys : List ℕ) → a ≤ length xs → n ≤ length ys → take n (drop a (put_mid a k xs ys)) ≡ take n ys
part_stored a k n xs ys within few =
    ap (take n) (drop_at (take a xs) (ys ++ post_of a k xs) a (length-take-le a xs within)) ∙ take-append-le n ys (post_of a k xs) few

-- the front, and the first bytes that were stored after it
pub front-and-more : (a k n : ℕ) (xs ys : List ℕ) → a ≤ length xs → n ≤ length ys → take a xs ++ take n ys ≡ take (a + n) (put_mid a k xs ys)
front-and-more a k n xs ys within few =
    let all = put_mid a k xs ys in
    sym (
    take-add a n all
    ∙ ap (λ l. l ++ take n (drop a all)) (take_put a k xs ys within)
    ∙ ap (λ l. take a xs ++ l) (part_stored a k n xs ys within few)
    )
