-- An endpoint's twelve words, tested at their places among a table's. Assumes nothing.
use mathlib.Core.Path.{◌≡◌, refl, sym, ap, ◌∙◌}
use mathlib.Core.Bool.{Bool, ◌&&◌}
use mathlib.Core.List.{List}
use Prim.Native.Nat.{ℕ, ◌+◌, ◌-◌, ◌*◌, ◌%◌, ◌<◌, ◌≤◌}
use native.Mathlib.Omega.{arith}
use lib.ListN.{length, get_or, take, drop}
use lib.Seq.{get_or-take, get_or-drop}
use Rattle.machine.specs.Below.{all_below}
use Rattle.machine.specs.Word.{word}
use Rattle.machine.specs.Check.{name_word_ok, info_word_ok, waiting_word_ok, lost_word_ok, slot_word_ok, identity_ok, endpoint_ok}
use Rattle.machine.proofs.Below.{all_same}
use Rattle.input_words.specs.Bytes.{word_at, words_of}
use Rattle.input_words.proofs.WordLaws.{get_d-words_of}
use Rattle.table_words.proofs.Counted.{by_waiting}

-- a word of the bytes
pub nth : (bytes : List ℕ) (i : ℕ) → 4 * i + 4 ≤ length bytes → word_at bytes (4 * i) ≡ get_or (words_of bytes) i 0
nth bytes i there = sym (get_d-words_of i bytes (omega arith))

-- the words of a part of twelve, by their place
part-word : (t : List ℕ) (start k i : ℕ) → k < 12 → start + k ≡ i → get_or (take 12 (drop start t)) k 0 ≡ get_or t i 0
part-word t start k i l e =
    get_or-take 12 (drop start t) k 0 l ∙ get_or-drop start t k 0 ∙ ap (λ (x : ℕ). get_or t x 0) e

-- an endpoint's twelve words, tested at their places
pub endpoint-words : (t : List ℕ) (start n x y : ℕ) → x ≡ get_or t (start + 1) 0 → y ≡ get_or t (start + 2) 0 → ((name_word_ok (get_or t start 0) && info_word_ok n x) && (waiting_word_ok (x % 256) y && lost_word_ok (get_or t (start + 3) 0) && all_below 8 (λ i. slot_word_ok (y - word 5 0) i (get_or t (start + 4 + i) 0)))) ≡ endpoint_ok n (take 12 (drop start t))
unfolding endpoint_ok identity_ok
endpoint-words t start n x y e f =
    let p = take 12 (drop start t) in
    let name : get_or p 0 0 ≡ get_or t start 0 = part-word t start 0 start (omega arith) (omega arith) in
    let info : get_or p 1 0 ≡ x = part-word t start 1 (start + 1) (omega arith) refl ∙ sym e in
    let waits : get_or p 2 0 ≡ y = part-word t start 2 (start + 2) (omega arith) refl ∙ sym f in
    let lost : get_or p 3 0 ≡ get_or t (start + 3) 0 = part-word t start 3 (start + 3) (omega arith) refl in
    rw (sym (by_waiting p), name, info, waits, lost)
    (ap (λ (b : Bool). name_word_ok (get_or t start 0) && info_word_ok n x && (waiting_word_ok (x % 256) y && lost_word_ok (get_or t (start + 3) 0) && b))
    (all_same 8 _ _
    (λ i l. ap (slot_word_ok (y - word 5 0) i) (sym (part-word t start (4 + i) (start + 4 + i) (omega arith) (omega arith))))))
