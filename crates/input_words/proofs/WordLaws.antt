-- The laws of bytes as words: how many there are, each of them, and the words of a part; and of words as bytes. Assumes nothing.
use Prim.Native.Nat.{ℕ, zero, suc, ◌+◌, ◌*◌, ◌/◌, ◌%◌, ◌^◌, ◌≤◌, ◌<◌}
use mathlib.Core.Path.{◌≡◌, refl, sym, ap, ap₂, ◌∙◌}
use mathlib.Core.List.{List, [], ◌∷◌, ◌++◌}
use native.Mathlib.Nat.{add_assoc, div-one, mod-eq_of_lt, div-add-mod', div-div-eq-div-mul}
use native.Mathlib.Omega.{arith}
use lib.Dec.{lit<}
use lib.ListN.{length, get_or, take, drop, get_or-eq_default, get_or-append}
use lib.Seq.{get_or-drop, take-append-le}
use Rattle.input_words.specs.Bytes.{word_of, word_at, words_of, bytes_of, EveryLittleEndian}

pub length-words_of : (bytes : List ℕ) → length (words_of bytes) ≡ length bytes / 4
unfolding words_of
length-words_of [] = refl
length-words_of (a ∷ []) = refl
length-words_of (a ∷ b ∷ []) = refl
length-words_of (a ∷ b ∷ c ∷ []) = refl
length-words_of (a ∷ b ∷ c ∷ d ∷ bytes) = omega (arith, length-words_of bytes)

four-times : (k : ℕ) → 4 * suc k ≡ suc (suc (suc (suc (4 * k))))
four-times k = omega arith

pub take-words_of : (k : ℕ) (bytes : List ℕ) → words_of (take (4 * k) bytes) ≡ take k (words_of bytes)
unfolding words_of
take-words_of zero bytes = refl
take-words_of (suc k) [] = rw four-times
take-words_of (suc k) (a ∷ []) = rw four-times
take-words_of (suc k) (a ∷ b ∷ []) = rw four-times
take-words_of (suc k) (a ∷ b ∷ c ∷ []) = rw four-times
take-words_of (suc k) (a ∷ b ∷ c ∷ d ∷ bytes) = rw four-times (ap (λ l. word_of a b c d ∷ l) (take-words_of k bytes))

-- past the end every byte counts as 0
pub word_at_past : (bytes : List ℕ) (at : ℕ) → length bytes ≤ at → word_at bytes at ≡ 0
word_at_past bytes at h =
    let none : (k : ℕ) → get_or bytes (at + k) 0 ≡ 0 = λ k. get_or-eq_default bytes 0 (omega arith) in
    let first : get_or bytes at 0 ≡ 0 = get_or-eq_default bytes 0 h in
    simp (first, none)

-- a word of a part is a word of the whole
pub word_at-drop : (k at : ℕ) (bytes : List ℕ) → word_at (drop k bytes) at ≡ word_at bytes (k + at)
word_at-drop k at bytes = simp (get_or-drop, add_assoc)

-- word i is the word at byte 4 i
pub get_d-words_of : (i : ℕ) (bytes : List ℕ) → i < length bytes / 4 → get_or (words_of bytes) i 0 ≡ word_at bytes (4 * i)
unfolding words_of
get_d-words_of i [] h = absurd (omega arith)
get_d-words_of i (a ∷ []) h = absurd (omega arith)
get_d-words_of i (a ∷ b ∷ []) h = absurd (omega arith)
get_d-words_of i (a ∷ b ∷ c ∷ []) h = absurd (omega arith)
get_d-words_of zero (a ∷ b ∷ c ∷ d ∷ bytes) h = refl
get_d-words_of (suc i) (a ∷ b ∷ c ∷ d ∷ bytes) h =
    let next : 4 + 4 * i ≡ 4 * suc i = omega arith in
    get_d-words_of i bytes (omega arith)
    ∙ word_at-drop 4 (4 * i) (a ∷ b ∷ c ∷ d ∷ bytes)
    ∙ ap (word_at (a ∷ b ∷ c ∷ d ∷ bytes)) next

-- bytes that follow make no difference to a word that is whole, nor to the words before them
pub word_at-append : (bytes more : List ℕ) (at : ℕ) → at + 4 ≤ length bytes → word_at (bytes ++ more) at ≡ word_at bytes at
word_at-append bytes more at h =
    let kept : (k : ℕ) → k < 4 → get_or (bytes ++ more) (at + k) 0 ≡ get_or bytes (at + k) 0 =
    λ k l. get_or-append bytes more 0 (at + k) (omega arith) in
    simp (get_or-append bytes more 0 at (omega arith), kept 1 (lit< tt), kept 2 (lit< tt), kept 3 (lit< tt))

pub take-words_of-append : (k : ℕ) (bytes more : List ℕ) → 4 * k ≤ length bytes
    → take k (words_of (bytes ++ more)) ≡ take k (words_of bytes)
take-words_of-append k bytes more h =
    sym (take-words_of k (bytes ++ more)) ∙ ap words_of (take-append-le (4 * k) bytes more h) ∙ take-words_of k bytes

-- a word of 32 bits is made of its four bytes
joined : (w a b c p q r : ℕ) → a * 256 + p ≡ w → b * 256 + q ≡ a → c * 256 + r ≡ b → word_of p q r c ≡ w
joined w a b c p q r e f g = omega arith

pub word-of-bytes : (w : ℕ) → w < 2 ^ 32 → word_of (w % 256) (w / 256 % 256) (w / 65536 % 256) (w / 16777216 % 256) ≡ w
word-of-bytes w h =
    let top : w / 16777216 < 256 = omega arith in
    rw (mod-eq_of_lt top)
    (joined w (w / 256) (w / 65536) (w / 16777216) (w % 256) (w / 256 % 256) (w / 65536 % 256) (div-add-mod' w 256)
    (rw (div-div-eq-div-mul w 256 256) at (div-add-mod' (w / 256) 256))
    (rw (div-div-eq-div-mul w 65536 256) at (div-add-mod' (w / 65536) 256)))

-- so the bytes of words have those words
pub words_of-bytes_of : (ws : List ℕ) → ((i : ℕ) → get_or ws i 0 < 2 ^ 32) → words_of (bytes_of ws) ≡ ws
unfolding words_of bytes_of
words_of-bytes_of [] h = refl
words_of-bytes_of (w ∷ ws) h = ap₂ ◌∷◌ (word-of-bytes w (h 0)) (words_of-bytes_of ws (λ i. h (suc i)))

pub length-bytes_of : (ws : List ℕ) → length (bytes_of ws) ≡ 4 * length ws
unfolding bytes_of
length-bytes_of [] = refl
length-bytes_of (w ∷ ws) = let ih = length-bytes_of ws in omega arith

-- byte k of word i
byte-of-word : (ws : List ℕ) (i k : ℕ) → i < length ws → k < 4 → get_or (bytes_of ws) (4 * i + k) 0 ≡ get_or ws i 0 / 256 ^ k % 256
unfolding bytes_of
byte-of-word [] i k l few = absurd (omega arith)
byte-of-word (w ∷ ws) zero zero l few = ap (λ x. x % 256) (sym (div-one w))
byte-of-word (w ∷ ws) zero (suc zero) l few = refl
byte-of-word (w ∷ ws) zero (suc (suc zero)) l few = refl
byte-of-word (w ∷ ws) zero (suc (suc (suc zero))) l few = refl
byte-of-word (w ∷ ws) zero (suc (suc (suc (suc k)))) l few = absurd (omega arith)
byte-of-word (w ∷ ws) (suc i) k l few =
    let place : 4 * suc i + k ≡ suc (suc (suc (suc (4 * i + k)))) = omega arith in
    rw place (byte-of-word ws i k (omega arith) few)

pub little_endian : EveryLittleEndian
little_endian ws words = record { four = length-bytes_of ws; byte_is = byte-of-word ws; back = words_of-bytes_of ws words }
