-- The laws of writing: pieces written one after another are one text written at once (`then`), and what a text that fits
-- leaves of the buffer (`overwrite-fits`). Assumes nothing.
use Prim.Native.Nat.{ℕ, zero, suc, ◌+◌, ◌-◌, ◌≤◌, ◌<◌, min}
use mathlib.Core.Path.{◌≡◌, refl, sym, ap, ◌∙◌}
use mathlib.Core.List.{List, [], ◌∷◌, ◌++◌}
use native.Mathlib.Nat.{suc-add, add-suc, sub-zero, add-sub_cancel_left}
use borrow.Rule.Slice.PartMut.{put_mid}
use native.Mathlib.Decide.{dec_le}
use native.Mathlib.Numerals.{add-one}
use native.Mathlib.Omega.{arith}
use lib.ListN.{length, get_or, take, drop, set, length-append, length-take}
use lib.Seq.{drop-drop, length-take-le, take-suc, take-append_seam}
use Rattle.text.specs.Write.{overwrite, Writes, Fills}

pub length-overwrite : (at : ℕ) (text buffer : List ℕ) → length (overwrite at text buffer) ≡ length buffer
unfolding overwrite
length-overwrite at text [] = refl
length-overwrite zero [] (b ∷ buffer) = refl
length-overwrite zero (c ∷ text) (b ∷ buffer) = ap suc (length-overwrite zero text buffer)
length-overwrite (suc at) text (b ∷ buffer) = ap suc (length-overwrite at text buffer)

pub overwrite-none : (at : ℕ) (buffer : List ℕ) → overwrite at [] buffer ≡ buffer
unfolding overwrite
overwrite-none at [] = refl
overwrite-none zero (b ∷ buffer) = refl
overwrite-none (suc at) (b ∷ buffer) = ap (λ l. b ∷ l) (overwrite-none at buffer)

-- past the buffer's end nothing is written
pub overwrite-past : (at : ℕ) (text buffer : List ℕ) → length buffer ≤ at → overwrite at text buffer ≡ buffer
unfolding overwrite
overwrite-past at text [] h = refl
overwrite-past zero text (b ∷ buffer) h = absurd (omega arith)
overwrite-past (suc at) text (b ∷ buffer) h = ap (λ l. b ∷ l) (overwrite-past at text buffer (omega arith))

-- one byte is a store, also where the index is past the end
pub overwrite-one : (at b : ℕ) (buffer : List ℕ) → overwrite at (b ∷ []) buffer ≡ set buffer at b
unfolding overwrite
overwrite-one at b [] = refl
overwrite-one zero b (c ∷ buffer) = ap (λ l. b ∷ l) (overwrite-none zero buffer)
overwrite-one (suc at) b (c ∷ buffer) = ap (λ l. c ∷ l) (overwrite-one at b buffer)

-- a second text right after the first is both at once
pub overwrite-append : (at : ℕ) (s t buffer : List ℕ)
    → overwrite (at + length s) t (overwrite at s buffer) ≡ overwrite at (s ++ t) buffer
unfolding overwrite
overwrite-append at s t [] = refl
overwrite-append zero [] t (b ∷ buffer) = refl
overwrite-append zero (c ∷ s) t (b ∷ buffer) =
    rw (add-suc zero (length s)) (ap (λ l. c ∷ l) (overwrite-append zero s t buffer))
overwrite-append (suc at) s t (b ∷ buffer) =
    rw (suc-add at (length s)) (ap (λ l. b ∷ l) (overwrite-append at s t buffer))

-- an iteration of a loop that writes a text from its front: the store of one byte more
pub write-next : (at i : ℕ) (text buffer : List ℕ) {left : List ℕ} {k b : ℕ}
    → left ≡ overwrite at (take i text) buffer → i < length text → k ≡ at + i → b ≡ get_or text i 0
    → set left k b ≡ overwrite at (take (i + 1) text) buffer
write-next at i text buffer {left} {k} {b} e h place byte =
    let long : length (take i text) ≡ i = length-take-le i text (omega arith) in
    sym (overwrite-one k b left)
    ∙ ap (λ l. overwrite k (b ∷ []) l) e
    ∙ ap (λ j. overwrite j (b ∷ []) (overwrite at (take i text) buffer)) (place ∙ ap (λ j. at + j) (sym long))
    ∙ overwrite-append at (take i text) (b ∷ []) buffer
    ∙ ap (λ l. overwrite at l buffer)
    (ap (λ x. take i text ++ (x ∷ [])) byte ∙ sym (take-suc text i 0 h) ∙ ap (λ j. take j text) (sym (add-one i)))

-- as many bytes as the text has, or as fit, are all that is written
pub write-all : (at n : ℕ) (text buffer : List ℕ) → min (length text) (length buffer - at) ≤ n
    → overwrite at (take n text) buffer ≡ overwrite at text buffer
unfolding overwrite
write-all at n text [] h = refl
write-all zero zero [] (b ∷ buffer) h = refl
write-all zero zero (c ∷ text) (b ∷ buffer) h = absurd (omega arith)
write-all zero (suc n) [] (b ∷ buffer) h = refl
write-all zero (suc n) (c ∷ text) (b ∷ buffer) h = ap (λ l. c ∷ l) (write-all zero n text buffer (omega arith))
write-all (suc at) n text (b ∷ buffer) h = ap (λ l. b ∷ l) (write-all at n text buffer (omega arith))

-- what a text that fits leaves: the buffer before it, the text, and the buffer after it
pub overwrite-fits : (at : ℕ) (text buffer : List ℕ) → at + length text ≤ length buffer
    → overwrite at text buffer ≡ take at buffer ++ (text ++ drop (at + length text) buffer)
unfolding overwrite
overwrite-fits zero [] [] h = refl
overwrite-fits zero (c ∷ text) [] h = absurd (omega arith)
overwrite-fits (suc at) text [] h = absurd (omega arith)
overwrite-fits zero [] (b ∷ buffer) h = refl
overwrite-fits zero (c ∷ text) (b ∷ buffer) h =
    rw (add-suc zero (length text)) (ap (λ l. c ∷ l) (overwrite-fits zero text buffer (omega arith)))
overwrite-fits (suc at) text (b ∷ buffer) h =
    rw (suc-add at (length text)) (ap (λ l. b ∷ l) (overwrite-fits at text buffer (omega arith)))

-- a part of the buffer that a text of its length was copied to
pub overwrite-part : (at n : ℕ) (text buffer : List ℕ) {part : List ℕ} → part ≡ take n text → n ≤ length text → at + n ≤ length buffer
    → put_mid at (at + n - at) buffer part ≡ overwrite at (take n text) buffer
overwrite-part at n text buffer same there fits =
    let size : length (take n text) ≡ n = length-take-le n text there in
    rw (same, add-sub_cancel_left at n)
    (ap (λ l. take at buffer ++ (take n text ++ l)) (drop-drop n at buffer)
    ∙ sym (overwrite-fits at (take n text) buffer (omega arith)
    ∙ ap (λ k. take at buffer ++ (take n text ++ drop (at + k) buffer)) size))

-- where the index after a text is capped, the next text is past the end in any case
overwrite-capped : (at : ℕ) (text buffer : List ℕ)
    → overwrite (min at (length buffer + 1)) text buffer ≡ overwrite at text buffer
overwrite-capped at text buffer = go (dec_le at (length buffer + 1))
  where
    go : Dec (at ≤ length buffer + 1) → overwrite (min at (length buffer + 1)) text buffer ≡ overwrite at text buffer
    go (yes h) = ap (λ i. overwrite i text buffer) (omega arith)
    go (no h) = overwrite-past _ text buffer (omega arith) ∙ sym (overwrite-past at text buffer (omega arith))

pub writes-length : {at : ℕ} {text buffer : List ℕ} {next : ℕ} {left : List ℕ}
    → Writes at text buffer next left → length left ≡ length buffer
writes-length {at} {text} {buffer} w = ap length w.bytes ∙ length-overwrite at text buffer

-- two texts written one after the other are one text written at once
pub then : {at : ℕ} {s t buffer : List ℕ} {next : ℕ} {left : List ℕ} {next' : ℕ} {left' : List ℕ}
    → Writes at s buffer next left → Writes next t left next' left' → Writes at (s ++ t) buffer next' left'
then {at} {s} {t} {buffer} {next} {left} {next'} {left'} w v =
    let long : length left ≡ length buffer = writes-length w in
    record {
      place = omega (arith, w.place, v.place, long, length-append s t);
      bytes =
          v.bytes
          ∙ ap (λ i. overwrite i t left) (w.place ∙ ap (λ n. min (at + length s) (n + 1)) (sym long))
          ∙ overwrite-capped (at + length s) t left
          ∙ ap (overwrite (at + length s) t) w.bytes
          ∙ overwrite-append at s t buffer;
    }

-- an empty text from an index within the buffer, or one past its length, leaves the buffer and the index as they are
pub writes_nothing : (at : ℕ) (buffer : List ℕ) → at ≤ length buffer + 1 → Writes at [] buffer at buffer
writes_nothing at buffer h = record { place = omega arith; bytes = sym (overwrite-none at buffer) }

-- items past a buffer's length make no difference
pub fills-cut : (n : ℕ) {items buffer : List ℕ} {count : ℕ} {left : List ℕ}
    → length buffer ≤ n → Fills items buffer count left → Fills (take n items) buffer count left
fills-cut n {items} {buffer} h f =
    record {
      count-is = omega (arith, f.count-is, length-take n items);
      items-are = f.items-are ∙ sym (write-all 0 n items buffer (omega arith));
    }

-- items that fit are at the front, as many as the count says
pub fills-front : {items buffer : List ℕ} {count : ℕ} {left : List ℕ}
    → length items ≤ length buffer → Fills items buffer count left → (count ≡ length items) × (take count left ≡ items)
fills-front {items} {buffer} {count} {left} h f =
    let all : count ≡ length items = omega (arith, f.count-is) in (
      all,
      ap (λ k. take k left) all
          ∙ ap (take (length items)) (f.items-are ∙ overwrite-fits 0 items buffer (omega arith))
          ∙ take-append_seam items (drop (0 + length items) buffer),
    )

-- the same as a part that is lent from the front on
pub fills-part : {items buffer : List ℕ} {count : ℕ} {left : List ℕ}
    → length items ≤ length buffer → Fills items buffer count left → take (count - 0) (drop 0 left) ≡ items
fills-part {items} {buffer} {count} {left} h f = ap (λ k. take k left) (sub-zero count) ∙ (fills-front h f).1

-- what a text that fits leaves at the front, as a part that is lent
pub writes-part : {text buffer : List ℕ} {next : ℕ} {left : List ℕ}
    → next ≤ length buffer → Writes 0 text buffer next left → take (next - 0) (drop 0 left) ≡ text
writes-part {text} {buffer} {next} h w =
    let all : next ≡ length text = omega (arith, w.place) in
    fills-part {count = next} (omega arith) (record { count-is = omega arith; items-are = w.bytes })
