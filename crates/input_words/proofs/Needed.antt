-- Bytes that were asked for because they were wanted were needed (specs/TableInput: NeededBy), read by read. Assumes nothing.
use Prim.Native.Nat.{ℕ, ◌+◌, ◌-◌, ◌≤◌, ◌<◌}
use mathlib.Core.Path.{◌≡◌, ap, ◌∙◌}
use mathlib.Core.List.{List, [], ◌++◌}
use native.Mathlib.Decide.{dec_lt}
use native.Mathlib.Omega.{arith}
use lib.ListN.{length, take, drop, length-append, length-take}
use lib.Seq.{take-append-le, take-append-add, take-add}
use Rattle.input_words.specs.TableInput.{NeededBy}

-- no byte at all
pub needed-none : (asks : List ℕ → ℕ) → NeededBy asks []
needed-none asks k l = absurd (omega arith)

-- `asks` is how many more bytes are wanted after any bytes; while fewer follow than that, some are still wanted
module _ (asks : List ℕ → ℕ) (still : (bytes more : List ℕ) → length more < asks bytes → 0 < asks (bytes ++ more)) where
  pub needed-more : (bytes more : List ℕ) → NeededBy asks bytes → length more ≤ asks bytes → NeededBy asks (bytes ++ more)
  needed-more bytes more needed asked k l = go (dec_lt k (length bytes))
    where
      go : Dec (k < length bytes) → 0 < asks (take k (bytes ++ more))
      go (yes h) = rw (take-append-le k bytes more (omega arith)) (needed k h)
      go (no h) =
          let behind = k - length bytes in
          let place : k ≡ length bytes + behind = omega arith in
          rw (place, take-append-add bytes more behind)
          (still bytes (take behind more) (omega (arith, length-take behind more, length-append bytes more)))

-- a buffer of which the first bytes stayed while a read stored its own after them
pub stored : (before after : List ℕ) (have got : ℕ) → take have after ≡ take have before → take (have + got) after ≡ take have before ++ take got (drop have after)
stored before after have got kept = take-add have got after ∙ ap (λ (l : List ℕ). l ++ take got (drop have after)) kept
