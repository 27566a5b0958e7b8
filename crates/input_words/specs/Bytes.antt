-- Bytes as words and words as bytes (document 01, 'Into firmware and onto the bench': little-endian words).
use Rattle.std.specs.Prelude.{ℕ, ◌+◌, ◌*◌, ◌/◌, ◌%◌, ◌^◌, ◌<◌, ◌≡◌, List, [], ◌∷◌, length, get_or}

-- the word of four bytes, the lowest first
abbrev pub word_of : ℕ → ℕ → ℕ → ℕ → ℕ
word_of a b c d = a + 256 * b + 65536 * c + 16777216 * d

-- the word of the four bytes from an index on; a byte past the end counts as 0
abbrev pub word_at : List ℕ → ℕ → ℕ
word_at bytes at = word_of (get_or bytes at 0) (get_or bytes (at + 1) 0) (get_or bytes (at + 2) 0) (get_or bytes (at + 3) 0)

-- the whole words of bytes: up to three bytes left over make no word
unfoldable pub words_of : List ℕ → List ℕ
words_of [] = []
words_of (a ∷ []) = []
words_of (a ∷ b ∷ []) = []
words_of (a ∷ b ∷ c ∷ []) = []
words_of (a ∷ b ∷ c ∷ d ∷ bytes) = word_of a b c d ∷ words_of bytes

-- the bytes of words of 32 bits
unfoldable pub bytes_of : List ℕ → List ℕ
bytes_of [] = []
bytes_of (w ∷ ws) = (w % 256) ∷ (w / 256 % 256) ∷ (w / 65536 % 256) ∷ (w / 16777216 % 256) ∷ bytes_of ws

-- each is a word of 32 bits
abbrev pub AllWords : List ℕ → Type 0
AllWords ws = (i : ℕ) → get_or ws i 0 < 2 ^ 32

-- What little-endian means: each word has four bytes, of which byte k counts 256 ^ k, and the words of the bytes are these words.
pub record LittleEndian (ws : List ℕ) : Type 0 where
  pub four : length (bytes_of ws) ≡ 4 * length ws
  pub byte_is : (i k : ℕ) → i < length ws → k < 4 → get_or (bytes_of ws) (4 * i + k) 0 ≡ get_or ws i 0 / 256 ^ k % 256
  pub back : words_of (bytes_of ws) ≡ ws

abbrev pub EveryLittleEndian : Type 0
EveryLittleEndian = (ws : List ℕ) → AllWords ws → LittleEndian ws
