-- The layout of a table as document 01 has it ('The table', with bits 3–0 of a rights word by document 02 (i)): each word by its place,
-- with the paper's numbers, as statements and not as the tests that the machine makes.
use Rattle.std.specs.Prelude.{ℕ, ◌+◌, ◌*◌, ◌<◌, ◌≤◌, ◌≡◌, List, length, get_or}
use Rattle.machine.specs.Word.{kind, payload, upper, field_b, field_c}
use Rattle.machine.specs.Table.{domains, endpoints}

-- There is a word 0: kind 1, bits 27–16 zero, 1 to 16 domains, at most 32 endpoints.
pub record HeaderHolds (t : List ℕ) : Type 0 where
  pub some : 1 ≤ length t
  pub of_kind : kind (get_or t 0 0) ≡ 1
  pub upper_zero : upper (get_or t 0 0) ≡ 0
  pub fewest_domains : 1 ≤ domains t
  pub most_domains : domains t ≤ 16
  pub most_endpoints : endpoints t ≤ 32

-- The length is exactly 1 + n × n + 12 × m words.
abbrev pub LengthHolds : List ℕ → Type 0
LengthHolds t = length t ≡ 1 + domains t * domains t + 12 * endpoints t

-- A rights word: kind 2, the rights in bits 3–0, bits 27–4 zero.
pub record RightsWordHolds (w : ℕ) : Type 0 where
  pub of_kind : kind w ≡ 2
  pub rest_zero : payload w ≤ 15

-- Each rights word, at 1 + holder × n + target.
abbrev pub RightsHold : List ℕ → Type 0
RightsHold t =
    (holder target : ℕ) → holder < domains t → target < domains t → RightsWordHolds (get_or t (1 + holder * domains t + target) 0)

-- word k of the twelve of the endpoint e
abbrev pub word_of : List ℕ → ℕ → ℕ → ℕ
word_of t e k = get_or t (1 + domains t * domains t + 12 * e + k) 0

-- The twelve words of the endpoint e. Name: kind 3, not zero. Info: kind 4, bits 27–16 zero, the owner below n, the capacity 1 to 8.
-- Waiting: kind 5, at most the capacity. Lost: kind 6. Eight slots: kind 15, F0000000 from the waiting count on.
pub record EndpointHolds (t : List ℕ) (e : ℕ) : Type 0 where
  pub name_kind : kind (word_of t e 0) ≡ 3
  pub name_some : payload (word_of t e 0) ≡ 0 → ⊥
  pub info_kind : kind (word_of t e 1) ≡ 4
  pub info_upper_zero : upper (word_of t e 1) ≡ 0
  pub owner_known : field_b (word_of t e 1) < domains t
  pub least_capacity : 1 ≤ field_c (word_of t e 1)
  pub most_capacity : field_c (word_of t e 1) ≤ 8
  pub waiting_kind : kind (word_of t e 2) ≡ 5
  pub waiting_few : payload (word_of t e 2) ≤ field_c (word_of t e 1)
  pub lost_kind : kind (word_of t e 3) ≡ 6
  pub slot_kind : (i : ℕ) → i < 8 → kind (word_of t e (4 + i)) ≡ 15
  pub slot_empty : (i : ℕ) → i < 8 → payload (word_of t e 2) ≤ i → word_of t e (4 + i) ≡ 0xF000_0000

-- Each endpoint's words, and no two names are equal.
pub record EndpointsHold (t : List ℕ) : Type 0 where
  pub each : (e : ℕ) → e < endpoints t → EndpointHolds t e
  pub names_differ : (f e : ℕ) → f < e → e < endpoints t → payload (word_of t f 0) ≡ payload (word_of t e 0) → ⊥
