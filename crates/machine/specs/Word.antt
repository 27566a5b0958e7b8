-- A word of 32 bits and its fields (document 01, 'The table' and 'The calls': kinds and bits).
use Rattle.std.specs.Prelude.{ℕ, ◌+◌, ◌*◌, ◌/◌, ◌%◌}

-- bits 31–28: the kind
abbrev pub kind : ℕ → ℕ
kind w = w / 268435456

-- bits 27–0: what a word holds besides its kind
abbrev pub payload : ℕ → ℕ
payload w = w % 268435456

-- the largest payload
abbrev pub most_payload : ℕ
most_payload = 268435455

-- the word of kind k that holds p
abbrev pub word : ℕ → ℕ → ℕ
word k p = k * 268435456 + p

-- bits 27–16, which are zero in the table's first word and in an endpoint's info
abbrev pub upper : ℕ → ℕ
upper w = w / 65536 % 4096

-- bits 27–22: the caller
abbrev pub caller : ℕ → ℕ
caller w = w / 4194304 % 64

-- bits 21–16: field A
abbrev pub field_a : ℕ → ℕ
field_a w = w / 65536 % 64

-- bits 15–8: field B
abbrev pub field_b : ℕ → ℕ
field_b w = w / 256 % 256

-- bits 7–0: field C
abbrev pub field_c : ℕ → ℕ
field_c w = w % 256

-- bits 15–0 of an answer's first word: its code
abbrev pub answer_code : ℕ → ℕ
answer_code w = w % 65536
