-- The words that a call is written in (document 01, 'The calls'; document 02, (c)). A call is a value of the type that crate
-- calls decodes words into.
use Rattle.std.specs.Prelude.{ℕ, ◌+◌, ◌*◌, Bool, true, cond, not, ◌&&◌, List, [], ◌∷◌, ◌++◌, eqb, ltb}
use Rattle.machine.specs.Word.{word}
use Rattle.machine.specs.Call.{wants_second}
use Rattle.calls.specs.declared.Call.{Call}
use Rattle.calls.specs.declared.Call.TheVariants.{LookUp, Send, Receive, MyEndpoints, MyRights, Grant, Remove, Revoke, Refused}
use Rattle.writer_theory.specs.declared.Fields.{Fields}

-- kind, caller, A, B and C of the first word, and what the second holds
abbrev pub fields_at : ℕ → ℕ → ℕ → ℕ → ℕ → ℕ → Fields
fields_at k u a b c x = record { kind = k; caller = u; a = a; b = b; c = c; second = x }

-- the fields of a call: those that its kind doesn't use are zero; a refused call is of no kind, and 0 begins no call
unfoldable pub fields_of : Call → Fields
fields_of (LookUp u x) = fields_at 1 u 0 0 0 x
fields_of (Send u e m) = fields_at 2 u 0 e 0 m
fields_of (Receive u e) = fields_at 3 u 0 e 0 0
fields_of (MyEndpoints u) = fields_at 4 u 0 0 0 0
fields_of (MyRights u) = fields_at 5 u 0 0 0 0
fields_of (Grant u g h r) = fields_at 6 u g h r 0
fields_of (Remove u g r) = fields_at 7 u g 0 r 0
fields_of (Revoke u g h r) = fields_at 8 u g h r 0
fields_of (Refused u r) = fields_at 0 u 0 0 0 0

-- the call isn't a refused one, and every field is within its bits
unfoldable pub within_bits : Fields → Bool
within_bits f =
    not (eqb f.kind 0) && ltb f.caller 64 && ltb f.a 64 && ltb f.b 256 && ltb f.c 256
    && ltb f.second 268435456

-- the first word: each field at its bits
unfoldable pub first_word : Fields → ℕ
first_word f = word f.kind (f.caller * 4194304 + f.a * 65536 + f.b * 256 + f.c)

-- the words: the first, and where the kind wants a second, one of kind 15
unfoldable pub field_words : Fields → List ℕ
field_words f = first_word f ∷ cond (wants_second f.kind) (word 15 f.second ∷ []) []

-- a call can be written
unfoldable pub fits : Call → Bool
fits c = within_bits (fields_of c)

-- the words of a call
unfoldable pub encoded_words : Call → List ℕ
encoded_words c = field_words (fields_of c)

-- every call of a list can be written
unfoldable pub all_fit : List Call → Bool
all_fit [] = true
all_fit (c ∷ cs) = fits c && all_fit cs

-- the words of a list of calls, one call after the other
unfoldable pub written : List Call → List ℕ
written [] = []
written (c ∷ cs) = encoded_words c ++ written cs
