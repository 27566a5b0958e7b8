-- "Shortcuts that break it" (document 01), the first, the third and the fourth: each as a definition beside the machine's, and the
-- claim that with it a rule of the paper is false. (The second, by the last table alone, is in specs/PurgeExamples.)
use Rattle.std.specs.Prelude.{ℕ, ◌<◌, ◌≡◌, cond, not, ◌&&◌, List, [], ◌∷◌, ◌++◌, map, eqb}
use Rattle.machine.specs.Word.{field_b}
use Rattle.machine.specs.Right.{holds}
use Rattle.machine.specs.Table.{domains, rights, set_rights}
use Rattle.machine.specs.Check.{Accepted}
use Rattle.machine.specs.Call.{Call, Call.one, Call.two, first, call_kind, pairs, width}
use Rattle.machine.specs.Machine.{Decision, decide, step, code, answer_word, answer_to, answer}
use Rattle.machine.specs.Machine.{Decision.refused, Decision.looked_up, Decision.sends, Decision.receives, Decision.lists_endpoints, Decision.lists_rights, Decision.grants, Decision.removes, Decision.revokes}
use Rattle.machine.specs.Run.{run, answers}
use Rattle.machine.specs.Purge.{purge, view}
use Rattle.machine.specs.Counts.{is_send, pushes_out}
use Rattle.machine.specs.PurgeExamples.{kept_in}

-- the answers of a machine that alters tables as ours does, and answers a call c on a table t by `answer_by t c`
unfoldable pub answers_by : (List ℕ → Call → List ℕ) → List ℕ → List Call → List ℕ
answers_by answer_by t [] = []
answers_by answer_by t (c ∷ cs) = answer_by t c ++ answers_by answer_by (step t c) cs

-- Noninterference (specs/RunClaims) is false of such a machine.
abbrev pub RuleFails : (List ℕ → Call → List ℕ) → Type 0
RuleFails answer_by =
    ((t : List ℕ) (cs : List Call) (d : ℕ)
    → Accepted t
    → d < domains t
    → view d cs (answers_by answer_by t cs) (run t cs)
    ≡ view d (purge t cs d) (answers_by answer_by t (purge t cs d)) (run t (purge t cs d)))
    → ⊥

-- ---- "Telling a sender that the queue is full: the receiver then reaches the sender"

-- the answer to a send has 1 as its first data word where the queue was full
unfoldable pub answer_showing_full : List ℕ → Call → List ℕ
answer_showing_full t c = cond (pushes_out (field_b (first c)) t c) (answer_word c 0 ∷ 1 ∷ 0 ∷ []) (answer t c)

abbrev pub ShowingFullFails : Type 0
ShowingFullFails = RuleFails answer_showing_full

-- ---- "Letting a refused send give up its second word as a stray: the cutting would depend on rights"

-- the split by this, of words that are run from the table t: after a refused send its second word is a call by itself
unfoldable pub split_giving_up : List ℕ → List ℕ → List Call
split_giving_up t [] = []
split_giving_up t (w ∷ []) = one w ∷ []
split_giving_up t (w ∷ v ∷ ws) =
    let rest = split_giving_up (step t (two w v)) ws in
    let refused_send = is_send (call_kind (two w v)) && not (eqb (code (decide t (two w v))) 0) in
    cond (pairs w v) (two w v ∷ cond refused_send (one v ∷ rest) rest) (one w ∷ split_giving_up (step t (one w)) (v ∷ ws))

-- One rights word more or less, and the same list has calls of other numbers of words.
abbrev pub GivingUpFails : Type 0
GivingUpFails =
    ((t ws : List ℕ) (h g r : ℕ)
    → Accepted t
    → Accepted (set_rights t h g r)
    → map width (split_giving_up (set_rights t h g r) ws) ≡ map width (split_giving_up t ws))
    → ⊥

-- ---- "Refusing a grant because the recipient already has the right: the recipient's rights show"

-- the decision by this, of the machine's decision: a grant of what the recipient has is refused, by 22
unfoldable pub refusing_held : List ℕ → Decision → Decision
refusing_held t (refused n) = refused n
refusing_held t (looked_up e) = looked_up e
refusing_held t (sends e message) = sends e message
refusing_held t (receives e) = receives e
refusing_held t (lists_endpoints u) = lists_endpoints u
refusing_held t (lists_rights u) = lists_rights u
refusing_held t (grants g h r) = cond (holds (rights t h g) r) (refused 22) (grants g h r)
refusing_held t (removes g h r) = removes g h r
refusing_held t (revokes g h r) = revokes g h r

-- the answer by that decision; the table after the call is the same either way, since such a grant adds nothing
unfoldable pub answer_refusing_held : List ℕ → Call → List ℕ
answer_refusing_held t c = answer_to t c (refusing_held t (decide t c))

abbrev pub RefusingHeldFails : Type 0
RefusingHeldFails = RuleFails answer_refusing_held

-- ---- "Several pass the striking rule alone, hence 3 speaks of 2's machine" (document 01, 'Conditions of acceptance'): a kernel that
-- refuses every call

-- its answers: each call is refused by 11
unfoldable pub all_refused : List Call → List ℕ
all_refused [] = []
all_refused (c ∷ cs) = answer_word c 11 ∷ 0 ∷ 0 ∷ all_refused cs

-- It passes: its table stays t, by which its source sets are, and what d sees of the whole list is what d sees of the kept calls.
abbrev pub RefusingAllPasses : Type 0
RefusingAllPasses =
    (t : List ℕ) (cs : List Call) (d : ℕ)
    → view d cs (all_refused cs) t ≡ view d (kept_in t cs d) (all_refused (kept_in t cs d)) t

-- But its answers are not the machine's.
abbrev pub RefusingAllDiffers : Type 0
RefusingAllDiffers = ((t : List ℕ) (cs : List Call) → Accepted t → all_refused cs ≡ answers t cs) → ⊥
