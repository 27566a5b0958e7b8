-- Claims about the machine itself, in closed statements about all accepted tables, or about any where a claim says so.
-- `EveryCall..` is about each single call, `EveryRun..` about calls of any number run one after another. Each is the type of
-- a theorem in proofs/.
use Rattle.std.specs.Prelude.{ℕ, ◌*◌, ◌<◌, ◌≤◌, ◌^◌, ◌≡◌, Bool, true, false, not, ◌&&◌, ◌||◌, ◌⊎◌, List, [], ◌∷◌, ◌++◌, eqb, ltb, length}
use Rattle.std.proofs.Math.Option.{Option, none, some}
use Rattle.machine.specs.Word.{kind, caller, field_a, field_c}
use Rattle.machine.specs.Right.{SEND, GRANT, REMOVE, holds}
use Rattle.machine.specs.Table.{domains, endpoints, rights}
use Rattle.machine.specs.Check.{Accepted}
use Rattle.machine.specs.Call.{Call, Kind, Kind.remove, first, call_kind, one_of, caller_of, unused_fields, all_zero}
use Rattle.machine.specs.Machine.{Decision, places_of, first_refusal, row_of, decide, step, answer, Decision.refused, Decision.removes}
use Rattle.machine.specs.Run.{run, answers}
use Rattle.machine.specs.Influence.{influences}
use Rattle.machine.specs.SameParts.{SameFrame, SamePart}
use Rattle.machine.specs.Trail.{GivenBy, RemovedBy, RevokedBy}
use Rattle.machine.specs.RunClaims.{RefusalChangesNothing, Noninterference, RightsProvenance, CountsConserved, FifoOrder}

-- ---- one call

-- no place that the kind k has refuses
unfoldable pub none_refuses : Kind → List (List Kind × ℕ × Bool) → Bool
none_refuses k [] = true
none_refuses k (p ∷ ps) = not (one_of k p.0 && p.2) && none_refuses k ps

-- Of the places ps that the kind k has, the first that refuses has the code n.
pub record RefusesFirst (k : Kind) (n : ℕ) (ps : List (List Kind × ℕ × Bool)) : Type 0 where
  pub before : List (List Kind × ℕ × Bool)
  pub kinds : List Kind
  pub later : List (List Kind × ℕ × Bool)
  pub among : ps ≡ before ++ ((kinds, n, true) ∷ later)
  pub has : one_of k kinds ≡ true
  pub earlier : none_refuses k before ≡ true

-- A call is refused by a code exactly where the first place that refuses has it; where none refuses the decision is its row, and
-- where no code refuses it no place does.
pub record RefusedExactly (t : List ℕ) (c : Call) : Type 0 where
  pub condition : (n : ℕ) → decide t c ≡ refused n → RefusesFirst (call_kind c) n (places_of t c)
  pub refusal : (n : ℕ) → RefusesFirst (call_kind c) n (places_of t c) → decide t c ≡ refused n
  pub row : none_refuses (call_kind c) (places_of t c) ≡ true → decide t c ≡ row_of t c (call_kind c)
  pub passed : ((n : ℕ) → decide t c ≡ refused n → ⊥) → none_refuses (call_kind c) (places_of t c) ≡ true

-- "The first failing place decides" (document 01, 'Where each number is checked'), on any table.
abbrev pub EveryCallRefusedExactly : Type 0
EveryCallRefusedExactly = (t : List ℕ) (c : Call) → RefusedExactly t c

-- A table t' that results from t is accepted, with the same unchanging parts.
pub record StaysAccepted (t t' : List ℕ) : Type 0 where
  pub accepted : Accepted t'
  pub frame : SameFrame t' t

-- A call on an accepted table leaves an accepted table, with the same unchanging parts.
abbrev pub EveryCallStaysAccepted : Type 0
EveryCallStaysAccepted = (t : List ℕ) (c : Call) → Accepted t → StaysAccepted t (step t c)

-- a call's caller is known and influences v
abbrev pub caller_influences : List ℕ → Option ℕ → ℕ → Bool
caller_influences t none v = false
caller_influences t (some u) v = ltb u (domains t) && influences t u v

-- The call c alters only what belongs to domains that its caller influences in the table t. A refused call alters nothing,
-- nor does a stray or an unknown caller, which influence none.
pub record AltersOnly (t : List ℕ) (c : Call) : Type 0 where
  pub parts : (v : ℕ) → v < domains t → caller_influences t (caller_of c) v ≡ false → SamePart v (step t c) t
  pub refused : (n : ℕ) → decide t c ≡ refused n → step t c ≡ t
  pub stray : caller_of c ≡ none → step t c ≡ t
  pub unknown : (u : ℕ) → caller_of c ≡ some u → domains t ≤ u → step t c ≡ t

-- Influence (document 01, 'Influence'): on an accepted table, a call alters only what belongs to domains that its caller
-- influences.
abbrev pub EveryCallAltersOnly : Type 0
EveryCallAltersOnly = (t : List ℕ) (c : Call) → Accepted t → AltersOnly t c

-- On the tables s and t the call c is answered the same if they have the same unchanging parts and its caller, where that is a
-- domain, the same part in both.
abbrev pub AnswerDepends : List ℕ → List ℕ → Call → Type 0
AnswerDepends s t c =
    SameFrame s t → ((u : ℕ) → caller_of c ≡ some u → u < domains t → SamePart u s t) → answer s c ≡ answer t c

-- A call's answer depends only on its own words, its caller's part and the unchanging parts (document 01, 'Influence'), on an
-- accepted table t and any other s.
abbrev pub EveryCallAnswerDepends : Type 0
EveryCallAnswerDepends = (s t : List ℕ) (c : Call) → Accepted t → AnswerDepends s t c

-- What one call does to the single right 2 ^ k of h on g. If h has it after the call, h had it before or the call gave it. If
-- h had it before the call, h has it after, or h's own remove or a revoke cleared it. A grant, a remove and a revoke do what
-- they say.
pub record EachRight (h g k : ℕ) (t : List ℕ) (c : Call) : Type 0 where
  pub had_or_given : holds (rights (step t c) h g) (2 ^ k) ≡ true → (holds (rights t h g) (2 ^ k) ≡ true) ⊎ GivenBy h g (2 ^ k) t c
  pub kept_or_cleared : holds (rights t h g) (2 ^ k) ≡ true → (holds (rights (step t c) h g) (2 ^ k) ≡ true) ⊎ (RemovedBy h g (2 ^ k) t c ⊎ RevokedBy h g (2 ^ k) t c)
  pub given : GivenBy h g (2 ^ k) t c → holds (rights (step t c) h g) (2 ^ k) ≡ true
  pub removed : RemovedBy h g (2 ^ k) t c → holds (rights (step t c) h g) (2 ^ k) ≡ false
  pub revoked : RevokedBy h g (2 ^ k) t c → holds (rights (step t c) h g) (2 ^ k) ≡ false

-- Every right has a source, and none is lost except by its holder or by one that may revoke it, call by call: on an accepted
-- table, for any two domains and each single right.
abbrev pub EveryCallEachRight : Type 0
EveryCallEachRight =
    (t : List ℕ) (c : Call) → Accepted t → (h g k : ℕ) → h < domains t → g < domains t → EachRight h g k t c

-- The rights r of h on g were cleared all together from the table t to t': h held REMOVE and every one of them, holds none of
-- them any more, and holds every other right on g as before.
pub record AllRemoved (h g r : ℕ) (t t' : List ℕ) : Type 0 where
  pub may_remove : holds (rights t h g) REMOVE ≡ true
  pub held : holds (rights t h g) r ≡ true
  pub cleared : (k : ℕ) → holds r (2 ^ k) ≡ true → holds (rights t' h g) (2 ^ k) ≡ false
  pub others : (k : ℕ) → holds r (2 ^ k) ≡ false → holds (rights t' h g) (2 ^ k) ≡ holds (rights t h g) (2 ^ k)

-- From the table t to t' the rights that the word of the remove c names were cleared all together, or nothing was altered.
abbrev pub AllOrNothing : List ℕ → Call → List ℕ → Type 0
AllOrNothing t c t' = AllRemoved (caller (first c)) (field_a (first c)) (field_c (first c)) t t' ⊎ (t' ≡ t)

-- A remove is all or nothing (document 02 (b)), on an accepted table.
abbrev pub EveryRemoveAllOrNothing : Type 0
EveryRemoveAllOrNothing = (t : List ℕ) (c : Call) → Accepted t → kind (first c) ≡ 7 → AllOrNothing t c (step t c)

-- the decision on a remove as document 01 has it, where it takes one right
abbrev pub remove_of_one : List ℕ → Call → Decision
remove_of_one t c =
    let u = caller (first c) in
    let g = field_a (first c) in
    let r = field_c (first c) in
    first_refusal remove
    ((remove ∷ [], 12, not (ltb u (domains t)))
    ∷ (remove ∷ [], 13, not (all_zero (unused_fields remove (first c))))
    ∷ (remove ∷ [], 20, not (ltb g (domains t)))
    ∷ (remove ∷ [], 21, not (eqb r SEND || eqb r GRANT || eqb r REMOVE))
    ∷ (remove ∷ [], 22, not (holds (rights t u g) REMOVE && holds (rights t u g) r))
    ∷ [])
    (removes g u r)

-- A remove of one right has the same decision as in document 01 (document 02 (b)), on any table.
abbrev pub EveryRemoveOfOne : Type 0
EveryRemoveOfOne =
    (t : List ℕ) (c : Call) → call_kind c ≡ remove
    → (eqb (field_c (first c)) SEND || eqb (field_c (first c)) GRANT || eqb (field_c (first c)) REMOVE) ≡ true
    → decide t c ≡ remove_of_one t c

-- ---- calls of any number, run from an accepted table; the words rest may follow the answers, as in a larger answer space

-- A run from an accepted table leaves an accepted table, with the same unchanging parts.
abbrev pub EveryRunStaysAccepted : Type 0
EveryRunStaysAccepted = (t : List ℕ) (cs : List Call) → Accepted t → StaysAccepted t (run t cs)

-- Each call is answered by three words, on any table.
abbrev pub EveryRunAnswered : Type 0
EveryRunAnswered = (t : List ℕ) (cs : List Call) → length (answers t cs) ≡ 3 * length cs

-- A refused call changes nothing, on any table.
abbrev pub EveryRunRefusalChangesNothing : Type 0
EveryRunRefusalChangesNothing =
    (t : List ℕ) (cs : List Call) (rest : List ℕ) → RefusalChangesNothing t cs (answers t cs ++ rest) (run t cs)

-- Noninterference (specs/RunClaims).
abbrev pub EveryRunNoninterference : Type 0
EveryRunNoninterference =
    (t : List ℕ) (cs : List Call) (rest : List ℕ) → Accepted t → Noninterference t cs (answers t cs ++ rest) (run t cs)

-- Every right has a source.
abbrev pub EveryRunRightsProvenance : Type 0
EveryRunRightsProvenance = (t : List ℕ) (cs : List Call) → Accepted t → RightsProvenance t cs (run t cs)

-- The counts of every endpoint are conserved.
abbrev pub EveryRunCountsConserved : Type 0
EveryRunCountsConserved =
    (t : List ℕ) (cs : List Call) (rest : List ℕ)
    → Accepted t
    → (e : ℕ)
    → e < endpoints t
    → CountsConserved e t cs (answers t cs ++ rest) (run t cs)

-- Every queue is in FIFO order.
abbrev pub EveryRunFifoOrder : Type 0
EveryRunFifoOrder =
    (t : List ℕ) (cs : List Call) (rest : List ℕ)
    → Accepted t
    → (e : ℕ)
    → e < endpoints t
    → FifoOrder e t cs (answers t cs ++ rest) (run t cs)
