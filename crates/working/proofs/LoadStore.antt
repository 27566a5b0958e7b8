-- The state loaded from an accepted table represents it, and the state stored after a run is the table at its end.
-- Assumes nothing.
use mathlib.Core.Path.{◌≡◌, refl, sym, ap, ap₂, ◌∙◌}
use mathlib.Core.Bool.{true, cond}
use mathlib.Core.List.{List}
use Prim.Native.Nat.{ℕ, ◌*◌, ◌%◌}
use native.Mathlib.Nat.{mod-eq_of_lt}
use native.Mathlib.Omega.{arith}
use lib.ListN.{length}
use borrow.Author.Tests.{lt-ltb, le-leb, eq-eqb}
use Rattle.machine.specs.Table.{domains, endpoints, endpoint_at}
use Rattle.machine.specs.Check.{Accepted}
use Rattle.machine.specs.Holders.{holders_of}
use Rattle.machine.proofs.Accepted.{accepted-sized, accepted-counts}
use Rattle.machine.proofs.Below.{words-length}
use Rattle.machine.proofs.Bools.{and_intro}
use Rattle.rights_matrix.specs.Rows.{rows_of, stored_rows, has_rights}
use Rattle.kernel.specs.Run.{AllRun}
use Rattle.working_load.specs.Layout.{has_queues, rings_of, stored_queues, names_of, owned_of}
use Rattle.working_load.proofs.Loaded.{loaded-represents}
use Rattle.working_load.proofs.Stored.{store-is-table}
use Rattle.working.specs.Run.{working, leaves, RepresentsTable, Left}

-- storing rows leaves a table its length
rows-length : (n : ℕ) (rows : List (List ℕ)) (t : List ℕ) → length (stored_rows n rows t) ≡ length t
unfolding stored_rows
rows-length n rows t = words-length (length t) _

module _ (t : List ℕ) (a : Accepted t) where
  -- all of an accepted table's words are there
  has-rights : has_rights (domains t) (length t) ≡ true
  unfolding has_rights
  has-rights =
      and_intro (le-leb (domains t) 16 (accepted-counts t a).1)
      (lt-ltb (domains t * domains t) (length t) (omega (arith, accepted-sized t a)))

  has-queues : (size lent : ℕ) → size ≡ length t → lent ≡ 12 * endpoints t → has_queues (domains t) (endpoints t) size lent ≡ true
  unfolding has_queues
  has-queues size lent same twelve =
      and_intro
      (and_intro (le-leb (endpoints t) 32 (accepted-counts t a).2)
      (le-leb (endpoint_at (domains t) (endpoints t)) size (omega (arith, accepted-sized t a))))
      (eq-eqb lent (12 * endpoints t) twelve)

  eight : domains t % 256 ≡ domains t
  eight = mod-eq_of_lt (omega (arith, (accepted-counts t a).1))

  -- the loaded state represents the table
  module _ (n m : ℕ) (is_n : n ≡ domains t) (is_m : m ≡ endpoints t) where
    small : n % 256 ≡ domains t
    small = ap (λ (k : ℕ). k % 256) is_n ∙ eight

    pub loaded : (rows : List (List ℕ)) (lent rings names owned holders : List ℕ)
        → length lent ≡ 12 * endpoints t
        → rows ≡ rows_of (cond (has_rights n (length t)) n 0) t
        → rings ≡ cond (has_queues (n % 256) m (length t) (length lent)) (rings_of (n % 256) m t) lent
        → names ≡ names_of (n % 256) m t
        → owned ≡ owned_of (n % 256) m t
        → holders ≡ holders_of t
        → RepresentsTable (working n m rows rings names owned holders) t
    loaded rows lent rings names owned holders long is_rows is_rings is_names is_owned is_holders =
        record {
          accepted = a;
          state =
              rw (is_n, is_m, is_rows ∙ rows_are, is_rings ∙ rings_are, is_names ∙ ap₂ (λ (i j : ℕ). names_of i j t) small is_m, is_owned ∙ ap₂ (λ (i j : ℕ). owned_of i j t) small is_m)
              (loaded-represents t a);
          same_holders = is_holders;
        }
      where
        rows_are : rows_of (cond (has_rights n (length t)) n 0) t ≡ rows_of (domains t) t
        rows_are = rw (is_n, has-rights) refl

        rings_are : cond (has_queues (n % 256) m (length t) (length lent)) (rings_of (n % 256) m t) lent ≡ rings_of (domains t) (endpoints t) t
        rings_are = rw (small, is_m, has-queues (length t) (length lent) refl long) refl

    -- the stored state is the table at the end
    pub store : (rows₀ : List (List ℕ)) (rings₀ names owned holders₀ ws space : List ℕ) (k : ℕ) (rows : List (List ℕ)) (rings space' holders t₁ t₂ : List ℕ)
        → Left (working n m rows₀ rings₀ names owned holders₀) t ws space (leaves k rows rings space' holders)
        → t₁ ≡ cond (has_rights n (length t)) (stored_rows n rows t) t
        → t₂ ≡ cond (has_queues (n % 256) m (length t₁) (length rings)) (stored_queues (n % 256) m rings t₁) t₁
        → AllRun t ws space k space' t₂ holders
    store rows₀ rings₀ names owned holders₀ ws space k rows rings space' holders t₁ t₂ x is_t₁ is_t₂ =
        let ran = x.ran in
        record { count = ran.count; table = is_t₂ ∙ whole ∙ ran.table; answers = ran.answers; holders = ran.holders }
      where
        first : t₁ ≡ stored_rows n rows t
        first = is_t₁ ∙ ap (λ (b : _). cond b (stored_rows n rows t) t) (ap (λ (i : ℕ). has_rights i (length t)) is_n ∙ has-rights)

        same : length t₁ ≡ length t
        same = ap length first ∙ rows-length n rows t

        there : has_queues (n % 256) m (length t₁) (length rings) ≡ true
        there =
            ap₂ (λ (i j : ℕ). has_queues i j (length t₁) (length rings)) small is_m
            ∙ has-queues (length t₁) (length rings) same (x.state.size ∙ ap (λ (j : ℕ). 12 * j) is_m)

        whole : cond (has_queues (n % 256) m (length t₁) (length rings)) (stored_queues (n % 256) m rings t₁) t₁ ≡ x.end
        whole =
            ap (λ (b : _). cond b (stored_queues (n % 256) m rings t₁) t₁) there
            ∙ ap₂ (λ (i : ℕ) (u : List ℕ). stored_queues i m rings u) (small ∙ sym is_n) first
            ∙ store-is-table t x.end n m rows rings names owned a x.accepted x.frame x.state
