-- Adding list after list gives the totals of all: they fit 64 bits, and each is the definition's. Assumes nothing.
use Rattle.std.proofs.Common.{◌≡◌, ℕ, ◌+◌, ◌*◌, ◌%◌, ◌^◌, ◌<◌, ◌≤◌, Bool, true, false, cond, ltb, List, [], ◌∷◌, ◌++◌, length, get_or, replicate, sym, refl, ap, ◌∙◌, ap₂, arith, length-append}
use Rattle.machine.specs.Below.{words_below}
use Rattle.machine.specs.Table.{endpoints}
use Rattle.machine.specs.Check.{Accepted}
use Rattle.machine.specs.Entry.{Outcome, longest_list}
use Rattle.machine.proofs.Below.{words-length, words-at, words_same}
use Rattle.machine.proofs.Step.{run-accepted}
use Rattle.totals_theory.specs.Totals.{Totals, no_counts, together, list_totals, table_after_lists, totals, calls_of}
use Rattle.totals_theory.specs.Claims.{Few}
use Rattle.totals_theory.proofs.TotalsLaws.{one-run, list-by-list, list-few}
use Rattle.totals_add.specs.declared.Tally.{Tally}
use Rattle.totals_add.specs.Added as added
use Rattle.totals_add.specs.Added.{added_below, added_if_run, ListAdded}
use Rattle.totals_add.specs.Tallied.{of_endpoints, tally_of, Tallied, most_added, EveryTallyListByList}
use Rattle.totals_add.proofs.RunLaws.{RunOf, run_of}

-- what is added to the words of endpoints, where no sum is too large for a word
of-added : (m : ℕ) (f g h : ℕ → ℕ) → ((e : ℕ) → h e ≡ f e + g e) → ((e : ℕ) → h e < 2 ^ 64) → added_below m (of_endpoints m f) g ≡ of_endpoints m h
unfolding added_below of_endpoints
of-added m f g h sum fits =
    ap (λ (n : ℕ). words_below n (λ e. cond (ltb e m) ((get_or words e 0 + g e) % 2 ^ 64) (get_or words e 0))) (words-length 32 of)
    ∙ words_same 32 _ _ (λ e l. rw (words-at 32 of e 0 l) (at e (ltb e m)))
  where
    of : ℕ → ℕ
    of e = cond (ltb e m) (f e) 0

    words : List ℕ
    words = words_below 32 of

    at : (e : ℕ) (b : Bool) → cond b ((cond b (f e) 0 + g e) % 2 ^ 64) (cond b (f e) 0) ≡ cond b (h e) 0
    at e true = omega (arith, sum e, fits e)
    at e false = refl

of_none : (m : ℕ) → of_endpoints m (λ e. 0) ≡ replicate 32 0
unfolding of_endpoints words_below
of_none m = words_same 32 _ (λ e. 0) (λ e l. at (ltb e m))
  where
    at : (b : Bool) → ◌≡◌ {A = ℕ} (cond b 0 0) 0
    at true = refl
    at false = refl

-- the table that lists leave has the endpoints of the first
after-endpoints : (t : List ℕ) (lists : List (List ℕ)) → Accepted t → endpoints (table_after_lists t lists) ≡ endpoints t
after-endpoints t lists a = ap endpoints (one-run t lists) ∙ (run-accepted t (calls_of lists) a).frame.same_endpoints

-- a tally is the same where its three parts are
pub same-tally : {a b : Tally} → a.sent ≡ b.sent → a.received ≡ b.received → a.lost ≡ b.lost → a ≡ b
same-tally {a} {b} p q r =
    ap₂ (λ (x y : List ℕ). record { sent = x; received = y; lost = a.lost }) p q
    ∙ ap (λ (z : List ℕ). record { sent = b.sent; received = b.received; lost = z }) r

begins : (t : List ℕ) → Tallied t [] added.no_totals t
unfolding tally_of totals no_counts table_after_lists
begins t =
    record {
      tally_is = same-tally (sym (of_none _)) (sym (of_none _)) (sym (of_none _));
      table_is = refl;
      few = λ e. record { sent = omega arith; received = omega arith; lost = omega arith };
    }

-- lists, and one after them
abbrev more : List (List ℕ) → List ℕ → List (List ℕ)
more lists ws = lists ++ (ws ∷ [])

-- one list more, of few enough words
module _ (t : List ℕ) (lists : List (List ℕ)) (ws : List ℕ) (short : length ws ≤ longest_list) where
  part-goes-on : (part : Totals → ℕ) (e : ℕ) → part (together (totals e t lists) (list_totals e (table_after_lists t lists) ws)) ≡ part (totals e t lists) + part (list_totals e (table_after_lists t lists) ws) → part (totals e t (more lists ws)) ≡ part (totals e t lists) + part (list_totals e (table_after_lists t lists) ws)
  part-goes-on part e adds = ap part (list-by-list e t lists ws).totals_go_on ∙ adds

  sent-goes-on : (e : ℕ) → (totals e t (more lists ws)).sent ≡ (totals e t lists).sent + (list_totals e (table_after_lists t lists) ws).sent
  unfolding together
  sent-goes-on e = part-goes-on (λ (x : Totals). x.sent) e refl

  received-goes-on : (e : ℕ) → (totals e t (more lists ws)).received ≡ (totals e t lists).received + (list_totals e (table_after_lists t lists) ws).received
  unfolding together
  received-goes-on e = part-goes-on (λ (x : Totals). x.received) e refl

  lost-goes-on : (e : ℕ) → (totals e t (more lists ws)).lost ≡ (totals e t lists).lost + (list_totals e (table_after_lists t lists) ws).lost
  unfolding together
  lost-goes-on e = part-goes-on (λ (x : Totals). x.lost) e refl

  few-go-on : (e : ℕ) → Few (totals e t lists) (longest_list * length lists) → Few (totals e t (more lists ws)) (longest_list * length (more lists ws))
  few-go-on e few =
      let one = list-few e (table_after_lists t lists) ws in
      let count = length-append lists (ws ∷ []) in
      record {
        sent = omega (arith, sent-goes-on e, one.sent, few.sent);
        received = omega (arith, received-goes-on e, one.received, few.received);
        lost = omega (arith, lost-goes-on e, one.lost, few.lost);
      }

module _ {t : List ℕ} {lists : List (List ℕ)} {table ws space holders : List ℕ} {o : Outcome} {tally tally' : Tally}
    (a : Accepted t)
    (x : Tallied t lists tally table)
    (many : length lists < most_added)
    (y : ListAdded table ws space holders o tally tally')
    (z : o.code ≡ 0) where
  of : RunOf table ws o.answers o.table
  of = run_of y.run z

  fewer : (e : ℕ) → Few (totals e t (more lists ws)) (longest_list * length (more lists ws))
  fewer e = few-go-on t lists ws of.short e (x.few e)

  -- what a part of the tally grows by
  part-added : {xs xs' : List ℕ} (f g h : ℕ → ℕ) → xs ≡ of_endpoints (endpoints t) f → xs' ≡ added_if_run o.code table xs g → ((e : ℕ) → h e ≡ f e + g e) → ((e : ℕ) → h e < 2 ^ 64) → xs' ≡ of_endpoints (endpoints t) h
  unfolding added_if_run
  part-added {xs} {xs'} f g h is grows sum fits =
      rw (z, is, x.table_is, after-endpoints t lists a) at grows ∙ of-added (endpoints t) f g h sum fits

  goes_on : Tallied t (more lists ws) tally' o.table
  unfolding tally_of
  goes_on =
      let count = length-append lists (ws ∷ []) in
      record {
        tally_is =
            same-tally
            (part-added _ _ _ (ap (λ (p : Tally). p.sent) x.tally_is) y.sent_added (λ e. rw x.table_is (sent-goes-on t lists ws of.short e)) (λ e. omega (arith, (fewer e).sent)))
            (part-added _ _ _ (ap (λ (p : Tally). p.received) x.tally_is) y.received_added (λ e. rw x.table_is (received-goes-on t lists ws of.short e)) (λ e. omega (arith, (fewer e).received)))
            (part-added _ _ _ (ap (λ (p : Tally). p.lost) x.tally_is) y.lost_added (λ e. rw x.table_is (lost-goes-on t lists ws of.short e)) (λ e. omega (arith, (fewer e).lost)));
        table_is = of.table ∙ rw x.table_is (sym (list-by-list 0 t lists ws).table_goes_on);
        few = fewer;
      }

pub every-tally-list-by-list : EveryTallyListByList
every-tally-list-by-list t =
    record { begins = begins t; goes_on = λ lists table ws space holders o tally tally' a x many y z. goes_on a x many y z }
