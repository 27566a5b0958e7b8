-- What is reported of who can reach a domain, and that it is exactly the chains (specs/Asked, specs/Claims). Assumes nothing.
use mathlib.Core.Path.{◌≡◌, refl, sym, ap, subst, ◌∙◌}
use mathlib.Core.Bool.{Bool, true, false, cond, ◌&&◌, and-true}
use mathlib.Core.List.{List}
use Prim.Native.Nat.{ℕ, ◌^◌, ◌<◌, ◌≤◌}
use native.Mathlib.Decide.{dec_lt}
use native.Mathlib.Nat.{lt_of_lt_of_le}
use native.Mathlib.Omega.{arith}
use borrow.Author.Tests.{ltb-true, leb-true, lt-ltb, le-leb}
use lib.Dec.{leb, ltb}
use lib.ListN.{length, get_or, get_or-eq_default}
use lib.Pow.{pow_pos, pow_mono, pow-lt}
use Rattle.machine.specs.Below.{bits_below, has_bit}
use Rattle.machine.specs.Table.{domains}
use Rattle.machine.specs.Check.{Accepted}
use Rattle.machine.specs.Influence.{reaches}
use Rattle.machine.specs.Call.{split}
use Rattle.machine.specs.Run.{run}
use Rattle.machine.specs.Entry.{ran, Runs}
use Rattle.machine.specs.Holders.{holders_of}
use Rattle.machine.proofs.Bools.{and_left, and_right, cond-elim}
use Rattle.machine.proofs.Below.{all-at, all_of, bits-lt, bits_at, bits-past, words-at, words-past}
use Rattle.machine.proofs.Accepted.{accepted-counts}
use Rattle.machine.proofs.Step.{run-accepted}
use Rattle.machine.proofs.Promise.{runs-accepted, entry-ran, entry-code}
use Rattle.reachability.specs.Chain.{Chain, linked, link_words}
use Rattle.reachability.proofs.Bits.{bit-none, bit-own, bit-other}
use Rattle.reachability.proofs.Bounds.{closed-lt}
use Rattle.reachability.proofs.Chain.{closed-exactly, relation-closed-exactly}
use Rattle.holders_theory.specs.Asked.{bits_within, askable, ask_code, asked, ReachReported}
use Rattle.holders_theory.specs.Claims.{HoldersSay, HoldersOneWord, HoldersNoOther, AskedExactly, AskedNow, AskedAfterRun}
use Rattle.holders_theory.proofs.Filled.{holders-length}

-- ---- when words can be asked

module _ (ws : List ℕ) (d : ℕ) where
  pub by_bits : length ws ≤ 16 → d < length ws → bits_within ws ≡ askable ws d
  unfolding askable
  by_bits few l = rw (le-leb 1 (length ws) (omega arith), le-leb (length ws) 16 few, lt-ltb d (length ws) l, and-true)

  -- and what then holds
  pub askable-parts : askable ws d ≡ true → (length ws ≤ 16) × (bits_within ws ≡ true) × (d < length ws)
  unfolding askable
  askable-parts h =
      let l = ltb-true _ _ (and_right (leb 1 (length ws) && leb (length ws) 16 && bits_within ws) (ltb d (length ws)) h) in
      let rest = and_left (leb 1 (length ws) && leb (length ws) 16 && bits_within ws) (ltb d (length ws)) h in
      let few = and_left (leb 1 (length ws) && leb (length ws) 16) (bits_within ws) rest in
      (leb-true _ _ (and_right (leb 1 (length ws)) (leb (length ws) 16) few), and_right (leb 1 (length ws) && leb (length ws) 16) (bits_within ws) rest, l)

  -- the domains are bits below sixteen
  pub asked-small : asked ws d < 65536
  unfolding asked bits_within
  asked-small =
      cond-elim (λ s. s < 65536) (askable ws d)
      (λ h.
      let (few, within, l) = askable-parts h in
      lt_of_lt_of_le (closed-lt (length ws) ws (2 ^ d) (word_lt within) (pow-lt l)) (pow_mono few))
      (λ _. omega arith)
    where
      word_lt : bits_within ws ≡ true → (v : ℕ) → get_or ws v 0 < 2 ^ length ws
      word_lt within v = go (dec_lt v (length ws))
        where
          go : Dec (v < length ws) → get_or ws v 0 < 2 ^ length ws
          go (yes b) = ltb-true _ _ (all-at (length ws) _ within v b)
          go (no n) = subst (λ w. w < 2 ^ length ws) (sym (get_or-eq_default ws 0 (omega arith))) (pow_pos (length ws))

-- ---- exactly the chains

pub asked-exactly : AskedExactly
unfolding asked
asked-exactly ws d u h =
    rw h
    (λ m. let (v, own, c) = (closed-exactly ws (2 ^ d) u).0 m in subst (λ v. Chain (linked ws) v u) (bit-other d v own) c, λ c. (closed-exactly ws (2 ^ d) u).1 (d, bit-own d, c))

-- what the words report has exactly the chains
pub reports : (ws : List ℕ) (d code set : ℕ) → code ≡ ask_code ws d → set ≡ asked ws d → ReachReported ws d code set
unfolding ask_code
reports ws d code set same_code same_set =
    record {
      same_code = same_code;
      same_set = same_set;
      exactly = λ e u. rw same_set (asked-exactly ws d u (fine (askable ws d) (sym same_code ∙ e)));
    }
  where
    fine : (b : Bool) → ◌≡◌ {A = ℕ} (cond b 0 32) 0 → b ≡ true
    fine true e = refl
    fine false e = absurd (omega arith)

-- the holders of an accepted table can be asked about each of its domains
holders-askable : (t : List ℕ) (d : ℕ) → Accepted t → d < domains t → askable (holders_of t) d ≡ true
unfolding bits_within holders_of
holders-askable t d a l =
    sym (by_bits (holders_of t) d (omega (arith, holders-length t, (accepted-counts t a).1)) (omega (arith, holders-length t, l)))
    ∙ all_of (length (holders_of t)) _
    (λ v b.
    let below : v < domains t = omega (arith, b, holders-length t) in
    lt-ltb (get_or (holders_of t) v 0) (2 ^ length (holders_of t))
    (rw (holders-length t, words-at (domains t) (λ g. bits_below (domains t) (λ h. reaches t h g)) v 0 below)
    (bits-lt (domains t) (λ h. reaches t h v))))

pub asked-now : AskedNow
unfolding ask_code asked holders_of link_words
asked-now t d u a l =
    let h = holders-askable t d a l in
    (rw h, rw h (relation-closed-exactly (domains t) (reaches t) d u))

pub asked-after-run : AskedAfterRun
unfolding ran
asked-after-run t ws space holders calls answers end kept d u p l =
    let runs : Runs t ws (length space) (length holders) = sym (p.same_code ∙ entry-code t ws space holders) in
    let whole = entry-ran t ws space holders runs in
    let stays = run-accepted t (split ws) (runs-accepted t ws (length space) (length holders) runs) in
    rw (p.same_table ∙ ap (λ o. o.table) whole, p.same_holders ∙ ap (λ o. o.holders) whole)
    (asked-now (run t (split ws)) d u stays.accepted (omega (arith, l, stays.frame.same_domains)))

-- ---- word by word
pub holders-one-word : HoldersOneWord
holders-one-word = holders-length

pub holders-no-other : HoldersNoOther
unfolding holders_of
holders-no-other t h g past = go (dec_lt g (domains t))
  where
    bits : ℕ → ℕ
    bits k = bits_below (domains t) (λ i. reaches t i k)

    go : Dec (g < domains t) → has_bit (get_or (holders_of t) g 0) h ≡ false
    go (yes l) = rw (words-at (domains t) bits g 0 l) (bits-past (domains t) (λ i. reaches t i g) h past)
    go (no n) = rw (words-past (domains t) bits g 0 (omega arith)) (bit-none h)

pub holders-say : HoldersSay
unfolding holders_of
holders-say t h g a b =
    rw (words-at (domains t) (λ g. bits_below (domains t) (λ h. reaches t h g)) g 0 b) (bits_at (domains t) (λ h. reaches t h g) h a)
