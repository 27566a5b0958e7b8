-- The two passes over the calls: what each keeps. Assumes nothing.
use Prim.Native.Nat.{ℕ, ◌+◌, ◌<◌, ◌≤◌}
use mathlib.Core.Path.{◌≡◌, refl, sym, ap, ap₂, ◌∙◌}
use mathlib.Core.Bool.{true, false, ◌&&◌}
use mathlib.Core.List.{List, [], ◌∷◌, ◌++◌, append_assoc, append-nil}
use mathlib.Core.Option.{Option, some}
use native.Mathlib.Numerals.{add-one}
use native.Mathlib.Omega.{arith}
use lib.ListN.{length, take, drop, length-append, drop_of_length-le}
use lib.Seq.{drop-cons, take_at, drop_at, drop-drop}
use Rattle.machine.proofs.Bools.{and_left, and_right}
use Rattle.calls.specs.declared.Call.{Call}
use Rattle.writer_theory.specs.Words.{fits, encoded_words, all_fit, written}
use Rattle.call_encode.specs.Put.{put_at}
use Rattle.call_encode.proofs.Putting.{put-there}
use Rattle.std.specs.Prelude.{Ok, Err}
use Rattle.writer.specs.declared.WriteRefusal.TheVariants.{BadCall}
use Rattle.writer_theory.specs.Write.{unfit_from, first_unfit}
use Rattle.writer_theory.specs.Rows.{no_call}
use Rattle.writer.specs.Given.{Gives}
use Rattle.writer.specs.FirstPass.{found, measured}

-- the call that is given for index i, and those after it
pub front-given : {gives : ℕ → Call → Type 0} {n : ℕ} {cs : List Call} (g : Gives gives n cs) (i : ℕ) (c : Call) → i < n → gives i c
    → drop i cs ≡ c ∷ drop (i + 1) cs
front-given {cs = cs} g i c l is =
    let m : i < length cs = omega (arith, g.count) in
    rw (add-one i, g.each i c l is) (drop-cons cs i no_call m)

-- ---- the first pass: the calls before index i fit and are so many words, and the others are still to be tested
pub record Measuring (cs : List Call) (words i : ℕ) : Type 0 where
  pub within : i ≤ length cs
  pub unfit : unfit_from i (drop i cs) ≡ first_unfit cs
  pub sum : words + length (written (drop i cs)) ≡ length (written cs)

pub measuring-start : (cs : List Call) → Measuring cs 0 0
unfolding first_unfit
measuring-start cs = record { within = omega arith; unfit = refl; sum = omega arith }

module _ {cs : List Call} {words i : ℕ} (m : Measuring cs words i) where
  module _ (c : Call) (front : drop i cs ≡ c ∷ drop (i + 1) cs) (l : i < length cs) where
    -- a call that doesn't fit is the first
    pub measured-unfit : fits c ≡ false → Err (BadCall i) ≡ measured cs
    unfolding measured unfit_from
    measured-unfit h =
        let first : unfit_from i (drop i cs) ≡ some i = rw (front, h) in
        ap (λ (o : Option ℕ). found o (length (written cs))) (sym first ∙ m.unfit)

    -- one that fits is measured
    pub measuring-next : (w : ℕ) → w ≡ length (encoded_words c) → fits c ≡ true → Measuring cs (words + w) (i + 1)
    unfolding unfit_from written
    measuring-next w e h =
        record {
          within = omega arith;
          unfit = let next : unfit_from i (drop i cs) ≡ unfit_from (i + 1) (drop (i + 1) cs) = rw (front, h) in sym next ∙ m.unfit;
          sum =
              omega (
                arith,
                m.sum,
                ap (λ (x : List Call). length (written x)) front,
                length-append (encoded_words c) (written (drop (i + 1) cs)),
              );
        }

  -- no call is left: all fit
  pub measured-all : length cs ≤ i → Ok words ≡ measured cs
  unfolding measured unfit_from written
  measured-all past =
      let nothing = drop_of_length-le cs past in
      ap₂ found (sym (ap (unfit_from i) nothing) ∙ m.unfit)
      (omega (arith, m.sum, ap (λ (x : List Call). length (written x)) nothing))

-- ---- the second pass: the words of the calls before index i are written, up to index at; the other calls fit and have space
pub record Putting (cs : List Call) (list₀ list : List ℕ) (at i : ℕ) : Type 0 where
  pub within : i ≤ length cs
  pub fit : all_fit (drop i cs) ≡ true
  pub done : List ℕ
  pub long : length done ≡ at
  pub filled : list ≡ done ++ drop at list₀
  pub whole : done ++ written (drop i cs) ≡ written cs
  pub size : length list ≡ length list₀

pub putting-start : (cs : List Call) (list : List ℕ) → all_fit cs ≡ true → Putting cs list list 0 0
putting-start cs list h =
    record { within = omega arith; fit = h; done = []; long = refl; filled = refl; whole = refl; size = refl }

module _ {cs : List Call} {list₀ list : List ℕ} {at i : ℕ} (p : Putting cs list₀ list at i) where
  module _ (enough : length (written cs) ≤ length list₀) (c : Call) (front : drop i cs ≡ c ∷ drop (i + 1) cs) (l : i < length cs) where
    all-fit-here : (fits c && all_fit (drop (i + 1) cs)) ≡ true
    unfolding all_fit
    all-fit-here = sym (ap all_fit front) ∙ p.fit

    -- the call fits
    pub fits-here : fits c ≡ true
    fits-here = and_left (fits c) (all_fit (drop (i + 1) cs)) all-fit-here

    -- there is space for the call
    room : at + length (encoded_words c) ≤ length list
    unfolding written
    room =
        omega (
          arith,
          p.size,
          p.long,
          ap length p.whole,
          length-append p.done (written (drop i cs)),
          ap (λ (x : List Call). length (written x)) front,
          length-append (encoded_words c) (written (drop (i + 1) cs)),
        )

    pub putting-next : (w : ℕ) (list' : List ℕ) → w ≡ length (encoded_words c) → list' ≡ put_at list at c → length list' ≡ length list → Putting cs list₀ list' (at + w) (i + 1)
    unfolding written
    putting-next w list' e put same =
        record {
          within = omega arith;
          fit = and_right (fits c) (all_fit (drop (i + 1) cs)) all-fit-here;
          done = p.done ++ encoded_words c;
          long = length-append p.done (encoded_words c) ∙ omega (arith, p.long);
          filled =
              put
              ∙ put-there list at c fits-here room
              ∙ ap₂ (λ (x y : List ℕ). x ++ (encoded_words c ++ y)) before behind
              ∙ sym (append_assoc p.done (encoded_words c) (drop (at + w) list₀));
          whole =
              append_assoc p.done (encoded_words c) (written (drop (i + 1) cs))
              ∙ ap (λ (x : List Call). p.done ++ written x) (sym front)
              ∙ p.whole;
          size = same ∙ p.size;
        }
      where
        before : take at list ≡ p.done
        before = ap (take at) p.filled ∙ take_at p.done (drop at list₀) at p.long

        behind : drop (at + length (encoded_words c)) list ≡ drop (at + w) list₀
        behind =
            sym (drop-drop (length (encoded_words c)) at list)
            ∙ ap (λ (x : List ℕ). drop (length (encoded_words c)) (drop at x)) p.filled
            ∙ ap (drop (length (encoded_words c))) (drop_at p.done (drop at list₀) at p.long)
            ∙ drop-drop (length (encoded_words c)) at list₀
            ∙ ap (λ (k : ℕ). drop (at + k) list₀) (sym e)

  -- no call is left
  pub put-done : length cs ≤ i → list ≡ written cs ++ drop (length (written cs)) list₀
  unfolding written
  put-done past =
      let nothing : written (drop i cs) ≡ [] = ap written (drop_of_length-le cs past) in
      let all : p.done ≡ written cs = sym (append-nil p.done) ∙ ap (λ (x : List ℕ). p.done ++ x) (sym nothing) ∙ p.whole in
      p.filled ∙ ap₂ (λ (x : List ℕ) (k : ℕ). x ++ drop k list₀) all (sym p.long ∙ ap length all)
