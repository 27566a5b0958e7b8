-- Two tables with the same unchanging parts (specs/SameParts: SameFrame), and a domain's rights in both.
-- Assumes nothing.
use mathlib.Core.Path.{◌≡◌, refl, sym, ap, ap₂, subst, ◌∙◌}
use mathlib.Core.List.{List, ◌++◌}
use Prim.Native.Nat.{ℕ, ◌<◌}
use native.Mathlib.Nat.{mul-le-mul_right, suc-mul}
use native.Mathlib.Omega.{arith}
use lib.ListN.{length, get_or, take, drop, length-drop, take-append-drop}
use lib.Seq.{get_or-take, get_or-drop, ext_get_or, length-take-le}
use Rattle.machine.specs.Table.{domains, rights_at, rights_word}
use Rattle.machine.specs.Purge.{rights_of}
use Rattle.machine.specs.SameParts.{SameFrame}
use Rattle.machine.proofs.Table.{Sized}

-- the two halves of an endpoint make it whole
pub whole : (p q : List ℕ) → take 2 p ≡ take 2 q → drop 2 p ≡ drop 2 q → p ≡ q
whole p q a b = sym (take-append-drop 2 p) ∙ ap₂ ◌++◌ a b ∙ take-append-drop 2 q

pub frame-refl : (t : List ℕ) → SameFrame t t
frame-refl t = record { size = refl; same_domains = refl; same_endpoints = refl; identity = λ e l. refl }

pub frame-sym : {s t : List ℕ} → SameFrame s t → SameFrame t s
frame-sym {s} {t} f =
    record {
      size = sym f.size;
      same_domains = sym f.same_domains;
      same_endpoints = sym f.same_endpoints;
      identity = λ e l. sym (f.identity e (subst (λ (m : ℕ). e < m) f.same_endpoints l));
    }

pub frame-trans : {r s t : List ℕ} → SameFrame r s → SameFrame s t → SameFrame r t
frame-trans f g =
    record {
      size = f.size ∙ g.size;
      same_domains = f.same_domains ∙ g.same_domains;
      same_endpoints = f.same_endpoints ∙ g.same_endpoints;
      identity = λ e l. f.identity e (subst (λ (m : ℕ). e < m) (sym g.same_endpoints) l) ∙ g.identity e l;
    }

-- a domain's rights, word by word
pub rights_of-word : (t : List ℕ) (v g : ℕ) → g < domains t → get_or (rights_of v t) g 0 ≡ rights_word t v g
unfolding rights_of rights_word
rights_of-word t v g l =
    get_or-take (domains t) (drop (rights_at (domains t) v 0) t) g 0 l
    ∙ get_or-drop (rights_at (domains t) v 0) t g 0
    ∙ ap (λ (i : ℕ). get_or t i 0) (omega arith)

pub rights_of-length : (t : List ℕ) → Sized t → (v : ℕ) → v < domains t → length (rights_of v t) ≡ domains t
unfolding rights_of
rights_of-length t sized v l =
    length-take-le (domains t) (drop (rights_at (domains t) v 0) t)
    (simp length-drop (let b = mul-le-mul_right (domains t) l in omega (arith, suc-mul v (domains t))))

pub rights_of-ext : (s t : List ℕ) → Sized s → Sized t → domains s ≡ domains t → (v : ℕ) → v < domains t → ((g : ℕ) → g < domains t → rights_word s v g ≡ rights_word t v g) → rights_of v s ≡ rights_of v t
rights_of-ext s t zs zt d v l f =
    let ls : length (rights_of v s) ≡ domains s = rights_of-length s zs v (omega arith) in
    ext_get_or 0 (rights_of v s) (rights_of v t) (ls ∙ d ∙ sym (rights_of-length t zt v l))
    (λ g b. rights_of-word s v g (omega arith) ∙ f g (omega arith) ∙ sym (rights_of-word t v g (omega arith)))
