-- Two tables with equal parts (document 01, 'Influence'): the unchanging parts, a domain's part, and a domain's part with the
-- rights that are held on it.
use Rattle.std.specs.Prelude.{ℕ, ◌<◌, ◌≡◌, List, length, take, drop}
use Rattle.machine.specs.Table.{domains, endpoints, rights_word, endpoint}
use Rattle.machine.specs.Queue.{owner}
use Rattle.machine.specs.Purge.{rights_of}

-- Two tables have the same unchanging parts: length, n, m, and each endpoint's name and info (owner and capacity).
pub record SameFrame (s t : List ℕ) : Type 0 where
  pub size : length s ≡ length t
  pub same_domains : domains s ≡ domains t
  pub same_endpoints : endpoints s ≡ endpoints t
  pub identity : (e : ℕ) → e < endpoints t → take 2 (endpoint s e) ≡ take 2 (endpoint t e)

-- Two tables have the same part of the domain v: its rights, and the waiting, lost and message words of its endpoints.
pub record SamePart (v : ℕ) (s t : List ℕ) : Type 0 where
  pub rights : rights_of v s ≡ rights_of v t
  pub queues : (e : ℕ) → e < endpoints t → owner (endpoint t e) ≡ v → drop 2 (endpoint s e) ≡ drop 2 (endpoint t e)

-- Two tables agree on the domain v: on its part, and on the rights that every domain holds on it.
pub record Agree (v : ℕ) (s t : List ℕ) : Type 0 where
  pub part : SamePart v s t
  pub on_it : (u : ℕ) → u < domains t → rights_word s u v ≡ rights_word t u v
