-- Sets of domains, and whether a call's caller is in one: as the theory of unwinding has them.
unfoldable pub use Rattle.unwinding.specs.DomainSet.{member, caller_in, called_by, from_group}
