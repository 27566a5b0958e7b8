-- The paper's code of each refusal (document 01, 'Where each number is checked').
use Rattle.std.specs.Prelude.{ℕ}
use Rattle.calls.specs.declared.Refusal.{Refusal}
use Rattle.calls.specs.declared.Refusal.TheVariants.{Stray, UnknownKind, UnknownCaller, UnusedField, NoSecondWord, NoSuchName, NoSuchEndpoint, MayNotSend, NotOwner, NothingWaiting, NoSuchDomain, BadRights, LacksRight, NoInfluence}

abbrev pub number_of : Refusal → ℕ
number_of Stray = 10
number_of UnknownKind = 11
number_of UnknownCaller = 12
number_of UnusedField = 13
number_of NoSecondWord = 14
number_of NoSuchName = 15
number_of NoSuchEndpoint = 16
number_of MayNotSend = 17
number_of NotOwner = 18
number_of NothingWaiting = 19
number_of NoSuchDomain = 20
number_of BadRights = 21
number_of LacksRight = 22
number_of NoInfluence = 23
