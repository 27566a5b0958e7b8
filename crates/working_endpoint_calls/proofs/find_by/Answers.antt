-- `find_by` meets its contract: the hint is right, or the name is searched for. Assumes nothing.
use Rattle.std.proofs.Common.{◌≡◌, ◌∙◌, get_or, rules}
use Rattle.rules.specs.Access.{found_of}
use Rattle.working_theory.specs.State.{hint_place}
use Rattle.working_endpoint_calls.proofs.Hints.{by-hint, by-search}
use Rattle.working_endpoint_calls.proofs.find_by.Goals as goal

pub returns-then-has_name : goal.returns-then-has_name
unfolding found_of
returns-then-has_name c =
    let a = c.args in
    let is : c.from-e.result ≡ get_or a.hints.now (hint_place a.name) 0 = search rules in
    by-hint _ a.names.now a.hints.now _ _ _ is c.has_name.ensures c.if-has_name.true

pub returns : goal.returns
returns c =
    let a = c.args in
    let is : c.from-e.result ≡ get_or a.hints.now (hint_place a.name) 0 = search rules in
    c.find.ensures ∙ by-search _ a.names.now a.hints.now _ _ _ is c.has_name.ensures c.if-has_name.false
