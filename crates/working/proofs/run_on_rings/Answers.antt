-- `run_on_rings` meets its contract: the loaded state represents the table, and the stored state is the table at the end of the
-- run. Assumes nothing.
use mathlib.Core.Path.{◌∙◌}
use Rattle.holders.proofs.Filled.{filled-accepted}
use Rattle.working.proofs.LoadStore.{loaded, store}
use Rattle.working.proofs.run_on_rings.Goals as goal

pub run_list-calls-requires : goal.run_list-calls-requires
run_list-calls-requires c = record {
  represents_some = record {
    table = c.args.table.now;
    stands = loaded _ c.requires.accepted _ _ c.domains-n.ensures c.endpoints-m.ensures _ c.args.rings.now _ _ _ _ c.requires.rings_len
        c.load-rows.ensures
        c.load_rings.ensures
        c.load_names-names.ensures
        c.load_owned-owned.ensures
        (c.fill.ensures ∙ filled-accepted _ _ c.requires.accepted c.requires.holders_len);
  };
  list_len_bound = c.requires.list_len_bound;
  list_in_bounds = c.requires.list_in_bounds;
}

pub returns : goal.returns
returns c =
    store _ c.requires.accepted _ _ c.domains-n.ensures c.endpoints-m.ensures _ _ _ _ _ _ _ _ _ _ _ _ _ _
    (c.run_list-calls.ensures _
    (loaded _ c.requires.accepted _ _ c.domains-n.ensures c.endpoints-m.ensures _ c.args.rings.now _ _ _ _ c.requires.rings_len
    c.load-rows.ensures
    c.load_rings.ensures
    c.load_names-names.ensures
    c.load_owned-owned.ensures
    (c.fill.ensures ∙ filled-accepted _ _ c.requires.accepted c.requires.holders_len)))
    c.store.ensures
    c.store_rings.ensures
