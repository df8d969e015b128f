use Rattle.ucq_store.proofs.Named.{derived_keeps_names, listing_keeps_names, live_keep_names}
use Rattle.ucq_store.proofs.laws.rows_keep_names.Goals as goal

pub returns-clause-derived : goal.returns-clause-derived
returns-clause-derived c = derived_keeps_names

pub returns-clause-listing : goal.returns-clause-listing
returns-clause-listing c = listing_keeps_names

pub returns-clause-live : goal.returns-clause-live
returns-clause-live c = live_keep_names
