use Rattle.hp_laws.specs.Protocol.{BareWhereMade, ChangesAreCalls, HandsApart, PagesAreReserved, PassedIsBare, SparesSuffice}
use Rattle.hp_laws.proofs.Apart.{bare_made, hands_kept_apart, passed_bare}
use Rattle.hp_laws.proofs.Removals.{page_marked}
use Rattle.hp_linux_laws.proofs.Relaxed.{kept_either_way}
use Rattle.hp_linux_laws.proofs.rows_that_look_for_pages_first_keep_what_calls_stand_on.Goals as goal

pub returns : goal.returns
returns c = record {
  changes = kept_either_way ChangesAreCalls (λ s kept. kept.inv.changes);
  spares = kept_either_way SparesSuffice (λ s kept. kept.inv.spares);
  reserved = kept_either_way PagesAreReserved (λ s kept f i x e. page_marked s.geometry s f i x kept.inv e);
  apart = kept_either_way HandsApart hands_kept_apart;
  made = kept_either_way BareWhereMade bare_made;
  passed = kept_either_way PassedIsBare passed_bare;
}
