use Rattle.restart_load.proofs.NameLaws.{in_order, listing_moved, listing_same}
use Rattle.restart_load.proofs.listing.list_names.Goals as goal

pub returns-clause-sorted : goal.returns-clause-sorted
returns-clause-sorted g c = in_order _ _ c.in_ok-names.ensures.valid c.sort_unstable.ensures.permutation c.sort_unstable.ensures.sorted

pub returns-clause-listed : goal.returns-clause-listed
returns-clause-listed g c = λ tells.
    listing_moved _ _ _ c.sort_unstable.ensures.permutation (listing_same _ _ _ (c.in_ok-names.ensures.same tells) (c.in_ok-names.ensures.listed tells))
