use Rattle.std.proofs.Common.{◌≡◌, take}
use Rattle.occ_ledger.proofs.lists.copied_told.Given as goal

abbrev pub invariant-loop-notice : goal.invariant-loop-notice
invariant-loop-notice l = l.copies.items ≡ take l.notice-index l.fn.told
