use Rattle.std.proofs.Common.{◌∙◌, ap, arith, length, refl, map, List}
use Rattle.std.proofs.lemmas.List.{length-map, with_items_is}
use Rattle.std.specs.Vec.{with_items}
use Rattle.occ_ledger.specs.Scans.{ended_spot, placed}
use Rattle.occ_ledger.specs.declared.lists.Spot.{Spot}
use Rattle.occ_ledger.proofs.ListLaws.{moved_is, placed_length}
use Rattle.occ_ledger.proofs.lists.Lists.settle.Goals as goal

pub returns : goal.returns
returns c =
    let old = c.args.self.now.present.items in
    let made = c.settle.ensures ∙ ap (λ (ss : List Spot). map ended_spot (placed ss ss)) c.as_mut_slice.ensures.value in
    moved_is c.args.self.now (record { told = c.args.self.now.told; present = with_items c.args.self.now.present c.settle.new.present }) refl
    (with_items_is c.args.self.now.present c.settle.new.present
    (omega (arith, ap length made, length-map (placed old old) ended_spot, placed_length old old, ap length c.as_mut_slice.ensures.value, c.as_mut_slice.ensures.len))
    ∙ made)
