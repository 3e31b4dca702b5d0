use Rattle.std.proofs.Common.{◌≡◌, false, ◌∙◌}
use Rattle.std.proofs.lemmas.Bool.{false≢true}
use Rattle.value_chunk.specs.Chunks.{Chunk}
use Rattle.writer_files.proofs.TakingLaws.{all_parts, same_takings}
use Rattle.writer_files.proofs.taking.Fillings.sync.Goals as goal

pub returns-in_err-sync_taking-clause-idle : goal.returns-in_err-sync_taking-clause-idle
returns-in_err-sync_taking-clause-idle g c all =
    let parts = all_parts (λ (x : Chunk). x.unsynced ≡ false) (record { values = c.self.inside.values; tombs = c.self.inside.tombs; clears = c.self.inside.clears }) c.args.self.now c.self.view_is all in
    absurd (false≢true (c.in_err-sync_taking.ensures.idle parts.0).0)

pub returns-in_err-sync_taking-2-clause-idle : goal.returns-in_err-sync_taking-2-clause-idle
returns-in_err-sync_taking-2-clause-idle g c all =
    let parts = all_parts (λ (x : Chunk). x.unsynced ≡ false) (record { values = c.self.inside.values; tombs = c.self.inside.tombs; clears = c.self.inside.clears }) c.args.self.now c.self.view_is all in
    absurd (false≢true (c.in_err-sync_taking-2.ensures.idle parts.1).0)

pub returns-clause-idle : goal.returns-clause-idle
returns-clause-idle g c all =
    let parts = all_parts (λ (x : Chunk). x.unsynced ≡ false) (record { values = c.self.inside.values; tombs = c.self.inside.tombs; clears = c.self.inside.clears }) c.args.self.now c.self.view_is all in
    let first = c.in_ok-sync_taking.ensures.idle parts.0 in
    let second = c.in_ok-sync_taking-2.ensures.idle parts.1 in
    let third = c.sync_taking-3.ensures.idle parts.2 in (
      third.0,
      same_takings c.self.inside.values c.self.inside.tombs c.self.inside.clears c.sync_taking.new.taking c.sync_taking-2.new.taking c.sync_taking-3.new.taking c.args.self.now first.1 second.1 third.1 c.self.view_is,
      third.2 ∙ second.2 ∙ first.2,
    )
