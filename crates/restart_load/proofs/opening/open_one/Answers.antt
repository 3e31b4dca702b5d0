use Rattle.std.proofs.Common.{ap, subst, ◌∙◌}
use Rattle.hr_base.specs.declared.name.Partition.{Partition}
use Rattle.hr_base.specs.Entries.{Entries}
use Rattle.crash_law.specs.Accounts.{fresh_account}
use Rattle.partition_writer.specs.Standing.{Stands}
use Rattle.partition_writer.specs.WriterViews.{standing}
use Rattle.restart_load.proofs.opening.open_one.Goals as goal

pub returns-clause-opened : goal.returns-clause-opened
returns-clause-opened g c =
    let made = c.resume.ensures in
    record {
      number = ap (λ (p : Partition). p.0) made.partition;
      limited = made.limits;
      running = made.running;
      whole = made.lost;
      records = made.records;
      faults = ap g.F.Folder.count made.port ∙ c.in_ok-port.ensures.fresh_count;
      maps = made.maps;
      next = made.next;
      next_chunk = made.next_chunk;
      hands = made.hands;
      files = made.files;
      account = λ y b is maps first chunk.
          subst (λ (m : Entries). Stands (standing c.resume.result) b (fresh_account m)) maps
          (made.account y b is (maps ∙ made.maps) (first ∙ made.next) (chunk ∙ made.next_chunk));
    }
