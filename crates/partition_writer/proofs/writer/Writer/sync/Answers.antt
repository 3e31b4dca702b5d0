use Rattle.std.proofs.Common.{rules, refl}
use Rattle.dir_files.proofs.JoinLaws.{rises_same}
use Rattle.writer_files.specs.Stocks.{files_of, no_names}
use Rattle.writer_files.specs.StockViews.{stock}
use Rattle.partition_writer.specs.WriterViews.{standing}
use Rattle.partition_writer.proofs.LimitLaws.{some_halted}
use Rattle.partition_writer.proofs.StandLaws.{stand_all_synced, stand_unsynced}
use Rattle.partition_writer.proofs.StockLaws.{keeps_taking, kept_below, kept_own, kept_ready, same_durable, same_fits, same_rises}
use Rattle.partition_writer.proofs.writer.Writer.sync.Goals as goal

pub invariant_of-self : goal.invariant_of-self
invariant_of-self g c = record {
  partitioned = c.args.self.now.partitioned;
  value_limit = c.args.self.now.value_limit;
  tomb_limit = c.args.self.now.tomb_limit;
  numbered = c.args.self.now.numbered;
  limited = c.args.self.now.limited;
  chunk_numbered = c.args.self.now.chunk_numbered;
  chunk_limited = c.args.self.now.chunk_limited;
  own = kept_own c.args.self.now.partition (stock c.args.self.now.files) (stock c.give_full.new.files) c.args.self.now.own (keeps_taking (stock c.args.self.now.files) (stock c.sync.new.self) (stock c.give_full.new.files) c.sync.ensures.kept.taking c.give_full.ensures.taking);
  ready = λ running. kept_ready (stock c.args.self.now.files) (stock c.give_full.new.files) (c.args.self.now.ready running) (keeps_taking (stock c.args.self.now.files) (stock c.sync.new.self) (stock c.give_full.new.files) c.sync.ensures.kept.taking c.give_full.ensures.taking);
  below = λ tells running. kept_below _ _ c.args.self.now.next_chunk (c.args.self.now.below tells running) (same_rises (files_of (stock c.args.self.now.files)) (files_of (stock c.sync.new.self)) (files_of (stock c.give_full.new.files)) (c.sync.ensures.files tells) (c.give_full.ensures.files tells));
  lends = c.give_full.ensures.lends;
  unlost = c.args.self.now.unlost;
  lengths = c.args.self.now.lengths;
}

pub invariant_of-self-in-Err-Memory : goal.invariant_of-self-in-Err-Memory
invariant_of-self-in-Err-Memory g c = record {
  partitioned = c.args.self.now.partitioned;
  value_limit = c.args.self.now.value_limit;
  tomb_limit = c.args.self.now.tomb_limit;
  numbered = c.args.self.now.numbered;
  limited = c.args.self.now.limited;
  chunk_numbered = c.args.self.now.chunk_numbered;
  chunk_limited = c.args.self.now.chunk_limited;
  own = kept_own c.args.self.now.partition (stock c.args.self.now.files) (stock c.sync.new.self) c.args.self.now.own c.sync.ensures.kept.taking;
  ready = λ running. kept_ready (stock c.args.self.now.files) (stock c.sync.new.self) (c.args.self.now.ready running) c.sync.ensures.kept.taking;
  below = λ tells running. kept_below _ _ c.args.self.now.next_chunk (c.args.self.now.below tells running) (c.sync.ensures.files tells);
  lends = λ tells. c.sync.ensures.lends tells no_names (c.args.self.now.lends tells);
  unlost = c.args.self.now.unlost;
  lengths = c.args.self.now.lengths;
}

pub invariant_of-self-in-Err-Fault : goal.invariant_of-self-in-Err-Fault
invariant_of-self-in-Err-Fault g c = record {
  partitioned = c.args.self.now.partitioned;
  value_limit = c.args.self.now.value_limit;
  tomb_limit = c.args.self.now.tomb_limit;
  numbered = c.args.self.now.numbered;
  limited = c.args.self.now.limited;
  chunk_numbered = c.args.self.now.chunk_numbered;
  chunk_limited = c.args.self.now.chunk_limited;
  own = kept_own c.args.self.now.partition (stock c.args.self.now.files) (stock c.sync.new.self) c.args.self.now.own c.sync.ensures.kept.taking;
  ready = λ running. absurd (some_halted _ running);
  below = λ tells running. absurd (some_halted _ running);
  lends = λ tells. c.sync.ensures.lends tells no_names (c.args.self.now.lends tells);
  unlost = λ running. absurd (some_halted _ running);
  lengths = c.args.self.now.lengths;
}

pub returns-in-Ok-clause-account : goal.returns-in-Ok-clause-account
returns-in-Ok-clause-account g c = λ tells b a h.
    let old = files_of (stock c.args.self.now.files) in
    let mid = files_of (stock c.sync.new.self) in
    let new = files_of (stock c.give_full.new.files) in
    stand_all_synced _ _ b a h (search rules) (search rules) (same_rises old mid new (c.sync.ensures.files tells) (c.give_full.ensures.files tells)) (same_fits mid new (c.sync.ensures.fits tells) (c.give_full.ensures.files tells))
    (keeps_taking (stock c.args.self.now.files) (stock c.sync.new.self) (stock c.give_full.new.files) c.sync.ensures.kept.taking c.give_full.ensures.taking) (search rules) (search rules) (search rules) (search rules) (search rules)
    (same_durable mid new (c.in-Ok.ensures.durable tells) (c.give_full.ensures.files tells))

pub returns-in-Err-Memory-clause-account : goal.returns-in-Err-Memory-clause-account
returns-in-Err-Memory-clause-account g c = λ tells b a h.
    stand_unsynced (standing c.args.self.now) _ b a h refl refl (c.sync.ensures.files tells) (c.sync.ensures.fits tells) c.sync.ensures.kept.taking
    (record { partition = refl; limits = refl; maps = refl; records = refl; next = refl; lost = refl })

pub returns-in-Err-Fault-clause-account : goal.returns-in-Err-Fault-clause-account
returns-in-Err-Fault-clause-account g c = λ tells b a h.
    stand_unsynced (standing c.args.self.now) _ b a h refl refl (c.sync.ensures.files tells) (c.sync.ensures.fits tells) c.sync.ensures.kept.taking
    (record { partition = refl; limits = refl; maps = refl; records = refl; next = refl; lost = refl })

pub returns-in-Some-clause-files : goal.returns-in-Some-clause-files
returns-in-Some-clause-files g c = λ tells name. rises_same _

pub give_full-requires-clause-lends : goal.give_full-requires-clause-lends
give_full-requires-clause-lends g c told = c.sync.ensures.lends told no_names (c.args.self.now.lends told)
