use Rattle.std.proofs.Common.{sym, rules, ◌≡◌, Some}
use Rattle.hr_base.specs.declared.name.Class.{Class}
use Rattle.value_chunk.specs.Chunks.{Chunk}
use Rattle.writer_files.specs.Stocks.{no_names, taking_in}
use Rattle.writer_files.specs.StockViews.{stock}
use Rattle.partition_writer.proofs.StandLaws.{stand_resumed}
use Rattle.dir_files.proofs.JoinLaws.{no_some}
use Rattle.partition_writer.proofs.FileLaws.{none_in, none_taken}
use Rattle.partition_writer.proofs.StockLaws.{none_own, none_ready, none_settled}
use Rattle.partition_writer.proofs.writer.Writer.resume.Goals as goal

pub invariant_of-result : goal.invariant_of-result
invariant_of-result g c =
    let none = λ (class : Class) (chunk : Chunk) (is : (taking_in (stock c.new.result) class) ≡ Some chunk).
    no_some (taking_in (stock c.new.result) class) chunk (none_in (stock c.new.result) c.new.ensures.hands class) is in
    record {
      partitioned = c.requires.partition;
      value_limit = c.requires.limits.value;
      tomb_limit = c.requires.limits.tomb;
      numbered = c.requires.numbered;
      limited = c.requires.limited;
      chunk_numbered = c.requires.chunk_numbered;
      chunk_limited = c.requires.chunk_limited;
      own = none_own c.args.p (stock c.new.result) none;
      ready = λ running. none_ready (stock c.new.result) none;
      below = λ tells running name file is. absurd (no_some _ file (c.new.ensures.files tells name) is);
      lends = λ tells. c.new.ensures.lends tells no_names;
      unlost = search rules;
      lengths = c.requires.lengths;
    }

pub returns-clause-account : goal.returns-clause-account
returns-clause-account g c = λ tells b is maps first chunk.
    stand_resumed _ b is (c.new.ensures.files tells) (none_taken (stock c.new.result) c.new.ensures.hands) (sym maps) (search rules) (sym first) (sym chunk) (search rules)

pub returns-clause-settled : goal.returns-clause-settled
returns-clause-settled g c = none_settled (stock c.new.result) c.new.ensures.fresh c.new.ensures.hands
