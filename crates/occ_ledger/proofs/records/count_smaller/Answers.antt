use Rattle.std.proofs.Common.{ap, arith}
use Rattle.record_format.specs.Spelling.{seq_of}
use Rattle.occ_ledger.proofs.ScanLaws.{smaller_all, smaller_ends, smaller_more}
use Rattle.occ_ledger.proofs.records.count_smaller.Goals as goal

pub loop-i-preserved : goal.loop-i-preserved
loop-i-preserved c =
    smaller_more c.args.seq c.args.records.now c.loop-i.i c.index-records-i.result c.loop-i-test.true
    (omega (arith, c.if-seq_of-seq.false, c.seq_of.ensures, ap seq_of c.index-records-i.is)) c.loop-i.invariant

pub returns-then-seq_of-seq-clause-value : goal.returns-then-seq_of-seq-clause-value
returns-then-seq_of-seq-clause-value c =
    smaller_ends c.args.seq c.args.records.now c.loop-i.i c.index-records-i.result c.loop-i-test.true
    (omega (arith, c.if-seq_of-seq.true, c.seq_of.ensures, ap seq_of c.index-records-i.is)) c.loop-i.invariant

pub returns-clause-value : goal.returns-clause-value
returns-clause-value c = smaller_all c.args.seq c.args.records.now c.loop-i.i (omega (arith, c.loop-i-test.false)) c.loop-i.auto.i-end c.loop-i.invariant
