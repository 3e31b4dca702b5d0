use Rattle.std.proofs.Common.{refl, arith, rules}
use Rattle.hr_base.specs.declared.name.Seq.{Seq}
use Rattle.record_format.specs.declared.record.Record.TheVariants.{Clear}
use Rattle.layer_tests.proofs.chunks.clear_record.Goals as goal

pub returns : goal.returns
returns c = record {
  one = let seq : Seq = record { 0 = 1 } in Clear 5 seq;
  valid = record {
    valid = record { seq = record { numbered = omega arith; number = omega arith }; prefix = omega arith; key = omega arith; value = omega arith };
    same = refl;
  };
  spelled = rw (c.in_ok-encode.ensures.ok, c.new-bytes.ensures.items) (search rules);
}
