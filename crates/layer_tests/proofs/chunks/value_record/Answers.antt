use Rattle.std.proofs.Common.{length, refl, ap, arith, rules}
use Rattle.hr_base.specs.declared.name.Seq.{Seq}
use Rattle.record_format.specs.declared.record.Record.TheVariants.{Value}
use Rattle.layer_tests.proofs.chunks.value_record.Goals as goal

pub returns : goal.returns
returns c = record {
  one = let seq : Seq = record { 0 = 1 } in Value seq 5 c.from_static.result c.from_static-2.result;
  valid = record {
    valid = record {
      seq = record { numbered = omega arith; number = omega arith };
      prefix = omega arith;
      key = omega (arith, ap length c.from_static.ensures);
      value = omega (arith, ap length c.from_static-2.ensures);
    };
    same = refl;
  };
  spelled = rw (c.in_ok-encode.ensures.ok, c.new-bytes.ensures.items) (search rules);
}
