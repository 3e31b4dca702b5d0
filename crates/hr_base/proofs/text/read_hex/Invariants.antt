use Rattle.std.proofs.Common.{◌≡◌, ◌^◌, ◌<◌, take}
use Rattle.hr_base.specs.Names.{hex_digits}
use Rattle.hr_base.proofs.text.read_hex.Given as goal

-- the digits so far spell the number so far
abbrev pub invariant-loop-digit : goal.invariant-loop-digit
invariant-loop-digit l = record {
  fits : l.number < 16 ^ l.digit-index;
  spelled : take l.digit-index l.digits ≡ hex_digits l.digit-index l.number;
}
