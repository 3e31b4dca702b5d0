-- A script with a line that needs a number which none can have is not played to its end.
use Rattle.std.specs.Prelude.{◌≡◌, ℕ, ◌≤◌, ◌^◌, Bool, true, List, Option, None, Some}
use Rattle.std.proofs.Common.{arith, subst}
use Rattle.hr_base.specs.declared.limits.Limits.{Limits}
use Rattle.hr_base.specs.LimitRanges.{IsLimits}
use Rattle.dir_files.specs.Images.{Image}
use Rattle.crash_law.specs.Restarts.{IsRestartable}
use Rattle.script_text.specs.declared.line.Line.{Line}
use Rattle.script_text.specs.declared.line.Mode.TheVariants.{Play}
use Rattle.script_text.proofs.Readings.{one_reading}
use Rattle.store_drill.specs.Numbers.{IsSpentAt}
use Rattle.store_drill.proofs.StartLaws.{one_spending}
use Rattle.store_serve.specs.Scripts.{IsFit}
use Rattle.store_serve.specs.Served.{WasPlayed, WillSpend}

-- what is a script is fit to be played
pub spends_fit : (limits : Limits) (image : Image) (left : Option (List ℕ)) → WillSpend limits image left → IsFit limits.partitions left
spends_fit limits image None will = absurd will
spends_fit limits image (Some bytes) will = (will.lines, will.script)

-- its folder restarts
pub spends_restarts : (limits : Limits) (image : Image) (left : Option (List ℕ)) → WillSpend limits image left → IsRestartable image limits.partitions
spends_restarts limits image None will = absurd will
spends_restarts limits image (Some bytes) will = will.started.maps.restartable

-- and it is not done
pub spends_undone : (tells : Bool) (limits : Limits) (image : Image) (left before now : Option (List ℕ)) → tells ≡ true → IsLimits limits → WillSpend limits image left
    → WasPlayed tells limits image left before now → ⊥
spends_undone tells limits image None before now y valid will played = will
spends_undone tells limits image (Some bytes) before now y valid will played =
    let few : limits.partitions ≤ 2 ^ 64 = omega (arith, valid.partitions.few) in
    let same : will.lines ≡ played.lines = one_reading Play limits.partitions bytes will.lines played.lines few will.script.1 played.script.1 in
    played.unspent will.count will.next
    (subst (λ (lines : List Line). IsSpentAt limits lines will.count played.start will.next) same
    (one_spending image limits will.lines will.count will.start played.start will.next will.script.1.valid will.started (played.started y) will.spent))
