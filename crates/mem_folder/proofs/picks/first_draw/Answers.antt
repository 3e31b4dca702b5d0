use Rattle.std.proofs.Common.{ℕ, ◌/◌, ◌^◌, ap, sym, ◌∙◌}
use Rattle.hr_base.specs.declared.limits.Pick.{Pick}
use Rattle.mem_folder.specs.Picks.{draw_after, draw_at}
use Rattle.mem_folder.proofs.picks.first_draw.Goals as goal

pub returns-in-Mix : goal.returns-in-Mix
unfolding draw_after
returns-in-Mix c =
    ap (λ (state : ℕ). state / 2 ^ 33) c.next_state.ensures ∙ sym (ap (λ (pick : Pick). draw_at pick 0) c.in-Mix.is)
