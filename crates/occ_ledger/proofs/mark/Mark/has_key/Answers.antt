use Rattle.std.proofs.Common.{Bool, ℕ, List, false, cond, nat_eq, sym, ap, ◌∙◌}
use Rattle.std.specs.Cmp.Lexicographic.{pointwise}
use Rattle.std.proofs.lemmas.Bool.Decides.{Decides-eqb}
use Rattle.hr_base.specs.Entries.{key_at}
use Rattle.occ_ledger.specs.Marks.{identity_in}
use Rattle.occ_ledger.proofs.KeyLaws.{key_ties}
use Rattle.occ_ledger.proofs.mark.Mark.has_key.Goals as goal

pub returns-then-prefix : goal.returns-then-prefix
returns-then-prefix c =
    let own = (identity_in c.args.self.now).key in
    c.eq.ensures ∙ ap (λ (t : List ℕ). pointwise nat_eq c.args.key.now t) c.key.ensures
    ∙ sym (key_ties (key_at c.args.prefix c.args.key.now) own.prefix own.bytes
    ∙ ap (λ (t : Bool). cond t (pointwise nat_eq c.args.key.now own.bytes) false) (ap (nat_eq c.args.prefix) (sym c.prefix.ensures) ∙ (Decides-eqb c.args.prefix c.prefix.result).1 c.if-prefix.true))
