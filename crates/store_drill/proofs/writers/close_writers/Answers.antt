use Rattle.std.proofs.Common.{◌≡◌, List, [], ◌∷◌, ◌++◌, length, ap, subst, ◌∙◌, rules, arith}
use Rattle.std.proofs.lemmas.List.{map-append}
use Rattle.partition_writer.specs.Standing.{Standing}
use Rattle.partition_writer.specs.WriterViews.{standing}
use Rattle.restart_load.specs.Writers.{standings}
use Rattle.store_drill.proofs.FolderLaws.{Closing, closing_apart, closing_more, closing_none}
use Rattle.store_drill.proofs.writers.close_writers.Goals as goal

pub loop-writer-init : goal.loop-writer-init
loop-writer-init g c = closing_none _ _ _ _ c.requires.given_back

pub close_writer-requires-clause-apart : goal.close_writer-requires-clause-apart
close_writer-requires-clause-apart g c =
    let rest : List Standing = standings c.pop.new.self.items in
    let split : standings c.loop-writer.writers.items ≡ rest ++ standing c.in-Some.writer ∷ [] =
    ap (λ writers. standings writers) c.in-Some.ensures.items ∙ map-append (λ writer. standing writer) c.pop.new.self.items (c.in-Some.writer ∷ []) in
    closing_apart _ (standings c.args.writers.items) rest (standing c.in-Some.writer) _ _ _ _
    (subst (λ (writers : List Standing). Closing g.F.Folder.tells (standings c.args.writers.items) writers (g.F.Folder.port c.args.folder.now) (g.F.Folder.port c.loop-writer.folder) (g.F.Folder.count c.args.folder.now) (g.F.Folder.count c.loop-writer.folder)) split c.loop-writer.invariant)
    c.requires.numbers c.requires.own c.requires.apart

pub loop-writer-preserved : goal.loop-writer-preserved
loop-writer-preserved g c =
    let rest : List Standing = standings c.pop.new.self.items in
    let split : standings c.loop-writer.writers.items ≡ rest ++ standing c.in-Some.writer ∷ [] =
    ap (λ writers. standings writers) c.in-Some.ensures.items ∙ map-append (λ writer. standing writer) c.pop.new.self.items (c.in-Some.writer ∷ []) in
    closing_more _ (standings c.args.writers.items) rest (standing c.in-Some.writer) _ _ _ _
    (subst (λ (writers : List Standing). Closing g.F.Folder.tells (standings c.args.writers.items) writers (g.F.Folder.port c.args.folder.now) (g.F.Folder.port c.loop-writer.folder) (g.F.Folder.count c.args.folder.now) (g.F.Folder.count c.loop-writer.folder)) split c.loop-writer.invariant)
    c.requires.numbers c.requires.own c.requires.apart _ _ c.close_writer.ensures.given_back c.close_writer.ensures.held c.close_writer.ensures.count c.close_writer.ensures.kept

pub returns-clause-held : goal.returns-clause-held
returns-clause-held g c = λ y name.
    let none : c.loop-writer.writers.items ≡ [] = search rules in
    let empty : length (standings c.loop-writer.writers.items) ≡ 0 = ap (λ writers. length (standings writers)) none in
    c.loop-writer.invariant.above y name (omega (arith, empty))
