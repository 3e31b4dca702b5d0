use Rattle.std.proofs.Common.{true, sym, ◌∙◌, refl}
use Rattle.hr_base.specs.Names.{class_of_kind}
use Rattle.writer_files.specs.StockViews.{stock}
use Rattle.writer_files.proofs.StockLaws.{begun_files, begun_lends, begun_stock, gains_none, gains_some, may_of, refused_files, refused_stock}
use Rattle.writer_files.proofs.files.WriterFiles.begin.Goals as goal

pub invariant_of-self-in-Some : goal.invariant_of-self-in-Some
invariant_of-self-in-Some g c = record {
  stocked = λ told.
      let gains = gains_some c.args.self.now.full.items c.reserve.new.self.items c.place.new.full.items _ c.in-Some.before c.fill.result c.reserve.ensures.items (sym c.replace.ensures.before ∙ c.in-Some.is) c.fill.ensures c.place.ensures in
      begun_stock (stock c.args.self.now) (record { port = g.F.Folder.port c.begin.new.port; taking = c.replace.new.self; full = c.place.new.full.items; fresh = true }) (class_of_kind c.in-Ok.chunk.name.kind) c.in-Ok.chunk c.args.name (c.args.self.now.stocked told) (c.in-Ok.ensures.port told) (c.requires.free told).0 (c.requires.free told).1
      c.in-Ok.ensures.begun.name (c.in-Ok.ensures.begun.file told) c.replace.ensures.after gains refl;
}

pub invariant_of-self-in_default : goal.invariant_of-self-in_default
invariant_of-self-in_default g c = record {
  stocked = λ told.
      let gains = gains_none c.args.self.now.full.items c.reserve.new.self.items _ c.reserve.ensures.items (sym c.replace.ensures.before ∙ c.in_default.is) in
      begun_stock (stock c.args.self.now) (record { port = g.F.Folder.port c.begin.new.port; taking = c.replace.new.self; full = c.reserve.new.self.items; fresh = true }) (class_of_kind c.in-Ok.chunk.name.kind) c.in-Ok.chunk c.args.name (c.args.self.now.stocked told) (c.in-Ok.ensures.port told) (c.requires.free told).0 (c.requires.free told).1
      c.in-Ok.ensures.begun.name (c.in-Ok.ensures.begun.file told) c.replace.ensures.after gains refl;
}

pub invariant_of-self-in-Err-Fault : goal.invariant_of-self-in-Err-Fault
invariant_of-self-in-Err-Fault g c = record {
  stocked = λ told.
      refused_stock (stock c.args.self.now) (record { port = g.F.Folder.port c.begin.new.port; taking = c.args.self.now.taking; full = c.reserve.new.self.items; fresh = true }) c.args.name (c.args.self.now.stocked told) (may_of c.begin.result c.in-Err-Fault.field-0 (g.F.Folder.port c.args.self.now.port) (g.F.Folder.port c.begin.new.port) c.args.name c.in-Err-Fault.is c.in-Err-Fault.field-0-is (c.begin.ensures.port told)) (c.requires.free told).1 refl c.reserve.ensures.items refl;
}

pub returns-in-Some-clause-files : goal.returns-in-Some-clause-files
returns-in-Some-clause-files g c told =
    let gains = gains_some c.args.self.now.full.items c.reserve.new.self.items c.place.new.full.items _ c.in-Some.before c.fill.result c.reserve.ensures.items (sym c.replace.ensures.before ∙ c.in-Some.is) c.fill.ensures c.place.ensures in
    begun_files (stock c.args.self.now) (record { port = g.F.Folder.port c.begin.new.port; taking = c.replace.new.self; full = c.place.new.full.items; fresh = true }) (class_of_kind c.in-Ok.chunk.name.kind) c.in-Ok.chunk c.args.name (c.args.self.now.stocked told) (c.in-Ok.ensures.port told) (c.requires.free told).0 (c.requires.free told).1
    c.in-Ok.ensures.begun.name (c.in-Ok.ensures.begun.file told) c.replace.ensures.after gains

pub returns-in-Some-clause-lends : goal.returns-in-Some-clause-lends
returns-in-Some-clause-lends g c told =
    let gains = gains_some c.args.self.now.full.items c.reserve.new.self.items c.place.new.full.items _ c.in-Some.before c.fill.result c.reserve.ensures.items (sym c.replace.ensures.before ∙ c.in-Some.is) c.fill.ensures c.place.ensures in
    begun_lends (stock c.args.self.now) (record { port = g.F.Folder.port c.begin.new.port; taking = c.replace.new.self; full = c.place.new.full.items; fresh = true }) (class_of_kind c.in-Ok.chunk.name.kind) c.in-Ok.chunk c.args.name (c.args.self.now.stocked told) (c.in-Ok.ensures.port told) (c.requires.free told).0 (c.requires.free told).1
    c.in-Ok.ensures.begun.name (c.in-Ok.ensures.begun.file told) c.replace.ensures.after gains

pub returns-in_default-clause-files : goal.returns-in_default-clause-files
returns-in_default-clause-files g c told =
    let gains = gains_none c.args.self.now.full.items c.reserve.new.self.items _ c.reserve.ensures.items (sym c.replace.ensures.before ∙ c.in_default.is) in
    begun_files (stock c.args.self.now) (record { port = g.F.Folder.port c.begin.new.port; taking = c.replace.new.self; full = c.reserve.new.self.items; fresh = true }) (class_of_kind c.in-Ok.chunk.name.kind) c.in-Ok.chunk c.args.name (c.args.self.now.stocked told) (c.in-Ok.ensures.port told) (c.requires.free told).0 (c.requires.free told).1
    c.in-Ok.ensures.begun.name (c.in-Ok.ensures.begun.file told) c.replace.ensures.after gains

pub returns-in_default-clause-lends : goal.returns-in_default-clause-lends
returns-in_default-clause-lends g c told =
    let gains = gains_none c.args.self.now.full.items c.reserve.new.self.items _ c.reserve.ensures.items (sym c.replace.ensures.before ∙ c.in_default.is) in
    begun_lends (stock c.args.self.now) (record { port = g.F.Folder.port c.begin.new.port; taking = c.replace.new.self; full = c.reserve.new.self.items; fresh = true }) (class_of_kind c.in-Ok.chunk.name.kind) c.in-Ok.chunk c.args.name (c.args.self.now.stocked told) (c.in-Ok.ensures.port told) (c.requires.free told).0 (c.requires.free told).1
    c.in-Ok.ensures.begun.name (c.in-Ok.ensures.begun.file told) c.replace.ensures.after gains

pub returns-in-Err-Fault-clause-files : goal.returns-in-Err-Fault-clause-files
returns-in-Err-Fault-clause-files g c told =
    refused_files (stock c.args.self.now) (record { port = g.F.Folder.port c.begin.new.port; taking = c.args.self.now.taking; full = c.reserve.new.self.items; fresh = true }) c.args.name (c.args.self.now.stocked told) (may_of c.begin.result c.in-Err-Fault.field-0 (g.F.Folder.port c.args.self.now.port) (g.F.Folder.port c.begin.new.port) c.args.name c.in-Err-Fault.is c.in-Err-Fault.field-0-is (c.begin.ensures.port told)) (c.requires.free told).1 refl c.reserve.ensures.items
