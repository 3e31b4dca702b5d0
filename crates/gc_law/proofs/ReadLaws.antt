-- What is read of both together, and what a writer leaves while nothing is heard.
use Rattle.std.specs.Prelude.{◌≡◌, suc, false, List, [], ◌∷◌, ◌++◌, Contains, Option, Some, None, refl}
use Rattle.std.proofs.Common.{sym, ap, subst, inl, inr, arith}
use Rattle.std.specs.Option.{option_map}
use Rattle.std.proofs.lemmas.List.{append-nil}
use Rattle.std.proofs.lemmas.List.Elements.{All-contains, Contains-append_right}
use Rattle.hr_base.specs.declared.name.ChunkName.{ChunkName}
use Rattle.dir_files.specs.Files.{FileState, Files, IsFile}
use Rattle.dir_files.specs.Images.{Image, MayLeave}
use Rattle.record_format.specs.declared.record.Record.{Record}
use Rattle.crash_law.specs.Accounts.{Account}
use Rattle.crash_law.specs.Crashes.{IsImageOfPart, PartSurvives}
use Rattle.crash_law.specs.Numbered.{IsIn}
use Rattle.crash_law.specs.Placed.{Placed, records_of, IsPlaced}
use Rattle.crash_law.specs.Restarts.{Fact, RestartsAs}
use Rattle.crash_law.specs.Writers.{Written, IsWholeIn}
use Rattle.gc_law.specs.Events.{NotedEvent, notes, seal_of, placed_of}
use Rattle.dir_files.specs.Ports.{either_file}
use Rattle.gc_law.specs.WriterFacts.{Tells}
use Rattle.gc_law.specs.CollectorFacts.{Gathered, KeptBy, nothing_gathered}
use Rattle.gc_law.specs.Both.{files_of_both, AreApart}
use Rattle.gc_law.proofs.StepLaws.{kept_nothing}
use Rattle.gc_law.proofs.UnionLaws.{union_recovers, union_all}
use Rattle.gc_law.proofs.EventLaws.{none_some}

-- nothing is heard: the writer's files, and those in its Seals
pub teller_survives : (w : Written) (es : List NotedEvent) (a : Account) → Tells w es a → PartSurvives w.partition (λ name. either_file (w.files name) (seal_of es name)) (λ name. None) a
teller_survives w es a told image is =
    union_recovers w [] es a nothing_gathered told (kept_nothing w.partition)
    (λ name file of e. absurd (none_some file e)) image
    (λ name of. subst (λ (x : Option FileState). MayLeave (either_file (w.files name) x) None (image name)) (sym (no_more (seal_of es name))) (is name of))
  where
    no_more : (x : Option FileState) → either_file x None ≡ x
    no_more None = refl
    no_more (Some g) = refl

-- ---- all that is read

abbrev pub read_files : Files → Image
read_files files name = option_map (λ file. file.bytes) (files name)

reads_itself : (file removed : Option FileState) → ((f : FileState) → file ≡ Some f → IsFile f) → MayLeave file removed (option_map (λ (f : FileState). f.bytes) file)
reads_itself None None h = tt
reads_itself None (Some g) h = tt
reads_itself (Some f) removed h = record { rest = []; prefix = sym (append-nil f.bytes); front = h f refl }

content_placed : (xs : List Placed) (r : Record) → IsIn r (records_of xs) → (x : Placed) × Contains xs x × (x.content ≡ r)
content_placed [] r h = absurd h
content_placed (x ∷ xs) r h = elim h [
  | inl e ↦ (x, (0, omega arith, refl), sym e)
  | inr more ↦
      let w = content_placed xs r more in
      (w.0, (suc w.1.0, omega (arith, w.1.1), w.1.2), w.2)
]

pub both_read : (w : Written) (heard unheard : List NotedEvent) (a : Account) (c : Gathered) → Tells w (heard ++ unheard) a → KeptBy w.partition heard c → AreApart w unheard c
    → ((name : ChunkName) (file : FileState) → files_of_both w unheard c name ≡ Some file → IsFile file)
    → w.lost ≡ false → ((x : Placed) → Contains w.records x → IsWholeIn w.files x)
    → RestartsAs (read_files (files_of_both w unheard c)) w.partition a.maps
both_read w heard unheard a c told kept apart fits whole in_files = record {
  sound = (union_recovers w heard unheard a c told kept apart (read_files (files_of_both w unheard c)) is).sound;
  restart = union_all w heard unheard a c told kept apart (read_files (files_of_both w unheard c)) is whole (λ r i. there r (content_placed w.records r i));
} where
  is : IsImageOfPart w.partition (files_of_both w unheard c) c.gone (read_files (files_of_both w unheard c))
  is name of = reads_itself (files_of_both w unheard c name) (c.gone name) (fits name)

  there : (r : Record) → (x : Placed) × Contains w.records x × (x.content ≡ r) → Fact (read_files (files_of_both w unheard c)) w.partition r
  there r x =
      let f = in_files x.0 x.1 in
      subst (Fact (read_files (files_of_both w unheard c)) w.partition) x.2
      (record {
        name = x.0.chunk;
        bytes = f.file.bytes;
        records = f.records;
        rest = f.rest;
        partition = (All-contains (IsPlaced w.partition) (placed_of (notes (heard ++ unheard)) ++ w.records) x.0 told.placed (Contains-append_right (placed_of (notes (heard ++ unheard))) w.records x.0 x.1)).partition;
        there = ap (λ (o : Option FileState). option_map (λ (g : FileState). g.bytes) (either_file o (either_file (seal_of unheard x.0.chunk) (c.files x.0.chunk)))) f.there;
        whole = f.split;
        has = f.has;
      })
