use Rattle.std.proofs.Common.{sym, rules, arith, ap, ◌∙◌, ◌≡◌, ◌⊎◌, subst, length, take, List, ℕ, ◌++◌, ◌∷◌, [], ◌≤◌, refl, Result, Err, None}
use Rattle.hr_base.specs.declared.name.ChunkName.{ChunkName}
use Rattle.dir_files.specs.declared.folder.FolderRefusal.{FolderRefusal}
use Rattle.dir_files.specs.declared.folder.FolderRefusal.TheVariants.{Memory, Fault}
use Rattle.hr_base.specs.Names.{IsChunkName}
use Rattle.dir_files.specs.Files.{SameAt}
use Rattle.record_format.specs.Spelling.{spelling}
use Rattle.crash_law.specs.Placed.{Placed}
use Rattle.writer_files.specs.Stocks.{files_of}
use Rattle.writer_files.specs.StockViews.{stock}
use Rattle.partition_writer.specs.Standing.{chosen, placed, placed_in}
use Rattle.partition_writer.specs.Storing.{NamesOwn, AppendsTo, AddsEmpty, IsOpen, StoresIn, TakesIn}
use Rattle.partition_writer.specs.WriterViews.{standing}
use Rattle.hr_base.specs.declared.limits.TheConstants.{CHUNK_NO_END}
use Rattle.hr_base.specs.declared.name.Partition.{Partition}
use Rattle.partition_writer.proofs.LimitLaws.{memory_no_fault, number_after-least, number_either, number_least, number_most, ok_no_fault, room_before, same_chosen, some_halted, unspent_next, valid_next}
use Rattle.partition_writer.proofs.StandLaws.{stand_fault, stand_memory, stand_ok}
use Rattle.partition_writer.proofs.writer.Writer.write.Goals as goal

pub returns-in-Ok-clause-account : goal.returns-in-Ok-clause-account
returns-in-Ok-clause-account g c = λ tells b a h is.
    let s = standing c.args.self.now in
    let bytes : c.as_slice.result.now ≡ spelling c.args.rec =
    c.as_slice.ensures.value ∙ c.in_ok-encode.ensures.ok ∙ ap (λ (l : List ℕ). l ++ spelling c.args.rec) c.clear.ensures.items in
    let chunk = same_chosen (standing c.args.self.now) c.args.class (length c.as_slice.result.now) c.limit-limit.result c.next_name-next.result c.args.rec
    c.requires.valid.same (ap (λ (l : List ℕ). length l) bytes) c.limit-limit.ensures c.next_name-next.ensures in
    let named : c.chosen-chunk.result ≡ (placed_in (standing c.args.self.now) c.args.rec).chunk =
    c.chosen-chunk.ensures ∙ ap (λ (n : ℕ). chosen (stock c.args.self.now.files) c.args.class n c.limit-limit.result c.next_name-next.result) (search rules) ∙ chunk in
    stand_ok (standing c.args.self.now) _ b a c.args.rec h c.args.self.now.own c.requires.valid.valid c.requires.number
    (subst (λ (n : ChunkName). IsOpen (stock c.args.self.now.files) n) chunk (c.store-stored.ensures.open tells))
    (subst (λ (n : ChunkName). TakesIn (stock c.args.self.now.files) (stock c.store-stored.new.files) n) chunk c.store-stored.ensures.taking)
    (record {
      partition = refl;
      limits = refl;
      records = c.note.ensures.records ∙ ap (λ (xs : List Placed). xs ++ placed c.args.rec c.chosen-chunk.result ∷ []) c.reserve.ensures.items
          ∙ ap (λ (n : ChunkName). c.args.self.now.records.items ++ placed c.args.rec n ∷ []) named;
      next = c.note.ensures.next;
    })
    (subst (λ (n : ℕ). c.args.self.now.next_chunk ≤ n) (sym c.in-Ok.ensures.number) (number_after-least _ c.args.self.now.next_chunk))
    (c.args.self.now.unlost c.requires.running) (c.args.self.now.unlost c.requires.running) refl is
    (subst (λ (n : ChunkName). AppendsTo (files_of (stock c.args.self.now.files)) (files_of (stock c.store-stored.new.files)) n (spelling c.args.rec) (spelling c.args.rec)) chunk
    (subst (λ (l : List ℕ). AppendsTo (files_of (stock c.args.self.now.files)) (files_of (stock c.store-stored.new.files)) (chosen (stock c.args.self.now.files) c.args.class (length c.as_slice.result.now) c.limit-limit.result c.next_name-next.result) l l) bytes
    (c.in-Ok.ensures.files tells)))

pub returns-in-Err-Memory-clause-account : goal.returns-in-Err-Memory-clause-account
returns-in-Err-Memory-clause-account g c = λ tells b a h is.
    let bytes : c.as_slice.result.now ≡ spelling c.args.rec =
    c.as_slice.ensures.value ∙ c.in_ok-encode.ensures.ok ∙ ap (λ (l : List ℕ). l ++ spelling c.args.rec) c.clear.ensures.items in
    let chunk = same_chosen (standing c.args.self.now) c.args.class (length c.as_slice.result.now) c.limit-limit.result c.next_name-next.result c.args.rec
    c.requires.valid.same (ap (λ (l : List ℕ). length l) bytes) c.limit-limit.ensures c.next_name-next.ensures in
    stand_memory (standing c.args.self.now) _ b a c.args.rec h c.args.self.now.own c.requires.valid.valid c.requires.number
    (subst (λ (n : ChunkName). IsOpen (stock c.args.self.now.files) n) chunk (c.store-stored.ensures.open tells))
    (subst (λ (n : ChunkName). TakesIn (stock c.args.self.now.files) (stock c.store-stored.new.files) n) chunk c.store-stored.ensures.taking)
    (record { partition = refl; limits = refl; maps = refl; records = c.reserve.ensures.items; next = refl; lost = refl })
    (number_either _ _ _ c.store-stored.ensures.either_number)
    (c.args.self.now.unlost c.requires.running) (c.args.self.now.below tells c.requires.running)
    (subst (λ (n : ChunkName). SameAt (files_of (stock c.args.self.now.files)) (files_of (stock c.store-stored.new.files)) ⊎ AddsEmpty (files_of (stock c.args.self.now.files)) (files_of (stock c.store-stored.new.files)) n) chunk
    (subst (λ (answer : Result (Unit {0}) FolderRefusal). StoresIn answer (files_of (stock c.args.self.now.files)) (files_of (stock c.store-stored.new.files))
    (chosen (stock c.args.self.now.files) c.args.class (length c.as_slice.result.now) c.limit-limit.result c.next_name-next.result) c.as_slice.result.now)
    (let e : c.store-stored.result ≡ Err Memory = search rules in e) (c.store-stored.ensures.files tells)))

pub returns-in-Err-Fault-clause-account : goal.returns-in-Err-Fault-clause-account
returns-in-Err-Fault-clause-account g c = λ tells b a h is.
    let bytes : c.as_slice.result.now ≡ spelling c.args.rec =
    c.as_slice.ensures.value ∙ c.in_ok-encode.ensures.ok ∙ ap (λ (l : List ℕ). l ++ spelling c.args.rec) c.clear.ensures.items in
    let chunk = same_chosen (standing c.args.self.now) c.args.class (length c.as_slice.result.now) c.limit-limit.result c.next_name-next.result c.args.rec
    c.requires.valid.same (ap (λ (l : List ℕ). length l) bytes) c.limit-limit.ensures c.next_name-next.ensures in
    let named : c.chosen-chunk.result ≡ (placed_in (standing c.args.self.now) c.args.rec).chunk =
    c.chosen-chunk.ensures ∙ ap (λ (n : ℕ). chosen (stock c.args.self.now.files) c.args.class n c.limit-limit.result c.next_name-next.result) (search rules) ∙ chunk in
    stand_fault (standing c.args.self.now) _ b a c.args.rec h c.args.self.now.own c.requires.valid.valid c.requires.number
    (subst (λ (n : ChunkName). IsOpen (stock c.args.self.now.files) n) chunk (c.store-stored.ensures.open tells))
    (subst (λ (n : ChunkName). TakesIn (stock c.args.self.now.files) (stock c.store-stored.new.files) n) chunk c.store-stored.ensures.taking)
    (record {
      partition = refl;
      limits = refl;
      records = c.note-in-Err-Fault.ensures.records ∙ ap (λ (xs : List Placed). xs ++ placed c.args.rec c.chosen-chunk.result ∷ []) c.reserve.ensures.items
          ∙ ap (λ (n : ChunkName). c.args.self.now.records.items ++ placed c.args.rec n ∷ []) named;
      next = c.note-in-Err-Fault.ensures.next;
    })
    (number_either _ _ _ c.store-stored.ensures.either_number)
    (c.args.self.now.unlost c.requires.running) refl refl
    (subst (λ (n : ChunkName). ((k : ℕ) × AppendsTo (files_of (stock c.args.self.now.files)) (files_of (stock c.store-stored.new.files)) n (spelling c.args.rec) (take k (spelling c.args.rec)))
    ⊎ ((files_of (stock c.args.self.now.files) n ≡ None) × (SameAt (files_of (stock c.args.self.now.files)) (files_of (stock c.store-stored.new.files)) ⊎ AddsEmpty (files_of (stock c.args.self.now.files)) (files_of (stock c.store-stored.new.files)) n))) chunk
    (subst (λ (l : List ℕ). ((k : ℕ) × AppendsTo (files_of (stock c.args.self.now.files)) (files_of (stock c.store-stored.new.files)) (chosen (stock c.args.self.now.files) c.args.class (length c.as_slice.result.now) c.limit-limit.result c.next_name-next.result) l (take k l))
    ⊎ ((files_of (stock c.args.self.now.files) (chosen (stock c.args.self.now.files) c.args.class (length c.as_slice.result.now) c.limit-limit.result c.next_name-next.result) ≡ None) × (SameAt (files_of (stock c.args.self.now.files)) (files_of (stock c.store-stored.new.files)) ⊎ AddsEmpty (files_of (stock c.args.self.now.files)) (files_of (stock c.store-stored.new.files)) (chosen (stock c.args.self.now.files) c.args.class (length c.as_slice.result.now) c.limit-limit.result c.next_name-next.result)))) bytes
    (subst (λ (answer : Result (Unit {0}) FolderRefusal). StoresIn answer (files_of (stock c.args.self.now.files)) (files_of (stock c.store-stored.new.files))
    (chosen (stock c.args.self.now.files) c.args.class (length c.as_slice.result.now) c.limit-limit.result c.next_name-next.result) c.as_slice.result.now)
    (let e : c.store-stored.result ≡ Err Fault = search rules in e) (c.store-stored.ensures.files tells))))

pub invariant_of-self-in-Ok : goal.invariant_of-self-in-Ok
invariant_of-self-in-Ok g c =
    let bytes : c.as_slice.result.now ≡ spelling c.args.rec =
    c.as_slice.ensures.value ∙ c.in_ok-encode.ensures.ok ∙ ap (λ (l : List ℕ). l ++ spelling c.args.rec) c.clear.ensures.items in
    let room = room_before (standing c.args.self.now) c.args.class (length c.as_slice.result.now) c.limit-limit.result c.args.rec (ap (λ (l : List ℕ). length l) bytes) c.limit-limit.ensures c.requires.unspent in
    let partition : c.next_name-next.result.partition ≡ c.args.self.now.partition = ap (λ (n : ChunkName). n.partition) c.next_name-next.ensures in
    let less = unspent_next (standing c.args.self.now) c.args.class (length (spelling c.args.rec)) c.requires.unspent in
    record {
      partitioned = c.args.self.now.partitioned;
      value_limit = c.args.self.now.value_limit;
      tomb_limit = c.args.self.now.tomb_limit;
      numbered = omega (arith, c.note.ensures.next);
      limited = omega (arith, c.note.ensures.next, less);
      chunk_numbered = number_least _ _ _ c.args.self.now.chunk_numbered c.store-stored.ensures.either_number;
      chunk_limited = number_most _ _ _ CHUNK_NO_END room c.args.self.now.chunk_limited c.store-stored.ensures.either_number;
      own = subst (λ (p : Partition). NamesOwn p (stock c.store-stored.new.files)) partition c.store-stored.ensures.own;
      ready = λ running. c.store-stored.ensures.ready (ok_no_fault _ (search rules));
      below = λ tells running. c.store-stored.ensures.below tells (ok_no_fault _ (search rules)) (ap (λ (n : ChunkName). n.number.0) c.next_name-next.ensures) (c.args.self.now.below tells running);
      lends = c.store-stored.ensures.lends;
      unlost = c.args.self.now.unlost;
      lengths = c.args.self.now.lengths;
    }

pub invariant_of-self-in-Err-Memory : goal.invariant_of-self-in-Err-Memory
invariant_of-self-in-Err-Memory g c =
    let bytes : c.as_slice.result.now ≡ spelling c.args.rec =
    c.as_slice.ensures.value ∙ c.in_ok-encode.ensures.ok ∙ ap (λ (l : List ℕ). l ++ spelling c.args.rec) c.clear.ensures.items in
    let room = room_before (standing c.args.self.now) c.args.class (length c.as_slice.result.now) c.limit-limit.result c.args.rec (ap (λ (l : List ℕ). length l) bytes) c.limit-limit.ensures c.requires.unspent in
    let partition : c.next_name-next.result.partition ≡ c.args.self.now.partition = ap (λ (n : ChunkName). n.partition) c.next_name-next.ensures in
    let less = unspent_next (standing c.args.self.now) c.args.class (length (spelling c.args.rec)) c.requires.unspent in
    record {
      partitioned = c.args.self.now.partitioned;
      value_limit = c.args.self.now.value_limit;
      tomb_limit = c.args.self.now.tomb_limit;
      numbered = c.args.self.now.numbered;
      limited = c.args.self.now.limited;
      chunk_numbered = number_least _ _ _ c.args.self.now.chunk_numbered c.store-stored.ensures.either_number;
      chunk_limited = number_most _ _ _ CHUNK_NO_END room c.args.self.now.chunk_limited c.store-stored.ensures.either_number;
      own = subst (λ (p : Partition). NamesOwn p (stock c.store-stored.new.files)) partition c.store-stored.ensures.own;
      ready = λ running. c.store-stored.ensures.ready (memory_no_fault _ (search rules));
      below = λ tells running. c.store-stored.ensures.below tells (memory_no_fault _ (search rules)) (ap (λ (n : ChunkName). n.number.0) c.next_name-next.ensures) (c.args.self.now.below tells running);
      lends = c.store-stored.ensures.lends;
      unlost = c.args.self.now.unlost;
      lengths = c.args.self.now.lengths;
    }

pub invariant_of-self-in-Err-Fault : goal.invariant_of-self-in-Err-Fault
invariant_of-self-in-Err-Fault g c =
    let bytes : c.as_slice.result.now ≡ spelling c.args.rec =
    c.as_slice.ensures.value ∙ c.in_ok-encode.ensures.ok ∙ ap (λ (l : List ℕ). l ++ spelling c.args.rec) c.clear.ensures.items in
    let room = room_before (standing c.args.self.now) c.args.class (length c.as_slice.result.now) c.limit-limit.result c.args.rec (ap (λ (l : List ℕ). length l) bytes) c.limit-limit.ensures c.requires.unspent in
    let partition : c.next_name-next.result.partition ≡ c.args.self.now.partition = ap (λ (n : ChunkName). n.partition) c.next_name-next.ensures in
    let less = unspent_next (standing c.args.self.now) c.args.class (length (spelling c.args.rec)) c.requires.unspent in
    record {
      partitioned = c.args.self.now.partitioned;
      value_limit = c.args.self.now.value_limit;
      tomb_limit = c.args.self.now.tomb_limit;
      numbered = omega (arith, c.note-in-Err-Fault.ensures.next);
      limited = omega (arith, c.note-in-Err-Fault.ensures.next, less);
      chunk_numbered = number_least _ _ _ c.args.self.now.chunk_numbered c.store-stored.ensures.either_number;
      chunk_limited = number_most _ _ _ CHUNK_NO_END room c.args.self.now.chunk_limited c.store-stored.ensures.either_number;
      own = subst (λ (p : Partition). NamesOwn p (stock c.store-stored.new.files)) partition c.store-stored.ensures.own;
      ready = λ running. absurd (some_halted _ running);
      below = λ tells running. absurd (some_halted _ running);
      lends = c.store-stored.ensures.lends;
      unlost = λ running. absurd (some_halted _ running);
      lengths = c.args.self.now.lengths;
    }

pub store-stored-requires-clause-valid : goal.store-stored-requires-clause-valid
store-stored-requires-clause-valid g c = λ full.
    let bytes : c.as_slice.result.now ≡ spelling c.args.rec =
    c.as_slice.ensures.value ∙ c.in_ok-encode.ensures.ok ∙ ap (λ (l : List ℕ). l ++ spelling c.args.rec) c.clear.ensures.items in
    let room = room_before (standing c.args.self.now) c.args.class (length c.as_slice.result.now) c.limit-limit.result c.args.rec (ap (λ (l : List ℕ). length l) bytes) c.limit-limit.ensures c.requires.unspent in
    subst IsChunkName (sym c.next_name-next.ensures)
    (valid_next (standing c.args.self.now) c.args.class _ c.args.self.now.partitioned c.args.self.now.chunk_numbered room full)

pub store-stored-requires-clause-own : goal.store-stored-requires-clause-own
store-stored-requires-clause-own g c =
    subst (λ (p : Partition). NamesOwn p (stock c.args.self.now.files)) (sym (ap (λ (n : ChunkName). n.partition) c.next_name-next.ensures)) c.args.self.now.own
