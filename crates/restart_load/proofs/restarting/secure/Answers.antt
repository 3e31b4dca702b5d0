use Rattle.std.proofs.Common.{◌≡◌, ◌++◌, ℕ, List, length, map, take, drop, refl, sym, subst, ap, ◌∙◌, rules}
use Rattle.std.proofs.lemmas.Result.{IfErr-weaker, IfOk-weaker}
use Rattle.hr_base.specs.Counts.{Rose}
use Rattle.restart_load.specs.Reading.{IsFirstLarge}
use Rattle.restart_load.specs.Taking.{AllDurableWith, HasTaken, TakenFile, read_bytes}
use Rattle.restart_load.proofs.FolderLaws.{durable_same, first_large_same, names_length, taken_same, written_back}
use Rattle.restart_load.proofs.restarting.secure.Goals as goal

-- the files that were read are those that were taken
still : (count : ℕ) (items slice read : List TakenFile) → read ≡ slice → slice ≡ items → count ≡ length items → take count (read ++ drop (length read) items) ≡ items
still count items slice read same whole all = written_back count items read (ap length (same ∙ whole)) all ∙ same ∙ whole

pub returns-clause-taken : goal.returns-clause-taken
returns-clause-taken g c = λ tells.
    let items : List TakenFile = c.take_files.new.files.items in
    subst (λ (files : List TakenFile). HasTaken (g.F.Folder.port c.args.folder.now) (g.F.Folder.port c.read_files.new.folder) files)
    (sym (still c.take_files.new.files.len items _ c.read_files.new.files (c.read_files.ensures.same tells) c.as_mut_slice.ensures.value (search rules)))
    (taken_same _ _ _ items (c.read_files.ensures.port tells) (c.take_files.ensures.taken tells))

pub returns-clause-durable : goal.returns-clause-durable
returns-clause-durable g c = λ tells.
    let items : List TakenFile = c.take_files.new.files.items in
    let durable : AllDurableWith (g.F.Folder.port c.read_files.new.folder) (take c.take_files.new.files.len (c.read_files.new.files ++ drop (length c.read_files.new.files) items)) =
    subst (λ (files : List TakenFile). AllDurableWith (g.F.Folder.port c.read_files.new.folder) files)
    (sym (still c.take_files.new.files.len items _ c.read_files.new.files (c.read_files.ensures.same tells) c.as_mut_slice.ensures.value (search rules)))
    (durable_same _ _ items (c.read_files.ensures.port tells) (c.in_ok-take_files.ensures.durable tells)) in
    IfOk-weaker c.read_files.result _ _ (λ _ h. durable) c.read_files.ensures.names

pub returns-clause-read : goal.returns-clause-read
returns-clause-read g c = λ tells.
    let back = still c.take_files.new.files.len c.take_files.new.files.items _ c.read_files.new.files (c.read_files.ensures.same tells) c.as_mut_slice.ensures.value (search rules) in
    IfOk-weaker c.read_files.result _ _ (λ _ h. h ∙ ap (map read_bytes) (c.as_mut_slice.ensures.value ∙ sym back)) (c.read_files.ensures.read tells)

pub returns-clause-names : goal.returns-clause-names
returns-clause-names g c =
    IfOk-weaker c.read_files.result _ _ (λ _ h. h ∙ ap (map (λ (t : TakenFile). t.name)) c.as_mut_slice.ensures.value ∙ c.in_ok-take_files.ensures.names) c.read_files.ensures.names

pub returns-clause-refused : goal.returns-clause-refused
returns-clause-refused g c =
    let items : List TakenFile = c.take_files.new.files.items in
    let read : List TakenFile = c.read_files.new.files in
    let names : map (λ (t : TakenFile). t.name) read ≡ map (λ (t : TakenFile). t.name) items = c.read_files.ensures.same_names ∙ ap (map (λ (t : TakenFile). t.name)) c.as_mut_slice.ensures.value in
    let back : take c.take_files.new.files.len (read ++ drop (length read) items) ≡ read = written_back c.take_files.new.files.len items read (names_length read items names) (search rules) in
    IfErr-weaker c.read_files.result _ _
    (λ e h.
    subst (λ (files : List TakenFile). IsFirstLarge g.F.Folder.tells files e) (sym back)
    (first_large_same g.F.Folder.tells c.as_mut_slice.result.now read e c.read_files.ensures.same_names c.read_files.ensures.same h))
    c.read_files.ensures.refused

pub returns-clause-listed : goal.returns-clause-listed
returns-clause-listed g c =
    let items : List TakenFile = c.take_files.new.files.items in
    let read : List TakenFile = c.read_files.new.files in
    let names : map (λ (t : TakenFile). t.name) read ≡ map (λ (t : TakenFile). t.name) items = c.read_files.ensures.same_names ∙ ap (map (λ (t : TakenFile). t.name)) c.as_mut_slice.ensures.value in
    let back : take c.take_files.new.files.len (read ++ drop (length read) items) ≡ read = written_back c.take_files.new.files.len items read (names_length read items names) (search rules) in
    IfErr-weaker c.read_files.result _ _ (λ e h name is. ap (map (λ (t : TakenFile). t.name)) back ∙ names ∙ c.in_ok-take_files.ensures.names) c.read_files.ensures.refused

pub returns-clause-disk : goal.returns-clause-disk
returns-clause-disk g c = λ is.
    subst (λ (n : ℕ). Rose n (g.F.Folder.count c.read_files.new.folder)) (c.in_ok-take_files.ensures.counts.stays refl) (c.read_files.ensures.disk is)
