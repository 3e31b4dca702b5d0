-- What slots hold of a list of files.
use Rattle.std.proofs.Common.{◌≡◌, ℕ, suc, Bool, true, false, cond, List, [], ◌∷◌, ◌++◌, Vec, find, Option, Some, None, option_map, All, refl, ap, sym, ◌∙◌, subst, inl, inr, arith}
use Rattle.std.proofs.lemmas.Bool.{cases_Bool, false≢true}
use Rattle.std.specs.declared.alloc.Global.{Global}
use Rattle.hr_base.specs.declared.name.ChunkName.{ChunkName}
use Rattle.hr_base.specs.NameTests.{is_name}
use Rattle.hr_base.proofs.NameTestLaws.{is_name-true, is_name-false}
use Rattle.dir_files.specs.Files.{FileState}
use Rattle.dir_files.specs.Ports.{IsPort, SamePort}
use Rattle.dir_files.specs.Images.{Image, durable_files, port_of_image}
use Rattle.mem_folder.specs.declared.chain.Entry.{Entry}
use Rattle.mem_folder.specs.declared.chain.Slot.{Slot}
use Rattle.mem_folder.specs.Durables.{durable_file}
use Rattle.mem_folder.specs.Memory.{joined, resting_entry, entry_at, Merges, memory_port}
use Rattle.mem_folder.specs.Lists.{image_of, HoldsImage}
use Rattle.mem_folder.proofs.Crashes.{durable_fits}
use Rattle.mem_folder.proofs.MemPorts.{merged_changes}

-- what holds of all holds of one among them
pub all_middle : {X : Type 0} (P : X → Type 0) (xs ys : List X) (x : X) → All P (xs ++ x ∷ ys) → P x
all_middle P [] ys x all = all 0 x (omega arith)
all_middle P (z ∷ xs) ys x all = all_middle P xs ys x (λ k d within. all (suc k) d (omega (arith, within)))

-- so many of the files are left, and the slots hold the others
pub record Fills (all left : List (ChunkName × Vec ℕ Global)) (slots : List Slot) : Type 0 where
  pub rest : List (ChunkName × Vec ℕ Global)
  pub parts : all ≡ left ++ rest
  pub holds : HoldsImage slots (image_of rest)

-- no file and no slot
pub holds_nothing : (slots : List Slot) → slots ≡ [] → HoldsImage slots (image_of [])
unfolding entry_at
holds_nothing slots is name = ap (λ (s : List Slot). entry_at s name) is

-- one more file in front of the others
pub holds_more : (old new : List Slot) (slot : Slot) (file : ChunkName × Vec ℕ Global) (files : List (ChunkName × Vec ℕ Global)) → HoldsImage old (image_of files) → Merges old new slot → slot.name ≡ file.0 → slot.entry ≡ resting_entry (Some (durable_file file.1.items)) → HoldsImage new (image_of (file ∷ files))
holds_more old new slot file files holds merges same is name =
    let durable = durable_file file.1.items in
    let changes = merged_changes old new slot file.0 (resting_entry (Some durable)) merges same is in
    elim (cases_Bool (is_name name file.0)) [
      | inl here ↦
          let e : file.0 ≡ name = sym (is_name-true name file.0 here) in
          let at : entry_at new name ≡ joined (resting_entry (Some durable)) (entry_at old name) = subst (λ (n : ChunkName). entry_at new n ≡ joined (resting_entry (Some durable)) (entry_at old n)) e changes.at in
          at
          ∙ ap (joined (resting_entry (Some durable))) (holds name)
          ∙ sym (ap (λ (b : Bool). resting_entry (option_map durable_file (option_map (λ (f : ChunkName × Vec ℕ Global). f.1.items) (cond b (Some file) (find (λ (f : ChunkName × Vec ℕ Global). is_name name f.0) files))))) here)
      | inr past ↦
          changes.others name (is_name-false name file.0 past)
          ∙ holds name
          ∙ sym (ap (λ (b : Bool). resting_entry (option_map durable_file (option_map (λ (f : ChunkName × Vec ℕ Global). f.1.items) (cond b (Some file) (find (λ (f : ChunkName × Vec ℕ Global). is_name name f.0) files))))) past)
    ]

module _ (slots : List Slot) (image : Image) (holds : HoldsImage slots image) where
  -- seen as a port, they are the image taken as a folder
  pub SamePort-holds : SamePort (port_of_image image) (memory_port slots)
  SamePort-holds = record {
    held = λ name. ap (λ (e : Entry). e.held) (holds name);
    gone = λ name. ap (λ (e : Entry). e.gone) (holds name);
    lent = λ name. ap (λ (e : Entry). e.lent) (holds name);
    foreign = λ name. ap (λ (e : Entry). e.foreign) (holds name);
    created = λ name. ap (λ (e : Entry). e.created) (holds name);
    fixed = λ name. ap (λ (e : Entry). e.fixed) (holds name);
  }

  pub IsPort-holds : IsPort (memory_port slots)
  IsPort-holds = record {
    held_fits = λ name file held. durable_fits (image name) file (sym (ap (λ (e : Entry). e.held) (holds name)) ∙ held);
    gone_fits = λ name file gone. absurd (let e : None ≡ Some file = sym (ap (λ (e : Entry). e.gone) (holds name)) ∙ gone in cc);
    apart = λ name held. ap (λ (e : Entry). e.gone) (holds name);
    fixed_lent = λ name fixed. absurd (false≢true (sym (ap (λ (e : Entry). e.fixed) (holds name)) ∙ fixed));
  }
