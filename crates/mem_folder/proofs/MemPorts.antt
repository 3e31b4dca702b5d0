-- What the calls on slots make of the port that they are seen as.
use Rattle.std.proofs.Common.{◌≡◌, Bool, true, false, ◌&&◌, ◌||◌, not, List, [], Some, None, refl, ap, sym, ◌∙◌, subst, inl, inr}
use Rattle.hr_base.specs.declared.name.ChunkName.{ChunkName}
use Rattle.std.proofs.lemmas.Bool.{cases_Bool}
use Rattle.hr_base.specs.NameTests.{is_name}
use Rattle.hr_base.proofs.NameTestLaws.{is_name-true, is_name-false}
use Rattle.mem_folder.specs.declared.chain.Entry.{Entry}
use Rattle.mem_folder.specs.declared.chain.Slot.{Slot}
use Rattle.dir_files.specs.Files.{FileState, ChangesAt, SameAt}
use Rattle.dir_files.specs.Ports.{IsEmptyPort, IsFreeName, Takes, Creates, Gives, Removes, SyncsNames}
use Rattle.mem_folder.specs.Memory.{joined, created_entry, lent_entry, returned_entry, removed_entry, synced_entry, entry_at, Merges, synced_slots, memory_port}
use Rattle.mem_folder.proofs.Slots.{entry_at-synced}

empty_port : IsEmptyPort (memory_port [])
unfolding entry_at
empty_port = record { held = λ name. refl; gone = λ name. refl; lent = λ name. refl; foreign = λ name. refl; created = λ name. refl; fixed = λ name. refl }

-- no slot, no file and no name
pub IsEmptyPort-empty : (slots : List Slot) → slots ≡ [] → IsEmptyPort (memory_port slots)
IsEmptyPort-empty slots is = subst (λ (s : List Slot). IsEmptyPort (memory_port s)) (sym is) empty_port

module _ (old new : List Slot) (name : ChunkName) (entry : Entry) (changes : ChangesAt (entry_at old) (entry_at new) name entry) where
  -- a part of the entries changes at the name alone
  part_changes : {A : Type 0} (part : Entry → A) (value : A) → part entry ≡ value → ChangesAt (λ (n : ChunkName). part (entry_at old n)) (λ (n : ChunkName). part (entry_at new n)) name value
  part_changes part value is = record {
    at = ap part changes.at ∙ is;
    others = λ other differ. ap part (changes.others other differ);
  }

  -- or nowhere
  part_stays : {A : Type 0} (part : Entry → A) → part entry ≡ part (entry_at old name) → SameAt (λ (n : ChunkName). part (entry_at old n)) (λ (n : ChunkName). part (entry_at new n))
  part_stays part same other = elim (cases_Bool (is_name other name)) [
    | inl here ↦
        let e : name ≡ other = sym (is_name-true other name here) in
        subst (λ (n : ChunkName). part (entry_at new n) ≡ part (entry_at old n)) e (ap part changes.at ∙ same)
    | inr past ↦ ap part (changes.others other (is_name-false other name past))
  ]

and_true : (here : Bool) → (here && true) ≡ here
and_true true = refl
and_true false = refl

and_false : (here : Bool) → (here && false) ≡ false
and_false true = refl
and_false false = refl

lent_or_foreign : (lent foreign : Bool) → ((true && not lent) || (foreign && not false)) ≡ (foreign || not lent)
lent_or_foreign true true = refl
lent_or_foreign true false = refl
lent_or_foreign false true = refl
lent_or_foreign false false = refl

-- a merge changes what is known of its name
pub merged_changes : (old new : List Slot) (slot : Slot) (name : ChunkName) (entry : Entry) → Merges old new slot → slot.name ≡ name → slot.entry ≡ entry → ChangesAt (entry_at old) (entry_at new) name (joined entry (entry_at old name))
merged_changes old new slot name entry merges same is =
    let at_name = subst (λ (n : ChunkName). ChangesAt (entry_at old) (entry_at new) n (joined slot.entry (entry_at old n))) same merges.entries in
    subst (λ (x : Entry). ChangesAt (entry_at old) (entry_at new) name (joined x (entry_at old name))) is at_name

module _ (old new : List Slot) (name : ChunkName) where
  -- a handle of a new file is out
  pub Creates-joined : ChangesAt (entry_at old) (entry_at new) name (joined created_entry (entry_at old name)) → IsFreeName (memory_port old) name → Creates (memory_port old) (memory_port new) name
  Creates-joined changes free =
      let e = entry_at old name in
      record {
        held = part_stays old new name (joined created_entry e) changes (λ (x : Entry). x.held) refl;
        gone = part_stays old new name (joined created_entry e) changes (λ (x : Entry). x.gone) refl;
        lent = part_changes old new name (joined created_entry e) changes (λ (x : Entry). x.lent) true (ap (λ (b : Bool). (true && not b) || (e.lent && not false)) free.foreign);
        foreign = part_stays old new name (joined created_entry e) changes (λ (x : Entry). x.foreign) (and_false e.foreign ∙ sym free.foreign);
        created = part_changes old new name (joined created_entry e) changes (λ (x : Entry). x.created) true refl;
        fixed = part_stays old new name (joined created_entry e) changes (λ (x : Entry). x.fixed) (and_true e.fixed);
      }

  -- a handle of the held file is out
  pub Takes-lent : ChangesAt (entry_at old) (entry_at new) name (lent_entry (entry_at old name)) → Takes (memory_port old) (memory_port new) name
  Takes-lent changes =
      record {
        held = part_changes old new name (lent_entry (entry_at old name)) changes (λ (x : Entry). x.held) None refl;
        gone = part_stays old new name (lent_entry (entry_at old name)) changes (λ (x : Entry). x.gone) refl;
        lent = part_changes old new name (lent_entry (entry_at old name)) changes (λ (x : Entry). x.lent) true refl;
        foreign = part_stays old new name (lent_entry (entry_at old name)) changes (λ (x : Entry). x.foreign) refl;
        created = part_stays old new name (lent_entry (entry_at old name)) changes (λ (x : Entry). x.created) refl;
        fixed = part_stays old new name (lent_entry (entry_at old name)) changes (λ (x : Entry). x.fixed) refl;
      }

  module _ (file : FileState) where
    -- a handle came back
    pub Gives-joined : ChangesAt (entry_at old) (entry_at new) name (joined (returned_entry file) (entry_at old name)) → Gives (memory_port old) (memory_port new) name file
    Gives-joined changes =
        let e = entry_at old name in
        record {
          held = part_changes old new name (joined (returned_entry file) e) changes (λ (x : Entry). x.held) (Some file) refl;
          gone = part_changes old new name (joined (returned_entry file) e) changes (λ (x : Entry). x.gone) None refl;
          lent = part_changes old new name (joined (returned_entry file) e) changes (λ (x : Entry). x.lent) false (and_false e.lent);
          foreign = part_changes old new name (joined (returned_entry file) e) changes (λ (x : Entry). x.foreign) (e.foreign || not e.lent) (lent_or_foreign e.lent e.foreign);
          created = part_stays old new name (joined (returned_entry file) e) changes (λ (x : Entry). x.created) refl;
          fixed = part_changes old new name (joined (returned_entry file) e) changes (λ (x : Entry). x.fixed) false (and_false e.fixed);
        }

    -- a file was removed by its handle
    pub Removes-joined : ChangesAt (entry_at old) (entry_at new) name (joined (removed_entry file) (entry_at old name)) → Removes (memory_port old) (memory_port new) name file
    Removes-joined changes =
        let e = entry_at old name in
        record {
          held = part_changes old new name (joined (removed_entry file) e) changes (λ (x : Entry). x.held) None refl;
          gone = part_changes old new name (joined (removed_entry file) e) changes (λ (x : Entry). x.gone) (Some file) refl;
          lent = part_changes old new name (joined (removed_entry file) e) changes (λ (x : Entry). x.lent) false (and_false e.lent);
          foreign = part_changes old new name (joined (removed_entry file) e) changes (λ (x : Entry). x.foreign) (e.foreign || not e.lent) (lent_or_foreign e.lent e.foreign);
          created = part_stays old new name (joined (removed_entry file) e) changes (λ (x : Entry). x.created) refl;
          fixed = part_changes old new name (joined (removed_entry file) e) changes (λ (x : Entry). x.fixed) false (and_false e.fixed);
        }

-- every name is durable
pub SyncsNames-synced : (old new : List Slot) → new ≡ synced_slots old → SyncsNames (memory_port old) (memory_port new)
SyncsNames-synced old new syncs =
    let entry : (name : ChunkName) → entry_at new name ≡ synced_entry (entry_at old name) = λ name. ap (λ (s : List Slot). entry_at s name) syncs ∙ entry_at-synced old name in
    record {
      held = λ name. ap (λ (x : Entry). x.held) (entry name);
      gone = λ name. ap (λ (x : Entry). x.gone) (entry name);
      lent = λ name. ap (λ (x : Entry). x.lent) (entry name);
      foreign = λ name. ap (λ (x : Entry). x.foreign) (entry name);
      created = λ name. ap (λ (x : Entry). x.created) (entry name);
      fixed = λ name. ap (λ (x : Entry). x.fixed) (entry name);
    }
