use Rattle.std.proofs.Common.{◌≡◌, ℕ, List, Vec, [], ◌∷◌, ◌++◌, append-nil, append_assoc, Some, All, refl, ap, sym, ◌∙◌, subst}
use Rattle.std.specs.declared.alloc.Global.{Global}
use Rattle.hr_base.specs.declared.name.ChunkName.{ChunkName}
use Rattle.hr_base.specs.Names.{IsChunkName}
use Rattle.dir_files.specs.Files.{FileState}
use Rattle.mem_folder.specs.declared.chain.Slot.{Slot}
use Rattle.mem_folder.specs.Memory.{resting_entry}
use Rattle.mem_folder.proofs.Lists.{Fills, all_middle, holds_nothing, holds_more}
use Rattle.mem_folder.proofs.chain.Chain.of.Goals as goal

pub loop-name-init : goal.loop-name-init
loop-name-init c = record {
  rest = [];
  parts = sym (append-nil c.args.files.items);
  holds = holds_nothing c.empty-chain.result c.empty-chain.ensures;
}

pub merge-requires : goal.merge-requires
merge-requires c =
    let file : ChunkName × Vec ℕ Global = (c.in-Some.name, c.in-Some.bytes) in
    let rest = c.loop-name.invariant.rest in
    let popped : c.loop-name.files.items ≡ c.pop.new.self.items ++ file ∷ [] = c.in-Some.ensures.items in
    let parts = c.loop-name.invariant.parts ∙ ap (λ (s : List (ChunkName × Vec ℕ Global)). s ++ rest) popped ∙ append_assoc c.pop.new.self.items (file ∷ []) rest in
    all_middle (λ (f : ChunkName × Vec ℕ Global). IsChunkName f.0) c.pop.new.self.items rest file (subst (λ (s : List (ChunkName × Vec ℕ Global)). All (λ f. IsChunkName f.0) s) parts c.requires)

pub loop-name-preserved : goal.loop-name-preserved
loop-name-preserved c =
    let file : ChunkName × Vec ℕ Global = (c.in-Some.name, c.in-Some.bytes) in
    let rest = c.loop-name.invariant.rest in
    let slot : Slot = record { name = c.in-Some.name; entry = c.resting-entry.result } in
    let popped : c.loop-name.files.items ≡ c.pop.new.self.items ++ file ∷ [] = c.in-Some.ensures.items in
    record {
      rest = file ∷ rest;
      parts = c.loop-name.invariant.parts ∙ ap (λ (s : List (ChunkName × Vec ℕ Global)). s ++ rest) popped ∙ append_assoc c.pop.new.self.items (file ∷ []) rest;
      holds = holds_more c.loop-name.chain c.merge.new.self slot file rest c.loop-name.invariant.holds c.merge.ensures refl (c.resting-entry.ensures ∙ ap (λ (f : FileState). resting_entry (Some f)) c.durable.ensures);
    }
