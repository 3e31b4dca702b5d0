-- What joining and syncing make of one entry.
use Rattle.std.proofs.Common.{◌≡◌, Bool, true, false, ◌&&◌, ◌||◌, not, Option, Some, None, is_some, if◌then◌else◌, refl, ap, ◌∙◌}
use Rattle.mem_folder.specs.declared.chain.Entry.{Entry}
use Rattle.dir_files.specs.Files.{FileState}
use Rattle.dir_files.specs.Ports.{either_file}
use Rattle.mem_folder.specs.Memory.{blank, joined}

-- a file or nothing is the file where there is one
pub either_file-none : (file : Option FileState) → either_file file None ≡ file
either_file-none None = refl
either_file-none (Some file) = refl

pub either_unless-none : (replaced : Bool) (file : Option FileState) → (if replaced then file else either_file file None) ≡ file
either_unless-none false file = either_file-none file
either_unless-none true file = refl

-- a test that is joined with nothing
pub settled_with_none : (here there : Bool) → ((here && not false) || (false && not there)) ≡ here
settled_with_none true there = refl
settled_with_none false there = refl

pub none_settled_with : (here there : Bool) → ((false && not here) || (there && not false)) ≡ there
none_settled_with here true = refl
none_settled_with here false = refl

pub or_none : (here : Bool) → (here || false) ≡ here
or_none true = refl
or_none false = refl

-- an entry is given by its parts
pub same_entry : (a b : Entry) → a.held ≡ b.held → a.gone ≡ b.gone → a.lent ≡ b.lent → a.foreign ≡ b.foreign → a.created ≡ b.created → a.fixed ≡ b.fixed → a ≡ b
same_entry a b held gone lent foreign created fixed =
    ap (λ (h : Option FileState). let e : Entry = record { held = h; gone = a.gone; lent = a.lent; foreign = a.foreign; created = a.created; fixed = a.fixed } in e) held
    ∙ ap (λ (g : Option FileState). let e : Entry = record { held = b.held; gone = g; lent = a.lent; foreign = a.foreign; created = a.created; fixed = a.fixed } in e) gone
    ∙ ap (λ (l : Bool). let e : Entry = record { held = b.held; gone = b.gone; lent = l; foreign = a.foreign; created = a.created; fixed = a.fixed } in e) lent
    ∙ ap (λ (f : Bool). let e : Entry = record { held = b.held; gone = b.gone; lent = b.lent; foreign = f; created = a.created; fixed = a.fixed } in e) foreign
    ∙ ap (λ (c : Bool). let e : Entry = record { held = b.held; gone = b.gone; lent = b.lent; foreign = b.foreign; created = c; fixed = a.fixed } in e) created
    ∙ ap (λ (x : Bool). let e : Entry = record { held = b.held; gone = b.gone; lent = b.lent; foreign = b.foreign; created = b.created; fixed = x } in e) fixed

-- joining with nothing known changes nothing
pub joined-blank : (entry : Entry) → joined entry blank ≡ entry
joined-blank entry =
    same_entry (joined entry blank) entry (either_unless-none (is_some entry.gone) entry.held) (either_unless-none (is_some entry.held) entry.gone) (settled_with_none entry.lent entry.foreign) (settled_with_none entry.foreign entry.lent) (or_none entry.created) (settled_with_none entry.fixed entry.foreign)

pub blank-joined : (entry : Entry) → joined blank entry ≡ entry
blank-joined entry =
    same_entry (joined blank entry) entry refl refl (none_settled_with entry.foreign entry.lent) (none_settled_with entry.lent entry.foreign) refl (none_settled_with entry.foreign entry.fixed)
