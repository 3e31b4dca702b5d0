-- What a crash leaves of slots, and of the port that they are seen as.
use Rattle.std.proofs.Common.{◌≡◌, ◌≢◌, ◌⊎◌, ◌≤◌, ◌/◌, ◌^◌, ℕ, zero, suc, Bool, true, false, cond, ◌||◌, List, [], ◌∷◌, ◌++◌, length, get_or, take, drop, min, Option, Some, None, is_some, option_map, Contains, AllPairs, All, slice_get, refl, ap, sym, ◌∙◌, subst, inl, inr, arith, length-take}
use Rattle.std.proofs.lemmas.Bool.{cases_Bool, false≢true, or_parts}
use Rattle.std.proofs.lemmas.List.{take-append-drop}
use Rattle.std.proofs.lemmas.List.Elements.{Contains-get_or, All-nil, All-cons}
use Rattle.std.proofs.lemmas.List.Kept.{AllPairs-cons}
use Rattle.std.proofs.lemmas.Option.{slice_get-get_or, slice_get_cases}
use Rattle.hr_base.specs.declared.name.ChunkName.{ChunkName}
use Rattle.hr_base.specs.declared.limits.Pick.{Pick}
use Rattle.hr_base.specs.declared.limits.Pick.TheVariants.{Least, Most, Mix}
use Rattle.hr_base.specs.Names.{IsChunkName}
use Rattle.hr_base.specs.NameTests.{is_name}
use Rattle.hr_base.proofs.NameTestLaws.{is_name-true, is_name-same}
use Rattle.dir_files.specs.Files.{FileState, IsFile}
use Rattle.dir_files.specs.Ports.{Port, IsPort, SamePort, is_present}
use Rattle.dir_files.specs.Images.{KeepsFront, MayLeave, IsImage, read_of, durable_files, port_of_image}
use Rattle.mem_folder.specs.declared.chain.Entry.{Entry}
use Rattle.mem_folder.specs.declared.chain.Slot.{Slot}
use Rattle.mem_folder.specs.Durables.{durable_file}
use Rattle.mem_folder.specs.Memory.{blank, resting_entry, entry_at, has_name, memory_port}
use Rattle.mem_folder.specs.Orders.{ComesBefore}
use Rattle.mem_folder.specs.Picks.{next_state, draw_after, draw_at, next_pick, stays, left_length, left_of_file, left_of}
use Rattle.mem_folder.specs.Crashes.{IsRoll, CrashesTo, LeavesSlots}
use Rattle.mem_folder.proofs.Orders.{before_other}
use Rattle.mem_folder.proofs.Slots.{is_name-back_false, entry_at-here, entry_at-past, entry_at-absent}
use Rattle.mem_folder.proofs.Listing.{Contains-cons_cases, Contains-head, Contains-tail}

-- draws of the next pick are those of the pick, from the second on
state_after-next : (seed count : ℕ) → draw_after (next_state seed) count ≡ draw_after seed (suc count)
unfolding draw_after
state_after-next seed zero = refl
state_after-next seed (suc count) = ap next_state (state_after-next seed count)

draw_at-next : (pick : Pick) (place : ℕ) → draw_at (next_pick pick) place ≡ draw_at pick (suc place)
draw_at-next Least place = refl
draw_at-next Most place = refl
draw_at-next (Mix seed) place = ap (λ (state : ℕ). state / 2 ^ 33) (state_after-next seed (suc place))

-- what is left by a draw does not depend on the state
left_of_file-next : (pick : Pick) (draw : ℕ) (named : Bool) (file : FileState) → left_of_file (next_pick pick) draw named file ≡ left_of_file pick draw named file
left_of_file-next Least draw named file = refl
left_of_file-next Most draw named file = refl
left_of_file-next (Mix seed) draw named file = refl

left_of-next : (pick : Pick) (draw : ℕ) (held gone : Option FileState) → left_of (next_pick pick) draw held gone ≡ left_of pick draw held gone
left_of-next pick draw (Some file) gone = left_of_file-next pick draw file.named file
left_of-next pick draw None (Some file) = left_of_file-next pick draw false file
left_of-next pick draw None None = refl

-- a name whose file is here is among the names
present_named : (slots : List Slot) (name : ChunkName) → is_present (memory_port slots) name ≡ true → has_name slots name ≡ true
present_named slots name present = elim (cases_Bool (has_name slots name)) [
  | inl there ↦ there
  | inr absent ↦ absurd (false≢true (sym (ap (λ (e : Entry). is_some e.held || is_some e.gone) (entry_at-absent slots name absent)) ∙ present))
]

-- no slots
empty_roll : IsRoll (memory_port []) []
unfolding entry_at
empty_roll = record {
  listed = λ name. (λ there. absurd (omega (arith, there.1)), λ present. absurd (false≢true present));
  rising = λ i j d before within. absurd (omega (arith, within));
  valid = All-nil IsChunkName;
}

empty_leaves : (pick : Pick) → LeavesSlots pick [] []
unfolding entry_at
empty_leaves pick = record {
  names = [];
  roll = empty_roll;
  left = λ place name there. absurd cc;
  others = λ name absent. refl;
  kept = λ other. refl;
}

pub leaves_at_end : (pick : Pick) (slots : List Slot) → slots ≡ [] → LeavesSlots pick slots slots
leaves_at_end pick slots is = subst (λ (s : List Slot). LeavesSlots pick s s) (sym is) (empty_leaves pick)

-- the name at a place is on the list
listed_at : (names : List ChunkName) (place : ℕ) (name : ChunkName) → slice_get names place ≡ Some name → Contains names name
listed_at names place name there = elim (slice_get_cases names place).1 [
  | inl within ↦
      let same : within.0 ≡ name = cc in
      subst (Contains names) same (place, within.1, within.3)
  | inr past ↦ absurd cc
]

-- what is left of one entry
abbrev pub left_entry : Pick → ℕ → Entry → Entry
left_entry pick draw entry = resting_entry (option_map durable_file (left_of pick draw entry.held entry.gone))

next_entry : (pick : Pick) (place : ℕ) (entry : Entry) → left_entry (next_pick pick) (draw_at (next_pick pick) place) entry ≡ left_entry pick (draw_at pick (suc place)) entry
next_entry pick place entry =
    ap (λ (left : Option (List ℕ)). resting_entry (option_map durable_file left)) (left_of-next pick (draw_at (next_pick pick) place) entry.held entry.gone)
    ∙ ap (λ (draw : ℕ). left_entry pick draw entry) (draw_at-next pick place)

nothing_of : (pick : Pick) (draw : ℕ) (held gone : Option FileState) → (is_some held || is_some gone) ≡ false → resting_entry (option_map durable_file (left_of pick draw held gone)) ≡ blank
nothing_of pick draw (Some file) gone none = absurd (false≢true (sym none))
nothing_of pick draw None (Some file) none = absurd (false≢true (sym none))
nothing_of pick draw None None none = refl

module _ (pick : Pick) (slot : Slot) (rest new : List Slot) (entry : Entry) (valid : IsChunkName slot.name) (first : (other : ChunkName) → has_name rest other ≡ true → ComesBefore slot.name other) (left : entry ≡ left_entry pick (draw_at pick 0) slot.entry) where
  -- the names behind are others
  behind_other : (name : ChunkName) → is_present (memory_port rest) name ≡ true → is_name name slot.name ≡ false
  behind_other name present =
      is_name-back_false slot.name name (before_other slot.name name (first name (present_named rest name present)))

  present_here : (name : ChunkName) → is_name name slot.name ≡ true → is_present (memory_port (slot ∷ rest)) name ≡ (is_some slot.entry.held || is_some slot.entry.gone)
  present_here name here = ap (λ (e : Entry). is_some e.held || is_some e.gone) (entry_at-here name slot rest here)

  present_past : (name : ChunkName) → is_name name slot.name ≡ false → is_present (memory_port (slot ∷ rest)) name ≡ is_present (memory_port rest) name
  present_past name past = ap (λ (e : Entry). is_some e.held || is_some e.gone) (entry_at-past name slot rest past)

  kept_more : ((other : ChunkName) → has_name new other ≡ has_name rest other) → (other : ChunkName) → has_name (record { name = slot.name; entry = entry } ∷ new) other ≡ has_name (slot ∷ rest) other
  unfolding has_name
  kept_more kept other = ap (λ (b : Bool). is_name other slot.name || b) (kept other)

  -- the first name draws
  module _ (present : (is_some slot.entry.held || is_some slot.entry.gone) ≡ true) (behind : LeavesSlots (next_pick pick) rest new) where
    roll_more : IsRoll (memory_port (slot ∷ rest)) (slot.name ∷ behind.names)
    roll_more = record {
      listed = λ name. (
        λ there. elim (Contains-cons_cases slot.name behind.names name there) [
          | inl same ↦ present_here name (subst (λ (x : ChunkName). is_name x slot.name ≡ true) same (is_name-same slot.name)) ∙ present
          | inr later ↦
              let is : is_present (memory_port rest) name ≡ true = (behind.roll.listed name).0 later in
              present_past name (behind_other name is) ∙ is
        ],
        λ is. elim (cases_Bool (is_name name slot.name)) [
          | inl here ↦ subst (Contains (slot.name ∷ behind.names)) (sym (is_name-true name slot.name here)) (Contains-head slot.name behind.names)
          | inr past ↦ Contains-tail slot.name behind.names name ((behind.roll.listed name).1 (sym (present_past name past) ∙ is))
        ],
      );
      rising = AllPairs-cons ComesBefore slot.name behind.names (λ k d within. first (get_or behind.names k d) (present_named rest (get_or behind.names k d) ((behind.roll.listed (get_or behind.names k d)).0 (Contains-get_or behind.names k d within)))) behind.roll.rising;
      valid = All-cons IsChunkName slot.name behind.names valid behind.roll.valid;
    }

    left_more : (place : ℕ) (name : ChunkName) → slice_get (slot.name ∷ behind.names) place ≡ Some name → entry_at (record { name = slot.name; entry = entry } ∷ new) name ≡ left_entry pick (draw_at pick place) (entry_at (slot ∷ rest) name)
    left_more zero name there =
        let now : Slot = record { name = slot.name; entry = entry } in
        let same : slot.name ≡ name = cc in
        let here : is_name name slot.name ≡ true = subst (λ (x : ChunkName). is_name x slot.name ≡ true) same (is_name-same slot.name) in
        entry_at-here name now new here ∙ left ∙ ap (left_entry pick (draw_at pick 0)) (sym (entry_at-here name slot rest here))
    left_more (suc place) name there =
        let now : Slot = record { name = slot.name; entry = entry } in
        let past = behind_other name ((behind.roll.listed name).0 (listed_at behind.names place name there)) in
        entry_at-past name now new past
        ∙ behind.left place name there
        ∙ next_entry pick place (entry_at rest name)
        ∙ ap (left_entry pick (draw_at pick (suc place))) (sym (entry_at-past name slot rest past))

    leaves_present : LeavesSlots pick (slot ∷ rest) (record { name = slot.name; entry = entry } ∷ new)
    leaves_present = record {
      names = slot.name ∷ behind.names;
      roll = roll_more;
      left = left_more;
      others = λ name absent. elim (cases_Bool (is_name name slot.name)) [
        | inl here ↦ absurd (false≢true (sym absent ∙ present_here name here ∙ present))
        | inr past ↦
            let now : Slot = record { name = slot.name; entry = entry } in
            entry_at-past name now new past ∙ behind.others name (sym (present_past name past) ∙ absent)
      ];
      kept = kept_more behind.kept;
    }

  -- there is no file of the first name
  module _ (none : (is_some slot.entry.held || is_some slot.entry.gone) ≡ false) (behind : LeavesSlots pick rest new) where
    roll_same : IsRoll (memory_port (slot ∷ rest)) behind.names
    roll_same = record {
      listed = λ name. (
        λ there.
            let is : is_present (memory_port rest) name ≡ true = (behind.roll.listed name).0 there in
            present_past name (behind_other name is) ∙ is,
        λ is. elim (cases_Bool (is_name name slot.name)) [
          | inl here ↦ absurd (false≢true (sym none ∙ sym (present_here name here) ∙ is))
          | inr past ↦ (behind.roll.listed name).1 (sym (present_past name past) ∙ is)
        ],
      );
      rising = behind.roll.rising;
      valid = behind.roll.valid;
    }

    leaves_absent : LeavesSlots pick (slot ∷ rest) (record { name = slot.name; entry = entry } ∷ new)
    leaves_absent =
        let now : Slot = record { name = slot.name; entry = entry } in
        record {
          names = behind.names;
          roll = roll_same;
          left = λ place name there.
              let past = behind_other name ((behind.roll.listed name).0 (listed_at behind.names place name there)) in
              entry_at-past name now new past
              ∙ behind.left place name there
              ∙ ap (left_entry pick (draw_at pick place)) (sym (entry_at-past name slot rest past));
          others = λ name absent. elim (cases_Bool (is_name name slot.name)) [
            | inl here ↦ entry_at-here name now new here ∙ left ∙ nothing_of pick (draw_at pick 0) slot.entry.held slot.entry.gone none
            | inr past ↦ entry_at-past name now new past ∙ behind.others name (sym (present_past name past) ∙ absent)
          ];
          kept = kept_more behind.kept;
        }

  -- one more slot in front
  pub leaves_more : (slots : List Slot) (picked : Pick) → slots ≡ slot ∷ rest → picked ≡ cond (is_some slot.entry.held || is_some slot.entry.gone) (next_pick pick) pick → LeavesSlots picked rest new → LeavesSlots pick slots (record { name = slot.name; entry = entry } ∷ new)
  leaves_more slots picked is picks behind =
      subst (λ (s : List Slot). LeavesSlots pick s (record { name = slot.name; entry = entry } ∷ new)) (sym is) (elim (cases_Bool (is_some slot.entry.held || is_some slot.entry.gone)) [
        | inl present ↦ leaves_present present (subst (λ (p : Pick). LeavesSlots p rest new) (picks ∙ ap (λ (b : Bool). cond b (next_pick pick) pick) present) behind)
        | inr none ↦ leaves_absent none (subst (λ (p : Pick). LeavesSlots p rest new) (picks ∙ ap (λ (b : Bool). cond b (next_pick pick) pick) none) behind)
      ])

-- what is read of a file that rests
read_durable : (left : Option (List ℕ)) → option_map (λ (file : FileState). file.bytes) (option_map durable_file left) ≡ left
read_durable None = refl
read_durable (Some bytes) = refl

pub durable_fits : (left : Option (List ℕ)) (file : FileState) → option_map durable_file left ≡ Some file → IsFile file
durable_fits None file is = absurd cc
durable_fits (Some bytes) file is =
    let same : durable_file bytes ≡ file = cc in
    let fits : IsFile (durable_file bytes) = omega arith in
    subst IsFile same fits

left_length-front : (pick : Pick) (draw front len : ℕ) → front ≤ len → front ≤ left_length pick draw front len
left_length-front Least draw front len fits = omega arith
left_length-front Most draw front len fits = fits
left_length-front (Mix seed) draw front len fits = omega arith

stays-unnamed : (pick : Pick) (draw : ℕ) (named : Bool) → stays pick draw named ≡ false → named ≡ false
stays-unnamed Least draw named out = out
stays-unnamed Most draw named out = absurd (false≢true (sym out))
stays-unnamed (Mix seed) draw named out = (or_parts named _ out).0

-- a file keeps its front at least
keeps_front : (pick : Pick) (draw : ℕ) (file : FileState) → IsFile file → KeepsFront file (take (left_length pick draw file.front (length file.bytes)) file.bytes)
keeps_front pick draw file fits =
    let count = left_length pick draw file.front (length file.bytes) in
    let enough : file.front ≤ count = left_length-front pick draw file.front (length file.bytes) fits in
    record {
      rest = drop count file.bytes;
      prefix = sym (take-append-drop count file.bytes);
      front = omega (arith, length-take count file.bytes, enough, fits);
    }

may_leave : (pick : Pick) (draw : ℕ) (held gone : Option FileState) → ((file : FileState) → held ≡ Some file → IsFile file) → ((file : FileState) → gone ≡ Some file → IsFile file) → MayLeave held gone (left_of pick draw held gone)
may_leave pick draw (Some file) gone held_fits gone_fits =
    let bytes = take (left_length pick draw file.front (length file.bytes)) file.bytes in
    elim (cases_Bool (stays pick draw file.named)) [
      | inl there ↦ subst (MayLeave (Some file) gone) (sym (ap (λ (b : Bool). cond b (Some bytes) None) there)) (keeps_front pick draw file (held_fits file refl))
      | inr out ↦ subst (MayLeave (Some file) gone) (sym (ap (λ (b : Bool). cond b (Some bytes) None) out)) (stays-unnamed pick draw file.named out)
    ]
may_leave pick draw None (Some file) held_fits gone_fits =
    let bytes = take (left_length pick draw file.front (length file.bytes)) file.bytes in
    elim (cases_Bool (stays pick draw false)) [
      | inl there ↦ subst (MayLeave None (Some file)) (sym (ap (λ (b : Bool). cond b (Some bytes) None) there)) (keeps_front pick draw file (gone_fits file refl))
      | inr out ↦ subst (MayLeave None (Some file)) (sym (ap (λ (b : Bool). cond b (Some bytes) None) out)) tt
    ]
may_leave pick draw None None held_fits gone_fits = tt

none_may_leave : (held gone : Option FileState) → (is_some held || is_some gone) ≡ false → MayLeave held gone None
none_may_leave (Some file) gone none = absurd (false≢true (sym none))
none_may_leave None (Some file) none = absurd (false≢true (sym none))
none_may_leave None None none = tt

module _ (pick : Pick) (old new : List Slot) (leaves : LeavesSlots pick old new) where
  -- the place of a name whose file was here
  place_of : (name : ChunkName) → is_present (memory_port old) name ≡ true → (place : ℕ) × (slice_get leaves.names place ≡ Some name)
  place_of name present =
      let there : Contains leaves.names name = (leaves.roll.listed name).1 present in
      (there.0, slice_get-get_or leaves.names there.0 name there.1 ∙ ap Some there.2)

  -- each name rests
  rests : (name : ChunkName) → (left : Option (List ℕ)) × (entry_at new name ≡ resting_entry (option_map durable_file left))
  rests name = elim (cases_Bool (is_present (memory_port old) name)) [
    | inl present ↦
        let at = place_of name present in
        (left_of pick (draw_at pick at.0) (entry_at old name).held (entry_at old name).gone, leaves.left at.0 name at.1)
    | inr absent ↦ (None, leaves.others name absent)
  ]

  read_left : (name : ChunkName) (left : Option (List ℕ)) → entry_at new name ≡ resting_entry (option_map durable_file left) → read_of (memory_port new) name ≡ left
  read_left name left is =
      ap (λ (e : Entry). option_map (λ (file : FileState). file.bytes) e.held) is ∙ read_durable left

  held_rests : (name : ChunkName) (left : Option (List ℕ)) → entry_at new name ≡ resting_entry (option_map durable_file left) → (entry_at new name).held ≡ durable_files (read_of (memory_port new)) name
  held_rests name left is =
      ap (λ (e : Entry). e.held) is ∙ sym (ap (option_map durable_file) (read_left name left is))

  pub CrashesTo-leaves : CrashesTo pick (memory_port old) (memory_port new)
  CrashesTo-leaves = record {
    names = leaves.names;
    roll = leaves.roll;
    left = λ place name there. read_left name (left_of pick (draw_at pick place) (entry_at old name).held (entry_at old name).gone) (leaves.left place name there);
    others = λ name absent. read_left name None (leaves.others name absent);
    rest = record {
      held = λ name. held_rests name (rests name).0 (rests name).1;
      gone = λ name. ap (λ (e : Entry). e.gone) (rests name).1;
      lent = λ name. ap (λ (e : Entry). e.lent) (rests name).1;
      foreign = λ name. ap (λ (e : Entry). e.foreign) (rests name).1;
      created = λ name. ap (λ (e : Entry). e.created) (rests name).1;
      fixed = λ name. ap (λ (e : Entry). e.fixed) (rests name).1;
    };
  }

  pub IsPort-leaves : IsPort (memory_port new)
  IsPort-leaves = record {
    held_fits = λ name file held. durable_fits (rests name).0 file (sym (ap (λ (e : Entry). e.held) (rests name).1) ∙ held);
    gone_fits = λ name file gone. absurd (let e : None ≡ Some file = sym (ap (λ (e : Entry). e.gone) (rests name).1) ∙ gone in cc);
    apart = λ name held. ap (λ (e : Entry). e.gone) (rests name).1;
    fixed_lent = λ name fixed. absurd (false≢true (sym (ap (λ (e : Entry). e.fixed) (rests name).1) ∙ fixed));
  }

  pub IsImage-leaves : IsPort (memory_port old) → IsImage (memory_port old).held (memory_port old).gone (read_of (memory_port new))
  IsImage-leaves was name = elim (cases_Bool (is_present (memory_port old) name)) [
    | inl present ↦
        let at = place_of name present in
        let draw = draw_at pick at.0 in
        let held = (entry_at old name).held in
        let gone = (entry_at old name).gone in
        subst (MayLeave held gone) (sym (read_left name (left_of pick draw held gone) (leaves.left at.0 name at.1))) (may_leave pick draw held gone (was.held_fits name) (was.gone_fits name))
    | inr absent ↦
        let held = (entry_at old name).held in
        let gone = (entry_at old name).gone in
        subst (MayLeave held gone) (sym (read_left name None (leaves.others name absent))) (none_may_leave held gone absent)
  ]
