-- What the scans compute, over the lists as they are kept.
use Rattle.std.specs.Prelude.{ℕ, ◌+◌, ◌==◌, ◌&&◌, Bool, false, not, nat_lt, List, [], ◌∷◌, count_by, if◌then◌else◌}
use Rattle.std.specs.List.{list_any}
use Rattle.hr_base.specs.declared.name.ChunkName.{ChunkName}
use Rattle.hr_base.specs.declared.name.Class.{Class}
use Rattle.hr_base.specs.declared.name.Class.TheVariants.{Value, Tomb, Clear}
use Rattle.hr_base.specs.Entries.{Key, is_key}
use Rattle.hr_base.specs.NameTests.{is_name}
use Rattle.record_format.specs.declared.record.Record.{Record}
use Rattle.record_format.specs.Spelling.{seq_of}
use Rattle.gc_event.specs.Books.{is_waiting}
use Rattle.gc_event.specs.Live.{is_clear, is_value, with_content}
use Rattle.gc_event.specs.Notes.{Identity, concerns}
use Rattle.occ_ledger.specs.declared.lists.Spot.{Spot}
use Rattle.occ_ledger.specs.declared.seen.Seen.{Seen}
use Rattle.occ_ledger.specs.Marks.{content_in, identity_in}
use Rattle.occ_ledger.specs.Lists.{entry_in, is_kept}

-- ---- what is stale

abbrev pub scan_passed : Seen → Key → ℕ → Bool
scan_passed v k n = list_any (λ o. is_kept v.without (entry_in o) && not (is_clear (identity_in o.mark)) && is_key k (identity_in o.mark).key && nat_lt n (identity_in o.mark).seq) v.present.now

abbrev pub scan_stale : Seen → Key → ℕ
scan_stale v k = count_by (λ e. is_kept v.without (entry_in e) && is_value (identity_in e.mark) && is_key k (identity_in e.mark).key && scan_passed v k (identity_in e.mark).seq) v.present.now

abbrev pub scan_passed_under : Seen → ℕ → ℕ → Bool
scan_passed_under v p n = list_any (λ o. is_kept v.without (entry_in o) && is_clear (identity_in o.mark) && ((identity_in o.mark).key.prefix == p) && nat_lt n (identity_in o.mark).seq) v.present.now

abbrev pub scan_stale_under : Seen → ℕ → ℕ
scan_stale_under v p = count_by (λ e. is_kept v.without (entry_in e) && is_value (identity_in e.mark) && ((identity_in e.mark).key.prefix == p) && scan_passed_under v p (identity_in e.mark).seq) v.present.now

-- ---- what is live

abbrev pub scan_greater : Seen → Key → ℕ → Bool
scan_greater v k n = list_any (λ o. concerns (identity_in o.mark) k && nat_lt n (identity_in o.mark).seq) v.told.now

abbrev pub scan_newer : Seen → ℕ → ℕ → Bool
scan_newer v p n = list_any (λ o. is_clear (identity_in o.mark) && ((identity_in o.mark).key.prefix == p) && nat_lt n (identity_in o.mark).seq) v.told.now

abbrev pub scan_older : Seen → Key → ℕ → Bool
scan_older v k n = list_any (λ o. is_kept v.without (entry_in o) && is_value (identity_in o.mark) && is_key k (identity_in o.mark).key && nat_lt (identity_in o.mark).seq n) v.present.now

abbrev pub scan_older_under : Seen → ℕ → ℕ → Bool
scan_older_under v p n = list_any (λ o. is_kept v.without (entry_in o) && is_value (identity_in o.mark) && ((identity_in o.mark).key.prefix == p) && nat_lt (identity_in o.mark).seq n) v.present.now

abbrev pub scan_needed : Class → Seen → Identity → Bool
scan_needed Value v id = not (scan_greater v id.key id.seq)
scan_needed Tomb v id = not (scan_greater v id.key id.seq) && scan_older v id.key id.seq
scan_needed Clear v id = not (scan_newer v id.key.prefix id.seq) && scan_older_under v id.key.prefix id.seq

abbrev pub scan_live : Seen → Spot → Bool
scan_live v s = s.place && scan_needed (identity_in s.mark).class v (identity_in s.mark)

-- the live ones of a chunk among these, by number
abbrev pub scan_chosen : Seen → ChunkName → Spot → List Record → List Record
scan_chosen v chunk s rs = if is_name s.chunk chunk && scan_live v s then with_content (content_in s.mark) rs else rs

abbrev pub scan_among : Seen → ChunkName → List Spot → List Record
scan_among v chunk [] = []
scan_among v chunk (s ∷ ss) = scan_chosen v chunk s (scan_among v chunk ss)

-- how many of these have a smaller number, up to the first that has not
abbrev pub smaller : ℕ → List Record → ℕ
smaller n [] = 0
smaller n (r ∷ rs) = if nat_lt (seq_of r) n then smaller n rs + 1 else 0

-- ---- what is retired

abbrev pub scan_lives : Seen → ℕ → Bool
scan_lives v n = list_any (λ e. is_kept v.without (entry_in e) && ((identity_in e.mark).seq == n) && scan_live v e) v.present.now

abbrev pub scan_lapsed : Seen → Seen → ℕ
scan_lapsed v after = count_by (λ e. is_kept v.without (entry_in e) && not (is_value (identity_in e.mark)) && scan_live v e && not (scan_lives after (identity_in e.mark).seq)) v.present.now

-- ---- what changes

abbrev pub with_spot : Bool → Bool → Spot → Spot
with_spot waiting place s = record { mark = s.mark; chunk = s.chunk; waiting = waiting; place = place }

-- where an event of the record's own kind was told
abbrev pub unplaced_spot : Bool → ℕ → Spot → Spot
unplaced_spot own n s = with_spot s.waiting (s.place && not (own && ((identity_in s.mark).seq == n))) s

abbrev pub ended_spot : Spot → Spot
ended_spot s = with_spot false s.place s

-- one of these is a copy of the number that waits
abbrev pub spots_copy : List Spot → ℕ → Bool
spots_copy ss n = list_any (λ s. ((identity_in s.mark).seq == n) && is_waiting (entry_in s)) ss

-- whether it is its record's place once the copies are secured, where these stand behind it
abbrev pub place_in : List Spot → Spot → List Spot → Bool
place_in all s ss = if is_waiting (entry_in s) then not (spots_copy ss (identity_in s.mark).seq) else s.place && not (spots_copy all (identity_in s.mark).seq)

abbrev pub placed : List Spot → List Spot → List Spot
placed all [] = []
placed all (s ∷ ss) = with_spot s.waiting (place_in all s ss) s ∷ placed all ss
