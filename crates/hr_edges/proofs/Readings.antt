-- How far a source was read.
use Rattle.std.specs.Prelude.{◌≡◌, ℕ, ◌+◌, ◌<◌, ◌≤◌, List, [], ◌++◌, length, take, drop, Option, None, Some, IfSome, refl}
use Rattle.std.proofs.Common.{sym, ◌∙◌, ap, arith, append_assoc, length-append, take-append-drop}
use Rattle.std.proofs.Math.Seq.{take-append_seam}
use Rattle.std.proofs.lemmas.List.{append-nil, length-take-le}
use Rattle.hr_edges.specs.declared.reading.TheConstants.{PIECE_LEN}
use Rattle.hr_edges.specs.Edges.{GivesFirst, WasRead, ReadsAtMost, ReadsTooMuch, IsRead, StaysUntold}

-- more were read than the limit allows, so all bytes are more
pub ReadsTooMuch-all : (limit : ℕ) (all : List ℕ) (left : Option (List ℕ)) → ReadsTooMuch limit all left → limit < length all
ReadsTooMuch-all limit all left r = omega (arith, r.more, ap length r.was_read.whole, length-append r.read r.was_read.rest)

-- ---- one piece after another

-- these bytes were read, and the others are left
abbrev pub Fetched : Option (List ℕ) → Option (List ℕ) → List ℕ → Type 0
Fetched None new read = new ≡ None
Fetched (Some all) new read = WasRead new all read

pub fetched_none : (old : Option (List ℕ)) → Fetched old old []
fetched_none None = refl
fetched_none (Some all) = record { rest = all; whole = refl; left_is = refl }

fetched_past : (all : List ℕ) (mid new : Option (List ℕ)) (read into : List ℕ) (n : ℕ) → WasRead mid all read → IfSome mid (λ bytes. GivesFirst bytes new n into)
    → WasRead new all (read ++ take n into)
fetched_past all None new read into n w g = cc
fetched_past all (Some bytes) new read into n w g =
    let is : w.rest ≡ bytes = cc in
    record {
      rest = drop n bytes;
      whole = w.whole ∙ ap (λ (b : List ℕ). read ++ b) (is ∙ sym (take-append-drop n bytes)) ∙ sym (append_assoc read (take n bytes) (drop n bytes))
          ∙ ap (λ (b : List ℕ). (read ++ b) ++ drop n bytes) (sym g.given);
      left_is = g.rest;
    }

-- a call gave some more
pub fetched_more : (old mid new : Option (List ℕ)) (read into : List ℕ) (n : ℕ) → Fetched old mid read → IfSome mid (λ bytes. GivesFirst bytes new n into) → StaysUntold mid new
    → Fetched old new (read ++ take n into)
fetched_more None None new read into n w g u = u
fetched_more None (Some bytes) new read into n w g u = cc
fetched_more (Some all) mid new read into n w g u = fetched_past all mid new read into n w g

pub fetched_length : (read into : List ℕ) (n : ℕ) → n ≤ length into → length (read ++ take n into) ≡ length read + n
fetched_length read into n within = length-append read (take n into) ∙ ap (λ (k : ℕ). length read + k) (length-take-le n into within)

-- the buffer has what the call put into it, and a front of it stands behind what was read before
pub fetched_behind : (new read into rest buffer : List ℕ) (n size : ℕ) → new ≡ read ++ take n buffer → buffer ≡ take size (into ++ rest) → size ≡ length into → new ≡ read ++ take n into
fetched_behind new read into rest buffer n size behind put whole =
    let same : buffer ≡ into = put ∙ ap (λ (k : ℕ). take k (into ++ rest)) whole ∙ take-append_seam into rest in
    behind ∙ ap (λ (b : List ℕ). read ++ take n b) same

-- a call gave nothing to a buffer with room, so all were read
pub fetched_all : (old mid : Option (List ℕ)) (read into : List ℕ) (n : ℕ) → Fetched old mid read → IfSome mid (λ bytes. n ≡ 0 → 0 < length into → bytes ≡ [])
    → n ≡ 0 → 0 < length into → IfSome old (λ all. read ≡ all)
fetched_all None mid read into n w e zero room = tt
fetched_all (Some all) None read into n w e zero room = cc
fetched_all (Some all) (Some bytes) read into n w e zero room =
    let is : w.rest ≡ bytes = cc in
    sym (w.whole ∙ ap (λ (b : List ℕ). read ++ b) (is ∙ e zero room) ∙ append-nil read)

-- and none are left
pub fetched_end : (old mid new : Option (List ℕ)) (read into : List ℕ) (n : ℕ) → Fetched old mid read → IfSome mid (λ bytes. n ≡ 0 → 0 < length into → bytes ≡ [])
    → IfSome mid (λ bytes. GivesFirst bytes new n into) → n ≡ 0 → 0 < length into → IsRead old new
fetched_end None mid new read into n w e g zero room = tt
fetched_end (Some all) None new read into n w e g zero room = cc
fetched_end (Some all) (Some bytes) new read into n w e g zero room =
    g.rest ∙ ap (λ (k : ℕ). Some (drop k bytes)) zero ∙ ap Some (e zero room)

-- ---- how much was read

pub fetched_few : (limit : ℕ) (old new : Option (List ℕ)) (read : List ℕ) → Fetched old new read → length read ≤ limit → IfSome old (λ all. ReadsAtMost limit all new)
fetched_few limit None new read w few = tt
fetched_few limit (Some all) new read w few = record { read = read; few = few; was_read = w }

pub fetched_much : (limit : ℕ) (old new : Option (List ℕ)) (read : List ℕ) → Fetched old new read → limit < length read → length read ≤ limit + PIECE_LEN
    → IfSome old (λ all. ReadsTooMuch limit all new)
fetched_much limit None new read w more few = tt
fetched_much limit (Some all) new read w more few = record { read = read; more = more; few = few; was_read = w }
