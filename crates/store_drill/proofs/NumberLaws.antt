-- Numbers that lines use up, and the ends of their ranges.
use Rattle.std.specs.Prelude.{◌≡◌, ◌⊎◌, ℕ, ◌<◌, ◌≤◌, Bool, true, false, nat_le, List, [], ◌∷◌, ◌++◌, Option, Some, None, refl, if◌then◌else◌}
use Rattle.std.proofs.Common.{sym, inl, inr, arith}
use Rattle.std.proofs.lemmas.Bool.{leb-false, leb-true}
use Rattle.std.proofs.lemmas.Option.{same_Some}
use Rattle.hr_base.specs.declared.limits.Limits.{Limits}
use Rattle.hr_base.specs.declared.limits.TheConstants.{CHUNK_NO_END, SEQ_END}
use Rattle.hr_base.specs.Entries.{Entries}
use Rattle.script_text.specs.declared.line.Line.{Line}
use Rattle.script_text.specs.Replies.{maps_after_lines, maps_after_one}
use Rattle.partition_writer.specs.Storing.{number_after}
use Rattle.store_drill.specs.Numbers.{IsEnd, Numbers, Piece, has_place, numbers_after, numbers_after_lines, numbers_after_one, spent_for}
use Rattle.store_drill.specs.Writers.{AreLimited}

-- one more line
pub numbers_after_lines-push : (limits : Limits) (lines : List Line) (line : Line) (m : ℕ → Entries) (n : ℕ → Numbers)
    → numbers_after_lines limits (lines ++ line ∷ []) m n ≡ numbers_after_one limits line (maps_after_lines lines m) (numbers_after_lines limits lines m n)
numbers_after_lines-push limits [] line m n = refl
numbers_after_lines-push limits (x ∷ xs) line m n = numbers_after_lines-push limits xs line (maps_after_one x m) (numbers_after_one limits x m n)

-- ---- where none is spent, the next ones are within their limits

unspent_where : (full room last : Bool) (n m : ℕ) → (if full then Some n else if room then None else if last then Some m else None) ≡ None → (full ≡ false) × ((room ≡ true) ⊎ (last ≡ false))
unspent_where true room last n m is = cc
unspent_where false true last n m is = (refl, inl refl)
unspent_where false false true n m is = cc
unspent_where false false false n m is = (refl, inr refl)

number_within : (room : Bool) (n : ℕ) → n ≤ CHUNK_NO_END → (room ≡ true) ⊎ (n < CHUNK_NO_END) → number_after room n ≤ CHUNK_NO_END
number_within true n limited h = limited
number_within false n limited (inl room) = cc
number_within false n limited (inr less) = omega (arith, less)

pub within_limits : (limits : Limits) (n : Numbers) (piece : Option Piece) → spent_for limits n piece ≡ None → AreLimited n → AreLimited (numbers_after limits n piece)
within_limits limits n None none limited = limited
within_limits limits n (Some piece) none limited =
    let where' = unspent_where (nat_le SEQ_END n.next) (has_place limits n piece) (nat_le CHUNK_NO_END n.next_chunk) n.next n.next_chunk none in
    let less : n.next < SEQ_END = leb-false SEQ_END n.next where'.0 in
    let room : (has_place limits n piece ≡ true) ⊎ (n.next_chunk < CHUNK_NO_END) = elim where'.1 [ inl room ↦ inl room | inr last ↦ inr (leb-false CHUNK_NO_END n.next_chunk last) ] in
    record {
      next = omega (arith, less);
      next_chunk = number_within (has_place limits n piece) n.next_chunk limited.next_chunk room;
    }

-- ---- one that is spent is at the end of its range

spent_where : (full room last : Bool) (next n m : ℕ) → (if full then Some n else if room then None else if last then Some m else None) ≡ Some next
    → ((next ≡ n) × (full ≡ true)) ⊎ ((next ≡ m) × (last ≡ true))
spent_where true room last next n m is = inl (same_Some next n (sym is), refl)
spent_where false true last next n m is = cc
spent_where false false true next n m is = inr (same_Some next m (sym is), refl)
spent_where false false false next n m is = cc

pub spent_end : (limits : Limits) (n : Numbers) (piece : Option Piece) (next : ℕ) → AreLimited n → spent_for limits n piece ≡ Some next → IsEnd next
spent_end limits n None next limited is = cc
spent_end limits n (Some piece) next limited is =
    elim (spent_where (nat_le SEQ_END n.next) (has_place limits n piece) (nat_le CHUNK_NO_END n.next_chunk) next n.next n.next_chunk is) [
      | inl number ↦ inl (omega (arith, number.0, leb-true SEQ_END n.next number.1, limited.next))
      | inr chunk ↦ inr (omega (arith, chunk.0, leb-true CHUNK_NO_END n.next_chunk chunk.1, limited.next_chunk))
    ]
