-- A ledger as its contracts see it.
use Rattle.std.specs.Prelude.{◌≡◌, ℕ, Option, Some, None}
use Rattle.std.specs.Option.{option_map}
use Rattle.gc_event.specs.Books.{Book}
use Rattle.occ_ledger.specs.declared.ledger.Ledger.{Ledger}
use Rattle.occ_ledger.specs.Lists.{book_in}

-- what was told, and what is present
abbrev pub book : Ledger → Book
book l = book_in l.lists

-- what both were before the last event or copy that was entered, where nothing else changed since
abbrev pub before : Ledger → Option Book
before l = option_map book_in l.before

-- how many tombstones and prefix tombstones lapsed since that was last asked
abbrev pub lapsed_in : Ledger → ℕ
lapsed_in l = l.lapsed

-- the book is this one now, and nothing can be taken back
pub record Changes (new : Ledger) (b : Book) : Type 0 where
  pub is : book new ≡ b
  pub none : before new ≡ None

-- an event or a copy was entered, and can be taken back
pub record Enters (old new : Ledger) (b : Book) : Type 0 where
  pub is : book new ≡ b
  pub back : before new ≡ Some (book old)
  pub lapsed : lapsed_in new ≡ lapsed_in old

pub record SameLedger (old new : Ledger) : Type 0 where
  pub is : book new ≡ book old
  pub back : before new ≡ before old
  pub lapsed : lapsed_in new ≡ lapsed_in old
