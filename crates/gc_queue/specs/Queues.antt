-- What a queue's ends have noted, told and heard. All of it is read off the ends.
use Rattle.std.specs.Prelude.{◌≡◌, ℕ, ◌+◌, ◌-◌, ◌≤◌, List, ◌++◌, length, take, drop, None}
use Rattle.std.specs.Option.{option_to_list}
use Rattle.std.specs.VecDeque.{deque_capacity, deque_len}
use Rattle.rtrb.specs.Ring.{IsPair, SameConsumer, SameProducer, known_free, known_items, producer_capacity, received, sent}
use Rattle.hr_base.specs.declared.name.Named.{Ghosts as NamedGhosts}
use Rattle.gc_event.specs.declared.event.Event.{Event}
use Rattle.gc_queue.specs.declared.ends.Teller.{Teller}
use Rattle.gc_queue.specs.declared.ends.Hearer.{Hearer}
use Rattle.gc_queue.specs.declared.ends.Joined.{Joined}

module _ {File : Type 0} {h : NamedGhosts File} where
  -- ---- the teller

  -- every event that went into the ring, in order
  abbrev pub told : Teller File h → List (Event File)
  told t = sent t.ring

  -- those that were noted and wait to be told, in order
  abbrev pub backlog : Teller File h → List (Event File)
  backlog t = t.backlog.events.items

  -- every event that was noted, in order
  abbrev pub noted : Teller File h → List (Event File)
  noted t = told t ++ backlog t

  -- how many events may be noted with the memory that is taken
  abbrev pub spare : Teller File h → ℕ
  spare t = deque_capacity t.backlog.events - deque_len t.backlog.events

  -- how many slots of the ring the teller knows to be free
  abbrev pub known_room : Teller File h → ℕ
  known_room t = known_free t.ring

  -- how many events the ring can hold
  abbrev pub ring_size : Teller File h → ℕ
  ring_size t = producer_capacity t.ring

  -- the same end of the same queue
  abbrev pub SameTeller : Teller File h → Teller File h → Type 0
  SameTeller old new = SameProducer old.ring new.ring

  -- the same end, and nothing went into the ring
  pub record TellsNothing (old new : Teller File h) : Type 0 where
    pub same : SameTeller old new
    pub told : told new ≡ told old
    pub room : known_room new ≡ known_room old

  -- so many events went from the front of the backlog into the ring; each took at most one slot that was known to be free
  pub record Tells (count : ℕ) (old new : Teller File h) : Type 0 where
    pub same : SameTeller old new
    pub within : count ≤ length (backlog old)
    pub told : told new ≡ told old ++ take count (backlog old)
    pub waiting : backlog new ≡ drop count (backlog old)
    pub room : known_room old ≤ known_room new + count
    pub spare : spare new ≡ spare old + count

  -- ---- the hearer

  -- every event that was heard, in order, without one that is put back
  abbrev pub heard : Hearer File h → List (Event File)
  heard a = take (length (received a.ring) - length (option_to_list a.back.event)) (received a.ring)

  -- those that the hearer knows to be next: one that is put back, and then what it has seen in the ring
  abbrev pub known : Hearer File h → List (Event File)
  known a = option_to_list a.back.event ++ known_items a.ring

  -- no event is put back
  abbrev pub IsFree : Hearer File h → Type 0
  IsFree a = a.back.event ≡ None

  -- the number from which on the collector may number its copies
  abbrev pub copies_from : Hearer File h → ℕ
  copies_from a = a.first_copy

  -- the same end of the same queue
  pub record SameHearer (old new : Hearer File h) : Type 0 where
    pub ring : SameConsumer old.ring new.ring
    pub copies : copies_from new ≡ copies_from old

  -- ---- both

  -- the two ends of one queue
  abbrev pub AreEnds : Teller File h → Hearer File h → Type 0
  AreEnds t a = IsPair t.ring a.ring

  -- what was noted and not heard, in order
  abbrev pub left : Joined File h → List (Event File)
  left j = known j.hearer ++ backlog j.teller
