-- Maps that records restart to have keys and values as long as records have.
use Rattle.std.specs.Prelude.{◌≡◌, ◌≤◌, true, length, Some, None}
use Rattle.std.proofs.Common.{sym, ◌∙◌, subst, inl, inr}
use Rattle.std.specs.FinMap as map
use Rattle.hr_base.specs.declared.limits.TheConstants.{MAX_KEY_LEN, MAX_VALUE_LEN}
use Rattle.hr_base.specs.Entries.{Key, Content, Entries, KeepsLimits, key_at, content_of}
use Rattle.hr_base.proofs.EntryLaws.{is_key-true}
use Rattle.record_format.specs.declared.record.Record.{Record}
use Rattle.record_format.specs.declared.record.Record.TheVariants.{Value, Tomb, Clear}
use Rattle.record_format.specs.Spelling.{IsRecord}
use Rattle.crash_law.specs.Commands.{command_of, touches, state_of}
use Rattle.crash_law.specs.Restarts.{IsRestartOf}

some_none : (c : Content) → Some c ≡ None → ⊥
some_none c e = cc

some_same : (b c : Content) → Some b ≡ Some c → b ≡ c
some_same b c e = cc

-- lengths of a key and of its content
record InLimits (k : Key) (c : Content) : Type 0 where
  pub key : length k.bytes ≤ MAX_KEY_LEN
  pub value : length c.value ≤ MAX_VALUE_LEN

limits_by : (r : Record) (k : Key) (c : Content) → IsRecord r → touches (command_of r) k ≡ true → Some c ≡ state_of (command_of r) → InLimits k c
limits_by (Value seq prefix key value) k c valid touching is = record {
  key = subst (λ (x : Key). length x.bytes ≤ MAX_KEY_LEN) (sym (is_key-true k (key_at prefix key) touching)) valid.key;
  value = subst (λ (x : Content). length x.value ≤ MAX_VALUE_LEN) (sym (some_same c (content_of value) is)) valid.value;
}
limits_by (Tomb seq prefix key) k c valid touching is = absurd (some_none c is)
limits_by (Clear prefix seq) k c valid touching is = absurd (some_none c is)

module _ (facts : Record → Type 0) (valid : (r : Record) → facts r → IsRecord r) (m : Entries) (restart : IsRestartOf facts m) where
  in_limits : (k : Key) (c : Content) → map.get m k ≡ Some c → InLimits k c
  in_limits k c here = elim (restart k) [
    | inl w ↦ limits_by w.0 k c (valid w.0 w.1.fact) w.1.touching (sym here ∙ w.2)
    | inr w ↦ absurd (some_none c (sym here ∙ w.1))
  ]

  -- what records restart to keeps their limits
  pub KeepsLimits-restart : KeepsLimits m
  KeepsLimits-restart = record { keys = λ k c here. (in_limits k c here).key; values = λ k c here. (in_limits k c here).value }
