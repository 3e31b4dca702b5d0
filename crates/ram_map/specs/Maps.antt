-- What contracts see of the maps in memory.
use Rattle.std.specs.Prelude.{ℕ, ◌==◌, Option, None, Some, refl, if◌then◌else◌}
use Rattle.std.specs.FinMap as map
use Rattle.std.specs.Coded.{Coded, code_by, coded×, coded_ℕ, coded_option}
use Rattle.hr_base.specs.Entries.{Entries, coded_key, coded_content}

-- the entries, and for which prefix room was made for one new key
pub record Maps : Type 0 where
  pub entries : Entries
  pub ready : Option ℕ

abbrev pub coded_maps : Coded Maps
coded_maps = code_by (Entries × Option ℕ) (coded× (map.code coded_key coded_content) (coded_option coded_ℕ)) (λ m. (m.entries, m.ready)) (λ p. record { entries = p.0; ready = p.1 }) (λ _. refl)

-- for which prefix there is room once the map of this one is gone
abbrev pub ready_without : ℕ → Option ℕ → Option ℕ
ready_without prefix None = None
ready_without prefix (Some ready) = if prefix == ready then None else Some ready
