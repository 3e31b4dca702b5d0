-- What a crash leaves of a file with whole records and a torn rest.
use Rattle.std.specs.Prelude.{◌≡◌, ◌⊎◌, ℕ, ◌<◌, ◌≤◌, List, [], ◌∷◌, ◌++◌, length, take, All, true, refl}
use Rattle.std.proofs.Common.{sym, ◌∙◌, ap, subst, inl, inr, arith, append_assoc, length-append}
use Rattle.std.proofs.lemmas.Bool.{cases_lt}
use Rattle.std.proofs.lemmas.List.{append-nil, take_at}
use Rattle.hr_base.specs.declared.limits.TheConstants.{MAX_KEY_LEN, MAX_VALUE_LEN, SEQ_END}
use Rattle.hr_base.specs.declared.name.Class.{Class}
use Rattle.dir_files.specs.Files.{FileState}
use Rattle.dir_files.specs.Images.{KeepsFront}
use Rattle.record_format.specs.declared.record.Record.{Record}
use Rattle.record_format.specs.Spelling.{spelling, spellings}
use Rattle.record_format.specs.Headers.{header_seq, header_key, header_value}
use Rattle.record_format.specs.Splits.{IsOfClass, SpellsNone, IsTorn}
use Rattle.record_format.proofs.HeaderLaws.{header_seq-append, header_key-append, header_value-append}
use Rattle.crash_law.specs.Chunks.{LeavesFront}
use Rattle.crash_law.proofs.ChunkLaws.{leaves_front}
use Rattle.gc_law.specs.CollectorFacts.{HoldsSplit}

-- two cuts of one list
pub cut : (a b x y : List ℕ) → a ++ x ≡ b ++ y → length a ≤ length b → (z : List ℕ) × (b ≡ a ++ z) × (x ≡ z ++ y)
cut [] b x y e less = (b, refl, e)
cut (p ∷ a) [] x y e less = absurd (omega (arith, less))
cut (p ∷ a) (q ∷ b) x y e less =
    let head : p ≡ q = cc in
    let tail : a ++ x ≡ b ++ y = cc in
    let w = cut a b x y tail (omega (arith, less)) in
    (w.0, ap (λ (zs : List ℕ). q ∷ zs) w.1 ∙ ap (λ (n : ℕ). n ∷ (a ++ w.0)) (sym head), w.2)

-- a front of a torn rest is torn, and spells nothing
torn_front : (c : Class) (y more : List ℕ) → IsTorn c (y ++ more) → IsTorn c y
torn_front c y more torn damaged = torn (record {
  complete = omega (arith, damaged.complete, length-append y more);
  flaw =
      subst (λ (n : ℕ). flaw_at n (header_key c (y ++ more)) (header_value c (y ++ more))) (sym (header_seq-append c y more damaged.complete))
      (subst (λ (n : ℕ). flaw_at (header_seq c y) n (header_value c (y ++ more))) (sym (header_key-append c y more damaged.complete))
      (subst (λ (n : ℕ). flaw_at (header_seq c y) (header_key c y) n) (sym (header_value-append c y more damaged.complete)) damaged.flaw));
}) where
  flaw_at : ℕ → ℕ → ℕ → Type 0
  flaw_at s k v = (s ≡ 0) ⊎ (SEQ_END ≤ s) ⊎ (MAX_KEY_LEN < k) ⊎ (MAX_VALUE_LEN < v)

front_spells_none : (c : Class) (y more : List ℕ) → SpellsNone c (y ++ more) → SpellsNone c y
front_spells_none c y more none r after of e = none r (after ++ more) of (ap (λ (zs : List ℕ). zs ++ more) e ∙ append_assoc (spelling r) after more)

module _ (c : Class) (file : FileState) (safe since : List Record) (rest bytes : List ℕ) (holds : HoldsSplit c file safe since rest) (left : KeepsFront file bytes) where
  whole : bytes ++ left.rest ≡ spellings (safe ++ since) ++ rest
  whole = sym left.prefix ∙ holds.split.whole

  -- a front of the spellings
  short : length bytes ≤ length (spellings (safe ++ since)) → LeavesFront c safe since bytes
  short less =
      let w = cut bytes (spellings (safe ++ since)) left.rest rest whole less in
      leaves_front c (record { bytes = bytes; front = file.front; named = true }) safe since w.0 bytes holds.split.each
      (record { bytes = w.1; front = holds.front; named = inr refl })
      (record { rest = []; prefix = sym (append-nil bytes); front = left.front })

  -- or all of them, and a front of the rest
  long : length (spellings (safe ++ since)) ≤ length bytes → LeavesFront c safe since bytes
  long less =
      let w = cut (spellings (safe ++ since)) bytes rest left.rest (sym whole) less in
      record {
        count = length since;
        rest = w.0;
        within = omega arith;
        split = record {
          whole = w.1 ∙ ap (λ (rs : List Record). spellings (safe ++ rs) ++ w.0) (sym (all_taken since));
          each = subst (λ (rs : List Record). All (IsOfClass c) (safe ++ rs)) (sym (all_taken since)) holds.split.each;
          none = front_spells_none c w.0 left.rest (subst (SpellsNone c) w.2 holds.split.none);
        };
        torn = torn_front c w.0 left.rest (subst (IsTorn c) w.2 holds.torn);
      }
    where
      all_taken : (rs : List Record) → take (length rs) rs ≡ rs
      all_taken rs = ap (take (length rs)) (sym (append-nil rs)) ∙ take_at rs [] (length rs) refl

  pub split_leaves : LeavesFront c safe since bytes
  split_leaves = elim (cases_lt (length bytes) (length (spellings (safe ++ since)))) [ inl less ↦ short (omega (arith, less)) | inr more ↦ long more ]
