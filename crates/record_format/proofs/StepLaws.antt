-- What holds of a step, which `decode` answers.
use Rattle.std.proofs.Common.{◌≡◌, ℕ, ◌+◌, ◌<◌, ◌≤◌, ◌↔◌, ◌⊎◌, inl, inr, ⊎_elim, List, subst, Bor, ◌++◌, length, take, drop, All, refl, sym, ap, ◌∙◌, arith, length-append, length-drop, length-take, take-append-drop}
use Rattle.std.proofs.lemmas.List.{take_at, take-append-le}
use Rattle.hr_base.specs.declared.name.Class.{Class}
use Rattle.hr_base.specs.declared.name.Class.TheVariants.{Value as Values, Tomb as Tombs, Clear as Clears}
use Rattle.hr_base.specs.Records.{IsSeq, header_length, record_length}
use Rattle.record_format.specs.declared.record.Record.{Record}
use Rattle.record_format.specs.declared.reading.RecordView.{RecordView}
use Rattle.record_format.specs.declared.reading.RecordView.TheVariants.{Value as ValueView, Tomb as TombView, Clear as ClearView}
use Rattle.record_format.specs.declared.reading.Flaw.{Flaw}
use Rattle.record_format.specs.declared.reading.Flaw.TheVariants.{Number, KeyLength, ValueLength}
use Rattle.record_format.specs.declared.reading.Step.{Step}
use Rattle.record_format.specs.declared.reading.Step.TheVariants.{Whole, Torn, Damaged}
use Rattle.record_format.specs.Spelling.{spelling}
use Rattle.record_format.specs.declared.header.Header.{Header}
use Rattle.record_format.specs.Headers.{IsHeader, header_seq, header_prefix, header_key, header_value}
use Rattle.record_format.specs.Splits.{IsDamaged, IsOfClass, IsTorn, SpellsNone}
use Rattle.record_format.specs.Steps.{IsFirstFlaw, SaysDamaged, IsFlawed, IsStep, IsWhole, FitsLimits, SameStep, Shows, record_of, record_with}
use Rattle.record_format.proofs.Distinct.{no_spelling_begins_another}
use Rattle.record_format.proofs.HeaderLaws.{drop_behind, spelling_length, header_seq-append, header_key-append, header_value-append}
use Rattle.record_format.proofs.Fronts.{Announces, announced_of_class, announced_spelled, announces_or_step, early_unannounced, field_fits, flawed_unannounced, none_unannounced, record_at, spelled_announces}
use Rattle.record_format.proofs.SplitLaws.{spelling_fills}

-- ---- a whole record

pub whole_rest : (c : Class) (bytes : List ℕ) (view : RecordView) (n : ℕ) → IsWhole c bytes view n → bytes ≡ spelling (record_of view) ++ drop n bytes
whole_rest c bytes view n w = sym (take-append-drop n bytes) ∙ ap (λ (s : List ℕ). s ++ drop n bytes) w.spelled

pub whole_bound : (c : Class) (bytes : List ℕ) (view : RecordView) (n : ℕ) → IsWhole c bytes view n → (0 < n) × (n ≤ length bytes)
whole_bound c bytes view n w =
    let size = ap length w.spelled in
    (omega (arith, w.exact, spelling_fills (record_of view)), omega (arith, w.exact, size, length-take n bytes))

whole_announces : (c : Class) (bytes : List ℕ) (view : RecordView) (n : ℕ) → IsWhole c bytes view n → Announces c bytes
whole_announces c bytes view n w = spelled_announces c bytes (record_of view) (drop n bytes) w.of (whole_rest c bytes view n w)

-- a field that the bytes have is as long as it says
announced_length : (c : Class) (bytes : List ℕ) → Announces c bytes → record_length c (header_key c bytes) (header_value c bytes) ≡ length (spelling (record_at c bytes))
announced_length Values bytes a =
    let key = field_fits 24 (header_key Values bytes) bytes (omega (arith, a.room)) in
    let value = field_fits (24 + header_key Values bytes) (header_value Values bytes) bytes a.room in
    omega (arith, spelling_length (record_at Values bytes), key, value)
announced_length Tombs bytes a =
    let key = field_fits 20 (header_key Tombs bytes) bytes (omega (arith, a.room)) in
    omega (arith, spelling_length (record_at Tombs bytes), key)
announced_length Clears bytes a = refl

-- where some bytes may lie
abbrev lying : List ℕ → Bor (List ℕ)
lying bytes = record { ref_ptr = (0, 0); now = bytes }

-- a view of the record that a header announces
pub announced_whole : (c : Class) (bytes : List ℕ) (view : RecordView) (n : ℕ) → All (λ b. b < 256) bytes → Announces c bytes
    → record_of view ≡ record_at c bytes → n ≡ record_length c (header_key c bytes) (header_value c bytes) → IsWhole c bytes view n
announced_whole c bytes view n all a same count =
    let read = announced_spelled c bytes all a in
    let of = announced_of_class c bytes all a in
    let size : n ≡ length (spelling (record_at c bytes)) = count ∙ announced_length c bytes a in
    record {
      of = subst (IsOfClass c) (sym same) of;
      spelled = ap (λ (s : List ℕ). take n s) read ∙ take_at (spelling (record_at c bytes)) (drop (record_length c (header_key c bytes) (header_value c bytes)) bytes) n (sym size) ∙ ap spelling (sym same);
      exact = size ∙ ap (λ (r : Record). length (spelling r)) (sym same);
    }

-- a record that was read behind its header
pub read_whole : (c : Class) (bytes : List ℕ) (h : Header) (body : List ℕ) (view : RecordView) (n : ℕ) → All (λ b. b < 256) bytes → IsHeader c bytes h body
    → FitsLimits h.seq h.key_len h.value_len → h.key_len + h.value_len ≤ length body
    → record_of view ≡ record_with c h.seq h.prefix (take h.key_len body) (take h.value_len (drop h.key_len body))
    → n ≡ record_length c h.key_len h.value_len → IsWhole c bytes view n
read_whole c bytes h body view n all head limits room shown count =
    let announced : Announces c bytes = record {
      limits = record {
        numbered = subst IsSeq head.seq limits.numbered;
        key_fits = omega (arith, limits.key_fits, head.key_len);
        value_fits = omega (arith, limits.value_fits, head.value_len);
      };
      room = omega (arith, head.key_len, head.value_len, ap length head.behind, length-drop (header_length c) bytes, head.complete);
    } in
    let behind_key : drop h.key_len body ≡ drop (header_length c + h.key_len) bytes = drop_behind (header_length c) h.key_len bytes body (drop h.key_len body) head.behind refl in
    let same : record_of view ≡ record_at c bytes = cc in
    announced_whole c bytes view n all announced same (omega (arith, head.key_len, head.value_len))

-- ---- what follows from a step

flawed_is_damaged : (c : Class) (bytes : List ℕ) (flaw : Flaw) → IsFlawed c bytes flaw → IsDamaged c bytes
flawed_is_damaged c bytes (Number n) f = record { complete = f.complete; flaw = ⊎_elim (λ zero. inl (omega (arith, f.first.0, zero))) (λ high. inr (inl (omega (arith, f.first.0, high)))) f.first.1 }
flawed_is_damaged c bytes (KeyLength n) f = record { complete = f.complete; flaw = inr (inr (inl (omega (arith, f.first.1, f.first.2)))) }
flawed_is_damaged c bytes (ValueLength n) f = record { complete = f.complete; flaw = inr (inr (inr (omega (arith, f.first.2, f.first.3)))) }

damaged_unannounced : (c : Class) (bytes : List ℕ) → IsDamaged c bytes → Announces c bytes → ⊥
damaged_unannounced c bytes d a = omega (arith, d.flaw, a.limits.numbered.numbered, a.limits.numbered.number, a.limits.key_fits, a.limits.value_fits)

-- damaged bytes begin with no spelling
pub damaged_spells_none : (c : Class) (bytes : List ℕ) → IsDamaged c bytes → SpellsNone c bytes
damaged_spells_none c bytes d = none_unannounced c bytes (damaged_unannounced c bytes d)

early_is_torn : (c : Class) (bytes : List ℕ) → IsStep c bytes Torn → IsTorn c bytes
early_is_torn c bytes (inl few) d = omega (arith, few, d.complete)
early_is_torn c bytes (inr cut) d = omega (arith, d.flaw, cut.limits.numbered.numbered, cut.limits.numbered.number, cut.limits.key_fits, cut.limits.value_fits)

pub spelled_again : (c : Class) (bytes : List ℕ) (step : Step) → IsStep c bytes step → (r : Record) (more : List ℕ) → IsOfClass c r → bytes ≡ spelling r ++ more → Shows step r
spelled_again c bytes (Whole view n) w r more of e =
    let same = no_spelling_begins_another c (record_of view) r (drop n bytes) more w.of of (sym (whole_rest c bytes view n w) ∙ e) in
    (same.0, w.exact ∙ ap (λ (s : Record). length (spelling s)) same.0)
spelled_again c bytes Torn early r more of e = absurd (early_unannounced c bytes early (spelled_announces c bytes r more of e))
spelled_again c bytes (Damaged flaw) f r more of e = absurd (flawed_unannounced c bytes flaw f (spelled_announces c bytes r more of e))

pub torn_exactly : (c : Class) (bytes : List ℕ) (step : Step) → IsStep c bytes step → (step ≡ Torn) ↔ (SpellsNone c bytes × IsTorn c bytes)
torn_exactly c bytes (Whole view n) w = (λ e. cc, λ h. absurd (h.0 (record_of view) (drop n bytes) w.of (whole_rest c bytes view n w)))
torn_exactly c bytes Torn early = (λ e. (none_unannounced c bytes (early_unannounced c bytes early), early_is_torn c bytes early), λ h. refl)
torn_exactly c bytes (Damaged flaw) f = (λ e. cc, λ h. absurd (h.1 (flawed_is_damaged c bytes flaw f)))

pub damaged_exactly : (c : Class) (bytes : List ℕ) (step : Step) → IsStep c bytes step → SaysDamaged step ↔ IsDamaged c bytes
damaged_exactly c bytes (Whole view n) w = (λ e. absurd e, λ d. absurd (damaged_unannounced c bytes d (whole_announces c bytes view n w)))
damaged_exactly c bytes Torn early = (λ e. absurd e, λ d. absurd (early_is_torn c bytes early d))
damaged_exactly c bytes (Damaged flaw) f = (λ e. flawed_is_damaged c bytes flaw f, λ d. tt)

-- ---- one step, and some step

-- a header has one first flaw
one_flaw : (s k v : ℕ) (f g : Flaw) → IsFirstFlaw s k v f → IsFirstFlaw s k v g → f ≡ g
one_flaw s k v (Number m) (Number n) a b = ap Number (a.0 ∙ sym b.0)
one_flaw s k v (KeyLength m) (KeyLength n) a b = ap KeyLength (a.1 ∙ sym b.1)
one_flaw s k v (ValueLength m) (ValueLength n) a b = ap ValueLength (a.2 ∙ sym b.2)
one_flaw s k v (Number m) (KeyLength n) a b = absurd (omega (arith, a.0, a.1, b.0.numbered, b.0.number))
one_flaw s k v (Number m) (ValueLength n) a b = absurd (omega (arith, a.0, a.1, b.0.numbered, b.0.number))
one_flaw s k v (KeyLength m) (Number n) a b = absurd (omega (arith, b.0, b.1, a.0.numbered, a.0.number))
one_flaw s k v (KeyLength m) (ValueLength n) a b = absurd (omega (arith, a.1, a.2, b.1))
one_flaw s k v (ValueLength m) (Number n) a b = absurd (omega (arith, b.0, b.1, a.0.numbered, a.0.number))
one_flaw s k v (ValueLength m) (KeyLength n) a b = absurd (omega (arith, b.1, b.2, a.1))

pub one_step : (c : Class) (bytes : List ℕ) (a b : Step) → IsStep c bytes a → IsStep c bytes b → SameStep a b
one_step c bytes (Whole v m) (Whole w n) a b =
    let same = no_spelling_begins_another c (record_of v) (record_of w) (drop m bytes) (drop n bytes) a.of b.of (sym (whole_rest c bytes v m a) ∙ whole_rest c bytes w n b) in
    (same.0, a.exact ∙ ap (λ (s : Record). length (spelling s)) same.0 ∙ sym b.exact)
one_step c bytes Torn Torn a b = tt
one_step c bytes (Damaged f) (Damaged g) a b = one_flaw (header_seq c bytes) (header_key c bytes) (header_value c bytes) f g a.first b.first
one_step c bytes (Whole v m) Torn a b = absurd (early_unannounced c bytes b (whole_announces c bytes v m a))
one_step c bytes (Whole v m) (Damaged g) a b = absurd (flawed_unannounced c bytes g b (whole_announces c bytes v m a))
one_step c bytes Torn (Whole w n) a b = absurd (early_unannounced c bytes a (whole_announces c bytes w n b))
one_step c bytes Torn (Damaged g) a b = absurd (early_is_torn c bytes a (flawed_is_damaged c bytes g b))
one_step c bytes (Damaged f) (Whole w n) a b = absurd (flawed_unannounced c bytes f a (whole_announces c bytes w n b))
one_step c bytes (Damaged f) Torn a b = absurd (early_is_torn c bytes b (flawed_is_damaged c bytes f a))

-- a view of the record that a header announces, wherever it lies
view_at : (c : Class) (bytes : List ℕ) → (view : RecordView) × (record_of view ≡ record_at c bytes)
view_at Values bytes = (ValueView (record { 0 = header_seq Values bytes }) (header_prefix Values bytes) (lying (take (header_key Values bytes) (drop 24 bytes))) (lying (take (header_value Values bytes) (drop (24 + header_key Values bytes) bytes))), refl)
view_at Tombs bytes = (TombView (record { 0 = header_seq Tombs bytes }) (header_prefix Tombs bytes) (lying (take (header_key Tombs bytes) (drop 20 bytes))), refl)
view_at Clears bytes = (ClearView (header_prefix Clears bytes) (record { 0 = header_seq Clears bytes }), refl)

pub some_step : (c : Class) (bytes : List ℕ) → All (λ b. b < 256) bytes → (step : Step) × IsStep c bytes step
some_step c bytes all = ⊎_elim
    (λ a. let view = view_at c bytes in let n : ℕ = record_length c (header_key c bytes) (header_value c bytes) in
    (Whole view.0 n, announced_whole c bytes view.0 n all a view.1 refl))
    (⊎_elim (λ early. (Torn, early)) (λ flawed. (Damaged flawed.0, flawed.1)))
    (announces_or_step c bytes)

-- ---- more bytes behind

whole_stays : (c : Class) (bytes more : List ℕ) (view : RecordView) (n : ℕ) → IsWhole c bytes view n → IsWhole c (bytes ++ more) view n
whole_stays c bytes more view n w = record {
  of = w.of;
  spelled = take-append-le n bytes more (whole_bound c bytes view n w).1 ∙ w.spelled;
  exact = w.exact;
}

flaw_stays : (c : Class) (bytes more : List ℕ) (flaw : Flaw) → IsFlawed c bytes flaw → IsFlawed c (bytes ++ more) flaw
flaw_stays c bytes more flaw f =
    let s = header_seq-append c bytes more f.complete in
    let k = header_key-append c bytes more f.complete in
    let v = header_value-append c bytes more f.complete in
    record {
      complete = omega (arith, f.complete, length-append bytes more);
      first = rw (s, k, v) f.first;
    }

-- a whole record and a flaw are there whatever follows
pub step_stays : (c : Class) (bytes more : List ℕ) (step : Step) → IsStep c bytes step → (step ≡ Torn) ⊎ IsStep c (bytes ++ more) step
step_stays c bytes more (Whole view n) w = inr (whole_stays c bytes more view n w)
step_stays c bytes more Torn early = inl refl
step_stays c bytes more (Damaged flaw) f = inr (flaw_stays c bytes more flaw f)
