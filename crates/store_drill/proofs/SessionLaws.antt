-- One more line of a session.
use Rattle.std.specs.Prelude.{◌≡◌, ◌⊎◌, ℕ, ◌+◌, ◌<◌, ◌≤◌, Bool, true, List, [], ◌∷◌, ◌++◌, length, take, Option, Some, None, slice_get, slice_index_or, refl, zero, suc}
use Rattle.std.proofs.Common.{sym, ◌∙◌, ap, subst, inl, inr, arith, append_assoc}
use Rattle.std.proofs.lemmas.List.{append-nil, length-set, take_more, take_all}
use Rattle.std.proofs.lemmas.Option.{same_Some, slice_get_within}
use Rattle.hr_base.specs.Counts.{Rose}
use Rattle.hr_base.specs.declared.limits.Limits.{Limits}
use Rattle.hr_base.specs.declared.name.Partition.{Partition}
use Rattle.hr_base.specs.Entries.{Entries}
use Rattle.hr_edges.specs.Edges.{TakesAll, TakesFront, TakesAtLeast}
use Rattle.hr_edges.proofs.Writings.{Takes-append, Takes-nothing, TakesAtLeast-append}
use Rattle.crash_law.specs.Accounts.{Account}
use Rattle.script_text.specs.declared.line.Line.{Line}
use Rattle.script_text.specs.Lines.{partition_of}
use Rattle.script_text.specs.Replies.{changed_at, replies, text_after, maps_after_line, maps_after_one, maps_after_lines}
use Rattle.partition_writer.specs.Standing.{Beginning, Standing, Stands}
use Rattle.restart_load.specs.Writers.{EachIs, HasLimits}
use Rattle.restart_load.specs.declared.ended.Ended.{Ended}
use Rattle.restart_load.specs.declared.ended.Ended.TheVariants.{Whole, Sink, Disk, Memory}
use Rattle.restart_load.specs.declared.ended.Ended.TheVariants as ends
use Rattle.store_drill.specs.declared.step.Step.{Step}
use Rattle.store_drill.specs.declared.step.Step.TheVariants.{Spent}
use Rattle.store_drill.specs.Accounts.{account_after_line, accounts_after_lines, account_after_refused, accounts_after_refused}
use Rattle.store_drill.specs.Numbers.{IsEnd, IsSpentAt, Numbers, SpendsAt, SessionStart, numbers_after, numbers_after_lines, numbers_after_one, numbers_at, spent_for, written_for}
use Rattle.store_drill.specs.Writers.{AreLimited, EachFits, HasMaps, HasNumber, HasNumbers, HaveStart, IsLimited, LostNothing, Runs, StandsAt, faults_of, numbers_of}
use Rattle.store_drill.specs.Playing.{CountsNumbers, GoesOn, PlaysAmong, Played, needed}
use Rattle.store_drill.proofs.NumberLaws.{numbers_after_lines-push, spent_end, within_limits}
use Rattle.store_drill.proofs.StepLaws.{none_unless}
use Rattle.store_drill.proofs.WriterListLaws.{each_changed, each_is_changed, each_kept, faults_at}

-- ---- one more line, as it is defined

replies-push : (lines : List Line) (line : Line) (m : ℕ → Entries) → replies (lines ++ line ∷ []) m ≡ replies lines m ++ text_after line (maps_after_lines lines m (partition_of line))
replies-push [] line m = append-nil (text_after line (m (partition_of line)))
replies-push (x ∷ xs) line m =
    ap (λ (t : List ℕ). text_after x (m (partition_of x)) ++ t) (replies-push xs line (maps_after_one x m))
    ∙ sym (append_assoc (text_after x (m (partition_of x))) (replies xs (maps_after_one x m)) (text_after line (maps_after_lines xs (maps_after_one x m) (partition_of line))))

maps_after_lines-push : (lines : List Line) (line : Line) (m : ℕ → Entries) → maps_after_lines (lines ++ line ∷ []) m ≡ maps_after_one line (maps_after_lines lines m)
maps_after_lines-push [] line m = refl
maps_after_lines-push (x ∷ xs) line m = maps_after_lines-push xs line (maps_after_one x m)

abbrev accounts_after_one : Line → (ℕ → Account) → ℕ → Account
accounts_after_one line accounts = changed_at accounts (partition_of line) (account_after_line line (accounts (partition_of line)))

accounts_after_lines-push : (lines : List Line) (line : Line) (a : ℕ → Account) → accounts_after_lines (lines ++ line ∷ []) a ≡ accounts_after_one line (accounts_after_lines lines a)
accounts_after_lines-push [] line a = refl
accounts_after_lines-push (x ∷ xs) line a = accounts_after_lines-push xs line (accounts_after_one x a)

same_next : (a b : ℕ) → ends.Spent a ≡ ends.Spent b → a ≡ b
same_next a b e = cc

-- ---- where a session stands

-- where the writers stand after the first lines
pub record Going (tells : Bool) (lines : List Line) (count : ℕ) (old new : List Standing) : Type 0 where
  pub same : length new ≡ length old
  pub maps : (m : ℕ → Entries) → EachFits HasMaps old m → EachFits HasMaps new (maps_after_lines (take count lines) m)
  pub numbers : EachFits HasNumber old (λ p. p) → EachFits HasNumber new (λ p. p)
  pub limits : (limits : Limits) → EachIs (HasLimits limits) old → EachIs (HasLimits limits) new
  pub counted : (limits : Limits) (start : SessionStart) → HaveStart limits old start → EachFits HasNumbers new (numbers_after_lines limits (take count lines) start.maps (numbers_at start))
  pub unspent : (limits : Limits) (start : SessionStart) → HaveStart limits old start → (i next : ℕ) → i < count → ¬ IsSpentAt limits lines i start next
  pub limited : EachIs IsLimited old → EachIs IsLimited new
  pub runs : EachIs Runs new
  pub account : tells ≡ true → (begins : ℕ → Beginning) (a : ℕ → Account) → EachFits (StandsAt begins) old a → EachFits (StandsAt begins) new (accounts_after_lines (take count lines) a)

-- and what was written
pub record SoFar (tells : Bool) (lines : List Line) (count : ℕ) (old new : List Standing) (before now : Option (List ℕ)) : Type 0 where
  pub going : Going tells lines count old new
  pub text : (m : ℕ → Entries) → EachFits HasMaps old m → TakesAll before now (replies (take count lines) m)

-- before the first line
pub SoFar-none : (tells : Bool) (lines : List Line) (writers : List Standing) (before : Option (List ℕ)) → EachIs Runs writers → SoFar tells lines 0 writers writers before before
SoFar-none tells lines writers before runs = record {
  going = record {
    same = refl;
    maps = λ m each. each;
    numbers = λ each. each;
    limits = λ limits each. each;
    counted = λ limits start have. have.numbers;
    unspent = λ limits start have i next below spent. omega (arith, below);
    limited = λ each. each;
    runs = runs;
    account = λ y begins a each. each;
  };
  text = λ m each. Takes-nothing before;
}

runs_on : (s t : Standing) → Runs s → GoesOn s t → Runs t
runs_on s t runs on = record { running = on.running ∙ runs.running; whole = on.whole ∙ runs.whole }

-- one line was played
module _ (tells : Bool) (step : Step) (line : Line) (old new : List Standing) (text : List ℕ) (plays : PlaysAmong tells step line old new text) where
  at : slice_get old (partition_of line) ≡ Some plays.before
  at = plays.was

  pub length_stays : length new ≡ length old
  length_stays = ap length plays.changed ∙ length-set old (partition_of line) plays.after

  pub numbers_stay : EachFits HasNumber old (λ q. q) → EachFits HasNumber new (λ q. q)
  numbers_stay each =
      subst (λ (writers : List Standing). EachFits HasNumber writers (λ q. q)) (sym plays.changed)
      (each_kept HasNumber old (λ q. q) (partition_of line) plays.after each
      (ap (λ (partition : Partition). partition.0) plays.plays.partition ∙ each (partition_of line) plays.before at))

  -- the account of its partition changed
  pub accounts_go : (begins : ℕ → Beginning) (a : ℕ → Account) (b : Account) → EachFits (StandsAt begins) old a
      → (Stands plays.before (begins (partition_of line)) (a (partition_of line)) → Stands plays.after (begins (partition_of line)) b)
      → EachFits (StandsAt begins) new (changed_at a (partition_of line) b)
  accounts_go begins a b each on =
      subst (λ (writers : List Standing). EachFits (StandsAt begins) writers (changed_at a (partition_of line) b)) (sym plays.changed)
      (each_changed (StandsAt begins) old a (partition_of line) plays.after b each (on (each (partition_of line) plays.before at)))

  -- or it stays
  pub accounts_stay : (begins : ℕ → Beginning) (a : ℕ → Account) → EachFits (StandsAt begins) old a
      → (Stands plays.before (begins (partition_of line)) (a (partition_of line)) → Stands plays.after (begins (partition_of line)) (a (partition_of line)))
      → EachFits (StandsAt begins) new a
  accounts_stay begins a each on =
      subst (λ (writers : List Standing). EachFits (StandsAt begins) writers a) (sym plays.changed)
      (each_kept (StandsAt begins) old a (partition_of line) plays.after each (on (each (partition_of line) plays.before at)))

  pub maps_go : (m : ℕ → Entries) → EachFits HasMaps old m → plays.after.maps ≡ maps_after_line line plays.before.maps → EachFits HasMaps new (maps_after_one line m)
  maps_go m each on =
      subst (λ (writers : List Standing). EachFits HasMaps writers (maps_after_one line m)) (sym plays.changed)
      (each_changed HasMaps old m (partition_of line) plays.after (maps_after_line line (m (partition_of line))) each
      (on ∙ ap (maps_after_line line) (each (partition_of line) plays.before at)))

  pub limits_go : (limits : Limits) → EachIs (HasLimits limits) old → CountsNumbers line plays.before plays.after → EachIs (HasLimits limits) new
  limits_go limits each on =
      subst (λ (writers : List Standing). EachIs (HasLimits limits) writers) (sym plays.changed)
      (each_is_changed (HasLimits limits) old (partition_of line) plays.after each (on.limits ∙ each (partition_of line) plays.before at))

  module _ (limits : Limits) (m : ℕ → Entries) (n : ℕ → Numbers) (have : EachIs (HasLimits limits) old) (maps : EachFits HasMaps old m) (numbers : EachFits HasNumbers old n) where
    -- what its writer counts with is what is said of it
    counted_with : {A : Type 0} (f : Limits → Numbers → Entries → A) → f plays.before.limits (numbers_of plays.before) plays.before.maps ≡ f limits (n (partition_of line)) (m (partition_of line))
    counted_with f =
        ap (λ (l : Limits). f l (numbers_of plays.before) plays.before.maps) (have (partition_of line) plays.before at)
        ∙ ap (λ (k : Numbers). f limits k plays.before.maps) (numbers (partition_of line) plays.before at)
        ∙ ap (λ (e : Entries). f limits (n (partition_of line)) e) (maps (partition_of line) plays.before at)

    pub needed_with : needed line plays.before ≡ spent_for limits (n (partition_of line)) (written_for line (m (partition_of line)))
    needed_with = counted_with (λ l k e. spent_for l k (written_for line e))

    pub counted_go : CountsNumbers line plays.before plays.after → EachFits HasNumbers new (numbers_after_one limits line m n)
    counted_go on =
        subst (λ (writers : List Standing). EachFits HasNumbers writers (numbers_after_one limits line m n)) (sym plays.changed)
        (each_changed HasNumbers old n (partition_of line) plays.after (numbers_after limits (n (partition_of line)) (written_for line (m (partition_of line)))) numbers
        (on.numbers ∙ counted_with (λ l k e. numbers_after l k (written_for line e))))

  pub limited_go : EachIs IsLimited old → needed line plays.before ≡ None → CountsNumbers line plays.before plays.after → EachIs IsLimited new
  limited_go each none on =
      subst (λ (writers : List Standing). EachIs IsLimited writers) (sym plays.changed)
      (each_is_changed IsLimited old (partition_of line) plays.after each
      (subst AreLimited (sym on.numbers)
      (within_limits plays.before.limits (numbers_of plays.before) (written_for line plays.before.maps) none (each (partition_of line) plays.before at))))

  pub all_run : EachIs Runs old → GoesOn plays.before plays.after → EachIs Runs new
  all_run each on =
      subst (λ (writers : List Standing). EachIs Runs writers) (sym plays.changed)
      (each_is_changed Runs old (partition_of line) plays.after each (runs_on plays.before plays.after (each (partition_of line) plays.before at) on))

  -- the disk refused it
  pub faults_rose : Rose plays.before.faults plays.after.faults → 1 ≤ faults_of new
  faults_rose rose =
      subst (λ (writers : List Standing). 1 ≤ faults_of writers) (sym plays.changed)
      (faults_at old (partition_of line) plays.after (slice_get_within old (partition_of line) plays.before at) (omega (arith, rose)))

whole_all : (writers : List Standing) → EachIs Runs writers → EachIs LostNothing writers
whole_all writers each q s is = (each q s is).whole

-- ---- the line at this place

slice_get_at : (lines : List Line) (i : ℕ) (line : Line) → i < length lines → line ≡ slice_index_or lines i line → slice_get lines i ≡ Some line
slice_get_at [] i line within is = absurd (let n : ⊥ = omega (arith, within) in n)
slice_get_at (x ∷ xs) zero line within is = ap Some (sym is)
slice_get_at (x ∷ xs) (suc i) line within is = slice_get_at xs i line (omega (arith, within)) is

module _ (lines : List Line) (i : ℕ) (line : Line) (within : i < length lines) (is : line ≡ slice_index_or lines i line) where
  one_more : take (i + 1) lines ≡ take i lines ++ line ∷ []
  one_more = take_more lines i line within ∙ ap (λ (x : Line). take i lines ++ x ∷ []) (sym is)

  text_more : (m : ℕ → Entries) → replies (take (i + 1) lines) m ≡ replies (take i lines) m ++ text_after line (maps_after_lines (take i lines) m (partition_of line))
  text_more m = ap (λ (ls : List Line). replies ls m) one_more ∙ replies-push (take i lines) line m

  maps_more : (m : ℕ → Entries) → maps_after_lines (take (i + 1) lines) m ≡ maps_after_one line (maps_after_lines (take i lines) m)
  maps_more m = ap (λ (ls : List Line). maps_after_lines ls m) one_more ∙ maps_after_lines-push (take i lines) line m

  numbers_more : (limits : Limits) (m : ℕ → Entries) (n : ℕ → Numbers)
      → numbers_after_lines limits (take (i + 1) lines) m n ≡ numbers_after_one limits line (maps_after_lines (take i lines) m) (numbers_after_lines limits (take i lines) m n)
  numbers_more limits m n = ap (λ (ls : List Line). numbers_after_lines limits ls m n) one_more ∙ numbers_after_lines-push limits (take i lines) line m n

  accounts_more : (a : ℕ → Account) → accounts_after_lines (take (i + 1) lines) a ≡ accounts_after_one line (accounts_after_lines (take i lines) a)
  accounts_more a = ap (λ (ls : List Line). accounts_after_lines ls a) one_more ∙ accounts_after_lines-push (take i lines) line a

  module _ (tells : Bool) (step : Step) (old mid new : List Standing) (before then' : Option (List ℕ)) (text : List ℕ)
      (so : SoFar tells lines i old mid before then') (plays : PlaysAmong tells step line mid new text) where
    module _ (limits : Limits) (start : SessionStart) (have : HaveStart limits old start) where
      needed_here : needed line plays.before ≡ spent_for limits (numbers_after_lines limits (take i lines) start.maps (numbers_at start) (partition_of line)) (written_for line (maps_after_lines (take i lines) start.maps (partition_of line)))
      needed_here =
          needed_with tells step line mid new text plays limits (maps_after_lines (take i lines) start.maps) (numbers_after_lines limits (take i lines) start.maps (numbers_at start))
          (so.going.limits limits have.limited) (so.going.maps start.maps have.maps) (so.going.counted limits start have)

      -- its writer needs a number that none can have exactly where it is said of the lines
      spent_at : (next : ℕ) → needed line plays.before ≡ Some next → IsSpentAt limits lines i start next
      spent_at next needs = record { line = line; there = slice_get_at lines i line within is; needs = sym needed_here ∙ needs }

      needs_at : (next : ℕ) → IsSpentAt limits lines i start next → needed line plays.before ≡ Some next
      needs_at next spent =
          let same : spent.line ≡ line = same_Some spent.line line (sym spent.there ∙ slice_get_at lines i line within is) in
          needed_here
          ∙ subst (λ (x : Line). spent_for limits (numbers_after_lines limits (take i lines) start.maps (numbers_at start) (partition_of x)) (written_for x (maps_after_lines (take i lines) start.maps (partition_of x))) ≡ Some next)
          same spent.needs

    -- it is answered, or refused for another cause
    module _ (other : (next : ℕ) → step ≡ Spent next → ⊥) where
      unneeded : needed line plays.before ≡ None
      unneeded = none_unless (needed line plays.before) (λ next is. other next (plays.plays.spent next is))

      not_spent : (limits : Limits) (start : SessionStart) → HaveStart limits old start → (next : ℕ) → ¬ IsSpentAt limits lines i start next
      not_spent limits start have next spent = other next (plays.plays.spent next (needs_at limits start have next spent))

      -- so want of a number did not end the session here
      spends_not : (ended : Ended) → ((next : ℕ) → ended ≡ ends.Spent next → ⊥) → (limits : Limits) (start : SessionStart) → HaveStart limits old start → SpendsAt limits lines i i start ended
      spends_not ended unlike limits start have = record {
        unspent = so.going.unspent limits start have;
        spent = λ next e. absurd (unlike next e);
        told = λ next spent. absurd (not_spent limits start have next spent);
      }

      unspent_more : (limits : Limits) (start : SessionStart) → HaveStart limits old start → (j next : ℕ) → j < i + 1 → ¬ IsSpentAt limits lines j start next
      unspent_more limits start have j next below spent = elim (let split : (j < i) ⊎ (j ≡ i) = grind arith in split) [
        | inl less ↦ so.going.unspent limits start have j next less spent
        | inr here ↦ not_spent limits start have next (subst (λ (k : ℕ). IsSpentAt limits lines k start next) here spent)
      ]

    -- it was answered
    accounts_answered : (tells ≡ true → (b : Beginning) (a : Account) → Stands plays.before b a → Stands plays.after b (account_after_line line a))
        → tells ≡ true → (begins : ℕ → Beginning) (a : ℕ → Account) → EachFits (StandsAt begins) old a → EachFits (StandsAt begins) new (accounts_after_lines (take (i + 1) lines) a)
    accounts_answered on y begins a each =
        subst (λ (accounts : ℕ → Account). EachFits (StandsAt begins) new accounts) (sym (accounts_more a))
        (accounts_go tells step line mid new text plays begins (accounts_after_lines (take i lines) a) (account_after_line line (accounts_after_lines (take i lines) a (partition_of line)))
        (so.going.account y begins a each) (on y (begins (partition_of line)) (accounts_after_lines (take i lines) a (partition_of line))))

    pub going_more : ((next : ℕ) → step ≡ Spent next → ⊥) → plays.after.maps ≡ maps_after_line line plays.before.maps → GoesOn plays.before plays.after → CountsNumbers line plays.before plays.after
        → (tells ≡ true → (b : Beginning) (a : Account) → Stands plays.before b a → Stands plays.after b (account_after_line line a))
        → Going tells lines (i + 1) old new
    going_more other maps goes counts account = record {
      same = length_stays tells step line mid new text plays ∙ so.going.same;
      maps = λ m each.
          subst (λ (all : ℕ → Entries). EachFits HasMaps new all) (sym (maps_more m))
          (maps_go tells step line mid new text plays (maps_after_lines (take i lines) m) (so.going.maps m each) maps);
      numbers = λ each. numbers_stay tells step line mid new text plays (so.going.numbers each);
      limits = λ limits each. limits_go tells step line mid new text plays limits (so.going.limits limits each) counts;
      counted = λ limits start have.
          subst (λ (all : ℕ → Numbers). EachFits HasNumbers new all) (sym (numbers_more limits start.maps (numbers_at start)))
          (counted_go tells step line mid new text plays limits (maps_after_lines (take i lines) start.maps) (numbers_after_lines limits (take i lines) start.maps (numbers_at start))
          (so.going.limits limits have.limited) (so.going.maps start.maps have.maps) (so.going.counted limits start have) counts);
      unspent = unspent_more other;
      limited = λ each. limited_go tells step line mid new text plays (so.going.limited each) (unneeded other) counts;
      runs = all_run tells step line mid new text plays so.going.runs goes;
      account = accounts_answered account;
    }

    reply_is : (m : ℕ → Entries) → EachFits HasMaps old m → text ≡ text_after line plays.before.maps
        → replies (take i lines) m ++ text ≡ replies (take (i + 1) lines) m
    reply_is m each told =
        ap (λ (t : List ℕ). replies (take i lines) m ++ t) (told ∙ ap (text_after line) (so.going.maps m each (partition_of line) plays.before plays.was))
        ∙ sym (text_more m)

    -- and its reply written
    pub SoFar-more : (now : Option (List ℕ)) → ((next : ℕ) → step ≡ Spent next → ⊥) → text ≡ text_after line plays.before.maps → plays.after.maps ≡ maps_after_line line plays.before.maps → GoesOn plays.before plays.after
        → CountsNumbers line plays.before plays.after → (tells ≡ true → (b : Beginning) (a : Account) → Stands plays.before b a → Stands plays.after b (account_after_line line a))
        → TakesAll then' now text → SoFar tells lines (i + 1) old new before now
    SoFar-more now other told maps goes counts account took = record {
      going = going_more other maps goes counts account;
      text = λ m each. subst (λ (t : List ℕ). TakesAll before now t) (reply_is m each told) (Takes-append before then' now (replies (take i lines) m) text (so.text m each) took);
    }

    -- the sink failed at its reply
    pub played_untaken : (now : Option (List ℕ)) → ((next : ℕ) → step ≡ Spent next → ⊥) → text ≡ text_after line plays.before.maps → plays.after.maps ≡ maps_after_line line plays.before.maps → GoesOn plays.before plays.after
        → CountsNumbers line plays.before plays.after → (tells ≡ true → (b : Beginning) (a : Account) → Stands plays.before b a → Stands plays.after b (account_after_line line a))
        → TakesFront then' now text → Played tells lines old new before now Sink
    played_untaken now other told maps goes counts account took =
        let going : Going tells lines (i + 1) old new = going_more other maps goes counts account in
        record {
          count = i + 1;
          within = omega (arith, within);
          all = λ e. cc;
          replied = i;
          text = λ m each. (
            refl,
            subst (λ (t : List ℕ). TakesAtLeast (length (replies (take i lines) m)) before now t) (reply_is m each told)
                (TakesAtLeast-append before then' now (replies (take i lines) m) text (so.text m each) took),
          );
          numbers = going.numbers;
          spends = λ limits start have. record { unspent = going.unspent limits start have; spent = λ next e. cc; told = λ next spent. inr (inl refl, refl) };
          number = λ limited next e. cc;
          whole = λ other. whole_all new going.runs;
          account = going.account;
        }

    -- there was no memory for its reply
    pub played_no_reply : ((next : ℕ) → step ≡ Spent next → ⊥) → plays.after.maps ≡ maps_after_line line plays.before.maps → GoesOn plays.before plays.after → CountsNumbers line plays.before plays.after
        → (tells ≡ true → (b : Beginning) (a : Account) → Stands plays.before b a → Stands plays.after b (account_after_line line a))
        → Played tells lines old new before then' Memory
    played_no_reply other maps goes counts account =
        let going : Going tells lines (i + 1) old new = going_more other maps goes counts account in
        record {
          count = i + 1;
          within = omega (arith, within);
          all = λ e. cc;
          replied = i;
          text = λ m each. (omega arith, omega arith, so.text m each);
          numbers = going.numbers;
          spends = λ limits start have. record { unspent = going.unspent limits start have; spent = λ next e. cc; told = λ next spent. inr (inr refl, refl) };
          number = λ limited next e. cc;
          whole = λ other. whole_all new going.runs;
          account = going.account;
        }

    -- there was no memory for it
    pub played_unanswered : ((next : ℕ) → step ≡ Spent next → ⊥) → GoesOn plays.before plays.after → (tells ≡ true → (b : Beginning) (a : Account) → Stands plays.before b a → Stands plays.after b a)
        → Played tells lines old new before then' Memory
    played_unanswered other goes account = record {
      count = i;
      within = omega (arith, within);
      all = λ e. cc;
      replied = i;
      text = λ m each. (omega arith, omega arith, so.text m each);
      numbers = λ each. numbers_stay tells step line mid new text plays (so.going.numbers each);
      spends = spends_not other Memory (λ next e. cc);
      number = λ limited next e. cc;
      whole = λ running. whole_all new (all_run tells step line mid new text plays so.going.runs goes);
      account = λ y begins a each.
          accounts_stay tells step line mid new text plays begins (accounts_after_lines (take i lines) a) (so.going.account y begins a each)
          (account y (begins (partition_of line)) (accounts_after_lines (take i lines) a (partition_of line)));
    }

    -- the disk refused it
    pub played_refused : ((next : ℕ) → step ≡ Spent next → ⊥) → (tells ≡ true → (b : Beginning) (a : Account) → Stands plays.before b a → Stands plays.after b (account_after_refused line a))
        → Played tells lines old new before then' Disk
    played_refused other account = record {
      count = i;
      within = omega (arith, within);
      all = λ e. cc;
      replied = i;
      text = λ m each. (refl, so.text m each);
      numbers = λ each. numbers_stay tells step line mid new text plays (so.going.numbers each);
      spends = spends_not other Disk (λ next e. cc);
      number = λ limited next e. cc;
      whole = λ failed. absurd (failed refl);
      account = λ y begins a each.
          subst (λ (o : Option Line). EachFits (StandsAt begins) new (accounts_after_refused o (accounts_after_lines (take i lines) a))) (sym (slice_get_at lines i line within is))
          (accounts_go tells step line mid new text plays begins (accounts_after_lines (take i lines) a) (account_after_refused line (accounts_after_lines (take i lines) a (partition_of line)))
          (so.going.account y begins a each) (account y (begins (partition_of line)) (accounts_after_lines (take i lines) a (partition_of line))));
    }

    -- it would need a number that none can have
    pub played_spent : (next : ℕ) → needed line plays.before ≡ Some next → plays.after ≡ plays.before → (tells ≡ true → (b : Beginning) (a : Account) → Stands plays.before b a → Stands plays.after b a)
        → Played tells lines old new before then' (ends.Spent next)
    played_spent next needs same account = record {
      count = i;
      within = omega (arith, within);
      all = λ e. cc;
      replied = i;
      text = λ m each. (refl, so.text m each);
      numbers = λ each. numbers_stay tells step line mid new text plays (so.going.numbers each);
      spends = λ limits start have. record {
        unspent = so.going.unspent limits start have;
        spent = λ other e. subst (IsSpentAt limits lines i start) (same_next next other e) (spent_at limits start have next needs);
        told = λ other spent. inl (ap ends.Spent (same_Some next other (sym needs ∙ needs_at limits start have other spent)));
      };
      number = λ limited other e.
          subst IsEnd (same_next next other e)
          (spent_end plays.before.limits (numbers_of plays.before) (written_for line plays.before.maps) next (so.going.limited limited (partition_of line) plays.before plays.was) needs);
      whole = λ other.
          whole_all new (all_run tells step line mid new text plays so.going.runs
          (record { running = ap (λ (s : Standing). s.halted) same; whole = ap (λ (s : Standing). s.lost) same }));
      account = λ y begins a each.
          accounts_stay tells step line mid new text plays begins (accounts_after_lines (take i lines) a) (so.going.account y begins a each)
          (account y (begins (partition_of line)) (accounts_after_lines (take i lines) a (partition_of line)));
    }

-- ---- how a session ends

-- all lines were answered
pub played_whole : (tells : Bool) (lines : List Line) (i : ℕ) (old new : List Standing) (before now : Option (List ℕ)) → SoFar tells lines i old new before now → length lines ≤ i
    → Played tells lines old new before now Whole
played_whole tells lines i old new before now so end =
    let all : take i lines ≡ lines = take_all i lines end in
    let same : take (length lines) lines ≡ lines = take_all (length lines) lines (omega arith) in
    record {
      count = length lines;
      within = omega arith;
      all = λ _. refl;
      replied = length lines;
      text = λ m each. subst (λ (ls : List Line). TakesAll before now (replies ls m)) all (so.text m each);
      numbers = so.going.numbers;
      spends = λ limits start have. record {
        unspent = λ j next below. so.going.unspent limits start have j next (omega (arith, below, end));
        spent = λ next e. cc;
        told = λ next spent. let n : ⊥ = omega (arith, slice_get_within lines (length lines) spent.line spent.there) in absurd n;
      };
      number = λ limited next e. cc;
      whole = λ other. whole_all new so.going.runs;
      account = λ y begins a each.
          subst (λ (ls : List Line). EachFits (StandsAt begins) new (accounts_after_lines ls a)) (all ∙ sym same) (so.going.account y begins a each);
    }
