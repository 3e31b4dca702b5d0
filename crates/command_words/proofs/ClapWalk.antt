-- What `clap` makes of the words of options.
use Rattle.std.proofs.Common.{◌≡◌, ◌≢◌, ◌==◌, ◌<◌, ◌^◌, ℕ, zero, suc, All, Contains, length, get_or, fold, subst, arith, decimal, Bool, true, false, List, [], ◌∷◌, ◌++◌, ◌||◌, ◌∙◌, Option, Some, None, refl, sym, ap, append-nil, append_assoc, ◌&&◌, is_some, if◌then◌else◌}
use Rattle.clap.specs.Walk.{Row, Rule, Text, Names, Walk, walk, walk_from, nothing_held, settled, finished, with_default, is_empty, Held, Waiting, idle, option, walked, settled_rows, has_row, at_row, without, with_values, more_values}
use Rattle.clap.specs.Kinds.{Kinds, or_else}
use Rattle.clap.specs.Values.{reading_of}
use Rattle.clap.specs.declared.builder.value_parser.ValueParser.TheVariants as vp
use Rattle.clap.specs.declared.parser.matches.ValueSource.TheVariants.{CommandLine}
use Rattle.std.specs.Str.{bytes_eq}
use Rattle.clap.specs.Simple.{App, Shape, names_of, entered, built}
use Rattle.clap.specs.Faults.{turn_fault, settle_fault, walk_fault, defaults_fault, default_fault, given_default_fault, check_fault, level_fault, entered_fault, fault_of, is_simple_and_free}
use Rattle.clap.proofs.OnLiterals.{clap_on_literals}
use Rattle.command_words.specs.declared.table.Setting.{Setting}
use Rattle.command_words.specs.declared.table.Setting.TheVariants.{Partitions, ValueLimit, TombLimit, Percent}
use Rattle.command_words.specs.declared.read.Command.{Command}
use Rattle.command_words.specs.declared.table.Verb.{Verb}
use Rattle.command_words.specs.declared.table.Verb.TheVariants.{Play, Dump}
use Rattle.command_words.specs.Table.{verb_name, settings_of, option_name, option_word}
use Rattle.command_words.specs.Program.{bare_app, program_app}
use Rattle.command_words.specs.Words.{Given, IsCommand, words_of}
use Rattle.command_words.proofs.Words.{Differs, Apart, IsInRange, IsTaken, number_fits, one_option, AllPairs-head, AllPairs-tail}
use Rattle.std.specs.List.{AllPairs, flat_map, list_all}
use Rattle.std.proofs.lemmas.Bool.Decides.{nat_tests}
use Rattle.std.proofs.lemmas.Fmt.{decimal_is_IsNumeral}
use Rattle.std.proofs.lemmas.Slice.Eq.{bytes_eq-Decides}
use Rattle.std.proofs.lemmas.Str.Parse.{digit_at}
use Rattle.std.proofs.lemmas.List.Elements.{All-nil, All-cons, All-head, All-tail}

abbrev program : App
program = program_app

abbrev id_of : Setting → Text
id_of = option_name

pub is_free : is_simple_and_free program ≡ true
unfolding clap_on_literals
is_free = refl

-- the command as it is built
abbrev sub : Verb → Shape
sub Play = get_or (built program).subs 0 bare_app.top
sub Dump = get_or (built program).subs 1 bare_app.top

abbrev rules_of : Verb → List Rule
rules_of verb = (sub verb).rules

-- the one option of a dump
dump_option : (s : Setting) → Contains (settings_of Dump) s → s ≡ Partitions
dump_option s (zero, below, e) = sym e
dump_option s (suc k, below, e) = absurd (omega (arith, below))

abbrev at : List Row → Option (Text × List Text) → Waiting → Walk
at rows pending waiting = record {
  held = record { rows = rows; pending = pending; skip = 0 };
  waiting = waiting;
  position = 1;
  is_trailing = false;
  stopped = None;
}

or_else-none : (ks : Kinds) → or_else ks [] ≡ ks
or_else-none [] = refl
or_else-none (k ∷ ks) = refl

name_step : (verb : Verb) (s : Setting) (rows : List Row) (pending : Option (Text × List Text)) → Contains (settings_of verb) s
    → walked (rules_of verb) [] (at rows pending idle) (option_word s) ≡ at (settled_rows (rules_of verb) pending rows) (Some (id_of s, [])) (option (id_of s))
unfolding clap_on_literals
name_step Play Partitions rows pending taken = refl
name_step Play ValueLimit rows pending taken = refl
name_step Play TombLimit rows pending taken = refl
name_step Play Percent rows pending taken = refl
name_step Dump s rows pending taken = rw (dump_option s taken) refl

name_fault : (verb : Verb) (s : Setting) (rows : List Row) (pending : Option (Text × List Text)) → Contains (settings_of verb) s
    → turn_fault (sub verb) [] (at rows pending idle) (option_word s) ≡ settle_fault (rules_of verb) false (record { rows = rows; pending = pending; skip = 0 })
unfolding clap_on_literals
name_fault Play Partitions rows pending taken = or_else-none (settle_fault (rules_of Play) false (record { rows = rows; pending = pending; skip = 0 }))
name_fault Play ValueLimit rows pending taken = or_else-none (settle_fault (rules_of Play) false (record { rows = rows; pending = pending; skip = 0 }))
name_fault Play TombLimit rows pending taken = or_else-none (settle_fault (rules_of Play) false (record { rows = rows; pending = pending; skip = 0 }))
name_fault Play Percent rows pending taken = or_else-none (settle_fault (rules_of Play) false (record { rows = rows; pending = pending; skip = 0 }))
name_fault Dump s rows pending taken = rw (dump_option s taken) (or_else-none (settle_fault (rules_of Dump) false (record { rows = rows; pending = pending; skip = 0 })))

value_step : (verb : Verb) (s : Setting) (rows : List Row) (x : ℕ) (xs : List ℕ) → Contains (settings_of verb) s → (x == 45) ≡ false
    → walked (rules_of verb) [] (at rows (Some (id_of s, [])) (option (id_of s))) (x ∷ xs) ≡ at rows (Some (id_of s, (x ∷ xs) ∷ [])) idle
unfolding clap_on_literals
value_step Play Partitions rows x xs taken e = simp e
value_step Play ValueLimit rows x xs taken e = simp e
value_step Play TombLimit rows x xs taken e = simp e
value_step Play Percent rows x xs taken e = simp e
value_step Dump s rows x xs taken e = rw (dump_option s taken) (simp e)

value_fault : (verb : Verb) (s : Setting) (rows : List Row) (x : ℕ) (xs : List ℕ) → Contains (settings_of verb) s → (x == 45) ≡ false
    → turn_fault (sub verb) [] (at rows (Some (id_of s, [])) (option (id_of s))) (x ∷ xs) ≡ []
unfolding clap_on_literals
value_fault Play Partitions rows x xs taken e = simp e
value_fault Play ValueLimit rows x xs taken e = simp e
value_fault Play TombLimit rows x xs taken e = simp e
value_fault Play Percent rows x xs taken e = simp e
value_fault Dump s rows x xs taken e = rw (dump_option s taken) (simp e)

-- ---- rows

or_false : (a b : Bool) → (a || b) ≡ false → (a ≡ false) × (b ≡ false)
or_false true b e = cc
or_false false b e = (refl, e)

at_row-missing : (id : Text) (change : Row → List Row) (missing rows : List Row) → has_row id rows ≡ false → at_row id change missing rows ≡ rows ++ missing
at_row-missing id change missing [] e = refl
at_row-missing id change missing (r ∷ rs) e =
    let parts = or_false (bytes_eq r.id id) (has_row id rs) e in
    let other : bytes_eq r.id id ≡ false = parts.0 in
    rw other (ap (λ (xs : List Row). r ∷ xs) (at_row-missing id change missing rs parts.1))

has_row-push : (id : Text) (rows : List Row) (r : Row) → has_row id rows ≡ false → bytes_eq r.id id ≡ false → has_row id (rows ++ r ∷ []) ≡ false
has_row-push id [] r e f = rw f refl
has_row-push id (x ∷ xs) r e f =
    let parts = or_false (bytes_eq x.id id) (has_row id xs) e in
    let other : bytes_eq x.id id ≡ false = parts.0 in
    rw other (has_row-push id xs r parts.1 f)

abbrev settled_by : Verb → Setting → Text → List Row → List Row
settled_by verb s value rows = settled_rows (rules_of verb) (Some (id_of s, value ∷ [])) rows

-- the row of an option with its value
abbrev row_of_value : Setting → Text → Row
row_of_value s value = record {
  id = id_of s;
  values = value ∷ [];
  count = None;
  source = Some CommandLine;
  reading = reading_of vp.String;
}

settled_by-is : (verb : Verb) (s : Setting) (value : Text) (rows : List Row) → Contains (settings_of verb) s
    → settled_by verb s value rows ≡ with_values (id_of s) (reading_of vp.String) CommandLine (value ∷ []) (without (id_of s) rows)
unfolding clap_on_literals
settled_by-is Play Partitions value rows taken = refl
settled_by-is Play ValueLimit value rows taken = refl
settled_by-is Play TombLimit value rows taken = refl
settled_by-is Play Percent value rows taken = refl
settled_by-is Dump s value rows taken = rw (dump_option s taken) refl

settled_by-fresh : (verb : Verb) (s : Setting) (value : Text) (rows : List Row) → Contains (settings_of verb) s → has_row (id_of s) rows ≡ false
    → settled_by verb s value rows ≡ rows ++ row_of_value s value ∷ []
settled_by-fresh verb s value rows taken e =
    let same : without (id_of s) rows ≡ rows ++ [] = at_row-missing (id_of s) (λ _. []) [] rows e in
    let same' : without (id_of s) rows ≡ rows = same ∙ append-nil rows in
    settled_by-is verb s value rows taken ∙ rw same' (at_row-missing (id_of s) (more_values CommandLine (value ∷ [])) (row_of_value s value ∷ []) rows e)

settle_fresh : (verb : Verb) (s : Setting) (value : Text) (rows : List Row) → Contains (settings_of verb) s → has_row (id_of s) rows ≡ false
    → settle_fault (rules_of verb) false (record { rows = rows; pending = Some (id_of s, value ∷ []); skip = 0 }) ≡ []
unfolding clap_on_literals
settle_fresh Play Partitions value rows taken e = rw e refl
settle_fresh Play ValueLimit value rows taken e = rw e refl
settle_fresh Play TombLimit value rows taken e = rw e refl
settle_fresh Play Percent value rows taken e = rw e refl
settle_fresh Dump s value rows taken e =
    let P : Setting → Type 0 = λ x. has_row (id_of x) rows ≡ false in
    let free : has_row (id_of Partitions) rows ≡ false = subst P (dump_option s taken) e in
    rw (dump_option s taken) (rw free refl)

-- ---- options

-- a word that begins with no hyphen
record IsValue (word : Text) : Type 0 where
  first : ℕ
  rest : Text
  is : word ≡ first ∷ rest
  plain : (first == 45) ≡ false

value_from : (word : Text) → 0 < length word → get_or word 0 0 ≢ 45 → IsValue word
value_from [] some other = absurd (omega (arith, some))
value_from (x ∷ xs) some other = record { first = x; rest = xs; is = refl; plain = grind (arith, nat_tests, other) }

number_value : (n : ℕ) → n < 2 ^ 64 → IsValue (decimal n)
number_value n fits =
    let numeral = decimal_is_IsNumeral n fits in
    let digit = digit_at (decimal n) 0 numeral.0.1 numeral.0.0 in
    value_from (decimal n) numeral.0.0 (λ e. omega (arith, digit, e))

abbrev held : List Row → Option (Text × List Text) → Held
held rows pending = record { rows = rows; pending = pending; skip = 0 }

abbrev settle : Verb → List Row → Option (Text × List Text) → Kinds
settle verb rows pending = settle_fault (rules_of verb) false (held rows pending)

abbrev Unused : List Row → Given → Type 0
Unused rows g = has_row (id_of g.setting) rows ≡ false

ids_differ : (a b : Setting) → a ≢ b → bytes_eq (id_of a) (id_of b) ≡ false
ids_differ a b other = elim (bytes_eq (id_of a) (id_of b)) as (λ v. (v ≡ true → a ≡ b) → v ≡ false) [
  | true ↦ λ h. absurd (other (h refl))
  | false ↦ λ h. refl
] (λ yes. one_option a b (words_from a b ((bytes_eq-Decides (id_of a) (id_of b)).0 yes)))
  where
    word_is : (s : Setting) → option_word s ≡ 45 ∷ 45 ∷ id_of s
    word_is Partitions = refl
    word_is ValueLimit = refl
    word_is TombLimit = refl
    word_is Percent = refl

    words_from : (a b : Setting) → id_of a ≡ id_of b → option_word a ≡ option_word b
    words_from a b e = word_is a ∙ (ap (λ (xs : Text). 45 ∷ 45 ∷ xs) e ∙ sym (word_is b))

unused_after : (verb : Verb) (g : Given) (value : Text) (rows : List Row) (gs : List Given) → Contains (settings_of verb) g.setting → has_row (id_of g.setting) rows ≡ false
    → All (Differs g.setting) gs → All (Unused rows) gs → All (Unused (settled_by verb g.setting value rows)) gs
unused_after verb g value rows [] taken fresh differ unused = All-nil (Unused (settled_by verb g.setting value rows))
unused_after verb g value rows (x ∷ xs) taken fresh differ unused =
    let own : g.setting ≢ x.setting = All-head (Differs g.setting) x xs differ in
    let free : has_row (id_of x.setting) rows ≡ false = All-head (Unused rows) x xs unused in
    let pushed = has_row-push (id_of x.setting) rows (row_of_value g.setting value) free (ids_differ g.setting x.setting own) in
    let P : List Row → Type 0 = λ rs. has_row (id_of x.setting) rs ≡ false in
    All-cons (Unused (settled_by verb g.setting value rows)) x xs
    (subst P (sym (settled_by-fresh verb g.setting value rows taken fresh)) pushed)
    (unused_after verb g value rows xs taken fresh (All-tail (Differs g.setting) x xs differ) (All-tail (Unused rows) x xs unused))

two_faults : (verb : Verb) (w w1 w2 : Walk) (a b : Text) (rest : List Text) → turn_fault (sub verb) [] w a ≡ [] → walked (rules_of verb) [] w a ≡ w1
    → turn_fault (sub verb) [] w1 b ≡ [] → walked (rules_of verb) [] w1 b ≡ w2 → walk_fault (sub verb) [] w (a ∷ b ∷ rest) ≡ walk_fault (sub verb) [] w2 rest
unfolding walk_fault
two_faults verb w w1 w2 a b rest no_a step_a no_b step_b =
    let second : walk_fault (sub verb) [] w1 (b ∷ rest) ≡ walk_fault (sub verb) [] w2 rest =
    ap (λ (k : Kinds). or_else k (walk_fault (sub verb) [] (walked (rules_of verb) [] w1 b) rest)) no_b ∙ ap (λ (x : Walk). walk_fault (sub verb) [] x rest) step_b in
    ap (λ (k : Kinds). or_else k (walk_fault (sub verb) [] (walked (rules_of verb) [] w a) (b ∷ rest))) no_a ∙ (ap (λ (x : Walk). walk_fault (sub verb) [] x (b ∷ rest)) step_a ∙ second)

-- the faults of the words, and of what is pending at their end
record Passes (verb : Verb) (w : Walk) (words : List Text) : Type 0 where
  words_pass : walk_fault (sub verb) [] w words ≡ []
  end_passes : settle_fault (rules_of verb) false (fold (walked (rules_of verb) []) w words).held ≡ []

two_pass : (verb : Verb) (w w1 w2 : Walk) (a b : Text) (rest : List Text) → turn_fault (sub verb) [] w a ≡ [] → walked (rules_of verb) [] w a ≡ w1
    → turn_fault (sub verb) [] w1 b ≡ [] → walked (rules_of verb) [] w1 b ≡ w2 → Passes verb w2 rest → Passes verb w (a ∷ b ∷ rest)
two_pass verb w w1 w2 a b rest no_a step_a no_b step_b h =
    let same : walked (rules_of verb) [] (walked (rules_of verb) [] w a) b ≡ w2 = ap (λ (x : Walk). walked (rules_of verb) [] x b) step_a ∙ step_b in
    record {
      words_pass = two_faults verb w w1 w2 a b rest no_a step_a no_b step_b ∙ h.words_pass;
      end_passes = ap (λ (x : Walk). settle_fault (rules_of verb) false (fold (walked (rules_of verb) []) x rest).held) same ∙ h.end_passes;
    }

none_pass : (verb : Verb) (rows : List Row) (pending : Option (Text × List Text)) → settle verb rows pending ≡ [] → Passes verb (at rows pending idle) []
unfolding walk_fault
none_pass verb rows pending clean = record { words_pass = refl; end_passes = clean }

options_pass : (verb : Verb) (gs : List Given) (rows : List Row) (pending : Option (Text × List Text)) → All (IsTaken verb) gs → All IsInRange gs → AllPairs Apart gs
    → settle verb rows pending ≡ [] → All (Unused (settled_rows (rules_of verb) pending rows)) gs → Passes verb (at rows pending idle) (flat_map words_of gs)
options_pass verb [] rows pending taken ranges once clean unused = none_pass verb rows pending clean
options_pass verb (g ∷ gs) rows pending taken ranges once clean unused =
    let s = g.setting in
    let rows1 : List Row = settled_rows (rules_of verb) pending rows in
    let v : Text = decimal g.number in
    let own : Contains (settings_of verb) s = All-head (IsTaken verb) g gs taken in
    let fresh : has_row (id_of s) rows1 ≡ false = All-head (Unused rows1) g gs unused in
    let value : IsValue v = number_value g.number (number_fits s g.number (All-head IsInRange g gs ranges)) in
    let F : Text → Type 0 = λ t. turn_fault (sub verb) [] (at rows1 (Some (id_of s, [])) (option (id_of s))) t ≡ [] in
    let S : Text → Type 0 = λ t. walked (rules_of verb) [] (at rows1 (Some (id_of s, [])) (option (id_of s))) t ≡ at rows1 (Some (id_of s, t ∷ [])) idle in
    two_pass verb (at rows pending idle) (at rows1 (Some (id_of s, [])) (option (id_of s))) (at rows1 (Some (id_of s, v ∷ [])) idle)
    (option_word s) v (flat_map words_of gs)
    (name_fault verb s rows pending own ∙ clean) (name_step verb s rows pending own)
    (subst F (sym value.is) (value_fault verb s rows1 value.first value.rest own value.plain))
    (subst S (sym value.is) (value_step verb s rows1 value.first value.rest own value.plain))
    (options_pass verb gs rows1 (Some (id_of s, v ∷ [])) (All-tail (IsTaken verb) g gs taken) (All-tail IsInRange g gs ranges) (AllPairs-tail Apart g gs once)
    (settle_fresh verb s v rows1 own fresh)
    (unused_after verb g v rows1 gs own fresh (AllPairs-head Apart g gs once) (All-tail (Unused rows1) g gs unused)))

none_used : (gs : List Given) → All (Unused []) gs
none_used [] = All-nil (Unused [])
none_used (g ∷ gs) = All-cons (Unused []) g gs refl (none_used gs)

-- ---- what follows the walk

defaults_none : (rows : List Row) (rs : List Rule) → list_all (λ a. is_empty a.defaults) rs ≡ true → defaults_fault rows rs ≡ []
unfolding defaults_fault
defaults_none rows [] e = refl
defaults_none rows (a ∷ rs) e =
    let parts = both_true (is_empty a.defaults) (list_all (λ x. is_empty x.defaults) rs) e in
    let none : default_fault rows a ≡ [] = no_default (has_row a.id rows) (is_empty a.defaults) (given_default_fault a a.defaults) parts.0 in
    ap (λ (k : Kinds). or_else k (defaults_fault (with_default rows a) rs)) none ∙ defaults_none (with_default rows a) rs parts.1
  where
    both_true : (a b : Bool) → (a && b) ≡ true → (a ≡ true) × (b ≡ true)
    both_true true b e = (refl, e)
    both_true false b e = cc

    no_default : (a b : Bool) (k : Kinds) → b ≡ true → (if a || b then [] else k) ≡ []
    no_default true b k e = refl
    no_default false true k e = refl
    no_default false false k e = cc

no_defaults : (verb : Verb) → list_all (λ (r : Rule). is_empty r.defaults) (rules_of verb) ≡ true
unfolding clap_on_literals
no_defaults Play = refl
no_defaults Dump = refl

-- nothing is wanted of the options at their end
no_check : (verb : Verb) (rows : List Row) → check_fault (sub verb) rows false ≡ []
unfolding clap_on_literals
no_check Play rows = refl
no_check Dump rows = refl

-- the faults of what comes behind the words of options
abbrev behind_options : Verb → Held → Kinds
behind_options verb end = or_else (settle_fault (rules_of verb) false end)
    (or_else (defaults_fault (settled (rules_of verb) end).rows (rules_of verb)) (check_fault (sub verb) (finished (rules_of verb) end) false))

level_is : (verb : Verb) (options : List Text) → level_fault (sub verb) [] nothing_held options false []
    ≡ or_else (walk_fault (sub verb) [] (walk_from nothing_held) options) (behind_options verb (walk (rules_of verb) [] nothing_held options).held)
unfolding clap_on_literals
level_is Play options = refl
level_is Dump options = refl

level_passes : (verb : Verb) (options : List Text) → Passes verb (at [] None idle) options → level_fault (sub verb) [] nothing_held options false [] ≡ []
level_passes verb options h =
    let end : Held = (walk (rules_of verb) [] nothing_held options).held in
    let check : Kinds = check_fault (sub verb) (finished (rules_of verb) end) false in
    let defaults : Kinds = defaults_fault (settled (rules_of verb) end).rows (rules_of verb) in
    let words = ap (λ (k : Kinds). or_else k (behind_options verb end)) h.words_pass in
    let pending = ap (λ (k : Kinds). or_else k (or_else defaults check)) h.end_passes in
    let given = ap (λ (k : Kinds). or_else k check) (defaults_none (settled (rules_of verb) end).rows (rules_of verb) (no_defaults verb)) in
    level_is verb options ∙ (words ∙ (pending ∙ (given ∙ no_check verb (finished (rules_of verb) end))))

abbrev stopped_at : Text → List Text → Walk
stopped_at name words = record {
  held = nothing_held;
  waiting = idle;
  position = 1;
  is_trailing = false;
  stopped = Some (name, words);
}

stopped_walk : (rs : List Rule) (names : Names) (name : Text) (before words : List Text)
    → fold (walked rs names) (stopped_at name before) words ≡ stopped_at name (before ++ words)
unfolding walked
stopped_walk rs names name before [] = ap (stopped_at name) (sym (append-nil before))
stopped_walk rs names name before (w ∷ ws) =
    stopped_walk rs names name (before ++ w ∷ []) ws ∙ ap (stopped_at name) (append_assoc before (w ∷ []) ws)

stopped_fault : (s : Shape) (names : Names) (name : Text) (before words : List Text) → walk_fault s names (stopped_at name before) words ≡ []
unfolding walked walk_fault
stopped_fault s names name before [] = refl
stopped_fault s names name before (w ∷ ws) = stopped_fault s names name (before ++ w ∷ []) ws

-- ---- the whole command

abbrev top : Shape
top = (built program).top

abbrev names : Names
names = names_of (built program)

verb_step : (verb : Verb) → walked top.rules names (walk_from nothing_held) (verb_name verb) ≡ stopped_at (verb_name verb) []
unfolding clap_on_literals
verb_step Play = refl
verb_step Dump = refl

verb_fault : (verb : Verb) → turn_fault top names (walk_from nothing_held) (verb_name verb) ≡ []
unfolding clap_on_literals
verb_fault Play = refl
verb_fault Dump = refl

verb_walk : (verb : Verb) (options : List Text) → walk top.rules names nothing_held (verb_name verb ∷ options) ≡ stopped_at (verb_name verb) options
verb_walk verb options =
    ap (λ (w : Walk). fold (walked top.rules names) w options) (verb_step verb) ∙ stopped_walk top.rules names (verb_name verb) [] options

verb_faults : (verb : Verb) (options : List Text) → walk_fault top names (walk_from nothing_held) (verb_name verb ∷ options) ≡ []
unfolding walk_fault
verb_faults verb options =
    ap (λ (k : Kinds). or_else k (walk_fault top names (walked top.rules names (walk_from nothing_held) (verb_name verb)) options)) (verb_fault verb)
    ∙ (ap (λ (w : Walk). walk_fault top names w options) (verb_step verb) ∙ stopped_fault top names (verb_name verb) [] options)

-- the faults of a level behind its walk
abbrev after_walk : Walk → Kinds
after_walk w = or_else (entered_fault (built program) w.stopped) (or_else (settle_fault top.rules top.args_override_self w.held)
    (or_else (defaults_fault (settled top.rules w.held).rows top.rules) (check_fault top (finished top.rules w.held) (is_some (entered (built program) w.stopped)))))

after_verb : (verb : Verb) (options : List Text) → level_fault (sub verb) [] nothing_held options false [] ≡ [] → after_walk (stopped_at (verb_name verb) options) ≡ []
unfolding clap_on_literals
after_verb Play options e = ap (λ (k : Kinds). or_else k []) e
after_verb Dump options e = ap (λ (k : Kinds). or_else k []) e

pub clap_takes : (words : List (List ℕ)) (command : Command) → IsCommand words command → fault_of program_app words ≡ []
clap_takes words command h =
    let options : Passes h.verb (at [] None idle) h.options =
    let P : List Text → Type 0 = λ ws. Passes h.verb (at [] None idle) ws in
    subst P (sym h.read.text) (options_pass h.verb h.givens [] None h.read.taken h.read.ranges h.read.once refl (none_used h.givens)) in
    let level = level_passes h.verb h.options options in
    let words_pass = verb_faults h.verb h.options in
    let Q : List Text → Type 0 = λ ws. fault_of program ws ≡ [] in
    let whole : fault_of program (h.folder ∷ verb_name h.verb ∷ h.options) ≡ [] =
    ap (λ (k : Kinds). or_else k (after_walk (walk top.rules names nothing_held (verb_name h.verb ∷ h.options)))) words_pass
    ∙ (ap after_walk (verb_walk h.verb h.options) ∙ after_verb h.verb h.options level) in
    subst Q (sym h.text) whole
