-- Reading options one by one.
use Rattle.std.proofs.Common.{◌≡◌, ◌≢◌, ◌<◌, ◌^◌, ◌==◌, if◌then◌else◌, ℕ, suc, List, [], ◌∷◌, All, Contains, get_or, refl, sym, ap, ◌∙◌, subst, arith, decimal, lit≤, Bool, true, false, cond, find, Option, Some, option_map, unwrap_or}
use Rattle.std.specs.List.{AllPairs, flat_map}
use Rattle.std.proofs.lemmas.Fmt.{decimal_is_IsNumeral, decimal_injective}
use Rattle.std.proofs.lemmas.Slice.Eq.{bytes_eq-Decides}
use Rattle.std.proofs.lemmas.Str.Parse.{digit_at}
use Rattle.std.proofs.lemmas.List.Elements.{All-nil, All-cons, All-head, All-tail, All-contains, Contains-append_right}
use Rattle.std.proofs.lemmas.List.Kept.{AllPairs-cons}
use Rattle.hr_base.specs.declared.limits.Limits.{Limits}
use Rattle.hr_base.specs.LimitRanges.{IsLimits}
use Rattle.command_words.specs.declared.read.Command.{Command}
use Rattle.command_words.specs.declared.table.Verb.{Verb}
use Rattle.command_words.specs.declared.table.Verb.TheVariants.{Play, Dump}
use Rattle.command_words.specs.declared.table.Setting.{Setting}
use Rattle.command_words.specs.declared.table.Setting.TheVariants.{Partitions, ValueLimit, TombLimit, Percent}
use Rattle.command_words.specs.Table.{verb_name, settings_of, option_word, default_of, IsNumberFor}
use Rattle.command_words.specs.Words.{Given, words_of, IsOptions, IsCommand, IsInLimits, GivesLimits, is_of, number_of, limits_of, verb_command, with_number}

abbrev pub Differs : Setting → Given → Type 0
Differs s given = s ≢ given.setting

abbrev pub Apart : Given → Given → Type 0
Apart a b = a.setting ≢ b.setting

abbrev pub IsInRange : Given → Type 0
IsInRange given = IsNumberFor given.setting given.number

abbrev pub IsTaken : Verb → Given → Type 0
IsTaken verb given = Contains (settings_of verb) given.setting

abbrev Lacks : Setting → List ℕ → Type 0
Lacks s word = word ≢ option_word s

pub number_fits : (s : Setting) (n : ℕ) → IsNumberFor s n → n < 2 ^ 64
number_fits Partitions n h = omega (arith, h.most)
number_fits ValueLimit n h = omega (arith, h.most)
number_fits TombLimit n h = omega (arith, h.most)
number_fits Percent n h = omega (arith, h.most)

-- the option that a word names, by bytes in which the names differ
option_by_word : List ℕ → Setting
option_by_word word =
    if get_or word 2 0 == 118 then ValueLimit
    else (if get_or word 2 0 == 116 then TombLimit else (if get_or word 3 0 == 101 then Percent else Partitions))

option_by_word-option_word : (s : Setting) → option_by_word (option_word s) ≡ s
unfolding option_by_word
option_by_word-option_word Partitions = refl
option_by_word-option_word ValueLimit = refl
option_by_word-option_word TombLimit = refl
option_by_word-option_word Percent = refl

-- two options have different words
pub one_option : (a b : Setting) → option_word a ≡ option_word b → a ≡ b
one_option a b e = sym (option_by_word-option_word a) ∙ (ap option_by_word e ∙ option_by_word-option_word b)

option_begins : (s : Setting) → get_or (option_word s) 0 0 ≡ 45
option_begins Partitions = refl
option_begins ValueLimit = refl
option_begins TombLimit = refl
option_begins Percent = refl

-- a number is no option
pub decimal_is_no_option : (n : ℕ) (s : Setting) → n < 2 ^ 64 → decimal n ≡ option_word s → ⊥
decimal_is_no_option n s fits e =
    let numeral = decimal_is_IsNumeral n fits in
    let digit = digit_at (decimal n) 0 numeral.0.1 numeral.0.0 in
    omega (arith, digit, ap (λ (xs : List ℕ). get_or xs 0 0) e, option_begins s)

-- the words of other options have not the word of this one
others_lack : (s : Setting) (givens : List Given) → All (Differs s) givens → All IsInRange givens → All (Lacks s) (flat_map words_of givens)
others_lack s [] differ ranges = All-nil (Lacks s)
others_lack s (b ∷ bs) differ ranges =
    let own : s ≢ b.setting = All-head (Differs s) b bs differ in
    let fits : b.number < 2 ^ 64 = number_fits b.setting b.number (All-head IsInRange b bs ranges) in
    All-cons (Lacks s) (option_word b.setting) (decimal b.number ∷ flat_map words_of bs) (λ e. own (sym (one_option b.setting s e)))
    (All-cons (Lacks s) (decimal b.number) (flat_map words_of bs) (λ e. decimal_is_no_option b.number s fits e)
    (others_lack s bs (All-tail (Differs s) b bs differ) (All-tail IsInRange b bs ranges)))

-- where a word is not among those of options, none of them is its option
lacking_differ : (s : Setting) (givens : List Given) → (Contains (flat_map words_of givens) (option_word s) → ⊥) → All (Differs s) givens
lacking_differ s [] lacks = All-nil (Differs s)
lacking_differ s (b ∷ bs) lacks =
    All-cons (Differs s) b bs
    (λ e. lacks (0, omega arith, ap option_word (sym e)))
    (lacking_differ s bs (λ inside. lacks (Contains-append_right (words_of b) (flat_map words_of bs) (option_word s) inside)))

-- the parts of words that begin with an option
pub record Split (verb : Verb) (name value : List ℕ) (rest : List (List ℕ)) : Type 0 where
  pub setting : Setting
  pub number : ℕ
  pub givens : List Given
  pub taken : Contains (settings_of verb) setting
  pub named : name ≡ option_word setting
  pub ranges : IsNumberFor setting number
  pub spelled : value ≡ decimal number
  pub absent : Contains rest name → ⊥
  pub read : IsOptions verb rest givens

pub AllPairs-head : {X : Type 0} (R : X → X → Type 0) (x : X) (xs : List X) → AllPairs R (x ∷ xs) → All (R x) xs
AllPairs-head R x xs h = λ k d below. h 0 (suc k) d (omega arith) (omega arith)

pub AllPairs-tail : {X : Type 0} (R : X → X → Type 0) (x : X) (xs : List X) → AllPairs R (x ∷ xs) → AllPairs R xs
AllPairs-tail R x xs h = λ i j d before below. h (suc i) (suc j) d (omega arith) (omega arith)

pub split : (verb : Verb) (name value : List ℕ) (rest : List (List ℕ)) (givens : List Given)
    → IsOptions verb (name ∷ value ∷ rest) givens → Split verb name value rest
split verb name value rest [] h = let e : (name ∷ value ∷ rest) ≡ [] = h.text in cc
split verb name value rest (g ∷ gs) h =
    let text : (name ∷ value ∷ rest) ≡ (option_word g.setting ∷ decimal g.number ∷ flat_map words_of gs) = h.text in
    let named : name ≡ option_word g.setting = cc in
    let others : rest ≡ flat_map words_of gs = cc in
    let lacks = others_lack g.setting gs (AllPairs-head Apart g gs h.once) (All-tail IsInRange g gs h.ranges) in
    let P : List (List ℕ) → Type 0 = λ ws. Contains ws name in
    record {
      setting = g.setting;
      number = g.number;
      givens = gs;
      taken = All-head (IsTaken verb) g gs h.taken;
      named = named;
      ranges = All-head IsInRange g gs h.ranges;
      spelled = cc;
      absent = λ inside. All-contains (Lacks g.setting) (flat_map words_of gs) name lacks (subst P others inside) named;
      read = record {
        text = others;
        taken = All-tail (IsTaken verb) g gs h.taken;
        ranges = All-tail IsInRange g gs h.ranges;
        once = AllPairs-tail Apart g gs h.once;
      };
    }

-- one word alone is no options
pub odd_word : (verb : Verb) (word : List ℕ) (givens : List Given) → IsOptions verb (word ∷ []) givens → ⊥
odd_word verb word [] h = let e : (word ∷ []) ≡ [] = h.text in cc
odd_word verb word (g ∷ gs) h =
    let e : (word ∷ []) ≡ (option_word g.setting ∷ decimal g.number ∷ flat_map words_of gs) = h.text in cc

set_over : (gs : List Given) (s : Setting) (n : ℕ) → with_number (limits_of gs) s n ≡ limits_of (record { setting = s; number = n } ∷ gs)
set_over gs Partitions n = refl
set_over gs ValueLimit n = refl
set_over gs TombLimit n = refl
set_over gs Percent n = refl

-- one more option in front of others
pub joined : (verb : Verb) (name value : List ℕ) (rest : List (List ℕ)) (s : Setting) (n : ℕ) (others : Limits)
    → Contains (settings_of verb) s → name ≡ option_word s → IsNumberFor s n → value ≡ decimal n
    → (Contains rest name → ⊥) → GivesLimits verb rest others
    → GivesLimits verb (name ∷ value ∷ rest) (with_number others s n)
joined verb name value rest s n others taken named range spelled absent h =
    let gs : List Given = h.givens in
    let text : rest ≡ flat_map words_of gs = h.read.text in
    let g : Given = record { setting = s; number = n } in
    let P : List (List ℕ) → Type 0 = λ ws. Contains ws name in
    let Q : List ℕ → Type 0 = λ w. Contains (flat_map words_of gs) w in
    let lacks : Contains (flat_map words_of gs) (option_word s) → ⊥ = λ inside. absent (subst P (sym text) (subst Q (sym named) inside)) in
    record {
      givens = g ∷ gs;
      read = record {
        text = cc;
        taken = All-cons (IsTaken verb) g gs taken h.read.taken;
        ranges = All-cons IsInRange g gs range h.read.ranges;
        once = AllPairs-cons Apart g gs (lacking_differ s gs lacks) h.read.once;
      };
      meaning = ap (λ (l : Limits). with_number l s n) h.meaning ∙ set_over gs s n;
    }

default_fits : (s : Setting) → IsNumberFor s (default_of s)
default_fits Partitions = record { least = lit≤ tt; most = lit≤ tt }
default_fits ValueLimit = record { least = lit≤ tt; most = lit≤ tt }
default_fits TombLimit = record { least = lit≤ tt; most = lit≤ tt }
default_fits Percent = record { least = lit≤ tt; most = lit≤ tt }

-- the number that is found first, or the default
abbrev chosen : Setting → Option Given → ℕ
chosen s found = unwrap_or (option_map (λ (g : Given). g.number) found) (default_of s)

choice_fits : (s : Setting) (g : Given) (others : Option Given) (b : Bool) → (b ≡ true → g.setting ≡ s) → IsInRange g → IsNumberFor s (chosen s others)
    → IsNumberFor s (chosen s (cond b (Some g) others))
choice_fits s g others true same range h = let P : Setting → Type 0 = λ x. IsNumberFor x g.number in subst P (same refl) range
choice_fits s g others false same range h = h

number_of_fits : (s : Setting) (givens : List Given) → All IsInRange givens → IsNumberFor s (number_of givens s)
number_of_fits s [] ranges = default_fits s
number_of_fits s (g ∷ gs) ranges =
    choice_fits s g (find (is_of s) gs) (is_of s g)
    (λ yes. one_option g.setting s ((bytes_eq-Decides (option_word g.setting) (option_word s)).0 yes))
    (All-head IsInRange g gs ranges) (number_of_fits s gs (All-tail IsInRange g gs ranges))

-- limits that options set are in their ranges
ranges_fit : (givens : List Given) → All IsInRange givens → IsLimits (limits_of givens)
ranges_fit givens ranges =
    let fit = λ (s : Setting). number_of_fits s givens ranges in
    record {
      partitions = record { some = (fit Partitions).least; few = (fit Partitions).most };
      value = record { least = (fit ValueLimit).least; most = (fit ValueLimit).most };
      tomb = record { least = (fit TombLimit).least; most = (fit TombLimit).most };
      percent = (fit Percent).most;
    }

pub limits_fit : (verb : Verb) (words : List (List ℕ)) (limits : Limits) → GivesLimits verb words limits → IsLimits limits
limits_fit verb words limits h = subst IsLimits (sym h.meaning) (ranges_fit h.givens h.read.ranges)

one_given : (a b : Given) → IsInRange a → IsInRange b → option_word a.setting ≡ option_word b.setting → decimal a.number ≡ decimal b.number → a ≡ b
one_given a b x y named spelled =
    let setting : a.setting ≡ b.setting = one_option a.setting b.setting named in
    let number : a.number ≡ b.number =
    decimal_injective a.number b.number (number_fits a.setting a.number x) (number_fits b.setting b.number y) spelled in
    let make : Setting → ℕ → Given = λ s n. record { setting = s; number = n } in
    let whole : make a.setting a.number ≡ make b.setting b.number = cc in
    whole

-- words are those of one list of options at most
pub one_givens : (xs ys : List Given) → All IsInRange xs → All IsInRange ys → flat_map words_of xs ≡ flat_map words_of ys → xs ≡ ys
one_givens [] [] x y e = refl
one_givens [] (b ∷ bs) x y e = let e' : [] ≡ (option_word b.setting ∷ decimal b.number ∷ flat_map words_of bs) = e in cc
one_givens (a ∷ as') [] x y e = let e' : (option_word a.setting ∷ decimal a.number ∷ flat_map words_of as') ≡ [] = e in cc
one_givens (a ∷ as') (b ∷ bs) x y e =
    let e' : (option_word a.setting ∷ decimal a.number ∷ flat_map words_of as') ≡ (option_word b.setting ∷ decimal b.number ∷ flat_map words_of bs) = e in
    let named : option_word a.setting ≡ option_word b.setting = cc in
    let spelled : decimal a.number ≡ decimal b.number = cc in
    let rest : flat_map words_of as' ≡ flat_map words_of bs = cc in
    let first : a ≡ b = one_given a b (All-head IsInRange a as' x) (All-head IsInRange b bs y) named spelled in
    let others : as' ≡ bs = one_givens as' bs (All-tail IsInRange a as' x) (All-tail IsInRange b bs y) rest in
    cc

one_verb : (a b : Verb) → verb_name a ≡ verb_name b → a ≡ b
one_verb Play Play e = refl
one_verb Dump Dump e = refl
one_verb Play Dump e = absurd (omega (arith, ap (λ (xs : List ℕ). get_or xs 0 0) e))
one_verb Dump Play e = absurd (omega (arith, ap (λ (xs : List ℕ). get_or xs 0 0) e))

in_range : (verb : Verb) (givens : List Given) (command : Command) → All IsInRange givens → command ≡ verb_command verb givens → IsInLimits command
in_range Play givens command ranges is = subst IsInLimits (sym is) (ranges_fit givens ranges)
in_range Dump givens command ranges is = subst IsInLimits (sym is) (ranges_fit givens ranges)

-- those of a command are
pub limits_in_range : (words : List (List ℕ)) (command : Command) → IsCommand words command → IsInLimits command
limits_in_range words command is = in_range is.verb is.givens command is.read.ranges is.meaning

-- words mean one command at most
pub one_meaning : (words : List (List ℕ)) (a b : Command) → IsCommand words a → IsCommand words b → a ≡ b
one_meaning words a b x y =
    let both : (x.folder ∷ verb_name x.verb ∷ x.options) ≡ (y.folder ∷ verb_name y.verb ∷ y.options) = sym x.text ∙ y.text in
    let named : verb_name x.verb ≡ verb_name y.verb = cc in
    let verb : x.verb ≡ y.verb = one_verb x.verb y.verb named in
    let options : x.options ≡ y.options = cc in
    let givens : x.givens ≡ y.givens =
    one_givens x.givens y.givens x.read.ranges y.read.ranges (sym x.read.text ∙ (options ∙ y.read.text)) in
    let same : verb_command x.verb x.givens ≡ verb_command y.verb y.givens = cc in
    x.meaning ∙ (same ∙ sym y.meaning)
