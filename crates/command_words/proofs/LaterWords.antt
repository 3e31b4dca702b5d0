-- What the words behind the folder are like.
use Rattle.std.proofs.Common.{◌≡◌, ◌≢◌, ◌<◌, ◌^◌, ◌==◌, ℕ, Bool, true, not, List, [], ◌∷◌, All, drop, refl, sym, subst, arith, decimal}
use Rattle.std.specs.List.{flat_map, list_all}
use Rattle.std.proofs.lemmas.Bool.Decides.{nat_tests}
use Rattle.std.proofs.lemmas.Fmt.{decimal_is_IsNumeral}
use Rattle.std.proofs.lemmas.Str.Parse.{digit_at}
use Rattle.std.proofs.lemmas.List.Elements.{All-nil, All-cons, All-head, All-tail, All-from_get_or}
use Rattle.command_words.specs.declared.read.Command.{Command}
use Rattle.command_words.specs.declared.table.Verb.{Verb}
use Rattle.command_words.specs.declared.table.Verb.TheVariants.{Play, Dump}
use Rattle.command_words.specs.declared.table.Setting.{Setting}
use Rattle.command_words.specs.declared.table.Setting.TheVariants.{Partitions, ValueLimit, TombLimit, Percent}
use Rattle.command_words.specs.Table.{verb_name, option_word}
use Rattle.command_words.specs.Words.{Given, words_of, IsCommand, IsLaterWord}
use Rattle.command_words.proofs.Words.{IsInRange, number_fits}

abbrev lacks_equals : List ℕ → Bool
lacks_equals = list_all (λ byte. not (byte == 61))

no_equals : (word : List ℕ) → lacks_equals word ≡ true → All (λ (byte : ℕ). byte ≢ 61) word
no_equals [] e = All-nil (λ (byte : ℕ). byte ≢ 61)
no_equals (b ∷ bs) e =
    All-cons (λ (byte : ℕ). byte ≢ 61) b bs (grind (arith, nat_tests)) (no_equals bs (grind (arith, nat_tests)))

later_option : (s : Setting) → IsLaterWord (option_word s)
later_option Partitions = record { plain = no_equals (option_word Partitions) refl; hyphen = λ e. (Partitions, refl) }
later_option ValueLimit = record { plain = no_equals (option_word ValueLimit) refl; hyphen = λ e. (ValueLimit, refl) }
later_option TombLimit = record { plain = no_equals (option_word TombLimit) refl; hyphen = λ e. (TombLimit, refl) }
later_option Percent = record { plain = no_equals (option_word Percent) refl; hyphen = λ e. (Percent, refl) }

later_verb : (verb : Verb) → IsLaterWord (verb_name verb)
later_verb Play = record { plain = no_equals (verb_name Play) refl; hyphen = λ e. absurd (omega (arith, e)) }
later_verb Dump = record { plain = no_equals (verb_name Dump) refl; hyphen = λ e. absurd (omega (arith, e)) }

later_number : (n : ℕ) → n < 2 ^ 64 → IsLaterWord (decimal n)
later_number n fits =
    let numeral = decimal_is_IsNumeral n fits in
    record {
      plain = All-from_get_or (λ (byte : ℕ). byte ≢ 61) (decimal n) 0 (λ i h. let digit = digit_at (decimal n) i numeral.0.1 h in λ e. omega (arith, digit, e));
      hyphen = λ e. let digit = digit_at (decimal n) 0 numeral.0.1 numeral.0.0 in absurd (omega (arith, digit, e));
    }

later_options : (givens : List Given) → All IsInRange givens → All IsLaterWord (flat_map words_of givens)
later_options [] ranges = All-nil IsLaterWord
later_options (g ∷ gs) ranges =
    All-cons IsLaterWord (option_word g.setting) (decimal g.number ∷ flat_map words_of gs) (later_option g.setting)
    (All-cons IsLaterWord (decimal g.number) (flat_map words_of gs) (later_number g.number (number_fits g.setting g.number (All-head IsInRange g gs ranges)))
    (later_options gs (All-tail IsInRange g gs ranges)))

pub later_words : (words : List (List ℕ)) (command : Command) → IsCommand words command → All IsLaterWord (drop 1 words)
later_words words command h =
    let options : All IsLaterWord h.options = subst (All IsLaterWord) (sym h.read.text) (later_options h.givens h.read.ranges) in
    let whole : All IsLaterWord (verb_name h.verb ∷ h.options) = All-cons IsLaterWord (verb_name h.verb) h.options (later_verb h.verb) options in
    let P : List (List ℕ) → Type 0 = λ ws. All IsLaterWord (drop 1 ws) in
    subst P (sym h.text) whole
