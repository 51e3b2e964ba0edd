-- A line that is spelled is read back.
use Rattle.std.proofs.Common.{◌≡◌, ◌≢◌, ℕ, ◌<◌, ◌^◌, List, [], ◌∷◌, ◌++◌, Bool, true, false, Option, None, Some, length, refl, ap, ◌∙◌, arith, if◌then◌else◌}
use Rattle.std.specs.Prelude.{codes, not, ◌&&◌, All}
use Rattle.std.proofs.lemmas.Bool.Decides.{nat_tests}
use Rattle.std.proofs.lemmas.Fmt.{decimal_nonempty, digits_decimal, digits_value-decimal}
use Rattle.std.proofs.lemmas.Str.Parse.{FoldsDigits, numerals_by_fold, tells_all_ascii_digits}
use Rattle.std.specs.Fmt.{decimal}
use Rattle.std.proofs.lemmas.Grind.{common_steps}
use Rattle.std.proofs.lemmas.List.Elements.{All-nil, All-cons, All-get_or, All-head, All-tail, All-weaker}
use Rattle.std.proofs.lemmas.List.Splits.{slice_split_at}
use Rattle.std.proofs.lemmas.List.Sums.{position_or_len_is}
use Rattle.std.proofs.Math.Seq.{drop-append-add}
use Rattle.std.specs.List.{position_or_len, slice_split}
use Rattle.std.specs.Str.{all_ascii_digits}
use Rattle.tl_spec.specs.Edit.{Change, Names, Texts, Comments, Sets, Flags, Unsets, Bares, Pushes, Pulls, Roots}
use Rattle.tl_spec.specs.Lex.ByteClass.{is_space}
use Rattle.tl_spec.specs.Lex.Runs.{has_bytes}
use Rattle.tl_spec.specs.Edit.StepLine.{is_line_feed, parse_changes, changes_of_lines, lines_of, IsLine, number_of, is_number, continue_number, first_word, after_word, change_with_number, change_of_text, change_of_numbers, change_of_word, change_by_word, change_of_line, word_and_rest, line_of, ReadBack, IsSpellable}

-- a word without a space ends where the first space stands
word_length : (word rest : List ℕ) → All (λ b. b ≢ 32) word → position_or_len is_space (word_and_rest word rest) ≡ length word
word_length word rest h =
    position_or_len_is is_space (word ++ 32 ∷ rest) (length word) 0 (grind (arith, common_steps))
    (λ k l. grind (arith, nat_tests, common_steps, All-get_or (λ b. b ≢ 32) word k 0 l h))
    (λ l. grind (arith, nat_tests, common_steps))

pub first_word-spaced : (word rest : List ℕ) → All (λ b. b ≢ 32) word → first_word (word_and_rest word rest) ≡ word
first_word-spaced word rest h = rw (word_length word rest h) (grind (arith, common_steps))

pub after_word-spaced : (word rest : List ℕ) → All (λ b. b ≢ 32) word → after_word (word_and_rest word rest) ≡ rest
after_word-spaced word rest h = rw (word_length word rest h, drop-append-add) refl

unfoldable pub spaceless : List ℕ → Bool
spaceless [] = true
spaceless (b ∷ bytes) = not (is_space b) && spaceless bytes

spaceless-All : (word : List ℕ) → spaceless word ≡ true → All (λ b. b ≢ 32) word
unfolding spaceless
spaceless-All [] h = All-nil (λ b. b ≢ 32)
spaceless-All (b ∷ bytes) h = All-cons (λ b. b ≢ 32) b bytes (grind (arith, nat_tests)) (spaceless-All bytes (grind (arith, nat_tests)))

digits-spaceless : (digits : List ℕ) → all_ascii_digits digits ≡ true → All (λ b. b ≢ 32) digits
digits-spaceless [] h = All-nil (λ b. b ≢ 32)
digits-spaceless (b ∷ bytes) h = All-cons (λ b. b ≢ 32) b bytes (grind (arith, nat_tests)) (digits-spaceless bytes (grind (arith, nat_tests)))

digits_if : (t : Bool) (digits : List ℕ) (n : ℕ) → t ≡ is_number digits → (if t then Some (continue_number 0 digits) else None) ≡ Some n → all_ascii_digits digits ≡ true
digits_if true digits n e h = grind (arith, nat_tests)
digits_if false digits n e h = cc

pub number-spaceless : (digits : List ℕ) (n : ℕ) → number_of digits ≡ Some n → All (λ b. b ≢ 32) digits
number-spaceless digits n h = digits-spaceless digits (digits_if (is_number digits) digits n refl h)

-- a number and what stands after its space are read as that
pub number_read : (digits rest : List ℕ) (n : ℕ) (made : ℕ → List ℕ → Option Change) → number_of digits ≡ Some n → change_with_number made (word_and_rest digits rest) ≡ made n rest
number_read digits rest n made h =
    let s = number-spaceless digits n h in
    rw (first_word-spaced digits rest s, after_word-spaced digits rest s, h) refl

pub numbers_read : (word digits more : List ℕ) (n m : ℕ) → number_of digits ≡ Some n → number_of more ≡ Some m → change_of_text word n more ≡ None →
    change_by_word word (word_and_rest digits more) ≡ change_of_numbers word n m
numbers_read word digits more n m h k none = number_read digits more n (change_of_word word) h ∙ rw (none, k) refl

-- a line is read by its word
pub line_read : (word rest : List ℕ) → spaceless word ≡ true → change_of_line (word_and_rest word rest) ≡ change_by_word word rest
line_read word rest h =
    let s = spaceless-All word h in
    rw (first_word-spaced word rest s, after_word-spaced word rest s) refl

pub spelled_read : (digits : ℕ → List ℕ) → ReadBack digits → (c : Change) → IsSpellable c → change_of_line (line_of digits c) ≡ Some c
unfolding spaceless
spelled_read digits r (Names n name) h =
    line_read (codes "name") (word_and_rest (digits n) name) refl ∙ number_read (digits n) name n (change_of_word (codes "name")) (r n h)
spelled_read digits r (Texts n text) h =
    line_read (codes "text") (word_and_rest (digits n) text) refl ∙ number_read (digits n) text n (change_of_word (codes "text")) (r n h)
spelled_read digits r (Comments n text) h =
    line_read (codes "comment") (word_and_rest (digits n) text) refl ∙ number_read (digits n) text n (change_of_word (codes "comment")) (r n h)
spelled_read digits r (Sets n key value) h =
    line_read (codes "set") (word_and_rest (digits n) (word_and_rest key value)) refl
    ∙ number_read (digits n) (word_and_rest key value) n (change_of_word (codes "set")) (r n h.0)
    ∙ rw (first_word-spaced key value h.1, after_word-spaced key value h.1) refl
spelled_read digits r (Flags n key) h =
    line_read (codes "flag") (word_and_rest (digits n) key) refl ∙ number_read (digits n) key n (change_of_word (codes "flag")) (r n h)
spelled_read digits r (Unsets n key) h =
    line_read (codes "unset") (word_and_rest (digits n) key) refl ∙ number_read (digits n) key n (change_of_word (codes "unset")) (r n h)
spelled_read digits r (Bares n key) h =
    line_read (codes "bare") (word_and_rest (digits n) key) refl ∙ number_read (digits n) key n (change_of_word (codes "bare")) (r n h)
spelled_read digits r (Pushes n m) h =
    line_read (codes "push") (word_and_rest (digits n) (digits m)) refl ∙ numbers_read (codes "push") (digits n) (digits m) n m (r n h.0) (r m h.1) refl
spelled_read digits r (Pulls n m) h =
    line_read (codes "pull") (word_and_rest (digits n) (digits m)) refl ∙ numbers_read (codes "pull") (digits n) (digits m) n m (r n h.0) (r m h.1) refl
spelled_read digits r (Roots n m) h =
    line_read (codes "root") (word_and_rest (digits n) (digits m)) refl ∙ numbers_read (codes "root") (digits n) (digits m) n m (r n h.0) (r m h.1) refl

line_of-not_empty : (digits : ℕ → List ℕ) (c : Change) → has_bytes (line_of digits c) ≡ true
line_of-not_empty digits (Names n name) = refl
line_of-not_empty digits (Texts n text) = refl
line_of-not_empty digits (Comments n text) = refl
line_of-not_empty digits (Sets n key value) = refl
line_of-not_empty digits (Flags n key) = refl
line_of-not_empty digits (Unsets n key) = refl
line_of-not_empty digits (Bares n key) = refl
line_of-not_empty digits (Pushes n h) = refl
line_of-not_empty digits (Pulls n i) = refl
line_of-not_empty digits (Roots i h) = refl

pub not_feed : (b : ℕ) → b ≢ 10 → is_line_feed b ≡ false
not_feed b h = grind (arith, nat_tests)

-- a line in front says its edit first
pub changes_of_lines-cons : (line : List ℕ) (lines : List (List ℕ)) (c : Change) (cs : List Change) → has_bytes line ≡ true → change_of_line line ≡ Some c → changes_of_lines lines ≡ Some cs → changes_of_lines (line ∷ lines) ≡ Some (c ∷ cs)
changes_of_lines-cons line lines c cs e h k = rw (e, h, k) refl

pub spelled_all_read : (digits : ℕ → List ℕ) → ReadBack digits → (cs : List Change) → All (IsLine digits) cs → parse_changes (lines_of digits cs) ≡ Some cs
spelled_all_read digits r [] h = refl
spelled_all_read digits r (c ∷ cs) h =
    let is_line = All-head (IsLine digits) c cs h in
    let later = spelled_all_read digits r cs (All-tail (IsLine digits) c cs h) in
    let no_feed = All-weaker (λ b. b ≢ 10) (λ b. is_line_feed b ≡ false) not_feed (line_of digits c) is_line.1 in
    ap changes_of_lines (slice_split_at is_line_feed (line_of digits c) 10 (lines_of digits cs) no_feed refl)
    ∙ changes_of_lines-cons (line_of digits c) (slice_split is_line_feed (lines_of digits cs)) c cs (line_of-not_empty digits c) (spelled_read digits r c is_line.0) later

pub number-if : (digits : List ℕ) → is_number digits ≡ true → number_of digits ≡ Some (continue_number 0 digits)
number-if digits h = rw h refl

-- decimal digits

folds : FoldsDigits continue_number
folds = record { empty = λ n. refl; more = λ n c cs h. ap (λ m. continue_number m cs) (omega arith) }

pub decimal-reads_back : ReadBack decimal
decimal-reads_back n h =
    let P = λ (ds : List ℕ). all_ascii_digits ds ≡ true in
    let wide : n < 2 ^ 64 = omega arith in
    let all : all_ascii_digits (decimal n) ≡ true = digits_decimal (numerals_by_fold P tells_all_ascii_digits continue_number folds) n wide in
    let value : continue_number 0 (decimal n) ≡ n = digits_value-decimal (numerals_by_fold P tells_all_ascii_digits continue_number folds) n wide in
    let some : 0 < length (decimal n) = decimal_nonempty n wide in
    number-if (decimal n) (grind (arith, nat_tests)) ∙ ap Some value

pub ruleset laws = (spelled_read, spelled_all_read, decimal-reads_back)
