-- The step lines and texts by cases are those of the functions.
use Rattle.std.proofs.Common.{◌≡◌, ◌≢◌, ℕ, ◌+◌, ◌-◌, ◌*◌, ◌<◌, ◌≤◌, List, [], ◌∷◌, ◌++◌, Bool, true, false, Option, None, Some, length, refl, ap, sym, subst, ◌∙◌, ◌↔◌, arith, if◌then◌else◌, inl, inr}
use Rattle.std.specs.Prelude.{codes, All, option_map, option_and_then, map, filter}
use Rattle.std.specs.Option.{option_or}
use Rattle.std.proofs.lemmas.Bool.Decides.{nat_tests}
use Rattle.std.proofs.lemmas.Bool.{and_parts, cases_Bool, eqb-true, eqb-false}
use Rattle.std.proofs.lemmas.Grind.{common_steps}
use Rattle.std.proofs.lemmas.List.{append_assoc, append-nil, length-append}
use Rattle.std.proofs.lemmas.List.Elements.{All-nil, All-cons, All-get_or, All-weaker}
use Rattle.std.proofs.lemmas.List.Splits.{slice_split_at, slice_split_none}
use Rattle.std.proofs.lemmas.List.Sums.{position_or_len_is}
use Rattle.std.specs.Char.{is_ascii_digit}
use Rattle.std.specs.List.{position_or_len, slice_split, onto_first}
use Rattle.std.specs.Str.{all_ascii_digits, bytes_eq}
use Rattle.std.proofs.lemmas.Slice.Eq.{bytes_eq-Decides}
use Rattle.tl_spec.specs.Edit.{Change, Sets}
use Rattle.tl_spec.specs.Lex.ByteClass.{is_space}
use Rattle.tl_spec.specs.Lex.Runs.{has_bytes}
use Rattle.tl_spec.specs.Edit.StepLine.{number_of, is_number, continue_number, first_word, after_word, change_with_number, change_of_text, change_of_numbers, change_of_word, change_by_word, change_of_line, word_and_rest, is_line_feed, all_some, changes_of_lines, parse_changes}
use Rattle.tl_spec.specs.Edit.StepGrammar.{DigitsSay, one_digit, one_more, IsNumber, NumberThenText, number_alone, number_and_text, TwoNumbers, two_numbers, KeyThenValue, key_alone, key_and_value, LineSays, name_line, text_line, comment_line, set_line, flag_line, unset_line, bare_line, push_line, pull_line, root_line, TextSays, no_line, last_line, empty_line, next_line}
use Rattle.tl_spec.proofs.Lex.Shrinks.{if_both}
use Rattle.tl_spec.proofs.Edit.Spelling.{number-if, not_feed, changes_of_lines-cons, number_read, numbers_read, line_read, first_word-spaced, after_word-spaced, spaceless, number-spaceless}

none-some : {A : Type 0} {x : A} → None ≡ Some x → ⊥
none-some is = cc

-- digits from the right and from the left

continue_number-append : (n : ℕ) (xs ys : List ℕ) → continue_number n (xs ++ ys) ≡ continue_number (continue_number n xs) ys
continue_number-append n [] ys = refl
continue_number-append n (x ∷ xs) ys = continue_number-append (10 * n + (x - 48)) xs ys

all_ascii_digits-append : (xs ys : List ℕ) → all_ascii_digits xs ≡ true → all_ascii_digits ys ≡ true → all_ascii_digits (xs ++ ys) ≡ true
all_ascii_digits-append [] ys h k = k
all_ascii_digits-append (x ∷ xs) ys h k = grind (arith, nat_tests, all_ascii_digits-append xs ys)

one-all : (d : ℕ) → d ≤ 9 → all_ascii_digits ((48 + d) ∷ []) ≡ true
one-all d h = grind (arith, nat_tests)

say-all : {digits : List ℕ} {n : ℕ} → DigitsSay digits n → all_ascii_digits digits ≡ true
say-all (one_digit {d = d} h) = one-all d h
say-all (one_more {digits = digits} {d = d} r h) = all_ascii_digits-append digits ((48 + d) ∷ []) (say-all r) (one-all d h)

say-some : {digits : List ℕ} {n : ℕ} → DigitsSay digits n → 0 < length digits
say-some (one_digit h) = omega arith
say-some (one_more {digits = digits} {d = d} r h) = simp length-append (omega arith)

say-value : {digits : List ℕ} {n : ℕ} → DigitsSay digits n → continue_number 0 digits ≡ n
say-value (one_digit h) = omega arith
say-value (one_more {digits = digits} {d = d} r h) = continue_number-append 0 digits ((48 + d) ∷ []) ∙ omega (arith, say-value r)

pub number-is : {digits : List ℕ} {n : ℕ} → IsNumber digits n → number_of digits ≡ Some n
number-is {digits} {n} r =
    let all = say-all r.0 in
    let some = say-some r.0 in
    let value = say-value r.0 in
    number-if digits (grind (arith, nat_tests)) ∙ ap Some value

one_byte_more : {xs : List ℕ} {n : ℕ} (y : ℕ) → DigitsSay xs n → is_ascii_digit y ≡ true → DigitsSay (xs ++ y ∷ []) (10 * n + (y - 48))
one_byte_more {xs} {n} y r h =
    let large : 48 ≤ y = grind (arith, nat_tests) in
    let small : y - 48 ≤ 9 = grind (arith, nat_tests) in
    let same : 48 + (y - 48) ≡ y = omega arith in
    subst (λ b. DigitsSay (xs ++ b ∷ []) (10 * n + (y - 48))) same (one_more r small)

say-on : (ys : List ℕ) {xs : List ℕ} {n : ℕ} → DigitsSay xs n → all_ascii_digits ys ≡ true → DigitsSay (xs ++ ys) (continue_number n ys)
say-on [] {xs} {n} r h = subst (λ s. DigitsSay s n) (sym (append-nil xs)) r
say-on (y ∷ ys) {xs} {n} r h =
    let all = and_parts (is_ascii_digit y) (all_ascii_digits ys) h in
    subst (λ s. DigitsSay s (continue_number (10 * n + (y - 48)) ys)) (append_assoc xs (y ∷ []) ys) (say-on ys (one_byte_more y r all.0) all.1)

digits-say : (digits : List ℕ) → 0 < length digits → all_ascii_digits digits ≡ true → DigitsSay digits (continue_number 0 digits)
digits-say [] some h = absurd (omega arith)
digits-say (y ∷ ys) some h =
    let all = and_parts (is_ascii_digit y) (all_ascii_digits ys) h in
    let large : 48 ≤ y = grind (arith, nat_tests) in
    let small : y - 48 ≤ 9 = grind (arith, nat_tests) in
    let same : 48 + (y - 48) ≡ y = omega arith in
    let value : y - 48 ≡ 10 * 0 + (y - 48) = omega arith in
    say-on ys (subst (λ b. DigitsSay (b ∷ []) (10 * 0 + (y - 48))) same (subst (DigitsSay ((48 + (y - 48)) ∷ [])) value (one_digit small))) all.1

number-there : (digits : List ℕ) (n : ℕ) → number_of digits ≡ Some n → IsNumber digits n
number-there digits n h = by (is_number digits) refl h
  where
    by : (t : Bool) → is_number digits ≡ t → (if t then Some (continue_number 0 digits) else None) ≡ Some n → IsNumber digits n
    by false e is = absurd (none-some is)
    by true e is =
        let value : continue_number 0 digits ≡ n = cc in
        let some : 0 < length digits = grind (arith, nat_tests) in
        let all : all_ascii_digits digits ≡ true = grind (arith, nat_tests) in
        let small : continue_number 0 digits ≤ 4294967295 = grind (arith, nat_tests) in
        subst (IsNumber digits) value (digits-say digits some all, small)

-- a key and what stands after its space

spaceless-cons : (b : ℕ) (key : List ℕ) → is_space b ≡ false → All (λ b. b ≢ 32) key → All (λ b. b ≢ 32) (b ∷ key)
spaceless-cons b key e h = All-cons (λ b. b ≢ 32) b key (eqb-false b 32 e) h

cut-cons : (b : ℕ) {s key value : List ℕ} → is_space b ≡ false → KeyThenValue s key value → KeyThenValue (b ∷ s) (b ∷ key) value
cut-cons b e (key_alone {key = key} h) = key_alone (spaceless-cons b key e h)
cut-cons b e (key_and_value {key = key} h) = key_and_value (spaceless-cons b key e h)

first_word-cons : (b : ℕ) (s : List ℕ) → is_space b ≡ false → first_word (b ∷ s) ≡ b ∷ first_word s
first_word-cons b s e = rw e (grind (arith, common_steps))

after_word-cons : (b : ℕ) (s : List ℕ) → is_space b ≡ false → after_word (b ∷ s) ≡ after_word s
after_word-cons b s e = rw e (grind (arith, common_steps))

same-cut : {s key value other more : List ℕ} → key ≡ other → value ≡ more → KeyThenValue s key value → KeyThenValue s other more
same-cut {s} {key} {value} {other} {more} e f h = subst (KeyThenValue s other) f (subst (λ k. KeyThenValue s k value) e h)

space-cut : (b : ℕ) (s : List ℕ) → is_space b ≡ true → KeyThenValue (b ∷ s) (first_word (b ∷ s)) (after_word (b ∷ s))
space-cut b s e =
    let first : [] ≡ first_word (b ∷ s) = rw e refl in
    let after : s ≡ after_word (b ∷ s) = rw e refl in
    same-cut first after (subst (λ b. KeyThenValue (b ∷ s) [] s) (sym (eqb-true b 32 e)) (key_and_value (All-nil (λ b. b ≢ 32))))

pub word-cut : (s : List ℕ) → KeyThenValue s (first_word s) (after_word s)
word-cut [] = key_alone (All-nil (λ b. b ≢ 32))
word-cut (b ∷ s) = elim (cases_Bool (is_space b)) [
  | inl e ↦ space-cut b s e
  | inr e ↦ same-cut (sym (first_word-cons b s e)) (sym (after_word-cons b s e)) (cut-cons b e (word-cut s))
]

word_length-alone : (word : List ℕ) → All (λ b. b ≢ 32) word → position_or_len is_space word ≡ length word
word_length-alone word h =
    position_or_len_is is_space word (length word) 0 (omega arith)
    (λ k l. grind (arith, nat_tests, common_steps, All-get_or (λ b. b ≢ 32) word k 0 l h))
    (λ l. absurd (omega arith))

first_word-alone : (word : List ℕ) → All (λ b. b ≢ 32) word → first_word word ≡ word
first_word-alone word h = rw (word_length-alone word h) (grind (arith, common_steps))

after_word-alone : (word : List ℕ) → All (λ b. b ≢ 32) word → after_word word ≡ []
after_word-alone word h = rw (word_length-alone word h) (grind (arith, common_steps))

first-is : {s key value : List ℕ} → KeyThenValue s key value → first_word s ≡ key
first-is (key_alone {key = key} h) = first_word-alone key h
first-is (key_and_value {key = key} {value = value} h) = first_word-spaced key value h

after-is : {s key value : List ℕ} → KeyThenValue s key value → after_word s ≡ value
after-is (key_alone {key = key} h) = after_word-alone key h
after-is (key_and_value {key = key} {value = value} h) = after_word-spaced key value h

-- a number and what stands after its space

text-is : {rest text : List ℕ} {n : ℕ} (made : ℕ → List ℕ → Option Change) → NumberThenText rest n text → change_with_number made rest ≡ made n text
text-is made (number_alone {digits = digits} {n = n} k) =
    let is = number-is k in
    let s = number-spaceless digits n is in
    rw (first_word-alone digits s, after_word-alone digits s, is) refl
text-is made (number_and_text {digits = digits} {text = text} {n = n} k) = number_read digits text n made (number-is k)

number-parts : {rest digits text : List ℕ} {n : ℕ} → KeyThenValue rest digits text → IsNumber digits n → NumberThenText rest n text
number-parts (key_alone h) k = number_alone k
number-parts (key_and_value h) k = number_and_text k

text-there : (made : ℕ → List ℕ → Option Change) (rest : List ℕ) (c : Change) → change_with_number made rest ≡ Some c →
    (n : ℕ) × (text : List ℕ) × NumberThenText rest n text × (made n text ≡ Some c)
text-there made rest c h = by (number_of (first_word rest)) refl h
  where
    by : (o : Option ℕ) → number_of (first_word rest) ≡ o → option_and_then (λ n. made n (after_word rest)) o ≡ Some c →
        (n : ℕ) × (text : List ℕ) × NumberThenText rest n text × (made n text ≡ Some c)
    by None e is = absurd (none-some is)
    by (Some n) e is = (n, after_word rest, number-parts (word-cut rest) (number-there (first_word rest) n e), is)

numbers-parts : {rest digits : List ℕ} {n m : ℕ} → NumberThenText rest n digits → IsNumber digits m → TwoNumbers rest n m
numbers-parts (number_alone k) l = absurd (omega (arith, say-some l.0))
numbers-parts (number_and_text k) l = two_numbers k l

-- lines

text-line : (word rest : List ℕ) {line text : List ℕ} {n : ℕ} → spaceless word ≡ true → line ≡ word_and_rest word rest → NumberThenText rest n text →
    change_of_line line ≡ change_of_word word n text
text-line word rest h same r = ap change_of_line same ∙ line_read word rest h ∙ text-is (change_of_word word) r

numbers-line : (word rest : List ℕ) {line : List ℕ} {n m : ℕ} → spaceless word ≡ true → line ≡ word_and_rest word rest →
    ((text : List ℕ) → change_of_text word n text ≡ None) → TwoNumbers rest n m → change_of_line line ≡ change_of_numbers word n m
numbers-line word rest h same none (two_numbers {digits = digits} {more = more} {n = n} {m = m} k l) =
    ap change_of_line same ∙ line_read word rest h ∙ numbers_read word digits more n m (number-is k) (number-is l) (none more)

pub says-is : {line : List ℕ} {c : Change} → LineSays line c → change_of_line line ≡ Some c
unfolding spaceless
says-is (name_line {rest = rest} r) = text-line (codes "name") rest refl refl r
says-is (text_line {rest = rest} r) = text-line (codes "text") rest refl refl r
says-is (comment_line {rest = rest} r) = text-line (codes "comment") rest refl refl r
says-is (set_line {rest = rest} {n = n} r k) = text-line (codes "set") rest refl refl r ∙ (λ i. Some (Sets n (first-is k i) (after-is k i)))
says-is (flag_line {rest = rest} r) = text-line (codes "flag") rest refl refl r
says-is (unset_line {rest = rest} r) = text-line (codes "unset") rest refl refl r
says-is (bare_line {rest = rest} r) = text-line (codes "bare") rest refl refl r
says-is (push_line {rest = rest} r) = numbers-line (codes "push") rest refl refl (λ text. refl) r
says-is (pull_line {rest = rest} r) = numbers-line (codes "pull") rest refl refl (λ text. refl) r
says-is (root_line {rest = rest} r) = numbers-line (codes "root") rest refl refl (λ text. refl) r

-- what a word says of a number and what stands after it
module _ (word rest : List ℕ) (c : Change) where
  abbrev IsSaid : Option Change → Type 0
  IsSaid o = o ≡ Some c → LineSays (word_and_rest word rest) c

  one-form : (form : List ℕ) {made : Change} → LineSays (word_and_rest form rest) made → bytes_eq word form ≡ true → IsSaid (Some made)
  one-form form {made} says same is =
      let edit : made ≡ c = cc in
      subst (LineSays (word_and_rest word rest)) edit (subst (λ w. LineSays (word_and_rest w rest) made) (sym ((bytes_eq-Decides word form).0 same)) says)

  text-says : (n : ℕ) (text : List ℕ) → NumberThenText rest n text → IsSaid (change_of_text word n text)
  text-says n text r =
      if_both IsSaid (bytes_eq word (codes "name")) _ _ (one-form (codes "name") (name_line r))
      (λ _. if_both IsSaid (bytes_eq word (codes "text")) _ _ (one-form (codes "text") (text_line r))
      (λ _. if_both IsSaid (bytes_eq word (codes "comment")) _ _ (one-form (codes "comment") (comment_line r))
      (λ _. if_both IsSaid (bytes_eq word (codes "set")) _ _ (one-form (codes "set") (set_line r (word-cut text)))
      (λ _. if_both IsSaid (bytes_eq word (codes "flag")) _ _ (one-form (codes "flag") (flag_line r))
      (λ _. if_both IsSaid (bytes_eq word (codes "unset")) _ _ (one-form (codes "unset") (unset_line r))
      (λ _. if_both IsSaid (bytes_eq word (codes "bare")) _ _ (one-form (codes "bare") (bare_line r))
      (λ _ is. absurd (none-some is))))))))

  numbers-say : (n m : ℕ) → TwoNumbers rest n m → IsSaid (change_of_numbers word n m)
  numbers-say n m r =
      if_both IsSaid (bytes_eq word (codes "push")) _ _ (one-form (codes "push") (push_line r))
      (λ _. if_both IsSaid (bytes_eq word (codes "pull")) _ _ (one-form (codes "pull") (pull_line r))
      (λ _. if_both IsSaid (bytes_eq word (codes "root")) _ _ (one-form (codes "root") (root_line r))
      (λ _ is. absurd (none-some is))))

  either-says : (n : ℕ) (text : List ℕ) → NumberThenText rest n text → (o : Option Change) → change_of_text word n text ≡ o →
      (second : Option ℕ) → number_of text ≡ second → IsSaid (option_or o (option_and_then (λ m. change_of_numbers word n m) second))
  either-says n text r (Some d) e second f is = text-says n text r (e ∙ is)
  either-says n text r None e None f is = absurd (none-some is)
  either-says n text r None e (Some m) f is = numbers-say n m (numbers-parts r (number-there text m f)) is

form-says : (word rest : List ℕ) (c : Change) → change_by_word word rest ≡ Some c → LineSays (word_and_rest word rest) c
form-says word rest c h =
    let got = text-there (change_of_word word) rest c h in
    either-says word rest c got.0 got.1 got.2 (change_of_text word got.0 got.1) refl (number_of got.1) refl got.3

-- without a space there is no number
alone-none : (word : List ℕ) → change_by_word word [] ≡ None
alone-none word = refl

cut-says : {line word rest : List ℕ} (c : Change) → KeyThenValue line word rest → change_by_word word rest ≡ Some c → LineSays line c
cut-says c (key_alone {key = word} h) is = absurd (none-some (sym (alone-none word) ∙ is))
cut-says c (key_and_value {key = word} {value = rest} h) is = form-says word rest c is

pub line-only : (line : List ℕ) (c : Change) → LineSays line c ↔ (change_of_line line ≡ Some c)
line-only line c = (says-is, cut-says c (word-cut line))

pub line-none : (line : List ℕ) → ((c : Change) → LineSays line c → ⊥) ↔ (change_of_line line ≡ None)
line-none line = (λ h. by h (change_of_line line) refl, λ e c r. none-some (sym e ∙ says-is r))
  where
    by : ((c : Change) → LineSays line c → ⊥) → (o : Option Change) → change_of_line line ≡ o → o ≡ None
    by h None e = refl
    by h (Some c) e = absurd (h c ((line-only line c).1 e))

-- texts

not_empty : (line : List ℕ) (c : Change) → change_of_line line ≡ Some c → has_bytes line ≡ true
not_empty [] c h = absurd (none-some h)
not_empty (b ∷ line) c h = refl

no_feeds : (line : List ℕ) → All (λ b. b ≢ 10) line → All (λ b. is_line_feed b ≡ false) line
no_feeds line h = All-weaker (λ b. b ≢ 10) (λ b. is_line_feed b ≡ false) not_feed line h

text-says-is : {text : List ℕ} {cs : List Change} → TextSays text cs → parse_changes text ≡ Some cs
text-says-is no_line = refl
text-says-is (last_line {line = line} {c = c} h r) =
    let is = says-is r in
    ap changes_of_lines (slice_split_none is_line_feed line (no_feeds line h)) ∙ changes_of_lines-cons line [] c [] (not_empty line c is) is refl
text-says-is (empty_line r) = text-says-is r
text-says-is (next_line {line = line} {text = text} {c = c} {cs = cs} h r s) =
    let is = says-is r in
    ap changes_of_lines (slice_split_at is_line_feed line 10 text (no_feeds line h) refl)
    ∙ changes_of_lines-cons line (slice_split is_line_feed text) c cs (not_empty line c is) is (text-says-is s)

-- a text and its lines
data Lines : List ℕ → List (List ℕ) → Type 0 where
  one : {line : List ℕ} → All (λ b. b ≢ 10) line → Lines line (line ∷ [])
  more : {line text : List ℕ} {lines : List (List ℕ)} → All (λ b. b ≢ 10) line → Lines text lines → Lines (line ++ 10 ∷ text) (line ∷ lines)

lines-cons : (b : ℕ) {text : List ℕ} {lines : List (List ℕ)} → b ≢ 10 → Lines text lines → Lines (b ∷ text) (onto_first b lines)
lines-cons b h (one {line = line} r) = one (All-cons (λ b. b ≢ 10) b line h r)
lines-cons b h (more {line = line} r s) = more (All-cons (λ b. b ≢ 10) b line h r) s

lines-of : (text : List ℕ) → Lines text (slice_split is_line_feed text)
lines-of [] = one (All-nil (λ b. b ≢ 10))
lines-of (b ∷ text) = by (lines-of text)
  where
    by : Lines text (slice_split is_line_feed text) → Lines (b ∷ text) (slice_split is_line_feed (b ∷ text))
    by later = if_both (Lines (b ∷ text)) (is_line_feed b) ([] ∷ slice_split is_line_feed text) (onto_first b (slice_split is_line_feed text))
        (λ e. subst (λ b. Lines (b ∷ text) ([] ∷ slice_split is_line_feed text)) (sym (eqb-true b 10 e)) (more (All-nil (λ b. b ≢ 10)) later))
        (λ e. lines-cons b (eqb-false b 10 e) later)

first-says : (o : Option Change) (os : List (Option Change)) (cs : List Change) → all_some (o ∷ os) ≡ Some cs →
    (c : Change) × (ds : List Change) × (o ≡ Some c) × (all_some os ≡ Some ds) × (c ∷ ds ≡ cs)
first-says None os cs is = absurd (none-some is)
first-says (Some c) os cs is = by (all_some os) refl is
  where
    by : (q : Option (List Change)) → all_some os ≡ q → option_map (λ ds. c ∷ ds) q ≡ Some cs →
        (d : Change) × (ds : List Change) × (Some c ≡ Some d) × (all_some os ≡ Some ds) × (d ∷ ds ≡ cs)
    by None e same = absurd (none-some same)
    by (Some ds) e same = (c, ds, refl, e, cc)

lines-say : {text : List ℕ} {lines : List (List ℕ)} → Lines text lines → (cs : List Change) → changes_of_lines lines ≡ Some cs → TextSays text cs
lines-say (one {line = []} h) cs is = let same : [] ≡ cs = cc in subst (TextSays []) same no_line
lines-say (one {line = b ∷ line} h) cs is =
    let first = first-says (change_of_line (b ∷ line)) [] cs is in
    let same : first.0 ∷ [] ≡ cs = cc in
    subst (TextSays (b ∷ line)) same (last_line h ((line-only (b ∷ line) first.0).1 first.2))
lines-say (more {line = []} h r) cs is = empty_line (lines-say r cs is)
lines-say (more {line = b ∷ line} {text = text} {lines = lines} h r) cs is =
    let first = first-says (change_of_line (b ∷ line)) (map change_of_line (filter has_bytes lines)) cs is in
    subst (TextSays (b ∷ line ++ 10 ∷ text)) first.4 (next_line h ((line-only (b ∷ line) first.0).1 first.2) (lines-say r first.1 first.3))

pub text-only : (text : List ℕ) (cs : List Change) → TextSays text cs ↔ (parse_changes text ≡ Some cs)
text-only text cs = (text-says-is, lines-say (lines-of text) cs)

pub text-none : (text : List ℕ) → ((cs : List Change) → TextSays text cs → ⊥) ↔ (parse_changes text ≡ None)
text-none text = (λ h. by h (parse_changes text) refl, λ e cs r. none-some (sym e ∙ text-says-is r))
  where
    by : ((cs : List Change) → TextSays text cs → ⊥) → (o : Option (List Change)) → parse_changes text ≡ o → o ≡ None
    by h None e = refl
    by h (Some cs) e = absurd (h cs (lines-say (lines-of text) cs e))

pub ruleset laws = (line-only, line-none, text-only, text-none)
