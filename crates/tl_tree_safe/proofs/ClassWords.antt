-- Classes that stay.
use Rattle.std.proofs.Common.{All, Bool, List, [], ap, ap₂, cond, drop, eqb-true, false, get_or, length, not, refl, sym, take, take-append-drop, true, true≢false, ℕ, ◌&&◌, ◌+◌, ◌++◌, ◌<◌, ◌==◌, ◌∙◌, ◌∷◌, ◌≡◌, ◌||◌}
use Rattle.std.specs.List.{filter, join_with_byte, list_all, onto_first, slice_split}
use Rattle.std.proofs.lemmas.Bool.{and_from, and_parts, not-true}
use Rattle.std.proofs.lemmas.List.{drop_more}
use Rattle.std.proofs.lemmas.List.Elements.{All-cons, All-nil}
use Rattle.std.proofs.lemmas.List.Folds.{list_all-append}
use Rattle.std.proofs.lemmas.List.Splits.{slice_split_at, slice_split_none}
use Rattle.tl_tree_safe.proofs.Filters.{all_also, filter_all, filter_also, filter_same}
use Rattle.tl_tree_safe.specs.Characters.{is_space, is_word}
use Rattle.tl_tree_safe.specs.Classes.{are_classes, class_words, is_class_of, is_plain_space, kept_classes}

abbrev is_empty_list : List (List ℕ) → Bool
is_empty_list [] = true
is_empty_list (part ∷ parts) = false

-- Words between white space

-- a word ends at the first white space
pub cut_at : (value : List ℕ) (i d : ℕ) → i < length value → is_space (get_or value i d) ≡ true → All (λ x. is_space x ≡ false) (take i value) → class_words value ≡ take i value ∷ class_words (drop (i + 1) value)
cut_at value i d lt e h =
    let b = get_or value i d in
    let parts : value ≡ take i value ++ b ∷ drop (i + 1) value =
    sym (take-append-drop i value) ∙ ap (λ zs. take i value ++ zs) (drop_more value i d lt) in
    ap (slice_split is_space) parts ∙ slice_split_at is_space (take i value) b (drop (i + 1) value) h e

pub uncut : (value : List ℕ) → All (λ x. is_space x ≡ false) value → class_words value ≡ value ∷ []
uncut value h = slice_split_none is_space value h

-- Values that stay as they are

onto : (c b : ℕ) (parts : List (List ℕ)) → join_with_byte c (onto_first b parts) ≡ b ∷ join_with_byte c parts
onto c b [] = refl
onto c b (part ∷ []) = refl
onto c b (part ∷ other ∷ parts) = refl

before : (c : ℕ) (value : List ℕ) → join_with_byte c ([] ∷ slice_split is_space value) ≡ c ∷ join_with_byte c (slice_split is_space value)
before c value = here (slice_split is_space value) (some_part value)
  where
    some_part : (text : List ℕ) → is_empty_list (slice_split is_space text) ≡ false
    some_part [] = refl
    some_part (b ∷ text) = part (is_space b) (slice_split is_space text)
      where
        part : (v : Bool) (parts : List (List ℕ)) → is_empty_list (cond v ([] ∷ parts) (onto_first b parts)) ≡ false
        part true parts = refl
        part false [] = refl
        part false (first ∷ parts) = refl

    here : (parts : List (List ℕ)) → is_empty_list parts ≡ false → join_with_byte c ([] ∷ parts) ≡ c ∷ join_with_byte c parts
    here [] e = absurd (true≢false e)
    here (part ∷ parts) e = refl

-- joined again
rejoined : (value : List ℕ) → list_all is_plain_space value ≡ true → join_with_byte 32 (class_words value) ≡ value
rejoined [] h = refl
rejoined (b ∷ value) h = here (is_space b) (b == 32) refl h (rejoined value)
  where
    here : (s v : Bool) → (b == 32) ≡ v → (not s || v) && list_all is_plain_space value ≡ true
        → (list_all is_plain_space value ≡ true → join_with_byte 32 (class_words value) ≡ value)
        → join_with_byte 32 (cond s ([] ∷ class_words value) (onto_first b (class_words value))) ≡ b ∷ value
    here true true is k rec = before 32 value ∙ ap₂ (λ (x : ℕ) (xs : List ℕ). x ∷ xs) (sym (eqb-true b 32 is)) (rec k)
    here true false is k rec = absurd (true≢false (sym k))
    here false v is k rec = onto 32 b (class_words value) ∙ ap (λ (xs : List ℕ). b ∷ xs) (rec k)

pub classes_same : (patterns : List (List ℕ)) (value : List ℕ) → are_classes patterns value ≡ true → kept_classes patterns value ≡ value
classes_same patterns value h =
    let q = and_parts (list_all (is_class_of patterns) (class_words value)) (list_all is_plain_space value) h in
    ap (join_with_byte 32) (filter_same (is_class_of patterns) (class_words value) q.0) ∙ rejoined value q.1

-- What holds of the characters of words

abbrev is_unspaced : ℕ → Bool
is_unspaced b = not (is_space b)

-- each word has such characters alone
abbrev each_all : (ℕ → Bool) → List (List ℕ) → Bool
each_all test words = list_all (list_all test) words

first_all : (test : ℕ → Bool) (b : ℕ) (words : List (List ℕ)) → test b ≡ true → each_all test words ≡ true → each_all test (onto_first b words) ≡ true
first_all test b [] e h = and_from _ _ (and_from _ _ e refl) refl
first_all test b (word ∷ words) e h =
    let q = and_parts (list_all test word) (each_all test words) h in and_from _ _ (and_from _ _ e q.0) q.1

words_all : (test : ℕ → Bool) (value : List ℕ) → list_all test value ≡ true → each_all test (class_words value) ≡ true
words_all test [] h = refl
words_all test (b ∷ value) h =
    let q = and_parts (test b) (list_all test value) h in here (is_space b) q.0 (words_all test value q.1)
  where
    here : (v : Bool) → test b ≡ true → each_all test (class_words value) ≡ true → each_all test (cond v ([] ∷ class_words value) (onto_first b (class_words value))) ≡ true
    here true e k = k
    here false e k = first_all test b (class_words value) e k

words_unspaced : (value : List ℕ) → each_all is_unspaced (class_words value) ≡ true
words_unspaced [] = refl
words_unspaced (b ∷ value) = here (is_space b) refl (words_unspaced value)
  where
    here : (v : Bool) → is_space b ≡ v → each_all is_unspaced (class_words value) ≡ true → each_all is_unspaced (cond v ([] ∷ class_words value) (onto_first b (class_words value))) ≡ true
    here true e k = k
    here false e k = first_all is_unspaced b (class_words value) (ap not e) k

joined_all : (test : ℕ → Bool) (words : List (List ℕ)) → test 32 ≡ true → each_all test words ≡ true → list_all test (join_with_byte 32 words) ≡ true
joined_all test [] e h = refl
joined_all test (word ∷ []) e h = (and_parts (list_all test word) true h).0
joined_all test (word ∷ other ∷ words) e h =
    let q = and_parts (list_all test word) (each_all test (other ∷ words)) h in
    list_all-append test word (32 ∷ join_with_byte 32 (other ∷ words))
    ∙ and_from _ _ q.0 (and_from _ _ e (joined_all test (other ∷ words) e q.1))

-- what holds of the characters of a value holds of those that stay
pub classes_all : (test : ℕ → Bool) (patterns : List (List ℕ)) (value : List ℕ) → test 32 ≡ true → list_all test value ≡ true → list_all test (kept_classes patterns value) ≡ true
classes_all test patterns value e h =
    joined_all test (filter (is_class_of patterns) (class_words value)) e
    (filter_also (is_class_of patterns) (list_all test) (class_words value) (words_all test value h))

-- What stays is classes

none_spaced : (word : List ℕ) → list_all is_unspaced word ≡ true → All (λ x. is_space x ≡ false) word
none_spaced [] h = All-nil (λ x. is_space x ≡ false)
none_spaced (b ∷ word) h =
    let q = and_parts (is_unspaced b) (list_all is_unspaced word) h in
    All-cons (λ x. is_space x ≡ false) b word (not-true (is_space b) q.0) (none_spaced word q.1)

words_again : (word : List ℕ) (words : List (List ℕ)) → each_all is_unspaced (word ∷ words) ≡ true → class_words (join_with_byte 32 (word ∷ words)) ≡ word ∷ words
words_again word [] h = slice_split_none is_space word (none_spaced word (and_parts (list_all is_unspaced word) true h).0)
words_again word (other ∷ words) h =
    let q = and_parts (list_all is_unspaced word) (each_all is_unspaced (other ∷ words)) h in
    slice_split_at is_space word 32 (join_with_byte 32 (other ∷ words)) (none_spaced word q.0) refl
    ∙ ap (λ (xs : List (List ℕ)). word ∷ xs) (words_again other words q.1)

unspaced_plain : (b : ℕ) → is_unspaced b ≡ true → is_plain_space b ≡ true
unspaced_plain b h = ap (λ v. v || b == 32) h

each_plain : (words : List (List ℕ)) → each_all is_unspaced words ≡ true → each_all is_plain_space words ≡ true
each_plain words h = all_also (list_all is_unspaced) (list_all is_plain_space) words (λ word k. all_also is_unspaced is_plain_space word unspaced_plain k) h

-- one or more, or nothing stays
pub kept_are : (patterns : List (List ℕ)) (value : List ℕ) → not (is_word (kept_classes patterns value)) || are_classes patterns (kept_classes patterns value) ≡ true
kept_are patterns value =
    here (filter (is_class_of patterns) (class_words value))
    (filter_all (is_class_of patterns) (class_words value))
    (filter_also (is_class_of patterns) (list_all is_unspaced) (class_words value) (words_unspaced value))
  where
    or_true : (v : Bool) → v || true ≡ true
    or_true true = refl
    or_true false = refl

    here : (words : List (List ℕ)) → list_all (is_class_of patterns) words ≡ true → each_all is_unspaced words ≡ true
        → not (is_word (join_with_byte 32 words)) || are_classes patterns (join_with_byte 32 words) ≡ true
    here [] h k = refl
    here (word ∷ words) h k =
        ap (λ v. not (is_word (join_with_byte 32 (word ∷ words))) || v)
        (and_from _ _ (ap (list_all (is_class_of patterns)) (words_again word words k) ∙ h) (joined_all is_plain_space (word ∷ words) refl (each_plain (word ∷ words) k)))
        ∙ or_true (not (is_word (join_with_byte 32 (word ∷ words))))

-- and stays as it is
pub kept_again : (patterns : List (List ℕ)) (value : List ℕ) → kept_classes patterns (kept_classes patterns value) ≡ kept_classes patterns value
kept_again patterns value = here (kept_classes patterns value) (kept_are patterns value)
  where
    here : (kept : List ℕ) → not (is_word kept) || are_classes patterns kept ≡ true → kept_classes patterns kept ≡ kept
    here [] h = refl
    here (b ∷ kept) h = classes_same patterns (b ∷ kept) h
