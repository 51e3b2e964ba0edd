-- The words of a value, from the front.
use Rattle.std.proofs.Common.{Bool, List, [], ap, ap₂, arith, cond, drop, false, filter, length, not, refl, subst, suc, sym, take, true, zero, ℕ, ◌+◌, ◌<◌, ◌==◌, ◌∙◌, ◌≡◌, ◌≤◌, ◌∷◌}
use Rattle.std.proofs.lemmas.Bool.{eqb-true}
use Rattle.std.specs.Char.{is_ascii_whitespace}
use Rattle.std.specs.List.{onto_first, prefix_len, slice_split}
use Rattle.tl_tree.specs.Below.{is_filled, words_of}

abbrev pub in-word : ℕ → Bool
in-word b = not (is_ascii_whitespace b)

abbrev filled : List (List ℕ) → List (List ℕ)
filled ws = filter is_filled ws

len-more : (p : ℕ → Bool) (b : ℕ) (bs : List ℕ) → p b ≡ true → prefix_len p (b ∷ bs) ≡ suc (prefix_len p bs)
len-more p b bs e = ap (λ c. cond c (1 + prefix_len p bs) 0) e ∙ omega arith

len-none : (p : ℕ → Bool) (b : ℕ) (bs : List ℕ) → p b ≡ false → prefix_len p (b ∷ bs) ≡ 0
len-none p b bs e = ap (λ c. cond c (1 + prefix_len p bs) 0) e

-- a white byte in front changes no word
after-white : (b : ℕ) (bs : List ℕ) → is_ascii_whitespace b ≡ true → words_of bs ≡ words_of (b ∷ bs)
after-white b bs e = ap (λ c. filled (cond c ([] ∷ slice_split is_ascii_whitespace bs) (onto_first b (slice_split is_ascii_whitespace bs)))) (sym e)

no-more : (p : ℕ → Bool) (bs : List ℕ) → prefix_len p (drop (prefix_len p bs) bs) ≡ 0
no-more p [] = refl
no-more p (b ∷ bs) = one (no-more p bs) (p b) refl
  where
    one : prefix_len p (drop (prefix_len p bs) bs) ≡ 0 → (w : Bool) → p b ≡ w → prefix_len p (drop (prefix_len p (b ∷ bs)) (b ∷ bs)) ≡ 0
    one h true e = ap (λ n. prefix_len p (drop n (b ∷ bs))) (len-more p b bs e) ∙ h
    one h false e = ap (λ n. prefix_len p (drop n (b ∷ bs))) (len-none p b bs e) ∙ len-none p b bs e

-- the split after the first run: its later words
abbrev later : List ℕ → List (List ℕ)
later [] = []
later (b ∷ bs) = slice_split is_ascii_whitespace bs

abbrev split-first : List ℕ → ℕ → List (List ℕ)
split-first bs n = take n bs ∷ later (drop n bs)

first-run : (bs : List ℕ) → slice_split is_ascii_whitespace bs ≡ split-first bs (prefix_len in-word bs)
first-run [] = refl
first-run (b ∷ bs) = one (first-run bs) (is_ascii_whitespace b) refl
  where
    either : Bool → List (List ℕ)
    either c = cond c ([] ∷ slice_split is_ascii_whitespace bs) (onto_first b (slice_split is_ascii_whitespace bs))

    one : slice_split is_ascii_whitespace bs ≡ split-first bs (prefix_len in-word bs) → (w : Bool) → is_ascii_whitespace b ≡ w → slice_split is_ascii_whitespace (b ∷ bs) ≡ split-first (b ∷ bs) (prefix_len in-word (b ∷ bs))
    one h true e = ap either e ∙ ap (split-first (b ∷ bs)) (sym (len-none in-word b bs (ap not e)))
    one h false e = ap either e ∙ ap (onto_first b) h ∙ ap (split-first (b ∷ bs)) (sym (len-more in-word b bs (ap not e)))

later-words : (bs : List ℕ) → prefix_len in-word bs ≡ 0 → filled (later bs) ≡ words_of bs
later-words [] h = refl
later-words (b ∷ bs) h = one (is_ascii_whitespace b) refl
  where
    one : (w : Bool) → is_ascii_whitespace b ≡ w → words_of bs ≡ words_of (b ∷ bs)
    one true e = after-white b bs e
    one false e = absurd (omega (arith, len-more in-word b bs (ap not e), h))

taken : (n : ℕ) (bs : List ℕ) (ws : List (List ℕ)) → 0 < n → n ≤ length bs → filled (take n bs ∷ ws) ≡ take n bs ∷ filled ws
taken zero bs ws h g = absurd (omega arith)
taken (suc n) [] ws h g = absurd (omega arith)
taken (suc n) (b ∷ bs) ws h g = refl

one-word : (bs : List ℕ) (n : ℕ) → n ≡ prefix_len in-word bs → n ≤ length bs → 0 < n → words_of bs ≡ take n bs ∷ words_of (drop n bs)
one-word bs n e h g =
    ap filled (first-run bs)
    ∙ ap (λ m. filled (split-first bs m)) (sym e)
    ∙ taken n bs (later (drop n bs)) g h
    ∙ ap (λ ws. take n bs ∷ ws) (later-words (drop n bs) (ap (λ m. prefix_len in-word (drop m bs)) e ∙ no-more in-word bs))

-- white bytes in front change no word
words-past : (bs : List ℕ) → words_of (drop (prefix_len is_ascii_whitespace bs) bs) ≡ words_of bs
words-past [] = refl
words-past (b ∷ bs) = one (words-past bs) (is_ascii_whitespace b) refl
  where
    one : words_of (drop (prefix_len is_ascii_whitespace bs) bs) ≡ words_of bs → (w : Bool) → is_ascii_whitespace b ≡ w → words_of (drop (prefix_len is_ascii_whitespace (b ∷ bs)) (b ∷ bs)) ≡ words_of (b ∷ bs)
    one h true e = ap (λ n. words_of (drop n (b ∷ bs))) (len-more is_ascii_whitespace b bs e) ∙ h ∙ after-white b bs e
    one h false e = ap (λ n. words_of (drop n (b ∷ bs))) (len-none is_ascii_whitespace b bs e)

none-left : (bs : List ℕ) → prefix_len is_ascii_whitespace bs ≡ 0 → prefix_len in-word bs ≡ 0 → bs ≡ []
none-left [] e f = refl
none-left (b ∷ bs) e f = one (is_ascii_whitespace b) refl
  where
    one : (w : Bool) → is_ascii_whitespace b ≡ w → b ∷ bs ≡ []
    one true g = absurd (omega (arith, len-more is_ascii_whitespace b bs g, e))
    one false g = absurd (omega (arith, len-more in-word b bs (ap not g), f))

-- text whose front is neither white nor in a word has no words
no-words : (bs : List ℕ) (n : ℕ) → prefix_len is_ascii_whitespace bs ≡ 0 → n ≡ prefix_len in-word bs → n ≡ 0 → words_of bs ≡ []
no-words bs n e f g = ap words_of (none-left bs e (sym f ∙ g))

-- what white space is behind
behind-white : (s words : List ℕ) (n : ℕ) → n ≡ prefix_len is_ascii_whitespace s → words ≡ drop n s → (words_of s ≡ words_of words) × (prefix_len is_ascii_whitespace words ≡ 0)
behind-white s words n e back = (
  sym (words-past s) ∙ ap (λ m. words_of (drop m s)) (sym e) ∙ ap words_of (sym back),
  ap (prefix_len is_ascii_whitespace) (back ∙ ap (λ m. drop m s) e) ∙ no-more is_ascii_whitespace s,
)

empty-front : (m : ℕ) (words word : List ℕ) → word ≡ take m words → m ≤ length words → word ≡ [] → m ≡ 0
empty-front zero words word front l e = refl
empty-front (suc m) [] word front l e = absurd (omega arith)
empty-front (suc m) (b ∷ words) word front l e = absurd (let same : b ∷ take m words ≡ [] = sym front ∙ e in let no : ⊥ = cc in no)

pub empty-is : (s : List ℕ) (r : Bool) → r ≡ (length s == 0) → r ≡ true → s ≡ []
empty-is [] r e f = refl
empty-is (b ∷ s) r e f = absurd (let no : ⊥ = cc (eqb-true (suc (length s)) 0 (sym e ∙ f)) in no)

pub filled-is : (s : List ℕ) (r : Bool) → r ≡ (length s == 0) → r ≡ false → 0 < length s
filled-is [] r e f = absurd (let no : ⊥ = cc in no)
filled-is (b ∷ s) r e f = omega arith

pub word-none : (s words word left : List ℕ) (n m : ℕ) → n ≡ prefix_len is_ascii_whitespace s → words ≡ drop n s → m ≡ prefix_len in-word words → m ≤ length words → word ≡ take m words → left ≡ drop m words → word ≡ [] → (words_of s ≡ []) × (words_of left ≡ [])
word-none s words word left n m e back f l front rest none =
    let past = behind-white s words n e back in
    let zero : m ≡ 0 = empty-front m words word front l none in
    let nothing = no-words words m past.1 f zero in (
      past.0 ∙ nothing,
      ap words_of (rest ∙ ap (λ k. drop k words) zero) ∙ nothing,
    )

some-front : (m : ℕ) (words : List ℕ) → 0 < length (take m words) → 0 < m
some-front zero words l = absurd (omega (arith, l))
some-front (suc m) words l = omega arith

pub word-some : (s words word left : List ℕ) (n m : ℕ) → n ≡ prefix_len is_ascii_whitespace s → words ≡ drop n s → m ≡ prefix_len in-word words → m ≤ length words → word ≡ take m words → left ≡ drop m words → 0 < length word → words_of s ≡ word ∷ words_of left
word-some s words word left n m e back f l front rest some =
    let past = behind-white s words n e back in
    let more : 0 < m = some-front m words (subst (λ v. 0 < length v) front some) in
    past.0 ∙ one-word words m f l more ∙ ap₂ (λ (x : List ℕ) y. x ∷ words_of y) (sym front) (sym rest)
