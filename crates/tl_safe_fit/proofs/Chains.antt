-- A word is found along the links of its slot.
use Rattle.std.proofs.Common.{◌≡◌, ◌+◌, ◌<◌, ◌≤◌, ◌==◌, ◌||◌, ℕ, zero, suc, Bool, true, false, cond, List, [], ◌∷◌, ◌++◌, length, take, slice_index, slice_index_or, refl, sym, ap, subst, ◌∙◌, arith, inl, inr, slice_set, replicate}
use Rattle.std.specs.Str.{bytes_eq}
use Rattle.std.proofs.lemmas.Bool.{eq-eqb, eqb-true, eqb-false, ne_eqb}
use Rattle.std.proofs.Math.Bool.{or-false}
use Rattle.std.proofs.lemmas.Bool.{cases_eq, cases_lt}
use Rattle.std.proofs.lemmas.List.{get_or_append_left, get_or_push, get_or-set_same, get_or-set_other, length_push, take_all, length-set, length-replicate, get_or-replicate}
use Rattle.std.proofs.lemmas.List.Folds.{list_any_more}
use Rattle.std.proofs.lemmas.Slice.Eq.{bytes_eq-Decides}
use Rattle.tl_safe_fit.specs.Linked.{latest, slot_of}
use Rattle.tl_safe_fit.specs.Words.{is_among}

-- words that come later change nothing
pub latest-more : (words more : List (List ℕ)) (slot n : ℕ) → n ≤ length words → latest (words ++ more) slot n ≡ latest words slot n
latest-more words more slot zero h = refl
latest-more words more slot (suc n) h =
    let at : slice_index_or (words ++ more) n [] ≡ slice_index_or words n [] = get_or_append_left words more [] n (omega arith) in
    let rest : latest (words ++ more) slot n ≡ latest words slot n = latest-more words more slot n (omega arith) in
    rw (at, rest) refl

within_step : (b : Bool) (n m : ℕ) → m ≤ n → cond b (suc n) m ≤ suc n
within_step true n m h = omega arith
within_step false n m h = omega arith

pub latest-within : (words : List (List ℕ)) (slot n : ℕ) → latest words slot n ≤ n
latest-within words slot zero = omega arith
latest-within words slot (suc n) =
    within_step (slot_of (slice_index_or words n []) == slot) n (latest words slot n) (latest-within words slot n)

slot_step : (words : List (List ℕ)) (slot n k : ℕ) (b : Bool) → (slot_of (slice_index_or words n []) == slot) ≡ b
    → (latest words slot n ≡ suc k → slot_of (slice_index_or words k []) ≡ slot)
    → cond b (suc n) (latest words slot n) ≡ suc k → slot_of (slice_index_or words k []) ≡ slot
slot_step words slot n k true t later e =
    let same : n ≡ k = omega (arith, e) in
    subst (λ (i : ℕ). slot_of (slice_index_or words i []) ≡ slot) same (eqb-true _ _ t)
slot_step words slot n k false t later e = later e

-- the word that a slot leads to is of that slot
pub latest-slot : (words : List (List ℕ)) (slot n k : ℕ) → latest words slot n ≡ suc k → slot_of (slice_index_or words k []) ≡ slot
latest-slot words slot zero k e = absurd (omega (arith, e))
latest-slot words slot (suc n) k e =
    slot_step words slot n k (slot_of (slice_index_or words n []) == slot) refl (latest-slot words slot n k) e

-- a word of another slot is another word
other_word : (word own : List ℕ) (b : Bool) → bytes_eq word own ≡ b → (slot_of own ≡ slot_of word → ⊥) → b ≡ false
other_word word own true e other = absurd (other (ap slot_of (sym ((bytes_eq-Decides word own).0 e))))
other_word word own false e other = refl

among_more : (words : List (List ℕ)) (word : List ℕ) (n : ℕ) → n < length words → bytes_eq word (slice_index_or words n []) ≡ false
    → is_among (take (suc n) words) word ≡ is_among (take n words) word
among_more words word n h e =
    let one : suc n ≡ n + 1 = omega arith in
    ap (λ (k : ℕ). is_among (take k words) word) one ∙ list_any_more (bytes_eq word) words n [] h
    ∙ ap (λ (b : Bool). is_among (take n words) word || b) e ∙ or-false (is_among (take n words) word)

among_step : (words : List (List ℕ)) (word : List ℕ) (n : ℕ) (b : Bool) → (slot_of (slice_index_or words n []) == slot_of word) ≡ b → n < length words
    → is_among (take n words) word ≡ is_among (take (latest words (slot_of word) n) words) word
    → is_among (take (suc n) words) word ≡ is_among (take (cond b (suc n) (latest words (slot_of word) n)) words) word
among_step words word n true t h later = refl
among_step words word n false t h later =
    among_more words word n h (other_word word (slice_index_or words n []) _ refl (eqb-false _ _ t)) ∙ later

-- among the first words is a word where it is among those up to the last one of its slot
pub among_latest : (words : List (List ℕ)) (word : List ℕ) (n : ℕ) → n ≤ length words
    → is_among (take n words) word ≡ is_among (take (latest words (slot_of word) n) words) word
among_latest words word zero h = refl
among_latest words word (suc n) h =
    among_step words word n (slot_of (slice_index_or words n []) == slot_of word) refl (omega arith) (among_latest words word n (omega arith))

-- a search along the links of a word's slot has come to a link
pub record Reached (words : List (List ℕ)) (word : List ℕ) (link : ℕ) : Type 0 where
  pub within : link ≤ length words
  pub same : is_among words word ≡ is_among (take link words) word
  pub in_slot : (k : ℕ) → link ≡ suc k → slot_of (slice_index_or words k []) ≡ slot_of word

pub first_reached : (words : List (List ℕ)) (word : List ℕ) (link : ℕ) → link ≡ latest words (slot_of word) (length words) → Reached words word link
first_reached words word link e =
    let at : Reached words word (latest words (slot_of word) (length words)) = record {
      within = latest-within words (slot_of word) (length words);
      same = ap (λ (ws : List (List ℕ)). is_among ws word) (sym (take_all (length words) words (omega arith)))
          ∙ among_latest words word (length words) (omega arith);
      in_slot = latest-slot words (slot_of word) (length words);
    } in
    subst (λ (n : ℕ). Reached words word n) (sym e) at

pub next_reached : (words : List (List ℕ)) (word : List ℕ) (link place before : ℕ) → Reached words word link → link ≡ suc place
    → bytes_eq word (slice_index_or words place []) ≡ false → before ≡ latest words (slot_of (slice_index_or words place [])) place
    → Reached words word before
next_reached words word link place before r e other is =
    let short : place < length words = omega (arith, r.within, e) in
    let slot : before ≡ latest words (slot_of word) place =
    is ∙ ap (λ (s : ℕ). latest words s place) (r.in_slot place e) in
    let at : Reached words word (latest words (slot_of word) place) = record {
      within = omega (arith, latest-within words (slot_of word) place);
      same = r.same ∙ ap (λ (n : ℕ). is_among (take n words) word) e ∙ among_more words word place short other
          ∙ among_latest words word place (omega arith);
      in_slot = latest-slot words (slot_of word) place;
    } in
    subst (λ (n : ℕ). Reached words word n) (sym slot) at

-- the links of so many words
pub record AreLed (words : List (List ℕ)) (links heads : List ℕ) : Type 0 where
  pub slots : length heads ≡ 64
  pub count : length links ≡ length words
  pub from_heads : (slot : ℕ) → slot < 64 → slice_index heads slot ≡ latest words slot (length words)
  pub linked : (k : ℕ) → k < length words → slice_index links k ≡ latest words (slot_of (slice_index_or words k [])) k

latest-push : (words : List (List ℕ)) (word : List ℕ) (slot n : ℕ) → length words ≡ n
    → latest (words ++ word ∷ []) slot (suc n) ≡ cond (slot_of word == slot) (suc n) (latest words slot n)
latest-push words word slot n e =
    let at : slice_index_or (words ++ word ∷ []) n [] ≡ word = get_or_push words word [] n e in
    let rest : latest (words ++ word ∷ []) slot n ≡ latest words slot n = latest-more words (word ∷ []) slot n (omega (arith, e)) in
    rw (at, rest) refl

pub led_push : (words : List (List ℕ)) (links heads : List ℕ) (word : List ℕ) (before : ℕ) → AreLed words links heads
    → slot_of word < 64 → before ≡ slice_index heads (slot_of word)
    → AreLed (words ++ word ∷ []) (links ++ before ∷ []) (slice_set heads (slot_of word) (suc (length words)))
led_push words links heads word before led small e =
    let n = length words in
    let longer : length (words ++ word ∷ []) ≡ suc n = length_push words word ∙ (let one : n + 1 ≡ suc n = omega arith in one) in
    let longer_links : length (links ++ before ∷ []) ≡ suc n =
    length_push links before ∙ (let one : length links + 1 ≡ suc n = omega (arith, led.count) in one) in
    record {
      slots = length-set heads (slot_of word) (suc n) ∙ led.slots;
      count = longer_links ∙ sym longer;
      from_heads = λ slot below.
          let all = latest-push words word slot n refl in
          let goal : (slice_index (slice_set heads (slot_of word) (suc n)) slot ≡ latest (words ++ word ∷ []) slot (suc n)) = elim (cases_eq slot (slot_of word)) [
            | inl same ↦
                (let at : slice_index (slice_set heads (slot_of word) (suc n)) (slot_of word) ≡ suc n =
                get_or-set_same heads (slot_of word) (suc n) 0 (omega (arith, led.slots, small)) in
                ap (λ (i : ℕ). slice_index (slice_set heads (slot_of word) (suc n)) i) same ∙ at
                ∙ sym (all ∙ ap (λ (b : Bool). cond b (suc n) (latest words slot n)) (eq-eqb (slot_of word) slot (sym same))))
            | inr other ↦
                get_or-set_other heads (slot_of word) slot (suc n) 0 other ∙ led.from_heads slot below
                ∙ sym (all ∙ ap (λ (b : Bool). cond b (suc n) (latest words slot n)) (ne_eqb (slot_of word) slot (λ back. other (sym back))))
          ] in
          goal ∙ ap (λ (k : ℕ). latest (words ++ word ∷ []) slot k) (sym longer);
      linked = λ k below. elim (cases_lt k n) [
        | inl less ↦
            (let at : slice_index_or (words ++ word ∷ []) k [] ≡ slice_index_or words k [] = get_or_append_left words (word ∷ []) [] k less in
            get_or_append_left links (before ∷ []) 0 k (omega (arith, led.count)) ∙ led.linked k less
            ∙ sym (latest-more words (word ∷ []) (slot_of (slice_index_or (words ++ word ∷ []) k [])) k (omega arith)
            ∙ ap (λ (w : List ℕ). latest words (slot_of w) k) at))
        | inr ge ↦
            (let last : k ≡ n = omega (arith, longer, below, ge) in
            let at : slice_index_or (words ++ word ∷ []) k [] ≡ word = get_or_push words word [] k (sym last) in
            get_or_push links before 0 k (led.count ∙ sym last) ∙ e ∙ led.from_heads (slot_of word) small
            ∙ ap (λ (i : ℕ). latest words (slot_of word) i) (sym last)
            ∙ sym (latest-more words (word ∷ []) (slot_of (slice_index_or (words ++ word ∷ []) k [])) k (omega arith)
            ∙ ap (λ (w : List ℕ). latest words (slot_of w) k) at))
      ];
    }
