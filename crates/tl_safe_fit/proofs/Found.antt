-- The rows of an index, as a search along them has it.
use Rattle.std.proofs.Common.{◌≡◌, ◌+◌, ◌-◌, ◌<◌, ℕ, suc, true, false, List, [], ◌∷◌, ◌++◌, length, take, slice_index, slice_index_or, slice_set, sym, ap, subst, ◌∙◌, arith}
use Rattle.std.specs.Borrow.{Bor}
use Rattle.std.specs.Str.{bytes_eq}
use Rattle.std.proofs.lemmas.List.{get_or_read, get_or-map, length-map, map-append, map_more, length_push}
use Rattle.std.proofs.lemmas.List.Folds.{list_any_at}
use Rattle.tl_safe_fit.specs.Linked.{latest, slot_of}
use Rattle.tl_safe_fit.specs.Rows.{AreHeads, AreLinked, links_in, words_in}
use Rattle.tl_safe_fit.specs.Words.{is_among, words_of}
use Rattle.tl_safe_fit.specs.declared.words.row.Row.{Row}
use Rattle.tl_safe_fit.proofs.Chains.{AreLed, Reached, first_reached, latest-within, led_push, next_reached}

word_at : (rows : List Row) (k : ℕ) (r : Row) → k < length rows → r ≡ slice_index_or rows k r → slice_index_or (words_in rows) k [] ≡ r.word.now
word_at rows k r h e = get_or-map (λ (x : Row). x.word.now) rows k r [] h ∙ ap (λ (x : Row). x.word.now) (sym e)

link_at : (rows : List Row) (k : ℕ) (r : Row) → k < length rows → r ≡ slice_index_or rows k r → slice_index (links_in rows) k ≡ r.before
link_at rows k r h e = get_or-map (λ (x : Row). x.before) rows k r 0 h ∙ ap (λ (x : Row). x.before) (sym e)

count : (rows : List Row) → length (words_in rows) ≡ length rows
count rows = length-map rows (λ (x : Row). x.word.now)

pub reached_first : (rows : List Row) (heads : List ℕ) (word : List ℕ) (slot link : ℕ) → AreHeads rows heads → length heads ≡ 64
    → slot ≡ slot_of word → slot < 64 → link ≡ slice_index_or heads slot link → Reached (words_in rows) word link
reached_first rows heads word slot link are slots same small e =
    first_reached (words_in rows) word link
    (get_or_read heads slot link (omega arith) e 0 ∙ are slot small ∙ ap (λ (s : ℕ). latest (words_in rows) s (length rows)) same
    ∙ ap (λ (n : ℕ). latest (words_in rows) (slot_of word) n) (sym (count rows)))

module _ (rows : List Row) (word : List ℕ) (link : ℕ) (r : Row) (reached : Reached (words_in rows) word link) (some : 0 < link) (e : r ≡ slice_index_or rows (link - 1) r) where
  within : link - 1 < length rows
  within = omega (arith, reached.within, count rows, some)

  pub place_within : link - 1 < length rows
  place_within = within

  pub found : bytes_eq word r.word.now ≡ true → true ≡ is_among (words_in rows) word
  found h =
      sym (list_any_at (bytes_eq word) (words_in rows) (link - 1) [] (omega (arith, within, count rows))
      (ap (bytes_eq word) (word_at rows (link - 1) r within e) ∙ h))

  before_is : AreLinked rows → r.before ≡ latest (words_in rows) (slot_of (slice_index_or (words_in rows) (link - 1) [])) (link - 1)
  before_is are = sym (link_at rows (link - 1) r within e) ∙ are (link - 1) within

  pub reached_next : AreLinked rows → bytes_eq word r.word.now ≡ false → Reached (words_in rows) word r.before
  reached_next are h =
      next_reached (words_in rows) word link (link - 1) r.before reached (omega (arith, some))
      (ap (bytes_eq word) (word_at rows (link - 1) r within e) ∙ h) (before_is are)

  pub falls : AreLinked rows → r.before < link
  falls are =
      omega (arith, some, before_is are, latest-within (words_in rows) (slot_of (slice_index_or (words_in rows) (link - 1) [])) (link - 1))

pub pushed : (rows : List Row) (heads : List ℕ) (r : Row) (after : List Row) (slot len : ℕ) → AreLed (words_in rows) (links_in rows) heads
    → after ≡ rows ++ r ∷ [] → slot ≡ slot_of r.word.now → slot < 64 → r.before ≡ slice_index_or heads slot r.before → len ≡ length after
    → AreLed (words_in after) (links_in after) (slice_set heads slot len)
pushed rows heads r after slot len led is same small e count_is =
    let n = length (words_in rows) in
    let here : AreLed (words_in rows ++ r.word.now ∷ []) (links_in rows ++ r.before ∷ []) (slice_set heads (slot_of r.word.now) (suc n)) =
    led_push (words_in rows) (links_in rows) heads r.word.now r.before led (subst (λ (s : ℕ). s < 64) same small)
    (get_or_read heads slot r.before (omega (arith, led.slots)) e 0 ∙ ap (λ (s : ℕ). slice_index heads s) same) in
    let words : words_in after ≡ words_in rows ++ r.word.now ∷ [] = ap words_in is ∙ map-append (λ (x : Row). x.word.now) rows (r ∷ []) in
    let links : links_in after ≡ links_in rows ++ r.before ∷ [] = ap links_in is ∙ map-append (λ (x : Row). x.before) rows (r ∷ []) in
    let size : len ≡ suc n =
    count_is ∙ sym (count after) ∙ ap length words ∙ length_push (words_in rows) r.word.now ∙ (let one : n + 1 ≡ suc n = omega arith in one) in
    subst (λ (ws : List (List ℕ)). AreLed ws (links_in after) (slice_set heads slot len)) (sym words)
    (subst (λ (ls : List ℕ). AreLed (words_in rows ++ r.word.now ∷ []) ls (slice_set heads slot len)) (sym links)
    (subst (λ (s : ℕ). AreLed (words_in rows ++ r.word.now ∷ []) (links_in rows ++ r.before ∷ []) (slice_set heads s len)) (sym same)
    (subst (λ (k : ℕ). AreLed (words_in rows ++ r.word.now ∷ []) (links_in rows ++ r.before ∷ []) (slice_set heads (slot_of r.word.now) k)) (sym size) here)))

pub words_more : (words : List (Bor (List ℕ))) (rows : List Row) (r : Row) (after : List Row) (i : ℕ) (d : Bor (List ℕ)) → i < length words
    → words_in rows ≡ words_of (take i words) → after ≡ rows ++ r ∷ [] → r.word ≡ slice_index_or words i d
    → words_in after ≡ words_of (take (i + 1) words)
words_more words rows r after i d h so is e =
    ap words_in is ∙ map-append (λ (x : Row). x.word.now) rows (r ∷ []) ∙ ap (λ (ws : List (List ℕ)). ws ++ r.word.now ∷ []) so
    ∙ ap (λ (w : Bor (List ℕ)). words_of (take i words) ++ w.now ∷ []) e
    ∙ sym (map_more (λ (w : Bor (List ℕ)). w.now) words i d h)

pub linked_from : (rows : List Row) (heads : List ℕ) → AreLed (words_in rows) (links_in rows) heads → AreLinked rows
linked_from rows heads led = λ k below. led.linked k (omega (arith, count rows))
