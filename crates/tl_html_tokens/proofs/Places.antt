-- Bytes between two places.
use Rattle.std.proofs.Common.{◌≡◌, ◌≤◌, ◌<◌, ℕ, ◌+◌, ◌-◌, false, ◌==◌, List, [], ◌∷◌, ◌++◌, length, length-drop, length-take, drop, take, drop-drop, get_or, refl, ap, sym, ◌∙◌, arith, true≢false}
use Rattle.std.proofs.lemmas.List.{get_or-drop, take-append-drop, take_more}
use Rattle.std.proofs.lemmas.Bool.{cond_both}
use Rattle.tl_html_spec.specs.Reader.{feed}

abbrev pub between : List ℕ → ℕ → ℕ → List ℕ
between t a e = take (e - a) (drop a t)

-- none
pub between_none : (t : List ℕ) (a : ℕ) → between t a a ≡ []
between_none t a = let z : a - a ≡ 0 = omega arith in ap (λ m. take m (drop a t)) z

-- with one byte more
pub between_more : (t : List ℕ) (a e : ℕ) → a ≤ e → e < length t → between t a (e + 1) ≡ between t a e ++ get_or t e 0 ∷ []
between_more t a e h k =
    let n : e + 1 - a ≡ (e - a) + 1 = omega arith in
    let whole = length-drop a t in
    let inside : e - a < length (drop a t) = omega arith in
    let place : a + (e - a) ≡ e = omega arith in
    ap (λ m. take m (drop a t)) n
    ∙ take_more (drop a t) (e - a) 0 inside
    ∙ ap (λ b. take (e - a) (drop a t) ++ b ∷ []) (get_or-drop a t (e - a) 0 ∙ ap (λ m. get_or t m 0) place)

pub between_length : (t : List ℕ) (a e : ℕ) → a ≤ e → e ≤ length t → length (between t a e) ≡ e - a
between_length t a e h k = let whole = length-drop a t in omega (arith, length-take (e - a) (drop a t))

-- up to a place and from there on
pub cut : (t : List ℕ) (a e : ℕ) → a ≤ e → take (e - a) (drop a t) ++ drop e t ≡ drop a t
cut t a e h =
    let sum : a + (e - a) ≡ e = omega arith in
    ap (λ v. take (e - a) (drop a t) ++ v) (ap (λ n. drop n t) (sym sum) ∙ sym (drop-drop (e - a) a t)) ∙ take-append-drop (e - a) (drop a t)

-- what isn't read as a line feed is read as it is
pub feed_plain : (b : ℕ) → (feed b == 10) ≡ false → feed b ≡ b
feed_plain b h =
    cond_both (b == 13) 10 b (λ x. (x == 10) ≡ false → x ≡ b) (λ _ k. absurd (true≢false k)) (λ _ _. refl) h
