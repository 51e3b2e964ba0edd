-- Line feeds at the ends of lines, in texts that stand before others.
use Rattle.std.proofs.Common.{◌≡◌, ℕ, Bool, true, false, not, ◌&&◌, ◌==◌, List, [], ◌∷◌, ◌++◌, refl, ap, ◌∙◌, if◌then◌else◌}
use Rattle.std.specs.List.{list_all}
use Rattle.std.proofs.lemmas.Bool.{and_from, and_parts, and_right, not-true}
use Rattle.tl_html_spec.specs.HtmlTokenizer.{with_feeds}

abbrev pub is_no_return : ℕ → Bool
is_no_return b = not (b == 13)

-- a byte that is no return stays
pub feed-byte : (b : ℕ) (s : List ℕ) → (b == 13) ≡ false → with_feeds (b ∷ s) ≡ b ∷ with_feeds s
feed-byte b [] e = ap (λ (x : Bool). (if x then 10 else b) ∷ []) e
feed-byte b (c ∷ s) e =
    ap (λ (x : Bool). if x && (c == 10) then with_feeds (c ∷ s) else (if x then 10 else b) ∷ with_feeds (c ∷ s)) e

pub feed-word : (w s : List ℕ) → list_all is_no_return w ≡ true → with_feeds (w ++ s) ≡ w ++ with_feeds s
feed-word [] s h = refl
feed-word (b ∷ w) s h =
    let here = and_parts (is_no_return b) (list_all is_no_return w) h in
    feed-byte b (w ++ s) (not-true (b == 13) here.0) ∙ ap (λ x. b ∷ x) (feed-word w s here.1)

chosen-append : (x : Bool) (c : ℕ) (s t : List ℕ) → (if x then s ++ t else c ∷ (s ++ t)) ≡ (if x then s else c ∷ s) ++ t
chosen-append true c s t = refl
chosen-append false c s t = refl

-- a text before a byte that is no line feed
pub feed-before : (s : List ℕ) (c : ℕ) (t : List ℕ) → (c == 10) ≡ false → with_feeds (s ++ c ∷ t) ≡ with_feeds s ++ with_feeds (c ∷ t)
feed-before [] c t e = refl
feed-before (b ∷ []) c t e =
    ap (λ (x : Bool). if x then with_feeds (c ∷ t) else (if b == 13 then 10 else b) ∷ with_feeds (c ∷ t)) (and_right (b == 13) (c == 10) e)
feed-before (b ∷ d ∷ s) c t e =
    ap (λ x. if (b == 13) && (d == 10) then x else (if b == 13 then 10 else b) ∷ x) (feed-before (d ∷ s) c t e)
    ∙ chosen-append ((b == 13) && (d == 10)) (if b == 13 then 10 else b) (with_feeds (d ∷ s)) (with_feeds (c ∷ t))

-- what holds of each byte and of a line feed

fed : (test : ℕ → Bool) → test 10 ≡ true → (b : ℕ) (x : Bool) → test b ≡ true → test (if x then 10 else b) ≡ true
fed test f b true h = f
fed test f b false h = h

chosen-all : (test : ℕ → Bool) (x : Bool) (c : ℕ) (s : List ℕ) → test c ≡ true → list_all test s ≡ true → list_all test (if x then s else c ∷ s) ≡ true
chosen-all test true c s h k = k
chosen-all test false c s h k = and_from (test c) (list_all test s) h k

pub feed-all : (test : ℕ → Bool) → test 10 ≡ true → (s : List ℕ) → list_all test s ≡ true → list_all test (with_feeds s) ≡ true
feed-all test f [] h = refl
feed-all test f (b ∷ []) h =
    and_from (test (if b == 13 then 10 else b)) true (fed test f b (b == 13) (and_parts (test b) true h).0) refl
feed-all test f (b ∷ d ∷ s) h =
    let here = and_parts (test b) (list_all test (d ∷ s)) h in
    chosen-all test ((b == 13) && (d == 10)) (if b == 13 then 10 else b) (with_feeds (d ∷ s)) (fed test f b (b == 13) here.0) (feed-all test f (d ∷ s) here.1)
