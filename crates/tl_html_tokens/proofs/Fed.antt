-- Line feeds at the ends of lines, in a text that is read byte by byte.
use Rattle.std.proofs.Common.{◌≡◌, ℕ, Bool, true, false, ◌&&◌, ◌==◌, List, [], ◌∷◌, ◌++◌, refl, ap, sym, ◌∙◌, append_assoc, append-nil}
use Rattle.std.proofs.lemmas.Bool.{and_parts, eqb-true}
use Rattle.tl_html_spec.specs.HtmlTokenizer.{with_feeds}
use Rattle.tl_html_spec.specs.Reader.{feed}
use Rattle.tl_html_spec.proofs.Fold.{all_stays, feeds_cons, without_feed}

-- bytes, after whose last one a line feed may be passed over, are read as these
abbrev pub IsFed : List ℕ → Bool → List ℕ → Type 0
IsFed bytes v z = (rest : List ℕ) → with_feeds (bytes ++ rest) ≡ z ++ with_feeds (without_feed v rest)

pub fed_one : (b : ℕ) → IsFed (b ∷ []) (b == 13) (feed b ∷ [])
fed_one b rest = feeds_cons b rest

stays : (v : Bool) (b : ℕ) (rest : List ℕ) → (v && (b == 10)) ≡ false → without_feed v (b ∷ rest) ≡ b ∷ rest
stays v b rest h = rw h refl

goes : (v : Bool) (b : ℕ) (rest : List ℕ) → (v && (b == 10)) ≡ true → without_feed v (b ∷ rest) ≡ without_feed (b == 13) rest
goes v b rest h =
    let no : (b == 13) ≡ false = ap (λ c. c == 13) (eqb-true b 10 (and_parts v (b == 10) h).1) in
    rw (h, no) (sym (all_stays rest))

pub fed_more : (bytes : List ℕ) (v : Bool) (z : List ℕ) (b : ℕ) → IsFed bytes v z → (v && (b == 10)) ≡ false → IsFed (bytes ++ b ∷ []) (b == 13) (z ++ feed b ∷ [])
fed_more bytes v z b h n rest =
    ap with_feeds (append_assoc bytes (b ∷ []) rest)
    ∙ h (b ∷ rest)
    ∙ ap (λ s. z ++ with_feeds s) (stays v b rest n)
    ∙ ap (λ s. z ++ s) (feeds_cons b rest)
    ∙ sym (append_assoc z (feed b ∷ []) (with_feeds (without_feed (b == 13) rest)))

pub fed_passed : (bytes : List ℕ) (v : Bool) (z : List ℕ) (b : ℕ) → IsFed bytes v z → (v && (b == 10)) ≡ true → IsFed (bytes ++ b ∷ []) (b == 13) z
fed_passed bytes v z b h y rest =
    ap with_feeds (append_assoc bytes (b ∷ []) rest)
    ∙ h (b ∷ rest)
    ∙ ap (λ s. z ++ with_feeds s) (goes v b rest y)

pub fed_whole : (bytes : List ℕ) (v : Bool) (z : List ℕ) → IsFed bytes v z → with_feeds bytes ≡ z
fed_whole bytes v z h = ap with_feeds (sym (append-nil bytes)) ∙ h [] ∙ append-nil z

pub fed_before : (bytes : List ℕ) (v : Bool) (z : List ℕ) (b : ℕ) (t : List ℕ) → IsFed bytes v z → (v && (b == 10)) ≡ false →
    with_feeds (bytes ++ b ∷ t) ≡ with_feeds bytes ++ with_feeds (b ∷ t)
fed_before bytes v z b t h n = h (b ∷ t) ∙ ap (λ s. z ++ with_feeds s) (stays v b t n) ∙ ap (λ s. s ++ with_feeds (b ∷ t)) (sym (fed_whole bytes v z h))
