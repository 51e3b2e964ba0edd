-- What the bytes of characters are, character by character.
use Rattle.std.proofs.Common.{◌≡◌, ◌∙◌, ℕ, List, [], ◌∷◌, ◌++◌, Option, Some, None, ap, append-nil, append_assoc, arith, length, false, is_some, refl, sym, true, true≢false}
use Rattle.std.proofs.lemmas.Str.{chars-nil}
use Rattle.std.specs.Str.{chars}
use Rattle.tl_encoding.specs.Encoders.{appended, encoded, encoded_point}
use Rattle.tl_encoding.specs.declared.encoding.Encoding.{Encoding}

-- one row of bytes after another
pub rows : (first second : List ℕ) (rest : Option (List ℕ)) → appended (Some first) (appended (Some second) rest) ≡ appended (Some (first ++ second)) rest
rows first second None = refl
rows first second (Some rest) = ap Some (sym (append_assoc first second rest))

by_point : (own rest : Option (List ℕ)) (done written : List ℕ) → is_some own ≡ true → ((b : List ℕ) → own ≡ Some b → written ≡ done ++ b)
    → appended (Some done) (appended own rest) ≡ appended (Some written) rest
by_point None rest done written there adds = absurd (true≢false (sym there))
by_point (Some b) rest done written there adds = rows done b rest ∙ ap (λ w. appended (Some w) rest) (sym (adds b refl))

-- one more character that the encoding has
pub more : (e : Encoding) (whole : Option (List ℕ)) (points left : List ℕ) (point : ℕ) (done written : List ℕ) → whole ≡ appended (Some done) (encoded e points)
    → points ≡ point ∷ left → is_some (encoded_point e point) ≡ true → ((b : List ℕ) → encoded_point e point ≡ Some b → written ≡ done ++ b)
    → whole ≡ appended (Some written) (encoded e left)
more e whole points left point done written given parts there adds =
    given ∙ ap (λ p. appended (Some done) (encoded e p)) parts ∙ by_point (encoded_point e point) (encoded e left) done written there adds

none_of : (own : Option (List ℕ)) → is_some own ≡ false → own ≡ None
none_of None lacks = refl
none_of (Some b) lacks = absurd (true≢false lacks)

-- one that it lacks
pub lacked : (e : Encoding) (whole : Option (List ℕ)) (points left : List ℕ) (point : ℕ) (done : List ℕ) → whole ≡ appended (Some done) (encoded e points)
    → points ≡ point ∷ left → is_some (encoded_point e point) ≡ false → (encoded_point e point ≡ None) × (whole ≡ None)
lacked e whole points left point done given parts lacks =
    let none = none_of (encoded_point e point) lacks in
    (none, given ∙ ap (λ p. appended (Some done) (encoded e p)) parts ∙ ap (λ own. appended (Some done) (appended own (encoded e left))) none)

-- no more characters
pub ended : (e : Encoding) (whole : Option (List ℕ)) (points : List ℕ) (done : List ℕ) → whole ≡ appended (Some done) (encoded e points) → points ≡ [] → whole ≡ Some done
ended e whole points done given none = given ∙ ap (λ p. appended (Some done) (encoded e p)) none ∙ ap Some (append-nil done)

by_nothing : (rest : Option (List ℕ)) → rest ≡ appended (Some []) rest
by_nothing None = refl
by_nothing (Some rest) = refl

apart : (own front rest : Option (List ℕ)) → appended own (appended front rest) ≡ appended (appended own front) rest
apart None front rest = refl
apart (Some b) None rest = refl
apart (Some b) (Some s) rest = rows b s rest

-- a text without bytes has no characters
pub no_chars : (text : List ℕ) → length text ≡ 0 → chars text ≡ []
no_chars [] none = chars-nil
no_chars (b ∷ text) none = absurd (omega (arith, none))

-- the bytes of a text are those of its parts
pub parts : (e : Encoding) (points more : List ℕ) → encoded e (points ++ more) ≡ appended (encoded e points) (encoded e more)
parts e [] more = by_nothing (encoded e more)
parts e (point ∷ points) more = ap (appended (encoded_point e point)) (parts e points more) ∙ apart (encoded_point e point) (encoded e points) (encoded e more)
