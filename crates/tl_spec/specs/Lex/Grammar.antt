-- Attributes and tokens by cases, one for each row of the grammar, in the words of bytes and what
-- stands after them.
use Rattle.std.specs.Prelude.{◌≡◌, ◌≢◌, ◌⊎◌, ◌<◌, ◌≤◌, ℕ, Bool, true, false, not, ◌==◌, List, [], ◌∷◌, ◌++◌, length, drop, Option, Some, None, codes, ⊤}
use Rattle.std.specs.List.{list_all}
use Rattle.std.specs.Str.{str_eq_ignore_ascii_case}
use Rattle.tl_spec.specs.Lex.ByteClass.{is_blank, is_ident, is_name, is_closing, ends_value, is_quote, less, greater, slash, bang, equals}
use Rattle.tl_spec.specs.Lex.Attribute.{Pair}
use Rattle.tl_spec.specs.Lex.Token.{Token, PlacedToken, Text, End, Comment, Doctype, Start, Nothing}

-- s is empty, or begins with a byte that is not of the class
abbrev pub Stops : (ℕ → Bool) → List ℕ → Type 0
Stops p [] = ⊤
Stops p (b ∷ s) = p b ≡ false

-- the longest run of bytes of the class at the front of s is xs, and rest stands after it
pub record IsRun (p : ℕ → Bool) (s xs rest : List ℕ) : Type 0 where
  pub parts : s ≡ xs ++ rest
  pub inside : list_all p xs ≡ true
  pub stops : Stops p rest

-- xs is all of s up to the first byte of the class or the end, and rest stands from there on
abbrev pub IsUpTo : (ℕ → Bool) → List ℕ → List ℕ → List ℕ → Type 0
IsUpTo p s xs rest = IsRun (λ b. not (p b)) s xs rest

-- s begins with the word
abbrev pub Begins : List ℕ → List ℕ → Type 0
Begins w s = (rest : List ℕ) × (s ≡ w ++ rest)

-- the word stands nowhere in s
abbrev pub IsNowhere : List ℕ → List ℕ → Type 0
IsNowhere w s = (xs ys : List ℕ) → s ≢ xs ++ w ++ ys

-- s ends with the word, and with the first that stands in it
pub record EndsWithFirst (w s : List ℕ) : Type 0 where
  pub ends : (xs : List ℕ) × (s ≡ xs ++ w)
  pub first : (xs ys : List ℕ) → s ≡ xs ++ w ++ ys → ys ≡ []

-- the value at the front of m, after a key and blanks; and what stands from its end on
pub data ValueStands : List ℕ → Option (List ℕ) → List ℕ → Type 0 where
  -- no `=`
  no_value : {m : List ℕ} → Stops (λ b. b == equals) m → ValueStands m None m
  -- `=`, blanks, a quote, and all bytes up to the same quote or the end
  quoted : {s blanks u v e : List ℕ} {q : ℕ} →
      IsRun is_blank s blanks (q ∷ u) → is_quote q ≡ true → IsUpTo (λ b. b == q) u v e →
      ValueStands (equals ∷ s) (Some v) e
  -- `=`, blanks, no quote, and all bytes up to one that ends a value or the end
  bare : {s blanks u v e : List ℕ} →
      IsRun is_blank s blanks u → Stops is_quote u → IsUpTo ends_value u v e →
      ValueStands (equals ∷ s) (Some v) e

-- what stands after an attribute, where e stands from its end on: one byte is passed over, but no
-- `>` and no ident byte
pub data EndPassed : List ℕ → List ℕ → Type 0 where
  at_end : EndPassed [] []
  left : {b : ℕ} {s : List ℕ} → (b ≡ greater) ⊎ (is_ident b ≡ true) → EndPassed (b ∷ s) (b ∷ s)
  passed : {b : ℕ} {s : List ℕ} → b ≢ greater → is_ident b ≡ false → EndPassed (b ∷ s) s

-- an attribute at the front of s: its key, blanks, its value and the byte passed over; and what
-- stands after it
pub data AttributeStands : List ℕ → Pair → List ℕ → Type 0 where
  attribute_parts : {s key a blanks m e rest : List ℕ} {v : Option (List ℕ)} →
      IsRun is_name s key a → IsRun is_blank a blanks m → ValueStands m v e → EndPassed e rest →
      AttributeStands s (key, v) rest

-- attributes at the front of s with blanks after each, up to `/`, `>` or the end; and what stands
-- from there on
pub data AttributesStand : List ℕ → List Pair → List ℕ → Type 0 where
  no_more : AttributesStand [] [] []
  closing : {b : ℕ} {s : List ℕ} → is_closing b ≡ true → AttributesStand (b ∷ s) [] (b ∷ s)
  another : {b : ℕ} {s a blanks after rest : List ℕ} {pair : Pair} {pairs : List Pair} →
      is_closing b ≡ false → AttributeStands (b ∷ s) pair a → IsRun is_blank a blanks after →
      AttributesStand after pairs rest →
      AttributesStand (b ∷ s) (pair ∷ pairs) rest

-- a start tag's name, blanks and attributes, where neither `/` nor `!` stands first; and what
-- stands from their end on
pub data TagStands : List ℕ → List ℕ → List Pair → List ℕ → Type 0 where
  tag_parts : {b : ℕ} {s name a blanks c e : List ℕ} {pairs : List Pair} →
      b ≢ slash → b ≢ bang → IsRun is_name (b ∷ s) name a → IsRun is_blank a blanks c →
      AttributesStand c pairs e →
      TagStands (b ∷ s) name pairs e

-- a word after `!`, where no `--` stands; and what stands after the word and its blanks
pub data WordStands : List ℕ → List ℕ → List ℕ → Type 0 where
  word_parts : {s word a blanks rest : List ℕ} →
      (Begins (codes "--") s → ⊥) → IsRun is_ident s word a → IsRun is_blank a blanks rest →
      WordStands s word rest

-- the token k at the front of m, after `<` and blanks, which are `opening`; and what stands after
-- it
pub data MarkupStands (opening : List ℕ) : List ℕ → Token → List ℕ → Type 0 where
  -- `/`, a name that holds no `>`, and `>` or the end
  end_closed : {s name rest : List ℕ} → IsUpTo (λ b. b == greater) s name (greater ∷ rest) →
      MarkupStands opening (slash ∷ s) (End name) rest
  end_cut : {s name : List ℕ} → IsUpTo (λ b. b == greater) s name [] →
      MarkupStands opening (slash ∷ s) (End name) []
  -- `!`, and a body that begins with `--` and whose first `-->` is its end; the token has all bytes
  -- from the `<` on
  comment_closed : {body rest : List ℕ} →
      Begins (codes "--") body → EndsWithFirst (codes "-->") body →
      MarkupStands opening (bang ∷ body ++ rest) (Comment (opening ++ bang ∷ body)) rest
  -- `!`, then `--`, and no `-->` after the `!`: the token is empty, and takes all
  comment_cut : {s : List ℕ} → Begins (codes "--") s → IsNowhere (codes "-->") s →
      MarkupStands opening (bang ∷ s) (Comment []) []
  -- `!`, the word `doctype` in any case, blanks, a second word, blanks, and one byte where there is
  -- one
  doctype_word : {s word a second b blanks c : List ℕ} →
      WordStands s word a → str_eq_ignore_ascii_case word (codes "doctype") ≡ true →
      IsRun is_ident a second b → IsRun is_blank b blanks c →
      MarkupStands opening (bang ∷ s) (Doctype (str_eq_ignore_ascii_case second (codes "html")))
      (drop 1 c)
  -- a name, attributes, and `>` or `/>`
  start_open : {m name rest : List ℕ} {pairs : List Pair} →
      TagStands m name pairs (greater ∷ rest) → MarkupStands opening m (Start name pairs false) rest
  start_alone : {m name rest : List ℕ} {pairs : List Pair} →
      TagStands m name pairs (slash ∷ greater ∷ rest) →
      MarkupStands opening m (Start name pairs true) rest
  -- nothing: the end; `!` and another word; a name and attributes up to a `/` that no `>` follows,
  -- or up to the end
  no_markup : MarkupStands opening [] Nothing []
  other_word : {s word rest : List ℕ} →
      WordStands s word rest → str_eq_ignore_ascii_case word (codes "doctype") ≡ false →
      MarkupStands opening (bang ∷ s) Nothing rest
  start_slash : {m name rest : List ℕ} {pairs : List Pair} →
      TagStands m name pairs (slash ∷ rest) → Stops (λ b. b == greater) rest →
      MarkupStands opening m Nothing rest
  start_cut : {m name : List ℕ} {pairs : List Pair} → TagStands m name pairs [] →
      MarkupStands opening m Nothing []

-- the token k at the front of t, and what stands after it: a text, not empty, up to the first `<`
-- or the end; or `<`, blanks and markup
pub data TokenStands : List ℕ → Token → List ℕ → Type 0 where
  text_up_to : {t xs rest : List ℕ} → xs ≢ [] → IsUpTo (λ b. b == less) t xs rest →
      TokenStands t (Text xs) rest
  markup_after : {s blanks m rest : List ℕ} {k : Token} →
      IsRun is_blank s blanks m → MarkupStands (less ∷ blanks) m k rest →
      TokenStands (less ∷ s) k rest

-- the token k stands in t from i to j
abbrev pub IsTokenAt : List ℕ → ℕ → Token → ℕ → Type 0
IsTokenAt t i k j = (i < j) × (j ≤ length t) × TokenStands (drop i t) k (drop j t)

-- these stand in t in order, from i to the end
abbrev pub StandFrom : List ℕ → ℕ → List PlacedToken → Type 0
StandFrom t i [] = i ≡ length t
StandFrom t i (k ∷ ks) = (k.from ≡ i) × IsTokenAt t i k.token k.to × StandFrom t k.to ks
