-- The trees that the tokens make.
use Rattle.std.specs.Prelude.{◌≡◌, ◌≢◌, ℕ, zero, suc, Bool, true, false, ◌||◌, List, [], ◌∷◌, length, Option, Some, None, unwrap_or, ⊤}
use Rattle.std.specs.Str.{bytes_eq}
use Rattle.tl_spec.specs.Lex.ByteClass.{is_void}
use Rattle.tl_spec.specs.Lex.Attribute.{Pair}
use Rattle.tl_spec.specs.Lex.AttributeList.{PlainAttributes, attributes_of}
use Rattle.tl_spec.specs.Lex.Token.{Token, PlacedToken, Text, End, Comment, Doctype, Start, Nothing}

-- trees in a row: the first with those after it; a tag with its children; T is what is kept of a
-- tag
pub data Forest (T : Type 0) : Type 0 where
  none : Forest T
  text : List ℕ → Forest T → Forest T
  comment : List ℕ → Forest T → Forest T
  tag : T → Forest T → Forest T → Forest T

-- a tag as it was read, with the span of its raw
pub record SourceTag : Type 0 where
  pub name : List ℕ
  pub attributes : PlainAttributes
  pub from : ℕ
  pub to : ℕ

-- a tag without its place
pub record PlainTag : Type 0 where
  pub name : List ℕ
  pub attributes : PlainAttributes

-- the trees at the front of some tokens, inside one tag or at the top; where the end tag ends that
-- closed the tag, if one did; and the tokens left over
pub record Siblings : Type 0 where
  pub trees : Forest SourceTag
  pub closed_at : Option ℕ
  pub left : List PlacedToken

-- no trees, and no token left over
abbrev pub no_siblings : Siblings
no_siblings = record { trees = none; closed_at = None; left = [] }

-- the siblings with one more tree at the front
abbrev pub with_tree : (Forest SourceTag → Forest SourceTag) → Siblings → Siblings
with_tree tree s = record s { trees = tree s.trees }

-- an end tag closes the tag of its name that encloses it; at the top there is none
abbrev pub closes : List ℕ → Option (List ℕ) → Bool
closes name None = false
closes name (Some enclosing) = bytes_eq name enclosing

-- the start tag that stands where k does
abbrev pub source_tag : PlacedToken → List ℕ → List Pair → SourceTag
source_tag k name pairs = record {
  name = name;
  attributes = attributes_of pairs;
  from = k.from;
  to = k.to;
}

module _ (siblings : Option (List ℕ) → List PlacedToken → Siblings)
    (enclosing : Option (List ℕ)) where
  -- an end tag, and whether it closes the enclosing tag; if not it vanishes
  abbrev pub with_end : PlacedToken → List PlacedToken → Bool → Siblings
  with_end k ks true = record { trees = none; closed_at = Some k.to; left = ks }
  with_end k ks false = siblings enclosing ks

  -- a start tag, and whether it stands alone; if not it holds the siblings inside it, up to its end
  -- tag
  abbrev pub with_start : SourceTag → List PlacedToken → Bool → Siblings
  with_start own ks true = with_tree (tag own none) (siblings enclosing ks)
  with_start own ks false =
      let inner = siblings (Some own.name) ks in
      with_tree (tag (record own { to = unwrap_or inner.closed_at own.to }) inner.trees)
      (siblings enclosing inner.left)

  -- one token before ks, where `siblings` reads what stands after it
  abbrev pub with_token : PlacedToken → List PlacedToken → Token → Siblings
  with_token k ks (Text bytes) = with_tree (text bytes) (siblings enclosing ks)
  with_token k ks (Comment bytes) = with_tree (comment bytes) (siblings enclosing ks)
  with_token k ks (Start name pairs alone) =
      with_start (source_tag k name pairs) ks (alone || is_void name)
  with_token k ks (End name) = with_end k ks (closes name enclosing)
  with_token k ks (Doctype html) = siblings enclosing ks
  with_token k ks Nothing = siblings enclosing ks

-- the siblings of at most n tokens
abbrev pub siblings_within : ℕ → Option (List ℕ) → List PlacedToken → Siblings
siblings_within zero enclosing ks = no_siblings
siblings_within (suc n) enclosing [] = no_siblings
siblings_within (suc n) enclosing (k ∷ ks) = with_token (siblings_within n) enclosing k ks k.token

-- the siblings at the front of ks, inside a tag of this name or at the top
abbrev pub siblings : Option (List ℕ) → List PlacedToken → Siblings
siblings enclosing ks = siblings_within (length ks) enclosing ks

-- the trees of a text's tokens
abbrev pub forest : List PlacedToken → Forest SourceTag
forest ks = (siblings None ks).trees

-- without its place
abbrev pub plain_tag : SourceTag → PlainTag
plain_tag own = record { name = own.name; attributes = own.attributes }

-- the trees, spans and raws forgotten
abbrev pub plain : Forest SourceTag → Forest PlainTag
plain none = none
plain (text bytes more) = text bytes (plain more)
plain (comment bytes more) = comment bytes (plain more)
plain (tag own children more) = tag (plain_tag own) (plain children) (plain more)

-- an end tag of another name than the enclosing one, or at the top
abbrev pub IsStray : List ℕ → Option (List ℕ) → Type 0
IsStray name None = ⊤
IsStray name (Some enclosing) = name ≢ enclosing

-- siblings by cases, one for each rule: inside a tag of this name or at the top, the tokens make
-- these siblings
pub data ParsesTo : Option (List ℕ) → List PlacedToken → Siblings → Type 0 where
  over : {o : Option (List ℕ)} → ParsesTo o [] no_siblings
  a_text : {o : Option (List ℕ)} {bytes : List ℕ} {i j : ℕ} {ks : List PlacedToken} {s : Siblings} →
      ParsesTo o ks s → ParsesTo o (record { token = Text bytes; from = i; to = j } ∷ ks)
      (with_tree (text bytes) s)
  a_comment : {o : Option (List ℕ)} {bytes : List ℕ} {i j : ℕ} {ks : List PlacedToken}
      {s : Siblings} →
      ParsesTo o ks s → ParsesTo o (record { token = Comment bytes; from = i; to = j } ∷ ks)
      (with_tree (comment bytes) s)
  alone : {o : Option (List ℕ)} {name : List ℕ} {pairs : List Pair} {c : Bool} {i j : ℕ}
      {ks : List PlacedToken} {s : Siblings} →
      (c || is_void name) ≡ true → ParsesTo o ks s →
      ParsesTo o (record { token = Start name pairs c; from = i; to = j } ∷ ks)
      (with_tree (tag (record { name = name; attributes = attributes_of pairs; from = i; to = j })
      none) s)
  opened : {o : Option (List ℕ)} {name : List ℕ} {pairs : List Pair} {c : Bool} {i j : ℕ}
      {ks : List PlacedToken} {inner s : Siblings} →
      (c || is_void name) ≡ false → ParsesTo (Some name) ks inner → ParsesTo o inner.left s →
      ParsesTo o (record { token = Start name pairs c; from = i; to = j } ∷ ks)
      (with_tree (tag (record {
        name = name;
        attributes = attributes_of pairs;
        from = i;
        to = unwrap_or inner.closed_at j;
      }) inner.trees) s)
  ended : {name : List ℕ} {i j : ℕ} {ks : List PlacedToken} →
      ParsesTo (Some name) (record { token = End name; from = i; to = j } ∷ ks)
      (record { trees = none; closed_at = Some j; left = ks })
  stray : {o : Option (List ℕ)} {name : List ℕ} {i j : ℕ} {ks : List PlacedToken} {s : Siblings} →
      IsStray name o → ParsesTo o ks s → ParsesTo o
      (record { token = End name; from = i; to = j } ∷ ks) s
  a_doctype : {o : Option (List ℕ)} {html : Bool} {i j : ℕ} {ks : List PlacedToken} {s : Siblings} →
      ParsesTo o ks s → ParsesTo o (record { token = Doctype html; from = i; to = j } ∷ ks) s
  dropped : {o : Option (List ℕ)} {i j : ℕ} {ks : List PlacedToken} {s : Siblings} →
      ParsesTo o ks s → ParsesTo o (record { token = Nothing; from = i; to = j } ∷ ks) s
