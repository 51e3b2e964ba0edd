-- Selectors of `tl_spec`, the Rust crate's, and those of CSS that hold at the same tags.
use Rattle.std.specs.Prelude.{◌≡◌, ◌≢◌, ℕ, true, false, List, [], IfSome, IsUtf8, ⊤}
use Rattle.std.specs.Char.{is_whitespace}
use Rattle.std.specs.List.{All, Contains}
use Rattle.std.specs.Option.{IsSomeAnd}
use Rattle.std.specs.Str.{str_to_ascii_lowercase}
use Rattle.bstr.specs.Utf8.{lossy_chars}
use Rattle.tl_spec.specs.Lex.Attribute.{Pair}
use Rattle.tl_spec.specs.Print.Clean.{NodeHasOwnKeys}
use Rattle.tl_spec.specs.Select.Selector.{Selector, Tag, Id, Class, All as Every, And, Or, Descendant, Parent as ChildOf, Attribute, AttributeValue, AttributeValueWhitespacedContains, AttributeValueStartsWith, AttributeValueEndsWith, AttributeValueSubstring}
use Rattle.tl_spec.specs.Tree.Document.{Node}
use Rattle.tl_spec.specs.Tree.Element.{name_of}
use Rattle.tl_css.specs.declared.selector.Case.TheVariants.{Unsaid}
use Rattle.tl_css.specs.declared.selector.Op.TheVariants.{Equals, Word, Starts, Ends, Inside}
use Rattle.tl_css.specs.declared.selector.Link.TheVariants.{Parent}
use Rattle.tl_css.specs.declared.selector.Reach.TheVariants.{Once, Often}
use Rattle.tl_css.specs.declared.selector.Space.TheVariants.{Bare}
use Rattle.tl_css.specs.declared.selector.Way.TheVariants.{From}
use Rattle.tl_css.specs.Bytes.{is_white}
use Rattle.tl_css.specs.Meaning.{pairs_of}
use Rattle.tl_css.specs.Selector.{Any, Name, Id as IdIs, Class as ClassHas, Key, Value, ident_of, Css, Is, Both, Either, At}

-- the selector of CSS that asks the same, by the same names and keys
abbrev pub css_of : Selector → Css
css_of (Tag name) = Is (Name (ident_of name))
css_of (Id id) = Is (IdIs id)
css_of (Class member) = Is (ClassHas member)
css_of Every = Is Any
css_of (And a b) = Both (css_of a) (css_of b)
css_of (Or a b) = Either (css_of a) (css_of b)
css_of (Descendant a b) = Both (At From Parent Often (css_of a)) (css_of b)
css_of (ChildOf a b) = Both (At From Parent Once (css_of a)) (css_of b)
css_of (Attribute key) = Is (Key Bare (ident_of key))
css_of (AttributeValue key value) = Is (Value Bare (ident_of key) Equals value Unsaid)
css_of (AttributeValueWhitespacedContains key value) =
    Is (Value Bare (ident_of key) Word value Unsaid)
css_of (AttributeValueStartsWith key value) =
    Is (Value Bare (ident_of key) Starts value Unsaid)
css_of (AttributeValueEndsWith key value) = Is (Value Bare (ident_of key) Ends value Unsaid)
css_of (AttributeValueSubstring key value) =
    Is (Value Bare (ident_of key) Inside value Unsaid)

abbrev pub IsLower : List ℕ → Type 0
IsLower bytes = str_to_ascii_lowercase bytes ≡ bytes

-- a text in UTF-8, with no white space but that of CSS
pub record IsTameText (bytes : List ℕ) : Type 0 where
  pub utf8 : IsUtf8 bytes
  pub white : (c : ℕ) → Contains (lossy_chars bytes) c → is_whitespace c ≡ true → is_white c ≡ true

-- the key is in lower case, and has a value, which is tame
abbrev pub IsTamePair : Pair → Type 0
IsTamePair pair = IsLower pair.0 × IsSomeAnd pair.1 IsTameText

-- what is there is the same for both: a name in lower case, each key once, and tame pairs
pub record IsTame (node : Node) : Type 0 where
  pub name : IfSome (name_of node) IsLower
  pub once : NodeHasOwnKeys node
  pub pairs : All IsTamePair (pairs_of node)

-- what is asked is the same for both: names and keys in lower case, and values in UTF-8; the empty
-- value begins, ends and is inside of each value, but not in CSS
abbrev pub IsPlain : Selector → Type 0
IsPlain (Tag name) = IsLower name
IsPlain (Id id) = ⊤
IsPlain (Class member) = ⊤
IsPlain Every = ⊤
IsPlain (And a b) = IsPlain a × IsPlain b
IsPlain (Or a b) = IsPlain a × IsPlain b
IsPlain (Descendant a b) = IsPlain a × IsPlain b
IsPlain (ChildOf a b) = IsPlain a × IsPlain b
IsPlain (Attribute key) = IsLower key
IsPlain (AttributeValue key value) = IsLower key × IsUtf8 value
IsPlain (AttributeValueWhitespacedContains key value) = IsLower key × IsUtf8 value
IsPlain (AttributeValueStartsWith key value) = IsLower key × IsUtf8 value × (value ≢ [])
IsPlain (AttributeValueEndsWith key value) = IsLower key × IsUtf8 value × (value ≢ [])
IsPlain (AttributeValueSubstring key value) = IsLower key × IsUtf8 value × (value ≢ [])
