-- Trees as a browser has them: names, pairs and texts are what they say, with no reference left in
-- them.
use Rattle.std.specs.Prelude.{ℕ, Bool, true, false, not, ◌&&◌, List, [], ◌∷◌, ◌++◌, map, if◌then◌else◌}
use Rattle.tl_spec.specs.Lex.ByteClass.{is_void}
use Rattle.tl_spec.specs.Tree.Forest.{Forest, none, text, comment, tag}
use Rattle.tl_html_spec.specs.HtmlTokenizer.{HtmlAttribute, HtmlToken, Character, StartTag, EndTag, CommentToken}

-- an element without its children
pub record HtmlTag : Type 0 where
  pub name : List ℕ
  pub attributes : List HtmlAttribute

-- trees in a row
abbrev pub HtmlForest : Type 0
HtmlForest = Forest HtmlTag

-- the tokens that trees stand for: a void element has no end tag
abbrev pub html_tokens_of : HtmlForest → List HtmlToken
html_tokens_of none = []
html_tokens_of (text bytes more) = map Character bytes ++ html_tokens_of more
html_tokens_of (comment bytes more) = CommentToken bytes ∷ html_tokens_of more
html_tokens_of (tag own children more) =
    StartTag own.name own.attributes false
    ∷ (if is_void own.name then html_tokens_of more
    else html_tokens_of children ++ (EndTag own.name ∷ html_tokens_of more))

-- a text before trees: part of the text that they begin with, and nothing if it is empty
abbrev pub join_text : List ℕ → HtmlForest → HtmlForest
join_text [] f = f
join_text (b ∷ bytes) (text more f) = text (b ∷ bytes ++ more) f
join_text (b ∷ bytes) f = text (b ∷ bytes) f

-- no text is empty, and none stands beside another one
abbrev pub normal_form : HtmlForest → HtmlForest
normal_form none = none
normal_form (text bytes more) = join_text bytes (normal_form more)
normal_form (comment bytes more) = comment bytes (normal_form more)
normal_form (tag own children more) = tag own (normal_form children) (normal_form more)

abbrev pub begins_with_text : HtmlForest → Bool
begins_with_text (text bytes more) = true
begins_with_text _ = false

abbrev pub is_empty : List ℕ → Bool
is_empty [] = true
is_empty (b ∷ bytes) = false

-- whether trees have this form
abbrev pub is_normal : HtmlForest → Bool
is_normal none = true
is_normal (text bytes more) =
    not (is_empty bytes) && (not (begins_with_text more) && is_normal more)
is_normal (comment bytes more) = is_normal more
is_normal (tag own children more) = is_normal children && is_normal more
