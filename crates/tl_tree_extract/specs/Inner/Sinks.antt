-- Where the tokens of JSON go.
use Rattle.json.specs.Print.{print_from}
use Rattle.json.specs.Token.{Token, begin_array, begin_object, end_array, end_object, key, null, string}
use Rattle.json.specs.Written.{Written}
use Rattle.std.specs.Prelude.{Bool, List, [], codes, cond, false, length, true, ℕ, ◌&&◌, ◌++◌, ◌<◌, ◌∷◌}
use Rattle.tl_tree_extract.specs.declared.json_sink.KnownKey.{KnownKey}
use Rattle.tl_tree_extract.specs.declared.json_sink.KnownKey.TheVariants.{Attributes, Children, Comment, Contents, Doctype, End, File, Name, Namespace, Node, Public, Rows, Start, System, Text}
use Rattle.tl_tree_extract.specs.declared.json_sink.Mark.{Mark}
use Rattle.tl_tree_extract.specs.declared.json_sink.Mark.TheVariants.{BeginArray, BeginObject, EndArray, EndObject, Null}

abbrev pub mark_token : Mark → Token
mark_token BeginObject = begin_object
mark_token EndObject = end_object
mark_token BeginArray = begin_array
mark_token EndArray = end_array
mark_token Null = null

abbrev pub known_key : KnownKey → List ℕ
known_key Attributes = codes "attributes"
known_key Children = codes "children"
known_key Comment = codes "comment"
known_key Contents = codes "contents"
known_key Doctype = codes "doctype"
known_key End = codes "end"
known_key File = codes "file"
known_key Name = codes "name"
known_key Namespace = codes "namespace"
known_key Node = codes "node"
known_key Public = codes "public"
known_key Rows = codes "rows"
known_key Start = codes "start"
known_key System = codes "system"
known_key Text = codes "text"

abbrev pub key_or_string : Bool → List ℕ → Token
key_or_string true s = key s
key_or_string false s = string s

-- what there is once some more tokens are taken, where these are taken before
unfoldable pub after :
    List Token → (List Token → List ℕ × List Token) → List Token → List ℕ × List Token
after tokens taken more = taken (tokens ++ more)

-- of the kit's writer: what stands before, and the tokens
abbrev pub written_taken : Written → List Token → List ℕ × List Token
written_taken w more = (w.before, w.tokens ++ more)

-- of a text
abbrev pub text_taken : List ℕ → Bool → List Token → List ℕ × List Token
text_taken out after_value more = (out ++ print_from after_value more, [])

-- there are more bytes than so many
abbrev pub IsOver : ℕ → (List Token → List ℕ × List Token) → Type 0
IsOver most taken = most < length (taken []).0

-- between the end of a value and what begins
abbrev pub comma : Bool → Bool → List ℕ
comma after_value begins = cond (after_value && begins) (44 ∷ []) []

-- what stands behind a key, or a string
abbrev pub quote_end : Bool → List ℕ
quote_end true = 34 ∷ 58 ∷ []
quote_end false = 34 ∷ []
