-- What pieces say.
use Rattle.std.proofs.Common.{◌≡◌, ℕ, Bool, true, false, ◌&&◌, List, [], ◌∷◌, ◌++◌, flat_map, map, refl, ap, ap₂, sym, subst, ◌∙◌, inl, inr, append_assoc, append-nil, true≢false, if◌then◌else◌}
use Rattle.std.proofs.lemmas.Bool.{and_parts, cases_Bool}
use Rattle.std.proofs.lemmas.Grind.{flat_map-append}
use Rattle.std.proofs.lemmas.List.{map-append}
use Rattle.tl_html_spec.specs.HtmlTokenizer.{Character, CommentToken, DoctypeToken, EndTag, HtmlToken, StartTag, State}
use Rattle.tl_html_spec.specs.Pieces.{Piece, are_characters, piece, runs, tokens_in, with_piece}
use Rattle.tl_html_tokens.specs.Characters.{characters_of}
use Rattle.tl_html_tokens.specs.Kinds.{IsEndTag, IsKind, IsStartTag}
use Rattle.tl_html_tokens.specs.Modes.{state_of}
use Rattle.tl_html_tokens.specs.Whole.{is_tag_kind}
use Rattle.tl_html_tokens.specs.declared.mode.Mode.{Mode}
use Rattle.tl_html_tokens.specs.declared.stage.TokenKind.{TokenKind}
use Rattle.tl_html_tokens.specs.declared.stage.TokenKind.TheVariants as kind
use Rattle.tl_patch_edit.specs.Inner.Parts.{IsPieceOf, Part, Says, Say, Tells, TellsTag}
use Rattle.tl_patch_edit.specs.Sayings.{AreWhole, Other, Saying, Tag, character, is_tag, said_by, sayings}

abbrev pub tokens_said : Saying → List HtmlToken
tokens_said (Tag p) = p.tokens
tokens_said (Other token) = token ∷ []

others_tokens : (ts : List HtmlToken) → flat_map tokens_said (map Other ts) ≡ ts
others_tokens [] = refl
others_tokens (t ∷ ts) = ap (λ us. t ∷ us) (others_tokens ts)

one_tokens : (p : Piece) → flat_map tokens_said (said_by p) ≡ p.tokens
one_tokens p = elim (cases_Bool (is_tag p.tokens)) [
  | inl y ↦ rw y (append-nil p.tokens)
  | inr n ↦ rw n (others_tokens p.tokens)
]

pub tokens_are_said : (ps : List Piece) → tokens_in ps ≡ flat_map tokens_said (sayings ps)
tokens_are_said [] = refl
tokens_are_said (p ∷ ps) =
    ap₂ (λ (u v : List HtmlToken). u ++ v) (sym (one_tokens p)) (tokens_are_said ps) ∙ sym (flat_map-append tokens_said (said_by p) (sayings ps))

-- characters

characters_no_tag : (ts : List HtmlToken) → are_characters ts ≡ true → is_tag ts ≡ false
characters_no_tag [] h = refl
characters_no_tag (Character b ∷ ts) h = refl
characters_no_tag (StartTag n a c ∷ ts) h = absurd (true≢false (sym h))
characters_no_tag (EndTag n ∷ ts) h = absurd (true≢false (sym h))
characters_no_tag (CommentToken n ∷ ts) h = absurd (true≢false (sym h))
characters_no_tag (DoctypeToken ∷ ts) h = absurd (true≢false (sym h))

joined_no_tag : (ts us : List HtmlToken) → are_characters ts ≡ true → is_tag (ts ++ us) ≡ false
joined_no_tag [] us h = absurd (true≢false (sym h))
joined_no_tag (Character b ∷ ts) us h = refl
joined_no_tag (StartTag n a c ∷ ts) us h = absurd (true≢false (sym h))
joined_no_tag (EndTag n ∷ ts) us h = absurd (true≢false (sym h))
joined_no_tag (CommentToken n ∷ ts) us h = absurd (true≢false (sym h))
joined_no_tag (DoctypeToken ∷ ts) us h = absurd (true≢false (sym h))

pub plain : (p : Piece) → is_tag p.tokens ≡ false → said_by p ≡ map Other p.tokens
plain p h = ap (λ (v : Bool). if v then Tag p ∷ [] else map Other p.tokens) h

tagged : (p : Piece) → is_tag p.tokens ≡ true → said_by p ≡ Tag p ∷ []
tagged p h = ap (λ (v : Bool). if v then Tag p ∷ [] else map Other p.tokens) h

-- runs joined say the same

joined : (p q : Piece) (ps : List Piece) → are_characters p.tokens ≡ true → are_characters q.tokens ≡ true →
    sayings (piece p.rest (p.bytes ++ q.bytes) (p.tokens ++ q.tokens) ∷ ps) ≡ said_by p ++ (said_by q ++ sayings ps)
joined p q ps h k =
    ap (λ (u : List Saying). u ++ sayings ps)
    (plain (piece p.rest (p.bytes ++ q.bytes) (p.tokens ++ q.tokens)) (joined_no_tag p.tokens q.tokens h)
    ∙ map-append Other p.tokens q.tokens
    ∙ ap₂ (λ (u v : List Saying). u ++ v) (sym (plain p (characters_no_tag p.tokens h))) (sym (plain q (characters_no_tag q.tokens k))))
    ∙ append_assoc (said_by p) (said_by q) (sayings ps)

with_said : (p : Piece) (ps : List Piece) → sayings (with_piece p ps) ≡ said_by p ++ sayings ps
with_said p [] = refl
with_said p (q ∷ ps) = elim (cases_Bool (are_characters p.tokens && are_characters q.tokens)) [
  | inl y ↦ (let both = and_parts (are_characters p.tokens) (are_characters q.tokens) y in rw y (joined p q ps both.0 both.1))
  | inr n ↦ rw n refl
]

pub runs_said : (ps : List Piece) → sayings (runs ps) ≡ sayings ps
runs_said [] = refl
runs_said (p ∷ ps) = with_said p (runs ps) ∙ ap (λ (u : List Saying). said_by p ++ u) (runs_said ps)

-- a part says what its piece says

pub characters_other : (cs : List ℕ) → map Other (map Character cs) ≡ map character cs
characters_other [] = refl
characters_other (c ∷ cs) = ap (λ (u : List Saying). character c ∷ u) (characters_other cs)

start_is_tag : (ts : List HtmlToken) → IsStartTag ts → is_tag ts ≡ true
start_is_tag (StartTag n a c ∷ []) h = refl
start_is_tag [] h = absurd h
start_is_tag (StartTag n a c ∷ t ∷ ts) h = absurd h
start_is_tag (EndTag n ∷ ts) h = absurd h
start_is_tag (Character b ∷ ts) h = absurd h
start_is_tag (CommentToken n ∷ ts) h = absurd h
start_is_tag (DoctypeToken ∷ ts) h = absurd h

end_is_tag : (ts : List HtmlToken) → IsEndTag ts → is_tag ts ≡ true
end_is_tag (EndTag n ∷ []) h = refl
end_is_tag [] h = absurd h
end_is_tag (EndTag n ∷ t ∷ ts) h = absurd h
end_is_tag (StartTag n a c ∷ ts) h = absurd h
end_is_tag (Character b ∷ ts) h = absurd h
end_is_tag (CommentToken n ∷ ts) h = absurd h
end_is_tag (DoctypeToken ∷ ts) h = absurd h

pub tag_tells : (m : Mode) (b : List ℕ) (p : Piece) → p.rest ≡ state_of m → p.bytes ≡ b → is_tag p.tokens ≡ true → Says kind.StartTag m b p.tokens → TellsTag m b (said_by p)
tag_tells m b p r e h s = (p.tokens, tagged p h ∙ ap₂ (λ (x : State) (y : List ℕ). Tag (piece x y p.tokens) ∷ []) r e, s)

pub by_kind : (k : TokenKind) (m : Mode) (b : List ℕ) (p : Piece) → p.rest ≡ state_of m → p.bytes ≡ b → IsKind k p.tokens → Says k m b p.tokens → Tells k m b (said_by p)
by_kind kind.Text m b p r e k s = plain p (characters_no_tag p.tokens k) ∙ ap (map Other) s ∙ characters_other (characters_of m b)
by_kind kind.Comment m b p r e k s = plain p (ap is_tag s) ∙ ap (map Other) s
by_kind kind.Doctype m b p r e k s = plain p (ap is_tag s) ∙ ap (map Other) s
by_kind kind.Nothing m b p r e k s = plain p (ap is_tag s) ∙ ap (map Other) s
by_kind kind.StartTag m b p r e k s = tag_tells m b p r e (start_is_tag p.tokens k) s
by_kind kind.EndTag m b p r e k s = tag_tells m b p r e (end_is_tag p.tokens k) s

pub tells_of : (part : Part) (p : Piece) → IsPieceOf part p → Tells part.kind part.mode part.bytes (said_by p)
tells_of part p h = by_kind part.kind part.mode part.bytes p h.rest h.bytes h.kind h.says

pub text_no_tag : (cs : List ℕ) → is_tag (map Character cs) ≡ false
text_no_tag [] = refl
text_no_tag (c ∷ cs) = refl

pub kind_is_tag : (k : TokenKind) (ts : List HtmlToken) → is_tag_kind k ≡ true → IsKind k ts → is_tag ts ≡ true
kind_is_tag kind.StartTag ts e h = start_is_tag ts h
kind_is_tag kind.EndTag ts e h = end_is_tag ts h
kind_is_tag _ ts e h = absurd (true≢false (sym e))

pub tag_kind_tells : (k : TokenKind) (m : Mode) (b : List ℕ) (ss : List Saying) → is_tag_kind k ≡ true → TellsTag m b ss → Tells k m b ss
tag_kind_tells kind.StartTag m b ss e h = h
tag_kind_tells kind.EndTag m b ss e h = h
tag_kind_tells _ m b ss e h = absurd (true≢false (sym e))

pub tag_kind_says : (k : TokenKind) (m : Mode) (b : List ℕ) (ts : List HtmlToken) → is_tag_kind k ≡ true → Says k m b ts → Says kind.StartTag m b ts
tag_kind_says kind.StartTag m b ts e h = h
tag_kind_says kind.EndTag m b ts e h = h
tag_kind_says _ m b ts e h = absurd (true≢false (sym e))

-- each tag that is said is read so by itself

whole_append : (ss us : List Saying) → AreWhole ss → AreWhole us → AreWhole (ss ++ us)
whole_append [] us h g = g
whole_append (Tag p ∷ ss) us h g = (h.0, whole_append ss us h.1 g)
whole_append (Other t ∷ ss) us h g = whole_append ss us h g

characters_whole : (cs : List ℕ) → AreWhole (map character cs)
characters_whole [] = tt
characters_whole (c ∷ cs) = characters_whole cs

tells_whole : (k : TokenKind) (m : Mode) (b : List ℕ) (ss : List Saying) → Tells k m b ss → AreWhole ss
tells_whole kind.Text m b ss h = subst AreWhole (sym h) (characters_whole (characters_of m b))
tells_whole kind.Comment m b ss h = subst AreWhole (sym h) tt
tells_whole kind.Doctype m b ss h = subst AreWhole (sym h) tt
tells_whole kind.Nothing m b ss h = subst AreWhole (sym h) tt
tells_whole kind.StartTag m b ss h = subst AreWhole (sym h.1) (h.2, tt)
tells_whole kind.EndTag m b ss h = subst AreWhole (sym h.1) (h.2, tt)

pub say_whole : (xs : List Part) (ss : List Saying) → Say xs ss → AreWhole ss
say_whole [] ss h = subst AreWhole (sym h) tt
say_whole (x ∷ xs) ss h = subst AreWhole (sym h.2) (whole_append h.0 h.1 (tells_whole x.kind x.mode x.bytes h.0 h.3) (say_whole xs h.1 h.4))
