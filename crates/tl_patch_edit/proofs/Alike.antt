-- Whether two parts say the same, where none is a text or nothing.
use Rattle.std.proofs.Common.{◌≡◌, ℕ, Bool, true, false, ◌==◌, ◌&&◌, List, [], ◌∷◌, ◌++◌, map, codes, refl, ap, ap₂, sym, subst, ◌∙◌, true≢false, if◌then◌else◌}
use Rattle.std.proofs.lemmas.Bool.{and_from, and_parts, eq-eqb, eqb-true}
use Rattle.std.proofs.lemmas.Slice.Eq.{bytes_eq-Decides}
use Rattle.std.specs.Str.{bytes_eq}
use Rattle.tl_html_spec.specs.HtmlTokenizer.{Character, CommentToken, DoctypeToken, HtmlToken, State, data_state, plaintext, raw, rawtext, rcdata, script_data, script_data_escaped, script_data_escaped_dash, script_data_escaped_dash_dash}
use Rattle.tl_html_spec.specs.Pieces.{Piece, piece}
use Rattle.tl_html_tokens.specs.Comments.{comment_of}
use Rattle.tl_html_tokens.specs.Modes.{state_of}
use Rattle.tl_html_tokens.specs.Whole.{is_tag_kind}
use Rattle.tl_html_tokens.specs.declared.mode.Mode.{Mode}
use Rattle.tl_html_tokens.specs.declared.mode.Mode.TheVariants as mode
use Rattle.tl_html_tokens.specs.declared.stage.TokenKind.{TokenKind}
use Rattle.tl_html_tokens.specs.declared.stage.TokenKind.TheVariants as kind
use Rattle.tl_patch.specs.Inner.Steps.{mode_number}
use Rattle.tl_patch.proofs.Says.{mode_same}
use Rattle.tl_patch_edit.specs.Inner.Parts.{Part, Say, Tells, TellsTag, is_alike, is_comment_kind, is_doctype_kind, is_quiet_first, is_quiet_kind, is_same_tag}
use Rattle.tl_patch_edit.specs.Sayings.{Other, Saying, Tag, character}
use Rattle.tl_patch_edit.proofs.Said.{same_tells}

-- the mode of a state

state_number : State → ℕ
state_number data_state = 0
state_number (raw (rcdata name)) = if bytes_eq name (codes "title") then 1 else if bytes_eq name (codes "textarea") then 2 else 14
state_number (raw (rawtext name)) =
    if bytes_eq name (codes "style") then 3 else if bytes_eq name (codes "xmp") then 4
    else if bytes_eq name (codes "iframe") then 5 else if bytes_eq name (codes "noembed") then 6
    else if bytes_eq name (codes "noframes") then 7 else 13
state_number (raw script_data) = 8
state_number (raw script_data_escaped) = 9
state_number (raw script_data_escaped_dash) = 10
state_number (raw script_data_escaped_dash_dash) = 11
state_number plaintext = 12
state_number _ = 15

number_is : (m : Mode) → state_number (state_of m) ≡ mode_number m
unfolding state_number
number_is mode.Data = refl
number_is mode.Title = refl
number_is mode.Textarea = refl
number_is mode.ContextText = refl
number_is mode.Style = refl
number_is mode.Xmp = refl
number_is mode.Iframe = refl
number_is mode.Noembed = refl
number_is mode.Noframes = refl
number_is mode.Noscript = refl
number_is mode.Script = refl
number_is mode.ScriptEscaped = refl
number_is mode.ScriptEscapedDash = refl
number_is mode.ScriptEscapedDashDash = refl
number_is mode.Plaintext = refl

numbers_same : (m n : Mode) → state_of m ≡ state_of n → mode_number m ≡ mode_number n
numbers_same m n e = sym (number_is m) ∙ ap state_number e ∙ number_is n

-- one that is alike says the same

of_tag : (k : TokenKind) (m : Mode) (b : List ℕ) (ss : List Saying) → is_tag_kind k ≡ true → Tells k m b ss → TellsTag m b ss
of_tag kind.StartTag m b ss e h = h
of_tag kind.EndTag m b ss e h = h
of_tag _ m b ss e h = absurd (true≢false (sym e))

of_comment : (k : TokenKind) (m : Mode) (b : List ℕ) (ss : List Saying) → is_comment_kind k ≡ true → Tells k m b ss → ss ≡ Other (CommentToken (comment_of b)) ∷ []
of_comment kind.Comment m b ss e h = h
of_comment _ m b ss e h = absurd (true≢false (sym e))

of_doctype : (k : TokenKind) (m : Mode) (b : List ℕ) (ss : List Saying) → is_doctype_kind k ≡ true → Tells k m b ss → ss ≡ Other DoctypeToken ∷ []
of_doctype kind.Doctype m b ss e h = h
of_doctype _ m b ss e h = absurd (true≢false (sym e))

tags_same : (p q : Part) (ss us : List Saying) → is_same_tag p q ≡ true → TellsTag p.mode p.bytes ss → TellsTag q.mode q.bytes us → ss ≡ us
tags_same p q ss us e h g =
    let both = and_parts (mode_number p.mode == mode_number q.mode) (bytes_eq p.bytes q.bytes) e in
    let m : p.mode ≡ q.mode = mode_same p.mode q.mode (eqb-true (mode_number p.mode) (mode_number q.mode) both.0) in
    let b : p.bytes ≡ q.bytes = (bytes_eq-Decides p.bytes q.bytes).0 both.1 in
    same_tells kind.StartTag q.mode q.bytes ss us (subst (λ (n : Mode). TellsTag n q.bytes ss) m (subst (λ (x : List ℕ). TellsTag p.mode x ss) b h)) g

pub alike_tells : (k : TokenKind) (p q : Part) (ss us : List Saying) → is_alike k p q ≡ true → Tells k p.mode p.bytes ss → Tells q.kind q.mode q.bytes us → ss ≡ us
alike_tells kind.StartTag p q ss us e h g =
    let both = and_parts (is_tag_kind q.kind) (is_same_tag p q) e in
    tags_same p q ss us both.1 h (of_tag q.kind q.mode q.bytes us both.0 g)
alike_tells kind.EndTag p q ss us e h g =
    let both = and_parts (is_tag_kind q.kind) (is_same_tag p q) e in
    tags_same p q ss us both.1 h (of_tag q.kind q.mode q.bytes us both.0 g)
alike_tells kind.Comment p q ss us e h g =
    let both = and_parts (is_comment_kind q.kind) (bytes_eq (comment_of p.bytes) (comment_of q.bytes)) e in
    h ∙ ap (λ (x : List ℕ). Other (CommentToken x) ∷ []) ((bytes_eq-Decides (comment_of p.bytes) (comment_of q.bytes)).0 both.1) ∙ sym (of_comment q.kind q.mode q.bytes us both.0 g)
alike_tells kind.Doctype p q ss us e h g = h ∙ sym (of_doctype q.kind q.mode q.bytes us e g)
alike_tells kind.Text p q ss us e h g = absurd (true≢false (sym e))
alike_tells kind.Nothing p q ss us e h g = absurd (true≢false (sym e))

-- and one that isn't says something else

pub loud_some : (k : TokenKind) (m : Mode) (b : List ℕ) (ss : List Saying) → is_quiet_kind k ≡ false → Tells k m b ss → (x : Saying) × (ss ≡ x ∷ [])
loud_some kind.StartTag m b ss e h = (Tag (piece (state_of m) b h.0), h.1)
loud_some kind.EndTag m b ss e h = (Tag (piece (state_of m) b h.0), h.1)
loud_some kind.Comment m b ss e h = (Other (CommentToken (comment_of b)), h)
loud_some kind.Doctype m b ss e h = (Other DoctypeToken, h)
loud_some kind.Text m b ss e h = absurd (true≢false e)
loud_some kind.Nothing m b ss e h = absurd (true≢false e)

pub not_empty : (x : Saying) (xs : List Saying) → x ∷ xs ≡ [] → ⊥
not_empty x xs e = cc

heads : (x y : Saying) (ss us more others : List Saying) → ss ≡ x ∷ [] → us ≡ y ∷ [] → ss ++ more ≡ us ++ others → x ≡ y
heads x y ss us more others a b e =
    let same : x ∷ more ≡ y ∷ others = sym (ap (λ (u : List Saying). u ++ more) a) ∙ e ∙ ap (λ (u : List Saying). u ++ others) b in
    cc

tag_no_token : (p : Piece) (t : HtmlToken) → Tag p ≡ Other t → ⊥
tag_no_token p t e = cc

comment_no_doctype : (c : List ℕ) → Other (CommentToken c) ≡ Other DoctypeToken → ⊥
comment_no_doctype c e = cc

comment_is : (c d : List ℕ) → Other (CommentToken c) ≡ Other (CommentToken d) → c ≡ d
comment_is c d e = cc

record SamePlace (p q : Piece) : Type 0 where
  rest : p.rest ≡ q.rest
  bytes : p.bytes ≡ q.bytes

tag_is : (p q : Piece) → Tag p ≡ Tag q → SamePlace p q
tag_is p q e =
    let same : p ≡ q = cc in
    record { rest = ap (λ (x : Piece). x.rest) same; bytes = ap (λ (x : Piece). x.bytes) same }

same_true : (p q : Part) → state_of p.mode ≡ state_of q.mode → p.bytes ≡ q.bytes → is_same_tag p q ≡ true
same_true p q m b =
    and_from (mode_number p.mode == mode_number q.mode) (bytes_eq p.bytes q.bytes) (eq-eqb (mode_number p.mode) (mode_number q.mode) (numbers_same p.mode q.mode m))
    ((bytes_eq-Decides p.bytes q.bytes).1 b)

-- a tag against what is none
tag_against : (l : TokenKind) (p q : Part) (ss us more others : List Saying) → is_quiet_kind l ≡ false → (is_tag_kind l && is_same_tag p q) ≡ false → TellsTag p.mode p.bytes ss → Tells l q.mode q.bytes us →
    ss ++ more ≡ us ++ others → ⊥
tag_against kind.StartTag p q ss us more others s n h g e =
    let same = tag_is (piece (state_of p.mode) p.bytes h.0) (piece (state_of q.mode) q.bytes g.0) (heads _ _ ss us more others h.1 g.1 e) in
    true≢false (sym (same_true p q same.rest same.bytes) ∙ n)
tag_against kind.EndTag p q ss us more others s n h g e =
    let same = tag_is (piece (state_of p.mode) p.bytes h.0) (piece (state_of q.mode) q.bytes g.0) (heads _ _ ss us more others h.1 g.1 e) in
    true≢false (sym (same_true p q same.rest same.bytes) ∙ n)
tag_against kind.Comment p q ss us more others s n h g e = tag_no_token _ _ (heads _ _ ss us more others h.1 g e)
tag_against kind.Doctype p q ss us more others s n h g e = tag_no_token _ _ (heads _ _ ss us more others h.1 g e)
tag_against kind.Text p q ss us more others s n h g e = true≢false s
tag_against kind.Nothing p q ss us more others s n h g e = true≢false s

comment_against : (l : TokenKind) (c : List ℕ) (q : Part) (ss us more others : List Saying) → is_quiet_kind l ≡ false → (is_comment_kind l && bytes_eq c (comment_of q.bytes)) ≡ false →
    ss ≡ Other (CommentToken c) ∷ [] → Tells l q.mode q.bytes us → ss ++ more ≡ us ++ others → ⊥
comment_against kind.StartTag c q ss us more others s n h g e = tag_no_token _ _ (sym (heads _ _ ss us more others h g.1 e))
comment_against kind.EndTag c q ss us more others s n h g e = tag_no_token _ _ (sym (heads _ _ ss us more others h g.1 e))
comment_against kind.Comment c q ss us more others s n h g e =
    true≢false (sym ((bytes_eq-Decides c (comment_of q.bytes)).1 (comment_is _ _ (heads _ _ ss us more others h g e))) ∙ n)
comment_against kind.Doctype c q ss us more others s n h g e = comment_no_doctype _ (heads _ _ ss us more others h g e)
comment_against kind.Text c q ss us more others s n h g e = true≢false s
comment_against kind.Nothing c q ss us more others s n h g e = true≢false s

doctype_against : (l : TokenKind) (q : Part) (ss us more others : List Saying) → is_quiet_kind l ≡ false → is_doctype_kind l ≡ false →
    ss ≡ Other DoctypeToken ∷ [] → Tells l q.mode q.bytes us → ss ++ more ≡ us ++ others → ⊥
doctype_against kind.StartTag q ss us more others s n h g e = tag_no_token _ _ (sym (heads _ _ ss us more others h g.1 e))
doctype_against kind.EndTag q ss us more others s n h g e = tag_no_token _ _ (sym (heads _ _ ss us more others h g.1 e))
doctype_against kind.Comment q ss us more others s n h g e = comment_no_doctype _ (sym (heads _ _ ss us more others h g e))
doctype_against kind.Doctype q ss us more others s n h g e = true≢false n
doctype_against kind.Text q ss us more others s n h g e = true≢false s
doctype_against kind.Nothing q ss us more others s n h g e = true≢false s

pub not_alike : (k : TokenKind) (p q : Part) (ss us more others : List Saying) → is_quiet_kind k ≡ false → is_quiet_kind q.kind ≡ false → is_alike k p q ≡ false → Tells k p.mode p.bytes ss →
    Tells q.kind q.mode q.bytes us → ss ++ more ≡ us ++ others → ⊥
not_alike kind.StartTag p q ss us more others s t n h g e = tag_against q.kind p q ss us more others t n h g e
not_alike kind.EndTag p q ss us more others s t n h g e = tag_against q.kind p q ss us more others t n h g e
not_alike kind.Comment p q ss us more others s t n h g e = comment_against q.kind (comment_of p.bytes) q ss us more others t n h g e
not_alike kind.Doctype p q ss us more others s t n h g e = doctype_against q.kind q ss us more others t n h g e
not_alike kind.Text p q ss us more others s t n h g e = true≢false s
not_alike kind.Nothing p q ss us more others s t n h g e = true≢false s

-- texts in front

abbrev pub is_character_first : List Saying → Bool
is_character_first (Other (Character b) ∷ ss) = true
is_character_first _ = false

loud_first : (k : TokenKind) (m : Mode) (b : List ℕ) (ss more : List Saying) → is_quiet_kind k ≡ false → Tells k m b ss → is_character_first (ss ++ more) ≡ false
loud_first kind.StartTag m b ss more e h = ap (λ (u : List Saying). is_character_first (u ++ more)) h.1
loud_first kind.EndTag m b ss more e h = ap (λ (u : List Saying). is_character_first (u ++ more)) h.1
loud_first kind.Comment m b ss more e h = ap (λ (u : List Saying). is_character_first (u ++ more)) h
loud_first kind.Doctype m b ss more e h = ap (λ (u : List Saying). is_character_first (u ++ more)) h
loud_first kind.Text m b ss more e h = absurd (true≢false e)
loud_first kind.Nothing m b ss more e h = absurd (true≢false e)

pub loud_say : (xs : List Part) (ss : List Saying) → is_quiet_first xs ≡ false → Say xs ss → is_character_first ss ≡ false
loud_say [] ss e h = ap is_character_first h
loud_say (x ∷ xs) ss e h = ap is_character_first h.2 ∙ loud_first x.kind x.mode x.bytes h.0 h.1 e h.3

both_first : (c d : ℕ) (xs ys : List Saying) → character c ∷ xs ≡ character d ∷ ys → (c ≡ d) × (xs ≡ ys)
both_first c d xs ys e = (cc, cc)

pub same_characters : (cs ds : List ℕ) (r s : List Saying) → is_character_first r ≡ false → is_character_first s ≡ false → map character cs ++ r ≡ map character ds ++ s → cs ≡ ds
same_characters [] [] r s h g e = refl
same_characters [] (d ∷ ds) r s h g e = absurd (true≢false (sym (ap is_character_first e) ∙ h))
same_characters (c ∷ cs) [] r s h g e = absurd (true≢false (ap is_character_first e ∙ g))
same_characters (c ∷ cs) (d ∷ ds) r s h g e =
    let both = both_first c d (map character cs ++ r) (map character ds ++ s) e in
    ap₂ (λ (x : ℕ) (xs : List ℕ). x ∷ xs) both.0 (same_characters cs ds r s h g both.1)
