-- What is put gives the pieces that are asked for.
use Rattle.std.proofs.Common.{◌≡◌, ℕ, true, List, [], ◌∷◌, ◌++◌, map, Some, refl, ap, sym, subst, ◌∙◌, append-nil, true≢false}
use Rattle.tl_html_spec.specs.HtmlTokenizer.{Character, CommentToken, DoctypeToken, EndTag, HtmlToken, StartTag, State, data_state}
use Rattle.tl_html_spec.specs.Pieces.{Piece, bytes_of, piece, pieces_of, runs}
use Rattle.tl_html_tokens.specs.Modes.{state_of}
use Rattle.tl_html_tokens.specs.Kinds.{IsEndTag}
use Rattle.tl_html_tokens.specs.Whole.{IsWhole}
use Rattle.tl_html_tokens.specs.declared.mode.Mode.{Mode}
use Rattle.tl_html_tokens.specs.declared.mode.Mode.TheVariants as mode
use Rattle.tl_html_tokens.specs.declared.stage.TokenKind.TheVariants as kind
use Rattle.tl_patch_edit.specs.Asks.{GivePut, IsRenamedEnd, IsRenamedTag, IsTextPart, end_tag_bytes, text_form}
use Rattle.tl_patch_edit.specs.Inner.Parts.{Give, Part, Says, TellsTag, is_data}
use Rattle.tl_patch_edit.specs.Sayings.{Tag, character, is_tag, said_by, sayings}
use Rattle.tl_patch_edit.specs.Inner.Seams.{SameEdges}
use Rattle.tl_patch_edit.proofs.Edges.{tag_edges, text_edges}
use Rattle.tl_patch_edit.proofs.Sayings.{characters_other, kind_is_tag, plain, tag_kind_says, tag_kind_tells, tag_tells, text_no_tag}
use Rattle.tl_patch_spec.specs.Patches.{Changed, Markup, NewContent, NewEndTag, Text, content_pieces, end_tag_piece}
use Rattle.tl_patch_spec.specs.TagNames.{IsNamed}
use Rattle.tl_patch_spec.specs.TagChanges.{Rename, changed_token}
use Rattle.tl_patch.specs.StartTags.{IsRenamed}

text_pieces : Mode → List ℕ → List Piece
text_pieces m t = piece (state_of m) (text_form m t) (map Character t) ∷ []

form_is : (m : Mode) (t : List ℕ) → content_pieces (state_of m) (Text t) ≡ Some (text_pieces m t)
unfolding text_pieces
form_is mode.Data t = refl
form_is mode.Title t = refl
form_is mode.Textarea t = refl
form_is mode.ContextText t = refl
form_is mode.Style t = refl
form_is mode.Xmp t = refl
form_is mode.Iframe t = refl
form_is mode.Noembed t = refl
form_is mode.Noframes t = refl
form_is mode.Noscript t = refl
form_is mode.Script t = refl
form_is mode.ScriptEscaped t = refl
form_is mode.ScriptEscapedDash t = refl
form_is mode.ScriptEscapedDashDash t = refl
form_is mode.Plaintext t = refl

text_gives : (m : Mode) (t : List ℕ) (part : Part) → IsTextPart m t part → Give (part ∷ []) (bytes_of (text_pieces m t)) (sayings (text_pieces m t))
unfolding text_pieces
text_gives m t part h =
    subst (λ (x : Part). Give (x ∷ []) (bytes_of (piece (state_of m) (text_form m t) (map Character t) ∷ [])) (sayings (piece (state_of m) (text_form m t) (map Character t) ∷ []))) (sym h.is) (record {
      bytes = refl;
      say = (
        said_by (piece (state_of m) (text_form m t) (map Character t)),
        [],
        refl,
        plain (piece (state_of m) (text_form m t) (map Character t)) (text_no_tag t) ∙ characters_other t ∙ ap (map character) (sym h.said),
        refl,
      );
    })

pub text_put : (t : List ℕ) (place part : Part) (parts : List Part) → IsTextPart place.mode t part → parts ≡ [] ++ part ∷ [] → GivePut (NewContent (Text t) ∷ []) place parts
unfolding text_pieces
text_put t place part parts h e = λ p i.
    let put : List Piece = text_pieces place.mode t in (
      put,
      (put, [], sym (append-nil put), ap (λ (s : State). content_pieces s (Text t)) i.rest ∙ form_is place.mode t, refl),
      subst (λ (xs : List Part). Give xs (bytes_of put) (sayings put)) (sym e) (text_gives place.mode t part h),
      subst (λ (xs : List Part). SameEdges xs put) (sym e) (subst (λ (x : Part). SameEdges (x ∷ []) put) (sym h.is) (text_edges place.mode t)),
    )

data_is : (m : Mode) → is_data m ≡ true → state_of m ≡ data_state
data_is mode.Data e = refl
data_is mode.Title e = cc
data_is mode.Textarea e = cc
data_is mode.ContextText e = cc
data_is mode.Style e = cc
data_is mode.Xmp e = cc
data_is mode.Iframe e = cc
data_is mode.Noembed e = cc
data_is mode.Noframes e = cc
data_is mode.Noscript e = cc
data_is mode.Script e = cc
data_is mode.ScriptEscaped e = cc
data_is mode.ScriptEscapedDash e = cc
data_is mode.ScriptEscapedDashDash e = cc
data_is mode.Plaintext e = cc

pub markup_put : (m : List ℕ) (place : Part) (given parts : List Part) → is_data place.mode ≡ true → Give given (bytes_of (pieces_of m)) (sayings (pieces_of m)) → SameEdges given (runs (pieces_of m)) → parts ≡ [] ++ given →
    GivePut (NewContent (Markup m) ∷ []) place parts
markup_put m place given parts d g f e = λ p i.
    let put : List Piece = pieces_of m in (
      put,
      (put, [], sym (append-nil put), ap (λ (s : State). content_pieces s (Markup m)) (i.rest ∙ data_is place.mode d), refl),
      subst (λ (xs : List Part). Give xs (bytes_of put) (sayings put)) (sym e) g,
      subst (λ (xs : List Part). SameEdges xs (runs put)) (sym e) f,
    )

tag_gives : (name : List ℕ) (part : Part) → part ≡ record { kind = kind.EndTag; mode = mode.Data; bytes = end_tag_bytes name } → IsWhole mode.Data (end_tag_bytes name) (EndTag name ∷ []) →
    Give (part ∷ []) (bytes_of (end_tag_piece name ∷ [])) (sayings (end_tag_piece name ∷ []))
tag_gives name part e w =
    subst (λ (x : Part). Give (x ∷ []) (bytes_of (end_tag_piece name ∷ [])) (sayings (end_tag_piece name ∷ []))) (sym e) (record {
      bytes = refl;
      say = (Tag (end_tag_piece name) ∷ [], [], refl, (EndTag name ∷ [], refl, w), refl);
    })

end_tag_edges : (name : List ℕ) (part : Part) → part ≡ record { kind = kind.EndTag; mode = mode.Data; bytes = end_tag_bytes name } → SameEdges (part ∷ []) (end_tag_piece name ∷ [])
end_tag_edges name part e =
    subst (λ (x : Part). SameEdges (x ∷ []) (end_tag_piece name ∷ [])) (sym e) (tag_edges kind.EndTag mode.Data (end_tag_bytes name) (end_tag_bytes name) data_state (EndTag name ∷ []) refl refl refl refl)

-- an end tag alone, and a tag with another name

pub end_tag_put : (name : List ℕ) (place part : Part) (parts : List Part) → part ≡ record { kind = kind.EndTag; mode = mode.Data; bytes = end_tag_bytes name } →
    IsWhole mode.Data (end_tag_bytes name) (EndTag name ∷ []) → parts ≡ [] ++ part ∷ [] → GivePut (NewEndTag name ∷ []) place parts
end_tag_put name place part parts e w h = λ p i.
    let put : List Piece = end_tag_piece name ∷ [] in (
      put,
      (put, [], sym (append-nil put), refl, refl),
      subst (λ (xs : List Part). Give xs (bytes_of put) (sayings put)) (sym h) (tag_gives name part e w),
      subst (λ (xs : List Part). SameEdges xs put) (sym h) (end_tag_edges name part e),
    )

renamed_is_tag : (name : List ℕ) (ts : List HtmlToken) → is_tag ts ≡ true → is_tag (map (changed_token (Rename name)) ts) ≡ true
renamed_is_tag name (StartTag n a v ∷ []) h = refl
renamed_is_tag name (EndTag n ∷ []) h = refl
renamed_is_tag name [] h = absurd (true≢false (sym h))
renamed_is_tag name (StartTag n a v ∷ t ∷ ts) h = absurd (true≢false (sym h))
renamed_is_tag name (EndTag n ∷ t ∷ ts) h = absurd (true≢false (sym h))
renamed_is_tag name (Character b ∷ ts) h = absurd (true≢false (sym h))
renamed_is_tag name (CommentToken n ∷ ts) h = absurd (true≢false (sym h))
renamed_is_tag name (DoctypeToken ∷ ts) h = absurd (true≢false (sym h))

pub renamed_put : (name : List ℕ) (place : Part) (tag : List ℕ) (parts : List Part) → IsRenamedTag name place tag →
    parts ≡ [] ++ record { kind = place.kind; mode = place.mode; bytes = tag } ∷ [] → GivePut (Changed (Rename name) ∷ []) place parts
renamed_put name place tag parts r e = λ p i.
    let new : List HtmlToken = map (changed_token (Rename name)) p.tokens in
    let put : List Piece = piece p.rest tag new ∷ [] in
    let q : Piece = piece p.rest tag new in
    let said : Says place.kind place.mode tag new = subst (λ (m : Mode). Says place.kind m tag new) (sym r.in_data) (r.says p.tokens i.kind i.says) in
    let is : is_tag new ≡ true = renamed_is_tag name p.tokens (kind_is_tag place.kind p.tokens r.tag i.kind) in
    let told : TellsTag place.mode tag (said_by q) = tag_tells place.mode tag q i.rest refl is (tag_kind_says place.kind place.mode tag new r.tag said) in (
      put,
      (put, [], sym (append-nil put), (piece p.rest tag new, refl, refl, refl, subst (λ (b : List ℕ). IsNamed name b tag) (sym i.bytes) r.named), refl),
      subst (λ (xs : List Part). Give xs (bytes_of put) (sayings put)) (sym e) (record { bytes = refl; say = (said_by q, [], refl, tag_kind_tells place.kind place.mode tag (said_by q) r.tag told, refl) }),
      subst (λ (xs : List Part). SameEdges xs put) (sym e) (tag_edges place.kind place.mode tag tag p.rest new i.rest refl r.tag is),
    )

pub start_renamed : (name : List ℕ) (m : Mode) (b new : List ℕ) → m ≡ mode.Data → IsRenamed name b new → IsRenamedTag name (record { kind = kind.StartTag; mode = m; bytes = b }) new
start_renamed name m b new d r = record {
  tag = refl;
  named = r.named;
  in_data = d;
  says = λ ts k w. r.tokens ts (subst (λ (n : Mode). IsWhole n b ts) d w) k;
}

renamed_end : (name b new : List ℕ) (ts : List HtmlToken) → IsEndTag ts → IsWhole mode.Data b ts → IsRenamedEnd name b new → IsWhole mode.Data new (map (changed_token (Rename name)) ts)
renamed_end name b new (EndTag n ∷ []) k w r = r.whole (EndTag n ∷ []) w k
renamed_end name b new [] k w r = absurd k
renamed_end name b new (EndTag n ∷ t ∷ ts) k w r = absurd k
renamed_end name b new (StartTag n a v ∷ ts) k w r = absurd k
renamed_end name b new (Character x ∷ ts) k w r = absurd k
renamed_end name b new (CommentToken n ∷ ts) k w r = absurd k
renamed_end name b new (DoctypeToken ∷ ts) k w r = absurd k

pub end_renamed : (name : List ℕ) (m : Mode) (b new : List ℕ) → m ≡ mode.Data → IsRenamedEnd name b new → IsRenamedTag name (record { kind = kind.EndTag; mode = m; bytes = b }) new
end_renamed name m b new d r = record {
  tag = refl;
  named = r.named;
  in_data = d;
  says = λ ts k w. renamed_end name b new ts k (subst (λ (n : Mode). IsWhole n b ts) d w) r;
}
