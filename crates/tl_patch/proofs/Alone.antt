-- Bytes that are one token alone.
use Rattle.std.proofs.Common.{◌≡◌, ℕ, ◌-◌, ◌==◌, ◌&&◌, true, List, [], ◌∷◌, length, take, drop, ap, sym, subst, ◌∙◌, true≢false, arith, take_all, refl}
use Rattle.std.proofs.lemmas.Bool.{and_parts, eqb-true}
use Rattle.tl_html_spec.specs.Pieces.{Piece, pieces, placed, runs}
use Rattle.tl_html_tokens.specs.Kinds.{IsKind}
use Rattle.tl_html_tokens.specs.Tokens.{AreTokens, AreTokensOf, mark_len}
use Rattle.tl_html_tokens.specs.Whole.{AreWholeTags, IsWhole, bytes_at, is_tag_kind}
use Rattle.tl_html_tokens.specs.declared.mode.Mode.{Mode}
use Rattle.tl_html_tokens.specs.declared.mode.Mode.TheVariants as mode
use Rattle.tl_html_tokens.specs.declared.stage.TokenKind.{TokenKind}
use Rattle.tl_html_tokens.specs.declared.stage.TokenKind.TheVariants as kind
use Rattle.tl_html_tokens.specs.declared.token.Token.{Token}
use Rattle.tl_html_tokens.proofs.Alone.{tags_are_whole}
use Rattle.tl_patch.specs.StartTags.{IsStartTagAlone, is_data, is_one_tag, is_start_kind, is_whole_tag}

kind_is : (k : TokenKind) → is_start_kind k ≡ true → k ≡ kind.StartTag
kind_is kind.StartTag h = refl
kind_is _ h = absurd (true≢false (sym h))

mode_is : (m : Mode) → is_data m ≡ true → m ≡ mode.Data
mode_is mode.Data h = refl
mode_is _ h = absurd (true≢false (sym h))

one : (bytes : List ℕ) (t : Token) (pps : List (ℕ × Piece)) → AreTokens bytes (t ∷ []) pps → AreWholeTags bytes (t ∷ []) pps → is_whole_tag t (length bytes) ≡ true → IsStartTagAlone bytes
one bytes t [] h w e = absurd h
one bytes t (p ∷ pps) h w e =
    let a = and_parts (is_start_kind t.kind) (is_data t.mode && ((t.start == 0) && (t.end == length bytes))) e in
    let b = and_parts (is_data t.mode) ((t.start == 0) && (t.end == length bytes)) a.1 in
    let c = and_parts (t.start == 0) (t.end == length bytes) b.1 in
    let k : t.kind ≡ kind.StartTag = kind_is t.kind a.0 in
    let from : t.start ≡ 0 = eqb-true t.start 0 c.0 in
    let until : t.end ≡ length bytes = eqb-true t.end (length bytes) c.1 in
    let all : bytes_at bytes t ≡ bytes =
    ap (λ n. take (t.end - n) (drop n bytes)) from ∙ take_all (t.end - 0) bytes (omega arith) in
    let here : IsWhole t.mode (bytes_at bytes t) p.1.tokens = w.0 (ap is_tag_kind k) in
    record {
      tokens = p.1.tokens;
      whole = subst (λ bs. IsWhole mode.Data bs p.1.tokens) all (subst (λ m. IsWhole m (bytes_at bytes t) p.1.tokens) (mode_is t.mode b.0) here);
      start = subst (λ q. IsKind q p.1.tokens) k (h.0).kind;
    }

pub alone : (bytes : List ℕ) (ts : List Token) → AreTokensOf bytes ts → is_one_tag ts (length bytes) ≡ true → IsStartTagAlone bytes
alone bytes [] h e = absurd (true≢false (sym e))
alone bytes (t ∷ []) h e = one bytes t (placed (mark_len bytes) (runs (pieces bytes))) h (tags_are_whole bytes (t ∷ []) h) e
alone bytes (t ∷ u ∷ ts) h e = absurd (true≢false (sym e))
