-- Tokens that say UTF-8, side by side.
use Rattle.std.proofs.Common.{ℕ, List, [], ◌∷◌, ◌++◌, IsUtf8, map, sym, subst, append_assoc, append-nil}
use Rattle.std.proofs.lemmas.List.{map-append}
use Rattle.std.proofs.lemmas.Str.{IsUtf8-append, IsUtf8-nil}
use Rattle.tl_html_spec.specs.HtmlTokenizer.{HtmlAttribute, HtmlToken, Character, StartTag, EndTag, CommentToken, DoctypeToken, char_of}
use Rattle.tl_html_spec.specs.Utf8.{AreUtf8, AreUtf8After, HaveUtf8Values}
use Rattle.tl_html_spec.proofs.Utf8Characters.{IsCharacter, char_text}

-- behind a text more
behind : (x front : List ℕ) (ts : List HtmlToken) → IsUtf8 x → AreUtf8After front ts → AreUtf8After (x ++ front) ts
behind x front [] h k = IsUtf8-append x front h k
behind x front (Character b ∷ ts) h k = subst (λ s. AreUtf8After s ts) (sym (append_assoc x front (b ∷ []))) (behind x (front ++ b ∷ []) ts h k)
behind x front (StartTag name xs closes ∷ ts) h k = (IsUtf8-append x front h k.0, k.1, k.2)
behind x front (EndTag name ∷ ts) h k = (IsUtf8-append x front h k.0, k.1)
behind x front (CommentToken bytes ∷ ts) h k = (IsUtf8-append x front h k.0, k.1, k.2)
behind x front (DoctypeToken ∷ ts) h k = (IsUtf8-append x front h k.0, k.1)

both_after : (front : List ℕ) (ts us : List HtmlToken) → AreUtf8After front ts → AreUtf8 us → AreUtf8After front (ts ++ us)
both_after front [] us h k = subst (λ s. AreUtf8After s us) (append-nil front) (behind front [] us h k)
both_after front (Character b ∷ ts) us h k = both_after (front ++ b ∷ []) ts us h k
both_after front (StartTag name xs closes ∷ ts) us h k = (h.0, h.1, both_after [] ts us h.2 k)
both_after front (EndTag name ∷ ts) us h k = (h.0, both_after [] ts us h.1 k)
both_after front (CommentToken bytes ∷ ts) us h k = (h.0, h.1, both_after [] ts us h.2 k)
both_after front (DoctypeToken ∷ ts) us h k = (h.0, both_after [] ts us h.1 k)

pub both_utf8 : (ts us : List HtmlToken) → AreUtf8 ts → AreUtf8 us → AreUtf8 (ts ++ us)
both_utf8 ts us h k = both_after [] ts us h k

run_after : (front s : List ℕ) → IsUtf8 (front ++ s) → AreUtf8After front (map Character s)
run_after front [] h = subst IsUtf8 (append-nil front) h
run_after front (b ∷ s) h = run_after (front ++ b ∷ []) s (subst IsUtf8 (sym (append_assoc front (b ∷ []) s)) h)

pub run_utf8 : (s : List ℕ) → IsUtf8 s → AreUtf8 (map Character s)
run_utf8 s h = run_after [] s h

pub comment_utf8 : (bytes : List ℕ) → IsUtf8 bytes → AreUtf8 (CommentToken bytes ∷ [])
comment_utf8 bytes h = (IsUtf8-nil, h, IsUtf8-nil)

-- a character that is emitted in two parts
pub character_utf8 : (b : ℕ) (w : List ℕ) → IsCharacter b w → AreUtf8 (map Character (char_of b) ++ map Character w)
character_utf8 b w a = subst AreUtf8 (map-append Character (char_of b) w) (run_utf8 (char_of b ++ w) (char_text b w a))

pub values_more : (xs : List HtmlAttribute) (a : HtmlAttribute) → HaveUtf8Values xs → IsUtf8 a.1 → HaveUtf8Values (xs ++ a ∷ [])
values_more [] a h k = (k, tt)
values_more (x ∷ xs) a h k = (h.0, values_more xs a h.1 k)
