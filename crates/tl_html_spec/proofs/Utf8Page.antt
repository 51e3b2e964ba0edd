-- The rest of a character is taken where its first byte led, so the tokens of a page in UTF-8 say UTF-8.
use Rattle.std.proofs.Common.{◌≡◌, ℕ, true, false, ◌==◌, ◌&&◌, List, [], ◌∷◌, ◌++◌, IsUtf8, codes, drop, refl, ap, ap₂, sym, subst, ◌∙◌, inl, inr, arith, append_assoc}
use Rattle.std.specs.List.{list_all, starts_with}
use Rattle.std.proofs.lemmas.Bool.{and_from, and_parts, cases_Bool, cond_both, eqb-true}
use Rattle.std.proofs.lemmas.Bool.Decides.{nat_tests}
use Rattle.std.proofs.lemmas.Str.{IsUtf8-append, IsUtf8-from_ascii, IsUtf8-nil, IsUtf8-past_char}
use Rattle.std.specs.Char.{to_ascii_lowercase}
use lib.Utf8.{encode}
use Rattle.tl_html_spec.specs.References.{named_value, number_value}
use Rattle.tl_html_spec.specs.HtmlTokenizer as T
use Rattle.tl_html_spec.specs.HtmlTokenizer.{HtmlToken, Character, State, Step, char_of, html_tokens, is_white_space, settled, step, tokens_from, whole_step, with_feeds, without_mark}
use Rattle.tl_html_spec.specs.Utf8.{AreUtf8}
use Rattle.tl_html_spec.proofs.Feeds.{feed-word, is_no_return}
use Rattle.tl_html_spec.proofs.Utf8Characters.{IsCharacter, all_low, at_byte, by_characters, is_high, no_byte, one_byte}
use Rattle.tl_html_spec.proofs.Utf8References.{named_value_text, number_text}
use Rattle.tl_html_spec.proofs.Utf8States.{Holds, HoldsBefore, Returns, ended, none_pending, pending}
use Rattle.tl_html_spec.proofs.Utf8Steps.{first_good}
use Rattle.tl_html_spec.proofs.Utf8Tokens.{both_utf8, comment_utf8, run_utf8}

-- a byte inside a character

pub no_space : (b : ℕ) → is_high b ≡ true → is_white_space b ≡ false
no_space b h = grind (arith, nat_tests)

no_cons : (b : ℕ) (w : List ℕ) → b ∷ w ≡ [] → ⊥
no_cons b w e = cc

taken : (s : List ℕ) (b : ℕ) (w : List ℕ) → is_high b ≡ true → IsUtf8 (s ++ b ∷ w) → IsUtf8 ((s ++ char_of b) ++ w)
taken s b w h u = subst IsUtf8 (sym (append_assoc s (char_of b) w)) (rw (no_byte b 0 h refl) u)

record Takes (s : State) (b : ℕ) (w : List ℕ) (x : Step) : Type 0 where
  emits : x.emits ≡ pending s (b ∷ [])
  holds : HoldsBefore w x.next
  same : pending x.next w ≡ pending s w

takes : (s : State) (b : ℕ) (w : List ℕ) (n : State) (ts : List HtmlToken) → step s b ≡ record { next = n; emits = ts; again = false } → ts ≡ pending s (b ∷ []) →
    HoldsBefore w n → pending n w ≡ pending s w → Takes s b w (whole_step s b)
takes s b w n ts e t h p = subst (λ (x : Step). Takes s b w (settled 3 x b)) (sym e) (record { emits = t; holds = h; same = p })

inside : (s : State) (b : ℕ) (w : List ℕ) → is_high b ≡ true → HoldsBefore (b ∷ w) s → Takes s b w (whole_step s b)
inside T.data_state b w h k = takes T.data_state b w T.data_state (Character b ∷ []) (rw (no_byte b 38 h refl, no_byte b 60 h refl) refl) refl tt refl
inside (T.raw (T.rcdata name)) b w h k =
    takes (T.raw (T.rcdata name)) b w (T.raw (T.rcdata name)) (Character b ∷ []) (rw (no_byte b 38 h refl, no_byte b 60 h refl, no_byte b 0 h refl) refl) refl tt refl
inside (T.raw (T.rawtext name)) b w h k =
    takes (T.raw (T.rawtext name)) b w (T.raw (T.rawtext name)) (Character b ∷ []) (rw (no_byte b 60 h refl, no_byte b 0 h refl) refl) refl tt refl
inside (T.raw T.script_data) b w h k =
    takes (T.raw T.script_data) b w (T.raw T.script_data) (Character b ∷ []) (rw (no_byte b 60 h refl, no_byte b 0 h refl) refl) refl tt refl
inside (T.raw T.script_data_escaped) b w h k =
    takes (T.raw T.script_data_escaped) b w (T.raw T.script_data_escaped) (Character b ∷ []) (rw (no_byte b 45 h refl, no_byte b 60 h refl, no_byte b 0 h refl) refl) refl tt refl
inside (T.raw T.script_data_escaped_dash) b w h k =
    takes (T.raw T.script_data_escaped_dash) b w (T.raw T.script_data_escaped) (Character b ∷ []) (rw (no_byte b 45 h refl, no_byte b 60 h refl, no_byte b 0 h refl) refl) refl tt refl
inside (T.raw T.script_data_escaped_dash_dash) b w h k =
    takes (T.raw T.script_data_escaped_dash_dash) b w (T.raw T.script_data_escaped) (Character b ∷ [])
    (rw (no_byte b 45 h refl, no_byte b 60 h refl, no_byte b 62 h refl, no_byte b 0 h refl) refl) refl tt refl
inside T.plaintext b w h k = takes T.plaintext b w T.plaintext (Character b ∷ []) (rw (no_byte b 0 h refl) refl) refl tt refl
inside T.script_data_double_escaped b w h k =
    takes T.script_data_double_escaped b w T.script_data_double_escaped (Character b ∷ []) (rw (no_byte b 45 h refl, no_byte b 60 h refl, no_byte b 0 h refl) refl) refl tt refl
inside T.doctype b w h k = takes T.doctype b w T.doctype [] (rw (no_byte b 62 h refl) refl) refl tt refl
inside (T.tag_name tag) b w h k =
    takes (T.tag_name tag) b w (T.tag_name (T.with_letter tag b)) [] (rw (no_space b h, no_byte b 47 h refl, no_byte b 62 h refl) refl) refl k refl
inside (T.attribute_name tag key) b w h k =
    takes (T.attribute_name tag key) b w (T.attribute_name tag (key ++ char_of (to_ascii_lowercase b))) []
    (rw (no_space b h, no_byte b 47 h refl, no_byte b 62 h refl, no_byte b 61 h refl) refl) refl k refl
inside (T.double_quoted tag key value) b w h k =
    takes (T.double_quoted tag key value) b w (T.double_quoted tag key (value ++ char_of b)) [] (rw (no_byte b 34 h refl, no_byte b 38 h refl) refl) refl (k.0, taken value b w h k.1) refl
inside (T.single_quoted tag key value) b w h k =
    takes (T.single_quoted tag key value) b w (T.single_quoted tag key (value ++ char_of b)) [] (rw (no_byte b 39 h refl, no_byte b 38 h refl) refl) refl (k.0, taken value b w h k.1) refl
inside (T.unquoted tag key value) b w h k =
    takes (T.unquoted tag key value) b w (T.unquoted tag key (value ++ char_of b)) [] (rw (no_space b h, no_byte b 38 h refl, no_byte b 62 h refl) refl) refl (k.0, taken value b w h k.1) refl
inside (T.bogus_comment bytes) b w h k =
    takes (T.bogus_comment bytes) b w (T.bogus_comment (bytes ++ char_of b)) [] (rw (no_byte b 62 h refl) refl) refl (taken bytes b w h k) refl
inside (T.comment bytes) b w h k =
    takes (T.comment bytes) b w (T.comment (bytes ++ char_of b)) [] (rw (no_byte b 60 h refl, no_byte b 45 h refl) refl) refl (taken bytes b w h k) refl
inside _ b w h k = absurd (no_cons b w k.0)

-- those that are left of it

more_pending : (s : State) (b : ℕ) (w : List ℕ) → pending s (b ∷ []) ++ pending s w ≡ pending s (b ∷ w)
more_pending T.data_state b w = refl
more_pending (T.raw r) b w = refl
more_pending T.plaintext b w = refl
more_pending T.script_data_double_escaped b w = refl
more_pending _ b w = refl

record Passed (s : State) (w rest : List ℕ) : Type 0 where
  next : State
  holds : Holds next
  same : tokens_from s (w ++ rest) ≡ pending s w ++ tokens_from next rest

passed : (s : State) (w rest : List ℕ) → list_all is_high w ≡ true → HoldsBefore w s → Passed s w rest
passed s [] rest h k = record { next = s; holds = ended s k; same = ap (λ ts. ts ++ tokens_from s rest) (sym (none_pending s)) }
passed s (b ∷ w) rest h k =
    let p = and_parts (is_high b) (list_all is_high w) h in
    let t = inside s b w p.0 k in
    let m = passed (whole_step s b).next w rest p.1 t.holds in
    let after : List HtmlToken = tokens_from m.next rest in
    record {
      next = m.next;
      holds = m.holds;
      same = ap₂ (λ x y. x ++ y) t.emits (m.same ∙ ap (λ x. x ++ after) t.same)
          ∙ sym (append_assoc (pending s (b ∷ [])) (pending s w) after) ∙ ap (λ x. x ++ after) (more_pending s b w);
    }

-- the end of a text

flushed_utf8 : (s : State) (bytes : List ℕ) → IsUtf8 bytes → Returns s → AreUtf8 (T.flushed s bytes false).emits
flushed_utf8 T.data_state bytes u h = run_utf8 bytes u
flushed_utf8 (T.raw r) bytes u h = run_utf8 bytes u
flushed_utf8 (T.double_quoted tag key value) bytes u h = IsUtf8-nil
flushed_utf8 (T.single_quoted tag key value) bytes u h = IsUtf8-nil
flushed_utf8 (T.unquoted tag key value) bytes u h = IsUtf8-nil
flushed_utf8 _ bytes u h = absurd h

end_utf8 : (s : State) → Holds s → AreUtf8 (T.at_end s)
end_utf8 T.tag_open h = run_utf8 (codes "<") (all_low (codes "<") refl)
end_utf8 T.end_tag_open h = run_utf8 (codes "</") (all_low (codes "</") refl)
end_utf8 (T.raw_less_than_sign r) h = run_utf8 (codes "<") (all_low (codes "<") refl)
end_utf8 (T.raw_end_tag_open r) h = run_utf8 (codes "</") (all_low (codes "</") refl)
end_utf8 (T.raw_end_tag_name r buffer) h = run_utf8 (codes "</" ++ buffer) (IsUtf8-append (codes "</") buffer (all_low (codes "</") refl) (IsUtf8-from_ascii buffer h))
end_utf8 (T.bogus_comment bytes) h = comment_utf8 bytes h
end_utf8 (T.markup_declaration_open buffer) h = comment_utf8 buffer h
end_utf8 T.comment_start h = comment_utf8 [] IsUtf8-nil
end_utf8 T.comment_start_dash h = comment_utf8 [] IsUtf8-nil
end_utf8 (T.comment bytes) h = comment_utf8 bytes h
end_utf8 (T.comment_less_than_sign bytes) h = comment_utf8 bytes h
end_utf8 (T.comment_less_than_sign_bang bytes) h = comment_utf8 bytes h
end_utf8 (T.comment_less_than_sign_bang_dash bytes) h = comment_utf8 bytes h
end_utf8 (T.comment_less_than_sign_bang_dash_dash bytes) h = comment_utf8 bytes h
end_utf8 (T.comment_end_dash bytes) h = comment_utf8 bytes h
end_utf8 (T.comment_end bytes) h = comment_utf8 bytes h
end_utf8 (T.comment_end_bang bytes) h = comment_utf8 bytes h
end_utf8 T.doctype h = (IsUtf8-nil, IsUtf8-nil)
end_utf8 (T.character_reference s) h = flushed_utf8 s (codes "&") (all_low (codes "&") refl) h
end_utf8 (T.named_character_reference s buffer) h = flushed_utf8 s (named_value (T.is_value s) buffer []) (named_value_text (T.is_value s) buffer [] h.1) h.0
end_utf8 (T.numeric_character_reference s) h = flushed_utf8 s (codes "&#") (all_low (codes "&#") refl) h
end_utf8 (T.hexadecimal_start s x) h = flushed_utf8 s (codes "&#" ++ x ∷ []) (IsUtf8-append (codes "&#") (x ∷ []) (all_low (codes "&#") refl) (one_byte x h.1)) h.0
end_utf8 (T.decimal_start s) h = flushed_utf8 s (codes "&#") (all_low (codes "&#") refl) h
end_utf8 (T.hexadecimal s code) h = flushed_utf8 s (number_value code) (number_text code) h
end_utf8 (T.decimal s code) h = flushed_utf8 s (number_value code) (number_text code) h
end_utf8 _ h = IsUtf8-nil

-- a whole text

abbrev Reads : List ℕ → Type 0
Reads text = (s : State) → Holds s → AreUtf8 (tokens_from s text)

character_first : (b : ℕ) (w rest : List ℕ) → IsCharacter b w → IsUtf8 rest → Reads rest → Reads (b ∷ (w ++ rest))
character_first b w rest a u f = λ s i.
    let x : Step = whole_step s b in
    let g = first_good b w a s i in
    let m = passed x.next w rest a.high g.1 in
    subst AreUtf8 (append_assoc x.emits (pending x.next w) (tokens_from m.next rest) ∙ ap (λ ts. x.emits ++ ts) (sym m.same))
    (both_utf8 (x.emits ++ pending x.next w) (tokens_from m.next rest) g.0 (f m.next m.holds))

pub text_utf8 : (text : List ℕ) → IsUtf8 text → (s : State) → Holds s → AreUtf8 (tokens_from s text)
text_utf8 text h = by_characters Reads end_utf8 character_first text h

-- line feeds, and the byte order mark

no_returns : (w : List ℕ) → list_all is_high w ≡ true → list_all is_no_return w ≡ true
no_returns [] h = refl
no_returns (b ∷ w) h =
    let p = and_parts (is_high b) (list_all is_high w) h in
    and_from (is_no_return b) (list_all is_no_return w) (rw (no_byte b 13 p.0 refl) refl) (no_returns w p.1)

return_first : (b : ℕ) (rest : List ℕ) → (b == 13) ≡ true → IsUtf8 (with_feeds rest) → IsUtf8 (with_feeds (b ∷ rest))
return_first b [] y h = rw y (one_byte 10 (omega arith))
return_first b (c ∷ rest) y h =
    rw y (cond_both (c == 10) (with_feeds (c ∷ rest)) (10 ∷ with_feeds (c ∷ rest)) IsUtf8 (λ _. h)
    (λ _. IsUtf8-append (10 ∷ []) (with_feeds (c ∷ rest)) (one_byte 10 (omega arith)) h))

fed_first : (b : ℕ) (w rest : List ℕ) → IsCharacter b w → IsUtf8 rest → IsUtf8 (with_feeds rest) → IsUtf8 (with_feeds (b ∷ (w ++ rest)))
fed_first b w rest a u h = elim (cases_Bool (b == 13)) [
  | inl y ↦ subst (λ v. IsUtf8 (with_feeds (b ∷ (v ++ rest)))) (sym (at_byte b 13 w a y refl)) (return_first b rest y h)
  | inr n ↦ (
      let none : list_all is_no_return (b ∷ w) ≡ true = and_from (is_no_return b) (list_all is_no_return w) (rw n refl) (no_returns w a.high) in
      subst IsUtf8 (sym (feed-word (b ∷ w) rest none)) (IsUtf8-append (b ∷ w) (with_feeds rest) a.text h))
]

feeds_utf8 : (s : List ℕ) → IsUtf8 s → IsUtf8 (with_feeds s)
feeds_utf8 s h = by_characters (λ t. IsUtf8 (with_feeds t)) IsUtf8-nil fed_first s h

past_mark : (page : List ℕ) → IsUtf8 page → starts_with ◌==◌ page (0xEF ∷ 0xBB ∷ 0xBF ∷ []) ≡ true → IsUtf8 (drop 3 page)
unfolding encode
past_mark [] h s = absurd (cc)
past_mark (x ∷ []) h s = absurd (let p = and_parts (0xEF == x) false s in cc)
past_mark (x ∷ y ∷ []) h s = absurd (let p = and_parts (0xEF == x) ((0xBB == y) && false) s in let q = and_parts (0xBB == y) false p.1 in cc)
past_mark (x ∷ y ∷ z ∷ rest) h s =
    let p = and_parts (0xEF == x) ((0xBB == y) && ((0xBF == z) && true)) s in
    let q = and_parts (0xBB == y) ((0xBF == z) && true) p.1 in
    let r = and_parts (0xBF == z) true q.1 in
    let e = eqb-true 0xEF x p.0 in
    let f = eqb-true 0xBB y q.0 in
    let g = eqb-true 0xBF z r.0 in
    IsUtf8-past_char (x ∷ y ∷ z ∷ rest) rest 0xFEFF h (λ i. sym e i ∷ sym f i ∷ sym g i ∷ rest)

mark_utf8 : (page : List ℕ) → IsUtf8 page → IsUtf8 (without_mark page)
mark_utf8 page h =
    cond_both (starts_with ◌==◌ page (0xEF ∷ 0xBB ∷ 0xBF ∷ [])) (drop 3 page) page IsUtf8 (λ y. past_mark page h y) (λ _. h)

pub page_utf8 : (page : List ℕ) → IsUtf8 page → AreUtf8 (html_tokens page)
page_utf8 page h = text_utf8 (with_feeds (without_mark page)) (feeds_utf8 (without_mark page) (mark_utf8 page h)) T.data_state tt
