-- The name of a tag, byte by byte.
use Rattle.std.proofs.Common.{arith, ◌≡◌, ℕ, ◌+◌, ◌<◌, Bool, true, false, ◌==◌, ◌||◌, ◌&&◌, not, List, [], ◌∷◌, ◌++◌, length, take, drop, get_or, refl, ap, ap₂, sym, subst, ◌∙◌, inl, inr, append_assoc, append-nil, if◌then◌else◌, true≢false}
use Rattle.std.specs.Char.{is_ascii_alphabetic, to_ascii_lowercase}
use Rattle.std.specs.List.{list_all}
use Rattle.std.proofs.lemmas.Bool.{and_parts, cases_Bool, eqb-true, not-true}
use Rattle.std.proofs.lemmas.List.{drop_more, take_more}
use Rattle.tl_html_spec.specs.HtmlTokenizer.{OpenTag, State, Step, data_state, end_tag_open, ends_name, is_white_space, new_tag, tag_name, tag_open, to, whole_step, with_letter}
use Rattle.tl_html_spec.specs.Reader.{Reader, after, at, emitted, feed, read}
use Rattle.tl_patch_spec.specs.Markup.{is_name, is_name_byte}
use Rattle.tl_patch_spec.proofs.Sets.{neither}
use Rattle.tl_patch_spec.proofs.Writing.{Reads, then_reads}
use Rattle.tl_patch.specs.Places.{has_name_end}
use Rattle.tl_patch_spec.specs.TagNames.{IsInName}

-- a letter is no other byte
letter_is_not : (b c : ℕ) → is_ascii_alphabetic b ≡ true → is_ascii_alphabetic c ≡ false → (b == c) ≡ false
letter_is_not b c h n = elim (cases_Bool (b == c)) [
  | inl y ↦ absurd (true≢false (sym h ∙ ap is_ascii_alphabetic (eqb-true b c y) ∙ n))
  | inr m ↦ m
]

tag_open_step : (b : ℕ) → is_ascii_alphabetic b ≡ true → whole_step tag_open b ≡ to (tag_name (with_letter (new_tag false) b))
tag_open_step b h =
    let a = letter_is_not b 33 h refl in
    let c = letter_is_not b 47 h refl in
    let d = letter_is_not b 63 h refl in
    let e = letter_is_not b 62 h refl in
    let f = letter_is_not b 9 h refl in
    let g = letter_is_not b 10 h refl in
    let i = letter_is_not b 12 h refl in
    let j = letter_is_not b 32 h refl in
    simp (a, c, d, h, e, f, g, i, j)

end_tag_open_step : (b : ℕ) → is_ascii_alphabetic b ≡ true → whole_step end_tag_open b ≡ to (tag_name (with_letter (new_tag true) b))
end_tag_open_step b h =
    let c = letter_is_not b 47 h refl in
    let e = letter_is_not b 62 h refl in
    let f = letter_is_not b 9 h refl in
    let g = letter_is_not b 10 h refl in
    let i = letter_is_not b 12 h refl in
    let j = letter_is_not b 32 h refl in
    simp (c, h, e, f, g, i, j)

name_step : (tag : OpenTag) (c : ℕ) → ends_name c ≡ false → whole_step (tag_name tag) c ≡ to (tag_name (with_letter tag c))
name_step tag c h =
    let p = neither (is_white_space c || (c == 47)) (c == 62) h in
    let q = neither (is_white_space c) (c == 47) p.0 in
    simp (q.0, q.1, p.1)

-- a byte that ends no name is no return
no_return : (b : ℕ) → ends_name (feed b) ≡ false → (b == 13) ≡ false
no_return b h = elim (cases_Bool (b == 13)) [
  | inl y ↦ absurd (true≢false (ap (λ (v : Bool). ends_name (if v then 10 else b)) (sym y) ∙ h))
  | inr n ↦ n
]

abbrev in_state : State → Bool → Reader
in_state s v = record { state = s; after_return = v }

-- a byte that is no return brings one state to another, and nothing is emitted
byte_reads : (s t : State) (b : ℕ) → (b == 13) ≡ false → whole_step s (feed b) ≡ to t → Reads s (b ∷ []) [] t
unfolding read
byte_reads s t b n e = record {
  tokens_are = ap (λ (x : Step). x.emits ++ []) e;
  state_is = ap₂ (λ (q : State) (v : Bool). in_state q v) (ap (λ (x : Step). x.next) e) n;
}

letter_fed : (b : ℕ) → is_ascii_alphabetic b ≡ true → feed b ≡ b
letter_fed b h = ap (λ (v : Bool). if v then 10 else b) (letter_is_not b 13 h refl)

name_byte : (tag : OpenTag) (b : ℕ) → ends_name (feed b) ≡ false → Reads (tag_name tag) (b ∷ []) [] (tag_name (with_letter tag (feed b)))
name_byte tag b h = byte_reads (tag_name tag) (tag_name (with_letter tag (feed b))) b (no_return b h) (name_step tag (feed b) h)

-- a name goes on with each byte that ends none

pub name_goes_on : (text : List ℕ) (n : ℕ) → n < length text → ends_name (feed (get_or text n 0)) ≡ false → (is_end : Bool) → IsInName is_end n text → IsInName is_end (n + 1) text
name_goes_on text n l h is_end p =
    let b : ℕ = get_or text n 0 in
    let r = then_reads data_state (tag_name p.0) (tag_name (with_letter p.0 (feed b))) (take n text) (b ∷ []) [] []
    (record { tokens_are = p.2; state_is = p.1 }) (name_byte p.0 b h) in (
      with_letter p.0 (feed b),
      ap (after (at data_state)) (take_more text n 0 l) ∙ r.state_is,
      ap (emitted (at data_state)) (take_more text n 0 l) ∙ r.tokens_are,
      p.3,
      p.4,
    )

pub end_goes_on : (text : List ℕ) (n : ℕ) → n < length text → ends_name (feed (get_or text n 0)) ≡ false → has_name_end (drop (n + 1) text) ≡ has_name_end (drop n text)
end_goes_on text n l h =
    sym (ap has_name_end (drop_more text n 0 l) ∙ ap (λ q. q || has_name_end (drop (n + 1) text)) h)

-- it begins with a letter

less_reads : Reads data_state (60 ∷ []) [] tag_open
unfolding read
less_reads = record { tokens_are = refl; state_is = refl }

slash_reads : Reads data_state (60 ∷ 47 ∷ []) [] end_tag_open
unfolding read
slash_reads = record { tokens_are = refl; state_is = refl }

first_letter : (b : ℕ) → is_ascii_alphabetic b ≡ true → Reads tag_open (b ∷ []) [] (tag_name (with_letter (new_tag false) b))
first_letter b h =
    byte_reads tag_open (tag_name (with_letter (new_tag false) b)) b (letter_is_not b 13 h refl) (ap (whole_step tag_open) (letter_fed b h) ∙ tag_open_step b h)

first_end_letter : (b : ℕ) → is_ascii_alphabetic b ≡ true → Reads end_tag_open (b ∷ []) [] (tag_name (with_letter (new_tag true) b))
first_end_letter b h =
    byte_reads end_tag_open (tag_name (with_letter (new_tag true) b)) b (letter_is_not b 13 h refl) (ap (whole_step end_tag_open) (letter_fed b h) ∙ end_tag_open_step b h)

start_begins : (b : ℕ) → is_ascii_alphabetic b ≡ true → Reads data_state (60 ∷ b ∷ []) [] (tag_name (with_letter (new_tag false) b))
start_begins b h = then_reads data_state tag_open (tag_name (with_letter (new_tag false) b)) (60 ∷ []) (b ∷ []) [] [] less_reads (first_letter b h)

end_begins : (b : ℕ) → is_ascii_alphabetic b ≡ true → Reads data_state (60 ∷ 47 ∷ b ∷ []) [] (tag_name (with_letter (new_tag true) b))
end_begins b h = then_reads data_state end_tag_open (tag_name (with_letter (new_tag true) b)) (60 ∷ 47 ∷ []) (b ∷ []) [] [] slash_reads (first_end_letter b h)

pub start_name_begins : (text : List ℕ) → 1 < length text → get_or text 0 0 ≡ 60 → is_ascii_alphabetic (get_or text 1 0) ≡ true → IsInName false 2 text
start_name_begins [] l e h = absurd (omega arith)
start_name_begins (a ∷ []) l e h = absurd (omega arith)
start_name_begins (a ∷ b ∷ text) l e h =
    let r = start_begins b h in
    (with_letter (new_tag false) b, ap (λ c. after (at data_state) (c ∷ b ∷ [])) e ∙ r.state_is, ap (λ c. emitted (at data_state) (c ∷ b ∷ [])) e ∙ r.tokens_are, refl, refl)

pub end_name_begins : (text : List ℕ) → 2 < length text → get_or text 0 0 ≡ 60 → get_or text 1 0 ≡ 47 → is_ascii_alphabetic (get_or text 2 0) ≡ true → IsInName true 3 text
end_name_begins [] l e f h = absurd (omega arith)
end_name_begins (a ∷ []) l e f h = absurd (omega arith)
end_name_begins (a ∷ b ∷ []) l e f h = absurd (omega arith)
end_name_begins (a ∷ b ∷ c ∷ text) l e f h =
    let r = end_begins c h in (
      with_letter (new_tag true) c,
      ap₂ (λ x y. after (at data_state) (x ∷ y ∷ c ∷ [])) e f ∙ r.state_is,
      ap₂ (λ x y. emitted (at data_state) (x ∷ y ∷ c ∷ [])) e f ∙ r.tokens_are,
      refl,
      refl,
    )

-- a name that is written

abbrev pub named : Bool → List ℕ → OpenTag
named is_end name = record { is_end = is_end; name = name; attributes = [] }

record IsPlain (b : ℕ) : Type 0 where
  no_return : (b == 13) ≡ false
  stays : ends_name b ≡ false
  no_nul : (b == 0) ≡ false
  lower : to_ascii_lowercase b ≡ b

plain_byte : (b : ℕ) → is_name_byte b ≡ true → IsPlain b
plain_byte b h =
    let p = and_parts (not (b == 13)) (not (ends_name b) && (not (b == 0) && (to_ascii_lowercase b == b))) h in
    let q = and_parts (not (ends_name b)) (not (b == 0) && (to_ascii_lowercase b == b)) p.1 in
    let r = and_parts (not (b == 0)) (to_ascii_lowercase b == b) q.1 in
    record {
      no_return = not-true (b == 13) p.0;
      stays = not-true (ends_name b) q.0;
      no_nul = not-true (b == 0) r.0;
      lower = eqb-true (to_ascii_lowercase b) b r.1;
    }

plain_letter : (is_end : Bool) (w : List ℕ) (b : ℕ) → IsPlain b → with_letter (named is_end w) b ≡ named is_end (w ++ b ∷ [])
plain_letter is_end w b p = simp (p.lower, p.no_nul)

plain_reads : (is_end : Bool) (w : List ℕ) (b : ℕ) → IsPlain b → Reads (tag_name (named is_end w)) (b ∷ []) [] (tag_name (named is_end (w ++ b ∷ [])))
plain_reads is_end w b p =
    let same : feed b ≡ b = ap (λ (v : Bool). if v then 10 else b) p.no_return in
    byte_reads (tag_name (named is_end w)) (tag_name (named is_end (w ++ b ∷ []))) b p.no_return
    (ap (whole_step (tag_name (named is_end w))) same ∙ name_step (named is_end w) b p.stays ∙ ap (λ (t : OpenTag). to (tag_name t)) (plain_letter is_end w b p))

run_reads : (is_end : Bool) (w name : List ℕ) → list_all is_name_byte name ≡ true → Reads (tag_name (named is_end w)) name [] (tag_name (named is_end (w ++ name)))
run_reads is_end w [] h = record { tokens_are = refl; state_is = ap (λ n. at (tag_name (named is_end n))) (sym (append-nil w)) }
run_reads is_end w (b ∷ name) h =
    let c = and_parts (is_name_byte b) (list_all is_name_byte name) h in
    let both = then_reads (tag_name (named is_end w)) (tag_name (named is_end (w ++ b ∷ []))) (tag_name (named is_end ((w ++ b ∷ []) ++ name))) (b ∷ []) name [] []
    (plain_reads is_end w b (plain_byte b c.0)) (run_reads is_end (w ++ b ∷ []) name c.1) in
    record { tokens_are = both.tokens_are; state_is = both.state_is ∙ ap (λ n. at (tag_name (named is_end n))) (append_assoc w (b ∷ []) name) }

first_plain : (is_end : Bool) (b : ℕ) → IsPlain b → with_letter (new_tag is_end) b ≡ named is_end (b ∷ [])
first_plain is_end b p = plain_letter is_end [] b p

pub start_name_reads : (name : List ℕ) → is_name name ≡ true → Reads data_state (60 ∷ name) [] (tag_name (named false name))
start_name_reads [] h = absurd (true≢false (sym h))
start_name_reads (b ∷ name) h =
    let c = and_parts (is_ascii_alphabetic b) (list_all is_name_byte (b ∷ name)) h in
    let d = and_parts (is_name_byte b) (list_all is_name_byte name) c.1 in
    let first : Reads data_state (60 ∷ b ∷ []) [] (tag_name (named false (b ∷ []))) =
    subst (λ (t : OpenTag). Reads data_state (60 ∷ b ∷ []) [] (tag_name t)) (first_plain false b (plain_byte b d.0)) (start_begins b c.0) in
    then_reads data_state (tag_name (named false (b ∷ []))) (tag_name (named false (b ∷ name))) (60 ∷ b ∷ []) name [] [] first (run_reads false (b ∷ []) name d.1)

pub end_name_reads : (name : List ℕ) → is_name name ≡ true → Reads data_state (60 ∷ 47 ∷ name) [] (tag_name (named true name))
end_name_reads [] h = absurd (true≢false (sym h))
end_name_reads (b ∷ name) h =
    let c = and_parts (is_ascii_alphabetic b) (list_all is_name_byte (b ∷ name)) h in
    let d = and_parts (is_name_byte b) (list_all is_name_byte name) c.1 in
    let first : Reads data_state (60 ∷ 47 ∷ b ∷ []) [] (tag_name (named true (b ∷ []))) =
    subst (λ (t : OpenTag). Reads data_state (60 ∷ 47 ∷ b ∷ []) [] (tag_name t)) (first_plain true b (plain_byte b d.0)) (end_begins b c.0) in
    then_reads data_state (tag_name (named true (b ∷ []))) (tag_name (named true (b ∷ name))) (60 ∷ 47 ∷ b ∷ []) name [] [] first (run_reads true (b ∷ []) name d.1)
