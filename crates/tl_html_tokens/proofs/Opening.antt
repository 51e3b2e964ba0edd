-- How a piece begins that is a tag.
use Rattle.std.proofs.Common.{◌≡◌, ◌⊎◌, ℕ, Bool, true, false, ◌==◌, ◌&&◌, List, [], ◌∷◌, ◌++◌, map, refl, ap, sym, subst, ◌∙◌, inl, inr, true≢false, append-nil, append_assoc, if◌then◌else◌}
use Rattle.std.specs.Prelude.{◌||◌}
use Rattle.std.specs.Char.{is_ascii_alphabetic, to_ascii_lowercase}
use Rattle.std.specs.List.{list_all}
use Rattle.std.specs.Str.{bytes_eq}
use Rattle.std.proofs.lemmas.Bool.{and_from, and_parts, cases_Bool, eqb-true, or_from, or_left, or_right}
use Rattle.tl_spec.proofs.Lex.Bytes.{not_this}
use Rattle.tl_html_spec.specs.HtmlTokenizer as T
use Rattle.tl_html_spec.specs.HtmlTokenizer.{HtmlToken, OpenTag, Raw, State, Step, at_end, ends_name, is_appropriate, is_white_space, new_tag, own_end_tag, settled, step, whole_step}
use Rattle.tl_html_spec.specs.Reader.{Reader, at, feed, next, read, tokens_of}
use Rattle.tl_html_spec.proofs.Resting.{neither_again, settled_at_once}
use Rattle.tl_html_tokens.specs.Inner.Machine as M
use Rattle.tl_html_tokens.specs.Modes.{state_of}
use Rattle.tl_html_tokens.specs.Inner.Stages.{kind_at_end}
use Rattle.tl_html_tokens.specs.Whole.{is_tag_kind}
use Rattle.tl_html_tokens.specs.declared.mode.Mode.{Mode}
use Rattle.tl_html_tokens.specs.declared.mode.Mode.TheVariants as mode
use Rattle.tl_html_tokens.specs.declared.stage.Stage.{Stage}
use Rattle.tl_html_tokens.specs.declared.stage.Stage.TheVariants as stage
use Rattle.tl_html_tokens.proofs.Ending.{end_kind}
use Rattle.tl_html_tokens.proofs.Others.{IsAt, Next, Restless, go, is_tag, leads, no_tag, other_no_tag, turn_leads}
use Rattle.tl_html_tokens.proofs.Reading.{first_is, read_plain, reader}
use Rattle.tl_html_tokens.proofs.Steps.{IsRaw, IsStage, own_is, raw_of}

-- where a tag comes, each stage leads to it

clash : {A : Type 0} (v : Bool) → v ≡ true → v ≡ false → A
clash v h k = absurd (true≢false (sym h ∙ k))

must : (c : Stage) (w : List ℕ) (s : State) (v : Bool) (ts : List HtmlToken) (b : ℕ) (text : List ℕ) → IsAt c w s v ts → Restless (reader s v) (b ∷ text) →
    is_tag (ts ++ tokens_of (reader s v) (b ∷ text)) ≡ true → (v && (b == 10)) ≡ false → turn_leads (M.turn c w (feed b)) ≡ true
must c w s v ts b text h n t p =
    let x : Next c w s v ts b = go c w s v ts b h n.0 in
    let es : List HtmlToken = (read (reader s v) b).emits in
    elim (cases_Bool (leads x.to)) [
      | inl y ↦ ap turn_leads (x.turns p) ∙ y
      | inr f ↦ clash (is_tag (ts ++ (es ++ tokens_of (next (reader s v) b) text))) t
          (ap is_tag (sym (append_assoc ts es (tokens_of (next (reader s v) b) text))) ∙ no_tag text x.to x.word (next (reader s v) b).state (b == 13) (ts ++ es) x.here f n.1)
    ]

must_end : (c : Stage) (w : List ℕ) (s : State) (ts : List HtmlToken) → IsStage w c s ts → is_tag (ts ++ at_end s) ≡ true → is_tag_kind (kind_at_end c) ≡ true
must_end c w s ts h t = elim (cases_Bool (is_tag_kind (kind_at_end c))) [
  | inl y ↦ y
  | inr n ↦ clash (is_tag (ts ++ at_end s)) t (other_no_tag (kind_at_end c) (ts ++ at_end s) n (end_kind w c s ts h))
]

-- steps of the reader

same_feed : (p : ℕ → Bool) (b : ℕ) → p 10 ≡ false → p (feed b) ≡ true → (b == 13) ≡ false
same_feed p b ten h = elim (cases_Bool (b == 13)) [
  | inl y ↦ clash (p (feed b)) h (ap (λ c. p (feed c)) (eqb-true b 13 y) ∙ ten)
  | inr n ↦ n
]

fed : (b : ℕ) → (b == 13) ≡ false → feed b ≡ b
fed b n = ap (λ (x : Bool). if x then 10 else b) n

-- the byte that it is
byte_is : (c b : ℕ) → (10 == c) ≡ false → (feed b == c) ≡ true → b ≡ c
byte_is c b ten h = sym (fed b (same_feed (λ x. x == c) b ten h)) ∙ eqb-true (feed b) c h

next_is : (s r : State) (b : ℕ) (x : Step) → read (at s) b ≡ x → x.next ≡ r → (b == 13) ≡ false → next (at s) b ≡ at r
next_is s r b x e f n =
    ap (λ (y : Step). let z : Reader = record { state = y.next; after_return = b == 13 } in z) e
    ∙ ap (λ (y : State). let z : Reader = record { state = y; after_return = b == 13 } in z) f
    ∙ ap (λ (v : Bool). let z : Reader = record { state = r; after_return = v } in z) n

pub goes_is : (s r : State) (b : ℕ) (t : List ℕ) (x : Step) → read (at s) b ≡ x → x.next ≡ r → x.emits ≡ [] → (b == 13) ≡ false → tokens_of (at s) (b ∷ t) ≡ tokens_of (at r) t
goes_is s r b t x e f z n =
    ap (λ (y : Step). y.emits ++ tokens_of (next (at s) b) t) e
    ∙ ap (λ es. es ++ tokens_of (next (at s) b) t) z
    ∙ ap (λ (y : Reader). tokens_of y t) (next_is s r b x e f n)

pub plain_is : (s : State) (b : ℕ) (x : Step) → whole_step s (feed b) ≡ x → read (at s) b ≡ x
plain_is s b x e = read_plain s false b refl ∙ e

pub alike_is : (s r : State) (b : ℕ) (t : List ℕ) → whole_step s (feed b) ≡ whole_step r (feed b) → tokens_of (at s) (b ∷ t) ≡ tokens_of (at r) (b ∷ t)
alike_is s r b t e =
    let is : read (at s) b ≡ read (at r) b = read_plain s false b refl ∙ e ∙ sym (read_plain r false b refl) in
    ap (λ (x : Step). x.emits ++ tokens_of (record { state = x.next; after_return = b == 13 }) t) is

-- after `<`

tag_open_leads : (b : ℕ) → turn_leads (M.tag_open b) ≡ true → ((b == 47) ≡ true) ⊎ (((b == 33) ≡ false) × ((b == 47) ≡ false) × (is_ascii_alphabetic b ≡ true))
tag_open_leads b h = elim (cases_Bool (b == 33)) [
  | inl y ↦ (let no : false ≡ true = rw y at h in absurd (true≢false (sym no)))
  | inr e ↦ elim (cases_Bool (b == 47)) [
    | inl y ↦ inl y
    | inr s ↦ elim (cases_Bool (is_ascii_alphabetic b)) [
      | inl y ↦ inr (e, s, y)
      | inr a ↦ elim (cases_Bool (b == 63)) [
        | inl y ↦ (let no : false ≡ true = rw (e, s, a, y) at h in absurd (true≢false (sym no)))
        | inr q ↦ (let no : false ≡ true = rw (e, s, a, q) at h in absurd (true≢false (sym no)))
      ]
    ]
  ]
]

end_tag_open_leads : (b : ℕ) → turn_leads (M.end_tag_open b) ≡ true → is_ascii_alphabetic b ≡ true
end_tag_open_leads b h = elim (cases_Bool (is_ascii_alphabetic b)) [
  | inl y ↦ y
  | inr a ↦ elim (cases_Bool (b == 62)) [
    | inl y ↦ (let no : false ≡ true = rw (a, y) at h in absurd (true≢false (sym no)))
    | inr n ↦ (let no : false ≡ true = rw (a, n) at h in absurd (true≢false (sym no)))
  ]
]

name_once : (e : Bool) (b : ℕ) → (step (T.tag_name (new_tag e)) b).again ≡ false
name_once e b = neither_again (is_white_space b) _ _ refl (neither_again (b == 47) _ _ refl (neither_again (b == 62) _ _ (neither_again e _ _ refl refl) refl))

pub named : (s : State) (e : Bool) (b : ℕ) → step s b ≡ T.again_in (T.tag_name (new_tag e)) → whole_step s b ≡ whole_step (T.tag_name (new_tag e)) b
named s e b h =
    let N : Step = step (T.tag_name (new_tag e)) b in
    ap (λ (x : Step). settled 3 x b) h ∙ settled_at_once 2 N b (name_once e b) ∙ sym (settled_at_once 3 N b (name_once e b))

-- how a tag begins: with `<` or `</` before a letter, or as the end tag of a text of its own
pub data Opening (m : Mode) (bytes : List ℕ) : Type 0 where
  start : (b : ℕ) (t : List ℕ) → bytes ≡ 60 ∷ b ∷ t → is_ascii_alphabetic b ≡ true →
      tokens_of (at (state_of m)) bytes ≡ tokens_of (at (T.tag_name (new_tag false))) (b ∷ t) → Opening m bytes
  end : (b : ℕ) (t : List ℕ) → bytes ≡ 60 ∷ 47 ∷ b ∷ t →
      tokens_of (at (state_of m)) bytes ≡ tokens_of (at (T.tag_name (new_tag true))) (b ∷ t) → Opening m bytes
  own : (r : Raw) (w : List ℕ) (b : ℕ) (t : List ℕ) → bytes ≡ 60 ∷ 47 ∷ (w ++ b ∷ t) → list_all is_ascii_alphabetic w ≡ true → ends_name (feed b) ≡ true →
      is_appropriate r w ≡ true → tokens_of (at (state_of m)) bytes ≡ tokens_of (at (T.before_attribute_name (own_end_tag r))) (b ∷ t) → Opening m bytes

module _ (m : Mode) where
  -- in data

  after_solidus : (u : List ℕ) → Restless (at T.end_tag_open) u → is_tag (tokens_of (at T.end_tag_open) u) ≡ true →
      tokens_of (at (state_of m)) (60 ∷ 47 ∷ u) ≡ tokens_of (at T.end_tag_open) u → Opening m (60 ∷ 47 ∷ u)
  after_solidus [] n t e = clash false (must_end stage.EndTagOpen [] T.end_tag_open [] (refl, refl, refl) t) refl
  after_solidus (c ∷ u) n t e =
      let a = end_tag_open_leads (feed c) (must stage.EndTagOpen [] T.end_tag_open false [] c u (record { stage = (refl, refl, refl); returned = λ _. refl }) n t refl) in
      let first : step T.end_tag_open (feed c) ≡ T.again_in (T.tag_name (new_tag true)) = rw a refl in
      end c u refl (e ∙ alike_is T.end_tag_open (T.tag_name (new_tag true)) c u (named T.end_tag_open true (feed c) first))

  after_less : (u : List ℕ) → Restless (at T.tag_open) u → is_tag (tokens_of (at T.tag_open) u) ≡ true →
      tokens_of (at (state_of m)) (60 ∷ u) ≡ tokens_of (at T.tag_open) u → Opening m (60 ∷ u)
  after_less [] n t e = clash false (must_end stage.TagOpen [] T.tag_open [] (refl, refl, refl) t) refl
  after_less (c ∷ u) n t e = elim (tag_open_leads (feed c) (must stage.TagOpen [] T.tag_open false [] c u (record { stage = (refl, refl, refl); returned = λ _. refl }) n t refl)) [
    | inl y ↦ (
        let is = byte_is 47 c refl y in
        let step0 : read (at T.tag_open) 47 ≡ T.to T.end_tag_open = plain_is T.tag_open 47 (T.to T.end_tag_open) refl in
        let goes : tokens_of (at T.tag_open) (47 ∷ u) ≡ tokens_of (at T.end_tag_open) u = goes_is T.tag_open T.end_tag_open 47 u (T.to T.end_tag_open) step0 refl refl refl in
        let there : next (at T.tag_open) c ≡ at T.end_tag_open = ap (next (at T.tag_open)) is ∙ next_is T.tag_open T.end_tag_open 47 (T.to T.end_tag_open) step0 refl refl in
        subst (λ b. Opening m (60 ∷ b ∷ u)) (sym is)
        (after_solidus u (subst (λ (r : Reader). Restless r u) there n.1)
        (ap is_tag (sym goes) ∙ subst (λ b. is_tag (tokens_of (at T.tag_open) (b ∷ u)) ≡ true) is t)
        (subst (λ b. tokens_of (at (state_of m)) (60 ∷ b ∷ u) ≡ tokens_of (at T.tag_open) (b ∷ u)) is e ∙ goes)))
    | inr p ↦ (
        let n13 = same_feed is_ascii_alphabetic c refl p.2 in
        let letter : is_ascii_alphabetic c ≡ true = ap is_ascii_alphabetic (sym (fed c n13)) ∙ p.2 in
        let first : step T.tag_open (feed c) ≡ T.again_in (T.tag_name (new_tag false)) = rw (p.0, p.1, p.2) refl in
        start c u refl letter (e ∙ alike_is T.tag_open (T.tag_name (new_tag false)) c u (named T.tag_open false (feed c) first)))
  ]

-- in a text of its own

raw_less_leads : (n : Mode) (b : ℕ) → turn_leads (M.raw_less_than n b) ≡ true → (b == 47) ≡ true
raw_less_leads n b h = elim (cases_Bool (b == 47)) [
  | inl y ↦ y
  | inr s ↦ clash (turn_leads (M.after_less_than n b)) (rw s at h) (less_other n b)
]
  where
    choose : (v : Bool) (x y : Rattle.tl_html_tokens.specs.declared.stage.Turn.Turn) → turn_leads x ≡ false → turn_leads y ≡ false → turn_leads (if v then x else y) ≡ false
    choose true x y h k = h
    choose false x y h k = k

    less_other : (n : Mode) (b : ℕ) → turn_leads (M.after_less_than n b) ≡ false
    less_other mode.Script b = choose (b == 33) _ _ refl refl
    less_other mode.ScriptEscaped b = choose (is_ascii_alphabetic b) _ _ refl refl
    less_other _ b = refl

raw_open_leads : (n : Mode) (b : ℕ) → turn_leads (M.raw_end_tag_open n b) ≡ true → is_ascii_alphabetic b ≡ true
raw_open_leads n b h = elim (cases_Bool (is_ascii_alphabetic b)) [
  | inl y ↦ y
  | inr a ↦ (let no : false ≡ true = rw a at h in absurd (true≢false (sym no)))
]

-- after some letters of the name: the name is whole, or has one more letter
data Goes (r : Raw) (w : List ℕ) (b : ℕ) : Type 0 where
  ends : ends_name b ≡ true → is_appropriate r w ≡ true → whole_step (T.raw_end_tag_name r w) b ≡ whole_step (T.before_attribute_name (own_end_tag r)) b → Goes r w b
  more : is_ascii_alphabetic b ≡ true → whole_step (T.raw_end_tag_name r w) b ≡ T.to (T.raw_end_tag_name r (w ++ b ∷ [])) → Goes r w b

raw_name_leads : (n : Mode) (w : List ℕ) (b : ℕ) → turn_leads (M.raw_end_tag_name n w b) ≡ true → Goes (raw_of n) w b
raw_name_leads n w b h =
    let r : Raw = raw_of n in
    let same : M.is_own n w ≡ is_appropriate r w = ap (bytes_eq (map to_ascii_lowercase w)) (sym (own_is n)) in
    elim (cases_Bool (is_white_space b && is_appropriate r w)) [
      | inl y ↦ (
          let p = and_parts (is_white_space b) (is_appropriate r w) y in
          ends (or_left (is_white_space b || (b == 47)) (b == 62) (or_left (is_white_space b) (b == 47) p.0)) p.1 (rw (y, p.0) refl))
      | inr s ↦ elim (cases_Bool ((b == 47) && is_appropriate r w)) [
        | inl y ↦ (
            let p = and_parts (b == 47) (is_appropriate r w) y in
            let white : is_white_space b ≡ false = left_false (is_white_space b) (is_appropriate r w) s p.1 in
            ends (or_left (is_white_space b || (b == 47)) (b == 62) (or_right (is_white_space b) (b == 47) p.0)) p.1 (rw (s, y, white, p.0) refl))
        | inr d ↦ elim (cases_Bool ((b == 62) && is_appropriate r w)) [
          | inl y ↦ (
              let p = and_parts (b == 62) (is_appropriate r w) y in
              let white : is_white_space b ≡ false = left_false (is_white_space b) (is_appropriate r w) s p.1 in
              let solidus : (b == 47) ≡ false = left_false (b == 47) (is_appropriate r w) d p.1 in
              ends (or_right (is_white_space b || (b == 47)) (b == 62) p.0) p.1 (rw (s, d, y, white, solidus, p.0) refl))
          | inr g ↦ elim (cases_Bool (is_ascii_alphabetic b)) [
            | inl y ↦ more y (rw (s, d, g, y) refl)
            | inr a ↦ (
                let no : false ≡ true = rw (same, s, d, g, a) at h in
                absurd (true≢false (sym no)))
          ]
        ]
      ]
    ]
  where
    left_false : (x y : Bool) → (x && y) ≡ false → y ≡ true → x ≡ false
    left_false true y h k = absurd (true≢false (sym k ∙ h))
    left_false false y h k = refl

record Named (r : Raw) (w text : List ℕ) : Type 0 where
  more : List ℕ
  byte : ℕ
  rest : List ℕ
  parts : text ≡ more ++ byte ∷ rest
  letters : list_all is_ascii_alphabetic more ≡ true
  ends : ends_name (feed byte) ≡ true
  own : is_appropriate r (w ++ more) ≡ true
  tokens : tokens_of (at (T.raw_end_tag_name r w)) text ≡ tokens_of (at (T.before_attribute_name (own_end_tag r))) (byte ∷ rest)

raw_named : (n : Mode) → IsRaw n → (text w : List ℕ) → Restless (at (T.raw_end_tag_name (raw_of n) w)) text →
    is_tag (tokens_of (at (T.raw_end_tag_name (raw_of n) w)) text) ≡ true → Named (raw_of n) w text
raw_named n i [] w q t = clash false (must_end (stage.RawEndTagName n) w (T.raw_end_tag_name (raw_of n) w) [] (i, refl, refl) t) refl
raw_named n i (b ∷ text) w q t =
    by_case (λ v. raw_named n i text v) (raw_name_leads n w (feed b)
    (must (stage.RawEndTagName n) w (T.raw_end_tag_name (raw_of n) w) false [] b text (record { stage = (i, refl, refl); returned = λ v. absurd (true≢false (sym v)) }) q t refl))
  where
    by_case : ((v : List ℕ) → Restless (at (T.raw_end_tag_name (raw_of n) v)) text → is_tag (tokens_of (at (T.raw_end_tag_name (raw_of n) v)) text) ≡ true → Named (raw_of n) v text) →
        Goes (raw_of n) w (feed b) → Named (raw_of n) w (b ∷ text)
    by_case deeper (ends e a s) = record {
      more = [];
      byte = b;
      rest = text;
      parts = refl;
      letters = refl;
      ends = e;
      own = subst (λ v. is_appropriate (raw_of n) v ≡ true) (sym (append-nil w)) a;
      tokens = alike_is (T.raw_end_tag_name (raw_of n) w) (T.before_attribute_name (own_end_tag (raw_of n))) b text s;
    }
    by_case deeper (more a s) =
        let r : Raw = raw_of n in
        let n13 = same_feed is_ascii_alphabetic b refl a in
        let same = fed b n13 in
        let letter : is_ascii_alphabetic b ≡ true = ap is_ascii_alphabetic (sym same) ∙ a in
        let S : State = T.raw_end_tag_name r (w ++ b ∷ []) in
        let step0 : read (at (T.raw_end_tag_name r w)) b ≡ T.to S = plain_is (T.raw_end_tag_name r w) b (T.to S) (s ∙ ap (λ c. T.to (T.raw_end_tag_name r (w ++ c ∷ []))) same) in
        let there : next (at (T.raw_end_tag_name r w)) b ≡ at S = next_is (T.raw_end_tag_name r w) S b (T.to S) step0 refl n13 in
        let goes : tokens_of (at (T.raw_end_tag_name r w)) (b ∷ text) ≡ tokens_of (at S) text = goes_is (T.raw_end_tag_name r w) S b text (T.to S) step0 refl refl n13 in
        let rest : Named r (w ++ b ∷ []) text = deeper (w ++ b ∷ []) (subst (λ (x : Reader). Restless x text) there q.1) (ap is_tag (sym goes) ∙ t) in
        record {
          more = b ∷ rest.more;
          byte = rest.byte;
          rest = rest.rest;
          parts = ap (λ x. b ∷ x) rest.parts;
          letters = and_from (is_ascii_alphabetic b) (list_all is_ascii_alphabetic rest.more) letter rest.letters;
          ends = rest.ends;
          own = subst (λ v. is_appropriate r v ≡ true) (append_assoc w (b ∷ []) rest.more) rest.own;
          tokens = goes ∙ rest.tokens;
        }

letter_plain : (b : ℕ) → is_ascii_alphabetic b ≡ true → (is_white_space b ≡ false) × ((b == 47) ≡ false) × ((b == 62) ≡ false)
letter_plain b a =
    let no : (c : ℕ) → is_ascii_alphabetic c ≡ false → (b == c) ≡ false = λ c f. not_this is_ascii_alphabetic b c a f in (
      or_from ((b == 9) || (b == 10) || (b == 12)) (b == 32) (or_from ((b == 9) || (b == 10)) (b == 12) (or_from (b == 9) (b == 10) (no 9 refl) (no 10 refl)) (no 12 refl)) (no 32 refl),
      no 47 refl,
      no 62 refl,
    )

module _ (m n : Mode) (i : IsRaw n) where
  abbrev r : Raw
  r = raw_of n

  after_raw_solidus : (u : List ℕ) → Restless (at (T.raw_end_tag_open r)) u → is_tag (tokens_of (at (T.raw_end_tag_open r)) u) ≡ true →
      tokens_of (at (state_of m)) (60 ∷ 47 ∷ u) ≡ tokens_of (at (T.raw_end_tag_open r)) u → Opening m (60 ∷ 47 ∷ u)
  after_raw_solidus [] q t e = clash false (must_end (stage.RawEndTagOpen n) [] (T.raw_end_tag_open r) [] (i, refl, refl, refl) t) refl
  after_raw_solidus (c ∷ u) q t e =
      let a = raw_open_leads n (feed c) (must (stage.RawEndTagOpen n) [] (T.raw_end_tag_open r) false [] c u (record { stage = (i, refl, refl, refl); returned = λ _. refl }) q t refl) in
      let n13 = same_feed is_ascii_alphabetic c refl a in
      let same = fed c n13 in
      let letter : is_ascii_alphabetic c ≡ true = ap is_ascii_alphabetic (sym same) ∙ a in
      let plain = letter_plain c letter in
      let S : State = T.raw_end_tag_name r (c ∷ []) in
      let first : step (T.raw_end_tag_open r) c ≡ T.again_in (T.raw_end_tag_name r []) = rw letter refl in
      let second : step (T.raw_end_tag_name r []) c ≡ T.to S = rw (plain.0, plain.1, plain.2, letter) refl in
      let whole : whole_step (T.raw_end_tag_open r) c ≡ T.to S = ap (λ (x : Step). settled 3 x c) first ∙ ap (λ (x : Step). settled 2 x c) second in
      let step0 : read (at (T.raw_end_tag_open r)) c ≡ T.to S = plain_is (T.raw_end_tag_open r) c (T.to S) (ap (whole_step (T.raw_end_tag_open r)) same ∙ whole) in
      let there : next (at (T.raw_end_tag_open r)) c ≡ at S = next_is (T.raw_end_tag_open r) S c (T.to S) step0 refl n13 in
      let goes : tokens_of (at (T.raw_end_tag_open r)) (c ∷ u) ≡ tokens_of (at S) u = goes_is (T.raw_end_tag_open r) S c u (T.to S) step0 refl refl n13 in
      let rest : Named r (c ∷ []) u = raw_named n i u (c ∷ []) (subst (λ (x : Reader). Restless x u) there q.1) (ap is_tag (sym goes) ∙ t) in
      own r (c ∷ rest.more) rest.byte rest.rest (ap (λ x. 60 ∷ 47 ∷ c ∷ x) rest.parts) (and_from (is_ascii_alphabetic c) (list_all is_ascii_alphabetic rest.more) letter rest.letters)
      rest.ends rest.own (e ∙ goes ∙ rest.tokens)

  after_raw_less : (u : List ℕ) → Restless (at (T.raw_less_than_sign r)) u → is_tag (tokens_of (at (T.raw_less_than_sign r)) u) ≡ true →
      tokens_of (at (state_of m)) (60 ∷ u) ≡ tokens_of (at (T.raw_less_than_sign r)) u → Opening m (60 ∷ u)
  after_raw_less [] q t e = clash false (must_end (stage.RawLessThan n) [] (T.raw_less_than_sign r) [] (i, refl, refl, refl) t) refl
  after_raw_less (c ∷ u) q t e =
      let y = raw_less_leads n (feed c) (must (stage.RawLessThan n) [] (T.raw_less_than_sign r) false [] c u (record { stage = (i, refl, refl, refl); returned = λ _. refl }) q t refl) in
      let is = byte_is 47 c refl y in
      let L : State = T.raw_less_than_sign r in
      let S : State = T.raw_end_tag_open r in
      let step0 : read (at L) 47 ≡ T.to S = plain_is L 47 (T.to S) refl in
      let goes : tokens_of (at L) (47 ∷ u) ≡ tokens_of (at S) u = goes_is L S 47 u (T.to S) step0 refl refl refl in
      let there : next (at L) c ≡ at S = ap (next (at L)) is ∙ next_is L S 47 (T.to S) step0 refl refl in
      subst (λ b. Opening m (60 ∷ b ∷ u)) (sym is)
      (after_raw_solidus u (subst (λ (x : Reader). Restless x u) there q.1)
      (ap is_tag (sym goes) ∙ subst (λ b. is_tag (tokens_of (at L) (b ∷ u)) ≡ true) is t)
      (subst (λ b. tokens_of (at (state_of m)) (60 ∷ b ∷ u) ≡ tokens_of (at L) (b ∷ u)) is e ∙ goes))

-- the first byte

data First (m : Mode) (b : ℕ) : Type 0 where
  opens : (b == 60) ≡ true → M.first m b ≡ stage.TagOpen → First m b
  less : (n : Mode) → (b == 60) ≡ true → M.first m b ≡ stage.RawLessThan n → First m b
  other : leads (M.first m b) ≡ false → First m b

by_test : (x : Stage) (m : Mode) (b : ℕ) (v : Bool) (y z : Stage) → x ≡ (if v then y else z) → (v ≡ true → x ≡ y → First m b) → (v ≡ false → x ≡ z → First m b) → First m b
by_test x m b true y z e f g = f refl e
by_test x m b false y z e f g = g refl e

rcdata_first : (m : Mode) (b : ℕ) → M.first m b ≡ M.in_rcdata m b → First m b
rcdata_first m b e =
    by_test (M.first m b) m b (b == 38) _ _ e (λ _ k. other (ap leads k))
    (λ _ k. by_test (M.first m b) m b (b == 60) _ _ k (λ y j. less m y j) (λ _ j. other (ap leads j)))

rawtext_first : (m : Mode) (b : ℕ) → M.first m b ≡ M.in_rawtext m b → First m b
rawtext_first m b e = by_test (M.first m b) m b (b == 60) _ _ e (λ y j. less m y j) (λ _ j. other (ap leads j))

escaped_first : (m dash : Mode) (b : ℕ) → M.first m b ≡ M.in_escaped dash b → First m b
escaped_first m dash b e =
    by_test (M.first m b) m b (b == 45) _ _ e (λ _ k. other (ap leads k))
    (λ _ k. by_test (M.first m b) m b (b == 60) _ _ k (λ y j. less mode.ScriptEscaped y j) (λ _ j. other (ap leads j)))

first_leads : (m : Mode) (b : ℕ) → First m b
first_leads mode.Data b =
    by_test (M.first mode.Data b) mode.Data b (b == 38) _ _ refl (λ _ k. other (ap leads k))
    (λ _ k. by_test (M.first mode.Data b) mode.Data b (b == 60) _ _ k (λ y j. opens y j) (λ _ j. other (ap leads j)))
first_leads mode.Title b = rcdata_first mode.Title b refl
first_leads mode.Textarea b = rcdata_first mode.Textarea b refl
first_leads mode.ContextText b = rcdata_first mode.ContextText b refl
first_leads mode.Style b = rawtext_first mode.Style b refl
first_leads mode.Xmp b = rawtext_first mode.Xmp b refl
first_leads mode.Iframe b = rawtext_first mode.Iframe b refl
first_leads mode.Noembed b = rawtext_first mode.Noembed b refl
first_leads mode.Noframes b = rawtext_first mode.Noframes b refl
first_leads mode.Noscript b = rawtext_first mode.Noscript b refl
first_leads mode.Script b = rawtext_first mode.Script b refl
first_leads mode.ScriptEscaped b = escaped_first mode.ScriptEscaped mode.ScriptEscapedDash b refl
first_leads mode.ScriptEscapedDash b = escaped_first mode.ScriptEscapedDash mode.ScriptEscapedDashDash b refl
first_leads mode.ScriptEscapedDashDash b =
    by_test (M.first mode.ScriptEscapedDashDash b) mode.ScriptEscapedDashDash b (b == 45) _ _ refl (λ _ k. other (ap leads k))
    (λ _ k. by_test (M.first mode.ScriptEscapedDashDash b) mode.ScriptEscapedDashDash b (b == 60) _ _ k (λ y j. less mode.ScriptEscaped y j)
    (λ _ j. by_test (M.first mode.ScriptEscapedDashDash b) mode.ScriptEscapedDashDash b (b == 62) _ _ j (λ _ l. other (ap leads l)) (λ _ l. other (ap leads l))))
first_leads mode.Plaintext b = other refl

module _ (m : Mode) (b : ℕ) (text : List ℕ) (q : Restless (next (at (state_of m)) b) text) (t : is_tag (tokens_of (at (state_of m)) (b ∷ text)) ≡ true) where
  abbrev s : State
  s = state_of m

  abbrev x : Step
  x = step s (feed b)

  is : read (at s) b ≡ x
  is = read_plain s false b refl ∙ settled_at_once 3 x (feed b) (first_is m (feed b)).once

  by_first : First m (feed b) → Opening m (b ∷ text)
  by_first (opens y e) =
      let st : IsStage [] stage.TagOpen x.next x.emits = subst (λ (c : Stage). IsStage [] c x.next x.emits) e (first_is m (feed b)).stage in
      let same = byte_is 60 b refl y in
      let n13 : (b == 13) ≡ false = ap (λ c. c == 13) same in
      let there = next_is s T.tag_open b x is st.1 n13 in
      let goes = goes_is s T.tag_open b text x is st.1 st.2 n13 in
      subst (λ c. Opening m (c ∷ text)) (sym same)
      (after_less m text (subst (λ (z : Reader). Restless z text) there q) (ap is_tag (sym goes) ∙ t)
      (subst (λ c. tokens_of (at s) (c ∷ text) ≡ tokens_of (at T.tag_open) text) same goes))
  by_first (less n y e) =
      let st : IsStage [] (stage.RawLessThan n) x.next x.emits = subst (λ (c : Stage). IsStage [] c x.next x.emits) e (first_is m (feed b)).stage in
      let same = byte_is 60 b refl y in
      let n13 : (b == 13) ≡ false = ap (λ c. c == 13) same in
      let L : State = T.raw_less_than_sign (raw_of n) in
      let there = next_is s L b x is st.2 n13 in
      let goes = goes_is s L b text x is st.2 st.3 n13 in
      subst (λ c. Opening m (c ∷ text)) (sym same)
      (after_raw_less m n st.0 text (subst (λ (z : Reader). Restless z text) there q) (ap is_tag (sym goes) ∙ t)
      (subst (λ c. tokens_of (at s) (c ∷ text) ≡ tokens_of (at L) text) same goes))
  by_first (other f) =
      let f0 = first_is m (feed b) in
      let here : next (at s) b ≡ reader x.next (b == 13) = ap (λ (z : Step). let r : Reader = record { state = z.next; after_return = b == 13 } in r) is in
      let all : tokens_of (at s) (b ∷ text) ≡ x.emits ++ tokens_of (reader x.next (b == 13)) text =
      ap (λ (z : Step). z.emits ++ tokens_of (record { state = z.next; after_return = b == 13 }) text) is in
      clash (is_tag (tokens_of (at s) (b ∷ text))) t
      (ap is_tag all ∙ no_tag text (M.first m (feed b)) [] x.next (b == 13) x.emits (record { stage = f0.stage; returned = λ _. f0.plain }) f (subst (λ (z : Reader). Restless z text) here q))

  -- bytes that are a tag begin as one
  pub opening : Opening m (b ∷ text)
  opening = by_first (first_leads m (feed b))
