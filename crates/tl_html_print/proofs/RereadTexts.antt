-- How the tokenizer of the standard reads what is printed of texts that have no markup.
use Rattle.std.proofs.Common.{Bool, List, [], ap, append-nil, codes, false, if◌then◌else◌, inl, inr, map, not, refl, subst, sym, true, true≢false, ℕ, ◌&&◌, ◌++◌, ◌==◌, ◌∙◌, ◌≡◌, ◌||◌, ◌∷◌}
use Rattle.std.proofs.lemmas.Bool.{and_parts, cases_Bool, eqb-true}
use Rattle.std.proofs.lemmas.Slice.Eq.{bytes_eq-Decides}
use Rattle.std.specs.List.{list_all, list_any}
use Rattle.std.specs.Prelude.{Option, ⊤}
use Rattle.std.specs.Str.{bytes_eq}
use Rattle.tl_dom_spec.specs.HtmlForest.{no_trees, text}
use Rattle.tl_dom_spec.specs.Marks.{Marked}
use Rattle.tl_dom_spec.specs.Tags.{Attribute}
use Rattle.tl_html_print.proofs.Reread.{Reads, both-true, neither, one, then_reads}
use Rattle.tl_html_print.specs.ReadAgain.{HoldsItself, IsReadAs, html_element, is_kept_in_value, is_plain_raw}
use Rattle.tl_html_print.specs.Serialized.{escape, escaped}
use Rattle.tl_html_spec.proofs.Resting.{rest_at_once, settled_at_once}
use Rattle.tl_html_spec.specs.Balanced.{is_one_of}
use Rattle.tl_html_spec.specs.HtmlTokenizer.{Character, EndTag, HtmlToken, Raw, State, Step, data_state, emitting, emitting_again, raw, raw_less_than_sign, rawtext, rcdata, replacement, script_data, settled, step, to, whole_step}
use Rattle.tl_html_spec.specs.Reader.{after, at, emitted, read}

-- Where references are read

rcdata-byte : (name : List ℕ) (b : ℕ) → is_kept_in_value b ≡ true → Reads (raw (rcdata name)) (escape false b) (Character b ∷ []) (raw (rcdata name))
unfolding read
rcdata-byte name b h =
    let n = (neither (b == 13) (b == 0) h).0 in
    let z = (neither (b == 13) (b == 0) h).1 in
    elim (cases_Bool (b == 38)) [
      | inl y ↦ rw (eqb-true b 38 y) (record { tokens_are = refl; state_is = refl })
      | inr m ↦ elim (cases_Bool (b == 60)) [
        | inl y ↦ rw (eqb-true b 60 y) (record { tokens_are = refl; state_is = refl })
        | inr l ↦ elim (cases_Bool (b == 62)) [
          | inl y ↦ rw (eqb-true b 62 y) (record { tokens_are = refl; state_is = refl })
          | inr g ↦ record { tokens_are = simp (n, m, l, g, z); state_is = simp (n, m, l, g, z) }
        ]
      ]
    ]

rcdata-space : (name : List ℕ) → Reads (raw (rcdata name)) (codes "&nbsp;") (Character 194 ∷ Character 160 ∷ []) (raw (rcdata name))
unfolding read
rcdata-space name = record { tokens_are = refl; state_is = refl }

rcdata-read : (name bytes : List ℕ) → list_all is_kept_in_value bytes ≡ true → Reads (raw (rcdata name)) (escaped false bytes) (map Character bytes) (raw (rcdata name))
rcdata-read name [] h = record { tokens_are = refl; state_is = refl }
rcdata-read name (b ∷ []) h = rcdata-byte name b (and_parts (is_kept_in_value b) true h).0
rcdata-read name (b ∷ c ∷ bytes) h =
    let s = raw (rcdata name) in
    let p = and_parts (is_kept_in_value b) (list_all is_kept_in_value (c ∷ bytes)) h in
    let q = and_parts (is_kept_in_value c) (list_all is_kept_in_value bytes) p.1 in
    elim (cases_Bool (b == 194 && c == 160)) [
      | inl y ↦
          let two = both-true (b == 194) (c == 160) y in
          rw (eqb-true b 194 two.0, eqb-true c 160 two.1)
          (then_reads s s s (codes "&nbsp;") (escaped false bytes) (Character 194 ∷ Character 160 ∷ []) (map Character bytes) (rcdata-space name) (rcdata-read name bytes q.1))
      | inr n ↦
          let split = pick n in
          subst (λ x. Reads s x (map Character (b ∷ c ∷ bytes)) s) (sym split)
          (then_reads s s s (escape false b) (escaped false (c ∷ bytes)) (Character b ∷ []) (map Character (c ∷ bytes)) (rcdata-byte name b p.0) (rcdata-read name (c ∷ bytes) p.1))
    ]
  where
    pick : (b == 194 && c == 160) ≡ false → escaped false (b ∷ c ∷ bytes) ≡ escape false b ++ escaped false (c ∷ bytes)
    pick n = ap (λ v. elim v as (λ _. List ℕ) [ true ↦ codes "&nbsp;" ++ escaped false bytes | false ↦ escape false b ++ escaped false (c ∷ bytes) ]) n

-- Where none are

-- what is the same of such states
record IsRawText (r : Raw) : Type 0 where
  other : (b : ℕ) → (b == 60) ≡ false → (b == 0) ≡ false → step (raw r) b ≡ emitting (b ∷ []) (raw r)
  less : step (raw r) 60 ≡ to (raw_less_than_sign r)
  pending : (c : ℕ) → (c == 47) ≡ false → (c == 33) ≡ false → step (raw_less_than_sign r) c ≡ emitting_again (codes "<") (raw r)

raw_step : Raw → ℕ → Bool → Bool → Step
raw_step r b less nul =
    if less then to (raw_less_than_sign r) else emitting (if nul then replacement else b ∷ []) (raw r)

rawtext-is : (name : List ℕ) → IsRawText (rawtext name)
unfolding raw_step
rawtext-is name = record {
  other = λ b l z. ap (λ v. raw_step (rawtext name) b v (b == 0)) l ∙ ap (λ v. raw_step (rawtext name) b false v) z;
  less = refl;
  pending = λ c s e. simp s;
}

script-is : IsRawText script_data
unfolding raw_step
script-is = record {
  other = λ b l z. ap (λ v. raw_step script_data b v (b == 0)) l ∙ ap (λ v. raw_step script_data b false v) z;
  less = refl;
  pending = λ c s e. simp (s, e);
}

-- a `<` that begins no tag is a character, and what is behind it is read as before it
less-read : (r : Raw) → IsRawText r → (c : ℕ) (more : List ℕ) (tokens : List HtmlToken) (t : State) → (c == 13) ≡ false → (c == 47) ≡ false → (c == 33) ≡ false →
    Reads (raw r) (c ∷ more) tokens t → Reads (raw_less_than_sign r) (c ∷ more) (Character 60 ∷ tokens) t
unfolding read
less-read r is c more tokens t n s e h =
    let once = settled_at_once 3 (step (raw r) c) c (rest_at_once (raw r) c refl) in
    let twice = settled_at_once 2 (step (raw r) c) c (rest_at_once (raw r) c refl) in
    let both : whole_step (raw_less_than_sign r) c ≡ record (whole_step (raw r) c) { emits = Character 60 ∷ (whole_step (raw r) c).emits } =
    ap (λ x. settled 3 x c) (is.pending c s e)
    ∙ ap (λ (x : Step). record x { emits = Character 60 ∷ x.emits }) (twice ∙ sym once) in
    let keep = λ (v : Bool) (x : Step). x.emits ++ emitted (record { state = x.next; after_return = v }) more in
    let go = λ (v : Bool) (x : Step). after (record { state = x.next; after_return = v }) more in
    record {
      tokens_are = ap (λ (v : Bool). keep v (whole_step (raw_less_than_sign r) (if v then 10 else c))) n
          ∙ ap (keep false) both
          ∙ ap (λ ts. Character 60 ∷ ts) (sym (ap (λ (v : Bool). keep v (whole_step (raw r) (if v then 10 else c))) n) ∙ h.tokens_are);
      state_is = ap (λ (v : Bool). go v (whole_step (raw_less_than_sign r) (if v then 10 else c))) n
          ∙ ap (go false) both
          ∙ (sym (ap (λ (v : Bool). go v (whole_step (raw r) (if v then 10 else c))) n) ∙ h.state_is);
    }

less-step : (r : Raw) → IsRawText r → Reads (raw r) (60 ∷ []) [] (raw_less_than_sign r)
less-step r is = one (raw r) (raw_less_than_sign r) 60 [] refl (ap (λ x. settled 3 x 60) is.less)

raw-step : (r : Raw) → IsRawText r → (b : ℕ) → is_kept_in_value b ≡ true → (b == 60) ≡ false → Reads (raw r) (b ∷ []) (Character b ∷ []) (raw r)
raw-step r is b h l =
    let p = neither (b == 13) (b == 0) h in
    one (raw r) (raw r) b (Character b ∷ []) p.0 (ap (λ x. settled 3 x b) (is.other b l p.1))

no-end : (l : Bool) (c d : Bool) → not (l && (c || d)) ≡ true → l ≡ true → (c ≡ false) × (d ≡ false)
no-end true c d h e = neither c d h
no-end false c d h e = cc

-- a text up to its end tag, which begins with a `<`
raw-text : (r : Raw) → IsRawText r → (end : List ℕ) (last : List HtmlToken) → Reads (raw r) (60 ∷ end) last data_state →
    (bytes : List ℕ) → is_plain_raw bytes ≡ true → Reads (raw r) (bytes ++ 60 ∷ end) (map Character bytes ++ last) data_state
raw-text r is end last ends [] h = ends
raw-text r is end last ends (b ∷ []) h = elim (cases_Bool (b == 60)) [
  | inl y ↦ rw (eqb-true b 60 y)
      (then_reads (raw r) (raw_less_than_sign r) data_state (60 ∷ []) (60 ∷ end) [] (Character 60 ∷ last) (less-step r is)
      (less-read r is 60 end last data_state refl refl refl ends))
  | inr l ↦ then_reads (raw r) (raw r) data_state (b ∷ []) (60 ∷ end) (Character b ∷ []) last (raw-step r is b h l) ends
]
raw-text r is end last ends (b ∷ c ∷ bytes) h =
    let p = and_parts (is_kept_in_value b && not (b == 60 && (c == 47 || c == 33))) (is_plain_raw (c ∷ bytes)) h in
    let q = and_parts (is_kept_in_value b) (not (b == 60 && (c == 47 || c == 33))) p.0 in
    let later = raw-text r is end last ends (c ∷ bytes) p.1 in
    elim (cases_Bool (b == 60)) [
      | inl y ↦
          let two = no-end (b == 60) (c == 47) (c == 33) q.1 y in
          rw (eqb-true b 60 y)
          (then_reads (raw r) (raw_less_than_sign r) data_state (60 ∷ []) (c ∷ (bytes ++ 60 ∷ end)) [] (Character 60 ∷ (map Character (c ∷ bytes) ++ last)) (less-step r is)
          (less-read r is c (bytes ++ 60 ∷ end) (map Character (c ∷ bytes) ++ last) data_state (neither (c == 13) (c == 0) (first-kept c bytes p.1)).0 two.0 two.1 later))
      | inr l ↦ then_reads (raw r) (raw r) data_state (b ∷ []) (c ∷ (bytes ++ 60 ∷ end)) (Character b ∷ []) (map Character (c ∷ bytes) ++ last) (raw-step r is b q.0 l) later
    ]
  where
    first-kept : (c : ℕ) (bytes : List ℕ) → is_plain_raw (c ∷ bytes) ≡ true → is_kept_in_value c ≡ true
    first-kept c [] h = h
    first-kept c (d ∷ bytes) h = (and_parts (is_kept_in_value c) (not (c == 60 && (d == 47 || d == 33))) (and_parts (is_kept_in_value c && not (c == 60 && (d == 47 || d == 33))) (is_plain_raw (d ∷ bytes)) h).0).0

-- Elements by their names

abbrev Each : (List ℕ → Type 0) → List (List ℕ) → Type 0
Each P [] = ⊤
Each P (x ∷ xs) = P x × Each P xs

one-of : (P : List ℕ → Type 0) (names : List (List ℕ)) (name : List ℕ) → Each P names → list_any (bytes_eq name) names ≡ true → P name
one-of P [] name each h = absurd (true≢false (sym h))
one-of P (x ∷ names) name each h = elim (cases_Bool (bytes_eq name x)) [
  | inl y ↦ subst P (sym ((bytes_eq-Decides name x).0 y)) each.0
  | inr n ↦ one-of P names name each.1 (sym (ap (λ b. b || list_any (bytes_eq name) names) n) ∙ h)
]

-- a text, and then an end tag
alone : (s : State) (bytes end : List ℕ) (tokens last : List HtmlToken) → Reads s (bytes ++ end) (tokens ++ last) data_state → IsReadAs s ((bytes ++ []) ++ end) ((tokens ++ []) ++ last)
alone s bytes end tokens last h =
    let x : (bytes ++ []) ++ end ≡ bytes ++ end = ap (λ b. b ++ end) (append-nil bytes) in
    let y : (tokens ++ []) ++ last ≡ tokens ++ last = ap (λ t. t ++ last) (append-nil tokens) in
    (ap (emitted (at s)) x ∙ h.tokens_are ∙ sym y, ap (after (at s)) x ∙ h.state_is)

abbrev HoldsText : List Attribute → Option ℕ → Marked (List ℕ) → List ℕ → Type 0
HoldsText attributes source own name = HoldsItself (html_element name attributes source) (text own no_trees)

rcdata-ends : (name end : List ℕ) (bytes : List ℕ) → list_all is_kept_in_value bytes ≡ true → Reads (raw (rcdata name)) end (EndTag name ∷ []) data_state →
    IsReadAs (raw (rcdata name)) ((escaped false bytes ++ []) ++ end) ((map Character bytes ++ []) ++ EndTag name ∷ [])
rcdata-ends name end bytes h ends =
    alone (raw (rcdata name)) (escaped false bytes) end (map Character bytes) (EndTag name ∷ [])
    (then_reads (raw (rcdata name)) (raw (rcdata name)) data_state (escaped false bytes) end (map Character bytes) (EndTag name ∷ []) (rcdata-read name bytes h) ends)

title-ends : Reads (raw (rcdata (codes "title"))) (codes "</title>") (EndTag (codes "title") ∷ []) data_state
unfolding read
title-ends = record { tokens_are = refl; state_is = refl }

textarea-ends : Reads (raw (rcdata (codes "textarea"))) (codes "</textarea>") (EndTag (codes "textarea") ∷ []) data_state
unfolding read
textarea-ends = record { tokens_are = refl; state_is = refl }

pub references_read : (name : List ℕ) (attributes : List Attribute) (source : Option ℕ) (own : Marked (List ℕ)) → is_one_of (codes "title textarea") name ≡ true → list_all is_kept_in_value own.said ≡ true → HoldsItself (html_element name attributes source) (text own no_trees)
references_read name attributes source own is h =
    one-of (HoldsText attributes source own) (codes "title" ∷ codes "textarea" ∷ []) name
    (rcdata-ends (codes "title") (codes "</title>") own.said h title-ends, (rcdata-ends (codes "textarea") (codes "</textarea>") own.said h textarea-ends, tt)) is

raw-ends : (r : Raw) → IsRawText r → (end name bytes : List ℕ) → is_plain_raw bytes ≡ true → Reads (raw r) (60 ∷ end) (EndTag name ∷ []) data_state →
    IsReadAs (raw r) ((bytes ++ []) ++ 60 ∷ end) ((map Character bytes ++ []) ++ EndTag name ∷ [])
raw-ends r is end name bytes h ends =
    alone (raw r) bytes (60 ∷ end) (map Character bytes) (EndTag name ∷ []) (raw-text r is end (EndTag name ∷ []) ends bytes h)

style-ends : Reads (raw (rawtext (codes "style"))) (codes "</style>") (EndTag (codes "style") ∷ []) data_state
unfolding read
style-ends = record { tokens_are = refl; state_is = refl }

script-ends : Reads (raw script_data) (codes "</script>") (EndTag (codes "script") ∷ []) data_state
unfolding read
script-ends = record { tokens_are = refl; state_is = refl }

xmp-ends : Reads (raw (rawtext (codes "xmp"))) (codes "</xmp>") (EndTag (codes "xmp") ∷ []) data_state
unfolding read
xmp-ends = record { tokens_are = refl; state_is = refl }

iframe-ends : Reads (raw (rawtext (codes "iframe"))) (codes "</iframe>") (EndTag (codes "iframe") ∷ []) data_state
unfolding read
iframe-ends = record { tokens_are = refl; state_is = refl }

noembed-ends : Reads (raw (rawtext (codes "noembed"))) (codes "</noembed>") (EndTag (codes "noembed") ∷ []) data_state
unfolding read
noembed-ends = record { tokens_are = refl; state_is = refl }

noframes-ends : Reads (raw (rawtext (codes "noframes"))) (codes "</noframes>") (EndTag (codes "noframes") ∷ []) data_state
unfolding read
noframes-ends = record { tokens_are = refl; state_is = refl }

pub raw_read : (name : List ℕ) (attributes : List Attribute) (source : Option ℕ) (own : Marked (List ℕ)) → is_one_of (codes "style script xmp iframe noembed noframes") name ≡ true → is_plain_raw own.said ≡ true → HoldsItself (html_element name attributes source) (text own no_trees)
raw_read name attributes source own is h =
    one-of (HoldsText attributes source own) (codes "style" ∷ codes "script" ∷ codes "xmp" ∷ codes "iframe" ∷ codes "noembed" ∷ codes "noframes" ∷ []) name (
      raw-ends (rawtext (codes "style")) (rawtext-is (codes "style")) (codes "/style>") (codes "style") own.said h style-ends,
      (
        raw-ends script_data script-is (codes "/script>") (codes "script") own.said h script-ends,
        (
          raw-ends (rawtext (codes "xmp")) (rawtext-is (codes "xmp")) (codes "/xmp>") (codes "xmp") own.said h xmp-ends,
          (
            raw-ends (rawtext (codes "iframe")) (rawtext-is (codes "iframe")) (codes "/iframe>") (codes "iframe") own.said h iframe-ends,
            (
              raw-ends (rawtext (codes "noembed")) (rawtext-is (codes "noembed")) (codes "/noembed>") (codes "noembed") own.said h noembed-ends,
              (
                raw-ends (rawtext (codes "noframes")) (rawtext-is (codes "noframes")) (codes "/noframes>") (codes "noframes") own.said h noframes-ends,
                tt,
              ),
            ),
          ),
        ),
      ),
    ) is

abbrev HoldsNothing : List Attribute → Option ℕ → List ℕ → Type 0
HoldsNothing attributes source name = HoldsItself (html_element name attributes source) no_trees

as-read : (s : State) (bytes : List ℕ) (tokens : List HtmlToken) → Reads s bytes tokens data_state → IsReadAs s bytes tokens
as-read s bytes tokens h = (h.tokens_are, h.state_is)

pub empty_read : (name : List ℕ) (attributes : List Attribute) (source : Option ℕ) → is_one_of (codes "title textarea style script xmp iframe noembed noframes") name ≡ true → HoldsItself (html_element name attributes source) no_trees
empty_read name attributes source is =
    one-of (HoldsNothing attributes source) (codes "title" ∷ codes "textarea" ∷ codes "style" ∷ codes "script" ∷ codes "xmp" ∷ codes "iframe" ∷ codes "noembed" ∷ codes "noframes" ∷ []) name
    (as-read _ _ _ title-ends, (as-read _ _ _ textarea-ends, (as-read _ _ _ style-ends, (as-read _ _ _ script-ends, (as-read _ _ _ xmp-ends, (as-read _ _ _ iframe-ends, (as-read _ _ _ noembed-ends, (as-read _ _ _ noframes-ends, tt)))))))) is
