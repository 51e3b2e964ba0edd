-- A tag with another name.
use Rattle.std.proofs.Common.{◌≡◌, ℕ, ◌-◌, ◌+◌, ◌==◌, ◌&&◌, Bool, true, false, List, [], ◌∷◌, ◌++◌, None, take, drop, get_or, map, refl, ap, ap₂, sym, subst, ◌∙◌, inl, inr, arith, true≢false, if◌then◌else◌}
use Rattle.std.specs.Prelude.{not, option_map}
use Rattle.std.specs.Char.{is_ascii_alphabetic, to_ascii_lowercase}
use Rattle.std.specs.List.{list_all, list_any}
use Rattle.std.proofs.lemmas.Bool.{and_parts, cases_Bool, eqb-true, not-true}
use Rattle.std.proofs.lemmas.List.{drop_more}
use Rattle.tl_html_spec.specs.HtmlTokenizer.{HtmlAttribute, HtmlToken, OpenTag, StartTag, Step, again_in, ends_name, new_tag, step, tag_name, tag_open, with_attribute, with_letter}
use Rattle.tl_html_spec.specs.Reader.{Reader, at, emitting_before, feed, next, read, rest_before, rest_within}
use Rattle.tl_html_tokens.specs.Whole.{IsWhole}
use Rattle.tl_html_tokens.specs.declared.mode.Mode.TheVariants as mode
use Rattle.tl_html_tokens.proofs.Others.{Restless}
use Rattle.tl_patch.specs.Places.{begins_start_tag, has_name_end}
use Rattle.tl_patch_spec.specs.TagNames.{IsNameEnd}
use Rattle.tl_patch.proofs.Names.{named, start_name_begins, start_name_reads}
use Rattle.tl_patch_spec.specs.Markup.{is_name, is_name_byte}
use Rattle.tl_patch_spec.specs.Splices.{Splice, with_splices}
use Rattle.tl_patch_spec.specs.TagChanges.{Rename, changed_token, has_attribute, has_key}
use Rattle.tl_patch_spec.proofs.Inside.{after_value, ended, inner_text, with_all}
use Rattle.tl_patch_spec.proofs.Sets.{adding_if, attribute_is}
use Rattle.tl_patch.specs.StartTags.{IsRenamed, IsStartTagAlone}
use Rattle.tl_patch.proofs.Begins.{begins, name_goes_on}
use Rattle.tl_patch.proofs.KeyChanges.{whole_same}
use Rattle.tl_patch.proofs.Ended.{reader_in}
use Rattle.tl_patch.proofs.Revalued.{started}
use Rattle.tl_patch.proofs.Starts.{Ends, IsNamed as IsFront, IsOnePiece, name_no_rest, name_once, start_of, whole_rest}

-- in a name the machine is nowhere at rest

stays_in_name : (b : ℕ) → is_name_byte b ≡ true → ends_name (feed b) ≡ false
stays_in_name b h =
    let p = and_parts (not (b == 13)) (not (ends_name b) && (not (b == 0) && (to_ascii_lowercase b == b))) h in
    let q = and_parts (not (ends_name b)) (not (b == 0) && (to_ascii_lowercase b == b)) p.1 in
    let same : feed b ≡ b = ap (λ (v : Bool). if v then 10 else b) (not-true (b == 13) p.0) in
    ap ends_name same ∙ not-true (ends_name b) q.0

name_next : (t : OpenTag) (b : ℕ) → is_name_byte b ≡ true → next (at (tag_name t)) b ≡ at (tag_name (with_letter t (feed b)))
unfolding read
name_next t b h =
    let n : (b == 13) ≡ false = not-true (b == 13) (and_parts (not (b == 13)) (not (ends_name b) && (not (b == 0) && (to_ascii_lowercase b == b))) h).0 in
    ap₂ reader_in (ap (λ (x : Step). x.next) (name_goes_on t (feed b) (stays_in_name b h))) n

pub name_restless : (name : List ℕ) (t : OpenTag) → list_all is_name_byte name ≡ true → Restless (at (tag_name t)) name
name_restless [] t h = tt
name_restless (b ∷ name) t h =
    let p = and_parts (is_name_byte b) (list_all is_name_byte name) h in
    (name_no_rest t b, subst (λ (r : Reader). Restless r name) (sym (name_next t b p.0)) (name_restless name (with_letter t (feed b)) p.1))

-- nor before its first letter

pub letter_is_not : (b c : ℕ) → is_ascii_alphabetic b ≡ true → is_ascii_alphabetic c ≡ false → (b == c) ≡ false
letter_is_not b c h n = elim (cases_Bool (b == c)) [
  | inl y ↦ absurd (true≢false (sym h ∙ ap is_ascii_alphabetic (eqb-true b c y) ∙ n))
  | inr m ↦ m
]

letter_no_rest : (b : ℕ) → is_ascii_alphabetic b ≡ true → rest_before (at tag_open) b ≡ None
unfolding rest_before
letter_no_rest b h =
    let m = letter_is_not b 33 h refl in
    let s = letter_is_not b 47 h refl in
    let same : feed b ≡ b = ap (λ (v : Bool). if v then 10 else b) (letter_is_not b 13 h refl) in
    let first : step tag_open b ≡ again_in (tag_name (new_tag false)) = rw (m, s, h) refl in
    let later : rest_within 1 (tag_name (new_tag false)) b ≡ None = rw (name_once (new_tag false) b) refl in
    ap (rest_within 2 tag_open) same
    ∙ ap (λ (x : Step). if x.again then option_map (emitting_before x.emits) (rest_within 1 x.next b) else None) first
    ∙ ap (option_map (emitting_before [])) later

written_one : (name : List ℕ) → is_name name ≡ true → IsOnePiece (60 ∷ name)
unfolding read
written_one [] h = absurd (true≢false (sym h))
written_one (b ∷ name) h =
    let c = and_parts (is_ascii_alphabetic b) (list_all is_name_byte (b ∷ name)) h in
    let d = and_parts (is_name_byte b) (list_all is_name_byte name) c.1 in
    let p = start_name_begins (60 ∷ b ∷ []) (omega arith) refl c.0 in
    (letter_no_rest b c.0, subst (λ (r : Reader). Restless r name) (sym p.1) (name_restless name p.0 d.1))

written : (name : List ℕ) → is_name name ≡ true → IsFront (60 ∷ name) (named false name)
written name h =
    let r = start_name_reads name h in
    record { one = written_one name h; state = r.state_is; silent = r.tokens_are }

-- attributes don't look at the name

same_if : (c : Bool) (t u : OpenTag) (k v : List ℕ) → t.attributes ≡ u.attributes → (adding_if c t k v).attributes ≡ (adding_if c u k v).attributes
same_if true t u k v e = e
same_if false t u k v e = ap (λ xs. xs ++ (k, v) ∷ []) e

same_all : (t u : OpenTag) (more : List HtmlAttribute) → t.attributes ≡ u.attributes → (with_all t more).attributes ≡ (with_all u more).attributes
same_all t u [] e = e
same_all t u (a ∷ more) e =
    same_all (with_attribute t a.0 a.1) (with_attribute u a.0 a.1) more
    (ap (λ (x : OpenTag). x.attributes) (attribute_is t a.0 a.1)
    ∙ ap (λ (c : Bool). (adding_if c t a.0 a.1).attributes) (ap (list_any (has_key a.0)) e)
    ∙ same_if (has_attribute a.0 u) t u a.0 a.1 e
    ∙ sym (ap (λ (x : OpenTag). x.attributes) (attribute_is u a.0 a.1)))

renamed_is : (n : ℕ) (name tag : List ℕ) (b : ℕ) (text : List ℕ) → tag ≡ b ∷ text → with_splices tag (record { from = 1; until = n; put = name } ∷ []) ≡ b ∷ (name ++ drop n tag)
renamed_is n name tag b text e =
    let m : n - 0 ≡ n = omega arith in
    ap (λ (xs : List ℕ). take 1 xs ++ (name ++ drop (n - 0) tag)) e ∙ ap (λ k. b ∷ (name ++ drop k tag)) m

module _ (tag : List ℕ) (n : ℕ) (p : IsNameEnd false n tag) (a : IsStartTagAlone tag) where
  whole_named : (name : List ℕ) → is_name name ≡ true → IsWhole mode.Data ((60 ∷ name) ++ drop n tag) (map (changed_token (Rename name)) a.tokens)
  whole_named name h =
      let t : OpenTag = (p.in_name).0 in
      let e : Ends (drop n tag) t a.tokens = (started tag n p a).ends in
      let b : ℕ = get_or tag n 0 in
      let back : drop n tag ≡ b ∷ drop (n + 1) tag = drop_more tag n 0 p.within in
      let u : OpenTag = named false name in
      let whole = whole_rest (60 ∷ name) (drop (n + 1) tag) b u e.closes e.returned e.more (written name h) p.ends refl (subst (λ xs. inner_text after_value false xs ≡ ended e.closes e.more e.returned []) back e.outcome) in
      let token : start_of u e.more e.closes ≡ changed_token (Rename name) (start_of t e.more e.closes) =
      ap (λ xs. StartTag name xs e.closes) (same_all u t e.more (sym (p.in_name).3)) in
      subst (λ ts. IsWhole mode.Data ((60 ∷ name) ++ drop n tag) (map (changed_token (Rename name)) ts)) (sym e.is)
      (subst (λ xs. IsWhole mode.Data ((60 ∷ name) ++ xs) (changed_token (Rename name) (start_of t e.more e.closes) ∷ [])) (sym back)
      (subst (λ (y : HtmlToken). IsWhole mode.Data ((60 ∷ name) ++ (b ∷ drop (n + 1) tag)) (y ∷ [])) token whole))

  pub renamed : (name new : List ℕ) (text : List ℕ) → is_name name ≡ true → tag ≡ 60 ∷ text → new ≡ 60 ∷ (name ++ drop n tag) → IsRenamed name tag new
  renamed name new text h o is =
      let s : Splice ℕ = record { from = 1; until = n; put = name } in
      record {
        named = record {
          splice = s;
          takes = record { is_end = false; opening = ap (λ (xs : List ℕ). take 1 xs) o; end = p };
          puts = refl;
          bytes = is ∙ sym (renamed_is n name tag 60 text o);
        };
        tokens = λ tokens w i.
            let same : a.tokens ≡ tokens = whole_same mode.Data tag a.tokens tokens a.whole w in
            subst (λ xs. IsWhole mode.Data xs (map (changed_token (Rename name)) tokens)) (sym is)
            (subst (λ ts. IsWhole mode.Data (60 ∷ (name ++ drop n tag)) (map (changed_token (Rename name)) ts)) same (whole_named name h));
      }

-- a start tag begins with `<`

opening : (bytes : List ℕ) → begins_start_tag bytes ≡ true → (text : List ℕ) × (bytes ≡ 60 ∷ text)
opening [] h = absurd (true≢false (sym h))
opening (a ∷ []) h = absurd (true≢false (sym h))
opening (a ∷ b ∷ text) h =
    let p = and_parts (a == 60) (is_ascii_alphabetic b && has_name_end text) h in
    (b ∷ text, ap (λ c. c ∷ b ∷ text) (eqb-true a 60 p.0))

pub opened_by : (tag : List ℕ) → IsStartTagAlone tag → (text : List ℕ) × (tag ≡ 60 ∷ text)
opened_by tag a = opening tag (begins tag a.tokens a.whole a.start)
