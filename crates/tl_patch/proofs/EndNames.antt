-- End tags by themselves: a new one, and one with another name.
use Rattle.std.proofs.Common.{◌≡◌, ℕ, ◌+◌, ◌-◌, ◌==◌, ◌&&◌, Bool, true, false, List, [], ◌∷◌, ◌++◌, None, take, drop, get_or, codes, refl, ap, sym, subst, ◌∙◌, arith, true≢false, if◌then◌else◌}
use Rattle.std.specs.Prelude.{option_map}
use Rattle.std.specs.Char.{is_ascii_alphabetic}
use Rattle.std.specs.List.{list_all}
use Rattle.std.proofs.lemmas.Bool.{and_parts, eqb-true}
use Rattle.std.proofs.lemmas.List.{drop_more}
use Rattle.tl_html_spec.specs.HtmlTokenizer.{EndTag, HtmlAttribute, HtmlToken, OpenTag, StartTag, Step, after_start, again_in, at_end, data_state, emitting_token, end_tag_open, new_tag, step, tag_name, tag_open}
use Rattle.tl_html_spec.specs.Reader.{Reader, at, emitting_before, feed, read, rest_before, rest_within}
use Rattle.tl_html_tokens.specs.Kinds.{IsEndTag}
use Rattle.tl_html_tokens.specs.Whole.{IsWhole}
use Rattle.tl_html_tokens.specs.declared.mode.Mode.TheVariants as mode
use Rattle.tl_html_tokens.proofs.Others.{Restless}
use Rattle.tl_patch.specs.Places.{begins_end_tag, has_name_end}
use Rattle.tl_patch_spec.specs.TagNames.{IsNameEnd}
use Rattle.tl_patch.proofs.Names.{end_name_begins, end_name_reads, named}
use Rattle.tl_patch_spec.specs.Markup.{is_name, is_name_byte}
use Rattle.tl_patch_spec.specs.TagNames.{IsNamed}
use Rattle.tl_patch_spec.specs.Splices.{Splice}
use Rattle.tl_patch_spec.proofs.Inside.{ended, with_all}
use Rattle.tl_patch_spec.proofs.Sets.{kind_kept, name_kept}
use Rattle.tl_patch_spec.proofs.Tags.{emits_of, reader_of}
use Rattle.tl_patch.proofs.Renamed.{letter_is_not, name_restless}
use Rattle.tl_patch.proofs.Starts.{IsAfterName, IsEnded, IsNamed as IsFront, IsOnePiece, after_name, name_once, rest_ended, whole_rest_as}

-- the token of an end tag

kind_tokens : (is_end closes : Bool) (name : List ℕ) (xs : List HtmlAttribute) → is_end ≡ true →
    let x : Step = if is_end then emitting_token (EndTag name) data_state else emitting_token (StartTag name xs closes) (after_start name) in
    (x.emits ++ []) ++ at_end x.next ≡ EndTag name ∷ []
kind_tokens true closes name xs e = refl
kind_tokens false closes name xs e = absurd (true≢false (sym e))

tokens_ended : (t : OpenTag) (closes w : Bool) (more : List HtmlAttribute) → t.is_end ≡ true →
    emits_of t (ended closes more w []) ++ at_end (reader_of t (ended closes more w [])).state ≡ EndTag t.name ∷ []
tokens_ended t closes w more e =
    let u : OpenTag = with_all t more in
    kind_tokens u.is_end closes u.name u.attributes (kind_kept t more ∙ e) ∙ ap (λ n. EndTag n ∷ []) (name_kept t more)

-- before its name the machine is nowhere at rest

slash_no_rest : rest_before (at tag_open) 47 ≡ None
unfolding rest_before
slash_no_rest = refl

letter_no_rest : (b : ℕ) → is_ascii_alphabetic b ≡ true → rest_before (at end_tag_open) b ≡ None
unfolding rest_before
letter_no_rest b h =
    let same : feed b ≡ b = ap (λ (v : Bool). if v then 10 else b) (letter_is_not b 13 h refl) in
    let first : step end_tag_open b ≡ again_in (tag_name (new_tag true)) = rw h refl in
    let later : rest_within 1 (tag_name (new_tag true)) b ≡ None = rw (name_once (new_tag true) b) refl in
    ap (rest_within 2 end_tag_open) same
    ∙ ap (λ (x : Step). if x.again then option_map (emitting_before x.emits) (rest_within 1 x.next b) else None) first
    ∙ ap (option_map (emitting_before [])) later

written_one : (name : List ℕ) → is_name name ≡ true → IsOnePiece (60 ∷ 47 ∷ name)
unfolding read
written_one [] h = absurd (true≢false (sym h))
written_one (b ∷ name) h =
    let c = and_parts (is_ascii_alphabetic b) (list_all is_name_byte (b ∷ name)) h in
    let d = and_parts (is_name_byte b) (list_all is_name_byte name) c.1 in
    let p = end_name_begins (60 ∷ 47 ∷ b ∷ []) (omega arith) refl refl c.0 in
    (slash_no_rest, (letter_no_rest b c.0, subst (λ (r : Reader). Restless r name) (sym p.1) (name_restless name p.0 d.1)))

written : (name : List ℕ) → is_name name ≡ true → IsFront (60 ∷ 47 ∷ name) (named true name)
written name h =
    let r = end_name_reads name h in
    record { one = written_one name h; state = r.state_is; silent = r.tokens_are }

-- a new end tag

pub end_tag_whole : (name : List ℕ) → is_name name ≡ true → IsWhole mode.Data (codes "</" ++ (name ++ codes ">")) (EndTag name ∷ [])
end_tag_whole name h =
    whole_rest_as (60 ∷ 47 ∷ name) [] 62 (named true name) false false [] (EndTag name ∷ []) (written name h) refl (tokens_ended (named true name) false false [] refl) refl

-- another name

never_end : (ts : List HtmlToken) → IsEndTag ts → ts ≡ [] → ⊥
never_end ts h e = subst IsEndTag e h

pub renamed_whole : (is_end : Bool) (tag : List ℕ) (n : ℕ) (p : IsNameEnd is_end n tag) (name : List ℕ) (ts : List HtmlToken) → is_name name ≡ true → IsWhole mode.Data tag ts → IsEndTag ts →
    IsWhole mode.Data (codes "</" ++ (name ++ drop n tag)) (EndTag name ∷ [])
renamed_whole is_end tag n p name ts h w k =
    let t : OpenTag = (p.in_name).0 in
    let b : ℕ = get_or tag n 0 in
    let rest : List ℕ = drop (n + 1) tag in
    let a : IsAfterName tag n t ts = after_name is_end tag ts n p w in
    let r : IsEnded (b ∷ rest) = rest_ended rest b t ts p.ends a.restless a.is (never_end ts k) in
    let whole : IsWhole mode.Data ((60 ∷ 47 ∷ name) ++ (b ∷ rest)) (EndTag name ∷ []) =
    whole_rest_as (60 ∷ 47 ∷ name) rest b (named true name) r.closes r.returned r.more (EndTag name ∷ []) (written name h) p.ends (tokens_ended (named true name) r.closes r.returned r.more refl) r.outcome in
    subst (λ xs. IsWhole mode.Data ((60 ∷ 47 ∷ name) ++ xs) (EndTag name ∷ [])) (sym (drop_more tag n 0 p.within)) whole

-- an end tag begins with `</`
opening : (bytes : List ℕ) → begins_end_tag bytes ≡ true → (text : List ℕ) × (bytes ≡ 60 ∷ 47 ∷ text)
opening [] h = absurd (true≢false (sym h))
opening (a ∷ []) h = absurd (true≢false (sym h))
opening (a ∷ b ∷ []) h = absurd (true≢false (sym h))
opening (a ∷ b ∷ c ∷ text) h =
    let p = and_parts (a == 60) ((b == 47) && (is_ascii_alphabetic c && has_name_end text)) h in
    let q = and_parts (b == 47) (is_ascii_alphabetic c && has_name_end text) p.1 in
    (c ∷ text, ap (λ x. x ∷ b ∷ c ∷ text) (eqb-true a 60 p.0) ∙ ap (λ x. 60 ∷ x ∷ c ∷ text) (eqb-true b 47 q.0))

pub renamed_bytes : (tag name new : List ℕ) (n : ℕ) → begins_end_tag tag ≡ true → IsNameEnd true n tag → new ≡ codes "</" ++ (name ++ drop n tag) → IsNamed name tag new
renamed_bytes tag name new n h i e =
    let s : Splice ℕ = record { from = 2; until = n; put = name } in
    let o = opening tag h in
    let m : n - 0 ≡ n = omega arith in
    record {
      splice = s;
      takes = record { is_end = true; opening = ap (λ (xs : List ℕ). take 2 xs) o.1; end = i };
      puts = refl;
      bytes = e ∙ ap (λ (xs : List ℕ). take 2 xs ++ (name ++ drop n tag)) (sym o.1) ∙ ap (λ k. take 2 tag ++ (name ++ drop k tag)) (sym m);
    }
