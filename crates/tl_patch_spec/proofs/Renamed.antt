-- Another name in a tag: the token has it, and all else is as it was, where both names are followed by the same state.
use Rattle.std.proofs.Common.{◌≡◌, ℕ, Bool, true, false, ◌==◌, List, [], ◌∷◌, ◌++◌, refl, ap, sym, subst, ◌∙◌, if◌then◌else◌}
use Rattle.tl_html_spec.specs.HtmlTokenizer.{EndTag, HtmlAttribute, HtmlToken, OpenTag, StartTag, State, Step, after_start, data_state, emitting_token, ends_name, tag_name, with_attribute}
use Rattle.tl_html_spec.specs.HtmlTokenizer.{emitted as tag_emitted}
use Rattle.tl_patch_spec.specs.TagChanges.{FirstGoesOnAs, Rename, changed_first, has_attribute}
use Rattle.tl_html_spec.specs.Reader.{at, emitted, feed}
use Rattle.tl_patch_spec.proofs.Inside.{Outcome, after_value, ended, inner_text, still, with_all}
use Rattle.tl_patch_spec.proofs.Added.{name_ends}
use Rattle.tl_patch_spec.proofs.Sets.{adding_if, attribute_is}
use Rattle.tl_patch_spec.proofs.Tags.{emits_of, past, tag_text_emits}

abbrev pub renamed : List ℕ → OpenTag → OpenTag
renamed name tag = record tag { name = name }

name_if : (c : Bool) (name : List ℕ) (tag : OpenTag) (k v : List ℕ) → adding_if c (renamed name tag) k v ≡ renamed name (adding_if c tag k v)
name_if true name tag k v = refl
name_if false name tag k v = refl

name_attribute : (name : List ℕ) (tag : OpenTag) (k v : List ℕ) → with_attribute (renamed name tag) k v ≡ renamed name (with_attribute tag k v)
name_attribute name tag k v = attribute_is (renamed name tag) k v ∙ name_if (has_attribute k tag) name tag k v ∙ ap (renamed name) (sym (attribute_is tag k v))

name_all : (name : List ℕ) (tag : OpenTag) (more : List HtmlAttribute) → with_all (renamed name tag) more ≡ renamed name (with_all tag more)
name_all name tag [] = refl
name_all name tag (a ∷ more) =
    ap (λ (t : OpenTag). with_all t more) (name_attribute name tag a.0 a.1) ∙ name_all name (with_attribute tag a.0 a.1) more

abbrev named_step : OpenTag → List ℕ → Bool → Bool → Step
named_step tag name closes is_end =
    if is_end then emitting_token (EndTag name) data_state else emitting_token (StartTag name tag.attributes closes) (after_start name)

token_named : (is_end : Bool) (name : List ℕ) (tag : OpenTag) (closes : Bool) (rest : List HtmlToken) →
    (named_step tag name closes is_end).emits ++ rest ≡ changed_first (Rename name) ((named_step tag tag.name closes is_end).emits ++ rest)
token_named true name tag closes rest = refl
token_named false name tag closes rest = refl

next_named : (is_end : Bool) (name : List ℕ) (tag : OpenTag) (closes : Bool) → (is_end ≡ false → after_start name ≡ after_start tag.name) →
    (named_step tag name closes is_end).next ≡ (named_step tag tag.name closes is_end).next
next_named true name tag closes e = refl
next_named false name tag closes e = e refl

emits_named : (name : List ℕ) (tag : OpenTag) (o : Outcome) → FirstGoesOnAs name (emits_of tag o) →
    emits_of (renamed name tag) o ≡ changed_first (Rename name) (emits_of tag o)
emits_named name tag (still i returned more) e = refl
emits_named name tag (ended closes more returned rest) e =
    let u : OpenTag = with_all tag more in
    let follows : u.is_end ≡ false → after_start name ≡ after_start u.name =
    λ n. subst (λ (c : Bool). FirstGoesOnAs name ((named_step u u.name closes c).emits ++ emitted (past u closes returned) rest)) n e in
    ap (λ (t : OpenTag). (tag_emitted t closes).emits ++ emitted (past t closes returned) rest) (name_all name tag more)
    ∙ ap (λ (s : State). (named_step u name closes u.is_end).emits ++ emitted (record { state = s; after_return = returned }) rest) (next_named u.is_end name u closes follows)
    ∙ token_named u.is_end name u closes (emitted (past u closes returned) rest)

-- right after the name
pub renamed_reads : (tag : OpenTag) (name : List ℕ) (b : ℕ) (text : List ℕ) → ends_name (feed b) ≡ true → FirstGoesOnAs name (emitted (at (tag_name tag)) (b ∷ text)) →
    emitted (at (tag_name (renamed name tag))) (b ∷ text) ≡ changed_first (Rename name) (emitted (at (tag_name tag)) (b ∷ text))
renamed_reads tag name b text h e =
    let was : emitted (at (tag_name tag)) (b ∷ text) ≡ emits_of tag (inner_text after_value false (b ∷ text)) =
    ap (λ (x : Step). x.emits ++ emitted (record { state = x.next; after_return = b == 13 }) text) (name_ends tag b h) ∙ tag_text_emits after_value tag (b ∷ text) in
    ap (λ (x : Step). x.emits ++ emitted (record { state = x.next; after_return = b == 13 }) text) (name_ends (renamed name tag) b h)
    ∙ tag_text_emits after_value (renamed name tag) (b ∷ text)
    ∙ emits_named name tag (inner_text after_value false (b ∷ text)) (subst (FirstGoesOnAs name) was e)
    ∙ ap (changed_first (Rename name)) (sym was)
