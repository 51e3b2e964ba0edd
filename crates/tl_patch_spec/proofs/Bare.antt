-- A value in quotes in the place of one without, or after a key that has none.
use Rattle.std.proofs.Common.{◌≡◌, ℕ, Bool, true, false, ◌||◌, ◌==◌, List, [], ◌∷◌, ◌++◌, refl, ap, sym, ◌∙◌, inl, inr}
use Rattle.std.proofs.lemmas.Bool.{cases_Bool, eqb-true}
use Rattle.tl_html_spec.specs.HtmlTokenizer.{OpenTag, State, Step, after_attribute_value, attribute_name, is_white_space, unquoted, whole_step, with_attribute}
use Rattle.tl_html_spec.specs.HtmlTokenizer.{emitted as tag_emitted}
use Rattle.tl_patch_spec.specs.TagChanges.{Set, changed_first, has_attribute}
use Rattle.tl_html_spec.specs.Reader.{at, emitted, feed, read}
use Rattle.tl_html_spec.proofs.Resting.{settled_at_once}
use Rattle.tl_patch_spec.proofs.Sets.{set_reads}
use Rattle.tl_patch_spec.proofs.Tags.{emitted_at_once}

bare_step : (tag : OpenTag) (key value : List ℕ) (c : ℕ) → (is_white_space c || (c == 62)) ≡ true →
    whole_step (unquoted tag key value) c ≡ whole_step (after_attribute_value (with_attribute tag key value)) c
bare_step tag key value c h = elim (cases_Bool (is_white_space c)) [
  | inl y ↦ simp y
  | inr n ↦ rw (eqb-true c 62 (ap (λ (v : Bool). v || (c == 62)) (sym n) ∙ h)) refl
]

bare_ends : (tag : OpenTag) (key value : List ℕ) (b : ℕ) → (is_white_space (feed b) || (feed b == 62)) ≡ true →
    read (at (unquoted tag key value)) b ≡ read (at (after_attribute_value (with_attribute tag key value))) b
unfolding read
bare_ends tag key value b h = bare_step tag key value (feed b) h

key_step : (tag : OpenTag) (key : List ℕ) (c : ℕ) → ((c == 47) || (c == 62)) ≡ true →
    whole_step (attribute_name tag key) c ≡ whole_step (after_attribute_value (with_attribute tag key [])) c
key_step tag key c h = elim (cases_Bool (c == 47)) [
  | inl y ↦ rw (eqb-true c 47 y) refl
  | inr n ↦ (
      let t : OpenTag = with_attribute tag key [] in
      rw (eqb-true c 62 (ap (λ (v : Bool). v || (c == 62)) (sym n) ∙ h))
      (settled_at_once 2 (tag_emitted t false) 62 (emitted_at_once t false) ∙ sym (settled_at_once 3 (tag_emitted t false) 62 (emitted_at_once t false))))
]

key_ends : (tag : OpenTag) (key : List ℕ) (b : ℕ) → ((feed b == 47) || (feed b == 62)) ≡ true →
    read (at (attribute_name tag key)) b ≡ read (at (after_attribute_value (with_attribute tag key []))) b
unfolding read
key_ends tag key b h = key_step tag key (feed b) h

as_read : (s t : State) (b : ℕ) (text : List ℕ) → read (at s) b ≡ read (at t) b → emitted (at s) (b ∷ text) ≡ emitted (at t) (b ∷ text)
as_read s t b text e = ap (λ (x : Step). x.emits ++ emitted (record { state = x.next; after_return = b == 13 }) text) e

pub bare_set : (tag : OpenTag) (key old new : List ℕ) (b : ℕ) (text : List ℕ) → has_attribute key tag ≡ false → (is_white_space (feed b) || (feed b == 62)) ≡ true →
    emitted (at (after_attribute_value (with_attribute tag key new))) (b ∷ text) ≡ changed_first (Set key new) (emitted (at (unquoted tag key old)) (b ∷ text))
bare_set tag key old new b text h e =
    set_reads tag key old new (b ∷ text) h
    ∙ ap (changed_first (Set key new)) (sym (as_read (unquoted tag key old) (after_attribute_value (with_attribute tag key old)) b text (bare_ends tag key old b e)))

pub empty_set : (tag : OpenTag) (key new : List ℕ) (b : ℕ) (text : List ℕ) → has_attribute key tag ≡ false → ((feed b == 47) || (feed b == 62)) ≡ true →
    emitted (at (after_attribute_value (with_attribute tag key new))) (b ∷ text) ≡ changed_first (Set key new) (emitted (at (attribute_name tag key)) (b ∷ text))
empty_set tag key new b text h e =
    set_reads tag key [] new (b ∷ text) h
    ∙ ap (changed_first (Set key new)) (sym (as_read (attribute_name tag key) (after_attribute_value (with_attribute tag key [])) b text (key_ends tag key b e)))
