-- What a text adds to a tag doesn't depend on what the tag has.
use Rattle.std.proofs.Common.{◌≡◌, ℕ, zero, suc, Bool, true, false, not, ◌==◌, ◌&&◌, List, [], ◌∷◌, ◌++◌, codes, refl, ap, ◌∙◌, if◌then◌else◌}
use Rattle.std.specs.Char.{is_ascii_alphanumeric, is_ascii_digit, is_ascii_hexdigit, to_ascii_lowercase}
use Rattle.tl_html_spec.specs.References.{named_value, number_value}
use Rattle.tl_html_spec.specs.HtmlTokenizer.{HtmlAttribute, HtmlToken, OpenTag, State, Step, ends_name, flushed, is_value, is_white_space, settled, step, with_attribute}
use Rattle.tl_html_spec.specs.HtmlTokenizer.{emitted as tag_emitted}
use Rattle.tl_html_spec.specs.Reader.{Reader, after, byte_step, emitted, feed, read}
use Rattle.tl_patch_spec.proofs.Inside.{Inner, Inside, Outcome, Value, adding, adding_to, after_key, after_slash, after_value, applied, before_key, before_value, byte_inner, continued, decimal_begin, decimal_number, double_quotes, ended, ends, fill, flush, hexadecimal_begin, hexadecimal_number, inner, inner_settled, inner_text, key_of, named_reference, no_quotes, numeric_reference, reference, single_quotes, stays, still, value_in, value_of, with_all}
use Rattle.tl_html_spec.proofs.Resting.{neither_again, settled_at_once}

-- one step

pick : (tag : OpenTag) (c : Bool) (x : Step) (u : Inner) (y : Step) (v : Inner) → x ≡ applied tag u → y ≡ applied tag v →
    (if c then x else y) ≡ applied tag (if c then u else v)
pick tag true x u y v h k = h
pick tag false x u y v h k = k

flush_is : (v : Value) (tag : OpenTag) (bytes : List ℕ) (again : Bool) → flushed (value_in v tag) bytes again ≡ applied tag (flush v bytes again)
flush_is (double_quotes key value) tag bytes again = refl
flush_is (single_quotes key value) tag bytes again = refl
flush_is (no_quotes key value) tag bytes again = refl

value_is : (v : Value) (tag : OpenTag) → is_value (value_in v tag) ≡ true
value_is (double_quotes key value) tag = refl
value_is (single_quotes key value) tag = refl
value_is (no_quotes key value) tag = refl

pub inner_is : (i : Inside) (tag : OpenTag) (b : ℕ) → step (fill i tag) b ≡ applied tag (inner i b)
inner_is before_key tag b =
    pick tag (is_white_space b) _ _ _ _ refl (pick tag (b == 47) _ _ _ _ refl (pick tag (b == 62) _ _ _ _ refl (pick tag (b == 61) _ _ _ _ refl refl)))
inner_is (key_of key) tag b = pick tag (ends_name b) _ _ _ _ refl (pick tag (b == 61) _ _ _ _ refl refl)
inner_is (after_key key) tag b =
    pick tag (is_white_space b) _ _ _ _ refl (pick tag (b == 47) _ _ _ _ refl (pick tag (b == 61) _ _ _ _ refl (pick tag (b == 62) _ _ _ _ refl refl)))
inner_is (before_value key) tag b =
    pick tag (is_white_space b) _ _ _ _ refl (pick tag (b == 34) _ _ _ _ refl (pick tag (b == 39) _ _ _ _ refl (pick tag (b == 62) _ _ _ _ refl refl)))
inner_is (value_of (double_quotes key value)) tag b = pick tag (b == 34) _ _ _ _ refl (pick tag (b == 38) _ _ _ _ refl refl)
inner_is (value_of (single_quotes key value)) tag b = pick tag (b == 39) _ _ _ _ refl (pick tag (b == 38) _ _ _ _ refl refl)
inner_is (value_of (no_quotes key value)) tag b =
    pick tag (is_white_space b) _ _ _ _ refl (pick tag (b == 38) _ _ _ _ refl (pick tag (b == 62) _ _ _ _ refl refl))
inner_is after_value tag b =
    pick tag (is_white_space b) _ _ _ _ refl (pick tag (b == 47) _ _ _ _ refl (pick tag (b == 62) _ _ _ _ refl refl))
inner_is after_slash tag b = pick tag (b == 62) _ _ _ _ refl refl
inner_is (reference v) tag b =
    pick tag (is_ascii_alphanumeric b) _ _ _ _ refl (pick tag (b == 35) _ _ _ _ refl (flush_is v tag (codes "&") true))
inner_is (named_reference v buffer) tag b =
    pick tag (is_ascii_alphanumeric b) _ _ _ _ refl
    (pick tag (b == 59) _ _ _ _
    (ap (λ w. flushed (value_in v tag) (named_value w (buffer ++ b ∷ []) []) false) (value_is v tag) ∙ flush_is v tag (named_value true (buffer ++ b ∷ []) []) false)
    (ap (λ w. flushed (value_in v tag) (named_value w buffer (b ∷ [])) true) (value_is v tag) ∙ flush_is v tag (named_value true buffer (b ∷ [])) true))
inner_is (numeric_reference v) tag b = pick tag (to_ascii_lowercase b == 120) _ _ _ _ refl refl
inner_is (hexadecimal_begin v x) tag b = pick tag (is_ascii_hexdigit b) _ _ _ _ refl (flush_is v tag (codes "&#" ++ x ∷ []) true)
inner_is (decimal_begin v) tag b = pick tag (is_ascii_digit b) _ _ _ _ refl (flush_is v tag (codes "&#") true)
inner_is (hexadecimal_number v code) tag b = pick tag (is_ascii_hexdigit b) _ _ _ _ refl (flush_is v tag (number_value code) (not (b == 59)))
inner_is (decimal_number v code) tag b = pick tag (is_ascii_digit b) _ _ _ _ refl (flush_is v tag (number_value code) (not (b == 59)))

-- with its reconsumes

pub all_append : (tag : OpenTag) (xs ys : List HtmlAttribute) → with_all (with_all tag xs) ys ≡ with_all tag (xs ++ ys)
all_append tag [] ys = refl
all_append tag (x ∷ xs) ys = all_append (with_attribute tag x.0 x.1) xs ys

applied_adding : (tag : OpenTag) (xs : List HtmlAttribute) (x : Inner) → applied (with_all tag xs) x ≡ applied tag (adding xs x)
applied_adding tag xs (stays again i more) = ap (λ (t : OpenTag). stepping (fill i t) again) (all_append tag xs more)
  where
    stepping : State → Bool → Step
    stepping s again = record { next = s; emits = []; again = again }
applied_adding tag xs (ends closes more) = ap (λ (t : OpenTag). tag_emitted t closes) (all_append tag xs more)

pub emitted_at_once : (tag : OpenTag) (closes : Bool) → (tag_emitted tag closes).again ≡ false
emitted_at_once tag closes = neither_again tag.is_end _ _ refl refl

settled_inner : (n : ℕ) (tag : OpenTag) (x : Inner) (b : ℕ) → settled n (applied tag x) b ≡ applied tag (inner_settled n x b)
settled_inner zero tag x b = refl
settled_inner (suc n) tag (stays true i more) b =
    ap (λ (y : Step). settled n y b) (inner_is i (with_all tag more) b)
    ∙ settled_inner n (with_all tag more) (inner i b) b
    ∙ applied_adding tag more (inner_settled n (inner i b) b)
settled_inner (suc n) tag (stays false i more) b = refl
settled_inner (suc n) tag (ends closes more) b = settled_at_once (suc n) (tag_emitted (with_all tag more) closes) b (emitted_at_once (with_all tag more) closes)

pub byte_is : (passed : Bool) (i : Inside) (tag : OpenTag) (b : ℕ) → byte_step passed (fill i tag) b ≡ applied tag (byte_inner passed i b)
byte_is true i tag b = refl
byte_is false i tag b = ap (λ (y : Step). settled 3 y (feed b)) (inner_is i tag (feed b)) ∙ settled_inner 3 tag (inner i (feed b)) (feed b)

-- a whole text

abbrev pub in_tag : Inside → OpenTag → Bool → Reader
in_tag i tag returned = record { state = fill i tag; after_return = returned }

abbrev pub past : OpenTag → Bool → Bool → Reader
past tag closes returned = record { state = (tag_emitted tag closes).next; after_return = returned }

abbrev pub emits_of : OpenTag → Outcome → List HtmlToken
emits_of tag (still i returned more) = []
emits_of tag (ended closes more returned rest) = (tag_emitted (with_all tag more) closes).emits ++ emitted (past (with_all tag more) closes returned) rest

abbrev pub reader_of : OpenTag → Outcome → Reader
reader_of tag (still i returned more) = in_tag i (with_all tag more) returned
reader_of tag (ended closes more returned rest) = after (past (with_all tag more) closes returned) rest

emits_adding : (tag : OpenTag) (xs : List HtmlAttribute) (o : Outcome) → emits_of (with_all tag xs) o ≡ emits_of tag (adding_to xs o)
emits_adding tag xs (still i returned more) = refl
emits_adding tag xs (ended closes more returned rest) = ap (λ (t : OpenTag). (tag_emitted t closes).emits ++ emitted (past t closes returned) rest) (all_append tag xs more)

reader_adding : (tag : OpenTag) (xs : List HtmlAttribute) (o : Outcome) → reader_of (with_all tag xs) o ≡ reader_of tag (adding_to xs o)
reader_adding tag xs (still i returned more) = ap (λ (t : OpenTag). in_tag i t returned) (all_append tag xs more)
reader_adding tag xs (ended closes more returned rest) = ap (λ (t : OpenTag). after (past t closes returned) rest) (all_append tag xs more)

pub record IsOutcome (i : Inside) (returned : Bool) (text : List ℕ) : Type 0 where
  pub tokens_are : (tag : OpenTag) → emitted (in_tag i tag returned) text ≡ emits_of tag (inner_text i returned text)
  pub reader_is : (tag : OpenTag) → after (in_tag i tag returned) text ≡ reader_of tag (inner_text i returned text)

tokens_continue : (x : Inner) (returned : Bool) (text : List ℕ) → ((j : Inside) → IsOutcome j returned text) → (tag : OpenTag) →
    (applied tag x).emits ++ emitted (record { state = (applied tag x).next; after_return = returned }) text ≡ emits_of tag (continued x (λ j. inner_text j returned text) returned text)
tokens_continue (stays again j more) returned text later tag = (later j).tokens_are (with_all tag more) ∙ emits_adding tag more (inner_text j returned text)
tokens_continue (ends closes more) returned text later tag = refl

reader_continues : (x : Inner) (returned : Bool) (text : List ℕ) → ((j : Inside) → IsOutcome j returned text) → (tag : OpenTag) →
    after (record { state = (applied tag x).next; after_return = returned }) text ≡ reader_of tag (continued x (λ j. inner_text j returned text) returned text)
reader_continues (stays again j more) returned text later tag = (later j).reader_is (with_all tag more) ∙ reader_adding tag more (inner_text j returned text)
reader_continues (ends closes more) returned text later tag = refl

pub outcome_is : (text : List ℕ) (i : Inside) (returned : Bool) → IsOutcome i returned text
unfolding read
outcome_is [] i returned = record { tokens_are = λ tag. refl; reader_is = λ tag. refl }
outcome_is (b ∷ text) i returned = record {
  tokens_are = λ tag.
      ap (λ (y : Step). y.emits ++ emitted (record { state = y.next; after_return = b == 13 }) text) (byte_is (returned && (b == 10)) i tag b)
      ∙ tokens_continue (byte_inner (returned && (b == 10)) i b) (b == 13) text (λ j. outcome_is text j (b == 13)) tag;
  reader_is = λ tag.
      ap (λ (y : Step). after (record { state = y.next; after_return = b == 13 }) text) (byte_is (returned && (b == 10)) i tag b)
      ∙ reader_continues (byte_inner (returned && (b == 10)) i b) (b == 13) text (λ j. outcome_is text j (b == 13)) tag;
}

-- what stands after a place in a tag reads the same, whatever attributes the tag has there
pub tag_text_emits : (i : Inside) (tag : OpenTag) (text : List ℕ) → emitted (in_tag i tag false) text ≡ emits_of tag (inner_text i false text)
tag_text_emits i tag text = (outcome_is text i false).tokens_are tag

pub tag_text_after : (i : Inside) (tag : OpenTag) (text : List ℕ) → after (in_tag i tag false) text ≡ reader_of tag (inner_text i false text)
tag_text_after i tag text = (outcome_is text i false).reader_is tag
