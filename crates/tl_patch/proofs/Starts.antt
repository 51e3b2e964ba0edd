-- A start tag by itself: its name, and a rest that ends it.
use Rattle.std.proofs.Common.{◌≡◌, ℕ, zero, suc, ◌<◌, ◌+◌, Bool, true, false, ◌==◌, List, [], ◌∷◌, ◌++◌, length, take, drop, get_or, None, refl, ap, ap₂, sym, subst, ◌∙◌, true≢false, if◌then◌else◌}
use Rattle.std.proofs.lemmas.List.{drop_more, take-append-drop}
use Rattle.tl_html_spec.specs.HtmlTokenizer.{HtmlAttribute, HtmlToken, StartTag, EndTag, OpenTag, Step, after_start, at_end, data_state, emitting_token, ends_name, flushed, is_white_space, step, tag_name}
use Rattle.tl_html_spec.specs.Pieces.{piece}
use Rattle.tl_html_spec.specs.Reader.{Reader, after, at, emitted, feed, next, rest_before, tokens_of}
use Rattle.tl_html_spec.proofs.Cutting.{tokens_end}
use Rattle.tl_html_spec.proofs.Fold.{tokens_append}
use Rattle.tl_html_spec.proofs.Resting.{neither_again}
use Rattle.tl_html_tokens.specs.Kinds.{IsStartTag}
use Rattle.tl_html_tokens.specs.Whole.{IsWhole}
use Rattle.tl_html_tokens.specs.declared.mode.Mode.TheVariants as mode
use Rattle.tl_html_tokens.proofs.Alone.{Whole, whole_is}
use Rattle.tl_html_tokens.proofs.Others.{Restless}
use Rattle.tl_patch_spec.specs.TagNames.{IsNameEnd}
use Rattle.tl_patch_spec.proofs.Added.{name_ends}
use Rattle.tl_patch_spec.proofs.Inside.{Inside, Outcome, Value, after_key, after_slash, after_value, before_key, before_value, decimal_begin, decimal_number, double_quotes, ended, fill, hexadecimal_begin, hexadecimal_number, inner_text, key_of, named_reference, no_quotes, numeric_reference, reference, single_quotes, still, value_in, value_of, with_all}
use Rattle.tl_patch_spec.proofs.Markup.{rest_ends}
use Rattle.tl_patch_spec.proofs.Sets.{kind_kept, name_kept}
use Rattle.tl_patch_spec.proofs.Tags.{emits_of, in_tag, outcome_is, reader_of}
use Rattle.tl_patch.proofs.Ended.{ended_restless, ends_last, no_rest_inside, one_piece, reader_in, restless_back, restless_both, restless_front, silent_restless, start_rests}

-- of a tag that the end of a text cuts nothing comes

flushed_none : (v : Value) (t : OpenTag) (bytes : List ℕ) → (flushed (value_in v t) bytes false).emits ≡ []
flushed_none (double_quotes k w) t bytes = refl
flushed_none (single_quotes k w) t bytes = refl
flushed_none (no_quotes k w) t bytes = refl

value_none : (v : Value) (t : OpenTag) → at_end (value_in v t) ≡ []
value_none (double_quotes k w) t = refl
value_none (single_quotes k w) t = refl
value_none (no_quotes k w) t = refl

inside_none : (i : Inside) (t : OpenTag) → at_end (fill i t) ≡ []
inside_none before_key t = refl
inside_none (key_of k) t = refl
inside_none (after_key k) t = refl
inside_none (before_value k) t = refl
inside_none (value_of v) t = value_none v t
inside_none after_value t = refl
inside_none after_slash t = refl
inside_none (reference v) t = flushed_none v t _
inside_none (named_reference v w) t = flushed_none v t _
inside_none (numeric_reference v) t = flushed_none v t _
inside_none (hexadecimal_begin v x) t = flushed_none v t _
inside_none (decimal_begin v) t = flushed_none v t _
inside_none (hexadecimal_number v c) t = flushed_none v t _
inside_none (decimal_number v c) t = flushed_none v t _

-- the tokens of what stands in a tag, if the text ends there

abbrev pub start_of : OpenTag → List HtmlAttribute → Bool → HtmlToken
start_of t more closes = StartTag t.name (with_all t more).attributes closes

pub tokens_inside : (i : Inside) (t : OpenTag) (v : Bool) (text : List ℕ) →
    tokens_of (in_tag i t v) text ≡ emits_of t (inner_text i v text) ++ at_end (reader_of t (inner_text i v text)).state
tokens_inside i t v text =
    let o = outcome_is text i v in
    sym (tokens_end (in_tag i t v) text) ∙ ap₂ (λ (ts : List HtmlToken) (r : Reader). ts ++ at_end r.state) (o.tokens_are t) (o.reader_is t)

pub tokens_still : (t : OpenTag) (i : Inside) (w : Bool) (more : List HtmlAttribute) →
    emits_of t (still i w more) ++ at_end (reader_of t (still i w more)).state ≡ []
tokens_still t i w more = inside_none i (with_all t more)

kind_tokens : (is_end closes : Bool) (name : List ℕ) (xs : List HtmlAttribute) → is_end ≡ false →
    let x : Step = if is_end then emitting_token (EndTag name) data_state else emitting_token (StartTag name xs closes) (after_start name) in
    (x.emits ++ []) ++ at_end x.next ≡ StartTag name xs closes ∷ []
kind_tokens true closes name xs e = absurd (true≢false e)
kind_tokens false closes name xs e = ap (λ ts. StartTag name xs closes ∷ ts) (rest_ends (after_start name) (start_rests name))

tokens_ended : (t : OpenTag) (closes w : Bool) (more : List HtmlAttribute) → t.is_end ≡ false →
    emits_of t (ended closes more w []) ++ at_end (reader_of t (ended closes more w [])).state ≡ start_of t more closes ∷ []
tokens_ended t closes w more e =
    let u : OpenTag = with_all t more in
    kind_tokens u.is_end closes u.name u.attributes (kind_kept t more ∙ e) ∙ ap (λ n. StartTag n u.attributes closes ∷ []) (name_kept t more)

-- after the name a tag is read as after a value

abbrev pub by_read : Bool → List ℕ → Step → List HtmlToken
by_read w text x = x.emits ++ emitted (reader_in x.next w) text

pub named_emits : (t : OpenTag) (b : ℕ) (text : List ℕ) → ends_name (feed b) ≡ true → emitted (at (tag_name t)) (b ∷ text) ≡ emitted (in_tag after_value t false) (b ∷ text)
named_emits t b text e = ap (by_read (b == 13) text) (name_ends t b e)

pub named_after : (t : OpenTag) (b : ℕ) (text : List ℕ) → ends_name (feed b) ≡ true → after (at (tag_name t)) (b ∷ text) ≡ after (in_tag after_value t false) (b ∷ text)
named_after t b text e = ap (λ (x : Step). after (reader_in x.next (b == 13)) text) (name_ends t b e)

pub named_tokens : (t : OpenTag) (b : ℕ) (text : List ℕ) → ends_name (feed b) ≡ true → tokens_of (at (tag_name t)) (b ∷ text) ≡ tokens_of (in_tag after_value t false) (b ∷ text)
named_tokens t b text e = ap (λ (x : Step). x.emits ++ tokens_of (reader_in x.next (b == 13)) text) (name_ends t b e)

named_next : (t : OpenTag) (b : ℕ) → ends_name (feed b) ≡ true → next (at (tag_name t)) b ≡ next (in_tag after_value t false) b
named_next t b e = ap (λ (x : Step). reader_in x.next (b == 13)) (name_ends t b e)

pub name_once : (t : OpenTag) (b : ℕ) → (step (tag_name t) b).again ≡ false
name_once t b = neither_again (is_white_space b) _ _ refl (neither_again (b == 47) _ _ refl (neither_again (b == 62) _ _ (neither_again t.is_end _ _ refl refl) refl))

pub name_no_rest : (t : OpenTag) (b : ℕ) → rest_before (at (tag_name t)) b ≡ None
unfolding rest_before
name_no_rest t b = rw (name_once t (feed b)) refl

named_restless : (t : OpenTag) (b : ℕ) (text : List ℕ) → ends_name (feed b) ≡ true → Restless (in_tag after_value t false) (b ∷ text) → Restless (at (tag_name t)) (b ∷ text)
named_restless t b text e h = (name_no_rest t b, subst (λ (r : Reader). Restless r text) (sym (named_next t b e)) h.1)

-- bytes of which the machine is at rest before none but the first

abbrev pub IsOnePiece : List ℕ → Type 0
IsOnePiece [] = ⊥
IsOnePiece (b ∷ text) = Restless (next (at data_state) b) text

one_whole : (bytes : List ℕ) → IsOnePiece bytes → IsWhole mode.Data bytes (tokens_of (at data_state) bytes)
one_whole [] h = absurd h
one_whole (b ∷ text) h =
    one_piece text data_state (next (at data_state) b) (b ∷ []) (emitted (at data_state) (b ∷ [])) h
    ∙ ap (λ ts. piece data_state (b ∷ text) ts ∷ []) (sym (tokens_append (at data_state) (b ∷ []) text))

one_both : (x y : List ℕ) → IsOnePiece x → Restless (after (at data_state) x) y → IsOnePiece (x ++ y)
one_both [] y h k = absurd h
one_both (b ∷ x) y h k = restless_both (next (at data_state) b) x y h k

-- where a name is read, and a rest that ends the tag, the bytes are that start tag

pub record IsNamed (front : List ℕ) (t : OpenTag) : Type 0 where
  pub one : IsOnePiece front
  pub state : after (at data_state) front ≡ at (tag_name t)
  pub silent : emitted (at data_state) front ≡ []

pub whole_start : (front z y : List ℕ) (b : ℕ) (t u : OpenTag) (i : Inside) (v closes w : Bool) (more : List HtmlAttribute) → IsNamed front t → ends_name (feed b) ≡ true →
    emitted (at (tag_name t)) (b ∷ z) ≡ [] → after (at (tag_name t)) (b ∷ z) ≡ in_tag i u v → u.is_end ≡ false → inner_text i v y ≡ ended closes more w [] →
    IsWhole mode.Data (front ++ ((b ∷ z) ++ y)) (start_of u more closes ∷ [])
whole_start front z y b t u i v closes w more n e s a k o =
    let before : emitted (in_tag after_value t false) (b ∷ z) ≡ [] = sym (named_emits t b z e) ∙ s in
    let here : Restless (at (tag_name t)) (b ∷ z) = named_restless t b z e (silent_restless (b ∷ z) after_value t false before) in
    let later : Restless (after (at (tag_name t)) (b ∷ z)) y = subst (λ (r : Reader). Restless r y) (sym a) (ended_restless y i u v closes w more o) in
    let rest : Restless (after (at data_state) front) ((b ∷ z) ++ y) = subst (λ (r : Reader). Restless r ((b ∷ z) ++ y)) (sym n.state) (restless_both (at (tag_name t)) (b ∷ z) y here later) in
    let tokens : tokens_of (at data_state) (front ++ ((b ∷ z) ++ y)) ≡ start_of u more closes ∷ [] =
    tokens_append (at data_state) front ((b ∷ z) ++ y)
    ∙ ap₂ (λ (ts : List HtmlToken) (r : Reader). ts ++ tokens_of r ((b ∷ z) ++ y)) n.silent n.state
    ∙ tokens_append (at (tag_name t)) (b ∷ z) y
    ∙ ap₂ (λ (ts : List HtmlToken) (r : Reader). ts ++ tokens_of r y) s a
    ∙ tokens_inside i u v y
    ∙ ap (λ (x : Outcome). emits_of u x ++ at_end (reader_of u x).state) o
    ∙ tokens_ended u closes w more k in
    subst (IsWhole mode.Data (front ++ ((b ∷ z) ++ y))) tokens (one_whole (front ++ ((b ∷ z) ++ y)) (one_both front ((b ∷ z) ++ y) n.one rest))

pub whole_rest_as : (front y : List ℕ) (b : ℕ) (t : OpenTag) (closes w : Bool) (more : List HtmlAttribute) (us : List HtmlToken) → IsNamed front t → ends_name (feed b) ≡ true →
    emits_of t (ended closes more w []) ++ at_end (reader_of t (ended closes more w [])).state ≡ us → inner_text after_value false (b ∷ y) ≡ ended closes more w [] → IsWhole mode.Data (front ++ (b ∷ y)) us
whole_rest_as front y b t closes w more us n e k o =
    let later : Restless (at (tag_name t)) (b ∷ y) = named_restless t b y e (ended_restless (b ∷ y) after_value t false closes w more o) in
    let rest : Restless (after (at data_state) front) (b ∷ y) = subst (λ (r : Reader). Restless r (b ∷ y)) (sym n.state) later in
    let tokens : tokens_of (at data_state) (front ++ (b ∷ y)) ≡ us =
    tokens_append (at data_state) front (b ∷ y)
    ∙ ap₂ (λ (ts : List HtmlToken) (r : Reader). ts ++ tokens_of r (b ∷ y)) n.silent n.state
    ∙ named_tokens t b y e
    ∙ tokens_inside after_value t false (b ∷ y)
    ∙ ap (λ (x : Outcome). emits_of t x ++ at_end (reader_of t x).state) o
    ∙ k in
    subst (IsWhole mode.Data (front ++ (b ∷ y))) tokens (one_whole (front ++ (b ∷ y)) (one_both front (b ∷ y) n.one rest))

pub whole_rest : (front y : List ℕ) (b : ℕ) (t : OpenTag) (closes w : Bool) (more : List HtmlAttribute) → IsNamed front t → ends_name (feed b) ≡ true → t.is_end ≡ false →
    inner_text after_value false (b ∷ y) ≡ ended closes more w [] → IsWhole mode.Data (front ++ (b ∷ y)) (start_of t more closes ∷ [])
whole_rest front y b t closes w more n e k o = whole_rest_as front y b t closes w more (start_of t more closes ∷ []) n e (tokens_ended t closes w more k) o

-- and a start tag by itself is so

pub record Ends (rest : List ℕ) (t : OpenTag) (ts : List HtmlToken) : Type 0 where
  pub closes : Bool
  pub more : List HtmlAttribute
  pub returned : Bool
  pub outcome : inner_text after_value false rest ≡ ended closes more returned []
  pub is : ts ≡ start_of t more closes ∷ []

-- so it ends, where a token comes of it
pub record IsEnded (rest : List ℕ) : Type 0 where
  pub closes : Bool
  pub more : List HtmlAttribute
  pub returned : Bool
  pub outcome : inner_text after_value false rest ≡ ended closes more returned []

by_outcome : (rest : List ℕ) (t : OpenTag) (ts : List HtmlToken) (o : Outcome) → inner_text after_value false rest ≡ o → Restless (in_tag after_value t false) rest →
    ts ≡ emits_of t o ++ at_end (reader_of t o).state → (ts ≡ [] → ⊥) → IsEnded rest
by_outcome rest t ts (still i w more) f h e s = absurd (s (e ∙ tokens_still t i w more))
by_outcome rest t ts (ended closes more w left) f h e s =
    let none : left ≡ [] = ends_last rest after_value t false closes w more left h f in
    record { closes = closes; more = more; returned = w; outcome = f ∙ ap (ended closes more w) none }

pub rest_ended : (rest : List ℕ) (b : ℕ) (t : OpenTag) (ts : List HtmlToken) → ends_name (feed b) ≡ true → Restless (at (tag_name t)) (b ∷ rest) →
    ts ≡ tokens_of (at (tag_name t)) (b ∷ rest) → (ts ≡ [] → ⊥) → IsEnded (b ∷ rest)
rest_ended rest b t ts e h is s =
    by_outcome (b ∷ rest) t ts (inner_text after_value false (b ∷ rest)) refl
    (no_rest_first, subst (λ (r : Reader). Restless r rest) (named_next t b e) h.1)
    (is ∙ named_tokens t b rest e ∙ tokens_inside after_value t false (b ∷ rest)) s
  where
    no_rest_first : rest_before (in_tag after_value t false) b ≡ None
    no_rest_first = no_rest_inside after_value t false b

pub rest_ends_it : (rest : List ℕ) (b : ℕ) (t : OpenTag) (ts : List HtmlToken) → ends_name (feed b) ≡ true → t.is_end ≡ false → Restless (at (tag_name t)) (b ∷ rest) →
    ts ≡ tokens_of (at (tag_name t)) (b ∷ rest) → IsStartTag ts → Ends (b ∷ rest) t ts
rest_ends_it rest b t ts e k h is s =
    let r : IsEnded (b ∷ rest) = rest_ended rest b t ts e h is (λ n. subst IsStartTag n s) in
    record {
      closes = r.closes;
      more = r.more;
      returned = r.returned;
      outcome = r.outcome;
      is = is ∙ named_tokens t b rest e ∙ tokens_inside after_value t false (b ∷ rest)
          ∙ ap (λ (o : Outcome). emits_of t o ++ at_end (reader_of t o).state) r.outcome ∙ tokens_ended t r.closes r.returned r.more k;
    }

pub front_begins : (n : ℕ) (tag : List ℕ) (t : OpenTag) → n < length tag → after (at data_state) (take n tag) ≡ at (tag_name t) → (k : ℕ) × (n ≡ suc k)
front_begins zero tag t l e = absurd (never (ap (λ (r : Reader). r.state) e))
  where
    never : data_state ≡ tag_name t → ⊥
    never e = cc
front_begins (suc k) tag t l e = (k, refl)

front_one : (k : ℕ) (tag back : List ℕ) → suc k < length tag → IsOnePiece tag → tag ≡ take (suc k) tag ++ back → IsOnePiece (take (suc k) tag) × Restless (after (at data_state) (take (suc k) tag)) back
front_one k [] back l h e = absurd h
front_one k (b ∷ text) back l h e =
    let rest : text ≡ take k text ++ back = cc in
    let all : Restless (next (at data_state) b) (take k text ++ back) = subst (Restless (next (at data_state) b)) rest h in
    (restless_front (next (at data_state) b) (take k text) back all, restless_back (next (at data_state) b) (take k text) back all)

whole_one : (bytes : List ℕ) (ts : List HtmlToken) → IsWhole mode.Data bytes ts → IsOnePiece bytes × (ts ≡ tokens_of (at data_state) bytes)
whole_one bytes ts h =
    let w : Whole mode.Data bytes ts = whole_is mode.Data bytes ts h in
    (subst IsOnePiece (sym w.parts) w.restless, w.is)

-- what follows the name of a tag by itself
pub record IsAfterName (tag : List ℕ) (n : ℕ) (t : OpenTag) (ts : List HtmlToken) : Type 0 where
  pub one : IsOnePiece (take n tag)
  pub restless : Restless (at (tag_name t)) (get_or tag n 0 ∷ drop (n + 1) tag)
  pub is : ts ≡ tokens_of (at (tag_name t)) (get_or tag n 0 ∷ drop (n + 1) tag)

pub after_name : (is_end : Bool) (tag : List ℕ) (ts : List HtmlToken) (n : ℕ) (p : IsNameEnd is_end n tag) → IsWhole mode.Data tag ts → IsAfterName tag n (p.in_name).0 ts
after_name is_end tag ts n p h =
    let t : OpenTag = (p.in_name).0 in
    let b : ℕ = get_or tag n 0 in
    let rest : List ℕ = drop (n + 1) tag in
    let k = front_begins n tag t p.within (p.in_name).1 in
    let parts : tag ≡ take n tag ++ (b ∷ rest) = sym (take-append-drop n tag) ∙ ap (λ xs. take n tag ++ xs) (drop_more tag n 0 p.within) in
    let w = whole_one tag ts h in
    let f = front_one k.0 tag (b ∷ rest) (subst (λ m. m < length tag) k.1 p.within) w.0 (subst (λ m. tag ≡ take m tag ++ (b ∷ rest)) k.1 parts) in
    record {
      one = subst (λ m. IsOnePiece (take m tag)) (sym k.1) f.0;
      restless = subst (λ (r : Reader). Restless r (b ∷ rest)) (p.in_name).1 (subst (λ m. Restless (after (at data_state) (take m tag)) (b ∷ rest)) (sym k.1) f.1);
      is = w.1 ∙ ap (tokens_of (at data_state)) parts ∙ tokens_append (at data_state) (take n tag) (b ∷ rest)
          ∙ ap₂ (λ (us : List HtmlToken) (r : Reader). us ++ tokens_of r (b ∷ rest)) (p.in_name).2 (p.in_name).1;
    }

pub record IsStart (tag : List ℕ) (n : ℕ) (t : OpenTag) (ts : List HtmlToken) : Type 0 where
  pub named : IsNamed (take n tag) t
  pub ends : Ends (drop n tag) t ts

pub start_is : (tag : List ℕ) (ts : List HtmlToken) (n : ℕ) (p : IsNameEnd false n tag) → IsWhole mode.Data tag ts → IsStartTag ts → IsStart tag n (p.in_name).0 ts
start_is tag ts n p h s =
    let t : OpenTag = (p.in_name).0 in
    let b : ℕ = get_or tag n 0 in
    let rest : List ℕ = drop (n + 1) tag in
    let back : drop n tag ≡ b ∷ rest = drop_more tag n 0 p.within in
    let a : IsAfterName tag n t ts = after_name false tag ts n p h in
    record {
      named = record { one = a.one; state = (p.in_name).1; silent = (p.in_name).2 };
      ends = subst (λ xs. Ends xs t ts) (sym back) (rest_ends_it rest b t ts p.ends (p.in_name).4 a.restless a.is s);
    }
