-- Bytes that are a start tag by themselves, by what stands after the name.
use Rattle.std.proofs.Common.{◌≡◌, ℕ, zero, suc, Bool, true, false, ◌==◌, ◌&&◌, List, [], ◌∷◌, ◌++◌, codes, Some, None, refl, ap, ap₂, sym, subst, ◌∙◌, inl, inr, append_assoc, append-nil, if◌then◌else◌}
use Rattle.std.specs.Prelude.{⊤, option_map}
use Rattle.std.specs.Str.{bytes_eq}
use Rattle.tl_names.specs.Elements.{is_among, rawtext_names, rcdata_names}
use Rattle.std.proofs.lemmas.Bool.{cases_Bool, cond_both, eqb-true}
use Rattle.tl_html_spec.specs.HtmlTokenizer.{HtmlAttribute, HtmlToken, StartTag, EndTag, OpenTag, State, Step, after_start, at_end, data_state, emitting_token, step}
use Rattle.tl_html_spec.specs.HtmlTokenizer.{emitted as tag_emitted}
use Rattle.tl_html_spec.specs.Pieces.{piece, pieces_from}
use Rattle.tl_html_spec.specs.Reader.{Reader, Rest, after, at, emitted, emitting_before, feed, is_at_rest, next, read, rest_before, rest_within, resting, tokens_of}
use Rattle.tl_html_spec.proofs.Fold.{tokens_append}
use Rattle.tl_html_spec.proofs.Resting.{strict_rest}
use Rattle.tl_html_tokens.proofs.Others.{Restless}
use Rattle.tl_patch_spec.proofs.Inside.{Inner, Inside, Outcome, Value, adding_to, after_key, after_slash, after_value, applied, before_key, before_value, byte_inner, continued, decimal_begin, decimal_number, double_quotes, ended, ends, fill, hexadecimal_begin, hexadecimal_number, inner, inner_text, key_of, named_reference, no_quotes, numeric_reference, reference, single_quotes, stays, still, value_in, value_of, with_all}
use Rattle.tl_patch_spec.proofs.Tags.{byte_is, emitted_at_once, in_tag, inner_is}

-- what is at rest nowhere is one piece

pub one_piece : (text : List ℕ) (s : State) (r : Reader) (bs : List ℕ) (ts : List HtmlToken) → Restless r text →
    pieces_from s r bs ts text ≡ piece s (bs ++ text) (ts ++ tokens_of r text) ∷ []
one_piece [] s r bs ts h = ap (λ xs. piece s xs (ts ++ at_end r.state) ∷ []) (sym (append-nil bs))
one_piece (b ∷ text) s r bs ts h =
    rw (h.0, pieces_from) (
    one_piece text s (next r b) (bs ++ b ∷ []) (ts ++ emitted r (b ∷ [])) h.1
    ∙ ap₂ (λ (xs : List ℕ) (us : List HtmlToken). piece s xs us ∷ [])
    (append_assoc bs (b ∷ []) text)
    (append_assoc ts (emitted r (b ∷ [])) (tokens_of (next r b) text) ∙ ap (λ us. ts ++ us) (sym (tokens_append r (b ∷ []) text))))

pub restless_both : (r : Reader) (x y : List ℕ) → Restless r x → Restless (after r x) y → Restless r (x ++ y)
restless_both r [] y h k = k
restless_both r (b ∷ x) y h k = (h.0, restless_both (next r b) x y h.1 k)

pub restless_front : (r : Reader) (x y : List ℕ) → Restless r (x ++ y) → Restless r x
restless_front r [] y h = tt
restless_front r (b ∷ x) y h = (h.0, restless_front (next r b) x y h.1)

pub restless_back : (r : Reader) (x y : List ℕ) → Restless r (x ++ y) → Restless (after r x) y
restless_back r [] y h = h
restless_back r (b ∷ x) y h = restless_back (next r b) x y h.1

-- in a tag the machine is nowhere at rest

value_no_rest : (v : Value) (t : OpenTag) → is_at_rest (value_in v t) ≡ false
value_no_rest (double_quotes k w) t = refl
value_no_rest (single_quotes k w) t = refl
value_no_rest (no_quotes k w) t = refl

inside_no_rest : (i : Inside) (t : OpenTag) → is_at_rest (fill i t) ≡ false
inside_no_rest (value_of v) t = value_no_rest v t
inside_no_rest before_key t = refl
inside_no_rest (key_of k) t = refl
inside_no_rest (after_key k) t = refl
inside_no_rest (before_value k) t = refl
inside_no_rest after_value t = refl
inside_no_rest after_slash t = refl
inside_no_rest (reference v) t = refl
inside_no_rest (named_reference v w) t = refl
inside_no_rest (numeric_reference v) t = refl
inside_no_rest (hexadecimal_begin v x) t = refl
inside_no_rest (decimal_begin v) t = refl
inside_no_rest (hexadecimal_number v c) t = refl
inside_no_rest (decimal_number v c) t = refl

no_rest_within : (n : ℕ) (i : Inside) (t : OpenTag) (b : ℕ) → rest_within n (fill i t) b ≡ None
no_rest_within zero i t b = rw (inside_no_rest i t) refl
no_rest_within (suc n) i t b = rw (inside_no_rest i t) (by_step (λ j u. no_rest_within n j u b) (inner i b) (step (fill i t) b) (inner_is i t b))
  where
    by_step : ((j : Inside) (u : OpenTag) → rest_within n (fill j u) b ≡ None) → (x : Inner) (y : Step) → y ≡ applied t x → (if y.again then option_map (emitting_before y.emits) (rest_within n y.next b) else None) ≡ None
    by_step f (stays true j more) y e = rw e (ap (option_map (emitting_before [])) (f j (with_all t more)))
    by_step f (stays false j more) y e = rw e refl
    by_step f (ends closes more) y e = rw (e, emitted_at_once (with_all t more) closes) refl

pub no_rest_inside : (i : Inside) (t : OpenTag) (v : Bool) (b : ℕ) → rest_before (in_tag i t v) b ≡ None
unfolding rest_before
no_rest_inside i t v b = elim (cases_Bool (v && (b == 10))) [
  | inl y ↦ rw y refl
  | inr n ↦ rw n (no_rest_within 2 i t (feed b))
]

-- a byte in a tag

abbrev pub reader_in : State → Bool → Reader
reader_in s v = record { state = s; after_return = v }

pub read_inside : (i : Inside) (t : OpenTag) (v : Bool) (b : ℕ) → read (in_tag i t v) b ≡ applied t (byte_inner (v && (b == 10)) i b)
unfolding read
read_inside i t v b = byte_is (v && (b == 10)) i t b

tag_is_emitted : (is_end closes : Bool) (name : List ℕ) (xs : List HtmlAttribute) (more : List HtmlToken) →
    (if is_end then emitting_token (EndTag name) data_state else emitting_token (StartTag name xs closes) (after_start name)).emits ++ more ≡ [] → ⊥
tag_is_emitted true closes name xs more e = cc
tag_is_emitted false closes name xs more e = cc

pub silent_restless : (x : List ℕ) (i : Inside) (t : OpenTag) (v : Bool) → emitted (in_tag i t v) x ≡ [] → Restless (in_tag i t v) x
silent_restless [] i t v e = tt
silent_restless (b ∷ x) i t v e = (no_rest_inside i t v b, by_step (λ j u h. silent_restless x j u (b == 13) h) (byte_inner (v && (b == 10)) i b) (read_inside i t v b))
  where
    by_step : ((j : Inside) (u : OpenTag) → emitted (in_tag j u (b == 13)) x ≡ [] → Restless (in_tag j u (b == 13)) x) → (y : Inner) → read (in_tag i t v) b ≡ applied t y → Restless (next (in_tag i t v) b) x
    by_step f (stays again j more) h =
        let there : next (in_tag i t v) b ≡ in_tag j (with_all t more) (b == 13) = ap (λ (z : Step). reader_in z.next (b == 13)) h in
        let quiet : emitted (in_tag j (with_all t more) (b == 13)) x ≡ [] = sym (ap (λ (z : Step). z.emits ++ emitted (reader_in z.next (b == 13)) x) h) ∙ e in
        subst (λ (r : Reader). Restless r x) (sym there) (f j (with_all t more) quiet)
    by_step f (ends closes more) h =
        let u : OpenTag = with_all t more in
        absurd (tag_is_emitted u.is_end closes u.name u.attributes (emitted (reader_in (tag_emitted u closes).next (b == 13)) x)
        (sym (ap (λ (z : Step). z.emits ++ emitted (reader_in z.next (b == 13)) x) h) ∙ e))

-- a return ends no tag

abbrev IsStay : Inner → Type 0
IsStay (stays again i more) = ⊤
IsStay (ends closes more) = ⊥

return_stays : (i : Inside) → IsStay (byte_inner false i 13)
return_stays before_key = tt
return_stays (key_of k) = tt
return_stays (after_key k) = tt
return_stays (before_value k) = tt
return_stays (value_of (double_quotes k w)) = tt
return_stays (value_of (single_quotes k w)) = tt
return_stays (value_of (no_quotes k w)) = tt
return_stays after_value = tt
return_stays after_slash = tt
return_stays (reference (double_quotes k w)) = tt
return_stays (reference (single_quotes k w)) = tt
return_stays (reference (no_quotes k w)) = tt
return_stays (named_reference (double_quotes k w) s) = tt
return_stays (named_reference (single_quotes k w) s) = tt
return_stays (named_reference (no_quotes k w) s) = tt
return_stays (numeric_reference (double_quotes k w)) = tt
return_stays (numeric_reference (single_quotes k w)) = tt
return_stays (numeric_reference (no_quotes k w)) = tt
return_stays (hexadecimal_begin (double_quotes k w) x) = tt
return_stays (hexadecimal_begin (single_quotes k w) x) = tt
return_stays (hexadecimal_begin (no_quotes k w) x) = tt
return_stays (decimal_begin (double_quotes k w)) = tt
return_stays (decimal_begin (single_quotes k w)) = tt
return_stays (decimal_begin (no_quotes k w)) = tt
return_stays (hexadecimal_number (double_quotes k w) c) = tt
return_stays (hexadecimal_number (single_quotes k w) c) = tt
return_stays (hexadecimal_number (no_quotes k w) c) = tt
return_stays (decimal_number (double_quotes k w) c) = tt
return_stays (decimal_number (single_quotes k w) c) = tt
return_stays (decimal_number (no_quotes k w) c) = tt

ends_no_return : (p : Bool) (i : Inside) (b : ℕ) (closes : Bool) (more : List HtmlAttribute) → byte_inner p i b ≡ ends closes more → (b == 13) ≡ false
ends_no_return true i b closes more e = cc
ends_no_return false i b closes more e = elim (cases_Bool (b == 13)) [
  | inl y ↦ absurd (subst IsStay (subst (λ c. byte_inner false i c ≡ ends closes more) (eqb-true b 13 y) e) (return_stays i))
  | inr n ↦ n
]

-- where a tag has ended

record Later (o : Outcome) (closes w : Bool) (rest : List ℕ) : Type 0 where
  more : List HtmlAttribute
  is : o ≡ ended closes more w rest

later : (front : List HtmlAttribute) (o : Outcome) (closes w : Bool) (more : List HtmlAttribute) (rest : List ℕ) → adding_to front o ≡ ended closes more w rest → Later o closes w rest
later front (still i v xs) closes w more rest e = cc
later front (ended c xs v text) closes w more rest e = record { more = xs; is = same c xs v text e }
  where
    same : (c : Bool) (xs : List HtmlAttribute) (v : Bool) (text : List ℕ) → ended c (front ++ xs) v text ≡ ended closes more w rest → ended c xs v text ≡ ended closes xs w rest
    same c xs v text e = cc

pub ended_restless : (text : List ℕ) (i : Inside) (t : OpenTag) (v closes w : Bool) (more : List HtmlAttribute) → inner_text i v text ≡ ended closes more w [] → Restless (in_tag i t v) text
ended_restless [] i t v closes w more e = tt
ended_restless (b ∷ text) i t v closes w more e = (no_rest_inside i t v b, by_step (λ j u xs h. ended_restless text j u (b == 13) closes w xs h) (byte_inner (v && (b == 10)) i b) (read_inside i t v b) e)
  where
    by_step : ((j : Inside) (u : OpenTag) (xs : List HtmlAttribute) → inner_text j (b == 13) text ≡ ended closes xs w [] → Restless (in_tag j u (b == 13)) text) → (y : Inner) → read (in_tag i t v) b ≡ applied t y → continued y (λ j. inner_text j (b == 13) text) (b == 13) text ≡ ended closes more w [] → Restless (next (in_tag i t v) b) text
    by_step f (stays again j xs) h k =
        let there : next (in_tag i t v) b ≡ in_tag j (with_all t xs) (b == 13) = ap (λ (z : Step). reader_in z.next (b == 13)) h in
        let l : Later (inner_text j (b == 13) text) closes w [] = later xs (inner_text j (b == 13) text) closes w more [] k in
        subst (λ (r : Reader). Restless r text) (sym there) (f j (with_all t xs) l.more l.is)
    by_step f (ends c xs) h k =
        let nothing : text ≡ [] = cc in
        subst (Restless (next (in_tag i t v) b)) (sym nothing) tt

pub start_rests : (name : List ℕ) → is_at_rest (after_start name) ≡ true
start_rests name =
    cond_both (is_among rcdata_names name) _ _ (λ s. is_at_rest s ≡ true) (λ _. refl)
    (λ _. cond_both (is_among rawtext_names name) _ _ (λ s. is_at_rest s ≡ true) (λ _. refl)
    (λ _. cond_both (bytes_eq name (codes "script")) _ _ (λ s. is_at_rest s ≡ true) (λ _. refl)
    (λ _. cond_both (bytes_eq name (codes "plaintext")) _ _ (λ s. is_at_rest s ≡ true) (λ _. refl) (λ _. refl))))

tag_rests : (is_end closes : Bool) (name : List ℕ) (xs : List HtmlAttribute) →
    is_at_rest (if is_end then emitting_token (EndTag name) data_state else emitting_token (StartTag name xs closes) (after_start name)).next ≡ true
tag_rests true closes name xs = refl
tag_rests false closes name xs = start_rests name

never_rests : {A : Type 0} (s : State) (c : ℕ) → is_at_rest s ≡ true → rest_before (at s) c ≡ None → A
never_rests s c r e = absurd (apart (resting s) (sym e ∙ strict_rest s c r))
  where
    apart : (x : Rest) → None ≡ Some x → ⊥
    apart x e = cc

left_nothing : (text : List ℕ) (s : State) (v : Bool) → is_at_rest s ≡ true → v ≡ false → Restless (reader_in s v) text → text ≡ []
left_nothing [] s v r e h = refl
left_nothing (c ∷ text) s v r e h = never_rests s c r (subst (λ (u : Bool). rest_before (reader_in s u) c ≡ None) e h.0)

pub ends_last : (text : List ℕ) (i : Inside) (t : OpenTag) (v closes w : Bool) (more : List HtmlAttribute) (rest : List ℕ) → Restless (in_tag i t v) text →
    inner_text i v text ≡ ended closes more w rest → rest ≡ []
ends_last [] i t v closes w more rest h e = cc
ends_last (b ∷ text) i t v closes w more rest h e = by_step (λ j u xs k g. ends_last text j u (b == 13) closes w xs rest k g) (byte_inner (v && (b == 10)) i b) refl e
  where
    by_step : ((j : Inside) (u : OpenTag) (xs : List HtmlAttribute) → Restless (in_tag j u (b == 13)) text → inner_text j (b == 13) text ≡ ended closes xs w rest → rest ≡ []) → (y : Inner) → byte_inner (v && (b == 10)) i b ≡ y → continued y (λ j. inner_text j (b == 13) text) (b == 13) text ≡ ended closes more w rest → rest ≡ []
    by_step g (stays again j xs) f k =
        let there : next (in_tag i t v) b ≡ in_tag j (with_all t xs) (b == 13) = ap (λ (z : Step). reader_in z.next (b == 13)) (read_inside i t v b ∙ ap (applied t) f) in
        let l : Later (inner_text j (b == 13) text) closes w rest = later xs (inner_text j (b == 13) text) closes w more rest k in
        g j (with_all t xs) l.more (subst (λ (r : Reader). Restless r text) there h.1) l.is
    by_step g (ends c xs) f k =
        let u : OpenTag = with_all t xs in
        let there : next (in_tag i t v) b ≡ reader_in (tag_emitted u c).next (b == 13) = ap (λ (z : Step). reader_in z.next (b == 13)) (read_inside i t v b ∙ ap (applied t) f) in
        let none : text ≡ [] = left_nothing text (tag_emitted u c).next (b == 13) (tag_rests u.is_end c u.name u.attributes) (ends_no_return (v && (b == 10)) i b c xs f)
        (subst (λ (r : Reader). Restless r text) there h.1) in
        let same : text ≡ rest = cc in
        sym same ∙ none

pub returns_none : (text : List ℕ) (i : Inside) (v closes w : Bool) (more : List HtmlAttribute) → inner_text i v text ≡ ended closes more w [] → w ≡ false
returns_none [] i v closes w more e = cc
returns_none (b ∷ text) i v closes w more e = by_step (λ j xs k. returns_none text j (b == 13) closes w xs k) (byte_inner (v && (b == 10)) i b) refl e
  where
    by_step : ((j : Inside) (xs : List HtmlAttribute) → inner_text j (b == 13) text ≡ ended closes xs w [] → w ≡ false) → (y : Inner) → byte_inner (v && (b == 10)) i b ≡ y →
        continued y (λ j. inner_text j (b == 13) text) (b == 13) text ≡ ended closes more w [] → w ≡ false
    by_step f (stays again j xs) h k = let l : Later (inner_text j (b == 13) text) closes w [] = later xs (inner_text j (b == 13) text) closes w more [] k in f j l.more l.is
    by_step f (ends c xs) h k =
        let same : w ≡ (b == 13) = cc in
        same ∙ ends_no_return (v && (b == 10)) i b c xs h
