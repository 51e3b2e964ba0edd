-- A driver that goes by names reads what the tokenizer reads by itself.
use Rattle.std.proofs.Common.{◌≡◌, ◌⊎◌, ℕ, Bool, true, false, ◌==◌, List, [], ◌∷◌, ◌++◌, map, refl, ap, ap₂, sym, subst, ◌∙◌, inl, inr, append-nil, append_assoc}
use Rattle.std.specs.Prelude.{⊤}
use Rattle.std.proofs.lemmas.Bool.{cases_Bool}
use Rattle.tl_html_spec.specs.HtmlTokenizer as T
use Rattle.tl_html_spec.specs.HtmlTokenizer.{HtmlToken, Character, StartTag, EndTag, CommentToken, DoctypeToken, State, Step, at_end, html_tokens, settled, step, tokens_from, whole_step, with_feeds, without_mark}
use Rattle.tl_html_spec.specs.Reader.{Reader, byte_step, feed, read, tokens_of}
use Rattle.tl_html_spec.specs.Driven.{Driver, Driving, DrivenState, DrivenStep, Emission, GoesByName, Named, bare, by_name, byte_driven, cdata_section, cdata_section_bracket, cdata_section_end, cdata_start, doctype_of, drive, driven, driven_end, driven_step, driven_tokens, driving, ends_with_start, entered, in_doctype, in_state, next_driven, no_tokens, of_step, passes, plain, state_after, taken}
use Rattle.tl_html_spec.proofs.Fold.{page_read}
use Rattle.tl_html_spec.proofs.Driving.{no_start_last, text_driven}
use Rattle.tl_html_spec.proofs.Starts.{Ends, NoStart, whole_ends}

-- the state of the tokenizer by itself
abbrev under : DrivenState → State
under (in_state s) = s
under (in_doctype t) = T.doctype
under _ = T.data_state

-- no CDATA
abbrev IsOwn : DrivenState → Type 0
IsOwn (in_state s) = ⊤
IsOwn (in_doctype t) = ⊤
IsOwn _ = ⊥

entered_own : (s : State) → IsOwn (entered s)
entered_own T.doctype = tt
entered_own _ = tt

under_entered : (s : State) → under (entered s) ≡ s
under_entered T.doctype = refl
under_entered _ = refl

bare_plain : (ts : List HtmlToken) → map bare (map plain ts) ≡ ts
bare_plain [] = refl
bare_plain (t ∷ ts) = ap (λ us. t ∷ us) (bare_plain ts)

bare_both : (es fs : List Emission) → map bare (es ++ fs) ≡ map bare es ++ map bare fs
bare_both [] fs = refl
bare_both (e ∷ es) fs = ap (λ ts. bare e ∷ ts) (bare_both es fs)

-- what a driver does after more tokens
goes_on : {M : Type 0} (d : Driver M) (m : M) (es fs : List Emission) → GoesByName d m (es ++ fs) → GoesByName d (taken d m es) fs
goes_on d m [] fs h = h
goes_on d m (e ∷ es) fs h = goes_on d (d.take m e) es fs h.2

not_foreign : {M : Type 0} (d : Driver M) (m : M) (es : List Emission) → GoesByName d m es → d.is_foreign m ≡ false
not_foreign d m [] h = h
not_foreign d m (e ∷ es) h = h.0

start_last : (ts : List HtmlToken) (n : List ℕ) (a : List T.HtmlAttribute) (c : Bool) → ends_with_start (map plain (ts ++ StartTag n a c ∷ [])) ≡ true
start_last [] n a c = refl
start_last (t ∷ []) n a c = refl
start_last (t ∷ u ∷ ts) n a c = start_last (u ∷ ts) n a c

sets_last : {M : Type 0} (d : Driver M) (m : M) (ts : List HtmlToken) (n : List ℕ) (a : List T.HtmlAttribute) (c : Bool) (fs : List Emission) →
    GoesByName d m (map plain (ts ++ StartTag n a c ∷ []) ++ fs) → d.sets (taken d m (map plain (ts ++ StartTag n a c ∷ []))) ≡ T.after_start n
sets_last d m [] n a c fs h = h.1
sets_last d m (t ∷ ts) n a c fs h = sets_last d (d.take m (plain t)) ts n a c fs h.2

-- the state after a byte
record Goes {M : Type 0} (d : Driver M) (m : M) (x : DrivenStep) (w : Step) : Type 0 where
  own : IsOwn (state_after d (taken d m x.emits) x)
  state : under (state_after d (taken d m x.emits) x) ≡ w.next
  tokens : map bare x.emits ≡ w.emits

plain_goes : {M : Type 0} (d : Driver M) (m : M) (w : Step) (fs : List Emission) → NoStart w.emits ⊎ Ends w → GoesByName d m (map plain w.emits ++ fs) → Goes d m (of_step w) w
plain_goes d m w fs (inl k) h =
    let off : ends_with_start (map plain w.emits) ≡ false = no_start_last w.emits k in
    let is : state_after d (taken d m (map plain w.emits)) (of_step w) ≡ entered w.next = rw off refl in
    record {
      own = subst IsOwn (sym is) (entered_own w.next);
      state = ap under is ∙ under_entered w.next;
      tokens = bare_plain w.emits;
    }
plain_goes d m w fs (inr e) h =
    let on : ends_with_start (map plain w.emits) ≡ true = ap (λ ts. ends_with_start (map plain ts)) e.emits ∙ start_last e.front e.name e.attributes e.closes in
    let is : state_after d (taken d m (map plain w.emits)) (of_step w) ≡ in_state (d.sets (taken d m (map plain w.emits))) = rw on refl in
    let g = subst (λ ts. GoesByName d m (map plain ts ++ fs)) e.emits h in
    record {
      own = subst IsOwn (sym is) tt;
      state = ap under is ∙ ap (λ ts. d.sets (taken d m (map plain ts))) e.emits ∙ sets_last d m e.front e.name e.attributes e.closes fs g ∙ sym e.next;
      tokens = bare_plain w.emits;
    }

step_goes : {M : Type 0} (d : Driver M) (m : M) (s : DrivenState) (b : ℕ) (fs : List Emission) → IsOwn s → GoesByName d m ((driven_step (d.is_foreign m) s b).emits ++ fs) →
    Goes d m (driven_step (d.is_foreign m) s b) (whole_step (under s) b)
step_goes d m (in_state s) b fs o h =
    let off = not_foreign d m ((driven_step (d.is_foreign m) (in_state s) b).emits ++ fs) h in
    let is : driven_step (d.is_foreign m) (in_state s) b ≡ of_step (whole_step s b) = rw off refl in
    let g = subst (λ (x : DrivenStep). GoesByName d m (x.emits ++ fs)) is h in
    subst (λ (x : DrivenStep). Goes d m x (whole_step s b)) (sym is) (plain_goes d m (whole_step s b) fs (whole_ends s b) g)
step_goes d m (in_doctype t) b fs o h = elim (cases_Bool (b == 62)) [
  | inl y ↦ rw y (record { own = tt; state = refl; tokens = refl })
  | inr n ↦ rw n (record { own = tt; state = refl; tokens = refl })
]
step_goes d m (cdata_start buffer) b fs o h = absurd o
step_goes d m cdata_section b fs o h = absurd o
step_goes d m cdata_section_bracket b fs o h = absurd o
step_goes d m cdata_section_end b fs o h = absurd o

end_goes : (s : DrivenState) → IsOwn s → map bare (driven_end s) ≡ at_end (under s)
end_goes (in_state s) o = bare_plain (at_end s)
end_goes (in_doctype t) o = refl
end_goes (cdata_start buffer) o = absurd o
end_goes cdata_section o = absurd o
end_goes cdata_section_bracket o = absurd o
end_goes cdata_section_end o = absurd o

abbrev reader : State → Bool → Reader
reader s v = record { state = s; after_return = v }

byte_goes : {M : Type 0} (d : Driver M) (m : M) (s : DrivenState) (passed : Bool) (b : ℕ) (fs : List Emission) → IsOwn s →
    GoesByName d m ((byte_driven passed (d.is_foreign m) s b).emits ++ fs) → Goes d m (byte_driven passed (d.is_foreign m) s b) (byte_step passed (under s) b)
byte_goes d m s true b fs o h = record { own = o; state = refl; tokens = refl }
byte_goes d m s false b fs o h = step_goes d m s (feed b) fs o h

pub names_read : {M : Type 0} (d : Driver M) (v : Driving M) (text : List ℕ) → IsOwn v.state → GoesByName d v.memory (driven_tokens d v text) →
    map bare (driven_tokens d v text) ≡ tokens_of (reader (under v.state) v.after_return) text
unfolding drive read
names_read d v [] o h = end_goes v.state o
names_read d v (b ∷ text) o h =
    let x = drive d v b in
    let more = driven_tokens d (next_driven d v b) text in
    let g = byte_goes d v.memory v.state (passes v b) b more o h in
    let rest = goes_on d v.memory x.emits more h in
    bare_both x.emits more
    ∙ ap₂ (λ (ts us : List HtmlToken). ts ++ us) g.tokens
    (names_read d (next_driven d v b) text g.own rest ∙ ap (λ s. tokens_of (reader s (b == 13)) text) g.state)

-- so does the one that remembers the tokens

named_goes : (m : Named) (es : List Emission) → GoesByName by_name m es
named_goes m [] = refl
named_goes m (plain (StartTag n a c) ∷ es) = (refl, refl, named_goes (by_name.take m (plain (StartTag n a c))) es)
named_goes m (plain (Character c) ∷ es) = (refl, tt, named_goes (by_name.take m (plain (Character c))) es)
named_goes m (plain (EndTag n) ∷ es) = (refl, tt, named_goes (by_name.take m (plain (EndTag n))) es)
named_goes m (plain (CommentToken c) ∷ es) = (refl, tt, named_goes (by_name.take m (plain (CommentToken c))) es)
named_goes m (plain DoctypeToken ∷ es) = (refl, tt, named_goes (by_name.take m (plain DoctypeToken)) es)
named_goes m (doctype_of d ∷ es) = (refl, tt, named_goes (by_name.take m (doctype_of d)) es)

named_tokens : (m : Named) (es : List Emission) → (taken by_name m es).tokens ≡ m.tokens ++ map bare es
named_tokens m [] = sym (append-nil m.tokens)
named_tokens m (e ∷ es) = named_tokens (by_name.take m e) es ∙ append_assoc m.tokens (bare e ∷ []) (map bare es)

pub page_goes : {M : Type 0} (d : Driver M) (m : M) (page : List ℕ) → GoesByName d m (driven_tokens d (driving m (in_state T.data_state)) (without_mark page)) →
    map bare (driven_tokens d (driving m (in_state T.data_state)) (without_mark page)) ≡ html_tokens page
page_goes d m page h = names_read d (driving m (in_state T.data_state)) (without_mark page) tt h ∙ page_read page

pub page_named : (page : List ℕ) → (driven by_name no_tokens (in_state T.data_state) (with_feeds (without_mark page))).tokens ≡ html_tokens page
page_named page =
    let start = driving no_tokens (in_state T.data_state) in
    let es = driven_tokens by_name start (without_mark page) in
    ap (λ (m : Named). m.tokens) (text_driven by_name no_tokens (in_state T.data_state) (without_mark page))
    ∙ named_tokens no_tokens es
    ∙ page_goes by_name no_tokens page (named_goes no_tokens es)
