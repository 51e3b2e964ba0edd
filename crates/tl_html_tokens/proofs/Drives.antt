-- A piece that is read by names is what any driver reads there.
use Rattle.std.proofs.Common.{◌≡◌, ◌⊎◌, ℕ, zero, suc, Bool, true, false, ◌==◌, ◌&&◌, ◌||◌, List, [], ◌∷◌, ◌++◌, map, Some, None, codes, refl, ap, ap₂, sym, subst, ◌∙◌, inl, inr, true≢false, append-nil, append_assoc, arith, drop, subst₂, take, ◌-◌, if◌then◌else◌}
use Rattle.std.specs.Prelude.{option_map}
use Rattle.std.specs.List.{starts_with}
use Rattle.std.proofs.lemmas.Bool.{cases_Bool, cond_both, eqb-true}
use Rattle.std.specs.Str.{bytes_eq}
use Rattle.tl_names.specs.Elements.{is_among, rawtext_names, rcdata_names}
use Rattle.tl_html_spec.specs.References.{named_value, number_value}
use Rattle.tl_html_spec.specs.HtmlTokenizer as T
use Rattle.tl_html_spec.specs.HtmlTokenizer.{HtmlToken, Character, StartTag, EndTag, CommentToken, DoctypeToken, State, Step, at_end, step, whole_step, with_feeds}
use Rattle.tl_html_spec.specs.Reader.{Reader, Rest, after, at, byte_step, emitted, feed, is_passed, next, read, rest_before, rest_if, rest_within, resting, is_at_rest}
use Rattle.tl_html_spec.specs.Driven.{Driver, Driving, DrivenState, DrivenStep, Emission, bare, byte_driven, cdata_section, cdata_section_bracket, cdata_section_end, cdata_start, doctype_of, drive, driven_end, driven_rest, driven_rest_before, driven_rest_if, driven_step, driven_tokens, driving, ends_with_start, entered, going, in_doctype, in_state, moved, next_driven, of_rest, of_step, opens_cdata, passes, plain, state_after, taken}
use Rattle.tl_html_spec.proofs.Driving.{taken_append, text_driven, tokens_rest}
use Rattle.tl_html_spec.proofs.Resting.{mapped_some}
use Rattle.tl_html_spec.proofs.Starts as S
use Rattle.tl_html_spec.proofs.Starts.{Ends, again_quiet, fine, whole_ends}
use Rattle.tl_html_tokens.specs.Driving.{IsDriven, begins_section, is_data, is_start, opens_section, state_set}
use Rattle.tl_html_tokens.specs.Ends.{NoStart, Pends, StandsFor, StartsLast, opens}
use Rattle.tl_html_tokens.specs.Fronts.{IsFront}
use Rattle.tl_html_tokens.specs.Kinds.{IsKind}
use Rattle.tl_html_tokens.specs.Modes.{state_of}
use Rattle.tl_html_tokens.specs.declared.front.Front.{Front}
use Rattle.tl_html_tokens.specs.declared.mode.Mode.{Mode}
use Rattle.tl_html_tokens.specs.declared.stage.TokenKind.{TokenKind}
use Rattle.tl_html_tokens.specs.declared.stage.TokenKind.TheVariants as kind
use Rattle.tl_html_tokens.proofs.Doctyped.{and_false, doctype_no_rest}
use Rattle.tl_html_tokens.proofs.Early.{kind_quiet}
use Rattle.tl_html_tokens.proofs.Pending.{rest_end}
use Rattle.tl_html_tokens.proofs.Places.{cut}
use Rattle.tl_html_tokens.proofs.Reached.{quiet_of}
use Rattle.tl_html_tokens.proofs.Steps.{rests}

-- emissions without the parts of doctypes

bare_plain : (ts : List HtmlToken) → map bare (map plain ts) ≡ ts
bare_plain [] = refl
bare_plain (t ∷ ts) = ap (λ us. t ∷ us) (bare_plain ts)

bare_both : (es fs : List Emission) → map bare (es ++ fs) ≡ map bare es ++ map bare fs
bare_both [] fs = refl
bare_both (e ∷ es) fs = ap (λ ts. bare e ∷ ts) (bare_both es fs)

-- no start tag comes last
none_last : (es : List Emission) → NoStart (map bare es) → ends_with_start es ≡ false
none_last [] h = refl
none_last (plain (StartTag n a c) ∷ es) h = absurd h
none_last (plain (Character c) ∷ []) h = refl
none_last (plain (EndTag c) ∷ []) h = refl
none_last (plain (CommentToken c) ∷ []) h = refl
none_last (plain DoctypeToken ∷ []) h = refl
none_last (doctype_of d ∷ []) h = refl
none_last (plain (Character c) ∷ e ∷ es) h = none_last (e ∷ es) h
none_last (plain (EndTag c) ∷ e ∷ es) h = none_last (e ∷ es) h
none_last (plain (CommentToken c) ∷ e ∷ es) h = none_last (e ∷ es) h
none_last (plain DoctypeToken ∷ e ∷ es) h = none_last (e ∷ es) h
none_last (doctype_of d ∷ e ∷ es) h = none_last (e ∷ es) h

-- what comes last comes last after more tokens
last_of : (ts us : List HtmlToken) → NoStart ts → ends_with_start (map plain (ts ++ us)) ≡ ends_with_start (map plain us)
last_of [] us h = refl
last_of (StartTag n a c ∷ ts) us h = absurd h
last_of (Character c ∷ []) [] h = refl
last_of (EndTag c ∷ []) [] h = refl
last_of (CommentToken c ∷ []) [] h = refl
last_of (DoctypeToken ∷ []) [] h = refl
last_of (Character c ∷ []) (u ∷ us) h = refl
last_of (EndTag c ∷ []) (u ∷ us) h = refl
last_of (CommentToken c ∷ []) (u ∷ us) h = refl
last_of (DoctypeToken ∷ []) (u ∷ us) h = refl
last_of (Character c ∷ t ∷ ts) us h = last_of (t ∷ ts) us h
last_of (EndTag c ∷ t ∷ ts) us h = last_of (t ∷ ts) us h
last_of (CommentToken c ∷ t ∷ ts) us h = last_of (t ∷ ts) us h
last_of (DoctypeToken ∷ t ∷ ts) us h = last_of (t ∷ ts) us h

-- a state that is driven, and the same of the tokenizer by itself

abbrev Same : DrivenState → State → Type 0
Same (in_state s) t = s ≡ t
Same (in_doctype d) t = T.doctype ≡ t
Same _ t = ⊥

entered_same : (s : State) → Same (entered s) s
entered_same T.doctype = refl
entered_same _ = refl

record Steps (x : DrivenStep) (w : Step) : Type 0 where
  same : Same x.next w.next
  tokens : map bare x.emits ≡ w.emits

of_same : (w : Step) → Steps (of_step w) w
of_same w = record { same = entered_same w.next; tokens = bare_plain w.emits }

step_same : (f : Bool) (ds : DrivenState) (s : State) (c : ℕ) → Same ds s → (f && opens_cdata s c) ≡ false → Steps (driven_step f ds c) (whole_step s c)
step_same f (in_state t) s c h o =
    subst (λ (q : State). Steps (driven_step f (in_state t) c) (whole_step q c)) h
    (rw (ap (λ (q : State). f && opens_cdata q c) h ∙ o) (of_same (whole_step t c)))
step_same f (in_doctype d) s c h o = subst (λ (q : State). Steps (driven_step f (in_doctype d) c) (whole_step q c)) h (elim (cases_Bool (c == 62)) [
  | inl y ↦ rw y (record { same = refl; tokens = refl })
  | inr n ↦ rw n (record { same = refl; tokens = refl })
])
step_same f (cdata_start buffer) s c h o = absurd h
step_same f cdata_section s c h o = absurd h
step_same f cdata_section_bracket s c h o = absurd h
step_same f cdata_section_end s c h o = absurd h

byte_same : (f passed : Bool) (ds : DrivenState) (s : State) (b : ℕ) → Same ds s → (f && opens_cdata s (feed b)) ≡ false → Steps (byte_driven passed f ds b) (byte_step passed s b)
byte_same f true ds s b h o = record { same = h; tokens = refl }
byte_same f false ds s b h o = step_same f ds s (feed b) h o

record Both {M : Type 0} (v : Driving M) (r : Reader) : Type 0 where
  same : Same v.state r.state
  returned : v.after_return ≡ r.after_return

drive_same : {M : Type 0} (d : Driver M) (v : Driving M) (r : Reader) (b : ℕ) → Both v r → (d.is_foreign v.memory && opens_cdata r.state (feed b)) ≡ false → Steps (drive d v b) (read r b)
unfolding drive read
drive_same d v r b h o =
    subst (λ (p : Bool). Steps (drive d v b) (byte_step p r.state b)) (ap (λ q. q && (b == 10)) h.returned)
    (byte_same (d.is_foreign v.memory) (passes v b) v.state r.state b h.same o)

-- what is pending

end_same : (ds : DrivenState) (s : State) → Same ds s → map bare (driven_end ds) ≡ at_end s
end_same (in_state t) s h = bare_plain (at_end t) ∙ ap at_end h
end_same (in_doctype d) s h = ap at_end h
end_same (cdata_start buffer) s h = absurd h
end_same cdata_section s h = absurd h
end_same cdata_section_bracket s h = absurd h
end_same cdata_section_end s h = absurd h

rest_same : (ds : DrivenState) (s : State) (c : ℕ) (rest : Rest) → Same ds s → rest_within 2 s c ≡ Some rest → driven_rest ds c ≡ Some (of_rest rest)
rest_same (in_state t) s c rest h e = ap (option_map of_rest) (ap (λ (q : State). rest_within 2 q c) h ∙ e)
rest_same (in_doctype d) s c rest h e = let never : None ≡ Some rest = sym (doctype_no_rest c) ∙ ap (λ (q : State). rest_within 2 q c) h ∙ e in cc
rest_same (cdata_start buffer) s c rest h e = absurd h
rest_same cdata_section s c rest h e = absurd h
rest_same cdata_section_bracket s c rest h e = absurd h
rest_same cdata_section_end s c rest h e = absurd h

not_passed : (r : Reader) (b : ℕ) (rest : Rest) → rest_before r b ≡ Some rest → (is_passed r b ≡ false) × (rest_within 2 r.state (feed b) ≡ Some rest)
unfolding rest_before
not_passed r b rest e = elim (cases_Bool (is_passed r b)) [
  | inl y ↦ (let never : None ≡ Some rest = sym (ap (λ p. rest_if p r.state b) y) ∙ e in cc)
  | inr n ↦ (n, sym (ap (λ p. rest_if p r.state b) n) ∙ e)
]

before_same : {M : Type 0} (v : Driving M) (r : Reader) (b : ℕ) (rest : Rest) → Both v r → rest_before r b ≡ Some rest → driven_rest_before v b ≡ Some (of_rest rest)
unfolding driven_rest_before
before_same v r b rest h e =
    let p = not_passed r b rest e in
    ap (λ q. driven_rest_if q v.state b) (ap (λ q. q && (b == 10)) h.returned ∙ p.0) ∙ rest_same v.state r.state (feed b) rest h.same p.1

-- the state after tokens: that which the driver sets, where the last of them is a start tag
abbrev set_after : {M : Type 0} → Driver M → M → List HtmlToken → State → State
set_after d memory tokens state = if ends_with_start (map plain tokens) then d.sets memory else state

-- what a driver does with the tokens of a text, and how it goes on with the rest
record Goes {M : Type 0} (d : Driver M) (v : Driving M) (text rest : List ℕ) (tokens : List HtmlToken) (state : State) : Type 0 where
  emits : List Emission
  tokens_are : map bare emits ≡ tokens
  goes_on : taken d v.memory (driven_tokens d v (text ++ rest))
      ≡ taken d (taken d v.memory emits) (driven_tokens d (driving (taken d v.memory emits) (in_state (set_after d (taken d v.memory emits) tokens state))) rest)

-- no start tag is pending

flushed_quiet : (s : State) (bytes : List ℕ) (again : Bool) → NoStart (T.flushed s bytes again).emits
flushed_quiet (T.double_quoted tag key value) bytes again = tt
flushed_quiet (T.single_quoted tag key value) bytes again = tt
flushed_quiet (T.unquoted tag key value) bytes again = tt
flushed_quiet _ bytes again = quiet_of (map Character bytes) (S.chars bytes)

end_quiet : (s : State) → NoStart (at_end s)
end_quiet (T.character_reference s) = flushed_quiet s (codes "&") false
end_quiet (T.named_character_reference s buffer) = flushed_quiet s (named_value (T.is_value s) buffer []) false
end_quiet (T.numeric_character_reference s) = flushed_quiet s (codes "&#") false
end_quiet (T.hexadecimal_start s x) = flushed_quiet s (codes "&#" ++ x ∷ []) false
end_quiet (T.decimal_start s) = flushed_quiet s (codes "&#") false
end_quiet (T.hexadecimal s code) = flushed_quiet s (number_value code) false
end_quiet (T.decimal s code) = flushed_quiet s (number_value code) false
end_quiet (T.raw_end_tag_name r buffer) = quiet_of (map Character (codes "</" ++ buffer)) (S.chars (codes "</" ++ buffer))
end_quiet _ = tt

quiet_within : (n : ℕ) (s : State) (b : ℕ) (r : Rest) → rest_within n s b ≡ Some r → S.NoStart r.emits
quiet_within zero s b r e = elim (cases_Bool (is_at_rest s)) [
  | inl y ↦ (let is : Some (resting s) ≡ Some r = rw y at e in let k : resting s ≡ r = cc in subst (λ (x : Rest). S.NoStart x.emits) k tt)
  | inr n ↦ (let never : None ≡ Some r = rw n at e in cc)
]
quiet_within (suc n) s b r e = elim (cases_Bool (is_at_rest s)) [
  | inl y ↦ (let is : Some (resting s) ≡ Some r = rw y at e in let k : resting s ≡ r = cc in subst (λ (x : Rest). S.NoStart x.emits) k tt)
  | inr k ↦ elim (cases_Bool (step s b).again) [
    | inl y ↦ (
        let later : option_map (λ (q : Rest). record { state = q.state; emits = (step s b).emits ++ q.emits }) (rest_within n (step s b).next b) ≡ Some r = rw (k, y) at e in
        let inner = mapped_some (λ (q : Rest). record { state = q.state; emits = (step s b).emits ++ q.emits }) (rest_within n (step s b).next b) r later in
        subst (λ (x : Rest). S.NoStart x.emits) inner.2
        (S.both (step s b).emits (inner.0).emits (again_quiet (step s b) (fine s b) y) (quiet_within n (step s b).next b inner.0 inner.1)))
    | inr m ↦ (let never : None ≡ Some r = rw (k, m) at e in cc)
  ]
]

no_last : (ts : List HtmlToken) → NoStart ts → ends_with_start (map plain ts) ≡ false
no_last ts h = none_last (map plain ts) (subst NoStart (sym (bare_plain ts)) h)

-- what is taken, and how it goes on

quiet_set : {M : Type 0} (d : Driver M) (m : M) (ts : List HtmlToken) (state : State) → NoStart ts → set_after d m ts state ≡ state
quiet_set d m ts state h = ap (λ (w : Bool). if w then d.sets m else state) (no_last ts h)

pending_goes : {M : Type 0} (d : Driver M) (rest : List ℕ) (v : Driving M) (r : Reader) (state : State) (pending : List HtmlToken) → Both v r → is_at_rest state ≡ true →
    Pends r rest state pending → Goes d v [] rest pending state
pending_goes {M = M} d [] v r state pending h i p =
    let es = driven_end v.state in
    let m : M = taken d v.memory es in
    let quiet : NoStart pending = subst NoStart (sym p) (end_quiet r.state) in
    let none : driven_end (in_state (set_after d m pending state)) ≡ [] = ap (λ (s : State). map plain (at_end s)) (quiet_set d m pending state quiet) ∙ ap (map plain) (rest_end state i) in
    record { emits = es; tokens_are = end_same v.state r.state h.same ∙ sym p; goes_on = sym (ap (taken d m) none) }
pending_goes {M = M} d (b ∷ rest) v r state pending h i p =
    let es = map plain pending in
    let m : M = taken d v.memory es in
    let quiet : NoStart pending = quiet_of pending (quiet_within 2 r.state (feed b) (record { state = state; emits = pending }) (not_passed r b (record { state = state; emits = pending }) p).1) in
    record {
      emits = es;
      tokens_are = bare_plain pending;
      goes_on = ap (taken d v.memory) (tokens_rest d v b rest (of_rest (record { state = state; emits = pending })) (before_same v r b (record { state = state; emits = pending }) h p))
          ∙ taken_append d v.memory es (driven_tokens d (driving m (in_state state)) (b ∷ rest))
          ∙ ap (λ (s : State). taken d m (driven_tokens d (driving m (in_state s)) (b ∷ rest))) (sym (quiet_set d m pending state quiet));
    }

-- a byte that emits no start tag

plain_state : {M : Type 0} (d : Driver M) (m : M) (x : DrivenStep) → NoStart (map bare x.emits) → state_after d m x ≡ x.next
plain_state d m x h = ap (λ (w : Bool). if w then in_state (d.sets m) else x.next) (none_last x.emits h)

next_both : {M : Type 0} (d : Driver M) (v : Driving M) (r : Reader) (b : ℕ) → Steps (drive d v b) (read r b) → NoStart (read r b).emits → Both (next_driven d v b) (next r b)
next_both d v r b s n =
    let is = plain_state d (taken d v.memory (drive d v b).emits) (drive d v b) (subst NoStart (sym s.tokens) n) in
    record { same = subst (λ (x : DrivenState). Same x (read r b).next) (sym is) s.same; returned = refl }

step_on : {M : Type 0} (d : Driver M) (v : Driving M) (r : Reader) (b : ℕ) (text rest : List ℕ) (tokens : List HtmlToken) (state : State) → map bare (drive d v b).emits ≡ (read r b).emits →
    NoStart (read r b).emits → Goes d (next_driven d v b) text rest tokens state → Goes d v (b ∷ text) rest ((read r b).emits ++ tokens) state
step_on {M = M} d v r b text rest tokens state s n g =
    let es = (drive d v b).emits in
    let m : M = taken d v.memory es in
    record {
      emits = es ++ g.emits;
      tokens_are = bare_both es g.emits ∙ ap₂ (λ (ts us : List HtmlToken). ts ++ us) s g.tokens_are;
      goes_on = taken_append d v.memory es (driven_tokens d (next_driven d v b) (text ++ rest))
          ∙ g.goes_on
          ∙ ap₂ (λ (k : M) (w : Bool). taken d k (driven_tokens d (driving k (in_state (if w then d.sets k else state))) rest))
          (sym (taken_append d v.memory es g.emits)) (sym (last_of (read r b).emits tokens n));
    }

-- a start tag

start_last : (ts : List HtmlToken) (n : List ℕ) (a : List T.HtmlAttribute) (c : Bool) → ends_with_start (map plain (ts ++ StartTag n a c ∷ [])) ≡ true
start_last [] n a c = refl
start_last (t ∷ []) n a c = refl
start_last (t ∷ u ∷ ts) n a c = start_last (u ∷ ts) n a c

last_bare : (es : List Emission) → ends_with_start (map plain (map bare es)) ≡ ends_with_start es
last_bare [] = refl
last_bare (plain (StartTag n a c) ∷ []) = refl
last_bare (plain (Character c) ∷ []) = refl
last_bare (plain (EndTag c) ∷ []) = refl
last_bare (plain (CommentToken c) ∷ []) = refl
last_bare (plain DoctypeToken ∷ []) = refl
last_bare (doctype_of d ∷ []) = refl
last_bare (e ∷ f ∷ es) = last_bare (f ∷ es)

start_rests : (name : List ℕ) → is_at_rest (T.after_start name) ≡ true
start_rests name =
    cond_both (is_among rcdata_names name) _ _ (λ (s : State). is_at_rest s ≡ true) (λ _. refl)
    (λ _. cond_both (is_among rawtext_names name) _ _ (λ (s : State). is_at_rest s ≡ true) (λ _. refl)
    (λ _. cond_both (bytes_eq name (codes "script")) _ _ (λ (s : State). is_at_rest s ≡ true) (λ _. refl)
    (λ _. cond_both (bytes_eq name (codes "plaintext")) _ _ (λ (s : State). is_at_rest s ≡ true) (λ _. refl) (λ _. refl))))

rest_here : (s : State) (c : ℕ) → is_at_rest s ≡ true → rest_within 2 s c ≡ Some (resting s)
rest_here s c h = rw h refl

-- after a state of rest nothing is pending
pends_none : (r : Reader) (rest : List ℕ) (state : State) (pending : List HtmlToken) → is_at_rest r.state ≡ true → Pends r rest state pending → pending ≡ []
pends_none r [] state pending h p = p ∙ rest_end r.state h
pends_none r (b ∷ rest) state pending h p =
    let x : Rest = record { state = state; emits = pending } in
    let is : Some (resting r.state) ≡ Some x = sym (rest_here r.state (feed b) h) ∙ (not_passed r b x p).1 in
    let same : resting r.state ≡ x = cc in
    sym (ap (λ (y : Rest). y.emits) same)

-- a carriage return before is no matter
returned_tokens : {M : Type 0} (d : Driver M) (m : M) (ds : DrivenState) (r : Reader) (rest : List ℕ) (state : State) (pending : List HtmlToken) → Pends r rest state pending →
    driven_tokens d (record { memory = m; state = ds; after_return = r.after_return }) rest ≡ driven_tokens d (driving m ds) rest
unfolding drive
returned_tokens d m ds r [] state pending p = refl
returned_tokens d m ds r (b ∷ rest) state pending p =
    let x : Rest = record { state = state; emits = pending } in
    ap (λ (q : Bool). (byte_driven q (d.is_foreign m) ds b).emits ++ driven_tokens d (moved d (taken d m (byte_driven q (d.is_foreign m) ds b).emits) (byte_driven q (d.is_foreign m) ds b) b) rest)
    (not_passed r b x p).0

start_goes : {M : Type 0} (d : Driver M) (v : Driving M) (r : Reader) (b : ℕ) (rest : List ℕ) (state : State) (pending : List HtmlToken) → Steps (drive d v b) (read r b) →
    Ends (read r b) → Pends (next r b) rest state pending → Goes d v (b ∷ []) rest ((read r b).emits ++ pending) state
start_goes {M = M} d v r b rest state pending s e p =
    let es = (drive d v b).emits in
    let m : M = taken d v.memory es in
    let none : pending ≡ [] = pends_none (next r b) rest state pending (ap is_at_rest e.next ∙ start_rests e.name) p in
    let all : (read r b).emits ++ pending ≡ (read r b).emits = ap (λ ts. (read r b).emits ++ ts) none ∙ append-nil (read r b).emits in
    let last : ends_with_start (map plain (read r b).emits) ≡ true = ap (λ ts. ends_with_start (map plain ts)) e.emits ∙ start_last e.front e.name e.attributes e.closes in
    let here : ends_with_start es ≡ true = sym (last_bare es) ∙ ap (λ ts. ends_with_start (map plain ts)) s.tokens ∙ last in
    let now : state_after d m (drive d v b) ≡ in_state (d.sets m) = ap (λ (w : Bool). if w then in_state (d.sets m) else (drive d v b).next) here in
    record {
      emits = es;
      tokens_are = s.tokens ∙ sym all;
      goes_on = taken_append d v.memory es (driven_tokens d (next_driven d v b) rest)
          ∙ ap (taken d m) (returned_tokens d m (state_after d m (drive d v b)) (next r b) rest state pending p)
          ∙ ap (λ (x : DrivenState). taken d m (driven_tokens d (driving m x) rest)) now
          ∙ sym (ap (λ (w : Bool). taken d m (driven_tokens d (driving m (in_state (if w then d.sets m else state))) rest)) (ap (λ ts. ends_with_start (map plain ts)) all ∙ last));
    }

-- a text

read_ends : (r : Reader) (b : ℕ) → S.NoStart (read r b).emits ⊎ Ends (read r b)
unfolding read
read_ends r b = by (is_passed r b)
  where
    by : (p : Bool) → S.NoStart (byte_step p r.state b).emits ⊎ Ends (byte_step p r.state b)
    by true = inl tt
    by false = whole_ends r.state (feed b)

or_parts : (a c : Bool) → (a || c) ≡ false → (a ≡ false) × (c ≡ false)
or_parts true c h = absurd (true≢false h)
or_parts false c h = (refl, h)

goes : {M : Type 0} (d : Driver M) (text rest : List ℕ) (v : Driving M) (r : Reader) (state : State) (pending : List HtmlToken) → Both v r → opens r text ≡ false → StartsLast r text →
    is_at_rest state ≡ true → Pends (after r text) rest state pending → Goes d v text rest (emitted r text ++ pending) state
goes d [] rest v r state pending h o l i p = pending_goes d rest v r state pending h i p
goes d (b ∷ []) rest v r state pending h o l i p =
    let q = or_parts (opens_cdata r.state (feed b)) false o in
    let s = drive_same d v r b h (and_false (d.is_foreign v.memory) (opens_cdata r.state (feed b)) q.0) in
    subst (λ ts. Goes d v (b ∷ []) rest (ts ++ pending) state) (sym (append-nil (read r b).emits)) (elim (read_ends r b) [
      | inl n ↦ (
          let quiet = quiet_of (read r b).emits n in
          step_on d v r b [] rest pending state s.tokens quiet (pending_goes d rest (next_driven d v b) (next r b) state pending (next_both d v r b s quiet) i p))
      | inr e ↦ start_goes d v r b rest state pending s e p
    ])
goes d (b ∷ c ∷ text) rest v r state pending h o l i p =
    let q = or_parts (opens_cdata r.state (feed b)) (opens (next r b) (c ∷ text)) o in
    let s = drive_same d v r b h (and_false (d.is_foreign v.memory) (opens_cdata r.state (feed b)) q.0) in
    subst (λ ts. Goes d v (b ∷ c ∷ text) rest ts state) (sym (append_assoc (read r b).emits (emitted (next r b) (c ∷ text)) pending))
    (step_on d v r b (c ∷ text) rest (emitted (next r b) (c ∷ text) ++ pending) state s.tokens l.0
    (goes d (c ∷ text) rest (next_driven d v b) (next r b) state pending (next_both d v r b s l.0) q.1 l.1 i p))

-- `<![`, where the driver may say that it is foreign

-- a byte that emits nothing
byte_on : {M : Type 0} (d : Driver M) (v : Driving M) (r : Reader) (b : ℕ) (ds : DrivenState) (text rest : List ℕ) (state : State) (pending : List HtmlToken) →
    drive d v b ≡ going ds [] → (read r b).emits ≡ [] →
    Goes d (record { memory = v.memory; state = ds; after_return = b == 13 }) text rest (emitted (next r b) text ++ pending) state →
    Goes d v (b ∷ text) rest (emitted r (b ∷ text) ++ pending) state
byte_on {M = M} d v r b ds text rest state pending e n g =
    let on : next_driven d v b ≡ record { memory = v.memory; state = ds; after_return = b == 13 } = ap (λ (x : DrivenStep). moved d (taken d v.memory x.emits) x b) e in
    subst (λ ts. Goes d v (b ∷ text) rest ts state) (sym (append_assoc (read r b).emits (emitted (next r b) text) pending))
    (step_on d v r b text rest (emitted (next r b) text ++ pending) state (ap (λ (x : DrivenStep). map bare x.emits) e ∙ sym n) (subst NoStart (sym n) tt)
    (subst (λ (w : Driving M). Goes d w text rest (emitted (next r b) text ++ pending) state) (sym on) g))

starts_tail : (r : Reader) (b : ℕ) (text : List ℕ) → StartsLast r (b ∷ text) → StartsLast (next r b) text
starts_tail r b [] h = tt
starts_tail r b (c ∷ text) h = h.1

-- the comment that is read there otherwise
abbrev commented : List ℕ → Reader
commented buffer = at (T.bogus_comment buffer)

abbrev section : List ℕ
section = codes "[CDATA["

module _ {M : Type 0} (d : Driver M) (m : M) (rest : List ℕ) (state : State) (pending : List HtmlToken) (i : is_at_rest state ≡ true) where
  -- a text in such a comment goes as by itself
  abbrev Commented : List ℕ → List ℕ → Type 0
  Commented buffer text =
      opens (commented buffer) text ≡ false → StartsLast (commented buffer) text → Pends (after (commented buffer) text) rest state pending →
      Goes d (driving m (cdata_start buffer)) text rest (emitted (commented buffer) text ++ pending) state

  comment_no_rest : (buffer : List ℕ) (c : ℕ) → rest_within 2 (T.bogus_comment buffer) c ≡ None
  comment_no_rest buffer c = elim (cases_Bool (c == 62)) [
    | inl y ↦ rw y refl
    | inr n ↦ rw n refl
  ]

  comment_quiet : (buffer : List ℕ) (c : ℕ) → NoStart (whole_step (T.bogus_comment buffer) c).emits
  comment_quiet buffer c = elim (cases_Bool (c == 62)) [
    | inl y ↦ rw y tt
    | inr n ↦ rw n tt
  ]

  ended : (buffer t : List ℕ) → Pends (commented buffer) t state pending → Goes d (driving m (cdata_start buffer)) [] t pending state
  ended buffer [] p =
      let es = driven_end (cdata_start buffer) in
      let k : M = taken d m es in
      let quiet : NoStart pending = subst NoStart (sym p) tt in
      let none : driven_end (in_state (set_after d k pending state)) ≡ [] = ap (λ (s : State). map plain (at_end s)) (quiet_set d k pending state quiet) ∙ ap (map plain) (rest_end state i) in
      record { emits = es; tokens_are = sym p; goes_on = sym (ap (taken d k) none) }
  ended buffer (b ∷ t) p =
      let x : Rest = record { state = state; emits = pending } in
      let never : None ≡ Some x = sym (comment_no_rest buffer (feed b)) ∙ (not_passed (commented buffer) b x p).1 in cc

  -- a byte that is none of the section's name
  leaves : (buffer : List ℕ) (b : ℕ) → bytes_eq (buffer ++ feed b ∷ []) section ≡ false → starts_with ◌==◌ section (buffer ++ feed b ∷ []) ≡ false →
      Steps (drive d (driving m (cdata_start buffer)) b) (read (commented buffer) b)
  unfolding drive read
  leaves buffer b e f = rw (e, f) (of_same (whole_step (T.bogus_comment buffer) (feed b)))

  read_quiet : (buffer : List ℕ) (b : ℕ) → NoStart (read (commented buffer) b).emits
  unfolding read
  read_quiet buffer b = comment_quiet buffer (feed b)

  left : (buffer : List ℕ) (b : ℕ) (text : List ℕ) → bytes_eq (buffer ++ feed b ∷ []) section ≡ false → starts_with ◌==◌ section (buffer ++ feed b ∷ []) ≡ false → Commented buffer (b ∷ text)
  left buffer b text e f o l p =
      let v = driving m (cdata_start buffer) in
      let r : Reader = commented buffer in
      let s = leaves buffer b e f in
      let n = read_quiet buffer b in
      subst (λ ts. Goes d v (b ∷ text) rest ts state) (sym (append_assoc (read r b).emits (emitted (next r b) text) pending))
      (step_on d v r b text rest (emitted (next r b) text ++ pending) state s.tokens n
      (goes d text rest (next_driven d v b) (next r b) state pending (next_both d v r b s n) o (starts_tail r b text l) i p))

  feed_differs : (b x : ℕ) → (b == x) ≡ false → (10 == x) ≡ false → (feed b == x) ≡ false
  feed_differs b x h k = cond_both (b == 13) 10 b (λ c. (c == x) ≡ false) (λ _. k) (λ _. h)

  -- up to such a byte
  by_byte : (buffer : List ℕ) (x : ℕ) (text : List ℕ) → (10 == x) ≡ false →
      ((c : ℕ) → (c == x) ≡ false → (bytes_eq (buffer ++ c ∷ []) section ≡ false) × (starts_with ◌==◌ section (buffer ++ c ∷ []) ≡ false)) →
      ((t : List ℕ) → text ≡ x ∷ t → Commented buffer (x ∷ t)) → Commented buffer text
  by_byte buffer x [] k off on o l p = ended buffer rest p
  by_byte buffer x (b ∷ text) k off on o l p = elim (cases_Bool (b == x)) [
    | inl y ↦ (
        let e = eqb-true b x y in
        subst (λ c. Commented buffer (c ∷ text)) (sym e) (on text (ap (λ c. c ∷ text) e)) o l p)
    | inr n ↦ (
        let q = off (feed b) (feed_differs b x n k) in
        left buffer b text q.0 q.1 o l p)
  ]

  sixth : (text : List ℕ) → starts_with ◌==◌ text (codes "[") ≡ false → Commented (codes "[CDATA") text
  sixth text h = by_byte (codes "[CDATA") 91 text refl (λ c n. (rw n refl, rw n refl))
      (λ t e. absurd (true≢false (sym (ap (λ v. starts_with ◌==◌ v (codes "[")) e) ∙ h)))

  fifth : (text : List ℕ) → starts_with ◌==◌ text (codes "A[") ≡ false → Commented (codes "[CDAT") text
  unfolding drive read
  fifth text h = by_byte (codes "[CDAT") 65 text refl (λ c n. (rw n refl, rw n refl))
      (λ t e o l p. byte_on d (driving m (cdata_start (codes "[CDAT"))) (commented (codes "[CDAT")) 65 (cdata_start (codes "[CDATA")) t rest state pending refl refl
      (sixth t (sym (ap (λ v. starts_with ◌==◌ v (codes "A[")) e) ∙ h) o (starts_tail (commented (codes "[CDAT")) 65 t l) p))

  fourth : (text : List ℕ) → starts_with ◌==◌ text (codes "TA[") ≡ false → Commented (codes "[CDA") text
  unfolding drive read
  fourth text h = by_byte (codes "[CDA") 84 text refl (λ c n. (rw n refl, rw n refl))
      (λ t e o l p. byte_on d (driving m (cdata_start (codes "[CDA"))) (commented (codes "[CDA")) 84 (cdata_start (codes "[CDAT")) t rest state pending refl refl
      (fifth t (sym (ap (λ v. starts_with ◌==◌ v (codes "TA[")) e) ∙ h) o (starts_tail (commented (codes "[CDA")) 84 t l) p))

  third : (text : List ℕ) → starts_with ◌==◌ text (codes "ATA[") ≡ false → Commented (codes "[CD") text
  unfolding drive read
  third text h = by_byte (codes "[CD") 65 text refl (λ c n. (rw n refl, rw n refl))
      (λ t e o l p. byte_on d (driving m (cdata_start (codes "[CD"))) (commented (codes "[CD")) 65 (cdata_start (codes "[CDA")) t rest state pending refl refl
      (fourth t (sym (ap (λ v. starts_with ◌==◌ v (codes "ATA[")) e) ∙ h) o (starts_tail (commented (codes "[CD")) 65 t l) p))

  second : (text : List ℕ) → starts_with ◌==◌ text (codes "DATA[") ≡ false → Commented (codes "[C") text
  unfolding drive read
  second text h = by_byte (codes "[C") 68 text refl (λ c n. (rw n refl, rw n refl))
      (λ t e o l p. byte_on d (driving m (cdata_start (codes "[C"))) (commented (codes "[C")) 68 (cdata_start (codes "[CD")) t rest state pending refl refl
      (third t (sym (ap (λ v. starts_with ◌==◌ v (codes "DATA[")) e) ∙ h) o (starts_tail (commented (codes "[C")) 68 t l) p))

  first : (text : List ℕ) → starts_with ◌==◌ text (codes "CDATA[") ≡ false → Commented (codes "[") text
  unfolding drive read
  first text h = by_byte (codes "[") 67 text refl (λ c n. (rw n refl, rw n refl))
      (λ t e o l p. byte_on d (driving m (cdata_start (codes "["))) (commented (codes "[")) 67 (cdata_start (codes "[C")) t rest state pending refl refl
      (second t (sym (ap (λ v. starts_with ◌==◌ v (codes "CDATA[")) e) ∙ h) o (starts_tail (commented (codes "[")) 67 t l) p))

  -- its first three bytes

  less_goes : (f : Bool) → byte_driven false f (in_state T.data_state) 60 ≡ going (in_state T.tag_open) []
  less_goes true = refl
  less_goes false = refl

  bang_goes : (f : Bool) → byte_driven false f (in_state T.tag_open) 33 ≡ going (in_state (T.markup_declaration_open [])) []
  bang_goes true = refl
  bang_goes false = refl

  opening : (text : List ℕ) (ds : DrivenState) → byte_driven false (d.is_foreign m) (in_state (T.markup_declaration_open [])) 91 ≡ going ds [] →
      Goes d (driving m ds) text rest (emitted (commented (91 ∷ [])) text ++ pending) state →
      Goes d (driving m (in_state T.data_state)) (60 ∷ 33 ∷ 91 ∷ text) rest (emitted (at T.data_state) (60 ∷ 33 ∷ 91 ∷ text) ++ pending) state
  unfolding drive read
  opening text ds e g =
      byte_on d (driving m (in_state T.data_state)) (at T.data_state) 60 (in_state T.tag_open) (33 ∷ 91 ∷ text) rest state pending (less_goes (d.is_foreign m)) refl
      (byte_on d (driving m (in_state T.tag_open)) (at T.tag_open) 33 (in_state (T.markup_declaration_open [])) (91 ∷ text) rest state pending (bang_goes (d.is_foreign m)) refl
      (byte_on d (driving m (in_state (T.markup_declaration_open []))) (at (T.markup_declaration_open [])) 91 ds text rest state pending e refl g))

  section_or_comment : (text : List ℕ) → opens (after (at T.data_state) (60 ∷ 33 ∷ 91 ∷ [])) text ≡ false → StartsLast (at T.data_state) (60 ∷ 33 ∷ 91 ∷ text) →
      Pends (after (at T.data_state) (60 ∷ 33 ∷ 91 ∷ text)) rest state pending → (d.is_foreign m ≡ false) ⊎ (starts_with ◌==◌ text (codes "CDATA[") ≡ false) →
      Goes d (driving m (in_state T.data_state)) (60 ∷ 33 ∷ 91 ∷ text) rest (emitted (at T.data_state) (60 ∷ 33 ∷ 91 ∷ text) ++ pending) state
  unfolding read
  section_or_comment text o l p f =
      let l3 = starts_tail (at (T.markup_declaration_open [])) 91 text (starts_tail (at T.tag_open) 33 (91 ∷ text) (starts_tail (at T.data_state) 60 (33 ∷ 91 ∷ text) l)) in
      elim (cases_Bool (d.is_foreign m)) [
        | inr n ↦ opening text (in_state (T.bogus_comment (91 ∷ []))) (ap (λ v. byte_driven false v (in_state (T.markup_declaration_open [])) 91) n)
            (goes d text rest (driving m (in_state (T.bogus_comment (91 ∷ [])))) (commented (91 ∷ [])) state pending (record { same = refl; returned = refl }) o l3 i p)
        | inl y ↦ elim f [
          | inl n ↦ absurd (true≢false (sym y ∙ n))
          | inr n ↦ opening text (cdata_start (91 ∷ [])) (ap (λ v. byte_driven false v (in_state (T.markup_declaration_open [])) 91) y) (first text n o l3 p)
        ]
      ]

-- what stands in front of a page

stands_goes : {M : Type 0} (d : Driver M) (m : M) (state next : State) (bytes rest : List ℕ) (tokens : List HtmlToken) → StandsFor state bytes rest next tokens → is_at_rest next ≡ true →
    (state ≡ T.data_state → (d.is_foreign m ≡ false) ⊎ (begins_section bytes ≡ false)) → Goes d (driving m (in_state state)) bytes rest tokens next
stands_goes d m state next bytes rest tokens s i f =
    subst (λ ts. Goes d (driving m (in_state state)) bytes rest ts next) (sym s.told) (elim s.opens_first [
      | inl z ↦ goes d bytes rest (driving m (in_state state)) (at state) next s.pending (record { same = refl; returned = refl }) z s.starts_last i s.ends
      | inr q ↦ (
          let l = subst₂ (λ (x : State) v. StartsLast (at x) v) q.1 q.2 s.starts_last in
          let p = subst₂ (λ (x : State) v. Pends (after (at x) v) rest next s.pending) q.1 q.2 s.ends in
          subst₂ (λ (x : State) v. Goes d (driving m (in_state x)) v rest (emitted (at x) v ++ s.pending) next) (sym q.1) (sym q.2)
          (section_or_comment d m rest next s.pending i q.0 q.3 l p (elim (f q.1) [
            | inl n ↦ inl n
            | inr n ↦ inr (sym (ap begins_section q.2) ∙ n)
          ])))
    ])

start_last_is : (ts : List HtmlToken) → IsKind kind.StartTag ts → ends_with_start (map plain ts) ≡ true
start_last_is (StartTag n a c ∷ []) h = refl
start_last_is _ h = absurd h

last_is : (k : TokenKind) (ts : List HtmlToken) → IsKind k ts → ends_with_start (map plain ts) ≡ is_start k
last_is kind.StartTag ts h = start_last_is ts h
last_is kind.Text ts h = no_last ts (kind_quiet kind.Text ts h refl)
last_is kind.EndTag ts h = no_last ts (kind_quiet kind.EndTag ts h refl)
last_is kind.Comment ts h = no_last ts (kind_quiet kind.Comment ts h refl)
last_is kind.Doctype ts h = no_last ts (kind_quiet kind.Doctype ts h refl)
last_is kind.Nothing ts h = no_last ts (kind_quiet kind.Nothing ts h refl)

and_left : (v w u : Bool) → (w ≡ false → u ≡ false) → (v && w) ≡ false → (v && u) ≡ false
and_left true w u h k = h k
and_left false w u h k = refl

-- bytes that what begins with them doesn't begin with
begins_less : (x y p : List ℕ) → starts_with ◌==◌ (x ++ y) p ≡ false → starts_with ◌==◌ x p ≡ false
begins_less x y [] h = absurd (true≢false h)
begins_less [] y (c ∷ p) h = refl
begins_less (b ∷ x) y (c ∷ p) h = and_left (c == b) (starts_with ◌==◌ (x ++ y) p) (starts_with ◌==◌ x p) (begins_less x y p) h

not_both : (v w : Bool) → (v && w) ≡ false → (v ≡ false) ⊎ (w ≡ false)
not_both true w h = inr h
not_both false w h = inl refl

-- for any driver
pub front_driven : {M : Type 0} (d : Driver M) (m : M) (page : List ℕ) (start : ℕ) (mode : Mode) (front : Front) (f : IsFront page start mode front) →
    opens_section d m page start mode ≡ false → IsDriven d m page start mode front f.tokens
front_driven {M = M} d m page start mode front f h =
    let bytes : List ℕ = take (front.end - start) (drop start page) in
    let rest : List ℕ = drop front.end page in
    let o = f.order in
    let all : bytes ++ rest ≡ drop start page = cut page start front.end (omega arith) in
    let g = stands_goes d m (state_of mode) (state_of front.mode) bytes rest f.tokens f.stands (rests front.mode)
    (λ markup. elim (not_both (d.is_foreign m) (begins_section (drop start page)) (sym (ap (λ (s : State). is_data s && (d.is_foreign m && begins_section (drop start page))) markup) ∙ h)) [
      | inl n ↦ inl n
      | inr n ↦ inr (begins_less bytes rest (codes "<![CDATA[") (ap begins_section all ∙ n))
    ]) in
    let after : M = taken d m g.emits in
    record {
      emits = g.emits;
      tokens_are = g.tokens_are;
      goes_on = text_driven d m (in_state (state_of mode)) (drop start page)
          ∙ ap (λ t. taken d m (driven_tokens d (driving m (in_state (state_of mode))) t)) (sym all)
          ∙ g.goes_on
          ∙ ap (λ (v : Bool). taken d after (driven_tokens d (driving after (in_state (if v then d.sets after else state_of front.mode))) rest)) (last_is front.kind f.tokens f.kind)
          ∙ sym (text_driven d after (in_state (state_set d after front)) rest);
    }
