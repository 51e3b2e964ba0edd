-- The driven tokenizer is a fold, over the bytes of a page as they stand too; and before a byte that finds it at rest, what is
-- pending has been emitted and taken, and the rest reads as from that state.
use Rattle.std.proofs.Common.{◌≡◌, ℕ, zero, suc, Bool, true, false, ◌==◌, ◌&&◌, List, [], ◌∷◌, ◌++◌, map, Some, None, refl, ap, ap₂, sym, subst, ◌∙◌, inl, inr, true≢false, append_assoc, if◌then◌else◌}
use Rattle.std.specs.Prelude.{option_map}
use Rattle.std.proofs.lemmas.Bool.{and_parts, cases_Bool, eqb-true}
use Rattle.tl_html_spec.specs.HtmlTokenizer as T
use Rattle.tl_html_spec.specs.HtmlTokenizer.{HtmlToken, Character, StartTag, EndTag, CommentToken, DoctypeToken, State, Step, step, whole_step, with_feeds}
use Rattle.tl_html_spec.specs.Reader.{Rest, feed, is_at_rest, rest_within, resting}
use Rattle.tl_html_spec.specs.Driven.{Driver, Driving, DrivenRest, DrivenState, DrivenStep, Emission, after_driven, byte_driven, cdata_section, cdata_section_bracket, cdata_section_end, cdata_start, characters, drive, driven, driven_emits, driven_rest, driven_rest_before, driven_rest_if, driven_step, driven_tokens, driving, ends_with_start, entered, in_doctype, in_state, moved, next_driven, of_rest, of_step, opens_cdata, passes, plain, state_after, taken}
use Rattle.tl_html_spec.proofs.Fold.{all_stays, feeds_cons, without_feed}
use Rattle.tl_html_spec.proofs.Resting.{mapped_some, rest_at_once, settled_at_once, settles}
use Rattle.tl_html_spec.proofs.Starts.{NoStart, again_quiet, both, fine, rest_quiet}

pub taken_append : {M : Type 0} (d : Driver M) (m : M) (es fs : List Emission) → taken d m (es ++ fs) ≡ taken d (taken d m es) fs
taken_append d m [] fs = refl
taken_append d m (e ∷ es) fs = taken_append d (d.take m e) es fs

pub after_append : {M : Type 0} (d : Driver M) (v : Driving M) (a b : List ℕ) → after_driven d v (a ++ b) ≡ after_driven d (after_driven d v a) b
after_append d v [] b = refl
after_append d v (x ∷ a) b = after_append d (next_driven d v x) a b

pub emits_append : {M : Type 0} (d : Driver M) (v : Driving M) (a b : List ℕ) → driven_emits d v (a ++ b) ≡ driven_emits d v a ++ driven_emits d (after_driven d v a) b
emits_append d v [] b = refl
emits_append d v (x ∷ a) b =
    ap (λ es. (drive d v x).emits ++ es) (emits_append d (next_driven d v x) a b)
    ∙ sym (append_assoc (drive d v x).emits (driven_emits d (next_driven d v x) a) (driven_emits d (after_driven d (next_driven d v x) a) b))

pub tokens_append : {M : Type 0} (d : Driver M) (v : Driving M) (a b : List ℕ) → driven_tokens d v (a ++ b) ≡ driven_emits d v a ++ driven_tokens d (after_driven d v a) b
tokens_append d v [] b = refl
tokens_append d v (x ∷ a) b =
    ap (λ es. (drive d v x).emits ++ es) (tokens_append d (next_driven d v x) a b)
    ∙ sym (append_assoc (drive d v x).emits (driven_emits d (next_driven d v x) a) (driven_tokens d (after_driven d (next_driven d v x) a) b))

-- what the driver remembers after a text is what it has taken
pub memory_after : {M : Type 0} (d : Driver M) (v : Driving M) (text : List ℕ) → (after_driven d v text).memory ≡ taken d v.memory (driven_emits d v text)
memory_after d v [] = refl
memory_after d v (b ∷ text) =
    memory_after d (next_driven d v b) text ∙ sym (taken_append d v.memory (drive d v b).emits (driven_emits d (next_driven d v b) text))

-- over raw bytes it takes the tokens of the page after line ends were made line feeds

abbrev reading : {M : Type 0} → Driver M → Bool → M → DrivenState → ℕ → List ℕ → M
reading d passed m s b text =
    let x = byte_driven passed (d.is_foreign m) s b in
    taken d m (x.emits ++ driven_tokens d (moved d (taken d m x.emits) x b) text)

abbrev reader : {M : Type 0} → M → DrivenState → Bool → Driving M
reader m s v = record { memory = m; state = s; after_return = v }

pub feeds_driven : {M : Type 0} (d : Driver M) (m : M) (s : DrivenState) (v : Bool) (text : List ℕ) →
    taken d m (driven_tokens d (reader m s v) text) ≡ driven d m s (with_feeds (without_feed v text))
unfolding drive
feeds_driven {M = M} d m s v [] = refl
feeds_driven {M = M} d m s v (b ∷ text) = elim (cases_Bool (v && (b == 10))) [
  | inl y ↦ (
      let ten = eqb-true b 10 (and_parts v (b == 10) y).1 in
      ap (λ (w : Bool). reading d w m s b text) y
      ∙ feeds_driven d m s (b == 13) text
      ∙ ap (λ (c : ℕ). driven d m s (with_feeds (without_feed (c == 13) text))) ten
      ∙ ap (λ t. driven d m s (with_feeds t)) (all_stays text)
      ∙ sym (ap (λ (w : Bool). driven d m s (with_feeds (if w then text else b ∷ text))) y))
  | inr n ↦ (
      let x : DrivenStep = driven_step (d.is_foreign m) s (feed b) in
      let after : M = taken d m x.emits in
      ap (λ (w : Bool). reading d w m s b text) n
      ∙ taken_append d m x.emits (driven_tokens d (moved d after x b) text)
      ∙ feeds_driven d after (state_after d after x) (b == 13) text
      ∙ sym (ap (driven d m s) (feeds_cons b text))
      ∙ sym (ap (λ (w : Bool). driven d m s (with_feeds (if w then text else b ∷ text))) n))
]

pub text_driven : {M : Type 0} (d : Driver M) (m : M) (s : DrivenState) (text : List ℕ) → driven d m s (with_feeds text) ≡ taken d m (driven_tokens d (driving m s) text)
text_driven d m s text = ap (λ t. driven d m s (with_feeds t)) (sym (all_stays text)) ∙ sym (feeds_driven d m s false text)

-- no start tag is among these

pub no_start_last : (ts : List HtmlToken) → NoStart ts → ends_with_start (map plain ts) ≡ false
no_start_last [] h = refl
no_start_last (StartTag n a c ∷ ts) h = absurd h
no_start_last (Character c ∷ []) h = refl
no_start_last (EndTag n ∷ []) h = refl
no_start_last (CommentToken c ∷ []) h = refl
no_start_last (DoctypeToken ∷ []) h = refl
no_start_last (Character c ∷ t ∷ ts) h = no_start_last (t ∷ ts) h
no_start_last (EndTag n ∷ t ∷ ts) h = no_start_last (t ∷ ts) h
no_start_last (CommentToken c ∷ t ∷ ts) h = no_start_last (t ∷ ts) h
no_start_last (DoctypeToken ∷ t ∷ ts) h = no_start_last (t ∷ ts) h

quiet_within : (n : ℕ) (s : State) (b : ℕ) (r : Rest) → rest_within n s b ≡ Some r → NoStart r.emits
quiet_within zero s b r e = elim (cases_Bool (is_at_rest s)) [
  | inl y ↦ (let is : Some (resting s) ≡ Some r = rw y at e in let k : resting s ≡ r = cc in subst (λ (x : Rest). NoStart x.emits) k tt)
  | inr n ↦ (let never : None ≡ Some r = rw n at e in cc)
]
quiet_within (suc n) s b r e = elim (cases_Bool (is_at_rest s)) [
  | inl y ↦ (let is : Some (resting s) ≡ Some r = rw y at e in let k : resting s ≡ r = cc in subst (λ (x : Rest). NoStart x.emits) k tt)
  | inr k ↦ elim (cases_Bool (step s b).again) [
    | inl y ↦ (
        let later : option_map (λ (q : Rest). record { state = q.state; emits = (step s b).emits ++ q.emits }) (rest_within n (step s b).next b) ≡ Some r = rw (k, y) at e in
        let inner = mapped_some (λ (q : Rest). record { state = q.state; emits = (step s b).emits ++ q.emits }) (rest_within n (step s b).next b) r later in
        subst (λ (x : Rest). NoStart x.emits) inner.2
        (both (step s b).emits (inner.0).emits (again_quiet (step s b) (fine s b) y) (quiet_within n (step s b).next b inner.0 inner.1)))
    | inr m ↦ (let never : None ≡ Some r = rw (k, m) at e in cc)
  ]
]

-- no `<![` is at rest, so what is foreign is no matter there

not_resting : (b : ℕ) (r : Rest) → rest_within 2 (T.markup_declaration_open []) b ≡ Some r → (b == 91) ≡ false
not_resting b r e = elim (cases_Bool (b == 91)) [
  | inl y ↦ (
      let z : rest_within 2 (T.markup_declaration_open []) 91 ≡ Some r = subst (λ c. rest_within 2 (T.markup_declaration_open []) c ≡ Some r) (eqb-true b 91 y) e in
      absurd (never r z))
  | inr n ↦ n
]
  where
    never : (r : Rest) → None ≡ Some r → ⊥
    never r e = cc

no_cdata : (s : State) (b : ℕ) (r : Rest) → rest_within 2 s b ≡ Some r → opens_cdata s b ≡ false
no_cdata (T.markup_declaration_open []) b r e = not_resting b r e
no_cdata _ b r e = refl

no_cdata_at_rest : (s : State) (b : ℕ) → is_at_rest s ≡ true → opens_cdata s b ≡ false
no_cdata_at_rest (T.markup_declaration_open []) b h = absurd (true≢false (sym h))
no_cdata_at_rest _ b h = refl

and_false : (a c : Bool) → c ≡ false → (a && c) ≡ false
and_false true c h = h
and_false false c h = refl

state_step : (f : Bool) (s : State) (b : ℕ) → opens_cdata s b ≡ false → driven_step f (in_state s) b ≡ of_step (whole_step s b)
state_step f s b h = rw (and_false f (opens_cdata s b) h) refl

-- a machine at rest goes on as that state does

pub record DrivenRests {M : Type 0} (d : Driver M) (v : Driving M) (b : ℕ) (rest : DrivenRest) : Type 0 where
  pub tokens_are : (drive d v b).emits ≡ rest.emits ++ (drive d (driving (taken d v.memory rest.emits) rest.state) b).emits
  pub next_is : next_driven d v b ≡ next_driven d (driving (taken d v.memory rest.emits) rest.state) b

map_both : (ts us : List HtmlToken) → map plain (ts ++ us) ≡ map plain ts ++ map plain us
map_both [] us = refl
map_both (t ∷ ts) us = ap (λ es. plain t ∷ es) (map_both ts us)

abbrev to : {M : Type 0} → M → DrivenState → ℕ → Driving M
to m s b = record { memory = m; state = s; after_return = b == 13 }

moved_plain : {M : Type 0} (d : Driver M) (m : M) (x : DrivenStep) (b : ℕ) → ends_with_start x.emits ≡ false → moved d m x b ≡ to m x.next b
moved_plain d m x b h = rw h refl

-- a step with what came before it, and the step alone
record Apart {M : Type 0} (d : Driver M) (m : M) (x : DrivenStep) (rest : List Emission) (y : DrivenStep) (b : ℕ) : Type 0 where
  tokens_are : x.emits ≡ rest ++ y.emits
  next_is : moved d (taken d m x.emits) x b ≡ moved d (taken d (taken d m rest) y.emits) y b

plain_apart : {M : Type 0} (d : Driver M) (m : M) (x y : Step) (ts : List HtmlToken) (b : ℕ) → NoStart ts → NoStart y.emits → x.emits ≡ ts ++ y.emits → x.next ≡ y.next →
    Apart d m (of_step x) (map plain ts) (of_step y) b
plain_apart d m x y ts b h k e f =
    let es : map plain x.emits ≡ map plain ts ++ map plain y.emits = ap (map plain) e ∙ map_both ts y.emits in
    let a : ends_with_start (map plain x.emits) ≡ false = ap (λ us. ends_with_start (map plain us)) e ∙ no_start_last (ts ++ y.emits) (both ts y.emits h k) in
    let c : ends_with_start (map plain y.emits) ≡ false = no_start_last y.emits k in
    record {
      tokens_are = es;
      next_is = moved_plain d (taken d m (map plain x.emits)) (of_step x) b a
          ∙ ap₂ (λ (n : _) (s : State). to n (entered s) b) (ap (taken d m) es ∙ taken_append d m (map plain ts) (map plain y.emits)) f
          ∙ sym (moved_plain d (taken d (taken d m (map plain ts)) (map plain y.emits)) (of_step y) b c);
    }

state_apart : {M : Type 0} (d : Driver M) (m : M) (f g : Bool) (s : State) (c b : ℕ) (r : Rest) → rest_within 2 s c ≡ Some r →
    Apart d m (driven_step f (in_state s) c) (map plain r.emits) (driven_step g (in_state r.state) c) b
state_apart d m f g s c b r e =
    let p = settles 2 s c r e in
    let whole = state_step f s c (no_cdata s c r e) in
    let alone = state_step g r.state c (no_cdata_at_rest r.state c p.rests) ∙ ap of_step (settled_at_once 3 (step r.state c) c (rest_at_once r.state c p.rests)) in
    let apart = plain_apart d m (whole_step s c) (step r.state c) r.emits b (quiet_within 2 s c r e) (rest_quiet r.state c p.rests) p.tokens_are p.next_is in
    subst (λ (x : DrivenStep). Apart d m x (map plain r.emits) (driven_step g (in_state r.state) c) b) (sym whole)
    (subst (λ (y : DrivenStep). Apart d m (of_step (whole_step s c)) (map plain r.emits) y b) (sym alone) apart)

rest_apart : {M : Type 0} (d : Driver M) (m : M) (f g : Bool) (s : DrivenState) (c b : ℕ) (rest : DrivenRest) → driven_rest s c ≡ Some rest →
    Apart d m (driven_step f s c) rest.emits (driven_step g rest.state c) b
rest_apart d m f g (in_state s) c b rest e =
    let inner = mapped_some of_rest (rest_within 2 s c) rest e in
    subst (λ (r : DrivenRest). Apart d m (driven_step f (in_state s) c) r.emits (driven_step g r.state c) b) inner.2 (state_apart d m f g s c b inner.0 inner.1)
rest_apart d m f g cdata_section c b rest e =
    let is : record { state = cdata_section; emits = [] } ≡ rest = cc in
    subst (λ (r : DrivenRest). Apart d m (driven_step f cdata_section c) r.emits (driven_step g r.state c) b) is (record { tokens_are = refl; next_is = refl })
rest_apart d m f g cdata_section_bracket c b rest e = elim (cases_Bool (c == 93)) [
  | inl y ↦ (let never : None ≡ Some rest = rw y at e in cc)
  | inr n ↦ (
      let now : Some (record { state = cdata_section; emits = characters (93 ∷ []) }) ≡ Some rest = rw n at e in
      let is : record { state = cdata_section; emits = characters (93 ∷ []) } ≡ rest = cc in
      subst (λ (r : DrivenRest). Apart d m (driven_step f cdata_section_bracket c) r.emits (driven_step g r.state c) b) is (rw n (record { tokens_are = refl; next_is = refl })))
]
rest_apart d m f g cdata_section_end c b rest e = elim (cases_Bool (c == 93)) [
  | inl y ↦ (let never : None ≡ Some rest = rw y at e in cc)
  | inr n ↦ elim (cases_Bool (c == 62)) [
    | inl z ↦ (let never : None ≡ Some rest = rw (n, z) at e in cc)
    | inr o ↦ (
        let now : Some (record { state = cdata_section; emits = characters (93 ∷ 93 ∷ []) }) ≡ Some rest = rw (n, o) at e in
        let is : record { state = cdata_section; emits = characters (93 ∷ 93 ∷ []) } ≡ rest = cc in
        subst (λ (r : DrivenRest). Apart d m (driven_step f cdata_section_end c) r.emits (driven_step g r.state c) b) is (rw (n, o) (record { tokens_are = refl; next_is = refl })))
  ]
]
rest_apart d m f g (cdata_start buffer) c b rest e = cc
rest_apart d m f g (in_doctype t) c b rest e = cc

pub rests : {M : Type 0} (d : Driver M) (v : Driving M) (b : ℕ) (rest : DrivenRest) → driven_rest_before v b ≡ Some rest → DrivenRests d v b rest
unfolding drive driven_rest_before
rests d v b rest e = elim (cases_Bool (passes v b)) [
  | inl y ↦ (let never : None ≡ Some rest = sym (ap (λ p. driven_rest_if p v.state b) y) ∙ e in cc)
  | inr n ↦ (
      let now : driven_rest v.state (feed b) ≡ Some rest = sym (ap (λ p. driven_rest_if p v.state b) n) ∙ e in
      let m = taken d v.memory rest.emits in
      let a = rest_apart d v.memory (d.is_foreign v.memory) (d.is_foreign m) v.state (feed b) b rest now in
      let is : drive d v b ≡ driven_step (d.is_foreign v.memory) v.state (feed b) = ap (λ p. byte_driven p (d.is_foreign v.memory) v.state b) n in
      record {
        tokens_are = ap (λ (x : DrivenStep). x.emits) is ∙ a.tokens_are;
        next_is = ap (λ (x : DrivenStep). moved d (taken d v.memory x.emits) x b) is ∙ a.next_is;
      })
]

pub tokens_rest : {M : Type 0} (d : Driver M) (v : Driving M) (b : ℕ) (text : List ℕ) (rest : DrivenRest) → driven_rest_before v b ≡ Some rest →
    driven_tokens d v (b ∷ text) ≡ rest.emits ++ driven_tokens d (driving (taken d v.memory rest.emits) rest.state) (b ∷ text)
tokens_rest d v b text rest e =
    let p = rests d v b rest e in
    let at = driving (taken d v.memory rest.emits) rest.state in
    ap₂ (λ (es : List Emission) (n : Driving _). es ++ driven_tokens d n text) p.tokens_are p.next_is
    ∙ append_assoc rest.emits (drive d at b).emits (driven_tokens d (next_driven d at b) text)
