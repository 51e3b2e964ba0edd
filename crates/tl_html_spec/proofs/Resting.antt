-- Before a byte that finds the machine at rest, what is pending has been emitted, and the rest reads as from that state.
use Rattle.std.proofs.Common.{◌≡◌, ℕ, zero, suc, Bool, true, false, ◌==◌, List, ◌∷◌, ◌++◌, Option, Some, None, refl, ap, ap₂, sym, subst, ◌∙◌, inl, inr, append_assoc, if◌then◌else◌, true≢false}
use Rattle.std.specs.Prelude.{option_map}
use Rattle.std.proofs.lemmas.Bool.{cases_Bool}
use Rattle.tl_html_spec.specs.HtmlTokenizer.{HtmlToken, Raw, State, Step, data_state, in_raw, plaintext, raw, rawtext, rcdata, script_data, script_data_escaped, script_data_escaped_dash, script_data_escaped_dash_dash, settled, step}
use Rattle.tl_html_spec.specs.Reader.{Reader, Rest, after, at, byte_step, emitted, emitting_before, feed, is_at_rest, is_passed, next, read, rest_before, rest_if, rest_within, resting, tokens_of}

-- a state of rest reads each byte at once

pub neither_again : (c : Bool) (x y : Step) → x.again ≡ false → y.again ≡ false → (if c then x else y).again ≡ false
neither_again true x y h k = h
neither_again false x y h k = k

raw_at_once : (r : Raw) (b : ℕ) → (in_raw r b).again ≡ false
raw_at_once (rcdata name) b = neither_again (b == 38) _ _ refl (neither_again (b == 60) _ _ refl refl)
raw_at_once (rawtext name) b = neither_again (b == 60) _ _ refl refl
raw_at_once script_data b = neither_again (b == 60) _ _ refl refl
raw_at_once script_data_escaped b = neither_again (b == 45) _ _ refl (neither_again (b == 60) _ _ refl refl)
raw_at_once script_data_escaped_dash b = neither_again (b == 45) _ _ refl (neither_again (b == 60) _ _ refl refl)
raw_at_once script_data_escaped_dash_dash b =
    neither_again (b == 45) _ _ refl (neither_again (b == 60) _ _ refl (neither_again (b == 62) _ _ refl refl))

pub rest_at_once : (s : State) (b : ℕ) → is_at_rest s ≡ true → (step s b).again ≡ false
rest_at_once data_state b h = neither_again (b == 38) _ _ refl (neither_again (b == 60) _ _ refl refl)
rest_at_once (raw r) b h = raw_at_once r b
rest_at_once plaintext b h = refl
rest_at_once _ b h = absurd (true≢false (sym h))

pub settled_at_once : (n : ℕ) (x : Step) (b : ℕ) → x.again ≡ false → settled n x b ≡ x
settled_at_once zero x b h = refl
settled_at_once (suc n) x b h = rw h refl

-- a step that passes a state of rest is what is emitted before it, and the step from there
pub record Passes (x : Step) (b : ℕ) (rest : Rest) : Type 0 where
  pub rests : is_at_rest rest.state ≡ true
  pub tokens_are : x.emits ≡ rest.emits ++ (step rest.state b).emits
  pub next_is : x.next ≡ (step rest.state b).next

passes_here : (n : ℕ) (s : State) (b : ℕ) (rest : Rest) → is_at_rest s ≡ true → Some (resting s) ≡ Some rest → Passes (settled n (step s b) b) b rest
passes_here n s b rest h e =
    let here : resting s ≡ rest = cc in
    let once : settled n (step s b) b ≡ step s b = settled_at_once n (step s b) b (rest_at_once s b h) in
    subst (Passes (settled n (step s b) b) b) here (record { rests = h; tokens_are = ap (λ (x : Step). x.emits) once; next_is = ap (λ (x : Step). x.next) once })

pub mapped_some : {A B : Type 0} (f : A → B) (o : Option A) (y : B) → option_map f o ≡ Some y → (x : A) × (o ≡ Some x) × (f x ≡ y)
mapped_some f None y h = cc
mapped_some f (Some x) y h = (x, refl, cc)

settled_again : (n : ℕ) (x : Step) (b : ℕ) → x.again ≡ true → settled (suc n) x b ≡ (record (settled n (step x.next b) b) { emits = x.emits ++ (settled n (step x.next b) b).emits })
settled_again n x b h = rw h refl

pub settles : (n : ℕ) (s : State) (b : ℕ) (rest : Rest) → rest_within n s b ≡ Some rest → Passes (settled (suc n) (step s b) b) b rest
settles zero s b rest e = elim (cases_Bool (is_at_rest s)) [
  | inl y ↦ passes_here 1 s b rest y (rw y at e)
  | inr n ↦ (let never : None ≡ Some rest = rw n at e in cc)
]
settles (suc n) s b rest e = elim (cases_Bool (is_at_rest s)) [
  | inl y ↦ passes_here (suc (suc n)) s b rest y (rw y at e)
  | inr k ↦ elim (cases_Bool (step s b).again) [
    | inl y ↦ (
        let later : option_map (emitting_before (step s b).emits) (rest_within n (step s b).next b) ≡ Some rest = rw (k, y) at e in
        let inner = mapped_some (emitting_before (step s b).emits) (rest_within n (step s b).next b) rest later in
        let more = settles n (step s b).next b inner.0 inner.1 in
        let whole = settled_again (suc n) (step s b) b y in
        subst (Passes (settled (suc (suc n)) (step s b) b) b) inner.2
        (record {
          rests = more.rests;
          tokens_are = ap (λ (x : Step). x.emits) whole ∙ ap (λ ts. (step s b).emits ++ ts) more.tokens_are
              ∙ sym (append_assoc (step s b).emits (inner.0).emits (step (inner.0).state b).emits);
          next_is = ap (λ (x : Step). x.next) whole ∙ more.next_is;
        }))
    | inr m ↦ (let never : None ≡ Some rest = rw (k, m) at e in cc)
  ]
]

-- a reader at rest goes on as that state does

record RestsBefore (r : Reader) (b : ℕ) (rest : Rest) : Type 0 where
  tokens_are : (read r b).emits ≡ rest.emits ++ (read (at rest.state) b).emits
  next_is : next r b ≡ next (at rest.state) b

rests_if : (passed : Bool) (s : State) (b : ℕ) (rest : Rest) → rest_if passed s b ≡ Some rest →
    ((byte_step passed s b).emits ≡ rest.emits ++ (byte_step false rest.state b).emits) × ((byte_step passed s b).next ≡ (byte_step false rest.state b).next)
rests_if true s b rest e = cc
rests_if false s b rest e =
    let p = settles 2 s (feed b) rest e in
    let once = settled_at_once 3 (step rest.state (feed b)) (feed b) (rest_at_once rest.state (feed b) p.rests) in
    (p.tokens_are ∙ ap (λ (x : Step). rest.emits ++ x.emits) (sym once), p.next_is ∙ ap (λ (x : Step). x.next) (sym once))

rests : (r : Reader) (b : ℕ) (rest : Rest) → rest_before r b ≡ Some rest → RestsBefore r b rest
unfolding rest_before read
rests r b rest e =
    let p = rests_if (is_passed r b) r.state b rest e in
    record { tokens_are = p.0; next_is = ap (λ (s : State). record { state = s; after_return = b == 13 }) p.1 }

pub tokens_rest : (r : Reader) (b : ℕ) (text : List ℕ) (rest : Rest) → rest_before r b ≡ Some rest →
    tokens_of r (b ∷ text) ≡ rest.emits ++ tokens_of (at rest.state) (b ∷ text)
tokens_rest r b text rest e =
    let p = rests r b rest e in
    ap₂ (λ (es : List HtmlToken) (n : Reader). es ++ tokens_of n text) p.tokens_are p.next_is
    ∙ append_assoc rest.emits (read (at rest.state) b).emits (tokens_of (next (at rest.state) b) text)

pub emitted_rest : (r : Reader) (b : ℕ) (text : List ℕ) (rest : Rest) → rest_before r b ≡ Some rest →
    emitted r (b ∷ text) ≡ rest.emits ++ emitted (at rest.state) (b ∷ text)
emitted_rest r b text rest e =
    let p = rests r b rest e in
    ap₂ (λ (es : List HtmlToken) (n : Reader). es ++ emitted n text) p.tokens_are p.next_is
    ∙ append_assoc rest.emits (read (at rest.state) b).emits (emitted (next (at rest.state) b) text)

pub after_rest : (r : Reader) (b : ℕ) (text : List ℕ) (rest : Rest) → rest_before r b ≡ Some rest →
    after r (b ∷ text) ≡ after (at rest.state) (b ∷ text)
after_rest r b text rest e = ap (λ (n : Reader). after n text) (rests r b rest e).next_is

-- where the reader is in a state of rest and no line feed would be passed over, it is at rest before each byte
pub strict_rest : (s : State) (b : ℕ) → is_at_rest s ≡ true → rest_before (at s) b ≡ Some (resting s)
unfolding rest_before
strict_rest s b h = rw h refl
