-- What a byte does in a piece, where something is to hold of each stage and of what the piece emits.
use Rattle.std.proofs.Common.{◌≡◌, ℕ, zero, suc, true, false, List, [], ◌++◌, Some, refl, ap, ap₂, sym, subst, ◌∙◌, inl, inr, append-nil, append_assoc}
use Rattle.std.specs.Prelude.{Bool, option_map, if◌then◌else◌}
use Rattle.std.proofs.lemmas.Bool.{cases_Bool}
use Rattle.tl_html_spec.specs.HtmlTokenizer.{HtmlToken, State, Step, settled, step}
use Rattle.tl_html_spec.specs.Reader.{emitting_before, is_at_rest, rest_within}
use Rattle.tl_html_spec.proofs.Resting.{settled_at_once}
use Rattle.tl_html_tokens.specs.Modes.{state_of}
use Rattle.tl_html_tokens.specs.declared.mode.Mode.{Mode}
use Rattle.tl_html_tokens.specs.declared.stage.TokenKind.{TokenKind}
use Rattle.tl_html_tokens.specs.declared.stage.Stage.{Stage}
use Rattle.tl_html_tokens.specs.declared.stage.Turn.{Turn}
use Rattle.tl_html_tokens.specs.declared.stage.Turn.TheVariants.{Goes, Ends}
use Rattle.tl_html_tokens.proofs.Steps.{rests}
use Rattle.tl_html_tokens.proofs.Turns.{rest_here}

module _ (b : ℕ) (P : Stage → State → List HtmlToken → Type 0) (K : TokenKind → Mode → List HtmlToken → Type 0) where
  abbrev pub Comes : List HtmlToken → State → Turn → Type 0
  Comes ts s (Goes c) = P c s ts
  Comes ts s (Ends k m) = ⊥

  abbrev pub Stops : List HtmlToken → State → Turn → Type 0
  Stops ts s (Goes c) = ⊥
  Stops ts s (Ends k m) = (s ≡ state_of m) × K k m ts

  -- a step, with so many reconsumes at most, does what the turn says
  abbrev pub Met : ℕ → List HtmlToken → Step → Turn → Type 0
  Met zero ts x o = (x.again ≡ false) × Comes (ts ++ x.emits) x.next o
  Met (suc n) ts x o = elim x.again as (λ _. Type 0) [
    | false ↦ Comes (ts ++ x.emits) x.next o
    | true ↦ elim (is_at_rest x.next) as (λ _. Type 0) [ true ↦ Stops (ts ++ x.emits) x.next o | false ↦ Met n (ts ++ x.emits) (step x.next b) o ]
  ]

  pub pick : (n : ℕ) (ts : List HtmlToken) (v : Bool) (x y : Step) (o p : Turn) → (v ≡ true → Met n ts x o) → (v ≡ false → Met n ts y p) →
      Met n ts (if v then x else y) (if v then o else p)
  pick n ts true x y o p f g = f refl
  pick n ts false x y o p f g = g refl

  pub stay : (n : ℕ) (ts es : List HtmlToken) (s : State) (c : Stage) → P c s (ts ++ es) → Met n ts (record { next = s; emits = es; again = false }) (Goes c)
  stay zero ts es s c h = (refl, h)
  stay (suc n) ts es s c h = h

  pub to : (n : ℕ) (s : State) (c : Stage) → P c s [] → Met n [] (record { next = s; emits = []; again = false }) (Goes c)
  to n s c h = stay n [] [] s c h

  pub stop : (n : ℕ) (ts es : List HtmlToken) (s : State) (k : TokenKind) (m : Mode) → is_at_rest s ≡ true → s ≡ state_of m → K k m (ts ++ es) →
      Met (suc n) ts (record { next = s; emits = es; again = true }) (Ends k m)
  stop n ts es s k m r e h = rw (r, Met) (e, h)

  -- and so does the machine
  abbrev pub Turned : ℕ → List HtmlToken → State → Turn → Type 0
  Turned n ts s (Goes c) = P c (settled (suc n) (step s b) b).next (ts ++ (settled (suc n) (step s b) b).emits)
  Turned n ts s (Ends k m) = (es : List HtmlToken) × (rest_within n s b ≡ Some (record { state = state_of m; emits = es })) × K k m (ts ++ es)

  rest_again : (n : ℕ) (s : State) → is_at_rest s ≡ false → (step s b).again ≡ true →
      rest_within (suc n) s b ≡ option_map (emitting_before (step s b).emits) (rest_within n (step s b).next b)
  rest_again n s f g = rw (f, g) refl

  settled_again : (n : ℕ) (x : Step) → x.again ≡ true → settled (suc n) x b ≡ (record (settled n (step x.next b) b) { emits = x.emits ++ (settled n (step x.next b) b).emits })
  settled_again n x h = rw h refl

  at_once : (n : ℕ) (ts : List HtmlToken) (s : State) (c : Stage) → (step s b).again ≡ false → P c (step s b).next (ts ++ (step s b).emits) → Turned n ts s (Goes c)
  at_once n ts s c g h = subst (λ (x : Step). P c x.next (ts ++ x.emits)) (sym (settled_at_once (suc n) (step s b) b g)) h

  later : (n : ℕ) (ts : List HtmlToken) (s : State) (o : Turn) → is_at_rest s ≡ false → (step s b).again ≡ true →
      Turned n (ts ++ (step s b).emits) (step s b).next o → Turned (suc n) ts s o
  later n ts s (Goes c) f g h =
      let es : List HtmlToken = (step s b).emits in
      let more : Step = settled (suc n) (step (step s b).next b) b in
      subst (λ (x : Step). P c x.next (ts ++ x.emits)) (sym (settled_again (suc n) (step s b) g))
      (subst (λ us. P c more.next us) (append_assoc ts es more.emits) h)
  later n ts s (Ends k m) f g (us, e, h) =
      let es : List HtmlToken = (step s b).emits in
      (es ++ us, rest_again n s f g ∙ ap (option_map (emitting_before es)) e, subst (K k m) (append_assoc ts es us) h)

  stops : (n : ℕ) (ts : List HtmlToken) (s : State) (k : TokenKind) (m : Mode) → is_at_rest s ≡ false → (step s b).again ≡ true →
      (step s b).next ≡ state_of m → K k m (ts ++ (step s b).emits) → Turned (suc n) ts s (Ends k m)
  stops n ts s k m f g e h =
      let es : List HtmlToken = (step s b).emits in
      let r : is_at_rest (step s b).next ≡ true = ap is_at_rest e ∙ rests m in (
        es,
        rest_again n s f g ∙ ap (option_map (emitting_before es)) (rest_here b [] n (step s b).next r)
            ∙ ap₂ (λ (x : State) us. Some (record { state = x; emits = us })) e (append-nil es),
        h,
      )

  pub turned : (n : ℕ) (ts : List HtmlToken) (s : State) (o : Turn) → is_at_rest s ≡ false → Met n ts (step s b) o → Turned n ts s o
  turned zero ts s (Goes c) f h = at_once zero ts s c h.0 h.1
  turned zero ts s (Ends k m) f h = absurd h.1
  turned (suc n) ts s (Goes c) f h = elim (cases_Bool (step s b).again) [
    | inr g ↦ (let here : P c (step s b).next (ts ++ (step s b).emits) = rw (g, Met) at h in at_once (suc n) ts s c g here)
    | inl g ↦ elim (cases_Bool (is_at_rest (step s b).next)) [
      | inl r ↦ (let never : ⊥ = rw (g, r, Met) at h in absurd never)
      | inr r ↦ (let more : Met n (ts ++ (step s b).emits) (step (step s b).next b) (Goes c) = rw (g, r, Met) at h in
          later n ts s (Goes c) f g (turned n (ts ++ (step s b).emits) (step s b).next (Goes c) r more))
    ]
  ]
  turned (suc n) ts s (Ends k m) f h = elim (cases_Bool (step s b).again) [
    | inr g ↦ (let never : ⊥ = rw (g, Met) at h in absurd never)
    | inl g ↦ elim (cases_Bool (is_at_rest (step s b).next)) [
      | inl r ↦ (let here : ((step s b).next ≡ state_of m) × K k m (ts ++ (step s b).emits) = rw (g, r, Met) at h in stops n ts s k m f g here.0 here.1)
      | inr r ↦ (let more : Met n (ts ++ (step s b).emits) (step (step s b).next b) (Ends k m) = rw (g, r, Met) at h in
          later n ts s (Ends k m) f g (turned n (ts ++ (step s b).emits) (step s b).next (Ends k m) r more))
    ]
  ]
